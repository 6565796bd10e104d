-- The code's table beside the definition's: the row of a tag, its shape, and the bytes that a walk along it writes. Assumes nothing.
use mathlib.Core.Bool.{Bool, ◌||◌}
use mathlib.Core.List.{List, [], ◌∷◌, ◌++◌}
use mathlib.Core.Logic.{⊎_elim}
use mathlib.Core.Option.{Option, none, some}
use mathlib.Core.Path.{◌≡◌, refl, sym, ap, ◌∙◌}
use Prim.Native.Nat.{ℕ, zero, suc, ◌+◌, ◌≤◌, ◌<◌}
use native.Mathlib.Nat.{eq-or-lt_of_le}
use native.Mathlib.Omega.{arith}
use borrow.Author.Tests.{ltb-true, ne_eqb}
use lib.Dec.{eqb, ltb}
use lib.ListN.{length, take, length-append}
use Rattle.definition.specs.Basics.{lookup, every}
use Rattle.definition.specs.Bytes.{be2}
use Rattle.definition.specs.Shapes.{Field, text, shapes, is_wide, write_fields}
use Rattle.definition.specs.Run.{entry_bytes}
use Rattle.std.specs.Option.{option_eq}
use Rattle.facts.proofs.Lists.{order}
use Rattle.facts.proofs.Tables.{looked_up, lookup-every}
use Rattle.std.specs.Prelude as code
use Rattle.std.specs.Prelude.{None, Some}
use Rattle.raw_const.specs.Entries.{row_of, field_bytes, second_index, fields_of, listed, references, entry_of}
use Rattle.raw_const.specs.declared.Field.{Field as Part}
use Rattle.raw_const.specs.declared.Field.TheVariants.{Text as TextPart, Bits as BitsPart, Kind as KindPart, Index as IndexPart, Bootstrap as BootstrapPart}
use Rattle.raw_const.specs.contracts.ShapePartialEq.TheImpl.{eq-value}
use Rattle.raw_const.proofs.Shaped.{shape_for, shape_back}
use Rattle.raw_const.specs.declared.Shape.{Shape}
use Rattle.raw_const.specs.declared.Shape.TheVariants.{Text, Bits, One, Two, Dynamic, KindOne}

-- ---- the shape of a tag

-- a number below n is one of them
abbrev Each : Type 0 → ℕ → ℕ → Type 0
Each C t zero = Unit {0}
Each C t (suc n) = Each C t n × (t ≡ n → C)

one_of : {C : Type 0} (t n : ℕ) → t < n → Each C t n → C
one_of t zero low h = absurd (omega arith)
one_of t (suc n) low h =
    ⊎_elim
    (λ (e : suc t ≡ suc n). h.1 (omega arith))
    (λ (less : suc t < suc n). one_of t n (omega arith) h.0)
    (eq-or-lt_of_le low)

-- no tag from 21 on has a shape
no_shape : (tag : ℕ) → 21 ≤ tag → lookup tag shapes ≡ none
unfolding shapes every
no_shape tag high = go (lookup tag shapes) refl
  where
    go : (o : Option (List Field)) → lookup tag shapes ≡ o → lookup tag shapes ≡ none
    go none e = e
    go (some fields) e = absurd (omega (arith, ltb-true tag 21 (lookup-every (λ r. ltb r.0 21) shapes refl tag fields e)))

-- the test that two shapes are the same, as derived
abbrev same : Shape → Shape → Bool
same = eq-value.it

-- the shape of a tag
shape_is : (tag : ℕ) (s : code.Option Shape) → fields_of s ≡ lookup tag shapes → s ≡ shape_for (listed (lookup tag shapes))
shape_is tag s is = sym (shape_back s) ∙ ap (λ o. shape_for (listed o)) is

-- the numbers of eight bytes are the wide ones
pub row_wide : (tag : ℕ) (s : code.Option Shape) → fields_of s ≡ lookup tag shapes → option_eq same s (Some (Bits 8)) ≡ is_wide tag
unfolding lookup shapes is_wide
row_wide tag s is =
    ap (λ s. option_eq same s (Some (Bits 8))) (shape_is tag s is)
    ∙ ⊎_elim
    (λ (low : tag < 21). one_of tag 21 low (((((((((((((((((((((tt, λ e. rw e), λ e. rw e), λ e. rw e), λ e. rw e), λ e. rw e), λ e. rw e), λ e. rw e), λ e. rw e), λ e. rw e), λ e. rw e), λ e. rw e), λ e. rw e), λ e. rw e), λ e. rw e), λ e. rw e), λ e. rw e), λ e. rw e), λ e. rw e), λ e. rw e), λ e. rw e), λ e. rw e))
    (λ (high : 21 ≤ tag). rw (no_shape tag high, ne_eqb tag 5 (λ e. omega arith), ne_eqb tag 6 (λ e. omega arith)))
    (order tag 21)

-- which tags have a text, a kind byte and the index of a bootstrap
pub row_text : (tag : ℕ) (s : code.Option Shape) → fields_of s ≡ lookup tag shapes → option_eq same s (Some Text) ≡ eqb tag 1
unfolding lookup shapes
row_text tag s is =
    ap (λ s. option_eq same s (Some Text)) (shape_is tag s is)
    ∙ ⊎_elim
    (λ (low : tag < 21). one_of tag 21 low (((((((((((((((((((((tt, λ e. rw e), λ e. rw e), λ e. rw e), λ e. rw e), λ e. rw e), λ e. rw e), λ e. rw e), λ e. rw e), λ e. rw e), λ e. rw e), λ e. rw e), λ e. rw e), λ e. rw e), λ e. rw e), λ e. rw e), λ e. rw e), λ e. rw e), λ e. rw e), λ e. rw e), λ e. rw e), λ e. rw e))
    (λ (high : 21 ≤ tag). rw (no_shape tag high, ne_eqb tag 1 (λ e. omega arith)))
    (order tag 21)

pub row_handle : (tag : ℕ) (s : code.Option Shape) → fields_of s ≡ lookup tag shapes → option_eq same s (Some KindOne) ≡ eqb tag 15
unfolding lookup shapes
row_handle tag s is =
    ap (λ s. option_eq same s (Some KindOne)) (shape_is tag s is)
    ∙ ⊎_elim
    (λ (low : tag < 21). one_of tag 21 low (((((((((((((((((((((tt, λ e. rw e), λ e. rw e), λ e. rw e), λ e. rw e), λ e. rw e), λ e. rw e), λ e. rw e), λ e. rw e), λ e. rw e), λ e. rw e), λ e. rw e), λ e. rw e), λ e. rw e), λ e. rw e), λ e. rw e), λ e. rw e), λ e. rw e), λ e. rw e), λ e. rw e), λ e. rw e), λ e. rw e))
    (λ (high : 21 ≤ tag). rw (no_shape tag high, ne_eqb tag 15 (λ e. omega arith)))
    (order tag 21)

pub row_dynamic : (tag : ℕ) (s : code.Option Shape) → fields_of s ≡ lookup tag shapes → option_eq same s (Some Dynamic) ≡ (eqb tag 17 || eqb tag 18)
unfolding lookup shapes
row_dynamic tag s is =
    ap (λ s. option_eq same s (Some Dynamic)) (shape_is tag s is)
    ∙ ⊎_elim
    (λ (low : tag < 21). one_of tag 21 low (((((((((((((((((((((tt, λ e. rw e), λ e. rw e), λ e. rw e), λ e. rw e), λ e. rw e), λ e. rw e), λ e. rw e), λ e. rw e), λ e. rw e), λ e. rw e), λ e. rw e), λ e. rw e), λ e. rw e), λ e. rw e), λ e. rw e), λ e. rw e), λ e. rw e), λ e. rw e), λ e. rw e), λ e. rw e), λ e. rw e))
    (λ (high : 21 ≤ tag). rw (no_shape tag high, ne_eqb tag 17 (λ e. omega arith), ne_eqb tag 18 (λ e. omega arith)))
    (order tag 21)

-- ---- the row of a tag

abbrev pub Row : Type 0
Row = code.Option (Part × code.Option Part)

-- ---- its shape

-- the shape that a row makes
abbrev pub shape_in : Part → code.Option Part → Shape
shape_in TextPart second = Text
shape_in (BitsPart size) second = Bits size
shape_in KindPart second = KindOne
shape_in IndexPart None = One
shape_in IndexPart (Some field) = Two
shape_in BootstrapPart second = Dynamic

abbrev pub shape_found : Row → code.Option Shape
shape_found None = None
shape_found (Some row) = Some (shape_in row.0 row.1)

abbrev behind_of : Row → code.Option Part
behind_of None = None
behind_of (Some row) = row.1

module _ (tag : ℕ) (row : Row) (is : row ≡ row_of (lookup tag shapes)) where
  pub told : fields_of (shape_found row) ≡ lookup tag shapes
  unfolding shapes lookup
  told =
      ap (λ r. fields_of (shape_found r)) is
      ∙ looked_up (λ o. fields_of (shape_found (row_of o)) ≡ o) tag shapes
      (refl, (refl, (refl, (refl, (refl, (refl, (refl, (refl, (refl, (refl, (refl, (refl, (refl, (refl, (refl, (refl, (refl, refl)))))))))))))))))

  pub by_first : (first : Part) (second : code.Option Part) → row ≡ Some (first, second) → fields_of (Some (shape_in first second)) ≡ lookup tag shapes
  by_first first second e = ap (λ r. fields_of (shape_found r)) (sym e) ∙ told

  pub by_one : row ≡ Some (IndexPart, None) → fields_of (Some One) ≡ lookup tag shapes
  by_one e = by_first IndexPart None e

  pub by_two : (second : Part) → row ≡ Some (IndexPart, Some second) → fields_of (Some Two) ≡ lookup tag shapes
  by_two second e = by_first IndexPart (Some second) e

  pub by_none : row ≡ None → fields_of None ≡ lookup tag shapes
  by_none e = ap (λ r. fields_of (shape_found r)) (sym e) ∙ told

  -- only a text's row begins with a text, and none has one behind
  pub text_first : (first : Part) (second : code.Option Part) → row ≡ Some (first, second) → first ≡ TextPart → lookup tag shapes ≡ some (text ∷ [])
  text_first first second e t = sym (rw t at (by_first first second e))

  pub text_second : (first second : Part) → row ≡ Some (first, Some second) → second ≡ TextPart → ⊥
  unfolding shapes
  text_second first second e t =
      looked_up (λ o. behind_of (row_of o) ≡ Some TextPart → ⊥) tag shapes
      (λ e. cc, (λ e. cc, (λ e. cc, (λ e. cc, (λ e. cc, (λ e. cc, (λ e. cc, (λ e. cc, (λ e. cc, (λ e. cc, (λ e. cc, (λ e. cc, (λ e. cc, (λ e. cc, (λ e. cc, (λ e. cc, (λ e. cc, λ e. cc)))))))))))))))))
      (ap behind_of (sym is ∙ e) ∙ rw t)

-- ---- the bytes of a field, and of a walk along a row

module _ (field : Part) (kind : ℕ) (literal : List ℕ) (index : ℕ) where
  pub field_text : field ≡ TextPart → be2 (length literal) ++ literal ≡ field_bytes field kind literal index
  field_text e = ap (λ f. field_bytes f kind literal index) (sym e)

  pub field_32 : field ≡ BitsPart 4 → literal ≡ field_bytes field kind literal index
  field_32 e = ap (λ f. field_bytes f kind literal index) (sym e)

  pub field_64 : field ≡ BitsPart 8 → literal ≡ field_bytes field kind literal index
  field_64 e = ap (λ f. field_bytes f kind literal index) (sym e)

  pub field_kind : field ≡ KindPart → kind ∷ [] ≡ field_bytes field kind literal index
  field_kind e = ap (λ f. field_bytes f kind literal index) (sym e)

  pub field_index : field ≡ IndexPart → be2 index ≡ field_bytes field kind literal index
  field_index e = ap (λ f. field_bytes f kind literal index) (sym e)

  pub field_bootstrap : field ≡ BootstrapPart → be2 index ≡ field_bytes field kind literal index
  field_bootstrap e = ap (λ f. field_bytes f kind literal index) (sym e)

-- the bytes of a field that may not be there
abbrev pub rest_bytes : code.Option Part → ℕ → List ℕ → ℕ → List ℕ
rest_bytes None kind literal index = []
rest_bytes (Some field) kind literal index = field_bytes field kind literal index

module _ (tag kind : ℕ) (literal : List ℕ) (first second : ℕ) where
  abbrev walk : Row → List ℕ
  walk None = []
  walk (Some row) = (tag ∷ []) ++ field_bytes row.0 kind literal first ++ rest_bytes row.1 kind literal (second_index row.0 first second)

  abbrev bytes_of : Option (List Field) → List ℕ
  bytes_of o =
      let kids = take (references (listed o)) (first ∷ second ∷ []) in
      elim o [ none ↦ [] | some fields ↦ tag ∷ write_fields fields (record { tag = tag; literal = literal; byte = kind; kids = kids }) kids ]

  walked : entry_bytes (entry_of tag kind literal first second) ≡ walk (row_of (lookup tag shapes))
  unfolding entry_bytes entry_of shapes lookup write_fields be2
  walked = looked_up (λ o. bytes_of o ≡ walk (row_of o)) tag shapes (refl, (refl, (refl, (refl, (refl, (refl, (refl, (refl, (refl, (refl, (refl, (refl, (refl, (refl, (refl, (refl, (refl, refl)))))))))))))))))

  module _ (row : Row) (is : row ≡ row_of (lookup tag shapes)) where
    pub no_bytes : row ≡ None → [] ≡ entry_bytes (entry_of tag kind literal first second)
    no_bytes e = sym (walked ∙ ap walk (sym is ∙ e))

    module _ (field : Part) (behind : code.Option Part) (e : row ≡ Some (field, behind)) where
      pub all_bytes :
          (tag ∷ []) ++ field_bytes field kind literal first ++ rest_bytes behind kind literal (second_index field first second)
          ≡ entry_bytes (entry_of tag kind literal first second)
      all_bytes = sym (walked ∙ ap walk (sym is ∙ e))

      pub all_length :
          1 + length (field_bytes field kind literal first) + length (rest_bytes behind kind literal (second_index field first second))
          ≡ length (entry_bytes (entry_of tag kind literal first second))
      all_length =
          let n = length-append ((tag ∷ []) ++ field_bytes field kind literal first) (rest_bytes behind kind literal (second_index field first second)) in
          let m = length-append (tag ∷ []) (field_bytes field kind literal first) in
          omega (arith, ap length all_bytes)
