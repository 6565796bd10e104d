-- The two walks over a text, which count its units and write them, and the three ends of reading one. Assumes nothing.
use mathlib.Core.Bool.{true, false}
use mathlib.Core.List.{List, [], ◌∷◌, ◌++◌, append-nil}
use mathlib.Core.Logic.{⊎_elim}
use mathlib.Core.Option.{Option, none, some}
use mathlib.Core.Path.{◌≡◌, refl, sym, ap, subst, ◌∙◌}
use Prim.Native.Nat.{ℕ, suc, ◌+◌, ◌-◌, ◌<◌, ◌≤◌}
use native.Mathlib.Nat.{eq-or-lt_of_le}
use native.Mathlib.Numerals.{add-one}
use native.Mathlib.Omega.{arith}
use borrow.Author.Tests.{le-leb, lt-leb}
use lib.Dec.{leb}
use lib.ListN.{length, get_or, set, take, drop, length-drop, take-append-drop}
use lib.Seq.{take-suc, drop-cons, drop-drop, drop-length, set_at, append_snoc, length-take-le, take_all}
use Rattle.definition.specs.Basics.{good, bad}
use Rattle.definition.specs.Run.{overwrite}
use Rattle.definition.specs.Texts.{unit, units_of, is_text, read_text}
use Rattle.facts.proofs.Lists.{none≢some, some_inj, true≢false}
use Rattle.facts.proofs.Results.{passes, refuses}
use Rattle.laws.proofs.Texts.TextsBack.{read_by}
use Rattle.texts.specs.Forms.{Begins, count_of, or_none, held}
use Rattle.laws.proofs.Texts.UnitsRead.{consed, units-end, units-next, units-none}

-- A FORM AT A PLACE OF THE TEXT

-- the bytes from a place on, as the code lends them
abbrev pub part : List ℕ → ℕ → List ℕ
part text at = take (length text - at) (drop at text)

module _ (text : List ℕ) (at : ℕ) where
  part_is : part text at ≡ drop at text
  part_is = let l = length-drop at text in take_all (length text - at) (drop at text) (omega arith)

  pub part_some : at < length text → 0 < length (part text at)
  part_some inside = let l = ap length part_is ∙ length-drop at text in omega arith

  -- no form: the bytes are no text
  form-none : at < length text → unit (part text at) ≡ none → units_of (drop at text) ≡ none
  form-none inside e =
      let l = length-drop at text in
      units-none (drop at text) (omega arith) (ap unit (sym part_is) ∙ e)

  module _ (u size : ℕ) (b : Begins (part text at) u size) where
    pub form-inside : at ≤ length text → at + size ≤ length text
    form-inside inside = let h = b.inside in let l = ap length part_is ∙ length-drop at text in omega arith

    -- its unit, and the units behind it
    form-next : units_of (drop at text) ≡ consed u (units_of (drop (at + size) text))
    form-next =
        units-next (drop at text) u (drop size (drop at text)) (subst (λ l. unit l ≡ some (u, drop size l)) part_is b.reads)
        ∙ ap (λ l. consed u (units_of l)) (drop-drop size at text)

-- COUNTING

-- so many units, and those that are still to be read
abbrev pub counted : ℕ → Option (List ℕ) → Option ℕ
counted n none = none
counted n (some l) = some (n + length l)

pub count_start : (text : List ℕ) → count_of (units_of text) ≡ counted 0 (units_of text)
unfolding count_of
count_start text = go (units_of text)
  where
    go : (o : Option (List ℕ)) → count_of o ≡ counted 0 o
    go none = refl
    go (some l) = ap some (omega arith)

pub count_next :
    (text : List ℕ) (at u size n : ℕ) → Begins (part text at) u size →
    counted n (units_of (drop at text)) ≡ counted (n + 1) (units_of (drop (at + size) text))
count_next text at u size n b = ap (counted n) (form-next text at u size b) ∙ go (units_of (drop (at + size) text))
  where
    go : (o : Option (List ℕ)) → counted n (consed u o) ≡ counted (n + 1) o
    go none = refl
    go (some l) = ap some (omega arith)

pub count_none : (text : List ℕ) (at n : ℕ) → at < length text → unit (part text at) ≡ none → counted n (units_of (drop at text)) ≡ none
count_none text at n inside e = ap (counted n) (form-none text at inside e)

pub count_end : (text : List ℕ) (at n : ℕ) → at ≡ length text → counted n (units_of (drop at text)) ≡ some n
count_end text at n e =
    ap (λ k. counted n (units_of (drop k text))) e
    ∙ ap (λ l. counted n (units_of l)) (drop-length text)
    ∙ ap (counted n) units-end
    ∙ ap some (omega arith)

-- WRITING

-- a text's units are those that it is held to have
pub text_held : (text : List ℕ) → is_text text ≡ true → units_of text ≡ some (held text)
unfolding is_text or_none
text_held text e = go (units_of text) refl
  where
    go : (o : Option (List ℕ)) → units_of text ≡ o → units_of text ≡ some (or_none (units_of text))
    go none q = true≢false (sym e ∙ ap (λ o. elim o [ none ↦ false | some l ↦ true ]) q)
    go (some l) q = q ∙ ap some (sym (ap or_none q))

-- a turn: l are all units, of which n are written
pub record Turn (text l : List ℕ) (at u size n : ℕ) : Type 0 where
  pub moves : 0 < size
  pub within : n < length l
  pub unit-is : u ≡ get_or l n 0
  pub left : units_of (drop (at + size) text) ≡ some (drop (n + 1) l)

module _ (text l : List ℕ) (at u n : ℕ) (left : units_of (drop at text) ≡ some (drop n l)) where
  front : (rest : List ℕ) → u ∷ rest ≡ drop n l → (n < length l) × (u ≡ get_or l n 0) × (rest ≡ drop (n + 1) l)
  front rest e =
      let long : suc (length rest) ≡ length l - n = ap length e ∙ length-drop n l in
      let within : n < length l = omega arith in
      let both : u ∷ rest ≡ get_or l n 0 ∷ drop (suc n) l = e ∙ drop-cons l n 0 within in
      (within, cc, cc (ap (λ k. drop k l) (add-one n)))

  pub turn : (size : ℕ) → Begins (part text at) u size → Turn text l at u size n
  turn size b = let (within, is, rest) = next in record { moves = b.moves; within = within; unit-is = is; left = rest }
    where
      was : consed u (units_of (drop (at + size) text)) ≡ some (drop n l)
      was = sym (form-next text at u size b) ∙ left

      go : (o : Option (List ℕ)) → units_of (drop (at + size) text) ≡ o → (n < length l) × (u ≡ get_or l n 0) × (units_of (drop (at + size) text) ≡ some (drop (n + 1) l))
      go none q = none≢some (sym (ap (consed u) q) ∙ was)
      go (some m) q = let f = front m (some_inj (sym (ap (consed u) q) ∙ was)) in (f.0, f.1, q ∙ ap some f.2)

      next : (n < length l) × (u ≡ get_or l n 0) × (units_of (drop (at + size) text) ≡ some (drop (n + 1) l))
      next = go (units_of (drop (at + size) text)) refl

-- one unit more is written
pub put-more :
    (l d : List ℕ) (n u : ℕ) → n < length l → length l ≤ length d → u ≡ get_or l n 0 →
    set (overwrite (take n l) d) n u ≡ overwrite (take (n + 1) l) d
unfolding overwrite
put-more l d n u within room is =
    let size : length (take n l) ≡ n = length-take-le n l (omega arith) in
    let size' : length (take (n + 1) l) ≡ n + 1 = length-take-le (n + 1) l (omega arith) in
    let more : n < length d = omega arith in
    ap (λ k. set (take n l ++ drop k d) n u) size
    ∙ ap (λ t. set (take n l ++ t) n u) (drop-cons d n 0 more)
    ∙ set_at (take n l) (get_or d n 0) (drop (suc n) d) u n size
    ∙ ap (λ v. take n l ++ v ∷ drop (suc n) d) is
    ∙ sym (append_snoc (take n l) (get_or l n 0) (drop (suc n) d))
    ∙ ap (λ t. t ++ drop (suc n) d) (sym (ap (λ k. take k l) (add-one n) ∙ take-suc l n 0 within))
    ∙ ap (λ k. take (n + 1) l ++ drop k d) (sym (size' ∙ add-one n))

-- none is written yet, and all are
pub put-start : (l d : List ℕ) → d ≡ overwrite (take 0 l) d
unfolding overwrite
put-start l d = refl

pub put_all :
    (text l d : List ℕ) (at n : ℕ) → at ≡ length text → units_of (drop at text) ≡ some (drop n l) → overwrite (take n l) d ≡ overwrite l d
put_all text l d at n e left =
    let behind : drop at text ≡ [] = ap (λ k. drop k text) e ∙ drop-length text in
    let nothing : [] ≡ drop n l = some_inj (sym units-end ∙ ap units_of (sym behind) ∙ left) in
    ap (λ t. overwrite t d) (sym (append-nil (take n l)) ∙ ap (λ t. take n l ++ t) nothing ∙ take-append-drop n l)

-- where no form begins, a text ends
pub put_done :
    (text l d : List ℕ) (at n : ℕ) → at ≤ length text → unit (part text at) ≡ none → units_of (drop at text) ≡ some (drop n l) →
    overwrite (take n l) d ≡ overwrite l d
put_done text l d at n inside e left =
    ⊎_elim
    (λ (end : at ≡ length text). put_all text l d at n end left)
    (λ (more : at < length text). none≢some (sym (form-none text at more e) ∙ left))
    (eq-or-lt_of_le inside)

-- THE ENDS

module _ (room : ℕ) (text : List ℕ) where
  counted-units : (n : ℕ) (o : Option (List ℕ)) → some n ≡ count_of o → (o ≡ some (or_none o)) × (length (or_none o) ≡ n)
  unfolding count_of or_none
  counted-units n none e = none≢some (sym e)
  counted-units n (some l) e = (refl, sym (some_inj e))

  not-counted : (o : Option (List ℕ)) → none ≡ count_of o → o ≡ none
  unfolding count_of
  not-counted none e = refl
  not-counted (some l) e = none≢some e

  pub read_not : none ≡ count_of (units_of text) → read_text room text ≡ bad (record { code = 25; place = 0 })
  unfolding read_text
  read_not e = ap (read_by room) (not-counted (units_of text) e)

  -- n units
  module _ (n : ℕ) (e : some n ≡ count_of (units_of text)) where
    pub is_held : units_of text ≡ some (held text)
    is_held = (counted-units n (units_of text) e).0

    pub held-length : length (held text) ≡ n
    held-length = (counted-units n (units_of text) e).1

    pub is_text_lem : is_text text ≡ true
    unfolding is_text
    is_text_lem = ap (λ o. elim o [ none ↦ false | some l ↦ true ]) is_held

    pub read_narrow_lem : room < n → read_text room text ≡ bad (record { code = 18; place = 0 })
    unfolding read_text
    read_narrow_lem narrow =
        let h = held-length in
        ap (read_by room) is_held ∙ refuses 0 18 (good (held text)) (leb (length (held text)) room) (lt-leb (length (held text)) room (omega arith))

    pub read_good : n ≤ room → read_text room text ≡ good (held text)
    unfolding read_text
    read_good fits =
        let h = held-length in
        ap (read_by room) is_held ∙ passes 0 18 (good (held text)) (leb (length (held text)) room) (le-leb (length (held text)) room (omega arith))

  pub not-text : none ≡ count_of (units_of text) → is_text text ≡ false
  unfolding is_text
  not-text e = ap (λ o. elim o [ none ↦ false | some l ↦ true ]) (not-counted (units_of text) e)
