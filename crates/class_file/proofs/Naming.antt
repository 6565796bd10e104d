-- Whether a slot holds the attribute's name, by the bytes at the place of its constant. Assumes nothing.
use mathlib.Core.Bool.{Bool, true, false, ◌&&◌}
use lib.Pointwise.{pointwise}
use lib.Dec.{eqb}
use mathlib.Core.List.{List, [], ◌∷◌, ◌++◌}
use mathlib.Core.Logic.{◌⊎◌, inl, inr}
use mathlib.Core.Option.{Option, none, some}
use mathlib.Core.Path.{◌≡◌, refl, sym, ap, ◌∙◌}
use Prim.Native.Nat.{ℕ, ◌+◌, ◌<◌, ◌≤◌}
use native.Mathlib.Omega.{arith}
use lib.ListN.{length, take, drop, get_or, length-take, length-drop, take-append-drop}
use lib.Seq.{ext_get_or, get_or-take, get_or-drop}
use Rattle.definition.specs.Ascii.{ascii}
use Rattle.definition.specs.Basics.{same}
use Rattle.jvms.specs.Pool.{u1, u2, array, Constant, Utf8, structures, structure, cp_info_lem, Slot, usable, unusable}
use Rattle.jvms.specs.Written.{bytes2, constant_bytes, slot_bytes_lem, Is1, All}
use Rattle.facts.proofs.Copies.{part_length}
use Rattle.facts.proofs.Lists.{some_inj, same_true, same_refl, tests_agree, order}
use Rattle.laws.specs.Statements.{IsBytes}
use Rattle.laws.proofs.Reading.ReadIsSpelled.{all_bytes, item_constant}
use Rattle.places.specs.Standing.{slot_of, Noted}
use Rattle.places.proofs.Found.{no_place, at_place}
use Rattle.class_file.specs.ClassFile.{name_constant, is_name_lem}

-- the name's constant is read as it stands
name_read : (rest : List ℕ) → cp_info_lem (name_constant ++ rest) ≡ some (Utf8 (ascii "BootstrapMethods"), rest)
unfolding name_constant constant_bytes bytes2 ascii u1 u2 array structures structure cp_info_lem
name_read rest = refl

pub bytes-behind : (bytes : List ℕ) → IsBytes bytes → (at : ℕ) → All Is1 (drop at bytes)
bytes-behind bytes are at = all_bytes (drop at bytes) (λ i. rw get_or-drop (are (at + i)))

-- a constant is the name exactly if the name's bytes stand at its place
name_at :
    (bytes : List ℕ) → IsBytes bytes → (at : ℕ) (c : Constant) (rest : List ℕ) → cp_info_lem (drop at bytes) ≡ some (c, rest) →
    is_name_lem (some (usable c)) ≡ same (take 19 (drop at bytes)) name_constant
unfolding is_name_lem slot_bytes_lem name_constant constant_bytes bytes2 ascii
name_at bytes are at c rest e =
    tests_agree (same (constant_bytes c) name_constant) (same (take 19 (drop at bytes)) name_constant) there back
  where
    there : same (constant_bytes c) name_constant ≡ true → same (take 19 (drop at bytes)) name_constant ≡ true
    there h =
        let t = item_constant (drop at bytes) (bytes-behind bytes are at) c rest e in
        let spelled : take 19 (drop at bytes) ≡ name_constant =
        ap (take 19) (t.are ∙ ap (λ l. l ++ rest) (t.is.1 ∙ same_true (constant_bytes c) name_constant h)) in
        ap (λ l. same l name_constant) spelled ∙ same_refl name_constant

    back : same (take 19 (drop at bytes)) name_constant ≡ true → same (constant_bytes c) name_constant ≡ true
    back h =
        let left = drop 19 (drop at bytes) in
        let spelled : drop at bytes ≡ name_constant ++ left =
        sym (take-append-drop 19 (drop at bytes)) ∙ ap (λ l. l ++ left) (same_true (take 19 (drop at bytes)) name_constant h) in
        let pair : ◌≡◌ {A = Constant × List ℕ} (Utf8 (ascii "BootstrapMethods"), left) (c, rest) =
        some_inj (sym (name_read left) ∙ ap cp_info_lem (sym spelled) ∙ e) in
        ap (λ (r : Constant × List ℕ). same (constant_bytes r.0) name_constant) (sym pair) ∙ same_refl name_constant

-- too few bytes are not the name's
pub name_cut : (bytes : List ℕ) (at : ℕ) → length bytes < at + 19 → same (take 19 (drop at bytes)) name_constant ≡ false
unfolding name_constant constant_bytes bytes2 ascii
name_cut bytes at short = go (same (take 19 (drop at bytes)) name_constant) refl
  where
    go : (b : Bool) → same (take 19 (drop at bytes)) name_constant ≡ b → b ≡ false
    go false e = refl
    go true e =
        let long : length (take 19 (drop at bytes)) ≡ 19 = ap length (same_true (take 19 (drop at bytes)) name_constant e) in
        absurd (omega (arith, length-take 19 (drop at bytes), length-drop at bytes))

-- the name's first bytes, so many, stand at a place
abbrev pub Begun : List ℕ → ℕ → ℕ → Type 0
Begun bytes at i = (k : ℕ) → k < i → get_or bytes (at + k) 0 ≡ get_or name_constant k 0

module _ (bytes : List ℕ) (at : ℕ) where
  pub begun_none : Begun bytes at 0
  begun_none k h = absurd (omega arith)

  pub begun_more : (i : ℕ) → Begun bytes at i → get_or bytes (at + i) 0 ≡ get_or name_constant i 0 → Begun bytes at (i + 1)
  begun_more i begun e k h = ways (order k i)
    where
      ways : (k < i) ⊎ (i ≤ k) → get_or bytes (at + k) 0 ≡ get_or name_constant k 0
      ways (inl below) = begun k below
      ways (inr above) = let last : k ≡ i = omega arith in rw last e

  pub begun_all : (i : ℕ) → i ≡ 19 → at + 19 ≤ length bytes → Begun bytes at i → true ≡ same (take 19 (drop at bytes)) name_constant
  unfolding name_constant constant_bytes bytes2 ascii
  begun_all i all room begun =
      let size = part_length bytes at 19 room in
      let spelled : take 19 (drop at bytes) ≡ name_constant =
      ext_get_or 0 (take 19 (drop at bytes)) name_constant size (λ k h.
      let below : k < 19 = omega arith in
      get_or-take 19 (drop at bytes) k 0 below ∙ get_or-drop at bytes k 0 ∙ begun k (omega arith)) in
      sym (ap (λ l. same l name_constant) spelled ∙ same_refl name_constant)

  pub begun_not : (i : ℕ) → i < 19 → (get_or bytes (at + i) 0 ≡ get_or name_constant i 0 → ⊥) → false ≡ same (take 19 (drop at bytes)) name_constant
  begun_not i h differ = go (same (take 19 (drop at bytes)) name_constant) refl
    where
      go : (b : Bool) → same (take 19 (drop at bytes)) name_constant ≡ b → false ≡ b
      go false e = refl
      go true e =
          absurd
          (differ
          (sym (get_or-take 19 (drop at bytes) i 0 h ∙ get_or-drop at bytes i 0)
          ∙ ap (λ l. get_or l i 0) (same_true (take 19 (drop at bytes)) name_constant e)))

-- what the table of a pool's places tells of a slot
module _ (bytes : List ℕ) (slots : List Slot) (table : List ℕ) (noted : Noted bytes slots table) (n : ℕ) where
  pub name_nowhere : get_or table n 0 ≡ 0 → is_name_lem (slot_of slots n) ≡ false
  unfolding is_name_lem same slot_bytes_lem name_constant constant_bytes
  name_nowhere z = go (slot_of slots n) refl
    where
      go : (o : Option Slot) → slot_of slots n ≡ o → is_name_lem o ≡ false
      go none e = refl
      go (some unusable) e = refl
      go (some (usable c)) e = absurd (no_place noted n z c e)

  pub name_there : IsBytes bytes → 0 < get_or table n 0 → is_name_lem (slot_of slots n) ≡ same (take 19 (drop (get_or table n 0) bytes)) name_constant
  name_there are h =
      let (c, is, found) = at_place noted n h in
      ap is_name_lem is ∙ name_at bytes are (get_or table n 0) c found.0 found.1

-- the test of two lists by their items is the definition's
pub items_same : (xs ys : List ℕ) → pointwise eqb xs ys ≡ same xs ys
unfolding same
items_same [] [] = refl
items_same [] (y ∷ ys) = refl
items_same (x ∷ xs) [] = refl
items_same (x ∷ xs) (y ∷ ys) = ap (λ b. eqb x y && b) (items_same xs ys)
