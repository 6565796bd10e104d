-- The tag at an index of a table is that of the constant there. Assumes nothing.
use mathlib.Core.List.{List}
use mathlib.Core.Option.{some}
use mathlib.Core.Path.{◌≡◌, refl, sym, ap, ◌∙◌}
use Prim.Native.Nat.{ℕ, zero, suc, ◌<◌, ◌≤◌}
use native.Mathlib.Omega.{arith}
use lib.ListN.{length, get_or, get_or-eq_default}
use Rattle.jvms.specs.Pool.{Constant, Slot, usable}
use Rattle.places.specs.Standing.{tag, slot_of, ConstantAt, Noted}
use Rattle.places.specs.Noting.{tag_from, tag_at}
use Rattle.places.proofs.Found.{constant_stands, at_place}

-- behind the bytes there is none, and at any other place than 0 it is the byte
pub tag-past : (s : List ℕ) (p : ℕ) → length s ≤ p → 0 ≡ tag_from s p
tag-past s zero h = refl
tag-past s (suc p) h = sym (get_or-eq_default s 0 h)

pub tag-byte : (s : List ℕ) (p : ℕ) → 0 < p → get_or s p 0 ≡ tag_from s p
tag-byte s zero h = absurd (omega arith)
tag-byte s (suc p) h = refl

module _ {s : List ℕ} {slots : List Slot} {table : List ℕ} (noted : Noted s slots table) (i : ℕ) where
  pub tag-found : (c : Constant) → slot_of slots i ≡ some (usable c) → tag_at s table i ≡ tag c
  tag-found c is =
      let (any, there) = noted.begins i c is in
      sym (tag-byte s (get_or table i 0) any) ∙ (constant_stands s (get_or table i 0) c there).first

  pub tag-none : ((c : Constant) → slot_of slots i ≡ some (usable c) → ⊥) → tag_at s table i ≡ 0
  tag-none not = ap (tag_from s) (noted.no_more i not)

  -- an index with a tag has a constant, whose tag stands at its place
  pub tag-there :
      0 < tag_at s table i →
      (c : Constant) × (slot_of slots i ≡ some (usable c)) × ConstantAt s (get_or table i 0) c × (get_or s (get_or table i 0) 0 ≡ tag_at s table i)
  tag-there any =
      let place = some-place (get_or table i 0) any in
      let (c, is, there) = at_place noted i place in
      (c, is, there, tag-byte s (get_or table i 0) place)
    where
      some-place : (p : ℕ) → 0 < tag_from s p → 0 < p
      some-place zero h = h
      some-place (suc p) h = omega arith
