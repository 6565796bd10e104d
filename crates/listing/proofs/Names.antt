-- The words of a listing by their numbers (specs/Listing.antt, specs/Views.antt). Assumes nothing.
use mathlib.Core.List.{List, [], ◌∷◌}
use mathlib.Core.Option.{none}
use mathlib.Core.Path.{◌≡◌, refl, sym, ap}
use Prim.Native.Nat.{ℕ}
use borrow.Author.Tests.{ne_eqb}
use Rattle.definition.specs.Basics.{lookup}
use Rattle.definition.specs.Ascii.{decimal}
use Rattle.listing.specs.Listing.{or_decimal, reference_kinds, reference_kind, kinds}
use Rattle.listing.specs.Views.{or_none, betweens, between}

-- a number is none of these: what a match knows where no arm was taken, the last arm first
abbrev pub Apart : ℕ → List ℕ → Type 0
Apart n [] = Unit {0}
Apart n (k ∷ keys) = Apart n keys × (n ≡ k → ⊥)

abbrev pub keys_back : {A : Type 0} → List (ℕ × A) → List ℕ → List ℕ
keys_back [] keys = keys
keys_back (r ∷ table) keys = keys_back table (r.0 ∷ keys)

missing : {A : Type 0} (n : ℕ) (table : List (ℕ × A)) (keys : List ℕ) → Apart n (keys_back table keys) → (lookup n table ≡ none) × Apart n keys
unfolding lookup
missing n [] keys h = (refl, h)
missing n (r ∷ table) keys h =
    let m = missing n table (r.0 ∷ keys) h in
    (rw (ne_eqb n r.0 m.1.1, lookup) m.0, m.1.0)

pub no_kind : (n : ℕ) → Apart n (keys_back kinds []) → decimal n ≡ or_decimal n (lookup n kinds)
unfolding or_decimal
no_kind n h = sym (ap (or_decimal n) (missing n kinds [] h).0)

pub no_reference_kind : (n : ℕ) → Apart n (keys_back reference_kinds []) → decimal n ≡ reference_kind n
unfolding or_decimal reference_kind
no_reference_kind n h = sym (ap (or_decimal n) (missing n reference_kinds [] h).0)

pub nothing_between : (n : ℕ) → Apart n (keys_back betweens []) → [] ≡ between n
unfolding or_none between
nothing_between n h = sym (ap or_none (missing n betweens [] h).0)
