-- What is opened at a slot and at a bootstrap method, by what the tables say. Assumes nothing.
use mathlib.Core.List.{List, [], ◌∷◌, ◌++◌}
use mathlib.Core.Option.{Option, none, some}
use mathlib.Core.Path.{◌≡◌, refl, sym, ap, ◌∙◌}
use Prim.Native.Nat.{ℕ, zero, suc, ◌+◌, ◌-◌, ◌*◌, ◌≤◌, ◌<◌}
use native.Mathlib.Omega.{arith}
use lib.ListN.{length, get_or, get_elem?}
use borrow.Author.Tests.{eq-eqb, ne_eqb}
use Rattle.definition.specs.Basics.{lookup}
use Rattle.definition.specs.Ascii.{ascii, decimal}
use Rattle.facts.proofs.Lists.{none≢some, some_inj, read_found, place_out}
use Rattle.jvms.specs.Pool.{Reader, return, and_then, ◌>>=◌, array, wholly, read_bootstrap_methods, Slot, usable, unusable, BootstrapMethod, bootstrap_method}
use Rattle.writer.specs.Numbers.{number2}
use Rattle.places.specs.Standing.{tag, slot_of}
use Rattle.places.proofs.Finding.{MethodStands}
use Rattle.places.proofs.Found.{constant_stands, at_place, no_place, method_stands}
use Rattle.listing.specs.Listing.{Opening, slot, method, Finished, kinds, or_decimal, kind, held, named, within, applied, arguments, at_slot, at_method, bracketed, opened}
use Rattle.listing.specs.Views.{finished, Views}
use Rattle.listing.specs.Opening.{held_at, numbers_at, arguments_at}
use Rattle.listing.proofs.Arguments.{as_numbers}

-- with no level left, and with one
pub closed : (f : Finished) (levels n : ℕ) → levels ≡ 0 → (bracketed n ≡ opened f levels (slot n)) × (bracketed n ≡ opened f levels (method n))
unfolding opened
closed f levels n none' = (sym (ap (λ l. opened f l (slot n)) none'), sym (ap (λ l. opened f l (method n)) none'))

open_slot :
    (f : Finished) (levels n : ℕ) → (levels ≡ 0 → ⊥) → at_slot (opened f (levels - 1)) n (slot_of f.slots n) ≡ opened f levels (slot n)
unfolding opened
open_slot f zero n some' = absurd (some' refl)
open_slot f (suc left) n some' =
    let one_less : suc left - 1 ≡ left = omega arith in
    ap (λ l. at_slot (opened f l) n (slot_of f.slots n)) one_less

open_method :
    (f : Finished) (levels n : ℕ) → (levels ≡ 0 → ⊥) → at_method (opened f (levels - 1)) n (get_elem? f.methods n) ≡ opened f levels (method n)
unfolding opened
open_method f zero n some' = absurd (some' refl)
open_method f (suc left) n some' =
    let one_less : suc left - 1 ≡ left = omega arith in
    ap (λ l. at_method (opened f l) n (get_elem? f.methods n)) one_less

-- as many are read as the count says
abbrev Sizes : {A : Type 0} → ℕ → Option (List A × List ℕ) → Type 0
Sizes {A} n o = (l : List A) (rest : List ℕ) → o ≡ some (l, rest) → length l ≡ n

array_size : {A : Type 0} (n : ℕ) (item : Reader A) (bytes : List ℕ) → Sizes n (array n item bytes)
unfolding array
array_size {A} zero item bytes l rest e = ap (λ (r : List A × List ℕ). length r.0) (sym (some_inj e))
array_size {A} (suc n) item bytes l rest e = one (λ b. array_size n item b) (item bytes) e
  where
    others : (a : A) (o : Option (List A × List ℕ)) → Sizes n o → and_then o (λ l. return (a ∷ l)) ≡ some (l, rest) → length l ≡ suc n
    others a none sizes e = none≢some e
    others a (some r) sizes e = ap (λ (r : List A × List ℕ). length r.0) (sym (some_inj e)) ∙ ap suc (sizes r.0 r.1 refl)

    one :
        ((b : List ℕ) → Sizes n (array n item b)) → (o : Option (A × List ℕ))
        → and_then o (λ a. array n item >>= λ l. return (a ∷ l)) ≡ some (l, rest) → length l ≡ suc n
    one sizes none e = none≢some e
    one sizes (some r) e = others r.0 (array n item r.1) (sizes r.1) e

methods_size : (count : ℕ) (bytes : List ℕ) (l : List BootstrapMethod) → read_bootstrap_methods count bytes ≡ some l → length l ≡ count
unfolding read_bootstrap_methods wholly
methods_size count bytes l e = go (array count bootstrap_method bytes) (array_size count bootstrap_method bytes) e
  where
    go : (o : Option (List BootstrapMethod × List ℕ)) → Sizes count o → wholly o ≡ some l → length l ≡ count
    go none sizes e = none≢some e
    go (some (m, [])) sizes e = ap length (sym (some_inj e)) ∙ sizes m [] refl
    go (some (m, b ∷ rest)) sizes e = none≢some e

-- a bootstrap method's text, by its bytes
applied-at :
    (show : Opening) (s : List ℕ) (p e : ℕ) (m : BootstrapMethod) → MethodStands s p m e
    → (show (slot (number2 s p)) ++ ascii " (" ++ arguments_at show s p ++ ascii ")" ≡ applied show m)
    × (p + 4 + 2 * number2 s (p + 2) ≤ length s)
unfolding applied arguments_at
applied-at show s p e m is =
    let l = m.bootstrap_arguments in
    let all : numbers_at s (p + 4) (number2 s (p + 2)) ≡ l =
    sym (as_numbers l s (p + 4) is.argument ∙ ap (numbers_at s (p + 4)) is.count) in
    (λ i. show (slot (sym is.handle i)) ++ ascii " (" ++ arguments show (all i) ++ ascii ")", omega (arith, is.count, is.room))

-- the tag of a constant that begins at a slot is there
pub slot-inside :
    {pool places methods table : List ℕ} {count : ℕ} → Views pool places count methods table → (n : ℕ) → 0 < get_or places n 0
    → get_or places n 0 < length pool
slot-inside {pool} {places} v n any =
    let (c, stands, there) = at_place v.noted n any in
    (constant_stands pool (get_or places n 0) c there).inside

module _ {pool places methods table : List ℕ} {count : ℕ} (v : Views pool places count methods table) (levels n : ℕ) (some' : levels ≡ 0 → ⊥) where
  -- no constant begins at a slot
  pub bare_slot : get_or places n 0 ≡ 0 → decimal n ≡ opened (finished pool count methods) levels (slot n)
  unfolding at_slot
  bare_slot none' = go (slot_of (finished pool count methods).slots n) refl ∙ open_slot (finished pool count methods) levels n some'
    where
      go :
          (o : Option Slot) → slot_of (finished pool count methods).slots n ≡ o
          → decimal n ≡ at_slot (opened (finished pool count methods) (levels - 1)) n (slot_of (finished pool count methods).slots n)
      go none e = sym (ap (at_slot _ n) e)
      go (some (usable c)) e = absurd (no_place v.noted n none' c e)
      go (some unusable) e = sym (ap (at_slot _ n) e)

  -- a text's, and any other constant's
  pub text_slot :
      0 < get_or places n 0 → get_or pool (get_or places n 0) 0 ≡ 1
      → held_at (opened (finished pool count methods) (levels - 1)) (slot_of (finished pool count methods).slots n)
      ≡ opened (finished pool count methods) levels (slot n)
  unfolding held_at at_slot within
  text_slot any is =
      let show = opened (finished pool count methods) (levels - 1) in
      let (c, stands, there) = at_place v.noted n any in
      let first = (constant_stands pool (get_or places n 0) c there).first in
      let text : held show c ≡ within show c = rw (eq-eqb (tag c) 1 (sym first ∙ is), within) refl in
      ap (held_at show) stands ∙ text ∙ sym (ap (at_slot show n) stands) ∙ open_slot (finished pool count methods) levels n some'

  pub named-slot :
      0 < get_or places n 0 → (get_or pool (get_or places n 0) 0 ≡ 1 → ⊥)
      → or_decimal (get_or pool (get_or places n 0) 0) (lookup (get_or pool (get_or places n 0) 0) kinds)
      ++ 0x20 ∷ held_at (opened (finished pool count methods) (levels - 1)) (slot_of (finished pool count methods).slots n)
      ≡ opened (finished pool count methods) levels (slot n)
  unfolding held_at at_slot within named kind
  named-slot any other =
      let show = opened (finished pool count methods) (levels - 1) in
      let (c, stands, there) = at_place v.noted n any in
      let first = (constant_stands pool (get_or places n 0) c there).first in
      let text : named show c ≡ within show c = rw (ne_eqb (tag c) 1 (λ is. other (first ∙ is)), within) refl in
      (λ i. or_decimal (first i) (lookup (first i) kinds) ++ 0x20 ∷ held_at show (stands i))
      ∙ text
      ∙ sym (ap (at_slot show n) stands)
      ∙ open_slot (finished pool count methods) levels n some'

  -- no bootstrap method has an index
  pub bare_method : count ≤ n → decimal n ≡ opened (finished pool count methods) levels (method n)
  unfolding at_method
  bare_method none' =
      let f = finished pool count methods in
      let past = place_out f.methods n (omega (arith, methods_size count methods f.methods v.methods_read)) in
      sym (ap (at_method (opened f (levels - 1)) n) past) ∙ open_method f levels n some'

  -- one has, and begins at its place
  pub open_at :
      n < count
      → (opened (finished pool count methods) (levels - 1) (slot (number2 methods (get_or table n 0)))
      ++ ascii " ("
      ++ arguments_at (opened (finished pool count methods) (levels - 1)) methods (get_or table n 0)
      ++ ascii ")"
      ≡ opened (finished pool count methods) levels (method n))
      × (get_or table n 0 + 4 + 2 * number2 methods (get_or table n 0 + 2) ≤ length methods)
  unfolding at_method
  open_at inside =
      let f = finished pool count methods in
      let show = opened f (levels - 1) in
      let p = get_or table n 0 in
      let m = get_or f.methods n (record { bootstrap_method_ref = 0; bootstrap_arguments = [] }) in
      let found = read_found f.methods n (record { bootstrap_method_ref = 0; bootstrap_arguments = [] }) (omega (arith, methods_size count methods f.methods v.methods_read)) in
      let (text, room) = applied-at show methods p _ m (method_stands methods p m (v.methods_noted.begins n m found)) in
      (text ∙ sym (ap (at_method show n) found) ∙ open_method f levels n some', room)
