-- A constant worked out: what its record tells of it, and where its words are kept. Assumes nothing.
use mathlib.Core.Bool.{true, false}
use mathlib.Core.List.{List}
use mathlib.Core.Path.{◌≡◌, refl, sym, ap}
use Prim.Native.Nat.{ℕ, ◌+◌, ◌/◌, ◌≤◌, ◌<◌}
use native.Mathlib.Omega.{arith}
use lib.ListN.{length}
use Rattle.definition.specs.Bytes.{be4, be8}
use Rattle.definition.specs.Expression.{Number, int, float, long, double, tag_of}
use Rattle.definition.specs.Shapes.{Entry, is_wide}
use Rattle.definition.specs.Value.{bits_bytes}
use Rattle.definition.specs.Job.{Reference, define, as_constant}
use Rattle.facts.proofs.Lists.{true≢false}
use Rattle.job.specs.Stored.{Found, EntryStands, any_definition, is_worked}
use Rattle.job.proofs.Standing.{worked-there}
use Rattle.store.specs.Store.{size}
use Rattle.store.specs.Regions.{VALUES, Work}
use Rattle.store.proofs.Laying.{work-sizes}
use Rattle.store.proofs.Lengths.{worked-cost}

-- of numbers
number-tag : (kind : Number) → (3 ≤ tag_of kind) × (tag_of kind ≤ 6)
unfolding tag_of
number-tag int = (omega arith, omega arith)
number-tag float = (omega arith, omega arith)
number-tag long = (omega arith, omega arith)
number-tag double = (omega arith, omega arith)

number-wide : (kind : Number) (b : ℕ) → is_wide (tag_of kind) ≡ true → length (bits_bytes kind b) ≡ 8
unfolding tag_of is_wide bits_bytes be4 be8
number-wide int b w = true≢false (sym w)
number-wide float b w = true≢false (sym w)
number-wide long b w = refl
number-wide double b w = refl

number-narrow : (kind : Number) (b : ℕ) → is_wide (tag_of kind) ≡ false → length (bits_bytes kind b) ≡ 4
unfolding tag_of is_wide bits_bytes be4 be8
number-narrow int b w = refl
number-narrow float b w = refl
number-narrow long b w = true≢false w
number-narrow double b w = true≢false w

module _ (s : List ℕ) (at : ℕ) (x : Entry (List ℕ) Reference) (next : ℕ) (f : Found any_definition s at (define x) next) (worked : is_worked s at ≡ true) where
  abbrev the_number : Number × ℕ
  the_number = (worked-there s at x next f worked).number

  tag_is : x.tag ≡ tag_of the_number.0
  unfolding as_constant
  tag_is = ap (λ (y : Entry (List ℕ) Reference). y.tag) (worked-there s at x next f worked).is

  literal_is_lem : x.literal ≡ bits_bytes the_number.0 the_number.1
  unfolding as_constant
  literal_is_lem = ap (λ (y : Entry (List ℕ) Reference). y.literal) (worked-there s at x next f worked).is

  pub worked-tag : (3 ≤ x.tag) × (x.tag ≤ 6)
  worked-tag = rw tag_is (number-tag the_number.0)

  pub worked-wide : is_wide x.tag ≡ true → length x.literal ≡ 8
  worked-wide w = rw literal_is_lem (number-wide the_number.0 the_number.1 (rw tag_is at w))

  pub worked_narrow : is_wide x.tag ≡ false → length x.literal ≡ 4
  worked_narrow w = rw literal_is_lem (number-narrow the_number.0 the_number.1 (rw tag_is at w))

  pub worked-past : at + 6 ≤ next
  worked-past = worked-cost s at x next f worked

  -- its words are its own
  pub words_room : (p : List ℕ) → Work s p → (i : ℕ) → i < 2 → at / 3 + i < size p VALUES
  words_room p work i low = omega (arith, (work-sizes s p work).values, worked-past, f.within)

pub words_stand : (s : List ℕ) (at : ℕ) → EntryStands s at → is_worked s at ≡ true → (p : List ℕ) → Work s p → (i : ℕ) → i < 2 → at / 3 + i < size p VALUES
words_stand s at h = words_room s at h.0 h.1 h.2
