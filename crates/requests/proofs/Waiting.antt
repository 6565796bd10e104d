-- What a slot holds waits on the building stack, and slots that were given are slots. Assumes nothing.
use mathlib.Core.Bool.{Bool, true, false}
use mathlib.Core.List.{List, [], ◌∷◌, map}
use mathlib.Core.Logic.{◌⊎◌, inl, inr}
use mathlib.Core.Option.{some}
use mathlib.Core.Path.{◌≡◌, sym, subst, ◌∙◌}
use Prim.Native.Nat.{ℕ, zero, suc, ◌+◌, ◌≤◌, ◌<◌}
use native.Mathlib.Omega.{arith}
use lib.ListN.{take, length-take}
use lib.Seq.{get_or-take}
use Rattle.definition.specs.Basics.{lookup}
use Rattle.definition.specs.Shapes.{is_wide}
use Rattle.definition.specs.Definitions.{Held, tag_at}
use Rattle.definition.specs.Resolving.{Node}
use Rattle.definition.specs.Building.{Pool}
use Rattle.facts.specs.Lists.{Among}
use Rattle.facts.proofs.Lists.{order, among-nil, among-left, among-right, among-back, map_at, found_inside, found_read}
use Rattle.facts.proofs.Tables.{some-row, lookup-at}
use Rattle.facts.proofs.Sums.{run, run-has, once, times, total_times, among-times, times_high}
use Rattle.laws.specs.Statements.{given_slots}
use Rattle.laws.proofs.Slots.SlotRequest.{width}
use Rattle.laws.proofs.Slots.PoolsThatOccur.{Sound, total_all, given-cons}
use Rattle.slots.specs.Gaps.{GapTable}
use Rattle.store.specs.Store.{Store}
use Rattle.store.specs.Regions.{PENDING}
use Rattle.pool.specs.Pooled.{PooledIn, pending_count}
use Rattle.pool.specs.Owning.{OnStack}

-- THE STACK: what the definition's has is on the words'
pub on_stack : (pool : Pool) (t : Store) (g : GapTable) (slot k : ℕ) → PooledIn pool t g → Among (slot, k) pool.pending → OnStack t k
on_stack pool t g slot k pooled (i, at) =
    let n = pending_count t in
    let named : Among k (map (λ r. r.1) pool.pending) = (i, map_at (λ (r : ℕ × ℕ). r.1) pool.pending i (slot, k) at) in
    let (j, here) = among-back k (take n (t PENDING)) (subst (Among k) pooled.pending named) in
    let low : j < n = omega (arith, found_inside (take n (t PENDING)) j k here, length-take n (t PENDING)) in
    (j, low, sym (get_or-take n (t PENDING) j 0 low) ∙ found_read (take n (t PENDING)) j k 0 here)

-- SLOTS that were given are at most the highest

wide_some : (b : Bool) → 1 ≤ width b
unfolding width
wide_some true = omega arith
wide_some false = omega arith

given-among : (nodes : List Node) (given : List (ℕ × ℕ)) (k a : ℕ) → Among (k, a) given → Among a (given_slots nodes given)
given-among nodes [] k a h = among-nil (k, a) h
given-among nodes ((l, b) ∷ given) k a (zero, h) =
    let same : b ≡ a = some-row (l, b) (k, a) h in
    rw (given-cons nodes l b given, same)
    (among-left a (run a (width (is_wide (tag_at nodes l)))) (given_slots nodes given)
    (run-has a (width (is_wide (tag_at nodes l))) a (omega arith) (omega (arith, wide_some (is_wide (tag_at nodes l))))))
given-among nodes ((l, b) ∷ given) k a (suc i, h) =
    rw (given-cons nodes l b given)
    (among-right a (run b (width (is_wide (tag_at nodes l)))) (given_slots nodes given) (given-among nodes given k a (i, h)))

pub given-low :
    (top : ℕ) (held : List (ℕ × Held)) (nodes : List Node) (p : Pool) → Sound top held nodes p → (k a : ℕ) → lookup k p.given ≡ some a →
    a ≤ top
given-low top held nodes p sound k a e = ways (order a (1 + top))
  where
    counted : 1 ≤ times a (run 1 top)
    counted =
        omega (
          arith,
          among-times a (given_slots nodes p.given) (given-among nodes p.given k a (lookup-at k a p.given e)),
          total_times a (given_slots nodes p.given),
          total_all (once a) held nodes p,
          sound.counted (once a),
          total_times a (run 1 top),
        )

    ways : (a < 1 + top) ⊎ (1 + top ≤ a) → a ≤ top
    ways (inl h) = omega arith
    ways (inr h) = absurd (omega (arith, counted, times_high a 1 top h))
