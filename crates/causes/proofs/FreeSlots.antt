-- The free slots of a pool that occurs are exactly those from 1 to the highest that are neither raw-held nor given to a node. Assumes nothing.
use mathlib.Core.Bool.{Bool, true, false}
use mathlib.Core.List.{List, [], ◌∷◌, append-nil}
use mathlib.Core.Logic.{◌⊎◌, inl, inr}
use mathlib.Core.Option.{some}
use mathlib.Core.Path.{◌≡◌, refl, sym, ap, subst}
use Prim.Native.Nat.{ℕ, zero, suc, ◌+◌, ◌≤◌, ◌<◌}
use native.Mathlib.Omega.{arith}
use lib.ListN.{length, length-map}
use borrow.Author.Tests.{ne_eqb}
use Rattle.definition.specs.Basics.{good, concat}
use Rattle.definition.specs.Shapes.{is_wide, constant}
use Rattle.definition.specs.Job.{Job}
use Rattle.definition.specs.Numbering.{top_of, literals, numbered_definition, numbered}
use Rattle.definition.specs.Definitions.{Held, starts, half, Defined, tag_at, define_all, nothing_defined}
use Rattle.definition.specs.Resolving.{Node}
use Rattle.definition.specs.Building.{Pool}
use Rattle.facts.specs.Lists.{Among, keys}
use Rattle.facts.proofs.Lists.{clash, order, equal, among-nil, among-either, among_later, among-left, among-right, map_at, unmap}
use Rattle.facts.proofs.Tables.{some_key, some-row}
use Rattle.facts.proofs.Sums.{run, run-has, run-low, run-high, once, times, total_times, among-times, times_low, times_high, times_run}
use Rattle.laws.specs.Statements.{Occurs, free_slots, given_slots}
use Rattle.causes.specs.CauseStatement.{Taken, RawHeld, GivenToNode, FreeIn}
use Rattle.laws.proofs.Definitions.DefinedAsPlaced.{wide_at, DefinedFacts, defined_facts}
use Rattle.laws.proofs.Slots.SlotRequest.{width}
use Rattle.laws.proofs.Slots.SlotsToHold.{NodeTakes}
use Rattle.laws.proofs.Slots.PoolsThatOccur.{sound, total_all, given-cons}
use Rattle.causes.proofs.CauseDefinitions.{all, constants, placed-forth, wide_forth, taken_of}

-- what is counted stands there
times_among : (n : ℕ) (l : List ℕ) → 1 ≤ times n l → Among n l
unfolding times
times_among n [] h = absurd (omega (arith, h))
times_among n (x ∷ l) h = go (equal n x) (times_among n l)
  where
    go : (n ≡ x) ⊎ (n ≡ x → ⊥) → (1 ≤ times n l → Among n l) → Among n (x ∷ l)
    go (inl e) rest = (0, ap some (sym e))
    go (inr ne) rest = among_later n x l (rest (rw (ne_eqb n x ne, times) at h))

-- ---- the slots given to nodes, in a list and one by one

in_width : (b : Bool) (a t : ℕ) → a ≤ t → t < a + width b → (t ≡ a) ⊎ ((b ≡ true) × (t ≡ suc a))
unfolding width
in_width true a t low high = go (order a t)
  where
    go : (a < t) ⊎ (t ≤ a) → (t ≡ a) ⊎ ((true ≡ true) × (t ≡ suc a))
    go (inl l) = inr (refl, omega (arith, l, high))
    go (inr l) = inl (omega (arith, l, low))
in_width false a t low high = inl (omega (arith, low, high))

width_has : (b : Bool) (a t : ℕ) → (t ≡ a) ⊎ ((b ≡ true) × (t ≡ suc a)) → (a ≤ t) × (t < a + width b)
unfolding width
width_has true a t (inl e) = (omega (arith, e), omega (arith, e))
width_has false a t (inl e) = (omega (arith, e), omega (arith, e))
width_has true a t (inr (w, e)) = (omega (arith, e), omega (arith, e))
width_has false a t (inr (w, e)) = clash (cc)

abbrev Given : List Node → List (ℕ × ℕ) → ℕ → Type 0
Given nodes given t = (k : ℕ) × (a : ℕ) × Among (k, a) given × NodeTakes nodes k a t

listed-given : (nodes : List Node) (given : List (ℕ × ℕ)) (t : ℕ) → Among t (given_slots nodes given) → Given nodes given t
unfolding given_slots concat
listed-given nodes [] t h = among-nil t h
listed-given nodes (r ∷ given) t h =
    go (among-either t (run r.1 (width (is_wide (tag_at nodes r.0)))) (given_slots nodes given) (subst (Among t) (given-cons nodes r.0 r.1 given) h)) (listed-given nodes given t)
  where
    go :
        Among t (run r.1 (width (is_wide (tag_at nodes r.0)))) ⊎ Among t (given_slots nodes given) → (Among t (given_slots nodes given) → Given nodes given t) →
        Given nodes (r ∷ given) t
    go (inl a) rest =
        let n = width (is_wide (tag_at nodes r.0)) in
        (r.0, r.1, (0, refl), in_width (is_wide (tag_at nodes r.0)) r.1 t (run-low r.1 n t a) (run-high r.1 n t a))
    go (inr a) rest = let (k, s, at, takes) = rest a in (k, s, among_later (k, s) r given at, takes)

given-listed : (nodes : List Node) (given : List (ℕ × ℕ)) (t : ℕ) → Given nodes given t → Among t (given_slots nodes given)
given-listed nodes [] t (k, a, at, takes) = among-nil (k, a) at
given-listed nodes (r ∷ given) t (k, a, (zero, at), takes) =
    let key = some_key r (k, a) at in
    let slot = some-row r (k, a) at in
    let w = width_has (is_wide (tag_at nodes k)) a t takes in
    subst (Among t) (sym (given-cons nodes r.0 r.1 given))
    (among-left t (run r.1 (width (is_wide (tag_at nodes r.0)))) (given_slots nodes given)
    (subst (λ n. Among t (run n (width (is_wide (tag_at nodes r.0))))) (sym slot)
    (subst (λ n. Among t (run a (width (is_wide (tag_at nodes n))))) (sym key) (run-has a (width (is_wide (tag_at nodes k))) t w.0 w.1))))
given-listed nodes (r ∷ given) t (k, a, (suc i, at), takes) =
    subst (Among t) (sym (given-cons nodes r.0 r.1 given))
    (among-right t (run r.1 (width (is_wide (tag_at nodes r.0)))) (given_slots nodes given) (given-listed nodes given t (k, a, (i, at), takes)))

-- ---- each slot is raw-held, given or free, and only one of them

module _ (top : ℕ) (held : List (ℕ × Held)) (nodes : List Node) (p : Pool) (o : Occurs top held nodes p) (t : ℕ) where
  counts : times t (keys held) + (times t (given_slots nodes p.given) + times t (free_slots p.slots.gaps)) ≡ times t (run 1 top)
  counts =
      omega (
        arith,
        (sound o).counted (once t),
        total_all (once t) held nodes p,
        total_times t (keys held),
        total_times t (given_slots nodes p.given),
        total_times t (free_slots p.slots.gaps),
        total_times t (run 1 top),
      )

  abbrev Neither : Type 0
  Neither = (1 ≤ t) × (t ≤ top) × (Among t (keys held) → ⊥) × (GivenToNode nodes p t → ⊥)

  pub free_neither : Among t (free_slots p.slots.gaps) → Neither
  free_neither a = go (order t 1) (order top t)
    where
      here : 1 ≤ times t (free_slots p.slots.gaps)
      here = among-times t (free_slots p.slots.gaps) a

      go : (t < 1) ⊎ (1 ≤ t) → (top < t) ⊎ (t ≤ top) → Neither
      go (inl low) h = absurd (omega (arith, counts, here, times_low t 1 top low))
      go (inr low) (inl high) = absurd (omega (arith, counts, here, times_high t 1 top (omega (arith, high))))
      go (inr low) (inr high) =
          let one = times_run t 1 top low (omega (arith, high)) in (
            low,
            high,
            λ h. omega (arith, counts, here, one, among-times t (keys held) h),
            λ h. omega (arith, counts, here, one, among-times t (given_slots nodes p.given) (given-listed nodes p.given t h)),
          )

  none-counted : (l : List ℕ) → (Among t l → ⊥) → times t l ≡ 0
  none-counted l h = go (order 0 (times t l))
    where
      go : (0 < times t l) ⊎ (times t l ≤ 0) → times t l ≡ 0
      go (inl more) = absurd (h (times_among t l (omega (arith, more))))
      go (inr less) = omega (arith, less)

  pub neither_free : Neither → Among t (free_slots p.slots.gaps)
  neither_free (low, high, raw, given) =
      let one = times_run t 1 top low (omega (arith, high)) in
      let no-raw = none-counted (keys held) raw in
      let not-given = none-counted (given_slots nodes p.given) (λ h. given (listed-given nodes p.given t h)) in
      times_among t (free_slots p.slots.gaps) (omega (arith, counts, one, no-raw, not-given))

-- ---- what is raw-held, by the records

module _ (job : Job (List ℕ)) (d : Defined) (defined : define_all (top_of job) (constants job) 0 (all job) nothing_defined ≡ good d) where
  facts : DefinedFacts (wide_at (constants job)) (all job) d
  facts = defined_facts (top_of job) (constants job) (all job) d defined

  same_length : length (all job) ≡ length job.definitions
  unfolding numbered
  same_length = length-map job.definitions (numbered_definition (literals job))

  held-raw : (s : ℕ) → Among s (keys d.held) → RawHeld job s
  held-raw s a =
      let u = unmap (λ (r : ℕ × Held). r.0) d.held s a in
      subst (λ n. Taken job n s) same_length (subst (Taken job (length (all job))) u.2 (taken_of job (all job) [] (append-nil (all job)) d defined u.0.0 u.0.1 u.1))

  raw_held : (s : ℕ) → RawHeld job s → Among s (keys d.held)
  raw_held s (i, m, k, l, at, inl e) =
      let a = facts.all_held.start_held m k (i, placed-forth job i constant m k at) in
      subst (λ s. Among s (keys d.held)) (sym e) (a.0, map_at (λ (r : ℕ × Held). r.0) d.held a.0 (m, starts k) a.1)
  raw_held s (i, m, k, l, at, inr (w, e)) =
      let a = facts.all_held.half_held m k (i, placed-forth job i constant m k at) (wide_forth job k w) in
      subst (λ s. Among s (keys d.held)) (sym e) (a.0, map_at (λ (r : ℕ × Held). r.0) d.held a.0 (suc m, half) a.1)

  module _ (nodes : List Node) (p : Pool) (o : Occurs (top_of job) d.held nodes p) (s : ℕ) where
    pub pool_free : Among s (free_slots p.slots.gaps) → FreeIn job nodes p s
    pool_free a =
        let (low, high, raw, given) = free_neither (top_of job) d.held nodes p o s a in
        (low, high, λ h. raw (raw_held s h), given)

    pub free_pool : FreeIn job nodes p s → Among s (free_slots p.slots.gaps)
    free_pool (low, high, raw, given) = neither_free (top_of job) d.held nodes p o s (low, high, λ h. raw (held-raw s h), given)
