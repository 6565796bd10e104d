-- Slots that are to hold a node: no two start at one slot, none starts at the second half of a wide one, all lie below the count.
-- Assumes nothing.
use mathlib.Core.Bool.{Bool, true, false}
use mathlib.Core.List.{List, [], ◌∷◌, ◌++◌, map}
use mathlib.Core.Logic.{◌⊎◌, inl, inr}
use mathlib.Core.Option.{Option, none, some}
use mathlib.Core.Path.{◌≡◌, refl, sym, ap, ◌∙◌}
use Prim.Native.Nat.{ℕ, zero, suc, ◌+◌, ◌≤◌, ◌<◌}
use native.Mathlib.Omega.{arith}
use lib.Dec.{eqb}
use lib.ListN.{get_elem?}
use borrow.Author.Tests.{eqb-true}
use Rattle.definition.specs.Basics.{concat, from}
use Rattle.definition.specs.Shapes.{is_wide}
use Rattle.definition.specs.Definitions.{Held, starts, half, tag_at}
use Rattle.definition.specs.Resolving.{Node}
use Rattle.definition.specs.Slots.{Gap, count_from}
use Rattle.definition.specs.Building.{Pool}
use Rattle.definition.specs.Layout.{starters}
use Rattle.facts.specs.Lists.{Among, keys}
use Rattle.facts.proofs.Lists.{clash, order, map_at}
use Rattle.facts.proofs.Tables.{some_key, some-row}
use Rattle.facts.proofs.Sums.{run, once, times, times_cons, total_times, times_append, among-times, times_low, times_high, times_run}
use Rattle.facts.proofs.Results.{decided}
use Rattle.laws.specs.Statements.{free_slots, all_slots, given_slots}
use Rattle.laws.proofs.Definitions.DefinedAsPlaced.{half_slots, times_held}
use Rattle.laws.proofs.Slots.Gaps.{within-free, apart_at}
use Rattle.laws.specs.Gaps.{Apart}
use Rattle.laws.proofs.Slots.PoolsThatOccur.{Sound}

-- the slots that are to hold a node, with their nodes: those given out, and the raw ones
abbrev pub to_hold : List (ℕ × ℕ) → List (ℕ × ℕ) → List (ℕ × ℕ)
to_hold given raws = map (λ r. (r.1, r.0)) given ++ raws

-- the second halves of what was given out
unfoldable pub given_halves : List Node → List (ℕ × ℕ) → List ℕ
given_halves nodes [] = []
given_halves nodes (r ∷ given) = elim (is_wide (tag_at nodes r.0)) [ true ↦ suc r.1 ∷ given_halves nodes given | false ↦ given_halves nodes given ]

-- what was given out is starts and second halves
times_given : (t : ℕ) (nodes : List Node) (given : List (ℕ × ℕ)) → times t (given_slots nodes given) ≡ times t (map (λ r. r.1) given) + times t (given_halves nodes given)
unfolding given_slots given_halves times concat
times_given t nodes [] = refl
times_given t nodes (r ∷ given) = ways (is_wide (tag_at nodes r.0)) (times_given t nodes given)
  where
    ways :
        (w : Bool) →
        times t (given_slots nodes given) ≡ times t (map (λ r. r.1) given) + times t (given_halves nodes given) →
        times t (elim w [ true ↦ r.1 ∷ suc r.1 ∷ [] | false ↦ r.1 ∷ [] ] ++ given_slots nodes given)
        ≡ times t (r.1 ∷ map (λ r. r.1) given) + times t (elim w [ true ↦ suc r.1 ∷ given_halves nodes given | false ↦ given_halves nodes given ])
    ways true h =
        omega (
          arith,
          h,
          times_cons t r.1 (suc r.1 ∷ given_slots nodes given),
          times_cons t (suc r.1) (given_slots nodes given),
          times_cons t r.1 (map (λ r. r.1) given),
          times_cons t (suc r.1) (given_halves nodes given),
        )
    ways false h = omega (arith, h, times_cons t r.1 (given_slots nodes given), times_cons t r.1 (map (λ r. r.1) given))

-- a wide node's second half is counted among the second halves
half_given : (nodes : List Node) (given : List (ℕ × ℕ)) (k s : ℕ) → Among (k, s) given → is_wide (tag_at nodes k) ≡ true → 1 ≤ times (suc s) (given_halves nodes given)
unfolding given_halves
half_given nodes [] k s (i, h) w = clash (cc)
half_given nodes (r ∷ given) k s (zero, h) w =
    let key : r.0 ≡ k = ap (λ (o : Option (ℕ × ℕ)). elim o [ none ↦ k | some x ↦ x.0 ]) h in
    let slot : r.1 ≡ s = ap (λ (o : Option (ℕ × ℕ)). elim o [ none ↦ s | some x ↦ x.1 ]) h in
    rw (ap (λ n. is_wide (tag_at nodes n)) key ∙ w, given_halves, slot) (among-times (suc s) (suc s ∷ given_halves nodes given) (0, refl))
half_given nodes (r ∷ given) k s (suc i, h) w = go (is_wide (tag_at nodes r.0)) (half_given nodes given k s (i, h) w)
  where
    go :
        (b : Bool) →
        1 ≤ times (suc s) (given_halves nodes given) →
        1 ≤ times (suc s) (elim b [ true ↦ suc r.1 ∷ given_halves nodes given | false ↦ given_halves nodes given ])
    go true rest = omega (arith, rest, times_cons (suc s) (suc r.1) (given_halves nodes given))
    go false rest = rest

-- a node at a slot takes it, and the next if it is wide
abbrev pub NodeTakes : List Node → ℕ → ℕ → ℕ → Type 0
NodeTakes nodes k s t = (t ≡ s) ⊎ ((is_wide (tag_at nodes k) ≡ true) × (t ≡ suc s))

-- what it takes is counted among the slots given out
given_counted : (nodes : List Node) (given : List (ℕ × ℕ)) (k s t : ℕ) → Among (k, s) given → NodeTakes nodes k s t → 1 ≤ times t (given_slots nodes given)
given_counted nodes given k s t a (inl e) =
    let here = among-times s (map (λ r. r.1) given) (a.0, map_at (λ (r : ℕ × ℕ). r.1) given a.0 (k, s) a.1) in
    rw e (omega (arith, times_given s nodes given, here))
given_counted nodes given k s t a (inr (w, e)) = rw e (omega (arith, times_given (suc s) nodes given, half_given nodes given k s a w))

-- what is to hold a node was given a slot, or is raw
pub to_hold_among : (r : ℕ × ℕ) (given raws : List (ℕ × ℕ)) → Among r (to_hold given raws) → Among (r.1, r.0) given ⊎ Among r raws
to_hold_among r [] raws a = inr a
to_hold_among r (x ∷ given) raws (zero, h) =
    let same : (x.1, x.0) ≡ r = cc in
    inl (0, ap (λ (y : ℕ × ℕ). some (y.1, y.0)) same)
to_hold_among r (x ∷ given) raws (suc i, h) = go (to_hold_among r given raws (i, h))
  where
    go : Among (r.1, r.0) given ⊎ Among r raws → Among (r.1, r.0) (x ∷ given) ⊎ Among r raws
    go (inl (j, e)) = inl (suc j, e)
    go (inr e) = inr e

-- what is to hold a node starts where it was given, or raw
times_to_hold : (t : ℕ) (given raws : List (ℕ × ℕ)) → times t (map (λ r. r.0) (to_hold given raws)) ≡ times t (map (λ r. r.1) given) + times t (map (λ r. r.0) raws)
unfolding times
times_to_hold t [] raws = omega arith
times_to_hold t (r ∷ given) raws =
    omega (
      arith,
      times_to_hold t given raws,
      times_cons t r.1 (map (λ r. r.0) (to_hold given raws)),
      times_cons t r.1 (map (λ r. r.1) given),
    )

-- a second half that is raw is counted
half_held_lem : (held : List (ℕ × Held)) (n : ℕ) → Among (n, half) held → 1 ≤ times n (half_slots held)
unfolding half_slots
half_held_lem [] n (i, h) = clash (cc)
half_held_lem ((m, starts e) ∷ held) n (zero, h) =
    let kind = some-row (m, starts e) (n, half) h in
    clash (cc)
half_held_lem ((m, starts e) ∷ held) n (suc i, h) = half_held_lem held n (i, h)
half_held_lem ((m, half) ∷ held) n (zero, h) =
    let same = some_key (m, half) (n, half) h in
    rw same (among-times n (n ∷ half_slots held) (0, refl))
half_held_lem ((m, half) ∷ held) n (suc i, h) = omega (arith, half_held_lem held n (i, h), times_cons n m (half_slots held))

-- the count is one more than the highest slot, or the first slot of the gap that ends there
count_gap : (top : ℕ) (gaps : List Gap) → (count_from top gaps ≡ suc top) ⊎ ((i : ℕ) × (g : Gap) × (get_elem? gaps i ≡ some g) × (g.last ≡ top) × (count_from top gaps ≡ g.first))
unfolding count_from
count_gap top [] = inl refl
count_gap top (g ∷ gaps) =
    decided (eqb g.last top) g.first (count_from top gaps) (count_from top (g ∷ gaps)) refl
    (λ t e. inr (0, g, refl, eqb-true g.last top t, sym e))
    (λ t e. rw (sym e) (later (count_gap top gaps)))
  where
    later :
        (count_from top gaps ≡ suc top) ⊎ ((i : ℕ) × (h : Gap) × (get_elem? gaps i ≡ some h) × (h.last ≡ top) × (count_from top gaps ≡ h.first)) →
        (count_from top gaps ≡ suc top) ⊎ ((i : ℕ) × (h : Gap) × (get_elem? (g ∷ gaps) i ≡ some h) × (h.last ≡ top) × (count_from top gaps ≡ h.first))
    later (inl e) = inl e
    later (inr (i, h, at, e, f)) = inr (suc i, h, at, e, f)

-- it is at least 1 and at most one more than the highest slot
pub count_range : (top : ℕ) (gaps : List Gap) → Apart top 1 gaps → (1 ≤ count_from top gaps) × (count_from top gaps ≤ suc top)
count_range top gaps a = go (count_gap top gaps)
  where
    go :
        (count_from top gaps ≡ suc top) ⊎ ((i : ℕ) × (g : Gap) × (get_elem? gaps i ≡ some g) × (g.last ≡ top) × (count_from top gaps ≡ g.first)) →
        (1 ≤ count_from top gaps) × (count_from top gaps ≤ suc top)
    go (inl e) = (omega (arith, e), omega (arith, e))
    go (inr (i, g, at, e, f)) =
        let h = apart_at top 1 i gaps g a at in
        (omega (arith, h, e, f), omega (arith, h, e, f))

-- the slots from it to the highest are free
count_free : (top t : ℕ) (gaps : List Gap) → count_from top gaps ≤ t → t ≤ top → Among t (free_slots gaps)
count_free top t gaps low high = go (count_gap top gaps)
  where
    go :
        (count_from top gaps ≡ suc top) ⊎ ((i : ℕ) × (g : Gap) × (get_elem? gaps i ≡ some g) × (g.last ≡ top) × (count_from top gaps ≡ g.first)) →
        Among t (free_slots gaps)
    go (inl e) = absurd (omega (arith, e, low, high))
    go (inr (i, g, at, e, f)) = within-free t i gaps g at (omega (arith, f, low)) (omega (arith, e, high))

module _
    (top : ℕ)
    (held : List (ℕ × Held))
    (nodes : List Node)
    (p : Pool)
    (raws : List (ℕ × ℕ))
    (sound : Sound top held nodes p)
    (rawKeys : (t : ℕ) → times t (map (λ r. r.0) raws) ≡ times t (map (λ r. r.0) (starters held)))
    (rawWide : (s k : ℕ) → Among (s, k) raws → is_wide (tag_at nodes k) ≡ true → Among (suc s, half) held) where
  -- starts, second halves and free slots are the slots from 1 to the highest
  one_place :
      (t : ℕ) →
      times t (map (λ r. r.0) (to_hold p.given raws))
      + (times t (half_slots held) + times t (given_halves nodes p.given))
      + times t (free_slots p.slots.gaps)
      ≡ times t (run 1 top)
  unfolding all_slots
  one_place t =
      omega (
        arith,
        sym (total_times t (all_slots held nodes p)) ∙ sound.counted (once t) ∙ total_times t (run 1 top),
        times_append t (map (λ h. h.0) held) (given_slots nodes p.given ++ free_slots p.slots.gaps),
        times_append t (given_slots nodes p.given) (free_slots p.slots.gaps),
        times_held t held,
        times_given t nodes p.given,
        times_to_hold t p.given raws,
        rawKeys t,
      )

  -- a slot stands among those from 1 to the highest once at most, and only if it is one
  run-once : (t : ℕ) → (times t (run 1 top) ≤ 1) × (1 ≤ times t (run 1 top) → (1 ≤ t) × (t ≤ top))
  run-once t = low (order t 1)
    where
      high : 1 ≤ t → (t < 1 + top) ⊎ (1 + top ≤ t) → (times t (run 1 top) ≤ 1) × (1 ≤ times t (run 1 top) → (1 ≤ t) × (t ≤ top))
      high from (inl h) = (omega (arith, times_run t 1 top from h), λ _. (from, omega (arith, h)))
      high from (inr h) = (omega (arith, times_high t 1 top h), λ z. absurd (omega (arith, times_high t 1 top h)))

      low : (t < 1) ⊎ (1 ≤ t) → (times t (run 1 top) ≤ 1) × (1 ≤ times t (run 1 top) → (1 ≤ t) × (t ≤ top))
      low (inl h) = (omega (arith, times_low t 1 top h), λ z. absurd (omega (arith, times_low t 1 top h)))
      low (inr h) = high h (order t (1 + top))

  -- no slot that was given out, whole or second half, is raw-held
  pub raw_not-given : (k s t : ℕ) → Among t (keys held) → Among (k, s) p.given → NodeTakes nodes k s t → ⊥
  unfolding all_slots
  raw_not-given k s t a g takes =
      omega (
        arith,
        sym (total_times t (all_slots held nodes p)) ∙ sound.counted (once t) ∙ total_times t (run 1 top),
        times_append t (map (λ h. h.0) held) (given_slots nodes p.given ++ free_slots p.slots.gaps),
        times_append t (given_slots nodes p.given) (free_slots p.slots.gaps),
        among-times t (keys held) a,
        given_counted nodes p.given k s t g takes,
        (run-once t).0,
      )

  -- no slot is to hold two nodes
  pub starts-once : (t : ℕ) → times t (map (λ r. r.0) (to_hold p.given raws)) ≤ 1
  starts-once t = omega (arith, one_place t, (run-once t).0)

  -- a slot that isn't free lies below the count, if it is a slot
  below_count_lem : (t : ℕ) → t ≤ top → times t (free_slots p.slots.gaps) ≡ 0 → t < count_from top p.slots.gaps
  below_count_lem t high taken = go (order t (count_from top p.slots.gaps))
    where
      go : (t < count_from top p.slots.gaps) ⊎ (count_from top p.slots.gaps ≤ t) → t < count_from top p.slots.gaps
      go (inl h) = h
      go (inr h) = absurd (omega (arith, taken, among-times t (free_slots p.slots.gaps) (count_free top t p.slots.gaps h high)))

  start_counted : (s k : ℕ) → Among (s, k) (to_hold p.given raws) → 1 ≤ times s (map (λ r. r.0) (to_hold p.given raws))
  start_counted s k a = among-times s (map (λ r. r.0) (to_hold p.given raws)) (a.0, map_at (λ (r : ℕ × ℕ). r.0) (to_hold p.given raws) a.0 (s, k) a.1)

  -- a slot that is to hold a node lies from 1 to below the count
  pub start_in : (s k : ℕ) → Among (s, k) (to_hold p.given raws) → (1 ≤ s) × (s ≤ top) × (s < count_from top p.slots.gaps)
  start_in s k a =
      let n = start_counted s k a in
      let r = (run-once s).1 (omega (arith, n, one_place s)) in
      (r.0, r.1, below_count_lem s r.1 (omega (arith, n, one_place s, (run-once s).0)))

  -- the second half of a wide one is counted
  half_counted :
      (s k : ℕ) →
      Among (s, k) (to_hold p.given raws) →
      is_wide (tag_at nodes k) ≡ true →
      1 ≤ times (suc s) (half_slots held) + times (suc s) (given_halves nodes p.given)
  half_counted s k a w = go (to_hold_among (s, k) p.given raws a)
    where
      go : Among (k, s) p.given ⊎ Among (s, k) raws → 1 ≤ times (suc s) (half_slots held) + times (suc s) (given_halves nodes p.given)
      go (inl g) = omega (arith, half_given nodes p.given k s g w)
      go (inr r) = omega (arith, half_held_lem held (suc s) (rawWide s k r w))

  -- so it lies below the count, and nothing starts there
  pub wide_in_lem : (s k : ℕ) → Among (s, k) (to_hold p.given raws) → is_wide (tag_at nodes k) ≡ true → suc s < count_from top p.slots.gaps
  wide_in_lem s k a w =
      let n = half_counted s k a w in
      let r = (run-once (suc s)).1 (omega (arith, n, one_place (suc s))) in
      below_count_lem (suc s) r.1 (omega (arith, n, one_place (suc s), (run-once (suc s)).0))

  pub wide_apart : (s k k' : ℕ) → Among (s, k) (to_hold p.given raws) → is_wide (tag_at nodes k) ≡ true → Among (suc s, k') (to_hold p.given raws) → ⊥
  wide_apart s k k' a w b = omega (arith, half_counted s k a w, start_counted (suc s) k' b, one_place (suc s), (run-once (suc s)).0)
