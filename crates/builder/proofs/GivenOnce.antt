-- A pool that occurs gives a node one slot, and no raw-held one. Assumes nothing.
use mathlib.Core.Bool.{Bool, true, false}
use mathlib.Core.List.{List, [], ◌∷◌, ◌++◌}
use mathlib.Core.Logic.{◌⊎◌, inl, inr}
use mathlib.Core.Option.{none, some}
use mathlib.Core.Path.{◌≡◌, sym, ap, subst, ◌∙◌}
use Prim.Native.Nat.{ℕ, ◌+◌, ◌≤◌, ◌<◌}
use native.Mathlib.Omega.{arith}
use Rattle.definition.specs.Basics.{lookup, from}
use Rattle.definition.specs.Shapes.{is_wide}
use Rattle.definition.specs.Definitions.{Held, tag_at}
use Rattle.definition.specs.Resolving.{Node}
use Rattle.definition.specs.Building.{Pool}
use Rattle.facts.specs.Lists.{Among, keys}
use Rattle.facts.proofs.Lists.{none≢some, order, among-nil, among-cons, among-left, among-right, map_at}
use Rattle.facts.proofs.Tables.{lookup-hit, lookup-miss}
use Rattle.facts.proofs.Sums.{run, once, times, total_times, times_append, among-times, times_low, times_high, times_run, run-has}
use Rattle.laws.specs.Statements.{Occurs, after_definitions, after_request, more_resolved, stack_taken, given_slots, free_slots, all_slots}
use Rattle.laws.proofs.Slots.SlotRequest.{Met, old, new, met, width}
use Rattle.laws.proofs.Slots.PoolsThatOccur.{Sound, ended, given-cons}

-- what stands in the table is what is found
abbrev pub GivenOnce : List (ℕ × ℕ) → Type 0
GivenOnce given = (k n : ℕ) → Among (k, n) given → lookup k given ≡ some n

once_more : (k n : ℕ) (given : List (ℕ × ℕ)) → lookup k given ≡ none → GivenOnce given → GivenOnce ((k, n) ∷ given)
once_more k n given free h j i a = ways (among-cons (j, i) (k, n) given a)
  where
    ways : (◌≡◌ {A = ℕ × ℕ} (j, i) (k, n)) ⊎ Among (j, i) given → lookup j ((k, n) ∷ given) ≡ some i
    ways (inl q) = lookup-hit j (k, n) given (ap (λ (r : ℕ × ℕ). r.0) q) ∙ ap (λ (r : ℕ × ℕ). some r.1) (sym q)
    ways (inr b) =
        let there = h j i b in
        lookup-miss j (k, n) given (λ q. none≢some (sym free ∙ ap (λ x. lookup x given) (sym q) ∙ there)) ∙ there

met_once : (nodes : List Node) (ldc : Bool) (k n : ℕ) (p p' : Pool) → Met nodes ldc k p n p' → GivenOnce p.given → GivenOnce p'.given
met_once nodes ldc k n p p' (old e q) h = subst (λ (x : Pool). GivenOnce x.given) (sym q) h
met_once nodes ldc k n p p' (new slots e _ q) h = subst (λ (x : Pool). GivenOnce x.given) (sym q) (once_more k n p.given e h)

pub given-once : {top : ℕ} {held : List (ℕ × Held)} {nodes : List Node} {p : Pool} → Occurs top held nodes p → GivenOnce p.given
given-once (after_definitions ds constants table n d w defined is_ready same) =
    subst GivenOnce (sym (ended _ table n d w is_ready).1) (λ k n a. among-nil (k, n) a)
given-once (after_request {nodes} {p} ldc k n p' o low e) = met_once nodes ldc k n p p' (met nodes ldc k n p p' e) (given-once o)
given-once (more_resolved more o) = given-once o
given-once (stack_taken pending o) = given-once o

some-width : (b : Bool) → 1 ≤ width b
unfolding width
some-width true = omega arith
some-width false = omega arith

-- a slot that is given stands among those given
given-among : (nodes : List Node) (given : List (ℕ × ℕ)) (k n : ℕ) → Among (k, n) given → Among n (given_slots nodes given)
given-among nodes [] k n a = among-nil (k, n) a
given-among nodes (r ∷ given) k n a =
    subst (Among n) (sym (given-cons nodes r.0 r.1 given)) (ways (among-cons (k, n) r given a) (given-among nodes given k n))
  where
    ways :
        ((k, n) ≡ r) ⊎ Among (k, n) given → (Among (k, n) given → Among n (given_slots nodes given)) →
        Among n (run r.1 (width (is_wide (tag_at nodes r.0))) ++ given_slots nodes given)
    ways (inl q) rest =
        let same : n ≡ r.1 = ap (λ (x : ℕ × ℕ). x.1) q in
        among-left n (run r.1 (width (is_wide (tag_at nodes r.0)))) (given_slots nodes given)
        (run-has r.1 (width (is_wide (tag_at nodes r.0))) n (omega arith) (omega (arith, some-width (is_wide (tag_at nodes r.0)))))
    ways (inr b) rest = among-right n (run r.1 (width (is_wide (tag_at nodes r.0)))) (given_slots nodes given) (rest b)

run-few : (t top : ℕ) → times t (run 1 top) ≤ 1
run-few t top = low (order t 1)
  where
    high : 1 ≤ t → (t < 1 + top) ⊎ (1 + top ≤ t) → times t (run 1 top) ≤ 1
    high from (inl h) = omega (arith, times_run t 1 top from h)
    high from (inr h) = omega (arith, times_high t 1 top h)

    low : (t < 1) ⊎ (1 ≤ t) → times t (run 1 top) ≤ 1
    low (inl h) = omega (arith, times_low t 1 top h)
    low (inr h) = high h (order t (1 + top))

-- no raw-held slot is given
pub given-apart :
    (top : ℕ) (held : List (ℕ × Held)) (nodes : List Node) (p : Pool) → Sound top held nodes p → (k n : ℕ) (x : Held) → Among (k, n) p.given →
    Among (n, x) held → ⊥
unfolding all_slots
given-apart top held nodes p sound k n x a b =
    omega (
      arith,
      run-few n top,
      sym (total_times n (all_slots held nodes p)) ∙ sound.counted (once n) ∙ total_times n (run 1 top),
      times_append n (keys held) (given_slots nodes p.given ++ free_slots p.slots.gaps),
      times_append n (given_slots nodes p.given) (free_slots p.slots.gaps),
      among-times n (given_slots nodes p.given) (given-among nodes p.given k n a),
      among-times n (keys held) (b.0, map_at (λ (r : ℕ × Held). r.0) held b.0 (n, x) b.1),
    )
