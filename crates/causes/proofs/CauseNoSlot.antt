-- Why a step of a run gets no slot, no index, or for ldc a slot above 255, over pools and rows that occur. Assumes nothing.
use mathlib.Core.Bool.{Bool, true, false}
use mathlib.Core.List.{List}
use mathlib.Core.Logic.{◌⊎◌, inl, inr}
use mathlib.Core.Option.{Option, none, some}
use mathlib.Core.Path.{◌≡◌, refl, sym, ap, subst, ◌∙◌}
use Prim.Native.Nat.{ℕ, suc, ◌≤◌, ◌<◌}
use native.Mathlib.Omega.{arith}
use lib.ListN.{get_elem?}
use borrow.Author.Tests.{leb-true, leb-false}
use Rattle.definition.specs.Basics.{good, bad, lookup}
use Rattle.definition.specs.Shapes.{is_wide}
use Rattle.definition.specs.Job.{Job}
use Rattle.definition.specs.Numbering.{top_of}
use Rattle.definition.specs.Definitions.{Held, Defined, tag_at, define_all, nothing_defined}
use Rattle.definition.specs.Resolving.{Node}
use Rattle.definition.specs.Slots.{Gap, size, Slots, wide_slot, slot_for}
use Rattle.definition.specs.Building.{Pool, no_slot, allocate}
use Rattle.facts.specs.Lists.{Among}
use Rattle.facts.proofs.Lists.{none≢some, true≢false, some_inj, order}
use Rattle.laws.specs.Statements.{Occurs, free_slots}
use Rattle.causes.specs.CauseStatement.{NoSlot, no_pair, none_low, none_at_all, Lacks}
use Rattle.laws.proofs.Slots.Gaps.{scan-at, apart_firsts, free_within, within-free, neighbours}
use Rattle.laws.proofs.Slots.SlotRequest.{under_scan, has_two, wide_at, Met, old, new, met, narrow_taken}
use Rattle.laws.proofs.Slots.PoolsThatOccur.{sound}
use Rattle.laws.proofs.Slots.Exactly.{exactly}
use Rattle.laws.proofs.Runs.StepRefusals.{allocate-refused}
use Rattle.causes.proofs.CauseDefinitions.{all, constants}
use Rattle.causes.proofs.FreeSlots.{pool_free, free_pool}

-- a slot stands in a gap
abbrev pub InGaps : Pool → ℕ → Type 0
InGaps p s = Among s (free_slots p.slots.gaps)

-- there is no slot, said of the same slots and the same constants in another way
pub no_slot-same :
    {wide wide' : Type 0} {free free' : ℕ → Type 0} {ldc : Bool} →
    (wide → wide') →
    (wide' → wide) →
    ((s : ℕ) → free' s → free s) →
    NoSlot wide free ldc →
    NoSlot wide' free' ldc
no_slot-same to back f (no_pair ldc w h) = no_pair ldc (to w) (λ s a b. h s (f s a) (f (suc s) b))
no_slot-same to back f (none_low n h) = none_low (λ w. n (back w)) (λ s a l. h s (f s a) l)
no_slot-same to back f (none_at_all n h) = none_at_all (λ w. n (back w)) (λ s a. h s (f s a))

not-true : (b : Bool) → (b ≡ true → ⊥) → b ≡ false
not-true true h = absurd (h refl)
not-true false h = refl

-- a node that is refused a slot has none, and there is none for it
pub lacks :
    (top : ℕ) (held : List (ℕ × Held)) (nodes : List Node) (p : Pool) (ldc : Bool) (k code : ℕ) →
    Occurs top held nodes p →
    allocate nodes ldc k p ≡ bad code →
    (lookup k p.given ≡ none) × NoSlot (is_wide (tag_at nodes k) ≡ true) (InGaps p) ldc
unfolding no_slot
lacks top held nodes p ldc k code o e = (r.0, go ldc (is_wide (tag_at nodes k)) refl (subst (λ c. allocate nodes ldc k p ≡ bad c) r.1 e))
  where
    r : (lookup k p.given ≡ none) × (code ≡ no_slot ldc)
    r = allocate-refused nodes ldc k code p e

    go : (ldc wide : Bool) → is_wide (tag_at nodes k) ≡ wide → allocate nodes ldc k p ≡ bad (no_slot ldc) → NoSlot (is_wide (tag_at nodes k) ≡ true) (InGaps p) ldc
    go true true w h = no_pair true w (((exactly top held nodes p k o r.0).2 true w).0 h)
    go false true w h = no_pair false w (((exactly top held nodes p k o r.0).2 false w).0 h)
    go true false w h = none_low (λ t. true≢false (sym t ∙ w)) (λ s f l. ((exactly top held nodes p k o r.0).0 w).0 h s f (omega (arith, l)))
    go false false w h = none_at_all (λ t. true≢false (sym t ∙ w)) (((exactly top held nodes p k o r.0).1 w).0 h)

-- and the other way
pub lacks_refused :
    (top : ℕ) (held : List (ℕ × Held)) (nodes : List Node) (p : Pool) (ldc : Bool) (k : ℕ) →
    Occurs top held nodes p →
    lookup k p.given ≡ none →
    NoSlot (is_wide (tag_at nodes k) ≡ true) (InGaps p) ldc →
    allocate nodes ldc k p ≡ bad (no_slot ldc)
unfolding no_slot
lacks_refused top held nodes p ldc k o unheld (no_pair b w h) = go ldc
  where
    go : (ldc : Bool) → allocate nodes ldc k p ≡ bad (no_slot ldc)
    go true = ((exactly top held nodes p k o unheld).2 true w).1 h
    go false = ((exactly top held nodes p k o unheld).2 false w).1 h
lacks_refused top held nodes p ldc k o unheld (none_low n h) = ((exactly top held nodes p k o unheld).0 (not-true (is_wide (tag_at nodes k)) n)).1 (λ s f l. h s f (omega (arith, l)))
lacks_refused top held nodes p ldc k o unheld (none_at_all n h) = ((exactly top held nodes p k o unheld).1 (not-true (is_wide (tag_at nodes k)) n)).1 h

-- a wide request that is met gets the first two neighbours that are free
wide_first : (s : Slots) (n : ℕ) (s' : Slots) → wide_slot s ≡ some (n, s') → (g : Gap) × (get_elem? s.gaps (wide_at s) ≡ some g) × (n ≡ g.first)
unfolding wide_slot
wide_first s n s' h = go (get_elem? s.gaps (wide_at s)) refl
  where
    go : (o : Option Gap) → get_elem? s.gaps (wide_at s) ≡ o → (g : Gap) × (get_elem? s.gaps (wide_at s) ≡ some g) × (n ≡ g.first)
    go none e = none≢some (rw (e, wide_slot) at h)
    go (some g) e = (g, e, ap (λ (r : ℕ × Slots). r.0) (some_inj (sym (rw (e, wide_slot) at h))))

-- a pair of free neighbours, and the lowest
abbrev pub LowestPair : Pool → ℕ → Type 0
LowestPair p n = InGaps p n × InGaps p (suc n) × ((t : ℕ) → InGaps p t → InGaps p (suc t) → n ≤ t)

pub wide_pair :
    (top : ℕ) (held : List (ℕ × Held)) (nodes : List Node) (p : Pool) (n : ℕ) (s' : Slots) →
    Occurs top held nodes p →
    wide_slot p.slots ≡ some (n, s') →
    LowestPair p n
unfolding size
wide_pair top held nodes p n s' o h =
    let (g, at, first) = wide_first p.slots n s' h in
    let two : 2 ≤ size g = leb-true 2 (size g) (scan-at has_two p.slots.wide gaps g at) in (
      within-free n (wide_at p.slots) gaps g at (omega arith) (omega arith),
      within-free (suc n) (wide_at p.slots) gaps g at (omega arith) (omega arith),
      λ t a b. lowest g at first t a b,
    )
  where
    gaps : List Gap
    gaps = p.slots.gaps

    lowest : (g : Gap) → get_elem? gaps (wide_at p.slots) ≡ some g → n ≡ g.first → (t : ℕ) → InGaps p t → InGaps p (suc t) → n ≤ t
    lowest g at first t a b =
        let w = free_within t gaps a in
        let next = neighbours top 1 t gaps (sound o).apart w (free_within (suc t) gaps b) in
        ways w next (order w.0 (wide_at p.slots))
      where
        ways :
            (w : (i : ℕ) × (x : Gap) × (get_elem? gaps i ≡ some x) × (x.first ≤ t) × (t ≤ x.last)) →
            suc t ≤ w.1.last →
            (w.0 < wide_at p.slots) ⊎ (wide_at p.slots ≤ w.0) →
            n ≤ t
        ways (i, x, e, l, u) next (inl before) =
            let small : size x < 2 = under_scan 2 has_two p.slots.wide gaps (λ y q. leb-false 2 (size y) q) (sound o).wide i x e before in
            absurd (omega arith)
        ways (i, x, e, l, u) next (inr from) =
            let higher = apart_firsts top 1 (wide_at p.slots) i gaps g x (sound o).apart at e from in
            omega arith

-- an ldc request that gets a slot above 255 had it, or is for a wide constant
pub data Above (nodes : List Node) (k : ℕ) (p : Pool) (s : ℕ) : Type 0 where
  had : lookup k p.given ≡ some s → Above nodes k p s
  gets : lookup k p.given ≡ none → is_wide (tag_at nodes k) ≡ true → InGaps p s → InGaps p (suc s) → ((t : ℕ) → InGaps p t → InGaps p (suc t) → s ≤ t) → Above nodes k p s

pub above :
    (top : ℕ) (held : List (ℕ × Held)) (nodes : List Node) (p : Pool) (k s : ℕ) (p' : Pool) →
    Occurs top held nodes p →
    allocate nodes true k p ≡ good (s, p') →
    255 < s →
    Above nodes k p s
unfolding slot_for
above top held nodes p k s p' o e high = go (met nodes true k s p p' e)
  where
    wide : (b : Bool) → is_wide (tag_at nodes k) ≡ b → lookup k p.given ≡ none → (slots : Slots) → slot_for b true p.slots ≡ some (s, slots) → Above nodes k p s
    wide true w unheld slots h = let l = wide_pair top held nodes p s slots o h in gets unheld w l.0 l.1 l.2
    wide false w unheld slots h = let t = (narrow_taken true p.slots s slots h).1 refl in absurd (omega arith)

    go : Met nodes true k p s p' → Above nodes k p s
    go (old h same) = had h
    go (new slots n h same) = wide (is_wide (tag_at nodes k)) refl n slots h

-- ---- while building

module _
    (job : Job (List ℕ))
    (d : Defined)
    (defined : define_all (top_of job) (constants job) 0 (all job) nothing_defined ≡ good d)
    (nodes : List Node)
    (p : Pool)
    (o : Occurs (top_of job) d.held nodes p)
    (k : ℕ) where
  pub pool_lacks : (code : ℕ) → allocate nodes false k p ≡ bad code → Lacks job nodes k p
  pool_lacks code e =
      let (unheld, none_free) = lacks (top_of job) d.held nodes p false k code o e in
      (unheld, no_slot-same (λ w. w) (λ w. w) (free_pool job d defined nodes p o) none_free)

  pub lacks_pool : Lacks job nodes k p → allocate nodes false k p ≡ bad 14
  unfolding no_slot
  lacks_pool (unheld, none_free) =
      lacks_refused (top_of job) d.held nodes p false k o unheld (no_slot-same (λ w. w) (λ w. w) (pool_free job d defined nodes p o) none_free)
