-- EXACTLY: a request for a constant that has no slot is refused exactly if no free slot, or no two neighbours, would do. Assumes nothing.
use mathlib.Core.Bool.{Bool, true, false}
use mathlib.Core.List.{List}
use mathlib.Core.Logic.{◌↔◌}
use mathlib.Core.Option.{Option, none, some}
use mathlib.Core.Path.{◌≡◌, refl, sym, ap, ◌∙◌}
use Prim.Native.Nat.{ℕ, suc, ◌≤◌, ◌<◌}
use native.Mathlib.Omega.{arith}
use lib.ListN.{get_elem?}
use Rattle.definition.specs.Basics.{bad, lookup}
use Rattle.definition.specs.Shapes.{is_wide}
use Rattle.definition.specs.Definitions.{Held, tag_at}
use Rattle.definition.specs.Resolving.{Node}
use Rattle.definition.specs.Slots.{Gap, size, Slots, narrow_slot, wide_slot, slot_for}
use Rattle.definition.specs.Building.{Pool, no_slot, give, allocate}
use Rattle.facts.specs.Lists.{Among}
use Rattle.facts.proofs.Lists.{true≢false}
use Rattle.facts.proofs.Results.{bad≢good}
use Rattle.laws.specs.Statements.{free_slots, Exactly}
use Rattle.laws.proofs.Slots.Gaps.{free_within, within-free, neighbours}
use Rattle.laws.proofs.Slots.SlotRequest.{wide_taken, wide_refused, narrow_taken, narrow_refused, allocate-new}
use Rattle.laws.proofs.Slots.PoolsThatOccur.{Sound, sound}

-- a slot is free
abbrev Free : Pool → ℕ → Type 0
Free p s = Among s (free_slots p.slots.gaps)

-- a request that has to find a slot is refused just if it finds none
give-refused : (ldc : Bool) (k code : ℕ) (p : Pool) (o : Option (ℕ × Slots)) → give ldc k p o ≡ bad code → o ≡ none
unfolding give
give-refused ldc k code p none h = refl
give-refused ldc k code p (some r) h = bad≢good (sym h)

pub request_refused :
    (nodes : List Node) (ldc : Bool) (k code : ℕ) (p : Pool) →
    lookup k p.given ≡ none →
    allocate nodes ldc k p ≡ bad code →
    slot_for (is_wide (tag_at nodes k)) ldc p.slots ≡ none
request_refused nodes ldc k code p new h =
    give-refused ldc k code p (slot_for (is_wide (tag_at nodes k)) ldc p.slots) (sym (allocate-new nodes ldc k p new) ∙ h)

pub refused_request :
    (nodes : List Node) (ldc : Bool) (k : ℕ) (p : Pool) →
    lookup k p.given ≡ none →
    slot_for (is_wide (tag_at nodes k)) ldc p.slots ≡ none →
    allocate nodes ldc k p ≡ bad (no_slot ldc)
unfolding give
refused_request nodes ldc k p new h = allocate-new nodes ldc k p new ∙ ap (give ldc k p) h

-- a narrow one
pub narrow_exactly :
    (top : ℕ) (held : List (ℕ × Held)) (nodes : List Node) (p : Pool) (k : ℕ) (ldc : Bool) →
    Sound top held nodes p →
    lookup k p.given ≡ none →
    is_wide (tag_at nodes k) ≡ false →
    (allocate nodes ldc k p ≡ bad (no_slot ldc)) ↔ ((s : ℕ) → Free p s → (ldc ≡ true → s ≤ 255) → ⊥)
unfolding slot_for size
narrow_exactly top held nodes p k ldc i new thin = (without, refused)
  where
    same : slot_for (is_wide (tag_at nodes k)) ldc p.slots ≡ narrow_slot ldc p.slots
    same = rw thin refl

    without : allocate nodes ldc k p ≡ bad (no_slot ldc) → (s : ℕ) → Free p s → (ldc ≡ true → s ≤ 255) → ⊥
    without h s free low =
        let (at, g, e, l, u) = free_within s p.slots.gaps free in
        let (q, high) = narrow_refused ldc p.slots top 1 (sym same ∙ request_refused nodes ldc k (no_slot ldc) p new h) i.plain i.apart at g e (omega arith) in
        let b = low q in
        omega arith

    ways :
        ((s : ℕ) → Free p s → (ldc ≡ true → s ≤ 255) → ⊥) →
        (o : Option (ℕ × Slots)) →
        narrow_slot ldc p.slots ≡ o →
        allocate nodes ldc k p ≡ bad (no_slot ldc)
    ways h none e = refused_request nodes ldc k p new (same ∙ e)
    ways h (some (n, s')) e =
        let (t, low) = narrow_taken ldc p.slots n s' e in
        let enough : 1 ≤ size t.gap = t.enough in
        let slot : n ≡ t.gap.first = t.slot in
        absurd (h n (within-free n t.at p.slots.gaps t.gap t.there (omega arith) (omega arith)) low)

    refused : ((s : ℕ) → Free p s → (ldc ≡ true → s ≤ 255) → ⊥) → allocate nodes ldc k p ≡ bad (no_slot ldc)
    refused h = ways h (narrow_slot ldc p.slots) refl

-- a wide one
pub wide_exactly :
    (top : ℕ) (held : List (ℕ × Held)) (nodes : List Node) (p : Pool) (k : ℕ) (ldc : Bool) →
    Sound top held nodes p →
    lookup k p.given ≡ none →
    is_wide (tag_at nodes k) ≡ true →
    (allocate nodes ldc k p ≡ bad (no_slot ldc)) ↔ ((s : ℕ) → Free p s → Free p (suc s) → ⊥)
unfolding slot_for size
wide_exactly top held nodes p k ldc i new thick = (without, refused)
  where
    same : slot_for (is_wide (tag_at nodes k)) ldc p.slots ≡ wide_slot p.slots
    same = rw thick refl

    small : allocate nodes ldc k p ≡ bad (no_slot ldc) → (at : ℕ) (g : Gap) → get_elem? p.slots.gaps at ≡ some g → size g < 2
    small h = wide_refused p.slots (sym same ∙ request_refused nodes ldc k (no_slot ldc) p new h) i.wide

    without : allocate nodes ldc k p ≡ bad (no_slot ldc) → (s : ℕ) → Free p s → Free p (suc s) → ⊥
    without h s free next =
        let w = free_within s p.slots.gaps free in
        let two = neighbours top 1 s p.slots.gaps i.apart w (free_within (suc s) p.slots.gaps next) in
        let few : size w.1 < 2 = small h w.0 w.1 w.2 in
        let low = w.3 in
        omega arith

    ways :
        ((s : ℕ) → Free p s → Free p (suc s) → ⊥) →
        (o : Option (ℕ × Slots)) →
        wide_slot p.slots ≡ o →
        allocate nodes ldc k p ≡ bad (no_slot ldc)
    ways h none e = refused_request nodes ldc k p new (same ∙ e)
    ways h (some (n, s')) e =
        let t = wide_taken p.slots n s' e in
        let enough : 2 ≤ size t.gap = t.enough in
        let slot : n ≡ t.gap.first = t.slot in
        absurd
        (h
        n
        (within-free n t.at p.slots.gaps t.gap t.there (omega arith) (omega arith))
        (within-free (suc n) t.at p.slots.gaps t.gap t.there (omega arith) (omega arith)))

    refused : ((s : ℕ) → Free p s → Free p (suc s) → ⊥) → allocate nodes ldc k p ≡ bad (no_slot ldc)
    refused h = ways h (wide_slot p.slots) refl

pub exactly : Exactly
unfolding no_slot
exactly top held nodes p k o new =
    let i = sound o in (
      λ thin. let (a, b) = narrow_exactly top held nodes p k true i new thin in (λ h s free low. a h s free (λ t. low), λ h. b (λ s free low. h s free (low refl))),
      λ thin. let (a, b) = narrow_exactly top held nodes p k false i new thin in (λ h s free. a h s free (λ t. true≢false (sym t)), λ h. b (λ s free low. h s free)),
      λ ldc thick. wide ldc (wide_exactly top held nodes p k ldc i new thick),
    )
  where
    wide :
        (ldc : Bool) →
        (allocate nodes ldc k p ≡ bad (no_slot ldc)) ↔ ((s : ℕ) → Free p s → Free p (suc s) → ⊥) →
        (allocate nodes ldc k p ≡ bad (elim ldc [ true ↦ 15 | false ↦ 14 ])) ↔ ((s : ℕ) → Free p s → Free p (suc s) → ⊥)
    wide true h = h
    wide false h = h
