-- The node on top of the building stack leaves it. Assumes nothing.
use mathlib.Core.List.{List, [], ◌∷◌, map, reverse, reverse-append}
use mathlib.Core.Path.{◌≡◌, refl, ◌∙◌}
use Prim.Native.Nat.{ℕ, suc, ◌+◌, ◌-◌, ◌≤◌, ◌<◌}
use native.Mathlib.Omega.{arith}
use lib.ListN.{length, get_or, take}
use lib.Seq.{get_or-set_same, get_or-set_other, take-suc}
use Rattle.facts.proofs.Lists.{clash}
use Rattle.store.specs.Store.{Store, put}
use Rattle.store.specs.Regions.{COUNTS, PENDING, NODE-COUNT, PENDING-COUNT}
use Rattle.store.proofs.Keeping.{kept_put}
use Rattle.pool.specs.Pooled.{pending_count, Popped}
use Rattle.pool.proofs.Giving.{slots_same, gaps_live_same, same-gaps}

-- a list of pairs whose second parts begin with a number
top_of :
    (l : List (ℕ × ℕ)) (r : ℕ) (rest : List ℕ) → map (λ x. x.1) l ≡ r ∷ rest →
    (slot : ℕ) × (below : List (ℕ × ℕ)) × (l ≡ (slot, r) ∷ below) × (map (λ x. x.1) below ≡ rest)
top_of [] r rest e = clash (cc)
top_of ((slot, k) ∷ l) r rest e =
    let a : k ≡ r = cc in
    let b : map (λ x. x.1) l ≡ rest = cc in
    (slot, l, rw a, b)

module _ (t : Store) (i : ℕ) (size : PENDING-COUNT < length (t COUNTS)) (is : i + 1 ≡ pending_count t) (fits : pending_count t ≤ length (t PENDING)) where
  abbrev after : Store
  after = put t COUNTS PENDING-COUNT i

  count : get_or (after COUNTS) PENDING-COUNT 0 ≡ i
  count = get_or-set_same (t COUNTS) PENDING-COUNT i 0 size

  stack : reverse (take (pending_count t) (t PENDING)) ≡ get_or (t PENDING) i 0 ∷ reverse (take i (t PENDING))
  stack =
      let e : pending_count t ≡ suc i = omega arith in
      let l : i < length (t PENDING) = omega arith in
      rw (e, take-suc (t PENDING) i 0 l) (reverse-append (take i (t PENDING)) (get_or (t PENDING) i 0 ∷ []))

  popped : Popped t after (get_or (t PENDING) i 0)
  popped =
      let same = same-gaps (t COUNTS) i in
      record {
        pools =
            λ pool g q.
            let (slot, rest, e, f) = top_of pool.pending (get_or (t PENDING) i 0) (reverse (take i (t PENDING))) (q.pending ∙ stack) in (
              slot,
              rest,
              e,
              record { slots = slots_same (t COUNTS) (after COUNTS) g same ∙ q.slots; given = q.given; pending = f ∙ rw count },
            );
        live =
            λ g l. (
              record {
                gaps = gaps_live_same (t COUNTS) (after COUNTS) g same l.gaps;
                room = omega (arith, l.room, count);
                nodes =
                    λ j low.
                    rw (get_or-set_other (t COUNTS) PENDING-COUNT NODE-COUNT i 0 (λ e. omega arith)) (l.nodes j (omega (arith, count)));
              },
              l.nodes i (omega arith),
            );
        fewer = omega (arith, count);
        counters = λ c n. get_or-set_other (t COUNTS) PENDING-COUNT c i 0 n;
        kept = kept_put (COUNTS ∷ []) t t COUNTS PENDING-COUNT i refl (λ k f. refl);
      }

-- as the code has it
pub popped_all :
    (t u : Store) (i n r : ℕ) → PENDING-COUNT < length (t COUNTS) → n ≡ pending_count t → 0 < pending_count t → i ≡ n - 1 →
    pending_count t ≤ length (t PENDING) → u ≡ put t COUNTS PENDING-COUNT i → r ≡ get_or (u PENDING) i 0 → Popped t u r
popped_all t u i n r size m some is fits e f = rw (f, e) (popped t i size (omega arith) fits)
