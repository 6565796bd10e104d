-- The pool's count, once the name has its slot. Assumes nothing.
use mathlib.Core.List.{List, [], ◌∷◌}
use mathlib.Core.Path.{◌≡◌, refl, ◌∙◌}
use Prim.Native.Nat.{ℕ, ◌≤◌, ◌<◌}
use native.Mathlib.Omega.{arith}
use lib.ListN.{length, get_or}
use lib.Seq.{get_or-set_same, get_or-set_other}
use Rattle.definition.specs.Slots.{count_from}
use Rattle.facts.specs.Lists.{Rising}
use Rattle.laws.specs.Gaps.{Apart}
use Rattle.laws.proofs.Slots.SlotsToHold.{count_range}
use Rattle.slots.specs.Gaps.{GapTable, gaps_at, ends}
use Rattle.slots.proofs.Given.{apart_ends}
use Rattle.store.specs.Store.{Store, put}
use Rattle.store.specs.Regions.{COUNTS, ODD, WIDE, PLAIN, GAP-COUNT, NAME-SLOT, POOL-COUNT}
use Rattle.store.proofs.Keeping.{kept_put}
use Rattle.pool.specs.Pooled.{gaps_in}
use Rattle.pool.proofs.Giving.{SameGaps, slots_same}
use Rattle.ending.specs.Ended.{name_in, CanEnd, PoolEnded}
use Rattle.ending.specs.Naming.{CanName, PoolNamed}
use Rattle.ending.proofs.Counters.{among-last, gaps_set}

-- what the name asks
pub can_name : (s p : List ℕ) (top : ℕ) (t : Store) (g : GapTable) → CanEnd s p top t g → CanName s p t g
can_name s p top t g can = record { nodes = can.nodes; raws = can.raws; gaps = can.gaps; build = can.build; unnamed = can.unnamed }

module _ (s p : List ℕ) (top : ℕ) (t v : Store) (g h : GapTable) (r : ℕ) (can : CanEnd s p top t g) (named : PoolNamed s p t v g h r) where
  apart : Apart top 1 (gaps_in (v COUNTS) h)
  apart = named.apart top can.apart

  module _ (count : ℕ) (is : count ≡ get_or (v COUNTS) GAP-COUNT 0) where
    -- what the count asks
    pub count_asks : (count ≤ length h) × Rising 0 top (ends (gaps_at h count)) × (top ≤ 65535)
    count_asks = rw is (named.live.inside, apart_ends top 0 (gaps_in (v COUNTS) h) apart, omega (arith, can.few))

    module _ (n : ℕ) (counted : n ≡ count_from top (gaps_at h count)) where
      number : n ≡ count_from top (gaps_in (v COUNTS) h)
      number = counted ∙ rw is

      -- it is a word
      pub count_small : n ≤ 65535
      count_small = omega (arith, can.few, number, (count_range top (gaps_in (v COUNTS) h) apart).1)

      module _ (room : POOL-COUNT < length (v COUNTS)) where
        abbrev after : Store
        after = put v COUNTS POOL-COUNT n

        others : (c : ℕ) → (c ≡ POOL-COUNT → ⊥) → get_or (after COUNTS) c 0 ≡ get_or (v COUNTS) c 0
        others c other = get_or-set_other (v COUNTS) POOL-COUNT c n 0 other

        same-gaps : SameGaps (v COUNTS) (after COUNTS)
        same-gaps = gaps_set (v COUNTS) POOL-COUNT n refl

        gaps : get_or (after COUNTS) GAP-COUNT 0 ≡ get_or (v COUNTS) GAP-COUNT 0
        gaps = same-gaps.count

        name : name_in after ≡ name_in v
        name = others NAME-SLOT (λ e. omega arith)

        pub ended : (u : Store) → u ≡ after → PoolEnded s p top t u g h r
        ended u e =
            rw e
            (record {
              met =
                  λ m q rowed z.
                  let (made, is, has) = named.met m q rowed z in (
                    made,
                    is ∙ rw name,
                    record {
                      slots = slots_same (v COUNTS) (after COUNTS) h same-gaps ∙ has.slots;
                      rows = has.rows;
                      unnamed = rw name has.unnamed;
                      named = rw name has.named;
                    },
                  );
              refused = named.refused;
              count = get_or-set_same (v COUNTS) POOL-COUNT n 0 room ∙ number ∙ rw gaps;
              low = λ all. rw name (named.low all);
              apart = rw gaps apart;
              long = named.long;
              counters = λ c f. let (other, few) = among-last c POOL-COUNT (ODD ∷ WIDE ∷ PLAIN ∷ NAME-SLOT ∷ []) f in others c other ∙ named.counters c few;
              kept = kept_put (COUNTS ∷ []) t v COUNTS POOL-COUNT n refl named.kept;
            })
