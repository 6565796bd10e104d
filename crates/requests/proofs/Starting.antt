-- What record 50 leaves is what the pool starts from. Assumes nothing.
use mathlib.Core.List.{List}
use Prim.Native.Nat.{ℕ, ◌+◌, ◌/◌, ◌≤◌, ◌<◌}
use native.Mathlib.Omega.{arith}
use lib.ListN.{length}
use Rattle.definition.specs.Numbering.{constants_of}
use Rattle.definition.specs.Definitions.{Defined}
use Rattle.definition.specs.Resolving.{table_entry}
use Rattle.laws.specs.Statements.{IsBytes}
use Rattle.slots.specs.Gaps.{GapTable}
use Rattle.store.specs.Store.{Store}
use Rattle.store.specs.JobIn.{constants_in}
use Rattle.store.specs.Regions.{ODD, WIDE, PLAIN, PENDING-COUNT, Work}
use Rattle.store.proofs.Bounds.{small}
use Rattle.store.proofs.Laying.{work-sizes, work-formed}
use Rattle.definitions.specs.Defining.{records_in}
use Rattle.definitions.specs.Begun.{AtFifty}
use Rattle.pool.specs.Starting.{CanStart, SomeStart}
use Rattle.pool.proofs.Fitting.{gaps_fit, stack_fits}
use Rattle.requests.proofs.Settling.{fifty_going, entry_done, slot-starts, start_goal}

module _ (s p : List ℕ) (work : Work s p) (bytes : IsBytes s) (top : ℕ) (low : top < 65535) (t : Store) (d : Defined) (f : AtFifty p top s t d) where
  pub can_start : (g : GapTable) → length s / 5 + 2 ≤ length g → CanStart p (constants_in s) top d.held d.indexes t g
  unfolding records_in
  can_start g room =
      let well = work-formed s p work in
      let z = work-sizes s p work in
      let b = small s well in
      let r = f.raws in
      record {
        few = omega arith;
        ordered = f.ordered;
        rising = r.held_rise;
        counted = r.held_counted;
        among-raws = omega (arith, r.counted, r.held_counted);
        keys-room = f.room;
        entries-room = omega (arith, f.room, z.raw_keys, z.raw_entries);
        order_room_lem = omega (arith, f.room, z.raw_keys, z.order);
        done =
            λ i l other.
            let item = f.ordered.slot_items i l in
            let goal = start_goal (constants_in s) d _ _ (slot-starts top d _ _ item other) in
            let q = entry_done s t f.rest.faithful _ ((fifty_going s p well bytes top t d f).1 (table_entry _) goal) in
            (q.1, q.2);
        nodes = omega (arith, f.rest.nodes.few, b.entries);
        gaps_room = gaps_fit s well top (constants_of (records_in s)) d f.is_defined (length g) room;
        stack_room = stack_fits s well top (constants_of (records_in s)) d f.is_defined p work;
        stack_few = omega (arith, z.pending, b.constants, b.bootstraps, b.raw_constants);
        counts = z.counts;
        odd = f.counters ODD (omega arith);
        wide = f.counters WIDE (omega arith);
        plain = f.counters PLAIN (omega arith);
        empty = f.counters PENDING-COUNT (omega arith);
        given = f.given;
      }

  pub some-start : (g : GapTable) → length s / 5 + 2 ≤ length g → SomeStart p top t g
  unfolding SomeStart
  some-start g room = (constants_in s, d.held, d.indexes, can_start g room)
