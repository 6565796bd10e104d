-- Finished words have all that the bootstrap rows are read from. Assumes nothing.
use mathlib.Core.List.{List, map}
use mathlib.Core.Logic.{inl, inr}
use mathlib.Core.Option.{some}
use mathlib.Core.Path.{◌≡◌, refl, ap, subst, ◌∙◌}
use Prim.Native.Nat.{ℕ, zero, suc, ◌+◌, ◌-◌, ◌≤◌, ◌<◌}
use native.Mathlib.Omega.{arith}
use lib.ListN.{get_or, get_elem?}
use Rattle.definition.specs.Shapes.{bootstrap_tag, with_kids}
use Rattle.definition.specs.Definitions.{Defined, tag_at}
use Rattle.definition.specs.Resolving.{done}
use Rattle.definition.specs.Building.{Made}
use Rattle.definition.specs.Layout.{Ready}
use Rattle.facts.proofs.Lists.{read_found, map_at}
use Rattle.laws.specs.Statements.{IsBytes}
use Rattle.laws.proofs.Resolving.JobGoals.{linked-at, table_defined}
use Rattle.laws.proofs.Resolving.NodesAndChildren.{tag-found}
use Rattle.slots.specs.Gaps.{GapTable}
use Rattle.store.specs.Store.{Store}
use Rattle.store.specs.JobIn.{constants_in, entries_in, namings_in, numbered_in, linked_in, table_of}
use Rattle.store.specs.Regions.{MARKS, INDEXES, FIRSTS, SIZES, CHILDREN, RAW-KEYS, RAW-ENTRIES, ORDER, NODES, INLINE, Work}
use Rattle.store.specs.Words.{HALF, mark_word}
use Rattle.store.proofs.Laying.{work-sizes, entries-counted}
use Rattle.interner.specs.Nodes.{node_count, nodes_in}
use Rattle.raws.specs.Raws.{raw_count, held_count, IndexItem}
use Rattle.pool.specs.Pooled.{NodesThere}
use Rattle.pool.proofs.Nodal.{node_kids_fit}
use Rattle.definitions.specs.Defining.{records_in}
use Rattle.definitions.proofs.Handing.{constants_many}
use Rattle.definitions.proofs.Rooms.{room}
use Rattle.rows.specs.Rowed.{inline_count, raw_item}
use Rattle.rows.proofs.Listing.{few_room}
use Rattle.rows.proofs.Reading.{raw_at}
use Rattle.output.specs.Contents.{child_at}
use Rattle.output.specs.Rows.{RowReady, Inlined, RawThere, RowsReady, row_node_in, constants_for}
use Rattle.output.proofs.Showing.{node_places}
use Rattle.builder.proofs.Final.{Final}
use Rattle.builder.proofs.Known.{nodes_there}
use Rattle.builder.proofs.NodeWords.{made, tag-bootstrap, bootstrap_size}
use Rattle.builder.proofs.HeldWords.{done_whole}
use Rattle.builder.proofs.ChildWords.{slot_small, child_low}
use Rattle.builder.proofs.RowWords as rows

module _
    (s p : List ℕ) (v : Store) (h : GapTable) (d : Defined) (ready asked : Ready) (m after : Made)
    (are : IsBytes s) (work : Work s p) (f : Final s p v h d ready asked m after) where
  abbrev there : NodesThere s p v
  there = nodes_there s p v h d ready asked m after are work f

  -- THE NODES of rows are bootstraps

  -- what a bootstrap's entry became
  entry_bootstrap : (e k : ℕ) → get_elem? (map mark_word (v MARKS)) e ≡ some (done k) → constants_in s ≤ e → tag_at (nodes_in s v) k ≡ bootstrap_tag
  unfolding linked_in numbered_in table_of records_in with_kids
  entry_bootstrap e k mark behind =
      let (x, linked-is, node_is, _) = f.rests.faithful.node_of e k mark in
      let (y, y-is, tag, _) = linked-at (namings_in s) (constants_in s) (numbered_in s) e x linked-is in
      tag-found (nodes_in s v) k _ node_is ∙ tag ∙ (table_defined (records_in s) e y y-is).1 (omega (arith, behind, constants_many s))

  -- the mark of an entry that is done
  mark_done : (e : ℕ) → e < entries_in s → 1 < get_or (v MARKS) e 0 → get_elem? (map mark_word (v MARKS)) e ≡ some (done (get_or (v MARKS) e 0 - 2))
  unfolding mark_word
  mark_done e low told =
      map_at mark_word (v MARKS) e (get_or (v MARKS) e 0) (read_found (v MARKS) e 0 (omega (arith, f.long MARKS, (room s p work).marks)))
      ∙ ap some (ways (get_or (v MARKS) e 0) told)
    where
      ways : (w : ℕ) → 1 < w → mark_word w ≡ done (w - 2)
      ways zero l = absurd (omega arith)
      ways (suc zero) l = absurd (omega arith)
      ways (suc (suc k)) l = ap done (omega arith)

  -- a raw bootstrap's
  pub raw_bootstrap :
      (i : ℕ) → i < raw_count v → constants_in s ≤ get_or (v RAW-ENTRIES) i 0 → get_or (v RAW-ENTRIES) i 0 < HALF →
      tag_at (nodes_in s v) (get_or (v MARKS) (get_or (v RAW-ENTRIES) i 0) 0 - 2) ≡ bootstrap_tag
  raw_bootstrap i low behind word =
      let y = done_whole s p v h d ready asked m after are work f i low (λ q. omega (arith, q, word)) in
      entry_bootstrap (get_or (v RAW-ENTRIES) i 0) (get_or (v MARKS) (get_or (v RAW-ENTRIES) i 0) 0 - 2)
      (mark_done (get_or (v RAW-ENTRIES) i 0) y.0 y.1) behind

  -- the raw bootstraps stand behind the raw slots in the order
  pub index-item : (j : ℕ) → held_count v ≤ j → j < raw_count v → IndexItem (constants_in s) d.indexes (get_or (v RAW-KEYS) (get_or (v ORDER) j 0) 0) (get_or (v RAW-ENTRIES) (get_or (v ORDER) j 0) 0)
  index-item j low high = f.ordered.row_items j (omega (arith, f.raws.held_counted)) high

  -- so all nodes of rows are
  row_bootstrap : (k : ℕ) → rows.Source s p v h d ready asked m after are work f k → (k < node_count v) × (tag_at (nodes_in s v) k ≡ bootstrap_tag)
  row_bootstrap k (inl (j, l, is)) =
      let n = f.rowed.words.inlined.nodes j l in
      let low : k < node_count v = omega (arith, n.made, is) in
      let q : get_or (v NODES) (get_or (v INLINE) j 0) 0 ≡ get_or (v NODES) k 0 = ap (λ x. get_or (v NODES) x 0) is in
      (low, tag-bootstrap s p v there (f.long NODES) k low (omega (arith, n.behind, q, (room s p work).constants)))
  row_bootstrap k (inr (j, l, is)) =
      let a = raw_at p v (rows.raws_there s p v h d ready asked m after are work f) j l in
      let high : held_count v + j < raw_count v = omega (arith, l) in
      let x = index-item (held_count v + j) (omega arith) high in (
        omega (arith, a.node, is),
        subst (λ n. tag_at (nodes_in s v) n ≡ bootstrap_tag) is (raw_bootstrap (raw_item v j) (f.ordered.inside (held_count v + j) high) x.behind x.word),
      )

  -- A ROW is ready
  row_ready : (k : ℕ) → k < node_count v → tag_at (nodes_in s v) k ≡ bootstrap_tag → RowReady p v k
  row_ready k low boot =
      let z = work-sizes s p work in
      let at = node_places s v k (made s p v there (f.long NODES)) low p work in
      let n = bootstrap_size s p v there (f.long NODES) k low are boot in
      record {
        node = at.node;
        first = at.first;
        count = at.count;
        some = n.0;
        few = n.1;
        room = node_kids_fit s p v there k low (get_or (v FIRSTS) (get_or (v NODES) k 0) 0) (get_or (v SIZES) (get_or (v NODES) k 0) 0) refl refl;
        kids =
            λ i l.
            record {
              low = omega (arith, child_low s p v h d ready asked m after are work f k low i l, f.rests.nodes.few, z.given, entries-counted s);
              small = slot_small s p v h d ready asked m after are work f (child_at (v FIRSTS) (v CHILDREN) (v NODES) k i);
            };
      }

  pub rows_ready_lem : RowsReady p v
  rows_ready_lem =
      let z = work-sizes s p work in
      let c = room s p work in
      record {
        counters = c.counts;
        fewer = c.indexes;
        held_low_lem = omega (arith, f.raws.counted, f.raws.held_counted);
        order_room = omega (arith, f.room, c.raws.order);
        raws = raw_there_lem;
        inline_room = omega (arith, few_room (v INDEXES) (inline_count v) f.rowed.words.inlined.few, f.long INDEXES, z.indexes, z.inline);
        inline = inline_there;
        few = rows.rows_few s p v h d ready asked m after are work f;
        there = λ i l. rows.raws_left s p v h d ready asked m after are work f i l;
        rows =
            λ i l.
            let k = row_node_in (constants_for p) v i in
            let b = row_bootstrap k (rows.row_node s p v h d ready asked m after are work f i l).0 in
            row_ready k b.0 b.1;
      }
    where
      raw_there_lem : (j : ℕ) → held_count v ≤ j → j < raw_count v → RawThere p (v RAW-KEYS) (v RAW-ENTRIES) (v MARKS) (get_or (v ORDER) j 0)
      raw_there_lem j low high =
          let i = get_or (v ORDER) j 0 in
          let c = room s p work in
          let x = index-item j low high in
          let inside : i < raw_count v = f.ordered.inside j high in
          let y = done_whole s p v h d ready asked m after are work f i inside (λ q. omega (arith, q, x.word)) in
          record {
            key = omega (arith, inside, f.room);
            entry = omega (arith, inside, f.room, c.raws.entries);
            low = x.low;
            inside = omega (arith, y.0, c.marks);
            done = y.1;
          }

      inline_there : (i : ℕ) → i < inline_count v → Inlined p (v INDEXES) (v NODES) (get_or (v INLINE) i 0)
      inline_there i l =
          let n = f.rowed.words.inlined.nodes i l in
          record {
            node = (node_places s v (get_or (v INLINE) i 0) (made s p v there (f.long NODES)) n.made p work).node;
            behind = n.behind;
            inside = omega (arith, n.inside, f.long INDEXES);
            indexed = f.rowed.words.inlined.low i l;
          }
