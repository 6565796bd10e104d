-- The raw bootstraps stand by rising index, as the definition's table of them has them. Assumes nothing.
use mathlib.Core.List.{List, [], ◌∷◌, map, reverse}
use mathlib.Core.Option.{some}
use mathlib.Core.Path.{◌≡◌, sym, ap, ◌∙◌}
use Prim.Native.Nat.{ℕ, zero, suc, ◌+◌, ◌-◌, ◌≤◌, ◌<◌}
use native.Mathlib.Omega.{arith}
use lib.ListN.{length, get_or, length-map}
use Rattle.definition.specs.Basics.{from, lookup}
use Rattle.definition.specs.Definitions.{Held}
use Rattle.definition.specs.Resolving.{Mark}
use Rattle.definition.specs.Layout.{node_at_lem, index_nodes}
use Rattle.facts.specs.Lists.{Rising, keys}
use Rattle.facts.proofs.Chunks.{from-same, from-get}
use Rattle.facts.proofs.Lists.{inside_found}
use Rattle.interner.specs.Nodes.{node_count, EnteredIn, NodesIn}
use Rattle.raws.specs.Raws.{raw_count, held_count, index_row, RawsIn, Ordered, IndexItem, RawRoom}
use Rattle.store.specs.Store.{Store, size}
use Rattle.store.specs.JobIn.{table_in}
use Rattle.store.specs.Regions.{MARKS, FIRSTS, SIZES, CHILDREN, RAW-KEYS, RAW-ENTRIES, ORDER, NODES, Work}
use Rattle.store.specs.Words.{ENTRY}
use Rattle.store.proofs.Laying.{work-sizes, entries-counted}
use Rattle.rows.specs.Rowed.{backwards, raw_rows, raw_item, raw_index, raw_node, Kids, KidsIn, RawAt, RawsReady, RawsReadyIn}
use Rattle.rows.proofs.Listing.{reverse-from}
use Rattle.rows.proofs.Slotting.{map-from, part_is}

rising_low : (low top : ℕ) (l : List ℕ) (j : ℕ) → Rising low top l → j < length l → low ≤ get_or l j 0
rising_low low top [] j r h = absurd (omega arith)
rising_low low top (n ∷ l) zero r h = r.0
rising_low low top (n ∷ l) (suc j) r h = omega (arith, r.0, rising_low (suc n) top l j r.2 (omega arith))

rising_rise : (low top : ℕ) (l : List ℕ) (i j : ℕ) → Rising low top l → i < j → j < length l → get_or l i 0 < get_or l j 0
rising_rise low top [] i j r a h = absurd (omega arith)
rising_rise low top (n ∷ l) zero zero r a h = absurd (omega arith)
rising_rise low top (n ∷ l) zero (suc j) r a h = rising_low (suc n) top l j r.2 (omega arith)
rising_rise low top (n ∷ l) (suc i) zero r a h = absurd (omega arith)
rising_rise low top (n ∷ l) (suc i) (suc j) r a h = rising_rise (suc n) top l i j r.2 (omega arith) (omega arith)

module _
    (p : List ℕ) (constants top : ℕ) (held : List (ℕ × Held)) (indexes : List (ℕ × ℕ)) (t : Store)
    (g : RawsIn p constants top held indexes t) (o : Ordered constants top held indexes (t RAW-KEYS) (t RAW-ENTRIES) (t ORDER) (raw_count t))
    (room : RawRoom p) (fits : raw_count t ≤ size p RAW-KEYS) (long : length (t ORDER) ≡ size p ORDER) where
  -- how many there are
  pub raws_counted : raw_rows t ≡ length indexes
  raws_counted = omega (arith, g.counted, g.held_counted)

  -- the definition's table of them, as the words have it
  pub indexes_from : indexes ≡ from (λ i. (raw_index t i, get_or (t RAW-ENTRIES) (raw_item t i) 0 - constants)) 0 (raw_rows t)
  indexes_from =
      let z : length held + length indexes ≤ length (t ORDER) = omega (arith, g.counted, room.order) in
      sym o.rows
      ∙ ap (map (index_row constants (t RAW-KEYS) (t RAW-ENTRIES))) (part_is (t ORDER) (length held) (length indexes) z)
      ∙ map-from (index_row constants (t RAW-KEYS) (t RAW-ENTRIES)) (λ i. get_or (t ORDER) (length held + i) 0) 0 (length indexes)
      ∙ ap (λ (h : ℕ). from (λ i. index_row constants (t RAW-KEYS) (t RAW-ENTRIES) (get_or (t ORDER) (h + i) 0)) 0 (length indexes)) g.held_counted
      ∙ ap (from (λ i. (raw_index t i, get_or (t RAW-ENTRIES) (raw_item t i) 0 - constants)) 0) (sym raws_counted)

  item_at : (i : ℕ) → i < raw_rows t → IndexItem constants indexes (get_or (t RAW-KEYS) (raw_item t i) 0) (get_or (t RAW-ENTRIES) (raw_item t i) 0)
  item_at i l = o.row_items (held_count t + i) (omega (arith, g.held_counted)) (omega (arith, raws_counted, g.counted, g.held_counted))

  -- with their nodes, by falling index, as `raw_rows` takes them
  pub nodes_falling :
      (marks : List Mark) → ((i : ℕ) → i < raw_rows t → node_at_lem marks (get_or (t RAW-ENTRIES) (raw_item t i) 0) ≡ raw_node t i) →
      reverse (index_nodes constants marks indexes) ≡ backwards (λ i. (raw_index t i, raw_node t i)) (raw_rows t)
  unfolding index_nodes
  nodes_falling marks same =
      ap reverse
      (ap (map (λ r. (r.0, node_at_lem marks (constants + r.1)))) indexes_from
      ∙ map-from (λ r. (r.0, node_at_lem marks (constants + r.1))) (λ i. (raw_index t i, get_or (t RAW-ENTRIES) (raw_item t i) 0 - constants)) 0 (raw_rows t)
      ∙ from-same (λ i. (raw_index t i, node_at_lem marks (constants + (get_or (t RAW-ENTRIES) (raw_item t i) 0 - constants)))) (λ i. (raw_index t i, raw_node t i)) 0 (raw_rows t)
      (λ i a l.
      let h : i < raw_rows t = omega arith in
      let z : constants + (get_or (t RAW-ENTRIES) (raw_item t i) 0 - constants) ≡ get_or (t RAW-ENTRIES) (raw_item t i) 0 = omega (arith, (item_at i h).behind) in
      ap (λ (x : ℕ). (raw_index t i, x)) (ap (node_at_lem marks) z ∙ same i h)))
      ∙ reverse-from (λ i. (raw_index t i, raw_node t i)) (raw_rows t)

  keys_from : keys indexes ≡ from (raw_index t) 0 (raw_rows t)
  keys_from = ap keys indexes_from ∙ map-from (λ r. r.0) (λ i. (raw_index t i, get_or (t RAW-ENTRIES) (raw_item t i) 0 - constants)) 0 (raw_rows t)

  key_at : (i : ℕ) → i < raw_rows t → get_or (keys indexes) i 0 ≡ raw_index t i
  key_at i l = ap (λ (x : List ℕ). get_or x i 0) keys_from ∙ from-get (raw_index t) 0 (raw_rows t) i 0 l ∙ ap (raw_index t) (omega arith)

  -- and their entries became nodes
  module _
      (done :
      (k e : ℕ) → lookup k indexes ≡ some e →
      (constants + e < size p MARKS) × (2 ≤ get_or (t MARKS) (constants + e) 0) × (get_or (t MARKS) (constants + e) 0 - 2 < node_count t)) where
    raw_ready : (i : ℕ) → i < raw_rows t → RawAt p (t MARKS) (t RAW-KEYS) (t RAW-ENTRIES) (t ORDER) (held_count t) (node_count t) i
    raw_ready i l =
        let x = item_at i l in
        let n : held_count t + i < raw_count t = omega (arith, raws_counted, g.counted, g.held_counted) in
        let z : constants + (get_or (t RAW-ENTRIES) (raw_item t i) 0 - constants) ≡ get_or (t RAW-ENTRIES) (raw_item t i) 0 = omega (arith, x.behind) in
        let d = done (get_or (t RAW-KEYS) (raw_item t i) 0 - ENTRY) (get_or (t RAW-ENTRIES) (raw_item t i) 0 - constants) x.row in
        let e = rw z at d in
        record {
          place = omega (arith, room.order);
          item = omega (arith, o.inside (held_count t + i) n);
          low = x.low;
          high = x.high;
          there = omega (arith, o.inside (held_count t + i) n, room.entries);
          entry = e.0;
          done = e.1;
          node = e.2;
        }

    pub raws_ready : RawsReadyIn p t
    unfolding RawsReady
    raws_ready = (
      omega (arith, g.counted, g.held_counted),
      raw_ready,
      λ i j a l.
          let k : j < length (keys indexes) = omega (arith, length-map indexes (λ r. r.0), raws_counted) in
          omega (
            arith,
            rising_rise 0 65534 (keys indexes) i j g.indexes_rise a k,
            key_at i (omega arith),
            key_at j l,
            (item_at i (omega arith)).low,
            (item_at j l).low,
          ),
    )

-- THE NODES and their children, once the entries are in and resolved

pub kids_ready :
    (s p : List ℕ) (t : Store) (h : ℕ) → Work s p → EnteredIn s t → NodesIn h s t →
    ((k i : ℕ) → k < node_count t → i < get_or (t SIZES) (get_or (t NODES) k 0) 0 → get_or (t CHILDREN) (get_or (t FIRSTS) (get_or (t NODES) k 0) 0 + i) 0 < ENTRY + node_count t) →
    KidsIn p t
unfolding Kids
kids_ready s p t h work all g kids k less =
    let z = work-sizes s p work in
    let n = entries-counted s in
    let (x, is) = inside_found (table_in s) (get_or (t NODES) k 0) (g.inside k less) in
    let a = all.at (get_or (t NODES) k 0) x is in
    record {
      node = omega (arith, g.few, z.marks);
      entry = omega (arith, g.inside k less, z.marks);
      room = omega (arith, a.room, z.children);
      kids = λ i l. omega (arith, kids k i less l, g.few, z.given);
    }
