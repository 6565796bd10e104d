-- The bootstrap rows that the outputs read from finished words are the definition's. Assumes nothing.
use mathlib.Core.List.{List, []}
use mathlib.Core.Logic.{◌⊎◌, inl, inr, ⊎_elim}
use mathlib.Core.Option.{some}
use mathlib.Core.Path.{◌≡◌, sym, ap, subst, ◌∙◌}
use Prim.Native.Nat.{ℕ, ◌+◌, ◌-◌, ◌≤◌, ◌<◌}
use native.Mathlib.Omega.{arith}
use lib.ListN.{length, get_or, get_elem?}
use borrow.Author.Tests.{lt-ltb, le-ltb, eq-eqb, ne_eqb}
use Rattle.definition.specs.Basics.{lookup}
use Rattle.definition.specs.Numbering.{top_of}
use Rattle.definition.specs.Definitions.{Defined}
use Rattle.definition.specs.Building.{Made}
use Rattle.definition.specs.Layout.{Ready}
use Rattle.facts.proofs.Lists.{some_inj, equal, order, found_read}
use Rattle.laws.specs.Statements.{IsBytes}
use Rattle.slots.specs.Gaps.{GapTable}
use Rattle.store.specs.Store.{Store, size}
use Rattle.store.specs.JobIn.{job_in, constants_in}
use Rattle.store.specs.Regions.{MARKS, GIVEN, FIRSTS, SIZES, CHILDREN, RAW-KEYS, RAW-ENTRIES, ORDER, NODES, INLINE, Work}
use Rattle.store.specs.Words.{ENTRY, child_slot}
use Rattle.interner.specs.Nodes.{node_count}
use Rattle.raws.specs.Raws.{SlotItem, IndexItem}
use Rattle.definitions.proofs.Rooms.{room}
use Rattle.rows.specs.Rowed.{row_at, row_count, written_count, inline_count, raw_rows, raw_index, raw_node, inline_index, RawsReadyIn, Reached, table_of}
use Rattle.rows.specs.Rowed as rowed
use Rattle.rows.proofs.Reading.{raw_rise}
use Rattle.rows.proofs.Readying.{raws_ready}
use Rattle.rows.proofs.Slotting.{map-from}
use Rattle.rows.proofs.Ending.{table_written, table_length, table_few, row_inline, raw_inside, row_raw}
use Rattle.output.specs.Rows.{row_in, raw_index_at, inline_index_at, raw_index_in, inline_index_in, raw_node_in, count_rows, row_count_in, passed, node_or, row_node_in, constants_for}
use Rattle.builder.proofs.Final.{Final}
use Rattle.builder.proofs.HeldWords.{done_whole}
use Rattle.builder.proofs.Passing.{passed-reached}

-- a row of slots, said in two ways
row_as : (t : Store) (k : ℕ) → row_in t k ≡ rowed.row_in t k
unfolding row_at
row_as t k =
    sym
    (map-from (child_slot (t GIVEN)) (λ i. get_or (t CHILDREN) (get_or (t FIRSTS) (get_or (t NODES) k 0) 0 + i) 0) 0 (get_or (t SIZES) (get_or (t NODES) k 0) 0))

module _ (p : List ℕ) (t : Store) where
  inline_next : (i : ℕ) → i < inline_count t → inline_index_in (constants_for p) t i ≡ inline_index p t i
  unfolding inline_index_at
  inline_next i l = rw (lt-ltb i (inline_count t) l, inline_index_at)

  inline_past : (i : ℕ) → inline_count t ≤ i → inline_index_in (constants_for p) t i ≡ 65536
  unfolding inline_index_at
  inline_past i l = rw (le-ltb i (inline_count t) l, inline_index_at)

  raw_next : (i : ℕ) → i < raw_rows t → raw_index_in t i ≡ raw_index t i
  unfolding raw_index_at
  raw_next i l = rw (lt-ltb i (raw_rows t) l, raw_index_at)

  raw_past : (i : ℕ) → raw_rows t ≤ i → raw_index_in t i ≡ 65536
  unfolding raw_index_at
  raw_past i l = rw (le-ltb i (raw_rows t) l, raw_index_at)

count_last : (written raws last rows : ℕ) → written < raws → count_rows written raws last rows ≡ last + 1
unfolding count_rows
count_last written raws last rows l = rw (lt-ltb written raws l, count_rows)

count_rows_lem : (written raws last rows : ℕ) → raws ≤ written → count_rows written raws last rows ≡ rows
unfolding count_rows
count_rows_lem written raws last rows l = rw (le-ltb written raws l, count_rows)

node_inline : (next index inline raw : ℕ) → next ≡ index → node_or next index inline raw ≡ inline
unfolding node_or
node_inline next index inline raw q = rw (eq-eqb next index q, node_or)

node_raw : (next index inline raw : ℕ) → (next ≡ index → ⊥) → node_or next index inline raw ≡ raw
unfolding node_or
node_raw next index inline raw q = rw (ne_eqb next index q, node_or)

module _
    (s p : List ℕ) (v : Store) (h : GapTable) (d : Defined) (ready asked : Ready) (m after : Made)
    (are : IsBytes s) (work : Work s p) (f : Final s p v h d ready asked m after) where
  -- RAW BOOTSTRAPS became nodes

  index-done :
      (k e : ℕ) → lookup k d.indexes ≡ some e →
      (constants_in s + e < size p MARKS) × (2 ≤ get_or (v MARKS) (constants_in s + e) 0) × (get_or (v MARKS) (constants_in s + e) 0 - 2 < node_count v)
  index-done k e l =
      let (i, low, key) = f.raws.rows k e l in
      ⊎_elim
      (λ (x : SlotItem (top_of (job_in s)) d.held (get_or (v RAW-KEYS) i 0) (get_or (v RAW-ENTRIES) i 0)). absurd (omega (arith, x.high, key)))
      (λ (x : IndexItem (constants_in s) d.indexes (get_or (v RAW-KEYS) i 0) (get_or (v RAW-ENTRIES) i 0)).
      let back : get_or (v RAW-KEYS) i 0 - ENTRY ≡ k = omega (arith, key) in
      let same : get_or (v RAW-ENTRIES) i 0 - constants_in s ≡ e = some_inj (sym x.row ∙ ap (λ n. lookup n d.indexes) back ∙ l) in
      let z : get_or (v RAW-ENTRIES) i 0 ≡ constants_in s + e = omega (arith, same, x.behind) in
      let y = done_whole s p v h d ready asked m after are work f i low (λ q. omega (arith, q, x.word)) in
      subst (λ n. (n < size p MARKS) × (2 ≤ get_or (v MARKS) n 0) × (get_or (v MARKS) n 0 - 2 < node_count v)) z
      (omega (arith, y.0, (room s p work).marks), omega (arith, y.1), omega (arith, y.1, y.2)))
      (f.raws.items i low)

  pub raws_there : RawsReadyIn p v
  raws_there =
      raws_ready p (constants_in s) (top_of (job_in s)) d.held d.indexes v f.raws f.ordered (room s p work).raws f.room (f.long ORDER) index-done

  -- THE WALK

  pub inline_reached : (i : ℕ) → i ≤ 65536 → Reached (inline_index p v) (inline_count v) i (passed (inline_index_in (constants_for p) v) i)
  inline_reached =
      passed-reached (inline_index p v) (inline_index_in (constants_for p) v) (inline_count v) (inline_next p v) (inline_past p v)
      (λ i j a l.
      let w = f.rowed.words.inlined in
      omega (arith, w.rise i j a l, w.low i (omega (arith, a, l))))

  pub raw_reached : (i : ℕ) → i ≤ 65536 → Reached (raw_index v) (raw_rows v) i (passed (raw_index_in v) i)
  raw_reached = passed-reached (raw_index v) (raw_index_in v) (raw_rows v) (raw_next p v) (raw_past p v) (raw_rise p v raws_there)

  -- THE COUNT

  pub rows_counted : row_count_in v ≡ length (table_of m.rows)
  rows_counted =
      ⊎_elim
      (λ (l : written_count v < raw_rows v).
      count_last (written_count v) (raw_rows v) (raw_index_in v (raw_rows v - 1)) (row_count v) l
      ∙ omega (arith, raw_next p v (raw_rows v - 1) (omega (arith, l)), table_length p v raws_there m.rows f.rowed l))
      (λ (l : raw_rows v ≤ written_count v).
      count_rows_lem (written_count v) (raw_rows v) (raw_index_in v (raw_rows v - 1)) (row_count v) l
      ∙ sym f.rowed.written
      ∙ ap length (sym (table_written p v raws_there m.rows f.rowed l)))
      (order (written_count v) (raw_rows v))

  pub rows_few : row_count_in v ≤ 65535
  rows_few = omega (arith, rows_counted, table_few p v raws_there m.rows f.rowed)

  -- THE ROW at an index

  -- it is that of an inline row's node, or of a raw bootstrap's
  abbrev pub Source : ℕ → Type 0
  Source k = ((j : ℕ) × (j < inline_count v) × (get_or (v INLINE) j 0 ≡ k)) ⊎ ((j : ℕ) × (j < raw_rows v) × (raw_node v j ≡ k))

  module _ (i : ℕ) (low : i < row_count_in v) where
    abbrev inlines : ℕ
    inlines = passed (inline_index_in (constants_for p) v) i

    abbrev raws : ℕ
    raws = passed (raw_index_in v) i

    below : i ≤ 65536
    below = omega (arith, low, rows_few)

    inside : i < length (table_of m.rows)
    inside = omega (arith, low, rows_counted)

    inlined : inline_index_in (constants_for p) v inlines ≡ i → inlines < inline_count v
    inlined q =
        ⊎_elim
        (λ (l : inlines < inline_count v). l)
        (λ (l : inline_count v ≤ inlines). absurd (omega (arith, q, inline_past p v inlines l, low, rows_few)))
        (order inlines (inline_count v))

    -- no inline row has this index
    other : (inline_index_in (constants_for p) v inlines ≡ i → ⊥) → inlines < inline_count v → inline_index p v inlines ≡ i → ⊥
    other q l e = q (inline_next p v inlines l ∙ e)

    pub raws_left : (inline_index_in (constants_for p) v inlines ≡ i → ⊥) → raws < raw_rows v
    raws_left q = raw_inside p v raws_there m.rows f.rowed i inlines raws (inline_reached i below) (raw_reached i below) (other q) inside

    pub row_node : Source (row_node_in (constants_for p) v i) × (get_elem? (table_of m.rows) i ≡ some (rowed.row_in v (row_node_in (constants_for p) v i)))
    row_node =
        ⊎_elim
        (λ (q : inline_index_in (constants_for p) v inlines ≡ i).
        let l = inlined q in
        let is = node_inline (inline_index_in (constants_for p) v inlines) i (get_or (v INLINE) inlines 0) (raw_node_in v raws) q in (
          inl (inlines, l, sym is),
          row_inline p v raws_there m.rows f.rowed i inlines raws (inline_reached i below) (raw_reached i below) l (sym (inline_next p v inlines l) ∙ q)
              ∙ ap (λ k. some (rowed.row_in v k)) (sym is),
        ))
        (λ (q : inline_index_in (constants_for p) v inlines ≡ i → ⊥).
        let is = node_raw (inline_index_in (constants_for p) v inlines) i (get_or (v INLINE) inlines 0) (raw_node_in v raws) q in (
          inr (raws, raws_left q, sym is),
          row_raw p v raws_there m.rows f.rowed i inlines raws (inline_reached i below) (raw_reached i below) (other q) inside
              ∙ ap (λ k. some (rowed.row_in v k)) (sym is),
        ))
        (equal (inline_index_in (constants_for p) v inlines) i)

    pub row_same : row_in v (row_node_in (constants_for p) v i) ≡ get_or (table_of m.rows) i []
    row_same = row_as v (row_node_in (constants_for p) v i) ∙ sym (found_read (table_of m.rows) i _ [] row_node.1)
