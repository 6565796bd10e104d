-- What the requests leave is what building starts from. Assumes nothing.
use mathlib.Core.List.{List, map}
use mathlib.Core.Logic.{◌⊎◌, inl, inr}
use mathlib.Core.Option.{some}
use mathlib.Core.Path.{◌≡◌, sym, ◌∙◌}
use Prim.Native.Nat.{ℕ, ◌+◌, ◌-◌, ◌≤◌, ◌<◌}
use native.Mathlib.Omega.{arith}
use lib.ListN.{length, get_or}
use Rattle.definition.specs.Basics.{lookup}
use Rattle.definition.specs.Definitions.{Defined}
use Rattle.definition.specs.Layout.{node_at_lem, index_nodes}
use Rattle.facts.proofs.Lists.{some_inj}
use Rattle.laws.proofs.Resolving.ResolvedNodes.{child_done}
use Rattle.slots.specs.Gaps.{GapTable}
use Rattle.store.specs.Store.{Store, size}
use Rattle.store.specs.JobIn.{constants_in}
use Rattle.store.specs.Regions.{MARKS, NODE-HEADS, RAW-ENTRIES, RAW-KEYS, ORDER, NODES, Work}
use Rattle.store.specs.Words.{ENTRY, mark_word}
use Rattle.interner.specs.Nodes.{node_count}
use Rattle.raws.specs.Raws.{raw_count, held_count, SlotItem, IndexItem}
use Rattle.resolver.proofs.Meanings.{done_found}
use Rattle.definitions.proofs.Rooms.{room}
use Rattle.rows.specs.Rowed.{raw_rows, raw_item, RawAt, RawsReady, RawsReadyIn}
use Rattle.rows.proofs.Readying.{nodes_falling, raws_ready}
use Rattle.pool.proofs.Meeting.{kids_there}
use Rattle.requests.specs.Asked.{RawDone, AskedWords}
use Rattle.building.specs.Built.{CanBuild, RawsAre}

-- the node of an entry that is done
node_is : (marks : List ℕ) (e : ℕ) → 1 < get_or marks e 0 → node_at_lem (map mark_word marks) e ≡ get_or marks e 0 - 2
unfolding node_at_lem
node_is marks e h =
    let k = get_or marks e 0 - 2 in
    omega (arith, child_done (map mark_word marks) e k (done_found marks e k (omega arith)))

-- one of the raw bootstraps
raw_at :
    (p : List ℕ) (t : Store) → RawsReadyIn p t → (i : ℕ) → i < raw_rows t →
    RawAt p (t MARKS) (t RAW-KEYS) (t RAW-ENTRIES) (t ORDER) (held_count t) (node_count t) i
unfolding RawsReady
raw_at p t h = h.1

module _ (p : List ℕ) (top : ℕ) (s : List ℕ) (t : Store) (g : GapTable) (d : Defined) (work : Work s p) (long : (k : ℕ) → length (t k) ≡ size p k)
    (words : AskedWords p top s t g d) where
  abbrev Ready : ℕ → Type 0
  Ready e = (e < size p MARKS) × (2 ≤ get_or (t MARKS) e 0) × (get_or (t MARKS) e 0 - 2 < node_count t)

  -- the entry of a raw bootstrap became a node
  item_ready : (i e : ℕ) → i < raw_count t → get_or (t RAW-ENTRIES) i 0 ≡ e → e < 131072 → Ready e
  item_ready i e low is small = ways (words.done i low)
    where
      ways : RawDone s t i → Ready e
      ways (inl h) = absurd (omega arith)
      ways (inr h) =
          let r : Ready (get_or (t RAW-ENTRIES) i 0) = (omega (arith, (room s p work).marks), omega arith, omega arith) in
          rw is at r

  row_ready : (k e : ℕ) → lookup k d.indexes ≡ some e → Ready (constants_in s + e)
  row_ready k e row =
      let (i, low, key) = words.raws.rows k e row in
      ways i low key (words.raws.items i low)
    where
      ways :
          (i : ℕ) → i < raw_count t → get_or (t RAW-KEYS) i 0 ≡ ENTRY + k →
          SlotItem top d.held (get_or (t RAW-KEYS) i 0) (get_or (t RAW-ENTRIES) i 0)
          ⊎ IndexItem (constants_in s) d.indexes (get_or (t RAW-KEYS) i 0) (get_or (t RAW-ENTRIES) i 0) →
          Ready (constants_in s + e)
      ways i low key (inl x) = absurd (omega (arith, x.high, words.raws.few))
      ways i low key (inr x) =
          let z : get_or (t RAW-KEYS) i 0 - ENTRY ≡ k = omega arith in
          let y : get_or (t RAW-ENTRIES) i 0 - constants_in s ≡ e = some_inj (sym (rw z at x.row) ∙ row) in
          item_ready i (constants_in s + e) low (omega (arith, x.behind)) (omega (arith, x.behind, x.word))

  pub rows_ready_lem : RawsReadyIn p t
  rows_ready_lem =
      raws_ready p (constants_in s) top d.held d.indexes t words.raws words.ordered (room s p work).raws words.room (long ORDER) row_ready

  pub can_build : CanBuild s p t g
  can_build =
      record {
        table = words.table;
        rests = words.rests;
        kids = kids_there (size p NODE-HEADS) s p t work words.table words.rests (long NODES);
        raws = rows_ready_lem;
        live = words.live;
        waits = words.waits;
        indexes = words.indexes;
        row_heads = words.row_heads;
        rows = words.rows;
        written = words.written;
        inline = words.inline;
      }

  -- the raw bootstraps with their nodes
  pub raws_are : RawsAre t (index_nodes (constants_in s) (map mark_word (t MARKS)) d.indexes)
  raws_are =
      nodes_falling p (constants_in s) top d.held d.indexes t words.raws words.ordered (room s p work).raws words.room (long ORDER)
      (map mark_word (t MARKS))
      (λ i l. node_is (t MARKS) (get_or (t RAW-ENTRIES) (raw_item t i) 0) (omega (arith, (raw_at p t rows_ready_lem i l).done)))
