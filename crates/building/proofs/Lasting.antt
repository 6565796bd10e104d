-- What building goes by lasts while slots and indexes are given. Assumes nothing.
use mathlib.Core.List.{List, [], ◌∷◌, map}
use mathlib.Core.Logic.{inl, inr, ⊎_elim}
use mathlib.Core.Path.{◌≡◌, refl, ap, ◌∙◌}
use Prim.Native.Nat.{ℕ, ◌+◌, ◌-◌, ◌<◌}
use native.Mathlib.Omega.{arith}
use lib.ListN.{get_or, take}
use Rattle.definition.specs.Basics.{Result, bad, Refusal, every}
use Rattle.definition.specs.Building.{Rows}
use Rattle.facts.proofs.Lists.{equal}
use Rattle.slots.specs.Gaps.{GapTable}
use Rattle.store.specs.Store.{Store, size, Kept}
use Rattle.store.specs.Regions.{COUNTS, MARKS, GIVEN, INDEXES, NODE-HEADS, NODE-LINKS, ROW-HEADS, ROW-LINKS, RECORDS, OFFSETS, FIRSTS, SIZES, CHILDREN, RAW-KEYS, RAW-ENTRIES, ORDER, NODES, PENDING, INLINE, VALUES, PLACE, NODE-COUNT, GAP-COUNT, ODD, WIDE, PLAIN, PENDING-COUNT, RAW-COUNT, HELD-COUNT, ROW-COUNT, WRITTEN-COUNT, INLINE-COUNT, Work}
use Rattle.store.specs.Words.{ENTRY}
use Rattle.store.proofs.Keeping.{kept_then, kept_more}
use Rattle.interner.specs.Nodes.{node_at_lem, node_count, nodes_in, record_in}
use Rattle.rows.specs.Rowed.{constants_of, raw_rows, raw_index, raw_node, entry_row, row_in, RowedIn, IsBootstrapIn, Indexed, SameBut, written, HasNumber}
use Rattle.rows.proofs.Asking.{rows_given, row_stays}
use Rattle.rows.proofs.Staying.{same_more}
use Rattle.pool.specs.Pooled.{moving, LiveIn, NodesThere, Goes, Told}
use Rattle.pool.proofs.Words.{child_kept, has_kept}
use Rattle.pool.proofs.Nodal.{record_asks}
use Rattle.pool.proofs.Giving.{gaps_live_same}
use Rattle.building.specs.Numbers.{ChildDone, KidsDone}
use Rattle.building.specs.Built.{built_counters, built_regions}
use Rattle.building.specs.Working.{EntrySlotted, NodeSlotted, Standing, Working, Stacked, Grows}

-- WHAT NEVER CHANGES

module _ (s p : List ℕ) (t u : Store) (kept : Kept built_regions t u) (same : SameBut built_counters (t COUNTS) (u COUNTS)) where
  pub made_same : node_count u ≡ node_count t
  made_same = same NODE-COUNT refl

  pub raws_same : raw_rows u ≡ raw_rows t
  raws_same = rw (same RAW-COUNT refl, same HELD-COUNT refl)

  pub raw_node-same : (i : ℕ) → raw_node u i ≡ raw_node t i
  raw_node-same i = rw (kept MARKS refl, kept RAW-ENTRIES refl, kept ORDER refl, same HELD-COUNT refl)

  pub raw_index-same : (i : ℕ) → raw_index u i ≡ raw_index t i
  raw_index-same i = rw (kept RAW-KEYS refl, kept ORDER refl, same HELD-COUNT refl)

  pub nodes_same : nodes_in s u ≡ nodes_in s t
  nodes_same =
      λ i.
      map (λ (e : ℕ). node_at_lem s (kept FIRSTS refl i) (kept SIZES refl i) (kept CHILDREN refl i) e) (take (made_same i) (kept NODES refl i))

  pub record_same : (k : ℕ) → record_in u k ≡ record_in t k
  record_same k = rw (kept RECORDS refl, kept NODES refl)

  -- what is refused from u on is told at the record that the node had
  pub told-since :
      {A B : Type 0} (x : Result Refusal A) (y : Result Refusal B) (v : Store) (r : ℕ) → ((e : Refusal) → x ≡ bad e → y ≡ bad e) →
      Told x u v r → Told y t v r
  told-since x y v r on told =
      record {
        node = told.node;
        made = rw (← made_same) told.made;
        refused = on _ told.refused;
        place = told.place ∙ record_same told.node;
      }

  pub standing_stays : Standing s p t → Standing s p u
  standing_stays h =
      record {
        entered = rw (kept OFFSETS refl, kept FIRSTS refl, kept SIZES refl, kept VALUES refl) h.entered;
        nodes =
            rw (kept FIRSTS refl, kept SIZES refl, kept CHILDREN refl, kept NODES refl, kept NODE-HEADS refl, kept NODE-LINKS refl, made_same) h.nodes;
        kids = rw (nodes_same, made_same) h.kids;
        raws =
            rw (kept MARKS refl, kept RAW-KEYS refl, kept RAW-ENTRIES refl, kept ORDER refl, same HELD-COUNT refl, same RAW-COUNT refl, made_same)
            h.raws;
      }

  -- what `refuse_at` asks of u
  pub tells :
      Work s p → Standing s p t → (k : ℕ) → k < node_count t →
      (PLACE < size p COUNTS) × (k < size p NODES) × (get_or (u NODES) k 0 < size p RECORDS)
  tells work h k low = let still = standing_stays h in record_asks s p u (work, still.entered, still.nodes) k (rw made_same low)

  module _ (keeps : (k : ℕ) → 0 < get_or (t GIVEN) k 0 → get_or (u GIVEN) k 0 ≡ get_or (t GIVEN) k 0) where
    pub entry_stays : (e : ℕ) → EntrySlotted t e → EntrySlotted u e
    entry_stays e h =
        rw (kept SIZES refl, kept CHILDREN refl, kept FIRSTS refl)
        (λ i l. has_kept (t GIVEN) (u GIVEN) (get_or (t CHILDREN) (get_or (t FIRSTS) e 0 + i) 0) (h i l) keeps)

    pub node_stays : (k : ℕ) → NodeSlotted t k → NodeSlotted u k
    node_stays k h = rw (kept NODES refl) (entry_stays (get_or (t NODES) k 0) h)

    pub raw_stays : ((i : ℕ) → i < raw_rows t → NodeSlotted t (raw_node t i)) → (i : ℕ) → i < raw_rows u → NodeSlotted u (raw_node u i)
    raw_stays h i l = rw (raw_node-same i) (node_stays (raw_node t i) (h i (rw (← raws_same) l)))

    -- a row whose slots are there
    pub row_same : (e : ℕ) → EntrySlotted t e → entry_row u e ≡ entry_row t e
    row_same e h =
        rw (kept CHILDREN refl, kept FIRSTS refl, kept SIZES refl)
        (row_stays (t GIVEN) (u GIVEN) (t CHILDREN) (t FIRSTS) (t SIZES) e
        (λ i l. child_kept (t GIVEN) (u GIVEN) (get_or (t CHILDREN) (get_or (t FIRSTS) e 0 + i) 0) (h i l) keeps))

    pub node_row_same : (k : ℕ) → NodeSlotted t k → row_in u k ≡ row_in t k
    node_row_same k h = rw (kept NODES refl) (row_same (get_or (t NODES) k 0) h)

pub there_now : (s p : List ℕ) (t : Store) → Work s p → Standing s p t → NodesThere s p t
there_now s p t work h = (work, h.entered, h.nodes)

-- STEP BY STEP

pub grows_not : (t : Store) (g : GapTable) → Grows t t g g
grows_not t g =
    record { apart = λ top a. a; long = refl; given = λ k l. refl; index = λ i l. refl; counters = λ c f. refl; kept = λ k f. refl }

pub grows_then : (t u v : Store) (g h o : GapTable) → Grows t u g h → Grows u v h o → Grows t v g o
grows_then t u v g h o a b =
    record {
      apart = λ top l. b.apart top (a.apart top l);
      long = b.long ∙ a.long;
      given = λ k l. b.given k (rw (a.given k l) l) ∙ a.given k l;
      index = λ i l. b.index i (rw (a.index i l) l) ∙ a.index i l;
      counters = λ c f. b.counters c f ∙ a.counters c f;
      kept = kept_then built_regions t u v a.kept b.kept;
    }

-- a refusal stays where it was told
pub told-as :
    {A B : Type 0} (x : Result Refusal A) (y : Result Refusal B) (t u : Store) (r : ℕ) → ((e : Refusal) → x ≡ bad e → y ≡ bad e) →
    Told x t u r → Told y t u r
told-as x y t u r on told = record { node = told.node; made = told.made; refused = on _ told.refused; place = told.place }

pub stacked_not : (t : Store) → Stacked t t
stacked_not t = record { owners = λ k l. inl l; waits = λ k on. on; fewer = omega arith }

pub stacked_then : (t u v : Store) → Stacked t u → Stacked u v → Stacked t v
stacked_then t u v a b =
    record {
      owners = λ k l. ⊎_elim (λ m. ⊎_elim inl (λ on. inr (b.waits k on)) (a.owners k m)) inr (b.owners k l);
      waits = λ k on. b.waits k (a.waits k on);
      fewer = omega (arith, a.fewer, b.fewer);
    }

-- what has a number keeps it
module _ (s p : List ℕ) (t u : Store) (g h : GapTable) (grows : Grows t u g h) where
  pub done_stays : (child : ℕ) → ChildDone p t child → ChildDone p u child
  unfolding HasNumber
  done_stays child d =
      record {
        index =
            rw (grows.kept NODES refl)
            (λ b. let l = d.index b in rw (grows.index (get_or (t NODES) (child - ENTRY) 0 - constants_of p) l) l);
        slot = rw (grows.kept NODES refl) (λ b. has_kept (t GIVEN) (u GIVEN) child (d.slot b) grows.given);
      }

  pub kids_done_stay : (k : ℕ) → KidsDone s p t k → KidsDone s p u k
  kids_done_stay k d = rw (nodes_same s p t u grows.kept grows.counters) (λ i l. done_stays _ (d i l))

-- SLOTS ARE GIVEN

module _ (s p : List ℕ) (t u : Store) (g h : GapTable) (goes : Goes t u g h) where
  pub grows_goes : Grows t u g h
  unfolding every
  grows_goes =
      record {
        apart = goes.apart;
        long = goes.long;
        given = goes.given;
        index = λ i l. ap (λ (z : List ℕ). get_or z i 0) (goes.kept INDEXES refl);
        counters = same_more moving built_counters (t COUNTS) (u COUNTS) refl goes.counters;
        kept = kept_more (COUNTS ∷ GIVEN ∷ PENDING ∷ []) built_regions t u refl goes.kept;
      }

  -- the rows stay what they are
  pub rows_goes : Working s p t g → (rows : Rows) → RowedIn p rows t → RowedIn p rows u
  rows_goes work =
      let kept = grows_goes.kept in
      let same = grows_goes.counters in
      rows_given p t u (goes.kept INDEXES refl) (goes.kept INLINE refl) (goes.kept ROW-HEADS refl) (goes.kept ROW-LINKS refl)
      (goes.kept NODES refl)
      (omega (arith, made_same s p t u kept same))
      (raws_same s p t u kept same)
      (goes.counters ROW-COUNT refl)
      (goes.counters WRITTEN-COUNT refl)
      (goes.counters INLINE-COUNT refl)
      (λ e low word. row_same s p t u kept same goes.given e (work.indexed e low word))
      (λ i l. (
        raw_index-same s p t u kept same i,
        ap (row_in u) (raw_node-same s p t u kept same i) ∙ node_row_same s p t u kept same goes.given (raw_node t i) (work.raw i l),
      ))

  pub working_goes : Working s p t g → Working s p u h
  working_goes work =
      let kept = grows_goes.kept in
      let same = grows_goes.counters in
      record {
        standing = standing_stays s p t u kept same work.standing;
        live = goes.live work.live;
        rowed = (work.rowed.0, rows_goes work work.rowed.0 work.rowed.1);
        indexed =
            λ e low word. entry_stays s p t u kept same goes.given e (work.indexed e low (rw (← goes.kept INDEXES refl) word));
        raw = raw_stays s p t u kept same goes.given work.raw;
      }

  pub boot_goes : (k : ℕ) → IsBootstrapIn p t k → IsBootstrapIn p u k
  boot_goes k is =
      record {
        made = rw (goes.counters NODE-COUNT refl) is.made;
        behind = rw (goes.kept NODES refl) is.behind;
        inside = rw (goes.kept NODES refl, goes.kept INDEXES refl) is.inside;
      }

-- AN INDEX IS GIVEN to bootstrap node k, whose children have slots, and to no other

module _
    (s p : List ℕ) (found : Rows → Result ℕ (ℕ × Rows)) (k : ℕ) (t u : Store) (g : GapTable) (r : ℕ) (x : Indexed found p k t u r) where
  pub live_indexed : LiveIn t g → LiveIn u g
  live_indexed live =
      record {
        gaps =
            gaps_live_same (t COUNTS) (u COUNTS) g
            (record {
              count = x.counters GAP-COUNT refl;
              odd = x.counters ODD refl;
              wide = x.counters WIDE refl;
              plain = x.counters PLAIN refl;
            })
            live.gaps;
        room = rw (x.kept GIVEN refl, x.kept PENDING refl, x.counters PENDING-COUNT refl) live.room;
        nodes = rw (x.kept PENDING refl, x.counters PENDING-COUNT refl, x.counters NODE-COUNT refl) live.nodes;
      }

  pub grows_indexed : Grows t u g g
  unfolding every
  grows_indexed =
      record {
        apart = λ top a. rw (x.counters GAP-COUNT refl) a;
        long = refl;
        given = λ j l. ap (λ (z : List ℕ). get_or z j 0) (x.kept GIVEN refl);
        index =
            λ i l.
            let z : i + constants_of p - constants_of p ≡ i = omega arith in
            rw z at (x.stays (i + constants_of p) (omega arith) (rw z l));
        counters = same_more (ROW-COUNT ∷ WRITTEN-COUNT ∷ INLINE-COUNT ∷ []) built_counters (t COUNTS) (u COUNTS) refl x.counters;
        kept = kept_more written built_regions t u refl x.kept;
      }

  pub stacked_indexed : Stacked t u
  stacked_indexed =
      record {
        owners = λ j l. inl (rw (← x.kept GIVEN refl) l);
        waits = λ j on. rw (x.kept PENDING refl, x.counters PENDING-COUNT refl) on;
        fewer = rw (x.kept GIVEN refl, x.counters PENDING-COUNT refl, x.counters NODE-COUNT refl) (omega arith);
      }

  pub working_indexed :
      ((i : ℕ) → (i ≡ get_or (t NODES) k 0 - constants_of p → ⊥) → get_or (u INDEXES) i 0 ≡ get_or (t INDEXES) i 0) →
      r ≡ 0 → IsBootstrapIn p t k → NodeSlotted t k → Working s p t g → Working s p u g
  working_indexed others z is has work =
      let kept = grows_indexed.kept in
      let same = grows_indexed.counters in
      let (rows, _, rowed) = x.given z work.rowed.0 work.rowed.1 in
      record {
        standing = standing_stays s p t u kept same work.standing;
        live = live_indexed work.live;
        rowed = (rows, rowed);
        indexed =
            λ e low word.
            entry_stays s p t u kept same grows_indexed.given e
            (⊎_elim
            (λ (y : e - constants_of p ≡ get_or (t NODES) k 0 - constants_of p).
            let q : e ≡ get_or (t NODES) k 0 = omega (arith, is.behind) in
            rw q has)
            (λ (y : e - constants_of p ≡ get_or (t NODES) k 0 - constants_of p → ⊥).
            work.indexed e low (rw (← others (e - constants_of p) y) word))
            (equal (e - constants_of p) (get_or (t NODES) k 0 - constants_of p)));
        raw = raw_stays s p t u kept same grows_indexed.given work.raw;
      }
