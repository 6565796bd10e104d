-- Finished words have all that the pool and the class name are read from. Assumes nothing.
use mathlib.Core.List.{List}
use mathlib.Core.Logic.{◌⊎◌, inl, inr, ⊎_elim}
use mathlib.Core.Path.{◌≡◌, refl, sym}
use Prim.Native.Nat.{ℕ, ◌+◌, ◌-◌, ◌≤◌, ◌<◌}
use native.Mathlib.Omega.{arith}
use lib.ListN.{length, get_or}
use Rattle.definition.specs.Job.{ClassSlot, slot, request}
use Rattle.definition.specs.Numbering.{top_of}
use Rattle.definition.specs.Definitions.{Defined}
use Rattle.definition.specs.Building.{Made}
use Rattle.definition.specs.Layout.{Ready, class_slot_of}
use Rattle.facts.proofs.Lists.{clash}
use Rattle.laws.specs.Statements.{IsBytes}
use Rattle.laws.proofs.Form.FormedJobs.{FormedClass, form-formed}
use Rattle.laws.proofs.Slots.SlotsToHold.{count_range}
use Rattle.slots.specs.Gaps.{GapTable}
use Rattle.store.specs.Store.{Store, size}
use Rattle.store.specs.JobIn.{job_in, counts_in, constants_in, entries_in}
use Rattle.store.specs.Regions.{COUNTS, MARKS, GIVEN, RAW-KEYS, RAW-ENTRIES, ANSWERS, Work}
use Rattle.store.specs.Words.{ENTRY, HALF}
use Rattle.store.proofs.Laying.{work-sizes}
use Rattle.interner.specs.Nodes.{node_count}
use Rattle.raws.specs.Raws.{raw_count, SlotItem, IndexItem}
use Rattle.job.specs.Forms.{counts_of}
use Rattle.pool.specs.Pooled.{gaps_in}
use Rattle.pool.specs.Owning.{IsOwner}
use Rattle.definitions.proofs.Rooms.{room}
use Rattle.output.specs.Contents.{Owned, HeldOrder, OwnersMade, Finished, KidsNumbered, pool_count}
use Rattle.output.specs.Names.{ClassAt, class_slot_in}
use Rattle.output.proofs.Handing.{held-order}
use Rattle.output.proofs.Owned.{all_finished}
use Rattle.builder.proofs.Final.{Final}
use Rattle.builder.proofs.Known as known
use Rattle.builder.proofs.NodeWords as nodal
use Rattle.builder.proofs.HeldWords as held
use Rattle.builder.proofs.ChildWords.{done_numbered, bootstrap_numbered}
use Rattle.builder.proofs.RowsFinished.{raw_bootstrap}

-- the class slot's answer is one of the job's
class_asked : (requests : ℕ) (c : ClassSlot) → FormedClass requests c → (n : ℕ) → c ≡ request n → n < requests
class_asked requests (slot k) h n q = clash (cc)
class_asked requests (request k) h n q = let same : k ≡ n = cc in omega (arith, h.1, same)

-- and it is a number of two bytes
class_small :
    (requests : ℕ) (answers : List ℕ) (c : ClassSlot) → FormedClass requests c → ((i : ℕ) → i < requests → get_or answers i 0 < 65536) →
    class_slot_of answers c < 65536
unfolding class_slot_of
class_small requests answers (slot k) h small = h
class_small requests answers (request k) h small = small k h.1

module _
    (s p : List ℕ) (v : Store) (h : GapTable) (d : Defined) (ready asked : Ready) (m after : Made)
    (are : IsBytes s) (work : Work s p) (f : Final s p v h d ready asked m after) where
  -- NODES that slots hold

  -- no two nodes have one slot
  pub given-alone : (i j : ℕ) → i < j → j < node_count v → 0 < get_or (v GIVEN) i 0 → get_or (v GIVEN) i 0 ≡ get_or (v GIVEN) j 0 → ⊥
  given-alone i j less low some same =
      let n = get_or (v GIVEN) i 0 in
      omega (
        arith,
        less,
        known.one-node s p v h d ready asked m after are work f n i j (held.given_holds s p v h d ready asked m after are work f i n some refl)
            (held.given_holds s p v h d ready asked m after are work f j n some (sym same)),
      )

  owner_numbered : (k : ℕ) → k < node_count v → IsOwner v k → KidsNumbered s v k
  owner_numbered k low owner = done_numbered s p v h d ready asked m after are work f k low (f.done k low owner)

  raw_numbered :
      (i : ℕ) → i < raw_count v → (get_or (v RAW-ENTRIES) i 0 ≡ HALF → ⊥) →
      (get_or (v MARKS) (get_or (v RAW-ENTRIES) i 0) 0 < node_count v + 2) × KidsNumbered s v (get_or (v MARKS) (get_or (v RAW-ENTRIES) i 0) 0 - 2)
  raw_numbered i l whole =
      let y = held.done_whole s p v h d ready asked m after are work f i l whole in
      let k = get_or (v MARKS) (get_or (v RAW-ENTRIES) i 0) 0 - 2 in
      let low : k < node_count v = omega (arith, y.1, y.2) in (
        y.2,
        ⊎_elim
            (λ (x : SlotItem (top_of (job_in s)) d.held (get_or (v RAW-KEYS) i 0) (get_or (v RAW-ENTRIES) i 0)).
            let key : get_or (v RAW-KEYS) i 0 < ENTRY = omega (arith, x.high) in
            owner_numbered k low (inr (i, held.raw_owner s p v h d ready asked m after are work f i l key whole)))
            (λ (x : IndexItem (constants_in s) d.indexes (get_or (v RAW-KEYS) i 0) (get_or (v RAW-ENTRIES) i 0)).
            bootstrap_numbered s p v h d ready asked m after are work f k low
            (raw_bootstrap s p v h d ready asked m after are work f i l x.behind x.word))
            (f.raws.items i l),
      )

  pub owned_here : Owned s v
  owned_here =
      record {
        made = nodal.made s p v (known.nodes_there s p v h d ready asked m after are work f) (f.long _);
        raw_nodes = raw_numbered;
        given_nodes = λ k low some. owner_numbered k low (inl some);
      }

  -- RAW SLOTS in their order, and THE COUNT

  pub order_here : HeldOrder p v
  order_here =
      let c = room s p work in
      held-order p (constants_in s) (top_of (job_in s)) d.held d.indexes v f.raws f.ordered (omega (arith, c.counts)) f.room
      (omega (arith, f.room, c.raws.entries)) (omega (arith, f.room, c.raws.order))

  pub count_here : (1 ≤ pool_count v) × (pool_count v < 65536)
  count_here =
      let r = count_range (top_of (job_in s)) (gaps_in (v COUNTS) h) f.apart in
      (omega (arith, r, f.count), omega (arith, r, f.count))

  pub finished-here : (u : Store) → OwnersMade p v u → Finished s p u
  finished-here u made =
      all_finished s p (constants_in s) (top_of (job_in s)) d.held d.indexes v u work made f.raws f.room raw_done_lem given-alone owned_here order_here
      count_here.0 count_here.1
    where
      raw_done_lem :
          (i : ℕ) → i < raw_count v →
          (get_or (v RAW-ENTRIES) i 0 ≡ HALF) ⊎ ((get_or (v RAW-ENTRIES) i 0 < entries_in s) × (1 < get_or (v MARKS) (get_or (v RAW-ENTRIES) i 0) 0))
      raw_done_lem i l = ⊎_elim (λ y. inl y) (λ y. inr (y.0, y.1)) (f.raws_done i l)

  -- THE CLASS

  formed_class : FormedClass (length (job_in s).requests) (job_in s).build.class
  formed_class = (form-formed s (job_in s) are (known.formed s p v h d ready asked m after are work f)).build.class

  answers_many : size p ANSWERS ≡ length (job_in s).requests
  unfolding counts_in counts_of
  answers_many = (work-sizes s p work).answers

  pub class_here : ClassAt s p v
  class_here =
      record {
        counted = omega (arith, (room s p work).counts);
        build = f.build;
        asked = λ n q. omega (arith, class_asked (length (job_in s).requests) (job_in s).build.class formed_class n q, answers_many);
      }

  pub class_low : class_slot_in s v < 65536
  class_low =
      class_small (length (job_in s).requests) (v ANSWERS) (job_in s).build.class formed_class (λ i l. f.small i (omega (arith, l, answers_many)))
