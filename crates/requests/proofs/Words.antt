-- A job up to its last request, from record 50: the words that building starts from, or a refusal. Assumes nothing.
use mathlib.Core.Bool.{false}
use mathlib.Core.List.{List, [], ◌∷◌, map}
use mathlib.Core.Option.{some}
use mathlib.Core.Path.{◌≡◌, refl, sym, ap, subst, ◌∙◌}
use Prim.Native.Nat.{ℕ, ◌+◌, ◌<◌}
use native.Mathlib.Omega.{arith}
use lib.ListN.{get_or, drop}
use Rattle.definition.specs.Basics.{good, ◌>>=◌}
use Rattle.definition.specs.Job.{read_build}
use Rattle.definition.specs.Definitions.{Defined}
use Rattle.definition.specs.Places.{table_records, record_of}
use Rattle.definition.specs.Building.{Pool, mark_of}
use Rattle.laws.specs.Statements.{IsBytes}
use Rattle.slots.specs.Gaps.{GapTable}
use Rattle.store.specs.Store.{Store, among, On}
use Rattle.store.specs.JobIn.{job_in, constants_in}
use Rattle.store.specs.Regions.{COUNTS, INDEXES, RAW-HEADS, ROW-HEADS, OWNER-HEADS, RAW-LINKS, RECORDS, RAW-KEYS, RAW-ENTRIES, ORDER, NODES, PENDING, ANSWERS, ORIGINS, PLACE, AT, RAW-COUNT, HELD-COUNT, GAP-COUNT, PENDING-COUNT, ROW-COUNT, WRITTEN-COUNT, INLINE-COUNT, NAME-SLOT, Work}
use Rattle.interner.specs.Nodes.{node_count, record_in}
use Rattle.raws.specs.Raws.{raw_count, RawsIn}
use Rattle.resolver.specs.Resolved.{resolved_in}
use Rattle.definitions.specs.Defining.{records_in}
use Rattle.definitions.specs.Begun.{ready_from, Begun, AtFifty}
use Rattle.pool.specs.Pooled.{PooledIn}
use Rattle.pool.specs.Starting.{CanStart, PoolStarted}
use Rattle.pool.specs.Replying.{origins_in, ready_in, asked_counters, asked_regions, RepliedAll}
use Rattle.requests.specs.Asked.{requests_in, asked_in, AskedWords, Asked, AskedAll}
use Rattle.requests.proofs.Settling.{raw_done_lem}
use Rattle.requests.proofs.Handing.{started_at, started_place, first_pool, replies, replies_are, asked_good, asked_bad}
use Rattle.requests.proofs.Answers.{still_settled, answers_small, owners_wait}

-- refused up to record 50
pub asked_refused : (p : List ℕ) (words top : ℕ) (s : List ℕ) (u : Store) (g : GapTable) (r : ℕ) → 0 < r → Begun p words top s u r → AskedAll p words top s u g r
unfolding asked_in
asked_refused p words top s u g r h b =
    record { places = b.places; through = λ e. absurd (omega arith); refused = λ _. ap (λ x. x >>= requests_in s) (b.refused h) }

module _
    (s p : List ℕ) (work : Work s p) (bytes : IsBytes s) (top : ℕ) (t u v : Store) (d : Defined) (f : AtFifty p top s t d)
    (g h k : GapTable) (started : PoolStarted p top t u g h) where
  -- all requests are answered
  module _ (replied : RepliedAll s p u v h k 0) where
    same-counter : (c : ℕ) → among c (GAP-COUNT ∷ PENDING-COUNT ∷ []) ≡ false → among c (PLACE ∷ AT ∷ asked_counters) ≡ false → get_or (v COUNTS) c 0 ≡ get_or (t COUNTS) c 0
    same-counter c a b = replied.counters c b ∙ started.counters c a

    same-region : (j : ℕ) → among j (COUNTS ∷ PENDING ∷ []) ≡ false → among j asked_regions ≡ false → v j ≡ t j
    same-region j a b = replied.kept j b ∙ started.kept j a

    same_count : raw_count v ≡ raw_count t
    same_count = same-counter RAW-COUNT refl refl

    same-raws : RawsIn p (constants_in s) top d.held d.indexes v
    same-raws =
        rw (same-region RAW-KEYS refl refl, same-region RAW-ENTRIES refl refl, same-region RAW-HEADS refl refl, same-region RAW-LINKS refl refl, same_count, same-counter HELD-COUNT refl refl)
        f.raws

    -- a node's lowest entry is the first that became it, and its record was kept
    node_records : (k : ℕ) → k < node_count v → record_in v k ≡ record_of (table_records (records_in s)) (resolved_in s v).marks k
    unfolding record_of
    node_records k l =
        let a = (replied.again refl).rests in
        let e = get_or (v NODES) k 0 in
        ap (λ (words : List ℕ). get_or words e 0) (same-region RECORDS refl refl)
        ∙ f.records e (a.nodes.inside k l)
        ∙ ap (λ (i : ℕ). get_or (table_records (records_in s)) i 0) (a.lowest k l)

    -- record 60 stands at the place in turn
    build-there : read_build (drop (get_or (v COUNTS) AT 0 + 1) s) ≡ some ((job_in s).build, [])
    build-there =
        let l = f.laid in
        let at : get_or (v COUNTS) AT 0 ≡ l.sixty = replied.at refl l.sixty (rw (started_at s p top t u d f g h started) l.requests) in
        rw at l.build

    module _
        (pool : Pool) (pooled : PooledIn pool v k)
        (is : replies s p top t u d f g h started ≡ good (v ANSWERS, ready_in s v pool)) (marks : map mark_of (origins_in v) ≡ v ORIGINS) where
      words : AskedWords p top s v k d
      words =
          let a = replied.again refl in
          record {
            table = a.table;
            rests = a.rests;
            raws = same-raws;
            ordered = rw (same-region RAW-KEYS refl refl, same-region RAW-ENTRIES refl refl, same-region ORDER refl refl, same_count) f.ordered;
            room = rw same_count f.room;
            done = raw_done_lem (constants_in s) d top p s v a.rests.faithful same-raws (still_settled s p work bytes top t d f v pool is);
            live = a.live;
            apart = replied.apart top started.apart;
            waits = owners_wait s p work bytes top t d f v pool is k pooled same-raws;
            indexes = rw (same-region INDEXES refl refl) f.indexes;
            row_heads = rw (same-region ROW-HEADS refl refl) f.row_heads;
            owner_heads = rw (same-region OWNER-HEADS refl refl) f.owner_heads;
            rows = same-counter ROW-COUNT refl refl ∙ f.counters ROW-COUNT (omega arith);
            written = same-counter WRITTEN-COUNT refl refl ∙ f.counters WRITTEN-COUNT (omega arith);
            inline = same-counter INLINE-COUNT refl refl ∙ f.counters INLINE-COUNT (omega arith);
            name = same-counter NAME-SLOT refl refl ∙ f.counters NAME-SLOT (omega arith);
            place = omega (arith, replied.place refl, started_place s p top t u d f g h started);
            build = build-there;
            small = answers_small s p work bytes top t d f v pool is;
            marks = marks;
            records = node_records;
          }

      asked_through : Asked p top s v k d (ready_from top s d (resolved_in s t)) pool
      asked_through =
          record {
            is_defined = f.is_defined;
            is_ready = f.is_ready;
            is_asked = asked_good s p top t u d f g h started (v ANSWERS, ready_in s v pool) is;
            pooled = pooled;
            words = words;
          }

  -- the requests in turn, answered or refused
  pub asked_all :
      (n r : ℕ) → On p n → CanStart p (constants_in s) top d.held d.indexes t g → RepliedAll s p u v h k r →
      AskedAll p n top s v k r
  asked_all n r on can replied =
      let first = started.pooled (constants_in s) d.held d.indexes can d.version in
      let start = first_pool s p top t u d f g h started in
      let are = replies_are s p top t u d f g h started in
      record {
        places = (work, on);
        through =
            λ e.
            let (pool, is, pooled, marks) = replied.met start first e in
            (d, ready_from top s d (resolved_in s t), pool, asked_through (subst (RepliedAll s p u v h k) e replied) pool pooled (sym are ∙ is) marks);
        refused = λ z. asked_bad s p top t u d f g h started _ (sym are ∙ replied.refused start first z);
      }
