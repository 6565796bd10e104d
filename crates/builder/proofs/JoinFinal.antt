-- A job that is built and named: the words are final, and slots can get their owners. Assumes nothing.
use mathlib.Core.List.{List}
use mathlib.Core.Path.{◌≡◌, refl, sym, ◌∙◌}
use Prim.Native.Nat.{ℕ, ◌≤◌, ◌<◌}
use native.Mathlib.Omega.{arith}
use lib.ListN.{length, get_or}
use Rattle.definition.specs.Basics.{good}
use Rattle.definition.specs.Numbering.{top_of, literals, numbered}
use Rattle.definition.specs.Definitions.{Defined}
use Rattle.definition.specs.Building.{Pool, Made}
use Rattle.definition.specs.Layout.{Ready, Layout, layout_of, layout}
use Rattle.definition.specs.Run.{render}
use Rattle.laws.specs.Statements.{IsBytes}
use Rattle.laws.proofs.Form.HighestSlots.{top-low}
use Rattle.slots.specs.Gaps.{GapTable}
use Rattle.store.specs.Store.{Store, size}
use Rattle.store.specs.Chains.{Heads}
use Rattle.store.specs.JobIn.{job_in, counts_in, constants_in}
use Rattle.store.specs.Regions.{COUNTS, GIVEN, NODE-HEADS, OWNER-HEADS, OWNER-LINKS, ANSWERS, ORIGINS, AT, RAW-COUNT, NODE-COUNT, Work}
use Rattle.store.proofs.Bounds.{formed_job, work-heads}
use Rattle.store.proofs.Laying.{work-sizes, work-formed, entries-counted}
use Rattle.interner.specs.Nodes.{node_count}
use Rattle.resolver.specs.Resolved.{AtRest}
use Rattle.output.specs.Contents.{OwnersMade}
use Rattle.pool.specs.Replying.{ready_in}
use Rattle.requests.specs.Asked.{AskedWords, Asked}
use Rattle.building.specs.Built.{BuiltAll}
use Rattle.ending.specs.Ended.{name_in, name_of, Named, PoolEnded}
use Rattle.builder.specs.Rendered.{Rendered}
use Rattle.builder.proofs.Final.{Final}
use Rattle.builder.proofs.Stages.{asked_is, laid_out}
use Rattle.builder.proofs.JoinKeeping.{Later, built_later, nodes_same, resolved_same, table_stays, rests-stay, raws_stay, ordered_stays, raw_stays, rowed_as, owner_back, done_as}
use Rattle.builder.proofs.Showing.{rendered}
use Rattle.builder.proofs.JoinNaming.{name_low_lem}
use Rattle.builder.proofs.JoinEnding.{Built, made, place_at, named-since, asked_since}

-- t and g are behind the requests, u and h behind building, v and i behind the name and the count
module _
    (s p : List ℕ) (t u v : Store) (g h i : GapTable) (r n : ℕ) (work : Work s p) (long : (k : ℕ) → length (t k) ≡ size p k)
    (d : Defined) (ready : Ready) (pool : Pool) (asked : Asked p (top_of (job_in s)) s t g d ready pool)
    (built : BuiltAll s p (counts_in s).version t u g h r) (fine : r ≡ 0) (ended : PoolEnded s p (top_of (job_in s)) u v h i n) where
  abbrev words : AskedWords p (top_of (job_in s)) s t g d
  words = asked.words

  abbrev later : Later t v
  later = asked_since p (top_of (job_in s)) s t u g h r work long d ready pool asked built fine v i n ended

  rests : AtRest (size p NODE-HEADS) s v
  rests = rests-stay s t v later (size p NODE-HEADS) words.rests

  -- what slots' owners ask
  pub can_own :
      Heads p OWNER-HEADS
      × (NODE-COUNT < size p COUNTS)
      × (node_count v ≤ size p GIVEN)
      × (node_count v ≤ size p OWNER-LINKS)
      × ((k : ℕ) → get_or (v OWNER-HEADS) k 0 ≡ 0)
  can_own =
      let z = work-sizes s p work in (
        (work-heads s p work).4,
        omega (arith, z.counts),
        omega (arith, z.given, entries-counted s, rests.nodes.few),
        omega (arith, z.owner_links, entries-counted s, rests.nodes.few),
        rw (later.kept OWNER-HEADS refl) words.owner_heads,
      )

  module _
      (whole : (k : ℕ) → length (v k) ≡ size p k) (bytes : IsBytes s) (m after : Made) (b : Built p (top_of (job_in s)) s t u g h r work long d ready pool asked built m)
      (is : name_of s u m ≡ good (name_in v, after)) (named : Named m after v i) where
    low : name_in v ≤ top_of (job_in s)
    unfolding layout_of
    low =
        name_low_lem s (job_in s) _ bytes (formed_job s (work-formed s p work))
        (laid_out (top_of (job_in s)) s d ready (t ANSWERS) (ready_in s t pool) asked.is_asked m (name_in v, after) b.is
        (rw (nodes_same s t u (built_later s p (counts_in s).version t u g h r built fine)) at is))

    pub final_words : Final s p v i d ready (ready_in s t pool) m after
    final_words =
        record {
          is_defined = asked.is_defined;
          is_ready = asked.is_ready;
          is_asked =
              rw (later.kept ANSWERS refl)
              (asked_is (top_of (job_in s)) s d ready (t ANSWERS) (ready_in s t pool) asked.is_asked asked.is_defined asked.is_ready);
          is_made = b.is;
          long = whole;
          is_named = rw (nodes_same s u v (named-since p (top_of (job_in s)) s t u g h r work long d ready pool asked built fine v i n ended)) is;
          resolved = sym (resolved_same s t v later);
          table = table_stays s t v later words.table;
          rests = rests;
          raws = raws_stay s t v later p (constants_in s) (top_of (job_in s)) d.held d.indexes words.raws;
          ordered = ordered_stays s t v later (constants_in s) (top_of (job_in s)) d.held d.indexes words.ordered;
          room = rw (later.counters RAW-COUNT refl) words.room;
          raws_done = raw_stays s t v later words.done;
          given = rw (ended.kept GIVEN refl) b.pooled.given;
          rowed = rowed_as s p u v ended.kept ended.counters m.rows b.rowed;
          done =
              λ k l o.
              done_as s p u v ended.kept ended.counters k
              (built.done fine k (rw (ended.counters NODE-COUNT refl) at l) (owner_back s p u v ended.kept ended.counters k o));
          named = named;
          few = top-low s (job_in s) (formed_job s (work-formed s p work));
          name_low = low;
          apart = ended.apart;
          count = ended.count;
          place = place_at p (top_of (job_in s)) s t u g h r work long d ready pool asked built v later;
          build = rw (later.counters AT refl) words.build;
          small = rw (later.kept ANSWERS refl) words.small;
          marks = words.marks ∙ sym (later.kept ORIGINS refl);
        }

  -- w is behind the owners: the definition's layout, and the words that give what it renders
  pub all_through :
      ((k : ℕ) → length (v k) ≡ size p k) → IsBytes s → n ≡ 0 → (w : Store) → OwnersMade p v w →
      (l : Layout) × (layout (top_of (job_in s)) (numbered (job_in s)) ≡ good l) × Rendered s p w (render (literals (job_in s)) l)
  all_through whole bytes through w owners =
      let (m, b) = made p (top_of (job_in s)) s t u g h r work long d ready pool asked built fine in
      let (after, is, named) = ended.met m b.pooled b.rowed through in
      rendered s p v w i d ready (ready_in s t pool) m after bytes work (final_words whole bytes m after b is named) owners
