-- What building leaves is what the name and the count start from, and what they leave is final. Assumes nothing.
use mathlib.Core.List.{List, map}
use mathlib.Core.Path.{◌≡◌, refl, sym, ap, ◌∙◌}
use Prim.Native.Nat.{ℕ, suc, ◌+◌, ◌≤◌, ◌<◌}
use lib.ListN.{length}
use Rattle.definition.specs.Basics.{good, bad}
use Rattle.definition.specs.Numbering.{numbered}
use Rattle.definition.specs.Definitions.{Defined}
use Rattle.definition.specs.Slots.{highest_slot}
use Rattle.definition.specs.Building.{Pool, Made, build_all}
use Rattle.definition.specs.Layout.{Ready, index_nodes, layout}
use Rattle.slots.specs.Gaps.{GapTable}
use Rattle.store.specs.Store.{Store, size}
use Rattle.store.specs.JobIn.{job_in, definitions_in, counts_in, constants_in}
use Rattle.store.specs.Regions.{MARKS, NODE-HEADS, ANSWERS, PLACE, AT, NAME-SLOT, Work}
use Rattle.store.specs.Words.{mark_word}
use Rattle.interner.specs.Nodes.{nodes_in}
use Rattle.definitions.specs.Defining.{place_count}
use Rattle.rows.specs.Rowed.{RowedIn}
use Rattle.pool.specs.Pooled.{PooledIn}
use Rattle.pool.specs.Replying.{ready_in}
use Rattle.requests.specs.Asked.{AskedWords, Asked}
use Rattle.building.specs.Built.{BuiltAll}
use Rattle.ending.specs.Ended.{CanEnd, PoolEnded}
use Rattle.builder.proofs.Stages.{refused_building, refused_naming}
use Rattle.builder.proofs.JoinKeeping.{Later, built_later, named-later, later_then, nodes_same, table_stays, rests-stay, ready_stays}
use Rattle.builder.proofs.JoinAsking.{rows_ready_lem, raws_are}
use Rattle.builder.proofs.JoinVersions.{held-version}

-- BUILT: t and g are behind the requests, u and h behind building, which gave r
module _
    (p : List ℕ) (top : ℕ) (s : List ℕ) (t u : Store) (g h : GapTable) (r : ℕ) (work : Work s p) (long : (k : ℕ) → length (t k) ≡ size p k)
    (d : Defined) (ready : Ready) (pool : Pool) (asked : Asked p top s t g d ready pool) (built : BuiltAll s p (counts_in s).version t u g h r) where
  abbrev words : AskedWords p top s t g d
  words = asked.words

  later : r ≡ 0 → Later t u
  later = built_later s p (counts_in s).version t u g h r built

  -- the record in turn is 60 from then on, unless building refuses
  pub place_at : (v : Store) → Later t v → place_count v ≡ suc (length (definitions_in s) + length (job_in s).requests)
  place_at v l = l.counters PLACE refl ∙ words.place

  pub built_refused : 0 < r → layout top (numbered (job_in s)) ≡ bad (record { code = r; place = place_count u })
  built_refused more =
      let told = built.refused pool _ (held-version p top s t g d ready pool asked) asked.pooled (raws_are p top s t g d work long words) more in
      refused_building top s d ready (t ANSWERS) (ready_in s t pool) asked.is_asked _ told.refused
      ∙ ap (λ n. bad (record { code = r; place = n })) (sym (told.place ∙ words.records told.node told.made))

  pub can_end : r ≡ 0 → top ≤ highest_slot → CanEnd s p top u h
  can_end fine few =
      let since = later fine in
      let rests = rests-stay s t u since (size p NODE-HEADS) words.rests in
      record {
        nodes = (work, (table_stays s t u since words.table).entered, rests.nodes);
        raws = ready_stays s t u since p (rows_ready_lem p top s t g d work long words);
        gaps = (built.live fine).gaps;
        apart = built.apart fine top words.apart;
        few = few;
        build = rw (built.counters fine AT refl) words.build;
        unnamed = built.counters fine NAME-SLOT refl ∙ words.name;
      }

  -- what was made
  pub record Built (m : Made) : Type 0 where
    pub is : build_all (nodes_in s t) (index_nodes (constants_in s) (map mark_word (t MARKS)) d.indexes) pool ≡ good m
    pub pooled : PooledIn m.pool u h
    pub rowed : RowedIn p m.rows u

  pub made : r ≡ 0 → (m : Made) × Built m
  made fine =
      let (m, is, pooled, rowed) = built.met pool _ (held-version p top s t g d ready pool asked) asked.pooled (raws_are p top s t g d work long words) fine in
      (m, record { is = is; pooled = pooled; rowed = rowed })

  -- NAMED: v and i are behind the name and the count, which gave n
  module _ (fine : r ≡ 0) (v : Store) (i : GapTable) (n : ℕ) (ended : PoolEnded s p top u v h i n) where
    pub named-since : Later u v
    named-since = named-later u v ended.kept ended.counters

    pub asked_since : Later t v
    asked_since = later_then t u v (later fine) named-since

    pub named-refused : 0 < n → layout top (numbered (job_in s)) ≡ bad (record { code = n; place = place_count v })
    named-refused more =
        let (m, b) = made fine in
        refused_naming top s d ready (t ANSWERS) (ready_in s t pool) asked.is_asked m n b.is
        (rw (nodes_same s t u (later fine)) at (ended.refused m b.pooled b.rowed more))
        ∙ ap (λ x. bad (record { code = n; place = x })) (sym (place_at v asked_since))
