-- A built job as a whole: what each stage left, from the bytes to the layout. Assumes nothing.
use mathlib.Core.List.{List, map}
use mathlib.Core.Logic.{◌⊎◌, inl, inr}
use mathlib.Core.Option.{some}
use mathlib.Core.Path.{◌≡◌, sym, ap, subst, ◌∙◌}
use Prim.Native.Nat.{ℕ, suc, ◌+◌, ◌<◌}
use native.Mathlib.Omega.{arith}
use lib.ListN.{length, get_elem?}
use Rattle.definition.specs.Basics.{good}
use Rattle.definition.specs.Shapes.{bootstrap_tag, Entry, with_kids}
use Rattle.definition.specs.Job.{Request, Job}
use Rattle.definition.specs.Form.{form}
use Rattle.definition.specs.Numbering.{top_of, constants_of, numbered}
use Rattle.definition.specs.Definitions.{tag_at}
use Rattle.definition.specs.Resolving.{Goal, table_entry, goal_of, Node, Mark, done}
use Rattle.definition.specs.Building.{Row, name_wanted}
use Rattle.definition.specs.Layout.{starters, node_at_lem, answer_all, Layout, index_nodes, layout}
use Rattle.facts.specs.Lists.{Among}
use Rattle.facts.proofs.Lists.{found_inside, among-left, among-right, among-back, map_at, unmap}
use Rattle.facts.proofs.Each.{Each, each_at, each_from}
use Rattle.laws.specs.Statements.{IsBytes}
use Rattle.laws.proofs.Definitions.RawSlotsRise.{Rises, rises}
use Rattle.laws.proofs.Definitions.DefinedAsPlaced.{DefinedFacts, wide_at, defined_facts}
use Rattle.laws.proofs.Resolving.JobGoals.{job_names, job_constants, job_table, table_bootstrap}
use Rattle.laws.proofs.Resolving.FaithfulToEntries.{settled-grows}
use Rattle.laws.specs.Faithful.{Settled}
use Rattle.laws.proofs.Resolving.NodesAndChildren.{tag-found}
use Rattle.laws.proofs.Resolving.ResolvedNodes.{child_done, GoodTable, kids_in_lem, bootstrap_kids}
use Rattle.laws.proofs.Slots.SlotsToHold.{to_hold_among}
use Rattle.laws.proofs.Building.ChildNumbers.{InlineIn, rows_of, StackIn, Starts}
use Rattle.laws.proofs.Building.AfterRequests.{Going, Answered, Further, answer_all-going}
use Rattle.laws.proofs.Building.AfterRecord50.{raw_goals, raws_of}
use Rattle.laws.proofs.Building.LayoutStages.{Stages, stages}
use Rattle.laws.proofs.Building.BeforeRequests.{formed_table, begun, begun_asks}
use Rattle.laws.proofs.Building.AfterBuilding.{built_inline}
use Rattle.laws.proofs.Building.AfterName.{Named, named}

module _ (bytes : List ℕ) (job : Job (List ℕ)) (l : Layout) (are : IsBytes bytes) (formed : form bytes ≡ good job) (laid : layout (top_of job) (numbered job) ≡ good l) where
  pub st : Stages (top_of job) (numbered job) l
  st = stages (top_of job) (numbered job) l laid

  abbrev pub table : List (Entry ℕ Goal)
  table = job_table (numbered job)

  pub facts : DefinedFacts (wide_at (constants_of (numbered job).definitions)) (numbered job).definitions st.defined
  facts = defined_facts (top_of job) (constants_of (numbered job).definitions) (numbered job).definitions st.defined st.is_defined

  pub rising : Rises (top_of job) st.defined
  rising = rises (top_of job) (constants_of (numbered job).definitions) (numbered job).definitions st.defined st.is_defined

  pub good_job_table : GoodTable table
  good_job_table = formed_table bytes job are formed

  -- the raw constants, as the building stack has them
  abbrev pub raws : List (ℕ × ℕ)
  raws = raws_of st.defined.held st.ready.resolved.marks

  -- what record 50 left
  pub started :
      Going table (top_of job) st.defined.held raws st.ready
      × ((g : Goal) → Among g (raw_goals (job_constants (numbered job)) st.defined) → Settled st.ready.resolved.marks g)
  started = begun bytes job are formed st.defined st.is_defined st.ready st.is_ready

  -- the requests, by the job's own names
  pub is_asked_lem : answer_all (job_names (numbered job)) (job_constants (numbered job)) (suc (length (numbered job).definitions)) (numbered job).requests st.ready ≡ good (st.answers, st.asked)
  is_asked_lem =
      subst
      (λ names. answer_all names (job_constants (numbered job)) (suc (length (numbered job).definitions)) (numbered job).requests st.ready ≡ good (st.answers, st.asked))
      facts.all_names
      st.is_asked

  pub asked :
      Going table (top_of job) st.defined.held raws st.asked
      × Further st.ready st.asked
      × ((i : ℕ) (q : Request) →
      get_elem? (numbered job).requests i ≡ some q →
      (a : ℕ) × (get_elem? st.answers i ≡ some a) × Answered (goal_of (job_names (numbered job)) (job_constants (numbered job)) q.what) a st.asked)
  asked =
      answer_all-going table good_job_table.cited (top_of job) st.defined.held raws (job_names (numbered job)) (job_constants (numbered job))
      (suc (length (numbered job).definitions))
      (numbered job).requests
      st.ready
      (st.answers, st.asked)
      (begun_asks bytes job are formed st.defined st.is_defined st.ready st.is_ready)
      is_asked_lem
      started.0

  -- raw definitions stay settled
  pub raw_settled : (g : Goal) → Among g (raw_goals (job_constants (numbered job)) st.defined) → Settled st.asked.resolved.marks g
  raw_settled g a = settled-grows st.ready.resolved st.asked.resolved g asked.1.grows (started.1 g a)

  -- ---- what building starts from

  abbrev pub nodes : List Node
  nodes = st.asked.resolved.nodes

  abbrev pub marks : List Mark
  marks = st.asked.resolved.marks

  -- the node of a settled entry
  pub node_at : (marks : List Mark) (e k : ℕ) → get_elem? marks e ≡ some (done k) → node_at_lem marks e ≡ k
  unfolding node_at_lem
  node_at marks e k h = omega (arith, child_done marks e k h)

  -- a raw constant's node is what its entry became
  pub raw_node_lem : (s k : ℕ) → Among (s, k) raws → (e : ℕ) × Among (s, e) (starters st.defined.held) × (get_elem? marks e ≡ some (done k))
  raw_node_lem s k a =
      let f : ℕ × ℕ → ℕ × ℕ = λ r. (r.0, node_at_lem st.ready.resolved.marks r.1) in
      let u = unmap f (starters st.defined.held) (s, k) (among-back (s, k) (map f (starters st.defined.held)) a) in
      let e = u.0.1 in
      let slot : u.0.0 ≡ s = ap (λ (x : ℕ × ℕ). x.0) u.2 in
      let goal : Among (table_entry e) (map (λ (r : ℕ × ℕ). table_entry r.1) (starters st.defined.held)) = (u.1.0, map_at (λ (r : ℕ × ℕ). table_entry r.1) (starters st.defined.held) u.1.0 u.0 u.1.1) in
      let settled = started.1 (table_entry e) (among-left (table_entry e) (map (λ r. table_entry r.1) (starters st.defined.held)) (map (λ r. table_entry (job_constants (numbered job) + r.1)) st.defined.indexes) goal) in
      let node : settled.0 ≡ k = sym (node_at st.ready.resolved.marks e settled.0 settled.1) ∙ ap (λ (x : ℕ × ℕ). x.1) u.2 in (
        e,
        subst (λ n. Among (n, e) (starters st.defined.held)) slot u.1,
        subst (λ n. get_elem? marks e ≡ some (done n)) node (asked.1.grows.marks_kept e settled.0 settled.1),
      )

  -- what a raw bootstrap's entry became
  pub index-node : (i e : ℕ) → Among (i, e) st.defined.indexes → (k : ℕ) × (get_elem? marks (job_constants (numbered job) + e) ≡ some (done k))
  index-node i e a =
      raw_settled (table_entry (job_constants (numbered job) + e))
      (among-right (table_entry (job_constants (numbered job) + e))
      (map (λ r. table_entry r.1) (starters st.defined.held))
      (map (λ r. table_entry (job_constants (numbered job) + r.1)) st.defined.indexes)
      (a.0, map_at (λ (r : ℕ × ℕ). table_entry (job_constants (numbered job) + r.1)) st.defined.indexes a.0 (i, e) a.1))

  abbrev pub indexes : List (ℕ × ℕ)
  indexes = index_nodes (job_constants (numbered job)) marks st.defined.indexes

  -- the tag of the node that an entry became is the entry's
  pub node_tag : (e k : ℕ) (x : Entry ℕ Goal) → get_elem? marks e ≡ some (done k) → get_elem? table e ≡ some x → tag_at nodes k ≡ x.tag
  unfolding with_kids
  node_tag e k x h at =
      let n = asked.0.faithful.node_of e k h in
      let same : n.0 ≡ x = cc in
      tag-found nodes k _ n.2 ∙ ap (λ (y : Entry ℕ Goal). y.tag) same

  -- raw bootstraps are bootstraps
  pub indexes_are : Each (λ x. tag_at nodes x.1 ≡ bootstrap_tag) indexes
  unfolding index_nodes
  indexes_are = each_from (λ x. tag_at nodes x.1 ≡ bootstrap_tag) indexes at
    where
      at : (i : ℕ) (x : ℕ × ℕ) → get_elem? indexes i ≡ some x → tag_at nodes x.1 ≡ bootstrap_tag
      at i x h =
          let u = unmap (λ (r : ℕ × ℕ). (r.0, node_at_lem marks (job_constants (numbered job) + r.1))) st.defined.indexes x (i, h) in
          let e = u.0.1 in
          let n = index-node u.0.0 e u.1 in
          let node = asked.0.faithful.node_of (job_constants (numbered job) + e) n.0 n.1 in
          let tag = table_bootstrap (numbered job).definitions (job_names (numbered job)) (job_constants (numbered job)) (job_constants (numbered job) + e) node.0 node.1 (omega arith) in
          subst (λ (y : ℕ × ℕ). tag_at nodes y.1 ≡ bootstrap_tag) u.2
          (ap (tag_at nodes) (node_at marks (job_constants (numbered job) + e) n.0 n.1) ∙ node_tag (job_constants (numbered job) + e) n.0 node.0 n.1 node.1 ∙ tag)

  -- nodes on the stack are nodes of the list
  stack_in_lem : StackIn nodes st.asked.pool.pending
  stack_in_lem s k a = go (to_hold_among (s, k) st.asked.pool.given raws (subst (Among (s, k)) asked.0.pooled.stack a))
    where
      go : Among (k, s) st.asked.pool.given ⊎ Among (s, k) raws → k < length nodes
      go (inl g) = (each_at _ st.asked.pool.given g.0 (k, s) asked.0.pooled.given_in g.1).0
      go (inr r) =
          let n = raw_node_lem s k r in
          found_inside nodes k _ (asked.0.faithful.node_of n.0 k n.2).2

  pub starts-here : Starts nodes raws st.asked.pool
  starts-here =
      record {
        kids_in = kids_in_lem table good_job_table st.asked.resolved asked.0.faithful;
        stack = asked.0.pooled.stack;
        stack_in = stack_in_lem;
      }

  abbrev pub rows : List Row
  rows = rows_of st.made

  -- the inline rows, with their indexes
  abbrev pub inline : List (Row × ℕ)
  inline = st.made.rows.inline

  pub ending :
      Named (top_of job) st.defined.held raws nodes (InlineIn inline) (name_wanted (numbered job).build.name_byte (length rows)) st.made st.named
  ending =
      named (top_of job) st.defined.held raws nodes (InlineIn inline) (name_wanted (numbered job).build.name_byte (length rows)) st.made st.named
      starts-here.kids_in
      (built_inline (top_of job) st.defined.held raws nodes indexes st.asked.pool st.made
      asked.0.pooled
      starts-here
      (bootstrap_kids table good_job_table st.asked.resolved asked.0.faithful)
      indexes_are
      st.is_made)
      st.is_named
