-- What the laws know of the job that the words were built from, in the words' own stages. Assumes nothing.
use mathlib.Core.Bool.{true}
use mathlib.Core.List.{List, ◌++◌, map}
use mathlib.Core.Logic.{⊎_elim}
use mathlib.Core.Option.{some}
use mathlib.Core.Path.{◌≡◌, sym, ap, subst, ◌∙◌}
use Prim.Native.Nat.{ℕ, suc, ◌+◌, ◌≤◌, ◌<◌}
use native.Mathlib.Omega.{arith}
use lib.ListN.{length, get_elem?}
use Rattle.definition.specs.Basics.{good, lookup}
use Rattle.definition.specs.Shapes.{Entry, is_wide}
use Rattle.definition.specs.Form.{form}
use Rattle.definition.specs.Numbering.{top_of, literals, numbered, constants_of}
use Rattle.definition.specs.Definitions.{Defined, half, tag_at}
use Rattle.definition.specs.Resolving.{Node, done, Resolved}
use Rattle.definition.specs.Building.{Made, kids_of, build_all, attribute_text, name_wanted, name_slot}
use Rattle.definition.specs.Layout.{Ready, Layout, layout, starters, end_definitions, answer_all, index_nodes}
use Rattle.facts.specs.Lists.{Among}
use Rattle.facts.proofs.Lists.{order, true≢false, found_inside, among-right}
use Rattle.facts.proofs.Sums.{times, once_same}
use Rattle.facts.proofs.Results.{good_inj}
use Rattle.laws.specs.Statements.{IsBytes}
use Rattle.laws.proofs.Building.ChildNumbers.{Starts}
use Rattle.laws.proofs.Building.LayoutStages as staged
use Rattle.laws.proofs.Building.LayoutStages.{Stages}
use Rattle.laws.proofs.Building.AfterRecord50.{raws_of}
use Rattle.laws.proofs.Building.AfterBuilding.{Ended, built_ended}
use Rattle.laws.proofs.Building.BuiltJob as built
use Rattle.laws.proofs.Resolving.NodesAndChildren.{BootstrapKids, kids_in_lem, tag-append}
use Rattle.laws.proofs.Resolving.ResolvedNodes.{bootstrap_kids}
use Rattle.laws.proofs.Slots.PoolsThatOccur.{Sound, sound}
use Rattle.laws.proofs.Slots.SlotsToHold.{to_hold, starts-once, start_in}
use Rattle.laws.proofs.Reading.PoolReadBack.{Fits}
use Rattle.laws.proofs.Reading.PoolContents.{spelled}
use Rattle.laws.proofs.Reading.BuiltPoolReadBack as read
use Rattle.slots.specs.Gaps.{GapTable}
use Rattle.store.specs.Store.{Store}
use Rattle.store.specs.JobIn.{job_in}
use Rattle.store.specs.Regions.{MARKS, NODES, ANSWERS, Work}
use Rattle.store.specs.Words.{ENTRY, mark_word}
use Rattle.store.proofs.Bounds.{formed_job}
use Rattle.store.proofs.Laying.{work-formed}
use Rattle.interner.specs.Nodes.{node_count, nodes_in}
use Rattle.definitions.specs.Defining.{records_in}
use Rattle.definitions.proofs.Handing.{constants_many}
use Rattle.rows.specs.Rowed.{table_of}
use Rattle.pool.specs.Pooled.{NodesThere}
use Rattle.ending.specs.Ended.{name_in}
use Rattle.builder.proofs.Final.{Final}
use Rattle.builder.proofs.NodeWords.{nodes_many}
use Rattle.builder.proofs.Laid.{layout_in, laid_out}
use Rattle.builder.proofs.Stages.{records-many, linked-is}

module _
    (s p : List ℕ) (v : Store) (h : GapTable) (d : Defined) (ready asked : Ready) (m after : Made)
    (are : IsBytes s) (work : Work s p) (f : Final s p v h d ready asked m after) where
  pub formed : form s ≡ good (job_in s)
  formed = formed_job s (work-formed s p work)

  pub nodes_there : NodesThere s p v
  nodes_there = (work, f.table.entered, f.rests.nodes)

  abbrev l : Layout
  l = layout_in s v asked m after

  laid : layout (top_of (job_in s)) (numbered (job_in s)) ≡ good l
  laid = laid_out s p v h d ready asked m after f

  -- the stages that the laws speak of
  abbrev stg : Stages (top_of (job_in s)) (numbered (job_in s)) l
  stg = built.st s (job_in s) l are formed laid

  same-defined : stg.defined ≡ d
  unfolding records_in
  same-defined = good_inj (sym stg.is_defined ∙ f.is_defined)

  same-ready : stg.ready ≡ ready
  unfolding records_in
  same-ready =
      let is : end_definitions (top_of (job_in s)) (staged.table_in (numbered (job_in s)) d) (length (constants_of (records_in s))) d ≡ good ready =
      rw (linked-is (top_of (job_in s)) s d f.is_defined, constants_many s) f.is_ready in
      good_inj (sym stg.is_ready ∙ (rw same-defined is))

  same_asked : stg.asked ≡ asked
  unfolding records_in numbered
  same_asked =
      let is : answer_all d.names (length (constants_of (records_in s))) (suc (length (records_in s))) (job_in s).requests ready ≡ good (v ANSWERS, asked) =
      rw (constants_many s, records-many s) f.is_asked in
      let both = good_inj (sym (rw (same-defined, same-ready) at stg.is_asked) ∙ is) in
      ap (λ (x : List ℕ × Ready). x.1) both

  same-made : stg.made ≡ m
  unfolding records_in
  same-made =
      let is : build_all asked.resolved.nodes (index_nodes (length (constants_of (records_in s))) asked.resolved.marks d.indexes) asked.pool ≡ good m =
      rw (constants_many s) f.is_made in
      good_inj (sym stg.is_made ∙ (rw (same_asked, same-defined) is))

  same-named : stg.named ≡ (name_in v, after)
  unfolding numbered
  same-named =
      let is : name_slot (name_wanted (job_in s).build.name_byte (length (table_of m.rows))) asked.resolved.nodes m ≡ good (name_in v, after) =
      rw f.resolved f.is_named in
      good_inj (sym (rw (same_asked, same-made) at stg.is_named) ∙ is)

  abbrev All : Type 0
  All = Defined × Ready × Ready × Made × Made

  same-all : ◌≡◌ {A = All} (stg.defined, stg.ready, stg.asked, stg.made, stg.named.1) (d, ready, asked, m, after)
  same-all = λ i. (same-defined i, same-ready i, same_asked i, same-made i, (same-named i).1)

  -- the raw constants, as the building stack has them
  abbrev pub raws_in : List (ℕ × ℕ)
  raws_in = raws_of d.held ready.resolved.marks

  -- building starts from this
  pub starts-built : Starts (nodes_in s v) raws_in asked.pool
  starts-built =
      subst (λ (r : Resolved). Starts r.nodes raws_in asked.pool) f.resolved
      (subst (λ (x : All). Starts x.2.resolved.nodes (raws_of x.0.held x.1.resolved.marks) x.2.pool) same-all
      (built.starts-here s (job_in s) l are formed laid))

  -- and ends with this
  pub ended_built : Ended (top_of (job_in s)) d.held raws_in (nodes_in s v) (table_of m.rows) m
  ended_built =
      subst (λ (r : Resolved). Ended (top_of (job_in s)) d.held raws_in r.nodes (table_of m.rows) m) f.resolved
      (subst
      (λ (x : All). Ended (top_of (job_in s)) x.0.held (raws_of x.0.held x.1.resolved.marks) x.2.resolved.nodes (table_of x.3.rows) x.3)
      same-all
      (built_ended (top_of (job_in s)) stg.defined.held (built.raws s (job_in s) l are formed laid) (built.nodes s (job_in s) l are formed laid)
      (built.indexes s (job_in s) l are formed laid) stg.asked.pool stg.made
      (built.asked s (job_in s) l are formed laid).0.pooled
      (built.starts-here s (job_in s) l are formed laid)
      (bootstrap_kids (built.table s (job_in s) l are formed laid) (built.good_job_table s (job_in s) l are formed laid) stg.asked.resolved
      (built.asked s (job_in s) l are formed laid).0.faithful)
      (built.indexes_are s (job_in s) l are formed laid)
      stg.is_made))

  -- a bootstrap's children are constants
  pub bootstraps_built : BootstrapKids (nodes_in s v)
  bootstraps_built =
      subst (λ (r : Resolved). BootstrapKids r.nodes) f.resolved
      (subst (λ (x : All). BootstrapKids x.2.resolved.nodes) same-all
      (bootstrap_kids (built.table s (job_in s) l are formed laid) (built.good_job_table s (job_in s) l are formed laid) stg.asked.resolved
      (built.asked s (job_in s) l are formed laid).0.faithful))

  -- children are raw numbers and nodes that are there
  pub kid_low : (k x : ℕ) → Among x (kids_of (nodes_in s v) k) → x < ENTRY + node_count v
  kid_low k x a =
      ⊎_elim
      (λ (l : x < ENTRY). omega arith)
      (λ (l : ENTRY ≤ x). omega (arith, kids_in_lem (nodes_in s v) starts-built.kids_in k x a l, nodes_many s p v nodes_there (f.long NODES)))
      (order x ENTRY)

  -- a raw constant's node is what its entry became
  pub raw_node_lem :
      (n k : ℕ) → Among (n, k) raws_in →
      (e : ℕ) × Among (n, e) (starters d.held) × (get_elem? (map mark_word (v MARKS)) e ≡ some (done k))
  raw_node_lem =
      subst
      (λ (r : Resolved). (n k : ℕ) → Among (n, k) raws_in → (e : ℕ) × Among (n, e) (starters d.held) × (get_elem? r.marks e ≡ some (done k)))
      f.resolved
      (subst
      (λ (x : All).
      (n k : ℕ) → Among (n, k) (raws_of x.0.held x.1.resolved.marks) →
      (e : ℕ) × Among (n, e) (starters x.0.held) × (get_elem? x.2.resolved.marks e ≡ some (done k)))
      same-all
      (built.raw_node_lem s (job_in s) l are formed laid))

  -- WHICH SLOTS HOLD NODES

  raw_inside : (n k : ℕ) → Among (n, k) raws_in → k < length (nodes_in s v)
  raw_inside n k a = let r = raw_node_lem n k a in found_inside (nodes_in s v) k _ (f.rests.faithful.node_of r.0 k r.2).2

  -- a wide raw constant has its second half behind it
  raw_wide : (n k : ℕ) → Among (n, k) raws_in → is_wide (tag_at (nodes_in s v) k) ≡ true → Among (suc n, half) d.held
  raw_wide n k a w =
      subst (λ (r : Resolved). (n k : ℕ) → Among (n, k) raws_in → is_wide (tag_at (r.nodes ++ more) k) ≡ true → Among (suc n, half) d.held) f.resolved
      (subst
      (λ (x : All).
      (n k : ℕ) → Among (n, k) (raws_of x.0.held x.1.resolved.marks) → is_wide (tag_at (x.2.resolved.nodes ++ more) k) ≡ true →
      Among (suc n, half) x.0.held)
      same-all
      (read.raw_wide s (job_in s) l are formed laid))
      n
      k
      a
      (ap is_wide (tag-append (nodes_in s v) more k (raw_inside n k a)) ∙ w)
    where
      more : List Node
      more = (read.end s (job_in s) l are formed laid).more

  raw_keys : (t : ℕ) → times t (map (λ r. r.0) raws_in) ≡ times t (map (λ r. r.0) (starters d.held))
  raw_keys =
      subst
      (λ (x : All). (t : ℕ) → times t (map (λ r. r.0) (raws_of x.0.held x.1.resolved.marks)) ≡ times t (map (λ r. r.0) (starters x.0.held)))
      same-all
      (read.raw_keys s (job_in s) l are formed laid)

  pub sound_built : Sound (top_of (job_in s)) d.held (nodes_in s v) m.pool
  sound_built = sound ended_built.occurs

  -- no slot is to hold two nodes
  pub one-node : (n j k : ℕ) → Among (n, j) (to_hold m.pool.given raws_in) → Among (n, k) (to_hold m.pool.given raws_in) → j ≡ k
  one-node n j k =
      once_same (to_hold m.pool.given raws_in) n j k
      (starts-once (top_of (job_in s)) d.held (nodes_in s v) m.pool raws_in sound_built raw_keys raw_wide n)

  -- a slot that is to hold a node is one
  pub held_in : (n k : ℕ) → Among (n, k) (to_hold m.pool.given raws_in) → (1 ≤ n) × (n ≤ top_of (job_in s))
  held_in n k a =
      let r = start_in (top_of (job_in s)) d.held (nodes_in s v) m.pool raws_in sound_built raw_keys raw_wide n k a in
      (r.0, r.1)

  -- the text "BootstrapMethods" doesn't stand where a wide raw constant does
  name_narrow :
      (n k : ℕ) → Among (n, k) (built.raws s (job_in s) l are formed laid) →
      is_wide (tag_at (read.all_nodes s (job_in s) l are formed laid) k) ≡ true →
      lookup n (read.owned s (job_in s) l are formed laid) ≡ some attribute_text → ⊥
  unfolding attribute_text is_wide
  name_narrow n k a w e =
      let o = read.owner_tag s (job_in s) l are formed laid n attribute_text e in
      let same : o.0 ≡ k =
      once_same (to_hold (read.pool s (job_in s) l are formed laid).given (built.raws s (job_in s) l are formed laid)) n o.0 k
      (starts-once (top_of (job_in s)) stg.defined.held (read.all_nodes s (job_in s) l are formed laid) (read.pool s (job_in s) l are formed laid)
      (built.raws s (job_in s) l are formed laid) (read.soundly s (job_in s) l are formed laid) (read.raw_keys s (job_in s) l are formed laid)
      (read.raw_wide s (job_in s) l are formed laid) n)
      o.1
      (among-right (n, k) (map (λ r. (r.1, r.0)) (read.pool s (job_in s) l are formed laid).given) (built.raws s (job_in s) l are formed laid) a) in
      let tag : tag_at (read.all_nodes s (job_in s) l are formed laid) k ≡ 1 =
      ap (tag_at (read.all_nodes s (job_in s) l are formed laid)) (sym same) ∙ o.2 in
      true≢false (sym w ∙ ap is_wide tag)

  pub name_behind : (n k : ℕ) → Among (n, k) raws_in → is_wide (tag_at (nodes_in s v) k) ≡ true → lookup n after.owned ≡ some attribute_text → ⊥
  name_behind n k a w =
      subst
      (λ (r : Resolved).
      (n k : ℕ) → Among (n, k) raws_in → is_wide (tag_at (r.nodes ++ more) k) ≡ true → lookup n after.owned ≡ some attribute_text → ⊥)
      f.resolved
      (subst
      (λ (x : All).
      (n k : ℕ) → Among (n, k) (raws_of x.0.held x.1.resolved.marks) → is_wide (tag_at (x.2.resolved.nodes ++ more) k) ≡ true →
      lookup n x.4.owned ≡ some attribute_text → ⊥)
      same-all
      name_narrow)
      n
      k
      a
      (ap is_wide (tag-append (nodes_in s v) more k (raw_inside n k a)) ∙ w)
    where
      more : List Node
      more = (read.end s (job_in s) l are formed laid).more

  -- whatever a slot holds fits its shape
  pub owners_fit : (n : ℕ) (e : Entry ℕ ℕ) → lookup n after.owned ≡ some e → Fits (spelled (literals (job_in s)) e)
  owners_fit =
      subst (λ (x : All). (n : ℕ) (e : Entry ℕ ℕ) → lookup n x.4.owned ≡ some e → Fits (spelled (literals (job_in s)) e)) same-all
      (read.owner_fits s (job_in s) l are formed laid)
