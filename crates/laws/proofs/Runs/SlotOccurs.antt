-- SLOT OCCURS: every pool that a run over bytes asks a slot of occurs, and the node is one of the list. Assumes nothing.
use mathlib.Core.Bool.{Bool, false}
use mathlib.Core.List.{List, []}
use mathlib.Core.Path.{◌≡◌, sym, subst}
use Prim.Native.Nat.{ℕ, ◌-◌, ◌<◌}
use native.Mathlib.Omega.{arith}
use lib.ListN.{length}
use Rattle.definition.specs.Basics.{good, position}
use Rattle.definition.specs.Shapes.{Entry}
use Rattle.definition.specs.Job.{Request, Job}
use Rattle.definition.specs.Form.{form}
use Rattle.definition.specs.Numbering.{top_of, numbered}
use Rattle.definition.specs.Definitions.{Held, Defined}
use Rattle.definition.specs.Resolving.{Goal, goal_of, Node, first_node, same_node, intern, resolve}
use Rattle.definition.specs.Building.{Pool, attribute_text}
use Rattle.definition.specs.Layout.{Ready}
use Rattle.facts.proofs.Lists.{found_inside}
use Rattle.facts.proofs.Each.{Each}
use Rattle.facts.proofs.Outcomes.{when_good}
use Rattle.laws.specs.Statements.{Occurs, after_request, more_resolved, IsBytes, stack_taken}
use Rattle.laws.proofs.Resolving.NodesAndChildren as NodesAndChildren
use Rattle.laws.proofs.Resolving.JobGoals.{job_constants, job_table}
use Rattle.laws.proofs.Resolving.Interning.{interned}
use Rattle.laws.proofs.Resolving.FaithfulToEntries.{resolve-faithful}
use Rattle.laws.specs.Faithful.{InTable}
use Rattle.laws.proofs.Resolving.NodesAndChildren.{KidsIn}
use Rattle.laws.proofs.Resolving.ResolvedNodes.{ConstantGoal, settled-child, GoodTable, kids_in_lem}
use Rattle.laws.proofs.Building.AfterRequests.{Going, answer-going}
use Rattle.laws.proofs.Building.BeforeRequests.{formed_table, begun_names, begun_raws, begun, begun_asks}
use Rattle.laws.proofs.Runs.StepsOfRuns.{PoolIn, at_start, after_child, after_taken, goal_for, Reaches, after_fifty, after_answer, raws_at, AsksSlot, for_request, for_child, for_name}
use Rattle.laws.proofs.Runs.RowsOccur.{built}

-- building, over nodes that lead to nodes
pool_occurs_lem :
    (top : ℕ) (held : List (ℕ × Held)) (nodes : List Node) (start : Pool) →
    KidsIn nodes →
    Occurs top held nodes start →
    {p : Pool} →
    PoolIn nodes start p →
    Occurs top held nodes p
pool_occurs_lem top held nodes start kids o at_start = o
pool_occurs_lem top held nodes start kids o (after_child k c s p p' h a high e) =
    after_request false (c - first_node) s p' (pool_occurs_lem top held nodes start kids o h) (omega (arith, NodesAndChildren.kids_in_lem nodes kids k c a high, high)) e
pool_occurs_lem top held nodes start kids o (after_taken pending p h) = stack_taken pending (pool_occurs_lem top held nodes start kids o h)

-- a job of bytes
module _ (bytes : List ℕ) (job : Job (List ℕ)) (are : IsBytes bytes) (formed : form bytes ≡ good job) where
  abbrev table : List (Entry ℕ Goal)
  table = job_table (numbered job)

  fine : GoodTable table
  fine = formed_table bytes job are formed

  -- what is kept up to each request, and what the requests that are left ask for
  abbrev Upto : Defined → List Request → Ready → Type 0
  Upto d left w =
      (raws : List (ℕ × ℕ))
      × Going table (top_of job) d.held raws w
      × Each (λ q. InTable (length table) (goal_for (numbered job) d q) × ConstantGoal table (goal_for (numbered job) d q)) left

  reaches_kept : (d : Defined) {left : List Request} {w : Ready} → Reaches (top_of job) (numbered job) d left w → Upto d left w
  reaches_kept d (after_fifty w defined ready) = (
    begun_raws bytes job are formed d defined w ready,
    (begun bytes job are formed d defined w ready).0,
    subst
        (λ names.
        Each
        (λ q.
        InTable (length table) (goal_of names (job_constants (numbered job)) q.what) × ConstantGoal table (goal_of names (job_constants (numbered job)) q.what))
        (numbered job).requests)
        (sym (begun_names bytes job are formed d defined))
        (begun_asks bytes job are formed d defined w ready),
  )
  reaches_kept d (after_answer q left w w' a h e) =
      let k = reaches_kept d h in (
        k.0,
        (answer-going table fine.cited (top_of job) d.held k.0 q.ldc (goal_for (numbered job) d q) w (a, w') k.2.0.0 k.2.0.1 e k.1).0,
        k.2.1,
      )

  kids_kept : (d : Defined) (left : List Request) (w : Ready) → Upto d left w → KidsIn w.resolved.nodes
  kids_kept d left w k = kids_in_lem table fine w.resolved k.1.faithful

  -- SLOT OCCURS: every pool that a run asks a slot of occurs, and the node is one of the list
  pub slot_occurs :
      {nodes : List Node} {ldc : Bool} {k : ℕ} {p : Pool} →
      AsksSlot (top_of job) (numbered job) nodes ldc k p →
      (held : List (ℕ × Held)) × Occurs (top_of job) held nodes p × (k < length nodes)
  slot_occurs (for_request d q left w s at e high) =
      let (raws, h, asks) = reaches_kept d at in
      let goal = goal_for (numbered job) d q in
      let now = resolve-faithful table goal w.resolved s fine.cited asks.0.0 h.faithful (subst (λ t. resolve t goal w.resolved ≡ good s) h.same_table e) in
      let more = now.2.nodes_kept in (
        d.held,
        subst (λ n. Occurs (top_of job) d.held n w.pool) (sym more.1) (more_resolved more.0 h.pooled.occurs),
        (settled-child table s goal now.0 now.1 asks.0.1 high).0,
      )
  slot_occurs (for_child d w k c p at o a high) =
      let kept = reaches_kept d at in
      let kids = kids_kept d [] w kept in (
        d.held,
        pool_occurs_lem (top_of job) d.held w.resolved.nodes w.pool kids kept.1.pooled.occurs o,
        omega (arith, NodesAndChildren.kids_in_lem w.resolved.nodes kids k c a high, high),
      )
  slot_occurs (for_name d w m at e wanted) =
      let kept = reaches_kept d at in
      let nodes = w.resolved.nodes in
      let i = interned attribute_text nodes in
      let o = pool_occurs_lem (top_of job) d.held nodes w.pool (kids_kept d [] w kept) kept.1.pooled.occurs (when_good (built nodes (raws_at (numbered job) d w) w.pool) e).0 in (
        d.held,
        subst (λ n. Occurs (top_of job) d.held n m.pool) (sym i.kept.1) (more_resolved i.kept.0 o),
        found_inside (intern attribute_text nodes) (position (same_node attribute_text) nodes) attribute_text i.there,
      )
