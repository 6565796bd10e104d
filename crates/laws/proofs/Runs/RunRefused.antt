-- RUN REFUSED: a refusal of a run is that of one of its steps, or has another number. Assumes nothing.
use mathlib.Core.Bool.{Bool, true, false}
use mathlib.Core.List.{List, [], ◌∷◌, ◌++◌}
use mathlib.Core.Logic.{◌⊎◌, inl, inr}
use mathlib.Core.Path.{◌≡◌, refl}
use Prim.Native.Nat.{ℕ, suc, ◌-◌, ◌<◌}
use native.Mathlib.Omega.{arith}
use lib.Dec.{leb, ltb→lt}
use lib.ListN.{length}
use Rattle.definition.specs.Basics.{good, bad, Refusal, position}
use Rattle.definition.specs.Job.{Request, Job}
use Rattle.definition.specs.Form.{form}
use Rattle.definition.specs.Numbering.{top_of, bootstraps_of, numbered}
use Rattle.definition.specs.Definitions.{Defined, define_all, nothing_defined}
use Rattle.definition.specs.Resolving.{first_node, same_node, intern, child_of, resolve}
use Rattle.definition.specs.Building.{allocate, Made, build_all, attribute_text, name_wanted, name_slot}
use Rattle.definition.specs.Layout.{Ready, end_definitions, answer, answer_all, build_layout, layout}
use Rattle.definition.specs.Run.{build, Lent, longest_job, enough, fits, run}
use Rattle.facts.proofs.Outcomes.{Ends, well, next, weaker, when_bad, ended, known-good, Anything, at_record-ends, unless-ends}
use Rattle.laws.proofs.Form.RefusalNumbers.{Early, Added}
use Rattle.laws.proofs.Form.FormRefusals.{form-early}
use Rattle.laws.proofs.Definitions.DefinitionRefusals.{define_all-ends}
use Rattle.laws.proofs.Resolving.ResolvingRefusals.{TableRefused, goal_of-early, linked-early, resolve-early, end_definitions-early}
use Rattle.laws.proofs.Building.LayoutStages.{constants_in, table_in, rows_in, known-nodes}
use Rattle.laws.proofs.Runs.StepsOfRuns.{goal_for, Reaches, after_fifty, after_answer, raws_at, for_request, for_child, for_name, LayoutRefused, early, too_new, sixteen, at_slot, at_row}
use Rattle.laws.proofs.Runs.StepsOfBuilding.{slot_of-by, build_all-steps}

-- ---- a layout takes these steps

module _ (top : ℕ) (job : Job ℕ) where
  abbrev Z : ℕ → Type 0
  Z = LayoutRefused top job

  Z-early : Early Z
  Z-early code t u = early (ltb→lt code 14 u)

  Z-empty : Z 0
  Z-empty = early (omega arith)

  abbrev size : ℕ
  size = length (constants_in job)

  module _ (d : Defined) where
    answer-steps :
        (q : Request) (left : List Request) (w : Ready) →
        Reaches top job d (q ∷ left) w →
        TableRefused Z w.table →
        Ends Z (λ r. TableRefused Z r.1.table) (answer q.ldc (goal_for job d q) w)
    unfolding answer
    answer-steps q left w at ok =
        let goal = goal_for job d q in
        next _
        (known-good (resolve w.table goal w.resolved)
        (resolve-early Z-early Z-empty w.table ok goal w.resolved (goal_of-early Z-early Z-empty d.names size q.what))) λ s k.
        next {P = Anything} _
        (slot_of-by s.nodes q.ldc (child_of s.marks goal) w.pool tt λ high.
        ended (allocate s.nodes q.ldc (child_of s.marks goal - first_node) w.pool) (λ r e. tt) λ code e.
        at_slot s.nodes q.ldc (child_of s.marks goal - first_node) w.pool (for_request d q left w s at k.1 high) e) λ a _.
        next _ (unless-ends _ 16 (sixteen refl)) λ _ _. well ok

    answer_all-steps :
        (place : ℕ) (requests : List Request) (w : Ready) →
        Reaches top job d requests w →
        TableRefused Z w.table →
        Ends (λ e. Z e.code) (λ r. Reaches top job d [] r.1) (answer_all d.names size place requests w)
    unfolding answer_all
    answer_all-steps place [] w at ok = well at
    answer_all-steps place (q ∷ requests) w at ok =
        next _ (at_record-ends place (known-good (answer q.ldc (goal_for job d q) w) (answer-steps q requests w at ok))) λ r k.
        next _ (answer_all-steps (suc place) requests r.1 (after_answer q requests w r.1 r.0 at k.1) k.0) λ rest at'.
        well at'

    name_slot-steps :
        (wanted : Bool) (w : Ready) (m : Made) →
        Reaches top job d [] w →
        build_all w.resolved.nodes (raws_at job d w) w.pool ≡ good m →
        name_wanted job.build.name_byte (length (rows_in m)) ≡ wanted →
        Ends Z Anything (name_slot wanted w.resolved.nodes m)
    unfolding name_slot
    name_slot-steps false w m at made is = well tt
    name_slot-steps true w m at made is =
        let nodes = w.resolved.nodes in
        let k = position (same_node attribute_text) nodes in
        next {P = Anything} _
        (ended (allocate (intern attribute_text nodes) false k m.pool) (λ r e. tt) λ code e.
        at_slot (intern attribute_text nodes) false k m.pool (for_name d w m at made is) e) λ r _. well tt

    build_layout-steps : (answers : List ℕ) (w : Ready) → Reaches top job d [] w → (records : List ℕ) (place : ℕ) → Ends (λ e. Z e.code) Anything (build_layout top records place (raws_at job d w) job.build answers w)
    unfolding build_layout
    build_layout-steps answers w at records place =
        let nodes = w.resolved.nodes in
        next _
        (known-nodes Z records w.resolved.marks (build_all nodes (raws_at job d w) w.pool)
        (build_all-steps nodes (raws_at job d w) w.pool Z Z-empty (too_new refl)
        (λ k c code p o a high e. at_slot nodes false (c - first_node) p (for_child d w k c p at o a high) e)
        (λ row code rows q is e. at_row row rows (record { defined = d; state = w; reached = at; rows_in = q; row_of = is }) e))) λ m k.
        next _ (at_record-ends place (name_slot-steps (name_wanted job.build.name_byte (length (rows_in m))) w m at k.1 refl)) λ s _. well tt

  layout-steps : Ends (λ e. Z e.code) Anything (layout top job)
  unfolding layout
  layout-steps =
      next _
      (known-good (define_all top (constants_in job) 0 job.definitions nothing_defined)
      (define_all-ends Z-early ⊥ top (constants_in job) 0 job.definitions nothing_defined (λ x. absurd x) (λ x. absurd x))) λ d defined.
      next _
      (at_record-ends (length job.definitions)
      (known-good (end_definitions top (table_in job d) size d)
      (end_definitions-early Z-early Z-empty (table_in job d) (linked-early Z-early Z-empty d.names size (constants_in job ++ bootstraps_of job.definitions)) top size d))) λ w ready.
      next _ (answer_all-steps d _ job.requests w (after_fifty w defined.1 ready.1) ready.0) λ r at.
      build_layout-steps d r.0 r.1 at _ _

-- ---- and so does a run

-- where a run is refused: for length, work, room or form, or in its layout
pub data RunRefused (bytes : List ℕ) (code : ℕ) : Type 0 where
  outside : (code < 14) ⊎ ((17 < code) × (code < 27)) → RunRefused bytes code
  in_layout : (job : Job (List ℕ)) → form bytes ≡ good job → LayoutRefused (top_of job) (numbered job) code → RunRefused bytes code

-- RUN REFUSED: every refusal of a run is one of these
pub run_refused : (lent : Lent) (bytes : List ℕ) (r : Refusal) → run lent bytes ≡ bad r → RunRefused bytes r.code
unfolding run build
run_refused lent bytes r ran = when_bad all ran
  where
    z : Early (RunRefused bytes)
    z code t u = outside (inl (ltb→lt code 14 u))

    added : Added (RunRefused bytes)
    added code t u = let h = ltb→lt 21 code t in let k = ltb→lt code 27 u in outside (inr (omega arith, omega arith))

    laid : (job : Job (List ℕ)) → form bytes ≡ good job → Ends (λ e. RunRefused bytes e.code) Anything (layout (top_of job) (numbered job))
    laid job formed = weaker (λ e h. in_layout job formed h) (λ l h. h) (layout-steps (top_of job) (numbered job))

    all : Ends (λ e. RunRefused bytes e.code) Anything (run lent bytes)
    all =
        next _ (at_record-ends 0 (unless-ends (leb (length bytes) longest_job) 1 (z 1 tt tt))) λ _ _.
        next _ (at_record-ends 0 (unless-ends (enough (length bytes) lent) 2 (z 2 tt tt))) λ _ _.
        next {P = Anything} _
        (next _ (known-good (form bytes) (form-early z added (outside (inl (omega arith))) bytes)) λ job k. next _ (laid job k.1) λ l _. well tt) λ b _.
        next _ (at_record-ends b.0 (unless-ends (fits b.1 lent) 18 (outside (inr (omega arith, omega arith))))) λ _ _. well tt
