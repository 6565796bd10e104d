-- The records of a job in turn, up to the build record: what is counted there, and that no refusal is 0. Assumes nothing.
use mathlib.Core.Bool.{Bool, true, false}
use mathlib.Core.List.{List, [], ◌∷◌, ◌++◌, map}
use mathlib.Core.Option.{Option, none, some}
use mathlib.Core.Path.{◌≡◌, refl}
use Prim.Native.Nat.{ℕ, suc, ◌+◌, ◌≤◌}
use native.Mathlib.Omega.{arith}
use lib.Dec.{ltb}
use lib.ListN.{length, length-append, length-map}
use Rattle.definition.specs.Basics.{same, lookup}
use Rattle.definition.specs.Shapes.{Entry}
use Rattle.definition.specs.Job.{Request, Build, Job}
use Rattle.definition.specs.Numbering.{entries, constants_of, bootstraps_of}
use Rattle.definition.specs.Definitions.{Naming, Defined, nothing_defined}
use Rattle.definition.specs.Resolving.{Goal, table_entry, goal_of, Node, first_node, fresh, done, mark_child, child_of, fuel_for, linked, nothing_resolved}
use Rattle.definition.specs.Slots.{Slots}
use Rattle.definition.specs.Building.{Pool, no_slot, give, allocate, slot_of}
use Rattle.definition.specs.Layout.{starters, Ready, end_definitions, answer, answer_all, Layout, build_layout, layout}
use Rattle.facts.proofs.Lists.{replicate-either}
use Rattle.facts.proofs.Each.{Each, each_append, each_image}
use Rattle.facts.proofs.Outcomes.{Ends, well, refused, next, weaker, Anything, at_record-ends, unless-ends}
use Rattle.laws.proofs.Form.RefusalNumbers.{NonZero, non_zero_lem, early_non_zero, Coded}
use Rattle.laws.proofs.Form.RawNumbersLow.{RefLow, DefLow, NameLow}
use Rattle.laws.proofs.Numbering.NumberedLow.{table_low}
use Rattle.laws.proofs.Definitions.DefinitionRefusals.{raws, define_all-ends}
use Rattle.laws.proofs.Resolving.OwedVisits.{owing-start, Fit, GoalOk, TableOk, resolve-works, resolve_all-works}
use Rattle.laws.specs.Faithful.{owing}
use Rattle.laws.proofs.Resolving.GoalsLow.{goal_of-ok, linked-ok}
use Rattle.laws.proofs.Runs.EntriesPriced.{priced, fuel_for-linked, table_priced}

nothing_fits : (table : List (Entry ℕ Goal)) → Fit (nothing_resolved table)
unfolding nothing_resolved mark_child
nothing_fits table =
    record {
      marks_fit = λ e. replicate-either (λ m. mark_child m ≤ first_node + 0) (length table) e fresh (done 0) (omega arith) (omega arith);
      nodes_fit = tt;
    }

-- what requests work on, with at most n visits so far and still owed
pub record Runs (H : Type 0) (n : ℕ) (w : Ready) : Type 0 where
  pub table_ok : TableOk H w.table
  pub fuelled : suc (owing w.table w.resolved.marks) ≤ fuel_for w.table
  pub counted : w.resolved.visits + owing w.table w.resolved.marks ≤ n
  pub fit : H → Fit w.resolved

runs_more : (H : Type 0) (n m : ℕ) (w : Ready) → n ≤ m → Runs H n w → Runs H m w
runs_more H n m w h r =
    let c = r.counted in
    record { table_ok = r.table_ok; fuelled = r.fuelled; counted = omega arith; fit = r.fit }

end_definitions-ends :
    (H : Type 0) (top : ℕ) (table : List (Entry ℕ Goal)) (constants : ℕ) (d : Defined) (n : ℕ) →
    TableOk H table →
    fuel_for table + (length (starters d.held) + length d.indexes) ≤ suc n →
    Ends NonZero (Runs H n) (end_definitions top table constants d)
unfolding end_definitions nothing_resolved
end_definitions-ends H top table constants d n ok h =
    let first : List Goal = map (λ r. table_entry r.1) (starters d.held) in
    let then : List Goal = map (λ r. table_entry (constants + r.1)) d.indexes in
    let start = owing-start table in
    let e₁ = length-append first then in
    let e₂ : length first ≡ length (starters d.held) = length-map (starters d.held) _ in
    let e₃ : length then ≡ length d.indexes = length-map d.indexes _ in
    next
    _
    (resolve_all-works
    H
    table
    (first ++ then)
    (nothing_resolved table)
    ok
    (each_append (GoalOk H) first then (each_image (GoalOk H) _ (λ r. tt) (starters d.held)) (each_image (GoalOk H) _ (λ r. tt) d.indexes))
    (omega arith))
    λ s w.
    let w₁ = w.counted in
    let w₂ = w.paid in
    let f : suc (owing table s.marks) ≤ fuel_for table = omega arith in
    let c : s.visits + owing table s.marks ≤ n = omega arith in
    well (record { table_ok = ok; fuelled = f; counted = c; fit = λ x. w.fits x (nothing_fits table) })

-- a slot is refused with 14 or 15
give-ends : (ldc : Bool) (k : ℕ) (p : Pool) (o : Option (ℕ × Slots)) → Ends NonZero Anything (give ldc k p o)
unfolding give no_slot
give-ends true k p none = refused (non_zero_lem 15 tt)
give-ends false k p none = refused (non_zero_lem 14 tt)
give-ends ldc k p (some r) = well tt

pub allocate-ends : (nodes : List Node) (ldc : Bool) (k : ℕ) (p : Pool) → Ends NonZero Anything (allocate nodes ldc k p)
unfolding allocate
allocate-ends nodes ldc k p = go (lookup k p.given) refl
  where
    go : (o : Option ℕ) → lookup k p.given ≡ o → Ends NonZero Anything (allocate nodes ldc k p)
    go none e = rw (e, allocate) (give-ends ldc k p _)
    go (some s) e = rw (e, allocate) (well tt)

slot_of-ends : (nodes : List Node) (ldc : Bool) (child : ℕ) (p : Pool) → Ends NonZero Anything (slot_of nodes ldc child p)
unfolding slot_of
slot_of-ends nodes ldc child p = go (ltb child first_node) refl
  where
    go : (b : Bool) → ltb child first_node ≡ b → Ends NonZero Anything (slot_of nodes ldc child p)
    go true e = rw (e, slot_of) (well tt)
    go false e = rw (e, slot_of) (allocate-ends nodes ldc _ p)

answer-ends :
    (H : Type 0) (n : ℕ) (ldc : Bool) (g : Goal) (w : Ready) →
    GoalOk H g →
    Runs H n w →
    Ends NonZero (λ r. Runs H (suc n) r.1) (answer ldc g w)
unfolding answer
answer-ends H n ldc g w ok r =
    let r₁ = r.fuelled in
    let r₂ = r.counted in
    next _ (resolve-works H w.table g w.resolved r.table_ok ok r₁) λ s v.
    next _ (slot_of-ends s.nodes ldc (child_of s.marks g) w.pool) λ a _.
    next _ (unless-ends _ 16 (non_zero_lem 16 tt)) λ _ _.
    let v₁ = v.counted in
    let v₂ = v.paid in
    let f : suc (owing w.table s.marks) ≤ fuel_for w.table = omega arith in
    let c : s.visits + owing w.table s.marks ≤ suc n = omega arith in
    well (record { table_ok = r.table_ok; fuelled = f; counted = c; fit = λ x. v.fits x (r.fit x) })

answer_all-ends :
    (H : Type 0) (n : ℕ) (names : List Naming) (constants place : ℕ) (requests : List Request) (w : Ready) →
    (H → Each NameLow names) →
    (H → Each (λ q. RefLow q.what) requests) →
    Runs H n w →
    Ends Coded (λ r. Runs H (n + length requests) r.1) (answer_all names constants place requests w)
unfolding answer_all
answer_all-ends H n names constants place [] w low h r = well (runs_more H n (n + 0) w (omega arith) r)
answer_all-ends H n names constants place (q ∷ requests) w low h r =
    next
    _
    (at_record-ends place (answer-ends H n q.ldc (goal_of names constants q.what) w (goal_of-ok H names constants q.what low (λ x. (h x).0)) r))
    λ a r'.
    next _ (answer_all-ends H (suc n) names constants (suc place) requests a.1 low (λ x. (h x).1) r') λ rest r''.
    well (runs_more H (suc n + length requests) (n + suc (length requests)) rest.1 (omega arith) r'')

-- a layout ends as its last step does, at a state that ran well; Z is what is known of a refusal's number
pub layout-ends :
    (H : Type 0) (Z : ℕ → Type 0) (P : Layout → Type 0) (top n : ℕ) (job : Job ℕ) →
    ((code : ℕ) → NonZero code → Z code) →
    (H → Each DefLow job.definitions) →
    (H → Each (λ q. RefLow q.what) job.requests) →
    priced (entries job.definitions) + raws job.definitions + length job.requests ≤ n →
    ((records : List ℕ) (place : ℕ) (indexes : List (ℕ × ℕ)) (b : Build) (answers : List ℕ) (w : Ready) → Runs H n w → Ends (λ e. Z e.code) P (build_layout top records place indexes b answers w)) →
    Ends (λ e. Z e.code) P (layout top job)
unfolding layout nothing_defined starters
layout-ends H Z P top n job z low asked h last =
    let l = job.definitions in
    next _ (define_all-ends (λ code t u. z code (early_non_zero code t u)) H top (constants_of l) 0 l nothing_defined low (λ x. tt)) λ d k.
    let more = k.more in
    let fuel = fuel_for-linked d.names (length (constants_of l)) (constants_of l ++ bootstraps_of l) in
    let same = table_priced l in
    next
    _
    (at_record-ends
    (length l)
    (weaker
    z
    (λ w r. r)
    (end_definitions-ends
    H
    top
    (linked d.names (length (constants_of l)) (constants_of l ++ bootstraps_of l))
    (length (constants_of l))
    d
    (priced (entries l) + raws l)
    (linked-ok H d.names (length (constants_of l)) (constants_of l ++ bootstraps_of l) k.names (λ x. table_low l (low x)))
    (omega arith))))
    λ w r.
    next
    _
    (weaker
    (λ e. z e.code)
    (λ a r'. r')
    (answer_all-ends H (priced (entries l) + raws l) d.names (length (constants_of l)) (suc (length l)) job.requests w k.names asked r))
    λ a r'.
    last _ _ _ job.build a.0 a.1 (runs_more H (priced (entries l) + raws l + length job.requests) n a.1 h r')
