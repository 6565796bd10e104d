-- The linked table of a formed job is good: children lead into it, raw numbers fit two bytes, a bootstrap's children are constants.
-- Assumes nothing.
use mathlib.Core.List.{List, [], ◌∷◌, ◌++◌}
use mathlib.Core.Option.{some}
use mathlib.Core.Path.{◌≡◌, refl, subst}
use Prim.Native.Nat.{ℕ, zero, suc}
use native.Mathlib.Omega.{arith}
use lib.ListN.{length, get_elem?, length-append}
use borrow.Author.Tests.{eqb-false}
use Rattle.definition.specs.Basics.{good}
use Rattle.definition.specs.Shapes.{Kind, bootstrap_tag, Entry, constant, bootstrap}
use Rattle.definition.specs.Job.{Reference, Definition, define, named, placed, setting, Request, Job}
use Rattle.definition.specs.Form.{form}
use Rattle.definition.specs.Numbering.{constants_of, bootstraps_of, literals, numbered}
use Rattle.definition.specs.Resolving.{Goal, raw_number, table_entry, refusal, place_of, goal_of}
use Rattle.facts.specs.Lists.{Among}
use Rattle.facts.proofs.Lists.{unmap}
use Rattle.facts.proofs.Each.{Each, each_at}
use Rattle.laws.specs.Statements.{IsBytes}
use Rattle.laws.proofs.Form.CitedEntries as CitedEntries
use Rattle.laws.proofs.Form.FormedJobs.{form-formed}
use Rattle.laws.proofs.Form.CitedEntries.{kid_kind, formed_cited}
use Rattle.laws.proofs.Form.RawNumbersLow.{RefLow, DefLow, NameLow, JobLow, formed_low}
use Rattle.laws.proofs.Numbering.NumberedCited.{cited_numbered}
use Rattle.laws.proofs.Numbering.NumberedLow.{numbered-low}
use Rattle.laws.proofs.Definitions.DefinedAsPlaced.{namings_of}
use Rattle.laws.proofs.Resolving.JobGoals.{GoalOfKind, table_defined, job_names, job_constants, job_table, linked-length, linked-at, table_constant, request_goal, placed-goal, table_kid}
use Rattle.laws.specs.Faithful.{InTable}
use Rattle.laws.proofs.Resolving.OwedVisits.{GoalOk}
use Rattle.laws.proofs.Resolving.GoalsLow.{goal_of-ok}
use Rattle.laws.proofs.Resolving.ResolvedNodes.{ConstantGoal, Low, GoodTable}

-- names of low definitions have low targets
names_low : (ds : List (Definition ℕ)) → Each DefLow ds → Each NameLow (namings_of ds)
unfolding namings_of
names_low [] h = tt
names_low (define e ∷ ds) h = names_low ds h.1
names_low (named kind s r ∷ ds) h = (h.0, names_low ds h.1)
names_low (placed kind n e ∷ ds) h = names_low ds h.1
names_low (setting rule ∷ ds) h = names_low ds h.1

goal_low : (g : Goal) → GoalOk (Unit {0}) g → Low g
goal_low (raw_number n) h = h tt
goal_low (table_entry e) h = tt
goal_low (refusal code) h = tt

-- a bootstrap's children are all of kind constant
row_kinds : (tag i : ℕ) → tag ≡ bootstrap_tag → kid_kind tag i ≡ constant
unfolding kid_kind
row_kinds tag zero h = rw h
row_kinds tag (suc i) h = refl

module _ (job : Job ℕ) (cited : CitedEntries.Cited ℕ job) where
  -- a goal of a kind lies in the table
  kind_in_lem : (kind : Kind) (g : Goal) → GoalOfKind (job_constants job) (length (job_table job)) kind g → InTable (length (job_table job)) g
  unfolding GoalOfKind
  kind_in_lem kind (raw_number n) h = tt
  kind_in_lem constant (table_entry e) h =
      omega (
        arith,
        h,
        linked-length (job_names job) (job_constants job) (constants_of job.definitions ++ bootstraps_of job.definitions),
        length-append (constants_of job.definitions) (bootstraps_of job.definitions),
      )
  kind_in_lem bootstrap (table_entry e) h = h.1
  kind_in_lem kind (refusal code) h = tt

  -- a goal of kind constant leads to no bootstrap
  kind-constant : (g : Goal) → Low g → GoalOfKind (job_constants job) (length (job_table job)) constant g → ConstantGoal (job_table job) g
  unfolding GoalOfKind
  kind-constant (raw_number n) low h = low
  kind-constant (table_entry e) low h =
      λ x at t.
      eqb-false x.tag bootstrap_tag (table_constant job.definitions (job_names job) (job_constants job) e x at h) t
  kind-constant (refusal code) low h = tt

  module _ (low : Each DefLow job.definitions) (asked : Each (λ q. RefLow q.what) job.requests) where
    reference-low : (r : Reference) → RefLow r → Low (goal_of (job_names job) (job_constants job) r)
    reference-low r h =
        goal_low (goal_of (job_names job) (job_constants job) r) (goal_of-ok (Unit {0}) (job_names job) (job_constants job) r (λ _. names_low job.definitions low) (λ _. h))

    kid_low : (e : ℕ) (x : Entry ℕ Goal) (g : Goal) → get_elem? (job_table job) e ≡ some x → Among g x.kids → Low g
    kid_low e x g at a =
        let h = linked-at (job_names job) (job_constants job) (constants_of job.definitions ++ bootstraps_of job.definitions) e x at in
        let y = h.0 in
        let there = (table_defined job.definitions e y h.1).2 in
        let u = unmap (goal_of (job_names job) (job_constants job)) y.kids g (subst (Among g) h.3 a) in
        subst Low u.2 (reference-low u.0 (each_at RefLow y.kids u.1.0 u.0 (each_at DefLow job.definitions there.0 (define y) low there.1) u.1.1))

    pub good_table : GoodTable (job_table job)
    good_table =
        record {
          cited = λ e x at g a. kind_in_lem (kid_kind x.tag a.0) g (table_kid job cited e x at a.0 g a.1);
          low = kid_low;
          constant_kids =
              λ e x g at t a.
              kind-constant g (kid_low e x g at a)
              (subst (λ kind. GoalOfKind (job_constants job) (length (job_table job)) kind g) (row_kinds x.tag a.0 t) (table_kid job cited e x at a.0 g a.1));
        }

    -- what requests ask for
    pub asks-good :
        (i : ℕ) (q : Request) →
        get_elem? job.requests i ≡ some q →
        InTable (length (job_table job)) (goal_of (job_names job) (job_constants job) q.what)
        × ConstantGoal (job_table job) (goal_of (job_names job) (job_constants job) q.what)
    asks-good i q at =
        let kind = request_goal job cited i q at in
        let g = goal_of (job_names job) (job_constants job) q.what in
        (kind_in_lem constant g kind, kind-constant g (reference-low q.what (each_at (λ q. RefLow q.what) job.requests i q asked at)) kind)

    -- what is placed
    pub placed-good :
        (kind : Kind) (n e : ℕ) → Among (placed kind n e) job.definitions → InTable (length (job_table job)) (table_entry (place_of (job_constants job) kind e))
    placed-good kind n e a = kind_in_lem kind _ (placed-goal job cited kind n e a)

-- all that of a formed job, numbered
module _ (bytes : List ℕ) (job : Job (List ℕ)) (are : IsBytes bytes) (formed : form bytes ≡ good job) where
  pub numbered-cited : CitedEntries.Cited ℕ (numbered job)
  numbered-cited = cited_numbered job (formed_cited job (form-formed bytes job are formed))

  job_low : JobLow job
  job_low = formed_low job (form-formed bytes job are formed)

  pub definitions_low_lem : Each DefLow (numbered job).definitions
  unfolding numbered
  definitions_low_lem = numbered-low (literals job) job.definitions job_low.definitions_low

  pub requests_low_lem : Each (λ q. RefLow q.what) (numbered job).requests
  unfolding numbered
  requests_low_lem = job_low.requests_low
