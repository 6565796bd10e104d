-- A formed job up to its requests: what record 50 resolves lies in the job's table, and what requests start from. Assumes nothing.
use mathlib.Core.List.{List, ◌++◌, map}
use mathlib.Core.Logic.{◌⊎◌, inl, inr}
use mathlib.Core.Path.{◌≡◌, ap, subst}
use Prim.Native.Nat.{ℕ, ◌+◌}
use lib.ListN.{length}
use Rattle.definition.specs.Basics.{good}
use Rattle.definition.specs.Shapes.{Kind, constant, bootstrap}
use Rattle.definition.specs.Job.{placed, Job}
use Rattle.definition.specs.Form.{form}
use Rattle.definition.specs.Numbering.{top_of, bootstraps_of, numbered}
use Rattle.definition.specs.Definitions.{Defined, define_all, nothing_defined}
use Rattle.definition.specs.Resolving.{Goal, table_entry, place_of, linked}
use Rattle.definition.specs.Layout.{starters, Ready, end_definitions}
use Rattle.facts.specs.Lists.{Among}
use Rattle.facts.proofs.Lists.{among-either, unmap}
use Rattle.facts.proofs.Each.{Each, each_from}
use Rattle.laws.specs.Statements.{IsBytes}
use Rattle.laws.proofs.Definitions.DefinedAsPlaced.{DefinedFacts, wide_at, defined_facts, starters-start}
use Rattle.laws.proofs.Resolving.JobGoals.{job_names, job_constants, job_table}
use Rattle.laws.specs.Faithful.{Settled, InTable}
use Rattle.laws.proofs.Resolving.ResolvedNodes.{GoodTable}
use Rattle.laws.proofs.Resolving.JobTableGood.{good_table, asks-good, placed-good, numbered-cited, definitions_low_lem, requests_low_lem}
use Rattle.laws.proofs.Building.AfterRequests.{Going, Asks}
use Rattle.laws.proofs.Building.AfterRecord50.{raw_goals, raws_of, ready_going}
use Rattle.laws.proofs.Building.LayoutStages.{constants_in, table_in}

module _ (bytes : List ℕ) (job : Job (List ℕ)) (are : IsBytes bytes) (formed : form bytes ≡ good job) where
  pub formed_table : GoodTable (job_table (numbered job))
  formed_table =
      good_table (numbered job) (numbered-cited bytes job are formed) (definitions_low_lem bytes job are formed) (requests_low_lem bytes job are formed)

  module _
      (d : Defined)
      (is_defined : define_all (top_of job) (constants_in (numbered job)) 0 (numbered job).definitions nothing_defined ≡ good d) where
    facts : DefinedFacts (wide_at (constants_in (numbered job))) (numbered job).definitions d
    facts = defined_facts (top_of job) (constants_in (numbered job)) (numbered job).definitions d is_defined

    pub begun_names : d.names ≡ job_names (numbered job)
    begun_names = facts.all_names

    -- the table of the stages is the job's
    pub same-table : table_in (numbered job) d ≡ job_table (numbered job)
    same-table = ap (λ names. linked names (job_constants (numbered job)) (constants_in (numbered job) ++ bootstraps_of (numbered job).definitions)) begun_names

    -- what record 50 resolves lies in the table
    raw_in : (g : Goal) → Among g (raw_goals (job_constants (numbered job)) d) → InTable (length (job_table (numbered job))) g
    unfolding place_of
    raw_in g a =
        go
        (among-either g
        (map (λ r. table_entry r.1) (starters d.held))
        (map (λ r. table_entry (job_constants (numbered job) + r.1)) d.indexes)
        a)
      where
        there :
            (kind : Kind) (n e : ℕ) →
            Among (placed kind n e) (numbered job).definitions →
            InTable (length (job_table (numbered job))) (table_entry (place_of (job_constants (numbered job)) kind e))
        there = placed-good (numbered job) (numbered-cited bytes job are formed) (definitions_low_lem bytes job are formed) (requests_low_lem bytes job are formed)

        go :
            Among g (map (λ r. table_entry r.1) (starters d.held))
            ⊎ Among g (map (λ r. table_entry (job_constants (numbered job) + r.1)) d.indexes) →
            InTable (length (job_table (numbered job))) g
        go (inl h) =
            let u = unmap (λ (r : ℕ × ℕ). table_entry r.1) (starters d.held) g h in
            subst (InTable (length (job_table (numbered job)))) u.2
            (there constant u.0.0 u.0.1 (facts.all_held.start_placed u.0.0 u.0.1 (starters-start d.held u.0.0 u.0.1 u.1)))
        go (inr h) =
            let u = unmap (λ (r : ℕ × ℕ). table_entry (job_constants (numbered job) + r.1)) d.indexes g h in
            subst (InTable (length (job_table (numbered job)))) u.2 (there bootstrap u.0.0 u.0.1 (facts.all_indexes.index_placed u.0.0 u.0.1 u.1))

    module _ (w : Ready) (is_ready : end_definitions (top_of job) (table_in (numbered job) d) (job_constants (numbered job)) d ≡ good w) where
      -- the raw constants, as the building stack has them
      abbrev pub begun_raws : List (ℕ × ℕ)
      begun_raws = raws_of d.held w.resolved.marks

      pub begun :
          Going (job_table (numbered job)) (top_of job) d.held begun_raws w
          × ((g : Goal) → Among g (raw_goals (job_constants (numbered job)) d) → Settled w.resolved.marks g)
      begun =
          ready_going (top_of job) (numbered job).definitions (constants_in (numbered job)) (job_table (numbered job)) (job_constants (numbered job)) d w
          formed_table.cited
          raw_in
          is_defined
          (subst (λ t. end_definitions (top_of job) t (job_constants (numbered job)) d ≡ good w) same-table is_ready)

      -- what requests ask for is in the table, and no bootstrap
      pub begun_asks :
          Each (Asks (job_table (numbered job)) formed_table.cited (top_of job) d.held begun_raws (job_names (numbered job)) (job_constants (numbered job))) (numbered job).requests
      begun_asks =
          each_from _ (numbered job).requests
          (asks-good (numbered job) (numbered-cited bytes job are formed) (definitions_low_lem bytes job are formed) (requests_low_lem bytes job are formed))
