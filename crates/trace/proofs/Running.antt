-- How a run is refused or goes on: the trace and the flags, and the pool with the table of its places. Assumes nothing.
use mathlib.Core.Bool.{Bool, true, false, ◌&&◌, and-false}
use mathlib.Core.List.{List}
use mathlib.Core.Logic.{◌⊎◌, inl, inr}
use mathlib.Core.Option.{none, some}
use mathlib.Core.Path.{◌≡◌, refl, sym, ap, subst, ◌∙◌}
use Prim.Native.Nat.{ℕ, ◌%◌, ◌≤◌, ◌<◌}
use native.Mathlib.Omega.{arith}
use lib.Dec.{eqb}
use lib.ListN.{length, drop}
use lib.Seq.{drop-cons, drop-length}
use borrow.Author.Tests.{eq-eqb, ne_eqb, eqb-true, eqb-false}
use Rattle.definition.specs.Basics.{Result, good, bad}
use Rattle.facts.proofs.Lists.{order, true≢false}
use Rattle.jvms.specs.Pool.{wholly, read_pool_lem}
use Rattle.std.specs.Prelude as code
use Rattle.std.specs.Prelude.{None, Some, Ok, Err}
use Rattle.std.specs.Option.{option_eq}
use Rattle.refusal.specs.declared.Refusal.{Refusal}
use Rattle.refusal.specs.declared.Refusal.TheVariants.{NotPool, BadTrace}
use Rattle.refusal.specs.Numbers.{number, answer_of}
use Rattle.places.specs.Noting.{Blank, PoolNoted}
use Rattle.places.proofs.Rows.{pool_table}
use Rattle.trace.specs.declared.Counts.{Counts}
use Rattle.trace.specs.Trace.{steps, unknown_action, well_formed, Report, report, run-over, run-read, run, flags_after}
use Rattle.trace.specs.Answers.{counted, answer, held}
use Rattle.trace.proofs.Holding.{held-holds}

-- what is answered for a result, and left in the flags
abbrev pub Gave : Result ℕ Report → List ℕ → List ℕ → code.Result Counts Refusal → Type 0
Gave result lent later r = (answer_of r ≡ answer result) × (later ≡ flags_after result lent)

refused : (result : Result ℕ Report) (lent : List ℕ) (why : Refusal) → result ≡ bad (number why) → Gave result lent lent (Err why)
unfolding answer answer_of flags_after
refused result lent why e = (rw e, rw e)

-- THE TRACE AND THE FLAGS

module _ (holds : ℕ → ℕ → Bool) (trace lent : List ℕ) where
  unfit : (well_formed trace && eqb (length lent) 65536) ≡ false → Gave (run-over holds trace lent) lent lent (Err BadTrace)
  unfolding run-over number
  unfit e = refused (run-over holds trace lent) lent BadTrace (rw (e, run-over))

  pub cut : (length trace % 4 ≡ 0 → ⊥) → Gave (run-over holds trace lent) lent lent (Err BadTrace)
  unfolding well_formed
  cut h = unfit (rw (ne_eqb (length trace % 4) 0 h))

  pub few_flags : (length lent ≡ 65536 → ⊥) → Gave (run-over holds trace lent) lent lent (Err BadTrace)
  few_flags h = unfit (rw (ne_eqb (length lent) 65536 h) (and-false (well_formed trace)))

  pub strange : unknown_action trace (steps trace) ≡ true → Gave (run-over holds trace lent) lent lent (Err BadTrace)
  unfolding well_formed
  strange h = unfit (rw (h, and-false (eqb (length trace % 4) 0)))

  pub formed : (later : List ℕ) (r : Counts) → length trace % 4 ≡ 0 → length lent ≡ 65536 → unknown_action trace (steps trace) ≡ false →
      (r ≡ counted (report holds trace lent)) × (later ≡ (report holds trace lent).flags) → Gave (run-over holds trace lent) lent later (Ok r)
  unfolding answer answer_of flags_after run-over well_formed
  formed later r whole many known (told, left) = (ap good told ∙ sym (ap answer goes), left ∙ sym (ap (λ x. flags_after x lent) goes))
    where
      fit : (well_formed trace && eqb (length lent) 65536) ≡ true
      fit = rw (eq-eqb (length trace % 4) 0 whole, known, eq-eqb (length lent) 65536 many)

      goes : run-over holds trace lent ≡ good (report holds trace lent)
      goes = rw (fit, run-over)

-- THE POOL

module _ (pool trace lent : List ℕ) where
  no_pool_lem : read_pool_lem pool ≡ none → Gave (run pool trace lent) lent lent (Err NotPool)
  unfolding run run-read number
  no_pool_lem e = refused (run pool trace lent) lent NotPool (rw e)

  module _ (before after : List ℕ) (result : code.Option ℕ) (noted : PoolNoted pool 0 before after result) where
    pub unread : result ≡ None → Gave (run pool trace lent) lent lent (Err NotPool)
    unfolding read_pool_lem wholly
    unread e = no_pool_lem (ap wholly (subst (PoolNoted pool 0 before after) e noted).0)

    module _ (next : ℕ) (e : result ≡ Some next) where
      read : PoolNoted pool 0 before after (Some next)
      read = subst (PoolNoted pool 0 before after) e noted

      pub more-behind : (next ≡ length pool → ⊥) → Gave (run pool trace lent) lent lent (Err NotPool)
      unfolding read_pool_lem wholly
      more-behind h = no_pool_lem (ap wholly read.1 ∙ ways (order next (length pool)))
        where
          ways : (next < length pool) ⊎ (length pool ≤ next) → wholly (some (read.0, drop next pool)) ≡ none
          ways (inl k) = rw (drop-cons pool next 0 k)
          ways (inr k) = absurd (h (omega (arith, read.3)))

      -- a pool that was read whole is run over by the table of its places
      pub goes_on : Blank before → next ≡ length pool → (later : List ℕ) (r : code.Result Counts Refusal) → Gave (run-over (held pool after) trace lent) lent later r →
          Gave (run pool trace lent) lent later r
      unfolding run run-read read_pool_lem wholly
      goes_on blank whole later r gave = rw same gave
        where
          all : read_pool_lem pool ≡ some read.0
          all = ap wholly read.1 ∙ ap (λ l. wholly (some (read.0, l))) (ap (λ n. drop n pool) whole ∙ drop-length pool)

          same : run pool trace lent ≡ run-over (held pool after) trace lent
          same = ap (λ o. run-read o trace lent) all ∙ ap (λ h. run-over h trace lent) (sym (held-holds (pool_table pool 0 before after next blank read)))

  -- by whether the place behind the pool is its end
  module _ (before after : List ℕ) where
    pub not_whole :
        (result : code.Option ℕ) → PoolNoted pool 0 before after result → option_eq eqb result (Some (length pool)) ≡ false →
        Gave (run pool trace lent) lent lent (Err NotPool)
    not_whole None noted e = unread before after None noted refl
    not_whole (Some next) noted e = more-behind before after (Some next) noted next refl (eqb-false next (length pool) e)

    pub when-whole :
        (result : code.Option ℕ) → PoolNoted pool 0 before after result → option_eq eqb result (Some (length pool)) ≡ true → Blank before →
        (later : List ℕ) (r : code.Result Counts Refusal) → Gave (run-over (held pool after) trace lent) lent later r → Gave (run pool trace lent) lent later r
    when-whole None noted e blank later r gave = true≢false (sym e)
    when-whole (Some next) noted e blank later r gave = goes_on before after (Some next) noted next refl blank (eqb-true next (length pool) e) later r gave
