-- The form pass over a whole job: its definitions, then its requests and 60. Assumes nothing.
use mathlib.Core.List.{List, []}
use mathlib.Core.Option.{none}
use mathlib.Core.Path.{◌≡◌, refl, sym, ap, ◌∙◌}
use Prim.Native.Nat.{ℕ, suc, ◌-◌}
use native.Mathlib.Nat.{add-zero, zero-add}
use native.Mathlib.Omega.{arith}
use lib.ListN.{length, drop}
use Rattle.facts.proofs.Lists.{clash}
use Rattle.facts.proofs.Results.{good_inj}
use Rattle.definition.specs.Basics.{Result, good, bad, ◌>>=◌, Refusal, only}
use Rattle.definition.specs.Settings.{highest_of}
use Rattle.definition.specs.Slots.{highest_slot}
use Rattle.definition.specs.Job.{Definition}
use Rattle.definition.specs.Form.{Counts, nothing_yet, with_broken, Definitions, form_definitions, Requests, form_requests, form}
use Rattle.definition.specs.Numbering.{entries, constants_of, bootstraps_of, settings}
use Rattle.job.specs.declared.JobCounts.{JobCounts}
use Rattle.job.specs.Forms.{references_in, version_from, highest_from, counts_of, more, tables_in, tallied, place_of, formed_requests, formed_of}
use Rattle.job.proofs.Counting.{none_more}
use Rattle.job.proofs.Blind.{requests_blind}
use Rattle.job.proofs.Tops.{top-first}
use Rattle.job.proofs.Passes.{RequestsLeft}

-- requests are counted beside definitions
pub beside : (l : List (Definition (List ℕ))) (k : ℕ) → counts_of l k ≡ more (counts_of l 0) [] k
unfolding more counts_of constants_of bootstraps_of entries only references_in version_from highest_from
beside l k = simp (add-zero, zero-add)

pub formed_job :
    (l : List (Definition (List ℕ))) (x : Result Refusal Requests) →
    formed_of (x >>= λ r. good (record { definitions = l; requests = r.list; build = r.build })) ≡ formed_requests (counts_of l 0) x
unfolding formed_of formed_requests
formed_job l (good r) = rw (beside l (length r.list))
formed_job l (bad refusal) = refl

-- the requests that follow these definitions
pub requests_start :
    (s rest : List ℕ) (l : List (Definition (List ℕ))) (n : Counts) →
    formed_requests (counts_of l 0) (form_requests (length s) n 0 (suc (length l)) rest)
    ≡ formed_requests (counts_of l 0) (form_requests (length s - (counts_of l 0).requests) n (counts_of l 0).requests (place_of (counts_of l 0)) rest)
unfolding counts_of
requests_start s rest l n = let e : length s - 0 ≡ length s = omega arith in rw (e, add-zero)

module _ (s : List ℕ) where
  -- the rest of the pass, behind the definitions
  abbrev pub After : Result Refusal Definitions → Result Refusal JobCounts
  After x =
      formed_of
      (x >>= λ d.
      form_requests (length s) d.counts 0 (suc (length d.list)) d.rest >>= λ r.
      good (record { definitions = d.list; requests = r.list; build = r.build }))

  pub after_bad : (x : Result Refusal Definitions) (refusal : Refusal) → tallied (counts_of [] 0) x ≡ bad refusal → After x ≡ bad refusal
  unfolding tallied formed_of
  after_bad (good d) refusal e = clash (cc)
  after_bad (bad other) refusal e = let p : other ≡ refusal = cc in rw p

  pub after_good :
      (x : Result Refusal Definitions) (c : JobCounts) (next : ℕ) →
      ((d : Definitions) → x ≡ good d → highest_from highest_slot d.list ≡ highest_of (settings d.list)) →
      tallied (counts_of [] 0) x ≡ good (c, tables_in c, drop next s) →
      After x ≡ RequestsLeft s next c
  unfolding tallied
  after_good (good d) c next top e =
      let p = good_inj e in
      let counts : counts_of d.list 0 ≡ c = sym (none_more d.list 0 (top d refl)) ∙ ap (λ t. t.0) p in
      formed_job d.list (form_requests (length s) d.counts 0 (suc (length d.list)) d.rest)
      ∙ ap (formed_requests (counts_of d.list 0)) (sym (requests_blind d.counts none (length s) 0 (suc (length d.list)) d.rest))
      ∙ requests_start s d.rest d.list (with_broken none d.counts)
      ∙ rw (counts, ap (λ t. t.1) p, ap (λ t. t.2) p)
  after_good (bad other) c next top e = clash (cc)

  pub whole-bad :
      (refusal : Refusal) → tallied (counts_of [] 0) (form_definitions (length s) nothing_yet 0 s) ≡ bad refusal →
      formed_of (form s) ≡ bad refusal
  unfolding form
  whole-bad refusal e = after_bad (form_definitions (length s) nothing_yet 0 s) refusal e

  pub whole-good :
      (c : JobCounts) (next : ℕ) → tallied (counts_of [] 0) (form_definitions (length s) nothing_yet 0 s) ≡ good (c, tables_in c, drop next s) →
      formed_of (form s) ≡ RequestsLeft s next c
  unfolding form
  whole-good c next e = after_good (form_definitions (length s) nothing_yet 0 s) c next (top-first s) e
