-- BLOCKS WRITTEN: 1 exactly if the job is too long, 18 exactly if it isn't and has no room, and otherwise a file of so many blocks.
-- Assumes nothing.
use mathlib.Core.Bool.{true, false}
use mathlib.Core.List.{List}
use mathlib.Core.Logic.{◌⊎◌, inl, inr}
use mathlib.Core.Path.{◌≡◌, refl, sym, ap, ◌∙◌}
use Prim.Native.Nat.{ℕ, ◌*◌, ◌≤◌, ◌<◌}
use native.Mathlib.Omega.{arith}
use lib.Dec.{leb}
use lib.ListN.{length}
use borrow.Author.Tests.{leb-true, leb-false, le-leb, lt-leb}
use Rattle.definition.specs.Basics.{Result, good, bad, Refusal}
use Rattle.definition.specs.Run.{longest_job}
use Rattle.definition.specs.Blocks.{blocks_for, written_block, write_blocks}
use Rattle.facts.proofs.Results.{bad≢good, guarded, passes, refuses, refused_by}
use Rattle.laws.specs.Statements.{BlocksWritten}
use Rattle.laws.proofs.Blocks.BlocksOfParts.{their_file, file_length}
use Rattle.laws.proofs.Blocks.PartsOfJob.{written_part, written-described}

module _ (room : ℕ) (job : List ℕ) where
  abbrev new : List ℕ
  new = their_file (blocks_for (length job)) (written_part job)

  -- the test for 18, and the test for 1 in front of it
  abbrev fit_test : Result Refusal (List ℕ)
  fit_test = guarded (leb (512 * blocks_for (length job)) room) 0 18 (good new)

  writing : write_blocks room job ≡ guarded (leb (length job) longest_job) 0 1 fit_test
  unfolding write_blocks written_block
  writing = refl

  to_fit : length job ≤ longest_job → write_blocks room job ≡ fit_test
  to_fit short = writing ∙ passes 0 1 fit_test (leb (length job) longest_job) (le-leb (length job) longest_job short)

  -- a refusal is one of the two
  abbrev Why : ℕ → Type 0
  Why code = ((longest_job < length job) × (1 ≡ code)) ⊎ (((length job ≤ longest_job) × (room < 512 * blocks_for (length job))) × (18 ≡ code))

  why_written : (r : Refusal) → write_blocks room job ≡ bad r → Why r.code
  why_written r e = long (refused_by 0 1 fit_test (leb (length job) longest_job) r (sym writing ∙ e))
    where
      code_of : {s : Refusal} → s ≡ r → s.code ≡ r.code
      code_of q = ap (λ (r : Refusal). r.code) q

      full :
          length job ≤ longest_job →
          ((leb (512 * blocks_for (length job)) room ≡ false) × (record { code = 18; place = 0 } ≡ r)) ⊎ ((leb (512 * blocks_for (length job)) room ≡ true) × (good new ≡ bad r)) →
          Why r.code
      full short (inl x) = inr ((short, leb-false (512 * blocks_for (length job)) room x.0), code_of x.1)
      full short (inr x) = bad≢good (sym x.1)

      long :
          ((leb (length job) longest_job ≡ false) × (record { code = 1; place = 0 } ≡ r)) ⊎ ((leb (length job) longest_job ≡ true) × (fit_test ≡ bad r)) →
          Why r.code
      long (inl x) = inl (leb-false (length job) longest_job x.0, code_of x.1)
      long (inr x) = full (leb-true (length job) longest_job x.0) (refused_by 0 18 (good new) (leb (512 * blocks_for (length job)) room) r x.1)

-- BLOCKS WRITTEN: 1 exactly if the job is too long, 18 exactly if it isn't and has no room, and otherwise a file of so many blocks
pub blocks_written : BlocksWritten
blocks_written room job = (
  (
    λ e. one (why_written room job (record { code = 1; place = 0 }) e),
    λ long. writing room job ∙ refuses 0 1 (fit_test room job) (leb (length job) longest_job) (lt-leb (length job) longest_job long),
  ),
  (
    λ e. eighteen (why_written room job (record { code = 18; place = 0 }) e),
    λ h. to_fit room job h.0 ∙ refuses 0 18 (good (new room job)) (leb size room) (lt-leb size room h.1),
  ),
  λ short fits. (
    new room job,
    to_fit room job short ∙ passes 0 18 (good (new room job)) (leb size room) (le-leb size room fits),
    file_length (blocks_for (length job)) (written_part job) (written-described job),
  ),
)
  where
    size : ℕ
    size = 512 * blocks_for (length job)

    one : Why room job 1 → longest_job < length job
    one (inl h) = h.0
    one (inr h) = absurd (omega (arith, h.1))

    eighteen : Why room job 18 → (length job ≤ longest_job) × (room < size)
    eighteen (inl h) = absurd (omega (arith, h.1))
    eighteen (inr h) = h.0
