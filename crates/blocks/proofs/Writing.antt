-- The three ends of writing a job. Assumes nothing.
use mathlib.Core.Path.{◌≡◌, refl, ◌∙◌}
use mathlib.Core.List.{List}
use Prim.Native.Nat.{ℕ, zero, suc, ◌+◌, ◌*◌, ◌-◌, ◌/◌, ◌<◌, ◌≤◌}
use native.Mathlib.Omega.{arith}
use borrow.Author.Tests.{le-leb, lt-leb}
use lib.Dec.{leb}
use lib.ListN.{length}
use Rattle.definition.specs.Basics.{good, bad}
use Rattle.definition.specs.Run.{longest_job}
use Rattle.definition.specs.Blocks.{blocks_for, written_block, write_blocks}
use Rattle.facts.proofs.Chunks.{joined}
use Rattle.facts.proofs.Results.{passes, refuses}

-- how many blocks a job that isn't empty takes
pub blocks_for-some : (size : ℕ) → (size ≡ 0 → ⊥) → (size - 1) / 504 + 1 ≡ blocks_for size
unfolding blocks_for
blocks_for-some zero some = absurd (some refl)
blocks_for-some (suc n) some = omega arith

-- a job begins each of its blocks
pub blocks_for-begun : (size : ℕ) → 504 * blocks_for size ≤ size + 504
unfolding blocks_for
blocks_for-begun zero = omega arith
blocks_for-begun (suc n) = omega arith

module _ (room : ℕ) (job : List ℕ) where
  pub write_long : longest_job < length job → write_blocks room job ≡ bad (record { code = 1; place = 0 })
  unfolding write_blocks
  write_long long = refuses 0 1 _ (leb (length job) longest_job) (lt-leb (length job) longest_job long)

  pub write_narrow :
      length job ≤ longest_job → room < 512 * blocks_for (length job) → write_blocks room job ≡ bad (record { code = 18; place = 0 })
  unfolding write_blocks
  write_narrow small narrow =
      passes 0 1 _ (leb (length job) longest_job) (le-leb (length job) longest_job small)
      ∙ refuses 0 18 _ (leb (512 * blocks_for (length job)) room) (lt-leb (512 * blocks_for (length job)) room narrow)

  pub write_good :
      length job ≤ longest_job → 512 * blocks_for (length job) ≤ room →
      write_blocks room job ≡ good (joined (written_block job) (blocks_for (length job)))
  unfolding write_blocks
  write_good small fits =
      passes 0 1 _ (leb (length job) longest_job) (le-leb (length job) longest_job small)
      ∙ passes 0 18 _ (leb (512 * blocks_for (length job)) room) (le-leb (512 * blocks_for (length job)) room fits)
