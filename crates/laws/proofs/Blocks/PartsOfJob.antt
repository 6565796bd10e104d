-- The parts that a job is written as: they are as described, and their job is the job. Assumes nothing.
use mathlib.Core.Bool.{Bool, true, false}
use mathlib.Core.List.{List, ◌++◌}
use mathlib.Core.Logic.{◌≢◌}
use mathlib.Core.Path.{◌≡◌, refl, sym, ap, ◌∙◌}
use Prim.Native.Nat.{ℕ, zero, suc, ◌+◌, ◌*◌, ◌-◌, ◌≤◌, ◌<◌, min}
use native.Mathlib.Omega.{arith}
use lib.Dec.{eqb, leb}
use lib.ListN.{length, take, drop, replicate, length-append, length-take, length-drop, length-replicate}
use lib.Seq.{take-append_seam, take_all, drop_at}
use borrow.Author.Tests.{eqb-true, eqb-false, eq-eqb, leb-true, le-leb}
use Rattle.definition.specs.Basics.{good, concat, from}
use Rattle.definition.specs.Run.{longest_job}
use Rattle.definition.specs.Blocks.{right_use, most_blocks, blocks_for, written_block, write_blocks}
use Rattle.facts.proofs.Chunks.{from-same, cut-join}
use Rattle.facts.proofs.Results.{good_inj, guarded, passed}
use Rattle.laws.proofs.Blocks.OneBlock.{are_zeros}
use Rattle.laws.proofs.Blocks.BlocksOfParts.{Part, their_file, their_job, Described}

-- the parts of a job: up to 504 bytes of it, padded with zeros
abbrev pub written_part : List ℕ → ℕ → Part
written_part job k =
    let part = take 504 (drop (504 * k) job) in
    (length part, part ++ replicate (504 - length part) 0)

-- the blocks for a length hold it, and no more than are needed
pub blocks_hold : (l : ℕ) → l ≤ 504 * blocks_for l
unfolding blocks_for
blocks_hold zero = omega arith
blocks_hold (suc l) = omega arith

pub blocks_needed : (l : ℕ) → (blocks_for l ≡ 1 → ⊥) → 504 * blocks_for l < l + 504
unfolding blocks_for
blocks_needed zero more = absurd (more refl)
blocks_needed (suc l) more = omega arith

-- they are at least one, and at most 2,081 for a job that isn't too long
pub blocks_some : (l : ℕ) → 1 ≤ blocks_for l
unfolding blocks_for
blocks_some zero = omega arith
blocks_some (suc l) = omega arith

pub blocks_few : (l : ℕ) → l ≤ longest_job → blocks_for l ≤ most_blocks
unfolding blocks_for
blocks_few zero h = omega arith
blocks_few (suc l) h = omega arith

-- the use of a full block, of an only one, and of the last of several
pub full_use : (only : Bool) (used : ℕ) → used ≡ 504 → right_use only false used ≡ true
unfolding right_use
full_use only used e = eq-eqb used 504 e

pub only-use : (used : ℕ) → used ≤ 504 → right_use true true used ≡ true
unfolding right_use
only-use used h = rw (le-leb used 504 h)

pub last-use : (used : ℕ) → used ≤ 504 → 1 ≤ used → right_use false true used ≡ true
unfolding right_use
last-use used h low = rw (le-leb used 504 h) (le-leb 1 used low)

-- n blocks that hold l bytes, and no more of them than are needed, are rightly used
pub right_use_lem :
    (l n i used : ℕ) →
    i < n →
    l ≤ 504 * n →
    ((n ≡ 1 → ⊥) → 504 * n < l + 504) →
    used ≡ min 504 (l - 504 * i) →
    right_use (eqb n 1) (eqb (suc i) n) used ≡ true
right_use_lem l n i used h hold need e = go (eqb n 1) (eqb (suc i) n) refl refl
  where
    go : (only last : Bool) → eqb n 1 ≡ only → eqb (suc i) n ≡ last → right_use only last used ≡ true
    go only false t₁ t₂ =
        let more : n ≢ suc i = λ q. eqb-false (suc i) n t₂ (sym q) in
        let tight = need (omega arith) in
        full_use only used (omega arith)
    go true true t₁ t₂ = only-use used (omega arith)
    go false true t₁ t₂ =
        let last = eqb-true (suc i) n t₂ in
        let tight = need (eqb-false n 1 t₁) in
        last-use used (omega arith) (omega arith)

module _ (job : List ℕ) where
  -- a job's parts are as described
  pub written-described : Described (blocks_for (length job)) (written_part job)
  written-described i h =
      let part = take 504 (drop (504 * i) job) in
      let used : length part ≡ min 504 (length job - 504 * i) = length-take 504 (drop (504 * i) job) ∙ ap (min 504) (length-drop (504 * i) job) in (
        length-append part (replicate (504 - length part) 0) ∙ rw length-replicate (omega arith),
        right_use_lem (length job) (blocks_for (length job)) i (length part) h (blocks_hold (length job)) (blocks_needed (length job)) used,
        rw (drop_at part (replicate (504 - length part) 0) (length part) refl) (are_zeros (504 - length part)),
      )

  -- the parts' job is the job
  pub written-job : their_job (blocks_for (length job)) (written_part job) ≡ job
  written-job =
      let n = blocks_for (length job) in
      ap concat
      (from-same (λ i. take (written_part job i).0 (written_part job i).1) (λ i. take 504 (drop (504 * i) job)) 0 n
      (λ i low high. take-append_seam (take 504 (drop (504 * i) job)) (replicate (504 - length (take 504 (drop (504 * i) job))) 0)))
      ∙ cut-join 504 job 0 n
      ∙ take_all (504 * n) job (blocks_hold (length job))

  -- what is written is the parts' file
  pub written-file : (room : ℕ) (file : List ℕ) → write_blocks room job ≡ good file → (length job ≤ longest_job) × (their_file (blocks_for (length job)) (written_part job) ≡ file)
  unfolding write_blocks written_block
  written-file room file e =
      let n = blocks_for (length job) in
      let new = concat (from (written_block job) 0 n) in
      let t₁ = passed 0 1 (guarded (leb (512 * n) room) 0 18 (good new)) (leb (length job) longest_job) file e in
      let t₂ = passed 0 18 (good new) (leb (512 * n) room) file t₁.1 in
      (leb-true (length job) longest_job t₁.0, good_inj t₂.1)
