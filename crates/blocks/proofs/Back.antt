-- Reading what was written gives the job back: a theorem about the contracts of the two functions. Assumes nothing.
use mathlib.Core.Path.{◌≡◌, refl, sym, ap, ◌∙◌}
use mathlib.Core.List.{List}
use Prim.Native.Nat.{ℕ, ◌≤◌}
use lib.ListN.{length, take, drop}
use lib.Seq.{take-append_seam}
use Rattle.definition.specs.Basics.{Result, good, bad, Refusal}
use Rattle.definition.specs.Run.{overwrite}
use Rattle.definition.specs.Blocks.{read_blocks, write_blocks, blocks_after}
use Rattle.facts.proofs.Results.{good_inj, bad≢good}
use Rattle.laws.proofs.Blocks.BlocksBack.{blocks_back}
use Rattle.std.specs.Prelude.{Ok}
use Rattle.std.specs.Prelude.{Result as Outcome}
use Rattle.refusal.specs.Numbers.{told_of}
use Rattle.refusal.specs.declared.Refused.{Refused}
use Rattle.blocks.specs.Answers.{length_of}
use Rattle.blocks.proofs.Single.{read_inj}

-- a length answered is that of a file, with which the output begins
file_written :
    (w : Result Refusal (List ℕ)) (out : List ℕ) (n : ℕ) →
    good n ≡ length_of w →
    (file : List ℕ) × (w ≡ good file) × (take n (blocks_after w out) ≡ file)
unfolding length_of blocks_after overwrite
file_written (good file) out n e =
    (file, refl, ap (λ k. take k (overwrite file out)) (good_inj e) ∙ take-append_seam file (drop (length file) out))
file_written (bad r) out n e = bad≢good (sym e)

-- `write_blocks` answers n and leaves `file`; `read_blocks` on its first n bytes, with room for the job, then answers the
-- job's length and leaves the job
pub read_back_lem :
    (job out file room after : List ℕ) (n : ℕ) (r : Outcome ℕ Refused) →
    told_of {T = ℕ} (Ok n) ≡ length_of (write_blocks (length out) job) →
    file ≡ blocks_after (write_blocks (length out) job) out →
    told_of r ≡ length_of (read_blocks (length room) (take n file)) →
    after ≡ blocks_after (read_blocks (length room) (take n file)) room →
    length job ≤ length room →
    (r ≡ Ok (length job)) × (after ≡ overwrite job room)
unfolding told_of length_of blocks_after
read_back_lem job out file room after n r wrote left answered leaves fits =
    let (bytes, written, begins) = file_written (write_blocks (length out) job) out n wrote in
    let read : read_blocks (length room) (take n file) ≡ good job =
    ap (λ f. read_blocks (length room) (take n f)) left
    ∙ ap (read_blocks (length room)) begins
    ∙ blocks_back (length out) (length room) job bytes written fits in
    (read_inj r (Ok (length job)) (answered ∙ ap length_of read), leaves ∙ ap (λ x. blocks_after x room) read)
