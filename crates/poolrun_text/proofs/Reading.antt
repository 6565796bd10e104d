-- What is printed after a file is read into 2,560 bytes is what the definition prints of the file. Assumes nothing.
use mathlib.Core.Bool.{Bool}
use mathlib.Core.List.{List, ◌++◌}
use mathlib.Core.Path.{◌≡◌, refl, sym, ap, ◌∙◌}
use Prim.Native.Nat.{ℕ, zero, suc, ◌*◌, ◌/◌, ◌<◌, ◌≤◌}
use native.Mathlib.Nat.{mul-suc}
use native.Mathlib.Omega.{arith}
use lib.Dec.{leb}
use lib.ListN.{length, take, drop, length-append, length-take, length-drop}
use lib.Seq.{take-append_seam}
use borrow.Author.Tests.{le-leb, lt-leb}
use Rattle.definition.specs.Basics.{Result, good, bad, ◌>>=◌, Refusal, at_record, unless, concat, from}
use Rattle.definition.specs.Run.{longest_job, run, overwrite}
use Rattle.definition.specs.Blocks.{block_count, block_at, block_data, used_in, blocks_right, most_blocks, read_blocks, blocks_after, printed, poolrun_lent, poolrun}
use Rattle.facts.proofs.Results.{guarded, bad≢good, good_inj, bad_inj}
use Rattle.laws.proofs.Blocks.ReadingTests.{job_in, whole_blocks, reading}
use Rattle.std.specs.Prelude as prelude
use Rattle.std.specs.Prelude.{Ok, Err}
use Rattle.refusal.specs.declared.Refused.{Refused}
use Rattle.refusal.specs.Numbers.{number, told_of}
use Rattle.blocks.specs.Answers.{length_of}
use Rattle.poolrun_text.specs.Text.{refused_text, ReadInto, read_text}
use Rattle.poolrun_text.proofs.Texts.{refused_is}

-- parts of at most m bytes
joined-most : (f : ℕ → List ℕ) (m k n : ℕ) → ((i : ℕ) → length (f i) ≤ m) → length (concat (from f k n)) ≤ m * n
unfolding concat from
joined-most f m k zero most = omega arith
joined-most f m k (suc n) most =
    omega (arith, most k, joined-most f m (suc k) n most, length-append (f k) (concat (from f (suc k) n)), mul-suc m n)

data_most : (b : List ℕ) → length b ≤ 512 → length (block_data b) ≤ 508
unfolding block_data
data_most b h = omega (arith, length-take (used_in b) (drop 4 b), length-drop 4 b)

block-most : (file : List ℕ) (k : ℕ) → length (block_at file k) ≤ 512
unfolding block_at
block-most file k = omega (arith, length-take 512 (drop (512 * k) file))

module _ (file : List ℕ) (short : length file ≤ 2560) where
  job_short : length (job_in file) ≤ 2560
  unfolding job_in block_count
  job_short =
      let most = joined-most (λ k. block_data (block_at file k)) 508 0 (length file / 512) (λ i. data_most (block_at file i) (block-most file i)) in
      let few : length file / 512 ≤ 5 = omega arith in
      omega (arith, most, few)

  -- reading into 2,560 bytes is reading into as many as there can be
  room_same : read_blocks longest_job file ≡ read_blocks 2560 file
  room_same =
      let long : length (job_in file) ≤ longest_job = omega (arith, job_short) in
      reading longest_job file
      ∙ ap
      (λ (b : Bool).
      guarded
      (whole_blocks file)
      0
      20
      (guarded
      (leb (block_count file) most_blocks)
      0
      1
      (blocks_right (block_count file) file (block_count file) 0
      >>= λ _. guarded (leb (length (job_in file)) longest_job) 0 1 (guarded b 0 18 (good (job_in file))))))
      (le-leb (length (job_in file)) longest_job long ∙ sym (le-leb (length (job_in file)) 2560 job_short))
      ∙ sym (reading 2560 file)

  poolrun-is : poolrun file ≡ printed (read_blocks 2560 file >>= λ job. run poolrun_lent job)
  unfolding poolrun at_record unless
  poolrun-is =
      ap
      (λ (b : Bool). printed (at_record 0 (unless b 1) >>= λ _. read_blocks longest_job file >>= λ job. run poolrun_lent job))
      (le-leb (length file) 2560 short)
      ∙ ap (λ r. printed (r >>= λ job. run poolrun_lent job)) room_same

  -- a file that is read
  read_is :
      (n : ℕ) (before after : List ℕ) → good n ≡ length_of (read_blocks 2560 file) → after ≡ blocks_after (read_blocks 2560 file) before →
      (n ≤ length after) × (printed (run poolrun_lent (take n after)) ≡ poolrun file)
  unfolding length_of blocks_after overwrite
  read_is n before after answer written = ways (read_blocks 2560 file) refl
    where
      ways :
          (x : Result Refusal (List ℕ)) → read_blocks 2560 file ≡ x →
          (n ≤ length after) × (printed (run poolrun_lent (take n after)) ≡ poolrun file)
      ways (bad r) e = bad≢good (sym (answer ∙ ap length_of e))
      ways (good job) e =
          let size : n ≡ length job = good_inj (answer ∙ ap length_of e) in
          let all : after ≡ job ++ drop (length job) before = written ∙ ap (λ x. blocks_after x before) e in
          let front : take n after ≡ job =
          ap (λ k. take k after) size ∙ ap (take (length job)) all ∙ take-append_seam job (drop (length job) before) in (
            omega (arith, size, ap length all, length-append job (drop (length job) before)),
            ap (λ j. printed (run poolrun_lent j)) front ∙ sym (poolrun-is ∙ ap (λ x. printed (x >>= λ job. run poolrun_lent job)) e),
          )

  -- a file that is refused
  refusal_is : (code place : ℕ) → bad (record { code = code; place = place }) ≡ length_of (read_blocks 2560 file) → refused_text code place ≡ poolrun file
  unfolding length_of
  refusal_is code place answer = ways (read_blocks 2560 file) refl
    where
      ways : (x : Result Refusal (List ℕ)) → read_blocks 2560 file ≡ x → refused_text code place ≡ poolrun file
      ways (good job) e = bad≢good (answer ∙ ap length_of e)
      ways (bad r) e =
          let same : record { code = code; place = place } ≡ r = bad_inj (answer ∙ ap length_of e) in
          refused_is code place
          ∙ ap (λ q. printed (bad q)) same
          ∙ sym (poolrun-is ∙ ap (λ x. printed (x >>= λ job. run poolrun_lent job)) e)

  -- either, as the code tells them apart
  pub read_text_lem :
      (read : prelude.Result ℕ Refused) (before after : List ℕ) → told_of read ≡ length_of (read_blocks 2560 file) →
      after ≡ blocks_after (read_blocks 2560 file) before → ReadInto read (length after) × (read_text read after ≡ poolrun file)
  unfolding told_of ReadInto read_text
  read_text_lem (Ok n) before after answer written = read_is n before after answer written
  read_text_lem (Err r) before after answer written = (tt, refusal_is (number r.refusal) r.place answer)

-- a file that is too long
pub long_text : (file : List ℕ) → 2560 < length file → refused_text 1 0 ≡ poolrun file
unfolding poolrun at_record unless
long_text file long =
    refused_is 1 0
    ∙ sym
    (ap
    (λ (b : Bool). printed (at_record 0 (unless b 1) >>= λ _. read_blocks longest_job file >>= λ job. run poolrun_lent job))
    (lt-leb (length file) 2560 long))
