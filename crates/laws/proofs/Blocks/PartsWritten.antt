-- Parts as described are those that their job is written as, so that their file is the one that is written. Assumes nothing.
use mathlib.Core.List.{List, ◌++◌}
use mathlib.Core.Logic.{⊎_elim}
use mathlib.Core.Path.{◌≡◌, refl, sym, ap, ◌∙◌}
use Prim.Native.Nat.{ℕ, zero, suc, ◌+◌, ◌*◌, ◌-◌, ◌≤◌, ◌<◌}
use native.Mathlib.Nat.{zero-add, eq-or-lt_of_le}
use native.Mathlib.Omega.{arith}
use borrow.Author.Tests.{eq-eqb, ne_eqb}
use lib.Dec.{eqb}
use lib.ListN.{length, take, drop, replicate, length-append, length-drop, take-append-drop}
use lib.Seq.{take_all, take-append-le, drop-append-le, drop_at, length-take-le}
use Rattle.definition.specs.Basics.{concat}
use Rattle.definition.specs.Blocks.{block, blocks_for}
use Rattle.facts.proofs.Chunks.{joined, joined-more, length-joined, cut_out, from-same}
use Rattle.laws.proofs.Blocks.OneBlock.{used_most, used_full, used_some, zeros-are}
use Rattle.laws.proofs.Blocks.BlocksOfParts.{Part, their_file, their_job, Described}
use Rattle.laws.proofs.Blocks.PartsOfJob.{written_part}

-- how many blocks a length takes: m full ones, and one that uses something, or nothing if it is the only one
count_is : (m used : ℕ) → used ≤ 504 → (1 ≤ m → 1 ≤ used) → blocks_for (504 * m + used) ≡ suc m
unfolding blocks_for
count_is m used most some = go (504 * m + used) refl
  where
    go : (l : ℕ) → 504 * m + used ≡ l → blocks_for l ≡ suc m
    go zero e = omega arith
    go (suc l) e =
        ⊎_elim
        (λ (none : 0 ≡ m). omega arith)
        (λ (more : 0 < m). omega (arith, some more))
        (eq-or-lt_of_le (omega arith))

module _ (n m : ℕ) (p : ℕ → Part) (d : Described n p) (last : suc m ≡ n) where
  abbrev data_of : ℕ → List ℕ
  data_of i = take (p i).0 (p i).1

  abbrev job : List ℕ
  job = their_job n p

  most : (i : ℕ) → i < n → (p i).0 ≤ 504
  most i h = used_most (eqb n 1) (eqb (suc i) n) (p i).0 (d i h).1

  data_length : (i : ℕ) → i < n → length (data_of i) ≡ (p i).0
  data_length i h = length-take-le (p i).0 (p i).1 (rw (d i h).0 (most i h))

  -- the parts before the last are full
  full_length : (i : ℕ) → i < m → length (data_of i) ≡ 504
  full_length i h =
      data_length i (omega arith)
      ∙ used_full (eqb n 1) (eqb (suc i) n) (p i).0 (ne_eqb (suc i) n (λ e. omega arith)) (d i (omega arith)).1

  front_length : length (joined data_of m) ≡ 504 * m
  front_length = length-joined 504 data_of 0 m (λ i low h. full_length i (omega arith))

  job_is : job ≡ joined data_of m ++ data_of m
  job_is = ap (joined data_of) (sym last) ∙ joined-more data_of m

  job_length : length job ≡ 504 * m + (p m).0
  job_length =
      ap length job_is
      ∙ length-append (joined data_of m) (data_of m)
      ∙ (λ i. front_length i + data_length m (omega arith) i)

  job_count : blocks_for (length job) ≡ n
  job_count =
      ap blocks_for job_length
      ∙ count_is m (p m).0 (most m (omega arith))
      (λ more. used_some (eqb n 1) (eqb (suc m) n) (p m).0 (ne_eqb n 1 (λ e. omega arith)) (eq-eqb (suc m) n last) (d m (omega arith)).1)
      ∙ last

  -- 504 bytes of the job cut out at a part's place are the part's
  cut-early : (i : ℕ) → i < m → take 504 (drop (504 * i) job) ≡ data_of i
  cut-early i h =
      let front = joined data_of m in
      let long : 504 ≤ length (drop (504 * i) front) = rw (length-drop (504 * i) front, front_length) (omega arith) in
      ap (λ l. take 504 (drop (504 * i) l)) job_is
      ∙ ap (take 504) (drop-append-le (504 * i) front (data_of m) (omega (arith, front_length)))
      ∙ take-append-le 504 (drop (504 * i) front) (data_of m) long
      ∙ cut_out 504 data_of 0 m (λ j low high. full_length j (omega arith)) i h
      ∙ ap data_of (zero-add i)

  cut-last : take 504 (drop (504 * m) job) ≡ data_of m
  cut-last =
      ap (λ l. take 504 (drop (504 * m) l)) job_is
      ∙ ap (take 504) (drop_at (joined data_of m) (data_of m) (504 * m) front_length)
      ∙ take_all 504 (data_of m) (rw (data_length m (omega arith)) (most m (omega arith)))

  cut-part : (i : ℕ) → i < n → take 504 (drop (504 * i) job) ≡ data_of i
  cut-part i h =
      ⊎_elim
      (λ (e : suc i ≡ n).
      let is : i ≡ m = omega arith in
      ap (λ j. take 504 (drop (504 * j) job)) is ∙ cut-last ∙ ap data_of (sym is))
      (λ (more : suc i < n). cut-early i (omega arith))
      (eq-or-lt_of_le h)

  -- what stands behind them is zeros
  padded : (i : ℕ) → i < n → data_of i ++ replicate (504 - (p i).0) 0 ≡ (p i).1
  padded i h =
      let rest = drop (p i).0 (p i).1 in
      let size : length rest ≡ 504 - (p i).0 = length-drop (p i).0 (p i).1 ∙ ap (λ l. l - (p i).0) (d i h).0 in
      ap (λ l. data_of i ++ l) (ap (λ k. replicate k 0) (sym size) ∙ sym (zeros-are rest (d i h).2)) ∙ take-append-drop (p i).0 (p i).1

  part_is : (i : ℕ) → i < n → written_part job i ≡ p i
  part_is i h =
      ap (λ (l : List ℕ). (length l, l ++ replicate (504 - length l) 0)) (cut-part i h)
      ∙ (λ j. (data_length i h j, data_of i ++ replicate (504 - data_length i h j) 0))
      ∙ (λ j. ((p i).0, padded i h j))

  pub written-again : their_file (blocks_for (length job)) (written_part job) ≡ their_file n p
  written-again =
      rw job_count
      (ap concat
      (from-same (λ i. block i (written_part job i).0 (written_part job i).1) (λ i. block i (p i).0 (p i).1) 0 n
      (λ i low high. ap (λ (q : Part). block i q.0 q.1) (part_is i (omega arith)))))
