-- The six ends of reading a file. Assumes nothing.
use mathlib.Core.Path.{◌≡◌, sym, ap, ◌∙◌}
use mathlib.Core.Bool.{true, false, ◌&&◌}
use mathlib.Core.List.{List}
use Prim.Native.Nat.{ℕ, zero, suc, ◌-◌, ◌/◌, ◌%◌, ◌<◌, ◌≤◌}
use native.Mathlib.Nat.{sub-zero, sub_self, le_refl, pos_of_ne-zero}
use native.Mathlib.Omega.{arith}
use borrow.Author.Tests.{lt-ltb, le-ltb, le-leb, lt-leb, eq-eqb, ne_eqb}
use lib.Dec.{eqb, leb, ltb}
use lib.ListN.{length}
use Rattle.definition.specs.Basics.{Result, good, bad, Refusal, ◌>>=◌, at_record, unless}
use Rattle.definition.specs.Run.{longest_job}
use Rattle.definition.specs.Blocks.{block_count, right_block, blocks_right, most_blocks, read_blocks}
use Rattle.facts.proofs.Lists.{and-false}
use Rattle.facts.proofs.Chunks.{joined}
use Rattle.facts.proofs.Results.{passes, refuses}
use Rattle.blocks.specs.File.{data_of, RightBelow}

-- the definition's walk over the blocks: past those that are right, to its end or to one that isn't
module _ (n : ℕ) (file : List ℕ) where
  walk :
      (k : ℕ) → k < n →
      blocks_right n file (n - k) k ≡ (at_record k (unless (right_block n file k) 19) >>= λ _. blocks_right n file (n - suc k) (suc k))
  unfolding blocks_right
  walk k inside =
      let left : n - k ≡ suc (n - suc k) = omega arith in
      ap (λ l. blocks_right n file l k) left

  skipped : (k : ℕ) → k ≤ n → RightBelow n file k → blocks_right n file n 0 ≡ blocks_right n file (n - k) k
  skipped zero inside rights = ap (λ l. blocks_right n file l 0) (sym (sub-zero n))
  skipped (suc k) inside rights =
      skipped k (omega arith) (λ j h. rights j (omega arith))
      ∙ walk k inside
      ∙ passes k 19 (blocks_right n file (n - suc k) (suc k)) (right_block n file k) (rights k (omega arith))

  pub all_right : RightBelow n file n → blocks_right n file n 0 ≡ good tt
  unfolding blocks_right
  all_right rights = skipped n (le_refl n) rights ∙ ap (λ l. blocks_right n file l n) (sub_self n)

  pub one-wrong :
      (k : ℕ) → k < n → RightBelow n file k → right_block n file k ≡ false →
      blocks_right n file n 0 ≡ bad (record { code = 19; place = k })
  one-wrong k inside rights wrong =
      skipped k (omega arith) rights
      ∙ walk k inside
      ∙ refuses k 19 (blocks_right n file (n - suc k) (suc k)) (right_block n file k) wrong

module _ (room : ℕ) (file : List ℕ) where
  pub read_empty : length file ≡ 0 → read_blocks room file ≡ bad (record { code = 20; place = 0 })
  unfolding read_blocks
  read_empty empty =
      refuses 0 20 _ (ltb 0 (length file) && eqb (length file % 512) 0)
      (ap (λ t. t && eqb (length file % 512) 0) (le-ltb 0 (length file) (omega arith)))

  pub read_odd : (length file % 512 ≡ 0 → ⊥) → read_blocks room file ≡ bad (record { code = 20; place = 0 })
  unfolding read_blocks
  read_odd odd =
      refuses 0 20 _ (ltb 0 (length file) && eqb (length file % 512) 0)
      (ap (λ t. ltb 0 (length file) && t) (ne_eqb (length file % 512) 0 odd) ∙ and-false (ltb 0 (length file)))

  -- a file of blocks
  module _ (some : length file ≡ 0 → ⊥) (whole : length file % 512 ≡ 0) where
    is_blocks : (ltb 0 (length file) && eqb (length file % 512) 0) ≡ true
    is_blocks = rw (lt-ltb 0 (length file) (pos_of_ne-zero some), eq-eqb (length file % 512) 0 whole)

    pub read_many : most_blocks < length file / 512 → read_blocks room file ≡ bad (record { code = 1; place = 0 })
    unfolding read_blocks block_count
    read_many many =
        passes 0 20 _ (ltb 0 (length file) && eqb (length file % 512) 0) is_blocks
        ∙ refuses 0 1 _ (leb (length file / 512) most_blocks) (lt-leb (length file / 512) most_blocks many)

    -- not too many blocks
    module _ (few : length file / 512 ≤ most_blocks) where
      job : List ℕ
      job = joined (data_of file) (length file / 512)

      -- what is left once the blocks are right
      sized : Result Refusal (List ℕ)
      sized =
          at_record 0 (unless (leb (length job) longest_job) 1) >>= λ _.
          at_record 0 (unless (leb (length job) room) 18) >>= λ _. good job

      opened : read_blocks room file ≡ (blocks_right (length file / 512) file (length file / 512) 0 >>= λ _. sized)
      unfolding read_blocks block_count sized job
      opened =
          passes 0 20 _ (ltb 0 (length file) && eqb (length file % 512) 0) is_blocks
          ∙ passes 0 1 _ (leb (length file / 512) most_blocks) (le-leb (length file / 512) most_blocks few)

      pub read_wrong :
          (k : ℕ) → k < length file / 512 → RightBelow (length file / 512) file k →
          right_block (length file / 512) file k ≡ false → read_blocks room file ≡ bad (record { code = 19; place = k })
      read_wrong k inside rights wrong =
          opened ∙ ap (λ r. r >>= λ _. sized) (one-wrong (length file / 512) file k inside rights wrong)

      -- every block is right, and the job as long as `size`
      module _ (rights : RightBelow (length file / 512) file (length file / 512)) (size : ℕ)
          (length-is : length (joined (data_of file) (length file / 512)) ≡ size) where
        right : read_blocks room file ≡ sized
        right = opened ∙ ap (λ r. r >>= λ _. sized) (all_right (length file / 512) file rights)

        pub read_long : longest_job < size → read_blocks room file ≡ bad (record { code = 1; place = 0 })
        unfolding sized job
        read_long long = right ∙ refuses 0 1 _ (leb (length job) longest_job) (lt-leb (length job) longest_job (omega arith))

        pub read_narrow_lem : size ≤ longest_job → room < size → read_blocks room file ≡ bad (record { code = 18; place = 0 })
        unfolding sized job
        read_narrow_lem short narrow =
            right
            ∙ passes 0 1 _ (leb (length job) longest_job) (le-leb (length job) longest_job (omega arith))
            ∙ refuses 0 18 _ (leb (length job) room) (lt-leb (length job) room (omega arith))

        pub read_good : size ≤ longest_job → size ≤ room → read_blocks room file ≡ good (joined (data_of file) (length file / 512))
        unfolding sized job
        read_good short fits =
            right
            ∙ passes 0 1 _ (leb (length job) longest_job) (le-leb (length job) longest_job (omega arith))
            ∙ passes 0 18 _ (leb (length job) room) (le-leb (length job) room (omega arith))
