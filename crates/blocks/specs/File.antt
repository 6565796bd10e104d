-- Names for what reading a file goes by. Assumes nothing.
use Rattle.std.specs.Prelude.{◌≡◌, true, false, List, ℕ, ◌<◌}
use Rattle.definition.specs.Blocks.{block_at, block_data, right_block}

-- the used bytes of block k, as the definition joins them
abbrev pub data_of : List ℕ → ℕ → List ℕ
data_of file k = block_data (block_at file k)

-- of a file of n blocks those before k are right
abbrev pub RightBelow : ℕ → List ℕ → ℕ → Type 0
RightBelow n file k = (j : ℕ) → j < k → right_block n file j ≡ true

-- k is the first of the n that isn't right
pub record FirstWrong (n : ℕ) (file : List ℕ) (k : ℕ) : Type 0 where
  pub inside : k < n
  pub before : RightBelow n file k
  pub wrong : right_block n file k ≡ false
