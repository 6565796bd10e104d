-- Block files put together by hand, with their checks worked out from document 01: how they are written and read. Assumes nothing.
use mathlib.Core.List.{List, [], ◌∷◌, ◌++◌, map}
use mathlib.Core.Path.{◌≡◌, refl}
use Prim.Native.Nat.{ℕ}
use lib.ListN.{replicate}
use Rattle.definition.specs.Basics.{Result, good, bad, Refusal}
use Rattle.definition.specs.Blocks.{most_blocks, read_blocks, blocks_for, write_blocks}
use Rattle.definition.specs.Run.{longest_job}
use Rattle.definition.specs.Opened.{opened}

-- a block full of sevens, and one whose number, use and check are given and which has one seven
unfoldable pub sevens : List ℕ
sevens = (0 ∷ 0 ∷ 1 ∷ 0xf8 ∷ []) ++ replicate 504 7 ++ (0 ∷ 0x0d ∷ 0xd2 ∷ 0xc7 ∷ [])

unfoldable pub one_seven : ℕ → ℕ → ℕ → List ℕ
one_seven number used check = (0 ∷ number ∷ 0 ∷ used ∷ 7 ∷ []) ++ replicate 503 0 ++ (0 ∷ 0 ∷ 0 ∷ check ∷ [])

-- block 1 with nothing in it, and with one seven and old memory behind it
unfoldable pub nothing : List ℕ
nothing = (0 ∷ 1 ∷ []) ++ replicate 506 0 ++ (0 ∷ 0 ∷ 0 ∷ 2 ∷ [])

unfoldable pub old_memory : List ℕ
old_memory = (0 ∷ 1 ∷ 0 ∷ 1 ∷ 7 ∷ 9 ∷ []) ++ replicate 502 0 ++ (0 ∷ 0 ∷ 0 ∷ 95 ∷ [])

unfoldable pub refused : ℕ → ℕ → Result Refusal (List ℕ)
refused code place = bad (record { code = code; place = place })

-- a job of 505 bytes is two blocks, written and read; a byte less of room is refused 18
pub two_blocks :
    (write_blocks 1024 (replicate 505 7) ≡ good (sevens ++ one_seven 1 1 41))
    × (read_blocks 505 (sevens ++ one_seven 1 1 41) ≡ good (replicate 505 7))
    × (write_blocks 1023 (replicate 505 7) ≡ refused 18 0)
    × (read_blocks 504 (sevens ++ one_seven 1 1 41) ≡ refused 18 0)
unfolding opened sevens one_seven refused
two_blocks = (refl, refl, refl, refl)

-- one of 504 bytes is one block, and so is the empty job
pub one_block :
    (write_blocks 512 (replicate 504 7) ≡ good sevens)
    × (read_blocks 504 sevens ≡ good (replicate 504 7))
    × (write_blocks 512 [] ≡ good (replicate 512 0))
    × (read_blocks 0 (replicate 512 0) ≡ good [])
unfolding opened sevens refused
one_block = (refl, refl, refl, refl)

-- 19 at the block: a wrong check, a wrong number, use 0 of two blocks, padding that isn't zero, one before the last that isn't full
pub wrong_blocks :
    map
    (read_blocks 1024)
    ((sevens ++ one_seven 1 1 42)
    ∷ (sevens ++ one_seven 2 1 43)
    ∷ (sevens ++ nothing)
    ∷ (sevens ++ old_memory)
    ∷ (one_seven 0 1 39 ++ one_seven 1 1 41)
    ∷ [])
    ≡ refused 19 1 ∷ refused 19 1 ∷ refused 19 1 ∷ refused 19 1 ∷ refused 19 0 ∷ []
unfolding opened sevens one_seven nothing old_memory refused
wrong_blocks = refl

-- 20: no bytes, and a byte too few, though the check is wrong as well
pub no_blocks : map (read_blocks 1024) ([] ∷ replicate 511 7 ∷ []) ≡ refused 20 0 ∷ refused 20 0 ∷ []
unfolding opened refused
no_blocks = refl

-- the longest job takes the most blocks that are read
pub most_needed : blocks_for longest_job ≡ most_blocks
unfolding opened
most_needed = refl
