-- Two decided points (docs/DECISIONS.md, 11 and 12) and the sizes of lent memory, at their smallest jobs: they show in lent memory and
-- in the program alone. Assumes nothing.
use mathlib.Core.List.{[], ◌∷◌, map}
use mathlib.Core.Path.{◌≡◌, refl}
use Prim.Native.Nat.{ℕ}
use lib.ListN.{replicate}
use Rattle.definition.specs.Ascii.{ascii}
use Rattle.definition.specs.Blocks.{poolrun}
use Rattle.definition.specs.Run.{Lent, Memory, run, lent_of, memory_after, refusal_of, returned}
use Rattle.definition.specs.Opened.{opened}
use Rattle.definition.specs.Starred.{bytes, digit}

-- 11: 2,561 bytes are refused 1, though they are no multiple of 512; 2,559 bytes are refused 20
pub too_long_first : poolrun (replicate 2561 0) ≡ ascii "refused 1 0\n"
unfolding opened
too_long_first = refl

pub then_no_multiple : poolrun (replicate 2559 0) ≡ ascii "refused 20 0\n"
unfolding opened
then_no_multiple = refl

-- memory of a size, full of leftovers
unfoldable pub leftovers : ℕ → ℕ → ℕ → Memory
leftovers work gaps outputs =
    record {
      work = replicate work 7;
      gaps = replicate gaps (record { first = 7; last = 7 });
      answers = replicate outputs 7;
      marks = replicate outputs 7;
      pool = replicate outputs 7;
      bootstraps = replicate outputs 7;
      class = replicate outputs 7;
    }

-- 12: the empty job is refused 3; work and gaps past the least size are zero too, and no output is written
pub wholly_zero :
    memory_after (run (lent_of (leftovers 1030 9 2)) []) (leftovers 1030 9 2)
    ≡ record {
      work = replicate 1030 0;
      gaps = replicate 9 (record { first = 0; last = 0 });
      answers = replicate 2 7;
      marks = replicate 2 7;
      pool = replicate 2 7;
      bootstraps = replicate 2 7;
      class = replicate 2 7;
    }
unfolding opened leftovers
wholly_zero = refl

-- refusal 2: one word short, the same job is refused 2, and nothing is touched
pub untouched_when_short : memory_after (run (lent_of (leftovers 1023 9 2)) []) (leftovers 1023 9 2) ≡ leftovers 1023 9 2
unfolding opened leftovers
untouched_when_short = refl

-- 12: a class name of no bytes needs no room (case h, Class of raw 9)
pub no_room_for_nothing :
    returned (λ b. b.visits) (run (record { work = 2048; gaps = 9; answers = 1; marks = 1; pool = 5; bootstraps = 0; class = 0 }) (bytes "0700000950510100006002010000")) ≡ 3
unfolding opened bytes digit
no_room_for_nothing = refl

-- work of 6 x job bytes + 1,024 words, job bytes / 5 + 2 gaps and the pool's length are enough for an empty pool; with one less of work or
-- gaps it is refused 2, of the pool 18 at record 60
unfoldable pub six_bytes : ℕ → ℕ → ℕ → Lent
six_bytes work gaps pool = record { work = work; gaps = gaps; answers = 0; marks = 0; pool = pool; bootstraps = 0; class = 0 }

pub short_by_one :
    map (λ lent. refusal_of (run lent (bytes "506002000000"))) (six_bytes 1060 3 2 ∷ six_bytes 1059 3 2 ∷ six_bytes 1060 2 2 ∷ six_bytes 1060 3 1 ∷ [])
    ≡ record { code = 0; place = 0 }
    ∷ record { code = 2; place = 0 }
    ∷ record { code = 2; place = 0 }
    ∷ record { code = 18; place = 1 }
    ∷ []
unfolding opened bytes digit six_bytes
short_by_one = refl
