-- The regions of a well-formed job take at most 6 words for each of its bytes, and 1,024 more. Assumes nothing.
use mathlib.Core.List.{List}
use mathlib.Core.Path.{◌≡◌}
use Prim.Native.Nat.{ℕ, ◌+◌, ◌*◌, ◌/◌, ◌≤◌}
use native.Mathlib.Omega.{arith}
use lib.ListN.{length, get_or}
use Rattle.job.specs.declared.JobCounts.{JobCounts}
use Rattle.job.specs.Forms.{counts_of}
use Rattle.store.specs.JobIn.{WellFormed, counts_in}
use Rattle.store.specs.Regions.{places_of, sizes_for}
use Rattle.store.proofs.Lengths.{words_for}
use Rattle.store.proofs.Bounds.{standing}

-- where the last region ends
pub end_is : (c : JobCounts) (bytes : ℕ) → get_or (places_of 0 (sizes_for c bytes)) 32 0 ≡ words_for c + 2 * c.requests + 31 + bytes / 3
unfolding places_of sizes_for words_for
end_is c bytes = omega arith

pub room : (s : List ℕ) → WellFormed s → get_or (places_of 0 (sizes_for (counts_in s) (length s))) 32 0 ≤ 6 * length s + 1024
unfolding counts_in counts_of words_for
room s h = let t = standing s h in omega (arith, end_is (counts_in s) (length s), t.enough.words, t.asked)
