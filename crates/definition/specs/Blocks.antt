-- The block file and the program (document 01, "The block file and the program"). Assumes nothing.
use Rattle.std.specs.Prelude.{Bool, true, false, ◌&&◌, ◌||◌, List, [], ◌∷◌, ◌++◌, map, ℕ, zero, suc, ◌+◌, ◌*◌, ◌-◌, ◌/◌, ◌%◌, eqb, leb, ltb, length, take, drop, get_or, replicate}
use Rattle.std.proofs.Math.Option.{Option, none, some}
use Rattle.definition.specs.Basics.{Result, good, bad, ◌>>=◌, Refusal, at_record, unless, same, every, concat, from}
use Rattle.definition.specs.Bytes.{be2, be4}
use Rattle.definition.specs.Ascii.{ascii, decimal, hex}
use Rattle.definition.specs.Run.{Built, Lent, longest_job, run, overwrite}

-- the sum over the bytes of (position + 1) x byte, from a position on
unfoldable pub weighted : ℕ → List ℕ → ℕ
weighted at [] = 0
weighted at (b ∷ bytes) = suc at * b + weighted (suc at) bytes

-- a block: number, use and 504 bytes, then their sum in four bytes
unfoldable pub block : ℕ → ℕ → List ℕ → List ℕ
block number used content =
    let front = be2 number ++ be2 used ++ content in
    front ++ be4 (weighted 0 front)

-- how many blocks a file has, and block k of it
unfoldable pub block_count : List ℕ → ℕ
block_count file = length file / 512

unfoldable pub block_at : List ℕ → ℕ → List ℕ
block_at file k = take 512 (drop (512 * k) file)

unfoldable pub used_in : List ℕ → ℕ
used_in b = 256 * get_or b 2 0 + get_or b 3 0

-- all but the last use 504; the last uses 1 to 504, and 0 only if it is the only one
unfoldable pub right_use : Bool → Bool → ℕ → Bool
right_use only false used = eqb used 504
right_use only true used = leb used 504 && (only || leb 1 used)

-- the unused bytes of a block: those of its 504 behind the used ones
unfoldable pub padding : List ℕ → List ℕ
padding b = drop (used_in b) (take 504 (drop 4 b))

unfoldable pub all_zero : List ℕ → Bool
all_zero bytes = every (λ b. eqb b 0) bytes

-- block k of n is right: its check, its number, its use, and then its padding, which must be zero
unfoldable pub right_block : ℕ → List ℕ → ℕ → Bool
right_block n file k =
    let b = block_at file k in
    same (drop 508 b) (be4 (weighted 0 (take 508 b)))
    && (same (take 2 b) (be2 k) && (right_use (eqb n 1) (eqb (suc k) n) (used_in b) && all_zero (padding b)))

-- 19 for the first block, from k on, that isn't right
unfoldable pub blocks_right : ℕ → List ℕ → ℕ → ℕ → Result Refusal (Unit {0})
blocks_right n file zero k = good tt
blocks_right n file (suc left) k = at_record k (unless (right_block n file k) 19) >>= λ _. blocks_right n file left (suc k)

-- the used bytes of a block
unfoldable pub block_data : List ℕ → List ℕ
block_data b = take (used_in b) (drop 4 b)

-- the most blocks that a job can take
abbrev pub most_blocks : ℕ
most_blocks = 2081

-- reading a file into an output of `room` bytes: the job, or 20, 1, 19, 1, 18
unfoldable pub read_blocks : ℕ → List ℕ → Result Refusal (List ℕ)
read_blocks room file = do
  let n = block_count file
  _ ← at_record 0 (unless (ltb 0 (length file) && eqb (length file % 512) 0) 20)
  _ ← at_record 0 (unless (leb n most_blocks) 1)
  _ ← blocks_right n file n 0
  let job = concat (from (λ k. block_data (block_at file k)) 0 n)
  _ ← at_record 0 (unless (leb (length job) longest_job) 1)
  _ ← at_record 0 (unless (leb (length job) room) 18)
  good job

-- how many blocks a job takes: one for the empty job
unfoldable pub blocks_for : ℕ → ℕ
blocks_for zero = 1
blocks_for (suc n) = suc (n / 504)

-- block k of a job's file: up to 504 bytes of the job, padded with zeros
unfoldable pub written_block : List ℕ → ℕ → List ℕ
written_block job k =
    let part = take 504 (drop (504 * k) job) in
    block k (length part) (part ++ replicate (504 - length part) 0)

-- writing a job into an output of `room` bytes: the file, or 1, then 18
unfoldable pub write_blocks : ℕ → List ℕ → Result Refusal (List ℕ)
write_blocks room job = do
  _ ← at_record 0 (unless (leb (length job) longest_job) 1)
  let n = blocks_for (length job)
  _ ← at_record 0 (unless (leb (512 * n) room) 18)
  good (concat (from (written_block job) 0 n))

-- the output of either afterwards: a prefix is written, and a refusal doesn't touch it
unfoldable pub blocks_after : Result Refusal (List ℕ) → List ℕ → List ℕ
blocks_after (bad r) before = before
blocks_after (good new) before = overwrite new before

-- a line of text
unfoldable pub line : List ℕ → List ℕ
line s = s ++ 10 ∷ []

-- `none` with no line after it, or the class name's length and hex
unfoldable pub class_text : Option (List ℕ) → List ℕ
class_text none = line (ascii "class none")
class_text (some s) = line (ascii "class " ++ decimal (length s)) ++ line (hex s)

-- an answer's line: its slot and its mark
unfoldable pub mark_text : ℕ → List ℕ
mark_text zero = ascii " raw"
mark_text (suc zero) = ascii " new"
mark_text (suc (suc n)) = ascii " old"

unfoldable pub answer_lines : List ℕ → List ℕ → List ℕ
answer_lines [] marks = []
answer_lines (a ∷ answers) [] = line (decimal a) ++ answer_lines answers []
answer_lines (a ∷ answers) (m ∷ marks) = line (decimal a ++ mark_text m) ++ answer_lines answers marks

-- what the program prints
unfoldable pub printed : Result Refusal Built → List ℕ
printed (bad r) = line (ascii "refused " ++ decimal r.code ++ 32 ∷ decimal r.place)
printed (good b) =
    line (ascii "answers " ++ decimal (length b.answers))
    ++ answer_lines b.answers b.marks
    ++ line (ascii "pool " ++ decimal (length b.pool))
    ++ line (hex b.pool)
    ++ line (ascii "bootstraps " ++ decimal b.bootstrap_count ++ 32 ∷ decimal (length b.bootstraps))
    ++ line (hex b.bootstraps)
    ++ line (ascii "name " ++ decimal b.name)
    ++ class_text b.class
    ++ line (ascii "visits " ++ decimal b.visits)

-- the program lends 65,536 bytes for each output, and work enough
unfoldable pub poolrun_lent : Lent
poolrun_lent =
    record { work = 6 * 2560 + 1024; gaps = 2560 / 5 + 2; answers = 32768; marks = 65536; pool = 65536; bootstraps = 65536; class = 65536 }

-- the program: a file of at most 2,560 bytes, else 1
unfoldable pub poolrun : List ℕ → List ℕ
poolrun file =
    printed
    (at_record 0 (unless (leb (length file) 2560) 1) >>= λ _. read_blocks longest_job file >>= λ job. run poolrun_lent job)
