-- How frames end, and what is known of bytes that are read, whatever the stream holds. Assumes nothing.
use Rattle.std.specs.Prelude.{Bool, true, false, List, ◌≡◌, ℕ, ◌≤◌, ◌<◌, length, drop, Option, Some, None, Result, Ok, Err}
use Rattle.frames.specs.declared.reading.ReadError.{ReadError}
use Rattle.frames.specs.declared.reading.ReadError.TheVariants.{Ended, Cut, Failed}
use Rattle.frames.specs.declared.ends.End.{End}
use Rattle.frames.specs.declared.ends.End.TheVariants as ends

-- what a block's length is where the stream ends before it
abbrev pub no_more : ℕ
no_more = 4294967296

-- what it is where the stream ends inside the block or its length, or where the block is longer than its room
abbrev pub cut : ℕ
cut = 4294967297

-- what it is where the block is longer than its room and was skipped
abbrev pub too_long_lem : ℕ
too_long_lem = 4294967298

-- these lengths of what the code answers; of a read that failed nothing is known, as of a block that is cut
abbrev pub error_size : ReadError → ℕ
error_size Ended = no_more
error_size Cut = cut
error_size (Failed error) = cut

abbrev pub size_of : Result ℕ ReadError → ℕ
size_of (Ok n) = n
size_of (Err error) = error_size error

abbrev pub skipped_of : Result (Option ℕ) ReadError → ℕ
skipped_of (Ok (Some n)) = n
skipped_of (Ok None) = too_long_lem
skipped_of (Err error) = error_size error

-- inside a frame a stream that ends is cut
abbrev pub inside_frame : ReadError → ReadError
inside_frame Ended = Cut
inside_frame Cut = Cut
inside_frame (Failed error) = Failed error

-- how a stream ends whose next bytes aren't there
abbrev pub end_of : ReadError → End
end_of Ended = ends.Whole
end_of Cut = ends.Cut
end_of (Failed error) = ends.ReadFailed

-- whether all of the first n bytes came that were to be read: no other byte changed, and none where there are fewer; of no bytes all come
pub record PartRead (before : List ℕ) (n : ℕ) (after : List ℕ) (all : Bool) : Type 0 where
  pub behind : drop n after ≡ drop n before
  pub fewer : length before < n → (all ≡ false) × (after ≡ before)
  pub nothing : n ≡ 0 → all ≡ true

-- a block of r bytes was read into the beginning, or the stream ends and nothing changed, or it is cut
pub record BlockRead (before after : List ℕ) (r : ℕ) : Type 0 where
  pub whole : r < no_more → (r ≤ length before) × (drop r after ≡ drop r before)
  pub ended : r ≡ no_more → after ≡ before
  pub most : r ≤ cut
