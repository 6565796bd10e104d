-- What it is to put texts into a buffer one behind the other. Assumes nothing.
use Rattle.std.specs.Prelude.{List, [], ◌∷◌, ◌++◌, ◌≡◌, ℕ, ◌+◌, ◌/◌, ◌%◌, ◌≤◌, length, take, drop}
use Rattle.definition.specs.Ascii.{hex_digit}
use Rattle.poolrun_text.specs.declared.page.Page.{Page}

-- text stands behind the first `at` bytes of a buffer and ends at r; the bytes before it and behind it stay as they were
pub record Behind (before after : List ℕ) (at r : ℕ) (text : List ℕ) : Type 0 where
  pub end_is : r ≡ at + length text
  pub text_is : take r after ≡ take at before ++ text
  pub rest_is : drop r after ≡ drop r before

-- n bytes fit behind what a page has
abbrev pub HasRoom : Page → ℕ → Type 0
HasRoom page n = page.at + n ≤ length page.out.now

-- text is put behind what a page has
pub record Prints (before after : Page) (text : List ℕ) : Type 0 where
  pub same_buffer : after.out.ghost_name ≡ before.out.ghost_name
  pub same_room : length after.out.now ≡ length before.out.now
  pub behind : Behind before.out.now after.out.now before.at after.at text

-- a byte in hex
unfoldable pub two_digits_lem : ℕ → List ℕ
two_digits_lem b = hex_digit (b / 16 % 16) ∷ hex_digit (b % 16) ∷ []
