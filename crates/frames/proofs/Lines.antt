-- Words put into a text (specs/Line.antt). Assumes nothing.
use mathlib.Core.List.{List, [], ◌∷◌}
use mathlib.Core.Path.{◌≡◌, refl, sym, ap, ◌∙◌}
use Prim.Native.Nat.{ℕ, ◌+◌, ◌≤◌, ◌<◌}
use native.Mathlib.Omega.{arith}
use lib.ListN.{length}
use lib.Seq.{paste}
use borrow.Author.Tests.{le-leb, lt-leb}
use Rattle.definition.specs.Basics.{concat}
use Rattle.definition.specs.Ascii.{hex}
use Rattle.printing.specs.Printed.{Printed}
use Rattle.printing.specs.Numbers.{hex_of}
use Rattle.frames.specs.Line.{put}

-- a word that fits is copied
pub put_whole :
    (text : List ℕ) (at : ℕ) (word after : List ℕ) → at + length word ≤ length text → after ≡ paste text at word (length word)
    → (after, at + length word) ≡ put (text, at) word
unfolding put
put_whole text at word after h is = rw (le-leb (at + length word) (length text) h, put) (λ i. (is i, at + length word))

-- of a word that doesn't fit nothing is written
pub put-none :
    (text : List ℕ) (at : ℕ) (word : List ℕ) → length text < at + length word → (text, length text + 1) ≡ put (text, at) word
unfolding put
put-none text at word h = rw (lt-leb (at + length word) (length text) h, put) refl

-- a word that doesn't fit ends past the text
pub put-past :
    (text : List ℕ) (at : ℕ) (word after : List ℕ) (r : ℕ) → (after, r) ≡ put (text, at) word → length text < at + length word
    → length after < r
put-past text at word after r is h =
    let line = is ∙ sym (put-none text at word h) in
    omega (arith, ap (λ l. length l.0) line, ap (λ l. l.1) line)

-- two hex digits in a text of two bytes are all of it
pub two_digits : (b : ℕ) (after : List ℕ) (r : ℕ) → Printed (0 ∷ 0 ∷ []) 2 0 (hex_of 2 b) after r → after ≡ hex (b ∷ [])
unfolding hex hex_of concat
two_digits b after r p = p.out (omega arith)
