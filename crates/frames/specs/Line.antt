-- Words put into a text one behind the other, each whole or not at all. Assumes nothing.
use Rattle.std.specs.Prelude.{true, false, List, ℕ, ◌+◌, leb, length}
use Rattle.std.proofs.Math.Seq.{paste}
use Rattle.definition.specs.Ascii.{ascii, decimal}
use Rattle.frames.specs.declared.writing.Line as code

-- a text, and the place in it where the next word begins
abbrev pub Line : Type 0
Line = List ℕ × ℕ

-- what stands in the buffer of a line of the code
abbrev pub standing : code.Line → Line
standing line = (line.text.now, line.at)

-- a word is written at its place; where it would reach past the text nothing is written, and the next place is one past the text's end
unfoldable pub put : Line → List ℕ → Line
put (text, at) word =
    elim (leb (at + length word) (length text)) [
      | true ↦ (paste text at word (length word), at + length word)
      | false ↦ (text, length text + 1)
    ]

-- a space, and a number's decimal digits
abbrev pub put_number : Line → ℕ → Line
put_number line n = put (put line (ascii " ")) (decimal n)
