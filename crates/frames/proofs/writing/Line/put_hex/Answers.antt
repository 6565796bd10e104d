-- `frames::writing::Line::put_hex` meets its contract. Assumes nothing.
use mathlib.Core.Path.{ap, ◌∙◌}
use Rattle.frames.specs.Line.{standing, put}
use Rattle.frames.proofs.writing.Line.put_hex.Goals as goal

pub returns-clause-digits : goal.returns-clause-digits
returns-clause-digits c = c.put_word.ensures.word ∙ ap (put (standing c.args.self.now)) c.two_digits.ensures
