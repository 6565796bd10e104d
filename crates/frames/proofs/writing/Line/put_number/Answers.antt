-- `frames::writing::Line::put_number` meets its contract. Assumes nothing.
use mathlib.Core.Path.{ap, ◌∙◌}
use Rattle.definition.specs.Ascii.{ascii, decimal}
use Rattle.frames.specs.Line.{put}
use Rattle.frames.proofs.writing.Line.put_number.Goals as goal

pub returns-clause-number : goal.returns-clause-number
unfolding ascii
returns-clause-number c = let n = c.args.n in
    c.put_decimal.ensures.digits ∙ ap (λ l. put l (decimal n)) c.put_word.ensures.word
