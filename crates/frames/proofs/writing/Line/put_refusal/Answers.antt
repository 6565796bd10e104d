-- `frames::writing::Line::put_refusal` meets its contract. Assumes nothing.
use mathlib.Core.Path.{ap, ◌∙◌}
use Rattle.definition.specs.Ascii.{ascii}
use Rattle.frames.specs.Line.{put_number}
use Rattle.frames.proofs.writing.Line.put_refusal.Goals as goal

pub returns-clause-code : goal.returns-clause-code
unfolding ascii
returns-clause-code c = let code = c.args.code in
    c.put_number.ensures.number ∙ ap (λ l. put_number l code) c.put_word.ensures.word
