-- `frames::writing::Line::put_decimal` meets its contract. Assumes nothing.
use Rattle.std.proofs.Common.{ap, ◌∙◌}
use Rattle.printing.proofs.Decimals.{decimal-is}
use Rattle.frames.specs.Line.{standing, put}
use Rattle.frames.proofs.writing.Line.put_decimal.Goals as goal

pub returns-clause-digits : goal.returns-clause-digits
returns-clause-digits c = let a = c.args in
    let d = c.decimal-k in
    c.put_word.ensures.word ∙ ap (put (standing a.self.now)) (d.ensures.digits ∙ decimal-is d.result a.n d.ensures.len)
