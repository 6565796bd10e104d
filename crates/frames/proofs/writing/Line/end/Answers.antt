-- `frames::writing::Line::end` meets its contract. Assumes nothing.
use Rattle.std.proofs.Common.{ap, arith, [], ◌∷◌}
use Rattle.definition.specs.Ascii.{ascii}
use Rattle.frames.proofs.Lines.{put-past}
use Rattle.frames.proofs.writing.Line.end.Goals as goal

pub returns-clause-line : goal.returns-clause-line
unfolding ascii
returns-clause-line g c = ap (λ l. (l.0, 0)) c.put_word.ensures.word

pub returns-clause-unfit : goal.returns-clause-unfit
unfolding ascii
returns-clause-unfit g c = λ h. let line = c.args.self.now in
    let w = c.put_word in
    c.write-written.ensures (put-past line.text.now line.at (0x0a ∷ []) w.new.self.text.now w.new.self.at w.ensures.word (omega arith))
