-- `frames::writing::Line::put_word` meets its contract. Assumes nothing.
use native.Mathlib.Omega.{arith}
use borrow.Author.Tests.{leb-true, leb-false}
use Rattle.frames.proofs.Lines.{put_whole, put-none}
use Rattle.frames.proofs.writing.Line.put_word.Goals as goal
use Rattle.frames.proofs.writing.Line.put_word.Goals.{else-word-room-via-then-word-room+else-self-room, else-word-room-via-else-word-room}

pub returns-then-self-room-clause-word : goal.returns-then-self-room-clause-word
returns-then-self-room-clause-word c = let line = c.args.self.now in
    let copied = c.copy in
    put_whole line.text.now line.at c.args.word.now copied.new.dst (omega (arith, leb-true)) copied.ensures

pub returns-else-word-room-clause-word : goal.returns-else-word-room-clause-word
returns-else-word-room-clause-word c = let line = c.args.self.now in
    put-none line.text.now line.at c.args.word.now
    (elim c.else-word-room.branch [
      | else-word-room-via-then-word-room+else-self-room w ↦ omega (arith, leb-false)
      | else-word-room-via-else-word-room w ↦ omega arith
    ])
