-- `poolrun_text::file_text` meets its contract. Assumes nothing.
use lib.ListN.{replicate}
use Rattle.poolrun_text.proofs.Putting.{reprinted}
use Rattle.poolrun_text.proofs.Reading.{read_text_lem}
use Rattle.poolrun_text.proofs.file_text.Goals as goal

pub read_text-requires-clause-read_into : goal.read_text-requires-clause-read_into
read_text-requires-clause-read_into c = let b = c.read_blocks-read in
    (read_text_lem c.args.file.now c.requires.short b.result (replicate 2560 0) b.new.out b.ensures.result_value b.ensures.out_after).0

pub returns : goal.returns
returns c = let b = c.read_blocks-read in
    reprinted
    (read_text_lem c.args.file.now c.requires.short b.result (replicate 2560 0) b.new.out b.ensures.result_value b.ensures.out_after).1
    c.read_text.ensures
