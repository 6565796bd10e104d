-- `texts::texts_write` meets its contract. What write_text ensures, told by numbers. Assumes nothing.
use lib.ListN.{length}
use Rattle.definition.specs.Texts.{write_text}
use Rattle.texts.proofs.Ends.{told}
use Rattle.texts.proofs.texts_write.Goals as goal

pub returns : goal.returns
returns c =
    let args = c.args in
    told (write_text (length args.text.now) args.units.now) args.text.now c.write_text.new.text c.write_text.result c.tell.result c.tell.new.size
    (c.write_text.ensures.result_value, c.write_text.ensures.text_after) c.tell.ensures.code c.tell.ensures.size
