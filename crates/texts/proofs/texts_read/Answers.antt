-- `texts::texts_read` meets its contract. What read_text ensures, told by numbers. Assumes nothing.
use lib.ListN.{length}
use Rattle.definition.specs.Texts.{read_text}
use Rattle.texts.proofs.Ends.{told}
use Rattle.texts.proofs.texts_read.Goals as goal

pub returns : goal.returns
returns c =
    let args = c.args in
    told (read_text (length args.units.now) args.text.now) args.units.now c.read_text.new.units c.read_text.result c.tell.result c.tell.new.size
    (c.read_text.ensures.result_value, c.read_text.ensures.units_after) c.tell.ensures.code c.tell.ensures.size
