-- `raw_const::row_length` meets its contract: the length is that of every such row's bytes. Assumes nothing.
use Rattle.raw_const.proofs.Rows.{row_size}
use Rattle.raw_const.proofs.row_length.Goals as goal

pub returns : goal.returns
returns c = λ row n. rw (← n) (row_size row (rw n c.requires.0))
