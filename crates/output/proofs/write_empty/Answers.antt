-- `output::write_empty` meets its contract. Assumes nothing.
use Rattle.output.proofs.Shown.{wrote_empty}
use mathlib.Core.Path.{refl}
use Rattle.output.proofs.write_empty.Goals as goal

pub returns : goal.returns
returns c = let a = c.args in wrote_empty a.pool.now _ c.put.new.d a.at c.requires refl c.put.ensures
