-- `cpool::built_of` meets its contract. Assumes nothing.
use mathlib.Core.Path.{◌∙◌}
use native.Mathlib.Omega.{arith}
use Rattle.cpool.proofs.Telling.{tells_built}
use Rattle.cpool.proofs.Giving.{asked_is}
use Rattle.cpool.proofs.built_of.Goals as goal

pub size_of-requires : goal.size_of-requires
size_of-requires c = (c.requires.0.0, omega arith)

pub row_count-requires : goal.row_count-requires
row_count-requires c = (c.requires.0, c.requires.1)

pub load-requires : goal.load-requires
load-requires c = (c.requires.0, omega (arith, c.requires.1.counters))

pub class_told-requires : goal.class_told-requires
class_told-requires c = tt

pub load-requires-2 : goal.load-requires-2
load-requires-2 c = (c.requires.0, omega (arith, c.requires.1.counters))

pub returns : goal.returns
returns c = let a = c.args in λ s b h ep er n. tells_built b _ (asked_is s a.p.now a.w.now b h _ c.size_of.ensures) ep (c.row_count.ensures ∙ h.bootstrap_count) er (c.load.ensures.word ∙ h.name) (c.class_told.ensures s b.class n) (c.load-2.ensures.word ∙ h.visits)
