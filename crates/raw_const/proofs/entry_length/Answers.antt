-- `raw_const::entry_length` meets its contract: the shape's length is that of every such entry's bytes. Assumes nothing.
use mathlib.Core.Path.{sym, ap}
use lib.ListN.{length}
use Rattle.raw_const.proofs.Shaped.{entry_size, no_entry}
use Rattle.raw_const.proofs.entry_length.Goals as goal

pub shape_length-requires : goal.shape_length-requires
shape_length-requires c = λ e. c.requires.as_text (rw e at (sym c.in-Some.ensures))

pub returns-in-Some : goal.returns-in-Some
returns-in-Some c = λ e t n.
    let known = c.in-Some.ensures in
    rw (c.shape_length.ensures, ← n) (entry_size c.in-Some.shape e (rw t known) (rw (known, n) c.requires))

pub returns-in-None : goal.returns-in-None
returns-in-None c = λ e t n. sym (ap length (no_entry e (rw t c.in-None.ensures)))
