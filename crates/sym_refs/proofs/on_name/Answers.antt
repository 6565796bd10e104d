-- `sym_refs::on_name` meets its contract. Assumes nothing.
use native.Mathlib.Omega.{arith}
use mathlib.Core.Path.{◌∙◌}
use Rattle.sym_refs.proofs.Jumping.{on_name-byte, on_name-small}
use Rattle.sym_refs.proofs.on_name.Goals as goal

pub returns : goal.returns
returns c = let e = c.from.ensures ∙ on_name-byte c.args.goal in (e, omega (arith, e, on_name-small c.args.goal))
