-- `store::sizes_for` meets its contract. Assumes nothing.
use mathlib.Core.Path.{refl}
use Rattle.store.specs.Regions.{sizes_for}
use Rattle.store.proofs.sizes_for.Goals as goal

pub returns : goal.returns
unfolding sizes_for
returns c = refl
