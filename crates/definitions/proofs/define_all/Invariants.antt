-- `definitions::define_all` meets its contract. Assumes nothing.
use Rattle.definitions.proofs.Whole.{SameBehind}
use Rattle.definitions.specs.Defining.{Defining, defined_regions}
use Rattle.store.specs.Store.{store, Kept}
use Rattle.definition.specs.Definitions.{Defined}
use lib.ListN.{length}
use mathlib.Core.Path.{◌≡◌}
use Rattle.definitions.proofs.define_all.Given as goal

abbrev pub invariant-loop-place : goal.invariant-loop-place
invariant-loop-place l = (length l.w ≡ length l.initial.w) × Kept defined_regions (store l.p l.initial.w) (store l.p l.w) × SameBehind (store l.p l.initial.w) (store l.p l.w) × ((d : Defined) × Defining l.p l.top l.job (store l.p l.w) l.place l.at d)
