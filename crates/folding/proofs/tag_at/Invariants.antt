-- `folding::tag_at`: behind signs stands an expression of the same kind. Assumes nothing.
use Rattle.definition.specs.Expression.{Number}
use Rattle.folding.specs.Folding.{OfKind, HasKind}
use Rattle.folding.proofs.tag_at.Given as goal

abbrev pub invariant-loop-at : goal.invariant-loop-at
invariant-loop-at l = HasKind l.job l.at × ((kind : Number) → OfKind l.job l.start kind → OfKind l.job l.at kind)
