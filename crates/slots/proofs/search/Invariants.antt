-- `slots::search` meets its contract: the loop keeps `Rest`, that the search from here on ends where the whole search does. Assumes nothing.
use Rattle.std.proofs.Common.{Bool}
use Rattle.definition.specs.Slots.{Gap}
use Rattle.slots.specs.Gaps.{Decides}
use Rattle.slots.proofs.Scans.{Rest}
use Rattle.slots.proofs.search.Given as goal

abbrev pub invariant-loop-at : goal.invariant-loop-at
invariant-loop-at g l = (p : Gap → Bool) → Decides p (goal.F-post g l.will_do) → Rest p l.gaps l.from l.at
