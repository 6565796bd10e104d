-- `trace::known_actions` meets its contract: the actions before this step are known. Assumes nothing.
use Prim.Native.Nat.{ℕ, ◌≤◌, ◌<◌}
use Rattle.trace.specs.Trace.{action}
use Rattle.trace.proofs.known_actions.Given as goal

abbrev pub invariant-loop-i : goal.invariant-loop-i
invariant-loop-i l = (k : ℕ) → k < l.i → action l.trace k ≤ 1
