-- RUN NUMBERS: no refusal of a run has a number above 26, whatever the job is, also where it is no string of bytes. Assumes nothing.
use mathlib.Core.List.{List}
use mathlib.Core.Logic.{inl, inr}
use mathlib.Core.Path.{◌≡◌}
use Prim.Native.Nat.{ℕ, ◌<◌}
use native.Mathlib.Omega.{arith}
use Rattle.definition.specs.Basics.{bad, Refusal}
use Rattle.definition.specs.Job.{Job}
use Rattle.definition.specs.Run.{Lent, run}
use Rattle.laws.proofs.Runs.StepsOfRuns.{LayoutRefused, early, too_new, sixteen, at_slot, at_row}
use Rattle.laws.proofs.Runs.RunRefused.{RunRefused, outside, in_layout, run_refused}
use Rattle.laws.proofs.Runs.StepRefusals.{allocate-refused, no_slot-low, row_index-refused}

layout_number : (top : ℕ) (job : Job ℕ) (code : ℕ) → LayoutRefused top job code → code < 27
layout_number top job code (early h) = omega (arith, h)
layout_number top job code (too_new h) = omega (arith, h)
layout_number top job code (sixteen h) = omega (arith, h)
layout_number top job code (at_slot nodes ldc k p a e) = omega (arith, (allocate-refused nodes ldc k code p e).1, no_slot-low ldc)
layout_number top job code (at_row row rows a e) = omega (arith, row_index-refused row code rows e)

number_low : (bytes : List ℕ) (code : ℕ) → RunRefused bytes code → code < 27
number_low bytes code (outside (inl h)) = omega (arith, h)
number_low bytes code (outside (inr h)) = h.1
number_low bytes code (in_layout job formed h) = layout_number _ _ code h

pub run_number : (lent : Lent) (bytes : List ℕ) (r : Refusal) → run lent bytes ≡ bad r → r.code < 27
run_number lent bytes r ran = number_low bytes r.code (run_refused lent bytes r ran)
