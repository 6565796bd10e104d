-- `trace::run_steps` meets its contract: the counts and the two tables are those before step i. Assumes nothing.
use mathlib.Core.Path.{sym, ◌∙◌}
use native.Mathlib.Omega.{arith}
use Rattle.trace.specs.Answers.{held}
use Rattle.trace.proofs.Stepping.{known_at}
use Rattle.trace.proofs.Going.{going_first, going_small, going_more, going_last}
use Rattle.trace.proofs.run_steps.Goals as goal

pub loop-i-init : goal.loop-i-init
loop-i-init c = (going_first (held c.args.pool.now.bytes.now c.args.pool.now.places.now) c.args.trace.now c.args.flags.now c.args.clear.now c.requires.flags_len.0 c.requires.flags_len.1 c.requires.flags_len.2)

pub run_both-step-requires : goal.run_both-step-requires
run_both-step-requires c = record { i_bound = (omega arith, known_at c.args.trace.now c.loop-i.i c.requires.trace_value (omega arith)); flags_len = (c.loop-i.invariant.flags_are.size, c.loop-i.invariant.clear_are.size) }

pub overflow_add-counts : goal.overflow_add-counts
overflow_add-counts c = omega (arith, (going_small c.loop-i.invariant c.run_both-step.ensures).0)

pub overflow_add-counts-in-loop-i : goal.overflow_add-counts-in-loop-i
overflow_add-counts-in-loop-i c = omega (arith, (going_small c.loop-i.invariant c.run_both-step.ensures).1)

pub overflow_add-counts-in-loop-i-2 : goal.overflow_add-counts-in-loop-i-2
overflow_add-counts-in-loop-i-2 c = omega (arith, (going_small c.loop-i.invariant c.run_both-step.ensures).2)

pub loop-i-preserved : goal.loop-i-preserved
loop-i-preserved c = going_more c.loop-i.invariant c.run_both-step.ensures

pub shape_of-flags : goal.shape_of-flags
shape_of-flags c = c.loop-i.invariant.flags_are.size ∙ sym c.requires.flags_len.0

pub shape_of-clear : goal.shape_of-clear
shape_of-clear c = c.loop-i.invariant.clear_are.size ∙ sym c.requires.flags_len.1

pub returns : goal.returns
returns c = let told = going_last c.loop-i.invariant c.requires.flags_len.0 (omega arith) in record { value = told.0; flags_after = told.1 }
