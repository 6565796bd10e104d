-- `trace::run_over` meets its contract, one law for each way through it. Assumes nothing.
use mathlib.Core.Path.{sym, ◌∙◌}
use Rattle.facts.proofs.Lists.{true≢false}
use Rattle.places.proofs.Rows.{blank_zeros}
use Rattle.std.specs.Prelude.{Err}
use Rattle.refusal.specs.declared.Refusal.TheVariants.{BadTrace}
use Rattle.trace.specs.Trace.{steps, run-over}
use Rattle.trace.specs.Answers.{held}
use Rattle.trace.proofs.Stepping.{known_up, known_not}
use Rattle.trace.proofs.Running.{Gave, cut, few_flags, strange, formed}
use Rattle.trace.proofs.run_over.Goals as goal
use Rattle.trace.proofs.run_over.Goals.{then-trace-ne0-via-then-trace-ne0, then-trace-ne0-via-else-trace-ne0+then-flags-ne-SLOTS}

pub returns-then-trace-ne0 : goal.returns-then-trace-ne0
returns-then-trace-ne0 c =
    let holds = held c.args.pool.now.bytes.now c.args.pool.now.places.now in
    let told : Gave (run-over holds c.args.trace.now c.args.flags.now) c.args.flags.now c.args.flags.now (Err BadTrace) =
    elim c.then-trace-ne0.branch [
      | then-trace-ne0-via-then-trace-ne0 w ↦ cut holds c.args.trace.now c.args.flags.now w.if-trace-ne0.true
      | then-trace-ne0-via-else-trace-ne0+then-flags-ne-SLOTS w ↦ few_flags holds c.args.trace.now c.args.flags.now w.if-flags-ne-SLOTS.true
    ] in
    record { value = told.0; flags_after = told.1 }

pub returns-then-not-known_actions : goal.returns-then-not-known_actions
returns-then-not-known_actions c =
    let trace = c.args.trace.now in
    let unknown = known_not trace (λ all. true≢false (sym (c.known_actions.ensures.1 all) ∙ c.if-not-known_actions.true)) in
    let told = strange (held c.args.pool.now.bytes.now c.args.pool.now.places.now) trace c.args.flags.now unknown in
    record { value = told.0; flags_after = told.1 }

pub run_steps-requires : goal.run_steps-requires
run_steps-requires c =
    let all = c.known_actions.ensures.0 c.if-not-known_actions.false in
    record { trace_value = known_up c.args.trace.now (steps c.args.trace.now) all; flags_len = (c.if-flags-ne-SLOTS.false, blank_zeros.0, blank_zeros.1) }

pub returns : goal.returns
returns c =
    let trace = c.args.trace.now in
    let known = known_up trace (steps trace) (c.known_actions.ensures.0 c.if-not-known_actions.false) in
    let told = formed (held c.args.pool.now.bytes.now c.args.pool.now.places.now) trace c.args.flags.now c.run_steps.new.flags c.run_steps.result c.if-trace-ne0.false c.if-flags-ne-SLOTS.false known (c.run_steps.ensures.value, c.run_steps.ensures.flags_after) in
    record { value = told.0; flags_after = told.1 }
