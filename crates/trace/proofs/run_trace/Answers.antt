-- `trace::run_trace` meets its contract, one law for each way through it. Assumes nothing.
use mathlib.Core.Path.{sym, ◌∙◌}
use lib.ListN.{replicate}
use borrow.Author.Tests.{not-true, not-false}
use Rattle.places.proofs.Rows.{blank_zeros}
use Rattle.trace.proofs.Running.{not_whole, when-whole}
use Rattle.trace.proofs.run_trace.Goals as goal

pub returns-then-ne : goal.returns-then-ne
returns-then-ne c =
    let args = c.args in
    let part = not-true _ (sym c.ne.ensures ∙ c.if-ne.true) in
    let told = not_whole args.pool.now args.trace.now args.flags.now (replicate 65536 0) c.note_pool.new.places c.note_pool.result c.note_pool.ensures part in
    record { value = told.0; flags_after = told.1 }

pub returns : goal.returns
returns c =
    let args = c.args in
    let all = not-false _ (sym c.ne.ensures ∙ c.if-ne.false) in
    let told = when-whole args.pool.now args.trace.now args.flags.now (replicate 65536 0) c.note_pool.new.places c.note_pool.result c.note_pool.ensures all blank_zeros c.run_over.new.flags c.run_over.result (c.run_over.ensures.value, c.run_over.ensures.flags_after) in
    record { value = told.0; flags_after = told.1 }
