-- `job::skip_handle` meets its contract. Assumes nothing.
use Rattle.job.proofs.Entries.{handle_to, handle_cut}
use Rattle.definition.specs.Shapes.{constant}
use Rattle.definition.specs.Form.{count_of}
use native.Mathlib.Omega.{arith}
use Rattle.job.proofs.skip_handle.Goals as goal

pub returns-then-job-at : goal.returns-then-job-at
returns-then-job-at c = λ n e. handle_cut n c.args.job.now c.args.at (omega arith)

pub returns : goal.returns
unfolding count_of
returns c = λ n e. handle_to n c.args.job.now c.args.at c.skip_reference.result (omega arith) (c.skip_reference.ensures constant n e)
