-- `job::skip_name` meets its contract. Assumes nothing.
use Rattle.job.proofs.Laws.{then_one, none-one}
use Rattle.definition.specs.Job.{short_name}
use Rattle.definition.specs.Bytes.{one, many}
use mathlib.Core.Bool.{true}
use native.Mathlib.Omega.{arith}
use Rattle.job.proofs.skip_name.Goals as goal

pub returns-then-job-at : goal.returns-then-job-at
unfolding short_name
returns-then-job-at c = none-one (λ _. true) (λ _. 0) c.args.job.now c.args.at (λ size. many size one) (omega arith)

pub returns : goal.returns
unfolding short_name
returns c = then_one (λ _. true) (λ _. 0) c.args.job.now c.args.at (λ size. many size one) c.skip_bytes.result (omega arith)
    c.skip_bytes.ensures
