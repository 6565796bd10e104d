-- `job::skip_request` meets its contract. Assumes nothing.
use Rattle.job.proofs.Asking.{request_to, request_unknown}
use Rattle.facts.proofs.Lists.{throughout}
use Rattle.job.specs.Forms.{Skips}
use Rattle.definition.specs.Shapes.{constant}
use Rattle.definition.specs.Job.{asks, read_request}
use Rattle.definition.specs.Form.{count_of, cites}
use Rattle.definition.specs.Basics.{lookup}
use mathlib.Core.Path.{refl}
use mathlib.Core.Bool.{true, false}
use native.Mathlib.Omega.{arith}
use Rattle.job.proofs.skip_request.Goals as goal

pub returns-in-81 : goal.returns-in-81
unfolding count_of lookup asks
returns-in-81 c = λ n e.
    let a = c.args in
    let r = c.skip_reference.result in
    let v = c.skip_reference.ensures constant n e in
    throughout (λ x. Skips (read_request (lookup x asks)) (λ q. cites n q.what) (λ _. 1) a.job.now a.at r) 2 0x51 a.first (omega arith) (omega arith)
    (request_to n a.job.now a.at 0x51 false r refl v, (request_to n a.job.now a.at 0x52 true r refl v, tt))

pub returns-in_default : goal.returns-in_default
unfolding asks
returns-in_default c = λ n e. request_unknown n c.args.job.now c.args.at c.args.first (omega arith)

pub returns-in_default-2 : goal.returns-in_default-2
unfolding asks
returns-in_default-2 c = λ n e. request_unknown n c.args.job.now c.args.at c.args.first (omega arith)
