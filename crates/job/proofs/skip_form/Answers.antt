-- `job::skip_form` meets its contract. Assumes nothing.
use Rattle.job.proofs.Laws.{form-raw, form-number, form-name, form-unknown}
use native.Mathlib.Omega.{arith}
use Rattle.job.proofs.skip_form.Goals as goal

pub returns-in-0 : goal.returns-in-0
returns-in-0 c = λ kind n e. rw c.in-0.is (form-raw c.args.job.now c.args.at kind n c.skip_raw_slot.result c.skip_raw_slot.ensures)

pub returns-in-1 : goal.returns-in-1
returns-in-1 c = λ kind n e.
    rw c.in-1.is (form-number c.args.job.now c.args.at kind n c.skip_number.result c.args.entries e c.skip_number.ensures)

pub returns-in-2 : goal.returns-in-2
returns-in-2 c = λ kind n e. rw c.in-2.is (form-name c.args.job.now c.args.at kind n c.skip_name.result c.skip_name.ensures)

pub returns-in_default : goal.returns-in_default
returns-in_default c = λ kind n e. form-unknown c.args.job.now c.args.at kind c.args.form (omega arith)
