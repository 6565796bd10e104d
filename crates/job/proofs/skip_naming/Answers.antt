-- `job::skip_naming` meets its contract. Assumes nothing.
use Rattle.job.proofs.Records.{name_cut, naming_to, naming_cut}
use Rattle.job.proofs.skip_naming.Goals as goal

pub returns-in_err-name : goal.returns-in_err-name
returns-in_err-name c kind n e = rw c.from_residual.ensures (name_cut n c.args.job.now c.args.at kind c.in_err-name.ensures)

pub returns-in_err-reference : goal.returns-in_err-reference
returns-in_err-reference c kind n e =
    let r = c.in_ok-name.name in
    rw c.from_residual-in_err-reference.ensures
    (naming_cut n c.args.job.now c.args.at kind r.next r.cited r.references c.in_ok-name.ensures (rw c.in_err-reference.was at (c.skip_reference.ensures kind n e)))

pub returns : goal.returns
returns c kind n e =
    let r = c.in_ok-name.name in
    let q = c.in_ok-reference.reference in
    naming_to n c.args.job.now c.args.at kind r.next r.cited r.references c.in_ok-name.ensures q.next q.cited q.references (rw c.in_ok-reference.was at (c.skip_reference.ensures kind n e))
