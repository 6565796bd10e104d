-- `job::skip_text` meets its contract. Assumes nothing.
use Rattle.job.proofs.Entries.{text_cut, text_to}
use Rattle.job.proofs.skip_text.Goals as goal

pub returns-in_err-n : goal.returns-in_err-n
returns-in_err-n c n = rw c.from_residual.ensures (text_cut n c.args.job.now c.args.at c.in_err-n.ensures)

pub returns : goal.returns
returns c n = text_to n c.args.job.now c.args.at c.skip_bytes.result c.in_ok-n.ensures.0 (rw c.in_ok-n.ensures.1 at c.skip_bytes.ensures)
