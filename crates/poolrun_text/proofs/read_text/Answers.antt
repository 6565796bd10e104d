-- `poolrun_text::read_text` meets its contract. By cases on how the file was read. Assumes nothing.
use mathlib.Core.Path.{sym, ap}
use lib.ListN.{length}
use lib.Seq.{length-take-le}
use Rattle.std.specs.Prelude.{Ok}
use Rattle.poolrun_text.specs.Text.{ReadInto, read_text}
use Rattle.poolrun_text.proofs.Putting.{reprinted}
use Rattle.poolrun_text.proofs.read_text.Goals as goal

pub slice_bounds-run_text-end : goal.slice_bounds-run_text-end
unfolding ReadInto
slice_bounds-run_text-end c = let job = c.args.job.now in
    let inside : ReadInto (Ok c.in-Ok.n) (length job) = rw c.in-Ok.is at c.requires.read_into in
    sym (length-take-le c.in-Ok.n job inside)

pub returns-in-Ok : goal.returns-in-Ok
unfolding read_text
returns-in-Ok c = reprinted (ap (λ x. read_text x c.args.job.now) (sym c.in-Ok.is)) c.run_text.ensures

pub returns-in-Err : goal.returns-in-Err
unfolding read_text
returns-in-Err c = reprinted (ap (λ x. read_text x c.args.job.now) (sym c.in-Err.is)) c.put_refusal.ensures
