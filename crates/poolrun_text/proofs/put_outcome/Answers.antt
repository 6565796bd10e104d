-- `poolrun_text::put_outcome` meets its contract. By cases on the outcome. Assumes nothing.
use mathlib.Core.Path.{sym, ap}
use native.Mathlib.Omega.{arith}
use lib.ListN.{length}
use lib.Seq.{length-take-le}
use Rattle.std.specs.Prelude.{Ok, Err}
use Rattle.poolrun_text.specs.Text.{Fits, text_of}
use Rattle.poolrun_text.proofs.Putting.{reprinted}
use Rattle.poolrun_text.proofs.Running.{room_cut}
use Rattle.poolrun_text.proofs.put_outcome.Goals as goal

pub slice_bounds-put_built-end : goal.slice_bounds-put_built-end
unfolding Fits
slice_bounds-put_built-end c = let a = c.args in
    let fits : Fits (Ok c.in-Ok.built) (length a.page.now.out.now) (length a.answers.now) (length a.marks.now) (length a.pool.now) (length a.bootstraps.now) (length a.class_name.now) =
    rw c.in-Ok.is at c.requires.room in
    sym (length-take-le c.in-Ok.built.answers a.answers.now fits.0)

pub slice_bounds-put_built-end-in-Ok : goal.slice_bounds-put_built-end-in-Ok
unfolding Fits
slice_bounds-put_built-end-in-Ok c = let a = c.args in
    let fits : Fits (Ok c.in-Ok.built) (length a.page.now.out.now) (length a.answers.now) (length a.marks.now) (length a.pool.now) (length a.bootstraps.now) (length a.class_name.now) =
    rw c.in-Ok.is at c.requires.room in
    sym (length-take-le c.in-Ok.built.answers a.marks.now fits.1)

pub slice_bounds-put_built-end-in-Ok-2 : goal.slice_bounds-put_built-end-in-Ok-2
unfolding Fits
slice_bounds-put_built-end-in-Ok-2 c = let a = c.args in
    let fits : Fits (Ok c.in-Ok.built) (length a.page.now.out.now) (length a.answers.now) (length a.marks.now) (length a.pool.now) (length a.bootstraps.now) (length a.class_name.now) =
    rw c.in-Ok.is at c.requires.room in
    sym (length-take-le c.in-Ok.built.pool a.pool.now fits.2)

pub slice_bounds-put_built-end-in-Ok-3 : goal.slice_bounds-put_built-end-in-Ok-3
unfolding Fits
slice_bounds-put_built-end-in-Ok-3 c = let a = c.args in
    let fits : Fits (Ok c.in-Ok.built) (length a.page.now.out.now) (length a.answers.now) (length a.marks.now) (length a.pool.now) (length a.bootstraps.now) (length a.class_name.now) =
    rw c.in-Ok.is at c.requires.room in
    sym (length-take-le c.in-Ok.built.bootstraps a.bootstraps.now fits.3)

pub put_built-requires-clause-room : goal.put_built-requires-clause-room
unfolding Fits
put_built-requires-clause-room c = let a = c.args in
    let fits : Fits (Ok c.in-Ok.built) (length a.page.now.out.now) (length a.answers.now) (length a.marks.now) (length a.pool.now) (length a.bootstraps.now) (length a.class_name.now) =
    rw c.in-Ok.is at c.requires.room in
    room_cut a.answers.now a.marks.now a.pool.now a.bootstraps.now fits.0 fits.1 fits.2 fits.3 fits.4

pub put_refusal-requires : goal.put_refusal-requires
unfolding Fits
put_refusal-requires c = let a = c.args in
    let fits : Fits (Err c.in-Err.refused) (length a.page.now.out.now) (length a.answers.now) (length a.marks.now) (length a.pool.now) (length a.bootstraps.now) (length a.class_name.now) =
    rw c.in-Err.is at c.requires.room in
    omega (arith, fits, c.requires.empty)

pub returns-in-Ok : goal.returns-in-Ok
unfolding text_of
returns-in-Ok c = let a = c.args in
    reprinted (ap (λ o. text_of o a.answers.now a.marks.now a.pool.now a.bootstraps.now a.class_name.now) (sym c.in-Ok.is)) c.put_built.ensures

pub returns-in-Err : goal.returns-in-Err
unfolding text_of
returns-in-Err c = let a = c.args in
    reprinted (ap (λ o. text_of o a.answers.now a.marks.now a.pool.now a.bootstraps.now a.class_name.now) (sym c.in-Err.is)) c.put_refusal.ensures
