-- `listing::list_read` meets its contract. Assumes nothing.
use mathlib.Core.Path.{refl, sym, ap, subst, ◌∙◌}
use native.Mathlib.Omega.{arith}
use lib.ListN.{length}
use Rattle.printing.specs.Printed.{Printed}
use Rattle.listing.specs.Listing.{lines}
use Rattle.listing.specs.Views.{finished}
use Rattle.listing.specs.Lists.{Lists}
use Rattle.std.specs.Prelude.{Err}
use Rattle.refusal.specs.declared.Refusal.TheVariants.{OutputTooShort}
use Rattle.listing.proofs.Answered.{none_lent, too_long, all_written}
use Rattle.listing.proofs.list_read.Goals as goal

pub slice_bounds-put_lines-end : goal.slice_bounds-put_lines-end
slice_bounds-put_lines-end c = omega arith

pub slice_bounds-put_lines-end-2 : goal.slice_bounds-put_lines-end-2
slice_bounds-put_lines-end-2 c = refl

pub put_lines-end-requires : goal.put_lines-end-requires
put_lines-end-requires c = record { views = c.requires; room = (omega arith, omega arith) }

pub shape_of-out-then-room-end : goal.shape_of-out-then-room-end
shape_of-out-then-room-end c = let p = c.put_lines-end in
    ap length (none_lent p.new.out c.args.out.now p.ensures.same)

pub returns-then-room-end : goal.returns-then-room-end
returns-then-room-end c = let a = c.args in
    let p = c.put_lines-end in
    let same = none_lent p.new.out a.out.now p.ensures.same in
    subst (λ l. Lists a.pool.now a.count a.methods.now a.out.now l (Err OutputTooShort)) (sym same) (too_long c.requires a.out.now p.ensures c.if-room-end.true)

pub put_lines-requires : goal.put_lines-requires
put_lines-requires c = let p = c.put_lines-end in
    let same = ap length (none_lent p.new.out c.args.out.now p.ensures.same) in
    record { views = c.requires; room = (omega arith, omega arith) }

pub shape_of-out : goal.shape_of-out
shape_of-out c = let p = c.put_lines-end in
    c.put_lines.ensures.same ∙ ap length (none_lent p.new.out c.args.out.now p.ensures.same)

pub returns : goal.returns
returns c = let a = c.args in
    let p = c.put_lines-end in
    let q = c.put_lines in
    let same = none_lent p.new.out a.out.now p.ensures.same in
    let text = lines (finished a.pool.now a.count a.methods.now) in
    let written = subst (λ l. Printed l (length a.out.now) 0 text q.new.out q.result) same q.ensures in
    all_written c.requires a.out.now p.ensures c.if-room-end.false written
