-- `listing::put_lines` meets its contract. The loop keeps: the lines from its slot on are left. Assumes nothing.
use mathlib.Core.Path.{refl, ◌∙◌}
use native.Mathlib.Omega.{arith}
use borrow.Author.Rules.{rules}
use Rattle.printing.proofs.Printing.{begun, ended, all_rest, less_rest, rest_as, none_rest}
use Rattle.listing.specs.Listing.{lines}
use Rattle.listing.specs.Views.{finished}
use Rattle.listing.proofs.Lines.{line-next, lines_end, lines-all, counted}
use Rattle.listing.proofs.put_lines.Goals as goal

pub get-slot-end-requires : goal.get-slot-end-requires
get-slot-end-requires c = let a = c.args in
    let v = c.requires.views in
    (counted a.pool.now (finished a.pool.now a.count a.methods.now).slots v.pool_read).0

pub loop-slot-init : goal.loop-slot-init
loop-slot-init c = let a = c.args in
    let f = finished a.pool.now a.count a.methods.now in
    (refl, rest_as (lines-all f) (all_rest c.new-printer.result (lines f) (begun c.new-printer.result (c.requires.room.0, c.requires.room.1, omega arith) c.new-printer.ensures.begins)))

pub put_line-requires : goal.put_line-requires
put_line-requires c = record { views = c.requires.views; ready = c.loop-slot.invariant.1.can }

pub loop-slot-preserved : goal.loop-slot-preserved
loop-slot-preserved c = let a = c.args in
    let v = c.requires.views in
    let l = c.loop-slot in
    let f = finished a.pool.now a.count a.methods.now in
    let many = (counted a.pool.now f.slots v.pool_read).1 in
    let next = line-next f l.slot (omega arith) (omega (arith, c.get-slot-end.ensures)) in
    (c.put_line.ensures.same_buffer ∙ l.invariant.0, less_rest (rest_as next l.invariant.1) c.put_line.ensures.text)

pub returns : goal.returns
returns c = let a = c.args in
    let v = c.requires.views in
    let l = c.loop-slot in
    let f = finished a.pool.now a.count a.methods.now in
    let many = (counted a.pool.now f.slots v.pool_read).1 in
    let all = none_rest (rest_as (lines_end f l.slot (omega (arith, c.get-slot-end.ensures))) l.invariant.1) in
    ended c.new-printer.result l.printer c.new-printer.ensures.begins all (search rules) c.at.ensures
