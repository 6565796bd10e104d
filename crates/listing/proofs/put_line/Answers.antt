-- `listing::put_line` meets its contract. Assumes nothing.
use mathlib.Core.Path.{refl}
use native.Mathlib.Omega.{arith}
use lib.ListN.{get_or}
use Rattle.printing.proofs.Printing.{both, in_words, nothing_printed}
use Rattle.listing.specs.Views.{finished}
use Rattle.listing.proofs.Lines.{no_line, inside, the_line}
use Rattle.listing.proofs.put_line.Goals as goal

pub returns-then-place-eq0-clause-text : goal.returns-then-place-eq0-clause-text
returns-then-place-eq0-clause-text c = let a = c.args in
    let v = c.requires.views in
    in_words (no_line (finished a.pool.now a.count a.methods.now) v.noted a.slot (omega arith)) (nothing_printed a.printer.now c.requires.ready)

pub bounds-pool-place : goal.bounds-pool-place
bounds-pool-place c = let a = c.args in
    let v = c.requires.views in
    inside (finished a.pool.now a.count a.methods.now) v.noted a.slot (omega arith)

pub put_held-requires : goal.put_held-requires
put_held-requires c = record { views = c.requires.views; ready = c.put-2.ensures.text.can; nonzero = omega arith }

pub returns-clause-text : goal.returns-clause-text
returns-clause-text c = let a = c.args in
    let v = c.requires.views in
    let f = finished a.pool.now a.count a.methods.now in
    let shown = the_line f v.noted a.slot (omega (arith, c.if-place-eq0.false)) (get_or a.pool.now (get_or a.places.now a.slot 0) 0) refl in
    in_words shown
    (both c.put_decimal.ensures.text (both c.put.ensures.text (both c.put_kind.ensures.text (both c.put-2.ensures.text (both c.put_held.ensures.text c.put-3.ensures.text)))))
