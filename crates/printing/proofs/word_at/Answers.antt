-- `printing::word_at` meets its contract. Assumes nothing.
use native.Mathlib.Omega.{arith}
use Rattle.printing.proofs.Printing.{all_left, less_left, left_as, none_left, next_of, end_of}
use Rattle.printing.proofs.word_at.Goals as goal

pub loop-b-init : goal.loop-b-init
loop-b-init c = let a = c.args in
    all_left a.out.now a.room a.start a.word.now c.requires

pub byte_at-at-requires : goal.byte_at-at-requires
byte_at-at-requires c = c.loop-b.invariant.can

pub loop-b-preserved : goal.loop-b-preserved
loop-b-preserved c = let l = c.loop-b in
    less_left (left_as (next_of c.args.word.now l.b-index (omega arith)) l.invariant) c.byte_at-at.ensures

pub shape_of-out : goal.shape_of-out
shape_of-out c = c.loop-b.invariant.same

pub returns : goal.returns
returns c = let l = c.loop-b in
    none_left (left_as (end_of c.args.word.now l.b-index (omega arith)) l.invariant)
