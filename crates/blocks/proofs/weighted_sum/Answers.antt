-- `blocks::weighted_sum` meets its contract. The loop keeps: what is summed and what is left come to the definition's sum. Assumes nothing.
use native.Mathlib.Omega.{arith}
use lib.ListN.{get_or}
use Rattle.blocks.proofs.Sums.{sum_more, sum-all, product_small}
use Rattle.blocks.proofs.weighted_sum.Goals as goal

pub overflow_cast-sum-in-loop-i : goal.overflow_cast-sum-in-loop-i
overflow_cast-sum-in-loop-i c = omega (arith, c.type_inv.s c.loop-i.i)

pub overflow_mul-sum : goal.overflow_mul-sum
overflow_mul-sum c = let i = c.loop-i.i in
    let b = get_or c.args.s.now i 0 in
    omega (arith, product_small i b (omega arith) (c.type_inv.s i).fits)

pub overflow_add-sum-in-loop-i : goal.overflow_add-sum-in-loop-i
overflow_add-sum-in-loop-i c = let i = c.loop-i.i in
    let b = get_or c.args.s.now i 0 in
    omega (arith, product_small i b (omega arith) (c.type_inv.s i).fits)

pub loop-i-preserved : goal.loop-i-preserved
loop-i-preserved c = let s = c.args.s.now in
    let i = c.loop-i.i in (
      sum_more s i c.loop-i.sum (omega arith) c.loop-i.invariant.0,
      omega (arith, product_small i (get_or s i 0) (omega arith) (c.type_inv.s i).fits),
    )

pub returns : goal.returns
returns c = sum-all c.args.s.now c.loop-i.i c.loop-i.sum (omega arith) c.loop-i.invariant.0
