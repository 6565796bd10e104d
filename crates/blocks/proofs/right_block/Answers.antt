-- `blocks::right_block` meets its contract. Check, number and use, as numbers, and the padding decide as the definition's bytes do. Assumes nothing.
use mathlib.Core.Path.{sym, ◌∙◌}
use Prim.Native.Nat.{suc}
use native.Mathlib.Omega.{arith}
use borrow.Author.Rules.{rules}
use borrow.Author.Tests.{not-true, not-false}
use Rattle.blocks.proofs.Right.{wrong_check, wrong_number, wrong_use, as_padding, use_fits}
use Rattle.blocks.proofs.right_block.Goals as goal

pub returns-then-get-weighted_sum : goal.returns-then-get-weighted_sum
returns-then-get-weighted_sum c = wrong_check
    c.args.file.now
    c.args.k
    (λ i. (c.type_inv.file i).fits)
    (omega arith)
    (suc c.args.last)
    c.get.result
    c.weighted_sum.result
    (omega arith)
    (omega arith)
    c.get.ensures
    c.weighted_sum.ensures
    c.if-get-weighted_sum.true

pub returns-then-get-k : goal.returns-then-get-k
returns-then-get-k c = wrong_number
    c.args.file.now
    c.args.k
    (λ i. (c.type_inv.file i).fits)
    (omega arith)
    (suc c.args.last)
    c.get.result
    c.weighted_sum.result
    (omega arith)
    (omega arith)
    c.get.ensures
    c.weighted_sum.ensures
    c.get-2.result
    c.get-2.ensures
    c.if-get-weighted_sum.false
    c.if-get-k.true

pub returns-then-not-right_use : goal.returns-then-not-right_use
returns-then-not-right_use c = wrong_use
    c.args.file.now
    c.args.k
    (λ i. (c.type_inv.file i).fits)
    (omega arith)
    (suc c.args.last)
    c.get.result
    c.weighted_sum.result
    (omega arith)
    (omega arith)
    c.get.ensures
    c.weighted_sum.ensures
    c.get-2.result
    c.get-2.ensures
    c.if-get-weighted_sum.false
    c.if-get-k.false
    c.used_in-used.result
    c.used_in-used.ensures
    (sym c.right_use.ensures ∙ not-true c.right_use.result c.if-not-right_use.true-raw)

pub zero_padding-requires : goal.zero_padding-requires
zero_padding-requires c = let right = sym c.right_use.ensures ∙ not-false c.right_use.result c.if-not-right_use.false-raw in
    (search rules, omega (arith, c.used_in-used.ensures, use_fits (suc c.args.last) c.args.k c.used_in-used.result right))

pub returns : goal.returns
returns c = c.zero_padding.ensures
    ∙ as_padding
    c.args.file.now
    c.args.k
    (λ i. (c.type_inv.file i).fits)
    (omega arith)
    (suc c.args.last)
    c.get.result
    c.weighted_sum.result
    (omega arith)
    (omega arith)
    c.get.ensures
    c.weighted_sum.ensures
    c.get-2.result
    c.get-2.ensures
    c.if-get-weighted_sum.false
    c.if-get-k.false
    c.used_in-used.result
    c.used_in-used.ensures
    (sym c.right_use.ensures ∙ not-false c.right_use.result c.if-not-right_use.false-raw)
