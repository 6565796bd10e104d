-- `raw_const::write_shorts` meets its contract: each turn writes a number behind those before it. Assumes nothing.
use mathlib.Core.Path.{◌≡◌}
use native.Mathlib.Omega.{arith}
use lib.ListN.{length}
use lib.Seq.{take-length}
use Rattle.definition.specs.Basics.{concat}
use Rattle.raw_const.proofs.Writes.{wrote_nothing}
use Rattle.raw_const.proofs.Rows.{shorts_turn, shorts_before}
use Rattle.raw_const.proofs.write_shorts.Goals as goal

pub loop-word-init : goal.loop-word-init
unfolding concat
loop-word-init c = wrote_nothing c.args.out.now c.args.at

pub write_short-next-requires : goal.write_short-next-requires
write_short-next-requires c =
    omega (arith, c.loop-word.invariant.next, shorts_before c.args.words.now c.loop-word.word-index c.loop-word-test.true)

pub loop-word-preserved : goal.loop-word-preserved
loop-word-preserved c =
    shorts_turn c.args.words.now c.loop-word.word-index c.loop-word-test.true c.requires.words_in_bounds c.loop-word.invariant
    c.write_short-next.ensures

pub returns : goal.returns
returns c =
    let all : c.loop-word.word-index ≡ length c.args.words.now = omega arith in
    rw (all, take-length) at c.loop-word.invariant
