-- `output::write_marks` meets its contract: the loop has copied the marks before i. Assumes nothing.
use native.Mathlib.Omega.{arith}
use lib.Seq.{paste-zero}
use Rattle.store.specs.Store.{store}
use Rattle.store.specs.Regions.{ORIGINS}
use Rattle.store.proofs.Stores.{length-store}
use Rattle.output.proofs.Rowing.{answers_next, answers_end}
use Rattle.output.proofs.write_marks.Goals as goal

pub loop-i-init : goal.loop-i-init
loop-i-init c = let a = c.args in paste-zero a.marks.now 0 (store a.p.now a.w.now ORIGINS)

pub overflow_cast-marks : goal.overflow_cast-marks
overflow_cast-marks c = record { fits = rw c.load.ensures.word (c.requires.2 c.loop-i.i (omega (arith, c.size_of-i-end.ensures, c.loop-i-test.true))) }

pub loop-i-preserved : goal.loop-i-preserved
loop-i-preserved c = let a = c.args in let l = c.loop-i in let t = store a.p.now a.w.now in answers_next a.marks.now (t ORIGINS) l.i l.marks c.load.result (omega (arith, c.requires.1, c.size_of-i-end.ensures, c.loop-i-test.true)) (omega (arith, length-store a.p.now a.w.now ORIGINS, c.size_of-i-end.ensures, c.loop-i-test.true)) l.invariant c.load.ensures.word

pub returns : goal.returns
returns c = let a = c.args in let l = c.loop-i in answers_end a.marks.now (store a.p.now a.w.now ORIGINS) l.i l.marks (omega (arith, length-store a.p.now a.w.now ORIGINS, c.size_of-i-end.ensures, c.loop-i-test.false, l.auto.i-end)) l.invariant
