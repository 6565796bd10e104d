-- `rows::write_raw` meets its contract. Each turn writes the raw row whose index is next. Assumes nothing.
use Rattle.rows.proofs.Reading.{eq_some, ne_some, counter, raws_few}
use native.Mathlib.Omega.{arith}
use mathlib.Core.Path.{sym, ◌∙◌}
use Rattle.store.specs.Regions.{COUNTS}
use Rattle.store.specs.Store.{store}
use Rattle.store.proofs.Stores.{length-store}
use Rattle.rows.proofs.Writing.{writing_begin, writing_less, writing_low, writing_next, wrote_raws}
use borrow.Author.Rules.{rules}
use Rattle.rows.proofs.write_raw.Goals as goal

pub loop-rows-init : goal.loop-rows-init
loop-rows-init c = let a = c.args in let q = c.requires in writing_begin a.p.now (store a.p.now a.w.now) q.3 c.load-rows.result c.load-written.result c.load-rows.ensures.word c.load-written.ensures.word

pub overflow_add-rows : goal.overflow_add-rows
overflow_add-rows c = let a = c.args in let q = c.requires in omega (arith, writing_low a.p.now (store a.p.now a.w.now) q.2 c.loop-rows.rows c.loop-rows.written c.loop-rows.invariant c.raw_index.result c.raw_index.ensures (eq_some c.raw_index.result c.loop-rows.rows (sym c.eq.ensures ∙ c.loop-rows-test.true)))

pub overflow_add-written : goal.overflow_add-written
overflow_add-written c = let a = c.args in let q = c.requires in omega (arith, c.loop-rows.invariant.words.low, raws_few a.p.now (store a.p.now a.w.now) q.2)

pub loop-rows-smaller : goal.loop-rows-smaller
loop-rows-smaller c = let a = c.args in let q = c.requires in omega (arith, writing_less a.p.now (store a.p.now a.w.now) q.2 c.loop-rows.rows c.loop-rows.written c.loop-rows.invariant c.raw_index.result c.raw_index.ensures (eq_some c.raw_index.result c.loop-rows.rows (sym c.eq.ensures ∙ c.loop-rows-test.true)))

pub loop-rows-preserved : goal.loop-rows-preserved
loop-rows-preserved c = let a = c.args in let q = c.requires in writing_next a.p.now (store a.p.now a.w.now) q.2 c.loop-rows.rows c.loop-rows.written c.loop-rows.invariant c.raw_index.result c.raw_index.ensures (eq_some c.raw_index.result c.loop-rows.rows (sym c.eq.ensures ∙ c.loop-rows-test.true))

pub save-requires : goal.save-requires
save-requires c = let a = c.args in let q = c.requires in (search rules, counter a.p.now q.1 _ (omega arith), omega (arith, c.loop-rows.invariant.words.few))

pub save-requires-2 : goal.save-requires-2
save-requires-2 c = let a = c.args in let q = c.requires in (search rules, counter a.p.now q.1 _ (omega arith), omega (arith, c.loop-rows.invariant.words.low, raws_few a.p.now (store a.p.now a.w.now) q.2))

pub returns : goal.returns
returns c = let a = c.args in let q = c.requires in rw (c.save-2.ensures, c.save.ensures) (wrote_raws a.p.now (store a.p.now a.w.now) q.2 c.loop-rows.rows c.loop-rows.written c.loop-rows.invariant c.raw_index.result c.raw_index.ensures (ne_some c.raw_index.result c.loop-rows.rows (sym c.eq.ensures ∙ c.loop-rows-test.false)) (length-store a.p.now a.w.now COUNTS ∙ q.1.counts))
