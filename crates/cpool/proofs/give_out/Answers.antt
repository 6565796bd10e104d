-- `cpool::give_out` meets its contract: it measures, tests, then writes. Assumes nothing.
use mathlib.Core.Path.{◌∙◌, sym}
use native.Mathlib.Omega.{arith}
use Rattle.std.specs.Prelude.{Ok, Err}
use Rattle.refusal.specs.Numbers.{number}
use Rattle.cpool.specs.Stages.{lent}
use Rattle.cpool.proofs.Giving.{room_each, gave_none, gave_all, marks_room, pool_is, rows_are, name_is}
use Rattle.cpool.proofs.give_out.Goals as goal

pub size_of-asked-requires : goal.size_of-asked-requires
size_of-asked-requires c = (c.requires.0.0, omega arith)

pub pool_length-pool_size-requires : goal.pool_length-pool_size-requires
pool_length-pool_size-requires c = let q = c.requires in (q.0, q.1, q.2.1.finished)

pub rows_length-rows_size-requires : goal.rows_length-rows_size-requires
rows_length-rows_size-requires c = let q = c.requires in (q.0, q.2.1.rows_ready)

pub class_name-class-requires : goal.class_name-class-requires
class_name-class-requires c = let q = c.requires in (q.0, q.1, q.2.1.finished.sought, q.2.1.finished.owned, q.2.1.class_at)

pub class_length-class_size-requires : goal.class_length-class_size-requires
class_length-class_size-requires c = tt

pub fits-requires : goal.fits-requires
fits-requires c = tt

pub refused-requires : goal.refused-requires
refused-requires c = let q = c.requires in (q.0, omega (arith, q.2.1.rows_ready.counters))

pub returns-then-not-fits-clause-given : goal.returns-then-not-fits-clause-given
unfolding number
returns-then-not-fits-clause-given c = let a = c.args in λ b h. gave_none a.job.now a.p.now a.w.now b h c.requires.1 (lent a.outputs.now) _ (Err c.refused.result) _ _ _ _ _ c.fits.ensures c.size_of-asked.ensures c.pool_length-pool_size.ensures c.rows_length-rows_size.ensures (c.class_length-class_size.ensures a.job.now _ c.class_name-class.ensures) c.if-not-fits.true c.refused.ensures

pub write_answers-requires : goal.write_answers-requires
write_answers-requires c = let a = c.args in let q = c.requires in let room = room_each (lent a.outputs.now) _ _ _ _ (sym c.fits.ensures ∙ c.if-not-fits.false) in (q.0, omega (arith, c.size_of-asked.ensures, room.answers), q.2.1.small)

pub write_marks-requires : goal.write_marks-requires
write_marks-requires c = let a = c.args in let q = c.requires in let room = room_each (lent a.outputs.now) _ _ _ _ (sym c.fits.ensures ∙ c.if-not-fits.false) in (q.0, omega (arith, marks_room a.job.now a.p.now a.w.now q.2.0 q.2.1 q.1 _ c.size_of-asked.ensures, room.marks), q.2.1.small_marks)

pub write_pool-requires : goal.write_pool-requires
write_pool-requires c = let a = c.args in let q = c.requires in let room = room_each (lent a.outputs.now) _ _ _ _ (sym c.fits.ensures ∙ c.if-not-fits.false) in (q.0, q.1, q.2.1.finished, omega (arith, c.pool_length-pool_size.ensures, room.pool))

pub write_rows-requires : goal.write_rows-requires
write_rows-requires c = let a = c.args in let q = c.requires in let room = room_each (lent a.outputs.now) _ _ _ _ (sym c.fits.ensures ∙ c.if-not-fits.false) in (q.0, q.2.1.rows_ready, omega (arith, c.rows_length-rows_size.ensures, room.bootstraps))

pub write_class-requires : goal.write_class-requires
write_class-requires c = let a = c.args in let room = room_each (lent a.outputs.now) _ _ _ _ (sym c.fits.ensures ∙ c.if-not-fits.false) in (_, c.class_name-class.ensures, omega (arith, c.class_length-class_size.ensures a.job.now _ c.class_name-class.ensures, room.class))

pub built_of-requires : goal.built_of-requires
built_of-requires c = let q = c.requires in (q.0, q.2.1.rows_ready)

pub returns-clause-given : goal.returns-clause-given
returns-clause-given c = let a = c.args in let named = c.class_name-class.ensures in λ b h. gave_all a.job.now a.p.now a.w.now b h c.requires.1 (lent a.outputs.now) _ (Ok c.built_of.result) _ _ _ _ _ c.fits.ensures c.size_of-asked.ensures c.pool_length-pool_size.ensures c.rows_length-rows_size.ensures (c.class_length-class_size.ensures a.job.now _ named) _ c.if-not-fits.false (c.built_of.ensures a.job.now b h (pool_is a.job.now a.p.now a.w.now b h _ c.pool_length-pool_size.ensures) (rows_are a.job.now a.p.now a.w.now b h _ c.rows_length-rows_size.ensures) (name_is a.job.now a.p.now a.w.now b h c.class_name-class.result named)) c.write_answers.ensures c.write_marks.ensures c.write_pool.ensures c.write_rows.ensures (c.write_class.ensures _ named)
