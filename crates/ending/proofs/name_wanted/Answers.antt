-- `ending::name_wanted` meets its contract: the byte is the one that the build record's reader finds. Assumes nothing.
use Rattle.ending.proofs.Wanting.{byte_there, wants_other, wants_rows}
use Rattle.rows.proofs.Starting.{row_room}
use Rattle.store.proofs.Laying.{work-sizes}
use Rattle.store.specs.Store.{store}
use native.Mathlib.Omega.{arith}
use mathlib.Core.Path.{refl}
use Rattle.ending.proofs.name_wanted.Goals as goal

pub load-requires : goal.load-requires
load-requires c = let a = c.args in let q = c.requires in (q.0, omega (arith, (work-sizes a.job.now a.p.now q.1).counts))

pub bounds-job-load : goal.bounds-job-load
bounds-job-load c = let a = c.args in let q = c.requires in byte_there a.job.now (store a.p.now a.w.now) c.load.result c.load.ensures.word q.3

pub returns-then-byte-ne1 : goal.returns-then-byte-ne1
returns-then-byte-ne1 c = let a = c.args in let q = c.requires in wants_other a.job.now (store a.p.now a.w.now) c.load.result c.load.ensures.word q.3 a.p.now _ refl c.if-byte-ne1.true

pub row_count-requires : goal.row_count-requires
row_count-requires c = let a = c.args in let q = c.requires in (q.0, row_room a.job.now a.p.now q.1, q.2)

pub returns : goal.returns
returns c = let a = c.args in let q = c.requires in wants_rows a.job.now (store a.p.now a.w.now) c.load.result c.load.ensures.word q.3 a.p.now _ refl c.if-byte-ne1.false c.row_count.result c.row_count.ensures
