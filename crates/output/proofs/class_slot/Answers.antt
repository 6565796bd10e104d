-- `output::class_slot` meets its contract: the form byte and the number are those that the build record's reader finds. Assumes nothing.
use mathlib.Core.Path.{refl}
use native.Mathlib.Omega.{arith}
use Rattle.store.specs.Store.{store}
use Rattle.store.specs.Regions.{ANSWERS}
use Rattle.store.specs.JobIn.{job_in}
use Rattle.output.proofs.Classes.{class_read, slot-told, request_told, asks-slot, asks-request}
use Rattle.output.proofs.class_slot.Goals as goal

pub load-at-requires : goal.load-at-requires
load-at-requires c = (c.requires.0, c.requires.1.counted)

pub overflow_add-at : goal.overflow_add-at
overflow_add-at c = omega (arith, c.load-at.ensures.small)

pub get-n-requires : goal.get-n-requires
get-n-requires c = let a = c.args in let q = c.requires in (class_read a.job.now c.load-at.result (job_in a.job.now).build (rw c.load-at.ensures.word q.1.build)).inside

pub overflow_add-at-2 : goal.overflow_add-at-2
overflow_add-at-2 c = omega (arith, c.load-at.ensures.small)

pub bounds-job-at : goal.bounds-job-at
bounds-job-at c = let a = c.args in let q = c.requires in omega (arith, (class_read a.job.now c.load-at.result (job_in a.job.now).build (rw c.load-at.ensures.word q.1.build)).inside)

pub returns-then-job-at-eq0 : goal.returns-then-job-at-eq0
returns-then-job-at-eq0 c = let a = c.args in let q = c.requires in let t = store a.p.now a.w.now in let r = class_read a.job.now c.load-at.result (job_in a.job.now).build (rw c.load-at.ensures.word q.1.build) in (slot-told (t ANSWERS) (job_in a.job.now).build.class c.get-n.result (asks-slot a.job.now c.load-at.result (job_in a.job.now).build r _ c.get-n.result refl c.get-n.ensures c.if-job-at-eq0.true), omega arith)

pub load-requires : goal.load-requires
load-requires c = let a = c.args in let q = c.requires in let r = class_read a.job.now c.load-at.result (job_in a.job.now).build (rw c.load-at.ensures.word q.1.build) in (q.0, q.1.asked c.get-n.result (asks-request a.job.now c.load-at.result (job_in a.job.now).build r _ c.get-n.result refl c.get-n.ensures c.if-job-at-eq0.false))

pub returns : goal.returns
returns c = let a = c.args in let q = c.requires in let t = store a.p.now a.w.now in let r = class_read a.job.now c.load-at.result (job_in a.job.now).build (rw c.load-at.ensures.word q.1.build) in (request_told (t ANSWERS) (job_in a.job.now).build.class c.get-n.result c.load.result (asks-request a.job.now c.load-at.result (job_in a.job.now).build r _ c.get-n.result refl c.get-n.ensures c.if-job-at-eq0.false) c.load.ensures.word, c.load.ensures.small)
