-- `job::skip_build` meets its contract. Assumes nothing.
use Rattle.job.proofs.Asking.{build-cut, build-name, build-to, class_slot, class_request, class_unknown}
use Rattle.std.specs.Prelude.{None}
use lib.ListN.{drop}
use Prim.Native.Nat.{◌+◌}
use native.Mathlib.Omega.{arith}
use Rattle.job.proofs.skip_build.Goals as goal

pub returns-then-job-at-lt2 : goal.returns-then-job-at-lt2
returns-then-job-at-lt2 c = let a = c.args in build-cut a.job.now a.at a.requests c.if-job-at-lt2.true

pub returns-then-job-at-gt2 : goal.returns-then-job-at-gt2
returns-then-job-at-gt2 c = let a = c.args in build-name a.job.now a.at a.requests (omega arith) c.if-job-at-gt2.true

pub returns-in-0 : goal.returns-in-0
returns-in-0 c = let a = c.args in
    let r = c.skip_raw_slot.result in
    build-to a.job.now a.at a.requests r (omega arith) c.if-job-at-gt2.false
    (rw c.in-0.is (class_slot a.job.now (a.at + 2) a.requests r c.skip_raw_slot.ensures))

pub returns-in-1 : goal.returns-in-1
returns-in-1 c = let a = c.args in
    let r = c.skip_number.result in
    build-to a.job.now a.at a.requests r (omega arith) c.if-job-at-gt2.false
    (rw c.in-1.is (class_request a.job.now (a.at + 2) a.requests r c.skip_number.ensures))

pub returns-in_default : goal.returns-in_default
returns-in_default c = let a = c.args in
    build-to a.job.now a.at a.requests None (omega arith) c.if-job-at-gt2.false
    (class_unknown _ (drop (a.at + 2) a.job.now) (omega arith))
