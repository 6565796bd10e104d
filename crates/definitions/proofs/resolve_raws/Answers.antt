-- `definitions::resolve_raws` meets its contract. Assumes nothing.
use Rattle.definitions.proofs.Ends.{table_still, same-raw, raws_next, raws_refused, raws_end}
use Rattle.definitions.proofs.Rooms.{room}
use Rattle.store.specs.Regions.{NODE-HEADS, ORDER}
use Rattle.store.specs.Store.{size, store}
use native.Mathlib.Omega.{arith}
use mathlib.Core.Path.{refl}
use Rattle.std.proofs.lemmas.Result.{err_from_is_err_and}
use Rattle.refusal.specs.Numbers.{number, code_of}
use Rattle.definitions.proofs.Stepped.{number_above}
use borrow.Author.Rules.{rules}
use Rattle.definitions.proofs.resolve_raws.Goals as goal

pub load-n-requires : goal.load-n-requires
load-n-requires c = let a = c.args in (search rules, omega (arith, (room a.job.now a.p.now c.requires.1).counts))

pub resolve_raw-requires : goal.resolve_raw-requires
resolve_raw-requires c = let a = c.args in let h = c.requires in let l = c.loop-i in let far = l.invariant.2 in let n = c.load-n.ensures.word in let t = store a.p.now a.w.now in let u = store a.p.now l.w in (search rules, h.1, table_still a.job.now t u far.kept h.2, far.rests, omega (arith, h.4.room, n, c.loop-i-test.true), rw (far.kept ORDER refl) (h.4.inside l.i (omega (arith, n, c.loop-i-test.true))), rw (same-raw (size a.p.now NODE-HEADS) a.job.now t c.load-n.result u l.i far) (h.4.raws l.i (omega (arith, n, c.loop-i-test.true))), omega (arith, far.visits, h.4.few, n, c.loop-i-test.true))

pub returns-in_err-resolve_raw : goal.returns-in_err-resolve_raw
unfolding code_of
returns-in_err-resolve_raw c = let a = c.args in let l = c.loop-i in let far = l.invariant.2 in let t = store a.p.now a.w.now in let u = store a.p.now l.w in let e = c.in_err-resolve_raw.field-0.0 in let r = err_from_is_err_and c.from_residual.result c.from_residual.ensures.1 in
    rw (r.1, r.2) (rw c.load-n.ensures.word at (raws_refused (size a.p.now NODE-HEADS) a.job.now t c.load-n.result u l.i far c.loop-i-test.true _ (number e) (rw (same-raw (size a.p.now NODE-HEADS) a.job.now t c.load-n.result u l.i far) at c.in_err-resolve_raw.ensures) (λ z. omega (arith, number_above e))))

pub loop-i-preserved : goal.loop-i-preserved
unfolding code_of
loop-i-preserved c = let a = c.args in let l = c.loop-i in let far = l.invariant.2 in let t = store a.p.now a.w.now in let u = store a.p.now l.w in (search rules, omega (arith, c.loop-i-test.true), raws_next (size a.p.now NODE-HEADS) a.job.now t c.load-n.result u l.i far c.loop-i-test.true _ 0 (rw (same-raw (size a.p.now NODE-HEADS) a.job.now t c.load-n.result u l.i far) at c.in_ok-resolve_raw.ensures) refl)

pub returns : goal.returns
unfolding code_of
returns c = let a = c.args in let l = c.loop-i in let t = store a.p.now a.w.now in let u = store a.p.now l.w in rw c.load-n.ensures.word at (raws_end (size a.p.now NODE-HEADS) a.job.now t c.load-n.result u l.i l.invariant.2 (omega (arith, l.invariant.1, c.loop-i-test.false)))
