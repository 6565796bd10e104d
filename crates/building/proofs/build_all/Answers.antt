use Rattle.store.proofs.Stores.{length-store}
use Rattle.store.specs.Regions.{NODES}
use Rattle.store.specs.Store.{store}
use mathlib.Core.Path.{ap, ◌∙◌}
use Rattle.std.specs.Prelude.{Err}
use Rattle.std.proofs.lemmas.Result.{err_from_is_err_and}
use Rattle.refusal.specs.Numbers.{code_of}
use Rattle.pool.proofs.Codes.{code-good, code-refused, code-passed}
use borrow.Author.Rules.{rules}
use Rattle.building.proofs.build_all.Goals as goal
-- `building::build_all` meets its contract. Assumes nothing.
use Rattle.building.proofs.Whole.{standing_first, raws_refused, working_first, owners_first, built}

pub slot_raw_rows-requires : goal.slot_raw_rows-requires
slot_raw_rows-requires c = let a = c.args in let q = c.requires in let s = a.job.now in let p = a.p.now in let t = store p a.w.now in (search rules, q.1, standing_first s p a.version t a.gaps.now q.1 q.2, q.2.live)

pub returns-in_err-slot_raw_rows : goal.returns-in_err-slot_raw_rows
returns-in_err-slot_raw_rows c = let r = err_from_is_err_and c.from_residual.result c.from_residual.ensures.1 in rw (code-passed c.slot_raw_rows.result c.from_residual.result _ c.in_err-slot_raw_rows.was (r.1 ∙ ap Err r.2)) (let a = c.args in let q = c.requires in let s = a.job.now in let p = a.p.now in let t = store p a.w.now in let x = c.slot_raw_rows in let u = store p x.new.w in let h = x.new.gaps in raws_refused s p a.version t a.gaps.now q.1 q.2 u h (code_of x.result) x.ensures (code-refused x.result _ c.in_err-slot_raw_rows.was))

pub drain-requires : goal.drain-requires
drain-requires c = let a = c.args in let q = c.requires in let s = a.job.now in let p = a.p.now in let t = store p a.w.now in let x = c.slot_raw_rows in let u = store p x.new.w in let h = x.new.gaps in (search rules, q.1, working_first s p a.version t a.gaps.now q.1 q.2 u h (code_of x.result) x.ensures (code-good x.result _ c.in_ok-slot_raw_rows.was), owners_first s p a.version t a.gaps.now q.1 q.2 u h (code_of x.result) x.ensures (code-good x.result _ c.in_ok-slot_raw_rows.was))

pub returns : goal.returns
returns c = let a = c.args in let q = c.requires in let s = a.job.now in let p = a.p.now in let t = store p a.w.now in let x = c.slot_raw_rows in let u = store p x.new.w in let h = x.new.gaps in let y = c.drain in built s p a.version t a.gaps.now q.1 q.2 u h (code_of x.result) x.ensures (code-good x.result _ c.in_ok-slot_raw_rows.was) (length-store p a.w.now NODES) (store p y.new.w) y.new.gaps (code_of y.result) y.ensures (length-store p y.new.w NODES)
