-- `output::wide_before` meets its contract. Assumes nothing.
use mathlib.Core.Path.{sym, ap, ◌∙◌}
use mathlib.Core.Bool.{false}
use Prim.Native.Nat.{◌-◌}
use native.Mathlib.Omega.{arith}
use Rattle.output.specs.Contents.{wide_in}
use Rattle.store.specs.Store.{store}
use Rattle.output.proofs.Holding.{owner_is, wide_first, wide_later}
use Rattle.output.proofs.wide_before.Goals as goal

pub returns-then-slot-lt2 : goal.returns-then-slot-lt2
returns-then-slot-lt2 c = let a = c.args in sym (wide_first a.job.now (store a.p.now a.w.now) (a.slot - 1) (omega arith))

pub overflow_sub-slot : goal.overflow_sub-slot
overflow_sub-slot c = omega arith

pub owner_of-requires : goal.owner_of-requires
owner_of-requires c = let q = c.requires in (q.0, q.2, omega arith, omega arith)

pub is_wide-requires : goal.is_wide-requires
is_wide-requires c = let a = c.args in let q = c.requires in let t = store a.p.now a.w.now in (q.0, q.1, q.3.made, rw c.owner_of.ensures (owner_is a.job.now a.p.now t q.1 q.2 q.3 (a.slot - 1) false (omega arith)))

pub returns : goal.returns
returns c = let a = c.args in let t = store a.p.now a.w.now in c.is_wide.ensures ∙ ap (wide_in a.job.now t) c.owner_of.ensures ∙ sym (wide_later a.job.now t (a.slot - 1) (omega arith))
