-- `interner::same_literal` meets its contract: one was worked out, or the stretches are the literals of the entries. Assumes nothing.
use Rattle.interner.proofs.Runs.{run, same_slices}
use Rattle.interner.proofs.Words.{same-sym}
use mathlib.Core.Path.{◌∙◌}
use Prim.Native.Nat.{◌-◌}
use Rattle.interner.proofs.same_literal.Goals as goal

pub returns-then-is_worked-2 : goal.returns-then-is_worked-2
returns-then-is_worked-2 c = λ x next f y end g. c.same_worked-then-is_worked-2.ensures y end g x next f ∙ same-sym y.literal x.literal

pub returns : goal.returns
returns c = λ x next f y end g.
    let s = c.args.job.now in
    let a = c.literal_at-a.result in
    let b = c.literal_at-b.result in
    c.eq.ensures ∙ same_slices (run s a.start (a.end - a.start)) (run s b.start (b.end - b.start)) ∙ rw ((c.literal_at-a.ensures x next f).are, (c.literal_at-b.ensures y end g).are)
