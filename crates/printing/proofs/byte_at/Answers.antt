-- `printing::byte_at` meets its contract. Assumes nothing.
use mathlib.Core.Path.{◌≡◌, sym, ◌∙◌}
use Prim.Native.Nat.{◌+◌}
use native.Mathlib.Omega.{arith}
use lib.ListN.{set}
use lib.Seq.{set_out}
use Rattle.printing.proofs.Printing.{byte_put, capped-in, capped-past}
use Rattle.printing.proofs.byte_at.Goals as goal
use Rattle.printing.proofs.byte_at.Goals.{then-at-out, else-at-out}

pub returns-then-at-room : goal.returns-then-at-room
returns-then-at-room c = let a = c.args in
    -- a store past the end is none
    let stored : c.if-at-out.out ≡ set a.out.now a.at a.b =
    elim c.if-at-out.branch [ then-at-out w ↦ w.out-is | else-at-out w ↦ w.out-is ∙ sym (set_out a.out.now a.at a.b (omega arith)) ] in
    byte_put a.out.now c.if-at-out.out a.room a.at a.b _ stored (sym (capped-in a.room _ (omega arith)))

pub returns-else-at-room : goal.returns-else-at-room
returns-else-at-room c = let a = c.args in
    let stored : c.if-at-out.out ≡ set a.out.now a.at a.b =
    elim c.if-at-out.branch [ then-at-out w ↦ w.out-is | else-at-out w ↦ w.out-is ∙ sym (set_out a.out.now a.at a.b (omega arith)) ] in
    byte_put a.out.now c.if-at-out.out a.room a.at a.b _ stored (omega (arith, capped-past a.room (a.at + 1) (omega arith)))
