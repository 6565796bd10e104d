-- `texts::six_bits` meets its contract. By the byte at the place. Assumes nothing.
use mathlib.Core.Path.{sym, ◌≡◌, ◌∙◌}
use Prim.Native.Nat.{◌<◌}
use native.Mathlib.Omega.{arith}
use borrow.Author.Tests.{ltb-true, lt-ltb, le-ltb}
use lib.ListN.{length, get_or}
use Rattle.texts.proofs.FormsRead.{six_past, six_low, six_high}
use Rattle.texts.proofs.six_bits.Goals as goal
use Rattle.texts.proofs.six_bits.Goals.{else-b-ge128-via-then-b-ge128+else-b-lt192, else-b-ge128-via-else-b-ge128}

pub returns-in_err-b : goal.returns-in_err-b
returns-in_err-b c = rw c.from_residual.ensures (sym (six_past c.args.bytes.now c.args.at c.in_err-b.ensures.lookup.3))

pub returns-then-b-lt192 : goal.returns-then-b-lt192
returns-then-b-lt192 c =
    let bytes = c.args.bytes.now in
    let at = c.args.at in
    let b = get_or bytes at 0 in
    let inside : at < length bytes = ltb-true _ _ (sym c.in_ok-b.ensures.lookup.0) in
    let here : c.in_ok-b.field-0.now ≡ b = grind (arith, c.in_ok-b.ensures.lookup.1) in
    (sym (six_high bytes at inside (omega arith)) ∙ lt-ltb b 0xc0 (omega arith), omega arith)

pub returns-else-b-ge128 : goal.returns-else-b-ge128
returns-else-b-ge128 c =
    let bytes = c.args.bytes.now in
    let at = c.args.at in
    let b = get_or bytes at 0 in
    let inside : at < length bytes = ltb-true _ _ (sym c.in_ok-b.ensures.lookup.0) in
    let here : c.in_ok-b.field-0.now ≡ b = grind (arith, c.in_ok-b.ensures.lookup.1) in
    elim c.else-b-ge128.branch [
      | else-b-ge128-via-then-b-ge128+else-b-lt192 w ↦
          sym (six_high bytes at inside (omega arith)) ∙ le-ltb b 0xc0 (omega arith)
      | else-b-ge128-via-else-b-ge128 w ↦ sym (six_low bytes at inside (omega arith))
    ]
