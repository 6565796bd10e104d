-- `printing::escaped_at` meets its contract. Assumes nothing.
use mathlib.Core.List.{◌∷◌}
use mathlib.Core.Path.{◌≡◌}
use native.Mathlib.Omega.{arith}
use Rattle.printing.specs.Numbers.{escaped, hex_of}
use Rattle.printing.proofs.Printing.{then, ready, reworded}
use Rattle.printing.proofs.Shown.{escaped-quote, escaped-backslash, escaped-plain, escaped-low, escaped-high}
use Rattle.printing.proofs.escaped_at.Goals as goal
use Rattle.printing.proofs.escaped_at.Goals.{in_default-via-then-b-lt32, in_default-via-else-b-lt32+else-b-lt127}

pub hex_at-requires : goal.hex_at-requires
hex_at-requires c = (ready c.requires c.word_at-digits.ensures, omega arith, omega arith)

pub returns-in-34 : goal.returns-in-34
returns-in-34 c = reworded (escaped-quote c.args.b c.in-34.is) c.word_at.ensures

pub returns-in-92 : goal.returns-in-92
returns-in-92 c = reworded (escaped-backslash c.args.b c.in-92.is) c.word_at-in-92.ensures

pub returns-in-32-to-126 : goal.returns-in-32-to-126
returns-in-32-to-126 c = reworded (escaped-plain c.args.b (omega arith) (omega arith) (omega arith) (omega arith)) c.byte_at.ensures

pub returns-in_default : goal.returns-in_default
returns-in_default c = let b = c.args.b in
    let shown : 0x5c ∷ 0x78 ∷ hex_of 2 b ≡ escaped b =
    elim c.in_default.branch [ in_default-via-then-b-lt32 w ↦ escaped-low b (omega arith) (omega arith) (omega arith) | in_default-via-else-b-lt32+else-b-lt127 w ↦ escaped-high b (omega arith) (omega arith) (omega arith) ] in
    reworded shown (then c.requires c.word_at-digits.ensures c.hex_at.ensures)
