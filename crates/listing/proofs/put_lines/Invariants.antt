-- `listing::put_lines` meets its contract. The loop keeps: the lines from its slot on are left. Assumes nothing.
use mathlib.Core.Path.{◌≡◌}
use Rattle.printing.proofs.Printing.{Rest}
use Rattle.listing.specs.Listing.{lines}
use Rattle.listing.specs.Views.{finished}
use Rattle.listing.proofs.Lines.{lines_left}
use Rattle.listing.proofs.put_lines.Given as goal

abbrev pub invariant-loop-slot : goal.invariant-loop-slot
invariant-loop-slot l =
    (l.printer.out.ghost_name ≡ l.initial.printer.out.ghost_name)
    × Rest l.initial.printer (lines (finished l.pool l.count l.methods)) l.printer (lines_left (finished l.pool l.count l.methods) l.slot)
