-- `poolrun_text::page::Page::put_hex` meets its contract. The loop keeps: the digits of the bytes so far are put. Assumes nothing.
use Rattle.std.proofs.Common.{◌≡◌, ◌+◌, ◌*◌, take}
use Rattle.definition.specs.Ascii.{hex}
use Rattle.poolrun_text.specs.Page.{Prints}
use Rattle.poolrun_text.proofs.page.Page.put_hex.Given as goal

abbrev pub invariant-loop-b : goal.invariant-loop-b
invariant-loop-b l = (l.self.at ≡ l.initial.self.at + 2 * l.b-index) × Prints l.initial.self l.self (hex (take l.b-index l.s))
