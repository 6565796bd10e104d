-- `frames::writing::two_digits` meets its contract: what the printer left in the digits. Assumes nothing.
use mathlib.Core.List.{[], ◌∷◌}
use mathlib.Core.Path.{◌≡◌, refl, ◌∙◌}
use borrow.Author.Rules.{rules}
use Rattle.definition.specs.Ascii.{hex}
use Rattle.printing.proofs.Printing.{ended}
use Rattle.frames.proofs.Lines.{two_digits}
use Rattle.frames.proofs.writing.two_digits.Goals as goal

pub returns : goal.returns
returns c =
    let printed = c.put_hex in
    let shown : printed.new.self.out.now ≡ hex (c.args.b ∷ []) =
    two_digits c.args.b printed.new.self.out.now printed.new.self.at
    (ended c.new-printer.result printed.new.self c.new-printer.ensures.begins printed.ensures.text refl refl) in
    (search rules) ∙ shown
