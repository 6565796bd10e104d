-- `poolrun_text::page::Page::put_byte` meets its contract. Assumes nothing.
use mathlib.Core.List.{[], ◌∷◌}
use mathlib.Core.Path.{◌≡◌, ap, ◌∙◌}
use Prim.Native.Nat.{◌/◌, ◌%◌}
use native.Mathlib.Omega.{arith}
use Rattle.definition.specs.Ascii.{hex_digit}
use Rattle.poolrun_text.specs.Page.{two_digits_lem}
use Rattle.poolrun_text.proofs.Putting.{then_prints, reprinted}
use Rattle.poolrun_text.proofs.page.Page.put_byte.Goals as goal

pub returns : goal.returns
unfolding two_digits_lem
returns c = let b = c.args.b in
    let high : b / 16 ≡ b / 16 % 16 = omega arith in
    let first = c.digit.ensures ∙ ap hex_digit high in
    reprinted (λ i. first i ∷ c.digit-2.ensures i ∷ []) (then_prints c.put.ensures c.put-2.ensures)
