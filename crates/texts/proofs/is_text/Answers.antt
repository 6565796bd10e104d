-- `texts::is_text` meets its contract. By what was counted. Assumes nothing.
use mathlib.Core.List.{List}
use mathlib.Core.Option.{none, some}
use mathlib.Core.Path.{◌≡◌, sym, ◌∙◌}
use Prim.Native.Nat.{ℕ}
use Rattle.std.specs.Prelude.{Option, None, Some, MatchOption}
use Rattle.std.specs.Option.{is_some}
use Rattle.definition.specs.Texts.{units_of, is_text}
use Rattle.texts.specs.Forms.{count_of}
use Rattle.texts.proofs.Reading.{is_text_lem, not-text}
use Rattle.texts.proofs.is_text.Goals as goal

is_some-counted :
    (text : List ℕ) (o : Option ℕ) → MatchOption o (none ≡ count_of (units_of text)) (λ n. some n ≡ count_of (units_of text)) →
    is_some o ≡ is_text text
is_some-counted text None e = sym (not-text 0 text e)
is_some-counted text (Some n) e = sym (is_text_lem 0 text n e)

pub returns : goal.returns
returns c = c.is_some.ensures ∙ is_some-counted c.args.bytes.now c.count_units.result c.count_units.ensures
