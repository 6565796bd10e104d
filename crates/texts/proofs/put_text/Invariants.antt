-- `texts::put_text` meets its contract. The loop keeps: the text of the first units is written, and ends at `at`. Assumes nothing.
use mathlib.Core.Path.{◌≡◌}
use lib.ListN.{length, take}
use Rattle.definition.specs.Run.{overwrite}
use Rattle.definition.specs.Texts.{text_of}
use Rattle.texts.proofs.put_text.Given as goal

abbrev pub invariant-loop-unit : goal.invariant-loop-unit
invariant-loop-unit l = (l.at ≡ length (text_of (take l.unit-index l.units))) × (l.text ≡ overwrite (text_of (take l.unit-index l.units)) l.initial.text)
