-- What is promised of texts and their units (document 02, No. 8), as statements about the definition. Assumes nothing. How to read them:
-- Statements.antt
use Rattle.std.specs.Prelude.{true, List, ◌≡◌, ℕ, ◌≤◌, ◌<◌, length, get_or}
use Rattle.std.proofs.Math.Option.{some}
use Rattle.definition.specs.Basics.{good}
use Rattle.definition.specs.Texts.{units_of, is_text, text_of, read_text, write_text}

-- units of sixteen bits
abbrev pub IsUnits : List ℕ → Type 0
IsUnits l = (i : ℕ) → get_or l i 0 < 65536

-- UNITS BACK: units written and read come back the same
abbrev pub UnitsBack : Type 0
UnitsBack =
    (room room' : ℕ) (l text : List ℕ) → IsUnits l → write_text room l ≡ good text → length l ≤ room' → read_text room' text ≡ good l

-- WRITTEN TEXTS: what is written always passes
abbrev pub WrittenTexts : Type 0
WrittenTexts = (room : ℕ) (l text : List ℕ) → IsUnits l → write_text room l ≡ good text → is_text text ≡ true

-- READ TEXTS: what is read of a text are units of sixteen bits, and the form that JVMS 4.4.7 lays down for them is a text of the same units
abbrev pub ReadTexts : Type 0
ReadTexts =
    (room : ℕ) (text l : List ℕ) → read_text room text ≡ good l → IsUnits l × (is_text (text_of l) ≡ true) × (units_of (text_of l) ≡ some l)
