-- UNITS BACK, WRITTEN TEXTS and READ TEXTS: units written and read come back the same, and what is written passes. Assumes nothing.
use mathlib.Core.Bool.{true, false}
use mathlib.Core.List.{List, [], ◌∷◌}
use mathlib.Core.Option.{Option, none, some}
use mathlib.Core.Path.{◌≡◌, refl, sym, ap, ◌∙◌}
use Prim.Native.Nat.{ℕ, zero, suc, ◌<◌}
use native.Mathlib.Omega.{arith}
use borrow.Author.Tests.{le-leb}
use lib.Dec.{leb}
use lib.ListN.{length}
use Rattle.definition.specs.Basics.{Result, good, bad, Refusal, at_record, unless, ◌>>=◌}
use Rattle.definition.specs.Texts.{units_of, is_text, text_of, read_text, write_text}
use Rattle.facts.proofs.Each.{Each}
use Rattle.facts.proofs.Results.{good_inj, bad≢good, passes, passed}
use Rattle.laws.specs.TextStatements.{IsUnits, UnitsBack, WrittenTexts, ReadTexts}
use Rattle.laws.proofs.Texts.UnitsRead.{units_small}
use Rattle.laws.proofs.Texts.UnitsWritten.{units-back}

each_unit : (l : List ℕ) → IsUnits l → Each (λ u. u < 65536) l
each_unit [] small = tt
each_unit (u ∷ l) small = (small 0, each_unit l (λ i. small (suc i)))

every-unit : (l : List ℕ) → Each (λ u. u < 65536) l → IsUnits l
every-unit [] small i = omega arith
every-unit (u ∷ l) small zero = small.0
every-unit (u ∷ l) small (suc i) = every-unit l small.1 i

-- what was written is the units' text
wrote : (room : ℕ) (l text : List ℕ) → write_text room l ≡ good text → text_of l ≡ text
unfolding write_text
wrote room l text e = good_inj (passed 0 18 (good (text_of l)) (leb (length (text_of l)) room) text e).1

-- the definition's reading, by the units
abbrev pub read_by : ℕ → Option (List ℕ) → Result Refusal (List ℕ)
read_by room o =
    elim o [
      | none ↦ bad (record { code = 25; place = 0 })
      | some l ↦ at_record 0 (unless (leb (length l) room) 18) >>= λ _. good l
    ]

-- bytes with these units are a text
with_units : (text l : List ℕ) → units_of text ≡ some l → is_text text ≡ true
unfolding is_text
with_units text l e = ap (λ o. elim o [ none ↦ false | some l ↦ true ]) e

pub units_back : UnitsBack
unfolding read_text
units_back room room' l text small e fits =
    ap (read_by room') (ap units_of (sym (wrote room l text e)) ∙ units-back l (each_unit l small))
    ∙ passes 0 18 (good l) (leb (length l) room') (le-leb (length l) room' fits)

pub written_texts : WrittenTexts
written_texts room l text small e =
    with_units text l (ap units_of (sym (wrote room l text e)) ∙ units-back l (each_unit l small))

-- what was read are the text's units
was_read : (room : ℕ) (text l : List ℕ) → read_text room text ≡ good l → units_of text ≡ some l
unfolding read_text
was_read room text l e = ways (units_of text) refl
  where
    ways : (o : Option (List ℕ)) → units_of text ≡ o → units_of text ≡ some l
    ways none q = bad≢good (sym (ap (read_by room) q) ∙ e)
    ways (some m) q =
        q ∙ ap some (good_inj (passed 0 18 (good m) (leb (length m) room) l (sym (ap (read_by room) q) ∙ e)).1)

pub read_texts : ReadTexts
read_texts room text l e =
    let small = units_small text l (was_read room text l e) in
    let back = units-back l small in
    (every-unit l small, with_units (text_of l) l back, back)
