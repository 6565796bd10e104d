-- Only the first record can say the highest slot, so that the last to say it is the first. Assumes nothing.
use mathlib.Core.Bool.{Bool, true, false}
use mathlib.Core.List.{List, [], ◌∷◌}
use mathlib.Core.Path.{◌≡◌, refl, sym, ◌∙◌}
use Prim.Native.Nat.{ℕ, zero, suc}
use native.Mathlib.Omega.{arith}
use lib.Dec.{eqb}
use lib.ListN.{length}
use borrow.Author.Tests.{ne_eqb}
use Rattle.definition.specs.Basics.{good, unless}
use Rattle.definition.specs.Settings.{version, texts, highest, highest_of}
use Rattle.definition.specs.Slots.{highest_slot}
use Rattle.definition.specs.Job.{Definition, define, named, placed, setting}
use Rattle.definition.specs.Form.{Counts, nothing_yet, kind_of, one_more_lem, one_setting, with_broken, one_record, counted, may_stand, Definitions, form_definitions}
use Rattle.definition.specs.Numbering.{settings}
use Rattle.facts.proofs.Lists.{clash, true≢false}
use Rattle.facts.proofs.Results.{good_then, unless-good}
use Rattle.laws.proofs.Form.DefinitionsRead.{formed_end, formed_step}
use Rattle.laws.proofs.Form.HighestSlots.{definition_stands}
use Rattle.job.specs.Forms.{highest_with, highest_from}

-- no record 49 is among these
abbrev Silent : List (Definition (List ℕ)) → Type 0
Silent ds = ((top : ℕ) → highest_from top ds ≡ top) × (highest_of (settings ds) ≡ highest_slot)

silent_more :
    (n : Counts) (x : Definition (List ℕ)) (u : Unit {0}) (ds : List (Definition (List ℕ))) →
    eqb n.records 0 ≡ false → may_stand n x ≡ good u → Silent ds → Silent (x ∷ ds)
unfolding settings highest_of highest_from highest_with may_stand
silent_more n (define e) u ds late h l = l
silent_more n (named kind s r) u ds late h l = l
silent_more n (placed kind at number) u ds late h l = l
silent_more n (setting (version v)) u ds late h l = l
silent_more n (setting texts) u ds late h l = l
silent_more n (setting (highest top)) u ds late h l =
    good_then (unless (eqb n.records 0) 3) _ u h λ v e _. true≢false (sym (unless-good (eqb n.records 0) 3 v e) ∙ late)

more-than_none : (n : ℕ) → eqb (suc n) 0 ≡ false
more-than_none n = ne_eqb (suc n) 0 (λ e. absurd (omega arith))

counts_up : (x : Definition (List ℕ)) (n : Counts) → eqb (counted x n).records 0 ≡ false
unfolding counted one_record with_broken
counts_up (define e) n = more-than_none (one_more_lem (kind_of e.tag) n).records
counts_up (named kind s r) n = more-than_none n.records
counts_up (placed kind at number) n = more-than_none n.records
counts_up (setting rule) n = more-than_none (one_setting rule n).records

later_silent :
    (fuel : ℕ) (n : Counts) (place : ℕ) (bytes : List ℕ) (d : Definitions) →
    eqb n.records 0 ≡ false → form_definitions fuel n place bytes ≡ good d → Silent d.list
unfolding form_definitions settings highest_of highest_from
later_silent zero n place [] d late e = clash (cc)
later_silent zero n place (first ∷ bytes) d late e = clash (cc)
later_silent (suc fuel) n place [] d late e = clash (cc)
later_silent (suc fuel) n place (first ∷ bytes) d late e = ways (eqb first 0x50) refl (later_silent fuel)
  where
    ways :
        (b : Bool) →
        eqb first 0x50 ≡ b →
        ((n : Counts) (place : ℕ) (bytes : List ℕ) (d : Definitions) → eqb n.records 0 ≡ false → form_definitions fuel n place bytes ≡ good d → Silent d.list) →
        Silent d.list
    ways true s rest = let h = formed_end fuel n place first bytes d s e in rw h (λ top. refl, refl)
    ways false s rest =
        let h = formed_step fuel n place first bytes d s e in
        let r = h.0 in
        let t = definition_stands n first bytes r h.2 in
        rw h.4
        (silent_more n r.0 t.0 h.1.list late t.1 (rest (counted r.0 n) (suc place) r.1 h.1 (counts_up r.0 n) h.3))

first_says : (x : Definition (List ℕ)) (ds : List (Definition (List ℕ))) → Silent ds → highest_from highest_slot (x ∷ ds) ≡ highest_of (settings (x ∷ ds))
unfolding settings highest_of highest_from highest_with
first_says (define e) ds l = l.0 highest_slot ∙ sym l.1
first_says (named kind s r) ds l = l.0 highest_slot ∙ sym l.1
first_says (placed kind at number) ds l = l.0 highest_slot ∙ sym l.1
first_says (setting (version v)) ds l = l.0 highest_slot ∙ sym l.1
first_says (setting texts) ds l = l.0 highest_slot ∙ sym l.1
first_says (setting (highest top)) ds l = l.0 top

pub top-first : (s : List ℕ) (d : Definitions) → form_definitions (length s) nothing_yet 0 s ≡ good d → highest_from highest_slot d.list ≡ highest_of (settings d.list)
unfolding form_definitions settings highest_of highest_from
top-first [] d e = clash (cc)
top-first (first ∷ bytes) d e = ways (eqb first 0x50) refl
  where
    ways : (b : Bool) → eqb first 0x50 ≡ b → highest_from highest_slot d.list ≡ highest_of (settings d.list)
    ways true s = let h = formed_end (length bytes) nothing_yet 0 first bytes d s e in rw h
    ways false s =
        let h = formed_step (length bytes) nothing_yet 0 first bytes d s e in
        let r = h.0 in
        rw h.4 (first_says r.0 h.1.list (later_silent (length bytes) (counted r.0 nothing_yet) 1 r.1 h.1 (counts_up r.0 nothing_yet) h.3))
