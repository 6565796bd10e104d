-- The highest slot of a formed job is one that there is, and literals don't count in it. Assumes nothing.
use mathlib.Core.Bool.{Bool, true, false, ◌&&◌}
use mathlib.Core.List.{List, [], ◌∷◌, map}
use mathlib.Core.Path.{◌≡◌, refl, ap, ◌∙◌, sym}
use Prim.Native.Nat.{ℕ, zero, suc, ◌≤◌}
use native.Mathlib.Omega.{arith}
use lib.Dec.{eqb, leb}
use lib.ListN.{length}
use borrow.Author.Tests.{leb-true}
use Rattle.definition.specs.Basics.{good, unless}
use Rattle.definition.specs.Slots.{highest_slot}
use Rattle.definition.specs.Settings.{Setting, version, texts, highest, is_slot, highest_of}
use Rattle.definition.specs.Job.{Definition, define, named, placed, setting, Job, read_definition}
use Rattle.definition.specs.Form.{Counts, counted, whole, may_stand, has_room, cites_earlier, comes_out, form_definition, Definitions, form_definitions, form}
use Rattle.definition.specs.Numbering.{Literal, settings, top_of, literals, numbered_definition, numbered}
use Rattle.facts.proofs.Lists.{clash, both_true}
use Rattle.facts.proofs.Results.{good_then, unless-good}
use Rattle.laws.proofs.Form.DefinitionsRead.{no_entries, formed_definitions, formed_end, formed_step}

-- a definition in front of settings that are low leaves them low
abbrev Low : List (Definition (List ℕ)) → Type 0
Low ds = highest_of (settings ds) ≤ highest_slot

slot-low : (n : ℕ) → is_slot n ≡ true → n ≤ highest_slot
unfolding is_slot
slot-low n h = leb-true n highest_slot (both_true (leb 1 n) (leb n highest_slot) h).1

low-more : (n : Counts) (x : Definition (List ℕ)) (u : Unit {0}) (ds : List (Definition (List ℕ))) → may_stand n x ≡ good u → Low ds → Low (x ∷ ds)
unfolding settings highest_of may_stand
low-more n (define e) u ds h l = l
low-more n (named kind s r) u ds h l = l
low-more n (placed kind at number) u ds h l = l
low-more n (setting (version v)) u ds h l = l
low-more n (setting texts) u ds h l = l
low-more n (setting (highest top)) u ds h l =
    good_then (unless (eqb n.records 0) 3) _ u h λ _ _ g. slot-low top (unless-good (is_slot top) 26 u g)

-- a definition that is formed may stand where it stands
pub definition_stands :
    (n : Counts) (first : ℕ) (bytes : List ℕ) (r : Definition (List ℕ) × List ℕ) → form_definition n first bytes ≡ good r → (u : Unit {0}) × (may_stand n r.0 ≡ good u)
unfolding form_definition
definition_stands n first bytes r e =
    good_then (whole (read_definition first bytes)) _ r e λ x _ e₁.
    good_then (may_stand n x.0) _ r e₁ λ u stands e₂.
    good_then (unless (has_room n x.0) 5) _ r e₂ λ _ _ e₃.
    good_then (unless (cites_earlier n x.0) 4) _ r e₃ λ _ _ e₄.
    good_then (comes_out first bytes) _ r e₄ λ _ _ e₅.
    let same : x ≡ r = cc in
    (u, ap (λ (y : Definition (List ℕ) × List ℕ). may_stand n y.0) (sym same) ∙ stands)

definitions_low_lem :
    (fuel : ℕ) (n : Counts) (place : ℕ) (bytes : List ℕ) (d : Definitions) → form_definitions fuel n place bytes ≡ good d → Low d.list
unfolding form_definitions settings highest_of
definitions_low_lem zero n place [] d e = clash (cc)
definitions_low_lem zero n place (first ∷ bytes) d e = clash (cc)
definitions_low_lem (suc fuel) n place [] d e = clash (cc)
definitions_low_lem (suc fuel) n place (first ∷ bytes) d e = ways (eqb first 0x50) refl (definitions_low_lem fuel)
  where
    ways :
        (b : Bool) →
        eqb first 0x50 ≡ b →
        ((n : Counts) (place : ℕ) (bytes : List ℕ) (d : Definitions) → form_definitions fuel n place bytes ≡ good d → Low d.list) →
        Low d.list
    ways true s rest =
        let h = formed_end fuel n place first bytes d s e in
        rw h (omega arith)
    ways false s rest =
        let h = formed_step fuel n place first bytes d s e in
        let r = h.0 in
        let t = definition_stands n first bytes r h.2 in
        rw h.4 (low-more n r.0 t.0 h.1.list t.1 (rest (counted r.0 n) (suc place) r.1 h.1 h.3))

-- a formed job's highest slot is at most 65534
pub top-low : (bytes : List ℕ) (job : Job (List ℕ)) → form bytes ≡ good job → top_of job ≤ highest_slot
top-low bytes job e =
    let h = formed_definitions bytes job e in
    rw h.2 (definitions_low_lem (length bytes) no_entries 0 bytes h.0 h.1)

pub settings-numbered : (all : List Literal) (ds : List (Definition (List ℕ))) → settings (map (numbered_definition all) ds) ≡ settings ds
unfolding settings numbered_definition
settings-numbered all [] = refl
settings-numbered all (define e ∷ ds) = settings-numbered all ds
settings-numbered all (named kind s r ∷ ds) = settings-numbered all ds
settings-numbered all (placed kind at number ∷ ds) = settings-numbered all ds
settings-numbered all (setting rule ∷ ds) = ap (λ l. rule ∷ l) (settings-numbered all ds)

-- numbers for literals leave it
pub top-numbered : (job : Job (List ℕ)) → top_of (numbered job) ≡ top_of job
unfolding numbered
top-numbered job = ap highest_of (settings-numbered (literals job) job.definitions)
