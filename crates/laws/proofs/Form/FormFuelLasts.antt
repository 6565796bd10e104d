-- The form pass over a byte string: its fuel lasts, nothing is refused with 0, and every raw number is below the nodes'. Assumes nothing.
use mathlib.Core.Bool.{Bool, true, false}
use mathlib.Core.List.{List, [], ◌∷◌}
use mathlib.Core.Path.{◌≡◌, refl}
use Prim.Native.Nat.{ℕ, zero, suc, ◌≤◌}
use native.Mathlib.Omega.{arith}
use lib.Dec.{eqb}
use lib.ListN.{length}
use Rattle.definition.specs.Basics.{at_record}
use Rattle.definition.specs.Form.{Counts, counted, form_definition, form_definitions, form_request, form_requests, form}
use Rattle.facts.proofs.Each.{Each}
use Rattle.facts.proofs.Results.{at_record-good}
use Rattle.facts.proofs.Outcomes.{Ends, well, refused, next, known, Anything, at_record-ends}
use Rattle.laws.specs.Statements.{IsBytes}
use Rattle.laws.proofs.Form.RefusalNumbers.{non_zero_lem, early_non_zero, added_non_zero, Coded}
use Rattle.laws.proofs.Form.ParsersYield.{Byte, each_byte}
use Rattle.laws.proofs.Form.FormedJobs.{formed_definition_lem, formed_request, form-formed}
use Rattle.laws.proofs.Form.RawNumbersLow.{JobLow, formed_low}
use Rattle.laws.proofs.Form.FormRefusals.{texts_held-ends, form_definition-ends, form_request-ends, form_build-ends}

-- a byte string of at most n
abbrev Within : ℕ → List ℕ → Type 0
Within n bytes = (length bytes ≤ n) × Each Byte bytes

-- more room doesn't hurt
roomier : (n m : ℕ) (bytes : List ℕ) → n ≤ m → Within n bytes → Within m bytes
roomier n m bytes h w = (omega (arith, w.0), w.1)

form_definitions-ends :
    (fuel : ℕ) (c : Counts) (place : ℕ) (bytes : List ℕ) →
    Within fuel bytes →
    Ends Coded (λ d. Within fuel d.rest) (form_definitions fuel c place bytes)
unfolding form_definitions
form_definitions-ends zero c place [] w = refused (non_zero_lem 3 tt)
form_definitions-ends zero c place (first ∷ bytes) w = absurd (omega arith)
form_definitions-ends (suc fuel) c place [] w = refused (non_zero_lem 3 tt)
form_definitions-ends (suc fuel) c place (first ∷ bytes) w = go (eqb first 0x50) refl (form_definitions-ends fuel)
  where
    go :
        (b : Bool) →
        eqb first 0x50 ≡ b →
        ((c' : Counts) (place' : ℕ) (bytes' : List ℕ) → Within fuel bytes' → Ends Coded (λ d. Within fuel d.rest) (form_definitions fuel c' place' bytes')) →
        Ends Coded (λ d. Within (suc fuel) d.rest) (form_definitions (suc fuel) c place (first ∷ bytes))
    go true e ih = rw (e, form_definitions) (well (roomier fuel (suc fuel) bytes (omega arith) (omega (arith, w.0), w.1.1)))
    go false e ih =
        rw
        (e, form_definitions)
        (next _
        (known (at_record place (form_definition c first bytes)) (at_record-ends place (form_definition-ends early_non_zero added_non_zero c first bytes))
        (λ r g. formed_definition_lem c first bytes r w.1.1 (at_record-good place (form_definition c first bytes) r g))) λ r h.
        next _ (texts_held-ends added_non_zero (counted r.0 c)) λ _ _.
        next _ (ih (counted r.0 c) (suc place) r.1 (omega (arith, w.0, h.2), h.1)) λ d k. well (roomier fuel (suc fuel) d.rest (omega arith) k))

form_requests-ends :
    (fuel : ℕ) (c : Counts) (requests place : ℕ) (bytes : List ℕ) → Within fuel bytes → Ends Coded Anything (form_requests fuel c requests place bytes)
unfolding form_requests
form_requests-ends zero c requests place [] w = refused (non_zero_lem 3 tt)
form_requests-ends zero c requests place (first ∷ bytes) w = absurd (omega arith)
form_requests-ends (suc fuel) c requests place [] w = refused (non_zero_lem 3 tt)
form_requests-ends (suc fuel) c requests place (first ∷ bytes) w = go (eqb first 0x60) refl (form_requests-ends fuel)
  where
    go :
        (b : Bool) →
        eqb first 0x60 ≡ b →
        ((c' : Counts) (requests' place' : ℕ) (bytes' : List ℕ) → Within fuel bytes' → Ends Coded Anything (form_requests fuel c' requests' place' bytes')) →
        Ends Coded Anything (form_requests (suc fuel) c requests place (first ∷ bytes))
    go true e ih = rw (e, form_requests) (next _ (form_build-ends early_non_zero requests place bytes) λ b _. well tt)
    go false e ih =
        rw
        (e, form_requests)
        (next _
        (known (at_record place (form_request c first bytes)) (at_record-ends place (form_request-ends early_non_zero c first bytes))
        (λ r g. formed_request c first bytes r w.1.1 (at_record-good place (form_request c first bytes) r g))) λ r h.
        next _ (ih c (suc requests) (suc place) r.1 (omega (arith, w.0, h.2), h.1)) λ rest k. well tt)

pub form-ends : (bytes : List ℕ) → IsBytes bytes → Ends Coded JobLow (form bytes)
unfolding form
form-ends bytes are = known (form bytes) all (λ job e. formed_low job (form-formed bytes job are e))
  where
    all : Ends Coded Anything (form bytes)
    all =
        next _ (form_definitions-ends (length bytes) _ 0 bytes (omega arith, each_byte bytes are)) λ d h.
        next _ (form_requests-ends (length bytes) d.counts 0 (suc (length d.list)) d.rest h) λ r k.
        well tt
