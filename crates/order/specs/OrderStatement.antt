-- What is promised of two jobs whose definitions stand in another order (document 02, No. 11): `Order`, proved in proofs/Order.antt.
-- To be read as crates/laws/specs/Statements.antt is. Assumes nothing.
use Rattle.std.specs.Prelude.{Bool, false, ◌&&◌, not, List, [], ◌∷◌, ◌++◌, ◌↔◌, ◌≢◌, ◌≡◌, ℕ, leb, length}
use Rattle.std.proofs.Math.Option.{Option, none, some}
use Rattle.definition.specs.Basics.{good, bad, Refusal, same, only, concat}
use Rattle.definition.specs.Job.{Definition, read_definition}
use Rattle.definition.specs.Form.{form}
use Rattle.definition.specs.Run.{Lent, Built, run}
use Rattle.facts.specs.Lists.{Among}

-- a record of the definitions as it stands in a job: its first byte, and behind it what reads as a definition with nothing left
unfoldable pub read_record : List ℕ → Option (Definition (List ℕ) × List ℕ)
read_record [] = none
read_record (first ∷ body) = read_definition first body

abbrev pub IsRecord : List ℕ → Type 0
IsRecord r = (d : Definition (List ℕ)) × (read_record r ≡ some (d, []))

-- a job: the records of its definitions, then 50, then its requests and build record as they are
abbrev pub job_of : List (List ℕ) → List ℕ → List ℕ
job_of records rest = concat records ++ 0x50 ∷ rest

-- a record 41 to 44
unfoldable pub moves : List ℕ → Bool
moves [] = false
moves (first ∷ body) = leb 0x41 first && leb first 0x44

-- the same records, each as often in the one as in the other, and those that aren't 41 to 44 (the entries, and 47 to 49) in their old order
pub record Moved (rs₁ rs₂ : List (List ℕ)) : Type 0 where
  pub same_records : (r : List ℕ) → length (only (same r) rs₁) ≡ length (only (same r) rs₂)
  pub old_order : only (λ r. not (moves r)) rs₁ ≡ only (λ r. not (moves r)) rs₂

-- well formed: the form pass doesn't refuse with 3, 4 or 5. That 4 doesn't apply is that each entry stands ahead of the records that cite it
-- by number. (Document 01 names 1 too: the two are of one length, so it applies to both or to neither, and isn't needed)
abbrev pub WellFormed : List ℕ → Type 0
WellFormed bytes = (r : Refusal) → form bytes ≡ bad r → (r.code ≢ 3) × (r.code ≢ 4) × (r.code ≢ 5)

-- ORDER: two well-formed jobs whose definitions are the same records, some 41 to 44 elsewhere among them, and which are the same from 50 on:
-- what one gives, visits included, the other gives too, with the same lent sizes; so one is accepted exactly when the other is. Every job that
-- the form pass lets through is such a row of records, in one way (job_in_records, one_row, proofs/RecordsOfJobs.antt)
abbrev pub Order : Type 0
Order =
    (rs₁ rs₂ : List (List ℕ)) (rest : List ℕ) (lent : Lent) →
    ((r : List ℕ) → Among r rs₁ → IsRecord r) →
    Moved rs₁ rs₂ →
    WellFormed (job_of rs₁ rest) →
    WellFormed (job_of rs₂ rest) →
    (b : Built) → (run lent (job_of rs₁ rest) ≡ good b) ↔ (run lent (job_of rs₂ rest) ≡ good b)
