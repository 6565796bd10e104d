-- Where the references of a job lead, as a relation, and that the definition follows it: `LeadsAsFollowed`, proved in
-- proofs/resolving/LeadsAsFollowed.antt. To be read as Statements.antt is. Assumes nothing.
use Rattle.std.specs.Prelude.{List, [], ◌∷◌, ◌↔◌, ◌≢◌, ◌≡◌, ℕ, ◌+◌, length}
use Rattle.std.proofs.Math.Option.{some}
use Rattle.std.proofs.Math.ListN.{get_elem?}
use Rattle.definition.specs.Basics.{good}
use Rattle.definition.specs.Shapes.{Kind, constant, bootstrap}
use Rattle.definition.specs.Job.{Reference, raw, entry, name, Definition, define, named, placed, setting, Job}
use Rattle.definition.specs.Form.{form}
use Rattle.definition.specs.Numbering.{constants_of}
use Rattle.definition.specs.Definitions.{Naming}
use Rattle.definition.specs.Resolving.{Goal, raw_number, table_entry, refusal, goal_of}
use Rattle.definition.specs.Run.{Built, Lent, run}

-- where a reference of a job leads: a raw number to itself; an entry's number to this entry of the one table, in which constants stand first
-- and then bootstraps; a name of a kind where the reference of a name record (41, 42) of this kind and name leads. A name that isn't defined,
-- and one that leads in a circle, leads nowhere
pub data Leads (definitions : List (Definition (List ℕ))) : Reference → Goal → Type 0 where
  to_number : (n : ℕ) → Leads definitions (raw n) (raw_number n)
  to_constant : (n : ℕ) → Leads definitions (entry constant n) (table_entry n)
  to_bootstrap : (n : ℕ) → Leads definitions (entry bootstrap n) (table_entry (length (constants_of definitions) + n))
  by_name :
      (i : ℕ) (kind : Kind) (s : List ℕ) (r : Reference) (goal : Goal) → get_elem? definitions i ≡ some (named kind s r) →
      Leads definitions r goal → Leads definitions (name kind s) goal

-- no name is defined twice for its kind
abbrev pub NamedOnce : {L : Type 0} → List (Definition L) → Type 0
NamedOnce {L} definitions =
    (i k : ℕ) (kind : Kind) (s : List ℕ) (r t : Reference) → get_elem? definitions i ≡ some (named kind s r) →
    get_elem? definitions k ≡ some (named kind s t) → i ≡ k

-- the name records of a job
unfoldable pub namings : List (Definition (List ℕ)) → List Naming
namings [] = []
namings (define e ∷ rest) = namings rest
namings (named kind s r ∷ rest) = record { kind = kind; label = s; target = r } ∷ namings rest
namings (placed kind at number ∷ rest) = namings rest
namings (setting rule ∷ rest) = namings rest

-- where the definition follows a reference of a job
abbrev pub goal_in : List (Definition (List ℕ)) → Reference → Goal
goal_in definitions r = goal_of (namings definitions) (length (constants_of definitions)) r

-- LEADS: a job that is built defines no name twice for its kind (11); and where none is, a reference leads exactly to where the definition
-- follows it, unless that is a refusal (12 or 13), so to one goal at most
abbrev pub LeadsAsFollowed : Type 0
LeadsAsFollowed =
    ((bytes : List ℕ) (job : Job (List ℕ)) (lent : Lent) (b : Built) → form bytes ≡ good job → run lent bytes ≡ good b →
    NamedOnce job.definitions)
    × ((definitions : List (Definition (List ℕ))) → NamedOnce definitions → (r : Reference) →
    ((goal : Goal) → Leads definitions r goal ↔ ((goal_in definitions r ≡ goal) × ((code : ℕ) → goal ≢ refusal code)))
    × ((goal₁ goal₂ : Goal) → Leads definitions r goal₁ → Leads definitions r goal₂ → goal₁ ≡ goal₂))
