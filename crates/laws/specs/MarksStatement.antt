-- What is promised of the marks, which say how each answer was come by (document 02, No. 6): `Marks`, proved in proofs/reading/Marks.antt.
-- To be read as Statements.antt is. Assumes nothing.
use Rattle.std.specs.Prelude.{List, ◌↔◌, ◌≡◌, ℕ, ◌≤◌, ◌<◌, length}
use Rattle.std.proofs.Math.Option.{some}
use Rattle.std.proofs.Math.ListN.{get_elem?}
use Rattle.definition.specs.Basics.{good}
use Rattle.definition.specs.Job.{Definition, Request, Job}
use Rattle.definition.specs.Form.{form}
use Rattle.definition.specs.Resolving.{raw_number, table_entry}
use Rattle.definition.specs.Run.{Built, Lent, run}
use Rattle.laws.specs.LeadsStatement.{Leads}
use Rattle.laws.specs.Statements.{IsBytes}
use Rattle.laws.specs.SharedStatement.{Same}

-- a request before number i leads to the same constant as entry e
abbrev pub AskedBefore : List (Definition (List ℕ)) → List Request → ℕ → ℕ → Type 0
AskedBefore definitions requests i e =
    (j : ℕ) × (q : Request) × (e' : ℕ) × (j < i) × (get_elem? requests j ≡ some q) × Leads definitions q.what (table_entry e')
    × Same definitions (table_entry e') (table_entry e)

-- each request has a mark: raw (0), new (1) or old (2)
pub record MarkedBy (definitions : List (Definition (List ℕ))) (requests : List Request) (marks : List ℕ) : Type 0 where
  pub as_many_lem : length marks ≡ length requests
  pub low : (i m : ℕ) → get_elem? marks i ≡ some m → m ≤ 2
  -- it leads to a raw number
  pub raw_exactly :
      (i m : ℕ) (q : Request) → get_elem? requests i ≡ some q → get_elem? marks i ≡ some m → (m ≡ 0) ↔ ((n : ℕ) × Leads definitions q.what (raw_number n))
  -- it leads to an entry, and no earlier request to the same constant
  pub new_exactly :
      (i m : ℕ) (q : Request) → get_elem? requests i ≡ some q → get_elem? marks i ≡ some m →
      (m ≡ 1) ↔ ((e : ℕ) × Leads definitions q.what (table_entry e) × (AskedBefore definitions requests i e → ⊥))
  -- it leads to an entry, and an earlier request to the same constant
  pub old_exactly :
      (i m : ℕ) (q : Request) → get_elem? requests i ≡ some q → get_elem? marks i ≡ some m →
      (m ≡ 2) ↔ ((e : ℕ) × Leads definitions q.what (table_entry e) × AskedBefore definitions requests i e)

-- MARKS: an answer is raw exactly if its reference leads to a raw number; new exactly if it leads to an entry and no earlier request leads to
-- the same constant; old exactly if one does
abbrev pub Marks : Type 0
Marks =
    (bytes : List ℕ) (job : Job (List ℕ)) (lent : Lent) (b : Built) → IsBytes bytes → form bytes ≡ good job → run lent bytes ≡ good b →
    MarkedBy job.definitions job.requests b.marks
