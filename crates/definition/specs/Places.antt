-- The record that a refusal met while building is told at (document 02, No. 9): for a node the lowest among those of the entries that
-- became it. Assumes nothing.
use Rattle.std.specs.Prelude.{Bool, true, false, not, List, [], ◌∷◌, ◌++◌, ℕ, suc, eqb, get_or}
use Rattle.definition.specs.Basics.{Result, good, bad, Refusal, position}
use Rattle.definition.specs.Shapes.{Entry}
use Rattle.definition.specs.Job.{Reference, Definition, define, named, placed, setting}
use Rattle.definition.specs.Numbering.{is_bootstrap}
use Rattle.definition.specs.Resolving.{Mark, fresh, underway, done}

-- the records of the entries that pass, from record `place` on
unfoldable pub records_of : {L : Type 0} → (Entry L Reference → Bool) → ℕ → List (Definition L) → List ℕ
records_of p place [] = []
records_of p place (define e ∷ rest) = elim (p e) [ true ↦ place ∷ records_of p (suc place) rest | false ↦ records_of p (suc place) rest ]
records_of p place (named kind s r ∷ rest) = records_of p (suc place) rest
records_of p place (placed kind at number ∷ rest) = records_of p (suc place) rest
records_of p place (setting s ∷ rest) = records_of p (suc place) rest

-- the record of each entry of the one table
unfoldable pub table_records : {L : Type 0} → List (Definition L) → List ℕ
table_records definitions = records_of (λ e. not (is_bootstrap e)) 0 definitions ++ records_of is_bootstrap 0 definitions

-- an entry became node k
unfoldable pub became : ℕ → Mark → Bool
became k fresh = false
became k underway = false
became k (done n) = eqb k n

-- a node's record: the entries that became it are all constants or all bootstraps, and the records of either rise, so the first of them
-- has the lowest
unfoldable pub record_of : List ℕ → List Mark → ℕ → ℕ
record_of records marks k = get_or records (position (became k) marks) 0

-- a refusal at a node, told at its record
unfoldable pub at_nodes : {A : Type 0} → List ℕ → List Mark → Result Refusal A → Result Refusal A
at_nodes records marks (good a) = good a
at_nodes records marks (bad r) = bad (record { code = r.code; place = record_of records marks r.place })
