-- A record 46 is the constant of its value (document 02, No. 3): the promise. Assumes nothing.
use Rattle.std.specs.Prelude.{true, false, List, [], ◌∷◌, ◌++◌, ◌≡◌, ℕ, zero, suc, ◌-◌, ◌≤◌, eqb, length, take}
use Rattle.std.proofs.Math.Option.{none, some}
use Rattle.definition.specs.Basics.{Result, good, bad}
use Rattle.definition.specs.Expression.{Number, tag_of, read_expression}
use Rattle.definition.specs.Form.{form}
use Rattle.definition.specs.Job.{Job, read_definition}
use Rattle.definition.specs.Run.{Lent, longest_job, enough, run}
use Rattle.definition.specs.Value.{bits_bytes, constant_in}

-- the record of a plain constant
unfoldable pub plain_constant : Result ℕ (Number × ℕ) → List ℕ
plain_constant (good n) = tag_of n.0 ∷ bits_bytes n.0 n.1
plain_constant (bad code) = []

-- a definition's record, in front of `rest`: a 46 as the plain constant of its value, any other as it is
unfoldable pub plain_record : ℕ → List ℕ → List ℕ → List ℕ
plain_record first bytes rest =
    elim (eqb first 0x46) [
      | true ↦ plain_constant (constant_in (read_expression bytes))
      | false ↦ first ∷ take (length bytes - length rest) bytes
    ]

-- all definitions so, up to 50 or to what can't be read; fuel is the bytes' number or more
unfoldable pub plain_from : ℕ → List ℕ → List ℕ
plain_from zero [] = []
plain_from zero (first ∷ bytes) = []
plain_from (suc fuel) [] = []
plain_from (suc fuel) (first ∷ bytes) =
    elim (eqb first 0x50) [
      | true ↦ first ∷ bytes
      | false ↦ elim (read_definition first bytes) [ none ↦ first ∷ bytes | some r ↦ plain_record first bytes r.1 ++ plain_from fuel r.1 ]
    ]

unfoldable pub plainly : List ℕ → List ℕ
plainly bytes = plain_from (length bytes) bytes

-- FOLDED: a job that the form pass accepts, with each 46 replaced by the plain constant of its value, is no longer and the form pass makes
-- the same job of it; so, lent what is enough for the first, both are refused alike or give the same result, visits included
abbrev pub Folded : Type 0
Folded =
    (bytes : List ℕ) (job : Job (List ℕ)) →
    form bytes ≡ good job →
    (length (plainly bytes) ≤ length bytes)
    × (form (plainly bytes) ≡ good job)
    × ((lent : Lent) → length bytes ≤ longest_job → enough (length bytes) lent ≡ true → run lent (plainly bytes) ≡ run lent bytes)
