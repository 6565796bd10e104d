-- What every section shares: results that may be refusals, tests on lists, and tables with numbers for keys. Assumes nothing.
use Rattle.std.specs.Prelude.{Bool, true, false, ◌&&◌, List, [], ◌∷◌, ◌++◌, ℕ, zero, suc, eqb, ltb}
use Rattle.std.proofs.Math.Option.{Option, none, some}

-- a result, or a refusal
pub data Result (E A : Type 0) : Type 0 where
  good : A → Result E A
  bad : E → Result E A

-- what comes next, if nothing was refused: a refusal ends the run
infixl 10 ◌>>=◌
abbrev pub ◌>>=◌ : {E A B : Type 0} → Result E A → (A → Result E B) → Result E B
◌>>=◌ (good a) f = f a
◌>>=◌ (bad e) f = bad e

-- a refusal's number and its place: a record, in a block file a block, and while building a node
pub record Refusal : Type 0 where
  pub code : ℕ
  pub place : ℕ

-- a refusal number, met while the record, block or node `place` is in turn
unfoldable pub at_record : {A : Type 0} → ℕ → Result ℕ A → Result Refusal A
at_record place (good a) = good a
at_record place (bad code) = bad (record { code = code; place = place })

-- refuses with this number unless the test holds
unfoldable pub unless : Bool → ℕ → Result ℕ (Unit {0})
unless true code = good tt
unless false code = bad code

-- equal lists of numbers
unfoldable pub same : List ℕ → List ℕ → Bool
same [] [] = true
same [] (y ∷ ys) = false
same (x ∷ xs) [] = false
same (x ∷ xs) (y ∷ ys) = eqb x y && same xs ys

-- the place of the first that passes, and the length if none does
unfoldable pub position : {A : Type 0} → (A → Bool) → List A → ℕ
position p [] = 0
position p (x ∷ xs) = elim (p x) [ true ↦ 0 | false ↦ suc (position p xs) ]

-- every one passes
unfoldable pub every : {A : Type 0} → (A → Bool) → List A → Bool
every p [] = true
every p (x ∷ xs) = p x && every p xs

-- those that pass, in their order
unfoldable pub only : {A : Type 0} → (A → Bool) → List A → List A
only p [] = []
only p (x ∷ xs) = elim (p x) [ true ↦ x ∷ only p xs | false ↦ only p xs ]

-- all lists joined
unfoldable pub concat : {A : Type 0} → List (List A) → List A
concat [] = []
concat (l ∷ ls) = l ++ concat ls

-- what a table with numbers for keys has at a key
unfoldable pub lookup : {A : Type 0} → ℕ → List (ℕ × A) → Option A
lookup k [] = none
lookup k (r ∷ rs) = elim (eqb k r.0) [ true ↦ some r.1 | false ↦ lookup k rs ]

-- a table with a new key, where the keys rise
unfoldable pub insert : {A : Type 0} → ℕ → A → List (ℕ × A) → List (ℕ × A)
insert k a [] = (k, a) ∷ []
insert k a (r ∷ rs) = elim (ltb k r.0) [ true ↦ (k, a) ∷ r ∷ rs | false ↦ r ∷ insert k a rs ]

-- the list f i, f (i + 1), .. of n
unfoldable pub from : {A : Type 0} → (ℕ → A) → ℕ → ℕ → List A
from f i zero = []
from f i (suc n) = f i ∷ from f (suc i) n
