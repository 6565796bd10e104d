-- What contracts, statements and facts say of lists: that something stands in one, that numbers rise, and a table's
-- keys. Assumes nothing.
use Rattle.std.specs.Prelude.{List, [], ◌∷◌, map, ◌≡◌, ℕ, suc, ◌≤◌}
use Rattle.std.proofs.Math.Option.{some}
use Rattle.std.proofs.Math.ListN.{get_elem?}

-- stands in a list
abbrev pub Among : {A : Type 0} → A → List A → Type 0
Among a l = (i : ℕ) × (get_elem? l i ≡ some a)

-- numbers that rise from one on and end at another
abbrev pub Rising : ℕ → ℕ → List ℕ → Type 0
Rising low top [] = Unit {0}
Rising low top (n ∷ ns) = (low ≤ n) × (n ≤ top) × Rising (suc n) top ns

-- a table's keys
abbrev pub keys : {A : Type 0} → List (ℕ × A) → List ℕ
keys rows = map (λ r. r.0) rows
