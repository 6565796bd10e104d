-- Children that have their numbers. Assumes nothing.
use Rattle.std.specs.Prelude.{false, List, ◌≡◌, ℕ, ◌<◌, length, get_or}
use Rattle.definition.specs.Building.{kids_of}
use Rattle.store.specs.Store.{Store}
use Rattle.store.specs.Regions.{GIVEN}
use Rattle.interner.specs.Nodes.{nodes_in}
use Rattle.rows.specs.Rowed.{is_bootstrap, HasNumber}
use Rattle.pool.specs.Pooled.{Has}

-- a child has its number: a bootstrap an index, anything else a slot
pub record ChildDone (p : List ℕ) (t : Store) (child : ℕ) : Type 0 where
  pub index : HasNumber p t child
  pub slot : is_bootstrap p t child ≡ false → Has (t GIVEN) child

-- every child of node k has
abbrev pub KidsDone : List ℕ → List ℕ → Store → ℕ → Type 0
KidsDone s p t k = (i : ℕ) → i < length (kids_of (nodes_in s t) k) → ChildDone p t (get_or (kids_of (nodes_in s t) k) i 0)

-- every child of node k has a slot
abbrev pub KidsSlotted : List ℕ → Store → ℕ → Type 0
KidsSlotted s t k = (i : ℕ) → i < length (kids_of (nodes_in s t) k) → Has (t GIVEN) (get_or (kids_of (nodes_in s t) k) i 0)
