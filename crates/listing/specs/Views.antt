-- What the listing's functions read, and the texts between what they open. Assumes nothing.
use Rattle.std.specs.Prelude.{List, [], ◌∷◌, ◌≡◌, ℕ}
use Rattle.std.proofs.Math.Option.{Option, none, some}
use Rattle.definition.specs.Basics.{lookup}
use Rattle.definition.specs.Ascii.{ascii}
use Rattle.jvms.specs.Pool.{read_pool_lem, read_bootstrap_methods}
use Rattle.places.specs.Standing.{Noted, MethodsNoted}
use Rattle.listing.specs.Listing.{Finished}

unfoldable pub or_none : {A : Type 0} → Option (List A) → List A
or_none none = []
or_none (some l) = l

-- the pool and the bootstrap methods that bytes are, and none where they are none
unfoldable pub finished : List ℕ → ℕ → List ℕ → Finished
finished pool count methods = record { slots = or_none (read_pool_lem pool); methods = or_none (read_bootstrap_methods count methods) }

-- bytes of a pool and of its bootstrap methods, with the tables of where each constant and each method begins
pub record Views (pool places : List ℕ) (count : ℕ) (methods table : List ℕ) : Type 0 where
  pub pool_read : read_pool_lem pool ≡ some (finished pool count methods).slots
  pub methods_read : read_bootstrap_methods count methods ≡ some (finished pool count methods).methods
  pub noted : Noted pool (finished pool count methods).slots places
  pub methods_noted : MethodsNoted methods (finished pool count methods).methods table

-- what stands between the two that a constant refers to, by its tag
unfoldable pub betweens : List (ℕ × List ℕ)
betweens = (9, ascii " . ") ∷ (10, ascii " . ") ∷ (11, ascii " . ") ∷ (12, ascii " : ") ∷ (17, ascii " by ") ∷ (18, ascii " by ") ∷ []

unfoldable pub between : ℕ → List ℕ
between tag = or_none (lookup tag betweens)
