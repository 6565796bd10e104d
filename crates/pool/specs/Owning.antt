-- Which nodes slots hold, and which of them wait on the building stack. Assumes nothing.
use Rattle.std.specs.Prelude.{◌⊎◌, ◌≡◌, ℕ, suc, ◌<◌, get_or}
use Rattle.store.specs.Store.{Store}
use Rattle.store.specs.Regions.{MARKS, GIVEN, RAW-KEYS, RAW-ENTRIES, PENDING}
use Rattle.store.specs.Words.{ENTRY, HALF}
use Rattle.raws.specs.Raws.{raw_count}
use Rattle.pool.specs.Pooled.{pending_count}

-- node k became that of raw slot i, which isn't a second half
pub record RawOwner (t : Store) (i k : ℕ) : Type 0 where
  pub inside : i < raw_count t
  pub slot : get_or (t RAW-KEYS) i 0 < ENTRY
  pub whole : get_or (t RAW-ENTRIES) i 0 ≡ HALF → ⊥
  pub node : get_or (t MARKS) (get_or (t RAW-ENTRIES) i 0) 0 ≡ suc (suc k)

-- a slot holds node k: one that it was given, or a raw one
abbrev pub IsOwner : Store → ℕ → Type 0
IsOwner t k = (0 < get_or (t GIVEN) k 0) ⊎ ((i : ℕ) × RawOwner t i k)

-- it is on the building stack
abbrev pub OnStack : Store → ℕ → Type 0
OnStack t k = (i : ℕ) × (i < pending_count t) × (get_or (t PENDING) i 0 ≡ k)
