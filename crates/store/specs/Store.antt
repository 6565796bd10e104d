-- The lent words as regions: region k is the words from place k of `p` up to place k + 1 of it. Assumes nothing.
use Rattle.std.specs.Prelude.{Bool, true, false, cond, List, [], ◌∷◌, ◌≡◌, ℕ, suc, ◌+◌, ◌-◌, ◌≤◌, ◌<◌, eqb, length, get_or, set}
use Rattle.definition.specs.Basics.{from}

-- what each region holds
abbrev pub Store : Type 0
Store = ℕ → List ℕ

-- how many words region k has
unfoldable pub size : List ℕ → ℕ → ℕ
size p k = get_or p (suc k) 0 - get_or p k 0

unfoldable pub store : List ℕ → List ℕ → Store
store p w k = from (λ i. get_or w (get_or p k 0 + i) 0) 0 (size p k)

-- a store with another list at region k; it computes at numerals, so that a region left alone is left alone by `refl`
abbrev pub over : Store → ℕ → List ℕ → Store
over s k l j = elim (eqb j k) [ true ↦ l | false ↦ s j ]

-- a store with another word at place i of region k
abbrev pub put : Store → ℕ → ℕ → ℕ → Store
put s k i x = over s k (set (s k) i x)

-- the places rise. It is shut, so that a search takes it whole from the premises
unfoldable pub Laid : List ℕ → Type 0
Laid p = (length p ≡ 33) × ((k : ℕ) → k < 32 → get_or p k 0 ≤ get_or p (suc k) 0)

-- the regions lie within the words
abbrev pub On : List ℕ → ℕ → Type 0
On p words = Laid p × (get_or p 32 0 ≤ words)

-- a word that a region's place can hold
abbrev pub IsWord : ℕ → Type 0
IsWord x = x < 4294967296

-- one word of the regions
pub record Read (s : Store) (k i r : ℕ) : Type 0 where
  pub word : r ≡ get_or (s k) i 0
  pub small : IsWord r

-- the number is one of the list
abbrev pub among : ℕ → List ℕ → Bool
among k [] = false
among k (x ∷ l) = cond (eqb k x) true (among k l)

-- every region but these is as it was
abbrev pub Kept : List ℕ → Store → Store → Type 0
Kept l s t = (k : ℕ) → among k l ≡ false → t k ≡ s k
