-- What is promised of two jobs that are alike but for their literals (demand 3 of the request): `Shape`, proved in proofs/reading/Shape.antt.
-- To be read as Statements.antt is. Assumes nothing.
use Rattle.std.specs.Prelude.{List, [], ◌⊎◌, ◌≢◌, ◌≡◌, ℕ, length, take}
use Rattle.std.proofs.Math.Option.{Option, none, some}
use Rattle.std.proofs.Math.ListN.{get_elem?}
use Rattle.definition.specs.Basics.{good, bad, Refusal}
use Rattle.definition.specs.Job.{Job}
use Rattle.definition.specs.Form.{form}
use Rattle.definition.specs.Numbering.{literals}
use Rattle.definition.specs.Layout.{Layout}
use Rattle.definition.specs.Run.{Built, render, Lent, run}
use Rattle.definition.specs.Jvms.{Shown}
use Rattle.jvms.specs.Pool.{Slot, read_pool_lem}
use Rattle.laws.specs.AsEntries.{as_shown}
use Rattle.laws.specs.Statements.{IsBytes, Alike}

-- what two constants of a tag show for a literal: each its own job's, from one place of the two lists of literals (which have one for
-- "BootstrapMethods" and one for each entry); or nothing in both, as the text of an unowned slot and a tag that has no literal
abbrev pub OwnLiterals : Job (List ℕ) → Job (List ℕ) → ℕ → List ℕ → List ℕ → Type 0
OwnLiterals j₁ j₂ tag a₁ a₂ =
    ((i : ℕ) × (get_elem? (literals j₁) i ≡ some (tag, a₁)) × (get_elem? (literals j₂) i ≡ some (tag, a₂))) ⊎ ((a₁ ≡ []) × (a₂ ≡ []))

-- two slots differ only in the literals: both show nothing, or constants with one tag, kind byte and references
unfoldable pub SlotsAlike : Job (List ℕ) → Job (List ℕ) → Shown → Shown → Type 0
SlotsAlike j₁ j₂ none none = Unit {0}
SlotsAlike j₁ j₂ none (some y₂) = ⊥
SlotsAlike j₁ j₂ (some y₁) none = ⊥
SlotsAlike j₁ j₂ (some y₁) (some y₂) =
    (y₁.tag ≡ y₂.tag) × (y₁.byte ≡ y₂.byte) × (y₁.kids ≡ y₂.kids) × OwnLiterals j₁ j₂ y₁.tag y₁.literal y₂.literal

-- so do two pools, slot by slot, as JVMS reads them
abbrev pub PoolsAlike : Job (List ℕ) → Job (List ℕ) → List ℕ → List ℕ → Type 0
PoolsAlike j₁ j₂ bytes₁ bytes₂ =
    (pool₁ : List Slot) × (pool₂ : List Slot) × (read_pool_lem bytes₁ ≡ some pool₁) × (read_pool_lem bytes₂ ≡ some pool₂) × (length pool₁ ≡ length pool₂)
    × ((i : ℕ) (s₁ s₂ : Slot) → get_elem? pool₁ i ≡ some s₁ → get_elem? pool₂ i ≡ some s₂ → SlotsAlike j₁ j₂ (as_shown s₁) (as_shown s₂))

-- and two class names: there is none in both, or each is its own job's text
unfoldable pub ClassesAlike : Job (List ℕ) → Job (List ℕ) → Option (List ℕ) → Option (List ℕ) → Type 0
ClassesAlike j₁ j₂ none none = Unit {0}
ClassesAlike j₁ j₂ none (some a₂) = ⊥
ClassesAlike j₁ j₂ (some a₁) none = ⊥
ClassesAlike j₁ j₂ (some a₁) (some a₂) = OwnLiterals j₁ j₂ 1 a₁ a₂

-- SHAPE: two jobs that are alike but for their literals, not refused for length, work or room, are refused alike (one number, at one place), or
-- get one layout, in which each shows its own literals (`render`, which uses them only in the pool's entries and the class name), and the same answers and
-- marks, counts, bootstrap bytes, name and visits; and, if they are bytes, their pools as JVMS reads them and their class names differ only in the literals
abbrev pub Shape : Type 0
Shape =
    (bytes₁ bytes₂ : List ℕ) (j₁ j₂ : Job (List ℕ)) (lent₁ lent₂ : Lent) → form bytes₁ ≡ good j₁ → form bytes₂ ≡ good j₂ → Alike j₁ j₂ →
    let enough : Lent → List ℕ → Type 0 = λ n job. (r : Refusal) → run n job ≡ bad r → (r.code ≢ 1) × (r.code ≢ 2) × (r.code ≢ 18) in
    enough lent₁ bytes₁ → enough lent₂ bytes₂ →
    ((r : Refusal) × (run lent₁ bytes₁ ≡ bad r) × (run lent₂ bytes₂ ≡ bad r))
    ⊎ ((l : Layout) × (b₁ : Built) × (b₂ : Built) × (run lent₁ bytes₁ ≡ good b₁) × (run lent₂ bytes₂ ≡ good b₂)
    × (b₁ ≡ render (literals j₁) l) × (b₂ ≡ render (literals j₂) l) × (b₁.answers ≡ b₂.answers) × (b₁.marks ≡ b₂.marks)
    × (take 2 b₁.pool ≡ take 2 b₂.pool)
    × (b₁.bootstrap_count ≡ b₂.bootstrap_count) × (b₁.bootstraps ≡ b₂.bootstraps) × (b₁.name ≡ b₂.name) × (b₁.visits ≡ b₂.visits)
    × (IsBytes bytes₁ → IsBytes bytes₂ → PoolsAlike j₁ j₂ b₁.pool b₂.pool × ClassesAlike j₁ j₂ b₁.class b₂.class))
