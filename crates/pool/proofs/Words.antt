-- A child's slot, whether it has one, and how many words are 0. Assumes nothing.
use mathlib.Core.Bool.{Bool, true, false, cond, not}
use mathlib.Core.List.{List, [], ◌∷◌}
use mathlib.Core.Logic.{inl, inr}
use mathlib.Core.Option.{none, some}
use mathlib.Core.Path.{◌≡◌, refl, sym, ap, ◌∙◌}
use Prim.Native.Nat.{ℕ, zero, suc, ◌-◌, ◌≤◌, ◌<◌}
use native.Mathlib.Omega.{arith}
use lib.ListN.{length, get_or, set}
use lib.Dec.{eqb}
use borrow.Author.Tests.{lt-ltb, le-ltb, eqb-true, eqb-false, not-true, not-false}
use Rattle.facts.proofs.Lists.{true≢false}
use Rattle.store.specs.Store.{among}
use Rattle.store.specs.Words.{ENTRY, child_slot}
use Rattle.pool.specs.Pooled.{slot_word, Has, Lacks, zeros}

-- A CHILD'S SLOT

pub child_raw : (given : List ℕ) (child : ℕ) → child < ENTRY → child_slot given child ≡ child
unfolding child_slot
child_raw given child h = rw (lt-ltb child ENTRY h, child_slot)

pub child_node : (given : List ℕ) (child : ℕ) → ENTRY ≤ child → child_slot given child ≡ get_or given (child - ENTRY) 0
unfolding child_slot
child_node given child h = rw (le-ltb child ENTRY h, child_slot)

-- a child that has a slot keeps it as long as nodes do
pub child_kept :
    (given later : List ℕ) (child : ℕ) → Has given child → ((k : ℕ) → 0 < get_or given k 0 → get_or later k 0 ≡ get_or given k 0) →
    child_slot later child ≡ child_slot given child
child_kept given later child (inl h) keeps = child_raw later child h ∙ sym (child_raw given child h)
child_kept given later child (inr (h, l)) keeps =
    child_node later child h ∙ keeps (child - ENTRY) l ∙ sym (child_node given child h)

pub has_kept :
    (given later : List ℕ) (child : ℕ) → Has given child → ((k : ℕ) → 0 < get_or given k 0 → get_or later k 0 ≡ get_or given k 0) → Has later child
has_kept given later child (inl h) keeps = inl h
has_kept given later child (inr (h, l)) keeps = inr (h, omega (arith, keeps (child - ENTRY) l))

-- what the word of a child that isn't a raw number tells
pub told : (given : List ℕ) (child r : ℕ) → ENTRY ≤ child → r ≡ get_or given (child - ENTRY) 0 → (not (eqb r 0) ≡ true → Has given child) × (not (eqb r 0) ≡ false → Lacks given child)
told given child r h e = (
  λ t. inr (h, let z = eqb-false r 0 (not-true (eqb r 0) t) in omega (arith, z)),
  λ t. (h, sym e ∙ eqb-true r 0 (not-false (eqb r 0) t)),
)

-- OTHERS THAN SOME

pub not-among : (c x : ℕ) (l : List ℕ) → among c (x ∷ l) ≡ false → (c ≡ x → ⊥) × (among c l ≡ false)
not-among c x l = ways (eqb c x) refl
  where
    ways : (b : Bool) → eqb c x ≡ b → cond b true (among c l) ≡ false → (c ≡ x → ⊥) × (among c l ≡ false)
    ways true e f = true≢false f
    ways false e f = (eqb-false c x e, f)

-- WORDS OF SLOTS

pub word_none : (n : ℕ) → n ≡ 0 → slot_word n ≡ none
unfolding slot_word
word_none zero e = refl
word_none (suc n) e = absurd (omega arith)

pub word_some : (n : ℕ) → 0 < n → slot_word n ≡ some n
unfolding slot_word
word_some zero h = absurd (omega arith)
word_some (suc n) h = refl

-- ZEROS

-- a word that is 0 is one of them
pub zeros-some : (words : List ℕ) (k : ℕ) → k < length words → get_or words k 0 ≡ 0 → 1 ≤ zeros words
unfolding zeros
zeros-some [] k h e = absurd (omega arith)
zeros-some (zero ∷ words) k h e = omega arith
zeros-some (suc n ∷ words) zero h e = absurd (omega arith)
zeros-some (suc n ∷ words) (suc k) h e = zeros-some words k (omega arith) e

-- and once it is written there is one less
pub zeros-less : (words : List ℕ) (k x : ℕ) → k < length words → get_or words k 0 ≡ 0 → 0 < x → suc (zeros (set words k x)) ≡ zeros words
unfolding zeros
zeros-less [] k x h e l = absurd (omega arith)
zeros-less (zero ∷ words) zero zero h e l = absurd (omega arith)
zeros-less (zero ∷ words) zero (suc x) h e l = refl
zeros-less (suc n ∷ words) zero x h e l = absurd (omega arith)
zeros-less (zero ∷ words) (suc k) x h e l = ap suc (zeros-less words k x (omega arith) e l)
zeros-less (suc n ∷ words) (suc k) x h e l = zeros-less words k x (omega arith) e l
