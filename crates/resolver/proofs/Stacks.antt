-- The stack in the words: what lies below stays, and an entry's goals come on top of its leaving. Assumes nothing.
use mathlib.Core.List.{List, ◌∷◌, ◌++◌, map}
use mathlib.Core.Logic.{◌⊎◌, inl, inr, ⊎_elim}
use mathlib.Core.Path.{◌≡◌, refl, ap, ◌∙◌}
use Prim.Native.Nat.{ℕ, zero, suc, ◌+◌, ◌-◌, ◌≤◌, ◌<◌}
use native.Mathlib.Numerals.{add-one}
use native.Mathlib.Omega.{arith}
use lib.ListN.{length, get_or}
use Rattle.definition.specs.Basics.{from}
use Rattle.definition.specs.Resolving.{enter, leave}
use Rattle.store.specs.Words.{LEAVE, goal_word, item_word, IsGoal}
use Rattle.resolver.specs.Moves.{stack_of, IsItem}
use Rattle.resolver.proofs.Meanings.{item_goal, item_leave}
use Rattle.facts.proofs.Lists.{equal, order}

pub stack_same : (l m : List ℕ) (n : ℕ) → ((i : ℕ) → i < n → get_or l i 0 ≡ get_or m i 0) → stack_of l n ≡ stack_of m n
unfolding stack_of
stack_same l m zero h = refl
stack_same l m (suc n) h = rw (h n (omega arith), stack_same l m n (λ i k. h i (omega arith)))

pub stack_length : (l : List ℕ) (n : ℕ) → length (stack_of l n) ≡ n
unfolding stack_of
stack_length l zero = refl
stack_length l (suc n) = ap suc (stack_length l n)

-- n items of `old` are kept, then e is left, and over it lie the goals of `words`, the first on top
module _
    (old new : List ℕ) (words : ℕ → ℕ) (entries e n count : ℕ) (few : entries ≤ 131072) (low : e < entries)
    (below : (i : ℕ) → i < n → get_or new i 0 ≡ get_or old i 0)
    (leaving : get_or new n 0 ≡ LEAVE + e)
    (goals : (i : ℕ) → i < count → get_or new (n + count - i) 0 ≡ words i)
    (are : (i : ℕ) → i < count → IsGoal entries (words i)) where
  left : item_word (LEAVE + e) ≡ leave e
  left = let q : LEAVE + e - LEAVE ≡ e = omega arith in item_leave (LEAVE + e) (omega arith) (omega arith) ∙ ap leave q

  part : (m : ℕ) → m ≤ count → stack_of new (suc (n + m)) ≡ map enter (from (λ i. goal_word (words i)) (count - m) m) ++ leave e ∷ stack_of old n
  unfolding stack_of from
  part zero h =
      let q : n + 0 ≡ n = omega arith in
      rw (q, leaving, left, stack_same new old n below)
  part (suc m) h =
      let i = count - suc m in
      let q : n + suc m ≡ suc (n + m) = omega arith in
      let at : suc (n + m) ≡ n + count - i = omega arith in
      let word : get_or new (suc (n + m)) 0 ≡ words i = ap (λ j. get_or new j 0) at ∙ goals i (omega arith) in
      let next : suc i ≡ count - m = omega arith in
      rw (q, word, item_goal entries (words i) few (are i (omega arith)), part m (omega arith), next)

  pub stack_pushed : stack_of new (n + count + 1) ≡ map enter (from (λ i. goal_word (words i)) 0 count) ++ leave e ∷ stack_of old n
  stack_pushed =
      let z : count - count ≡ 0 = omega arith in
      rw (add-one (n + count)) (part count (omega arith) ∙ ap (λ k. map enter (from (λ i. goal_word (words i)) k count) ++ leave e ∷ stack_of old n) z)

  -- each is an item's word
  pub words_pushed : ((i : ℕ) → i < n → IsItem entries (get_or old i 0)) → (i : ℕ) → i < n + count + 1 → IsItem entries (get_or new i 0)
  words_pushed h i l = ways (equal i n)
    where
      ways : (i ≡ n) ⊎ (i ≡ n → ⊥) → IsItem entries (get_or new i 0)
      ways (inl q) = rw (q, leaving) (inr (omega arith, omega arith))
      ways (inr q) = ⊎_elim lower upper (order i n)
        where
          lower : i < n → IsItem entries (get_or new i 0)
          lower k = rw (below i k) (h i k)

          upper : n ≤ i → IsItem entries (get_or new i 0)
          upper k =
              let j = n + count - i in
              let b : j < count = omega arith in
              let at : n + count - j ≡ i = omega arith in
              rw (← at, goals j b) (inl (are j b))
