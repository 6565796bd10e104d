-- The lowest entry that became a node, as one more entry becomes one. Assumes nothing.
use mathlib.Core.Bool.{Bool, true, false}
use mathlib.Core.List.{List, [], ◌∷◌, map}
use mathlib.Core.Logic.{⊎_elim}
use mathlib.Core.Option.{some}
use mathlib.Core.Path.{◌≡◌, refl, sym, ap, ◌∙◌}
use Prim.Native.Nat.{ℕ, zero, suc, ◌+◌, ◌≤◌, ◌<◌}
use native.Mathlib.Omega.{arith}
use lib.ListN.{length, get_or, get_elem?, set, length-map}
use borrow.Author.Tests.{eq-eqb, ne_eqb, eqb-true}
use Rattle.definition.specs.Basics.{position}
use Rattle.definition.specs.Resolving.{Mark, fresh, underway, done}
use Rattle.definition.specs.Places.{became}
use Rattle.facts.proofs.Lists.{true≢false, map-set, order, position_here, position_later, position-passes}
use Rattle.store.specs.Words.{mark_word}
use Rattle.resolver.specs.Resolved.{lowest_of}
use Rattle.resolver.proofs.Meanings.{is_done_lem, found_word, found_done}

-- FIRST PLACES, with one element changed

module _ {A : Type 0} (p : A → Bool) where
  -- one that passes before all others that do
  position-earlier : (l : List A) (e : ℕ) (x : A) → p x ≡ true → e < position p l → position p (set l e x) ≡ e
  unfolding position
  position-earlier [] e x t h = absurd (omega arith)
  position-earlier (y ∷ l) e x t h = go (p y) refl e h (λ e. position-earlier l e x t)
    where
      go :
          (b : Bool) → p y ≡ b → (e : ℕ) → e < position p (y ∷ l) → ((e : ℕ) → e < position p l → position p (set l e x) ≡ e) →
          position p (set (y ∷ l) e x) ≡ e
      go true q e h rest = absurd (omega (arith, position_here p y l q))
      go false q zero h rest = position_here p x l t
      go false q (suc e) h rest = position_later p y (set l e x) q ∙ ap suc (rest e (omega (arith, position_later p y l q)))

  -- one that passes, not before the first that did
  position-behind : (l : List A) (e : ℕ) (x : A) → p x ≡ true → position p l ≤ e → position p (set l e x) ≡ position p l
  position-behind [] e x t h = refl
  position-behind (y ∷ l) e x t h = go (p y) refl e h (λ e. position-behind l e x t)
    where
      go :
          (b : Bool) → p y ≡ b → (e : ℕ) → position p (y ∷ l) ≤ e → ((e : ℕ) → position p l ≤ e → position p (set l e x) ≡ position p l) →
          position p (set (y ∷ l) e x) ≡ position p (y ∷ l)
      go true q zero h rest = position_here p x l t ∙ sym (position_here p y l q)
      go true q (suc e) h rest = position_here p y (set l e x) q ∙ sym (position_here p y l q)
      go false q zero h rest = absurd (omega (arith, position_later p y l q))
      go false q (suc e) h rest =
          position_later p y (set l e x) q ∙ ap suc (rest e (omega (arith, position_later p y l q))) ∙ sym (position_later p y l q)

  -- one that passes neither before nor after
  position-aside :
      (l : List A) (e : ℕ) (x : A) → p x ≡ false → ((y : A) → get_elem? l e ≡ some y → p y ≡ false) → position p (set l e x) ≡ position p l
  position-aside [] e x f old = refl
  position-aside (y ∷ l) zero x f old = position_later p x l f ∙ sym (position_later p y l (old y refl))
  position-aside (y ∷ l) (suc e) x f old = go (p y) refl (position-aside l e x f old)
    where
      go : (b : Bool) → p y ≡ b → position p (set l e x) ≡ position p l → position p (y ∷ set l e x) ≡ position p (y ∷ l)
      go true q rest = position_here p y (set l e x) q ∙ sym (position_here p y l q)
      go false q rest = position_later p y (set l e x) q ∙ ap suc rest ∙ sym (position_later p y l q)

-- MARKS

-- an entry that isn't done became no node
not_yet : (k x : ℕ) → x < 2 → became k (mark_word x) ≡ false
unfolding became mark_word
not_yet k zero h = refl
not_yet k (suc zero) h = refl
not_yet k (suc (suc x)) h = absurd (omega arith)

became-it : (i k : ℕ) → i ≡ k → became i (done k) ≡ true
unfolding became
became-it i k z = eq-eqb i k z

became-other : (i k : ℕ) → (i ≡ k → ⊥) → became i (done k) ≡ false
unfolding became
became-other i k z = ne_eqb i k z

became-done : (k : ℕ) (m : Mark) → became k m ≡ true → m ≡ done k
unfolding became
became-done k fresh h = absurd (true≢false (sym h))
became-done k underway h = absurd (true≢false (sym h))
became-done k (done n) h = ap done (sym (eqb-true k n h))

module _ (marks : List ℕ) (e : ℕ) (unmade : get_or marks e 0 < 2) where
  was : (k : ℕ) (m : Mark) → get_elem? (map mark_word marks) e ≡ some m → became k m ≡ false
  was k m at = rw (← found_word marks e m at) (not_yet k (get_or marks e 0) unmade)

  -- an entry that is entered
  pub lowest_entered : (k : ℕ) → lowest_of k (set marks e 1) ≡ lowest_of k marks
  lowest_entered k =
      ap (position (became k)) (map-set mark_word marks e 1)
      ∙ position-aside (became k) (map mark_word marks) e (mark_word 1) (not_yet k 1 (omega arith)) (was k)

  -- an entry that becomes node k
  module _ (k : ℕ) where
    marked : map mark_word (set marks e (2 + k)) ≡ set (map mark_word marks) e (done k)
    marked = map-set mark_word marks e (2 + k) ∙ ap (set (map mark_word marks) e) (is_done_lem (2 + k) k (omega arith))

    pub lowest_earlier : (i : ℕ) → i ≡ k → e < lowest_of i marks → lowest_of i (set marks e (2 + k)) ≡ e
    lowest_earlier i z h =
        ap (position (became i)) marked ∙ position-earlier (became i) (map mark_word marks) e (done k) (became-it i k z) h

    pub lowest_behind : (i : ℕ) → i ≡ k → lowest_of i marks ≤ e → lowest_of i (set marks e (2 + k)) ≡ lowest_of i marks
    lowest_behind i z h =
        ap (position (became i)) marked ∙ position-behind (became i) (map mark_word marks) e (done k) (became-it i k z) h

    pub lowest_aside : (i : ℕ) → (i ≡ k → ⊥) → lowest_of i (set marks e (2 + k)) ≡ lowest_of i marks
    lowest_aside i z =
        ap (position (became i)) marked ∙ position-aside (became i) (map mark_word marks) e (done k) (became-other i k z) (was i)

-- no entry became a node that there isn't
pub none-lowest : (marks : List ℕ) (e k : ℕ) → e < length marks → ((d : ℕ) → get_or marks d 0 < 2 + k) → e < lowest_of k marks
none-lowest marks e k inside told =
    ⊎_elim
    (λ (l : lowest_of k marks < length (map mark_word marks)).
    let p = position-passes (became k) (map mark_word marks) l in
    let at = p.1 ∙ ap some (became-done k p.0 p.2) in
    absurd (omega (arith, told (lowest_of k marks), found_done marks (lowest_of k marks) k at)))
    (λ (l : length (map mark_word marks) ≤ lowest_of k marks). omega (arith, length-map marks mark_word))
    (order (lowest_of k marks) (length (map mark_word marks)))
