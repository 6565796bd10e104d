-- The loops over an entry's words: its children are written, its goals are pushed. Assumes nothing.
use mathlib.Core.List.{List, [], ◌∷◌, map}
use mathlib.Core.Logic.{◌⊎◌, inl, inr, ⊎_elim}
use mathlib.Core.Path.{◌≡◌, refl, subst, ◌∙◌}
use Prim.Native.Nat.{ℕ, ◌+◌, ◌-◌, ◌≤◌, ◌<◌}
use native.Mathlib.Omega.{arith}
use lib.ListN.{length, get_or, set}
use lib.Seq.{get_or-set_same, get_or-set_other}
use Rattle.definition.specs.Basics.{every}
use Rattle.definition.specs.Resolving.{child_of}
use Rattle.store.specs.Store.{Store, put, IsWord, Kept}
use Rattle.store.specs.Regions.{MARKS, FIRSTS, SIZES, GOALS, CHILDREN, STACK}
use Rattle.store.specs.Words.{ENTRY, LEAVE, REFUSED, mark_word, goal_word}
use Rattle.store.proofs.Keeping.{kept_put, kept_then, kept_more}
use Rattle.resolver.specs.Resolved.{Became}
use Rattle.std.specs.Prelude.{Ok, Err}
use Rattle.refusal.specs.declared.Refusal.TheVariants.{Circular}
use Rattle.resolver.specs.Moves.{Places, ToLeave, Written, Pushed, Enters}
use Rattle.resolver.proofs.Meanings.{child_raw, child_entry}
use Rattle.facts.proofs.Lists.{equal, order}

-- a child is a word
child_word :
    (marks : List ℕ) (goal child : ℕ) → ((d : ℕ) → get_or marks d 0 < REFUSED) → Became marks goal →
    child ≡ child_of (map mark_word marks) (goal_word goal) → IsWord child
child_word marks goal child low b e =
    ⊎_elim
    (λ (l : goal < ENTRY). let q = child_raw marks goal l in omega arith)
    (λ (l : ENTRY ≤ goal).
    let k = get_or marks (goal - ENTRY) 0 - 2 in
    let r = b.ready l in
    let q = child_entry marks goal k l b.low (omega arith) in
    omega (arith, low (goal - ENTRY)))
    (order goal ENTRY)

-- WRITING: the places from `first` up to i have their children
pub record Writing (t u : Store) (first end i : ℕ) : Type 0 where
  pub low : first ≤ i
  pub high : i ≤ end
  pub is :
      (j : ℕ) → first ≤ j → j < i → get_or (u CHILDREN) j 0 ≡ child_of (map mark_word (t MARKS)) (goal_word (get_or (t GOALS) j 0))
  pub others : (j : ℕ) → (j < first) ⊎ (i ≤ j) → get_or (u CHILDREN) j 0 ≡ get_or (t CHILDREN) j 0
  pub kept : Kept (CHILDREN ∷ []) t u

pub writing_begin : (t : Store) (first end : ℕ) → first ≤ end → Writing t t first end first
writing_begin t first end h = record { low = omega arith; high = h; is = λ j a b. absurd (omega arith); others = λ j _. refl; kept = λ k _. refl }

module _ (t u : Store) (e first end i : ℕ) (w : Writing t u first end i) where
  module _ (child : ℕ) (h : i < end) (inside : i < length (u CHILDREN)) (goal : ℕ) (got : goal ≡ get_or (u GOALS) i 0) (q : child ≡ child_of (map mark_word (u MARKS)) (goal_word goal)) where
    pub writing_next : Writing t (put u CHILDREN i child) first end (i + 1)
    writing_next =
        record {
          low = omega (arith, w.low);
          high = omega arith;
          is = λ j a b. ⊎_elim (λ (z : j ≡ i). rw z here) (λ (z : j ≡ i → ⊥). get_or-set_other (u CHILDREN) i j child 0 z ∙ w.is j a (omega arith)) (equal j i);
          others = λ j o. get_or-set_other (u CHILDREN) i j child 0 (other j o) ∙ w.others j (wider j o);
          kept = kept_put (CHILDREN ∷ []) t u CHILDREN i child refl w.kept;
        }
      where
        here : get_or (set (u CHILDREN) i child) i 0 ≡ child_of (map mark_word (t MARKS)) (goal_word (get_or (t GOALS) i 0))
        here = get_or-set_same (u CHILDREN) i child 0 inside ∙ q ∙ rw (got, w.kept MARKS refl, w.kept GOALS refl)

        other : (j : ℕ) → (j < first) ⊎ (i + 1 ≤ j) → j ≡ i → ⊥
        other j (inl l) z = omega (arith, w.low)
        other j (inr l) z = omega arith

        wider : (j : ℕ) → (j < first) ⊎ (i + 1 ≤ j) → (j < first) ⊎ (i ≤ j)
        wider j (inl l) = inl l
        wider j (inr l) = inr (omega arith)

  module _ (from : first ≡ get_or (t FIRSTS) e 0) (to : end ≡ get_or (t FIRSTS) e 0 + get_or (t SIZES) e 0) where
    -- the goal in turn became a child
    pub child_ready : ToLeave t e → i < end → (goal : ℕ) → goal ≡ get_or (u GOALS) i 0 → Became (u MARKS) goal
    child_ready l h goal got =
        let at : get_or (t FIRSTS) e 0 + (i - first) ≡ i = omega (arith, w.low) in
        let b = l.became (i - first) (omega (arith, w.low)) in
        rw (got, w.kept MARKS refl, w.kept GOALS refl) (subst (λ j. Became (t MARKS) (get_or (t GOALS) j 0)) at b)

    marks_low : ToLeave t e → (d : ℕ) → get_or (u MARKS) d 0 < REFUSED
    marks_low l d = rw (w.kept MARKS refl) (l.low d)

    -- and it is a word
    pub child_fits :
        ToLeave t e → i < end → (goal child : ℕ) → goal ≡ get_or (u GOALS) i 0 → child ≡ child_of (map mark_word (u MARKS)) (goal_word goal) → IsWord child
    child_fits l h goal child got q = child_word (u MARKS) goal child (marks_low l) (child_ready l h goal got) q

    pub writing_end : end ≤ i → Written t u e
    writing_end h =
        record {
          is = λ j l. w.is (get_or (t FIRSTS) e 0 + j) (omega arith) (omega arith);
          others = λ j o. w.others j (where_to j o);
          kept = w.kept;
        }
      where
        where_to : (j : ℕ) → (j < get_or (t FIRSTS) e 0) ⊎ (get_or (t FIRSTS) e 0 + get_or (t SIZES) e 0 ≤ j) → (j < first) ⊎ (i ≤ j)
        where_to j (inl l) = inl (omega arith)
        where_to j (inr l) = inr (omega (arith, w.high))

-- PUSHING: i goals lie over place n, from the top down
pub record Pushing (t u : Store) (n first count i : ℕ) : Type 0 where
  pub high : i ≤ count
  pub is : (j : ℕ) → j < i → get_or (u STACK) (n + count - j) 0 ≡ get_or (t GOALS) (first + j) 0
  pub below : (j : ℕ) → j < n → get_or (u STACK) j 0 ≡ get_or (t STACK) j 0
  pub kept : Kept (STACK ∷ []) t u

pub pushing_begin : (t : Store) (n first count : ℕ) → Pushing t t n first count 0
pushing_begin t n first count = record { high = omega arith; is = λ j h. absurd (omega arith); below = λ j _. refl; kept = λ k _. refl }

module _ (t u : Store) (e n first count i : ℕ) (w : Pushing t u n first count i) where
  pub pushing_next :
      i < count → n + count < length (u STACK) → (goal : ℕ) → goal ≡ get_or (u GOALS) (first + i) 0 →
      Pushing t (put u STACK (n + count - i) goal) n first count (i + 1)
  pushing_next h inside goal got =
      record {
        high = omega arith;
        is = λ j l. ⊎_elim (λ (z : j ≡ i). rw z here) (λ (z : j ≡ i → ⊥). get_or-set_other (u STACK) (n + count - i) (n + count - j) goal 0 (λ q. z (omega arith)) ∙ w.is j (omega arith)) (equal j i);
        below = λ j l. get_or-set_other (u STACK) (n + count - i) j goal 0 (λ q. omega arith) ∙ w.below j l;
        kept = kept_put (STACK ∷ []) t u STACK (n + count - i) goal refl w.kept;
      }
    where
      here : get_or (set (u STACK) (n + count - i) goal) (n + count - i) 0 ≡ get_or (t GOALS) (first + i) 0
      here = get_or-set_same (u STACK) (n + count - i) goal 0 (omega arith) ∙ got ∙ rw (w.kept GOALS refl)

  pub pushing_end :
      count ≤ i → n < length (u STACK) → first ≡ get_or (t FIRSTS) e 0 → count ≡ get_or (t SIZES) e 0 →
      Pushed t (put u STACK n (LEAVE + e)) e n (n + count + 1)
  pushing_end h inside from sized =
      record {
        count = rw sized;
        leaving = get_or-set_same (u STACK) n (LEAVE + e) 0 inside;
        goals = λ j l. rw (← sized, ← from) (get_or-set_other (u STACK) n (n + count - j) (LEAVE + e) 0 (λ q. omega arith) ∙ w.is j (omega arith));
        below = λ j l. get_or-set_other (u STACK) n j (LEAVE + e) 0 (λ q. omega arith) ∙ w.below j l;
        kept = kept_put (STACK ∷ []) t u STACK n (LEAVE + e) refl w.kept;
      }

-- ENTERING, by the entry's mark
pub enters_done : (t : Store) (e n : ℕ) → 1 < get_or (t MARKS) e 0 → Enters t t e n (Ok n)
enters_done t e n h = record { is_done = λ _. (refl, refl); is_underway = λ q. absurd (omega arith); is_fresh = λ q. absurd (omega arith); kept = λ k _. refl }

pub enters_underway : (t : Store) (e n : ℕ) → get_or (t MARKS) e 0 ≡ 1 → Enters t t e n (Err Circular)
enters_underway t e n h = record { is_done = λ q. absurd (omega arith); is_underway = λ _. refl; is_fresh = λ q. absurd (omega arith); kept = λ k _. refl }

pub enters_fresh : (t u : Store) (e n m : ℕ) → get_or (t MARKS) e 0 ≡ 0 → Pushed (put t MARKS e 1) u e n m → Enters t u e n (Ok m)
unfolding every
enters_fresh t u e n m h q =
    record {
      is_done = λ z. absurd (omega arith);
      is_underway = λ z. absurd (omega arith);
      is_fresh = λ _. (m, refl, q);
      kept =
          kept_then (MARKS ∷ STACK ∷ []) t (put t MARKS e 1) u
          (kept_put (MARKS ∷ STACK ∷ []) t t MARKS e 1 refl (λ k _. refl))
          (kept_more (STACK ∷ []) (MARKS ∷ STACK ∷ []) (put t MARKS e 1) u refl q.kept);
    }

-- a mark changes no entry's places
pub places_marked : (p : List ℕ) (t : Store) (e i x : ℕ) → Places p t e → Places p (put t MARKS i x) e
places_marked p t e i x h = record { mark = h.mark; first = h.first; count = h.count; goals = h.goals; children = h.children }
