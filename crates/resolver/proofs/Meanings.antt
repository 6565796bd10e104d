-- What the words of goals, items and marks come to. Assumes nothing.
use mathlib.Core.List.{List, [], ◌∷◌, map}
use mathlib.Core.Logic.{◌⊎◌, inl, inr, ⊎_elim}
use mathlib.Core.Option.{some}
use mathlib.Core.Path.{◌≡◌, refl, sym, ap, ◌∙◌}
use Prim.Native.Nat.{ℕ, zero, suc, ◌+◌, ◌-◌, ◌≤◌, ◌<◌}
use native.Mathlib.Omega.{arith}
use lib.ListN.{length, get_or, get_elem?}
use borrow.Author.Tests.{lt-ltb, le-ltb}
use Rattle.definition.specs.Resolving.{raw_number, table_entry, refusal, Mark, fresh, underway, done, enter, leave, mark_child, child_of}
use Rattle.facts.proofs.Lists.{clash, found_read, read_found, map-some, map_at, order}
use Rattle.laws.proofs.Form.RefusalNumbers.{NonZero, non_zero_lem}
use Rattle.laws.proofs.Resolving.OwedVisits.{GoalOk}
use Rattle.laws.specs.Faithful.{Settled, InTable}
use Rattle.store.specs.Words.{ENTRY, LEAVE, REFUSED, goal_word, item_word, mark_word, IsGoal}
use Rattle.resolver.specs.Resolved.{Became}
use Rattle.store.proofs.Goals.{goal_raw, goal_entry}

-- GOALS

pub goal_refused : (x : ℕ) → REFUSED ≤ x → goal_word x ≡ refusal (x - REFUSED)
unfolding goal_word
goal_refused x h = let l : ENTRY ≤ x = omega arith in rw (le-ltb x ENTRY l, le-ltb x REFUSED h, goal_word)

-- a goal's word is one of three
pub data GoalWays (entries x : ℕ) : Type 0 where
  is_raw : x < ENTRY → goal_word x ≡ raw_number x → GoalWays entries x
  is_entry : ENTRY ≤ x → x < ENTRY + entries → goal_word x ≡ table_entry (x - ENTRY) → GoalWays entries x
  is_refused : (x ≡ REFUSED + 12) ⊎ (x ≡ REFUSED + 13) → goal_word x ≡ refusal (x - REFUSED) → GoalWays entries x

pub goal_ways : (entries x : ℕ) → entries ≤ 131072 → IsGoal entries x → GoalWays entries x
goal_ways entries x few (inl h) =
    ⊎_elim
    (λ (l : x < ENTRY). is_raw l (goal_raw x l))
    (λ (l : ENTRY ≤ x). is_entry l h (goal_entry x l (omega arith)))
    (order x ENTRY)
goal_ways entries x few (inr h) = is_refused h (goal_refused x (⊎_elim (λ (e : x ≡ REFUSED + 12). omega arith) (λ (e : x ≡ REFUSED + 13). omega arith) h))

module _ (entries x : ℕ) (few : entries ≤ 131072) (is : IsGoal entries x) where
  -- it leads into the table
  pub goal_in_lem : InTable entries (goal_word x)
  goal_in_lem = ways (goal_ways entries x few is)
    where
      ways : GoalWays entries x → InTable entries (goal_word x)
      ways (is_raw h e) = rw e tt
      ways (is_entry h l e) = rw e (omega arith)
      ways (is_refused h e) = rw e tt

  -- and no refusal of it is 0
  pub goal_ok : GoalOk ⊥ (goal_word x)
  goal_ok = ways (goal_ways entries x few is)
    where
      code : (x ≡ REFUSED + 12) ⊎ (x ≡ REFUSED + 13) → NonZero (x - REFUSED)
      code (inl h) = rw h (non_zero_lem 12 tt)
      code (inr h) = rw h (non_zero_lem 13 tt)

      ways : GoalWays entries x → GoalOk ⊥ (goal_word x)
      ways (is_raw h e) = rw e (λ z. absurd z)
      ways (is_entry h l e) = rw e tt
      ways (is_refused h e) = rw e (code h)

-- ITEMS

pub item_goal : (entries x : ℕ) → entries ≤ 131072 → IsGoal entries x → item_word x ≡ enter (goal_word x)
unfolding item_word
item_goal entries x few is = ways (goal_ways entries x few is)
  where
    ways : GoalWays entries x → item_word x ≡ enter (goal_word x)
    ways (is_raw h e) = let l : x < LEAVE = omega arith in rw (lt-ltb x LEAVE l, item_word)
    ways (is_entry h k e) = let l : x < LEAVE = omega arith in rw (lt-ltb x LEAVE l, item_word)
    ways (is_refused h e) =
        let k : REFUSED ≤ x = ⊎_elim (λ (e : x ≡ REFUSED + 12). omega arith) (λ (e : x ≡ REFUSED + 13). omega arith) h in
        let l : LEAVE ≤ x = omega arith in
        rw (le-ltb x LEAVE l, le-ltb x REFUSED k, item_word)

pub item_leave : (x : ℕ) → LEAVE ≤ x → x < REFUSED → item_word x ≡ leave (x - LEAVE)
unfolding item_word
item_leave x h l = rw (le-ltb x LEAVE h, lt-ltb x REFUSED l, item_word)

-- MARKS

pub mark_underway : (x : ℕ) → mark_word x ≡ underway → x ≡ 1
unfolding mark_word
mark_underway zero e = clash (cc)
mark_underway (suc zero) e = refl
mark_underway (suc (suc k)) e = clash (cc)

pub mark_done : (x k : ℕ) → mark_word x ≡ done k → x ≡ k + 2
unfolding mark_word
mark_done zero k e = clash (cc)
mark_done (suc zero) k e = clash (cc)
mark_done (suc (suc i)) k e = let q : i ≡ k = cc in omega arith

pub is_fresh_lem : (x : ℕ) → x ≡ 0 → mark_word x ≡ fresh
unfolding mark_word
is_fresh_lem x e = rw (e, mark_word)

pub is_underway_lem : (x : ℕ) → x ≡ 1 → mark_word x ≡ underway
unfolding mark_word
is_underway_lem x e = rw (e, mark_word)

pub is_done_lem : (x k : ℕ) → x ≡ k + 2 → mark_word x ≡ done k
unfolding mark_word
is_done_lem zero k e = absurd (omega arith)
is_done_lem (suc zero) k e = absurd (omega arith)
is_done_lem (suc (suc i)) k e = let q : i ≡ k = omega arith in rw q

-- the mark of an entry that is there
pub mark_at : (marks : List ℕ) (e : ℕ) (d : Mark) → e < length marks → get_or (map mark_word marks) e d ≡ mark_word (get_or marks e 0)
mark_at [] e d h = absurd (omega arith)
mark_at (x ∷ marks) zero d h = refl
mark_at (x ∷ marks) (suc e) d h = mark_at marks e d (omega arith)

-- a word that isn't 0 is there
pub there : (marks : List ℕ) (e : ℕ) → 0 < get_or marks e 0 → e < length marks
there [] e h = absurd (omega arith)
there (x ∷ marks) zero h = omega arith
there (x ∷ marks) (suc e) h = let ih = there marks e h in omega arith

-- what a mark found tells of its word
module _ (marks : List ℕ) (e : ℕ) where
  pub found_word : (m : Mark) → get_elem? (map mark_word marks) e ≡ some m → mark_word (get_or marks e 0) ≡ m
  found_word m at =
      let f = map-some mark_word marks e m at in
      rw (found_read marks e f.0 0 f.1) f.2

  pub found_underway : get_elem? (map mark_word marks) e ≡ some underway → get_or marks e 0 ≡ 1
  found_underway at = mark_underway (get_or marks e 0) (found_word underway at)

  pub found_done : (k : ℕ) → get_elem? (map mark_word marks) e ≡ some (done k) → get_or marks e 0 ≡ k + 2
  found_done k at = mark_done (get_or marks e 0) k (found_word (done k) at)

  pub done_found : (k : ℕ) → get_or marks e 0 ≡ k + 2 → get_elem? (map mark_word marks) e ≡ some (done k)
  done_found k h =
      map_at mark_word marks e (get_or marks e 0) (read_found marks e 0 (there marks e (omega arith)))
      ∙ ap some (is_done_lem (get_or marks e 0) k h)

-- CHILDREN

pub child_raw : (marks : List ℕ) (x : ℕ) → x < ENTRY → x ≡ child_of (map mark_word marks) (goal_word x)
unfolding child_of
child_raw marks x h = rw (goal_raw x h)

pub child_entry :
    (marks : List ℕ) (x k : ℕ) → ENTRY ≤ x → x < REFUSED → k + 2 ≡ get_or marks (x - ENTRY) 0 → ENTRY + k ≡ child_of (map mark_word marks) (goal_word x)
unfolding child_of mark_child
child_entry marks x k h l e =
    let at = mark_at marks (x - ENTRY) (done 0) (there marks (x - ENTRY) (omega arith)) in
    let is = is_done_lem (get_or marks (x - ENTRY) 0) k (sym e) in
    rw (goal_entry x h l, child_of, at, is, mark_child)

-- a settled goal's word became a child
pub settled-became : (entries : ℕ) (marks : List ℕ) (x : ℕ) → entries ≤ 131072 → IsGoal entries x → Settled (map mark_word marks) (goal_word x) → Became marks x
settled-became entries marks x few is h = ways (goal_ways entries x few is)
  where
    ways : GoalWays entries x → Became marks x
    ways (is_raw l e) = record { low = omega arith; ready = λ k. absurd (omega arith) }
    ways (is_entry l k e) =
        let q : Settled (map mark_word marks) (table_entry (x - ENTRY)) = rw e at h in
        record { low = omega arith; ready = λ _. omega (arith, found_done marks (x - ENTRY) q.0 q.1) }
    ways (is_refused l e) = let q : Settled (map mark_word marks) (refusal (x - REFUSED)) = rw e at h in absurd q
