-- What resolving makes a node of: entries of a set P that it starts in and that references don't lead out of. Assumes nothing.
use mathlib.Core.List.{List, [], ◌∷◌, ◌++◌, map}
use mathlib.Core.Logic.{◌⊎◌, inl, inr}
use mathlib.Core.Option.{Option, none, some}
use mathlib.Core.Path.{◌≡◌, refl, sym, subst}
use Prim.Native.Nat.{ℕ, zero, suc}
use lib.ListN.{length, get_or, get_elem?}
use Rattle.definition.specs.Basics.{good, position}
use Rattle.definition.specs.Shapes.{Entry, with_kids}
use Rattle.definition.specs.Resolving.{Goal, raw_number, table_entry, refusal, Node, Mark, fresh, underway, done, Resolved, Item, enter, leave}
use Rattle.definition.specs.Resolving.{same_node, child_of, kids_at, visited, leave_node, leaving, entering, step, work, fuel_for, resolve, resolve_all, nothing_resolved}
use Rattle.facts.specs.Lists.{Among}
use Rattle.facts.proofs.Lists.{clash, found_after_set, found_replicate}
use Rattle.facts.proofs.Each.{Each, each_append, each_from, each_map}
use Rattle.facts.proofs.Results.{bad≢good, good_inj, good_then}
use Rattle.laws.proofs.Resolving.FaithfulToEntries.{leaving-some}

-- a goal is in P, if it is an entry
abbrev pub GoalIn : (ℕ → Type 0) → Goal → Type 0
GoalIn P (raw_number n) = Unit {0}
GoalIn P (table_entry e) = P e
GoalIn P (refusal code) = Unit {0}

module _
    (table : List (Entry ℕ Goal))
    (P : ℕ → Type 0)
    (onward : (e : ℕ) (x : Entry ℕ Goal) (g : Goal) → get_elem? table e ≡ some x → Among g x.kids → P e → GoalIn P g) where
  -- all nodes are
  abbrev pub OnlyIn : Resolved → Type 0
  OnlyIn s = (e k : ℕ) → get_elem? s.marks e ≡ some (done k) → P e

  -- and all items
  abbrev ItemIn : Item → Type 0
  ItemIn (enter g) = GoalIn P g
  ItemIn (leave e) = P e

  pub nothing_only : OnlyIn (nothing_resolved table)
  unfolding nothing_resolved
  nothing_only e k h = clash (cc (found_replicate (length table) e fresh (done k) h))

  -- the children of an entry
  kids_in_lem : (e : ℕ) → P e → Each (GoalIn P) (kids_at table e)
  unfolding kids_at
  kids_in_lem e h = go (get_elem? table e) refl
    where
      go : (o : Option (Entry ℕ Goal)) → get_elem? table e ≡ o → Each (GoalIn P) (kids_at table e)
      go none at = rw (at, kids_at) tt
      go (some x) at = rw (at, kids_at) (each_from (GoalIn P) x.kids (λ i g there. onward e x g at (i, there) h))

  -- an entry becomes a node
  leave_only : (e : ℕ) (n : Node) (s : Resolved) → P e → OnlyIn s → OnlyIn (leave_node e n s)
  unfolding leave_node
  leave_only e n s h only d k p = go (found_after_set s.marks e d (done (position (same_node n) s.nodes)) (done k) p)
    where
      go : ((d ≡ e) × (done (position (same_node n) s.nodes) ≡ done k)) ⊎ ((d ≡ e → ⊥) × (get_elem? s.marks d ≡ some (done k))) → P d
      go (inl (is, _)) = subst P (sym is) h
      go (inr (_, q)) = only d k q

  leaving-only : (e : ℕ) (s : Resolved) → P e → OnlyIn s → OnlyIn (leaving table e s)
  unfolding leaving visited
  leaving-only e s h only = go (get_elem? table e) refl
    where
      nothing : get_elem? table e ≡ none → leaving table e s ≡ visited s
      nothing at = rw (at, leaving)

      go : (o : Option (Entry ℕ Goal)) → get_elem? table e ≡ o → OnlyIn (leaving table e s)
      go none at = rw (nothing at) only
      go (some x) at = rw (leaving-some table e x s at) (leave_only e (with_kids (map (child_of s.marks) x.kids) x) s h only)

  -- what a step pushes is in P, and what it leaves
  abbrev StepIn : List Item × Resolved → Type 0
  StepIn r = Each ItemIn r.0 × OnlyIn r.1

  enter_only : (e : ℕ) (m : Mark) (s : Resolved) (r : List Item × Resolved) → P e → OnlyIn s → entering table e m s ≡ good r → StepIn r
  unfolding entering visited
  enter_only e fresh s r h only is =
      subst StepIn (good_inj is) (
        each_append ItemIn (map enter (kids_at table e)) (leave e ∷ []) (each_map (GoalIn P) ItemIn enter (λ g k. k) (kids_at table e) (kids_in_lem e h)) (h, tt),
        λ d k p. go d k (found_after_set s.marks e d underway (done k) p),
      )
    where
      go : (d k : ℕ) → ((d ≡ e) × (underway ≡ done k)) ⊎ ((d ≡ e → ⊥) × (get_elem? s.marks d ≡ some (done k))) → P d
      go d k (inl (_, q)) = clash (cc (q))
      go d k (inr (_, q)) = only d k q
  enter_only e underway s r h only is = bad≢good is
  enter_only e (done k) s r h only is = subst StepIn (good_inj is) (tt, only)

  step-only : (item : Item) (s : Resolved) (r : List Item × Resolved) → ItemIn item → OnlyIn s → step table item s ≡ good r → StepIn r
  unfolding step visited
  step-only (enter (raw_number n)) s r h only is = subst StepIn (good_inj is) (tt, only)
  step-only (enter (table_entry e)) s r h only is = enter_only e (get_or s.marks e (done 0)) s r h only is
  step-only (enter (refusal code)) s r h only is = bad≢good is
  step-only (leave e) s r h only is = subst StepIn (good_inj is) (tt, leaving-only e s h only)

  work-only : (fuel : ℕ) (stack : List Item) (s s' : Resolved) → Each ItemIn stack → OnlyIn s → work fuel table stack s ≡ good s' → OnlyIn s'
  unfolding work
  work-only zero [] s s' h only is = subst OnlyIn (good_inj is) only
  work-only zero (i ∷ stack) s s' h only is = bad≢good is
  work-only (suc fuel) [] s s' h only is = subst OnlyIn (good_inj is) only
  work-only (suc fuel) (i ∷ stack) s s' h only is =
      good_then (step table i s) _ s' is λ r here is₁.
      let now = step-only i s r h.0 only here in
      work-only fuel (r.0 ++ stack) r.1 s' (each_append ItemIn r.0 stack now.0 h.1) now.1 is₁

  pub resolve-only : (goal : Goal) (s s' : Resolved) → GoalIn P goal → OnlyIn s → resolve table goal s ≡ good s' → OnlyIn s'
  unfolding resolve
  resolve-only goal s s' h only is = work-only (fuel_for table) (enter goal ∷ []) s s' (h, tt) only is

  pub resolve_all-only : (goals : List Goal) (s s' : Resolved) → Each (GoalIn P) goals → OnlyIn s → resolve_all table goals s ≡ good s' → OnlyIn s'
  unfolding resolve_all
  resolve_all-only [] s s' h only is = subst OnlyIn (good_inj is) only
  resolve_all-only (g ∷ goals) s s' h only is =
      good_then (resolve table g s) _ s' is λ r here is₁. resolve_all-only goals r s' h.1 (resolve-only g s r h.0 only here) is₁
