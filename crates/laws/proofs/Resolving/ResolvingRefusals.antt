-- What resolving refuses, of requests and after record 50, has a number up to 13. Assumes nothing.
use mathlib.Core.List.{List, [], ◌∷◌, ◌++◌, map}
use mathlib.Core.Option.{Option, none, some}
use mathlib.Core.Path.{◌≡◌, refl}
use Prim.Native.Nat.{ℕ, zero, suc, ◌+◌}
use lib.ListN.{length, get_or}
use Rattle.definition.specs.Shapes.{Entry, with_kids}
use Rattle.definition.specs.Job.{Reference, raw, entry, name}
use Rattle.definition.specs.Definitions.{Naming, Defined, name_target}
use Rattle.definition.specs.Resolving.{Goal, raw_number, table_entry, refusal, follow, goal_of, Mark, fresh, underway, done, Resolved, Item, enter, leave, kids_at, entering, step, work, fuel_for, resolve, resolve_all, linked, nothing_resolved}
use Rattle.definition.specs.Layout.{starters, end_definitions}
use Rattle.facts.proofs.Each.{Each, each_append, each_map, each_image}
use Rattle.facts.proofs.Outcomes.{Ends, well, refused, next, Anything}
use Rattle.laws.proofs.Form.RefusalNumbers.{Early}
use Rattle.laws.proofs.Resolving.OwedVisits.{kids_at-each}

-- the refusal that a goal is, if it is one
abbrev pub GoalRefused : (ℕ → Type 0) → Goal → Type 0
GoalRefused Z (raw_number n) = Unit {0}
GoalRefused Z (table_entry e) = Unit {0}
GoalRefused Z (refusal code) = Z code

abbrev ItemRefused : (ℕ → Type 0) → Item → Type 0
ItemRefused Z (enter g) = GoalRefused Z g
ItemRefused Z (leave e) = Unit {0}

abbrev pub TableRefused : (ℕ → Type 0) → List (Entry ℕ Goal) → Type 0
TableRefused Z table = Each (λ x. Each (GoalRefused Z) x.kids) table

-- Z is what is known of a refusal's number; 0 would tell that fuel ran out
module _ {Z : ℕ → Type 0} (z : Early Z) (empty : Z 0) where
  follow-early : (steps : ℕ) (names : List Naming) (constants : ℕ) (r : Reference) → GoalRefused Z (follow steps names constants r)
  unfolding follow
  follow-early zero names constants (raw n) = tt
  follow-early zero names constants (entry kind n) = tt
  follow-early zero names constants (name kind s) = z 13 tt tt
  follow-early (suc steps) names constants (raw n) = tt
  follow-early (suc steps) names constants (entry kind n) = tt
  follow-early (suc steps) names constants (name kind s) = go (name_target kind s names) refl (follow-early steps names constants)
    where
      go :
          (o : Option Reference) →
          name_target kind s names ≡ o →
          ((r : Reference) → GoalRefused Z (follow steps names constants r)) →
          GoalRefused Z (follow (suc steps) names constants (name kind s))
      go none e ih = rw (e, follow) (z 12 tt tt)
      go (some r) e ih = rw (e, follow) (ih r)

  pub goal_of-early : (names : List Naming) (constants : ℕ) (r : Reference) → GoalRefused Z (goal_of names constants r)
  unfolding goal_of
  goal_of-early names constants r = follow-early (suc (length names)) names constants r

  pub linked-early : (names : List Naming) (constants : ℕ) (table : List (Entry ℕ Reference)) → TableRefused Z (linked names constants table)
  unfolding linked with_kids
  linked-early names constants table =
      each_image
      (λ e. Each (GoalRefused Z) e.kids)
      (λ e. with_kids (map (goal_of names constants) e.kids) e)
      (λ e. each_image (GoalRefused Z) (goal_of names constants) (goal_of-early names constants) e.kids)
      table

  -- ---- resolving

  module _ (table : List (Entry ℕ Goal)) (ok : TableRefused Z table) where
    entering-early : (e : ℕ) (m : Mark) (s : Resolved) → Ends Z (λ r. Each (ItemRefused Z) r.0) (entering table e m s)
    unfolding entering
    entering-early e fresh s =
        well
        (each_append
        (ItemRefused Z)
        (map enter (kids_at table e))
        (leave e ∷ [])
        (each_map (GoalRefused Z) (ItemRefused Z) enter (λ g h. h) (kids_at table e) (kids_at-each (GoalRefused Z) table e ok))
        (tt, tt))
    entering-early e underway s = refused (z 13 tt tt)
    entering-early e (done k) s = well tt

    step-early : (i : Item) (s : Resolved) → ItemRefused Z i → Ends Z (λ r. Each (ItemRefused Z) r.0) (step table i s)
    unfolding step
    step-early (enter (raw_number n)) s h = well tt
    step-early (enter (table_entry e)) s h = entering-early e (get_or s.marks e (done 0)) s
    step-early (enter (refusal code)) s h = refused h
    step-early (leave e) s h = well tt

    work-early : (fuel : ℕ) (stack : List Item) (s : Resolved) → Each (ItemRefused Z) stack → Ends Z Anything (work fuel table stack s)
    unfolding work
    work-early zero [] s h = well tt
    work-early zero (i ∷ stack) s h = refused empty
    work-early (suc fuel) [] s h = well tt
    work-early (suc fuel) (i ∷ stack) s h =
        next (λ r. work fuel table (r.0 ++ stack) r.1) (step-early i s h.0) λ r k.
        work-early fuel (r.0 ++ stack) r.1 (each_append (ItemRefused Z) r.0 stack k h.1)

    pub resolve-early : (g : Goal) (s : Resolved) → GoalRefused Z g → Ends Z Anything (resolve table g s)
    unfolding resolve
    resolve-early g s h = work-early (fuel_for table) (enter g ∷ []) s (h, tt)

    resolve_all-early : (goals : List Goal) (s : Resolved) → Each (GoalRefused Z) goals → Ends Z Anything (resolve_all table goals s)
    unfolding resolve_all
    resolve_all-early [] s h = well tt
    resolve_all-early (g ∷ goals) s h = next (λ t. resolve_all table goals t) (resolve-early g s h.0) λ t _. resolve_all-early goals t h.1

    pub end_definitions-early : (top constants : ℕ) (d : Defined) → Ends Z (λ w. TableRefused Z w.table) (end_definitions top table constants d)
    unfolding end_definitions
    end_definitions-early top constants d =
        let first : List Goal = map (λ r. table_entry r.1) (starters d.held) in
        let then : List Goal = map (λ r. table_entry (constants + r.1)) d.indexes in
        next
        _
        (resolve_all-early
        (first ++ then)
        (nothing_resolved table)
        (each_append
        (GoalRefused Z)
        first
        then
        (each_image (GoalRefused Z) _ (λ r. tt) (starters d.held))
        (each_image (GoalRefused Z) _ (λ r. tt) d.indexes)))
        λ s _. well ok
