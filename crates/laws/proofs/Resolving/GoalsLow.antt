-- A reference leads to a goal that isn't refused with 0, and to a low raw number if the references are low. Assumes nothing.
use mathlib.Core.List.{List, map}
use mathlib.Core.Option.{Option, none, some}
use mathlib.Core.Path.{◌≡◌, refl}
use Prim.Native.Nat.{ℕ, zero, suc}
use lib.ListN.{length}
use Rattle.definition.specs.Shapes.{Entry, with_kids}
use Rattle.definition.specs.Job.{Reference, raw, entry, name}
use Rattle.definition.specs.Definitions.{Naming, name_target}
use Rattle.definition.specs.Resolving.{follow, goal_of, linked}
use Rattle.facts.proofs.Each.{Each, each_map, each_under}
use Rattle.laws.proofs.Form.RefusalNumbers.{non_zero_lem}
use Rattle.laws.proofs.Form.RawNumbersLow.{RefLow, KidsLow, NameLow}
use Rattle.laws.proofs.Resolving.NameTargets.{name_target-all}
use Rattle.laws.proofs.Resolving.OwedVisits.{GoalOk, TableOk}

-- a reference leads to a goal that isn't refused with 0, and is a low raw number if the references are
pub follow-ok :
    (H : Type 0) (steps : ℕ) (names : List Naming) (constants : ℕ) (r : Reference) →
    (H → Each NameLow names) →
    (H → RefLow r) →
    GoalOk H (follow steps names constants r)
unfolding follow
follow-ok H zero names constants (raw n) low h = h
follow-ok H zero names constants (entry kind n) low h = tt
follow-ok H zero names constants (name kind s) low h = non_zero_lem 13 tt
follow-ok H (suc steps) names constants (raw n) low h = h
follow-ok H (suc steps) names constants (entry kind n) low h = tt
follow-ok H (suc steps) names constants (name kind s) low h = go (name_target kind s names) refl (λ r. follow-ok H steps names constants r low)
  where
    go :
        (o : Option Reference) →
        name_target kind s names ≡ o →
        ((r : Reference) → (H → RefLow r) → GoalOk H (follow steps names constants r)) →
        GoalOk H (follow (suc steps) names constants (name kind s))
    go none e ih = rw (e, follow) (non_zero_lem 12 tt)
    go (some r) e ih = rw (e, follow) (ih r (λ p. name_target-all RefLow kind s names r (low p) e))

pub goal_of-ok :
    (H : Type 0) (names : List Naming) (constants : ℕ) (r : Reference) → (H → Each NameLow names) → (H → RefLow r) → GoalOk H (goal_of names constants r)
unfolding goal_of
goal_of-ok H names constants r = follow-ok H (suc (length names)) names constants r

pub linked-ok :
    (H : Type 0) (names : List Naming) (constants : ℕ) (table : List (Entry ℕ Reference)) →
    (H → Each NameLow names) →
    (H → Each KidsLow table) →
    TableOk H (linked names constants table)
unfolding linked with_kids
linked-ok H names constants table low h =
    each_map
    (λ e. H → KidsLow e)
    (λ e. Each (GoalOk H) e.kids)
    (λ e. with_kids (map (goal_of names constants) e.kids) e)
    (λ e k.
    each_map
    (λ r. H → RefLow r)
    (GoalOk H)
    (goal_of names constants)
    (λ r l. goal_of-ok H names constants r low l)
    e.kids
    (each_under H RefLow e.kids k))
    table
    (each_under H KidsLow table h)
