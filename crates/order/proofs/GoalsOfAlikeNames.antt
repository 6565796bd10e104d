-- References lead to the same goals by names that stand for the same. Assumes nothing.
use mathlib.Core.List.{List, map}
use mathlib.Core.Option.{Option, none, some}
use mathlib.Core.Path.{◌≡◌, refl, ap, ◌∙◌}
use Prim.Native.Nat.{ℕ, zero, suc}
use lib.ListN.{length}
use Rattle.definition.specs.Shapes.{Entry, with_kids}
use Rattle.definition.specs.Job.{Reference, raw, entry, name}
use Rattle.definition.specs.Definitions.{Naming, name_target}
use Rattle.definition.specs.Resolving.{Goal, refusal, follow, goal_of, linked}
use Rattle.order.proofs.NamesInAnyOrder.{NamesAlike}

module _ (a b : List Naming) (alike : NamesAlike a b) (constants : ℕ) where
  follow-alike : (steps : ℕ) (r : Reference) → follow steps a constants r ≡ follow steps b constants r
  unfolding follow
  follow-alike zero (raw n) = refl
  follow-alike zero (entry kind n) = refl
  follow-alike zero (name kind s) = refl
  follow-alike (suc steps) (raw n) = refl
  follow-alike (suc steps) (entry kind n) = refl
  follow-alike (suc steps) (name kind s) = go (name_target kind s a) (name_target kind s b) (alike.same_targets kind s) (follow-alike steps)
    where
      step : List Naming → Option Reference → Goal
      step names o = elim o [ none ↦ refusal 12 | some r ↦ follow steps names constants r ]

      go :
          (x y : Option Reference) →
          x ≡ y →
          ((r : Reference) → follow steps a constants r ≡ follow steps b constants r) →
          step a x ≡ step b y
      go x y e rest = same x rest ∙ ap (step b) e
        where
          same : (x : Option Reference) → ((r : Reference) → follow steps a constants r ≡ follow steps b constants r) → step a x ≡ step b x
          same none rest = refl
          same (some r) rest = rest r

  pub same_goals : (r : Reference) → goal_of a constants r ≡ goal_of b constants r
  unfolding goal_of
  same_goals r = follow-alike (suc (length a)) r ∙ ap (λ n. follow (suc n) b constants r) alike.as_many_lem

  -- so the entries are linked alike
  pub same-links : (table : List (Entry ℕ Reference)) → linked a constants table ≡ linked b constants table
  unfolding linked
  same-links table = λ i. map (λ e. with_kids (map (λ r. same_goals r i) e.kids) e) table
