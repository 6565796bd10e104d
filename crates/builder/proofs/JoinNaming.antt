-- The slot of the name is at most the highest one. Assumes nothing.
use mathlib.Core.List.{List}
use mathlib.Core.Logic.{◌⊎◌, inl, inr}
use mathlib.Core.Bool.{Bool, true, false}
use mathlib.Core.Option.{some}
use mathlib.Core.Path.{◌≡◌, ap, subst}
use Prim.Native.Nat.{ℕ, ◌≤◌}
use native.Mathlib.Omega.{arith}
use Rattle.definition.specs.Basics.{good, lookup}
use Rattle.definition.specs.Job.{Job}
use Rattle.definition.specs.Form.{form}
use Rattle.definition.specs.Numbering.{top_of, numbered}
use Rattle.definition.specs.Building.{attribute_text}
use Rattle.definition.specs.Layout.{Layout, layout_of, layout}
use Rattle.laws.specs.Statements.{IsBytes}
use Rattle.laws.proofs.Building.LayoutStages.{Stages}
use Rattle.laws.proofs.Reading.BuiltPoolReadBack as built

module _
    (bytes : List ℕ) (job : Job (List ℕ)) (l : Layout) (are : IsBytes bytes) (formed : form bytes ≡ good job)
    (laid : layout (top_of job) (numbered job) ≡ good l) where
  abbrev staged : Stages (top_of job) (numbered job) l
  staged = built.stg bytes job l are formed laid

  -- a slot that holds something is one
  owned_low : (wanted : Bool) → ((wanted ≡ false) × (staged.named.0 ≡ 0)) ⊎ ((wanted ≡ true) × (lookup staged.named.0 staged.named.1.owned ≡ some attribute_text)) → staged.named.0 ≤ top_of job
  owned_low wanted (inl h) = omega arith
  owned_low wanted (inr h) =
      let (k, a, _) = built.owner_tag bytes job l are formed laid staged.named.0 attribute_text h.1 in
      (built.starts-at bytes job l are formed laid staged.named.0 k a).1

  pub name_low_lem : l.name ≤ top_of job
  unfolding layout_of
  name_low_lem = subst (λ n. n ≤ top_of job) (ap (λ (x : Layout). x.name) staged.is_laid) (owned_low _ (built.end bytes job l are formed laid).name)
