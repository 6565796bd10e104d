-- KEEPS: a constant given a slot keeps it. Assumes nothing.
use mathlib.Core.List.{◌∷◌}
use mathlib.Core.Option.{some}
use mathlib.Core.Path.{◌≡◌, refl, sym, ap, ◌∙◌}
use Prim.Native.Nat.{ℕ}
use Rattle.definition.specs.Basics.{lookup}
use Rattle.facts.proofs.Lists.{none≢some}
use Rattle.facts.proofs.Tables.{lookup-hit, lookup-miss}
use Rattle.laws.specs.Statements.{Keeps}
use Rattle.laws.proofs.Slots.SlotRequest.{Met, old, new, met}

pub keeps : Keeps
keeps nodes ldc k s p p' h = ways (met nodes ldc k s p p' h)
  where
    elsewhere : (k' s' : ℕ) → lookup k' p.given ≡ some s' → (k' ≡ k → ⊥) → lookup k' ((k, s) ∷ p.given) ≡ some s'
    elsewhere k' s' g ne = lookup-miss k' (k, s) p.given ne ∙ g

    ways :
        Met nodes ldc k p s p' →
        (lookup k p'.given ≡ some s) × ((k' s' : ℕ) → lookup k' p.given ≡ some s' → lookup k' p'.given ≡ some s')
    ways (old e q) = rw q (e, λ k' s' f. f)
    ways (new slots e f q) =
        rw q
        (lookup-hit k (k, s) p.given refl, λ k' s' g. elsewhere k' s' g (λ same. none≢some (sym e ∙ ap (λ (n : ℕ). lookup n p.given) (sym same) ∙ g)))
