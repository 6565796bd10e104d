-- Regions left alone: a function names those that it writes, and the others are found by computing. Assumes nothing.
use mathlib.Core.Bool.{Bool, true, false, cond}
use mathlib.Core.List.{List, [], ◌∷◌}
use mathlib.Core.Path.{◌≡◌, refl, sym, subst, ◌∙◌}
use Prim.Native.Nat.{ℕ}
use lib.Dec.{eqb}
use lib.ListN.{set}
use borrow.Author.Tests.{eqb-true}
use Rattle.definition.specs.Basics.{every}
use Rattle.store.specs.Store.{Store, put}
use Rattle.store.specs.Store.{among, Kept}
use Rattle.facts.proofs.Lists.{both_true}
use Rattle.store.proofs.Walking.{both}

-- a region that is written is among those that are
pub kept_put : (l : List ℕ) (s t : Store) (k i x : ℕ) → among k l ≡ true → Kept l s t → Kept l s (put t k i x)
kept_put l s t k i x a g j f = ways (eqb j k) refl
  where
    ways : (b : Bool) → eqb j k ≡ b → elim b [ true ↦ set (t k) i x | false ↦ t j ] ≡ s j
    ways true e = absurd (both (subst (λ (y : ℕ). among y l ≡ true) (sym (eqb-true j k e)) a) f)
    ways false e = g j f

pub kept_then : (l : List ℕ) (s t u : Store) → Kept l s t → Kept l t u → Kept l s u
kept_then l s t u g h k f = h k f ∙ g k f

-- a callee writes only regions that the caller lists
kept_out : (k : ℕ) (m r : List ℕ) → among k m ≡ false → every (λ x. among x m) r ≡ true → among k r ≡ false
unfolding every
kept_out k m [] f a = refl
kept_out k m (x ∷ r) f a = let t = both_true (among x m) (every (λ x. among x m) r) a in ways (eqb k x) refl t.0 (kept_out k m r f t.1)
  where
    ways : (b : Bool) → eqb k x ≡ b → among x m ≡ true → among k r ≡ false → cond b true (among k r) ≡ false
    ways true e t ih = absurd (both (subst (λ (y : ℕ). among y m ≡ true) (sym (eqb-true k x e)) t) f)
    ways false e t ih = ih

pub kept_more : (l m : List ℕ) (s t : Store) → every (λ x. among x m) l ≡ true → Kept l s t → Kept m s t
kept_more l m s t e g k f = g k (kept_out k m l f e)
