-- A raw slot that is a second half stands right behind a wide constant's. Assumes nothing.
use mathlib.Core.Bool.{Bool, true, false}
use mathlib.Core.List.{List, []}
use mathlib.Core.Logic.{◌⊎◌, inl, inr}
use mathlib.Core.Path.{◌≡◌, refl, sym, subst}
use Prim.Native.Nat.{ℕ, suc}
use Rattle.definition.specs.Basics.{good, unless, insert}
use Rattle.definition.specs.Settings.{version, texts, highest}
use Rattle.definition.specs.Shapes.{constant, bootstrap, is_wide, Entry}
use Rattle.definition.specs.Job.{Definition, define, named, placed, setting}
use Rattle.definition.specs.Definitions.{Held, starts, half, Defined, name_target, is_none, tag_at, hold, place_constant, place_bootstrap, with_setting, define_one, define_all, nothing_defined}
use Rattle.facts.specs.Lists.{Among}
use Rattle.facts.proofs.Lists.{clash, among-nil}
use Rattle.facts.proofs.Tables.{insert-new, insert-old, insert-among}
use Rattle.facts.proofs.Results.{good_inj, good_then}
use Rattle.laws.proofs.Definitions.RawSlotsRise.{placed-constant, defined_all}

-- every second half has its wide start before it
abbrev pub Halves : (ℕ → Bool) → List (ℕ × Held) → Type 0
Halves wide held = (n : ℕ) → Among (n, half) held → (j : ℕ) × (e : ℕ) × (n ≡ suc j) × Among (j, starts e) held × (wide e ≡ true)

module _ (wide : ℕ → Bool) where
  -- a row more that is no second half
  halves_more : (n e : ℕ) (held : List (ℕ × Held)) → Halves wide held → Halves wide (insert n (starts e) held)
  halves_more n e held h k a = ways (insert-among n (starts e) held k half a)
    where
      ways :
          ((n ≡ k) × (starts e ≡ half)) ⊎ Among (k, half) held →
          (j : ℕ) × (x : ℕ) × (k ≡ suc j) × Among (j, starts x) (insert n (starts e) held) × (wide x ≡ true)
      ways (inl (q, r)) = clash (cc)
      ways (inr b) = let (j, x, q, c, w) = h k b in (j, x, q, insert-old n (starts e) held (j, starts x) c, w)

  hold-halves : (b : Bool) (n e : ℕ) (held : List (ℕ × Held)) → wide e ≡ b → Halves wide held → Halves wide (hold b n e held)
  unfolding hold
  hold-halves false n e held w h k a = halves_more n e held h k a
  hold-halves true n e held w h k a = ways (insert-among n (starts e) (insert (suc n) half held) k half a)
    where
      There : Type 0
      There = (j : ℕ) × (x : ℕ) × (k ≡ suc j) × Among (j, starts x) (insert n (starts e) (insert (suc n) half held)) × (wide x ≡ true)

      inner : ((suc n ≡ k) × (half ≡ half)) ⊎ Among (k, half) held → There
      inner (inl (q, r)) = (n, e, sym q, insert-new n (starts e) (insert (suc n) half held), w)
      inner (inr b) =
          let (j, x, q, c, u) = h k b in
          (j, x, q, insert-old n (starts e) (insert (suc n) half held) (j, starts x) (insert-old (suc n) half held (j, starts x) c), u)

      ways : ((n ≡ k) × (starts e ≡ half)) ⊎ Among (k, half) (insert (suc n) half held) → There
      ways (inl (q, r)) = clash (cc)
      ways (inr b) = inner (insert-among (suc n) half held k half b)

module _ {R : Type 0} (top : ℕ) (constants : List (Entry ℕ R)) where
  abbrev wide : ℕ → Bool
  wide e = is_wide (tag_at constants e)

  one-halves : (x : Definition ℕ) (d d' : Defined) → Halves wide d.held → define_one top constants x d ≡ good d' → Halves wide d'.held
  unfolding define_one with_setting
  one-halves (define x) d d' h q = subst (λ (y : Defined). Halves wide y.held) (good_inj q) h
  one-halves (named kind s r) d d' h q =
      good_then (unless (is_none (name_target kind s d.names)) 11) _ d' q λ _ _ g. subst (λ (y : Defined). Halves wide y.held) (good_inj g) h
  one-halves (placed constant n e) d d' h q =
      good_then (place_constant top (wide e) n e d.held) _ d' q λ held p g.
      subst (λ (y : Defined). Halves wide y.held) (good_inj g)
      (subst (Halves wide) (placed-constant top (wide e) n e d.held held p).now (hold-halves wide (wide e) n e d.held refl h))
  one-halves (placed bootstrap n e) d d' h q =
      good_then (place_bootstrap n e d.indexes) _ d' q λ indexes p g. subst (λ (y : Defined). Halves wide y.held) (good_inj g) h
  one-halves (setting (version v)) d d' h q = subst (λ (y : Defined). Halves wide y.held) (good_inj q) h
  one-halves (setting texts) d d' h q = subst (λ (y : Defined). Halves wide y.held) (good_inj q) h
  one-halves (setting (highest n)) d d' h q = subst (λ (y : Defined). Halves wide y.held) (good_inj q) h

  pub defined_halves : (ds : List (Definition ℕ)) (d : Defined) → define_all top constants 0 ds nothing_defined ≡ good d → Halves wide d.held
  unfolding nothing_defined
  defined_halves ds d e =
      defined_all top constants (λ _ d. Halves wide d.held) (λ _ x d d' h q. one-halves x d d' h q) 0 [] ds nothing_defined d
      (λ n a. among-nil (n, half) a) e
