-- A second half leaves no gap before it, so there is at most one gap more than raw constants; and placing a raw constant keeps it so.
-- Assumes nothing.
use mathlib.Core.Bool.{Bool, true, false, ◌||◌, not}
use mathlib.Core.List.{List, [], ◌∷◌, ◌++◌, map}
use mathlib.Core.Logic.{◌⊎◌, inl, inr}
use mathlib.Core.Option.{none}
use mathlib.Core.Path.{◌≡◌, refl, sym, ap, ◌∙◌}
use Prim.Native.Nat.{ℕ, suc, ◌+◌, ◌≤◌, ◌<◌}
use native.Mathlib.Omega.{arith}
use lib.ListN.{length}
use Rattle.definition.specs.Basics.{good, lookup, insert}
use Rattle.definition.specs.Settings.{version, texts, highest}
use Rattle.definition.specs.Shapes.{constant, bootstrap, Entry, is_wide}
use Rattle.definition.specs.Job.{Definition, define, named, placed, setting}
use Rattle.definition.specs.Numbering.{Literal, numbered_definition}
use Rattle.definition.specs.Definitions.{Held, starts, half, Defined, tag_at, is_none, name_target, hold, place_constant, place_bootstrap, with_setting, define_one, define_all, nothing_defined}
use Rattle.definition.specs.Slots.{Gap, gap_before, gaps_from}
use Rattle.definition.specs.Layout.{starters}
use Rattle.facts.proofs.Lists.{order, equal, none≢some}
use Rattle.facts.proofs.Tables.{lookup-hit, lookup-miss, insert-front, insert-behind}
use Rattle.facts.specs.Lists.{keys}
use Rattle.facts.proofs.Results.{good_inj, good_then, unless-first}
use Rattle.laws.proofs.Definitions.RawSlotsRise.{is_none-true, placed-constant, defined_all}
use Rattle.laws.proofs.Slots.Gaps.{gap_before-some, gap_before-none}

-- every second half stands right behind another slot, from slot `first` on
abbrev pub Paired : ℕ → List (ℕ × Held) → Type 0
Paired first [] = Unit {0}
Paired first ((n, starts e) ∷ held) = Paired (suc n) held
Paired first ((n, half) ∷ held) = (first ≡ n) × Paired (suc n) held

-- GAPS

one-gap : (first next : ℕ) (gaps : List Gap) → length (gap_before first next gaps) ≤ suc (length gaps)
one-gap first next gaps = ways (order first next)
  where
    ways : (first < next) ⊎ (next ≤ first) → length (gap_before first next gaps) ≤ suc (length gaps)
    ways (inl h) = rw (gap_before-some first next gaps h) (omega arith)
    ways (inr h) = rw (gap_before-none first next gaps h) (omega arith)

pub gaps_spare : (top first : ℕ) (held : List (ℕ × Held)) → Paired first held → length (gaps_from top first (keys held)) ≤ length (starters held) + 1
unfolding gaps_from starters
gaps_spare top first [] p = omega (arith, one-gap first (suc top) [])
gaps_spare top first ((n, starts e) ∷ held) p =
    omega (arith, one-gap first n (gaps_from top (suc n) (keys held)), gaps_spare top (suc n) held p)
gaps_spare top first ((n, half) ∷ held) p =
    rw (gap_before-none first n (gaps_from top (suc n) (keys held)) (omega (arith, p.0))) (gaps_spare top (suc n) held p.1)

-- PLACING

-- nothing stands from a slot on but behind it
later : (first low : ℕ) (r : ℕ × Held) (rows : List (ℕ × Held)) → first ≤ low → low < r.0 → Paired first (r ∷ rows) → Paired (suc low) (r ∷ rows)
later first low (k, starts e) rows h l p = p
later first low (k, half) rows h l p = absurd (omega (arith, p.0))

head_then : (first k : ℕ) (x : Held) (rows rows' : List (ℕ × Held)) → (Paired (suc k) rows → Paired (suc k) rows') → Paired first ((k, x) ∷ rows) → Paired first ((k, x) ∷ rows')
head_then first k (starts e) rows rows' f p = f p
head_then first k half rows rows' f p = (p.0, f p.1)

free_tail : (n : ℕ) (r : ℕ × Held) (rows : List (ℕ × Held)) → lookup n (r ∷ rows) ≡ none → (n ≡ r.0 → ⊥) × (lookup n rows ≡ none)
free_tail n r rows e = ways (equal n r.0)
  where
    ways : (n ≡ r.0) ⊎ (n ≡ r.0 → ⊥) → (n ≡ r.0 → ⊥) × (lookup n rows ≡ none)
    ways (inl q) = none≢some (sym e ∙ lookup-hit n r rows q)
    ways (inr q) = (q, sym (lookup-miss n r rows q) ∙ e)

pub narrow_paired :
    (first n e : ℕ) (held : List (ℕ × Held)) → first ≤ n → lookup n held ≡ none → Paired first held → Paired first (insert n (starts e) held)
unfolding insert
narrow_paired first n e [] h free p = tt
narrow_paired first n e ((k, x) ∷ rows) h free p =
    ways (order n k) (free_tail n (k, x) rows free) (narrow_paired (suc k) n e rows)
  where
    ways :
        (n < k) ⊎ (k ≤ n) →
        (n ≡ k → ⊥) × (lookup n rows ≡ none) →
        (suc k ≤ n → lookup n rows ≡ none → Paired (suc k) rows → Paired (suc k) (insert n (starts e) rows)) →
        Paired first (insert n (starts e) ((k, x) ∷ rows))
    ways (inl o) f ih = rw (insert-front n (starts e) (k, x) rows o) (later first n (k, x) rows h o p)
    ways (inr o) f ih =
        let l : suc k ≤ n = omega (arith, f.0) in
        rw (insert-behind n (starts e) (k, x) rows o) (head_then first k x rows (insert n (starts e) rows) (ih l f.1) p)

pub wide_paired :
    (first n e : ℕ) (held : List (ℕ × Held)) → first ≤ n → lookup n held ≡ none → lookup (suc n) held ≡ none → Paired first held →
    Paired first (insert n (starts e) (insert (suc n) half held))
unfolding insert
wide_paired first n e [] h free free' p = rw (insert-front n (starts e) (suc n, half) [] (omega arith)) (refl, tt)
wide_paired first n e ((k, x) ∷ rows) h free free' p =
    ways (order (suc n) k) (free_tail n (k, x) rows free) (free_tail (suc n) (k, x) rows free') (wide_paired (suc k) n e rows)
  where
    ways :
        (suc n < k) ⊎ (k ≤ suc n) →
        (n ≡ k → ⊥) × (lookup n rows ≡ none) →
        (suc n ≡ k → ⊥) × (lookup (suc n) rows ≡ none) →
        (suc k ≤ n → lookup n rows ≡ none → lookup (suc n) rows ≡ none → Paired (suc k) rows →
        Paired (suc k) (insert n (starts e) (insert (suc n) half rows))) →
        Paired first (insert n (starts e) (insert (suc n) half ((k, x) ∷ rows)))
    ways (inl o) f g ih =
        rw (insert-front (suc n) half (k, x) rows o, insert-front n (starts e) (suc n, half) ((k, x) ∷ rows) (omega arith))
        (refl, later first (suc n) (k, x) rows (omega arith) o p)
    ways (inr o) f g ih =
        let l : suc k ≤ n = omega (arith, f.0, g.0) in
        let b : k ≤ n = omega arith in
        rw (insert-behind (suc n) half (k, x) rows o, insert-behind n (starts e) (k, x) (insert (suc n) half rows) b)
        (head_then first k x rows (insert n (starts e) (insert (suc n) half rows)) (ih l f.1 g.1) p)

-- HOW MANY raw constants there are

start_counted : (n e : ℕ) (held : List (ℕ × Held)) → length (starters (insert n (starts e) held)) ≡ suc (length (starters held))
unfolding insert starters
start_counted n e [] = refl
start_counted n e ((k, x) ∷ rows) = ways (order n k) x (start_counted n e rows)
  where
    ways :
        (n < k) ⊎ (k ≤ n) → (x : Held) → length (starters (insert n (starts e) rows)) ≡ suc (length (starters rows)) →
        length (starters (insert n (starts e) ((k, x) ∷ rows))) ≡ suc (length (starters ((k, x) ∷ rows)))
    ways (inl o) x ih = rw (insert-front n (starts e) (k, x) rows o)
    ways (inr o) (starts d) ih = rw (insert-behind n (starts e) (k, starts d) rows o) (ap suc ih)
    ways (inr o) half ih = rw (insert-behind n (starts e) (k, half) rows o) ih

half_counted : (n : ℕ) (held : List (ℕ × Held)) → length (starters (insert n half held)) ≡ length (starters held)
unfolding insert starters
half_counted n [] = refl
half_counted n ((k, x) ∷ rows) = ways (order n k) x (half_counted n rows)
  where
    ways :
        (n < k) ⊎ (k ≤ n) → (x : Held) → length (starters (insert n half rows)) ≡ length (starters rows) →
        length (starters (insert n half ((k, x) ∷ rows))) ≡ length (starters ((k, x) ∷ rows))
    ways (inl o) x ih = rw (insert-front n half (k, x) rows o)
    ways (inr o) (starts d) ih = rw (insert-behind n half (k, starts d) rows o) (ap suc ih)
    ways (inr o) half ih = rw (insert-behind n half (k, half) rows o) ih

-- one more
pub hold-counted : (wide : Bool) (n e : ℕ) (held : List (ℕ × Held)) → length (starters (hold wide n e held)) ≡ suc (length (starters held))
unfolding hold
hold-counted true n e held = start_counted n e (insert (suc n) half held) ∙ ap suc (half_counted (suc n) held)
hold-counted false n e held = start_counted n e held

-- ALL DEFINITIONS

-- how many raw constants are placed
unfoldable pub placings : {L : Type 0} → List (Definition L) → ℕ
placings [] = 0
placings (define e ∷ ds) = placings ds
placings (named kind s r ∷ ds) = placings ds
placings (placed constant n e ∷ ds) = suc (placings ds)
placings (placed bootstrap n e ∷ ds) = placings ds
placings (setting rule ∷ ds) = placings ds

one-placing : (ds : List (Definition ℕ)) (x : Definition ℕ) → placings (ds ++ x ∷ []) ≡ placings ds + placings (x ∷ [])
unfolding placings
one-placing [] x = omega arith
one-placing (define e ∷ ds) x = one-placing ds x
one-placing (named kind s r ∷ ds) x = one-placing ds x
one-placing (placed constant n e ∷ ds) x = omega (arith, one-placing ds x)
one-placing (placed bootstrap n e ∷ ds) x = one-placing ds x
one-placing (setting rule ∷ ds) x = one-placing ds x

pub placings_numbered : (all : List Literal) (ds : List (Definition (List ℕ))) → placings (map (numbered_definition all) ds) ≡ placings ds
unfolding placings numbered_definition
placings_numbered all [] = refl
placings_numbered all (define e ∷ ds) = placings_numbered all ds
placings_numbered all (named kind s r ∷ ds) = placings_numbered all ds
placings_numbered all (placed constant n e ∷ ds) = ap suc (placings_numbered all ds)
placings_numbered all (placed bootstrap n e ∷ ds) = placings_numbered all ds
placings_numbered all (setting rule ∷ ds) = placings_numbered all ds

-- the raw slots after some definitions
abbrev pub Spared : List (Definition ℕ) → Defined → Type 0
Spared ds d = Paired 1 d.held × (length (starters d.held) ≡ placings ds)

hold-paired :
    (wide : Bool) (n e : ℕ) (held : List (ℕ × Held)) → 1 ≤ n → (not wide || is_none (lookup (suc n) held)) ≡ true → lookup n held ≡ none →
    Paired 1 held → Paired 1 (hold wide n e held)
unfolding hold
hold-paired true n e held h behind here p = wide_paired 1 n e held h here (is_none-true (lookup (suc n) held) behind) p
hold-paired false n e held h behind here p = narrow_paired 1 n e held h here p

one-spared :
    {R : Type 0} (top : ℕ) (constants : List (Entry ℕ R)) (ds : List (Definition ℕ)) (x : Definition ℕ) (d d' : Defined) →
    Spared ds d → define_one top constants x d ≡ good d' → Spared (ds ++ x ∷ []) d'
unfolding define_one with_setting placings
one-spared top constants ds (define e) d d' p h = rw (← good_inj h) (p.0, omega (arith, p.1, one-placing ds (define e)))
one-spared top constants ds (named kind s t) d d' p h =
    rw (← good_inj (unless-first (is_none (name_target kind s d.names)) 11 _ d' h).1) (p.0, omega (arith, p.1, one-placing ds (named kind s t)))
one-spared top constants ds (placed constant n e) d d' p h =
    good_then (place_constant top (is_wide (tag_at constants e)) n e d.held) _ d' h λ held q g.
    let wide = is_wide (tag_at constants e) in
    let c = placed-constant top wide n e d.held held q in
    rw (← good_inj g, ← c.now) (
      hold-paired wide n e d.held c.positive c.behind c.here p.0,
      omega (arith, hold-counted wide n e d.held, p.1, one-placing ds (placed constant n e)),
    )
one-spared top constants ds (placed bootstrap n e) d d' p h =
    good_then (place_bootstrap n e d.indexes) _ d' h λ indexes q g.
    rw (← good_inj g) (p.0, omega (arith, p.1, one-placing ds (placed bootstrap n e)))
one-spared top constants ds (setting (version v)) d d' p h = rw (← good_inj h) (p.0, omega (arith, p.1, one-placing ds (setting (version v))))
one-spared top constants ds (setting texts) d d' p h = rw (← good_inj h) (p.0, omega (arith, p.1, one-placing ds (setting texts)))
one-spared top constants ds (setting (highest n)) d d' p h = rw (← good_inj h) (p.0, omega (arith, p.1, one-placing ds (setting (highest n))))

pub spared :
    {R : Type 0} (top : ℕ) (constants : List (Entry ℕ R)) (definitions : List (Definition ℕ)) (d : Defined) →
    define_all top constants 0 definitions nothing_defined ≡ good d → Spared definitions d
unfolding nothing_defined placings starters
spared top constants definitions d h =
    defined_all top constants Spared (λ ds x d d' p e. one-spared top constants ds x d d' p e) 0 [] definitions nothing_defined d (tt, refl) h
