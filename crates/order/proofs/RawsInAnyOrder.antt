-- Raw constants and raw bootstraps may be placed in another order: the raw slots and indexes are the same afterwards. Assumes nothing.
use mathlib.Core.Bool.{Bool, true, false, ◌&&◌, ◌||◌, not}
use mathlib.Core.List.{List, [], ◌∷◌}
use mathlib.Core.Option.{Option, none}
use mathlib.Core.Logic.{◌⊎◌, inl, inr}
use mathlib.Core.Path.{◌≡◌, refl, ap, sym, ◌∙◌}
use Prim.Native.Nat.{ℕ, suc, ◌<◌, ◌≤◌}
use native.Mathlib.Omega.{arith}
use lib.Dec.{ltb, leb, eqb}
use Rattle.definition.specs.Basics.{Result, good, unless, insert, lookup, ◌>>=◌}
use Rattle.definition.specs.Definitions.{Held, starts, half, is_none, start_free, last_slot, hold, place_constant, place_bootstrap}
use Rattle.facts.proofs.Lists.{none≢some, true≢false, order}
use Rattle.facts.proofs.Tables.{among-lookup, insert-front, insert-behind, insert-new, lookup-insert-other}
use Rattle.facts.proofs.Results.{good_inj, unless-first}
use Rattle.laws.proofs.Definitions.RawSlotsRise.{is_none-true, PlacedConstant, placed-constant, placed-bootstrap}

-- a lower key and a higher one may come in either order, into any table
commute_lower : {A : Type 0} (j k : ℕ) (a b : A) (t : List (ℕ × A)) → j < k → insert j a (insert k b t) ≡ insert k b (insert j a t)
unfolding insert
commute_lower j k a b [] h = insert-front j a (k, b) [] h ∙ sym (insert-behind k b (j, a) [] (omega arith))
commute_lower {A} j k a b (r ∷ t) h = ways (order j r.0) (order k r.0) (commute_lower j k a b t h)
  where
    ways :
        (j < r.0) ⊎ (r.0 ≤ j) →
        (k < r.0) ⊎ (r.0 ≤ k) →
        insert j a (insert k b t) ≡ insert k b (insert j a t) →
        insert j a (insert k b (r ∷ t)) ≡ insert k b (insert j a (r ∷ t))
    ways (inl p) (inl q) rest =
        ap (insert j a) (insert-front k b r t q)
        ∙ insert-front j a (k, b) (r ∷ t) h
        ∙ ap (λ l. (j, a) ∷ l) (sym (insert-front k b r t q))
        ∙ sym (insert-behind k b (j, a) (r ∷ t) (omega arith))
        ∙ ap (insert k b) (sym (insert-front j a r t p))
    ways (inl p) (inr q) rest =
        ap (insert j a) (insert-behind k b r t q)
        ∙ insert-front j a r (insert k b t) p
        ∙ ap (λ l. (j, a) ∷ l) (sym (insert-behind k b r t q))
        ∙ sym (insert-behind k b (j, a) (r ∷ t) (omega arith))
        ∙ ap (insert k b) (sym (insert-front j a r t p))
    ways (inr p) (inl q) rest = absurd (omega arith)
    ways (inr p) (inr q) rest =
        ap (insert j a) (insert-behind k b r t q)
        ∙ insert-behind j a r (insert k b t) p
        ∙ ap (λ l. r ∷ l) rest
        ∙ sym (insert-behind k b r (insert j a t) q)
        ∙ ap (insert k b) (sym (insert-behind j a r t p))

-- two keys that differ may come in either order
pub inserts_commute : {A : Type 0} (j k : ℕ) (a b : A) (t : List (ℕ × A)) → (j ≡ k → ⊥) → insert j a (insert k b t) ≡ insert k b (insert j a t)
inserts_commute j k a b t differ = ways (order j k)
  where
    ways : (j < k) ⊎ (k ≤ j) → insert j a (insert k b t) ≡ insert k b (insert j a t)
    ways (inl h) = commute_lower j k a b t h
    ways (inr h) = sym (commute_lower k j b a t (omega (arith, differ)))

-- ---- raw slots and raw indexes: what two records place comes out the same in either order

-- a step that always goes well and changes nothing may come first or second
abbrev pub Idle : {A : Type 0} → (A → Result ℕ A) → Type 0
Idle f = (a : _) → f a ≡ good a

-- two steps, of which f came first, go well the other way round too and come to the same
abbrev pub Turned : {A : Type 0} → (A → Result ℕ A) → (A → Result ℕ A) → A → A → Type 0
Turned {A} f g a c = (b : A) × (g a ≡ good b) × (f b ≡ good c)

pub idle_first : {A : Type 0} (f g : A → Result ℕ A) (a b c : A) → Idle f → f a ≡ good b → g b ≡ good c → Turned f g a c
idle_first f g a b c idle p q =
    let e : a ≡ b = good_inj (sym (idle a) ∙ p) in
    (c, ap g e ∙ q, idle c)

pub idle_second : {A : Type 0} (f g : A → Result ℕ A) (a b c : A) → Idle g → f a ≡ good b → g b ≡ good c → Turned f g a c
idle_second f g a b c idle p q =
    let e : b ≡ c = good_inj (sym (idle b) ∙ q) in
    (a, idle a, p ∙ ap good e)

-- a key that is free with another in the table differs from it, and was free before
free_before : {A : Type 0} (j k : ℕ) (a : A) (t : List (ℕ × A)) → lookup j (insert k a t) ≡ none → (j ≡ k → ⊥) × (lookup j t ≡ none)
free_before j k a t free =
    let differ : j ≡ k → ⊥ = λ same.
    let (b, there) = among-lookup k a (insert k a t) (insert-new k a t) in
    none≢some (sym free ∙ ap (λ i. lookup i (insert k a t)) same ∙ there) in
    (differ, sym (lookup-insert-other j k a t differ) ∙ free)

free_after : {A : Type 0} (j k : ℕ) (a : A) (t : List (ℕ × A)) → (j ≡ k → ⊥) → lookup j t ≡ none → lookup j (insert k a t) ≡ none
free_after j k a t differ free = lookup-insert-other j k a t differ ∙ free

-- a slot apart from those of a constant
abbrev Apart : Bool → ℕ → ℕ → Type 0
Apart wide n m = (m ≡ n → ⊥) × (wide ≡ true → m ≡ suc n → ⊥)

hold-free : (wide : Bool) (n e m : ℕ) (held : List (ℕ × Held)) → lookup m (hold wide n e held) ≡ none → Apart wide n m × (lookup m held ≡ none)
unfolding hold
hold-free true n e m held free =
    let first = free_before m n (starts e) (insert (suc n) half held) free in
    let second = free_before m (suc n) half held first.1 in
    ((first.0, λ _. second.0), second.1)
hold-free false n e m held free =
    let first = free_before m n (starts e) held free in
    ((first.0, λ w _. true≢false (sym w)), first.1)

free_hold : (wide : Bool) (n e m : ℕ) (held : List (ℕ × Held)) → Apart wide n m → lookup m held ≡ none → lookup m (hold wide n e held) ≡ none
unfolding hold
free_hold true n e m held apart free =
    free_after m n (starts e) (insert (suc n) half held) apart.0 (free_after m (suc n) half held (apart.1 refl) free)
free_hold false n e m held apart free = free_after m n (starts e) held apart.0 free

-- the slot behind a wide constant's start is free
abbrev Behind : Bool → ℕ → List (ℕ × Held) → Type 0
Behind wide n held = wide ≡ true → lookup (suc n) held ≡ none

behind-free : (wide : Bool) (n : ℕ) (held : List (ℕ × Held)) → (not wide || is_none (lookup (suc n) held)) ≡ true → Behind wide n held
behind-free true n held h w = is_none-true (lookup (suc n) held) h
behind-free false n held h w = true≢false (sym w)

free_behind : (wide : Bool) (n : ℕ) (held : List (ℕ × Held)) → Behind wide n held → (not wide || is_none (lookup (suc n) held)) ≡ true
unfolding is_none
free_behind true n held h = ap is_none (h refl)
free_behind false n held h = refl

-- two constants whose slots are apart may come in either order
holds-commute :
    (w v : Bool) (n e m k : ℕ) (held : List (ℕ × Held)) →
    Apart w n m →
    (v ≡ true → Apart w n (suc m)) →
    hold v m k (hold w n e held) ≡ hold w n e (hold v m k held)
unfolding hold
holds-commute true true n e m k held a b =
    let ins : ℕ → Held → List (ℕ × Held) → List (ℕ × Held) = insert in
    ap (ins m (starts k)) (inserts_commute (suc m) n half (starts e) (ins (suc n) half held) (b refl).0)
    ∙ ap (λ t. ins m (starts k) (ins n (starts e) t)) (inserts_commute (suc m) (suc n) half half held ((b refl).1 refl))
    ∙ inserts_commute m n (starts k) (starts e) (ins (suc n) half (ins (suc m) half held)) a.0
    ∙ ap (ins n (starts e)) (inserts_commute m (suc n) (starts k) half (ins (suc m) half held) (a.1 refl))
holds-commute true false n e m k held a b =
    let ins : ℕ → Held → List (ℕ × Held) → List (ℕ × Held) = insert in
    inserts_commute m n (starts k) (starts e) (ins (suc n) half held) a.0
    ∙ ap (ins n (starts e)) (inserts_commute m (suc n) (starts k) half held (a.1 refl))
holds-commute false true n e m k held a b =
    let ins : ℕ → Held → List (ℕ × Held) → List (ℕ × Held) = insert in
    ap (ins m (starts k)) (inserts_commute (suc m) n half (starts e) held (b refl).0)
    ∙ inserts_commute m n (starts k) (starts e) (ins (suc m) half held) a.0
holds-commute false false n e m k held a b = inserts_commute m n (starts k) (starts e) held a.0

-- a raw constant goes where its number is one and its slots are free
constant_placed :
    (top : ℕ) (wide : Bool) (n e : ℕ) (held : List (ℕ × Held)) →
    (not (eqb n 0) && leb (last_slot wide n) top) ≡ true →
    Behind wide n held →
    lookup n held ≡ none →
    place_constant top wide n e held ≡ good (hold wide n e held)
unfolding place_constant unless start_free
constant_placed top wide n e held within behind free =
    go (not (eqb n 0) && leb (last_slot wide n) top) (not wide || is_none (lookup (suc n) held)) (lookup n held) within (free_behind wide n held behind) free
  where
    go :
        (a b : Bool) (o : Option Held) →
        a ≡ true →
        b ≡ true →
        o ≡ none →
        (unless a 6 >>= λ _. unless b 7 >>= λ _. start_free o >>= λ _. good (hold wide n e held)) ≡ good (hold wide n e held)
    go a b o p q s = rw (p, q, s)

-- two raw constants that were placed one after the other
module _
    (top : ℕ)
    (w v : Bool)
    (n e m k : ℕ)
    (held held' held'' : List (ℕ × Held))
    (p : place_constant top w n e held ≡ good held')
    (q : place_constant top v m k held' ≡ good held'') where
  first : PlacedConstant top w n e held held'
  first = placed-constant top w n e held held' p

  second : PlacedConstant top v m k held' held''
  second = placed-constant top v m k held' held'' q

  -- the second's slots are apart from the first's, and were free without it
  start_apart : Apart w n m × (lookup m held ≡ none)
  start_apart = hold-free w n e m held (ap (λ t. lookup m t) first.now ∙ second.here)

  half_apart : v ≡ true → Apart w n (suc m) × (lookup (suc m) held ≡ none)
  half_apart wide = hold-free w n e (suc m) held (ap (λ t. lookup (suc m) t) first.now ∙ behind-free v m held' second.behind wide)

  -- so the first's are free with the second
  start_free_lem : lookup n (hold v m k held) ≡ none
  start_free_lem = free_hold v m k n held ((λ same. start_apart.0.0 (sym same)), λ wide same. (half_apart wide).0.0 (sym same)) first.here

  half_free : Behind w n (hold v m k held)
  half_free wide =
      free_hold v m k (suc n) held
      ((λ same. start_apart.0.1 wide (sym same)), λ _ same. start_apart.0.0 (omega arith))
      (behind-free w n held first.behind wide)

  pub constants_turned : Turned (place_constant top w n e) (place_constant top v m k) held held''
  unfolding place_constant
  constants_turned = (
    hold v m k held,
    constant_placed top v m k held (unless-first _ 6 _ held'' q).0 (λ wide. (half_apart wide).1) start_apart.1,
    constant_placed top w n e (hold v m k held) (unless-first _ 6 _ held' p).0 half_free start_free_lem
        ∙ ap good (sym (holds-commute w v n e m k held start_apart.0 (λ wide. (half_apart wide).0)) ∙ ap (hold v m k) first.now ∙ second.now),
  )

-- a raw bootstrap goes where its index is one and free
bootstrap_placed :
    (index e : ℕ) (indexes : List (ℕ × ℕ)) → ltb index 65535 ≡ true → lookup index indexes ≡ none → place_bootstrap index e indexes ≡ good (insert index e indexes)
unfolding place_bootstrap unless is_none
bootstrap_placed index e indexes within free = go (ltb index 65535) (lookup index indexes) within free
  where
    go :
        (a : Bool) (o : Option ℕ) →
        a ≡ true →
        o ≡ none →
        (unless a 9 >>= λ _. unless (is_none o) 10 >>= λ _. good (insert index e indexes)) ≡ good (insert index e indexes)
    go a o p q = rw (p, q)

pub bootstraps_turned :
    (n e m k : ℕ) (indexes indexes' indexes'' : List (ℕ × ℕ)) →
    place_bootstrap n e indexes ≡ good indexes' →
    place_bootstrap m k indexes' ≡ good indexes'' →
    Turned (place_bootstrap n e) (place_bootstrap m k) indexes indexes''
unfolding place_bootstrap
bootstraps_turned n e m k indexes indexes' indexes'' p q =
    let a = placed-bootstrap n e indexes indexes' p in
    let b = placed-bootstrap m k indexes' indexes'' q in
    let now : insert n e indexes ≡ indexes' = a.2 in
    let start = free_before m n e indexes (ap (λ t. lookup m t) now ∙ b.1) in
    let first = bootstrap_placed m k indexes (tested m k indexes' indexes'' q) start.1 in
    let second = bootstrap_placed n e (insert m k indexes) (tested n e indexes indexes' p) (free_after n m k indexes (λ same. start.0 (sym same)) a.1) in
    let both : insert n e (insert m k indexes) ≡ indexes'' = sym (inserts_commute m n k e indexes start.0) ∙ ap (insert m k) now ∙ b.2 in
    (insert m k indexes, first, second ∙ ap good both)
  where
    tested : (n e : ℕ) (indexes indexes' : List (ℕ × ℕ)) → place_bootstrap n e indexes ≡ good indexes' → ltb n 65535 ≡ true
    tested n e indexes indexes' h = (unless-first (ltb n 65535) 9 _ indexes' h).0
