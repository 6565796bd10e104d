-- What the definitions in turn leave: raw slots that rise from 1 to the highest slot, and raw indexes that rise below 65,535. Assumes nothing.
use mathlib.Core.Bool.{Bool, true, false, ◌&&◌, ◌||◌, not}
use mathlib.Core.List.{List, [], ◌∷◌, ◌++◌, append-nil, append_assoc}
use mathlib.Core.Option.{Option, none, some}
use mathlib.Core.Path.{◌≡◌, refl, sym, ◌∙◌}
use Prim.Native.Nat.{ℕ, suc, ◌≤◌, ◌<◌}
use native.Mathlib.Omega.{arith}
use lib.Dec.{eqb, leb, ltb}
use borrow.Author.Tests.{eqb-false, ltb-true, leb-true, not-true}
use Rattle.definition.specs.Basics.{Result, good, at_record, lookup, insert, ◌>>=◌}
use Rattle.definition.specs.Settings.{version, texts, highest}
use Rattle.definition.specs.Shapes.{is_wide, Entry, constant, bootstrap}
use Rattle.definition.specs.Job.{Definition, define, named, placed, setting}
use Rattle.definition.specs.Definitions.{with_setting, Held, starts, half, Defined, name_target, is_none, tag_at, start_free, last_slot, hold, place_constant, place_bootstrap, define_one, define_all, nothing_defined}
use Rattle.facts.specs.Lists.{Rising, keys}
use Rattle.facts.proofs.Lists.{true≢false, both_true}
use Rattle.facts.proofs.Tables.{lookup-insert-other, rising_insert}
use Rattle.facts.proofs.Results.{bad≢good, good_inj, good_then, at_record-good, unless-first}

start_free-good :
    {A : Type 0} (o : Option Held) (f : Unit {0} → Result ℕ A) (a : A) → (start_free o >>= f) ≡ good a → (o ≡ none) × (f tt ≡ good a)
unfolding start_free
start_free-good none f a h = (refl, h)
start_free-good (some (starts e)) f a h = bad≢good h
start_free-good (some half) f a h = bad≢good h

pub is_none-true : {A : Type 0} (o : Option A) → is_none o ≡ true → o ≡ none
unfolding is_none
is_none-true none h = refl
is_none-true (some a) h = true≢false (sym h)

-- slots for a constant that are free keep the raw slots rising
hold-rises :
    (top : ℕ) (wide : Bool) (n e : ℕ) (held : List (ℕ × Held)) →
    1 ≤ n →
    last_slot wide n ≤ top →
    (not wide || is_none (lookup (suc n) held)) ≡ true →
    lookup n held ≡ none →
    Rising 1 top (keys held) →
    Rising 1 top (keys (hold wide n e held))
unfolding hold last_slot
hold-rises top true n e held one last behind here r =
    rising_insert 1 top n (starts e) (insert (suc n) half held) one (omega arith)
    (lookup-insert-other n (suc n) half held (λ q. omega arith) ∙ here)
    (rising_insert 1 top (suc n) half held (omega arith) last (is_none-true (lookup (suc n) held) behind) r)
hold-rises top false n e held one last behind here r = rising_insert 1 top n (starts e) held one last here r

-- what a raw constant needs: slots from 1 to the highest for all of it, and nothing there yet
pub record PlacedConstant (top : ℕ) (wide : Bool) (n e : ℕ) (held held' : List (ℕ × Held)) : Type 0 where
  pub positive : 1 ≤ n
  pub within : last_slot wide n ≤ top
  pub behind : (not wide || is_none (lookup (suc n) held)) ≡ true
  pub here : lookup n held ≡ none
  pub now : hold wide n e held ≡ held'

pub placed-constant :
    (top : ℕ) (wide : Bool) (n e : ℕ) (held held' : List (ℕ × Held)) →
    place_constant top wide n e held ≡ good held' →
    PlacedConstant top wide n e held held'
unfolding place_constant
placed-constant top wide n e held held' h =
    let s1 = unless-first (not (eqb n 0) && leb (last_slot wide n) top) 6 _ held' h in
    let s2 = unless-first (not wide || is_none (lookup (suc n) held)) 7 _ held' s1.1 in
    let s3 = start_free-good (lookup n held) _ held' s2.1 in
    let within = both_true (not (eqb n 0)) (leb (last_slot wide n) top) s1.0 in
    let some = eqb-false n 0 (not-true (eqb n 0) within.0) in
    record {
      positive = omega arith;
      within = leb-true (last_slot wide n) top within.1;
      behind = s2.0;
      here = s3.0;
      now = good_inj s3.1;
    }

-- a raw constant keeps the raw slots rising
pub constant_rises :
    (top : ℕ) (wide : Bool) (n e : ℕ) (held held' : List (ℕ × Held)) →
    place_constant top wide n e held ≡ good held' →
    Rising 1 top (keys held) →
    Rising 1 top (keys held')
constant_rises top wide n e held held' h r =
    let p = placed-constant top wide n e held held' h in
    rw (← p.now) (hold-rises top wide n e held p.positive p.within p.behind p.here r)

-- what a raw bootstrap needs: an index below the highest that is free
pub placed-bootstrap :
    (index e : ℕ) (indexes indexes' : List (ℕ × ℕ)) →
    place_bootstrap index e indexes ≡ good indexes' →
    (index < 65535) × (lookup index indexes ≡ none) × (insert index e indexes ≡ indexes')
unfolding place_bootstrap
placed-bootstrap index e indexes indexes' h =
    let s1 = unless-first (ltb index 65535) 9 _ indexes' h in
    let s2 = unless-first (is_none (lookup index indexes)) 10 _ indexes' s1.1 in
    (ltb-true index 65535 s1.0, is_none-true (lookup index indexes) s2.0, good_inj s2.1)

-- a raw bootstrap keeps the raw indexes rising
pub bootstrap_rises :
    (index e : ℕ) (indexes indexes' : List (ℕ × ℕ)) →
    place_bootstrap index e indexes ≡ good indexes' →
    Rising 0 65534 (keys indexes) →
    Rising 0 65534 (keys indexes')
bootstrap_rises index e indexes indexes' h r =
    let (below, free, now) = placed-bootstrap index e indexes indexes' h in
    rw (← now) (rising_insert 0 65534 index e indexes (omega arith) (omega arith) free r)

-- raw slots and raw indexes both rise
abbrev pub Rises : ℕ → Defined → Type 0
Rises top d = Rising 1 top (keys d.held) × Rising 0 65534 (keys d.indexes)

pub one-rises :
    {R : Type 0} (top : ℕ) (constants : List (Entry ℕ R)) (x : Definition ℕ) (d d' : Defined) →
    define_one top constants x d ≡ good d' →
    Rises top d →
    Rises top d'
unfolding define_one with_setting
one-rises top constants (define e) d d' h r = rw (← good_inj h) r
one-rises top constants (named kind s t) d d' h r =
    rw (← good_inj (unless-first (is_none (name_target kind s d.names)) 11 _ d' h).1) r
one-rises top constants (placed constant n e) d d' h r =
    good_then (place_constant top (is_wide (tag_at constants e)) n e d.held) _ d' h λ held q g.
    rw (← good_inj g) (constant_rises top (is_wide (tag_at constants e)) n e d.held held q r.0, r.1)
one-rises top constants (placed bootstrap n e) d d' h r =
    good_then (place_bootstrap n e d.indexes) _ d' h λ indexes q g.
    rw (← good_inj g) (r.0, bootstrap_rises n e d.indexes indexes q r.1)
one-rises top constants (setting (version v)) d d' h r = rw (← good_inj h) r
one-rises top constants (setting (highest n)) d d' h r = rw (← good_inj h) r
one-rises top constants (setting texts) d d' h r = rw (← good_inj h) r

-- what is kept by each definition in turn holds when all are through
pub defined_all :
    {R : Type 0} (top : ℕ) (constants : List (Entry ℕ R)) (P : List (Definition ℕ) → Defined → Type 0) →
    ((ds : List (Definition ℕ)) (x : Definition ℕ) (d d' : Defined) → P ds d → define_one top constants x d ≡ good d' → P (ds ++ x ∷ []) d') →
    (place : ℕ) (before ds : List (Definition ℕ)) (d d' : Defined) →
    P before d →
    define_all top constants place ds d ≡ good d' →
    P (before ++ ds) d'
unfolding define_all
defined_all top constants P step place before [] d d' h e =
    let p : d ≡ d' = cc in
    rw (append-nil, ← p) h
defined_all top constants P step place before (x ∷ ds) d d' h e =
    good_then (at_record place (define_one top constants x d)) _ d' e λ d'' p q.
    let here = step before x d d'' h (at_record-good place (define_one top constants x d) d'' p) in
    let all = defined_all top constants P step (suc place) (before ++ x ∷ []) ds d'' d' here q in
    rw append_assoc at all

-- what the definitions of a job leave rises
pub rises :
    {R : Type 0} (top : ℕ) (constants : List (Entry ℕ R)) (definitions : List (Definition ℕ)) (d : Defined) →
    define_all top constants 0 definitions nothing_defined ≡ good d →
    Rises top d
unfolding nothing_defined
rises top constants definitions d h =
    defined_all top constants (λ ds d. Rises top d) (λ ds x d d' r e. one-rises top constants x d d' e r) 0 [] definitions nothing_defined d (tt, tt) h
