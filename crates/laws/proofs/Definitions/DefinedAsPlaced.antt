-- What the definitions in turn leave: the names in order, the raw slots and the raw bootstraps exactly as they were placed, and a second half
-- behind each wide start. Assumes nothing.
use mathlib.Core.Bool.{Bool, true, false}
use mathlib.Core.List.{List, [], ◌∷◌, ◌++◌, map, append-nil}
use mathlib.Core.Logic.{◌⊎◌, inl, inr}
use mathlib.Core.Option.{some}
use mathlib.Core.Path.{◌≡◌, refl, sym, ap, ◌∙◌}
use Prim.Native.Nat.{ℕ, zero, suc, ◌+◌}
use native.Mathlib.Omega.{arith}
use lib.ListN.{get_elem?}
use Rattle.definition.specs.Basics.{good, unless, insert}
use Rattle.definition.specs.Settings.{version, texts, highest}
use Rattle.definition.specs.Shapes.{Kind, is_wide, Entry, constant, bootstrap}
use Rattle.definition.specs.Job.{Definition, define, named, placed, setting, Job}
use Rattle.definition.specs.Numbering.{Literal, literals, numbered_definition, numbered}
use Rattle.definition.specs.Definitions.{with_setting, Held, starts, half, Naming, Defined, name_target, is_none, tag_at, hold, place_constant, place_bootstrap, define_one, define_all, nothing_defined}
use Rattle.definition.specs.Layout.{starters}
use Rattle.facts.specs.Lists.{Among}
use Rattle.facts.proofs.Lists.{clash, among-nil, among_later, among-left, among-right, among-snoc, map_at, map-some}
use Rattle.facts.proofs.Tables.{some_key, some-row, insert-new, insert-old, insert-among}
use Rattle.facts.proofs.Sums.{times, times_cons}
use Rattle.facts.proofs.Results.{good_then}
use Rattle.laws.specs.LeadsStatement.{namings}
use Rattle.laws.proofs.Definitions.RawSlotsRise.{placed-constant, placed-bootstrap, defined_all}

-- the name records in turn
unfoldable pub namings_of : {L : Type 0} → List (Definition L) → List Naming
namings_of [] = []
namings_of (define e ∷ ds) = namings_of ds
namings_of (named kind s r ∷ ds) = record { kind = kind; label = s; target = r } ∷ namings_of ds
namings_of (placed kind n e ∷ ds) = namings_of ds
namings_of (setting rule ∷ ds) = namings_of ds

namings-snoc : {L : Type 0} (ds : List (Definition L)) (x : Definition L) → namings_of (ds ++ x ∷ []) ≡ namings_of ds ++ namings_of (x ∷ [])
unfolding namings_of
namings-snoc [] x = refl
namings-snoc (define e ∷ ds) x = namings-snoc ds x
namings-snoc (named kind s r ∷ ds) x = ap (λ l. record { kind = kind; label = s; target = r } ∷ l) (namings-snoc ds x)
namings-snoc (placed kind n e ∷ ds) x = namings-snoc ds x
namings-snoc (setting rule ∷ ds) x = namings-snoc ds x

-- the slots behind the records of a list: what was placed is held, what is held was placed, and second halves stand behind wide starts
pub record HeldFacts (wide : ℕ → Bool) (ds : List (Definition ℕ)) (held : List (ℕ × Held)) : Type 0 where
  pub start_held : (n e : ℕ) → Among (placed constant n e) ds → Among (n, starts e) held
  pub half_held : (n e : ℕ) → Among (placed constant n e) ds → wide e ≡ true → Among (suc n, half) held
  pub start_placed : (n e : ℕ) → Among (n, starts e) held → Among (placed constant n e) ds

pub record IndexFacts (ds : List (Definition ℕ)) (indexes : List (ℕ × ℕ)) : Type 0 where
  pub index_held : (i e : ℕ) → Among (placed bootstrap i e) ds → Among (i, e) indexes
  pub index_placed : (i e : ℕ) → Among (i, e) indexes → Among (placed bootstrap i e) ds

-- a constant more: it starts there, its second half follows if it is wide, all others are still there, and nothing else is
hold-new : (wide : Bool) (n e : ℕ) (held : List (ℕ × Held)) → Among (n, starts e) (hold wide n e held)
unfolding hold
hold-new true n e held = insert-new n (starts e) (insert (suc n) half held)
hold-new false n e held = insert-new n (starts e) held

hold-half : (wide : Bool) (n e : ℕ) (held : List (ℕ × Held)) → wide ≡ true → Among (suc n, half) (hold wide n e held)
unfolding hold
hold-half true n e held w = insert-old n (starts e) (insert (suc n) half held) (suc n, half) (insert-new (suc n) half held)
hold-half false n e held w = clash (cc)

hold-old : (wide : Bool) (n e : ℕ) (held : List (ℕ × Held)) (x : ℕ × Held) → Among x held → Among x (hold wide n e held)
unfolding hold
hold-old true n e held x h = insert-old n (starts e) (insert (suc n) half held) x (insert-old (suc n) half held x h)
hold-old false n e held x h = insert-old n (starts e) held x h

-- what the slots hold after a constant more
abbrev Holding : Bool → ℕ → ℕ → List (ℕ × Held) → ℕ → Held → Type 0
Holding wide n e held m h = ((n ≡ m) × (starts e ≡ h)) ⊎ ((wide ≡ true) × (suc n ≡ m) × (half ≡ h)) ⊎ Among (m, h) held

hold-among : (wide : Bool) (n e : ℕ) (held : List (ℕ × Held)) (m : ℕ) (h : Held) → Among (m, h) (hold wide n e held) → Holding wide n e held m h
unfolding hold
hold-among true n e held m h a = ways (insert-among n (starts e) (insert (suc n) half held) m h a)
  where
    second : ((suc n ≡ m) × (half ≡ h)) ⊎ Among (m, h) held → Holding true n e held m h
    second (inl p) = inr (inl (refl, p.0, p.1))
    second (inr q) = inr (inr q)

    ways : ((n ≡ m) × (starts e ≡ h)) ⊎ Among (m, h) (insert (suc n) half held) → Holding true n e held m h
    ways (inl p) = inl p
    ways (inr q) = second (insert-among (suc n) half held m h q)
hold-among false n e held m h a = ways (insert-among n (starts e) held m h a)
  where
    ways : ((n ≡ m) × (starts e ≡ h)) ⊎ Among (m, h) held → Holding false n e held m h
    ways (inl p) = inl p
    ways (inr q) = inr (inr q)

-- a record that places no constant leaves the slots as they are
held-other :
    (wide : ℕ → Bool) (ds : List (Definition ℕ)) (x : Definition ℕ) (held : List (ℕ × Held)) →
    ((n e : ℕ) → x ≡ placed constant n e → ⊥) →
    HeldFacts wide ds held →
    HeldFacts wide (ds ++ x ∷ []) held
held-other wide ds x held other f =
    record {
      start_held = λ n e h. f.start_held n e (before n e h);
      half_held = λ n e h. f.half_held n e (before n e h);
      start_placed = λ n e h. among-left (placed constant n e) ds (x ∷ []) (f.start_placed n e h);
    }
  where
    before : (n e : ℕ) → Among (placed constant n e) (ds ++ x ∷ []) → Among (placed constant n e) ds
    before n e h = ways (among-snoc (placed constant n e) x ds h)
      where
        ways : (x ≡ placed constant n e) ⊎ Among (placed constant n e) ds → Among (placed constant n e) ds
        ways (inl p) = absurd (other n e p)
        ways (inr q) = q

-- a record that places one adds it
module _ (wide : ℕ → Bool) (ds : List (Definition ℕ)) (n e : ℕ) (held : List (ℕ × Held)) (f : HeldFacts wide ds held) where
  abbrev now : List (ℕ × Held)
  now = hold (wide e) n e held

  abbrev after : List (Definition ℕ)
  after = ds ++ placed constant n e ∷ []

  abbrev At : ℕ → ℕ → Type 0
  At m k = (◌≡◌ {A = Definition ℕ} (placed constant n e) (placed constant m k)) ⊎ Among (placed constant m k) ds

  held_more : HeldFacts wide after now
  held_more =
      record {
        start_held = λ m k h. start m k (among-snoc (placed constant m k) (placed constant n e) ds h);
        half_held = λ m k h. halves m k (among-snoc (placed constant m k) (placed constant n e) ds h);
        start_placed = λ m k h. from_start m k (hold-among (wide e) n e held m (starts k) h);
      }
    where
      start : (m k : ℕ) → At m k → Among (m, starts k) now
      start m k (inl p) =
          let q : n ≡ m = cc in
          let r : e ≡ k = cc in
          rw (← q, ← r) (hold-new (wide e) n e held)
      start m k (inr q) = hold-old (wide e) n e held (m, starts k) (f.start_held m k q)

      halves : (m k : ℕ) → At m k → wide k ≡ true → Among (suc m, half) now
      halves m k (inl p) w =
          let q : n ≡ m = cc in
          let r : e ≡ k = cc in
          rw (← q) (hold-half (wide e) n e held (ap wide r ∙ w))
      halves m k (inr q) w = hold-old (wide e) n e held (suc m, half) (f.half_held m k q w)

      from_start : (m k : ℕ) → Holding (wide e) n e held m (starts k) → Among (placed constant m k) after
      from_start m k (inl p) =
          let q = p.0 in
          let r : e ≡ k = cc in
          rw (← q, ← r) (among-right (placed constant n e) ds _ (0, refl))
      from_start m k (inr (inl p)) = clash (cc)
      from_start m k (inr (inr q)) = among-left (placed constant m k) ds (placed constant n e ∷ []) (f.start_placed m k q)

-- a record that places no bootstrap leaves the indexes as they are
index-other :
    (ds : List (Definition ℕ)) (x : Definition ℕ) (indexes : List (ℕ × ℕ)) →
    ((i e : ℕ) → x ≡ placed bootstrap i e → ⊥) →
    IndexFacts ds indexes →
    IndexFacts (ds ++ x ∷ []) indexes
index-other ds x indexes other f =
    record {
      index_held = λ i e h. f.index_held i e (before i e (among-snoc (placed bootstrap i e) x ds h));
      index_placed = λ i e h. among-left (placed bootstrap i e) ds (x ∷ []) (f.index_placed i e h);
    }
  where
    before : (i e : ℕ) → (x ≡ placed bootstrap i e) ⊎ Among (placed bootstrap i e) ds → Among (placed bootstrap i e) ds
    before i e (inl p) = absurd (other i e p)
    before i e (inr q) = q

-- a record that places one adds it
index-more :
    (ds : List (Definition ℕ)) (n e : ℕ) (indexes indexes' : List (ℕ × ℕ)) →
    IndexFacts ds indexes →
    place_bootstrap n e indexes ≡ good indexes' →
    IndexFacts (ds ++ placed bootstrap n e ∷ []) indexes'
index-more ds n e indexes indexes' f q =
    rw (← (placed-bootstrap n e indexes indexes' q).2)
    (record {
      index_held = λ i k h. here i k (among-snoc (placed bootstrap i k) (placed bootstrap n e) ds h);
      index_placed = λ i k h. back i k (insert-among n e indexes i k h);
    })
  where
    here :
        (i k : ℕ) →
        (◌≡◌ {A = Definition ℕ} (placed bootstrap n e) (placed bootstrap i k)) ⊎ Among (placed bootstrap i k) ds →
        Among (i, k) (insert n e indexes)
    here i k (inl p) =
        let q : n ≡ i = cc in
        let r : e ≡ k = cc in
        rw (← q, ← r) (insert-new n e indexes)
    here i k (inr h) = insert-old n e indexes (i, k) (f.index_held i k h)

    back : (i k : ℕ) → ((n ≡ i) × (e ≡ k)) ⊎ Among (i, k) indexes → Among (placed bootstrap i k) (ds ++ placed bootstrap n e ∷ [])
    back i k (inl p) = rw (← p.0, ← p.1) (among-right (placed bootstrap n e) ds _ (0, refl))
    back i k (inr h) = among-left (placed bootstrap i k) ds (placed bootstrap n e ∷ []) (f.index_placed i k h)

-- what the definitions of a list leave
pub record DefinedFacts (wide : ℕ → Bool) (ds : List (Definition ℕ)) (d : Defined) : Type 0 where
  pub all_names : d.names ≡ namings_of ds
  pub all_held : HeldFacts wide ds d.held
  pub all_indexes : IndexFacts ds d.indexes

pub nothing_facts : (wide : ℕ → Bool) → DefinedFacts wide [] nothing_defined
unfolding nothing_defined namings_of
nothing_facts wide =
    record {
      all_names = refl;
      all_held =
          record {
            start_held = λ n e h. among-nil _ h;
            half_held = λ n e h _. among-nil _ h;
            start_placed = λ n e h. among-nil _ h;
          };
      all_indexes =
          record {
            index_held = λ n e h. among-nil _ h;
            index_placed = λ n e h. among-nil _ h;
          };
    }

-- the constant of a number is wide
abbrev pub wide_at : {R : Type 0} → List (Entry ℕ R) → ℕ → Bool
wide_at constants e = is_wide (tag_at constants e)

module _ {R : Type 0} (top : ℕ) (constants : List (Entry ℕ R)) where
  pub one-defined :
      (ds : List (Definition ℕ)) (x : Definition ℕ) (d d' : Defined) →
      DefinedFacts (wide_at constants) ds d →
      define_one top constants x d ≡ good d' →
      DefinedFacts (wide_at constants) (ds ++ x ∷ []) d'
  unfolding define_one namings_of with_setting
  one-defined ds (define x) d d' f q =
      let same : d ≡ d' = cc in
      rw (← same)
      (record {
        all_names = f.all_names ∙ sym (append-nil (namings_of ds)) ∙ sym (namings-snoc ds (define x));
        all_held = held-other (wide_at constants) ds (define x) d.held (λ _ _ p. clash (cc)) f.all_held;
        all_indexes = index-other ds (define x) d.indexes (λ _ _ p. clash (cc)) f.all_indexes;
      })
  one-defined ds (named kind s r) d d' f q =
      good_then (unless (is_none (name_target kind s d.names)) 11) _ d' q λ _ _ q₁.
      let now : Defined = record { held = d.held; indexes = d.indexes; names = d.names ++ record { kind = kind; label = s; target = r } ∷ []; version = d.version } in
      let same : now ≡ d' = cc in
      rw (← same)
      (record {
        all_names = ap (λ l. l ++ record { kind = kind; label = s; target = r } ∷ []) f.all_names ∙ sym (namings-snoc ds (named kind s r));
        all_held = held-other (wide_at constants) ds (named kind s r) d.held (λ _ _ p. clash (cc)) f.all_held;
        all_indexes = index-other ds (named kind s r) d.indexes (λ _ _ p. clash (cc)) f.all_indexes;
      })
  one-defined ds (placed constant n e) d d' f q =
      good_then (place_constant top (wide_at constants e) n e d.held) _ d' q λ held p q₁.
      let now : Defined = record { held = held; indexes = d.indexes; names = d.names; version = d.version } in
      let same : now ≡ d' = cc in
      let g = placed-constant top (wide_at constants e) n e d.held held p in
      rw (← same)
      (record {
        all_names = f.all_names ∙ sym (append-nil (namings_of ds)) ∙ sym (namings-snoc ds (placed constant n e));
        all_held = rw (← g.now) (held_more (wide_at constants) ds n e d.held f.all_held);
        all_indexes = index-other ds (placed constant n e) d.indexes (λ _ _ p. clash (cc)) f.all_indexes;
      })
  one-defined ds (placed bootstrap n e) d d' f q =
      good_then (place_bootstrap n e d.indexes) _ d' q λ indexes p q₁.
      let now : Defined = record { held = d.held; indexes = indexes; names = d.names; version = d.version } in
      let same : now ≡ d' = cc in
      rw (← same)
      (record {
        all_names = f.all_names ∙ sym (append-nil (namings_of ds)) ∙ sym (namings-snoc ds (placed bootstrap n e));
        all_held = held-other (wide_at constants) ds (placed bootstrap n e) d.held (λ _ _ p. clash (cc)) f.all_held;
        all_indexes = index-more ds n e d.indexes indexes f.all_indexes p;
      })
  one-defined ds (setting (version v)) d d' f q =
      let now : Defined = record { held = d.held; indexes = d.indexes; names = d.names; version = v } in
      let same : now ≡ d' = cc in
      rw (← same)
      (record {
        all_names = f.all_names ∙ sym (append-nil (namings_of ds)) ∙ sym (namings-snoc ds (setting (version v)));
        all_held = held-other (wide_at constants) ds (setting (version v)) d.held (λ _ _ p. clash (cc)) f.all_held;
        all_indexes = index-other ds (setting (version v)) d.indexes (λ _ _ p. clash (cc)) f.all_indexes;
      })
  one-defined ds (setting (highest n)) d d' f q =
      let same : d ≡ d' = cc in
      rw (← same)
      (record {
        all_names = f.all_names ∙ sym (append-nil (namings_of ds)) ∙ sym (namings-snoc ds (setting (highest n)));
        all_held = held-other (wide_at constants) ds (setting (highest n)) d.held (λ _ _ p. clash (cc)) f.all_held;
        all_indexes = index-other ds (setting (highest n)) d.indexes (λ _ _ p. clash (cc)) f.all_indexes;
      })
  one-defined ds (setting texts) d d' f q =
      let same : d ≡ d' = cc in
      rw (← same)
      (record {
        all_names = f.all_names ∙ sym (append-nil (namings_of ds)) ∙ sym (namings-snoc ds (setting texts));
        all_held = held-other (wide_at constants) ds (setting texts) d.held (λ _ _ p. clash (cc)) f.all_held;
        all_indexes = index-other ds (setting texts) d.indexes (λ _ _ p. clash (cc)) f.all_indexes;
      })

  -- the definitions of a job, all in turn
  pub defined_facts :
      (ds : List (Definition ℕ)) (d : Defined) → define_all top constants 0 ds nothing_defined ≡ good d → DefinedFacts (wide_at constants) ds d
  defined_facts ds d e = defined_all top constants (DefinedFacts (wide_at constants)) one-defined 0 [] ds nothing_defined d (nothing_facts (wide_at constants)) e

-- the names are the same
pub all_namings : (all : List Literal) (ds : List (Definition (List ℕ))) → namings_of (map (numbered_definition all) ds) ≡ namings ds
unfolding namings_of numbered_definition namings
all_namings all [] = refl
all_namings all (define e ∷ ds) = all_namings all ds
all_namings all (named kind s r ∷ ds) = ap (λ l. record { kind = kind; label = s; target = r } ∷ l) (all_namings all ds)
all_namings all (placed kind at n ∷ ds) = all_namings all ds
all_namings all (setting rule ∷ ds) = all_namings all ds

pub namings-numbered : (job : Job (List ℕ)) → namings_of (numbered job).definitions ≡ namings job.definitions
unfolding numbered
namings-numbered job = all_namings (literals job) job.definitions

-- and so is what is placed
numbered-placed : (all : List Literal) (x : Definition (List ℕ)) (kind : Kind) (n e : ℕ) → numbered_definition all x ≡ placed kind n e → x ≡ placed kind n e
unfolding numbered_definition
numbered-placed all (define y) kind n e h = clash (cc)
numbered-placed all (named kind' s r) kind n e h = clash (cc)
numbered-placed all (setting rule) kind n e h = clash (cc)
numbered-placed all (placed kind' n' e') kind n e h =
    let k : kind' ≡ kind = cc in
    let p : n' ≡ n = cc in
    let q : e' ≡ e = cc in
    λ i. placed (k i) (p i) (q i)

pub placed-forth : (job : Job (List ℕ)) (i n e : ℕ) (kind : Kind) → get_elem? job.definitions i ≡ some (placed kind n e) → Among (placed kind n e) (numbered job).definitions
unfolding numbered numbered_definition
placed-forth job i n e kind h = (i, map_at (numbered_definition (literals job)) job.definitions i (placed kind n e) h)

pub placed-back : (job : Job (List ℕ)) (n e : ℕ) (kind : Kind) → Among (placed kind n e) (numbered job).definitions → Among (placed kind n e) job.definitions
unfolding numbered
placed-back job n e kind (i, h) =
    let (x, at, is) = map-some (numbered_definition (literals job)) job.definitions i (placed kind n e) h in
    (i, at ∙ ap some (numbered-placed (literals job) x kind n e is))

-- the starters are the starts
pub starters-start : (held : List (ℕ × Held)) (n e : ℕ) → Among (n, e) (starters held) → Among (n, starts e) held
unfolding starters
starters-start [] n e h = among-nil (n, e) h
starters-start ((m, starts k) ∷ held) n e (zero, p) =
    let q = some_key (m, k) (n, e) p in
    let r = some-row (m, k) (n, e) p in
    (0, λ i. some (q i, starts (r i)))
starters-start ((m, starts k) ∷ held) n e (suc i, p) = among_later (n, starts e) (m, starts k) held (starters-start held n e (i, p))
starters-start ((m, half) ∷ held) n e h = among_later (n, starts e) (m, half) held (starters-start held n e h)

pub start_starters : (held : List (ℕ × Held)) (n e : ℕ) → Among (n, starts e) held → Among (n, e) (starters held)
unfolding starters
start_starters [] n e h = among-nil (n, starts e) h
start_starters ((m, starts k) ∷ held) n e (zero, p) =
    let q = some_key (m, starts k) (n, starts e) p in
    let s = some-row (m, starts k) (n, starts e) p in
    let r : k ≡ e = cc in
    (0, λ i. some (q i, r i))
start_starters ((m, starts k) ∷ held) n e (suc i, p) = among_later (n, e) (m, k) (starters held) (start_starters held n e (i, p))
start_starters ((m, half) ∷ held) n e (zero, p) = let s = some-row (m, half) (n, starts e) p in clash (cc)
start_starters ((m, half) ∷ held) n e (suc i, p) = start_starters held n e (i, p)

-- the slots of second halves
unfoldable pub half_slots : List (ℕ × Held) → List ℕ
half_slots [] = []
half_slots ((n, starts e) ∷ held) = half_slots held
half_slots ((n, half) ∷ held) = n ∷ half_slots held

-- a held slot is a starter's or a second half
pub times_held :
    (s : ℕ) (held : List (ℕ × Held)) → times s (map (λ h. h.0) held) ≡ times s (map (λ r. r.0) (starters held)) + times s (half_slots held)
unfolding starters half_slots times
times_held s [] = refl
times_held s ((n, starts e) ∷ held) =
    let here = times_cons s n (map (λ h. h.0) held) in
    let there = times_cons s n (map (λ r. r.0) (starters held)) in
    let rest = times_held s held in
    omega arith
times_held s ((n, half) ∷ held) =
    let here = times_cons s n (map (λ h. h.0) held) in
    let there = times_cons s n (half_slots held) in
    let rest = times_held s held in
    omega arith
