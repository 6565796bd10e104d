-- A name or a raw definition may change places with the definition before or behind it: what the definitions leave is alike. Assumes nothing.
use mathlib.Core.Bool.{Bool, true, false, ◌||◌}
use mathlib.Core.List.{List, [], ◌∷◌, ◌++◌}
use mathlib.Core.Option.{none}
use mathlib.Core.Path.{◌≡◌, refl, ap, sym, ◌∙◌}
use Prim.Native.Nat.{ℕ, suc}
use Rattle.definition.specs.Basics.{Result, good, at_record, unless, ◌>>=◌}
use Rattle.definition.specs.Settings.{version, texts, highest}
use Rattle.definition.specs.Shapes.{constant, bootstrap, is_wide, Entry}
use Rattle.definition.specs.Job.{Definition, define, named, placed, setting}
use Rattle.definition.specs.Definitions.{with_setting, Held, Naming, Defined, name_target, is_none, tag_at, place_constant, place_bootstrap, define_one, define_all}
use Rattle.facts.proofs.Lists.{true≢false}
use Rattle.facts.proofs.Results.{good_inj, good_then, at_record-good, unless-first}
use Rattle.order.proofs.MovedByExchanges.{may_move, Exchanged, unmoved, exchanged}
use Rattle.laws.proofs.Definitions.RawSlotsRise.{is_none-true}
use Rattle.order.proofs.RawsInAnyOrder.{Turned, idle_first, idle_second, constants_turned, bootstraps_turned}
use Rattle.order.proofs.NamesInAnyOrder.{NamesAlike, alike-snoc, second-new, first_new, either_order}

-- the same raw slots, indexes and version, and names that stand for the same
pub record DefinedAlike (d e : Defined) : Type 0 where
  pub same_held : d.held ≡ e.held
  pub same_indexes : d.indexes ≡ e.indexes
  pub alike_names : NamesAlike d.names e.names
  pub same_version : d.version ≡ e.version

-- ---- what a definition does to the indexes, to the names and to the version

unfoldable indexes_by : Definition ℕ → List (ℕ × ℕ) → Result ℕ (List (ℕ × ℕ))
indexes_by (define e) indexes = good indexes
indexes_by (named kind s r) indexes = good indexes
indexes_by (placed constant n e) indexes = good indexes
indexes_by (placed bootstrap n e) indexes = place_bootstrap n e indexes
indexes_by (setting rule) indexes = good indexes

unfoldable names_by : Definition ℕ → List Naming → Result ℕ (List Naming)
names_by (define e) names = good names
names_by (named kind s r) names =
    unless (is_none (name_target kind s names)) 11 >>= λ _. good (names ++ record { kind = kind; label = s; target = r } ∷ [])
names_by (placed kind n e) names = good names
names_by (setting rule) names = good names

unfoldable version_by : Definition ℕ → ℕ → ℕ
version_by (define e) v = v
version_by (named kind s r) v = v
version_by (placed kind n e) v = v
version_by (setting (version w)) v = w
version_by (setting texts) v = v
version_by (setting (highest top)) v = v

indexes_turned :
    (x y : Definition ℕ) (a b c : List (ℕ × ℕ)) → indexes_by x a ≡ good b → indexes_by y b ≡ good c → Turned (indexes_by x) (indexes_by y) a c
unfolding indexes_by
indexes_turned (define e) y a b c = idle_first (indexes_by (define e)) (indexes_by y) a b c (λ _. refl)
indexes_turned (named kind s r) y a b c = idle_first (indexes_by (named kind s r)) (indexes_by y) a b c (λ _. refl)
indexes_turned (placed constant n e) y a b c = idle_first (indexes_by (placed constant n e)) (indexes_by y) a b c (λ _. refl)
indexes_turned (setting rule) y a b c = idle_first (indexes_by (setting rule)) (indexes_by y) a b c (λ _. refl)
indexes_turned (placed bootstrap n e) (define x) a b c = idle_second (place_bootstrap n e) good a b c (λ _. refl)
indexes_turned (placed bootstrap n e) (named kind s r) a b c = idle_second (place_bootstrap n e) good a b c (λ _. refl)
indexes_turned (placed bootstrap n e) (placed constant m k) a b c = idle_second (place_bootstrap n e) good a b c (λ _. refl)
indexes_turned (placed bootstrap n e) (setting rule) a b c = idle_second (place_bootstrap n e) good a b c (λ _. refl)
indexes_turned (placed bootstrap n e) (placed bootstrap m k) a b c = bootstraps_turned n e m k a b c

-- a name that was defined was new
new_name :
    (n : Naming) (a b : List Naming) →
    (unless (is_none (name_target n.kind n.label a)) 11 >>= λ _. good (a ++ n ∷ [])) ≡ good b →
    (name_target n.kind n.label a ≡ none) × (a ++ n ∷ [] ≡ b)
new_name n a b h =
    let (new, now) = unless-first (is_none (name_target n.kind n.label a)) 11 (λ _. good (a ++ n ∷ [])) b h in
    (is_none-true (name_target n.kind n.label a) new, good_inj now)

name_new :
    (n : Naming) (a : List Naming) →
    name_target n.kind n.label a ≡ none →
    (unless (is_none (name_target n.kind n.label a)) 11 >>= λ _. good (a ++ n ∷ [])) ≡ good (a ++ n ∷ [])
unfolding unless is_none
name_new n a new = rw new

-- the other way round the names are alike
abbrev NamesTurned : Definition ℕ → Definition ℕ → List Naming → List Naming → Type 0
NamesTurned x y a c = (b : List Naming) × (c' : List Naming) × (names_by y a ≡ good b) × (names_by x b ≡ good c') × NamesAlike c c'

itself : (a : List Naming) → NamesAlike a a
itself a = record { as_many_lem = refl; same_targets = λ _ _. refl }

names_idle : (x y : Definition ℕ) (a c : List Naming) → Turned (names_by x) (names_by y) a c → NamesTurned x y a c
names_idle x y a c (b, p, q) = (b, c, p, q, itself c)

names_turned :
    (x y : Definition ℕ) (a b c : List Naming) → names_by x a ≡ good b → names_by y b ≡ good c → NamesTurned x y a c
unfolding names_by
names_turned (define e) y a b c p q = names_idle (define e) y a c (idle_first (names_by (define e)) (names_by y) a b c (λ _. refl) p q)
names_turned (placed kind n e) y a b c p q = names_idle (placed kind n e) y a c (idle_first (names_by (placed kind n e)) (names_by y) a b c (λ _. refl) p q)
names_turned (setting rule) y a b c p q = names_idle (setting rule) y a c (idle_first (names_by (setting rule)) (names_by y) a b c (λ _. refl) p q)
names_turned (named kind s r) (define e) a b c p q =
    names_idle (named kind s r) (define e) a c (idle_second (names_by (named kind s r)) good a b c (λ _. refl) p q)
names_turned (named kind s r) (placed other n e) a b c p q =
    names_idle (named kind s r) (placed other n e) a c (idle_second (names_by (named kind s r)) good a b c (λ _. refl) p q)
names_turned (named kind s r) (setting rule) a b c p q =
    names_idle (named kind s r) (setting rule) a c (idle_second (names_by (named kind s r)) good a b c (λ _. refl) p q)
names_turned (named kind s r) (named kind' s' r') a b c p q =
    let n : Naming = record { kind = kind; label = s; target = r } in
    let m : Naming = record { kind = kind'; label = s'; target = r' } in
    let (new, now) = new_name n a b p in
    let (new', now') = new_name m b c q in
    let second : name_target kind' s' (a ++ n ∷ []) ≡ none = ap (name_target kind' s') now ∙ new' in
    let all : (a ++ n ∷ []) ++ m ∷ [] ≡ c = ap (λ l. l ++ m ∷ []) now ∙ now' in (
      a ++ m ∷ [],
      (a ++ m ∷ []) ++ n ∷ [],
      name_new m a (second-new a n m new second),
      name_new n (a ++ m ∷ []) (first_new a n m new second),
      rw (← all) (either_order a n m new second),
    )

-- alike names stay alike under one more definition
names_follow :
    (x : Definition ℕ) (a b a' : List Naming) → NamesAlike a b → names_by x a ≡ good a' → (b' : List Naming) × (names_by x b ≡ good b') × NamesAlike a' b'
unfolding names_by
names_follow (define e) a b a' h p = (b, refl, rw (← good_inj p) h)
names_follow (placed kind n e) a b a' h p = (b, refl, rw (← good_inj p) h)
names_follow (setting rule) a b a' h p = (b, refl, rw (← good_inj p) h)
names_follow (named kind s r) a b a' h p =
    let n : Naming = record { kind = kind; label = s; target = r } in
    let (new, now) = new_name n a a' p in
    (b ++ n ∷ [], name_new n b (sym (h.same_targets kind s) ∙ new), rw (← now) (alike-snoc a b n h))

-- of two definitions one of which is a 41 to 44 at most one sets the version
version_turned : (x y : Definition ℕ) (v : ℕ) → (may_move x || may_move y) ≡ true → version_by y (version_by x v) ≡ version_by x (version_by y v)
unfolding version_by may_move
version_turned (define e) y v h = refl
version_turned (named kind s r) y v h = refl
version_turned (placed kind n e) y v h = refl
version_turned (setting (version w)) (define e) v h = refl
version_turned (setting (version w)) (named kind s r) v h = refl
version_turned (setting (version w)) (placed kind n e) v h = refl
version_turned (setting (version w)) (setting rule) v h = true≢false (sym h)
version_turned (setting texts) y v h = refl
version_turned (setting (highest top)) y v h = refl

-- ---- one definition, by what it does to each part

module _ {R : Type 0} (top : ℕ) (constants : List (Entry ℕ R)) where
  unfoldable held_by_lem : Definition ℕ → List (ℕ × Held) → Result ℕ (List (ℕ × Held))
  held_by_lem (define e) held = good held
  held_by_lem (named kind s r) held = good held
  held_by_lem (placed constant n e) held = place_constant top (is_wide (tag_at constants e)) n e held
  held_by_lem (placed bootstrap n e) held = good held
  held_by_lem (setting rule) held = good held

  held-turned :
      (x y : Definition ℕ) (a b c : List (ℕ × Held)) → held_by_lem x a ≡ good b → held_by_lem y b ≡ good c → Turned (held_by_lem x) (held_by_lem y) a c
  unfolding held_by_lem
  held-turned (define e) y a b c = idle_first (held_by_lem (define e)) (held_by_lem y) a b c (λ _. refl)
  held-turned (named kind s r) y a b c = idle_first (held_by_lem (named kind s r)) (held_by_lem y) a b c (λ _. refl)
  held-turned (placed bootstrap n e) y a b c = idle_first (held_by_lem (placed bootstrap n e)) (held_by_lem y) a b c (λ _. refl)
  held-turned (setting rule) y a b c = idle_first (held_by_lem (setting rule)) (held_by_lem y) a b c (λ _. refl)
  held-turned (placed constant n e) (define x) a b c = idle_second (held_by_lem (placed constant n e)) good a b c (λ _. refl)
  held-turned (placed constant n e) (named kind s r) a b c = idle_second (held_by_lem (placed constant n e)) good a b c (λ _. refl)
  held-turned (placed constant n e) (placed bootstrap m k) a b c = idle_second (held_by_lem (placed constant n e)) good a b c (λ _. refl)
  held-turned (placed constant n e) (setting rule) a b c = idle_second (held_by_lem (placed constant n e)) good a b c (λ _. refl)
  held-turned (placed constant n e) (placed constant m k) a b c =
      constants_turned top (is_wide (tag_at constants e)) (is_wide (tag_at constants k)) n e m k a b c

  record Parts (x : Definition ℕ) (d d' : Defined) : Type 0 where
    held_part : held_by_lem x d.held ≡ good d'.held
    indexes_part : indexes_by x d.indexes ≡ good d'.indexes
    names_part : names_by x d.names ≡ good d'.names
    version_part : version_by x d.version ≡ d'.version

  abbrev by_parts : Definition ℕ → Defined → Result ℕ Defined
  by_parts x d =
      held_by_lem x d.held >>= λ held.
      indexes_by x d.indexes >>= λ indexes.
      names_by x d.names >>= λ names.
      good (record { held = held; indexes = indexes; names = names; version = version_by x d.version })

  one-by_parts : (x : Definition ℕ) (d : Defined) → define_one top constants x d ≡ by_parts x d
  unfolding define_one with_setting held_by_lem indexes_by names_by version_by unless
  one-by_parts (define e) d = refl
  one-by_parts (named kind s r) d = go (is_none (name_target kind s d.names))
    where
      names : List Naming
      names = d.names ++ record { kind = kind; label = s; target = r } ∷ []

      now : List Naming → Defined
      now l = record { held = d.held; indexes = d.indexes; names = l; version = d.version }

      go : (b : Bool) → (unless b 11 >>= λ _. good (now names)) ≡ ((unless b 11 >>= λ _. good names) >>= λ l. good (now l))
      go true = refl
      go false = refl
  one-by_parts (placed constant n e) d = refl
  one-by_parts (placed bootstrap n e) d = refl
  one-by_parts (setting (version v)) d = refl
  one-by_parts (setting texts) d = refl
  one-by_parts (setting (highest n)) d = refl

  parts : (x : Definition ℕ) (d d' : Defined) → define_one top constants x d ≡ good d' → Parts x d d'
  parts x d d' h =
      good_then (held_by_lem x d.held) _ d' (sym (one-by_parts x d) ∙ h) λ held p h₁.
      good_then (indexes_by x d.indexes) _ d' h₁ λ indexes q h₂.
      good_then (names_by x d.names) _ d' h₂ λ names r h₃.
      let now : record { held = held; indexes = indexes; names = names; version = version_by x d.version } ≡ d' = good_inj h₃ in
      record {
        held_part = p ∙ ap (λ (a : Defined). good a.held) now;
        indexes_part = q ∙ ap (λ (a : Defined). good a.indexes) now;
        names_part = r ∙ ap (λ (a : Defined). good a.names) now;
        version_part = ap (λ (a : Defined). a.version) now;
      }

  joined : (x : Definition ℕ) (d d' : Defined) → Parts x d d' → define_one top constants x d ≡ good d'
  joined x d d' p =
      one-by_parts x d
      ∙ (λ i. p.held_part i >>= λ held. p.indexes_part i >>= λ indexes. p.names_part i >>= λ names.
      good (record { held = held; indexes = indexes; names = names; version = p.version_part i }))

  -- ---- two definitions, one of them a 41 to 44

  -- both went well one after the other, and do so the other way round
  one-turned :
      (x y : Definition ℕ) (d d' d'' : Defined) →
      (may_move x || may_move y) ≡ true →
      define_one top constants x d ≡ good d' →
      define_one top constants y d' ≡ good d'' →
      (e : Defined) × (e' : Defined) × (define_one top constants y d ≡ good e) × (define_one top constants x e ≡ good e') × DefinedAlike d'' e'
  one-turned x y d d' d'' m p q =
      let a = parts x d d' p in
      let b = parts y d' d'' q in
      let (held, heldFirst, heldSecond) = held-turned x y d.held d'.held d''.held a.held_part b.held_part in
      let (indexes, indexesFirst, indexesSecond) = indexes_turned x y d.indexes d'.indexes d''.indexes a.indexes_part b.indexes_part in
      let (names, names', namesFirst, namesSecond, alike) = names_turned x y d.names d'.names d''.names a.names_part b.names_part in
      let now : version_by y (version_by x d.version) ≡ d''.version = ap (version_by y) a.version_part ∙ b.version_part in
      let e : Defined = record { held = held; indexes = indexes; names = names; version = version_by y d.version } in
      let e' : Defined = record { held = d''.held; indexes = d''.indexes; names = names'; version = version_by x (version_by y d.version) } in (
        e,
        e',
        joined y d e (record { held_part = heldFirst; indexes_part = indexesFirst; names_part = namesFirst; version_part = refl }),
        joined x e e' (record { held_part = heldSecond; indexes_part = indexesSecond; names_part = namesSecond; version_part = refl }),
        record { same_held = refl; same_indexes = refl; alike_names = alike; same_version = sym now ∙ version_turned x y d.version m },
      )

  -- what is alike stays alike under one more definition
  one_follows :
      (x : Definition ℕ) (d e d' : Defined) →
      DefinedAlike d e →
      define_one top constants x d ≡ good d' →
      (e' : Defined) × (define_one top constants x e ≡ good e') × DefinedAlike d' e'
  one_follows x d e d' h p =
      let a = parts x d d' p in
      let (names, names_part, alike) = names_follow x d.names e.names d'.names h.alike_names a.names_part in
      let e' : Defined = record { held = d'.held; indexes = d'.indexes; names = names; version = d'.version } in (
        e',
        joined x e e'
            (record {
              held_part = ap (held_by_lem x) (sym h.same_held) ∙ a.held_part;
              indexes_part = ap (indexes_by x) (sym h.same_indexes) ∙ a.indexes_part;
              names_part = names_part;
              version_part = ap (version_by x) (sym h.same_version) ∙ a.version_part;
            }),
        record { same_held = refl; same_indexes = refl; alike_names = alike; same_version = refl },
      )

  -- ---- all definitions

  -- past a definition that went well
  past_one :
      (place : ℕ) (x : Definition ℕ) (ds : List (Definition ℕ)) (d d' : Defined) →
      define_one top constants x d ≡ good d' →
      define_all top constants place (x ∷ ds) d ≡ define_all top constants (suc place) ds d'
  unfolding define_all at_record
  past_one place x ds d d' h = ap (λ o. at_record place o >>= λ d. define_all top constants (suc place) ds d) h

  all_follow :
      (place : ℕ) (ds : List (Definition ℕ)) (d e d' : Defined) →
      DefinedAlike d e →
      define_all top constants place ds d ≡ good d' →
      (e' : Defined) × (define_all top constants place ds e ≡ good e') × DefinedAlike d' e'
  unfolding define_all
  all_follow place [] d e d' h p = (e, refl, rw (← good_inj p) h)
  all_follow place (x ∷ ds) d e d' h p =
      good_then (at_record place (define_one top constants x d)) _ d' p λ d₁ q rest.
      let (e₁, one, alike) = one_follows x d e d₁ h (at_record-good place (define_one top constants x d) d₁ q) in
      let (e', all, alike') = all_follow (suc place) ds d₁ e₁ d' alike rest in
      (e', past_one place x ds e e₁ one ∙ all, alike')

  -- ALL IN TURN, with two neighbours the other way round
  pub all_turned :
      (place : ℕ) (before : List (Definition ℕ)) (x y : Definition ℕ) (after : List (Definition ℕ)) (d d' : Defined) →
      (may_move x || may_move y) ≡ true →
      define_all top constants place (before ++ x ∷ y ∷ after) d ≡ good d' →
      (e' : Defined) × (define_all top constants place (before ++ y ∷ x ∷ after) d ≡ good e') × DefinedAlike d' e'
  unfolding define_all
  all_turned place [] x y after d d' m p =
      good_then (at_record place (define_one top constants x d)) _ d' p λ d₁ q rest₁.
      good_then (at_record (suc place) (define_one top constants y d₁)) _ d' rest₁ λ d₂ r rest₂.
      let first = at_record-good place (define_one top constants x d) d₁ q in
      let second = at_record-good (suc place) (define_one top constants y d₁) d₂ r in
      let (e₁, e₂, one, two, alike) = one-turned x y d d₁ d₂ m first second in
      let (e', all, alike') = all_follow (suc (suc place)) after d₂ e₂ d' alike rest₂ in
      (e', past_one place y (x ∷ after) d e₁ one ∙ past_one (suc place) x after e₁ e₂ two ∙ all, alike')
  all_turned place (z ∷ before) x y after d d' m p =
      good_then (at_record place (define_one top constants z d)) _ d' p λ d₁ q rest.
      let one = at_record-good place (define_one top constants z d) d₁ q in
      let (e', all, alike) = all_turned (suc place) before x y after d₁ d' m rest in
      (e', past_one place z (before ++ y ∷ x ∷ after) d d₁ one ∙ all, alike)

  -- and over and over
  pub all_exchanged :
      (ds ds' : List (Definition ℕ)) →
      Exchanged may_move ds ds' →
      (place : ℕ) (d d' : Defined) →
      define_all top constants place ds d ≡ good d' →
      (e' : Defined) × (define_all top constants place ds' d ≡ good e') × DefinedAlike d' e'
  all_exchanged ds ds' (unmoved l) place d d' p =
      (d', p, record { same_held = refl; same_indexes = refl; alike_names = itself d'.names; same_version = refl })
  all_exchanged ds ds' (exchanged before after x y l h rest) place d d' p =
      let (e₁, first, alike₁) = all_turned place before x y after d d' h p in
      let (e₂, second, alike₂) = all_exchanged (before ++ y ∷ x ∷ after) ds' rest place d e₁ first in
      (e₂, second, both d' e₁ e₂ alike₁ alike₂)
    where
      both : (a b c : Defined) → DefinedAlike a b → DefinedAlike b c → DefinedAlike a c
      both a b c p q =
          record {
            same_held = p.same_held ∙ q.same_held;
            same_indexes = p.same_indexes ∙ q.same_indexes;
            alike_names =
                record {
                  as_many_lem = p.alike_names.as_many_lem ∙ q.alike_names.as_many_lem;
                  same_targets = λ kind s. p.alike_names.same_targets kind s ∙ q.alike_names.same_targets kind s;
                };
            same_version = p.same_version ∙ q.same_version;
          }
