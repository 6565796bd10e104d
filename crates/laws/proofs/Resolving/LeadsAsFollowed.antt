-- LEADS: a reference leads exactly to where the definition follows it, in a job that defines no name twice for its kind. Assumes nothing.
use mathlib.Core.Bool.{Bool, true, false, ◌&&◌}
use mathlib.Core.List.{List, [], ◌∷◌, ◌++◌}
use mathlib.Core.Logic.{◌⊎◌, inl, inr, ◌≢◌}
use mathlib.Core.Option.{Option, none, some}
use mathlib.Core.Path.{◌≡◌, refl, sym, ap, subst, ◌∙◌}
use Prim.Native.Nat.{ℕ, zero, suc, ◌+◌}
use native.Mathlib.Omega.{arith}
use lib.ListN.{length, get_elem?}
use Rattle.definition.specs.Basics.{good, unless, same}
use Rattle.definition.specs.Shapes.{Kind, constant, bootstrap, Entry}
use Rattle.definition.specs.Job.{Reference, raw, entry, name, Definition, define, named, placed, setting, Job}
use Rattle.definition.specs.Form.{form}
use Rattle.definition.specs.Numbering.{top_of, constants_of, literals, numbered_definition, numbered}
use Rattle.definition.specs.Definitions.{Naming, Defined, same_kind_lem, name_target, is_none, define_one, define_all, nothing_defined}
use Rattle.definition.specs.Resolving.{Goal, raw_number, table_entry, refusal, place_of, follow, goal_of, Mark}
use Rattle.definition.specs.Layout.{Layout, layout}
use Rattle.definition.specs.Run.{Built, Lent, run}
use Rattle.facts.proofs.Lists.{clash, some_inj, same_refl, append_at, map_at}
use Rattle.facts.proofs.Results.{good_first, good_then, unless-good}
use Rattle.laws.specs.LeadsStatement.{Leads, to_number, to_constant, to_bootstrap, by_name, NamedOnce, namings, goal_in, LeadsAsFollowed}
use Rattle.laws.specs.Faithful.{Settled}
use Rattle.laws.proofs.Numbering.RunsLaidOut.{run-laid}
use Rattle.laws.proofs.Definitions.RawSlotsRise.{is_none-true, defined_all}
use Rattle.laws.proofs.Definitions.DefinedAsPlaced.{namings_of, DefinedFacts, nothing_facts, wide_at, one-defined}
use Rattle.laws.proofs.Resolving.NameTargets.{target_here, target_later, target_at}
use Rattle.laws.proofs.Resolving.Followed.{followed}
use Rattle.laws.proofs.Resolving.JobGoals.{follow-some, naming_named}

-- ---- names

namings-are : (ds : List (Definition (List ℕ))) → namings ds ≡ namings_of ds
unfolding namings namings_of
namings-are [] = refl
namings-are (define e ∷ ds) = namings-are ds
namings-are (named kind s r ∷ ds) = ap (λ l. record { kind = kind; label = s; target = r } ∷ l) (namings-are ds)
namings-are (placed kind n e ∷ ds) = namings-are ds
namings-are (setting rule ∷ ds) = namings-are ds

kind-same : (kind : Kind) → same_kind_lem kind kind ≡ true
unfolding same_kind_lem
kind-same constant = refl
kind-same bootstrap = refl

-- a name that is defined stands for something
found_first : (kind : Kind) (s : List ℕ) (r : Reference) (names : List Naming) → name_target kind s (record { kind = kind; label = s; target = r } ∷ names) ≡ some r
found_first kind s r names = target_here kind s (record { kind = kind; label = s; target = r }) names (rw (kind-same kind, same_refl s) refl)

found_later : (kind : Kind) (s : List ℕ) (n : Naming) (names : List Naming) → name_target kind s (n ∷ names) ≡ none → name_target kind s names ≡ none
found_later kind s n names e = go (same_kind_lem kind n.kind && same s n.label) refl
  where
    go : (b : Bool) → (same_kind_lem kind n.kind && same s n.label) ≡ b → name_target kind s names ≡ none
    go true t = let h = target_here kind s n names t in clash (cc)
    go false t = sym (target_later kind s n names t) ∙ e

module _ {L : Type 0} where
  pub name_stands : (ds : List (Definition L)) (i : ℕ) (kind : Kind) (s : List ℕ) (r : Reference) → get_elem? ds i ≡ some (named kind s r) → name_target kind s (namings_of ds) ≡ none → ⊥
  unfolding namings_of
  name_stands [] i kind s r at e = clash (cc)
  name_stands (define x ∷ ds) zero kind s r at e = clash (cc)
  name_stands (define x ∷ ds) (suc i) kind s r at e = name_stands ds i kind s r at e
  name_stands (named kind' s' r' ∷ ds) zero kind s r at e =
      let is = some_inj at in
      let k : kind' ≡ kind = cc in
      let l : s' ≡ s = cc in
      let h = found_first kind s r' (namings_of ds) in
      let here : name_target kind s (record { kind = kind; label = s; target = r' } ∷ namings_of ds) ≡ none = subst (λ k. name_target kind s (record { kind = k; label = s; target = r' } ∷ namings_of ds) ≡ none) k (subst (λ l. name_target kind s (record { kind = kind'; label = l; target = r' } ∷ namings_of ds) ≡ none) l e) in
      clash (cc)
  name_stands (named kind' s' r' ∷ ds) (suc i) kind s r at e =
      name_stands ds i kind s r at (found_later kind s (record { kind = kind'; label = s'; target = r' }) (namings_of ds) e)
  name_stands (placed kind' n m ∷ ds) zero kind s r at e = clash (cc)
  name_stands (setting rule ∷ ds) zero kind s r at e = clash (cc)
  name_stands (placed kind' n m ∷ ds) (suc i) kind s r at e = name_stands ds i kind s r at e
  name_stands (setting rule ∷ ds) (suc i) kind s r at e = name_stands ds i kind s r at e

-- what a record names; any other one nothing
target_of : Definition (List ℕ) → Option Reference
target_of (define e) = none
target_of (named kind s r) = some r
target_of (placed kind n e) = none
target_of (setting rule) = none

-- what a name stands for was named
named-there : (ds : List (Definition (List ℕ))) (kind : Kind) (s : List ℕ) (t : Reference) → name_target kind s (namings ds) ≡ some t → (i : ℕ) × (get_elem? ds i ≡ some (named kind s t))
named-there ds kind s t e =
    let (n, a, k, label, target) = target_at kind s (namings ds) t e in
    let there = naming_named ds a.0 n (subst (λ l. get_elem? l a.0 ≡ some n) (namings-are ds) a.1) in
    (there.0, there.1 ∙ λ j. some (named (sym k j) (sym label j) (target j)))

-- where no name is defined twice, one stands for what it is defined as
target_once : (ds : List (Definition (List ℕ))) → NamedOnce ds → (i : ℕ) (kind : Kind) (s : List ℕ) (r : Reference) → get_elem? ds i ≡ some (named kind s r) → name_target kind s (namings ds) ≡ some r
unfolding target_of
target_once ds once i kind s r at = go (name_target kind s (namings ds)) refl
  where
    go : (o : Option Reference) → name_target kind s (namings ds) ≡ o → name_target kind s (namings ds) ≡ some r
    go none e = absurd (name_stands ds i kind s r at (ap (name_target kind s) (sym (namings-are ds)) ∙ e))
    go (some t) e =
        let (k, there) = named-there ds kind s t e in
        let one = once i k kind s r t at there in
        e ∙ ap target_of (some_inj (sym there ∙ ap (get_elem? ds) (sym one) ∙ at))

-- ---- what leads is followed, and what is followed leads

module _ (ds : List (Definition (List ℕ))) where
  abbrev size : ℕ
  size = length (constants_of ds)

  raw_followed : (m n : ℕ) → follow m (namings ds) size (raw n) ≡ raw_number n
  unfolding follow
  raw_followed zero n = refl
  raw_followed (suc m) n = refl

  entry_followed : (m : ℕ) (kind : Kind) (n : ℕ) → follow m (namings ds) size (entry kind n) ≡ table_entry (place_of size kind n)
  unfolding follow
  entry_followed zero kind n = refl
  entry_followed (suc m) kind n = refl

  -- so many steps are enough, and more change nothing
  lead_steps : NamedOnce ds → (r : Reference) (goal : Goal) → Leads ds r goal → (d : ℕ) × ((m : ℕ) → follow (d + m) (namings ds) size r ≡ goal)
  unfolding place_of
  lead_steps once r goal (to_number n) = (0, λ m. raw_followed (0 + m) n)
  lead_steps once r goal (to_constant n) = (0, λ m. entry_followed (0 + m) constant n)
  lead_steps once r goal (to_bootstrap n) = (0, λ m. entry_followed (0 + m) bootstrap n)
  lead_steps once r goal (by_name i kind s t goal' at leads) =
      let (d, h) = lead_steps once t goal' leads in (
        suc d,
        λ m.
            let more : suc d + m ≡ suc (d + m) = omega arith in
            ap (λ n. follow n (namings ds) size (name kind s)) more
            ∙ follow-some (d + m) (namings ds) size kind s t (target_once ds once i kind s t at)
            ∙ h m,
      )

  pub leads_followed : NamedOnce ds → (r : Reference) (goal : Goal) → Leads ds r goal → goal_in ds r ≡ goal
  leads_followed once r goal leads =
      let (d, h) = lead_steps once r goal leads in
      let names = length (namings ds) in
      let swap : suc names + d ≡ d + suc names = omega arith in
      sym (followed (namings ds) size d r) ∙ ap (λ n. follow n (namings ds) size r) swap ∙ h (suc names)

  leads_somewhere : (r : Reference) (goal : Goal) → Leads ds r goal → (code : ℕ) → goal ≢ refusal code
  leads_somewhere r goal (to_number n) code e = clash (cc)
  leads_somewhere r goal (to_constant n) code e = clash (cc)
  leads_somewhere r goal (to_bootstrap n) code e = clash (cc)
  leads_somewhere r goal (by_name i kind s t goal' at leads) code e = leads_somewhere t goal' leads code e

  pub entry_leads : (kind : Kind) (n : ℕ) → Leads ds (entry kind n) (table_entry (place_of size kind n))
  unfolding place_of
  entry_leads constant n = to_constant n
  entry_leads bootstrap n = to_bootstrap n

  follow-leads : (m : ℕ) (r : Reference) (goal : Goal) → follow m (namings ds) size r ≡ goal → ((code : ℕ) → goal ≢ refusal code) → Leads ds r goal
  unfolding follow
  follow-leads zero (raw n) goal e there = subst (Leads ds (raw n)) e (to_number n)
  follow-leads zero (entry kind n) goal e there = subst (Leads ds (entry kind n)) e (entry_leads kind n)
  follow-leads zero (name kind s) goal e there = absurd (there 13 (sym e))
  follow-leads (suc m) (raw n) goal e there = subst (Leads ds (raw n)) e (to_number n)
  follow-leads (suc m) (entry kind n) goal e there = subst (Leads ds (entry kind n)) e (entry_leads kind n)
  follow-leads (suc m) (name kind s) goal e there = go (name_target kind s (namings ds)) refl (λ r goal. follow-leads m r goal)
    where
      go :
          (o : Option Reference) →
          name_target kind s (namings ds) ≡ o →
          ((r : Reference) (goal : Goal) → follow m (namings ds) size r ≡ goal → ((code : ℕ) → goal ≢ refusal code) → Leads ds r goal) →
          Leads ds (name kind s) goal
      go none t rest = absurd (there 12 (sym e ∙ rw (t, follow) refl))
      go (some r) t rest =
          let (i, at) = named-there ds kind s r t in
          by_name i kind s r goal at (rest r goal (sym (follow-some m (namings ds) size kind s r t) ∙ e) there)

  pub followed_leads : (r : Reference) (goal : Goal) → goal_in ds r ≡ goal → ((code : ℕ) → goal ≢ refusal code) → Leads ds r goal
  unfolding goal_of
  followed_leads r goal e there = follow-leads (suc (length (namings ds))) r goal e there

  -- what is settled is no refusal, so a reference leads there
  pub settled-leads : (marks : List Mark) (r : Reference) → Settled marks (goal_in ds r) → Leads ds r (goal_in ds r)
  settled-leads marks r h = followed_leads r (goal_in ds r) refl (somewhere (goal_in ds r) h)
    where
      somewhere : (goal : Goal) → Settled marks goal → (code : ℕ) → goal ≢ refusal code
      somewhere (raw_number n) h code e = clash (cc)
      somewhere (table_entry n) h code e = clash (cc)
      somewhere (refusal n) h code e = h

-- ---- a defined job

-- a name that is defined is refused a second time
second-refused :
    {R : Type 0} (top : ℕ) (constants : List (Entry ℕ R)) (ds : List (Definition ℕ)) (d d' : Defined) (kind : Kind) (s : List ℕ) (r t : Reference) (i : ℕ) →
    d.names ≡ namings_of ds →
    define_one top constants (named kind s t) d ≡ good d' →
    get_elem? ds i ≡ some (named kind s r) →
    ⊥
unfolding define_one
second-refused top constants ds d d' kind s r t i names q at =
    good_then (unless (is_none (name_target kind s d.names)) 11) _ d' q λ u free q₁.
    name_stands ds i kind s r at (ap (name_target kind s) (sym names) ∙ is_none-true (name_target kind s d.names) (unless-good (is_none (name_target kind s d.names)) 11 u free))

module _ {R : Type 0} (top : ℕ) (constants : List (Entry ℕ R)) where
  abbrev OnceSoFar : List (Definition ℕ) → Defined → Type 0
  OnceSoFar ds d = DefinedFacts (wide_at constants) ds d × NamedOnce ds

  once_more : (ds : List (Definition ℕ)) (x : Definition ℕ) (d d' : Defined) → OnceSoFar ds d → define_one top constants x d ≡ good d' → OnceSoFar (ds ++ x ∷ []) d'
  once_more ds x d d' (facts, once) q = (one-defined top constants ds x d d' facts q, again)
    where
      Where : ℕ → Definition ℕ → Type 0
      Where i y = (get_elem? ds i ≡ some y) ⊎ ((j : ℕ) × (i ≡ length ds + j) × (get_elem? (x ∷ []) j ≡ some y))

      last : (y : Definition ℕ) (j : ℕ) → get_elem? (x ∷ []) j ≡ some y → (j ≡ 0) × (x ≡ y)
      last y zero h = (refl, some_inj h)
      last y (suc j) h = clash (cc)

      second : (i : ℕ) (kind : Kind) (s : List ℕ) (r t : Reference) → x ≡ named kind s t → get_elem? ds i ≡ some (named kind s r) → ⊥
      second i kind s r t is at =
          second-refused top constants ds d d' kind s r t i facts.all_names (subst (λ y. define_one top constants y d ≡ good d') is q) at

      ways : (i k : ℕ) (kind : Kind) (s : List ℕ) (r t : Reference) → Where i (named kind s r) → Where k (named kind s t) → i ≡ k
      ways i k kind s r t (inl a) (inl b) = once i k kind s r t a b
      ways i k kind s r t (inl a) (inr (j, e, b)) = absurd (second i kind s r t (last (named kind s t) j b).1 a)
      ways i k kind s r t (inr (j, e, a)) (inl b) = absurd (second k kind s t r (last (named kind s r) j a).1 b)
      ways i k kind s r t (inr (j, e, a)) (inr (j', e', b)) = omega (arith, e, e', (last (named kind s r) j a).0, (last (named kind s t) j' b).0)

      again : NamedOnce (ds ++ x ∷ [])
      again i k kind s r t a b =
          ways i k kind s r t (append_at ds (x ∷ []) i (named kind s r) a) (append_at ds (x ∷ []) k (named kind s t) b)

  defined_once : (ds : List (Definition ℕ)) (d : Defined) → define_all top constants 0 ds nothing_defined ≡ good d → NamedOnce ds
  defined_once ds d e =
      (defined_all top constants OnceSoFar once_more 0 [] ds nothing_defined d (nothing_facts (wide_at constants), λ i k kind s r t a b. clash (cc)) e).1

-- no name of a job that is defined is defined twice
pub once_defined : (job : Job (List ℕ)) (d : Defined) → define_all (top_of job) (constants_of (numbered job).definitions) 0 (numbered job).definitions nothing_defined ≡ good d → NamedOnce job.definitions
unfolding numbered numbered_definition
once_defined job d defined i k kind s r t a b =
    defined_once (top_of job) (constants_of (numbered job).definitions) (numbered job).definitions d defined i k kind s r t
    (map_at (numbered_definition (literals job)) job.definitions i (named kind s r) a)
    (map_at (numbered_definition (literals job)) job.definitions k (named kind s t) b)

pub named-once : (job : Job (List ℕ)) (l : Layout) → layout (top_of job) (numbered job) ≡ good l → NamedOnce job.definitions
unfolding layout
named-once job l laid =
    let (d, defined, rest) = good_first {A = Defined} _ _ _ laid in
    once_defined job d defined

pub leads_as_followed : LeadsAsFollowed
leads_as_followed = (built, λ ds once r. (λ goal. (there ds once r goal, back ds r goal), one ds once r))
  where
    built : (bytes : List ℕ) (job : Job (List ℕ)) (lent : Lent) (b : Built) → form bytes ≡ good job → run lent bytes ≡ good b → NamedOnce job.definitions
    built bytes job lent b formed ran = let (l, laid, is) = run-laid bytes job lent b formed ran in named-once job l laid

    there : (ds : List (Definition (List ℕ))) → NamedOnce ds → (r : Reference) (goal : Goal) → Leads ds r goal → (goal_in ds r ≡ goal) × ((code : ℕ) → goal ≢ refusal code)
    there ds once r goal leads = (leads_followed ds once r goal leads, leads_somewhere ds r goal leads)

    back : (ds : List (Definition (List ℕ))) (r : Reference) (goal : Goal) → (goal_in ds r ≡ goal) × ((code : ℕ) → goal ≢ refusal code) → Leads ds r goal
    back ds r goal (e, somewhere) = followed_leads ds r goal e somewhere

    one : (ds : List (Definition (List ℕ))) → NamedOnce ds → (r : Reference) (goal₁ goal₂ : Goal) → Leads ds r goal₁ → Leads ds r goal₂ → goal₁ ≡ goal₂
    one ds once r goal₁ goal₂ leads₁ leads₂ = sym (leads_followed ds once r goal₁ leads₁) ∙ leads_followed ds once r goal₂ leads₂
