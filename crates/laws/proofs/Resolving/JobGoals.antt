-- Where the references of a job lead: to what is there, of the kind that the place wants. Assumes nothing.
use mathlib.Core.Bool.{false, not}
use mathlib.Core.List.{List, [], ◌∷◌, ◌++◌, map}
use mathlib.Core.Logic.{◌⊎◌, inl, inr}
use mathlib.Core.Option.{Option, none, some}
use mathlib.Core.Path.{◌≡◌, refl, sym, ap, ◌∙◌}
use Prim.Native.Nat.{ℕ, zero, suc, ◌+◌, ◌≤◌, ◌<◌}
use native.Mathlib.Omega.{arith}
use lib.Dec.{eqb}
use lib.ListN.{length, get_elem?, length-append, length-map}
use borrow.Author.Tests.{eqb-true, not-true}
use Rattle.definition.specs.Basics.{same}
use Rattle.definition.specs.Shapes.{Kind, bootstrap_tag, Entry, with_kids, constant, bootstrap}
use Rattle.definition.specs.Job.{Reference, raw, entry, name, Definition, define, named, placed, setting, Request, Job}
use Rattle.definition.specs.Numbering.{entries, is_bootstrap, constants_of, bootstraps_of}
use Rattle.definition.specs.Definitions.{Naming, name_target}
use Rattle.definition.specs.Resolving.{Goal, raw_number, table_entry, refusal, place_of, follow, goal_of, linked}
use Rattle.facts.specs.Lists.{Among}
use Rattle.facts.proofs.Lists.{clash, found_inside, append_at, among_later, map-some, only_at}
use Rattle.laws.proofs.Form.DefinitionsRead.{entry_defined}
use Rattle.laws.proofs.Form.FormedEntries.{OfKind}
use Rattle.laws.proofs.Form.CitedEntries.{Cites, kid_kind, Cited, kid_cited, named-cited, placed-cited}
use Rattle.laws.specs.Counted.{count_in}
use Rattle.laws.proofs.Definitions.DefinedAsPlaced.{namings_of}
use Rattle.laws.proofs.Resolving.NameTargets.{target_at}

-- a goal of a kind, where so many constants stand first in a table of a size: a raw number, a refusal, or an entry of that kind's part
unfoldable pub GoalOfKind : ℕ → ℕ → Kind → Goal → Type 0
GoalOfKind constants size kind (raw_number n) = Unit {0}
GoalOfKind constants size constant (table_entry e) = e < constants
GoalOfKind constants size bootstrap (table_entry e) = (constants ≤ e) × (e < size)
GoalOfKind constants size kind (refusal code) = Unit {0}

-- a name leads where its target does
follow-none :
    (steps : ℕ) (names : List Naming) (constants : ℕ) (kind : Kind) (s : List ℕ) →
    name_target kind s names ≡ none →
    follow (suc steps) names constants (name kind s) ≡ refusal 12
unfolding follow
follow-none steps names constants kind s e = rw (e, follow)

pub follow-some :
    (steps : ℕ) (names : List Naming) (constants : ℕ) (kind : Kind) (s : List ℕ) (r : Reference) →
    name_target kind s names ≡ some r →
    follow (suc steps) names constants (name kind s) ≡ follow steps names constants r
unfolding follow
follow-some steps names constants kind s r e = rw (e, follow)

module _ {L : Type 0} (ds : List (Definition L)) where
  abbrev pub table_size_of : ℕ
  table_size_of = length (constants_of ds ++ bootstraps_of ds)

  -- an entry that is there, as a goal
  pub entry_goal :
      (kind : Kind) (n : ℕ) → n < count_in kind ds → GoalOfKind (length (constants_of ds)) table_size_of kind (table_entry (place_of (length (constants_of ds)) kind n))
  unfolding GoalOfKind place_of count_in
  entry_goal constant n h = h
  entry_goal bootstrap n h = let p = length-append (constants_of ds) (bootstraps_of ds) in (omega arith, omega arith)

  module _
      (names : List Naming)
      (named-there : (i : ℕ) (n : Naming) → get_elem? names i ≡ some n → Cites ds n.target × OfKind n.kind n.target) where
    -- references that cite what is there lead to goals of their kind
    pub follow-kind :
        (steps : ℕ) (r : Reference) (kind : Kind) →
        Cites ds r →
        OfKind kind r →
        GoalOfKind (length (constants_of ds)) table_size_of kind (follow steps names (length (constants_of ds)) r)
    unfolding follow Cites GoalOfKind
    follow-kind zero (raw n) kind c k = tt
    follow-kind zero (entry kind' n) kind c k = rw (← k.0) (entry_goal kind' n c)
    follow-kind zero (name kind' s) kind c k = tt
    follow-kind (suc steps) (raw n) kind c k = tt
    follow-kind (suc steps) (entry kind' n) kind c k = rw (← k.0) (entry_goal kind' n c)
    follow-kind (suc steps) (name kind' s) kind c k = ways (name_target kind' s names) refl (λ r. follow-kind steps r kind)
      where
        ways :
            (o : Option Reference) →
            name_target kind' s names ≡ o →
            ((r : Reference) → Cites ds r → OfKind kind r → GoalOfKind (length (constants_of ds)) table_size_of kind (follow steps names (length (constants_of ds)) r)) →
            GoalOfKind (length (constants_of ds)) table_size_of kind (follow (suc steps) names (length (constants_of ds)) (name kind' s))
        ways none e rest = rw (follow-none steps names (length (constants_of ds)) kind' s e) tt
        ways (some r) e rest =
            let h = target_at kind' s names r e in
            let t = named-there h.1.0 h.0 h.1.1 in
            let same : h.0.kind ≡ kind = sym h.2 ∙ k.0 in
            rw (follow-some steps names (length (constants_of ds)) kind' s r e, ← h.4) (rest h.0.target t.0 (rw same at t.1))

    pub goal_kind :
        (r : Reference) (kind : Kind) →
        Cites ds r →
        OfKind kind r →
        GoalOfKind (length (constants_of ds)) table_size_of kind (goal_of names (length (constants_of ds)) r)
    unfolding goal_of
    goal_kind r kind c k = follow-kind (suc (length names)) r kind c k

-- a naming was named
pub naming_named :
    {L : Type 0} (ds : List (Definition L)) (i : ℕ) (n : Naming) → get_elem? (namings_of ds) i ≡ some n → Among (named n.kind n.label n.target) ds
unfolding namings_of
naming_named [] i n p = clash (cc)
naming_named (define x ∷ ds) i n p = among_later (named n.kind n.label n.target) (define x) ds (naming_named ds i n p)
naming_named (named kind s r ∷ ds) zero n p =
    let q : record { kind = kind; label = s; target = r } ≡ n = cc in
    (0, ap (λ (m : Naming). some (named m.kind m.label m.target)) q)
naming_named (named kind s r ∷ ds) (suc i) n p = among_later (named n.kind n.label n.target) (named kind s r) ds (naming_named ds i n p)
naming_named (placed kind at m ∷ ds) i n p = among_later (named n.kind n.label n.target) (placed kind at m) ds (naming_named ds i n p)
naming_named (setting rule ∷ ds) i n p = among_later (named n.kind n.label n.target) (setting rule) ds (naming_named ds i n p)

-- constants have no bootstrap's tag, and bootstraps do
module _ {L : Type 0} (ds : List (Definition L)) where
  pub constant_tag : (i : ℕ) (e : Entry L Reference) → get_elem? (constants_of ds) i ≡ some e → (eqb e.tag bootstrap_tag ≡ false) × Among (define e) ds
  unfolding constants_of is_bootstrap
  constant_tag i e p =
      let h = only_at (λ e. not (is_bootstrap e)) (entries ds) i e p in
      (not-true (is_bootstrap e) h.0, entry_defined ds h.1.0 e h.1.1)

  pub bootstrap_tag_lem : (i : ℕ) (e : Entry L Reference) → get_elem? (bootstraps_of ds) i ≡ some e → (e.tag ≡ bootstrap_tag) × Among (define e) ds
  unfolding bootstraps_of is_bootstrap
  bootstrap_tag_lem i e p =
      let h = only_at is_bootstrap (entries ds) i e p in
      (eqb-true e.tag bootstrap_tag h.0, entry_defined ds h.1.0 e h.1.1)

  -- in the one table constants stand first
  pub table_defined :
      (i : ℕ) (e : Entry L Reference) →
      get_elem? (constants_of ds ++ bootstraps_of ds) i ≡ some e →
      (i < length (constants_of ds) → eqb e.tag bootstrap_tag ≡ false)
      × (length (constants_of ds) ≤ i → e.tag ≡ bootstrap_tag)
      × Among (define e) ds
  table_defined i e p = ways (append_at (constants_of ds) (bootstraps_of ds) i e p)
    where
      ways :
          (get_elem? (constants_of ds) i ≡ some e) ⊎ ((j : ℕ) × (i ≡ length (constants_of ds) + j) × (get_elem? (bootstraps_of ds) j ≡ some e)) →
          (i < length (constants_of ds) → eqb e.tag bootstrap_tag ≡ false)
          × (length (constants_of ds) ≤ i → e.tag ≡ bootstrap_tag)
          × Among (define e) ds
      ways (inl q) =
          let h = constant_tag i e q in
          let b = found_inside (constants_of ds) i e q in
          (λ _. h.0, λ l. absurd (omega arith), h.1)
      ways (inr (j, r, q)) =
          let h = bootstrap_tag_lem j e q in
          (λ l. absurd (omega arith), λ _. h.0, h.1)

-- a job's names, the number of its constants, and its entries with their references followed
abbrev pub job_names : Job ℕ → List Naming
job_names job = namings_of job.definitions

abbrev pub job_constants : Job ℕ → ℕ
job_constants job = length (constants_of job.definitions)

abbrev pub job_table : Job ℕ → List (Entry ℕ Goal)
job_table job = linked (job_names job) (job_constants job) (constants_of job.definitions ++ bootstraps_of job.definitions)

module _ (names : List Naming) (constants : ℕ) where
  -- following references changes no tag, and takes no entry
  pub linked-length : (es : List (Entry ℕ Reference)) → length (linked names constants es) ≡ length es
  unfolding linked
  linked-length es = length-map es (λ e. with_kids (map (goal_of names constants) e.kids) e)

  pub linked-at :
      (es : List (Entry ℕ Reference)) (i : ℕ) (x : Entry ℕ Goal) →
      get_elem? (linked names constants es) i ≡ some x →
      (y : Entry ℕ Reference) × (get_elem? es i ≡ some y) × (x.tag ≡ y.tag) × (x.kids ≡ map (goal_of names constants) y.kids)
  unfolding linked with_kids
  linked-at es i x p =
      let h = map-some (λ e. with_kids (map (goal_of names constants) e.kids) e) es i x p in
      let back = sym h.2 in
      (h.0, h.1, ap (λ (z : Entry ℕ Goal). z.tag) back, ap (λ (z : Entry ℕ Goal). z.kids) back)

-- a constant of the linked table has no bootstrap's tag, and a bootstrap does
module _ (ds : List (Definition ℕ)) (names : List Naming) (constants i : ℕ) (x : Entry ℕ Goal) where
  abbrev At : Type 0
  At = get_elem? (linked names constants (constants_of ds ++ bootstraps_of ds)) i ≡ some x

  pub table_constant : At → i < length (constants_of ds) → eqb x.tag bootstrap_tag ≡ false
  table_constant p l =
      let h = linked-at names constants (constants_of ds ++ bootstraps_of ds) i x p in
      rw h.2 ((table_defined ds i h.0 h.1).0 l)

  pub table_bootstrap : At → length (constants_of ds) ≤ i → x.tag ≡ bootstrap_tag
  table_bootstrap p l =
      let h = linked-at names constants (constants_of ds ++ bootstraps_of ds) i x p in
      rw h.2 ((table_defined ds i h.0 h.1).1 l)

-- the goals of a cited job
module _ (job : Job ℕ) (cited : Cited ℕ job) where
  names_there : (i : ℕ) (n : Naming) → get_elem? (job_names job) i ≡ some n → Cites job.definitions n.target × OfKind n.kind n.target
  names_there i n p = named-cited job cited n.kind n.label n.target (naming_named job.definitions i n p)

  table_length : length (job_table job) ≡ table_size_of job.definitions
  table_length = linked-length (job_names job) (job_constants job) (constants_of job.definitions ++ bootstraps_of job.definitions)

  -- a reference that cites what is there leads to a goal of its kind
  pub reference-goal :
      (r : Reference) (kind : Kind) →
      Cites job.definitions r →
      OfKind kind r →
      GoalOfKind (job_constants job) (length (job_table job)) kind (goal_of (job_names job) (job_constants job) r)
  reference-goal r kind c k = rw table_length (goal_kind job.definitions (job_names job) names_there r kind c k)

  -- so does what a request asks for
  pub request_goal :
      (i : ℕ) (q : Request) →
      get_elem? job.requests i ≡ some q →
      GoalOfKind (job_constants job) (length (job_table job)) constant (goal_of (job_names job) (job_constants job) q.what)
  request_goal i q p = reference-goal q.what constant (cited.request_cited i q p) (cited.request_of_kind i q p)

  -- what is placed is such a goal
  pub placed-goal :
      (kind : Kind) (n e : ℕ) →
      Among (placed kind n e) job.definitions →
      GoalOfKind (job_constants job) (length (job_table job)) kind (table_entry (place_of (job_constants job) kind e))
  placed-goal kind n e h = rw table_length (entry_goal job.definitions kind e (placed-cited job cited kind n e h))

  -- and so is what an entry of the table refers to
  pub table_kid :
      (e : ℕ) (x : Entry ℕ Goal) →
      get_elem? (job_table job) e ≡ some x →
      (i : ℕ) (g : Goal) →
      get_elem? x.kids i ≡ some g →
      GoalOfKind (job_constants job) (length (job_table job)) (kid_kind x.tag i) g
  table_kid e x p i g q =
      let h = linked-at (job_names job) (job_constants job) (constants_of job.definitions ++ bootstraps_of job.definitions) e x p in
      let y = h.0 in
      let there = (table_defined job.definitions e y h.1).2 in
      let k = map-some (goal_of (job_names job) (job_constants job)) y.kids i g (rw h.3 at q) in
      let c = kid_cited job cited y there i k.0 k.1 in
      rw (h.2, ← k.2) (reference-goal k.0 (kid_kind y.tag i) c.0 c.1)
