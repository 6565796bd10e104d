-- The cause of 12 and 13: what a record resolves reaches a name that nothing names, or an entry or a name that leads back to itself.
-- Assumes nothing.
use mathlib.Core.Bool.{true, false, ◌&&◌}
use mathlib.Core.List.{List, [], ◌∷◌, ◌++◌}
use mathlib.Core.Logic.{◌⊎◌, inl, inr}
use mathlib.Core.Option.{Option, none, some}
use mathlib.Core.Path.{◌≡◌, refl, sym, ap, subst, ◌∙◌}
use Prim.Native.Nat.{ℕ, zero, suc, ◌+◌, ◌-◌, ◌<◌}
use native.Mathlib.Omega.{arith}
use lib.Dec.{ltb}
use lib.ListN.{length, get_elem?}
use borrow.Author.Tests.{lt-ltb, le-ltb}
use Rattle.definition.specs.Basics.{same}
use Rattle.definition.specs.Shapes.{Kind, constant, bootstrap, Entry, with_literal}
use Rattle.definition.specs.Job.{Reference, raw, entry, name, Definition, define, named, placed, setting, Job}
use Rattle.definition.specs.Numbering.{constants_of, bootstraps_of, literals, numbered_entry, numbered_definition, numbered}
use Rattle.definition.specs.Definitions.{Naming, same_kind_lem, name_target}
use Rattle.definition.specs.Resolving.{Goal, table_entry, refusal, place_of, follow, goal_of, Resolved, resolve}
use Rattle.facts.specs.Lists.{Among}
use Rattle.facts.proofs.Lists.{clash, none≢some, some_inj, same_refl, found_inside, append_at, among-cons, among_later, map_at, map-some, unmap}
use Rattle.facts.proofs.Results.{decided}
use Rattle.facts.proofs.Outcomes.{Ends, weaker, Anything}
use Rattle.laws.specs.Counted.{count_in}
use Rattle.laws.specs.Faithful.{Faithful}
use Rattle.causes.specs.CauseStatement.{At, Refers, by_name, to_child, Reaches, there, further, Resolves, ResolvingCause, undefined, circular}
use Rattle.laws.proofs.Form.CitedEntries.{Cites, Cited, kid_cited, named-cited}
use Rattle.laws.proofs.Numbering.NumberedCited.{constants_numbered_lem, bootstraps_numbered}
use Rattle.laws.proofs.Definitions.DefinedAsPlaced.{namings_of}
use Rattle.laws.proofs.Resolving.NameTargets.{target_at}
use Rattle.laws.proofs.Resolving.JobGoals.{naming_named, table_defined, job_names, job_constants, job_table, linked-at}
use Rattle.causes.proofs.CauseDefinitions.{named_back}
use Rattle.causes.proofs.CauseStack.{Why, resolve-cause}

-- ---- a name that isn't found is named by no record

pub same_kind-refl : (kind : Kind) → same_kind_lem kind kind ≡ true
unfolding same_kind_lem
same_kind-refl constant = refl
same_kind-refl bootstrap = refl

pub named-found : {L : Type 0} (ds : List (Definition L)) (kind : Kind) (s : List ℕ) (t : Reference) (i : ℕ) → get_elem? ds i ≡ some (named kind s t) → name_target kind s (namings_of ds) ≡ none → ⊥
unfolding namings_of name_target
named-found [] kind s t i at e = none≢some at
named-found (define x ∷ ds) kind s t zero at e = clash (cc)
named-found (define x ∷ ds) kind s t (suc i) at e = named-found ds kind s t i at e
named-found (placed k a m ∷ ds) kind s t zero at e = clash (cc)
named-found (placed k a m ∷ ds) kind s t (suc i) at e = named-found ds kind s t i at e
named-found (setting v ∷ ds) kind s t zero at e = clash (cc)
named-found (setting v ∷ ds) kind s t (suc i) at e = named-found ds kind s t i at e
named-found (named k l u ∷ ds) kind s t zero at e =
    let q₁ : k ≡ kind = cc in
    let q₂ : l ≡ s = cc in
    decided (same_kind_lem kind k && same s l) _ _ none e (λ b f. none≢some (sym f))
    (λ b f. clash (cc (sym b ∙ ap (λ k. same_kind_lem kind k && same s l) q₁ ∙ ap (λ l. same_kind_lem kind kind && same s l) q₂ ∙ hit)))
  where
    hit : (same_kind_lem kind kind && same s s) ≡ true
    hit = rw (same_kind-refl kind, same_refl s) refl
named-found (named k l u ∷ ds) kind s t (suc i) at e =
    decided (same_kind_lem kind k && same s l) _ _ none e (λ b f. none≢some (sym f)) (λ b f. named-found ds kind s t i at f)

-- ---- a list without one of its members

without :
    {A : Type 0} (l : List A) (i : ℕ) (a : A) →
    get_elem? l i ≡ some a →
    (l' : List A) × (length l ≡ suc (length l')) × ((b : A) → Among b l → (b ≡ a) ⊎ Among b l')
without [] i a e = none≢some e
without {A} (x ∷ l) zero a e = (l, refl, λ b h. go b (among-cons b x l h))
  where
    go : (b : A) → (b ≡ x) ⊎ Among b l → (b ≡ a) ⊎ Among b l
    go b (inl q) = inl (q ∙ some_inj e)
    go b (inr h) = inr h
without {A} (x ∷ l) (suc i) a e =
    let h = without l i a e in
    (x ∷ h.0, ap suc h.1, λ b k. go h.0 h.2 b (among-cons b x l k))
  where
    go : (l' : List A) → ((b : A) → Among b l → (b ≡ a) ⊎ Among b l') → (b : A) → (b ≡ x) ⊎ Among b l → (b ≡ a) ⊎ Among b (x ∷ l')
    go l' f b (inl q) = inr (0, ap some (sym q))
    go l' f b (inr h) = ways (f b h)
      where
        ways : (b ≡ a) ⊎ Among b l' → (b ≡ a) ⊎ Among b (x ∷ l')
        ways (inl q) = inl q
        ways (inr k) = inr (among_later b x l' k)

-- ---- ways over references

module _ (job : Job (List ℕ)) where
  pub reaches_on : {r s t : Reference} → Reaches job r s → Reaches job s t → Reaches job r t
  reaches_on (there r) h = h
  reaches_on {t} (further r s u l k) h = further r s t l (reaches_on k h)

  -- in one step or more
  abbrev Back : Reference → Reference → Type 0
  Back r t = (u : Reference) × Refers job r u × Reaches job u t

  back_on : {r s t : Reference} → Back r s → Reaches job s t → Back r t
  back_on (u, l, k) h = (u, l, reaches_on k h)

  back_reaches : (r t : Reference) → Back r t → Reaches job r t
  back_reaches r t (u, l, k) = further r u t l k

  -- something is reached that leads back to itself
  abbrev Loop : Reference → Type 0
  Loop r = (t : Reference) × Reaches job r t × Back t t

  loop_before : (r s : Reference) → Reaches job r s → Loop s → Loop r
  loop_before r s h (t, k, b) = (t, reaches_on h k, b)

  abbrev pub ds : List (Definition ℕ)
  ds = (numbered job).definitions

  abbrev pub names : List Naming
  names = job_names (numbered job)

  abbrev pub size : ℕ
  size = job_constants (numbered job)

  abbrev pub table : List (Entry ℕ Goal)
  table = job_table (numbered job)

  -- the name of a naming leads to its target
  pub naming_refers : (n : Naming) → Among n names → Refers job (name n.kind n.label) n.target
  naming_refers n a =
      let h = naming_named ds a.0 n a.1 in
      by_name h.0 n.kind n.label n.target (named_back job h.0 n.kind n.label n.target h.1)

  pub target_refers : (kind : Kind) (s : List ℕ) (t : Reference) → name_target kind s names ≡ some t → Refers job (name kind s) t
  target_refers kind s t e =
      let h = target_at kind s names t e in
      let n = h.0 in
      subst (λ k. Refers job (name k s) t) (sym h.2)
      (subst (λ l. Refers job (name n.kind l) t) (sym h.3) (subst (λ u. Refers job (name n.kind n.label) u) h.4 (naming_refers n h.1)))

  no_record : (kind : Kind) (s : List ℕ) → name_target kind s names ≡ none → (i : ℕ) (t : Reference) → At job i (named kind s t) → ⊥
  unfolding numbered numbered_definition
  no_record kind s e i t at = named-found ds kind s t i (map_at (numbered_definition (literals job)) job.definitions i (named kind s t) at) e

  -- following a name: it leads to one that isn't defined, or round, or to an entry
  pub follow-none : (steps : ℕ) (kind : Kind) (s : List ℕ) → name_target kind s names ≡ none → follow (suc steps) names size (name kind s) ≡ refusal 12
  unfolding follow
  follow-none steps kind s e = rw (e, follow)

  pub follow-some : (steps : ℕ) (kind : Kind) (s : List ℕ) (t : Reference) → name_target kind s names ≡ some t → follow (suc steps) names size (name kind s) ≡ follow steps names size t
  unfolding follow
  follow-some steps kind s t e = rw (e, follow)

  abbrev Undefined : Reference → Type 0
  Undefined r = (kind : Kind) × (s : List ℕ) × Reaches job r (name kind s) × (name_target kind s names ≡ none)

  -- which refusal it is, and what an undefined name is
  follow-code : (steps : ℕ) (r : Reference) (code : ℕ) → follow steps names size r ≡ refusal code → ((code ≡ 12) × Undefined r) ⊎ (code ≡ 13)
  unfolding follow
  follow-code zero (raw n) code e = clash (cc)
  follow-code zero (entry kind n) code e = clash (cc)
  follow-code zero (name kind s) code e = inr (cc)
  follow-code (suc steps) (raw n) code e = clash (cc)
  follow-code (suc steps) (entry kind n) code e = clash (cc)
  follow-code (suc steps) (name kind s) code e = go (name_target kind s names) refl (follow-code steps)
    where
      Goal' : Type 0
      Goal' = ((code ≡ 12) × Undefined (name kind s)) ⊎ (code ≡ 13)

      more : (t : Reference) → Refers job (name kind s) t → ((code ≡ 12) × Undefined t) ⊎ (code ≡ 13) → Goal'
      more t l (inl (q, (k, u, h, n))) = inl (q, (k, u, further (name kind s) t (name k u) l h, n))
      more t l (inr q) = inr q

      go : (o : Option Reference) → name_target kind s names ≡ o → ((r : Reference) (code : ℕ) → follow steps names size r ≡ refusal code → ((code ≡ 12) × Undefined r) ⊎ (code ≡ 13)) → Goal'
      go none q rest =
          let f = follow-none steps kind s q in
          inl (cc, (kind, s, there (name kind s), q))
      go (some t) q rest = more t (target_refers kind s t q) (rest t code (sym (follow-some steps kind s t q) ∙ e))

  -- what is followed round leads back to itself: one name more is used up at each step, and one that was used is come from
  follow-round :
      (steps : ℕ) (r : Reference) (left : List Naming) →
      length left < steps →
      ((n : Naming) → Among n names → Among n left ⊎ Back (name n.kind n.label) r) →
      follow steps names size r ≡ refusal 13 →
      Loop r
  unfolding follow
  follow-round zero r left few used e = absurd (omega arith)
  follow-round (suc steps) (raw n) left few used e = clash (cc)
  follow-round (suc steps) (entry kind n) left few used e = clash (cc)
  follow-round (suc steps) (name kind s) left few used e = go (name_target kind s names) refl (follow-round steps)
    where
      r : Reference
      r = name kind s

      Rest : Type 0
      Rest =
          (r : Reference) (left : List Naming) →
          length left < steps →
          ((n : Naming) → Among n names → Among n left ⊎ Back (name n.kind n.label) r) →
          follow steps names size r ≡ refusal 13 →
          Loop r

      onward :
          (t : Reference) (n : Naming) →
          Refers job r t →
          Refers job (name n.kind n.label) t →
          Among n left ⊎ Back (name n.kind n.label) r →
          r ≡ name n.kind n.label →
          follow steps names size t ≡ refusal 13 →
          Rest →
          Loop r
      onward t n l l' (inr b) alike f rest = (r, there r, subst (λ x. Back x r) (sym alike) b)
      onward t n l l' (inl a) alike f rest =
          let w = without left a.0 n a.1 in
          loop_before r t (further r t t l (there t)) (rest t w.0 (omega (arith, w.1, few)) (λ m h. ways w.0 w.2 m (used m h)) f)
        where
          step : (m : Naming) (left' : List Naming) → (m ≡ n) ⊎ Among m left' → Among m left' ⊎ Back (name m.kind m.label) t
          step m left' (inl q) = inr (subst (λ (m : Naming). Back (name m.kind m.label) t) (sym q) (t, l', there t))
          step m left' (inr h) = inl h

          ways :
              (left' : List Naming) →
              ((b : Naming) → Among b left → (b ≡ n) ⊎ Among b left') →
              (m : Naming) →
              Among m left ⊎ Back (name m.kind m.label) r →
              Among m left' ⊎ Back (name m.kind m.label) t
          ways left' f m (inl h) = step m left' (f m h)
          ways left' f m (inr b) = inr (back_on b (further r t t l (there t)))

      go : (o : Option Reference) → name_target kind s names ≡ o → Rest → Loop r
      go none q rest =
          let f = follow-none steps kind s q in
          let z : ◌≡◌ {A = ℕ} 12 13 = cc in
          absurd (omega arith)
      go (some t) q rest =
          let h = target_at kind s names t q in
          let n = h.0 in
          onward t n (target_refers kind s t q) (subst (λ u. Refers job (name n.kind n.label) u) h.4 (naming_refers n h.1)) (used n h.1)
          (ap (λ k. name k s) h.2 ∙ ap (name n.kind) h.3)
          (sym (follow-some steps kind s t q) ∙ e)
          rest

  round : (r : Reference) → goal_of names size r ≡ refusal 13 → Loop r
  unfolding goal_of
  round r e = follow-round (suc (length names)) r names (omega arith) (λ n a. inl a) e

  -- ---- entries

  -- the entry at a place of the one table, as a reference
  canon : ℕ → Reference
  canon e = elim (ltb e size) [ true ↦ entry constant e | false ↦ entry bootstrap (e - size) ]

  canon_low : (e : ℕ) → e < size → canon e ≡ entry constant e
  unfolding canon
  canon_low e l = rw (lt-ltb e size l, canon) refl

  canon_high : (j : ℕ) → canon (size + j) ≡ entry bootstrap j
  unfolding canon
  canon_high j =
      let q : size + j - size ≡ j = omega arith in
      rw (le-ltb (size + j) size (omega arith), canon, q) refl

  canon_entry : (kind : Kind) (n : ℕ) → n < count_in kind ds → canon (place_of size kind n) ≡ entry kind n
  unfolding place_of count_in
  canon_entry constant n h = canon_low n h
  canon_entry bootstrap n h = canon_high n

  module _ (cited : Cited ℕ (numbered job)) where
    -- a reference that leads to an entry reaches it
    entry_reached : (kind : Kind) (n e : ℕ) → Cites ds (entry kind n) → ◌≡◌ {A = Goal} (table_entry (place_of size kind n)) (table_entry e) → Reaches job (entry kind n) (canon e)
    unfolding Cites
    entry_reached kind n e c q =
        let p : place_of size kind n ≡ e = cc in
        subst (λ x. Reaches job (entry kind n) x) (sym (canon_entry kind n c) ∙ ap canon p) (there (entry kind n))

    follow-entry : (steps : ℕ) (r : Reference) (e : ℕ) → Cites ds r → follow steps names size r ≡ table_entry e → Reaches job r (canon e)
    unfolding follow
    follow-entry zero (raw n) e c q = clash (cc)
    follow-entry zero (entry kind n) e c q = entry_reached kind n e c q
    follow-entry zero (name kind s) e c q = clash (cc)
    follow-entry (suc steps) (raw n) e c q = clash (cc)
    follow-entry (suc steps) (entry kind n) e c q = entry_reached kind n e c q
    follow-entry (suc steps) (name kind s) e c q = go (name_target kind s names) refl (follow-entry steps)
      where
        go :
            (o : Option Reference) →
            name_target kind s names ≡ o →
            ((r : Reference) (e : ℕ) → Cites ds r → follow steps names size r ≡ table_entry e → Reaches job r (canon e)) →
            Reaches job (name kind s) (canon e)
        go none p rest =
            let f = follow-none steps kind s p in
            clash (cc)
        go (some t) p rest =
            let h = target_at kind s names t p in
            let n = h.0 in
            let a = naming_named ds h.1.0 n h.1.1 in
            let c' = subst (Cites ds) h.4 (named-cited (numbered job) cited n.kind n.label n.target a).0 in
            further (name kind s) t (canon e) (target_refers kind s t p) (rest t e c' (sym (follow-some steps kind s t p) ∙ q))

    goal_entry : (r : Reference) (e : ℕ) → Cites ds r → goal_of names size r ≡ table_entry e → Reaches job r (canon e)
    unfolding goal_of
    goal_entry r e c q = follow-entry (suc (length names)) r e c q

    -- an entry of the one table leads to its children
    abbrev Child : ℕ → Goal → Type 0
    Child e g = (t : Reference) × Refers job (canon e) t × (goal_of names size t ≡ g) × Cites ds t

    entry_refers : (e : ℕ) (y : Entry ℕ Reference) (t : Reference) → get_elem? (constants_of ds ++ bootstraps_of ds) e ≡ some y → Among t y.kids → Refers job (canon e) t
    unfolding numbered_entry with_literal
    entry_refers e y t p a = ways (append_at (constants_of ds) (bootstraps_of ds) e y p)
      where
        kids_same : (z : Entry (List ℕ) Reference) → numbered_entry (literals job) z ≡ y → Among t z.kids
        kids_same z q = subst (Among t) (sym (ap (λ (x : Entry ℕ Reference). x.kids) q)) a

        ways :
            (get_elem? (constants_of ds) e ≡ some y) ⊎ ((j : ℕ) × (e ≡ size + j) × (get_elem? (bootstraps_of ds) j ≡ some y)) →
            Refers job (canon e) t
        ways (inl q) =
            let h = map-some (numbered_entry (literals job)) (constants_of job.definitions) e y (subst (λ l. get_elem? l e ≡ some y) (constants_numbered_lem job) q) in
            subst (λ r. Refers job r t) (sym (canon_low e (found_inside (constants_of ds) e y q))) (to_child constant e h.0 t h.1 (kids_same h.0 h.2))
        ways (inr (j, is, q)) =
            let h = map-some (numbered_entry (literals job)) (bootstraps_of job.definitions) j y (subst (λ l. get_elem? l j ≡ some y) (bootstraps_numbered job) q) in
            subst (λ r. Refers job r t) (sym (ap canon is ∙ canon_high j)) (to_child bootstrap j h.0 t h.1 (kids_same h.0 h.2))

    child_leads : (e : ℕ) (x : Entry ℕ Goal) (g : Goal) → get_elem? table e ≡ some x → Among g x.kids → Child e g
    child_leads e x g p a =
        let h = linked-at names size (constants_of ds ++ bootstraps_of ds) e x p in
        let y = h.0 in
        let u = unmap (goal_of names size) y.kids g (subst (Among g) h.3 a) in
        (u.0, entry_refers e y u.0 h.1 u.1, u.2, (kid_cited (numbered job) cited y (table_defined ds e y h.1).2 u.1.0 u.0 u.1.1).0)

    -- ---- what is reached while resolving, and the cause

    -- where an entry leads, and what is reached from a reference
    abbrev Goes : ℕ → Goal → Type 0
    Goes e g = (t : Reference) × Back (canon e) t × (goal_of names size t ≡ g) × Cites ds t

    abbrev From : Reference → Goal → Type 0
    From r g = (t : Reference) × Reaches job r t × (goal_of names size t ≡ g) × Cites ds t

    child : (e : ℕ) (x : Entry ℕ Goal) (g : Goal) → get_elem? table e ≡ some x → Among g x.kids → Goes e g
    child e x g p a = let h = child_leads e x g p a in (h.0, (h.0, h.1, there h.0), h.2, h.3)

    goes_on : (d e : ℕ) (g : Goal) → Goes d (table_entry e) → Goes e g → Goes d g
    goes_on d e g (t, b, q, c) (t', b', q', c') = (t', back_on b (reaches_on (goal_entry t e c q) (back_reaches (canon e) t' b')), q', c')

    from_on : (r : Reference) (e : ℕ) (g : Goal) → From r (table_entry e) → Goes e g → From r g
    from_on r e g (t, b, q, c) (t', b', q', c') = (t', reaches_on b (reaches_on (goal_entry t e c q) (back_reaches (canon e) t' b')), q', c')

    why_cause :
        (place : ℕ) (r : Reference) (code : ℕ) →
        Resolves job place r →
        Why table (From r) Goes child goes_on (from_on r) code →
        ResolvingCause job code place
    unfolding goal_of
    why_cause place r code is (inl (t, h, q, c)) = ways (follow-code (suc (length names)) t code q)
      where
        loop : code ≡ 13 → Loop t → ResolvingCause job code place
        loop p (u, k, b) = subst (λ code. ResolvingCause job code place) (sym p) (circular place r u b.0 is (reaches_on h k) b.1 b.2)

        ways : ((code ≡ 12) × Undefined t) ⊎ (code ≡ 13) → ResolvingCause job code place
        ways (inl (p, (kind, s, k, gone))) =
            subst (λ code. ResolvingCause job code place) (sym p) (undefined place r kind s is (reaches_on h k) (no_record kind s gone))
        ways (inr p) = loop p (round t (q ∙ ap refusal p))
    why_cause place r code is (inr (p, (e, (t, h, q, c), (t', b', q', c')))) =
        let round-to : Back (canon e) (canon e) = back_on b' (goal_entry t' e c' q') in
        subst (λ code. ResolvingCause job code place) (sym p)
        (circular place r (canon e) round-to.0 is (reaches_on h (goal_entry t e c q)) round-to.1 round-to.2)

    -- CAUSE of 12 and 13: what resolving a reference of a record is refused for, or 0 for want of fuel
    pub cause_of_resolving :
        (place : ℕ) (r : Reference) (s : Resolved) →
        Resolves job place r →
        Cites ds r →
        Faithful table s →
        Ends (λ code. (code ≡ 0) ⊎ ResolvingCause job code place) Anything (resolve table (goal_of names size r) s)
    cause_of_resolving place r s is c f =
        weaker (λ code h. ways code h) (λ a k. k)
        (resolve-cause table (From r) Goes child goes_on (from_on r) (goal_of names size r) s (r, there r, refl, c) f.marks_length f.none_underway)
      where
        ways : (code : ℕ) → (code ≡ 0) ⊎ Why table (From r) Goes child goes_on (from_on r) code → (code ≡ 0) ⊎ ResolvingCause job code place
        ways code (inl z) = inl z
        ways code (inr w) = inr (why_cause place r code is w)
