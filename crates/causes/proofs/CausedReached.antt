-- What a run has resolved has no cause of 12 or 13: all that is reached is resolved, and children are made before their parents. Assumes nothing.
use mathlib.Core.Bool.{true, ◌&&◌}
use mathlib.Core.List.{List, [], ◌∷◌, ◌++◌, map}
use mathlib.Core.Option.{Option, none, some}
use mathlib.Core.Path.{◌≡◌, refl, sym, ap, subst, ◌∙◌}
use Prim.Native.Nat.{ℕ, zero, suc, ◌+◌, ◌≤◌, ◌<◌}
use native.Mathlib.Omega.{arith}
use lib.ListN.{length, get_elem?}
use Rattle.definition.specs.Basics.{good, same}
use Rattle.definition.specs.Shapes.{Kind, constant, bootstrap, Entry, with_kids, with_literal}
use Rattle.definition.specs.Job.{Reference, entry, name, Definition, define, named, placed, setting, Job}
use Rattle.definition.specs.Numbering.{top_of, constants_of, bootstraps_of, literals, numbered_entry}
use Rattle.definition.specs.Definitions.{Defined, same_kind_lem, name_target, define_all, nothing_defined}
use Rattle.definition.specs.Resolving.{Goal, raw_number, table_entry, refusal, place_of, follow, goal_of, linked, done, Resolved, child_of}
use Rattle.facts.specs.Lists.{Among}
use Rattle.facts.proofs.Lists.{none≢some, some_inj, same_refl, found_append, place_behind, map_at}
use Rattle.facts.proofs.Results.{decided}
use Rattle.laws.specs.Faithful.{Settled, Faithful}
use Rattle.causes.specs.CauseStatement.{At, table_of, Refers, by_name, to_child, Reaches, there, further, Resolves, ResolvingCause, undefined, circular}
use Rattle.laws.proofs.Numbering.NumberedCited.{constants_numbered_lem, bootstraps_numbered}
use Rattle.laws.proofs.Definitions.DefinedAsPlaced.{namings_of}
use Rattle.laws.proofs.Resolving.Followed.{followed}
use Rattle.laws.proofs.Resolving.NameTargets.{target_at}
use Rattle.laws.proofs.Resolving.JobGoals.{naming_named}
use Rattle.laws.proofs.Resolving.NodesApart.{Orderly}
use Rattle.laws.proofs.Resolving.ResolvedNodes.{child_done}
use Rattle.causes.proofs.CauseDefinitions.{all, constants, named_back}
use Rattle.causes.proofs.CauseReached.{same_kind-refl, reaches_on, ds, names, size, table, follow-none, follow-some}
use Rattle.causes.proofs.CausedDefinitions.{name_passed}

-- the first naming of a name is found
first_named :
    (before after : List (Definition ℕ)) (kind : Kind) (s : List ℕ) (r : Reference) →
    name_target kind s (namings_of before) ≡ none →
    name_target kind s (namings_of (before ++ named kind s r ∷ after)) ≡ some r
unfolding namings_of name_target
first_named [] after kind s r e = rw (hit, name_target) refl
  where
    hit : (same_kind_lem kind kind && same s s) ≡ true
    hit = rw (same_kind-refl kind, same_refl s) refl
first_named (define x ∷ before) after kind s r e = first_named before after kind s r e
first_named (placed k a m ∷ before) after kind s r e = first_named before after kind s r e
first_named (setting v ∷ before) after kind s r e = first_named before after kind s r e
first_named (named k l u ∷ before) after kind s r e =
    decided (same_kind_lem kind k && same s l) _ _ none e (λ b f. none≢some (sym f)) (λ b f. rw (b, name_target) (first_named before after kind s r f))

module _ (job : Job (List ℕ)) (d : Defined) (defined : define_all (top_of job) (constants job) 0 (all job) nothing_defined ≡ good d) where
  -- a name has one record
  target_is : (i : ℕ) (kind : Kind) (s : List ℕ) (r : Reference) → At job i (named kind s r) → name_target kind s (names job) ≡ some r
  target_is i kind s r at =
      let (p, new) = name_passed job d defined i kind s r at in
      subst (λ l. name_target kind s (namings_of l) ≡ some r) p.is_all (first_named p.before p.after kind s r new)

  -- it leads where its target does
  goal_name : (kind : Kind) (s : List ℕ) (r : Reference) → name_target kind s (names job) ≡ some r → goal_of (names job) (size job) (name kind s) ≡ goal_of (names job) (size job) r
  unfolding goal_of
  goal_name kind s r e =
      let q : suc (length (names job)) + 1 ≡ suc (suc (length (names job))) = omega arith in
      sym (followed (names job) (size job) 1 (name kind s))
      ∙ ap (λ n. follow n (names job) (size job) (name kind s)) q
      ∙ follow-some job (suc (length (names job))) kind s r e

  goal_none : (kind : Kind) (s : List ℕ) → name_target kind s (names job) ≡ none → goal_of (names job) (size job) (name kind s) ≡ refusal 12
  unfolding goal_of
  goal_none kind s e = follow-none job (length (names job)) kind s e

  -- a name that no record names isn't found
  unnamed : (kind : Kind) (s : List ℕ) → ((i : ℕ) (t : Reference) → At job i (named kind s t) → ⊥) → name_target kind s (names job) ≡ none
  unnamed kind s gone = go (name_target kind s (names job)) refl
    where
      go : (o : Option Reference) → name_target kind s (names job) ≡ o → name_target kind s (names job) ≡ none
      go none e = e
      go (some t) e =
          let h = target_at kind s (names job) t e in
          let n = h.0 in
          let a = naming_named (ds job) h.1.0 n h.1.1 in
          let p = named_back job a.0 n.kind n.label n.target a.1 in
          absurd
          (gone a.0 n.target
          (subst (λ l. At job a.0 (named kind l n.target)) (sym h.3) (subst (λ k. At job a.0 (named k n.label n.target)) (sym h.2) p)))

  -- ---- how deep a goal lies, once resolved

  module _ (s : Resolved) (faithful : Faithful (table job) s) (orderly : Orderly s.nodes) where
    Deep : Goal → ℕ → Type 0
    Deep (raw_number m) n = n ≡ 0
    Deep (table_entry e) n = (k : ℕ) × (get_elem? s.marks e ≡ some (done k)) × (n ≡ suc k)
    Deep (refusal code) n = ⊥

    settled-deep : (g : Goal) → Settled s.marks g → (n : ℕ) × Deep g n
    unfolding Deep
    settled-deep (raw_number m) h = (0, refl)
    settled-deep (table_entry e) h = (suc h.0, (h.0, h.1, refl))
    settled-deep (refusal code) h = absurd h

    deep_one : (g : Goal) (n m : ℕ) → Deep g n → Deep g m → n ≡ m
    unfolding Deep
    deep_one (raw_number x) n m p q = p ∙ sym q
    deep_one (table_entry e) n m (k, at, p) (j, at', q) =
        let same : done k ≡ done j = some_inj (sym at ∙ at') in
        let r : k ≡ j = cc in
        omega (arith, p, q, r)
    deep_one (refusal code) n m p q = absurd p

    deep_child : (e k : ℕ) → get_elem? s.marks e ≡ some (done k) → (x : Entry ℕ Goal) → get_elem? (table job) e ≡ some x → (g : Goal) → Among g x.kids → (m : ℕ) × Deep g m × (m < suc k)
    unfolding Deep with_kids
    deep_child e k done_at x at g a =
        let node = faithful.node_of e k done_at in
        let same : node.0 ≡ x = some_inj (sym node.1 ∙ at) in
        let among = subst (λ (y : Entry ℕ Goal). Among g y.kids) (sym same) a in
        go g (node.3 g among) node.2 (among.0, map_at (child_of s.marks) node.0.kids among.0 g among.1)
      where
        go :
            (g : Goal) →
            Settled s.marks g →
            get_elem? s.nodes k ≡ some (with_kids (map (child_of s.marks) (faithful.node_of e k done_at).0.kids) (faithful.node_of e k done_at).0) →
            Among (child_of s.marks g) (map (child_of s.marks) (faithful.node_of e k done_at).0.kids) →
            (m : ℕ) × Deep g m × (m < suc k)
        go (raw_number m) h node among = (0, refl, omega arith)
        go (table_entry f) h node among =
            let c = child_done s.marks f h.0 h.1 in
            let low = orderly.before k _ node (child_of s.marks (table_entry f)) among in
            (suc h.0, (h.0, h.1, refl), omega (arith, c, low))
        go (refusal code) h node among = absurd h

    -- ---- along the ways

    -- an entry of the job in the one table
    table_there :
        (kind : Kind) (n : ℕ) (e : Entry (List ℕ) Reference) → get_elem? (table_of kind job) n ≡ some e →
        (x : Entry ℕ Goal) × (get_elem? (table job) (place_of (size job) kind n) ≡ some x) × (x.kids ≡ map (goal_of (names job) (size job)) e.kids)
    unfolding linked with_kids place_of numbered_entry with_literal
    table_there kind n e at =
        let y = numbered_entry (literals job) e in (
          with_kids (map (goal_of (names job) (size job)) y.kids) y,
          map_at (λ e. with_kids (map (goal_of (names job) (size job)) e.kids) e) (constants_of (ds job) ++ bootstraps_of (ds job)) (place_of (size job) kind n) y (row kind at),
          refl,
        )
      where
        row : (kind : Kind) → get_elem? (table_of kind job) n ≡ some e → get_elem? (constants_of (ds job) ++ bootstraps_of (ds job)) (place_of (size job) kind n) ≡ some (numbered_entry (literals job) e)
        row constant at =
            found_append (constants_of (ds job)) (bootstraps_of (ds job)) n (numbered_entry (literals job) e)
            (subst (λ l. get_elem? l n ≡ some (numbered_entry (literals job) e)) (sym (constants_numbered_lem job)) (map_at (numbered_entry (literals job)) (constants_of job.definitions) n e at))
        row bootstrap at =
            place_behind (constants_of (ds job)) (bootstraps_of (ds job)) n
            ∙ subst (λ l. get_elem? l n ≡ some (numbered_entry (literals job) e)) (sym (bootstraps_numbered job)) (map_at (numbered_entry (literals job)) (bootstraps_of job.definitions) n e at)

    abbrev goal : Reference → Goal
    goal r = goal_of (names job) (size job) r

    child_deeper :
        (kind : Kind) (n : ℕ) (e : Entry (List ℕ) Reference) (r : Reference) (m : ℕ) →
        get_elem? (table_of kind job) n ≡ some e →
        Among r e.kids →
        Deep (goal (entry kind n)) m →
        (j : ℕ) × Deep (goal r) j × (j < m)
    unfolding Deep goal_of follow
    child_deeper kind n e r m at a (k, done_at, is) =
        let (x, there-at, kids) = table_there kind n e at in
        let among : Among (goal r) x.kids = subst (Among (goal r)) (sym kids) (a.0, map_at (goal_of (names job) (size job)) e.kids a.0 r a.1) in
        let (j, deep, less) = deep_child (place_of (size job) kind n) k done_at x there-at (goal r) among in
        (j, deep, omega (arith, less, is))

    lead_deep : {t u : Reference} → Refers job t u → (n : ℕ) → Deep (goal t) n → (m : ℕ) × Deep (goal u) m × (m ≤ n)
    lead_deep (by_name i kind l r at) n h = (n, subst (λ g. Deep g n) (goal_name kind l r (target_is i kind l r at)) h, omega arith)
    lead_deep (to_child kind k e r at a) n h = let (m, deep, less) = child_deeper kind k e r n at a h in (m, deep, omega (arith, less))

    reach_deep : {t u : Reference} → Reaches job t u → (n : ℕ) → Deep (goal t) n → (m : ℕ) × Deep (goal u) m × (m ≤ n)
    reach_deep (there r) n h = (n, h, omega arith)
    reach_deep (further r x y l k) n h =
        let (m, deep, less) = lead_deep l n h in
        let (j, deeper, less') = reach_deep k m deep in
        (j, deeper, omega (arith, less, less'))

    -- an entry isn't come back to from its child
    no_return :
        (kind : Kind) (k : ℕ) (e : Entry (List ℕ) Reference) (r : Reference) (n : ℕ) →
        get_elem? (table_of kind job) k ≡ some e →
        Among r e.kids →
        Reaches job r (entry kind k) →
        Deep (goal (entry kind k)) n →
        ⊥
    no_return kind k e r n at a back h =
        let (m, deep, less) = child_deeper kind k e r n at a h in
        let (j, again, less') = reach_deep back m deep in
        let one = deep_one (goal (entry kind k)) n j h again in
        omega (arith, less, less', one)

    -- what leads back to itself is lost, however long it is followed
    lost : (steps : ℕ) (t u : Reference) → Refers job t u → Reaches job u t → (n : ℕ) → Deep (goal t) n → follow steps (names job) (size job) t ≡ refusal 13
    unfolding follow
    lost zero t₀ u₀ (to_child kind k e r at a) back n h = absurd (no_return kind k e r n at a back h)
    lost zero t₀ u₀ (by_name i kind l r at) back n h = refl
    lost (suc steps) t₀ u₀ (to_child kind k e r at a) back n h = absurd (no_return kind k e r n at a back h)
    lost (suc steps) t₀ u₀ (by_name i kind l r at) back n h =
        follow-some job steps kind l r (target_is i kind l r at) ∙ on (by_name i kind l r at) back (λ t u. lost steps t u)
      where
        deep : Deep (goal r) n
        deep = subst (λ g. Deep g n) (goal_name kind l r (target_is i kind l r at)) h

        on :
            {t : Reference} →
            Refers job t r →
            Reaches job r t →
            ((t u : Reference) → Refers job t u → Reaches job u t → (n : ℕ) → Deep (goal t) n → follow steps (names job) (size job) t ≡ refusal 13) →
            follow steps (names job) (size job) r ≡ refusal 13
        on first (there x) rest = rest x x first (there x) n deep
        on first (further x y z k way) rest = rest x y k (reaches_on job way (further z x x first (there x))) n deep

    -- what a record resolves being resolved, there is no such cause
    pub resolving_refuted : {code place : ℕ} → ((r : Reference) → Resolves job place r → Settled s.marks (goal r)) → ResolvingCause job code place → ⊥
    unfolding Deep goal_of
    resolving_refuted settled (undefined place r kind l is way gone) =
        let (n, deep) = settled-deep (goal r) (settled r is) in
        let (m, there-deep, _) = reach_deep way n deep in
        absurd (subst (λ g. Deep g m) (goal_none kind l (unnamed kind l gone)) there-deep)
    resolving_refuted settled (circular place r t u is way lead back) =
        let (n, deep) = settled-deep (goal r) (settled r is) in
        let (m, there-deep, _) = reach_deep way n deep in
        absurd (subst (λ g. Deep g m) (lost (suc (length (names job))) t u lead back m there-deep) there-deep)
