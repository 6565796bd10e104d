-- Where a reference that cites a name leads: the first step of each name, and its goal once it was followed far enough. Assumes nothing.
use mathlib.Core.List.{List}
use mathlib.Core.Logic.{inl, inr, ⊎_elim}
use mathlib.Core.Option.{Option, none, some}
use mathlib.Core.Path.{◌≡◌, refl, sym, ap, subst, ◌∙◌}
use Prim.Native.Nat.{ℕ, suc, ◌+◌, ◌-◌, ◌≤◌, ◌<◌}
use native.Mathlib.Omega.{arith}
use lib.ListN.{length, get_elem?, take}
use lib.Seq.{take-length}
use Rattle.definition.specs.Shapes.{Kind}
use Rattle.definition.specs.Job.{Reference, raw, entry, name}
use Rattle.definition.specs.Definitions.{Naming, name_target}
use Rattle.definition.specs.Resolving.{refusal, follow, goal_of}
use Rattle.laws.proofs.Resolving.Followed.{followed}
use Rattle.store.specs.Chains.{Sought}
use Rattle.store.specs.JobIn.{entries_in, constants_in, namings_in}
use Rattle.store.specs.Words.{ENTRY, SYM, BOOTSTRAP-SYM, REFUSED, NAME, reference_word, goal_word, IsGoal}
use Rattle.sym_refs.specs.Names.{kind_byte, Names}
use Rattle.sym_refs.specs.Leading.{Named, NamedBy, Leads, leads_from, First, end_of}
use Rattle.sym_refs.proofs.Jumping.{leads_settled, leads_name, ended_same, ended_circular}
use Rattle.sym_refs.proofs.Wording.{follow-low, ref_name, ref_bootstrap_name, goal_12, goal_13}
use Rattle.sym_refs.proofs.Namings.{kind_byte_lem}
use Rattle.sym_refs.proofs.Lookup.{found_target, missing_target}
use Rattle.facts.proofs.Lists.{order}

follow-none : (m : ℕ) (names : List Naming) (c : ℕ) (kind : Kind) (l : List ℕ) → name_target kind l names ≡ none → follow (suc m) names c (name kind l) ≡ refusal 12
unfolding follow
follow-none m names c kind l e = rw (e, follow)

follow-some : (m : ℕ) (names : List Naming) (c : ℕ) (kind : Kind) (l : List ℕ) (r : Reference) → name_target kind l names ≡ some r → follow (suc m) names c (name kind l) ≡ follow m names c r
unfolding follow
follow-some m names c kind l r e = rw (e, follow)

pub leads_from_lem : (s : List ℕ) (m i : ℕ) (x : Naming) → get_elem? (namings_in s) i ≡ some x → leads_from s m i ≡ follow m (namings_in s) (constants_in s) (name x.kind x.label)
unfolding leads_from
leads_from_lem s m i x e = rw (e, leads_from)

-- a reference cites a name
pub IsName : Reference → Type 0
IsName (raw n) = ⊥
IsName (entry kind n) = ⊥
IsName (name kind l) = Unit {0}

pub symbol_name : (s : List ℕ) (c x : ℕ) → ENTRY + c ≤ SYM → SYM ≤ x → IsName (reference_word s c x)
unfolding IsName
symbol_name s c x few h =
    ⊎_elim
    (λ (l : x < BOOTSTRAP-SYM). rw (ref_name s c x few h l) tt)
    (λ (l : BOOTSTRAP-SYM ≤ x). rw (ref_bootstrap_name s c x few l) tt)
    (order x BOOTSTRAP-SYM)

-- all names are there
module _ (h : ℕ) (s places heads links : List ℕ) (n : ℕ) (all : n ≡ length (namings_in s)) (g : Names h s places heads links n) where
  target_found : (kind : Kind) (l : List ℕ) (i : ℕ) → i < n → (f : Named s (kind_byte kind) l i) → name_target kind l (namings_in s) ≡ some f.0.target
  target_found kind l i low f =
      subst (λ (names : List Naming). name_target kind l names ≡ some f.0.target) (ap (λ (k : ℕ). take k (namings_in s)) all ∙ take-length (namings_in s)) (found_target s kind l h places heads links n g i low f)

  target_missing : (kind : Kind) (l : List ℕ) → ((i : ℕ) → i < n → Named s (kind_byte kind) l i → ⊥) → name_target kind l (namings_in s) ≡ none
  target_missing kind l f =
      subst (λ (names : List Naming). name_target kind l names ≡ none) (ap (λ (k : ℕ). take k (namings_in s)) all ∙ take-length (namings_in s)) (missing_target s kind l h places heads links n g f)

  -- a reference that cites name i leads where it does; one whose name isn't defined leads to 12
  module _ (link : ℕ) where
    pub cited_follow : (a : Reference) → Sought (NamedBy s a) n link → 0 < link → (m : ℕ) → follow m (namings_in s) (constants_in s) a ≡ leads_from s m (link - 1)
    cited_follow (raw k) f low m = absurd (f.hit low)
    cited_follow (entry kind k) f low m = absurd (f.hit low)
    cited_follow (name kind l) f low m = at (f.hit low)
      where
        at : Named s (kind_byte kind) l (link - 1) → follow m (namings_in s) (constants_in s) (name kind l) ≡ leads_from s m (link - 1)
        at (x, e, k, q) = let z = kind_byte_lem x.kind kind k in rw (leads_from_lem s m (link - 1) x e, z, q)

    pub missing_follow : (a : Reference) → IsName a → Sought (NamedBy s a) n link → link ≡ 0 → (m : ℕ) → follow (suc m) (namings_in s) (constants_in s) a ≡ refusal 12
    unfolding IsName
    missing_follow (raw k) is f e m = absurd is
    missing_follow (entry kind k) is f e m = absurd is
    missing_follow (name kind l) is f e m = follow-none m (namings_in s) (constants_in s) kind l (target_missing kind l (f.miss e))

  -- THE FIRST STEP of name i, whose target has this word
  module _ (i : ℕ) (x : Naming) (e : get_elem? (namings_in s) i ≡ some x) (low : i < n) (word : ℕ) (tells : reference_word s (constants_in s) word ≡ x.target) where
    step : (m : ℕ) → leads_from s (suc m) i ≡ follow m (namings_in s) (constants_in s) (reference_word s (constants_in s) word)
    step m =
        leads_from_lem s (suc m) i x e
        ∙ follow-some m (namings_in s) (constants_in s) x.kind x.label x.target (target_found x.kind x.label i low (x, e, refl, refl))
        ∙ ap (follow m (namings_in s) (constants_in s)) (sym tells)

    pub first_low : word < SYM → IsGoal (entries_in s) word → First s n i word
    first_low small goal =
        record {
          low = omega arith;
          word = λ _. goal;
          once = (
            1,
            omega arith,
            λ m.
                let q : 1 + m ≡ suc m = omega arith in
                rw q (step m ∙ follow-low (namings_in s) (constants_in s) s m word small ∙ sym (leads_settled (leads_from s) m word (omega arith))),
          );
        }

    module _ (link : ℕ) (f : Sought (NamedBy s (reference_word s (constants_in s) word)) n link) where
      pub first_name : 0 < link → First s n i (NAME + link - 1)
      first_name more =
          record {
            low = omega (arith, f.low);
            word = λ small. absurd (omega arith);
            once = (
              1,
              omega arith,
              λ m.
                  let q : 1 + m ≡ suc m = omega arith in
                  let d : NAME + link - 1 - NAME ≡ link - 1 = omega arith in
                  rw q
                  (step m
                  ∙ cited_follow link (reference_word s (constants_in s) word) f more m
                  ∙ sym (leads_name (leads_from s) m (NAME + link - 1) (omega arith) ∙ ap (leads_from s m) d)),
            );
          }

      pub first_none : ENTRY + constants_in s ≤ SYM → SYM ≤ word → link ≡ 0 → First s n i (REFUSED + 12)
      first_none few large z =
          record {
            low = omega arith;
            word = λ _. inr (inl refl);
            once = (
              2,
              omega arith,
              λ m.
                  let q : 2 + m ≡ suc (suc m) = omega arith in
                  rw q
                  (step (suc m)
                  ∙ missing_follow link (reference_word s (constants_in s) word) (symbol_name s (constants_in s) word few large) f z m
                  ∙ sym (leads_settled (leads_from s) m (REFUSED + 12) (omega arith) ∙ goal_12)),
            );
          }

-- THE GOAL of a name, once its word led far enough
module _ (s : List ℕ) (i : ℕ) (x : Naming) (e : get_elem? (namings_in s) i ≡ some x) (y span : ℕ) (g : Leads (leads_from s) span i y) where
  far : (m : ℕ) → leads_from s (suc (length (namings_in s)) + m) i ≡ goal_of (namings_in s) (constants_in s) (name x.kind x.label)
  far m = leads_from_lem s (suc (length (namings_in s)) + m) i x e ∙ followed (namings_in s) (constants_in s) m (name x.kind x.label)

  nowhere : (j : ℕ) → leads_from s 0 j ≡ refusal 13
  unfolding leads_from follow
  nowhere j = ways (get_elem? (namings_in s) j)
    where
      ways : (o : Option Naming) → elim o [ none ↦ refusal 13 | some z ↦ refusal 13 ] ≡ refusal 13
      ways none = refl
      ways (some z) = refl

  pub goal_ended : length (namings_in s) < span → goal_word (end_of y) ≡ goal_of (namings_in s) (constants_in s) (name x.kind x.label)
  goal_ended wide =
      let n = length (namings_in s) in
      ⊎_elim
      (λ (z : y < NAME).
      let q : g.0 + suc n ≡ suc n + g.0 = omega arith in
      rw (ended_same y z)
      (sym (sym (far g.0) ∙ ap (λ (m : ℕ). leads_from s m i) (sym q) ∙ g.2 (suc n) ∙ leads_settled (leads_from s) (suc n) y z)))
      (λ (z : NAME ≤ y).
      let q : g.0 + 0 ≡ suc n + (g.0 - suc n) = omega (arith, g.1) in
      rw (ended_circular y z)
      (sym
      (sym (far (g.0 - suc n))
      ∙ ap (λ (m : ℕ). leads_from s m i) (sym q)
      ∙ g.2 0
      ∙ leads_name (leads_from s) 0 y z
      ∙ nowhere (y - NAME)
      ∙ sym goal_13)))
      (order y NAME)
