-- Definitions that are all passed have no cause of 6 to 11. Assumes nothing.
use mathlib.Core.Bool.{Bool, true, false, ◌||◌, not}
use mathlib.Core.List.{List, [], ◌∷◌, ◌++◌}
use mathlib.Core.Logic.{◌⊎◌, inl, inr}
use mathlib.Core.Option.{none, some}
use mathlib.Core.Path.{◌≡◌, refl, sym, ap, subst, ◌∙◌}
use Prim.Native.Nat.{ℕ, zero, suc, ◌≤◌, ◌<◌}
use native.Mathlib.Omega.{arith}
use lib.ListN.{length, get_elem?}
use Rattle.definition.specs.Basics.{good, at_record, lookup}
use Rattle.definition.specs.Shapes.{Kind, constant, bootstrap, Entry}
use Rattle.definition.specs.Job.{Reference, Definition, named, placed, Job}
use Rattle.definition.specs.Numbering.{top_of}
use Rattle.definition.specs.Definitions.{Held, Defined, name_target, is_none, last_slot, place_constant, place_bootstrap, define_one, define_all, nothing_defined}
use Rattle.facts.proofs.Lists.{clash, none≢some, some_inj}
use Rattle.facts.proofs.Tables.{among-lookup}
use Rattle.facts.proofs.Results.{good_then, at_record-good, unless-first}
use Rattle.causes.specs.CauseStatement.{At, Wide, Taken, DefinitionCause, outside, second_taken, on_second, same_slot, last_index, same_index, same_name}
use Rattle.laws.proofs.Definitions.RawSlotsRise.{is_none-true, PlacedConstant, placed-constant, placed-bootstrap}
use Rattle.laws.proofs.Definitions.DefinedAsPlaced.{wide_at, defined_facts, namings_of}
use Rattle.causes.proofs.CauseDefinitions.{all, constants, placed-forth, named-forth, wide_forth, among-before, taken_found}
use Rattle.causes.proofs.CauseReached.{named-found}

-- a definition of those that are passed: those before it are, and so is it
pub record Passed (top : ℕ) (cs : List (Entry ℕ Reference)) (place : ℕ) (ds : List (Definition ℕ)) (d₀ : Defined) (i : ℕ) (x : Definition ℕ) : Type 0 where
  pub before : List (Definition ℕ)
  pub after : List (Definition ℕ)
  pub state : Defined
  pub next : Defined
  pub is_all : before ++ x ∷ after ≡ ds
  pub is_place : length before ≡ i
  pub is_before : define_all top cs place before d₀ ≡ good state
  pub is_passed : define_one top cs x state ≡ good next

pub passed-at :
    (top : ℕ) (cs : List (Entry ℕ Reference)) (place : ℕ) (ds : List (Definition ℕ)) (d₀ d : Defined) →
    define_all top cs place ds d₀ ≡ good d →
    (i : ℕ) (x : Definition ℕ) →
    get_elem? ds i ≡ some x →
    Passed top cs place ds d₀ i x
unfolding define_all at_record
passed-at top cs place [] d₀ d e i x at = none≢some at
passed-at top cs place (y ∷ ds) d₀ d e zero x at =
    good_then (at_record place (define_one top cs y d₀)) _ d e λ d₁ h e₁.
    let same : y ≡ x = some_inj at in
    record {
      before = [];
      after = ds;
      state = d₀;
      next = d₁;
      is_all = ap (λ y. y ∷ ds) (sym same);
      is_place = refl;
      is_before = refl;
      is_passed = subst (λ y. define_one top cs y d₀ ≡ good d₁) same (at_record-good place (define_one top cs y d₀) d₁ h);
    }
passed-at top cs place (y ∷ ds) d₀ d e (suc i) x at =
    good_then (at_record place (define_one top cs y d₀)) _ d e λ d₁ h e₁.
    let here = at_record-good place (define_one top cs y d₀) d₁ h in
    let p = passed-at top cs (suc place) ds d₁ d e₁ i x at in
    record {
      before = y ∷ p.before;
      after = p.after;
      state = p.state;
      next = p.next;
      is_all = ap (λ l. y ∷ l) p.is_all;
      is_place = ap suc p.is_place;
      is_before = rw here p.is_before;
      is_passed = p.is_passed;
    }

module _ (job : Job (List ℕ)) (d : Defined) (defined : define_all (top_of job) (constants job) 0 (all job) nothing_defined ≡ good d) where
  abbrev At' : ℕ → Definition ℕ → Type 0
  At' i x = Passed (top_of job) (constants job) 0 (all job) nothing_defined i x

  passed-placed : (i : ℕ) (kind : Kind) (n e : ℕ) → At job i (placed kind n e) → At' i (placed kind n e)
  passed-placed i kind n e at = passed-at (top_of job) (constants job) 0 (all job) nothing_defined d defined i (placed kind n e) (placed-forth job i kind n e at)

  -- nothing before a passed definition takes a slot that it finds free
  not_taken : (i : ℕ) (x : Definition ℕ) (p : At' i x) (s : ℕ) → Taken job i s → lookup s p.state.held ≡ none → ⊥
  not_taken i x p s t gone =
      taken_found job p.before (x ∷ p.after) p.is_all p.state p.is_before s (subst (λ i. Taken job i s) (sym p.is_place) t) gone

  constant_passed :
      (i n e : ℕ) → At job i (placed constant n e) → (p : At' i (placed constant n e)) ×
      ((held : List (ℕ × Held)) × PlacedConstant (top_of job) (wide_at (constants job) e) n e p.state.held held)
  unfolding define_one
  constant_passed i n e at =
      let p = passed-placed i constant n e at in
      good_then (place_constant (top_of job) (wide_at (constants job) e) n e p.state.held) _ p.next p.is_passed λ held h e₁.
      (p, (held, placed-constant (top_of job) (wide_at (constants job) e) n e p.state.held held h))

  bootstrap_passed :
      (i n e : ℕ) → At job i (placed bootstrap n e) → (p : At' i (placed bootstrap n e)) × (n < 65535) × (lookup n p.state.indexes ≡ none)
  unfolding define_one
  bootstrap_passed i n e at =
      let p = passed-placed i bootstrap n e at in
      good_then (place_bootstrap n e p.state.indexes) _ p.next p.is_passed λ indexes h e₁.
      let q = placed-bootstrap n e p.state.indexes indexes h in
      (p, q.0, q.1)

  pub name_passed :
      (i : ℕ) (kind : Kind) (s : List ℕ) (r : Reference) → At job i (named kind s r) → (p : At' i (named kind s r)) × (name_target kind s (namings_of p.before) ≡ none)
  unfolding define_one
  name_passed i kind s r at =
      let p = passed-at (top_of job) (constants job) 0 (all job) nothing_defined d defined i (named kind s r) (named-forth job i kind s r at) in
      let t = (unless-first (is_none (name_target kind s p.state.names)) 11 _ p.next p.is_passed).0 in
      let names = (defined_facts (top_of job) (constants job) p.before p.state p.is_before).all_names in
      (p, sym (ap (name_target kind s) names) ∙ is_none-true (name_target kind s p.state.names) t)

  -- a passed constant fits
  outside_refuted :
      (n e : ℕ) (w : Bool) → 1 ≤ n → last_slot w n ≤ top_of job → (Wide job e → w ≡ true) → (n ≡ 0) ⊎ ((top_of job < n) ⊎ ((n ≡ top_of job) × Wide job e)) → ⊥
  unfolding last_slot
  outside_refuted n e w low last wide (inl q) = omega (arith, q, low)
  outside_refuted n e true low last wide (inr (inl q)) = omega (arith, q, last)
  outside_refuted n e false low last wide (inr (inl q)) = omega (arith, q, last)
  outside_refuted n e true low last wide (inr (inr (q, h))) = omega (arith, q, last)
  outside_refuted n e false low last wide (inr (inr (q, h))) = let f = wide h in clash (cc)

  second-free : (w : Bool) (b : Bool) → w ≡ true → (not w || b) ≡ true → b ≡ true
  second-free true b q t = t
  second-free false b q t = clash (cc)

  -- definitions that are passed have no such cause
  pub definition_refuted : {code place : ℕ} → DefinitionCause job code place → ⊥
  definition_refuted (outside place n e at h) =
      let (p, (held, f)) = constant_passed place n e at in
      outside_refuted n e (wide_at (constants job) e) f.positive f.within (wide_forth job e) h
  definition_refuted (second_taken place n e at w t) =
      let (p, (held, f)) = constant_passed place n e at in
      let free = second-free (wide_at (constants job) e) (is_none (lookup (suc n) p.state.held)) (wide_forth job e w) f.behind in
      not_taken place (placed constant n e) p (suc n) t (is_none-true (lookup (suc n) p.state.held) free)
  definition_refuted (on_second place n e i m k at free l other w q) =
      let (p, (held, f)) = constant_passed place n e at in
      not_taken place (placed constant n e) p n (i, m, k, l, other, inr (w, q)) f.here
  definition_refuted (same_slot place n e i k at free l other) =
      let (p, (held, f)) = constant_passed place n e at in
      not_taken place (placed constant n e) p n (i, n, k, l, other, inl refl) f.here
  definition_refuted (last_index place e at) =
      let (p, low, new) = bootstrap_passed place 65535 e at in
      omega (arith, low)
  definition_refuted (same_index place n e i k at l other) =
      let (p, low, new) = bootstrap_passed place n e at in
      let a =
      among-before job p.before (placed bootstrap n e ∷ p.after) p.is_all p.state p.is_before i (placed bootstrap n k)
      (subst (λ b. i < b) (sym p.is_place) l) (placed-forth job i bootstrap n k other) in
      let h = (defined_facts (top_of job) (constants job) p.before p.state p.is_before).all_indexes.index_held n k a in
      none≢some (sym new ∙ (among-lookup n k p.state.indexes h).1)
  definition_refuted (same_name place i kind s r t at l other) =
      let (p, new) = name_passed place kind s r at in
      let a =
      among-before job p.before (named kind s r ∷ p.after) p.is_all p.state p.is_before i (named kind s t)
      (subst (λ b. i < b) (sym p.is_place) l) (named-forth job i kind s t other) in
      named-found p.before kind s t a.0 a.1 new
