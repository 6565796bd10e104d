-- What the form pass refuses has a number up to 13 or from 22 to 26. Assumes nothing.
use mathlib.Core.Bool.{Bool, true, false}
use mathlib.Core.List.{List, [], ◌∷◌}
use mathlib.Core.Option.{Option, none, some}
use mathlib.Core.Path.{◌≡◌, refl}
use Prim.Native.Nat.{ℕ, zero, suc}
use lib.Dec.{eqb}
use lib.ListN.{length}
use Rattle.definition.specs.Basics.{lookup}
use Rattle.definition.specs.Expression.{Number, int, float, long, double, Sign, plus, minus, times, over, Expression, leaf, apply, read_expression, kind_within}
use Rattle.definition.specs.Value.{integer, computed, value, one_kind, folded, constant_in}
use Rattle.definition.specs.Settings.{version, texts, highest}
use Rattle.definition.specs.Job.{Definition, define, named, placed, setting, read_definition, asks, read_request, read_build}
use Rattle.definition.specs.Form.{Counts, counted, whole, may_stand, texts_held, comes_out, form_definition, form_definitions, form_request, form_build, form_requests, form}
use Rattle.facts.proofs.Outcomes.{Ends, well, refused, next, Anything, at_record-ends, unless-ends}
use Rattle.laws.proofs.Form.RefusalNumbers.{Early, Added}

-- what was read, or 3
whole-ends : {A : Type 0} {Z : ℕ → Type 0} → Early Z → (o : Option A) → Ends Z Anything (whole o)
unfolding whole
whole-ends z none = refused (z 3 tt tt)
whole-ends z (some a) = well tt

-- 3 or 26
may_stand-ends : {Z : ℕ → Type 0} → Early Z → Added Z → (n : Counts) (x : Definition (List ℕ)) → Ends Z Anything (may_stand n x)
unfolding may_stand
may_stand-ends z added n (define e) = well tt
may_stand-ends z added n (named kind s r) = well tt
may_stand-ends z added n (placed kind at number) = well tt
may_stand-ends z added n (setting (version v)) = unless-ends _ 3 (z 3 tt tt)
may_stand-ends z added n (setting texts) = unless-ends _ 3 (z 3 tt tt)
may_stand-ends z added n (setting (highest top)) = next _ (unless-ends _ 3 (z 3 tt tt)) λ _ _. unless-ends _ 26 (added 26 tt tt)

-- 25
pub texts_held-ends : {Z : ℕ → Type 0} → Added Z → (n : Counts) → Ends (λ e. Z e.code) Anything (texts_held n)
unfolding texts_held
texts_held-ends {Z} added n = go n.broken refl
  where
    go : (o : Option ℕ) → n.broken ≡ o → Ends (λ e. Z e.code) Anything (texts_held n)
    go none e = rw (e, texts_held) (well tt)
    go (some place) e = rw (e, texts_held) (at_record-ends place (unless-ends _ 25 (added 25 tt tt)))

-- 23
integer-ends : {Z : ℕ → Type 0} → Added Z → (m : ℕ) (s : Sign) (a b : ℕ) → Ends Z Anything (integer m s a b)
unfolding integer
integer-ends added m plus a b = well tt
integer-ends added m minus a b = well tt
integer-ends added m times a b = well tt
integer-ends {Z} added m over a b = go (eqb b 0) refl
  where
    go : (t : Bool) → eqb b 0 ≡ t → Ends Z Anything (integer m over a b)
    go true e = rw (e, integer) (refused (added 23 tt tt))
    go false e = rw (e, integer) (well tt)

computed-ends : {Z : ℕ → Type 0} → Added Z → (kind : Number) (s : Sign) (a b : ℕ) → Ends Z Anything (computed kind s a b)
unfolding computed
computed-ends added int s a b = integer-ends added _ s a b
computed-ends added float s a b = well tt
computed-ends added long s a b = integer-ends added _ s a b
computed-ends added double s a b = well tt

value-ends : {Z : ℕ → Type 0} → Added Z → (kind : Number) (e : Expression) → Ends Z Anything (value kind e)
unfolding value
value-ends added kind (leaf k b) = well tt
value-ends added kind (apply s a b) =
    next _ (value-ends added kind a) λ x _. next _ (value-ends added kind b) λ y _. computed-ends added kind s x y

-- 22 or 23
one_kind-ends : {Z : ℕ → Type 0} → Added Z → (o : Option Number) → Ends Z Anything (one_kind o)
unfolding one_kind
one_kind-ends added none = refused (added 22 tt tt)
one_kind-ends added (some kind) = well tt

folded-ends : {Z : ℕ → Type 0} → Added Z → (o : Option Expression) → Ends Z Anything (folded o)
unfolding folded
folded-ends added none = refused (added 22 tt tt)
folded-ends added (some e) =
    next _ (one_kind-ends added (kind_within 32 e)) λ kind _. next _ (value-ends added kind e) λ b _. well tt

constant_in-ends : {Z : ℕ → Type 0} → Early Z → Added Z → (o : Option (Option Expression × List ℕ)) → Ends Z Anything (constant_in o)
unfolding constant_in
constant_in-ends z added none = refused (z 3 tt tt)
constant_in-ends z added (some r) = folded-ends added r.0

comes_out-ends : {Z : ℕ → Type 0} → Early Z → Added Z → (first : ℕ) (bytes : List ℕ) → Ends Z Anything (comes_out first bytes)
unfolding comes_out
comes_out-ends {Z} z added first bytes = go (eqb first 0x46) refl
  where
    go : (t : Bool) → eqb first 0x46 ≡ t → Ends Z Anything (comes_out first bytes)
    go true e = rw (e, comes_out) (next _ (constant_in-ends z added (read_expression bytes)) λ _ _. well tt)
    go false e = rw (e, comes_out) (well tt)

-- 3, 26, 5, 4, 22 or 23
pub form_definition-ends : {Z : ℕ → Type 0} → Early Z → Added Z → (c : Counts) (first : ℕ) (bytes : List ℕ) → Ends Z Anything (form_definition c first bytes)
unfolding form_definition
form_definition-ends z added c first bytes =
    next _ (whole-ends z (read_definition first bytes)) λ r _.
    next _ (may_stand-ends z added c r.0) λ _ _.
    next _ (unless-ends _ 5 (z 5 tt tt)) λ _ _.
    next _ (unless-ends _ 4 (z 4 tt tt)) λ _ _.
    next _ (comes_out-ends z added first bytes) λ _ _.
    well tt

-- 3 or 4
pub form_request-ends : {Z : ℕ → Type 0} → Early Z → (c : Counts) (first : ℕ) (bytes : List ℕ) → Ends Z Anything (form_request c first bytes)
unfolding form_request
form_request-ends z c first bytes =
    next _ (whole-ends z (read_request (lookup first asks) bytes)) λ r _. next _ (unless-ends _ 4 (z 4 tt tt)) λ _ _. well tt

-- 3, 4 or 3
pub form_build-ends : {Z : ℕ → Type 0} → Early Z → (requests place : ℕ) (bytes : List ℕ) → Ends (λ e. Z e.code) Anything (form_build requests place bytes)
unfolding form_build
form_build-ends z requests place bytes =
    next _ (at_record-ends place (whole-ends z (read_build bytes))) λ r _.
    next _ (at_record-ends place (unless-ends _ 4 (z 4 tt tt))) λ _ _.
    next _ (at_record-ends (suc place) (unless-ends _ 3 (z 3 tt tt))) λ _ _.
    well tt

-- Z is what is known of a refusal's number; 0 would tell that fuel ran out
module _ {Z : ℕ → Type 0} (z : Early Z) (added : Added Z) (empty : Z 0) where
  form_definitions-early : (fuel : ℕ) (c : Counts) (place : ℕ) (bytes : List ℕ) → Ends (λ e. Z e.code) Anything (form_definitions fuel c place bytes)
  unfolding form_definitions
  form_definitions-early zero c place [] = refused (z 3 tt tt)
  form_definitions-early zero c place (first ∷ bytes) = refused empty
  form_definitions-early (suc fuel) c place [] = refused (z 3 tt tt)
  form_definitions-early (suc fuel) c place (first ∷ bytes) = go (eqb first 0x50) refl (form_definitions-early fuel)
    where
      go :
          (b : Bool) →
          eqb first 0x50 ≡ b →
          ((c' : Counts) (place' : ℕ) (bytes' : List ℕ) → Ends (λ e. Z e.code) Anything (form_definitions fuel c' place' bytes')) →
          Ends (λ e. Z e.code) Anything (form_definitions (suc fuel) c place (first ∷ bytes))
      go true e ih = rw (e, form_definitions) (well tt)
      go false e ih =
          rw
          (e, form_definitions)
          (next _ (at_record-ends place (form_definition-ends z added c first bytes)) λ r _.
          next _ (texts_held-ends added (counted r.0 c)) λ _ _.
          next _ (ih (counted r.0 c) (suc place) r.1) λ d _. well tt)

  form_requests-early :
      (fuel : ℕ) (c : Counts) (requests place : ℕ) (bytes : List ℕ) → Ends (λ e. Z e.code) Anything (form_requests fuel c requests place bytes)
  unfolding form_requests
  form_requests-early zero c requests place [] = refused (z 3 tt tt)
  form_requests-early zero c requests place (first ∷ bytes) = refused empty
  form_requests-early (suc fuel) c requests place [] = refused (z 3 tt tt)
  form_requests-early (suc fuel) c requests place (first ∷ bytes) = go (eqb first 0x60) refl (form_requests-early fuel)
    where
      go :
          (b : Bool) →
          eqb first 0x60 ≡ b →
          ((c' : Counts) (requests' place' : ℕ) (bytes' : List ℕ) → Ends (λ e. Z e.code) Anything (form_requests fuel c' requests' place' bytes')) →
          Ends (λ e. Z e.code) Anything (form_requests (suc fuel) c requests place (first ∷ bytes))
      go true e ih = rw (e, form_requests) (next _ (form_build-ends z requests place bytes) λ b _. well tt)
      go false e ih =
          rw
          (e, form_requests)
          (next _ (at_record-ends place (form_request-ends z c first bytes)) λ r _.
          next _ (ih c (suc requests) (suc place) r.1) λ rest _. well tt)

  pub form-early : (bytes : List ℕ) → Ends (λ e. Z e.code) Anything (form bytes)
  unfolding form
  form-early bytes =
      next _ (form_definitions-early (length bytes) _ 0 bytes) λ d _.
      next _ (form_requests-early (length bytes) d.counts 0 (suc (length d.list)) d.rest) λ r _. well tt
