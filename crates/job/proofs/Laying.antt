-- The records of a job that the form pass accepts stand one behind the other. Assumes nothing.
use mathlib.Core.Bool.{Bool, true, false}
use mathlib.Core.List.{List, [], ◌∷◌}
use mathlib.Core.Option.{some}
use mathlib.Core.Path.{◌≡◌, refl, sym, ap, subst, ◌∙◌}
use Prim.Native.Nat.{ℕ, zero, suc, ◌<◌}
use native.Mathlib.Numerals.{add-one}
use native.Mathlib.Omega.{arith}
use lib.Dec.{eqb}
use lib.ListN.{length, drop, get_elem?}
use borrow.Author.Tests.{eqb-true}
use Rattle.definition.specs.Basics.{good, at_record, unless, lookup}
use Rattle.definition.specs.Bytes.{Parser, ◌>>=◌, one}
use Rattle.definition.specs.Job.{Build, Job, asks, read_request, read_build}
use Rattle.definition.specs.Form.{Counts, nothing_yet, counted, whole, cites, cites_request, Definitions, form_definitions, form_request, nothing_behind, form_build, Requests, form_requests, form}
use Rattle.laws.proofs.Form.DefinitionsRead.{formed_end, formed_step}
use Rattle.facts.proofs.Lists.{true≢false, front}
use Rattle.facts.proofs.Results.{bad≢good, good_inj, good_then, at_record-good, unless-good, whole-good, decided}
use Rattle.job.specs.Stored.{Found, InTurn, formed_definition, any_definition, any_request, Laid}
use Rattle.job.proofs.Expressions.{formed_stands}
use Rattle.job.proofs.Taking.{Takes, takes_definition, takes_request, finds}

no_bytes-left : (l : List ℕ) → nothing_behind l ≡ true → l ≡ []
unfolding nothing_behind
no_bytes-left [] e = refl
no_bytes-left (b ∷ l) e = true≢false (sym e)

module _ (s : List ℕ) where
  -- values in turn, up to a byte that ends them
  abbrev Ended : {A : Type 0} → Parser A → ℕ → ℕ → List A → List ℕ → Type 0
  Ended p at last list rest = (end : ℕ) × InTurn p s at list end × (get_elem? s end ≡ some last) × (end < length s) × (rest ≡ drop (suc end) s)

  ended_now : {A : Type 0} (p : Parser A) (at last b : ℕ) (l : List ℕ) → b ∷ l ≡ drop at s → eqb b last ≡ true → Ended p at last [] l
  ended_now p at last b l same t =
      let g = front s at b l same in
      (at, refl, g.0 ∙ ap some (eqb-true b last t), g.1, g.2)

  -- what a first byte and the bytes behind it are read as stands at their place
  stands_first :
      {A : Type 0} (f : ℕ → Parser A) → Takes 1 (one >>= f) → (at b : ℕ) (l : List ℕ) (x : A) (left : List ℕ) →
      b ∷ l ≡ drop at s →
      f b l ≡ some (x, left) →
      (next : ℕ) × (left ≡ drop next s) × Found (one >>= f) s at x next
  unfolding one
  stands_first f t at b l x left same e =
      let g = front s at b l same in
      finds s at (one >>= f) t (omega arith) x left (rw (← same) e)

  -- one more in front
  ended_later :
      {A : Type 0} (p : Parser A) (at last : ℕ) (x : A) (next : ℕ) (list : List A) (rest : List ℕ) →
      Found p s at x next →
      Ended p next last list rest →
      Ended p at last (x ∷ list) rest
  ended_later p at last x next list rest f j = (j.0, (next, f, j.1), j.2, j.3, j.4)

  definitions_laid :
      (fuel : ℕ) (n : Counts) (place at : ℕ) (l : List ℕ) (d : Definitions) →
      l ≡ drop at s →
      form_definitions fuel n place l ≡ good d →
      Ended any_definition at 0x50 d.list d.rest
  unfolding form_definitions
  definitions_laid zero n place at [] d same e = bad≢good e
  definitions_laid zero n place at (first ∷ l) d same e = bad≢good e
  definitions_laid (suc fuel) n place at [] d same e = bad≢good e
  definitions_laid (suc fuel) n place at (first ∷ l) d same e = ways (eqb first 0x50) refl (definitions_laid fuel)
    where
      Laying : ℕ → Type 0
      Laying fuel =
          (n : Counts) (place at : ℕ) (l : List ℕ) (d : Definitions) → l ≡ drop at s → form_definitions fuel n place l ≡ good d →
          Ended any_definition at 0x50 d.list d.rest

      ways : (b : Bool) → eqb first 0x50 ≡ b → Laying fuel → Ended any_definition at 0x50 d.list d.rest
      ways true t later =
          subst (λ x. Ended any_definition at 0x50 x.list x.rest) (sym (formed_end fuel n place first l d t e)) (ended_now any_definition at 0x50 first l same t)
      ways false t later =
          let g = formed_step fuel n place first l d t e in
          let h = stands_first formed_definition takes_definition at first l g.0.0 g.0.1 same (formed_stands first l n g.0 g.2) in
          subst (λ x. Ended any_definition at 0x50 x.list x.rest) (sym g.4)
          (ended_later any_definition at 0x50 g.0.0 h.0 g.1.list g.1.rest h.2
          (later (counted g.0.0 n) (suc place) h.0 g.0.1 g.1 h.1 g.3))

  -- 60, and nothing behind it
  build-laid : (requests place : ℕ) (l : List ℕ) (b : Build) → form_build requests place l ≡ good b → read_build l ≡ some (b, [])
  unfolding form_build nothing_behind
  build-laid requests place l b e =
      good_then (at_record place (whole (read_build l))) _ b e λ r wholly e₁.
      good_then (at_record place (unless (cites_request requests r.0.class) 4)) _ b e₁ λ _ _ e₂.
      good_then (at_record (suc place) (unless (nothing_behind r.1) 3)) _ b e₂ λ u empty e₃.
      let read = whole-good (read_build l) r (at_record-good place (whole (read_build l)) r wholly) in
      let none = no_bytes-left r.1 (unless-good (nothing_behind r.1) 3 u (at_record-good (suc place) (unless (nothing_behind r.1) 3) u empty)) in
      read ∙ rw (good_inj e₃, none)

  requests_laid :
      (fuel : ℕ) (n : Counts) (requests place at : ℕ) (l : List ℕ) (d : Requests) →
      l ≡ drop at s →
      form_requests fuel n requests place l ≡ good d →
      (rest : List ℕ) × Ended any_request at 0x60 d.list rest × (read_build rest ≡ some (d.build, []))
  unfolding form_requests form_request
  requests_laid zero n requests place at [] d same e = bad≢good e
  requests_laid zero n requests place at (first ∷ l) d same e = bad≢good e
  requests_laid (suc fuel) n requests place at [] d same e = bad≢good e
  requests_laid (suc fuel) n requests place at (first ∷ l) d same e =
      decided
      (eqb first 0x60)
      _
      _
      (good d)
      e
      (λ t e.
      good_then (form_build requests place l) _ d e λ b here e₁.
      let is : record { list = []; build = b } ≡ d = cc in
      subst (λ x. (rest : List ℕ) × Ended any_request at 0x60 x.list rest × (read_build rest ≡ some (x.build, []))) is
      (l, ended_now any_request at 0x60 first l same t, build-laid requests place l b here))
      (λ t e.
      good_then (at_record place (form_request n first l)) _ d e λ r here e₁.
      good_then (form_requests fuel n (suc requests) (suc place) r.1) _ d e₁ λ d' there e₂.
      good_then (whole (read_request (lookup first asks) l)) _ r (at_record-good place (form_request n first l) r here) λ x wholly e₃.
      good_then (unless (cites n x.0.what) 4) _ r e₃ λ _ _ e₄.
      let read = whole-good (read_request (lookup first asks) l) x wholly ∙ ap some (good_inj e₄) in
      let is : record { list = r.0 ∷ d'.list; build = d'.build } ≡ d = cc in
      let h = stands_first (λ first. read_request (lookup first asks)) takes_request at first l r.0 r.1 same read in
      let g = requests_laid fuel n (suc requests) (suc place) h.0 r.1 d' h.1 there in
      subst (λ x. (rest : List ℕ) × Ended any_request at 0x60 x.list rest × (read_build rest ≡ some (x.build, []))) is
      (g.0, ended_later any_request at 0x60 r.0 h.0 d'.list g.0 h.2 g.1, g.2))

  -- what form accepts is laid so
  pub form-laid : (job : Job (List ℕ)) → form s ≡ good job → Laid s job
  unfolding form
  form-laid job e =
      good_then (form_definitions (length s) nothing_yet 0 s) _ job e λ d here e₁.
      good_then (form_requests (length s) d.counts 0 (suc (length d.list)) d.rest) _ job e₁ λ r there e₂.
      let g = definitions_laid (length s) nothing_yet 0 0 s d refl here in
      let h = requests_laid (length s) d.counts 0 (suc (length d.list)) (suc g.0) d.rest r g.4 there in
      let is : record { definitions = d.list; requests = r.list; build = r.build } ≡ job = cc in
      subst
      (Laid s)
      is
      (record {
        fifty = g.0;
        definitions = g.1;
        is_fifty = g.2;
        sixty = h.1.0;
        requests = rw (add-one g.0) h.1.1;
        is_sixty = h.1.2;
        build = rw (add-one h.1.0, ← h.1.4) h.2;
      })
