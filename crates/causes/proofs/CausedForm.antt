-- A job that is well formed has no cause of 3, 4, 5, 22, 23, 25 or 26: the form pass comes to each record that stands, and passes it. Assumes nothing.
use mathlib.Core.Bool.{true, false, ◌&&◌}
use mathlib.Core.List.{List, [], ◌∷◌, ◌++◌, append_assoc, append-nil}
use mathlib.Core.Logic.{inl, inr, ⊎_elim, ◌≢◌}
use mathlib.Core.Option.{Option, none, some}
use mathlib.Core.Path.{◌≡◌, refl, sym, ap, subst, ◌∙◌}
use Prim.Native.Nat.{ℕ, zero, suc, ◌+◌, ◌-◌, ◌<◌, ◌≤◌}
use native.Mathlib.Omega.{arith}
use lib.Dec.{eqb, leb}
use lib.ListN.{length}
use borrow.Author.Tests.{eq-eqb, ne_eqb, ltb-true, eqb-true, leb-true}
use Rattle.definition.specs.Basics.{good, at_record, unless, lookup}
use Rattle.definition.specs.Bytes.{and_then}
use Rattle.definition.specs.Shapes.{Entry}
use Rattle.definition.specs.Job.{Reference, Definition, define, setting, Request, Build, Job, read_body, read_definition, asks, read_request, read_build}
use Rattle.definition.specs.Expression.{Expression, read_expression}
use Rattle.definition.specs.Settings.{Setting, version, texts, highest, is_slot}
use Rattle.definition.specs.Form.{Counts, count_of, kind_of, counted, whole, may_stand, texts_held, has_room, cites, cites_earlier, comes_out, cites_request, form_definition, Definitions, form_definitions, form_request, nothing_behind, form_build, Requests, form_requests, form}
use Rattle.facts.specs.Lists.{Among}
use Rattle.facts.proofs.Lists.{clash, none≢some, some_inj, both_true}
use Rattle.facts.proofs.Each.{Each}
use Rattle.facts.proofs.Outcomes.{when_good}
use Rattle.facts.proofs.Results.{bad≢good, good_then, at_record-good, unless-good, whole-good}
use Rattle.laws.specs.Statements.{IsBytes}
use Rattle.laws.specs.Counted.{count_in}
use Rattle.causes.specs.ExpressionFaults.{HasLeaf, depth, DividesByZero, ComesOut}
use Rattle.causes.specs.CauseStatement.{Misplaced, FirstNoText, misplaced, no_highest, bad_byte, mixed, too_deep, by_zero, no_text, Stand, none_yet_lem, one_more_lem, StandAsked, none_asked, one_asked, NoDefinition, NoRequest, FormCause, unread_definition, table_full, no_entry, unread_request, no_entry_asked, unread_build, no_request_cited, bytes_behind}
use Rattle.laws.proofs.Form.ParsersYield.{Byte, each_byte}
use Rattle.laws.proofs.Form.DefinitionsRead.{no_entries, formed_read, formed_end, formed_step}
use Rattle.causes.proofs.ExpressionsJudged.{no_bad_byte, a_leaf_lem, Faults, comes_cause}
use Rattle.causes.proofs.CauseForm.{Counted, counted-snoc, nothing_counted, empty, BrokenAt, Noted, noted_snoc, nothing_noted, snoc_length, stand_length, asked_length, all_cited, cited_there, class_cited}

-- ---- one record passed

no_faults : (left : List ℕ) → Faults (λ _. Unit {0}) left
no_faults left = record { byte = λ _. tt; kinds = λ _ _ _ _. tt; nested = λ _ _ _ _. tt; divided = λ _ _ _ _ _ _ _. tt }

record Passed (n : Counts) (first : ℕ) (left : List ℕ) (x : Definition (List ℕ)) : Type 0 where
  stands : may_stand n x ≡ good tt
  room : has_room n x ≡ true
  cited : cites_earlier n x ≡ true
  comes : first ≡ 0x46 → ComesOut left

passed :
    (n : Counts) (first : ℕ) (left : List ℕ) (r : Definition (List ℕ) × List ℕ) → form_definition n first left ≡ good r → Passed n first left r.0
unfolding form_definition
passed n first left r e =
    good_then (whole (read_definition first left)) _ r e λ x h e₁.
    good_then (may_stand n x.0) _ r e₁ λ s stands e₂.
    good_then (unless (has_room n x.0) 5) _ r e₂ λ u room e₃.
    good_then (unless (cites_earlier n x.0) 4) _ r e₃ λ v cited e₄.
    good_then (comes_out first left) _ r e₄ λ w comes e₅.
    let same : x ≡ r = cc in
    subst (λ (y : Definition (List ℕ) × List ℕ). Passed n first left y.0) same
    (record {
      stands = stands;
      room = unless-good (has_room n x.0) 5 u room;
      cited = unless-good (cites_earlier n x.0) 4 v cited;
      comes = when_good (comes_cause {Z = λ _. Unit {0}} first left x.0 x.1 (whole-good (read_definition first left) x h) (λ _. no_faults left)) comes;
    })

-- and its texts were held
held-there :
    (fuel : ℕ) (n : Counts) (place first : ℕ) (left : List ℕ) (d : Definitions) → eqb first 0x50 ≡ false →
    form_definitions (suc fuel) n place (first ∷ left) ≡ good d →
    (r : Definition (List ℕ) × List ℕ) × (form_definition n first left ≡ good r) × (texts_held (counted r.0 n) ≡ good tt)
unfolding form_definitions
held-there fuel n place first left d s e =
    good_then (at_record place (form_definition n first left)) _ d (rw (s, form_definitions) at e) λ r h e₁.
    good_then (texts_held (counted r.0 n)) _ d e₁ λ u held e₂.
    (r, at_record-good place (form_definition n first left) r h, held)

-- ---- what passed isn't a cause

module _ (n : Counts) (ds : List (Definition (List ℕ))) (noted : Noted n ds) where
  stands_refuted : (s : Setting) → may_stand n (setting s) ≡ good tt → Misplaced ds s → ⊥
  unfolding may_stand
  stands_refuted (version v) e (w, a) =
      noted.versions_are.unseen (eqb-true n.versions 0 (unless-good (eqb n.versions 0) 3 tt e)) (setting (version w)) a (w, refl)
  stands_refuted texts e a = noted.texts_are.unseen (eqb-true n.texts 0 (unless-good (eqb n.texts 0) 3 tt e)) (setting texts) a refl
  stands_refuted (highest top) e isnt =
      good_then (unless (eqb n.records 0) 3) _ tt e λ u first e₁.
      isnt (empty ds (sym noted.records-are ∙ eqb-true n.records 0 (unless-good (eqb n.records 0) 3 u first)))

  held-refuted : (q : ℕ) → texts_held n ≡ good tt → Among (setting texts) ds → FirstNoText ds q → ⊥
  unfolding texts_held
  held-refuted q e a t = go n.broken refl noted.broken_is
    where
      go : (o : Option ℕ) → n.broken ≡ o → BrokenAt n.broken ds → ⊥
      go none p b = subst (λ o. BrokenAt o ds) p b t.text (q, t.there) t.is
      go (some k) p b =
          let h = at_record-good k (unless (eqb n.texts 0) 25) tt (rw (p, texts_held) at e) in
          noted.texts_are.unseen (eqb-true n.texts 0 (unless-good (eqb n.texts 0) 25 tt h)) (setting texts) a refl

slot-passed : (n : Counts) (top : ℕ) → may_stand n (setting (highest top)) ≡ good tt → (1 ≤ top) × (top ≤ 65534)
unfolding may_stand is_slot
slot-passed n top e =
    good_then (unless (eqb n.records 0) 3) _ tt e λ u first e₁.
    let both = both_true (leb 1 top) (leb top 65534) (unless-good (leb 1 top && leb top 65534) 26 tt e₁) in
    (leb-true 1 top both.0, leb-true top 65534 both.1)

one-reading :
    (left : List ℕ) (x : Expression) (rest : List ℕ) (y : Expression) (more : List ℕ) → read_expression left ≡ some (some x, rest) →
    read_expression left ≡ some (some y, more) → x ≡ y
one-reading left x rest y more e f = some_inj (ap (λ (r : Option Expression × List ℕ). r.0) (some_inj (sym e ∙ f)))

nothing_read : (fuel : ℕ) (n : Counts) (place : ℕ) (d : Definitions) → form_definitions fuel n place [] ≡ good d → ⊥
unfolding form_definitions
nothing_read zero n place d e = bad≢good e
nothing_read (suc fuel) n place d e = bad≢good e

unread_here : (first : ℕ) (left : List ℕ) (r : Definition (List ℕ) × List ℕ) → NoDefinition (first ∷ left) → read_definition first left ≡ some r → ⊥
unfolding read_definition read_body
unread_here first left r (ne, inl e, _) h = none≢some (sym (ap (λ o. read_body first o left) e) ∙ h)
unread_here first left r (ne, inr (b, e, q), _) h = none≢some (sym q ∙ sym (ap (λ o. read_body first o left) e) ∙ h)

nothing_asked : (fuel : ℕ) (n : Counts) (k place : ℕ) (r : Requests) → form_requests fuel n k place [] ≡ good r → ⊥
unfolding form_requests
nothing_asked zero n k place r e = bad≢good e
nothing_asked (suc fuel) n k place r e = bad≢good e

request_step :
    (fuel : ℕ) (n : Counts) (k place first : ℕ) (left : List ℕ) (r : Requests) →
    eqb first 0x60 ≡ false →
    form_requests (suc fuel) n k place (first ∷ left) ≡ good r →
    (q : Request × List ℕ) × (r' : Requests) × (form_request n first left ≡ good q) × (form_requests fuel n (suc k) (suc place) q.1 ≡ good r')
unfolding form_requests
request_step fuel n k place first left r s e =
    good_then (at_record place (form_request n first left)) _ r (rw (s, form_requests) at e) λ q h e₁.
    good_then (form_requests fuel n (suc k) (suc place) q.1) _ r e₁ λ r' h' e₂.
    (q, r', at_record-good place (form_request n first left) q h, h')

build-step :
    (fuel : ℕ) (n : Counts) (k place first : ℕ) (left : List ℕ) (r : Requests) →
    eqb first 0x60 ≡ true →
    form_requests (suc fuel) n k place (first ∷ left) ≡ good r →
    (b : Build) × (form_build k place left ≡ good b)
unfolding form_requests
build-step fuel n k place first left r s e = good_then (form_build k place left) _ r (rw (s, form_requests) at e) λ b h e₁. (b, h)

request_passed :
    (n : Counts) (first : ℕ) (left : List ℕ) (q : Request × List ℕ) →
    form_request n first left ≡ good q →
    (read_request (lookup first asks) left ≡ some q) × (cites n q.0.what ≡ true)
unfolding form_request
request_passed n first left q e =
    good_then (whole (read_request (lookup first asks) left)) _ q e λ x h e₁.
    good_then (unless (cites n x.0.what) 4) _ q e₁ λ u cited e₂.
    let same : x ≡ q = cc in
    subst (λ (y : Request × List ℕ). (read_request (lookup first asks) left ≡ some y) × (cites n y.0.what ≡ true)) same
    (whole-good (read_request (lookup first asks) left) x h, unless-good (cites n x.0.what) 4 u cited)

build-passed :
    (k place : ℕ) (left : List ℕ) (b : Build) →
    form_build k place left ≡ good b →
    (r : Build × List ℕ) × (read_build left ≡ some r) × (cites_request k r.0.class ≡ true) × (nothing_behind r.1 ≡ true)
unfolding form_build
build-passed k place left b e =
    good_then (at_record place (whole (read_build left))) _ b e λ r h e₁.
    good_then (at_record place (unless (cites_request k r.0.class) 4)) _ b e₁ λ u cited e₂.
    good_then (at_record (suc place) (unless (nothing_behind r.1) 3)) _ b e₂ λ v end e₃. (
      r,
      whole-good (read_build left) r (at_record-good place (whole (read_build left)) r h),
      unless-good (cites_request k r.0.class) 4 u (at_record-good place (unless (cites_request k r.0.class) 4) u cited),
      unless-good (nothing_behind r.1) 3 v (at_record-good (suc place) (unless (nothing_behind r.1) 3) v end),
    )

unread_asked : (first : ℕ) (left : List ℕ) (q : Request × List ℕ) → NoRequest (first ∷ left) → read_request (lookup first asks) left ≡ some q → ⊥
unfolding read_request
unread_asked first left q (ne, inl e) h = none≢some (sym (ap (λ o. read_request o left) e) ∙ h)
unread_asked first left q (ne, inr (ldc, e, r)) h =
    none≢some (sym (ap (λ o. and_then o (λ (x : Reference) (rest : List ℕ). some (record { ldc = ldc; what = x }, rest))) r) ∙ sym (ap (λ o. read_request o left) e) ∙ h)

-- ---- the form pass comes to each record that stands

module _
    (bytes : List ℕ)
    (are : Each Byte bytes)
    (d : Definitions)
    (r : Requests)
    (read : form_definitions (length bytes) no_entries 0 bytes ≡ good d)
    (asked : form_requests (length bytes) d.counts 0 (suc (length d.list)) d.rest ≡ good r) where
  -- what is left to do there
  abbrev Going : List (Definition (List ℕ)) → List ℕ → Counts → Type 0
  Going ds left n =
      (fuel : ℕ) → fuel + length ds ≡ length bytes →
      (d' : Definitions) × (form_definitions fuel n (length ds) left ≡ good d') × (d.list ≡ ds ++ d'.list) × (d.counts ≡ d'.counts) × (d.rest ≡ d'.rest)

  stand_going : {ds : List (Definition (List ℕ))} {left : List ℕ} → Stand bytes ds left → (n : Counts) × Counted n ds × Noted n ds × Going ds left n
  stand_going none_yet_lem = (
    no_entries,
    nothing_counted,
    nothing_noted,
    λ fuel e.
        let same : length bytes ≡ fuel = omega (arith, e) in
        (d, subst (λ f. form_definitions f no_entries 0 bytes ≡ good d) same read, refl, refl, refl),
  )
  stand_going (one_more_lem ds first left x rest st ne here stands place cited comes held) =
      let (n, c, k, go) = stand_going st in
      (counted x n, counted-snoc n ds x c, noted_snoc n ds x k, λ fuel e. more n go fuel (omega (arith, e, snoc_length ds x)))
    where
      more :
          (n : Counts) → Going ds (first ∷ left) n → (fuel : ℕ) → suc fuel + length ds ≡ length bytes →
          (d' : Definitions) × (form_definitions fuel (counted x n) (length (ds ++ x ∷ [])) rest ≡ good d')
          × (d.list ≡ (ds ++ x ∷ []) ++ d'.list) × (d.counts ≡ d'.counts) × (d.rest ≡ d'.rest)
      more n go fuel e =
          let (d₁, f, l, k, t) = go (suc fuel) e in
          let (y, d₂, g, h, same) = formed_step fuel n (length ds) first left d₁ (ne_eqb first 0x50 ne) f in
          let q : y ≡ (x, rest) = some_inj (sym (formed_read n first left y g) ∙ here) in
          let lists : d₁.list ≡ x ∷ d₂.list = ap (λ (z : Definitions). z.list) same ∙ ap (λ (z : Definition (List ℕ) × List ℕ). z.0 ∷ d₂.list) q in (
            d₂,
            subst (λ p. form_definitions fuel (counted x n) p rest ≡ good d₂) (sym (snoc_length ds x))
                (subst (λ (z : Definition (List ℕ) × List ℕ). form_definitions fuel (counted z.0 n) (suc (length ds)) z.1 ≡ good d₂) q h),
            l ∙ ap (λ l. ds ++ l) lists ∙ sym (append_assoc ds (x ∷ []) d₂.list),
            k ∙ ap (λ (z : Definitions). z.counts) same,
            t ∙ ap (λ (z : Definitions). z.rest) same,
          )

  -- behind 50
  abbrev Asking : List (Definition (List ℕ)) → List Request → List ℕ → Counts → Type 0
  Asking ds qs left n =
      (fuel : ℕ) → fuel + length qs ≡ length bytes → (r' : Requests) × (form_requests fuel n (length qs) (suc (length ds) + length qs) left ≡ good r')

  asked_going : {ds : List (Definition (List ℕ))} {qs : List Request} {left : List ℕ} → StandAsked bytes ds qs left → (n : Counts) × Counted n ds × Asking ds qs left n
  asked_going {ds} (none_asked left st) =
      let (n, c, k, go) = stand_going st in
      let l = (stand_length bytes are st).0 in
      let (d₁, f, list, counts, rest) = go (suc (length bytes - suc (length ds))) (omega (arith, l)) in
      let same = formed_end (length bytes - suc (length ds)) n (length ds) 0x50 left d₁ (eq-eqb 0x50 0x50 refl) f in
      let list₁ : d.list ≡ ds = list ∙ ap (λ (z : Definitions). ds ++ z.list) same ∙ append-nil ds in
      let counts₁ : d.counts ≡ n = counts ∙ ap (λ (z : Definitions). z.counts) same in
      let rest₁ : d.rest ≡ left = rest ∙ ap (λ (z : Definitions). z.rest) same in (
        n,
        c,
        λ fuel e.
            let all : length bytes ≡ fuel = omega (arith, e) in
            let place : suc (length ds) ≡ suc (length ds) + 0 = omega arith in (
              r,
              subst (λ p. form_requests fuel n 0 p left ≡ good r) place
                  (subst (λ f. form_requests f n 0 (suc (length ds)) left ≡ good r) all
                  (subst (λ t. form_requests (length bytes) n 0 (suc (length ds)) t ≡ good r) rest₁
                  (subst (λ n. form_requests (length bytes) n 0 (suc (length ds)) d.rest ≡ good r) counts₁
                  (subst (λ l. form_requests (length bytes) d.counts 0 (suc (length l)) d.rest ≡ good r) list₁ asked)))),
            ),
      )
  asked_going {ds} (one_asked qs first left q rest st ne here cited) =
      let (n, c, go) = asked_going st in
      (n, c, λ fuel e. more n go fuel (omega (arith, e, snoc_length qs q)))
    where
      more :
          (n : Counts) → Asking ds qs (first ∷ left) n → (fuel : ℕ) → suc fuel + length qs ≡ length bytes →
          (r' : Requests) × (form_requests fuel n (length (qs ++ q ∷ [])) (suc (length ds) + length (qs ++ q ∷ [])) rest ≡ good r')
      more n go fuel e =
          let (r₁, f) = go (suc fuel) e in
          let (y, r₂, g, h) = request_step fuel n (length qs) (suc (length ds) + length qs) first left r₁ (ne_eqb first 0x60 ne) f in
          let p : y ≡ (q, rest) = some_inj (sym (request_passed n first left y g).0 ∙ here) in
          let place : suc (suc (length ds) + length qs) ≡ suc (length ds) + length (qs ++ q ∷ []) = omega (arith, snoc_length qs q) in (
            r₂,
            subst (λ p. form_requests fuel n (length (qs ++ q ∷ [])) p rest ≡ good r₂) place
                (subst (λ k. form_requests fuel n k (suc (suc (length ds) + length qs)) rest ≡ good r₂) (sym (snoc_length qs q))
                (subst (λ (z : Request × List ℕ). form_requests fuel n (suc (length qs)) (suc (suc (length ds) + length qs)) z.1 ≡ good r₂) p h)),
          )

  -- ---- so none of it is a cause

  definition_there :
      {ds : List (Definition (List ℕ))} {left : List ℕ} (first : ℕ) →
      Stand bytes ds (first ∷ left) →
      first ≢ 0x50 →
      (n : Counts) × Counted n ds × Noted n ds
      × ((y : Definition (List ℕ) × List ℕ) × (form_definition n first left ≡ good y) × (texts_held (counted y.0 n) ≡ good tt))
  definition_there {ds} {left} first st ne =
      let (n, c, k, go) = stand_going st in
      let l = (stand_length bytes are st).0 in
      let (d₁, f, _, _, _) = go (suc (length bytes - suc (length ds))) (omega (arith, l)) in
      (n, c, k, held-there (length bytes - suc (length ds)) n (length ds) first left d₁ (ne_eqb first 0x50 ne) f)

  request_there :
      {ds : List (Definition (List ℕ))} {qs : List Request} {left : List ℕ} (first : ℕ) →
      StandAsked bytes ds qs (first ∷ left) →
      first ≢ 0x60 →
      (n : Counts) × Counted n ds × ((y : Request × List ℕ) × (form_request n first left ≡ good y))
  request_there {ds} {qs} {left} first st ne =
      let (n, c, go) = asked_going st in
      let l = (asked_length bytes are st).0 in
      let (r₁, f) = go (suc (length bytes - suc (length qs))) (omega (arith, l)) in
      let (y, _, g, _) = request_step (length bytes - suc (length qs)) n (length qs) (suc (length ds) + length qs) first left r₁ (ne_eqb first 0x60 ne) f in
      (n, c, (y, g))

  build-there :
      {ds : List (Definition (List ℕ))} {qs : List Request} {left : List ℕ} →
      StandAsked bytes ds qs (0x60 ∷ left) →
      (y : Build × List ℕ) × (read_build left ≡ some y) × (cites_request (length qs) y.0.class ≡ true) × (nothing_behind y.1 ≡ true)
  build-there {ds} {qs} {left} st =
      let (n, c, go) = asked_going st in
      let l = (asked_length bytes are st).0 in
      let (r₁, f) = go (suc (length bytes - suc (length qs))) (omega (arith, l)) in
      let (b, g) = build-step (length bytes - suc (length qs)) n (length qs) (suc (length ds) + length qs) 0x60 left r₁ (eq-eqb 0x60 0x60 refl) f in
      build-passed (length qs) (suc (length ds) + length qs) left b g

  unread_refuted : (ds : List (Definition (List ℕ))) (left : List ℕ) → Stand bytes ds left → NoDefinition left → ⊥
  unread_refuted ds [] st h =
      let (n, c, k, go) = stand_going st in
      let (d₁, f, _, _, _) = go (length bytes - length ds) (omega (arith, (stand_length bytes are st).0)) in
      nothing_read (length bytes - length ds) n (length ds) d₁ f
  unread_refuted ds (first ∷ left) st h =
      let (n, c, k, (y, g, held)) = definition_there first st h.0 in
      unread_here first left y h (formed_read n first left y g)

  unasked_refuted : (ds : List (Definition (List ℕ))) (qs : List Request) (left : List ℕ) → StandAsked bytes ds qs left → NoRequest left → ⊥
  unasked_refuted ds qs [] st h =
      let (n, c, go) = asked_going st in
      let (r₁, f) = go (length bytes - length qs) (omega (arith, (asked_length bytes are st).0)) in
      nothing_asked (length bytes - length qs) n (length qs) (suc (length ds) + length qs) r₁ f
  unasked_refuted ds qs (first ∷ left) st h =
      let (n, c, (y, g)) = request_there first st h.0 in
      unread_asked first left y h (request_passed n first left y g).0

  room_there : (ds : List (Definition (List ℕ))) (n : Counts) → Counted n ds → (e : Entry (List ℕ) Reference) → has_room n (define e) ≡ true → count_in (kind_of e.tag) ds < 65536
  unfolding has_room
  room_there ds n c e t = omega (arith, c (kind_of e.tag), ltb-true (count_of (kind_of e.tag) n) 65536 t)

  -- the expression of a 46 that stands comes to a constant
  comes_there : {ds : List (Definition (List ℕ))} {left : List ℕ} → Stand bytes ds (0x46 ∷ left) → ComesOut left
  comes_there {left} st =
      let (n, c, k, (y, g, held)) = definition_there 0x46 st (λ q. clash (omega arith)) in
      (passed n 0x46 left y g).comes refl

  form-refuted : {code place : ℕ} → FormCause bytes code place → ⊥
  unfolding nothing_behind
  form-refuted (unread_definition ds left st h) = unread_refuted ds left st h
  form-refuted (table_full ds first left e rest st ne here full) =
      let (n, c, k, (y, g, held)) = definition_there first st ne in
      let q : y ≡ (define e, rest) = some_inj (sym (formed_read n first left y g) ∙ here) in
      let room : has_room n (define e) ≡ true = subst (λ (z : Definition (List ℕ) × List ℕ). has_room n z.0 ≡ true) q (passed n first left y g).room in
      omega (arith, room_there ds n c e room, full)
  form-refuted (no_entry ds first left x rest kind m st ne here stands place cite full) =
      let (n, c, k, (y, g, held)) = definition_there first st ne in
      let q : y ≡ (x, rest) = some_inj (sym (formed_read n first left y g) ∙ here) in
      let cited : cites_earlier n x ≡ true = subst (λ (z : Definition (List ℕ) × List ℕ). cites_earlier n z.0 ≡ true) q (passed n first left y g).cited in
      omega (arith, all_cited bytes are n ds c k first left st ne x cited kind m cite, full)
  form-refuted (misplaced ds first left s rest st ne here wrong) =
      let (n, c, k, (y, g, held)) = definition_there first st ne in
      let q : y ≡ (setting s, rest) = some_inj (sym (formed_read n first left y g) ∙ here) in
      let p = subst (λ (z : Definition (List ℕ) × List ℕ). Passed n first left z.0) q (passed n first left y g) in
      stands_refuted n ds k s p.stands wrong
  form-refuted (no_highest first left top rest st ne here wrong) =
      let (n, c, k, (y, g, held)) = definition_there first st ne in
      let q : y ≡ (setting (highest top), rest) = some_inj (sym (formed_read n first left y g) ∙ here) in
      let p = subst (λ (z : Definition (List ℕ) × List ℕ). Passed n first left z.0) q (passed n first left y g) in
      let slot = slot-passed n top p.stands in
      ⊎_elim (λ e. absurd (omega arith)) (λ e. absurd (omega arith)) wrong
  form-refuted (bad_byte ds left st room wrong) =
      let c = comes_there st in
      no_bad_byte left c.parts c.rest c.is_read wrong
  form-refuted (mixed ds left x rest k l st room here h g apart) =
      let c = comes_there st in
      let same = one-reading left x rest c.parts c.rest here c.is_read in
      apart (c.is_of_kind k (subst (HasLeaf k) same h) ∙ sym (c.is_of_kind l (subst (HasLeaf l) same g)))
  form-refuted (too_deep ds left x rest st room here wrong) =
      let c = comes_there st in
      let same = one-reading left x rest c.parts c.rest here c.is_read in
      omega (arith, ap depth same, c.is_nested, wrong)
  form-refuted (by_zero ds left x rest kind st room here all low wrong) =
      let c = comes_there st in
      let same = one-reading left x rest c.parts c.rest here c.is_read in
      let (k, h) = a_leaf_lem x in
      let kinds : kind ≡ c.kind = sym (all k h) ∙ c.is_of_kind k (subst (HasLeaf k) same h) in
      c.is_divided (subst (λ k. DividesByZero k c.parts) kinds (subst (DividesByZero kind) same wrong))
  form-refuted (no_text ds first left x rest q st ne here stands place cited comes among wrong) =
      let (n, c, k, (y, g, held)) = definition_there first st ne in
      let p : y ≡ (x, rest) = some_inj (sym (formed_read n first left y g) ∙ here) in
      held-refuted (counted x n) (ds ++ x ∷ []) (noted_snoc n ds x k) q
      (subst (λ (z : Definition (List ℕ) × List ℕ). texts_held (counted z.0 n) ≡ good tt) p held) among wrong
  form-refuted (unread_request ds qs left st h) = unasked_refuted ds qs left st h
  form-refuted (no_entry_asked ds qs first left q rest kind m st ne here cite full) =
      let (n, c, (y, g)) = request_there first st ne in
      let h = request_passed n first left y g in
      let p : y ≡ (q, rest) = some_inj (sym h.0 ∙ here) in
      omega (arith, cited_there bytes are n ds c q.what kind m (subst (λ (z : Request × List ℕ). cites n z.0.what ≡ true) p h.1) cite, full)
  form-refuted (unread_build ds qs left st here) = none≢some (sym here ∙ (build-there st).1)
  form-refuted (no_request_cited ds qs left b rest m st here cite few) =
      let (y, read₁, cited, end) = build-there st in
      let p : y ≡ (b, rest) = some_inj (sym read₁ ∙ here) in
      let (n, c, go) = asked_going st in
      omega (arith, class_cited bytes are n ds c (length qs) b.class m (subst (λ (z : Build × List ℕ). cites_request (length qs) z.0.class ≡ true) p cited) cite, few)
  form-refuted (bytes_behind ds qs left b more rest st here cite) =
      let (y, read₁, cited, end) = build-there st in
      let p : y ≡ (b, more ∷ rest) = some_inj (sym read₁ ∙ here) in
      let e : nothing_behind (more ∷ rest) ≡ true = subst (λ (z : Build × List ℕ). nothing_behind z.1 ≡ true) p end in
      clash (cc)

-- a well-formed job has no such cause
pub form_refuted : (bytes : List ℕ) (job : Job (List ℕ)) → IsBytes bytes → form bytes ≡ good job → {code place : ℕ} → FormCause bytes code place → ⊥
unfolding form
form_refuted bytes job are formed c =
    good_then (form_definitions (length bytes) no_entries 0 bytes) _ job formed λ d here e₁.
    good_then (form_requests (length bytes) d.counts 0 (suc (length d.list)) d.rest) _ job e₁ λ r there e₂.
    form-refuted bytes (each_byte bytes are) d r here there c
