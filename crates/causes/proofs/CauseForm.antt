-- The cause of 3, 4, 5, 22, 23, 25 and 26: the records before stand, and the one in turn can't, or a text among them with it. Assumes nothing.
use mathlib.Core.Bool.{Bool, true, false, ◌&&◌, not}
use mathlib.Core.List.{List, [], ◌∷◌, ◌++◌, append_assoc, append-nil}
use mathlib.Core.Logic.{◌⊎◌, inl, inr, ⊎_elim, ◌≢◌}
use mathlib.Core.Option.{Option, none, some}
use mathlib.Core.Path.{◌≡◌, refl, sym, ap, subst, ◌∙◌}
use Prim.Native.Nat.{ℕ, zero, suc, ◌+◌, ◌≤◌, ◌<◌}
use native.Mathlib.Omega.{arith}
use lib.Dec.{eqb, leb}
use lib.ListN.{length, length-append}
use borrow.Author.Tests.{eqb-true, eqb-false, ltb-true, ltb-false, eq-eqb, leb-true, leb-false, not-true}
use Rattle.definition.specs.Basics.{Refusal, every, only, lookup}
use Rattle.definition.specs.Bytes.{Parser, and_then}
use Rattle.definition.specs.Shapes.{Kind, constant, bootstrap, bootstrap_tag, Entry}
use Rattle.definition.specs.Job.{Reference, raw, entry, name, Definition, define, named, placed, setting, Request, ClassSlot, slot, request, Build, Job}
use Rattle.definition.specs.Job.{Body, bodies, worked_out, read_body, read_definition, asks, reference, read_request, read_build}
use Rattle.definition.specs.Settings.{Setting, version, texts, highest, is_slot}
use Rattle.definition.specs.Texts.{is_text}
use Rattle.definition.specs.Value.{folded}
use Rattle.definition.specs.Form.{Counts, count_of, kind_of, one_more_lem, first_broken, with_broken, one_record, one_setting, counted, may_stand, texts_held, has_room, cites, cites_earlier, cites_request, form_definition, Definitions, form_definitions, form_request, nothing_behind, form_build, Requests, form_requests, form}
use Rattle.definition.specs.Numbering.{entries, is_bootstrap, constants_of, bootstraps_of}
use Rattle.facts.specs.Lists.{Among}
use Rattle.facts.proofs.Lists.{clash, none≢some, true≢false, both_true, found_inside, found_append, found_seam, place_front, among-nil, among-snoc, among-left, among-right, among_later, every-at, only_here, only-later, only-more}
use Rattle.facts.proofs.Each.{Each}
use Rattle.facts.proofs.Outcomes.{Ends, well, refused, next, weaker}
use Rattle.laws.specs.Statements.{IsBytes}
use Rattle.laws.specs.Counted.{count_in}
use Rattle.causes.specs.ExpressionFaults.{ComesOut}
use Rattle.causes.specs.CauseStatement as CauseStatement
use Rattle.causes.specs.CauseStatement.{CitesEntry, InPlace, NoText, FirstNoText, TextsHeld, HasPlace, Stand, none_yet_lem, misplaced, no_highest, bad_byte, mixed, too_deep, by_zero, no_text, StandAsked, none_asked, one_asked, FormCause, unread_definition, table_full, no_entry, unread_request, no_entry_asked, unread_build, no_request_cited, bytes_behind, RecordsStand, only_definitions, up_to_requests, up_to_build}
use Rattle.laws.proofs.Form.ParsersYield.{Byte, each_byte, Yields, yields_fail, yields_return, yields_bind}
use Rattle.laws.proofs.Form.FormedEntries.{OfKind, yields_reference, yields_definition}
use Rattle.laws.proofs.Form.DefinitionsRead.{no_entries}
use Rattle.causes.proofs.CauseSteps.{unless-cause, whole-cause, at_place}
use Rattle.causes.proofs.ExpressionsJudged.{definition_cut, Faults, expression-read, worked-constant, comes_cause}

pub snoc_length : {A : Type 0} (l : List A) (x : A) → length (l ++ x ∷ []) ≡ suc (length l)
snoc_length l x = length-append l (x ∷ []) ∙ omega arith

pub empty : {A : Type 0} (l : List A) → length l ≡ 0 → l ≡ []
empty [] e = refl
empty (x ∷ l) e = clash (omega arith)

-- a number that is no slot
outside : (top : ℕ) → (leb 1 top && leb top 65534) ≡ false → (top ≡ 0) ⊎ (65534 < top)
outside top t = go (leb 1 top) refl
  where
    go : (b : Bool) → leb 1 top ≡ b → (top ≡ 0) ⊎ (65534 < top)
    go true e = inr (leb-false top 65534 (sym (ap (λ b. b && leb top 65534) e) ∙ t))
    go false e = let low = leb-false 1 top e in inl (omega arith)

-- ---- counts are those of the definitions before

only-snoc : {A : Type 0} (p : A → Bool) (l : List A) (x : A) → length (only p (l ++ x ∷ [])) ≡ length (only p l) + length (only p (x ∷ []))
unfolding only
only-snoc p [] x = omega arith
only-snoc p (y ∷ l) x = omega (arith, only-more p y (l ++ x ∷ []), only-more p y l, only-snoc p l x)

entries-snoc : (ds : List (Definition (List ℕ))) (x : Definition (List ℕ)) → entries (ds ++ x ∷ []) ≡ entries ds ++ entries (x ∷ [])
unfolding entries
entries-snoc [] x = refl
entries-snoc (define e ∷ ds) x = ap (λ l. e ∷ l) (entries-snoc ds x)
entries-snoc (named k s r ∷ ds) x = entries-snoc ds x
entries-snoc (placed k a m ∷ ds) x = entries-snoc ds x
entries-snoc (setting s ∷ ds) x = entries-snoc ds x

count_snoc_entry :
    (kind : Kind) (ds : List (Definition (List ℕ))) (e : Entry (List ℕ) Reference) →
    count_in kind (ds ++ define e ∷ []) ≡ count_in kind ds + count_in kind (define e ∷ [])
unfolding count_in constants_of bootstraps_of entries
count_snoc_entry constant ds e = rw (entries-snoc ds (define e)) (only-snoc (λ e. not (is_bootstrap e)) (entries ds) e)
count_snoc_entry bootstrap ds e = rw (entries-snoc ds (define e)) (only-snoc is_bootstrap (entries ds) e)

count_same : (kind : Kind) (ds es : List (Definition (List ℕ))) → entries ds ≡ entries es → count_in kind ds ≡ count_in kind es
unfolding count_in constants_of bootstraps_of
count_same constant ds es q = ap (λ l. length (only (λ e. not (is_bootstrap e)) l)) q
count_same bootstrap ds es q = ap (λ l. length (only is_bootstrap l)) q

abbrev pub Counted : Counts → List (Definition (List ℕ)) → Type 0
Counted n ds = (kind : Kind) → count_of kind n ≡ count_in kind ds

-- an entry alone counts as one of its kind
kind-true : (tag : ℕ) → eqb tag bootstrap_tag ≡ true → kind_of tag ≡ bootstrap
unfolding kind_of
kind-true tag t = rw (t, kind_of) refl

kind-false : (tag : ℕ) → eqb tag bootstrap_tag ≡ false → kind_of tag ≡ constant
unfolding kind_of
kind-false tag t = rw (t, kind_of) refl

alone : (e : Entry (List ℕ) Reference) → (count_in constant (define e ∷ []) ≡ length (only (λ e. not (is_bootstrap e)) (e ∷ []))) × (count_in bootstrap (define e ∷ []) ≡ length (only is_bootstrap (e ∷ [])))
unfolding count_in constants_of bootstraps_of entries
alone e = (refl, refl)

counted-entry :
    (n : Counts) (e : Entry (List ℕ) Reference) (kind : Kind) → count_of kind (one_more_lem (kind_of e.tag) n) ≡ count_of kind n + count_in kind (define e ∷ [])
unfolding is_bootstrap one_more_lem count_of only
counted-entry n e kind = go (eqb e.tag bootstrap_tag) refl kind
  where
    Goal : Kind → Type 0
    Goal kind = count_of kind (one_more_lem (kind_of e.tag) n) ≡ count_of kind n + count_in kind (define e ∷ [])

    go : (b : Bool) → eqb e.tag bootstrap_tag ≡ b → (kind : Kind) → Goal kind
    go true t constant = rw (kind-true e.tag t, (alone e).0, only-later (λ e. not (is_bootstrap e)) e [] (ap not t)) (omega arith)
    go true t bootstrap = rw (kind-true e.tag t, (alone e).1, only_here is_bootstrap e [] t) (omega arith)
    go false t constant = rw (kind-false e.tag t, (alone e).0, only_here (λ e. not (is_bootstrap e)) e [] (ap not t)) (omega arith)
    go false t bootstrap = rw (kind-false e.tag t, (alone e).1, only-later is_bootstrap e [] t) (omega arith)

same-counts : (n : Counts) (s : Setting) (kind : Kind) → count_of kind (counted (setting s) n) ≡ count_of kind n
unfolding counted one_record one_setting count_of
same-counts n (version v) constant = refl
same-counts n (version v) bootstrap = refl
same-counts n texts constant = refl
same-counts n texts bootstrap = refl
same-counts n (highest t) constant = refl
same-counts n (highest t) bootstrap = refl

-- what else is counted leaves the entries' counts
same-record : (n : Counts) (kind : Kind) → count_of kind (one_record n) ≡ count_of kind n
unfolding one_record count_of
same-record n constant = refl
same-record n bootstrap = refl

same-broken : (o : Option ℕ) (n : Counts) (kind : Kind) → count_of kind (one_record (with_broken o n)) ≡ count_of kind n
unfolding one_record with_broken count_of
same-broken o n constant = refl
same-broken o n bootstrap = refl

pub counted-snoc : (n : Counts) (ds : List (Definition (List ℕ))) (x : Definition (List ℕ)) → Counted n ds → Counted (counted x n) (ds ++ x ∷ [])
unfolding counted entries
counted-snoc n ds (define e) h kind = omega (arith, h kind, same-broken (first_broken n.records e n.broken) (one_more_lem (kind_of e.tag) n) kind, counted-entry n e kind, count_snoc_entry kind ds e)
counted-snoc n ds (named k s r) h kind = same-record n kind ∙ h kind ∙ count_same kind ds (ds ++ named k s r ∷ []) (sym (entries-snoc ds (named k s r) ∙ append-nil (entries ds)))
counted-snoc n ds (placed k a m) h kind = same-record n kind ∙ h kind ∙ count_same kind ds (ds ++ placed k a m ∷ []) (sym (entries-snoc ds (placed k a m) ∙ append-nil (entries ds)))
counted-snoc n ds (setting (version v)) h kind = same-counts n (version v) kind ∙ h kind ∙ count_same kind ds (ds ++ setting (version v) ∷ []) (sym (entries-snoc ds (setting (version v)) ∙ append-nil (entries ds)))
counted-snoc n ds (setting texts) h kind = same-counts n texts kind ∙ h kind ∙ count_same kind ds (ds ++ setting texts ∷ []) (sym (entries-snoc ds (setting texts) ∙ append-nil (entries ds)))
counted-snoc n ds (setting (highest t)) h kind = same-counts n (highest t) kind ∙ h kind ∙ count_same kind ds (ds ++ setting (highest t) ∷ []) (sym (entries-snoc ds (setting (highest t)) ∙ append-nil (entries ds)))

pub nothing_counted : Counted no_entries []
unfolding count_of count_in constants_of bootstraps_of entries only
nothing_counted constant = refl
nothing_counted bootstrap = refl

-- ---- the settings and the first text that isn't one are those of the definitions before

-- so many definitions are so
pub record Seen (P : Definition (List ℕ) → Type 0) (c : ℕ) (ds : List (Definition (List ℕ))) : Type 0 where
  pub unseen : c ≡ 0 → (x : Definition (List ℕ)) → Among x ds → P x → ⊥
  pub seen : (c ≡ 0 → ⊥) → (x : Definition (List ℕ)) × Among x ds × P x

module _ (P : Definition (List ℕ) → Type 0) (c : ℕ) (ds : List (Definition (List ℕ))) (x : Definition (List ℕ)) (h : Seen P c ds) where
  seen_same : (P x → ⊥) → Seen P c (ds ++ x ∷ [])
  seen_same isnt =
      record {
        unseen = λ e y a p. ⊎_elim (λ q. isnt (subst P (sym q) p)) (λ b. h.unseen e y b p) (among-snoc y x ds a);
        seen = λ n. let s = h.seen n in (s.0, among-left s.0 ds (x ∷ []) s.1, s.2);
      }

  seen_more : P x → Seen P (suc c) (ds ++ x ∷ [])
  seen_more p = record { unseen = λ e. clash (omega arith); seen = λ _. (x, among-right x ds (x ∷ []) (0, refl), p) }

abbrev pub IsVersion : Definition (List ℕ) → Type 0
IsVersion x = (w : ℕ) × (x ≡ setting (version w))

abbrev pub IsTexts : Definition (List ℕ) → Type 0
IsTexts x = x ≡ setting texts

abbrev pub BrokenAt : Option ℕ → List (Definition (List ℕ)) → Type 0
BrokenAt none ds = (x : Definition (List ℕ)) → Among x ds → NoText x → ⊥
BrokenAt (some q) ds = FirstNoText ds q

pub record Noted (n : Counts) (ds : List (Definition (List ℕ))) : Type 0 where
  pub records-are : n.records ≡ length ds
  pub versions_are : Seen IsVersion n.versions ds
  pub texts_are : Seen IsTexts n.texts ds
  pub broken_is : BrokenAt n.broken ds

pub nothing_noted : Noted no_entries []
nothing_noted =
    record {
      records-are = refl;
      versions_are = record { unseen = λ _ x a. among-nil x a; seen = λ n. absurd (n refl) };
      texts_are = record { unseen = λ _ x a. among-nil x a; seen = λ n. absurd (n refl) };
      broken_is = λ x a. among-nil x a;
    }

module _ (ds : List (Definition (List ℕ))) (x : Definition (List ℕ)) where
  -- a definition more leaves the first
  broken_later : (q : ℕ) → FirstNoText ds q → FirstNoText (ds ++ x ∷ []) q
  broken_later q h =
      let inside = found_inside ds q h.text h.there in
      record {
        text = h.text;
        there = found_append ds (x ∷ []) q h.text h.there;
        is = h.is;
        first = λ i y less e. h.first i y less (sym (place_front ds (x ∷ []) i (omega arith)) ∙ e);
      }

  -- a definition more that is no such text
  broken_same : (o : Option ℕ) → BrokenAt o ds → (NoText x → ⊥) → BrokenAt o (ds ++ x ∷ [])
  broken_same none h isnt = λ y a t. ⊎_elim (λ q. isnt (subst NoText (sym q) t)) (λ b. h y b t) (among-snoc y x ds a)
  broken_same (some q) h isnt = broken_later q h

  -- one more that is the first
  broken_first : BrokenAt none ds → NoText x → FirstNoText (ds ++ x ∷ []) (length ds)
  broken_first h t =
      record {
        text = x;
        there = found_seam ds x [];
        is = t;
        first = λ i y less e. h y (i, sym (place_front ds (x ∷ []) i less) ∙ e);
      }

-- an entry more
broken_entry :
    (ds : List (Definition (List ℕ))) (e : Entry (List ℕ) Reference) (place : ℕ) (o : Option ℕ) → place ≡ length ds → BrokenAt o ds →
    BrokenAt (first_broken place e o) (ds ++ define e ∷ [])
unfolding first_broken
broken_entry ds e place (some q) at h = broken_later ds (define e) q h
broken_entry ds e place none at h = go (eqb e.tag 1 && not (is_text e.literal)) refl
  where
    go : (b : Bool) → (eqb e.tag 1 && not (is_text e.literal)) ≡ b → BrokenAt (first_broken place e none) (ds ++ define e ∷ [])
    go true t =
        let both = both_true (eqb e.tag 1) (not (is_text e.literal)) t in
        rw (t, first_broken)
        (subst (FirstNoText (ds ++ define e ∷ [])) (sym at)
        (broken_first ds (define e) h (e, refl, eqb-true e.tag 1 both.0, not-true (is_text e.literal) both.1)))
    go false t =
        rw (t, first_broken)
        (broken_same ds (define e) none h
        (λ (e', q, tag, isnt).
        let same : e ≡ e' = cc in
        true≢false
        (sym (rw (same, eq-eqb e'.tag 1 tag, isnt)) ∙ t)))

one_more-rest :
    (k : Kind) (n : Counts) →
    ((one_more_lem k n).records ≡ n.records) × ((one_more_lem k n).versions ≡ n.versions) × ((one_more_lem k n).texts ≡ n.texts)
unfolding one_more_lem
one_more-rest constant n = (refl, refl, refl)
one_more-rest bootstrap n = (refl, refl, refl)

plain_both :
    (n : Counts) (ds : List (Definition (List ℕ))) (x : Definition (List ℕ)) → Noted n ds → (NoText x → ⊥) →
    (suc n.records ≡ length (ds ++ x ∷ [])) × BrokenAt n.broken (ds ++ x ∷ [])
plain_both n ds x h isnt = (ap suc h.records-are ∙ sym (snoc_length ds x), broken_same ds x n.broken h.broken_is isnt)

-- a definition that is neither an entry nor a 47 or 48
noted_plain :
    (n : Counts) (ds : List (Definition (List ℕ))) (x : Definition (List ℕ)) → Noted n ds → (IsVersion x → ⊥) → (IsTexts x → ⊥) → (NoText x → ⊥) →
    Noted (one_record n) (ds ++ x ∷ [])
unfolding one_record
noted_plain n ds x h v t isnt =
    let both = plain_both n ds x h isnt in
    record {
      records-are = both.0;
      versions_are = seen_same IsVersion n.versions ds x h.versions_are v;
      texts_are = seen_same IsTexts n.texts ds x h.texts_are t;
      broken_is = both.1;
    }

pub noted_snoc : (n : Counts) (ds : List (Definition (List ℕ))) (x : Definition (List ℕ)) → Noted n ds → Noted (counted x n) (ds ++ x ∷ [])
unfolding counted one_record with_broken one_setting
noted_snoc n ds (define e) h =
    let rest = one_more-rest (kind_of e.tag) n in
    record {
      records-are = ap suc (rest.0 ∙ h.records-are) ∙ sym (snoc_length ds (define e));
      versions_are = subst (λ c. Seen IsVersion c (ds ++ define e ∷ [])) (sym rest.1) (seen_same IsVersion n.versions ds (define e) h.versions_are (λ (w, q). clash (cc)));
      texts_are = subst (λ c. Seen IsTexts c (ds ++ define e ∷ [])) (sym rest.2) (seen_same IsTexts n.texts ds (define e) h.texts_are (λ q. clash (cc)));
      broken_is = broken_entry ds e n.records n.broken h.records-are h.broken_is;
    }
noted_snoc n ds (named k s r) h = noted_plain n ds (named k s r) h (λ (w, q). clash (cc)) (λ q. clash (cc)) (λ (e, q, _, _). clash (cc))
noted_snoc n ds (placed k a m) h = noted_plain n ds (placed k a m) h (λ (w, q). clash (cc)) (λ q. clash (cc)) (λ (e, q, _, _). clash (cc))
noted_snoc n ds (setting (version v)) h =
    let plain = plain_both n ds (setting (version v)) h (λ (e, q, _, _). clash (cc)) in
    record {
      records-are = plain.0;
      versions_are = seen_more IsVersion n.versions ds (setting (version v)) h.versions_are (v, refl);
      texts_are = seen_same IsTexts n.texts ds (setting (version v)) h.texts_are (λ q. clash (cc));
      broken_is = plain.1;
    }
noted_snoc n ds (setting texts) h =
    let plain = plain_both n ds (setting texts) h (λ (e, q, _, _). clash (cc)) in
    record {
      records-are = plain.0;
      versions_are = seen_same IsVersion n.versions ds (setting texts) h.versions_are (λ (w, q). clash (cc));
      texts_are = seen_more IsTexts n.texts ds (setting texts) h.texts_are refl;
      broken_is = plain.1;
    }
noted_snoc n ds (setting (highest t)) h =
    noted_plain n ds (setting (highest t)) h (λ (w, q). clash (cc)) (λ q. clash (cc)) (λ (e, q, _, _). clash (cc))

-- a request that can't be read has a reference that can't be
and_then-none : {A B : Type 0} (o : Option (A × List ℕ)) (f : A → Parser B) → ((a : A) (rest : List ℕ) → f a rest ≡ none → ⊥) → and_then o f ≡ none → o ≡ none
and_then-none none f h e = refl
and_then-none (some r) f h e = absurd (h r.0 r.1 e)

request_unread : (ldc : Bool) (left : List ℕ) → read_request (some ldc) left ≡ none → reference constant left ≡ none
unfolding read_request
request_unread ldc left e = and_then-none (reference constant left) _ (λ r rest q. none≢some (sym q)) e

-- ---- records that stand take a byte each

module _ (bytes : List ℕ) (are : Each Byte bytes) where
  pub stand_length : {ds : List (Definition (List ℕ))} {left : List ℕ} → Stand bytes ds left → (length ds + length left ≤ length bytes) × Each Byte left
  stand_length none_yet_lem = (omega arith, are)
  stand_length (CauseStatement.one_more_lem ds first left x rest st ne read stands place cited comes held) =
      let h = stand_length st in
      let g = yields_definition first left h.1.1 x rest read in
      (omega (arith, snoc_length ds x, h.0, g.fewer), g.bytes)

  yields_asked : (o : Option Bool) → Yields (λ q. Unit {0}) (read_request o)
  unfolding read_request
  yields_asked none = yields_fail (λ q. Unit {0})
  yields_asked (some ldc) =
      yields_bind (OfKind constant) _ (reference constant) _ (yields_reference constant) λ r h. yields_return (λ q. Unit {0}) (record { ldc = ldc; what = r }) tt

  pub asked_length :
      {ds : List (Definition (List ℕ))} {qs : List Request} {left : List ℕ} →
      StandAsked bytes ds qs left →
      (suc (length ds) + length qs + length left ≤ length bytes) × Each Byte left
  asked_length (none_asked left st) = let h = stand_length st in (omega (arith, h.0), h.1.1)
  asked_length (one_asked qs first left q rest st ne read cited) =
      let h = asked_length st in
      let g = yields_asked (lookup first asks) left h.1.1 q rest read in
      (omega (arith, snoc_length qs q, h.0, g.fewer), g.bytes)

  -- ---- what is cited, behind definitions

  module _ (n : Counts) (ds : List (Definition (List ℕ))) (count : Counted n ds) where
    -- a reference that isn't there, and one that is
    uncited : (r : Reference) → cites n r ≡ false → (kind : Kind) × (m : ℕ) × (r ≡ entry kind m) × (count_in kind ds ≤ m)
    unfolding cites
    uncited (raw m) t = true≢false t
    uncited (entry kind m) t = (kind, m, refl, omega (arith, ltb-false m (count_of kind n) t, count kind))
    uncited (name kind s) t = true≢false t

    pub cited_there : (r : Reference) (kind : Kind) (m : ℕ) → cites n r ≡ true → r ≡ entry kind m → m < count_in kind ds
    unfolding cites
    cited_there (raw k) kind m t q = clash (cc)
    cited_there (entry kind' k) kind m t q =
        let q₁ : kind' ≡ kind = cc in
        let q₂ : k ≡ m = cc in
        subst (λ kind. m < count_in kind ds) q₁ (omega (arith, ltb-true k (count_of kind' n) t, count kind', q₂))
    cited_there (name kind' s) kind m t q = clash (cc)

    some-uncited : (l : List Reference) → every (cites n) l ≡ false → (kind : Kind) × (m : ℕ) × Among (entry kind m) l × (count_in kind ds ≤ m)
    unfolding every
    some-uncited [] t = true≢false t
    some-uncited (r ∷ l) t = go (cites n r) refl t (some-uncited l)
      where
        go :
            (b : Bool) → cites n r ≡ b → (b && every (cites n) l) ≡ false →
            (every (cites n) l ≡ false → (kind : Kind) × (m : ℕ) × Among (entry kind m) l × (count_in kind ds ≤ m)) →
            (kind : Kind) × (m : ℕ) × Among (entry kind m) (r ∷ l) × (count_in kind ds ≤ m)
        go true q t later = let h = later t in (h.0, h.1, among_later (entry h.0 h.1) r l h.2, h.3)
        go false q t later = let h = uncited r q in (h.0, h.1, (0, ap some h.2), h.3)

  -- ---- a definition in turn

  module _
      (n : Counts)
      (ds : List (Definition (List ℕ)))
      (count : Counted n ds)
      (noted : Noted n ds)
      (first : ℕ)
      (left : List ℕ)
      (st : Stand bytes ds (first ∷ left))
      (ne : first ≢ 0x50) where
    abbrev Z : ℕ → Type 0
    Z code = FormCause bytes code (length ds)

    three : read_definition first left ≡ none → Z 3
    unfolding read_definition
    three e = unread_definition ds (first ∷ left) st (ne, go (lookup first bodies) refl, λ is. definition_cut left (subst (λ f. read_definition f left ≡ none) is e))
      where
        go :
            (o : Option Body) → lookup first bodies ≡ o →
            (lookup first bodies ≡ none) ⊎ ((b : Body) × (lookup first bodies ≡ some b) × (read_body first (some b) left ≡ none))
        go none q = inl q
        go (some b) q = inr (b, q, subst (λ o. read_body first o left ≡ none) q e)

    five : (x : Definition (List ℕ)) (rest : List ℕ) → read_definition first left ≡ some (x, rest) → has_room n x ≡ false → Z 5
    unfolding has_room
    five (define e) rest read t =
        table_full ds first left e rest st ne read (omega (arith, ltb-false (count_of (kind_of e.tag) n) 65536 t, count (kind_of e.tag)))
    five (named k s r) rest read t = true≢false t
    five (placed k a m) rest read t = true≢false t
    five (setting s) rest read t = true≢false t

    -- a setting where it can stand, or 3; then 26
    stands_cause : (x : Definition (List ℕ)) (rest : List ℕ) → read_definition first left ≡ some (x, rest) → Ends Z (λ _. InPlace ds x) (may_stand n x)
    unfolding may_stand is_slot
    stands_cause (define e) rest read = well tt
    stands_cause (named k s r) rest read = well tt
    stands_cause (placed k a m) rest read = well tt
    stands_cause (setting (version v)) rest read =
        weaker (λ _ z. z)
        (λ _ t (w, a). noted.versions_are.unseen (eqb-true n.versions 0 t) (setting (version w)) a (w, refl))
        (unless-cause (eqb n.versions 0) 3
        (λ t.
        let (x, a, (w, q)) = noted.versions_are.seen (eqb-false n.versions 0 t) in
        misplaced ds first left (version v) rest st ne read (w, subst (λ y. Among y ds) q a)))
    stands_cause (setting texts) rest read =
        weaker (λ _ z. z)
        (λ _ t a. noted.texts_are.unseen (eqb-true n.texts 0 t) (setting texts) a refl)
        (unless-cause (eqb n.texts 0) 3
        (λ t.
        let (x, a, q) = noted.texts_are.seen (eqb-false n.texts 0 t) in
        misplaced ds first left texts rest st ne read (subst (λ y. Among y ds) q a)))
    stands_cause (setting (highest top)) rest read =
        next _
        (unless-cause (eqb n.records 0) 3
        (λ t. misplaced ds first left (highest top) rest st ne read (λ q. eqb-false n.records 0 t (noted.records-are ∙ ap length q)))) λ _ t.
        let none_yet : ds ≡ [] = empty ds (sym noted.records-are ∙ eqb-true n.records 0 t) in
        weaker (λ _ z. z)
        (λ _ t.
        let both = both_true (leb 1 top) (leb top 65534) t in
        (none_yet, leb-true 1 top both.0, leb-true top 65534 both.1))
        (unless-cause (leb 1 top && leb top 65534) 26 (λ t.
        subst (λ ds. FormCause bytes 26 (length ds)) (sym none_yet)
        (no_highest first left top rest (subst (λ ds. Stand bytes ds (first ∷ left)) none_yet st) ne read (outside top t))))

    has_place : (x : Definition (List ℕ)) → has_room n x ≡ true → HasPlace ds x
    unfolding has_room
    has_place (define e) t e' q =
        let same : e ≡ e' = cc in
        subst (λ (y : Entry (List ℕ) Reference). count_in (kind_of y.tag) ds < 65536) same
        (omega (arith, ltb-true (count_of (kind_of e.tag) n) 65536 t, count (kind_of e.tag)))
    has_place (named k s r) t e' q = clash (cc)
    has_place (placed k a m) t e' q = clash (cc)
    has_place (setting s) t e' q = clash (cc)

    four : (x : Definition (List ℕ)) (rest : List ℕ) → read_definition first left ≡ some (x, rest) → InPlace ds x → HasPlace ds x → cites_earlier n x ≡ false → Z 4
    unfolding cites_earlier
    four (define e) rest read stands place t =
        let h = some-uncited n ds count e.kids t in
        no_entry ds first left (define e) rest h.0 h.1 st ne read stands place h.2 h.3
    four (named k s r) rest read stands place t =
        let h = uncited n ds count r t in
        no_entry ds first left (named k s r) rest h.0 h.1 st ne read stands place h.2 h.3
    four (placed k a m) rest read stands place t =
        no_entry ds first left (placed k a m) rest k m st ne read stands place (refl, refl) (omega (arith, ltb-false m (count_of k n) t, count k))
    four (setting s) rest read stands place t = true≢false t

    pub all_cited : (x : Definition (List ℕ)) → cites_earlier n x ≡ true → (kind : Kind) (m : ℕ) → CitesEntry x kind m → m < count_in kind ds
    unfolding cites_earlier
    all_cited (define e) t kind m c = cited_there n ds count (entry kind m) kind m (every-at (cites n) e.kids t c.0 (entry kind m) c.1) refl
    all_cited (named k s r) t kind m c = cited_there n ds count r kind m t c
    all_cited (setting s) t kind m c = absurd c
    all_cited (placed k a j) t kind m c = subst (λ kind. m < count_in kind ds) c.0 (omega (arith, ltb-true j (count_of k n) t, count k, c.1))

    -- what was read and judged, but for the texts
    record Judged (r : Definition (List ℕ) × List ℕ) : Type 0 where
      reads : read_definition first left ≡ some r
      stands : InPlace ds r.0
      place : HasPlace ds r.0
      cited : (kind : Kind) (m : ℕ) → CitesEntry r.0 kind m → m < count_in kind ds
      comes : first ≡ 0x46 → ComesOut left

    -- 22, then 23, of a 46 that has a place among the constants
    faults : (x : Definition (List ℕ)) (rest : List ℕ) → read_definition first left ≡ some (x, rest) → HasPlace ds x → first ≡ 0x46 → Faults Z left
    faults x rest read place is =
        let st' = subst (λ f. Stand bytes ds (f ∷ left)) is st in
        let (o, _, what) = expression-read left x rest (subst (λ f. read_definition f left ≡ some (x, rest)) is read) in
        let room : count_in constant ds < 65536 = subst (λ k. count_in k ds < 65536) (worked-constant (folded o)) (place (worked_out (folded o)) what) in
        record {
          byte = λ h. bad_byte ds left st' room h;
          kinds = λ y more e (k, l, h, g, apart). mixed ds left y more k l st' room e h g apart;
          nested = λ y more e h. too_deep ds left y more st' room e h;
          divided = λ y more kind e all low h. by_zero ds left y more kind st' room e all low h;
        }

    definition_cause : Ends Z Judged (form_definition n first left)
    unfolding form_definition
    definition_cause =
        next _ (whole-cause (read_definition first left) three) λ r read.
        next _ (stands_cause r.0 r.1 read) λ _ stands.
        next _ (unless-cause (has_room n r.0) 5 (five r.0 r.1 read)) λ _ room.
        next _ (unless-cause (cites_earlier n r.0) 4 (four r.0 r.1 read stands (has_place r.0 room))) λ _ cited.
        next _ (comes_cause first left r.0 r.1 read (faults r.0 r.1 read (has_place r.0 room))) λ _ comes.
        well {a = r} (record { reads = read; stands = stands; place = has_place r.0 room; cited = all_cited r.0 cited; comes = comes })

    -- the texts are held, or 25 at the first that isn't one
    texts_cause :
        (r : Definition (List ℕ) × List ℕ) → Judged r →
        Ends (λ (e : Refusal). FormCause bytes e.code e.place) (λ _. Stand bytes (ds ++ r.0 ∷ []) r.1) (texts_held (counted r.0 n))
    unfolding texts_held
    texts_cause r j = go (counted r.0 n).broken refl noted'.broken_is
      where
        noted' : Noted (counted r.0 n) (ds ++ r.0 ∷ [])
        noted' = noted_snoc n ds r.0 noted

        now_stands : TextsHeld (ds ++ r.0 ∷ []) → Stand bytes (ds ++ r.0 ∷ []) r.1
        now_stands held =
            CauseStatement.one_more_lem ds first left r.0 r.1 st ne j.reads j.stands j.place j.cited j.comes held

        go :
            (o : Option ℕ) → (counted r.0 n).broken ≡ o → BrokenAt (counted r.0 n).broken (ds ++ r.0 ∷ []) →
            Ends (λ (e : Refusal). FormCause bytes e.code e.place) (λ _. Stand bytes (ds ++ r.0 ∷ []) r.1) (texts_held (counted r.0 n))
        go none e b =
            let b' = subst (λ o. BrokenAt o (ds ++ r.0 ∷ [])) e b in
            rw (e, texts_held) (well (now_stands (λ _ x a t. b' x a t)))
        go (some q) e b =
            let b' = subst (λ o. BrokenAt o (ds ++ r.0 ∷ [])) e b in
            rw (e, texts_held)
            (at_place (FormCause bytes) q
            (weaker (λ _ z. z)
            (λ _ t. now_stands (λ a. absurd (noted'.texts_are.unseen (eqb-true (counted r.0 n).texts 0 t) (setting texts) a refl)))
            (unless-cause (eqb (counted r.0 n).texts 0) 25
            (λ t.
            let (x, a, s) = noted'.texts_are.seen (eqb-false (counted r.0 n).texts 0 t) in
            no_text ds first left r.0 r.1 q st ne j.reads j.stands j.place j.cited j.comes (subst (λ y. Among y (ds ++ r.0 ∷ [])) s a) b'))))

  -- ---- the definitions

  -- what they leave: 50 stands behind them
  record Ended (ds : List (Definition (List ℕ))) (d : Definitions) : Type 0 where
    stands : Stand bytes (ds ++ d.list) (0x50 ∷ d.rest)
    counts : Counted d.counts (ds ++ d.list)

  abbrev Z₀ : Refusal → Type 0
  Z₀ e = FormCause bytes e.code e.place

  definitions_cause :
      (fuel : ℕ) (n : Counts) (ds : List (Definition (List ℕ))) (left : List ℕ) →
      length bytes ≤ fuel + length ds →
      Counted n ds →
      Noted n ds →
      Stand bytes ds left →
      Ends Z₀ (Ended ds) (form_definitions fuel n (length ds) left)
  unfolding form_definitions
  definitions_cause zero n ds [] enough count noted st = refused (unread_definition ds [] st tt)
  definitions_cause zero n ds (first ∷ left) enough count noted st = absurd (omega (arith, (stand_length st).0))
  definitions_cause (suc fuel) n ds [] enough count noted st = refused (unread_definition ds [] st tt)
  definitions_cause (suc fuel) n ds (first ∷ left) enough count noted st = go (eqb first 0x50) refl (definitions_cause fuel)
    where
      go :
          (b : Bool) →
          eqb first 0x50 ≡ b →
          ((n : Counts) (ds : List (Definition (List ℕ))) (left : List ℕ) → length bytes ≤ fuel + length ds → Counted n ds → Noted n ds → Stand bytes ds left →
          Ends Z₀ (Ended ds) (form_definitions fuel n (length ds) left)) →
          Ends Z₀ (Ended ds) (form_definitions (suc fuel) n (length ds) (first ∷ left))
      go true t rest =
          rw (t, form_definitions)
          (well
          (record {
            stands = subst (λ l. Stand bytes l (0x50 ∷ left)) (sym (append-nil ds)) (subst (λ f. Stand bytes ds (f ∷ left)) (eqb-true first 0x50 t) st);
            counts = subst (Counted n) (sym (append-nil ds)) count;
          }))
      go false t rest =
          rw (t, form_definitions)
          (next _ (at_place (FormCause bytes) (length ds) (definition_cause n ds count noted first left st (eqb-false first 0x50 t))) λ r j.
          next _ (texts_cause n ds count noted first left st (eqb-false first 0x50 t) r j) λ _ st₁.
          let longer : length (ds ++ r.0 ∷ []) ≡ suc (length ds) = snoc_length ds r.0 in
          next _
          (subst (λ p. Ends Z₀ (Ended (ds ++ r.0 ∷ [])) (form_definitions fuel (counted r.0 n) p r.1)) longer
          (rest (counted r.0 n) (ds ++ r.0 ∷ []) r.1 (omega (arith, longer, enough)) (counted-snoc n ds r.0 count) (noted_snoc n ds r.0 noted) st₁)) λ d h.
          well
          (record {
            stands = subst (λ l. Stand bytes l (0x50 ∷ d.rest)) (append_assoc ds (r.0 ∷ []) d.list) h.stands;
            counts = subst (Counted d.counts) (append_assoc ds (r.0 ∷ []) d.list) h.counts;
          }))

  -- ---- requests and the build record

  module _ (n : Counts) (ds : List (Definition (List ℕ))) (count : Counted n ds) where
    abbrev place_at_lem : List Request → ℕ
    place_at_lem qs = suc (length ds) + length qs

    request_cause :
        (qs : List Request) (first : ℕ) (left : List ℕ) →
        StandAsked bytes ds qs (first ∷ left) →
        first ≢ 0x60 →
        Ends (λ code. FormCause bytes code (place_at_lem qs)) (λ r. StandAsked bytes ds (qs ++ r.0 ∷ []) r.1) (form_request n first left)
    unfolding form_request
    request_cause qs first left st ne =
        next _ (whole-cause (read_request (lookup first asks) left) three_asked) λ r read.
        next _ (unless-cause (cites n r.0.what) 4 (four-asked r read)) λ _ cited.
        well {a = r} (one_asked qs first left r.0 r.1 st ne read (λ kind m q. cited_there n ds count r.0.what kind m cited q))
      where
        go :
            (o : Option Bool) → lookup first asks ≡ o → read_request o left ≡ none →
            (lookup first asks ≡ none) ⊎ ((ldc : Bool) × (lookup first asks ≡ some ldc) × (reference constant left ≡ none))
        go none q e = inl q
        go (some ldc) q e = inr (ldc, q, request_unread ldc left e)

        three_asked : read_request (lookup first asks) left ≡ none → FormCause bytes 3 (place_at_lem qs)
        three_asked e = unread_request ds qs (first ∷ left) st (ne, go (lookup first asks) refl e)

        four-asked : (r : Request × List ℕ) → read_request (lookup first asks) left ≡ some r → cites n r.0.what ≡ false → FormCause bytes 4 (place_at_lem qs)
        four-asked r read t =
            let h = uncited n ds count r.0.what t in
            no_entry_asked ds qs first left r.0 r.1 h.0 h.1 st ne read h.2 h.3

    -- the class slot's request
    class_uncited : (k : ℕ) (c : ClassSlot) → cites_request k c ≡ false → (m : ℕ) × (c ≡ request m) × (k ≤ m)
    unfolding cites_request
    class_uncited k (slot m) t = true≢false t
    class_uncited k (request m) t = (m, refl, ltb-false m k t)

    pub class_cited : (k : ℕ) (c : ClassSlot) (m : ℕ) → cites_request k c ≡ true → c ≡ request m → m < k
    unfolding cites_request
    class_cited k (slot j) m t q = clash (cc)
    class_cited k (request j) m t q =
        let same : j ≡ m = cc in
        omega (arith, ltb-true j k t)

    build-cause :
        (qs : List Request) (left : List ℕ) → StandAsked bytes ds qs (0x60 ∷ left) → Ends Z₀ (λ b. Unit {0}) (form_build (length qs) (place_at_lem qs) left)
    unfolding form_build nothing_behind
    build-cause qs left st =
        next _ (at_place (FormCause bytes) (place_at_lem qs) (whole-cause (read_build left) (λ e. unread_build ds qs left st e))) λ r read.
        next _ (at_place (FormCause bytes) (place_at_lem qs) (unless-cause (cites_request (length qs) r.0.class) 4 (four-built r read))) λ _ cited.
        next _ (at_place (FormCause bytes) (suc (place_at_lem qs)) (unless-cause (nothing_behind r.1) 3 (behind r.0 r.1 read cited))) λ _ _.
        well tt
      where
        four-built : (r : Build × List ℕ) → read_build left ≡ some r → cites_request (length qs) r.0.class ≡ false → FormCause bytes 4 (place_at_lem qs)
        four-built r read t =
            let h = class_uncited (length qs) r.0.class t in
            no_request_cited ds qs left r.0 r.1 h.0 st read h.1 h.2

        behind :
            (b : Build) (rest : List ℕ) → read_build left ≡ some (b, rest) → cites_request (length qs) b.class ≡ true → nothing_behind rest ≡ false → FormCause bytes 3 (suc (place_at_lem qs))
        behind b [] read cited t = true≢false t
        behind b (more ∷ rest) read cited t = bytes_behind ds qs left b more rest st read (λ m q. class_cited (length qs) b.class m cited q)

    -- what they leave: 60 stands behind them
    abbrev Built : List Request → Requests → Type 0
    Built qs r = (left : List ℕ) × StandAsked bytes ds (qs ++ r.list) (0x60 ∷ left)

    requests_cause :
        (fuel : ℕ) (qs : List Request) (left : List ℕ) →
        length bytes ≤ fuel + length qs →
        StandAsked bytes ds qs left →
        Ends Z₀ (Built qs) (form_requests fuel n (length qs) (place_at_lem qs) left)
    unfolding form_requests
    requests_cause zero qs [] enough st = refused (unread_request ds qs [] st tt)
    requests_cause zero qs (first ∷ left) enough st = absurd (omega (arith, (asked_length st).0))
    requests_cause (suc fuel) qs [] enough st = refused (unread_request ds qs [] st tt)
    requests_cause (suc fuel) qs (first ∷ left) enough st = go (eqb first 0x60) refl (requests_cause fuel)
      where
        go :
            (b : Bool) →
            eqb first 0x60 ≡ b →
            ((qs : List Request) (left : List ℕ) → length bytes ≤ fuel + length qs → StandAsked bytes ds qs left → Ends Z₀ (Built qs) (form_requests fuel n (length qs) (place_at_lem qs) left)) →
            Ends Z₀ (Built qs) (form_requests (suc fuel) n (length qs) (place_at_lem qs) (first ∷ left))
        go true t rest =
            let sixty = subst (λ f. StandAsked bytes ds qs (f ∷ left)) (eqb-true first 0x60 t) st in
            rw (t, form_requests)
            (next _ (build-cause qs left sixty) λ b _. well (left, subst (λ l. StandAsked bytes ds l (0x60 ∷ left)) (sym (append-nil qs)) sixty))
        go false t rest =
            rw (t, form_requests)
            (next _ (at_place (FormCause bytes) (place_at_lem qs) (request_cause qs first left st (eqb-false first 0x60 t))) λ r st₁.
            let longer : length (qs ++ r.0 ∷ []) ≡ suc (length qs) = snoc_length qs r.0 in
            let later : place_at_lem (qs ++ r.0 ∷ []) ≡ suc (place_at_lem qs) = omega (arith, longer) in
            next _
            (subst (λ p. Ends Z₀ (Built (qs ++ r.0 ∷ [])) (form_requests fuel n (suc (length qs)) p r.1)) later
            (subst (λ k. Ends Z₀ (Built (qs ++ r.0 ∷ [])) (form_requests fuel n k (place_at_lem (qs ++ r.0 ∷ [])) r.1)) longer
            (rest (qs ++ r.0 ∷ []) r.1 (omega (arith, longer, enough)) st₁))) λ d h.
            well (h.0, subst (λ l. StandAsked bytes ds l (0x60 ∷ h.0)) (append_assoc qs (r.0 ∷ []) d.list) h.1))

-- a well-formed job's records up to 60 stand in the bytes
abbrev pub Standing : List ℕ → Job (List ℕ) → Type 0
Standing bytes job = (left : List ℕ) × StandAsked bytes job.definitions job.requests (0x60 ∷ left)

-- CAUSE of 3, 4, 5, 22, 23, 25 and 26: what the form pass is refused for
pub cause_of_form : (bytes : List ℕ) → IsBytes bytes → Ends (λ e. FormCause bytes e.code e.place) (Standing bytes) (form bytes)
unfolding form
cause_of_form bytes are =
    let b = each_byte bytes are in
    next _ (definitions_cause bytes b (length bytes) no_entries [] bytes (omega arith) nothing_counted nothing_noted none_yet_lem) λ d h.
    let place : suc (length d.list) + 0 ≡ suc (length d.list) = omega arith in
    next _
    (subst (λ p. Ends (λ e. FormCause bytes e.code e.place) (Built bytes b d.counts d.list h.counts []) (form_requests (length bytes) d.counts 0 p d.rest)) place
    (requests_cause bytes b d.counts d.list h.counts (length bytes) [] d.rest (omega arith) (none_asked d.rest h.stands))) λ r k.
    well k

-- ---- numbers and places

-- the records of a well-formed job up to 60 stand
pub records-stand : (bytes : List ℕ) (job : Job (List ℕ)) → Standing bytes job → RecordsStand bytes (suc (length job.definitions) + length job.requests)
records-stand bytes job (left, st) = up_to_requests job.definitions job.requests (0x60 ∷ left) st

-- a refusal of the form lies right behind the records that stand; that of a text among them
pub form-bounds :
    {bytes : List ℕ} {code place : ℕ} → FormCause bytes code place →
    (3 ≤ code) × ((code ≤ 5) ⊎ ((22 ≤ code) × (code ≤ 26))) × ((n : ℕ) × RecordsStand bytes n × (place ≤ n))
form-bounds (unread_definition ds left st h) = (omega arith, inl (omega arith), (_, only_definitions ds left st, omega arith))
form-bounds (misplaced ds first left s rest st ne read m) = (omega arith, inl (omega arith), (_, only_definitions ds (first ∷ left) st, omega arith))
form-bounds (no_highest first left top rest st ne read o) = (omega arith, inr (omega arith, omega arith), (_, only_definitions [] (first ∷ left) st, omega arith))
form-bounds (table_full ds first left e rest st ne read full) = (omega arith, inl (omega arith), (_, only_definitions ds (first ∷ left) st, omega arith))
form-bounds (no_entry ds first left x rest kind n st ne read s place c l) = (omega arith, inl (omega arith), (_, only_definitions ds (first ∷ left) st, omega arith))
form-bounds (bad_byte ds left st room h) = (omega arith, inr (omega arith, omega arith), (_, only_definitions ds (0x46 ∷ left) st, omega arith))
form-bounds (mixed ds left x rest k l st room read h g apart) = (omega arith, inr (omega arith, omega arith), (_, only_definitions ds (0x46 ∷ left) st, omega arith))
form-bounds (too_deep ds left x rest st room read h) = (omega arith, inr (omega arith, omega arith), (_, only_definitions ds (0x46 ∷ left) st, omega arith))
form-bounds (by_zero ds left x rest kind st room read all low h) = (omega arith, inr (omega arith, omega arith), (_, only_definitions ds (0x46 ∷ left) st, omega arith))
form-bounds (no_text ds first left x rest q st ne read s place c o t b) =
    let inside = found_inside (ds ++ x ∷ []) q b.text b.there in
    let longer = snoc_length ds x in
    (omega arith, inr (omega arith, omega arith), (length ds, only_definitions ds (first ∷ left) st, omega arith))
form-bounds (unread_request ds qs left st h) = (omega arith, inl (omega arith), (_, up_to_requests ds qs left st, omega arith))
form-bounds (no_entry_asked ds qs first left q rest kind n st ne read c l) = (omega arith, inl (omega arith), (_, up_to_requests ds qs (first ∷ left) st, omega arith))
form-bounds (unread_build ds qs left st read) = (omega arith, inl (omega arith), (_, up_to_requests ds qs (0x60 ∷ left) st, omega arith))
form-bounds (no_request_cited ds qs left b rest n st read c l) = (omega arith, inl (omega arith), (_, up_to_requests ds qs (0x60 ∷ left) st, omega arith))
form-bounds (bytes_behind ds qs left b more rest st read c) = (omega arith, inl (omega arith), (_, up_to_build ds qs left b (more ∷ rest) st read c, omega arith))
