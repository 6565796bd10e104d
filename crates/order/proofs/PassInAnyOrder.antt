-- Records in another order are counted alike, and if they pass the form pass in one order they do in the other, or are refused 3, 4 or 5 there.
-- Assumes nothing.
use mathlib.Core.Bool.{Bool, true, false, ◌&&◌, ◌||◌, not}
use mathlib.Core.List.{List, [], ◌∷◌, ◌++◌, map}
use mathlib.Core.Logic.{◌⊎◌, inl, inr}
use mathlib.Core.Option.{Option, none, some}
use mathlib.Core.Path.{◌≡◌, refl, ap, sym, ◌∙◌}
use Prim.Native.Nat.{ℕ, zero, suc}
use native.Mathlib.Omega.{arith}
use lib.Dec.{eqb, ltb}
use borrow.Author.Tests.{eqb-true}
use Rattle.definition.specs.Basics.{Result, good, Refusal, at_record, unless, lookup, ◌>>=◌}
use Rattle.definition.specs.Settings.{version, texts, highest, is_slot}
use Rattle.definition.specs.Shapes.{Kind, constant, bootstrap, Entry}
use Rattle.definition.specs.Texts.{is_text}
use Rattle.definition.specs.Job.{Reference, raw, entry, name, Definition, define, named, placed, setting, asks, read_request}
use Rattle.definition.specs.Definitions.{is_none}
use Rattle.definition.specs.Form.{Counts, count_of, kind_of, one_more_lem, one_setting, first_broken, with_broken, one_record, counted, whole, may_stand, has_room, texts_held, cites, cites_earlier, form_request, form_build, form_requests}
use Rattle.facts.proofs.Lists.{true≢false}
use Rattle.facts.proofs.Each.{Each}
use Rattle.facts.proofs.Outcomes.{Ends, well, next, Anything, at_record-ends, unless-ends}
use Rattle.facts.proofs.Results.{good_inj, good_then, at_record-good, unless-good, unless-first}
use Rattle.laws.proofs.Form.FormedJobs.{counts_after}
use Rattle.order.proofs.MovedByExchanges.{may_move, Exchanged, unmoved, exchanged}
use Rattle.order.proofs.FormOfRecords.{definition_of, judged, passed}

-- ---- counts

-- as many entries of either table and as many 48, and a text that isn't one stands in both or in neither
pub record CountsAlike (n m : Counts) : Type 0 where
  pub same_constants : n.constants ≡ m.constants
  pub same_bootstraps : n.bootstraps ≡ m.bootstraps
  pub same_texts : n.texts ≡ m.texts
  pub same_broken : is_none n.broken ≡ is_none m.broken

itself : (n : Counts) → CountsAlike n n
itself n = record { same_constants = refl; same_bootstraps = refl; same_texts = refl; same_broken = refl }

back : (n m : Counts) → CountsAlike n m → CountsAlike m n
back n m h =
    record { same_constants = sym h.same_constants; same_bootstraps = sym h.same_bootstraps; same_texts = sym h.same_texts; same_broken = sym h.same_broken }

both : (n m k : Counts) → CountsAlike n m → CountsAlike m k → CountsAlike n k
both n m k p q =
    record {
      same_constants = p.same_constants ∙ q.same_constants;
      same_bootstraps = p.same_bootstraps ∙ q.same_bootstraps;
      same_texts = p.same_texts ∙ q.same_texts;
      same_broken = p.same_broken ∙ q.same_broken;
    }

more-follows : (kind : Kind) (n m : Counts) → CountsAlike n m → CountsAlike (one_more_lem kind n) (one_more_lem kind m)
unfolding one_more_lem
more-follows constant n m h =
    record { same_constants = ap suc h.same_constants; same_bootstraps = h.same_bootstraps; same_texts = h.same_texts; same_broken = h.same_broken }
more-follows bootstrap n m h =
    record { same_constants = h.same_constants; same_bootstraps = ap suc h.same_bootstraps; same_texts = h.same_texts; same_broken = h.same_broken }

broken_follows :
    (p q : ℕ) (e : Entry (List ℕ) Reference) (a b : Option ℕ) → is_none a ≡ is_none b → is_none (first_broken p e a) ≡ is_none (first_broken q e b)
unfolding first_broken is_none
broken_follows p q e none none h = go (eqb e.tag 1 && not (is_text e.literal))
  where
    pick : Bool → ℕ → Option ℕ
    pick b n = elim b [ true ↦ some n | false ↦ none ]

    go : (b : Bool) → is_none (pick b p) ≡ is_none (pick b q)
    go true = refl
    go false = refl
broken_follows p q e none (some y) h = true≢false h
broken_follows p q e (some x) none h = true≢false (sym h)
broken_follows p q e (some x) (some y) h = refl

-- alike counts stay alike with one more definition
counted-follows : (d : Definition (List ℕ)) (n m : Counts) → CountsAlike n m → CountsAlike (counted d n) (counted d m)
unfolding counted one_record with_broken one_setting
counted-follows (define e) n m h =
    let more = more-follows (kind_of e.tag) n m h in
    record {
      same_constants = more.same_constants;
      same_bootstraps = more.same_bootstraps;
      same_texts = more.same_texts;
      same_broken = broken_follows n.records m.records e n.broken m.broken h.same_broken;
    }
counted-follows (named kind s r) n m h =
    record { same_constants = h.same_constants; same_bootstraps = h.same_bootstraps; same_texts = h.same_texts; same_broken = h.same_broken }
counted-follows (placed kind at number) n m h =
    record { same_constants = h.same_constants; same_bootstraps = h.same_bootstraps; same_texts = h.same_texts; same_broken = h.same_broken }
counted-follows (setting (version v)) n m h =
    record { same_constants = h.same_constants; same_bootstraps = h.same_bootstraps; same_texts = h.same_texts; same_broken = h.same_broken }
counted-follows (setting texts) n m h =
    record { same_constants = h.same_constants; same_bootstraps = h.same_bootstraps; same_texts = ap suc h.same_texts; same_broken = h.same_broken }
counted-follows (setting (highest top)) n m h =
    record { same_constants = h.same_constants; same_bootstraps = h.same_bootstraps; same_texts = h.same_texts; same_broken = h.same_broken }

-- one that may move counts as nothing
moving-counts : (d : Definition (List ℕ)) (n : Counts) → may_move d ≡ true → CountsAlike (counted d n) n
unfolding counted one_record may_move
moving-counts (define e) n h = true≢false (sym h)
moving-counts (named kind s r) n h = record { same_constants = refl; same_bootstraps = refl; same_texts = refl; same_broken = refl }
moving-counts (placed kind at number) n h = record { same_constants = refl; same_bootstraps = refl; same_texts = refl; same_broken = refl }
moving-counts (setting rule) n h = true≢false (sym h)

counted-turned :
    (x y : Definition (List ℕ)) (n : Counts) → (may_move x || may_move y) ≡ true → CountsAlike (counted y (counted x n)) (counted x (counted y n))
counted-turned x y n h = go (may_move x) refl h
  where
    go : (b : Bool) → may_move x ≡ b → (b || may_move y) ≡ true → CountsAlike (counted y (counted x n)) (counted x (counted y n))
    go true e h =
        both (counted y (counted x n)) (counted y n) (counted x (counted y n))
        (counted-follows y (counted x n) n (moving-counts x n e))
        (back (counted x (counted y n)) (counted y n) (moving-counts x (counted y n) e))
    go false e h =
        both (counted y (counted x n)) (counted x n) (counted x (counted y n))
        (moving-counts y (counted x n) h)
        (counted-follows x n (counted y n) (back (counted y n) n (moving-counts y n h)))

after_follows : (ds : List (Definition (List ℕ))) (n m : Counts) → CountsAlike n m → CountsAlike (counts_after n ds) (counts_after m ds)
after_follows [] n m h = h
after_follows (d ∷ ds) n m h = after_follows ds (counted d n) (counted d m) (counted-follows d n m h)

after_turned :
    (before after : List (Definition (List ℕ))) (x y : Definition (List ℕ)) (n : Counts) →
    (may_move x || may_move y) ≡ true →
    CountsAlike (counts_after n (before ++ x ∷ y ∷ after)) (counts_after n (before ++ y ∷ x ∷ after))
after_turned [] after x y n h = after_follows after (counted y (counted x n)) (counted x (counted y n)) (counted-turned x y n h)
after_turned (d ∷ before) after x y n h = after_turned before after x y (counted d n) h

pub after_exchanged : (ds ds' : List (Definition (List ℕ))) (n : Counts) → Exchanged may_move ds ds' → CountsAlike (counts_after n ds) (counts_after n ds')
after_exchanged ds ds' n (unmoved l) = itself (counts_after n ds)
after_exchanged ds ds' n (exchanged before after x y l h rest) =
    both (counts_after n (before ++ x ∷ y ∷ after)) (counts_after n (before ++ y ∷ x ∷ after)) (counts_after n ds')
    (after_turned before after x y n h)
    (after_exchanged (before ++ y ∷ x ∷ after) ds' n rest)

-- ---- the requests cite entries by the counts

module _ (n m : Counts) (alike : CountsAlike n m) where
  cites-follow : (r : Reference) → cites n r ≡ cites m r
  unfolding cites count_of
  cites-follow (raw number) = refl
  cites-follow (entry constant number) = ap (ltb number) alike.same_constants
  cites-follow (entry bootstrap number) = ap (ltb number) alike.same_bootstraps
  cites-follow (name kind s) = refl

  request_follows : (first : ℕ) (bytes : List ℕ) → form_request n first bytes ≡ form_request m first bytes
  unfolding form_request
  request_follows first bytes = λ i. whole (read_request (lookup first asks) bytes) >>= λ r. unless (cites-follow r.0.what i) 4 >>= λ _. good r

  pub requests_follow : (fuel requests place : ℕ) (bytes : List ℕ) → form_requests fuel n requests place bytes ≡ form_requests fuel m requests place bytes
  unfolding form_requests
  requests_follow zero requests place [] = refl
  requests_follow zero requests place (first ∷ bytes) = refl
  requests_follow (suc fuel) requests place [] = refl
  requests_follow (suc fuel) requests place (first ∷ bytes) =
      λ i. elim (eqb first 0x60) [
        | true ↦
            form_build requests place bytes >>= λ b.
            good (record { list = []; build = b })
        | false ↦
            at_record place (request_follows first bytes i) >>= λ r.
            requests_follow fuel (suc requests) (suc place) r.1 i >>= λ rest.
            good (record { list = r.0 ∷ rest.list; build = rest.build })
      ]

-- ---- 25: a text that isn't one and a 48

abbrev held : Option ℕ → ℕ → Bool
held broken n = is_none broken || eqb n 0

abbrev pub all_held : Counts → Bool
all_held n = held n.broken n.texts

texts_held_lem : (n : Counts) (u : Unit {0}) → texts_held n ≡ good u → all_held n ≡ true
unfolding texts_held is_none at_record
texts_held_lem n u = go n.broken
  where
    told : Option ℕ → Result Refusal (Unit {0})
    told o = elim o [ none ↦ good tt | some place ↦ at_record place (unless (eqb n.texts 0) 25) ]

    go : (o : Option ℕ) → told o ≡ good u → held o n.texts ≡ true
    go none e = refl
    go (some place) e = unless-good (eqb n.texts 0) 25 u (at_record-good place (unless (eqb n.texts 0) 25) u e)

held-texts : (n : Counts) → all_held n ≡ true → texts_held n ≡ good tt
unfolding texts_held is_none at_record unless
held-texts n = go n.broken
  where
    told : Option ℕ → Result Refusal (Unit {0})
    told o = elim o [ none ↦ good tt | some place ↦ at_record place (unless (eqb n.texts 0) 25) ]

    go : (o : Option ℕ) → held o n.texts ≡ true → told o ≡ good tt
    go none e = refl
    go (some place) e = rw e

kinds : (kind : Kind) (n : Counts) → (one_more_lem kind n).texts ≡ n.texts
unfolding one_more_lem
kinds constant n = refl
kinds bootstrap n = refl

first_kept : (p : ℕ) (e : Entry (List ℕ) Reference) (place : ℕ) → first_broken p e (some place) ≡ some place
unfolding first_broken
first_kept p e place = refl

-- held with one more, held before
held-before : (d : Definition (List ℕ)) (n : Counts) → all_held (counted d n) ≡ true → all_held n ≡ true
unfolding counted one_record with_broken one_setting is_none
held-before (define e) n h = go n.broken (ap (λ t. held (first_broken n.records e n.broken) t) (sym (same (kind_of e.tag))) ∙ h)
  where
    same : (kind : Kind) → (one_more_lem kind n).texts ≡ n.texts
    same kind = kinds kind n

    go : (o : Option ℕ) → held (first_broken n.records e o) n.texts ≡ true → held o n.texts ≡ true
    go none h = refl
    go (some place) h = earlier place h
      where
        earlier : (place : ℕ) → held (first_broken n.records e (some place)) n.texts ≡ true → eqb n.texts 0 ≡ true
        earlier place h = ap (λ o. held o n.texts) (sym (first_kept n.records e place)) ∙ h
held-before (named kind s r) n h = h
held-before (placed kind at number) n h = h
held-before (setting (version v)) n h = h
held-before (setting texts) n h = go n.broken h
  where
    go : (o : Option ℕ) → held o (suc n.texts) ≡ true → held o n.texts ≡ true
    go none h = refl
    go (some place) h = let e = eqb-true (suc n.texts) 0 h in absurd (omega arith)
held-before (setting (highest top)) n h = h

held_back : (ds : List (Definition (List ℕ))) (n : Counts) → all_held (counts_after n ds) ≡ true → all_held n ≡ true
held_back [] n h = h
held_back (d ∷ ds) n h = held-before d n (held_back ds (counted d n) h)

pub held-alike : (n m : Counts) → CountsAlike n m → all_held n ≡ all_held m
held-alike n m h = λ i. h.same_broken i || eqb (h.same_texts i) 0

-- ---- every other judgement is of the record alone, or is 3, 4 or 5

abbrev pub Of345 : ℕ → Type 0
Of345 code = (code ≡ 3) ⊎ ((code ≡ 4) ⊎ (code ≡ 5))

-- whatever came before it, a record is let through, or is refused 3, 4 or 5
abbrev pub Sound : List ℕ → Type 0
Sound r = (n : Counts) → Ends Of345 Anything (judged n r)

stands_sound : (d : Definition (List ℕ)) (n₀ n : Counts) (u : Unit {0}) → may_stand n₀ d ≡ good u → Ends Of345 Anything (may_stand n d)
unfolding may_stand unless
stands_sound (define e) n₀ n u h = well tt
stands_sound (named kind s r) n₀ n u h = well tt
stands_sound (placed kind at number) n₀ n u h = well tt
stands_sound (setting (version v)) n₀ n u h = unless-ends (eqb n.versions 0) 3 (inl refl)
stands_sound (setting texts) n₀ n u h = unless-ends (eqb n.texts 0) 3 (inl refl)
stands_sound (setting (highest top)) n₀ n u h =
    let is : is_slot top ≡ true = unless-good (is_slot top) 26 u (unless-first (eqb n₀.records 0) 3 _ u h).1 in
    next _ (unless-ends (eqb n.records 0) 3 (inl refl)) λ _ _. rw is (well tt)

judged-sound : (r : List ℕ) (n₀ : Counts) (u : Unit {0}) → judged n₀ r ≡ good u → Sound r
unfolding judged
judged-sound r n₀ u h =
    good_then (may_stand n₀ (definition_of r)) _ u h λ u₁ stands h₁.
    good_then (unless (has_room n₀ (definition_of r)) 5) _ u h₁ λ _ _ h₂.
    good_then (unless (cites_earlier n₀ (definition_of r)) 4) _ u h₂ λ _ _ folded.
    λ n.
    next _ (stands_sound (definition_of r) n₀ n u₁ stands) λ _ _.
    next _ (unless-ends (has_room n (definition_of r)) 5 (inr (inr refl))) λ _ _.
    next _ (unless-ends (cites_earlier n (definition_of r)) 4 (inr (inl refl))) λ _ _.
    rw folded (well tt)

-- what passed was sound, and its texts are held
pub passed-sound :
    (rs : List (List ℕ)) (n : Counts) (place : ℕ) (c : Counts) →
    all_held n ≡ true →
    passed n place rs ≡ good c →
    Each Sound rs × (c ≡ counts_after n (map definition_of rs)) × (all_held c ≡ true)
unfolding passed
passed-sound [] n place c ok h = (tt, sym (good_inj h), ap all_held (sym (good_inj h)) ∙ ok)
passed-sound (r ∷ rs) n place c ok h =
    good_then (at_record place (judged n r)) _ c h λ u here h₁.
    good_then (texts_held (counted (definition_of r) n)) _ c h₁ λ v texts h₂.
    let (sound, is, held) = passed-sound rs (counted (definition_of r) n) (suc place) c (texts_held_lem (counted (definition_of r) n) v texts) h₂ in
    ((judged-sound r n u (at_record-good place (judged n r) u here), sound), is, held)

-- what is sound passes where its texts are held, or is refused 3, 4 or 5
pub sound_passed :
    (rs : List (List ℕ)) (n : Counts) (place : ℕ) →
    Each Sound rs →
    all_held (counts_after n (map definition_of rs)) ≡ true →
    Ends (λ e. Of345 e.code) (λ c. c ≡ counts_after n (map definition_of rs)) (passed n place rs)
unfolding passed
sound_passed [] n place sound held = well refl
sound_passed (r ∷ rs) n place sound held =
    let now = counted (definition_of r) n in
    next _ (at_record-ends place (sound.0 n)) λ _ _.
    rw (held-texts now (held_back (map definition_of rs) now held)) (sound_passed rs now (suc place) sound.1 held)
