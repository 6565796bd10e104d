-- The two loops of the form pass: what is left to do from a place on comes to the whole. Assumes nothing.
use mathlib.Core.Bool.{Bool, true, false, ◌&&◌, not}
use mathlib.Core.List.{List, [], ◌∷◌}
use mathlib.Core.Option.{Option, none, some}
use mathlib.Core.Path.{◌≡◌, refl, sym, ap, subst, ◌∙◌}
use Prim.Native.Nat.{ℕ, zero, suc, ◌+◌, ◌-◌, ◌≤◌, ◌<◌}
use native.Mathlib.Nat.{add-zero, add-suc}
use native.Mathlib.Numerals.{add-one}
use native.Mathlib.Omega.{arith}
use lib.Dec.{eqb}
use lib.ListN.{length, get_or, drop, drop_of_length-le}
use lib.Seq.{drop-cons}
use borrow.Author.Tests.{eq-eqb, ne_eqb}
use Rattle.facts.proofs.Lists.{true≢false}
use Rattle.definition.specs.Basics.{Result, good, bad, ◌>>=◌, Refusal, at_record, unless, only}
use Rattle.definition.specs.Settings.{version, texts, highest}
use Rattle.definition.specs.Shapes.{Kind, constant, bootstrap, Entry}
use Rattle.definition.specs.Texts.{is_text}
use Rattle.definition.specs.Job.{Reference, Definition, define, named, placed, setting, Request, Build}
use Rattle.definition.specs.Form.{Counts, nothing_yet, kind_of, one_more_lem, one_setting, first_broken, with_broken, one_record, counted, texts_held, form_definition, Definitions, form_definitions, form_request, form_build, Requests, form_requests}
use Rattle.definition.specs.Numbering.{entries, constants_of, bootstraps_of}
use Rattle.definition.specs.Definitions.{same_kind_lem}
use Rattle.job.specs.declared.JobCounts.{JobCounts}
use Rattle.std.specs.Prelude as std
use Rattle.std.specs.Prelude.{Some, None, Ok, Err}
use Rattle.std.specs.Result.{MatchResult, IfOk, IsErrAnd}
use Rattle.refusal.specs.declared.Refusal as refusals
use Rattle.refusal.specs.declared.Refused.{Refused}
use Rattle.job.specs.Forms.{is_version, is_holding, is_broken, as_broken, broken_with, broken_at, references_in, version_from, highest_from, counts_of, more, texts_hold, tables_in, Moved, Holding, DefinitionsLeft, tallied, place_of, formed_requests, formed_build}
use Rattle.job.specs.Stored.{Found, any_definition}
use Rattle.job.proofs.Expressions.{formed_stands}
use Rattle.job.proofs.Laws.{one_at}
use Rattle.job.proofs.Settling.{broken_there, text_within}
use Rattle.job.proofs.Blind.{definition_blind}
use Rattle.job.proofs.Counting.{more-none, more-cons, in_table, one-constant, one-bootstrap}

-- ---- a refusal that is given its place, by `map_err`

module _ {T : Type 0} (r : std.Result T refusals.Refusal) (s : std.Result T Refused) (place : ℕ) (mapped : MatchResult r (λ x. s ≡ Ok x) (λ e. IsErrAnd s (λ q. q ≡ record { refusal = e; place = place }))) where
  pub placed_good : (x : T) → s ≡ Ok x → r ≡ Ok x
  placed_good x is = ways r mapped
    where
      ways : (r : std.Result T refusals.Refusal) → MatchResult r (λ x. s ≡ Ok x) (λ e. IsErrAnd s (λ q. q ≡ record { refusal = e; place = place })) → r ≡ Ok x
      ways (Ok y) h = ap Ok (subst (λ z. IfOk z (λ v. v ≡ x)) (sym is ∙ h) refl)
      ways (Err e) h = absurd (rw is at h)

  pub placed_bad : (q : Refused) → s ≡ Err q → (e : refusals.Refusal) × (r ≡ Err e) × (q ≡ record { refusal = e; place = place })
  placed_bad q is = ways r mapped
    where
      ways : (r : std.Result T refusals.Refusal) → MatchResult r (λ x. s ≡ Ok x) (λ e. IsErrAnd s (λ q. q ≡ record { refusal = e; place = place })) → (e : refusals.Refusal) × (r ≡ Err e) × (q ≡ record { refusal = e; place = place })
      ways (Ok y) h = absurd (subst (λ z. IsErrAnd z (λ _. Unit {0})) (sym is ∙ h) tt)
      ways (Err e) h = (e, refl, rw is at h)

-- ---- the definitions

pub no_definitions : (fuel : ℕ) (n : Counts) (place : ℕ) → form_definitions fuel n place [] ≡ bad (record { code = 3; place = place })
unfolding form_definitions
no_definitions zero n place = refl
no_definitions (suc fuel) n place = refl

-- one definition in front
pub tallied-cons :
    (c : JobCounts) (v : Definition (List ℕ)) (x : Result Refusal Definitions) →
    tallied c (x >>= λ d. good (record { list = v ∷ d.list; counts = d.counts; rest = d.rest })) ≡ tallied (more c (v ∷ []) 0) x
unfolding tallied
tallied-cons c v (good d) = rw (more-cons c v d.list)
tallied-cons c v (bad refusal) = refl

-- the first text that isn't one, with a definition more
unfoldable pub broken_behind : ℕ → Definition (List ℕ) → Option ℕ → Option ℕ
broken_behind place (define e) b = first_broken place e b
broken_behind place (named kind s r) b = b
broken_behind place (placed kind at number) b = b
broken_behind place (setting s) b = b

-- what is no text leaves it
unbroken : (place : ℕ) (b : std.Option ℕ) → as_broken b ≡ as_broken (broken_with place false b)
unfolding broken_with
unbroken place None = refl
unbroken place (Some b) = refl

broken_counted : (place : ℕ) (d : Definition (List ℕ)) (b : std.Option ℕ) → broken_behind place d (as_broken b) ≡ as_broken (broken_with place (is_broken d) b)
unfolding broken_behind first_broken as_broken broken_with is_broken
broken_counted place (define e) None = ways (eqb e.tag 1 && not (is_text e.literal))
  where
    ways : (t : Bool) → elim t [ true ↦ some place | false ↦ none ] ≡ as_broken (elim t [ true ↦ Some place | false ↦ None ])
    ways true = refl
    ways false = refl
broken_counted place (define e) (Some earlier) = refl
broken_counted place (named kind s r) b = unbroken place b
broken_counted place (placed kind at number) b = unbroken place b
broken_counted place (setting s) b = unbroken place b

entry_counted :
    (e : Entry (List ℕ) Reference) (c : JobCounts) (b : Option ℕ) (kind : Kind) → kind_of e.tag ≡ kind →
    one_record (with_broken (first_broken c.definitions e b) (one_more_lem kind (Holding c b))) ≡ Holding (more c (define e ∷ []) 0) (first_broken c.definitions e b)
unfolding one_more_lem with_broken one_record same_kind_lem
entry_counted e c b constant h = rw (one-constant c e (in_table e constant h)) (simp (add-one, add-zero))
entry_counted e c b bootstrap h = rw (one-bootstrap c e (in_table e bootstrap h)) (simp (add-one, add-zero))

tables_counted : (v : Definition (List ℕ)) (c : JobCounts) (b : Option ℕ) → counted v (Holding c b) ≡ Holding (more c (v ∷ []) 0) (broken_behind c.definitions v b)
unfolding counted one_record one_setting more constants_of bootstraps_of entries only is_version is_holding broken_behind
tables_counted (define e) c b = entry_counted e c b (kind_of e.tag) refl
tables_counted (named kind s r) c b = simp (add-one, add-zero)
tables_counted (placed kind at number) c b = simp (add-one, add-zero)
tables_counted (setting (version v)) c b = simp (add-one, add-zero)
tables_counted (setting texts) c b = simp (add-one, add-zero)
tables_counted (setting (highest n)) c b = simp (add-one, add-zero)

counted-left :
    (s : List ℕ) (next : ℕ) (c : JobCounts) (v : Definition (List ℕ)) (b : Option ℕ) →
    tallied (more c (v ∷ []) 0) (form_definitions (length s - (c.definitions + 1)) (Holding (more c (v ∷ []) 0) b) (suc c.definitions) (drop next s))
    ≡ DefinitionsLeft s next (more c (v ∷ []) 0) b
unfolding more
counted-left s next c v b = rw (← add-one c.definitions)

-- ---- 25

broken_first : (place : ℕ) → as_broken (Some place) ≡ some place
unfolding as_broken
broken_first place = refl

held : (place : ℕ) (t : Bool) → t ≡ true → at_record place (unless t 25) ≡ good (tt {0})
unfolding unless at_record
held place true h = refl
held place false h = true≢false (sym h)

module _ (c : JobCounts) where
  -- without a record 48 any text may stand
  texts_free : c.texts ≡ 0 → (b : Option ℕ) → texts_held (Holding c b) ≡ good (tt {0})
  unfolding texts_held
  texts_free h none = refl
  texts_free h (some place) = held place (eqb c.texts 0) (eq-eqb c.texts 0 h)

  -- a text that isn't one is told as the definition tells it
  texts_told : (broken : std.Option ℕ) → texts_held (Holding c (as_broken broken)) ≡ texts_hold c.texts broken
  unfolding texts_hold texts_held as_broken
  texts_told None = refl
  texts_told (Some place) = refl

  texts_good : (broken : std.Option ℕ) → texts_hold c.texts broken ≡ good (tt {0}) → texts_held (Holding c (as_broken broken)) ≡ good (tt {0})
  texts_good broken h = texts_told broken ∙ h

  texts_bad : (broken : std.Option ℕ) (refusal : Refusal) → texts_hold c.texts broken ≡ bad refusal → texts_held (Holding c (as_broken broken)) ≡ bad refusal
  texts_bad broken refusal h = texts_told broken ∙ h

module _ (s : List ℕ) (at : ℕ) (c : JobCounts) (b : Option ℕ) where
  pub definitions_none : length s ≤ at → DefinitionsLeft s at c b ≡ bad (record { code = 3; place = c.definitions })
  unfolding tallied
  definitions_none h = rw (drop_of_length-le s h, no_definitions (length s - c.definitions) (Holding c b) c.definitions)

  module _ (low : at < length s) (small : c.definitions ≤ at) where
    -- the fuel isn't out, and a byte stands there
    definitions_here :
        DefinitionsLeft s at c b ≡ tallied c (form_definitions (suc (length s - (c.definitions + 1))) (Holding c b) c.definitions (get_or s at 0 ∷ drop (at + 1) s))
    definitions_here =
        let fuel : length s - c.definitions ≡ suc (length s - (c.definitions + 1)) = omega arith in
        rw (fuel, drop-cons s at 0 low, ← add-one at)

    -- one record is read as with no such text
    read_here : form_definition (Holding c b) (get_or s at 0) (drop (at + 1) s) ≡ form_definition (tables_in c) (get_or s at 0) (drop (at + 1) s)
    unfolding with_broken
    read_here = definition_blind (tables_in c) b (get_or s at 0) (drop (at + 1) s)

    pub definitions_end : get_or s at 0 ≡ 0x50 → DefinitionsLeft s at c b ≡ good (c, tables_in c, drop (at + 1) s)
    unfolding form_definitions tallied with_broken
    definitions_end e = definitions_here ∙ rw (eq-eqb (get_or s at 0) 0x50 e, form_definitions) (rw (more-none c))

    module _ (e : get_or s at 0 ≡ 0x50 → ⊥) where
      pub definitions_bad :
          (code : ℕ) → form_definition (tables_in c) (get_or s at 0) (drop (at + 1) s) ≡ bad code →
          DefinitionsLeft s at c b ≡ bad (record { code = code; place = c.definitions })
      unfolding form_definitions tallied at_record
      definitions_bad code h = definitions_here ∙ rw (ne_eqb (get_or s at 0) 0x50 e, form_definitions, read_here, h)

      module _ (next : ℕ) (d : JobCounts) (m : Moved (form_definition (tables_in c)) (λ v. v ∷ []) 0 s at c next d) where
        definitions_next :
            texts_held (Holding d (broken_behind c.definitions m.value b)) ≡ good (tt {0}) →
            DefinitionsLeft s at c b ≡ DefinitionsLeft s next d (broken_behind c.definitions m.value b)
        unfolding form_definitions at_record
        definitions_next holds =
            let still = rw m.count at holds in
            let behind = broken_behind c.definitions m.value b in
            definitions_here
            ∙ rw (ne_eqb (get_or s at 0) 0x50 e, form_definitions, read_here, m.read, tables_counted m.value c b, still)
            (tallied-cons c m.value (form_definitions (length s - (c.definitions + 1)) (Holding (more c (m.value ∷ []) 0) behind) (suc c.definitions) (drop next s))
            ∙ rw m.count (counted-left s next c m.value behind))

        -- no record 48 yet
        pub definitions_free : d.texts ≡ 0 → DefinitionsLeft s at c b ≡ DefinitionsLeft s next d (broken_behind c.definitions m.value b)
        definitions_free h = definitions_next (texts_free d h (broken_behind c.definitions m.value b))

-- texts are tested
module _ (s : List ℕ) (at : ℕ) (c : JobCounts) (low : at < length s) (small : c.definitions ≤ at) (e : get_or s at 0 ≡ 0x50 → ⊥) where
  module _ (next : ℕ) (d : JobCounts) (m : Moved (form_definition (tables_in c)) (λ v. v ∷ []) 0 s at c next d) where
    moved_found : Found any_definition s at m.value next
    moved_found =
        record {
          read = rw (one_at s at low) (formed_stands (get_or s at 0) (drop (at + 1) s) (tables_in c) (m.value, drop next s) m.read);
          past = omega (arith, m.past);
          within = m.within;
        }

    pub moved_text : get_or s at 0 ≡ 1 → at + 3 ≤ next
    moved_text = text_within s at next m.value moved_found

    module _ (earlier : std.Option ℕ) (here : Bool) (broken : std.Option ℕ) (tests : here ≡ broken_at s at next) (told : broken ≡ broken_with c.definitions here earlier) where
      broken_is : broken_behind c.definitions m.value (as_broken earlier) ≡ as_broken broken
      broken_is =
          broken_counted c.definitions m.value earlier
          ∙ ap as_broken (sym (told ∙ ap (λ t. broken_with c.definitions t earlier) (tests ∙ broken_there s at next m.value moved_found)))

      pub definitions_held : texts_hold d.texts broken ≡ good (tt {0}) → DefinitionsLeft s at c (as_broken earlier) ≡ DefinitionsLeft s next d (as_broken broken)
      definitions_held holds =
          definitions_next s at c (as_broken earlier) low small e next d m (rw broken_is (texts_good d broken holds))
          ∙ ap (DefinitionsLeft s next d) broken_is

      -- a record 48 and a text that isn't one
      pub definitions_broken : (refusal : Refusal) → texts_hold d.texts broken ≡ bad refusal → DefinitionsLeft s at c (as_broken earlier) ≡ bad refusal
      unfolding form_definitions at_record tallied
      definitions_broken refusal holds =
          let b = rw m.count at (texts_bad d broken refusal holds) in
          definitions_here s at c (as_broken earlier) low small
          ∙ rw (ne_eqb (get_or s at 0) 0x50 e, form_definitions, read_here s at c (as_broken earlier) low small, m.read, tables_counted m.value c (as_broken earlier), broken_is, b)

pub definitions_start : (s : List ℕ) → DefinitionsLeft s 0 (counts_of [] 0) none ≡ tallied (counts_of [] 0) (form_definitions (length s) nothing_yet 0 s)
unfolding counts_of constants_of bootstraps_of entries only
definitions_start s = let e : length s - 0 ≡ length s = omega arith in rw e

-- ---- the requests

-- what is left of them at a place, after what was counted
abbrev pub RequestsLeft : List ℕ → ℕ → JobCounts → Result Refusal JobCounts
RequestsLeft s at c = formed_requests c (form_requests (length s - c.requests) (tables_in c) c.requests (place_of c) (drop at s))

pub no_requests : (fuel : ℕ) (n : Counts) (requests place : ℕ) → form_requests fuel n requests place [] ≡ bad (record { code = 3; place = place })
unfolding form_requests
no_requests zero n requests place = refl
no_requests (suc fuel) n requests place = refl

-- one request in front
pub requests_more : (c : JobCounts) (k : ℕ) → more c [] (suc k) ≡ more (more c [] 1) [] k
unfolding more constants_of bootstraps_of entries only references_in version_from highest_from
requests_more c k = let e : c.requests + suc k ≡ c.requests + 1 + k = omega arith in simp (more, add-zero, e)

pub formed_cons :
    (c : JobCounts) (q : Request) (x : Result Refusal Requests) →
    formed_requests c (x >>= λ r. good (record { list = q ∷ r.list; build = r.build })) ≡ formed_requests (more c [] 1) x
unfolding formed_requests
formed_cons c q (good r) = rw (requests_more c (length r.list))
formed_cons c q (bad refusal) = refl

pub formed_build_lem :
    (c : JobCounts) (x : Result Refusal Build) →
    formed_requests c (x >>= λ b. good (record { list = []; build = b })) ≡ formed_build c x
unfolding formed_requests formed_build
formed_build_lem c (good b) = rw (more-none c)
formed_build_lem c (bad refusal) = refl

pub requested-left :
    (s : List ℕ) (next : ℕ) (c : JobCounts) →
    formed_requests (more c [] 1) (form_requests (length s - (c.requests + 1)) (tables_in c) (suc c.requests) (suc (place_of c)) (drop next s))
    ≡ RequestsLeft s next (more c [] 1)
unfolding more constants_of bootstraps_of entries only
requested-left s next c = simp (add-zero, add-one, add-suc)

module _ (s : List ℕ) (at : ℕ) (c : JobCounts) where
  pub requests_none : length s ≤ at → RequestsLeft s at c ≡ bad (record { code = 3; place = (place_of c) })
  unfolding formed_requests
  requests_none h = rw (drop_of_length-le s h, no_requests (length s - c.requests) (tables_in c) c.requests (place_of c))

  module _ (low : at < length s) (small : c.requests ≤ at) where
    requests_here :
        RequestsLeft s at c ≡ formed_requests c (form_requests (suc (length s - (c.requests + 1))) (tables_in c) c.requests (place_of c) (get_or s at 0 ∷ drop (at + 1) s))
    requests_here =
        let fuel : length s - c.requests ≡ suc (length s - (c.requests + 1)) = omega arith in
        rw (fuel, drop-cons s at 0 low, ← add-one at)

    pub requests_end : get_or s at 0 ≡ 0x60 → RequestsLeft s at c ≡ formed_build c (form_build c.requests (place_of c) (drop (at + 1) s))
    unfolding form_requests
    requests_end e =
        requests_here ∙ rw (eq-eqb (get_or s at 0) 0x60 e, form_requests) (formed_build_lem c (form_build c.requests (place_of c) (drop (at + 1) s)))

    pub requests_bad :
        (code : ℕ) → (get_or s at 0 ≡ 0x60 → ⊥) → form_request (tables_in c) (get_or s at 0) (drop (at + 1) s) ≡ bad code →
        RequestsLeft s at c ≡ bad (record { code = code; place = (place_of c) })
    unfolding form_requests formed_requests at_record
    requests_bad code e h = requests_here ∙ rw (ne_eqb (get_or s at 0) 0x60 e, form_requests, h)

    pub requests_next :
        (next : ℕ) (d : JobCounts) → (get_or s at 0 ≡ 0x60 → ⊥) → Moved (form_request (tables_in c)) (λ q. []) 1 s at c next d →
        RequestsLeft s at c ≡ RequestsLeft s next d
    unfolding form_requests at_record
    requests_next next d e m =
        requests_here
        ∙ rw (ne_eqb (get_or s at 0) 0x60 e, form_requests, m.read)
        (formed_cons c m.value (form_requests (length s - (c.requests + 1)) (tables_in c) (suc c.requests) (suc (place_of c)) (drop next s))
        ∙ rw m.count (requested-left s next c))
