-- The first text that isn't one changes no test of a single record: only texts_held asks for it. Assumes nothing.
use mathlib.Core.Bool.{Bool, true, false}
use mathlib.Core.List.{List, [], ◌∷◌}
use mathlib.Core.Option.{Option}
use mathlib.Core.Path.{◌≡◌, refl}
use Prim.Native.Nat.{ℕ, zero, suc}
use lib.Dec.{eqb}
use Rattle.definition.specs.Basics.{Result, good, bad, ◌>>=◌, Refusal, at_record, unless, every, lookup}
use Rattle.definition.specs.Settings.{version, texts, highest}
use Rattle.definition.specs.Shapes.{Kind, constant, bootstrap}
use Rattle.definition.specs.Job.{Reference, raw, entry, name, Definition, define, named, placed, setting, Request, read_definition, asks, read_request}
use Rattle.definition.specs.Form.{Counts, count_of, kind_of, with_broken, whole, may_stand, has_room, cites, cites_earlier, comes_out, form_definition, form_request, form_build, Requests, form_requests}

-- what a record goes through once it was read
abbrev definition_tests : Result ℕ (Unit {0}) → Counts → Definition (List ℕ) × List ℕ → Result ℕ (Definition (List ℕ) × List ℕ)
definition_tests out n r =
    may_stand n r.0 >>= λ _.
    unless (has_room n r.0) 5 >>= λ _.
    unless (cites_earlier n r.0) 4 >>= λ _.
    out >>= λ _.
    good r

abbrev request_tests : Counts → Request × List ℕ → Result ℕ (Request × List ℕ)
request_tests n r = unless (cites n r.0.what) 4 >>= λ _. good r

abbrev after_request : ℕ → ℕ → ℕ → Counts → Request × List ℕ → Result Refusal Requests
after_request fuel requests place n r =
    form_requests fuel n (suc requests) (suc place) r.1 >>= λ rest.
    good (record { list = r.0 ∷ rest.list; build = rest.build })

module _ (n : Counts) (b : Option ℕ) where
  count_blind : (kind : Kind) → count_of kind (with_broken b n) ≡ count_of kind n
  unfolding count_of with_broken
  count_blind constant = refl
  count_blind bootstrap = refl

  cites-blind : (r : Reference) → cites (with_broken b n) r ≡ cites n r
  unfolding cites
  cites-blind (raw number) = refl
  cites-blind (entry kind number) = rw (count_blind kind)
  cites-blind (name kind s) = refl

  all_blind : (l : List Reference) → every (cites (with_broken b n)) l ≡ every (cites n) l
  unfolding every
  all_blind [] = refl
  all_blind (r ∷ l) = rw (cites-blind r, all_blind l)

  stand_blind : (d : Definition (List ℕ)) → may_stand (with_broken b n) d ≡ may_stand n d
  unfolding may_stand with_broken
  stand_blind (define e) = refl
  stand_blind (named kind s r) = refl
  stand_blind (placed kind at number) = refl
  stand_blind (setting (version v)) = refl
  stand_blind (setting texts) = refl
  stand_blind (setting (highest top)) = refl

  room_blind : (d : Definition (List ℕ)) → has_room (with_broken b n) d ≡ has_room n d
  unfolding has_room
  room_blind (define e) = rw (count_blind (kind_of e.tag))
  room_blind (named kind s r) = refl
  room_blind (placed kind at number) = refl
  room_blind (setting s) = refl

  earlier_blind : (d : Definition (List ℕ)) → cites_earlier (with_broken b n) d ≡ cites_earlier n d
  unfolding cites_earlier
  earlier_blind (define e) = all_blind e.kids
  earlier_blind (named kind s r) = cites-blind r
  earlier_blind (placed kind at number) = rw (count_blind kind)
  earlier_blind (setting s) = refl

  pub definition_blind : (first : ℕ) (bytes : List ℕ) → form_definition (with_broken b n) first bytes ≡ form_definition n first bytes
  unfolding form_definition
  definition_blind first bytes = ways (whole (read_definition first bytes))
    where
      ways : (x : Result ℕ (Definition (List ℕ) × List ℕ)) → (x >>= definition_tests (comes_out first bytes) (with_broken b n)) ≡ (x >>= definition_tests (comes_out first bytes) n)
      ways (good r) = rw (stand_blind r.0, room_blind r.0, earlier_blind r.0)
      ways (bad code) = refl

  request_blind : (first : ℕ) (bytes : List ℕ) → form_request (with_broken b n) first bytes ≡ form_request n first bytes
  unfolding form_request
  request_blind first bytes = ways (whole (read_request (lookup first asks) bytes))
    where
      ways : (x : Result ℕ (Request × List ℕ)) → (x >>= request_tests (with_broken b n)) ≡ (x >>= request_tests n)
      ways (good r) = rw (cites-blind r.0.what)
      ways (bad code) = refl

  pub requests_blind : (fuel requests place : ℕ) (bytes : List ℕ) → form_requests fuel (with_broken b n) requests place bytes ≡ form_requests fuel n requests place bytes
  unfolding form_requests
  requests_blind zero requests place [] = refl
  requests_blind zero requests place (first ∷ bytes) = refl
  requests_blind (suc fuel) requests place [] = refl
  requests_blind (suc fuel) requests place (first ∷ bytes) = ways (eqb first 0x60) (λ l. requests_blind fuel (suc requests) (suc place) l)
    where
      later :
          (x : Result Refusal (Request × List ℕ)) →
          ((l : List ℕ) → form_requests fuel (with_broken b n) (suc requests) (suc place) l ≡ form_requests fuel n (suc requests) (suc place) l) →
          (x >>= after_request fuel requests place (with_broken b n)) ≡ (x >>= after_request fuel requests place n)
      later (good r) same = rw (same r.1)
      later (bad refusal) same = refl

      ways :
          (t : Bool) →
          ((l : List ℕ) → form_requests fuel (with_broken b n) (suc requests) (suc place) l ≡ form_requests fuel n (suc requests) (suc place) l) →
          ◌≡◌ {A = Result Refusal Requests}
          (elim t [
            | true ↦ form_build requests place bytes >>= (λ b. good (record { list = []; build = b }))
            | false ↦ at_record place (form_request (with_broken b n) first bytes) >>= after_request fuel requests place (with_broken b n)
          ])
          (elim t [
            | true ↦ form_build requests place bytes >>= (λ b. good (record { list = []; build = b }))
            | false ↦ at_record place (form_request n first bytes) >>= after_request fuel requests place n
          ])
      ways true same = refl
      ways false same = rw (request_blind first bytes) (later (at_record place (form_request n first bytes)) same)
