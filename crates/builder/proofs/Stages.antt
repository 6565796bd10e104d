-- The definition's layout of a job: what the requests came to, then record 60. Assumes nothing.
use mathlib.Core.List.{List, [], ◌∷◌, ◌++◌}
use mathlib.Core.Path.{◌≡◌, refl, sym, ap, ◌∙◌}
use Prim.Native.Nat.{ℕ, suc, ◌+◌}
use native.Mathlib.Omega.{arith}
use lib.ListN.{length, length-map}
use Rattle.definition.specs.Basics.{Result, good, bad, ◌>>=◌, Refusal, at_record}
use Rattle.definition.specs.Job.{Definition, define, named, placed, setting}
use Rattle.definition.specs.Numbering.{constants_of, bootstraps_of, literals, numbered_definition, numbered}
use Rattle.definition.specs.Definitions.{Defined}
use Rattle.definition.specs.Resolving.{linked}
use Rattle.definition.specs.Places.{table_records, record_of, at_nodes}
use Rattle.definition.specs.Building.{Made, build_all, name_wanted, name_slot}
use Rattle.definition.specs.Layout.{Ready, Layout, answer_all, end_definitions, layout_of, build_layout, index_nodes, layout}
use Rattle.facts.proofs.Results.{good_first, good_inj}
use Rattle.laws.specs.LeadsStatement.{namings}
use Rattle.laws.proofs.Definitions.DefinedAsPlaced.{defined_facts, namings-numbered}
use Rattle.store.specs.JobIn.{job_in, definitions_in, table_of, numbered_in, namings_of, namings_in, constants_in, linked_in}
use Rattle.definitions.specs.Defining.{records_in, defined_in}
use Rattle.definitions.specs.Begun.{fifty_in, begun_in}
use Rattle.definitions.proofs.Handing.{constants_many}
use Rattle.requests.specs.Asked.{requests_in, asked_in}
use Rattle.rows.specs.Rowed.{table_of as rows_of}

-- RESULTS

-- what comes next may go by what the stage gave
next-same :
    {E A B : Type 0} (x : Result E A) (f g : A → Result E B) → ((a : A) → x ≡ good a → f a ≡ g a) → (x >>= f) ≡ (x >>= g)
next-same (good a) f g same = same a refl
next-same (bad e) f g same = refl

-- three stages, what each gave handed on
module _ {E A B C D L : Type 0} (second : A → Result E B) (third : A → B → Result E (C × D)) (last : A × B × C × D → Result E L) where
  abbrev both : A → Result E (A × B)
  both a = second a >>= λ b. good (a, b)

  abbrev all : A × B → Result E (A × B × C × D)
  all p = third p.0 p.1 >>= λ c. good (p.0, p.1, c.0, c.1)

  after_third : (a : A) (b : B) (z : Result E (C × D)) → (z >>= λ c. last (a, b, c.0, c.1)) ≡ (◌>>=◌ {A = C × D} {B = A × B × C × D} z (λ c. good (a, b, c.0, c.1)) >>= last)
  after_third a b (bad e) = refl
  after_third a b (good c) = refl

  after_second :
      (a : A) (y : Result E B) →
      (y >>= λ b. third a b >>= λ c. last (a, b, c.0, c.1)) ≡ (◌>>=◌ {A = B} {B = A × B} y (λ b. good (a, b)) >>= all >>= last)
  after_second a (bad e) = refl
  after_second a (good b) = after_third a b (third a b)

  in_turn : (x : Result E A) → (x >>= λ a. second a >>= λ b. third a b >>= λ c. last (a, b, c.0, c.1)) ≡ (x >>= both >>= all >>= last)
  in_turn (bad e) = refl
  in_turn (good a) = after_second a (second a)

-- NAMES, and as many records

all_namings : (ds : List (Definition (List ℕ))) → namings ds ≡ namings_of ds
unfolding namings namings_of
all_namings [] = refl
all_namings (define e ∷ ds) = all_namings ds
all_namings (named kind l r ∷ ds) = ap (λ rest. record { kind = kind; label = l; target = r } ∷ rest) (all_namings ds)
all_namings (placed kind at n ∷ ds) = all_namings ds
all_namings (setting rule ∷ ds) = all_namings ds

pub records-many : (s : List ℕ) → length (records_in s) ≡ length (definitions_in s)
unfolding records_in numbered definitions_in
records-many s = length-map (job_in s).definitions (numbered_definition (literals (job_in s)))

module _ (top : ℕ) (s : List ℕ) where
  pub names_are_lem : (d : Defined) → defined_in top s ≡ good d → d.names ≡ namings_in s
  unfolding records_in definitions_in
  names_are_lem d is =
      (defined_facts top (constants_of (records_in s)) (records_in s) d is).all_names
      ∙ namings-numbered (job_in s)
      ∙ all_namings (job_in s).definitions

  pub linked-is :
      (d : Defined) → defined_in top s ≡ good d →
      linked d.names (length (constants_of (records_in s))) (constants_of (records_in s) ++ bootstraps_of (records_in s)) ≡ linked_in s
  unfolding linked_in numbered_in table_of records_in
  linked-is d is = rw (names_are_lem d is, constants_many s)

  -- RECORD 60

  -- the record's number
  abbrev pub sixty : ℕ
  sixty = suc (length (definitions_in s) + length (job_in s).requests)

  -- the record, where the requests have come to this
  unfoldable pub sixty_in : Defined × Ready × List ℕ × Ready → Result Refusal Layout
  sixty_in r =
      build_layout top (table_records (records_in s)) sixty (index_nodes (constants_in s) r.3.resolved.marks r.0.indexes) (job_in s).build r.2 r.3

  pub layout_is : layout top (numbered (job_in s)) ≡ (asked_in top s >>= sixty_in)
  unfolding layout asked_in begun_in fifty_in requests_in sixty_in records_in numbered
  layout_is =
      next-same (defined_in top s) _
      (λ d.
      at_record (length (definitions_in s)) (end_definitions top (linked_in s) (constants_in s) d) >>= λ w.
      answer_all d.names (constants_in s) (suc (length (definitions_in s))) (job_in s).requests w >>= λ r.
      sixty_in (d, w, r.0, r.1))
      (λ d is.
      let size = constants_many s in
      let place : suc (length (definitions_in s)) + length (job_in s).requests ≡ sixty = omega arith in
      rw (linked-is d is, size, records-many s, place))
      ∙ in_turn
      (λ d. at_record (length (definitions_in s)) (end_definitions top (linked_in s) (constants_in s) d))
      (λ d w. answer_all d.names (constants_in s) (suc (length (definitions_in s))) (job_in s).requests w)
      sixty_in
      (defined_in top s)

  -- THE REQUESTS

  pub refused_asking : (r : Refusal) → asked_in top s ≡ bad r → layout top (numbered (job_in s)) ≡ bad r
  refused_asking r is = layout_is ∙ ap (λ x. x >>= sixty_in) is

  module _ (d : Defined) (ready : Ready) (answers : List ℕ) (asked : Ready) (is : asked_in top s ≡ good (d, ready, answers, asked)) where
    begun_is :
        defined_in top s ≡ good d → end_definitions top (linked_in s) (constants_in s) d ≡ good ready → begun_in top s ≡ good (d, ready)
    unfolding begun_in fifty_in at_record
    begun_is defined fifty = ap (λ x. x >>= fifty_in top s) defined ∙ ap (λ x. at_record (length (definitions_in s)) x >>= λ w. good (d, w)) fifty

    -- what they came to, where record 50 came to what they started from
    pub asked_is :
        defined_in top s ≡ good d → end_definitions top (linked_in s) (constants_in s) d ≡ good ready →
        answer_all d.names (constants_in s) (suc (length (definitions_in s))) (job_in s).requests ready ≡ good (answers, asked)
    unfolding asked_in requests_in
    asked_is defined fifty =
        let (r, e, f) = good_first {A = List ℕ × Ready} _ _ _ (sym (ap (λ x. x >>= requests_in s) (begun_is defined fifty)) ∙ is) in
        e ∙ ap (λ (x : Defined × Ready × List ℕ × Ready). good (x.2, x.3)) (good_inj f)

    -- BUILDING, AND THE NAME

    at_sixty : layout top (numbered (job_in s)) ≡ sixty_in (d, ready, answers, asked)
    at_sixty = layout_is ∙ ap (λ x. x >>= sixty_in) is

    abbrev built_in : Result Refusal Made
    built_in = build_all asked.resolved.nodes (index_nodes (constants_in s) asked.resolved.marks d.indexes) asked.pool

    -- building is refused at a node, and so at its record
    pub refused_building :
        (r : Refusal) → built_in ≡ bad r →
        layout top (numbered (job_in s)) ≡ bad (record { code = r.code; place = record_of (table_records (records_in s)) asked.resolved.marks r.place })
    unfolding sixty_in build_layout at_nodes
    refused_building r built = at_sixty ∙ rw built

    pub refused_naming :
        (m : Made) (r : ℕ) → built_in ≡ good m →
        name_slot (name_wanted (job_in s).build.name_byte (length (rows_of m.rows))) asked.resolved.nodes m ≡ bad r →
        layout top (numbered (job_in s)) ≡ bad (record { code = r; place = sixty })
    unfolding sixty_in build_layout at_nodes at_record
    refused_naming m r built name = at_sixty ∙ rw (built, name)

    pub laid_out :
        (m : Made) (r : ℕ × Made) → built_in ≡ good m →
        name_slot (name_wanted (job_in s).build.name_byte (length (rows_of m.rows))) asked.resolved.nodes m ≡ good r →
        layout top (numbered (job_in s)) ≡ good (layout_of top answers asked.origins asked.resolved.visits (job_in s).build.class (rows_of m.rows) r)
    unfolding sixty_in build_layout at_nodes at_record
    laid_out m r built name = at_sixty ∙ rw (built, name)
