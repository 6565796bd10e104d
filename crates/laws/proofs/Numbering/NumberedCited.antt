-- What a job cites is there, and of its kind, also once literals are numbers. Assumes nothing.
use mathlib.Core.Bool.{not}
use mathlib.Core.List.{List, [], ◌∷◌, map}
use mathlib.Core.Option.{some}
use mathlib.Core.Path.{◌≡◌, refl, ap, ◌∙◌}
use Prim.Native.Nat.{ℕ}
use lib.ListN.{length, get_elem?, length-map}
use Rattle.definition.specs.Shapes.{Kind, with_literal, constant, bootstrap}
use Rattle.definition.specs.Job.{Reference, raw, entry, name, Definition, define, named, placed, setting, Job}
use Rattle.definition.specs.Numbering.{Literal, entries, is_bootstrap, constants_of, bootstraps_of, literals, numbered_entry, numbered_definition, numbered}
use Rattle.facts.proofs.Lists.{map-some, only-map}
use Rattle.laws.proofs.Form.CitedEntries.{Cites, AllCited, AllOfKind, Cited}
use Rattle.laws.specs.Counted.{count_in}

-- numbers for literals change nothing else
entries-numbered : (all : List Literal) (ds : List (Definition (List ℕ))) → entries (map (numbered_definition all) ds) ≡ map (numbered_entry all) (entries ds)
unfolding entries numbered_definition
entries-numbered all [] = refl
entries-numbered all (define e ∷ ds) = ap (λ l. numbered_entry all e ∷ l) (entries-numbered all ds)
entries-numbered all (named kind s r ∷ ds) = entries-numbered all ds
entries-numbered all (placed kind at n ∷ ds) = entries-numbered all ds
entries-numbered all (setting rule ∷ ds) = entries-numbered all ds

module _ (job : Job (List ℕ)) where
  pub constants_numbered_lem : constants_of (numbered job).definitions ≡ map (numbered_entry (literals job)) (constants_of job.definitions)
  unfolding constants_of numbered is_bootstrap numbered_entry with_literal
  constants_numbered_lem =
      rw (entries-numbered (literals job) job.definitions)
      (only-map (λ e. not (is_bootstrap e)) (λ e. not (is_bootstrap e)) (numbered_entry (literals job)) (entries job.definitions) (λ _. refl))

  pub bootstraps_numbered : bootstraps_of (numbered job).definitions ≡ map (numbered_entry (literals job)) (bootstraps_of job.definitions)
  unfolding bootstraps_of numbered is_bootstrap numbered_entry with_literal
  bootstraps_numbered =
      rw (entries-numbered (literals job) job.definitions)
      (only-map is_bootstrap is_bootstrap (numbered_entry (literals job)) (entries job.definitions) (λ _. refl))

  pub count_numbered : (kind : Kind) → count_in kind (numbered job).definitions ≡ count_in kind job.definitions
  unfolding count_in
  count_numbered constant = ap length constants_numbered_lem ∙ length-map (constants_of job.definitions) (numbered_entry (literals job))
  count_numbered bootstrap = ap length bootstraps_numbered ∙ length-map (bootstraps_of job.definitions) (numbered_entry (literals job))

-- so the references still cite what is there
cites-as : {L M : Type 0} (ds : List (Definition L)) (es : List (Definition M)) (r : Reference) → ((kind : Kind) → count_in kind es ≡ count_in kind ds) → Cites ds r → Cites es r
unfolding Cites
cites-as ds es (raw n) h c = tt
cites-as ds es (entry kind n) h c = rw (h kind) c
cites-as ds es (name kind s) h c = tt

all_numbered_lem :
    (all : List Literal) (ds : List (Definition (List ℕ))) (es : List (Definition ℕ)) (x : Definition (List ℕ)) →
    ((kind : Kind) → count_in kind es ≡ count_in kind ds) →
    AllCited ds x →
    AllOfKind x →
    AllCited es (numbered_definition all x) × AllOfKind (numbered_definition all x)
unfolding AllCited AllOfKind numbered_definition numbered_entry with_literal
all_numbered_lem all ds es (define e) h c k = (λ i r p. cites-as ds es r h (c i r p), k)
all_numbered_lem all ds es (named kind s r) h c k = (cites-as ds es r h c, k)
all_numbered_lem all ds es (placed kind at n) h c k = (rw (h kind) c, tt)
all_numbered_lem all ds es (setting rule) h c k = (tt, tt)

pub cited_numbered : (job : Job (List ℕ)) → Cited (List ℕ) job → Cited ℕ (numbered job)
unfolding numbered
cited_numbered job c =
    record {
      definition_cited = λ i x p. (both i x p).0;
      definition_of_kind = λ i x p. (both i x p).1;
      request_cited = λ i q p. cites-as job.definitions (numbered job).definitions q.what (count_numbered job) (c.request_cited i q p);
      request_of_kind = c.request_of_kind;
    }
  where
    both : (i : ℕ) (x : Definition ℕ) → get_elem? (numbered job).definitions i ≡ some x → AllCited (numbered job).definitions x × AllOfKind x
    both i x p =
        let h = map-some (numbered_definition (literals job)) job.definitions i x p in
        rw (← h.2)
        (all_numbered_lem (literals job) job.definitions (numbered job).definitions h.0 (count_numbered job) (c.definition_cited i h.0 h.1)
        (c.definition_of_kind i h.0 h.1))
