-- What a well-formed job's definitions cite is there, and what a raw constant cites was entered before it. Assumes nothing.
use mathlib.Core.Bool.{true}
use mathlib.Core.List.{List, [], ◌∷◌}
use mathlib.Core.Option.{some}
use mathlib.Core.Path.{◌≡◌, refl, ap, ◌∙◌}
use Prim.Native.Nat.{ℕ, zero, suc, ◌+◌, ◌<◌}
use native.Mathlib.Omega.{arith}
use lib.ListN.{length, get_elem?, take, length-append}
use borrow.Author.Tests.{ltb-true}
use Rattle.definition.specs.Settings.{version, texts, highest}
use Rattle.definition.specs.Shapes.{Kind, constant, bootstrap, Entry}
use Rattle.definition.specs.Job.{Reference, raw, entry, name, Definition, define, named, placed, setting}
use Rattle.definition.specs.Form.{Counts, count_of, kind_of, one_more_lem, one_setting, with_broken, one_record, counted, cites_earlier}
use Rattle.definition.specs.Numbering.{constants_of, bootstraps_of}
use Rattle.definition.specs.Definitions.{same_kind_lem}
use Rattle.laws.specs.Statements.{IsBytes}
use Rattle.facts.proofs.Lists.{none≢some, some_inj}
use Rattle.laws.proofs.Form.DefinitionsRead.{no_entries}
use Rattle.laws.proofs.Form.FormedEntries.{OfKind}
use Rattle.laws.proofs.Form.FormedJobs.{FormedFrom, counts_after, Formed, form-formed}
use Rattle.laws.specs.Counted as Counted
use Rattle.laws.proofs.Form.CitedEntries as Citing
use Rattle.job.specs.Forms.{counts_of}
use Rattle.store.specs.JobIn.{WellFormed, job_in, definitions_in, counts_in, table_of, entries_in, constants_in}
use Rattle.store.proofs.Bounds.{formed_job}
use Rattle.sym_refs.specs.Names.{count_in, CitedIn}
use Rattle.definitions.specs.Kids.{AllCited}
use Rattle.definitions.specs.Defining.{done_in}
use Rattle.definitions.proofs.Prefixes.{first_constant, first_bootstrap, kind-told, none-entered, no_entry, no_constants}

-- so many constants stand behind definitions in turn
one-after : (n : Counts) (d : Definition (List ℕ)) (ds : List (Definition (List ℕ))) → count_of constant (counted d n) + length (constants_of ds) ≡ count_of constant n + length (constants_of (d ∷ ds))
unfolding count_of counted one_more_lem one_setting with_broken one_record no_entry same_kind_lem
one-after n (define x) ds = ways (kind_of x.tag) refl
  where
    ways : (kind : Kind) → kind_of x.tag ≡ kind → count_of constant (one_more_lem (kind_of x.tag) n) + length (constants_of ds) ≡ n.constants + length (constants_of (define x ∷ ds))
    ways constant h = rw (h, (first_constant x ds (kind-told x constant h)).0) (omega arith)
    ways bootstrap h = rw (h, (first_bootstrap x ds (kind-told x bootstrap h)).0)
one-after n (named kind s r) ds = rw (none-entered (named kind s r) ds refl).0
one-after n (placed kind at m) ds = rw (none-entered (placed kind at m) ds refl).0
one-after n (setting (version v)) ds = rw (none-entered (setting (version v)) ds refl).0
one-after n (setting texts) ds = rw (none-entered (setting texts) ds refl).0
one-after n (setting (highest top)) ds = rw (none-entered (setting (highest top)) ds refl).0

constants_after : (n : Counts) (ds : List (Definition (List ℕ))) → count_of constant (counts_after n ds) ≡ count_of constant n + length (constants_of ds)
constants_after n [] = omega (arith, ap length no_constants.0)
constants_after n (d ∷ ds) = constants_after (counted d n) ds ∙ one-after n d ds

-- each definition cites what was counted before it
earlier : (n : Counts) (ds : List (Definition (List ℕ))) (k : ℕ) (x : Definition (List ℕ)) → FormedFrom n ds → get_elem? ds k ≡ some x → cites_earlier (counts_after n (take k ds)) x ≡ true
earlier n [] k x f e = none≢some e
earlier n (d ∷ ds) zero x f e = rw (← some_inj e) f.0.earlier
earlier n (d ∷ ds) (suc k) x f e = earlier (counted d n) ds k x f.1 e

module _ (s : List ℕ) (well : WellFormed s) (bytes : IsBytes s) where
  formed : Formed (job_in s)
  formed = form-formed s (job_in s) bytes (formed_job s well)

  cites-in : (kind : Kind) (r : Reference) → Citing.Cites (definitions_in s) r → OfKind kind r → CitedIn s r
  unfolding Citing.Cites CitedIn Counted.count_in count_in counts_in counts_of
  cites-in kind (raw n) c k = k
  cites-in kind (entry constant n) c k = c
  cites-in kind (entry bootstrap n) c k = c
  cites-in kind (name other l) c k = tt

  module _ (k : ℕ) where
    pub kids_cited : (x : Entry (List ℕ) Reference) → get_elem? (definitions_in s) k ≡ some (define x) → AllCited s x
    unfolding definitions_in
    kids_cited x turn i r h =
        let c = Citing.kid_cited (job_in s) (Citing.formed_cited (job_in s) formed) x (k, turn) i r h in
        cites-in _ r c.0 c.1

    pub name_cited : (kind : Kind) (l : List ℕ) (r : Reference) → get_elem? (definitions_in s) k ≡ some (named kind l r) → CitedIn s r
    unfolding definitions_in
    name_cited kind l r turn =
        let c = Citing.named-cited (job_in s) (Citing.formed_cited (job_in s) formed) kind l r (k, turn) in
        cites-in kind r c.0 c.1

    pub bootstrap_cited : (n e : ℕ) → get_elem? (definitions_in s) k ≡ some (placed bootstrap n e) → constants_in s + e < entries_in s
    unfolding definitions_in table_of Counted.count_in
    bootstrap_cited n e turn =
        let c = Citing.placed-cited (job_in s) (Citing.formed_cited (job_in s) formed) bootstrap n e (k, turn) in
        omega (arith, c, length-append (constants_of (job_in s).definitions) (bootstraps_of (job_in s).definitions))

    pub constant_cited : (n e : ℕ) → get_elem? (definitions_in s) k ≡ some (placed constant n e) → e < length (constants_of (done_in s k))
    unfolding definitions_in cites_earlier count_of
    constant_cited n e turn =
        let h = earlier no_entries (job_in s).definitions k (placed constant n e) formed.definitions turn in
        omega (arith, ltb-true e _ h, constants_after no_entries (done_in s k))
