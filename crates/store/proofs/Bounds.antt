-- A well-formed job is the one that its bytes are formed to, its records are laid, and it is small. Assumes nothing.
use mathlib.Core.Bool.{Bool, true, false, not}
use mathlib.Core.List.{List, [], ◌∷◌}
use mathlib.Core.Path.{◌≡◌, refl, sym, ap, subst}
use Prim.Native.Nat.{ℕ, zero, suc, ◌+◌, ◌-◌, ◌*◌, ◌≤◌, ◌<◌}
use native.Mathlib.Omega.{arith}
use lib.Dec.{eqb}
use lib.ListN.{length}
use borrow.Author.Tests.{ltb-true}
use Rattle.definition.specs.Basics.{good, unless, only}
use Rattle.definition.specs.Settings.{version, texts, highest}
use Rattle.definition.specs.Shapes.{Kind, constant, bootstrap, Entry}
use Rattle.definition.specs.Job.{Reference, Definition, define, named, placed, setting, read_definition}
use Rattle.definition.specs.Form.{Counts, count_of, kind_of, one_more_lem, one_setting, with_broken, one_record, counted, whole, may_stand, has_room, cites_earlier, comes_out, form_definition, Definitions, form_definitions, form}
use Rattle.definition.specs.Numbering.{entries, is_bootstrap, constants_of, bootstraps_of}
use Rattle.definition.specs.Definitions.{same_kind_lem}
use Rattle.laws.proofs.Form.DefinitionsRead.{no_entries, formed_definitions, formed_end, formed_step}
use Rattle.facts.proofs.Lists.{found_inside, only_here, only-later}
use Rattle.facts.proofs.Results.{bad≢good, good_inj, good_then, unless-good}
use Rattle.job.specs.Forms.{is_naming, counts_of}
use Rattle.job.specs.Stored.{Laid, any_request}
use Rattle.job.proofs.Counting.{in_table}
use Rattle.job.proofs.Laying.{form-laid}
use Rattle.store.specs.Store.{size}
use Rattle.store.specs.Chains.{Heads}
use Rattle.store.specs.JobIn.{WellFormed, job_in, definitions_in, counts_in, constants_in, namings_of}
use Rattle.store.specs.Regions.{MARKS, INDEXES, NAME-HEADS, NODE-HEADS, RAW-HEADS, ROW-HEADS, OWNER-HEADS, entries_of, raws_of, Work}
use Rattle.store.specs.Small.{Small}
use Rattle.store.proofs.Laying.{work-sizes, work-formed, entries-counted}
use Rattle.store.proofs.Lengths.{Enough, enough-turn, turn_length}

pub formed_job : (s : List ℕ) → WellFormed s → form s ≡ good (job_in s)
unfolding WellFormed job_in
formed_job s ((job, e), short) = rw (e, job_in)

pub formed_laid : (s : List ℕ) → WellFormed s → Laid s (job_in s)
formed_laid s h = form-laid s (job_in s) (formed_job s h)

pub formed_short : (s : List ℕ) → WellFormed s → length s ≤ 1048576
unfolding WellFormed
formed_short s h = h.1

-- ---- neither table has more than 65,536 entries

abbrev Fit : Counts → List (Definition (List ℕ)) → Type 0
Fit n list = (n.constants + length (constants_of list) ≤ 65536) × (n.bootstraps + length (bootstraps_of list) ≤ 65536)

fit_none : (n : Counts) → n.constants ≤ 65536 → n.bootstraps ≤ 65536 → Fit n []
unfolding constants_of bootstraps_of entries only
fit_none n h g = (omega arith, omega arith)

fit_entry :
    (n : Counts) (e : Entry (List ℕ) Reference) (list : List (Definition (List ℕ))) (kind : Kind) →
    kind_of e.tag ≡ kind →
    Fit (one_more_lem kind n) list →
    Fit n (define e ∷ list)
unfolding constants_of bootstraps_of entries one_more_lem same_kind_lem
fit_entry n e list constant same (h, g) =
    let b : is_bootstrap e ≡ false = in_table e constant same in
    rw (only_here (λ e. not (is_bootstrap e)) e (entries list) (ap not b), only-later is_bootstrap e (entries list) b) (omega arith, omega arith)
fit_entry n e list bootstrap same (h, g) =
    let b : is_bootstrap e ≡ true = in_table e bootstrap same in
    rw (only-later (λ e. not (is_bootstrap e)) e (entries list) (ap not b), only_here is_bootstrap e (entries list) b) (omega arith, omega arith)

fit_more : (n : Counts) (d : Definition (List ℕ)) (list : List (Definition (List ℕ))) → Fit (counted d n) list → Fit n (d ∷ list)
unfolding counted one_record one_setting with_broken constants_of bootstraps_of entries
fit_more n (define e) list h = fit_entry n e list (kind_of e.tag) refl h
fit_more n (named kind s r) list h = h
fit_more n (placed kind at number) list h = h
fit_more n (setting (version v)) list h = h
fit_more n (setting texts) list h = h
fit_more n (setting (highest top)) list h = h

abbrev Roomy : Counts → Type 0
Roomy n = (n.constants ≤ 65536) × (n.bootstraps ≤ 65536)

roomy_entry : (n : Counts) (kind : Kind) → count_of kind n < 65536 → Roomy n → Roomy (one_more_lem kind n)
unfolding count_of one_more_lem
roomy_entry n constant h (a, b) = (omega arith, b)
roomy_entry n bootstrap h (a, b) = (a, omega arith)

roomy_more : (n : Counts) (d : Definition (List ℕ)) → has_room n d ≡ true → Roomy n → Roomy (counted d n)
unfolding counted one_record one_setting with_broken has_room
roomy_more n (define e) h r = roomy_entry n (kind_of e.tag) (ltb-true (count_of (kind_of e.tag) n) 65536 h) r
roomy_more n (named kind s t) h r = r
roomy_more n (placed kind at number) h r = r
roomy_more n (setting (version v)) h r = r
roomy_more n (setting texts) h r = r
roomy_more n (setting (highest top)) h r = r

formed_room :
    (n : Counts) (first : ℕ) (bytes : List ℕ) (r : Definition (List ℕ) × List ℕ) → form_definition n first bytes ≡ good r → has_room n r.0 ≡ true
unfolding form_definition
formed_room n first bytes r e =
    good_then (whole (read_definition first bytes)) _ r e λ a p q.
    good_then (may_stand n a.0) _ r q λ _ _ q.
    good_then (unless (has_room n a.0) 5) _ r q λ u h s.
    good_then (unless (cites_earlier n a.0) 4) _ r s λ _ _ t.
    good_then (comes_out first bytes) _ r t λ _ _ t.
    subst (λ x. has_room n x.0 ≡ true) (good_inj t) (unless-good (has_room n a.0) 5 u h)

fit_formed :
    (fuel : ℕ) (n : Counts) (place : ℕ) (bytes : List ℕ) (d : Definitions) → Roomy n → form_definitions fuel n place bytes ≡ good d → Fit n d.list
unfolding form_definitions
fit_formed zero n place [] d r e = bad≢good e
fit_formed zero n place (first ∷ bytes) d r e = bad≢good e
fit_formed (suc fuel) n place [] d r e = bad≢good e
fit_formed (suc fuel) n place (first ∷ bytes) d r e = ways (eqb first 0x50) refl (fit_formed fuel)
  where
    ways :
        (b : Bool) →
        eqb first 0x50 ≡ b →
        ((n : Counts) (place : ℕ) (bytes : List ℕ) (d : Definitions) → Roomy n → form_definitions fuel n place bytes ≡ good d → Fit n d.list) →
        Fit n d.list
    ways true t later = subst (λ x. Fit n x.list) (sym (formed_end fuel n place first bytes d t e)) (fit_none n r.0 r.1)
    ways false t later =
        let g = formed_step fuel n place first bytes d t e in
        let room = roomy_more n g.0.0 (formed_room n first bytes g.0 g.2) r in
        subst (λ x. Fit n x.list) (sym g.4)
        (fit_more n g.0.0 g.1.list (later (counted g.0.0 n) (suc place) g.0.1 g.1 room g.3))

fit : (s : List ℕ) → WellFormed s → Fit no_entries (definitions_in s)
unfolding definitions_in
fit s h =
    let g = formed_definitions s (job_in s) (formed_job s h) in
    subst (Fit no_entries) (sym g.2) (fit_formed (length s) no_entries 0 s g.0 (omega arith, omega arith) g.1)

-- ---- every record takes bytes

-- the definitions and the requests each stand within the job's bytes
pub record Standing (s : List ℕ) : Type 0 where
  pub fifty : ℕ
  pub enough : Enough fifty (counts_of (definitions_in s) 0)
  pub asked : fifty + length (job_in s).requests < length s

pub standing : (s : List ℕ) → WellFormed s → Standing s
unfolding definitions_in
standing s h =
    let laid = formed_laid s h in
    let d = enough-turn s 0 (job_in s).definitions laid.fifty laid.definitions in
    let zero-less : laid.fifty - 0 ≡ laid.fifty = omega arith in
    let r = turn_length any_request s (laid.fifty + 1) (job_in s).requests laid.sixty laid.requests in
    record {
      fifty = laid.fifty;
      enough = rw zero-less at d.1;
      asked = omega (arith, r, found_inside s laid.sixty 0x60 laid.is_sixty);
    }

-- the names are the namings
names_are_lem : (list : List (Definition (List ℕ))) → length (only is_naming list) ≡ length (namings_of list)
unfolding only is_naming namings_of
names_are_lem [] = refl
names_are_lem (define e ∷ list) = names_are_lem list
names_are_lem (named kind s r ∷ list) = ap suc (names_are_lem list)
names_are_lem (placed kind at number ∷ list) = names_are_lem list
names_are_lem (setting s ∷ list) = names_are_lem list

pub small : (s : List ℕ) → WellFormed s → Small s
unfolding counts_in counts_of
small s h =
    let f = fit s h in
    let t = standing s h in
    let b = t.enough.bounded in
    record {
      bytes = formed_short s h;
      entries = omega (arith, entries-counted s, f.0, f.1);
      constants = omega (arith, f.0);
      bootstraps = omega (arith, f.1);
      references = omega (arith, b.references, t.asked, formed_short s h);
      names = omega (arith, b.names, t.asked, formed_short s h);
      raw_constants = omega (arith, b.constants_placed, t.asked, formed_short s h);
      raw_bootstraps = omega (arith, b.bootstraps_placed, t.asked, formed_short s h);
      requests = omega (arith, t.asked, formed_short s h);
      definitions = omega (arith, b.records, t.asked, formed_short s h);
      constants_are = refl;
      names_are = names_are_lem (definitions_in s);
    }

-- ---- what the work of a job has

module _ (s p : List ℕ) (work : Work s p) where
  pub work-small : Small s
  work-small = small s (work-formed s p work)

  -- what `constants` asks and gives
  pub work-constants : (size p INDEXES ≤ size p MARKS) × (size p MARKS - size p INDEXES ≡ constants_in s)
  work-constants =
      let z = work-sizes s p work in
      let b = work-small in
      (omega (arith, z.marks, z.indexes), omega (arith, z.marks, z.indexes, b.constants_are))

  heads : (k : ℕ) → k < 26 → (n : ℕ) → size p k ≡ n + 2 → n < 4294967294 → Heads p k
  heads k h n e l = record { real = h; two = omega arith; few = omega arith }

  -- the heads of names, nodes, raw definitions, inline rows and slots given out
  pub work-heads : Heads p NAME-HEADS × Heads p NODE-HEADS × Heads p RAW-HEADS × Heads p ROW-HEADS × Heads p OWNER-HEADS
  work-heads =
      let z = work-sizes s p work in
      let b = work-small in (
        heads NAME-HEADS (omega arith) (counts_in s).names z.name_heads (omega (arith, b.names)),
        heads NODE-HEADS (omega arith) (2 * entries_of (counts_in s)) z.node_heads (omega (arith, b.constants, b.bootstraps)),
        heads RAW-HEADS (omega arith) (raws_of (counts_in s)) z.raw_heads_lem (omega (arith, b.raw_constants, b.raw_bootstraps)),
        heads ROW-HEADS (omega arith) (counts_in s).bootstraps z.row_heads_lem (omega (arith, b.bootstraps)),
        heads OWNER-HEADS (omega arith) (entries_of (counts_in s)) z.owner_heads_lem (omega (arith, b.constants, b.bootstraps)),
      )
