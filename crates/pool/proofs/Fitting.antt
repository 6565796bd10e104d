-- The lent gap table and the building stack are large enough for a well-formed job: a raw constant takes five bytes. Assumes nothing.
use mathlib.Core.List.{List, [], ◌∷◌}
use mathlib.Core.Option.{Option, none, some}
use mathlib.Core.Path.{◌≡◌, refl, ap, ◌∙◌}
use Prim.Native.Nat.{ℕ, suc, ◌+◌, ◌*◌, ◌/◌, ◌≤◌}
use native.Mathlib.Omega.{arith}
use lib.ListN.{length, get_or, drop}
use Rattle.definition.specs.Basics.{good, only, lookup}
use Rattle.definition.specs.Bytes.{◌>>=◌, return, two}
use Rattle.definition.specs.Shapes.{Kind, constant, bootstrap, Entry, read_entry}
use Rattle.definition.specs.Job.{Definition, define, named, placed, setting, Body, of_entry, of_name, of_raw, of_expression, of_number, of_nothing, bodies, short_name, reference, read_body, read_definition}
use Rattle.definition.specs.Numbering.{literals, numbered}
use Rattle.definition.specs.Definitions.{Defined, same_kind_lem, define_all, nothing_defined}
use Rattle.definition.specs.Slots.{gaps_from}
use Rattle.definition.specs.Layout.{starters}
use Rattle.facts.proofs.Lists.{clash, none≢some, some_inj, found_inside}
use Rattle.facts.proofs.Results.{some_then}
use Rattle.facts.specs.Lists.{keys}
use Rattle.job.specs.Forms.{is_placing, counts_of}
use Rattle.job.specs.Stored.{Found, InTurn, any_definition}
use Rattle.job.proofs.Stepping.{setting_read, bare_read, worked-read}
use Rattle.job.proofs.Standing.{definition_read}
use Rattle.job.proofs.Taking.{two_then, ends}
use Rattle.store.specs.Store.{size}
use Rattle.store.specs.JobIn.{WellFormed, job_in, definitions_in, counts_in}
use Rattle.store.specs.Regions.{GIVEN, PENDING, Work}
use Rattle.store.proofs.Bounds.{formed_laid}
use Rattle.store.proofs.Laying.{work-sizes}
use Rattle.pool.proofs.Sparing.{gaps_spare, placings, placings_numbered, spared}

-- FIVE BYTES

module _ (s : List ℕ) (at : ℕ) (kind : Kind) (n e next : ℕ) where
  placing_long : Found any_definition s at (placed kind n e) next → at + 5 ≤ next
  unfolding read_definition read_body
  placing_long f = body (lookup (get_or s at 0) bodies) (definition_read s at (placed kind n e) next f).2
    where
      body : (o : Option Body) → read_body (get_or s at 0) o (drop (at + 1) s) ≡ some (placed kind n e, drop next s) → at + 5 ≤ next
      body none h = none≢some h
      body (some (of_entry fields)) h =
          some_then (read_entry reference (get_or s at 0) fields (drop (at + 1) s)) _ (placed kind n e, drop next s) h λ y rest _ t.
          let q : define y ≡ placed kind n e = ap (λ (r : Definition (List ℕ) × List ℕ). r.0) (some_inj t) in
          clash (cc)
      body (some (of_name other)) h =
          some_then (short_name (drop (at + 1) s)) _ (placed kind n e, drop next s) h λ l rest _ t.
          some_then (reference other rest) _ (placed kind n e, drop next s) t λ a rest _ u.
          let q : named other l a ≡ placed kind n e = ap (λ (r : Definition (List ℕ) × List ℕ). r.0) (some_inj u) in
          clash (cc)
      body (some (of_raw other)) h =
          let t = two_then s (at + 1) (λ slot. two >>= λ m. return (placed other slot m)) (placed kind n e) (drop next s) (omega (arith, f.past, f.within)) h in
          let u = two_then s (at + 1 + 2) (λ m. return (placed other _ m)) (placed kind n e) (drop next s) t.0 t.1 in
          omega (arith, (ends s (at + 1 + 2 + 2) next _ (placed kind n e) u.0 f.within u.1).1)
      body (some of_expression) h =
          let q = (worked-read (get_or s at 0) (drop (at + 1) s) (drop next s) (placed kind n e) h).2 in
          clash (cc)
      body (some (of_number rule)) h =
          let q = (setting_read (get_or s at 0) rule (drop (at + 1) s) (drop next s) (placed kind n e) h).1 in
          clash (cc)
      body (some (of_nothing rule)) h =
          let q = bare_read (get_or s at 0) rule (drop (at + 1) s) (drop next s) (placed kind n e) h in
          clash (cc)

placings_long :
    (s : List ℕ) (at : ℕ) (list : List (Definition (List ℕ))) (end : ℕ) → InTurn any_definition s at list end → at + 5 * placings list ≤ end
unfolding placings
placings_long s at [] end h = omega (arith, h)
placings_long s at (define x ∷ list) end (next, f, h) = omega (arith, f.past, placings_long s next list end h)
placings_long s at (named kind l r ∷ list) end (next, f, h) = omega (arith, f.past, placings_long s next list end h)
placings_long s at (placed constant n e ∷ list) end (next, f, h) =
    omega (arith, placing_long s at constant n e next f, placings_long s next list end h)
placings_long s at (placed bootstrap n e ∷ list) end (next, f, h) = omega (arith, f.past, placings_long s next list end h)
placings_long s at (setting rule ∷ list) end (next, f, h) = omega (arith, f.past, placings_long s next list end h)

pub placings_few : (s : List ℕ) → WellFormed s → 5 * placings (job_in s).definitions ≤ length s
placings_few s well =
    let l = formed_laid s well in
    omega (arith, placings_long s 0 (job_in s).definitions l.fifty l.definitions, found_inside s l.fifty 0x50 l.is_fifty)

placings_counted : (ds : List (Definition (List ℕ))) → placings ds ≡ length (only (is_placing constant) ds)
unfolding placings only is_placing same_kind_lem
placings_counted [] = refl
placings_counted (define x ∷ ds) = placings_counted ds
placings_counted (named kind l r ∷ ds) = placings_counted ds
placings_counted (placed constant n e ∷ ds) = ap suc (placings_counted ds)
placings_counted (placed bootstrap n e ∷ ds) = placings_counted ds
placings_counted (setting rule ∷ ds) = placings_counted ds

-- ROOM

module _
    {R : Type 0} (s : List ℕ) (well : WellFormed s) (top : ℕ) (constants : List (Entry ℕ R)) (d : Defined)
    (defined : define_all top constants 0 (numbered (job_in s)).definitions nothing_defined ≡ good d) where
  starters-are : length (starters d.held) ≡ placings (job_in s).definitions
  unfolding numbered
  starters-are =
      (spared top constants (numbered (job_in s)).definitions d defined).1
      ∙ placings_numbered (literals (job_in s)) (job_in s).definitions

  -- the gap table has a place for each gap
  pub gaps_fit : (room : ℕ) → length s / 5 + 2 ≤ room → length (gaps_from top 1 (keys d.held)) ≤ room
  gaps_fit room h =
      omega (
        arith,
        gaps_spare top 1 d.held (spared top constants (numbered (job_in s)).definitions d defined).0,
        starters-are,
        placings_few s well,
      )

  -- the stack has a place for each raw constant and for each node
  pub stack_fits : (p : List ℕ) → Work s p → length (starters d.held) + size p GIVEN ≤ size p PENDING
  unfolding counts_in counts_of definitions_in
  stack_fits p work =
      let z = work-sizes s p work in
      omega (arith, z.given, z.pending, starters-are, placings_counted (job_in s).definitions)
