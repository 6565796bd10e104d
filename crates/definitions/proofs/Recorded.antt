-- The record of each entry of the one table, as the definition lists them. Assumes nothing.
use mathlib.Core.Bool.{Bool, true, false, not}
use mathlib.Core.List.{List, [], ◌∷◌, ◌++◌, map}
use mathlib.Core.Option.{some}
use mathlib.Core.Path.{◌≡◌, refl, sym, ap, ◌∙◌}
use Prim.Native.Nat.{ℕ, zero, suc, ◌+◌, ◌<◌}
use native.Mathlib.Omega.{arith}
use lib.ListN.{length, get_or, get_elem?, take}
use Rattle.definition.specs.Basics.{only}
use Rattle.definition.specs.Shapes.{Kind, constant, bootstrap, Entry, with_literal}
use Rattle.definition.specs.Job.{Reference, Definition, define, named, placed, setting}
use Rattle.definition.specs.Form.{kind_of}
use Rattle.definition.specs.Numbering.{Literal, entries, is_bootstrap, constants_of, bootstraps_of, literals, numbered_entry, numbered_definition, numbered}
use Rattle.definition.specs.Definitions.{same_kind_lem}
use Rattle.definition.specs.Resolving.{place_of}
use Rattle.definition.specs.Places.{records_of, table_records}
use Rattle.facts.proofs.Lists.{clash, none≢some, inside_found, found_read, found_append, place_behind, only_here, only-later}
use Rattle.laws.specs.Counted.{count_in}
use Rattle.store.specs.JobIn.{job_in, definitions_in, table_in, constants_in, entries_in}
use Rattle.definitions.specs.Defining.{done_in, Turn, records_in}
use Rattle.definitions.proofs.Prefixes.{kind-told}

-- THE RECORDS of the entries that pass

module _ {L : Type 0} (p : Entry L Reference → Bool) where
  records-here : (place : ℕ) (e : Entry L Reference) (ds : List (Definition L)) → p e ≡ true → records_of p place (define e ∷ ds) ≡ place ∷ records_of p (suc place) ds
  unfolding records_of
  records-here place e ds h = rw (h, records_of)

  records-later : (place : ℕ) (e : Entry L Reference) (ds : List (Definition L)) → p e ≡ false → records_of p place (define e ∷ ds) ≡ records_of p (suc place) ds
  unfolding records_of
  records-later place e ds h = rw (h, records_of)

  -- as many as entries that pass
  records-many : (place : ℕ) (ds : List (Definition L)) → length (records_of p place ds) ≡ length (only p (entries ds))
  unfolding records_of entries only
  records-many place [] = refl
  records-many place (define e ∷ ds) = ways (p e) refl (records-many (suc place) ds)
    where
      ways :
          (b : Bool) → p e ≡ b → length (records_of p (suc place) ds) ≡ length (only p (entries ds)) →
          length (records_of p place (define e ∷ ds)) ≡ length (only p (e ∷ entries ds))
      ways true h ih = rw (records-here place e ds h, only_here p e (entries ds) h) (ap suc ih)
      ways false h ih = rw (records-later place e ds h, only-later p e (entries ds) h) ih
  records-many place (named kind s r ∷ ds) = records-many (suc place) ds
  records-many place (placed kind at n ∷ ds) = records-many (suc place) ds
  records-many place (setting rule ∷ ds) = records-many (suc place) ds

  -- an entry's stands behind those of the entries before it
  records-at :
      (place n : ℕ) (ds : List (Definition L)) (x : Entry L Reference) → get_elem? ds n ≡ some (define x) → p x ≡ true →
      get_elem? (records_of p place ds) (length (only p (entries (take n ds)))) ≡ some (place + n)
  unfolding records_of entries only
  records-at place n [] x at h = none≢some at
  records-at place zero (define e ∷ ds) x at h =
      let same : e ≡ x = cc in
      let q : place + 0 ≡ place = omega arith in
      rw (records-here place e ds (ap p same ∙ h), q)
  records-at place (suc n) (define e ∷ ds) x at h = ways (p e) refl (records-at (suc place) n ds x at h)
    where
      one : suc place + n ≡ place + suc n
      one = omega arith

      ways :
          (b : Bool) → p e ≡ b → get_elem? (records_of p (suc place) ds) (length (only p (entries (take n ds)))) ≡ some (suc place + n) →
          get_elem? (records_of p place (define e ∷ ds)) (length (only p (e ∷ entries (take n ds)))) ≡ some (place + suc n)
      ways true q ih = rw (records-here place e ds q, only_here p e (entries (take n ds)) q) (ih ∙ ap some one)
      ways false q ih = rw (records-later place e ds q, only-later p e (entries (take n ds)) q) (ih ∙ ap some one)
  records-at place zero (named kind s r ∷ ds) x at h = clash (cc)
  records-at place (suc n) (named kind s r ∷ ds) x at h = records-at (suc place) n ds x at h ∙ ap some (omega arith)
  records-at place zero (placed kind to m ∷ ds) x at h = clash (cc)
  records-at place (suc n) (placed kind to m ∷ ds) x at h = records-at (suc place) n ds x at h ∙ ap some (omega arith)
  records-at place zero (setting rule ∷ ds) x at h = clash (cc)
  records-at place (suc n) (setting rule ∷ ds) x at h = records-at (suc place) n ds x at h ∙ ap some (omega arith)

  records-first :
      (n : ℕ) (ds : List (Definition L)) (x : Entry L Reference) → get_elem? ds n ≡ some (define x) → p x ≡ true →
      get_elem? (records_of p 0 ds) (length (only p (entries (take n ds)))) ≡ some n
  records-first n ds x at h = let q : 0 + n ≡ n = omega arith in records-at 0 n ds x at h ∙ ap some q

-- numbers for literals change no record
records-numbered :
    (p : Entry ℕ Reference → Bool) (q : Entry (List ℕ) Reference → Bool) (all : List Literal) → ((e : Entry (List ℕ) Reference) → p (numbered_entry all e) ≡ q e) →
    (place : ℕ) (ds : List (Definition (List ℕ))) → records_of p place (map (numbered_definition all) ds) ≡ records_of q place ds
unfolding records_of numbered_definition
records-numbered p q all h place [] = refl
records-numbered p q all h place (define e ∷ ds) = ways (q e) refl (records-numbered p q all h (suc place) ds)
  where
    ways :
        (b : Bool) → q e ≡ b → records_of p (suc place) (map (numbered_definition all) ds) ≡ records_of q (suc place) ds →
        records_of p place (define (numbered_entry all e) ∷ map (numbered_definition all) ds) ≡ records_of q place (define e ∷ ds)
    ways true g ih =
        rw (records-here p place (numbered_entry all e) (map (numbered_definition all) ds) (h e ∙ g), records-here q place e ds g) (ap (λ l. place ∷ l) ih)
    ways false g ih =
        rw (records-later p place (numbered_entry all e) (map (numbered_definition all) ds) (h e ∙ g), records-later q place e ds g) ih
records-numbered p q all h place (named kind s r ∷ ds) = records-numbered p q all h (suc place) ds
records-numbered p q all h place (placed kind at n ∷ ds) = records-numbered p q all h (suc place) ds
records-numbered p q all h place (setting rule ∷ ds) = records-numbered p q all h (suc place) ds

-- THE TABLE

table_numbered : (s : List ℕ) → table_records (records_in s) ≡ table_records (definitions_in s)
unfolding table_records records_in definitions_in numbered is_bootstrap numbered_entry with_literal
table_numbered s =
    let all = literals (job_in s) in
    let ds = (job_in s).definitions in
    rw (
      records-numbered (λ e. not (is_bootstrap e)) (λ e. not (is_bootstrap e)) all (λ _. refl) 0 ds,
      records-numbered is_bootstrap is_bootstrap all (λ _. refl) 0 ds,
    )

-- a record that is entry e is its record
turn_record : (s : List ℕ) (n e : ℕ) (x : Entry (List ℕ) Reference) → Turn s n e x → get_elem? (table_records (definitions_in s)) e ≡ some n
unfolding table_records count_in place_of constants_of bootstraps_of same_kind_lem
turn_record s n e x turn = ways (kind_of x.tag) refl turn.number
  where
    ds : List (Definition (List ℕ))
    ds = definitions_in s

    front : List ℕ
    front = records_of (λ e. not (is_bootstrap e)) 0 ds

    back : List ℕ
    back = records_of is_bootstrap 0 ds

    ways : (kind : Kind) → kind_of x.tag ≡ kind → place_of (constants_in s) kind (count_in kind (done_in s n)) ≡ e → get_elem? (front ++ back) e ≡ some n
    ways constant h number =
        rw (← number) (found_append front back _ n (records-first (λ e. not (is_bootstrap e)) n ds x turn.is (ap not (kind-told x constant h))))
    ways bootstrap h number =
        let many : length front ≡ constants_in s = records-many (λ e. not (is_bootstrap e)) 0 ds in
        rw (← number, ← many) (place_behind front back _ ∙ records-first is_bootstrap n ds x turn.is (kind-told x bootstrap h))

-- so the words that tell each entry's turn are the table's records
pub records-are :
    (s records : List ℕ) → ((e : ℕ) (x : Entry (List ℕ) Reference) → get_elem? (table_in s) e ≡ some x → Turn s (get_or records e 0) e x) →
    (e : ℕ) → e < entries_in s → get_or records e 0 ≡ get_or (table_records (records_in s)) e 0
records-are s records turns e inside =
    let (x, at) = inside_found (table_in s) e inside in
    rw (table_numbered s)
    (sym (found_read (table_records (definitions_in s)) e (get_or records e 0) 0 (turn_record s (get_or records e 0) e x (turns e x at))))
