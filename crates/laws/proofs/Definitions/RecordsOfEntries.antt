-- The records of a job's entries: each is the one where its entry stands, and they rise within constants and within bootstraps.
-- Assumes nothing.
use mathlib.Core.Bool.{Bool, true, false, not}
use mathlib.Core.List.{List, [], ◌∷◌, ◌++◌, map}
use mathlib.Core.Logic.{◌⊎◌, inl, inr}
use mathlib.Core.Option.{some}
use mathlib.Core.Path.{◌≡◌, refl, sym, ap, subst, ◌∙◌}
use Prim.Native.Nat.{ℕ, zero, suc, ◌+◌, ◌≤◌, ◌<◌}
use native.Mathlib.Omega.{arith}
use lib.Dec.{eqb}
use lib.ListN.{length, take, get_elem?, length-append}
use Rattle.definition.specs.Basics.{only}
use Rattle.definition.specs.Shapes.{constant, bootstrap, bootstrap_tag, Entry, with_literal}
use Rattle.definition.specs.Job.{Reference, Definition, define, named, placed, setting, Job}
use Rattle.definition.specs.Form.{kind_of}
use Rattle.definition.specs.Numbering.{Literal, entries, is_bootstrap, constants_of, bootstraps_of, literals, numbered_entry, numbered_definition, numbered}
use Rattle.definition.specs.Resolving.{place_of}
use Rattle.definition.specs.Places.{records_of, table_records}
use Rattle.facts.proofs.Lists.{clash, some_inj, found_inside, found_append, append_at, place_behind, only_here, only-later}
use Rattle.laws.specs.Counted.{count_in}
use Rattle.laws.specs.LowestStatement.{RecordOf}

module _ {L : Type 0} (p : Entry L Reference → Bool) where
  -- ---- the records of the entries that pass

  records-here : (place : ℕ) (x : Entry L Reference) (ds : List (Definition L)) → p x ≡ true → records_of p place (define x ∷ ds) ≡ place ∷ records_of p (suc place) ds
  unfolding records_of
  records-here place x ds t = rw (t, records_of) refl

  records-later : (place : ℕ) (x : Entry L Reference) (ds : List (Definition L)) → p x ≡ false → records_of p place (define x ∷ ds) ≡ records_of p (suc place) ds
  unfolding records_of
  records-later place x ds t = rw (t, records_of) refl

  -- how many that pass stand ahead of record i
  abbrev ahead : ℕ → List (Definition L) → ℕ
  ahead i ds = length (only p (entries (take i ds)))

  -- there are as many as entries that pass
  records-many : (place : ℕ) (ds : List (Definition L)) → length (records_of p place ds) ≡ length (only p (entries ds))
  unfolding records_of entries only
  records-many place [] = refl
  records-many place (define x ∷ ds) = go (p x) refl (records-many (suc place) ds)
    where
      go : (b : Bool) → p x ≡ b → length (records_of p (suc place) ds) ≡ length (only p (entries ds)) → length (records_of p place (define x ∷ ds)) ≡ length (only p (x ∷ entries ds))
      go true t rest = ap length (records-here place x ds t) ∙ ap suc rest ∙ ap length (sym (only_here p x (entries ds) t))
      go false t rest = ap length (records-later place x ds t) ∙ rest ∙ ap length (sym (only-later p x (entries ds) t))
  records-many place (named kind s r ∷ ds) = records-many (suc place) ds
  records-many place (placed kind at n ∷ ds) = records-many (suc place) ds
  records-many place (setting s ∷ ds) = records-many (suc place) ds

  -- an entry's record is found at the number of those ahead
  record_at :
      (place i : ℕ) (ds : List (Definition L)) (e : Entry L Reference) →
      get_elem? ds i ≡ some (define e) →
      p e ≡ true →
      get_elem? (records_of p place ds) (ahead i ds) ≡ some (place + i)
  unfolding records_of entries only
  record_at place i [] e at t = clash (cc)
  record_at place zero (define x ∷ ds) e at t =
      let is : x ≡ e = cc in
      let none_more : place ≡ place + 0 = omega arith in
      ap (λ l. get_elem? l 0) (records-here place x ds (ap p is ∙ t)) ∙ ap some none_more
  record_at place (suc i) (define x ∷ ds) e at t = go (p x) refl (record_at (suc place) i ds e at t)
    where
      next : suc place + i ≡ place + suc i
      next = omega arith

      go : (b : Bool) → p x ≡ b → get_elem? (records_of p (suc place) ds) (ahead i ds) ≡ some (suc place + i) → get_elem? (records_of p place (define x ∷ ds)) (length (only p (x ∷ entries (take i ds)))) ≡ some (place + suc i)
      go true u rest =
          ap (get_elem? (records_of p place (define x ∷ ds))) (ap length (only_here p x (entries (take i ds)) u))
          ∙ ap (λ l. get_elem? l (suc (ahead i ds))) (records-here place x ds u)
          ∙ rest
          ∙ ap some next
      go false u rest =
          ap (get_elem? (records_of p place (define x ∷ ds))) (ap length (only-later p x (entries (take i ds)) u))
          ∙ ap (λ l. get_elem? l (ahead i ds)) (records-later place x ds u)
          ∙ rest
          ∙ ap some next
  record_at place zero (named kind s r ∷ ds) e at t = clash (cc)
  record_at place (suc i) (named kind s r ∷ ds) e at t =
      let next : suc place + i ≡ place + suc i = omega arith in
      record_at (suc place) i ds e at t ∙ ap some next
  record_at place zero (placed kind n m ∷ ds) e at t = clash (cc)
  record_at place (suc i) (placed kind n m ∷ ds) e at t =
      let next : suc place + i ≡ place + suc i = omega arith in
      record_at (suc place) i ds e at t ∙ ap some next
  record_at place zero (setting s ∷ ds) e at t = clash (cc)
  record_at place (suc i) (setting s ∷ ds) e at t =
      let next : suc place + i ≡ place + suc i = omega arith in
      record_at (suc place) i ds e at t ∙ ap some next

  -- and a record is that of an entry with so many ahead
  abbrev Stands : ℕ → List (Definition L) → ℕ → ℕ → Type 0
  Stands place ds n i = (j : ℕ) × (e : Entry L Reference) × (i ≡ place + j) × (get_elem? ds j ≡ some (define e)) × (p e ≡ true) × (ahead j ds ≡ n)

  -- one record further
  moved : (place n i : ℕ) (x : Definition L) (ds : List (Definition L)) → ((j : ℕ) → ahead (suc j) (x ∷ ds) ≡ ahead j ds) → Stands (suc place) ds n i → Stands place (x ∷ ds) n i
  moved place n i x ds same (j, e, is, at, t, many) = (suc j, e, omega (arith, is), at, t, same j ∙ many)

  at_record_lem : (place n i : ℕ) (ds : List (Definition L)) → get_elem? (records_of p place ds) n ≡ some i → Stands place ds n i
  unfolding records_of entries only
  at_record_lem place n i [] h = clash (cc)
  at_record_lem place n i (define x ∷ ds) h = go (p x) refl n h (λ m. at_record_lem (suc place) m i ds)
    where
      go : (b : Bool) → p x ≡ b → (n : ℕ) → get_elem? (records_of p place (define x ∷ ds)) n ≡ some i → ((m : ℕ) → get_elem? (records_of p (suc place) ds) m ≡ some i → Stands (suc place) ds m i) → Stands place (define x ∷ ds) n i
      go true t zero h rest =
          let is : place ≡ i = some_inj (sym (ap (λ l. get_elem? l 0) (records-here place x ds t)) ∙ h) in
          (0, x, omega (arith, is), refl, t, refl)
      go true t (suc m) h rest =
          let (j, e, is, at, u, many) = rest m (sym (ap (λ l. get_elem? l (suc m)) (records-here place x ds t)) ∙ h) in
          (suc j, e, omega (arith, is), at, u, ap length (only_here p x (entries (take j ds)) t) ∙ ap suc many)
      go false t m h rest =
          moved place m i (define x) ds (λ j. ap length (only-later p x (entries (take j ds)) t)) (rest m (sym (ap (λ l. get_elem? l m) (records-later place x ds t)) ∙ h))
  at_record_lem place n i (named kind s r ∷ ds) h = moved place n i (named kind s r) ds (λ j. refl) (at_record_lem (suc place) n i ds h)
  at_record_lem place n i (placed kind a m ∷ ds) h = moved place n i (placed kind a m) ds (λ j. refl) (at_record_lem (suc place) n i ds h)
  at_record_lem place n i (setting s ∷ ds) h = moved place n i (setting s) ds (λ j. refl) (at_record_lem (suc place) n i ds h)

  -- they rise
  rising :
      (place m n i j : ℕ) (ds : List (Definition L)) →
      m ≤ n →
      get_elem? (records_of p place ds) m ≡ some i →
      get_elem? (records_of p place ds) n ≡ some j →
      i ≤ j
  unfolding records_of
  rising place m n i j [] l a b = clash (cc)
  rising place m n i j (define x ∷ ds) l a b = go (p x) refl m n l a b (λ m n. rising (suc place) m n i j ds)
    where
      go :
          (t : Bool) → p x ≡ t → (m n : ℕ) → m ≤ n → get_elem? (records_of p place (define x ∷ ds)) m ≡ some i → get_elem? (records_of p place (define x ∷ ds)) n ≡ some j →
          ((m n : ℕ) → m ≤ n → get_elem? (records_of p (suc place) ds) m ≡ some i → get_elem? (records_of p (suc place) ds) n ≡ some j → i ≤ j) →
          i ≤ j
      go true t zero n l a b rest =
          let first : place ≡ i = some_inj (sym (ap (λ l. get_elem? l 0) (records-here place x ds t)) ∙ a) in
          let later = (at_record_lem place n j (define x ∷ ds) b).2 in
          omega (arith, first, later)
      go true t (suc m) zero l a b rest = absurd (omega (arith, l))
      go true t (suc m) (suc n) l a b rest =
          let is = records-here place x ds t in
          rest m n (omega (arith, l)) (sym (ap (λ l. get_elem? l (suc m)) is) ∙ a) (sym (ap (λ l. get_elem? l (suc n)) is) ∙ b)
      go false t m n l a b rest =
          let is = records-later place x ds t in
          rest m n l (sym (ap (λ l. get_elem? l m) is) ∙ a) (sym (ap (λ l. get_elem? l n) is) ∙ b)
  rising place m n i j (named kind s r ∷ ds) l a b = rising (suc place) m n i j ds l a b
  rising place m n i j (placed kind at k ∷ ds) l a b = rising (suc place) m n i j ds l a b
  rising place m n i j (setting s ∷ ds) l a b = rising (suc place) m n i j ds l a b

-- ---- the one table

module _ {L : Type 0} (ds : List (Definition L)) where
  abbrev constant_records : List ℕ
  constant_records = records_of (λ e. not (is_bootstrap e)) 0 ds

  abbrev bootstrap_records : List ℕ
  bootstrap_records = records_of is_bootstrap 0 ds

  constants_many : length constant_records ≡ length (constants_of ds)
  unfolding constants_of
  constants_many = records-many (λ e. not (is_bootstrap e)) 0 ds

  -- each entry has a record
  pub table_many : length (table_records ds) ≡ length (constants_of ds ++ bootstraps_of ds)
  unfolding table_records bootstraps_of
  table_many =
      let rest : length bootstrap_records ≡ length (bootstraps_of ds) = records-many is_bootstrap 0 ds in
      let here = length-append constant_records bootstrap_records in
      let there = length-append (constants_of ds) (bootstraps_of ds) in
      omega (arith, here, there, constants_many, rest)

  -- it is where the entry stands
  pub record_found : (e i : ℕ) → RecordOf ds e i → get_elem? (table_records ds) e ≡ some i
  unfolding table_records is_bootstrap kind_of count_in place_of constants_of bootstraps_of
  record_found e i (x, at, is) = go (eqb x.tag bootstrap_tag) refl
    where
      none_before : 0 + i ≡ i
      none_before = omega arith

      go : (b : Bool) → eqb x.tag bootstrap_tag ≡ b → get_elem? (table_records ds) e ≡ some i
      go true t =
          let kind : kind_of x.tag ≡ bootstrap = rw (t, kind_of) refl in
          let place : e ≡ length constant_records + length (bootstraps_of (take i ds)) =
          is ∙ ap (λ k. place_of (length (constants_of ds)) k (count_in k (take i ds))) kind ∙ ap (λ n. n + length (bootstraps_of (take i ds))) (sym constants_many) in
          ap (get_elem? (table_records ds)) place ∙ place_behind constant_records bootstrap_records (length (bootstraps_of (take i ds))) ∙ record_at is_bootstrap 0 i ds x at t ∙ ap some none_before
      go false t =
          let kind : kind_of x.tag ≡ constant = rw (t, kind_of) refl in
          let place : e ≡ length (constants_of (take i ds)) = is ∙ ap (λ k. place_of (length (constants_of ds)) k (count_in k (take i ds))) kind in
          ap (get_elem? (table_records ds)) place
          ∙ found_append constant_records bootstrap_records (length (constants_of (take i ds))) i (record_at (λ e. not (is_bootstrap e)) 0 i ds x at (ap not t) ∙ ap some none_before)

  pub found_record : (e i : ℕ) → get_elem? (table_records ds) e ≡ some i → RecordOf ds e i
  unfolding table_records is_bootstrap kind_of count_in place_of constants_of bootstraps_of
  found_record e i h = ways (append_at constant_records bootstrap_records e i h)
    where
      not-false : (b : Bool) → not b ≡ true → b ≡ false
      not-false true t = clash (cc)
      not-false false t = refl

      ways : (get_elem? constant_records e ≡ some i) ⊎ ((j : ℕ) × (e ≡ length constant_records + j) × (get_elem? bootstrap_records j ≡ some i)) → RecordOf ds e i
      ways (inl a) =
          let (j, x, is, at, t, many) = at_record_lem (λ e. not (is_bootstrap e)) 0 e i ds a in
          let same : j ≡ i = omega (arith, is) in
          let kind : kind_of x.tag ≡ constant = rw (not-false (eqb x.tag bootstrap_tag) t, kind_of) refl in
          subst (RecordOf ds e) same (x, at, sym many ∙ ap (λ k. place_of (length (constants_of ds)) k (count_in k (take j ds))) (sym kind))
      ways (inr (n, far, a)) =
          let (j, x, is, at, t, many) = at_record_lem is_bootstrap 0 n i ds a in
          let same : j ≡ i = omega (arith, is) in
          let kind : kind_of x.tag ≡ bootstrap = rw (t, kind_of) refl in
          subst (RecordOf ds e) same (
            x,
            at,
            far ∙ ap (λ l. l + n) constants_many ∙ ap (λ n. length (constants_of ds) + n) (sym many) ∙ ap (λ k. place_of (length (constants_of ds)) k (count_in k (take j ds))) (sym kind),
          )

  -- THE RECORDS RISE within constants, and within bootstraps
  pub records-rise :
      (d e i j : ℕ) →
      d ≤ e →
      (e < length (constants_of ds)) ⊎ (length (constants_of ds) ≤ d) →
      get_elem? (table_records ds) d ≡ some i →
      get_elem? (table_records ds) e ≡ some j →
      i ≤ j
  unfolding table_records
  records-rise d e i j l side a b = ways side (append_at constant_records bootstrap_records d i a) (append_at constant_records bootstrap_records e j b)
    where
      Where : ℕ → ℕ → Type 0
      Where e i = (get_elem? constant_records e ≡ some i) ⊎ ((n : ℕ) × (e ≡ length constant_records + n) × (get_elem? bootstrap_records n ≡ some i))

      ways : (e < length (constants_of ds)) ⊎ (length (constants_of ds) ≤ d) → Where d i → Where e j → i ≤ j
      ways s (inl x) (inl y) = rising (λ e. not (is_bootstrap e)) 0 d e i j ds l x y
      ways s (inr (m, p, x)) (inr (n, q, y)) = rising is_bootstrap 0 m n i j ds (omega (arith, p, q, l)) x y
      ways (inl low) (inl x) (inr (n, q, y)) = absurd (omega (arith, q, low, constants_many))
      ways (inr high) (inl x) (inr (n, q, y)) = absurd (omega (arith, found_inside constant_records d i x, high, constants_many))
      ways s (inr (m, p, x)) (inl y) = absurd (omega (arith, p, l, found_inside constant_records e j y))

-- ---- literals as numbers change no record

records-numbered :
    (p : Entry (List ℕ) Reference → Bool) (q : Entry ℕ Reference → Bool) (all : List Literal) →
    ((e : Entry (List ℕ) Reference) → q (numbered_entry all e) ≡ p e) →
    (place : ℕ) (ds : List (Definition (List ℕ))) →
    records_of q place (map (numbered_definition all) ds) ≡ records_of p place ds
unfolding records_of numbered_definition
records-numbered p q all same place [] = refl
records-numbered p q all same place (define e ∷ ds) = go (p e) refl (records-numbered p q all same (suc place) ds)
  where
    go :
        (b : Bool) → p e ≡ b → records_of q (suc place) (map (numbered_definition all) ds) ≡ records_of p (suc place) ds →
        records_of q place (map (numbered_definition all) (define e ∷ ds)) ≡ records_of p place (define e ∷ ds)
    go true t rest =
        records-here q place (numbered_entry all e) (map (numbered_definition all) ds) (same e ∙ t) ∙ ap (λ l. place ∷ l) rest ∙ sym (records-here p place e ds t)
    go false t rest = records-later q place (numbered_entry all e) (map (numbered_definition all) ds) (same e ∙ t) ∙ rest ∙ sym (records-later p place e ds t)
records-numbered p q all same place (named kind s r ∷ ds) = records-numbered p q all same (suc place) ds
records-numbered p q all same place (placed kind at n ∷ ds) = records-numbered p q all same (suc place) ds
records-numbered p q all same place (setting s ∷ ds) = records-numbered p q all same (suc place) ds

pub table_numbered : (job : Job (List ℕ)) → table_records (numbered job).definitions ≡ table_records job.definitions
unfolding table_records numbered is_bootstrap numbered_entry with_literal
table_numbered job =
    let all = literals job in
    let ds = job.definitions in
    ap (λ l. l ++ records_of is_bootstrap 0 (map (numbered_definition all) ds)) (records-numbered (λ e. not (is_bootstrap e)) (λ e. not (is_bootstrap e)) all (λ e. refl) 0 ds)
    ∙ ap (λ l. records_of (λ e. not (is_bootstrap e)) 0 ds ++ l) (records-numbered is_bootstrap is_bootstrap all (λ e. refl) 0 ds)
