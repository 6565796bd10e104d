-- What a formed job cites is there, and of the kind that its place wants. Assumes nothing.
use mathlib.Core.Bool.{Bool, true, false, ◌&&◌, ◌||◌, not}
use mathlib.Core.List.{List, [], ◌∷◌}
use mathlib.Core.Logic.{inl, inr}
use mathlib.Core.Option.{none, some}
use mathlib.Core.Path.{◌≡◌, refl, ap, subst, ◌∙◌}
use Prim.Native.Nat.{ℕ, zero, suc, ◌+◌, ◌≤◌, ◌<◌}
use native.Mathlib.Nat.{zero-add}
use native.Mathlib.Omega.{arith}
use lib.Dec.{eqb}
use lib.ListN.{length, get_elem?}
use borrow.Author.Tests.{ltb-true}
use Rattle.definition.specs.Basics.{same, every, only}
use Rattle.definition.specs.Settings.{version, texts, highest}
use Rattle.definition.specs.Shapes.{Kind, Field, text, bits, byte, to, to_many, shapes, bootstrap_shape, Entry, constant, bootstrap}
use Rattle.definition.specs.Job.{Reference, raw, entry, name, Definition, define, named, placed, setting, Request, Job}
use Rattle.definition.specs.Form.{one_setting, one_record, with_broken, Counts, count_of, kind_of, one_more_lem, counted, cites, cites_earlier}
use Rattle.definition.specs.Numbering.{entries, is_bootstrap, constants_of, bootstraps_of}
use Rattle.definition.specs.Definitions.{same_kind_lem}
use Rattle.facts.specs.Lists.{Among}
use Rattle.facts.proofs.Lists.{clash, none≢some, some_inj, both_true, every-at, only_here, only-later}
use Rattle.facts.proofs.Tables.{lookup-every}
use Rattle.facts.proofs.Each.{each_at}
use Rattle.laws.proofs.Form.DefinitionsRead.{no_entries}
use Rattle.laws.proofs.Form.FormedEntries.{OfKind, OfKinds, ShapeOf, FormedDefinition}
use Rattle.laws.proofs.Form.FormedJobs.{FormedFrom, counts_after, FormedRequest, Formed, formed_definitions_each}
use Rattle.laws.specs.Counted.{count_in}

-- a reference cites an entry that is there
unfoldable pub Cites : {L : Type 0} → List (Definition L) → Reference → Type 0
Cites ds (raw n) = Unit {0}
Cites ds (entry kind n) = n < count_in kind ds
Cites ds (name kind s) = Unit {0}

-- the kind of an entry's child by its place: the first of Dynamic and InvokeDynamic is a bootstrap, all others are constants
unfoldable pub kid_kind : ℕ → ℕ → Kind
kid_kind tag zero = elim (eqb tag 17 || eqb tag 18) [ true ↦ bootstrap | false ↦ constant ]
kid_kind tag (suc i) = constant

-- children of the kinds that a tag wants
abbrev pub KidsOfKind : ℕ → List Reference → Type 0
KidsOfKind tag kids = (i : ℕ) (r : Reference) → get_elem? kids i ≡ some r → OfKind (kid_kind tag i) r

-- all that a definition refers to is there
unfoldable pub AllCited : {L : Type 0} → List (Definition L) → Definition L → Type 0
AllCited ds (define e) = (i : ℕ) (r : Reference) → get_elem? e.kids i ≡ some r → Cites ds r
AllCited ds (named kind s r) = Cites ds r
AllCited ds (placed kind at n) = n < count_in kind ds
AllCited ds (setting rule) = Unit {0}

-- and of the kind that its place wants
unfoldable pub AllOfKind : {L : Type 0} → Definition L → Type 0
AllOfKind (define e) = KidsOfKind e.tag e.kids
AllOfKind (named kind s r) = OfKind kind r
AllOfKind (placed kind at n) = Unit {0}
AllOfKind (setting rule) = Unit {0}

-- a test on kinds passes only equal ones
pub same_kind-true : (a b : Kind) → same_kind_lem a b ≡ true → a ≡ b
unfolding same_kind_lem
same_kind-true constant constant e = refl
same_kind-true constant bootstrap e = cc
same_kind-true bootstrap constant e = cc
same_kind-true bootstrap bootstrap e = refl

-- the fields of a tag from a child's place on ask for the kinds that the tag wants
abbrev conforms : ℕ → ℕ → List Field → Bool
conforms tag i [] = true
conforms tag i (text ∷ fields) = conforms tag i fields
conforms tag i (bits size ∷ fields) = conforms tag i fields
conforms tag i (byte ∷ fields) = conforms tag i fields
conforms tag i (to kind ∷ fields) = same_kind_lem kind (kid_kind tag i) && conforms tag (suc i) fields
conforms tag i (to_many ∷ []) = same_kind_lem (kid_kind tag 0) constant
conforms tag i (to_many ∷ f ∷ fields) = false

-- where the first child is a constant, all are
all_constant : (tag i : ℕ) → kid_kind tag 0 ≡ constant → kid_kind tag i ≡ constant
unfolding kid_kind
all_constant tag zero e = e
all_constant tag (suc i) e = refl

-- children of the kinds that such fields want are of those that their places want
kids_kinds :
    (tag : ℕ) (fields : List Field) (i : ℕ) (kids : List Reference) →
    OfKinds fields kids →
    conforms tag i fields ≡ true →
    (j : ℕ) (r : Reference) →
    get_elem? kids j ≡ some r →
    OfKind (kid_kind tag (i + j)) r
kids_kinds tag [] i kids h c j r e = let z : none ≡ some r = rw h at e in none≢some z
kids_kinds tag (text ∷ fields) i kids h c j r e = kids_kinds tag fields i kids h c j r e
kids_kinds tag (bits size ∷ fields) i kids h c j r e = kids_kinds tag fields i kids h c j r e
kids_kinds tag (byte ∷ fields) i kids h c j r e = kids_kinds tag fields i kids h c j r e
kids_kinds tag (to kind ∷ fields) i [] h c j r e = absurd h
kids_kinds tag (to kind ∷ fields) i (x ∷ kids) h c zero r e =
    let same = same_kind-true kind (kid_kind tag i) (both_true (same_kind_lem kind (kid_kind tag i)) (conforms tag (suc i) fields) c).0 in
    let here : i + 0 ≡ i = omega arith in
    rw (here, ← same, ← some_inj e) h.0
kids_kinds tag (to kind ∷ fields) i (x ∷ kids) h c (suc j) r e =
    let next : i + suc j ≡ suc i + j = omega arith in
    rw next (kids_kinds tag fields (suc i) kids h.1 (both_true (same_kind_lem kind (kid_kind tag i)) (conforms tag (suc i) fields) c).1 j r e)
kids_kinds tag (to_many ∷ []) i kids h c j r e =
    rw (all_constant tag (i + j) (same_kind-true (kid_kind tag 0) constant c)) (each_at (OfKind constant) kids j r h e)
kids_kinds tag (to_many ∷ f ∷ fields) i kids h c j r e = clash (cc)

-- the shapes of all tags conform
shapes-conform : every (λ (s : ℕ × List Field). conforms s.0 0 s.1) shapes ≡ true
unfolding every shapes kid_kind same_kind_lem
shapes-conform = refl

shape_conforms : (tag : ℕ) (fields : List Field) → ShapeOf tag fields → conforms tag 0 fields ≡ true
unfolding bootstrap_shape kid_kind same_kind_lem
shape_conforms tag fields (inl known) = lookup-every (λ (s : ℕ × List Field). conforms s.0 0 s.1) shapes shapes-conform tag fields known
shape_conforms tag fields (inr known) = rw (known.0, known.1) refl

-- so a formed definition refers to the right kinds
formed_kinds : (x : Definition (List ℕ)) → FormedDefinition x → AllOfKind x
unfolding AllOfKind
formed_kinds (define e) h =
    λ i r p.
    subst (λ j. OfKind (kid_kind e.tag j) r) (zero-add i) (kids_kinds e.tag h.fields 0 e.kids h.of_kinds (shape_conforms e.tag h.fields h.shape_of) i r p)
formed_kinds (named kind s r) h = h.1
formed_kinds (placed kind at n) h = tt
formed_kinds (setting rule) h = tt

-- a definition more is counted where it stands
module _ {L : Type 0} (e : Entry L Reference) (ds : List (Definition L)) where
  constants_skip : is_bootstrap e ≡ true → constants_of (define e ∷ ds) ≡ constants_of ds
  unfolding constants_of entries
  constants_skip h = only-later (λ e. not (is_bootstrap e)) e (entries ds) (ap not h)

  constants_more : is_bootstrap e ≡ false → constants_of (define e ∷ ds) ≡ e ∷ constants_of ds
  unfolding constants_of entries
  constants_more h = only_here (λ e. not (is_bootstrap e)) e (entries ds) (ap not h)

  bootstraps_skip : is_bootstrap e ≡ false → bootstraps_of (define e ∷ ds) ≡ bootstraps_of ds
  unfolding bootstraps_of entries
  bootstraps_skip h = only-later is_bootstrap e (entries ds) h

  bootstraps_more : is_bootstrap e ≡ true → bootstraps_of (define e ∷ ds) ≡ e ∷ bootstraps_of ds
  unfolding bootstraps_of entries
  bootstraps_more h = only_here is_bootstrap e (entries ds) h

  -- and goes into the table of its tag
  kind-bootstrap : is_bootstrap e ≡ true → kind_of e.tag ≡ bootstrap
  unfolding is_bootstrap kind_of
  kind-bootstrap h = rw (h, kind_of)

  kind-constant : is_bootstrap e ≡ false → kind_of e.tag ≡ constant
  unfolding is_bootstrap kind_of
  kind-constant h = rw (h, kind_of)

-- a record that is no entry isn't counted
count_same : {L : Type 0} (kind : Kind) (x : Definition L) (ds : List (Definition L)) → entries ds ≡ entries (x ∷ ds) → count_in kind ds ≡ count_in kind (x ∷ ds)
unfolding count_in constants_of bootstraps_of
count_same constant x ds e = ap (λ l. length (only (λ e. not (is_bootstrap e)) l)) e
count_same bootstrap x ds e = ap (λ l. length (only is_bootstrap l)) e

count_one :
    (kind : Kind) (x : Definition (List ℕ)) (ds : List (Definition (List ℕ))) (n : Counts) →
    count_of kind (counted x n) + count_in kind ds ≡ count_of kind n + count_in kind (x ∷ ds)
unfolding counted one_record with_broken one_more_lem one_setting count_of count_in entries
count_one constant (define e) ds n = ways (is_bootstrap e) refl
  where
    ways :
        (b : Bool) →
        is_bootstrap e ≡ b →
        count_of constant (one_more_lem (kind_of e.tag) n) + length (constants_of ds) ≡ n.constants + length (constants_of (define e ∷ ds))
    ways true h = rw (kind-bootstrap e ds h, constants_skip e ds h)
    ways false h = rw (kind-constant e ds h, constants_more e ds h) (omega arith)
count_one bootstrap (define e) ds n = ways (is_bootstrap e) refl
  where
    ways :
        (b : Bool) →
        is_bootstrap e ≡ b →
        count_of bootstrap (one_more_lem (kind_of e.tag) n) + length (bootstraps_of ds) ≡ n.bootstraps + length (bootstraps_of (define e ∷ ds))
    ways true h = rw (kind-bootstrap e ds h, bootstraps_more e ds h) (omega arith)
    ways false h = rw (kind-constant e ds h, bootstraps_skip e ds h)
count_one constant (named k s r) ds n = ap (λ m. count_of constant n + m) (count_same constant (named k s r) ds refl)
count_one bootstrap (named k s r) ds n = ap (λ m. count_of bootstrap n + m) (count_same bootstrap (named k s r) ds refl)
count_one constant (placed k at m) ds n = ap (λ m. count_of constant n + m) (count_same constant (placed k at m) ds refl)
count_one bootstrap (placed k at m) ds n = ap (λ m. count_of bootstrap n + m) (count_same bootstrap (placed k at m) ds refl)
count_one constant (setting (version v)) ds n = ap (λ m. count_of constant n + m) (count_same constant (setting (version v)) ds refl)
count_one constant (setting texts) ds n = ap (λ m. count_of constant n + m) (count_same constant (setting texts) ds refl)
count_one constant (setting (highest top)) ds n = ap (λ m. count_of constant n + m) (count_same constant (setting (highest top)) ds refl)
count_one bootstrap (setting (version v)) ds n = ap (λ m. count_of bootstrap n + m) (count_same bootstrap (setting (version v)) ds refl)
count_one bootstrap (setting texts) ds n = ap (λ m. count_of bootstrap n + m) (count_same bootstrap (setting texts) ds refl)
count_one bootstrap (setting (highest top)) ds n = ap (λ m. count_of bootstrap n + m) (count_same bootstrap (setting (highest top)) ds refl)

count_nil : (kind : Kind) → count_in {L = List ℕ} kind [] ≡ 0
unfolding count_in constants_of bootstraps_of entries only
count_nil constant = refl
count_nil bootstrap = refl

-- at the end the counts are those of the entries there
counts_after_lem : (n : Counts) (ds : List (Definition (List ℕ))) (kind : Kind) → count_of kind (counts_after n ds) ≡ count_of kind n + count_in kind ds
counts_after_lem n [] kind = omega (arith, count_nil kind)
counts_after_lem n (x ∷ ds) kind = counts_after_lem (counted x n) ds kind ∙ count_one kind x ds n

-- each definition cites what was counted before it
earlier_cited :
    (n : Counts) (ds : List (Definition (List ℕ))) →
    FormedFrom n ds →
    (i : ℕ) (x : Definition (List ℕ)) →
    get_elem? ds i ≡ some x →
    (m : Counts) × (cites_earlier m x ≡ true) × ((kind : Kind) → count_of kind m ≤ count_of kind (counts_after n ds))
earlier_cited n [] h i x e = none≢some e
earlier_cited n (d ∷ ds) h zero x e =
    (n, rw (← some_inj e) h.0.earlier, λ kind. omega (arith, counts_after_lem n (d ∷ ds) kind))
earlier_cited n (d ∷ ds) h (suc i) x e = earlier_cited (counted d n) ds h.1 i x e

-- what was tested against counts that are reached is there
cites-there :
    (ds : List (Definition (List ℕ))) (n : Counts) (r : Reference) → ((kind : Kind) → count_of kind n ≤ count_in kind ds) → cites n r ≡ true → Cites ds r
unfolding cites Cites
cites-there ds n (raw m) h e = tt
cites-there ds n (entry kind m) h e =
    let p = ltb-true m (count_of kind n) e in
    let q = h kind in
    omega arith
cites-there ds n (name kind s) h e = tt

earlier_there :
    (ds : List (Definition (List ℕ))) (n : Counts) (x : Definition (List ℕ)) →
    ((kind : Kind) → count_of kind n ≤ count_in kind ds) →
    cites_earlier n x ≡ true →
    AllCited ds x
unfolding cites_earlier AllCited
earlier_there ds n (define x) h e = λ i r p. cites-there ds n r h (every-at (cites n) x.kids e i r p)
earlier_there ds n (named kind s r) h e = cites-there ds n r h e
earlier_there ds n (placed kind at m) h e =
    let p = ltb-true m (count_of kind n) e in
    let q = h kind in
    omega arith
earlier_there ds n (setting rule) h e = tt

-- a job whose references all cite what is there, each of the kind that its place wants
pub record Cited (L : Type 0) (job : Job L) : Type 0 where
  pub definition_cited : (i : ℕ) (x : Definition L) → get_elem? job.definitions i ≡ some x → AllCited job.definitions x
  pub definition_of_kind : (i : ℕ) (x : Definition L) → get_elem? job.definitions i ≡ some x → AllOfKind x
  pub request_cited : (i : ℕ) (q : Request) → get_elem? job.requests i ≡ some q → Cites job.definitions q.what
  pub request_of_kind : (i : ℕ) (q : Request) → get_elem? job.requests i ≡ some q → OfKind constant q.what

-- the same, record by record
module _ {L : Type 0} (job : Job L) (cited : Cited L job) where
  pub kid_cited :
      (e : Entry L Reference) →
      Among (define e) job.definitions →
      (i : ℕ) (r : Reference) →
      get_elem? e.kids i ≡ some r →
      Cites job.definitions r × OfKind (kid_kind e.tag i) r
  unfolding AllCited AllOfKind
  kid_cited e h i r p = (cited.definition_cited h.0 (define e) h.1 i r p, cited.definition_of_kind h.0 (define e) h.1 i r p)

  pub named-cited :
      (kind : Kind) (s : List ℕ) (r : Reference) → Among (named kind s r) job.definitions → Cites job.definitions r × OfKind kind r
  unfolding AllCited AllOfKind
  named-cited kind s r h = (cited.definition_cited h.0 (named kind s r) h.1, cited.definition_of_kind h.0 (named kind s r) h.1)

  pub placed-cited : (kind : Kind) (n e : ℕ) → Among (placed kind n e) job.definitions → e < count_in kind job.definitions
  unfolding AllCited
  placed-cited kind n e h = cited.definition_cited h.0 (placed kind n e) h.1

pub formed_cited : (job : Job (List ℕ)) → Formed job → Cited (List ℕ) job
unfolding count_of
formed_cited job f =
    record {
      definition_cited =
          λ i x p.
          let c = earlier_cited no_entries job.definitions f.definitions i x p in
          earlier_there job.definitions c.0 x (λ kind. omega (arith, c.2 kind, reached kind)) c.1;
      definition_of_kind = λ i x p. formed_kinds x (each_at FormedDefinition job.definitions i x (formed_definitions_each job f) p);
      request_cited = λ i q p. cites-there job.definitions after q.what reached (asked i q p).1;
      request_of_kind = λ i q p. (asked i q p).0;
    }
  where
    after : Counts
    after = counts_after no_entries job.definitions

    none_yet : (kind : Kind) → count_of kind no_entries ≡ 0
    none_yet constant = refl
    none_yet bootstrap = refl

    reached : (kind : Kind) → count_of kind after ≤ count_in kind job.definitions
    reached kind = omega (arith, counts_after_lem no_entries job.definitions kind, none_yet kind)

    asked : (i : ℕ) (q : Request) → get_elem? job.requests i ≡ some q → FormedRequest after q
    asked i q p = each_at (FormedRequest after) job.requests i q f.requests p
