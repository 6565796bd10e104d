-- Each definition of a formed job was read by its first byte; and each of its entries is one of its definitions. Assumes nothing.
use mathlib.Core.Bool.{Bool, true, false}
use mathlib.Core.List.{List, [], ◌∷◌}
use mathlib.Core.Option.{some}
use mathlib.Core.Path.{◌≡◌, refl, ap, ◌∙◌}
use Prim.Native.Nat.{ℕ, zero, suc}
use lib.Dec.{eqb}
use lib.ListN.{length, get_elem?}
use Rattle.definition.specs.Basics.{good, at_record, unless}
use Rattle.definition.specs.Shapes.{Entry}
use Rattle.definition.specs.Job.{Reference, Definition, define, named, placed, setting, Job, read_definition}
use Rattle.definition.specs.Form.{Counts, nothing_yet, counted, whole, may_stand, has_room, texts_held, cites_earlier, comes_out, form_definition, Definitions, form_definitions, form_requests, form}
use Rattle.definition.specs.Numbering.{entries}
use Rattle.facts.specs.Lists.{Among}
use Rattle.facts.proofs.Lists.{clash, all_cons, among_later}
use Rattle.facts.proofs.Results.{good_then, at_record-good, whole-good}

-- no entry yet
abbrev pub no_entries : Counts
no_entries = nothing_yet

-- a formed job's definitions are those that were formed first
pub formed_definitions :
    (bytes : List ℕ) (j : Job (List ℕ)) →
    form bytes ≡ good j →
    (d : Definitions) × (form_definitions (length bytes) no_entries 0 bytes ≡ good d) × (j.definitions ≡ d.list)
unfolding form
formed_definitions bytes j e =
    good_then (form_definitions (length bytes) no_entries 0 bytes) _ j e λ d p q.
    good_then (form_requests (length bytes) d.counts 0 (suc (length d.list)) d.rest) _ j q λ r s t.
    (d, p, cc)

-- a formed definition was read behind its first byte
pub formed_read :
    (n : Counts) (first : ℕ) (bytes : List ℕ) (r : Definition (List ℕ) × List ℕ) → form_definition n first bytes ≡ good r → read_definition first bytes ≡ some r
unfolding form_definition
formed_read n first bytes r e =
    good_then (whole (read_definition first bytes)) _ r e λ a p q.
    good_then (may_stand n a.0) _ r q λ _ _ q.
    good_then (unless (has_room n a.0) 5) _ r q λ _ _ s.
    good_then (unless (cites_earlier n a.0) 4) _ r s λ _ _ t.
    good_then (comes_out first bytes) _ r t λ _ _ t.
    whole-good (read_definition first bytes) r (p ∙ t)

-- 50 ends the definitions
pub formed_end :
    (fuel : ℕ) (n : Counts) (place first : ℕ) (bytes : List ℕ) (d : Definitions) →
    eqb first 0x50 ≡ true →
    form_definitions (suc fuel) n place (first ∷ bytes) ≡ good d →
    d ≡ record { list = []; counts = n; rest = bytes }
unfolding form_definitions
formed_end fuel n place first bytes d s e =
    let h : form_definitions (suc fuel) n place (first ∷ bytes) ≡ good (record { list = []; counts = n; rest = bytes }) = rw (s, form_definitions) in
    cc

-- any other first byte begins a definition, and the others follow
pub formed_step :
    (fuel : ℕ) (n : Counts) (place first : ℕ) (bytes : List ℕ) (d : Definitions) →
    eqb first 0x50 ≡ false →
    form_definitions (suc fuel) n place (first ∷ bytes) ≡ good d →
    (r : Definition (List ℕ) × List ℕ)
    × (d' : Definitions)
    × (form_definition n first bytes ≡ good r)
    × (form_definitions fuel (counted r.0 n) (suc place) r.1 ≡ good d')
    × (d ≡ record { list = r.0 ∷ d'.list; counts = d'.counts; rest = d'.rest })
unfolding form_definitions
formed_step fuel n place first bytes d s e =
    good_then (at_record place (form_definition n first bytes)) _ d (rw (s, form_definitions) at e) λ r p q.
    good_then (texts_held (counted r.0 n)) _ d q λ _ _ q.
    good_then (form_definitions fuel (counted r.0 n) (suc place) r.1) _ d q λ d' t u.
    (r, d', at_record-good place (form_definition n first bytes) r p, t, cc)

-- what is so of every definition that is read is so of every formed one
module _
    (P : Definition (List ℕ) → Type 0)
    (read : (first : ℕ) (bytes : List ℕ) (r : Definition (List ℕ) × List ℕ) → read_definition first bytes ≡ some r → P r.0) where
  all_formed :
      (fuel : ℕ) (n : Counts) (place : ℕ) (bytes : List ℕ) (d : Definitions) →
      form_definitions fuel n place bytes ≡ good d →
      (i : ℕ) (x : Definition (List ℕ)) →
      get_elem? d.list i ≡ some x →
      P x
  unfolding form_definitions
  all_formed zero n place [] d e = clash (cc)
  all_formed zero n place (first ∷ bytes) d e = clash (cc)
  all_formed (suc fuel) n place [] d e = clash (cc)
  all_formed (suc fuel) n place (first ∷ bytes) d e = ways (eqb first 0x50) refl (all_formed fuel)
    where
      ways :
          (b : Bool) →
          eqb first 0x50 ≡ b →
          ((n : Counts) (place : ℕ) (bytes : List ℕ) (d : Definitions) →
          form_definitions fuel n place bytes ≡ good d →
          (i : ℕ) (x : Definition (List ℕ)) →
          get_elem? d.list i ≡ some x →
          P x) →
          (i : ℕ) (x : Definition (List ℕ)) →
          get_elem? d.list i ≡ some x →
          P x
      ways true s rest i x p =
          let h = formed_end fuel n place first bytes d s e in
          clash (cc)
      ways false s rest i x p =
          let h = formed_step fuel n place first bytes d s e in
          let r = h.0 in
          let q : d.list ≡ r.0 ∷ h.1.list = ap (λ (d : Definitions). d.list) h.4 in
          let here = read first bytes r (formed_read n first bytes r h.2) in
          let later = rest (counted r.0 n) (suc place) r.1 h.1 h.3 in
          all_cons P r.0 h.1.list here later i x (rw q at p)

  pub all_read :
      (bytes : List ℕ) (j : Job (List ℕ)) →
      form bytes ≡ good j →
      (i : ℕ) (x : Definition (List ℕ)) →
      get_elem? j.definitions i ≡ some x →
      P x
  all_read bytes j e i x p =
      let h = formed_definitions bytes j e in
      all_formed (length bytes) no_entries 0 bytes h.0 h.1 i x (rw h.2 at p)

-- an entry of a list of definitions is defined there
pub entry_defined : {L : Type 0} (ds : List (Definition L)) (i : ℕ) (e : Entry L Reference) → get_elem? (entries ds) i ≡ some e → Among (define e) ds
unfolding entries
entry_defined [] i e p = clash (cc)
entry_defined (define x ∷ ds) zero e p = let q : x ≡ e = cc in (0, ap (λ y. some (define y)) q)
entry_defined (define x ∷ ds) (suc i) e p = among_later (define e) (define x) ds (entry_defined ds i e p)
entry_defined (named kind s r ∷ ds) i e p = among_later (define e) (named kind s r) ds (entry_defined ds i e p)
entry_defined (placed kind at n ∷ ds) i e p = among_later (define e) (placed kind at n) ds (entry_defined ds i e p)
entry_defined (setting rule ∷ ds) i e p = among_later (define e) (setting rule) ds (entry_defined ds i e p)
