-- What the interner needs to know of an entry of the one table: it has references or a literal and never both, its literal is one of the
-- job's, and its number is the literal's. Assumes nothing.
use mathlib.Core.Bool.{Bool, true, false, ◌&&◌, ◌||◌, not}
use mathlib.Core.List.{List, [], ◌∷◌, ◌++◌, map, map-append}
use mathlib.Core.Logic.{◌⊎◌, inl, inr, ⊎_elim}
use mathlib.Core.Option.{Option, none, some}
use mathlib.Core.Path.{◌≡◌, refl, sym, ap}
use Prim.Native.Nat.{ℕ, suc, ◌+◌, ◌≤◌, ◌<◌}
use native.Mathlib.Omega.{arith}
use lib.ListN.{length, get_or, get_elem?, drop, length-append}
use borrow.Author.Tests.{not-true}
use Rattle.definition.specs.Basics.{Result, good, bad, every, only, lookup}
use Rattle.definition.specs.Bytes.{Parser, one, two, many}
use Rattle.definition.specs.Expression.{Number, read_expression}
use Rattle.definition.specs.Value.{folded}
use Rattle.definition.specs.Shapes.{Kind, constant, Field, text, bits, byte, to, to_many, Entry, shapes, bootstrap_shape, with_kids, with_literal, with_byte, read_fields, read_entry}
use Rattle.definition.specs.Job.{Reference, Definition, define, Body, of_entry, of_name, of_raw, of_expression, of_number, of_nothing, bodies, as_constant, worked_out, short_name, reference, read_body, read_definition}
use Rattle.definition.specs.Numbering.{entries, is_bootstrap, constants_of, bootstraps_of, literals, numbered_entry}
use Rattle.facts.specs.Lists.{Among}
use Rattle.facts.proofs.Lists.{clash, both_true, none≢some, some_inj, inside_found, among-either, only_at, map_at}
use Rattle.facts.proofs.Results.{some_then}
use Rattle.facts.proofs.Tables.{lookup-every}
use Rattle.laws.proofs.Form.EntryShapes.{shows_literal}
use Rattle.laws.proofs.Form.EmptyLiterals.{lit_of, fields_keep}
use Rattle.laws.proofs.Numbering.NumberedCited.{constants_numbered_lem, bootstraps_numbered}
use Rattle.job.specs.Stored.{Found, any_definition}
use Rattle.job.proofs.Standing.{definition_read}
use Rattle.store.specs.JobIn.{job_in, definitions_in, counts_in, table_of, table_in, entries_in, numbered_in}
use Rattle.store.specs.Words.{cut}
use Rattle.store.specs.Entries.{EntryAt, Entered}
use Rattle.interner.specs.Nodes.{hash_node, hash_at, node_at_lem}

-- an entry has no references and no kind byte, or references and no literal
abbrev pub Shaped : Entry (List ℕ) Reference → Type 0
Shaped x = ((length x.kids ≡ 0) × (x.byte ≡ 0)) ⊎ ((0 < length x.kids) × (x.literal ≡ []))

-- fields that are a literal and nothing else, and fields that begin with a reference, behind a kind byte or not
leaf : List Field → Bool
leaf [] = false
leaf (text ∷ []) = true
leaf (text ∷ f ∷ fields) = false
leaf (bits size ∷ []) = true
leaf (bits size ∷ f ∷ fields) = false
leaf (byte ∷ fields) = false
leaf (to kind ∷ fields) = false
leaf (to_many ∷ fields) = false

refers : List Field → Bool
refers [] = false
refers (text ∷ fields) = false
refers (bits size ∷ fields) = false
refers (byte ∷ fields) = refers fields
refers (to kind ∷ fields) = true
refers (to_many ∷ fields) = false

-- every shape is one or the other, and only the first has a literal
shaped_body : ℕ × Body → Bool
shaped_body (tag, of_entry fields) = leaf fields || (refers fields && not (shows_literal fields))
shaped_body (tag, of_name kind) = true
shaped_body (tag, of_raw kind) = true
shaped_body (tag, of_expression) = true
shaped_body (tag, of_number rule) = true
shaped_body (tag, of_nothing rule) = true

bodies-shaped : every shaped_body bodies ≡ true
unfolding every shaped_body leaf refers bodies shapes bootstrap_shape
bodies-shaped = refl

module _ {R : Type 0} (kid : Kind → Parser R) where
  -- reading fields takes no reference away
  kids_stay :
      (fields : List Field) (e : Entry (List ℕ) R) (bytes : List ℕ) (r : Entry (List ℕ) R × List ℕ) →
      read_fields kid fields e bytes ≡ some r →
      length e.kids ≤ length r.0.kids
  unfolding read_fields with_literal with_byte with_kids
  kids_stay [] e bytes r p = let q : e ≡ r.0 = cc in rw q (omega arith)
  kids_stay (text ∷ fields) e bytes r p =
      some_then (two bytes) _ r p λ size rest _ q.
      some_then (many size one rest) _ r q λ s rest _ t.
      kids_stay fields (with_literal s e) rest r t
  kids_stay (bits size ∷ fields) e bytes r p =
      some_then (many size one bytes) _ r p λ s rest _ t.
      kids_stay fields (with_literal s e) rest r t
  kids_stay (byte ∷ fields) e bytes r p =
      some_then (one bytes) _ r p λ b rest _ t.
      kids_stay fields (with_byte b e) rest r t
  kids_stay (to kind ∷ fields) e bytes r p =
      some_then (kid kind bytes) _ r p λ k rest _ t.
      omega (arith, kids_stay fields (with_kids (e.kids ++ k ∷ []) e) rest r t, length-append e.kids (k ∷ []))
  kids_stay (to_many ∷ fields) e bytes r p =
      some_then (two bytes) _ r p λ size rest _ q.
      some_then (many size (kid constant) rest) _ r q λ ks rest _ t.
      omega (arith, kids_stay fields (with_kids (e.kids ++ ks) e) rest r t, length-append e.kids ks)

  -- a reference is read
  kids_more :
      (fields : List Field) (e : Entry (List ℕ) R) (bytes : List ℕ) (r : Entry (List ℕ) R × List ℕ) →
      refers fields ≡ true →
      read_fields kid fields e bytes ≡ some r →
      0 < length r.0.kids
  unfolding refers read_fields with_byte with_kids
  kids_more [] e bytes r h p = clash (cc)
  kids_more (text ∷ fields) e bytes r h p = clash (cc)
  kids_more (bits size ∷ fields) e bytes r h p = clash (cc)
  kids_more (byte ∷ fields) e bytes r h p =
      some_then (one bytes) _ r p λ b rest _ t.
      kids_more fields (with_byte b e) rest r h t
  kids_more (to kind ∷ fields) e bytes r h p =
      some_then (kid kind bytes) _ r p λ k rest _ t.
      omega (arith, kids_stay fields (with_kids (e.kids ++ k ∷ []) e) rest r t, length-append e.kids (k ∷ []))
  kids_more (to_many ∷ fields) e bytes r h p = clash (cc)

  -- a literal is read and nothing else
  leaf_keeps :
      (fields : List Field) (e : Entry (List ℕ) R) (bytes : List ℕ) (r : Entry (List ℕ) R × List ℕ) →
      leaf fields ≡ true →
      read_fields kid fields e bytes ≡ some r →
      (r.0.kids ≡ e.kids) × (r.0.byte ≡ e.byte)
  unfolding leaf read_fields with_literal
  leaf_keeps [] e bytes r h p = clash (cc)
  leaf_keeps (text ∷ []) e bytes r h p =
      some_then (two bytes) _ r p λ size rest _ q.
      some_then (many size one rest) _ r q λ s rest _ t.
      let z = some_inj t in
      (ap (λ r. r.0.kids) (sym z), ap (λ r. r.0.byte) (sym z))
  leaf_keeps (text ∷ f ∷ fields) e bytes r h p = clash (cc)
  leaf_keeps (bits size ∷ []) e bytes r h p =
      some_then (many size one bytes) _ r p λ s rest _ t.
      let z = some_inj t in
      (ap (λ r. r.0.kids) (sym z), ap (λ r. r.0.byte) (sym z))
  leaf_keeps (bits size ∷ f ∷ fields) e bytes r h p = clash (cc)
  leaf_keeps (byte ∷ fields) e bytes r h p = clash (cc)
  leaf_keeps (to kind ∷ fields) e bytes r h p = clash (cc)
  leaf_keeps (to_many ∷ fields) e bytes r h p = clash (cc)

-- an entry that is read is shaped
fields_shaped :
    (first : ℕ) (fields : List Field) (bytes : List ℕ) (r : Entry (List ℕ) Reference × List ℕ) →
    (leaf fields || (refers fields && not (shows_literal fields))) ≡ true →
    read_entry reference first fields bytes ≡ some r →
    Shaped r.0
unfolding read_entry
fields_shaped first fields bytes r h p = ways (leaf fields) refl h
  where
    start : Entry (List ℕ) Reference
    start = record { tag = first; literal = []; byte = 0; kids = [] }

    ways : (b : Bool) → leaf fields ≡ b → (b || (refers fields && not (shows_literal fields))) ≡ true → Shaped r.0
    ways true e h = let k = leaf_keeps reference fields start bytes r e p in inl (ap length k.0, k.1)
    ways false e h =
        let k = both_true (refers fields) (not (shows_literal fields)) h in
        inr (kids_more reference fields start bytes r k.0 p, (fields_keep reference fields start bytes r p).1 (not-true (shows_literal fields) k.1))

-- what was worked out has no references
worked-shaped : (r : Result ℕ (Number × ℕ)) → Shaped (worked_out r)
unfolding worked_out as_constant
worked-shaped (good n) = inl (refl, refl)
worked-shaped (bad code) = inl (refl, refl)

body_shaped :
    (first : ℕ) (o : Option Body) (bytes : List ℕ) (r : Definition (List ℕ) × List ℕ) (x : Entry (List ℕ) Reference) →
    lookup first bodies ≡ o →
    read_body first o bytes ≡ some r →
    r.0 ≡ define x →
    Shaped x
unfolding read_body shaped_body
body_shaped first none bytes r x o p q = none≢some p
body_shaped first (some (of_entry fields)) bytes r x o p q =
    some_then (read_entry reference first fields bytes) _ r p λ y rest s t.
    let same : y ≡ x = cc in
    rw (← same) (fields_shaped first fields bytes (y, rest) (lookup-every shaped_body bodies bodies-shaped first (of_entry fields) o) s)
body_shaped first (some (of_name kind)) bytes r x o p q =
    some_then (short_name bytes) _ r p λ n rest _ s.
    some_then (reference kind rest) _ r s λ k rest _ t.
    clash (cc)
body_shaped first (some (of_raw kind)) bytes r x o p q =
    some_then (two bytes) _ r p λ n rest _ s.
    some_then (two rest) _ r s λ k rest _ t.
    clash (cc)
body_shaped first (some of_expression) bytes r x o p q =
    some_then (read_expression bytes) _ r p λ y rest _ t.
    let same : worked_out (folded y) ≡ x = cc in
    rw (← same) (worked-shaped (folded y))
body_shaped first (some (of_number rule)) bytes r x o p q = some_then (two bytes) _ r p λ n rest _ s. clash (cc)
body_shaped first (some (of_nothing rule)) bytes r x o p q = clash (cc)

pub found_shaped : (s : List ℕ) (at : ℕ) (x : Entry (List ℕ) Reference) (next : ℕ) → Found any_definition s at (define x) next → Shaped x
unfolding read_definition
found_shaped s at x next f =
    body_shaped (get_or s at 0) (lookup (get_or s at 0) bodies) (drop (at + 1) s) (define x, drop next s) x refl (definition_read s at (define x) next f).2 refl

-- ITS LITERAL is one of the job's

table_literal : (s : List ℕ) (e : ℕ) (x : Entry (List ℕ) Reference) → get_elem? (table_in s) e ≡ some x → Among (lit_of x) (literals (job_in s))
unfolding table_of definitions_in constants_of bootstraps_of literals
table_literal s e x h =
    let all = entries (job_in s).definitions in
    ⊎_elim
    (λ (a : Among x (only (λ e. not (is_bootstrap e)) all)). among (only_at (λ e. not (is_bootstrap e)) all a.0 x a.1).1)
    (λ (a : Among x (only is_bootstrap all)). among (only_at is_bootstrap all a.0 x a.1).1)
    (among-either x (only (λ e. not (is_bootstrap e)) all) (only is_bootstrap all) (e, h))
  where
    among : Among x (entries (job_in s).definitions) → Among (lit_of x) (literals (job_in s))
    among a = (suc a.0, map_at (λ x. (x.tag, x.literal)) (entries (job_in s).definitions) a.0 x a.1)

-- and the numbered table has its number
pub numbered-table : (s : List ℕ) → numbered_in s ≡ map (numbered_entry (literals (job_in s))) (table_in s)
unfolding numbered_in table_of definitions_in
numbered-table s =
    let j = job_in s in
    rw (constants_numbered_lem j, bootstraps_numbered j) (sym (map-append (numbered_entry (literals j)) (constants_of j.definitions) (bootstraps_of j.definitions)))

-- ALL that is known of an entry
pub record Known (s offsets firsts sizes : List ℕ) (e : ℕ) : Type 0 where
  pub entry : Entry (List ℕ) Reference
  pub is : get_elem? (table_in s) e ≡ some entry
  pub at : EntryAt s offsets firsts sizes (counts_in s).references e entry
  pub among : Among (lit_of entry) (literals (job_in s))
  pub shaped : Shaped entry

pub known : (s offsets firsts sizes : List ℕ) {values : List ℕ} (e : ℕ) → Entered s offsets firsts sizes values → e < entries_in s → Known s offsets firsts sizes e
known s offsets firsts sizes e all h =
    let (x, is) = inside_found (table_in s) e h in
    let at = all.at e x is in
    record { entry = x; is = is; at = at; among = table_literal s e x is; shaped = found_shaped s (get_or offsets e 0) x at.next at.stands }

module _ (s offsets firsts sizes children : List ℕ) (e : ℕ) (k : Known s offsets firsts sizes e) where
  -- its children
  abbrev pub kids_at : List ℕ
  kids_at = cut children (get_or firsts e 0) (get_or sizes e 0)

  pub node_is : node_at_lem s firsts sizes children e ≡ with_kids kids_at (numbered_entry (literals (job_in s)) k.entry)
  unfolding node_at_lem
  node_is =
      let number = numbered_entry (literals (job_in s)) in
      let q : get_elem? (numbered_in s) e ≡ some (number k.entry) = rw (numbered-table s) (map_at number (table_in s) e k.entry k.is) in
      rw (q, node_at_lem)

  pub hash_is : hash_at s firsts sizes children e ≡ hash_node k.entry kids_at
  unfolding hash_at
  hash_is = rw (k.is, hash_at)
