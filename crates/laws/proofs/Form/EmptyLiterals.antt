-- An entry of a formed job whose tag has no literal has the empty one. Assumes nothing.
use mathlib.Core.Bool.{Bool, true, false, ◌||◌, not}
use mathlib.Core.List.{List, [], ◌∷◌, ◌++◌}
use mathlib.Core.Option.{Option, none, some}
use mathlib.Core.Path.{◌≡◌, refl, ap}
use Prim.Native.Nat.{ℕ}
use lib.ListN.{get_elem?}
use borrow.Author.Tests.{not-true}
use Rattle.definition.specs.Basics.{Result, good, bad, every, lookup}
use Rattle.definition.specs.Bytes.{Parser, one, two, many}
use Rattle.definition.specs.Expression.{Number, int, float, long, double, tag_of, read_expression}
use Rattle.definition.specs.Shapes.{Kind, Field, text, bits, byte, to, to_many, shapes, bootstrap_shape, Entry, with_kids, with_literal, with_byte, read_fields, read_entry, constant}
use Rattle.definition.specs.Job.{Reference, Definition, define, Job, short_name, reference, Body, of_entry, bodies, as_constant, worked_out, read_body, read_definition, of_name, of_raw, of_expression, of_number, of_nothing}
use Rattle.definition.specs.Value.{folded}
use Rattle.definition.specs.Form.{form}
use Rattle.definition.specs.Numbering.{Literal, entries}
use Rattle.facts.proofs.Lists.{clash, stands}
use Rattle.facts.proofs.Tables.{lookup-every}
use Rattle.facts.proofs.Results.{some_then}
use Rattle.laws.proofs.Form.EntryShapes.{shows_literal}
use Rattle.laws.proofs.Form.DefinitionsRead.{all_read, entry_defined}

-- reading fields keeps the tag, and the literal where none is among them
pub fields_keep :
    {R : Type 0} (kid : Kind → Parser R) (fields : List Field) (e : Entry (List ℕ) R) (bytes : List ℕ) (r : Entry (List ℕ) R × List ℕ) →
    read_fields kid fields e bytes ≡ some r →
    (r.0.tag ≡ e.tag) × (shows_literal fields ≡ false → r.0.literal ≡ e.literal)
unfolding read_fields with_literal with_byte with_kids
fields_keep kid [] e bytes r p = (cc, λ _. cc)
fields_keep kid (text ∷ fields) e bytes r p =
    some_then (two bytes) _ r p λ size rest _ q.
    some_then (many size one rest) _ r q λ s rest _ t.
    ((fields_keep kid fields (with_literal s e) rest r t).0, λ h. cc)
fields_keep kid (bits size ∷ fields) e bytes r p =
    some_then (many size one bytes) _ r p λ s rest _ t.
    ((fields_keep kid fields (with_literal s e) rest r t).0, λ h. cc)
fields_keep kid (byte ∷ fields) e bytes r p =
    some_then (one bytes) _ r p λ b rest _ t.
    fields_keep kid fields (with_byte b e) rest r t
fields_keep kid (to kind ∷ fields) e bytes r p =
    some_then (kid kind bytes) _ r p λ k rest _ t.
    fields_keep kid fields (with_kids (e.kids ++ k ∷ []) e) rest r t
fields_keep kid (to_many ∷ fields) e bytes r p =
    some_then (two bytes) _ r p λ size rest _ q.
    some_then (many size (kid constant) rest) _ r q λ ks rest _ t.
    fields_keep kid fields (with_kids (e.kids ++ ks) e) rest r t

-- text and the four kinds of number
abbrev pub has_literal : ℕ → Bool
has_literal tag = stands tag (1 ∷ 3 ∷ 4 ∷ 5 ∷ 6 ∷ [])

-- in the table of first bytes a tag has a literal, or its shape has no field for one
bare_body : ℕ × Body → Bool
bare_body (tag, of_entry fields) = has_literal tag || not (shows_literal fields)
bare_body (tag, of_name kind) = true
bare_body (tag, of_raw kind) = true
bare_body (tag, of_expression) = true
bare_body (tag, of_number rule) = true
bare_body (tag, of_nothing rule) = true

bodies-bare : every bare_body bodies ≡ true
unfolding every bare_body bodies shapes bootstrap_shape
bodies-bare = refl

-- an entry's literal, kind included
abbrev pub lit_of : Entry (List ℕ) Reference → Literal
lit_of e = (e.tag, e.literal)

-- a literal of a tag that has none is empty
abbrev pub Bare : Literal → Type 0
Bare a = has_literal a.0 ≡ false → a.1 ≡ []

-- a number has a literal, and so has what a 46 adds
number-literal : (kind : Number) → has_literal (tag_of kind) ≡ true
unfolding tag_of
number-literal int = refl
number-literal float = refl
number-literal long = refl
number-literal double = refl

worked-literal : (r : Result ℕ (Number × ℕ)) → has_literal (worked_out r).tag ≡ true
unfolding worked_out as_constant
worked-literal (good n) = number-literal n.0
worked-literal (bad code) = number-literal int

-- an entry that is read has the empty literal if its tag has none
body_bare :
    (first : ℕ) (o : Option Body) (bytes : List ℕ) (r : Definition (List ℕ) × List ℕ) (e : Entry (List ℕ) Reference) →
    lookup first bodies ≡ o →
    read_body first o bytes ≡ some r →
    r.0 ≡ define e →
    Bare (lit_of e)
unfolding read_body read_entry bare_body
body_bare first none bytes r e o p q h = cc
body_bare first (some (of_entry fields)) bytes r e o p q h =
    some_then (read_entry reference first fields bytes) _ r p λ x rest s t.
    let same : x ≡ e = cc in
    let keep = fields_keep reference fields (record { tag = first; literal = []; byte = 0; kids = [] }) bytes (x, rest) s in
    let tag : e.tag ≡ first = rw same at keep.0 in
    let none : has_literal first ≡ false = rw tag at h in
    let row : (has_literal first || not (shows_literal fields)) ≡ true = lookup-every bare_body bodies bodies-bare first (of_entry fields) o in
    rw (← same) (keep.1 (not-true (shows_literal fields) (rw none at row)))
body_bare first (some (of_name kind)) bytes r e o p q h =
    some_then (short_name bytes) _ r p λ n rest _ s.
    some_then (reference kind rest) _ r s λ k rest _ t.
    cc
body_bare first (some (of_raw kind)) bytes r e o p q h =
    some_then (two bytes) _ r p λ n rest _ s.
    some_then (two rest) _ r s λ k rest _ t.
    cc
body_bare first (some of_expression) bytes r e o p q h =
    some_then (read_expression bytes) _ r p λ x rest _ t.
    let same : worked_out (folded x) ≡ e = cc in
    clash (cc (worked-literal (folded x), ap (λ (y : Entry (List ℕ) Reference). has_literal y.tag) same))
body_bare first (some (of_number rule)) bytes r e o p q h = some_then (two bytes) _ r p λ n rest _ t. cc
body_bare first (some (of_nothing rule)) bytes r e o p q h = cc

-- and so has each entry of a formed job
pub entries-bare :
    (bytes : List ℕ) (j : Job (List ℕ)) →
    form bytes ≡ good j →
    (i : ℕ) (e : Entry (List ℕ) Reference) →
    get_elem? (entries j.definitions) i ≡ some e →
    Bare (lit_of e)
unfolding read_definition
entries-bare bytes j f i e p =
    let d = entry_defined j.definitions i e p in
    all_read
    (λ d. (e : Entry (List ℕ) Reference) → d ≡ define e → Bare (lit_of e))
    (λ first bytes r q e s. body_bare first (lookup first bodies) bytes r e refl q s)
    bytes j f d.0 (define e) d.1 e refl
