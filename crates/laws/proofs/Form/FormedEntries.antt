-- An entry, or another definition, as the form pass reads it: it fits its tag's shape, every number fits two bytes, every reference has its
-- kind. Assumes nothing.
use mathlib.Core.Bool.{Bool, true, false}
use mathlib.Core.List.{List, [], ◌∷◌, ◌++◌, map, append-nil, append_assoc}
use mathlib.Core.Logic.{◌⊎◌, inl, inr}
use mathlib.Core.Option.{Option, none, some}
use mathlib.Core.Path.{◌≡◌, refl, sym, subst, ◌∙◌}
use Prim.Native.Nat.{ℕ, zero, suc, ◌<◌}
use native.Mathlib.Omega.{arith}
use lib.Dec.{eqb}
use lib.ListN.{length}
use Rattle.definition.specs.Basics.{Result, good, bad, every, lookup}
use Rattle.definition.specs.Bytes.{one, two, many}
use Rattle.definition.specs.Shapes.{Kind, Field, text, bits, byte, to, to_many, shapes, bootstrap_shape, bootstrap_tag, Entry, with_kids, with_literal, with_byte, read_fields, read_entry, constant, bootstrap}
use Rattle.definition.specs.Expression.{Number, int, read_expression}
use Rattle.definition.specs.Settings.{version, texts, highest}
use Rattle.definition.specs.Job.{Reference, raw, entry, name, Definition, define, named, placed, setting, short_name, reference_form, reference, Body, of_entry, bodies, as_constant, worked_out, read_body, read_definition, of_name, of_raw, of_expression, of_number, of_nothing}
use Rattle.definition.specs.Value.{folded}
use Rattle.facts.proofs.Lists.{clash, true≢false}
use Rattle.facts.proofs.Tables.{lookup-every}
use Rattle.facts.proofs.Outcomes.{Anything}
use Rattle.facts.proofs.Each.{Each, each_weaker, lookup-each}
use Rattle.laws.proofs.Form.EntryShapes.{Short, Filled, shows_literal, shows_byte, HasShape}
use Rattle.laws.proofs.Form.WorkedOut.{yields_read, size_of, bits-long, bits_bytes_lem, number-shape}
use Rattle.laws.proofs.Form.ParsersYield.{Byte, Yields, yields_fail, yields_return, yields_bind, yields_map, yields_one, yields_two, yields_many}

-- a name: fewer than 256 bytes
abbrev pub ShortName : List ℕ → Type 0
ShortName s = (length s < 256) × Each Byte s

-- a reference of a kind: a number that two bytes hold, or a name
abbrev pub OfKind : Kind → Reference → Type 0
OfKind kind (raw n) = Short n
OfKind kind (entry k n) = (k ≡ kind) × Short n
OfKind kind (name k s) = (k ≡ kind) × ShortName s

-- references of the kinds that fields want, in their order
abbrev pub OfKinds : List Field → List Reference → Type 0
OfKinds [] rs = rs ≡ []
OfKinds (text ∷ fields) rs = OfKinds fields rs
OfKinds (bits size ∷ fields) rs = OfKinds fields rs
OfKinds (byte ∷ fields) rs = OfKinds fields rs
OfKinds (to kind ∷ fields) [] = ⊥
OfKinds (to kind ∷ fields) (r ∷ rs) = OfKind kind r × OfKinds fields rs
OfKinds (to_many ∷ fields) rs = Each (OfKind constant) rs

-- each is of one of the kinds
pub of_kinds_each : (fields : List Field) (rs : List Reference) → OfKinds fields rs → Each (λ r. (kind : Kind) × OfKind kind r) rs
of_kinds_each [] rs h = subst (Each (λ r. (kind : Kind) × OfKind kind r)) (sym h) tt
of_kinds_each (text ∷ fields) rs h = of_kinds_each fields rs h
of_kinds_each (bits size ∷ fields) rs h = of_kinds_each fields rs h
of_kinds_each (byte ∷ fields) rs h = of_kinds_each fields rs h
of_kinds_each (to kind ∷ fields) [] h = absurd h
of_kinds_each (to kind ∷ fields) (r ∷ rs) h = ((kind, h.0), of_kinds_each fields rs h.1)
of_kinds_each (to_many ∷ fields) rs h = each_weaker (OfKind constant) (λ r. (kind : Kind) × OfKind kind r) (λ r k. (constant, k)) rs h

-- text, bits and many references stand last: true of every shape
unfoldable pub plain : List Field → Bool
plain [] = true
plain (text ∷ []) = true
plain (text ∷ f ∷ fields) = false
plain (bits size ∷ []) = true
plain (bits size ∷ f ∷ fields) = false
plain (byte ∷ fields) = plain fields
plain (to kind ∷ fields) = plain fields
plain (to_many ∷ []) = true
plain (to_many ∷ f ∷ fields) = false

-- an entry read by fields into one that has all that came before them
record ReadInto (fields : List Field) (before e : Entry (List ℕ) Reference) : Type 0 where
  same_tag : e.tag ≡ before.tag
  more : List Reference
  kids_are : e.kids ≡ before.kids ++ more
  filled : Filled fields e.literal (length more)
  of_kinds : OfKinds fields more
  kept_literal : shows_literal fields ≡ false → e.literal ≡ before.literal
  kept_byte : shows_byte fields ≡ false → e.byte ≡ before.byte
  literal_bytes : Each Byte before.literal → Each Byte e.literal
  kind_byte : Byte before.byte → Byte e.byte

-- it, field by field
into_nothing : (e : Entry (List ℕ) Reference) → ReadInto [] e e
into_nothing e =
    record {
      same_tag = refl;
      more = [];
      kids_are = sym (append-nil e.kids);
      filled = refl;
      of_kinds = refl;
      kept_literal = λ z. refl;
      kept_byte = λ z. refl;
      literal_bytes = λ h. h;
      kind_byte = λ h. h;
    }

into_literal :
    (fields : List Field) (s : List ℕ) (e : Entry (List ℕ) Reference) →
    shows_literal fields ≡ true →
    Filled fields s 0 →
    OfKinds fields [] →
    Each Byte s →
    ReadInto fields e (with_literal s e)
unfolding with_literal
into_literal fields s e l f k b =
    record {
      same_tag = refl;
      more = [];
      kids_are = sym (append-nil e.kids);
      filled = f;
      of_kinds = k;
      kept_literal = λ z. cc;
      kept_byte = λ z. refl;
      literal_bytes = λ h. b;
      kind_byte = λ h. h;
    }

into_byte :
    (fields : List Field) (b : ℕ) (before e : Entry (List ℕ) Reference) → Byte b → ReadInto fields (with_byte b before) e → ReadInto (byte ∷ fields) before e
unfolding with_byte
into_byte fields b before e h r =
    record {
      same_tag = r.same_tag;
      more = r.more;
      kids_are = r.kids_are;
      filled = r.filled;
      of_kinds = r.of_kinds;
      kept_literal = r.kept_literal;
      kept_byte = λ z. cc;
      literal_bytes = r.literal_bytes;
      kind_byte = λ k. r.kind_byte h;
    }

into_kid :
    (kind : Kind) (fields : List Field) (kid : Reference) (before e : Entry (List ℕ) Reference) →
    OfKind kind kid →
    ReadInto fields (with_kids (before.kids ++ kid ∷ []) before) e →
    ReadInto (to kind ∷ fields) before e
unfolding with_kids
into_kid kind fields kid before e h r =
    record {
      same_tag = r.same_tag;
      more = kid ∷ r.more;
      kids_are = r.kids_are ∙ append_assoc before.kids (kid ∷ []) r.more;
      filled = r.filled;
      of_kinds = (h, r.of_kinds);
      kept_literal = r.kept_literal;
      kept_byte = r.kept_byte;
      literal_bytes = r.literal_bytes;
      kind_byte = r.kind_byte;
    }

into_many :
    (kids : List Reference) (e : Entry (List ℕ) Reference) →
    Short (length kids) →
    Each (OfKind constant) kids →
    ReadInto (to_many ∷ []) e (with_kids (e.kids ++ kids) e)
unfolding with_kids
into_many kids e n h =
    record {
      same_tag = refl;
      more = kids;
      kids_are = refl;
      filled = (n, refl);
      of_kinds = h;
      kept_literal = λ z. refl;
      kept_byte = λ z. refl;
      literal_bytes = λ k. k;
      kind_byte = λ k. k;
    }

-- names and references
yields_name : Yields ShortName short_name
unfolding short_name
yields_name =
    yields_bind Byte ShortName one _ yields_one λ size h.
    yields_map _ ShortName (many size one) (λ s g. (omega arith, g.1)) (yields_many Byte size one yields_one)

yields_reference_form : (kind : Kind) (form : ℕ) → Yields (OfKind kind) (reference_form kind form)
unfolding reference_form
yields_reference_form kind zero = yields_bind Short (OfKind kind) two _ yields_two λ n h. yields_return (OfKind kind) (raw n) h
yields_reference_form kind (suc zero) = yields_bind Short (OfKind kind) two _ yields_two λ n h. yields_return (OfKind kind) (entry kind n) (refl, h)
yields_reference_form kind (suc (suc zero)) =
    yields_bind ShortName (OfKind kind) short_name _ yields_name λ s h. yields_return (OfKind kind) (name kind s) (refl, h)
yields_reference_form kind (suc (suc (suc n))) = yields_fail (OfKind kind)

pub yields_reference : (kind : Kind) → Yields (OfKind kind) (reference kind)
unfolding reference
yields_reference kind = yields_bind Byte (OfKind kind) one _ yields_one λ form h. yields_reference_form kind form

-- fields
yields_fields :
    (fields : List Field) (before : Entry (List ℕ) Reference) → plain fields ≡ true → Yields (ReadInto fields before) (read_fields reference fields before)
unfolding read_fields plain
yields_fields [] before p = yields_return (ReadInto [] before) before (into_nothing before)
yields_fields (text ∷ []) before p =
    yields_bind Short _ two _ yields_two λ size h.
    yields_bind _ _ (many size one) _ (yields_many Byte size one yields_one) λ s g.
    yields_return (ReadInto (text ∷ []) before) (with_literal s before) (into_literal (text ∷ []) s before refl (omega arith, refl) refl g.1)
yields_fields (text ∷ f ∷ fields) before p = true≢false (sym p)
yields_fields (bits size ∷ []) before p =
    yields_bind _ _ (many size one) _ (yields_many Byte size one yields_one) λ s g.
    yields_return (ReadInto (bits size ∷ []) before) (with_literal s before) (into_literal (bits size ∷ []) s before refl (g.0, refl) refl g.1)
yields_fields (bits size ∷ f ∷ fields) before p = true≢false (sym p)
yields_fields (byte ∷ fields) before p =
    yields_bind Byte _ one _ yields_one λ b h.
    yields_map (ReadInto fields (with_byte b before)) _ _ (λ e. into_byte fields b before e h) (yields_fields fields (with_byte b before) p)
yields_fields (to kind ∷ fields) before p =
    yields_bind (OfKind kind) _ (reference kind) _ (yields_reference kind) λ r h.
    yields_map
    (ReadInto fields (with_kids (before.kids ++ r ∷ []) before))
    _
    _
    (λ e. into_kid kind fields r before e h)
    (yields_fields fields (with_kids (before.kids ++ r ∷ []) before) p)
yields_fields (to_many ∷ []) before p =
    yields_bind Short _ two _ yields_two λ size h.
    yields_bind _ _ (many size (reference constant)) _ (yields_many (OfKind constant) size (reference constant) (yields_reference constant)) λ rs g.
    yields_return (ReadInto (to_many ∷ []) before) (with_kids (before.kids ++ rs) before) (into_many rs before (omega arith) g.1)
yields_fields (to_many ∷ f ∷ fields) before p = true≢false (sym p)

-- the shape that a tag has: the table's, or a bootstrap's
abbrev pub ShapeOf : ℕ → List Field → Type 0
ShapeOf tag fields = (lookup tag shapes ≡ some fields) ⊎ ((tag ≡ bootstrap_tag) × (fields ≡ bootstrap_shape))

-- an entry as the form pass leaves it: it fits its tag's shape, its references have the kinds that the shape wants, and all is bytes
pub record FormedEntry (e : Entry (List ℕ) Reference) : Type 0 where
  pub fields : List Field
  pub shape_of : ShapeOf e.tag fields
  pub shape : HasShape fields e
  pub of_kinds : OfKinds fields e.kids
  pub literal_bytes : Each Byte e.literal
  pub kind_byte : Byte e.byte

-- an entry read by a plain shape of its tag
yields_entry : (tag : ℕ) (fields : List Field) → ShapeOf tag fields → plain fields ≡ true → Yields FormedEntry (read_entry reference tag fields)
unfolding read_entry
yields_entry tag fields known p =
    yields_map (ReadInto fields start) FormedEntry (read_fields reference fields start) made (yields_fields fields start p)
  where
    start : Entry (List ℕ) Reference
    start = record { tag = tag; literal = []; byte = 0; kids = [] }

    made : (e : Entry (List ℕ) Reference) → ReadInto fields start e → FormedEntry e
    made e r =
        record {
          fields = fields;
          shape_of = rw r.same_tag known;
          shape = record { filled = rw r.kids_are r.filled; no_literal = r.kept_literal; no_byte_lem = r.kept_byte };
          of_kinds = rw r.kids_are r.of_kinds;
          literal_bytes = r.literal_bytes tt;
          kind_byte = r.kind_byte (omega arith);
        }

-- a number, and what a 46 adds
constant_formed : (n : Number × ℕ) → FormedEntry (as_constant n)
unfolding as_constant
constant_formed n =
    record {
      fields = bits (size_of n.0) ∷ [];
      shape_of = inl (number-shape n.0);
      shape = record { filled = (bits-long n.0 n.1, refl); no_literal = λ h. clash (cc); no_byte_lem = λ _. refl };
      of_kinds = refl;
      literal_bytes = bits_bytes_lem n.0 n.1;
      kind_byte = omega arith;
    }

worked-formed : (r : Result ℕ (Number × ℕ)) → FormedEntry (worked_out r)
unfolding worked_out
worked-formed (good n) = constant_formed n
worked-formed (bad code) = constant_formed (int, 0)

-- what may follow a first byte: fields are a plain shape of that tag
abbrev BodyOf : ℕ → Body → Type 0
BodyOf first (of_entry fields) = ShapeOf first fields × (plain fields ≡ true)
BodyOf first (of_name kind) = Unit {0}
BodyOf first (of_raw kind) = Unit {0}
BodyOf first of_expression = Unit {0}
BodyOf first (of_number rule) = Unit {0}
BodyOf first (of_nothing rule) = Unit {0}

-- every shape is plain
plain_shapes : every (λ (s : ℕ × List Field). plain s.1) shapes ≡ true
unfolding every shapes plain
plain_shapes = refl

-- a shape of the table, or what stands behind the table
lookup-behind :
    (k : ℕ) (l : List (ℕ × List Field)) (m : List (ℕ × Body)) (b : Body) →
    lookup k (map (λ s. (s.0, of_entry s.1)) l ++ m) ≡ some b →
    ((fields : List Field) × (lookup k l ≡ some fields) × (b ≡ of_entry fields)) ⊎ (lookup k m ≡ some b)
unfolding lookup
lookup-behind k [] m b e = inr e
lookup-behind k (r ∷ l) m b e = go (eqb k r.0) e (lookup-behind k l m b)
  where
    go :
        (t : Bool) →
        elim t [ true ↦ some (of_entry r.1) | false ↦ lookup k (map (λ s. (s.0, of_entry s.1)) l ++ m) ] ≡ some b →
        (lookup k (map (λ s. (s.0, of_entry s.1)) l ++ m) ≡ some b →
        ((fields : List Field) × (lookup k l ≡ some fields) × (b ≡ of_entry fields)) ⊎ (lookup k m ≡ some b)) →
        ((fields : List Field) × (elim t [ true ↦ some r.1 | false ↦ lookup k l ] ≡ some fields) × (b ≡ of_entry fields)) ⊎ (lookup k m ≡ some b)
    go true e rest = inl (r.1, refl, cc)
    go false e rest = rest e

-- the first bytes behind the table, 40 to 44 and 46 to 49
others : List (ℕ × Body)
others = (bootstrap_tag, of_entry bootstrap_shape) ∷ (0x41, of_name constant) ∷ (0x42, of_name bootstrap) ∷ (0x43, of_raw constant) ∷ (0x44, of_raw bootstrap) ∷ (0x46, of_expression) ∷ (0x47, of_number version) ∷ (0x48, of_nothing texts) ∷ (0x49, of_number highest) ∷ []

each_other : Each (λ r. BodyOf r.0 r.1) others
unfolding others bootstrap_shape plain
each_other = ((inr (refl, refl), refl), (tt, (tt, (tt, (tt, (tt, (tt, (tt, (tt, tt)))))))))

body_of : (first : ℕ) (b : Body) → lookup first bodies ≡ some b → BodyOf first b
unfolding bodies others
body_of first b e = go (lookup-behind first shapes others b e)
  where
    go : ((fields : List Field) × (lookup first shapes ≡ some fields) × (b ≡ of_entry fields)) ⊎ (lookup first others ≡ some b) → BodyOf first b
    go (inl r) =
        let p = lookup-every (λ (s : ℕ × List Field). plain s.1) shapes plain_shapes first r.0 r.1 in
        subst (BodyOf first) (sym r.2) (inl r.1, p)
    go (inr h) = lookup-each BodyOf first others b each_other h

-- a definition as the form pass leaves it
abbrev pub FormedDefinition : Definition (List ℕ) → Type 0
FormedDefinition (define e) = FormedEntry e
FormedDefinition (named kind s r) = ShortName s × OfKind kind r
FormedDefinition (placed kind at number) = Short at × Short number
FormedDefinition (setting rule) = Unit {0}

yields_body : (first : ℕ) (o : Option Body) → lookup first bodies ≡ o → Yields FormedDefinition (read_body first o)
unfolding read_body
yields_body first none e = yields_fail FormedDefinition
yields_body first (some (of_entry fields)) e =
    let b = body_of first (of_entry fields) e in
    yields_bind FormedEntry FormedDefinition (read_entry reference first fields) _ (yields_entry first fields b.0 b.1) λ x h.
    yields_return FormedDefinition (define x) h
yields_body first (some (of_name kind)) e =
    yields_bind ShortName FormedDefinition short_name _ yields_name λ s h.
    yields_bind (OfKind kind) FormedDefinition (reference kind) _ (yields_reference kind) λ r g.
    yields_return FormedDefinition (named kind s r) (h, g)
yields_body first (some (of_raw kind)) e =
    yields_bind Short FormedDefinition two _ yields_two λ at h.
    yields_bind Short FormedDefinition two _ yields_two λ number g.
    yields_return FormedDefinition (placed kind at number) (h, g)
yields_body first (some of_expression) e =
    yields_bind Anything FormedDefinition read_expression _ yields_read λ x _.
    yields_return FormedDefinition (define (worked_out (folded x))) (worked-formed (folded x))
yields_body first (some (of_number rule)) e =
    yields_bind Short FormedDefinition two _ yields_two λ n h. yields_return FormedDefinition (setting (rule n)) tt
yields_body first (some (of_nothing rule)) e = yields_return FormedDefinition (setting rule) tt

pub yields_definition : (first : ℕ) → Yields FormedDefinition (read_definition first)
unfolding read_definition
yields_definition first = yields_body first (lookup first bodies) refl
