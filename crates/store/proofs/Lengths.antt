-- Every record of a job takes bytes: two or more for each reference, and enough for the words that the regions have for it. Assumes nothing.
use mathlib.Core.Bool.{Bool, true, false, not}
use mathlib.Core.List.{List, [], ◌∷◌, ◌++◌}
use mathlib.Core.Option.{Option, none, some}
use mathlib.Core.Path.{◌≡◌, refl, sym, ap, subst, ◌∙◌}
use Prim.Native.Nat.{ℕ, zero, suc, ◌+◌, ◌-◌, ◌*◌, ◌≤◌}
use native.Mathlib.Omega.{arith}
use lib.Dec.{eqb, leb}
use lib.ListN.{length, get_or, drop, length-append, length-drop}
use borrow.Author.Tests.{leb-true, eqb-true}
use Rattle.definition.specs.Basics.{every, lookup, only}
use Rattle.definition.specs.Bytes.{Parser, return, one, two, many}
use Rattle.definition.specs.Expression.{Number, int, float, long, double, tag_of, Sign, Expression, four, eight, bits as readBits, Opening, of_leaf, of_sign, openings, joined, second_part, opened_part, expression, read_expression}
use Rattle.definition.specs.Settings.{Setting, version, texts, highest}
use Rattle.definition.specs.Shapes.{Kind, constant, bootstrap, Field, text, bits, byte, to, to_many, shapes, bootstrap_shape, bootstrap_tag, Entry, with_kids, with_literal, with_byte, read_fields, read_entry}
use Rattle.definition.specs.Job.{Reference, raw, entry, name, Definition, define, named, placed, setting, Body, of_entry, of_name, of_raw, of_expression, of_number, of_nothing, bodies, as_constant, short_name, reference_form, reference, read_body, read_definition}
use Rattle.definition.specs.Numbering.{entries, is_bootstrap, constants_of, bootstraps_of}
use Rattle.definition.specs.Definitions.{same_kind_lem}
use Rattle.laws.proofs.Form.EmptyLiterals.{fields_keep}
use Rattle.facts.proofs.Lists.{true≢false, none≢some, only_here, only-later, only-more}
use Rattle.facts.proofs.Results.{some_then}
use Rattle.facts.proofs.Tables.{lookup-every}
use Rattle.job.specs.declared.JobCounts.{JobCounts}
use Rattle.job.specs.Forms.{is_naming, is_placing, is_version, is_holding, kids_in, references_in, counts_of, Bounded}
use Rattle.job.specs.Stored.{Found, InTurn, any_definition, is_worked}
use Rattle.job.proofs.Counting.{entries-more}
use Rattle.job.proofs.Expressions.{expression-first}
use Rattle.job.proofs.Standing.{definition_read, worked-there}
use Rattle.job.proofs.Endings.{opens-entry}
use Rattle.store.specs.Regions.{entries_of}

-- ---- the parts of a record

-- what a parser reads takes at least so many bytes
abbrev Costs : {A : Type 0} → ℕ → Parser A → Type 0
Costs {A} least p = (l : List ℕ) (a : A) (rest : List ℕ) → p l ≡ some (a, rest) → least + length rest ≤ length l

same_rest : {A : Type 0} (x a : A) (l rest : List ℕ) → return x l ≡ some (a, rest) → (x ≡ a) × (length l ≡ length rest)
same_rest {A} x a l rest e =
    let same : ◌≡◌ {A = A × List ℕ} (x, l) (a, rest) = cc in
    (ap (λ r. r.0) same, ap (λ r. length r.1) same)

cost-one : Costs 1 one
unfolding one
cost-one [] a rest e = none≢some e
cost-one (x ∷ l) a rest e = omega (arith, (same_rest x a l rest e).1)

cost-two : Costs 2 two
unfolding two
cost-two l n rest e =
    some_then (one l) _ (n, rest) e λ a l₁ e₁ e₂.
    some_then (one l₁) _ (n, rest) e₂ λ b l₂ e₃ e₄.
    omega (arith, cost-one l a l₁ e₁, cost-one l₁ b l₂ e₃, (same_rest (256 * a + b) n l₂ rest e₄).1)

cost-bytes : (n : ℕ) → Costs n (many n one)
unfolding many
cost-bytes zero l bs rest e = omega (arith, (same_rest [] bs l rest e).1)
cost-bytes (suc n) l bs rest e =
    some_then (one l) _ (bs, rest) e λ a l₁ e₁ e₂.
    some_then (many n one l₁) _ (bs, rest) e₂ λ more l₂ e₃ e₄.
    omega (arith, cost-one l a l₁ e₁, cost-bytes n l₁ more l₂ e₃, (same_rest (a ∷ more) bs l₂ rest e₄).1)

cost-name : Costs 1 short_name
unfolding short_name
cost-name l s rest e =
    some_then (one l) _ (s, rest) e λ n l₁ e₁ e₂.
    omega (arith, cost-one l n l₁ e₁, cost-bytes n l₁ s rest e₂)

cost-form : (kind : Kind) (form : ℕ) → Costs 1 (reference_form kind form)
unfolding reference_form
cost-form kind zero l a rest e =
    some_then (two l) _ (a, rest) e λ n l₁ e₁ e₂. omega (arith, cost-two l n l₁ e₁, (same_rest (raw n) a l₁ rest e₂).1)
cost-form kind (suc zero) l a rest e =
    some_then (two l) _ (a, rest) e λ n l₁ e₁ e₂. omega (arith, cost-two l n l₁ e₁, (same_rest (entry kind n) a l₁ rest e₂).1)
cost-form kind (suc (suc zero)) l a rest e =
    some_then (short_name l) _ (a, rest) e λ s l₁ e₁ e₂. omega (arith, cost-name l s l₁ e₁, (same_rest (name kind s) a l₁ rest e₂).1)
cost-form kind (suc (suc (suc n))) l a rest e = none≢some e

cost-reference : (kind : Kind) → Costs 2 (reference kind)
unfolding reference
cost-reference kind l a rest e =
    some_then (one l) _ (a, rest) e λ form l₁ e₁ e₂.
    omega (arith, cost-one l form l₁ e₁, cost-form kind form l₁ a rest e₂)

cost-references : (n : ℕ) (l : List ℕ) (kids : List Reference) (rest : List ℕ) → many n (reference constant) l ≡ some (kids, rest) → 2 * length kids + length rest ≤ length l
unfolding many
cost-references zero l kids rest e =
    let g = same_rest [] kids l rest e in
    omega (arith, ap length g.0, g.1)
cost-references (suc n) l kids rest e =
    some_then (reference constant l) _ (kids, rest) e λ a l₁ e₁ e₂.
    some_then (many n (reference constant) l₁) _ (kids, rest) e₂ λ more l₂ e₃ e₄.
    let g = same_rest (a ∷ more) kids l₂ rest e₄ in
    omega (arith, cost-reference constant l a l₁ e₁, cost-references n l₁ more l₂ e₃, ap length g.0, g.1)

-- ---- an expression: a leaf has a tag and four bytes or eight

cost-four : Costs 4 four
unfolding four
cost-four l n rest e =
    some_then (two l) _ (n, rest) e λ a l₁ e₁ e₂.
    some_then (two l₁) _ (n, rest) e₂ λ b l₂ e₃ e₄.
    omega (arith, cost-two l a l₁ e₁, cost-two l₁ b l₂ e₃, (same_rest (65536 * a + b) n l₂ rest e₄).1)

cost-eight : Costs 4 eight
unfolding eight
cost-eight l n rest e =
    some_then (four l) _ (n, rest) e λ a l₁ e₁ e₂.
    some_then (four l₁) _ (n, rest) e₂ λ b l₂ e₃ e₄.
    omega (arith, cost-four l a l₁ e₁, cost-four l₁ b l₂ e₃, (same_rest (4294967296 * a + b) n l₂ rest e₄).1)

cost-bits : (kind : Number) → Costs 4 (readBits kind)
unfolding readBits
cost-bits int = cost-four
cost-bits float = cost-four
cost-bits long = cost-eight
cost-bits double = cost-eight

-- what a parser reads, if it is an expression, takes at least so many bytes
abbrev CostsSome : ℕ → Parser (Option Expression) → Type 0
CostsSome least p = (l : List ℕ) (e : Expression) (rest : List ℕ) → p l ≡ some (some e, rest) → least + length rest ≤ length l

cost-second : (part : Parser (Option Expression)) → CostsSome 5 part → (s : Sign) (a : Expression) → CostsSome 0 (second_part part s (some a))
unfolding second_part joined
cost-second part costs s a l e rest h = some_then (part l) _ (some e, rest) h λ b l₁ h₁ h₂. ways b l₁ h₁ h₂
  where
    ways : (b : Option Expression) (l₁ : List ℕ) → part l ≡ some (b, l₁) → return (joined s a b) l₁ ≡ some (some e, rest) → 0 + length rest ≤ length l
    ways none l₁ h₁ h₂ = none≢some (same_rest none (some e) l₁ rest h₂).0
    ways (some b) l₁ h₁ h₂ = omega (arith, costs l b l₁ h₁, (same_rest (joined s a (some b)) (some e) l₁ rest h₂).1)

cost-opened : (part : Parser (Option Expression)) → CostsSome 5 part → (o : Option Opening) → CostsSome 4 (opened_part part o)
unfolding opened_part second_part
cost-opened part costs none l e rest h = none≢some (same_rest none (some e) l rest h).0
cost-opened part costs (some (of_leaf kind)) l e rest h =
    some_then (readBits kind l) _ (some e, rest) h λ b l₁ h₁ h₂. omega (arith, cost-bits kind l b l₁ h₁, (same_rest _ (some e) l₁ rest h₂).1)
cost-opened part costs (some (of_sign s)) l e rest h = some_then (part l) _ (some e, rest) h λ a l₁ h₁ h₂. ways a l₁ h₁ h₂
  where
    ways : (a : Option Expression) (l₁ : List ℕ) → part l ≡ some (a, l₁) → second_part part s a l₁ ≡ some (some e, rest) → 4 + length rest ≤ length l
    ways none l₁ h₁ h₂ = none≢some (same_rest none (some e) l₁ rest h₂).0
    ways (some a) l₁ h₁ h₂ = omega (arith, costs l a l₁ h₁, cost-second part costs s a l₁ e rest h₂)

cost-fuel : (fuel : ℕ) → CostsSome 5 (expression fuel)
unfolding expression
cost-fuel zero l e rest h = none≢some h
cost-fuel (suc fuel) l e rest h =
    some_then (one l) _ (some e, rest) h λ first l₁ h₁ h₂.
    omega (arith, cost-one l first l₁ h₁, cost-opened (expression fuel) (cost-fuel fuel) (lookup first openings) l₁ e rest h₂)

pub cost-expression : CostsSome 5 read_expression
unfolding read_expression
cost-expression l e rest h = cost-fuel (length l) l e rest h

-- ---- an entry

-- the bytes of fields beside their references, at the least, and the references that are always there
unfoldable fixed : List Field → ℕ
fixed [] = 0
fixed (text ∷ fields) = 2 + fixed fields
fixed (bits size ∷ fields) = size + fixed fields
fixed (byte ∷ fields) = 1 + fixed fields
fixed (to kind ∷ fields) = fixed fields
fixed (to_many ∷ fields) = 2 + fixed fields

unfoldable always : List Field → ℕ
always [] = 0
always (text ∷ fields) = always fields
always (bits size ∷ fields) = always fields
always (byte ∷ fields) = always fields
always (to kind ∷ fields) = 1 + always fields
always (to_many ∷ fields) = always fields

record Filled (fields : List Field) (before e : Entry (List ℕ) Reference) (l rest : List ℕ) : Type 0 where
  long : fixed fields + 2 * length e.kids + length rest ≤ length l + 2 * length before.kids
  kids : length before.kids + always fields ≤ length e.kids

cost-fields :
    (fields : List Field) (before e : Entry (List ℕ) Reference) (l rest : List ℕ) → read_fields reference fields before l ≡ some (e, rest) →
    Filled fields before e l rest
unfolding read_fields with_literal with_byte with_kids fixed always
cost-fields [] before e l rest h =
    let g = same_rest before e l rest h in
    let k = ap (λ x. length x.kids) g.0 in
    record { long = omega (arith, k, g.1); kids = omega (arith, k) }
cost-fields (text ∷ fields) before e l rest h =
    some_then (two l) _ (e, rest) h λ n l₁ h₁ h₂.
    some_then (many n one l₁) _ (e, rest) h₂ λ s l₂ h₃ h₄.
    let g = cost-fields fields (with_literal s before) e l₂ rest h₄ in
    record { long = omega (arith, cost-two l n l₁ h₁, cost-bytes n l₁ s l₂ h₃, g.long); kids = g.kids }
cost-fields (bits n ∷ fields) before e l rest h =
    some_then (many n one l) _ (e, rest) h λ s l₁ h₁ h₂.
    let g = cost-fields fields (with_literal s before) e l₁ rest h₂ in
    record { long = omega (arith, cost-bytes n l s l₁ h₁, g.long); kids = g.kids }
cost-fields (byte ∷ fields) before e l rest h =
    some_then (one l) _ (e, rest) h λ b l₁ h₁ h₂.
    let g = cost-fields fields (with_byte b before) e l₁ rest h₂ in
    record { long = omega (arith, cost-one l b l₁ h₁, g.long); kids = g.kids }
cost-fields (to kind ∷ fields) before e l rest h =
    some_then (reference kind l) _ (e, rest) h λ a l₁ h₁ h₂.
    let g = cost-fields fields (with_kids (before.kids ++ a ∷ []) before) e l₁ rest h₂ in
    let k = length-append before.kids (a ∷ []) in
    record { long = omega (arith, cost-reference kind l a l₁ h₁, g.long, k); kids = omega (arith, g.kids, k) }
cost-fields (to_many ∷ fields) before e l rest h =
    some_then (two l) _ (e, rest) h λ n l₁ h₁ h₂.
    some_then (many n (reference constant) l₁) _ (e, rest) h₂ λ rs l₂ h₃ h₄.
    let g = cost-fields fields (with_kids (before.kids ++ rs) before) e l₂ rest h₄ in
    let k = length-append before.kids rs in
    record { long = omega (arith, cost-two l n l₁ h₁, cost-references n l₁ rs l₂ h₃, g.long, k); kids = omega (arith, g.kids, k) }

-- of every shape these are enough, and of a bootstrap's more
unfoldable wanted : Bool → ℕ
wanted true = 37
wanted false = 25

unfoldable enough : ℕ → Body → Bool
enough tag (of_entry fields) = leb (wanted (eqb tag bootstrap_tag)) (17 * fixed fields + 25 * always fields)
enough tag (of_name kind) = true
enough tag (of_raw kind) = true
enough tag of_expression = true
enough tag (of_number rule) = true
enough tag (of_nothing rule) = true

all_enough : every (λ r. enough r.0 r.1) bodies ≡ true
unfolding every bodies shapes bootstrap_shape enough wanted fixed always
all_enough = refl

-- ---- a definition

-- the words that the regions have for what is counted, beside those for requests, those for the bytes and the 31 that they always have
unfoldable pub words_for : JobCounts → ℕ
words_for c =
    14 * entries_of c
    + 4 * c.bootstraps
    + 3 * c.references
    + 4 * c.names
    + 11 * c.raw_constants
    + 5 * c.raw_bootstraps

-- so many bytes are enough for what is counted: a byte for each, and 17 words for three bytes, which leaves one for VALUES
pub record Enough (bytes : ℕ) (c : JobCounts) : Type 0 where
  pub bounded : Bounded bytes c
  pub words : 3 * words_for c ≤ 17 * bytes

-- what is added up in counts
record Adds (a b c : JobCounts) : Type 0 where
  definitions : c.definitions ≡ a.definitions + b.definitions
  constants : c.constants ≡ a.constants + b.constants
  bootstraps : c.bootstraps ≡ a.bootstraps + b.bootstraps
  references : c.references ≡ a.references + b.references
  names : c.names ≡ a.names + b.names
  raw_constants : c.raw_constants ≡ a.raw_constants + b.raw_constants
  raw_bootstraps : c.raw_bootstraps ≡ a.raw_bootstraps + b.raw_bootstraps
  requests : c.requests ≡ a.requests + b.requests
  versions : c.versions ≡ a.versions + b.versions
  texts : c.texts ≡ a.texts + b.texts

counts_add : (d : Definition (List ℕ)) (l : List (Definition (List ℕ))) → Adds (counts_of (d ∷ []) 0) (counts_of l 0) (counts_of (d ∷ l) 0)
unfolding counts_of constants_of bootstraps_of references_in
counts_add d l =
    record {
      definitions = omega arith;
      constants = entries-more (λ e. not (is_bootstrap e)) d l;
      bootstraps = entries-more is_bootstrap d l;
      references = omega arith;
      names = only-more is_naming d l;
      raw_constants = only-more (is_placing constant) d l;
      raw_bootstraps = only-more (is_placing bootstrap) d l;
      requests = refl;
      versions = only-more is_version d l;
      texts = only-more is_holding d l;
    }

enough-plus : (m n : ℕ) (a b c : JobCounts) → Adds a b c → Enough m a → Enough n b → Enough (m + n) c
unfolding words_for
enough-plus m n a b c s f g =
    let x = f.bounded in
    let y = g.bounded in
    record {
      bounded =
          record {
            records = omega (arith, s.definitions, s.requests, x.records, y.records);
            constants = omega (arith, s.constants, x.constants, y.constants);
            bootstraps = omega (arith, s.bootstraps, x.bootstraps, y.bootstraps);
            references = omega (arith, s.references, x.references, y.references);
            names = omega (arith, s.names, x.names, y.names);
            constants_placed = omega (arith, s.raw_constants, x.constants_placed, y.constants_placed);
            bootstraps_placed = omega (arith, s.raw_bootstraps, x.bootstraps_placed, y.bootstraps_placed);
            versions = omega (arith, s.versions, x.versions, y.versions);
            texts = omega (arith, s.texts, x.texts, y.texts);
          };
      words = omega (arith, s, f.words, g.words);
    }

-- a constant or a bootstrap with its references, a name, a raw definition, a setting
module _ (e : Entry (List ℕ) Reference) (n : ℕ) (long : 1 + length e.kids ≤ n) where
  enough-constant : is_bootstrap e ≡ false → 3 * (14 + 3 * length e.kids) ≤ 17 * n → Enough n (counts_of (define e ∷ []) 0)
  unfolding counts_of constants_of bootstraps_of entries references_in kids_in only is_naming is_placing is_version is_holding words_for
  enough-constant h g =
      let here = ap length (only_here (λ e. not (is_bootstrap e)) e [] (ap not h)) in
      let none = ap length (only-later is_bootstrap e [] h) in
      record { bounded = omega (arith, here, none); words = omega (arith, here, none) }

  enough-bootstrap : is_bootstrap e ≡ true → 3 * (18 + 3 * length e.kids) ≤ 17 * n → Enough n (counts_of (define e ∷ []) 0)
  unfolding counts_of constants_of bootstraps_of entries references_in kids_in only is_naming is_placing is_version is_holding words_for
  enough-bootstrap h g =
      let none = ap length (only-later (λ e. not (is_bootstrap e)) e [] (ap not h)) in
      let here = ap length (only_here is_bootstrap e [] h) in
      record { bounded = omega (arith, here, none); words = omega (arith, here, none) }

enough-named : (kind : Kind) (s : List ℕ) (r : Reference) (n : ℕ) → 1 ≤ n → Enough n (counts_of (named kind s r ∷ []) 0)
unfolding counts_of constants_of bootstraps_of entries references_in kids_in only is_naming is_placing is_version is_holding words_for
enough-named kind s r n h = record { bounded = omega arith; words = omega arith }

enough-placed : (kind : Kind) (at number n : ℕ) → 2 ≤ n → Enough n (counts_of (placed kind at number ∷ []) 0)
unfolding counts_of constants_of bootstraps_of entries references_in kids_in only is_naming is_placing is_version is_holding same_kind_lem words_for
enough-placed constant at number n h = record { bounded = omega arith; words = omega arith }
enough-placed bootstrap at number n h = record { bounded = omega arith; words = omega arith }

enough-set : (rule : Setting) (n : ℕ) → 1 ≤ n → Enough n (counts_of (setting rule ∷ []) 0)
unfolding counts_of constants_of bootstraps_of entries references_in kids_in only is_naming is_placing is_version is_holding words_for
enough-set (version v) n h = record { bounded = omega arith; words = omega arith }
enough-set texts n h = record { bounded = omega arith; words = omega arith }
enough-set (highest top) n h = record { bounded = omega arith; words = omega arith }

shape_enough :
    (tag : ℕ) (fields : List Field) (b : Bool) → lookup tag bodies ≡ some (of_entry fields) → eqb tag bootstrap_tag ≡ b →
    wanted b ≤ 17 * fixed fields + 25 * always fields
unfolding enough
shape_enough tag fields b told same =
    rw same at
    (leb-true (wanted (eqb tag bootstrap_tag)) (17 * fixed fields + 25 * always fields)
    (lookup-every (λ r. enough r.0 r.1) bodies all_enough tag (of_entry fields) told))

-- a definition behind its first byte
module _ (n first : ℕ) (l rest : List ℕ) (size : n + length rest ≡ suc (length l)) (plain : eqb first 0x46 ≡ false) where
  enough-entry :
      (fields : List Field) (e : Entry (List ℕ) Reference) →
      lookup first bodies ≡ some (of_entry fields) →
      Filled fields (record { tag = first; literal = []; byte = 0; kids = [] }) e l rest →
      (b : Bool) →
      eqb first bootstrap_tag ≡ b →
      e.tag ≡ first →
      Enough n (counts_of (define e ∷ []) 0)
  unfolding wanted is_bootstrap
  enough-entry fields e told f true same t =
      let w = shape_enough first fields true told same in
      enough-bootstrap e n (omega (arith, f.long)) (ap (λ k. eqb k bootstrap_tag) t ∙ same) (omega (arith, f.long, f.kids, w))
  enough-entry fields e told f false same t =
      let w = shape_enough first fields false told same in
      enough-constant e n (omega (arith, f.long)) (ap (λ k. eqb k bootstrap_tag) t ∙ same) (omega (arith, f.long, f.kids, w))

  enough-body : (body : Body) (d : Definition (List ℕ)) → lookup first bodies ≡ some body → read_body first (some body) l ≡ some (d, rest) → Enough n (counts_of (d ∷ []) 0)
  unfolding read_body read_entry
  enough-body (of_entry fields) d told h =
      some_then (read_entry reference first fields l) _ (d, rest) h λ e l₁ h₁ h₂.
      let g = same_rest (define e) d l₁ rest h₂ in
      let f = cost-fields fields (record { tag = first; literal = []; byte = 0; kids = [] }) e l l₁ h₁ in
      let t = (fields_keep reference fields (record { tag = first; literal = []; byte = 0; kids = [] }) l (e, l₁) h₁).0 in
      subst (λ x. Enough n (counts_of (x ∷ []) 0)) g.0
      (enough-entry fields e told (record { long = omega (arith, f.long, g.1); kids = f.kids }) (eqb first bootstrap_tag) refl t)
  enough-body (of_name kind) d told h =
      some_then (short_name l) _ (d, rest) h λ s l₁ h₁ h₂.
      some_then (reference kind l₁) _ (d, rest) h₂ λ r l₂ h₃ h₄.
      let g = same_rest (named kind s r) d l₂ rest h₄ in
      subst (λ x. Enough n (counts_of (x ∷ []) 0)) g.0
      (enough-named kind s r n (omega (arith, cost-name l s l₁ h₁, cost-reference kind l₁ r l₂ h₃, g.1)))
  enough-body (of_raw kind) d told h =
      some_then (two l) _ (d, rest) h λ at l₁ h₁ h₂.
      some_then (two l₁) _ (d, rest) h₂ λ number l₂ h₃ h₄.
      let g = same_rest (placed kind at number) d l₂ rest h₄ in
      subst (λ x. Enough n (counts_of (x ∷ []) 0)) g.0
      (enough-placed kind at number n (omega (arith, cost-two l at l₁ h₁, cost-two l₁ number l₂ h₃, g.1)))
  enough-body of_expression d told h = true≢false (sym (expression-first first told) ∙ plain)
  enough-body (of_number rule) d told h =
      some_then (two l) _ (d, rest) h λ number l₁ h₁ h₂.
      let g = same_rest (setting (rule number)) d l₁ rest h₂ in
      subst (λ x. Enough n (counts_of (x ∷ []) 0)) g.0
      (enough-set (rule number) n (omega (arith, cost-two l number l₁ h₁, g.1)))
  enough-body (of_nothing rule) d told h =
      let g = same_rest (setting rule) d l rest h in
      subst (λ x. Enough n (counts_of (x ∷ []) 0)) g.0 (enough-set rule n (omega (arith, g.1)))

  enough-read : (d : Definition (List ℕ)) (body : Option Body) → lookup first bodies ≡ body → read_body first body l ≡ some (d, rest) → Enough n (counts_of (d ∷ []) 0)
  unfolding read_body
  enough-read d none told h = none≢some h
  enough-read d (some body) told h = enough-body body d told h

-- a constant worked out takes six bytes or more, and is no bootstrap
number-constant : (kind : Number) → eqb (tag_of kind) bootstrap_tag ≡ false
unfolding tag_of
number-constant int = refl
number-constant float = refl
number-constant long = refl
number-constant double = refl

pub worked-cost :
    (s : List ℕ) (at : ℕ) (x : Entry (List ℕ) Reference) (next : ℕ) → Found any_definition s at (define x) next → is_worked s at ≡ true → at + 6 ≤ next
worked-cost s at x next f worked =
    let w = worked-there s at x next f worked in
    let c = cost-expression (drop (at + 1) s) w.what (drop next s) w.read in
    omega (arith, c, length-drop (at + 1) s, length-drop next s, f.within)

enough-expression :
    (s : List ℕ) (at : ℕ) (d : Definition (List ℕ)) (next : ℕ) → Found any_definition s at d next → is_worked s at ≡ true →
    Enough (next - at) (counts_of (d ∷ []) 0)
unfolding is_bootstrap as_constant
enough-expression s at d next f worked =
    let first = eqb-true (get_or s at 0) 0x46 worked in
    let no : (k : ℕ) → (k ≡ 0x46 → ⊥) → get_or s at 0 ≡ k → ⊥ = λ k n e. n (sym e ∙ first) in
    let o =
    opens-entry s at d next f (no 0x41 (λ e. omega arith)) (no 0x42 (λ e. omega arith)) (no 0x43 (λ e. omega arith)) (no 0x44 (λ e. omega arith))
    (no 0x47 (λ e. omega arith)) (no 0x48 (λ e. omega arith)) (no 0x49 (λ e. omega arith)) in
    let x = o.0 in
    let g : Found any_definition s at (define x) next = subst (λ y. Found any_definition s at y next) o.1 f in
    let w = worked-there s at x next g worked in
    let kids : length x.kids ≡ 0 = ap (λ (y : Entry (List ℕ) Reference). length y.kids) w.is in
    let long = worked-cost s at x next g worked in
    subst (λ y. Enough (next - at) (counts_of (y ∷ []) 0)) (sym o.1)
    (enough-constant x (next - at) (omega arith) (ap (λ (y : Entry (List ℕ) Reference). eqb y.tag bootstrap_tag) w.is ∙ number-constant w.number.0) (omega arith))

-- a definition at its place
pub enough-found :
    (s : List ℕ) (at : ℕ) (d : Definition (List ℕ)) (next : ℕ) → Found any_definition s at d next → Enough (next - at) (counts_of (d ∷ []) 0)
unfolding read_definition
enough-found s at d next f = ways (is_worked s at) refl
  where
    ways : (b : Bool) → is_worked s at ≡ b → Enough (next - at) (counts_of (d ∷ []) 0)
    ways true worked = enough-expression s at d next f worked
    ways false plain =
        let b = definition_read s at d next f in
        let size : next - at + length (drop next s) ≡ suc (length (drop (at + 1) s)) = simp length-drop (omega (arith, f.past, f.within)) in
        enough-read (next - at) (get_or s at 0) (drop (at + 1) s) (drop next s) size plain d (lookup (get_or s at 0) bodies) refl b.2

-- all definitions, from a place to another
enough-none : Enough 0 (counts_of [] 0)
unfolding counts_of constants_of bootstraps_of entries references_in only words_for
enough-none = record { bounded = omega arith; words = omega arith }

pub enough-turn :
    (s : List ℕ) (at : ℕ) (list : List (Definition (List ℕ))) (end : ℕ) → InTurn any_definition s at list end →
    (at ≤ end) × Enough (end - at) (counts_of list 0)
enough-turn s at [] end h =
    let z : end - at ≡ 0 = omega (arith, h) in
    (omega (arith, h), rw z enough-none)
enough-turn s at (d ∷ list) end (next, f, h) =
    let g = enough-turn s next list end h in
    let size : next - at + (end - next) ≡ end - at = omega (arith, f.past, g.0) in
    (omega (arith, f.past, g.0), rw (← size) (enough-plus (next - at) (end - next) (counts_of (d ∷ []) 0) (counts_of list 0) (counts_of (d ∷ list) 0) (counts_add d list) (enough-found s at d next f) g.1))

-- records of any kind: each takes a byte or more
pub turn_length : {A : Type 0} (p : Parser A) (s : List ℕ) (at : ℕ) (list : List A) (end : ℕ) → InTurn p s at list end → at + length list ≤ end
turn_length p s at [] end h = omega (arith, h)
turn_length p s at (x ∷ list) end (next, f, h) = omega (arith, f.past, turn_length p s next list end h)
