-- What stands at a place of a job, part by part: names, references, entries. Assumes nothing.
use Rattle.std.specs.Prelude as std
use Rattle.std.specs.Prelude.{Some, None}
use mathlib.Core.Bool.{Bool, true, false}
use mathlib.Core.List.{List, [], ◌∷◌}
use mathlib.Core.Option.{Option, none, some}
use mathlib.Core.Path.{◌≡◌, refl, sym, ap, subst, ◌∙◌}
use Prim.Native.Nat.{ℕ, zero, suc, ◌+◌, ◌-◌, ◌≤◌, ◌<◌}
use native.Mathlib.Omega.{arith}
use lib.Dec.{eqb}
use lib.ListN.{length, get_or, take, drop, length-drop}
use borrow.Author.Tests.{eq-eqb, eqb-true}
use Rattle.facts.proofs.Lists.{clash, true≢false, none≢some, some_inj}
use Rattle.facts.proofs.Results.{some_then}
use Rattle.definition.specs.Basics.{good, lookup}
use Rattle.definition.specs.Bytes.{return, and_then, ◌>>=◌, one, two, many}
use Rattle.definition.specs.Value.{folded}
use Rattle.definition.specs.Form.{kind_of, comes_out}
use Rattle.definition.specs.Settings.{Setting, version, texts, highest}
use Rattle.definition.specs.Shapes.{Kind, constant, bootstrap, Field, text, bits, byte, to, bootstrap_shape, Entry, with_kids, with_literal, with_byte, read_fields, read_entry}
use Rattle.definition.specs.Job.{Reference, raw, entry, name, Definition, define, named, placed, setting, Request, ClassSlot, slot, request, Build, Body, of_entry, of_name, of_raw, of_expression, of_number, of_nothing, bodies, as_constant, worked_out, short_name, reference_form, reference, read_body, read_definition, asks, read_request, class_form, name_form, read_build}
use Rattle.job.specs.declared.Stretch.{Stretch}
use Rattle.raw_const.specs.Entries.{fields_of}
use Rattle.raw_const.specs.declared.Shape.{Shape}
use Rattle.raw_const.specs.declared.Shape.TheVariants.{Text, Bits, One, Two, Dynamic, KindOne}
use Rattle.job.specs.declared.Opening.{Opening}
use Rattle.job.specs.declared.Opening.TheVariants.{Constant, Bootstrap, NamedConstant, NamedBootstrap, RawConstant, RawBootstrap, Version, Texts, Highest, Expression}
use Rattle.job.specs.Forms.{entry_body, body_of}
use Rattle.job.specs.Stored.{Found, InTurn, Spans, formed_definition, any_definition, is_worked, any_request}
use Rattle.job.proofs.Laws.{number}
use Rattle.job.proofs.Expressions.{expression-first, opens-expression, formed_was, WorkedIs, worked-is, number-table, number-no_text}
use Rattle.job.proofs.Stepping.{entry_read, name_read, raw_read, setting_read, bare_read, worked-read}
use Rattle.job.proofs.Taking.{takes_name, takes_reference, finds_then, byte_then, two_then, bytes-then, ends}

-- from a place on, so many bytes
abbrev pub stretch : ℕ → ℕ → Stretch
stretch start n = record { start = start; end = start + n }

pub spans : (s : List ℕ) (start n : ℕ) (l : List ℕ) → start + n ≤ length s → take n (drop start s) ≡ l → Spans s (stretch start n) l
spans s start n l h e =
    let size : start + n - start ≡ n = omega arith in
    record { are = rw size e; rising = omega arith; within = h }

module _ (s : List ℕ) (at : ℕ) where
  -- ---- a name

  pub name_there :
      (l : List ℕ) (next : ℕ) → Found short_name s at l next → (at < length s) × Spans s (stretch (at + 1) (get_or s at 0)) l × (at + 1 + get_or s at 0 ≡ next)
  unfolding short_name
  name_there l next f =
      let b = byte_then s at (λ size. many size one) l (drop next s) f.read in
      let r = bytes-then s (at + 1) (get_or s at 0) return l (drop next s) (omega arith) (ap (λ o. and_then o return) b.1) in
      let z = ends s (at + 1 + get_or s at 0) next (take (get_or s at 0) (drop (at + 1) s)) l r.0 f.within r.1 in
      (b.0, spans s (at + 1) (get_or s at 0) l r.0 z.0, z.1)

  -- ---- a reference

  module _ (kind : Kind) where
    -- what it says, by its form byte
    abbrev pub Says : ℕ → Reference → ℕ → Type 0
    Says zero a next = (at + 3 ≡ next) × (a ≡ raw (number s (at + 1)))
    Says (suc zero) a next = (at + 3 ≡ next) × (a ≡ entry kind (number s (at + 1)))
    Says (suc (suc zero)) a next = (l : List ℕ) × Found short_name s (at + 1) l next × (a ≡ name kind l)
    Says (suc (suc (suc n))) a next = ⊥

    numbered :
        (of : ℕ → Reference) (a : Reference) (next : ℕ) →
        at + 1 ≤ length s →
        next ≤ length s →
        (two >>= λ n. return (of n)) (drop (at + 1) s) ≡ some (a, drop next s) →
        (at + 3 ≡ next) × (a ≡ of (number s (at + 1)))
    numbered of a next low high e =
        let r = two_then s (at + 1) (λ n. return (of n)) a (drop next s) low e in
        let z = ends s (at + 1 + 2) next (of (number s (at + 1))) a r.0 high r.1 in
        (omega (arith, z.1), sym z.0)

    says :
        (form : ℕ) (a : Reference) (next : ℕ) →
        at + 1 ≤ length s →
        next ≤ length s →
        reference_form kind form (drop (at + 1) s) ≡ some (a, drop next s) →
        Says form a next
    unfolding reference_form
    says zero a next low high e = numbered raw a next low high e
    says (suc zero) a next low high e = numbered (entry kind) a next low high e
    says (suc (suc zero)) a next low high e =
        finds_then s (at + 1) short_name takes_name (λ l. return (name kind l)) low a (drop next s) e λ l behind f e₁.
        let z = ends s behind next (name kind l) a f.within high e₁ in
        (l, rw z.1 at f, sym z.0)
    says (suc (suc (suc n))) a next low high e = none≢some e

    pub reference-says : (a : Reference) (next : ℕ) → Found (reference kind) s at a next → (at < length s) × Says (get_or s at 0) a next
    unfolding reference
    reference-says a next f =
        let b = byte_then s at (reference_form kind) a (drop next s) f.read in
        (b.0, says (get_or s at 0) a next (omega arith) f.within b.1)

-- ---- references in turn

pub several :
    (s : List ℕ) (at n : ℕ) (kids : List Reference) (rest : List ℕ) → at ≤ length s → many n (reference constant) (drop at s) ≡ some (kids, rest) →
    (end : ℕ) × (rest ≡ drop end s) × (end ≤ length s) × (length kids ≡ n) × InTurn (reference constant) s at kids end
unfolding many
several s at zero kids rest low e =
    let same : ◌≡◌ {A = List Reference × List ℕ} ([], drop at s) (kids, rest) = cc in
    let none_left : [] ≡ kids = ap (λ r. r.0) same in
    (at, sym (ap (λ r. r.1) same), low, ap length (sym none_left), subst (λ l. InTurn (reference constant) s at l at) none_left refl)
several s at (suc n) kids rest low e =
    finds_then s at (reference constant) (takes_reference constant) _ low kids rest e λ a next f e₁.
    some_then (many n (reference constant) (drop next s)) _ (kids, rest) e₁ λ more left e₂ e₃.
    let g = several s next n more left f.within e₂ in
    let same : ◌≡◌ {A = List Reference × List ℕ} (a ∷ more, left) (kids, rest) = cc in
    let all : a ∷ more ≡ kids = ap (λ r. r.0) same in (
      g.0,
      sym (ap (λ r. r.1) same) ∙ g.1,
      g.2,
      sym (ap length all) ∙ ap suc g.3,
      subst (λ l. InTurn (reference constant) s at l g.0) all (next, f, g.4),
    )

-- an entry's references: the first stands at a place, and the others in turn, some bytes behind it
pub record Refers (s : List ℕ) (kind : Kind) (first between : ℕ) (kids : List Reference) (end : ℕ) : Type 0 where
  pub kid : Reference
  pub others : List Reference
  pub are : kids ≡ kid ∷ others
  pub behind : ℕ
  pub found : Found (reference kind) s first kid behind
  pub rest : InTurn (reference constant) s (behind + between) others end

module _ (s : List ℕ) where
  one-refers : (kind : Kind) (first : ℕ) (a : Reference) (end : ℕ) → Found (reference kind) s first a end → Refers s kind first 0 (a ∷ []) end
  one-refers kind first a end f =
      record { kid = a; others = []; are = refl; behind = end; found = f; rest = omega arith }

  two-refer :
      (kind : Kind) (first : ℕ) (a b : Reference) (next end : ℕ) → Found (reference kind) s first a next → Found (reference constant) s next b end →
      Refers s kind first 0 (a ∷ b ∷ []) end
  two-refer kind first a b next end f g =
      let e : next ≡ next + 0 = omega arith in
      record { kid = a; others = b ∷ []; are = refl; behind = next; found = f; rest = (end, subst (λ k. Found (reference constant) s k b end) e g, refl) }

-- ---- the fields of an entry, from a place behind its tag

module _ (s : List ℕ) (p : ℕ) where
  -- a literal from a place to the end, and nothing else
  pub record LiteralIs (start n : ℕ) (e : Entry (List ℕ) Reference) (next : ℕ) : Type 0 where
    pub literal : take n (drop start s) ≡ e.literal
    pub no_byte_lem : e.byte ≡ 0
    pub no_kids_lem : e.kids ≡ []
    pub end : start + n ≡ next
    pub room : start ≤ length s

  -- so many references from a place on, with nothing between them, and no literal
  pub record KidsAre (kind : Kind) (first n b : ℕ) (e : Entry (List ℕ) Reference) (next : ℕ) : Type 0 where
    pub no_literal : e.literal ≡ []
    pub kind_byte : e.byte ≡ b
    pub count : length e.kids ≡ n
    pub refers : Refers s kind first 0 e.kids next

  -- a constant's
  abbrev pub FieldsAre : std.Option Shape → Entry (List ℕ) Reference → ℕ → Type 0
  FieldsAre (Some Text) e next = LiteralIs (p + 2) (number s p) e next
  FieldsAre (Some (Bits n)) e next = LiteralIs p n e next
  FieldsAre (Some One) e next = KidsAre constant p 1 0 e next
  FieldsAre (Some Two) e next = KidsAre constant p 2 0 e next
  FieldsAre (Some KindOne) e next = (p < length s) × KidsAre constant (p + 1) 1 (get_or s p 0) e next
  FieldsAre (Some Dynamic) e next = KidsAre bootstrap p 2 0 e next
  FieldsAre None e next = ⊥

  -- a bootstrap's: the count stands behind the first reference
  pub record BootstrapIs (e : Entry (List ℕ) Reference) (next : ℕ) : Type 0 where
    pub no_literal : e.literal ≡ []
    pub no_byte_lem : e.byte ≡ 0
    pub refers : Refers s constant p 2 e.kids next
    pub room : refers.behind + 2 ≤ length s
    pub count : length e.kids ≡ suc (number s refers.behind)

  module _ (tag : ℕ) (e : Entry (List ℕ) Reference) (next : ℕ) (low : p ≤ length s) (high : next ≤ length s) where
    abbrev ReadAs : List Field → Type 0
    ReadAs fields = read_entry reference tag fields (drop p s) ≡ some (e, drop next s)

    abbrev of : List ℕ → ℕ → List Reference → Entry (List ℕ) Reference
    of literal b kids = record { tag = tag; literal = literal; byte = b; kids = kids }

    text_is : ReadAs (text ∷ []) → FieldsAre (Some Text) e next
    unfolding read_entry read_fields with_literal
    text_is h =
        let t = two_then s p (λ size. many size one >>= λ l. return (of l 0 [])) e (drop next s) low h in
        let r = bytes-then s (p + 2) (number s p) (λ l. return (of l 0 [])) e (drop next s) t.0 t.1 in
        let z = ends s (p + 2 + number s p) next (of (take (number s p) (drop (p + 2) s)) 0 []) e r.0 high r.1 in
        subst (λ x. FieldsAre (Some Text) x next) z.0 (record { literal = refl; no_byte_lem = refl; no_kids_lem = refl; end = z.1; room = t.0 })

    bits_is : (n : ℕ) → ReadAs (bits n ∷ []) → FieldsAre (Some (Bits n)) e next
    unfolding read_entry read_fields with_literal
    bits_is n h =
        let r = bytes-then s p n (λ l. return (of l 0 [])) e (drop next s) low h in
        let z = ends s (p + n) next (of (take n (drop p s)) 0 []) e r.0 high r.1 in
        subst (λ x. FieldsAre (Some (Bits n)) x next) z.0 (record { literal = refl; no_byte_lem = refl; no_kids_lem = refl; end = z.1; room = low })

    one-is : (kind : Kind) → ReadAs (to kind ∷ []) → KidsAre kind p 1 0 e next
    unfolding read_entry read_fields with_kids
    one-is kind h =
        finds_then s p (reference kind) (takes_reference kind) _ low e (drop next s) h λ a end f h₁.
        let z = ends s end next (of [] 0 (a ∷ [])) e f.within high h₁ in
        subst (λ x. KidsAre kind p 1 0 x next) z.0
        (record { no_literal = refl; kind_byte = refl; count = refl; refers = subst (Refers s kind p 0 (a ∷ [])) z.1 (one-refers s kind p a end f) })

    two_is : (kind : Kind) → ReadAs (to kind ∷ to constant ∷ []) → KidsAre kind p 2 0 e next
    unfolding read_entry read_fields with_kids
    two_is kind h =
        finds_then s p (reference kind) (takes_reference kind) _ low e (drop next s) h λ a mid f h₁.
        finds_then s mid (reference constant) (takes_reference constant) _ f.within e (drop next s) h₁ λ b end g h₂.
        let z = ends s end next (of [] 0 (a ∷ b ∷ [])) e g.within high h₂ in
        subst (λ x. KidsAre kind p 2 0 x next) z.0
        (record { no_literal = refl; kind_byte = refl; count = refl; refers = subst (Refers s kind p 0 (a ∷ b ∷ [])) z.1 (two-refer s kind p a b mid end f g) })

    handle_is : ReadAs (byte ∷ to constant ∷ []) → FieldsAre (Some KindOne) e next
    unfolding read_entry read_fields with_kids with_byte
    handle_is h =
        let b = byte_then s p (λ k. reference constant >>= λ a. return (of [] k (a ∷ []))) e (drop next s) h in
        finds_then s (p + 1) (reference constant) (takes_reference constant) _ (omega arith) e (drop next s) b.1 λ a end f h₁.
        let z = ends s end next (of [] (get_or s p 0) (a ∷ [])) e f.within high h₁ in
        subst (λ x. FieldsAre (Some KindOne) x next) z.0
        (b.0, record { no_literal = refl; kind_byte = refl; count = refl; refers = subst (Refers s constant (p + 1) 0 (a ∷ [])) z.1 (one-refers s constant (p + 1) a end f) })

    bootstrap_is : ReadAs bootstrap_shape → BootstrapIs e next
    unfolding read_entry read_fields with_kids bootstrap_shape
    bootstrap_is h =
        finds_then s p (reference constant) (takes_reference constant) _ low e (drop next s) h λ a mid f h₁.
        let t = two_then s mid _ e (drop next s) f.within h₁ in
        some_then (many (number s mid) (reference constant) (drop (mid + 2) s)) _ (e, drop next s) t.1 λ kids left h₂ h₃.
        let g = several s (mid + 2) (number s mid) kids left t.0 h₂ in
        let z = ends s g.0 next (of [] 0 (a ∷ kids)) e g.2 high (rw g.1 at h₃) in
        subst (λ x. BootstrapIs x next) z.0
        (record {
          no_literal = refl;
          no_byte_lem = refl;
          refers = record { kid = a; others = kids; are = refl; behind = mid; found = f; rest = subst (InTurn (reference constant) s (mid + 2) kids) z.1 g.4 };
          room = t.0;
          count = ap suc g.3;
        })

-- ---- the definition at a place: it comes out, and is read behind its first byte

pub definition_read :
    (s : List ℕ) (at : ℕ) (d : Definition (List ℕ)) (next : ℕ) → Found any_definition s at d next →
    (at < length s) × (comes_out (get_or s at 0) (drop (at + 1) s) ≡ good tt) × (read_definition (get_or s at 0) (drop (at + 1) s) ≡ some (d, drop next s))
definition_read s at d next f =
    let b = byte_then s at formed_definition d (drop next s) f.read in
    let r = formed_was (get_or s at 0) (drop (at + 1) s) (d, drop next s) b.1 in
    (b.0, r.0, r.1)

-- ---- the entry at a place, by what its first byte opens

-- what was read for an entry is that entry
same-entry : (x e : Entry (List ℕ) Reference) → define x ≡ define e → x ≡ e
same-entry x e h = cc

is_entry_lem :
    (x e : Entry (List ℕ) Reference) (rest left : List ℕ) →
    ◌≡◌ {A = Option (Definition (List ℕ) × List ℕ)} (some (define x, rest)) (some (define e, left)) →
    ◌≡◌ {A = Option (Entry (List ℕ) Reference × List ℕ)} (some (x, rest)) (some (e, left))
is_entry_lem x e rest left h =
    let pair = some_inj h in
    rw (same-entry x e (ap (λ r. r.0) pair), ap (λ r. r.1) pair)

-- a name, a raw definition or a setting is no entry, and an entry that wasn't worked out has the tag that it was read from
module _ (first : ℕ) (l : List ℕ) (e : Entry (List ℕ) Reference) (left : List ℕ) where
  no_naming : {X : Type 0} (kind : Kind) → read_body first (some (of_name kind)) l ≡ some (define e, left) → X
  no_naming kind h = let n = (name_read first kind l left (define e) h).2 in clash (cc)

  no_placing : {X : Type 0} (kind : Kind) → read_body first (some (of_raw kind)) l ≡ some (define e, left) → X
  no_placing kind h = let n = (raw_read first kind l left (define e) h).2 in clash (cc)

  no_setting : {X : Type 0} (rule : ℕ → Setting) → read_body first (some (of_number rule)) l ≡ some (define e, left) → X
  no_setting rule h = let n = (setting_read first rule l left (define e) h).1 in clash (cc)

  no_bare : {X : Type 0} (rule : Setting) → read_body first (some (of_nothing rule)) l ≡ some (define e, left) → X
  no_bare rule h = let n = bare_read first rule l left (define e) h in clash (cc)

  body_tag : (body : Option Body) → (body ≡ some of_expression → ⊥) → read_body first body l ≡ some (define e, left) → e.tag ≡ first
  unfolding read_body
  body_tag none n h = none≢some h
  body_tag (some (of_entry fields)) n h =
      let r = entry_read first fields l left (define e) h in
      let same : e ≡ r.0 = same-entry e r.0 r.1 in
      ap (λ x. x.tag) same ∙ r.2
  body_tag (some (of_name kind)) n h = no_naming kind h
  body_tag (some (of_raw kind)) n h = no_placing kind h
  body_tag (some of_expression) n h = absurd (n refl)
  body_tag (some (of_number rule)) n h = no_setting rule h
  body_tag (some (of_nothing rule)) n h = no_bare rule h

module _ (s : List ℕ) (at : ℕ) where
  abbrev pub EntryIs : Opening → Entry (List ℕ) Reference → ℕ → Type 0
  EntryIs (Constant shape) e next = FieldsAre s (at + 1) shape e next
  EntryIs Bootstrap e next = BootstrapIs s (at + 1) e next
  EntryIs NamedConstant e next = ⊥
  EntryIs NamedBootstrap e next = ⊥
  EntryIs RawConstant e next = ⊥
  EntryIs RawBootstrap e next = ⊥
  EntryIs Version e next = ⊥
  EntryIs Texts e next = ⊥
  EntryIs Highest e next = ⊥
  EntryIs Expression e next = WorkedIs s (at + 1) e next

  module _ (e : Entry (List ℕ) Reference) (next : ℕ) where
    module _ (low : at + 1 ≤ length s) (high : next ≤ length s) (out : comes_out (get_or s at 0) (drop (at + 1) s) ≡ good tt) where
      abbrev EntryRead : Option Body → Type 0
      EntryRead body = read_body (get_or s at 0) body (drop (at + 1) s) ≡ some (define e, drop next s)

      read_as : (fields : List Field) → EntryRead (some (of_entry fields)) → read_entry reference (get_or s at 0) fields (drop (at + 1) s) ≡ some (e, drop next s)
      unfolding read_body
      read_as fields h =
          some_then (read_entry reference (get_or s at 0) fields (drop (at + 1) s)) _ (define e, drop next s) h λ x rest h₁ h₂.
          h₁ ∙ is_entry_lem x e rest (drop next s) h₂

      constant_is : (shape : std.Option Shape) → EntryRead (entry_body (fields_of shape)) → FieldsAre s (at + 1) shape e next
      unfolding entry_body read_body
      constant_is (Some Text) h = text_is s (at + 1) (get_or s at 0) e next low high (read_as (text ∷ []) h)
      constant_is (Some (Bits n)) h = bits_is s (at + 1) (get_or s at 0) e next low high n (read_as (bits n ∷ []) h)
      constant_is (Some One) h = one-is s (at + 1) (get_or s at 0) e next low high constant (read_as (to constant ∷ []) h)
      constant_is (Some Two) h = two_is s (at + 1) (get_or s at 0) e next low high constant (read_as (to constant ∷ to constant ∷ []) h)
      constant_is (Some Dynamic) h = two_is s (at + 1) (get_or s at 0) e next low high bootstrap (read_as (to bootstrap ∷ to constant ∷ []) h)
      constant_is (Some KindOne) h = handle_is s (at + 1) (get_or s at 0) e next low high (read_as (byte ∷ to constant ∷ []) h)
      constant_is None h = none≢some h

      expression-is : eqb (get_or s at 0) 0x46 ≡ true → EntryRead (some of_expression) → WorkedIs s (at + 1) e next
      expression-is first h =
          let r = worked-read (get_or s at 0) (drop (at + 1) s) (drop next s) (define e) h in
          worked-is s (get_or s at 0) (at + 1) next e r.0 first out r.1 (same-entry e (worked_out (folded r.0)) r.2)

      body_is : (opening : Opening) → body_of opening ≡ lookup (get_or s at 0) bodies → EntryRead (body_of opening) → EntryIs opening e next
      unfolding body_of
      body_is (Constant shape) t h = constant_is shape h
      body_is Bootstrap t h = bootstrap_is s (at + 1) (get_or s at 0) e next low high (read_as bootstrap_shape h)
      body_is NamedConstant t h = no_naming (get_or s at 0) (drop (at + 1) s) e (drop next s) constant h
      body_is NamedBootstrap t h = no_naming (get_or s at 0) (drop (at + 1) s) e (drop next s) bootstrap h
      body_is RawConstant t h = no_placing (get_or s at 0) (drop (at + 1) s) e (drop next s) constant h
      body_is RawBootstrap t h = no_placing (get_or s at 0) (drop (at + 1) s) e (drop next s) bootstrap h
      body_is Version t h = no_setting (get_or s at 0) (drop (at + 1) s) e (drop next s) version h
      body_is Texts t h = no_bare (get_or s at 0) (drop (at + 1) s) e (drop next s) texts h
      body_is Expression t h = expression-is (expression-first (get_or s at 0) (sym t)) h
      body_is Highest t h = no_setting (get_or s at 0) (drop (at + 1) s) e (drop next s) highest h

    module _ (f : Found any_definition s at (define e) next) where
      -- whatever entry stands at a place is what its first byte opens
      pub entry_there : (opening : Opening) → body_of opening ≡ lookup (get_or s at 0) bodies → EntryIs opening e next
      unfolding read_definition
      entry_there opening told =
          let b = definition_read s at (define e) next f in
          body_is (omega (arith, b.0)) f.within b.1 opening told (rw told b.2)

      pub worked-there : is_worked s at ≡ true → WorkedIs s (at + 1) e next
      unfolding body_of
      worked-there h = entry_there Expression (sym (opens-expression (get_or s at 0) h))

      -- and its first byte is its tag, if it wasn't worked out
      pub tag-there : is_worked s at ≡ false → e.tag ≡ get_or s at 0
      unfolding read_definition
      tag-there h =
          let b = definition_read s at (define e) next f in
          body_tag (get_or s at 0) (drop (at + 1) s) e (drop next s) (lookup (get_or s at 0) bodies)
          (λ t. true≢false (sym (expression-first (get_or s at 0) t) ∙ h))
          b.2

      -- which tells its table in any case
      pub table_there : kind_of e.tag ≡ kind_of (get_or s at 0)
      unfolding as_constant kind_of
      table_there = ways (is_worked s at) refl
        where
          ways : (b : Bool) → is_worked s at ≡ b → kind_of e.tag ≡ kind_of (get_or s at 0)
          ways true h =
              let w = worked-there h in
              ap (λ (y : Entry (List ℕ) Reference). kind_of y.tag) w.is ∙ number-table w.number.0 ∙ sym (ap kind_of (eqb-true (get_or s at 0) 0x46 h))
          ways false h = ap kind_of (tag-there h)

      -- a text was not worked out
      pub text_plain : e.tag ≡ 1 → is_worked s at ≡ false
      unfolding as_constant
      text_plain t = ways (is_worked s at) refl
        where
          ways : (b : Bool) → is_worked s at ≡ b → is_worked s at ≡ false
          ways true h =
              let w = worked-there h in
              let same = ap (λ (y : Entry (List ℕ) Reference). y.tag) w.is in
              true≢false (sym (eq-eqb e.tag 1 t) ∙ ap (λ k. eqb k 1) same ∙ number-no_text w.number.0)
          ways false h = h

-- ---- the other records

module _ (s : List ℕ) (at : ℕ) where
  -- a name and what it stands for; a slot or an index and the number of the entry that goes there
  abbrev pub NamingIs : Kind → Definition (List ℕ) → ℕ → Type 0
  NamingIs kind d next =
      (l : List ℕ) × (a : Reference) × (mid : ℕ) × Found short_name s (at + 1) l mid × Found (reference kind) s mid a next × (d ≡ named kind l a)

  abbrev pub PlacingIs : Kind → Definition (List ℕ) → ℕ → Type 0
  PlacingIs kind d next = (at + 5 ≡ next) × (d ≡ placed kind (number s (at + 1)) (number s (at + 3)))

  -- a setting, with a number and without
  abbrev pub SettingIs : (ℕ → Setting) → Definition (List ℕ) → ℕ → Type 0
  SettingIs rule d next = (at + 3 ≡ next) × (d ≡ setting (rule (number s (at + 1))))

  abbrev pub BareIs : Setting → Definition (List ℕ) → ℕ → Type 0
  BareIs rule d next = (at + 1 ≡ next) × (d ≡ setting rule)

  -- a definition, by what its first byte opens
  abbrev pub DefinitionIs : Opening → Definition (List ℕ) → ℕ → Type 0
  DefinitionIs (Constant shape) d next = (e : Entry (List ℕ) Reference) × (d ≡ define e)
  DefinitionIs Bootstrap d next = (e : Entry (List ℕ) Reference) × (d ≡ define e)
  DefinitionIs NamedConstant d next = NamingIs constant d next
  DefinitionIs NamedBootstrap d next = NamingIs bootstrap d next
  DefinitionIs RawConstant d next = PlacingIs constant d next
  DefinitionIs RawBootstrap d next = PlacingIs bootstrap d next
  DefinitionIs Version d next = SettingIs version d next
  DefinitionIs Texts d next = BareIs texts d next
  DefinitionIs Highest d next = SettingIs highest d next
  DefinitionIs Expression d next = (e : Entry (List ℕ) Reference) × (d ≡ define e)

  module _ (d : Definition (List ℕ)) (next : ℕ) (low : at + 1 ≤ length s) (high : next ≤ length s) where
    abbrev BodyRead : ℕ → Option Body → Type 0
    BodyRead first body = read_body first body (drop (at + 1) s) ≡ some (d, drop next s)

    defining : (first : ℕ) (fields : List Field) → BodyRead first (some (of_entry fields)) → (e : Entry (List ℕ) Reference) × (d ≡ define e)
    defining first fields h = let r = entry_read first fields (drop (at + 1) s) (drop next s) d h in (r.0, r.1)

    naming : (first : ℕ) (kind : Kind) → BodyRead first (some (of_name kind)) → NamingIs kind d next
    unfolding read_body
    naming first kind h =
        finds_then s (at + 1) short_name takes_name _ low d (drop next s) h λ l mid f h₁.
        finds_then s mid (reference kind) (takes_reference kind) _ f.within d (drop next s) h₁ λ a end g h₂.
        let z = ends s end next (named kind l a) d g.within high h₂ in
        (l, a, mid, f, subst (Found (reference kind) s mid a) z.1 g, sym z.0)

    placing : (first : ℕ) (kind : Kind) → BodyRead first (some (of_raw kind)) → PlacingIs kind d next
    unfolding read_body
    placing first kind h =
        let t = two_then s (at + 1) (λ slot. two >>= λ n. return (placed kind slot n)) d (drop next s) low h in
        let u = two_then s (at + 1 + 2) (λ n. return (placed kind (number s (at + 1)) n)) d (drop next s) t.0 t.1 in
        let z = ends s (at + 1 + 2 + 2) next (placed kind (number s (at + 1)) (number s (at + 1 + 2))) d u.0 high u.1 in
        let place : at + 1 + 2 ≡ at + 3 = omega arith in
        (omega (arith, z.1), rw place at (sym z.0))

    ruling : (first : ℕ) (rule : ℕ → Setting) → BodyRead first (some (of_number rule)) → SettingIs rule d next
    unfolding read_body
    ruling first rule h =
        let t = two_then s (at + 1) (λ n. return (setting (rule n))) d (drop next s) low h in
        let z = ends s (at + 1 + 2) next (setting (rule (number s (at + 1)))) d t.0 high t.1 in
        (omega (arith, z.1), sym z.0)

    bare : (first : ℕ) (rule : Setting) → BodyRead first (some (of_nothing rule)) → BareIs rule d next
    unfolding read_body
    bare first rule h = let z = ends s (at + 1) next (setting rule) d low high h in (z.1, sym z.0)

    definition_is : (first : ℕ) (opening : Opening) → BodyRead first (body_of opening) → DefinitionIs opening d next
    unfolding body_of entry_body read_body
    definition_is first (Constant shape) h = listed (fields_of shape) h
      where
        listed : (fields : Option (List Field)) → BodyRead first (entry_body fields) → (e : Entry (List ℕ) Reference) × (d ≡ define e)
        listed none h = none≢some h
        listed (some fields) h = defining first fields h
    definition_is first Bootstrap h = defining first bootstrap_shape h
    definition_is first NamedConstant h = naming first constant h
    definition_is first NamedBootstrap h = naming first bootstrap h
    definition_is first RawConstant h = placing first constant h
    definition_is first RawBootstrap h = placing first bootstrap h
    definition_is first Version h = ruling first version h
    definition_is first Texts h = bare first texts h
    definition_is first Highest h = ruling first highest h
    definition_is first Expression h = let r = worked-read first (drop (at + 1) s) (drop next s) d h in (worked_out (folded r.0), r.2)

  pub definition_there :
      (d : Definition (List ℕ)) (next : ℕ) (opening : Opening) → Found any_definition s at d next → body_of opening ≡ lookup (get_or s at 0) bodies → DefinitionIs opening d next
  unfolding read_definition
  definition_there d next opening f told =
      let b = definition_read s at d next f in
      definition_is d next (omega (arith, b.0)) f.within (get_or s at 0) opening (rw told b.2)

  -- a request: its first byte tells whether it is ldc, and its reference stands behind
  pub request_there :
      (q : Request) (next : ℕ) → Found any_request s at q next → (lookup (get_or s at 0) asks ≡ some q.ldc) × Found (reference constant) s (at + 1) q.what next
  unfolding read_request
  request_there q next f =
      let b = byte_then s at (λ first. read_request (lookup first asks)) q (drop next s) f.read in
      asking (lookup (get_or s at 0) asks) refl b.1
    where
      asking :
          (o : Option Bool) → lookup (get_or s at 0) asks ≡ o → read_request o (drop (at + 1) s) ≡ some (q, drop next s) →
          (lookup (get_or s at 0) asks ≡ some q.ldc) × Found (reference constant) s (at + 1) q.what next
      asking none t h = none≢some h
      asking (some ldc) t h =
          finds_then s (at + 1) (reference constant) (takes_reference constant) _ (omega (arith, f.past, f.within)) q (drop next s) h λ a end g h₁.
          let z = ends s end next (record { ldc = ldc; what = a }) q g.within f.within h₁ in
          subst (λ x. (lookup (get_or s at 0) asks ≡ some x.ldc) × Found (reference constant) s (at + 1) x.what next) z.0
          (t, subst (Found (reference constant) s (at + 1) a) z.1 g)

  -- the class slot of 60 by its form byte, and 60 behind its first byte
  abbrev pub ClassIs : ℕ → ClassSlot → Type 0
  ClassIs zero c = c ≡ slot (number s (at + 2))
  ClassIs (suc zero) c = c ≡ request (number s (at + 2))
  ClassIs (suc (suc n)) c = ⊥

  named_by : (first n : ℕ) (l rest : List ℕ) → name_form first l ≡ some (n, rest) → (first ≡ n) × (l ≡ rest)
  unfolding name_form
  named_by zero n l rest h = let p = some_inj h in (ap (λ r. r.0) p, ap (λ r. r.1) p)
  named_by (suc zero) n l rest h = let p = some_inj h in (ap (λ r. r.0) p, ap (λ r. r.1) p)
  named_by (suc (suc zero)) n l rest h = let p = some_inj h in (ap (λ r. r.0) p, ap (λ r. r.1) p)
  named_by (suc (suc (suc first))) n l rest h = none≢some h

  numbered-class :
      (of : ℕ → ClassSlot) (c : ClassSlot) (rest : List ℕ) →
      at + 2 ≤ length s →
      (two >>= λ n. return (of n)) (drop (at + 2) s) ≡ some (c, rest) →
      (at + 4 ≤ length s) × (c ≡ of (number s (at + 2))) × (drop (at + 4) s ≡ rest)
  numbered-class of c rest low h =
      let t = two_then s (at + 2) (λ n. return (of n)) c rest low h in
      let pair = some_inj t.1 in
      let place : at + 2 + 2 ≡ at + 4 = omega arith in
      (omega (arith, t.0), sym (ap (λ r. r.0) pair), rw place at (ap (λ r. r.1) pair))

  class_by :
      (form : ℕ) (c : ClassSlot) (rest : List ℕ) →
      at + 2 ≤ length s →
      class_form form (drop (at + 2) s) ≡ some (c, rest) →
      (at + 4 ≤ length s) × ClassIs form c × (drop (at + 4) s ≡ rest)
  unfolding class_form
  class_by zero c rest low h = numbered-class slot c rest low h
  class_by (suc zero) c rest low h = numbered-class request c rest low h
  class_by (suc (suc form)) c rest low h = none≢some h

  pub build-there :
      (b : Build) → at ≤ length s → read_build (drop at s) ≡ some (b, []) →
      (at + 4 ≡ length s) × (get_or s at 0 ≡ b.name_byte) × ClassIs (get_or s (at + 1) 0) b.class
  unfolding read_build
  build-there b low h =
      let first = byte_then s at _ b [] h in
      some_then (name_form (get_or s at 0) (drop (at + 1) s)) _ (b, []) first.1 λ n left h₁ h₂.
      let nm = named_by (get_or s at 0) n (drop (at + 1) s) left h₁ in
      let form = byte_then s (at + 1) _ b [] (rw (← nm.1) at h₂) in
      let place : at + 1 + 1 ≡ at + 2 = omega arith in
      some_then (class_form (get_or s (at + 1) 0) (drop (at + 1 + 1) s)) _ (b, []) form.1 λ c rest h₃ h₄.
      let cl = class_by (get_or s (at + 1) 0) c rest (omega arith) (rw place at h₃) in
      let pair = some_inj h₄ in
      let empty : drop (at + 4) s ≡ [] = cl.2 ∙ ap (λ r. r.1) pair in
      let size = sym (length-drop (at + 4) s) ∙ ap length empty in
      subst (λ x. (at + 4 ≡ length s) × (get_or s at 0 ≡ x.name_byte) × ClassIs (get_or s (at + 1) 0) x.class) (ap (λ r. r.0) pair)
      (omega (arith, size), nm.0, cl.1)
