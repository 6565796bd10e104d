-- What the readers at stored places rest on: they stay inside the job, and find what stands there. Assumes nothing.
use Rattle.std.proofs.Common.{rules}
use Rattle.std.specs.Prelude as std
use Rattle.std.specs.Prelude.{Some, None, IsSome}
use mathlib.Core.Bool.{Bool, true, false, ◌&&◌}
use mathlib.Core.List.{List, [], ◌∷◌}
use mathlib.Core.Option.{Option, none, some}
use mathlib.Core.Path.{◌≡◌, refl, sym, ap, ◌∙◌}
use Prim.Native.Nat.{ℕ, zero, suc, ◌+◌, ◌-◌, ◌≤◌, ◌<◌}
use native.Mathlib.Nat.{add-zero}
use native.Mathlib.Numerals.{add-one}
use native.Mathlib.Omega.{arith}
use lib.Dec.{eqb}
use lib.ListN.{length, get_or, drop, length-drop}
use lib.Seq.{drop-drop}
use borrow.Author.Tests.{ne_eqb}
use types.Run.{OneOf, miss}
use denote.Enum.Declared.{tag_of}
use Rattle.facts.proofs.Lists.{clash, true≢false, none≢some}
use Rattle.laws.proofs.Form.WorkedOut.{size_of}
use Rattle.definition.specs.Basics.{lookup}
use Rattle.definition.specs.Shapes.{Kind, constant, bootstrap, Field, bits, Entry, bootstrap_shape}
use Rattle.definition.specs.Job.{Reference, name, define, of_entry, bodies, as_constant, short_name, reference}
use Rattle.definition.specs.Form.{kind_of}
use Rattle.job.specs.declared.Stretch.{Stretch}
use Rattle.job.specs.declared.RefType.TheVariants as refType
use Rattle.raw_const.specs.Entries.{fields_of}
use Rattle.raw_const.specs.declared.Shape.{Shape}
use Rattle.raw_const.specs.declared.Shape.TheVariants.{Text, Bits, One, Two, Dynamic, KindOne}
use Rattle.job.specs.declared.Opening.{Opening}
use Rattle.job.specs.declared.Opening.TheVariants.{Constant, Bootstrap, NamedConstant, NamedBootstrap, RawConstant, RawBootstrap, Version, Texts, Highest, Expression}
use Rattle.raw_const.specs.contracts.Shape.{the_type as shape-type}
use Rattle.job.specs.contracts.Opening.{the_type}
use Rattle.job.specs.Forms.{entry_body, body_of, table_of}
use Rattle.job.specs.Stored.{Found, InTurn, Stands, WhatStands, ReferenceStands, WhatReference, EntryStands, WhatEntry, Spans, Tells, any_definition, is_worked, first_kind_lem, kind_in, kid_kind, bytes_between, KidAt}
use Rattle.job.proofs.Laws.{number}
use Rattle.job.proofs.Expressions.{expression-first, WorkedIs, number-body}
use Rattle.job.proofs.Standing.{stretch, spans, name_there, Says, reference-says, Refers, LiteralIs, FieldsAre, BootstrapIs, EntryIs, definition_read, tag-there, entry_there, worked-there}

-- how many references a constant has, by its shape
abbrev pub kids_of : std.Option Shape → ℕ
kids_of (Some Text) = 0
kids_of (Some (Bits n)) = 0
kids_of (Some One) = 1
kids_of (Some Two) = 2
kids_of (Some Dynamic) = 2
kids_of (Some KindOne) = 1
kids_of None = 0

-- the references of an entry stand from the first one on
kid_first :
    (s : List ℕ) (e : Entry (List ℕ) Reference) (kind : Kind) (first between end : ℕ) →
    kid_kind e.tag 0 ≡ kind →
    bytes_between (kind_of e.tag) 0 ≡ between →
    Refers s kind first between e.kids end →
    KidAt s e 0 first
kid_first s e kind first between end k g r =
    record {
      kid = r.kid;
      later = r.others;
      kids = r.are;
      behind = r.behind;
      found = rw k r.found;
      end = end;
      rest = rw g r.rest;
    }

between-later : (kind : Kind) (i : ℕ) → bytes_between kind (i + 1) ≡ 0
unfolding bytes_between
between-later constant i = rw (add-one i)
between-later bootstrap i = rw (add-one i)

-- the next one stands behind it, or behind the count
kid_next :
    (s : List ℕ) (e : Entry (List ℕ) Reference) (i place : ℕ) (k : KidAt s e i place) →
    i + 1 < length e.kids →
    KidAt s e (i + 1) (k.behind + bytes_between (kind_of e.tag) i)
unfolding kid_kind bytes_between
kid_next s e i place k h = ways k.later refl k.rest
  where
    size : suc (length k.later) ≡ length e.kids - i
    size = sym (ap length k.kids) ∙ length-drop i e.kids

    ways :
        (l : List Reference) → k.later ≡ l → InTurn (reference constant) s (k.behind + bytes_between (kind_of e.tag) i) l k.end →
        KidAt s e (i + 1) (k.behind + bytes_between (kind_of e.tag) i)
    ways [] same r = absurd (omega (arith, size, ap length same))
    ways (a ∷ l) same r =
        record {
          kid = a;
          later = l;
          kids = sym (drop-drop 1 i e.kids) ∙ ap (drop 1) k.kids ∙ same;
          behind = r.0;
          found = rw (add-one i) r.1;
          end = k.end;
          rest = rw (between-later (kind_of e.tag) i, add-zero r.0) r.2;
        }

-- two bytes stand behind the first reference of a bootstrap, nothing behind any other
abbrev bytes_if : Bool → ℕ
bytes_if true = 2
bytes_if false = 0

between-by : (t : Bool) (i : ℕ) → bytes_between (elim t [ true ↦ bootstrap | false ↦ constant ]) i ≡ bytes_if (t && eqb i 0)
unfolding bytes_between
between-by true zero = refl
between-by true (suc i) = rw (ne_eqb (suc i) 0 (λ e. absurd (omega arith)))
between-by false zero = refl
between-by false (suc i) = refl

between-of : (tag i : ℕ) (b : Bool) → (eqb tag 64 && eqb i 0) ≡ b → bytes_between (kind_of tag) i ≡ bytes_if b
unfolding kind_of
between-of tag i b e = between-by (eqb tag 64) i ∙ ap bytes_if e

module _ (s : List ℕ) (at : ℕ) where
  -- ---- names

  pub name_room : Stands short_name s at → at + 1 + get_or s at 0 ≤ length s
  name_room h = let n = name_there s at h.0 h.1 h.2 in omega (arith, n.2, h.2.within)

  pub name_spans : WhatStands short_name s at (λ l next. Spans s (stretch (at + 1) (get_or s at 0)) l × (at + 1 + get_or s at 0 ≡ next))
  name_spans l next f = let n = name_there s at l next f in (n.1, n.2)

  -- ---- references

  -- all forms but a name's take three bytes
  says_room : (kind : Kind) (form : ℕ) (a : Reference) (next : ℕ) → (form ≡ 2 → ⊥) → Says s at kind form a next → at + 3 ≡ next
  says_room kind zero a next n h = h.0
  says_room kind (suc zero) a next n h = h.0
  says_room kind (suc (suc zero)) a next n h = absurd (n refl)
  says_room kind (suc (suc (suc form))) a next n h = absurd h

  pub number-room : ReferenceStands s at → (get_or s at 0 ≡ 2 → ⊥) → at + 3 ≤ length s
  number-room h n =
      let f = h.1.2 in
      omega (arith, says_room h.0 (get_or s at 0) h.1.0 h.1.1 n (reference-says s at h.0 h.1.0 h.1.1 f).1, f.within)

  pub number_behind : (get_or s at 0 ≡ 2 → ⊥) → WhatReference s at (λ kind a next. at + 3 ≡ next)
  number_behind n kind a next f = says_room kind (get_or s at 0) a next n (reference-says s at kind a next f).1

  says_name :
      (kind : Kind) (form : ℕ) (a : Reference) (next : ℕ) →
      (form ≡ 0 → ⊥) →
      (form ≡ 1 → ⊥) →
      Says s at kind form a next →
      (l : List ℕ) × Found short_name s (at + 1) l next × (a ≡ name kind l)
  says_name kind zero a next n m h = absurd (n refl)
  says_name kind (suc zero) a next n m h = absurd (m refl)
  says_name kind (suc (suc zero)) a next n m h = h
  says_name kind (suc (suc (suc form))) a next n m h = absurd h

  module _ (n : get_or s at 0 ≡ 0 → ⊥) (m : get_or s at 0 ≡ 1 → ⊥) where
    named-there : WhatReference s at (λ kind a next. (l : List ℕ) × Found short_name s (at + 1) l next × (a ≡ name kind l))
    named-there kind a next f = says_name kind (get_or s at 0) a next n m (reference-says s at kind a next f).1

    pub name_stands : ReferenceStands s at → Stands short_name s (at + 1)
    name_stands h = let g = named-there h.0 h.1.0 h.1.1 h.1.2 in (g.0, h.1.1, g.1)

    pub name_cited : (r : Stretch) → WhatStands short_name s (at + 1) (λ l next. Spans s r l × (r.end ≡ next)) → WhatReference s at (λ kind a next. Tells s kind a (refType.Sym r))
    unfolding Tells
    name_cited r w kind a next f = let g = named-there kind a next f in (g.0, (w g.0 next g.1).0, g.2)

    pub name_behind : (r : Stretch) → WhatStands short_name s (at + 1) (λ l next. Spans s r l × (r.end ≡ next)) → WhatReference s at (λ kind a next. r.end ≡ next)
    name_behind r w kind a next f = let g = named-there kind a next f in (w g.0 next g.1).1

  pub raw_cited : get_or s at 0 ≡ 0 → WhatReference s at (λ kind a next. Tells s kind a (refType.Raw (number s (at + 1))))
  unfolding Tells
  raw_cited e kind a next f = (rw e at (reference-says s at kind a next f).1).1

  pub number-cited : get_or s at 0 ≡ 1 → WhatReference s at (λ kind a next. Tells s kind a (refType.Index (number s (at + 1))))
  unfolding Tells
  number-cited e kind a next f = (rw e at (reference-says s at kind a next f).1).1

  -- ---- entries

  pub entry_room : EntryStands s at → at < length s
  entry_room h = (definition_read s at (define h.0) h.1 h.2).0

  pub tag-found : is_worked s at ≡ false → WhatEntry s at (λ e. get_or s at 0 ≡ e.tag)
  tag-found h e next f = sym (tag-there s at e next f h)

  -- a number by its tag: its literal stands behind the tag, unless it was worked out
  record NumberIs (n : ℕ) (e : Entry (List ℕ) Reference) (next : ℕ) : Type 0 where
    pub no_byte_lem : e.byte ≡ 0
    pub no_kids_lem : e.kids ≡ []
    pub plain : is_worked s at ≡ false → LiteralIs s (at + 1) (at + 1) n e next

  -- what an entry is by its tag
  abbrev ShapeIs : std.Option Shape → Entry (List ℕ) Reference → ℕ → Type 0
  ShapeIs (Some Text) e next = FieldsAre s (at + 1) (Some Text) e next
  ShapeIs (Some (Bits n)) e next = NumberIs n e next
  ShapeIs (Some One) e next = FieldsAre s (at + 1) (Some One) e next
  ShapeIs (Some Two) e next = FieldsAre s (at + 1) (Some Two) e next
  ShapeIs (Some Dynamic) e next = FieldsAre s (at + 1) (Some Dynamic) e next
  ShapeIs (Some KindOne) e next = FieldsAre s (at + 1) (Some KindOne) e next
  ShapeIs None e next = ⊥

  abbrev ByTag : Opening → Entry (List ℕ) Reference → ℕ → Type 0
  ByTag (Constant shape) e next = ShapeIs shape e next
  ByTag Bootstrap e next = BootstrapIs s (at + 1) e next
  ByTag NamedConstant e next = ⊥
  ByTag NamedBootstrap e next = ⊥
  ByTag RawConstant e next = ⊥
  ByTag RawBootstrap e next = ⊥
  ByTag Version e next = ⊥
  ByTag Texts e next = ⊥
  ByTag Highest e next = ⊥
  ByTag Expression e next = ⊥

  module _ (e : Entry (List ℕ) Reference) (next : ℕ) where
    by_shape : (shape : std.Option Shape) → FieldsAre s (at + 1) shape e next → ShapeIs shape e next
    by_shape (Some Text) h = h
    by_shape (Some (Bits n)) h = record { no_byte_lem = h.no_byte_lem; no_kids_lem = h.no_kids_lem; plain = λ _. h }
    by_shape (Some One) h = h
    by_shape (Some Two) h = h
    by_shape (Some Dynamic) h = h
    by_shape (Some KindOne) h = h
    by_shape None h = h

    -- the tag is the first byte
    by_first : is_worked s at ≡ false → (o : Opening) → body_of o ≡ lookup (get_or s at 0) bodies → EntryIs s at o e next → ByTag o e next
    unfolding body_of
    by_first plain (Constant shape) t h = by_shape shape h
    by_first plain Bootstrap t h = h
    by_first plain NamedConstant t h = h
    by_first plain NamedBootstrap t h = h
    by_first plain RawConstant t h = h
    by_first plain RawBootstrap t h = h
    by_first plain Version t h = h
    by_first plain Texts t h = h
    by_first plain Highest t h = h
    by_first plain Expression t h = true≢false (sym (expression-first (get_or s at 0) (sym t)) ∙ plain)

    -- the tag is that of what was worked out
    by_bits : (n : ℕ) (shape : std.Option Shape) → NumberIs n e next → fields_of shape ≡ some (bits n ∷ []) → ShapeIs shape e next
    by_bits n (Some Text) h t = clash (cc)
    by_bits n (Some (Bits m)) h t = let same : m ≡ n = cc in rw same h
    by_bits n (Some One) h t = clash (cc)
    by_bits n (Some Two) h t = clash (cc)
    by_bits n (Some Dynamic) h t = clash (cc)
    by_bits n (Some KindOne) h t = clash (cc)
    by_bits n None h t = clash (cc)

    by_fields : (n : ℕ) (o : Opening) → NumberIs n e next → body_of o ≡ some (of_entry (bits n ∷ [])) → ByTag o e next
    unfolding body_of entry_body bootstrap_shape
    by_fields n (Constant shape) h t = by_bits n shape h (listed (fields_of shape) t)
      where
        listed : (fields : Option (List Field)) → entry_body fields ≡ some (of_entry (bits n ∷ [])) → fields ≡ some (bits n ∷ [])
        listed none t = none≢some t
        listed (some fields) t = let same : fields ≡ bits n ∷ [] = cc in ap some same
    by_fields n Bootstrap h t = clash (cc)
    by_fields n NamedConstant h t = clash (cc)
    by_fields n NamedBootstrap h t = clash (cc)
    by_fields n RawConstant h t = clash (cc)
    by_fields n RawBootstrap h t = clash (cc)
    by_fields n Version h t = clash (cc)
    by_fields n Texts h t = clash (cc)
    by_fields n Highest h t = clash (cc)
    by_fields n Expression h t = clash (cc)

    by_number : is_worked s at ≡ true → WorkedIs s (at + 1) e next → (o : Opening) → body_of o ≡ lookup e.tag bodies → ByTag o e next
    unfolding as_constant
    by_number worked w o t =
        let y = ap (λ (y : Entry (List ℕ) Reference). y.byte) w.is in
        let k = ap (λ (y : Entry (List ℕ) Reference). y.kids) w.is in
        let tag = ap (λ (y : Entry (List ℕ) Reference). lookup y.tag bodies) w.is ∙ number-body w.number.0 in
        by_fields (size_of w.number.0) o (record { no_byte_lem = y; no_kids_lem = k; plain = λ h. true≢false (sym worked ∙ h) }) (t ∙ tag)

  -- what an entry's tag tells
  module _ (tag : ℕ) (opening : Opening) (is : WhatEntry s at (λ e. tag ≡ e.tag)) (told : body_of opening ≡ lookup tag bodies) where
    opened : (e : Entry (List ℕ) Reference) (next : ℕ) → Found any_definition s at (define e) next → ByTag opening e next
    opened e next f = ways (is_worked s at) refl
      where
        first : lookup tag bodies ≡ lookup e.tag bodies
        first = ap (λ k. lookup k bodies) (is e next f)

        ways : (b : Bool) → is_worked s at ≡ b → ByTag opening e next
        ways true h = by_number e next h (worked-there s at e next f h) opening (told ∙ first)
        ways false h =
            let t = told ∙ first ∙ ap (λ k. lookup k bodies) (tag-there s at e next f h) in
            by_first e next h opening t (entry_there s at e next f opening t)

    -- what isn't a constant is a bootstrap
    bootstrap_shaped :
        OneOf (1 ∷ 2 ∷ 3 ∷ 4 ∷ 5 ∷ 6 ∷ 7 ∷ 8 ∷ 9 ∷ []) (tag_of the_type opening) →
        (e : Entry (List ℕ) Reference) (next : ℕ) →
        Found any_definition s at (define e) next →
        BootstrapIs s (at + 1) e next
    bootstrap_shaped k e next f = ways opening k (opened e next f)
      where
        ways : (x : Opening) → OneOf (1 ∷ 2 ∷ 3 ∷ 4 ∷ 5 ∷ 6 ∷ 7 ∷ 8 ∷ 9 ∷ []) (tag_of the_type x) → ByTag x e next → BootstrapIs s (at + 1) e next
        ways (Constant shape) k h = absurd (miss (1 ∷ 2 ∷ 3 ∷ 4 ∷ 5 ∷ 6 ∷ 7 ∷ 8 ∷ 9 ∷ []) 0 tt k)
        ways Bootstrap k h = h
        ways NamedConstant k h = absurd h
        ways NamedBootstrap k h = absurd h
        ways RawConstant k h = absurd h
        ways RawBootstrap k h = absurd h
        ways Version k h = absurd h
        ways Texts k h = absurd h
        ways Highest k h = absurd h
        ways Expression k h = absurd h

    -- ---- literals

    nothing_spans : (l : List ℕ) → at ≤ length s → l ≡ [] → Spans s (record { start = at; end = at }) l
    nothing_spans l h e =
        let size : at - at ≡ 0 = omega arith in
        record { are = rw (size, e); rising = omega arith; within = h }

    pub bootstrap_literal : OneOf (1 ∷ 2 ∷ 3 ∷ 4 ∷ 5 ∷ 6 ∷ 7 ∷ 8 ∷ 9 ∷ []) (tag_of the_type opening) → WhatEntry s at (λ e. Spans s (record { start = at; end = at }) e.literal)
    bootstrap_literal k e next f = nothing_spans e.literal (omega arith) (bootstrap_shaped k e next f).no_literal

    module _ (shape : std.Option Shape) (constant-opened : opening ≡ Constant shape) where
      constant_shaped : (e : Entry (List ℕ) Reference) (next : ℕ) → Found any_definition s at (define e) next → ShapeIs shape e next
      constant_shaped e next f = rw constant-opened at (opened e next f)

      -- an entry that stands has a shape
      pub known : EntryStands s at → IsSome shape
      known h = ways shape (constant_shaped h.0 h.1 h.2)
        where
          ways : (x : std.Option Shape) → ShapeIs x h.0 h.1 → IsSome x
          ways (Some x) k = search rules
          ways None k = absurd k

      pub text_room : shape ≡ Some Text → EntryStands s at → at + 3 + number s (at + 1) ≤ length s
      text_room t h = let g = rw t at (constant_shaped h.0 h.1 h.2) in omega (arith, g.end, h.2.within)

      pub text_literal : shape ≡ Some Text → WhatEntry s at (λ e. Spans s (record { start = at + 3; end = at + 3 + number s (at + 1) }) e.literal)
      text_literal t e next f =
          let g = rw t at (constant_shaped e next f) in
          let place : at + 1 + 2 ≡ at + 3 = omega arith in
          rw (← place) (spans s (at + 1 + 2) (number s (at + 1)) e.literal (omega (arith, g.end, f.within)) g.literal)

      pub bits-room : is_worked s at ≡ false → (n : ℕ) → shape ≡ Some (Bits n) → EntryStands s at → at + 1 + n ≤ length s
      bits-room plain n t h = let g = rw t at (constant_shaped h.0 h.1 h.2) in omega (arith, (g.plain plain).end, h.2.within)

      pub bits-literal : is_worked s at ≡ false → (n : ℕ) → shape ≡ Some (Bits n) → WhatEntry s at (λ e. Spans s (record { start = at + 1; end = at + 1 + n }) e.literal)
      bits-literal plain n t e next f =
          let g = (rw t at (constant_shaped e next f)).plain plain in
          spans s (at + 1) n e.literal (omega (arith, g.end, f.within)) g.literal

      pub no_literal_lem : (inner : Shape) → shape ≡ Some inner → OneOf (2 ∷ 3 ∷ 4 ∷ 5 ∷ []) (tag_of shape-type inner) → WhatEntry s at (λ e. Spans s (record { start = at; end = at }) e.literal)
      no_literal_lem inner t k e next f = nothing_spans e.literal (omega arith) (ways inner k (rw t at (constant_shaped e next f)))
        where
          ways : (x : Shape) → OneOf (2 ∷ 3 ∷ 4 ∷ 5 ∷ []) (tag_of shape-type x) → ShapeIs (Some x) e next → e.literal ≡ []
          ways Text k h = absurd (miss (2 ∷ 3 ∷ 4 ∷ 5 ∷ []) 0 tt k)
          ways (Bits n) k h = absurd (miss (2 ∷ 3 ∷ 4 ∷ 5 ∷ []) 1 tt k)
          ways One k h = h.no_literal
          ways Two k h = h.no_literal
          ways Dynamic k h = h.no_literal
          ways KindOne k h = h.1.no_literal

      -- ---- kind bytes

      pub handle_room : shape ≡ Some KindOne → EntryStands s at → at + 1 < length s
      handle_room t h = (rw t at (constant_shaped h.0 h.1 h.2)).0

      pub handle_byte : shape ≡ Some KindOne → WhatEntry s at (λ e. get_or s (at + 1) 0 ≡ e.byte)
      handle_byte t e next f = sym (rw t at (constant_shaped e next f)).1.kind_byte

      pub no_byte : (inner : Shape) → shape ≡ Some inner → OneOf (0 ∷ 1 ∷ 2 ∷ 3 ∷ 4 ∷ []) (tag_of shape-type inner) → WhatEntry s at (λ e. 0 ≡ e.byte)
      no_byte inner t k e next f = ways inner k (rw t at (constant_shaped e next f))
        where
          ways : (x : Shape) → OneOf (0 ∷ 1 ∷ 2 ∷ 3 ∷ 4 ∷ []) (tag_of shape-type x) → ShapeIs (Some x) e next → 0 ≡ e.byte
          ways Text k h = sym h.no_byte_lem
          ways (Bits n) k h = sym h.no_byte_lem
          ways One k h = sym h.kind_byte
          ways Two k h = sym h.kind_byte
          ways KindOne k h = absurd (miss (0 ∷ 1 ∷ 2 ∷ 3 ∷ 4 ∷ []) 5 tt k)
          ways Dynamic k h = sym h.kind_byte

      -- ---- references

      pub constant_count : (n : ℕ) → kids_of shape ≡ n → WhatEntry s at (λ e. n ≡ length e.kids)
      constant_count n t e next f = ways shape t (constant_shaped e next f)
        where
          ways : (x : std.Option Shape) → kids_of x ≡ n → ShapeIs x e next → n ≡ length e.kids
          ways (Some Text) t h = sym t ∙ sym (ap length h.no_kids_lem)
          ways (Some (Bits m)) t h = sym t ∙ sym (ap length h.no_kids_lem)
          ways (Some One) t h = sym t ∙ sym h.count
          ways (Some Two) t h = sym t ∙ sym h.count
          ways (Some Dynamic) t h = sym t ∙ sym h.count
          ways (Some KindOne) t h = sym t ∙ sym h.1.count
          ways None t h = absurd h

      module _ (table : table_of opening ≡ kind_of tag) where
        -- by its shape, what an entry's first reference leads to, and that nothing stands behind it
        kind-there : (e : Entry (List ℕ) Reference) (next : ℕ) → Found any_definition s at (define e) next → kid_kind e.tag 0 ≡ kind_in (entry_body (fields_of shape))
        unfolding kid_kind kind_in body_of
        kind-there e next f =
            ap (λ k. kind_in (lookup k bodies)) (sym (is e next f)) ∙ ap kind_in (sym told) ∙ ap (λ x. kind_in (body_of x)) constant-opened

        between-there : (e : Entry (List ℕ) Reference) (next : ℕ) → Found any_definition s at (define e) next → bytes_between (kind_of e.tag) 0 ≡ 0
        unfolding bytes_between table_of
        between-there e next f =
            ap (λ k. bytes_between (kind_of k) 0) (sym (is e next f))
            ∙ ap (λ k. bytes_between k 0) (sym table)
            ∙ ap (λ x. bytes_between (table_of x) 0) constant-opened

        pub handle_first : shape ≡ Some KindOne → WhatEntry s at (λ e. 0 < length e.kids → KidAt s e 0 (at + 2))
        unfolding entry_body kind_in first_kind_lem
        handle_first t e next f more =
            let g = rw t at (constant_shaped e next f) in
            let place : at + 1 + 1 ≡ at + 2 = omega arith in
            rw (← place) (kid_first s e constant (at + 1 + 1) 0 next (kind-there e next f ∙ ap (λ x. kind_in (entry_body (fields_of x))) t) (between-there e next f) g.1.refers)

        pub constant_first :
            (inner : Shape) → shape ≡ Some inner → OneOf (0 ∷ 1 ∷ 2 ∷ 3 ∷ 4 ∷ []) (tag_of shape-type inner) → WhatEntry s at (λ e. 0 < length e.kids → KidAt s e 0 (at + 1))
        unfolding entry_body kind_in first_kind_lem
        constant_first inner t k e next f more = ways inner k (rw t at (kind-there e next f)) (rw t at (constant_shaped e next f))
          where
            first : (kind : Kind) → kid_kind e.tag 0 ≡ kind → Refers s kind (at + 1) 0 e.kids next → KidAt s e 0 (at + 1)
            first kind same r = kid_first s e kind (at + 1) 0 next same (between-there e next f) r

            ways :
                (x : Shape) → OneOf (0 ∷ 1 ∷ 2 ∷ 3 ∷ 4 ∷ []) (tag_of shape-type x) → kid_kind e.tag 0 ≡ kind_in (entry_body (fields_of (Some x))) →
                ShapeIs (Some x) e next → KidAt s e 0 (at + 1)
            ways Text k same h = absurd (omega (arith, ap length h.no_kids_lem))
            ways (Bits n) k same h = absurd (omega (arith, ap length h.no_kids_lem))
            ways One k same h = first constant same h.refers
            ways Two k same h = first constant same h.refers
            ways KindOne k same h = absurd (miss (0 ∷ 1 ∷ 2 ∷ 3 ∷ 4 ∷ []) 5 tt k)
            ways Dynamic k same h = first bootstrap same h.refers

    -- ---- a bootstrap: its first reference, and its count behind it

    module _ (k : OneOf (1 ∷ 2 ∷ 3 ∷ 4 ∷ 5 ∷ 6 ∷ 7 ∷ 8 ∷ 9 ∷ []) (tag_of the_type opening)) where
      pub bootstrap_byte : WhatEntry s at (λ e. 0 ≡ e.byte)
      bootstrap_byte e next f = sym (bootstrap_shaped k e next f).no_byte_lem

      pub bootstrap_stands : EntryStands s at → ReferenceStands s (at + 1)
      bootstrap_stands h = let r = (bootstrap_shaped k h.0 h.1 h.2).refers in (constant, (r.kid, r.behind, r.found))

      pub bootstrap_first : table_of opening ≡ kind_of tag → WhatEntry s at (λ e. 0 < length e.kids → KidAt s e 0 (at + 1))
      unfolding kid_kind kind_in body_of table_of bytes_between bootstrap_shape first_kind_lem
      bootstrap_first table e next f more =
          ways opening k (opened e next f) (told ∙ ap (λ t. lookup t bodies) (is e next f)) (table ∙ ap kind_of (is e next f))
        where
          ways :
              (x : Opening) → OneOf (1 ∷ 2 ∷ 3 ∷ 4 ∷ 5 ∷ 6 ∷ 7 ∷ 8 ∷ 9 ∷ []) (tag_of the_type x) → ByTag x e next → body_of x ≡ lookup e.tag bodies →
              table_of x ≡ kind_of e.tag → KidAt s e 0 (at + 1)
          ways (Constant shape) k h b t = absurd (miss (1 ∷ 2 ∷ 3 ∷ 4 ∷ 5 ∷ 6 ∷ 7 ∷ 8 ∷ 9 ∷ []) 0 tt k)
          ways Bootstrap k h b t =
              kid_first s e constant (at + 1) 2 next (ap kind_in (sym b)) (ap (λ kind. bytes_between kind 0) (sym t)) h.refers
          ways NamedConstant k h b t = absurd h
          ways NamedBootstrap k h b t = absurd h
          ways RawConstant k h b t = absurd h
          ways RawBootstrap k h b t = absurd h
          ways Version k h b t = absurd h
          ways Texts k h b t = absurd h
          ways Highest k h b t = absurd h
          ways Expression k h b t = absurd h

      module _ (p : ℕ) (behind : WhatReference s (at + 1) (λ kind a next. p ≡ next)) where
        pub count_room : EntryStands s at → p + 2 ≤ length s
        count_room h =
            let b = bootstrap_shaped k h.0 h.1 h.2 in
            omega (arith, behind constant b.refers.kid b.refers.behind b.refers.found, b.room)

        pub bootstrap_count_lem : WhatEntry s at (λ e. number s p + 1 ≡ length e.kids)
        bootstrap_count_lem e next f =
            let b = bootstrap_shaped k e next f in
            let same = behind constant b.refers.kid b.refers.behind b.refers.found in
            rw same (omega (arith, b.count))

  -- ---- the next reference

  module _ (tag i place behind : ℕ) (is : WhatEntry s at (λ e. tag ≡ e.tag)) (found : WhatReference s place (λ kind a next. behind ≡ next)) where
    pub next-by :
        (b : Bool) → (eqb tag 64 && eqb i 0) ≡ b →
        WhatEntry s at (λ e. KidAt s e i place → i + 1 < length e.kids → KidAt s e (i + 1) (behind + bytes_if b))
    next-by b t e next f k h =
        let bytes = ap (λ n. bytes_between (kind_of n) i) (sym (is e next f)) ∙ between-of tag i b t in
        let same = found (kid_kind e.tag i) k.kid k.behind k.found in
        rw (same, ← bytes) (kid_next s e i place k h)
