-- The definition in turn, as its function sees it: what it needs of its readers and writers, and what it has done. Assumes nothing.
use mathlib.Core.Bool.{Bool, true, false, ◌&&◌, ◌||◌, not}
use mathlib.Core.List.{List}
use mathlib.Core.Option.{Option, none, some}
use mathlib.Core.Path.{◌≡◌, refl, ap, subst, ◌∙◌}
use Prim.Native.Nat.{ℕ, zero, suc, ◌+◌, ◌-◌, ◌≤◌, ◌<◌}
use native.Mathlib.Omega.{arith}
use lib.Dec.{eqb, ltb, leb}
use lib.ListN.{length, get_or, get_elem?, take}
use borrow.Author.Tests.{ne_eqb, eqb-true}
use Rattle.definition.specs.Basics.{Result, good, bad, ◌>>=◌, unless, lookup}
use Rattle.definition.specs.Shapes.{Kind, constant, bootstrap, Entry, is_wide}
use Rattle.definition.specs.Job.{Reference, define, named}
use Rattle.definition.specs.Form.{kind_of}
use Rattle.definition.specs.Definitions.{Held, starts, half, Naming, is_none, start_free, last_slot, place_constant, place_bootstrap, name_target}
use Rattle.laws.specs.Statements.{IsBytes}
use Rattle.job.specs.Stored.{Found, EntryStands, WhatEntry, any_definition}
use Rattle.job.proofs.Laws.{number}
use Rattle.job.proofs.Standing.{table_there}
use Rattle.store.specs.Store.{Store, size}
use Rattle.store.specs.JobIn.{namings_in, constants_in, entries_in}
use Rattle.store.specs.Regions.{COUNTS, NAME-HEADS, OFFSETS, RAW-KEYS, VALUES, CONSTANT-COUNT, BOOTSTRAP-COUNT, Work}
use Rattle.store.specs.Entries.{WordsAt}
use Rattle.std.specs.Prelude.{Ok, Err}
use Rattle.refusal.specs.declared.Refusal.{Refusal}
use Rattle.refusal.specs.Numbers.{code_of}
use Rattle.sym_refs.specs.Names.{kind_byte, NamingAt, name_count, NamesIn, Tried}
use Rattle.raws.specs.Raws.{outcome, raw_count, SomeRaws, TriedConstant, TriedBootstrap}
use Rattle.definitions.specs.Kids.{counted, CanEnter, Enters}
use Rattle.definitions.specs.Defining.{SomePlace, Tested, Answer, answered, Stepped}
use Rattle.definitions.proofs.Rooms.{room}
use Rattle.definitions.proofs.Steps.{now, now_name, now_raw, now_version, now_texts, now_highest, now_entry, setting_step, this_name, naming_at, name_step, cited_low, constant_stands, constant_room, constant_step, bootstrap_low, bootstrap_room, bootstrap_step, can_enter, constant_few, constant_entered, bootstrap_few, bootstrap_entered}

-- REFUSALS are low numbers

abbrev Low : {A : Type 0} → Result ℕ A → Type 0
Low (good a) = Unit {0}
Low (bad code) = code < 100

unless-low : {A : Type 0} (b : Bool) (code : ℕ) (f : Unit {0} → Result ℕ A) → code < 100 → Low (f tt) → Low (unless b code >>= f)
unfolding unless
unless-low true code f h g = g
unless-low false code f h g = h

free_low : {A : Type 0} (o : Option Held) (f : Unit {0} → Result ℕ A) → Low (f tt) → Low (start_free o >>= f)
unfolding start_free
free_low none f g = g
free_low (some (starts e)) f g = omega arith
free_low (some half) f g = omega arith

place_low : (top : ℕ) (wide : Bool) (n e : ℕ) (held : List (ℕ × Held)) → Low (place_constant top wide n e held)
unfolding place_constant
place_low top wide n e held =
    unless-low (not (eqb n 0) && leb (last_slot wide n) top) 6 _ (omega arith)
    (unless-low (not wide || is_none (lookup (suc n) held)) 7 _ (omega arith) (free_low (lookup n held) _ tt))

index-low : (index e : ℕ) (indexes : List (ℕ × ℕ)) → Low (place_bootstrap index e indexes)
unfolding place_bootstrap
index-low index e indexes =
    unless-low (ltb index 65535) 9 _ (omega arith) (unless-low (is_none (lookup index indexes)) 10 _ (omega arith) tt)

outcome-low : {A : Type 0} (code : ℕ) (a : A) (r : Result ℕ A) → Low r → r ≡ outcome code a → code < 100
unfolding outcome
outcome-low zero a r h e = omega arith
outcome-low (suc code) a r h e = subst Low e h

tried_low : (h : ℕ) (s : List ℕ) (t u : Store) (x : Naming) (code : ℕ) → Tried h s t u x code → code < 100
tried_low h s t u x code g = ways (is_none (name_target x.kind x.label (take (name_count t) (namings_in s)))) refl
  where
    ways : (b : Bool) → is_none (name_target x.kind x.label (take (name_count t) (namings_in s))) ≡ b → code < 100
    ways true e = omega (arith, (g.fresh e).0)
    ways false e = omega (arith, g.old e)

-- THE RECORD

byte_is_lem : (b : ℕ) (kind : Kind) → b ≡ kind_byte kind → b ≡ elim kind [ constant ↦ 0x41 | bootstrap ↦ 0x42 ]
unfolding kind_byte
byte_is_lem b constant e = e
byte_is_lem b bootstrap e = e

module _ (p : List ℕ) (top : ℕ) (s : List ℕ) (t : Store) (at : ℕ) (place : SomePlace p top s t at) where
  pub record_stands : at < length s
  unfolding SomePlace
  record_stands = let n = now p top s t at place.0 place.1 in omega (arith, n.2.found.past, n.2.found.within)

  pub some-raws : SomeRaws p t
  unfolding SomePlace SomeRaws
  some-raws = (constants_in s, top, place.0.held, place.0.indexes, place.1.0.raws)

  pub top-low : top < 65535
  unfolding SomePlace
  top-low = place.1.0.raws.few

  module _ (work : Work s p) (bytes : IsBytes s) where
    -- a name
    module _ (kind : Kind) (byte : get_or s at 0 ≡ kind_byte kind) where
      pub name_needs : NamesIn (size p NAME-HEADS) s t × ((x : Naming) × (get_elem? (namings_in s) (name_count t) ≡ some x) × NamingAt s at x)
      unfolding SomePlace
      name_needs =
          let n = now_name p top s t at place.0 place.1 kind (byte_is_lem (get_or s at 0) kind byte) in
          let x : Naming = record { kind = kind; label = n.0; target = n.1 } in (
            place.1.0.names,
            (x, this_name p top s t at place.0 place.1 kind n.0 n.1 n.2 n.3, naming_at p top s t at place.0 place.1 kind n.0 n.1 n.2 n.3 work bytes),
          )

      pub name_found : (k : Kind) × (l : List ℕ) × (r : Reference) × (next : ℕ) × Found any_definition s at (named k l r) next
      unfolding SomePlace
      name_found = let n = now_name p top s t at place.0 place.1 kind (byte_is_lem (get_or s at 0) kind byte) in (kind, n.0, n.1, n.2, n.3.found)

      module _ (u : Store) (code : Tested) (tried : (x : Naming) → get_elem? (namings_in s) (name_count t) ≡ some x → Tried (size p NAME-HEADS) s t u x (code_of code)) where
        pub name_code : code_of code < 100
        name_code = let n = name_needs.1 in tried_low (size p NAME-HEADS) s t u n.0 (code_of code) (tried n.0 n.1)

        pub name_done :
            (behind : ℕ) (res : Answer) → ((k : Kind) (l : List ℕ) (r : Reference) (next : ℕ) → Found any_definition s at (named k l r) next → behind ≡ next) →
            res ≡ answered code behind → Stepped p top s t u res
        unfolding SomePlace
        name_done behind res after is =
            let n = now_name p top s t at place.0 place.1 kind (byte_is_lem (get_or s at 0) kind byte) in
            let x = this_name p top s t at place.0 place.1 kind n.0 n.1 n.2 n.3 in
            name_step p top s t at place.0 place.1 kind n.0 n.1 n.2 n.3 (room s p work) u code res (tried _ x)
            (is ∙ ap (answered code) (after kind n.0 n.1 n.2 n.3.found))

        pub name-refused : (e : Refusal) → code ≡ Err e → Stepped p top s t u (Err e)
        unfolding SomePlace answered
        name-refused e is =
            let n = now_name p top s t at place.0 place.1 kind (byte_is_lem (get_or s at 0) kind byte) in
            let x = this_name p top s t at place.0 place.1 kind n.0 n.1 n.2 n.3 in
            name_step p top s t at place.0 place.1 kind n.0 n.1 n.2 n.3 (room s p work) u code (Err e) (tried _ x) (rw is)

    -- a raw definition
    number-low : (a : ℕ) → number s a < 65536
    number-low a = omega (arith, bytes a, bytes (a + 1))

    pub raw_stands : (kind : Kind) → get_or s at 0 ≡ elim kind [ constant ↦ 0x43 | bootstrap ↦ 0x44 ] → at + 5 ≤ length s
    unfolding SomePlace
    raw_stands kind byte = (now_raw p top s t at place.0 place.1 kind byte).found.within

    pub first_low : number s (at + 1) < 65536
    first_low = number-low (at + 1)

    module _ (byte : get_or s at 0 ≡ 0x43) where
      pub raw_cited : (number s (at + 3) < entries_in s) × EntryStands s (get_or (t OFFSETS) (number s (at + 3)) 0) × (raw_count t + 2 ≤ size p RAW-KEYS)
      unfolding SomePlace
      raw_cited =
          let n = now_raw p top s t at place.0 place.1 constant byte in (
            cited_low p top s t at place.0 place.1 (room s p work) work bytes _ _ n,
            constant_stands p top s t at place.0 place.1 (room s p work) work bytes _ _ n,
            constant_room p top s t at place.0 place.1 (room s p work) work bytes _ _ n,
          )

      module _ (tag : ℕ) (u : Store) (code : Tested) (done : TriedConstant p top (is_wide tag) (number s (at + 1)) (number s (at + 3)) t u (code_of code)) where
        pub raw_code : code_of code < 100
        unfolding SomePlace
        raw_code =
            outcome-low (code_of code) _ (place_constant top (is_wide tag) (number s (at + 1)) (number s (at + 3)) place.0.held) (place_low top (is_wide tag) _ _ place.0.held)
            (done.code (constants_in s) place.0.held place.0.indexes place.1.0.raws)

        pub raw_done_lem : (res : Answer) → WhatEntry s (get_or (t OFFSETS) (number s (at + 3)) 0) (λ x. tag ≡ x.tag) → res ≡ answered code (at + 5) → Stepped p top s t u res
        unfolding SomePlace
        raw_done_lem res says is =
            constant_step p top s t at place.0 place.1 (room s p work) work bytes _ _ (now_raw p top s t at place.0 place.1 constant byte) tag u code res says done is

    module _ (byte : get_or s at 0 ≡ 0x44) where
      pub index-cited : (constants_in s + number s (at + 3) < entries_in s) × (raw_count t < size p RAW-KEYS)
      unfolding SomePlace
      index-cited =
          let n = now_raw p top s t at place.0 place.1 bootstrap byte in (
            bootstrap_low p top s t at place.0 place.1 (room s p work) work bytes _ _ n,
            bootstrap_room p top s t at place.0 place.1 (room s p work) work bytes _ _ n,
          )

      module _ (u : Store) (code : Tested) (done : TriedBootstrap p (number s (at + 1)) (constants_in s + number s (at + 3)) t u (code_of code)) where
        pub index-code : code_of code < 100
        unfolding SomePlace
        index-code =
            outcome-low (code_of code) _ (place_bootstrap (number s (at + 1)) (constants_in s + number s (at + 3) - constants_in s) place.0.indexes) (index-low _ _ place.0.indexes)
            (done.code (constants_in s) top place.0.held place.0.indexes place.1.0.raws (omega arith))

        pub index-done : (res : Answer) → res ≡ answered code (at + 5) → Stepped p top s t u res
        unfolding SomePlace
        index-done res is =
            bootstrap_step p top s t at place.0 place.1 (room s p work) work bytes _ _ (now_raw p top s t at place.0 place.1 bootstrap byte) u code res done is

    -- a setting
    pub version_done : get_or s at 0 ≡ 0x47 → Stepped p top s t t (Ok (at + 3))
    unfolding SomePlace
    version_done byte = setting_step p top s t at place.0 place.1 (room s p work) _ _ (now_version p top s t at place.0 place.1 byte)

    pub texts_done : get_or s at 0 ≡ 0x48 → Stepped p top s t t (Ok (at + 1))
    unfolding SomePlace
    texts_done byte = setting_step p top s t at place.0 place.1 (room s p work) _ _ (now_texts p top s t at place.0 place.1 byte)

    pub highest_done : get_or s at 0 ≡ 0x49 → Stepped p top s t t (Ok (at + 3))
    unfolding SomePlace
    highest_done byte = setting_step p top s t at place.0 place.1 (room s p work) _ _ (now_highest p top s t at place.0 place.1 byte)

    -- an entry
    module _ (long : (k : ℕ) → length (t k) ≡ size p k) (n1 : get_or s at 0 ≡ 0x41 → ⊥) (n2 : get_or s at 0 ≡ 0x42 → ⊥) (n3 : get_or s at 0 ≡ 0x43 → ⊥) (n4 : get_or s at 0 ≡ 0x44 → ⊥) (n7 : get_or s at 0 ≡ 0x47 → ⊥) (n8 : get_or s at 0 ≡ 0x48 → ⊥) (n9 : get_or s at 0 ≡ 0x49 → ⊥) where
      module _ (n0 : get_or s at 0 ≡ 0x40 → ⊥) where
        constant_kind : (x : Entry (List ℕ) Reference) (next : ℕ) → Found any_definition s at (define x) next → kind_of x.tag ≡ constant
        unfolding kind_of
        constant_kind x next f = table_there s at x next f ∙ rw (ne_eqb (get_or s at 0) 0x40 n0, kind_of)

        pub constant_needs : (x : Entry (List ℕ) Reference) × (next : ℕ) × CanEnter s t at (0 + get_or (t COUNTS) CONSTANT-COUNT 0) x next
        unfolding SomePlace
        constant_needs =
            let n = now_entry p top s t at place.0 place.1 n1 n2 n3 n4 n7 n8 n9 in
            let few = constant_few p top s t at place.0 place.1 (room s p work) work bytes long n.0 n.1 n.2 (constant_kind n.0 n.1 n.2.found) in
            (n.0, n.1, can_enter p top s t at place.0 place.1 (room s p work) work bytes long n.0 n.1 n.2 CONSTANT-COUNT _ (omega arith) (omega arith) few)

        pub constant_done :
            (u : Store) (res : ℕ) →
            ((x : Entry (List ℕ) Reference) (next : ℕ) → CanEnter s t at (0 + get_or (t COUNTS) CONSTANT-COUNT 0) x next → Enters s (counted t CONSTANT-COUNT) u at (0 + get_or (t COUNTS) CONSTANT-COUNT 0) res x next) →
            WordsAt s (t VALUES) at → Stepped p top s t u (Ok res)
        unfolding SomePlace
        constant_done u res enters words =
            let n = now_entry p top s t at place.0 place.1 n1 n2 n3 n4 n7 n8 n9 in
            let kind = constant_kind n.0 n.1 n.2.found in
            let few = constant_few p top s t at place.0 place.1 (room s p work) work bytes long n.0 n.1 n.2 kind in
            let can = can_enter p top s t at place.0 place.1 (room s p work) work bytes long n.0 n.1 n.2 CONSTANT-COUNT _ (omega arith) (omega arith) few in
            constant_entered p top s t at place.0 place.1 (room s p work) work bytes long n.0 n.1 n.2 kind u res (enters n.0 n.1 can) words

      module _ (byte : get_or s at 0 ≡ 0x40) where
        bootstrap_kind : (x : Entry (List ℕ) Reference) (next : ℕ) → Found any_definition s at (define x) next → kind_of x.tag ≡ bootstrap
        unfolding kind_of
        bootstrap_kind x next f = table_there s at x next f ∙ rw byte

        pub bootstrap_needs : (x : Entry (List ℕ) Reference) × (next : ℕ) × CanEnter s t at (constants_in s + get_or (t COUNTS) BOOTSTRAP-COUNT 0) x next
        unfolding SomePlace
        bootstrap_needs =
            let n = now_entry p top s t at place.0 place.1 n1 n2 n3 n4 n7 n8 n9 in
            let few = bootstrap_few p top s t at place.0 place.1 (room s p work) work bytes long n.0 n.1 n.2 (bootstrap_kind n.0 n.1 n.2.found) in
            (n.0, n.1, can_enter p top s t at place.0 place.1 (room s p work) work bytes long n.0 n.1 n.2 BOOTSTRAP-COUNT _ (omega arith) (omega arith) few)

        pub bootstrap_done :
            (u : Store) (res : ℕ) →
            ((x : Entry (List ℕ) Reference) (next : ℕ) → CanEnter s t at (constants_in s + get_or (t COUNTS) BOOTSTRAP-COUNT 0) x next → Enters s (counted t BOOTSTRAP-COUNT) u at (constants_in s + get_or (t COUNTS) BOOTSTRAP-COUNT 0) res x next) →
            Stepped p top s t u (Ok res)
        unfolding SomePlace
        bootstrap_done u res enters =
            let n = now_entry p top s t at place.0 place.1 n1 n2 n3 n4 n7 n8 n9 in
            let kind = bootstrap_kind n.0 n.1 n.2.found in
            let few = bootstrap_few p top s t at place.0 place.1 (room s p work) work bytes long n.0 n.1 n.2 kind in
            let can = can_enter p top s t at place.0 place.1 (room s p work) work bytes long n.0 n.1 n.2 BOOTSTRAP-COUNT _ (omega arith) (omega arith) few in
            bootstrap_entered p top s t at place.0 place.1 (room s p work) work bytes long n.0 n.1 n.2 kind u res (enters n.0 n.1 can)
            (λ w. absurd (omega (arith, eqb-true (get_or s at 0) 0x46 w)))
