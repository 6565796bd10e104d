-- The first step of each name, from its record in the job. Assumes nothing.
use mathlib.Core.List.{List}
use mathlib.Core.Logic.{inl}
use mathlib.Core.Option.{some}
use mathlib.Core.Path.{◌≡◌, refl, sym, ap, ◌∙◌}
use Prim.Native.Nat.{ℕ, ◌+◌, ◌-◌, ◌≤◌, ◌<◌}
use native.Mathlib.Omega.{arith}
use lib.Dec.{eqb}
use lib.ListN.{length, get_or, get_elem?}
use Rattle.definition.specs.Shapes.{Kind, constant, bootstrap}
use Rattle.definition.specs.Job.{short_name, reference}
use Rattle.definition.specs.Definitions.{Naming}
use Rattle.job.specs.declared.Stretch.{Stretch}
use Rattle.job.specs.Stored.{Spans, Stands, WhatStands, ReferenceStands}
use Rattle.store.specs.Store.{Store, size}
use Rattle.store.specs.Chains.{Sought}
use Rattle.store.specs.JobIn.{entries_in, constants_in, namings_in}
use Rattle.store.specs.Regions.{NAME-HEADS, NAME-LINKS, NAME-PLACES, NAME-GOALS, Work}
use Rattle.store.specs.Words.{SYM, REFUSED, NAME, reference_word, IsReference}
use Rattle.sym_refs.specs.Names.{kind_byte, CitedIn, NamingAt, name_count}
use Rattle.sym_refs.specs.Leading.{flagged, WordFor, NamedBy, AllNames, First}
use Rattle.sym_refs.proofs.Rooms.{Room, room}
use Rattle.sym_refs.proofs.Wording.{low_word}
use Rattle.sym_refs.proofs.Namings.{NamingThere, naming_there}
use Rattle.sym_refs.proofs.Comparing.{naming_room}
use Rattle.sym_refs.proofs.Lookup.{item_there}
use Rattle.sym_refs.proofs.Steps.{first_low, first_name, first_none}

-- the flag that a record's first byte gives tells its kind
flag_kind : (kind : Kind) → flagged (eqb (kind_byte kind) 0x42) ≡ kind
unfolding flagged kind_byte
flag_kind constant = refl
flag_kind bootstrap = refl

module _ (s p : List ℕ) (t : Store) (work : Work s p) (g : AllNames (size p NAME-HEADS) s t) (i at : ℕ) (low : i < size p NAME-GOALS) (place : at ≡ get_or (t NAME-PLACES) i 0) where
  m : Room s p
  m = room s p work

  below : i < name_count t
  below = omega (arith, m.name_goals, g.1)

  there : (x : Naming) × (get_elem? (namings_in s) i ≡ some x) × NamingAt s at x
  there = item_there (size p NAME-HEADS) s (t NAME-PLACES) (t NAME-HEADS) (t NAME-LINKS) (name_count t) g.0 i at below place

  abbrev x : Naming
  x = there.0

  stands : NamingThere s at x
  stands = naming_there s at x there.2

  pub first_inside : at + 1 < length s
  first_inside = (naming_room s at (x, there.2)).0

  pub first_name_stands : Stands short_name s (at + 1)
  first_name_stands = (x.label, stands.mid, stands.label)

  module _ (r : Stretch) (spans : WhatStands short_name s (at + 1) (λ l next. Spans s r l × (r.end ≡ next))) where
    ending : r.end ≡ stands.mid
    ending = (spans x.label stands.mid stands.label).1

    pub first_reference-stands : ReferenceStands s r.end
    first_reference-stands = rw ending (x.kind, (x.target, stands.next, stands.target))

    module _ (b : ℕ) (byte : b ≡ get_or s at 0) (word : ℕ) (told : WhatStands (reference (flagged (eqb b 0x42))) s r.end (λ a next. CitedIn s a → WordFor s a word)) where
      kind-told : flagged (eqb b 0x42) ≡ x.kind
      kind-told = ap (λ (n : ℕ). flagged (eqb n 0x42)) (byte ∙ stands.first) ∙ flag_kind x.kind

      worded : WordFor s x.target word
      worded = told x.target stands.next (rw (kind-told, ending) stands.target) there.2.2

      pub first_is : IsReference s (entries_in s) word
      first_is = worded.1

      same_count : size p NAME-GOALS ≡ name_count t
      same_count = m.name_goals ∙ sym g.1

      pub first_small : word < SYM → First s (size p NAME-GOALS) i word
      first_small small =
          rw same_count
          (first_low (size p NAME-HEADS) s (t NAME-PLACES) (t NAME-HEADS) (t NAME-LINKS) (name_count t) g.1 g.0 i x there.1 below word worded.0 small
          (inl (low_word s (entries_in s) word first_is small)))

      module _ (link : ℕ) (f : Sought (NamedBy s (reference_word s (constants_in s) word)) (name_count t) link) where
        pub first_undefined : SYM ≤ word → link ≡ 0 → First s (size p NAME-GOALS) i (REFUSED + 12)
        first_undefined large z =
            rw same_count
            (first_none (size p NAME-HEADS) s (t NAME-PLACES) (t NAME-HEADS) (t NAME-LINKS) (name_count t) g.1 g.0 i x there.1 below word worded.0 link f
            (omega (arith, m.both, m.entries)) large z)

        pub first_named : (j : ℕ) → link ≡ j + 1 → First s (size p NAME-GOALS) i (NAME + j)
        first_named j e =
            let same : NAME + j ≡ NAME + link - 1 = omega arith in
            rw (same, same_count)
            (first_name (size p NAME-HEADS) s (t NAME-PLACES) (t NAME-HEADS) (t NAME-LINKS) (name_count t) g.1 g.0 i x there.1 below word worded.0 link f
            (omega arith))
