-- Places in an entry as the code computes them. Assumes nothing.
use mathlib.Core.Bool.{Bool, true, false}
use mathlib.Core.List.{List}
use mathlib.Core.Path.{◌≡◌, ap, ◌∙◌}
use Prim.Native.Nat.{ℕ, ◌+◌, ◌≤◌}
use native.Mathlib.Nat.{add-zero}
use lib.ListN.{length}
use borrow.Author.Tests.{ne_eqb}
use Rattle.definition.specs.Shapes.{Kind, Entry, is_wide}
use Rattle.definition.specs.Job.{Reference, define, named, short_name}
use Rattle.job.specs.Stored.{Found, Stands, WhatStands, ReferenceStands, WhatReference, WhatEntry, any_definition, is_worked, first_place}
use Rattle.job.proofs.Laws.{number}
use Rattle.job.proofs.Endings.{literal_end, literal_there, naming_there}
use Rattle.store.specs.Regions.{Work}
use Rattle.store.proofs.Laying.{work-formed}
use Rattle.store.proofs.Bounds.{formed_short}
use Rattle.definitions.specs.Kids.{gap_after}

pub first_yes : (tag at : ℕ) → tag ≡ 15 → at + 2 ≡ first_place tag at
unfolding first_place
first_yes tag at e = rw e

pub first_no : (tag at : ℕ) → (tag ≡ 15 → ⊥) → at + 1 ≡ first_place tag at
unfolding first_place
first_no tag at n = rw (ne_eqb tag 15 n, first_place)

module _ (s : List ℕ) (at behind : ℕ) (after : WhatReference s at (λ kind a next. behind ≡ next)) (counted : Bool) where
  pub behind-yes : counted ≡ true → WhatReference s at (λ kind a next. behind + 2 ≡ next + gap_after counted)
  unfolding gap_after
  behind-yes e kind a next f = rw (e, after kind a next f)

  pub behind-no : counted ≡ false → WhatReference s at (λ kind a next. behind ≡ next + gap_after counted)
  unfolding gap_after
  behind-no e kind a next f = rw (e, after kind a next f, add-zero next)

-- behind an entry without references
abbrev pub Behind : List ℕ → ℕ → ℕ → Type 0
Behind s at r = (x : Entry (List ℕ) Reference) (next : ℕ) → Found any_definition s at (define x) next → length x.kids ≡ 0 → r ≡ next

module _ (s : List ℕ) (at tag : ℕ) (is : WhatEntry s at (λ e. tag ≡ e.tag)) (plain : is_worked s at ≡ false) where
  ended : (r : ℕ) → r ≡ literal_end s at tag → Behind s at r
  ended r e x next f bare = e ∙ ap (literal_end s at) (is x next f) ∙ literal_there s at x next f plain bare

  pub text_end : tag ≡ 1 → Behind s at (at + 3 + number s (at + 1))
  unfolding literal_end
  text_end e = ended _ (rw e)

  pub wide_end : (tag ≡ 1 → ⊥) → is_wide tag ≡ true → Behind s at (at + 9)
  unfolding literal_end
  wide_end other wide = ended _ (rw (ne_eqb tag 1 other, literal_end, wide))

  pub narrow_end : (tag ≡ 1 → ⊥) → is_wide tag ≡ false → Behind s at (at + 5)
  unfolding literal_end
  narrow_end other narrow = ended _ (rw (ne_eqb tag 1 other, literal_end, narrow))

-- a place of a well-formed job
pub place_short : (s p : List ℕ) → Work s p → length s ≤ 1048576
place_short s p h = formed_short s (work-formed s p h)

-- behind a naming
module _ (s : List ℕ) (at : ℕ) where
  pub label_stands : (kind : Kind) (l : List ℕ) (r : Reference) (next : ℕ) → Found any_definition s at (named kind l r) next → Stands short_name s (at + 1)
  label_stands kind l r next f = let n = naming_there s at kind l r next f in (l, n.mid, n.label)

  module _ (end : ℕ) (after : WhatStands short_name s (at + 1) (λ l next. end ≡ next)) where
    pub target_stands : (kind : Kind) (l : List ℕ) (r : Reference) (next : ℕ) → Found any_definition s at (named kind l r) next → ReferenceStands s end
    target_stands kind l r next f = let n = naming_there s at kind l r next f in (kind, (r, next, rw (after l n.mid n.label) n.target))

    pub target_end : (result : ℕ) → WhatReference s end (λ kind a next. result ≡ next) → (kind : Kind) (l : List ℕ) (r : Reference) (next : ℕ) → Found any_definition s at (named kind l r) next → result ≡ next
    target_end result g kind l r next f = let n = naming_there s at kind l r next f in g kind r next (rw (after l n.mid n.label) n.target)
