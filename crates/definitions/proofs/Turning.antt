-- The references of an entry are read one by one, each as its word. Assumes nothing.
use mathlib.Core.Bool.{Bool, true, false, ◌&&◌, ◌||◌}
use mathlib.Core.List.{List}
use mathlib.Core.Logic.{⊎_elim}
use mathlib.Core.Option.{some}
use mathlib.Core.Path.{◌≡◌, refl, sym, ap, subst, ◌∙◌}
use Prim.Native.Nat.{ℕ, zero, suc, ◌+◌, ◌<◌}
use native.Mathlib.Numerals.{add-one}
use native.Mathlib.Omega.{arith}
use lib.Dec.{eqb}
use lib.ListN.{length, get_or, get_elem?, drop, set}
use lib.Seq.{get_or-set_same, get_or-set_other}
use borrow.Author.Tests.{ne_eqb}
use Rattle.definition.specs.Shapes.{constant, bootstrap, Entry}
use Rattle.definition.specs.Job.{Reference, define, reference}
use Rattle.definition.specs.Form.{kind_of}
use Rattle.facts.proofs.Lists.{some_inj, inside_found, equal}
use Rattle.job.specs.Stored.{Found, WhatStands, ReferenceStands, WhatReference, WhatEntry, any_definition, kid_kind, bytes_between, first_place, KidsTurn}
use Rattle.job.proofs.Endings.{kind_if, kids_there, first_kind}
use Rattle.store.specs.Store.{Store, put, IsWord}
use Rattle.store.specs.JobIn.{constants_in, entries_in}
use Rattle.store.specs.Regions.{GOALS}
use Rattle.store.specs.Words.{reference_word, IsReference}
use Rattle.sym_refs.specs.Names.{CitedIn}
use Rattle.sym_refs.specs.Leading.{flagged, WordFor}
use Rattle.definitions.proofs.Prefixes.{drop-next, drop_all}
use Rattle.definitions.specs.Kids.{gap_after, Referred, ReadSoFar, HasKids}

-- which kind a reference is of, and how many bytes stand behind it, as the code asks
pub kind-asked : (tag i : ℕ) → kid_kind tag 0 ≡ kind_if (eqb tag 17 || eqb tag 18) → kid_kind tag i ≡ kind_if ((eqb tag 17 || eqb tag 18) && eqb i 0)
unfolding kid_kind kind_if
kind-asked tag zero e = e ∙ ap kind_if (sym (and-true (eqb tag 17 || eqb tag 18)))
  where
    and-true : (b : Bool) → (b && true) ≡ b
    and-true true = refl
    and-true false = refl
kind-asked tag (suc i) e = rw (ne_eqb (suc i) 0 (λ z. absurd (omega arith))) (ap kind_if (sym (and-false (eqb tag 17 || eqb tag 18))))
  where
    and-false : (b : Bool) → (b && false) ≡ false
    and-false true = refl
    and-false false = refl

pub gap_asked : (tag i : ℕ) → bytes_between (kind_of tag) i ≡ gap_after (eqb tag 64 && eqb i 0)
unfolding kind_of bytes_between gap_after
gap_asked tag i = ways (eqb tag 64) i
  where
    ways : (b : Bool) (i : ℕ) → bytes_between (elim b [ true ↦ bootstrap | false ↦ constant ]) i ≡ gap_after (b && eqb i 0)
    ways true zero = refl
    ways true (suc i) = rw (ne_eqb (suc i) 0 (λ z. absurd (omega arith)))
    ways false zero = refl
    ways false (suc i) = refl

module _ (s : List ℕ) (t : Store) (first : ℕ) (x : Entry (List ℕ) Reference) (next : ℕ) where
  pub read_begin : (at from : ℕ) → Found any_definition s at (define x) next → 0 < length x.kids → from ≡ first_place x.tag at → ReadSoFar s t t first 0 from x next
  read_begin at from f more e = rw e (record { turn = kids_there s at x next f more; goals = record { words = λ i r l. absurd (omega arith); below = λ j l. refl } })

  -- the reference in turn
  module _ (u : Store) (i from : ℕ) (far : ReadSoFar s t u first i from x next) (more : i < length x.kids) where
    pub in_turn : (r : Reference) × (get_elem? x.kids i ≡ some r) × ((behind : ℕ) × Found (reference (kid_kind x.tag i)) s from r behind × KidsTurn s x.tag (suc i) (behind + bytes_between (kind_of x.tag) i) (drop (suc i) x.kids) next)
    in_turn =
        let g = inside_found x.kids i more in
        (g.0, g.1, rw (drop-next x.kids i g.0 g.1) at far.turn)

    pub read_next :
        (word r : ℕ) → first + i < length (u GOALS) →
        ((a : Reference) (behind : ℕ) → Found (reference (kid_kind x.tag i)) s from a behind → get_elem? x.kids i ≡ some a → (reference_word s (constants_in s) word ≡ a) × IsReference s (entries_in s) word) →
        WhatReference s from (λ kind a behind. r ≡ behind + gap_after (eqb x.tag 64 && eqb i 0)) →
        ReadSoFar s t (put u GOALS (first + i) word) first (i + 1) r x next
    read_next word r room says place =
        let g = in_turn in
        let a = g.0 in
        let told = says a g.2.0 g.2.1 g.1 in
        let here = place (kid_kind x.tag i) a g.2.0 g.2.1 in
        rw (add-one i)
        (record {
          turn = rw (here, ← gap_asked x.tag i) g.2.2;
          goals = record { words = words a g.1 told; below = λ j l. get_or-set_other (u GOALS) (first + i) j word 0 (λ e. omega arith) ∙ far.goals.below j l };
        })
      where
        words :
            (a : Reference) → get_elem? x.kids i ≡ some a → (reference_word s (constants_in s) word ≡ a) × IsReference s (entries_in s) word →
            (j : ℕ) (b : Reference) → j < suc i → get_elem? x.kids j ≡ some b →
            (reference_word s (constants_in s) (get_or (set (u GOALS) (first + i) word) (first + j) 0) ≡ b) × IsReference s (entries_in s) (get_or (set (u GOALS) (first + i) word) (first + j) 0)
        words a at_i told j b l e =
            ⊎_elim
            (λ (q : j ≡ i).
            let same : a ≡ b = some_inj (sym at_i ∙ ap (get_elem? x.kids) (sym q) ∙ e) in
            rw (q, get_or-set_same (u GOALS) (first + i) word 0 room, ← same) told)
            (λ (q : j ≡ i → ⊥).
            rw (get_or-set_other (u GOALS) (first + i) (first + j) word 0 (λ z. q (omega arith))) (far.goals.words j b (omega arith) e))
            (equal j i)

  pub read_end : (u : Store) (n from : ℕ) → n ≡ length x.kids → ReadSoFar s t u first n from x next → (from ≡ next) × Referred s (t GOALS) (u GOALS) first n x.kids
  read_end u n from e far = (rw (drop_all x.kids n (omega arith)) at far.turn, far.goals)

pub reading_begin :
    (s : List ℕ) (t : Store) (at n first from tag : ℕ) → WhatEntry s at (λ e. tag ≡ e.tag) → 0 < n → from ≡ first_place tag at →
    (x : Entry (List ℕ) Reference) (next : ℕ) → HasKids s at n x next → ReadSoFar s t t first 0 from x next
reading_begin s t at n first from tag is more e x next kids =
    read_begin s t first x next at from kids.stands (omega (arith, kids.count)) (e ∙ ap (λ k. first_place k at) (is x next kids.stands))

-- the code's step, from what its readers ensure
module _ (s : List ℕ) (t u : Store) (at n first i from tag : ℕ) (is : WhatEntry s at (λ e. tag ≡ e.tag)) (x : Entry (List ℕ) Reference) (next : ℕ) (kids : HasKids s at n x next)
    (far : ReadSoFar s t u first i from x next) (more : i < n) where
  inside : i < length x.kids
  inside = omega (arith, kids.count)

  pub kid_stands : ReferenceStands s from
  kid_stands = let g = in_turn s t first x next u i from far inside in (kid_kind x.tag i, (g.0, g.2.0, g.2.1))

  flagged-is : (b : Bool) → kind_if b ≡ flagged b
  unfolding kind_if flagged
  flagged-is true = refl
  flagged-is false = refl

  pub kid_read :
      (word r : ℕ) → first + i < length (u GOALS) →
      WhatStands (reference (flagged ((eqb tag 17 || eqb tag 18) && eqb i 0))) s from (λ a next. CitedIn s a → WordFor s a word) →
      WhatReference s from (λ kind a behind. r ≡ behind + gap_after (eqb tag 64 && eqb i 0)) →
      ReadSoFar s t (put u GOALS (first + i) word) first (i + 1) r x next
  kid_read word r room says place =
      read_next s t first x next u i from far inside word r room told
      (subst (λ k. WhatReference s from (λ kind a behind. r ≡ behind + gap_after (eqb k 64 && eqb i 0))) (is x next kids.stands) place)
    where
      kind-is : kid_kind x.tag i ≡ flagged ((eqb tag 17 || eqb tag 18) && eqb i 0)
      kind-is =
          kind-asked x.tag i (first_kind s at x next kids.stands)
          ∙ flagged-is ((eqb x.tag 17 || eqb x.tag 18) && eqb i 0)
          ∙ ap (λ k. flagged ((eqb k 17 || eqb k 18) && eqb i 0)) (sym (is x next kids.stands))

      told : (a : Reference) (behind : ℕ) → Found (reference (kid_kind x.tag i)) s from a behind → get_elem? x.kids i ≡ some a → (reference_word s (constants_in s) word ≡ a) × IsReference s (entries_in s) word
      told a behind f h = let g = says a behind (rw kind-is at f) (kids.cited i a h) in (g.0, g.1)

  pub word_small : (word : ℕ) → WhatStands (reference (flagged ((eqb tag 17 || eqb tag 18) && eqb i 0))) s from (λ a next. CitedIn s a → WordFor s a word) → IsWord word
  word_small word says =
      let g = in_turn s t first x next u i from far inside in
      let kind-is = kind-asked x.tag i (first_kind s at x next kids.stands) ∙ flagged-is ((eqb x.tag 17 || eqb x.tag 18) && eqb i 0) ∙ ap (λ k. flagged ((eqb k 17 || eqb k 18) && eqb i 0)) (sym (is x next kids.stands)) in
      (says g.0 g.2.0 (rw kind-is at g.2.1) (kids.cited i g.0 g.1)).2
