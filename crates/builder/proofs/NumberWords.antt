-- The number of a child is the same by the words, by the outputs and by what building leaves. Assumes nothing.
use mathlib.Core.List.{List, map}
use mathlib.Core.Logic.{⊎_elim}
use mathlib.Core.Option.{some}
use mathlib.Core.Path.{◌≡◌, refl, sym, ap, ◌∙◌}
use Prim.Native.Nat.{ℕ, zero, suc, ◌+◌, ◌-◌, ◌≤◌, ◌<◌}
use native.Mathlib.Omega.{arith}
use lib.ListN.{length, get_or}
use borrow.Author.Tests.{lt-ltb, le-ltb, le-leb, eq-eqb}
use Rattle.definition.specs.Basics.{lookup}
use Rattle.definition.specs.Shapes.{bootstrap_tag}
use Rattle.definition.specs.Definitions.{tag_at}
use Rattle.definition.specs.Building.{Rows, index_of, kids_of}
use Rattle.facts.proofs.Lists.{order, map_same}
use Rattle.store.specs.Store.{Store, size}
use Rattle.store.specs.JobIn.{constants_in}
use Rattle.store.specs.Regions.{GIVEN, INDEXES, NODES}
use Rattle.store.specs.Words.{ENTRY, child_slot}
use Rattle.store.proofs.Bounds.{work-constants}
use Rattle.interner.specs.Nodes.{node_count, nodes_in}
use Rattle.rows.specs.Rowed.{RowedIn, row_at, row_in, constants_of, index_word_lem, HasNumber}
use Rattle.pool.specs.Pooled.{slot_word, NodesThere}
use Rattle.output.specs.Contents.{number_in}
use Rattle.output.proofs.Numbers.{slot-raw, slot-node, number_raw, number-slot, number-index}
use Rattle.laws.proofs.Building.ExactNumbers.{or_zero, slot_given, number_given}
use Rattle.builder.proofs.NodeWords.{kids_in, kids_in_lem, tag-constant, tag-bootstrap}

or_slot : (n : ℕ) → or_zero (slot_word n) ≡ n
unfolding or_zero slot_word
or_slot zero = refl
or_slot (suc n) = refl

module _ (given : List (ℕ × ℕ)) (words : List ℕ) (told : (k : ℕ) → lookup k given ≡ slot_word (get_or words k 0)) where
  pub given_is : (k : ℕ) → or_zero (lookup k given) ≡ get_or words k 0
  given_is k = ap or_zero (told k) ∙ or_slot (get_or words k 0)

  pub slot_same : (x : ℕ) → slot_given given x ≡ child_slot words x
  unfolding slot_given
  slot_same x =
      ⊎_elim
      (λ (h : x < ENTRY). (rw (lt-ltb x ENTRY h, slot_given)) ∙ sym (slot-raw words x h))
      (λ (h : ENTRY ≤ x). (rw (le-ltb x ENTRY h, slot_given) (given_is (x - ENTRY))) ∙ sym (slot-node words x h))
      (order x ENTRY)

module _
    (s p : List ℕ) (t : Store) (there : NodesThere s p t) (long : length (t NODES) ≡ size p NODES)
    (given : List (ℕ × ℕ)) (told : (k : ℕ) → lookup k given ≡ slot_word (get_or (t GIVEN) k 0)) (rows : Rows) (rowed : RowedIn p rows t) where
  -- a bootstrap's row, as the definition has it
  pub row_same : (k : ℕ) → k < node_count t → map (slot_given given) (kids_of (nodes_in s t) k) ≡ row_in t k
  unfolding row_at
  row_same k low =
      ap (map (slot_given given)) (kids_in_lem s p t there long k low)
      ∙ map_same (slot_given given) (child_slot (t GIVEN)) (kids_in s p t there long k low) (λ x a. slot_same given (t GIVEN) told x)

  module _ (x : ℕ) (node : ENTRY ≤ x) (low : x < ENTRY + node_count t) where
    inside : x - ENTRY < node_count t
    inside = omega (arith, node)

    number-constant : get_or (t NODES) (x - ENTRY) 0 < constants_in s → number_given (nodes_in s t) given rows.inline x ≡ get_or (t GIVEN) (x - ENTRY) 0
    unfolding number_given
    number-constant l =
        rw (le-ltb x ENTRY node, number_given) (rw (tag-constant s p t there long (x - ENTRY) inside l) (given_is given (t GIVEN) told (x - ENTRY)))

    pub index_word : constants_in s ≤ get_or (t NODES) (x - ENTRY) 0 → HasNumber p t x → 0 < index_word_lem p t (x - ENTRY)
    unfolding HasNumber
    index_word l has =
        has (rw (le-leb ENTRY x node) (le-leb (constants_of p) (get_or (t NODES) (x - ENTRY) 0) (omega (arith, l, (work-constants s p there.0).1))))

    -- the index that a bootstrap has is that of an inline row
    pub index-there :
        constants_in s ≤ get_or (t NODES) (x - ENTRY) 0 → HasNumber p t x →
        index_of (row_in t (x - ENTRY)) rows.inline ≡ some (index_word_lem p t (x - ENTRY) - 1)
    index-there l has =
        ap (index_of (row_in t (x - ENTRY))) rowed.items
        ∙ rowed.words.inlined.has (get_or (t NODES) (x - ENTRY) 0) (omega (arith, l, (work-constants s p there.0).1)) (index_word l has)

    number-boot : constants_in s ≤ get_or (t NODES) (x - ENTRY) 0 → HasNumber p t x → number_given (nodes_in s t) given rows.inline x ≡ index_word_lem p t (x - ENTRY) - 1
    unfolding number_given or_zero
    number-boot l has =
        rw (le-ltb x ENTRY node, number_given)
        (rw (eq-eqb (tag_at (nodes_in s t) (x - ENTRY)) bootstrap_tag (tag-bootstrap s p t there long (x - ENTRY) inside l))
        (ap (λ row. or_zero (index_of row rows.inline)) (row_same (x - ENTRY) inside) ∙ ap or_zero (index-there l has)))

  pub number_same :
      (x : ℕ) → x < ENTRY + node_count t → HasNumber p t x → number_given (nodes_in s t) given rows.inline x ≡ number_in s t x
  unfolding number_given
  number_same x low has =
      ⊎_elim
      (λ (h : x < ENTRY). (rw (lt-ltb x ENTRY h, number_given)) ∙ sym (number_raw (constants_in s) (t GIVEN) (t INDEXES) (t NODES) x h))
      (λ (h : ENTRY ≤ x).
      ⊎_elim
      (λ (l : get_or (t NODES) (x - ENTRY) 0 < constants_in s).
      number-constant x h low l ∙ sym (number-slot (constants_in s) (t GIVEN) (t INDEXES) (t NODES) x (get_or (t NODES) (x - ENTRY) 0) refl h l))
      (λ (l : constants_in s ≤ get_or (t NODES) (x - ENTRY) 0).
      number-boot x h low l has
      ∙ ap (λ c. get_or (t INDEXES) (get_or (t NODES) (x - ENTRY) 0 - c) 0 - 1) (work-constants s p there.0).1
      ∙ sym (number-index (constants_in s) (t GIVEN) (t INDEXES) (t NODES) x (get_or (t NODES) (x - ENTRY) 0) refl h l))
      (order (get_or (t NODES) (x - ENTRY) 0) (constants_in s)))
      (order x ENTRY)
