-- The number of a child: a bootstrap's index, or a slot. Assumes nothing.
use mathlib.Core.Bool.{Bool, true, false}
use mathlib.Core.List.{List}
use mathlib.Core.Logic.{⊎_elim}
use mathlib.Core.Path.{◌≡◌, sym, ◌∙◌}
use Prim.Native.Nat.{ℕ, ◌+◌, ◌-◌, ◌≤◌, ◌<◌}
use native.Mathlib.Omega.{arith}
use lib.Dec.{leb}
use lib.ListN.{length, get_or}
use borrow.Author.Tests.{leb-true, le-leb, lt-leb}
use Rattle.facts.proofs.Lists.{both_true, order}
use Rattle.interner.specs.Nodes.{node_count}
use Rattle.store.specs.Store.{Store, size}
use Rattle.store.specs.Regions.{GIVEN, INDEXES, NODES}
use Rattle.store.specs.Words.{ENTRY, child_slot}
use Rattle.rows.specs.Rowed.{constants_of, RowRoom, KidsIn, IsBootstrapIn, index_word_lem, is_bootstrap, number_of, HasNumber}
use Rattle.rows.proofs.Reading.{kids_at_lem}

module _ (p : List ℕ) (t : Store) (child : ℕ) where
  pub not-boot : child < ENTRY → false ≡ is_bootstrap p t child
  not-boot h = rw (lt-leb ENTRY child h)

  pub boot_test : (n x : ℕ) → ENTRY ≤ child → n ≡ constants_of p → x ≡ get_or (t NODES) (child - ENTRY) 0 → leb n x ≡ is_bootstrap p t child
  boot_test n x h e q = rw (le-leb ENTRY child h, e, q)

  module _ (r : Bool) (told : r ≡ is_bootstrap p t child) where
    module _ (yes : r ≡ true) where
      tests : (leb ENTRY child ≡ true) × (leb (constants_of p) (get_or (t NODES) (child - ENTRY) 0) ≡ true)
      tests = both_true (leb ENTRY child) (leb (constants_of p) (get_or (t NODES) (child - ENTRY) 0)) (sym told ∙ yes)

      pub boot_node : ENTRY ≤ child
      boot_node = leb-true ENTRY child tests.0

      pub boot_is : RowRoom p → KidsIn p t → child < ENTRY + node_count t → length (t INDEXES) ≡ size p INDEXES → IsBootstrapIn p t (child - ENTRY)
      boot_is room kids low long =
          let made : child - ENTRY < node_count t = omega (arith, boot_node) in
          let behind = leb-true (constants_of p) (get_or (t NODES) (child - ENTRY) 0) tests.1 in
          record { made = made; behind = behind; inside = omega (arith, (kids_at_lem p t room kids (child - ENTRY) made).entry, room.indexes) }

      pub number-there : HasNumber p t child → 0 < index_word_lem p t (child - ENTRY)
      unfolding HasNumber
      number-there h = h (sym told ∙ yes)

      pub number-boot : (x : ℕ) → x ≡ index_word_lem p t (child - ENTRY) → x - 1 ≡ number_of p t child
      unfolding number_of
      number-boot x e = rw (sym told ∙ yes, number_of, e)

    pub number-slot : r ≡ false → (x : ℕ) → x ≡ child_slot (t GIVEN) child → x ≡ number_of p t child
    unfolding number_of
    number-slot not x e = rw (sym told ∙ not, number_of) e

  pub slot-inside : RowRoom p → KidsIn p t → child < ENTRY + node_count t → child < ENTRY + size p GIVEN
  slot-inside room kids low =
      ⊎_elim
      (λ (h : child < ENTRY). omega arith)
      (λ (h : ENTRY ≤ child). omega (arith, (kids_at_lem p t room kids (child - ENTRY) (omega arith)).node, room.given))
      (order child ENTRY)

  -- what a caller shows
  pub has_number : (is_bootstrap p t child ≡ true → 0 < index_word_lem p t (child - ENTRY)) → HasNumber p t child
  unfolding HasNumber
  has_number h = h
