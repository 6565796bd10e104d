-- Building gives slots to constants only: what is so of every node that may be given a slot stays so. Assumes nothing.
use mathlib.Core.Bool.{Bool, false}
use mathlib.Core.List.{List, [], ◌∷◌, reverse}
use mathlib.Core.Option.{Option, none, some}
use mathlib.Core.Path.{◌≡◌, sym, subst}
use Prim.Native.Nat.{ℕ, zero, suc, ◌-◌}
use lib.Dec.{eqb, ltb}
use lib.ListN.{get_elem?}
use borrow.Author.Tests.{eqb-true, eqb-false, ltb-false}
use Rattle.definition.specs.Settings.{known}
use Rattle.definition.specs.Basics.{good, unless, at_record}
use Rattle.definition.specs.Shapes.{bootstrap_tag}
use Rattle.definition.specs.Definitions.{tag_at}
use Rattle.definition.specs.Resolving.{Node, first_node}
use Rattle.definition.specs.Building.{Pool, allocate, slot_of, slots_of, Row, Rows, row_index, Made, kids_of, node_number, child_number, child_numbers, finish, with_pending, drain, raw_rows, build_all}
use Rattle.facts.proofs.Each.{Each, each_reverse}
use Rattle.facts.proofs.Results.{bad≢good, good_inj, good_then, decided, at_record-good}
use Rattle.laws.proofs.Resolving.NodesAndChildren.{Constant, ConstantChild, BootstrapKids}
use Rattle.laws.proofs.Slots.SlotRequest.{Met, old, new, met}

module _ (nodes : List Node) (bootstraps : BootstrapKids nodes) where
  -- all that was given a slot is a constant
  abbrev pub Given : Pool → Type 0
  Given p = Each (λ r. Constant nodes r.0) p.given

  pub allocate-given : (ldc : Bool) (k s : ℕ) (p p' : Pool) → Constant nodes k → allocate nodes ldc k p ≡ good (s, p') → Given p → Given p'
  allocate-given ldc k s p p' c e h = go (met nodes ldc k s p p' e)
    where
      go : Met nodes ldc k p s p' → Given p'
      go (old _ same) = subst Given (sym same) h
      go (new slots _ _ same) = subst Given (sym same) (c, h)

  pub slot_of-given : (ldc : Bool) (child : ℕ) (p : Pool) (r : ℕ × Pool) → ConstantChild nodes child → slot_of nodes ldc child p ≡ good r → Given p → Given r.1
  unfolding slot_of
  slot_of-given ldc child p r c e h =
      decided (ltb child first_node) _ _ (good r) e
      (λ t e. subst (λ x. Given x.1) (good_inj e) h)
      (λ t e. allocate-given ldc (child - first_node) r.0 p r.1 (c (ltb-false child first_node t)) e h)

  slots_of-given : (children : List ℕ) (p : Pool) (r : List ℕ × Pool) → Each (ConstantChild nodes) children → slots_of nodes children p ≡ good r → Given p → Given r.1
  unfolding slots_of
  slots_of-given [] p r c e h = subst (λ x. Given x.1) (good_inj e) h
  slots_of-given (child ∷ children) p r c e h =
      good_then (at_record (child - first_node) (slot_of nodes false child p)) _ r e λ a here e₁.
      good_then (slots_of nodes children a.1) _ r e₁ λ rest there e₂.
      subst (λ x. Given x.1) (good_inj e₂) (slots_of-given children a.1 rest c.1 there (slot_of-given false child p a c.0 (at_record-good _ _ _ here) h))

  node_number-given : (k : ℕ) (p : Pool) (rows : Rows) (r : ℕ × Pool × Rows) → node_number nodes k p rows ≡ good r → Given p → Given r.1
  unfolding node_number
  node_number-given k p rows r e h =
      decided (eqb (tag_at nodes k) bootstrap_tag) _ _ (good r) e
      (λ t e.
      good_then (slots_of nodes (kids_of nodes k) p) _ r e λ a here e₁.
      good_then (at_record k (row_index a.0 rows)) _ r e₁ λ i there e₂.
      subst (λ x. Given x.1) (good_inj e₂) (slots_of-given (kids_of nodes k) p a (bootstraps k (eqb-true (tag_at nodes k) bootstrap_tag t)) here h))
      (λ t e.
      good_then (at_record k (allocate nodes false k p)) _ r e λ a here e₁.
      subst (λ x. Given x.1) (good_inj e₁) (allocate-given false k a.0 p a.1 (eqb-false (tag_at nodes k) bootstrap_tag t) (at_record-good _ _ _ here) h))

  child_number-given : (child : ℕ) (p : Pool) (rows : Rows) (r : ℕ × Pool × Rows) → child_number nodes child p rows ≡ good r → Given p → Given r.1
  unfolding child_number
  child_number-given child p rows r e h =
      decided (ltb child first_node) _ _ (good r) e
      (λ t e. subst (λ x. Given x.1) (good_inj e) h)
      (λ t e. node_number-given (child - first_node) p rows r e h)

  child_numbers-given : (children : List ℕ) (p : Pool) (rows : Rows) (r : List ℕ × Pool × Rows) → child_numbers nodes children p rows ≡ good r → Given p → Given r.1
  unfolding child_numbers
  child_numbers-given [] p rows r e h = subst (λ x. Given x.1) (good_inj e) h
  child_numbers-given (child ∷ children) p rows r e h =
      good_then (child_number nodes child p rows) _ r e λ a here e₁.
      good_then (child_numbers nodes children a.1 a.2) _ r e₁ λ rest there e₂.
      subst (λ x. Given x.1) (good_inj e₂) (child_numbers-given children a.1 a.2 rest there (child_number-given child p rows a here h))

  finish-given : (s : ℕ) (m m' : Made) (o : Option Node) → finish nodes s m o ≡ good m' → Given m.pool → Given m'.pool
  unfolding finish
  finish-given s m m' none e h = subst (λ x. Given x.pool) (good_inj e) h
  finish-given s m m' (some n) e h =
      good_then (child_numbers nodes n.kids m.pool m.rows) _ m' e λ r here e₁.
      subst (λ x. Given x.pool) (good_inj e₁) (child_numbers-given n.kids m.pool m.rows r here h)

  drain-given : (fuel : ℕ) (pending : List (ℕ × ℕ)) (m m' : Made) → drain fuel nodes pending m ≡ good m' → Given m.pool → Given m'.pool
  unfolding drain with_pending
  drain-given zero [] m m' e h = subst (λ x. Given x.pool) (good_inj e) h
  drain-given zero (top ∷ pending) m m' e h = bad≢good e
  drain-given (suc fuel) [] m m' e h = subst (λ x. Given x.pool) (good_inj e) h
  drain-given (suc fuel) (top ∷ pending) m m' e h =
      good_then (at_record top.1 (unless (known m.pool.version (tag_at nodes top.1)) 24)) _ m' e λ _ _ e.
      good_then (finish nodes top.0 (with_pending pending m) (get_elem? nodes top.1)) _ m' e λ r here e₁.
      drain-given fuel r.pool.pending r m' e₁ (finish-given top.0 (with_pending pending m) r (get_elem? nodes top.1) here h)

  raw_rows-given :
      (falling : List (ℕ × ℕ)) (p : Pool) (rows : List (ℕ × Row)) (r : List (ℕ × Row) × Pool) →
      Each (λ x. tag_at nodes x.1 ≡ bootstrap_tag) falling →
      raw_rows nodes falling p rows ≡ good r →
      Given p →
      Given r.1
  unfolding raw_rows
  raw_rows-given [] p rows r b e h = subst (λ x. Given x.1) (good_inj e) h
  raw_rows-given (x ∷ falling) p rows r b e h =
      good_then (slots_of nodes (kids_of nodes x.1) p) _ r e λ row here e₁.
      raw_rows-given falling row.1 ((x.0, row.0) ∷ rows) r b.1 e₁ (slots_of-given (kids_of nodes x.1) p row (bootstraps x.1 b.0) here h)

  -- so building gives slots to constants only, if raw bootstraps are bootstraps
  pub build_all-given :
      (indexes : List (ℕ × ℕ)) (p : Pool) (m : Made) →
      Each (λ x. tag_at nodes x.1 ≡ bootstrap_tag) indexes →
      build_all nodes indexes p ≡ good m →
      Given p →
      Given m.pool
  unfolding build_all
  build_all-given indexes p m b e h =
      good_then (raw_rows nodes (reverse indexes) p []) _ m e λ r here e₁.
      drain-given _ r.1.pending _ m e₁ (raw_rows-given (reverse indexes) p [] r (each_reverse (λ x. tag_at nodes x.1 ≡ bootstrap_tag) indexes [] b tt) here h)
