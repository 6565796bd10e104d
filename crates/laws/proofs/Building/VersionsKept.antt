-- Record 50 hands on the version that constants are held to, and slots given and children numbered leave it. Assumes nothing.
use mathlib.Core.Bool.{Bool, false, ◌||◌, not}
use mathlib.Core.List.{List, [], ◌∷◌, ◌++◌, map}
use mathlib.Core.Path.{◌≡◌, refl, ap, subst, ◌∙◌}
use Prim.Native.Nat.{ℕ, suc, ◌+◌, ◌-◌}
use lib.Dec.{leb, eqb, ltb}
use Rattle.definition.specs.Basics.{good, at_record, unless}
use Rattle.definition.specs.Shapes.{bootstrap_tag, Entry}
use Rattle.definition.specs.Job.{Request}
use Rattle.definition.specs.Definitions.{Naming, Defined, tag_at}
use Rattle.definition.specs.Resolving.{Goal, table_entry, goal_of, Node, first_node, child_of, resolve, resolve_all, nothing_resolved}
use Rattle.definition.specs.Slots.{highest_ldc}
use Rattle.definition.specs.Building.{Pool, Row, Rows, allocate, slot_of, slots_of, row_index, kids_of, node_number, child_number, child_numbers, raw_rows}
use Rattle.definition.specs.Layout.{Ready, starters, end_definitions, answer, answer_all}
use Rattle.facts.proofs.Results.{good_inj, good_then, decided, at_record-good}
use Rattle.laws.proofs.Slots.SlotRequest.{Met, old, new, met}

module _ (nodes : List Node) where
  pub allocate-version : (ldc : Bool) (k : ℕ) (p : Pool) (r : ℕ × Pool) → allocate nodes ldc k p ≡ good r → r.1.version ≡ p.version
  allocate-version ldc k p r e = go (met nodes ldc k r.0 p r.1 e)
    where
      go : Met nodes ldc k p r.0 r.1 → r.1.version ≡ p.version
      go (old found is) = ap (λ (x : Pool). x.version) is
      go (new slots found given is) = ap (λ (x : Pool). x.version) is

  pub slot_of-version : (ldc : Bool) (child : ℕ) (p : Pool) (r : ℕ × Pool) → slot_of nodes ldc child p ≡ good r → r.1.version ≡ p.version
  unfolding slot_of
  slot_of-version ldc child p r e =
      decided (ltb child first_node) (good (child, p)) (allocate nodes ldc (child - first_node) p) (good r) e
      (λ _ h. subst (λ (y : ℕ × Pool). y.1.version ≡ p.version) (good_inj h) refl)
      (λ _ h. allocate-version ldc (child - first_node) p r h)

  slots_of-version : (children : List ℕ) (p : Pool) (r : List ℕ × Pool) → slots_of nodes children p ≡ good r → r.1.version ≡ p.version
  unfolding slots_of
  slots_of-version [] p r e = subst (λ (y : List ℕ × Pool). y.1.version ≡ p.version) (good_inj e) refl
  slots_of-version (child ∷ children) p r e =
      good_then (at_record (child - first_node) (slot_of nodes false child p)) _ r e λ x first e₁.
      good_then (slots_of nodes children x.1) _ r e₁ λ rest others e₂.
      subst (λ (y : List ℕ × Pool). y.1.version ≡ p.version) (good_inj e₂)
      (slots_of-version children x.1 rest others ∙ slot_of-version false child p x (at_record-good (child - first_node) (slot_of nodes false child p) x first))

  pub raw_rows-version :
      (falling : List (ℕ × ℕ)) (p : Pool) (rows : List (ℕ × Row)) (r : List (ℕ × Row) × Pool) →
      raw_rows nodes falling p rows ≡ good r → r.1.version ≡ p.version
  unfolding raw_rows
  raw_rows-version [] p rows r e = subst (λ (y : List (ℕ × Row) × Pool). y.1.version ≡ p.version) (good_inj e) refl
  raw_rows-version (x ∷ falling) p rows r e =
      good_then (slots_of nodes (kids_of nodes x.1) p) _ r e λ row first e₁.
      raw_rows-version falling row.1 ((x.0, row.0) ∷ rows) r e₁ ∙ slots_of-version (kids_of nodes x.1) p row first

  node_number-version : (k : ℕ) (p : Pool) (rows : Rows) (r : ℕ × Pool × Rows) → node_number nodes k p rows ≡ good r → r.1.version ≡ p.version
  unfolding node_number
  node_number-version k p rows r e =
      decided (eqb (tag_at nodes k) bootstrap_tag) _ _ (good r) e
      (λ _ h.
      good_then (slots_of nodes (kids_of nodes k) p) _ r h λ x first e₁.
      good_then (at_record k (row_index x.0 rows)) _ r e₁ λ i _ e₂.
      subst (λ (y : ℕ × Pool × Rows). y.1.version ≡ p.version) (good_inj e₂) (slots_of-version (kids_of nodes k) p x first))
      (λ _ h.
      good_then (at_record k (allocate nodes false k p)) _ r h λ x first e₁.
      subst (λ (y : ℕ × Pool × Rows). y.1.version ≡ p.version) (good_inj e₁) (allocate-version false k p x (at_record-good k (allocate nodes false k p) x first)))

  child_number-version :
      (child : ℕ) (p : Pool) (rows : Rows) (r : ℕ × Pool × Rows) → child_number nodes child p rows ≡ good r → r.1.version ≡ p.version
  unfolding child_number
  child_number-version child p rows r e =
      decided (ltb child first_node) (good (child, p, rows)) (node_number nodes (child - first_node) p rows) (good r) e
      (λ _ h. subst (λ (y : ℕ × Pool × Rows). y.1.version ≡ p.version) (good_inj h) refl)
      (λ _ h. node_number-version (child - first_node) p rows r h)

  pub child_numbers-version :
      (children : List ℕ) (p : Pool) (rows : Rows) (r : List ℕ × Pool × Rows) → child_numbers nodes children p rows ≡ good r →
      r.1.version ≡ p.version
  unfolding child_numbers
  child_numbers-version [] p rows r e = subst (λ (y : List ℕ × Pool × Rows). y.1.version ≡ p.version) (good_inj e) refl
  child_numbers-version (child ∷ children) p rows r e =
      good_then (child_number nodes child p rows) _ r e λ x first e₁.
      good_then (child_numbers nodes children x.1 x.2) _ r e₁ λ rest others e₂.
      subst (λ (y : List ℕ × Pool × Rows). y.1.version ≡ p.version) (good_inj e₂)
      (child_numbers-version children x.1 x.2 rest others ∙ child_number-version child p rows x first)

-- record 50 hands the version on
pub ended_version : (top : ℕ) (table : List (Entry ℕ Goal)) (n : ℕ) (d : Defined) (w : Ready) → end_definitions top table n d ≡ good w → w.pool.version ≡ d.version
unfolding end_definitions
ended_version top table n d w e =
    let goals = map (λ (r : ℕ × ℕ). table_entry r.1) (starters d.held) ++ map (λ (r : ℕ × ℕ). table_entry (n + r.1)) d.indexes in
    good_then (resolve_all table goals (nothing_resolved table)) _ w e λ _ _ h. subst (λ (x : Ready). x.pool.version ≡ d.version) (good_inj h) refl

-- and a request leaves it
pub answer-version : (ldc : Bool) (goal : Goal) (w : Ready) (r : ℕ × Ready) → answer ldc goal w ≡ good r → r.1.pool.version ≡ w.pool.version
unfolding answer
answer-version ldc goal w r e =
    good_then (resolve w.table goal w.resolved) _ r e λ s _ e₁.
    good_then (slot_of s.nodes ldc (child_of s.marks goal) w.pool) _ r e₁ λ a given e₂.
    good_then (unless (not ldc || leb a.0 highest_ldc) 16) _ r e₂ λ _ _ e₃.
    subst (λ (x : ℕ × Ready). x.1.pool.version ≡ w.pool.version) (good_inj e₃)
    (slot_of-version s.nodes ldc (child_of s.marks goal) w.pool a given)

pub answers_version :
    (names : List Naming) (n place : ℕ) (requests : List Request) (w : Ready) (r : List ℕ × Ready) → answer_all names n place requests w ≡ good r →
    r.1.pool.version ≡ w.pool.version
unfolding answer_all
answers_version names n place [] w r e = subst (λ (x : List ℕ × Ready). x.1.pool.version ≡ w.pool.version) (good_inj e) refl
answers_version names n place (q ∷ requests) w r e =
    good_then (at_record place (answer q.ldc (goal_of names n q.what) w)) _ r e λ x first e₁.
    good_then (answer_all names n (suc place) requests x.1) _ r e₁ λ rest others e₂.
    subst (λ (y : List ℕ × Ready). y.1.pool.version ≡ w.pool.version) (good_inj e₂)
    (answers_version names n (suc place) requests x.1 rest others
    ∙ answer-version q.ldc (goal_of names n q.what) w x (at_record-good place _ x first))
