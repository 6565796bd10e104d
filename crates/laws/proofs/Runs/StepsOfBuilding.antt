-- Building takes the steps of StepsOfRuns, and is refused at one of them, or for want of fuel. Assumes nothing.
use mathlib.Core.Bool.{Bool, true, false}
use mathlib.Core.List.{List, [], ◌∷◌, reverse}
use mathlib.Core.Option.{Option, none, some}
use mathlib.Core.Path.{◌≡◌, refl, subst}
use Prim.Native.Nat.{ℕ, zero, suc, ◌+◌, ◌-◌, ◌≤◌}
use lib.Dec.{eqb, ltb}
use lib.ListN.{length, get_elem?}
use borrow.Author.Tests.{eqb-true, ltb-false}
use Rattle.definition.specs.Basics.{good, bad, Refusal}
use Rattle.definition.specs.Shapes.{bootstrap_tag}
use Rattle.definition.specs.Definitions.{tag_at}
use Rattle.definition.specs.Resolving.{Node, first_node}
use Rattle.definition.specs.Building.{Pool, allocate, slot_of, slots_of, Row, Rows, row_index, Made, kids_of, node_number, child_number, child_numbers, finish, with_pending, drain, raw_rows, build_all}
use Rattle.facts.specs.Lists.{Among}
use Rattle.facts.proofs.Each.{Each, each_from}
use Rattle.facts.proofs.Outcomes.{Ends, well, refused, next, ended, known-good, unless-ends, at_record-ends}
use Rattle.laws.proofs.Resolving.NodesAndChildren.{kids_found}
use Rattle.laws.proofs.Runs.StepsOfRuns.{PoolIn, at_start, after_child, after_taken, RowOf, RowsIn, raw_ones, after_inline}

-- a child's slot: a raw number's is itself
pub slot_of-by :
    {Z : ℕ → Type 0} {P : ℕ × Pool → Type 0} (nodes : List Node) (ldc : Bool) (child : ℕ) (p : Pool) →
    P (child, p) →
    (first_node ≤ child → Ends Z P (allocate nodes ldc (child - first_node) p)) →
    Ends Z P (slot_of nodes ldc child p)
unfolding slot_of
slot_of-by {Z} {P} nodes ldc child p o step = go (ltb child first_node) refl
  where
    go : (b : Bool) → ltb child first_node ≡ b → Ends Z P (slot_of nodes ldc child p)
    go true e = rw (e, slot_of) (well o)
    go false e = rw (e, slot_of) (step (ltb-false child first_node e))

-- Z is what is known of a refusal's number
module _
    (nodes : List Node)
    (indexes : List (ℕ × ℕ))
    (start : Pool)
    (Z : ℕ → Type 0)
    (empty : Z 0)
    (too_new : Z 24)
    (noSlotFor :
    (k c code : ℕ) (p : Pool) →
    PoolIn nodes start p →
    Among c (kids_of nodes k) →
    first_node ≤ c →
    allocate nodes false (c - first_node) p ≡ bad code →
    Z code)
    (noIndexFor :
    (row : Row) (code : ℕ) (rows : Rows) → RowsIn nodes indexes start rows → RowOf nodes start row → row_index row rows ≡ bad code → Z code) where
  abbrev Kid : ℕ → Type 0
  Kid c = (k : ℕ) × Among c (kids_of nodes k)

  kids_are_lem : (k : ℕ) → Each Kid (kids_of nodes k)
  kids_are_lem k = each_from Kid (kids_of nodes k) (λ i c e. (k, (i, e)))

  abbrev P : Pool → Type 0
  P = PoolIn nodes start

  abbrev R : Rows → Type 0
  R = RowsIn nodes indexes start

  child_steps : (c : ℕ) (p : Pool) → Kid c → first_node ≤ c → P p → Ends Z (λ r. P r.1) (allocate nodes false (c - first_node) p)
  child_steps c p h high o =
      ended (allocate nodes false (c - first_node) p)
      (λ r e. after_child h.0 c r.0 p r.1 o h.1 high e)
      (λ code e. noSlotFor h.0 c code p o h.1 high e)

  abbrev ZC : Refusal → Type 0
  ZC e = Z e.code

  slots_of-steps : (children : List ℕ) (p : Pool) → Each Kid children → P p → Ends ZC (λ r. P r.1) (slots_of nodes children p)
  unfolding slots_of
  slots_of-steps [] p h o = well {a = ([], p)} o
  slots_of-steps (c ∷ children) p h o =
      next _ (at_record-ends _ (slot_of-by nodes false c p o (λ high. child_steps c p h.0 high o))) λ r o₁.
      next _ (slots_of-steps children r.1 h.1 o₁) λ rest o₂.
      well {a = (r.0 ∷ rest.0, rest.1)} o₂

  node_number-steps :
      (c : ℕ) (p : Pool) (rows : Rows) →
      Kid c →
      first_node ≤ c →
      P p →
      R rows →
      Ends ZC (λ r. P r.1 × R r.2) (node_number nodes (c - first_node) p rows)
  unfolding node_number
  node_number-steps c p rows h high o q = go (eqb (tag_at nodes (c - first_node)) bootstrap_tag) refl
    where
      k : ℕ
      k = c - first_node

      row_of : (r : List ℕ × Pool) → eqb (tag_at nodes k) bootstrap_tag ≡ true → slots_of nodes (kids_of nodes k) p ≡ good r → RowOf nodes start r.0
      row_of r t e = record { node = k; tag = eqb-true (tag_at nodes k) bootstrap_tag t; before = p; after = r.1; pools = o; slots = e }

      go :
          (b : Bool) →
          eqb (tag_at nodes (c - first_node)) bootstrap_tag ≡ b →
          Ends ZC (λ r. P r.1 × R r.2) (node_number nodes (c - first_node) p rows)
      go true t =
          rw
          (t, node_number)
          (next _ (known-good (slots_of nodes (kids_of nodes k) p) (slots_of-steps (kids_of nodes k) p (kids_are_lem k) o)) λ r o₁.
          next _ (at_record-ends k (index_steps r.0 (row_of r t o₁.1))) λ i q₁. well {a = (i.0, r.1, i.1)} (o₁.0, q₁))
        where
          index_steps : (row : Row) → RowOf nodes start row → Ends Z (λ r. R r.1) (row_index row rows)
          index_steps row is =
              ended (row_index row rows) (λ r e. after_inline row r.0 rows r.1 q is e) (λ code e. noIndexFor row code rows q is e)
      go false t = rw (t, node_number) (next _ (at_record-ends k (child_steps c p h high o)) λ r o₁. well {a = (r.0, r.1, rows)} (o₁, q))

  child_number-steps : (c : ℕ) (p : Pool) (rows : Rows) → Kid c → P p → R rows → Ends ZC (λ r. P r.1 × R r.2) (child_number nodes c p rows)
  unfolding child_number
  child_number-steps c p rows h o q = go (ltb c first_node) refl
    where
      go : (b : Bool) → ltb c first_node ≡ b → Ends ZC (λ r. P r.1 × R r.2) (child_number nodes c p rows)
      go true e = rw (e, child_number) (well {a = (c, p, rows)} (o, q))
      go false e = rw (e, child_number) (node_number-steps c p rows h (ltb-false c first_node e) o q)

  child_numbers-step :
      (children : List ℕ) (p : Pool) (rows : Rows) →
      Each Kid children →
      P p →
      R rows →
      Ends ZC (λ r. P r.1 × R r.2) (child_numbers nodes children p rows)
  unfolding child_numbers
  child_numbers-step [] p rows h o q = well {a = ([], p, rows)} (o, q)
  child_numbers-step (c ∷ children) p rows h o q =
      next _ (child_number-steps c p rows h.0 o q) λ r k₁.
      next _ (child_numbers-step children r.1 r.2 h.1 k₁.0 k₁.1) λ rest k₂.
      well {a = (r.0 ∷ rest.0, rest.1, rest.2)} k₂

  finish-steps :
      (s k : ℕ) (m : Made) (o : Option Node) →
      get_elem? nodes k ≡ o →
      P m.pool →
      R m.rows →
      Ends ZC (λ m'. P m'.pool × R m'.rows) (finish nodes s m o)
  unfolding finish
  finish-steps s k m none e o q = well {a = m} (o, q)
  finish-steps s k m (some n) e o q =
      next _ (child_numbers-step n.kids m.pool m.rows (subst (Each Kid) (kids_found nodes k n e) (kids_are_lem k)) o q) λ r k₁. well k₁

  drain_steps :
      (fuel : ℕ) (pending : List (ℕ × ℕ)) (m : Made) → P m.pool → R m.rows → Ends ZC (λ m'. P m'.pool × R m'.rows) (drain fuel nodes pending m)
  unfolding drain with_pending
  drain_steps zero [] m o q = well {a = m} (o, q)
  drain_steps zero (top ∷ pending) m o q = refused empty
  drain_steps (suc fuel) [] m o q = well {a = m} (o, q)
  drain_steps (suc fuel) (top ∷ pending) m o q =
      next _ (at_record-ends _ (unless-ends _ 24 too_new)) λ _ _.
      next _ (finish-steps top.0 top.1 (with_pending pending m) (get_elem? nodes top.1) refl (after_taken pending m.pool o) q) λ m' k.
      drain_steps fuel m'.pool.pending m' k.0 k.1

  raw_rows-step : (falling : List (ℕ × ℕ)) (p : Pool) (rows : List (ℕ × Row)) → P p → Ends ZC (λ r. P r.1) (raw_rows nodes falling p rows)
  unfolding raw_rows
  raw_rows-step [] p rows o = well {a = (rows, p)} o
  raw_rows-step (r ∷ falling) p rows o =
      next _ (slots_of-steps (kids_of nodes r.1) p (kids_are_lem r.1) o) λ row o₁. raw_rows-step falling row.1 ((r.0, row.0) ∷ rows) o₁

  pub build_all-steps : Ends ZC (λ m. P m.pool × R m.rows) (build_all nodes indexes start)
  unfolding build_all
  build_all-steps =
      next _ (known-good (raw_rows nodes (reverse indexes) start []) (raw_rows-step (reverse indexes) start [] at_start)) λ r k.
      drain_steps (length r.1.pending + length nodes) r.1.pending _ k.0 (raw_ones r.0 r.1 k.1)
