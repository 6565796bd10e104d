-- Building that ends well passed each place where it asks: it came there over pools and rows of building, and got what it asked for.
-- Assumes nothing.
use mathlib.Core.Bool.{true, false}
use mathlib.Core.List.{List, [], ◌∷◌, ◌++◌, reverse}
use mathlib.Core.Logic.{◌⊎◌, inl, inr, ◌≢◌}
use mathlib.Core.Option.{Option, none, some}
use mathlib.Core.Path.{◌≡◌, refl, sym, ap, subst, ◌∙◌}
use Prim.Native.Nat.{ℕ, zero, suc, ◌+◌, ◌-◌, ◌≤◌, ◌<◌}
use native.Mathlib.Omega.{arith}
use lib.Dec.{eqb, ltb}
use lib.ListN.{length, get_elem?}
use borrow.Author.Tests.{eqb-true, eqb-false, ltb-false, le-ltb}
use Rattle.definition.specs.Basics.{good, at_record, unless}
use Rattle.definition.specs.Shapes.{bootstrap_tag}
use Rattle.definition.specs.Settings.{known}
use Rattle.definition.specs.Definitions.{tag_at}
use Rattle.definition.specs.Resolving.{Node, first_node}
use Rattle.definition.specs.Building.{Pool, allocate, slot_of, slots_of, Row, Rows, row_index, Made, kids_of, node_number, child_number, child_numbers, finish, with_pending, drain, raw_rows, build_all}
use Rattle.facts.specs.Lists.{Among}
use Rattle.facts.proofs.Lists.{among-left}
use Rattle.facts.proofs.Each.{Each, each_from}
use Rattle.facts.proofs.Results.{bad≢good, good_inj, good_then, at_record-good, unless-good, decided}
use Rattle.causes.specs.CauseStatement.{NextChild, NextRaw, Stack, none_taken, one_taken, NextNumber}
use Rattle.laws.proofs.Resolving.NodesAndChildren.{kids_found}
use Rattle.laws.proofs.Runs.StepsOfRuns.{PoolIn, at_start, after_child, after_taken, RowsIn, raw_ones, after_inline}
use Rattle.causes.proofs.CauseBuilding.{slot_of-good}

module _ (nodes : List Node) where
  -- ---- what comes next in a list that went well

  slots_at :
      (before after : List ℕ) (c : ℕ) (p₀ p : Pool) (slots : List ℕ) (z : List ℕ × Pool) →
      slots_of nodes (before ++ c ∷ after) p₀ ≡ good z →
      slots_of nodes before p₀ ≡ good (slots, p) →
      (r : ℕ × Pool) × (slot_of nodes false c p ≡ good r)
  unfolding slots_of
  slots_at [] after c p₀ p slots z e q =
      good_then (at_record (c - first_node) (slot_of nodes false c p₀)) _ z e λ r h e₁.
      (r, subst (λ p. slot_of nodes false c p ≡ good r) (ap (λ (x : List ℕ × Pool). x.1) (good_inj q)) (at_record-good (c - first_node) (slot_of nodes false c p₀) r h))
  slots_at (b ∷ before) after c p₀ p slots z e q =
      good_then (at_record (b - first_node) (slot_of nodes false b p₀)) _ z e λ r h e₁.
      good_then (slots_of nodes (before ++ c ∷ after) r.1) _ z e₁ λ rest k e₂.
      good_then (at_record (b - first_node) (slot_of nodes false b p₀)) _ (slots, p) q λ r' h' q₁.
      good_then (slots_of nodes before r'.1) _ (slots, p) q₁ λ rest' k' q₂.
      let one : r ≡ r' = good_inj (sym h ∙ h') in
      let pools : rest'.1 ≡ p = ap (λ (x : List ℕ × Pool). x.1) (good_inj q₂) in
      slots_at before after c r'.1 p rest'.0 rest
      (subst (λ (r : ℕ × Pool). slots_of nodes (before ++ c ∷ after) r.1 ≡ good rest) one k)
      (k' ∙ ap (λ p. good (rest'.0, p)) pools)

  raws_at_lem :
      (before after : List (ℕ × ℕ)) (r : ℕ × ℕ) (p₀ p : Pool) (acc rows : List (ℕ × Row)) (z : List (ℕ × Row) × Pool) →
      raw_rows nodes (before ++ r ∷ after) p₀ acc ≡ good z →
      raw_rows nodes before p₀ acc ≡ good (rows, p) →
      (row : List ℕ × Pool) × (slots_of nodes (kids_of nodes r.1) p ≡ good row)
  unfolding raw_rows
  raws_at_lem [] after r p₀ p acc rows z e q =
      good_then (slots_of nodes (kids_of nodes r.1) p₀) _ z e λ row h e₁.
      (row, subst (λ p. slots_of nodes (kids_of nodes r.1) p ≡ good row) (ap (λ (x : List (ℕ × Row) × Pool). x.1) (good_inj q)) h)
  raws_at_lem (b ∷ before) after r p₀ p acc rows z e q =
      good_then (slots_of nodes (kids_of nodes b.1) p₀) _ z e λ row h e₁.
      good_then (slots_of nodes (kids_of nodes b.1) p₀) _ (rows, p) q λ row' h' q₁.
      let one : row ≡ row' = good_inj (sym h ∙ h') in
      raws_at_lem before after r row'.1 p ((b.0, row'.0) ∷ acc) rows z
      (subst (λ (x : List ℕ × Pool). raw_rows nodes (before ++ r ∷ after) x.1 ((b.0, x.0) ∷ acc) ≡ good z) one e₁)
      q₁

  numbers_at_lem :
      (before after : List ℕ) (c : ℕ) (p₀ p : Pool) (rows₀ rows : Rows) (numbers : List ℕ) (z : List ℕ × Pool × Rows) →
      child_numbers nodes (before ++ c ∷ after) p₀ rows₀ ≡ good z →
      child_numbers nodes before p₀ rows₀ ≡ good (numbers, p, rows) →
      (y : ℕ × Pool × Rows) × (child_number nodes c p rows ≡ good y)
  unfolding child_numbers
  numbers_at_lem [] after c p₀ p rows₀ rows numbers z e q =
      good_then (child_number nodes c p₀ rows₀) _ z e λ y h e₁. (
        y,
        subst (λ (x : List ℕ × Pool × Rows). child_number nodes c x.1 x.2 ≡ good y) (good_inj q) h,
      )
  numbers_at_lem (b ∷ before) after c p₀ p rows₀ rows numbers z e q =
      good_then (child_number nodes b p₀ rows₀) _ z e λ y h e₁.
      good_then (child_numbers nodes (before ++ c ∷ after) y.1 y.2) _ z e₁ λ rest k e₂.
      good_then (child_number nodes b p₀ rows₀) _ (numbers, p, rows) q λ y' h' q₁.
      good_then (child_numbers nodes before y'.1 y'.2) _ (numbers, p, rows) q₁ λ rest' k' q₂.
      let one : y ≡ y' = good_inj (sym h ∙ h') in
      let pools : rest'.1 ≡ p = ap (λ (x : List ℕ × Pool × Rows). x.1) (good_inj q₂) in
      let tables : rest'.2 ≡ rows = ap (λ (x : List ℕ × Pool × Rows). x.2) (good_inj q₂) in
      numbers_at_lem before after c y'.1 p y'.2 rows rest'.0 rest
      (subst (λ (x : ℕ × Pool × Rows). child_numbers nodes (before ++ c ∷ after) x.1 x.2 ≡ good rest) one k)
      (k' ∙ ap (λ p. good (rest'.0, p, rest'.2)) pools ∙ ap (λ t. good (rest'.0, p, t)) tables)

-- ---- the pools and rows on the way

module _ (nodes : List Node) (indexes : List (ℕ × ℕ)) (start : Pool) where
  abbrev P : Pool → Type 0
  P = PoolIn nodes start

  abbrev R : Rows → Type 0
  R = RowsIn nodes indexes start

  abbrev Kids : ℕ → List ℕ → Type 0
  Kids k cs = Each (λ c. Among c (kids_of nodes k)) cs

  slot-pool : (k c : ℕ) (p : Pool) (r : ℕ × Pool) → Among c (kids_of nodes k) → P p → slot_of nodes false c p ≡ good r → P r.1
  unfolding slot_of
  slot-pool k c p r a o e =
      decided (ltb c first_node) _ _ (good r) e
      (λ t f. subst (λ (x : ℕ × Pool). P x.1) (good_inj f) o)
      (λ t f. after_child k c r.0 p r.1 o a (ltb-false c first_node t) f)

  slots-pool : (k : ℕ) (cs : List ℕ) (p : Pool) (r : List ℕ × Pool) → Kids k cs → P p → slots_of nodes cs p ≡ good r → P r.1
  unfolding slots_of
  slots-pool k [] p r a o e = subst (λ (x : List ℕ × Pool). P x.1) (good_inj e) o
  slots-pool k (c ∷ cs) p r a o e =
      good_then (at_record (c - first_node) (slot_of nodes false c p)) _ r e λ s h e₁.
      good_then (slots_of nodes cs s.1) _ r e₁ λ rest q e₂.
      subst (λ (x : List ℕ × Pool). P x.1) (good_inj e₂) (slots-pool k cs s.1 rest a.1 (slot-pool k c p s a.0 o (at_record-good (c - first_node) (slot_of nodes false c p) s h)) q)

  all_kids : (k : ℕ) → Kids k (kids_of nodes k)
  all_kids k = each_from (λ c. Among c (kids_of nodes k)) (kids_of nodes k) (λ i c e. (i, e))

  some-kids : (k : ℕ) (before after : List ℕ) → kids_of nodes k ≡ before ++ after → Kids k before
  some-kids k before after is =
      each_from (λ c. Among c (kids_of nodes k)) before (λ i c e. subst (Among c) (sym is) (among-left c before after (i, e)))

  raws_pool : (falling : List (ℕ × ℕ)) (p : Pool) (acc : List (ℕ × Row)) (z : List (ℕ × Row) × Pool) → P p → raw_rows nodes falling p acc ≡ good z → P z.1
  unfolding raw_rows
  raws_pool [] p acc z o e = subst (λ (x : List (ℕ × Row) × Pool). P x.1) (good_inj e) o
  raws_pool (r ∷ falling) p acc z o e =
      good_then (slots_of nodes (kids_of nodes r.1) p) _ z e λ row h e₁.
      raws_pool falling row.1 ((r.0, row.0) ∷ acc) z (slots-pool r.1 (kids_of nodes r.1) p row (all_kids r.1) o h) e₁

  -- a child's number: a raw one is itself; a bootstrap's index, once its children have slots; or a slot
  pub node_good :
      (k : ℕ) (p : Pool) (rows : Rows) (y : ℕ × Pool × Rows) →
      node_number nodes k p rows ≡ good y →
      ((tag_at nodes k ≡ bootstrap_tag)
      × ((r : List ℕ × Pool) × (slots_of nodes (kids_of nodes k) p ≡ good r) × ((i : ℕ × Rows) × (row_index r.0 rows ≡ good i) × ((i.0, r.1, i.1) ≡ y))))
      ⊎ ((tag_at nodes k ≢ bootstrap_tag) × ((r : ℕ × Pool) × (allocate nodes false k p ≡ good r) × ((r.0, r.1, rows) ≡ y)))
  unfolding node_number
  node_good k p rows y e =
      decided (eqb (tag_at nodes k) bootstrap_tag) _ _ (good y) e
      (λ t f.
      good_then (slots_of nodes (kids_of nodes k) p) _ y f λ r h f₁.
      good_then (at_record k (row_index r.0 rows)) _ y f₁ λ i g f₂.
      inl (eqb-true (tag_at nodes k) bootstrap_tag t, (r, h, (i, at_record-good k (row_index r.0 rows) i g, good_inj f₂))))
      (λ t f.
      good_then (at_record k (allocate nodes false k p)) _ y f λ r h f₁.
      inr (eqb-false (tag_at nodes k) bootstrap_tag t, (r, at_record-good k (allocate nodes false k p) r h, good_inj f₁)))

  number-pool : (k c : ℕ) (p : Pool) (rows : Rows) (y : ℕ × Pool × Rows) → Among c (kids_of nodes k) → P p → R rows → child_number nodes c p rows ≡ good y → P y.1 × R y.2
  unfolding child_number
  number-pool k c p rows y a o q e =
      decided (ltb c first_node) _ _ (good y) e
      (λ t f. subst (λ (x : ℕ × Pool × Rows). P x.1 × R x.2) (good_inj f) (o, q))
      (λ t f. ways (ltb-false c first_node t) (node_good (c - first_node) p rows y f))
    where
      ways :
          first_node ≤ c →
          ((tag_at nodes (c - first_node) ≡ bootstrap_tag)
          × ((r : List ℕ × Pool) × (slots_of nodes (kids_of nodes (c - first_node)) p ≡ good r) × ((i : ℕ × Rows) × (row_index r.0 rows ≡ good i) × ((i.0, r.1, i.1) ≡ y))))
          ⊎ ((tag_at nodes (c - first_node) ≢ bootstrap_tag) × ((r : ℕ × Pool) × (allocate nodes false (c - first_node) p ≡ good r) × ((r.0, r.1, rows) ≡ y))) →
          P y.1 × R y.2
      ways high (inl (t, (r, h, (i, g, is)))) =
          subst (λ (x : ℕ × Pool × Rows). P x.1 × R x.2) is (
            slots-pool (c - first_node) (kids_of nodes (c - first_node)) p r (all_kids (c - first_node)) o h,
            after_inline r.0 i.0 rows i.1 q (record { node = c - first_node; tag = t; before = p; after = r.1; pools = o; slots = h }) g,
          )
      ways high (inr (t, (r, h, is))) = subst (λ (x : ℕ × Pool × Rows). P x.1 × R x.2) is (after_child k c r.0 p r.1 o a high h, q)

  numbers-pool :
      (k : ℕ) (cs : List ℕ) (p : Pool) (rows : Rows) (y : List ℕ × Pool × Rows) → Kids k cs → P p → R rows → child_numbers nodes cs p rows ≡ good y → P y.1 × R y.2
  unfolding child_numbers
  numbers-pool k [] p rows y a o q e = subst (λ (x : List ℕ × Pool × Rows). P x.1 × R x.2) (good_inj e) (o, q)
  numbers-pool k (c ∷ cs) p rows y a o q e =
      good_then (child_number nodes c p rows) _ y e λ s h e₁.
      good_then (child_numbers nodes cs s.1 s.2) _ y e₁ λ rest g e₂.
      let here = number-pool k c p rows s a.0 o q h in
      subst (λ (x : List ℕ × Pool × Rows). P x.1 × R x.2) (good_inj e₂) (numbers-pool k cs s.1 s.2 rest a.1 here.0 here.1 g)

  finish-pool :
      (slot owner : ℕ) (pending : List (ℕ × ℕ)) (m m' : Made) (found : Option Node) →
      get_elem? nodes owner ≡ found →
      P m.pool →
      R m.rows →
      finish nodes slot (with_pending pending m) found ≡ good m' →
      P m'.pool × R m'.rows
  unfolding finish with_pending
  finish-pool slot owner pending m m' none at o q e = subst (λ (x : Made). P x.pool × R x.rows) (good_inj e) (after_taken pending m.pool o, q)
  finish-pool slot owner pending m m' (some parent) at o q e =
      good_then (child_numbers nodes parent.kids (with_pending pending m).pool m.rows) _ m' e λ y h e₁.
      subst (λ (x : Made). P x.pool × R x.rows) (good_inj e₁)
      (numbers-pool owner parent.kids (with_pending pending m).pool m.rows y (subst (Kids owner) (kids_found nodes owner parent at) (all_kids owner)) (after_taken pending m.pool o) q h)

  pub stack_pool : {pending : List (ℕ × ℕ)} {m : Made} → Stack nodes indexes start pending m → P m.pool × R m.rows
  stack_pool (none_taken waiting p e) = (raws_pool (reverse indexes) start [] (waiting, p) at_start e, raw_ones waiting p e)
  stack_pool (one_taken slot owner pending m m' st knows e) =
      let h = stack_pool st in
      finish-pool slot owner pending m m' (get_elem? nodes owner) refl h.0 h.1 e

  -- ---- building that ends well

  module _ (made : Made) (built : build_all nodes indexes start ≡ good made) where
    stack_goes : {pending : List (ℕ × ℕ)} {m : Made} → Stack nodes indexes start pending m → (fuel : ℕ) × (drain fuel nodes pending m ≡ good made)
    unfolding build_all drain
    stack_goes (none_taken waiting p e) =
        good_then (raw_rows nodes (reverse indexes) start []) _ made built λ r h e₁.
        let one : r ≡ (waiting, p) = good_inj (sym h ∙ e) in (
          length p.pending + length nodes,
          subst
              (λ (x : List (ℕ × Row) × Pool).
              drain (length x.1.pending + length nodes) nodes x.1.pending (record { pool = x.1; rows = record { written = []; waiting = x.0; inline = [] }; owned = [] }) ≡ good made)
              one
              e₁,
        )
    stack_goes (one_taken slot owner pending m m' st knows e) = let g = stack_goes st in more g.0 g.1
      where
        more : (fuel : ℕ) → drain fuel nodes ((slot, owner) ∷ pending) m ≡ good made → (fuel : ℕ) × (drain fuel nodes m'.pool.pending m' ≡ good made)
        more zero f = bad≢good f
        more (suc fuel) f =
            good_then (at_record owner (unless (known m.pool.version (tag_at nodes owner)) 24)) _ made f λ _ _ f₀.
            good_then (finish nodes slot (with_pending pending m) (get_elem? nodes owner)) _ made f₀ λ m'' h f₁.
            let one : m'' ≡ m' = good_inj (sym h ∙ e) in
            (fuel, subst (λ (x : Made). drain fuel nodes x.pool.pending x ≡ good made) one f₁)

    -- the version has the kind of each constant from the stack
    pub known-got : (slot owner : ℕ) (pending : List (ℕ × ℕ)) (m : Made) → Stack nodes indexes start ((slot, owner) ∷ pending) m → known m.pool.version (tag_at nodes owner) ≡ true
    unfolding drain
    known-got slot owner pending m st = let g = stack_goes st in go g.0 g.1
      where
        go : (fuel : ℕ) → drain fuel nodes ((slot, owner) ∷ pending) m ≡ good made → known m.pool.version (tag_at nodes owner) ≡ true
        go zero f = bad≢good f
        go (suc fuel) f =
            let t = known m.pool.version (tag_at nodes owner) in
            good_then (at_record owner (unless t 24)) _ made f λ u h _. unless-good t 24 u (at_record-good owner (unless t 24) u h)

    -- a child of a node from the stack got its number, from a pool and rows of building
    pub number-got :
        (n : NextNumber nodes indexes start) →
        P n.pool × R n.rows × ((y : ℕ × Pool × Rows) × (child_number nodes (65536 + n.node) n.pool n.rows ≡ good y))
    unfolding drain finish with_pending
    number-got n =
        let s = stack_pool n.is_stack in
        let g = stack_goes n.is_stack in
        let before = some-kids n.owner n.before ((65536 + n.node) ∷ n.after) (kids_found nodes n.owner n.parent n.is_parent ∙ n.is_kids) in
        let q = numbers-pool n.owner n.before (with_pending n.pending n.made).pool n.made.rows (n.numbers, n.pool, n.rows) before (after_taken n.pending n.made.pool s.0) s.1 n.is_pool in
        (q.0, q.1, taken g.0 g.1)
      where
        taken :
            (fuel : ℕ) → drain fuel nodes ((n.slot, n.owner) ∷ n.pending) n.made ≡ good made →
            (y : ℕ × Pool × Rows) × (child_number nodes (65536 + n.node) n.pool n.rows ≡ good y)
        taken zero f = bad≢good f
        taken (suc fuel) f =
            good_then (at_record n.owner (unless (known n.made.pool.version (tag_at nodes n.owner)) 24)) _ made f λ _ _ f₀.
            good_then (finish nodes n.slot (with_pending n.pending n.made) (get_elem? nodes n.owner)) _ made f₀ λ m h f₁.
            good_then (child_numbers nodes n.parent.kids (with_pending n.pending n.made).pool n.made.rows) _ m
            (subst (λ o. finish nodes n.slot (with_pending n.pending n.made) o ≡ good m) n.is_parent h) λ z k _.
            numbers_at_lem nodes n.before n.after (65536 + n.node) (with_pending n.pending n.made).pool n.pool n.made.rows n.rows n.numbers z
            (subst (λ l. child_numbers nodes l (with_pending n.pending n.made).pool n.made.rows ≡ good z) n.is_kids k)
            n.is_pool

    -- a raw bootstrap got its row, from a pool of building
    pub raw_got : (r : NextRaw nodes indexes start) → P r.pool × ((row : List ℕ × Pool) × (slots_of nodes (kids_of nodes r.node) r.pool ≡ good row))
    unfolding build_all
    raw_got r =
        good_then (raw_rows nodes (reverse indexes) start []) _ made built λ z h e₁. (
          raws_pool r.before start [] (r.rows, r.pool) at_start r.is_pool,
          raws_at_lem nodes r.before r.after (r.index, r.node) start r.pool [] r.rows z (subst (λ l. raw_rows nodes l start [] ≡ good z) r.is_falling h) r.is_pool,
        )

  -- children that all got slots did each, from pools of building
  pub child_got :
      (k : ℕ) (p₀ : Pool) (z : List ℕ × Pool) →
      P p₀ →
      slots_of nodes (kids_of nodes k) p₀ ≡ good z →
      (c : NextChild nodes (kids_of nodes k) p₀) →
      P c.pool × ((r : ℕ × Pool) × (allocate nodes false c.node c.pool ≡ good r))
  child_got k p₀ z o e c =
      let (r, h) =
      slots_at nodes c.before c.after (65536 + c.node) p₀ c.pool c.slots z
      (subst (λ l. slots_of nodes l p₀ ≡ good z) c.is_kids e)
      c.is_pool in (
        slots-pool k c.before p₀ (c.slots, c.pool) (some-kids k c.before ((65536 + c.node) ∷ c.after) c.is_kids) o c.is_pool,
        (r, high_slot r h),
      )
    where
      high_slot : (r : ℕ × Pool) → slot_of nodes false (65536 + c.node) c.pool ≡ good r → allocate nodes false c.node c.pool ≡ good r
      high_slot r h = ways (slot_of-good nodes false (65536 + c.node) c.pool r h)
        where
          same : 65536 + c.node - 65536 ≡ c.node
          same = omega arith

          ways :
              ((65536 + c.node < 65536) × (r.0 ≡ 65536 + c.node))
              ⊎ ((65536 ≤ 65536 + c.node) × (allocate nodes false (65536 + c.node - 65536) c.pool ≡ good r)) →
              allocate nodes false c.node c.pool ≡ good r
          ways (inl (low, _)) = absurd (omega (arith, low))
          ways (inr (_, f)) = subst (λ k. allocate nodes false k c.pool ≡ good r) same f

  -- a child that is a node got that node's number
  pub node_got : (k : ℕ) (p : Pool) (rows : Rows) (y : ℕ × Pool × Rows) → child_number nodes (65536 + k) p rows ≡ good y → node_number nodes k p rows ≡ good y
  unfolding child_number
  node_got k p rows y e =
      let same : 65536 + k - 65536 ≡ k = omega arith in
      subst (λ k. node_number nodes k p rows ≡ good y) same (rw (le-ltb (65536 + k) first_node (omega arith), child_number) at e)
