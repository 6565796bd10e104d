-- Why building is refused, at which child of which node, in the order in which it asks; or for want of fuel. Assumes nothing.
use mathlib.Core.Bool.{Bool, true, false}
use mathlib.Core.List.{List, [], ◌∷◌, ◌++◌, reverse, append_assoc}
use mathlib.Core.Logic.{◌⊎◌, inl, inr, ◌≢◌}
use mathlib.Core.Option.{Option, none, some}
use mathlib.Core.Path.{◌≡◌, refl, sym, ap, subst, ◌∙◌}
use Prim.Native.Nat.{ℕ, zero, suc, ◌+◌, ◌-◌, ◌≤◌, ◌<◌}
use native.Mathlib.Omega.{arith}
use lib.Dec.{eqb, ltb}
use lib.ListN.{length, get_elem?}
use borrow.Author.Tests.{eqb-true, eqb-false, ltb-true, ltb-false}
use Rattle.definition.specs.Basics.{good, bad, Refusal, at_record}
use Rattle.definition.specs.Shapes.{bootstrap_tag}
use Rattle.definition.specs.Settings.{known}
use Rattle.definition.specs.Definitions.{tag_at}
use Rattle.definition.specs.Resolving.{Node, first_node}
use Rattle.definition.specs.Building.{Pool, allocate, slot_of, slots_of, Row, Rows, row_index, Made, kids_of, node_number, child_number, child_numbers, finish, with_pending, drain, raw_rows, build_all}
use Rattle.facts.specs.Lists.{Among}
use Rattle.facts.proofs.Lists.{found_seam}
use Rattle.facts.proofs.Results.{good_inj, good_then, decided}
use Rattle.facts.proofs.Outcomes.{Ends, well, refused, next, weaker, ended, known-good}
use Rattle.causes.specs.CauseStatement.{NextChild, NextRaw, Stack, none_taken, one_taken, NextNumber}
use Rattle.laws.proofs.Resolving.NodesAndChildren.{kids_found}
use Rattle.laws.proofs.Runs.StepsOfRuns.{PoolIn, at_start, after_child, after_taken, RowOf, RowsIn, raw_ones, after_inline}
use Rattle.laws.proofs.Runs.StepsOfBuilding.{slot_of-by}
use Rattle.causes.proofs.CauseSteps.{unless-cause, at_place}

-- a child's slot: a raw number is itself, a node's is the one allocated
pub slot_of-good :
    (nodes : List Node) (ldc : Bool) (child : ℕ) (p : Pool) (r : ℕ × Pool) →
    slot_of nodes ldc child p ≡ good r →
    ((child < 65536) × (r.0 ≡ child)) ⊎ ((65536 ≤ child) × (allocate nodes ldc (child - 65536) p ≡ good r))
unfolding slot_of
slot_of-good nodes ldc child p r e =
    decided (ltb child first_node) _ _ (good r) e
    (λ t f. inl (ltb-true child first_node t, ap (λ (x : ℕ × Pool). x.0) (sym (good_inj f))))
    (λ t f. inr (ltb-false child first_node t, f))

module _ (nodes : List Node) where
  -- ---- one more at the end

  slots-snoc :
      (before : List ℕ) (c : ℕ) (p₀ p : Pool) (slots : List ℕ) (r : ℕ × Pool) →
      slots_of nodes before p₀ ≡ good (slots, p) →
      slot_of nodes false c p ≡ good r →
      slots_of nodes (before ++ c ∷ []) p₀ ≡ good (slots ++ r.0 ∷ [], r.1)
  unfolding slots_of at_record
  slots-snoc [] c p₀ p slots r e q =
      let same₁ : p₀ ≡ p = ap (λ (x : List ℕ × Pool). x.1) (good_inj e) in
      let same₂ : [] ≡ slots = ap (λ (x : List ℕ × Pool). x.0) (good_inj e) in
      rw (same₁, q, ← same₂) refl
  slots-snoc (b ∷ before) c p₀ p slots r e q =
      good_then (at_record (b - first_node) (slot_of nodes false b p₀)) _ (slots, p) e λ s h e₁.
      good_then (slots_of nodes before s.1) _ (slots, p) e₁ λ rest k e₂.
      let more = slots-snoc before c s.1 rest.1 rest.0 r k (subst (λ p. slot_of nodes false c p ≡ good r) (sym (ap (λ (x : List ℕ × Pool). x.1) (good_inj e₂))) q) in
      let list : s.0 ∷ rest.0 ≡ slots = ap (λ (x : List ℕ × Pool). x.0) (good_inj e₂) in
      rw (h, more, ← list) refl

  raws_snoc :
      (before : List (ℕ × ℕ)) (r : ℕ × ℕ) (p₀ p : Pool) (acc rows : List (ℕ × Row)) (row : List ℕ × Pool) →
      raw_rows nodes before p₀ acc ≡ good (rows, p) →
      slots_of nodes (kids_of nodes r.1) p ≡ good row →
      raw_rows nodes (before ++ r ∷ []) p₀ acc ≡ good ((r.0, row.0) ∷ rows, row.1)
  unfolding raw_rows
  raws_snoc [] r p₀ p acc rows row e q =
      let same₁ : p₀ ≡ p = ap (λ (x : List (ℕ × Row) × Pool). x.1) (good_inj e) in
      let same₂ : acc ≡ rows = ap (λ (x : List (ℕ × Row) × Pool). x.0) (good_inj e) in
      rw (same₁, q, same₂) refl
  raws_snoc (b ∷ before) r p₀ p acc rows row e q =
      good_then (slots_of nodes (kids_of nodes b.1) p₀) _ (rows, p) e λ s h e₁.
      rw h (raws_snoc before r s.1 p ((b.0, s.0) ∷ acc) rows row e₁ q)

  numbers-snoc :
      (before : List ℕ) (c : ℕ) (p₀ p : Pool) (rows₀ rows : Rows) (numbers : List ℕ) (r : ℕ × Pool × Rows) →
      child_numbers nodes before p₀ rows₀ ≡ good (numbers, p, rows) →
      child_number nodes c p rows ≡ good r →
      child_numbers nodes (before ++ c ∷ []) p₀ rows₀ ≡ good (numbers ++ r.0 ∷ [], r.1, r.2)
  unfolding child_numbers
  numbers-snoc [] c p₀ p rows₀ rows numbers r e q =
      let same₁ : p₀ ≡ p = ap (λ (x : List ℕ × Pool × Rows). x.1) (good_inj e) in
      let same₂ : rows₀ ≡ rows = ap (λ (x : List ℕ × Pool × Rows). x.2) (good_inj e) in
      let same₃ : [] ≡ numbers = ap (λ (x : List ℕ × Pool × Rows). x.0) (good_inj e) in
      rw (same₁, same₂, q, ← same₃) refl
  numbers-snoc (b ∷ before) c p₀ p rows₀ rows numbers r e q =
      good_then (child_number nodes b p₀ rows₀) _ (numbers, p, rows) e λ s h e₁.
      good_then (child_numbers nodes before s.1 s.2) _ (numbers, p, rows) e₁ λ rest k e₂.
      let pools : rest.1 ≡ p = ap (λ (x : List ℕ × Pool × Rows). x.1) (good_inj e₂) in
      let tables : rest.2 ≡ rows = ap (λ (x : List ℕ × Pool × Rows). x.2) (good_inj e₂) in
      let list : s.0 ∷ rest.0 ≡ numbers = ap (λ (x : List ℕ × Pool × Rows). x.0) (good_inj e₂) in
      let more =
      numbers-snoc before c s.1 rest.1 s.2 rest.2 rest.0 r k
      (subst (λ t. child_number nodes c rest.1 t ≡ good r) (sym tables) (subst (λ p. child_number nodes c p rows ≡ good r) (sym pools) q)) in
      rw (h, more, ← list) refl

-- ---- in turn

-- a child that is a node, among others
seam : (kids before after : List ℕ) (c : ℕ) → before ++ c ∷ after ≡ kids → 65536 ≤ c → kids ≡ before ++ (65536 + (c - 65536)) ∷ after
seam kids before after c e high =
    let q : c ≡ 65536 + (c - 65536) = omega (arith, high) in
    sym e ∙ ap (λ n. before ++ n ∷ after) q

-- Z is what is known of a refusal's number and the node that it is met at, and Lacks of a node that is refused a slot: for each place where
-- building asks it is known if the asking is refused there
module _
    (nodes : List Node)
    (indexes : List (ℕ × ℕ))
    (start : Pool)
    (Z : ℕ → ℕ → Type 0)
    (Lacks : ℕ → Pool → Type 0)
    (empty : (k : ℕ) → Z 0 k)
    (lacking :
    (k c code : ℕ) (p : Pool) →
    PoolIn nodes start p →
    Among c (kids_of nodes k) →
    65536 ≤ c →
    allocate nodes false (c - 65536) p ≡ bad code →
    (code ≡ 14) × Lacks (c - 65536) p)
    (rawLacking : (r : NextRaw nodes indexes start) (c : NextChild nodes (kids_of nodes r.node) r.pool) → Lacks c.node c.pool → Z 14 c.node)
    (childLacking : (n : NextNumber nodes indexes start) → tag_at nodes n.node ≢ 0x40 → Lacks n.node n.pool → Z 14 n.node)
    (bootstrapLacking :
    (n : NextNumber nodes indexes start) →
    tag_at nodes n.node ≡ 0x40 →
    (c : NextChild nodes (kids_of nodes n.node) n.pool) →
    Lacks c.node c.pool →
    Z 14 c.node)
    (noIndexFor :
    (n : NextNumber nodes indexes start) (row : Row) (p : Pool) (code : ℕ) →
    tag_at nodes n.node ≡ 0x40 →
    slots_of nodes (kids_of nodes n.node) n.pool ≡ good (row, p) →
    RowsIn nodes indexes start n.rows →
    RowOf nodes start row →
    row_index row n.rows ≡ bad code →
    Z code n.node)
    (newer :
    (slot owner : ℕ) (pending : List (ℕ × ℕ)) (m : Made) →
    Stack nodes indexes start ((slot, owner) ∷ pending) m →
    PoolIn nodes start m.pool →
    known m.pool.version (tag_at nodes owner) ≡ false →
    Z 24 owner) where
  abbrev ZAt : Refusal → Type 0
  ZAt e = Z e.code e.place

  abbrev P : Pool → Type 0
  P = PoolIn nodes start

  abbrev R : Rows → Type 0
  R = RowsIn nodes indexes start

  -- children's slots
  module _ (k : ℕ) (p₀ : Pool) where
    abbrev LacksOne : ℕ → ℕ → Type 0
    LacksOne code place = (code ≡ 14) × ((c : NextChild nodes (kids_of nodes k) p₀) × (place ≡ c.node) × Lacks c.node c.pool)

    abbrev LacksAt : Refusal → Type 0
    LacksAt e = LacksOne e.code e.place

    slots-walk :
        (before after slots : List ℕ) (p : Pool) →
        before ++ after ≡ kids_of nodes k →
        slots_of nodes before p₀ ≡ good (slots, p) →
        P p →
        Ends LacksAt (λ r. P r.1) (slots_of nodes after p)
    unfolding slots_of
    slots-walk before [] slots p is e o = well {a = ([], p)} o
    slots-walk before (c ∷ after) slots p is e o =
        next _ (at_place LacksOne (c - first_node) (known-good (slot_of nodes false c p) (slot_of-by nodes false c p o one))) λ r h.
        next _
        (slots-walk (before ++ c ∷ []) after (slots ++ r.0 ∷ []) r.1 (append_assoc before (c ∷ []) after ∙ is) (slots-snoc nodes before c p₀ p slots r e h.1) h.0) λ rest o₂.
        well {a = (r.0 ∷ rest.0, rest.1)} o₂
      where
        there : Among c (kids_of nodes k)
        there = (length before, subst (λ l. get_elem? l (length before) ≡ some c) is (found_seam before c after))

        one : 65536 ≤ c → Ends (λ code. LacksOne code (c - 65536)) (λ r. P r.1) (allocate nodes false (c - 65536) p)
        one high =
            ended (allocate nodes false (c - 65536) p) (λ r q. after_child k c r.0 p r.1 o there high q) λ code q.
            let l = lacking k c code p o there high q in (
              l.0,
              (
                record {
                  before = before;
                  node = c - 65536;
                  after = after;
                  slots = slots;
                  pool = p;
                  is_kids = seam (kids_of nodes k) before after c is high;
                  is_pool = e;
                },
                refl,
                l.1,
              ),
            )

    slots-cause : P p₀ → Ends LacksAt (λ r. P r.1) (slots_of nodes (kids_of nodes k) p₀)
    unfolding slots_of
    slots-cause o = slots-walk [] (kids_of nodes k) [] p₀ refl refl o

  refused_with : (e : Refusal) (k : ℕ) → e.code ≡ 14 → e.place ≡ k → Z 14 k → ZAt e
  refused_with e k is at h = subst (λ code. Z code e.place) (sym is) (subst (Z 14) (sym at) h)

  -- the raw bootstraps
  raws_walk :
      (before after : List (ℕ × ℕ)) (rows : List (ℕ × Row)) (p : Pool) →
      before ++ after ≡ reverse indexes →
      raw_rows nodes before start [] ≡ good (rows, p) →
      P p →
      Ends ZAt (λ r. P r.1) (raw_rows nodes after p rows)
  unfolding raw_rows
  raws_walk before [] rows p is e o = well {a = (rows, p)} o
  raws_walk before (r ∷ after) rows p is e o =
      next _
      (known-good (slots_of nodes (kids_of nodes r.1) p)
      (weaker (λ e l. refused_with e l.1.0.node l.0 l.1.1 (rawLacking here l.1.0 l.1.2)) (λ a h. h) (slots-cause r.1 p o))) λ row h.
      raws_walk (before ++ r ∷ []) after ((r.0, row.0) ∷ rows) row.1 (append_assoc before (r ∷ []) after ∙ is) (raws_snoc nodes before r start p [] rows row e h.1) h.0
    where
      here : NextRaw nodes indexes start
      here = record { before = before; index = r.0; node = r.1; after = after; rows = rows; pool = p; is_falling = sym is; is_pool = e }

  -- the children of a node from the stack
  module _
      (slot owner : ℕ)
      (pending : List (ℕ × ℕ))
      (m : Made)
      (parent : Node)
      (st : Stack nodes indexes start ((slot, owner) ∷ pending) m)
      (knows : known m.pool.version (tag_at nodes owner) ≡ true)
      (at : get_elem? nodes owner ≡ some parent) where
    module _
        (before after numbers : List ℕ)
        (c : ℕ)
        (p : Pool)
        (rows : Rows)
        (is : before ++ c ∷ after ≡ parent.kids)
        (e : child_numbers nodes before (with_pending pending m).pool m.rows ≡ good (numbers, p, rows))
        (o : P p)
        (q : R rows) where
      there : Among c (kids_of nodes owner)
      there =
          subst (λ l. Among c l) (sym (kids_found nodes owner parent at))
          (length before, subst (λ l. get_elem? l (length before) ≡ some c) is (found_seam before c after))

      here : 65536 ≤ c → NextNumber nodes indexes start
      here high =
          record {
            slot = slot;
            owner = owner;
            pending = pending;
            made = m;
            parent = parent;
            before = before;
            node = c - 65536;
            after = after;
            numbers = numbers;
            pool = p;
            rows = rows;
            is_stack = st;
            is_known = knows;
            is_parent = at;
            is_kids = seam parent.kids before after c is high;
            is_pool = e;
          }

      node_cause : (high : 65536 ≤ c) → Ends ZAt (λ r. P r.1 × R r.2) (node_number nodes (c - 65536) p rows)
      unfolding node_number here
      node_cause high = go (eqb (tag_at nodes (c - 65536)) bootstrap_tag) refl
        where
          k : ℕ
          k = c - 65536

          index-cause : tag_at nodes k ≡ bootstrap_tag → (r : List ℕ × Pool) → slots_of nodes (kids_of nodes k) p ≡ good r → Ends (λ code. Z code k) (λ i. R i.1) (row_index r.0 rows)
          index-cause t r h =
              let is_row : RowOf nodes start r.0 = record { node = k; tag = t; before = p; after = r.1; pools = o; slots = h } in
              ended (row_index r.0 rows) (λ i f. after_inline r.0 i.0 rows i.1 q is_row f) λ code f.
              noIndexFor (here high) r.0 r.1 code t h q is_row f

          go : (b : Bool) → eqb (tag_at nodes (c - 65536)) bootstrap_tag ≡ b → Ends ZAt (λ r. P r.1 × R r.2) (node_number nodes (c - 65536) p rows)
          go true t =
              let tag = eqb-true (tag_at nodes k) bootstrap_tag t in
              rw
              (t, node_number)
              (next _
              (known-good (slots_of nodes (kids_of nodes k) p)
              (weaker (λ e l. refused_with e l.1.0.node l.0 l.1.1 (bootstrapLacking (here high) tag l.1.0 l.1.2)) (λ a h. h) (slots-cause k p o))) λ r h.
              next _ (at_place Z k (index-cause tag r h.1)) λ i q₁. well {a = (i.0, r.1, i.1)} (h.0, q₁))
          go false t =
              rw
              (t, node_number)
              (next {P = λ r. P r.1} _
              (at_place Z k
              (ended (allocate nodes false k p) (λ r f. after_child owner c r.0 p r.1 o there high f) λ code f.
              let l = lacking owner c code p o there high f in
              subst (λ code. Z code k) (sym l.0) (childLacking (here high) (eqb-false (tag_at nodes k) bootstrap_tag t) l.1))) λ r o₁.
              well {a = (r.0, r.1, rows)} (o₁, q))

      child_cause : Ends ZAt (λ r. P r.1 × R r.2) (child_number nodes c p rows)
      unfolding child_number
      child_cause = go (ltb c first_node) refl
        where
          go : (b : Bool) → ltb c first_node ≡ b → Ends ZAt (λ r. P r.1 × R r.2) (child_number nodes c p rows)
          go true t = rw (t, child_number) (well {a = (c, p, rows)} (o, q))
          go false t = rw (t, child_number) (node_cause (ltb-false c first_node t))

    numbers-walk :
        (before after numbers : List ℕ) (p : Pool) (rows : Rows) →
        before ++ after ≡ parent.kids →
        child_numbers nodes before (with_pending pending m).pool m.rows ≡ good (numbers, p, rows) →
        P p →
        R rows →
        Ends ZAt (λ r. P r.1 × R r.2) (child_numbers nodes after p rows)
    unfolding child_numbers
    numbers-walk before [] numbers p rows is e o q = well {a = ([], p, rows)} (o, q)
    numbers-walk before (c ∷ after) numbers p rows is e o q =
        next _ (known-good (child_number nodes c p rows) (child_cause before after numbers c p rows is e o q)) λ r h.
        next _
        (numbers-walk (before ++ c ∷ []) after (numbers ++ r.0 ∷ []) r.1 r.2 (append_assoc before (c ∷ []) after ∙ is)
        (numbers-snoc nodes before c (with_pending pending m).pool p m.rows rows numbers r e h.1)
        h.0.0
        h.0.1) λ rest k.
        well {a = (r.0 ∷ rest.0, rest.1, rest.2)} k

  finish-cause :
      (slot owner : ℕ) (pending : List (ℕ × ℕ)) (m : Made) (found : Option Node) →
      get_elem? nodes owner ≡ found →
      Stack nodes indexes start ((slot, owner) ∷ pending) m →
      known m.pool.version (tag_at nodes owner) ≡ true →
      P m.pool →
      R m.rows →
      Ends ZAt (λ m'. P m'.pool × R m'.rows) (finish nodes slot (with_pending pending m) found)
  unfolding finish with_pending child_numbers
  finish-cause slot owner pending m none at st knows o q = well {a = with_pending pending m} (after_taken pending m.pool o, q)
  finish-cause slot owner pending m (some parent) at st knows o q =
      next _
      (numbers-walk slot owner pending m parent st knows at [] parent.kids [] (with_pending pending m).pool m.rows refl refl (after_taken pending m.pool o) q) λ r h.
      well h

  drain-cause :
      (fuel : ℕ) (pending : List (ℕ × ℕ)) (m : Made) →
      Stack nodes indexes start pending m →
      P m.pool →
      R m.rows →
      Ends ZAt (λ m'. Unit {0}) (drain fuel nodes pending m)
  unfolding drain
  drain-cause zero [] m st o q = well tt
  drain-cause zero (top ∷ pending) m st o q = refused (empty top.1)
  drain-cause (suc fuel) [] m st o q = well tt
  drain-cause (suc fuel) (top ∷ pending) m st o q =
      next _ (at_place Z top.1 (unless-cause (known m.pool.version (tag_at nodes top.1)) 24 (newer top.0 top.1 pending m st o))) λ _ knows.
      next _
      (known-good (finish nodes top.0 (with_pending pending m) (get_elem? nodes top.1)) (finish-cause top.0 top.1 pending m (get_elem? nodes top.1) refl st knows o q)) λ m' k.
      drain-cause fuel m'.pool.pending m' (one_taken top.0 top.1 pending m m' st knows k.1) k.0.0 k.0.1

  -- CAUSE in building
  pub cause_in_building : Ends ZAt (λ m. Unit {0}) (build_all nodes indexes start)
  unfolding build_all raw_rows
  cause_in_building =
      next _ (known-good (raw_rows nodes (reverse indexes) start []) (raws_walk [] (reverse indexes) [] start refl refl at_start)) λ r h.
      drain-cause (length r.1.pending + length nodes) r.1.pending _ (none_taken r.0 r.1 h.1) h.0 (raw_ones r.0 r.1 h.1)
