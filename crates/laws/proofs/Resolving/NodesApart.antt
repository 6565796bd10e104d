-- No two nodes are equal, and a node's children come before it: what interning keeps, and so resolving. Assumes nothing.
use mathlib.Core.Bool.{Bool, true, false}
use mathlib.Core.List.{List, [], ◌∷◌, ◌++◌, map}
use mathlib.Core.Logic.{◌⊎◌, inl, inr}
use mathlib.Core.Option.{Option, none, some}
use mathlib.Core.Path.{◌≡◌, refl, sym, ap, subst, ◌∙◌}
use Prim.Native.Nat.{ℕ, zero, suc, ◌+◌, ◌<◌}
use native.Mathlib.Omega.{arith}
use lib.Dec.{ltb}
use lib.ListN.{length, get_or, get_elem?, set, length-append, length-set, length-replicate}
use borrow.Author.Tests.{eq-eqb, ltb-false}
use Rattle.definition.specs.Basics.{good, position}
use Rattle.definition.specs.Shapes.{Entry, with_kids}
use Rattle.definition.specs.Resolving.{Goal, raw_number, table_entry, refusal, Node, first_node, Mark, fresh, underway, done, Resolved, Item, enter, leave}
use Rattle.definition.specs.Resolving.{same_node, intern, mark_child, child_of, visited, leave_node, leaving, entering, step, work, fuel_for, resolve, resolve_all, nothing_resolved}
use Rattle.facts.specs.Lists.{Among}
use Rattle.facts.proofs.Lists.{clash, same_refl, found_inside, read_found, found_after_set, found_replicate, append_at, among-nil, unmap, position-hit}
use Rattle.facts.proofs.Results.{bad≢good, good_inj, good_then}
use Rattle.laws.specs.Faithful.{InTable}
use Rattle.laws.proofs.Resolving.Interning.{intern-old, intern-new, interned}
use Rattle.laws.proofs.Resolving.FaithfulToEntries.{leaving-some}
use Rattle.laws.proofs.Resolving.ResolvedNodes.{Low, GoodTable}

pub record Orderly (nodes : List Node) : Type 0 where
  pub differ : (i j : ℕ) (nd : Node) → get_elem? nodes i ≡ some nd → get_elem? nodes j ≡ some nd → i ≡ j
  pub before : (k : ℕ) (nd : Node) → get_elem? nodes k ≡ some nd → (c : ℕ) → Among c nd.kids → c < first_node + k

node_same : (n : Node) → same_node n n ≡ true
unfolding same_node
node_same n = rw (eq-eqb n.tag n.tag refl, eq-eqb n.literal n.literal refl, eq-eqb n.byte n.byte refl, same_refl n.kids)

-- one node more, whose children are there and which isn't there itself
orderly_more :
    (n : Node) (nodes : List Node) →
    ((c : ℕ) → Among c n.kids → c < first_node + length nodes) →
    ((i : ℕ) → get_elem? nodes i ≡ some n → ⊥) →
    Orderly nodes →
    Orderly (nodes ++ n ∷ [])
orderly_more n nodes there new h =
    record {
      differ = λ i j nd p q. two i j nd (at i nd p) (at j nd q);
      before = λ k nd p c a. kids k nd c a (at k nd p);
    }
  where
    -- a node is an old one, or the new one behind them
    Where : ℕ → Node → Type 0
    Where i nd = (get_elem? nodes i ≡ some nd) ⊎ ((i ≡ length nodes) × (n ≡ nd))

    last : (i : ℕ) (nd : Node) → (get_elem? nodes i ≡ some nd) ⊎ ((j : ℕ) × (i ≡ length nodes + j) × (get_elem? (n ∷ []) j ≡ some nd)) → Where i nd
    last i nd (inl p) = inl p
    last i nd (inr (j, e, p)) =
        let low = found_inside (n ∷ []) j nd p in
        inr (omega (arith, low, e), found_replicate 1 j n nd p)

    at : (i : ℕ) (nd : Node) → get_elem? (nodes ++ n ∷ []) i ≡ some nd → Where i nd
    at i nd p = last i nd (append_at nodes (n ∷ []) i nd p)

    two : (i j : ℕ) (nd : Node) → Where i nd → Where j nd → i ≡ j
    two i j nd (inl p) (inl q) = h.differ i j nd p q
    two i j nd (inl p) (inr q) = absurd (new i (p ∙ ap some (sym q.1)))
    two i j nd (inr p) (inl q) = absurd (new j (q ∙ ap some (sym p.1)))
    two i j nd (inr p) (inr q) = p.0 ∙ sym q.0

    kids : (k : ℕ) (nd : Node) (c : ℕ) → Among c nd.kids → Where k nd → c < first_node + k
    kids k nd c a (inl p) = h.before k nd p c a
    kids k nd c a (inr p) =
        let low = there c (subst (λ (x : Node). Among c x.kids) (sym p.1) a) in
        omega (arith, low, p.0)

pub intern-orderly :
    (n : Node) (nodes : List Node) → ((c : ℕ) → Among c n.kids → c < first_node + length nodes) → Orderly nodes → Orderly (intern n nodes)
intern-orderly n nodes there h = go (ltb (position (same_node n) nodes) (length nodes)) refl
  where
    new : ltb (position (same_node n) nodes) (length nodes) ≡ false → (i : ℕ) → get_elem? nodes i ≡ some n → ⊥
    new e i p =
        let hit = position-hit (same_node n) nodes i n p (node_same n) in
        let low = found_inside nodes (position (same_node n) nodes) hit.0 hit.1 in
        let high = ltb-false (position (same_node n) nodes) (length nodes) e in
        omega (arith, low, high)

    go : (b : Bool) → ltb (position (same_node n) nodes) (length nodes) ≡ b → Orderly (intern n nodes)
    go true e = rw (intern-old n nodes e) h
    go false e = rw (intern-new n nodes e) (orderly_more n nodes there (new e) h)

module _ (table : List (Entry ℕ Goal)) where
  -- and the entries that are nodes are nodes of the list
  pub record Tidy (s : Resolved) : Type 0 where
    pub marks_length : length s.marks ≡ length table
    pub marked : (e k : ℕ) → get_elem? s.marks e ≡ some (done k) → k < length s.nodes
    pub orderly : Orderly s.nodes

  pub nothing_tidy : Tidy (nothing_resolved table)
  unfolding nothing_resolved
  nothing_tidy =
      record {
        marks_length = length-replicate (length table) fresh;
        marked = λ e k h. clash (cc (found_replicate (length table) e fresh (done k) h));
        orderly = record { differ = λ i j nd p q. among-nil nd (i, p); before = λ k nd p c a. among-nil nd (k, p) };
      }

  visited-tidy : (s : Resolved) → Tidy s → Tidy (visited s)
  unfolding visited
  visited-tidy s h = record { marks_length = h.marks_length; marked = h.marked; orderly = h.orderly }

  -- an entry is marked as under way
  begun_tidy : (e : ℕ) (s : Resolved) → Tidy s → Tidy (record { marks = set s.marks e underway; nodes = s.nodes; visits = suc s.visits })
  begun_tidy e s h =
      record {
        marks_length = length-set s.marks e underway ∙ h.marks_length;
        marked = λ d k p. go d k (found_after_set s.marks e d underway (done k) p);
        orderly = h.orderly;
      }
    where
      go : (d k : ℕ) → ((d ≡ e) × (underway ≡ done k)) ⊎ ((d ≡ e → ⊥) × (get_elem? s.marks d ≡ some (done k))) → k < length s.nodes
      go d k (inl q) = clash (cc q.1)
      go d k (inr q) = h.marked d k q.1

  -- an entry becomes a node whose children are there
  leave_tidy : (e : ℕ) (n : Node) (s : Resolved) → ((c : ℕ) → Among c n.kids → c < first_node + length s.nodes) → Tidy s → Tidy (leave_node e n s)
  unfolding leave_node
  leave_tidy e n s there h =
      record {
        marks_length = length-set s.marks e (done k₀) ∙ h.marks_length;
        marked = λ d k p. go d k (found_after_set s.marks e d (done k₀) (done k) p);
        orderly = intern-orderly n s.nodes there h.orderly;
      }
    where
      k₀ : ℕ
      k₀ = position (same_node n) s.nodes

      more : (k : ℕ) → k < length s.nodes → k < length (intern n s.nodes)
      more k low =
          let kept = (interned n s.nodes).kept in
          rw (kept.1, length-append) (omega (arith, low))

      go : (d k : ℕ) → ((d ≡ e) × (done k₀ ≡ done k)) ⊎ ((d ≡ e → ⊥) × (get_elem? s.marks d ≡ some (done k))) → k < length (intern n s.nodes)
      go d k (inl q) =
          let same : k₀ ≡ k = cc q.1 in
          subst (λ i. i < length (intern n s.nodes)) same (found_inside (intern n s.nodes) k₀ n (interned n s.nodes).there)
      go d k (inr q) = more k (h.marked d k q.1)

  module _ (fine : GoodTable table) where
    -- what a goal of an entry is at any time comes before a new node
    child_before : (s : Resolved) (g : Goal) → Tidy s → InTable (length table) g → Low g → child_of s.marks g < first_node + length s.nodes
    unfolding child_of mark_child
    child_before s (raw_number n) h inside low = omega (arith, low)
    child_before s (table_entry e) h inside low =
        go (get_or s.marks e (done 0)) (read_found s.marks e (done 0) (subst (λ n. e < n) (sym h.marks_length) inside))
      where
        go : (m : Mark) → get_elem? s.marks e ≡ some m → mark_child m < first_node + length s.nodes
        go fresh at = omega arith
        go underway at = omega arith
        go (done k) at = omega (arith, h.marked e k at)
    child_before s (refusal code) h inside low = omega arith

    leaving-tidy : (e : ℕ) (s : Resolved) → Tidy s → Tidy (leaving table e s)
    unfolding with_kids leaving
    leaving-tidy e s h = go (get_elem? table e) refl
      where
        nothing : get_elem? table e ≡ none → leaving table e s ≡ visited s
        nothing at = rw (at, leaving)

        go : (o : Option (Entry ℕ Goal)) → get_elem? table e ≡ o → Tidy (leaving table e s)
        go none at = rw (nothing at) (visited-tidy s h)
        go (some x) at =
            rw (leaving-some table e x s at)
            (leave_tidy e (with_kids (map (child_of s.marks) x.kids) x) s
            (λ c a.
            let u = unmap (child_of s.marks) x.kids c a in
            subst (λ c. c < first_node + length s.nodes) u.2 (child_before s u.0 h (fine.cited e x at u.0 u.1) (fine.low e x u.0 at u.1)))
            h)

    step-tidy : (item : Item) (s : Resolved) (r : List Item × Resolved) → Tidy s → step table item s ≡ good r → Tidy r.1
    unfolding step entering
    step-tidy (enter (raw_number n)) s r h e = subst (λ (x : List Item × Resolved). Tidy x.1) (good_inj e) (visited-tidy s h)
    step-tidy (enter (table_entry d)) s r h e = go (get_or s.marks d (done 0)) e
      where
        go : (m : Mark) → entering table d m s ≡ good r → Tidy r.1
        go fresh e = subst (λ (x : List Item × Resolved). Tidy x.1) (good_inj e) (begun_tidy d s h)
        go underway e = bad≢good e
        go (done k) e = subst (λ (x : List Item × Resolved). Tidy x.1) (good_inj e) (visited-tidy s h)
    step-tidy (enter (refusal code)) s r h e = bad≢good e
    step-tidy (leave d) s r h e = subst (λ (x : List Item × Resolved). Tidy x.1) (good_inj e) (leaving-tidy d s h)

    work-tidy : (fuel : ℕ) (stack : List Item) (s s' : Resolved) → Tidy s → work fuel table stack s ≡ good s' → Tidy s'
    unfolding work
    work-tidy zero [] s s' h e = subst Tidy (good_inj e) h
    work-tidy zero (i ∷ stack) s s' h e = bad≢good e
    work-tidy (suc fuel) [] s s' h e = subst Tidy (good_inj e) h
    work-tidy (suc fuel) (i ∷ stack) s s' h e =
        good_then (step table i s) _ s' e λ r here e₁. work-tidy fuel (r.0 ++ stack) r.1 s' (step-tidy i s r h here) e₁

    pub resolve-tidy : (goal : Goal) (s s' : Resolved) → Tidy s → resolve table goal s ≡ good s' → Tidy s'
    unfolding resolve
    resolve-tidy goal s s' h e = work-tidy (fuel_for table) (enter goal ∷ []) s s' h e

    pub resolve_all-tidy : (goals : List Goal) (s s' : Resolved) → Tidy s → resolve_all table goals s ≡ good s' → Tidy s'
    unfolding resolve_all
    resolve_all-tidy [] s s' h e = subst Tidy (good_inj e) h
    resolve_all-tidy (g ∷ goals) s s' h e = good_then (resolve table g s) _ s' e λ r here e₁. resolve_all-tidy goals r s' (resolve-tidy g s r h here) e₁
