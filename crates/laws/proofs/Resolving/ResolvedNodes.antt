-- The nodes of a faithful resolving over a good table: what a goal became is a node of the list, children lead to nodes, and a bootstrap's
-- are constants. Assumes nothing.
use mathlib.Core.List.{List, [], ◌∷◌, map}
use mathlib.Core.Option.{Option, none, some}
use mathlib.Core.Path.{◌≡◌, refl, sym, ap, subst, ◌∙◌}
use Prim.Native.Nat.{ℕ, suc, ◌+◌, ◌-◌, ◌≤◌, ◌<◌}
use native.Mathlib.Omega.{arith}
use lib.ListN.{length, get_elem?}
use Rattle.definition.specs.Shapes.{bootstrap_tag, Entry, with_kids}
use Rattle.definition.specs.Definitions.{tag_at}
use Rattle.definition.specs.Resolving.{Goal, raw_number, table_entry, refusal, Node, first_node, Mark, done, Resolved, mark_child, child_of}
use Rattle.definition.specs.Building.{kids_of}
use Rattle.facts.specs.Lists.{Among}
use Rattle.facts.proofs.Lists.{clash, found_inside, found_read, unmap}
use Rattle.facts.proofs.Each.{Each}
use Rattle.laws.specs.Faithful.{Settled, Cited, IsNode, Faithful}
use Rattle.laws.proofs.Resolving.NodesAndChildren.{tag-found, KidsIn, Constant, ConstantChild, BootstrapKids}

-- a goal leads to no bootstrap
abbrev pub ConstantGoal : List (Entry ℕ Goal) → Goal → Type 0
ConstantGoal table (raw_number n) = n < first_node
ConstantGoal table (table_entry e) = (x : Entry ℕ Goal) → get_elem? table e ≡ some x → x.tag ≡ bootstrap_tag → ⊥
ConstantGoal table (refusal code) = Unit {0}

-- the child that an entry became
pub child_done : (marks : List Mark) (e k : ℕ) → get_elem? marks e ≡ some (done k) → child_of marks (table_entry e) ≡ first_node + k
unfolding child_of mark_child
child_done marks e k h = rw (found_read marks e (done k) (done 0) h)

-- a settled goal that became a node is an entry
pub settled-entry :
    (table : List (Entry ℕ Goal)) (marks : List Mark) (goal : Goal) →
    ConstantGoal table goal →
    Settled marks goal →
    first_node ≤ child_of marks goal →
    (e : ℕ) × (k : ℕ) × (goal ≡ table_entry e) × (get_elem? marks e ≡ some (done k)) × (child_of marks goal ≡ first_node + k)
unfolding child_of
settled-entry table marks (raw_number n) c h high = absurd (omega (arith, c, high))
settled-entry table marks (table_entry e) c h high = (e, h.0, refl, h.1, child_done marks e h.0 h.1)
settled-entry table marks (refusal code) c h high = absurd h

-- and one that became none is a raw number
pub settled-number : (marks : List Mark) (goal : Goal) → Settled marks goal → child_of marks goal < first_node → (n : ℕ) × (goal ≡ raw_number n)
settled-number marks (raw_number n) h low = (n, refl)
settled-number marks (table_entry e) h low = absurd (omega (arith, low, child_done marks e h.0 h.1))
settled-number marks (refusal code) h low = absurd h

-- what a settled goal became is a node of the list, and a constant if the goal leads to one
pub settled-child :
    (table : List (Entry ℕ Goal)) (s : Resolved) (goal : Goal) →
    Faithful table s →
    Settled s.marks goal →
    ConstantGoal table goal →
    first_node ≤ child_of s.marks goal →
    (child_of s.marks goal - first_node < length s.nodes) × Constant s.nodes (child_of s.marks goal - first_node)
unfolding child_of with_kids
settled-child table s (raw_number n) f h c high = absurd (omega (arith, c, high))
settled-child table s (table_entry e) f h c high =
    let node = f.node_of e h.0 h.1 in
    let same : child_of s.marks (table_entry e) - first_node ≡ h.0 = omega (arith, child_done s.marks e h.0 h.1) in
    let inside = found_inside s.nodes h.0 _ node.2 in
    (omega (arith, same, inside), λ t. c node.0 node.1 (sym (tag-found s.nodes h.0 _ node.2) ∙ ap (tag_at s.nodes) (sym same) ∙ t))
settled-child table s (refusal code) f h c high = absurd h

-- a raw number fits two bytes
abbrev pub Low : Goal → Type 0
Low (raw_number n) = n < first_node
Low (table_entry e) = Unit {0}
Low (refusal code) = Unit {0}

pub record GoodTable (table : List (Entry ℕ Goal)) : Type 0 where
  pub cited : Cited table
  pub low : (e : ℕ) (x : Entry ℕ Goal) (g : Goal) → get_elem? table e ≡ some x → Among g x.kids → Low g
  pub constant_kids : (e : ℕ) (x : Entry ℕ Goal) (g : Goal) → get_elem? table e ≡ some x → x.tag ≡ bootstrap_tag → Among g x.kids → ConstantGoal table g

module _ (table : List (Entry ℕ Goal)) (good : GoodTable table) (s : Resolved) (f : Faithful table s) where
  -- the entry that became a node
  pub node_entry : (k : ℕ) (nd : Node) → get_elem? s.nodes k ≡ some nd → (e : ℕ) × IsNode table s e k
  node_entry k nd at =
      let from = f.from_entry k (found_inside s.nodes k nd at) in
      (from.0, f.node_of from.0 k from.1)

  -- what a settled goal became is a node of the list, if it is a node
  settled-in : (g : Goal) → Low g → Settled s.marks g → first_node ≤ child_of s.marks g → child_of s.marks g < first_node + length s.nodes
  unfolding child_of
  settled-in (raw_number n) low h high = absurd (omega (arith, low, high))
  settled-in (table_entry e) low h high =
      let node = f.node_of e h.0 h.1 in
      omega (arith, child_done s.marks e h.0 h.1, found_inside s.nodes h.0 _ node.2)
  settled-in (refusal code) low h high = absurd h

  -- a node's children are what the entry's goals became
  same-kids :
      (k : ℕ) (nd : Node) (x : Entry ℕ Goal) →
      get_elem? s.nodes k ≡ some nd →
      get_elem? s.nodes k ≡ some (with_kids (map (child_of s.marks) x.kids) x) →
      map (child_of s.marks) x.kids ≡ nd.kids
  unfolding with_kids
  same-kids k nd x at is =
      let same : with_kids (map (child_of s.marks) x.kids) x ≡ nd = cc in
      ap (λ (n : Node). n.kids) same

  each_mapped :
      (gs : List Goal) →
      ((g : Goal) → Among g gs → first_node ≤ child_of s.marks g → (child_of s.marks g - first_node < length s.nodes) × Constant s.nodes (child_of s.marks g - first_node)) →
      Each (ConstantChild s.nodes) (map (child_of s.marks) gs)
  each_mapped [] h = tt
  each_mapped (g ∷ gs) h = (λ high. (h g (0, refl) high).1, each_mapped gs (λ g' a. h g' (suc a.0, a.1)))

  pub kids_in_lem : KidsIn s.nodes
  kids_in_lem k nd at c a high =
      let from = node_entry k nd at in
      let x = from.1.0 in
      let kids = same-kids k nd x at from.1.2 in
      let u = unmap (child_of s.marks) x.kids c (subst (Among c) (sym kids) a) in
      subst (λ c. c < first_node + length s.nodes) u.2
      (settled-in u.0 (good.low from.0 x u.0 from.1.1 u.1) (from.1.3 u.0 u.1) (subst (λ c. first_node ≤ c) (sym u.2) high))

  -- a node that is a bootstrap is one of the list
  pub bootstrap_found : (k : ℕ) (o : Option Node) → get_elem? s.nodes k ≡ o → tag_at s.nodes k ≡ bootstrap_tag → (nd : Node) × (get_elem? s.nodes k ≡ some nd)
  unfolding tag_at
  bootstrap_found k none e t = clash (cc (rw (e, tag_at) at t))
  bootstrap_found k (some nd) e t = (nd, e)

  -- so a bootstrap's children are constants
  pub bootstrap_kids : BootstrapKids s.nodes
  unfolding with_kids kids_of
  bootstrap_kids k t =
      let found = bootstrap_found k (get_elem? s.nodes k) refl t in
      let nd = found.0 in
      let from = node_entry k nd found.1 in
      let x = from.1.0 in
      let kids = same-kids k nd x found.1 from.1.2 in
      let tag : x.tag ≡ bootstrap_tag = sym (tag-found s.nodes k _ from.1.2) ∙ t in
      rw (found.1, kids_of, ← kids)
      (each_mapped x.kids (λ g a. settled-child table s g f (from.1.3 g a) (good.constant_kids from.0 x g from.1.1 tag a)))
