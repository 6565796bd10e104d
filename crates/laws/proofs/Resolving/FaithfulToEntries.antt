-- What resolving leaves behind is faithful to the entries: an entry that was resolved has become a node with its tag, literal and kind
-- byte and with what its own references became, nothing is left half done, and what was resolved before stays as it is. Assumes nothing.
use mathlib.Core.List.{List, [], ◌∷◌, ◌++◌, map, append_assoc, append-nil}
use mathlib.Core.Logic.{◌⊎◌, inl, inr, ⊎_map, ⊎_elim}
use mathlib.Core.Option.{some}
use mathlib.Core.Path.{◌≡◌, refl, sym, ap, subst, ◌∙◌, subst₂}
use Prim.Native.Nat.{ℕ, zero, suc, ◌<◌}
use native.Mathlib.Nat.{not-suc-le-zero}
use lib.ListN.{length, get_or, get_elem?, set, length-set, length-replicate}
use Rattle.definition.specs.Basics.{Result, good, bad, same, position, ◌>>=◌}
use Rattle.definition.specs.Shapes.{Entry, with_kids}
use Rattle.definition.specs.Resolving.{Goal, raw_number, table_entry, refusal, Node, Mark, fresh, underway, done, Resolved, Item, enter, leave}
use Rattle.definition.specs.Resolving.{same_node, mark_child, child_of, kids_at, visited, leave_node, leaving, entering, step, work, fuel_for}
use Rattle.definition.specs.Resolving.{resolve, resolve_all, nothing_resolved}
use Rattle.facts.specs.Lists.{Among}
use Rattle.facts.proofs.Lists.{clash, found_inside, found_read, read_found, inside_found, found_set, found_elsewhere, found_after_set, found_append, found_replicate, among-nil, among-cons, map_same}
use Rattle.facts.proofs.Results.{bad≢good, good_inj}
use Rattle.laws.proofs.Resolving.Interning.{interned}
use Rattle.laws.specs.Faithful.{Settled, InTable, Cited, IsNode, Faithful, Partial, Underway, Stacked, Now}

-- what was resolved stays as it is
pub record Grows (s s' : Resolved) : Type 0 where
  pub marks_kept : (e k : ℕ) → get_elem? s.marks e ≡ some (done k) → get_elem? s'.marks e ≡ some (done k)
  pub nodes_kept : (more : List Node) × (s'.nodes ≡ s.nodes ++ more)

-- nothing has to change
pub grows_refl : (s : Resolved) → Grows s s
grows_refl s = record { marks_kept = λ e k h. h; nodes_kept = ([], sym (append-nil s.nodes)) }

-- one growth after the other
pub grows_trans : (s s' s'' : Resolved) → Grows s s' → Grows s' s'' → Grows s s''
grows_trans s s' s'' g h = record {
  marks_kept = λ e k p. h.marks_kept e k (g.marks_kept e k p);
  nodes_kept = (g.nodes_kept.0 ++ h.nodes_kept.0, rw (h.nodes_kept.1, g.nodes_kept.1, append_assoc));
}

-- a settled goal stays settled
pub settled-grows : (s s' : Resolved) (g : Goal) → Grows s s' → Settled s.marks g → Settled s'.marks g
settled-grows s s' (raw_number n) h p = tt
settled-grows s s' (table_entry e) h p = (p.0, h.marks_kept e p.0 p.1)
settled-grows s s' (refusal code) h p = p

-- and is the same child
pub child_grows : (s s' : Resolved) (g : Goal) → Grows s s' → Settled s.marks g → child_of s'.marks g ≡ child_of s.marks g
unfolding child_of
child_grows s s' (raw_number n) h p = refl
child_grows s s' (table_entry e) h p =
    ap mark_child (found_read s'.marks e (done p.0) (done 0) (h.marks_kept e p.0 p.1) ∙ sym (found_read s.marks e (done p.0) (done 0) p.1))
child_grows s s' (refusal code) h p = refl

-- a node made of the children before is the entry's node after
node_made :
    (table : List (Entry ℕ Goal)) (s s' : Resolved) (e k : ℕ) (x : Entry ℕ Goal) →
    Grows s s' →
    get_elem? table e ≡ some x →
    get_elem? s'.nodes k ≡ some (with_kids (map (child_of s.marks) x.kids) x) →
    ((g : Goal) → Among g x.kids → Settled s.marks g) →
    IsNode table s' e k
node_made table s s' e k x h at node settled = (
  x,
  at,
  rw (map_same (child_of s'.marks) (child_of s.marks) x.kids (λ g p. child_grows s s' g h (settled g p))) node,
  λ g p. settled-grows s s' g h (settled g p),
)

-- an entry that is a node stays it
pub node_grows : (table : List (Entry ℕ Goal)) (s s' : Resolved) (e k : ℕ) → Grows s s' → IsNode table s e k → IsNode table s' e k
node_grows table s s' e k h n =
    node_made table s s' e k n.0 h n.1 (rw h.nodes_kept.1 (found_append s.nodes h.nodes_kept.0 k _ n.2)) n.3

-- a new mark of an entry that is no node keeps the others that are
mark_kept :
    (marks : List Mark) (e : ℕ) (old new : Mark) →
    get_elem? marks e ≡ some old →
    ((k : ℕ) → old ≡ done k → ⊥) →
    (d k : ℕ) →
    get_elem? marks d ≡ some (done k) →
    get_elem? (set marks e new) d ≡ some (done k)
mark_kept marks e old new at notDone d k h = found_elsewhere marks e d new (λ q. notDone k (cc)) ∙ h

-- an entry is marked as under way
abbrev begun : ℕ → Resolved → Resolved
begun e s = record { marks = set s.marks e underway; nodes = s.nodes; visits = suc s.visits }

-- that keeps what was resolved
begun_grows : (e : ℕ) (s : Resolved) → get_elem? s.marks e ≡ some fresh → Grows s (begun e s)
begun_grows e s is_fresh = record {
  marks_kept = mark_kept s.marks e fresh underway is_fresh (λ k q. clash (cc));
  nodes_kept = ([], sym (append-nil s.nodes));
}

-- so does leaving an entry
leave_grows : (e : ℕ) (n : Node) (s : Resolved) → Underway s.marks e → Grows s (leave_node e n s)
unfolding leave_node
leave_grows e n s u = record {
  marks_kept =
      mark_kept
      s.marks
      e
      underway
      (done (position (same_node n) s.nodes))
      u
      (λ k q. clash (cc));
  nodes_kept = (interned n s.nodes).kept;
}

module _ (table : List (Entry ℕ Goal)) where
  -- the children of an entry that is there
  pub kids_at-some : (e : ℕ) (x : Entry ℕ Goal) → get_elem? table e ≡ some x → kids_at table e ≡ x.kids
  unfolding kids_at
  kids_at-some e x at = rw (at, kids_at)

  -- leaving an entry that is there
  pub leaving-some :
      (e : ℕ) (x : Entry ℕ Goal) (s : Resolved) →
      get_elem? table e ≡ some x →
      leaving table e s ≡ leave_node e (with_kids (map (child_of s.marks) x.kids) x) s
  unfolding leaving
  leaving-some e x s at = rw (at, leaving)

  -- marks and nodes are right after an entry is marked as under way
  begun_partial : (e : ℕ) (s : Resolved) → get_elem? s.marks e ≡ some fresh → Partial table s → Partial table (begun e s)
  begun_partial e s is_fresh p = record {
    marks_length = length-set s.marks e underway ∙ p.marks_length;
    node_of = λ d k h. node d k (found_after_set s.marks e d underway (done k) h);
    from_entry = λ k h. let (d, q) = p.from_entry k h in (d, (begun_grows e s is_fresh).marks_kept d k q);
  }
    where
      node :
          (d k : ℕ) →
          ((d ≡ e) × (underway ≡ done k)) ⊎ ((d ≡ e → ⊥) × (get_elem? s.marks d ≡ some (done k))) →
          IsNode table (begun e s) d k
      node d k (inl q) = clash (cc q.1)
      node d k (inr q) = node_grows table s (begun e s) d k (begun_grows e s is_fresh) (p.node_of d k q.1)

  -- and after one is left whose children are settled
  leave_partial :
      (e : ℕ) (x : Entry ℕ Goal) (s : Resolved) →
      Partial table s →
      Underway s.marks e →
      get_elem? table e ≡ some x →
      ((g : Goal) → Among g x.kids → Settled s.marks g) →
      Partial table (leave_node e (with_kids (map (child_of s.marks) x.kids) x) s)
  unfolding leave_node
  leave_partial e x s p u at settled = record {
    marks_length = length-set s.marks e (done k₀) ∙ p.marks_length;
    node_of = λ d k h. node d k (found_after_set s.marks e d (done k₀) (done k) h);
    from_entry = λ k h. from k ((interned n s.nodes).no_other k h);
  }
    where
      n : Node
      n = with_kids (map (child_of s.marks) x.kids) x

      k₀ : ℕ
      k₀ = position (same_node n) s.nodes

      s' : Resolved
      s' = leave_node e n s

      grows : Grows s s'
      grows = leave_grows e n s u

      node : (d k : ℕ) → ((d ≡ e) × (done k₀ ≡ done k)) ⊎ ((d ≡ e → ⊥) × (get_elem? s.marks d ≡ some (done k))) → IsNode table s' d k
      node d k (inl q) =
          let same : k₀ ≡ k = cc q.1 in
          subst₂ (IsNode table s') (sym q.0) same (node_made table s s' e k₀ x grows at (interned n s.nodes).there settled)
      node d k (inr q) = node_grows table s s' d k grows (p.node_of d k q.1)

      from : (k : ℕ) → (k < length s.nodes) ⊎ (k ≡ k₀) → (d : ℕ) × (get_elem? s'.marks d ≡ some (done k))
      from k (inl h) = let (d, q) = p.from_entry k h in (d, grows.marks_kept d k q)
      from k (inr q) = (e, found_set s.marks e (done k₀) (found_inside s.marks e underway u) ∙ ap (λ (m : ℕ). some (done m)) (sym q))

module _ (table : List (Entry ℕ Goal)) (goal : Goal) where
  -- it holds as well with the same under way and more settled
  stacked_more :
      (U U' : ℕ → Type 0) (P P' : Goal → Type 0) (stack : List Item) →
      ((e : ℕ) → U e → U' e) →
      ((e : ℕ) → U' e → U e) →
      ((g : Goal) → P g → P' g) →
      Stacked table goal U P stack →
      Stacked table goal U' P' stack
  stacked_more U U' P P' [] there back more h = (λ e u. h.0 e (back e u), more goal h.1)
  stacked_more U U' P P' (enter g ∷ rest) there back more h =
      (h.0, stacked_more U U' (λ a. P a ⊎ (a ≡ g)) (λ a. P' a ⊎ (a ≡ g)) rest there back (λ a. ⊎_map (more a) (λ e. e)) h.1)
  stacked_more U U' P P' (leave e ∷ rest) there back more h =
      let below =
      stacked_more
      (λ d. U d × (d ≡ e → ⊥))
      (λ d. U' d × (d ≡ e → ⊥))
      (λ a. P a ⊎ (a ≡ table_entry e))
      (λ a. P' a ⊎ (a ≡ table_entry e))
      rest
      (λ d u. (there d u.0, u.1))
      (λ d u. (back d u.0, u.1))
      (λ a. ⊎_map (more a) (λ e. e))
      h.2 in
      (there e h.0, λ x at g p. more g (h.1 x at g p), below)

  -- goals to be entered first count as settled below
  stacked_kids :
      (U : ℕ → Type 0) (P : Goal → Type 0) (gs : List Goal) (stack : List Item) →
      ((g : Goal) → Among g gs → InTable (length table) g) →
      Stacked table goal U (λ h. P h ⊎ Among h gs) stack →
      Stacked table goal U P (map enter gs ++ stack)
  stacked_kids U P [] stack inside h = stacked_more U U (λ a. P a ⊎ Among a []) P stack (λ e u. u) (λ e u. u) none-there h
    where
      none-there : (a : Goal) → P a ⊎ Among a [] → P a
      none-there a (inl p) = p
      none-there a (inr m) = among-nil a m
  stacked_kids U P (g ∷ gs) stack inside h =
      let below = stacked_more U U (λ a. P a ⊎ Among a (g ∷ gs)) (λ a. (P a ⊎ (a ≡ g)) ⊎ Among a gs) stack (λ e u. u) (λ e u. u) turn h in
      (inside g (0, refl), stacked_kids U (λ a. P a ⊎ (a ≡ g)) gs stack (λ a m. inside a (suc m.0, m.1)) below)
    where
      first : (a : Goal) → (a ≡ g) ⊎ Among a gs → (P a ⊎ (a ≡ g)) ⊎ Among a gs
      first a (inl e) = inl (inr e)
      first a (inr m) = inr m

      turn : (a : Goal) → P a ⊎ Among a (g ∷ gs) → (P a ⊎ (a ≡ g)) ⊎ Among a gs
      turn a (inl p) = inl (inl p)
      turn a (inr m) = first a (among-cons a g gs m)

  -- what a step leaves
  abbrev pub Kept : Resolved → List Item → Resolved → Type 0
  Kept s stack s' = Partial table s' × Now table goal s' stack × Grows s s'

  -- entering what is settled
  enter_settled :
      (g : Goal) (rest : List Item) (s : Resolved) →
      Partial table s →
      Now table goal s (enter g ∷ rest) →
      Settled s.marks g →
      Kept s rest (visited s)
  unfolding visited
  enter_settled g rest s p h settled =
      let U = Underway s.marks in
      let P = Settled s.marks in
      let more : (a : Goal) → P a ⊎ (a ≡ g) → P a = λ a. ⊎_elim (λ q. q) (λ e. subst P (sym e) settled) in (
        record { marks_length = p.marks_length; node_of = p.node_of; from_entry = p.from_entry },
        stacked_more U U (λ a. P a ⊎ (a ≡ g)) P rest (λ e u. u) (λ e u. u) more h.1,
        record { marks_kept = λ e k q. q; nodes_kept = ([], sym (append-nil s.nodes)) },
      )

  -- entering a fresh entry
  enter_fresh :
      (e : ℕ) (rest : List Item) (s : Resolved) →
      Cited table →
      Partial table s →
      Now table goal s (enter (table_entry e) ∷ rest) →
      get_elem? s.marks e ≡ some fresh →
      Kept s (map enter (kids_at table e) ++ leave e ∷ [] ++ rest) (begun e s)
  enter_fresh e rest s cited p h is_fresh =
      let order = sym (append_assoc (map enter (kids_at table e)) (leave e ∷ []) rest) in
      let stacked = stacked_kids U' P' (kids_at table e) (leave e ∷ rest) inside (now, kids, below) in
      (begun_partial table e s is_fresh p, subst (λ (l : List Item). Now table goal (begun e s) l) order stacked, grows)
    where
      U : ℕ → Type 0
      U d = Underway s.marks d

      U' : ℕ → Type 0
      U' d = Underway (begun e s).marks d

      P : Goal → Type 0
      P g = Settled s.marks g

      P' : Goal → Type 0
      P' g = Settled (begun e s).marks g

      grows : Grows s (begun e s)
      grows = begun_grows e s is_fresh

      now : U' e
      now = found_set s.marks e underway (found_inside s.marks e fresh is_fresh)

      inside : (g : Goal) → Among g (kids_at table e) → InTable (length table) g
      inside g m =
          let (x, at) = inside_found table e h.0 in
          cited e x at g (subst (λ (l : List Goal). Among g l) (kids_at-some table e x at) m)

      kids : (x : Entry ℕ Goal) → get_elem? table e ≡ some x → (g : Goal) → Among g x.kids → P' g ⊎ Among g (kids_at table e)
      kids x at g m = inr (subst (λ (l : List Goal). Among g l) (sym (kids_at-some table e x at)) m)

      there : (d : ℕ) → U d → U' d × (d ≡ e → ⊥)
      there d u =
          let other : d ≡ e → ⊥ = λ q. clash (cc) in
          (found_elsewhere s.marks e d underway other ∙ u, other)

      back : (d : ℕ) → U' d × (d ≡ e → ⊥) → U d
      back d u = sym (found_elsewhere s.marks e d underway u.1) ∙ u.0

      Q : Goal → Type 0
      Q g = (P' g ⊎ Among g (kids_at table e)) ⊎ (g ≡ table_entry e)

      more : (g : Goal) → P g ⊎ (g ≡ table_entry e) → Q g
      more g (inl q) = inl (inl (settled-grows s (begun e s) g grows q))
      more g (inr q) = inr q

      below : Stacked table goal (λ d. U' d × (d ≡ e → ⊥)) Q rest
      below = stacked_more U (λ d. U' d × (d ≡ e → ⊥)) (λ g. P g ⊎ (g ≡ table_entry e)) Q rest there back more h.1

  -- leaving an entry of the table
  leave_entry :
      (e : ℕ) (rest : List Item) (s : Resolved) →
      Partial table s →
      Now table goal s (leave e ∷ rest) →
      (x : Entry ℕ Goal) →
      get_elem? table e ≡ some x →
      Kept s rest (leave_node e (with_kids (map (child_of s.marks) x.kids) x) s)
  unfolding leave_node
  leave_entry e rest s p h x at =
      let U : ℕ → Type 0 = λ d. Underway s.marks d × (d ≡ e → ⊥) in
      let P : Goal → Type 0 = λ g. Settled s.marks g ⊎ (g ≡ table_entry e) in (
        leave_partial table e x s p h.0 at (h.1 x at),
        stacked_more U (Underway s'.marks) P (Settled s'.marks) rest there back more h.2,
        grows,
      )
    where
      n : Node
      n = with_kids (map (child_of s.marks) x.kids) x

      k₀ : ℕ
      k₀ = position (same_node n) s.nodes

      s' : Resolved
      s' = leave_node e n s

      grows : Grows s s'
      grows = leave_grows e n s h.0

      now : get_elem? s'.marks e ≡ some (done k₀)
      now = found_set s.marks e (done k₀) (found_inside s.marks e underway h.0)

      there : (d : ℕ) → Underway s.marks d × (d ≡ e → ⊥) → Underway s'.marks d
      there d u = found_elsewhere s.marks e d (done k₀) u.1 ∙ u.0

      still : (d : ℕ) → ((d ≡ e) × (done k₀ ≡ underway)) ⊎ ((d ≡ e → ⊥) × Underway s.marks d) → Underway s.marks d × (d ≡ e → ⊥)
      still d (inl q) = clash (cc q.1)
      still d (inr q) = (q.1, q.0)

      back : (d : ℕ) → Underway s'.marks d → Underway s.marks d × (d ≡ e → ⊥)
      back d u = still d (found_after_set s.marks e d (done k₀) underway u)

      more : (g : Goal) → Settled s.marks g ⊎ (g ≡ table_entry e) → Settled s'.marks g
      more g (inl q) = settled-grows s s' g grows q
      more g (inr q) = subst (Settled s'.marks) (sym q) (k₀, now)

  -- leaving an entry that is under way: it is one of the table
  leave_kept : (e : ℕ) (rest : List Item) (s : Resolved) → Partial table s → Now table goal s (leave e ∷ rest) → Kept s rest (leaving table e s)
  leave_kept e rest s p h =
      let inside = subst (λ (n : ℕ). e < n) p.marks_length (found_inside s.marks e underway h.0) in
      let (x, at) = inside_found table e inside in
      subst (λ (s' : Resolved). Kept s rest s') (sym (leaving-some table e x s at)) (leave_entry e rest s p h x at)

  -- what a step leaves, told of its result
  taken :
      (rest : List Item) (s : Resolved) (r r' : List Item × Resolved) →
      ◌≡◌ {A = Result ℕ (List Item × Resolved)} (good r) (good r') →
      Kept s (r.0 ++ rest) r.1 →
      Kept s (r'.0 ++ rest) r'.1
  taken rest s r r' e = subst (λ (r : List Item × Resolved). Kept s (r.0 ++ rest) r.1) (good_inj e)

  -- one step keeps what holds
  pub step_kept :
      (item : Item) (rest : List Item) (s : Resolved) (r : List Item × Resolved) →
      Cited table →
      Partial table s →
      Now table goal s (item ∷ rest) →
      step table item s ≡ good r →
      Kept s (r.0 ++ rest) r.1
  unfolding step entering
  step_kept (enter (raw_number n)) rest s r cited p h e = taken rest s ([], visited s) r e (enter_settled (raw_number n) rest s p h tt)
  step_kept (enter (table_entry d)) rest s r cited p h e =
      go (get_or s.marks d (done 0)) (read_found s.marks d (done 0) (subst (λ (n : ℕ). d < n) (sym p.marks_length) h.0)) e
    where
      go : (m : Mark) → get_elem? s.marks d ≡ some m → entering table d m s ≡ good r → Kept s (r.0 ++ rest) r.1
      go fresh at e = taken rest s (map enter (kids_at table d) ++ leave d ∷ [], begun d s) r e (enter_fresh d rest s cited p h at)
      go underway at e = bad≢good e
      go (done k) at e = taken rest s ([], visited s) r e (enter_settled (table_entry d) rest s p h (k, at))
  step_kept (enter (refusal code)) rest s r cited p h e = bad≢good e
  step_kept (leave d) rest s r cited p h e = taken rest s ([], leaving table d s) r e (leave_kept d rest s p h)

  -- what work leaves when it is done
  abbrev Left : Resolved → Resolved → Type 0
  Left s s' = Faithful table s' × Settled s'.marks goal × Grows s s'

  -- the stack is empty
  left-empty : (s s' : Resolved) → Partial table s → Now table goal s [] → ◌≡◌ {A = Result ℕ Resolved} (good s) (good s') → Left s s'
  left-empty s s' p h e =
      let faithful : Faithful table s = record { marks_length = p.marks_length; node_of = p.node_of; from_entry = p.from_entry; none_underway = h.0 } in
      subst (Left s) (good_inj e) (faithful, h.1, grows_refl s)

  -- work that ends, with whatever fuel
  work-left :
      (fuel : ℕ) (stack : List Item) (s s' : Resolved) →
      Cited table →
      Partial table s →
      Now table goal s stack →
      work fuel table stack s ≡ good s' →
      Left s s'
  unfolding work
  work-left zero [] s s' cited p h e = left-empty s s' p h e
  work-left zero (i ∷ stack) s s' cited p h e = bad≢good e
  work-left (suc fuel) [] s s' cited p h e = left-empty s s' p h e
  work-left (suc fuel) (i ∷ stack) s s' cited p h e = go (step table i s) refl e (λ stack₁ s₁. work-left fuel stack₁ s₁ s' cited)
    where
      go :
          (r : Result ℕ (List Item × Resolved)) →
          step table i s ≡ r →
          (r >>= λ r. work fuel table (r.0 ++ stack) r.1) ≡ good s' →
          ((stack₁ : List Item) (s₁ : Resolved) → Partial table s₁ → Now table goal s₁ stack₁ → work fuel table stack₁ s₁ ≡ good s' → Left s₁ s') →
          Left s s'
      go (bad code) q e ih = bad≢good e
      go (good r) q e ih =
          let (p₁, h₁, grows) = step_kept i stack s r cited p h q in
          let (faithful, settled, grows₁) = ih (r.0 ++ stack) r.1 p₁ h₁ e in
          (faithful, settled, grows_trans s r.1 s' grows grows₁)

-- with nothing resolved yet
pub nothing_faithful : (table : List (Entry ℕ Goal)) → Cited table → Faithful table (nothing_resolved table)
unfolding nothing_resolved
nothing_faithful table cited = record {
  marks_length = length-replicate (length table) fresh;
  node_of = λ e k h. clash (cc (found_replicate (length table) e fresh (done k) h));
  from_entry = λ k h. absurd (not-suc-le-zero h);
  none_underway = λ e h. clash (cc (found_replicate (length table) e fresh underway h));
}

-- resolving a goal: faithful again, the goal settled, and what was resolved kept
pub resolve-faithful :
    (table : List (Entry ℕ Goal)) (goal : Goal) (s s' : Resolved) →
    Cited table →
    InTable (length table) goal →
    Faithful table s →
    resolve table goal s ≡ good s' →
    Faithful table s' × Settled s'.marks goal × Grows s s'
unfolding resolve
resolve-faithful table goal s s' cited inside f e =
    let p : Partial table s = record { marks_length = f.marks_length; node_of = f.node_of; from_entry = f.from_entry } in
    work-left table goal (fuel_for table) (enter goal ∷ []) s s' cited p (inside, (f.none_underway, inr refl)) e

-- resolving several
pub resolve_all-faithful :
    (table : List (Entry ℕ Goal)) (goals : List Goal) (s s' : Resolved) →
    Cited table →
    ((g : Goal) → Among g goals → InTable (length table) g) →
    Faithful table s →
    resolve_all table goals s ≡ good s' →
    Faithful table s' × ((g : Goal) → Among g goals → Settled s'.marks g) × Grows s s'
unfolding resolve_all
resolve_all-faithful table [] s s' cited inside f e =
    subst
    (λ (s' : Resolved). Faithful table s' × ((g : Goal) → Among g [] → Settled s'.marks g) × Grows s s')
    (good_inj e)
    (f, λ g m. among-nil g m, grows_refl s)
resolve_all-faithful table (g ∷ goals) s s' cited inside f e = go (resolve table g s) refl e (λ s₁. resolve_all-faithful table goals s₁ s' cited)
  where
    go :
        (r : Result ℕ Resolved) →
        resolve table g s ≡ r →
        (r >>= λ s₁. resolve_all table goals s₁) ≡ good s' →
        ((s₁ : Resolved) →
        ((a : Goal) → Among a goals → InTable (length table) a) →
        Faithful table s₁ →
        resolve_all table goals s₁ ≡ good s' →
        Faithful table s' × ((a : Goal) → Among a goals → Settled s'.marks a) × Grows s₁ s') →
        Faithful table s' × ((a : Goal) → Among a (g ∷ goals) → Settled s'.marks a) × Grows s s'
    go (bad code) q e ih = bad≢good e
    go (good s₁) q e ih =
        let (f₁, settled, grows) = resolve-faithful table g s s₁ cited (inside g (0, refl)) f q in
        let (f₂, others, more) = ih s₁ (λ a m. inside a (suc m.0, m.1)) f₁ e in
        let first : Settled s'.marks g = settled-grows s₁ s' g more settled in (
          f₂,
          λ a m. ⊎_elim (λ q. subst (Settled s'.marks) (sym q) first) (others a) (among-cons a g goals m),
          grows_trans s s₁ s' grows more,
        )
