-- What requests keep, and what each answer is: the slot of what its reference became. Assumes nothing.
use mathlib.Core.Bool.{Bool, true, ◌||◌, not}
use mathlib.Core.List.{List, [], ◌∷◌, ◌++◌}
use mathlib.Core.Logic.{◌⊎◌, inl, inr}
use mathlib.Core.Option.{some}
use mathlib.Core.Path.{◌≡◌, refl, sym, ap, subst, ◌∙◌}
use Prim.Native.Nat.{ℕ, zero, suc, ◌+◌, ◌-◌, ◌≤◌, ◌<◌}
use native.Mathlib.Omega.{arith}
use lib.Dec.{leb, ltb}
use lib.ListN.{length, get_elem?, length-append}
use borrow.Author.Tests.{ltb-true, ltb-false, leb-true}
use Rattle.definition.specs.Basics.{good, at_record, unless}
use Rattle.definition.specs.Shapes.{Entry}
use Rattle.definition.specs.Job.{Request}
use Rattle.definition.specs.Definitions.{Held, Naming}
use Rattle.definition.specs.Resolving.{Goal, goal_of, Node, first_node, Resolved, child_of, resolve}
use Rattle.definition.specs.Slots.{highest_ldc}
use Rattle.definition.specs.Building.{Pool, allocate, slot_of}
use Rattle.definition.specs.Layout.{Ready, answer, answer_all}
use Rattle.facts.specs.Lists.{Among}
use Rattle.facts.proofs.Lists.{clash, none≢some, some_inj}
use Rattle.facts.proofs.Tables.{some_key, some-row}
use Rattle.facts.proofs.Each.{Each, each_weaker}
use Rattle.facts.proofs.Results.{good_inj, good_then, at_record-good, unless-good, decided}
use Rattle.laws.specs.Statements.{Occurs, after_request, more_resolved}
use Rattle.laws.proofs.Resolving.FaithfulToEntries.{Grows, grows_refl, grows_trans, settled-grows, child_grows, resolve-faithful}
use Rattle.laws.specs.Faithful.{Settled, InTable, Cited, Faithful}
use Rattle.laws.proofs.Resolving.NodesAndChildren.{tag-append, Constant}
use Rattle.laws.proofs.Resolving.ResolvedNodes.{ConstantGoal, settled-child}
use Rattle.laws.proofs.Slots.SlotRequest.{Met, old, new, met}
use Rattle.laws.proofs.Slots.Keeps.{keeps}
use Rattle.laws.proofs.Slots.SlotsToHold.{to_hold}
use Rattle.laws.proofs.Building.ChildNumbers.{SlotFor, SlotsKept, slots_same, slots_twice, slot_kept}

-- what a pool keeps, over nodes
pub record Pooled (top : ℕ) (held : List (ℕ × Held)) (raws : List (ℕ × ℕ)) (nodes : List Node) (p : Pool) : Type 0 where
  pub occurs : Occurs top held nodes p
  pub stack : p.pending ≡ to_hold p.given raws
  pub given_in : Each (λ r. (r.0 < length nodes) × Constant nodes r.0) p.given

module _ (top : ℕ) (held : List (ℕ × Held)) (raws : List (ℕ × ℕ)) (nodes : List Node) where
  -- a node's slot
  allocate-pooled :
      (ldc : Bool) (k s : ℕ) (p p' : Pool) →
      k < length nodes →
      Constant nodes k →
      allocate nodes ldc k p ≡ good (s, p') →
      Pooled top held raws nodes p →
      Pooled top held raws nodes p'
  allocate-pooled ldc k s p p' low c e h = go (met nodes ldc k s p p' e)
    where
      go : Met nodes ldc k p s p' → Pooled top held raws nodes p'
      go (old _ same) = subst (Pooled top held raws nodes) (sym same) h
      go (new slots _ _ same) =
          record {
            occurs = after_request ldc k s p' h.occurs low e;
            stack = ap (λ (q : Pool). q.pending) same ∙ ap (λ l. (s, k) ∷ l) h.stack ∙ ap (λ (q : Pool). to_hold q.given raws) (sym same);
            given_in = subst (λ (q : Pool). Each (λ r. (r.0 < length nodes) × Constant nodes r.0) q.given) (sym same) ((low, c), h.given_in);
          }

  -- a child's slot: what it is, what is kept
  pub slot_of-pooled :
      (ldc : Bool) (child : ℕ) (p : Pool) (r : ℕ × Pool) →
      (first_node ≤ child → (child - first_node < length nodes) × Constant nodes (child - first_node)) →
      slot_of nodes ldc child p ≡ good r →
      Pooled top held raws nodes p →
      Pooled top held raws nodes r.1 × SlotFor r.1.given child r.0 × SlotsKept p.given r.1.given
  unfolding slot_of
  slot_of-pooled ldc child p r c e h =
      decided (ltb child first_node) _ _ (good r) e
      (λ t e₁.
      let same = good_inj e₁ in
      subst (λ (x : ℕ × Pool). Pooled top held raws nodes x.1 × SlotFor x.1.given child x.0 × SlotsKept p.given x.1.given) same
      (h, inl (ltb-true child first_node t, refl), slots_same))
      (λ t e₁.
      let high = ltb-false child first_node t in
      let kept = keeps nodes ldc (child - first_node) r.0 p r.1 e₁ in
      (allocate-pooled ldc (child - first_node) r.0 p r.1 (c high).0 (c high).1 e₁ h, inr (high, kept.0), record { slot_stays = kept.1 }))

-- more nodes change nothing
pooled_more :
    (top : ℕ) (held : List (ℕ × Held)) (raws : List (ℕ × ℕ)) (nodes more : List Node) (p : Pool) →
    Pooled top held raws nodes p →
    Pooled top held raws (nodes ++ more) p
pooled_more top held raws nodes more p h =
    record {
      occurs = more_resolved more h.occurs;
      stack = h.stack;
      given_in =
          each_weaker (λ r. (r.0 < length nodes) × Constant nodes r.0) (λ r. (r.0 < length (nodes ++ more)) × Constant (nodes ++ more) r.0)
          (λ r k. (rw length-append (omega (arith, k.0)), λ t. k.1 (sym (tag-append nodes more r.0 k.0) ∙ t)))
          p.given
          h.given_in;
    }

-- what is kept from record 50 on: the table, what is resolved, the pool
pub record Going (table : List (Entry ℕ Goal)) (top : ℕ) (held : List (ℕ × Held)) (raws : List (ℕ × ℕ)) (w : Ready) : Type 0 where
  pub same_table : w.table ≡ table
  pub faithful : Faithful table w.resolved
  pub pooled : Pooled top held raws w.resolved.nodes w.pool

-- an answer: its goal is settled, and the number is the slot of what it became
pub record Answered (goal : Goal) (a : ℕ) (w : Ready) : Type 0 where
  pub settled : Settled w.resolved.marks goal
  pub slot : SlotFor w.pool.given (child_of w.resolved.marks goal) a

-- what is there stays there
pub record Further (w w' : Ready) : Type 0 where
  pub grows : Grows w.resolved w'.resolved
  pub kept : SlotsKept w.pool.given w'.pool.given

module _ (table : List (Entry ℕ Goal)) (cited : Cited table) (top : ℕ) (held : List (ℕ × Held)) (raws : List (ℕ × ℕ)) where
  pub answer-going :
      (ldc : Bool) (goal : Goal) (w : Ready) (r : ℕ × Ready) →
      InTable (length table) goal →
      ConstantGoal table goal →
      answer ldc goal w ≡ good r →
      Going table top held raws w →
      Going table top held raws r.1 × Answered goal r.0 r.1 × Further w r.1
  unfolding answer
  answer-going ldc goal w r cites c e h =
      good_then (resolve w.table goal w.resolved) _ r e λ s resolved e₁.
      good_then (slot_of s.nodes ldc (child_of s.marks goal) w.pool) _ r e₁ λ a slotted e₂.
      good_then (unless (not ldc || leb a.0 highest_ldc) 16) _ r e₂ λ _ _ e₃.
      let now = resolve-faithful table goal w.resolved s cited cites h.faithful (subst (λ t. resolve t goal w.resolved ≡ good s) h.same_table resolved) in
      let more = now.2.nodes_kept in
      let before : Pooled top held raws s.nodes w.pool =
      subst (λ n. Pooled top held raws n w.pool) (sym more.1) (pooled_more top held raws w.resolved.nodes more.0 w.pool h.pooled) in
      let p = slot_of-pooled top held raws s.nodes ldc (child_of s.marks goal) w.pool a (settled-child table s goal now.0 now.1 c) slotted before in
      subst (λ (x : ℕ × Ready). Going table top held raws x.1 × Answered goal x.0 x.1 × Further w x.1) (good_inj e₃) (
        record { same_table = h.same_table; faithful = now.0; pooled = p.0 },
        record { settled = now.1; slot = p.1 },
        record { grows = now.2; kept = p.2 },
      )

-- a slot that is given out after one request for a node was before, or it is the node's
row_before :
    (nodes : List Node) (ldc : Bool) (n : ℕ) (p : Pool) (r : ℕ × Pool) (k a : ℕ) →
    allocate nodes ldc n p ≡ good r →
    Among (k, a) r.1.given →
    Among (k, a) p.given ⊎ ((n ≡ k) × (r.0 ≡ a))
row_before nodes ldc n p r k a e h = go (met nodes ldc n r.0 p r.1 e)
  where
    row : Among (k, a) ((n, r.0) ∷ p.given) → Among (k, a) p.given ⊎ ((n ≡ k) × (r.0 ≡ a))
    row (zero, at) = inr (some_key (n, r.0) (k, a) at, some-row (n, r.0) (k, a) at)
    row (suc i, at) = inl (i, at)

    go : Met nodes ldc n p r.0 r.1 → Among (k, a) p.given ⊎ ((n ≡ k) × (r.0 ≡ a))
    go (old _ same) = inl (subst (λ (q : Pool). Among (k, a) q.given) same h)
    go (new slots _ _ same) = row (subst (λ (q : Pool). Among (k, a) q.given) same h)

-- so an answer gives out at most one slot, to the node that was asked for
pub answer-given :
    (ldc : Bool) (goal : Goal) (w : Ready) (r : ℕ × Ready) (k a : ℕ) →
    answer ldc goal w ≡ good r →
    Among (k, a) r.1.pool.given →
    Among (k, a) w.pool.given ⊎ ((child_of r.1.resolved.marks goal ≡ first_node + k) × (r.0 ≡ a))
unfolding answer slot_of
answer-given ldc goal w r k a e h =
    good_then (resolve w.table goal w.resolved) _ r e λ s _ e₁.
    good_then (slot_of s.nodes ldc (child_of s.marks goal) w.pool) _ r e₁ λ x slotted e₂.
    good_then (unless (not ldc || leb x.0 highest_ldc) 16) _ r e₂ λ _ _ e₃.
    subst (λ (y : ℕ × Ready). Among (k, a) y.1.pool.given → Among (k, a) w.pool.given ⊎ ((child_of y.1.resolved.marks goal ≡ first_node + k) × (y.0 ≡ a))) (good_inj e₃)
    (λ h.
    decided (ltb (child_of s.marks goal) first_node) _ _ (good x) slotted
    (λ _ f. inl (subst (λ (z : ℕ × Pool). Among (k, a) z.1.given) (sym (good_inj f)) h))
    (λ t f. ways s (ltb-false (child_of s.marks goal) first_node t) (row_before s.nodes ldc (child_of s.marks goal - first_node) w.pool x k a f h)))
    h
  where
    ways :
        (s : Resolved) {x : ℕ} →
        first_node ≤ child_of s.marks goal →
        Among (k, a) w.pool.given ⊎ ((child_of s.marks goal - first_node ≡ k) × (x ≡ a)) →
        Among (k, a) w.pool.given ⊎ ((child_of s.marks goal ≡ first_node + k) × (x ≡ a))
    ways s high (inl a) = inl a
    ways s high (inr (n, is)) = inr (omega (arith, n, high), is)

-- so an answer stays right
pub answered-further : (goal : Goal) (a : ℕ) (w w' : Ready) → Further w w' → Answered goal a w → Answered goal a w'
answered-further goal a w w' f h =
    record {
      settled = settled-grows w.resolved w'.resolved goal f.grows h.settled;
      slot =
          subst (λ c. SlotFor w'.pool.given c a) (sym (child_grows w.resolved w'.resolved goal f.grows h.settled))
          (slot_kept f.kept _ a h.slot);
    }

further_refl : (w : Ready) → Further w w
further_refl w = record { grows = grows_refl w.resolved; kept = slots_same }

pub further_trans : (w w' w'' : Ready) → Further w w' → Further w' w'' → Further w w''
further_trans w w' w'' f g =
    record { grows = grows_trans w.resolved w'.resolved w''.resolved f.grows g.grows; kept = slots_twice f.kept g.kept }

-- there are as many answers as requests
pub answers_many :
    (names : List Naming) (constants place : ℕ) (requests : List Request) (w : Ready) (r : List ℕ × Ready) →
    answer_all names constants place requests w ≡ good r →
    length r.0 ≡ length requests
unfolding answer_all
answers_many names constants place [] w r e = ap (λ (x : List ℕ × Ready). length x.0) (sym (good_inj e))
answers_many names constants place (q ∷ requests) w r e =
    good_then (at_record place (answer q.ldc (goal_of names constants q.what) w)) _ r e λ a here e₁.
    good_then (answer_all names constants (suc place) requests a.1) _ r e₁ λ rest there e₂.
    ap (λ (x : List ℕ × Ready). length x.0) (sym (good_inj e₂)) ∙ ap suc (answers_many names constants (suc place) requests a.1 rest there)

-- an ldc answer is at most 255
answer-low : (goal : Goal) (w : Ready) (r : ℕ × Ready) → answer true goal w ≡ good r → r.0 ≤ 255
unfolding answer
answer-low goal w r e =
    good_then (resolve w.table goal w.resolved) _ r e λ s _ e₁.
    good_then (slot_of s.nodes true (child_of s.marks goal) w.pool) _ r e₁ λ a _ e₂.
    good_then (unless (leb a.0 255) 16) _ r e₂ λ u low e₃.
    subst (λ n. n ≤ 255) (ap (λ x. x.0) (good_inj e₃)) (leb-true a.0 255 (unless-good (leb a.0 255) 16 u low))

pub answers_low :
    (names : List Naming) (constants place : ℕ) (requests : List Request) (w : Ready) (r : List ℕ × Ready) →
    answer_all names constants place requests w ≡ good r →
    (i : ℕ) (q : Request) (a : ℕ) →
    get_elem? requests i ≡ some q →
    get_elem? r.0 i ≡ some a →
    q.ldc ≡ true →
    a ≤ 255
unfolding answer_all
answers_low names constants place [] w r e i q a at there ldc = none≢some at
answers_low names constants place (p ∷ requests) w r e i q a at there ldc =
    good_then (at_record place (answer p.ldc (goal_of names constants p.what) w)) _ r e λ x here e₁.
    good_then (answer_all names constants (suc place) requests x.1) _ r e₁ λ rest later e₂.
    let is : x.0 ∷ rest.0 ≡ r.0 = ap (λ y. y.0) (good_inj e₂) in
    ways x rest.0 i at (subst (λ l. get_elem? l i ≡ some a) (sym is) there) (at_record-good place (answer p.ldc (goal_of names constants p.what) w) x here)
    (answers_low names constants (suc place) requests x.1 rest later)
  where
    ways :
        (x : ℕ × Ready) (rest : List ℕ) (i : ℕ) →
        get_elem? (p ∷ requests) i ≡ some q →
        get_elem? (x.0 ∷ rest) i ≡ some a →
        answer p.ldc (goal_of names constants p.what) w ≡ good x →
        ((i : ℕ) (q : Request) (a : ℕ) → get_elem? requests i ≡ some q → get_elem? rest i ≡ some a → q.ldc ≡ true → a ≤ 255) →
        a ≤ 255
    ways x rest zero at there here later =
        let asked : p.ldc ≡ true = ap (λ y. y.ldc) (some_inj at) ∙ ldc in
        subst (λ n. n ≤ 255) (some_inj there) (answer-low (goal_of names constants p.what) w x (rw asked at here))
    ways x rest (suc i) at there here later = later i q a at there ldc

module _ (table : List (Entry ℕ Goal)) (cited : Cited table) (top : ℕ) (held : List (ℕ × Held)) (raws : List (ℕ × ℕ)) (names : List Naming) (constants : ℕ) where
  -- a request whose goal is in the table and leads to no bootstrap
  abbrev pub Asks : Request → Type 0
  Asks q = InTable (length table) (goal_of names constants q.what) × ConstantGoal table (goal_of names constants q.what)

  -- all requests in turn: at the end every answer is the slot of what was asked
  pub answer_all-going :
      (place : ℕ) (requests : List Request) (w : Ready) (r : List ℕ × Ready) →
      Each Asks requests →
      answer_all names constants place requests w ≡ good r →
      Going table top held raws w →
      Going table top held raws r.1
      × Further w r.1
      × ((i : ℕ) (q : Request) → get_elem? requests i ≡ some q → (a : ℕ) × (get_elem? r.0 i ≡ some a) × Answered (goal_of names constants q.what) a r.1)
  unfolding answer_all
  answer_all-going place [] w r asks e h =
      subst
      (λ (x : List ℕ × Ready).
      Going table top held raws x.1
      × Further w x.1
      × ((i : ℕ) (q : Request) → get_elem? [] i ≡ some q → (a : ℕ) × (get_elem? x.0 i ≡ some a) × Answered (goal_of names constants q.what) a x.1))
      (good_inj e)
      (h, further_refl w, λ i q z. clash (cc))
  answer_all-going place (q ∷ requests) w r asks e h =
      good_then (at_record place (answer q.ldc (goal_of names constants q.what) w)) _ r e λ a here e₁.
      good_then (answer_all names constants (suc place) requests a.1) _ r e₁ λ rest there e₂.
      let one = answer-going table cited top held raws q.ldc (goal_of names constants q.what) w a asks.0.0 asks.0.1 (at_record-good place _ a here) h in
      let more = answer_all-going (suc place) requests a.1 rest asks.1 there one.0 in
      subst
      (λ (x : List ℕ × Ready).
      Going table top held raws x.1
      × Further w x.1
      × ((i : ℕ) (p : Request) → get_elem? (q ∷ requests) i ≡ some p → (b : ℕ) × (get_elem? x.0 i ≡ some b) × Answered (goal_of names constants p.what) b x.1))
      (good_inj e₂)
      (more.0, further_trans w a.1 rest.1 one.2 more.1, at a rest one more)
    where
      at :
          (a : ℕ × Ready) (rest : List ℕ × Ready) →
          Going table top held raws a.1 × Answered (goal_of names constants q.what) a.0 a.1 × Further w a.1 →
          Going table top held raws rest.1
          × Further a.1 rest.1
          × ((i : ℕ) (p : Request) → get_elem? requests i ≡ some p → (b : ℕ) × (get_elem? rest.0 i ≡ some b) × Answered (goal_of names constants p.what) b rest.1) →
          (i : ℕ) (p : Request) →
          get_elem? (q ∷ requests) i ≡ some p →
          (b : ℕ) × (get_elem? (a.0 ∷ rest.0) i ≡ some b) × Answered (goal_of names constants p.what) b rest.1
      at a rest one more zero p z =
          let same : q ≡ p = cc in
          (a.0, refl, subst (λ p. Answered (goal_of names constants p.what) a.0 rest.1) same (answered-further _ a.0 a.1 rest.1 more.1 one.1))
      at a rest one more (suc i) p z = more.2 i p z
