-- Nodes that get slots go onto the building stack, and each pays for it with the slot that it lacked. Assumes nothing.
use mathlib.Core.Bool.{Bool, true, false}
use mathlib.Core.List.{List, [], ◌∷◌, ◌++◌, map, reverse}
use mathlib.Core.Logic.{inl, inr, ⊎_elim}
use mathlib.Core.Option.{Option, none, some}
use mathlib.Core.Path.{◌≡◌, refl, sym, ap, subst, ◌∙◌}
use Prim.Native.Nat.{ℕ, zero, suc, ◌+◌, ◌-◌, ◌≤◌, ◌<◌}
use native.Mathlib.Omega.{arith}
use lib.Dec.{ltb}
use lib.ListN.{length, get_or, take, length-map, length-take, length-reverse}
use lib.Seq.{get_or-take}
use borrow.Author.Tests.{ltb-false}
use Rattle.definition.specs.Basics.{good, lookup, ◌>>=◌, at_record}
use Rattle.definition.specs.Resolving.{Node, first_node}
use Rattle.definition.specs.Building.{Pool, allocate, slot_of, slots_of}
use Rattle.facts.specs.Lists.{Among}
use Rattle.facts.proofs.Lists.{none≢some, order, equal, found_inside, found_read, read_found, among_later, among-left, among-right, among-either, among-forth, among-back, map_at, unmap}
use Rattle.facts.proofs.Results.{good_inj, good_first, at_record-good}
use Rattle.facts.proofs.Tables.{lookup-hit, lookup-miss, lookup-at, among-lookup}
use Rattle.laws.proofs.Resolving.NodesAndChildren.{InNodes}
use Rattle.laws.proofs.Slots.SlotRequest.{Met, old, new, met}
use Rattle.laws.proofs.Building.ChildNumbers.{slot_of-raw, slot_of-node}
use Rattle.laws.proofs.Building.WhatBuildingLeaves.{PoolGrows, slotted, all_slotted}
use Rattle.slots.specs.Gaps.{GapTable}
use Rattle.store.specs.Store.{Store}
use Rattle.store.specs.Regions.{COUNTS, GIVEN, PENDING}
use Rattle.interner.specs.Nodes.{node_count}
use Rattle.pool.specs.Pooled.{slot_word, slots_in, pending_count, PooledIn}
use Rattle.pool.specs.Owning.{OnStack}
use Rattle.pool.proofs.Words.{word_none, word_some}
use Rattle.building.specs.Working.{vacant, lacking, owing, Stacked}

-- NODES WITHOUT A SLOT

vacant-le : (o : Option ℕ) → vacant o ≤ 1
unfolding vacant
vacant-le none = omega arith
vacant-le (some slot) = omega arith

lacking-below : (f f' : ℕ → Option ℕ) (k n : ℕ) → n ≤ k → ((j : ℕ) → (j ≡ k → ⊥) → f' j ≡ f j) → lacking f' n ≡ lacking f n
unfolding lacking
lacking-below f f' k zero l h = refl
lacking-below f f' k (suc n) l h = rw (h n (λ e. omega arith), lacking-below f f' k n (omega arith) h)

pub lacking-le : (f : ℕ → Option ℕ) (n : ℕ) → lacking f n ≤ n
unfolding lacking
lacking-le f zero = omega arith
lacking-le f (suc n) = omega (arith, vacant-le (f n), lacking-le f n)

-- one of them got one
lacking-give :
    (f f' : ℕ → Option ℕ) (k slot n : ℕ) → k < n → f k ≡ none → f' k ≡ some slot → ((j : ℕ) → (j ≡ k → ⊥) → f' j ≡ f j) →
    suc (lacking f' n) ≡ lacking f n
unfolding lacking vacant
lacking-give f f' k slot zero l e q h = absurd (omega arith)
lacking-give f f' k slot (suc n) l e q h =
    ⊎_elim
    (λ (z : k ≡ n).
    let a : vacant (f n) ≡ 1 = rw (← z) (ap vacant e) in
    let b : vacant (f' n) ≡ 0 = rw (← z) (ap vacant q) in
    omega (arith, lacking-below f f' k n (omega arith) h))
    (λ (z : k ≡ n → ⊥).
    let a : vacant (f' n) ≡ vacant (f n) = ap vacant (h n (λ y. z (sym y))) in
    omega (arith, lacking-give f f' k slot n (omega arith) e q h))
    (equal k n)

-- POOLS

-- what a pool owes, for so many nodes
pub owed : ℕ → Pool → ℕ
owed n p = length p.pending + lacking (λ k. lookup k p.given) n

-- a pool after some requests
pub record Paid (nodes : List Node) (p p' : Pool) : Type 0 where
  pub grows : PoolGrows nodes p p'
  pub owes : owed (length nodes) p' ≡ owed (length nodes) p

module _ (nodes : List Node) where
  allocate-pays : (ldc : Bool) (k n : ℕ) (p : Pool) (r : ℕ × Pool) → k < n → allocate nodes ldc k p ≡ good r → owed n r.1 ≡ owed n p
  unfolding owed
  allocate-pays ldc k n p r l e = go (met nodes ldc k r.0 p r.1 e)
    where
      go : Met nodes ldc k p r.0 r.1 → owed n r.1 ≡ owed n p
      go (old _ q) = ap (owed n) q
      go (new slots lacks _ q) =
          ap (owed n) q
          ∙ omega (
            arith,
            lacking-give (λ j. lookup j p.given) (λ j. lookup j ((k, r.0) ∷ p.given)) k r.0 n l lacks
                (lookup-hit k (k, r.0) p.given refl)
                (λ j z. lookup-miss j (k, r.0) p.given z),
          )

  abbrev Inside : ℕ → Type 0
  Inside c = first_node ≤ c → c < first_node + length nodes

  slot_of-pays : (ldc : Bool) (c : ℕ) (p : Pool) (r : ℕ × Pool) → Inside c → slot_of nodes ldc c p ≡ good r → owed (length nodes) r.1 ≡ owed (length nodes) p
  slot_of-pays ldc c p r inside e = go (ltb c first_node) refl
    where
      go : (b : Bool) → ltb c first_node ≡ b → owed (length nodes) r.1 ≡ owed (length nodes) p
      go true t = ap (λ (x : ℕ × Pool). owed (length nodes) x.1) (good_inj (sym e ∙ slot_of-raw nodes ldc c p t))
      go false t =
          let h = ltb-false c first_node t in
          let l : c - first_node < length nodes = omega (arith, inside h) in
          allocate-pays ldc (c - first_node) (length nodes) p r l (sym (slot_of-node nodes ldc c p t) ∙ e)

  slots_of-pays : (cs : List ℕ) (p : Pool) (r : List ℕ × Pool) → InNodes nodes cs → slots_of nodes cs p ≡ good r → owed (length nodes) r.1 ≡ owed (length nodes) p
  unfolding slots_of
  slots_of-pays [] p r inside e = ap (λ (x : List ℕ × Pool). owed (length nodes) x.1) (good_inj (sym e))
  slots_of-pays (c ∷ cs) p r inside e =
      let first = good_first (at_record (c - first_node) (slot_of nodes false c p)) (λ x. slots_of nodes cs x.1 >>= λ rest. good (x.0 ∷ rest.0, rest.1)) r e in
      let x = first.0 in
      let others = good_first (slots_of nodes cs x.1) (λ rest. good (x.0 ∷ rest.0, rest.1)) r first.2 in
      ap (λ (y : List ℕ × Pool). owed (length nodes) y.1) (good_inj (sym others.2))
      ∙ slots_of-pays cs x.1 others.0 (λ d m. inside d (among_later d c cs m)) others.1
      ∙ slot_of-pays false c p x (inside c (0, refl)) (at_record-good _ _ _ first.1)

  pub slot_of-paid : (ldc : Bool) (c : ℕ) (p : Pool) (r : ℕ × Pool) → Inside c → slot_of nodes ldc c p ≡ good r → Paid nodes p r.1
  slot_of-paid ldc c p r inside e = record { grows = (slotted nodes ldc c p r inside e).0; owes = slot_of-pays ldc c p r inside e }

  pub slots_of-paid : (cs : List ℕ) (p : Pool) (r : List ℕ × Pool) → InNodes nodes cs → slots_of nodes cs p ≡ good r → Paid nodes p r.1
  slots_of-paid cs p r inside e = record { grows = (all_slotted nodes cs p r inside e).0; owes = slots_of-pays cs p r inside e }

-- THE STACK IN THE WORDS

module _ (pool : Pool) (t : Store) (g : GapTable) (q : PooledIn pool t g) (fits : pending_count t ≤ length (t PENDING)) where
  abbrev stack : List ℕ
  stack = take (pending_count t) (t PENDING)

  pub stack_among : (k : ℕ) → OnStack t k → Among k (map (λ r. r.1) pool.pending)
  stack_among k (i, l, e) =
      let h : i < length stack = omega (arith, length-take (pending_count t) (t PENDING)) in
      subst (Among k) (sym q.pending)
      (among-forth k stack (i, read_found stack i 0 h ∙ ap some (get_or-take (pending_count t) (t PENDING) i 0 l ∙ e)))

  pub among-stack : (k : ℕ) → Among k (map (λ r. r.1) pool.pending) → OnStack t k
  among-stack k a =
      let (i, e) = among-back k stack (subst (Among k) q.pending a) in
      let l : i < pending_count t = omega (arith, found_inside stack i k e, length-take (pending_count t) (t PENDING)) in
      (i, l, sym (get_or-take (pending_count t) (t PENDING) i 0 l) ∙ found_read stack i k 0 e)

  pub stack_long : length pool.pending ≡ pending_count t
  stack_long =
      sym (length-map pool.pending (λ r. r.1))
      ∙ ap length q.pending
      ∙ length-reverse stack
      ∙ omega (arith, length-take (pending_count t) (t PENDING))

  owed_is : owed (node_count t) pool ≡ owing t
  unfolding owed
  owed_is = rw stack_long (λ i. pending_count t + lacking (λ k. q.given k i) (node_count t))

-- a word that tells a slot isn't 0
word_there : (n slot : ℕ) → slot_word n ≡ some slot → 0 < n
unfolding slot_word
word_there zero slot e = none≢some e
word_there (suc n) slot e = omega arith

module _
    (nodes : List Node) (t u : Store) (g h : GapTable) (pool after : Pool) (q : PooledIn pool t g) (q' : PooledIn after u h)
    (paid : Paid nodes pool after) (made : length nodes ≡ node_count t) (same : node_count u ≡ node_count t)
    (fits : pending_count t ≤ length (t PENDING)) (fits' : pending_count u ≤ length (u PENDING)) where
  abbrev turned : ℕ × ℕ → ℕ × ℕ
  turned r = (r.1, r.0)

  on_top : (r : ℕ × ℕ) → Among r after.pending → OnStack u r.1
  on_top r (i, e) = among-stack after u h q' fits' r.1 (i, map_at (λ r. r.1) after.pending i r e)

  pub stacked : Stacked t u
  stacked =
      record {
        owners =
            λ k there.
            let word : lookup k after.given ≡ some (get_or (u GIVEN) k 0) = q'.given k ∙ word_some (get_or (u GIVEN) k 0) there in
            let (i, e) = lookup-at k (get_or (u GIVEN) k 0) after.given word in
            let back : Among (get_or (u GIVEN) k 0, k) (paid.grows.new ++ map turned pool.given) =
            subst (Among (get_or (u GIVEN) k 0, k)) paid.grows.gave (i, map_at turned after.given i (k, get_or (u GIVEN) k 0) e) in
            ⊎_elim
            (λ (a : Among (get_or (u GIVEN) k 0, k) paid.grows.new).
            inr (on_top (get_or (u GIVEN) k 0, k) (subst (Among (get_or (u GIVEN) k 0, k)) (sym paid.grows.stacked) (among-left _ paid.grows.new pool.pending a))))
            (λ (a : Among (get_or (u GIVEN) k 0, k) (map turned pool.given)).
            let (r, (j, at), is) = unmap turned pool.given (get_or (u GIVEN) k 0, k) a in
            let r-is : r ≡ (k, get_or (u GIVEN) k 0) = λ i. ((is i).1, (is i).0) in
            let (slot, found) = among-lookup k (get_or (u GIVEN) k 0) pool.given (j, at ∙ ap some r-is) in
            inl (word_there (get_or (t GIVEN) k 0) slot (sym (q.given k) ∙ found)))
            (among-either _ paid.grows.new (map turned pool.given) back);
        waits =
            λ k on.
            let (r, a, is) = unmap (λ r. r.1) pool.pending k (stack_among pool t g q fits k on) in
            subst (OnStack u) is (on_top r (subst (Among r) (sym paid.grows.stacked) (among-right r paid.grows.new pool.pending a)));
        fewer =
            let a = owed_is pool t g q fits in
            let b = owed_is after u h q' fits' in
            let c : owed (node_count t) after ≡ owed (node_count t) pool = rw made at paid.owes in
            let d : owed (node_count t) after ≡ owing u = ap (λ (n : ℕ). owed n after) (sym same) ∙ b in
            omega arith;
      }

-- SOME POOL of the words

-- a node ahead of others, if it has a slot
onto : ℕ → List (ℕ × ℕ) → Option ℕ → List (ℕ × ℕ)
onto n given none = given
onto n given (some slot) = (n, slot) ∷ given

listed : List ℕ → ℕ → List (ℕ × ℕ)
listed words zero = []
listed words (suc n) = onto n (listed words n) (slot_word (get_or words n 0))

onto_other : (n k : ℕ) (given : List (ℕ × ℕ)) (o : Option ℕ) → (k ≡ n → ⊥) → lookup k (onto n given o) ≡ lookup k given
unfolding onto
onto_other n k given none z = refl
onto_other n k given (some slot) z = lookup-miss k (n, slot) given z

onto_here : (n : ℕ) (given : List (ℕ × ℕ)) (o : Option ℕ) → lookup n given ≡ none → lookup n (onto n given o) ≡ o
unfolding onto
onto_here n given none h = h
onto_here n given (some slot) h = lookup-hit n (n, slot) given refl

listed-none : (words : List ℕ) (n k : ℕ) → n ≤ k → lookup k (listed words n) ≡ none
unfolding listed lookup
listed-none words zero k l = refl
listed-none words (suc n) k l = onto_other n k (listed words n) (slot_word (get_or words n 0)) (λ z. omega arith) ∙ listed-none words n k (omega arith)

listed-some : (words : List ℕ) (n k : ℕ) → k < n → lookup k (listed words n) ≡ slot_word (get_or words k 0)
unfolding listed
listed-some words zero k l = absurd (omega arith)
listed-some words (suc n) k l =
    ⊎_elim
    (λ (z : k ≡ n). rw z (onto_here n (listed words n) (slot_word (get_or words n 0)) (listed-none words n n (omega arith))))
    (λ (z : k ≡ n → ⊥). onto_other n k (listed words n) (slot_word (get_or words n 0)) z ∙ listed-some words n k (omega arith))
    (equal k n)

past : (words : List ℕ) (k : ℕ) → length words ≤ k → get_or words k 0 ≡ 0
past [] k h = refl
past (x ∷ words) zero h = absurd (omega arith)
past (x ∷ words) (suc k) h = past words k (omega arith)

pub some_pool : Store → GapTable → Pool
some_pool t g =
    record {
      slots = slots_in (t COUNTS) g;
      given = listed (t GIVEN) (length (t GIVEN));
      pending = map (λ k. (0, k)) (reverse (take (pending_count t) (t PENDING)));
      version = 0;
    }

seconds : (l : List ℕ) → map (λ (r : ℕ × ℕ). r.1) (map (λ k. (0, k)) l) ≡ l
seconds [] = refl
seconds (x ∷ l) = ap (λ (m : List ℕ). x ∷ m) (seconds l)

pub some-pooled : (t : Store) (g : GapTable) → PooledIn (some_pool t g) t g
unfolding some_pool
some-pooled t g =
    record {
      slots = refl;
      given =
          λ k.
          ⊎_elim
          (λ (l : k < length (t GIVEN)). listed-some (t GIVEN) (length (t GIVEN)) k l)
          (λ (l : length (t GIVEN) ≤ k). listed-none (t GIVEN) (length (t GIVEN)) k l ∙ sym (word_none (get_or (t GIVEN) k 0) (past (t GIVEN) k l)))
          (order k (length (t GIVEN)));
      pending = seconds (reverse (take (pending_count t) (t PENDING)));
    }
