-- A child's slot against the definition: an old one, a new one, or the refusal. Assumes nothing.
use mathlib.Core.Bool.{Bool, true, false}
use mathlib.Core.List.{List, ◌∷◌}
use mathlib.Core.Logic.{inl, inr}
use mathlib.Core.Option.{none, some}
use mathlib.Core.Path.{◌≡◌, refl, sym, ap, ◌∙◌}
use Prim.Native.Nat.{ℕ, ◌+◌, ◌-◌, ◌≤◌, ◌<◌}
use native.Mathlib.Omega.{arith}
use lib.ListN.{length, get_or}
use borrow.Author.Tests.{lt-ltb, le-ltb}
use Rattle.std.specs.Prelude.{Option, Some, None, Result, Ok, Err, IfOk, ltb}
use Rattle.refusal.specs.declared.Refusal.{Refusal}
use Rattle.refusal.specs.Numbers.{code_of}
use Rattle.definition.specs.Basics.{good, lookup}
use Rattle.definition.specs.Shapes.{is_wide}
use Rattle.definition.specs.Definitions.{tag_at}
use Rattle.definition.specs.Resolving.{Node, first_node}
use Rattle.definition.specs.Slots.{slot_for}
use Rattle.definition.specs.Building.{Pool, no_slot, give, allocate, slot_of, raw, new, old, origin_of, mark_of}
use Rattle.laws.proofs.Slots.SlotRequest.{allocate-new, allocate-old}
use Rattle.slots.specs.Gaps.{GapTable}
use Rattle.store.specs.Store.{Store, size, put, IsWord}
use Rattle.store.specs.JobIn.{entries_in}
use Rattle.store.specs.Regions.{COUNTS, GIVEN, PENDING, NODE-COUNT, PENDING-COUNT, Work}
use Rattle.store.specs.Words.{ENTRY, child_slot}
use Rattle.store.proofs.Bounds.{small}
use Rattle.store.proofs.Laying.{work-sizes, work-formed, entries-counted}
use Rattle.interner.specs.Nodes.{node_count, nodes_in}
use Rattle.pool.specs.Pooled.{Has, Lacks, slots_in, PooledIn, LiveIn, pending_count, with_pending, NodesThere, Took, mark_in, Marked, Slotted}
use Rattle.pool.specs.declared.Origin.{Origin}
use Rattle.pool.specs.declared.Origin.TheVariants as origin
use Rattle.pool.proofs.Codes.{code-refused}
use Rattle.pool.proofs.Words.{child_raw, child_node, word_none, word_some, zeros-some}
use Rattle.pool.proofs.Giving.{goes_not, goes_then, goes_took, pooled_took, goes_gave, pooled_gave, gave_slot}

-- SIZES

pub record PoolSizes (s p : List ℕ) : Type 0 where
  pub counts : size p COUNTS ≡ 20
  pub given : size p GIVEN ≡ entries_in s
  pub pending : IsWord (size p PENDING)
  pub few : entries_in s ≤ 131072

pub pool_sizes : (s p : List ℕ) → Work s p → PoolSizes s p
pool_sizes s p work =
    let z = work-sizes s p work in
    let b = small s (work-formed s p work) in
    let n = entries-counted s in
    record {
      counts = z.counts;
      given = z.given ∙ n;
      pending = omega (arith, z.pending, b.entries, b.raw_constants);
      few = b.entries;
    }

-- a node's number is a place in GIVEN
pub node_given : (s p : List ℕ) (t : Store) → NodesThere s p t → node_count t ≤ size p GIVEN
node_given s p t there = omega (arith, (pool_sizes s p there.0).given, there.2.few)

-- THE DEFINITION

slot-raw : (nodes : List Node) (ldc : Bool) (child : ℕ) (pool : Pool) → child < first_node → slot_of nodes ldc child pool ≡ good (child, pool)
unfolding slot_of
slot-raw nodes ldc child pool h = rw (lt-ltb child first_node h, slot_of)

slot-node : (nodes : List Node) (ldc : Bool) (child : ℕ) (pool : Pool) → first_node ≤ child → slot_of nodes ldc child pool ≡ allocate nodes ldc (child - first_node) pool
unfolding slot_of
slot-node nodes ldc child pool h = rw (le-ltb child first_node h, slot_of)

no_slot-some : (ldc : Bool) → 0 < no_slot ldc
unfolding no_slot
no_slot-some true = omega arith
no_slot-some false = omega arith

-- A CHILD THAT HAS A SLOT keeps it
pub slotted_old : (s : List ℕ) (ldc : Bool) (child : ℕ) (t : Store) (g : GapTable) → Has (t GIVEN) child → Slotted s ldc child t t g g 0
slotted_old s ldc child t g has =
    record {
      met = λ pool q z. (pool, is pool q has, q);
      refused = λ pool q z. absurd (omega arith);
      node = λ z. absurd (omega arith);
      has = λ z. has;
      goes = goes_not t g;
    }
  where
    is : (pool : Pool) → PooledIn pool t g → Has (t GIVEN) child → slot_of (nodes_in s t) ldc child pool ≡ good (child_slot (t GIVEN) child, pool)
    is pool q (inl h) = slot-raw (nodes_in s t) ldc child pool h ∙ rw (child_raw (t GIVEN) child h)
    is pool q (inr (h, l)) =
        slot-node (nodes_in s t) ldc child pool h
        ∙ allocate-old (nodes_in s t) ldc (child - ENTRY) (get_or (t GIVEN) (child - ENTRY) 0) pool (q.given (child - ENTRY) ∙ word_some _ l)
        ∙ rw (child_node (t GIVEN) child h)

-- ONE THAT HAS NONE gets the one that was asked for
module _
    (s : List ℕ) (ldc wide : Bool) (child k : ℕ) (found : Option ℕ) (t v : Store) (g h : GapTable) (is : k ≡ child - ENTRY)
    (lacks : Lacks (t GIVEN) child) (live : LiveIn t g) (width : wide ≡ is_wide (tag_at (nodes_in s t) k)) (took : Took wide ldc t v g h found) where
  live_still : LiveIn v h
  live_still = (goes_took wide ldc t v g h found took).live live

  lacks_still : get_or (v GIVEN) k 0 ≡ 0
  lacks_still = rw (took.kept GIVEN refl, is) lacks.1

  asked : (pool : Pool) → PooledIn pool t g → slot_of (nodes_in s t) ldc child pool ≡ give ldc k pool (slot_for wide ldc (slots_in (t COUNTS) g))
  asked pool q =
      slot-node (nodes_in s t) ldc child pool lacks.0
      ∙ rw (← is)
      (allocate-new (nodes_in s t) ldc k pool (q.given k ∙ word_none _ (rw is lacks.1))
      ∙ rw (← q.slots, ← width))

  -- there is room on the stack
  pub still_room : k < node_count t → k < length (v GIVEN) → pending_count v < length (v PENDING)
  still_room low inside = omega (arith, live_still.room, zeros-some (v GIVEN) k inside lacks_still)

  -- what `give` asks
  pub give-asks :
      (p : List ℕ) → NodesThere s p t → child < ENTRY + node_count t → length (v GIVEN) ≡ size p GIVEN → length (v PENDING) ≡ size p PENDING →
      (PENDING-COUNT < size p COUNTS) × (k < size p GIVEN) × (pending_count v < size p PENDING) × IsWord (size p PENDING) × IsWord k
  give-asks p there low given pending =
      let z = pool_sizes s p there.0 in
      let n : k < node_count t = omega (arith, lacks.0) in
      let m = node_given s p t there in
      let r = still_room n (omega arith) in (
        omega (arith, z.counts),
        omega arith,
        omega arith,
        z.pending,
        omega (arith, z.few, z.given),
      )

  -- there is none
  pub slotted_none : found ≡ None → Slotted s ldc child t v g h (no_slot ldc)
  unfolding give
  slotted_none z =
      let unmet = rw z at took.unmet in
      record {
        met = λ pool q f. absurd (omega (arith, no_slot-some ldc));
        refused = λ pool q f. asked pool q ∙ rw unmet;
        node = λ f. lacks.0;
        has = λ f. absurd (omega (arith, no_slot-some ldc));
        goes = goes_took wide ldc t v g h found took;
      }

  -- there is one, which is given
  module _ (slot : ℕ) (there : found ≡ Some slot) (low : k < node_count t) (inside : k < length (v GIVEN)) (size : PENDING-COUNT < length (v COUNTS)) where
    low-still : k < node_count v
    low-still = rw (took.counters NODE-COUNT refl) low

    pub slotted_new : (u : Store) → u ≡ with_pending k (put v GIVEN k slot) → Slotted s ldc child t u g h 0
    unfolding give
    slotted_new u same =
        let (z, met) = rw there at took.met in
        let is_slot_lem : get_or (u GIVEN) k 0 ≡ slot = rw same (gave_slot v h k slot z lacks_still inside low-still size) in
        let has_slot : child_slot (u GIVEN) child ≡ slot = child_node (u GIVEN) child lacks.0 ∙ rw (← is) is_slot_lem in
        record {
          met =
              λ pool q f. (
                record { slots = slots_in (v COUNTS) h; given = (k, slot) ∷ pool.given; pending = (slot, k) ∷ pool.pending; version = pool.version },
                asked pool q ∙ rw (met, has_slot),
                rw same
                    (pooled_gave v h k slot z lacks_still inside low-still size live_still
                    (record { slots = slots_in (v COUNTS) h; given = pool.given; pending = pool.pending; version = pool.version })
                    (pooled_took wide ldc t v g h found took pool q)),
              );
          refused = λ pool q f. absurd (omega arith);
          node = λ f. lacks.0;
          has = λ f. inr (lacks.0, omega (arith, is_slot_lem, z, ap (λ (x : ℕ). get_or (u GIVEN) x 0) is));
          goes =
              goes_then t v u g h h (goes_took wide ldc t v g h found took)
              (rw same (goes_gave v h k slot z lacks_still inside low-still size live_still));
        }

  -- as the code has it
  pub slotted :
      (p : List ℕ) → NodesThere s p t → child < ENTRY + node_count t → length (v GIVEN) ≡ size p GIVEN → length (v COUNTS) ≡ size p COUNTS →
      (slot : ℕ) → found ≡ Some slot → (u : Store) → u ≡ with_pending k (put v GIVEN k slot) → Slotted s ldc child t u g h 0
  slotted p there low given counts slot e u same =
      let z = pool_sizes s p there.0 in
      let n : k < node_count t = omega (arith, lacks.0) in
      let m = node_given s p t there in
      slotted_new slot e n (omega arith) (omega (arith, z.counts)) u same

-- HOW A CHILD COMES BY ITS SLOT

origin_raw : (child : ℕ) (pool : Pool) → child < first_node → origin_of child pool ≡ raw
unfolding origin_of
origin_raw child pool h = rw (lt-ltb child first_node h, origin_of)

origin_old : (child slot : ℕ) (pool : Pool) → first_node ≤ child → lookup (child - first_node) pool.given ≡ some slot → origin_of child pool ≡ old
unfolding origin_of
origin_old child slot pool h e = rw (le-ltb child first_node h, e, origin_of)

origin_new : (child : ℕ) (pool : Pool) → first_node ≤ child → lookup (child - first_node) pool.given ≡ none → origin_of child pool ≡ new
unfolding origin_of
origin_new child pool h e = rw (le-ltb child first_node h, e, origin_of)

-- a raw number, a node that has a slot, and one that had none
module _ (child : ℕ) (t : Store) (g : GapTable) where
  pub marked_raw : child < ENTRY → Marked child t g origin.Raw
  unfolding mark_in mark_of
  marked_raw h pool q = ap mark_of (sym (origin_raw child pool h))

  pub marked_old : ENTRY ≤ child → 0 < get_or (t GIVEN) (child - ENTRY) 0 → Marked child t g origin.Old
  unfolding mark_in mark_of
  marked_old h l pool q =
      ap mark_of (sym (origin_old child (get_or (t GIVEN) (child - ENTRY) 0) pool h (q.given (child - ENTRY) ∙ word_some _ l)))

  pub marked_new : Lacks (t GIVEN) child → Marked child t g origin.New
  unfolding mark_in mark_of
  marked_new lacks pool q = ap mark_of (sym (origin_new child pool lacks.0 (q.given (child - ENTRY) ∙ word_none _ lacks.1)))

-- AS `slot_of` ANSWERS: a child that needs no slot; one that was given one, or refused

unfoldable pub kept_reply : ℕ → Result Origin Refusal
kept_reply child = Ok (elim (ltb child ENTRY) [ true ↦ origin.Raw | false ↦ origin.Old ])

unfoldable pub new_reply : {T : Type 0} → Result T Refusal → Result Origin Refusal
new_reply (Ok v) = Ok origin.New
new_reply (Err r) = Err r

pub kept_raw : (child : ℕ) → child < ENTRY → kept_reply child ≡ Ok origin.Raw
unfolding kept_reply
kept_raw child h = rw (lt-ltb child ENTRY h, kept_reply)

pub kept_old : (child : ℕ) → ENTRY ≤ child → kept_reply child ≡ Ok origin.Old
unfolding kept_reply
kept_old child h = rw (le-ltb child ENTRY h, kept_reply)

module _ {T : Type 0} where
  pub new_given : (x : Result T Refusal) → code_of x ≡ 0 → new_reply x ≡ Ok origin.New
  unfolding new_reply
  new_given (Ok v) e = refl
  new_given (Err r) e = absurd (code-refused {T = T} (Err r) r refl e)

  pub new_refused : (x : Result T Refusal) (r : Refusal) → x ≡ Err r → new_reply x ≡ Err r
  unfolding new_reply
  new_refused x r e = rw e

  new_code : (x : Result T Refusal) → code_of (new_reply x) ≡ code_of x
  unfolding code_of new_reply
  new_code (Ok v) = refl
  new_code (Err r) = refl

module _ (s : List ℕ) (ldc : Bool) (child : ℕ) (t : Store) (g : GapTable) where
  -- no slot was needed
  kept_code : Has (t GIVEN) child → code_of (kept_reply child) ≡ 0
  unfolding code_of kept_reply
  kept_code has = refl

  kept_mark : Has (t GIVEN) child → IfOk (kept_reply child) (Marked child t g)
  kept_mark (inl h) = rw (kept_raw child h) (marked_raw child t g h)
  kept_mark (inr (h, l)) = rw (kept_old child h) (marked_old child t g h l)

  pub kept_told : Has (t GIVEN) child → (r : Result Origin Refusal) → r ≡ kept_reply child → Slotted s ldc child t t g g (code_of r) × IfOk r (Marked child t g)
  kept_told has r is = rw is (rw (kept_code has) (slotted_old s ldc child t g has), kept_mark has)

  -- one was given, or there is none
  module _ {T : Type 0} where
    new_mark : Lacks (t GIVEN) child → (x : Result T Refusal) → IfOk (new_reply x) (Marked child t g)
    unfolding new_reply
    new_mark lacks (Ok v) = marked_new child t g lacks
    new_mark lacks (Err r) = tt

    pub new_told :
        Lacks (t GIVEN) child → (u : Store) (h : GapTable) (x : Result T Refusal) → Slotted s ldc child t u g h (code_of x) →
        (r : Result Origin Refusal) → r ≡ new_reply x → Slotted s ldc child t u g h (code_of r) × IfOk r (Marked child t g)
    new_told lacks u h x slotted r is = rw is (rw (new_code x) slotted, new_mark lacks x)

  -- as callers have it
  pub slotted_code : (u : Store) (h : GapTable) (r : Result Origin Refusal) (code : ℕ) → code ≡ code_of r → Slotted s ldc child t u g h (code_of r) → Slotted s ldc child t u g h code
  slotted_code u h r code e slotted = rw e slotted
