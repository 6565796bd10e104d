-- The raw constants go onto the building stack by the order's places. Assumes nothing.
use mathlib.Core.List.{List, [], ◌∷◌, ◌++◌, append-nil}
use mathlib.Core.Logic.{◌⊎◌, inl, inr, ⊎_elim}
use mathlib.Core.Path.{◌≡◌, refl, ap, ◌∙◌}
use Prim.Native.Nat.{ℕ, zero, suc, ◌+◌, ◌-◌, ◌≤◌, ◌<◌}
use native.Mathlib.Numerals.{add-one}
use native.Mathlib.Omega.{arith}
use lib.ListN.{length, get_or, set, length-append, length-set, get_or-append}
use lib.Seq.{get_or-set_same, get_or-set_other, take-suc-set, get_or-append_seam}
use borrow.Author.Tests.{eq-eqb, ne_eqb}
use Rattle.facts.proofs.Lists.{order, equal}
use Rattle.store.specs.Store.{Store, size, put, IsWord}
use Rattle.store.specs.Regions.{COUNTS, MARKS, RAW-ENTRIES, ORDER, PENDING, PENDING-COUNT}
use Rattle.store.specs.Words.{HALF}
use Rattle.store.proofs.Keeping.{kept_put, kept_then}
use Rattle.raws.specs.Raws.{held_count}
use Rattle.pool.specs.Pooled.{pending_count, with_pending}
use Rattle.pool.specs.Starting.{raw_at_lem, raw_node, raw_nodes, IsDone, CanPush, RawPushed, CanPushAll, RawsPushed}

-- a word that isn't 0 is inside
pub some-inside : (l : List ℕ) (i : ℕ) → 0 < get_or l i 0 → i < length l
some-inside [] i h = absurd (omega arith)
some-inside (x ∷ l) zero h = omega arith
some-inside (x ∷ l) (suc i) h = omega (arith, some-inside l i h)

-- NODES of the first places

pub half_none : (marks : List ℕ) (e : ℕ) → e ≡ HALF → raw_node marks e ≡ []
unfolding raw_node
half_none marks e is = rw (eq-eqb e HALF is, raw_node)

pub entry_node : (marks : List ℕ) (e : ℕ) → (e ≡ HALF → ⊥) → raw_node marks e ≡ (get_or marks e 0 - 2) ∷ []
unfolding raw_node
entry_node marks e is = rw (ne_eqb e HALF is, raw_node)

module _ (marks entries places : List ℕ) where
  abbrev up_to : ℕ → List ℕ
  up_to n = raw_nodes marks entries places n

  one_more : (n : ℕ) → length (up_to n) ≤ length (up_to (suc n))
  unfolding raw_nodes
  one_more n = omega (arith, length-append (up_to n) (raw_node marks (raw_at_lem entries places n)))

  further : (m d : ℕ) → length (up_to m) ≤ length (up_to (m + d))
  further m zero = let e : m + 0 ≡ m = omega arith in rw e (omega arith)
  further m (suc d) = let e : m + suc d ≡ suc (m + d) = omega arith in rw e (omega (arith, further m d, one_more (m + d)))

  pub nodes_most : (m n : ℕ) → m ≤ n → length (up_to m) ≤ length (up_to n)
  nodes_most m n h = let e : m + (n - m) ≡ n = omega arith in rw e at (further m (n - m))

  -- a place that has none, and one that has
  pub after_half : (n : ℕ) → raw_at_lem entries places n ≡ HALF → up_to (suc n) ≡ up_to n
  unfolding raw_nodes
  after_half n e = rw (half_none marks (raw_at_lem entries places n) e) (append-nil (up_to n))

  pub after_entry : (n : ℕ) → (raw_at_lem entries places n ≡ HALF → ⊥) → up_to (suc n) ≡ up_to n ++ ((get_or marks (raw_at_lem entries places n) 0 - 2) ∷ [])
  unfolding raw_nodes
  after_entry n e = rw (entry_node marks (raw_at_lem entries places n) e)

  -- they are nodes
  pub nodes_low :
      (count n : ℕ) → ((i : ℕ) → i < n → IsDone marks count (raw_at_lem entries places i)) → (i : ℕ) → i < length (up_to n) → get_or (up_to n) i 0 < count
  unfolding raw_nodes
  nodes_low count zero all i h = absurd (omega arith)
  nodes_low count (suc n) all i h = ways (nodes_low count n (λ j l. all j (omega arith))) (equal (raw_at_lem entries places n) HALF)
    where
      ways :
          ((i : ℕ) → i < length (up_to n) → get_or (up_to n) i 0 < count) →
          (raw_at_lem entries places n ≡ HALF) ⊎ (raw_at_lem entries places n ≡ HALF → ⊥) →
          get_or (up_to (suc n)) i 0 < count
      ways before (inl e) = rw (after_half n e) (before i (rw (after_half n e) at h))
      ways before (inr e) =
          let k = get_or marks (raw_at_lem entries places n) 0 - 2 in
          let q = after_entry n e in
          let low = all n (omega arith) e in
          ⊎_elim
          (λ (l : i < length (up_to n)). rw (q, get_or-append (up_to n) (k ∷ []) 0 i l) (before i l))
          (λ (l : length (up_to n) ≤ i).
          let z : i ≡ length (up_to n) = omega (arith, ap length q, length-append (up_to n) (k ∷ [])) in
          rw (q, z, get_or-append_seam (up_to n) k [] 0) (omega (arith, low)))
          (order i (length (up_to n)))

-- ONE MORE on the stack

module _ (p : List ℕ) (t : Store) (can : CanPushAll p t) (long : length (t PENDING) ≡ size p PENDING) (size_is : length (t COUNTS) ≡ size p COUNTS) where
  abbrev nodes_to : ℕ → List ℕ
  nodes_to n = raw_nodes (t MARKS) (t RAW-ENTRIES) (t ORDER) n

  pub pushed_none : RawsPushed t t 0
  unfolding raw_nodes
  pushed_none =
      record {
        count = can.empty;
        stack = rw can.empty;
        long = refl;
        counters = λ c n. refl;
        kept = λ k f. refl;
      }

  module _ (u : Store) (i : ℕ) (so : RawsPushed t u i) (low : i < held_count t) where
    abbrev e : ℕ
    e = raw_at_lem (t RAW-ENTRIES) (t ORDER) i

    -- what `push_raw` asks
    pub push_raw_asks :
        (i < size p ORDER) × (get_or (u ORDER) i 0 < size p RAW-ENTRIES) × CanPush p u (raw_at_lem (u RAW-ENTRIES) (u ORDER) i)
    push_raw_asks =
        rw (so.kept ORDER refl, so.kept RAW-ENTRIES refl, so.kept MARKS refl) (
          omega (arith, can.order),
          can.inside i low,
          λ n.
              let d = can.done i low n in (
                d.0,
                omega (arith, d.1, can.nodes),
                omega (
                  arith,
                  so.count,
                  nodes_most (t MARKS) (t RAW-ENTRIES) (t ORDER) (suc i) (held_count t) (omega arith),
                  ap length (after_entry (t MARKS) (t RAW-ENTRIES) (t ORDER) i n),
                  length-append (nodes_to i) ((get_or (t MARKS) e 0 - 2) ∷ []),
                  can.room,
                ),
              ),
        )

    pub pushed_next : (v : Store) → RawPushed u v (raw_at_lem (u RAW-ENTRIES) (u ORDER) i) → length (u COUNTS) ≡ length (t COUNTS) → RawsPushed t v (i + 1)
    pushed_next v (inl (half, same)) l =
        let h : e ≡ HALF = rw (so.kept ORDER refl, so.kept RAW-ENTRIES refl) at half in
        rw (same, add-one i)
        (record {
          count = rw (after_half (t MARKS) (t RAW-ENTRIES) (t ORDER) i h) so.count;
          stack = rw (after_half (t MARKS) (t RAW-ENTRIES) (t ORDER) i h) so.stack;
          long = so.long;
          counters = so.counters;
          kept = so.kept;
        })
    pushed_next v (inr (some, same)) l =
        let n : e ≡ HALF → ⊥ = rw (so.kept ORDER refl, so.kept RAW-ENTRIES refl) at some in
        let k = get_or (t MARKS) e 0 - 2 in
        let is : v ≡ with_pending k u = rw (so.kept ORDER refl, so.kept RAW-ENTRIES refl, so.kept MARKS refl) at same in
        let more = after_entry (t MARKS) (t RAW-ENTRIES) (t ORDER) i n in
        let room : pending_count u < length (u PENDING) =
        omega (
          arith,
          so.long,
          long,
          so.count,
          nodes_most (t MARKS) (t RAW-ENTRIES) (t ORDER) (suc i) (held_count t) (omega arith),
          ap length more,
          length-append (nodes_to i) (k ∷ []),
          can.room,
        ) in
        let count : get_or (set (u COUNTS) PENDING-COUNT (pending_count u + 1)) PENDING-COUNT 0 ≡ pending_count u + 1 =
        get_or-set_same (u COUNTS) PENDING-COUNT (pending_count u + 1) 0 (omega (arith, can.counts, size_is)) in
        rw (is, add-one i)
        (record {
          count = count ∙ omega (arith, so.count, ap length more, length-append (nodes_to i) (k ∷ []));
          stack = rw (count, more, add-one, take-suc-set (u PENDING) (pending_count u) k room, so.stack);
          long = length-set (u PENDING) (pending_count u) k ∙ so.long;
          counters = λ c f. get_or-set_other (u COUNTS) PENDING-COUNT c (pending_count u + 1) 0 f ∙ so.counters c f;
          kept =
              kept_then (COUNTS ∷ PENDING ∷ []) t u (with_pending k u) so.kept
              (kept_put (COUNTS ∷ PENDING ∷ []) u (put u COUNTS PENDING-COUNT (pending_count u + 1)) PENDING (pending_count u) k refl
              (kept_put (COUNTS ∷ PENDING ∷ []) u u COUNTS PENDING-COUNT (pending_count u + 1) refl (λ j f. refl)));
        })

-- as the code has it
module _ (p : List ℕ) (t : Store) (e r : ℕ) (is : r ≡ e) (can : CanPush p t e) (n : r ≡ HALF → ⊥) where
  abbrev not-half : e ≡ HALF → ⊥
  not-half z = n (is ∙ z)

  pub node_asks : length (t MARKS) ≡ size p MARKS → (r < size p MARKS) × (1 < get_or (t MARKS) r 0)
  node_asks long = rw is (omega (arith, some-inside (t MARKS) e (omega (arith, (can not-half).0))), (can not-half).0)

  module _ (k : ℕ) (node : k + 2 ≡ get_or (t MARKS) r 0) where
    pub pending_asks : (pending_count t < size p PENDING) × IsWord k
    pending_asks = ((can not-half).2, omega (arith, (can not-half).1, ap (λ (x : ℕ). get_or (t MARKS) x 0) is))

    pub pushed_one : (u : Store) → u ≡ with_pending k t → RawPushed t u e
    pushed_one u same =
        let z : k ≡ get_or (t MARKS) e 0 - 2 = omega (arith, ap (λ (x : ℕ). get_or (t MARKS) x 0) is) in
        inr (not-half, same ∙ ap (λ (x : ℕ). with_pending x t) z)
