-- The walk over the slots of the pool, which both measuring and writing make: what is behind it. Assumes nothing.
use mathlib.Core.Bool.{Bool, false}
use mathlib.Core.List.{List, [], ◌++◌, append_assoc, append-nil}
use mathlib.Core.Path.{◌≡◌, refl, sym, ap, subst, ◌∙◌}
use Prim.Native.Nat.{ℕ, zero, suc, ◌+◌, ◌-◌, ◌≤◌, ◌<◌}
use native.Mathlib.Nat.{add-zero}
use native.Mathlib.Omega.{arith}
use lib.ListN.{length, length-append}
use lib.Seq.{paste, take-length}
use Rattle.definition.specs.Basics.{from, concat}
use Rattle.definition.specs.Bytes.{be2}
use Rattle.definition.specs.Run.{slot_bytes, overwrite}
use Rattle.raw_const.specs.Entries.{Wrote}
use Rattle.raw_const.proofs.Writes.{wrote_then, wrote_short}
use Rattle.store.specs.Store.{Store}
use Rattle.store.specs.Regions.{Work}
use Rattle.store.proofs.Laying.{work-sizes}
use Rattle.store.proofs.Bounds.{work-small}
use Rattle.raws.specs.Raws.{held_count}
use Rattle.output.specs.declared.Content.{Content}
use Rattle.output.specs.Contents.{shown_in, wide_in, owner_in, content_in, slot_in, pool_count, pool_in, IsContent, held_in_lem, HeldOrder, Sweep, Walked, Finished}
use Rattle.output.proofs.Holding.{owner_is, wide_same, content_owner, wide_first, wide_later, sweep_begin, sweep_next, sweep_stay}

-- LISTS JOINED

joined-on : (f : ℕ → List ℕ) (i k : ℕ) → concat (from f i (suc k)) ≡ concat (from f i k) ++ f (i + k)
unfolding concat from
joined-on f i zero = rw (add-zero i) (append-nil (f i))
joined-on f i (suc k) =
    let place : suc i + k ≡ i + suc k = omega arith in
    ap (λ l. f i ++ l) (joined-on f (suc i) k)
    ∙ sym (append_assoc (f i) (concat (from f (suc i) k)) (f (suc i + k)))
    ∙ ap (λ j. f i ++ concat (from f (suc i) k) ++ f j) place

-- those from 1 to below a number
abbrev pub below : (ℕ → List ℕ) → ℕ → List ℕ
below f n = concat (from f 1 (n - 1))

pub below_none : (f : ℕ → List ℕ) → below f 1 ≡ []
unfolding concat from
below_none f = refl

pub below_more : (f : ℕ → List ℕ) (n : ℕ) → 1 ≤ n → below f (n + 1) ≡ below f n ++ f n
below_more f n h =
    let a : n + 1 - 1 ≡ suc (n - 1) = omega arith in
    let b : 1 + (n - 1) ≡ n = omega arith in
    rw a (joined-on f 1 (n - 1) ∙ ap (λ k. below f n ++ f k) b)

below_le : (f : ℕ → List ℕ) (n d : ℕ) → 1 ≤ n → length (below f n) ≤ length (below f (n + d))
below_le f n zero h = let z : n + 0 ≡ n = omega arith in rw z (omega arith)
below_le f n (suc d) h =
    let a : n + suc d ≡ n + d + 1 = omega arith in
    rw (a, below_more f (n + d) (omega arith), length-append (below f (n + d)) (f (n + d))) (omega (arith, below_le f n d h))

-- one more has room where all have
pub below_room : (f : ℕ → List ℕ) (n m : ℕ) → 1 ≤ n → n < m → length (below f n) + length (f n) ≤ length (below f m)
below_room f n m h l =
    let a : n + 1 + (m - (n + 1)) ≡ m = omega arith in
    let up = below_le f (n + 1) (m - (n + 1)) (omega arith) in
    let more = below_more f n h in
    subst (λ x. length (below f n) + length (f n) ≤ length (below f x)) a (omega (arith, up, ap length more, length-append (below f n) (f n)))

-- bytes written from the start are a prefix
pub paste-first : (d l : List ℕ) → paste d 0 l (length l) ≡ overwrite l d
unfolding overwrite
paste-first d l = let z : 0 + length l ≡ length l = omega arith in rw (z, take-length l)

-- THE WALK, at a slot

module _ (s p : List ℕ) (t : Store) (done : Finished s p t) where
  pub walked_begin : (held : ℕ) → held ≡ held_in_lem t 0 → Walked s t 1 0 held false
  walked_begin held is =
      record { low = omega arith; high = done.low; sweep = sweep_begin p t done.order held is; before = sym (wide_first s t 0 refl) }

  module _ (work : Work s p) (slot raws held : ℕ) (wide : Bool) (w : Walked s t slot raws held wide) (inside : slot < pool_count t) where
    pub walked_slot : slot < 65536
    walked_slot = omega (arith, done.high)

    module _ (holds : Content) (is : holds ≡ owner_in t slot wide) where
      pub content_here : holds ≡ content_in s t slot
      content_here = is ∙ ap (owner_in t slot) w.before ∙ sym (content_owner s t slot w.low)

      pub content_good : IsContent s t holds
      content_good = rw is (owner_is s p t work done.sought done.owned slot wide w.low)

      pub bytes-here : slot_bytes (shown_in s t holds) ≡ slot_in s t slot
      bytes-here = ap (λ c. slot_bytes (shown_in s t c)) content_here

      pub walked_next : (raws' held' : ℕ) (wide' : Bool) → wide' ≡ wide_in s t holds → Sweep t (slot + 1) raws' held' → Walked s t (slot + 1) raws' held' wide'
      walked_next raws' held' wide' q sweep =
          let e : slot + 1 - 1 ≡ slot = omega arith in
          record {
            low = omega arith;
            high = omega arith;
            sweep = sweep;
            before =
                rw e
                (q ∙ ap (wide_in s t) is ∙ sym (wide_later s t slot w.low ∙ wide_same s p t work done.sought done.owned slot wide));
          }

      -- measured
      pub size-next : (sum n : ℕ) → sum ≡ 2 + length (below (slot_in s t) slot) → n ≡ length (slot_bytes (shown_in s t holds)) → sum + n ≡ 2 + length (below (slot_in s t) (slot + 1))
      size-next sum n a b =
          let m = ap length (below_more (slot_in s t) slot w.low) ∙ length-append (below (slot_in s t) slot) (slot_in s t slot) in
          omega (arith, a, b, ap length bytes-here, m)

      -- and written
      pub content_room : (at : ℕ) → at ≡ 2 + length (below (slot_in s t) slot) → at + length (slot_bytes (shown_in s t holds)) ≤ length (pool_in s t)
      unfolding be2
      content_room at a =
          let r = below_room (slot_in s t) slot (pool_count t) w.low inside in
          omega (arith, ap length bytes-here, r, length-append (be2 (pool_count t)) (below (slot_in s t) (pool_count t)))

      pub pool_next :
          {d₀ d d₁ : List ℕ} {at r : ℕ} → 2 + length (below (slot_in s t) slot) ≤ length d₀ →
          Wrote d₀ 2 (below (slot_in s t) slot) d at → Wrote d at (slot_bytes (shown_in s t holds)) d₁ r → Wrote d₀ 2 (below (slot_in s t) (slot + 1)) d₁ r
      pool_next room a b = rw (below_more (slot_in s t) slot w.low) (wrote_then a room (rw bytes-here at b))

    -- what the slot holds, as the code finds it
    pub content_back : (holds : Content) → holds ≡ content_in s t slot → holds ≡ owner_in t slot wide
    content_back holds q = q ∙ sym (content_here (owner_in t slot wide) refl)

    pub sweep_hit_on : slot ≡ held → (raws' held' next : ℕ) → raws' ≡ raws + 1 → held' ≡ next → next ≡ held_in_lem t (raws + 1) → Sweep t (slot + 1) raws' held'
    sweep_hit_on h raws' held' next a b q = rw (a, b) (sweep_next p t done.order slot raws held w.sweep h walked_slot next q)

    pub sweep_miss-on : (slot ≡ held → ⊥) → (raws' held' : ℕ) → raws' ≡ raws → held' ≡ held → Sweep t (slot + 1) raws' held'
    sweep_miss-on h raws' held' a b = rw (a, b) (sweep_stay p t done.order slot raws held w.sweep h walked_slot)

  module _ (slot raws held : ℕ) (wide : Bool) (w : Walked s t slot raws held wide) (past : pool_count t ≤ slot) where
    at_end_lem : slot ≡ pool_count t
    at_end_lem = omega (arith, w.high)

    pub size-end : (sum : ℕ) → sum ≡ 2 + length (below (slot_in s t) slot) → sum ≡ length (pool_in s t)
    unfolding be2
    size-end sum a =
        a ∙ ap (λ n. 2 + length (below (slot_in s t) n)) at_end_lem ∙ sym (length-append (be2 (pool_count t)) (below (slot_in s t) (pool_count t)))

    pub pool_end :
        (d d₀ d₁ : List ℕ) (end at : ℕ) → end ≡ pool_count t → d₀ ≡ paste d 0 (be2 end) 2 → 2 ≤ length d → Wrote d₀ 2 (below (slot_in s t) slot) d₁ at →
        d₁ ≡ overwrite (pool_in s t) d
    unfolding be2
    pool_end d d₀ d₁ end at e first room second =
        let all = wrote_then (wrote_short d 0 end first) room second in
        all.out ∙ paste-first d (be2 end ++ below (slot_in s t) slot) ∙ rw (e, at_end_lem)

pub pool_begins : (s : List ℕ) (t : Store) → 2 ≤ length (pool_in s t)
unfolding be2
pool_begins s t = omega (arith, length-append (be2 (pool_count t)) (below (slot_in s t) (pool_count t)))

-- raw slots are few
pub held-few : (s p : List ℕ) (t : Store) → Work s p → HeldOrder p t → held_count t < 4294967295
held-few s p t work o =
    let z = work-sizes s p work in
    let b = work-small s p work in
    omega (arith, o.room, z.order, b.raw_constants, b.raw_bootstraps)
