-- A slot that is given to a node, which goes onto the building stack. Assumes nothing.
use mathlib.Core.Bool.{Bool, false}
use mathlib.Core.List.{List, [], ◌∷◌, reverse, reverse-append}
use mathlib.Core.Logic.{⊎_elim}
use mathlib.Core.Path.{◌≡◌, refl, sym, ap, ◌∙◌}
use Prim.Native.Nat.{ℕ, ◌+◌, ◌<◌}
use native.Mathlib.Numerals.{add-one}
use native.Mathlib.Omega.{arith}
use lib.ListN.{length, get_or, set, take, length-set}
use lib.Seq.{get_or-set_same, get_or-set_other, take-suc-set}
use borrow.Author.Tests.{ne_eqb}
use Rattle.std.specs.Prelude.{Option}
use Rattle.definition.specs.Basics.{every}
use Rattle.definition.specs.Building.{Pool}
use Rattle.facts.proofs.Lists.{equal}
use Rattle.facts.proofs.Tables.{lookup-hit, lookup-miss}
use Rattle.slots.specs.Gaps.{GapTable}
use Rattle.store.specs.Store.{Store, put, among}
use Rattle.store.specs.Regions.{COUNTS, GIVEN, PENDING, NODE-COUNT, GAP-COUNT, ODD, WIDE, PLAIN, PENDING-COUNT}
use Rattle.store.proofs.Keeping.{kept_put, kept_then, kept_more}
use Rattle.interner.specs.Nodes.{node_count}
use Rattle.pool.specs.Pooled.{slot_word, slots_in, PooledIn, GapsLive, LiveIn, with_pending, pending_count, moving, Goes, Took}
use Rattle.pool.proofs.Words.{not-among, word_some, zeros-some, zeros-less}

-- COUNTERS

-- the counters that the gaps go by are the same
pub record SameGaps (before after : List ℕ) : Type 0 where
  pub count : get_or after GAP-COUNT 0 ≡ get_or before GAP-COUNT 0
  pub odd : get_or after ODD 0 ≡ get_or before ODD 0
  pub wide : get_or after WIDE 0 ≡ get_or before WIDE 0
  pub plain : get_or after PLAIN 0 ≡ get_or before PLAIN 0

module _ (before after : List ℕ) (g : GapTable) (same : SameGaps before after) where
  pub slots_same : slots_in after g ≡ slots_in before g
  slots_same = rw (same.count, same.odd, same.wide, same.plain)

  pub gaps_live_same : GapsLive before g → GapsLive after g
  gaps_live_same live =
      record {
        inside = rw same.count live.inside;
        apart = rw same.count live.apart;
        odd = omega (arith, live.odd, same.odd, same.count);
        wide = omega (arith, live.wide, same.wide, same.count);
        plain = omega (arith, live.plain, same.plain, same.count);
      }

-- one more on the stack
pub same-gaps : (counts : List ℕ) (n : ℕ) → SameGaps counts (set counts PENDING-COUNT n)
same-gaps counts n =
    record {
      count = get_or-set_other counts PENDING-COUNT GAP-COUNT n 0 (λ e. omega arith);
      odd = get_or-set_other counts PENDING-COUNT ODD n 0 (λ e. omega arith);
      wide = get_or-set_other counts PENDING-COUNT WIDE n 0 (λ e. omega arith);
      plain = get_or-set_other counts PENDING-COUNT PLAIN n 0 (λ e. omega arith);
    }

-- WHAT STAYS

pub goes_not : (t : Store) (g : GapTable) → Goes t t g g
goes_not t g =
    record { live = λ l. l; apart = λ top a. a; long = refl; given = λ k h. refl; counters = λ c f. refl; kept = λ k f. refl }

pub goes_then : (t u v : Store) (g h i : GapTable) → Goes t u g h → Goes u v h i → Goes t v g i
goes_then t u v g h i a b =
    record {
      live = λ l. b.live (a.live l);
      apart = λ top l. b.apart top (a.apart top l);
      long = b.long ∙ a.long;
      given = λ k l. b.given k (rw (a.given k l) l) ∙ a.given k l;
      counters = λ c f. b.counters c f ∙ a.counters c f;
      kept = kept_then (COUNTS ∷ GIVEN ∷ PENDING ∷ []) t u v a.kept b.kept;
    }

fewer : (c : ℕ) → among c moving ≡ false → among c (ODD ∷ WIDE ∷ PLAIN ∷ []) ≡ false
fewer c f =
    let (a, e) = not-among c ODD (WIDE ∷ PLAIN ∷ PENDING-COUNT ∷ []) f in
    let (b, d) = not-among c WIDE (PLAIN ∷ PENDING-COUNT ∷ []) e in
    let (n, _) = not-among c PLAIN (PENDING-COUNT ∷ []) d in
    rw (ne_eqb c ODD a, ne_eqb c WIDE b, ne_eqb c PLAIN n)

-- a slot that was asked for
module _ (wide ldc : Bool) (t u : Store) (g h : GapTable) (r : Option ℕ) (took : Took wide ldc t u g h r) where
  pub same-given : u GIVEN ≡ t GIVEN
  same-given = took.kept GIVEN refl

  pub same-pending : u PENDING ≡ t PENDING
  same-pending = took.kept PENDING refl

  pub goes_took : Goes t u g h
  unfolding every
  goes_took =
      record {
        live =
            λ l.
            record {
              gaps = took.live;
              room = rw (same-given, same-pending, took.counters PENDING-COUNT refl) l.room;
              nodes = rw (same-pending, took.counters PENDING-COUNT refl, took.counters NODE-COUNT refl) l.nodes;
            };
        apart = took.apart;
        long = took.long;
        given = λ k l. rw same-given;
        counters = λ c f. took.counters c (fewer c f);
        kept = kept_more (COUNTS ∷ []) (COUNTS ∷ GIVEN ∷ PENDING ∷ []) t u refl took.kept;
      }

  -- the pool with the slots that are left
  pub pooled_took : (pool : Pool) → PooledIn pool t g → PooledIn (record { slots = slots_in (u COUNTS) h; given = pool.given; pending = pool.pending; version = pool.version }) u h
  pooled_took pool q =
      record {
        slots = refl;
        given = rw same-given q.given;
        pending = rw (same-pending, took.counters PENDING-COUNT refl) q.pending;
      }

-- a node onto the stack
module _ (t : Store) (k : ℕ) (size : PENDING-COUNT < length (t COUNTS)) (room : pending_count t < length (t PENDING)) where
  abbrev n : ℕ
  n = pending_count t

  abbrev counts : List ℕ
  counts = set (t COUNTS) PENDING-COUNT (n + 1)

  pub pushed_count : get_or counts PENDING-COUNT 0 ≡ n + 1
  pushed_count = get_or-set_same (t COUNTS) PENDING-COUNT (n + 1) 0 size

  pub pushed_nodes :
      k < node_count t →
      ((i : ℕ) → i < n → get_or (t PENDING) i 0 < node_count t) →
      (i : ℕ) → i < get_or counts PENDING-COUNT 0 → get_or (set (t PENDING) n k) i 0 < get_or counts NODE-COUNT 0
  pushed_nodes low all i h =
      rw (get_or-set_other (t COUNTS) PENDING-COUNT NODE-COUNT (n + 1) 0 (λ e. omega arith))
      (⊎_elim
      (λ (e : i ≡ n). rw (e, get_or-set_same (t PENDING) n k 0 room) low)
      (λ (e : i ≡ n → ⊥). rw (get_or-set_other (t PENDING) n i k 0 e) (all i (omega (arith, pushed_count, e))))
      (equal i n))

  pub pushed_stack : reverse (take (get_or counts PENDING-COUNT 0) (set (t PENDING) n k)) ≡ k ∷ reverse (take n (t PENDING))
  pushed_stack = rw (pushed_count, add-one, take-suc-set (t PENDING) n k room) (reverse-append (take n (t PENDING)) (k ∷ []))

-- a node gets a slot and goes onto the stack
module _
    (t : Store) (h : GapTable) (k slot : ℕ) (some : 0 < slot) (lacks : get_or (t GIVEN) k 0 ≡ 0) (inside : k < length (t GIVEN))
    (low : k < node_count t) (size : PENDING-COUNT < length (t COUNTS)) where
  abbrev after : Store
  after = with_pending k (put t GIVEN k slot)

  pub gave_room : LiveIn t h → pending_count t < length (t PENDING)
  gave_room live = omega (arith, live.room, zeros-some (t GIVEN) k inside lacks)

  pub goes_gave : LiveIn t h → Goes t after h h
  goes_gave live =
      let room = gave_room live in
      let same = same-gaps (t COUNTS) (pending_count t + 1) in
      record {
        live =
            λ l.
            record {
              gaps = gaps_live_same (t COUNTS) (after COUNTS) h same l.gaps;
              room =
                  rw (pushed_count t k size room, length-set (t PENDING) (pending_count t) k)
                  (omega (arith, l.room, zeros-less (t GIVEN) k slot inside lacks some));
              nodes = pushed_nodes t k size room low l.nodes;
            };
        apart = λ top a. rw same.count a;
        long = refl;
        given = λ j l. get_or-set_other (t GIVEN) k j slot 0 (λ e. omega (arith, ap (λ (x : ℕ). get_or (t GIVEN) x 0) e));
        counters = λ c f. get_or-set_other (t COUNTS) PENDING-COUNT c (pending_count t + 1) 0 (other c f);
        kept =
            kept_put (COUNTS ∷ GIVEN ∷ PENDING ∷ []) t (put (put t GIVEN k slot) COUNTS PENDING-COUNT (pending_count t + 1)) PENDING (pending_count t) k refl
            (kept_put (COUNTS ∷ GIVEN ∷ PENDING ∷ []) t (put t GIVEN k slot) COUNTS PENDING-COUNT (pending_count t + 1) refl
            (kept_put (COUNTS ∷ GIVEN ∷ PENDING ∷ []) t t GIVEN k slot refl (λ j f. refl)));
      }
    where
      other : (c : ℕ) → among c moving ≡ false → c ≡ PENDING-COUNT → ⊥
      other c f =
          let (_, e) = not-among c ODD (WIDE ∷ PLAIN ∷ PENDING-COUNT ∷ []) f in
          let (_, d) = not-among c WIDE (PLAIN ∷ PENDING-COUNT ∷ []) e in
          let (_, n) = not-among c PLAIN (PENDING-COUNT ∷ []) d in
          (not-among c PENDING-COUNT [] n).0

  pub pooled_gave :
      LiveIn t h → (pool : Pool) → PooledIn pool t h →
      PooledIn (record { slots = pool.slots; given = (k, slot) ∷ pool.given; pending = (slot, k) ∷ pool.pending; version = pool.version }) after h
  pooled_gave live pool q =
      record {
        slots = slots_same (t COUNTS) (after COUNTS) h (same-gaps (t COUNTS) (pending_count t + 1)) ∙ q.slots;
        given =
            λ j.
            ⊎_elim
            (λ (e : j ≡ k).
            lookup-hit j (k, slot) pool.given e
            ∙ sym (rw (e, get_or-set_same (t GIVEN) k slot 0 inside) (word_some slot some)))
            (λ (e : j ≡ k → ⊥).
            lookup-miss j (k, slot) pool.given e ∙ q.given j ∙ ap slot_word (sym (get_or-set_other (t GIVEN) k j slot 0 e)))
            (equal j k);
        pending = ap (λ (l : List ℕ). k ∷ l) q.pending ∙ sym (pushed_stack t k size (gave_room live));
      }

  pub gave_slot : get_or (after GIVEN) k 0 ≡ slot
  gave_slot = get_or-set_same (t GIVEN) k slot 0 inside
