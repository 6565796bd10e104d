-- The pool at the start is the one of `end_definitions`. Assumes nothing.
use mathlib.Core.Bool.{false}
use mathlib.Core.List.{List, [], ◌∷◌, ◌++◌, map, map-append, map-map, reverse, reverse_aux}
use mathlib.Core.Logic.{◌⊎◌, inl, inr}
use mathlib.Core.Path.{◌≡◌, refl, sym, ap, ◌∙◌}
use Prim.Native.Nat.{ℕ, zero, suc, ◌-◌, ◌≤◌, ◌<◌}
use native.Mathlib.Omega.{arith}
use lib.ListN.{length, get_or, take, length-map, length-take}
use lib.Seq.{get_or-set_same, get_or-set_other, get_or-take, take-suc, take-length}
use borrow.Author.Tests.{eq-eqb, ne_eqb}
use Rattle.definition.specs.Basics.{lookup}
use Rattle.definition.specs.Definitions.{Held, starts, half}
use Rattle.definition.specs.Resolving.{done, child_of, mark_child}
use Rattle.definition.specs.Slots.{highest_slot, Gap, gaps_from, start_slots}
use Rattle.definition.specs.Layout.{starters, node_at_lem}
use Rattle.facts.specs.Lists.{Rising, keys}
use Rattle.facts.proofs.Lists.{equal, read_found, get_map}
use Rattle.laws.specs.Gaps.{Apart}
use Rattle.slots.specs.Gaps.{GapTable, gaps_at, AtMost, slots_of, Written}
use Rattle.slots.proofs.Given.{written_apart}
use Rattle.store.specs.Store.{Store, size, put, among, Kept, IsWord}
use Rattle.store.specs.Regions.{COUNTS, MARKS, GIVEN, RAW-KEYS, RAW-ENTRIES, ORDER, PENDING, HELD-COUNT, NODE-COUNT, GAP-COUNT, ODD, WIDE, PLAIN, PENDING-COUNT}
use Rattle.store.specs.Words.{HALF, mark_word}
use Rattle.store.proofs.Keeping.{kept_put, kept_then}
use Rattle.raws.specs.Raws.{held_word, held_count, slot_row}
use Rattle.pool.specs.Pooled.{slot_word, zeros, gaps_in, slots_in, PooledIn, LiveIn, pending_count}
use Rattle.pool.specs.Starting.{start_pool, order_keys, raw_at_lem, raw_node, raw_nodes, IsDone, CanPushAll, RawsPushed, CanStart, SomeStart, PoolStarted}
use Rattle.pool.proofs.Words.{not-among, word_none}
use Rattle.pool.proofs.Within.{apart_few}
use Rattle.pool.proofs.Gapping.{written-fits}
use Rattle.pool.proofs.Stacking.{some-inside, half_none, entry_node, nodes_low}

-- LISTS

map-onto : {A B : Type 0} (f : A → B) (l onto : List A) → map f (reverse_aux l onto) ≡ reverse_aux (map f l) (map f onto)
map-onto f [] onto = refl
map-onto f (x ∷ l) onto = map-onto f l (x ∷ onto)

starters-append : (a b : List (ℕ × Held)) → starters (a ++ b) ≡ starters a ++ starters b
unfolding starters
starters-append [] b = refl
starters-append ((n, starts e) ∷ a) b = ap (λ (l : List (ℕ × ℕ)). (n, e) ∷ l) (starters-append a b)
starters-append ((n, half) ∷ a) b = starters-append a b

zeros-most : (words : List ℕ) → zeros words ≤ length words
unfolding zeros
zeros-most [] = omega arith
zeros-most (zero ∷ words) = omega (arith, zeros-most words)
zeros-most (suc n ∷ words) = omega (arith, zeros-most words)

rising_most : (low top : ℕ) (ns : List ℕ) → Rising low top ns → AtMost top ns
rising_most low top [] r i = omega arith
rising_most low top (n ∷ ns) r zero = r.1
rising_most low top (n ∷ ns) r (suc i) = rising_most (suc n) top ns r.2 i

apart_higher : (top higher low : ℕ) (gaps : List Gap) → top ≤ higher → Apart top low gaps → Apart higher low gaps
apart_higher top higher low [] h a = tt
apart_higher top higher low (g ∷ gaps) h a = (a.0, a.1, omega arith, apart_higher top higher (suc (suc g.last)) gaps h a.3)

-- THE NODE of an entry that is done

mark_done : (x : ℕ) → 1 < x → mark_word x ≡ done (x - 2)
unfolding mark_word
mark_done zero h = absurd (omega arith)
mark_done (suc zero) h = absurd (omega arith)
mark_done (suc (suc k)) h = let e : suc (suc k) - 2 ≡ k = omega arith in rw e

node_is : (marks : List ℕ) (e : ℕ) → 1 < get_or marks e 0 → node_at_lem (map mark_word marks) e ≡ get_or marks e 0 - 2
unfolding node_at_lem child_of mark_child
node_is marks e h =
    let m : get_or (map mark_word marks) e (done 0) ≡ done (get_or marks e 0 - 2) =
    get_map mark_word marks e (get_or marks e 0) (done 0) (read_found marks e 0 (some-inside marks e (omega arith)))
    ∙ mark_done (get_or marks e 0) h in
    rw m (omega arith)

-- a raw slot's node
held-node :
    (marks : List ℕ) (nodes key e : ℕ) → IsDone marks nodes e →
    map (λ r. node_at_lem (map mark_word marks) r.1) (starters ((key, held_word e) ∷ [])) ≡ raw_node marks e
unfolding starters held_word
held-node marks nodes key e is = ways (equal e HALF)
  where
    ways : (e ≡ HALF) ⊎ (e ≡ HALF → ⊥) → map (λ r. node_at_lem (map mark_word marks) r.1) (starters ((key, held_word e) ∷ [])) ≡ raw_node marks e
    ways (inl h) = rw (half_none marks e h, eq-eqb e HALF h, held_word)
    ways (inr h) = rw (entry_node marks e h, ne_eqb e HALF h, held_word, node_is marks e (is h).0)

module _
    (p : List ℕ) (constants top : ℕ) (held : List (ℕ × Held)) (indexes : List (ℕ × ℕ)) (t : Store) (g : GapTable)
    (can : CanStart p constants top held indexes t g) (long : length (t ORDER) ≡ size p ORDER) where
  abbrev slot_at : ℕ → ℕ × Held
  slot_at i = slot_row (t RAW-KEYS) (t RAW-ENTRIES) i

  -- THE SLOTS of the order are those that are held
  keys-are : (n : ℕ) → n ≡ held_count t → order_keys (t RAW-KEYS) (t ORDER) n ≡ keys held
  keys-are n e =
      rw (e, ← can.counted)
      (sym (map-map (λ r. r.0) slot_at (take (length held) (t ORDER))) ∙ ap (map (λ r. r.0)) can.ordered.slots)

  pub between-asks :
      (n : ℕ) → n ≡ held_count t →
      (n ≤ size p ORDER)
      × ((i : ℕ) → i < n → get_or (t ORDER) i 0 < size p RAW-KEYS)
      × AtMost 65535 (order_keys (t RAW-KEYS) (t ORDER) n)
      × (top ≤ 65535)
      × (length (gaps_from top 1 (order_keys (t RAW-KEYS) (t ORDER) n)) ≤ length g)
  between-asks n e = (
    omega (arith, can.among-raws, can.order_room_lem),
    λ i h. omega (arith, can.ordered.inside i (omega (arith, can.among-raws)), can.keys-room),
    λ i. rw (keys-are n e) (omega (arith, rising_most 1 top (keys held) can.rising i, can.few)),
    omega (arith, can.few),
    rw (keys-are n e) can.gaps_room,
  )

  -- THE NODES of the order are those of the raw constants
  row_at : (i : ℕ) → i < length held → get_or held i (0, half) ≡ slot_at (get_or (t ORDER) i 0)
  row_at i h =
      let l : i < length (take (length held) (t ORDER)) =
      omega (arith, length-take (length held) (t ORDER), can.counted, can.among-raws, can.order_room_lem, long) in
      ap (λ (l : List (ℕ × Held)). get_or l i (0, half)) (sym can.ordered.slots)
      ∙ get_map slot_at (take (length held) (t ORDER)) i (get_or (t ORDER) i 0) (0, half)
      (read_found (take (length held) (t ORDER)) i 0 l ∙ rw (get_or-take (length held) (t ORDER) i 0 h))

  abbrev node : ℕ × ℕ → ℕ
  node r = node_at_lem (map mark_word (t MARKS)) r.1

  nodes_to_lem : (n : ℕ) → n ≤ length held → raw_nodes (t MARKS) (t RAW-ENTRIES) (t ORDER) n ≡ map node (starters (take n held))
  unfolding raw_nodes starters
  nodes_to_lem zero h = refl
  nodes_to_lem (suc n) h =
      rw (
        nodes_to_lem n (omega arith),
        take-suc held n (0, half) (omega arith),
        row_at n (omega arith),
        starters-append (take n held) (slot_at (get_or (t ORDER) n 0) ∷ []),
        map-append node (starters (take n held)) (starters (slot_at (get_or (t ORDER) n 0) ∷ [])),
      )
      (rw (held-node (t MARKS) (get_or (t COUNTS) NODE-COUNT 0) (get_or (t RAW-KEYS) (get_or (t ORDER) n 0) 0) (raw_at_lem (t RAW-ENTRIES) (t ORDER) n) (can.done n (omega arith))))

  nodes_are : raw_nodes (t MARKS) (t RAW-ENTRIES) (t ORDER) (held_count t) ≡ map node (starters held)
  nodes_are = rw (← can.counted) (nodes_to_lem (length held) (omega arith) ∙ rw (take-length held))

  -- THE GAPS are written, and their number is kept
  module _
      (h : GapTable) (n r : ℕ) (is : n ≡ held_count t) (w : Written (gaps_from top 1 (order_keys (t RAW-KEYS) (t ORDER) n)) g h r)
      (counts-long : length (t COUNTS) ≡ size p COUNTS) where
    written : Written (gaps_from top 1 (keys held)) g h r
    written = rw (keys-are n is) at w

    lies : Apart top 1 (gaps_at h r)
    lies = written_apart top (keys held) g h r can.rising written

    pub gaps_few : r ≤ 65535
    gaps_few =
        omega (arith, apart_few top 1 (gaps_at h r) lies (omega arith), ap length written.read, written.counted, can.few)

    abbrev counted : Store
    counted = put t COUNTS GAP-COUNT r

    same : (c : ℕ) → (c ≡ GAP-COUNT → ⊥) → get_or (counted COUNTS) c 0 ≡ get_or (t COUNTS) c 0
    same c f = get_or-set_other (t COUNTS) GAP-COUNT c r 0 f

    same-held : held_count counted ≡ held_count t
    same-held = same HELD-COUNT (λ e. omega arith)

    same_nodes : get_or (counted COUNTS) NODE-COUNT 0 ≡ get_or (t COUNTS) NODE-COUNT 0
    same_nodes = same NODE-COUNT (λ e. omega arith)

    node_count_lem : length (raw_nodes (t MARKS) (t RAW-ENTRIES) (t ORDER) (held_count counted)) ≡ length (starters held)
    node_count_lem = rw (same-held, nodes_are) (length-map (starters held) node)

    -- what `push_raws` asks
    pub pushes_asks : CanPushAll p counted
    pushes_asks =
        record {
          order = omega (arith, same-held, can.among-raws, can.order_room_lem);
          inside =
              λ i l. omega (arith, can.ordered.inside i (omega (arith, same-held, can.among-raws)), can.entries-room);
          done = λ i l. rw same_nodes (can.done i (omega (arith, same-held, can.counted)));
          nodes = rw same_nodes can.nodes;
          empty = same PENDING-COUNT (λ e. omega arith) ∙ can.empty;
          room = omega (arith, node_count_lem, can.stack_room);
          few = can.stack_few;
          counts = omega (arith, can.counts);
        }

    -- THE POOL is there
    module _ (u : Store) (so : RawsPushed counted u (held_count counted)) where
      count_is : get_or (u COUNTS) GAP-COUNT 0 ≡ r
      count_is =
          so.counters GAP-COUNT (λ e. omega arith) ∙ get_or-set_same (t COUNTS) GAP-COUNT r 0 (omega (arith, can.counts))

      zero_is : (c : ℕ) → (c ≡ GAP-COUNT → ⊥) → (c ≡ PENDING-COUNT → ⊥) → get_or (t COUNTS) c 0 ≡ 0 → get_or (u COUNTS) c 0 ≡ 0
      zero_is c f e z = so.counters c e ∙ same c f ∙ z

      odd_is : get_or (u COUNTS) ODD 0 ≡ 0
      odd_is = zero_is ODD (λ e. omega arith) (λ e. omega arith) can.odd

      wide_is : get_or (u COUNTS) WIDE 0 ≡ 0
      wide_is = zero_is WIDE (λ e. omega arith) (λ e. omega arith) can.wide

      plain_is : get_or (u COUNTS) PLAIN 0 ≡ 0
      plain_is = zero_is PLAIN (λ e. omega arith) (λ e. omega arith) can.plain

      stack_is : take (pending_count u) (u PENDING) ≡ map node (starters held)
      stack_is = so.stack ∙ rw (same-held, nodes_are)

      slots-are : slots_in (u COUNTS) h ≡ start_slots (gaps_from top 1 (keys held))
      unfolding slots_of start_slots
      slots-are = rw (count_is, odd_is, wide_is, plain_is, written.read)

      none-given : (k : ℕ) → lookup k [] ≡ slot_word (get_or (u GIVEN) k 0)
      unfolding lookup
      none-given k = rw (so.kept GIVEN refl) (sym (word_none (get_or (t GIVEN) k 0) (can.given k)))

      pub pooled_one : (version : ℕ) → PooledIn (start_pool top held (map mark_word (t MARKS)) version) u h
      pooled_one version =
          record {
            slots = slots-are;
            given = none-given;
            pending =
                map-onto (λ r. r.1) (map (λ r. (r.0, node r)) (starters held)) []
                ∙ ap reverse (map-map (λ r. r.1) (λ r. (r.0, node r)) (starters held) ∙ sym stack_is);
          }

      pub apart_one : Apart top 1 (gaps_in (u COUNTS) h)
      apart_one = rw count_is lies

      pub live_one : length (t GIVEN) ≡ size p GIVEN → length (t PENDING) ≡ size p PENDING → LiveIn u h
      live_one given-long pending-long =
          record {
            gaps =
                record {
                  inside = rw count_is (written-fits (gaps_from top 1 (keys held)) g h r written);
                  apart = apart_higher top highest_slot 1 (gaps_in (u COUNTS) h) can.few apart_one;
                  odd = omega (arith, odd_is);
                  wide = omega (arith, wide_is);
                  plain = omega (arith, plain_is);
                };
            room =
                omega (
                  arith,
                  so.count,
                  node_count_lem,
                  so.long,
                  can.stack_room,
                  zeros-most (u GIVEN),
                  ap length (so.kept GIVEN refl),
                );
            nodes =
                λ i l.
                rw (sym (get_or-take (pending_count u) (u PENDING) i 0 l) ∙ ap (λ (s : List ℕ). get_or s i 0) so.stack, so.counters NODE-COUNT (λ e. omega arith))
                (nodes_low (t MARKS) (t RAW-ENTRIES) (t ORDER) (get_or (counted COUNTS) NODE-COUNT 0) (held_count counted) pushes_asks.done i (omega (arith, so.count)));
          }

      pub counters_one : (c : ℕ) → among c (GAP-COUNT ∷ PENDING-COUNT ∷ []) ≡ false → get_or (u COUNTS) c 0 ≡ get_or (t COUNTS) c 0
      counters_one c f =
          let (a, e) = not-among c GAP-COUNT (PENDING-COUNT ∷ []) f in
          let (b, _) = not-among c PENDING-COUNT [] e in
          so.counters c b ∙ same c a

      pub kept_one : Kept (COUNTS ∷ PENDING ∷ []) t u
      kept_one =
          kept_then (COUNTS ∷ PENDING ∷ []) t counted u
          (kept_put (COUNTS ∷ PENDING ∷ []) t t COUNTS GAP-COUNT r refl (λ k f. refl))
          so.kept

-- AS THE CODE HAS IT: some raw slots are held

pub start_counts : (p : List ℕ) (top : ℕ) (t : Store) (g : GapTable) → SomeStart p top t g → size p COUNTS ≡ 20
unfolding SomeStart
start_counts p top t g (constants, held, indexes, can) = can.counts

module _ (p : List ℕ) (top : ℕ) (t : Store) (g : GapTable) (some : SomeStart p top t g) (long : length (t ORDER) ≡ size p ORDER) (n : ℕ) (is : n ≡ held_count t) where
  pub some-between :
      (n ≤ size p ORDER)
      × ((i : ℕ) → i < n → get_or (t ORDER) i 0 < size p RAW-KEYS)
      × AtMost 65535 (order_keys (t RAW-KEYS) (t ORDER) n)
      × (top ≤ 65535)
      × (length (gaps_from top 1 (order_keys (t RAW-KEYS) (t ORDER) n)) ≤ length g)
  unfolding SomeStart
  some-between = ways some
    where
      ways :
          (constants : ℕ) × (held : List (ℕ × Held)) × (indexes : List (ℕ × ℕ)) × CanStart p constants top held indexes t g →
          (n ≤ size p ORDER)
          × ((i : ℕ) → i < n → get_or (t ORDER) i 0 < size p RAW-KEYS)
          × AtMost 65535 (order_keys (t RAW-KEYS) (t ORDER) n)
          × (top ≤ 65535)
          × (length (gaps_from top 1 (order_keys (t RAW-KEYS) (t ORDER) n)) ≤ length g)
      ways (constants, held, indexes, can) = between-asks p constants top held indexes t g can long n is

  module _
      (h : GapTable) (r : ℕ) (w : Written (gaps_from top 1 (order_keys (t RAW-KEYS) (t ORDER) n)) g h r)
      (counts-long : length (t COUNTS) ≡ size p COUNTS) where
    pub some-few : IsWord r
    unfolding SomeStart
    some-few =
        let (constants, held, indexes, can) = some in
        omega (arith, gaps_few p constants top held indexes t g can long h n r is w counts-long)

    pub some-pushes : (v : Store) → v ≡ put t COUNTS GAP-COUNT r → CanPushAll p v
    unfolding SomeStart
    some-pushes v e =
        let (constants, held, indexes, can) = some in
        rw e (pushes_asks p constants top held indexes t g can long h n r is w counts-long)

    pub some-started :
        (v u : Store) → v ≡ put t COUNTS GAP-COUNT r → RawsPushed v u (held_count v) → length h ≡ length g → length (t GIVEN) ≡ size p GIVEN →
        length (t PENDING) ≡ size p PENDING → PoolStarted p top t u g h
    unfolding SomeStart
    some-started v u e so longer given-long pending-long =
        let (constants, held, indexes, can) = some in
        let pushed : RawsPushed (put t COUNTS GAP-COUNT r) u (held_count (put t COUNTS GAP-COUNT r)) = rw e at so in
        record {
          pooled = λ c' h' i' can'. pooled_one p c' top h' i' t g can' long h n r is w counts-long u pushed;
          live = live_one p constants top held indexes t g can long h n r is w counts-long u pushed given-long pending-long;
          apart = apart_one p constants top held indexes t g can long h n r is w counts-long u pushed;
          long = longer;
          counters = counters_one p constants top held indexes t g can long h n r is w counts-long u pushed;
          kept = kept_one p constants top held indexes t g can long h n r is w counts-long u pushed;
        }
