-- What the raw definitions and their order hand on to the walk over the slots. Assumes nothing.
use mathlib.Core.List.{List, [], ◌∷◌}
use mathlib.Core.Logic.{◌⊎◌, inl, inr, ⊎_elim}
use mathlib.Core.Option.{some}
use mathlib.Core.Path.{◌≡◌, sym, ap, subst, ◌∙◌}
use Prim.Native.Nat.{ℕ, zero, suc, ◌≤◌, ◌<◌}
use native.Mathlib.Omega.{arith}
use lib.ListN.{length, get_or, get_elem?, take, length-map}
use lib.Seq.{get_or-take}
use Rattle.definition.specs.Definitions.{Held}
use Rattle.facts.specs.Lists.{Rising, keys}
use Rattle.facts.proofs.Lists.{none≢some, some_inj, found_inside, read_found, map_at, equal, order as compare}
use Rattle.facts.proofs.Tables.{lookup-at}
use Rattle.store.specs.Store.{Store, size}
use Rattle.store.specs.Chains.{NumbersIn}
use Rattle.store.specs.JobIn.{entries_in}
use Rattle.store.specs.Regions.{COUNTS, MARKS, GIVEN, OWNER-HEADS, RAW-KEYS, RAW-ENTRIES, ORDER, HELD-COUNT, Work}
use Rattle.store.specs.Words.{HALF}
use Rattle.store.proofs.Laying.{work-sizes, entries-counted}
use Rattle.store.proofs.Bounds.{work-heads}
use Rattle.interner.specs.Nodes.{node_count, EnteredIn, NodesIn}
use Rattle.raws.specs.Raws.{SlotItem, IndexItem, Raws, RawsIn, raw_count, held_count, held_word, slot_row, Ordered}
use Rattle.raws.proofs.Sweeping.{rising_least}
use Rattle.output.specs.Contents.{Made, Searched, HeldOrder}

rising_pair : (low top : ℕ) (l : List ℕ) → Rising low top l → (i j a b : ℕ) → get_elem? l i ≡ some a → get_elem? l j ≡ some b → i < j → a < b
rising_pair low top [] r i j a b f g h = none≢some f
rising_pair low top (n ∷ ns) r zero zero a b f g h = absurd (omega arith)
rising_pair low top (n ∷ ns) r zero (suc j) a b f g h = omega (arith, some_inj f, rising_least (suc n) top ns b r.2 (j, g))
rising_pair low top (n ∷ ns) r (suc i) zero a b f g h = absurd (omega arith)
rising_pair low top (n ∷ ns) r (suc i) (suc j) a b f g h = rising_pair (suc n) top ns r.2 i j a b f g (omega arith)

module _
    {h constants top : ℕ} {held : List (ℕ × Held)} {indexes : List (ℕ × ℕ)} {item_keys entries heads links order : List ℕ} {n m : ℕ}
    (r : Raws h constants top held indexes item_keys entries heads links n m) (o : Ordered constants top held indexes item_keys entries order n) where
  -- the raw slot at a place of the order
  held_at : (j : ℕ) → j < m → get_elem? held j ≡ some (slot_row item_keys entries (get_or order j 0))
  held_at j l =
      let front = take (length held) order in
      let long : length front ≡ length held = sym (length-map front (slot_row item_keys entries)) ∙ ap length o.slots in
      let low : j < length held = omega (arith, r.held_counted) in
      let there : get_elem? front j ≡ some (get_or order j 0) =
      read_found front j 0 (omega arith) ∙ ap some (get_or-take (length held) order j 0 low) in
      subst (λ l. get_elem? l j ≡ some (slot_row item_keys entries (get_or order j 0))) o.slots
      (map_at (slot_row item_keys entries) front j (get_or order j 0) there)

  key_at : (j : ℕ) → j < m → get_elem? (keys held) j ≡ some (get_or item_keys (get_or order j 0) 0)
  key_at j l = map_at (λ r. r.0) held j (slot_row item_keys entries (get_or order j 0)) (held_at j l)

  pub order_rises : (i j : ℕ) → i < j → j < m → get_or item_keys (get_or order i 0) 0 < get_or item_keys (get_or order j 0) 0
  order_rises i j a b =
      rising_pair 1 top (keys held) r.held_rise i j (get_or item_keys (get_or order i 0) 0) (get_or item_keys (get_or order j 0) 0) (key_at i (omega arith)) (key_at j b) a

  pub few_held : m ≤ n
  few_held = omega (arith, r.counted, r.held_counted)

  same_item : (i j : ℕ) → i < n → j < n → get_or item_keys i 0 ≡ get_or item_keys j 0 → i ≡ j
  same_item i j a b e =
      ⊎_elim
      (λ (z : i ≡ j). z)
      (λ (z : i ≡ j → ⊥).
      ⊎_elim
      (λ (l : i < j). absurd (r.unlike i j l b e))
      (λ (l : j ≤ i). let less : j < i = omega arith in absurd (r.unlike j i less a (sym e)))
      (compare i j))
      (equal i j)

  pub order_whole : (i : ℕ) → i < n → get_or item_keys i 0 < 65536 → (j : ℕ) × (j < m) × (get_or order j 0 ≡ i)
  order_whole i l low =
      ⊎_elim
      (λ (s : SlotItem top held (get_or item_keys i 0) (get_or entries i 0)).
      let a = lookup-at (get_or item_keys i 0) (held_word (get_or entries i 0)) held s.row in
      let inside : a.0 < m = omega (arith, found_inside held a.0 (get_or item_keys i 0, held_word (get_or entries i 0)) a.1, r.held_counted) in
      let e = ap (λ (x : ℕ × Held). x.0) (some_inj (sym (held_at a.0 inside) ∙ a.1)) in
      (a.0, inside, same_item (get_or order a.0 0) i (o.inside a.0 (omega (arith, few_held))) l e))
      (λ (s : IndexItem constants indexes (get_or item_keys i 0) (get_or entries i 0)). absurd (omega (arith, s.low)))
      (r.items i l)

-- the order as the walk over the slots asks for it
pub held-order :
    (p : List ℕ) (constants top : ℕ) (held : List (ℕ × Held)) (indexes : List (ℕ × ℕ)) (t : Store) → RawsIn p constants top held indexes t →
    Ordered constants top held indexes (t RAW-KEYS) (t RAW-ENTRIES) (t ORDER) (raw_count t) → HELD-COUNT < size p COUNTS →
    raw_count t ≤ size p RAW-KEYS → raw_count t ≤ size p RAW-ENTRIES → raw_count t ≤ size p ORDER → HeldOrder p t
held-order p constants top held indexes t r o counted a b c =
    let few = few_held r o in
    let item : (j : ℕ) → j < held_count t → SlotItem top held (get_or (t RAW-KEYS) (get_or (t ORDER) j 0) 0) (get_or (t RAW-ENTRIES) (get_or (t ORDER) j 0) 0) =
    λ j l. o.slot_items j (omega (arith, r.held_counted)) in
    record {
      counted = counted;
      room = omega arith;
      keys_room = a;
      entries_room = b;
      inside = λ j l. o.inside j (omega arith);
      rise = order_rises r o;
      low = λ j l. (item j l).low;
      high = λ j l. omega (arith, (item j l).high, r.few);
      whole = order_whole r o;
    }

-- nodes are made from entries of the job
pub nodes_made : (h : ℕ) (s : List ℕ) (t : Store) → EnteredIn s t → NodesIn h s t → Made s t
nodes_made h s t entered nodes = record { entered = entered; few = nodes.few; inside = nodes.inside }

-- the searches have their chains, in which a number stands once
pub searched :
    (s p : List ℕ) (constants top : ℕ) (held : List (ℕ × Held)) (indexes : List (ℕ × ℕ)) (t : Store) → Work s p →
    RawsIn p constants top held indexes t → raw_count t ≤ size p RAW-KEYS →
    ((i : ℕ) → i < raw_count t →
    (get_or (t RAW-ENTRIES) i 0 ≡ HALF) ⊎ ((get_or (t RAW-ENTRIES) i 0 < entries_in s) × (1 < get_or (t MARKS) (get_or (t RAW-ENTRIES) i 0) 0))) →
    NumbersIn p t OWNER-HEADS GIVEN (node_count t) →
    ((j k : ℕ) → j < k → k < node_count t → 0 < get_or (t GIVEN) j 0 → get_or (t GIVEN) j 0 ≡ get_or (t GIVEN) k 0 → ⊥) → Searched p t
searched s p constants top held indexes t work r room done owners alone =
    let z = work-sizes s p work in
    let c = entries-counted s in
    let heads = work-heads s p work in
    record {
      named = omega (arith, z.counts);
      raw_heads = heads.2;
      raws = (r.chains, room, omega (arith, z.raw_keys, z.raw_links));
      raw_room = omega (arith, z.raw_keys, z.raw_entries);
      raw_alone = r.unlike;
      raw_done =
          λ i l.
          ⊎_elim
          (λ (e : get_or (t RAW-ENTRIES) i 0 ≡ HALF). inl e)
          (λ (e : (get_or (t RAW-ENTRIES) i 0 < entries_in s) × (1 < get_or (t MARKS) (get_or (t RAW-ENTRIES) i 0) 0)). inr (omega (arith, e.0, z.marks), e.1))
          (done i l);
      owner_heads = heads.4;
      owners = owners;
      owner_alone = alone;
    }
