-- The places that the code reads at are there. Assumes nothing.
use Rattle.std.specs.Prelude.{Option, None, Some}
use Rattle.std.specs.Option.{SomeIff, IsSome, option_eq}
use mathlib.Core.Bool.{true, false}
use mathlib.Core.List.{List}
use mathlib.Core.Logic.{⊎_elim}
use mathlib.Core.Path.{◌≡◌, refl, sym, ap, subst, ◌∙◌}
use Prim.Native.Nat.{ℕ, zero, suc, ◌+◌, ◌-◌, ◌≤◌, ◌<◌}
use native.Mathlib.Omega.{arith}
use lib.Dec.{eqb}
use lib.ListN.{get_or}
use borrow.Author.Tests.{eqb-true, eqb-false}
use Rattle.interner.specs.Nodes.{node_count}
use Rattle.raws.specs.Raws.{raw_count, held_count}
use Rattle.raws.specs.Indexes.{RowsCounted, IndexAt}
use Rattle.store.specs.Store.{Store, size, store, On}
use Rattle.store.specs.Regions.{COUNTS, MARKS, GIVEN, INDEXES, FIRSTS, SIZES, CHILDREN, RAW-KEYS, RAW-ENTRIES, ORDER, NODES}
use Rattle.store.specs.Chains.{link_of}
use Rattle.store.specs.Words.{ENTRY}
use Rattle.store.proofs.Walking.{both}
use Rattle.store.proofs.Stores.{length-store, in_words}
use Rattle.rows.specs.Rowed.{constants_of, raw_rows, raw_item, raw_index, RowRoom, Kids, KidsAt, KidsIn, RawAt, RawsReady, RawsReadyIn, IsBootstrapIn, Nth}
use Rattle.facts.proofs.Lists.{order}

-- AN ITEM that is there, or none

pub none_some : (x : ℕ) → None ≡ Some x → ⊥
none_some x e = let q : 0 ≡ x + 1 = ap link_of e in omega arith

pub some_same : (x y : ℕ) → Some x ≡ Some y → x ≡ y
some_same x y e = let q : x + 1 ≡ y + 1 = ap link_of e in omega arith

-- what has a link is there
pub some_link : (r : Option ℕ) → 0 < link_of r → r ≡ Some (link_of r - 1)
some_link None more = absurd (omega arith)
some_link (Some x) more = ap (λ (y : ℕ). Some y) (omega arith)

-- one less than a number is there if the number isn't 0
pub less_link : (r : Option ℕ) (n : ℕ) → SomeIff r (1 ≤ n) (n - 1) → link_of r ≡ n
less_link None n none = ⊎_elim (λ (h : 0 < n). absurd (none (omega arith))) (λ (h : n ≤ 0). omega arith) (order 0 n)
less_link (Some x) n (low, is) = omega arith

-- the test whether it is a certain one
pub eq_some : (r : Option ℕ) (x : ℕ) → option_eq eqb r (Some x) ≡ true → r ≡ Some x
eq_some None x e = absurd (both e refl)
eq_some (Some y) x e = ap (λ (z : ℕ). Some z) (eqb-true y x e)

pub ne_some : (r : Option ℕ) (x : ℕ) → option_eq eqb r (Some x) ≡ false → r ≡ Some x → ⊥
ne_some None x e is = none_some x is
ne_some (Some y) x e is = eqb-false y x e (some_same y x is)

-- COUNTERS

pub counter : (p : List ℕ) → RowRoom p → (c : ℕ) → c < 20 → c < size p COUNTS
counter p room c h = omega (arith, room.counts)

-- NODES and their children

module _ (p : List ℕ) (t : Store) (room : RowRoom p) (kids : KidsIn p t) (k : ℕ) (low : k < node_count t) where
  pub kids_at_lem : KidsAt p (t NODES) (t FIRSTS) (t SIZES) (t CHILDREN) k
  unfolding Kids
  kids_at_lem = kids k low

  pub node_place_lem : k < size p NODES
  node_place_lem = omega (arith, kids_at_lem.node, room.nodes)

  module _ (e : ℕ) (is : e ≡ get_or (t NODES) k 0) where
    pub size-place : e < size p SIZES
    size-place = omega (arith, kids_at_lem.entry, room.sizes)

    pub first_place_lem : e < size p FIRSTS
    first_place_lem = omega (arith, kids_at_lem.entry, room.firsts)

  module _
      (first n i : ℕ) (from : first ≡ get_or (t FIRSTS) (get_or (t NODES) k 0) 0) (m : ℕ) (all : m ≡ get_or (t SIZES) (get_or (t NODES) k 0) 0) (even : m ≡ n)
      (less : i < n) where
    pub kid_place : first + i < size p CHILDREN
    kid_place = omega (arith, kids_at_lem.room)

    pub kid_add : (words : ℕ) → On p words → first + i < words
    kid_add words on = omega (arith, (in_words p words CHILDREN (first + i) on kid_place).1)

    pub kid_small : (x : ℕ) → x ≡ get_or (t CHILDREN) (first + i) 0 → x < ENTRY + size p GIVEN
    kid_small x q =
        subst
        (λ (y : ℕ). y < ENTRY + size p GIVEN)
        (sym (q ∙ ap (λ (a : ℕ). get_or (t CHILDREN) (a + i) 0) from))
        (kids_at_lem.kids i (omega arith))

-- BOOTSTRAPS

module _ (p w : List ℕ) (room : RowRoom p) (k : ℕ) (is : IsBootstrapIn p (store p w) k) (e n : ℕ) (node : e ≡ get_or (store p w NODES) k 0) (all : n ≡ constants_of p) where
  pub boot_behind : n ≤ e
  boot_behind = omega (arith, is.behind)

  pub boot_place : e - n < size p INDEXES
  boot_place = rw (node, all) (omega (arith, is.inside, length-store p w INDEXES))

-- RAW BOOTSTRAPS

module _ (p : List ℕ) (t : Store) (ready : RawsReadyIn p t) where
  pub raws_held : held_count t ≤ raw_count t
  unfolding RawsReady
  raws_held = ready.0

  pub raw_at : (i : ℕ) → i < raw_rows t → RawAt p (t MARKS) (t RAW-KEYS) (t RAW-ENTRIES) (t ORDER) (held_count t) (node_count t) i
  unfolding RawsReady
  raw_at = ready.1

  pub raw_low_lem : (i : ℕ) → i < raw_rows t → raw_index t i < 65535
  raw_low_lem i h = omega (arith, (raw_at i h).high, (raw_at i h).low)

  pub raw_rise : (i j : ℕ) → i < j → j < raw_rows t → raw_index t i < raw_index t j
  unfolding RawsReady
  raw_rise i j l h = omega (arith, ready.2 i j l h, (raw_at i (omega arith)).low)

  -- as raws reads them
  pub raws_counted_lem : RowRoom p → RowsCounted p t
  raws_counted_lem room = record { counts = counter p room _ (omega arith); held = raws_held }

  pub index_there : (i : ℕ) → i < raw_rows t → IndexAt p t i
  index_there i h = let r = raw_at i h in record { place = r.place; item = r.item; key = r.low }

  raw_far : (i : ℕ) → i < raw_rows t → i ≤ raw_index t i
  raw_far zero h = omega arith
  raw_far (suc i) h = omega (arith, raw_far i (omega arith), raw_rise i (suc i) (omega arith) h)

  -- the indexes rise, so that there are few
  pub raws_few : raw_rows t ≤ 65535
  raws_few =
      ⊎_elim
      (λ (l : 0 < raw_rows t). omega (arith, raw_far (raw_rows t - 1) (omega arith), raw_low_lem (raw_rows t - 1) (omega arith)))
      (λ (l : raw_rows t ≤ 0). omega arith)
      (order 0 (raw_rows t))

  module _ (i n : ℕ) (all : n ≡ raw_rows t) where
    pub nth_past : n ≤ i → Nth (raw_index t) (raw_rows t) i None
    nth_past h = record { there = λ l. absurd (omega arith); past = λ l. refl }

    pub nth-there : i < n → (x : ℕ) → x ≡ raw_index t i → Nth (raw_index t) (raw_rows t) i (Some x)
    nth-there less x is = record { there = λ l. ap (λ (y : ℕ). Some y) is; past = λ l. absurd (omega arith) }

    module _ (less : i < n) (held : ℕ) (from : held ≡ held_count t) where
      pub raw_there_lem : (held + i < size p ORDER) × (get_or (t ORDER) (held + i) 0 < size p RAW-KEYS)
      raw_there_lem = rw from ((raw_at i (omega arith)).place, (raw_at i (omega arith)).item)

      pub raw_entry_there : (held + i < size p ORDER) × (get_or (t ORDER) (held + i) 0 < size p RAW-ENTRIES)
      raw_entry_there = rw from ((raw_at i (omega arith)).place, (raw_at i (omega arith)).there)

      pub raw_add : (words : ℕ) → On p words → held + i < words
      raw_add words on = omega (arith, (in_words p words ORDER (held + i) on raw_there_lem.0).1)

      module _ (key : ℕ) (is : key ≡ get_or (t RAW-KEYS) (get_or (t ORDER) (held + i) 0) 0) where
        key_is : key ≡ get_or (t RAW-KEYS) (raw_item t i) 0
        key_is = is ∙ ap (λ (h : ℕ). get_or (t RAW-KEYS) (get_or (t ORDER) (h + i) 0) 0) from

        pub key_high : ENTRY ≤ key
        key_high = omega (arith, key_is, (raw_at i (omega arith)).low)

        pub key-index : key - ENTRY ≡ raw_index t i
        key-index = ap (λ (x : ℕ). x - ENTRY) key_is

        pub nth_there : Nth (raw_index t) (raw_rows t) i (Some (key - ENTRY))
        nth_there = nth-there less (key - ENTRY) key-index

-- THE LAST RAW BOOTSTRAP

module _
    (p : List ℕ) (t : Store) (ready : RawsReadyIn p t) (n : ℕ) (all : n ≡ raw_rows t) (some : 0 < n) (r : Option ℕ)
    (is : Nth (raw_index t) (raw_rows t) (n - 1) r) where
  pub last_there : IsSome r
  last_there = subst (λ (o : Option ℕ). IsSome o) (sym (is.there (omega arith))) refl

  pub last_index : (x : ℕ) → r ≡ Some x → x ≡ raw_index t (n - 1)
  last_index x e = some_same x (raw_index t (n - 1)) (sym e ∙ is.there (omega arith))
