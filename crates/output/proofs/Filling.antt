-- Which node has the row at an index, by the tests that the code makes, and the walk over the rows. Assumes nothing.
use Rattle.std.specs.Prelude.{Option, unwrap_or}
use mathlib.Core.List.{List, [], ◌++◌}
use mathlib.Core.Logic.{⊎_elim}
use mathlib.Core.Path.{◌≡◌, refl, sym, ap, subst, ◌∙◌}
use Prim.Native.Nat.{ℕ, zero, suc, ◌+◌, ◌-◌, ◌*◌, ◌≤◌, ◌<◌}
use native.Mathlib.Numerals.{add-one}
use native.Mathlib.Omega.{arith}
use lib.ListN.{length, get_or, length-append}
use borrow.Author.Tests.{lt-ltb, le-ltb, eq-eqb, ne_eqb}
use Rattle.definition.specs.Basics.{from, concat}
use Rattle.definition.specs.Run.{row_bytes, overwrite}
use Rattle.facts.proofs.Chunks.{joined, joined-more, length_from}
use Rattle.raw_const.specs.Entries.{Wrote, RowTakes}
use Rattle.raw_const.proofs.Writes.{wrote_then, wrote_nothing}
use Rattle.store.specs.Store.{Store, On}
use Rattle.raws.specs.Raws.{held_count}
use Rattle.raws.specs.Indexes.{RowsCounted, IndexAt, NthIndex}
use Rattle.store.specs.Regions.{GIVEN, FIRSTS, SIZES, CHILDREN, RAW-KEYS, ORDER, NODES}
use Rattle.store.proofs.Stores.{in_words}
use Rattle.store.specs.Words.{child_slot}
use Rattle.output.specs.Contents.{child_count}
use Rattle.output.specs.Rows.{row_in, RowReady, raw_rows, raw_index_at, inline_index_at, count_rows, raw_index_in, inline_index_in, row_count_in, reached_at, passed, node_or, row_node_in, row_at_in, rows_in, constants_for, Filled, RowsReady}
use Rattle.output.proofs.Pools.{paste-first}
use Rattle.output.proofs.Rowing.{row_long}
use Rattle.facts.proofs.Lists.{order as compare}

-- WORDS

module _ (keys order : List ℕ) (held n i : ℕ) where
  pub raw_index-there : i < n → raw_index_at keys order held n i ≡ get_or keys (get_or order (held + i) 0) 0 - 65536
  unfolding raw_index_at
  raw_index-there h = rw (lt-ltb i n h, raw_index_at)

  pub raw_index-past : n ≤ i → raw_index_at keys order held n i ≡ 65536
  unfolding raw_index_at
  raw_index-past h = rw (le-ltb i n h, raw_index_at)

module _ (constants : ℕ) (indexes nodes inline : List ℕ) (n i : ℕ) where
  pub inline_index-there : i < n → inline_index_at constants indexes nodes inline n i ≡ get_or indexes (get_or nodes (get_or inline i 0) 0 - constants) 0 - 1
  unfolding inline_index_at
  inline_index-there h = rw (lt-ltb i n h, inline_index_at)

  pub inline_index-past : n ≤ i → inline_index_at constants indexes nodes inline n i ≡ 65536
  unfolding inline_index_at
  inline_index-past h = rw (le-ltb i n h, inline_index_at)

module _ (written raws last rows : ℕ) where
  pub rows_left : written < raws → count_rows written raws last rows ≡ last + 1
  unfolding count_rows
  rows_left h = rw (lt-ltb written raws h, count_rows)

  pub rows_made : raws ≤ written → count_rows written raws last rows ≡ rows
  unfolding count_rows
  rows_made h = rw (le-ltb written raws h, count_rows)

pub node_inline : (next index inline raw : ℕ) → next ≡ index → node_or next index inline raw ≡ inline
unfolding node_or
node_inline next index inline raw h = rw (eq-eqb next index h, node_or)

pub node_raw : (next index inline raw : ℕ) → (next ≡ index → ⊥) → node_or next index inline raw ≡ raw
unfolding node_or
node_raw next index inline raw h = rw (ne_eqb next index h, node_or)

pub reached_here : (at next : ℕ) → at ≡ next → 1 ≡ reached_at at next
unfolding reached_at
reached_here at next h = rw (eq-eqb at next h, reached_at)

pub reached_not : (at next : ℕ) → (at ≡ next → ⊥) → 0 ≡ reached_at at next
unfolding reached_at
reached_not at next h = rw (ne_eqb at next h, reached_at)

-- a word below INLINE-COUNT is there
pub inline_below :
    (constants : ℕ) (indexes nodes inline : List ℕ) (n i index : ℕ) → index < 65536 → inline_index_at constants indexes nodes inline n i ≡ index → i < n
inline_below constants indexes nodes inline n i index low is =
    ⊎_elim
    (λ (l : i < n). l)
    (λ (l : n ≤ i). absurd (omega (arith, inline_index-past constants indexes nodes inline n i l)))
    (compare i n)

-- PASSED

pub passed_first : (next : ℕ → ℕ) → 0 ≡ passed next 0
unfolding passed
passed_first next = refl

pub passed-next :
    (next : ℕ → ℕ) (index have one got : ℕ) → have ≡ passed next index → got ≡ next have → one ≡ reached_at index got → have + one ≡ passed next (index + 1)
unfolding passed
passed-next next index have one got a b c = rw (add-one index) (rw (c, b, a))

-- THE WALK over the rows

module _ (p : List ℕ) (t : Store) where
  pub filled-begin : Filled p t 0 0 0
  filled-begin =
      record {
        high = omega arith;
        inlines = passed_first (inline_index_in (constants_for p) t);
        raw_ones = passed_first (raw_index_in t);
        inline_low = omega arith;
        raw_low = omega arith;
      }

  abbrev row : ℕ → List ℕ
  row = row_at_in (constants_for p) t

  joined-size : (n : ℕ) → length (joined row (n + 1)) ≡ length (joined row n) + length (row n)
  joined-size n = ap length (ap (joined row) (add-one n) ∙ joined-more row n) ∙ length-append (joined row n) (row n)

  joined-le : (n d : ℕ) → length (joined row n) ≤ length (joined row (n + d))
  joined-le n zero = let z : n + 0 ≡ n = omega arith in rw z (omega arith)
  joined-le n (suc d) = let a : n + suc d ≡ n + d + 1 = omega arith in rw a (omega (arith, joined-le n d, joined-size (n + d)))

  module _ (ready : RowsReady p t) (inline raws index : ℕ) (w : Filled p t inline raws index) (less : index < row_count_in t) where
    pub filled_next :
        (a b x y : ℕ) → x ≡ inline_index_in (constants_for p) t inline → (a ≡ reached_at index x) × (a ≤ 1) → y ≡ raw_index_in t raws → (b ≡ reached_at index y) × (b ≤ 1) →
        Filled p t (inline + a) (raws + b) (index + 1)
    filled_next a b x y xi ai yi bi =
        record {
          high = omega arith;
          inlines = passed-next (inline_index_in (constants_for p) t) index inline a x w.inlines xi ai.0;
          raw_ones = passed-next (raw_index_in t) index raws b y w.raw_ones yi bi.0;
          inline_low = omega (arith, w.inline_low);
          raw_low = omega (arith, w.raw_low);
        }

    module _ (k : ℕ) (is : k ≡ row_node_in (constants_for p) t index) where
      pub row_ready : RowReady p t k
      row_ready = rw is (ready.rows index less)

      row_size : (n : ℕ) → n ≡ child_count (t SIZES) (t NODES) k → length (row index) ≡ 4 + 2 * (n - 1)
      row_size n size_is =
          ap (λ x. length (row_bytes (row_in t x))) (sym is) ∙ row_long p t k row_ready (get_or (t FIRSTS) (get_or (t NODES) k 0) 0) n refl size_is

      -- measured
      pub row_adds :
          (sum n r : ℕ) → sum ≡ length (joined row index) → n ≡ child_count (t SIZES) (t NODES) k → RowTakes n r → sum + r ≡ length (joined row (index + 1))
      row_adds sum n r a b takes =
          let e : r ≡ length (row index) =
          takes (row_in t k) (length_from (λ i. child_slot (t GIVEN) (get_or (t CHILDREN) (get_or (t FIRSTS) (get_or (t NODES) k 0) 0 + i) 0)) 0 (child_count (t SIZES) (t NODES) k) ∙ sym b)
          ∙ ap (λ x. length (row_bytes (row_in t x))) is in
          omega (arith, a, e, joined-size index)

      pub row_bound : (n r : ℕ) → n ≡ child_count (t SIZES) (t NODES) k → RowTakes n r → r ≤ 131074
      row_bound n r b takes =
          let e : r ≡ length (row_bytes (row_in t k)) =
          takes (row_in t k) (length_from (λ i. child_slot (t GIVEN) (get_or (t CHILDREN) (get_or (t FIRSTS) (get_or (t NODES) k 0) 0 + i) 0)) 0 (child_count (t SIZES) (t NODES) k) ∙ sym b) in
          omega (arith, e, row_long p t k row_ready (get_or (t FIRSTS) (get_or (t NODES) k 0) 0) n refl b, row_ready.few, b)

      -- and written
      pub row_room : (at : ℕ) → at ≡ length (joined row index) → at + length (row_bytes (row_in t k)) ≤ length (rows_in (constants_for p) t)
      row_room at a =
          let e : length (row_bytes (row_in t k)) ≡ length (row index) = ap (λ x. length (row_bytes (row_in t x))) is in
          let f : index + 1 + (row_count_in t - (index + 1)) ≡ row_count_in t = omega arith in
          subst (λ m. at + length (row_bytes (row_in t k)) ≤ length (joined row m)) f
          (omega (arith, a, e, joined-size index, joined-le (index + 1) (row_count_in t - (index + 1))))

      pub row_written :
          {d₀ d d₁ : List ℕ} {at r : ℕ} → length (joined row index) ≤ length d₀ → Wrote d₀ 0 (joined row index) d at → Wrote d at (row_bytes (row_in t k)) d₁ r →
          Wrote d₀ 0 (joined row (index + 1)) d₁ r
      row_written {d₀} {d} {d₁} {at} {r} room a b =
          let e : joined row (index + 1) ≡ joined row index ++ row index = ap (joined row) (add-one index) ∙ joined-more row index in
          rw e (wrote_then a (omega arith) (subst (λ x. Wrote d at (row_bytes (row_in t x)) d₁ r) is b))

  module _ (inline raws index : ℕ) (w : Filled p t inline raws index) (past : row_count_in t ≤ index) where
    all_rows : index ≡ row_count_in t
    all_rows = omega (arith, w.high)

    pub rows_size : (sum : ℕ) → sum ≡ length (joined row index) → sum ≡ length (rows_in (constants_for p) t)
    rows_size sum a = a ∙ ap (λ n. length (joined row n)) all_rows

    pub rows_written : (d d₁ : List ℕ) (at : ℕ) → Wrote d 0 (joined row index) d₁ at → d₁ ≡ overwrite (rows_in (constants_for p) t) d
    rows_written d d₁ at a = a.out ∙ paste-first d (joined row index) ∙ ap (λ n. overwrite (joined row n) d) all_rows

pub joined-start : (f : ℕ → List ℕ) → joined f 0 ≡ []
unfolding concat from
joined-start f = refl

pub wrote_start : (f : ℕ → List ℕ) (d : List ℕ) → Wrote d 0 (joined f 0) d 0
wrote_start f d = rw (joined-start f) (wrote_nothing d 0)

-- a place of the order behind the raw slots is one of the words
pub raw_place : (p : List ℕ) (t : Store) (words i : ℕ) → On p words → RowsReady p t → i < raw_rows t → held_count t + i < words
raw_place p t words i on ready h = omega (arith, (in_words p words ORDER (held_count t + i) on (omega (arith, ready.order_room))).1)

-- THE RAW BOOTSTRAPS, as raws reads them

pub rows_counted : (p : List ℕ) (t : Store) → RowsReady p t → RowsCounted p t
rows_counted p t ready = record { counts = omega (arith, ready.counters); held = ready.held_low_lem }

pub index_there : (p : List ℕ) (t : Store) → RowsReady p t → (i : ℕ) → i < raw_rows t → IndexAt p t i
index_there p t ready i h =
    let r = ready.raws (held_count t + i) (omega arith) (omega arith) in
    record { place = omega (arith, ready.order_room); item = r.key; key = r.low }

-- past every index where there is none
pub index_or : (t : Store) (i : ℕ) (r : Option ℕ) → NthIndex t i r → unwrap_or r 65536 ≡ raw_index_in t i
index_or t i r is =
    ⊎_elim
    (λ (h : i < raw_rows t).
    ap (λ (o : Option ℕ). unwrap_or o 65536) (is.there h) ∙ sym (raw_index-there (t RAW-KEYS) (t ORDER) (held_count t) (raw_rows t) i h))
    (λ (h : raw_rows t ≤ i).
    ap (λ (o : Option ℕ). unwrap_or o 65536) (is.past h) ∙ sym (raw_index-past (t RAW-KEYS) (t ORDER) (held_count t) (raw_rows t) i h))
    (compare i (raw_rows t))
