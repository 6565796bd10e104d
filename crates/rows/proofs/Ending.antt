-- How many rows the table has at the end, and which node's row stands at an index. Assumes nothing.
use Rattle.std.specs.Prelude.{Option, None, Some}
use mathlib.Core.List.{List}
use mathlib.Core.Logic.{⊎_elim}
use mathlib.Core.Option.{some}
use mathlib.Core.Path.{◌≡◌, refl, sym, ap, subst, ◌∙◌}
use Prim.Native.Nat.{ℕ, suc, ◌+◌, ◌-◌, ◌≤◌, ◌<◌}
use native.Mathlib.Omega.{arith}
use lib.ListN.{length, get_or, get_elem?}
use Rattle.definition.specs.Basics.{from}
use Rattle.definition.specs.Building.{Row, Rows, fill_holes}
use Rattle.interner.specs.Nodes.{node_count}
use Rattle.raws.specs.Raws.{held_count}
use Rattle.store.specs.Store.{Store, size}
use Rattle.store.specs.Regions.{MARKS, RAW-ENTRIES, ORDER, INLINE}
use Rattle.rows.specs.Rowed.{row_count, written_count, inline_count, raw_rows, raw_index, raw_node, raw_item, row_in, base_in, RowWordsIn, RowedIn, RawsReadyIn, IsBootstrapIn, index_word_lem, inline_index, Nth, Reached, table_of, InTable, RowNode}
use Rattle.rows.proofs.Reading.{raw_at, raw_low_lem, raw_rise, none_some, some_same}
use Rattle.rows.proofs.Holes.{Behind, fill_keeps, fill_length, fill_at}
use Rattle.facts.proofs.Lists.{equal, order}

module _ (p : List ℕ) (t : Store) where
  -- INLINE ITEMS

  module _ (words : RowWordsIn p t) (i : ℕ) (n : ℕ) (all : n ≡ inline_count t) where
    pub inline_past : n ≤ i → Nth (inline_index p t) (inline_count t) i None
    inline_past h = record { there = λ l. absurd (omega arith); past = λ l. refl }

    module _ (less : i < n) (x : ℕ) (is : x ≡ get_or (t INLINE) i 0) where
      pub inline_boot : IsBootstrapIn p t x
      inline_boot = rw is (words.inlined.nodes i (omega arith))

      module _ (word : ℕ) (told : word ≡ index_word_lem p t x) where
        word_is : word ≡ index_word_lem p t (get_or (t INLINE) i 0)
        word_is = told ∙ ap (index_word_lem p t) is

        pub inline_low_lem : 1 ≤ word
        inline_low_lem = omega (arith, word_is, words.inlined.low i (omega arith))

        pub inline_there : Nth (inline_index p t) (inline_count t) i (Some (word - 1))
        inline_there = record { there = λ l. ap (λ (y : ℕ). Some (y - 1)) word_is; past = λ l. absurd (omega arith) }

  -- RAW ITEMS

  module _ (ready : RawsReadyIn p t) (i : ℕ) (less : i < raw_rows t) where
    module _ (held : ℕ) (from : held ≡ held_count t) (e : ℕ) (is : e ≡ get_or (t RAW-ENTRIES) (get_or (t ORDER) (held + i) 0) 0) where
      entry_is : e ≡ get_or (t RAW-ENTRIES) (raw_item t i) 0
      entry_is = is ∙ ap (λ (h : ℕ). get_or (t RAW-ENTRIES) (get_or (t ORDER) (h + i) 0) 0) from

      pub raw_mark : e < size p MARKS
      raw_mark = omega (arith, entry_is, (raw_at p t ready i less).entry)

      module _ (mark : ℕ) (told : mark ≡ get_or (t MARKS) e 0) where
        mark_is : mark ≡ get_or (t MARKS) (get_or (t RAW-ENTRIES) (raw_item t i) 0) 0
        mark_is = told ∙ ap (λ (x : ℕ). get_or (t MARKS) x 0) entry_is

        pub raw_done_lem : 2 ≤ mark
        raw_done_lem = omega (arith, mark_is, (raw_at p t ready i less).done)

        pub raw_node_lem : (mark - 2 ≡ raw_node t i) × (mark - 2 < node_count t)
        raw_node_lem = rw mark_is (refl, (raw_at p t ready i less).node)

  -- THE TABLE

  module _ (ready : RawsReadyIn p t) (rows : Rows) (g : RowedIn p rows t) where
    abbrev left : ℕ
    left = raw_rows t - written_count t

    behind : Behind (base_in p t).raw rows.written (written_count t) left
    behind = (
      λ i a l. omega (arith, g.written, g.words.ahead i a (omega (arith, g.words.low))),
      λ i j a l h. raw_rise p t ready i j l (omega (arith, g.words.low)),
    )

    table_is : table_of rows ≡ fill_holes rows.written (from (base_in p t).raw (written_count t) left)
    table_is = ap (fill_holes rows.written) g.waiting

    pub table_written : raw_rows t ≤ written_count t → table_of rows ≡ rows.written
    unfolding fill_holes from
    table_written h = let z : left ≡ 0 = omega arith in table_is ∙ (rw z)

    pub table_length : written_count t < raw_rows t → length (table_of rows) ≡ suc (raw_index t (raw_rows t - 1))
    table_length h =
        let z : left ≡ suc (left - 1) = omega arith in
        let y : written_count t + (left - 1) ≡ raw_rows t - 1 = omega arith in
        ap length table_is
        ∙ ap (λ (m : ℕ). length (fill_holes rows.written (from (base_in p t).raw (written_count t) m))) z
        ∙ fill_length (base_in p t).raw (left - 1) rows.written (written_count t) (subst (Behind (base_in p t).raw rows.written (written_count t)) z behind)
        ∙ ap (λ (x : ℕ). suc (raw_index t x)) y

    -- what the code counts
    pub counted-raw :
        (n wrote r : ℕ) → n ≡ raw_rows t → wrote ≡ written_count t → wrote < n → r ≡ raw_index t (n - 1) → r + 1 ≡ length (table_of rows)
    counted-raw n wrote r all w less is =
        let z : n - 1 ≡ raw_rows t - 1 = omega arith in
        let y : r ≡ raw_index t (raw_rows t - 1) = is ∙ ap (raw_index t) z in
        omega (arith, table_length (omega arith))

    pub counted-rows : (n wrote r : ℕ) → n ≡ raw_rows t → wrote ≡ written_count t → n ≤ wrote → r ≡ row_count t → r ≡ length (table_of rows)
    counted-rows n wrote r all w less is = is ∙ sym g.written ∙ ap length (sym (table_written (omega arith)))

    pub table_few : length (table_of rows) ≤ 65535
    table_few =
        ⊎_elim
        (λ (h : written_count t < raw_rows t). omega (arith, table_length h, raw_low_lem p t ready (raw_rows t - 1) (omega arith)))
        (λ (h : raw_rows t ≤ written_count t). omega (arith, ap length (table_written h), g.written, g.words.few))
        (order (written_count t) (raw_rows t))

    -- ITS ROW at an index

    module _ (index inline raws : ℕ) (reached : Reached (inline_index p t) (inline_count t) index inline) (passed : Reached (raw_index t) (raw_rows t) index raws) where
      pub row_inline : inline < inline_count t → inline_index p t inline ≡ index → get_elem? (table_of rows) index ≡ some (row_in t (get_or (t INLINE) inline 0))
      row_inline less is = fill_keeps rows.written rows.waiting index _ (rw is at (g.inlines inline less))

      -- no inline row has it
      module _ (other : inline < inline_count t → inline_index p t inline ≡ index → ⊥) where
        not-inline : (j : ℕ) → j < inline_count t → index_word_lem p t (get_or (t INLINE) j 0) ≡ suc index → ⊥
        not-inline j l e =
            ⊎_elim
            (λ (h : j < inline). let z = reached.below j h in omega arith)
            (λ (h : inline ≤ j).
            let m : inline < inline_count t = omega arith in
            ⊎_elim
            (λ (y : inline ≡ j). other m (ap (λ (x : ℕ). inline_index p t x) y ∙ omega arith))
            (λ (y : inline ≡ j → ⊥).
            let z = reached.above inline (omega arith) m in
            let x = g.words.inlined.rise inline j (omega arith) l in
            let v = g.words.inlined.low inline m in
            other m (omega arith))
            (equal inline j))
            (order j inline)

        -- so a raw one does, or is the next above it
        pub raw_inside : index < length (table_of rows) → raws < raw_rows t
        raw_inside inside =
            ⊎_elim
            (λ (h : raws < raw_rows t). h)
            (λ (h : raw_rows t ≤ raws).
            ⊎_elim
            (λ (l : index < row_count t).
            ⊎_elim
            (λ s. absurd (not-inline s.0 s.1 s.2))
            (λ s. absurd (let z = passed.below s.0 (omega (arith, s.1, g.words.low)) in omega (arith, s.2)))
            (g.stands index l))
            (λ (l : row_count t ≤ index).
            ⊎_elim
            (λ (m : written_count t < raw_rows t).
            absurd (omega (arith, table_length m, passed.below (raw_rows t - 1) (omega arith))))
            (λ (m : raw_rows t ≤ written_count t). absurd (omega (arith, ap length (table_written m), g.written)))
            (order (written_count t) (raw_rows t)))
            (order index (row_count t)))
            (order raws (raw_rows t))

        pub row_raw : index < length (table_of rows) → get_elem? (table_of rows) index ≡ some (row_in t (raw_node t raws))
        row_raw inside =
            let there : raws < raw_rows t = raw_inside inside in
            ⊎_elim
            (λ (l : index < row_count t).
            ⊎_elim
            (λ s. absurd (not-inline s.0 s.1 s.2))
            (λ s.
            let z : s.0 ≡ raws = the_one s.0 (omega (arith, s.1, g.words.low)) s.2 there in
            fill_keeps rows.written rows.waiting index _ (rw z at s.3))
            (g.stands index l))
            (λ (l : row_count t ≤ index).
            table_at there l)
            (order index (row_count t))
          where
            the_one : (j : ℕ) → j < raw_rows t → raw_index t j ≡ index → raws < raw_rows t → j ≡ raws
            the_one j l e there =
                ⊎_elim
                (λ (h : j < raws). let z = passed.below j h in absurd (omega arith))
                (λ (h : raws ≤ j).
                ⊎_elim
                (λ (y : j ≡ raws). y)
                (λ (y : j ≡ raws → ⊥).
                let z = passed.above raws (omega arith) there in
                let x = raw_rise p t ready raws j (omega arith) l in
                absurd (omega arith))
                (equal j raws))
                (order j raws)

            table_at : raws < raw_rows t → row_count t ≤ index → get_elem? (table_of rows) index ≡ some (row_in t (raw_node t raws))
            table_at there l =
                let high = passed.above raws (omega arith) there in
                let low : written_count t ≤ raws =
                ⊎_elim
                (λ (h : raws < written_count t). absurd (omega (arith, g.words.behind raws h)))
                (λ (h : written_count t ≤ raws). h)
                (order raws (written_count t)) in
                ap (λ (z : List Row). get_elem? z index) table_is
                ∙ fill_at (base_in p t).raw left rows.written (written_count t) index raws behind (omega (arith, g.written)) low (omega (arith, g.words.low)) high
                (λ x a h. passed.below x h)

-- AS THE CODE asks

module _
    (p : List ℕ) (t : Store) (ready : RawsReadyIn p t) (index inline raws : ℕ) (inside : InTable p t index)
    (reached : Reached (inline_index p t) (inline_count t) index inline) (passed : Reached (raw_index t) (raw_rows t) index raws)
    (r : Option ℕ) (nth : Nth (inline_index p t) (inline_count t) inline r) where
  index-low : index < 65535
  unfolding InTable
  index-low = let (rows, g, h) = inside in omega (arith, table_few p t ready rows g)

  module _ (is : r ≡ Some index) where
    pub node_inside : inline < inline_count t
    node_inside =
        ⊎_elim
        (λ (h : inline < inline_count t). h)
        (λ (h : inline_count t ≤ inline). absurd (none_some index (sym (nth.past h) ∙ is)))
        (order inline (inline_count t))

    pub node_inline : (k : ℕ) → k ≡ get_or (t INLINE) inline 0 → RowWordsIn p t → RowNode p t index k × (k < node_count t)
    node_inline k e words =
        rw e (
          λ rows g. row_inline p t ready rows g index inline raws reached passed node_inside (some_same (inline_index p t inline) index (sym (nth.there node_inside) ∙ is)),
          (words.inlined.nodes inline node_inside).made,
        )

  module _ (isn't : r ≡ Some index → ⊥) where
    other : inline < inline_count t → inline_index p t inline ≡ index → ⊥
    other l e = isn't (nth.there l ∙ ap (λ (x : ℕ). Some x) e)

    pub node_below : raws < raw_rows t
    unfolding InTable
    node_below = let (rows, g, h) = inside in raw_inside p t ready rows g index inline raws reached passed other h

    -- the table of any rows that these words mean is as long
    same_length : (rows rows' : Rows) → RowedIn p rows t → RowedIn p rows' t → length (table_of rows) ≡ length (table_of rows')
    same_length rows rows' g g' =
        ⊎_elim
        (λ (h : written_count t < raw_rows t). table_length p t ready rows g h ∙ sym (table_length p t ready rows' g' h))
        (λ (h : raw_rows t ≤ written_count t).
        ap length (table_written p t ready rows g h) ∙ g.written ∙ sym g'.written ∙ sym (ap length (table_written p t ready rows' g' h)))
        (order (written_count t) (raw_rows t))

    pub node_raw : (k : ℕ) → k ≡ raw_node t raws → RowNode p t index k
    unfolding InTable
    node_raw k e =
        let (rows, g, h) = inside in
        rw e (λ rows' g'. row_raw p t ready rows' g' index inline raws reached passed other (omega (arith, same_length rows rows' g g')))

-- WHAT A CALLER SHOWS

-- the indexes of inline rows rise
pub inline_rise : (p : List ℕ) (t : Store) → RowWordsIn p t → (i j : ℕ) → i < j → j < inline_count t → inline_index p t i < inline_index p t j
inline_rise p t words i j a l = omega (arith, words.inlined.rise i j a l, words.inlined.low i (omega arith))

pub in_table : (p : List ℕ) (t : Store) (rows : Rows) (index : ℕ) → RowedIn p rows t → index < length (table_of rows) → InTable p t index
unfolding InTable
in_table p t rows index g h = (rows, g, h)
