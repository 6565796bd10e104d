-- Raw rows whose index is next are written, one in each turn. Assumes nothing.
use Rattle.std.specs.Prelude.{Option, Some}
use mathlib.Core.List.{List, [], ◌∷◌, ◌++◌}
use mathlib.Core.Logic.{inl, inr, ⊎_elim}
use mathlib.Core.Path.{◌≡◌, refl, sym, ap, ◌∙◌}
use Prim.Native.Nat.{ℕ, suc, ◌+◌, ◌-◌, ◌≤◌, ◌<◌}
use native.Mathlib.Numerals.{add-one}
use native.Mathlib.Omega.{arith}
use lib.ListN.{length, set, length-append, length-set}
use lib.Seq.{get_or-set_same, get_or-set_other}
use Rattle.definition.specs.Basics.{every, from}
use Rattle.definition.specs.Building.{Rows, write_raw}
use Rattle.facts.proofs.Lists.{found_append, found_seam, equal, order}
use Rattle.laws.proofs.Building.RowsThatOccur.{write_next, write_stop}
use Rattle.store.specs.Store.{Store, put, Kept}
use Rattle.store.specs.Regions.{COUNTS, INDEXES, ROW-HEADS, ROW-LINKS, INLINE, ROW-COUNT, WRITTEN-COUNT, INLINE-COUNT}
use Rattle.store.proofs.Keeping.{kept_put, kept_more}
use Rattle.rows.specs.Rowed.{Base, Inlined, RowWords, Rowed, row_count, written_count, inline_count, raw_rows, raw_index, base_in, RowWordsIn, RowedIn, RawsReadyIn, Nth, with_raws, SameBut, WroteRaws, written}
use Rattle.rows.proofs.Reading.{raw_low_lem, raw_rise, none_some, some_same}
use Rattle.rows.proofs.Staying.{counters, same_set, base_same, words_in, rowed_in}

-- more rows have an index
pub inlined_longer :
    (b : Base) (indexes inline heads links : List ℕ) (count more n : ℕ) → count ≤ more → Inlined b indexes inline heads links count n →
    Inlined b indexes inline heads links more n
inlined_longer b indexes inline heads links count more n h g =
    record {
      nodes = g.nodes;
      chains = g.chains;
      unlike = g.unlike;
      rise = g.rise;
      low = g.low;
      high = λ i l. omega (arith, g.high i l);
      few = g.few;
      has = g.has;
    }

-- the same rows
pub rowed_same :
    (b : Base) (indexes inline heads links : List ℕ) (count wrote n : ℕ) (rows rows' : Rows) →
    rows'.written ≡ rows.written → rows'.waiting ≡ rows.waiting → rows'.inline ≡ rows.inline →
    Rowed b indexes inline heads links count wrote n rows → Rowed b indexes inline heads links count wrote n rows'
rowed_same b indexes inline heads links count wrote n rows rows' w a l g =
    record {
      words = g.words;
      items = l ∙ g.items;
      waiting = a ∙ g.waiting;
      written = ap length w ∙ g.written;
      inlines = λ j h. rw w (g.inlines j h);
      stands = λ i h. rw w (g.stands i h);
    }

module _ (b : Base) (indexes inline heads links : List ℕ) (n : ℕ) where
  abbrev Words : ℕ → ℕ → Type 0
  Words count wrote = RowWords b indexes inline heads links count wrote n

  abbrev These : ℕ → ℕ → Rows → Type 0
  These count wrote rows = Rowed b indexes inline heads links count wrote n rows

  -- the next raw one
  waits : (wrote : ℕ) → wrote < b.raws → from b.raw wrote (b.raws - wrote) ≡ b.raw wrote ∷ from b.raw (wrote + 1) (b.raws - (wrote + 1))
  unfolding from
  waits wrote h = let e : b.raws - wrote ≡ suc (b.raws - (wrote + 1)) = omega arith in rw (e, add-one wrote)

  waits_none : (wrote : ℕ) → b.raws ≤ wrote → from b.raw wrote (b.raws - wrote) ≡ []
  unfolding from
  waits_none wrote h = let e : b.raws - wrote ≡ 0 = omega arith in rw e

  module _ (count wrote : ℕ) (less : wrote < b.raws) (next : (b.raw wrote).0 ≡ count) (low : count < 65535) (rise : (i j : ℕ) → i < j → j < b.raws → (b.raw i).0 < (b.raw j).0) where
    pub words_next : Words count wrote → Words (count + 1) (wrote + 1)
    words_next g =
        record {
          inlined = inlined_longer b indexes inline heads links count (count + 1) n (omega arith) g.inlined;
          few = omega arith;
          low = omega arith;
          behind =
              λ i l.
              ⊎_elim
              (λ (h : i < wrote). omega (arith, g.behind i h))
              (λ (h : wrote ≤ i). let z : i ≡ wrote = omega arith in rw z (omega arith))
              (order i wrote);
          ahead = λ i a l. omega (arith, rise wrote i (omega arith) l);
        }

    abbrev longer : Rows → Rows
    longer rows =
        record { written = rows.written ++ (b.raw wrote).1 ∷ []; waiting = from b.raw (wrote + 1) (b.raws - (wrote + 1)); inline = rows.inline }

    pub rows_next : (rows : Rows) → These count wrote rows → These (count + 1) (wrote + 1) (longer rows)
    rows_next rows g =
        record {
          words = words_next g.words;
          items = g.items;
          waiting = refl;
          written = length-append rows.written ((b.raw wrote).1 ∷ []) ∙ omega (arith, g.written);
          inlines = λ j h. found_append rows.written ((b.raw wrote).1 ∷ []) _ _ (g.inlines j h);
          stands =
              λ i h.
              ⊎_elim
              (λ (l : i < count).
              ⊎_elim
              (λ s. inl (s.0, s.1, s.2, found_append rows.written ((b.raw wrote).1 ∷ []) i _ s.3))
              (λ s. inr (s.0, omega (arith, s.1), s.2, found_append rows.written ((b.raw wrote).1 ∷ []) i _ s.3))
              (g.stands i l))
              (λ (l : count ≤ i).
              let z : i ≡ length rows.written = omega (arith, g.written) in
              inr (wrote, omega arith, omega arith, rw z (found_seam rows.written (b.raw wrote).1 [])))
              (order i count);
        }

    pub wrote_next : (rows : Rows) → These count wrote rows → write_raw rows.written rows.waiting ≡ write_raw (longer rows).written (longer rows).waiting
    wrote_next rows g =
        rw (g.waiting, waits wrote less)
        (write_next rows.written (b.raw wrote) (from b.raw (wrote + 1) (b.raws - (wrote + 1))) (next ∙ sym g.written))

  pub wrote_stop :
      (count wrote : ℕ) → (wrote < b.raws → (b.raw wrote).0 ≡ count → ⊥) → (rows : Rows) → These count wrote rows →
      write_raw rows.written rows.waiting ≡ (rows.written, rows.waiting)
  unfolding write_raw
  wrote_stop count wrote stop rows g =
      ⊎_elim
      (λ (l : wrote < b.raws).
      rw (g.waiting, waits wrote l)
      (write_stop rows.written (b.raw wrote) (from b.raw (wrote + 1) (b.raws - (wrote + 1))) (λ e. stop l (e ∙ g.written))))
      (λ (l : b.raws ≤ wrote). rw (g.waiting, waits_none wrote l))
      (order wrote b.raws)

-- WHAT THE LOOP KEEPS, from counts at its start
pub record Writing (b : Base) (indexes inline heads links : List ℕ) (n count₀ wrote₀ count wrote : ℕ) : Type 0 where
  pub words : RowWords b indexes inline heads links count wrote n
  pub rows :
      (rows : Rows) → Rowed b indexes inline heads links count₀ wrote₀ n rows →
      (rows' : Rows)
      × Rowed b indexes inline heads links count wrote n rows'
      × (write_raw rows.written rows.waiting ≡ write_raw rows'.written rows'.waiting)
      × (rows.inline ≡ rows'.inline)

abbrev pub WritingIn : List ℕ → Store → ℕ → ℕ → Type 0
WritingIn p t count wrote =
    Writing (base_in p t) (t INDEXES) (t INLINE) (t ROW-HEADS) (t ROW-LINKS) (inline_count t) (row_count t) (written_count t) count wrote

module _ (p : List ℕ) (t : Store) where
  pub writing_begin : RowWordsIn p t → (count wrote : ℕ) → count ≡ row_count t → wrote ≡ written_count t → WritingIn p t count wrote
  writing_begin g count wrote c w = rw (c, w) (record { words = g; rows = λ rows r. (rows, r, refl, refl) })

  module _ (ready : RawsReadyIn p t) (count wrote : ℕ) (g : WritingIn p t count wrote) (r : Option ℕ) (nth : Nth (raw_index t) (raw_rows t) wrote r) where
    module _ (is : r ≡ Some count) where
      pub writing_less : wrote < raw_rows t
      writing_less =
          ⊎_elim
          (λ (l : wrote < raw_rows t). l)
          (λ (l : raw_rows t ≤ wrote). absurd (none_some count (sym (nth.past l) ∙ is)))
          (order wrote (raw_rows t))

      index_is : raw_index t wrote ≡ count
      index_is = some_same (raw_index t wrote) count (sym (nth.there writing_less) ∙ is)

      pub writing_low : count < 65535
      writing_low = omega (arith, raw_low_lem p t ready wrote writing_less, index_is)

      pub writing_next : WritingIn p t (count + 1) (wrote + 1)
      writing_next =
          record {
            words =
                words_next (base_in p t) (t INDEXES) (t INLINE) (t ROW-HEADS) (t ROW-LINKS) (inline_count t)
                count wrote writing_less index_is writing_low (raw_rise p t ready) g.words;
            rows =
                λ rows s.
                let (rows', h, e, i) = g.rows rows s in (
                  _,
                  rows_next (base_in p t) (t INDEXES) (t INLINE) (t ROW-HEADS) (t ROW-LINKS) (inline_count t)
                      count wrote writing_less index_is writing_low (raw_rise p t ready) rows' h,
                  e ∙ wrote_next (base_in p t) (t INDEXES) (t INLINE) (t ROW-HEADS) (t ROW-LINKS) (inline_count t)
                      count wrote writing_less index_is writing_low (raw_rise p t ready) rows' h,
                  i,
                );
          }

    module _ (isn't : r ≡ Some count → ⊥) (long : length (t COUNTS) ≡ 20) where
      abbrev after : Store
      after = put (put t COUNTS ROW-COUNT count) COUNTS WRITTEN-COUNT wrote

      ended : wrote < raw_rows t → raw_index t wrote ≡ count → ⊥
      ended l e = isn't (nth.there l ∙ ap (λ (x : ℕ). Some x) e)

      ahead : (i : ℕ) → wrote ≤ i → i < raw_rows t → count < raw_index t i
      ahead i a l =
          let h : wrote < raw_rows t = omega arith in
          let low : count ≤ raw_index t wrote = g.words.ahead wrote (omega arith) h in
          ⊎_elim
          (λ (z : raw_index t wrote ≡ count). absurd (ended h z))
          (λ (z : raw_index t wrote ≡ count → ⊥).
          ⊎_elim
          (λ (y : wrote ≡ i). rw (← y) (omega arith))
          (λ (y : wrote ≡ i → ⊥). omega (arith, raw_rise p t ready wrote i (omega arith) l))
          (equal wrote i))
          (equal (raw_index t wrote) count)

      counted : row_count after ≡ count
      counted =
          get_or-set_other (set (t COUNTS) ROW-COUNT count) WRITTEN-COUNT ROW-COUNT wrote 0 (λ z. omega arith)
          ∙ get_or-set_same (t COUNTS) ROW-COUNT count 0 (omega arith)

      wrote_is : written_count after ≡ wrote
      wrote_is =
          get_or-set_same (set (t COUNTS) ROW-COUNT count) WRITTEN-COUNT wrote 0 (omega (arith, length-set (t COUNTS) ROW-COUNT count))

      inline_is : inline_count after ≡ inline_count t
      inline_is =
          get_or-set_other (set (t COUNTS) ROW-COUNT count) WRITTEN-COUNT INLINE-COUNT wrote 0 (λ z. omega arith)
          ∙ get_or-set_other (t COUNTS) ROW-COUNT INLINE-COUNT count 0 (λ z. omega arith)

      kept : Kept (COUNTS ∷ []) t after
      kept =
          kept_put (COUNTS ∷ []) t (put t COUNTS ROW-COUNT count) COUNTS WRITTEN-COUNT wrote refl
          (kept_put (COUNTS ∷ []) t t COUNTS ROW-COUNT count refl (λ k other. refl))

      same : SameBut (ROW-COUNT ∷ WRITTEN-COUNT ∷ []) (t COUNTS) (after COUNTS)
      same =
          same_set (ROW-COUNT ∷ WRITTEN-COUNT ∷ []) (t COUNTS) (set (t COUNTS) ROW-COUNT count) WRITTEN-COUNT wrote refl
          (same_set (ROW-COUNT ∷ WRITTEN-COUNT ∷ []) (t COUNTS) (t COUNTS) ROW-COUNT count refl (λ c other. refl))

      same-all : SameBut counters (t COUNTS) (after COUNTS)
      same-all =
          same_set counters (t COUNTS) (set (t COUNTS) ROW-COUNT count) WRITTEN-COUNT wrote refl
          (same_set counters (t COUNTS) (t COUNTS) ROW-COUNT count refl (λ c other. refl))

      kept_all : Kept written t after
      unfolding every
      kept_all = kept_more (COUNTS ∷ []) written t after refl kept

      rows_after : (rows : Rows) → RowedIn p rows t → RowedIn p (with_raws rows) after
      rows_after rows s =
          let (rows', h, e, i) = g.rows rows s in
          let q : write_raw rows.written rows.waiting ≡ (rows'.written, rows'.waiting) = e ∙ wrote_stop (base_in p t) (t INDEXES) (t INLINE) (t ROW-HEADS) (t ROW-LINKS) (inline_count t) count wrote ended rows' h in
          rowed_in p t after kept_all same-all (t INDEXES) (t INLINE) (t ROW-HEADS) (t ROW-LINKS) count wrote (inline_count t) refl refl refl refl counted wrote_is inline_is
          (with_raws rows)
          (rowed_same (base_in p t) (t INDEXES) (t INLINE) (t ROW-HEADS) (t ROW-LINKS) count wrote (inline_count t) rows' (with_raws rows)
          (ap (λ x. x.0) q)
          (ap (λ x. x.1) q)
          i
          h)

      words_after : RowWordsIn p after
      words_after =
          words_in p t after kept_all same-all (t INDEXES) (t INLINE) (t ROW-HEADS) (t ROW-LINKS) count wrote (inline_count t) refl refl refl refl counted wrote_is inline_is
          g.words

      pub wrote_raws : WroteRaws p t after
      wrote_raws =
          record {
            rows = rows_after;
            words = words_after;
            stop =
                λ i a l.
                let z = base_same p t after kept_all same-all in
                let y : raw_rows after ≡ raw_rows t = ap (λ b. b.raws) z in
                let x : raw_index after i ≡ raw_index t i = ap (λ b. (b.raw i).0) z in
                omega (arith, ahead i (omega (arith, wrote_is)) (omega arith), counted);
            counters = same;
            kept = kept;
          }
