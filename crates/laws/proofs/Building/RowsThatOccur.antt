-- What holds of the bootstrap rows that occur (`rows_sound`): raw ones wait by rising index behind those written. Assumes nothing.
use mathlib.Core.List.{List, [], ◌∷◌, ◌++◌, reverse, reverse_aux, reverse-reverse}
use mathlib.Core.Logic.{◌⊎◌, inl, inr}
use mathlib.Core.Option.{Option, none, some}
use mathlib.Core.Path.{◌≡◌, refl, sym, ap, subst, ◌∙◌}
use Prim.Native.Nat.{ℕ, suc, ◌+◌, ◌≤◌, ◌<◌}
use native.Mathlib.Omega.{arith}
use lib.ListN.{length, length-append}
use borrow.Author.Tests.{eq-eqb, ne_eqb, lt-ltb, le-ltb}
use Rattle.definition.specs.Basics.{good, bad, lookup}
use Rattle.definition.specs.Resolving.{Node, Mark}
use Rattle.definition.specs.Building.{Pool, slots_of, Row, Rows, write_raw, index_of, take_index, row_index, kids_of, raw_rows}
use Rattle.definition.specs.Layout.{node_at_lem, index_nodes}
use Rattle.facts.specs.Lists.{Rising, keys}
use Rattle.facts.proofs.Lists.{order, equal}
use Rattle.facts.proofs.Tables.{lookup-hit, lookup-miss, keys-map, keys-reverse, rising_none}
use Rattle.facts.proofs.Results.{bad≢good, good_inj, good_first}
use Rattle.laws.specs.Statements.{RowsOccur, raw_only, after_row}
use Rattle.laws.proofs.Definitions.RawSlotsRise.{rises}

-- RAW ROWS

-- the highest index is 65,534
abbrev pub highest_index : ℕ
highest_index = 65534

pub write_next :
    (written : List Row) (x : ℕ × Row) (waiting : List (ℕ × Row)) →
    x.0 ≡ length written →
    write_raw written (x ∷ waiting) ≡ write_raw (written ++ x.1 ∷ []) waiting
unfolding write_raw
write_next written x waiting e = rw (eq-eqb x.0 (length written) e, write_raw)

pub write_stop :
    (written : List Row) (x : ℕ × Row) (waiting : List (ℕ × Row)) →
    (x.0 ≡ length written → ⊥) →
    write_raw written (x ∷ waiting) ≡ (written, x ∷ waiting)
unfolding write_raw
write_stop written x waiting e = rw (ne_eqb x.0 (length written) e, write_raw)

-- raw rows written while their index is next: those up to the next index were waiting, at that index none was, and the rest wait behind it
pub record Wrote (written : List Row) (waiting : List (ℕ × Row)) (r : List Row × List (ℕ × Row)) : Type 0 where
  pub more : length written ≤ length r.0
  pub rest : Rising (suc (length r.0)) highest_index (keys r.1)
  pub filled : (i : ℕ) → length written ≤ i → i < length r.0 → (row : Row) × (lookup i waiting ≡ some row)
  pub next : lookup (length r.0) waiting ≡ none

-- the next one is written, and then the others
from_next :
    (written : List Row) (x : ℕ × Row) (waiting : List (ℕ × Row)) (r : List Row × List (ℕ × Row)) →
    x.0 ≡ length written →
    length (written ++ x.1 ∷ []) ≡ suc (length written) →
    Wrote (written ++ x.1 ∷ []) waiting r →
    Wrote written (x ∷ waiting) r
from_next written x waiting r q longer w =
    record {
      more = let m = w.more in omega arith;
      rest = w.rest;
      filled = λ i h k. ways i k (order (length written) i) h;
      next = let m = w.more in lookup-miss (length r.0) x waiting (λ e. omega arith) ∙ w.next;
    }
  where
    ways : (i : ℕ) → i < length r.0 → (length written < i) ⊎ (i ≤ length written) → length written ≤ i → (row : Row) × (lookup i (x ∷ waiting) ≡ some row)
    ways i k (inl o) h =
        let (row, e) = w.filled i (omega arith) k in
        (row, lookup-miss i x waiting (λ z. omega arith) ∙ e)
    ways i k (inr o) h = (x.1, lookup-hit i x waiting (omega arith))

pub wrote : (waiting : List (ℕ × Row)) (written : List Row) → Rising (length written) highest_index (keys waiting) → Wrote written waiting (write_raw written waiting)
unfolding write_raw lookup
wrote [] written r =
    record { more = omega arith; rest = tt; filled = λ i h k. absurd (omega arith); next = refl }
wrote (x ∷ waiting) written r = ways (equal x.0 (length written)) (wrote waiting (written ++ x.1 ∷ []))
  where
    longer : length (written ++ x.1 ∷ []) ≡ suc (length written)
    longer = length-append written (x.1 ∷ []) ∙ omega arith

    ways :
        (x.0 ≡ length written) ⊎ (x.0 ≡ length written → ⊥) →
        (Rising (length (written ++ x.1 ∷ [])) highest_index (keys waiting) → Wrote (written ++ x.1 ∷ []) waiting (write_raw (written ++ x.1 ∷ []) waiting)) →
        Wrote written (x ∷ waiting) (write_raw written (x ∷ waiting))
    ways (inl q) again =
        let w = again (rw (longer, ← q) r.2) in
        rw (write_next written x waiting q)
        (from_next written x waiting (write_raw (written ++ x.1 ∷ []) waiting) q longer w)
    ways (inr q) again =
        rw (write_stop written x waiting q)
        (record {
          more = omega arith;
          rest = (omega arith, r.1, r.2);
          filled = λ i h k. absurd (omega arith);
          next =
              lookup-miss (length written) x waiting (λ e. q (sym e))
              ∙ rising_none (suc x.0) highest_index (length written) waiting r.2 (omega arith);
        })

-- the rows' indexes come out as they went in, the other way round
raw_keys :
    (nodes : List Node) (falling : List (ℕ × ℕ)) (p p' : Pool) (rows waiting : List (ℕ × Row)) →
    raw_rows nodes falling p rows ≡ good (waiting, p') →
    keys waiting ≡ reverse_aux (keys falling) (keys rows)
unfolding raw_rows
raw_keys nodes [] p p' rows waiting h = λ i. keys (good_inj (sym h) i).0
raw_keys nodes (r ∷ falling) p p' rows waiting h =
    let (row, q, g) = good_first (slots_of nodes (kids_of nodes r.1) p) _ (waiting, p') h in
    raw_keys nodes falling row.1 p' ((r.0, row.0) ∷ rows) waiting g

-- so the raw rows wait at the raw indexes, in their order
pub waiting_keys :
    (nodes : List Node) (n : ℕ) (marks : List Mark) (indexes : List (ℕ × ℕ)) (p p' : Pool) (waiting : List (ℕ × Row)) →
    raw_rows nodes (reverse (index_nodes n marks indexes)) p [] ≡ good (waiting, p') →
    keys waiting ≡ keys indexes
unfolding index_nodes
waiting_keys nodes n marks indexes p p' waiting h =
    raw_keys nodes (reverse (index_nodes n marks indexes)) p p' [] waiting h
    ∙ ap reverse (keys-reverse (index_nodes n marks indexes) [] ∙ ap reverse (keys-map (λ x. (x.0, node_at_lem marks (n + x.1))) indexes (λ x. refl)))
    ∙ reverse-reverse (keys indexes)

-- ROWS THAT OCCUR

-- raw rows wait by rising index, behind those written
pub record RowsSound (rows : Rows) : Type 0 where
  pub rising : Rising (length rows.written) highest_index (keys rows.waiting)
  pub few : length rows.written ≤ 65535

pub row_old : (row : Row) (rows : Rows) (i : ℕ) → index_of row rows.inline ≡ some i → row_index row rows ≡ good (i, rows)
unfolding row_index
row_old row rows i e = rw (e, row_index)

pub row_new :
    (row : Row) (rows : Rows) →
    index_of row rows.inline ≡ none →
    row_index row rows ≡ take_index row rows.inline (write_raw rows.written rows.waiting)
unfolding row_index
row_new row rows e = rw (e, row_index)

pub take-some :
    (row : Row) (inline : List (Row × ℕ)) (r : List Row × List (ℕ × Row)) →
    length r.0 < 65535 →
    take_index row inline r
    ≡ good (length r.0, record { written = r.0 ++ row ∷ []; waiting = r.1; inline = (row, length r.0) ∷ inline })
unfolding take_index
take-some row inline r h = rw (lt-ltb (length r.0) 65535 h, take_index)

pub take_none : (row : Row) (inline : List (Row × ℕ)) (r : List Row × List (ℕ × Row)) → 65535 ≤ length r.0 → take_index row inline r ≡ bad 17
unfolding take_index
take_none row inline r h = rw (le-ltb (length r.0) 65535 h, take_index)

-- a row keeps that
row_sound : (row : Row) (i : ℕ) (rows rows' : Rows) → RowsSound rows → row_index row rows ≡ good (i, rows') → RowsSound rows'
row_sound row i rows rows' s h = ways (index_of row rows.inline) refl
  where
    r : List Row × List (ℕ × Row)
    r = write_raw rows.written rows.waiting

    taken :
        index_of row rows.inline ≡ none →
        (length r.0 < 65535) ⊎ (65535 ≤ length r.0) →
        Wrote rows.written rows.waiting r →
        RowsSound rows'
    taken e (inl o) w =
        let q = good_inj (sym (take-some row rows.inline r o) ∙ sym (row_new row rows e) ∙ h) in
        let longer : length (r.0 ++ row ∷ []) ≡ suc (length r.0) = length-append r.0 (row ∷ []) ∙ omega arith in
        subst
        (λ (z : ℕ × Rows). RowsSound z.1)
        q
        (record { rising = rw longer w.rest; few = rw longer o })
    taken e (inr o) w = bad≢good (sym (take_none row rows.inline r o) ∙ sym (row_new row rows e) ∙ h)

    ways : (o : Option ℕ) → index_of row rows.inline ≡ o → RowsSound rows'
    ways none e = taken e (order (length r.0) 65535) (wrote rows.waiting rows.written s.rising)
    ways (some n) e = subst (λ (z : ℕ × Rows). RowsSound z.1) (good_inj (sym (row_old row rows n e) ∙ h)) s

pub rows_sound : {rows : Rows} → RowsOccur rows → RowsSound rows
rows_sound (raw_only top constants definitions d nodes p p' n marks waiting h e) =
    let r = (rises top constants definitions d h).1 in
    let q = waiting_keys nodes n marks d.indexes p p' waiting e in
    record { rising = rw q r; few = omega arith }
rows_sound (after_row row i rows rows' o h) = row_sound row i rows rows' (rows_sound o) h
