-- The rows before any inline one, and the room for them in the work of a job. Assumes nothing.
use mathlib.Core.List.{List, []}
use mathlib.Core.Path.{◌≡◌, refl, sym, ap}
use Prim.Native.Nat.{ℕ, ◌-◌}
use native.Mathlib.Omega.{arith}
use lib.ListN.{get_or}
use Rattle.definition.specs.Basics.{from}
use Rattle.definition.specs.Building.{Rows}
use Rattle.store.specs.Store.{Store}
use Rattle.store.specs.Regions.{INDEXES, ROW-HEADS, ROW-LINKS, INLINE, Work}
use Rattle.store.proofs.Bounds.{work-small, work-heads}
use Rattle.store.proofs.Laying.{work-sizes}
use Rattle.rows.specs.Rowed.{backwards, Base, RowWords, Rowed, row_count, written_count, inline_count, raw_rows, base_in, RowedIn, RowRoom}

-- the work of a job has room
pub row_room : (s p : List ℕ) → Work s p → RowRoom p
row_room s p work =
    let z = work-sizes s p work in
    let b = work-small s p work in
    record {
      counts = z.counts;
      heads = (work-heads s p work).3;
      indexes = omega (arith, z.indexes, z.marks);
      few = omega (arith, z.indexes, b.bootstraps);
      entries = omega (arith, z.marks, b.constants, b.bootstraps);
      links = omega (arith, z.indexes, z.row_links);
      inline = omega (arith, z.indexes, z.inline);
      given = omega (arith, z.marks, z.given);
      firsts = omega (arith, z.marks, z.firsts);
      sizes = omega (arith, z.marks, z.sizes);
      nodes = omega (arith, z.marks, z.nodes);
    }

-- NO ROW, where indexes and heads are zeros

module _ (b : Base) (indexes inline heads links : List ℕ) (none : (i : ℕ) → get_or indexes i 0 ≡ 0) (empty : (k : ℕ) → get_or heads k 0 ≡ 0) where
  no_words : RowWords b indexes inline heads links 0 0 0
  no_words =
      record {
        inlined =
            record {
              nodes = λ i l. absurd (omega arith);
              chains = record { first = λ k l. empty k; next = λ i l. absurd (omega arith) };
              unlike = λ i j a l. absurd (omega arith);
              rise = λ i j a l. absurd (omega arith);
              low = λ i l. absurd (omega arith);
              high = λ i l. absurd (omega arith);
              few = omega arith;
              has = λ e low word. absurd (omega (arith, none (e - b.constants)));
            };
        few = omega arith;
        low = omega arith;
        behind = λ i l. absurd (omega arith);
        ahead = λ i a l. omega arith;
      }

  abbrev waiting_only : Rows
  waiting_only = record { written = []; waiting = from b.raw 0 b.raws; inline = [] }

  no_rows : Rowed b indexes inline heads links 0 0 0 waiting_only
  unfolding backwards
  no_rows =
      let z : b.raws - 0 ≡ b.raws = omega arith in
      record {
        words = no_words;
        items = refl;
        waiting = ap (from b.raw 0) (sym z);
        written = refl;
        inlines = λ j l. absurd (omega arith);
        stands = λ i l. absurd (omega arith);
      }

-- all raw rows wait
pub rows_begin :
    (p : List ℕ) (t : Store) → ((i : ℕ) → get_or (t INDEXES) i 0 ≡ 0) → ((k : ℕ) → get_or (t ROW-HEADS) k 0 ≡ 0) →
    row_count t ≡ 0 → written_count t ≡ 0 → inline_count t ≡ 0 →
    RowedIn p (record { written = []; waiting = from (base_in p t).raw 0 (raw_rows t); inline = [] }) t
rows_begin p t none empty r w n = rw (r, w, n) (no_rows (base_in p t) (t INDEXES) (t INLINE) (t ROW-HEADS) (t ROW-LINKS) none empty)
