-- The chains of slots leave everything else as it was, so that what held before them holds behind them. Assumes nothing.
use mathlib.Core.List.{List, [], ◌∷◌}
use mathlib.Core.Logic.{◌⊎◌}
use mathlib.Core.Path.{◌≡◌, refl, sym, ap, subst, ◌∙◌}
use Prim.Native.Nat.{ℕ, zero, suc, ◌≤◌, ◌<◌}
use native.Mathlib.Omega.{arith}
use lib.ListN.{get_or}
use Rattle.definition.specs.Definitions.{Held}
use Rattle.store.specs.Store.{Store, size, Kept}
use Rattle.store.specs.JobIn.{entries_in}
use Rattle.store.specs.Regions.{COUNTS, MARKS, GIVEN, INDEXES, RAW-HEADS, OWNER-HEADS, RAW-LINKS, OWNER-LINKS, OFFSETS, FIRSTS, SIZES, CHILDREN, RAW-KEYS, RAW-ENTRIES, ORDER, NODES, INLINE, VALUES, Work}
use Rattle.store.specs.Words.{HALF}
use Rattle.store.proofs.Laying.{work-sizes}
use Rattle.interner.specs.Nodes.{node_count}
use Rattle.raws.specs.Raws.{RawsIn, raw_count}
use Rattle.output.specs.Contents.{Made, pool_count, Owned, HeldOrder, OwnersMade, Finished}
use Rattle.output.specs.Names.{ClassAt}
use Rattle.output.specs.Rows.{RowReady, raw_index_in, inline_index_in, row_count_in, passed, row_node_in, constants_for, RowsReady}
use Rattle.output.proofs.Handing.{searched}

-- a walk passes as many of the same numbers
passed-same : (f g : ℕ → ℕ) → ((i : ℕ) → f i ≡ g i) → (n : ℕ) → passed f n ≡ passed g n
unfolding passed
passed-same f g same zero = refl
passed-same f g same (suc n) = rw (passed-same f g same n, same (passed g n))

module _ (s p : List ℕ) (t u : Store) (k : Kept (OWNER-HEADS ∷ OWNER-LINKS ∷ []) t u) where
  made_kept : Made s t → Made s u
  made_kept m =
      record {
        entered = rw (k OFFSETS refl, k FIRSTS refl, k SIZES refl, k VALUES refl) m.entered;
        few = rw (k COUNTS refl) m.few;
        inside = rw (k COUNTS refl, k NODES refl) m.inside;
      }

  pub owned_kept : Owned s t → Owned s u
  owned_kept o =
      record {
        made = made_kept o.made;
        raw_nodes =
            rw (k COUNTS refl, k RAW-ENTRIES refl, k MARKS refl, k SIZES refl, k NODES refl, k GIVEN refl, k INDEXES refl, k FIRSTS refl, k CHILDREN refl)
            o.raw_nodes;
        given_nodes =
            rw (k COUNTS refl, k GIVEN refl, k SIZES refl, k NODES refl, k INDEXES refl, k FIRSTS refl, k CHILDREN refl) o.given_nodes;
      }

  pub order_kept : HeldOrder p t → HeldOrder p u
  order_kept o =
      record {
        counted = o.counted;
        room = rw (k COUNTS refl) o.room;
        keys_room = rw (k COUNTS refl) o.keys_room;
        entries_room = rw (k COUNTS refl) o.entries_room;
        inside = rw (k COUNTS refl, k ORDER refl) o.inside;
        rise = rw (k COUNTS refl, k ORDER refl, k RAW-KEYS refl) o.rise;
        low = rw (k COUNTS refl, k ORDER refl, k RAW-KEYS refl) o.low;
        high = rw (k COUNTS refl, k ORDER refl, k RAW-KEYS refl) o.high;
        whole = rw (k COUNTS refl, k RAW-KEYS refl, k ORDER refl) o.whole;
      }

  row_kept : (n : ℕ) → RowReady p t n → RowReady p u n
  row_kept n r =
      record {
        node = r.node;
        first = rw (k NODES refl) r.first;
        count = rw (k NODES refl) r.count;
        some = rw (k SIZES refl, k NODES refl) r.some;
        few = rw (k SIZES refl, k NODES refl) r.few;
        room = rw (k FIRSTS refl, k NODES refl, k SIZES refl) r.room;
        kids = rw (k SIZES refl, k NODES refl, k GIVEN refl, k FIRSTS refl, k CHILDREN refl) r.kids;
      }

  inline_same : (i : ℕ) → inline_index_in (constants_for p) u i ≡ inline_index_in (constants_for p) t i
  inline_same i = rw (k INDEXES refl, k NODES refl, k INLINE refl, k COUNTS refl)

  raw_same : (i : ℕ) → raw_index_in u i ≡ raw_index_in t i
  raw_same i = rw (k RAW-KEYS refl, k ORDER refl, k COUNTS refl)

  inline_passed : (i : ℕ) → passed (inline_index_in (constants_for p) u) i ≡ passed (inline_index_in (constants_for p) t) i
  inline_passed = passed-same (inline_index_in (constants_for p) u) (inline_index_in (constants_for p) t) inline_same

  raw_passed : (i : ℕ) → passed (raw_index_in u) i ≡ passed (raw_index_in t) i
  raw_passed = passed-same (raw_index_in u) (raw_index_in t) raw_same

  node_same : (i : ℕ) → row_node_in (constants_for p) u i ≡ row_node_in (constants_for p) t i
  node_same i =
      rw (inline_passed i, raw_passed i, k INDEXES refl, k NODES refl, k INLINE refl, k COUNTS refl, k MARKS refl, k RAW-ENTRIES refl, k ORDER refl)

  counted : (i : ℕ) → i < row_count_in u → i < row_count_in t
  counted i h = rw (k COUNTS refl, k RAW-KEYS refl, k ORDER refl) at h

  pub rows_kept : RowsReady p t → RowsReady p u
  rows_kept r =
      record {
        counters = r.counters;
        fewer = r.fewer;
        held_low_lem = rw (k COUNTS refl) r.held_low_lem;
        order_room = rw (k COUNTS refl) r.order_room;
        raws = rw (k COUNTS refl, k RAW-KEYS refl, k RAW-ENTRIES refl, k MARKS refl, k ORDER refl) r.raws;
        inline_room = rw (k COUNTS refl) r.inline_room;
        inline = rw (k COUNTS refl, k INDEXES refl, k NODES refl, k INLINE refl) r.inline;
        few = rw (k COUNTS refl, k RAW-KEYS refl, k ORDER refl) r.few;
        there =
            λ i h f.
            rw (raw_passed i, k COUNTS refl)
            (r.there i (counted i h)
            (λ z. f (inline_same (passed (inline_index_in (constants_for p) u) i) ∙ ap (inline_index_in (constants_for p) t) (inline_passed i) ∙ z)));
        rows = λ i h. subst (RowReady p u) (sym (node_same i)) (row_kept (row_node_in (constants_for p) t i) (r.rows i (counted i h)));
      }

  pub class_kept : ClassAt s p t → ClassAt s p u
  class_kept c = record { counted = c.counted; build = rw (k COUNTS refl) c.build; asked = c.asked }

  raws_kept :
      (constants top : ℕ) (held : List (ℕ × Held)) (indexes : List (ℕ × ℕ)) → RawsIn p constants top held indexes t → RawsIn p constants top held indexes u
  raws_kept constants top held indexes r =
      rw (k RAW-KEYS refl, k RAW-ENTRIES refl, k RAW-HEADS refl, k RAW-LINKS refl, k COUNTS refl) r

-- all that is finished, from what the stages before leave
pub all_finished :
    (s p : List ℕ) (constants top : ℕ) (held : List (ℕ × Held)) (indexes : List (ℕ × ℕ)) (t u : Store) → Work s p → OwnersMade p t u →
    RawsIn p constants top held indexes t → raw_count t ≤ size p RAW-KEYS →
    ((i : ℕ) → i < raw_count t →
    (get_or (t RAW-ENTRIES) i 0 ≡ HALF) ⊎ ((get_or (t RAW-ENTRIES) i 0 < entries_in s) × (1 < get_or (t MARKS) (get_or (t RAW-ENTRIES) i 0) 0))) →
    ((i j : ℕ) → i < j → j < node_count t → 0 < get_or (t GIVEN) i 0 → get_or (t GIVEN) i 0 ≡ get_or (t GIVEN) j 0 → ⊥) →
    Owned s t → HeldOrder p t → 1 ≤ pool_count t → pool_count t < 65536 → Finished s p u
all_finished s p constants top held indexes t u work made raws room done alone owned order low high =
    let k = made.kept in
    record {
      sought =
          searched s p constants top held indexes u work (raws_kept s p t u k constants top held indexes raws) (rw (k COUNTS refl) room)
          (rw (k COUNTS refl, k RAW-ENTRIES refl, k MARKS refl) done) made.owners (rw (k COUNTS refl, k GIVEN refl) alone);
      owned = owned_kept s p t u k owned;
      order = order_kept s p t u k order;
      counted = omega (arith, (work-sizes s p work).counts);
      low = rw (k COUNTS refl) low;
      high = rw (k COUNTS refl) high;
    }
