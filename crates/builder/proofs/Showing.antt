-- Finished words show exactly what the definition renders. Assumes nothing.
use mathlib.Core.Bool.{Bool, true, false}
use mathlib.Core.List.{List, [], ◌∷◌, ◌++◌, map}
use mathlib.Core.Option.{Option, none, some}
use mathlib.Core.Path.{◌≡◌, refl, sym, ap, ◌∙◌}
use Prim.Native.Nat.{ℕ, zero, suc, ◌-◌, ◌<◌}
use native.Mathlib.Omega.{arith}
use lib.Dec.{eqb}
use lib.ListN.{get_or}
use borrow.Author.Tests.{eqb-true}
use Rattle.definition.specs.Basics.{good, lookup, from, concat}
use Rattle.definition.specs.Bytes.{be2}
use Rattle.definition.specs.Shapes.{Entry, is_wide, with_literal}
use Rattle.definition.specs.Numbering.{top_of, Literal, literals, numbered}
use Rattle.definition.specs.Definitions.{Defined}
use Rattle.definition.specs.Resolving.{Resolved}
use Rattle.definition.specs.Slots.{Slots, count_from}
use Rattle.definition.specs.Building.{Origin, raw, new, old, mark_of, Made, content_of, behind, nothing, empty_text, holds}
use Rattle.definition.specs.Layout.{Ready, Layout, layout_of, layout}
use Rattle.definition.specs.Run.{render, shown, slot_bytes}
use Rattle.facts.proofs.Lists.{clash}
use Rattle.facts.proofs.Each.{Each}
use Rattle.laws.specs.Statements.{IsBytes}
use Rattle.laws.proofs.Form.EntryShapes.{Short}
use Rattle.laws.proofs.Reading.PoolReadBack.{Fits}
use Rattle.laws.proofs.Reading.PoolContents.{spelled, content_holds, content_behind}
use Rattle.slots.specs.Gaps.{GapTable, slots_of}
use Rattle.store.specs.Store.{Store, over, Kept}
use Rattle.store.specs.JobIn.{job_in, definitions_in}
use Rattle.store.specs.Regions.{COUNTS, OWNER-HEADS, OWNER-LINKS, ANSWERS, ORIGINS, PLACE, VISITS, NAME-SLOT, Work}
use Rattle.rows.specs.Rowed.{table_of}
use Rattle.output.specs.Contents.{OwnersMade, pool_count, pool_in}
use Rattle.output.specs.Rows.{row_count_in, rows_in, constants_for}
use Rattle.output.specs.Names.{shown_at, class_slot_in, class_in}
use Rattle.output.proofs.Owned.{rows_kept, class_kept}
use Rattle.output.proofs.Rendering.{pool_rendered, rows_rendered, name_rendered}
use Rattle.builder.specs.Rendered.{Rendered}
use Rattle.builder.proofs.Final.{Final}
use Rattle.builder.proofs.Laid.{layout_in, laid_out}
use Rattle.builder.proofs.Known.{owners_fit}
use Rattle.builder.proofs.SlotWords.{shown-same}
use Rattle.builder.proofs.RowWords.{rows_counted, row_same}
use Rattle.builder.proofs.RowsFinished.{rows_ready_lem}
use Rattle.builder.proofs.Finishing.{count_here, finished-here, class_here, class_low}

-- the first of numbers of two bytes
first_short : (l : List ℕ) → Each Short l → get_or l 0 0 < 65536
first_short [] h = omega arith
first_short (x ∷ l) h = h.0

-- a content that is an entry is the slot's own
content_own : (owned : List (ℕ × Entry ℕ ℕ)) (n : ℕ) (e : Entry ℕ ℕ) → content_of owned n ≡ holds e → lookup n owned ≡ some e
unfolding content_of behind
content_own owned zero e q = clash (cc)
content_own owned (suc n) e q = ways (lookup (suc n) owned) refl
  where
    narrow : (b : Bool) → elim b [ true ↦ nothing | false ↦ empty_text ] ≡ holds e → ◌≡◌ {A = ℕ} 0 1
    narrow true r = cc
    narrow false r = cc

    behind-not : (o : Option (Entry ℕ ℕ)) → behind o ≡ holds e → ◌≡◌ {A = ℕ} 0 1
    behind-not none r = cc
    behind-not (some x) r = narrow (is_wide x.tag) r

    ways : (o : Option (Entry ℕ ℕ)) → lookup (suc n) owned ≡ o → o ≡ some e
    ways none r = clash (behind-not (lookup n owned) (sym (content_behind owned n r) ∙ q))
    ways (some x) r = let same : holds x ≡ holds e = sym (content_holds owned n x r) ∙ q in cc

-- words that differ in the chains of slots alone: what is read of other regions is the same
module _ (t u : Store) (k : Kept (OWNER-HEADS ∷ OWNER-LINKS ∷ []) t u) where
  abbrev chained : Store
  chained = over (over t OWNER-HEADS (u OWNER-HEADS)) OWNER-LINKS (u OWNER-LINKS)

  region : (j : ℕ) → u j ≡ chained j
  region j = ways (eqb j OWNER-LINKS) (eqb j OWNER-HEADS) refl refl
    where
      ways :
          (a b : Bool) → eqb j OWNER-LINKS ≡ a → eqb j OWNER-HEADS ≡ b →
          u j ≡ elim a [ true ↦ u OWNER-LINKS | false ↦ elim b [ true ↦ u OWNER-HEADS | false ↦ t j ] ]
      ways true b p q = ap u (eqb-true j OWNER-LINKS p)
      ways false true p q = ap u (eqb-true j OWNER-HEADS q)
      ways false false p q = k j (rw (q, p))

  pub same-words : u ≡ chained
  same-words = λ i j. region j i

module _ (s p : List ℕ) (t u : Store) (k : Kept (OWNER-HEADS ∷ OWNER-LINKS ∷ []) t u) where
  count_kept : row_count_in u ≡ row_count_in t
  count_kept = ap (λ (w : Store). row_count_in w) (same-words t u k)

  rows_as : rows_in (constants_for p) u ≡ rows_in (constants_for p) t
  rows_as = ap (λ (w : Store). rows_in (constants_for p) w) (same-words t u k)

  pool_as : pool_in s u ≡ pool_in s t
  pool_as = ap (λ (w : Store). pool_in s w) (same-words t u k)

  class_as : class_in s u ≡ class_in s t
  class_as = ap (λ (w : Store). class_in s w) (same-words t u k)

module _
    (s p : List ℕ) (v : Store) (h : GapTable) (d : Defined) (ready asked : Ready) (m after : Made)
    (are : IsBytes s) (work : Work s p) (f : Final s p v h d ready asked m after) where
  abbrev all : List Literal
  all = literals (job_in s)

  shows : (n : ℕ) → n < 65536 → shown_at s v n ≡ shown all (content_of after.owned n)
  shows = shown-same s p v h d ready asked m after are work f

  counted : pool_count v ≡ count_from (top_of (job_in s)) after.pool.slots.gaps
  unfolding slots_of
  counted = f.count ∙ ap (λ (x : Slots). count_from (top_of (job_in s)) x.gaps) f.named.slots

  pool_is : pool_in s v ≡ (render all (layout_in s v asked m after)).pool
  unfolding render layout_of
  pool_is =
      pool_rendered s v all (content_of after.owned) (λ i low high. shows i (omega (arith, high, count_here s p v h d ready asked m after are work f)))
      ∙ ap (λ n. be2 n ++ concat (map (λ c. slot_bytes (shown all c)) (from (content_of after.owned) 1 (n - 1)))) counted

  rows_are : rows_in (constants_for p) v ≡ (render all (layout_in s v asked m after)).bootstraps
  unfolding render layout_of
  rows_are =
      rows_rendered (constants_for p) v (table_of m.rows) (sym (rows_counted s p v h d ready asked m after are work f))
      (row_same s p v h d ready asked m after are work f)

  class_is : class_in s v ≡ (render all (layout_in s v asked m after)).class
  unfolding render layout_of with_literal
  class_is =
      name_rendered s v all after.owned shows (class_low s p v h d ready asked m after are work f)
      (λ e q. kids_short e (owners_fit s p v h d ready asked m after are work f (class_slot_in s v) e (content_own after.owned (class_slot_in s v) e q)))
    where
      kids_short : (e : Entry ℕ ℕ) → Fits (spelled all e) → get_or e.kids 0 0 < 65536
      kids_short e fits = first_short e.kids fits.is_for.short_kids

-- marks are bytes
mark_small : (o : Origin) → mark_of o < 256
unfolding mark_of
mark_small raw = omega arith
mark_small new = omega arith
mark_small old = omega arith

marks_small : (so : List Origin) (i : ℕ) → get_or (map mark_of so) i 0 < 256
marks_small [] i = omega arith
marks_small (o ∷ so) zero = mark_small o
marks_small (o ∷ so) (suc i) = marks_small so i

-- THE WORDS SHOW what the definition renders
pub rendered :
    (s p : List ℕ) (v u : Store) (h : GapTable) (d : Defined) (ready asked : Ready) (m after : Made) →
    IsBytes s → Work s p → Final s p v h d ready asked m after → OwnersMade p v u →
    (l : Layout) × (layout (top_of (job_in s)) (numbered (job_in s)) ≡ good l) × Rendered s p u (render (literals (job_in s)) l)
unfolding render layout_of definitions_in
rendered s p v u h d ready asked m after are work f made =
    let k = made.kept in (
      layout_in s v asked m after,
      laid_out s p v h d ready asked m after f,
      record {
        finished = finished-here s p v h d ready asked m after are work f u made;
        rows_ready = rows_kept s p v u k (rows_ready_lem s p v h d ready asked m after are work f);
        class_at = class_kept s p v u k (class_here s p v h d ready asked m after are work f);
        small = rw (k ANSWERS refl) f.small;
        small_marks = λ i l. rw (k ORIGINS refl, ← f.marks) (marks_small asked.origins i);
        answers = k ANSWERS refl;
        marks = k ORIGINS refl ∙ sym f.marks;
        pool = pool_as s p v u k ∙ pool_is s p v h d ready asked m after are work f;
        bootstrap_count = count_kept s p v u k ∙ rows_counted s p v h d ready asked m after are work f;
        bootstraps = rows_as s p v u k ∙ rows_are s p v h d ready asked m after are work f;
        name = ap (λ (l : List ℕ). get_or l NAME-SLOT 0) (k COUNTS refl);
        class = class_as s p v u k ∙ class_is s p v h d ready asked m after are work f;
        visits = ap (λ (l : List ℕ). get_or l VISITS 0) (k COUNTS refl) ∙ ap (λ (r : Resolved). r.visits) (sym f.resolved);
        place = ap (λ (l : List ℕ). get_or l PLACE 0) (k COUNTS refl) ∙ f.place;
      },
    )
