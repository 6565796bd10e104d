-- What the rows go by stays, whichever of their regions and counters are written. Assumes nothing.
use mathlib.Core.Bool.{Bool, true, false}
use mathlib.Core.List.{List, [], ◌∷◌}
use mathlib.Core.Path.{◌≡◌, refl, sym, ap, subst, ◌∙◌}
use Prim.Native.Nat.{ℕ}
use lib.Dec.{eqb}
use lib.ListN.{length, get_or, set}
use lib.Seq.{get_or-set_other}
use borrow.Author.Tests.{eqb-true, eqb-false}
use Rattle.definition.specs.Basics.{every}
use Rattle.definition.specs.Building.{Rows}
use Rattle.interner.specs.Nodes.{node_count}
use Rattle.raws.specs.Raws.{raw_count, held_count}
use Rattle.store.specs.Store.{Store, among, Kept}
use Rattle.store.specs.Regions.{COUNTS, MARKS, GIVEN, INDEXES, ROW-HEADS, ROW-LINKS, FIRSTS, SIZES, CHILDREN, RAW-KEYS, RAW-ENTRIES, ORDER, NODES, INLINE, ROW-COUNT, WRITTEN-COUNT, INLINE-COUNT, NODE-COUNT, RAW-COUNT, HELD-COUNT}
use Rattle.store.proofs.Keeping.{kept_more}
use Rattle.store.proofs.Walking.{both}
use Rattle.rows.specs.Rowed.{RowWords, RowWordsIn, Rowed, RowedIn, base_in, row_count, written_count, inline_count, SameBut, written, KidsIn, RawsReadyIn, row_in, IsBootstrapIn}

-- a counter that is written is among those that are
pub same_set : (l xs ys : List ℕ) (i x : ℕ) → among i l ≡ true → SameBut l xs ys → SameBut l xs (set ys i x)
same_set l xs ys i x a g c f = ways (eqb c i) refl
  where
    ways : (b : Bool) → eqb c i ≡ b → get_or (set ys i x) c 0 ≡ get_or xs c 0
    ways true e = absurd (both (subst (λ (y : ℕ). among y l ≡ true) (sym (eqb-true c i e)) a) f)
    ways false e = get_or-set_other ys i c x 0 (eqb-false c i e) ∙ g c f

-- fewer counters are written
pub same_more : (l m xs ys : List ℕ) → every (λ x. among x m) l ≡ true → SameBut l xs ys → SameBut m xs ys
same_more l m xs ys e g c f =
    ap
    (λ (z : List ℕ). get_or z 0 0)
    (kept_more l m (λ c. get_or xs c 0 ∷ []) (λ c. get_or ys c 0 ∷ []) e (λ c f. ap (λ (z : ℕ). z ∷ []) (g c f)) c f)

abbrev pub counters : List ℕ
counters = ROW-COUNT ∷ WRITTEN-COUNT ∷ INLINE-COUNT ∷ []

module _ (p : List ℕ) (t u : Store) (kept : Kept written t u) (same : SameBut counters (t COUNTS) (u COUNTS)) where
  pub nodes_same : node_count u ≡ node_count t
  nodes_same = same NODE-COUNT refl

  raws_same : raw_count u ≡ raw_count t
  raws_same = same RAW-COUNT refl

  held_same : held_count u ≡ held_count t
  held_same = same HELD-COUNT refl

  pub base_same : base_in p u ≡ base_in p t
  base_same =
      rw (nodes_same, raws_same, held_same, kept NODES refl, kept GIVEN refl, kept CHILDREN refl, kept FIRSTS refl, kept SIZES refl, kept ORDER refl, kept RAW-KEYS refl, kept RAW-ENTRIES refl, kept MARKS refl)

  pub row_kept : (k : ℕ) → row_in u k ≡ row_in t k
  row_kept k = rw (kept NODES refl, kept GIVEN refl, kept CHILDREN refl, kept FIRSTS refl, kept SIZES refl)

  pub boot_kept : (k : ℕ) → length (u INDEXES) ≡ length (t INDEXES) → IsBootstrapIn p t k → IsBootstrapIn p u k
  boot_kept k long is =
      record {
        made = rw nodes_same is.made;
        behind = rw (kept NODES refl) is.behind;
        inside = rw (kept NODES refl, long) is.inside;
      }

  pub kids_stay : KidsIn p t → KidsIn p u
  kids_stay h = rw (nodes_same, kept NODES refl, kept FIRSTS refl, kept SIZES refl, kept CHILDREN refl) h

  pub raws_stay : RawsReadyIn p t → RawsReadyIn p u
  raws_stay h = rw (nodes_same, raws_same, held_same, kept MARKS refl, kept RAW-KEYS refl, kept RAW-ENTRIES refl, kept ORDER refl) h

  module _ (indexes inline heads links : List ℕ) (count wrote n : ℕ) where
    -- what holds of lists and counts holds of the store that has them
    module _
        (i : u INDEXES ≡ indexes) (l : u INLINE ≡ inline) (h : u ROW-HEADS ≡ heads) (s : u ROW-LINKS ≡ links)
        (r : row_count u ≡ count) (w : written_count u ≡ wrote) (m : inline_count u ≡ n) where
      pub words_in : RowWords (base_in p t) indexes inline heads links count wrote n → RowWordsIn p u
      words_in g = subst (λ b. RowWords b (u INDEXES) (u INLINE) (u ROW-HEADS) (u ROW-LINKS) (row_count u) (written_count u) (inline_count u)) (sym base_same) (rw (i, l, h, s, r, w, m) g)

      pub rowed_in : (rows : Rows) → Rowed (base_in p t) indexes inline heads links count wrote n rows → RowedIn p rows u
      rowed_in rows g = subst (λ b. Rowed b (u INDEXES) (u INLINE) (u ROW-HEADS) (u ROW-LINKS) (row_count u) (written_count u) (inline_count u) rows) (sym base_same) (rw (i, l, h, s, r, w, m) g)
