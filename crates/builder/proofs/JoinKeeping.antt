-- What building and the name leave alone, and so stays from the requests on. Assumes nothing.
use mathlib.Core.List.{List, [], ◌∷◌, map}
use mathlib.Core.Logic.{inl, inr}
use mathlib.Core.Path.{◌≡◌, refl, sym, ap, subst, ◌∙◌}
use Prim.Native.Nat.{ℕ, ◌<◌}
use lib.ListN.{get_or, take}
use Rattle.definition.specs.Basics.{every}
use Rattle.definition.specs.Building.{Rows, kids_of}
use Rattle.definition.specs.Definitions.{Held}
use Rattle.laws.specs.Faithful.{Faithful}
use Rattle.slots.specs.Gaps.{GapTable}
use Rattle.store.specs.Store.{Store, Kept}
use Rattle.store.specs.JobIn.{linked_in}
use Rattle.store.specs.Regions.{COUNTS, MARKS, GIVEN, INDEXES, NODE-HEADS, RAW-HEADS, ROW-HEADS, NODE-LINKS, RAW-LINKS, ROW-LINKS, OFFSETS, FIRSTS, SIZES, GOALS, CHILDREN, RAW-KEYS, RAW-ENTRIES, ORDER, NODES, INLINE, VALUES, RAW-COUNT, HELD-COUNT, NODE-COUNT, VISITS, ODD, WIDE, PLAIN, PENDING-COUNT, ROW-COUNT, WRITTEN-COUNT, INLINE-COUNT, NAME-SLOT, POOL-COUNT}
use Rattle.store.specs.Words.{mark_word}
use Rattle.store.proofs.Keeping.{kept_more, kept_then}
use Rattle.interner.specs.Nodes.{node_at_lem, nodes_in}
use Rattle.raws.specs.Raws.{raw_count, RawsIn, Ordered}
use Rattle.resolver.specs.Resolved.{resolved_in, Table, AtRest}
use Rattle.rows.specs.Rowed.{base_in, Rowed, RowedIn, row_count, written_count, inline_count, HasNumber, SameBut, RawsReadyIn}
use Rattle.rows.proofs.Staying.{same_more}
use Rattle.pool.specs.Owning.{IsOwner}
use Rattle.requests.specs.Asked.{RawDone}
use Rattle.building.specs.Numbers.{ChildDone, KidsDone}
use Rattle.building.specs.Built.{built_counters, built_regions, BuiltAll}

-- BUILDING, AND THE NAME

abbrev pub later_counters : List ℕ
later_counters = ODD ∷ WIDE ∷ PLAIN ∷ PENDING-COUNT ∷ ROW-COUNT ∷ WRITTEN-COUNT ∷ INLINE-COUNT ∷ NAME-SLOT ∷ POOL-COUNT ∷ []

-- the name and the count are counters, and nothing else
abbrev pub named_counters : List ℕ
named_counters = ODD ∷ WIDE ∷ PLAIN ∷ NAME-SLOT ∷ POOL-COUNT ∷ []

-- u is behind building or behind the name, t before
pub record Later (t u : Store) : Type 0 where
  pub kept : Kept built_regions t u
  pub counters : SameBut later_counters (t COUNTS) (u COUNTS)

pub built_later : (s p : List ℕ) (version : ℕ) (t u : Store) (g h : GapTable) (r : ℕ) → BuiltAll s p version t u g h r → r ≡ 0 → Later t u
unfolding every
built_later s p version t u g h r b fine =
    record { kept = b.kept fine; counters = same_more built_counters later_counters (t COUNTS) (u COUNTS) refl (b.counters fine) }

pub named-later : (t u : Store) → Kept (COUNTS ∷ []) t u → SameBut named_counters (t COUNTS) (u COUNTS) → Later t u
unfolding every
named-later t u kept same =
    record { kept = kept_more (COUNTS ∷ []) built_regions t u refl kept; counters = same_more named_counters later_counters (t COUNTS) (u COUNTS) refl same }

pub later_then : (t u v : Store) → Later t u → Later u v → Later t v
later_then t u v a b =
    record { kept = kept_then built_regions t u v a.kept b.kept; counters = λ c f. b.counters c f ∙ a.counters c f }

-- what the requests have left stays
module _ (s : List ℕ) (t u : Store) (later : Later t u) where
  pub nodes_same : nodes_in s u ≡ nodes_in s t
  nodes_same =
      λ i.
      map
      (node_at_lem s (later.kept FIRSTS refl i) (later.kept SIZES refl i) (later.kept CHILDREN refl i))
      (take (later.counters NODE-COUNT refl i) (later.kept NODES refl i))

  pub resolved_same : resolved_in s u ≡ resolved_in s t
  resolved_same = λ i. record { marks = map mark_word (later.kept MARKS refl i); nodes = nodes_same i; visits = later.counters VISITS refl i }

  pub table_stays : Table s t → Table s u
  table_stays g =
      record {
        entered = rw (later.kept OFFSETS refl, later.kept FIRSTS refl, later.kept SIZES refl, later.kept VALUES refl) g.entered;
        linked = rw (later.kept FIRSTS refl, later.kept GOALS refl) g.linked;
      }

  pub rests-stay : (h : ℕ) → AtRest h s t → AtRest h s u
  rests-stay h g =
      record {
        nodes =
            rw (later.counters NODE-COUNT refl, later.kept NODES refl, later.kept FIRSTS refl, later.kept SIZES refl, later.kept CHILDREN refl, later.kept NODE-HEADS refl, later.kept NODE-LINKS refl)
            g.nodes;
        made = rw (later.counters NODE-COUNT refl, later.kept NODES refl, later.kept MARKS refl) g.made;
        lowest = rw (later.counters NODE-COUNT refl, later.kept NODES refl, later.kept MARKS refl) g.lowest;
        room = rw (later.counters NODE-COUNT refl, later.kept MARKS refl) g.room;
        faithful = subst (Faithful (linked_in s)) (sym resolved_same) g.faithful;
        owed = rw (later.kept MARKS refl) g.owed;
      }

  pub raws_stay :
      (p : List ℕ) (constants top : ℕ) (held : List (ℕ × Held)) (indexes : List (ℕ × ℕ)) → RawsIn p constants top held indexes t →
      RawsIn p constants top held indexes u
  raws_stay p constants top held indexes g =
      rw (later.kept RAW-KEYS refl, later.kept RAW-ENTRIES refl, later.kept RAW-HEADS refl, later.kept RAW-LINKS refl, later.counters RAW-COUNT refl, later.counters HELD-COUNT refl)
      g

  pub ordered_stays :
      (constants top : ℕ) (held : List (ℕ × Held)) (indexes : List (ℕ × ℕ)) →
      Ordered constants top held indexes (t RAW-KEYS) (t RAW-ENTRIES) (t ORDER) (raw_count t) →
      Ordered constants top held indexes (u RAW-KEYS) (u RAW-ENTRIES) (u ORDER) (raw_count u)
  ordered_stays constants top held indexes g =
      rw (later.kept RAW-KEYS refl, later.kept RAW-ENTRIES refl, later.kept ORDER refl, later.counters RAW-COUNT refl) g

  pub raw_stays : ((i : ℕ) → i < raw_count t → RawDone s t i) → (i : ℕ) → i < raw_count u → RawDone s u i
  raw_stays g = rw (later.kept RAW-ENTRIES refl, later.kept MARKS refl, later.counters NODE-COUNT refl, later.counters RAW-COUNT refl) g

  pub ready_stays : (p : List ℕ) → RawsReadyIn p t → RawsReadyIn p u
  ready_stays p g =
      rw (later.kept MARKS refl, later.kept RAW-KEYS refl, later.kept RAW-ENTRIES refl, later.kept ORDER refl, later.counters NODE-COUNT refl, later.counters RAW-COUNT refl, later.counters HELD-COUNT refl)
      g

-- THE NAME ALONE: what building has left stays

module _ (s p : List ℕ) (t u : Store) (kept : Kept (COUNTS ∷ []) t u) (same : SameBut named_counters (t COUNTS) (u COUNTS)) where
  nodes_as : nodes_in s u ≡ nodes_in s t
  nodes_as = nodes_same s t u (named-later t u kept same)

  base_as : base_in p u ≡ base_in p t
  base_as =
      rw (same NODE-COUNT refl, same RAW-COUNT refl, same HELD-COUNT refl, kept NODES refl, kept GIVEN refl, kept CHILDREN refl, kept FIRSTS refl, kept SIZES refl, kept ORDER refl, kept RAW-KEYS refl, kept RAW-ENTRIES refl, kept MARKS refl)

  pub rowed_as : (rows : Rows) → RowedIn p rows t → RowedIn p rows u
  rowed_as rows g =
      subst
      (λ b. Rowed b (u INDEXES) (u INLINE) (u ROW-HEADS) (u ROW-LINKS) (row_count u) (written_count u) (inline_count u) rows)
      (sym base_as)
      (rw (kept INDEXES refl, kept INLINE refl, kept ROW-HEADS refl, kept ROW-LINKS refl, same ROW-COUNT refl, same WRITTEN-COUNT refl, same INLINE-COUNT refl) g)

  pub owner_back : (k : ℕ) → IsOwner u k → IsOwner t k
  owner_back k (inl g) = inl (rw (kept GIVEN refl) at g)
  owner_back k (inr (i, r)) =
      inr (
        i,
        record {
          inside = rw (same RAW-COUNT refl) at r.inside;
          slot = rw (kept RAW-KEYS refl) at r.slot;
          whole = rw (kept RAW-ENTRIES refl) at r.whole;
          node = rw (kept RAW-ENTRIES refl, kept MARKS refl) at r.node;
        },
      )

  child_as : (child : ℕ) → ChildDone p t child → ChildDone p u child
  unfolding HasNumber
  child_as child d =
      record { index = rw (kept NODES refl, kept INDEXES refl) d.index; slot = rw (kept NODES refl, kept GIVEN refl) d.slot }

  pub done_as : (k : ℕ) → KidsDone s p t k → KidsDone s p u k
  done_as k d i l =
      let e : kids_of (nodes_in s u) k ≡ kids_of (nodes_in s t) k = ap (λ n. kids_of n k) nodes_as in
      rw e (child_as (get_or (kids_of (nodes_in s t) k) i 0) (d i (rw e at l)))
