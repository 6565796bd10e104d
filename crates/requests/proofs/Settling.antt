-- Raw definitions at record 50: each became a node, and the definition's laws of the pool hold from there on. Assumes nothing.
use mathlib.Core.List.{List, map}
use mathlib.Core.Logic.{◌⊎◌, inl, inr}
use mathlib.Core.Path.{◌≡◌, subst}
use Prim.Native.Nat.{ℕ, ◌+◌, ◌-◌, ◌<◌}
use native.Mathlib.Omega.{arith}
use lib.ListN.{length, get_or, take, length-append, length-map, length-take}
use borrow.Author.Tests.{ne_eqb}
use Rattle.definition.specs.Basics.{good}
use Rattle.definition.specs.Numbering.{constants_of, bootstraps_of}
use Rattle.definition.specs.Definitions.{starts, Defined}
use Rattle.definition.specs.Resolving.{Goal, table_entry}
use Rattle.definition.specs.Layout.{starters}
use Rattle.facts.specs.Lists.{Among}
use Rattle.facts.proofs.Lists.{equal, among-left, among-right, among-either, map_at, unmap, found_inside}
use Rattle.facts.proofs.Tables.{lookup-at}
use Rattle.laws.specs.Statements.{IsBytes}
use Rattle.laws.specs.Faithful.{Settled, InTable, Faithful}
use Rattle.laws.proofs.Definitions.DefinedAsPlaced.{starters-start, start_starters}
use Rattle.laws.proofs.Building.AfterRequests.{Going}
use Rattle.laws.proofs.Building.AfterRecord50.{raw_goals, raws_of, ready_going}
use Rattle.store.specs.Store.{Store}
use Rattle.store.specs.JobIn.{WellFormed, definitions_in, table_of, entries_in, constants_in, linked_in}
use Rattle.store.specs.Regions.{MARKS, OFFSETS, FIRSTS, SIZES, GOALS, NODES}
use Rattle.store.specs.Words.{ENTRY, HALF, mark_word}
use Rattle.store.proofs.Bounds.{small}
use Rattle.interner.specs.Nodes.{node_in_lem, node_count, nodes_in}
use Rattle.raws.specs.Raws.{held_word, SlotItem, IndexItem, raw_count, RawsIn}
use Rattle.resolver.specs.Resolved.{resolved_in}
use Rattle.resolver.proofs.Meanings.{found_done}
use Rattle.resolver.proofs.Tabled.{cited, linked-count}
use Rattle.definitions.specs.Defining.{records_in, defined_in}
use Rattle.definitions.specs.Begun.{ready_from, AtFifty}
use Rattle.definitions.proofs.Ordering.{start_low, index-low}
use Rattle.requests.specs.Asked.{RawDone}

-- what record 50 resolves lies in the table
module _ (s : List ℕ) (well : WellFormed s) (bytes : IsBytes s) (top : ℕ) (d : Defined) (run : defined_in top s ≡ good d) where
  goals_in : (g : Goal) → Among g (raw_goals (constants_in s) d) → InTable (length (linked_in s)) g
  unfolding table_of
  goals_in g a =
      ways
      (among-either g (map (λ r. table_entry r.1) (starters d.held)) (map (λ r. table_entry (constants_in s + r.1)) d.indexes) a)
    where
      ways :
          Among g (map (λ r. table_entry r.1) (starters d.held))
          ⊎ Among g (map (λ r. table_entry (constants_in s + r.1)) d.indexes) →
          InTable (length (linked_in s)) g
      ways (inl h) =
          let (r, there, is) = unmap (λ (r : ℕ × ℕ). table_entry r.1) (starters d.held) g h in
          let low = start_low s well bytes top d run r.0 r.1 (starters-start d.held r.0 r.1 there) in
          subst (InTable (length (linked_in s))) is
          (omega (arith, low, linked-count s, length-append (constants_of (definitions_in s)) (bootstraps_of (definitions_in s))))
      ways (inr h) =
          let (r, there, is) = unmap (λ (r : ℕ × ℕ). table_entry (constants_in s + r.1)) d.indexes g h in
          let low = index-low s well bytes top d run r.0 r.1 there in
          subst (InTable (length (linked_in s))) is (omega (arith, low, linked-count s))

-- what holds of the pool at record 50, and that what it resolved is settled
pub fifty_going :
    (s p : List ℕ) (well : WellFormed s) (bytes : IsBytes s) (top : ℕ) (t : Store) (d : Defined) → AtFifty p top s t d →
    Going (linked_in s) top d.held (raws_of d.held (map mark_word (t MARKS))) (ready_from top s d (resolved_in s t))
    × ((g : Goal) → Among g (raw_goals (constants_in s) d) → Settled (map mark_word (t MARKS)) g)
fifty_going s p well bytes top t d f =
    ready_going top (records_in s) (constants_of (records_in s)) (linked_in s) (constants_in s) d (ready_from top s d (resolved_in s t))
    (cited s (t OFFSETS) (t FIRSTS) (t SIZES) (t GOALS) f.table.entered f.table.linked (small s well).entries)
    (goals_in s well bytes top d f.is_defined)
    f.is_defined
    f.is_ready

-- an entry became a node that is there
abbrev Done : List ℕ → Store → ℕ → Type 0
Done s u e = (e < entries_in s) × (1 < get_or (u MARKS) e 0) × (get_or (u MARKS) e 0 < node_count u + 2)

-- so did a settled one
pub entry_done :
    (s : List ℕ) (u : Store) → Faithful (linked_in s) (resolved_in s u) → (e : ℕ) → Settled (map mark_word (u MARKS)) (table_entry e) → Done s u e
entry_done s u faithful e (k, at) =
    let word = found_done (u MARKS) e k at in
    let node = found_inside (nodes_in s u) k _ (faithful.node_of e k at).2 in (
      omega (arith, found_inside (map mark_word (u MARKS)) e _ at, faithful.marks_length, linked-count s),
      omega (arith, word),
      omega (arith, word, node, length-map (take (node_count u) (u NODES)) (node_in_lem s u), length-take (node_count u) (u NODES)),
    )

-- a raw slot that isn't a second half is a raw constant
pub slot-starts : (top : ℕ) (d : Defined) (key e : ℕ) → SlotItem top d.held key e → (e ≡ HALF → ⊥) → Among (key, e) (starters d.held)
unfolding held_word
slot-starts top d key e item other =
    start_starters d.held key e (lookup-at key (starts e) d.held (rw (ne_eqb e HALF other, held_word) at item.row))

module _ (constants : ℕ) (d : Defined) where
  -- which record 50 resolved
  pub start_goal : (key e : ℕ) → Among (key, e) (starters d.held) → Among (table_entry e) (raw_goals constants d)
  start_goal key e (i, at) =
      among-left (table_entry e) (map (λ r. table_entry r.1) (starters d.held)) (map (λ r. table_entry (constants + r.1)) d.indexes)
      (i, map_at (λ (r : ℕ × ℕ). table_entry r.1) (starters d.held) i (key, e) at)

  -- as it did a raw bootstrap
  index-goal : (key e : ℕ) → IndexItem constants d.indexes key e → Among (table_entry e) (raw_goals constants d)
  index-goal key e item =
      let (i, at) = lookup-at (key - ENTRY) (e - constants) d.indexes item.row in
      let back : constants + (e - constants) ≡ e = omega (arith, item.behind) in
      subst (λ n. Among (table_entry n) (raw_goals constants d)) back
      (among-right _ (map (λ r. table_entry r.1) (starters d.held)) (map (λ r. table_entry (constants + r.1)) d.indexes)
      (i, map_at (λ (r : ℕ × ℕ). table_entry (constants + r.1)) d.indexes i (key - ENTRY, e - constants) at))

  -- so each raw definition is done
  module _
      (top : ℕ) (p s : List ℕ) (u : Store) (faithful : Faithful (linked_in s) (resolved_in s u)) (raws : RawsIn p constants top d.held d.indexes u)
      (settled : (g : Goal) → Among g (raw_goals constants d) → Settled (map mark_word (u MARKS)) g) where
    pub raw_done_lem : (i : ℕ) → i < raw_count u → RawDone s u i
    raw_done_lem i l = ways _ _ (raws.items i l)
      where
        slot : (key e : ℕ) → SlotItem top d.held key e → (e ≡ HALF) ⊎ (e ≡ HALF → ⊥) → (e ≡ HALF) ⊎ Done s u e
        slot key e item (inl is) = inl is
        slot key e item (inr other) = inr (entry_done s u faithful e (settled (table_entry e) (start_goal key e (slot-starts top d key e item other))))

        ways : (key e : ℕ) → SlotItem top d.held key e ⊎ IndexItem constants d.indexes key e → (e ≡ HALF) ⊎ Done s u e
        ways key e (inl item) = slot key e item (equal e HALF)
        ways key e (inr item) = inr (entry_done s u faithful e (settled (table_entry e) (index-goal key e item)))
