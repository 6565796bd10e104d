-- Which step is refused with which number: one that asks for a slot with 14 or 15, one that asks for an index with 17. Assumes nothing.
use mathlib.Core.Bool.{Bool, true, false}
use mathlib.Core.List.{List}
use mathlib.Core.Logic.{◌⊎◌, inl, inr}
use mathlib.Core.Option.{Option, none, some}
use mathlib.Core.Path.{◌≡◌, refl, sym, ◌∙◌}
use Prim.Native.Nat.{ℕ, ◌≤◌, ◌<◌}
use native.Mathlib.Omega.{arith}
use lib.ListN.{length}
use Rattle.definition.specs.Basics.{bad, lookup}
use Rattle.definition.specs.Shapes.{is_wide}
use Rattle.definition.specs.Definitions.{tag_at}
use Rattle.definition.specs.Resolving.{Node}
use Rattle.definition.specs.Slots.{Slots, slot_for}
use Rattle.definition.specs.Building.{Pool, no_slot, give, allocate, Row, Rows, write_raw, index_of, row_index}
use Rattle.facts.proofs.Lists.{order}
use Rattle.facts.proofs.Results.{bad≢good, bad_inj}
use Rattle.laws.proofs.Slots.SlotRequest.{allocate-new, allocate-old}
use Rattle.laws.proofs.Building.RowsThatOccur.{row_old, row_new, take-some, take_none}

-- no slot is found for a node that has none: 14 or 15
give-number : (ldc : Bool) (k code : ℕ) (p : Pool) (o : Option (ℕ × Slots)) → give ldc k p o ≡ bad code → code ≡ no_slot ldc
unfolding give
give-number ldc k code p none h = bad_inj (sym h)
give-number ldc k code p (some r) h = bad≢good (sym h)

pub allocate-refused :
    (nodes : List Node) (ldc : Bool) (k code : ℕ) (p : Pool) → allocate nodes ldc k p ≡ bad code → (lookup k p.given ≡ none) × (code ≡ no_slot ldc)
allocate-refused nodes ldc k code p h = go (lookup k p.given) refl
  where
    go : (o : Option ℕ) → lookup k p.given ≡ o → (lookup k p.given ≡ none) × (code ≡ no_slot ldc)
    go none e = (e, give-number ldc k code p (slot_for (is_wide (tag_at nodes k)) ldc p.slots) (sym (allocate-new nodes ldc k p e) ∙ h))
    go (some s) e = bad≢good (sym h ∙ allocate-old nodes ldc k s p e)

pub no_slot-low : (ldc : Bool) → no_slot ldc ≤ 15
unfolding no_slot
no_slot-low true = omega arith
no_slot-low false = omega arith

-- no index is left for a row: 17
pub row_index-refused : (row : Row) (code : ℕ) (rows : Rows) → row_index row rows ≡ bad code → code ≡ 17
row_index-refused row code rows h = go (index_of row rows.inline) refl
  where
    r : List Row × List (ℕ × Row)
    r = write_raw rows.written rows.waiting

    taken : index_of row rows.inline ≡ none → (length r.0 < 65535) ⊎ (65535 ≤ length r.0) → code ≡ 17
    taken e (inl l) = bad≢good (sym h ∙ row_new row rows e ∙ take-some row rows.inline r l)
    taken e (inr l) = bad_inj (sym h ∙ row_new row rows e ∙ take_none row rows.inline r l)

    go : (o : Option ℕ) → index_of row rows.inline ≡ o → code ≡ 17
    go none e = taken e (order (length r.0) 65535)
    go (some i) e = bad≢good (sym h ∙ row_old row rows i e)
