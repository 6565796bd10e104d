-- After building every slot given out, and every raw one, holds its node with numbers that stand for its children; nothing else is held;
-- raw bootstraps stand at their indexes; and what was given before is still given. Assumes nothing.
use mathlib.Core.List.{List, []}
use mathlib.Core.Logic.{◌⊎◌, inl, inr}
use mathlib.Core.Option.{some}
use mathlib.Core.Path.{◌≡◌}
use Prim.Native.Nat.{ℕ, ◌≤◌}
use lib.ListN.{length, get_elem?}
use Rattle.definition.specs.Basics.{good, lookup}
use Rattle.definition.specs.Shapes.{Entry}
use Rattle.definition.specs.Resolving.{Node}
use Rattle.definition.specs.Building.{Pool, Row, Made, kids_of, build_all}
use Rattle.facts.specs.Lists.{Among, Rising, keys}
use Rattle.facts.proofs.Lists.{among-nil}
use Rattle.facts.proofs.Each.{Both}
use Rattle.laws.proofs.Slots.SlotsToHold.{to_hold}
use Rattle.laws.proofs.Building.ChildNumbers.{SlotFor, StandsIn, InlineIn, FinishedBy, FinishedAt, OwnerBy, OwnerOf, RowFrom, rows_of, Starts, IndexKept, rows_twice, slots_same, InlineThere, inline_stands, finished-kept, owner_kept, Building}
use Rattle.laws.proofs.Building.WhatBuildingLeaves.{Placed, filled, built}

-- inline rows stand at their indexes in the rows that building ends with
rows_end : (nodes : List Node) (indexes : List (ℕ × ℕ)) (m : Made) → InlineThere m.rows → IndexKept (InlineIn m.rows.inline) (StandsIn (rows_of m))
rows_end nodes indexes m there =
    rows_twice (inline_stands m.rows there) (filled nodes indexes [] m.rows.written m.rows.waiting).0

module _
    (nodes : List Node)
    (indexes raws : List (ℕ × ℕ))
    (p : Pool)
    (m : Made)
    (starts : Starts nodes raws p)
    (done : build_all nodes indexes p ≡ good m) where
  while_building : Building nodes raws [] m
  while_building = (built nodes indexes raws p m starts done).building

  -- what is found among the inline rows stands in the rows at the end
  pub inline_end : IndexKept (InlineIn m.rows.inline) (StandsIn (rows_of m))
  inline_end = rows_end nodes indexes m while_building.inlined

  -- FINISHED: every slot that is to hold a node is owned by it, with numbers that stand for its children
  pub finished : (s k : ℕ) → Among (s, k) (to_hold m.pool.given raws) → FinishedAt nodes m.pool.given (rows_of m) m.owned s k
  finished s k a = go (while_building.done s k a)
    where
      go :
          Among {A = ℕ × ℕ} (s, k) [] ⊎ FinishedBy nodes m.pool.given (InlineIn m.rows.inline) m.owned s k →
          FinishedAt nodes m.pool.given (rows_of m) m.owned s k
      go (inl b) = among-nil (s, k) b
      go (inr f) = finished-kept nodes m.owned m.owned s k slots_same inline_end (λ e b. b) f

  -- OWNERS: whatever is owned is such a node at a slot that is to hold it; its bootstraps' indexes are those of inline rows
  pub inline_owners : (s : ℕ) (e : Entry ℕ ℕ) → Among (s, e) m.owned → OwnerBy nodes m.pool.given raws (InlineIn m.rows.inline) s e
  inline_owners s e a = while_building.owners s e a

  pub owners : (s : ℕ) (e : Entry ℕ ℕ) → Among (s, e) m.owned → OwnerOf nodes m.pool.given raws (rows_of m) s e
  owners s e a = owner_kept nodes raws s e slots_same inline_end (λ k b. b) (inline_owners s e a)

  -- a slot that was given before building is still given
  pub slots_stay : (k s : ℕ) → lookup k p.given ≡ some s → lookup k m.pool.given ≡ some s
  slots_stay = (built nodes indexes raws p m starts done).kept.slot_stays

  module _ (up : Rising 0 65534 (keys indexes)) where
    placed_end : Placed nodes indexes m.pool.given (rows_of m) []
    placed_end = (built nodes indexes raws p m starts done).placed up

    -- RAW ROWS THERE: every raw bootstrap has its row at its index
    pub raw_rows_there :
        (i k : ℕ) → Among (i, k) indexes → (row : Row) × (get_elem? (rows_of m) i ≡ some row) × Both (SlotFor m.pool.given) (kids_of nodes k) row
    raw_rows_there i k a =
        let t = placed_end.raw_there i k a in
        (t.0, written t.0 t.2, t.1)
      where
        written : (row : Row) → (get_elem? (rows_of m) i ≡ some row) ⊎ Among {A = ℕ × Row} (i, row) [] → get_elem? (rows_of m) i ≡ some row
        written row (inl e) = e
        written row (inr b) = among-nil (i, row) b

    -- and every row is that of a raw bootstrap or of a bootstrap that was reached
    pub rows_from : (i : ℕ) (row : Row) → get_elem? (rows_of m) i ≡ some row → RowFrom nodes indexes m.pool.given row
    rows_from = placed_end.written_from

    -- there are at most 65,535 rows
    pub rows_fit : length (rows_of m) ≤ 65535
    rows_fit = placed_end.fits
