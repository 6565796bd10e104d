-- POOL OCCURS: the pool that building leaves is one that occurs, if the one that it starts from is. Assumes nothing.
use mathlib.Core.List.{List}
use mathlib.Core.Path.{◌≡◌}
use Prim.Native.Nat.{ℕ}
use Rattle.definition.specs.Basics.{good}
use Rattle.definition.specs.Definitions.{Held}
use Rattle.definition.specs.Resolving.{Node}
use Rattle.definition.specs.Building.{Pool, Made, build_all}
use Rattle.laws.specs.Statements.{Occurs}
use Rattle.laws.proofs.Building.ChildNumbers.{Starts}
use Rattle.laws.proofs.Building.WhatBuildingLeaves.{built}

module _
    (nodes : List Node)
    (indexes raws : List (ℕ × ℕ))
    (p : Pool)
    (m : Made)
    (starts : Starts nodes raws p)
    (done : build_all nodes indexes p ≡ good m) where
  -- POOL OCCURS: the pool that building leaves is one that occurs, if the one that it starts from is
  pub pool_occurs : (top : ℕ) (held : List (ℕ × Held)) → Occurs top held nodes p → Occurs top held nodes m.pool
  pool_occurs = (built nodes indexes raws p m starts done).occurs
