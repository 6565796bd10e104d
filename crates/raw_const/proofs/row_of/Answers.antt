-- `raw_const::row_of` meets its contract: each row stands beside the definition's, and the last one's tags have none. Assumes nothing.
use mathlib.Core.Path.{sym, ap}
use Rattle.definition.specs.Basics.{lookup}
use Rattle.definition.specs.Shapes.{shapes}
use Rattle.facts.proofs.Tables.{passed}
use Rattle.raw_const.specs.Entries.{row_of}
use Rattle.raw_const.proofs.row_of.Goals as goal

pub returns-in-1 : goal.returns-in-1
unfolding lookup shapes
returns-in-1 c = rw c.in-1.is

pub returns-in-3 : goal.returns-in-3
unfolding lookup shapes
returns-in-3 c = rw c.in-3.is

pub returns-in-4 : goal.returns-in-4
unfolding lookup shapes
returns-in-4 c = rw c.in-4.is

pub returns-in-5 : goal.returns-in-5
unfolding lookup shapes
returns-in-5 c = rw c.in-5.is

pub returns-in-6 : goal.returns-in-6
unfolding lookup shapes
returns-in-6 c = rw c.in-6.is

pub returns-in-7 : goal.returns-in-7
unfolding lookup shapes
returns-in-7 c = rw c.in-7.is

pub returns-in-8 : goal.returns-in-8
unfolding lookup shapes
returns-in-8 c = rw c.in-8.is

pub returns-in-9 : goal.returns-in-9
unfolding lookup shapes
returns-in-9 c = rw c.in-9.is

pub returns-in-10 : goal.returns-in-10
unfolding lookup shapes
returns-in-10 c = rw c.in-10.is

pub returns-in-11 : goal.returns-in-11
unfolding lookup shapes
returns-in-11 c = rw c.in-11.is

pub returns-in-12 : goal.returns-in-12
unfolding lookup shapes
returns-in-12 c = rw c.in-12.is

pub returns-in-15 : goal.returns-in-15
unfolding lookup shapes
returns-in-15 c = rw c.in-15.is

pub returns-in-16 : goal.returns-in-16
unfolding lookup shapes
returns-in-16 c = rw c.in-16.is

pub returns-in-17 : goal.returns-in-17
unfolding lookup shapes
returns-in-17 c = rw c.in-17.is

pub returns-in-18 : goal.returns-in-18
unfolding lookup shapes
returns-in-18 c = rw c.in-18.is

pub returns-in-19 : goal.returns-in-19
unfolding lookup shapes
returns-in-19 c = rw c.in-19.is

pub returns-in-20 : goal.returns-in-20
unfolding lookup shapes
returns-in-20 c = rw c.in-20.is

pub returns-in_default : goal.returns-in_default
unfolding shapes
returns-in_default c = ap row_of (sym (passed c.args.tag (Unit {0}) shapes c.in_default.in_default-own.rest).1)
