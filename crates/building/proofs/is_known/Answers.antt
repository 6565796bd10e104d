-- `building::is_known` meets its contract: each row stands beside the definition's, and the last one's tags have none. Assumes nothing.
use Rattle.definition.specs.Basics.{lookup}
use Rattle.definition.specs.Settings.{since, known}
use Rattle.facts.proofs.Tables.{passed}
use Rattle.building.proofs.is_known.Goals as goal

pub returns-in-15 : goal.returns-in-15
unfolding lookup since known
returns-in-15 c = rw c.in-15.is

pub returns-in-16 : goal.returns-in-16
unfolding lookup since known
returns-in-16 c = rw c.in-16.is

pub returns-in-17 : goal.returns-in-17
unfolding lookup since known
returns-in-17 c = rw c.in-17.is

pub returns-in-18 : goal.returns-in-18
unfolding lookup since known
returns-in-18 c = rw c.in-18.is

pub returns-in-19 : goal.returns-in-19
unfolding lookup since known
returns-in-19 c = rw c.in-19.is

pub returns-in-20 : goal.returns-in-20
unfolding lookup since known
returns-in-20 c = rw c.in-20.is

pub returns-in_default : goal.returns-in_default
unfolding since known
returns-in_default c = rw ((passed c.args.tag (Unit {0}) since c.in_default.in_default-own.rest).1, known)
