-- `rows::is_bootstrap` meets its contract. By the two tests. Assumes nothing.
use native.Mathlib.Omega.{arith}
use Rattle.store.specs.Store.{store}
use Rattle.rows.proofs.Numbers.{not-boot, boot_test}
use Rattle.rows.proofs.Reading.{node_place_lem}
use Rattle.rows.proofs.is_bootstrap.Goals as goal

pub returns-then-child-lt-ENTRY : goal.returns-then-child-lt-ENTRY
returns-then-child-lt-ENTRY c = let a = c.args in not-boot a.p.now (store a.p.now a.w.now) a.child c.if-child-lt-ENTRY.true

pub load-requires : goal.load-requires
load-requires c = let a = c.args in let q = c.requires in (q.0, node_place_lem a.p.now (store a.p.now a.w.now) q.1 q.2 _ (omega arith))

pub returns : goal.returns
returns c = let a = c.args in boot_test a.p.now (store a.p.now a.w.now) a.child c.constants.result c.load.result c.if-child-lt-ENTRY.false c.constants.ensures c.load.ensures.word
