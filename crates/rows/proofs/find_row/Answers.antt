-- `rows::find_row` meets its contract. No row from the link on, along the chain, is the one sought. Assumes nothing.
use native.Mathlib.Omega.{arith}
use Rattle.store.specs.Regions.{INDEXES, ROW-HEADS}
use Rattle.store.specs.Store.{store}
use Rattle.store.proofs.Stores.{length-store}
use Rattle.rows.proofs.Finding.{looking_start, looking_low, looking_node, looking-found, looking_on, looking_less}
use Rattle.rows.proofs.find_row.Goals as goal

pub loop-i-init : goal.loop-i-init
loop-i-init c = let a = c.args in let q = c.requires in looking_start a.p.now (store a.p.now a.w.now) a.k q.3 a.hash c.first_link-link.result (length-store a.p.now a.w.now ROW-HEADS) q.1.heads.two q.5 c.first_link-link.ensures

pub load-requires : goal.load-requires
load-requires c = let a = c.args in let q = c.requires in (q.0, omega (arith, looking_low a.p.now (store a.p.now a.w.now) a.k q.3 c.loop-i.link c.in-Some.i c.in-Some.ensures c.loop-i.invariant (length-store a.p.now a.w.now INDEXES), q.1.inline))

pub same_row-requires : goal.same_row-requires
same_row-requires c = let a = c.args in let q = c.requires in (q.0, q.1, q.2, q.4, looking_node a.p.now (store a.p.now a.w.now) a.k q.3 c.loop-i.link c.in-Some.i c.in-Some.ensures c.loop-i.invariant c.load.result c.load.ensures.word)

pub returns-then-same_row : goal.returns-then-same_row
returns-then-same_row c = let a = c.args in let q = c.requires in looking-found a.p.now (store a.p.now a.w.now) a.k q.3 c.loop-i.link c.in-Some.i c.in-Some.ensures c.loop-i.invariant c.load.result c.load.ensures.word c.same_row.result c.same_row.ensures c.if-same_row.true

pub load-link-requires : goal.load-link-requires
load-link-requires c = let a = c.args in let q = c.requires in (q.0, omega (arith, looking_low a.p.now (store a.p.now a.w.now) a.k q.3 c.loop-i.link c.in-Some.i c.in-Some.ensures c.loop-i.invariant (length-store a.p.now a.w.now INDEXES), q.1.links))

pub loop-i-smaller : goal.loop-i-smaller
loop-i-smaller c = let a = c.args in let q = c.requires in looking_less a.p.now (store a.p.now a.w.now) a.k q.3 c.loop-i.link c.in-Some.i c.in-Some.ensures c.loop-i.invariant c.load.result c.load.ensures.word c.same_row.result c.same_row.ensures c.if-same_row.false c.load-link.result c.load-link.ensures.word

pub loop-i-preserved : goal.loop-i-preserved
loop-i-preserved c = let a = c.args in let q = c.requires in looking_on a.p.now (store a.p.now a.w.now) a.k q.3 c.loop-i.link c.in-Some.i c.in-Some.ensures c.loop-i.invariant c.load.result c.load.ensures.word c.same_row.result c.same_row.ensures c.if-same_row.false c.load-link.result c.load-link.ensures.word
