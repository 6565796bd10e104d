-- `rows::row_node` meets its contract. An inline row has the index, or the next raw one is for it. Assumes nothing.
use native.Mathlib.Omega.{arith}
use mathlib.Core.Path.{sym, ◌∙◌}
use Rattle.store.specs.Regions.{INDEXES}
use Rattle.store.specs.Store.{store}
use Rattle.store.proofs.Stores.{length-store}
use Rattle.rows.specs.Rowed.{inline_count}
use Rattle.rows.proofs.Ending.{node_inside, node_inline, node_below, node_raw}
use Rattle.rows.proofs.Reading.{eq_some, ne_some}
use Rattle.rows.proofs.Listing.{few_room}
use Rattle.rows.proofs.row_node.Goals as goal

pub load-requires : goal.load-requires
load-requires c = let a = c.args in let q = c.requires in let t = store a.p.now a.w.now in (q.0, omega (arith, node_inside a.p.now t q.3 a.index a.inline a.raws q.5 q.6 q.7 c.inline_index.result c.inline_index.ensures (eq_some c.inline_index.result a.index (sym c.eq.ensures ∙ c.if-eq.true)), few_room (t INDEXES) (inline_count t) q.4.inlined.few, length-store a.p.now a.w.now INDEXES, q.1.inline))

pub returns-then-eq : goal.returns-then-eq
returns-then-eq c = let a = c.args in let q = c.requires in node_inline a.p.now (store a.p.now a.w.now) q.3 a.index a.inline a.raws q.5 q.6 q.7 c.inline_index.result c.inline_index.ensures (eq_some c.inline_index.result a.index (sym c.eq.ensures ∙ c.if-eq.true)) c.load.result c.load.ensures.word q.4

pub raw_row-requires : goal.raw_row-requires
raw_row-requires c = let a = c.args in let q = c.requires in (q.0, q.1, q.3, node_below a.p.now (store a.p.now a.w.now) q.3 a.index a.inline a.raws q.5 q.6 q.7 c.inline_index.result c.inline_index.ensures (ne_some c.inline_index.result a.index (sym c.eq.ensures ∙ c.if-eq.false)))

pub returns : goal.returns
returns c = let a = c.args in let q = c.requires in (node_raw a.p.now (store a.p.now a.w.now) q.3 a.index a.inline a.raws q.5 q.6 q.7 c.inline_index.result c.inline_index.ensures (ne_some c.inline_index.result a.index (sym c.eq.ensures ∙ c.if-eq.false)) c.raw_row.result c.raw_row.ensures.0, c.raw_row.ensures.1)
