-- `output::RowWalk::node` meets its contract. Assumes nothing.
use mathlib.Core.Path.{sym, ap, ◌∙◌}
use Prim.Native.Nat.{◌<◌}
use native.Mathlib.Omega.{arith}
use lib.ListN.{get_or}
use Rattle.store.specs.Store.{store}
use Rattle.store.specs.Regions.{INDEXES, NODES, INLINE}
use Rattle.output.specs.Rows.{inline_count, inline_index_in, raw_index_in, raw_node_in, passed, constants_for}
use Rattle.output.proofs.Filling.{node_inline, node_raw, inline_below}
use Rattle.output.proofs.Past.{past-same, past-other}
use Rattle.output.proofs.RowWalk.node.Goals as goal

pub load-requires : goal.load-requires
load-requires c = let a = c.args in let q = c.requires in let t = store a.p.now a.w.now in (q.0, omega (arith, q.1.inline_room, inline_below (constants_for a.p.now) (t INDEXES) (t NODES) (t INLINE) (inline_count t) a.self.inline a.index (omega (arith, q.1.few, q.2)) (sym c.inline_index.ensures ∙ past-same c.inline_index.result a.index (sym c.eq.ensures ∙ c.if-eq.true))))

pub returns-then-eq : goal.returns-then-eq
returns-then-eq c = let a = c.args in let q = c.requires in let t = store a.p.now a.w.now in c.load.ensures.word ∙ ap (λ x. get_or (t INLINE) x 0) q.3.inlines ∙ sym (node_inline (inline_index_in (constants_for a.p.now) t (passed (inline_index_in (constants_for a.p.now) t) a.index)) a.index (get_or (t INLINE) (passed (inline_index_in (constants_for a.p.now) t) a.index) 0) (raw_node_in t (passed (raw_index_in t) a.index)) (ap (inline_index_in (constants_for a.p.now) t) (sym q.3.inlines) ∙ sym c.inline_index.ensures ∙ past-same c.inline_index.result a.index (sym c.eq.ensures ∙ c.if-eq.true)))

pub raw_row-requires : goal.raw_row-requires
raw_row-requires c = let a = c.args in let q = c.requires in let t = store a.p.now a.w.now in let low : a.index < 65536 = omega (arith, q.1.few, q.2) in (q.0, q.1, rw q.3.raw_ones (q.1.there a.index q.2 (λ z. past-other c.inline_index.result a.index low (sym c.eq.ensures ∙ c.if-eq.false) (c.inline_index.ensures ∙ ap (inline_index_in (constants_for a.p.now) t) q.3.inlines ∙ z))))

pub returns : goal.returns
returns c = let a = c.args in let q = c.requires in let t = store a.p.now a.w.now in let low : a.index < 65536 = omega (arith, q.1.few, q.2) in c.raw_row.ensures ∙ ap (raw_node_in t) q.3.raw_ones ∙ sym (node_raw (inline_index_in (constants_for a.p.now) t (passed (inline_index_in (constants_for a.p.now) t) a.index)) a.index (get_or (t INLINE) (passed (inline_index_in (constants_for a.p.now) t) a.index) 0) (raw_node_in t (passed (raw_index_in t) a.index)) (λ z. past-other c.inline_index.result a.index low (sym c.eq.ensures ∙ c.if-eq.false) (c.inline_index.ensures ∙ ap (inline_index_in (constants_for a.p.now) t) q.3.inlines ∙ z)))
