-- `output::write_node` meets its contract: a node has children or a literal, and is written from those. Assumes nothing.
use native.Mathlib.Omega.{arith}
use Rattle.store.specs.Store.{store}
use mathlib.Core.Path.{sym, ◌∙◌}
use Rattle.interner.proofs.Words.{stands_inside}
use Rattle.output.proofs.Shown.{literal_bytes_lem}
use Rattle.output.proofs.Working.{worked-words, worked-fits, worked-written}
use Rattle.output.proofs.Showing.{node_places, node_stands, tag_read, literal_read, shown-fits}
use Rattle.output.proofs.write_node.Goals as goal

pub child_count-n-requires : goal.child_count-n-requires
child_count-n-requires c = let a = c.args in let q = c.requires in let z = node_places a.job.now (store a.p.now a.w.now) a.k q.2 q.3 a.p.now q.1 in (q.0, z.node, z.count)

pub write_references-requires : goal.write_references-requires
write_references-requires c = let q = c.requires in (q.0, q.1, q.2, q.3, q.4, c.child_count-n.ensures.word, c.if-n-gt0.true, q.5)

pub returns-then-n-gt0 : goal.returns-then-n-gt0
returns-then-n-gt0 c = c.write_references.ensures

pub node_at-from-requires : goal.node_at-from-requires
node_at-from-requires c = let a = c.args in let q = c.requires in let z = node_places a.job.now (store a.p.now a.w.now) a.k q.2 q.3 a.p.now q.1 in (q.0, z.node, z.offset)

pub is_worked-requires : goal.is_worked-requires
is_worked-requires c = stands_inside c.args.job.now c.node_at-from.result (node_stands c.args.job.now (store c.args.p.now c.args.w.now) c.args.k c.requires.2 c.requires.3 c.node_at-from.result c.node_at-from.ensures.word)

pub write_worked-requires : goal.write_worked-requires
write_worked-requires c = let q = c.requires in let worked = sym c.is_worked.ensures ∙ c.if-is_worked.true in (q.0, q.1, worked-words c.args.job.now (store c.args.p.now c.args.w.now) c.args.k c.requires.2 c.requires.3 c.node_at-from.result c.node_at-from.ensures.word worked, worked, worked-fits c.args.job.now (store c.args.p.now c.args.w.now) c.args.k c.requires.2 c.requires.3 c.node_at-from.result c.node_at-from.ensures.word worked c.args.pool.now c.args.at q.5)

pub returns-then-is_worked : goal.returns-then-is_worked
returns-then-is_worked c = worked-written c.args.job.now (store c.args.p.now c.args.w.now) c.args.k c.requires.2 c.requires.3 c.node_at-from.result c.node_at-from.ensures.word (sym c.is_worked.ensures ∙ c.if-is_worked.true) c.args.pool.now _ c.args.at c.write_worked.result c.write_worked.ensures

pub tag_at-tag-requires : goal.tag_at-tag-requires
tag_at-tag-requires c = let a = c.args in let q = c.requires in node_stands a.job.now (store a.p.now a.w.now) a.k q.2 q.3 c.node_at-from.result c.node_at-from.ensures.word

pub literal_at-s-requires : goal.literal_at-s-requires
literal_at-s-requires c = let a = c.args in let q = c.requires in (node_stands a.job.now (store a.p.now a.w.now) a.k q.2 q.3 c.node_at-from.result c.node_at-from.ensures.word, sym c.is_worked.ensures ∙ c.if-is_worked.false)

pub slice_bounds-entry-count : goal.slice_bounds-entry-count
slice_bounds-entry-count c = let a = c.args in let q = c.requires in let l = literal_read a.job.now (store a.p.now a.w.now) a.k q.2 q.3 c.node_at-from.result c.node_at-from.ensures.word c.literal_at-s.result c.literal_at-s.ensures in omega (arith, l.rising, l.within)

pub slice_bounds-entry-start : goal.slice_bounds-entry-start
slice_bounds-entry-start c = let a = c.args in let q = c.requires in let l = literal_read a.job.now (store a.p.now a.w.now) a.k q.2 q.3 c.node_at-from.result c.node_at-from.ensures.word c.literal_at-s.result c.literal_at-s.ensures in omega (arith, l.rising, l.within)

pub slice_bounds-entry-end : goal.slice_bounds-entry-end
slice_bounds-entry-end c = let a = c.args in let q = c.requires in let l = literal_read a.job.now (store a.p.now a.w.now) a.k q.2 q.3 c.node_at-from.result c.node_at-from.ensures.word c.literal_at-s.result c.literal_at-s.ensures in omega (arith, l.rising, l.within)

pub write_entry-requires : goal.write_entry-requires
write_entry-requires c = let a = c.args in let q = c.requires in let t = store a.p.now a.w.now in let tag = tag_read a.job.now t a.k q.2 q.3 c.node_at-from.result c.node_at-from.ensures.word c.tag_at-tag.result c.tag_at-tag.ensures in let l = literal_read a.job.now t a.k q.2 q.3 c.node_at-from.result c.node_at-from.ensures.word c.literal_at-s.result c.literal_at-s.ensures in record { literal_fits = rw (tag, l.are) (shown-fits a.job.now t a.k q.2 q.3 (λ i. (c.type_inv.job i).fits)); entry_in_bounds = rw (literal_bytes_lem a.job.now a.p.now t a.k q.1 q.2 q.3 c.child_count-n.result c.child_count-n.ensures.word c.if-n-gt0.false c.tag_at-tag.result c.literal_at-s.result tag l) q.5 }

pub returns : goal.returns
returns c = let a = c.args in let q = c.requires in let t = store a.p.now a.w.now in let tag = tag_read a.job.now t a.k q.2 q.3 c.node_at-from.result c.node_at-from.ensures.word c.tag_at-tag.result c.tag_at-tag.ensures in let l = literal_read a.job.now t a.k q.2 q.3 c.node_at-from.result c.node_at-from.ensures.word c.literal_at-s.result c.literal_at-s.ensures in rw (literal_bytes_lem a.job.now a.p.now t a.k q.1 q.2 q.3 c.child_count-n.result c.child_count-n.ensures.word c.if-n-gt0.false c.tag_at-tag.result c.literal_at-s.result tag l) at c.write_entry.ensures
