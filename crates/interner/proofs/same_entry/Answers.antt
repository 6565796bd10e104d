-- `interner::same_entry` meets its contract: it compares all that nodes are told apart by, with literals only where there are no references,
-- and kind bytes only where there are. Assumes nothing.
use Rattle.interner.proofs.Reading.{places, stands, words_at, kids_fit, kids_fit_too, tags_differ, sizes_differ, bytes-differ, by_literals, by_children}
use Rattle.store.specs.Store.{store}
use Rattle.interner.proofs.same_entry.Goals as goal

pub load-at-requires : goal.load-at-requires
load-at-requires c = let a = c.args in let q = c.requires in (q.0, (places a.job.now a.p.now q.1 a.a q.3).offsets)

pub load-other-requires : goal.load-other-requires
load-other-requires c = let a = c.args in let q = c.requires in (q.0, (places a.job.now a.p.now q.1 a.b q.4).offsets)

pub tag_at-requires : goal.tag_at-requires
tag_at-requires c = let a = c.args in let q = c.requires in stands a.job.now (store a.p.now a.w.now) a.a q.2 q.3 c.load-at.result c.load-at.ensures.word

pub tag_at-requires-2 : goal.tag_at-requires-2
tag_at-requires-2 c = let a = c.args in let q = c.requires in stands a.job.now (store a.p.now a.w.now) a.b q.2 q.4 c.load-other.result c.load-other.ensures.word

pub returns-then-tag_at : goal.returns-then-tag_at
returns-then-tag_at c = let a = c.args in let q = c.requires in tags_differ a.job.now (store a.p.now a.w.now) a.a a.b q.2 q.3 q.4 c.load-at.result c.load-other.result c.load-at.ensures.word c.load-other.ensures.word c.tag_at.result c.tag_at-2.result c.tag_at.ensures c.tag_at-2.ensures c.if-tag_at.true

pub load-n-requires : goal.load-n-requires
load-n-requires c = let a = c.args in let q = c.requires in (q.0, (places a.job.now a.p.now q.1 a.a q.3).sizes)

pub load-requires : goal.load-requires
load-requires c = let a = c.args in let q = c.requires in (q.0, (places a.job.now a.p.now q.1 a.b q.4).sizes)

pub returns-then-load-n : goal.returns-then-load-n
returns-then-load-n c = let a = c.args in let q = c.requires in sizes_differ a.job.now (store a.p.now a.w.now) a.a a.b q.2 q.3 q.4 c.load-at.result c.load-other.result c.load-at.ensures.word c.load-other.ensures.word c.load.result c.load-n.result c.load-n.ensures.word c.load.ensures.word c.if-load-n.true

pub same_literal-requires : goal.same_literal-requires
same_literal-requires c = let a = c.args in let q = c.requires in let t = store a.p.now a.w.now in let l = c.load-at in let m = c.load-other in (q.0, q.1, stands a.job.now t a.a q.2 q.3 l.result l.ensures.word, stands a.job.now t a.b q.2 q.4 m.result m.ensures.word, words_at a.job.now t a.a q.2 q.3 l.result l.ensures.word, words_at a.job.now t a.b q.2 q.4 m.result m.ensures.word)

pub returns-then-n-eq0 : goal.returns-then-n-eq0
returns-then-n-eq0 c = let a = c.args in let q = c.requires in by_literals a.job.now (store a.p.now a.w.now) a.a a.b q.2 q.3 q.4 c.load-at.result c.load-other.result c.load-at.ensures.word c.load-other.ensures.word c.tag_at.result c.tag_at-2.result c.load.result c.load-n.result c.tag_at.ensures c.tag_at-2.ensures c.if-tag_at.false c.load-n.ensures.word c.load.ensures.word c.if-load-n.false c.if-n-eq0.true c.same_literal.result c.same_literal.ensures

pub kind_byte-requires : goal.kind_byte-requires
kind_byte-requires c = let a = c.args in let q = c.requires in stands a.job.now (store a.p.now a.w.now) a.a q.2 q.3 c.load-at.result c.load-at.ensures.word

pub kind_byte-requires-2 : goal.kind_byte-requires-2
kind_byte-requires-2 c = let a = c.args in let q = c.requires in stands a.job.now (store a.p.now a.w.now) a.b q.2 q.4 c.load-other.result c.load-other.ensures.word

pub returns-then-kind_byte : goal.returns-then-kind_byte
returns-then-kind_byte c = let a = c.args in let q = c.requires in bytes-differ a.job.now (store a.p.now a.w.now) a.a a.b q.2 q.3 q.4 c.load-at.result c.load-other.result c.load-at.ensures.word c.load-other.ensures.word c.kind_byte.result c.kind_byte-2.result c.kind_byte.ensures c.kind_byte-2.ensures c.if-kind_byte.true

pub load-requires-2 : goal.load-requires-2
load-requires-2 c = let a = c.args in let q = c.requires in (q.0, (places a.job.now a.p.now q.1 a.a q.3).firsts)

pub load-requires-3 : goal.load-requires-3
load-requires-3 c = let a = c.args in let q = c.requires in (q.0, (places a.job.now a.p.now q.1 a.b q.4).firsts)

pub same_children-requires : goal.same_children-requires
same_children-requires c = let a = c.args in let q = c.requires in (q.0, kids_fit a.job.now (store a.p.now a.w.now) a.a q.2 q.3 a.p.now q.1 c.load-2.result c.load-n.result c.load-2.ensures.word c.load-n.ensures.word, kids_fit_too a.job.now (store a.p.now a.w.now) a.b q.2 q.4 a.p.now q.1 c.load-3.result c.load.result c.load-n.result c.load-3.ensures.word c.load.ensures.word c.if-load-n.false)

pub returns : goal.returns
returns c = let a = c.args in let q = c.requires in by_children a.job.now (store a.p.now a.w.now) a.a a.b q.2 q.3 q.4 c.load-at.result c.load-other.result c.load-at.ensures.word c.load-other.ensures.word c.tag_at.result c.tag_at-2.result c.load.result c.load-n.result c.tag_at.ensures c.tag_at-2.ensures c.if-tag_at.false c.load-n.ensures.word c.load.ensures.word c.if-load-n.false c.if-n-eq0.false c.kind_byte.result c.kind_byte-2.result c.kind_byte.ensures c.kind_byte-2.ensures c.if-kind_byte.false c.load-2.result c.load-3.result c.load-2.ensures.word c.load-3.ensures.word c.same_children.result c.same_children.ensures
