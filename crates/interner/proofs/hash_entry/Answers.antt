-- `interner::hash_entry` meets its contract: what it reads of the entry is what the hash goes by. Assumes nothing.
use Rattle.interner.proofs.Reading.{places, stands, words_at, kids_fit, hashed_literal, hashed_children}
use Rattle.store.specs.Store.{store}
use native.Mathlib.Omega.{arith}
use Rattle.interner.proofs.hash_entry.Goals as goal

pub load-at-requires : goal.load-at-requires
load-at-requires c = let a = c.args in let q = c.requires in (q.0, (places a.job.now a.p.now q.1 a.e q.3).offsets)

pub load-n-requires : goal.load-n-requires
load-n-requires c = let a = c.args in let q = c.requires in (q.0, (places a.job.now a.p.now q.1 a.e q.3).sizes)

pub hash_literal-requires : goal.hash_literal-requires
hash_literal-requires c = let a = c.args in let q = c.requires in let t = store a.p.now a.w.now in let l = c.load-at in (q.0, q.1, stands a.job.now t a.e q.2 q.3 l.result l.ensures.word, words_at a.job.now t a.e q.2 q.3 l.result l.ensures.word)

pub returns-then-n-eq0 : goal.returns-then-n-eq0
returns-then-n-eq0 c = let a = c.args in let q = c.requires in (hashed_literal a.job.now (store a.p.now a.w.now) a.e q.2 q.3 c.load-at.result c.load-at.ensures.word c.hash_literal.result c.load-n.result c.load-n.ensures.word c.if-n-eq0.true c.hash_literal.ensures.0, c.hash_literal.ensures.1)

pub tag_at-requires : goal.tag_at-requires
tag_at-requires c = let a = c.args in let q = c.requires in stands a.job.now (store a.p.now a.w.now) a.e q.2 q.3 c.load-at.result c.load-at.ensures.word

pub kind_byte-requires : goal.kind_byte-requires
kind_byte-requires c = let a = c.args in let q = c.requires in stands a.job.now (store a.p.now a.w.now) a.e q.2 q.3 c.load-at.result c.load-at.ensures.word

pub load-requires : goal.load-requires
load-requires c = let a = c.args in let q = c.requires in (q.0, (places a.job.now a.p.now q.1 a.e q.3).firsts)

pub hash_children-requires : goal.hash_children-requires
hash_children-requires c = let a = c.args in let q = c.requires in (q.0, kids_fit a.job.now (store a.p.now a.w.now) a.e q.2 q.3 a.p.now q.1 c.load.result c.load-n.result c.load.ensures.word c.load-n.ensures.word, omega arith)

pub returns : goal.returns
returns c = let a = c.args in let q = c.requires in (hashed_children a.job.now (store a.p.now a.w.now) a.e q.2 q.3 c.load-at.result c.load-at.ensures.word c.hash_children.result c.load-n.result c.load.result c.tag_at.result c.kind_byte.result c.load-n.ensures.word c.if-n-eq0.false c.load.ensures.word c.tag_at.ensures c.kind_byte.ensures c.hash_children.ensures.0, c.hash_children.ensures.1)
