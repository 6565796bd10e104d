-- `interner::find_node` meets its contract: no node from the link on, along the chain, is what the entry would be. Assumes nothing.
use Rattle.interner.proofs.Finding.{entry_keyed, looking_start, looking_low, looking_on, looking_less}
use Rattle.interner.proofs.Reading.{places, node_heads}
use Rattle.store.proofs.Stores.{length-store}
use Rattle.store.specs.Regions.{NODE-HEADS}
use Rattle.store.specs.Store.{size, store}
use Rattle.interner.specs.Nodes.{node_in_lem, hash_in}
use Rattle.interner.proofs.find_node.Goals as goal

pub first_link-link-requires : goal.first_link-link-requires
first_link-link-requires c = let a = c.args in let q = c.requires in (q.0, node_heads a.job.now a.p.now q.1, q.6)

pub loop-k-init : goal.loop-k-init
loop-k-init c = let a = c.args in let q = c.requires in looking_start (size a.p.now NODE-HEADS) a.job.now (store a.p.now a.w.now) (node_in_lem a.job.now (store a.p.now a.w.now) a.e) (hash_in a.job.now (store a.p.now a.w.now) a.e) q.3 (entry_keyed (size a.p.now NODE-HEADS) a.job.now (store a.p.now a.w.now) a.e q.2 q.4 q.3) a.hash c.first_link-link.result (length-store a.p.now a.w.now NODE-HEADS) (node_heads a.job.now a.p.now q.1).two q.5 c.first_link-link.ensures

pub load-requires : goal.load-requires
load-requires c = let a = c.args in let q = c.requires in let l = c.loop-k in (q.0, (places a.job.now a.p.now q.1 _ (looking_low (size a.p.now NODE-HEADS) a.job.now (store a.p.now a.w.now) (node_in_lem a.job.now (store a.p.now a.w.now) a.e) (hash_in a.job.now (store a.p.now a.w.now) a.e) q.3 (entry_keyed (size a.p.now NODE-HEADS) a.job.now (store a.p.now a.w.now) a.e q.2 q.4 q.3) l.link c.in-Some.k c.in-Some.ensures l.invariant)).nodes)

pub load-link-requires : goal.load-link-requires
load-link-requires c = let a = c.args in let q = c.requires in let l = c.loop-k in (q.0, (places a.job.now a.p.now q.1 _ (looking_low (size a.p.now NODE-HEADS) a.job.now (store a.p.now a.w.now) (node_in_lem a.job.now (store a.p.now a.w.now) a.e) (hash_in a.job.now (store a.p.now a.w.now) a.e) q.3 (entry_keyed (size a.p.now NODE-HEADS) a.job.now (store a.p.now a.w.now) a.e q.2 q.4 q.3) l.link c.in-Some.k c.in-Some.ensures l.invariant)).links)

pub loop-k-smaller : goal.loop-k-smaller
loop-k-smaller c = let a = c.args in let q = c.requires in let l = c.loop-k in looking_less (size a.p.now NODE-HEADS) a.job.now (store a.p.now a.w.now) (node_in_lem a.job.now (store a.p.now a.w.now) a.e) (hash_in a.job.now (store a.p.now a.w.now) a.e) q.3 (entry_keyed (size a.p.now NODE-HEADS) a.job.now (store a.p.now a.w.now) a.e q.2 q.4 q.3) l.link c.in-Some.k c.in-Some.ensures l.invariant c.load.result c.load.ensures.word c.same_entry.result c.same_entry.ensures c.if-same_entry.false c.load-link.result c.load-link.ensures.word

pub loop-k-preserved : goal.loop-k-preserved
loop-k-preserved c = let a = c.args in let q = c.requires in let l = c.loop-k in looking_on (size a.p.now NODE-HEADS) a.job.now (store a.p.now a.w.now) (node_in_lem a.job.now (store a.p.now a.w.now) a.e) (hash_in a.job.now (store a.p.now a.w.now) a.e) q.3 (entry_keyed (size a.p.now NODE-HEADS) a.job.now (store a.p.now a.w.now) a.e q.2 q.4 q.3) l.link c.in-Some.k c.in-Some.ensures l.invariant c.load.result c.load.ensures.word c.same_entry.result c.same_entry.ensures c.if-same_entry.false c.load-link.result c.load-link.ensures.word
