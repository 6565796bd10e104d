-- `interner::find_node` meets its contract: no node from the link on, along the chain, is what the entry would be. Assumes nothing.
use Rattle.interner.proofs.Finding.{Looking}
use Rattle.store.specs.Regions.{NODE-HEADS}
use Rattle.store.specs.Store.{size, store}
use Rattle.interner.specs.Nodes.{node_in_lem, hash_in}
use Rattle.interner.proofs.find_node.Given as goal

abbrev pub invariant-loop-k : goal.invariant-loop-k
invariant-loop-k l = Looking (size l.p NODE-HEADS) l.job (store l.p l.w) (node_in_lem l.job (store l.p l.w) l.e) (hash_in l.job (store l.p l.w) l.e) l.link

abbrev pub decreases-loop-k : goal.decreases-loop-k
decreases-loop-k l = l.link
