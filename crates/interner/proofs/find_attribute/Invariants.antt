-- `interner::find_attribute` meets its contract: no node from the link on, along the chain, is the text. Assumes nothing.
use Rattle.definition.specs.Building.{attribute_text}
use Rattle.definition.specs.Numbering.{attribute_name}
use Rattle.store.specs.Store.{size, store}
use Rattle.store.specs.Regions.{NODE-HEADS}
use Rattle.interner.specs.Nodes.{hash_bytes}
use Rattle.interner.proofs.Finding.{Looking}
use Rattle.interner.proofs.find_attribute.Given as goal

abbrev pub invariant-loop-k : goal.invariant-loop-k
invariant-loop-k l = Looking (size l.p NODE-HEADS) l.job (store l.p l.w) attribute_text (hash_bytes 1 attribute_name) l.link

abbrev pub decreases-loop-k : goal.decreases-loop-k
decreases-loop-k l = l.link
