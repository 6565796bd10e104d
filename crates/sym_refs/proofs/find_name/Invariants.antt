-- `sym_refs::find_name` meets its contract. The loop walks down the chain of the name's hash. Assumes nothing.
use Rattle.store.specs.Words.{label_at}
use Rattle.store.specs.Regions.{NAME-HEADS}
use Rattle.store.specs.Chains.{head_of}
use Rattle.store.specs.Store.{store, size}
use Rattle.store.proofs.Walking.{Down}
use Rattle.sym_refs.specs.Leading.{Named}
use Rattle.sym_refs.specs.Names.{hash_name, name_count}
use Rattle.sym_refs.proofs.find_name.Given as goal

abbrev pub invariant-loop-i : goal.invariant-loop-i
invariant-loop-i l = Down (λ i. head_of (size l.p NAME-HEADS) (hash_name l.job i)) (Named l.job l.first (label_at l.job l.at)) (head_of (size l.p NAME-HEADS) l.hash) (name_count (store l.p l.w)) l.link

abbrev pub decreases-loop-i : goal.decreases-loop-i
decreases-loop-i l = l.link
