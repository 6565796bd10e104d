-- `output::given_content` meets its contract. Assumes nothing.
use mathlib.Core.Path.{sym, ap, ◌∙◌}
use Prim.Native.Nat.{◌<◌}
use native.Mathlib.Omega.{arith}
use lib.ListN.{get_or}
use Rattle.store.specs.Regions.{GIVEN}
use Rattle.store.specs.Store.{store}
use Rattle.interner.specs.Nodes.{node_count}
use Rattle.output.specs.Contents.{link_word, link_of}
use Rattle.output.proofs.Holding.{link_node}
use Rattle.output.proofs.Owners.{link_none, link_item}
use Rattle.output.proofs.given_content.Goals as goal

pub find_number-requires : goal.find_number-requires
find_number-requires c = let a = c.args in let q = c.requires in (q.0, q.1.owner_heads, q.3, (node_count (store a.p.now a.w.now), q.1.owners))

pub returns-in-Some : goal.returns-in-Some
returns-in-Some c = let a = c.args in let q = c.requires in let t = store a.p.now a.w.now in let k = c.in-Some.k in sym (link_node a.wide (link_of (t GIVEN) (node_count t) a.slot) k (link_item (t GIVEN) (node_count t) a.slot k (c.in-Some.ensures (node_count t) q.1.owners) (λ i j h l e f. let up : 0 < get_or (t GIVEN) i 0 = omega (arith, e, q.2) in q.1.owner_alone i j h l up (e ∙ sym f))))

pub returns-in-None : goal.returns-in-None
returns-in-None c = let a = c.args in let q = c.requires in let t = store a.p.now a.w.now in c.unowned.ensures ∙ ap (link_word a.wide) (sym (link_none (t GIVEN) (node_count t) a.slot 0 (c.in-None.ensures (node_count t) q.1.owners) (omega arith)))
