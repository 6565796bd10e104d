-- `output::raw_content` meets its contract. Assumes nothing.
use mathlib.Core.Path.{sym, ap, ◌∙◌, ◌≡◌}
use Prim.Native.Nat.{◌-◌}
use mathlib.Core.Logic.{⊎_elim}
use native.Mathlib.Omega.{arith}
use lib.ListN.{get_or}
use Rattle.store.specs.Regions.{MARKS}
use Rattle.store.specs.Store.{store}
use Rattle.output.specs.declared.Content.TheVariants as content
use Rattle.output.proofs.Holding.{raw_half, raw_node_lem}
use Rattle.output.proofs.raw_content.Goals as goal

pub returns-then-e-eq-HALF : goal.returns-then-e-eq-HALF
returns-then-e-eq-HALF c = let a = c.args in sym (raw_half (store a.p.now a.w.now MARKS) a.e c.if-e-eq-HALF.true)

pub node_of-requires : goal.node_of-requires
node_of-requires c = ⊎_elim (λ h. absurd (c.if-e-eq-HALF.false h)) (λ h. (c.requires.0, h.0, h.1)) c.requires.1

pub returns : goal.returns
returns c = let a = c.args in let marks = store a.p.now a.w.now MARKS in let k : c.node_of.result ≡ get_or marks a.e 0 - 2 = omega (arith, c.node_of.ensures) in ap content.Node k ∙ sym (raw_node_lem marks a.e c.if-e-eq-HALF.false)
