-- `folding::token_at` meets its contract. Assumes nothing.
use Rattle.folding.proofs.Folds.{opening_leaf, opening_sign, opening_neither}
use Rattle.folding.proofs.Parts.{steps-none, steps-cut, steps-leaf, steps-sign, steps-bad}
use Rattle.folding.specs.Folding.{kind_of, sign_of}
use mathlib.Core.Path.{ap, ◌∙◌}
use Rattle.std.specs.Prelude.{Some}
use lib.ListN.{length, get_or}
use Prim.Native.Nat.{◌<◌}
use native.Mathlib.Omega.{arith}
use Rattle.folding.proofs.token_at.Goals as goal

pub returns-then-job-at : goal.returns-then-job-at
returns-then-job-at c = let s = c.args.job.now in
    let at = c.args.at in
    let left = c.args.left in
    let p = c.requires in
    steps-none s at left p.0 p.1 p.2 c.if-job-at.true

pub returns-then-job-from : goal.returns-then-job-from
returns-then-job-from c = let s = c.args.job.now in
    let at = c.args.at in
    let left = c.args.left in
    let p = c.requires in
    let o = opening_leaf c.opens_of.result (get_or s at 0) c.opens_of.ensures c.in-Some-Leaf.kind (c.in-Some-Leaf.is ∙ ap Some c.in-Some-Leaf.field-0-is) in
    let low : at < length s = omega arith in
    steps-cut s at left p.0 p.1 p.2 low (kind_of c.in-Some-Leaf.kind) c.size_of-n.result o c.size_of-n.ensures c.if-job-from.true

pub returns-in-Some-Parts : goal.returns-in-Some-Parts
returns-in-Some-Parts c = let s = c.args.job.now in
    let at = c.args.at in
    let left = c.args.left in
    let p = c.requires in
    let low : at < length s = omega arith in
    steps-sign s at left p.0 p.1 p.2 low (sign_of c.in-Some-Parts.field-0-0) (opening_sign c.opens_of.result (get_or s at 0) c.opens_of.ensures c.in-Some-Parts.field-0-0 (c.in-Some-Parts.is ∙ ap Some c.in-Some-Parts.field-0-is))

pub returns-else-job-from : goal.returns-else-job-from
returns-else-job-from c = let s = c.args.job.now in
    let at = c.args.at in
    let left = c.args.left in
    let p = c.requires in
    let o = opening_leaf c.opens_of.result (get_or s at 0) c.opens_of.ensures c.in-Some-Leaf.kind (c.in-Some-Leaf.is ∙ ap Some c.in-Some-Leaf.field-0-is) in
    let low : at < length s = omega arith in
    steps-leaf s at left p.0 p.1 p.2 low (kind_of c.in-Some-Leaf.kind) c.size_of-n.result o c.size_of-n.ensures c.if-job-from.false

pub returns-in-None : goal.returns-in-None
returns-in-None c = let s = c.args.job.now in
    let at = c.args.at in
    let left = c.args.left in
    let p = c.requires in
    let low : at < length s = omega arith in
    steps-bad s at left p.0 p.1 p.2 low (opening_neither c.opens_of.result (get_or s at 0) c.opens_of.ensures c.in-None.is)
