-- `folding::fold` meets its contract. Assumes nothing.
use Rattle.std.specs.Prelude.{Some}
use Rattle.folding.proofs.Folds.{read_low, leaf_read, folds_none, first_reads, second_reads, opening_leaf, opening_sign, opening_neither, leaf_arm, neither_arm, first_arm, second-arm, mixed_arm, join_arm}
use Rattle.folding.specs.Folding.{kind_of, sign_of}
use lib.ListN.{get_or}
use native.Mathlib.Omega.{arith}
use mathlib.Core.Path.{ap, ◌∙◌}
use Prim.Native.Nat.{◌-◌}
use Rattle.folding.proofs.+fold.Goals as goal

pub returns-then-deep-eq0 : goal.returns-then-deep-eq0
returns-then-deep-eq0 t c = rw c.if-deep-eq0.true (folds_none c.args.job.now c.args.at 0)

pub bounds-job-at : goal.bounds-job-at
bounds-job-at t c = let h = c.requires in read_low c.args.job.now c.args.at h.fuel h.what h.rest h.read

pub returns-in_err-kind : goal.returns-in_err-kind
returns-in_err-kind t c =
    let s = c.args.job.now in
    let at = c.args.at in
    let o = opening_neither _ (get_or s at 0) c.opens_of.ensures c.in_err-kind.was in
    rw c.from_residual.ensures (neither_arm s at c.args.deep c.if-deep-eq0.false o)

pub overflow_add-at : goal.overflow_add-at
overflow_add-at t c = let h = c.requires in omega (arith, read_low c.args.job.now c.args.at h.fuel h.what h.rest h.read)

pub leaf_at-requires : goal.leaf_at-requires
leaf_at-requires t c =
    let s = c.args.job.now in
    let at = c.args.at in
    let h = c.requires in
    let o = opening_leaf _ (get_or s at 0) c.opens_of.ensures c.in-Leaf.kind (c.in_ok-kind.was ∙ ap Some c.in-Leaf.is) in
    (leaf_read s at (kind_of c.in-Leaf.kind) o h.fuel h.what h.rest h.read).0

pub overflow_add-result : goal.overflow_add-result
overflow_add-result t c = let h = c.requires in omega (arith, read_low c.args.job.now c.args.at h.fuel h.what h.rest h.read)

pub overflow_add-result-in-Leaf : goal.overflow_add-result-in-Leaf
overflow_add-result-in-Leaf t c =
    let s = c.args.job.now in
    let at = c.args.at in
    let h = c.requires in
    let o = opening_leaf _ (get_or s at 0) c.opens_of.ensures c.in-Leaf.kind (c.in_ok-kind.was ∙ ap Some c.in-Leaf.is) in
    let room = (leaf_read s at (kind_of c.in-Leaf.kind) o h.fuel h.what h.rest h.read).0 in
    omega (arith, room, c.size_of.ensures)

pub overflow_add-at-in-Parts : goal.overflow_add-at-in-Parts
overflow_add-at-in-Parts t c = let h = c.requires in omega (arith, read_low c.args.job.now c.args.at h.fuel h.what h.rest h.read)

pub fold-requires : goal.fold-requires
fold-requires t c =
    let s = c.args.job.now in
    let at = c.args.at in
    let o = opening_sign _ (get_or s at 0) c.opens_of.ensures c.in-Parts.sign (c.in_ok-kind.was ∙ ap Some c.in-Parts.is) in
    (omega arith, first_reads s at (c.args.deep - 1) (sign_of c.in-Parts.sign) o c.requires)

pub returns-in_err-v-in-Parts : goal.returns-in_err-v-in-Parts
returns-in_err-v-in-Parts t c =
    let s = c.args.job.now in
    let at = c.args.at in
    let o = opening_sign _ (get_or s at 0) c.opens_of.ensures c.in-Parts.sign (c.in_ok-kind.was ∙ ap Some c.in-Parts.is) in
    rw c.from_residual-in_err-v-in-Parts.ensures
    (first_arm s at c.args.deep c.if-deep-eq0.false (sign_of c.in-Parts.sign) o c.in_err-v-in-Parts.ensures)

pub fold-requires-in-Parts : goal.fold-requires-in-Parts
fold-requires-in-Parts t c =
    let s = c.args.job.now in
    let at = c.args.at in
    let o = opening_sign _ (get_or s at 0) c.opens_of.ensures c.in-Parts.sign (c.in_ok-kind.was ∙ ap Some c.in-Parts.is) in
    (omega arith, second_reads s at (c.args.deep - 1) (sign_of c.in-Parts.sign) o c.in_ok-v-in-Parts.v c.in_ok-v-in-Parts.ensures c.requires)

pub returns-in_err-w-in-Parts : goal.returns-in_err-w-in-Parts
returns-in_err-w-in-Parts t c =
    let s = c.args.job.now in
    let at = c.args.at in
    let o = opening_sign _ (get_or s at 0) c.opens_of.ensures c.in-Parts.sign (c.in_ok-kind.was ∙ ap Some c.in-Parts.is) in
    rw c.from_residual-in_err-w-in-Parts.ensures
    (second-arm s at c.args.deep c.if-deep-eq0.false (sign_of c.in-Parts.sign) o c.in_ok-v-in-Parts.v c.in_ok-v-in-Parts.ensures c.in_err-w-in-Parts.ensures)

pub returns-in_err-combine-in-Parts : goal.returns-in_err-combine-in-Parts
returns-in_err-combine-in-Parts t c =
    let s = c.args.job.now in
    let at = c.args.at in
    let o = opening_sign _ (get_or s at 0) c.opens_of.ensures c.in-Parts.sign (c.in_ok-kind.was ∙ ap Some c.in-Parts.is) in
    rw c.from_residual-in_err-combine-in-Parts.ensures
    (mixed_arm s at c.args.deep c.if-deep-eq0.false (sign_of c.in-Parts.sign) o c.in_ok-v-in-Parts.v c.in_ok-v-in-Parts.ensures c.in_ok-w-in-Parts.w c.in_ok-w-in-Parts.ensures c.in_err-combine-in-Parts.ensures)

pub returns-in-Leaf : goal.returns-in-Leaf
returns-in-Leaf t c =
    let s = c.args.job.now in
    let at = c.args.at in
    let o = opening_leaf _ (get_or s at 0) c.opens_of.ensures c.in-Leaf.kind (c.in_ok-kind.was ∙ ap Some c.in-Leaf.is) in
    leaf_arm s at c.args.deep c.if-deep-eq0.false (kind_of c.in-Leaf.kind) o c.leaf_at.result c.leaf_at.ensures c.size_of.result c.size_of.ensures

pub returns-in_ok-combine-in-Parts : goal.returns-in_ok-combine-in-Parts
returns-in_ok-combine-in-Parts t c =
    let s = c.args.job.now in
    let at = c.args.at in
    let o = opening_sign _ (get_or s at 0) c.opens_of.ensures c.in-Parts.sign (c.in_ok-kind.was ∙ ap Some c.in-Parts.is) in
    join_arm s at c.args.deep c.if-deep-eq0.false (sign_of c.in-Parts.sign) o c.in_ok-v-in-Parts.v c.in_ok-v-in-Parts.ensures c.in_ok-w-in-Parts.w c.in_ok-w-in-Parts.ensures c.in_ok-combine-in-Parts.field-0 c.in_ok-combine-in-Parts.ensures
