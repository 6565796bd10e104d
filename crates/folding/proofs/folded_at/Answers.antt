-- `folding::folded_at` meets its contract. Assumes nothing.
use Rattle.refusal.specs.Numbers.{number, answer_of}
use Rattle.refusal.specs.declared.Refusal.TheVariants.{BadExpression, DividesByZero}
use Rattle.std.specs.Prelude.{Some, Err}
use Rattle.std.proofs.Common.{rules}
use Rattle.folding.proofs.Constants.{refused_kind, refused_zero, worked_out_lem, lone_leaf_lem, missing, there, tag_number}
use Rattle.folding.proofs.Folds.{read_low, leaf_read, sign_read, neither_read, opening_leaf, opening_sign, opening_neither}
use Rattle.folding.specs.Folding.{kind_of, sign_of, bits_at, Folds}
use lib.ListN.{get_or}
use Prim.Native.Nat.{◌+◌}
use native.Mathlib.Omega.{arith}
use mathlib.Core.Path.{◌≡◌, sym, ap, ◌∙◌, subst}
use Rattle.folding.proofs.folded_at.Goals as goal

pub returns-in_err-value : goal.returns-in_err-value
unfolding answer_of number
returns-in_err-value c fuel e rest read =
    let m = missing c.fold.result BadExpression c.in_err-value.field-0.0 (sym c.ok_or.ensures.value ∙ c.in_err-value.was) in
    let r : c.from_residual.result ≡ Err c.in_err-value.field-0.0 = search rules in
    ap answer_of (r ∙ ap Err m.1) ∙ refused_kind e (subst (λ r. Folds c.args.job.now c.args.at 32 r) m.0 c.fold.ensures fuel e rest read)

pub returns-in_err-bits : goal.returns-in_err-bits
unfolding answer_of number
returns-in_err-bits c fuel e rest read =
    let k = there c.fold.result BadExpression c.in_ok-value.field-0 (sym c.ok_or.ensures.value ∙ c.in_ok-value.was) in
    let m = missing c.bits_of.result DividesByZero c.in_err-bits.field-0.0 (sym c.ok_or-2.ensures.value ∙ c.in_err-bits.was) in
    let r : c.from_residual-in_err-bits.result ≡ Err c.in_err-bits.field-0.0 = search rules in
    let f = subst (λ r. Folds c.args.job.now c.args.at 32 r) k c.fold.ensures fuel e rest read in
    ap answer_of (r ∙ ap Err m.1) ∙ refused_zero c.args.job.now e rest c.in_ok-value.field-0 f (sym c.bits_of.ensures ∙ m.0)

pub returns-in_err-kind : goal.returns-in_err-kind
returns-in_err-kind c fuel e rest read =
    let m = missing c.opens_of.result BadExpression c.in_err-kind.field-0.0 (sym c.ok_or-3.ensures.value ∙ c.in_err-kind.was) in
    neither_read c.args.job.now c.args.at fuel e rest (opening_neither _ (get_or c.args.job.now c.args.at 0) c.opens_of.ensures m.0) read

pub bounds-job-at : goal.bounds-job-at
bounds-job-at c = let h = c.requires in read_low _ _ h.fuel h.what h.rest h.read

pub overflow_add-at : goal.overflow_add-at
overflow_add-at c = let h = c.requires in omega (arith, read_low c.args.job.now c.args.at h.fuel h.what h.rest h.read)

pub bits_at-requires : goal.bits_at-requires
bits_at-requires c =
    let s = c.args.job.now in
    let at = c.args.at in
    let h = c.requires in
    let k = there c.opens_of.result BadExpression c.in_ok-kind.field-0 (sym c.ok_or-3.ensures.value ∙ c.in_ok-kind.was) in
    let o = opening_leaf _ (get_or s at 0) c.opens_of.ensures c.in-Leaf.kind (k ∙ ap Some c.in-Leaf.is) in
    (leaf_read s at (kind_of c.in-Leaf.kind) o h.fuel h.what h.rest h.read).0

pub returns-in-Leaf : goal.returns-in-Leaf
unfolding answer_of
returns-in-Leaf c fuel e rest read =
    let s = c.args.job.now in
    let at = c.args.at in
    let k = there c.opens_of.result BadExpression c.in_ok-kind.field-0 (sym c.ok_or-3.ensures.value ∙ c.in_ok-kind.was) in
    let o = opening_leaf _ (get_or s at 0) c.opens_of.ensures c.in-Leaf.kind (k ∙ ap Some c.in-Leaf.is) in
    let kind = kind_of c.in-Leaf.kind in
    rw (tag_number c.in-Leaf.kind, c.bits_at.ensures) (lone_leaf_lem kind (bits_at kind s (at + 1)) e (leaf_read s at kind o fuel e rest read).1)

pub returns-in-Parts : goal.returns-in-Parts
unfolding answer_of
returns-in-Parts c fuel e rest read =
    let s = c.args.job.now in
    let at = c.args.at in
    let k = there c.opens_of.result BadExpression c.in_ok-kind.field-0 (sym c.ok_or-3.ensures.value ∙ c.in_ok-kind.was) in
    let o = opening_sign _ (get_or s at 0) c.opens_of.ensures c.in-Parts.field-0 (k ∙ ap Some c.in-Parts.is) in
    let l = there c.fold.result BadExpression c.in_ok-value.field-0 (sym c.ok_or.ensures.value ∙ c.in_ok-value.was) in
    let b = there c.bits_of.result DividesByZero c.in_ok-bits.bits (sym c.ok_or-2.ensures.value ∙ c.in_ok-bits.was) in
    let f = subst (λ r. Folds s at 32 r) l c.fold.ensures fuel e rest read in
    let g = sign_of c.in-Parts.field-0 in
    let q = sign_read s at g o fuel e rest read in
    rw (tag_number c.number_of.result, c.number_of.ensures)
    (worked_out_lem s e rest c.in_ok-value.field-0 f c.in_ok-bits.bits (sym c.bits_of.ensures ∙ b) g q.left q.right q.is)
