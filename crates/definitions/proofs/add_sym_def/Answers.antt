-- `definitions::add_sym_def` meets its contract. Assumes nothing.
use Rattle.definitions.proofs.Placed.{name_needs, name_found, name_done, name-refused}
use Rattle.store.specs.Store.{store}
use Rattle.std.specs.Prelude.{Ok}
use Rattle.definitions.specs.Defining.{answered}
use Rattle.std.proofs.lemmas.Result.{err_from_is_err_and}
use borrow.Author.Rules.{rules}
use Rattle.definitions.proofs.add_sym_def.Goals as goal

pub add_name-requires : goal.add_name-requires
add_name-requires c = let a = c.args in let h = c.requires in let n = name_needs a.p.now h.2.0 a.job.now (store a.p.now a.w.now) a.at h.2.1 h.1 (λ i. (c.type_inv.job i).fits) h.3.0 h.3.1 in (search rules, h.1, n.0, n.1)

pub returns-in_err-add_name : goal.returns-in_err-add_name
returns-in_err-add_name c = let a = c.args in let h = c.requires in let r = err_from_is_err_and c.from_residual.result c.from_residual.ensures.1 in
    λ top place. rw (r.1, r.2) (name-refused a.p.now top a.job.now (store a.p.now a.w.now) a.at place h.1 (λ i. (c.type_inv.job i).fits) h.3.0 h.3.1 _ c.add_name.result c.add_name.ensures c.in_err-add_name.field-0.0 c.in_err-add_name.was)

pub after_naming-requires : goal.after_naming-requires
after_naming-requires c = let a = c.args in let h = c.requires in name_found a.p.now h.2.0 a.job.now (store a.p.now a.w.now) a.at h.2.1 h.1 (λ i. (c.type_inv.job i).fits) h.3.0 h.3.1

pub returns : goal.returns
unfolding answered
returns c = let a = c.args in let h = c.requires in
    λ top place. name_done a.p.now top a.job.now (store a.p.now a.w.now) a.at place h.1 (λ i. (c.type_inv.job i).fits) h.3.0 h.3.1 _ c.add_name.result c.add_name.ensures c.after_naming.result (Ok c.after_naming.result) c.after_naming.ensures (rw c.in_ok-add_name.was)
