-- `definitions::begin` meets its contract. Assumes nothing.
use mathlib.Core.Path.{refl, ◌∙◌}
use Rattle.std.proofs.lemmas.Result.{err_from_is_err_and}
use Rattle.refusal.specs.Numbers.{code_of}
use Rattle.definitions.proofs.Stepped.{number_above}
use Rattle.store.proofs.Stores.{length-store}
use Rattle.store.proofs.Starting.{start_asks, start_leaves}
use Rattle.definitions.proofs.Handing.{fresh_still}
use Rattle.definitions.proofs.Beginning.{start_zeros, counted, on_kept, begun_refused, begun_fifty}
use Rattle.definitions.proofs.begin.Goals as goal

pub start-requires : goal.start-requires
start-requires c = let a = c.args in let q = c.requires in start_asks a.job.now a.c q.0 q.1 a.p.now a.w.now q.2 q.3

pub define_all-requires : goal.define_all-requires
define_all-requires c = let a = c.args in let q = c.requires in let l = start_leaves a.job.now a.c q.0 q.1 _ _ _ c.start.ensures in (l.1, l.0, start_zeros a.c _ _ _ _ c.start.ensures, counted a.job.now a.c q.1, q.4)

pub returns-in_err-define_all : goal.returns-in_err-define_all
unfolding code_of
returns-in_err-define_all c = let a = c.args in let q = c.requires in let l = start_leaves a.job.now a.c q.0 q.1 _ _ _ c.start.ensures in let r = err_from_is_err_and c.from_residual.result c.from_residual.ensures.1 in
    rw (r.1, r.2) (begun_refused _ _ a.top a.job.now _ _ (l.0, on_kept _ c.start.new.w c.define_all.new.w c.define_all.auto.w l.1) _ (number_above c.in_err-define_all.field-0.0) c.in_err-define_all.ensures)

pub end_definitions-requires : goal.end_definitions-requires
unfolding code_of
end_definitions-requires c = let a = c.args in let q = c.requires in let l = start_leaves a.job.now a.c q.0 q.1 _ _ _ c.start.ensures in let g = c.in_ok-define_all.ensures in (on_kept _ c.start.new.w c.define_all.new.w c.define_all.auto.w l.1, l.0, (a.top, (g.through refl).0.0, (g.through refl).0.1), fresh_still _ a.top a.job.now _ _ _ l.0 (start_zeros a.c _ _ _ _ c.start.ensures) g)

pub returns : goal.returns
unfolding code_of
returns c = let a = c.args in let q = c.requires in let l = start_leaves a.job.now a.c q.0 q.1 _ _ _ c.start.ensures in let g = c.in_ok-define_all.ensures in let d = (g.through refl).0 in begun_fifty _ _ a.top a.job.now _ _ (l.0, on_kept _ c.start.new.w c.end_definitions.new.w (c.end_definitions.auto.w ∙ c.define_all.auto.w) l.1) _ d.0 _ _ refl g d.1 (c.end_definitions.ensures a.top d.0 d.1) (start_zeros a.c _ _ _ _ c.start.ensures) (length-store _ c.start.new.w)
