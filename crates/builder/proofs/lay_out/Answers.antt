-- `builder::lay_out` meets its contract: each call gets what the one before it left. Assumes nothing.
use mathlib.Core.Path.{refl}
use native.Mathlib.Omega.{arith}
use Rattle.std.proofs.lemmas.Result.{err_from_is_err_and}
use Rattle.refusal.specs.Numbers.{code_of}
use Rattle.definitions.proofs.Stepped.{number_above}
use Rattle.builder.proofs.JoinLaying.{top-few, laid_asked, to_build, laid_built, to_end, laid_named, to_own, laid_all}
use Rattle.builder.proofs.lay_out.Goals as goal

pub ask-requires : goal.ask-requires
ask-requires c = let a = c.args in let q = c.requires in let low = top-few a.job.now a.c q.1 q.0 in (q.0, q.1, q.2, q.3, q.4, omega arith)

pub returns-in_err-ask : goal.returns-in_err-ask
unfolding code_of
returns-in_err-ask c = let k = c.ask in let r = err_from_is_err_and c.from_residual.result c.from_residual.ensures.1 in rw (r.1, r.2) (laid_asked k.new.p k.new.w c.args.job.now k.new.gaps _ c.args.c c.requires.1 c.in_err-ask.ensures (number_above c.in_err-ask.field-0.0))

pub build_all-requires : goal.build_all-requires
unfolding code_of
build_all-requires c = let k = c.ask in to_build k.new.p k.new.w c.args.job.now k.new.gaps _ c.args.c c.requires.1 c.in_ok-ask.ensures refl

pub returns-in_err-build_all : goal.returns-in_err-build_all
unfolding code_of
returns-in_err-build_all c = let k = c.ask in let b = c.build_all in let r = err_from_is_err_and c.from_residual-in_err-build_all.result c.from_residual-in_err-build_all.ensures.1 in rw (r.1, r.2) (laid_built k.new.p k.new.w c.args.job.now k.new.gaps _ c.args.c c.requires.1 c.in_ok-ask.ensures refl b.new.w b.auto.w b.new.gaps _ c.in_err-build_all.ensures (number_above c.in_err-build_all.field-0.0))

pub end_pool-requires : goal.end_pool-requires
unfolding code_of
end_pool-requires c = let k = c.ask in let b = c.build_all in to_end k.new.p k.new.w c.args.job.now k.new.gaps _ c.args.c c.requires.1 c.in_ok-ask.ensures refl b.new.w b.auto.w b.new.gaps _ c.in_ok-build_all.ensures refl

pub returns-in_err-end_pool : goal.returns-in_err-end_pool
unfolding code_of
returns-in_err-end_pool c = let k = c.ask in let b = c.build_all in let e = c.end_pool in let r = err_from_is_err_and c.from_residual-in_err-end_pool.result c.from_residual-in_err-end_pool.ensures.1 in rw (r.1, r.2) (laid_named k.new.p k.new.w c.args.job.now k.new.gaps _ c.args.c c.requires.1 c.in_ok-ask.ensures refl b.new.w b.auto.w b.new.gaps _ c.in_ok-build_all.ensures refl e.new.w e.auto.w e.new.gaps _ c.in_err-end_pool.ensures (number_above c.in_err-end_pool.field-0.0))

pub own_slots-requires : goal.own_slots-requires
unfolding code_of
own_slots-requires c = let k = c.ask in let b = c.build_all in let e = c.end_pool in to_own k.new.p k.new.w c.args.job.now k.new.gaps _ c.args.c c.requires.1 c.in_ok-ask.ensures refl b.new.w b.auto.w b.new.gaps _ c.in_ok-build_all.ensures refl e.new.w e.auto.w e.new.gaps _ c.in_ok-end_pool.ensures

pub returns : goal.returns
unfolding code_of
returns c = let k = c.ask in let b = c.build_all in let e = c.end_pool in let o = c.own_slots in laid_all k.new.p k.new.w c.args.job.now k.new.gaps _ c.args.c c.requires.1 c.in_ok-ask.ensures refl b.new.w b.auto.w b.new.gaps _ c.in_ok-build_all.ensures refl e.new.w e.auto.w e.new.gaps _ c.in_ok-end_pool.ensures (λ i. (c.type_inv.job i).fits) refl o.new.w o.auto.w o.ensures
