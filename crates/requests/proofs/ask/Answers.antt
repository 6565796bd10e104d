use mathlib.Core.Path.{refl, ◌∙◌}
use Rattle.std.proofs.lemmas.Result.{err_from_is_err_and}
use Rattle.refusal.specs.Numbers.{code_of}
use Rattle.definitions.proofs.Stepped.{number_above}
use Rattle.laws.specs.Statements.{IsBytes}
use Rattle.definitions.proofs.Beginning.{on_kept}
use Rattle.requests.proofs.Starting.{can_start, some-start}
use Rattle.requests.proofs.Handing.{started_asking, requests_at, few_visits, few_places}
use Rattle.requests.proofs.Words.{asked_refused, asked_all}
use Rattle.requests.proofs.ask.Goals as goal

-- `requests::ask` meets its contract. Record 50 hands to the pool's start, and that to the requests. Assumes nothing.

pub returns-in_err-begin : goal.returns-in_err-begin
unfolding code_of
returns-in_err-begin c = let a = c.args in let r = err_from_is_err_and c.from_residual.result c.from_residual.ensures.1 in
    rw (r.1, r.2) (asked_refused _ _ a.top a.job.now _ a.gaps.now _ (number_above c.in_err-begin.field-0.0) c.in_err-begin.ensures)

pub start_pool-requires : goal.start_pool-requires
unfolding code_of
start_pool-requires c = let a = c.args in let q = c.requires in let b = c.in_ok-begin.ensures in let bytes : IsBytes a.job.now = λ i. (c.type_inv.job i).fits in let f = b.through refl in (b.places.1, some-start a.job.now _ b.places.0 bytes a.top q.5 _ f.0 f.1 a.gaps.now q.4)

pub answer_all-requires : goal.answer_all-requires
unfolding code_of
answer_all-requires c = let a = c.args in let q = c.requires in let b = c.in_ok-begin.ensures in let bytes : IsBytes a.job.now = λ i. (c.type_inv.job i).fits in let f = b.through refl in let o = c.start_pool.ensures in (on_kept _ c.begin.new.w c.start_pool.new.w c.start_pool.auto.w b.places.1, b.places.0, started_asking a.job.now _ a.top _ _ f.0 f.1 _ _ o, requests_at a.job.now _ a.top _ _ f.0 f.1 _ _ o b.places.0 bytes, few_visits a.job.now _ a.top _ _ f.0 f.1 _ _ o b.places.0, few_places a.job.now _ a.top _ _ f.0 f.1 _ _ o b.places.0)

pub returns : goal.returns
unfolding code_of
returns c = let a = c.args in let q = c.requires in let b = c.in_ok-begin.ensures in let bytes : IsBytes a.job.now = λ i. (c.type_inv.job i).fits in let f = b.through refl in asked_all a.job.now _ b.places.0 bytes a.top _ _ _ f.0 f.1 a.gaps.now _ _ c.start_pool.ensures _ _ (on_kept _ c.begin.new.w c.answer_all.new.w (c.answer_all.auto.w ∙ c.start_pool.auto.w) b.places.1) (can_start a.job.now _ b.places.0 bytes a.top q.5 _ f.0 f.1 a.gaps.now q.4) c.answer_all.ensures
