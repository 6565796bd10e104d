use Rattle.building.proofs.Lasting.{there_now}
use Rattle.pool.proofs.Nodal.{record_asks}
use Rattle.store.specs.Store.{store}
use mathlib.Core.Path.{sym, ap, ◌∙◌}
use Rattle.refusal.specs.Numbers.{number, code_of}
use borrow.Author.Rules.{rules}
use Rattle.building.proofs.judge.Goals as goal
-- `building::judge` meets its contract. The kind that is asked for is the node's. Assumes nothing.
use Rattle.building.proofs.Emptying.{judged-not, judged-so}

pub has_kind-requires : goal.has_kind-requires
has_kind-requires c = let a = c.args in
    let q = c.requires in
    (search rules, there_now a.job.now a.p.now (store a.p.now a.w.now) q.1 q.2.standing, q.3)

pub finish-requires : goal.finish-requires
finish-requires c = let q = c.requires in (search rules, q.1, q.2, q.3)

pub returns-then-has_kind : goal.returns-then-has_kind
returns-then-has_kind c = let a = c.args in
    let p = a.p.now in
    let kind = c.has_kind.ensures in
    let finished = c.finish in
    judged-so a.job.now p a.version a.k (store p a.w.now) a.gaps.now (store p finished.new.w) finished.new.gaps (code_of finished.result)
    (sym kind ∙ c.if-has_kind.true)
    finished.ensures

pub refuse_at-requires : goal.refuse_at-requires
refuse_at-requires c = let a = c.args in
    let q = c.requires in
    let t = store a.p.now a.w.now in
    let asks = record_asks a.job.now a.p.now t (there_now a.job.now a.p.now t q.1 q.2.standing) a.k q.3 in
    (search rules, asks.0, asks.1, asks.2)

pub returns : goal.returns
unfolding number code_of
returns c = let a = c.args in
    let p = a.p.now in
    let told = c.refuse_at in
    judged-not a.job.now p a.version a.k (store p a.w.now) a.gaps.now c.requires.3
    (sym c.has_kind.ensures ∙ c.if-has_kind.false)
    (store p told.new.w)
    (number told.result)
    (ap number told.ensures.0, told.ensures.1)
