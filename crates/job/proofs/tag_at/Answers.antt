-- `job::tag_at` meets its contract. Assumes nothing.
use borrow.Author.Tests.{eq-eqb, ne_eqb}
use Rattle.job.proofs.Stored.{tag-found}
use Rattle.job.proofs.Working.{worked-kind, worked-tag}
use Rattle.job.proofs.tag_at.Goals as goal

pub tag_at-requires : goal.tag_at-requires
tag_at-requires c = let a = c.args in
    worked-kind a.job.now a.at (eq-eqb _ 0x46 c.if-first-eq70.true) c.requires

pub returns-then-first-eq70 : goal.returns-then-first-eq70
returns-then-first-eq70 c = let a = c.args in
    worked-tag a.job.now a.at (eq-eqb _ 0x46 c.if-first-eq70.true) c.tag_at.result c.tag_at.ensures

pub returns-else-first-eq70 : goal.returns-else-first-eq70
returns-else-first-eq70 c = let a = c.args in
    let plain = c.if-first-eq70.false in
    tag-found a.job.now a.at (ne_eqb _ 0x46 plain)
