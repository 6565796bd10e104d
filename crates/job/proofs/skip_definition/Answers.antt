-- `job::skip_definition` meets its contract. Assumes nothing.
use Rattle.definition.specs.Form.{count_of}
use Rattle.definition.specs.Shapes.{constant, bootstrap, bootstrap_shape}
use Rattle.definition.specs.Settings.{version, texts, highest}
use Rattle.job.specs.Forms.{body_of}
use Rattle.job.proofs.Records.{entry_to, number-to, nothing_to, expression-to}
use Rattle.job.proofs.skip_definition.Goals as goal

pub returns-in-Constant : goal.returns-in-Constant
unfolding body_of
returns-in-Constant c = rw c.in-Constant.is c.skip_constant.ensures

pub returns-in-Bootstrap : goal.returns-in-Bootstrap
unfolding body_of
returns-in-Bootstrap c = let a = c.args in
    λ n e f. rw c.in-Bootstrap.is (entry_to n a.job.now a.at bootstrap_shape c.skip_bootstrap.result (c.skip_bootstrap.ensures n e))

pub returns-in-NamedConstant : goal.returns-in-NamedConstant
unfolding body_of count_of
returns-in-NamedConstant c = λ n e f. rw c.in-NamedConstant.is (c.skip_naming.ensures constant n e)

pub returns-in-NamedBootstrap : goal.returns-in-NamedBootstrap
unfolding body_of count_of
returns-in-NamedBootstrap c = λ n e f. rw c.in-NamedBootstrap.is (c.skip_naming-in-NamedBootstrap.ensures bootstrap n f)

pub returns-in-RawConstant : goal.returns-in-RawConstant
unfolding body_of count_of
returns-in-RawConstant c = λ n e f. rw c.in-RawConstant.is (c.skip_placing.ensures constant n e)

pub returns-in-RawBootstrap : goal.returns-in-RawBootstrap
unfolding body_of count_of
returns-in-RawBootstrap c = λ n e f. rw c.in-RawBootstrap.is (c.skip_placing-in-RawBootstrap.ensures bootstrap n f)

pub returns-in-Version : goal.returns-in-Version
unfolding body_of
returns-in-Version c = let a = c.args in
    λ n e f. rw c.in-Version.is (number-to n a.job.now a.at version c.skip_raw_slot.result c.skip_raw_slot.ensures)

pub returns-in-Texts : goal.returns-in-Texts
unfolding body_of
returns-in-Texts c = let a = c.args in λ n e f. rw (c.in-Texts.is, c.bare.ensures) (nothing_to n a.job.now a.at texts c.requires)

pub returns-in-Highest : goal.returns-in-Highest
unfolding body_of
returns-in-Highest c = let a = c.args in
    λ n e f. rw c.in-Highest.is (number-to n a.job.now a.at highest c.skip_raw_slot-in-Highest.result c.skip_raw_slot-in-Highest.ensures)

pub returns-in-Expression : goal.returns-in-Expression
unfolding body_of
returns-in-Expression c = let a = c.args in
    λ n e f. rw c.in-Expression.is (expression-to n a.job.now a.at c.skip_expression.result c.skip_expression.ensures)
