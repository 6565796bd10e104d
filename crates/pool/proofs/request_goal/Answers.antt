-- `pool::request_goal` meets its contract. The word of its reference leads where the definition follows it. Assumes nothing.
use native.Mathlib.Omega.{arith}
use Rattle.pool.proofs.Asked.{request_inside, refers, worded, leads}
use Rattle.pool.proofs.request_goal.Goals as goal

pub overflow_add-at : goal.overflow_add-at
overflow_add-at c = let a = c.args in let q = c.requires.4 in omega (arith, request_inside a.job.now a.at (q.0, q.1, q.2))

pub reference_word-reference-requires : goal.reference_word-reference-requires
reference_word-reference-requires c = let a = c.args in (c.requires.1, refers a.job.now a.at c.requires.4)

pub goal_of-requires : goal.goal_of-requires
goal_of-requires c = let a = c.args in let q = c.requires in (q.0, q.1, q.2, q.3, worded a.job.now a.at c.reference_word-reference.result c.reference_word-reference.ensures q.4)

pub returns : goal.returns
returns c = let a = c.args in leads a.job.now a.at c.reference_word-reference.result c.reference_word-reference.ensures c.goal_of.result c.goal_of.ensures.0
