-- `sym_refs::reference_word` meets its contract. Assumes nothing.
use native.Mathlib.Omega.{arith}
use Rattle.sym_refs.proofs.Rooms.{room}
use Rattle.sym_refs.proofs.Worded.{raw_worded, constant_worded, bootstrap_worded, name_worded, bootstrap_name_worded}
use Rattle.sym_refs.proofs.reference_word.Goals as goal

pub constants-requires : goal.constants-requires
constants-requires c = let a = c.args in let m = room a.job.now a.p.now c.requires.0 in (m.laid, omega (arith, m.marks, m.indexes, m.both))

pub overflow_add-result : goal.overflow_add-result
overflow_add-result c = let a = c.args in let m = room a.job.now a.p.now c.requires.0 in omega (arith, c.constants.ensures, m.marks, m.entries)

pub overflow_add-result-then-bootstrap : goal.overflow_add-result-then-bootstrap
overflow_add-result-then-bootstrap c = let a = c.args in let m = room a.job.now a.p.now c.requires.0 in omega (arith, c.constants.ensures, m.marks, m.entries)

pub returns-in-Raw : goal.returns-in-Raw
returns-in-Raw c = let a = c.args in raw_worded a.job.now a.p.now a.at a.bootstrap c.requires.0 _ c.reference_at.ensures c.in-Raw.n c.in-Raw.is

pub returns-then-bootstrap : goal.returns-then-bootstrap
returns-then-bootstrap c = let a = c.args in bootstrap_worded a.job.now a.p.now a.at a.bootstrap c.requires.0 _ c.reference_at.ensures c.in-Index.n c.constants.result c.in-Index.is c.constants.ensures c.if-bootstrap.true

pub returns-else-bootstrap : goal.returns-else-bootstrap
returns-else-bootstrap c = let a = c.args in constant_worded a.job.now a.p.now a.at a.bootstrap c.requires.0 _ c.reference_at.ensures c.in-Index.n c.in-Index.is c.if-bootstrap.false

pub returns-then-bootstrap-2 : goal.returns-then-bootstrap-2
returns-then-bootstrap-2 c = let a = c.args in bootstrap_name_worded a.job.now a.p.now a.at a.bootstrap c.requires.0 _ c.reference_at.ensures _ c.in-Sym.is c.if-bootstrap-2.true

pub returns-else-bootstrap-2 : goal.returns-else-bootstrap-2
returns-else-bootstrap-2 c = let a = c.args in name_worded a.job.now a.p.now a.at a.bootstrap c.requires.0 _ c.reference_at.ensures _ c.in-Sym.is c.if-bootstrap-2.false
