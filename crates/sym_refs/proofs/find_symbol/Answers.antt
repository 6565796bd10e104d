-- `sym_refs::find_symbol` meets its contract. Assumes nothing.
use native.Mathlib.Omega.{arith}
use Rattle.store.specs.JobIn.{entries_in, constants_in}
use Rattle.sym_refs.specs.Names.{kind_byte}
use Rattle.sym_refs.proofs.Rooms.{room}
use Rattle.sym_refs.proofs.Wording.{ref_name, ref_bootstrap_name, name_stands_at, bootstrap_stands_at}
use Rattle.sym_refs.proofs.find_symbol.Goals as goal

pub hash_name-requires : goal.hash_name-requires
hash_name-requires c = let a = c.args in let m = room a.job.now a.p.now c.requires.1 in name_stands_at a.job.now (entries_in a.job.now) a.symbol c.requires.3 (omega (arith, m.entries)) c.requires.4 c.if-symbol-lt-BOOTSTRAP_SYM.true

pub find_name-requires : goal.find_name-requires
find_name-requires c = let a = c.args in let m = room a.job.now a.p.now c.requires.1 in (c.requires.0, c.requires.1, c.requires.2, name_stands_at a.job.now (entries_in a.job.now) a.symbol c.requires.3 (omega (arith, m.entries)) c.requires.4 c.if-symbol-lt-BOOTSTRAP_SYM.true, c.hash_name.ensures.0, c.hash_name.ensures.1)

pub hash_name-requires-else-symbol-lt-BOOTSTRAP_SYM : goal.hash_name-requires-else-symbol-lt-BOOTSTRAP_SYM
hash_name-requires-else-symbol-lt-BOOTSTRAP_SYM c = let a = c.args in let m = room a.job.now a.p.now c.requires.1 in bootstrap_stands_at a.job.now (entries_in a.job.now) a.symbol c.requires.3 (omega (arith, m.entries)) c.if-symbol-lt-BOOTSTRAP_SYM.false

pub find_name-requires-else-symbol-lt-BOOTSTRAP_SYM : goal.find_name-requires-else-symbol-lt-BOOTSTRAP_SYM
find_name-requires-else-symbol-lt-BOOTSTRAP_SYM c = let a = c.args in let m = room a.job.now a.p.now c.requires.1 in (c.requires.0, c.requires.1, c.requires.2, bootstrap_stands_at a.job.now (entries_in a.job.now) a.symbol c.requires.3 (omega (arith, m.entries)) c.if-symbol-lt-BOOTSTRAP_SYM.false, c.hash_name-else-symbol-lt-BOOTSTRAP_SYM.ensures.0, c.hash_name-else-symbol-lt-BOOTSTRAP_SYM.ensures.1)

pub returns-then-symbol-lt-BOOTSTRAP_SYM : goal.returns-then-symbol-lt-BOOTSTRAP_SYM
unfolding kind_byte
returns-then-symbol-lt-BOOTSTRAP_SYM c = let a = c.args in let m = room a.job.now a.p.now c.requires.1 in
    rw (ref_name a.job.now (constants_in a.job.now) a.symbol (omega (arith, m.both, m.entries)) c.requires.4 c.if-symbol-lt-BOOTSTRAP_SYM.true) c.find_name.ensures

pub returns-else-symbol-lt-BOOTSTRAP_SYM : goal.returns-else-symbol-lt-BOOTSTRAP_SYM
unfolding kind_byte
returns-else-symbol-lt-BOOTSTRAP_SYM c = let a = c.args in let m = room a.job.now a.p.now c.requires.1 in
    rw (ref_bootstrap_name a.job.now (constants_in a.job.now) a.symbol (omega (arith, m.both, m.entries)) c.if-symbol-lt-BOOTSTRAP_SYM.false) c.find_name-else-symbol-lt-BOOTSTRAP_SYM.ensures
