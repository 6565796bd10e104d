-- `interner::hash_literal` meets its contract: it was worked out, or the stretch that is hashed is the literal of the entry. Assumes nothing.
use native.Mathlib.Omega.{arith}
use Prim.Native.Nat.{◌-◌}
use Rattle.interner.proofs.Runs.{run_length}
use Rattle.interner.proofs.Reading.{short_job}
use Rattle.interner.proofs.hash_literal.Goals as goal

pub hash_bytes-requires : goal.hash_bytes-requires
hash_bytes-requires c = let a = c.args in let q = c.requires in let h = c.literal_at-s.ensures q.2.0 q.2.1 q.2.2 in (omega arith, omega (arith, run_length a.job.now c.literal_at-s.result.start (c.literal_at-s.result.end - c.literal_at-s.result.start) (omega (arith, h.rising, h.within)), h.rising, h.within, short_job a.job.now a.p.now q.1))
