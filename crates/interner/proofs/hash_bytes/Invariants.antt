-- `interner::hash_bytes` meets its contract: the bytes that are left make the hash into that of all. Assumes nothing.
use lib.ListN.{length, drop}
use mathlib.Core.Path.{◌≡◌}
use Rattle.store.specs.Store.{IsWord}
use Rattle.interner.specs.Nodes.{hash_rest, hash_bytes}
use Rattle.interner.proofs.hash_bytes.Given as goal

abbrev pub invariant-loop-rest : goal.invariant-loop-rest
invariant-loop-rest l = IsWord l.hash × (hash_rest l.hash l.rest ≡ hash_bytes l.seed l.bytes)

abbrev pub decreases-loop-rest : goal.decreases-loop-rest
decreases-loop-rest l = length l.rest

abbrev pub invariant-loop-byte : goal.invariant-loop-byte
invariant-loop-byte l = IsWord l.hash × (hash_rest l.hash (drop l.byte-index l.byte-items) ≡ hash_bytes l.seed l.bytes)
