-- `interner::hash_bytes` meets its contract: the bytes that are left make the hash into that of all. Assumes nothing.
use mathlib.Core.Path.{sym, ◌∙◌}
use Rattle.interner.specs.Nodes.{hash_bytes}
use Rattle.interner.proofs.Runs.{hash_four, hash_one, hash_end}
use Rattle.interner.proofs.hash_bytes.Goals as goal

pub loop-rest-init : goal.loop-rest-init
unfolding hash_bytes
loop-rest-init c = (c.mix-hash.ensures.1, rw c.mix-hash.ensures.0)

pub loop-rest-preserved : goal.loop-rest-preserved
loop-rest-preserved c =
    let m = c.mix-hash-in-len4-up.ensures in
    let l = c.loop-rest in
    (m.1, rw m.0 (hash_four l.hash c.from_be_bytes.result l.rest.now c.in-len4-up.len_at_least c.from_be_bytes.ensures ∙ l.invariant.1))

pub loop-byte-preserved : goal.loop-byte-preserved
loop-byte-preserved c =
    let m = c.mix-hash-in-loop-byte.ensures in
    let l = c.loop-byte in
    (m.1, rw m.0 (hash_one l.hash l.byte-index c.loop-rest.rest.now c.in_default.len_below c.loop-byte-test.true ∙ l.invariant.1))

pub returns : goal.returns
returns c =
    let l = c.loop-byte in
    (sym (hash_end l.hash l.byte-index c.loop-rest.rest.now c.loop-byte-test.false) ∙ l.invariant.1, l.invariant.0)
