-- `places::note_pool` meets its contract: a count that is there and not 0, and then the slots. Assumes nothing.
use native.Mathlib.Omega.{arith}
use Rattle.places.proofs.Counting.{no_count, zero-count, pool_noted}
use Rattle.places.proofs.note_pool.Goals as goal

pub returns-then-bytes-lt2 : goal.returns-then-bytes-lt2
returns-then-bytes-lt2 c = let args = c.args in no_count args.bytes.now args.at args.places.now (omega arith)

pub returns-then-count-eq0 : goal.returns-then-count-eq0
returns-then-count-eq0 c = let args = c.args in
    zero-count args.bytes.now args.at args.places.now c.get-count.result (omega arith) c.get-count.ensures c.if-count-eq0.true

pub returns : goal.returns
returns c = let args = c.args in
    let count = c.get-count in
    let slots = c.note_slots in
    pool_noted
    args.bytes.now
    args.at
    count.result
    args.places.now
    slots.new.places
    slots.result
    (omega arith)
    count.ensures
    (omega arith)
    (omega arith)
    slots.ensures
