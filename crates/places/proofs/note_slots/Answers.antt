-- `places::note_slots` meets its contract: the loop has passed the slots before this one, and each turn notes one constant more. Assumes nothing.
use mathlib.Core.Path.{subst}
use Prim.Native.Nat.{◌-◌}
use native.Mathlib.Omega.{arith}
use Rattle.definition.specs.Shapes.{is_wide}
use Rattle.raw_const.specs.Entries.{ReadAt}
use Rattle.std.specs.Prelude.{None, Some}
use Rattle.laws.specs.Statements.{IsBytes}
use Rattle.places.proofs.Passing.{passed_none, passed-bad, passed-all, passed-turn, width_small, entry_read, entry_bad}
use Rattle.places.proofs.note_slots.Goals as goal

pub loop-slot-init : goal.loop-slot-init
loop-slot-init c = let args = c.args in
    (passed_none args.bytes.now args.start args.places.now c.requires.start_in_bounds, λ few. absurd (omega arith))

pub returns-in_err-entry : goal.returns-in_err-entry
returns-in_err-entry c = let bytes = c.args.bytes.now in
    let head = c.loop-slot in
    let read : ReadAt bytes head.at None = subst (λ r. ReadAt bytes head.at r) c.in_err-entry.was c.read_entry.ensures in
    let bad = entry_bad bytes (λ i. (c.type_inv.bytes i).fits) head.at read in
    rw c.from_residual.ensures (passed-bad head.invariant.0 bad (c.args.count - 1) (omega arith))

pub overflow_add-slot : goal.overflow_add-slot
overflow_add-slot c = omega (arith, width_small (is_wide c.in_ok-entry.entry.tag))

pub loop-slot-smaller : goal.loop-slot-smaller
loop-slot-smaller c = omega (arith, width_small (is_wide c.in_ok-entry.entry.tag))

pub loop-slot-preserved : goal.loop-slot-preserved
loop-slot-preserved c = let bytes = c.args.bytes.now in
    let head = c.loop-slot in
    let tag = c.in_ok-entry.entry.tag in
    let next = c.in_ok-entry.entry.next in
    let are : IsBytes bytes = λ i. (c.type_inv.bytes i).fits in
    let told : ReadAt bytes head.at (Some (record { tag = tag; next = next })) =
    subst (λ r. ReadAt bytes head.at r) c.in_ok-entry.was c.read_entry.ensures in
    let read = entry_read bytes are head.at tag next told in
    let low = c.loop-slot-test.true in
    passed-turn head.invariant.0 are tag next c.args.count c.slots_of-slot.result read low c.slots_of-slot.ensures

pub returns-then-slot-count : goal.returns-then-slot-count
returns-then-slot-count c = let p = c.loop-slot.invariant.0 in
    (p.found, passed-all p (c.args.count - 1) (omega arith), omega (arith, p.here), p.inside, p.noted)

pub returns-else-slot-count : goal.returns-else-slot-count
returns-else-slot-count c = c.loop-slot.invariant.1 (omega arith)
