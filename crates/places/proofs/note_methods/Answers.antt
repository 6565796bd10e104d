-- `places::note_methods` meets its contract: the loop has passed the methods before this one, and each turn notes one more. Assumes nothing.
use mathlib.Core.Path.{subst}
use native.Mathlib.Omega.{arith}
use Rattle.std.specs.Prelude.{Some, None}
use Rattle.places.specs.Noting.{MethodPassed}
use Rattle.places.proofs.Methods.{passed_none, passed-more, passed-bad, passed-all}
use Rattle.places.proofs.note_methods.Goals as goal

pub loop-i-init : goal.loop-i-init
loop-i-init c = passed_none c.args.bytes.now c.args.places.now

pub returns-in_default : goal.returns-in_default
returns-in_default c = let bytes = c.args.bytes.now in
    let head = c.loop-i in
    let bad : MethodPassed bytes head.at None =
    subst (λ r. MethodPassed bytes head.at r) c.in_default.is c.past_method.ensures in
    passed-bad head.invariant bad c.args.count c.loop-i-test.true

pub loop-i-preserved : goal.loop-i-preserved
loop-i-preserved c = let bytes = c.args.bytes.now in
    let head = c.loop-i in
    let next = c.in-Some.next in
    let there : MethodPassed bytes head.at (Some next) =
    subst (λ r. MethodPassed bytes head.at r) c.in-Some.is c.past_method.ensures in
    passed-more head.invariant next there

pub returns : goal.returns
returns c = passed-all c.loop-i.invariant c.args.count (omega arith)
