-- `blocks::all_zero` meets its contract: std's test of all bytes is the definition's. Assumes nothing.
use mathlib.Core.Path.{◌≡◌}
use borrow.Author.Rules.{rules}
use Rattle.std.specs.Prelude.{IsTrue, All, ◌↔◌}
use Rattle.blocks.proofs.Zeros.{zeros_tested}
use Rattle.blocks.proofs.all_zero.Goals as goal

pub returns : goal.returns
returns c =
    let tested : IsTrue c.all.result ↔ All (λ b. b ≡ 0) c.args.bytes.now = search rules in
    zeros_tested c.all.result c.args.bytes.now tested
