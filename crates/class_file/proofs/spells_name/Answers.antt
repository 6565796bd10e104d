-- `class_file::spells_name` meets its contract: the bytes at the place are compared with the name's. Assumes nothing.
use mathlib.Core.Path.{◌≡◌, ap, ◌∙◌}
use Prim.Native.Nat.{◌+◌, ◌-◌}
use native.Mathlib.Omega.{arith}
use lib.Dec.{eqb}
use lib.Pointwise.{pointwise}
use lib.ListN.{take, drop}
use Rattle.definition.specs.Ascii.{ascii}
use Rattle.jvms.specs.Written.{bytes2, constant_bytes}
use Rattle.class_file.specs.ClassFile.{name_constant}
use Rattle.class_file.proofs.Naming.{items_same}
use Rattle.class_file.proofs.spells_name.Goals as goal

pub returns : goal.returns
unfolding name_constant constant_bytes bytes2 ascii
returns c =
    let size : c.args.at + 19 - c.args.at ≡ 19 = omega arith in
    let part = ap (λ n. take n (drop c.args.at c.args.bytes.now)) size in
    c.eq.ensures ∙ ap (λ l. pointwise eqb l name_constant) part ∙ items_same (take 19 (drop c.args.at c.args.bytes.now)) name_constant
