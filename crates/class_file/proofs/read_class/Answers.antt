-- `class_file::read_class` meets its contract: what was found, or the refusal. Assumes nothing.
use mathlib.Core.Path.{◌≡◌, refl, sym, ap, ◌∙◌}
use Rattle.std.specs.Prelude as code
use Rattle.std.specs.Prelude.{None, Some, Ok, Err, IfOk}
use mathlib.Core.List.{List}
use Prim.Native.Nat.{ℕ, ◌+◌, ◌≤◌}
use lib.ListN.{length}
use Rattle.laws.specs.Statements.{IsBytes}
use Rattle.refusal.specs.declared.Refusal.{Refusal}
use Rattle.class_file.specs.ClassFile.{read_class}
use Rattle.class_file.specs.Answers.{parts_of}
use Rattle.class_file.proofs.Answering.{parts-inside}
use Rattle.std.specs.Option.{ok_or}
use Rattle.refusal.specs.declared.Refusal.TheVariants.{NotClassFile}
use Rattle.refusal.specs.Numbers.{number}
use Rattle.class_file.specs.declared.Parts.{Parts}
use Rattle.class_file.specs.Answers.{parts_read, parts_found}
use Rattle.class_file.proofs.read_class.Goals as goal

told : (o : code.Option Parts) → parts_read (ok_or o NotClassFile) ≡ parts_found o
unfolding number
told None = refl
told (Some p) = refl

inside :
    (file : List ℕ) → IsBytes file → (r : code.Result Parts Refusal) → parts_read r ≡ read_class file →
    IfOk r (λ p. 8 + length p.pool.now + length p.bootstraps.now ≤ length file)
inside file are (Ok p) read = parts-inside file are (parts_of p) (sym read)
inside file are (Err r) read = tt

pub returns : goal.returns
returns c =
    let read = ap parts_read c.ok_or.ensures.value ∙ told c.read_parts.result ∙ c.read_parts.ensures in
    record { value = read; inside = inside c.args.file.now (λ i. (c.type_inv.file i).fits) c.ok_or.result read }
