-- `output::class_length` meets its contract. Assumes nothing.
use mathlib.Core.Path.{◌≡◌, ap, ◌∙◌}
use Rattle.std.specs.Prelude.{Some}
use Rattle.output.proofs.Classes.{none-length, bytes-length, attribute-long}
use Rattle.output.proofs.class_length.Goals as goal

pub returns-in-None : goal.returns-in-None
returns-in-None c = λ s o h. none-length s c.args.c o h c.in-None.is

pub returns-in-Some-Bytes : goal.returns-in-Some-Bytes
returns-in-Some-Bytes c = let x = c.in-Some-Bytes in let told : c.args.c ≡ Some x.field-0 = x.is in λ s o h. bytes-length s c.args.c o h x.field-0-0 x.size (told ∙ ap Some (rw told at x.field-0-is))

pub returns-in-Some-Attribute : goal.returns-in-Some-Attribute
returns-in-Some-Attribute c = let x = c.in-Some-Attribute in let told : c.args.c ≡ Some x.field-0 = x.is in λ s o h. attribute-long s c.args.c o h (told ∙ ap Some (rw told at x.field-0-is))
