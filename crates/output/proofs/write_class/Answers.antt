-- `output::write_class` meets its contract: each arm writes the bytes that the name is. Assumes nothing.
use mathlib.Core.Path.{◌≡◌, ap, ◌∙◌}
use native.Mathlib.Omega.{arith}
use lib.ListN.{length}
use Rattle.std.specs.Prelude.{Some}
use Rattle.output.proofs.Shown.{name_length}
use Rattle.output.proofs.Classes.{name_bytes, bytes-length, attribute-long, wrote_none, wrote_name, wrote_attribute}
use Rattle.output.proofs.write_class.Goals as goal

pub copy-requires : goal.copy-requires
copy-requires c = let a = c.args in let q = c.requires in let x = c.in-Some-Bytes in let told : a.c ≡ Some x.field-0 = x.is in let e = told ∙ ap Some (rw told at x.field-0-is) in record { n_in_bounds = (name_bytes a.job.now a.c q.0 q.1 x.start x.size e).0; n_in_bounds_2 = omega (arith, bytes-length a.job.now a.c q.0 q.1 x.start x.size e, q.2) }

pub copy-requires-in-Some-Attribute : goal.copy-requires-in-Some-Attribute
copy-requires-in-Some-Attribute c = let a = c.args in let q = c.requires in let x = c.in-Some-Attribute in let told : a.c ≡ Some x.field-0 = x.is in record { n_in_bounds = omega (arith, ap length c.attribute_name-text.ensures, name_length); n_in_bounds_2 = omega (arith, attribute-long a.job.now a.c q.0 q.1 (told ∙ ap Some (rw told at x.field-0-is)), q.2) }

pub returns-in-None : goal.returns-in-None
returns-in-None c = let a = c.args in λ o h. wrote_none a.job.now a.c o h a.out.now c.in-None.is

pub returns-in-Some-Bytes : goal.returns-in-Some-Bytes
returns-in-Some-Bytes c = let a = c.args in let x = c.in-Some-Bytes in let told : a.c ≡ Some x.field-0 = x.is in λ o h. wrote_name a.job.now a.c o h a.out.now c.copy.new.dst x.start x.size (told ∙ ap Some (rw told at x.field-0-is)) c.copy.ensures

pub returns-in-Some-Attribute : goal.returns-in-Some-Attribute
returns-in-Some-Attribute c = let a = c.args in let x = c.in-Some-Attribute in let told : a.c ≡ Some x.field-0 = x.is in λ o h. wrote_attribute a.job.now a.c o h a.out.now c.copy-in-Some-Attribute.new.dst c.attribute_name-text.result c.attribute_name-text.ensures (told ∙ ap Some (rw told at x.field-0-is)) c.copy-in-Some-Attribute.ensures
