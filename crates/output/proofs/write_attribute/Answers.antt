-- `output::write_attribute` meets its contract. Assumes nothing.
use mathlib.Core.Path.{ap}
use native.Mathlib.Omega.{arith}
use lib.ListN.{length}
use Rattle.output.proofs.Shown.{text_fits, attribute-bytes, attribute-length, name_length}
use Rattle.output.proofs.write_attribute.Goals as goal

pub write_entry-requires-clause-literal_fits : goal.write_entry-requires-clause-literal_fits
write_entry-requires-clause-literal_fits c = text_fits (length c.attribute_name-name.result) (omega (arith, ap length c.attribute_name-name.ensures, name_length))

pub write_entry-requires-clause-entry_in_bounds : goal.write_entry-requires-clause-entry_in_bounds
write_entry-requires-clause-entry_in_bounds c = rw (attribute-bytes c.attribute_name-name.result c.attribute_name-name.ensures) (omega (arith, attribute-length, c.requires))

pub returns : goal.returns
returns c = rw (attribute-bytes c.attribute_name-name.result c.attribute_name-name.ensures) at c.write_entry.ensures
