-- `job::form_definition` meets its contract. Assumes nothing.
use mathlib.Core.Path.{sym, ◌∙◌}
use Rattle.job.proofs.Faults.{setting_rest}
use borrow.Enum.Refused.{opened}
use Rattle.job.proofs.form_definition.Goals as goal

pub form_setting-requires : goal.form_setting-requires
form_setting-requires c = let p = c.requires in
    let o = c.opening_of-opening in (
      p.0,
      p.1,
      o.ensures,
      setting_rest o.result (sym c.is_plain.ensures ∙ c.if-is_plain.false) (opened c.in_default.in_default-own.keys2),
    )
