-- `definitions::after_naming` meets its contract. Assumes nothing.
use Rattle.definitions.proofs.Reading.{label_stands, target_stands, target_end}
use Rattle.definitions.proofs.after_naming.Goals as goal

pub name_at-requires : goal.name_at-requires
name_at-requires c = let h = c.requires in label_stands c.args.job.now c.args.at h.0 h.1 h.2 h.3 h.4

pub after_reference-requires : goal.after_reference-requires
after_reference-requires c = let h = c.requires in target_stands c.args.job.now c.args.at c.name_at.result.end (λ l next f. (c.name_at.ensures l next f).1) h.0 h.1 h.2 h.3 h.4

pub returns : goal.returns
returns c = target_end c.args.job.now c.args.at c.name_at.result.end (λ l next f. (c.name_at.ensures l next f).1) c.after_reference.result c.after_reference.ensures
