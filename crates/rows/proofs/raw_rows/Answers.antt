-- `rows::raw_rows` meets its contract. The slots are not more than the raw definitions. Assumes nothing.
use Rattle.store.specs.Store.{store}
use Rattle.rows.proofs.Reading.{raws_counted_lem}
use Rattle.rows.proofs.raw_rows.Goals as goal

pub raw_rows-requires : goal.raw_rows-requires
raw_rows-requires c = let a = c.args in let q = c.requires in (q.0, raws_counted_lem a.p.now (store a.p.now a.w.now) q.2 q.1)
