-- `rows::raw_index` meets its contract. By the order of the raw bootstraps. Assumes nothing.
use Rattle.store.specs.Store.{store}
use Rattle.rows.proofs.Reading.{raws_counted_lem, index_there}
use Rattle.rows.proofs.raw_index.Goals as goal

pub raw_index-requires : goal.raw_index-requires
raw_index-requires c = let a = c.args in let q = c.requires in (q.0, raws_counted_lem a.p.now (store a.p.now a.w.now) q.2 q.1, index_there a.p.now (store a.p.now a.w.now) q.2)

pub returns : goal.returns
returns c = let r = c.raw_index.ensures in record { there = r.there; past = r.past }
