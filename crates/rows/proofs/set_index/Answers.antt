-- `rows::set_index` meets its contract. By the places of bootstraps. Assumes nothing.
use Rattle.store.specs.Store.{store}
use Rattle.rows.proofs.Reading.{node_place_lem, boot_behind, boot_place}
use Rattle.rows.proofs.set_index.Goals as goal

pub load-e-requires : goal.load-e-requires
load-e-requires c = let a = c.args in let q = c.requires in (q.0, node_place_lem a.p.now (store a.p.now a.w.now) q.1 q.2 a.k q.3.made)

pub overflow_sub-e : goal.overflow_sub-e
overflow_sub-e c = let a = c.args in let q = c.requires in boot_behind a.p.now a.w.now q.1 a.k q.3 c.load-e.result c.constants.result c.load-e.ensures.word c.constants.ensures

pub save-requires : goal.save-requires
save-requires c = let a = c.args in let q = c.requires in (q.0, boot_place a.p.now a.w.now q.1 a.k q.3 c.load-e.result c.constants.result c.load-e.ensures.word c.constants.ensures, q.4)
