-- `rows::index_word` meets its contract. By the places of bootstraps. Assumes nothing.
use Rattle.store.specs.Store.{store}
use Rattle.rows.proofs.Reading.{node_place_lem, boot_behind, boot_place}
use Rattle.rows.proofs.index_word.Goals as goal

pub load-requires : goal.load-requires
load-requires c = let a = c.args in let q = c.requires in (q.0, node_place_lem a.p.now (store a.p.now a.w.now) q.1 q.2 a.k q.3.made)

pub overflow_sub-load : goal.overflow_sub-load
overflow_sub-load c = let a = c.args in let q = c.requires in boot_behind a.p.now a.w.now q.1 a.k q.3 c.load.result c.constants.result c.load.ensures.word c.constants.ensures

pub load-requires-2 : goal.load-requires-2
load-requires-2 c = let a = c.args in let q = c.requires in (q.0, boot_place a.p.now a.w.now q.1 a.k q.3 c.load.result c.constants.result c.load.ensures.word c.constants.ensures)
