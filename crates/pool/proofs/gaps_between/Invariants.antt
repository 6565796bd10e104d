use Rattle.store.specs.Store.{store}
use Rattle.store.specs.Regions.{RAW-KEYS, ORDER}
use Rattle.pool.proofs.Gapping.{Between}
use Rattle.pool.specs.Starting.{order_keys}
use Rattle.definition.specs.Slots.{gaps_from}
use Rattle.pool.proofs.gaps_between.Given as goal

abbrev pub invariant-loop-i : goal.invariant-loop-i
invariant-loop-i l = Between (gaps_from l.top 1 (order_keys (store l.p l.w RAW-KEYS) (store l.p l.w ORDER) l.n)) (order_keys (store l.p l.w RAW-KEYS) (store l.p l.w ORDER) l.n) l.top l.initial.gaps l.gaps l.i l.count l.first
