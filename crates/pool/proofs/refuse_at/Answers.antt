-- `pool::refuse_at` meets its contract. By the two loads and the store. Assumes nothing.
use mathlib.Core.Path.{refl}
use native.Mathlib.Omega.{arith}
use Rattle.store.proofs.Stores.{length-store}
use Rattle.store.specs.Store.{store}
use Rattle.store.specs.Regions.{COUNTS}
use Rattle.pool.proofs.Nodal.{place_told}
use Rattle.pool.proofs.refuse_at.Goals as goal

pub returns : goal.returns
returns g c = let a = c.args in
    let p = a.p.now in
    let t = store p a.w.now in
    let entry = c.load in
    let place = c.load-place in
    let saved = c.save in (
      refl,
      place_told t (store p saved.new.w) a.k entry.result place.result
          (omega (arith, c.requires.1, length-store p a.w.now COUNTS))
          entry.ensures.word
          place.ensures.word
          saved.ensures,
    )
