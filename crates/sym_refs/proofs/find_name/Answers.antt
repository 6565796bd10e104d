-- `sym_refs::find_name` meets its contract. The loop walks down the chain of the name's hash. Assumes nothing.
use Prim.Native.Nat.{◌+◌, ◌-◌, ◌<◌}
use mathlib.Core.Path.{◌≡◌}
use Rattle.sym_refs.proofs.Lookup.{item_there, told-yes, told-no}
use native.Mathlib.Omega.{arith}
use Rattle.store.specs.Words.{label_at}
use Rattle.store.specs.Regions.{NAME-HEADS, NAME-LINKS, NAME-PLACES}
use Rattle.store.specs.Store.{store, size}
use Rattle.store.proofs.Searching.{sought_hit, sought_miss}
use Rattle.store.proofs.Stores.{length-store}
use Rattle.sym_refs.specs.Names.{name_count}
use Rattle.sym_refs.proofs.Rooms.{room}
use Rattle.sym_refs.proofs.Lookup.{name_start, name_on}
use Rattle.sym_refs.proofs.find_name.Goals as goal

pub first_link-link-requires : goal.first_link-link-requires
first_link-link-requires c = let a = c.args in let m = room a.job.now a.p.now c.requires.1 in (c.requires.0, m.heads, c.requires.5)

pub loop-i-init : goal.loop-i-init
loop-i-init c = let a = c.args in let m = room a.job.now a.p.now c.requires.1 in
    rw c.first_link-link.ensures
    (name_start (size a.p.now NAME-HEADS) a.job.now a.first (label_at a.job.now a.at) a.hash (store a.p.now a.w.now NAME-PLACES) (store a.p.now a.w.now NAME-HEADS) (store a.p.now a.w.now NAME-LINKS) (name_count (store a.p.now a.w.now)) m.heads.two (length-store a.p.now a.w.now NAME-HEADS) c.requires.2 c.requires.4)

pub load-requires : goal.load-requires
load-requires c = let a = c.args in let m = room a.job.now a.p.now c.requires.1 in (c.requires.0, omega (arith, m.places, c.in-Some.ensures, c.loop-i.invariant.below, c.requires.2.few))

pub names_same-requires : goal.names_same-requires
names_same-requires c = let a = c.args in let t = store a.p.now a.w.now in
    let j = item_there (size a.p.now NAME-HEADS) a.job.now (t NAME-PLACES) (t NAME-HEADS) (t NAME-LINKS) (name_count t) c.requires.2 c.in-Some.i c.load.result (omega (arith, c.in-Some.ensures, c.loop-i.invariant.below)) c.load.ensures.word in
    ((j.0, j.2), c.requires.3)

pub returns-then-names_same : goal.returns-then-names_same
returns-then-names_same c = let a = c.args in let t = store a.p.now a.w.now in let i = c.in-Some.i in let low : i < name_count t = omega (arith, c.in-Some.ensures, c.loop-i.invariant.below) in
    let again : i + 1 - 1 ≡ i = omega arith in
    sought_hit _ _ (i + 1) (omega (arith, low)) (omega arith)
    (rw again (told-yes (size a.p.now NAME-HEADS) a.job.now (t NAME-PLACES) (t NAME-HEADS) (t NAME-LINKS) (name_count t) c.requires.2 i c.load.result low c.load.ensures.word a.first (label_at a.job.now a.at) c.names_same.result c.names_same.ensures c.if-names_same.true))

pub load-link-requires : goal.load-link-requires
load-link-requires c = let a = c.args in let m = room a.job.now a.p.now c.requires.1 in (c.requires.0, omega (arith, m.links, c.in-Some.ensures, c.loop-i.invariant.below, c.requires.2.few))

pub loop-i-smaller : goal.loop-i-smaller
loop-i-smaller c = let a = c.args in let t = store a.p.now a.w.now in let l = c.loop-i in let z = c.in-Some.ensures in let m = room a.job.now a.p.now c.requires.1 in
    rw (c.load-link.ensures.word, z.1)
    (name_on (size a.p.now NAME-HEADS) a.job.now a.first (label_at a.job.now a.at) a.hash (t NAME-PLACES) (t NAME-HEADS) (t NAME-LINKS) (name_count t) m.heads.two (length-store a.p.now a.w.now NAME-HEADS) c.requires.2 c.requires.4 l.link z.0 l.invariant
    (rw z.1 at (told-no (size a.p.now NAME-HEADS) a.job.now (t NAME-PLACES) (t NAME-HEADS) (t NAME-LINKS) (name_count t) c.requires.2 c.in-Some.i c.load.result (omega (arith, z, l.invariant.below)) c.load.ensures.word a.first (label_at a.job.now a.at) c.names_same.result c.names_same.ensures c.if-names_same.false))).1

pub loop-i-preserved : goal.loop-i-preserved
loop-i-preserved c = let a = c.args in let t = store a.p.now a.w.now in let l = c.loop-i in let z = c.in-Some.ensures in let m = room a.job.now a.p.now c.requires.1 in
    rw (c.load-link.ensures.word, z.1)
    (name_on (size a.p.now NAME-HEADS) a.job.now a.first (label_at a.job.now a.at) a.hash (t NAME-PLACES) (t NAME-HEADS) (t NAME-LINKS) (name_count t) m.heads.two (length-store a.p.now a.w.now NAME-HEADS) c.requires.2 c.requires.4 l.link z.0 l.invariant
    (rw z.1 at (told-no (size a.p.now NAME-HEADS) a.job.now (t NAME-PLACES) (t NAME-HEADS) (t NAME-LINKS) (name_count t) c.requires.2 c.in-Some.i c.load.result (omega (arith, z, l.invariant.below)) c.load.ensures.word a.first (label_at a.job.now a.at) c.names_same.result c.names_same.ensures c.if-names_same.false))).0

pub returns : goal.returns
returns c = sought_miss _ _ _ _ c.loop-i.link (omega (arith, c.in_default.ensures)) c.loop-i.invariant
