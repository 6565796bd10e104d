-- `listing::list` meets its contract. Assumes nothing.
use mathlib.Core.Logic.{inl, inr}
use mathlib.Core.Path.{subst}
use native.Mathlib.Omega.{arith}
use lib.ListN.{replicate}
use Rattle.places.specs.Noting.{PoolNoted, MethodsPut}
use Rattle.places.proofs.Rows.{blank_zeros}
use Rattle.listing.proofs.Answered.{refused, no_pool_lem, left_over, views}
use Rattle.listing.proofs.list.Goals as goal

pub note_pool-requires : goal.note_pool-requires
note_pool-requires c = tt

pub returns-in_default : goal.returns-in_default
returns-in_default c = let a = c.args in
    let bad = subst (PoolNoted a.pool.now 0 (replicate 65536 0) c.note_pool.new.places) c.in_default.is c.note_pool.ensures in
    refused a.pool.now a.count a.methods.now a.out.now (inl (no_pool_lem a.pool.now bad.0))

pub returns-then-next-pool : goal.returns-then-next-pool
returns-then-next-pool c = let a = c.args in
    let good = subst (PoolNoted a.pool.now 0 (replicate 65536 0) c.note_pool.new.places) c.in-Some.is c.note_pool.ensures in
    refused a.pool.now a.count a.methods.now a.out.now (inl (left_over a.pool.now good.0 c.in-Some.next good.1 c.if-next-pool.true))

pub note_methods-requires : goal.note_methods-requires
note_methods-requires c = tt

pub list_read-requires : goal.list_read-requires
list_read-requires c = let a = c.args in
    let noted = subst (PoolNoted a.pool.now 0 (replicate 65536 0) c.note_pool.new.places) c.in-Some.is c.note_pool.ensures in
    let put = subst (MethodsPut a.methods.now a.count (replicate 65536 0) c.note_methods.new.places) c.if-note_methods.true c.note_methods.ensures in
    views a.pool.now a.count a.methods.now (replicate 65536 0) c.note_pool.new.places (replicate 65536 0) c.note_methods.new.places c.in-Some.next blank_zeros noted c.if-next-pool.false blank_zeros.0 (omega arith) put

pub returns-then-note_methods : goal.returns-then-note_methods
returns-then-note_methods c = c.list_read.ensures

pub returns-else-note_methods : goal.returns-else-note_methods
returns-else-note_methods c = let a = c.args in
    let none' = subst (MethodsPut a.methods.now a.count (replicate 65536 0) c.note_methods.new.places) c.if-note_methods.false c.note_methods.ensures in
    refused a.pool.now a.count a.methods.now a.out.now (inr none'.0)
