-- HOLDS: every answer, every raw definition, the class name and the name slot of a built job show, in the finished pool as JVMS reads it,
-- what the job's own records say. Assumes nothing.
use mathlib.Core.List.{List, map}
use mathlib.Core.Option.{some, map-eq-some_iff}
use mathlib.Core.Path.{◌≡◌, sym, subst}
use Prim.Native.Nat.{ℕ}
use Rattle.definition.specs.Basics.{good}
use Rattle.definition.specs.Job.{Job}
use Rattle.definition.specs.Form.{form}
use Rattle.definition.specs.Numbering.{top_of, literals, numbered}
use Rattle.definition.specs.Layout.{Layout, layout_of, layout}
use Rattle.definition.specs.Run.{shown, Built, render, Lent, run}
use Rattle.jvms.specs.Pool.{Slot, BootstrapMethod, read_pool_lem, read_bootstrap_methods}
use Rattle.laws.specs.AsEntries.{as_shown, as_row}
use Rattle.laws.specs.Statements.{IsBytes, Finished, HeldBy, Holds}
use Rattle.laws.proofs.Reading.PoolReadBack.{row_shown}
use Rattle.laws.proofs.Reading.BuiltPoolReadBack.{stg}
use Rattle.laws.proofs.Reading.Reads.{reads}
use Rattle.laws.proofs.Reading.JobHeld.{held_by}

-- what the reader shows of a layout
abbrev pub shown_of : Job (List ℕ) → Layout → Finished
shown_of job x = record { definitions = job.definitions; pool = map (shown (literals job)) x.contents; bootstraps = map row_shown x.rows }

-- all of it, of the layout that was returned
held-laid :
    (bytes : List ℕ) (job : Job (List ℕ)) (l : Layout) →
    IsBytes bytes →
    form bytes ≡ good job →
    layout (top_of job) (numbered job) ≡ good l →
    HeldBy (shown_of job l) job.requests job.build (render (literals job) l)
unfolding layout_of
held-laid bytes job l are formed laid =
    subst (λ (x : Layout). HeldBy (shown_of job x) job.requests job.build (render (literals job) x)) (stg bytes job l are formed laid).is_laid (held_by bytes job l are formed laid)

-- what was returned is read, and what holds of the layout holds of it
pub as_read :
    (bytes : List ℕ) (job : Job (List ℕ)) (lent : Lent) (b : Built) →
    IsBytes bytes →
    form bytes ≡ good job →
    run lent bytes ≡ good b →
    (P : Finished → Built → Type 0) →
    ((l : Layout) → layout (top_of job) (numbered job) ≡ good l → P (shown_of job l) (render (literals job) l)) →
    (pool : List Slot)
    × (methods : List BootstrapMethod)
    × (read_pool_lem b.pool ≡ some pool)
    × (read_bootstrap_methods b.bootstrap_count b.bootstraps ≡ some methods)
    × P (record { definitions = job.definitions; pool = map as_shown pool; bootstraps = map as_row methods }) b
as_read bytes job lent b are formed ran P so =
    let (l, laid, is, readsPool, readsRows) = reads bytes job lent b are formed ran in
    let (pool, poolRead, samePool) = (map-eq-some_iff (map as_shown) (read_pool_lem b.pool)).0 readsPool in
    let (methods, methodsRead, same_rows) = (map-eq-some_iff (map as_row) (read_bootstrap_methods b.bootstrap_count b.bootstraps)).0 readsRows in
    (pool, methods, poolRead, methodsRead, rw (samePool, same_rows) (subst (P (shown_of job l)) (sym is) (so l laid)))

pub held_slots : Holds
held_slots bytes job lent b are formed ran =
    as_read bytes job lent b are formed ran (λ f b. HeldBy f job.requests job.build b) (λ l laid. held-laid bytes job l are formed laid)
