-- Which result the definition's run has in which case. Assumes nothing.
use mathlib.Core.Bool.{true, false}
use mathlib.Core.List.{List}
use mathlib.Core.Path.{◌≡◌, refl, ◌∙◌}
use Prim.Native.Nat.{ℕ, suc, ◌+◌, ◌≤◌, ◌<◌}
use borrow.Author.Tests.{le-leb, lt-leb}
use lib.ListN.{length}
use Rattle.definition.specs.Basics.{good, bad, Refusal}
use Rattle.definition.specs.Job.{Job}
use Rattle.definition.specs.Form.{form}
use Rattle.definition.specs.Numbering.{top_of, literals, numbered}
use Rattle.definition.specs.Layout.{Layout, layout}
use Rattle.definition.specs.Run.{render, build, Lent, lent_of, longest_job, enough, fits, run}
use Rattle.facts.proofs.Results.{passes, refuses}
use Rattle.cpool.specs.Ran.{Slices, memory_of}
use Rattle.cpool.specs.Stages.{outputs, room_of, fitted, onward}

-- 1, then 2, then what the records lead to
module _ (lent : Lent) (s : List ℕ) where
  pub too_long : longest_job < length s → run lent s ≡ bad (record { code = 1; place = 0 })
  unfolding run
  too_long h = refuses 0 1 _ _ (lt-leb (length s) longest_job h)

  pub too_short : length s ≤ longest_job → enough (length s) lent ≡ false → run lent s ≡ bad (record { code = 2; place = 0 })
  unfolding run
  too_short h e = passes 0 1 _ _ (le-leb (length s) longest_job h) ∙ refuses 0 2 _ _ e

  pub goes_on : length s ≤ longest_job → enough (length s) lent ≡ true → run lent s ≡ onward lent s
  unfolding run onward fitted
  goes_on h e = passes 0 1 _ _ (le-leb (length s) longest_job h) ∙ passes 0 2 _ _ e

  -- the form pass refuses
  pub not-formed : (r : Refusal) → form s ≡ bad r → onward lent s ≡ bad r
  unfolding onward build
  not-formed r e = rw e

  -- a record is refused, or all are laid out
  pub not-laid : (job : Job (List ℕ)) (r : Refusal) → form s ≡ good job → layout (top_of job) (numbered job) ≡ bad r → onward lent s ≡ bad r
  unfolding onward build
  not-laid job r e f = rw (e, f)

  pub laid :
      (job : Job (List ℕ)) (l : Layout) → form s ≡ good job → layout (top_of job) (numbered job) ≡ good l →
      onward lent s ≡ fitted lent (suc (length job.definitions + length job.requests)) (render (literals job) l)
  unfolding onward build
  laid job l e f = rw (e, f)

-- work and gaps are no question any more
pub onward-room : (m : Slices) (s : List ℕ) → onward (lent_of (memory_of m)) s ≡ onward (room_of (outputs m.answers m.marks m.pool m.bootstraps m.class)) s
unfolding onward fitted fits lent_of memory_of room_of
onward-room m s = refl
