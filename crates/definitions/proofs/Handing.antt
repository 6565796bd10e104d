-- What the stages around record 50 hand on: the start leaves nothing resolved, and record 50 is the definition's. Assumes nothing.
use mathlib.Core.List.{List}
use mathlib.Core.Path.{◌≡◌, refl, ap, ◌∙◌}
use Prim.Native.Nat.{ℕ, zero, suc, ◌<◌}
use native.Mathlib.Omega.{arith}
use lib.ListN.{length, length-map}
use Rattle.definition.specs.Basics.{good, bad, ◌>>=◌}
use Rattle.definition.specs.Numbering.{constants_of, literals, numbered_entry}
use Rattle.definition.specs.Definitions.{Defined}
use Rattle.definition.specs.Layout.{end_definitions}
use Rattle.laws.proofs.Numbering.NumberedCited.{constants_numbered_lem}
use Rattle.store.specs.Store.{Store}
use Rattle.store.specs.JobIn.{job_in, definitions_in, constants_in, linked_in}
use Rattle.store.specs.Regions.{MARKS, NODE-HEADS, COUNTS, NODE-COUNT, VISITS, Work}
use Rattle.resolver.specs.Resolved.{resolved_in, told}
use Rattle.definitions.specs.Defining.{records_in, Defines, Zeros}
use Rattle.definitions.specs.Ending.{goals_of, Fresh, Ended}
use Rattle.definitions.specs.Begun.{ready_from}
use Rattle.definitions.proofs.Rooms.{room}

-- the definitions leave marks, nodes and visits as they were
pub fresh_still : (p : List ℕ) (top : ℕ) (s : List ℕ) (t u : Store) (r : ℕ) → Work s p → Zeros p t → Defines p top s t u r → Fresh p u
unfolding Zeros Fresh
fresh_still p top s t u r work zeros done =
    let m = room s p work in (
      λ i l. rw (done.kept MARKS refl) (zeros MARKS (omega arith) i l),
      λ i l. rw (done.kept NODE-HEADS refl) (zeros NODE-HEADS (omega arith) i l),
      done.counters NODE-COUNT (omega arith) ∙ zeros COUNTS (omega arith) NODE-COUNT (omega (arith, m.counts)),
      done.counters VISITS (omega arith) ∙ zeros COUNTS (omega arith) VISITS (omega (arith, m.counts)),
    )

-- the constants of the numbered job are as many
pub constants_many : (s : List ℕ) → length (constants_of (records_in s)) ≡ constants_in s
unfolding records_in definitions_in
constants_many s = ap length (constants_numbered_lem (job_in s)) ∙ length-map (constants_of (job_in s).definitions) (numbered_entry (literals (job_in s)))

-- record 50, as the definition ends the definitions
module _ (p : List ℕ) (top : ℕ) (s : List ℕ) (t u : Store) (d : Defined) (r : ℕ) (ended : Ended p top s t u d r) where
  whole : end_definitions top (linked_in s) (constants_in s) d ≡ (told r (resolved_in s u) >>= λ state. good (ready_from top s d state))
  unfolding end_definitions goals_of
  whole = ap (λ x. x >>= λ state. good (ready_from top s d state)) ended.is

  pub ended_good : r ≡ 0 → end_definitions top (linked_in s) (constants_in s) d ≡ good (ready_from top s d (resolved_in s u))
  unfolding told
  ended_good e = whole ∙ ap (λ m. told m (resolved_in s u) >>= λ state. good (ready_from top s d state)) e

  pub ended_bad : 0 < r → end_definitions top (linked_in s) (constants_in s) d ≡ bad r
  unfolding told
  ended_bad h = whole ∙ refused r h
    where
      refused : (r : ℕ) → 0 < r → (told r (resolved_in s u) >>= λ state. good (ready_from top s d state)) ≡ bad r
      refused zero h = absurd (omega arith)
      refused (suc code) h = refl
