-- The pool that building starts from holds constants to the version that the form pass counted. Assumes nothing.
use mathlib.Core.List.{List}
use mathlib.Core.Path.{◌≡◌, ◌∙◌}
use Prim.Native.Nat.{ℕ}
use Rattle.definition.specs.Definitions.{Defined}
use Rattle.definition.specs.Building.{Pool}
use Rattle.definition.specs.Layout.{Ready}
use Rattle.laws.proofs.Building.VersionsKept.{ended_version, answers_version}
use Rattle.slots.specs.Gaps.{GapTable}
use Rattle.store.specs.Store.{Store}
use Rattle.store.specs.JobIn.{counts_in}
use Rattle.store.specs.Regions.{ANSWERS}
use Rattle.definitions.proofs.Versions.{version_counted}
use Rattle.pool.specs.Replying.{ready_in}
use Rattle.requests.specs.Asked.{Asked}
use Rattle.builder.proofs.Stages.{asked_is}

pub held-version :
    (p : List ℕ) (top : ℕ) (s : List ℕ) (t : Store) (g : GapTable) (d : Defined) (ready : Ready) (pool : Pool) → Asked p top s t g d ready pool →
    pool.version ≡ (counts_in s).version
held-version p top s t g d ready pool a =
    answers_version _ _ _ _ ready (t ANSWERS, ready_in s t pool) (asked_is top s d ready (t ANSWERS) (ready_in s t pool) a.is_asked a.is_defined a.is_ready)
    ∙ ended_version top _ _ d ready a.is_ready
    ∙ version_counted top s d a.is_defined
