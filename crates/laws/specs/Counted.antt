-- How many entries of each kind definitions have. Assumes nothing.
use Rattle.std.specs.Prelude.{List, ℕ, length}
use Rattle.definition.specs.Shapes.{Kind, constant, bootstrap}
use Rattle.definition.specs.Job.{Definition}
use Rattle.definition.specs.Numbering.{constants_of, bootstraps_of}

unfoldable pub count_in : {L : Type 0} → Kind → List (Definition L) → ℕ
count_in constant ds = length (constants_of ds)
count_in bootstrap ds = length (bootstraps_of ds)
