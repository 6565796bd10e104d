-- Raw numbers below the nodes' stay below them once literals are numbers, in the definitions and in the one table. Assumes nothing.
use mathlib.Core.Bool.{not}
use mathlib.Core.List.{List, [], ◌∷◌, ◌++◌, map}
use Prim.Native.Nat.{ℕ}
use Rattle.definition.specs.Shapes.{with_literal}
use Rattle.definition.specs.Job.{Definition, define, named, placed, setting}
use Rattle.definition.specs.Numbering.{Literal, entries, is_bootstrap, constants_of, bootstraps_of, numbered_entry, numbered_definition}
use Rattle.facts.proofs.Each.{Each, each_append, each_only}
use Rattle.laws.proofs.Form.RawNumbersLow.{KidsLow, DefLow}

pub numbered-low : (all : List Literal) (l : List (Definition (List ℕ))) → Each DefLow l → Each DefLow (map (numbered_definition all) l)
unfolding numbered_definition numbered_entry with_literal
numbered-low all [] h = tt
numbered-low all (define e ∷ l) h = (h.0, numbered-low all l h.1)
numbered-low all (named kind s r ∷ l) h = (h.0, numbered-low all l h.1)
numbered-low all (placed kind at number ∷ l) h = (tt, numbered-low all l h.1)
numbered-low all (setting rule ∷ l) h = (tt, numbered-low all l h.1)

entries-low : {L : Type 0} (l : List (Definition L)) → Each DefLow l → Each KidsLow (entries l)
unfolding entries
entries-low [] h = tt
entries-low (define e ∷ l) h = (h.0, entries-low l h.1)
entries-low (named kind s r ∷ l) h = entries-low l h.1
entries-low (placed kind at number ∷ l) h = entries-low l h.1
entries-low (setting rule ∷ l) h = entries-low l h.1

-- a job's one table: its entries are low, and cost what the job's entries do
pub table_low :
    (l : List (Definition ℕ)) → Each DefLow l → Each KidsLow (constants_of l ++ bootstraps_of l)
unfolding constants_of bootstraps_of
table_low l h =
    each_append
    KidsLow
    (constants_of l)
    (bootstraps_of l)
    (each_only KidsLow (λ e. not (is_bootstrap e)) (entries l) (entries-low l h))
    (each_only KidsLow is_bootstrap (entries l) (entries-low l h))
