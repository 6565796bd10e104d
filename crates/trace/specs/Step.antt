-- What one step makes of the flag of its slot, and of the counts, for the contracts of the code's parts. Assumes nothing.
use Rattle.std.specs.Prelude.{Bool, true, false, not, ◌&&◌, ◌||◌, ℕ, eqb}

-- a flag behind a step that clears it, or that is a look-up which finds its tag, or neither
unfoldable pub next : Bool → Bool → ℕ → ℕ
next true finds x = 0
next false true x = elim (eqb x 0) [ true ↦ 1 | false ↦ x ]
next false false x = x

-- the flag of the step's own slot behind a step, by its action and whether its tag is right
abbrev pub flag_behind : ℕ → Bool → ℕ → ℕ
flag_behind action right x = next (eqb action 1) (eqb action 0 && right) x

-- a step is a look-up that succeeds
abbrev pub passes_by : ℕ → Bool → ℕ → Bool
passes_by action right x = eqb action 0 && (not (eqb x 0) || right)

-- what a step adds to a count
unfoldable pub one : Bool → ℕ
one true = 1
one false = 0
