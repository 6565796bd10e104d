-- How the gaps of a pool lie. Assumes nothing.
use Rattle.std.specs.Prelude.{List, [], ◌∷◌, ℕ, suc, ◌≤◌}
use Rattle.definition.specs.Slots.{Gap}

-- the gaps lie apart: from a slot on they rise, with a slot between any two, up to the highest slot
abbrev pub Apart : ℕ → ℕ → List Gap → Type 0
Apart top low [] = Unit {0}
Apart top low (g ∷ gaps) = (low ≤ g.first) × (g.first ≤ suc g.last) × (g.last ≤ top) × Apart top (suc (suc g.last)) gaps
