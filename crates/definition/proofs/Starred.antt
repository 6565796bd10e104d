-- The starred jobs, computed. Assumes nothing.
use mathlib.Core.List.{map}
use mathlib.Core.Path.{◌≡◌, refl}
use Rattle.definition.specs.Opened.{opened}
use Rattle.definition.specs.Starred.{digit, bytes, prints, stated, starred}

-- STARRED: every starred job gives what document 01 says
pub starred_hold : map prints starred ≡ map stated starred
unfolding opened digit bytes prints stated starred
starred_hold = refl
