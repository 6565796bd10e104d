-- The newest version has every kind of constant. Assumes nothing.
use mathlib.Core.Bool.{Bool, true, false}
use mathlib.Core.Option.{Option, none, some}
use mathlib.Core.Path.{◌≡◌, refl}
use Prim.Native.Nat.{ℕ, ◌≤◌}
use native.Mathlib.Omega.{arith}
use lib.Dec.{eqb, leb}
use borrow.Author.Tests.{le-leb}
use Rattle.definition.specs.Basics.{lookup}
use Rattle.definition.specs.Settings.{since, known}

-- a version has a kind whose row is the next one or stands behind it, if it has that row's
row_known :
    (v first : ℕ) (b : Bool) (rest : Option ℕ) → first ≤ v →
    elim rest [ none ↦ true | some first ↦ leb first v ] ≡ true →
    elim (elim b as (λ _. Option ℕ) [ true ↦ some first | false ↦ rest ]) [ none ↦ true | some first ↦ leb first v ] ≡ true
row_known v first true rest low others = le-leb first v low
row_known v first false rest low others = others

pub newest-known : (v tag : ℕ) → 55 ≤ v → known v tag ≡ true
unfolding lookup since known
newest-known v tag new =
    row_known v 51 (eqb tag 15) _ (omega arith)
    (row_known v 51 (eqb tag 16) _ (omega arith)
    (row_known v 55 (eqb tag 17) _ (omega arith)
    (row_known v 51 (eqb tag 18) _ (omega arith)
    (row_known v 53 (eqb tag 19) _ (omega arith)
    (row_known v 53 (eqb tag 20) _ (omega arith) refl)))))
