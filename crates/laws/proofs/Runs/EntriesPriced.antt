-- Entries and their references counted together: the one table of a job costs what its entries do, and numbers for literals change nothing.
-- Assumes nothing.
use mathlib.Core.Bool.{Bool, true, false, not}
use mathlib.Core.List.{List, [], ◌∷◌, ◌++◌, map}
use mathlib.Core.Path.{◌≡◌, refl}
use Prim.Native.Nat.{ℕ, suc, ◌+◌}
use native.Mathlib.Omega.{arith}
use lib.ListN.{length, length-append, length-map}
use Rattle.definition.specs.Basics.{only, concat}
use Rattle.definition.specs.Shapes.{Entry, with_kids, with_literal}
use Rattle.definition.specs.Job.{Reference, Definition, define, named, placed, setting}
use Rattle.definition.specs.Numbering.{Literal, entries, is_bootstrap, constants_of, bootstraps_of, numbered_entry, numbered_definition}
use Rattle.definition.specs.Definitions.{Naming}
use Rattle.definition.specs.Resolving.{goal_of, fuel_for, linked}
use Rattle.laws.specs.Statements.{is_raw}
use Rattle.laws.proofs.Definitions.DefinitionRefusals.{raw_one, raws}

-- entries and their references together
unfoldable pub priced : {L R : Type 0} → List (Entry L R) → ℕ
priced [] = 0
priced (x ∷ l) = suc (length x.kids) + priced l

priced_append : {L R : Type 0} (k l : List (Entry L R)) → priced (k ++ l) ≡ priced k + priced l
unfolding priced
priced_append [] l = omega arith
priced_append (x ∷ k) l = let ih = priced_append k l in omega arith

-- those that fail a test and those that pass it are all
priced_only :
    {L R : Type 0} (p : Entry L R → Bool) (l : List (Entry L R)) → priced (only (λ e. not (p e)) l) + priced (only p l) ≡ priced l
unfolding priced only
priced_only p [] = refl
priced_only p (x ∷ l) = go (p x) refl (priced_only p l)
  where
    go :
        (b : Bool) →
        p x ≡ b →
        priced (only (λ e. not (p e)) l) + priced (only p l) ≡ priced l →
        priced (only (λ e. not (p e)) (x ∷ l)) + priced (only p (x ∷ l)) ≡ priced (x ∷ l)
    go true e ih = rw (e, only) (omega arith)
    go false e ih = rw (e, only) (omega arith)

pub fuel_for-linked : (names : List Naming) (constants : ℕ) (table : List (Entry ℕ Reference)) → fuel_for (linked names constants table) ≡ suc (priced table)
unfolding linked with_kids fuel_for priced
fuel_for-linked names constants [] = refl
fuel_for-linked names constants (x ∷ table) =
    let ih = fuel_for-linked names constants table in
    omega (arith, length-map x.kids (goal_of names constants))

-- the literals' numbers change none of the counts
pub priced_numbered :
    (all : List Literal) (l : List (Definition (List ℕ))) →
    priced (entries (map (numbered_definition all) l)) ≡ length (entries l) + length (concat (map (λ e. e.kids) (entries l)))
unfolding entries numbered_definition numbered_entry with_literal priced concat
priced_numbered all [] = refl
priced_numbered all (define e ∷ l) =
    omega (arith, priced_numbered all l, length-append e.kids (concat (map (λ e. e.kids) (entries l))))
priced_numbered all (named kind s r ∷ l) = priced_numbered all l
priced_numbered all (placed kind at number ∷ l) = priced_numbered all l
priced_numbered all (setting rule ∷ l) = priced_numbered all l

pub raws_numbered : (all : List Literal) (l : List (Definition (List ℕ))) → raws (map (numbered_definition all) l) ≡ length (only is_raw l)
unfolding numbered_definition raw_one raws only is_raw
raws_numbered all [] = refl
raws_numbered all (define e ∷ l) = let ih = raws_numbered all l in omega arith
raws_numbered all (named kind s r ∷ l) = let ih = raws_numbered all l in omega arith
raws_numbered all (placed kind at number ∷ l) = let ih = raws_numbered all l in omega arith
raws_numbered all (setting rule ∷ l) = let ih = raws_numbered all l in omega arith

pub table_priced : (l : List (Definition ℕ)) → priced (constants_of l ++ bootstraps_of l) ≡ priced (entries l)
unfolding constants_of bootstraps_of
table_priced l = rw priced_append (priced_only is_bootstrap (entries l))
