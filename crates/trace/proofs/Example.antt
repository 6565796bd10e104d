-- A pool and traces over it, computed by the definition. Assumes nothing.
use mathlib.Core.Bool.{true, false}
use mathlib.Core.List.{List, [], ◌∷◌}
use mathlib.Core.Option.{some}
use mathlib.Core.Path.{◌≡◌, refl}
use Prim.Native.Nat.{ℕ}
use lib.ListN.{length}
use borrow.Author.Tests.{eq-eqb}
use Rattle.definition.specs.Basics.{good, bad, from}
use Rattle.jvms.specs.Pool.{u1, u2, u4, array, structures, structure, cp_info_lem, takes_two, slots, constant_pool, wholly, read_pool_lem, Slot, usable, unusable, Utf8, Class, Long}
use Rattle.places.specs.Standing.{tag, slot_of}
use Rattle.trace.specs.Trace.{some-from, behind-last, how_many, begins, holds, well_formed, clears-at, left, finds_at, flag, succeeds, fails, rests, report, run-over, run-read, run}

unfoldable all_of_it : Unit {0}
unfolding from u1 u2 u4 array structures structure cp_info_lem takes_two slots constant_pool wholly read_pool_lem tag slot_of some-from behind-last how_many begins well_formed clears-at left finds_at flag succeeds fails rests report run-over run-read run
all_of_it = tt

-- a text at slot 1, a class at 2, and at 3 a long, which takes 4 too
pool : List ℕ
pool = 0 ∷ 5 ∷ 1 ∷ 0 ∷ 1 ∷ 65 ∷ 7 ∷ 0 ∷ 1 ∷ 5 ∷ 0 ∷ 0 ∷ 0 ∷ 0 ∷ 0 ∷ 0 ∷ 0 ∷ 9 ∷ []

standing : List Slot
standing = usable (Utf8 (65 ∷ [])) ∷ usable (Class 1) ∷ usable (Long 0 9) ∷ unusable ∷ []

pool_read : read_pool_lem pool ≡ some standing
unfolding all_of_it pool standing
pool_read = refl

-- flags of the slots 0 to 5: 0, 2 and 4 are set at the start
lent : List ℕ
lent = 7 ∷ 0 ∷ 9 ∷ 0 ∷ 1 ∷ 0 ∷ []

-- Slot 1 fails with a wrong tag and then succeeds with its own, and after that with any. Slot 2 rests on its flag until its own tag was looked
-- up. Nothing begins at slots 4 and 0, whose flags let the look-ups pass until cleared, nor at slot 5, where tag 0 isn't found either.
trace : List ℕ
trace =
    0 ∷ 7 ∷ 0 ∷ 1
    ∷ 0 ∷ 1 ∷ 0 ∷ 1
    ∷ 0 ∷ 7 ∷ 0 ∷ 1
    ∷ 0 ∷ 8 ∷ 0 ∷ 2
    ∷ 0 ∷ 7 ∷ 0 ∷ 2
    ∷ 0 ∷ 8 ∷ 0 ∷ 2
    ∷ 1 ∷ 8 ∷ 0 ∷ 3
    ∷ 0 ∷ 5 ∷ 0 ∷ 4
    ∷ 1 ∷ 7 ∷ 0 ∷ 4
    ∷ 0 ∷ 5 ∷ 0 ∷ 4
    ∷ 0 ∷ 5 ∷ 0 ∷ 3
    ∷ 0 ∷ 0 ∷ 0 ∷ 0
    ∷ 0 ∷ 0 ∷ 0 ∷ 5
    ∷ []

told : report (holds standing) trace lent
    ≡ record { good_ones = 8; failed_ones = 3; resting_ones = 3; flags = 7 ∷ 1 ∷ 9 ∷ 1 ∷ 0 ∷ 0 ∷ [] }
unfolding all_of_it standing lent trace
told = refl

-- over this pool it is run from any 65,536 flags
fits : well_formed trace ≡ true
unfolding all_of_it trace
fits = refl

accepted : (flags : List ℕ) → length flags ≡ 65536 → run pool trace flags ≡ good (report (holds standing) trace flags)
unfolding run run-read run-over
accepted flags many = rw (pool_read, fits, eq-eqb (length flags) 65536 many, run-over)

-- the pool comes first, then a cut trace, an unknown action and too few flags
no_pool_lem : run (0 ∷ []) (0 ∷ []) lent ≡ bad 21
unfolding all_of_it
no_pool_lem = refl

cut : run pool (0 ∷ 1 ∷ 0 ∷ []) [] ≡ bad 28
unfolding all_of_it pool
cut = refl

few_flags : run pool (0 ∷ 1 ∷ 0 ∷ 1 ∷ []) lent ≡ bad 28
unfolding all_of_it pool lent
few_flags = refl

unknown_action : well_formed (0 ∷ 1 ∷ 0 ∷ 1 ∷ 2 ∷ 1 ∷ 0 ∷ 1 ∷ []) ≡ false
unfolding all_of_it
unknown_action = refl
