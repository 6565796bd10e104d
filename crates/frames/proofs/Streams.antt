-- What is known of bytes that are read (specs/Stream.antt). Assumes nothing.
use mathlib.Core.Bool.{Bool, true, false}
use mathlib.Core.List.{List, ◌++◌}
use mathlib.Core.Logic.{inl, inr}
use mathlib.Core.Path.{◌≡◌, refl, sym, ◌∙◌}
use Prim.Native.Nat.{ℕ, ◌≤◌, ◌<◌}
use native.Mathlib.Omega.{arith}
use lib.Dec.{eqb}
use lib.ListN.{length, take, drop}
use lib.Seq.{drop_at, length-take-le}
use borrow.Author.Tests.{eq-eqb}
use Rattle.facts.proofs.Lists.{order, true≢false}
use Rattle.frames.specs.Stream.{no_more, cut, too_long_lem, PartRead, BlockRead}

-- there are fewer bytes than are to be read
pub too_few : (s : List ℕ) (n : ℕ) → length s < n → PartRead s n s false
too_few s n h = record { behind = refl; fewer = λ _. (refl, refl); nothing = λ e. absurd (omega arith) }

-- the first n bytes were lent, and so many of them came
pub lent :
    (s : List ℕ) (n : ℕ) (part : List ℕ) (got : ℕ) → n ≤ length s → length part ≡ length (take n s) → got ≤ length part
    → PartRead s n (part ++ drop n s) (eqb got n)
lent s n part got inside same some =
    let long : length part ≡ n = same ∙ length-take-le n s inside in
    record {
      behind = drop_at part (drop n s) n long;
      fewer = λ h. absurd (omega arith);
      nothing = λ e. eq-eqb got n (omega arith);
    }

-- the stream ends before a block, or inside its length
pub no_block : (s : List ℕ) (r : ℕ) → no_more ≤ r → r ≤ cut → BlockRead s s r
no_block s r low high = record { whole = λ h. absurd (omega arith); ended = λ _. refl; most = high }

-- all of a block came
pub all_block : (s t : List ℕ) (n : ℕ) (all : Bool) → n < no_more → PartRead s n t all → all ≡ true → BlockRead s t n
all_block s t n all low part came =
    let fits : n ≤ length s = elim (order (length s) n) [ inl h ↦ true≢false (sym came ∙ (part.fewer h).0) | inr h ↦ h ] in
    record { whole = λ _. (fits, part.behind); ended = λ e. absurd (omega arith); most = omega arith }

-- a block is cut
pub cut-block : (s t : List ℕ) → BlockRead s t cut
cut-block s t = record { whole = λ h. absurd (omega arith); ended = λ e. absurd (omega arith); most = omega arith }

-- a block that is skipped, whole or cut
pub late_block : (s t : List ℕ) (r : ℕ) → cut ≤ r → r < too_long_lem → BlockRead s t r
late_block s t r low high = record { whole = λ h. absurd (omega arith); ended = λ e. absurd (omega arith); most = omega arith }
