-- BLOCKS REFUSED: reading is refused in the order 20, 1, 19, 1, 18: each exactly if its test is the first to fail. Assumes nothing.
use mathlib.Core.Bool.{Bool, true, false, ◌&&◌}
use mathlib.Core.List.{List, [], ◌∷◌}
use mathlib.Core.Logic.{◌⊎◌, inl, inr, ◌≢◌}
use mathlib.Core.Path.{◌≡◌, refl, sym, ap, ◌∙◌}
use Prim.Native.Nat.{ℕ, ◌%◌, ◌≤◌, ◌<◌}
use native.Mathlib.Nat.{zero-add}
use native.Mathlib.Omega.{arith}
use lib.Dec.{eqb, leb, ltb}
use lib.ListN.{length}
use borrow.Author.Tests.{eqb-false, ne_eqb, lt-ltb, leb-true, leb-false, le-leb, lt-leb}
use Rattle.definition.specs.Basics.{good, bad, Refusal, ◌>>=◌}
use Rattle.definition.specs.Run.{longest_job}
use Rattle.definition.specs.Blocks.{block_count, right_block, blocks_right, most_blocks, read_blocks}
use Rattle.facts.proofs.Lists.{clash}
use Rattle.facts.proofs.Results.{then_bad, guarded, passes, refuses, refused_by}
use Rattle.laws.specs.Statements.{BlocksRefused}
use Rattle.laws.proofs.Blocks.ReadingTests.{RightUpTo, accepts, accepted, first_wrong, is_wrong, job_in, room_test, blocks_test, count_test, whole_blocks, reading}

-- ---- the reasons, in the statement's words

abbrev refusal_at : ℕ → ℕ → Refusal
refusal_at code place = record { code = code; place = place }

-- the file is empty, or no multiple of 512 bytes
abbrev NoBlocks : List ℕ → Type 0
NoBlocks file = (file ≡ []) ⊎ (length file % 512 ≢ 0)

-- it isn't so, there are at most 2,081 blocks, and those before k are right
abbrev RightBefore : List ℕ → ℕ → Type 0
RightBefore file k =
    (NoBlocks file → ⊥) × (block_count file ≤ most_blocks) × ((j : ℕ) → j < k → right_block (block_count file) file j ≡ true)

abbrev TooMany : List ℕ → Type 0
TooMany file = (NoBlocks file → ⊥) × (most_blocks < block_count file)

abbrev FirstWrong : List ℕ → ℕ → Type 0
FirstWrong file k = RightBefore file k × (k < block_count file) × (right_block (block_count file) file k ≡ false)

abbrev TooLong : List ℕ → Type 0
TooLong file = RightBefore file (block_count file) × (longest_job < length (job_in file))

abbrev NoRoom : ℕ → List ℕ → Type 0
NoRoom room file = RightBefore file (block_count file) × (length (job_in file) ≤ longest_job) × (room < length (job_in file))

-- ---- the test for 20

-- it fails if there are no blocks, and only then
no_whole : (file : List ℕ) → NoBlocks file → whole_blocks file ≡ false
no_whole file (inl e) = rw e
no_whole file (inr h) = go (ltb 0 (length file))
  where
    go : (t : Bool) → t && eqb (length file % 512) 0 ≡ false
    go true = ne_eqb (length file % 512) 0 h
    go false = refl

whole-no : (file : List ℕ) → whole_blocks file ≡ false → NoBlocks file
whole-no [] e = inl refl
whole-no (b ∷ file) e = inr (eqb-false (length (b ∷ file) % 512) 0 (rw (lt-ltb 0 (length (b ∷ file)) (omega arith)) at e))

-- it passes otherwise, and only then
is_whole : (file : List ℕ) → (NoBlocks file → ⊥) → whole_blocks file ≡ true
is_whole file h = go (whole_blocks file) refl
  where
    go : (t : Bool) → whole_blocks file ≡ t → whole_blocks file ≡ true
    go true e = e
    go false e = absurd (h (whole-no file e))

whole_is : (file : List ℕ) → whole_blocks file ≡ true → NoBlocks file → ⊥
whole_is file e h =
    let e' = no_whole file h in
    clash (cc)

-- ---- a refusal has one of the reasons

data Refused (room : ℕ) (file : List ℕ) (r : Refusal) : Type 0 where
  no_blocks : NoBlocks file → r ≡ refusal_at 20 0 → Refused room file r
  too_many : TooMany file → r ≡ refusal_at 1 0 → Refused room file r
  wrong : (k : ℕ) → FirstWrong file k → r ≡ refusal_at 19 k → Refused room file r
  too_long_lem : TooLong file → r ≡ refusal_at 1 0 → Refused room file r
  no_room_lem : NoRoom room file → r ≡ refusal_at 18 0 → Refused room file r

-- the blocks before k are those up to k from block 0 on
up : (file : List ℕ) (k : ℕ) → RightBefore file k → RightUpTo (block_count file) file 0 k
up file k h j low = rw zero-add (h.2 j low)

-- it stands at the last tests, at the blocks or later, at their number or later, or anywhere
module _ (room : ℕ) (file : List ℕ) (r : Refusal) where
  why_room : RightBefore file (block_count file) → room_test room (job_in file) ≡ bad r → Refused room file r
  why_room all e = long (refused_by 0 1 (guarded (leb l room) 0 18 (good (job_in file))) (leb l longest_job) r e)
    where
      l : ℕ
      l = length (job_in file)

      full :
          leb l longest_job ≡ true →
          ((leb l room ≡ false) × (refusal_at 18 0 ≡ r)) ⊎ ((leb l room ≡ true) × (good (job_in file) ≡ bad r)) →
          Refused room file r
      full short (inl x) = no_room_lem (all, leb-true l longest_job short, leb-false l room x.0) (sym x.1)
      full short (inr x) = clash (cc x.1)

      long :
          ((leb l longest_job ≡ false) × (refusal_at 1 0 ≡ r))
          ⊎ ((leb l longest_job ≡ true) × (guarded (leb l room) 0 18 (good (job_in file)) ≡ bad r)) →
          Refused room file r
      long (inl x) = too_long_lem (all, leb-false l longest_job x.0) (sym x.1)
      long (inr x) = full x.0 (refused_by 0 18 (good (job_in file)) (leb l room) r x.1)

  why_blocks : (NoBlocks file → ⊥) → block_count file ≤ most_blocks → blocks_test room file ≡ bad r → Refused room file r
  why_blocks w few e =
      elim (then_bad (room_test room (job_in file)) (blocks_right (block_count file) file (block_count file) 0) r e) [
        | inl x ↦
            (let (k, low, before, not_right, is) = is_wrong (block_count file) file (block_count file) 0 r x in
            wrong k (right k before, low, rw zero-add at not_right) (rw zero-add at is))
        | inr x ↦ why_room (right (block_count file) (accepted (block_count file) file (block_count file) 0 x.0)) x.1
      ]
    where
      right : (k : ℕ) → RightUpTo (block_count file) file 0 k → RightBefore file k
      right k h = (w, few, λ j low. rw zero-add at (h j low))

  why_count : (NoBlocks file → ⊥) → count_test room file ≡ bad r → Refused room file r
  why_count w e =
      elim (refused_by 0 1 (blocks_test room file) (leb (block_count file) most_blocks) r e) [
        | inl x ↦ too_many (w, leb-false (block_count file) most_blocks x.0) (sym x.1)
        | inr x ↦ why_blocks w (leb-true (block_count file) most_blocks x.0) x.1
      ]

  why : read_blocks room file ≡ bad r → Refused room file r
  why e =
      elim (refused_by 0 20 (count_test room file) (whole_blocks file) r (rw reading at e)) [
        | inl x ↦ no_blocks (whole-no file x.0) (sym x.1)
        | inr x ↦ why_count (whole_is file x.0) x.1
      ]

-- and each reason is met by its refusal: the tests before it pass
module _ (room : ℕ) (file : List ℕ) where
  to_count : (NoBlocks file → ⊥) → read_blocks room file ≡ count_test room file
  to_count w = reading room file ∙ passes 0 20 (count_test room file) (whole_blocks file) (is_whole file w)

  to_blocks : (k : ℕ) → RightBefore file k → read_blocks room file ≡ blocks_test room file
  to_blocks k h =
      to_count h.0
      ∙ passes 0 1 (blocks_test room file) (leb (block_count file) most_blocks) (le-leb (block_count file) most_blocks h.1)

  to_room : RightBefore file (block_count file) → read_blocks room file ≡ room_test room (job_in file)
  to_room all =
      to_blocks (block_count file) all
      ∙ ap (λ o. o >>= λ _. room_test room (job_in file)) (accepts (block_count file) file (block_count file) 0 (up file (block_count file) all))

  because : (r : Refusal) → Refused room file r → read_blocks room file ≡ bad r
  because r (no_blocks h q) = rw q (reading room file ∙ refuses 0 20 (count_test room file) (whole_blocks file) (no_whole file h))
  because r (too_many h q) =
      rw q
      (to_count h.0
      ∙ refuses 0 1 (blocks_test room file) (leb (block_count file) most_blocks) (lt-leb (block_count file) most_blocks h.1))
  because r (wrong k h q) =
      let n = block_count file in
      rw q
      (to_blocks k h.0
      ∙ ap (λ o. o >>= λ _. room_test room (job_in file))
      (rw zero-add at (first_wrong n file n 0 k h.1 (up file k h.0) (rw zero-add h.2))))
  because r (too_long_lem h q) =
      let l = length (job_in file) in
      rw q
      (to_room h.0
      ∙ refuses 0 1 (guarded (leb l room) 0 18 (good (job_in file))) (leb l longest_job) (lt-leb l longest_job h.1))
  because r (no_room_lem h q) =
      let l = length (job_in file) in
      rw q
      (to_room h.0
      ∙ passes 0 1 (guarded (leb l room) 0 18 (good (job_in file))) (leb l longest_job) (le-leb l longest_job h.1)
      ∙ refuses 0 18 (good (job_in file)) (leb l room) (lt-leb l room h.2))

-- ---- the statement, proved

-- equal refusals have one number and one place
codes : {r s : Refusal} → r ≡ s → r.code ≡ s.code
codes e = ap (λ (r : Refusal). r.code) e

places : {r s : Refusal} → r ≡ s → r.place ≡ s.place
places e = ap (λ (r : Refusal). r.place) e

pub blocks_refused : BlocksRefused
unfolding job_in
blocks_refused room file k = (
  (λ e. twenty (why room file (refusal_at 20 0) e), λ h. because room file (refusal_at 20 0) (no_blocks h refl)),
  (λ e. nineteen (why room file (refusal_at 19 k) e), λ h. because room file (refusal_at 19 k) (wrong k h refl)),
  (λ e. one (why room file (refusal_at 1 0) e), back),
  (λ e. eighteen (why room file (refusal_at 18 0) e), λ h. because room file (refusal_at 18 0) (no_room_lem h refl)),
)
  where
    twenty : Refused room file (refusal_at 20 0) → NoBlocks file
    twenty (no_blocks h q) = h
    twenty (too_many h q) = absurd (omega (arith, codes q))
    twenty (wrong k h q) = absurd (omega (arith, codes q))
    twenty (too_long_lem h q) = absurd (omega (arith, codes q))
    twenty (no_room_lem h q) = absurd (omega (arith, codes q))

    nineteen : Refused room file (refusal_at 19 k) → FirstWrong file k
    nineteen (no_blocks h q) = absurd (omega (arith, codes q))
    nineteen (too_many h q) = absurd (omega (arith, codes q))
    nineteen (wrong i h q) = rw (places q) h
    nineteen (too_long_lem h q) = absurd (omega (arith, codes q))
    nineteen (no_room_lem h q) = absurd (omega (arith, codes q))

    one : Refused room file (refusal_at 1 0) → TooMany file ⊎ TooLong file
    one (no_blocks h q) = absurd (omega (arith, codes q))
    one (too_many h q) = inl h
    one (wrong k h q) = absurd (omega (arith, codes q))
    one (too_long_lem h q) = inr h
    one (no_room_lem h q) = absurd (omega (arith, codes q))

    back : TooMany file ⊎ TooLong file → read_blocks room file ≡ bad (refusal_at 1 0)
    back (inl h) = because room file (refusal_at 1 0) (too_many h refl)
    back (inr h) = because room file (refusal_at 1 0) (too_long_lem h refl)

    eighteen : Refused room file (refusal_at 18 0) → NoRoom room file
    eighteen (no_blocks h q) = absurd (omega (arith, codes q))
    eighteen (too_many h q) = absurd (omega (arith, codes q))
    eighteen (wrong k h q) = absurd (omega (arith, codes q))
    eighteen (too_long_lem h q) = absurd (omega (arith, codes q))
    eighteen (no_room_lem h q) = h
