-- The table at the end: its length, and what stands at each index, where holes repeat the next raw row above them. Assumes nothing.
use mathlib.Core.List.{List, [], ◌∷◌, ◌++◌}
use mathlib.Core.Logic.{⊎_elim}
use mathlib.Core.Option.{some}
use mathlib.Core.Path.{◌≡◌, refl, subst, ◌∙◌}
use Prim.Native.Nat.{ℕ, zero, suc, ◌+◌, ◌-◌, ◌≤◌, ◌<◌}
use native.Mathlib.Omega.{arith}
use lib.ListN.{length, get_elem?, replicate}
use Rattle.definition.specs.Basics.{from}
use Rattle.definition.specs.Building.{Row, fill_holes}
use Rattle.facts.proofs.Lists.{place_behind, found_append, length-filled, equal}

-- what is written stays
pub fill_keeps : (written : List Row) (waiting : List (ℕ × Row)) (i : ℕ) (row : Row) → get_elem? written i ≡ some row → get_elem? (fill_holes written waiting) i ≡ some row
unfolding fill_holes
fill_keeps written [] i row h = h
fill_keeps written (r ∷ waiting) i row h =
    fill_keeps (written ++ replicate (suc r.0 - length written) r.1) waiting i row
    (found_append written (replicate (suc r.0 - length written) r.1) i row h)

copies : {A : Type 0} (n i : ℕ) (a : A) → i < n → get_elem? (replicate n a) i ≡ some a
copies zero i a h = absurd (omega arith)
copies (suc n) zero a h = refl
copies (suc n) (suc i) a h = copies n i a (omega arith)

filled_at :
    (written : List Row) (top i : ℕ) (row : Row) → length written ≤ i → i ≤ top →
    get_elem? (written ++ replicate (suc top - length written) row) i ≡ some row
filled_at written top i row low high =
    let z : length written + (i - length written) ≡ i = omega arith in
    subst (λ (x : ℕ). get_elem? (written ++ replicate (suc top - length written) row) x ≡ some row) z
    (place_behind written (replicate (suc top - length written) row) (i - length written) ∙ copies (suc top - length written) (i - length written) row (omega arith))

module _ (raw : ℕ → ℕ × Row) where
  -- raw rows from w on, m of them, have rising indexes behind what is written
  abbrev pub Behind : List Row → ℕ → ℕ → Type 0
  Behind written w m =
      ((i : ℕ) → w ≤ i → i < w + m → length written ≤ (raw i).0) × ((i j : ℕ) → w ≤ i → i < j → j < w + m → (raw i).0 < (raw j).0)

  abbrev longer : List Row → ℕ → List Row
  longer written w = written ++ replicate (suc (raw w).0 - length written) (raw w).1

  longer_is : (written : List Row) (w m : ℕ) → Behind written w (suc m) → length (longer written w) ≡ suc (raw w).0
  longer_is written w m b = length-filled written (raw w).0 (raw w).1 (b.0 w (omega arith) (omega arith))

  behind-next : (written : List Row) (w m : ℕ) → Behind written w (suc m) → Behind (longer written w) (suc w) m
  behind-next written w m b = (
    λ i a l. omega (arith, longer_is written w m b, b.1 w i (omega arith) (omega arith) (omega arith)),
    λ i j a l h. b.1 i j (omega arith) l (omega arith),
  )

  pub fill_length : (m : ℕ) (written : List Row) (w : ℕ) → Behind written w (suc m) → length (fill_holes written (from raw w (suc m))) ≡ suc (raw (w + m)).0
  unfolding fill_holes from
  fill_length zero written w b = let z : w + 0 ≡ w = omega arith in rw z (longer_is written w 0 b)
  fill_length (suc m) written w b =
      let z : w + suc m ≡ suc w + m = omega arith in
      rw z (fill_length m (longer written w) (suc w) (behind-next written w (suc m) b))

  -- the first raw row whose index isn't below one stands at it
  pub fill_at :
      (m : ℕ) (written : List Row) (w i j : ℕ) → Behind written w m → length written ≤ i → w ≤ j → j < w + m → i ≤ (raw j).0 →
      ((x : ℕ) → w ≤ x → x < j → (raw x).0 < i) → get_elem? (fill_holes written (from raw w m)) i ≡ some (raw j).1
  unfolding fill_holes from
  fill_at zero written w i j b low a l h f = absurd (omega arith)
  fill_at (suc m) written w i j b low a l h f =
      ⊎_elim
      (λ (z : w ≡ j).
      fill_keeps (longer written w) (from raw (suc w) m) i (raw j).1
      (rw (← z) (filled_at written (raw w).0 i (raw w).1 low (rw z h))))
      (λ (z : w ≡ j → ⊥).
      fill_at m (longer written w) (suc w) i j (behind-next written w m b) (omega (arith, longer_is written w m b, f w (omega arith) (omega arith))) (omega arith) (omega arith) h
      (λ x c d. f x (omega arith) d))
      (equal w j)
