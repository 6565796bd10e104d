-- A part of a list, and copies of lists into another (`paste`, `overwrite`), one behind the other. Assumes nothing.
use mathlib.Core.Path.{◌≡◌, refl, sym, ap, ◌∙◌}
use mathlib.Core.List.{List, ◌++◌, append_assoc}
use Prim.Native.Nat.{ℕ, ◌+◌, ◌≤◌, ◌<◌}
use native.Mathlib.Nat.{le_refl}
use native.Mathlib.Numerals.{add-one}
use native.Mathlib.Omega.{arith}
use lib.ListN.{length, take, drop, set, replicate, length-append, length-drop, length-replicate, get_or-replicate, take-append-drop}
use lib.Seq.{paste, paste-suc, take-append_seam, take-length, take-take, take_at, drop-append-add, drop_at, drop-drop, length-take-le}
use Rattle.definition.specs.Basics.{concat, from}
use Rattle.definition.specs.Run.{overwrite}
use Rattle.facts.proofs.Chunks.{joined, joined-more}

-- how long a part of a list is
pub part_length : (s : List ℕ) (from n : ℕ) → from + n ≤ length s → length (take n (drop from s)) ≡ n
part_length s from n room =
    let inside : n ≤ length (drop from s) = simp length-drop (omega arith) in
    length-take-le n (drop from s) inside

-- the first n, of a list that may be shorter
pub take_short : (n : ℕ) (l : List ℕ) → take (length (take n l)) l ≡ take n l
take_short n l = ap (take (length (take n l))) (sym (take-append-drop n l)) ∙ take-append_seam (take n l) (drop n l)

-- a turn of the loop that pads with zeros
pub pad_more :
    (d : List ℕ) (at n i : ℕ) → at + n ≤ length d → i < n →
    set (paste d at (replicate n 0) i) (at + i) 0 ≡ paste d at (replicate n 0) (i + 1)
pad_more d at n i room more =
    let zeros : List ℕ = replicate n 0 in
    let long : i < length zeros = rw length-replicate more in
    ap (λ z. set (paste d at zeros i) (at + i) z) (sym (get_or-replicate n i 0 0 more))
    ∙ paste-suc d at zeros i 0 (omega arith) long
    ∙ ap (λ k. paste d at zeros k) (sym (add-one i))

-- a copy that takes the first n of its source
pub paste-front : (d s : List ℕ) (at n : ℕ) → paste d at s n ≡ paste d at (take n s) n
paste-front d s at n = ap (λ l. take at d ++ l ++ drop (at + n) d) (sym (take-take n n s (le_refl n)))

-- what was copied is read there
pub paste-there : (d s : List ℕ) (at n : ℕ) → at ≤ length d → n ≤ length s → take n (drop at (paste d at s n)) ≡ take n s
paste-there d s at n inside whole =
    ap (λ l. take n (drop at l)) (append_assoc (take at d) (take n s) (drop (at + n) d))
    ∙ ap (take n) (drop_at (take at d) (take n s ++ drop (at + n) d) at (length-take-le at d inside))
    ∙ take_at (take n s) (drop (at + n) d) n (length-take-le n s whole)

-- what is copied behind a written prefix makes it longer
pub overwrite-more :
    (new more d : List ℕ) (at n : ℕ) → length new ≡ at → length more ≡ n →
    paste (overwrite new d) at more n ≡ overwrite (new ++ more) d
unfolding overwrite
overwrite-more new more d at n ln lm =
    let n₁ = length new in
    let n₂ = length more in
    let rest = drop n₁ d in
    rw (← ln, ← lm)
    (ap (λ l. l ++ take n₂ more ++ drop (n₁ + n₂) (new ++ rest)) (take-append_seam new rest)
    ∙ ap (λ l. new ++ l ++ drop (n₁ + n₂) (new ++ rest)) (take-length more)
    ∙ ap (λ l. new ++ more ++ l) (drop-append-add new rest n₂ ∙ drop-drop n₂ n₁ d)
    ∙ ap (λ k. new ++ more ++ drop k d) (sym (length-append new more)))

pub joined-none : (f : ℕ → List ℕ) (d : List ℕ) → d ≡ overwrite (joined f 0) d
unfolding overwrite concat from
joined-none f d = refl

-- a turn of a loop that copies one part behind the other
pub part_more :
    (f : ℕ → List ℕ) (k : ℕ) (d : List ℕ) (at n : ℕ) → length (joined f k) ≡ at → length (f k) ≡ n →
    paste (overwrite (joined f k) d) at (f k) n ≡ overwrite (joined f (k + 1)) d
part_more f k d at n lj lf =
    overwrite-more (joined f k) (f k) d at n lj lf ∙ ap (λ l. overwrite l d) (sym (ap (joined f) (add-one k) ∙ joined-more f k))
