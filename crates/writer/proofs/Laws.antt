-- Laws of stores, copies and fills, over plain lists. Assumes nothing.
use mathlib.Core.Path.{◌≡◌, refl, sym, ap, ◌∙◌}
use mathlib.Core.List.{List, [], ◌∷◌, ◌++◌, append_assoc, append-nil}
use Prim.Native.Nat.{ℕ, zero, suc, ◌+◌, ◌/◌, ◌%◌, ◌<◌, ◌≤◌}
use native.Mathlib.Nat.{not-suc-le-zero, le_of_suc-le-suc, le_refl, add_assoc}
use native.Mathlib.Numerals.{add-one}
use native.Mathlib.Omega.{arith}
use lib.ListN.{length, get_or, set, take, drop, replicate, length-drop}
use lib.Seq.{paste, paste-suc, take-paste, drop-paste, drop-drop, take-append-add, take-length, drop-length, sets-eq, get_or-drop}
use Rattle.std.specs.Int.{bytes_high_first}
use Rattle.definition.specs.Bytes.{be2, be4, be8}
pub use Rattle.writer.specs.Standing.{be4-halves, be2-number, be4-number}

-- a copy behind a copy is one copy of both
pub paste-paste :
    (d a b : List ℕ) (at n : ℕ) → at + length a ≤ length d →
    paste (paste d at a (length a)) (at + length a) b n ≡ paste d at (a ++ b) (length a + n)
paste-paste d a b at n room =
    let m = length a in
    let inside : at ≤ length d = omega arith in
    let behind : drop (at + m + n) (paste d at a m) ≡ drop (at + (m + n)) d =
    sym (drop-drop n (at + m) (paste d at a m))
    ∙ ap (λ l. drop n l) (drop-paste d at a m inside (le_refl m))
    ∙ drop-drop n (at + m) d
    ∙ ap (λ k. drop k d) (add_assoc at m n) in
    ap (λ l. l ++ take n b ++ drop (at + m + n) (paste d at a m)) (take-paste d at a m inside (le_refl m))
    ∙ ap (λ l. take at d ++ take m a ++ take n b ++ l) behind
    ∙ ap (λ l. l ++ drop (at + (m + n)) d) (append_assoc (take at d) (take m a) (take n b))
    ∙ ap (λ l. take at d ++ (l ++ take n b) ++ drop (at + (m + n)) d) (take-length a)
    ∙ ap (λ l. take at d ++ l ++ drop (at + (m + n)) d) (sym (take-append-add a b n))

-- two stores are a copy of two bytes
pub two-stores :
    (d : List ℕ) (at x : ℕ) → x < 65536 → at + 2 ≤ length d → set (set d at (x / 256)) (at + 1) (x % 256) ≡ paste d at (be2 x) 2
unfolding be2
two-stores d at x small room =
    let low : x / 256 ≡ x / 256 % 256 = omega arith in
    ap (λ b. set (set d at b) (at + 1) (x % 256)) low
    ∙ ap (λ k. set (set d at (x / 256 % 256)) k (x % 256)) (add-one at)
    ∙ sets-eq (be2 x) d at room

-- a turn of the loop that copies
pub copy_more :
    (d s : List ℕ) (at from i : ℕ) → at + i < length d → from + i < length s →
    set (paste d at (drop from s) i) (at + i) (get_or s (from + i) 0) ≡ paste d at (drop from s) (i + 1)
copy_more d s at from i inside within =
    let more : i < length (drop from s) = simp length-drop (omega arith) in
    rw (add-one i, ← get_or-drop from s i 0) (paste-suc d at (drop from s) i 0 inside more)

-- the loop that fills a list d with one element: a turn of it, and its end
module _ {A : Type 0} (a : A) where
  fill_suc : (i : ℕ) (d : List A) → i < length d → set (replicate i a ++ drop i d) i a ≡ replicate (suc i) a ++ drop (suc i) d
  fill_suc i [] l = absurd (not-suc-le-zero l)
  fill_suc zero (x ∷ d) l = refl
  fill_suc (suc i) (x ∷ d) l = ap (λ t. a ∷ t) (fill_suc i d (le_of_suc-le-suc l))

  pub fill_more : (i : ℕ) (d : List A) → i < length d → set (replicate i a ++ drop i d) i a ≡ replicate (i + 1) a ++ drop (i + 1) d
  fill_more i d l = rw (add-one i) (fill_suc i d l)

  pub fill_all : (i : ℕ) (d : List A) → length d ≡ i → replicate i a ++ drop i d ≡ replicate (length d) a
  fill_all i d e = rw (← e) (ap (λ l. replicate (length d) a ++ l) (drop-length d) ∙ append-nil (replicate (length d) a))

-- the bytes of eight as std has them
pub eight-bytes : (x : ℕ) → bytes_high_first 8 x ≡ be8 x
unfolding be8 be4
eight-bytes x =
    let b₇ : x / 72057594037927936 % 256 ≡ x / 4294967296 / 16777216 % 256 = omega arith in
    let b₆ : x / 281474976710656 % 256 ≡ x / 4294967296 / 65536 % 256 = omega arith in
    let b₅ : x / 1099511627776 % 256 ≡ x / 4294967296 / 256 % 256 = omega arith in
    let b₃ : x / 16777216 % 256 ≡ x % 4294967296 / 16777216 % 256 = omega arith in
    let b₂ : x / 65536 % 256 ≡ x % 4294967296 / 65536 % 256 = omega arith in
    let b₁ : x / 256 % 256 ≡ x % 4294967296 / 256 % 256 = omega arith in
    let b₀ : x % 256 ≡ x % 4294967296 % 256 = omega arith in
    λ i. b₇ i ∷ b₆ i ∷ b₅ i ∷ x / 4294967296 % 256 ∷ b₃ i ∷ b₂ i ∷ b₁ i ∷ b₀ i ∷ []
