-- The bytes of numbers in a row, and of a bootstrap row. Assumes nothing.
use mathlib.Core.Path.{◌≡◌, refl, sym, ap, ◌∙◌}
use mathlib.Core.List.{List, [], ◌∷◌, ◌++◌, map, append-nil, append_assoc}
use Prim.Native.Nat.{ℕ, zero, suc, ◌+◌, ◌*◌, ◌-◌, ◌<◌, ◌≤◌}
use native.Mathlib.Numerals.{add-one}
use native.Mathlib.Omega.{arith}
use lib.ListN.{length, get_or, take, drop, length-drop}
use lib.Seq.{take-suc, take-length, drop-cons, get_or-drop}
use Rattle.std.proofs.lemmas.List.{length-take-le}
use Rattle.definition.specs.Basics.{concat}
use Rattle.definition.specs.Bytes.{be2}
use Rattle.definition.specs.Shapes.{bootstrap_shape, write_fields}
use Rattle.definition.specs.Run.{row_bytes}
use Rattle.facts.proofs.Copies.{part_length}
use Rattle.raw_const.specs.Entries.{Wrote}
use Rattle.raw_const.proofs.Writes.{wrote_then}

-- numbers, two bytes each
abbrev pub shorts : List ℕ → List ℕ
shorts l = concat (map be2 l)

shorts_length : (l : List ℕ) → length (shorts l) ≡ 2 * length l
unfolding concat be2
shorts_length [] = refl
shorts_length (x ∷ l) = omega (arith, shorts_length l)

shorts_append : (l m : List ℕ) → shorts (l ++ m) ≡ shorts l ++ shorts m
unfolding concat
shorts_append [] m = refl
shorts_append (x ∷ l) m = rw (shorts_append l m, append_assoc)

shorts_snoc : (l : List ℕ) (x : ℕ) → shorts (l ++ x ∷ []) ≡ shorts l ++ be2 x
unfolding concat
shorts_snoc l x = rw (shorts_append l (x ∷ []), append-nil)

pub shorts_size : (words : List ℕ) (from n : ℕ) → from + n ≤ length words → length (shorts (take n (drop from words))) ≡ 2 * n
shorts_size words from n room = shorts_length (take n (drop from words)) ∙ ap (λ k. 2 * k) (part_length words from n room)

-- how many stand before one of them
pub shorts_before : (words : List ℕ) (i : ℕ) → i < length words → length (shorts (take i words)) ≡ 2 * i
shorts_before words i inside = shorts_length (take i words) ∙ ap (λ k. 2 * k) (length-take-le i words (omega arith))

-- a turn of the loop that writes them
pub shorts_turn :
    (words : List ℕ) (i : ℕ) {d d₁ d₂ : List ℕ} {at m r : ℕ} →
    i < length words →
    at + 2 * length words ≤ length d →
    Wrote d at (shorts (take i words)) d₁ m →
    Wrote d₁ m (be2 (get_or words i 0)) d₂ r →
    Wrote d at (shorts (take (i + 1) words)) d₂ r
shorts_turn words i {d} {at = at} inside room before here =
    let fits : at + length (shorts (take i words)) ≤ length d = omega (arith, shorts_before words i inside) in
    rw (add-one i, take-suc words i 0 inside, shorts_snoc) (wrote_then before fits here)

pub shorts_more :
    (words : List ℕ) (from i : ℕ) {d d₁ d₂ : List ℕ} {at m r : ℕ} →
    from + i < length words →
    at + 2 * i ≤ length d →
    Wrote d at (shorts (take i (drop from words))) d₁ m →
    Wrote d₁ m (be2 (get_or words (from + i) 0)) d₂ r →
    Wrote d at (shorts (take (i + 1) (drop from words))) d₂ r
shorts_more words from i {d} {at = at} inside room before here =
    let more : i < length (drop from words) = simp length-drop (omega arith) in
    let fits : at + length (shorts (take i (drop from words))) ≤ length d = omega (arith, shorts_size words from i (omega arith)) in
    rw (add-one i, take-suc (drop from words) i 0 more, shorts_snoc, get_or-drop) (wrote_then before fits here)

-- a row's bytes
row_bytes_lem : (x : ℕ) (l : List ℕ) → row_bytes (x ∷ l) ≡ be2 x ++ be2 (length l) ++ shorts l
unfolding row_bytes bootstrap_shape write_fields be2
row_bytes_lem x l = rw append-nil

pub row_size : (row : List ℕ) → 0 < length row → 4 + 2 * (length row - 1) ≡ length (row_bytes row)
unfolding row_bytes bootstrap_shape write_fields be2
row_size [] some = absurd (omega arith)
row_size (x ∷ l) some = omega (arith, ap length (append-nil (shorts l)), shorts_length l)

-- its bytes: its first number, how many follow, and those
pub row_split : (row : List ℕ) → 0 < length row → row_bytes row ≡ be2 (get_or row 0 0) ++ be2 (length row - 1) ++ shorts (drop 1 row)
row_split [] some = absurd (omega arith)
row_split (x ∷ l) some =
    let less : suc (length l) - 1 ≡ length l = omega arith in
    rw less (row_bytes_lem x l)

-- what stands behind a row's first number
pub the_rest : (row : List ℕ) → take (length row - 1) (drop 1 row) ≡ drop 1 row
the_rest row = let n : length row - 1 ≡ length (drop 1 row) = simp length-drop in rw (n, take-length)

pub rest_small :
    (row : List ℕ) → ((k : ℕ) → k < length row → get_or row k 0 < 65536) → (k : ℕ) → k < length (drop 1 row) → get_or (drop 1 row) k 0 < 65536
rest_small row small k inside =
    let more : 1 + k < length row = omega (arith, simp length-drop at inside) in
    rw get_or-drop (small (1 + k) more)

-- a row in a list of words: how many bytes it takes
pub row_room :
    (words : List ℕ) (from count : ℕ) → 0 < count → from + count ≤ length words →
    length (row_bytes (take count (drop from words))) ≡ 4 + 2 * (count - 1)
row_room words from count some room =
    let n = part_length words from count room in
    sym (row_size (take count (drop from words)) (rw n some)) ∙ rw n

-- its bytes: its first number, how many follow, and those
pub row_part :
    (words : List ℕ) (from count : ℕ) → 0 < count → from + count ≤ length words →
    row_bytes (take count (drop from words)) ≡ be2 (get_or words from 0) ++ be2 (count - 1) ++ shorts (take (count - 1) (drop (from + 1) words))
row_part words from zero some room = absurd (omega arith)
row_part words from (suc n) some room =
    let less : suc n - 1 ≡ n = omega arith in
    let inside : from < length words = omega arith in
    let rest : length (take n (drop (suc from) words)) ≡ n = part_length words (suc from) n (omega arith) in
    rw (less, add-one from, drop-cons words from 0 inside) (rw (row_bytes_lem, rest))
