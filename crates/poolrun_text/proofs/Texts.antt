-- The parts of what is printed make up the whole. Assumes nothing.
use mathlib.Core.List.{List, [], ◌∷◌, ◌++◌, append-nil, append_assoc}
use mathlib.Core.Option.{Option}
use mathlib.Core.Path.{◌≡◌, refl, sym, ap, ◌∙◌}
use Prim.Native.Nat.{ℕ, zero, suc, ◌+◌, ◌/◌, ◌%◌, ◌<◌, ◌≤◌}
use native.Mathlib.Numerals.{add-one}
use native.Mathlib.Omega.{arith}
use lib.ListN.{length, take, get_or}
use lib.Seq.{take_all}
use Rattle.definition.specs.Basics.{bad}
use Rattle.definition.specs.Ascii.{ascii, decimal, hex, hex_digit}
use Rattle.definition.specs.Blocks.{line, class_text, mark_text, answer_lines, printed}
use Rattle.poolrun_text.proofs.Putting.{parts_more}
use Rattle.poolrun_text.specs.Page.{two_digits_lem}
use Rattle.poolrun_text.specs.Text.{asked_text, pool_text, bootstraps_text, last_text, refused_text, built_text}

-- a word before a line; a word, a number and a space before a line
pub labelled : (w n : List ℕ) → w ++ line n ≡ line (w ++ n)
unfolding line
labelled w n = sym (append_assoc w n (10 ∷ []))

pub spaced : (w n m : List ℕ) → w ++ n ++ (32 ∷ []) ++ line m ≡ line (w ++ n ++ 32 ∷ m)
unfolding line
spaced w n m = append_assoc (w ++ n) (32 ∷ []) (m ++ (10 ∷ [])) ∙ sym (append_assoc (w ++ n) (32 ∷ m) (10 ∷ []))

-- one byte, or one answer, more
pub hex-more : (s : List ℕ) (i : ℕ) → i < length s → hex (take i s) ++ two_digits_lem (get_or s i 0) ≡ hex (take (i + 1) s)
unfolding hex two_digits_lem
hex-more s i h =
    sym (ap (λ k. hex (take k s)) (add-one i) ∙ parts_more (λ b. hex_digit (b / 16 % 16) ∷ hex_digit (b % 16) ∷ []) s i h)

pub hex-all : (s : List ℕ) (i : ℕ) → length s ≤ i → hex (take i s) ≡ hex s
hex-all s i high = ap hex (take_all i s high)

pub lines_more :
    (l m : List ℕ) (i : ℕ) → i < length l → length m ≡ length l →
    answer_lines (take i l) (take i m) ++ line (decimal (get_or l i 0) ++ mark_text (get_or m i 0)) ≡ answer_lines (take (i + 1) l) (take (i + 1) m)
unfolding answer_lines
lines_more l m i h same = go l m i h same ∙ ap (λ k. answer_lines (take k l) (take k m)) (sym (add-one i))
  where
    go :
        (l m : List ℕ) (i : ℕ) → i < length l → length m ≡ length l →
        answer_lines (take i l) (take i m) ++ line (decimal (get_or l i 0) ++ mark_text (get_or m i 0)) ≡ answer_lines (take (suc i) l) (take (suc i) m)
    go [] m i h same = absurd (omega arith)
    go (a ∷ l) [] i h same = absurd (omega arith)
    go (a ∷ l) (k ∷ m) zero h same = sym (append-nil (line (decimal a ++ mark_text k)))
    go (a ∷ l) (k ∷ m) (suc i) h same =
        append_assoc (line (decimal a ++ mark_text k)) (answer_lines (take i l) (take i m)) _
        ∙ ap (λ rest. line (decimal a ++ mark_text k) ++ rest) (go l m i (omega arith) (omega arith))

pub lines-all : (l m : List ℕ) (i : ℕ) → length l ≤ i → length m ≤ i → answer_lines (take i l) (take i m) ≡ answer_lines l m
lines-all l m i high low = rw (take_all i l high, take_all i m low)

-- the words that tell how an answer was come by
pub mark_raw : (m : ℕ) → m ≡ 0 → 32 ∷ 114 ∷ 97 ∷ 119 ∷ [] ≡ mark_text m
unfolding mark_text ascii
mark_raw m e = rw e

pub mark_new : (m : ℕ) → m ≡ 1 → 32 ∷ 110 ∷ 101 ∷ 119 ∷ [] ≡ mark_text m
unfolding mark_text ascii
mark_new m e = rw e

pub mark_old : (m : ℕ) → 2 ≤ m → 32 ∷ 111 ∷ 108 ∷ 100 ∷ [] ≡ mark_text m
unfolding mark_text ascii
mark_old zero h = absurd (omega arith)
mark_old (suc zero) h = absurd (omega arith)
mark_old (suc (suc n)) h = refl

pub refused_is : (code place : ℕ) → refused_text code place ≡ printed (bad (record { code = code; place = place }))
unfolding refused_text printed
refused_is code place = refl

joins : (a b c d e f g h i : List ℕ) → ((a ++ b) ++ (c ++ d)) ++ (e ++ f) ++ ((g ++ h) ++ i) ≡ a ++ b ++ c ++ d ++ e ++ f ++ g ++ h ++ i
joins a b c d e f g h i =
    ap (λ l. l ++ (e ++ f) ++ (g ++ h ++ i)) (sym (append_assoc (a ++ b) c d))
    ∙ ap (λ l. l ++ (g ++ h ++ i)) (sym (append_assoc (a ++ b ++ c ++ d) e f))
    ∙ sym (append_assoc (a ++ b ++ c ++ d ++ e ++ f) (g ++ h) i)
    ∙ ap (λ l. l ++ i) (sym (append_assoc (a ++ b ++ c ++ d ++ e ++ f) g h))

pub built_is :
    (answers marks pool : List ℕ) (count : ℕ) (bootstraps : List ℕ) (name : ℕ) (class : Option (List ℕ)) (visits : ℕ) →
    asked_text answers marks ++ pool_text pool ++ bootstraps_text count bootstraps ++ last_text name class visits
    ≡ built_text answers marks pool count bootstraps name class visits
unfolding asked_text pool_text bootstraps_text last_text built_text printed
built_is answers marks pool count bootstraps name class visits =
    joins
    (line (ascii "answers " ++ decimal (length answers)))
    (answer_lines answers marks)
    (line (ascii "pool " ++ decimal (length pool)))
    (line (hex pool))
    (line (ascii "bootstraps " ++ decimal count ++ 32 ∷ decimal (length bootstraps)))
    (line (hex bootstraps))
    (line (ascii "name " ++ decimal name))
    (class_text class)
    (line (ascii "visits " ++ decimal visits))
