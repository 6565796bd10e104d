-- A listing has a line for each constant: what a line shows holds no line's end (specs/Listing.antt). Assumes nothing.
use mathlib.Core.Bool.{Bool, true, false, ◌&&◌, ◌||◌}
use mathlib.Core.List.{List, [], ◌∷◌, ◌++◌, map}
use mathlib.Core.Option.{Option, none, some}
use mathlib.Core.Path.{◌≡◌, refl, sym, subst, ◌∙◌}
use Prim.Native.Nat.{ℕ, zero, suc, ◌+◌, ◌*◌, ◌-◌, ◌/◌, ◌%◌}
use native.Mathlib.Omega.{arith}
use lib.Dec.{eqb, ltb, leb}
use lib.ListN.{get_elem?}
use borrow.Author.Tests.{eqb-true, eqb-false, ne_eqb}
use Rattle.definition.specs.Basics.{concat, lookup, every, only}
use Rattle.definition.specs.Ascii.{ascii, digits, decimal, hex_digit, hex}
use Rattle.facts.proofs.Lists.{both_true}
use Rattle.facts.proofs.Sums.{times, times_append, times_only}
use Rattle.jvms.specs.Pool.{Constant, Utf8, Integer, Float, Long, Double, Class, String, Fieldref, Methodref, InterfaceMethodref, NameAndType, MethodHandle, MethodType, Dynamic, InvokeDynamic, Module, Package, Slot, usable, unusable, BootstrapMethod}
use Rattle.printing.specs.Numbers.{escaped, quoted, signed, hex_of, fraction, power, scaled, magnitude, minus, to_hex_string, float, double}
use Rattle.places.specs.Standing.{tag, slot_of}
use Rattle.listing.specs.Listing.{reference_kinds, or_decimal, reference_kind, Cited, slot, method, Opening, kinds, kind, both, held, named, within, arguments, applied, Finished, at_slot, at_method, bracketed, opened, line, lines_from, lines}
use Rattle.listing.specs.Promises.{is_entry, line_ends, entries}

-- ---- texts without a line's end

record Inline (text : List ℕ) : Type 0 where
  no_end : times 0x0a text ≡ 0

empty : Inline []
unfolding times
empty = record { no_end = refl }

byte : (b : ℕ) {l : List ℕ} → (0x0a ≡ b → ⊥) → Inline l → Inline (b ∷ l)
unfolding times
byte b h p = record { no_end = rw (ne_eqb 0x0a b h, times) p.no_end }

join : {l m : List ℕ} → Inline l → Inline m → Inline (l ++ m)
join {l} {m} p q = record { no_end = times_append 0x0a l m ∙ (let e = p.no_end in let f = q.no_end in omega arith) }

word : (l : List ℕ) → times 0x0a l ≡ 0 → Inline l
word l e = record { no_end = e }

either : (b : Bool) {l m : List ℕ} → Inline l → Inline m → Inline (elim b [ true ↦ l | false ↦ m ])
either true p q = p
either false p q = q

-- ---- numbers and texts

one-digits : (fuel n : ℕ) → Inline (digits fuel n)
unfolding digits
one-digits zero n = empty
one-digits (suc fuel) n =
    either (ltb n 10) (byte (48 + n) (λ e. omega arith) empty) (join (one-digits fuel (n / 10)) (byte (48 + n % 10) (λ e. omega arith) empty))

one-decimal : (n : ℕ) → Inline (decimal n)
unfolding decimal
one-decimal n = one-digits (suc n) n

hex_digit_lem : (n : ℕ) → 0x0a ≡ hex_digit n → ⊥
unfolding hex_digit
hex_digit_lem n e = ways (ltb n 10) e
  where
    ways : (b : Bool) → ◌≡◌ {A = ℕ} 0x0a (elim b [ true ↦ 48 + n | false ↦ 87 + n ]) → ⊥
    ways true h = omega arith
    ways false h = omega arith

one-hex : (b : ℕ) → Inline (hex (b ∷ []))
unfolding hex concat
one-hex b = byte (hex_digit (b / 16 % 16)) (hex_digit_lem (b / 16 % 16)) (byte (hex_digit (b % 16)) (hex_digit_lem (b % 16)) empty)

one-escaped : (b : ℕ) → Inline (escaped b)
unfolding escaped hex hex_digit concat times
one-escaped b = ways (eqb 0x0a b) refl
  where
    ways : (t : Bool) → eqb 0x0a b ≡ t → Inline (escaped b)
    ways true e = subst (λ b. Inline (escaped b)) (eqb-true 0x0a b e) (word (escaped 0x0a) refl)
    ways false e =
        either (eqb b 0x22 || eqb b 0x5c) (byte 0x5c (λ h. omega arith) (byte b (eqb-false 0x0a b e) empty))
        (either (leb 0x20 b && ltb b 0x7f) (byte b (eqb-false 0x0a b e) empty) (byte 0x5c (λ h. omega arith) (byte 0x78 (λ h. omega arith) (one-hex b))))

all_escaped : (bytes : List ℕ) → Inline (concat (map escaped bytes))
unfolding concat
all_escaped [] = empty
all_escaped (b ∷ bytes) = join (one-escaped b) (all_escaped bytes)

one-quoted : (bytes : List ℕ) → Inline (quoted bytes)
unfolding quoted
one-quoted bytes = byte 0x22 (λ h. omega arith) (join (all_escaped bytes) (byte 0x22 (λ h. omega arith) empty))

one-signed : (half n : ℕ) → Inline (signed half n)
unfolding signed
one-signed half n = either (ltb n half) (one-decimal n) (byte 0x2d (λ h. omega arith) (one-decimal (2 * half - n)))

one-hex_of : (count n : ℕ) → Inline (hex_of count n)
unfolding hex_of
one-hex_of zero n = empty
one-hex_of (suc count) n = join (one-hex_of count (n / 16)) (byte (hex_digit (n % 16)) (hex_digit_lem (n % 16)) empty)

one-fraction : (count m : ℕ) → Inline (fraction count m)
unfolding fraction
one-fraction zero m = empty
one-fraction (suc zero) m = one-hex_of 1 m
one-fraction (suc (suc count)) m = either (eqb (m % 16) 0) (one-fraction (suc count) (m / 16)) (one-hex_of (suc (suc count)) m)

one_power : (bias e : ℕ) → Inline (power bias e)
unfolding power
one_power bias e = either (ltb e bias) (byte 0x2d (λ h. omega arith) (one-decimal (bias - e))) (one-decimal (e - bias))

one-scaled : (bias count e m : ℕ) → Inline (scaled bias count e m)
unfolding scaled
one-scaled bias count e m = join (one-fraction count m) (byte 0x70 (λ h. omega arith) (one_power bias e))

one-magnitude : (bias count e m : ℕ) → Inline (magnitude bias count e m)
unfolding magnitude ascii times
one-magnitude bias count e m =
    either (eqb e (2 * bias + 1)) (word (ascii "Infinity") refl)
    (either (eqb e 0) (either (eqb m 0) (word (ascii "0x0.0p0") refl) (join (word (ascii "0x0.") refl) (one-scaled bias count 1 m)))
    (join (word (ascii "0x1.") refl) (one-scaled bias count e m)))

one-hex-string : (bias count sign e m : ℕ) → Inline (to_hex_string bias count sign e m)
unfolding to_hex_string minus ascii times
one-hex-string bias count sign e m =
    either (eqb e (2 * bias + 1) && ltb 0 m) (word (ascii "NaN") refl)
    (join (either (eqb sign 0) empty (byte 0x2d (λ h. omega arith) empty)) (one-magnitude bias count e m))

one_float : (bits : ℕ) → Inline (float bits)
unfolding float
one_float bits = one-hex-string 127 6 (bits / 2147483648) (bits / 8388608 % 256) (2 * (bits % 8388608))

one-double : (bits : ℕ) → Inline (double bits)
unfolding double
one-double bits = one-hex-string 1023 13 (bits / 9223372036854775808) (bits / 4503599627370496 % 2048) (bits % 4503599627370496)

-- ---- words

unfoldable inline : ℕ × List ℕ → Bool
inline r = eqb (times 0x0a r.1) 0

one_word : (n : ℕ) (table : List (ℕ × List ℕ)) → every inline table ≡ true → Inline (or_decimal n (lookup n table))
unfolding or_decimal lookup every inline
one_word n [] t = one-decimal n
one_word n (r ∷ table) t =
    let both = both_true (inline r) (every inline table) t in
    ways (eqb n r.0) (one_word n table both.1) (word r.1 (eqb-true (times 0x0a r.1) 0 both.0))
  where
    ways :
        (b : Bool) → Inline (or_decimal n (lookup n table)) → Inline r.1 →
        Inline (or_decimal n (elim b [ true ↦ some r.1 | false ↦ lookup n table ]))
    ways true p q = q
    ways false p q = p

one_kind_lem : (c : Constant) → Inline (kind c)
unfolding kind kinds every inline times ascii
one_kind_lem c = one_word (tag c) kinds refl

one-reference_kind : (n : ℕ) → Inline (reference_kind n)
unfolding reference_kind reference_kinds every inline times ascii
one-reference_kind n = one_word n reference_kinds refl

-- ---- constants, where what they refer to is shown in one line

space : {l : List ℕ} → Inline l → Inline (0x20 ∷ l)
space p = byte 0x20 (λ h. omega arith) p

module _ (show : Opening) (shown : (x : Cited) → Inline (show x)) where
  one-both : (first : ℕ) (between : List ℕ) (second : Cited) → times 0x0a between ≡ 0 → Inline (both show first between second)
  unfolding both
  one-both first between second e = join (join (shown (slot first)) (word between e)) (shown second)

  one-held : (c : Constant) → Inline (held show c)
  unfolding held times ascii
  one-held (Utf8 bytes) = one-quoted bytes
  one-held (Integer bytes) = one-signed 2147483648 bytes
  one-held (Float bytes) = join (one-hex_of 8 bytes) (space (one_float bytes))
  one-held (Long high low) = one-signed 9223372036854775808 (4294967296 * high + low)
  one-held (Double high low) = join (join (one-hex_of 8 high) (one-hex_of 8 low)) (space (one-double (4294967296 * high + low)))
  one-held (Class name) = shown (slot name)
  one-held (String string) = shown (slot string)
  one-held (Fieldref class name-and-type) = one-both class (ascii " . ") (slot name-and-type) refl
  one-held (Methodref class name-and-type) = one-both class (ascii " . ") (slot name-and-type) refl
  one-held (InterfaceMethodref class name-and-type) = one-both class (ascii " . ") (slot name-and-type) refl
  one-held (NameAndType name descriptor) = one-both name (ascii " : ") (slot descriptor) refl
  one-held (MethodHandle kind' reference) = join (one-reference_kind kind') (space (shown (slot reference)))
  one-held (MethodType descriptor) = shown (slot descriptor)
  one-held (Dynamic bootstrap name-and-type) = one-both name-and-type (ascii " by ") (method bootstrap) refl
  one-held (InvokeDynamic bootstrap name-and-type) = one-both name-and-type (ascii " by ") (method bootstrap) refl
  one-held (Module name) = shown (slot name)
  one-held (Package name) = shown (slot name)

  one-named : (c : Constant) → Inline (named show c)
  unfolding named
  one-named c = join (one_kind_lem c) (space (one-held c))

  one-within : (c : Constant) → Inline (within show c)
  unfolding within
  one-within c = either (eqb (tag c) 1) (one-held c) (one-named c)

  one-arguments : (l : List ℕ) → Inline (arguments show l)
  unfolding arguments ascii times
  one-arguments [] = empty
  one-arguments (a ∷ []) = shown (slot a)
  one-arguments (a ∷ b ∷ l) = join (join (shown (slot a)) (word (ascii ", ") refl)) (one-arguments (b ∷ l))

  one-applied : (m : BootstrapMethod) → Inline (applied show m)
  unfolding applied ascii times
  one-applied m =
      join (join (join (shown (slot m.bootstrap_method_ref)) (word (ascii " (") refl)) (one-arguments m.bootstrap_arguments))
      (word (ascii ")") refl)

  one-slot : (n : ℕ) (s : Option Slot) → Inline (at_slot show n s)
  unfolding at_slot
  one-slot n none = one-decimal n
  one-slot n (some unusable) = one-decimal n
  one-slot n (some (usable c)) = one-within c

  one-method : (n : ℕ) (m : Option BootstrapMethod) → Inline (at_method show n m)
  unfolding at_method
  one-method n none = one-decimal n
  one-method n (some m) = one-applied m

one-bracketed : (n : ℕ) → Inline (bracketed n)
unfolding bracketed
one-bracketed n = byte 0x5b (λ h. omega arith) (join (one-decimal n) (byte 0x5d (λ h. omega arith) empty))

one-opened : (f : Finished) (levels : ℕ) (x : Cited) → Inline (opened f levels x)
unfolding opened
one-opened f zero (slot n) = one-bracketed n
one-opened f zero (method n) = one-bracketed n
one-opened f (suc levels) (slot n) = one-slot (opened f levels) (one-opened f levels) n (slot_of f.slots n)
one-opened f (suc levels) (method n) = one-method (opened f levels) (one-opened f levels) n (get_elem? f.methods n)

-- ---- a line for each constant

line_ends_lem : (f : Finished) (n : ℕ) (c : Constant) → times 0x0a (line f n (usable c)) ≡ 1
unfolding line times
line_ends_lem f n c =
    let text = named (opened f 7) c in
    let number = (one-decimal n).no_end in
    let shown = (space (one-named (opened f 7) (one-opened f 7) c)).no_end in
    let split = times_append 0x0a (decimal n) (0x20 ∷ (text ++ 0x0a ∷ [])) in
    let last : times 0x0a ((0x20 ∷ text) ++ 0x0a ∷ []) ≡ times 0x0a (0x20 ∷ text) + 1 = times_append 0x0a (0x20 ∷ text) (0x0a ∷ []) in
    omega arith

each_line : (f : Finished) (n : ℕ) (slots : List Slot) → times 0x0a (lines_from f n slots) ≡ entries slots
unfolding line lines_from times only is_entry
each_line f n [] = refl
each_line f n (usable c ∷ slots) =
    let rest = each_line f (suc n) slots in
    times_append 0x0a (line f n (usable c)) (lines_from f (suc n) slots) ∙ (let one = line_ends_lem f n c in omega arith)
each_line f n (unusable ∷ slots) = each_line f (suc n) slots

pub line-for_each : (f : Finished) → line_ends (lines f) ≡ entries f.slots
unfolding lines
line-for_each f = sym (times_only 0x0a (lines f)) ∙ each_line f 1 f.slots
