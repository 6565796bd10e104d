-- What a constant holds, by the shape of its tag and the bytes behind it. Assumes nothing.
use mathlib.Core.List.{List, [], ◌∷◌, ◌++◌, append-nil, append_assoc}
use mathlib.Core.Option.{Option, none, some}
use mathlib.Core.Path.{◌≡◌, refl, sym, ap, ap₂, subst, ◌∙◌}
use Prim.Native.Nat.{ℕ, zero, suc, ◌+◌, ◌*◌, ◌/◌, ◌%◌, ◌≤◌, ◌<◌}
use native.Mathlib.Nat.{mul_assoc}
use native.Mathlib.Omega.{arith}
use lib.ListN.{length, take, drop, get_or}
use Rattle.definition.specs.Basics.{lookup}
use Rattle.definition.specs.Ascii.{hex_digit}
use Rattle.definition.specs.Shapes.{constant, bootstrap, Field, text, bits, byte, to, to_many, shapes}
use Rattle.raw_const.specs.Entries.{fields_of}
use Rattle.raw_const.specs.declared.Shape.{Shape}
use Rattle.std.specs.Prelude as code
use Rattle.std.specs.Prelude.{None, Some}
use Rattle.raw_const.specs.declared.Shape.TheVariants.{Text, Bits, One, Two, Dynamic as Method, KindOne}
use Rattle.jvms.specs.Pool.{Constant, Utf8, Integer, Float, Long, Double, Class, String, Fieldref, Methodref, InterfaceMethodref, NameAndType, MethodHandle, MethodType, Dynamic, InvokeDynamic, Module, Package}
use Rattle.writer.specs.Numbers.{number2, number4, number8}
use Rattle.printing.specs.Numbers.{quoted, signed, hex_of, float, double}
use Rattle.places.specs.Standing.{tag, slot_of}
use Rattle.places.proofs.Finding.{Fields}
use Rattle.places.proofs.Found.{constant_stands, at_place}
use Rattle.listing.specs.Listing.{Opening, slot, method, both, held, reference_kind}
use Rattle.listing.specs.Views.{or_none, betweens, between, finished, Views}
use Rattle.listing.specs.Opening.{held_at, numbers, number_at, Sized, two_at_lem, dynamic_at, handle_at}

-- the shape that fields are of
abbrev shape_of : Option (List Field) → code.Option Shape
shape_of none = None
shape_of (some []) = None
shape_of (some (text ∷ l)) = Some Text
shape_of (some (bits size ∷ l)) = Some (Bits size)
shape_of (some (byte ∷ l)) = Some KindOne
shape_of (some (to constant ∷ [])) = Some One
shape_of (some (to constant ∷ second ∷ l)) = Some Two
shape_of (some (to bootstrap ∷ l)) = Some Method
shape_of (some (to_many ∷ l)) = None

shape_of_fields : (s : code.Option Shape) → shape_of (fields_of s) ≡ s
shape_of_fields (Some Text) = refl
shape_of_fields (Some (Bits size)) = refl
shape_of_fields (Some One) = refl
shape_of_fields (Some Two) = refl
shape_of_fields (Some Method) = refl
shape_of_fields (Some KindOne) = refl
shape_of_fields None = refl

-- the text of what stands at a place, by the shape of its tag, and that its bytes are there
abbrev pub Shown : Opening → List ℕ → ℕ → List ℕ → code.Option Shape → Type 0
Shown show s p t (Some Text) = (t ≡ quoted (take (number2 s (p + 1)) (drop (p + 3) s))) × (p + 3 + number2 s (p + 1) ≤ length s)
Shown show s p t (Some (Bits size)) = (t ≡ number_at s p) × Sized s p
Shown show s p t (Some One) = (t ≡ show (slot (number2 s (p + 1)))) × (p + 3 ≤ length s)
Shown show s p t (Some Two) = (t ≡ two_at_lem show s p) × (p + 5 ≤ length s)
Shown show s p t (Some Method) = (t ≡ dynamic_at show s p) × (p + 5 ≤ length s)
Shown show s p t (Some KindOne) = (t ≡ handle_at show s p) × (p + 4 ≤ length s)
Shown show s p t None = ⊥

-- a number's text, by its tag
pub number_is : (s : List ℕ) (p k : ℕ) → get_or s p 0 ≡ k → (t : List ℕ) → t ≡ or_none (lookup k (numbers s (p + 1))) → t ≡ number_at s p
unfolding number_at
number_is s p k first t is = is ∙ ap (λ k. or_none (lookup k (numbers s (p + 1)))) (sym first)

module _ (show : Opening) (s : List ℕ) (p : ℕ) where
  sized : (k : ℕ) → get_or s p 0 ≡ k → 2 < k → k < 7 → p + 5 ≤ length s → (4 < k → p + 9 ≤ length s) → Sized s p
  sized k first low high five nine = (omega arith, omega arith, five, λ h. nine (omega arith))

  pub two_is :
      (k m n : ℕ) → get_or s p 0 ≡ k → m ≡ number2 s (p + 1) → n ≡ number2 s (p + 3)
      → show (slot m) ++ between k ++ show (slot n) ≡ two_at_lem show s p
  unfolding two_at_lem
  two_is k m n first a b i = show (slot (a i)) ++ between (sym first i) ++ show (slot (b i))

  pub dynamic_is :
      (k m n : ℕ) → get_or s p 0 ≡ k → m ≡ number2 s (p + 1) → n ≡ number2 s (p + 3)
      → show (slot n) ++ between k ++ show (method m) ≡ dynamic_at show s p
  unfolding dynamic_at
  dynamic_is k m n first a b i = show (slot (b i)) ++ between (sym first i) ++ show (method (a i))

  pub handle_is : (m n : ℕ) → m ≡ get_or s (p + 1) 0 → n ≡ number2 s (p + 2) → reference_kind m ++ 0x20 ∷ show (slot n) ≡ handle_at show s p
  unfolding handle_at
  handle_is m n a b = ap₂ (λ m n. reference_kind m ++ 0x20 ∷ show (slot n)) a b

  eight_is : (m n : ℕ) → m ≡ number4 s (p + 1) → n ≡ number4 s (p + 5) → (number4 s (p + 5) ≡ number4 s (p + 1 + 4)) × (4294967296 * m + n ≡ number8 s (p + 1))
  eight_is m n a b =
      let behind : p + 5 ≡ p + 1 + 4 = omega arith in
      let same = ap (number4 s) behind in
      (same, ap₂ (λ m n. 4294967296 * m + n) a (b ∙ same))

  by_constant : (c : Constant) → get_or s p 0 ≡ tag c → Fields s p c → Shown show s p (held show c) (shape_of (lookup (tag c) shapes))
  unfolding lookup shapes tag held both between betweens or_none numbers
  by_constant (Utf8 b) first f = (ap quoted f.1, omega arith)
  by_constant (Integer n) first f = (number_is s p 3 first _ (ap (signed 2147483648) f.0), sized 3 first (omega arith) (omega arith) f.1 (λ h. omega arith))
  by_constant (Float n) first f = (number_is s p 4 first _ (ap (λ n. hex_of 8 n ++ 0x20 ∷ float n) f.0), sized 4 first (omega arith) (omega arith) f.1 (λ h. omega arith))
  by_constant (Long m n) first f =
      let (same, whole) = eight_is m n f.0 f.1 in
      (number_is s p 5 first _ (ap (signed 9223372036854775808) whole), sized 5 first (omega arith) (omega arith) (omega arith) (λ h. f.2))
  by_constant (Double m n) first f =
      let (same, whole) = eight_is m n f.0 f.1 in
      (number_is s p 6 first _ (λ i. hex_of 8 (f.0 i) ++ hex_of 8 ((f.1 ∙ same) i) ++ 0x20 ∷ double (whole i)), sized 6 first (omega arith) (omega arith) (omega arith) (λ h. f.2))
  by_constant (Class n) first f = (ap (λ n. show (slot n)) f.0, f.1)
  by_constant (String n) first f = (ap (λ n. show (slot n)) f.0, f.1)
  by_constant (Fieldref m n) first f = (two_is 9 m n first f.0 f.1, f.2)
  by_constant (Methodref m n) first f = (two_is 10 m n first f.0 f.1, f.2)
  by_constant (InterfaceMethodref m n) first f = (two_is 11 m n first f.0 f.1, f.2)
  by_constant (NameAndType m n) first f = (two_is 12 m n first f.0 f.1, f.2)
  by_constant (MethodHandle m n) first f = (handle_is m n f.0 f.1, f.2)
  by_constant (MethodType n) first f = (ap (λ n. show (slot n)) f.0, f.1)
  by_constant (Dynamic m n) first f = (dynamic_is 17 m n first f.0 f.1, f.2)
  by_constant (InvokeDynamic m n) first f = (dynamic_is 18 m n first f.0 f.1, f.2)
  by_constant (Module n) first f = (ap (λ n. show (slot n)) f.0, f.1)
  by_constant (Package n) first f = (ap (λ n. show (slot n)) f.0, f.1)

-- the same of the constant at a slot, for the shape that its tag was found to have
pub shown_at_lem :
    {pool places methods table : List ℕ} {count : ℕ} (v : Views pool places count methods table) (show : Opening) (n : ℕ)
    → 0 < get_or places n 0 → {found s : code.Option Shape} → fields_of found ≡ lookup (get_or pool (get_or places n 0) 0) shapes → found ≡ s
    → Shown show pool (get_or places n 0) (held_at show (slot_of (finished pool count methods).slots n)) s
unfolding held_at
shown_at_lem {pool} {places} v show n any {found} {s} is told =
    let p = get_or places n 0 in
    let (c, stands, there) = at_place v.noted n any in
    let at = constant_stands pool p c there in
    let shape = ap (λ k. shape_of (lookup k shapes)) (sym at.first) ∙ ap shape_of (sym is) ∙ shape_of_fields found ∙ told in
    subst (λ t. Shown show pool p t s) (ap (held_at show) (sym stands))
    (subst (Shown show pool p (held show c)) shape (by_constant show pool p c at.first at.fields))

-- the hex digits of a number are those of its high part and of its low one
abbrev more : ℕ → ℕ → ℕ
more zero k = k
more (suc m) k = suc (more m k)

abbrev units : ℕ → ℕ
units zero = 1
units (suc m) = 16 * units m

hex-parts : (m k high low : ℕ) → low < units m → hex_of (more m k) (units m * high + low) ≡ hex_of k high ++ hex_of m low
unfolding hex_of
hex-parts zero k high low h =
    let whole : 1 * high + low ≡ high = omega arith in
    ap (hex_of k) whole ∙ sym (append-nil (hex_of k high))
hex-parts (suc m) k high low h =
    let part = mul_assoc 16 (units m) high in
    let up : (16 * units m * high + low) / 16 ≡ units m * high + low / 16 = omega (arith, part) in
    let digit : (16 * units m * high + low) % 16 ≡ low % 16 = omega (arith, part) in
    let less : low / 16 < units m = omega arith in
    (λ i. hex_of (more m k) (up i) ++ hex_digit (digit i) ∷ [])
    ∙ ap (λ l. l ++ hex_digit (low % 16) ∷ []) (hex-parts m k high (low / 16) less)
    ∙ append_assoc (hex_of k high) (hex_of m (low / 16)) (hex_digit (low % 16) ∷ [])

-- a number's tag that is none of the first three
pub is_six : (k : ℕ) → 2 < k → k < 7 → (k ≡ 3 → ⊥) → (k ≡ 4 → ⊥) → (k ≡ 5 → ⊥) → k ≡ 6
is_six k low high a b c = omega arith

-- a Double: sixteen digits are eight of its high bytes and eight of its low ones, where its bytes are bytes
pub double-parts :
    (s : List ℕ) (at : ℕ) → ((i : ℕ) → get_or s i 0 < 256)
    → hex_of 16 (number8 s at) ++ 0x20 ∷ double (number8 s at)
    ≡ hex_of 8 (number4 s at) ++ hex_of 8 (number4 s (at + 4)) ++ 0x20 ∷ double (number8 s at)
double-parts s at bytes =
    let a = bytes (at + 4) in
    let b = bytes (at + 4 + 1) in
    let c = bytes (at + 4 + 2) in
    let d = bytes (at + 4 + 2 + 1) in
    ap (λ l. l ++ 0x20 ∷ double (number8 s at)) (hex-parts 8 8 (number4 s at) (number4 s (at + 4)) (omega arith))
