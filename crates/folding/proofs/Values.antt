-- Values with their kinds, and what a sign makes of two. Assumes nothing.
use mathlib.Core.Path.{◌≡◌, refl, sym, ◌∙◌, subst}
use mathlib.Core.Bool.{Bool, true, false, cond}
use Rattle.std.specs.Prelude as std
use Rattle.std.specs.Prelude.{Some, None}
use Prim.Native.Nat.{ℕ, ◌+◌, ◌-◌, ◌*◌, ◌/◌, ◌%◌, ◌<◌, ◌≤◌}
use native.Mathlib.Nat.{mod-lt}
use native.Mathlib.Omega.{arith}
use mathlib.Core.Option.{none, some}
use lib.Dec.{eqb}
use lib.Ieee.{unlike, binary32, binary64, of_bits}
use lib.Ieee as Ieee
use Rattle.definition.specs.Basics.{Result, good, bad}
use Rattle.definition.specs.Expression.{Number, int, long, tag_of, Sign, plus, minus, times, over, alike}
use Rattle.definition.specs.Value.{computed, integer, negative, negated, magnitude, quotient, operation, rounded}
use Rattle.folding.specs.Folding.{as_whole, WholeWithin, of_both, number_of, bits_of, of_number, Comes, Combines}
use Rattle.folding.specs.declared.Value.{Value}
use Rattle.folding.specs.declared.Value.TheVariants.{Int, Float, Long, Double}
use Rattle.folding.proofs.Integers.{magnitude-within, quotient-within}
use Rattle.folding.proofs.Floats.{rounded-float}

-- ---- integers stay within their width

pub integer-within : (last : ℕ) (s : Sign) (a b : ℕ) → a ≤ last → (last + 1) % 2 ≡ 0 → WholeWithin (last + 1) (as_whole (integer (last + 1) s a b))
unfolding integer as_whole quotient negated
integer-within last plus a b h even = mod-lt (a + b) (omega arith)
integer-within last minus a b h even = mod-lt (a + (last + 1 - b)) (omega arith)
integer-within last times a b h even = mod-lt (a * b) (omega arith)
integer-within last over a b h even = ways (eqb b 0)
  where
    q : ℕ
    q = magnitude (last + 1) a / magnitude (last + 1) b

    small : q < last + 1
    small = omega (arith, quotient-within last (magnitude (last + 1) a) (magnitude (last + 1) b) (magnitude-within last a even h))

    within : (t : Bool) → cond t (negated (last + 1) q) q < last + 1
    within true = mod-lt (last + 1 - q) (omega arith)
    within false = small

    ways : (t : Bool) → WholeWithin (last + 1) (as_whole (elim t [ true ↦ bad 23 | false ↦ good (quotient (last + 1) a b) ]))
    ways true = tt
    ways false = within (unlike (negative (last + 1) a) (negative (last + 1) b))

-- ---- what a sign makes of two of one kind

comes : (kind : Number) (r r' : Result ℕ ℕ) (v : Value) → r ≡ r' → Comes kind r' v → Comes kind r v
comes kind r r' v e h = subst (λ r. Comes kind r v) (sym e) h

pub combines_int : (s : Sign) (a b : std.Option ℕ) → Combines s (Int a) (Int b) (Some (Int (of_both (λ a b. as_whole (integer 4294967296 s a b)) a b)))
unfolding alike tag_of number_of bits_of of_number computed of_both as_whole
combines_int s (Some a) (Some b) = go (integer 4294967296 s a b) refl
  where
    same : (x y : ℕ) → Int (Some a) ≡ Int (Some x) → Int (Some b) ≡ Int (Some y) → integer 4294967296 s x y ≡ integer 4294967296 s a b
    same x y e f = cc

    go : (r : Result ℕ ℕ) → integer 4294967296 s a b ≡ r → Combines s (Int (Some a)) (Int (Some b)) (Some (Int (as_whole r)))
    go (good n) e =
        record {
          kind = refl;
          comes = λ x y p q. comes int (integer 4294967296 s x y) (good n) (Int (Some n)) (same x y p q ∙ e) refl;
          left_none = λ h. absurd (let z : ◌≡◌ {A = ℕ} 0 1 = cc in omega arith);
          right_none = λ h. absurd (let z : ◌≡◌ {A = ℕ} 0 1 = cc in omega arith);
        }
    go (bad code) e =
        record {
          kind = refl;
          comes = λ x y p q. comes int (integer 4294967296 s x y) (bad code) (Int None) (same x y p q ∙ e) (refl, refl);
          left_none = λ h. refl;
          right_none = λ h. refl;
        }
combines_int s (Some a) None =
    record { kind = refl; comes = λ x y p q. absurd (let z : ◌≡◌ {A = ℕ} 0 1 = cc in omega arith); left_none = λ h. refl; right_none = λ h. refl }
combines_int s None b =
    record { kind = refl; comes = λ x y p q. absurd (let z : ◌≡◌ {A = ℕ} 0 1 = cc in omega arith); left_none = λ h. refl; right_none = λ h. refl }

pub combines_long : (s : Sign) (a b : std.Option ℕ) → Combines s (Long a) (Long b) (Some (Long (of_both (λ a b. as_whole (integer 18446744073709551616 s a b)) a b)))
unfolding alike tag_of number_of bits_of of_number computed of_both as_whole
combines_long s (Some a) (Some b) = go (integer 18446744073709551616 s a b) refl
  where
    same : (x y : ℕ) → Long (Some a) ≡ Long (Some x) → Long (Some b) ≡ Long (Some y) → integer 18446744073709551616 s x y ≡ integer 18446744073709551616 s a b
    same x y e f = cc

    go : (r : Result ℕ ℕ) → integer 18446744073709551616 s a b ≡ r → Combines s (Long (Some a)) (Long (Some b)) (Some (Long (as_whole r)))
    go (good n) e =
        record {
          kind = refl;
          comes = λ x y p q. comes long (integer 18446744073709551616 s x y) (good n) (Long (Some n)) (same x y p q ∙ e) refl;
          left_none = λ h. absurd (let z : ◌≡◌ {A = ℕ} 0 1 = cc in omega arith);
          right_none = λ h. absurd (let z : ◌≡◌ {A = ℕ} 0 1 = cc in omega arith);
        }
    go (bad code) e =
        record {
          kind = refl;
          comes = λ x y p q. comes long (integer 18446744073709551616 s x y) (bad code) (Long None) (same x y p q ∙ e) (refl, refl);
          left_none = λ h. refl;
          right_none = λ h. refl;
        }
combines_long s (Some a) None =
    record { kind = refl; comes = λ x y p q. absurd (let z : ◌≡◌ {A = ℕ} 0 1 = cc in omega arith); left_none = λ h. refl; right_none = λ h. refl }
combines_long s None b =
    record { kind = refl; comes = λ x y p q. absurd (let z : ◌≡◌ {A = ℕ} 0 1 = cc in omega arith); left_none = λ h. refl; right_none = λ h. refl }

pub combines_float : (s : Sign) (a b : Ieee.Float) → Combines s (Float a) (Float b) (Some (Float (operation s binary32 a b)))
unfolding alike tag_of number_of bits_of of_number computed
combines_float s a b =
    record {
      kind = refl;
      comes = same;
      left_none = λ h. absurd (let z : ◌≡◌ {A = ℕ} 0 1 = cc in omega arith);
      right_none = λ h. absurd (let z : ◌≡◌ {A = ℕ} 0 1 = cc in omega arith);
    }
  where
    same : (x y : ℕ) → Float a ≡ Float (of_bits binary32 x) → Float b ≡ Float (of_bits binary32 y) → Float (operation s binary32 a b) ≡ Float (of_bits binary32 (rounded binary32 s x y))
    same x y e g = cc (rounded-float binary32 s x y)

pub combines_double : (s : Sign) (a b : Ieee.Float) → Combines s (Double a) (Double b) (Some (Double (operation s binary64 a b)))
unfolding alike tag_of number_of bits_of of_number computed
combines_double s a b =
    record {
      kind = refl;
      comes = same;
      left_none = λ h. absurd (let z : ◌≡◌ {A = ℕ} 0 1 = cc in omega arith);
      right_none = λ h. absurd (let z : ◌≡◌ {A = ℕ} 0 1 = cc in omega arith);
    }
  where
    same : (x y : ℕ) → Double a ≡ Double (of_bits binary64 x) → Double b ≡ Double (of_bits binary64 y) → Double (operation s binary64 a b) ≡ Double (of_bits binary64 (rounded binary64 s x y))
    same x y e g = cc (rounded-float binary64 s x y)

-- ---- two of two kinds

pub mixed-Int : (a : _) (w : Value) → ((b : _) → w ≡ Int b → ⊥) → alike (some (number_of (Int a))) (some (number_of w)) ≡ none
unfolding alike tag_of number_of
mixed-Int a (Int b) h = absurd (h b refl)
mixed-Int a (Float b) h = refl
mixed-Int a (Long b) h = refl
mixed-Int a (Double b) h = refl

pub mixed-Float : (a : _) (w : Value) → ((b : _) → w ≡ Float b → ⊥) → alike (some (number_of (Float a))) (some (number_of w)) ≡ none
unfolding alike tag_of number_of
mixed-Float a (Int b) h = refl
mixed-Float a (Float b) h = absurd (h b refl)
mixed-Float a (Long b) h = refl
mixed-Float a (Double b) h = refl

pub mixed-Long : (a : _) (w : Value) → ((b : _) → w ≡ Long b → ⊥) → alike (some (number_of (Long a))) (some (number_of w)) ≡ none
unfolding alike tag_of number_of
mixed-Long a (Int b) h = refl
mixed-Long a (Float b) h = refl
mixed-Long a (Long b) h = absurd (h b refl)
mixed-Long a (Double b) h = refl

pub mixed-Double : (a : _) (w : Value) → ((b : _) → w ≡ Double b → ⊥) → alike (some (number_of (Double a))) (some (number_of w)) ≡ none
unfolding alike tag_of number_of
mixed-Double a (Int b) h = refl
mixed-Double a (Float b) h = refl
mixed-Double a (Long b) h = refl
mixed-Double a (Double b) h = absurd (h b refl)
