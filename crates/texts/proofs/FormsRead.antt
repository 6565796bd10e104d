-- The form that bytes begin with, by its first byte and the bytes that follow it. Assumes nothing.
use mathlib.Core.Bool.{true, false, ◌&&◌}
use mathlib.Core.List.{List, [], ◌∷◌}
use mathlib.Core.Logic.{◌⊎◌, inl, inr}
use mathlib.Core.Option.{none}
use mathlib.Core.Path.{◌≡◌, refl, sym, ap, ◌∙◌}
use Prim.Native.Nat.{ℕ, ◌+◌, ◌*◌, ◌-◌, ◌<◌, ◌≤◌}
use native.Mathlib.Omega.{arith}
use borrow.Author.Tests.{lt-ltb, le-ltb, ltb-true}
use lib.Dec.{ltb}
use lib.ListN.{length, get_or}
use Rattle.definition.specs.Bytes.{one}
use Rattle.definition.specs.Texts.{between, leading, unit}
use Rattle.facts.proofs.Lists.{clash, both_true, order}
use Rattle.texts.specs.Forms.{Begins, has_six}
use Rattle.laws.proofs.Texts.UnitsRead.{between_in, between-below, between-above, between-true, lead_one, lead_two, lead_three, trail_more, trail_none, trail_end, trail_done, unit-led, unit-not-led}

-- A BYTE THAT FOLLOWS

module _ (bytes : List ℕ) (at : ℕ) where
  pub six_past : length bytes ≤ at → false ≡ has_six bytes at
  six_past out = sym (ap (λ t. t && between 0x80 0xbf (get_or bytes at 0)) (le-ltb at (length bytes) out))

  pub six_is : at < length bytes → between 0x80 0xbf (get_or bytes at 0) ≡ has_six bytes at
  six_is inside = sym (ap (λ t. t && between 0x80 0xbf (get_or bytes at 0)) (lt-ltb at (length bytes) inside))

  pub six_true : has_six bytes at ≡ true → (at < length bytes) × (between 0x80 0xbf (get_or bytes at 0) ≡ true)
  six_true e = let b = both_true (ltb at (length bytes)) (between 0x80 0xbf (get_or bytes at 0)) e in (ltb-true at (length bytes) b.0, b.1)

  pub six_range : has_six bytes at ≡ true → (at < length bytes) × (0x80 ≤ get_or bytes at 0) × (get_or bytes at 0 < 0xc0)
  six_range e =
      let (inside, is) = six_true e in
      let range = between-true 0x80 0xbf (get_or bytes at 0) is in
      (inside, range.0, omega arith)

  pub six_low : at < length bytes → get_or bytes at 0 < 0x80 → false ≡ has_six bytes at
  six_low inside low = sym (between-below 0x80 0xbf (get_or bytes at 0) low) ∙ six_is inside

  pub six_high : at < length bytes → 0x80 ≤ get_or bytes at 0 → ltb (get_or bytes at 0) 0xc0 ≡ has_six bytes at
  six_high inside high = go (order (get_or bytes at 0) 0xc0) ∙ six_is inside
    where
      go : (get_or bytes at 0 < 0xc0) ⊎ (0xc0 ≤ get_or bytes at 0) → ltb (get_or bytes at 0) 0xc0 ≡ between 0x80 0xbf (get_or bytes at 0)
      go (inl l) = lt-ltb (get_or bytes at 0) 0xc0 l ∙ sym (between_in 0x80 0xbf (get_or bytes at 0) high (omega arith))
      go (inr l) = le-ltb (get_or bytes at 0) 0xc0 l ∙ sym (between-above 0x80 0xbf (get_or bytes at 0) (omega arith))

-- THE FORM

pub unit_none : (bytes : List ℕ) → length bytes ≤ 0 → unit bytes ≡ none
unfolding unit one
unit_none [] h = refl
unit_none (b ∷ bytes) h = clash (omega arith)

pub no_lead : (bytes : List ℕ) → 0 < length bytes → leading (get_or bytes 0 0) ≡ none → unit bytes ≡ none
no_lead [] more e = clash (omega arith)
no_lead (b ∷ bytes) more e = unit-not-led b bytes e

pub two-cut : (bytes : List ℕ) → 0 < length bytes → 0xc0 ≤ get_or bytes 0 0 → get_or bytes 0 0 < 0xe0 → has_six bytes 1 ≡ false → unit bytes ≡ none
two-cut [] more l h e = clash (omega arith)
two-cut (b ∷ []) more l h e =
    unit-led b [] (1, b - 0xc0) (lead_two b l h) ∙ trail_end 0 (b - 0xc0)
two-cut (b ∷ c ∷ bytes) more l h e =
    unit-led b (c ∷ bytes) (1, b - 0xc0) (lead_two b l h) ∙ trail_none 0 (b - 0xc0) c bytes (six_is (b ∷ c ∷ bytes) 1 (omega arith) ∙ e)

pub three_cut : (bytes : List ℕ) → 0 < length bytes → 0xe0 ≤ get_or bytes 0 0 → get_or bytes 0 0 < 0xf0 → has_six bytes 1 ≡ false → unit bytes ≡ none
three_cut [] more l h e = clash (omega arith)
three_cut (b ∷ []) more l h e =
    unit-led b [] (2, b - 0xe0) (lead_three b l h) ∙ trail_end 1 (b - 0xe0)
three_cut (b ∷ c ∷ bytes) more l h e =
    unit-led b (c ∷ bytes) (2, b - 0xe0) (lead_three b l h) ∙ trail_none 1 (b - 0xe0) c bytes (six_is (b ∷ c ∷ bytes) 1 (omega arith) ∙ e)

pub three_cut-last :
    (bytes : List ℕ) → 0xe0 ≤ get_or bytes 0 0 → get_or bytes 0 0 < 0xf0 → has_six bytes 1 ≡ true → has_six bytes 2 ≡ false → unit bytes ≡ none
three_cut-last [] l h e f = let six = six_true [] 1 e in clash (omega arith)
three_cut-last (b ∷ []) l h e f = let six = six_true (b ∷ []) 1 e in clash (omega arith)
three_cut-last (b ∷ c ∷ []) l h e f =
    unit-led b (c ∷ []) (2, b - 0xe0) (lead_three b l h)
    ∙ trail_more 1 (b - 0xe0) c [] (six_true (b ∷ c ∷ []) 1 e).1
    ∙ trail_end 0 (64 * (b - 0xe0) + (c - 0x80))
three_cut-last (b ∷ c ∷ d ∷ bytes) l h e f =
    unit-led b (c ∷ d ∷ bytes) (2, b - 0xe0) (lead_three b l h)
    ∙ trail_more 1 (b - 0xe0) c (d ∷ bytes) (six_true (b ∷ c ∷ d ∷ bytes) 1 e).1
    ∙ trail_none 0 (64 * (b - 0xe0) + (c - 0x80)) d bytes (six_is (b ∷ c ∷ d ∷ bytes) 2 (omega arith) ∙ f)

pub one_form : (bytes : List ℕ) → 0 < length bytes → (get_or bytes 0 0 ≡ 0 → ⊥) → get_or bytes 0 0 < 0x80 → Begins bytes (get_or bytes 0 0) 1
one_form [] more l h = clash (omega arith)
one_form (b ∷ bytes) more l h =
    record { reads = unit-led b bytes (0, b) (lead_one b (omega arith) h) ∙ trail_done b bytes; moves = omega arith; inside = omega arith }

pub two-form :
    (bytes : List ℕ) → 0xc0 ≤ get_or bytes 0 0 → get_or bytes 0 0 < 0xe0 → has_six bytes 1 ≡ true →
    Begins bytes (64 * (get_or bytes 0 0 - 0xc0) + (get_or bytes 1 0 - 0x80)) 2
two-form [] l h e = let six = six_true [] 1 e in clash (omega arith)
two-form (b ∷ []) l h e = let six = six_true (b ∷ []) 1 e in clash (omega arith)
two-form (b ∷ c ∷ bytes) l h e =
    record {
      reads =
          unit-led b (c ∷ bytes) (1, b - 0xc0) (lead_two b l h)
          ∙ trail_more 0 (b - 0xc0) c bytes (six_true (b ∷ c ∷ bytes) 1 e).1
          ∙ trail_done (64 * (b - 0xc0) + (c - 0x80)) bytes;
      moves = omega arith;
      inside = omega arith;
    }

pub three_form :
    (bytes : List ℕ) → 0xe0 ≤ get_or bytes 0 0 → get_or bytes 0 0 < 0xf0 → has_six bytes 1 ≡ true → has_six bytes 2 ≡ true →
    Begins bytes (64 * (64 * (get_or bytes 0 0 - 0xe0) + (get_or bytes 1 0 - 0x80)) + (get_or bytes 2 0 - 0x80)) 3
three_form [] l h e f = let six = six_true [] 1 e in clash (omega arith)
three_form (b ∷ []) l h e f = let six = six_true (b ∷ []) 1 e in clash (omega arith)
three_form (b ∷ c ∷ []) l h e f = let six = six_true (b ∷ c ∷ []) 2 f in clash (omega arith)
three_form (b ∷ c ∷ d ∷ bytes) l h e f =
    record {
      reads =
          unit-led b (c ∷ d ∷ bytes) (2, b - 0xe0) (lead_three b l h)
          ∙ trail_more 1 (b - 0xe0) c (d ∷ bytes) (six_true (b ∷ c ∷ d ∷ bytes) 1 e).1
          ∙ trail_more 0 (64 * (b - 0xe0) + (c - 0x80)) d bytes (six_true (b ∷ c ∷ d ∷ bytes) 2 f).1
          ∙ trail_done (64 * (64 * (b - 0xe0) + (c - 0x80)) + (d - 0x80)) bytes;
      moves = omega arith;
      inside = omega arith;
    }
