-- The lines of a listing, slot by slot (specs/Listing.antt). Assumes nothing.
use mathlib.Core.Bool.{false}
use mathlib.Core.List.{List, [], ◌∷◌, ◌++◌, append_assoc}
use mathlib.Core.Logic.{◌⊎◌, inl, inr}
use mathlib.Core.Option.{Option, none, some}
use mathlib.Core.Path.{◌≡◌, refl, sym, ap, ◌∙◌}
use Prim.Native.Nat.{ℕ, zero, suc, ◌+◌, ◌-◌, ◌<◌, ◌≤◌}
use native.Mathlib.Omega.{arith}
use lib.ListN.{length, drop, get_or, get_elem?, drop_of_length-le}
use Rattle.definition.specs.Basics.{lookup}
use Rattle.definition.specs.Ascii.{decimal}
use Rattle.jvms.specs.Pool.{Constant, Slot, usable, unusable, ◌>>=◌, u2, constant_pool, read_pool_lem}
use Rattle.laws.proofs.Reading.ReadIsSpelled.{wholly-some}
use Rattle.writer.specs.Numbers.{number2}
use Rattle.facts.proofs.Lists.{none≢some, order}
use Rattle.places.specs.Standing.{tag, slot_of, Noted}
use Rattle.places.proofs.Found.{constant_stands, no_place, at_place}
use Rattle.places.proofs.Counting.{read_u2, no_count}
use Rattle.places.proofs.Rows.{slots-size}
use Rattle.listing.specs.Listing.{Finished, kinds, kind, or_decimal, held, named, opened, line, lines_from, lines}
use Rattle.listing.specs.Opening.{held_at}
use Rattle.listing.specs.Lists.{line_of}

-- ---- a line

no_line_of : (f : Finished) (n : ℕ) (s : Option Slot) → ((c : Constant) → s ≡ some (usable c) → ⊥) → [] ≡ line_of f n s
unfolding line_of line
no_line_of f n none h = refl
no_line_of f n (some unusable) h = refl
no_line_of f n (some (usable c)) h = absurd (h c refl)

line_of_lem :
    (f : Finished) (n t : ℕ) (s : Option Slot) (c : Constant) → t ≡ tag c → s ≡ some (usable c) →
    decimal n ++ 0x20 ∷ (or_decimal t (lookup t kinds) ++ 0x20 ∷ (held_at (opened f 7) s ++ 0x0a ∷ [])) ≡ line_of f n s
unfolding line_of line named kind held_at
line_of_lem f n t s c is e =
    rw (e, is, held_at, line_of, line) (ap (λ l. decimal n ++ 0x20 ∷ l) (sym (append_assoc (kind c) (0x20 ∷ held (opened f 7) c) (0x0a ∷ []))))

module _ {bytes table : List ℕ} (f : Finished) (noted : Noted bytes f.slots table) (n : ℕ) where
  pub no_line : get_or table n 0 ≡ 0 → [] ≡ line_of f n (slot_of f.slots n)
  no_line h = no_line_of f n (slot_of f.slots n) (no_place noted n h)

  pub inside : 0 < get_or table n 0 → get_or table n 0 < length bytes
  inside h = let (c, is, there) = at_place noted n h in (constant_stands bytes (get_or table n 0) c there).inside

  pub the_line :
      0 < get_or table n 0 → (t : ℕ) → t ≡ get_or bytes (get_or table n 0) 0 →
      decimal n ++ 0x20 ∷ (or_decimal t (lookup t kinds) ++ 0x20 ∷ (held_at (opened f 7) (slot_of f.slots n) ++ 0x0a ∷ []))
      ≡ line_of f n (slot_of f.slots n)
  the_line h t is =
      let (c, e, there) = at_place noted n h in
      line_of_lem f n t (slot_of f.slots n) c (is ∙ (constant_stands bytes (get_or table n 0) c there).first) e

-- ---- the lines from a slot on

next-line :
    (f : Finished) (n i : ℕ) (l : List Slot) → i < length l →
    lines_from f n (drop i l) ≡ line_of f n (get_elem? l i) ++ lines_from f (suc n) (drop (suc i) l)
unfolding lines_from line_of
next-line f n i [] h = absurd (omega arith)
next-line f n zero (s ∷ l) h = refl
next-line f n (suc i) (s ∷ l) h = next-line f n i l (omega arith)

unfoldable pub lines_left : Finished → ℕ → List ℕ
lines_left f n = lines_from f n (drop (n - 1) f.slots)

pub line-next :
    (f : Finished) (n : ℕ) → 0 < n → n ≤ length f.slots → lines_left f n ≡ line_of f n (slot_of f.slots n) ++ lines_left f (n + 1)
unfolding lines_left slot_of
line-next f zero low h = absurd (omega arith)
line-next f (suc i) low h =
    let here : suc i - 1 ≡ i = omega arith in
    let next : suc i + 1 ≡ suc (suc i) = omega arith in
    let behind : suc i + 1 - 1 ≡ suc i = omega arith in
    rw (behind, next, here) (next-line f (suc i) i f.slots (omega arith))

pub lines_end : (f : Finished) (n : ℕ) → length f.slots < n → lines_left f n ≡ []
unfolding lines_left lines_from
lines_end f n h =
    let past : length f.slots ≤ n - 1 = omega arith in
    ap (lines_from f n) (drop_of_length-le f.slots past)

pub lines-all : (f : Finished) → lines f ≡ lines_left f 1
unfolding lines lines_left
lines-all f = refl

-- ---- the count in a pool's first two bytes

pool_size :
    (n : ℕ) (bytes : List ℕ) (p : ℕ) (l : List Slot) (rest : List ℕ) → p ≤ length bytes → constant_pool n (drop p bytes) ≡ some (l, rest) → n ≡ suc (length l)
unfolding constant_pool
pool_size zero bytes p l rest low read = none≢some read
pool_size (suc n) bytes p l rest low read = ap suc (sym (slots-size n false bytes p low l rest read))

pub counted : (bytes : List ℕ) (l : List Slot) → read_pool_lem bytes ≡ some l → (2 ≤ length bytes) × (number2 bytes 0 ≡ suc (length l))
unfolding read_pool_lem
counted bytes l read = ways (order (length bytes) 2) (wholly-some ((u2 >>= constant_pool) bytes) l read)
  where
    ways : (length bytes < 2) ⊎ (2 ≤ length bytes) → (u2 >>= constant_pool) bytes ≡ some (l, []) → (2 ≤ length bytes) × (number2 bytes 0 ≡ suc (length l))
    ways (inl few) whole = none≢some (sym (no_count bytes 0 [] few).0 ∙ whole)
    ways (inr enough) whole = (enough, pool_size (number2 bytes 0) bytes 2 l [] enough (rw (read_u2 bytes 0 enough) at whole))
