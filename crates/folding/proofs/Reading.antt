-- How the definition's readers go over a job's bytes at a place. Assumes nothing.
use mathlib.Core.Path.{◌≡◌, refl, sym, ap, ◌∙◌}
use mathlib.Core.Bool.{Bool, true, false}
use mathlib.Core.List.{List, [], ◌∷◌}
use mathlib.Core.Option.{Option, none, some}
use Prim.Native.Nat.{ℕ, zero, suc, ◌+◌, ◌-◌, ◌*◌, ◌<◌, ◌≤◌}
use native.Mathlib.Nat.{le_refl, le_trans}
use native.Mathlib.Numerals.{add-one}
use native.Mathlib.Omega.{arith}
use lib.Dec.{leb}
use lib.ListN.{length, drop, get_or, drop_of_length-le}
use lib.Seq.{drop-cons}
use borrow.Author.Tests.{leb-true, leb-false}
use Rattle.definition.specs.Basics.{lookup}
use Rattle.definition.specs.Bytes.{Parser, return, and_then, ◌>>=◌, one, two}
use Rattle.writer.specs.Numbers.{number2, number4, number8}
use Rattle.facts.proofs.Tables.{lookup-none}
use Rattle.definition.specs.Expression.{Number, int, float, long, double, Sign, Expression, leaf, Opening, of_leaf, of_sign, openings, four, eight, bits, joined, second_part, opened_part, expression}
use Rattle.folding.specs.Folding.{size_of, bits_at}

pub no_opening :
    (x : ℕ) → (x ≡ 3 → ⊥) → (x ≡ 4 → ⊥) → (x ≡ 5 → ⊥) → (x ≡ 6 → ⊥) → (x ≡ 0x2B → ⊥) → (x ≡ 0x2D → ⊥) → (x ≡ 0x2A → ⊥) → (x ≡ 0x2F → ⊥) →
    none ≡ lookup x openings
unfolding openings
no_opening x a b c d e f g h = sym (lookup-none x openings (a, (b, (c, (d, (e, (f, (g, (h, tt)))))))))

-- ---- numbers

abbrev At : Parser ℕ → ℕ → (List ℕ → ℕ → ℕ) → Type 0
At p n number = (s : List ℕ) (at : ℕ) → at + n ≤ length s → p (drop at s) ≡ some (number s at, drop (at + n) s)

abbrev Cut : Parser ℕ → ℕ → Type 0
Cut p n = (s : List ℕ) (at : ℕ) → length s - at < n → p (drop at s) ≡ none

pub one_at : (s : List ℕ) (at : ℕ) → at + 1 ≤ length s → one (drop at s) ≡ some (get_or s at 0, drop (at + 1) s)
unfolding one
one_at s at h =
    let low : at < length s = omega arith in
    rw (add-one, drop-cons s at 0 low)

pub one-cut : Cut one 1
unfolding one
one-cut s at h =
    let low : length s ≤ at = omega arith in
    rw (drop_of_length-le s low)

-- two numbers of a size make one of twice the size
module _ (p : Parser ℕ) (n w : ℕ) (number : List ℕ → ℕ → ℕ) (reads : At p n number) (cuts : Cut p n) where
  twice_at : (s : List ℕ) (at : ℕ) → at + (n + n) ≤ length s → (p >>= λ a. p >>= λ b. return (w * a + b)) (drop at s) ≡ some (w * number s at + number s (at + n), drop (at + (n + n)) s)
  twice_at s at h =
      let first = reads s at (omega arith) in
      let second = reads s (at + n) (omega arith) in
      let e : at + n + n ≡ at + (n + n) = omega arith in
      rw (first, second, e)

  twice_cut : Cut (p >>= λ a. p >>= λ b. return (w * a + b)) (n + n)
  twice_cut s at h = ways (leb (at + n) (length s)) refl
    where
      ways : (t : Bool) → leb (at + n) (length s) ≡ t → (p >>= λ a. p >>= λ b. return (w * a + b)) (drop at s) ≡ none
      ways true e =
          let low = leb-true (at + n) (length s) e in
          let first = reads s at low in
          let second = cuts s (at + n) (omega arith) in
          rw (first, second)
      ways false e =
          let low = leb-false (at + n) (length s) e in
          rw (cuts s at (omega arith))

two_at : At two 2 number2
unfolding two
two_at = twice_at one 1 256 (λ s at. get_or s at 0) one_at one-cut

two-cut : Cut two 2
unfolding two
two-cut = twice_cut one 1 256 (λ s at. get_or s at 0) one_at one-cut

four-at : At four 4 number4
unfolding four
four-at = twice_at two 2 65536 number2 two_at two-cut

four-cut : Cut four 4
unfolding four
four-cut = twice_cut two 2 65536 number2 two_at two-cut

eight-at : At eight 8 number8
unfolding eight
eight-at = twice_at four 4 4294967296 number4 four-at four-cut

eight-cut : Cut eight 8
unfolding eight
eight-cut = twice_cut four 4 4294967296 number4 four-at four-cut

pub bits_at_lem : (kind : Number) → At (bits kind) (size_of kind) (bits_at kind)
unfolding bits size_of bits_at
bits_at_lem int = four-at
bits_at_lem float = four-at
bits_at_lem long = eight-at
bits_at_lem double = eight-at

pub bits-cut : (kind : Number) → Cut (bits kind) (size_of kind)
unfolding bits size_of
bits-cut int = four-cut
bits-cut float = four-cut
bits-cut long = eight-cut
bits-cut double = eight-cut

-- ---- what is left is no longer

abbrev pub Shrinks : {A : Type 0} → Parser A → Type 0
Shrinks {A} p = (s : List ℕ) (a : A) (r : List ℕ) → p s ≡ some (a, r) → length r ≤ length s

-- the bytes behind what was read, and what was read
abbrev pub behind : {A : Type 0} → Option (A × List ℕ) → List ℕ
behind none = []
behind (some r) = r.1

shrinks_return : {A : Type 0} (a : A) → Shrinks (return a)
shrinks_return a s b r e = rw (ap behind e) (le_refl (length r))

shrinks_one : Shrinks one
unfolding one
shrinks_one [] a r e = absurd (let z : ◌≡◌ {A = ℕ} 0 1 = cc in omega arith)
shrinks_one (x ∷ s) a r e = rw (ap behind e) (omega arith)

shrinks_bind : {A B : Type 0} (p : Parser A) (f : A → Parser B) → Shrinks p → ((a : A) → Shrinks (f a)) → Shrinks (p >>= f)
shrinks_bind {A} {B} p f h g s b r e = go (p s) refl e
  where
    go : (o : Option (A × List ℕ)) → p s ≡ o → and_then o f ≡ some (b, r) → length r ≤ length s
    go none q e = absurd (let z : ◌≡◌ {A = ℕ} 0 1 = cc in omega arith)
    go (some (a, l)) q e = le_trans (g a l b r e) (h s a l q)

shrinks_two : Shrinks two
unfolding two
shrinks_two = shrinks_bind one (λ a. one >>= λ b. return (256 * a + b)) shrinks_one (λ a. shrinks_bind one (λ b. return (256 * a + b)) shrinks_one (λ b. shrinks_return (256 * a + b)))

shrinks_four : Shrinks four
unfolding four
shrinks_four = shrinks_bind two (λ a. two >>= λ b. return (65536 * a + b)) shrinks_two (λ a. shrinks_bind two (λ b. return (65536 * a + b)) shrinks_two (λ b. shrinks_return (65536 * a + b)))

shrinks_eight : Shrinks eight
unfolding eight
shrinks_eight = shrinks_bind four (λ a. four >>= λ b. return (4294967296 * a + b)) shrinks_four (λ a. shrinks_bind four (λ b. return (4294967296 * a + b)) shrinks_four (λ b. shrinks_return (4294967296 * a + b)))

shrinks_bits : (kind : Number) → Shrinks (bits kind)
unfolding bits
shrinks_bits int = shrinks_four
shrinks_bits float = shrinks_four
shrinks_bits long = shrinks_eight
shrinks_bits double = shrinks_eight

shrinks_second : (part : Parser (Option Expression)) (s : Sign) → Shrinks part → (a : Option Expression) → Shrinks (second_part part s a)
unfolding second_part
shrinks_second part s h none = shrinks_return none
shrinks_second part s h (some a) = shrinks_bind part (λ b. return (joined s a b)) h (λ b. shrinks_return (joined s a b))

shrinks_opened : (part : Parser (Option Expression)) → Shrinks part → (o : Option Opening) → Shrinks (opened_part part o)
unfolding opened_part
shrinks_opened part h none = shrinks_return none
shrinks_opened part h (some (of_leaf kind)) = shrinks_bind (bits kind) (λ b. return (some (leaf kind b))) (shrinks_bits kind) (λ b. shrinks_return (some (leaf kind b)))
shrinks_opened part h (some (of_sign s)) = shrinks_bind part (second_part part s) h (shrinks_second part s h)

pub shrinks : (fuel : ℕ) → Shrinks (expression fuel)
unfolding expression
shrinks zero s a r e = absurd (let z : ◌≡◌ {A = ℕ} 0 1 = cc in omega arith)
shrinks (suc fuel) s a r e =
    shrinks_bind one (λ first. opened_part (expression fuel) (lookup first openings)) shrinks_one (λ first. shrinks_opened (expression fuel) (shrinks fuel) (lookup first openings)) s a r e

-- ---- any fuel will do that is the bytes' number or more

abbrev Agree : Parser (Option Expression) → Parser (Option Expression) → ℕ → Type 0
Agree p q n = (s : List ℕ) → length s ≤ n → p s ≡ q s

second-agree :
    (p q : Parser (Option Expression)) (n : ℕ) → Agree p q n → (g : Sign) (a : Option Expression) (s : List ℕ) → length s ≤ n → second_part p g a s ≡ second_part q g a s
unfolding second_part
second-agree p q n h g none s l = refl
second-agree p q n h g (some a) s l = ap (λ o. and_then o (λ b. return (joined g a b))) (h s l)

opened-agree :
    (p q : Parser (Option Expression)) (n : ℕ) → Agree p q n → Shrinks q → (o : Option Opening) (s : List ℕ) → length s ≤ n → opened_part p o s ≡ opened_part q o s
unfolding opened_part
opened-agree p q n h k none s l = refl
opened-agree p q n h k (some (of_leaf kind)) s l = refl
opened-agree p q n h k (some (of_sign g)) s l = ap (λ o. and_then o (second_part p g)) (h s l) ∙ go (q s) refl
  where
    go : (o : Option (Option Expression × List ℕ)) → q s ≡ o → and_then o (second_part p g) ≡ and_then o (second_part q g)
    go none e = refl
    go (some (a, r)) e = second-agree p q n h g a r (le_trans (k s a r e) l)

pub agree : (f g : ℕ) (s : List ℕ) → length s ≤ f → length s ≤ g → expression f s ≡ expression g s
unfolding expression one
agree zero zero s h k = refl
agree zero (suc g) [] h k = refl
agree zero (suc g) (x ∷ s) h k = absurd (omega arith)
agree (suc f) zero [] h k = refl
agree (suc f) zero (x ∷ s) h k = absurd (omega arith)
agree (suc f) (suc g) [] h k = refl
agree (suc f) (suc g) (x ∷ s) h k = opened-agree (expression f) (expression g) (length s) (λ r l. agree f g r (omega arith) (omega arith)) (shrinks g) (lookup x openings) s (le_refl (length s))
