-- Texts put into a buffer one behind the other. Assumes nothing.
use mathlib.Core.List.{List, [], ◌∷◌, ◌++◌, map, append_assoc, append-nil}
use mathlib.Core.Path.{◌≡◌, refl, sym, ap, subst, ◌∙◌}
use Prim.Native.Nat.{ℕ, suc, ◌+◌, ◌<◌, ◌≤◌}
use native.Mathlib.Numerals.{add-one}
use native.Mathlib.Omega.{arith}
use lib.ListN.{length, take, drop, set, get_or, length-append, length-take}
use lib.Seq.{paste, take-paste, drop-paste, take-suc-set, drop-set-lt, drop-drop, take-suc, length-take-le}
use Rattle.io.specs.Counts.{IsPrefixLen}
use Rattle.definition.specs.Basics.{concat}
use Rattle.poolrun_text.specs.Page.{Behind, Prints}
use Rattle.poolrun_text.specs.declared.page.Page.{Page}

-- bytes that stay as they were from a place on stay so from a later one on
still : (a b : List ℕ) (r s n : ℕ) → s ≡ r + n → drop r a ≡ drop r b → drop s a ≡ drop s b
still a b r s n e same =
    ap (λ k. drop k a) e ∙ sym (drop-drop n r a) ∙ ap (drop n) same ∙ drop-drop n r b ∙ ap (λ k. drop k b) (sym e)

-- one text, then another
pub then :
    {b a c : List ℕ} {at r s : ℕ} {t u : List ℕ} → Behind b a at r t → Behind a c r s u → Behind b c at s (t ++ u)
then {b} {a} {c} {at} {r} {s} {t} {u} p q =
    record {
      end_is = q.end_is ∙ omega (arith, p.end_is, length-append t u);
      text_is = q.text_is ∙ ap (λ l. l ++ u) p.text_is ∙ append_assoc (take at b) t u;
      rest_is = q.rest_is ∙ still a b r s (length u) q.end_is p.rest_is;
    }

-- no text
pub none-behind : (d : List ℕ) (at : ℕ) → Behind d d at at []
none-behind d at = record { end_is = omega arith; text_is = sym (append-nil (take at d)); rest_is = refl }

pub byte_behind : (d : List ℕ) (at b : ℕ) → at < length d → Behind d (set d at b) at (at + 1) (b ∷ [])
byte_behind d at b h =
    record {
      end_is = refl;
      text_is = ap (λ n. take n (set d at b)) (add-one at) ∙ take-suc-set d at b h;
      rest_is = drop-set-lt (at + 1) d at b (omega arith);
    }

-- the first n bytes of a word
pub word_behind :
    (d w e : List ℕ) (at n : ℕ) → n ≤ length w → at + n ≤ length d → e ≡ paste d at (drop 0 w) n → Behind d e at (at + n) (take n w)
word_behind d w e at n inside room is =
    let low : at ≤ length d = omega arith in
    record {
      end_is = ap (λ k. at + k) (sym (length-take-le n w inside));
      text_is = ap (take (at + n)) is ∙ take-paste d at w n low inside;
      rest_is = ap (drop (at + n)) is ∙ drop-paste d at w n low inside;
    }

-- the same text in other words
pub reworded : {b a : List ℕ} {at r : ℕ} {t u : List ℕ} → t ≡ u → Behind b a at r t → Behind b a at r u
reworded {b} {a} {at} {r} e p = subst (Behind b a at r) e p

-- the same of a page
pub then_prints : {b a c : Page} {t u : List ℕ} → Prints b a t → Prints a c u → Prints b c (t ++ u)
then_prints p q =
    record { same_buffer = q.same_buffer ∙ p.same_buffer; same_room = q.same_room ∙ p.same_room; behind = then p.behind q.behind }

pub none-printed : (page : Page) → Prints page page []
none-printed page = record { same_buffer = refl; same_room = refl; behind = none-behind page.out.now page.at }

pub reprinted : {b a : Page} {t u : List ℕ} → t ≡ u → Prints b a t → Prints b a u
reprinted {b} {a} e p = subst (Prints b a) e p

-- a text from the buffer's start is what the buffer's front holds
pub whole :
    {b a : List ℕ} {r : ℕ} {t : List ℕ} → Behind b a 0 r t → IsPrefixLen r a × ((r ≡ length t) × ((take r a ≡ t) × (drop r a ≡ drop r b)))
whole {b} {a} {r} {t} p =
    let size : r ≡ length t = omega (arith, p.end_is) in
    let room : r ≤ length a = omega (arith, size, ap length p.text_is, length-take r a) in
    ((room, sym (length-take-le r a room)), (size, (p.text_is, p.rest_is)))

-- parts that a list's elements stand for, joined: one element more
module _ (f : ℕ → List ℕ) where
  concat-more : (l : List ℕ) (x : ℕ) → concat (map f (l ++ (x ∷ []))) ≡ concat (map f l) ++ f x
  unfolding concat
  concat-more [] x = append-nil (f x)
  concat-more (y ∷ l) x = ap (λ m. f y ++ m) (concat-more l x) ∙ sym (append_assoc (f y) (concat (map f l)) (f x))

  pub parts_more :
      (l : List ℕ) (i : ℕ) → i < length l → concat (map f (take (suc i) l)) ≡ concat (map f (take i l)) ++ f (get_or l i 0)
  parts_more l i h = ap (λ m. concat (map f m)) (take-suc l i 0 h) ∙ concat-more (take i l) (get_or l i 0)
