-- The folder's steps: what a part and two parts come to, at their places. Assumes nothing.
use mathlib.Core.Path.{◌≡◌, refl, sym, ap, ◌∙◌, subst}
use mathlib.Core.Bool.{Bool, true, false, ◌||◌}
use mathlib.Core.List.{List, []}
use mathlib.Core.Option.{Option, none, some}
use Rattle.std.specs.Prelude as std
use Rattle.std.specs.Prelude.{Some, None}
use Prim.Native.Nat.{ℕ, zero, suc, ◌+◌, ◌-◌, ◌<◌, ◌≤◌}
use native.Mathlib.Omega.{arith}
use lib.Dec.{eqb, leb}
use lib.ListN.{length, drop, get_or}
use borrow.Author.Tests.{leb-true, leb-false, eqb-true}
use Rattle.definition.specs.Basics as results
use Rattle.definition.specs.Basics.{Result, good, bad, lookup}
use Rattle.definition.specs.Bytes.{return, and_then}
use Rattle.definition.specs.Expression.{Number, int, float, long, double, tag_of, Sign, Expression, leaf, apply, of_leaf, of_sign, openings, bits, joined, second_part, opened_part, expression, alike, kind_within}
use Rattle.definition.specs.Value.{computed, value}
use Rattle.folding.specs.Folding.{opens, kind_of, sign_of, size_of, bits_at, number_of, of_number, Comes, Combined, Combines, Reads, Folds}
use Rattle.folding.specs.declared.Value.{Value}
use Rattle.folding.specs.declared.Folded.{Folded}
use Rattle.folding.specs.declared.Opens.{Opens}
use Rattle.folding.specs.declared.Opens.TheVariants as opening
use Rattle.folding.proofs.Reading.{bits_at_lem, bits-cut}
use Rattle.folding.proofs.Parts.{none-at, opens_at}

-- ---- what was read, and the bytes behind it

abbrev Read : Type 0
Read = Option (Option Expression × List ℕ)

abbrev rest : Read → List ℕ
rest none = []
rest (some r) = r.1

abbrev there : Option Expression → Expression
there none = leaf int 0
there (some e) = e

abbrev what : Read → Expression
what none = leaf int 0
what (some r) = there r.0

abbrev is_there : Option Expression → ℕ
is_there none = 0
is_there (some e) = 1

abbrev was_read_lem : Read → ℕ
was_read_lem none = 0
was_read_lem (some r) = is_there r.0

-- what is none, or no expression, was not read
pub unread : {A : Type 0} (o : Read) (e : Expression) (r : List ℕ) → was_read_lem o ≡ 0 → o ≡ some (some e, r) → A
unread o e r h k = let z : ◌≡◌ {A = ℕ} 0 1 = sym h ∙ ap was_read_lem k in absurd (omega arith)

no_fuel : (l : List ℕ) → expression 0 l ≡ none
unfolding expression
no_fuel l = refl

-- ---- two parts of an expression

pub record Parted (s : List ℕ) (at : ℕ) (g : Sign) (e : Expression) (behind : List ℕ) : Type 0 where
  pub fuel : ℕ
  pub left : Expression
  pub right : Expression
  pub middle : List ℕ
  pub is : e ≡ apply g left right
  pub first : expression fuel (drop (at + 1) s) ≡ some (some left, middle)
  pub second : expression fuel middle ≡ some (some right, behind)

module _ (s : List ℕ) (at : ℕ) where
  pub read_low : (fuel : ℕ) (e : Expression) (r : List ℕ) → expression fuel (drop at s) ≡ some (some e, r) → at < length s
  read_low fuel e r h = ways (leb (length s) at) refl
    where
      ways : (t : Bool) → leb (length s) at ≡ t → at < length s
      ways true b = unread (expression fuel (drop at s)) e r (ap was_read_lem (none-at s at fuel (leb-true (length s) at b))) h
      ways false b = leb-false (length s) at b

  pub neither_read : {A : Type 0} (fuel : ℕ) (e : Expression) (r : List ℕ) → none ≡ lookup (get_or s at 0) openings → expression fuel (drop at s) ≡ some (some e, r) → A
  unfolding opened_part
  neither_read zero e r o h = unread (expression zero (drop at s)) e r (ap was_read_lem (no_fuel (drop at s))) h
  neither_read (suc fuel) e r o h = unread (expression (suc fuel) (drop at s)) e r (ap was_read_lem (opens_at s at fuel none (read_low (suc fuel) e r h) o)) h

  pub sign_read :
      (g : Sign) → some (of_sign g) ≡ lookup (get_or s at 0) openings → (fuel : ℕ) (e : Expression) (r : List ℕ) →
      expression fuel (drop at s) ≡ some (some e, r) → Parted s at g e r
  unfolding opened_part second_part joined
  sign_read g o zero e r h = unread (expression zero (drop at s)) e r (ap was_read_lem (no_fuel (drop at s))) h
  sign_read g o (suc f) e r h = go (expression f (drop (at + 1) s)) refl (sym (opens_at s at f (some (of_sign g)) (read_low (suc f) e r h) o) ∙ h)
    where
      last :
          (a : Expression) (l : List ℕ) → expression f (drop (at + 1) s) ≡ some (some a, l) → (p : Read) → expression f l ≡ p →
          and_then p (λ b. return (joined g a b)) ≡ some (some e, r) → Parted s at g e r
      last a l q none i k = unread none e r refl k
      last a l q (some (none, m)) i k = unread (some (none, m)) e r refl k
      last a l q (some (some b, m)) i k =
          record { fuel = f; left = a; right = b; middle = l; is = sym (ap what k); first = q; second = i ∙ ap (λ m. some (some b, m)) (ap rest k) }

      go : (p : Read) → expression f (drop (at + 1) s) ≡ p → and_then p (second_part (expression f) g) ≡ some (some e, r) → Parted s at g e r
      go none q k = unread none e r refl k
      go (some (none, l)) q k = unread (some (none, l)) e r refl k
      go (some (some a, l)) q k = last a l q (expression f l) refl k

  pub leaf_read :
      (kind : Number) → some (of_leaf kind) ≡ lookup (get_or s at 0) openings → (fuel : ℕ) (e : Expression) (r : List ℕ) →
      expression fuel (drop at s) ≡ some (some e, r) →
      (at + 1 + size_of kind ≤ length s) × (e ≡ leaf kind (bits_at kind s (at + 1))) × (drop (at + 1 + size_of kind) s ≡ r)
  unfolding opened_part
  leaf_read kind o zero e r h = unread (expression zero (drop at s)) e r (ap was_read_lem (no_fuel (drop at s))) h
  leaf_read kind o (suc f) e r h =
      ways (leb (at + 1 + size_of kind) (length s)) refl (sym (opens_at s at f (some (of_leaf kind)) (read_low (suc f) e r h) o) ∙ h)
    where
      ways :
          (t : Bool) → leb (at + 1 + size_of kind) (length s) ≡ t → and_then (bits kind (drop (at + 1) s)) (λ b. return (some (leaf kind b))) ≡ some (some e, r) →
          (at + 1 + size_of kind ≤ length s) × (e ≡ leaf kind (bits_at kind s (at + 1))) × (drop (at + 1 + size_of kind) s ≡ r)
      ways true b k =
          let low = leb-true (at + 1 + size_of kind) (length s) b in
          let i = sym (ap (λ o. and_then o (λ b. return (some (leaf kind b)))) (bits_at_lem kind s (at + 1) low)) ∙ k in
          (low, sym (ap what i), ap rest i)
      ways false b k =
          let high = leb-false (at + 1 + size_of kind) (length s) b in
          let low = read_low (suc f) e r h in
          unread none e r refl (sym (ap (λ o. and_then o (λ b. return (some (leaf kind b)))) (bits-cut kind s (at + 1) (omega arith))) ∙ k)

-- ---- kinds and values

number_of_lem : (kind : Number) (b : ℕ) → number_of (of_number kind b) ≡ kind
unfolding number_of of_number
number_of_lem int b = refl
number_of_lem float b = refl
number_of_lem long b = refl
number_of_lem double b = refl

one_tag : (a b : Number) → tag_of a ≡ tag_of b → a ≡ b
unfolding tag_of
one_tag int int e = refl
one_tag int float e = absurd (omega arith)
one_tag int long e = absurd (omega arith)
one_tag int double e = absurd (omega arith)
one_tag float int e = absurd (omega arith)
one_tag float float e = refl
one_tag float long e = absurd (omega arith)
one_tag float double e = absurd (omega arith)
one_tag long int e = absurd (omega arith)
one_tag long float e = absurd (omega arith)
one_tag long long e = refl
one_tag long double e = absurd (omega arith)
one_tag double int e = absurd (omega arith)
one_tag double float e = absurd (omega arith)
one_tag double long e = absurd (omega arith)
one_tag double double e = refl

alike_same : (a b k : Number) → alike (some a) (some b) ≡ some k → (a ≡ k) × (b ≡ k)
unfolding alike
alike_same a b k e = go (eqb (tag_of a) (tag_of b)) refl e
  where
    kind_there : Option Number → Number
    kind_there none = a
    kind_there (some n) = n

    go : (t : Bool) → eqb (tag_of a) (tag_of b) ≡ t → elim t [ true ↦ some a | false ↦ none ] ≡ some k → (a ≡ k) × (b ≡ k)
    go true h i = (ap kind_there i, one_tag b a (sym (eqb-true (tag_of a) (tag_of b) h)) ∙ ap kind_there i)
    go false h i = absurd (let z : ◌≡◌ {A = ℕ} 0 1 = cc in omega arith)

or_first : (z t : Bool) (y : Bool) → y ≡ true → (y || z || t) ≡ true
or_first z t true e = refl
or_first z t false e = absurd (let z : ◌≡◌ {A = ℕ} 0 1 = cc in omega arith)

or_second : (z t : Bool) (y : Bool) → z ≡ true → (y || z || t) ≡ true
or_second true t true e = refl
or_second true t false e = refl
or_second false t y e = absurd (let z : ◌≡◌ {A = ℕ} 0 1 = cc in omega arith)

or_third : (z t : Bool) (y : Bool) → y ≡ false → z ≡ false → t ≡ (y || z || t)
or_third false t false e f = refl
or_third true t y e f = absurd (let z : ◌≡◌ {A = ℕ} 0 1 = cc in omega arith)
or_third false t true e f = absurd (let z : ◌≡◌ {A = ℕ} 0 1 = cc in omega arith)

comes_apply :
    (g : Sign) (a b : Expression) (v w x : Value) → Comes (number_of v) (value (number_of v) a) v → Comes (number_of w) (value (number_of w) b) w →
    Combined g v w x → Comes (number_of x) (value (number_of x) (apply g a b)) x
unfolding value
comes_apply g a b v w x p q c =
    let kinds = alike_same (number_of v) (number_of w) (number_of x) c.kind in
    go (value k a) (value k b) (subst (λ n. Comes n (value n a) v) kinds.0 p) (subst (λ n. Comes n (value n b) w) kinds.1 q)
  where
    k : Number
    k = number_of x

    go : (m n : Result ℕ ℕ) → Comes k m v → Comes k n w → Comes k (results.◌>>=◌ m (λ i. results.◌>>=◌ n (λ j. computed k g i j))) x
    go (good i) (good j) e h = c.comes i j e h
    go (good i) (bad n) e (h, l) = (refl, c.right_none l)
    go (bad m) n (e, f) h = (refl, c.left_none f)

-- ---- the folder's arms

module _ (s : List ℕ) (at d : ℕ) where
  pub folds_none : Folds s at 0 None
  unfolding kind_within
  folds_none fuel (leaf k b) r h = refl
  folds_none fuel (apply g a b) r h = refl

  pub folds_neither : none ≡ lookup (get_or s at 0) openings → Folds s at (suc d) None
  folds_neither o fuel e r h = neither_read s at fuel e r o h

  pub folds_leaf : (kind : Number) → some (of_leaf kind) ≡ lookup (get_or s at 0) openings → Folds s at (suc d) (Some (record { value = of_number kind (bits_at kind s (at + 1)); next = at + 1 + size_of kind }))
  unfolding kind_within value
  folds_leaf kind o fuel e r h =
      let l = leaf_read s at kind o fuel e r h in
      let b = bits_at kind s (at + 1) in
      let n = number_of_lem kind b in
      record {
        kind = ap (kind_within (suc d)) l.1 ∙ ap some (sym n);
        comes = subst (λ e. Comes (number_of (of_number kind b)) (value (number_of (of_number kind b)) e) (of_number kind b)) (sym l.1) (ap (λ k. of_number k b) (sym n));
        behind = l.2;
        within = l.0;
      }

  module _ (g : Sign) (o : some (of_sign g) ≡ lookup (get_or s at 0) openings) where
    pub first_reads : Reads s at → Reads s (at + 1)
    first_reads h =
        let p = sign_read s at g o h.fuel h.what h.rest h.read in
        record { fuel = p.fuel; what = p.left; rest = p.middle; read = p.first }

    pub second_reads : (v : Folded) → Folds s (at + 1) d (Some v) → Reads s at → Reads s v.next
    second_reads v f h =
        let p = sign_read s at g o h.fuel h.what h.rest h.read in
        let l = f p.fuel p.left p.middle p.first in
        record { fuel = p.fuel; what = p.right; rest = h.rest; read = ap (expression p.fuel) l.behind ∙ p.second }

    pub first_refused : Folds s (at + 1) d None → Folds s at (suc d) None
    unfolding kind_within alike
    first_refused f fuel e r h =
        let p = sign_read s at g o fuel e r h in
        ap (kind_within (suc d)) p.is ∙ ap (λ k. alike k (kind_within d p.right)) (f p.fuel p.left p.middle p.first)

    module _ (v : Folded) (f : Folds s (at + 1) d (Some v)) where
      pub second-refused : Folds s v.next d None → Folds s at (suc d) None
      unfolding kind_within alike
      second-refused f' fuel e r h =
          let p = sign_read s at g o fuel e r h in
          let l = f p.fuel p.left p.middle p.first in
          let m = f' p.fuel p.right r (ap (expression p.fuel) l.behind ∙ p.second) in
          ap (kind_within (suc d)) p.is ∙ ap (λ k. alike k (kind_within d p.right)) l.kind ∙ ap (alike (some (number_of v.value))) m

      pub folds_mixed : (w : Folded) → Folds s v.next d (Some w) → Combines g v.value w.value None → Folds s at (suc d) None
      unfolding kind_within
      folds_mixed w f' c fuel e r h =
          let p = sign_read s at g o fuel e r h in
          let l = f p.fuel p.left p.middle p.first in
          let m = f' p.fuel p.right r (ap (expression p.fuel) l.behind ∙ p.second) in
          ap (kind_within (suc d)) p.is ∙ ap (λ k. alike k (kind_within d p.right)) l.kind ∙ ap (alike (some (number_of v.value))) m.kind ∙ c

      pub folds_join : (w : Folded) → Folds s v.next d (Some w) → (x : Value) → Combines g v.value w.value (Some x) → Folds s at (suc d) (Some (record { value = x; next = w.next }))
      unfolding kind_within
      folds_join w f' x c fuel e r h =
          let p = sign_read s at g o fuel e r h in
          let l = f p.fuel p.left p.middle p.first in
          let m = f' p.fuel p.right r (ap (expression p.fuel) l.behind ∙ p.second) in
          record {
            kind = ap (kind_within (suc d)) p.is ∙ ap (λ k. alike k (kind_within d p.right)) l.kind ∙ ap (alike (some (number_of v.value))) m.kind ∙ c.kind;
            comes = subst (λ e. Comes (number_of x) (value (number_of x) e) x) (sym p.is) (comes_apply g p.left p.right v.value w.value x l.comes m.comes c);
            behind = m.behind;
            within = m.within;
          }

-- ---- the same in the folder's words

module _ (r : std.Option Opens) (x : ℕ) (e : opens r ≡ lookup x openings) where
  pub opening_leaf : (k : _) → r ≡ Some (opening.Leaf k) → some (of_leaf (kind_of k)) ≡ lookup x openings
  unfolding opens
  opening_leaf k h = ap opens (sym h) ∙ e

  pub opening_sign : (g : _) → r ≡ Some (opening.Parts g) → some (of_sign (sign_of g)) ≡ lookup x openings
  unfolding opens
  opening_sign g h = ap opens (sym h) ∙ e

  pub opening_neither : r ≡ None → none ≡ lookup x openings
  unfolding opens
  opening_neither h = ap opens (sym h) ∙ e

module _ (s : List ℕ) (at deep : ℕ) (any : deep ≡ 0 → ⊥) where
  up : (r : std.Option Folded) → Folds s at (suc (deep - 1)) r → Folds s at deep r
  up r h = let e : suc (deep - 1) ≡ deep = omega arith in subst (λ d. Folds s at d r) e h

  pub leaf_arm :
      (kind : Number) → some (of_leaf kind) ≡ lookup (get_or s at 0) openings → (v : Value) → v ≡ of_number kind (bits_at kind s (at + 1)) → (n : ℕ) → n ≡ size_of kind →
      Folds s at deep (Some (record { value = v; next = at + 1 + n }))
  leaf_arm kind o v e n f = rw (e, f) (up (Some _) (folds_leaf s at (deep - 1) kind o))

  pub neither_arm : none ≡ lookup (get_or s at 0) openings → Folds s at deep None
  neither_arm o = up None (folds_neither s at (deep - 1) o)

  module _ (g : Sign) (o : some (of_sign g) ≡ lookup (get_or s at 0) openings) where
    pub first_arm : Folds s (at + 1) (deep - 1) None → Folds s at deep None
    first_arm f = up None (first_refused s at (deep - 1) g o f)

    module _ (v : Folded) (f : Folds s (at + 1) (deep - 1) (Some v)) where
      pub second-arm : Folds s v.next (deep - 1) None → Folds s at deep None
      second-arm f' = up None (second-refused s at (deep - 1) g o v f f')

      pub mixed_arm : (w : Folded) → Folds s v.next (deep - 1) (Some w) → Combines g v.value w.value None → Folds s at deep None
      mixed_arm w f' c = up None (folds_mixed s at (deep - 1) g o v f w f' c)

      pub join_arm :
          (w : Folded) → Folds s v.next (deep - 1) (Some w) → (x : Value) → Combines g v.value w.value (Some x) → Folds s at deep (Some (record { value = x; next = w.next }))
      join_arm w f' x c = up (Some _) (folds_join s at (deep - 1) g o v f w f' x c)
