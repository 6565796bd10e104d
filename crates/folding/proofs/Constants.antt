-- A folded expression's value as a constant. Assumes nothing.
use mathlib.Core.Path.{◌≡◌, refl, sym, ap, ◌∙◌, subst}
use mathlib.Core.Bool.{Bool, true, false}
use mathlib.Core.List.{List}
use mathlib.Core.Option.{none, some}
use Prim.Native.Nat.{ℕ}
use native.Mathlib.Omega.{arith}
use lib.Dec.{eqb}
use lib.Ieee.{binary32, binary64}
use lib.ListN.{length, drop}
use Rattle.definition.specs.Basics as results
use Rattle.definition.specs.Basics.{Result, good, bad}
use Rattle.definition.specs.Expression.{Number, int, float, long, double, tag_of, Sign, plus, minus, times, over, Expression, leaf, apply, expression, read_expression, kind_within}
use Rattle.definition.specs.Value.{quotient, integer, computed, value, one_kind, folded, constant_in}
use Rattle.folding.specs.Folding.{kind_of, number_of, of_number, bits_of, Comes, FoldedTo, constant_as, Reads, Ends}
use Rattle.folding.specs.declared.Folded.{Folded}
use Rattle.folding.specs.declared.Constant.{Constant}
use Rattle.std.specs.Prelude.{Option, Some, None, Ok, Err, ◌+◌, ok_or}
use denote.Enum.Declared as declared
use Rattle.folding.specs.contracts.Number.{the_type}
use Rattle.folding.specs.declared.Number as code
use Rattle.folding.specs.declared.Number.TheVariants as number
use Rattle.folding.proofs.Floats.{rounded-bits}

-- ---- results

abbrev code_of : Result ℕ ℕ → ℕ
code_of (good n) = 23
code_of (bad code) = code

abbrev good_of : ℕ → Result ℕ ℕ → ℕ
good_of n (good m) = m
good_of n (bad code) = n

-- what can't be worked out is 23

integer-code : (m : ℕ) (s : Sign) (a b : ℕ) → code_of (integer m s a b) ≡ 23
unfolding integer
integer-code m plus a b = refl
integer-code m minus a b = refl
integer-code m times a b = refl
integer-code m over a b = ways (eqb b 0)
  where
    ways : (t : Bool) → code_of (elim t [ true ↦ bad 23 | false ↦ good (quotient m a b) ]) ≡ 23
    ways true = refl
    ways false = refl

computed-code : (k : Number) (s : Sign) (a b : ℕ) → code_of (computed k s a b) ≡ 23
unfolding computed
computed-code int s a b = integer-code 4294967296 s a b
computed-code float s a b = refl
computed-code long s a b = integer-code 18446744073709551616 s a b
computed-code double s a b = refl

value-code : (k : Number) (e : Expression) → code_of (value k e) ≡ 23
unfolding value
value-code k (leaf j b) = refl
value-code k (apply s a b) = go (value k a) (value k b) (value-code k a) (value-code k b)
  where
    go : (m n : Result ℕ ℕ) → code_of m ≡ 23 → code_of n ≡ 23 → code_of (results.◌>>=◌ m (λ x. results.◌>>=◌ n (λ y. computed k s x y))) ≡ 23
    go (good x) (good y) h i = computed-code k s x y
    go (good x) (bad c) h i = i
    go (bad c) n h i = h

-- the bits of a value that was worked out are the value's

computed-bits : (k : Number) (s : Sign) (a b n : ℕ) → computed k s a b ≡ good n → bits_of (of_number k n) ≡ Some n
unfolding computed bits_of of_number
computed-bits int s a b n e = refl
computed-bits float s a b n e = subst (λ n. bits_of (of_number float n) ≡ Some n) (ap (good_of n) e) (ap Some (rounded-bits binary32 s a b))
computed-bits long s a b n e = refl
computed-bits double s a b n e = subst (λ n. bits_of (of_number double n) ≡ Some n) (ap (good_of n) e) (ap Some (rounded-bits binary64 s a b))

value-bits : (k : Number) (g : Sign) (a b : Expression) (n : ℕ) → value k (apply g a b) ≡ good n → bits_of (of_number k n) ≡ Some n
unfolding value
value-bits k g a b n e = go (value k a) (value k b) e
  where
    go : (l m : Result ℕ ℕ) → results.◌>>=◌ l (λ x. results.◌>>=◌ m (λ y. computed k g x y)) ≡ good n → bits_of (of_number k n) ≡ Some n
    go (good x) (good y) e = computed-bits k g x y n e
    go (good x) (bad c) e = absurd (let z : ◌≡◌ {A = ℕ} 0 1 = cc in omega arith)
    go (bad c) m e = absurd (let z : ◌≡◌ {A = ℕ} 0 1 = cc in omega arith)

-- ---- the constant

folded-is : (e : Expression) (k : Number) → kind_within 32 e ≡ some k → folded (some e) ≡ results.◌>>=◌ (value k e) (λ b. good (k, b))
unfolding folded one_kind
folded-is e k h = ap (λ o. results.◌>>=◌ (one_kind o) (λ k. results.◌>>=◌ (value k e) (λ b. good (k, b)))) h

pub refused_kind : (e : Expression) → kind_within 32 e ≡ none → bad 22 ≡ constant_as (folded (some e))
unfolding folded one_kind constant_as
refused_kind e h = sym (ap (λ o. constant_as (results.◌>>=◌ (one_kind o) (λ k. results.◌>>=◌ (value k e) (λ b. good (k, b))))) h)

-- the bits of a kind's value are never none
some-bits : (k : Number) (b : ℕ) → bits_of (of_number k b) ≡ None → ⊥
unfolding bits_of of_number
some-bits int b h = let z : ◌≡◌ {A = ℕ} 0 1 = cc in omega arith
some-bits float b h = let z : ◌≡◌ {A = ℕ} 0 1 = cc in omega arith
some-bits long b h = let z : ◌≡◌ {A = ℕ} 0 1 = cc in omega arith
some-bits double b h = let z : ◌≡◌ {A = ℕ} 0 1 = cc in omega arith

module _ (s : List ℕ) (e : Expression) (rest : List ℕ) (f : Folded) (h : FoldedTo s 32 e rest f) where
  pub refused_zero : bits_of f.value ≡ None → bad 23 ≡ constant_as (folded (some e))
  unfolding constant_as
  refused_zero t = go (value k e) h.comes (value-code k e) ∙ sym (ap constant_as (folded-is e k h.kind))
    where
      k : Number
      k = number_of f.value

      go : (r : Result ℕ ℕ) → Comes k r f.value → code_of r ≡ 23 → bad 23 ≡ constant_as (results.◌>>=◌ r (λ b. good (k, b)))
      go (good b) p i = absurd (some-bits k b (sym (ap bits_of p) ∙ t))
      go (bad c) p i = ap bad (sym i)

  pub worked_out_lem : (n : ℕ) → bits_of f.value ≡ Some n → (g : Sign) (a b : Expression) → e ≡ apply g a b → good (record { tag = tag_of (number_of f.value); bits = n }) ≡ constant_as (folded (some e))
  unfolding constant_as
  worked_out_lem n t g a b is = go (value k e) refl h.comes ∙ sym (ap constant_as (folded-is e k h.kind))
    where
      k : Number
      k = number_of f.value

      go : (r : Result ℕ ℕ) → value k e ≡ r → Comes k r f.value → good (record { tag = tag_of k; bits = n }) ≡ constant_as (results.◌>>=◌ r (λ b. good (k, b)))
      go (good m) q p =
          let same : Some n ≡ Some m = sym t ∙ ap bits_of p ∙ value-bits k g a b m (ap (value k) (sym is) ∙ q) in
          let i : n ≡ m = cc in
          ap (λ m. good (record { tag = tag_of k; bits = m })) i
      go (bad c) q (p, u) = absurd (let z : ◌≡◌ {A = ℕ} 0 1 = cc in omega arith)

pub lone_leaf_lem : (k : Number) (b : ℕ) (e : Expression) → e ≡ leaf k b → good (record { tag = tag_of k; bits = b }) ≡ constant_as (folded (some e))
unfolding folded one_kind kind_within value constant_as
lone_leaf_lem k b e is = ap (λ e. constant_as (folded (some e))) (sym is)

-- a kind's number is its tag
pub tag_number : (k : code.Number) → declared.tag_of the_type k + 3 ≡ tag_of (kind_of k)
unfolding tag_of kind_of
tag_number number.Int = refl
tag_number number.Float = refl
tag_number number.Long = refl
tag_number number.Double = refl

-- what `ok_or` was given, by what it makes
pub missing : {A E : Type 0} (o : Option A) (e f : E) → ok_or o e ≡ Err f → (o ≡ None) × (f ≡ e)
missing None e f h = (refl, cc)
missing (Some a) e f h = absurd (let z : ◌≡◌ {A = ℕ} 0 1 = cc in omega arith)

pub there : {A E : Type 0} (o : Option A) (e : E) (a : A) → ok_or o e ≡ Ok a → o ≡ Some a
there None e a h = absurd (let z : ◌≡◌ {A = ℕ} 0 1 = cc in omega arith)
there (Some b) e a h = let same : b ≡ a = cc in ap Some same

-- ---- the constant at a place, by how its expression ends

module _ (s : List ℕ) (at : ℕ) where
  abbrev constant_of : Result ℕ Constant
  constant_of = constant_as (constant_in (read_expression (drop at s)))

  pub ends-reads : (next : ℕ) → Ends s at next → Reads s at
  unfolding read_expression
  ends-reads next h = record { fuel = length (drop at s); what = h.what; rest = drop next s; read = h.read }

  pub whole-constant :
      (next : ℕ) → Ends s at next → (r : Result ℕ Constant) →
      ((fuel : ℕ) (e : Expression) (rest : List ℕ) → expression fuel (drop at s) ≡ some (some e, rest) → r ≡ constant_as (folded (some e))) →
      r ≡ constant_of
  unfolding read_expression constant_in
  whole-constant next h r f = f (length (drop at s)) h.what (drop next s) h.read ∙ ap (λ o. constant_as (constant_in o)) (sym h.read)

  pub cut-constant : read_expression (drop at s) ≡ none → bad 3 ≡ constant_of
  unfolding constant_in constant_as
  cut-constant h = ap (λ o. constant_as (constant_in o)) (sym h)

  pub bad_constant : (rest : List ℕ) → read_expression (drop at s) ≡ some (none, rest) → bad 22 ≡ constant_of
  unfolding constant_in constant_as folded
  bad_constant rest h = ap (λ o. constant_as (constant_in o)) (sym h)
