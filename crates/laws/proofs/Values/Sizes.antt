-- An expression of a kind is no shorter than a number of it. Assumes nothing.
use mathlib.Core.Bool.{Bool, true, false}
use mathlib.Core.List.{List, [], ◌∷◌}
use mathlib.Core.Option.{Option, none, some}
use mathlib.Core.Path.{◌≡◌, ap, ◌∙◌, subst}
use Prim.Native.Nat.{ℕ, zero, suc, ◌+◌, ◌*◌, ◌≤◌}
use native.Mathlib.Omega.{arith}
use lib.Dec.{eqb}
use lib.ListN.{length, length-append}
use Rattle.definition.specs.Basics.{good, lookup}
use Rattle.definition.specs.Bytes.{Parser, one, two}
use Rattle.definition.specs.Expression.{Number, int, float, long, double, tag_of, Sign, Expression, leaf, apply, four, eight, bits as readBits, Opening, of_leaf, of_sign, openings, joined, second_part, opened_part, expression, read_expression, alike, kind_within}
use Rattle.definition.specs.Value.{one_kind, value, folded}
use Rattle.facts.proofs.Lists.{none≢some}
use Rattle.facts.proofs.Results.{bad≢good, good_then, good_inj, some_then}
use Rattle.laws.proofs.Form.WorkedOut.{size_of}
use Rattle.laws.proofs.Values.Local.{Local, local_expression}

-- what a parser leaves is so much shorter
abbrev Takes : {A : Type 0} → ℕ → Parser A → Type 0
Takes k p = (bytes : List ℕ) (a : _) (rest : List ℕ) → p bytes ≡ some (a, rest) → length bytes ≡ k + length rest

takes_one : Takes 1 one
unfolding one
takes_one [] a rest e = none≢some e
takes_one (b ∷ bytes) a rest e =
    let same : ◌≡◌ {A = ℕ × List ℕ} (b, bytes) (a, rest) = cc in
    omega (arith, ap (λ r. length r.1) same)

takes_two : Takes 2 two
unfolding two
takes_two bytes n rest e =
    some_then (one bytes) _ (n, rest) e λ a r u v.
    some_then (one r) _ (n, rest) v λ b r' u' v'.
    let same : ◌≡◌ {A = ℕ × List ℕ} (256 * a + b, r') (n, rest) = cc in
    omega (arith, takes_one bytes a r u, takes_one r b r' u', ap (λ r. length r.1) same)

takes_four : Takes 4 four
unfolding four
takes_four bytes n rest e =
    some_then (two bytes) _ (n, rest) e λ a r u v.
    some_then (two r) _ (n, rest) v λ b r' u' v'.
    let same : ◌≡◌ {A = ℕ × List ℕ} (65536 * a + b, r') (n, rest) = cc in
    omega (arith, takes_two bytes a r u, takes_two r b r' u', ap (λ r. length r.1) same)

takes_eight : Takes 8 eight
unfolding eight
takes_eight bytes n rest e =
    some_then (four bytes) _ (n, rest) e λ a r u v.
    some_then (four r) _ (n, rest) v λ b r' u' v'.
    let same : ◌≡◌ {A = ℕ × List ℕ} (4294967296 * a + b, r') (n, rest) = cc in
    omega (arith, takes_four bytes a r u, takes_four r b r' u', ap (λ r. length r.1) same)

takes_bits : (kind : Number) → Takes (size_of kind) (readBits kind)
unfolding readBits
takes_bits int = takes_four
takes_bits float = takes_four
takes_bits long = takes_eight
takes_bits double = takes_eight

-- a parser leaves no more than there was
pub fewer : {A : Type 0} (p : Parser A) → Local p → (bytes : List ℕ) (a : A) (rest : List ℕ) → p bytes ≡ some (a, rest) → length rest ≤ length bytes
fewer p h bytes a rest e =
    let u = h bytes a rest e in
    omega (arith, ap length u.is, length-append u.read rest)

alike-first : (a b : Option Number) (kind : Number) → alike a b ≡ some kind → a ≡ some kind
unfolding alike
alike-first none b kind e = e
alike-first (some a) none kind e = none≢some e
alike-first (some a) (some b) kind e = go (eqb (tag_of a) (tag_of b)) e
  where
    go : (t : Bool) → elim t [ true ↦ some a | false ↦ none ] ≡ some kind → some a ≡ some kind
    go true e = e
    go false e = none≢some e

module _ (kind : Number) where
  -- an expression of the kind reads as many bytes as a number of it, or more
  abbrev Long : List ℕ → Option Expression → List ℕ → Type 0
  Long bytes none rest = Unit {0}
  Long bytes (some e) rest = (deep : ℕ) → kind_within deep e ≡ some kind → size_of kind + length rest ≤ length bytes

  abbrev Longs : Parser (Option Expression) → Type 0
  Longs p = (bytes : List ℕ) (o : Option Expression) (rest : List ℕ) → p bytes ≡ some (o, rest) → Long bytes o rest

  leaf_long : (k : Number) (b : ℕ) (bytes rest : List ℕ) → length bytes ≡ size_of k + length rest → Long bytes (some (leaf k b)) rest
  unfolding kind_within
  leaf_long k b bytes rest h zero e = none≢some e
  leaf_long k b bytes rest h (suc deep) e =
      let same : k ≡ kind = cc in
      omega (arith, ap size_of same, h)

  long_more : (o : Option Expression) (bytes more rest : List ℕ) → length bytes ≤ length more → Long bytes o rest → Long more o rest
  long_more none bytes more rest l h = tt
  long_more (some e) bytes more rest l h = λ deep k. omega (arith, h deep k)

  apply_long :
      (s : Sign) (a b : Expression) (bytes middle rest : List ℕ) →
      Long bytes (some a) middle →
      length rest ≤ length middle →
      Long bytes (some (apply s a b)) rest
  unfolding kind_within
  apply_long s a b bytes middle rest h l zero e = none≢some e
  apply_long s a b bytes middle rest h l (suc deep) e =
      omega (arith, h deep (alike-first (kind_within deep a) (kind_within deep b) kind e), l)

  joined-long :
      (s : Sign) (a : Expression) (b : Option Expression) (bytes middle rest : List ℕ) →
      Long bytes (some a) middle →
      length rest ≤ length middle →
      Long bytes (joined s a b) rest
  unfolding joined
  joined-long s a none bytes middle rest h l = tt
  joined-long s a (some b) bytes middle rest h l = apply_long s a b bytes middle rest h l

  abbrev Read : List ℕ → Option Expression × List ℕ → Type 0
  Read bytes x = Long bytes x.0 x.1

  second-long :
      (part : Parser (Option Expression)) → Local part → (s : Sign) (a : Option Expression) (bytes middle : List ℕ) →
      Long bytes a middle →
      (x : Option Expression × List ℕ) → second_part part s a middle ≡ some x → Read bytes x
  unfolding second_part
  second-long part local s none bytes middle h x e =
      let same : ◌≡◌ {A = Option Expression × List ℕ} (none, middle) x = cc in
      subst (Read bytes) same tt
  second-long part local s (some a) bytes middle h x e =
      some_then (part middle) _ x e λ b r u v.
      let same : ◌≡◌ {A = Option Expression × List ℕ} (joined s a b, r) x = cc in
      subst (Read bytes) same (joined-long s a b bytes middle r h (fewer part local middle b r u))

  part_long :
      (part : Parser (Option Expression)) → Local part → Longs part → (o : Option Opening) (bytes : List ℕ) (x : Option Expression × List ℕ) →
      opened_part part o bytes ≡ some x → Read bytes x
  unfolding opened_part
  part_long part local longs none bytes x e =
      let same : ◌≡◌ {A = Option Expression × List ℕ} (none, bytes) x = cc in
      subst (Read bytes) same tt
  part_long part local longs (some (of_leaf k)) bytes x e =
      some_then (readBits k bytes) _ x e λ b r u v.
      let same : ◌≡◌ {A = Option Expression × List ℕ} (some (leaf k b), r) x = cc in
      subst (Read bytes) same (leaf_long k b bytes r (takes_bits k bytes b r u))
  part_long part local longs (some (of_sign s)) bytes x e =
      some_then (part bytes) _ x e λ a r u v.
      second-long part local s a bytes r (longs bytes a r u) x v

  expression-long : (fuel : ℕ) → Longs (expression fuel)
  unfolding expression
  expression-long zero bytes o rest e = none≢some e
  expression-long (suc fuel) bytes o rest e =
      some_then (one bytes) _ (o, rest) e λ first r u v.
      long_more o r bytes rest (omega (arith, takes_one bytes first r u))
      (part_long (expression fuel) (local_expression fuel) (expression-long fuel) (lookup first openings) r (o, rest) v)

one_kind-good : (o : Option Number) (kind : Number) → one_kind o ≡ good kind → o ≡ some kind
unfolding one_kind
one_kind-good none kind e = bad≢good e
one_kind-good (some k) kind e = ap some (good_inj e)

-- an expression that comes to a number is of its kind
folded-kind : (e : Expression) (kind : Number) (b : ℕ) → folded (some e) ≡ good (kind, b) → kind_within 32 e ≡ some kind
unfolding folded
folded-kind e kind b h =
    good_then (one_kind (kind_within 32 e)) _ (kind, b) h λ k p q.
    good_then (value k e) _ (kind, b) q λ n _ t.
    let same : k ≡ kind = ap (λ r. r.0) (good_inj t) in
    one_kind-good (kind_within 32 e) k p ∙ ap some same

pub folded-long :
    (bytes : List ℕ) (o : Option Expression) (rest : List ℕ) (kind : Number) (b : ℕ) →
    read_expression bytes ≡ some (o, rest) →
    folded o ≡ good (kind, b) →
    size_of kind + length rest ≤ length bytes
unfolding read_expression folded
folded-long bytes none rest kind b r h = bad≢good h
folded-long bytes (some e) rest kind b r h = expression-long kind (length bytes) bytes (some e) rest r 32 (folded-kind e kind b h)
