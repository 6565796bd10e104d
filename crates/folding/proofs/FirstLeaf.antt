-- The first leaf of an expression, behind signs, has the expression's kind. Assumes nothing.
use mathlib.Core.Bool.{Bool, true, false}
use mathlib.Core.List.{List}
use mathlib.Core.Option.{Option, none, some}
use mathlib.Core.Path.{◌≡◌, refl, sym, ap, ◌∙◌}
use Prim.Native.Nat.{ℕ, zero, suc, ◌+◌, ◌≤◌, ◌<◌}
use native.Mathlib.Omega.{arith}
use lib.Dec.{eqb, leb, ltb}
use lib.ListN.{length, drop, get_or}
use borrow.Author.Tests.{eqb-true, leb-true, leb-false, ltb-true}
use Rattle.definition.specs.Basics.{every, lookup}
use Rattle.definition.specs.Bytes.{Parser, return}
use Rattle.definition.specs.Expression.{Number, int, float, long, double, tag_of, Sign, Expression, leaf, apply, Opening, of_leaf, of_sign, openings, bits, joined, second_part, opened_part, expression, alike, kind_within}
use Rattle.facts.proofs.Lists.{none≢some, some_inj}
use Rattle.facts.proofs.Results.{some_then}
use Rattle.facts.proofs.Tables.{lookup-every}
use Rattle.folding.specs.Folding.{OfKind}
use Rattle.folding.proofs.Reading.{one_at, one-cut}

-- leaf tags are 6 or less, signs are more
unfoldable apart : ℕ × Opening → Bool
apart (x, of_leaf kind) = eqb x (tag_of kind)
apart (x, of_sign sign) = ltb 6 x

all_apart : every apart openings ≡ true
unfolding every openings apart tag_of
all_apart = refl

tag-low : (kind : Number) → tag_of kind ≤ 6
unfolding tag_of
tag-low int = omega arith
tag-low float = omega arith
tag-low long = omega arith
tag-low double = omega arith

alike-first : (a b : Option Number) (kind : Number) → alike a b ≡ some kind → a ≡ some kind
unfolding alike
alike-first none b kind e = none≢some e
alike-first (some a) none kind e = none≢some e
alike-first (some a) (some b) kind e = ways (eqb (tag_of a) (tag_of b)) e
  where
    ways : (t : Bool) → elim t [ true ↦ some a | false ↦ none ] ≡ some kind → some a ≡ some kind
    ways true e = e
    ways false e = none≢some e

leaf_kind : (deep : ℕ) (k : Number) (b : ℕ) (kind : Number) → kind_within deep (leaf k b) ≡ some kind → k ≡ kind
unfolding kind_within
leaf_kind zero k b kind e = none≢some e
leaf_kind (suc deep) k b kind e = some_inj e

part_kind :
    (deep : ℕ) (sign : Sign) (a b : Expression) (kind : Number) → kind_within deep (apply sign a b) ≡ some kind → (d : ℕ) × (kind_within d a ≡ some kind)
unfolding kind_within
part_kind zero sign a b kind e = none≢some e
part_kind (suc deep) sign a b kind e = (deep, alike-first (kind_within deep a) (kind_within deep b) kind e)

-- what was read
was : {A : Type 0} {a b : A} {l m : List ℕ} → ◌≡◌ {A = Option (A × List ℕ)} (some (a, l)) (some (b, m)) → a ≡ b
was e = ap (λ r. r.0) (some_inj e)

-- a sign's first part was read, and is a part of what was read
second-of :
    (part : Parser (Option Expression)) (sign : Sign) (a : Option Expression) (l : List ℕ) (e : Expression) (rest : List ℕ) →
    second_part part sign a l ≡ some (some e, rest) →
    (x : Expression) × (y : Expression) × (a ≡ some x) × (e ≡ apply sign x y)
unfolding second_part joined
second-of part sign none l e rest h = none≢some (was h)
second-of part sign (some x) l e rest h =
    some_then (part l) (λ b. return (joined sign x b)) (some e, rest) h λ b left h₁ h₂. ways b (was h₂)
  where
    ways : (b : Option Expression) → joined sign x b ≡ some e → (z : Expression) × (y : Expression) × (some x ≡ some z) × (e ≡ apply sign z y)
    ways none h = none≢some h
    ways (some y) h = (x, y, refl, sym (some_inj h))

module _ (s : List ℕ) (at : ℕ) (kind : Number) where
  -- what the byte at a place tells of an expression of this kind there
  abbrev Told : Type 0
  Told = (get_or s at 0 ≤ 6 → get_or s at 0 ≡ tag_of kind) × (6 < get_or s at 0 → OfKind s (at + 1) kind)

  opened :
      (fuel deep : ℕ) (e : Expression) (rest : List ℕ) (o : Option Opening) → lookup (get_or s at 0) openings ≡ o →
      opened_part (expression fuel) o (drop (at + 1) s) ≡ some (some e, rest) → kind_within deep e ≡ some kind → Told
  unfolding opened_part apart
  opened fuel deep e rest none t h w = none≢some (was h)
  opened fuel deep e rest (some (of_leaf k)) t h w =
      some_then (bits k (drop (at + 1) s)) (λ b. return (some (leaf k b))) (some e, rest) h λ b left h₁ h₂.
      let is : leaf k b ≡ e = some_inj (was h₂) in
      let same = leaf_kind deep k b kind (rw is w) in
      let tag = eqb-true (get_or s at 0) (tag_of k) (lookup-every apart openings all_apart (get_or s at 0) (of_leaf k) t) in
      let low = tag-low k in
      (λ _. tag ∙ ap tag_of same, λ high. absurd (omega arith))
  opened fuel deep e rest (some (of_sign sign)) t h w =
      some_then (expression fuel (drop (at + 1) s)) (second_part (expression fuel) sign) (some e, rest) h λ a left h₁ h₂.
      let g = second-of (expression fuel) sign a left e rest h₂ in
      let k = part_kind deep sign g.0 g.1 kind (rw (← g.3) w) in
      let high = ltb-true 6 (get_or s at 0) (lookup-every apart openings all_apart (get_or s at 0) (of_sign sign) t) in
      (λ low. absurd (omega arith), λ _. record { fuel = fuel; deep = k.0; what = g.0; rest = left; read = h₁ ∙ ap (λ x. some (x, left)) g.2; within = k.1 })

  told : (fuel deep : ℕ) (e : Expression) (rest : List ℕ) → expression fuel (drop at s) ≡ some (some e, rest) → kind_within deep e ≡ some kind → (at < length s) × Told
  unfolding expression
  told zero deep e rest h w = none≢some h
  told (suc fuel) deep e rest h w = ways (leb (at + 1) (length s)) refl
    where
      ways : (b : Bool) → leb (at + 1) (length s) ≡ b → (at < length s) × Told
      ways true t =
          let low = leb-true (at + 1) (length s) t in
          (omega arith, opened fuel deep e rest (lookup (get_or s at 0) openings) refl (rw (one_at s at low) at h) w)
      ways false t =
          let high = leb-false (at + 1) (length s) t in
          none≢some (rw (one-cut s at (omega arith)) at h)

  pub first_tells : OfKind s at kind → (at < length s) × Told
  first_tells k = told k.fuel k.deep k.what k.rest k.read k.within

  pub later_kind : 6 < get_or s at 0 → OfKind s at kind → OfKind s (at + 1) kind
  later_kind high k = (first_tells k).1.1 high

  pub leaf_tells : get_or s at 0 ≤ 6 → OfKind s at kind → get_or s at 0 ≡ tag_of kind
  leaf_tells low k = (first_tells k).1.0 low
