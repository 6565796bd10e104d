-- An expression is refused exactly for what is wrong in its bytes and its parts: 22 for a byte, for two kinds or its depth, 23 for an integer
-- divided by zero. Assumes nothing.
use mathlib.Core.Bool.{Bool, true, false, cond}
use mathlib.Core.List.{List, [], ◌∷◌}
use mathlib.Core.Logic.{◌⊎◌, inl, inr, ⊎_elim, ◌≢◌}
use mathlib.Core.Option.{Option, none, some}
use mathlib.Core.Path.{◌≡◌, refl, sym, ap, subst, ◌∙◌}
use Prim.Native.Nat.{ℕ, zero, suc, ◌≤◌, ◌<◌}
use native.Mathlib.Omega.{arith}
use lib.Dec.{eqb, leb}
use lib.ListN.{length}
use borrow.Author.Tests.{eqb-true, eqb-false, leb-true, leb-false}
use Rattle.definition.specs.Basics.{Result, good, bad, lookup}
use Rattle.definition.specs.Expression.{Number, int, float, long, double, tag_of, Sign, plus, minus, times, over, Expression, leaf, apply, four, eight, bits, Opening, of_leaf, of_sign, openings, joined, second_part, opened_part, expression, read_expression, alike, kind_within}
use Rattle.definition.specs.Bytes.{and_then, one, two}
use Rattle.definition.specs.Form.{kind_of, comes_out}
use Rattle.definition.specs.Job.{Definition, define, bodies, as_constant, worked_out, read_body, read_definition}
use Rattle.definition.specs.Shapes.{constant, shapes, bootstrap_shape}
use Rattle.definition.specs.Value.{integer, computed, value, one_kind, folded, constant_in}
use Rattle.facts.proofs.Lists.{clash, none≢some, some_inj}
use Rattle.facts.proofs.Outcomes.{Ends, well, refused, next, weaker, known-good}
use Rattle.facts.proofs.Results.{bad≢good, good_inj, good_then, some_then}
use Rattle.causes.specs.ExpressionFaults.{BadByte, here, past_leaf, past_sign, HasLeaf, alone, in_first, in_second, OfKind, larger, depth, IsInteger, DividesByZero, by_part, within_first, within_second, ComesOut}

-- ---- a byte that is neither leaf tag nor sign

-- no part but a whole one is read behind a sign
joined-some : (s : Sign) (a : Expression) (o : Option Expression) (x : Expression) → joined s a o ≡ some x → (b : Expression) × (o ≡ some b)
unfolding joined
joined-some s a none x e = none≢some e
joined-some s a (some b) x e = (b, refl)

joined-none : (s : Sign) (a : Expression) (o : Option Expression) → joined s a o ≡ none → o ≡ none
unfolding joined
joined-none s a none e = refl
joined-none s a (some b) e = none≢some (sym e)

-- what an expression is read from
data Parted (fuel : ℕ) (first : ℕ) (left : List ℕ) : Option Expression → List ℕ → Type 0 where
  neither : lookup first openings ≡ none → Parted fuel first left none left
  a_leaf :
      (kind : Number) (n : ℕ) (rest : List ℕ) → lookup first openings ≡ some (of_leaf kind) → bits kind left ≡ some (n, rest) →
      Parted fuel first left (some (leaf kind n)) rest
  first_bad : (s : Sign) (rest : List ℕ) → lookup first openings ≡ some (of_sign s) → expression fuel left ≡ some (none, rest) → Parted fuel first left none rest
  two_parts :
      (s : Sign) (a : Expression) (b : Option Expression) (middle rest : List ℕ) →
      lookup first openings ≡ some (of_sign s) →
      expression fuel left ≡ some (some a, middle) →
      expression fuel middle ≡ some (b, rest) →
      Parted fuel first left (joined s a b) rest

parted :
    (fuel first : ℕ) (left : List ℕ) (o : Option Expression) (rest : List ℕ) →
    expression (suc fuel) (first ∷ left) ≡ some (o, rest) → Parted fuel first left o rest
unfolding expression opened_part second_part one
parted fuel first left o rest e = go (lookup first openings) refl e
  where
    moved : {a : Option Expression} {l : List ℕ} → Parted fuel first left a l → ◌≡◌ {A = Option (Option Expression × List ℕ)} (some (a, l)) (some (o, rest)) → Parted fuel first left o rest
    moved p q = subst (λ (r : Option Expression × List ℕ). Parted fuel first left r.0 r.1) (some_inj q) p

    second :
        (s : Sign) → lookup first openings ≡ some (of_sign s) → (a : Option Expression) (middle : List ℕ) → expression fuel left ≡ some (a, middle) →
        second_part (expression fuel) s a middle ≡ some (o, rest) → Parted fuel first left o rest
    second s q none middle h e = moved (first_bad s middle q h) e
    second s q (some a) middle h e = some_then (expression fuel middle) _ (o, rest) e λ b last h₂ e₂. moved (two_parts s a b middle last q h h₂) e₂

    go : (w : Option Opening) → lookup first openings ≡ w → opened_part (expression fuel) w left ≡ some (o, rest) → Parted fuel first left o rest
    go none q e = moved (neither q) e
    go (some (of_leaf kind)) q e = some_then (bits kind left) _ (o, rest) e λ n last h e₂. moved (a_leaf kind n last q h) e₂
    go (some (of_sign s)) q e = some_then (expression fuel left) _ (o, rest) e λ a middle h e₂. second s q a middle h e₂

nothing_there : (fuel : ℕ) (r : Option Expression × List ℕ) → expression fuel [] ≡ some r → ⊥
unfolding expression one
nothing_there zero r e = none≢some e
nothing_there (suc fuel) r e = none≢some e

no_fuel : (s : List ℕ) (r : Option Expression × List ℕ) → expression zero s ≡ some r → ⊥
unfolding expression
no_fuel s r e = none≢some e

-- it is read behind the parts before it
bad_behind : (fuel : ℕ) (s : List ℕ) (x : Expression) (rest : List ℕ) (parts : ℕ) → expression fuel s ≡ some (some x, rest) → BadByte parts rest → BadByte (suc parts) s
bad_behind zero s x rest parts e h = absurd (no_fuel s (some x, rest) e)
bad_behind (suc fuel) [] x rest parts e h = absurd (nothing_there (suc fuel) (some x, rest) e)
bad_behind (suc fuel) (first ∷ left) x rest parts e h = go (some x) rest refl (parted fuel first left (some x) rest e) h (bad_behind fuel)
  where
    go :
        (o : Option Expression) (end : List ℕ) → o ≡ some x → Parted fuel first left o end → BadByte parts end →
        ((s : List ℕ) (x : Expression) (rest : List ℕ) (parts : ℕ) → expression fuel s ≡ some (some x, rest) → BadByte parts rest → BadByte (suc parts) s) →
        BadByte (suc parts) (first ∷ left)
    go _ _ e (neither q) h rec = none≢some e
    go _ _ e (a_leaf kind n rest q b) h rec = past_leaf parts first left kind n rest q b h
    go _ _ e (first_bad s rest q f) h rec = none≢some e
    go _ _ e (two_parts s a b middle rest q f₁ f₂) h rec =
        let (c, is) = joined-some s a b x e in
        let second : expression fuel middle ≡ some (some c, rest) = f₂ ∙ ap (λ b. some (b, rest)) is in
        past_sign parts first left s q (rec left a middle (suc parts) f₁ (rec middle c rest parts second h))

-- where no expression is read, there is one
bad_read : (fuel : ℕ) (s rest : List ℕ) (parts : ℕ) → expression fuel s ≡ some (none, rest) → BadByte (suc parts) s
bad_read zero s rest parts e = absurd (no_fuel s (none, rest) e)
bad_read (suc fuel) [] rest parts e = absurd (nothing_there (suc fuel) (none, rest) e)
bad_read (suc fuel) (first ∷ left) rest parts e = go none rest refl (parted fuel first left none rest e) (bad_read fuel)
  where
    go :
        (o : Option Expression) (end : List ℕ) → o ≡ none → Parted fuel first left o end →
        ((s rest : List ℕ) (parts : ℕ) → expression fuel s ≡ some (none, rest) → BadByte (suc parts) s) →
        BadByte (suc parts) (first ∷ left)
    go _ _ e (neither q) rec = here parts first left q
    go _ _ e (a_leaf kind n rest q b) rec = none≢some (sym e)
    go _ _ e (first_bad s rest q f) rec = past_sign parts first left s q (rec left rest (suc parts) f)
    go _ _ e (two_parts s a b middle rest q f₁ f₂) rec =
        let second : expression fuel middle ≡ some (none, rest) = f₂ ∙ ap (λ b. some (b, rest)) (joined-none s a b e) in
        past_sign parts first left s q (bad_behind fuel left a middle (suc parts) f₁ (rec middle rest parts second))

pub bad_byte_lem : (left rest : List ℕ) → read_expression left ≡ some (none, rest) → BadByte 1 left
unfolding read_expression
bad_byte_lem left rest e = bad_read (length left) left rest 0 e

-- where one is, there is none in it
good_before : (fuel : ℕ) (s : List ℕ) (x : Expression) (rest : List ℕ) (parts : ℕ) → expression fuel s ≡ some (some x, rest) → BadByte (suc parts) s → BadByte parts rest
good_before zero s x rest parts e h = absurd (no_fuel s (some x, rest) e)
good_before (suc fuel) [] x rest parts e h = absurd (nothing_there (suc fuel) (some x, rest) e)
good_before (suc fuel) (first ∷ left) x rest parts e h = go (some x) rest refl (parted fuel first left (some x) rest e) h (good_before fuel)
  where
    go :
        (o : Option Expression) (end : List ℕ) → o ≡ some x → Parted fuel first left o end → BadByte (suc parts) (first ∷ left) →
        ((s : List ℕ) (x : Expression) (rest : List ℕ) (parts : ℕ) → expression fuel s ≡ some (some x, rest) → BadByte (suc parts) s → BadByte parts rest) →
        BadByte parts end
    go _ _ e (neither q) h rec = none≢some e
    go _ _ e (first_bad s rest q f) h rec = none≢some e
    go _ _ e (a_leaf kind n rest q b) (here _ _ _ p) rec = none≢some (sym p ∙ q)
    go _ _ e (a_leaf kind n rest q b) (past_leaf _ _ _ k m last p c h) rec =
        let same : k ≡ kind = cc in
        let both : ◌≡◌ {A = ℕ × List ℕ} (m, last) (n, rest) = some_inj (sym c ∙ ap (λ k. bits k left) same ∙ b) in
        subst (BadByte parts) (ap (λ r. r.1) both) h
    go _ _ e (a_leaf kind n rest q b) (past_sign _ _ _ s p h) rec = clash (cc)
    go _ _ e (two_parts s a b middle rest q f₁ f₂) (here _ _ _ p) rec = none≢some (sym p ∙ q)
    go _ _ e (two_parts s a b middle rest q f₁ f₂) (past_leaf _ _ _ k m last p c h) rec = clash (cc)
    go _ _ e (two_parts s a b middle rest q f₁ f₂) (past_sign _ _ _ t p h) rec =
        let (c, is) = joined-some s a b x e in
        let second : expression fuel middle ≡ some (some c, rest) = f₂ ∙ ap (λ b. some (b, rest)) is in
        rec middle c rest parts second (rec left a middle (suc parts) f₁ h)

none-to_come : (parts : ℕ) (s : List ℕ) → BadByte parts s → parts ≡ 0 → ⊥
none-to_come _ _ (here parts first left q) e = absurd (omega arith)
none-to_come _ _ (past_leaf parts first left kind n rest q b h) e = absurd (omega arith)
none-to_come _ _ (past_sign parts first left s q h) e = absurd (omega arith)

pub no_bad_byte : (left : List ℕ) (x : Expression) (rest : List ℕ) → read_expression left ≡ some (some x, rest) → BadByte 1 left → ⊥
unfolding read_expression
no_bad_byte left x rest e h = none-to_come 0 rest (good_before (length left) left x rest 0 e h) refl

-- ---- what is cut has none before its end

four-fewer : (s : List ℕ) (n : ℕ) (rest : List ℕ) → four s ≡ some (n, rest) → length rest ≤ length s
unfolding four two one
four-fewer [] n rest e = none≢some e
four-fewer (a ∷ []) n rest e = none≢some e
four-fewer (a ∷ b ∷ []) n rest e = none≢some e
four-fewer (a ∷ b ∷ c ∷ []) n rest e = none≢some e
four-fewer (a ∷ b ∷ c ∷ d ∷ l) n rest e =
    let same : l ≡ rest = ap (λ (r : ℕ × List ℕ). r.1) (some_inj e) in
    omega (arith, ap length same)

eight-fewer : (s : List ℕ) (n : ℕ) (rest : List ℕ) → eight s ≡ some (n, rest) → length rest ≤ length s
unfolding eight
eight-fewer s n rest e =
    some_then (four s) _ (n, rest) e λ a middle h e₁.
    some_then (four middle) _ (n, rest) e₁ λ b last g e₂.
    let same : last ≡ rest = ap (λ (r : ℕ × List ℕ). r.1) (some_inj e₂) in
    omega (arith, four-fewer s a middle h, four-fewer middle b last g, ap length same)

bits-fewer : (kind : Number) (s : List ℕ) (n : ℕ) (rest : List ℕ) → bits kind s ≡ some (n, rest) → length rest ≤ length s
unfolding bits
bits-fewer int = four-fewer
bits-fewer float = four-fewer
bits-fewer long = eight-fewer
bits-fewer double = eight-fewer

-- what is read where such a byte is to come: it, or an expression ahead of it
data Meets (fuel parts : ℕ) (s : List ℕ) : Type 0 where
  meets : (rest : List ℕ) → expression fuel s ≡ some (none, rest) → Meets fuel parts s
  ahead : (x : Expression) (rest : List ℕ) → expression fuel s ≡ some (some x, rest) → BadByte parts rest → length rest ≤ length s → Meets fuel parts s

bad_met : (fuel parts : ℕ) (s : List ℕ) → length s ≤ fuel → BadByte (suc parts) s → Meets fuel parts s
unfolding expression opened_part second_part joined one
bad_met zero parts _ low (here _ first left q) = absurd (omega arith)
bad_met zero parts _ low (past_leaf _ first left kind n rest q b h) = absurd (omega arith)
bad_met zero parts _ low (past_sign _ first left s q h) = absurd (omega arith)
bad_met (suc fuel) parts _ low (here _ first left q) = meets left (ap (λ o. opened_part (expression fuel) o left) q)
bad_met (suc fuel) parts _ low (past_leaf _ first left kind n rest q b h) =
    ahead (leaf kind n) rest
    (ap (λ o. opened_part (expression fuel) o left) q ∙ ap (λ o. and_then o (λ n rest. some (some (leaf kind n), rest))) b)
    h
    (omega (arith, bits-fewer kind left n rest b))
bad_met (suc fuel) parts _ low (past_sign _ first left s q h) = go (bad_met fuel (suc parts) left (omega arith) h) (bad_met fuel parts)
  where
    opens : expression (suc fuel) (first ∷ left) ≡ and_then (expression fuel left) (λ a. second_part (expression fuel) s a)
    opens = ap (λ o. opened_part (expression fuel) o left) q

    second :
        (a : Expression) (middle : List ℕ) → expression fuel left ≡ some (some a, middle) → length middle ≤ length left → Meets fuel parts middle →
        Meets (suc fuel) parts (first ∷ left)
    second a middle e few (meets rest f) =
        meets rest
        (opens ∙ ap (λ o. and_then o (λ a. second_part (expression fuel) s a)) e ∙ ap (λ o. and_then o (λ b rest. some (joined s a b, rest))) f)
    second a middle e few (ahead b rest f h fewer) =
        ahead (apply s a b) rest
        (opens ∙ ap (λ o. and_then o (λ a. second_part (expression fuel) s a)) e ∙ ap (λ o. and_then o (λ b rest. some (joined s a b, rest))) f)
        h
        (omega arith)

    go : Meets fuel (suc parts) left → ((s : List ℕ) → length s ≤ fuel → BadByte (suc parts) s → Meets fuel parts s) → Meets (suc fuel) parts (first ∷ left)
    go (meets rest f) rec = meets rest (opens ∙ ap (λ o. and_then o (λ a. second_part (expression fuel) s a)) f)
    go (ahead a middle f h few) rec = second a middle f few (rec middle (omega arith) h)

cut-unread : (left : List ℕ) → read_expression left ≡ none → BadByte 1 left → ⊥
unfolding read_expression
cut-unread left e h = go (bad_met (length left) 0 left (omega arith) h)
  where
    go : Meets (length left) 0 left → ⊥
    go (meets rest f) = none≢some (sym e ∙ f)
    go (ahead x rest f _ _) = none≢some (sym e ∙ f)

-- ---- kinds and depth

tag-opens : (kind : Number) → lookup (tag_of kind) openings ≡ some (of_leaf kind)
unfolding lookup openings tag_of
tag-opens int = refl
tag-opens float = refl
tag-opens long = refl
tag-opens double = refl

-- a kind has its own tag
tag-apart : (k l : Number) → tag_of k ≡ tag_of l → k ≡ l
tag-apart k l e =
    let same : of_leaf k ≡ of_leaf l = some_inj (sym (tag-opens k) ∙ ap (λ t. lookup t openings) e ∙ tag-opens l) in
    cc

larger-first : (m n : ℕ) → m ≤ larger m n
unfolding larger
larger-first m n = go (leb m n) refl
  where
    go : (b : Bool) → leb m n ≡ b → m ≤ cond (leb m n) n m
    go true e = rw e (leb-true m n e)
    go false e = rw e (omega arith)

larger-second : (m n : ℕ) → n ≤ larger m n
unfolding larger
larger-second m n = go (leb m n) refl
  where
    go : (b : Bool) → leb m n ≡ b → n ≤ cond (leb m n) n m
    go true e = rw e (omega arith)
    go false e = let low = leb-false m n e in rw e (omega arith)

larger-below : (m n d : ℕ) → m ≤ d → n ≤ d → larger m n ≤ d
unfolding larger
larger-below m n d h g = go (leb m n) refl
  where
    go : (b : Bool) → leb m n ≡ b → cond (leb m n) n m ≤ d
    go true e = rw e g
    go false e = rw e h

-- every expression has a leaf
pub a_leaf_lem : (x : Expression) → (kind : Number) × HasLeaf kind x
a_leaf_lem (leaf kind n) = (kind, alone n)
a_leaf_lem (apply s a b) = let (kind, h) = a_leaf_lem a in (kind, in_first s a b h)

-- leaves of two kinds
abbrev pub Mixed : Expression → Type 0
Mixed x = (k : Number) × (l : Number) × HasLeaf k x × HasLeaf l x × (k ≢ l)

record Even (deep : ℕ) (kind : Number) (x : Expression) : Type 0 where
  low : depth x ≤ deep
  has : HasLeaf kind x
  all : OfKind kind x

alike-some : (o p : Option Number) (k : Number) → alike o p ≡ some k → (o ≡ some k) × (p ≡ some k)
unfolding alike
alike-some none p k e = none≢some e
alike-some (some a) none k e = none≢some e
alike-some (some a) (some b) k e = go (eqb (tag_of a) (tag_of b)) refl
  where
    go : (t : Bool) → eqb (tag_of a) (tag_of b) ≡ t → (some a ≡ some k) × (some b ≡ some k)
    go true t =
        let q : some a ≡ some k = rw (t, alike) at e in
        (q, ap some (sym (tag-apart a b (eqb-true (tag_of a) (tag_of b) t))) ∙ q)
    go false t = none≢some (rw (t, alike) at e)

alike-none : (o p : Option Number) → alike o p ≡ none → (o ≡ none) ⊎ ((p ≡ none) ⊎ ((a : Number) × (b : Number) × (o ≡ some a) × (p ≡ some b) × (a ≢ b)))
unfolding alike
alike-none none p e = inl refl
alike-none (some a) none e = inr (inl refl)
alike-none (some a) (some b) e = go (eqb (tag_of a) (tag_of b)) refl
  where
    go : (t : Bool) → eqb (tag_of a) (tag_of b) ≡ t → (some a ≡ none) ⊎ ((some b ≡ none) ⊎ ((c : Number) × (d : Number) × (some a ≡ some c) × (some b ≡ some d) × (c ≢ d)))
    go true t = none≢some (sym (rw (t, alike) at e))
    go false t = inr (inr (a, b, refl, refl, λ q. eqb-false (tag_of a) (tag_of b) t (ap tag_of q)))

kind-even : (deep : ℕ) (x : Expression) (kind : Number) → kind_within deep x ≡ some kind → Even deep kind x
unfolding kind_within depth
kind-even zero (leaf k n) kind e = none≢some e
kind-even zero (apply s a b) kind e = none≢some e
kind-even (suc deep) (leaf k n) kind e =
    let same : k ≡ kind = some_inj e in
    record { low = omega arith; has = subst (λ k. HasLeaf kind (leaf k n)) (sym same) (alone n); all = λ l h. leaf_only l h ∙ same }
  where
    leaf_only : (l : Number) → HasLeaf l (leaf k n) → l ≡ k
    leaf_only _ (alone _) = refl
kind-even (suc deep) (apply s a b) kind e =
    let both = alike-some (kind_within deep a) (kind_within deep b) kind e in
    joins (kind-even deep a kind both.0) (kind-even deep b kind both.1)
  where
    either : Even deep kind a → Even deep kind b → (l : Number) → HasLeaf l (apply s a b) → l ≡ kind
    either f g l (in_first _ _ _ h) = f.all l h
    either f g l (in_second _ _ _ h) = g.all l h

    joins : Even deep kind a → Even deep kind b → Even (suc deep) kind (apply s a b)
    joins f g =
        let below = larger-below (depth a) (depth b) deep f.low g.low in
        record { low = omega arith; has = in_first s a b f.has; all = either f g }

kind-uneven : (deep : ℕ) (x : Expression) → kind_within deep x ≡ none → (deep < depth x) ⊎ Mixed x
unfolding kind_within depth
kind-uneven zero (leaf k n) e = inl (omega arith)
kind-uneven zero (apply s a b) e = inl (omega arith)
kind-uneven (suc deep) (leaf k n) e = none≢some (sym e)
kind-uneven (suc deep) (apply s a b) e = go (alike-none (kind_within deep a) (kind_within deep b) e) (kind-uneven deep a) (kind-uneven deep b)
  where
    first : (deep < depth a) ⊎ Mixed a → (suc deep < depth (apply s a b)) ⊎ Mixed (apply s a b)
    first (inl h) = let l = larger-first (depth a) (depth b) in inl (omega arith)
    first (inr (k, l, h, g, ne)) = inr (k, l, in_first s a b h, in_first s a b g, ne)

    second : (deep < depth b) ⊎ Mixed b → (suc deep < depth (apply s a b)) ⊎ Mixed (apply s a b)
    second (inl h) = let l = larger-second (depth a) (depth b) in inl (omega arith)
    second (inr (k, l, h, g, ne)) = inr (k, l, in_second s a b h, in_second s a b g, ne)

    go :
        (kind_within deep a ≡ none) ⊎ ((kind_within deep b ≡ none) ⊎ ((k : Number) × (l : Number) × (kind_within deep a ≡ some k) × (kind_within deep b ≡ some l) × (k ≢ l))) →
        (kind_within deep a ≡ none → (deep < depth a) ⊎ Mixed a) →
        (kind_within deep b ≡ none → (deep < depth b) ⊎ Mixed b) →
        (suc deep < depth (apply s a b)) ⊎ Mixed (apply s a b)
    go (inl q) f g = first (f q)
    go (inr (inl q)) f g = second (g q)
    go (inr (inr (k, l, p, q, ne))) f g = inr (k, l, in_first s a b (kind-even deep a k p).has, in_second s a b (kind-even deep b l q).has, ne)

-- ---- an integer divided by zero

-- a refusal of a value is 23, and here is why
abbrev Why : Number → Expression → ℕ → Type 0
Why kind x code = (code ≡ 23) × DividesByZero kind x

integer-cause :
    (kind : Number) (m : ℕ) (s : Sign) (a b : Expression) (i j : ℕ) → IsInteger kind → value kind b ≡ good j →
    Ends (Why kind (apply s a b)) (λ _. Unit {0}) (integer m s i j)
unfolding integer
integer-cause kind m plus a b i j is e = well tt
integer-cause kind m minus a b i j is e = well tt
integer-cause kind m times a b i j is e = well tt
integer-cause kind m over a b i j is e = go (eqb j 0) refl
  where
    go : (t : Bool) → eqb j 0 ≡ t → Ends (Why kind (apply over a b)) (λ _. Unit {0}) (integer m over i j)
    go true t = rw (t, integer) (refused (refl, by_part a b is (e ∙ ap good (eqb-true j 0 t))))
    go false t = rw (t, integer) (well tt)

computed-cause :
    (kind : Number) (s : Sign) (a b : Expression) (i j : ℕ) → value kind b ≡ good j →
    Ends (Why kind (apply s a b)) (λ _. Unit {0}) (computed kind s i j)
unfolding computed
computed-cause int s a b i j e = integer-cause int _ s a b i j tt e
computed-cause float s a b i j e = well tt
computed-cause long s a b i j e = integer-cause long _ s a b i j tt e
computed-cause double s a b i j e = well tt

value-cause : (kind : Number) (x : Expression) → Ends (Why kind x) (λ _. Unit {0}) (value kind x)
unfolding value
value-cause kind (leaf k n) = well tt
value-cause kind (apply s a b) =
    next _ (weaker (λ c h. (h.0, within_first s a b h.1)) (λ _ h. h) (value-cause kind a)) λ i _.
    next _ (weaker (λ c h. (h.0, within_second s a b h.1)) (λ _ h. h) (known-good (value kind b) (value-cause kind b))) λ j h.
    computed-cause kind s a b i j h.1

-- and nothing that divides an integer by zero has a value
no_quotient : (kind : Number) (i n : ℕ) → IsInteger kind → computed kind over i 0 ≡ good n → ⊥
unfolding computed integer
no_quotient int i n is e = bad≢good e
no_quotient float i n is e = is
no_quotient long i n is e = bad≢good e
no_quotient double i n is e = is

no_value : (kind : Number) (x : Expression) (n : ℕ) → DividesByZero kind x → value kind x ≡ good n → ⊥
unfolding value
no_value kind _ n (by_part a b is z) e =
    good_then (value kind a) _ n e λ i _ e₁.
    good_then (value kind b) _ n e₁ λ j q e₂.
    let same : j ≡ 0 = good_inj (sym q ∙ z) in
    no_quotient kind i n is (subst (λ j. computed kind over i j ≡ good n) same e₂)
no_value kind _ n (within_first s a b d) e = good_then (value kind a) _ n e λ i q _. no_value kind a i d q
no_value kind _ n (within_second s a b d) e =
    good_then (value kind a) _ n e λ i _ e₁.
    good_then (value kind b) _ n e₁ λ j q _. no_value kind b j d q

-- ---- a record 46

-- what each fault is the cause of
pub record Faults (Z : ℕ → Type 0) (left : List ℕ) : Type 0 where
  pub byte : BadByte 1 left → Z 22
  pub kinds : (x : Expression) (rest : List ℕ) → read_expression left ≡ some (some x, rest) → Mixed x → Z 22
  pub nested : (x : Expression) (rest : List ℕ) → read_expression left ≡ some (some x, rest) → 32 < depth x → Z 22
  pub divided :
      (x : Expression) (rest : List ℕ) (kind : Number) → read_expression left ≡ some (some x, rest) → OfKind kind x → depth x ≤ 32 → DividesByZero kind x →
      Z 23

folded-cause :
    {Z : ℕ → Type 0} (left rest : List ℕ) (o : Option Expression) → read_expression left ≡ some (o, rest) → Faults Z left → Ends Z (λ _. ComesOut left) (folded o)
unfolding folded one_kind
folded-cause left rest none read f = refused (f.byte (bad_byte_lem left rest read))
folded-cause {Z} left rest (some x) read f =
    next _ (go (kind_within 32 x) refl) λ kind even.
    next _ (weaker (λ c h. subst Z (sym h.0) (f.divided x rest kind read even.all even.low h.1)) (λ _ h. h) (known-good (value kind x) (value-cause kind x))) λ n h.
    well (record { parts = x; rest = rest; kind = kind; is_read = read; is_of_kind = even.all; is_nested = even.low; is_divided = λ d. no_value kind x n d h.1 })
  where
    go : (o : Option Number) → kind_within 32 x ≡ o → Ends Z (λ kind. Even 32 kind x) (one_kind (kind_within 32 x))
    go none e = subst (λ o. Ends Z (λ kind. Even 32 kind x) (one_kind o)) (sym e) (refused (⊎_elim (f.nested x rest read) (f.kinds x rest read) (kind-uneven 32 x e)))
    go (some kind) e = subst (λ o. Ends Z (λ kind. Even 32 kind x) (one_kind o)) (sym e) (well (kind-even 32 x kind e))

-- what a 46 is read as
pub expression-read :
    (left : List ℕ) (x : Definition (List ℕ)) (rest : List ℕ) → read_definition 0x46 left ≡ some (x, rest) →
    (o : Option Expression) × (read_expression left ≡ some (o, rest)) × (x ≡ define (worked_out (folded o)))
unfolding read_definition read_body lookup bodies shapes bootstrap_shape
expression-read left x rest e =
    some_then (read_expression left) _ (x, rest) e λ o last read e₁.
    let same : ◌≡◌ {A = Definition (List ℕ) × List ℕ} (define (worked_out (folded o)), last) (x, rest) = some_inj e₁ in
    (o, read ∙ ap (λ (r : Definition (List ℕ) × List ℕ). some (o, r.1)) same, sym (ap (λ (r : Definition (List ℕ) × List ℕ). r.0) same))

-- one that can't be read is cut before any bad byte
pub definition_cut : (left : List ℕ) → read_definition 0x46 left ≡ none → BadByte 1 left → ⊥
unfolding read_definition read_body lookup bodies shapes bootstrap_shape
definition_cut left e = go (read_expression left) refl e
  where
    go :
        (o : Option (Option Expression × List ℕ)) → read_expression left ≡ o → and_then o (λ x rest. some (define (worked_out (folded x)), rest)) ≡ none →
        BadByte 1 left → ⊥
    go none q e = cut-unread left q
    go (some r) q e = none≢some (sym e)

-- it goes into the table of constants
pub worked-constant : (r : Result ℕ (Number × ℕ)) → kind_of (worked_out r).tag ≡ constant
unfolding worked_out as_constant tag_of kind_of
worked-constant (good (int, n)) = refl
worked-constant (good (float, n)) = refl
worked-constant (good (long, n)) = refl
worked-constant (good (double, n)) = refl
worked-constant (bad code) = refl

pub comes_cause :
    {Z : ℕ → Type 0} (first : ℕ) (left : List ℕ) (x : Definition (List ℕ)) (rest : List ℕ) →
    read_definition first left ≡ some (x, rest) →
    (first ≡ 0x46 → Faults Z left) →
    Ends Z (λ _. first ≡ 0x46 → ComesOut left) (comes_out first left)
unfolding comes_out constant_in
comes_cause {Z} first left x rest read f = go (eqb first 0x46) refl
  where
    go : (t : Bool) → eqb first 0x46 ≡ t → Ends Z (λ _. first ≡ 0x46 → ComesOut left) (comes_out first left)
    go true t =
        let is : first ≡ 0x46 = eqb-true first 0x46 t in
        let (o, h, _) = expression-read left x rest (subst (λ f. read_definition f left ≡ some (x, rest)) is read) in
        rw (t, comes_out)
        (next _ (subst (λ (p : Option (Option Expression × List ℕ)). Ends Z (λ _. ComesOut left) (constant_in p)) (sym h) (folded-cause left rest o h (f is))) λ _ c.
        well (λ _. c))
    go false t = rw (t, comes_out) (well (λ e. absurd (eqb-false first 0x46 t e)))
