-- Parts one after the other: what a byte of an expression does to how many are still to come. Assumes nothing.
use mathlib.Core.Path.{◌≡◌, refl, sym, ap, ◌∙◌, subst}
use mathlib.Core.Bool.{Bool, true, false}
use mathlib.Core.List.{List, []}
use mathlib.Core.Option.{Option, none, some}
use Prim.Native.Nat.{ℕ, zero, suc, ◌+◌, ◌-◌, ◌<◌, ◌≤◌}
use native.Mathlib.Omega.{arith}
use lib.ListN.{length, drop, get_or, length-drop}
use Rattle.definition.specs.Basics.{lookup}
use Rattle.definition.specs.Bytes.{return, and_then}
use Rattle.definition.specs.Expression.{Number, Sign, Expression, leaf, Opening, of_leaf, of_sign, openings, joined, second_part, opened_part, expression, read_expression}
use Rattle.folding.specs.Folding.{size_of, and_more, parts, Onward, Steps, Ends, Spans, Reads}
use Rattle.std.specs.Prelude.{Err}
use Rattle.folding.specs.declared.ExpressionError.{ExpressionError}
use Rattle.folding.specs.declared.ExpressionError.TheVariants.{Cut, BadByte}
use Rattle.folding.proofs.Reading.{one_at, one-cut, bits_at_lem, bits-cut, agree, shrinks}

nested :
    (f n : ℕ) (g : Sign) (r : List ℕ) → length r ≤ f →
    and_then (opened_part (expression f) (some (of_sign g)) r) (and_more (parts (suc f) n)) ≡ parts (suc f) (suc (suc n)) r
unfolding opened_part parts and_more joined second_part
nested f n g r h = go (expression f r) refl ∙ ap (λ o. and_then o (and_more (parts (suc f) (suc n)))) (agree f (suc f) r h (omega arith))
  where
    last : (a : Expression) (o : Option (Option Expression × List ℕ)) → and_then (and_then o (λ b. return (joined g a b))) (and_more (parts (suc f) n)) ≡ and_then o (and_more (parts (suc f) n))
    last a none = refl
    last a (some (none, k)) = refl
    last a (some (some b, k)) = refl

    go : (o : Option (Option Expression × List ℕ)) → expression f r ≡ o → and_then (and_then o (second_part (expression f) g)) (and_more (parts (suc f) n)) ≡ and_then o (and_more (parts (suc f) (suc n)))
    go none e = refl
    go (some (none, l)) e = refl
    go (some (some a, l)) e =
        let short : length l ≤ f = omega (arith, shrinks f r (some a) l e) in
        last a (expression f l) ∙ ap (λ o. and_then o (and_more (parts (suc f) n))) (agree f (suc f) l short (omega arith))

module _ (s : List ℕ) (at : ℕ) where
  -- ---- an expression at a place, by its first byte

  pub none-at : (fuel : ℕ) → length s ≤ at → expression fuel (drop at s) ≡ none
  unfolding expression
  none-at zero h = refl
  none-at (suc fuel) h = rw (one-cut s at (omega arith))

  pub first_at : (fuel : ℕ) → at < length s → expression (suc fuel) (drop at s) ≡ opened_part (expression fuel) (lookup (get_or s at 0) openings) (drop (at + 1) s)
  unfolding expression
  first_at fuel h = let low : at + 1 ≤ length s = omega arith in rw (one_at s at low)

  pub opens_at :
      (fuel : ℕ) (o : Option Opening) → at < length s → o ≡ lookup (get_or s at 0) openings →
      expression (suc fuel) (drop at s) ≡ opened_part (expression fuel) o (drop (at + 1) s)
  opens_at fuel o h e = first_at fuel h ∙ ap (λ o. opened_part (expression fuel) o (drop (at + 1) s)) (sym e)

  -- ---- so many parts at a place

  pub parts_none : (F n : ℕ) → length s ≤ at → parts F (suc n) (drop at s) ≡ none
  unfolding parts
  parts_none F n h = rw (none-at F h)

  pub parts-sign :
      (F n : ℕ) (g : Sign) → length s ≤ F → at < length s → some (of_sign g) ≡ lookup (get_or s at 0) openings →
      parts F (suc n) (drop at s) ≡ parts F (suc (suc n)) (drop (at + 1) s)
  unfolding parts
  parts-sign zero n g room low e = absurd (omega arith)
  parts-sign (suc f) n g room low e =
      ap (λ o. and_then o (and_more (parts (suc f) n))) (opens_at f (some (of_sign g)) low e)
      ∙ nested f n g (drop (at + 1) s) (rw (length-drop (at + 1) s) (omega arith))

  pub parts-bad :
      (F n : ℕ) → length s ≤ F → at < length s → none ≡ lookup (get_or s at 0) openings →
      parts F (suc n) (drop at s) ≡ some (false, drop (at + 1) s)
  unfolding parts opened_part and_more
  parts-bad zero n room low e = absurd (omega arith)
  parts-bad (suc f) n room low e = ap (λ o. and_then o (and_more (parts (suc f) n))) (opens_at f none low e)

  pub parts-leaf :
      (F n : ℕ) (kind : Number) → length s ≤ F → at < length s → some (of_leaf kind) ≡ lookup (get_or s at 0) openings → at + 1 + size_of kind ≤ length s →
      parts F (suc n) (drop at s) ≡ parts F n (drop (at + 1 + size_of kind) s)
  unfolding parts opened_part and_more
  parts-leaf zero n kind room low e h = absurd (omega arith)
  parts-leaf (suc f) n kind room low e h =
      ap (λ o. and_then o (and_more (parts (suc f) n))) (opens_at f (some (of_leaf kind)) low e)
      ∙ ap (λ o. and_then (and_then o (λ b. return (some (leaf kind b)))) (and_more (parts (suc f) n))) (bits_at_lem kind s (at + 1) h)

  pub parts_cut :
      (F n : ℕ) (kind : Number) → length s ≤ F → at < length s → some (of_leaf kind) ≡ lookup (get_or s at 0) openings → length s - (at + 1) < size_of kind →
      parts F (suc n) (drop at s) ≡ none
  unfolding parts opened_part and_more
  parts_cut zero n kind room low e h = absurd (omega arith)
  parts_cut (suc f) n kind room low e h =
      ap (λ o. and_then o (and_more (parts (suc f) n))) (opens_at f (some (of_leaf kind)) low e)
      ∙ ap (λ o. and_then (and_then o (λ b. return (some (leaf kind b)))) (and_more (parts (suc f) n))) (bits-cut kind s (at + 1) h)

  -- ---- one part is an expression

  read_at : read_expression (drop at s) ≡ expression (length s) (drop at s)
  unfolding read_expression
  read_at =
      let e = length-drop at s in
      agree (length (drop at s)) (length s) (drop at s) (omega arith) (omega arith)

  pub part_none : none ≡ parts (length s) 1 (drop at s) → read_expression (drop at s) ≡ none
  unfolding parts and_more
  part_none e = read_at ∙ go (expression (length s) (drop at s)) e
    where
      go : (o : Option (Option Expression × List ℕ)) → none ≡ and_then o (and_more (parts (length s) 0)) → o ≡ none
      go none e = refl
      go (some (none, k)) e = absurd (let z : ◌≡◌ {A = ℕ} 0 1 = cc in omega arith)
      go (some (some b, k)) e = absurd (let z : ◌≡◌ {A = ℕ} 0 1 = cc in omega arith)

  pub part_bad : (next : ℕ) → some (false, drop next s) ≡ parts (length s) 1 (drop at s) → read_expression (drop at s) ≡ some (none, drop next s)
  unfolding parts and_more
  part_bad next e = read_at ∙ go (expression (length s) (drop at s)) e
    where
      test : Option (Bool × List ℕ) → Bool
      test none = false
      test (some r) = r.0

      rest : Option (Bool × List ℕ) → List ℕ
      rest none = []
      rest (some r) = r.1

      go : (o : Option (Option Expression × List ℕ)) → some (false, drop next s) ≡ and_then o (and_more (parts (length s) 0)) → o ≡ some (none, drop next s)
      go none e = absurd (let z : ◌≡◌ {A = ℕ} 0 1 = cc in omega arith)
      go (some (none, k)) e = ap (λ l. some (none, l)) (sym (ap rest e))
      go (some (some b, k)) e = absurd (let f : false ≡ true = ap test e in let z : ◌≡◌ {A = ℕ} 0 1 = cc in omega arith)

  pub part_end :
      (next : ℕ) → at < next → next ≤ length s → parts (length s) 1 (drop at s) ≡ some (true, drop next s) → Ends s at next
  unfolding parts and_more
  part_end next past within e =
      let r = go (expression (length s) (drop at s)) e in
      record { what = r.0; read = read_at ∙ r.1; past = past; within = within }
    where
      test : Option (Bool × List ℕ) → Bool
      test none = false
      test (some r) = r.0

      rest : Option (Bool × List ℕ) → List ℕ
      rest none = []
      rest (some r) = r.1

      go : (o : Option (Option Expression × List ℕ)) → and_then o (and_more (parts (length s) 0)) ≡ some (true, drop next s) → (e : Expression) × (o ≡ some (some e, drop next s))
      go none e = absurd (let z : ◌≡◌ {A = ℕ} 0 1 = cc in omega arith)
      go (some (none, k)) e = absurd (let f : false ≡ true = ap test e in let z : ◌≡◌ {A = ℕ} 0 1 = cc in omega arith)
      go (some (some b, k)) e = (b, ap (λ l. some (some b, l)) (ap rest e))

-- ---- one byte, in the code's words: `left` parts are to come, of which this is the first

module _ (s : List ℕ) (at left : ℕ) (inside : at ≤ length s) (any : 0 < left) (few : left ≤ at + 1) where
  same : (r : Option (Bool × List ℕ)) → parts (length s) (suc (left - 1)) (drop at s) ≡ r → parts (length s) left (drop at s) ≡ r
  same r h = let e : suc (left - 1) ≡ left = omega arith in subst (λ n. parts (length s) n (drop at s) ≡ r) e h

  pub steps-none : length s ≡ at → parts (length s) left (drop at s) ≡ none
  steps-none e = same none (parts_none s at (length s) (left - 1) (omega arith))

  module _ (low : at < length s) where
    pub steps-bad : none ≡ lookup (get_or s at 0) openings → (parts (length s) left (drop at s) ≡ some (false, drop (at + 1) s)) × (at < at + 1) × (at + 1 ≤ length s)
    steps-bad o = (same (some (false, drop (at + 1) s)) (parts-bad s at (length s) (left - 1) (omega arith) low o), omega arith, omega arith)

    pub steps-cut : (kind : Number) (n : ℕ) → some (of_leaf kind) ≡ lookup (get_or s at 0) openings → n ≡ size_of kind → length s - (at + 1) < n → parts (length s) left (drop at s) ≡ none
    steps-cut kind n o e h = same none (parts_cut s at (length s) (left - 1) kind (omega arith) low o (rw (sym e) h))

    pub steps-leaf : (kind : Number) (n : ℕ) → some (of_leaf kind) ≡ lookup (get_or s at 0) openings → n ≡ size_of kind → n ≤ length s - (at + 1) → Onward s at left (at + 1 + n) (left - 1)
    steps-leaf kind n o e h =
        let fits : at + 1 + size_of kind ≤ length s = omega arith in
        record {
          same = same (parts (length s) (left - 1) (drop (at + 1 + n) s)) (parts-leaf s at (length s) (left - 1) kind (omega arith) low o fits ∙ ap (λ n. parts (length s) (left - 1) (drop (at + 1 + n) s)) (sym e));
          past = omega arith;
          within = omega arith;
          few = omega arith;
        }

    pub steps-sign : (g : Sign) → some (of_sign g) ≡ lookup (get_or s at 0) openings → Onward s at left (at + 1) (left + 1)
    steps-sign g o =
        let e : suc (suc (left - 1)) ≡ left + 1 = omega arith in
        record {
          same = same (parts (length s) (left + 1) (drop (at + 1) s)) (parts-sign s at (length s) (left - 1) g (omega arith) low o ∙ ap (λ n. parts (length s) n (drop (at + 1) s)) e);
          past = omega arith;
          within = omega arith;
          few = omega arith;
        }

-- where no byte leads on, no expression ends
pub stops :
    (s : List ℕ) (start at left : ℕ) (e : ExpressionError) → start ≤ at → parts (length s) 1 (drop start s) ≡ parts (length s) left (drop at s) →
    Steps s at left (Err e) → Spans s start (Err e)
stops s start at left Cut low same h = part_none s start (sym (same ∙ h))
stops s start at left (BadByte next) low same h = (part_bad s start next (sym (same ∙ h.0)), omega (arith, h.1, low), h.2)

-- where `end_of` finds an end, `constant_at` may be called
pub reads_of : (s : List ℕ) (at next : ℕ) → Ends s at next → Reads s at
unfolding read_expression
reads_of s at next h = record { fuel = length (drop at s); what = h.what; rest = drop next s; read = h.read }
