-- No second result meets a contract of this crate's public functions. `Learnt` is a contract of src/lib.rt as it stands: what it says of
-- the arguments a, the result r and the parameters s as they are left. Assumes nothing.
use mathlib.Core.List.{List}
use mathlib.Core.Option.{Option, none, some}
use mathlib.Core.Path.{◌≡◌, refl, sym, ap, ◌∙◌}
use Prim.Native.Nat.{ℕ, ◌-◌, ◌≤◌}
use native.Mathlib.Omega.{arith}
use lib.ListN.{length, drop, length-drop}
use contract.Lifetimes.{Lfts}
use Rattle.definition.specs.Expression.{Expression}
use Rattle.facts.proofs.Lists.{clash, none≢some}
use Rattle.folding.specs.Folding.{Spans}
use Rattle.std.specs.Prelude.{Result, Ok, Err}
use Rattle.refusal.specs.Numbers.{number, answer_of}
use Rattle.refusal.specs.declared.Refusal.{Refusal}
use Rattle.refusal.proofs.Numbers.{number-injective}
use Rattle.folding.specs.declared.Constant.{Constant}
use Rattle.folding.specs.declared.ExpressionError.{ExpressionError}
use Rattle.folding.specs.declared.ExpressionError.TheVariants.{Cut, BadByte}
use Rattle.folding.proofs.constant_at.Reads as constant-at
use Rattle.folding.proofs.end_of.Reads as end_of_lem
use Rattle.folding.proofs.tag_at.Reads as tag_at

-- one place has these bytes behind it
one_place : (s : List ℕ) (n m : ℕ) → n ≤ length s → m ≤ length s → drop n s ≡ drop m s → n ≡ m
one_place s n m h k e =
    let same : length s - n ≡ length s - m = sym (length-drop n s) ∙ ap length e ∙ length-drop m s in
    omega arith

abbrev rest_of : List ℕ → Option (Option Expression × List ℕ) → List ℕ
rest_of s none = s
rest_of s (some r) = r.1

abbrev what_of : Option (Option Expression × List ℕ) → Option Expression
what_of none = none
what_of (some r) = r.0

one_span : (s : List ℕ) (at : ℕ) (r r' : Result ℕ ExpressionError) → Spans s at r → Spans s at r' → r ≡ r'
one_span s at (Ok n) (Ok m) h k =
    ap Ok (one_place s n m h.within k.within (ap (rest_of s) (sym h.read ∙ k.read)))
one_span s at (Ok n) (Err Cut) h k = clash (cc h.read)
one_span s at (Ok n) (Err (BadByte m)) h k = none≢some (ap what_of (sym k.0 ∙ h.read))
one_span s at (Err Cut) (Ok m) h k = clash (cc k.read)
one_span s at (Err Cut) (Err Cut) h k = refl
one_span s at (Err Cut) (Err (BadByte m)) h k = clash (cc k.0)
one_span s at (Err (BadByte n)) (Ok m) h k = none≢some (ap what_of (sym h.0 ∙ k.read))
one_span s at (Err (BadByte n)) (Err Cut) h k = clash (cc h.0)
one_span s at (Err (BadByte n)) (Err (BadByte m)) h k = ap (λ n. Err (BadByte n)) (one_place s n m h.2 k.2 (ap (rest_of s) (sym h.0 ∙ k.0)))

pub one_end : (κs : Lfts 1) (a : _) (r r' : Result ℕ ExpressionError) (s s' : _) → end_of_lem.Learnt κs a r s → end_of_lem.Learnt κs a r' s' → r ≡ r'
one_end κs a r r' s s' h h' = one_span _ _ r r' h h'

-- a result with a refusal is known by the definition's
one-answer : (r r' : Result Constant Refusal) → answer_of r ≡ answer_of r' → r ≡ r'
unfolding answer_of
one-answer (Ok x) (Ok y) e = let same : x ≡ y = cc in ap Ok same
one-answer (Ok x) (Err q) e = absurd (let z : ◌≡◌ {A = ℕ} 0 1 = cc in omega arith)
one-answer (Err p) (Ok y) e = absurd (let z : ◌≡◌ {A = ℕ} 0 1 = cc in omega arith)
one-answer (Err p) (Err q) e = let same : number p ≡ number q = cc in ap Err (number-injective p q same)

pub one-constant :
    (κs : Lfts 1) (a : _) (r r' : Result Constant Refusal) (s s' : _) → constant-at.Learnt κs a r s → constant-at.Learnt κs a r' s' → r ≡ r'
one-constant κs a r r' s s' h h' = one-answer r r' (h ∙ sym h')

pub one_tag :
    (κs : Lfts 1) (a : _) (r r' : ℕ) (s s' : _) → tag_at.Asked κs a → tag_at.Learnt κs a r s → tag_at.Learnt κs a r' s' → r ≡ r'
one_tag κs a r r' s s' (kind, k) h h' = h kind k ∙ sym (h' kind k)
