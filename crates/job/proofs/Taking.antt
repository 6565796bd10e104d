-- Parsers take bytes from the front, so that what one finds stands from a place to another. Assumes nothing.
use mathlib.Core.Bool.{Bool, true, false}
use mathlib.Core.List.{List, [], ◌∷◌, ◌++◌}
use mathlib.Core.Option.{Option, none, some}
use mathlib.Core.Path.{◌≡◌, refl, sym, ap, ◌∙◌}
use Prim.Native.Nat.{ℕ, zero, suc, ◌+◌, ◌-◌, ◌*◌, ◌≤◌, ◌<◌}
use native.Mathlib.Omega.{arith}
use lib.Dec.{ltb}
use lib.ListN.{length, get_or, take, drop, length-drop}
use lib.Seq.{drop-drop}
use borrow.Author.Tests.{ltb-true, ltb-false}
use Rattle.facts.proofs.Lists.{none≢some, same_place}
use Rattle.facts.proofs.Results.{some_then}
use Rattle.definition.specs.Basics.{lookup}
use Rattle.definition.specs.Bytes.{Parser, return, fail, ◌>>=◌, one, two, many}
use Rattle.definition.specs.Expression.{Number, int, float, long, double, Sign, Expression, leaf, four, eight, bits as readBits, Opening, of_leaf, of_sign, openings, joined, second_part, opened_part, expression, read_expression}
use Rattle.definition.specs.Value.{folded}
use Rattle.definition.specs.Shapes.{Kind, constant, Field, text, bits, byte, to, to_many, Entry, with_kids, with_literal, with_byte, read_fields, read_entry}
use Rattle.definition.specs.Job.{Reference, raw, entry, name, define, named, placed, setting, Body, of_entry, of_name, of_raw, of_expression, of_number, of_nothing, bodies, worked_out, asks, short_name, reference_form, reference, read_body, read_definition, read_request}
use Rattle.job.specs.Stored.{Found, formed_definition, any_definition, any_request}
use Rattle.job.proofs.Expressions.{formed_was}
use Rattle.job.proofs.Laws.{number, many-reads, many-cut, one_at, one-cut, two_at, two-cut}

-- whatever a parser reads, it takes at least so many bytes from the front and leaves the others
abbrev pub Takes : {A : Type 0} → ℕ → Parser A → Type 0
Takes {A} least p = (l : List ℕ) (a : A) (rest : List ℕ) → p l ≡ some (a, rest) → (k : ℕ) × (least ≤ k) × (k ≤ length l) × (rest ≡ drop k l)

takes_fail : {A : Type 0} → Takes {A = A} 0 fail
takes_fail l a rest e = none≢some e

takes_return : {A : Type 0} (x : A) → Takes 0 (return x)
takes_return {A} x l a rest e =
    let same : ◌≡◌ {A = A × List ℕ} (x, l) (a, rest) = cc in
    (0, omega arith, omega arith, sym (ap (λ r. r.1) same))

takes_one : Takes 1 one
unfolding one
takes_one [] a rest e = none≢some e
takes_one (x ∷ l) a rest e =
    let same : ◌≡◌ {A = ℕ × List ℕ} (x, l) (a, rest) = cc in
    (1, omega arith, omega arith, sym (ap (λ r. r.1) same))

takes_bind : {A B : Type 0} (least : ℕ) (p : Parser A) (f : A → Parser B) → Takes least p → ((a : A) → Takes 0 (f a)) → Takes least (p >>= f)
takes_bind least p f tp tf l b rest e =
    some_then (p l) f (b, rest) e λ a left e₁ e₂.
    let g = tp l a left e₁ in
    let h = tf a left b rest e₂ in
    let size : length left ≡ length l - g.0 = ap length g.3 ∙ length-drop g.0 l in
    (g.0 + h.0, omega arith, omega (arith, size), h.3 ∙ ap (drop h.0) g.3 ∙ drop-drop h.0 g.0 l)

takes_any : {A : Type 0} (p : Parser A) → Takes 1 p → Takes 0 p
takes_any p t l a rest e = let g = t l a rest e in (g.0, omega arith, g.2, g.3)

takes_two : Takes 1 two
unfolding two
takes_two = takes_bind 1 one _ takes_one λ a. takes_bind 0 one _ (takes_any one takes_one) λ b. takes_return _

takes_many : {A : Type 0} (n : ℕ) (p : Parser A) → Takes 0 p → Takes 0 (many n p)
unfolding many
takes_many zero p t = takes_return []
takes_many (suc n) p t = takes_bind 0 p _ t λ a. takes_bind 0 (many n p) _ (takes_many n p t) λ rest. takes_return (a ∷ rest)

pub takes_name : Takes 1 short_name
unfolding short_name
takes_name = takes_bind 1 one _ takes_one λ size. takes_many size one (takes_any one takes_one)

takes_form : (kind : Kind) (form : ℕ) → Takes 0 (reference_form kind form)
unfolding reference_form
takes_form kind zero = takes_bind 0 two _ (takes_any two takes_two) λ n. takes_return (raw n)
takes_form kind (suc zero) = takes_bind 0 two _ (takes_any two takes_two) λ n. takes_return (entry kind n)
takes_form kind (suc (suc zero)) = takes_bind 0 short_name _ (takes_any short_name takes_name) λ s. takes_return (name kind s)
takes_form kind (suc (suc (suc n))) = takes_fail

pub takes_reference : (kind : Kind) → Takes 1 (reference kind)
unfolding reference
takes_reference kind = takes_bind 1 one _ takes_one (takes_form kind)

takes_kid : (kind : Kind) → Takes 0 (reference kind)
takes_kid kind = takes_any (reference kind) (takes_reference kind)

takes_fields : (fields : List Field) (e : Entry (List ℕ) Reference) → Takes 0 (read_fields reference fields e)
unfolding read_fields
takes_fields [] e = takes_return e
takes_fields (text ∷ fields) e =
    takes_bind 0 two _ (takes_any two takes_two) λ size.
    takes_bind 0 (many size one) _ (takes_many size one (takes_any one takes_one)) λ s. takes_fields fields (with_literal s e)
takes_fields (bits size ∷ fields) e =
    takes_bind 0 (many size one) _ (takes_many size one (takes_any one takes_one)) λ s. takes_fields fields (with_literal s e)
takes_fields (byte ∷ fields) e = takes_bind 0 one _ (takes_any one takes_one) λ b. takes_fields fields (with_byte b e)
takes_fields (to kind ∷ fields) e =
    takes_bind 0 (reference kind) _ (takes_kid kind) λ r. takes_fields fields (with_kids (e.kids ++ r ∷ []) e)
takes_fields (to_many ∷ fields) e =
    takes_bind 0 two _ (takes_any two takes_two) λ size.
    takes_bind 0 (many size (reference constant)) _ (takes_many size (reference constant) (takes_kid constant)) λ rs.
    takes_fields fields (with_kids (e.kids ++ rs) e)

-- an expression, by its fuel
takes_four : Takes 0 four
unfolding four
takes_four =
    takes_bind 0 two _ (takes_any two takes_two) λ a. takes_bind 0 two _ (takes_any two takes_two) λ b. takes_return (65536 * a + b)

takes_eight : Takes 0 eight
unfolding eight
takes_eight = takes_bind 0 four _ takes_four λ a. takes_bind 0 four _ takes_four λ b. takes_return (4294967296 * a + b)

takes_bits : (kind : Number) → Takes 0 (readBits kind)
unfolding readBits
takes_bits int = takes_four
takes_bits float = takes_four
takes_bits long = takes_eight
takes_bits double = takes_eight

takes_second : (part : Parser (Option Expression)) → Takes 0 part → (sign : Sign) (a : Option Expression) → Takes 0 (second_part part sign a)
unfolding second_part
takes_second part t sign none = takes_return none
takes_second part t sign (some a) = takes_bind 0 part _ t λ b. takes_return (joined sign a b)

takes_part : (part : Parser (Option Expression)) → Takes 0 part → (o : Option Opening) → Takes 0 (opened_part part o)
unfolding opened_part
takes_part part t none = takes_return none
takes_part part t (some (of_leaf kind)) = takes_bind 0 (readBits kind) _ (takes_bits kind) λ b. takes_return (some (leaf kind b))
takes_part part t (some (of_sign sign)) = takes_bind 0 part _ t (takes_second part t sign)

takes_fuelled : (fuel : ℕ) → Takes 0 (expression fuel)
unfolding expression
takes_fuelled zero = takes_fail
takes_fuelled (suc fuel) =
    takes_bind 0 one _ (takes_any one takes_one) λ first. takes_part (expression fuel) (takes_fuelled fuel) (lookup first openings)

takes_expression : Takes 0 read_expression
unfolding read_expression
takes_expression l = takes_fuelled (length l) l

takes_body : (first : ℕ) (body : Option Body) → Takes 0 (read_body first body)
unfolding read_body read_entry
takes_body first none = takes_fail
takes_body first (some (of_entry fields)) = takes_bind 0 (read_entry reference first fields) _ (takes_fields fields _) λ e. takes_return (define e)
takes_body first (some (of_name kind)) =
    takes_bind 0 short_name _ (takes_any short_name takes_name) λ s.
    takes_bind 0 (reference kind) _ (takes_kid kind) λ r. takes_return (named kind s r)
takes_body first (some (of_raw kind)) =
    takes_bind 0 two _ (takes_any two takes_two) λ at. takes_bind 0 two _ (takes_any two takes_two) λ n. takes_return (placed kind at n)
takes_body first (some of_expression) = takes_bind 0 read_expression _ takes_expression λ x. takes_return (define (worked_out (folded x)))
takes_body first (some (of_number rule)) = takes_bind 0 two _ (takes_any two takes_two) λ n. takes_return (setting (rule n))
takes_body first (some (of_nothing rule)) = takes_return (setting rule)

takes_formed : (first : ℕ) → Takes 0 (formed_definition first)
unfolding read_definition
takes_formed first l a rest e = takes_body first (lookup first bodies) l a rest (formed_was first l (a, rest) e).1

pub takes_definition : Takes 1 any_definition
takes_definition = takes_bind 1 one _ takes_one takes_formed

takes_ask : (o : Option Bool) → Takes 0 (read_request o)
unfolding read_request
takes_ask none = takes_fail
takes_ask (some ldc) = takes_bind 0 (reference constant) _ (takes_kid constant) λ r. takes_return (record { ldc = ldc; what = r })

pub takes_request : Takes 1 any_request
takes_request = takes_bind 1 one _ takes_one λ first. takes_ask (lookup first asks)

-- ---- places

module _ (s : List ℕ) (at : ℕ) where
  -- what is read at a place is found there
  pub finds :
      {A : Type 0} (p : Parser A) → Takes 1 p → at ≤ length s → (a : A) (rest : List ℕ) → p (drop at s) ≡ some (a, rest) →
      (next : ℕ) × (rest ≡ drop next s) × Found p s at a next
  finds p t h a rest e =
      let g = t (drop at s) a rest e in
      let size = length-drop at s in
      let left : rest ≡ drop (at + g.0) s = g.3 ∙ drop-drop g.0 at s in
      (at + g.0, left, record { read = rw left at e; past = omega arith; within = omega (arith, size) })

  -- a part, and what follows it
  pub finds_then :
      {A B C : Type 0} (p : Parser A) → Takes 1 p → (f : A → Parser B) → at ≤ length s → (b : B) (rest : List ℕ) →
      (p >>= f) (drop at s) ≡ some (b, rest) → ((a : A) (next : ℕ) → Found p s at a next → f a (drop next s) ≡ some (b, rest) → C) → C
  finds_then p t f h b rest e k =
      some_then (p (drop at s)) f (b, rest) e λ a left e₁ e₂.
      let g = finds p t h a left e₁ in
      k a g.0 g.2 (rw g.1 at e₂)

  -- a byte, and what follows it
  pub byte_then :
      {B : Type 0} (f : ℕ → Parser B) (b : B) (rest : List ℕ) → (one >>= f) (drop at s) ≡ some (b, rest) →
      (at < length s) × (f (get_or s at 0) (drop (at + 1) s) ≡ some (b, rest))
  byte_then f b rest e = ways (ltb at (length s)) refl
    where
      ways : (t : Bool) → ltb at (length s) ≡ t → (at < length s) × (f (get_or s at 0) (drop (at + 1) s) ≡ some (b, rest))
      ways true t = let h = ltb-true at (length s) t in (h, rw (one_at s at h) at e)
      ways false t = none≢some (rw (one-cut s at (ltb-false at (length s) t)) at e)

  -- a number of two bytes, and what follows it
  pub two_then :
      {B : Type 0} (f : ℕ → Parser B) (b : B) (rest : List ℕ) → at ≤ length s → (two >>= f) (drop at s) ≡ some (b, rest) →
      (at + 2 ≤ length s) × (f (number s at) (drop (at + 2) s) ≡ some (b, rest))
  two_then f b rest low e = ways (ltb (length s - at) 2) refl
    where
      ways : (t : Bool) → ltb (length s - at) 2 ≡ t → (at + 2 ≤ length s) × (f (number s at) (drop (at + 2) s) ≡ some (b, rest))
      ways true t = none≢some (rw (two-cut s at (ltb-true (length s - at) 2 t)) at e)
      ways false t =
          let h : at + 2 ≤ length s = omega (arith, ltb-false (length s - at) 2 t) in
          (h, rw (two_at s at h) at e)

  -- so many bytes, and what follows them
  pub bytes-then :
      {B : Type 0} (n : ℕ) (f : List ℕ → Parser B) (b : B) (rest : List ℕ) → at ≤ length s → (many n one >>= f) (drop at s) ≡ some (b, rest) →
      (at + n ≤ length s) × (f (take n (drop at s)) (drop (at + n) s) ≡ some (b, rest))
  bytes-then n f b rest low e = ways (ltb (length s - at) n) refl
    where
      ways : (t : Bool) → ltb (length s - at) n ≡ t → (at + n ≤ length s) × (f (take n (drop at s)) (drop (at + n) s) ≡ some (b, rest))
      ways true t = none≢some (rw (many-cut n (drop at s) (simp length-drop (ltb-true (length s - at) n t))) at e)
      ways false t =
          let h : n ≤ length s - at = omega (arith, ltb-false (length s - at) n t) in
          let l : n ≤ length (drop at s) = simp length-drop h in
          (omega arith, rw (← drop-drop n at s) (rw (many-reads n (drop at s) l) at e))

-- the end of a chain
pub ends :
    {A : Type 0} (s : List ℕ) (a b : ℕ) (x y : A) → a ≤ length s → b ≤ length s → return x (drop a s) ≡ some (y, drop b s) → (x ≡ y) × (a ≡ b)
ends {A} s a b x y ha hb e =
    let same : ◌≡◌ {A = A × List ℕ} (x, drop a s) (y, drop b s) = cc in
    (ap (λ r. r.0) same, same_place s a b ha hb (ap (λ r. r.1) same))
