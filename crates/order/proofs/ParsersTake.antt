-- A parser takes bytes from the front and goes by them alone: whatever follows, it reads the same and leaves what follows. Assumes nothing.
use mathlib.Core.List.{List, [], ◌∷◌, ◌++◌, append-nil, append_assoc}
use mathlib.Core.Option.{Option, none, some}
use mathlib.Core.Path.{◌≡◌, refl, ap, sym, ◌∙◌}
use Prim.Native.Nat.{ℕ, zero, suc, ◌+◌, ◌*◌, ◌≤◌}
use native.Mathlib.Omega.{arith}
use lib.ListN.{length, length-append}
use Rattle.definition.specs.Basics.{lookup}
use Rattle.definition.specs.Bytes.{Parser, return, fail, and_then, one, two, many, ◌>>=◌}
use Rattle.definition.specs.Expression.{Number, int, float, long, double, Sign, Expression, leaf, four, eight, bits as readBits, Opening, of_leaf, of_sign, openings, joined, second_part, opened_part, expression, read_expression}
use Rattle.definition.specs.Shapes.{Kind, constant, Field, text, bits, byte, to, to_many, Entry, with_literal, with_byte, with_kids, read_fields, read_entry}
use Rattle.definition.specs.Job.{Reference, raw, entry, name, define, named, placed, setting, Body, of_entry, of_name, of_raw, of_expression, of_number, of_nothing, bodies, short_name, reference_form, reference, worked_out, read_body, read_definition}
use Rattle.definition.specs.Value.{folded}
use Rattle.facts.proofs.Lists.{none≢some, some_inj}

-- what a parser took: the bytes in front of the rest, and with fuel for them it takes them whatever follows
record Took {A : Type 0} (p : ℕ → Parser A) (bytes rest : List ℕ) (a : A) : Type 0 where
  taken : List ℕ
  split : bytes ≡ taken ++ rest
  again : (fuel : ℕ) (more : List ℕ) → length taken ≤ fuel → p fuel (taken ++ more) ≡ some (a, more)

-- it takes so with this fuel; a parser that needs none takes so with any
abbrev TakesAt : {A : Type 0} → ℕ → (ℕ → Parser A) → Type 0
TakesAt deep p = (bytes rest : List ℕ) (a : _) → p deep bytes ≡ some (a, rest) → Took p bytes rest a

takes_fail : {A : Type 0} (deep : ℕ) → TakesAt {A = A} deep (λ _. fail)
takes_fail deep bytes rest a e = none≢some e

takes_return : {A : Type 0} (deep : ℕ) (a : A) → TakesAt deep (λ _. return a)
takes_return {A} deep a bytes rest a' e =
    let same : ◌≡◌ {A = A × List ℕ} (a, bytes) (a', rest) = some_inj e in
    record {
      taken = [];
      split = ap (λ r. r.1) same;
      again = λ fuel more h. ap (λ (r : A × List ℕ). some (r.0, more)) same;
    }

-- one after the other
takes_bind :
    {A B : Type 0} (deep : ℕ) (p : ℕ → Parser A) (f : ℕ → A → Parser B) →
    TakesAt deep p →
    ((a : A) → TakesAt deep (λ n. f n a)) →
    TakesAt deep (λ n. p n >>= f n)
takes_bind {A} {B} deep p f tp tf bytes rest b e = go (p deep bytes) refl e
  where
    go : (o : Option (A × List ℕ)) → p deep bytes ≡ o → and_then o (f deep) ≡ some (b, rest) → Took (λ n. p n >>= f n) bytes rest b
    go none e h = none≢some h
    go (some r) e h =
        let first = tp bytes r.1 r.0 e in
        let second = tf r.0 r.1 rest b h in
        let t = first.taken in
        let u = second.taken in
        record {
          taken = t ++ u;
          split = first.split ∙ ap (λ l. t ++ l) second.split ∙ sym (append_assoc t u rest);
          again = λ fuel more enough.
              let many = length-append t u in
              ap (λ l. and_then (p fuel l) (f fuel)) (append_assoc t u more)
              ∙ ap (λ o. and_then o (f fuel)) (first.again fuel (u ++ more) (omega arith))
              ∙ second.again fuel more (omega arith);
        }

takes_one : (deep : ℕ) → TakesAt deep (λ _. one)
unfolding one
takes_one deep [] rest a e = none≢some e
takes_one deep (b ∷ bytes) rest a e =
    let same : ◌≡◌ {A = ℕ × List ℕ} (b, bytes) (a, rest) = some_inj e in
    record {
      taken = b ∷ [];
      split = ap (λ r. b ∷ r.1) same;
      again = λ fuel more h. ap (λ (r : ℕ × List ℕ). some (r.0, more)) same;
    }

takes_two : (deep : ℕ) → TakesAt deep (λ _. two)
unfolding two
takes_two deep =
    takes_bind deep (λ _. one) _ (takes_one deep) λ a. takes_bind deep (λ _. one) _ (takes_one deep) λ b. takes_return deep (256 * a + b)

takes_many : {A : Type 0} (deep n : ℕ) (p : Parser A) → TakesAt deep (λ _. p) → TakesAt deep (λ _. many n p)
unfolding many
takes_many deep zero p t = takes_return deep []
takes_many deep (suc n) p t =
    takes_bind deep (λ _. p) _ t λ a. takes_bind deep (λ _. many n p) _ (takes_many deep n p t) λ l. takes_return deep (a ∷ l)

takes_name : (deep : ℕ) → TakesAt deep (λ _. short_name)
unfolding short_name
takes_name deep = takes_bind deep (λ _. one) _ (takes_one deep) λ size. takes_many deep size one (takes_one deep)

takes_form : (deep : ℕ) (kind : Kind) (n : ℕ) → TakesAt deep (λ _. reference_form kind n)
unfolding reference_form
takes_form deep kind zero = takes_bind deep (λ _. two) _ (takes_two deep) λ n. takes_return deep (raw n)
takes_form deep kind (suc zero) = takes_bind deep (λ _. two) _ (takes_two deep) λ n. takes_return deep (entry kind n)
takes_form deep kind (suc (suc zero)) = takes_bind deep (λ _. short_name) _ (takes_name deep) λ s. takes_return deep (name kind s)
takes_form deep kind (suc (suc (suc n))) = takes_fail deep

takes_reference : (deep : ℕ) (kind : Kind) → TakesAt deep (λ _. reference kind)
unfolding reference
takes_reference deep kind = takes_bind deep (λ _. one) _ (takes_one deep) λ n. takes_form deep kind n

takes_fields : (deep : ℕ) (fields : List Field) (e : Entry (List ℕ) Reference) → TakesAt deep (λ _. read_fields reference fields e)
unfolding read_fields
takes_fields deep [] e = takes_return deep e
takes_fields deep (text ∷ fields) e =
    takes_bind deep (λ _. two) _ (takes_two deep) λ size.
    takes_bind deep (λ _. many size one) _ (takes_many deep size one (takes_one deep)) λ s.
    takes_fields deep fields (with_literal s e)
takes_fields deep (bits size ∷ fields) e =
    takes_bind deep (λ _. many size one) _ (takes_many deep size one (takes_one deep)) λ s. takes_fields deep fields (with_literal s e)
takes_fields deep (byte ∷ fields) e = takes_bind deep (λ _. one) _ (takes_one deep) λ b. takes_fields deep fields (with_byte b e)
takes_fields deep (to kind ∷ fields) e =
    takes_bind deep (λ _. reference kind) _ (takes_reference deep kind) λ r. takes_fields deep fields (with_kids (e.kids ++ r ∷ []) e)
takes_fields deep (to_many ∷ fields) e =
    takes_bind deep (λ _. two) _ (takes_two deep) λ size.
    takes_bind deep (λ _. many size (reference constant)) _ (takes_many deep size (reference constant) (takes_reference deep constant)) λ rs.
    takes_fields deep fields (with_kids (e.kids ++ rs) e)

-- ---- expressions: no deeper than the bytes that they take

takes_four : (deep : ℕ) → TakesAt deep (λ _. four)
unfolding four
takes_four deep =
    takes_bind deep (λ _. two) _ (takes_two deep) λ a. takes_bind deep (λ _. two) _ (takes_two deep) λ b. takes_return deep (65536 * a + b)

takes_eight : (deep : ℕ) → TakesAt deep (λ _. eight)
unfolding eight
takes_eight deep =
    takes_bind deep (λ _. four) _ (takes_four deep) λ a. takes_bind deep (λ _. four) _ (takes_four deep) λ b. takes_return deep (4294967296 * a + b)

takes_bits : (deep : ℕ) (kind : Number) → TakesAt deep (λ _. readBits kind)
unfolding readBits
takes_bits deep int = takes_four deep
takes_bits deep float = takes_four deep
takes_bits deep long = takes_eight deep
takes_bits deep double = takes_eight deep

takes_second : (deep : ℕ) (s : Sign) (a : Option Expression) → TakesAt deep expression → TakesAt deep (λ n. second_part (expression n) s a)
unfolding second_part
takes_second deep s none t = takes_return deep none
takes_second deep s (some a) t = takes_bind deep expression _ t λ b. takes_return deep (joined s a b)

takes_part : (deep : ℕ) (o : Option Opening) → TakesAt deep expression → TakesAt deep (λ n. opened_part (expression n) o)
unfolding opened_part
takes_part deep none t = takes_return deep none
takes_part deep (some (of_leaf kind)) t = takes_bind deep (λ _. readBits kind) _ (takes_bits deep kind) λ b. takes_return deep (some (leaf kind b))
takes_part deep (some (of_sign s)) t = takes_bind deep expression _ t λ a. takes_second deep s a t

takes_deep : (deep : ℕ) → TakesAt deep expression
unfolding expression one
takes_deep zero bytes rest x e = none≢some e
takes_deep (suc deep) [] rest x e = none≢some e
takes_deep (suc deep) (b ∷ bytes) rest x e =
    let part = takes_part deep (lookup b openings) (takes_deep deep) bytes rest x e in
    record {
      taken = b ∷ part.taken;
      split = ap (λ l. b ∷ l) part.split;
      again = λ fuel more enough. go part.taken part.again fuel more enough;
    }
  where
    go :
        (taken : List ℕ) →
        ((fuel : ℕ) (more : List ℕ) → length taken ≤ fuel → opened_part (expression fuel) (lookup b openings) (taken ++ more) ≡ some (x, more)) →
        (fuel : ℕ) (more : List ℕ) →
        suc (length taken) ≤ fuel →
        expression fuel (b ∷ taken ++ more) ≡ some (x, more)
    go taken again zero more enough = absurd (omega arith)
    go taken again (suc fuel) more enough = again fuel more (omega arith)

takes_expression : (deep : ℕ) → TakesAt deep (λ _. read_expression)
unfolding read_expression
takes_expression deep bytes rest x e =
    let t = takes_deep (length bytes) bytes rest x e in
    record {
      taken = t.taken;
      split = t.split;
      again = λ fuel more enough.
          let many = length-append t.taken more in
          t.again (length (t.taken ++ more)) more (omega arith);
    }

-- ---- definitions

takes_body : (deep first : ℕ) (body : Option Body) → TakesAt deep (λ _. read_body first body)
unfolding read_body read_entry
takes_body deep first none = takes_fail deep
takes_body deep first (some (of_entry fields)) =
    takes_bind deep (λ _. read_entry reference first fields) _ (takes_fields deep fields (record { tag = first; literal = []; byte = 0; kids = [] })) λ e.
    takes_return deep (define e)
takes_body deep first (some (of_name kind)) =
    takes_bind deep (λ _. short_name) _ (takes_name deep) λ s.
    takes_bind deep (λ _. reference kind) _ (takes_reference deep kind) λ r. takes_return deep (named kind s r)
takes_body deep first (some (of_raw kind)) =
    takes_bind deep (λ _. two) _ (takes_two deep) λ at.
    takes_bind deep (λ _. two) _ (takes_two deep) λ number. takes_return deep (placed kind at number)
takes_body deep first (some of_expression) =
    takes_bind deep (λ _. read_expression) _ (takes_expression deep) λ x. takes_return deep (define (worked_out (folded x)))
takes_body deep first (some (of_number rule)) = takes_bind deep (λ _. two) _ (takes_two deep) λ n. takes_return deep (setting (rule n))
takes_body deep first (some (of_nothing rule)) = takes_return deep (setting rule)

-- ---- without fuel

-- what is read of some bytes, to their end, is read of them whatever follows
abbrev pub Extends : {A : Type 0} → Parser A → Type 0
Extends p = (bytes more : List ℕ) (a : _) → p bytes ≡ some (a, []) → p (bytes ++ more) ≡ some (a, more)

-- what is read in front of a rest is read of those bytes alone
abbrev pub Cuts : {A : Type 0} → Parser A → Type 0
Cuts {A} p = (bytes rest : List ℕ) (a : A) → p bytes ≡ some (a, rest) → (taken : List ℕ) × (bytes ≡ taken ++ rest) × (p taken ≡ some (a, []))

module _ {A : Type 0} (p : Parser A) (t : TakesAt 0 (λ _. p)) where
  extends : Extends p
  extends bytes more a e =
      let h = t bytes [] a e in
      ap (λ l. p (l ++ more)) (h.split ∙ append-nil h.taken) ∙ h.again (length h.taken) more (omega arith)

  cuts : Cuts p
  cuts bytes rest a e =
      let h = t bytes rest a e in
      (h.taken, h.split, ap p (sym (append-nil h.taken)) ∙ h.again (length h.taken) [] (omega arith))

pub expression-extends : Extends read_expression
expression-extends = extends read_expression (takes_expression 0)

pub definition_extends : (first : ℕ) → Extends (read_definition first)
unfolding read_definition
definition_extends first = extends (read_definition first) (takes_body 0 first (lookup first bodies))

pub definition_cuts : (first : ℕ) → Cuts (read_definition first)
unfolding read_definition
definition_cuts first = cuts (read_definition first) (takes_body 0 first (lookup first bodies))
