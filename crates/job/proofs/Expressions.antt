-- A record 46: which first byte opens it, what it reads as, and which of them stand behind the form pass. Assumes nothing.
use mathlib.Core.Bool.{Bool, true, false}
use mathlib.Core.List.{List, [], ◌∷◌}
use mathlib.Core.Option.{Option, none, some}
use mathlib.Core.Path.{◌≡◌, refl, sym, ap, ◌∙◌}
use Prim.Native.Nat.{ℕ}
use lib.Dec.{eqb}
use lib.ListN.{drop}
use borrow.Author.Tests.{eqb-true}
use Rattle.definition.specs.Basics.{Result, good, bad, ◌>>=◌, unless, every, lookup}
use Rattle.definition.specs.Expression.{Number, int, float, long, double, tag_of, read_expression}
use Rattle.definition.specs.Expression as expressions
use Rattle.definition.specs.Value.{folded, constant_in}
use Rattle.definition.specs.Shapes.{constant, Field, bits, shapes, bootstrap_shape, Entry}
use Rattle.definition.specs.Job.{Reference, Definition, Body, of_entry, of_name, of_raw, of_expression, of_number, of_nothing, bodies, as_constant, worked_out, read_definition}
use Rattle.definition.specs.Form.{Counts, kind_of, whole, may_stand, has_room, cites_earlier, comes_out, form_definition}
use Rattle.facts.proofs.Lists.{clash, none≢some}
use Rattle.facts.proofs.Results.{bad≢good, good_then}
use Rattle.facts.proofs.Tables.{lookup-every}
use Rattle.laws.proofs.Form.DefinitionsRead.{formed_read}
use Rattle.laws.proofs.Form.WorkedOut.{size_of}
use Rattle.raw_const.specs.Entries.{fields_of}
use Rattle.job.specs.declared.Opening.{Opening}
use Rattle.job.specs.declared.Opening.TheVariants.{Constant, Bootstrap, NamedConstant, NamedBootstrap, RawConstant, RawBootstrap, Version, Texts, Highest, Expression}
use Rattle.folding.specs.declared.Constant as constants
use Rattle.folding.specs.Folding.{constant_as}
use Rattle.job.specs.Forms.{entry_body, body_of, is_plain, is_setting}
use Rattle.job.specs.Stored.{formed_definition}

-- ---- the first byte

-- no other first byte opens an expression
unfoldable only_worked : ℕ × Body → Bool
only_worked (x, of_entry fields) = true
only_worked (x, of_name kind) = true
only_worked (x, of_raw kind) = true
only_worked (x, of_expression) = eqb x 0x46
only_worked (x, of_number rule) = true
only_worked (x, of_nothing rule) = true

all_worked : every only_worked bodies ≡ true
unfolding every bodies shapes bootstrap_shape only_worked
all_worked = refl

module _ (x : ℕ) where
  pub expression-first : lookup x bodies ≡ some of_expression → eqb x 0x46 ≡ true
  unfolding only_worked
  expression-first e = lookup-every only_worked bodies all_worked x of_expression e

  pub opens-expression : eqb x 0x46 ≡ true → lookup x bodies ≡ some of_expression
  unfolding lookup bodies shapes
  opens-expression e = rw (eqb-true x 0x46 e)

  pub worked-first : body_of Expression ≡ lookup x bodies → eqb x 0x46 ≡ true
  unfolding body_of
  worked-first e = expression-first (sym e)

  pub no_expression : (o : Opening) → body_of o ≡ lookup x bodies → (body_of o ≡ some of_expression → ⊥) → eqb x 0x46 ≡ false
  no_expression o told n = ways (eqb x 0x46) refl
    where
      ways : (b : Bool) → eqb x 0x46 ≡ b → eqb x 0x46 ≡ false
      ways true e = absurd (n (told ∙ opens-expression e))
      ways false e = e

-- what opens it is neither plain nor a setting
constant_other : {X : Type 0} (fields : Option (List Field)) → entry_body fields ≡ some of_expression → X
unfolding entry_body
constant_other none e = none≢some e
constant_other (some fields) e = clash (cc)

pub body_worked : (o : Opening) → body_of o ≡ some of_expression → (is_plain o ≡ false) × (is_setting o ≡ false)
unfolding body_of is_plain is_setting
body_worked (Constant shape) e = constant_other (fields_of shape) e
body_worked Bootstrap e = clash (cc)
body_worked NamedConstant e = clash (cc)
body_worked NamedBootstrap e = clash (cc)
body_worked RawConstant e = clash (cc)
body_worked RawBootstrap e = clash (cc)
body_worked Version e = clash (cc)
body_worked Texts e = clash (cc)
body_worked Highest e = clash (cc)
body_worked Expression e = (refl, refl)

-- ---- what comes out

module _ (x : ℕ) (l : List ℕ) where
  pub comes_other : eqb x 0x46 ≡ false → comes_out x l ≡ good tt
  unfolding comes_out
  comes_other e = rw (e, comes_out)

  pub comes_worked : eqb x 0x46 ≡ true → comes_out x l ≡ (constant_in (read_expression l) >>= λ _. good tt)
  unfolding comes_out
  comes_worked e = rw (e, comes_out)

  module _ (first : eqb x 0x46 ≡ true) where
    pub out_good : (k : constants.Constant) → good k ≡ constant_as (constant_in (read_expression l)) → comes_out x l ≡ good tt
    unfolding constant_as
    out_good k e = comes_worked first ∙ ways (constant_in (read_expression l)) e
      where
        ways : (r : Result ℕ (Number × ℕ)) → good k ≡ constant_as r → ◌≡◌ {A = Result ℕ (Unit {0})} (r >>= λ _. good tt) (good tt)
        ways (good n) e = refl
        ways (bad code) e = clash (cc)

    pub out_bad : (code : ℕ) → bad code ≡ constant_as (constant_in (read_expression l)) → comes_out x l ≡ bad code
    unfolding constant_as
    out_bad code e = comes_worked first ∙ ways (constant_in (read_expression l)) e
      where
        ways : (r : Result ℕ (Number × ℕ)) → bad code ≡ constant_as r → ◌≡◌ {A = Result ℕ (Unit {0})} (r >>= λ _. good tt) (bad code)
        ways (good n) e = clash (cc)
        ways (bad other) e = let same : other ≡ code = cc in rw same

  -- a definition stands if it comes out and is read
  pub formed_passed : comes_out x l ≡ good tt → formed_definition x l ≡ read_definition x l
  unfolding formed_definition
  formed_passed e = rw (e, formed_definition)

  pub formed_was : (r : Definition (List ℕ) × List ℕ) → formed_definition x l ≡ some r → (comes_out x l ≡ good tt) × (read_definition x l ≡ some r)
  unfolding formed_definition
  formed_was r e = ways (comes_out x l) refl e
    where
      ways :
          (o : Result ℕ (Unit {0})) → comes_out x l ≡ o → elim o [ good u ↦ read_definition x l | bad code ↦ none ] ≡ some r →
          (comes_out x l ≡ good tt) × (read_definition x l ≡ some r)
      ways (good u) t e = (t, e)
      ways (bad code) t e = none≢some e

  -- and so does what the form pass takes
  pub formed_stands : (n : Counts) (r : Definition (List ℕ) × List ℕ) → form_definition n x l ≡ good r → formed_definition x l ≡ some r
  unfolding form_definition
  formed_stands n r e = formed_passed out ∙ formed_read n x l r e
    where
      out : comes_out x l ≡ good tt
      out =
          good_then {C = comes_out x l ≡ good tt} (whole (read_definition x l)) _ r e λ a _ q.
          good_then {C = comes_out x l ≡ good tt} (may_stand n a.0) _ r q λ _ _ q.
          good_then {C = comes_out x l ≡ good tt} (unless (has_room n a.0) 5) _ r q λ _ _ q.
          good_then {C = comes_out x l ≡ good tt} (unless (cites_earlier n a.0) 4) _ r q λ _ _ q.
          good_then {C = comes_out x l ≡ good tt} (comes_out x l) _ r q λ u t _. t

-- ---- the constant that it is

-- the entry at a place p behind a 46 is the constant that the expression there comes to, which ends at next
pub record WorkedIs (s : List ℕ) (p : ℕ) (e : Entry (List ℕ) Reference) (next : ℕ) : Type 0 where
  pub what : expressions.Expression
  pub read : read_expression (drop p s) ≡ some (some what, drop next s)
  pub number : Number × ℕ
  pub folds : folded (some what) ≡ good number
  pub is : e ≡ as_constant number

folded-what : (x : Option expressions.Expression) (n : Number × ℕ) → folded x ≡ good n → (e : expressions.Expression) × (x ≡ some e)
unfolding folded
folded-what none n h = bad≢good h
folded-what (some e) n h = (e, refl)

pub worked-is :
    (s : List ℕ) (first p next : ℕ) (e : Entry (List ℕ) Reference) (x : Option expressions.Expression) → eqb first 0x46 ≡ true → comes_out first (drop p s) ≡ good tt →
    read_expression (drop p s) ≡ some (x, drop next s) → e ≡ worked_out (folded x) → WorkedIs s p e next
unfolding constant_in worked_out
worked-is s first p next e x t out read is =
    good_then (constant_in (read_expression (drop p s))) (λ _. good tt) tt (sym (comes_worked first (drop p s) t) ∙ out) λ n h _.
    let good-number : folded x ≡ good n = sym (ap constant_in read) ∙ h in
    let w = folded-what x n good-number in
    record {
      what = w.0;
      read = read ∙ ap (λ y. some (y, drop next s)) w.1;
      number = n;
      folds = sym (ap folded w.1) ∙ good-number;
      is = is ∙ ap worked_out good-number;
    }

-- numbers are constants of a literal alone
pub number-table : (k : Number) → kind_of (tag_of k) ≡ constant
unfolding kind_of tag_of
number-table int = refl
number-table float = refl
number-table long = refl
number-table double = refl

pub number-body : (k : Number) → lookup (tag_of k) bodies ≡ some (of_entry (bits (size_of k) ∷ []))
unfolding lookup bodies shapes tag_of
number-body int = refl
number-body float = refl
number-body long = refl
number-body double = refl

pub number-no_text : (k : Number) → eqb (tag_of k) 1 ≡ false
unfolding tag_of
number-no_text int = refl
number-no_text float = refl
number-no_text long = refl
number-no_text double = refl

pub worked-table : (r : Result ℕ (Number × ℕ)) → kind_of (worked_out r).tag ≡ constant
unfolding worked_out as_constant
worked-table (good n) = number-table n.0
worked-table (bad code) = number-table int

pub worked-bare : (r : Result ℕ (Number × ℕ)) → (worked_out r).kids ≡ []
unfolding worked_out as_constant
worked-bare (good n) = refl
worked-bare (bad code) = refl
