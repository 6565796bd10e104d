-- What was worked out at a stored place: its tag, its words, and where it ends. Assumes nothing.
use mathlib.Core.Bool.{true}
use mathlib.Core.List.{List, [], ◌∷◌}
use mathlib.Core.Option.{Option, none, some}
use mathlib.Core.Path.{◌≡◌, refl, sym, ap, ◌∙◌}
use Prim.Native.Nat.{ℕ, ◌+◌, ◌/◌, ◌%◌, ◌≤◌}
use native.Mathlib.Omega.{arith}
use lib.ListN.{length, get_or, drop}
use Rattle.facts.proofs.Lists.{clash, none≢some, some_inj, same_place}
use Rattle.facts.proofs.Results.{good_inj, good_then}
use Rattle.definition.specs.Basics.{good}
use Rattle.definition.specs.Bytes.{be4, be8}
use Rattle.definition.specs.Expression.{Number, int, float, long, double, tag_of, Expression, read_expression, kind_within}
use Rattle.definition.specs.Value.{value, one_kind, folded, bits_bytes, constant_in}
use Rattle.definition.specs.Shapes.{Entry, is_wide}
use Rattle.definition.specs.Job.{Reference, Definition, define, as_constant, read_definition}
use Rattle.folding.specs.declared.Constant.{Constant}
use Rattle.std.specs.Prelude as std
use Rattle.std.specs.Prelude.{Ok, Err}
use Rattle.refusal.specs.Numbers.{answer_of}
use Rattle.refusal.specs.declared.Refusal.{Refusal}
use Rattle.folding.specs.Folding.{constant_as, OfKind, HasKind, TellsKind}
use Rattle.job.specs.Stored.{Found, WhatStands, EntryStands, WhatEntry, any_definition, is_worked, words_bytes}
use Rattle.job.proofs.Expressions.{opens-expression, WorkedIs}
use Rattle.job.proofs.Stepping.{worked-read}
use Rattle.job.proofs.Standing.{definition_read, worked-there}

-- the lower half of a number of four bytes is the number
low-bytes : (b : ℕ) → be4 (b % 4294967296) ≡ be4 b
unfolding be4
low-bytes b =
    let p : b % 4294967296 / 16777216 % 256 ≡ b / 16777216 % 256 = omega arith in
    let q : b % 4294967296 / 65536 % 256 ≡ b / 65536 % 256 = omega arith in
    let r : b % 4294967296 / 256 % 256 ≡ b / 256 % 256 = omega arith in
    let t : b % 4294967296 % 256 ≡ b % 256 = omega arith in
    λ i. p i ∷ q i ∷ r i ∷ t i ∷ []

words_bytes_lem : (k : Number) (b : ℕ) → words_bytes (tag_of k) (b / 4294967296) (b % 4294967296) ≡ bits_bytes k b
unfolding words_bytes tag_of is_wide bits_bytes be8
words_bytes_lem int b = low-bytes b
words_bytes_lem float b = low-bytes b
words_bytes_lem long b = refl
words_bytes_lem double b = refl

-- what folds has a kind
kind_in_lem : (o : Option Number) (n : Number) → one_kind o ≡ good n → o ≡ some n
unfolding one_kind
kind_in_lem none n h = clash (cc)
kind_in_lem (some k) n h = ap some (good_inj h)

folded-kind : (e : Expression) (n : Number × ℕ) → folded (some e) ≡ good n → kind_within 32 e ≡ some n.0
unfolding folded
folded-kind e n h =
    good_then (one_kind (kind_within 32 e)) _ n h λ k t q.
    good_then (value k e) _ n q λ b _ z.
    kind_in_lem (kind_within 32 e) k t ∙ ap (λ (m : Number × ℕ). some m.0) (good_inj z)

module _ (s : List ℕ) (at : ℕ) (worked : is_worked s at ≡ true) where
  there : (e : Entry (List ℕ) Reference) (next : ℕ) → Found any_definition s at (define e) next → WorkedIs s (at + 1) e next
  there e next f = worked-there s at e next f worked

  -- ---- its tag

  of_kind : (e : Entry (List ℕ) Reference) (next : ℕ) (w : WorkedIs s (at + 1) e next) → OfKind s (at + 1) w.number.0
  unfolding read_expression
  of_kind e next w =
      record {
        fuel = length (drop (at + 1) s);
        deep = 32;
        what = w.what;
        rest = drop next s;
        read = w.read;
        within = folded-kind w.what w.number w.folds;
      }

  pub worked-kind : EntryStands s at → HasKind s (at + 1)
  worked-kind h = let w = there h.0 h.1 h.2 in (w.number.0, of_kind h.0 h.1 w)

  pub worked-tag : (r : ℕ) → TellsKind s (at + 1) r → WhatEntry s at (λ e. r ≡ e.tag)
  unfolding as_constant
  worked-tag r told e next f =
      let w = there e next f in
      told w.number.0 (of_kind e next w) ∙ sym (ap (λ (y : Entry (List ℕ) Reference). y.tag) w.is)

  -- ---- its words

  comes_to : (e : Entry (List ℕ) Reference) (next : ℕ) (w : WorkedIs s (at + 1) e next) → constant_in (read_expression (drop (at + 1) s)) ≡ good w.number
  unfolding constant_in
  comes_to e next w = ap constant_in w.read ∙ w.folds

  module _ (c : std.Result Constant Refusal) (told : answer_of c ≡ constant_as (constant_in (read_expression (drop (at + 1) s)))) where
    pub worked-words : (k : Constant) → c ≡ Ok k → WhatEntry s at (λ e. words_bytes e.tag (k.bits / 4294967296) (k.bits % 4294967296) ≡ e.literal)
    unfolding constant_as as_constant answer_of
    worked-words k is e next f =
        let w = there e next f in
        let same : good k ≡ constant_as (good w.number) = ap answer_of (sym is) ∙ told ∙ ap constant_as (comes_to e next w) in
        let number : k.bits ≡ w.number.1 = ap (λ (c : Constant). c.bits) (good_inj same) in
        rw (w.is, number) (words_bytes_lem w.number.0 w.number.1)

    pub worked-never : {X : Type 0} (refusal : Refusal) → c ≡ Err refusal → EntryStands s at → X
    unfolding constant_as answer_of
    worked-never refusal is h =
        let w = there h.0 h.1 h.2 in
        let same = ap answer_of (sym is) ∙ told ∙ ap constant_as (comes_to h.0 h.1 w) in
        clash (cc)

  -- ---- its end

  read_there : (d : Definition (List ℕ)) (next : ℕ) → Found any_definition s at d next → (x : Option Expression) × (read_expression (drop (at + 1) s) ≡ some (x, drop next s))
  unfolding read_definition
  read_there d next f =
      let b = definition_read s at d next f in
      let r = worked-read (get_or s at 0) (drop (at + 1) s) (drop next s) d (rw (opens-expression (get_or s at 0) worked) at b.2) in
      (r.0, r.1)

  -- what was read up to a place ends there
  pub worked-end :
      (x : Option Expression) (end : ℕ) → read_expression (drop (at + 1) s) ≡ some (x, drop end s) → end ≤ length s →
      WhatStands any_definition s at (λ d next. end ≡ next)
  worked-end x end read within d next f =
      same_place s end next within f.within (ap (λ r. r.1) (some_inj (sym read ∙ (read_there d next f).1)))

  pub worked-uncut : {X : Type 0} → read_expression (drop (at + 1) s) ≡ none → EntryStands s at → X
  worked-uncut cut h = none≢some (sym cut ∙ (read_there (define h.0) h.1 h.2).1)
