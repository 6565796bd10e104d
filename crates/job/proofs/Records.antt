-- Skipping a definition does as the definition's reader of it. Assumes nothing.
use mathlib.Core.Bool.{Bool, true}
use mathlib.Core.List.{List}
use mathlib.Core.Option.{none, some}
use mathlib.Core.Path.{◌≡◌, refl, sym, ap}
use Rattle.std.specs.Prelude as std
use Rattle.std.specs.Prelude.{Some, None}
use Prim.Native.Nat.{ℕ, ◌+◌, ◌-◌, ◌≤◌, ◌<◌}
use native.Mathlib.Omega.{arith}
use lib.Dec.{ltb}
use lib.ListN.{length, drop}
use Rattle.definition.specs.Basics.{every}
use Rattle.definition.specs.Bytes.{return, ◌>>=◌, two}
use Rattle.definition.specs.Expression.{read_expression}
use Rattle.definition.specs.Value.{folded}
use Rattle.definition.specs.Settings.{Setting}
use Rattle.definition.specs.Shapes.{Kind, Field, read_entry}
use Rattle.definition.specs.Job.{define, named, placed, setting, of_entry, of_name, of_raw, of_expression, of_number, of_nothing, worked_out, short_name, reference, read_body}
use Rattle.definition.specs.Form.{Counts, count_of, cites, cites_earlier}
use Rattle.job.specs.declared.Skipped.{Skipped}
use Rattle.job.specs.Forms.{Read, Skips, SkipsEntry, SkipsDefinition, kids_in}
use Rattle.folding.specs.Folding.{Ends}
use Rattle.job.proofs.Expressions.{worked-bare}
use Rattle.job.proofs.Laws.{number, two-cut, then_two, mapped}

module _ (s : List ℕ) (at : ℕ) where
  pub whole-expression : (next : ℕ) → Ends s at next → Skips read_expression (λ _. true) (λ _. 0) s at (Some (record { next = next; cited = true; references = 0 }))
  whole-expression next v =
      record { value = some v.what; read = v.read; past = omega (arith, v.past); within = v.within; cites = refl; count = refl }

  pub bad_expression :
      (next : ℕ) → read_expression (drop at s) ≡ some (none, drop next s) → at < next → next ≤ length s →
      Skips read_expression (λ _. true) (λ _. 0) s at (Some (record { next = next; cited = true; references = 0 }))
  bad_expression next read past within =
      record { value = none; read = read; past = omega arith; within = within; cites = refl; count = refl }

module _ (n : Counts) (s : List ℕ) (at : ℕ) where
  pub entry_to : (fields : List Field) (r : std.Option Skipped) → SkipsEntry n fields s at r → SkipsDefinition n (some (of_entry fields)) s at r
  unfolding read_body cites_earlier kids_in
  entry_to fields r v =
      λ first.
      mapped (read_entry reference first fields) define (λ e. every (cites n) e.kids) (λ e. length e.kids) (cites_earlier n) kids_in s at r
      (λ e. refl)
      (λ e. refl)
      (v first)

  pub unknown_cut : SkipsDefinition n none s at None
  unfolding read_body
  unknown_cut = λ first. refl

  -- ---- a setting, with a number and without

  pub number-to : (rule : ℕ → Setting) (r : std.Option Skipped) → Skips two (λ _. true) (λ _. 0) s at r → SkipsDefinition n (some (of_number rule)) s at r
  unfolding read_body cites_earlier kids_in
  number-to rule r v =
      λ first. mapped two (λ m. setting (rule m)) (λ _. true) (λ _. 0) (cites_earlier n) kids_in s at r (λ m. refl) (λ m. refl) v

  pub nothing_to : (rule : Setting) → at ≤ length s → SkipsDefinition n (some (of_nothing rule)) s at (Some (record { next = at; cited = true; references = 0 }))
  unfolding read_body cites_earlier kids_in
  nothing_to rule low = λ first. record { value = setting rule; read = refl; past = omega arith; within = low; cites = refl; count = refl }

  -- ---- an expression

  pub expression-to : (r : std.Option Skipped) → Skips read_expression (λ _. true) (λ _. 0) s at r → SkipsDefinition n (some of_expression) s at r
  unfolding read_body cites_earlier kids_in every
  expression-to r v =
      λ first.
      mapped read_expression (λ x. define (worked_out (folded x))) (λ _. true) (λ _. 0) (cites_earlier n) kids_in s at r
      (λ x. sym (ap (every (cites n)) (worked-bare (folded x))))
      (λ x. sym (ap length (worked-bare (folded x))))
      v

  module _ (kind : Kind) where
    -- ---- a name and what it stands for

    pub name_cut : short_name (drop at s) ≡ none → SkipsDefinition n (some (of_name kind)) s at None
    unfolding read_body
    name_cut h = λ first. rw h

    module _ (next : ℕ) (cited : Bool) (references : ℕ) (label : Read short_name (λ _. true) (λ _. 0) s at next cited references) where
      pub naming_to :
          (end : ℕ) (cited₂ : Bool) (references₂ : ℕ) →
          Read (reference kind) (cites n) (λ _. 1) s next end cited₂ references₂ →
          SkipsDefinition n (some (of_name kind)) s at (Some (record { next = end; cited = cited₂; references = 0 }))
      unfolding read_body cites_earlier kids_in
      naming_to end cited₂ references₂ v =
          λ first.
          record {
            value = named kind label.value v.value;
            read = rw (label.read, v.read);
            past = omega (arith, label.past, v.past);
            within = v.within;
            cites = v.cites;
            count = refl;
          }

      pub naming_cut : reference kind (drop next s) ≡ none → SkipsDefinition n (some (of_name kind)) s at None
      unfolding read_body
      naming_cut h = λ first. rw (label.read, h)

    -- ---- a slot or an index, and an entry's number

    pub placing_to :
        (entries : ℕ) (r : std.Option Skipped) →
        count_of kind n ≡ entries →
        at + 2 ≤ length s →
        Skips two (λ m. ltb m entries) (λ _. 0) s (at + 2) r →
        SkipsDefinition n (some (of_raw kind)) s at r
    unfolding read_body cites_earlier kids_in
    placing_to entries r e h v =
        λ first.
        then_two (cites_earlier n) kids_in s at (λ slot. two >>= λ m. return (placed kind slot m)) r h
        (mapped two (placed kind (number s at)) (λ m. ltb m entries) (λ _. 0) (cites_earlier n) kids_in s (at + 2) r (λ m. rw e) (λ m. refl) v)

    pub placing_cut : length s - at < 2 → SkipsDefinition n (some (of_raw kind)) s at None
    unfolding read_body
    placing_cut h = λ first. rw (two-cut s at h)
