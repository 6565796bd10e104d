-- Giving out: what fits, by what was measured, and what each case leaves in the outputs. Assumes nothing.
use mathlib.Core.Bool.{Bool, true, false, ◌&&◌}
use mathlib.Core.List.{List}
use mathlib.Core.Path.{◌≡◌, sym, ap, subst, ◌∙◌}
use Prim.Native.Nat.{ℕ, ◌≤◌, ◌<◌}
use lib.Dec.{leb}
use lib.ListN.{length}
use borrow.Author.Tests.{leb-true, le-leb, lt-leb}
use Rattle.definition.specs.Basics.{Result, good, bad, Refusal}
use Rattle.definition.specs.Run.{Built, class_out, fits, overwrite, output_after}
use Rattle.facts.proofs.Lists.{both_true}
use Rattle.facts.proofs.Results.{passes, refuses}
use Rattle.store.specs.Store.{size, store}
use Rattle.store.specs.Regions.{ANSWERS, ORIGINS, Work}
use Rattle.store.proofs.Stores.{length-store}
use Rattle.store.proofs.Laying.{work-sizes}
use Rattle.std.specs.Prelude.{Option as Maybe}
use Rattle.output.specs.declared.ClassName.{ClassName}
use Rattle.output.specs.Contents.{pool_in}
use Rattle.output.specs.Rows.{rows_in, constants_for}
use Rattle.output.specs.Names.{NameIs, class_in}
use Rattle.builder.specs.Rendered.{Rendered}
use Rattle.cpool.specs.Ran.{Outcome}
use Rattle.cpool.specs.Stages.{Outputs, room_of, fitted, Tells, Gave}

-- one test of room behind the other
pub no_room : (a n : ℕ) (rest : Bool) → n < a → false ≡ (leb a n && rest)
no_room a n rest h = rw (lt-leb a n h)

pub room_then : (a n : ℕ) (x rest : Bool) → a ≤ n → x ≡ rest → x ≡ (leb a n && rest)
room_then a n x rest h e = rw (le-leb a n h) e

-- all five hold
pub record Room (a p b c : ℕ) (o : Outputs) : Type 0 where
  pub answers : a ≤ length o.answers
  pub marks : a ≤ length o.marks
  pub pool : p ≤ length o.pool
  pub bootstraps : b ≤ length o.bootstraps
  pub class : c ≤ length o.class

module _ (o : Outputs) (asked pool rows class : ℕ) where
  abbrev pub AllFit : Bool
  AllFit =
      leb asked (length o.answers)
      && (leb asked (length o.marks)
      && (leb pool (length o.pool) && (leb rows (length o.bootstraps) && leb class (length o.class))))

  pub room_each : AllFit ≡ true → Room asked pool rows class o
  room_each e =
      let first = both_true _ _ e in
      let second = both_true _ _ first.1 in
      let third = both_true _ _ second.1 in
      let fourth = both_true _ _ third.1 in
      record {
        answers = leb-true _ _ first.0;
        marks = leb-true _ _ second.0;
        pool = leb-true _ _ third.0;
        bootstraps = leb-true _ _ fourth.0;
        class = leb-true _ _ fourth.1;
      }

-- a refusal leaves the outputs as they were
pub gave_refused : (result : Result Refusal Built) (o : Outputs) (r : Outcome) (x : Refusal) → result ≡ bad x → Tells (bad x) r → Gave result o o r
unfolding output_after
gave_refused result o r x e t = record { tells = rw e t; answers = rw e; marks = rw e; pool = rw e; bootstraps = rw e; class = rw e }

-- the words give b, and were measured
module _ (s p w : List ℕ) (b : Built) (h : Rendered s p (store p w) b) where
  pub asked_is : (n : ℕ) → n ≡ size p ANSWERS → n ≡ length b.answers
  asked_is n e = e ∙ sym (length-store p w ANSWERS) ∙ ap length h.answers

  -- a mark for each answer
  pub marks_room : Work s p → (n : ℕ) → n ≡ size p ANSWERS → size p ORIGINS ≡ n
  marks_room work n e = (work-sizes s p work).origins ∙ sym (work-sizes s p work).answers ∙ sym e

  pub marked-is : Work s p → (n : ℕ) → n ≡ size p ANSWERS → n ≡ length b.marks
  marked-is work n e = sym (marks_room work n e) ∙ sym (length-store p w ORIGINS) ∙ ap length h.marks

  pub pool_is : (n : ℕ) → n ≡ length (pool_in s (store p w)) → n ≡ length b.pool
  pool_is n e = e ∙ ap length h.pool

  pub rows_are : (n : ℕ) → n ≡ length (rows_in (constants_for p) (store p w)) → n ≡ length b.bootstraps
  rows_are n e = e ∙ ap length h.bootstraps

  -- so is the class name
  pub name_is : (c : Maybe ClassName) → NameIs s c (class_in s (store p w)) → NameIs s c b.class
  name_is c n = subst (λ o. NameIs s c o) h.class n

  pub class_is : (n : ℕ) → n ≡ length (class_out (class_in s (store p w))) → n ≡ length (class_out b.class)
  class_is n e = e ∙ ap (λ c. length (class_out c)) h.class

  module _ (work : Work s p) (o : Outputs) (place : ℕ) (r : Outcome) (asked pool rows class : ℕ) (x : Bool) (tested : x ≡ AllFit o asked pool rows class)
      (ea : asked ≡ size p ANSWERS) (ep : pool ≡ length (pool_in s (store p w))) (er : rows ≡ length (rows_in (constants_for p) (store p w)))
      (ec : class ≡ length (class_out (class_in s (store p w)))) where
    fits-is : fits b (room_of o) ≡ x
    unfolding fits room_of
    fits-is =
        sym (tested ∙ λ i.
        leb (asked_is asked ea i) (length o.answers)
        && (leb (marked-is work asked ea i) (length o.marks)
        && (leb (pool_is pool ep i) (length o.pool) && (leb (rows_are rows er i) (length o.bootstraps) && leb (class_is class ec i) (length o.class)))))

    -- 18
    pub gave_none : x ≡ false → Tells (bad (record { code = 18; place = place })) r → Gave (fitted (room_of o) place b) o o r
    unfolding fitted
    gave_none e t = gave_refused _ o r _ (refuses place 18 (good b) _ (fits-is ∙ e)) t

    -- all of it
    pub gave_all :
        (after : Outputs) → x ≡ true → Tells (good b) r → after.answers ≡ overwrite (store p w ANSWERS) o.answers →
        after.marks ≡ overwrite (store p w ORIGINS) o.marks →
        after.pool ≡ overwrite (pool_in s (store p w)) o.pool →
        after.bootstraps ≡ overwrite (rows_in (constants_for p) (store p w)) o.bootstraps →
        after.class ≡ overwrite (class_out (class_in s (store p w))) o.class → Gave (fitted (room_of o) place b) o after r
    unfolding fitted output_after
    gave_all after e t answers marks pool bootstraps class =
        let is = passes place 18 (good b) _ (fits-is ∙ e) in
        record {
          tells = rw is t;
          answers = rw is (answers ∙ ap (λ l. overwrite l o.answers) h.answers);
          marks = rw is (marks ∙ ap (λ l. overwrite l o.marks) h.marks);
          pool = rw is (pool ∙ ap (λ l. overwrite l o.pool) h.pool);
          bootstraps = rw is (bootstraps ∙ ap (λ l. overwrite l o.bootstraps) h.bootstraps);
          class = rw is (class ∙ ap (λ c. overwrite (class_out c) o.class) h.class);
        }
