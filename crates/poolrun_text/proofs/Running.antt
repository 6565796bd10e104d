-- What is printed of a run over `poolrun_lent`'s memory is what the definition prints of it. Assumes nothing.
use mathlib.Core.Bool.{true, false}
use mathlib.Core.List.{List, [], ◌∷◌, map}
use mathlib.Core.Option.{Option, none, some}
use mathlib.Core.Path.{◌≡◌, refl, sym, ap, ◌∙◌}
use Prim.Native.Nat.{ℕ, suc, ◌≤◌}
use native.Mathlib.Omega.{arith}
use lib.Dec.{eqb}
use lib.ListN.{length, take, drop, replicate, length-append, length-replicate}
use lib.Seq.{length-take-le}
use Rattle.definition.specs.Basics.{good}
use Rattle.definition.specs.Run.{Lent, lent_of, run, returned, class_out, overwrite}
use Rattle.definition.specs.Blocks.{printed, poolrun_lent}
use Rattle.slots.specs.declared.Gap.{Gap}
use Rattle.slots.specs.Gaps.{gap_of}
use Rattle.std.specs.Prelude as prelude
use Rattle.std.specs.Prelude.{Ok, Err, None, Some}
use Rattle.refusal.specs.declared.Refused.{Refused}
use Rattle.refusal.specs.Numbers.{number}
use Rattle.cpool.specs.declared.Built as code
use Rattle.cpool.specs.Ran.{Numbers, told, is_built, given, bytes_of, class_size, numbers, Slices, memory_of, result_of, Ran}
use Rattle.cpool.specs.Promises.{handed}
use Rattle.cpool.proofs.Handed.{numbers-built, answers_built, marks_built, marks_many, pool_built, bootstraps_built, class_built, built_result, refused_result}
use Rattle.poolrun_text.specs.Text.{built_text, name_of, text_of, Room, Fits, Lengths}
use Rattle.poolrun_text.proofs.Texts.{refused_is}

-- the class name as it is handed
name_is : (size : prelude.Option ℕ) (class : List ℕ) → elim (eqb (given size) 1) [ true ↦ some (take (bytes_of size) class) | false ↦ none ] ≡ name_of size class
unfolding given bytes_of name_of
name_is None class = refl
name_is (Some n) class = refl

-- the text of what stands in the outputs
pub text_ran :
    (job : List ℕ) (before after : Slices) (r : prelude.Result code.Built Refused) → Ran job before after r →
    text_of r after.answers after.marks after.pool after.bootstraps after.class ≡ printed (result_of job before)
unfolding text_of built_text is_built told handed
text_ran job before after (Ok n) ran =
    let r : prelude.Result code.Built Refused = Ok n in
    ap
    (λ (class : Option (List ℕ)).
    printed
    (good
    (record {
      answers = take n.answers after.answers;
      marks = take n.answers after.marks;
      pool = take n.pool after.pool;
      bootstrap_count = n.bootstrap_count;
      bootstraps = take n.bootstraps after.bootstraps;
      name = n.name;
      class = class;
      visits = n.visits;
    })))
    (sym (name_is n.class_name after.class))
    ∙ ap printed (sym (built_result job before after r ran refl))
text_ran job before after (Err r) ran =
    refused_is (number r.refusal) r.place ∙ ap printed (sym (refused_result job before after (Err r) ran refl))

-- what was written lies inside its output
inside : (new before after : List ℕ) (n : ℕ) → after ≡ overwrite new before → n ≡ length new → n ≤ length after
unfolding overwrite
inside new before after n e m = omega (arith, m, ap length e, length-append new (drop (length new) before))

class_size_lem : (c : Option (List ℕ)) → class_size c ≡ length (class_out c)
unfolding class_size class_out
class_size_lem none = refl
class_size_lem (some s) = refl

pub fits-ran :
    (job : List ℕ) (before after : Slices) (r : prelude.Result code.Built Refused) (out : ℕ) → Ran job before after r → 1245184 ≤ out →
    length after.answers ≤ 32768 → length after.marks ≤ 65536 → length after.pool ≤ 65536 → length after.bootstraps ≤ 65536 → length after.class ≤ 65536 →
    Fits r out (length after.answers) (length after.marks) (length after.pool) (length after.bootstraps) (length after.class)
unfolding Fits is_built told numbers returned
fits-ran job before after (Err r) out ran room a l p s c = omega (arith, room)
fits-ran job before after (Ok m) out ran room a l p s c =
    let r : prelude.Result code.Built Refused = Ok m in
    let b = handed r after in
    let is : result_of job before ≡ good b = built_result job before after r ran refl in
    let n : told r ≡ numbers (good b) = numbers-built job before after r ran b is in
    let asked_in : m.answers ≤ length after.answers =
    inside b.answers before.answers after.answers m.answers (answers_built job before after r ran b is) (ap (λ (k : Numbers). k.answers) n) in
    let marks-in : m.answers ≤ length after.marks =
    inside b.marks before.marks after.marks m.answers (marks_built job before after r ran b is)
    (ap (λ (k : Numbers). k.answers) n ∙ sym (marks_many job before after r ran b is)) in
    let pool-in : m.pool ≤ length after.pool =
    inside b.pool before.pool after.pool m.pool (pool_built job before after r ran b is) (ap (λ (k : Numbers). k.pool) n) in
    let rows_in : m.bootstraps ≤ length after.bootstraps =
    inside b.bootstraps before.bootstraps after.bootstraps m.bootstraps (bootstraps_built job before after r ran b is) (ap (λ (k : Numbers). k.bootstraps) n) in
    let class-in : bytes_of m.class_name ≤ length after.class =
    inside
    (class_out b.class)
    before.class
    after.class
    (bytes_of m.class_name)
    (class_built job before after r ran b is)
    (ap (λ (k : Numbers). k.class_bytes) n ∙ class_size_lem b.class) in
    (asked_in, marks-in, pool-in, rows_in, record { marks_are = refl; out_room = omega (arith, room, asked_in, pool-in, rows_in, class-in, a, p, s, c); class_room = class-in })

-- the room of what is cut out of the outputs
pub room_cut :
    {out asked poolSize rowsSize size class : ℕ} (answers marks pool bootstraps : List ℕ) → asked ≤ length answers → asked ≤ length marks → poolSize ≤ length pool →
    rowsSize ≤ length bootstraps → Room out asked asked poolSize rowsSize size class →
    Room out (length (take asked answers)) (length (take asked marks)) (length (take poolSize pool)) (length (take rowsSize bootstraps)) size class
room_cut {out} {asked} {poolSize} {rowsSize} {size} {class} answers marks pool bootstraps a l p s room =
    record {
      marks_are = length-take-le asked marks l ∙ sym (length-take-le asked answers a);
      out_room =
          omega
          (arith, room.out_room, length-take-le asked answers a, length-take-le poolSize pool p, length-take-le rowsSize bootstraps s);
      class_room = room.class_room;
    }

length-map : {A B : Type 0} (f : A → B) (l : List A) → length (map f l) ≡ length l
length-map f [] = refl
length-map f (x ∷ l) = ap (λ (n : ℕ). suc n) (length-map f l)

-- arrays of the lengths that the program lends
pub lengths_lent :
    (gap : Gap) →
    Lengths
    (length (replicate {0} {A = ℕ} 16384 0))
    (length (replicate {0} {A = Gap} 514 gap))
    (length (replicate {0} {A = ℕ} 32768 0))
    (length (replicate {0} {A = ℕ} 65536 0))
    (length (replicate {0} {A = ℕ} 65536 0))
    (length (replicate {0} {A = ℕ} 65536 0))
    (length (replicate {0} {A = ℕ} 65536 0))
lengths_lent gap =
    let long : length (replicate {0} {A = ℕ} 65536 0) ≡ 65536 = length-replicate {0} {A = ℕ} 65536 0 in
    record {
      work-is = length-replicate {0} {A = ℕ} 16384 0;
      gaps_is = length-replicate {0} {A = Gap} 514 gap;
      answers_is = length-replicate {0} {A = ℕ} 32768 0;
      marks_is = long;
      pool_is = long;
      bootstraps_is = long;
      class_is = long;
    }

-- memory of those lengths is what the program lends
pub lent_is :
    (before : Slices) →
    Lengths
    (length before.work)
    (length before.rows)
    (length before.answers)
    (length before.marks)
    (length before.pool)
    (length before.bootstraps)
    (length before.class) →
    lent_of (memory_of before) ≡ poolrun_lent
unfolding lent_of memory_of poolrun_lent
lent_is before l =
    let g : length (map gap_of before.rows) ≡ 514 = length-map gap_of before.rows ∙ l.gaps_is in
    λ i.
    record {
      work = l.work-is i;
      gaps = g i;
      answers = l.answers_is i;
      marks = l.marks_is i;
      pool = l.pool_is i;
      bootstraps = l.bootstraps_is i;
      class = l.class_is i;
    }

pub text_over :
    (job : List ℕ) (before after : Slices) (r : prelude.Result code.Built Refused) → Ran job before after r →
    Lengths
    (length before.work)
    (length before.rows)
    (length before.answers)
    (length before.marks)
    (length before.pool)
    (length before.bootstraps)
    (length before.class) →
    text_of r after.answers after.marks after.pool after.bootstraps after.class ≡ printed (run poolrun_lent job)
unfolding result_of
text_over job before after r ran l = text_ran job before after r ran ∙ ap (λ (lent : Lent). printed (run lent job)) (lent_is before l)
