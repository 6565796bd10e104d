-- How the records of a job, the form pass and a whole run end: what they give out and leave. Assumes nothing.
use mathlib.Core.Bool.{true, false}
use mathlib.Core.List.{List, ◌∷◌, map}
use mathlib.Core.Path.{◌≡◌, refl, sym, ap, subst, ◌∙◌}
use Prim.Native.Nat.{ℕ, zero, suc, ◌+◌, ◌*◌, ◌/◌, ◌≤◌, ◌<◌}
use lib.Dec.{eqb}
use lib.ListN.{length, length-map, replicate}
use borrow.Author.Tests.{le-leb, lt-leb, eq-eqb, ne_eqb}
use Rattle.definition.specs.Basics.{Result, good, bad, Refusal}
use Rattle.definition.specs.Job.{Job}
use Rattle.definition.specs.Form.{form}
use Rattle.definition.specs.Numbering.{top_of, literals, numbered}
use Rattle.definition.specs.Slots.{Gap}
use Rattle.definition.specs.Layout.{Layout, layout}
use Rattle.definition.specs.Run.{Built, render, Memory, lent_of, longest_job, enough, refusal_of, untouched, cleared_after, output_after, memory_after}
use Rattle.facts.proofs.Lists.{clash}
use Rattle.laws.specs.Statements.{IsBytes}
use Rattle.laws.proofs.Runs.FuelLasts.{fuel_lasts}
use Rattle.job.specs.declared.JobCounts.{JobCounts}
use Rattle.job.specs.Forms.{counts_of, formed_of}
use Rattle.store.specs.Store.{Store}
use Rattle.store.specs.JobIn.{WellFormed, job_in, definitions_in, counts_in}
use Rattle.store.proofs.Bounds.{formed_job}
use Rattle.definitions.specs.Defining.{place_count}
use Rattle.slots.specs.Gaps.{gap_of, no_gap}
use Rattle.builder.specs.Rendered.{Rendered}
use Rattle.std.specs.Prelude.{Err}
use Rattle.refusal.specs.declared.Refused.{Refused}
use Rattle.refusal.specs.declared.Refusal.TheVariants as refusal
use Rattle.refusal.specs.Numbers.{number}
use Rattle.cpool.specs.Ran.{Outcome, Slices, memory_of, result_of, Ran, told, numbers, is_good, listed, Told}
use Rattle.cpool.specs.Stages.{Outputs, outputs, room_of, fitted, onward, Tells, Gave}
use Rattle.cpool.proofs.Running.{too_long, too_short, goes_on, not-formed, not-laid, laid, onward-room}
use Rattle.cpool.proofs.Telling.{tells_refused}
use Rattle.cpool.proofs.Giving.{gave_refused}
use Rattle.cpool.proofs.Refusals.{clears}

-- the form pass: what it counts are the counts of a well-formed job, what it refuses is refused
module _ (s : List ℕ) where
  job_is : (job : Job (List ℕ)) → form s ≡ good job → job_in s ≡ job
  unfolding job_in
  job_is job e = rw (e, job_in)

  counts_go :
      (x : Result Refusal (Job (List ℕ))) (c : JobCounts) → form s ≡ x → good c ≡ formed_of x → length s ≤ longest_job →
      WellFormed s × (c ≡ counts_in s)
  unfolding formed_of WellFormed counts_in definitions_in
  counts_go (good job) c e h short =
      let is : c ≡ counts_of job.definitions (length job.requests) = cc in
      (((job, e), short), is ∙ ap (λ (x : Job (List ℕ)). counts_of x.definitions (length x.requests)) (sym (job_is job e)))
  counts_go (bad x) c e h short = clash (cc)

  pub counted : (c : JobCounts) → good c ≡ formed_of (form s) → length s ≤ longest_job → WellFormed s × (c ≡ counts_in s)
  counted c h short = counts_go (form s) c refl h short

  refused_go : (x : Result Refusal (Job (List ℕ))) (r : Refusal) → bad r ≡ formed_of x → x ≡ bad r
  unfolding formed_of
  refused_go (good job) r h = clash (cc)
  refused_go (bad x) r h = let e : r ≡ x = cc in ap bad (sym e)

  pub gave_unformed :
      (o : Outputs) (r : Refused) → bad (record { code = number r.refusal; place = r.place }) ≡ formed_of (form s) → Gave (onward (room_of o) s) o o (Err r)
  gave_unformed o r h =
      gave_refused _ o _ _ (not-formed (room_of o) s _ (refused_go (form s) _ h)) (tells_refused r.refusal r.place)

-- the records in turn: a refusal, or what is given out
module _ (s : List ℕ) (well : WellFormed s) (o : Outputs) (r : Outcome) where
  pub gave_unlaid :
      (x : Refusal) → layout (top_of (job_in s)) (numbered (job_in s)) ≡ bad x → Tells (bad x) r → Gave (onward (room_of o) s) o o r
  gave_unlaid x e t = gave_refused _ o r x (not-laid (room_of o) s (job_in s) x (formed_job s well) e) t

  pub gave_laid :
      (p : List ℕ) (u : Store) (l : Layout) (after : Outputs) → layout (top_of (job_in s)) (numbered (job_in s)) ≡ good l →
      Rendered s p u (render (literals (job_in s)) l) → Gave (fitted (room_of o) (place_count u) (render (literals (job_in s)) l)) o after r →
      Gave (onward (room_of o) s) o after r
  gave_laid p u l after e h g = rw (laid (room_of o) s (job_in s) l (formed_job s well) e) (rw h.place at g)

-- THE WHOLE RUN

-- blank rows are gaps of zeros
blank_rows : (n : ℕ) → map gap_of (replicate n no_gap) ≡ replicate n (record { first = 0; last = 0 })
unfolding gap_of
blank_rows zero = refl
blank_rows (suc n) = ap (λ l. record { first = 0; last = 0 } ∷ l) (blank_rows n)

-- lent memory afterwards, by whether it is untouched
module _ {A : Type 0} (blank : A) (result : Result Refusal Built) (l : List A) where
  pub cleared_left : untouched result ≡ true → cleared_after blank result l ≡ l
  unfolding cleared_after
  cleared_left u = rw (u, cleared_after)

  pub cleared_blank : untouched result ≡ false → cleared_after blank result l ≡ replicate (length l) blank
  unfolding cleared_after
  cleared_blank u = rw (u, cleared_after)

memory_left : (x : Refusal) (m : Memory) → untouched (bad x) ≡ true → m ≡ memory_after (bad x) m
unfolding memory_after output_after
memory_left x m u = λ i. record {
  work = sym (cleared_left 0 (bad x) m.work u) i;
  gaps = sym (cleared_left (record { first = 0; last = 0 }) (bad x) m.gaps u) i;
  answers = m.answers;
  marks = m.marks;
  pool = m.pool;
  bootstraps = m.bootstraps;
  class = m.class;
}

module _ (s : List ℕ) (m : Slices) where
  -- 1 and 2 touch nothing
  ran_untouched : (x : Refusal) (r : Outcome) → result_of s m ≡ bad x → untouched (bad x) ≡ true → Tells (bad x) r → Ran s m m r
  ran_untouched x r e u t =
      record {
        case = rw e t.case;
        numbers = rw e t.numbers;
        memory = rw e (memory_left x (memory_of m) u);
        rows = rw e (sym (cleared_left no_gap (bad x) m.rows u));
      }

  pub ran_long : longest_job < length s → Ran s m m (Err (record { refusal = refusal.JobTooLong; place = 0 }))
  unfolding untouched result_of number
  ran_long h = ran_untouched _ _ (too_long _ s h) refl (tells_refused refusal.JobTooLong 0)

  -- the table's rows are as many as its gaps
  words_few : length m.work < 6 * length s + 1024 → enough (length s) (lent_of (memory_of m)) ≡ false
  unfolding enough lent_of memory_of
  words_few h = rw (lt-leb (6 * length s + 1024) (length m.work) h)

  gaps_few : 6 * length s + 1024 ≤ length m.work → length m.rows < length s / 5 + 2 → enough (length s) (lent_of (memory_of m)) ≡ false
  unfolding enough lent_of memory_of
  gaps_few w h =
      rw (le-leb (6 * length s + 1024) (length m.work) w, length-map m.rows gap_of) (lt-leb (length s / 5 + 2) (length m.rows) h)

  all_enough : 6 * length s + 1024 ≤ length m.work → length s / 5 + 2 ≤ length m.rows → enough (length s) (lent_of (memory_of m)) ≡ true
  unfolding enough lent_of memory_of
  all_enough w h =
      rw (le-leb (6 * length s + 1024) (length m.work) w, length-map m.rows gap_of) (le-leb (length s / 5 + 2) (length m.rows) h)

  ran_short : length s ≤ longest_job → enough (length s) (lent_of (memory_of m)) ≡ false → Ran s m m (Err (record { refusal = refusal.LentTooShort; place = 0 }))
  unfolding untouched result_of number
  ran_short h e = ran_untouched _ _ (too_short _ s h e) refl (tells_refused refusal.LentTooShort 0)

  pub ran_few_words : length s ≤ longest_job → length m.work < 6 * length s + 1024 → Ran s m m (Err (record { refusal = refusal.LentTooShort; place = 0 }))
  ran_few_words h w = ran_short h (words_few w)

  pub ran_few_gaps :
      length s ≤ longest_job → 6 * length s + 1024 ≤ length m.work → length m.rows < length s / 5 + 2 → Ran s m m (Err (record { refusal = refusal.LentTooShort; place = 0 }))
  ran_few_gaps h w g = ran_short h (gaps_few w g)

  -- every other ending clears work and gaps
  abbrev before : Outputs
  before = outputs m.answers m.marks m.pool m.bootstraps m.class

  memory_cleared :
      (result : Result Refusal Built) (after : Slices) (r : Outcome) → untouched result ≡ false →
      Gave result before (outputs after.answers after.marks after.pool after.bootstraps after.class) r →
      after.work ≡ replicate (length m.work) 0 → after.rows ≡ replicate (length m.rows) no_gap →
      memory_of after ≡ memory_after result (memory_of m)
  unfolding memory_of memory_after
  memory_cleared result after r u g w h =
      let blank : Gap = record { first = 0; last = 0 } in
      let gaps : map gap_of after.rows ≡ cleared_after blank result (map gap_of m.rows) =
      ap (map gap_of) h ∙ blank_rows (length m.rows) ∙ ap (λ n. replicate n blank) (sym (length-map m.rows gap_of)) ∙ sym (cleared_blank blank result (map gap_of m.rows) u) in
      λ i. record {
        work = (w ∙ sym (cleared_blank 0 result m.work u)) i;
        gaps = gaps i;
        answers = g.answers i;
        marks = g.marks i;
        pool = g.pool i;
        bootstraps = g.bootstraps i;
        class = g.class i;
      }

  pub ran_on :
      (after : Slices) (r : Outcome) → IsBytes s → length s ≤ longest_job → 6 * length s + 1024 ≤ length m.work → length s / 5 + 2 ≤ length m.rows →
      Gave (onward (room_of before) s) before (outputs after.answers after.marks after.pool after.bootstraps after.class) r →
      after.work ≡ replicate (length m.work) 0 → after.rows ≡ replicate (length m.rows) no_gap → Ran s m after r
  unfolding result_of
  ran_on after r are short words gaps g w h =
      let is : result_of s m ≡ onward (room_of before) s = goes_on (lent_of (memory_of m)) s short (all_enough words gaps) ∙ onward-room m s in
      let u : untouched (onward (room_of before) s) ≡ false =
      subst (λ x. untouched x ≡ false) is (clears (lent_of (memory_of m)) s are short (all_enough words gaps)) in
      record {
        case = rw is g.tells.case;
        numbers = rw is g.tells.numbers;
        memory = rw is (memory_cleared (onward (room_of before) s) after r u g w h);
        rows = rw is (h ∙ sym (cleared_blank no_gap (onward (room_of before) s) m.rows u));
      }

  -- FOR RUST AND C: 0 tells that the job is built, since no refusal has that number
  built_is : (x : Result Refusal Built) (code : ℕ) → IsBytes s → result_of s m ≡ x → code ≡ (numbers x).code → eqb code 0 ≡ is_good x
  unfolding result_of numbers refusal_of is_good
  built_is (good b) code are e n = eq-eqb code 0 n
  built_is (bad x) code are e n = ne_eqb code 0 (λ z. fuel_lasts s (lent_of (memory_of m)) x are e (sym n ∙ z))

  pub told-run :
      (after : Slices) (r : Outcome) (code : ℕ) (written : List ℕ) → IsBytes s → Ran s m after r → code ≡ (told r).code →
      written ≡ listed (told r) → Told s m after code written
  told-run after r code written are h ec ew =
      let number : code ≡ (numbers (result_of s m)).code = ec ∙ ap (λ n. n.code) h.numbers in
      record {
        number = number;
        case = built_is (result_of s m) code are refl number;
        written = ew ∙ ap listed h.numbers;
        memory = h.memory;
        rows = h.rows;
      }
