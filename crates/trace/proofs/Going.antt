-- How the counts and the tables of flags go from step to step. Assumes nothing.
use mathlib.Core.Bool.{Bool, not, ◌&&◌}
use mathlib.Core.List.{List}
use mathlib.Core.Logic.{◌⊎◌, inl, inr}
use mathlib.Core.Path.{◌≡◌, refl, sym, ap, ◌∙◌}
use Prim.Native.Nat.{ℕ, suc, ◌+◌, ◌≤◌, ◌<◌}
use native.Mathlib.Numerals.{add-one}
use native.Mathlib.Omega.{arith}
use lib.Dec.{eqb}
use lib.ListN.{length, get_or, set, length-set}
use lib.Seq.{get_or-set_same, get_or-set_other, ext_get_or}
use Rattle.definition.specs.Basics.{from}
use Rattle.facts.proofs.Lists.{equal}
use Rattle.facts.proofs.Chunks.{length_from, from-get}
use Rattle.trace.specs.declared.Counts.{Counts}
use Rattle.trace.specs.Trace.{how_many, action, expected, slot, steps, right, flag, succeeds, fails, rests, all_clear, report}
use Rattle.trace.specs.Step.{flag_behind, passes_by, one}
use Rattle.trace.specs.Answers.{counted, OneStep}
use Rattle.trace.proofs.Counting.{many_more, many-le, one-le}
use Rattle.trace.proofs.Flags.{flag_first, flag_here, flag_there}

-- what one step's calls give is a step
pub one-step :
    {holds : ℕ → ℕ → Bool} {trace : List ℕ} {i : ℕ} {flags clear flags' clear' : List ℕ} {m : Counts} {a t s : ℕ} {r g b : Bool} →
    s < 65536 → a ≡ action trace i → t ≡ expected trace i → s ≡ slot trace i → r ≡ holds s t →
    (g ≡ passes_by a r (get_or flags s 0)) × (flags' ≡ set flags s (flag_behind a r (get_or flags s 0))) →
    (b ≡ passes_by a r (get_or clear s 0)) × (clear' ≡ set clear s (flag_behind a r (get_or clear s 0))) →
    m.good ≡ one g → m.failed ≡ one (eqb a 0 && not g) → m.rested ≡ one (g && not b) →
    OneStep holds trace i flags clear flags' clear' m
one-step {holds} {trace} {i} {flags} {clear} {flags'} {clear'} {m} {a} {t} {s} {r} {g} {b} small ae te se re ge be mg mf mr = record {
  in_table = omega arith;
  good_is = rw (← is_right, ← ae, ← se) (mg ∙ ap one ge.0);
  failed_is = rw (← is_right, ← ae, ← se) (mf ∙ ap (λ (x : Bool). one (eqb a 0 && not x)) ge.0);
  rested_is = rw (← is_right, ← ae, ← se) (mr ∙ rw (ge.0, be.0));
  flags_are = rw (← is_right, ← ae, ← se) ge.1;
  clear_are = rw (← is_right, ← ae, ← se) be.1;
}
  where
    is_right : r ≡ right holds trace i
    is_right = re ∙ rw (se, te)

module _ (holds : ℕ → ℕ → Bool) (trace : List ℕ) where
  -- a table has the flags before step i
  pub record Table (start : ℕ → ℕ) (l : List ℕ) (i : ℕ) : Type 0 where
    pub size : length l ≡ 65536
    pub has : (s : ℕ) → s < 65536 → get_or l s 0 ≡ flag holds trace start s i

  module _ (start : ℕ → ℕ) (l : List ℕ) where
    table_first : length l ≡ 65536 → ((s : ℕ) → get_or l s 0 ≡ start s) → Table start l 0
    table_first z h = record { size = z; has = λ s _. h s ∙ sym (flag_first holds trace start s) }

    table_more : (i : ℕ) (l' : List ℕ) → Table start l i → slot trace i < 65536 →
        l' ≡ set l (slot trace i) (flag_behind (action trace i) (right holds trace i) (get_or l (slot trace i) 0)) → Table start l' (i + 1)
    table_more i l' t small e = record {
      size = ap length e ∙ simp length-set t.size;
      has = λ s h. rw (e, add-one i) (ways s h (equal s (slot trace i)));
    }
      where
        v : ℕ
        v = flag_behind (action trace i) (right holds trace i) (get_or l (slot trace i) 0)

        here : get_or (set l (slot trace i) v) (slot trace i) 0 ≡ flag holds trace start (slot trace i) (suc i)
        here =
            get_or-set_same l (slot trace i) v 0 (omega (arith, t.size))
            ∙ ap (flag_behind (action trace i) (right holds trace i)) (t.has (slot trace i) small)
            ∙ sym (flag_here holds trace start i)

        ways : (s : ℕ) → s < 65536 → (s ≡ slot trace i) ⊎ (s ≡ slot trace i → ⊥) → get_or (set l (slot trace i) v) s 0 ≡ flag holds trace start s (suc i)
        ways s h (inl same) = rw same here
        ways s h (inr other) =
            get_or-set_other l (slot trace i) s v 0 other ∙ t.has s h ∙ sym (flag_there holds trace start s i (λ f. other (sym f)))

    passes_at : (i : ℕ) → Table start l i → slot trace i < 65536 →
        passes_by (action trace i) (right holds trace i) (get_or l (slot trace i) 0) ≡ succeeds holds trace start i
    unfolding succeeds
    passes_at i t small = ap (passes_by (action trace i) (right holds trace i)) (t.has (slot trace i) small)

  -- the counts and the tables before step i
  pub record Going (lent flags clear : List ℕ) (good failed rested i : ℕ) : Type 0 where
    pub flags_are : Table (λ s. get_or lent s 0) flags i
    pub clear_are : Table all_clear clear i
    pub goods : good ≡ how_many (succeeds holds trace (λ s. get_or lent s 0)) i
    pub faileds : failed ≡ how_many (fails holds trace (λ s. get_or lent s 0)) i
    pub resteds : rested ≡ how_many (rests holds trace (λ s. get_or lent s 0)) i

  pub going_first : (lent clear : List ℕ) → length lent ≡ 65536 → length clear ≡ 65536 → ((s : ℕ) → get_or clear s 0 ≡ 0) →
      Going lent lent clear 0 0 0 0
  unfolding how_many
  going_first lent clear zl zc h = record {
    flags_are = table_first (λ s. get_or lent s 0) lent zl (λ s. refl);
    clear_are = table_first all_clear clear zc h;
    goods = refl;
    faileds = refl;
    resteds = refl;
  }

module _ {holds : ℕ → ℕ → Bool} {trace lent flags clear : List ℕ} {good failed rested i : ℕ} (going : Going holds trace lent flags clear good failed rested i) where
  module _ {flags' clear' : List ℕ} {m : Counts} (step : OneStep holds trace i flags clear flags' clear' m) where
    -- no count passes the steps
    pub going_small : (good + m.good ≤ i + 1) × (failed + m.failed ≤ i + 1) × (rested + m.rested ≤ i + 1)
    going_small = (
      small (succeeds holds trace (λ s. get_or lent s 0)) good m.good _ going.goods step.good_is,
      small (fails holds trace (λ s. get_or lent s 0)) failed m.failed _ going.faileds step.failed_is,
      small (rests holds trace (λ s. get_or lent s 0)) rested m.rested _ going.resteds step.rested_is,
    )
      where
        small : (p : ℕ → Bool) (n k : ℕ) (b : Bool) → n ≡ how_many p i → k ≡ one b → n + k ≤ i + 1
        small p n k b e f = omega (arith, many-le p i, one-le b)

    pub going_more : Going holds trace lent flags' clear' (good + m.good) (failed + m.failed) (rested + m.rested) (i + 1)
    unfolding fails rests
    going_more = record {
      flags_are = table_more holds trace (λ s. get_or lent s 0) flags i flags' going.flags_are step.in_table step.flags_are;
      clear_are = table_more holds trace all_clear clear i clear' going.clear_are step.in_table step.clear_are;
      goods = more (succeeds holds trace (λ s. get_or lent s 0)) good m.good going.goods (step.good_is ∙ rw lent_passes);
      faileds = more (fails holds trace (λ s. get_or lent s 0)) failed m.failed going.faileds (step.failed_is ∙ rw lent_passes);
      resteds = more (rests holds trace (λ s. get_or lent s 0)) rested m.rested going.resteds (step.rested_is ∙ rw (lent_passes, clear_passes));
    }
      where
        lent_passes : passes_by (action trace i) (right holds trace i) (get_or flags (slot trace i) 0) ≡ succeeds holds trace (λ s. get_or lent s 0) i
        lent_passes = passes_at holds trace (λ s. get_or lent s 0) flags i going.flags_are step.in_table

        clear_passes : passes_by (action trace i) (right holds trace i) (get_or clear (slot trace i) 0) ≡ succeeds holds trace all_clear i
        clear_passes = passes_at holds trace all_clear clear i going.clear_are step.in_table

        more : (p : ℕ → Bool) (n k : ℕ) → n ≡ how_many p i → k ≡ one (p i) → n + k ≡ how_many p (i + 1)
        more p n k e f = rw (add-one i, many_more p i, e, f)

  pub going_last : length lent ≡ 65536 → i ≡ steps trace →
      (◌≡◌ {A = Counts} (record { good = good; failed = failed; rested = rested }) (counted (report holds trace lent))) × (flags ≡ (report holds trace lent).flags)
  unfolding report
  going_last z e = (
    rw (going.goods, going.faileds, going.resteds, e),
    ext_get_or 0 flags _ (going.flags_are.size ∙ sym (length_from later 0 (length lent) ∙ z)) same,
  )
    where
      later : ℕ → ℕ
      later s = flag holds trace (λ t. get_or lent t 0) s (steps trace)

      same : (s : ℕ) → s < length flags → get_or flags s 0 ≡ get_or (from later 0 (length lent)) s 0
      same s h =
          let k : s < length lent = omega (arith, going.flags_are.size) in
          let o : 0 + s ≡ s = omega arith in
          rw (from-get later 0 (length lent) s 0 k, o, ← e) (going.flags_are.has s (omega arith))
