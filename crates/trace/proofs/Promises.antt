-- The promises of a trace's counts and of the flags that it leaves hold. Assumes nothing.
use mathlib.Core.Bool.{Bool, true, false, not, ◌&&◌, ◌||◌}
use mathlib.Core.List.{List}
use mathlib.Core.Logic.{◌⊎◌, ◌≢◌, inl, inr}
use mathlib.Core.Path.{◌≡◌, refl, ap, ◌∙◌}
use Prim.Native.Nat.{ℕ, zero, suc, ◌+◌, ◌≤◌}
use native.Mathlib.Omega.{arith}
use lib.Dec.{eqb, eqb-suc-zero}
use borrow.Author.Tests.{ne_eqb, eqb-true}
use lib.ListN.{length, get_or}
use Rattle.facts.proofs.Chunks.{length_from, from-get}
use Rattle.facts.proofs.Lists.{true≢false}
use Rattle.trace.specs.Trace.{some-from, behind-last, action, slot, steps, looks_up, clears-at, right, finds_at, flag, succeeds, fails, rests, all_clear, report}
use Rattle.trace.specs.Step.{next, one}
use Rattle.trace.specs.Promises.{EveryLookUp, RestingAreGood, NoneRests, RestsWhen, SetWhen, StepByStep, Later, LaterFlags}
use Rattle.trace.proofs.Counting.{many-none, many-mono, many-both, none_then}
use Rattle.trace.proofs.Flags.{flag_of, not_found, set_before, set-stays, flag_is, flag_first, flag_here, flag_there}

good_or_failed : (l b : Bool) → one (l && b) + one (l && not (l && b)) ≡ one l
unfolding one
good_or_failed true true = refl
good_or_failed true false = refl
good_or_failed false b = refl

pub every-look_up : EveryLookUp
unfolding report succeeds fails
every-look_up holds trace lent =
    many-both (succeeds holds trace start) (fails holds trace start) (looks_up trace) (λ i. good_or_failed (looks_up trace i) _) (steps trace)
  where
    start : ℕ → ℕ
    start s = get_or lent s 0

among-good : (a b : Bool) → one (a && b) ≤ one a
unfolding one
among-good true true = omega arith
among-good true false = omega arith
among-good false b = omega arith

pub resting_are_good : RestingAreGood
unfolding report rests
resting_are_good holds trace lent =
    many-mono (rests holds trace start) (succeeds holds trace start) (λ i. among-good (succeeds holds trace start i) _) (steps trace)
  where
    start : ℕ → ℕ
    start s = get_or lent s 0

never_both : (b : Bool) → (b && not b) ≡ false
never_both true = refl
never_both false = refl

pub none-rests : NoneRests
unfolding report rests
none-rests holds trace lent h =
    many-none (rests holds trace start) (λ i. ap (λ (f : ℕ → ℕ). rests holds trace f i) all ∙ never_both (succeeds holds trace all_clear i)) (steps trace)
  where
    start : ℕ → ℕ
    start s = get_or lent s 0

    all : start ≡ all_clear
    all k s = h s k

-- a look-up by whether its tag is right, a step cleared its flag or one found its tag, and the flag's byte at the start
abbrev rests-by : Bool → Bool → ℕ → ℕ → Bool
rests-by l r x y = (l && (not (eqb x 0) || r)) && not (l && (not (eqb y 0) || r))

rests-set : (l r b : Bool) (x : ℕ) → eqb x 0 ≡ false → rests-by l r x (flag_of false b 0) ≡ (l && not r && true && not b && true)
rests-set false r b x e = refl
rests-set true true true x e = rw e
rests-set true true false x e = rw e
rests-set true false true x e = rw e
rests-set true false false x e = rw e

resting : (l r a b : Bool) (x : ℕ) → rests-by l r (flag_of a b x) (flag_of a b 0) ≡ (l && not r && not a && not b && not (eqb x 0))
resting false r a b x = refl
resting true true true true x = refl
resting true true true false x = refl
resting true false true true x = refl
resting true false true false x = refl
resting true true false true zero = refl
resting true true false false zero = refl
resting true false false true zero = refl
resting true false false false zero = refl
resting true r false b (suc x) =
    let e = eqb-suc-zero x in
    ap (λ (y : ℕ). rests-by true r y (flag_of false b 0)) (set_before b (suc x) e) ∙ rests-set true r b (suc x) e ∙ rw e

pub rests-when : RestsWhen
unfolding rests succeeds
rests-when holds trace start i = ways (some-from (clears-at trace s) 0 i) refl
  where
    s : ℕ
    s = slot trace i

    found : ℕ → Bool
    found m = some-from (finds_at holds trace s) m i

    by_flags : rests holds trace start i
        ≡ (looks_up trace i
        && not (right holds trace i)
        && not (some-from (clears-at trace s) 0 i)
        && not (found (behind-last (clears-at trace s) i))
        && not (eqb (start s) 0))
    by_flags =
        rw (flag_is holds trace start s i, flag_is holds trace all_clear s i) (resting (looks_up trace i) (right holds trace i) (some-from (clears-at trace s) 0 i) (found (behind-last (clears-at trace s) i)) (start s))

    off : (l a b x y : Bool) → a ≡ false → (l && a && b && y) ≡ (l && a && x && y)
    off true false b x y e = refl
    off true true b x y e = true≢false e
    off false a b x y e = refl

    ways : (c : Bool) → some-from (clears-at trace s) 0 i ≡ c →
        rests holds trace start i
        ≡ (looks_up trace i
        && not (right holds trace i)
        && not (some-from (clears-at trace s) 0 i)
        && not (found 0)
        && not (eqb (start s) 0))
    ways true e = by_flags ∙ off (looks_up trace i && not (right holds trace i)) (not (some-from (clears-at trace s) 0 i)) _ _ _ (ap not e)
    ways false e = rw (none_then (clears-at trace s) i e) at by_flags

is_set : (a b : Bool) (x : ℕ) → not (eqb (flag_of a b x) 0) ≡ (b || not a && not (eqb x 0))
is_set true true x = refl
is_set true false x = refl
is_set false true zero = refl
is_set false false zero = refl
is_set false b (suc x) = ap (λ y. not (eqb y 0)) (set_before b (suc x) e) ∙ rw e (either b)
  where
    e : eqb (suc x) 0 ≡ false
    e = eqb-suc-zero x

    either : (c : Bool) → true ≡ (c || true)
    either true = refl
    either false = refl

pub set_when : SetWhen
set_when holds trace start s i =
    rw (flag_is holds trace start s i) (is_set (some-from (clears-at trace s) 0 i) (some-from (finds_at holds trace s) (behind-last (clears-at trace s) i) i) (start s))

next-set : (f : Bool) (x : ℕ) → x ≢ 0 → next false f x ≡ x
unfolding next
next-set true x h = set-stays x (ne_eqb x 0 h)
next-set false x h = refl

looks_not-clears : (a : ℕ) → eqb a 0 ≡ true → eqb a 1 ≡ false
looks_not-clears a e = let z = eqb-true a 0 e in ne_eqb a 1 (λ o. omega arith)

pub step-by_step : (holds : ℕ → ℕ → Bool) (trace : List ℕ) (start : ℕ → ℕ) → StepByStep holds trace start
unfolding succeeds next
step-by_step holds trace start = record {
  at_start_lem = flag_first holds trace start;
  elsewhere = flag_there holds trace start;
  cleared = λ i e. flag_here holds trace start i ∙ rw e;
  found_set = λ i e h. (rw (e, ne_eqb _ 0 h), flag_here holds trace start i ∙ rw (looks_not-clears (action trace i) e) (next-set (eqb (action trace i) 0 && right holds trace i) (flag holds trace start (slot trace i) i) h));
  found_right = λ i e z r. (rw (e, z, r), flag_here holds trace start i ∙ rw (looks_not-clears (action trace i) e, e, r, z));
  found_wrong = λ i e z r. (rw (e, z, r), flag_here holds trace start i ∙ rw (looks_not-clears (action trace i) e, e, r, z));
}

later : (a b : Bool) (x : ℕ) → Later a b x (flag_of a b x)
later a b x = record {
  as_it_was = was;
  left-clear = λ e f. rw (e, f);
  set-anew = anew;
}
  where
    was : a ≡ false → (x ≢ 0) ⊎ (b ≡ false) → flag_of a b x ≡ x
    was e (inl h) = rw e (set_before b x (ne_eqb x 0 h))
    was e (inr f) = rw (e, f) (not_found x)

    anew : (a ≡ true) ⊎ (x ≡ 0) → b ≡ true → flag_of a b x ≡ 1
    anew (inl e) f = rw (e, f)
    anew (inr z) f = rw (z, f) (both a)
      where
        both : (c : Bool) → flag_of c true 0 ≡ 1
        both true = refl
        both false = refl

pub later_flags : (holds : ℕ → ℕ → Bool) (trace lent : List ℕ) → LaterFlags holds trace lent
unfolding report
later_flags holds trace lent = record {
  as_many = length_from (λ s. flag holds trace start s (steps trace)) 0 (length lent);
  each = λ s h.
      let e : 0 + s ≡ s = omega arith in
      rw (from-get (λ t. flag holds trace start t (steps trace)) 0 (length lent) s 0 h, e, flag_is holds trace start s (steps trace)) (later _ _ (get_or lent s 0));
}
  where
    start : ℕ → ℕ
    start s = get_or lent s 0
