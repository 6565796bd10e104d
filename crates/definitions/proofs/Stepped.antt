-- What a step answers: the place behind the record, or a refusal, which has a number. Assumes nothing.
use Rattle.std.specs.Prelude.{Ok, Err}
use mathlib.Core.List.{List}
use mathlib.Core.Path.{◌≡◌, refl, sym, ap, subst}
use Prim.Native.Nat.{ℕ, zero, suc, ◌<◌}
use native.Mathlib.Omega.{arith}
use lib.ListN.{get_or}
use Rattle.definition.specs.Basics.{bad}
use Rattle.definition.specs.Definitions.{Defined}
use Rattle.refusal.specs.declared.Refusal.{Refusal}
use Rattle.refusal.specs.Numbers.{number, code_of}
use Rattle.refusal.proofs.Numbers.{number_tag}
use Rattle.store.specs.Store.{Store, Kept}
use Rattle.store.specs.Regions.{COUNTS, HELD-COUNT}
use Rattle.raws.specs.Raws.{outcome}
use Rattle.definitions.specs.Defining.{defined_in, Defining, place_count, defined_regions, Tested, Answer, answered, Stepped}

-- the code of an answer, with the place behind for none
word : Answer → ℕ
word (Ok next) = suc next
word (Err e) = 0

ok_same : (a b : ℕ) → ◌≡◌ {A = Answer} (Ok a) (Ok b) → a ≡ b
unfolding word
ok_same a b e = let q : suc a ≡ suc b = ap word e in omega arith

ok_err : (a : ℕ) (e : Refusal) → ◌≡◌ {A = Answer} (Ok a) (Err e) → ⊥
unfolding word
ok_err a e q = let z : suc a ≡ 0 = ap word q in omega arith

err_number : (d e : Refusal) → ◌≡◌ {A = Answer} (Err d) (Err e) → number d ≡ number e
unfolding code_of
err_number d e q = ap code_of q

pub number_above : (e : Refusal) → 0 < number e
number_above e = omega (arith, number_tag e)

-- a test that tells 0 passed
pub answered-through : (c : Tested) (next : ℕ) → code_of c ≡ 0 → answered c next ≡ Ok next
unfolding code_of answered
answered-through (Ok x) next z = refl
answered-through (Err e) next z = absurd (omega (arith, number_above e))

pub outcome-refused : {A : Type 0} (n : ℕ) (a : A) → 0 < n → outcome n a ≡ bad n
unfolding outcome
outcome-refused zero a h = absurd (omega arith)
outcome-refused (suc n) a h = refl

module _
    (p : List ℕ) (top : ℕ) (s : List ℕ) (t u : Store) (place : place_count u ≡ place_count t)
    (counters : (c : ℕ) → HELD-COUNT < c → get_or (u COUNTS) c 0 ≡ get_or (t COUNTS) c 0) (kept : Kept defined_regions t u) where
  pub stepped-through : (next : ℕ) (d : Defined) → Defining p top s u (suc (place_count t)) next d → Stepped p top s t u (Ok next)
  stepped-through next d g =
      record {
        through = λ n e. (d, subst (λ m. Defining p top s u (suc (place_count t)) m d) (ok_same next n e) g);
        refused = λ e q. absurd (ok_err next e q);
        place = place;
        counters = counters;
        kept = kept;
      }

  pub stepped-refused : (e : Refusal) → defined_in top s ≡ bad (record { code = number e; place = place_count t }) → Stepped p top s t u (Err e)
  stepped-refused e run =
      record {
        through = λ n q. absurd (ok_err n e (sym q));
        refused = λ f q. rw (err_number e f q) at run;
        place = place;
        counters = counters;
        kept = kept;
      }
