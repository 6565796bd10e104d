-- Skipping several references, one after the other. Assumes nothing.
use mathlib.Core.Bool.{Bool, true, ◌&&◌}
use mathlib.Core.List.{List, [], ◌∷◌, ◌++◌, append-nil}
use mathlib.Core.Option.{Option, none, some}
use mathlib.Core.Path.{◌≡◌, refl, sym, ◌∙◌}
use Rattle.std.specs.Prelude.{Some}
use Prim.Native.Nat.{ℕ, suc, ◌+◌, ◌-◌, ◌≤◌, ◌<◌}
use native.Mathlib.Omega.{arith}
use lib.ListN.{length, drop, length-append}
use lib.Seq.{append_snoc}
use Rattle.definition.specs.Basics.{every}
use Rattle.definition.specs.Bytes.{and_then, many}
use Rattle.definition.specs.Shapes.{constant}
use Rattle.definition.specs.Job.{Reference, reference}
use Rattle.definition.specs.Form.{Counts, cites}
use Rattle.job.specs.Forms.{Read, Skips}
use Rattle.facts.proofs.Lists.{every-snoc}

-- what was read so far, in front of what the rest gives
abbrev pub prepend : {A : Type 0} → List A → Option (List A × List ℕ) → Option (List A × List ℕ)
prepend l none = none
prepend l (some r) = some (l ++ r.0, r.1)

pub prepend_nil : {A : Type 0} (o : Option (List A × List ℕ)) → prepend [] o ≡ o
prepend_nil none = refl
prepend_nil (some r) = refl

pub prepend_snoc :
    {A : Type 0} (l : List A) (a : A) (o : Option (List A × List ℕ)) →
    prepend l (and_then o (λ rest bytes. some (a ∷ rest, bytes))) ≡ prepend (l ++ a ∷ []) o
prepend_snoc l a none = refl
prepend_snoc l a (some r) = rw (append_snoc l a r.0)

-- i of n references are passed, and next is the place behind them
pub record Passed (c : Counts) (s : List ℕ) (at n i next : ℕ) (cited : Bool) : Type 0 where
  pub list : List Reference
  pub size : length list ≡ i
  pub rest : many n (reference constant) (drop at s) ≡ prepend list (many (n - i) (reference constant) (drop next s))
  pub cites : cited ≡ every (cites c) list

module _ (c : Counts) (s : List ℕ) (at n : ℕ) where
  pub none_passed : Passed c s at n 0 at true
  unfolding every
  none_passed =
      let e : n - 0 ≡ n = omega arith in
      record { list = []; size = refl; rest = rw e (sym (prepend_nil (many n (reference constant) (drop at s)))); cites = refl }

  module _ (i next : ℕ) (cited : Bool) (before : Passed c s at n i next cited) where
    pub one-passed :
        (behind : ℕ) (here : Bool) (references : ℕ) → i < n → Read (reference constant) (cites c) (λ _. 1) s next behind here references →
        Passed c s at n (i + 1) behind (cited && here)
    unfolding many
    one-passed behind here references h v =
        let e : n - i ≡ suc (n - (i + 1)) = omega arith in
        record {
          list = before.list ++ v.value ∷ [];
          size = simp length-append (omega arith);
          rest = before.rest ∙ rw (e, v.read) (prepend_snoc before.list v.value (many (n - (i + 1)) (reference constant) (drop behind s)));
          cites = rw (before.cites, v.cites) (sym (every-snoc (cites c) before.list v.value));
        }

    pub passed-cut : i < n → reference constant (drop next s) ≡ none → many n (reference constant) (drop at s) ≡ none
    unfolding many
    passed-cut h cut =
        let e : n - i ≡ suc (n - (i + 1)) = omega arith in
        before.rest ∙ rw (e, cut)

    pub all_passed : i ≡ n → at + i ≤ next → next ≤ length s → Skips (many n (reference constant)) (every (cites c)) length s at (Some (record { next = next; cited = cited; references = n }))
    unfolding many
    all_passed h past within =
        let e : n - i ≡ 0 = omega arith in
        record {
          value = before.list;
          read = before.rest ∙ rw e (rw append-nil);
          past = omega arith;
          within = within;
          cites = before.cites;
          count = omega arith;
        }
