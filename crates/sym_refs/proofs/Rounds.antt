-- The loops over names: what each keeps. Assumes nothing.
use mathlib.Core.List.{List, [], ◌∷◌}
use mathlib.Core.Logic.{⊎_elim}
use mathlib.Core.Path.{◌≡◌, refl, ap, ◌∙◌}
use Prim.Native.Nat.{ℕ, ◌+◌, ◌≤◌, ◌<◌}
use native.Mathlib.Omega.{arith}
use lib.ListN.{length, get_or, set}
use lib.Seq.{get_or-set_same, get_or-set_other}
use borrow.Author.Tests.{ltb-true}
use Rattle.store.specs.Store.{Store, put, Kept}
use Rattle.store.specs.Regions.{NAME-GOALS}
use Rattle.store.specs.Words.{NAME}
use Rattle.store.proofs.Keeping.{kept_put, kept_then}
use Rattle.sym_refs.specs.Leading.{Settled, AllLead, Inner, end_of, Jumped, Finished, leads_from, First, Started}
use Rattle.sym_refs.proofs.Jumping.{leads_on, Turning}
use Rattle.facts.proofs.Lists.{equal}

-- a fact of each word, after one is stored
pub each_set : (P : ℕ → ℕ → Type 0) (l : List ℕ) (i x : ℕ) → i < length l → P i x → ((j : ℕ) → (j ≡ i → ⊥) → P j (get_or l j 0)) → (j : ℕ) → P j (get_or (set l i x) j 0)
each_set P l i x h a b j =
    ⊎_elim
    (λ (e : j ≡ i). rw (e, get_or-set_same l i x 0 h) a)
    (λ (e : j ≡ i → ⊥). rw (get_or-set_other l i j x 0 e) (b j e))
    (equal j i)

-- THE FIRST STEP
pub record Starting (s : List ℕ) (t u : Store) (n i : ℕ) : Type 0 where
  pub upto : i ≤ n
  pub firsts : (j : ℕ) → j < i → First s n j (get_or (u NAME-GOALS) j 0)
  pub kept : Kept (NAME-GOALS ∷ []) t u

pub start_begin : (s : List ℕ) (t : Store) (n : ℕ) → Starting s t t n 0
start_begin s t n = record { upto = omega arith; firsts = λ j h. absurd (omega arith); kept = λ k f. refl }

pub start_next :
    (s : List ℕ) (t u : Store) (n i x : ℕ) → Starting s t u n i → i < n → n ≤ length (u NAME-GOALS) → First s n i x →
    Starting s t (put u NAME-GOALS i x) n (i + 1)
start_next s t u n i x g h long first =
    record {
      upto = omega arith;
      firsts = each_set (λ j y. j < i + 1 → First s n j y) (u NAME-GOALS) i x (omega arith) (λ _. first) (λ j e l. g.firsts j (omega arith));
      kept = kept_put (NAME-GOALS ∷ []) t u NAME-GOALS i x refl g.kept;
    }

pub start_end : (s : List ℕ) (t u : Store) (n i : ℕ) → n ≤ i → Starting s t u n i → Started s t u n
start_end s t u n i h g = record { firsts = λ j l. g.firsts j (omega arith); kept = g.kept }

-- A ROUND
pub round-end :
    (t u : Store) (n i left : ℕ) → n ≤ i → Turning n (t NAME-GOALS) (u NAME-GOALS) i left → Kept (NAME-GOALS ∷ []) t u → Jumped t u n left
round-end t u n i left h g k =
    record {
      few = omega (arith, g.few, g.upto);
      inner = g.inner;
      words = g.words;
      twice = λ f span all j l. (g.mixed f span all).1 j (omega arith);
      none = λ e j l. g.none e j (omega arith);
      kept = k;
    }

-- THE END
pub record Finishing (t u : Store) (n i : ℕ) : Type 0 where
  pub upto : i ≤ n
  pub done : (j : ℕ) → j < i → get_or (u NAME-GOALS) j 0 ≡ end_of (get_or (t NAME-GOALS) j 0)
  pub rest : (j : ℕ) → i ≤ j → get_or (u NAME-GOALS) j 0 ≡ get_or (t NAME-GOALS) j 0
  pub kept : Kept (NAME-GOALS ∷ []) t u

pub finish-begin : (t : Store) (n : ℕ) → Finishing t t n 0
finish-begin t n = record { upto = omega arith; done = λ j h. absurd (omega arith); rest = λ j h. refl; kept = λ k f. refl }

pub finish-next :
    (t u : Store) (n i x y : ℕ) → Finishing t u n i → i < n → n ≤ length (u NAME-GOALS) → y ≡ get_or (u NAME-GOALS) i 0 → x ≡ end_of y →
    Finishing t (put u NAME-GOALS i x) n (i + 1)
finish-next t u n i x y g h long d e =
    record {
      upto = omega arith;
      done =
          each_set
          (λ j y. j < i + 1 → y ≡ end_of (get_or (t NAME-GOALS) j 0))
          (u NAME-GOALS)
          i
          x
          (omega arith)
          (λ _. e ∙ ap end_of (d ∙ g.rest i (omega arith)))
          (λ j q l. g.done j (omega arith));
      rest =
          each_set
          (λ j y. i + 1 ≤ j → y ≡ get_or (t NAME-GOALS) j 0)
          (u NAME-GOALS)
          i
          x
          (omega arith)
          (λ l. absurd (omega arith))
          (λ j d l. g.rest j (omega arith));
      kept = kept_put (NAME-GOALS ∷ []) t u NAME-GOALS i x refl g.kept;
    }

pub finish-end : (t u : Store) (n i : ℕ) → n ≤ i → Finishing t u n i → Finished t u n
finish-end t u n i h g = record { all = λ j l. g.done j (omega arith); kept = g.kept }

-- ALL ROUNDS
pub record Following (s : List ℕ) (t u : Store) (n span : ℕ) : Type 0 where
  pub low : 0 < span
  pub inner : Inner n (u NAME-GOALS)
  pub words : (entries : ℕ) → Settled entries n (t NAME-GOALS) → Settled entries n (u NAME-GOALS)
  pub lead : AllLead (leads_from s) span n (u NAME-GOALS)
  pub kept : Kept (NAME-GOALS ∷ []) t u

-- the loop speaks of the store where it began
pub follow-begin : (s : List ℕ) (t u : Store) (n : ℕ) → Started s t u n → Following s u u n 1
follow-begin s t u n g =
    record {
      low = omega arith;
      inner = λ i l. (g.firsts i l).low;
      words = λ entries all. all;
      lead = λ i l. (g.firsts i l).once;
      kept = λ k f. refl;
    }

module _ (s : List ℕ) (t u v : Store) (n span left : ℕ) (g : Following s t u n span) (j : Jumped u v n left) where
  pub follow-next : Following s t v n (span + span)
  follow-next =
      record {
        low = omega (arith, g.low);
        inner = j.inner;
        words = λ entries all. j.words entries (g.words entries all);
        lead = j.twice (leads_from s) span g.lead;
        kept = kept_then (NAME-GOALS ∷ []) t u v g.kept j.kept;
      }

  -- where nothing leads to a name any more, each leads any number of steps
  pub follow-all : left ≡ 0 → Following s t v n (n + 1)
  follow-all e =
      record {
        low = omega arith;
        inner = j.inner;
        words = λ entries all. j.words entries (g.words entries all);
        lead =
            λ i l.
            leads_on
            (leads_from s)
            (span + span)
            (n + 1)
            i
            (get_or (v NAME-GOALS) i 0)
            (ltb-true (get_or (v NAME-GOALS) i 0) NAME (j.none e i l))
            (j.twice (leads_from s) span g.lead i l);
        kept = kept_then (NAME-GOALS ∷ []) t u v g.kept j.kept;
      }
