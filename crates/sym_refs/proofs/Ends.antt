-- Where names lead in the end, where references do then, and the loop that links them. Assumes nothing.
use mathlib.Core.List.{List, [], ◌∷◌}
use mathlib.Core.Logic.{inl, inr, ⊎_elim}
use mathlib.Core.Path.{◌≡◌, refl, sym, subst, ◌∙◌}
use Prim.Native.Nat.{ℕ, suc, ◌+◌, ◌-◌, ◌≤◌, ◌<◌}
use native.Mathlib.Omega.{arith}
use lib.ListN.{length, get_or}
use Rattle.definition.specs.Resolving.{goal_of}
use Rattle.facts.proofs.Lists.{found_inside, inside_found, order}
use Rattle.store.specs.Store.{Store, put, Kept}
use Rattle.store.specs.Chains.{Sought}
use Rattle.store.specs.JobIn.{counts_in, entries_in, constants_in, namings_in}
use Rattle.store.specs.Regions.{NAME-GOALS, GOALS}
use Rattle.store.specs.Words.{ENTRY, SYM, REFUSED, NAME, reference_word, IsReference, IsGoal}
use Rattle.store.proofs.Keeping.{kept_put, kept_then}
use Rattle.sym_refs.specs.Names.{Names, Goals, Goes}
use Rattle.sym_refs.specs.Leading.{NamedBy, end_of, Finished, Started, NamesFollowed, ReferencesLinked}
use Rattle.sym_refs.proofs.Jumping.{ended_same, ended_circular}
use Rattle.sym_refs.proofs.Rounds.{each_set, Following}
use Rattle.sym_refs.proofs.Wording.{follow-low, low_word, goal_12}
use Rattle.sym_refs.proofs.Steps.{leads_from_lem, symbol_name, cited_follow, missing_follow, goal_ended}

-- ALL NAMES

end-goal : (entries x : ℕ) → (x < NAME → IsGoal entries x) → IsGoal entries (end_of x)
end-goal entries x f =
    ⊎_elim
    (λ (z : x < NAME). rw (ended_same x z) (f z))
    (λ (z : NAME ≤ x). rw (ended_circular x z) (inr (inr refl)))
    (order x NAME)

pub follow-end :
    (s : List ℕ) (t u v w : Store) (n span : ℕ) → n ≡ length (namings_in s) → Started s t u n → n < span → Following s u v n span → Finished v w n → NamesFollowed s t w
follow-end s t u v w n span all g wide f e =
    record {
      goals =
          record {
            goals =
                λ i x d.
                let l : i < n = omega (arith, found_inside (namings_in s) i x d) in
                rw (e.all i l) (goal_ended s i x d (get_or (v NAME-GOALS) i 0) span (f.lead i l) (omega arith));
            words =
                λ i h.
                let l : i < n = omega arith in
                rw (e.all i l) (end-goal (entries_in s) (get_or (v NAME-GOALS) i 0) (f.words (entries_in s) (λ j k. (g.firsts j k).word) i l));
          };
      kept = kept_then (NAME-GOALS ∷ []) t u w g.kept (kept_then (NAME-GOALS ∷ []) u v w f.kept e.kept);
    }

-- A REFERENCE

pub goes_low : (s : List ℕ) (x : ℕ) → IsReference s (entries_in s) x → x < SYM → Goes s x x
unfolding goal_of
goes_low s x is h =
    record {
      leads = sym (follow-low (namings_in s) (constants_in s) s (suc (length (namings_in s))) x h);
      word = inl (low_word s (entries_in s) x is h);
    }

module _ (h : ℕ) (s places heads links : List ℕ) (n : ℕ) (all : n ≡ length (namings_in s)) (g : Names h s places heads links n) (x link : ℕ) (f : Sought (NamedBy s (reference_word s (constants_in s) x)) n link) where
  pub goes_none : ENTRY + constants_in s ≤ SYM → SYM ≤ x → link ≡ 0 → Goes s x (REFUSED + 12)
  unfolding goal_of
  goes_none few large z =
      record {
        leads =
            goal_12
            ∙ sym
            (missing_follow h s places heads links n all g link (reference_word s (constants_in s) x) (symbol_name s (constants_in s) x few large) f z (length (namings_in s)));
        word = inr (inl refl);
      }

  pub goes_name : (l : List ℕ) → Goals s l → (j : ℕ) → link ≡ j + 1 → Goes s x (get_or l j 0)
  unfolding goal_of
  goes_name l goals j e =
      let more : 0 < link = omega arith in
      let low : link - 1 < length (namings_in s) = omega (arith, f.low) in
      let there = inside_found (namings_in s) (link - 1) low in
      let same : j ≡ link - 1 = omega arith in
      rw same (record {
        leads =
            goals.goals (link - 1) there.0 there.1
            ∙ sym
            (cited_follow h s places heads links n all g link (reference_word s (constants_in s) x) f more (suc (length (namings_in s)))
            ∙ leads_from_lem s (suc (length (namings_in s))) (link - 1) there.0 there.1);
        word = goals.words (link - 1) low;
      })

-- ALL REFERENCES
pub record Linking (s : List ℕ) (t u : Store) (n i : ℕ) : Type 0 where
  pub upto : i ≤ n
  pub done : (j : ℕ) → j < i → Goes s (get_or (t GOALS) j 0) (get_or (u GOALS) j 0)
  pub rest : (j : ℕ) → i ≤ j → get_or (u GOALS) j 0 ≡ get_or (t GOALS) j 0
  pub kept : Kept (GOALS ∷ []) t u

pub link_begin : (s : List ℕ) (t : Store) (n : ℕ) → Linking s t t n 0
link_begin s t n = record { upto = omega arith; done = λ j h. absurd (omega arith); rest = λ j h. refl; kept = λ k f. refl }

pub link_next :
    (s : List ℕ) (t u : Store) (n i x : ℕ) → Linking s t u n i → i < n → n ≤ length (u GOALS) → Goes s (get_or (u GOALS) i 0) x →
    Linking s t (put u GOALS i x) n (i + 1)
link_next s t u n i x g h long e =
    record {
      upto = omega arith;
      done =
          each_set
          (λ j y. j < i + 1 → Goes s (get_or (t GOALS) j 0) y)
          (u GOALS)
          i
          x
          (omega arith)
          (λ _. subst (λ (y : ℕ). Goes s y x) (g.rest i (omega arith)) e)
          (λ j d l. g.done j (omega arith));
      rest =
          each_set
          (λ j y. i + 1 ≤ j → y ≡ get_or (t GOALS) j 0)
          (u GOALS)
          i
          x
          (omega arith)
          (λ l. absurd (omega arith))
          (λ j d l. g.rest j (omega arith));
      kept = kept_put (GOALS ∷ []) t u GOALS i x refl g.kept;
    }

pub link_end : (s : List ℕ) (t u : Store) (n i : ℕ) → n ≡ (counts_in s).references → n ≤ i → Linking s t u n i → ReferencesLinked s t u
link_end s t u n i all h g = record { goes = λ j l. g.done j (omega arith); kept = g.kept }
