-- FOLLOWED: a name is given up as circular only if it leads nowhere in any number of steps: the names that lead somewhere in m steps grow
-- with m, and once they don't they never will again, so that they are all found in as many steps as there are names. Assumes nothing.
use mathlib.Core.Bool.{Bool, true, false}
use mathlib.Core.List.{List, [], ◌∷◌}
use mathlib.Core.Logic.{◌⊎◌, inl, inr}
use mathlib.Core.Option.{Option, none, some}
use mathlib.Core.Path.{◌≡◌, refl, sym, ◌∙◌}
use Prim.Native.Nat.{ℕ, zero, suc, ◌+◌, ◌≤◌}
use native.Mathlib.Omega.{arith}
use lib.Dec.{leb}
use lib.ListN.{length}
use borrow.Author.Tests.{leb-true, leb-false}
use Rattle.definition.specs.Shapes.{Kind}
use Rattle.definition.specs.Job.{Reference, raw, entry, name}
use Rattle.definition.specs.Definitions.{Naming, name_target}
use Rattle.definition.specs.Resolving.{refusal, follow, goal_of}
use Rattle.facts.proofs.Each.{Each, each_from}
use Rattle.laws.specs.Statements.{Followed}
use Rattle.laws.proofs.Resolving.NameTargets.{name_target-all}

-- 1 if a reference leads somewhere in m steps, to a number, an entry or a name that isn't defined; else 0
ends : ℕ → List Naming → Reference → ℕ
ends zero names (raw n) = 1
ends zero names (entry kind n) = 1
ends zero names (name kind s) = 0
ends (suc m) names (raw n) = 1
ends (suc m) names (entry kind n) = 1
ends (suc m) names (name kind s) = elim (name_target kind s names) [ none ↦ 1 | some r ↦ ends m names r ]

ends-none : (m : ℕ) (names : List Naming) (kind : Kind) (s : List ℕ) → name_target kind s names ≡ none → ends (suc m) names (name kind s) ≡ 1
unfolding ends
ends-none m names kind s e = rw (e, ends)

ends_some :
    (m : ℕ) (names : List Naming) (kind : Kind) (s : List ℕ) (r : Reference) →
    name_target kind s names ≡ some r →
    ends (suc m) names (name kind s) ≡ ends m names r
unfolding ends
ends_some m names kind s r e = rw (e, ends)

-- one step more ends no less, and no more than 1
ends-grows : (m : ℕ) (names : List Naming) (r : Reference) → (ends m names r ≤ ends (suc m) names r) × (ends m names r ≤ 1)
unfolding ends
ends-grows zero names (raw n) = omega arith
ends-grows zero names (entry kind n) = omega arith
ends-grows zero names (name kind s) = omega arith
ends-grows (suc m) names (raw n) = omega arith
ends-grows (suc m) names (entry kind n) = omega arith
ends-grows (suc m) names (name kind s) = go (name_target kind s names) refl (ends-grows m names)
  where
    go :
        (o : Option Reference) →
        name_target kind s names ≡ o →
        ((r : Reference) → (ends m names r ≤ ends (suc m) names r) × (ends m names r ≤ 1)) →
        (ends (suc m) names (name kind s) ≤ ends (suc (suc m)) names (name kind s)) × (ends (suc m) names (name kind s) ≤ 1)
    go none e ih = rw (ends-none m names kind s e, ends-none (suc m) names kind s e) (omega arith)
    go (some r) e ih = rw (ends_some m names kind s r e, ends_some (suc m) names kind s r e) (ih r)

-- m steps tell what m + 1 would
abbrev Still : ℕ → List Naming → List Naming → Type 0
Still m names l = Each (λ n. ends (suc m) names n.target ≡ ends m names n.target) l

-- if they do for all targets, then m + 1 steps tell what m + 2 would, for every reference
still_next :
    (m : ℕ) (names : List Naming) → Still m names names → (r : Reference) → ends (suc (suc m)) names r ≡ ends (suc m) names r
unfolding ends
still_next m names still (raw n) = refl
still_next m names still (entry kind n) = refl
still_next m names still (name kind s) = go (name_target kind s names) refl
  where
    go : (o : Option Reference) → name_target kind s names ≡ o → ends (suc (suc m)) names (name kind s) ≡ ends (suc m) names (name kind s)
    go none e = ends-none (suc m) names kind s e ∙ sym (ends-none m names kind s e)
    go (some r) e =
        ends_some (suc m) names kind s r e
        ∙ name_target-all (λ r'. ends (suc m) names r' ≡ ends m names r') kind s names r still e
        ∙ sym (ends_some m names kind s r e)

-- how many of some targets end in m steps
total : ℕ → List Naming → List Naming → ℕ
total m names [] = 0
total m names (n ∷ l) = ends m names n.target + total m names l

total_grows : (m : ℕ) (names l : List Naming) → (total m names l ≤ total (suc m) names l) × (total m names l ≤ length l)
unfolding total
total_grows m names [] = omega arith
total_grows m names (n ∷ l) =
    let ih = total_grows m names l in
    let one = ends-grows m names n.target in
    omega arith

-- if no more of them end, none does that did not
total_still : (m : ℕ) (names l : List Naming) → total (suc m) names l ≤ total m names l → Still m names l
unfolding total
total_still m names [] h = tt
total_still m names (n ∷ l) h =
    let rest = total_grows m names l in
    let one = ends-grows m names n.target in
    (omega arith, total_still m names l (omega arith))

still_up : (m : ℕ) (names : List Naming) → Still m names names → Still (suc m) names names
still_up m names still = each_from _ names (λ i n e. still_next m names still n.target)

-- in m steps m of them end, or no more will
grown : (m : ℕ) (names : List Naming) → (m ≤ total m names names) ⊎ Still m names names
grown zero names = inl (omega arith)
grown (suc m) names = go (grown m names)
  where
    more : (b : Bool) → leb (total (suc m) names names) (total m names names) ≡ b → m ≤ total m names names → (suc m ≤ total (suc m) names names) ⊎ Still (suc m) names names
    more true e h = inr (still_up m names (total_still m names names (leb-true (total (suc m) names names) (total m names names) e)))
    more false e h =
        let less = leb-false (total (suc m) names names) (total m names names) e in
        inl (omega arith)

    go : (m ≤ total m names names) ⊎ Still m names names → (suc m ≤ total (suc m) names names) ⊎ Still (suc m) names names
    go (inl h) = more (leb (total (suc m) names names) (total m names names)) refl h
    go (inr still) = inr (still_up m names still)

still_at_length : (names : List Naming) → Still (length names) names names
still_at_length names = go (grown (length names) names)
  where
    go : (length names ≤ total (length names) names names) ⊎ Still (length names) names names → Still (length names) names names
    go (inl h) =
        let most = total_grows (suc (length names)) names names in
        total_still (length names) names names (omega arith)
    go (inr still) = still

-- k steps more than m
further : ℕ → ℕ → ℕ
further zero m = m
further (suc k) m = further k (suc m)

further_is : (k m : ℕ) → further k m ≡ m + k
unfolding further
further_is zero m = omega arith
further_is (suc k) m = let ih = further_is k (suc m) in omega arith

stays :
    (k m : ℕ) (names : List Naming) → Still m names names → (r : Reference) → ends (further k (suc m)) names r ≡ ends (suc m) names r
unfolding further
stays zero m names still r = refl
stays (suc k) m names still r = stays k (suc m) names (still_up m names still) r ∙ still_next m names still r

-- what ends is followed alike in one step more, and what doesn't is refused
follow-ended : (m : ℕ) (names : List Naming) (constants : ℕ) (r : Reference) → ends m names r ≡ 1 → follow (suc m) names constants r ≡ follow m names constants r
unfolding ends follow
follow-ended zero names constants (raw n) e = refl
follow-ended zero names constants (entry kind n) e = refl
follow-ended zero names constants (name kind s) e = absurd (omega arith)
follow-ended (suc m) names constants (raw n) e = refl
follow-ended (suc m) names constants (entry kind n) e = refl
follow-ended (suc m) names constants (name kind s) e = go (name_target kind s names) refl (follow-ended m names constants)
  where
    go :
        (o : Option Reference) →
        name_target kind s names ≡ o →
        ((r : Reference) → ends m names r ≡ 1 → follow (suc m) names constants r ≡ follow m names constants r) →
        follow (suc (suc m)) names constants (name kind s) ≡ follow (suc m) names constants (name kind s)
    go none t ih = rw (t, follow)
    go (some r) t ih = rw (t, follow) (ih r (sym (ends_some m names kind s r t) ∙ e))

follow-further :
    (k m : ℕ) (names : List Naming) (constants : ℕ) (r : Reference) →
    ends m names r ≡ 1 →
    follow (further k m) names constants r ≡ follow m names constants r
unfolding further
follow-further zero m names constants r e = refl
follow-further (suc k) m names constants r e =
    let grows = ends-grows m names r in
    let most = ends-grows (suc m) names r in
    follow-further k (suc m) names constants r (omega arith) ∙ follow-ended m names constants r e

follow-lost : (m : ℕ) (names : List Naming) (constants : ℕ) (r : Reference) → ends m names r ≡ 0 → follow m names constants r ≡ refusal 13
unfolding ends follow
follow-lost zero names constants (raw n) e = absurd (omega arith)
follow-lost zero names constants (entry kind n) e = absurd (omega arith)
follow-lost zero names constants (name kind s) e = refl
follow-lost (suc m) names constants (raw n) e = absurd (omega arith)
follow-lost (suc m) names constants (entry kind n) e = absurd (omega arith)
follow-lost (suc m) names constants (name kind s) e = go (name_target kind s names) refl (follow-lost m names constants)
  where
    go :
        (o : Option Reference) →
        name_target kind s names ≡ o →
        ((r : Reference) → ends m names r ≡ 0 → follow m names constants r ≡ refusal 13) →
        follow (suc m) names constants (name kind s) ≡ refusal 13
    go none t ih =
        let one = ends-none m names kind s t in
        absurd (omega arith)
    go (some r) t ih = rw (t, follow) (ih r (sym (ends_some m names kind s r t) ∙ e))

pub followed : Followed
unfolding goal_of
followed names constants steps r = rw (← further_is steps (suc (length names))) (go (ends (suc (length names)) names r) refl)
  where
    go :
        (n : ℕ) →
        ends (suc (length names)) names r ≡ n →
        follow (further steps (suc (length names))) names constants r ≡ follow (suc (length names)) names constants r
    go zero e =
        let same = stays steps (length names) names (still_at_length names) r in
        follow-lost (further steps (suc (length names))) names constants r (omega arith) ∙ sym (follow-lost (suc (length names)) names constants r e)
    go (suc n) e =
        let most = ends-grows (suc (length names)) names r in
        follow-further steps (suc (length names)) names constants r (omega arith)
