-- Names may be defined in another order: each stands for the same afterwards. Assumes nothing.
use mathlib.Core.Bool.{Bool, true, false, ◌&&◌}
use mathlib.Core.List.{List, [], ◌∷◌, ◌++◌}
use mathlib.Core.Option.{Option, none, some}
use mathlib.Core.Path.{◌≡◌, refl, ap, sym, ◌∙◌}
use Prim.Native.Nat.{ℕ, ◌+◌}
use lib.ListN.{length, length-append}
use Rattle.definition.specs.Basics.{same}
use Rattle.definition.specs.Shapes.{Kind, constant, bootstrap}
use Rattle.definition.specs.Job.{Reference}
use Rattle.definition.specs.Definitions.{Naming, same_kind_lem, name_target}
use Rattle.facts.proofs.Lists.{none≢some, both_true, same_true, same_refl}
use Rattle.laws.proofs.Form.CitedEntries.{same_kind-true}

-- as many names, and each stands for the same
pub record NamesAlike (a b : List Naming) : Type 0 where
  pub as_many_lem : length a ≡ length b
  pub same_targets : (kind : Kind) (s : List ℕ) → name_target kind s a ≡ name_target kind s b

-- the one, and if there is none the other
abbrev or_else : Option Reference → Option Reference → Option Reference
or_else none b = b
or_else (some a) b = some a

or_none_lem : (a b : Option Reference) → or_else a b ≡ none → (a ≡ none) × (b ≡ none)
or_none_lem none b h = (refl, h)
or_none_lem (some a) b h = none≢some (sym h)

-- what a name stands for in one naming
abbrev target_in : Kind → List ℕ → Naming → Option Reference
target_in kind s n = name_target kind s (n ∷ [])

-- an earlier naming of a name is found first
target_snoc : (kind : Kind) (s : List ℕ) (names : List Naming) (n : Naming) → name_target kind s (names ++ n ∷ []) ≡ or_else (name_target kind s names) (target_in kind s n)
unfolding name_target
target_snoc kind s [] n = refl
target_snoc kind s (m ∷ names) n = go (same_kind_lem kind m.kind && same s m.label) (target_snoc kind s names n)
  where
    choice : Bool → Option Reference → Option Reference
    choice b o = elim b [ true ↦ some m.target | false ↦ o ]

    go :
        (b : Bool) →
        name_target kind s (names ++ n ∷ []) ≡ or_else (name_target kind s names) (target_in kind s n) →
        choice b (name_target kind s (names ++ n ∷ [])) ≡ or_else (choice b (name_target kind s names)) (target_in kind s n)
    go true rest = refl
    go false rest = rest

same_kind-refl : (kind : Kind) → same_kind_lem kind kind ≡ true
unfolding same_kind_lem
same_kind-refl constant = refl
same_kind-refl bootstrap = refl

-- a naming has a target for its own name, and for no other
target_own : (n : Naming) → target_in n.kind n.label n ≡ some n.target
unfolding name_target
target_own n = rw (same_kind-refl n.kind, same_refl n.label, name_target)

target_other : (kind : Kind) (s : List ℕ) (n : Naming) (r : Reference) → target_in kind s n ≡ some r → (kind ≡ n.kind) × (s ≡ n.label)
unfolding name_target
target_other kind s n r h = go (same_kind_lem kind n.kind && same s n.label) refl h
  where
    choice : Bool → Option Reference
    choice b = elim b [ true ↦ some n.target | false ↦ none ]

    go : (b : Bool) → (same_kind_lem kind n.kind && same s n.label) ≡ b → choice b ≡ some r → (kind ≡ n.kind) × (s ≡ n.label)
    go true t e =
        let b = both_true (same_kind_lem kind n.kind) (same s n.label) t in
        (same_kind-true kind n.kind b.0, same_true s n.label b.1)
    go false t e = none≢some e

-- a name is defined once more: alike names are alike with it
pub alike-snoc : (a b : List Naming) (n : Naming) → NamesAlike a b → NamesAlike (a ++ n ∷ []) (b ++ n ∷ [])
alike-snoc a b n h =
    record {
      as_many_lem = length-append a (n ∷ []) ∙ ap (λ m. m + 1) h.as_many_lem ∙ sym (length-append b (n ∷ []));
      same_targets = λ kind s.
          target_snoc kind s a n ∙ ap (λ o. or_else o (target_in kind s n)) (h.same_targets kind s) ∙ sym (target_snoc kind s b n);
    }

-- two names that were defined one after the other, each when it wasn't yet
module _
    (names : List Naming)
    (n m : Naming)
    (first : name_target n.kind n.label names ≡ none)
    (second : name_target m.kind m.label (names ++ n ∷ []) ≡ none) where
  -- the second is new without the first, and isn't the first
  apart : (name_target m.kind m.label names ≡ none) × (target_in m.kind m.label n ≡ none)
  apart = or_none_lem (name_target m.kind m.label names) (target_in m.kind m.label n) (sym (target_snoc m.kind m.label names n) ∙ second)

  -- no name is both
  not-both : (kind : Kind) (s : List ℕ) (x y : Reference) → target_in kind s n ≡ some x → target_in kind s m ≡ some y → ⊥
  not-both kind s x y p q =
      let a = target_other kind s n x p in
      let b = target_other kind s m y q in
      let k : m.kind ≡ n.kind = sym b.0 ∙ a.0 in
      let l : m.label ≡ n.label = sym b.1 ∙ a.1 in
      none≢some (sym apart.1 ∙ (λ i. target_in (k i) (l i) n) ∙ target_own n)

  pub second-new : name_target m.kind m.label names ≡ none
  second-new = apart.0

  pub first_new : name_target n.kind n.label (names ++ m ∷ []) ≡ none
  first_new = target_snoc n.kind n.label names m ∙ ap (λ o. or_else o (target_in n.kind n.label m)) first ∙ go (target_in n.kind n.label m) refl
    where
      go : (o : Option Reference) → target_in n.kind n.label m ≡ o → o ≡ none
      go none e = refl
      go (some y) e = absurd (not-both n.kind n.label n.target y (target_own n) e)

  -- in either order the names stand for the same
  pub either_order : NamesAlike ((names ++ n ∷ []) ++ m ∷ []) ((names ++ m ∷ []) ++ n ∷ [])
  either_order =
      record {
        as_many_lem = rw (length-append (names ++ n ∷ []) (m ∷ []), length-append (names ++ m ∷ []) (n ∷ []), length-append names (n ∷ []), length-append names (m ∷ []));
        same_targets = λ kind s.
            target_snoc kind s (names ++ n ∷ []) m
            ∙ ap (λ o. or_else o (target_in kind s m)) (target_snoc kind s names n)
            ∙ turned (name_target kind s names) (target_in kind s n) (target_in kind s m) (not-both kind s)
            ∙ ap (λ o. or_else o (target_in kind s n)) (sym (target_snoc kind s names m))
            ∙ sym (target_snoc kind s (names ++ m ∷ []) n);
      }
    where
      turned :
          (t a b : Option Reference) →
          ((x y : Reference) → a ≡ some x → b ≡ some y → ⊥) →
          or_else (or_else t a) b ≡ or_else (or_else t b) a
      turned (some r) a b never = refl
      turned none none none never = refl
      turned none none (some y) never = refl
      turned none (some x) none never = refl
      turned none (some x) (some y) never = absurd (never x y refl refl)
