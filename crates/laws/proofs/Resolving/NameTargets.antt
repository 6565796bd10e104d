-- What a name stands for is the target of a name record with that name. Assumes nothing.
use mathlib.Core.Bool.{Bool, true, false, ◌&&◌}
use mathlib.Core.List.{List, [], ◌∷◌}
use mathlib.Core.Option.{some}
use mathlib.Core.Path.{◌≡◌, refl, sym, subst, ◌∙◌}
use Prim.Native.Nat.{ℕ}
use Rattle.definition.specs.Basics.{same}
use Rattle.definition.specs.Shapes.{Kind}
use Rattle.definition.specs.Job.{Reference}
use Rattle.definition.specs.Definitions.{Naming, same_kind_lem, name_target}
use Rattle.facts.specs.Lists.{Among}
use Rattle.facts.proofs.Lists.{clash, both_true, same_true, among_later}
use Rattle.facts.proofs.Each.{Each, each_at}
use Rattle.laws.proofs.Form.CitedEntries.{same_kind-true}

-- a name past a naming of it, and past another
pub target_here :
    (kind : Kind) (s : List ℕ) (n : Naming) (names : List Naming) →
    (same_kind_lem kind n.kind && same s n.label) ≡ true →
    name_target kind s (n ∷ names) ≡ some n.target
unfolding name_target
target_here kind s n names e = rw (e, name_target)

pub target_later :
    (kind : Kind) (s : List ℕ) (n : Naming) (names : List Naming) →
    (same_kind_lem kind n.kind && same s n.label) ≡ false →
    name_target kind s (n ∷ names) ≡ name_target kind s names
unfolding name_target
target_later kind s n names e = rw (e, name_target)

-- what a name stands for is the target of a naming of its kind
pub target_at :
    (kind : Kind) (s : List ℕ) (names : List Naming) (r : Reference) →
    name_target kind s names ≡ some r →
    (n : Naming) × Among n names × (kind ≡ n.kind) × (s ≡ n.label) × (n.target ≡ r)
unfolding name_target
target_at kind s [] r e = clash (cc)
target_at kind s (n ∷ names) r e = go (same_kind_lem kind n.kind && same s n.label) refl (target_at kind s names r)
  where
    go :
        (b : Bool) →
        (same_kind_lem kind n.kind && same s n.label) ≡ b →
        (name_target kind s names ≡ some r → (n : Naming) × Among n names × (kind ≡ n.kind) × (s ≡ n.label) × (n.target ≡ r)) →
        (m : Naming) × Among m (n ∷ names) × (kind ≡ m.kind) × (s ≡ m.label) × (m.target ≡ r)
    go true t rest =
        let b = both_true (same_kind_lem kind n.kind) (same s n.label) t in
        let h = target_here kind s n names t in
        (n, (0, refl), same_kind-true kind n.kind b.0, same_true s n.label b.1, cc)
    go false t rest =
        let h = rest (sym (target_later kind s n names t) ∙ e) in
        (h.0, among_later h.0 n names h.1, h.2, h.3, h.4)

-- what a name stands for is one of the targets
pub name_target-all :
    (P : Reference → Type 0) (kind : Kind) (s : List ℕ) (names : List Naming) (r : Reference) →
    Each (λ n. P n.target) names →
    name_target kind s names ≡ some r →
    P r
name_target-all P kind s names r h e =
    let t = target_at kind s names r e in
    subst P t.4 (each_at (λ n. P n.target) names t.1.0 t.0 h t.1.1)
