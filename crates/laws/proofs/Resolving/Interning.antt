-- Interning a node: the old nodes stay, the node stands at its position, and no other comes in. Assumes nothing.
use mathlib.Core.Bool.{Bool, true, false, ◌&&◌}
use mathlib.Core.List.{List, [], ◌∷◌, ◌++◌, append-nil}
use mathlib.Core.Logic.{◌⊎◌, inl, inr}
use mathlib.Core.Option.{some}
use mathlib.Core.Path.{◌≡◌, refl, sym, ap, ◌∙◌}
use Prim.Native.Nat.{ℕ, ◌+◌, ◌<◌}
use native.Mathlib.Omega.{arith}
use lib.Dec.{eqb, ltb}
use lib.ListN.{length, get_elem?, length-append}
use borrow.Author.Tests.{eqb-true, ltb-true, ltb-false}
use Rattle.definition.specs.Basics.{same, position}
use Rattle.definition.specs.Resolving.{Node, same_node, intern}
use Rattle.facts.proofs.Lists.{both_true, same_true, found_seam, position-le, position-passes}

-- and so are nodes
pub same_node-equal : (a b : Node) → same_node a b ≡ true → a ≡ b
unfolding same_node
same_node-equal a b h =
    let kids = same a.kids b.kids in
    let bytes = eqb a.byte b.byte in
    let literals = eqb a.literal b.literal in
    let (p, h₁) = both_true (eqb a.tag b.tag) (literals && (bytes && kids)) h in
    let (q, h₂) = both_true literals (bytes && kids) h₁ in
    let (r, h₃) = both_true bytes kids h₂ in
    let tag = eqb-true a.tag b.tag p in
    let literal = eqb-true a.literal b.literal q in
    let byte = eqb-true a.byte b.byte r in
    let kids = same_true a.kids b.kids h₃ in
    λ i. record { tag = tag i; literal = literal i; byte = byte i; kids = kids i }

-- interning a node that is there
pub intern-old : (n : Node) (nodes : List Node) → ltb (position (same_node n) nodes) (length nodes) ≡ true → intern n nodes ≡ nodes
unfolding intern
intern-old n nodes e = rw (e, intern)

-- and one that isn't
pub intern-new : (n : Node) (nodes : List Node) → ltb (position (same_node n) nodes) (length nodes) ≡ false → intern n nodes ≡ nodes ++ n ∷ []
unfolding intern
intern-new n nodes e = rw (e, intern)

-- interning: the old nodes stay, the node stands at its position, and no other comes in
pub record Interned (n : Node) (nodes : List Node) : Type 0 where
  pub kept : (more : List Node) × (intern n nodes ≡ nodes ++ more)
  pub there : get_elem? (intern n nodes) (position (same_node n) nodes) ≡ some n
  pub no_other : (k : ℕ) → k < length (intern n nodes) → (k < length nodes) ⊎ (k ≡ position (same_node n) nodes)

pub interned : (n : Node) (nodes : List Node) → Interned n nodes
interned n nodes = go (ltb (position (same_node n) nodes) (length nodes)) refl
  where
    go : (b : Bool) → ltb (position (same_node n) nodes) (length nodes) ≡ b → Interned n nodes
    go true e =
        let (y, at, passes) = position-passes (same_node n) nodes (ltb-true _ _ e) in
        record {
          kept = ([], intern-old n nodes e ∙ sym (append-nil nodes));
          there = rw (intern-old n nodes e) (at ∙ ap some (sym (same_node-equal n y passes)));
          no_other = λ k h. inl (rw (intern-old n nodes e) at h);
        }
    go false e =
        let low = ltb-false (position (same_node n) nodes) (length nodes) e in
        let high = position-le (same_node n) nodes in
        let end : position (same_node n) nodes ≡ length nodes = omega arith in
        record {
          kept = (n ∷ [], intern-new n nodes e);
          there = rw (intern-new n nodes e, end) (found_seam nodes n []);
          no_other = λ k h. split k (rw (intern-new n nodes e, length-append) at h) end (ltb k (length nodes)) refl;
        }
      where
        split :
            (k : ℕ) →
            k < length nodes + 1 →
            position (same_node n) nodes ≡ length nodes →
            (b : Bool) →
            ltb k (length nodes) ≡ b →
            (k < length nodes) ⊎ (k ≡ position (same_node n) nodes)
        split k h end true t = inl (ltb-true k (length nodes) t)
        split k h end false t = let low = ltb-false k (length nodes) t in inr (omega arith)
