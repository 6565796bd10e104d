-- Numbers in the chains of their items: the chains of all nodes by their slots, and the one item that a search finds. Assumes nothing.
use mathlib.Core.Bool.{Bool}
use mathlib.Core.List.{List, [], ◌∷◌}
use mathlib.Core.Logic.{⊎_elim}
use mathlib.Core.Path.{◌≡◌, refl, sym, ap, ◌∙◌}
use Prim.Native.Nat.{ℕ, zero, suc, ◌+◌, ◌-◌, ◌≤◌, ◌<◌}
use native.Mathlib.Omega.{arith}
use lib.Dec.{eqb}
use lib.ListN.{length, get_or}
use borrow.Author.Count.{below_more}
use borrow.Author.Tests.{eq-eqb, ne_eqb, eqb-true}
use Rattle.store.specs.Store.{Store, size, Kept}
use Rattle.store.specs.Chains.{head_of, Chains, Sought, Heads, linked}
use Rattle.store.specs.Regions.{COUNTS, GIVEN, OWNER-HEADS, OWNER-LINKS}
use Rattle.store.proofs.Hashing.{head_lt}
use Rattle.store.proofs.Walking.{last-le, last-again, last-hit, last-yes, last-no, chains_more}
use Rattle.store.proofs.Keeping.{kept_put}
use Rattle.interner.specs.Nodes.{node_count}
use Rattle.output.specs.Contents.{link_of, NoneAbove, OwnersMade}
use Rattle.facts.proofs.Lists.{equal}

-- THE SEARCH finds the one item that there is

pub link_miss : (keys : List ℕ) (n key : ℕ) → ((i : ℕ) → i < n → get_or keys i 0 ≡ key → ⊥) → link_of keys n key ≡ 0
link_miss keys zero key f = refl
link_miss keys (suc n) key f =
    last-no (λ i. eqb (get_or keys i 0) key) n (ne_eqb (get_or keys n 0) key (f n (omega arith))) ∙ link_miss keys n key (λ i h. f i (omega arith))

-- a number above all of them is not there
pub link_above : (keys : List ℕ) (n top key : ℕ) → NoneAbove keys n top → top < key → link_of keys n key ≡ 0
link_above keys n top key low h = link_miss keys n key (λ i l e. omega (arith, low i l))

-- one more of them, where the bound rises to it
pub above_more : (keys : List ℕ) (n top new : ℕ) → NoneAbove keys n top → (top ≤ new) × (get_or keys n 0 ≤ new) → NoneAbove keys (n + 1) new
above_more keys n top new low up = below_more (λ i. get_or keys i 0 ≤ new) n (λ i l. omega (arith, low i l)) up.1

pub link_hit :
    (keys : List ℕ) (n key i : ℕ) → i < n → get_or keys i 0 ≡ key → ((j : ℕ) → i < j → j < n → get_or keys j 0 ≡ key → ⊥) → link_of keys n key ≡ suc i
link_hit keys zero key i h is alone = absurd (omega arith)
link_hit keys (suc n) key i h is alone =
    ⊎_elim
    (λ (z : i ≡ n). rw (← z) (last-yes (λ i. eqb (get_or keys i 0) key) i (eq-eqb (get_or keys i 0) key is)))
    (λ (z : i ≡ n → ⊥).
    last-no (λ i. eqb (get_or keys i 0) key) n (ne_eqb (get_or keys n 0) key (alone n (omega arith) (omega arith)))
    ∙ link_hit keys n key i (omega arith) is (λ j a b. alone j a (omega arith)))
    (equal i n)

pub link_back : (keys : List ℕ) (n key i : ℕ) → link_of keys n key ≡ suc i → (i < n) × (get_or keys i 0 ≡ key)
link_back keys n key i h =
    let q : ℕ → Bool = λ i. eqb (get_or keys i 0) key in
    (omega (arith, last-le q n), eqb-true (get_or keys i 0) key (last-hit q i (rw h at (last-again q n))))

-- what a search gave, where the number stands once
module _ (keys : List ℕ) (n key r : ℕ) (found : Sought (λ i. get_or keys i 0 ≡ key) n r) where
  pub link_none : r ≤ 0 → link_of keys n key ≡ 0
  link_none h = link_miss keys n key (found.miss (omega arith))

  pub link_found : ((i j : ℕ) → i < j → j < n → get_or keys i 0 ≡ key → get_or keys j 0 ≡ key → ⊥) → 0 < r → link_of keys n key ≡ suc (r - 1)
  link_found alone h =
      let is = found.hit h in
      link_hit keys n key (r - 1) (omega (arith, found.low)) is (λ j a b e. alone (r - 1) j a b is e)

-- an item that a search gave
pub link_item :
    (keys : List ℕ) (n key i : ℕ) → Sought (λ i. get_or keys i 0 ≡ key) n (i + 1) →
    ((i j : ℕ) → i < j → j < n → get_or keys i 0 ≡ key → get_or keys j 0 ≡ key → ⊥) → link_of keys n key ≡ suc i
link_item keys n key i found alone =
    let e : i + 1 - 1 ≡ i = omega arith in
    link_found keys n key (i + 1) found alone (omega arith) ∙ ap suc e

-- THE CHAINS of all nodes

pub record Owning (p : List ℕ) (t u : Store) (n k : ℕ) : Type 0 where
  pub low : k ≤ n
  pub chains : Chains (λ i. head_of (size p OWNER-HEADS) (get_or (t GIVEN) i 0)) (u OWNER-HEADS) (u OWNER-LINKS) k
  pub kept : Kept (OWNER-HEADS ∷ OWNER-LINKS ∷ []) t u

pub owning_begin : (p : List ℕ) (t : Store) (n : ℕ) → ((i : ℕ) → get_or (t OWNER-HEADS) i 0 ≡ 0) → Owning p t t n 0
owning_begin p t n zeros =
    record { low = omega arith; chains = record { first = λ k l. zeros k; next = λ i l. absurd (omega arith) }; kept = λ k _. refl }

module _ (p : List ℕ) (t u : Store) (n k : ℕ) (w : Owning p t u n k) where
  pub owning_next :
      (slot : ℕ) → slot ≡ get_or (u GIVEN) k 0 → Heads p OWNER-HEADS → k < n → length (u OWNER-HEADS) ≡ size p OWNER-HEADS → k < length (u OWNER-LINKS) →
      Owning p t (linked u p OWNER-HEADS slot k) n (k + 1)
  owning_next slot is heads h long room =
      let hash : ℕ → ℕ = λ i. head_of (size p OWNER-HEADS) (get_or (t GIVEN) i 0) in
      let q : get_or (t GIVEN) k 0 ≡ slot = sym (is ∙ ap (λ l. get_or l k 0) (w.kept GIVEN refl)) in
      record {
        low = omega arith;
        chains =
            chains_more hash hash (u OWNER-HEADS) (u OWNER-LINKS) k (head_of (size p OWNER-HEADS) slot) w.chains
            (ap (head_of (size p OWNER-HEADS)) q) (λ i l. refl) (rw long (head_lt (size p OWNER-HEADS) slot heads.two)) room;
        kept =
            kept_put (OWNER-HEADS ∷ OWNER-LINKS ∷ []) t _ OWNER-HEADS (head_of (size p OWNER-HEADS) slot) (k + 1) refl
            (kept_put (OWNER-HEADS ∷ OWNER-LINKS ∷ []) t u OWNER-LINKS k (get_or (u OWNER-HEADS) (head_of (size p OWNER-HEADS) slot) 0) refl w.kept);
      }

  pub owning_end : n ≡ node_count t → n ≤ k → n ≤ size p GIVEN → n ≤ size p OWNER-LINKS → OwnersMade p t u
  owning_end is past a b =
      let same : k ≡ n = omega (arith, w.low) in
      let all : node_count u ≡ n = ap (λ l. get_or l 8 0) (w.kept COUNTS refl) ∙ sym is in
      record {
        owners = rw (all, w.kept GIVEN refl) (rw same at w.chains, a, b);
        kept = w.kept;
      }
