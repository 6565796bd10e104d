-- A node that is kept as another entry, which is the same: the list of nodes and the chains stay. Assumes nothing.
use mathlib.Core.List.{List, map}
use mathlib.Core.Logic.{⊎_elim}
use mathlib.Core.Path.{◌≡◌, sym, ap, ◌∙◌}
use Prim.Native.Nat.{ℕ, ◌≤◌, ◌<◌}
use native.Mathlib.Omega.{arith}
use lib.Dec.{eqb}
use lib.ListN.{length, get_or, set, take}
use lib.Seq.{get_or-set_same, get_or-set_other, get_or-take, take-set-lt, map-set_same}
use Rattle.facts.proofs.Lists.{equal, set-either}
use Rattle.store.specs.JobIn.{entries_in}
use Rattle.store.specs.Chains.{head_of, Chains}
use Rattle.store.proofs.Walking.{last-ext}
use Rattle.interner.specs.Nodes.{hash_at, node_at_lem, Nodes}

-- hashes that are equal have the same chains
pub chains_ext : (hash hash' : ℕ → ℕ) (heads links : List ℕ) (n : ℕ) → ((i : ℕ) → i < n → hash' i ≡ hash i) → Chains hash heads links n → Chains hash' heads links n
chains_ext hash hash' heads links n f c =
    record {
      first = λ k h. c.first k h ∙ sym (last-ext (λ i. eqb (hash' i) k) (λ i. eqb (hash i) k) n (λ j l. ap (λ (y : ℕ). eqb y k) (f j l)));
      next =
          λ i h.
          c.next i h
          ∙ sym (last-ext (λ j. eqb (hash' j) (hash' i)) (λ j. eqb (hash j) (hash i)) i (λ j l. rw (f j (omega arith), f i h)));
    }

module _
    (h : ℕ) (s firsts sizes children nodes heads links : List ℕ) (n k e : ℕ) (g : Nodes h s firsts sizes children nodes heads links n)
    (room : n ≤ length nodes) (low : k < n) (inside : e < entries_in s)
    (same : node_at_lem s firsts sizes children e ≡ node_at_lem s firsts sizes children (get_or nodes k 0))
    (hash : hash_at s firsts sizes children e ≡ hash_at s firsts sizes children (get_or nodes k 0)) where
  -- what goes by the entry of each node stays, if it is one for e and the entry of k
  stays : {A : Type 0} (f : ℕ → A) → f e ≡ f (get_or nodes k 0) → (i : ℕ) → f (get_or (set nodes k e) i 0) ≡ f (get_or nodes i 0)
  stays f q i =
      ⊎_elim
      (λ (z : i ≡ k). rw (z, get_or-set_same nodes k e 0 (omega arith)) q)
      (λ (z : i ≡ k → ⊥). ap f (get_or-set_other nodes k i e 0 z))
      (equal i k)

  pub list_stays : map (node_at_lem s firsts sizes children) (take n (set nodes k e)) ≡ map (node_at_lem s firsts sizes children) (take n nodes)
  list_stays =
      let node = node_at_lem s firsts sizes children in
      rw (take-set-lt n nodes k e low) (map-set_same node (take n nodes) k e 0 (same ∙ ap node (sym (get_or-take n nodes k 0 low))))

  pub nodes_stay : Nodes h s firsts sizes children (set nodes k e) heads links n
  nodes_stay =
      record {
        few = g.few;
        inside = λ i l. set-either (λ x. x < entries_in s) nodes k i e 0 inside (g.inside i l);
        chains =
            chains_ext
            (λ i. head_of h (hash_at s firsts sizes children (get_or nodes i 0)))
            (λ i. head_of h (hash_at s firsts sizes children (get_or (set nodes k e) i 0)))
            heads
            links
            n
            (λ i l. ap (head_of h) (stays (hash_at s firsts sizes children) hash i))
            g.chains;
        unlike = λ i j l b. rw (stays (node_at_lem s firsts sizes children) same i, stays (node_at_lem s firsts sizes children) same j) (g.unlike i j l b);
      }
