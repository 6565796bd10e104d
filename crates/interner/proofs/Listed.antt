-- The nodes as a list, and where in it the one that is sought stands. Assumes nothing.
use mathlib.Core.Bool.{true, false}
use mathlib.Core.List.{List, map}
use mathlib.Core.Logic.{⊎_elim}
use mathlib.Core.Option.{some}
use mathlib.Core.Path.{◌≡◌, refl, sym, ap, ◌∙◌}
use Prim.Native.Nat.{ℕ, ◌-◌, ◌≤◌, ◌<◌}
use native.Mathlib.Omega.{arith}
use lib.ListN.{length, get_or, get_elem?, take, length-map}
use lib.Seq.{get_or-take, length-take-le}
use Rattle.definition.specs.Basics.{position}
use Rattle.definition.specs.Resolving.{Node, same_node}
use Rattle.facts.proofs.Lists.{read_found, found_inside, some_inj, map_at, position-le, position-before, position-hit, position-passes, equal, order}
use Rattle.laws.proofs.Resolving.Interning.{same_node-equal}
use Rattle.store.specs.Chains.{Sought}
use Rattle.store.proofs.Walking.{both}
use Rattle.interner.specs.Nodes.{node_at_lem, Nodes}
use Rattle.interner.proofs.Alike.{node_same}

-- node i is the one sought
abbrev pub Is : List ℕ → List ℕ → List ℕ → List ℕ → List ℕ → Node → ℕ → Type 0
Is s firsts sizes children nodes new i = same_node new (node_at_lem s firsts sizes children (get_or nodes i 0)) ≡ true

module _ (h : ℕ) (s firsts sizes children nodes heads links : List ℕ) (n : ℕ) (new : Node) (g : Nodes h s firsts sizes children nodes heads links n) (room : n ≤ length nodes) where
  abbrev list : List Node
  list = map (node_at_lem s firsts sizes children) (take n nodes)

  abbrev at : ℕ → Node
  at i = node_at_lem s firsts sizes children (get_or nodes i 0)

  pub list_length : length list ≡ n
  list_length = length-map (take n nodes) (node_at_lem s firsts sizes children) ∙ length-take-le n nodes room

  list_at : (i : ℕ) → i < n → get_elem? list i ≡ some (at i)
  list_at i less =
      let q : get_elem? (take n nodes) i ≡ some (get_or nodes i 0) = read_found (take n nodes) i 0 (omega (arith, length-take-le n nodes room)) ∙ ap some (get_or-take n nodes i 0 less) in
      map_at (node_at_lem s firsts sizes children) (take n nodes) i (get_or nodes i 0) q

  -- what stands at a place of the list that passes
  passes_at : (i : ℕ) (b : Node) → get_elem? list i ≡ some b → same_node new b ≡ true → (i < n) × Is s firsts sizes children nodes new i
  passes_at i b q p =
      let less : i < n = omega (arith, found_inside list i b q, list_length) in
      let same : b ≡ at i = some_inj (sym q ∙ list_at i less) in
      (less, rw same at p)

  -- no two are the same, so that an equal one is the first
  pub position-old : (r : ℕ) → Sought (Is s firsts sizes children nodes new) n r → 0 < r → r - 1 ≡ position (same_node new) list
  position-old r sought pos =
      let less : r - 1 < n = omega (arith, sought.low) in
      let hit = sought.hit pos in
      let p = position-hit (same_node new) list (r - 1) (at (r - 1)) (list_at (r - 1) less) hit in
      let q = passes_at (position (same_node new) list) p.0 p.1 p.2 in
      ⊎_elim
      (λ (l : r - 1 < position (same_node new) list).
      absurd (both hit (position-before (same_node new) list (r - 1) (at (r - 1)) (list_at (r - 1) less) l)))
      (λ (l : position (same_node new) list ≤ r - 1).
      ⊎_elim
      (λ (z : position (same_node new) list ≡ r - 1). sym z)
      (λ (z : position (same_node new) list ≡ r - 1 → ⊥).
      let one : at (position (same_node new) list) ≡ at (r - 1) = sym (same_node-equal new (at (position (same_node new) list)) q.1) ∙ same_node-equal new (at (r - 1)) hit in
      let apart : same_node (at (position (same_node new) list)) (at (r - 1)) ≡ false = g.unlike (position (same_node new) list) (r - 1) (omega arith) less in
      absurd (both (node_same (at (r - 1))) (rw one at apart)))
      (equal (position (same_node new) list) (r - 1)))
      (order (r - 1) (position (same_node new) list))

  pub position-new : Sought (Is s firsts sizes children nodes new) n 0 → n ≡ position (same_node new) list
  position-new sought =
      ⊎_elim
      (λ (l : position (same_node new) list < length list).
      let p = position-passes (same_node new) list l in
      let q = passes_at (position (same_node new) list) p.0 p.1 p.2 in
      absurd (sought.miss refl (position (same_node new) list) q.0 q.1))
      (λ (l : length list ≤ position (same_node new) list). omega (arith, position-le (same_node new) list, list_length))
      (order (position (same_node new) list) (length list))
