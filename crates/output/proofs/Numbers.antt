-- The slot and the number of a child, by the tests that the code makes. Assumes nothing.
use mathlib.Core.List.{List, map}
use mathlib.Core.Option.{some}
use mathlib.Core.Path.{◌≡◌, sym, ◌∙◌}
use Prim.Native.Nat.{ℕ, ◌+◌, ◌-◌, ◌≤◌, ◌<◌}
use native.Mathlib.Omega.{arith}
use lib.ListN.{length, get_or, get_elem?, length-map, get_or-eq_default}
use borrow.Author.Tests.{lt-ltb, le-ltb}
use Rattle.store.specs.Store.{Store, size}
use Rattle.store.specs.Regions.{GIVEN, INDEXES, NODES, Work}
use Rattle.store.specs.Words.{ENTRY, cut, child_slot}
use Rattle.facts.proofs.Chunks.{length_from, from_place}
use Rattle.facts.proofs.Lists.{get_map}
use Rattle.store.specs.JobIn.{constants_in}
use Rattle.store.proofs.Laying.{work-sizes, entries-counted}
use Rattle.store.proofs.Bounds.{work-constants}
use Rattle.interner.specs.Nodes.{node_count}
use Rattle.output.specs.Contents.{child_number, ChildThere, ShortChild, Made, Numbered}

pub slot-raw : (given : List ℕ) (x : ℕ) → x < ENTRY → child_slot given x ≡ x
unfolding child_slot
slot-raw given x h = rw (lt-ltb x ENTRY h, child_slot)

pub slot-node : (given : List ℕ) (x : ℕ) → ENTRY ≤ x → child_slot given x ≡ get_or given (x - ENTRY) 0
unfolding child_slot
slot-node given x h = rw (le-ltb x ENTRY h, child_slot)

module _ (constants : ℕ) (given indexes nodes : List ℕ) (x : ℕ) where
  pub number_raw : x < ENTRY → child_number constants given indexes nodes x ≡ x
  unfolding child_number
  number_raw h = rw (lt-ltb x ENTRY h, child_number)

  pub number-slot :
      (e : ℕ) → e ≡ get_or nodes (x - ENTRY) 0 → ENTRY ≤ x → e < constants → child_number constants given indexes nodes x ≡ get_or given (x - ENTRY) 0
  unfolding child_number
  number-slot e q h l = rw (le-ltb x ENTRY h, child_number) (rw (lt-ltb (get_or nodes (x - ENTRY) 0) constants (omega (arith, q))))

  pub number-index :
      (e : ℕ) → e ≡ get_or nodes (x - ENTRY) 0 → ENTRY ≤ x → constants ≤ e →
      child_number constants given indexes nodes x ≡ get_or indexes (e - constants) 0 - 1
  unfolding child_number
  number-index e q h l =
      rw (le-ltb x ENTRY h, child_number) (rw (le-ltb (get_or nodes (x - ENTRY) 0) constants (omega (arith, q)), q))

-- a numbered child of a node is one that the code may ask for
module _ (s p : List ℕ) (t : Store) (work : Work s p) (made : Made s t) (x : ℕ) where
  pub child_there : Numbered (constants_in s) (node_count t) (t GIVEN) (t INDEXES) (t NODES) x → ChildThere p (t NODES) (t INDEXES) x
  child_there n =
      let z = work-sizes s p work in
      let c = entries-counted s in
      let k = work-constants s p work in
      record {
        given = omega (arith, n.low, made.few, z.given);
        nodes_there = omega (arith, n.low, made.few, z.nodes);
        fewer = k.0;
        inside = λ h. let low : x - ENTRY < node_count t = omega (arith, n.low) in omega (arith, made.inside (x - ENTRY) low, z.marks);
        indexed = λ h. rw k.1 (n.indexed h);
      }

  pub slot-there : Numbered (constants_in s) (node_count t) (t GIVEN) (t INDEXES) (t NODES) x → x < ENTRY + size p GIVEN
  slot-there n = (child_there n).given

-- and its number is one of two bytes
pub short_child :
    (s p : List ℕ) (t : Store) → Work s p → Made s t → (x : ℕ) → Numbered (constants_in s) (node_count t) (t GIVEN) (t INDEXES) (t NODES) x → ShortChild p t x
short_child s p t work made x n =
    record { there = child_there s p t work made x n; small = rw (work-constants s p work).1 n.small }

-- the numbers of children in a row
pub number-here :
    (f : ℕ → ℕ) (l : List ℕ) (at n i x : ℕ) → i < n → x ≡ get_or l (at + i) 0 → f x ≡ get_or (map f (cut l at n)) i 0
number-here f l at n i x h q =
    let place = from_place (λ j. get_or l (at + j) 0) 0 n i h in
    let z : 0 + i ≡ i = omega arith in
    let there : get_elem? (cut l at n) i ≡ some (get_or l (at + i) 0) = rw z at place in
    rw q (sym (get_map f (cut l at n) i (get_or l (at + i) 0) 0 there))

pub number_past : (f : ℕ → ℕ) (l : List ℕ) (at n i : ℕ) → n ≤ i → 0 ≡ get_or (map f (cut l at n)) i 0
number_past f l at n i h =
    let long : length (map f (cut l at n)) ≡ n = length-map (cut l at n) f ∙ length_from (λ j. get_or l (at + j) 0) 0 n in
    sym (get_or-eq_default (map f (cut l at n)) 0 {n = i} (omega arith))
