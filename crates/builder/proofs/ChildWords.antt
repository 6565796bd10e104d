-- The children of nodes in finished words: they are there, and their slots and numbers fit two bytes. Assumes nothing.
use mathlib.Core.Bool.{true}
use mathlib.Core.List.{List}
use mathlib.Core.Logic.{⊎_elim}
use mathlib.Core.Option.{some}
use mathlib.Core.Path.{◌≡◌, refl, sym, ap, subst, ◌∙◌}
use Prim.Native.Nat.{ℕ, ◌+◌, ◌-◌, ◌≤◌, ◌<◌}
use native.Mathlib.Omega.{arith}
use lib.Dec.{leb}
use lib.ListN.{get_or, get_elem?}
use borrow.Author.Tests.{leb-true}
use Rattle.definition.specs.Shapes.{bootstrap_tag}
use Rattle.definition.specs.Definitions.{Defined, tag_at}
use Rattle.definition.specs.Building.{Made, kids_of}
use Rattle.definition.specs.Layout.{Ready}
use Rattle.facts.proofs.Lists.{both_true, order, read_found}
use Rattle.facts.proofs.Each.{each_at}
use Rattle.laws.specs.Statements.{IsBytes}
use Rattle.laws.proofs.Resolving.NodesAndChildren.{ConstantChild}
use Rattle.slots.specs.Gaps.{GapTable}
use Rattle.store.specs.Store.{Store}
use Rattle.store.specs.JobIn.{constants_in}
use Rattle.store.specs.Regions.{GIVEN, INDEXES, FIRSTS, SIZES, CHILDREN, NODES, Work}
use Rattle.store.specs.Words.{ENTRY, child_slot}
use Rattle.store.proofs.Bounds.{work-constants}
use Rattle.interner.specs.Nodes.{node_count, nodes_in}
use Rattle.definitions.proofs.Rooms.{room}
use Rattle.rows.specs.Rowed.{constants_of, IsBootstrapIn, index_word_lem, is_bootstrap, HasNumber}
use Rattle.rows.proofs.Asking.{index-small}
use Rattle.pool.specs.Pooled.{NodesThere}
use Rattle.building.specs.Numbers.{KidsDone}
use Rattle.output.specs.Contents.{child_at, child_count, child_number, Numbered, KidsNumbered}
use Rattle.output.proofs.Numbers.{slot-raw, slot-node, number_raw, number-slot, number-index}
use Rattle.builder.proofs.Final.{Final}
use Rattle.builder.proofs.Known as known
use Rattle.builder.proofs.NodeWords.{kids_many, kid_at, tag-bootstrap}
use Rattle.builder.proofs.NumberWords.{index_word}
use Rattle.builder.proofs.HeldWords.{given_holds}

module _
    (s p : List ℕ) (v : Store) (h : GapTable) (d : Defined) (ready asked : Ready) (m after : Made)
    (are : IsBytes s) (work : Work s p) (f : Final s p v h d ready asked m after) where
  -- a slot that was given fits two bytes
  pub given-small : (k : ℕ) → get_or (v GIVEN) k 0 < 65536
  given-small k =
      ⊎_elim
      (λ (l : get_or (v GIVEN) k 0 < 1). omega arith)
      (λ (l : 1 ≤ get_or (v GIVEN) k 0).
      omega (
        arith,
        (known.held_in s p v h d ready asked m after are work f (get_or (v GIVEN) k 0) k
            (given_holds s p v h d ready asked m after are work f k (get_or (v GIVEN) k 0) l refl)).1,
      ))
      (order (get_or (v GIVEN) k 0) 1)

  pub slot_small : (x : ℕ) → child_slot (v GIVEN) x < 65536
  slot_small x =
      ⊎_elim
      (λ (l : x < ENTRY). omega (arith, slot-raw (v GIVEN) x l))
      (λ (l : ENTRY ≤ x). omega (arith, slot-node (v GIVEN) x l, given-small (x - ENTRY)))
      (order x ENTRY)

  module _ (k : ℕ) (low : k < node_count v) where
    abbrev child : ℕ → ℕ
    child = child_at (v FIRSTS) (v CHILDREN) (v NODES) k

    abbrev there : NodesThere s p v
    there = known.nodes_there s p v h d ready asked m after are work f

    is_child : (i : ℕ) → i < child_count (v SIZES) (v NODES) k → get_elem? (kids_of (nodes_in s v) k) i ≡ some (child i)
    is_child i l =
        read_found (kids_of (nodes_in s v) k) i 0 (omega (arith, kids_many s p v there (f.long NODES) k low)) ∙ ap some (kid_at s p v there (f.long NODES) k low i l)

    pub child_low : (i : ℕ) → i < child_count (v SIZES) (v NODES) k → child i < ENTRY + node_count v
    child_low i l = known.kid_low s p v h d ready asked m after are work f k (child i) (i, is_child i l)

    -- NUMBERS

    number-is_small : (x : ℕ) → x < ENTRY + node_count v → HasNumber p v x → child_number (constants_in s) (v GIVEN) (v INDEXES) (v NODES) x < 65536
    number-is_small x less has =
        ⊎_elim
        (λ (a : x < ENTRY). omega (arith, number_raw (constants_in s) (v GIVEN) (v INDEXES) (v NODES) x a))
        (λ (a : ENTRY ≤ x).
        let e = get_or (v NODES) (x - ENTRY) 0 in
        let inside : x - ENTRY < node_count v = omega (arith, a) in
        ⊎_elim
        (λ (b : e < constants_in s). omega (arith, number-slot (constants_in s) (v GIVEN) (v INDEXES) (v NODES) x e refl a b, given-small (x - ENTRY)))
        (λ (b : constants_in s ≤ e).
        let c = work-constants s p work in
        let q : get_or (v INDEXES) (e - constants_in s) 0 ≡ index_word_lem p v (x - ENTRY) = ap (λ n. get_or (v INDEXES) (e - n) 0) (sym c.1) in
        let boot : IsBootstrapIn p v (x - ENTRY) =
        record {
          made = inside;
          behind = omega (arith, b, c.1);
          inside = omega (arith, f.rests.nodes.inside (x - ENTRY) inside, (room s p work).marks, c, f.long INDEXES, b);
        } in
        omega (
          arith,
          number-index (constants_in s) (v GIVEN) (v INDEXES) (v NODES) x e refl a b,
          q,
          index-small p v (x - ENTRY) boot
              (index_word s p v there (f.long NODES) m.pool.given f.given m.rows f.rowed x a less b has) f.rowed.words,
          f.rowed.words.few,
        ))
        (order e (constants_in s)))
        (order x ENTRY)

    numbered : (x : ℕ) → x < ENTRY + node_count v → HasNumber p v x → Numbered (constants_in s) (node_count v) (v GIVEN) (v INDEXES) (v NODES) x
    numbered x less has =
        record {
          low = less;
          indexed =
              λ a b.
              let q : index_word_lem p v (x - ENTRY) ≡ get_or (v INDEXES) (get_or (v NODES) (x - ENTRY) 0 - constants_in s) 0 =
              ap (λ n. get_or (v INDEXES) (get_or (v NODES) (x - ENTRY) 0 - n) 0) (work-constants s p work).1 in
              subst (λ y. 0 < y) q (index_word s p v there (f.long NODES) m.pool.given f.given m.rows f.rowed x a less b has);
          small = number-is_small x less has;
        }

    -- the children of a node that a slot holds have theirs
    pub done_numbered : KidsDone s p v k → KidsNumbered s v k
    done_numbered done i l =
        let n = kids_many s p v there (f.long NODES) k low in
        numbered (child i) (child_low i l)
        (subst (HasNumber p v) (kid_at s p v there (f.long NODES) k low i l) (done i (omega (arith, n))).index)

    -- those of a bootstrap are constants, which have slots
    pub bootstrap_numbered : tag_at (nodes_in s v) k ≡ bootstrap_tag → KidsNumbered s v k
    unfolding HasNumber
    bootstrap_numbered boot i l = numbered (child i) (child_low i l) (λ told. absurd (no_bootstrap told))
      where
        no_bootstrap : is_bootstrap p v (child i) ≡ true → ⊥
        no_bootstrap told =
            let x = child i in
            let tests = both_true (leb ENTRY x) (leb (constants_of p) (get_or (v NODES) (x - ENTRY) 0)) told in
            let node = leb-true ENTRY x tests.0 in
            let behind = leb-true (constants_of p) (get_or (v NODES) (x - ENTRY) 0) tests.1 in
            let inside : x - ENTRY < node_count v = omega (arith, node, child_low i l) in
            each_at (ConstantChild (nodes_in s v)) (kids_of (nodes_in s v) k) i x
            (known.bootstraps_built s p v h d ready asked m after are work f k boot) (is_child i l) node
            (tag-bootstrap s p v there (f.long NODES) (x - ENTRY) inside (omega (arith, behind, (work-constants s p work).1)))
