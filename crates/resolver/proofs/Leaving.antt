-- Leaving an entry: its children change no other node, it becomes the definition's node, and the nodes hold again. Assumes nothing.
use mathlib.Core.Bool.{Bool, true, false}
use mathlib.Core.List.{List, [], ◌∷◌, map}
use mathlib.Core.Logic.{◌⊎◌, inl, inr, ⊎_elim}
use mathlib.Core.Option.{none, some}
use mathlib.Core.Path.{◌≡◌, refl, sym, ap, subst, ◌∙◌}
use Prim.Native.Nat.{ℕ, zero, suc, ◌+◌, ◌≤◌, ◌<◌}
use native.Mathlib.Omega.{arith}
use lib.Dec.{ltb}
use lib.ListN.{length, get_or, get_elem?, set, take}
use lib.Seq.{get_or-set_same, get_or-set_other, get_or-take}
use borrow.Author.Tests.{lt-ltb, le-ltb}
use Rattle.definition.specs.Basics.{every, from, position}
use Rattle.definition.specs.Shapes.{Entry, with_kids}
use Rattle.definition.specs.Resolving.{Goal, Node, done, same_node, intern, child_of, leave_node, leaving}
use Rattle.facts.proofs.Lists.{found_inside, found_read, map_same, only_here, only-later, map-set, equal, order}
use Rattle.facts.proofs.Chunks.{from-same}
use Rattle.laws.proofs.Resolving.FaithfulToEntries.{leaving-some}
use Rattle.store.specs.Store.{Store, put, IsWord}
use Rattle.store.specs.Chains.{head_of}
use Rattle.store.specs.JobIn.{table_in, entries_in, numbered_in, linked_in}
use Rattle.store.specs.Regions.{COUNTS, MARKS, NODE-HEADS, NODE-LINKS, OFFSETS, FIRSTS, SIZES, GOALS, CHILDREN, NODES, VALUES, NODE-COUNT}
use Rattle.store.specs.Words.{cut, goal_word, mark_word}
use Rattle.store.specs.Entries.{Apart, Entered}
use Rattle.store.proofs.Keeping.{kept_put, kept_then, kept_more}
use Rattle.interner.proofs.Lowering.{chains_ext}
use Rattle.interner.specs.Nodes.{hash_node, hash_at, node_at_lem, Nodes, node_count, NodesIn, node_in_lem, nodes_in, Interned}
use Rattle.resolver.specs.Resolved.{unfinished, lowest_of, Table}
use Rattle.resolver.specs.Moves.{state_at, ToLeave, Written, NodesHold, Leaves}
use Rattle.resolver.proofs.Meanings.{is_done_lem, there}
use Rattle.resolver.proofs.Lowest.{lowest_earlier, lowest_behind, lowest_aside, none-lowest}
use Rattle.resolver.proofs.Tabled.{Row, row, kids_of_lem, kids_there}

-- UNFINISHED ENTRIES

pub unfinished-less :
    (marks : List ℕ) (e x : ℕ) → e < length marks → get_or marks e 0 < 2 → 2 ≤ x → suc (unfinished (set marks e x)) ≤ unfinished marks
unfinished-less [] e x h l g = absurd (omega arith)
unfinished-less (m ∷ marks) zero x h l g =
    let a = only_here (λ m. ltb m 2) m marks (lt-ltb m 2 l) in
    let b = only-later (λ m. ltb m 2) x marks (le-ltb x 2 g) in
    rw (a, b) (omega arith)
unfinished-less (m ∷ marks) (suc e) x h l g = ways (ltb m 2) refl (unfinished-less marks e x (omega arith) l g)
  where
    ways : (b : Bool) → ltb m 2 ≡ b → suc (unfinished (set marks e x)) ≤ unfinished marks → suc (unfinished (m ∷ set marks e x)) ≤ unfinished (m ∷ marks)
    ways true q ih = rw (only_here (λ m. ltb m 2) m marks q, only_here (λ m. ltb m 2) m (set marks e x) q) (omega arith)
    ways false q ih = rw (only-later (λ m. ltb m 2) m marks q, only-later (λ m. ltb m 2) m (set marks e x) q) ih

pub unfinished-same :
    (marks : List ℕ) (e x : ℕ) → get_or marks e 0 < 2 → x < 2 → unfinished (set marks e x) ≡ unfinished marks
unfinished-same [] e x l g = refl
unfinished-same (m ∷ marks) zero x l g =
    let a = only_here (λ m. ltb m 2) m marks (lt-ltb m 2 l) in
    let b = only_here (λ m. ltb m 2) x marks (lt-ltb x 2 g) in
    rw (a, b)
unfinished-same (m ∷ marks) (suc e) x l g = ways (ltb m 2) refl (unfinished-same marks e x l g)
  where
    ways : (b : Bool) → ltb m 2 ≡ b → unfinished (set marks e x) ≡ unfinished marks → unfinished (m ∷ set marks e x) ≡ unfinished (m ∷ marks)
    ways true q ih = rw (only_here (λ m. ltb m 2) m marks q, only_here (λ m. ltb m 2) m (set marks e x) q) (ap suc ih)
    ways false q ih = rw (only-later (λ m. ltb m 2) m marks q, only-later (λ m. ltb m 2) m (set marks e x) q) ih

-- OTHER CHILDREN, of no node

module _ (s firsts sizes old new : List ℕ) where
  -- the entry's children are as they were
  abbrev Agree : ℕ → Type 0
  Agree d = (i : ℕ) → i < get_or sizes d 0 → get_or new (get_or firsts d 0 + i) 0 ≡ get_or old (get_or firsts d 0 + i) 0

  cut-agree : (d : ℕ) → Agree d → cut new (get_or firsts d 0) (get_or sizes d 0) ≡ cut old (get_or firsts d 0) (get_or sizes d 0)
  cut-agree d h = from-same _ _ 0 (get_or sizes d 0) (λ i l k. h i (omega arith))

  node_agree : (d : ℕ) → Agree d → node_at_lem s firsts sizes new d ≡ node_at_lem s firsts sizes old d
  unfolding node_at_lem
  node_agree d h =
      ap
      (λ (kids : List ℕ). elim (get_elem? (numbered_in s) d) [ none ↦ record { tag = 0; literal = 0; byte = 0; kids = [] } | some x ↦ with_kids kids x ])
      (cut-agree d h)

  hash_agree : (d : ℕ) → Agree d → hash_at s firsts sizes new d ≡ hash_at s firsts sizes old d
  unfolding hash_at
  hash_agree d h = ap (λ (kids : List ℕ). elim (get_elem? (table_in s) d) [ none ↦ 0 | some x ↦ hash_node x kids ]) (cut-agree d h)

  module _ (nodes : List ℕ) (n : ℕ) (agree : (i : ℕ) → i < n → Agree (get_or nodes i 0)) where
    nodes_agree : (h : ℕ) (heads links : List ℕ) → Nodes h s firsts sizes old nodes heads links n → Nodes h s firsts sizes new nodes heads links n
    nodes_agree h heads links g =
        record {
          few = g.few;
          inside = g.inside;
          chains =
              chains_ext
              (λ i. head_of h (hash_at s firsts sizes old (get_or nodes i 0)))
              (λ i. head_of h (hash_at s firsts sizes new (get_or nodes i 0)))
              heads
              links
              n
              (λ i l. ap (head_of h) (hash_agree (get_or nodes i 0) (agree i l)))
              g.chains;
          unlike = λ i j l k. rw (node_agree (get_or nodes i 0) (agree i (omega arith)), node_agree (get_or nodes j 0) (agree j k)) (g.unlike i j l k);
        }

    list_agree : map (node_at_lem s firsts sizes new) (take n nodes) ≡ map (node_at_lem s firsts sizes old) (take n nodes)
    list_agree =
        map_same (node_at_lem s firsts sizes new) (node_at_lem s firsts sizes old) (take n nodes) λ d a.
        let i = a.0 in
        let l = found_inside (take n nodes) i d a.1 in
        let k : i < n = omega (arith, length-take-below n nodes) in
        let q : get_or nodes i 0 ≡ d = sym (get_or-take n nodes i 0 k) ∙ found_read (take n nodes) i d 0 a.1 in
        subst (λ (x : ℕ). node_at_lem s firsts sizes new x ≡ node_at_lem s firsts sizes old x) q (node_agree (get_or nodes i 0) (agree i k))
      where
        length-take-below : (n : ℕ) (l : List ℕ) → length (take n l) ≤ n
        length-take-below zero l = omega arith
        length-take-below (suc n) [] = omega arith
        length-take-below (suc n) (x ∷ l) = let ih = length-take-below n l in omega arith

-- THE NODE that an entry becomes

map-from : {A B : Type 0} (g : A → B) (f : ℕ → A) (k n : ℕ) → map g (from f k n) ≡ from (λ i. g (f i)) k n
unfolding from
map-from g f k zero = refl
map-from g f k (suc n) = ap (λ l. g (f k) ∷ l) (map-from g f (suc k) n)

node_some :
    (s firsts sizes children : List ℕ) (e : ℕ) (x : Entry ℕ Goal) → Row s e x →
    node_at_lem s firsts sizes children e ≡ with_kids (cut children (get_or firsts e 0) (get_or sizes e 0)) x
unfolding node_at_lem with_kids
node_some s firsts sizes children e x r =
    let kids = cut children (get_or firsts e 0) (get_or sizes e 0) in
    rw (r.numbered, node_at_lem) (sym (ap (with_kids kids) r.is))

abbrev node_of : List ℕ → Entry ℕ Goal → Node
node_of marks x = with_kids (map (child_of (map mark_word marks)) x.kids) x

-- LEAVING: t before, v with the children written, w with the node, then its mark
module _
    (h : ℕ) (s : List ℕ) (t v : Store) (e : ℕ) (inside : e < entries_in s) (table : Table s t) (hold : NodesHold h s t) (to : ToLeave t e) (written : Written t v e) where
  -- no node was made from the entry
  other : (i : ℕ) → i < node_count t → get_or (t NODES) i 0 ≡ e → ⊥
  other i l q =
      let m = hold.made i l in
      let z : get_or (t MARKS) (get_or (t NODES) i 0) 0 ≡ 1 = ap (λ d. get_or (t MARKS) d 0) q ∙ to.is_underway in
      omega arith

  agrees : (i : ℕ) → i < node_count t → Agree s (t FIRSTS) (t SIZES) (t CHILDREN) (v CHILDREN) (get_or (t NODES) i 0)
  agrees i l j k = written.others (get_or (t FIRSTS) d 0 + j) (side (table.entered.apart d e (hold.nodes.inside i l) inside (other i l)))
    where
      d : ℕ
      d = get_or (t NODES) i 0

      side : Apart (t FIRSTS) (t SIZES) d e → (get_or (t FIRSTS) d 0 + j < get_or (t FIRSTS) e 0) ⊎ (get_or (t FIRSTS) e 0 + get_or (t SIZES) e 0 ≤ get_or (t FIRSTS) d 0 + j)
      side (inl a) = inl (omega arith)
      side (inr a) = inr (omega arith)

  pub entered_still : Entered s (v OFFSETS) (v FIRSTS) (v SIZES) (v VALUES)
  entered_still = rw (written.kept OFFSETS refl, written.kept FIRSTS refl, written.kept SIZES refl, written.kept VALUES refl) table.entered

  pub nodes_still : NodesIn h s v
  nodes_still =
      rw (written.kept FIRSTS refl, written.kept SIZES refl, written.kept NODES refl, written.kept NODE-HEADS refl, written.kept NODE-LINKS refl, written.kept COUNTS refl)
      (nodes_agree s (t FIRSTS) (t SIZES) (t CHILDREN) (v CHILDREN) (t NODES) (node_count t) agrees h (t NODE-HEADS) (t NODE-LINKS) hold.nodes)

  pub room_still : node_count v < entries_in s
  room_still =
      rw (written.kept COUNTS refl)
      (omega (arith, hold.room, unfinished-less (t MARKS) e 2 (there (t MARKS) e (omega (arith, to.is_underway))) (omega (arith, to.is_underway)) (omega arith)))

  list_still : nodes_in s v ≡ nodes_in s t
  list_still =
      let a = written.kept FIRSTS refl in
      let b = written.kept SIZES refl in
      let c = written.kept NODES refl in
      let d = written.kept COUNTS refl in
      let moved : nodes_in s v ≡ map (node_at_lem s (t FIRSTS) (t SIZES) (v CHILDREN)) (take (node_count t) (t NODES)) =
      λ i. map (node_at_lem s (a i) (b i) (v CHILDREN)) (take (get_or (d i) NODE-COUNT 0) (c i)) in
      moved ∙ list_agree s (t FIRSTS) (t SIZES) (t CHILDREN) (v CHILDREN) (t NODES) (node_count t) agrees

  node_is : (x : Entry ℕ Goal) → get_elem? (linked_in s) e ≡ some x → node_in_lem s v e ≡ node_of (t MARKS) x
  node_is x at =
      let k = kids_of_lem s (t OFFSETS) (t FIRSTS) (t SIZES) (t GOALS) table.entered table.linked e x at in
      let word : ℕ → Goal = λ i. goal_word (get_or (t GOALS) (get_or (t FIRSTS) e 0 + i) 0) in
      let child : Goal → ℕ = child_of (map mark_word (t MARKS)) in
      let cuts : cut (v CHILDREN) (get_or (t FIRSTS) e 0) (get_or (t SIZES) e 0) ≡ map child x.kids =
      from-same _ (λ i. child (word i)) 0 (get_or (t SIZES) e 0) (λ i l g. written.is i (omega arith))
      ∙ sym (map-from child word 0 (get_or (t SIZES) e 0))
      ∙ ap (map child) k.is in
      rw (written.kept FIRSTS refl, written.kept SIZES refl)
      (node_some s (t FIRSTS) (t SIZES) (v CHILDREN) e x (row s e x at) ∙ ap (λ kids. with_kids kids x) cuts)

  module _ (w : Store) (k : ℕ) (interned : Interned h s v w e k) where
    marks_still : w MARKS ≡ t MARKS
    marks_still = interned.kept MARKS refl ∙ written.kept MARKS refl

    there_still : e < length (t MARKS)
    there_still = there (t MARKS) e (omega (arith, to.is_underway))

    -- the mark is a word
    pub mark_fits : entries_in s ≤ 131072 → IsWord (2 + k)
    mark_fits few = omega (arith, interned.low, interned.again.few)

    made : (visits : ℕ) (x : Entry ℕ Goal) → get_elem? (linked_in s) e ≡ some x → leave_node e (node_of (t MARKS) x) (state_at s t visits) ≡ state_at s (put w MARKS e (2 + k)) (suc visits)
    unfolding leave_node
    made visits x at =
        let n = node_is x at in
        let place : k ≡ position (same_node (node_of (t MARKS) x)) (nodes_in s t) =
        interned.node ∙ (λ i. position (same_node (n i)) (list_still i)) in
        let marks : set (map mark_word (t MARKS)) e (done (position (same_node (node_of (t MARKS) x)) (nodes_in s t))) ≡ map mark_word (set (w MARKS) e (2 + k)) =
        sym (map-set mark_word (w MARKS) e (2 + k) ∙ rw (marks_still, is_done_lem (2 + k) k (omega arith)) (ap (λ j. set (map mark_word (t MARKS)) e (done j)) place)) in
        let nodes : intern (node_of (t MARKS) x) (nodes_in s t) ≡ nodes_in s w = sym (interned.nodes ∙ (λ i. intern (n i) (list_still i))) in
        λ i. record { marks = marks i; nodes = nodes i; visits = suc visits }

    is : (visits : ℕ) → leaving (linked_in s) e (state_at s t visits) ≡ state_at s (put w MARKS e (2 + k)) (suc visits)
    is visits =
        let (x, at, _) = kids_there s (t OFFSETS) (t FIRSTS) (t SIZES) (t GOALS) table.entered table.linked e inside in
        leaving-some (linked_in s) e x (state_at s t visits) at ∙ made visits x at

    -- as it was before the children were written
    count_still : node_count v ≡ node_count t
    count_still = ap (λ (l : List ℕ). get_or l NODE-COUNT 0) (written.kept COUNTS refl)

    entry_still : (i : ℕ) → get_or (v NODES) i 0 ≡ get_or (t NODES) i 0
    entry_still i = ap (λ (l : List ℕ). get_or l i 0) (written.kept NODES refl)

    -- what is told of each node
    abbrev Made : ℕ → Type 0
    Made i =
        ((i < node_count v) × (get_or (w NODES) i 0 ≡ get_or (v NODES) i 0) × (i ≡ k → get_or (v NODES) i 0 ≤ e))
        ⊎ ((i ≡ k) × (get_or (w NODES) i 0 ≡ e) × (i < node_count v → e < get_or (v NODES) i 0))

    made_still : (i : ℕ) → Made i → 1 < get_or (set (w MARKS) e (2 + k)) (get_or (w NODES) i 0) 0
    made_still i (inl (l, q, _)) =
        let low : i < node_count t = omega (arith, count_still) in
        rw (q ∙ entry_still i, get_or-set_other (w MARKS) e (get_or (t NODES) i 0) (2 + k) 0 (other i low), marks_still) (hold.made i low)
    made_still i (inr (_, q, _)) = rw (q, marks_still, get_or-set_same (t MARKS) e (2 + k) 0 there_still) (omega arith)

    -- the entry was underway
    unmade : get_or (t MARKS) e 0 < 2
    unmade = omega (arith, to.is_underway)

    lowest_still : (i : ℕ) → Made i → get_or (w NODES) i 0 ≡ lowest_of i (set (t MARKS) e (2 + k))
    lowest_still i (inl (l, q, above)) =
        let is = hold.lowest i (omega (arith, count_still)) in
        q ∙ entry_still i ∙ is
        ∙ sym
        (⊎_elim
        (λ (z : i ≡ k). lowest_behind (t MARKS) e unmade k i z (omega (arith, above z, entry_still i)))
        (λ (z : i ≡ k → ⊥). lowest_aside (t MARKS) e unmade k i z)
        (equal i k))
    lowest_still i (inr (z, q, below)) =
        q
        ∙ sym
        (lowest_earlier (t MARKS) e unmade k i z
        (⊎_elim
        (λ (l : i < node_count t). omega (arith, below (omega (arith, count_still)), entry_still i, hold.lowest i l))
        (λ (l : node_count t ≤ i). none-lowest (t MARKS) e i there_still (λ d. omega (arith, to.told d)))
        (order i (node_count t))))

    hold-again : NodesHold h s (put w MARKS e (2 + k))
    hold-again =
        record {
          nodes = interned.again;
          made = λ i l. made_still i (interned.made i l);
          lowest = λ i l. rw marks_still (lowest_still i (interned.made i l));
          room =
              rw marks_still
              (omega (
                arith,
                interned.count,
                count_still,
                hold.room,
                unfinished-less (t MARKS) e (2 + k) there_still unmade (omega arith),
              ));
        }

    pub leaves : Leaves h s t (put w MARKS e (2 + k)) e
    unfolding every
    leaves =
        let all : List ℕ = COUNTS ∷ MARKS ∷ NODE-HEADS ∷ NODE-LINKS ∷ CHILDREN ∷ NODES ∷ [] in
        record {
          is = is;
          hold = hold-again;
          counters = λ c n. interned.counters c n ∙ ap (λ (l : List ℕ). get_or l c 0) (written.kept COUNTS refl);
          kept =
              kept_put all t w MARKS e (2 + k) refl
              (kept_then all t v w
              (kept_more (CHILDREN ∷ []) all t v refl written.kept)
              (kept_more (COUNTS ∷ NODE-HEADS ∷ NODE-LINKS ∷ NODES ∷ []) all v w refl interned.kept));
        }
