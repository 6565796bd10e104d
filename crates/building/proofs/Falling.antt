-- The slots of the raw bootstraps' children, by falling index, against the definition. Assumes nothing.
use mathlib.Core.List.{List, [], ◌∷◌, map}
use mathlib.Core.Logic.{⊎_elim}
use mathlib.Core.Path.{◌≡◌, sym, ap, ◌∙◌}
use Prim.Native.Nat.{ℕ, suc, ◌-◌, ◌≤◌, ◌<◌}
use native.Mathlib.Omega.{arith}
use lib.ListN.{length}
use Rattle.definition.specs.Basics.{good, bad, from}
use Rattle.definition.specs.Resolving.{Node}
use Rattle.definition.specs.Building.{Pool, Row, slots_of, kids_of, raw_rows as rowsOfRaws}
use Rattle.facts.proofs.Chunks.{from-same}
use Rattle.facts.proofs.Lists.{equal}
use Rattle.slots.specs.Gaps.{GapTable}
use Rattle.store.specs.Store.{Store, size}
use Rattle.store.specs.Regions.{GIVEN, NODES, Work}
use Rattle.store.specs.Words.{child_slot}
use Rattle.interner.specs.Nodes.{node_count, nodes_in}
use Rattle.rows.specs.Rowed.{backwards, raw_rows, raw_index, raw_node, row_in, RawsReadyIn}
use Rattle.pool.specs.Pooled.{PooledIn, LiveIn, NodesThere, KidsThere, Goes, SlottedAll}
use Rattle.pool.proofs.Giving.{goes_not, goes_then}
use Rattle.building.specs.Working.{NodeSlotted, Standing, Stacked, Grows, RawsSlotted, raw_row}
use Rattle.building.proofs.Lasting.{made_same, raws_same, raw_node-same, nodes_same, told-since, standing_stays, node_stays, node_row_same, there_now, stacked_not, stacked_then, grows_goes}
use Rattle.building.proofs.Kids.{row_kids, kids_slotted, all_slotted_stacks}

-- a raw bootstrap by rising index
abbrev raw_at_lem : Store → ℕ → ℕ × ℕ
raw_at_lem t i = (raw_index t i, raw_node t i)

-- THE LOOP: those from number i on have their rows, and what the others give in front of them is the whole

pub record Falling (s : List ℕ) (t u : Store) (g h : GapTable) (i : ℕ) : Type 0 where
  pub low : i ≤ raw_rows t
  pub rest :
      (pool : Pool) → PooledIn pool t g →
      (mid : Pool)
      × (rowsOfRaws (nodes_in s t) (backwards (raw_at_lem t) (raw_rows t)) pool []
      ≡ rowsOfRaws (nodes_in s t) (backwards (raw_at_lem t) i) mid (from (raw_row t u) i (raw_rows t - i)))
      × PooledIn mid u h
  pub has : (j : ℕ) → i ≤ j → j < raw_rows t → NodeSlotted u (raw_node t j)
  pub stacked : Stacked t u
  pub goes : Goes t u g h

pub falling_begin : (s : List ℕ) (t : Store) (g : GapTable) (n : ℕ) → n ≡ raw_rows t → Falling s t t g g n
unfolding from
falling_begin s t g n e =
    let z : raw_rows t - raw_rows t ≡ 0 = omega arith in
    rw e
    (record {
      low = omega arith;
      rest = λ pool q. (pool, rw (z, from), q);
      has = λ j a b. absurd (omega arith);
      stacked = stacked_not t;
      goes = goes_not t g;
    })

module _
    (s p : List ℕ) (t u : Store) (g h : GapTable) (i : ℕ) (work : Work s p) (standing : Standing s p t) (live : LiveIn t g) (l : Falling s t u g h i) where
  abbrev nodes : List Node
  nodes = nodes_in s t

  abbrev grown : Grows t u g h
  grown = grows_goes s p t u g h l.goes

  standing_u : Standing s p u
  standing_u = standing_stays s p t u grown.kept grown.counters standing

  nodes_are : nodes_in s u ≡ nodes
  nodes_are = nodes_same s p t u grown.kept grown.counters

  -- none is left
  pub falling_end : i ≤ 0 → RawsSlotted s t u g h 0
  unfolding rowsOfRaws backwards
  falling_end e =
      let z : i ≡ 0 = omega arith in
      let y : raw_rows t - 0 ≡ raw_rows t = omega arith in
      record {
        met = λ pool q f. let (mid, is, q') = l.rest pool q in (mid, is ∙ rw (z, backwards, rowsOfRaws, y), q');
        refused = λ pool q f. absurd (omega arith);
        has = λ f j less. l.has j (omega arith) less;
        stacked = λ f. l.stacked;
        goes = λ f. l.goes;
      }

  -- what the code asks for the next
  module _ (j : ℕ) (is : suc j ≡ i) where
    pub next-raws : RawsReadyIn p u × (j < raw_rows u)
    next-raws = (standing_u.raws, rw (raws_same s p t u grown.kept grown.counters) (omega (arith, l.low)))

    module _ (k : ℕ) (at : k ≡ raw_node u j) (made : k < node_count u) where
      pub next-asks : NodesThere s p u × LiveIn u h × (k < node_count u) × KidsThere s u k
      next-asks = (there_now s p u work standing_u, l.goes.live live, made, standing_u.kids k made)

      node_is : k ≡ raw_node t j
      node_is = at ∙ raw_node-same s p t u grown.kept grown.counters j

      pulled : backwards (raw_at_lem t) i ≡ (raw_index t j, k) ∷ backwards (raw_at_lem t) j
      unfolding backwards
      pulled = rw (← is, backwards, node_is)

      module _ (v : Store) (o : GapTable) (r : ℕ) (x : SlottedAll s k u v h o r) where
        -- no slot for a child of it
        pub falling_refused : (r ≡ 0 → ⊥) → RawsSlotted s t v g o r
        unfolding rowsOfRaws
        falling_refused f =
            record {
              met = λ pool q z. absurd (f z);
              refused =
                  λ pool q z.
                  let (mid, e, q') = l.rest pool q in
                  told-since s p t u grown.kept grown.counters _ _ v r
                  (λ told a. let b : slots_of nodes (kids_of nodes k) mid ≡ bad told = rw nodes_are at a in e ∙ rw (pulled, rowsOfRaws, b))
                  (x.refused mid q' z);
              has = λ z. absurd (f z);
              stacked = λ z. absurd (f z);
              goes = λ z. absurd (f z);
            }

        module _ (z : r ≡ 0) (long : length (u NODES) ≡ size p NODES) (long' : length (v NODES) ≡ size p NODES) where
          abbrev grown' : Grows u v h o
          grown' = grows_goes s p u v h o (x.goes z)

          standing_v : Standing s p v
          standing_v = standing_stays s p u v grown'.kept grown'.counters standing_u

          made' : k < node_count v
          made' = rw (made_same s p u v grown'.kept grown'.counters) made

          nodes_now : nodes_in s v ≡ nodes
          nodes_now = nodes_same s p u v grown'.kept grown'.counters ∙ nodes_are

          has_now : NodeSlotted v k
          has_now = kids_slotted s p v work standing_v long' k made' (rw (nodes_same s p u v grown'.kept grown'.counters) (x.has z))

          row_now : row_in v (raw_node t j) ≡ map (child_slot (v GIVEN)) (kids_of nodes k)
          row_now = ap (row_in v) (sym node_is) ∙ (rw nodes_now at (row_kids s p v work standing_v long' k made'))

          -- with its row those behind it are the rows so far
          rows_now :
              ◌≡◌ {A = List (ℕ × Row)} ((raw_index t j, map (child_slot (v GIVEN)) (kids_of nodes k)) ∷ from (raw_row t u) i (raw_rows t - i)) (from (raw_row t v) j (raw_rows t - j))
          unfolding from
          rows_now =
              let m : raw_rows t - j ≡ suc (raw_rows t - i) = omega (arith, l.low) in
              rw (m, from, row_now, is)
              (ap (λ (rows : List (ℕ × Row)). (raw_index t j, map (child_slot (v GIVEN)) (kids_of nodes k)) ∷ rows)
              (from-same (raw_row t u) (raw_row t v) i (raw_rows t - i)
              (λ a low high.
              ap (λ (row : Row). (raw_index t a, row))
              (sym (node_row_same s p u v grown'.kept grown'.counters (x.goes z).given (raw_node t a) (l.has a low (omega (arith, l.low))))))))

          pub falling_next : Falling s t v g o j
          unfolding rowsOfRaws
          falling_next =
              record {
                low = omega (arith, l.low);
                rest =
                    λ pool q.
                    let (mid, e, q') = l.rest pool q in
                    let (after, f, q'') = x.met mid q' z in
                    let b : slots_of nodes (kids_of nodes k) mid ≡ good (map (child_slot (v GIVEN)) (kids_of nodes k), after) = rw nodes_are at f in
                    (after, e ∙ rw (pulled, rowsOfRaws, b) (ap (rowsOfRaws nodes (backwards (raw_at_lem t) j) after) rows_now), q'');
                has =
                    λ a low high.
                    ⊎_elim
                    (λ (y : a ≡ j). rw (y, ← node_is) has_now)
                    (λ (y : a ≡ j → ⊥). node_stays s p u v grown'.kept grown'.counters (x.goes z).given (raw_node t a) (l.has a (omega arith) high))
                    (equal a j);
                stacked = stacked_then t u v l.stacked (all_slotted_stacks s p u work standing_u long v h o (l.goes.live live) k made r x z);
                goes = goes_then t u v g h o l.goes (x.goes z);
              }
