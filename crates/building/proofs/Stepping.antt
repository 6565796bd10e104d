-- A child's number, against the definition. Assumes nothing.
use mathlib.Core.Bool.{Bool, true, false}
use mathlib.Core.List.{List, map}
use mathlib.Core.Path.{◌≡◌, refl, sym, subst, ◌∙◌}
use Prim.Native.Nat.{ℕ, ◌+◌, ◌-◌, ◌≤◌, ◌<◌}
use native.Mathlib.Omega.{arith}
use lib.Dec.{eqb, ltb}
use lib.ListN.{length, get_or}
use borrow.Author.Tests.{le-ltb, ltb-false}
use Rattle.definition.specs.Basics.{Result, good, bad, ◌>>=◌, at_record}
use Rattle.definition.specs.Shapes.{bootstrap_tag}
use Rattle.definition.specs.Definitions.{tag_at}
use Rattle.definition.specs.Resolving.{Node, first_node}
use Rattle.definition.specs.Building.{Pool, Rows, slot_of, slots_of, row_index, kids_of, node_number, child_number}
use Rattle.facts.proofs.Lists.{true≢false}
use Rattle.laws.proofs.Building.ChildNumbers.{slot_of-raw, slot_of-node, node_number-row, node_number-slot, child_number-raw, child_number-node}
use Rattle.slots.specs.Gaps.{GapTable}
use Rattle.store.specs.Store.{Store, size}
use Rattle.store.specs.Regions.{COUNTS, GIVEN, RECORDS, NODES, PENDING, PLACE, GAP-COUNT, ODD, WIDE, PLAIN, PENDING-COUNT, Work}
use Rattle.store.specs.Words.{ENTRY, child_slot}
use Rattle.interner.specs.Nodes.{node_count, nodes_in, record_in}
use Rattle.rows.specs.Rowed.{row_in, IsBootstrapIn, index_word_lem, Indexed, is_bootstrap, HasNumber}
use Rattle.rows.proofs.Asking.{index-again}
use Rattle.pool.specs.Pooled.{place_count, PooledIn, Slotted, SlottedAll}
use Rattle.pool.proofs.Giving.{slots_same}
use Rattle.building.specs.Working.{NodeSlotted, Working, Grows, RowNumbered, Numbered}
use Rattle.building.proofs.Tagging.{tag-bootstrap, tag-told}
use Rattle.building.proofs.Lasting.{made_same, nodes_same, record_same, tells, there_now, grows_not, grows_then, told-as, stacked_not, stacked_then, grows_goes, rows_goes, working_goes, grows_indexed, stacked_indexed, working_indexed}
use Rattle.building.proofs.Kids.{slots_of-had, row_kids, slotted_kids, kids_slotted, slotted_stacks, all_slotted_stacks}

-- an index that is given changes no pool
pooled_indexed :
    {found : Rows → Result ℕ (ℕ × Rows)} (p : List ℕ) (k : ℕ) (t u : Store) (g : GapTable) (r : ℕ) → Indexed found p k t u r →
    (pool : Pool) → PooledIn pool t g → PooledIn pool u g
pooled_indexed p k t u g r x pool q =
    record {
      slots =
          slots_same (t COUNTS) (u COUNTS) g
          (record {
            count = x.counters GAP-COUNT refl;
            odd = x.counters ODD refl;
            wide = x.counters WIDE refl;
            plain = x.counters PLAIN refl;
          })
          ∙ q.slots;
      given = rw (x.kept GIVEN refl) q.given;
      pending = rw (x.kept PENDING refl, x.counters PENDING-COUNT refl) q.pending;
    }

module _
    (s p : List ℕ) (t : Store) (g : GapTable) (work : Work s p) (w : Working s p t g) (long : length (t NODES) ≡ size p NODES) where
  abbrev nodes : List Node
  nodes = nodes_in s t

  -- A BOOTSTRAP

  module _ (k : ℕ) (is : IsBootstrapIn p t k) where
    number_is :
        (pool : Pool) (rows : Rows) →
        node_number nodes k pool rows ≡ (slots_of nodes (kids_of nodes k) pool >>= λ r. at_record k (row_index r.0 rows) >>= λ i. good (i.0, r.1, i.1))
    number_is pool rows =
        node_number-row nodes k pool rows (tag-bootstrap s p t (there_now s p t work w.standing) k is.made long is.behind)

    -- it has an index
    pub bootstrap_had : 0 < index_word_lem p t k → RowNumbered s p k t t g g 0
    unfolding at_record
    bootstrap_had there =
        let has = w.indexed (get_or (t NODES) k 0) is.behind there in
        record {
          step =
              record {
                met =
                    λ pool rows q m z.
                    let a = slots_of-had nodes pool t g q (kids_of nodes k) (slotted_kids s p t work w.standing long k is.made has) in
                    let b = subst (λ row. row_index row rows ≡ good (index_word_lem p t k - 1, rows)) (row_kids s p t work w.standing long k is.made) (index-again p t k is there rows m) in
                    (index_word_lem p t k - 1, pool, rows, number_is pool rows ∙ rw (a, b, at_record), q, m);
                refused = λ pool rows q m z. absurd (omega arith);
                again = λ z. w;
                stacked = λ z. stacked_not t;
                grows = λ z. grows_not t g;
              };
          done = λ z. there;
        }

    module _ (u : Store) (h : GapTable) (r : ℕ) (x : SlottedAll s k t u g h r) where
      -- a child of it has none, and gets no slot
      pub bootstrap_refused : (r ≡ 0 → ⊥) → RowNumbered s p k t u g h r
      bootstrap_refused bad' =
          record {
            step =
                record {
                  met = λ pool rows q m z. absurd (bad' z);
                  refused = λ pool rows q m z. told-as _ _ t u r (λ e a. number_is pool rows ∙ rw a) (x.refused pool q z);
                  again = λ z. absurd (bad' z);
                  stacked = λ z. absurd (bad' z);
                  grows = λ z. absurd (bad' z);
                };
            done = λ z. absurd (bad' z);
          }

      module _ (z : r ≡ 0) (long' : length (u NODES) ≡ size p NODES) where
        abbrev w' : Working s p u h
        w' = working_goes s p t u g h (x.goes z) w

        abbrev grown : Grows t u g h
        grown = grows_goes s p t u g h (x.goes z)

        made : k < node_count u
        made = rw (made_same s p t u grown.kept grown.counters) is.made

        nodes_are : nodes_in s u ≡ nodes
        nodes_are = nodes_same s p t u grown.kept grown.counters

        has : NodeSlotted u k
        has = kids_slotted s p u work w'.standing long' k made (rw nodes_are (x.has z))

        row_is : row_in u k ≡ map (child_slot (u GIVEN)) (kids_of nodes k)
        row_is = rw nodes_are at (row_kids s p u work w'.standing long' k made)

        module _ (v : Store) (o : ℕ) (y : Indexed (row_index (row_in u k)) p k u v o) where
          abbrev grown' : Grows t v g h
          grown' = grows_then t u v g h h grown (grows_indexed s p _ k u v h o y)

          -- what `refuse_at` asks
          pub unindexed_tells : (PLACE < size p COUNTS) × (k < size p NODES) × (get_or (v NODES) k 0 < size p RECORDS)
          unindexed_tells = tells s p t v grown'.kept grown'.counters work w.standing k is.made

          -- its row gets an index
          pub bootstrap_indexed : IsBootstrapIn p u k → o ≡ 0 → RowNumbered s p k t v g h 0
          unfolding at_record
          bootstrap_indexed is' zero =
              record {
                step =
                    record {
                      met =
                          λ pool rows q m _.
                          let (after, a, q') = x.met pool q z in
                          let (rows', b, m') = y.given zero rows (rows_goes s p t u g h (x.goes z) w rows m) in
                          let c = subst (λ row. row_index row rows ≡ good (index_word_lem p v k - 1, rows')) row_is b in
                          (index_word_lem p v k - 1, after, rows', number_is pool rows ∙ rw (a, c, at_record), pooled_indexed p k u v h o y after q', m');
                      refused = λ pool rows q m more. absurd (omega arith);
                      again = λ _. working_indexed s p _ k u v h o y y.others zero is' has w';
                      stacked = λ _. stacked_then t u v (all_slotted_stacks s p t work w.standing long u g h w.live k is.made r x z) (stacked_indexed s p _ k u v h o y);
                      grows = λ _. grown';
                    };
                done = λ _. y.index zero;
              }

          -- or there is none, which is told at its record
          pub bootstrap_unindexed :
              (o ≡ 0 → ⊥) → (b : Store) (o' : ℕ) → (o' ≡ o) × (place_count b ≡ record_in v k) → RowNumbered s p k t b g h o'
          unfolding at_record
          bootstrap_unindexed bad' b o' (same, told) =
              rw same
              (record {
                step =
                    record {
                      met = λ pool rows q m zero. absurd (bad' zero);
                      refused =
                          λ pool rows q m more.
                          let (after, a, q') = x.met pool q z in
                          let (e, f) = y.refused bad' in
                          let c = subst (λ row. row_index row rows ≡ bad 17) row_is (f rows (rows_goes s p t u g h (x.goes z) w rows m)) in
                          record {
                            node = k;
                            made = is.made;
                            refused = number_is pool rows ∙ rw (a, c, at_record, e);
                            place = told ∙ record_same s p t v grown'.kept grown'.counters k;
                          };
                      again = λ zero. absurd (bad' zero);
                      stacked = λ zero. absurd (bad' zero);
                      grows = λ zero. absurd (bad' zero);
                    };
                done = λ zero. absurd (bad' zero);
              })

  -- A CHILD

  module _ (child : ℕ) (low : child < ENTRY + node_count t) (u : Store) (h : GapTable) (r : ℕ) where
    -- that is a bootstrap
    pub child_bootstrap : (b : Bool) → b ≡ is_bootstrap p t child → b ≡ true → ENTRY ≤ child → RowNumbered s p (child - ENTRY) t u g h r → Numbered s p child t u g h r
    unfolding HasNumber
    child_bootstrap b told so high x =
        let is : (pool : Pool) (rows : Rows) → child_number nodes child pool rows ≡ node_number nodes (child - ENTRY) pool rows = λ pool rows. child_number-node nodes child pool rows (le-ltb child ENTRY high) in
        record {
          step =
              record {
                met = λ pool rows q m z. let (n, pool', rows', e, q', m') = x.step.met pool rows q m z in (n, pool', rows', is pool rows ∙ e, q', m');
                refused = λ pool rows q m z. told-as _ _ t u r (λ e a. is pool rows ∙ a) (x.step.refused pool rows q m z);
                again = x.step.again;
                stacked = x.step.stacked;
                grows = x.step.grows;
              };
          done =
              λ z.
              record {
                index = λ _. x.done z;
                slot = λ not. true≢false (sym so ∙ told ∙ sym (rw ((x.step.grows z).kept NODES refl) refl) ∙ not);
              };
        }

    -- that isn't
    child_number_lem :
        is_bootstrap p t child ≡ false → (pool : Pool) (rows : Rows) →
        child_number nodes child pool rows ≡ (at_record (child - ENTRY) (slot_of nodes false child pool) >>= λ x. good (x.0, x.1, rows))
    unfolding at_record
    child_number_lem not pool rows = go (ltb child first_node) refl
      where
        go : (b : Bool) → ltb child first_node ≡ b → child_number nodes child pool rows ≡ (at_record (child - ENTRY) (slot_of nodes false child pool) >>= λ x. good (x.0, x.1, rows))
        go true e = child_number-raw nodes child pool rows e ∙ rw (slot_of-raw nodes false child pool e, at_record)
        go false e =
            let high = ltb-false child first_node e in
            let made : child - ENTRY < node_count t = omega arith in
            let tag : eqb (tag_at nodes (child - ENTRY)) bootstrap_tag ≡ false = sym (tag-told s p t (there_now s p t work w.standing) (child - ENTRY) made long child high refl) ∙ not in
            child_number-node nodes child pool rows e ∙ node_number-slot nodes (child - ENTRY) pool rows tag ∙ rw (slot_of-node nodes false child pool e)

    -- what `refuse_at` asks
    pub unslotted_tells :
        Slotted s false child t u g h r → 0 < r →
        (ENTRY ≤ child) × (PLACE < size p COUNTS) × (child - ENTRY < size p NODES) × (get_or (u NODES) (child - ENTRY) 0 < size p RECORDS)
    unslotted_tells x more =
        let high = x.node more in
        let grown = grows_goes s p t u g h x.goes in
        let asks = tells s p t u grown.kept grown.counters work w.standing (child - ENTRY) (omega arith) in
        (high, asks.0, asks.1, asks.2)

    module _ (b : Bool) (told : b ≡ is_bootstrap p t child) (so : b ≡ false) (x : Slotted s false child t u g h r) where
      not : is_bootstrap p t child ≡ false
      not = sym told ∙ so

      -- it has a slot
      pub child_slotted : r ≡ 0 → Numbered s p child t u g h 0
      unfolding HasNumber at_record
      child_slotted z =
          record {
            step =
                record {
                  met =
                      λ pool rows q m _.
                      let (after, e, q') = x.met pool q z in
                      (child_slot (u GIVEN) child, after, rows, child_number_lem not pool rows ∙ rw (e, at_record), q', rows_goes s p t u g h x.goes w rows m);
                  refused = λ pool rows q m more. absurd (omega arith);
                  again = λ _. working_goes s p t u g h x.goes w;
                  stacked = λ _. slotted_stacks s p t work w.standing long u g h w.live child low false r x z;
                  grows = λ _. grows_goes s p t u g h x.goes;
                };
            done =
                λ _.
                record {
                  index = λ boot. true≢false (sym boot ∙ (rw (x.goes.kept NODES refl) not));
                  slot = λ _. x.has z;
                };
          }

      -- it gets none, which is told at its record
      pub child_unslotted :
          0 < r → (y : Store) (r' : ℕ) → (r' ≡ r) × (place_count y ≡ record_in u (child - ENTRY)) → Numbered s p child t y g h r'
      unfolding at_record
      child_unslotted more y r' (same, place) =
          rw same
          (record {
            step =
                record {
                  met = λ pool rows q m z. absurd (omega arith);
                  refused =
                      λ pool rows q m _.
                      let e = x.refused pool q more in
                      let grown = grows_goes s p t u g h x.goes in
                      record {
                        node = child - ENTRY;
                        made = omega (arith, x.node more);
                        refused = child_number_lem not pool rows ∙ rw (e, at_record);
                        place = place ∙ record_same s p t u grown.kept grown.counters (child - ENTRY);
                      };
                  again = λ z. absurd (omega arith);
                  stacked = λ z. absurd (omega arith);
                  grows = λ z. absurd (omega arith);
                };
            done = λ z. absurd (omega arith);
          })
