-- Raw bootstraps, then the stack: the whole of building, against the definition. Assumes nothing.
use mathlib.Core.List.{List, []}
use mathlib.Core.Logic.{inl, inr, ⊎_elim}
use mathlib.Core.Path.{◌≡◌, refl, sym, ap, subst, ◌∙◌}
use Prim.Native.Nat.{ℕ, ◌+◌, ◌-◌, ◌≤◌, ◌<◌}
use native.Mathlib.Omega.{arith}
use lib.ListN.{length, get_or}
use Rattle.definition.specs.Basics.{Result, Refusal, from, ◌>>=◌}
use Rattle.definition.specs.Resolving.{Node}
use Rattle.definition.specs.Building.{Pool, Row, Made, drain, raw_rows as rowsOfRaws, build_all}
use Rattle.facts.proofs.Chunks.{from-same}
use Rattle.laws.proofs.Building.ChildNumbers.{start_made}
use Rattle.laws.proofs.Building.VersionsKept.{raw_rows-version}
use Rattle.slots.specs.Gaps.{GapTable}
use Rattle.store.specs.Store.{Store, size}
use Rattle.store.specs.Regions.{COUNTS, GIVEN, INDEXES, ROW-HEADS, NODES, INLINE, ROW-COUNT, WRITTEN-COUNT, INLINE-COUNT, Work}
use Rattle.interner.specs.Nodes.{node_count, nodes_in}
use Rattle.rows.specs.Rowed.{backwards, base_in, constants_of, raw_rows, raw_index, raw_node, row_in, RawsReady, RowedIn}
use Rattle.rows.proofs.Starting.{rows_begin}
use Rattle.pool.specs.Pooled.{slot_word, pending_count, PooledIn, Goes}
use Rattle.pool.specs.Owning.{OnStack}
use Rattle.building.specs.Numbers.{KidsSlotted}
use Rattle.building.specs.Built.{CanBuild, RawsAre, BuiltAll}
use Rattle.building.specs.Working.{Standing, Working, Owners, owing, Grows, RawsSlotted, raw_row, Drained}
use Rattle.building.proofs.Paying.{lacking-le, stack_long}
use Rattle.building.proofs.Lasting.{made_same, raws_same, raw_node-same, raw_index-same, nodes_same, told-since, standing_stays, grows_then, told-as, grows_goes}
use Rattle.building.proofs.Kids.{nodes_many, slotted_kids}
use Rattle.building.proofs.Emptying.{raw_owner}

-- WHAT HAS A ROW has children with slots

module _ (s p : List ℕ) (t : Store) (g : GapTable) (work : Work s p) (w : Working s p t g) (long : length (t NODES) ≡ size p NODES) where
  raw_slots : (i : ℕ) → i < raw_rows t → KidsSlotted s t (raw_node t i)
  unfolding RawsReady
  raw_slots i l = slotted_kids s p t work w.standing long (raw_node t i) (w.standing.raws.1 i l).node (w.raw i l)

  inline_slots_lem : (i : ℕ) → i < get_or (t COUNTS) INLINE-COUNT 0 → KidsSlotted s t (get_or (t INLINE) i 0)
  inline_slots_lem i l =
      let all = w.rowed.1.words.inlined in
      let is = all.nodes i l in
      slotted_kids s p t work w.standing long (get_or (t INLINE) i 0) is.made
      (w.indexed (get_or (t NODES) (get_or (t INLINE) i 0) 0) is.behind (all.low i l))

-- AS THE CODE HAS IT

module _ (s p : List ℕ) (version : ℕ) (t : Store) (g : GapTable) (work : Work s p) (can : CanBuild s p t g) where
  pub standing_first : Standing s p t
  standing_first = record { entered = can.table.entered; nodes = can.rests.nodes; kids = can.kids; raws = can.raws }

  abbrev nodes : List Node
  nodes = nodes_in s t

  abbrev drained : List (ℕ × Row) × Pool → Result Refusal Made
  drained r = drain (length r.1.pending + length nodes) nodes r.1.pending (start_made r)

  -- the definition, over the words' table of raw bootstraps
  build-is :
      (indexes : List (ℕ × ℕ)) (pool : Pool) → RawsAre t indexes →
      build_all nodes indexes pool ≡ (rowsOfRaws nodes (backwards (λ i. (raw_index t i, raw_node t i)) (raw_rows t)) pool [] >>= drained)
  unfolding build_all
  build-is indexes pool are = ap (λ (falling : List (ℕ × ℕ)). rowsOfRaws nodes falling pool [] >>= drained) are

  module _ (u : Store) (h : GapTable) (r : ℕ) (x : RawsSlotted s t u g h r) where
    pub raws_refused : (r ≡ 0 → ⊥) → BuiltAll s p version t u g h r
    raws_refused f =
        record {
          met = λ pool indexes held q are z. absurd (f z);
          refused = λ pool indexes held q are z. told-as _ _ t u r (λ e a. build-is indexes pool are ∙ rw a) (x.refused pool q z);
          done = λ z. absurd (f z);
          raw_slots_lem = λ z. absurd (f z);
          inline_slots = λ z. absurd (f z);
          live = λ z. absurd (f z);
          apart = λ z. absurd (f z);
          counters = λ z. absurd (f z);
          kept = λ z. absurd (f z);
        }

    module _ (z : r ≡ 0) where
      abbrev goes : Goes t u g h
      goes = x.goes z

      abbrev grown : Grows t u g h
      grown = grows_goes s p t u g h goes

      -- no row has an index yet
      begun : RowedIn p (record { written = []; waiting = from (base_in p u).raw 0 (raw_rows u); inline = [] }) u
      begun =
          rows_begin p u
          (λ i. ap (λ (z : List ℕ). get_or z i 0) (goes.kept INDEXES refl) ∙ can.indexes i)
          (λ i. ap (λ (z : List ℕ). get_or z i 0) (goes.kept ROW-HEADS refl) ∙ can.row_heads i)
          (goes.counters ROW-COUNT refl ∙ can.rows)
          (goes.counters WRITTEN-COUNT refl ∙ can.written)
          (goes.counters INLINE-COUNT refl ∙ can.inline)

      -- the rows that the definition has made are those of the words
      rows_are : from (raw_row t u) 0 (raw_rows t) ≡ from (base_in p u).raw 0 (raw_rows u)
      rows_are =
          from-same (raw_row t u) (base_in p u).raw 0 (raw_rows t)
          (λ i low high.
          let a = raw_index-same s p t u grown.kept grown.counters i in
          let b = raw_node-same s p t u grown.kept grown.counters i in
          λ j. (sym a j, row_in u (sym b j)))
          ∙ ap (from (base_in p u).raw 0) (sym (raws_same s p t u grown.kept grown.counters))

      pub working_first : Working s p u h
      working_first =
          record {
            standing = standing_stays s p t u grown.kept grown.counters standing_first;
            live = goes.live can.live;
            rowed = (_, begun);
            indexed = λ e low word. absurd (omega (arith, ap (λ (z : List ℕ). get_or z (e - constants_of p) 0) (goes.kept INDEXES refl), can.indexes (e - constants_of p)));
            raw =
                λ i l.
                rw (raw_node-same s p t u grown.kept grown.counters i)
                (x.has z i (rw (← raws_same s p t u grown.kept grown.counters) l));
          }

      pub owners_first : Owners s p u
      unfolding Owners
      owners_first k (inl there) = inl (⊎_elim (λ (old : 0 < get_or (t GIVEN) k 0). (x.stacked z).waits k (can.waits k (inl old))) (λ (on : OnStack u k). on) ((x.stacked z).owners k there))
      owners_first k (inr (i, raw)) = inl ((x.stacked z).waits k (can.waits k (inr (i, raw_owner t u g h grown i k raw))))

      module _ (long : length (t NODES) ≡ size p NODES) where
        nodes_are : nodes_in s u ≡ nodes
        nodes_are = nodes_same s p t u grown.kept grown.counters

        enough : (pool : Pool) → length pool.pending ≡ pending_count u → owing u ≤ length pool.pending + length nodes
        enough pool e =
            omega (
              arith,
              lacking-le (λ k. slot_word (get_or (u GIVEN) k 0)) (node_count u),
              nodes_many s p t work standing_first long,
              made_same s p t u grown.kept grown.counters,
            )

        module _ (v : Store) (o : GapTable) (c : ℕ) (d : Drained s p version u v h o c) (long' : length (v NODES) ≡ size p NODES) where
          abbrev all : c ≡ 0 → Grows t v g o
          all zero = grows_then t u v g h o grown (d.grows zero)

          stack : (pool : Pool) → PooledIn pool u h → owing u ≤ length pool.pending + length nodes
          stack pool q = enough pool (stack_long pool u h q (omega (arith, (goes.live can.live).room)))

          start_rowed : (pool : Pool) → RowedIn p (start_made (from (raw_row t u) 0 (raw_rows t), pool)).rows u
          start_rowed pool = subst (λ (rows : List (ℕ × Row)). RowedIn p (start_made (rows, pool)).rows u) (sym rows_are) begun

          pub built : BuiltAll s p version t v g o c
          built =
              record {
                met =
                    λ pool indexes held q are zero.
                    let (pool', e, q') = x.met pool q z in
                    let held' = raw_rows-version nodes _ pool [] _ e ∙ held in
                    let m = start_made (from (raw_row t u) 0 (raw_rows t), pool') in
                    let (m', f, q'', rowed'') = d.met (length pool'.pending + length nodes) m (stack pool' q') held' q' (start_rowed pool') zero in
                    (m', build-is indexes pool are ∙ rw e (rw nodes_are at f), q'', rowed'');
                refused =
                    λ pool indexes held q are more.
                    let (pool', e, q') = x.met pool q z in
                    let held' = raw_rows-version nodes _ pool [] _ e ∙ held in
                    let m = start_made (from (raw_row t u) 0 (raw_rows t), pool') in
                    told-since s p t u grown.kept grown.counters _ _ v c
                    (λ told f. build-is indexes pool are ∙ rw e (rw nodes_are at f))
                    (d.refused (length pool'.pending + length nodes) m (stack pool' q') held' q' (start_rowed pool') more);
                done = λ zero k low owner. d.done zero k owner;
                raw_slots_lem = λ zero. raw_slots s p v o work (d.again zero) long';
                inline_slots = λ zero. inline_slots_lem s p v o work (d.again zero) long';
                live = λ zero. (d.again zero).live;
                apart = λ zero. (all zero).apart;
                counters = λ zero. (all zero).counters;
                kept = λ zero. (all zero).kept;
              }
