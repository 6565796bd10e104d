-- What `build_all` leaves behind (`built`), step by step: pools and rows grow, and what is taken from the stack is finished. Assumes nothing.
use mathlib.Core.Bool.{Bool, true, false}
use mathlib.Core.List.{List, [], ◌∷◌, ◌++◌, map, reverse, reverse_aux, append_assoc, reverse-reverse}
use mathlib.Core.Logic.{◌⊎◌, inl, inr}
use mathlib.Core.Option.{Option, none, some}
use mathlib.Core.Path.{◌≡◌, refl, sym, ap, subst, ◌∙◌}
use Prim.Native.Nat.{ℕ, zero, suc, ◌+◌, ◌-◌, ◌≤◌, ◌<◌}
use native.Mathlib.Omega.{arith}
use lib.Dec.{eqb, ltb}
use lib.ListN.{length, get_elem?, replicate, length-append}
use borrow.Author.Tests.{eqb-true, eqb-false, ltb-true, ltb-false}
use Rattle.definition.specs.Settings.{known}
use Rattle.definition.specs.Basics.{Result, good, lookup, ◌>>=◌, unless, at_record, Refusal}
use Rattle.definition.specs.Shapes.{bootstrap_tag, Entry, with_kids}
use Rattle.definition.specs.Definitions.{Held, tag_at}
use Rattle.definition.specs.Resolving.{Node, first_node}
use Rattle.definition.specs.Building.{Pool, allocate, slot_of, slots_of, Row, Rows, write_raw, index_of, take_index, row_index, fill_holes, Made, kids_of, node_number, child_number, child_numbers, finish, with_pending, drain, raw_rows, build_all}
use Rattle.facts.specs.Lists.{Among, Rising, keys}
use Rattle.facts.proofs.Lists.{inside_found, found_append, append_at, found_seam, found_replicate, found_filled, length-filled, among-nil, among-cons, among_later, among-left, among-right, among-either}
use Rattle.facts.proofs.Each.{Both, both-map, both_first, both-second}
use Rattle.facts.proofs.Results.{bad≢good, good_inj, good_first, at_record-good}
use Rattle.laws.specs.Statements.{Occurs, after_request, stack_taken}
use Rattle.laws.proofs.Resolving.NodesAndChildren.{InNodes, KidsIn, kids_in_lem}
use Rattle.laws.proofs.Slots.SlotRequest.{Met, old, new, met}
use Rattle.laws.proofs.Slots.Keeps.{keeps}
use Rattle.laws.proofs.Slots.SlotsToHold.{to_hold}
use Rattle.laws.proofs.Building.RowsThatOccur.{write_next, write_stop, row_old, row_new, take-some, take_none}
use Rattle.laws.proofs.Building.ChildNumbers.{SlotFor, InlineIn, NumberBy, FinishedBy, OwnerBy, RowFrom, rows_of, StackIn, Starts, SlotsKept, RowsKept, InlineKept, rows_same, rows_twice, rows_append, slots_same, slots_twice, slot_kept, slots_kept, number-kept, slot_of-raw, slot_of-node, node_number-row, node_number-slot, child_number-raw, child_number-node, InlineThere, inline_first, inline_more, finished-kept, owner_kept, Building, taken_pool, finished_made, finish-some, start_made}

module _ (nodes : List Node) where
  -- a pool after some requests: the slots given out and the stack have the same new ones in front, and the pool still occurs
  pub record PoolGrows (p p' : Pool) : Type 0 where
    pub kept : SlotsKept p.given p'.given
    pub new : List (ℕ × ℕ)
    pub new_in : StackIn nodes new
    pub stacked : p'.pending ≡ new ++ p.pending
    pub gave : map (λ r. (r.1, r.0)) p'.given ≡ new ++ map (λ r. (r.1, r.0)) p.given
    pub occurs : (top : ℕ) (held : List (ℕ × Held)) → Occurs top held nodes p → Occurs top held nodes p'

  pub grown-not : {p : Pool} → PoolGrows p p
  grown-not =
      record { kept = slots_same; new = []; new_in = λ s k m. among-nil (s, k) m; stacked = refl; gave = refl; occurs = λ top held o. o }

  pub grown-twice : {p p' p'' : Pool} → PoolGrows p p' → PoolGrows p' p'' → PoolGrows p p''
  grown-twice {p} a b =
      record {
        kept = slots_twice a.kept b.kept;
        new = b.new ++ a.new;
        new_in = λ s k m. either s k (among-either (s, k) b.new a.new m);
        stacked = b.stacked ∙ ap (λ l. b.new ++ l) a.stacked ∙ sym (append_assoc b.new a.new p.pending);
        gave = b.gave ∙ ap (λ l. b.new ++ l) a.gave ∙ sym (append_assoc b.new a.new (map (λ r. (r.1, r.0)) p.given));
        occurs = λ top held o. b.occurs top held (a.occurs top held o);
      }
    where
      either : (s k : ℕ) → Among (s, k) b.new ⊎ Among (s, k) a.new → k < length nodes
      either s k (inl m) = b.new_in s k m
      either s k (inr m) = a.new_in s k m

  -- what the stack has is what is to be held, still
  grown-stack : {p p' : Pool} (raws : List (ℕ × ℕ)) → PoolGrows p p' → p.pending ≡ to_hold p.given raws → p'.pending ≡ to_hold p'.given raws
  grown-stack {p} raws g e =
      g.stacked
      ∙ ap (λ l. g.new ++ l) e
      ∙ sym (append_assoc g.new (map (λ x. (x.1, x.0)) p.given) raws)
      ∙ sym (ap (λ l. l ++ raws) g.gave)

  -- ---- requests

  -- what a request leaves: the pool has grown, and the node has the slot
  abbrev pub Allocated : ℕ → Pool → ℕ × Pool → Type 0
  Allocated k p r = PoolGrows p r.1 × (lookup k r.1.given ≡ some r.0)

  pub allocated : (ldc : Bool) (k : ℕ) (p : Pool) (r : ℕ × Pool) → k < length nodes → allocate nodes ldc k p ≡ good r → Allocated k p r
  allocated ldc k p r below asked = (grows (met nodes ldc k r.0 p r.1 asked), has.0)
    where
      has : (lookup k r.1.given ≡ some r.0) × ((k' s' : ℕ) → lookup k' p.given ≡ some s' → lookup k' r.1.given ≡ some s')
      has = keeps nodes ldc k r.0 p r.1 asked

      in_nodes : (s k' : ℕ) → ◌≡◌ {A = ℕ × ℕ} (s, k') (r.0, k) ⊎ Among {A = ℕ × ℕ} (s, k') [] → k' < length nodes
      in_nodes s k' (inl q) = let q' : k' ≡ k = ap (λ x. x.1) q in omega arith
      in_nodes s k' (inr m) = among-nil (s, k') m

      grows : Met nodes ldc k p r.0 r.1 → PoolGrows p r.1
      grows (old e q) = rw q grown-not
      grows (new slots e f q) =
          record {
            kept = record { slot_stays = has.1 };
            new = (r.0, k) ∷ [];
            new_in = λ s k' m. in_nodes s k' (among-cons (s, k') (r.0, k) [] m);
            stacked = ap (λ (x : Pool). x.pending) q;
            gave = ap (λ (x : Pool). map (λ y. (y.1, y.0)) x.given) q;
            occurs = λ top held o. after_request ldc k r.0 r.1 o below asked;
          }

  -- ---- the slots of children that are constants

  abbrev pub Slotted : ℕ → Pool → ℕ × Pool → Type 0
  Slotted c p r = PoolGrows p r.1 × SlotFor r.1.given c r.0

  pub slotted :
      (ldc : Bool) (c : ℕ) (p : Pool) (r : ℕ × Pool) →
      (first_node ≤ c → c < first_node + length nodes) →
      slot_of nodes ldc c p ≡ good r →
      Slotted c p r
  slotted ldc c p r below e = go (ltb c first_node) refl
    where
      go : (b : Bool) → ltb c first_node ≡ b → Slotted c p r
      go true t =
          subst (λ x. Slotted c p x) (good_inj (sym (slot_of-raw nodes ldc c p t) ∙ e)) (grown-not, inl (ltb-true c first_node t, refl))
      go false t =
          let h = ltb-false c first_node t in
          let u = below h in
          let got = allocated ldc (c - first_node) p r (omega arith) (sym (slot_of-node nodes ldc c p t) ∙ e) in
          (got.0, inr (h, got.1))

  in_nodes_tail : (c : ℕ) (cs : List ℕ) → InNodes nodes (c ∷ cs) → InNodes nodes cs
  in_nodes_tail c cs h c' m = h c' (among_later c' c cs m)

  -- children's slots: the pool has grown, and each child has its slot
  abbrev pub AllSlotted : List ℕ → Pool → List ℕ × Pool → Type 0
  AllSlotted cs p r = PoolGrows p r.1 × Both (SlotFor r.1.given) cs r.0

  pub all_slotted : (cs : List ℕ) (p : Pool) (r : List ℕ × Pool) → InNodes nodes cs → slots_of nodes cs p ≡ good r → AllSlotted cs p r
  unfolding slots_of
  all_slotted [] p r below e = subst (λ x. AllSlotted [] p x) (good_inj e) (grown-not, tt)
  all_slotted (c ∷ cs) p r below e =
      let first = good_first (at_record (c - first_node) (slot_of nodes false c p)) (λ x. slots_of nodes cs x.1 >>= λ rest. good (x.0 ∷ rest.0, rest.1)) r e in
      let x = first.0 in
      let others = good_first (slots_of nodes cs x.1) (λ rest. good (x.0 ∷ rest.0, rest.1)) r first.2 in
      let one = slotted false c p x (below c (0, refl)) (at_record-good _ _ _ first.1) in
      let more = all_slotted cs x.1 others.0 (in_nodes_tail c cs below) others.1 in
      subst
      (λ y. AllSlotted (c ∷ cs) p y)
      (good_inj others.2)
      (grown-twice one.0 more.0, (slot_kept more.0.kept c x.0 one.1, more.1))

  -- ---- raw bootstraps

  -- raw bootstraps and their rows, index by index: a row has the slots of its node's children
  abbrev RawRow : List (ℕ × ℕ) → ℕ × ℕ → ℕ × Row → Type 0
  RawRow given x w = (x.0 ≡ w.0) × Both (SlotFor given) (kids_of nodes x.1) w.1

  abbrev pub RawEach : List (ℕ × ℕ) → List (ℕ × ℕ) → List (ℕ × Row) → Type 0
  RawEach given indexes waiting = Both (RawRow given) indexes waiting

  raw_kept :
      {given given' : List (ℕ × ℕ)} (indexes : List (ℕ × ℕ)) (waiting : List (ℕ × Row)) →
      SlotsKept given given' →
      RawEach given indexes waiting →
      RawEach given' indexes waiting
  raw_kept {given} {given'} indexes waiting kept =
      both-map {R = RawRow given} {S = RawRow given'} indexes waiting (λ x w h. (h.0, slots_kept kept (kids_of nodes x.1) w.1 h.1))

  raw_rises :
      (given indexes : List (ℕ × ℕ)) (waiting : List (ℕ × Row)) (least : ℕ) → RawEach given indexes waiting → Rising least 65534 (keys indexes) → Rising least 65534 (keys waiting)
  raw_rises given [] [] least h up = tt
  raw_rises given [] (w ∷ waiting) least h up = absurd h
  raw_rises given (x ∷ indexes) [] least h up = tt
  raw_rises given (x ∷ indexes) (w ∷ waiting) least h up =
      (rw h.0.0 at up.0, rw h.0.0 at up.1, rw h.0.0 at (raw_rises given indexes waiting (suc x.0) h.1 up.2))

  -- every raw bootstrap has its row, and every row its raw bootstrap
  abbrev RawThere : List (ℕ × ℕ) → List (ℕ × Row) → ℕ → ℕ → Type 0
  RawThere given waiting i k = (row : Row) × Both (SlotFor given) (kids_of nodes k) row × Among (i, row) waiting

  raw_there_lem :
      (given indexes : List (ℕ × ℕ)) (waiting : List (ℕ × Row)) → RawEach given indexes waiting → (i k : ℕ) → Among (i, k) indexes → RawThere given waiting i k
  raw_there_lem given indexes waiting h i k a =
      let (w, at, is) = both_first (RawRow given) indexes waiting h a.0 (i, k) a.1 in
      (w.1, is.1, (a.0, at ∙ λ j. some (sym is.0 j, w.1)))

  abbrev RawFrom : List (ℕ × ℕ) → List (ℕ × ℕ) → ℕ → Row → Type 0
  RawFrom given indexes i row = (k : ℕ) × Both (SlotFor given) (kids_of nodes k) row × Among (i, k) indexes

  pub raw_from :
      (given indexes : List (ℕ × ℕ)) (waiting : List (ℕ × Row)) →
      RawEach given indexes waiting →
      (i : ℕ) (row : Row) →
      Among (i, row) waiting →
      RawFrom given indexes i row
  raw_from given indexes waiting h i row a =
      let (x, at, is) = both-second (RawRow given) indexes waiting h a.0 (i, row) a.1 in
      (x.1, is.1, (a.0, at ∙ λ j. some (is.0 j, x.1)))

  -- raw rows, from those of the higher indexes on: the pool has grown, and the rows are those of the raw bootstraps
  abbrev RawMade : List (ℕ × ℕ) → Pool → List (ℕ × Row) × Pool → Type 0
  RawMade indexes p r = PoolGrows p r.1 × RawEach r.1.given indexes r.0

  pub raw_made :
      (falling above : List (ℕ × ℕ)) (p : Pool) (rows : List (ℕ × Row)) (r : List (ℕ × Row) × Pool) →
      KidsIn nodes →
      RawEach p.given above rows →
      raw_rows nodes falling p rows ≡ good r →
      RawMade (reverse_aux falling above) p r
  unfolding raw_rows
  raw_made [] above p rows r kids h e = subst (λ x. RawMade above p x) (good_inj e) (grown-not, h)
  raw_made (x ∷ falling) above p rows r kids h e =
      let first = good_first (slots_of nodes (kids_of nodes x.1) p) (λ row. raw_rows nodes falling row.1 ((x.0, row.0) ∷ rows)) r e in
      let y = first.0 in
      let one = all_slotted (kids_of nodes x.1) p y (kids_in_lem nodes kids x.1) first.1 in
      let now : RawEach y.1.given (x ∷ above) ((x.0, y.0) ∷ rows) = ((refl, one.1), raw_kept above rows one.0.kept h) in
      let rest = raw_made falling (x ∷ above) y.1 ((x.0, y.0) ∷ rows) r kids now first.2 in
      (grown-twice one.0 rest.0, rest.1)

  -- ---- bootstrap rows

  module _ (indexes : List (ℕ × ℕ)) where
    -- rows as they stand while rows are added: raw ones wait, by rising index, for indexes that are not written yet; each raw bootstrap is
    -- written at its index or waits for it; and every row is the row of a node
    pub record Placed (given : List (ℕ × ℕ)) (written : List Row) (waiting : List (ℕ × Row)) : Type 0 where
      pub rises : Rising (length written) 65534 (keys waiting)
      pub fits : length written ≤ 65535
      pub raw_there :
          (i k : ℕ) →
          Among (i, k) indexes →
          (row : Row) × Both (SlotFor given) (kids_of nodes k) row × ((get_elem? written i ≡ some row) ⊎ Among (i, row) waiting)
      pub written_from : (i : ℕ) (row : Row) → get_elem? written i ≡ some row → RowFrom nodes indexes given row
      pub waiting_from : (i : ℕ) (row : Row) → Among (i, row) waiting → RowFrom nodes indexes given row

    -- rows as they stand before the first inline one
    placed-raw :
        (given : List (ℕ × ℕ)) (waiting : List (ℕ × Row)) → RawEach given indexes waiting → Rising 0 65534 (keys indexes) → Placed given [] waiting
    placed-raw given waiting h up =
        record {
          rises = raw_rises given indexes waiting 0 h up;
          fits = omega arith;
          raw_there = λ i k a. let t = raw_there_lem given indexes waiting h i k a in (t.0, t.1, inr t.2);
          written_from = λ i row e. among-nil row (i, e);
          waiting_from = λ i row a. let t = raw_from given indexes waiting h i row a in (t.0, t.1, inl (i, t.2));
        }

    row_kept : {given given' : List (ℕ × ℕ)} → SlotsKept given given' → (row : Row) → RowFrom nodes indexes given row → RowFrom nodes indexes given' row
    row_kept kept row f = (f.0, slots_kept kept (kids_of nodes f.0) row f.1, f.2)

    -- rows stay so as slots are given
    placed-kept :
        {given given' : List (ℕ × ℕ)} {written : List Row} {waiting : List (ℕ × Row)} →
        SlotsKept given given' →
        Placed given written waiting →
        Placed given' written waiting
    placed-kept kept h =
        record {
          rises = h.rises;
          fits = h.fits;
          raw_there = λ i k m. let t = h.raw_there i k m in (t.0, slots_kept kept (kids_of nodes k) t.0 t.1, t.2);
          written_from = λ i row e. row_kept kept row (h.written_from i row e);
          waiting_from = λ i row m. row_kept kept row (h.waiting_from i row m);
        }

    -- the first row that waits is written at its index, and at all free ones below
    placed-filled :
        (given : List (ℕ × ℕ)) (written : List Row) (r : ℕ × Row) (waiting : List (ℕ × Row)) →
        Placed given written (r ∷ waiting) →
        Placed given (written ++ replicate (suc r.0 - length written) r.1) waiting
    placed-filled given written r waiting h =
        record {
          rises = rw long h.rises.2;
          fits = let b = h.rises.1 in omega (arith, long);
          raw_there = λ i k m. let t = h.raw_there i k m in (t.0, t.1, there i t.0 t.2);
          written_from = λ i row e. from i row (append_at written copies i row e);
          waiting_from = λ i row m. h.waiting_from i row (among_later (i, row) r waiting m);
        }
      where
        copies : List Row
        copies = replicate (suc r.0 - length written) r.1

        long : length (written ++ copies) ≡ suc r.0
        long = length-filled written r.0 r.1 h.rises.0

        There : ℕ → Row → Type 0
        There i row = (get_elem? (written ++ copies) i ≡ some row) ⊎ Among (i, row) waiting

        first : (i : ℕ) (row : Row) → ◌≡◌ {A = ℕ × Row} (i, row) r ⊎ Among {A = ℕ × Row} (i, row) waiting → There i row
        first i row (inl q) =
            inl (subst (λ (x : ℕ × Row). get_elem? (written ++ copies) x.0 ≡ some x.1) (sym q) (found_filled written r.0 r.1 h.rises.0))
        first i row (inr m) = inr m

        there : (i : ℕ) (row : Row) → (get_elem? written i ≡ some row) ⊎ Among (i, row) (r ∷ waiting) → There i row
        there i row (inl e) = inl (found_append written copies i row e)
        there i row (inr m) = first i row (among-cons (i, row) r waiting m)

        from : (i : ℕ) (row : Row) → (get_elem? written i ≡ some row) ⊎ ((j : ℕ) × (i ≡ length written + j) × (get_elem? copies j ≡ some row)) → RowFrom nodes indexes given row
        from i row (inl e) = h.written_from i row e
        from i row (inr (j, p, q)) = rw (← found_replicate (suc r.0 - length written) j r.1 row q) (h.waiting_from r.0 r.1 (0, refl))

    placed-next :
        (given : List (ℕ × ℕ)) (written : List Row) (r : ℕ × Row) (waiting : List (ℕ × Row)) →
        r.0 ≡ length written →
        Placed given written (r ∷ waiting) →
        Placed given (written ++ r.1 ∷ []) waiting
    placed-next given written r waiting q h =
        let one : suc r.0 - length written ≡ 1 = omega arith in
        rw one at (placed-filled given written r waiting h)

    -- raw rows whose index is next are written: what was written is kept, and the next index is left free
    abbrev RawWritten : List (ℕ × ℕ) → List Row → List (ℕ × Row) → List Row × List (ℕ × Row) → Type 0
    RawWritten given written waiting w =
        RowsKept written w.0 × (Placed given written waiting → Placed given w.0 w.1 × Rising (suc (length w.0)) 65534 (keys w.1))

    raw_written : (given : List (ℕ × ℕ)) (written : List Row) (waiting : List (ℕ × Row)) → RawWritten given written waiting (write_raw written waiting)
    unfolding write_raw
    raw_written given written [] = (rows_same, λ h. (h, tt))
    raw_written given written (r ∷ waiting) = go (eqb r.0 (length written)) refl (raw_written given next waiting)
      where
        next : List Row
        next = written ++ r.1 ∷ []

        later : (r.0 ≡ length written → ⊥) → length written ≤ r.0 → suc (length written) ≤ r.0
        later n le = omega arith

        go :
            (b : Bool) →
            eqb r.0 (length written) ≡ b →
            RawWritten given next waiting (write_raw next waiting) →
            RawWritten given written (r ∷ waiting) (write_raw written (r ∷ waiting))
        go true t rest =
            subst
            (λ w. RawWritten given written (r ∷ waiting) w)
            (sym (write_next written r waiting (eqb-true r.0 (length written) t))) (
              rows_twice (rows_append written (r.1 ∷ [])) rest.0,
              λ h. rest.1 (placed-next given written r waiting (eqb-true r.0 (length written) t) h),
            )
        go false t rest =
            subst
            (λ w. RawWritten given written (r ∷ waiting) w)
            (sym (write_stop written r waiting (eqb-false r.0 (length written) t)))
            (rows_same, λ h. (h, (later (eqb-false r.0 (length written) t) h.rises.0, h.rises.1, h.rises.2)))

    -- one more row, at the next index, which no raw row waits for
    placed-more :
        (given : List (ℕ × ℕ)) (written : List Row) (waiting : List (ℕ × Row)) (row : Row) →
        RowFrom nodes indexes given row →
        length written < 65535 →
        Rising (suc (length written)) 65534 (keys waiting) →
        Placed given written waiting →
        Placed given (written ++ row ∷ []) waiting
    placed-more given written waiting row made small later h =
        record {
          rises = rw long later;
          fits = omega (arith, long);
          raw_there = λ i k m. let t = h.raw_there i k m in (t.0, t.1, there i t.0 t.2);
          written_from = λ i x e. from i x (append_at written (row ∷ []) i x e);
          waiting_from = h.waiting_from;
        }
      where
        long : length (written ++ row ∷ []) ≡ suc (length written)
        long = simp length-append (omega arith)

        there :
            (i : ℕ) (x : Row) →
            (get_elem? written i ≡ some x) ⊎ Among (i, x) waiting →
            (get_elem? (written ++ row ∷ []) i ≡ some x) ⊎ Among (i, x) waiting
        there i x (inl e) = inl (found_append written (row ∷ []) i x e)
        there i x (inr m) = inr m

        from : (i : ℕ) (x : Row) → (get_elem? written i ≡ some x) ⊎ ((j : ℕ) × (i ≡ length written + j) × (get_elem? (row ∷ []) j ≡ some x)) → RowFrom nodes indexes given x
        from i x (inl e) = h.written_from i x e
        from i x (inr (j, p, q)) = rw (← found_replicate 1 j row x q) made

    -- what taking an index for a row leaves: the row is found with the index, and rows stay as they are to be
    abbrev Indexed : List (ℕ × ℕ) → Row → Rows → ℕ × Rows → Type 0
    Indexed given row rows r =
        InlineKept rows.inline r.1.inline
        × InlineThere r.1
        × InlineIn r.1.inline r.0 row
        × (RowFrom nodes indexes given row → Placed given rows.written rows.waiting → Placed given r.1.written r.1.waiting)

    taken :
        (given : List (ℕ × ℕ)) (row : Row) (rows : Rows) (r : ℕ × Rows) →
        InlineThere rows →
        index_of row rows.inline ≡ none →
        take_index row rows.inline (write_raw rows.written rows.waiting) ≡ good r →
        Indexed given row rows r
    taken given row rows r there n e = go (ltb (length w.0) 65535) refl
      where
        w : List Row × List (ℕ × Row)
        w = write_raw rows.written rows.waiting

        before : RawWritten given rows.written rows.waiting w
        before = raw_written given rows.written rows.waiting

        kept : RowsKept rows.written (w.0 ++ row ∷ [])
        kept = rows_twice before.0 (rows_append w.0 (row ∷ []))

        either :
            (x : Row) (i : ℕ) →
            ◌≡◌ {A = Row × ℕ} (x, i) (row, length w.0) ⊎ Among {A = Row × ℕ} (x, i) rows.inline →
            get_elem? (w.0 ++ row ∷ []) i ≡ some x
        either x i (inl q) = subst (λ (y : Row × ℕ). get_elem? (w.0 ++ row ∷ []) y.1 ≡ some y.0) (sym q) (found_seam w.0 row [])
        either x i (inr m) = kept.row_stays_lem i x (there x i m)

        go : (b : Bool) → ltb (length w.0) 65535 ≡ b → Indexed given row rows r
        go true t =
            subst
            (λ y. Indexed given row rows y)
            (good_inj (sym (take-some row rows.inline w (ltb-true (length w.0) 65535 t)) ∙ e)) (
              inline_more row (length w.0) rows.inline n,
              λ x i m. either x i (among-cons (x, i) (row, length w.0) rows.inline m),
              inline_first row (length w.0) rows.inline,
              λ made h. placed-more given w.0 w.1 row made (ltb-true (length w.0) 65535 t) (before.1 h).1 (before.1 h).0,
            )
        go false t = bad≢good (sym (take_none row rows.inline w (ltb-false (length w.0) 65535 t)) ∙ e)

    indexed :
        (given : List (ℕ × ℕ)) (row : Row) (rows : Rows) (r : ℕ × Rows) → InlineThere rows → row_index row rows ≡ good r → Indexed given row rows r
    indexed given row rows r there e = go (index_of row rows.inline) refl
      where
        go : (o : Option ℕ) → index_of row rows.inline ≡ o → Indexed given row rows r
        go none n = taken given row rows r there n (sym (row_new row rows n) ∙ e)
        go (some i) n =
            subst
            (λ y. Indexed given row rows y)
            (good_inj (sym (row_old row rows i n) ∙ e))
            (rows_same, there, n, λ made h. h)

    -- at the end no row waits: each stands at its index
    pub filled :
        (given : List (ℕ × ℕ)) (written : List Row) (waiting : List (ℕ × Row)) →
        RowsKept written (fill_holes written waiting) × (Placed given written waiting → Placed given (fill_holes written waiting) [])
    unfolding fill_holes
    filled given written [] = (rows_same, λ h. h)
    filled given written (r ∷ waiting) =
        let copies = replicate (suc r.0 - length written) r.1 in
        let rest = filled given (written ++ copies) waiting in
        (rows_twice (rows_append written copies) rest.0, λ h. rest.1 (placed-filled given written r waiting h))

    -- ---- the numbers of children

    -- pool and rows after some children
    pub record Stepped (p : Pool) (rows : Rows) (p' : Pool) (rows' : Rows) : Type 0 where
      pub pool : PoolGrows p p'
      pub more : InlineKept rows.inline rows'.inline
      pub inlined : InlineThere rows'
      pub placed : Placed p.given rows.written rows.waiting → Placed p'.given rows'.written rows'.waiting

    stepped_twice : {p p' p'' : Pool} {rows rows' rows'' : Rows} → Stepped p rows p' rows' → Stepped p' rows' p'' rows'' → Stepped p rows p'' rows''
    stepped_twice a b =
        record {
          pool = grown-twice a.pool b.pool;
          more = rows_twice a.more b.more;
          inlined = b.inlined;
          placed = λ h. b.placed (a.placed h);
        }

    -- a pool that grows beside rows that don't
    stepped_pool : {p p' : Pool} (rows : Rows) → InlineThere rows → PoolGrows p p' → Stepped p rows p' rows
    stepped_pool rows there g = record { pool = g; more = rows_same; inlined = there; placed = placed-kept g.kept }

    -- what a child's number leaves: pool and rows have grown, and the number stands for the child
    abbrev Numbered : ℕ → Pool → Rows → ℕ × Pool × Rows → Type 0
    Numbered c p rows r = Stepped p rows r.1 r.2 × NumberBy nodes r.1.given (InlineIn r.2.inline) c r.0

    -- of a bootstrap node, and of another
    numbered-row :
        (c : ℕ) (p : Pool) (rows : Rows) (r : ℕ × Pool × Rows) →
        KidsIn nodes →
        InlineThere rows →
        first_node ≤ c →
        tag_at nodes (c - first_node) ≡ bootstrap_tag →
        (slots_of nodes (kids_of nodes (c - first_node)) p >>= λ x. at_record (c - first_node) (row_index x.0 rows) >>= λ i. good (i.0, x.1, i.1)) ≡ good r →
        Numbered c p rows r
    numbered-row c p rows r kids there node tag e =
        let k = c - first_node in
        let first = good_first (slots_of nodes (kids_of nodes k) p) (λ x. at_record k (row_index x.0 rows) >>= λ i. good (i.0, x.1, i.1)) r e in
        let x = first.0 in
        let second = good_first (at_record k (row_index x.0 rows)) (λ i. good (i.0, x.1, i.1)) r first.2 in
        let slots = all_slotted (kids_of nodes k) p x (kids_in_lem nodes kids k) first.1 in
        let at = indexed x.1.given x.0 rows second.0 there (at_record-good _ _ _ second.1) in
        subst
        (λ y. Numbered c p rows y)
        (good_inj second.2) (
          record {
            pool = slots.0;
            more = at.0;
            inlined = at.1;
            placed = λ h. at.3 (k, slots.1, inr tag) (placed-kept slots.0.kept h);
          },
          inr (inr (node, tag, x.0, at.2, slots.1)),
        )

    numbered-slot :
        (c : ℕ) (p : Pool) (rows : Rows) (r : ℕ × Pool × Rows) →
        InlineThere rows →
        first_node ≤ c →
        c < first_node + length nodes →
        (tag_at nodes (c - first_node) ≡ bootstrap_tag → ⊥) →
        (at_record (c - first_node) (allocate nodes false (c - first_node) p) >>= λ x. good (x.0, x.1, rows)) ≡ good r →
        Numbered c p rows r
    numbered-slot c p rows r there node below tag e =
        let first = good_first (at_record (c - first_node) (allocate nodes false (c - first_node) p)) (λ x. good (x.0, x.1, rows)) r e in
        let got = allocated false (c - first_node) p first.0 (omega arith) (at_record-good _ _ _ first.1) in
        subst (λ y. Numbered c p rows y) (good_inj first.2) (stepped_pool rows there got.0, inr (inl (node, tag, got.1)))

    numbered :
        (c : ℕ) (p : Pool) (rows : Rows) (r : ℕ × Pool × Rows) →
        KidsIn nodes →
        InlineThere rows →
        (first_node ≤ c → c < first_node + length nodes) →
        child_number nodes c p rows ≡ good r →
        Numbered c p rows r
    numbered c p rows r kids there below e = go (ltb c first_node) refl
      where
        k : ℕ
        k = c - first_node

        of_node : first_node ≤ c → node_number nodes k p rows ≡ good r → (b : Bool) → eqb (tag_at nodes k) bootstrap_tag ≡ b → Numbered c p rows r
        of_node node e' true t =
            numbered-row c p rows r kids there node (eqb-true (tag_at nodes k) bootstrap_tag t) (sym (node_number-row nodes k p rows t) ∙ e')
        of_node node e' false t =
            numbered-slot c p rows r there node (below node) (eqb-false (tag_at nodes k) bootstrap_tag t) (sym (node_number-slot nodes k p rows t) ∙ e')

        go : (b : Bool) → ltb c first_node ≡ b → Numbered c p rows r
        go true t =
            subst
            (λ y. Numbered c p rows y)
            (good_inj (sym (child_number-raw nodes c p rows t) ∙ e))
            (stepped_pool rows there grown-not, inl (ltb-true c first_node t, refl))
        go false t = of_node (ltb-false c first_node t) (sym (child_number-node nodes c p rows t) ∙ e) (eqb (tag_at nodes k) bootstrap_tag) refl

    abbrev AllNumbered : List ℕ → Pool → Rows → List ℕ × Pool × Rows → Type 0
    AllNumbered cs p rows r = Stepped p rows r.1 r.2 × Both (NumberBy nodes r.1.given (InlineIn r.2.inline)) cs r.0

    -- one child more in front
    numbered-cons :
        (c : ℕ) (cs : List ℕ) (p : Pool) (rows : Rows) (x : ℕ × Pool × Rows) (rest r : List ℕ × Pool × Rows) →
        Numbered c p rows x →
        AllNumbered cs x.1 x.2 rest →
        ◌≡◌ {A = Result Refusal (List ℕ × Pool × Rows)} (good (x.0 ∷ rest.0, rest.1, rest.2)) (good r) →
        AllNumbered (c ∷ cs) p rows r
    numbered-cons c cs p rows x rest r one more e =
        subst
        (λ y. AllNumbered (c ∷ cs) p rows y)
        (good_inj e)
        (stepped_twice one.0 more.0, (number-kept nodes more.0.pool.kept more.0.more c x.0 one.1, more.1))

    all_numbered :
        (cs : List ℕ) (p : Pool) (rows : Rows) (r : List ℕ × Pool × Rows) →
        KidsIn nodes →
        InlineThere rows →
        InNodes nodes cs →
        child_numbers nodes cs p rows ≡ good r →
        AllNumbered cs p rows r
    unfolding child_numbers
    all_numbered [] p rows r kids there below e =
        subst (λ y. AllNumbered [] p rows y) (good_inj e) (stepped_pool rows there grown-not, tt)
    all_numbered (c ∷ cs) p rows r kids there below e =
        let first = good_first (child_number nodes c p rows) (λ x. child_numbers nodes cs x.1 x.2 >>= λ rest. good (x.0 ∷ rest.0, rest.1, rest.2)) r e in
        let x = first.0 in
        let others = good_first (child_numbers nodes cs x.1 x.2) (λ rest. good (x.0 ∷ rest.0, rest.1, rest.2)) r first.2 in
        let rest = others.0 in
        let one = numbered c p rows x kids there (below c (0, refl)) first.1 in
        let more = all_numbered cs x.1 x.2 rest kids one.0.inlined (in_nodes_tail c cs below) others.1 in
        numbered-cons c cs p rows x rest r one more others.2

    -- ---- the building stack

    -- one is taken from it and finished
    now_building :
        (raws : List (ℕ × ℕ)) (top : ℕ × ℕ) (pending : List (ℕ × ℕ)) (m : Made) (nd : Node) (r : List ℕ × Pool × Rows) →
        Building nodes raws (top ∷ pending) m →
        get_elem? nodes top.1 ≡ some nd →
        AllNumbered nd.kids (taken_pool pending m.pool) m.rows r →
        Building nodes raws r.1.pending (finished_made top.0 nd m r)
    now_building raws top pending m nd r h found got =
        record {
          stack_in = λ s k a. stack_below s k (stack_cases s k a);
          stack_from = λ s k a. stack_from_lem s k (stack_cases s k a);
          done = λ s k a. new_or_old s k (among-either (s, k) new old (rw held_more at a));
          owners = λ s e a. owner s e (among-cons (s, e) one m.owned a);
          inlined = got.0.inlined;
        }
      where
        new : List (ℕ × ℕ)
        new = got.0.pool.new

        old : List (ℕ × ℕ)
        old = to_hold m.pool.given raws

        one : ℕ × Entry ℕ ℕ
        one = (top.0, with_kids r.0 nd)

        -- what is to be held now, and what is on the stack
        held_more : to_hold r.1.given raws ≡ new ++ old
        held_more = ap (λ l. l ++ raws) got.0.pool.gave ∙ append_assoc new (map (λ x. (x.1, x.0)) m.pool.given) raws

        held-still : (s k : ℕ) → Among (s, k) old → Among (s, k) (to_hold r.1.given raws)
        held-still s k a = rw held_more (among-right (s, k) new old a)

        stack_cases : (s k : ℕ) → Among (s, k) r.1.pending → Among (s, k) new ⊎ Among (s, k) pending
        stack_cases s k a = among-either (s, k) new pending (rw got.0.pool.stacked at a)

        stack_below : (s k : ℕ) → Among (s, k) new ⊎ Among (s, k) pending → k < length nodes
        stack_below s k (inl b) = got.0.pool.new_in s k b
        stack_below s k (inr b) = h.stack_in s k (among_later (s, k) top pending b)

        stack_from_lem : (s k : ℕ) → Among (s, k) new ⊎ Among (s, k) pending → Among (s, k) (to_hold r.1.given raws)
        stack_from_lem s k (inl b) = rw held_more (among-left (s, k) new old b)
        stack_from_lem s k (inr b) = held-still s k (h.stack_from s k (among_later (s, k) top pending b))

        -- what is to be held is new, or was on the stack, or was finished
        Now : ℕ → ℕ → Type 0
        Now s k = Among (s, k) r.1.pending ⊎ FinishedBy nodes r.1.given (InlineIn r.2.inline) (one ∷ m.owned) s k

        top-or_below : (s k : ℕ) → ◌≡◌ {A = ℕ × ℕ} (s, k) top ⊎ Among {A = ℕ × ℕ} (s, k) pending → Now s k
        top-or_below s k (inl q) =
            inr (nd, r.0, ap (λ (x : ℕ × ℕ). get_elem? nodes x.1) q ∙ found, (0, λ j. some ((sym q j).0, with_kids r.0 nd)), got.1)
        top-or_below s k (inr b) = inl (rw got.0.pool.stacked (among-right (s, k) new pending b))

        waits_or_done : (s k : ℕ) → Among (s, k) (top ∷ pending) ⊎ FinishedBy nodes m.pool.given (InlineIn m.rows.inline) m.owned s k → Now s k
        waits_or_done s k (inl b) = top-or_below s k (among-cons (s, k) top pending b)
        waits_or_done s k (inr f) =
            inr (finished-kept nodes m.owned (one ∷ m.owned) s k got.0.pool.kept got.0.more (λ e b. among_later (s, e) one m.owned b) f)

        new_or_old : (s k : ℕ) → Among (s, k) new ⊎ Among (s, k) old → Now s k
        new_or_old s k (inl b) = inl (rw got.0.pool.stacked (among-left (s, k) new pending b))
        new_or_old s k (inr b) = waits_or_done s k (h.done s k b)

        -- what is owned is the one just finished, or was owned
        owner : (s : ℕ) (e : Entry ℕ ℕ) → ((s, e) ≡ one) ⊎ Among (s, e) m.owned → OwnerBy nodes r.1.given raws (InlineIn r.2.inline) s e
        owner s e (inl q) = (
          top.1,
          nd,
          r.0,
          ap (λ (x : ℕ × Entry ℕ ℕ). x.1) q,
          found,
          rw (ap (λ (x : ℕ × Entry ℕ ℕ). x.0) q) (held-still top.0 top.1 (h.stack_from top.0 top.1 (0, refl))),
          got.1,
        )
        owner s e (inr b) = owner_kept nodes raws s e got.0.pool.kept got.0.more (held-still s) (h.owners s e b)

    -- what taking from the stack leaves
    pub record Drained (raws pending : List (ℕ × ℕ)) (m m' : Made) : Type 0 where
      pub building : Building nodes raws pending m'
      pub kept : SlotsKept m.pool.given m'.pool.given
      pub occurs : (top : ℕ) (held : List (ℕ × Held)) → Occurs top held nodes m.pool → Occurs top held nodes m'.pool
      pub placed :
          Placed m.pool.given m.rows.written m.rows.waiting → Placed m'.pool.given m'.rows.written m'.rows.waiting

    drained_twice :
        {raws pending pending' : List (ℕ × ℕ)} {m m' m'' : Made} → Drained raws pending' m m' → Drained raws pending m' m'' → Drained raws pending m m''
    drained_twice a b =
        record {
          building = b.building;
          kept = slots_twice a.kept b.kept;
          occurs = λ top held o. b.occurs top held (a.occurs top held o);
          placed = λ p. b.placed (a.placed p);
        }

    pub drained_one :
        (raws : List (ℕ × ℕ)) (top : ℕ × ℕ) (pending : List (ℕ × ℕ)) (m m' : Made) →
        KidsIn nodes →
        Building nodes raws (top ∷ pending) m →
        finish nodes top.0 (with_pending pending m) (get_elem? nodes top.1) ≡ good m' →
        Drained raws m'.pool.pending m m'
    drained_one raws top pending m m' kids h e =
        let node = inside_found nodes top.1 (h.stack_in top.0 top.1 (0, refl)) in
        let nd = node.0 in
        let made = finish-some nodes top.0 pending m m' nd (rw node.1 at e) in
        let got = all_numbered nd.kids (taken_pool pending m.pool) m.rows made.0 kids h.inlined (kids top.1 nd node.1) made.1 in
        subst
        (λ (x : Made). Drained raws x.pool.pending m x)
        {x = finished_made top.0 nd m made.0}
        made.2
        (record {
          building = now_building raws top pending m nd made.0 h node.1 got;
          kept = got.0.pool.kept;
          occurs = λ t held o. got.0.pool.occurs t held (stack_taken pending o);
          placed = got.0.placed;
        })

    drained_not : {raws : List (ℕ × ℕ)} {m m' : Made} → Building nodes raws [] m → m ≡ m' → Drained raws [] m m'
    drained_not {raws} {m} h q =
        subst (λ x. Drained raws [] m x) q (record { building = h; kept = slots_same; occurs = λ top held o. o; placed = λ p. p })

    -- until it is empty
    drained :
        (fuel : ℕ) (raws pending : List (ℕ × ℕ)) (m m' : Made) →
        KidsIn nodes →
        Building nodes raws pending m →
        drain fuel nodes pending m ≡ good m' →
        Drained raws [] m m'
    unfolding drain
    drained zero raws [] m m' kids h e = drained_not h (good_inj e)
    drained zero raws (top ∷ pending) m m' kids h e = bad≢good e
    drained (suc fuel) raws [] m m' kids h e = drained_not h (good_inj e)
    drained (suc fuel) raws (top ∷ pending) m m' kids h e =
        let first = good_first (finish nodes top.0 (with_pending pending m) (get_elem? nodes top.1)) (λ x. drain fuel nodes x.pool.pending x) m' (good_first (at_record top.1 (unless (known m.pool.version (tag_at nodes top.1)) 24)) (λ _. finish nodes top.0 (with_pending pending m) (get_elem? nodes top.1) >>= λ x. drain fuel nodes x.pool.pending x) m' e).2 in
        let x = first.0 in
        let one = drained_one raws top pending m x kids h first.1 in
        drained_twice one (drained fuel raws x.pool.pending x m' kids one.building first.2)

    -- ---- all of building

    pub starts-building :
        (raws : List (ℕ × ℕ)) (p : Pool) (r : List (ℕ × Row) × Pool) →
        Starts nodes raws p →
        PoolGrows p r.1 →
        Building nodes raws r.1.pending (start_made r)
    starts-building raws p r h g =
        let held = grown-stack raws g h.stack in
        record {
          stack_in = λ s k a. below s k (among-either (s, k) g.new p.pending (rw g.stacked at a));
          stack_from = λ s k a. rw held at a;
          done = λ s k a. inl (rw held a);
          owners = λ s e a. among-nil (s, e) a;
          inlined = λ row i a. among-nil (row, i) a;
        }
      where
        below : (s k : ℕ) → Among (s, k) g.new ⊎ Among (s, k) p.pending → k < length nodes
        below s k (inl a) = g.new_in s k a
        below s k (inr a) = h.stack_in s k a

    -- what building leaves
    pub record Built (raws : List (ℕ × ℕ)) (p : Pool) (m : Made) : Type 0 where
      pub building : Building nodes raws [] m
      pub kept : SlotsKept p.given m.pool.given
      pub occurs : (top : ℕ) (held : List (ℕ × Held)) → Occurs top held nodes p → Occurs top held nodes m.pool
      pub unfilled : Rising 0 65534 (keys indexes) → Placed m.pool.given m.rows.written m.rows.waiting
      pub placed : Rising 0 65534 (keys indexes) → Placed m.pool.given (rows_of m) []

    pub built : (raws : List (ℕ × ℕ)) (p : Pool) (m : Made) → Starts nodes raws p → build_all nodes indexes p ≡ good m → Built raws p m
    unfolding build_all
    built raws p m h e =
        let rest : List (ℕ × Row) × Pool → Result Refusal Made =
        λ r. drain (length r.1.pending + length nodes) nodes r.1.pending (start_made r) in
        let first = good_first (raw_rows nodes (reverse indexes) p []) rest m e in
        let r = first.0 in
        let raw = raw_made (reverse indexes) [] p [] r h.kids_in tt first.1 in
        let rows : RawEach r.1.given indexes r.0 = rw (reverse-reverse indexes) at raw.1 in
        let fuel = length r.1.pending + length nodes in
        let d = drained fuel raws r.1.pending (start_made r) m h.kids_in (starts-building raws p r h raw.0) first.2 in
        record {
          building = d.building;
          kept = slots_twice raw.0.kept d.kept;
          occurs = λ top held o. d.occurs top held (raw.0.occurs top held o);
          unfilled = λ up. d.placed (placed-raw r.1.given r.0 rows up);
          placed =
              λ up.
              (filled m.pool.given m.rows.written m.rows.waiting).1 (d.placed (placed-raw r.1.given r.0 rows up));
        }
