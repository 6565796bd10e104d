-- Of each index at which no raw bootstrap stands: a node that is to be held cites a bootstrap which got it, or its row is that of the least
-- raw index above it. Assumes nothing.
use mathlib.Core.Bool.{Bool, true, false}
use mathlib.Core.List.{List, [], ◌∷◌, ◌++◌, map, reverse, append_assoc, reverse-reverse}
use mathlib.Core.Logic.{◌⊎◌, inl, inr}
use mathlib.Core.Option.{Option, none, some}
use mathlib.Core.Path.{◌≡◌, refl, sym, ap, subst, ◌∙◌}
use Prim.Native.Nat.{ℕ, zero, suc, ◌+◌, ◌-◌, ◌≤◌, ◌<◌}
use native.Mathlib.Omega.{arith}
use lib.Dec.{eqb, ltb}
use lib.ListN.{length, get_elem?, replicate, length-append}
use borrow.Author.Tests.{eqb-true, eqb-false, ltb-true, ltb-false}
use Rattle.definition.specs.Settings.{known}
use Rattle.definition.specs.Basics.{Result, good, ◌>>=◌, unless, at_record, Refusal}
use Rattle.definition.specs.Shapes.{bootstrap_tag}
use Rattle.definition.specs.Definitions.{tag_at}
use Rattle.definition.specs.Resolving.{Node, first_node}
use Rattle.definition.specs.Building.{Pool, allocate, slots_of, Row, Rows, write_raw, index_of, row_index, fill_holes, Made, kids_of, node_number, child_number, child_numbers, finish, with_pending, drain, raw_rows, build_all}
use Rattle.facts.specs.Lists.{Among, Rising, keys}
use Rattle.facts.proofs.Lists.{order, found_inside, inside_found, append_at, length-filled, found_filled, found_replicate, among-cons, among_later, among-right}
use Rattle.facts.proofs.Tables.{rising_from}
use Rattle.facts.proofs.Each.{Both}
use Rattle.facts.proofs.Results.{bad≢good, good_inj, good_first, at_record-good}
use Rattle.laws.proofs.Resolving.NodesAndChildren.{KidsIn, kids_in_lem}
use Rattle.laws.proofs.Slots.SlotsToHold.{to_hold}
use Rattle.laws.proofs.Building.RowsThatOccur.{write_next, write_stop, row_old, row_new, take-some, take_none}
use Rattle.laws.proofs.Building.ChildNumbers.{SlotFor, rows_of, Starts, InlineKept, rows_same, slots_kept, node_number-row, node_number-slot, child_number-raw, child_number-node, inline_first, inline_more, Building, taken_pool, finished_made, finish-some, start_made}
use Rattle.laws.proofs.Building.WhatBuildingLeaves.{PoolGrows, grown-not, allocated, all_slotted, RawEach, raw_from, raw_made, Placed, filled, drained_one, starts-building, built}

-- ---- the rows at the end

-- an index from the first hole on has the row of the least raw index that isn't below it
pub record Above (written : List Row) (waiting : List (ℕ × Row)) (i : ℕ) : Type 0 where
  pub next : ℕ
  pub row : Row
  pub waits : Among (next, row) waiting
  pub reached : i ≤ next
  pub least : (t : ℕ) (x : Row) → i ≤ t → t < next → Among (t, x) waiting → ⊥
  pub here : get_elem? (fill_holes written waiting) i ≡ some row
  pub there : get_elem? (fill_holes written waiting) next ≡ some row

filled-kept : (written : List Row) (waiting : List (ℕ × Row)) (i : ℕ) (row : Row) → get_elem? written i ≡ some row → get_elem? (fill_holes written waiting) i ≡ some row
filled-kept written waiting i row = (filled [] [] [] written waiting).0.row_stays_lem i row

-- all of the free places up to a raw index have its row
copies_at : (written : List Row) (n i : ℕ) (row : Row) → length written ≤ i → i ≤ n → get_elem? (written ++ replicate (suc n - length written) row) i ≡ some row
copies_at written n i row low high =
    let copies = replicate (suc n - length written) row in
    let long = length-filled written n row (omega arith) in
    let (x, at) = inside_found (written ++ copies) i (omega (arith, long, high)) in
    go x at (append_at written copies i x at)
  where
    go :
        (x : Row) →
        get_elem? (written ++ replicate (suc n - length written) row) i ≡ some x →
        (get_elem? written i ≡ some x) ⊎ ((j : ℕ) × (i ≡ length written + j) × (get_elem? (replicate (suc n - length written) row) j ≡ some x)) →
        get_elem? (written ++ replicate (suc n - length written) row) i ≡ some row
    go x at (inl e) = absurd (omega (arith, found_inside written i x e, low))
    go x at (inr (j, p, e)) = at ∙ ap some (sym (found_replicate (suc n - length written) j row x e))

pub above :
    (waiting : List (ℕ × Row)) (written : List Row) (i : ℕ) →
    Rising (length written) 65534 (keys waiting) →
    length written ≤ i →
    i < length (fill_holes written waiting) →
    Above written waiting i
unfolding fill_holes
above [] written i up low high = absurd (omega (arith, low, high))
above (r ∷ waiting) written i up low high = go (order r.0 i) (above waiting (written ++ copies) i)
  where
    copies : List Row
    copies = replicate (suc r.0 - length written) r.1

    long : length (written ++ copies) ≡ suc r.0
    long = length-filled written r.0 r.1 up.0

    rises : Rising (length (written ++ copies)) 65534 (keys waiting)
    rises = rw long up.2

    least : (n t : ℕ) (x : Row) → t < n → n ≤ r.0 → Among (t, x) (r ∷ waiting) → ⊥
    least n t x below most a = cases (among-cons (t, x) r waiting a)
      where
        cases : ◌≡◌ {A = ℕ × Row} (t, x) r ⊎ Among {A = ℕ × Row} (t, x) waiting → ⊥
        cases (inl q) = let same : t ≡ r.0 = ap (λ (y : ℕ × Row). y.0) q in omega (arith, same, below, most)
        cases (inr b) = omega (arith, rising_from (suc r.0) 65534 waiting t x up.2 b, below, most)

    go :
        (r.0 < i) ⊎ (i ≤ r.0) →
        (Rising (length (written ++ copies)) 65534 (keys waiting) →
        length (written ++ copies) ≤ i →
        i < length (fill_holes (written ++ copies) waiting) →
        Above (written ++ copies) waiting i) →
        Above written (r ∷ waiting) i
    go (inl h) rest =
        let a = rest rises (omega (arith, long, h)) high in
        record {
          next = a.next;
          row = a.row;
          waits = among_later (a.next, a.row) r waiting a.waits;
          reached = a.reached;
          least = λ t x from to b. later t x from a to (among-cons (t, x) r waiting b);
          here = a.here;
          there = a.there;
        }
      where
        later : (t : ℕ) (x : Row) → i ≤ t → (a : Above (written ++ copies) waiting i) → t < a.next → ◌≡◌ {A = ℕ × Row} (t, x) r ⊎ Among {A = ℕ × Row} (t, x) waiting → ⊥
        later t x from a to (inl q) = let same : t ≡ r.0 = ap (λ (y : ℕ × Row). y.0) q in omega (arith, same, h, from)
        later t x from a to (inr b) = a.least t x from to b
    go (inr h) rest =
        record {
          next = r.0;
          row = r.1;
          waits = (0, refl);
          reached = h;
          least = λ t x from to b. least r.0 t x to (omega arith) b;
          here = filled-kept (written ++ copies) waiting i r.1 (copies_at written r.0 i r.1 low h);
          there = filled-kept (written ++ copies) waiting r.0 r.1 (found_filled written r.0 r.1 up.0);
        }

-- ---- the rows while they are written

module _ (nodes : List Node) (indexes raws : List (ℕ × ℕ)) where
  -- a node that is to be held cites a bootstrap with this row
  abbrev pub CitedRow : List (ℕ × ℕ) → Row → Type 0
  CitedRow given row =
      (s : ℕ)
      × (k : ℕ)
      × (nd : Node)
      × (c : ℕ)
      × Among (s, k) (to_hold given raws)
      × (get_elem? nodes k ≡ some nd)
      × Among c nd.kids
      × (first_node ≤ c)
      × (tag_at nodes (c - first_node) ≡ bootstrap_tag)
      × Both (SlotFor given) (kids_of nodes (c - first_node)) row

  -- an index is raw, or an inline row's that is cited
  abbrev Inlined : List (ℕ × ℕ) → List (Row × ℕ) → ℕ → Type 0
  Inlined given inline i = (row : Row) × (index_of row inline ≡ some i) × CitedRow given row

  abbrev Raw : ℕ → Type 0
  Raw i = (k : ℕ) × Among (i, k) indexes

  record Told (given : List (ℕ × ℕ)) (rows : Rows) : Type 0 where
    told : (i : ℕ) → i < length rows.written → Raw i ⊎ Inlined given rows.inline i
    waits : (i : ℕ) (row : Row) → Among (i, row) rows.waiting → Raw i

  held_grown : {p p' : Pool} → PoolGrows nodes p p' → (s k : ℕ) → Among (s, k) (to_hold p.given raws) → Among (s, k) (to_hold p'.given raws)
  held_grown {p} {p'} g s k a =
      let old : List (ℕ × ℕ) = map (λ x. (x.1, x.0)) p.given in
      let more : to_hold p'.given raws ≡ g.new ++ to_hold p.given raws = ap (λ l. l ++ raws) g.gave ∙ append_assoc g.new old raws in
      rw more (among-right (s, k) g.new (to_hold p.given raws) a)

  cited_grown : {p p' : Pool} → PoolGrows nodes p p' → (row : Row) → CitedRow p.given row → CitedRow p'.given row
  cited_grown g row (s, k, nd, c, a, at, b, high, tag, slots) =
      (s, k, nd, c, held_grown g s k a, at, b, high, tag, slots_kept g.kept (kids_of nodes (c - first_node)) row slots)

  inlined_kept :
      (given given' : List (ℕ × ℕ)) (inline inline' : List (Row × ℕ)) (i : ℕ) →
      ((row : Row) → CitedRow given row → CitedRow given' row) →
      InlineKept inline inline' →
      Raw i ⊎ Inlined given inline i →
      Raw i ⊎ Inlined given' inline' i
  inlined_kept given given' inline inline' i cited kept (inl h) = inl h
  inlined_kept given given' inline inline' i cited kept (inr (row, at, c)) = inr (row, kept.row_stays_lem i row at, cited row c)

  told_grown : {p p' : Pool} (rows : Rows) → PoolGrows nodes p p' → Told p.given rows → Told p'.given rows
  told_grown {p} {p'} rows g h = record { told = λ i low. inlined_kept p.given p'.given rows.inline rows.inline i (cited_grown g) rows_same (h.told i low); waits = h.waits }

  -- raw rows whose index is next are written
  told-raw :
      (given : List (ℕ × ℕ)) (inline : List (Row × ℕ)) (waiting : List (ℕ × Row)) (written : List Row) →
      Told given (record { written = written; waiting = waiting; inline = inline }) →
      Told given (record { written = (write_raw written waiting).0; waiting = (write_raw written waiting).1; inline = inline })
  unfolding write_raw
  told-raw given inline [] written h = h
  told-raw given inline (r ∷ waiting) written h = go (eqb r.0 (length written)) refl (told-raw given inline waiting (written ++ r.1 ∷ []))
    where
      Of : List Row × List (ℕ × Row) → Type 0
      Of w = Told given (record { written = w.0; waiting = w.1; inline = inline })

      long : length (written ++ r.1 ∷ []) ≡ suc (length written)
      long = length-append written (r.1 ∷ []) ∙ omega arith

      told : (i : ℕ) → r.0 ≡ length written → i < length (written ++ r.1 ∷ []) → (i < length written) ⊎ (length written ≤ i) → Raw i ⊎ Inlined given inline i
      told i q low (inl o) = h.told i o
      told i q low (inr o) =
          let same : r.0 ≡ i = omega (arith, q, low, o, long) in
          inl (subst Raw same (h.waits r.0 r.1 (0, refl)))

      go : (b : Bool) → eqb r.0 (length written) ≡ b → (Of (written ++ r.1 ∷ [], waiting) → Of (write_raw (written ++ r.1 ∷ []) waiting)) → Of (write_raw written (r ∷ waiting))
      go true t rest =
          let q = eqb-true r.0 (length written) t in
          subst Of (sym (write_next written r waiting q))
          (rest (record { told = λ i low. told i q low (order i (length written)); waits = λ i row a. h.waits i row (among_later (i, row) r waiting a) }))
      go false t rest = subst Of (sym (write_stop written r waiting (eqb-false r.0 (length written) t))) h

  -- a row that is cited gets an index
  told-row : (given : List (ℕ × ℕ)) (row : Row) (rows : Rows) (r : ℕ × Rows) → CitedRow given row → Told given rows → row_index row rows ≡ good r → Told given r.1
  told-row given row rows r cited h e = go (index_of row rows.inline) refl
    where
      w : List Row × List (ℕ × Row)
      w = write_raw rows.written rows.waiting

      before : Told given (record { written = w.0; waiting = w.1; inline = rows.inline })
      before = told-raw given rows.inline rows.waiting rows.written h

      long : length (w.0 ++ row ∷ []) ≡ suc (length w.0)
      long = length-append w.0 (row ∷ []) ∙ omega arith

      told : index_of row rows.inline ≡ none → (i : ℕ) → i < length (w.0 ++ row ∷ []) → (i < length w.0) ⊎ (length w.0 ≤ i) → Raw i ⊎ Inlined given ((row, length w.0) ∷ rows.inline) i
      told n i low (inl o) = inlined_kept given given rows.inline ((row, length w.0) ∷ rows.inline) i (λ x c. c) (inline_more row (length w.0) rows.inline n) (before.told i o)
      told n i low (inr o) =
          let same : length w.0 ≡ i = omega (arith, low, o, long) in
          inr (row, inline_first row (length w.0) rows.inline ∙ ap some same, cited)

      taken : index_of row rows.inline ≡ none → (b : Bool) → ltb (length w.0) 65535 ≡ b → Told given r.1
      taken n true t =
          subst (λ (y : ℕ × Rows). Told given y.1) (good_inj (sym (take-some row rows.inline w (ltb-true (length w.0) 65535 t)) ∙ sym (row_new row rows n) ∙ e))
          (record { told = λ i low. told n i low (order i (length w.0)); waits = before.waits })
      taken n false t = bad≢good (sym (take_none row rows.inline w (ltb-false (length w.0) 65535 t)) ∙ sym (row_new row rows n) ∙ e)

      go : (o : Option ℕ) → index_of row rows.inline ≡ o → Told given r.1
      go none n = taken n (ltb (length w.0) 65535) refl
      go (some i) n = subst (λ (y : ℕ × Rows). Told given y.1) (good_inj (sym (row_old row rows i n) ∙ e)) h

  -- ---- the numbers of a node's children

  module _ (kids : KidsIn nodes) (s k : ℕ) (nd : Node) (at : get_elem? nodes k ≡ some nd) where
    abbrev After : Pool → Pool × Rows → Type 0
    After p r = PoolGrows nodes p r.0 × Told r.0.given r.1

    told-one :
        (c : ℕ) (p : Pool) (rows : Rows) (r : ℕ × Pool × Rows) →
        Among c nd.kids →
        Among (s, k) (to_hold p.given raws) →
        Told p.given rows →
        child_number nodes c p rows ≡ good r →
        After p (r.1, r.2)
    told-one c p rows r cited a h e = go (ltb c first_node) refl
      where
        n : ℕ
        n = c - first_node

        of_row : first_node ≤ c → tag_at nodes n ≡ bootstrap_tag → (slots_of nodes (kids_of nodes n) p >>= λ x. at_record n (row_index x.0 rows) >>= λ i. good (i.0, x.1, i.1)) ≡ good r → After p (r.1, r.2)
        of_row high tag e' =
            let (x, isSlots, rest) = good_first (slots_of nodes (kids_of nodes n) p) (λ x. at_record n (row_index x.0 rows) >>= λ i. good (i.0, x.1, i.1)) r e' in
            let (i, is_row, is) = good_first (at_record n (row_index x.0 rows)) (λ i. good (i.0, x.1, i.1)) r rest in
            let slots = all_slotted nodes (kids_of nodes n) p x (kids_in_lem nodes kids n) isSlots in
            subst (λ (y : ℕ × Pool × Rows). After p (y.1, y.2)) (good_inj is) (
              slots.0,
              told-row x.1.given x.0 rows i (s, k, nd, c, held_grown slots.0 s k a, at, cited, high, tag, slots.1) (told_grown rows slots.0 h) (at_record-good _ _ _ is_row),
            )

        of_slot : first_node ≤ c → (at_record n (allocate nodes false n p) >>= λ x. good (x.0, x.1, rows)) ≡ good r → After p (r.1, r.2)
        of_slot high e' =
            let (x, is_slot, is) = good_first (at_record n (allocate nodes false n p)) (λ x. good (x.0, x.1, rows)) r e' in
            let below = kids k nd at c cited high in
            let got = allocated nodes false n p x (omega (arith, below, high)) (at_record-good _ _ _ is_slot) in
            subst (λ (y : ℕ × Pool × Rows). After p (y.1, y.2)) (good_inj is) (got.0, told_grown rows got.0 h)

        of_node : first_node ≤ c → node_number nodes n p rows ≡ good r → (b : Bool) → eqb (tag_at nodes n) bootstrap_tag ≡ b → After p (r.1, r.2)
        of_node high e' true t = of_row high (eqb-true (tag_at nodes n) bootstrap_tag t) (sym (node_number-row nodes n p rows t) ∙ e')
        of_node high e' false t = of_slot high (sym (node_number-slot nodes n p rows t) ∙ e')

        go : (b : Bool) → ltb c first_node ≡ b → After p (r.1, r.2)
        go true t = subst (λ (y : ℕ × Pool × Rows). After p (y.1, y.2)) (good_inj (sym (child_number-raw nodes c p rows t) ∙ e)) (grown-not nodes, h)
        go false t = of_node (ltb-false c first_node t) (sym (child_number-node nodes c p rows t) ∙ e) (eqb (tag_at nodes n) bootstrap_tag) refl

    told-all :
        (cs : List ℕ) (p : Pool) (rows : Rows) (r : List ℕ × Pool × Rows) →
        ((c : ℕ) → Among c cs → Among c nd.kids) →
        Among (s, k) (to_hold p.given raws) →
        Told p.given rows →
        child_numbers nodes cs p rows ≡ good r →
        Told r.1.given r.2
    unfolding child_numbers
    told-all [] p rows r cited a h e = subst (λ (y : List ℕ × Pool × Rows). Told y.1.given y.2) (good_inj e) h
    told-all (c ∷ cs) p rows r cited a h e =
        let (x, isOne, rest) = good_first (child_number nodes c p rows) (λ x. child_numbers nodes cs x.1 x.2 >>= λ rest. good (x.0 ∷ rest.0, rest.1, rest.2)) r e in
        let (others, isOthers, is) = good_first (child_numbers nodes cs x.1 x.2) (λ rest. good (x.0 ∷ rest.0, rest.1, rest.2)) r rest in
        let one = told-one c p rows x (cited c (0, refl)) a h isOne in
        let all = told-all cs x.1 x.2 others (λ c' b. cited c' (among_later c' c cs b)) (held_grown one.0 s k a) one.1 isOthers in
        subst (λ (y : List ℕ × Pool × Rows). Told y.1.given y.2) (good_inj is) all

  -- ---- all of building

  told-finished :
      (top : ℕ × ℕ) (pending : List (ℕ × ℕ)) (m x : Made) →
      KidsIn nodes →
      Building nodes raws (top ∷ pending) m →
      Told m.pool.given m.rows →
      finish nodes top.0 (with_pending pending m) (get_elem? nodes top.1) ≡ good x →
      Told x.pool.given x.rows
  told-finished top pending m x kids b h e =
      let node = inside_found nodes top.1 (b.stack_in top.0 top.1 (0, refl)) in
      let (r, numbers, is) = finish-some nodes top.0 pending m x node.0 (rw node.1 at e) in
      let now = told-all kids top.0 top.1 node.0 node.1 node.0.kids (taken_pool pending m.pool) m.rows r (λ c a. a) (b.stack_from top.0 top.1 (0, refl)) h numbers in
      subst (λ (y : Made). Told y.pool.given y.rows) {x = finished_made top.0 node.0 m r} is now

  told-drained :
      (fuel : ℕ) (pending : List (ℕ × ℕ)) (m m' : Made) →
      KidsIn nodes →
      Building nodes raws pending m →
      Told m.pool.given m.rows →
      drain fuel nodes pending m ≡ good m' →
      Told m'.pool.given m'.rows
  unfolding drain
  told-drained zero [] m m' kids b h e = subst (λ (x : Made). Told x.pool.given x.rows) (good_inj e) h
  told-drained zero (top ∷ pending) m m' kids b h e = bad≢good e
  told-drained (suc fuel) [] m m' kids b h e = subst (λ (x : Made). Told x.pool.given x.rows) (good_inj e) h
  told-drained (suc fuel) (top ∷ pending) m m' kids b h e =
      let (x, isOne, rest) = good_first (finish nodes top.0 (with_pending pending m) (get_elem? nodes top.1)) (λ x. drain fuel nodes x.pool.pending x) m' (good_first (at_record top.1 (unless (known m.pool.version (tag_at nodes top.1)) 24)) (λ _. finish nodes top.0 (with_pending pending m) (get_elem? nodes top.1) >>= λ x. drain fuel nodes x.pool.pending x) m' e).2 in
      told-drained fuel x.pool.pending x m' kids (drained_one nodes indexes raws top pending m x kids b isOne).building (told-finished top pending m x kids b h isOne) rest

  module _ (p : Pool) (m : Made) (starts : Starts nodes raws p) (done : build_all nodes indexes p ≡ good m) where
    told-built : Told m.pool.given m.rows
    unfolding build_all
    told-built =
        let rest : List (ℕ × Row) × Pool → Result Refusal Made = λ r. drain (length r.1.pending + length nodes) nodes r.1.pending (start_made r) in
        let (r, is_raw, drains) = good_first (raw_rows nodes (reverse indexes) p []) rest m done in
        let raw = raw_made nodes (reverse indexes) [] p [] r starts.kids_in tt is_raw in
        let each : RawEach nodes r.1.given indexes r.0 = rw (reverse-reverse indexes) at raw.1 in
        told-drained (length r.1.pending + length nodes) r.1.pending (start_made r) m starts.kids_in (starts-building nodes indexes raws p r starts raw.0)
        (record {
          told = λ i low. absurd (omega (arith, low));
          waits = λ i row a. let f = raw_from nodes r.1.given indexes r.0 each i row a in (f.0, f.2);
        })
        drains

    -- the row of an index is that of the least raw index above it
    pub record RowAbove (i : ℕ) : Type 0 where
      pub next : ℕ
      pub node : ℕ
      pub row : Row
      pub is_raw : Among (next, node) indexes
      pub later : i < next
      pub least : (t k : ℕ) → i < t → t < next → Among (t, k) indexes → ⊥
      pub here : get_elem? (rows_of m) i ≡ some row
      pub there : get_elem? (rows_of m) next ≡ some row

    pub hole :
        Rising 0 65534 (keys indexes) →
        (i : ℕ) →
        i < length (rows_of m) →
        ((k : ℕ) → Among (i, k) indexes → ⊥) →
        ((row : Row) × (index_of row m.rows.inline ≡ some i) × CitedRow m.pool.given row) ⊎ RowAbove i
    hole up i low free = go (order i (length m.rows.written))
      where
        placed : Placed nodes indexes m.pool.given m.rows.written m.rows.waiting
        placed = (built nodes indexes raws p m starts done).unfilled up

        between : (t k : ℕ) → length m.rows.written ≤ t → Among (t, k) indexes → (x : Row) × Among (t, x) m.rows.waiting
        between t k from a = let (x, slots, which) = placed.raw_there t k a in (x, cases x which)
          where
            cases : (x : Row) → (get_elem? m.rows.written t ≡ some x) ⊎ Among (t, x) m.rows.waiting → Among (t, x) m.rows.waiting
            cases x (inl e) = absurd (omega (arith, found_inside m.rows.written t x e, from))
            cases x (inr b) = b

        known : Raw i ⊎ Inlined m.pool.given m.rows.inline i → ((row : Row) × (index_of row m.rows.inline ≡ some i) × CitedRow m.pool.given row) ⊎ RowAbove i
        known (inl (k, a)) = absurd (free k a)
        known (inr h) = inl h

        go : (i < length m.rows.written) ⊎ (length m.rows.written ≤ i) → ((row : Row) × (index_of row m.rows.inline ≡ some i) × CitedRow m.pool.given row) ⊎ RowAbove i
        go (inl h) = known (told-built.told i h)
        go (inr h) =
            let a = above m.rows.waiting m.rows.written i placed.rises h low in
            let (k, is_raw) = told-built.waits a.next a.row a.waits in
            let other : i ≡ a.next → ⊥ = λ q. free k (subst (λ n. Among (n, k) indexes) (sym q) is_raw) in
            inr (record {
              next = a.next;
              node = k;
              row = a.row;
              is_raw = is_raw;
              later = strictly i a.next a.reached other;
              least = λ t k' from to b. let (x, c) = between t k' (omega (arith, h, from)) b in a.least t x (omega (arith, from)) to c;
              here = a.here;
              there = a.there;
            })
          where
            strictly : (x y : ℕ) → x ≤ y → (x ≡ y → ⊥) → x < y
            strictly x y le ne = omega arith
