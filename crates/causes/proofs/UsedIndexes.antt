-- While building, an index is used exactly if it lies below the next one or a raw bootstrap of the job stands there. Assumes nothing.
use mathlib.Core.List.{List, [], ◌∷◌, ◌++◌}
use mathlib.Core.Logic.{◌⊎◌, inl, inr}
use mathlib.Core.Option.{Option, none, some}
use mathlib.Core.Path.{◌≡◌, refl, sym, ap, subst, ◌∙◌}
use Prim.Native.Nat.{ℕ, suc, ◌≤◌, ◌<◌}
use native.Mathlib.Omega.{arith}
use lib.ListN.{length}
use Rattle.definition.specs.Basics.{good, lookup}
use Rattle.definition.specs.Shapes.{bootstrap}
use Rattle.definition.specs.Job.{Job}
use Rattle.definition.specs.Numbering.{top_of}
use Rattle.definition.specs.Definitions.{Defined, define_all, nothing_defined}
use Rattle.definition.specs.Resolving.{Node, Mark}
use Rattle.definition.specs.Building.{Pool, Row, Rows, write_raw, index_of, row_index}
use Rattle.definition.specs.Layout.{index_nodes}
use Rattle.facts.specs.Lists.{Among, keys}
use Rattle.facts.proofs.Lists.{order, equal, among-cons, among_later, map_at, unmap}
use Rattle.facts.proofs.Tables.{lookup-at, among-lookup}
use Rattle.facts.proofs.Results.{bad≢good, good_inj}
use Rattle.causes.specs.CauseStatement.{RawIndex}
use Rattle.laws.proofs.Definitions.DefinedAsPlaced.{DefinedFacts, wide_at, defined_facts}
use Rattle.laws.proofs.Building.RowsThatOccur.{write_next, write_stop, waiting_keys, row_old, row_new, take-some, take_none}
use Rattle.laws.proofs.Runs.StepsOfRuns.{RowsIn, raw_ones, after_inline}
use Rattle.causes.proofs.CauseDefinitions.{all, constants, placed-back, placed-forth}
use Rattle.causes.proofs.CauseForm.{snoc_length}

-- ---- raw rows that are written: those that wait on, waited, and the others are written

abbrev Kept : List Row → List (ℕ × Row) → List Row × List (ℕ × Row) → Type 0
Kept written waiting w =
    (length written ≤ length w.0) × ((i : ℕ) (r : Row) → Among (i, r) w.1 → Among (i, r) waiting)
    × ((i : ℕ) (r : Row) → Among (i, r) waiting → (i < length w.0) ⊎ Among (i, r) w.1)

kept : (waiting : List (ℕ × Row)) (written : List Row) → Kept written waiting (write_raw written waiting)
unfolding write_raw
kept [] written = (omega arith, λ i r a. a, λ i r a. inr a)
kept (x ∷ waiting) written = go (equal x.0 (length written)) (kept waiting (written ++ x.1 ∷ []))
  where
    longer : length (written ++ x.1 ∷ []) ≡ suc (length written)
    longer = snoc_length written x.1

    go :
        (x.0 ≡ length written) ⊎ (x.0 ≡ length written → ⊥) →
        Kept (written ++ x.1 ∷ []) waiting (write_raw (written ++ x.1 ∷ []) waiting) →
        Kept written (x ∷ waiting) (write_raw written (x ∷ waiting))
    go (inl q) (more, back, forth) =
        subst (Kept written (x ∷ waiting)) (sym (write_next written x waiting q)) (
          omega (arith, more, longer),
          λ i r a. among_later (i, r) x waiting (back i r a),
          λ i r a. first i r (among-cons (i, r) x waiting a),
        )
      where
        first :
            (i : ℕ) (r : Row) →
            (◌≡◌ {A = ℕ × Row} (i, r) x) ⊎ Among (i, r) waiting →
            (i < length (write_raw (written ++ x.1 ∷ []) waiting).0) ⊎ Among (i, r) (write_raw (written ++ x.1 ∷ []) waiting).1
        first i r (inl e) = inl (omega (arith, ap (λ (y : ℕ × Row). y.0) e, q, more, longer))
        first i r (inr a) = forth i r a
    go (inr q) _ = subst (Kept written (x ∷ waiting)) (sym (write_stop written x waiting q)) (omega arith, λ i r a. a, λ i r a. inr a)

module _ (job : Job (List ℕ)) (d : Defined) (defined : define_all (top_of job) (constants job) 0 (all job) nothing_defined ≡ good d) where
  facts : DefinedFacts (wide_at (constants job)) (all job) d
  facts = defined_facts (top_of job) (constants job) (all job) d defined

  -- the raw bootstraps, by the records
  index-raw : (i : ℕ) → Among i (keys d.indexes) → RawIndex job i
  index-raw i a =
      let u = unmap (λ (r : ℕ × ℕ). r.0) d.indexes i a in
      let (k, at) = facts.all_indexes.index_placed u.0.0 u.0.1 u.1 in
      subst (RawIndex job) u.2 (k, u.0.1, placed-back job k bootstrap u.0.0 u.0.1 at)

  raw_index_lem : (i : ℕ) → RawIndex job i → Among i (keys d.indexes)
  raw_index_lem i (k, e, at) =
      let h = facts.all_indexes.index_held i e (k, placed-forth job k bootstrap i e at) in
      (h.0, map_at (λ (r : ℕ × ℕ). r.0) d.indexes h.0 (i, e) h.1)

  -- ---- rows of building

  abbrev Waits : Rows → Type 0
  Waits rows =
      ((i : ℕ) (r : Row) → Among (i, r) rows.waiting → Among i (keys d.indexes))
      × ((i : ℕ) → Among i (keys d.indexes) → (i < length rows.written) ⊎ ((r : Row) × Among (i, r) rows.waiting))

  row_waits : (row : Row) (n : ℕ) (rows rows' : Rows) → Waits rows → row_index row rows ≡ good (n, rows') → Waits rows'
  row_waits row n rows rows' (back, forth) e = go (index_of row rows.inline) refl
    where
      w : List Row × List (ℕ × Row)
      w = write_raw rows.written rows.waiting

      k : Kept rows.written rows.waiting w
      k = kept rows.waiting rows.written

      after : (i : ℕ) → (i < length rows.written) ⊎ ((r : Row) × Among (i, r) rows.waiting) → (i < length (w.0 ++ row ∷ [])) ⊎ ((r : Row) × Among (i, r) w.1)
      after i (inl l) = inl (omega (arith, l, k.0, snoc_length w.0 row))
      after i (inr (r, a)) = ways (k.2 i r a)
        where
          ways : (i < length w.0) ⊎ Among (i, r) w.1 → (i < length (w.0 ++ row ∷ [])) ⊎ ((r : Row) × Among (i, r) w.1)
          ways (inl l) = inl (omega (arith, l, snoc_length w.0 row))
          ways (inr b) = inr (r, b)

      taken : index_of row rows.inline ≡ none → (length w.0 < 65535) ⊎ (65535 ≤ length w.0) → Waits rows'
      taken new (inl l) =
          subst (λ (z : ℕ × Rows). Waits z.1) (good_inj (sym (take-some row rows.inline w l) ∙ sym (row_new row rows new) ∙ e))
          (λ i r a. back i r (k.1 i r a), λ i a. after i (forth i a))
      taken new (inr l) = bad≢good (sym (take_none row rows.inline w l) ∙ sym (row_new row rows new) ∙ e)

      go : (o : Option ℕ) → index_of row rows.inline ≡ o → Waits rows'
      go none new = taken new (order (length w.0) 65535)
      go (some i) old = subst (λ (z : ℕ × Rows). Waits z.1) (good_inj (sym (row_old row rows i old) ∙ e)) (back, forth)

  module _ (nodes : List Node) (size : ℕ) (marks : List Mark) (start : Pool) where
    waits : {rows : Rows} → RowsIn nodes (index_nodes size marks d.indexes) start rows → Waits rows
    waits (raw_ones waiting p e) =
        let q = waiting_keys nodes size marks d.indexes start p waiting e in (
          λ i r a. subst (Among i) q (a.0, map_at (λ (x : ℕ × Row). x.0) waiting a.0 (i, r) a.1),
          λ i a.
              let u = unmap (λ (x : ℕ × Row). x.0) waiting i (subst (Among i) (sym q) a) in
              inr (u.0.1, subst (λ k. Among (k, u.0.1) waiting) u.2 u.1),
        )
    waits (after_inline row i rows rows' o _ e) = row_waits row i rows rows' (waits o) e

    module _ {rows : Rows} (o : RowsIn nodes (index_nodes size marks d.indexes) start rows) (i : ℕ) where
      abbrev Used : Type 0
      Used = (i < length rows.written) ⊎ ((r : Row) × (lookup i rows.waiting ≡ some r))

      pub used_raw : Used → (i < length rows.written) ⊎ RawIndex job i
      used_raw (inl l) = inl l
      used_raw (inr (r, at)) = inr (index-raw i ((waits o).0 i r (lookup-at i r rows.waiting at)))

      pub raw_used : (i < length rows.written) ⊎ RawIndex job i → Used
      raw_used (inl l) = inl l
      raw_used (inr h) = go ((waits o).1 i (raw_index_lem i h))
        where
          go : (i < length rows.written) ⊎ ((r : Row) × Among (i, r) rows.waiting) → Used
          go (inl l) = inl l
          go (inr (r, a)) = inr (among-lookup i r rows.waiting a)
