-- The order of the raw definitions gives the goals that record 50 resolves, and each is an entry of the table. Assumes nothing.
use mathlib.Core.Bool.{Bool, true, false}
use mathlib.Core.List.{List, [], ◌∷◌, ◌++◌, map, append_assoc}
use mathlib.Core.Logic.{⊎_elim}
use mathlib.Core.Path.{◌≡◌, refl, sym, ap, ◌∙◌}
use Prim.Native.Nat.{ℕ, zero, suc, ◌+◌, ◌-◌, ◌≤◌, ◌<◌}
use native.Mathlib.Omega.{arith}
use lib.Dec.{eqb}
use lib.ListN.{length, get_or, take, drop, length-append}
use lib.Seq.{drop-cons}
use borrow.Author.Tests.{ne_eqb}
use Rattle.definition.specs.Basics.{good, from}
use Rattle.definition.specs.Shapes.{constant, bootstrap}
use Rattle.definition.specs.Numbering.{constants_of, bootstraps_of, numbered}
use Rattle.definition.specs.Definitions.{Held, starts, half, Defined}
use Rattle.definition.specs.Resolving.{table_entry}
use Rattle.definition.specs.Layout.{starters}
use Rattle.laws.specs.Statements.{IsBytes}
use Rattle.facts.specs.Lists.{Among}
use Rattle.facts.proofs.Tables.{lookup-at}
use Rattle.laws.proofs.Form.FormedJobs.{form-formed}
use Rattle.laws.proofs.Definitions.DefinedAsPlaced.{defined_facts}
use Rattle.laws.specs.Counted as Counted
use Rattle.laws.proofs.Numbering.NumberedCited as Numbered
use Rattle.laws.proofs.Form.CitedEntries as Citing
use Rattle.store.specs.JobIn.{WellFormed, job_in, definitions_in, table_of, constants_in, entries_in}
use Rattle.store.specs.Words.{ENTRY, HALF}
use Rattle.store.proofs.Bounds.{formed_job}
use Rattle.raws.specs.Raws.{held_word, SlotItem, IndexItem, slot_row, index_row, Ordered}
use Rattle.definitions.specs.Defining.{records_in, defined_in}
use Rattle.definitions.specs.Ending.{goals_of, raw_goal, raw_at_lem, raw_goals, IsRaw}
use Rattle.facts.proofs.Lists.{order as compare}

-- places of a list as numbers in a row
taken_from : (l : List ℕ) (i m : ℕ) → i + m ≤ length l → take m (drop i l) ≡ from (λ j. get_or l j 0) i m
unfolding from
taken_from l i zero h = refl
taken_from l i (suc m) h =
    let low : i < length l = omega arith in
    rw (drop-cons l i 0 low) (ap (λ r. get_or l i 0 ∷ r) (taken_from l (suc i) m (omega arith)))

module _ (item_keys entries order : List ℕ) where
  -- the slots
  slot-goals : (i m : ℕ) → map (λ r. table_entry r.1) (starters (map (slot_row item_keys entries) (from (λ j. get_or order j 0) i m))) ≡ raw_goals entries order i m
  unfolding from starters raw_goals raw_goal held_word
  slot-goals i zero = refl
  slot-goals i (suc m) = ways (eqb (raw_at_lem entries order i) HALF) refl (slot-goals (suc i) m)
    where
      rest : List (ℕ × Held)
      rest = map (slot_row item_keys entries) (from (λ j. get_or order j 0) (suc i) m)

      ways :
          (b : Bool) → eqb (raw_at_lem entries order i) HALF ≡ b → map (λ r. table_entry r.1) (starters rest) ≡ raw_goals entries order (suc i) m →
          map (λ r. table_entry r.1) (starters ((get_or item_keys (get_or order i 0) 0, elim b [ true ↦ half | false ↦ starts (raw_at_lem entries order i) ]) ∷ rest))
          ≡ elim b [ true ↦ [] | false ↦ table_entry (raw_at_lem entries order i) ∷ [] ] ++ raw_goals entries order (suc i) m
      ways true e h = h
      ways false e h = ap (λ l. table_entry (raw_at_lem entries order i) ∷ l) h

  -- the indexes
  index-goals :
      (constants i m : ℕ) → ((j : ℕ) → i ≤ j → j < i + m → (constants ≤ raw_at_lem entries order j) × (raw_at_lem entries order j < HALF)) →
      map (λ r. table_entry (constants + r.1)) (map (index_row constants item_keys entries) (from (λ j. get_or order j 0) i m)) ≡ raw_goals entries order i m
  unfolding from raw_goals raw_goal
  index-goals constants i zero h = refl
  index-goals constants i (suc m) h =
      let g = h i (omega arith) (omega arith) in
      let back : constants + (raw_at_lem entries order i - constants) ≡ raw_at_lem entries order i = omega (arith, g.0) in
      let apart = ne_eqb (raw_at_lem entries order i) HALF (λ q. omega (arith, g.1)) in
      rw (back, index-goals constants (suc i) m (λ j low high. h j (omega arith) (omega arith)), apart, raw_goal)

  goals_split : (i a b : ℕ) → raw_goals entries order i (a + b) ≡ raw_goals entries order i a ++ raw_goals entries order (i + a) b
  unfolding raw_goals
  goals_split i zero b = let e : 0 + b ≡ b = omega arith in let f : i + 0 ≡ i = omega arith in rw (e, f)
  goals_split i (suc a) b =
      let e : suc a + b ≡ suc (a + b) = omega arith in
      let f : i + suc a ≡ suc i + a = omega arith in
      rw (e, f, goals_split (suc i) a b, append_assoc)

module _ (constants top : ℕ) (d : Defined) (item_keys entries order : List ℕ) (n : ℕ) (ordered : Ordered constants top d.held d.indexes item_keys entries order n)
    (counted : length d.held + length d.indexes ≡ n) (long : n ≤ length order) where
  pub order_goals : raw_goals entries order 0 n ≡ goals_of constants d
  unfolding goals_of
  order_goals =
      let h = length d.held in
      let k = length d.indexes in
      let z : 0 + h ≡ h = omega arith in
      let slots = ap (λ l. map (slot_row item_keys entries) l) (sym (taken_from order 0 h (omega arith))) ∙ ordered.slots in
      let rows = ap (λ l. map (index_row constants item_keys entries) l) (sym (taken_from order h k (omega arith))) ∙ ordered.rows in
      let first = sym (slot-goals item_keys entries order 0 h) ∙ ap (λ l. map (λ r. table_entry r.1) (starters l)) slots in
      let second =
      sym (index-goals item_keys entries order constants h k (λ j low high. let g = ordered.row_items j low (omega arith) in (g.behind, g.word)))
      ∙ ap (λ l. map (λ r. table_entry (constants + r.1)) l) rows in
      rw (← counted, goals_split item_keys entries order 0 h k, z, first, second)

-- each is an entry of the table
module _ (s : List ℕ) (well : WellFormed s) (bytes : IsBytes s) (top : ℕ) (d : Defined) (run : defined_in top s ≡ good d) where
  cited : Citing.Cited ℕ (numbered (job_in s))
  cited = Numbered.cited_numbered (job_in s) (Citing.formed_cited (job_in s) (form-formed s (job_in s) bytes (formed_job s well)))

  pub start_low : (k e : ℕ) → Among (k, starts e) d.held → e < constants_in s
  unfolding records_in definitions_in Counted.count_in
  start_low k e h =
      let f = defined_facts top (constants_of (records_in s)) (records_in s) d run in
      let c = Citing.placed-cited (numbered (job_in s)) cited constant k e (f.all_held.start_placed k e h) in
      rw (Numbered.count_numbered (job_in s) constant) at c

  pub index-low : (k e : ℕ) → Among (k, e) d.indexes → constants_in s + e < entries_in s
  unfolding records_in definitions_in Counted.count_in table_of
  index-low k e h =
      let f = defined_facts top (constants_of (records_in s)) (records_in s) d run in
      let c = Citing.placed-cited (numbered (job_in s)) cited bootstrap k e (f.all_indexes.index_placed k e h) in
      let b = rw (Numbered.count_numbered (job_in s) bootstrap) at c in
      omega (arith, b, length-append (constants_of (job_in s).definitions) (bootstraps_of (job_in s).definitions))

  slot-raw : (key e : ℕ) → SlotItem top d.held key e → IsRaw s e
  unfolding held_word table_of
  slot-raw key e item other =
      let low = start_low key e (lookup-at key (starts e) d.held (rw (ne_eqb e HALF other, held_word) at item.row)) in
      omega (arith, low, length-append (constants_of (definitions_in s)) (bootstraps_of (definitions_in s)))

  index-raw : (key e : ℕ) → IndexItem (constants_in s) d.indexes key e → IsRaw s e
  index-raw key e item other = omega (arith, index-low (key - ENTRY) (e - constants_in s) (lookup-at (key - ENTRY) (e - constants_in s) d.indexes item.row), item.behind)

  pub order_raws :
      (item_keys entries order : List ℕ) (n : ℕ) → Ordered (constants_in s) top d.held d.indexes item_keys entries order n →
      (i : ℕ) → i < n → IsRaw s (raw_at_lem entries order i)
  order_raws item_keys entries order n ordered i h =
      ⊎_elim
      (λ (l : i < length d.held). slot-raw _ _ (ordered.slot_items i l))
      (λ (l : length d.held ≤ i). index-raw _ _ (ordered.row_items i l h))
      (compare i (length d.held))
