-- The words of references, once linked, are the goals of the linked table. Assumes nothing.
use mathlib.Core.List.{List, map}
use mathlib.Core.Option.{some}
use mathlib.Core.Path.{◌≡◌, sym, ap, ◌∙◌}
use Prim.Native.Nat.{ℕ, ◌+◌, ◌<◌}
use native.Mathlib.Omega.{arith}
use lib.ListN.{get_or, get_elem?}
use Rattle.definition.specs.Shapes.{Entry, with_kids, with_literal}
use Rattle.definition.specs.Job.{Reference}
use Rattle.definition.specs.Numbering.{literals, numbered_entry}
use Rattle.definition.specs.Resolving.{Goal, goal_of, linked}
use Rattle.facts.proofs.Lists.{map-some, found_inside}
use Rattle.store.specs.JobIn.{job_in, counts_in, table_in, constants_in, namings_in, numbered_in, linked_in}
use Rattle.store.specs.Words.{reference_word}
use Rattle.store.specs.Entries.{Entered, Linked}
use Rattle.sym_refs.specs.Names.{Goes}
use Rattle.interner.proofs.Shaped.{numbered-table}

-- an entry of the linked table is one of the table, its references followed
linked-row :
    (s : List ℕ) (e : ℕ) (x : Entry ℕ Goal) → get_elem? (linked_in s) e ≡ some x →
    (y : Entry (List ℕ) Reference) × (get_elem? (table_in s) e ≡ some y) × (x.kids ≡ map (goal_of (namings_in s) (constants_in s)) y.kids)
unfolding linked_in linked with_kids numbered_entry with_literal
linked-row s e x h =
    let goal = goal_of (namings_in s) (constants_in s) in
    let one = map-some (λ (z : Entry ℕ Reference). with_kids (map goal z.kids) z) (numbered_in s) e x h in
    let two = map-some (numbered_entry (literals (job_in s))) (table_in s) e one.0 (sym (ap (λ l. get_elem? l e) (numbered-table s)) ∙ one.1) in
    (two.0, two.1, sym (ap (λ z. z.kids) one.2) ∙ ap (λ z. map goal z.kids) (sym two.2))

module _ (s offsets firsts sizes before after : List ℕ) {values : List ℕ} (entered : Entered s offsets firsts sizes values) where
  pub words_linked :
      ((e : ℕ) (x : Entry (List ℕ) Reference) → get_elem? (table_in s) e ≡ some x → (i : ℕ) (r : Reference) → get_elem? x.kids i ≡ some r →
      reference_word s (constants_in s) (get_or before (get_or firsts e 0 + i) 0) ≡ r) →
      ((i : ℕ) → i < (counts_in s).references → Goes s (get_or before i 0) (get_or after i 0)) →
      Linked s firsts after
  words_linked words goes =
      record {
        kids =
            λ e x h i g k.
            let row = linked-row s e x h in
            let kid = map-some (goal_of (namings_in s) (constants_in s)) row.0.kids i g (sym (ap (λ l. get_elem? l i) row.2) ∙ k) in
            let at = entered.at e row.0 row.1 in
            let low : get_or firsts e 0 + i < (counts_in s).references = omega (arith, at.room, at.count, found_inside row.0.kids i kid.0 kid.1) in
            (goes (get_or firsts e 0 + i) low).leads ∙ ap (goal_of (namings_in s) (constants_in s)) (words e row.0 row.1 i kid.0 kid.1) ∙ kid.2;
        words = λ i l. (goes i l).word;
      }
