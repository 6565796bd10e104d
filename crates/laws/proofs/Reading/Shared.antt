-- SHARED: answers, and slots of cited constants, are equal exactly if the constants are the same; cited bootstraps have one index exactly if
-- their rows have the same numbers; and no slot of a raw constant is given. Assumes nothing.
use mathlib.Core.List.{List, map}
use mathlib.Core.Logic.{◌↔◌, inl, inr}
use mathlib.Core.Option.{some}
use mathlib.Core.Path.{◌≡◌, sym, ap, subst, ◌∙◌}
use Prim.Native.Nat.{ℕ, suc, ◌+◌, ◌≤◌, ◌<◌}
use native.Mathlib.Omega.{arith}
use lib.ListN.{length, get_elem?}
use borrow.Author.Tests.{eqb-false}
use Rattle.definition.specs.Basics.{good, lookup}
use Rattle.definition.specs.Shapes.{constant, bootstrap_tag, Entry, is_wide}
use Rattle.definition.specs.Job.{Reference, placed, Job}
use Rattle.definition.specs.Form.{form}
use Rattle.definition.specs.Numbering.{top_of, constants_of, literals, numbered}
use Rattle.definition.specs.Definitions.{starts, half, tag_at}
use Rattle.definition.specs.Resolving.{Goal, table_entry, first_node, done, child_of}
use Rattle.definition.specs.Building.{Row, index_of, kids_of}
use Rattle.definition.specs.Layout.{Layout, layout_of, layout}
use Rattle.definition.specs.Run.{render}
use Rattle.facts.specs.Lists.{Among, keys}
use Rattle.facts.proofs.Lists.{some_inj, map_at}
use Rattle.facts.proofs.Tables.{lookup-at}
use Rattle.facts.proofs.Each.{Both}
use Rattle.facts.proofs.Sums.{once_same}
use Rattle.laws.specs.Statements.{IsBytes, Finished, entry_at}
use Rattle.laws.specs.SharedStatement.{Same, GivenTo, AnsweredBy, Takes, SharedBy, Shared}
use Rattle.laws.proofs.Resolving.JobGoals.{table_defined}
use Rattle.laws.proofs.Resolving.LeadsAsFollowed.{named-once}
use Rattle.laws.proofs.Resolving.ResolvedNodes.{child_done}
use Rattle.laws.proofs.Resolving.SameConstants.{FineIn, same-child, child_same}
use Rattle.laws.proofs.Slots.SlotsToHold.{NodeTakes, to_hold, raw_not-given, starts-once}
use Rattle.laws.proofs.Building.ChildNumbers.{SlotFor, given-held}
use Rattle.laws.proofs.Building.ExactNumbers.{slot_given, row_told}
use Rattle.laws.proofs.Building.BuiltJob.{facts, good_job_table, asked, marks, rows, inline}
use Rattle.laws.proofs.Building.JobNodesApart.{nodes_apart}
use Rattle.laws.proofs.Reading.PoolReadBack.{row_shown}
use Rattle.laws.proofs.Reading.BuiltPoolReadBack.{stg, all_nodes, raw, pool, inline_rows, soundly, raw_keys, raw_wide}
use Rattle.laws.proofs.Reading.SlotsShow.{finished, entry_became, tag_of}
use Rattle.laws.proofs.Reading.JobHeld.{placed-there, constant_held}
use Rattle.laws.proofs.Reading.Holds.{shown_of, as_read}
use Rattle.laws.proofs.Reading.GivenNumbers.{NumberIs, node_of, answer-slot, leads_to_lem, given-number}

module _ (bytes : List ℕ) (job : Job (List ℕ)) (l : Layout) (are : IsBytes bytes) (formed : form bytes ≡ good job) (laid : layout (top_of job) (numbered job) ≡ good l) where
  abbrev f : Finished
  f = finished bytes job l are formed laid

  abbrev given : List (ℕ × ℕ)
  given = (pool bytes job l are formed laid).given

  abbrev IsGiven : Goal → ℕ → Type 0
  IsGiven = GivenTo f job.requests (stg bytes job l are formed laid).answers

  -- the tag of the node that an entry became
  tag-became : (e k : ℕ) (x : Entry (List ℕ) Reference) → get_elem? (marks bytes job l are formed laid) e ≡ some (done k) → entry_at job.definitions e ≡ some x → tag_at (all_nodes bytes job l are formed laid) k ≡ x.tag
  tag-became e k x mark at =
      let b = entry_became bytes job l are formed laid e k mark in
      tag_of bytes job l are formed laid e k b ∙ ap (λ (z : Entry (List ℕ) Reference). z.tag) (some_inj (sym b.is_entry ∙ at))

  -- the same entries became one node
  same_node_lem :
      (e₁ e₂ k₁ k₂ : ℕ) →
      get_elem? (marks bytes job l are formed laid) e₁ ≡ some (done k₁) →
      get_elem? (marks bytes job l are formed laid) e₂ ≡ some (done k₂) →
      Same job.definitions (table_entry e₁) (table_entry e₂) →
      k₁ ≡ k₂
  same_node_lem e₁ e₂ k₁ k₂ mark₁ mark₂ same =
      let one =
      same-child bytes job are formed (good_job_table bytes job l are formed laid) (stg bytes job l are formed laid).asked.resolved (asked bytes job l are formed laid).0.faithful (nodes_apart bytes job l are formed laid) (named-once job l laid) (table_entry e₁) (table_entry e₂) same
      (k₁, mark₁)
      (k₂, mark₂) in
      omega (arith, one, child_done (marks bytes job l are formed laid) e₁ k₁ mark₁, child_done (marks bytes job l are formed laid) e₂ k₂ mark₂)

  -- ---- constants

  -- an entry has a slot: it became a node to which it was given
  abbrev HasSlot : ℕ → ℕ → Type 0
  HasSlot e n = (k : ℕ) × (get_elem? (marks bytes job l are formed laid) e ≡ some (done k)) × (lookup k given ≡ some n)

  slot_of : (e n : ℕ) → FineIn (marks bytes job l are formed laid) (table_entry e) → SlotFor given (child_of (marks bytes job l are formed laid) (table_entry e)) n → HasSlot e n
  slot_of e n (low, (k, mark)) (inl h) = absurd (omega (arith, h.0, child_done (marks bytes job l are formed laid) e k mark))
  slot_of e n (low, (k, mark)) (inr h) = (k, mark, subst (λ c. lookup c given ≡ some n) (node_of bytes job l are formed laid e k mark) h.1)

  answer-has : (i e a : ℕ) → AnsweredBy f job.requests (stg bytes job l are formed laid).answers i e a → HasSlot e a
  answer-has i e a (q, at, leads, there) =
      let h = answer-slot bytes job l are formed laid i q a at there in
      let h' = subst (λ g. FineIn (marks bytes job l are formed laid) g × SlotFor given (child_of (marks bytes job l are formed laid) g) a) (leads_to_lem bytes job l are formed laid q.what (table_entry e) leads) h in
      slot_of e a h'.0 h'.1

  given-has : (e n : ℕ) → e < length (constants_of job.definitions) → IsGiven (table_entry e) n → HasSlot e n
  given-has e n low g = go (given-number bytes job l are formed laid (table_entry e) n g)
    where
      go : FineIn (marks bytes job l are formed laid) (table_entry e) × NumberIs bytes job l are formed laid (child_of (marks bytes job l are formed laid) (table_entry e)) n → HasSlot e n
      go (fine, inl h) = slot_of e n fine (inl h)
      go (fine, inr (inl h)) = slot_of e n fine (inr (h.0, h.2))
      go (fine, inr (inr h)) =
          let k = fine.1.0 in
          let mark = fine.1.1 in
          let b = entry_became bytes job l are formed laid e k mark in
          let tag : tag_at (all_nodes bytes job l are formed laid) k ≡ bootstrap_tag = subst (λ c. tag_at (all_nodes bytes job l are formed laid) c ≡ bootstrap_tag) (node_of bytes job l are formed laid e k mark) h.1 in
          let plain = eqb-false b.entry.tag bootstrap_tag ((table_defined job.definitions e b.entry b.is_entry).0 low) in
          absurd (plain (sym (tag-became e k b.entry mark b.is_entry) ∙ tag))

  -- one node has one slot, and no two nodes have one
  slots-shared : (e₁ e₂ n₁ n₂ : ℕ) → HasSlot e₁ n₁ → HasSlot e₂ n₂ → (n₁ ≡ n₂) ↔ Same job.definitions (table_entry e₁) (table_entry e₂)
  slots-shared e₁ e₂ n₁ n₂ (k₁, mark₁, at₁) (k₂, mark₂, at₂) = (there, back)
    where
      there : n₁ ≡ n₂ → Same job.definitions (table_entry e₁) (table_entry e₂)
      there same =
          let a₁ = given-held k₁ n₁ given (raw bytes job l are formed laid) at₁ in
          let a₂ = given-held k₂ n₂ given (raw bytes job l are formed laid) at₂ in
          let one : k₁ ≡ k₂ =
          once_same (to_hold given (raw bytes job l are formed laid)) n₂ k₁ k₂
          (starts-once (top_of job) (stg bytes job l are formed laid).defined.held (all_nodes bytes job l are formed laid) (pool bytes job l are formed laid) (raw bytes job l are formed laid) (soundly bytes job l are formed laid) (raw_keys bytes job l are formed laid) (raw_wide bytes job l are formed laid) n₂)
          (subst (λ n. Among (n, k₁) (to_hold given (raw bytes job l are formed laid))) same a₁)
          a₂ in
          child_same bytes job are formed (good_job_table bytes job l are formed laid) (stg bytes job l are formed laid).asked.resolved (asked bytes job l are formed laid).0.faithful (nodes_apart bytes job l are formed laid) (table_entry e₁) (table_entry e₂)
          (tt, (k₁, mark₁))
          (tt, (k₂, mark₂))
          (child_done (marks bytes job l are formed laid) e₁ k₁ mark₁ ∙ ap (λ k. first_node + k) one ∙ sym (child_done (marks bytes job l are formed laid) e₂ k₂ mark₂))

      back : Same job.definitions (table_entry e₁) (table_entry e₂) → n₁ ≡ n₂
      back same =
          let one = same_node_lem e₁ e₂ k₁ k₂ mark₁ mark₂ same in
          some_inj (sym at₁ ∙ ap (λ k. lookup k given) one ∙ at₂)

  -- ---- bootstraps

  -- a bootstrap has an index: its row is found among the inline ones with it
  abbrev HasIndex : ℕ → ℕ → Type 0
  HasIndex e n =
      (k : ℕ)
      × (row : Row)
      × (get_elem? (marks bytes job l are formed laid) e ≡ some (done k))
      × (index_of row (inline bytes job l are formed laid) ≡ some n)
      × Both (SlotFor given) (kids_of (all_nodes bytes job l are formed laid) k) row

  given-index : (e n : ℕ) → length (constants_of job.definitions) ≤ e → IsGiven (table_entry e) n → HasIndex e n
  given-index e n high g = go (given-number bytes job l are formed laid (table_entry e) n g)
    where
      go : FineIn (marks bytes job l are formed laid) (table_entry e) × NumberIs bytes job l are formed laid (child_of (marks bytes job l are formed laid) (table_entry e)) n → HasIndex e n
      go (fine, inl h) = absurd (omega (arith, h.0, child_done (marks bytes job l are formed laid) e fine.1.0 fine.1.1))
      go (fine, inr (inl h)) =
          let k = fine.1.0 in
          let mark = fine.1.1 in
          let b = entry_became bytes job l are formed laid e k mark in
          let tag = tag-became e k b.entry mark b.is_entry ∙ (table_defined job.definitions e b.entry b.is_entry).1 high in
          absurd (h.1 (ap (tag_at (all_nodes bytes job l are formed laid)) (node_of bytes job l are formed laid e k mark) ∙ tag))
      go (fine, inr (inr h)) = (
        fine.1.0,
        h.2,
        fine.1.1,
        h.3,
        subst (λ c. Both (SlotFor given) (kids_of (all_nodes bytes job l are formed laid) c) h.2) (node_of bytes job l are formed laid e fine.1.0 fine.1.1) h.4,
      )

  -- one row has one index, and no two rows have one
  indexes_shared_lem :
      (e₁ e₂ n₁ n₂ : ℕ) →
      HasIndex e₁ n₁ →
      HasIndex e₂ n₂ →
      (y₁ : Entry (List ℕ) ℕ)
      × (y₂ : Entry (List ℕ) ℕ)
      × (get_elem? f.bootstraps n₁ ≡ some y₁)
      × (get_elem? f.bootstraps n₂ ≡ some y₂)
      × ((n₁ ≡ n₂) ↔ (y₁.kids ≡ y₂.kids))
      × (Same job.definitions (table_entry e₁) (table_entry e₂) → n₁ ≡ n₂)
  indexes_shared_lem e₁ e₂ n₁ n₂ (k₁, row₁, mark₁, at₁, slots₁) (k₂, row₂, mark₂, at₂, slots₂) =
      (row_shown row₁, row_shown row₂, map_at row_shown there n₁ row₁ stands₁, map_at row_shown there n₂ row₂ stands₂, (rows_one, one-row), λ same. one-row (same_rows same))
    where
      there : List Row
      there = rows bytes job l are formed laid

      stands₁ : get_elem? there n₁ ≡ some row₁
      stands₁ = (inline_rows bytes job l are formed laid).row_stays_lem n₁ row₁ at₁

      stands₂ : get_elem? there n₂ ≡ some row₂
      stands₂ = (inline_rows bytes job l are formed laid).row_stays_lem n₂ row₂ at₂

      rows_one : n₁ ≡ n₂ → row₁ ≡ row₂
      rows_one same = some_inj (sym stands₁ ∙ ap (get_elem? there) same ∙ stands₂)

      one-row : row₁ ≡ row₂ → n₁ ≡ n₂
      one-row same = some_inj (sym at₁ ∙ ap (λ row. index_of row (inline bytes job l are formed laid)) same ∙ at₂)

      same_rows : Same job.definitions (table_entry e₁) (table_entry e₂) → row₁ ≡ row₂
      same_rows same =
          row_told given (kids_of (all_nodes bytes job l are formed laid) k₁) row₁ slots₁
          ∙ ap (λ k. map (slot_given given) (kids_of (all_nodes bytes job l are formed laid) k)) (same_node_lem e₁ e₂ k₁ k₂ mark₁ mark₂ same)
          ∙ sym (row_told given (kids_of (all_nodes bytes job l are formed laid) k₂) row₂ slots₂)

  -- ---- raw constants

  -- what a raw constant takes is held
  raw_taken : (n number t : ℕ) (y : Entry (List ℕ) Reference) → Among (placed constant n number) (numbered job).definitions → entry_at job.definitions number ≡ some y → Takes y n t → Among t (keys (stg bytes job l are formed laid).defined.held)
  raw_taken n number t y a at (inl e) =
      let held = (facts bytes job l are formed laid).all_held.start_held n number a in
      subst (λ t. Among t (keys (stg bytes job l are formed laid).defined.held)) (sym e) (held.0, map_at (λ r. r.0) (stg bytes job l are formed laid).defined.held held.0 (n, starts number) held.1)
  raw_taken n number t y a at (inr (w, e)) =
      let (k, mark, there) = constant_held bytes job l are formed laid n number a in
      let held = raw_wide bytes job l are formed laid n k there (ap is_wide (tag-became number k y mark at) ∙ w) in
      subst (λ t. Among t (keys (stg bytes job l are formed laid).defined.held)) (sym e) (held.0, map_at (λ r. r.0) (stg bytes job l are formed laid).defined.held held.0 (suc n, half) held.1)

  -- what a constant takes that has a slot
  node_taken : (e k n t : ℕ) (x : Entry (List ℕ) Reference) → get_elem? (marks bytes job l are formed laid) e ≡ some (done k) → entry_at job.definitions e ≡ some x → Takes x n t → NodeTakes (all_nodes bytes job l are formed laid) k n t
  node_taken e k n t x mark at (inl h) = inl h
  node_taken e k n t x mark at (inr (w, h)) = inr (ap is_wide (tag-became e k x mark at) ∙ w, h)

  not-raw :
      (i e n number s t : ℕ) (x y : Entry (List ℕ) Reference) →
      get_elem? job.definitions i ≡ some (placed constant n number) →
      entry_at job.definitions number ≡ some y →
      entry_at job.definitions e ≡ some x →
      HasSlot e s →
      Takes y n t →
      Takes x s t →
      ⊥
  not-raw i e n number s t x y here at_y at_x (k, mark, look) taken takes =
      raw_not-given (top_of job) (stg bytes job l are formed laid).defined.held (all_nodes bytes job l are formed laid) (pool bytes job l are formed laid) (raw bytes job l are formed laid) (soundly bytes job l are formed laid) (raw_keys bytes job l are formed laid) (raw_wide bytes job l are formed laid) k s t
      (raw_taken n number t y (placed-there bytes job l are formed laid i n number constant here) at_y taken)
      (lookup-at k s given look)
      (node_taken e k s t x mark at_x takes)

  shared_by : SharedBy f job.requests (stg bytes job l are formed laid).answers
  shared_by =
      record {
        answers_shared = λ i₁ i₂ e₁ e₂ a₁ a₂ h₁ h₂. slots-shared e₁ e₂ a₁ a₂ (answer-has i₁ e₁ a₁ h₁) (answer-has i₂ e₂ a₂ h₂);
        slots_shared = λ e₁ e₂ n₁ n₂ low₁ low₂ g₁ g₂. slots-shared e₁ e₂ n₁ n₂ (given-has e₁ n₁ low₁ g₁) (given-has e₂ n₂ low₂ g₂);
        indexes_shared = λ e₁ e₂ n₁ n₂ high₁ high₂ g₁ g₂. indexes_shared_lem e₁ e₂ n₁ n₂ (given-index e₁ n₁ high₁ g₁) (given-index e₂ n₂ high₂ g₂);
        answers_not_raw = λ i j e n number a t x y here at_y at_x h. not-raw i e n number a t x y here at_y at_x (answer-has j e a h);
        slots_not_raw = λ i e n number s t x y here at_y at_x low g. not-raw i e n number s t x y here at_y at_x (given-has e s low g);
      }

shared_laid :
    (bytes : List ℕ) (job : Job (List ℕ)) (l : Layout) →
    IsBytes bytes →
    form bytes ≡ good job →
    layout (top_of job) (numbered job) ≡ good l →
    SharedBy (shown_of job l) job.requests (render (literals job) l).answers
unfolding layout_of render
shared_laid bytes job l are formed laid =
    subst (λ (x : Layout). SharedBy (shown_of job x) job.requests x.answers) (stg bytes job l are formed laid).is_laid (shared_by bytes job l are formed laid)

pub shared : Shared
shared bytes job lent b are formed ran =
    as_read bytes job lent b are formed ran (λ f b. SharedBy f job.requests b.answers) (λ l laid. shared_laid bytes job l are formed laid)
