-- In a built job each index at which no raw bootstrap stands was given to a bootstrap that a constant of the pool cites, or has the row of the
-- least raw index above it. Assumes nothing.
use mathlib.Core.List.{List}
use mathlib.Core.Logic.{◌⊎◌, inl, inr}
use mathlib.Core.Option.{some}
use mathlib.Core.Path.{◌≡◌, refl, sym, ap, subst, ◌∙◌}
use Prim.Native.Nat.{ℕ, ◌+◌, ◌-◌, ◌≤◌, ◌<◌}
use native.Mathlib.Omega.{arith}
use lib.ListN.{length, get_elem?}
use borrow.Author.Tests.{eqb-false}
use Rattle.definition.specs.Basics.{good}
use Rattle.definition.specs.Shapes.{bootstrap, bootstrap_tag, Entry, with_kids, with_literal}
use Rattle.definition.specs.Job.{Job}
use Rattle.definition.specs.Form.{form}
use Rattle.definition.specs.Numbering.{top_of, constants_of, literals, numbered}
use Rattle.definition.specs.Definitions.{tag_at}
use Rattle.definition.specs.Resolving.{Goal, raw_number, table_entry, refusal, first_node, child_of}
use Rattle.definition.specs.Building.{Row, index_of, kids_of}
use Rattle.definition.specs.Layout.{node_at_lem, Layout, index_nodes, layout}
use Rattle.facts.specs.Lists.{Among}
use Rattle.facts.proofs.Lists.{some_inj, order, found_inside, map_at, map-some, unmap}
use Rattle.facts.proofs.Each.{Both, both_first}
use Rattle.laws.specs.LeadsStatement.{Leads, goal_in}
use Rattle.laws.specs.Statements.{IsBytes, Finished, RawIndex, IndexGiven, RowOfNext}
use Rattle.laws.proofs.Definitions.DefinedAsPlaced.{placed-forth, placed-back}
use Rattle.laws.proofs.Resolving.JobGoals.{job_constants, table_defined}
use Rattle.laws.proofs.Resolving.LeadsAsFollowed.{settled-leads}
use Rattle.laws.proofs.Resolving.NodesAndChildren.{tag-append, kids_append}
use Rattle.laws.proofs.Resolving.ResolvedNodes.{child_done}
use Rattle.laws.proofs.Resolving.SameConstants.{FineIn}
use Rattle.laws.proofs.Building.ChildNumbers.{SlotFor, InlineIn, NumberBy, slots_kept}
use Rattle.laws.proofs.Building.ExactNumbers.{number-told}
use Rattle.laws.proofs.Building.HolesFilled.{CitedRow, RowAbove, hole}
use Rattle.laws.proofs.Building.BuiltJob.{facts, asked, nodes, marks, indexes, starts-here, rows, inline}
use Rattle.laws.proofs.Reading.PoolReadBack.{row_shown}
use Rattle.laws.proofs.Reading.PoolContents.{spelled}
use Rattle.laws.proofs.Reading.BuiltPoolReadBack.{stg, end, all_nodes, raw, pool, index-rises}
use Rattle.laws.proofs.Reading.SlotsShow.{finished, entry_became, tag_of, held-there, all_show}

module _ (bytes : List ℕ) (job : Job (List ℕ)) (l : Layout) (are : IsBytes bytes) (formed : form bytes ≡ good job) (laid : layout (top_of job) (numbered job) ≡ good l) where
  abbrev f : Finished
  f = finished bytes job l are formed laid

  abbrev given : List (ℕ × ℕ)
  given = (pool bytes job l are formed laid).given

  -- ---- raw indexes are those of the raw bootstraps

  raw_told : (n k : ℕ) → Among (n, k) (indexes bytes job l are formed laid) → RawIndex f n
  unfolding index_nodes
  raw_told n k a =
      let u = unmap (λ (r : ℕ × ℕ). (r.0, node_at_lem (marks bytes job l are formed laid) (job_constants (numbered job) + r.1))) (stg bytes job l are formed laid).defined.indexes (n, k) a in
      let e = u.0.1 in
      let is : u.0.0 ≡ n = ap (λ (x : ℕ × ℕ). x.0) u.2 in
      let there = (facts bytes job l are formed laid).all_indexes.index_placed n e (subst (λ n. Among (n, e) (stg bytes job l are formed laid).defined.indexes) is u.1) in
      let back = placed-back job n e bootstrap there in
      (back.0, e, back.1)

  raw_found : (n : ℕ) → RawIndex f n → (k : ℕ) × Among (n, k) (indexes bytes job l are formed laid)
  unfolding index_nodes
  raw_found n (i, e, at) =
      let a = (facts bytes job l are formed laid).all_indexes.index_held n e (placed-forth job i n e bootstrap at) in
      let node : ℕ × ℕ → ℕ × ℕ = λ r. (r.0, node_at_lem (marks bytes job l are formed laid) (job_constants (numbered job) + r.1)) in
      ((node (n, e)).1, (a.0, map_at node (stg bytes job l are formed laid).defined.indexes a.0 (n, e) a.1))

  -- ---- an index that was given

  -- a child that is a bootstrap's node comes from a bootstrap of the job
  cited_entry :
      (g : Goal) (c : ℕ) →
      child_of (marks bytes job l are formed laid) g ≡ c →
      first_node ≤ c →
      tag_at (all_nodes bytes job l are formed laid) (c - first_node) ≡ bootstrap_tag →
      FineIn (marks bytes job l are formed laid) g →
      (e : ℕ) × (g ≡ table_entry e) × (length (constants_of job.definitions) ≤ e)
  unfolding child_of
  cited_entry (raw_number v) c is high tag fine = absurd (omega (arith, fine.0, is, high))
  cited_entry (table_entry e) c is high tag (low, (k, mark)) = (e, refl, go (order e (length (constants_of job.definitions))))
    where
      node : c - first_node ≡ k
      node = omega (arith, is, child_done (marks bytes job l are formed laid) e k mark)

      go : (e < length (constants_of job.definitions)) ⊎ (length (constants_of job.definitions) ≤ e) → length (constants_of job.definitions) ≤ e
      go (inl h) =
          let b = entry_became bytes job l are formed laid e k mark in
          let plain = eqb-false b.entry.tag bootstrap_tag ((table_defined job.definitions e b.entry b.is_entry).0 h) in
          absurd (plain (sym (tag_of bytes job l are formed laid e k b) ∙ ap (tag_at (all_nodes bytes job l are formed laid)) (sym node) ∙ tag))
      go (inr h) = h
  cited_entry (refusal code) c is high tag fine = absurd fine.1

  index-given : (i : ℕ) (row : Row) → index_of row (inline bytes job l are formed laid) ≡ some i → CitedRow (nodes bytes job l are formed laid) (indexes bytes job l are formed laid) (raw bytes job l are formed laid) (stg bytes job l are formed laid).made.pool.given row → IndexGiven f i
  unfolding with_kids with_literal
  index-given i row found (s, k, nd, c, a, at, cited, high, tag, slots) =
      let nd₀ = nodes bytes job l are formed laid in
      let all = all_nodes bytes job l are formed laid in
      let more = (end bytes job l are formed laid).more in
      let (e, mark) = (asked bytes job l are formed laid).0.faithful.from_entry k (found_inside nd₀ k nd at) in
      let b = entry_became bytes job l are formed laid e k mark in
      let is : nd ≡ b.node = some_inj (sym at ∙ b.is_node) in
      let held = (end bytes job l are formed laid).held_still s k a in
      let (ns, nums, shows) = held-there bytes job l are formed laid e k s b held in
      let here : get_elem? b.node.kids cited.0 ≡ some c = subst (λ (y : Entry ℕ ℕ). get_elem? y.kids cited.0 ≡ some c) is cited.1 in
      let low = (starts-here bytes job l are formed laid).kids_in k nd at c cited high in
      let inside : c - first_node < length nd₀ = omega (arith, low, high) in
      let tag' : tag_at all (c - first_node) ≡ bootstrap_tag = tag-append nd₀ more (c - first_node) inside ∙ tag in
      let mine : NumberBy all given (InlineIn (inline bytes job l are formed laid)) c i =
      inr (inr (high, tag', row, found, subst (λ cs. Both (SlotFor given) cs row) (sym (kids_append nd₀ more (c - first_node) inside)) (slots_kept (end bytes job l are formed laid).kept (kids_of nd₀ (c - first_node)) row slots))) in
      let (n, place, number) = both_first (NumberBy all given (InlineIn (inline bytes job l are formed laid))) b.node.kids ns nums cited.0 c here in
      let one : n ≡ i = number-told all given (inline bytes job l are formed laid) c n number ∙ sym (number-told all given (inline bytes job l are formed laid) c i mine) in
      let (r, there, child) = map-some (λ r. child_of (marks bytes job l are formed laid) (goal_in job.definitions r)) b.entry.kids cited.0 c (ap (λ (cs : List ℕ). get_elem? cs cited.0) (sym b.kids_are) ∙ here) in
      let fine = b.fine cited.0 r there in
      let (e', goal, is_bootstrap) = cited_entry (goal_in job.definitions r) c child high tag' fine in (
        e,
        s,
        r,
        e',
        λ depth. (all_show bytes job l are formed laid depth).0 e k s mark held,
        (b.entry, spelled (literals job) (with_kids ns b.node), cited.0, b.is_entry, shows b.entry.tag refl, there, place ∙ ap some one),
        subst (Leads job.definitions r) goal (settled-leads job.definitions (marks bytes job l are formed laid) r fine.1),
        is_bootstrap,
      )

  -- ---- both

  pub index-held : (i : ℕ) → i < length (rows bytes job l are formed laid) → (RawIndex f i → ⊥) → IndexGiven f i ⊎ RowOfNext f i
  index-held i low free =
      go (hole (nodes bytes job l are formed laid) (indexes bytes job l are formed laid) (raw bytes job l are formed laid) (stg bytes job l are formed laid).asked.pool (stg bytes job l are formed laid).made (starts-here bytes job l are formed laid) (stg bytes job l are formed laid).is_made (index-rises bytes job l are formed laid) i low (λ k a. free (raw_told i k a)))
    where
      go :
          ((row : Row) × (index_of row (inline bytes job l are formed laid) ≡ some i) × CitedRow (nodes bytes job l are formed laid) (indexes bytes job l are formed laid) (raw bytes job l are formed laid) (stg bytes job l are formed laid).made.pool.given row)
          ⊎ RowAbove (nodes bytes job l are formed laid) (indexes bytes job l are formed laid) (raw bytes job l are formed laid) (stg bytes job l are formed laid).asked.pool (stg bytes job l are formed laid).made (starts-here bytes job l are formed laid) (stg bytes job l are formed laid).is_made i →
          IndexGiven f i ⊎ RowOfNext f i
      go (inl (row, found, cited)) = inl (index-given i row found cited)
      go (inr a) =
          inr (
            a.next,
            a.later,
            raw_told a.next a.node a.is_raw,
            λ t from to h. let (k, b) = raw_found t h in a.least t k from to b,
            row_shown a.row,
            map_at row_shown (rows bytes job l are formed laid) i a.row a.here,
            map_at row_shown (rows bytes job l are formed laid) a.next a.row a.there,
          )
