-- A node is a bootstrap exactly if its entry stands behind the constants. Assumes nothing.
use mathlib.Core.Bool.{true, false}
use mathlib.Core.List.{List}
use mathlib.Core.Logic.{⊎_elim}
use mathlib.Core.Option.{some}
use mathlib.Core.Path.{◌≡◌, sym, ap, ◌∙◌}
use Prim.Native.Nat.{ℕ, ◌-◌, ◌≤◌, ◌<◌}
use native.Mathlib.Omega.{arith}
use lib.Dec.{eqb}
use lib.ListN.{length, get_or, get_elem?, length-map}
use borrow.Author.Tests.{eq-eqb, le-leb, lt-leb}
use Rattle.definition.specs.Shapes.{bootstrap_tag, Entry, with_kids}
use Rattle.definition.specs.Job.{Reference}
use Rattle.definition.specs.Numbering.{constants_of as constantEntries, numbered, numbered_entry, literals}
use Rattle.definition.specs.Definitions.{tag_at}
use Rattle.facts.proofs.Lists.{inside_found, order}
use Rattle.job.specs.Forms.{counts_of}
use Rattle.laws.proofs.Numbering.NumberedCited.{constants_numbered_lem}
use Rattle.laws.proofs.Resolving.JobGoals.{table_defined}
use Rattle.laws.proofs.Resolving.NodesAndChildren.{tag-found}
use Rattle.store.specs.Store.{Store, size}
use Rattle.store.specs.JobIn.{job_in, definitions_in, counts_in, table_of, table_in, numbered_in}
use Rattle.store.specs.Regions.{NODES, Work}
use Rattle.store.specs.Words.{ENTRY}
use Rattle.store.proofs.Laying.{work-sizes}
use Rattle.interner.specs.Nodes.{node_at_lem, node_count, nodes_in}
use Rattle.interner.proofs.Shaped.{numbered-table}
use Rattle.rows.specs.Rowed.{constants_of, is_bootstrap}
use Rattle.pool.specs.Pooled.{NodesThere}
use Rattle.pool.proofs.Nodal.{entry_low, node_found}

constants_many : (s : List ℕ) → length (constantEntries (numbered (job_in s)).definitions) ≡ length (constantEntries (definitions_in s))
unfolding definitions_in
constants_many s = ap length (constants_numbered_lem (job_in s)) ∙ length-map (constantEntries (job_in s).definitions) (numbered_entry (literals (job_in s)))

constants_are_lem : (s p : List ℕ) → Work s p → constants_of p ≡ length (constantEntries (definitions_in s))
unfolding counts_in counts_of
constants_are_lem s p work = let z = work-sizes s p work in omega (arith, z.marks, z.indexes)

module _
    (s p : List ℕ) (t : Store) (there : NodesThere s p t) (k : ℕ) (low : k < node_count t) (long : length (t NODES) ≡ size p NODES) where
  abbrev e : ℕ
  e = get_or (t NODES) k 0

  numbered-there : (x : Entry ℕ Reference) × (get_elem? (numbered_in s) e ≡ some x)
  numbered-there =
      inside_found (numbered_in s) e
      (rw (numbered-table s, length-map (table_in s) (numbered_entry (literals (job_in s)))) (entry_low s p t there k low))

  tag_is : tag_at (nodes_in s t) k ≡ numbered-there.0.tag
  unfolding node_at_lem with_kids
  tag_is = tag-found (nodes_in s t) k _ (node_found s p t there k low long) ∙ rw (numbered-there.1, node_at_lem)

  parted :
      (e < constants_of p → eqb numbered-there.0.tag bootstrap_tag ≡ false) × (constants_of p ≤ e → numbered-there.0.tag ≡ bootstrap_tag)
  unfolding numbered_in table_of
  parted =
      let h = table_defined (numbered (job_in s)).definitions e numbered-there.0 numbered-there.1 in
      let n = constants_many s ∙ sym (constants_are_lem s p there.0) in
      (λ l. h.0 (omega arith), λ l. h.1 (omega arith))

  pub tag-constant : e < constants_of p → eqb (tag_at (nodes_in s t) k) bootstrap_tag ≡ false
  tag-constant l = rw tag_is (parted.0 l)

  pub tag-bootstrap : constants_of p ≤ e → eqb (tag_at (nodes_in s t) k) bootstrap_tag ≡ true
  tag-bootstrap l = eq-eqb (tag_at (nodes_in s t) k) bootstrap_tag (tag_is ∙ parted.1 l)

  -- as the code asks it
  pub tag-told : (child : ℕ) → ENTRY ≤ child → child - ENTRY ≡ k → is_bootstrap p t child ≡ eqb (tag_at (nodes_in s t) k) bootstrap_tag
  tag-told child h is =
      rw (le-leb ENTRY child h, is)
      (⊎_elim
      (λ (l : e < constants_of p). lt-leb (constants_of p) e l ∙ sym (tag-constant l))
      (λ (l : constants_of p ≤ e). le-leb (constants_of p) e l ∙ sym (tag-bootstrap l))
      (order e (constants_of p)))
