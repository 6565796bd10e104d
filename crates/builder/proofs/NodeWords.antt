-- A node as the words have it: the definition's node, its tag and children, and the entry that it is shown as. Assumes nothing.
use mathlib.Core.Bool.{false}
use mathlib.Core.List.{List, map}
use mathlib.Core.Logic.{inl, inr}
use mathlib.Core.Option.{none, some}
use mathlib.Core.Path.{◌≡◌, refl, sym, ap, subst, ◌∙◌}
use Prim.Native.Nat.{ℕ, zero, suc, ◌+◌, ◌≤◌, ◌<◌}
use native.Mathlib.Omega.{arith}
use lib.Dec.{eqb}
use lib.ListN.{length, get_or, get_elem?, take, length-take, length-map}
use Rattle.definition.specs.Basics.{lookup}
use Rattle.definition.specs.Shapes.{Field, shapes, bootstrap_shape, bootstrap_tag, Entry, with_kids, with_literal}
use Rattle.definition.specs.Job.{Reference}
use Rattle.definition.specs.Numbering.{literals, literal_of, numbered_entry}
use Rattle.definition.specs.Definitions.{tag_at}
use Rattle.definition.specs.Resolving.{Node}
use Rattle.definition.specs.Building.{kids_of}
use Rattle.facts.proofs.Lists.{none≢some, some_inj}
use Rattle.facts.proofs.Chunks.{from-get}
use Rattle.laws.specs.Statements.{IsBytes}
use Rattle.laws.proofs.Form.EntryShapes.{Filled}
use Rattle.laws.proofs.Form.FormedEntries.{ShapeOf}
use Rattle.laws.proofs.Numbering.Numbering.{literal_of-number_of}
use Rattle.laws.proofs.Resolving.JobGoals.{table_defined}
use Rattle.laws.proofs.Resolving.NodesAndChildren.{tag-found}
use Rattle.laws.proofs.Reading.PoolContents.{spelled}
use Rattle.store.specs.Store.{Store, size}
use Rattle.store.specs.JobIn.{job_in, definitions_in, table_of, constants_in}
use Rattle.store.specs.Regions.{OFFSETS, FIRSTS, SIZES, CHILDREN, NODES}
use Rattle.store.specs.Words.{cut}
use Rattle.store.proofs.Laying.{work-sizes, entries-counted}
use Rattle.interner.specs.Nodes.{node_in_lem, node_count, nodes_in}
use Rattle.interner.proofs.Shaped.{node_is}
use Rattle.interner.proofs.Children.{cut-length}
use Rattle.pool.specs.Pooled.{NodesThere}
use Rattle.pool.proofs.Nodal.{node_found, node_kids}
use Rattle.output.specs.Contents.{finished_in, number_in, Made}
use Rattle.output.proofs.Handing.{nodes_made}
use Rattle.output.proofs.Showing.{entry_formed, entry_known, finished-is}

no_bootstrap : lookup bootstrap_tag shapes ≡ none
unfolding shapes lookup
no_bootstrap = refl

handle_first : (literal : List ℕ) (n : ℕ) → Filled bootstrap_shape literal n → (1 ≤ n) × (n ≤ 65536)
unfolding bootstrap_shape
handle_first literal zero h = absurd h
handle_first literal (suc n) h = (omega arith, omega (arith, h.0))

module _ (s p : List ℕ) (t : Store) (there : NodesThere s p t) (long : length (t NODES) ≡ size p NODES) where
  pub made : Made s t
  made = nodes_made _ s t there.1 there.2

  pub nodes_many : length (nodes_in s t) ≡ node_count t
  nodes_many =
      length-map (take (node_count t) (t NODES)) (node_in_lem s t)
      ∙ omega (arith, length-take (node_count t) (t NODES), there.2.few, (work-sizes s p there.0).nodes, entries-counted s)

  module _ (k : ℕ) (low : k < node_count t) where
    abbrev pub kids_in : List ℕ
    kids_in = cut (t CHILDREN) (get_or (t FIRSTS) (get_or (t NODES) k 0) 0) (get_or (t SIZES) (get_or (t NODES) k 0) 0)

    abbrev pub entry_in : Entry (List ℕ) Reference
    entry_in = (entry_known s t k made low).entry

    pub node_in : get_elem? (nodes_in s t) k ≡ some (with_kids kids_in (numbered_entry (literals (job_in s)) entry_in))
    node_in =
        node_found s p t there k low long
        ∙ ap some (node_is s (t OFFSETS) (t FIRSTS) (t SIZES) (t CHILDREN) (get_or (t NODES) k 0) (entry_known s t k made low))

    pub kids_in_lem : kids_of (nodes_in s t) k ≡ kids_in
    kids_in_lem = node_kids s p t there k low long (get_or (t FIRSTS) (get_or (t NODES) k 0) 0) (get_or (t SIZES) (get_or (t NODES) k 0) 0) refl refl

    pub kids_many : length (kids_of (nodes_in s t) k) ≡ get_or (t SIZES) (get_or (t NODES) k 0) 0
    kids_many = ap length kids_in_lem ∙ cut-length (t CHILDREN) (get_or (t FIRSTS) (get_or (t NODES) k 0) 0) (get_or (t SIZES) (get_or (t NODES) k 0) 0)

    pub kid_at :
        (i : ℕ) → i < get_or (t SIZES) (get_or (t NODES) k 0) 0 →
        get_or (kids_of (nodes_in s t) k) i 0 ≡ get_or (t CHILDREN) (get_or (t FIRSTS) (get_or (t NODES) k 0) 0 + i) 0
    kid_at i l =
        let word : ℕ → ℕ = λ i. get_or (t CHILDREN) (get_or (t FIRSTS) (get_or (t NODES) k 0) 0 + i) 0 in
        let z : 0 + i ≡ i = omega arith in
        ap (λ l. get_or l i 0) kids_in_lem ∙ from-get word 0 (get_or (t SIZES) (get_or (t NODES) k 0) 0) i 0 l ∙ ap word z

    pub tag_in : tag_at (nodes_in s t) k ≡ entry_in.tag
    unfolding with_kids numbered_entry with_literal
    tag_in = tag-found (nodes_in s t) k _ node_in

    -- bootstraps stand behind the constants
    tagged :
        (get_or (t NODES) k 0 < constants_in s → eqb entry_in.tag bootstrap_tag ≡ false)
        × (constants_in s ≤ get_or (t NODES) k 0 → entry_in.tag ≡ bootstrap_tag)
    unfolding table_of
    tagged = let h = table_defined (definitions_in s) (get_or (t NODES) k 0) entry_in (entry_known s t k made low).is in (h.0, h.1)

    pub tag-constant : get_or (t NODES) k 0 < constants_in s → eqb (tag_at (nodes_in s t) k) bootstrap_tag ≡ false
    tag-constant l = ap (λ x. eqb x bootstrap_tag) tag_in ∙ tagged.0 l

    pub tag-bootstrap : constants_in s ≤ get_or (t NODES) k 0 → tag_at (nodes_in s t) k ≡ bootstrap_tag
    tag-bootstrap l = tag_in ∙ tagged.1 l

    -- the definition's node, with numbers for children and its literal's bytes again, is what is shown
    pub finished-spelled :
        (number : ℕ → ℕ) (nd : Node) → get_elem? (nodes_in s t) k ≡ some nd → map number nd.kids ≡ map (number_in s t) kids_in →
        finished_in s t k ≡ spelled (literals (job_in s)) (with_kids (map number nd.kids) nd)
    unfolding with_kids with_literal numbered_entry
    finished-spelled number nd at same =
        let is : with_kids kids_in (numbered_entry (literals (job_in s)) entry_in) ≡ nd = some_inj (sym node_in ∙ at) in
        let kids : map number kids_in ≡ map number nd.kids = ap (λ (y : Node). map number y.kids) is in
        let literal = literal_of-number_of (literals (job_in s)) (entry_in.tag, entry_in.literal) (entry_known s t k made low).among in
        finished-is s t k made low
        ∙ ap (λ l. with_kids l entry_in) (sym same)
        ∙ (λ i. record { tag = (is i).tag; literal = (sym literal ∙ ap (λ (y : Node). literal_of (literals (job_in s)) y.literal) is) i; byte = (is i).byte; kids = map number nd.kids })

    -- a bootstrap has a handle, and so many arguments as two bytes count
    pub bootstrap_size :
        IsBytes s → tag_at (nodes_in s t) k ≡ bootstrap_tag →
        (1 ≤ get_or (t SIZES) (get_or (t NODES) k 0) 0) × (get_or (t SIZES) (get_or (t NODES) k 0) 0 ≤ 65536)
    bootstrap_size are boot =
        let e = entry_known s t k made low in
        let is = entry_formed s (get_or (t OFFSETS) (get_or (t NODES) k 0) 0) entry_in e.at.next are e.at.stands in
        let n = handle_first entry_in.literal (length entry_in.kids) (filled-as entry_in.tag is.fields (sym tag_in ∙ boot) is.shape_of is.shape.filled) in
        (omega (arith, n.0, e.at.count), omega (arith, n.1, e.at.count))
      where
        filled-as :
            (tag : ℕ) (fields : List Field) → tag ≡ bootstrap_tag → ShapeOf tag fields →
            Filled fields entry_in.literal (length entry_in.kids) →
            Filled bootstrap_shape entry_in.literal (length entry_in.kids)
        filled-as tag fields q (inl x) g = none≢some (sym no_bootstrap ∙ sym (ap (λ y. lookup y shapes) q) ∙ x)
        filled-as tag fields q (inr x) g = subst (λ y. Filled y entry_in.literal (length entry_in.kids)) x.1 g
