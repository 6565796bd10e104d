-- What callers start from: a well-formed job's requests stand in turn and cite what is there, and so do the children of nodes. Assumes nothing.
use mathlib.Core.List.{List, map}
use mathlib.Core.Option.{some}
use mathlib.Core.Path.{◌≡◌, sym, ap, ◌∙◌}
use Prim.Native.Nat.{ℕ, ◌+◌, ◌<◌}
use native.Mathlib.Omega.{arith}
use lib.ListN.{length, get_or, get_elem?}
use Rattle.definition.specs.Shapes.{Kind, constant, bootstrap, Entry, with_kids}
use Rattle.definition.specs.Job.{Reference, raw, entry, name}
use Rattle.definition.specs.Resolving.{Goal, child_of}
use Rattle.definition.specs.Building.{kids_of}
use Rattle.facts.specs.Lists.{Among}
use Rattle.facts.proofs.Lists.{read_found, unmap}
use Rattle.laws.specs.Statements.{IsBytes}
use Rattle.laws.specs.Faithful.{Settled}
use Rattle.laws.proofs.Form.FormedEntries.{OfKind}
use Rattle.laws.proofs.Form.FormedJobs.{form-formed}
use Rattle.laws.specs.Counted as Counted
use Rattle.laws.proofs.Form.CitedEntries as Citing
use Rattle.job.specs.Forms.{counts_of}
use Rattle.job.specs.Stored.{Laid}
use Rattle.store.specs.Store.{Store, size}
use Rattle.store.specs.JobIn.{WellFormed, job_in, definitions_in, counts_in, entries_in, linked_in}
use Rattle.store.specs.Regions.{MARKS, OFFSETS, FIRSTS, SIZES, GOALS, NODES, Work}
use Rattle.store.specs.Words.{ENTRY, mark_word, goal_word, IsGoal}
use Rattle.store.proofs.Bounds.{small, formed_job}
use Rattle.store.proofs.Laying.{work-sizes, work-formed, entries-counted}
use Rattle.sym_refs.specs.Names.{count_in, CitedIn}
use Rattle.interner.specs.Nodes.{node_count, nodes_in}
use Rattle.resolver.specs.Resolved.{Table, AtRest}
use Rattle.resolver.proofs.Meanings.{settled-became}
use Rattle.resolver.proofs.Tabled.{kid_word, kids_of_lem}
use Rattle.pool.specs.Pooled.{KidsThere}
use Rattle.pool.specs.Replying.{RequestsAt}
use Rattle.pool.proofs.Answering.{became-low, nodes_count}

-- REQUESTS

module _ (s : List ℕ) (well : WellFormed s) (bytes : IsBytes s) where
  cites-in : (kind : Kind) (r : Reference) → Citing.Cites (job_in s).definitions r → OfKind kind r → CitedIn s r
  unfolding Citing.Cites CitedIn Counted.count_in count_in counts_in counts_of definitions_in
  cites-in kind (raw n) c k = k
  cites-in kind (entry constant n) c k = c
  cites-in kind (entry bootstrap n) c k = c
  cites-in kind (name other l) c k = tt

  pub requests_stand : (l : Laid s (job_in s)) → RequestsAt s (l.fifty + 1)
  unfolding RequestsAt
  requests_stand l =
      let c = Citing.formed_cited (job_in s) (form-formed s (job_in s) bytes (formed_job s well)) in (
        (l.sixty, l.requests),
        λ i q is. cites-in constant q.what (c.request_cited i q is) (c.request_of_kind i q is),
      )

-- CHILDREN

module _ (h : ℕ) (s p : List ℕ) (t : Store) (work : Work s p) (table : Table s t) (rests : AtRest h s t) (long : length (t NODES) ≡ size p NODES) where
  -- what a goal of an entry became
  kid_low :
      (e : ℕ) (x : Entry ℕ Goal) → get_elem? (linked_in s) e ≡ some x → (g : Goal) → Among g x.kids → Settled (map mark_word (t MARKS)) g →
      (c : ℕ) → child_of (map mark_word (t MARKS)) g ≡ c → c < ENTRY + node_count t
  kid_low e x at g among settled c became =
      let (j, l, word) = kid_word s (t OFFSETS) (t FIRSTS) (t SIZES) (t GOALS) table.entered table.linked e x at g among in
      let is = (kids_of_lem s (t OFFSETS) (t FIRSTS) (t SIZES) (t GOALS) table.entered table.linked e x at).words j l in
      low (get_or (t GOALS) (get_or (t FIRSTS) e 0 + j) 0) is word
    where
      low : (w : ℕ) → IsGoal (entries_in s) w → goal_word w ≡ g → c < ENTRY + node_count t
      low w is word =
          became-low h s t rests w
          (settled-became (entries_in s) (t MARKS) w (small s (work-formed s p work)).entries is (rw word settled))
          c
          (sym became ∙ rw word)

  pub kids_there : (k : ℕ) → k < node_count t → KidsThere s t k
  unfolding kids_of with_kids
  kids_there k low i inside =
      let count = nodes_count s t (omega (arith, rests.nodes.few, (work-sizes s p work).nodes, entries-counted s)) in
      let (e, done) = rests.faithful.from_entry k (omega arith) in
      let (x, at, is, settled) = rests.faithful.node_of e k done in
      let kids : kids_of (nodes_in s t) k ≡ map (child_of (map mark_word (t MARKS))) x.kids = rw (is, kids_of) in
      let (g, among, became) =
      unmap (child_of (map mark_word (t MARKS))) x.kids (get_or (kids_of (nodes_in s t) k) i 0)
      (i, ap (λ (l : List ℕ). get_elem? l i) (sym kids) ∙ read_found (kids_of (nodes_in s t) k) i 0 inside) in
      kid_low e x at g among (settled g among) (get_or (kids_of (nodes_in s t) k) i 0) became
