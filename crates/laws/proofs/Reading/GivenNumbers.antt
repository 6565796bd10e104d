-- The numbers that were given, by the finished pool, are those that slots given out and inline rows tell. Assumes nothing.
use mathlib.Core.List.{List, map}
use mathlib.Core.Logic.{inl, inr}
use mathlib.Core.Option.{some}
use mathlib.Core.Path.{◌≡◌, sym, ap, subst, ◌∙◌}
use Prim.Native.Nat.{ℕ, ◌+◌, ◌-◌}
use native.Mathlib.Omega.{arith}
use lib.ListN.{get_elem?}
use Rattle.definition.specs.Basics.{good, lookup}
use Rattle.definition.specs.Shapes.{Kind, constant, bootstrap, bootstrap_tag, Entry, with_kids, with_literal}
use Rattle.definition.specs.Job.{Reference, entry, placed, Request, Job}
use Rattle.definition.specs.Form.{form}
use Rattle.definition.specs.Numbering.{top_of, literals, numbered}
use Rattle.definition.specs.Definitions.{tag_at}
use Rattle.definition.specs.Resolving.{Goal, raw_number, table_entry, refusal, place_of, goal_of, first_node, done, child_of}
use Rattle.definition.specs.Building.{Row, kids_of}
use Rattle.definition.specs.Layout.{Layout, layout}
use Rattle.facts.specs.Lists.{Among}
use Rattle.facts.proofs.Lists.{some_inj, among-right, map_at}
use Rattle.facts.proofs.Each.{Both, both_at}
use Rattle.laws.specs.Statements.{IsBytes, Finished, CitedAt}
use Rattle.laws.specs.LeadsStatement.{Leads, goal_in}
use Rattle.laws.specs.SharedStatement.{GivenTo, answer_to, in_given, in_raw}
use Rattle.laws.proofs.Resolving.JobGoals.{job_names, job_constants}
use Rattle.laws.proofs.Resolving.LeadsAsFollowed.{leads_followed, named-once}
use Rattle.laws.proofs.Resolving.NodesAndChildren.{kids_found}
use Rattle.laws.proofs.Resolving.ResolvedNodes.{child_done, Low, ConstantGoal}
use Rattle.laws.proofs.Resolving.JobTableGood.{asks-good, numbered-cited, definitions_low_lem, requests_low_lem}
use Rattle.laws.proofs.Resolving.SameConstants.{goal_numbered, FineIn, Became}
use Rattle.laws.proofs.Slots.SlotsToHold.{to_hold}
use Rattle.laws.proofs.Building.ChildNumbers.{SlotFor, InlineIn, NumberBy, given-held, slot_kept}
use Rattle.laws.proofs.Building.BuiltJob.{table, asked, nodes, marks, rows, inline}
use Rattle.laws.proofs.Reading.PoolReadBack.{row_shown}
use Rattle.laws.proofs.Reading.PoolContents.{spelled}
use Rattle.laws.proofs.Reading.BuiltPoolReadBack.{stg, all_nodes, raw, pool, inline_rows, held-constant}
use Rattle.laws.proofs.Reading.SlotsShow.{leads_to, number-index, finished, entry_became, among-all, tag_of, held-there}
use Rattle.laws.proofs.Reading.JobHeld.{stays, placed-there, constant_held, index_row_lem, entry_goal_is}

table_entry_inj : {a b : ℕ} → table_entry a ≡ table_entry b → a ≡ b
table_entry_inj e = cc

-- a constant that is asked for is low
constant_low : (t : List (Entry ℕ Goal)) (g : Goal) → ConstantGoal t g → Low g
constant_low t (raw_number n) h = h
constant_low t (table_entry e) h = tt
constant_low t (refusal code) h = tt

module _ (bytes : List ℕ) (job : Job (List ℕ)) (l : Layout) (are : IsBytes bytes) (formed : form bytes ≡ good job) (laid : layout (top_of job) (numbered job) ≡ good l) where
  abbrev f : Finished
  f = finished bytes job l are formed laid

  abbrev given : List (ℕ × ℕ)
  given = (pool bytes job l are formed laid).given

  -- the number that stands for a child
  abbrev pub NumberIs : ℕ → ℕ → Type 0
  NumberIs = NumberBy (all_nodes bytes job l are formed laid) given (InlineIn (inline bytes job l are formed laid))

  -- a number that was given to a goal: it is settled, and the number stands for what it became
  abbrev pub Given : Goal → ℕ → Type 0
  Given g n = FineIn (marks bytes job l are formed laid) g × NumberIs (child_of (marks bytes job l are formed laid) g) n

  -- a slot is a number: it was given to a constant
  slot-number : (c n : ℕ) → SlotFor given c n → NumberIs c n
  slot-number c n (inl h) = inl h
  slot-number c n (inr h) =
      inr (inl (h.0, held-constant bytes job l are formed laid n (c - first_node) (given-held (c - first_node) n given (raw bytes job l are formed laid) h.1), h.1))

  -- the number at a reference's place stands for what it leads to, if numbers there stand for the node's children
  cited_given :
      (R : ℕ → ℕ → Type 0) →
      ((c n : ℕ) → R c n → NumberIs c n) →
      (e k : ℕ) (b : Became job (marks bytes job l are formed laid) (nodes bytes job l are formed laid) e k) (ns : List ℕ) →
      Both R b.node.kids ns →
      (i : ℕ) (r : Reference) (m : ℕ) →
      get_elem? b.entry.kids i ≡ some r →
      get_elem? ns i ≡ some m →
      Given (leads_to f r) m
  cited_given R number e k b ns nums i r m p q =
      let child : ℕ = child_of (marks bytes job l are formed laid) (goal_in job.definitions r) in
      let at : get_elem? b.node.kids i ≡ some child =
      ap (λ (cs : List ℕ). get_elem? cs i) b.kids_are ∙ map_at (λ r. child_of (marks bytes job l are formed laid) (goal_in job.definitions r)) b.entry.kids i r p in
      (b.fine i r p, number child m (both_at R b.node.kids ns nums i child m at q))

  -- at a slot that is to hold an entry
  held-cited :
      (e k n : ℕ) →
      get_elem? (marks bytes job l are formed laid) e ≡ some (done k) →
      Among (n, k) (to_hold given (raw bytes job l are formed laid)) →
      (r : Reference) (m : ℕ) →
      CitedAt f e n r m →
      Given (leads_to f r) m
  unfolding with_kids with_literal
  held-cited e k n mark a r m (x, y, i, at, held, p, q) =
      let b = entry_became bytes job l are formed laid e k mark in
      let entry : b.entry ≡ x = some_inj (sym b.is_entry ∙ at) in
      let (ns, nums, shows) = held-there bytes job l are formed laid e k n b a in
      let shown : spelled (literals job) (with_kids ns b.node) ≡ y = some_inj (sym (shows x.tag (ap (λ (z : Entry (List ℕ) Reference). z.tag) (sym entry))) ∙ held) in
      let numbers : ns ≡ y.kids = ap (λ (z : Entry (List ℕ) ℕ). z.kids) shown in
      cited_given NumberIs (λ c n h. h) e k b ns nums i r m
      (ap (λ (z : Entry (List ℕ) Reference). get_elem? z.kids i) entry ∙ p)
      (ap (λ (z : List ℕ). get_elem? z i) numbers ∙ q)

  -- at an index whose row has the slots of a bootstrap's children
  row_cited :
      (e k n : ℕ) (row : Row) →
      get_elem? (marks bytes job l are formed laid) e ≡ some (done k) →
      tag_at (all_nodes bytes job l are formed laid) k ≡ bootstrap_tag →
      get_elem? (rows bytes job l are formed laid) n ≡ some row →
      Both (SlotFor given) (kids_of (all_nodes bytes job l are formed laid) k) row →
      (r : Reference) (m : ℕ) →
      CitedAt f e n r m →
      Given (leads_to f r) m
  row_cited e k n row mark t there slots r m (x, y, i, at, held, p, q) =
      let b = entry_became bytes job l are formed laid e k mark in
      let entry : b.entry ≡ x = some_inj (sym b.is_entry ∙ at) in
      let tag : x.tag ≡ bootstrap_tag =
      sym (ap (λ (z : Entry (List ℕ) Reference). z.tag) entry) ∙ sym (tag_of bytes job l are formed laid e k b) ∙ t in
      let shown : row_shown row ≡ y = some_inj (sym (map_at row_shown (rows bytes job l are formed laid) n row there) ∙ sym (number-index f x.tag n tag) ∙ held) in
      let numbers : row ≡ y.kids = ap (λ (z : Entry (List ℕ) ℕ). z.kids) shown in
      cited_given (SlotFor given) slot-number e k b row
      (subst (λ cs. Both (SlotFor given) cs row) (kids_found (all_nodes bytes job l are formed laid) k b.node (among-all bytes job l are formed laid e k b)) slots)
      i
      r
      m
      (ap (λ (z : Entry (List ℕ) Reference). get_elem? z.kids i) entry ∙ p)
      (ap (λ (z : List ℕ). get_elem? z i) numbers ∙ q)

  -- the node of an entry that was given a number
  pub node_of : (e k : ℕ) → get_elem? (marks bytes job l are formed laid) e ≡ some (done k) → child_of (marks bytes job l are formed laid) (table_entry e) - first_node ≡ k
  node_of e k mark = omega (arith, child_done (marks bytes job l are formed laid) e k mark)

  -- an answer is a slot
  pub answer-slot :
      (i : ℕ) (q : Request) (a : ℕ) →
      get_elem? job.requests i ≡ some q →
      get_elem? (stg bytes job l are formed laid).answers i ≡ some a →
      FineIn (marks bytes job l are formed laid) (leads_to f q.what) × SlotFor given (child_of (marks bytes job l are formed laid) (leads_to f q.what)) a
  unfolding numbered
  answer-slot i q a at there =
      let (a', there', h) = (asked bytes job l are formed laid).2 i q at in
      let same : a' ≡ a = some_inj (sym there' ∙ there) in
      let fine = asks-good (numbered job) (numbered-cited bytes job are formed) (definitions_low_lem bytes job are formed) (requests_low_lem bytes job are formed) i q at in
      let g = goal_of (job_names (numbered job)) (job_constants (numbered job)) q.what in
      let child = child_of (marks bytes job l are formed laid) g in
      subst (λ n. FineIn (marks bytes job l are formed laid) (leads_to f q.what) × SlotFor given (child_of (marks bytes job l are formed laid) (leads_to f q.what)) n) same
      (subst (λ g. FineIn (marks bytes job l are formed laid) g × SlotFor given (child_of (marks bytes job l are formed laid) g) a') (goal_numbered job q.what)
      ((constant_low (table bytes job l are formed laid) g fine.1, h.settled), slot_kept (stays bytes job l are formed laid) child a' h.slot))

  -- in what is held for an entry at a number that was given to it
  given-cited : (e n : ℕ) (r : Reference) (m : ℕ) → Given (table_entry e) n → CitedAt f e n r m → Given (leads_to f r) m
  given-cited e n r m ((low, (k, mark)), number) cited = go number
    where
      child : ℕ
      child = child_of (marks bytes job l are formed laid) (table_entry e)

      go : NumberIs child n → Given (leads_to f r) m
      go (inl h) = absurd (omega (arith, h.0, child_done (marks bytes job l are formed laid) e k mark))
      go (inr (inl h)) =
          held-cited e k n mark
          (given-held k n given (raw bytes job l are formed laid) (subst (λ c. lookup c given ≡ some n) (node_of e k mark) h.2))
          r
          m
          cited
      go (inr (inr h)) =
          row_cited e k n h.2 mark
          (subst (λ c. tag_at (all_nodes bytes job l are formed laid) c ≡ bootstrap_tag) (node_of e k mark) h.1)
          ((inline_rows bytes job l are formed laid).row_stays_lem n h.2 h.3)
          (subst (λ c. Both (SlotFor given) (kids_of (all_nodes bytes job l are formed laid) c) h.2) (node_of e k mark) h.4)
          r
          m
          cited

  -- in a raw definition
  raw_cited : (kind : Kind) (n number : ℕ) (r : Reference) (m : ℕ) → Among (placed kind n number) (numbered job).definitions → CitedAt f (place_of (job_constants (numbered job)) kind number) n r m → Given (leads_to f r) m
  unfolding place_of
  raw_cited constant n number r m a cited =
      let (k, mark, there) = constant_held bytes job l are formed laid n number a in
      held-cited number k n mark (among-right (n, k) (map (λ x. (x.1, x.0)) given) (raw bytes job l are formed laid) there) r m cited
  raw_cited bootstrap n number r m a cited =
      let (k, mark, tag, row, found, slots) = index_row_lem bytes job l are formed laid n number a in
      row_cited (job_constants (numbered job) + number) k n row mark tag found slots r m cited

  -- where a reference leads is where the definition follows it
  pub leads_to_lem : (r : Reference) (goal : Goal) → Leads job.definitions r goal → leads_to f r ≡ goal
  leads_to_lem = leads_followed job.definitions (named-once job l laid)

  -- so all that were given
  pub given-number : (g : Goal) (n : ℕ) → GivenTo f job.requests (stg bytes job l are formed laid).answers g n → Given g n
  given-number g n (answer_to i q a goal at there leads) =
      let h = answer-slot i q a at there in
      subst (λ g. Given g a) (leads_to_lem q.what goal leads) (h.0, slot-number _ a h.1)
  given-number g n (in_given e at r m goal owner cited leads) =
      subst (λ g. Given g m) (leads_to_lem r goal leads) (given-cited e at r m (given-number (table_entry e) at owner) cited)
  given-number g n (in_raw i kind at number e r m goal here owner cited leads) =
      let is : place_of (job_constants (numbered job)) kind number ≡ e =
      table_entry_inj (sym (entry_goal_is bytes job l are formed laid kind number) ∙ goal_numbered job (entry kind number) ∙ leads_to_lem (entry kind number) (table_entry e) owner) in
      subst (λ g. Given g m) (leads_to_lem r goal leads)
      (raw_cited kind at number r m (placed-there bytes job l are formed laid i at number kind here) (subst (λ d. CitedAt f d at r m) (sym is) cited))
