-- In the finished pool, as the reader shows it, every slot that is to hold a node shows the entry that became it, to any depth. Assumes nothing.
use mathlib.Core.List.{List, [], ◌∷◌, map}
use mathlib.Core.Logic.{inl, inr}
use mathlib.Core.Option.{none, some}
use mathlib.Core.Path.{◌≡◌, refl, sym, ap, subst, ◌∙◌}
use Prim.Native.Nat.{ℕ, zero, suc, ◌+◌, ◌-◌, ◌≤◌, ◌<◌}
use native.Mathlib.Omega.{arith}
use lib.ListN.{length, get_or, get_elem?, length-map}
use borrow.Author.Tests.{eq-eqb, ne_eqb}
use Rattle.definition.specs.Basics.{good, lookup, from}
use Rattle.definition.specs.Shapes.{bootstrap_tag, Entry, with_kids, with_literal}
use Rattle.definition.specs.Job.{Reference, Job}
use Rattle.definition.specs.Form.{form}
use Rattle.definition.specs.Numbering.{top_of, literals, numbered}
use Rattle.definition.specs.Definitions.{tag_at}
use Rattle.definition.specs.Resolving.{Goal, raw_number, table_entry, refusal, goal_of, Node, first_node, done, child_of}
use Rattle.definition.specs.Building.{Row, kids_of, content_of}
use Rattle.definition.specs.Layout.{Layout, layout}
use Rattle.definition.specs.Run.{shown}
use Rattle.facts.specs.Lists.{Among}
use Rattle.facts.proofs.Lists.{some_inj, found_read, found_append, map_at}
use Rattle.facts.proofs.Each.{Both, both-length, both_at}
use Rattle.facts.proofs.Chunks.{length_from, from_place}
use Rattle.facts.proofs.Sums.{once_same}
use Rattle.laws.specs.LeadsStatement.{Leads, goal_in}
use Rattle.laws.specs.Statements.{IsBytes, Finished, slot_shows, held_for, Shows}
use Rattle.laws.proofs.Resolving.JobGoals.{job_names, job_constants}
use Rattle.laws.proofs.Resolving.LeadsAsFollowed.{settled-leads}
use Rattle.laws.proofs.Resolving.NodesAndChildren.{tag-found, kids_found}
use Rattle.laws.proofs.Resolving.ResolvedNodes.{child_done}
use Rattle.laws.proofs.Resolving.SameConstants.{goal_numbered, FineIn, Became, became}
use Rattle.laws.proofs.Slots.SlotsToHold.{to_hold, starts-once}
use Rattle.laws.proofs.Building.ChildNumbers.{SlotFor, InlineIn, NumberBy, NumberFor, slots_same, given-held, numbers-kept}
use Rattle.laws.proofs.Building.BuiltJob.{good_job_table, asked, nodes, marks, rows, inline}
use Rattle.laws.proofs.Reading.PoolReadBack.{row_shown}
use Rattle.laws.proofs.Reading.BuiltEntriesFit.{row_plain}
use Rattle.laws.proofs.Reading.PoolContents.{spelled, content_holds}
use Rattle.laws.proofs.Reading.BuiltPoolReadBack.{stg, end, all_nodes, raw, pool, owned, inline_rows, soundly, raw_keys, raw_wide, count, starts-at, held-constant}

-- where the definition follows a reference of the job
abbrev pub leads_to : Finished → Reference → Goal
leads_to f r = goal_in f.definitions r

-- a number that doesn't name a bootstrap is a slot; one that does is an index
pub number-slot : (f : Finished) (tag n : ℕ) → (tag ≡ bootstrap_tag → ⊥) → held_for f tag n ≡ slot_shows f n
unfolding held_for
number-slot f tag n h = rw (ne_eqb tag bootstrap_tag h, held_for)

pub number-index : (f : Finished) (tag n : ℕ) → tag ≡ bootstrap_tag → held_for f tag n ≡ get_elem? f.bootstraps n
unfolding held_for
number-index f tag n h = rw (eq-eqb tag bootstrap_tag h, held_for)

module _ (bytes : List ℕ) (job : Job (List ℕ)) (l : Layout) (are : IsBytes bytes) (formed : form bytes ≡ good job) (laid : layout (top_of job) (numbered job) ≡ good l) where
  -- the finished pool and bootstraps, as the reader shows them
  abbrev pub finished : Finished
  finished =
      record {
        definitions = job.definitions;
        pool = map (shown (literals job)) (from (content_of (owned bytes job l are formed laid)) 1 (count bytes job l are formed laid - 1));
        bootstraps = map row_shown (rows bytes job l are formed laid);
      }

  abbrev pub is_of : Reference → Goal
  is_of r = goal_of (job_names (numbered job)) (job_constants (numbered job)) r

  -- where a reference of the job leads is where it leads once literals are numbered
  pub same-goal : (r : Reference) → is_of r ≡ leads_to finished r
  same-goal r = goal_numbered job r

  pub pool_length : length finished.pool ≡ count bytes job l are formed laid - 1
  pool_length =
      length-map (from (content_of (owned bytes job l are formed laid)) 1 (count bytes job l are formed laid - 1)) (shown (literals job))
      ∙ length_from (content_of (owned bytes job l are formed laid)) 1 (count bytes job l are formed laid - 1)

  -- a slot below the count shows what it holds
  pub slot-shown : (n : ℕ) → suc n < count bytes job l are formed laid → get_or finished.pool n none ≡ shown (literals job) (content_of (owned bytes job l are formed laid) (suc n))
  slot-shown n h =
      let low : n < count bytes job l are formed laid - 1 = omega (arith, h) in
      let one : 1 + n ≡ suc n = omega arith in
      found_read finished.pool n _ none
      (map_at (shown (literals job)) (from (content_of (owned bytes job l are formed laid)) 1 (count bytes job l are formed laid - 1)) n _
      (from_place (content_of (owned bytes job l are formed laid)) 1 (count bytes job l are formed laid - 1) n low))
      ∙ ap (λ m. shown (literals job) (content_of (owned bytes job l are formed laid) m)) one

  -- a slot that is owned shows its entry
  pub owner_shown : (n : ℕ) (e : Entry ℕ ℕ) → 1 ≤ n → n < count bytes job l are formed laid → lookup n (owned bytes job l are formed laid) ≡ some e → slot_shows finished n ≡ some (spelled (literals job) e)
  unfolding slot_shows shown
  owner_shown zero e low high h = absurd (omega (arith, low))
  owner_shown (suc n) e low high h = slot-shown n high ∙ ap (shown (literals job)) (content_holds (owned bytes job l are formed laid) n e h)

  -- ---- to any depth

  -- a raw number shows itself
  raw_shows : (depth v n : ℕ) → n ≡ v → Shows depth finished (raw_number v) n
  unfolding Shows
  raw_shows zero v n h = tt
  raw_shows (suc depth) v n h = h

  -- a slot that is to hold the node that an entry became shows the entry
  abbrev pub HeldShow : ℕ → Type 0
  HeldShow depth =
      (e k n : ℕ) →
      get_elem? (marks bytes job l are formed laid) e ≡ some (done k) →
      Among (n, k) (to_hold (pool bytes job l are formed laid).given (raw bytes job l are formed laid)) →
      Shows depth finished (table_entry e) n

  -- an index whose row has the slots of a bootstrap's children shows the bootstrap
  abbrev pub RowShow : ℕ → Type 0
  RowShow depth =
      (e k n : ℕ) (row : Row) →
      get_elem? (marks bytes job l are formed laid) e ≡ some (done k) →
      tag_at (all_nodes bytes job l are formed laid) k ≡ bootstrap_tag →
      get_elem? (rows bytes job l are formed laid) n ≡ some row →
      Both (SlotFor (pool bytes job l are formed laid).given) (kids_of (all_nodes bytes job l are formed laid) k) row →
      Shows depth finished (table_entry e) n

  raw_high : (v : ℕ) → v < first_node → first_node ≤ child_of (marks bytes job l are formed laid) (raw_number v) → ⊥
  unfolding child_of
  raw_high v low high = omega (arith, low, high)

  abbrev Fine : Goal → Type 0
  Fine g = FineIn (marks bytes job l are formed laid) g

  module _ (depth : ℕ) (heldShow : HeldShow depth) (rowShow : RowShow depth) where
    -- a slot shows what its goal leads to
    pub slot_shows_lem : (g : Goal) (n : ℕ) → Fine g → SlotFor (pool bytes job l are formed laid).given (child_of (marks bytes job l are formed laid) g) n → Shows depth finished g n
    unfolding child_of
    slot_shows_lem (raw_number v) n h (inl s) = raw_shows depth v n s.1
    slot_shows_lem (raw_number v) n h (inr s) = absurd (omega (arith, h.0, s.0))
    slot_shows_lem (table_entry e) n h (inl s) = absurd (omega (arith, s.0, child_done (marks bytes job l are formed laid) e h.1.0 h.1.1))
    slot_shows_lem (table_entry e) n h (inr s) =
        let k = h.1.0 in
        let same : child_of (marks bytes job l are formed laid) (table_entry e) - first_node ≡ k = omega (arith, child_done (marks bytes job l are formed laid) e k h.1.1) in
        heldShow e k n h.1.1
        (given-held k n (pool bytes job l are formed laid).given (raw bytes job l are formed laid) (subst (λ c. lookup c (pool bytes job l are formed laid).given ≡ some n) same s.1))
    slot_shows_lem (refusal code) n h s = absurd h.1

    -- so does a number
    number-shows : (g : Goal) (n : ℕ) → Fine g → NumberFor (all_nodes bytes job l are formed laid) (pool bytes job l are formed laid).given (rows bytes job l are formed laid) (child_of (marks bytes job l are formed laid) g) n → Shows depth finished g n
    number-shows g n h (inl s) = slot_shows_lem g n h (inl s)
    number-shows g n h (inr (inl s)) = slot_shows_lem g n h (inr (s.0, s.2))
    number-shows g n h (inr (inr s)) = go g h s
      where
        go :
            (g : Goal) →
            Fine g →
            (first_node ≤ child_of (marks bytes job l are formed laid) g)
            × (tag_at (all_nodes bytes job l are formed laid) (child_of (marks bytes job l are formed laid) g - first_node) ≡ bootstrap_tag)
            × (row : Row)
            × (get_elem? (rows bytes job l are formed laid) n ≡ some row)
            × Both (SlotFor (pool bytes job l are formed laid).given) (kids_of (all_nodes bytes job l are formed laid) (child_of (marks bytes job l are formed laid) g - first_node)) row →
            Shows depth finished g n
        go (raw_number v) h s = absurd (raw_high v h.0 s.0)
        go (table_entry e) h s =
            let k = h.1.0 in
            let same : child_of (marks bytes job l are formed laid) (table_entry e) - first_node ≡ k = omega (arith, child_done (marks bytes job l are formed laid) e k h.1.1) in
            rowShow e k n s.2 h.1.1
            (subst (λ c. tag_at (all_nodes bytes job l are formed laid) c ≡ bootstrap_tag) same s.1)
            s.3
            (subst (λ c. Both (SlotFor (pool bytes job l are formed laid).given) (kids_of (all_nodes bytes job l are formed laid) c) s.2) same s.4)
        go (refusal code) h s = absurd h.1

    -- a number shows what a reference leads to
    abbrev KidShows : Reference → ℕ → Type 0
    KidShows r m = (goal : Goal) × Leads job.definitions r goal × Shows depth finished goal m

    -- all of an entry's do
    kids_show :
        (R : ℕ → ℕ → Type 0) →
        ((g : Goal) (n : ℕ) → Fine g → R (child_of (marks bytes job l are formed laid) g) n → Shows depth finished g n) →
        (rs : List Reference) (ns : List ℕ) →
        ((i : ℕ) (r : Reference) → get_elem? rs i ≡ some r → Fine (leads_to finished r)) →
        Both R (map (λ r. child_of (marks bytes job l are formed laid) (leads_to finished r)) rs) ns →
        Both KidShows rs ns
    kids_show R f [] [] fine h = tt
    kids_show R f [] (n ∷ ns) fine h = h
    kids_show R f (r ∷ rs) [] fine h = h
    kids_show R f (r ∷ rs) (n ∷ ns) fine h =
        ((leads_to finished r, settled-leads job.definitions (marks bytes job l are formed laid) r (fine 0 r refl).1, f (leads_to finished r) n (fine 0 r refl) h.0), kids_show R f rs ns (λ i r e. fine (suc i) r e) h.1)

    -- which is what is asked of them: as many, and each at its place
    kids_there :
        (rs : List Reference) (ns : List ℕ) →
        Both KidShows rs ns →
        (length ns ≡ length rs)
        × ((i : ℕ) (r : Reference) (m : ℕ) → get_elem? rs i ≡ some r → get_elem? ns i ≡ some m → KidShows r m)
    kids_there rs ns h = (both-length KidShows rs ns h, λ i r m p q. both_at KidShows rs ns h i r m p q)

  -- what an entry became, and that it is there among all nodes
  pub entry_became : (e k : ℕ) → get_elem? (marks bytes job l are formed laid) e ≡ some (done k) → Became job (marks bytes job l are formed laid) (nodes bytes job l are formed laid) e k
  entry_became = became bytes job are formed (good_job_table bytes job l are formed laid) (stg bytes job l are formed laid).asked.resolved (asked bytes job l are formed laid).0.faithful

  pub among-all : (e k : ℕ) (b : Became job (marks bytes job l are formed laid) (nodes bytes job l are formed laid) e k) → get_elem? (all_nodes bytes job l are formed laid) k ≡ some b.node
  among-all e k b = found_append (nodes bytes job l are formed laid) (end bytes job l are formed laid).more k b.node b.is_node

  pub tag_of : (e k : ℕ) (b : Became job (marks bytes job l are formed laid) (nodes bytes job l are formed laid) e k) → tag_at (all_nodes bytes job l are formed laid) k ≡ b.entry.tag
  tag_of e k b = tag-found (all_nodes bytes job l are formed laid) k b.node (among-all e k b) ∙ b.tag_is

  -- a slot that is to hold the node that an entry became: it shows the node, with the numbers of its children, and is no bootstrap's
  pub held-there :
      (e k n : ℕ) (b : Became job (marks bytes job l are formed laid) (nodes bytes job l are formed laid) e k) →
      Among (n, k) (to_hold (pool bytes job l are formed laid).given (raw bytes job l are formed laid)) →
      (ns : List ℕ)
      × Both (NumberBy (all_nodes bytes job l are formed laid) (pool bytes job l are formed laid).given (InlineIn (inline bytes job l are formed laid))) b.node.kids ns
      × ((tag : ℕ) → tag ≡ b.entry.tag → held_for finished tag n ≡ some (spelled (literals job) (with_kids ns b.node)))
  held-there e k n b a =
      let own = (end bytes job l are formed laid).ended.is_owned n k a in
      let (k', nd, ns, same, at, a', nums) = (end bytes job l are formed laid).ended.owner n own.0 own.1 in
      let one : k' ≡ k =
      once_same (to_hold (pool bytes job l are formed laid).given (raw bytes job l are formed laid)) n k' k
      (starts-once (top_of job) (stg bytes job l are formed laid).defined.held (all_nodes bytes job l are formed laid) (pool bytes job l are formed laid) (raw bytes job l are formed laid) (soundly bytes job l are formed laid) (raw_keys bytes job l are formed laid) (raw_wide bytes job l are formed laid) n)
      a'
      a in
      let is : nd ≡ b.node = some_inj (sym (subst (λ i. get_elem? (all_nodes bytes job l are formed laid) i ≡ some nd) one at) ∙ among-all e k b) in
      let range = starts-at bytes job l are formed laid n k a in
      let shows = owner_shown n (with_kids ns b.node) range.0 range.2 (own.1 ∙ ap some (same ∙ ap (with_kids ns) is)) in (
        ns,
        subst (λ (y : Node). Both (NumberBy (all_nodes bytes job l are formed laid) (pool bytes job l are formed laid).given (InlineIn (inline bytes job l are formed laid))) y.kids ns) is nums,
        λ tag t. number-slot finished tag n (λ u. held-constant bytes job l are formed laid n k a (tag_of e k b ∙ sym t ∙ u)) ∙ shows,
      )

  held-step : (depth : ℕ) → HeldShow depth → RowShow depth → HeldShow (suc depth)
  unfolding Shows with_kids with_literal held_for
  held-step depth heldShow rowShow e k n mark a =
      let b = entry_became e k mark in
      let z = b.entry in
      let (ns, nums, shows) = held-there e k n b a in
      let kids : Both (NumberFor (all_nodes bytes job l are formed laid) (pool bytes job l are formed laid).given (rows bytes job l are formed laid)) (map (λ r. child_of (marks bytes job l are formed laid) (leads_to finished r)) z.kids) ns =
      subst (λ cs. Both (NumberFor (all_nodes bytes job l are formed laid) (pool bytes job l are formed laid).given (rows bytes job l are formed laid)) cs ns) b.kids_are
      (numbers-kept (all_nodes bytes job l are formed laid) slots_same (inline_rows bytes job l are formed laid) b.node.kids ns nums) in
      let there = kids_there depth heldShow rowShow z.kids ns (kids_show depth heldShow rowShow (NumberFor (all_nodes bytes job l are formed laid) (pool bytes job l are formed laid).given (rows bytes job l are formed laid)) (number-shows depth heldShow rowShow) z.kids ns b.fine kids) in
      (z, spelled (literals job) (with_kids ns b.node), b.is_entry, shows z.tag refl, b.tag_is, b.literal_is, b.byte_is, there.0, there.1)

  row_step : (depth : ℕ) → HeldShow depth → RowShow depth → RowShow (suc depth)
  unfolding Shows held_for
  row_step depth heldShow rowShow e k n row mark t at slots =
      let b = entry_became e k mark in
      let z = b.entry in
      let tag : z.tag ≡ bootstrap_tag = sym (tag_of e k b) ∙ t in
      let plain = row_plain z b.well_formed_lem tag in
      let kids = subst (λ cs. Both (SlotFor (pool bytes job l are formed laid).given) cs row) (kids_found (all_nodes bytes job l are formed laid) k b.node (among-all e k b) ∙ b.kids_are) slots in
      let there = kids_there depth heldShow rowShow z.kids row (kids_show depth heldShow rowShow (SlotFor (pool bytes job l are formed laid).given) (slot_shows_lem depth heldShow rowShow) z.kids row b.fine kids) in (
        z,
        row_shown row,
        b.is_entry,
        number-index finished z.tag n tag ∙ map_at row_shown (rows bytes job l are formed laid) n row at,
        sym tag,
        sym plain.0,
        sym plain.1,
        there.0,
        there.1,
      )

  -- so to any depth
  pub all_show : (depth : ℕ) → HeldShow depth × RowShow depth
  unfolding Shows
  all_show zero = (λ e k n mark a. tt, λ e k n row mark t at slots. tt)
  all_show (suc depth) =
      let before = all_show depth in
      (held-step depth before.0 before.1, row_step depth before.0 before.1)
