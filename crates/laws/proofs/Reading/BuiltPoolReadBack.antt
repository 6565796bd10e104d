-- The pool and the bootstraps of a built job: all that they hold fits its shape, and they are read back as the layout assigns. Assumes nothing.
use mathlib.Core.Bool.{Bool, true, false}
use mathlib.Core.List.{List, [], ◌++◌, map}
use mathlib.Core.Logic.{◌⊎◌, inl, inr}
use mathlib.Core.Option.{Option, none, some}
use mathlib.Core.Path.{◌≡◌, refl, sym, ap, subst, ◌∙◌}
use Prim.Native.Nat.{ℕ, suc, ◌+◌, ◌-◌, ◌≤◌, ◌<◌}
use native.Mathlib.Omega.{arith}
use lib.Dec.{lit<}
use lib.ListN.{length, get_elem?, length-map}
use borrow.Author.Tests.{eqb-false}
use Rattle.definition.specs.Basics.{good, lookup, from}
use Rattle.definition.specs.Ascii.{ascii}
use Rattle.definition.specs.Shapes.{bootstrap_shape, bootstrap_tag, is_wide, Entry, with_kids, with_literal, constant}
use Rattle.definition.specs.Job.{Reference, placed, Job}
use Rattle.definition.specs.Form.{form}
use Rattle.definition.specs.Numbering.{top_of, attribute_name, constants_of, bootstraps_of, literals, literal_of, numbered}
use Rattle.definition.specs.Definitions.{half, tag_at}
use Rattle.definition.specs.Resolving.{Goal, Node, first_node, done, child_of}
use Rattle.definition.specs.Slots.{count_from}
use Rattle.definition.specs.Building.{Pool, Row, kids_of, attribute_text, name_wanted, content_of}
use Rattle.definition.specs.Layout.{starters, node_at_lem, Layout, layout_of, index_nodes, layout}
use Rattle.definition.specs.Run.{shown, render}
use Rattle.definition.specs.Jvms.{read_pool, read_bootstraps}
use Rattle.facts.specs.Lists.{Among, Rising, keys}
use Rattle.facts.proofs.Lists.{found_inside, inside_found, found_append}
use Rattle.facts.proofs.Tables.{keys-map}
use Rattle.facts.proofs.Each.{each_at, each_from, Both, both-length, both-each, both-nil}
use Rattle.facts.proofs.Chunks.{length_from}
use Rattle.facts.proofs.Sums.{times, times_reverse}
use Rattle.laws.specs.Statements.{IsBytes}
use Rattle.laws.proofs.Form.EntryShapes.{Short}
use Rattle.laws.proofs.Form.CitedEntries.{placed-cited}
use Rattle.laws.specs.Counted.{count_in}
use Rattle.laws.proofs.Definitions.DefinedAsPlaced.{starters-start}
use Rattle.laws.proofs.Resolving.JobGoals.{job_names, job_constants, linked-at, table_constant}
use Rattle.laws.proofs.Resolving.NodesAndChildren.{tag-found, kids_found, tag-append, Constant}
use Rattle.laws.proofs.Resolving.ResolvedNodes.{bootstrap_found}
use Rattle.laws.proofs.Resolving.JobTableGood.{numbered-cited}
use Rattle.laws.proofs.Resolving.EntryOrigins.{Origin, origin}
use Rattle.laws.proofs.Slots.PoolsThatOccur.{Sound, sound}
use Rattle.laws.proofs.Slots.SlotsToHold.{to_hold, to_hold_among, count_range, start_in, wide_in_lem, wide_apart}
use Rattle.laws.proofs.Building.ChildNumbers.{SlotFor, StandsIn, InlineIn, IndexKept, NumberFor, OwnerOf, slots_same, given-held, slots_kept, owner_kept}
use Rattle.laws.proofs.Building.SlotsAndRowsBuilt.{inline_end, rows_from, rows_fit}
use Rattle.laws.proofs.Form.HighestSlots.{top-low}
use Rattle.laws.proofs.Building.LayoutStages.{Stages}
use Rattle.laws.proofs.Building.AfterName.{Named}
use Rattle.laws.proofs.Building.BuiltJob.{st, table, facts, rising, good_job_table, raws, asked, nodes, marks, raw_node_lem, indexes, node_tag, indexes_are, starts-here, rows, inline, ending}
use Rattle.laws.proofs.Reading.EntriesReadBack.{IsFor}
use Rattle.laws.proofs.Reading.PoolReadBack.{row_shown, Fits, LaidBehind, Laid, fits-text, reads_layout}
use Rattle.laws.proofs.Reading.BuiltEntriesFit.{fits-formed, is_for_formed, attribute-bytes}
use Rattle.laws.proofs.Reading.PoolContents.{wide_there, spelled, laid_from}

module _ (bytes : List ℕ) (job : Job (List ℕ)) (l : Layout) (are : IsBytes bytes) (formed : form bytes ≡ good job) (laid : layout (top_of job) (numbered job) ≡ good l) where
  abbrev pub stg : Stages (top_of job) (numbered job) l
  stg = st bytes job l are formed laid

  abbrev pub end : Named (top_of job) stg.defined.held (raws bytes job l are formed laid) (nodes bytes job l are formed laid) (InlineIn (inline bytes job l are formed laid)) (name_wanted (numbered job).build.name_byte (length (rows bytes job l are formed laid))) stg.made stg.named
  end = ending bytes job l are formed laid

  abbrev pub all_nodes : List Node
  all_nodes = nodes bytes job l are formed laid ++ end.more

  abbrev pub raw : List (ℕ × ℕ)
  raw = raws bytes job l are formed laid

  abbrev pub pool : Pool
  pool = stg.named.1.pool

  abbrev pub owned : List (ℕ × Entry ℕ ℕ)
  owned = stg.named.1.owned

  -- inline rows stand at their indexes
  pub inline_rows : IndexKept (InlineIn (inline bytes job l are formed laid)) (StandsIn (rows bytes job l are formed laid))
  inline_rows =
      inline_end (nodes bytes job l are formed laid) (indexes bytes job l are formed laid) raw stg.asked.pool stg.made (starts-here bytes job l are formed laid) stg.is_made

  -- whatever is owned is a node with numbers that stand for its children
  pub owner_here : (n : ℕ) (e : Entry ℕ ℕ) → lookup n owned ≡ some e → OwnerOf all_nodes pool.given raw (rows bytes job l are formed laid) n e
  owner_here n e h = owner_kept all_nodes raw n e slots_same inline_rows (λ k b. b) (end.ended.owner n e h)

  pub soundly : Sound (top_of job) stg.defined.held all_nodes pool
  soundly = sound end.ended.occurs

  -- raw constants start where the raw definitions say
  pub raw_keys : (t : ℕ) → times t (map (λ r. r.0) raw) ≡ times t (map (λ r. r.0) (starters stg.defined.held))
  unfolding times
  raw_keys t =
      let f : ℕ × ℕ → ℕ × ℕ = λ r. (r.0, node_at_lem stg.ready.resolved.marks r.1) in
      omega (
        arith,
        times_reverse t (map f (starters stg.defined.held)) [],
        ap (times t) (keys-map f (starters stg.defined.held) (λ r. refl)),
      )

  low-constant : (e : ℕ) → e < count_in constant (numbered job).definitions → e < length (constants_of (numbered job).definitions)
  unfolding count_in
  low-constant e h = h

  -- a raw constant's entry, and its tag
  raw_tag : (n k : ℕ) → Among (n, k) raw → (e : ℕ) × Among (placed constant n e) (numbered job).definitions × (tag_at all_nodes k ≡ tag_at (constants_of (numbered job).definitions) e) × (tag_at all_nodes k ≡ bootstrap_tag → ⊥)
  raw_tag n k a =
      let r = raw_node_lem bytes job l are formed laid n k a in
      let e = r.0 in
      let is = (facts bytes job l are formed laid).all_held.start_placed n e (starters-start stg.defined.held n e r.1) in
      let node = (asked bytes job l are formed laid).0.faithful.node_of e k r.2 in
      let inside = found_inside (nodes bytes job l are formed laid) k _ node.2 in
      let low = placed-cited (numbered job) (numbered-cited bytes job are formed) constant n e is in
      let found = inside_found (constants_of (numbered job).definitions) e (low-constant e low) in
      let link = linked-at (job_names (numbered job)) (job_constants (numbered job)) (constants_of (numbered job).definitions ++ bootstraps_of (numbered job).definitions) e node.0 node.1 in
      let same : link.0 ≡ found.0 = cc (found_append (constants_of (numbered job).definitions) (bootstraps_of (numbered job).definitions) e found.0 found.1) in
      let tag : tag_at all_nodes k ≡ node.0.tag = tag-append (nodes bytes job l are formed laid) end.more k inside ∙ node_tag bytes job l are formed laid e k node.0 r.2 node.1 in (
        e,
        is,
        tag ∙ link.2 ∙ ap (λ (y : Entry ℕ Reference). y.tag) same ∙ sym (tag-found (constants_of (numbered job).definitions) e found.0 found.1),
        λ t. eqb-false node.0.tag bootstrap_tag (table_constant (numbered job).definitions (job_names (numbered job)) (job_constants (numbered job)) e node.0 node.1 (low-constant e low)) (sym tag ∙ t),
      )

  pub raw_wide : (n k : ℕ) → Among (n, k) raw → is_wide (tag_at all_nodes k) ≡ true → Among (suc n, half) stg.defined.held
  raw_wide n k a w =
      let r = raw_tag n k a in
      (facts bytes job l are formed laid).all_held.half_held n r.0 r.1 (ap is_wide (sym r.2) ∙ w)

  abbrev pub count : ℕ
  count = count_from (top_of job) pool.slots.gaps

  -- a slot that is to hold a node lies from 1 to below the count
  pub starts-at : (n k : ℕ) → Among (n, k) (to_hold pool.given raw) → (1 ≤ n) × (n ≤ (top_of job)) × (n < count)
  starts-at = start_in (top_of job) stg.defined.held all_nodes pool raw soundly raw_keys raw_wide

  -- raw bootstraps by rising index, below 65535
  pub index-rises : Rising 0 65534 (keys (indexes bytes job l are formed laid))
  unfolding index_nodes
  index-rises = rw (keys-map (λ r. (r.0, node_at_lem (marks bytes job l are formed laid) (job_constants (numbered job) + r.1))) stg.defined.indexes (λ r. refl)) (rising bytes job l are formed laid).1

  pub rows_few : length (rows bytes job l are formed laid) ≤ 65535
  rows_few =
      rows_fit (nodes bytes job l are formed laid) (indexes bytes job l are formed laid) raw stg.asked.pool stg.made (starts-here bytes job l are formed laid) stg.is_made index-rises

  -- numbers that stand for children fit two bytes
  slot-short : (c n : ℕ) → SlotFor pool.given c n → Short n
  slot-short c n (inl h) = omega (arith, h.0, h.1)
  slot-short c n (inr h) = omega (arith, top-low bytes job formed, starts-at n (c - first_node) (given-held (c - first_node) n pool.given raw h.1))

  number_short : (c n : ℕ) → NumberFor all_nodes pool.given (rows bytes job l are formed laid) c n → Short n
  number_short c n (inl h) = omega (arith, h.0, h.1)
  number_short c n (inr (inl h)) = slot-short c n (inr (h.0, h.2))
  number_short c n (inr (inr h)) = omega (arith, found_inside (rows bytes job l are formed laid) n h.2 h.3, rows_few)

  -- a node that is to be held is a constant
  pub held-constant : (n k : ℕ) → Among (n, k) (to_hold pool.given raw) → Constant all_nodes k
  held-constant n k a = go (to_hold_among (n, k) pool.given raw a)
    where
      go : Among (k, n) pool.given ⊎ Among (n, k) raw → Constant all_nodes k
      go (inl g) = each_at (λ (r : ℕ × ℕ). Constant all_nodes r.0) pool.given g.0 (k, n) end.ended.constants g.1
      go (inr r) = (raw_tag n k r).3

  -- where a node comes from: an entry of the job
  pub node_origin :
      (k : ℕ) (nd : Node) →
      get_elem? (nodes bytes job l are formed laid) k ≡ some nd →
      (e : ℕ) × (x : Entry ℕ Goal) × Origin job e x × (get_elem? (marks bytes job l are formed laid) e ≡ some (done k)) × (nd ≡ with_kids (map (child_of (marks bytes job l are formed laid)) x.kids) x)
  node_origin k nd at =
      let from = (asked bytes job l are formed laid).0.faithful.from_entry k (found_inside (nodes bytes job l are formed laid) k nd at) in
      let node = (asked bytes job l are formed laid).0.faithful.node_of from.0 k from.1 in
      let same : nd ≡ with_kids (map (child_of (marks bytes job l are formed laid)) node.0.kids) node.0 = cc in
      (from.0, node.0, origin bytes job are formed from.0 node.0 node.1, from.1, same)

  -- an entry with numbers for its children, from an entry of the job
  entry_fits :
      (n k : ℕ) (nd : Node) (ns : List ℕ) →
      Among (n, k) (to_hold pool.given raw) →
      get_elem? all_nodes k ≡ some nd →
      get_elem? (nodes bytes job l are formed laid) k ≡ some nd →
      Both (NumberFor all_nodes pool.given (rows bytes job l are formed laid)) nd.kids ns →
      Fits (spelled (literals job) (with_kids ns nd))
  unfolding with_kids with_literal
  entry_fits n k nd ns a at at₀ nums =
      let (e, x, o, mark, is) = node_origin k nd at₀ in
      let tag : nd.tag ≡ o.entry.tag = ap (λ (y : Node). y.tag) is ∙ o.same_tag in
      let kids : length nd.kids ≡ length o.entry.kids =
      ap (λ (y : Node). length y.kids) is ∙ length-map x.kids (child_of (marks bytes job l are formed laid)) ∙ ap length o.kids_are ∙ length-map o.entry.kids _ in
      fits-formed o.entry (spelled (literals job) (with_kids ns nd)) o.formed
      (λ t. held-constant n k a (tag-found all_nodes k nd at ∙ tag ∙ t))
      tag
      (ap (λ (y : Node). literal_of (literals job) y.literal) is ∙ o.literal_is)
      (ap (λ (y : Node). y.byte) is ∙ o.same_byte)
      (both-length (NumberFor all_nodes pool.given (rows bytes job l are formed laid)) nd.kids ns nums ∙ kids)
      (both-each (NumberFor all_nodes pool.given (rows bytes job l are formed laid)) Short nd.kids ns number_short nums)

  -- the text "BootstrapMethods" fits its shape
  attribute-fits : (nd : Node) (ns : List ℕ) → nd ≡ attribute_text → Both (NumberFor all_nodes pool.given (rows bytes job l are formed laid)) nd.kids ns → Fits (spelled (literals job) (with_kids ns nd))
  unfolding with_kids with_literal attribute_text literal_of literals attribute_name ascii
  attribute-fits nd ns is nums =
      let none = both-nil (NumberFor all_nodes pool.given (rows bytes job l are formed laid)) nd.kids ns (ap (λ (y : Node). y.kids) is) nums in
      subst (λ (y : Node). Fits (spelled (literals job) (with_kids ns y))) (sym is)
      (subst (λ ks. Fits (spelled (literals job) (with_kids ks attribute_text))) (sym none) (fits-text attribute_name (lit< tt) attribute-bytes))

  -- whatever a slot holds fits its shape
  pub owner_fits : (n : ℕ) (e : Entry ℕ ℕ) → lookup n owned ≡ some e → Fits (spelled (literals job) e)
  owner_fits n e h =
      let (k, nd, ns, same, at, a, nums) = owner_here n e h in
      subst (λ e. Fits (spelled (literals job) e)) (sym same) (go k nd ns at a nums (end.others k nd at))
    where
      go :
          (k : ℕ) (nd : Node) (ns : List ℕ) →
          get_elem? all_nodes k ≡ some nd →
          Among (n, k) (to_hold pool.given raw) →
          Both (NumberFor all_nodes pool.given (rows bytes job l are formed laid)) nd.kids ns →
          (get_elem? (nodes bytes job l are formed laid) k ≡ some nd) ⊎ (nd ≡ attribute_text) →
          Fits (spelled (literals job) (with_kids ns nd))
      go k nd ns at a nums (inl at₀) = entry_fits n k nd ns a at at₀ nums
      go k nd ns at a nums (inr is) = attribute-fits nd ns is nums

  -- the tag of what a slot holds is its node's
  pub owner_tag : (n : ℕ) (e : Entry ℕ ℕ) → lookup n owned ≡ some e → (k : ℕ) × Among (n, k) (to_hold pool.given raw) × (tag_at all_nodes k ≡ e.tag)
  unfolding with_kids
  owner_tag n e h =
      let (k, nd, ns, same, at, a, nums) = owner_here n e h in
      (k, a, tag-found all_nodes k nd at ∙ ap (λ (y : Entry ℕ ℕ). y.tag) (sym same))

  -- no entry starts behind a wide one
  owners_apart : (n : ℕ) (e e' : Entry ℕ ℕ) → lookup n owned ≡ some e → lookup (suc n) owned ≡ some e' → is_wide e.tag ≡ false
  owners_apart n e e' h h' =
      let o = owner_tag n e h in
      let o' = owner_tag (suc n) e' h' in
      go (is_wide e.tag) refl o o'
    where
      go :
          (w : Bool) →
          is_wide e.tag ≡ w →
          (k : ℕ) × Among (n, k) (to_hold pool.given raw) × (tag_at all_nodes k ≡ e.tag) →
          (k : ℕ) × Among (suc n, k) (to_hold pool.given raw) × (tag_at all_nodes k ≡ e'.tag) →
          w ≡ false
      go true w o o' = absurd (wide_apart (top_of job) stg.defined.held all_nodes pool raw soundly raw_keys raw_wide n o.0 o'.0 o.1 (ap is_wide o.2 ∙ w) o'.1)
      go false w o o' = refl

  -- the last slot below the count isn't the first half of a wide one
  last-narrow : (o : Option (Entry ℕ ℕ)) → lookup (0 + (count - 1)) owned ≡ o → wide_there (lookup (0 + (count - 1)) owned) ≡ false
  unfolding wide_there
  last-narrow none h = rw h
  last-narrow (some e) h = rw h (go (is_wide e.tag) refl (owner_tag (0 + (count - 1)) e h))
    where
      go :
          (w : Bool) →
          is_wide e.tag ≡ w →
          (k : ℕ) × Among (0 + (count - 1), k) (to_hold pool.given raw) × (tag_at all_nodes k ≡ e.tag) →
          w ≡ false
      go true w o =
          absurd
          (omega (
            arith,
            wide_in_lem (top_of job) stg.defined.held all_nodes pool raw soundly raw_keys raw_wide (0 + (count - 1)) o.0 o.1 (ap is_wide o.2 ∙ w),
            count_range (top_of job) pool.slots.gaps soundly.apart,
          ))
      go false w o = refl

  -- slot 0 is owned by nobody
  nobody_zero : (o : Option (Entry ℕ ℕ)) → lookup 0 owned ≡ o → wide_there (lookup 0 owned) ≡ false
  unfolding wide_there
  nobody_zero none h = rw h
  nobody_zero (some e) h = absurd (omega (arith, starts-at 0 (owner_tag 0 e h).0 (owner_tag 0 e h).1))

  pub contents_laid : Laid (map (shown (literals job)) (from (content_of owned) 1 (count - 1)))
  contents_laid =
      subst (LaidBehind (map (shown (literals job)) (from (content_of owned) 1 (count - 1)))) (nobody_zero (lookup 0 owned) refl)
      (laid_from owned (literals job) owner_fits owners_apart (count - 1) 0 (last-narrow (lookup (0 + (count - 1)) owned) refl))

  -- a row comes from a bootstrap of the job
  pub row_from :
      (i : ℕ) (row : Row) →
      get_elem? (rows bytes job l are formed laid) i ≡ some row →
      (k : ℕ) × (tag_at (nodes bytes job l are formed laid) k ≡ bootstrap_tag) × Both (SlotFor pool.given) (kids_of (nodes bytes job l are formed laid) k) row
  row_from i row at =
      let (k, slots, which) =
      rows_from (nodes bytes job l are formed laid) (indexes bytes job l are formed laid) raw stg.asked.pool stg.made (starts-here bytes job l are formed laid) stg.is_made index-rises i row at in
      (k, go k which, slots_kept end.kept (kids_of (nodes bytes job l are formed laid) k) row slots)
    where
      go : (k : ℕ) → ((j : ℕ) × Among (j, k) (indexes bytes job l are formed laid)) ⊎ (tag_at (nodes bytes job l are formed laid) k ≡ bootstrap_tag) → tag_at (nodes bytes job l are formed laid) k ≡ bootstrap_tag
      go k (inl (j, a)) = each_at (λ (x : ℕ × ℕ). tag_at (nodes bytes job l are formed laid) x.1 ≡ bootstrap_tag) (indexes bytes job l are formed laid) a.0 (j, k) (indexes_are bytes job l are formed laid) a.1
      go k (inr t) = t

  row_fits : (i : ℕ) (row : Row) → get_elem? (rows bytes job l are formed laid) i ≡ some row → IsFor bootstrap_shape (row_shown row)
  unfolding with_kids
  row_fits i row at =
      let (k, t, slots) = row_from i row at in
      let found = bootstrap_found (table bytes job l are formed laid) (good_job_table bytes job l are formed laid) stg.asked.resolved (asked bytes job l are formed laid).0.faithful k (get_elem? (nodes bytes job l are formed laid) k) refl t in
      let nd = found.0 in
      let (e, x, o, mark, is) = node_origin k nd found.1 in
      let tag : o.entry.tag ≡ bootstrap_tag = sym (ap (λ (y : Node). y.tag) is ∙ o.same_tag) ∙ sym (tag-found (nodes bytes job l are formed laid) k nd found.1) ∙ t in
      let same : kids_of (nodes bytes job l are formed laid) k ≡ nd.kids = kids_found (nodes bytes job l are formed laid) k nd found.1 in
      let kids : length (kids_of (nodes bytes job l are formed laid) k) ≡ length o.entry.kids =
      ap length same ∙ ap (λ (y : Node). length y.kids) is ∙ length-map x.kids (child_of (marks bytes job l are formed laid)) ∙ ap length o.kids_are ∙ length-map o.entry.kids _ in
      is_for_formed o.entry row o.formed tag
      (both-length (SlotFor pool.given) (kids_of (nodes bytes job l are formed laid) k) row slots ∙ kids)
      (both-each (SlotFor pool.given) Short (kids_of (nodes bytes job l are formed laid) k) row slot-short slots)

  pub read_back :
      (read_pool (render (literals job) l).pool ≡ some (map (shown (literals job)) l.contents))
      × (read_bootstraps (render (literals job) l).bootstrap_count (render (literals job) l).bootstraps ≡ some (map row_shown l.rows))
  unfolding layout_of
  read_back =
      let range = count_range (top_of job) pool.slots.gaps soundly.apart in
      subst
      (λ (x : Layout).
      (read_pool (render (literals job) x).pool ≡ some (map (shown (literals job)) x.contents))
      × (read_bootstraps (render (literals job) x).bootstrap_count (render (literals job) x).bootstraps ≡ some (map row_shown x.rows)))
      stg.is_laid
      (reads_layout (literals job) (layout_of (top_of job) stg.answers stg.asked.origins stg.asked.resolved.visits (numbered job).build.class (rows bytes job l are formed laid) stg.named)
      (omega (arith, range, top-low bytes job formed, length_from (content_of owned) 1 (count - 1)))
      (omega (arith, range, top-low bytes job formed))
      contents_laid
      (each_from (λ row. IsFor bootstrap_shape (row_shown row)) (rows bytes job l are formed laid) row_fits))
