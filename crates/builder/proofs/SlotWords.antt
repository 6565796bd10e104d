-- What each slot shows by the words is what the definition's slot holds, shown. Assumes nothing.
use mathlib.Core.Bool.{Bool, true, false}
use mathlib.Core.List.{List, map}
use mathlib.Core.Logic.{◌⊎◌, inl, inr, ⊎_elim}
use mathlib.Core.Option.{Option, none, some}
use mathlib.Core.Path.{◌≡◌, refl, sym, ap, subst, ◌∙◌}
use Prim.Native.Nat.{ℕ, zero, suc, ◌+◌, ◌-◌, ◌≤◌, ◌<◌}
use native.Mathlib.Omega.{arith}
use lib.Dec.{eqb}
use lib.ListN.{get_or, get_elem?}
use borrow.Author.Tests.{eq-eqb}
use Rattle.definition.specs.Basics.{good, lookup}
use Rattle.definition.specs.Shapes.{Entry, is_wide, with_kids, with_literal}
use Rattle.definition.specs.Job.{Reference}
use Rattle.definition.specs.Numbering.{top_of, bootstraps_of, literals, literal_of, constants_of}
use Rattle.definition.specs.Definitions.{half, Defined, tag_at}
use Rattle.definition.specs.Resolving.{Node, done}
use Rattle.definition.specs.Building.{Made, attribute_text, build_all, kids_of, behind, content_of, nothing, empty_text}
use Rattle.definition.specs.Layout.{Ready, index_nodes}
use Rattle.definition.specs.Run.{shown}
use Rattle.facts.specs.Lists.{Among}
use Rattle.facts.proofs.Lists.{true≢false, some_inj, found_append, equal, found_inside, found_read, map_same, among-right}
use Rattle.facts.proofs.Tables.{lookup-hit, lookup-miss, lookup-at}
use Rattle.laws.specs.Statements.{IsBytes}
use Rattle.laws.proofs.Resolving.JobGoals.{linked-at}
use Rattle.laws.proofs.Resolving.NodesAndChildren.{tag-found, kids_found}
use Rattle.laws.proofs.Reading.PoolContents.{wide_there, spelled, content_holds, content_behind}
use Rattle.slots.specs.Gaps.{GapTable}
use Rattle.store.specs.Store.{Store}
use Rattle.store.specs.JobIn.{job_in, constants_in, linked_in, numbered_in, namings_in, table_of}
use Rattle.store.specs.Regions.{MARKS, GIVEN, RAW-KEYS, RAW-ENTRIES, NODES, Work}
use Rattle.store.specs.Words.{ENTRY, HALF, mark_word}
use Rattle.store.proofs.Bounds.{work-small}
use Rattle.store.proofs.Walking.{last-skip}
use Rattle.interner.specs.Nodes.{node_count, nodes_in}
use Rattle.raws.specs.Raws.{raw_count}
use Rattle.definitions.specs.Defining.{records_in}
use Rattle.rows.specs.Rowed.{HasNumber}
use Rattle.pool.specs.Pooled.{NodesThere}
use Rattle.pool.specs.Owning.{IsOwner}
use Rattle.ending.specs.Ended.{name_in}
use Rattle.output.specs.declared.Content.{Content}
use Rattle.output.specs.declared.Content.TheVariants as content
use Rattle.output.specs.Contents.{number_in, finished_in, shown_in, wide_in, link_word, link_of, owner_in, wide_at, content_word}
use Rattle.output.specs.Names.{shown_at}
use Rattle.output.proofs.Owners.{link_back}
use Rattle.output.proofs.Holding.{raw_half, raw_node_lem, link_node, link_wide, link_empty, wide_past, wide_node, owner_name, owner_raw, owner_given}
use Rattle.output.proofs.Shown.{shown-node, shown-nothing, shown-empty, shown-attribute}
use Rattle.builder.proofs.Final.{Final}
use Rattle.laws.proofs.Building.ExactNumbers.{number_given, exact-owners}
use Rattle.builder.proofs.Known.{nodes_there, starts-built, kid_low, ended_built, one-node, held_in, name_behind}
use Rattle.builder.proofs.Halves.{defined_halves}
use Rattle.builder.proofs.NodeWords.{nodes_many, kids_in_lem, finished-spelled}
use Rattle.builder.proofs.NumberWords.{number_same}
use Rattle.builder.proofs.HeldWords as held

-- a search that finds none
none-linked : (keys : List ℕ) (n key i : ℕ) → link_of keys n key ≡ 0 → i < n → get_or keys i 0 ≡ key → ⊥
none-linked keys n key i miss l is = last-skip (λ i. eqb (get_or keys i 0) key) n i (omega (arith, miss)) l (eq-eqb (get_or keys i 0) key is)

-- what is wide is there
found_wide : (es : List (Entry ℕ Reference)) (e : ℕ) → is_wide (tag_at es e) ≡ true → (x : Entry ℕ Reference) × (get_elem? es e ≡ some x)
unfolding tag_at is_wide
found_wide es e w = ways (get_elem? es e) refl
  where
    ways : (o : Option (Entry ℕ Reference)) → get_elem? es e ≡ o → (x : Entry ℕ Reference) × (get_elem? es e ≡ some x)
    ways none q = true≢false (sym (rw (q, tag_at) at w))
    ways (some x) q = (x, q)

-- a number is 0 or not
cases : (n : ℕ) (P : Type 0) → (n ≡ 0 → P) → ((i : ℕ) → n ≡ suc i → P) → P
cases zero P f g = f refl
cases (suc i) P f g = g i refl

module _
    (s p : List ℕ) (v : Store) (h : GapTable) (d : Defined) (ready asked : Ready) (m after : Made)
    (are : IsBytes s) (work : Work s p) (f : Final s p v h d ready asked m after) where
  abbrev there : NodesThere s p v
  there = nodes_there s p v h d ready asked m after are work f

  abbrev nodes : List Node
  nodes = nodes_in s v

  abbrev holding : List (ℕ × ℕ)
  holding = held.holds s p v h d ready asked m after are work f

  made_here : build_all nodes (index_nodes (constants_in s) (map mark_word (v MARKS)) d.indexes) asked.pool ≡ good m
  made_here = rw f.resolved at f.is_made

  -- an owned slot's node, with its numbers
  pub owner_is :
      (n : ℕ) (e : Entry ℕ ℕ) → lookup n m.owned ≡ some e →
      (k : ℕ)
      × (nd : Node)
      × (get_elem? nodes k ≡ some nd)
      × Among (n, k) holding
      × (e ≡ with_kids (map (number_given nodes m.pool.given m.rows.inline) nd.kids) nd)
  owner_is n e l =
      exact-owners nodes _ _ asked.pool m (starts-built s p v h d ready asked m after are work f) made_here n e (lookup-at n e m.owned l)

  -- what is to be held is
  pub held-entry :
      (n k : ℕ) → Among (n, k) holding →
      (e : Entry ℕ ℕ)
      × (nd : Node)
      × (lookup n m.owned ≡ some e)
      × (get_elem? nodes k ≡ some nd)
      × (e ≡ with_kids (map (number_given nodes m.pool.given m.rows.inline) nd.kids) nd)
  held-entry n k a =
      let (e, l) = (ended_built s p v h d ready asked m after are work f).is_owned n k a in
      let (k', nd, at, a', is) = owner_is n e l in
      (e, nd, l, subst (λ x. get_elem? nodes x ≡ some nd) (one-node s p v h d ready asked m after are work f n k' k a' a) at, is)

  -- with its node's tag
  pub held-tag : (n k : ℕ) → Among (n, k) holding → (e : Entry ℕ ℕ) × (lookup n m.owned ≡ some e) × (e.tag ≡ tag_at nodes k)
  unfolding with_kids
  held-tag n k a =
      let (e, nd, l, at, is) = held-entry n k a in
      (e, l, ap (λ (y : Entry ℕ ℕ). y.tag) is ∙ sym (tag-found nodes k nd at))

  few_nodes : node_count v ≤ 131072
  few_nodes = omega (arith, f.rests.nodes.few, (work-small s p work).entries)

  -- A NODE THAT A SLOT HOLDS

  -- its children have their numbers
  module _ (k : ℕ) (nd : Node) (at : get_elem? nodes k ≡ some nd) (owner : IsOwner v k) where
    pub node_low : k < node_count v
    node_low = omega (arith, found_inside nodes k nd at, nodes_many s p v there (f.long NODES))

    child_low : (x : ℕ) → Among x nd.kids → x < ENTRY + node_count v
    child_low x a = kid_low s p v h d ready asked m after are work f k x (subst (Among x) (sym (kids_found nodes k nd at)) a)

    child_has : (x : ℕ) → Among x nd.kids → HasNumber p v x
    child_has x (i, b) =
        let same : kids_of nodes k ≡ nd.kids = kids_found nodes k nd at in
        let there-is : get_elem? (kids_of nodes k) i ≡ some x = ap (λ l. get_elem? l i) same ∙ b in
        subst (HasNumber p v) (found_read (kids_of nodes k) i x 0 there-is) (f.done k node_low owner i (found_inside (kids_of nodes k) i x there-is)).index

    -- so it is shown as the definition's entry
    pub node_shown :
        finished_in s v k ≡ spelled (literals (job_in s)) (with_kids (map (number_given nodes m.pool.given m.rows.inline) nd.kids) nd)
    node_shown =
        finished-spelled s p v there (f.long NODES) k node_low (number_given nodes m.pool.given m.rows.inline) nd at
        (map_same (number_given nodes m.pool.given m.rows.inline) (number_in s v) nd.kids
        (λ x a. number_same s p v there (f.long NODES) m.pool.given f.given m.rows f.rowed x (child_low x a) (child_has x a))
        ∙ ap (map (number_in s v)) (sym (kids_found nodes k nd at) ∙ kids_in_lem s p v there (f.long NODES) k node_low))

  -- WAYS OF A SLOT, which the words and the definition agree on

  -- it has an entry of its own
  abbrev pub Entered : ℕ → Type 0
  Entered n =
      (e : Entry ℕ ℕ)
      × (c : Content)
      × (lookup n after.owned ≡ some e)
      × ((wide : Bool) → owner_in v n wide ≡ c)
      × (shown_in s v c ≡ some (spelled (literals (job_in s)) e))
      × (wide_in s v c ≡ is_wide e.tag)

  -- it has none
  abbrev pub Unowned : ℕ → Type 0
  Unowned n = (lookup n after.owned ≡ none) × ((wide : Bool) → owner_in v n wide ≡ link_word wide 0)

  -- it is the second half of a raw one
  abbrev pub Second : ℕ → Type 0
  Second n =
      (lookup n after.owned ≡ none)
      × ((wide : Bool) → owner_in v n wide ≡ content.Nothing)
      × (j : ℕ)
      × (n ≡ suc j)
      × (e : Entry ℕ ℕ)
      × (lookup j after.owned ≡ some e)
      × (is_wide e.tag ≡ true)

  -- what a slot that isn't the name's holds, building has left there
  pub owned_before : (n : ℕ) → (n ≡ name_in v → ⊥) → lookup n after.owned ≡ lookup n m.owned
  owned_before n other =
      cases (name_in v) (lookup n after.owned ≡ lookup n m.owned)
      (λ z. ap (lookup n) (f.named.unnamed z))
      (λ i z. ap (lookup n) (f.named.named (omega (arith, z))) ∙ lookup-miss n (name_in v, attribute_text) m.owned other)

  name_way : (n : ℕ) → 1 ≤ n → n ≡ name_in v → Entered n
  unfolding attribute_text is_wide with_literal literal_of literals
  name_way n low is = (
    attribute_text,
    content.Attribute,
    ap (lookup n) (f.named.named (omega (arith, is))) ∙ lookup-hit n (name_in v, attribute_text) m.owned is,
    λ wide. owner_name v n wide is,
    shown-attribute (finished_in s v) content.Attribute refl,
    wide_past (finished_in s v) content.Attribute (λ k e. cc),
  )

  node_way : (n k : ℕ) → (n ≡ name_in v → ⊥) → Among (n, k) holding → IsOwner v k → ((wide : Bool) → owner_in v n wide ≡ content.Node k) → Entered n
  unfolding with_kids with_literal
  node_way n k other a owner words =
      let (e, nd, l, at, is) = held-entry n k a in
      let shows : finished_in s v k ≡ spelled (literals (job_in s)) e = node_shown k nd at owner ∙ ap (spelled (literals (job_in s))) (sym is) in (
        e,
        content.Node k,
        owned_before n other ∙ l,
        words,
        shown-node (finished_in s v) (content.Node k) k refl ∙ ap some shows,
        wide_node (finished_in s v) (content.Node k) k refl ∙ ap (λ (x : Entry (List ℕ) ℕ). is_wide x.tag) shows,
      )

  -- nothing is owned where nothing is to be held
  none_owned : (n : ℕ) → (n ≡ name_in v → ⊥) → ((k : ℕ) → Among (n, k) holding → ⊥) → lookup n after.owned ≡ none
  none_owned n other nobody = owned_before n other ∙ ways (lookup n m.owned) refl
    where
      ways : (o : Option (Entry ℕ ℕ)) → lookup n m.owned ≡ o → o ≡ none
      ways none q = refl
      ways (some e) q = let o = owner_is n e q in absurd (nobody o.0 o.3)

  -- A SECOND HALF

  -- a node has its entry's tag
  wide_tag : (e k : ℕ) → get_elem? (map mark_word (v MARKS)) e ≡ some (done k) → is_wide (tag_at (constants_of (records_in s)) e) ≡ true → is_wide (tag_at nodes k) ≡ true
  unfolding linked_in numbered_in table_of records_in with_kids
  wide_tag e k mark wide =
      let (x, linked-is, node_is, _) = f.rests.faithful.node_of e k mark in
      let (y, y-is, tag, _) = linked-at (namings_in s) (constants_in s) (numbered_in s) e x linked-is in
      let (c, c-is) = found_wide (constants_of (records_in s)) e wide in
      let same : y ≡ c = some_inj (sym y-is ∙ found_append (constants_of (records_in s)) (bootstraps_of (records_in s)) e c c-is) in
      ap is_wide (tag-found nodes k _ node_is ∙ tag ∙ ap (λ (z : Entry ℕ Reference). z.tag) same ∙ sym (tag-found (constants_of (records_in s)) e c c-is)) ∙ wide

  named-there : (j : ℕ) → j ≡ name_in v → 1 ≤ j → lookup j after.owned ≡ some attribute_text
  named-there j q low = ap (lookup j) (f.named.named (omega (arith, q))) ∙ lookup-hit j (name_in v, attribute_text) m.owned q

  -- a raw slot holds what its entry became, if that is wide
  wide_owned :
      (j k : ℕ) → Among (j, k) (held.raw_nodes s p v h d ready asked m after are work f) → is_wide (tag_at nodes k) ≡ true →
      (x : Entry ℕ ℕ) × (lookup j after.owned ≡ some x) × (is_wide x.tag ≡ true)
  wide_owned j k r w =
      let on : Among (j, k) holding = among-right (j, k) (map (λ x. (x.1, x.0)) m.pool.given) (held.raw_nodes s p v h d ready asked m after are work f) r in
      let low = (held_in s p v h d ready asked m after are work f j k on).0 in
      let (x, l, tag) = held-tag j k on in
      (x, owned_before j (λ q. name_behind s p v h d ready asked m after are work f j k r w (named-there j q low)) ∙ l, ap is_wide tag ∙ w)

  half_way : (n : ℕ) → (n ≡ name_in v → ⊥) → Among (n, half) d.held → ((wide : Bool) → owner_in v n wide ≡ content.Nothing) → Second n
  half_way n other a words =
      let (j, e, is, b, wide) = defined_halves (top_of (job_in s)) (constants_of (records_in s)) (records_in s) d f.is_defined n a in
      let (k, r, mark) = held.starts-raw s p v h d ready asked m after are work f j e b in
      let (x, l, w) = wide_owned j k r (wide_tag e k mark wide) in
      (none_owned n other (λ i c. held.half_apart s p v h d ready asked m after are work f n i a c), words, j, is, x, l, w)

  -- ALL WAYS
  pub slot-ways : (n : ℕ) → 1 ≤ n → n < 65536 → Entered n ⊎ (Unowned n ⊎ Second n)
  slot-ways n low high =
      ⊎_elim
      (λ (z : n ≡ name_in v). inl (name_way n low z))
      (λ (other : n ≡ name_in v → ⊥).
      cases (link_of (v RAW-KEYS) (raw_count v) n) (Entered n ⊎ (Unowned n ⊎ Second n))
      (λ miss.
      cases (link_of (v GIVEN) (node_count v) n) (Entered n ⊎ (Unowned n ⊎ Second n))
      (λ gone. inr (inl (nobody other miss gone, λ wide. owner_given v n wide other miss ∙ ap (link_word wide) gone)))
      (λ k hit.
      let (l, is) = link_back (v GIVEN) (node_count v) n k hit in
      inl
      (node_way n k other (held.given_holds s p v h d ready asked m after are work f k n low is) (inl (omega (arith, is)))
      (λ wide. owner_given v n wide other miss ∙ link_node wide (link_of (v GIVEN) (node_count v) n) k hit))))
      (λ i hit.
      let (l, is) = link_back (v RAW-KEYS) (raw_count v) n i hit in
      let key : get_or (v RAW-KEYS) i 0 < ENTRY = omega (arith, is) in
      ⊎_elim
      (λ (e : get_or (v RAW-ENTRIES) i 0 ≡ HALF).
      inr
      (inr
      (half_way n other (subst (λ x. Among (x, half) d.held) is (held.half_held_lem s p v h d ready asked m after are work f i l key e))
      (λ wide. owner_raw v n wide other i hit ∙ raw_half (v MARKS) (get_or (v RAW-ENTRIES) i 0) e))))
      (λ (e : get_or (v RAW-ENTRIES) i 0 ≡ HALF → ⊥).
      let k = get_or (v MARKS) (get_or (v RAW-ENTRIES) i 0) 0 - 2 in
      let r : Among (n, k) (held.raw_nodes s p v h d ready asked m after are work f) =
      subst (λ x. Among (x, k) (held.raw_nodes s p v h d ready asked m after are work f)) is (held.raw_holds s p v h d ready asked m after are work f i l key e) in
      inl
      (node_way n k other
      (among-right (n, k) (map (λ x. (x.1, x.0)) m.pool.given) (held.raw_nodes s p v h d ready asked m after are work f) r)
      (inr (i, held.raw_owner s p v h d ready asked m after are work f i l key e))
      (λ wide. owner_raw v n wide other i hit ∙ raw_node_lem (v MARKS) (get_or (v RAW-ENTRIES) i 0) e)))
      (equal (get_or (v RAW-ENTRIES) i 0) HALF)))
      (equal n (name_in v))
    where
      nobody :
          (n ≡ name_in v → ⊥) → link_of (v RAW-KEYS) (raw_count v) n ≡ 0 → link_of (v GIVEN) (node_count v) n ≡ 0 → lookup n after.owned ≡ none
      nobody other miss gone = none_owned n other (λ k a. ⊎_elim
          (λ (x : (i : ℕ) × (i < raw_count v) × (get_or (v RAW-KEYS) i 0 ≡ n)). none-linked (v RAW-KEYS) (raw_count v) n x.0 miss x.1 x.2)
          (λ (x : get_or (v GIVEN) k 0 ≡ n). none-linked (v GIVEN) (node_count v) n k gone (held_low k a) x)
          (held.holds-back s p v h d ready asked m after are work f n k a))
        where
          held_low : (k : ℕ) → Among (n, k) holding → k < node_count v
          held_low k a =
              let (e, nd, l, at, is) = held-entry n k a in
              omega (arith, found_inside nodes k nd at, nodes_many s p v there (f.long NODES))

  -- WHAT IT SHOWS

  -- slot 0 is nobody's
  zero-free : (e : Entry ℕ ℕ) → lookup 0 after.owned ≡ some e → ⊥
  zero-free e q =
      cases (name_in v) ⊥
      (λ z. none-there (ap (lookup 0) (sym (f.named.unnamed z)) ∙ q))
      (λ i z. none-there (sym (owned_before 0 (λ y. omega (arith, y, z))) ∙ q))
    where
      none-there : lookup 0 m.owned ≡ some e → ⊥
      none-there l =
          let (k, nd, at, a, is) = owner_is 0 e l in
          omega (arith, held_in s p v h d ready asked m after are work f 0 k a)

  -- whether the slot before holds a wide one
  before_wide : (n : ℕ) → n < 65536 → (o : Option (Entry ℕ ℕ)) → lookup n after.owned ≡ o → wide_at (owner_in v) (wide_in s v) n ≡ wide_there o
  unfolding wide_at wide_there
  before_wide zero high none q = refl
  before_wide zero high (some e) q = absurd (zero-free e q)
  before_wide (suc n) high o q =
      ⊎_elim
      (λ (x : Entered (suc n)).
      let (e, c, l, words, shows, wide) = x in
      ap (wide_in s v) (words false) ∙ wide ∙ ap wide_there (sym l ∙ q))
      (⊎_elim
      (λ (x : Unowned (suc n)).
      ap (wide_in s v) (x.1 false ∙ link_empty false 0 refl refl) ∙ wide_past (finished_in s v) content.Empty (λ k e. cc) ∙ ap wide_there (sym x.0 ∙ q))
      (λ (x : Second (suc n)). ap (wide_in s v) (x.1 false) ∙ wide_past (finished_in s v) content.Nothing (λ k e. cc) ∙ ap wide_there (sym x.0 ∙ q)))
      (slot-ways (suc n) (omega arith) high)

  behind-shown : (o : Option (Entry ℕ ℕ)) → shown_in s v (link_word (wide_there o) 0) ≡ shown (literals (job_in s)) (behind o)
  unfolding wide_there behind shown link_word
  behind-shown none = shown-empty (finished_in s v) content.Empty refl
  behind-shown (some e) = ways (is_wide e.tag)
    where
      ways :
          (b : Bool) →
          shown_in s v (elim b [ true ↦ content.Nothing | false ↦ content.Empty ]) ≡ shown (literals (job_in s)) (elim b [ true ↦ nothing | false ↦ empty_text ])
      ways true = shown-nothing (finished_in s v) content.Nothing refl
      ways false = shown-empty (finished_in s v) content.Empty refl

  behind-wide : (o : Option (Entry ℕ ℕ)) → wide_there o ≡ true → shown (literals (job_in s)) (behind o) ≡ none
  behind-wide o w =
      sym (behind-shown o) ∙ ap (shown_in s v) (link_wide (wide_there o) 0 refl w) ∙ shown-nothing (finished_in s v) content.Nothing refl

  pub shown-same : (n : ℕ) → n < 65536 → shown_at s v n ≡ shown (literals (job_in s)) (content_of after.owned n)
  unfolding content_word content_of shown wide_there
  shown-same zero high = shown-nothing (finished_in s v) content.Nothing refl
  shown-same (suc n) high =
      let wide = wide_at (owner_in v) (wide_in s v) n in
      ⊎_elim
      (λ (x : Entered (suc n)).
      let (e, c, l, words, shows, _) = x in
      ap (shown_in s v) (words wide) ∙ shows ∙ ap (shown (literals (job_in s))) (sym (content_holds after.owned n e l)))
      (⊎_elim
      (λ (x : Unowned (suc n)).
      ap (shown_in s v) (x.1 wide ∙ ap (λ b. link_word b 0) (before_wide n (omega arith) (lookup n after.owned) refl))
      ∙ behind-shown (lookup n after.owned)
      ∙ ap (shown (literals (job_in s))) (sym (content_behind after.owned n x.0)))
      (λ (x : Second (suc n)).
      let (l, words, j, is, e, there-is, w) = x in
      let q : lookup n after.owned ≡ some e = ap (λ i. lookup i after.owned) (suc_inj is) ∙ there-is in
      ap (shown_in s v) (words wide)
      ∙ shown-nothing (finished_in s v) content.Nothing refl
      ∙ sym (behind-wide (lookup n after.owned) (ap wide_there q ∙ w))
      ∙ ap (shown (literals (job_in s))) (sym (content_behind after.owned n l))))
      (slot-ways (suc n) (omega arith) high)
    where
      suc_inj : {a b : ℕ} → suc a ≡ suc b → a ≡ b
      suc_inj q = omega (arith, q)
