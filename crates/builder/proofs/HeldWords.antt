-- Which slots are to hold which nodes: what the words tell is what the definition has. Assumes nothing.
use mathlib.Core.List.{List, map}
use mathlib.Core.Logic.{◌⊎◌, inl, inr, ⊎_elim}
use mathlib.Core.Option.{some}
use mathlib.Core.Path.{◌≡◌, refl, sym, ap, subst, ◌∙◌}
use Prim.Native.Nat.{ℕ, zero, suc, ◌+◌, ◌-◌, ◌<◌}
use native.Mathlib.Omega.{arith}
use lib.ListN.{get_or, get_elem?}
use borrow.Author.Tests.{eq-eqb, ne_eqb}
use Rattle.definition.specs.Basics.{lookup}
use Rattle.definition.specs.Numbering.{top_of}
use Rattle.definition.specs.Definitions.{Held, starts, half, Defined}
use Rattle.definition.specs.Resolving.{done}
use Rattle.definition.specs.Building.{Made}
use Rattle.definition.specs.Layout.{Ready, starters, node_at_lem}
use Rattle.facts.specs.Lists.{Among}
use Rattle.facts.proofs.Lists.{clash, some_inj, found_read, map_at, map-some, among-forth}
use Rattle.facts.proofs.Tables.{lookup-at, rising_lookup}
use Rattle.laws.specs.Statements.{IsBytes}
use Rattle.laws.proofs.Definitions.DefinedAsPlaced.{starters-start, start_starters}
use Rattle.laws.proofs.Building.ChildNumbers.{given-held}
use Rattle.laws.proofs.Slots.SlotsToHold.{to_hold, to_hold_among}
use Rattle.slots.specs.Gaps.{GapTable}
use Rattle.store.specs.Store.{Store}
use Rattle.store.specs.JobIn.{job_in, constants_in, entries_in}
use Rattle.store.specs.Regions.{MARKS, GIVEN, RAW-KEYS, RAW-ENTRIES, Work}
use Rattle.store.specs.Words.{ENTRY, HALF, mark_word}
use Rattle.interner.specs.Nodes.{node_count, nodes_in}
use Rattle.raws.specs.Raws.{raw_count, held_word, SlotItem, IndexItem}
use Rattle.pool.specs.Pooled.{slot_word}
use Rattle.pool.specs.Owning.{RawOwner}
use Rattle.builder.proofs.Final.{Final}
use Rattle.builder.proofs.GivenOnce.{given-once, given-apart}
use Rattle.builder.proofs.Known.{raws_in, ended_built, raw_node_lem, sound_built}

starts-inj : {a b : ℕ} → starts a ≡ starts b → a ≡ b
starts-inj e = cc

done_inj : {a b : ℕ} → done a ≡ done b → a ≡ b
done_inj e = cc

word_starts : (e : ℕ) → (e ≡ HALF → ⊥) → held_word e ≡ starts e
unfolding held_word
word_starts e h = rw (ne_eqb e HALF h, held_word)

word_half : (e : ℕ) → e ≡ HALF → held_word e ≡ half
unfolding held_word
word_half e h = rw (eq-eqb e HALF h, held_word)

slot-some : (n : ℕ) → 0 < n → slot_word n ≡ some n
unfolding slot_word
slot-some zero h = absurd (omega arith)
slot-some (suc n) h = refl

some-slot : (n m : ℕ) → slot_word n ≡ some m → n ≡ m
unfolding slot_word
some-slot zero m h = clash (cc)
some-slot (suc n) m h = cc

-- a mark's word that tells a node
done_word : (marks : List ℕ) (e k : ℕ) → get_elem? (map mark_word marks) e ≡ some (done k) → 1 < get_or marks e 0 → get_or marks e 0 ≡ suc (suc k)
unfolding mark_word
done_word marks e k h low =
    let (w, at, is) = map-some mark_word marks e (done k) h in
    found_read marks e w 0 at ∙ ways w is (rw (found_read marks e w 0 at) at low)
  where
    ways : (w : ℕ) → mark_word w ≡ done k → 1 < w → w ≡ suc (suc k)
    ways zero q l = absurd (omega arith)
    ways (suc zero) q l = absurd (omega arith)
    ways (suc (suc j)) q l = ap (λ x. suc (suc x)) (done_inj q)

module _
    (s p : List ℕ) (v : Store) (h : GapTable) (d : Defined) (ready asked : Ready) (m after : Made)
    (are : IsBytes s) (work : Work s p) (f : Final s p v h d ready asked m after) where
  abbrev pub raw_nodes : List (ℕ × ℕ)
  raw_nodes = raws_in s p v h d ready asked m after are work f

  abbrev pub holds : List (ℕ × ℕ)
  holds = to_hold m.pool.given raw_nodes

  -- GIVEN ONES

  pub given_holds : (k n : ℕ) → 0 < n → get_or (v GIVEN) k 0 ≡ n → Among (n, k) holds
  given_holds k n low is = given-held k n m.pool.given raw_nodes (f.given k ∙ ap slot_word is ∙ slot-some n low)

  pub given_back : (k n : ℕ) → Among (k, n) m.pool.given → get_or (v GIVEN) k 0 ≡ n
  given_back k n a =
      some-slot (get_or (v GIVEN) k 0) n (sym (f.given k) ∙ given-once (ended_built s p v h d ready asked m after are work f).occurs k n a)

  -- RAW ONES

  found_held : (n : ℕ) (x : Held) → Among (n, x) d.held → lookup n d.held ≡ some x
  found_held n x a = rising_lookup 1 (top_of (job_in s)) d.held n x f.raws.held_rise a

  -- a raw slot below 65,536 is the definition's
  pub slot-item : (i : ℕ) → i < raw_count v → get_or (v RAW-KEYS) i 0 < ENTRY → SlotItem (top_of (job_in s)) d.held (get_or (v RAW-KEYS) i 0) (get_or (v RAW-ENTRIES) i 0)
  slot-item i l low =
      ⊎_elim
      (λ (x : SlotItem (top_of (job_in s)) d.held (get_or (v RAW-KEYS) i 0) (get_or (v RAW-ENTRIES) i 0)). x)
      (λ (x : IndexItem (constants_in s) d.indexes (get_or (v RAW-KEYS) i 0) (get_or (v RAW-ENTRIES) i 0)). absurd (omega (arith, x.low)))
      (f.raws.items i l)

  pub half_held_lem : (i : ℕ) → i < raw_count v → get_or (v RAW-KEYS) i 0 < ENTRY → get_or (v RAW-ENTRIES) i 0 ≡ HALF → Among (get_or (v RAW-KEYS) i 0, half) d.held
  half_held_lem i l low e =
      lookup-at (get_or (v RAW-KEYS) i 0) half d.held ((slot-item i l low).row ∙ ap some (word_half (get_or (v RAW-ENTRIES) i 0) e))

  pub start_held_lem :
      (i : ℕ) → i < raw_count v → get_or (v RAW-KEYS) i 0 < ENTRY → (get_or (v RAW-ENTRIES) i 0 ≡ HALF → ⊥) →
      Among (get_or (v RAW-KEYS) i 0, starts (get_or (v RAW-ENTRIES) i 0)) d.held
  start_held_lem i l low e =
      lookup-at (get_or (v RAW-KEYS) i 0) (starts (get_or (v RAW-ENTRIES) i 0)) d.held
      ((slot-item i l low).row ∙ ap some (word_starts (get_or (v RAW-ENTRIES) i 0) e))

  -- what a raw start's entry became is to be held there
  pub starts-raw :
      (n e : ℕ) → Among (n, starts e) d.held → (k : ℕ) × Among (n, k) raw_nodes × (get_elem? (map mark_word (v MARKS)) e ≡ some (done k))
  starts-raw n e a =
      let place : ℕ × ℕ → ℕ × ℕ = λ r. (r.0, node_at_lem ready.resolved.marks r.1) in
      let (i, at) = start_starters d.held n e a in
      let k = node_at_lem ready.resolved.marks e in
      let there : Among (n, k) raw_nodes = among-forth (n, k) (map place (starters d.held)) (i, map_at place (starters d.held) i (n, e) at) in
      let (e', b, mark) = raw_node_lem s p v h d ready asked m after are work f n k there in
      let same : e' ≡ e = starts-inj (some_inj (sym (found_held n (starts e') (starters-start d.held n e' b)) ∙ found_held n (starts e) a)) in
      (k, there, subst (λ x. get_elem? (map mark_word (v MARKS)) x ≡ some (done k)) same mark)

  -- the entry of a raw definition became a node
  pub done_whole :
      (i : ℕ) → i < raw_count v → (get_or (v RAW-ENTRIES) i 0 ≡ HALF → ⊥) →
      (get_or (v RAW-ENTRIES) i 0 < entries_in s)
      × (1 < get_or (v MARKS) (get_or (v RAW-ENTRIES) i 0) 0)
      × (get_or (v MARKS) (get_or (v RAW-ENTRIES) i 0) 0 < node_count v + 2)
  done_whole i l whole = ⊎_elim (λ y. absurd (whole y)) (λ y. y) (f.raws_done i l)

  pub raw_holds :
      (i : ℕ) → i < raw_count v → get_or (v RAW-KEYS) i 0 < ENTRY → (get_or (v RAW-ENTRIES) i 0 ≡ HALF → ⊥) →
      Among (get_or (v RAW-KEYS) i 0, get_or (v MARKS) (get_or (v RAW-ENTRIES) i 0) 0 - 2) raw_nodes
  raw_holds i l low whole =
      let (k, a, mark) = starts-raw (get_or (v RAW-KEYS) i 0) (get_or (v RAW-ENTRIES) i 0) (start_held_lem i l low whole) in
      let is = done_word (v MARKS) (get_or (v RAW-ENTRIES) i 0) k mark (done_whole i l whole).1 in
      let same : k ≡ get_or (v MARKS) (get_or (v RAW-ENTRIES) i 0) 0 - 2 = omega (arith, is) in
      subst (λ x. Among (get_or (v RAW-KEYS) i 0, x) raw_nodes) same a

  pub raw_owner :
      (i : ℕ) → i < raw_count v → get_or (v RAW-KEYS) i 0 < ENTRY → (get_or (v RAW-ENTRIES) i 0 ≡ HALF → ⊥) →
      RawOwner v i (get_or (v MARKS) (get_or (v RAW-ENTRIES) i 0) 0 - 2)
  raw_owner i l low whole = record { inside = l; slot = low; whole = whole; node = omega (arith, (done_whole i l whole).1) }

  -- a slot that a raw constant is to hold has its raw item
  pub raw_back : (n k : ℕ) → Among (n, k) raw_nodes → (i : ℕ) × (i < raw_count v) × (get_or (v RAW-KEYS) i 0 ≡ n)
  raw_back n k a =
      let (e, b, mark) = raw_node_lem s p v h d ready asked m after are work f n k a in
      f.raws.slots n (starts e) (found_held n (starts e) (starters-start d.held n e b))

  -- NONE ELSE: a slot that is to hold a node has its item, or its node
  pub holds-back : (n k : ℕ) → Among (n, k) holds → ((i : ℕ) × (i < raw_count v) × (get_or (v RAW-KEYS) i 0 ≡ n)) ⊎ (get_or (v GIVEN) k 0 ≡ n)
  holds-back n k a =
      ⊎_elim
      (λ (g : Among (k, n) m.pool.given). inr (given_back k n g))
      (λ (r : Among (n, k) raw_nodes). inl (raw_back n k r))
      (to_hold_among (n, k) m.pool.given raw_nodes a)

  -- no second half is to hold a node
  pub half_apart : (n k : ℕ) → Among (n, half) d.held → Among (n, k) holds → ⊥
  half_apart n k b a =
      ⊎_elim
      (λ (g : Among (k, n) m.pool.given).
      given-apart (top_of (job_in s)) d.held (nodes_in s v) m.pool (sound_built s p v h d ready asked m after are work f) k n half g b)
      (λ (r : Among (n, k) raw_nodes).
      let (e, c, mark) = raw_node_lem s p v h d ready asked m after are work f n k r in
      let q : starts e ≡ half = some_inj (sym (found_held n (starts e) (starters-start d.held n e c)) ∙ found_held n half b) in
      clash (cc))
      (to_hold_among (n, k) m.pool.given raw_nodes a)
