-- The name's slot against the definition: not wanted, the one that the text's node has, a new one, or the refusal. Assumes nothing.
use mathlib.Core.Bool.{Bool, true, false}
use mathlib.Core.List.{List, [], ◌∷◌}
use mathlib.Core.Logic.{⊎_elim}
use mathlib.Core.Option.{none, some}
use mathlib.Core.Path.{◌≡◌, refl, sym, ap, ◌∙◌}
use Prim.Native.Nat.{ℕ, ◌≤◌, ◌<◌}
use native.Mathlib.Omega.{arith}
use lib.ListN.{length, get_or, get_elem?}
use lib.Seq.{get_or-set_same, get_or-set_other}
use Rattle.std.specs.Prelude as std
use Rattle.std.specs.Prelude.{IfNone, IfSome}
use Rattle.definition.specs.Basics.{good, bad, position, lookup}
use Rattle.definition.specs.Shapes.{is_wide}
use Rattle.definition.specs.Definitions.{tag_at}
use Rattle.definition.specs.Resolving.{Node, same_node, intern}
use Rattle.definition.specs.Slots.{highest_slot, Slots, size, slot_for}
use Rattle.definition.specs.Building.{Made, no_slot, give, attribute_text, name_slot}
use Rattle.facts.proofs.Lists.{equal}
use Rattle.laws.specs.Gaps.{Apart}
use Rattle.laws.proofs.Resolving.Interning.{interned}
use Rattle.laws.proofs.Slots.Gaps.{apart_at}
use Rattle.laws.proofs.Slots.SlotRequest.{width, slot-taken, allocate-new, allocate-old}
use Rattle.slots.specs.Gaps.{GapTable, slots_of}
use Rattle.store.specs.Store.{Store, put, among, Kept}
use Rattle.store.specs.Regions.{COUNTS, GIVEN, ODD, WIDE, PLAIN, NAME-SLOT}
use Rattle.store.proofs.Keeping.{kept_put}
use Rattle.interner.specs.Nodes.{nodes_in}
use Rattle.rows.specs.Rowed.{RowedIn}
use Rattle.pool.specs.Pooled.{gaps_in, slots_in, PooledIn, GapsLive, Took}
use Rattle.pool.proofs.Words.{word_none, word_some}
use Rattle.pool.proofs.Giving.{SameGaps, slots_same, gaps_live_same}
use Rattle.ending.specs.Ended.{name_in, name_of, Named}
use Rattle.ending.specs.Naming.{Wants, slot_or_0, KeptName, PoolNamed}
use Rattle.ending.proofs.Counters.{among-last, gaps_set}

-- THE DEFINITION

module _ (nodes : List Node) (m : Made) where
  abbrev place : ℕ
  place = position (same_node attribute_text) nodes

  -- what is made with the name at a slot, the slots being these
  abbrev taken : ℕ → Slots → Made
  taken slot slots =
      record {
        pool = record { slots = slots; given = (place, slot) ∷ m.pool.given; pending = (slot, place) ∷ m.pool.pending; version = m.pool.version };
        rows = m.rows;
        owned = (slot, attribute_text) ∷ m.owned;
      }

  abbrev shared : ℕ → Made
  shared slot = record { pool = m.pool; rows = m.rows; owned = (slot, attribute_text) ∷ m.owned }

  -- a text isn't wide
  narrow : is_wide (tag_at (intern attribute_text nodes) place) ≡ false
  unfolding tag_at attribute_text is_wide
  narrow = let there : get_elem? (intern attribute_text nodes) place ≡ some attribute_text = (interned attribute_text nodes).there in rw (there, tag_at)

  name_shared : (slot : ℕ) → lookup place m.pool.given ≡ some slot → name_slot true nodes m ≡ good (slot, shared slot)
  unfolding name_slot
  name_shared slot e = rw (allocate-old (intern attribute_text nodes) false place slot m.pool e)

  module _ (lacks : lookup place m.pool.given ≡ none) where
    name_refused : slot_for false false m.pool.slots ≡ none → name_slot true nodes m ≡ bad 14
    unfolding name_slot give no_slot
    name_refused e = rw (allocate-new (intern attribute_text nodes) false place m.pool lacks, narrow, e)

    name_taken :
        (slot : ℕ) (slots : Slots) → slot_for false false m.pool.slots ≡ some (slot, slots) →
        name_slot true nodes m ≡ good (slot, taken slot slots)
    unfolding name_slot give
    name_taken slot slots e = rw (allocate-new (intern attribute_text nodes) false place m.pool lacks, narrow, e)

-- a new slot is no higher than the highest
taken_low : (s after : Slots) (slot : ℕ) → Apart highest_slot 1 s.gaps → slot_for false false s ≡ some (slot, after) → slot ≤ highest_slot
unfolding size width
taken_low s after slot a e =
    let t = slot-taken false false s slot after e in
    let r = apart_at highest_slot 1 t.at s.gaps t.gap a t.there in
    omega (arith, r.2, t.enough, t.slot)

gaps_apart : (counts : List ℕ) (g : GapTable) → Apart highest_slot 1 (gaps_in counts g) → Apart highest_slot 1 (slots_in counts g).gaps
unfolding slots_of
gaps_apart counts g a = a

-- a slot that was asked for, as a number
found-met : (X : ℕ → Type 0) (r : std.Option ℕ) → IfSome r (λ n. (0 < n) × X n) → 0 < slot_or_0 r → X (slot_or_0 r)
found-met X (std.Some n) h pos = h.1
found-met X std.None h pos = absurd (omega arith)

found-unmet : (P : Type 0) (X : ℕ → Type 0) (r : std.Option ℕ) → IfNone r P → IfSome r (λ n. (0 < n) × X n) → slot_or_0 r ≡ 0 → P
found-unmet P X (std.Some n) unmet met z = absurd (omega (arith, met.0))
found-unmet P X std.None unmet met z = unmet

-- it is no higher than the highest, and no slot 0
pub took-low : (t v : Store) (g h : GapTable) (found : std.Option ℕ) → GapsLive (t COUNTS) g → Took false false t v g h found → slot_or_0 found ≤ highest_slot
took-low t v g h (std.Some n) live took =
    taken_low (slots_in (t COUNTS) g) (slots_in (v COUNTS) h) n (gaps_apart (t COUNTS) g live.apart) took.met.1
took-low t v g h std.None live took = omega arith

pub took-some : (t v : Store) (g h : GapTable) (found : std.Option ℕ) → Took false false t v g h found → IfSome found (λ n. 0 < n)
took-some t v g h (std.Some n) took = took.met.0
took-some t v g h std.None took = tt

-- THE WORDS with the name at a slot

module _ (v : Store) (slot : ℕ) where
  abbrev after : Store
  after = put v COUNTS NAME-SLOT slot

  named-is : NAME-SLOT < length (v COUNTS) → name_in after ≡ slot
  named-is room = get_or-set_same (v COUNTS) NAME-SLOT slot 0 room

  others : (c : ℕ) → (c ≡ NAME-SLOT → ⊥) → get_or (after COUNTS) c 0 ≡ get_or (v COUNTS) c 0
  others c other = get_or-set_other (v COUNTS) NAME-SLOT c slot 0 other

  same-gaps : SameGaps (v COUNTS) (after COUNTS)
  same-gaps = gaps_set (v COUNTS) NAME-SLOT slot refl

module _ (s p : List ℕ) (t : Store) (g : GapTable) (live : GapsLive (t COUNTS) g) where
  abbrev nodes : List Node
  nodes = nodes_in s t

  abbrev at : ℕ
  at = position (same_node attribute_text) nodes

  is_name : (b : Bool) → Wants s p t b → (m : Made) → RowedIn p m.rows t → name_of s t m ≡ name_slot b nodes m
  is_name b wants m rowed = rw (← wants m.rows rowed)

  -- NOT WANTED
  pub not_named : Wants s p t false → name_in t ≡ 0 → PoolNamed s p t t g g 0
  unfolding name_slot
  not_named wants unnamed =
      record {
        met =
            λ m q rowed z. (
              m,
              is_name false wants m rowed ∙ rw unnamed,
              record { slots = q.slots; rows = refl; unnamed = λ e. refl; named = λ l. absurd (omega arith) },
            );
        refused = λ m q rowed l. absurd (omega arith);
        low = λ h. omega arith;
        live = live;
        apart = λ top a. a;
        long = refl;
        counters = λ c f. refl;
        kept = λ k f. refl;
      }

  -- WANTED: v and h are the words and the gaps once the slot is known
  module _
      (wants : Wants s p t true) (v u : Store) (h : GapTable) (slot r : ℕ) (room : NAME-SLOT < length (v COUNTS)) (kept : KeptName slot v u r)
    where
      -- the name at a slot, for what the words are
      record Gets (m : Made) : Type 0 where
        made : Made
        is : name_slot true nodes m ≡ good (slot, made)
        slots : slots_in (v COUNTS) h ≡ made.pool.slots
        rows : made.rows ≡ m.rows
        owned : made.owned ≡ (slot, attribute_text) ∷ m.owned

      module _
          (alive : GapsLive (v COUNTS) h) (apart : (top : ℕ) → Apart top 1 (gaps_in (t COUNTS) g) → Apart top 1 (gaps_in (v COUNTS) h))
          (long : length h ≡ length g) (same : (c : ℕ) → among c (ODD ∷ WIDE ∷ PLAIN ∷ []) ≡ false → get_or (v COUNTS) c 0 ≡ get_or (t COUNTS) c 0)
          (stays : Kept (COUNTS ∷ []) t v) where
        named :
            ((m : Made) → PooledIn m.pool t g → 0 < slot → Gets m) →
            ((m : Made) → PooledIn m.pool t g → slot ≡ 0 → name_slot true nodes m ≡ bad 14) →
            (((k : ℕ) → get_or (t GIVEN) k 0 ≤ highest_slot) → slot ≤ highest_slot) →
            PoolNamed s p t u g h r
        named gets refused low =
            record {
              met = λ m q rowed z. met m rowed (some-slot z) (gets m q (some-slot z));
              refused = λ m q rowed l. is_name true wants m rowed ∙ refused m q (no_slot_lem l) ∙ ap bad (sym (kept.unmet (no_slot_lem l)));
              low = λ all. rw is_slot_lem (low all);
              live = rw kept.is (gaps_live_same (v COUNTS) (after v slot COUNTS) h (same-gaps v slot) alive);
              apart = λ top a. rw (kept.is, (same-gaps v slot).count) (apart top a);
              long = long;
              counters = λ c f. let (other, few) = among-last c NAME-SLOT (ODD ∷ WIDE ∷ PLAIN ∷ []) f in rw (kept.is, others v slot c other) (same c few);
              kept = rw kept.is (kept_put (COUNTS ∷ []) t v COUNTS NAME-SLOT slot refl stays);
            }
          where
            is_slot_lem : name_in u ≡ slot
            is_slot_lem = rw kept.is (named-is v slot room)

            some-slot : r ≡ 0 → 0 < slot
            some-slot z = ⊎_elim (λ (e : slot ≡ 0). absurd (omega (arith, kept.unmet e))) (λ (e : slot ≡ 0 → ⊥). omega (arith, e)) (equal slot 0)

            no_slot_lem : 0 < r → slot ≡ 0
            no_slot_lem l = ⊎_elim (λ (e : slot ≡ 0). e) (λ (e : slot ≡ 0 → ⊥). absurd (omega (arith, kept.met (omega (arith, e))))) (equal slot 0)

            met : (m : Made) → RowedIn p m.rows t → 0 < slot → Gets m → (made : Made) × (name_of s t m ≡ good (name_in u, made)) × Named m made u h
            met m rowed pos q = (
              q.made,
              is_name true wants m rowed ∙ rw is_slot_lem q.is,
              record {
                slots = rw kept.is (slots_same (v COUNTS) (after v slot COUNTS) h (same-gaps v slot) ∙ q.slots);
                rows = q.rows;
                unnamed = λ e. absurd (omega (arith, is_slot_lem));
                named = λ l. rw is_slot_lem q.owned;
              },
            )

  module _ (wants : Wants s p t true) (own : ℕ) (is : own ≡ get_or (t GIVEN) at 0) (u : Store) (r : ℕ) where
    -- the slot that the text's node has
    pub named-shared : (own ≡ 0 → ⊥) → NAME-SLOT < length (t COUNTS) → KeptName own t u r → PoolNamed s p t u g g r
    named-shared has room kept =
        named wants t u g own r room kept live (λ top a. a) refl (λ c f. refl) (λ k f. refl)
        (λ m q pos.
        record {
          made = shared nodes m own;
          is = name_shared nodes m own (q.given at ∙ rw (← is) (word_some own pos));
          slots = q.slots;
          rows = refl;
          owned = refl;
        })
        (λ m q z. absurd (has z))
        (λ all. rw is (all at))

    -- a new one, or none
    pub named_new :
        own ≡ 0 → (v : Store) (h : GapTable) (found : std.Option ℕ) → Took false false t v g h found → NAME-SLOT < length (v COUNTS) →
        KeptName (slot_or_0 found) v u r → PoolNamed s p t u g h r
    named_new lacks v h found took room kept =
        named wants v u h (slot_or_0 found) r room kept took.live took.apart took.long took.counters took.kept
        (λ m q pos.
        record {
          made = taken nodes m (slot_or_0 found) (slots_in (v COUNTS) h);
          is = name_taken nodes m (free m q) (slot_or_0 found) (slots_in (v COUNTS) h) (rw (← q.slots) (met pos));
          slots = refl;
          rows = refl;
          owned = refl;
        })
        (λ m q z. name_refused nodes m (free m q) (rw (← q.slots) (found-unmet _ _ found took.unmet took.met z)))
        (λ all.
        ⊎_elim
        (λ (e : slot_or_0 found ≡ 0). omega arith)
        (λ (e : slot_or_0 found ≡ 0 → ⊥). low (omega (arith, e)))
        (equal (slot_or_0 found) 0))
      where
        met : 0 < slot_or_0 found → slot_for false false (slots_in (t COUNTS) g) ≡ some (slot_or_0 found, slots_in (v COUNTS) h)
        met pos = found-met (λ n. slot_for false false (slots_in (t COUNTS) g) ≡ some (n, slots_in (v COUNTS) h)) found took.met pos

        free : (m : Made) → PooledIn m.pool t g → lookup at m.pool.given ≡ none
        free m q = q.given at ∙ word_none (get_or (t GIVEN) at 0) (sym is ∙ lacks)

        low : 0 < slot_or_0 found → slot_or_0 found ≤ highest_slot
        low pos = taken_low (slots_in (t COUNTS) g) (slots_in (v COUNTS) h) (slot_or_0 found) (gaps_apart (t COUNTS) g live.apart) (met pos)
