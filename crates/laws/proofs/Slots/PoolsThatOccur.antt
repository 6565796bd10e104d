-- What holds of every pool that occurs (`sound`): raw-held, given-out and free slots together are all slots, each once. Assumes nothing.
use mathlib.Core.Bool.{Bool, true, false}
use mathlib.Core.List.{List, [], ◌∷◌, ◌++◌, map}
use mathlib.Core.Path.{◌≡◌, refl, sym, ap, subst, ◌∙◌}
use Prim.Native.Nat.{ℕ, suc, ◌+◌, ◌-◌, ◌<◌}
use native.Mathlib.Omega.{arith}
use lib.ListN.{length, length-append}
use Rattle.definition.specs.Basics.{good, concat, from}
use Rattle.definition.specs.Shapes.{is_wide, Entry}
use Rattle.definition.specs.Definitions.{Held, Defined, tag_at}
use Rattle.definition.specs.Resolving.{Goal, table_entry, Node, resolve_all, nothing_resolved}
use Rattle.definition.specs.Slots.{Gap, gaps_from, start_slots}
use Rattle.definition.specs.Building.{Pool}
use Rattle.definition.specs.Layout.{starters, Ready, end_definitions}
use Rattle.facts.specs.Lists.{Rising, keys}
use Rattle.facts.proofs.Each.{Each, each_weaker}
use Rattle.facts.proofs.Sums.{total, total_append, run}
use Rattle.facts.proofs.Results.{good_inj, good_first}
use Rattle.laws.specs.Statements.{Occurs, after_request, more_resolved, stack_taken, free_slots, all_slots, given_slots, after_definitions}
use Rattle.laws.proofs.Definitions.RawSlotsRise.{rises}
use Rattle.laws.proofs.Resolving.NodesAndChildren.{tag-append}
use Rattle.laws.proofs.Slots.Gaps.{total_start, apart_start, cut-some, apart_set, total_set, Under, under_set}
use Rattle.laws.specs.Gaps.{Apart}
use Rattle.laws.proofs.Slots.SlotRequest.{width, slot-taken, Met, old, new, met}

-- the nodes that have slots are below a number
abbrev pub Below : ℕ → List (ℕ × ℕ) → Type 0
Below n given = Each (λ r. r.0 < n) given

-- raw-held slots rise from 1 to the highest slot; gaps lie apart; gaps before the plain position are empty, and before the wide one have
-- no two slots; nodes that have slots are there; raw-held, given-out and free slots together are those from 1 to the highest, each once:
-- any weight has the same sum over both
pub record Sound (top : ℕ) (held : List (ℕ × Held)) (nodes : List Node) (p : Pool) : Type 0 where
  pub rising : Rising 1 top (keys held)
  pub apart : Apart top 1 p.slots.gaps
  pub plain : Under 1 p.slots.plain p.slots.gaps
  pub wide : Under 2 p.slots.wide p.slots.gaps
  pub known : Below (length nodes) p.given
  pub counted : (f : ℕ → ℕ) → total f (all_slots held nodes p) ≡ total f (run 1 top)

-- a weight's sum over all slots
pub total_all :
    (f : ℕ → ℕ) (held : List (ℕ × Held)) (nodes : List Node) (p : Pool) →
    total f (all_slots held nodes p) ≡ total f (keys held) + (total f (given_slots nodes p.given) + total f (free_slots p.slots.gaps))
unfolding all_slots
total_all f held nodes p =
    omega (
      arith,
      total_append f (keys held) (given_slots nodes p.given ++ free_slots p.slots.gaps),
      total_append f (given_slots nodes p.given) (free_slots p.slots.gaps),
    )

-- the slots given out, with one more node's in front
pub given-cons :
    (nodes : List Node) (k s : ℕ) (given : List (ℕ × ℕ)) →
    given_slots nodes ((k, s) ∷ given) ≡ run s (width (is_wide (tag_at nodes k))) ++ given_slots nodes given
unfolding given_slots from width concat
given-cons nodes k s given = ways (is_wide (tag_at nodes k)) refl
  where
    ways : (b : Bool) → is_wide (tag_at nodes k) ≡ b → given_slots nodes ((k, s) ∷ given) ≡ run s (width (is_wide (tag_at nodes k))) ++ given_slots nodes given
    ways true t = rw (t, given_slots)
    ways false t = rw (t, given_slots)

pub given-append :
    (nodes more : List Node) (given : List (ℕ × ℕ)) → Below (length nodes) given → given_slots (nodes ++ more) given ≡ given_slots nodes given
unfolding given_slots concat
given-append nodes more [] b = refl
given-append nodes more (r ∷ given) b =
    given-cons (nodes ++ more) r.0 r.1 given
    ∙ rw (tag-append nodes more r.0 b.0, given-append nodes more given b.1)
    (sym (given-cons nodes r.0 r.1 given))

-- after record 50 the gaps lie between the raw slots, and nothing is given out
pub ended :
    (top : ℕ) (table : List (Entry ℕ Goal)) (n : ℕ) (d : Defined) (w : Ready) →
    end_definitions top table n d ≡ good w →
    (w.pool.slots ≡ start_slots (gaps_from top 1 (keys d.held))) × (w.pool.given ≡ [])
unfolding end_definitions
ended top table n d w e =
    let goals = map (λ (r : ℕ × ℕ). table_entry r.1) (starters d.held) ++ map (λ (r : ℕ × ℕ). table_entry (n + r.1)) d.indexes in
    let (s, q, g) = good_first (resolve_all table goals (nothing_resolved table)) _ w e in
    let same = sym (good_inj g) in
    (λ i. (same i).pool.slots, λ i. (same i).pool.given)

sound_start :
    (top : ℕ) (held : List (ℕ × Held)) (nodes : List Node) (p : Pool) →
    Rising 1 top (keys held) →
    p.slots ≡ start_slots (gaps_from top 1 (keys held)) →
    p.given ≡ [] →
    Sound top held nodes p
unfolding start_slots given_slots total concat
sound_start top held nodes p r slots given =
    record {
      rising = r;
      apart = rw slots (apart_start top 1 (keys held) (omega arith) r);
      plain = rw slots (λ i g e l. absurd (omega arith));
      wide = rw slots (λ i g e l. absurd (omega arith));
      known = rw given tt;
      counted = λ f.
          let all : suc top - 1 ≡ top = omega arith in
          total_all f held nodes p
          ∙ rw (given, slots) (omega (arith, total_start f top 1 (keys held) (omega arith) r, ap (λ (n : ℕ). total f (run 1 n)) all));
    }

-- a request that was met
sound_met :
    (top : ℕ) (held : List (ℕ × Held)) (nodes : List Node) (p : Pool) (ldc : Bool) (k s : ℕ) (p' : Pool) →
    Sound top held nodes p →
    k < length nodes →
    Met nodes ldc k p s p' →
    Sound top held nodes p'
sound_met top held nodes p ldc k s p' i h (old e q) = rw q i
sound_met top held nodes p ldc k s p' i h (new slots e f q) =
    let t = slot-taken (is_wide (tag_at nodes k)) ldc p.slots s slots f in
    let c = width (is_wide (tag_at nodes k)) in
    let z = t.gaps ∙ cut-some c t.at p.slots.gaps t.gap t.there in
    rw q
    (record {
      rising = i.rising;
      apart = rw z (apart_set top 1 c t.at p.slots.gaps t.gap t.there t.enough i.apart);
      plain = rw z (under_set 1 slots.plain c t.at p.slots.gaps t.gap t.there (t.plain i.plain));
      wide = rw z (under_set 2 slots.wide c t.at p.slots.gaps t.gap t.there (t.wide i.wide));
      known = (h, i.known);
      counted = λ f.
          omega (
            arith,
            total_all f held nodes p,
            total_all f held nodes (record { slots = slots; given = (k, s) ∷ p.given; pending = (s, k) ∷ p.pending; version = p.version }),
            total_set f c t.at p.slots.gaps t.gap t.there t.enough,
            ap (λ (l : List Gap). total f (free_slots l)) z,
            ap (total f) (given-cons nodes k s p.given) ∙ total_append f (run s c) (given_slots nodes p.given),
            ap (λ (n : ℕ). total f (run n c)) t.slot,
            i.counted f,
          );
    })

sound_more :
    (top : ℕ) (held : List (ℕ × Held)) (nodes more : List Node) (p : Pool) →
    Sound top held nodes p →
    Sound top held (nodes ++ more) p
unfolding all_slots
sound_more top held nodes more p i =
    record {
      rising = i.rising;
      apart = i.apart;
      plain = i.plain;
      wide = i.wide;
      known =
          each_weaker (λ r. r.0 < length nodes) (λ r. r.0 < length (nodes ++ more)) (λ r h. omega (arith, h, length-append nodes more)) p.given i.known;
      counted = λ f. rw (given-append nodes more p.given i.known) (i.counted f);
    }

pub sound : {top : ℕ} {held : List (ℕ × Held)} {nodes : List Node} {p : Pool} → Occurs top held nodes p → Sound top held nodes p
unfolding all_slots
sound {top} {held} (after_definitions definitions constants table n d w h e same) =
    let (slots, given) = ended top table n d w e in
    subst (λ held. Sound top held w.resolved.nodes w.pool) same
    (sound_start top d.held w.resolved.nodes w.pool (rises top constants definitions d h).0 slots given)
sound {top} {held} (after_request {nodes} {p} ldc k s p' o h e) = sound_met top held nodes p ldc k s p' (sound o) h (met nodes ldc k s p p' e)
sound {top} {held} (more_resolved {nodes} {p} more o) = sound_more top held nodes more p (sound o)
sound {top} {held} (stack_taken pending o) =
    let i = sound o in
    record {
      rising = i.rising;
      apart = i.apart;
      plain = i.plain;
      wide = i.wide;
      known = i.known;
      counted = i.counted;
    }
