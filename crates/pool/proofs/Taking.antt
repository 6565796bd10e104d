-- A slot that is asked for: what the allocator answers, with the positions kept in the counters. Assumes nothing.
use mathlib.Core.Bool.{Bool, true, false}
use mathlib.Core.List.{List, [], ◌∷◌, ◌++◌}
use mathlib.Core.Path.{◌≡◌, refl, sym, ap, ◌∙◌}
use Prim.Native.Nat.{ℕ, ◌≤◌, ◌<◌}
use native.Mathlib.Omega.{arith}
use lib.ListN.{length, get_or, set, take, drop, length-set, length-append, length-drop}
use lib.Seq.{get_or-set_same, get_or-set_other, length-take-le}
use Rattle.std.specs.Prelude.{Option, Some, None, IfNone}
use Rattle.definition.specs.Slots.{highest_slot, slot_for}
use Rattle.laws.specs.Gaps.{Apart}
use Rattle.slots.specs.declared.Positions.{Positions}
use Rattle.slots.specs.Gaps.{GapTable, gaps_at, ends, AtMost, slots_of, slots_at_lem, answer_of, Answered, behind}
use Rattle.slots.proofs.Rows.{gaps_length}
use Rattle.slots.proofs.Given.{apart_most, wide_given, narrow_given}
use Rattle.store.specs.Store.{Store, put, among, Kept, IsWord}
use Rattle.store.specs.Regions.{COUNTS, GAP-COUNT, ODD, WIDE, PLAIN}
use Rattle.store.proofs.Keeping.{kept_put}
use Rattle.std.proofs.lemmas.List.{take_at}
use Rattle.pool.specs.Pooled.{positions_in, gaps_in, slots_in, GapsLive, with_positions, Took}
use Rattle.pool.proofs.Words.{not-among}
use Rattle.pool.proofs.Within.{Within, slot-within, apart_few}

-- COUNTERS with other positions

abbrev others : List ℕ → Positions → List ℕ
others counts q = set (set (set counts ODD q.odd) WIDE q.wide) PLAIN q.plain

module _ (counts : List ℕ) (q : Positions) where
  other_counters : (c : ℕ) → among c (ODD ∷ WIDE ∷ PLAIN ∷ []) ≡ false → get_or (others counts q) c 0 ≡ get_or counts c 0
  other_counters c f =
      let (a, g) = not-among c ODD (WIDE ∷ PLAIN ∷ []) f in
      let (b, h) = not-among c WIDE (PLAIN ∷ []) g in
      let (d, _) = not-among c PLAIN [] h in
      get_or-set_other (set (set counts ODD q.odd) WIDE q.wide) PLAIN c q.plain 0 d
      ∙ get_or-set_other (set counts ODD q.odd) WIDE c q.wide 0 b
      ∙ get_or-set_other counts ODD c q.odd 0 a

  positions_are : PLAIN < length counts → positions_in (others counts q) ≡ q
  positions_are h = λ i. record { odd = odd i; wide = wide i; plain = plain i }
    where
      odd : get_or (others counts q) ODD 0 ≡ q.odd
      odd =
          get_or-set_other (set (set counts ODD q.odd) WIDE q.wide) PLAIN ODD q.plain 0 (λ e. omega arith)
          ∙ get_or-set_other (set counts ODD q.odd) WIDE ODD q.wide 0 (λ e. omega arith)
          ∙ get_or-set_same counts ODD q.odd 0 (omega arith)

      wide : get_or (others counts q) WIDE 0 ≡ q.wide
      wide =
          get_or-set_other (set (set counts ODD q.odd) WIDE q.wide) PLAIN WIDE q.plain 0 (λ e. omega arith)
          ∙ get_or-set_same (set counts ODD q.odd) WIDE q.wide 0 (omega (arith, length-set counts ODD q.odd))

      plain : get_or (others counts q) PLAIN 0 ≡ q.plain
      plain =
          get_or-set_same (set (set counts ODD q.odd) WIDE q.wide) PLAIN q.plain 0
          (omega (arith, length-set counts ODD q.odd, length-set (set counts ODD q.odd) WIDE q.wide))

-- WHAT IS ASKED

module _ (counts : List ℕ) (g : GapTable) (live : GapsLive counts g) where
  pub live_most : AtMost highest_slot (ends (gaps_in counts g))
  live_most = apart_most highest_slot (gaps_in counts g) (omega arith) live.apart

  long : length (gaps_in counts g) ≡ get_or counts GAP-COUNT 0
  long = gaps_length g (get_or counts GAP-COUNT 0) live.inside

  few : get_or counts GAP-COUNT 0 ≤ 65535
  few = omega (arith, apart_few highest_slot 1 (gaps_in counts g) live.apart (omega arith), long)

  within : Within (slots_in counts g)
  unfolding slots_of
  within = (omega (arith, live.odd, long), omega (arith, live.wide, long), omega (arith, live.plain, long))

  -- WHAT IS ANSWERED, over the gaps in use

  abbrev pub AnsweredIn : Bool → Bool → GapTable → Option (ℕ × Positions) → Type 0
  AnsweredIn wide ldc h r =
      Answered (slot_for wide ldc (slots_in counts g)) (take (get_or counts GAP-COUNT 0) g) (take (get_or counts GAP-COUNT 0) h) r

  module _ (wide ldc : Bool) (h : GapTable) where
    -- a slot that is given
    module _ (n : ℕ) (q : Positions) (w : AnsweredIn wide ldc h (Some (n, q))) where
      given : (top : ℕ) → Apart top 1 (gaps_in counts g) → (1 ≤ n) × Apart top 1 (gaps_at h (get_or counts GAP-COUNT 0))
      unfolding slot_for
      given top a = ways wide w
        where
          ways : (b : Bool) → AnsweredIn b ldc h (Some (n, q)) → (1 ≤ n) × Apart top 1 (gaps_at h (get_or counts GAP-COUNT 0))
          ways true w =
              let r = wide_given top n (take (get_or counts GAP-COUNT 0) g) (take (get_or counts GAP-COUNT 0) h) (positions_in counts) q a w in
              (r.low, r.apart)
          ways false w =
              let r = (narrow_given top n (take (get_or counts GAP-COUNT 0) g) (take (get_or counts GAP-COUNT 0) h) (positions_in counts) q a ldc w).0 in
              (r.low, r.apart)

      moved_within : length h ≡ length g → (q.odd ≤ get_or counts GAP-COUNT 0) × (q.wide ≤ get_or counts GAP-COUNT 0) × (q.plain ≤ get_or counts GAP-COUNT 0)
      unfolding answer_of slots_of
      moved_within e =
          let r = slot-within wide ldc (slots_in counts g) n (slots_at_lem h (get_or counts GAP-COUNT 0) q) within (sym w.answer) in
          let l = gaps_length h (get_or counts GAP-COUNT 0) (omega (arith, live.inside)) in
          (omega (arith, r.0), omega (arith, r.1), omega (arith, r.2))

    -- the positions are words
    pub moved_words :
        (r : Option ℕ) (q : Positions) → length h ≡ length g → AnsweredIn wide ldc h (behind q r) → IfNone r (q ≡ positions_in counts) →
        IsWord q.odd × IsWord q.wide × IsWord q.plain
    moved_words (Some n) q e w z =
        let (x, y, z) = moved_within n q w e in
        let f = few in
        (omega arith, omega arith, omega arith)
    moved_words None q e w z = rw z (let f = few in (omega (arith, live.odd), omega (arith, live.wide), omega (arith, live.plain)))

module _ (t : Store) (g : GapTable) (live : GapsLive (t COUNTS) g) (size : PLAIN < length (t COUNTS)) (wide ldc : Bool) (h : GapTable) where
  abbrev count : ℕ
  count = get_or (t COUNTS) GAP-COUNT 0

  kept : (q : Positions) → Kept (COUNTS ∷ []) t (with_positions q t)
  kept q =
      kept_put (COUNTS ∷ []) t (put (put t COUNTS ODD q.odd) COUNTS WIDE q.wide) COUNTS PLAIN q.plain refl
      (kept_put (COUNTS ∷ []) t (put t COUNTS ODD q.odd) COUNTS WIDE q.wide refl
      (kept_put (COUNTS ∷ []) t t COUNTS ODD q.odd refl (λ k f. refl)))

  abbrev after : Positions → List ℕ
  after q = others (t COUNTS) q

  same_count : (q : Positions) → get_or (after q) GAP-COUNT 0 ≡ count
  same_count q = other_counters (t COUNTS) q GAP-COUNT refl

  pub took :
      (r : Option ℕ) (q : Positions) → length h ≡ length g → AnsweredIn (t COUNTS) g live wide ldc h (behind q r) → IfNone r (q ≡ positions_in (t COUNTS)) →
      Took wide ldc t (with_positions q t) g h r
  unfolding answer_of
  took (Some n) q e w z =
      let moved = moved_within (t COUNTS) g live wide ldc h n q w e in
      let p = positions_are (t COUNTS) q size in
      let c = same_count q in
      let gave = given (t COUNTS) g live wide ldc h n q w in
      record {
        unmet = tt;
        met = ((gave highest_slot live.apart).0, rw (c, p) (sym w.answer));
        live =
            record {
              inside = omega (arith, live.inside);
              apart = rw c (gave highest_slot live.apart).1;
              odd = omega (arith, moved.0, ap (λ (x : Positions). x.odd) p);
              wide = omega (arith, moved.1, ap (λ (x : Positions). x.wide) p);
              plain = omega (arith, moved.2, ap (λ (x : Positions). x.plain) p);
            };
        apart = λ top z. rw c (gave top z).1;
        long = e;
        counters = other_counters (t COUNTS) q;
        kept = kept q;
      }
  took None q e w z =
      let p = positions_are (t COUNTS) q size ∙ z in
      let c = same_count q in
      record {
        unmet = sym w.answer;
        met = tt;
        live =
            record {
              inside = omega (arith, live.inside);
              apart = rw (c, w.alone) live.apart;
              odd = omega (arith, live.odd, ap (λ (x : Positions). x.odd) p);
              wide = omega (arith, live.wide, ap (λ (x : Positions). x.wide) p);
              plain = omega (arith, live.plain, ap (λ (x : Positions). x.plain) p);
            };
        apart = λ top z. rw (c, w.alone) z;
        long = e;
        counters = other_counters (t COUNTS) q;
        kept = kept q;
      }

-- AS THE CODE HAS IT: the allocator has the gaps in use, and leaves them as some that are as many, with what is behind them as it was

pub slot-asks :
    (counts : List ℕ) (g : GapTable) (count : ℕ) → GapsLive counts g → count ≡ get_or counts GAP-COUNT 0 →
    (count ≤ length g) × AtMost highest_slot (ends (gaps_at g count))
slot-asks counts g count live e = rw e (live.inside, live_most counts g live)

module _
    (t : Store) (g lent : GapTable) (wide ldc : Bool) (live : GapsLive (t COUNTS) g) (before : Positions) (count : ℕ) (found : Option ℕ)
    (is : before ≡ positions_in (t COUNTS)) (counted : count ≡ get_or (t COUNTS) GAP-COUNT 0) (long : length lent ≡ length (take count g))
    (q : Positions) (w : Answered (slot_for wide ldc (slots_at_lem g count before)) (take count g) lent (behind q found))
    (still : IfNone found (q ≡ before)) where
  after_lent : GapTable
  after_lent = lent ++ drop count g

  front : take count after_lent ≡ lent
  unfolding after_lent
  front = take_at lent (drop count g) count (long ∙ length-take-le count g (rw counted live.inside))

  same-long : length after_lent ≡ length g
  unfolding after_lent
  same-long = length-append lent (drop count g) ∙ (let l = length-take-le count g (rw counted live.inside) in omega (arith, long, length-drop count g, live.inside, counted))

  answered : AnsweredIn (t COUNTS) g live wide ldc after_lent (behind q found)
  answered = rw (← counted, ← is, front) w

  unmoved : IfNone found (q ≡ positions_in (t COUNTS))
  unmoved = rw (← is) still

  pub save_asks : IsWord q.odd × IsWord q.wide × IsWord q.plain
  save_asks = moved_words (t COUNTS) g live wide ldc after_lent found q same-long answered unmoved

  pub took_all : PLAIN < length (t COUNTS) → (u : Store) → u ≡ with_positions q t → Took wide ldc t u g (lent ++ drop count g) found
  unfolding after_lent
  took_all size u e = rw e (took t g live size wide ldc after_lent found q same-long answered unmoved)
