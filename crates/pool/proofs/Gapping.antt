-- The gaps between held slots, written gap by gap. Assumes nothing.
use mathlib.Core.List.{List, [], ◌++◌, append_assoc}
use mathlib.Core.Logic.{◌⊎◌, inl, inr}
use mathlib.Core.Path.{◌≡◌, refl, sym, ◌∙◌, ap}
use Prim.Native.Nat.{ℕ, suc, ◌+◌, ◌-◌, ◌≤◌, ◌<◌}
use native.Mathlib.Numerals.{add-one}
use native.Mathlib.Omega.{arith}
use lib.ListN.{length, get_or, take, drop, length-append, length-take, length-map}
use lib.Seq.{drop-cons, drop-drop, drop-length, get_or-take}
use Rattle.definition.specs.Slots.{Gap, gap_before, gaps_from}
use Rattle.facts.proofs.Lists.{order, read_found, get_map}
use Rattle.laws.proofs.Slots.Gaps.{gap_before-some, gap_before-none}
use Rattle.slots.specs.Gaps.{GapTable, gap_of, gaps_of, gaps_at, AtMost, Written}
use Rattle.slots.proofs.Rows.{gaps_length}
use Rattle.pool.specs.Starting.{order_keys}

-- THE KEYS of the first places of the order

module _ (item_keys order : List ℕ) (n : ℕ) (fits : n ≤ length order) where
  pub keys_length : length (order_keys item_keys order n) ≡ n
  keys_length = length-map (take n order) (λ i. get_or item_keys i 0) ∙ length-take n order ∙ omega arith

  pub key_at : (i : ℕ) → i < n → get_or (order_keys item_keys order n) i 0 ≡ get_or item_keys (get_or order i 0) 0
  key_at i h =
      let l : i < length (take n order) = omega (arith, length-take n order) in
      get_map (λ i. get_or item_keys i 0) (take n order) i (get_or order i 0) 0 (read_found (take n order) i 0 l ∙ rw (get_or-take n order i 0 h))

-- a gap ahead of others
before_append : (first next : ℕ) (gaps : List Gap) → gap_before first next gaps ≡ gap_before first next [] ++ gaps
before_append first next gaps = ways (order first next)
  where
    ways : (first < next) ⊎ (next ≤ first) → gap_before first next gaps ≡ gap_before first next [] ++ gaps
    ways (inl h) = rw (gap_before-some first next gaps h, gap_before-some first next [] h)
    ways (inr h) = rw (gap_before-none first next gaps h, gap_before-none first next [] h)

-- what is written is in the table
pub written-fits : (gaps : List Gap) (before after : GapTable) (count : ℕ) → Written gaps before after count → count ≤ length after
unfolding gaps_of
written-fits gaps before after count w =
    omega (arith, w.counted, ap length w.read, length-map (take count after) gap_of, length-take count after)

-- the loop: what is written, with what the rest will give, is the whole; behind it nothing has changed
pub record Between (whole : List Gap) (held : List ℕ) (top : ℕ) (before rows : GapTable) (i count first : ℕ) : Type 0 where
  pub within : i ≤ length held
  pub fits : count ≤ length rows
  pub long : length rows ≡ length before
  pub rest : gaps_at rows count ++ gaps_from top first (drop i held) ≡ whole
  pub behind : drop count rows ≡ drop count before

pub between_start : (held : List ℕ) (top : ℕ) (rows : GapTable) → Between (gaps_from top 1 held) held top rows rows 0 0 1
unfolding gaps_of
between_start held top rows = record { within = omega arith; fits = omega arith; long = refl; rest = refl; behind = refl }

-- room for a gap that the whole still lacks
room :
    (whole more : List Gap) (rows : GapTable) (count first next : ℕ) →
    count ≤ length rows → gaps_at rows count ++ gap_before first next more ≡ whole → length whole ≤ length rows → first < next → count < length rows
room whole more rows count first next fits e l h =
    omega (
      arith,
      ap length e,
      ap length (gap_before-some first next more h),
      length-append (gaps_at rows count) (gap_before first next more),
      gaps_length rows count fits,
    )

-- nothing behind what is written now
behind_more :
    (more : List Gap) (before rows after : GapTable) (count r : ℕ) →
    count ≤ length rows → drop count rows ≡ drop count before → Written (gaps_at rows count ++ more) rows after r → drop r after ≡ drop r before
behind_more more before rows after count r fits e w =
    let q : count + (r - count) ≡ r = omega (arith, w.counted, length-append (gaps_at rows count) more, gaps_length rows count fits) in
    w.behind
    ∙ ap (λ (n : ℕ). drop n rows) (sym q)
    ∙ sym (drop-drop (r - count) count rows)
    ∙ ap (drop (r - count)) e
    ∙ drop-drop (r - count) count before
    ∙ ap (λ (n : ℕ). drop n before) q

module _
    (whole : List Gap) (held : List ℕ) (top : ℕ) (before rows : GapTable) (i count first : ℕ)
    (b : Between whole held top before rows i count first) where
  -- the held slot that comes next
  module _ (h : i < length held) (slot : ℕ) (is : slot ≡ get_or held i 0) where
    going : gaps_at rows count ++ gap_before first slot (gaps_from top (suc slot) (drop (suc i) held)) ≡ whole
    unfolding gaps_from
    going = rw is (rw (drop-cons held i 0 h) at b.rest)

    pub next-room : length whole ≤ length before → first < slot → count < length rows
    next-room l = room whole (gaps_from top (suc slot) (drop (suc i) held)) rows count first slot b.fits going (rw b.long l)

    pub next-pushed :
        (after : GapTable) (r : ℕ) →
        length after ≡ length rows →
        Written (gaps_at rows count ++ gap_before first slot []) rows after r →
        Between whole held top before after (i + 1) r (slot + 1)
    next-pushed after r long w =
        record {
          within = omega arith;
          fits = written-fits (gaps_at rows count ++ gap_before first slot []) rows after r w;
          long = long ∙ b.long;
          rest =
              rw (add-one slot, add-one i, w.read, append_assoc)
              (rw (← before_append first slot (gaps_from top (suc slot) (drop (suc i) held))) going);
          behind = behind_more (gap_before first slot []) before rows after count r b.fits b.behind w;
        }

  -- none is left
  module _ (h : length held ≤ i) where
    gone : gaps_at rows count ++ gap_before first (top + 1) [] ≡ whole
    unfolding gaps_from
    gone =
        let e : i ≡ length held = omega (arith, b.within) in
        rw add-one (rw (e, drop-length held) at b.rest)

    pub last-room : length whole ≤ length before → first < top + 1 → count < length rows
    last-room l = room whole [] rows count first (top + 1) b.fits gone (rw b.long l)

    pub last-pushed :
        (after : GapTable) (r : ℕ) → Written (gaps_at rows count ++ gap_before first (top + 1) []) rows after r → Written whole before after r
    last-pushed after r w =
        record {
          counted = w.counted ∙ ap length gone;
          read = w.read ∙ gone;
          behind = behind_more (gap_before first (top + 1) []) before rows after count r b.fits b.behind w;
        }

-- AS THE CODE HAS IT

module _
    (item_keys order : List ℕ) (n top : ℕ) (fits : n ≤ length order) (most : AtMost 65535 (order_keys item_keys order n)) (before rows : GapTable)
    (i count first : ℕ)
    (b : Between (gaps_from top 1 (order_keys item_keys order n)) (order_keys item_keys order n) top before rows i count first)
    (enough : length (gaps_from top 1 (order_keys item_keys order n)) ≤ length before) where
  abbrev held : List ℕ
  held = order_keys item_keys order n

  abbrev whole : List Gap
  whole = gaps_from top 1 held

  module _ (h : i < n) (slot : ℕ) (read : slot ≡ get_or item_keys (get_or order i 0) 0) where
    is : slot ≡ get_or held i 0
    is = read ∙ sym (key_at item_keys order n fits i h)

    more : i < length held
    more = omega (arith, keys_length item_keys order n fits)

    pub key_low : slot ≤ 65535
    key_low = rw is (most i)

    pub push_asks : (count ≤ length rows) × (first < slot → count < length rows) × (slot ≤ 65536)
    push_asks = (b.fits, next-room whole held top before rows i count first b more slot is enough, omega (arith, key_low))

    pub push_goes :
        (after : GapTable) (r : ℕ) → length after ≡ length rows → Written (gaps_at rows count ++ gap_before first slot []) rows after r →
        Between whole held top before after (i + 1) r (slot + 1)
    push_goes = next-pushed whole held top before rows i count first b more slot is

  module _ (h : n ≤ i) where
    over : length held ≤ i
    over = omega (arith, keys_length item_keys order n fits)

    pub last-asks : top ≤ 65535 → (count ≤ length rows) × (first < top + 1 → count < length rows) × (top + 1 ≤ 65536)
    last-asks low = (b.fits, last-room whole held top before rows i count first b over enough, omega arith)

    pub last_goes :
        (after : GapTable) (r : ℕ) → Written (gaps_at rows count ++ gap_before first (top + 1) []) rows after r → Written whole before after r
    last_goes = last-pushed whole held top before rows i count first b over
