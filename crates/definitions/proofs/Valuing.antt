-- The value of a constant worked out is kept, and so its record is still the one in turn. Assumes nothing.
use mathlib.Core.Bool.{Bool, true, false, cond}
use mathlib.Core.List.{List, [], ◌∷◌}
use mathlib.Core.Path.{◌≡◌, refl, sym, ap, subst, ◌∙◌}
use Prim.Native.Nat.{ℕ, ◌+◌, ◌/◌, ◌<◌}
use native.Mathlib.Omega.{arith}
use lib.ListN.{length, get_or, set, take, length-set}
use lib.Seq.{get_or-set_same, get_or-set_other}
use borrow.Author.Tests.{eq-eqb}
use Rattle.definition.specs.Basics.{every}
use Rattle.definition.specs.Shapes.{Entry, is_wide}
use Rattle.definition.specs.Job.{Reference}
use Rattle.definition.specs.Definitions.{Defined}
use Rattle.laws.specs.Statements.{IsBytes}
use Rattle.job.specs.Stored.{EntryStands, WhatEntry, is_worked, words_bytes}
use Rattle.store.specs.Store.{Store, size, put}
use Rattle.store.specs.JobIn.{namings_in, constants_in}
use Rattle.store.specs.Regions.{COUNTS, NAME-HEADS, RAW-HEADS, NAME-LINKS, RAW-LINKS, RECORDS, OFFSETS, FIRSTS, SIZES, GOALS, NAME-PLACES, RAW-KEYS, RAW-ENTRIES, VALUES, CONSTANT-COUNT, Work}
use Rattle.store.specs.Words.{number_bytes}
use Rattle.store.specs.Entries.{WordsAt}
use Rattle.store.proofs.Keeping.{kept_put, kept_then, kept_more}
use Rattle.definitions.specs.Kids.{Valued, counted, CanEnter, Enters}
use Rattle.std.specs.Prelude.{Ok}
use Rattle.definitions.specs.Defining.{Defining, place_count, defined_regions, SomePlace, Answer, Stepped}
use Rattle.definitions.proofs.Valued.{values_as}
use Rattle.definitions.proofs.Placed.{constant_needs, constant_done}
use Rattle.definitions.proofs.Steps.{SameEntries, SameNames, SameRaws, names_still, raws_still, entries-as, counters_as}

-- the two words are stored
module _ (s : List ℕ) (t : Store) (at tag high low first : ℕ) (is : WhatEntry s at (λ x. tag ≡ x.tag)) (words : WhatEntry s at (λ x. words_bytes x.tag high low ≡ x.literal))
    (lead : first ≡ cond (is_wide tag) high low) (room : at / 3 + 1 < length (t VALUES)) where
  bytes-are : WhatEntry s at (λ x. number_bytes x.tag first low ≡ x.literal)
  unfolding number_bytes words_bytes
  bytes-are x next f = ways (is_wide x.tag) refl
    where
      same : is_wide tag ≡ is_wide x.tag
      same = ap is_wide (is x next f)

      ways : (b : Bool) → is_wide x.tag ≡ b → number_bytes x.tag first low ≡ x.literal
      ways true w =
          let e : first ≡ high = lead ∙ rw (same ∙ w) in
          rw (w, number_bytes, e) (rw (w, words_bytes) at (words x next f))
      ways false w =
          let e : first ≡ low = lead ∙ rw (same ∙ w) in
          rw (w, number_bytes, e) (rw (w, words_bytes) at (words x next f))

  pub value-put : Valued s t (put (put t VALUES (at / 3) first) VALUES (at / 3 + 1) low) at
  value-put =
      record {
        words =
            λ w x next f.
            let a : get_or (set (set (t VALUES) (at / 3) first) (at / 3 + 1) low) (at / 3) 0 ≡ first =
            get_or-set_other (set (t VALUES) (at / 3) first) (at / 3 + 1) (at / 3) low 0 (λ q. omega arith) ∙ get_or-set_same (t VALUES) (at / 3) first 0 (omega arith)
            in
            let b : get_or (set (set (t VALUES) (at / 3) first) (at / 3 + 1) low) (at / 3 + 1) 0 ≡ low = get_or-set_same (set (t VALUES) (at / 3) first) (at / 3 + 1) low 0 (simp length-set (omega arith)) in
            rw (a, b) (bytes-are x next f);
        before = λ i l. get_or-set_other (set (t VALUES) (at / 3) first) (at / 3 + 1) i low 0 (λ q. omega arith) ∙ get_or-set_other (t VALUES) (at / 3) i first 0 (λ q. omega arith);
        kept = kept_put (VALUES ∷ []) t _ VALUES _ _ refl (kept_put (VALUES ∷ []) t t VALUES _ _ refl (λ k _. refl));
      }

-- nothing else is other than it was
module _ (p : List ℕ) (top : ℕ) (s : List ℕ) (t u : Store) (at : ℕ) (valued : Valued s t u at) where
  same-counter : (c : ℕ) → get_or (u COUNTS) c 0 ≡ get_or (t COUNTS) c 0
  same-counter c = ap (λ l. get_or l c 0) (valued.kept COUNTS refl)

  same_entries : SameEntries t u
  same_entries =
      record {
        records = valued.kept RECORDS refl;
        offsets = valued.kept OFFSETS refl;
        firsts = valued.kept FIRSTS refl;
        sizes = valued.kept SIZES refl;
        goals = valued.kept GOALS refl;
        constants = same-counter _;
        bootstraps = same-counter _;
        references = same-counter _;
      }

  same_names : SameNames t u
  same_names = record { places = valued.kept NAME-PLACES refl; heads = valued.kept NAME-HEADS refl; links = valued.kept NAME-LINKS refl; count = same-counter _ }

  same-raws : SameRaws t u
  same-raws =
      record {
        item_keys = valued.kept RAW-KEYS refl;
        entries = valued.kept RAW-ENTRIES refl;
        heads = valued.kept RAW-HEADS refl;
        links = valued.kept RAW-LINKS refl;
        count = same-counter _;
        held = same-counter _;
      }

  all_valued : (k : ℕ) (d : Defined) → Defining p top s t k at d → Defining p top s u k at d
  all_valued k d g =
      record {
        few = g.few;
        rest = g.rest;
        laid = g.laid;
        turn = g.turn;
        entries = entries-as s k t u same_entries g.entries;
        values = values_as s k t u at g.values same_entries.offsets valued.before;
        counters = counters_as s k t u same_entries g.counters;
        names = names_still (size p NAME-HEADS) s t u same_names g.names;
        named = same_names.count ∙ g.named;
        naming = g.naming ∙ ap (λ m. take m (namings_in s)) (sym same_names.count);
        raws = raws_still p (constants_in s) top d.held d.indexes t u same-raws g.raws;
        room = omega (arith, same-raws.count, g.room);
      }

  place_same : place_count u ≡ place_count t
  place_same = same-counter _

  pub value-place : SomePlace p top s t at → SomePlace p top s u at
  unfolding SomePlace
  value-place (d, (g, more)) = (d, (subst (λ m. Defining p top s u m at d) (sym place_same) (all_valued (place_count t) d g), omega (arith, place_same)))

  pub value-step : (v : Store) (r : Answer) → Stepped p top s u v r → Stepped p top s t v r
  unfolding every
  value-step v r step =
      record {
        through = λ n e. rw place_same at (step.through n e);
        refused = λ f e. rw place_same at (step.refused f e);
        place = step.place ∙ place_same;
        counters = λ c l. step.counters c l ∙ same-counter c;
        kept = kept_then defined_regions t u v (kept_more (VALUES ∷ []) defined_regions t u refl valued.kept) step.kept;
      }

-- A CONSTANT WORKED OUT is the record in turn
module _ (p : List ℕ) (top : ℕ) (s : List ℕ) (t : Store) (at : ℕ) (place : SomePlace p top s t at) (work : Work s p) (bytes : IsBytes s) (long : (k : ℕ) → length (t k) ≡ size p k)
    (byte : get_or s at 0 ≡ 0x46) where
  no : (k : ℕ) → (k ≡ 0x46 → ⊥) → get_or s at 0 ≡ k → ⊥
  no k n e = n (sym e ∙ byte)

  pub worked-needs : (x : Entry (List ℕ) Reference) × (next : ℕ) × CanEnter s t at (0 + get_or (t COUNTS) CONSTANT-COUNT 0) x next
  worked-needs =
      constant_needs p top s t at place work bytes long (no 0x41 (λ e. omega arith)) (no 0x42 (λ e. omega arith)) (no 0x43 (λ e. omega arith)) (no 0x44 (λ e. omega arith))
      (no 0x47 (λ e. omega arith)) (no 0x48 (λ e. omega arith)) (no 0x49 (λ e. omega arith)) (no 0x40 (λ e. omega arith))

  pub worked-here : EntryStands s at × (is_worked s at ≡ true)
  worked-here = let n = worked-needs in ((n.0, n.1, n.2.stands), eq-eqb (get_or s at 0) 0x46 byte)

  pub worked-done :
      (u : Store) (res : ℕ) →
      ((x : Entry (List ℕ) Reference) (next : ℕ) → CanEnter s t at (0 + get_or (t COUNTS) CONSTANT-COUNT 0) x next → Enters s (counted t CONSTANT-COUNT) u at (0 + get_or (t COUNTS) CONSTANT-COUNT 0) res x next) →
      WordsAt s (t VALUES) at → Stepped p top s t u (Ok res)
  worked-done =
      constant_done p top s t at place work bytes long (no 0x41 (λ e. omega arith)) (no 0x42 (λ e. omega arith)) (no 0x43 (λ e. omega arith)) (no 0x44 (λ e. omega arith))
      (no 0x47 (λ e. omega arith)) (no 0x48 (λ e. omega arith)) (no 0x49 (λ e. omega arith)) (no 0x40 (λ e. omega arith))
