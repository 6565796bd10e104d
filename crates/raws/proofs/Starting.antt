-- The table before any raw definition, and the room for it in the work of a job. Assumes nothing.
use mathlib.Core.List.{List, []}
use mathlib.Core.Path.{◌≡◌, refl}
use Prim.Native.Nat.{ℕ, ◌<◌}
use native.Mathlib.Omega.{arith}
use lib.ListN.{get_or}
use Rattle.definition.specs.Basics.{lookup}
use Rattle.job.specs.declared.JobCounts.{JobCounts}
use Rattle.facts.proofs.Lists.{none≢some}
use Rattle.store.specs.Store.{Store, size}
use Rattle.store.specs.Regions.{RAW-HEADS, raws_of}
use Rattle.store.proofs.Laying.{Sizes}
use Rattle.raws.specs.Raws.{Raws, RawsIn, raw_count, held_count, RawRoom}

-- no item, where the heads are zeros
no_raws :
    (h constants top : ℕ) (item_keys entries heads links : List ℕ) → top < 65535 → ((k : ℕ) → get_or heads k 0 ≡ 0) →
    Raws h constants top [] [] item_keys entries heads links 0 0
unfolding lookup
no_raws h constants top item_keys entries heads links few zeros =
    record {
      few = few;
      chains = record { first = λ k l. zeros k; next = λ i l. absurd (omega arith) };
      unlike = λ i j a b. absurd (omega arith);
      items = λ i l. absurd (omega arith);
      slots = λ k x e. none≢some e;
      rows = λ k x e. none≢some e;
      held_rise = tt;
      indexes_rise = tt;
      counted = refl;
      held_counted = refl;
    }

pub raws_begin :
    (p : List ℕ) (constants top : ℕ) (t : Store) → top < 65535 → ((k : ℕ) → get_or (t RAW-HEADS) k 0 ≡ 0) → raw_count t ≡ 0 → held_count t ≡ 0 →
    RawsIn p constants top [] [] t
raws_begin p constants top t few zeros n m = rw (n, m) (no_raws (size p RAW-HEADS) constants top _ _ _ _ few zeros)

-- the work of a job has room for its raw definitions
pub raw_room_lem : (p : List ℕ) (c : JobCounts) {bytes : ℕ} → Sizes p c bytes → raws_of c < 4294967294 → RawRoom p
raw_room_lem p c s few =
    record {
      counts = omega (arith, s.counts);
      heads = record { real = omega arith; two = omega (arith, s.raw_heads_lem); few = omega (arith, s.raw_heads_lem) };
      few = omega (arith, s.raw_keys);
      entries = omega (arith, s.raw_keys, s.raw_entries);
      links = omega (arith, s.raw_keys, s.raw_links);
      order = omega (arith, s.raw_keys, s.order);
    }
