-- The entry at a place is added: its words, and its references' words. Assumes nothing.
use mathlib.Core.List.{List, [], ◌∷◌}
use mathlib.Core.Path.{◌≡◌, refl, ◌∙◌}
use Prim.Native.Nat.{ℕ, ◌+◌, ◌<◌}
use native.Mathlib.Omega.{arith}
use lib.ListN.{length, get_or}
use lib.Seq.{get_or-set_other}
use Rattle.definition.specs.Basics.{every}
use Rattle.definition.specs.Shapes.{Entry}
use Rattle.definition.specs.Job.{Reference}
use Rattle.store.specs.Store.{Store, put, Kept}
use Rattle.store.specs.Regions.{COUNTS, RECORDS, OFFSETS, FIRSTS, SIZES, GOALS, REFERENCE-COUNT}
use Rattle.store.proofs.Keeping.{kept_put, kept_then, kept_more}
use Rattle.definitions.specs.Kids.{entry_put, counted, HasKids, ReadsAll, CanEnter, Enters}

-- an entry's words, and so many references more
abbrev pub with_entry : Store → ℕ → ℕ → ℕ → Store
with_entry t e at n = put (entry_put t e at n) COUNTS REFERENCE-COUNT (get_or (t COUNTS) REFERENCE-COUNT 0 + n)

abbrev entry_regions : List ℕ
entry_regions = COUNTS ∷ RECORDS ∷ OFFSETS ∷ FIRSTS ∷ SIZES ∷ GOALS ∷ []

module _ (s : List ℕ) (t : Store) (at e n : ℕ) where
  entry_kept : Kept entry_regions t (with_entry t e at n)
  entry_kept =
      kept_put entry_regions t _ COUNTS _ _ refl
      (kept_put entry_regions t _ SIZES _ _ refl
      (kept_put entry_regions t _ FIRSTS _ _ refl (kept_put entry_regions t _ OFFSETS _ _ refl (kept_put entry_regions t _ RECORDS _ _ refl (λ k _. refl)))))

  module _ (x : Entry (List ℕ) Reference) (next : ℕ) (can : CanEnter s t at e x next) (count : n ≡ length x.kids) where
    pub has_kids : HasKids s at n x next
    has_kids = record { stands = can.stands; cited = can.cited; count = count }

    pub enters_none : (r : ℕ) → n ≡ 0 → r ≡ next → Enters s t (with_entry t e at n) at e r x next
    enters_none r bare end =
        record {
          end = end;
          counts = rw count;
          records = refl;
          offsets = refl;
          firsts = refl;
          sizes = rw count;
          goals = record { words = λ i a l. absurd (omega arith); below = λ j l. refl };
          kept = entry_kept;
        }

    pub enters_kids : (u : Store) (r : ℕ) → ReadsAll s (with_entry t e at n) u at n (get_or (t COUNTS) REFERENCE-COUNT 0) r → Enters s t u at e r x next
    unfolding every
    enters_kids u r read =
        let g = read.all x next has_kids in
        record {
          end = g.0;
          counts = read.kept COUNTS refl ∙ rw count;
          records = read.kept RECORDS refl;
          offsets = read.kept OFFSETS refl;
          firsts = read.kept FIRSTS refl;
          sizes = read.kept SIZES refl ∙ rw count;
          goals = rw count at g.1;
          kept = kept_then entry_regions t (with_entry t e at n) u entry_kept (kept_more (GOALS ∷ []) entry_regions (with_entry t e at n) u refl read.kept);
        }

-- counting an entry changes no count of references
pub can_counted :
    (s : List ℕ) (t : Store) (c at e : ℕ) (x : Entry (List ℕ) Reference) (next : ℕ) → 1 < c → c < 4 → CanEnter s t at e x next →
    CanEnter s (counted t c) at e x next
can_counted s t c at e x next low high can =
    record {
      stands = can.stands;
      cited = can.cited;
      low = can.low;
      room = rw (get_or-set_other (t COUNTS) c REFERENCE-COUNT (get_or (t COUNTS) c 0 + 1) 0 (λ q. omega arith)) can.room;
    }
