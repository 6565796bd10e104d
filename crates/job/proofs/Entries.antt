-- Skipping an entry does as the definition's reader of its fields. Assumes nothing.
use mathlib.Core.Bool.{Bool, true, ◌&&◌, and-true}
use mathlib.Core.List.{List, [], ◌∷◌}
use mathlib.Core.Option.{none}
use mathlib.Core.Path.{◌≡◌, refl, sym}
use Rattle.std.specs.Prelude as std
use Rattle.std.specs.Prelude.{Some, None}
use Prim.Native.Nat.{ℕ, ◌+◌, ◌-◌, ◌≤◌, ◌<◌}
use native.Mathlib.Numerals.{add-one}
use native.Mathlib.Omega.{arith}
use lib.ListN.{length, get_or, drop}
use Rattle.definition.specs.Basics.{every}
use Rattle.definition.specs.Bytes.{return, ◌>>=◌, one, many}
use Rattle.definition.specs.Shapes.{Kind, constant, Field, text, bits, byte, to, bootstrap_shape, with_kids, with_literal, with_byte, read_fields, read_entry}
use Rattle.definition.specs.Job.{reference}
use Rattle.definition.specs.Form.{Counts, count_of, cites}
use Rattle.job.specs.declared.Skipped.{Skipped}
use Rattle.job.specs.Forms.{Read, Skips, SkipsReference, SkipsEntry}
use Rattle.job.proofs.Laws.{number, two_at, two-cut, then_one, none-one, then_two, mapped}

-- a reference that is skipped takes a byte or more, and ends within the job
pub reference-bounds :
    (entries : ℕ) (s : List ℕ) (at : ℕ) (r : Skipped) →
    SkipsReference entries s at (Some r) →
    (at < r.next) × (r.next ≤ length s)
unfolding count_of
reference-bounds entries s at r h =
    let v = h constant (record { constants = entries; bootstraps = 0; records = 0; versions = 0; texts = 0; broken = none }) refl in
    (omega arith, v.within)

pub several_bounds :
    (entries count : ℕ) (s : List ℕ) (at : ℕ) (r : Skipped) →
    ((c : Counts) → c.constants ≡ entries → Skips (many count (reference constant)) (every (cites c)) length s at (Some r)) →
    (at + r.references ≤ r.next) × (r.next ≤ length s)
several_bounds entries count s at r h =
    let v = h (record { constants = entries; bootstraps = 0; records = 0; versions = 0; texts = 0; broken = none }) refl in
    (v.past, v.within)

module _ (n : Counts) (s : List ℕ) (at : ℕ) where
  -- ---- an entry of one field

  pub text_to : (r : std.Option Skipped) → at + 2 ≤ length s → Skips (many (number s at) one) (λ _. true) (λ _. 0) s (at + 2) r → SkipsEntry n (text ∷ []) s at r
  unfolding read_entry read_fields with_literal every
  text_to r h v =
      λ tag.
      then_two (λ e. every (cites n) e.kids) (λ e. length e.kids) s at
      (λ size. many size one >>= λ l. return (record { tag = tag; literal = l; byte = 0; kids = [] }))
      r
      h
      (mapped (many (number s at) one) (λ l. record { tag = tag; literal = l; byte = 0; kids = [] }) (λ _. true) (λ _. 0) (λ e. every (cites n) e.kids) (λ e. length e.kids) s (at + 2) r (λ l. refl) (λ l. refl) v)

  pub text_cut : length s - at < 2 → SkipsEntry n (text ∷ []) s at None
  unfolding read_entry read_fields
  text_cut h = λ tag. rw (two-cut s at h)

  pub bits-to : (size : ℕ) (r : std.Option Skipped) → Skips (many size one) (λ _. true) (λ _. 0) s at r → SkipsEntry n (bits size ∷ []) s at r
  unfolding read_entry read_fields with_literal every
  bits-to size r v =
      λ tag.
      mapped (many size one) (λ l. record { tag = tag; literal = l; byte = 0; kids = [] }) (λ _. true) (λ _. 0) (λ e. every (cites n) e.kids) (λ e. length e.kids) s at r (λ l. refl) (λ l. refl) v

  pub one-to : (kind : Kind) (r : std.Option Skipped) → Skips (reference kind) (cites n) (λ _. 1) s at r → SkipsEntry n (to kind ∷ []) s at r
  unfolding read_entry read_fields with_kids every
  one-to kind r v =
      λ tag.
      mapped (reference kind) (λ a. record { tag = tag; literal = []; byte = 0; kids = a ∷ [] }) (cites n) (λ _. 1) (λ e. every (cites n) e.kids) (λ e. length e.kids) s at r (λ a. sym (and-true (cites n a))) (λ a. refl) v

  -- ---- a method handle

  pub handle_to : (r : std.Option Skipped) → at < length s → Skips (reference constant) (cites n) (λ _. 1) s (at + 1) r → SkipsEntry n (byte ∷ to constant ∷ []) s at r
  unfolding read_entry read_fields with_kids with_byte every
  handle_to r h v =
      λ tag.
      then_one (λ e. every (cites n) e.kids) (λ e. length e.kids) s at
      (λ b. reference constant >>= λ a. return (record { tag = tag; literal = []; byte = b; kids = a ∷ [] }))
      r
      h
      (mapped (reference constant) (λ a. record { tag = tag; literal = []; byte = get_or s at 0; kids = a ∷ [] }) (cites n) (λ _. 1) (λ e. every (cites n) e.kids) (λ e. length e.kids) s (at + 1) r (λ a. sym (and-true (cites n a))) (λ a. refl) v)

  pub handle_cut : length s ≤ at → SkipsEntry n (byte ∷ to constant ∷ []) s at None
  unfolding read_entry read_fields
  handle_cut h = λ tag. none-one (λ e. every (cites n) e.kids) (λ e. length e.kids) s at (λ b. read_fields reference (to constant ∷ []) (with_byte b (record { tag = tag; literal = []; byte = 0; kids = [] }))) h

  -- ---- a reference, and what follows it

  pub to_cut : (kind : Kind) (fields : List Field) → reference kind (drop at s) ≡ none → SkipsEntry n (to kind ∷ fields) s at None
  unfolding read_entry read_fields
  to_cut kind fields h = λ tag. rw h

  -- two references
  module _ (k l : Kind) (next : ℕ) (cited : Bool) (references : ℕ) (first : Read (reference k) (cites n) (λ _. 1) s at next cited references) where
    pub pair_to :
        (end : ℕ) (cited₂ : Bool) (references₂ : ℕ) →
        Read (reference l) (cites n) (λ _. 1) s next end cited₂ references₂ →
        SkipsEntry n (to k ∷ to l ∷ []) s at (Some (record { next = end; cited = (cited && cited₂); references = 2 }))
    unfolding read_entry read_fields with_kids every
    pair_to end cited₂ references₂ v =
        λ tag.
        record {
          value = record { tag = tag; literal = []; byte = 0; kids = first.value ∷ v.value ∷ [] };
          read = rw (first.read, v.read);
          past = omega (arith, first.past, first.count, v.past, v.count);
          within = v.within;
          cites = rw (first.cites, v.cites, and-true);
          count = refl;
        }

    pub pair_cut : reference l (drop next s) ≡ none → SkipsEntry n (to k ∷ to l ∷ []) s at None
    unfolding read_entry read_fields
    pair_cut h = λ tag. rw (first.read, h)

  -- a handle's reference, a count, and as many references
  module _ (next : ℕ) (cited : Bool) (references : ℕ) (first : Read (reference constant) (cites n) (λ _. 1) s at next cited references) where
    pub bootstrap_to :
        (end : ℕ) (cited₂ : Bool) (references₂ : ℕ) →
        next + 2 ≤ length s →
        Read (many (number s next) (reference constant)) (every (cites n)) length s (next + 2) end cited₂ references₂ →
        SkipsEntry n bootstrap_shape s at (Some (record { next = end; cited = (cited && cited₂); references = (references₂ + 1) }))
    unfolding read_entry read_fields bootstrap_shape with_kids every
    bootstrap_to end cited₂ references₂ h v =
        λ tag.
        record {
          value = record { tag = tag; literal = []; byte = 0; kids = first.value ∷ v.value };
          read = rw (first.read, two_at s next h, v.read);
          past = omega (arith, first.past, first.count, v.past);
          within = v.within;
          cites = rw (first.cites, v.cites);
          count = rw (add-one, v.count);
        }

    pub bootstrap_cut : length s - next < 2 → SkipsEntry n bootstrap_shape s at None
    unfolding read_entry read_fields bootstrap_shape
    bootstrap_cut h = λ tag. rw (first.read, two-cut s next h)

    pub arguments-cut : next + 2 ≤ length s → many (number s next) (reference constant) (drop (next + 2) s) ≡ none → SkipsEntry n bootstrap_shape s at None
    unfolding read_entry read_fields bootstrap_shape
    arguments-cut h cut = λ tag. rw (first.read, two_at s next h, cut)
