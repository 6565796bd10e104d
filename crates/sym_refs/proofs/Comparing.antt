-- A naming's record compared with a first byte and a name at a place. Assumes nothing.
use mathlib.Core.Bool.{Bool, false}
use mathlib.Core.List.{List}
use mathlib.Core.Path.{◌≡◌, refl, sym, ap, ◌∙◌}
use Prim.Native.Nat.{ℕ, ◌+◌, ◌-◌, ◌≤◌, ◌<◌}
use native.Mathlib.Omega.{arith}
use lib.ListN.{length, get_or, take, drop, length-drop}
use lib.Seq.{length-take-le}
use Rattle.definition.specs.Basics.{same}
use Rattle.definition.specs.Job.{short_name}
use Rattle.definition.specs.Definitions.{Naming}
use Rattle.facts.proofs.Lists.{same_true, same_refl}
use Rattle.job.specs.Stored.{Stands}
use Rattle.store.specs.Words.{label_at}
use Rattle.interner.proofs.Runs.{run_length}
use Rattle.store.proofs.Walking.{both}
use Rattle.sym_refs.specs.Names.{kind_byte, NamingAt}
use Rattle.sym_refs.specs.Leading.{Decides}
use Rattle.sym_refs.proofs.Wording.{label_there, label_is}
use Rattle.sym_refs.proofs.Namings.{NamingThere, naming_there}

-- a name has room
pub name_room : (s : List ℕ) (at : ℕ) → Stands short_name s at → (at < length s) × (at + 1 + get_or s at 0 ≤ length s)
name_room s at (l, next, f) = let t = label_there s at l next f in (t.1, omega (arith, t.2, t.3))

-- a part of so many bytes
pub part_size : (from n : ℕ) → from + n - from ≡ n
part_size from n = omega arith

pub part_long : (s : List ℕ) (at : ℕ) → Stands short_name s at → length (take (at + 1 + get_or s at 0 - (at + 1)) (drop (at + 1) s)) ≡ get_or s at 0
part_long s at stands = let r = name_room s at stands in rw (part_size (at + 1) (get_or s at 0)) (run_length s (at + 1) (get_or s at 0) r.1)

pub naming_room : (s : List ℕ) (naming : ℕ) → ((x : Naming) × NamingAt s naming x) → (naming + 1 < length s) × (naming + 2 + get_or s (naming + 1) 0 ≤ length s)
naming_room s naming (x, here) =
    let g = naming_there s naming x here in
    let t = label_there s (naming + 1) x.label g.mid g.label in
    (t.1, omega (arith, t.2, t.3))

label_length : (s : List ℕ) (at : ℕ) → at + 1 + get_or s at 0 ≤ length s → length (label_at s at) ≡ get_or s at 0
label_length s at h = rw (label_is s at) (length-take-le (get_or s at 0) (drop (at + 1) s) (omega (arith, length-drop (at + 1) s)))

module _ (s : List ℕ) (naming at first : ℕ) (stands : Stands short_name s at) (x : Naming) (here : NamingAt s naming x) where
  abbrev Same : Type 0
  Same = (kind_byte x.kind ≡ first) × (x.label ≡ label_at s at)

  there : NamingThere s naming x
  there = naming_there s naming x here

  label : label_at s (naming + 1) ≡ x.label
  label = (label_there s (naming + 1) x.label there.mid there.label).0

  pub other_kind : (get_or s naming 0 ≡ first → ⊥) → Decides false Same
  other_kind f = record { yes = λ z. absurd (both z refl); no = λ _ z. f (there.first ∙ z.0) }

  pub other_size : (get_or s (naming + 1) 0 ≡ get_or s at 0 → ⊥) → Decides false Same
  other_size f =
      record {
        yes = λ z. absurd (both z refl);
        no =
            λ _ z.
            f
            (sym (label_length s (naming + 1) (omega (arith, (naming_room s naming (x, here)).1)))
            ∙ ap length (label ∙ z.1)
            ∙ label_length s at (name_room s at stands).1);
      }

  pub same_size :
      get_or s naming 0 ≡ first → get_or s (naming + 1) 0 ≡ get_or s at 0 → (r : Bool) →
      r ≡ same (take (get_or s at 0) (drop (naming + 2) s)) (take (get_or s at 0) (drop (at + 1) s)) →
      Decides r Same
  same_size k e r is =
      let place : naming + 1 + 1 ≡ naming + 2 = omega arith in
      let mine : take (get_or s at 0) (drop (naming + 2) s) ≡ x.label =
      ap (λ (n : ℕ). take n (drop (naming + 2) s)) (sym e) ∙ ap (λ (n : ℕ). take (get_or s (naming + 1) 0) (drop n s)) (sym place) ∙ sym (label_is s (naming + 1)) ∙ label in
      let told : r ≡ same x.label (label_at s at) = rw (← mine, label_is s at) is in
      record {
        yes = λ z. (sym there.first ∙ k, same_true x.label (label_at s at) (sym told ∙ z));
        no = λ z q. both (told ∙ ap (λ (l : List ℕ). same l (label_at s at)) q.1 ∙ same_refl (label_at s at)) z;
      }
