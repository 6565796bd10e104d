-- What write_class answers and leaves in its output, step by step. Assumes nothing.
use mathlib.Core.List.{List, ◌++◌}
use mathlib.Core.Path.{◌≡◌, refl, sym, ap, ◌∙◌}
use Prim.Native.Nat.{ℕ, zero, suc, ◌+◌, ◌<◌, ◌≤◌}
use native.Mathlib.Nat.{zero-add}
use native.Mathlib.Omega.{arith}
use lib.ListN.{length, take, drop}
use lib.Seq.{take-length}
use Rattle.definition.specs.Run.{overwrite}
use Rattle.jvms.specs.Written.{bytes2}
use Rattle.raw_const.specs.Entries.{Wrote}
use Rattle.std.specs.Prelude as code
use Rattle.std.specs.Prelude.{Ok, Err}
use Rattle.definition.specs.Basics.{good}
use Rattle.refusal.specs.declared.Refusal.{Refusal}
use Rattle.refusal.specs.declared.Refusal.TheVariants.{NotClassFile, OutputTooShort}
use Rattle.refusal.specs.Numbers.{number, answer_of}
use Rattle.class_file.specs.ClassFile.{Parts, class_bytes, write_class, read_class}
use Rattle.class_file.specs.Answers.{parts_from, attributes_of, frame_size, Right, length_of, out_after}
use Rattle.laws.specs.Statements.{IsBytes}
use Rattle.laws.proofs.Reading.ReadIsSpelled.{all_bytes}
use Rattle.class_file.proofs.Sound.{sound_proper, proper-sound, nameless}
use Rattle.class_file.proofs.Pieces.{attributes-none, length-one, length-file, frame_none, frame_some}
use Rattle.class_file.proofs.BothWays.{written-27, written-18, written-good, exact}

module _ (minor major : ℕ) (pool : List ℕ) (flags this super name count : ℕ) (bootstraps : List ℕ) where
  abbrev parts : Parts
  parts = parts_from minor major pool flags this super name count bootstraps

  pub proper-size : Right pool name count bootstraps → length (class_bytes parts) ≡ frame_size name + length pool + length bootstraps
  unfolding bytes2
  proper-size right = go name refl
    where
      size : length (class_bytes parts) ≡ 20 + length pool + length (attributes_of name count bootstraps)
      size = length-file minor major pool flags this super name count bootstraps

      go : (n : ℕ) → name ≡ n → length (class_bytes parts) ≡ frame_size name + length pool + length bootstraps
      go zero e =
          omega (
            arith,
            size,
            ap length (attributes-none name count bootstraps e),
            frame_none name e,
            ap length (nameless parts right e).1,
          )
      go (suc n) e =
          let there : 0 < name = omega arith in
          omega (arith, size, length-one name count bootstraps there, frame_some name there)

  module _ (before : List ℕ) where
    abbrev Answers : code.Result ℕ Refusal → List ℕ → Type 0
    Answers r after = (answer_of r ≡ length_of (write_class (length before) parts)) × (after ≡ out_after (write_class (length before) parts) before)

    pub refused_27 : (Right pool name count bootstraps → ⊥) → Answers (Err NotClassFile) before
    unfolding number answer_of
    refused_27 wrong =
        let e = written-27 (length before) parts wrong in
        (sym (ap length_of e), sym (ap (λ x. out_after x before) e))

    pub refused_18 : Right pool name count bootstraps → length before < frame_size name + length pool + length bootstraps → Answers (Err OutputTooShort) before
    unfolding number answer_of
    refused_18 right short =
        let e = written-18 (length before) parts right (omega (arith, proper-size right)) in
        (sym (ap length_of e), sym (ap (λ x. out_after x before) e))

    pub was_written :
        Right pool name count bootstraps → frame_size name + length pool + length bootstraps ≤ length before →
        (after : List ℕ) (r : ℕ) → Wrote before 0 (class_bytes parts) after r → Answers (Ok r) after
    unfolding overwrite answer_of
    was_written right room after r wrote =
        let e = written-good (length before) parts (sound_proper parts right) (omega (arith, proper-size right)) in
        let file = class_bytes parts in
        let answer = ap good (wrote.next ∙ zero-add (length file)) in
        let left : after ≡ overwrite file before =
        wrote.out ∙ ap (λ k. take (length file) file ++ drop k before) (zero-add (length file)) ∙ ap (λ l. l ++ drop (length file) before) (take-length file) in
        (answer ∙ sym (ap length_of e), left ∙ sym (ap (λ x. out_after x before) e))

-- the parts of a file stand in it one behind the other
least_frame : (name : ℕ) → 22 ≤ frame_size name
least_frame zero = omega arith
least_frame (suc n) = omega arith

pub parts-inside : (file : List ℕ) → IsBytes file → (p : Parts) → read_class file ≡ good p → 8 + length p.pool + length p.bootstraps ≤ length file
parts-inside file are p read =
    let (fits, ok, is) = (exact file p (all_bytes file are)).0 read in
    let size = proper-size p.minor_version p.major_version p.pool p.access_flags p.this_class p.super_class p.name p.count p.bootstraps (proper-sound p ok) in
    omega (arith, least_frame p.name, size, ap length is)
