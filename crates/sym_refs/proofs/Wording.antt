-- What the words of references and goals tell, and where a reference that is no name leads. Assumes nothing.
use mathlib.Core.List.{List}
use mathlib.Core.Logic.{inl, inr, ⊎_elim}
use mathlib.Core.Path.{◌≡◌, refl, sym, ap, ◌∙◌}
use Prim.Native.Nat.{ℕ, zero, suc, ◌+◌, ◌-◌, ◌≤◌, ◌<◌}
use native.Mathlib.Omega.{arith}
use lib.ListN.{length, get_or, take, drop}
use borrow.Author.Tests.{lt-ltb, le-ltb}
use Rattle.definition.specs.Shapes.{Kind, constant, bootstrap}
use Rattle.definition.specs.Job.{raw, entry, name, short_name}
use Rattle.definition.specs.Definitions.{Naming}
use Rattle.definition.specs.Resolving.{raw_number, table_entry, refusal, place_of, follow}
use Rattle.job.specs.Stored.{Found, Stands}
use Rattle.job.proofs.Standing.{name_there}
use Rattle.store.specs.Words.{ENTRY, SYM, BOOTSTRAP-SYM, REFUSED, label_at, reference_word, IsReference, goal_word}
use Rattle.store.proofs.Goals.{goal_raw, goal_entry}
use Rattle.facts.proofs.Lists.{order}

-- the name that stands at a place is the label there
pub label_there : (s : List ℕ) (at : ℕ) (l : List ℕ) (next : ℕ) → Found short_name s at l next → (label_at s at ≡ l) × (at < length s) × (at + 1 + get_or s at 0 ≡ next) × (next ≤ length s)
unfolding label_at
label_there s at l next f =
    let t = name_there s at l next f in
    let size : at + 1 + get_or s at 0 - (at + 1) ≡ get_or s at 0 = omega arith in
    (rw size at t.1.are, t.0, t.2, f.within)

-- so many bytes as its length byte says
pub label_is : (s : List ℕ) (at : ℕ) → label_at s at ≡ take (get_or s at 0) (drop (at + 1) s)
unfolding label_at
label_is s at = refl

module _ (s : List ℕ) (c x : ℕ) where
  pub ref_raw : x < ENTRY → reference_word s c x ≡ raw x
  unfolding reference_word
  ref_raw h = rw (lt-ltb x ENTRY h, reference_word)

  pub ref_constant : ENTRY ≤ x → x < ENTRY + c → reference_word s c x ≡ entry constant (x - ENTRY)
  unfolding reference_word
  ref_constant h l = rw (le-ltb x ENTRY h, reference_word) (rw (lt-ltb x (ENTRY + c) l))

  pub ref_bootstrap : ENTRY + c ≤ x → x < SYM → reference_word s c x ≡ entry bootstrap (x - (ENTRY + c))
  unfolding reference_word
  ref_bootstrap h l =
      let k : ENTRY ≤ x = omega arith in
      rw (le-ltb x ENTRY k, reference_word) (rw (le-ltb x (ENTRY + c) h) (rw (lt-ltb x SYM l)))

  module _ (few : ENTRY + c ≤ SYM) where
    pub ref_name : SYM ≤ x → x < BOOTSTRAP-SYM → reference_word s c x ≡ name constant (label_at s (x - SYM))
    unfolding reference_word
    ref_name h l =
        let k : ENTRY ≤ x = omega arith in
        let j : ENTRY + c ≤ x = omega arith in
        rw (le-ltb x ENTRY k, reference_word) (rw (le-ltb x (ENTRY + c) j) (rw (le-ltb x SYM h) (rw (lt-ltb x BOOTSTRAP-SYM l))))

    pub ref_bootstrap_name : BOOTSTRAP-SYM ≤ x → reference_word s c x ≡ name bootstrap (label_at s (x - BOOTSTRAP-SYM))
    unfolding reference_word
    ref_bootstrap_name h =
        let k : ENTRY ≤ x = omega arith in
        let j : ENTRY + c ≤ x = omega arith in
        let i : SYM ≤ x = omega arith in
        rw (le-ltb x ENTRY k, reference_word) (rw (le-ltb x (ENTRY + c) j) (rw (le-ltb x SYM i) (rw (le-ltb x BOOTSTRAP-SYM h))))

pub goal_12 : goal_word (REFUSED + 12) ≡ refusal 12
unfolding goal_word
goal_12 = refl

pub goal_13 : goal_word (REFUSED + 13) ≡ refusal 13
unfolding goal_word
goal_13 = refl

module _ (names : List Naming) (c : ℕ) where
  follow-raw : (m n : ℕ) → follow m names c (raw n) ≡ raw_number n
  unfolding follow
  follow-raw zero n = refl
  follow-raw (suc m) n = refl

  follow-entry : (m : ℕ) (kind : Kind) (n : ℕ) → follow m names c (entry kind n) ≡ table_entry (place_of c kind n)
  unfolding follow
  follow-entry zero kind n = refl
  follow-entry (suc m) kind n = refl

  -- a word below SYM leads to itself in any number of steps
  pub follow-low : (s : List ℕ) (m x : ℕ) → x < SYM → follow m names c (reference_word s c x) ≡ goal_word x
  unfolding place_of
  follow-low s m x h =
      ⊎_elim
      (λ (l : x < ENTRY). ap (follow m names c) (ref_raw s c x l) ∙ follow-raw m x ∙ sym (goal_raw x l))
      (λ (l : ENTRY ≤ x).
      ⊎_elim
      (λ (k : x < ENTRY + c).
      ap (follow m names c) (ref_constant s c x l k) ∙ follow-entry m constant (x - ENTRY) ∙ sym (goal_entry x l (omega arith)))
      (λ (k : ENTRY + c ≤ x).
      let e : c + (x - (ENTRY + c)) ≡ x - ENTRY = omega arith in
      ap (follow m names c) (ref_bootstrap s c x k h) ∙ follow-entry m bootstrap (x - (ENTRY + c)) ∙ ap table_entry e ∙ sym (goal_entry x l (omega arith)))
      (order x (ENTRY + c)))
      (order x ENTRY)

-- a reference's word that is no name's is an entry's or a raw number
pub low_word : (s : List ℕ) (entries x : ℕ) → IsReference s entries x → x < SYM → x < ENTRY + entries
low_word s entries x (inl h) l = h
low_word s entries x (inr (inl h)) l = absurd (omega arith)
low_word s entries x (inr (inr h)) l = absurd (omega arith)

-- the name of one that is stands where it tells
pub name_stands_at : (s : List ℕ) (entries x : ℕ) → IsReference s entries x → ENTRY + entries ≤ SYM → SYM ≤ x → x < BOOTSTRAP-SYM → Stands short_name s (x - SYM)
name_stands_at s entries x (inl h) few l k = absurd (omega arith)
name_stands_at s entries x (inr (inl h)) few l k = h.2
name_stands_at s entries x (inr (inr h)) few l k = absurd (omega arith)

pub bootstrap_stands_at : (s : List ℕ) (entries x : ℕ) → IsReference s entries x → ENTRY + entries ≤ SYM → BOOTSTRAP-SYM ≤ x → Stands short_name s (x - BOOTSTRAP-SYM)
bootstrap_stands_at s entries x (inl h) few l = absurd (omega arith)
bootstrap_stands_at s entries x (inr (inl h)) few l = absurd (omega arith)
bootstrap_stands_at s entries x (inr (inr h)) few l = h.1
