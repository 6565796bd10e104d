-- Skipping a part of a record does as the definition's reader of that part. Assumes nothing.
use mathlib.Core.Bool.{Bool, true, false}
use mathlib.Core.List.{List, [], ◌∷◌}
use mathlib.Core.Option.{none, some}
use mathlib.Core.Path.{◌≡◌, refl, ◌∙◌}
use Rattle.std.specs.Prelude as std
use Rattle.std.specs.Prelude.{Some, None}
use Prim.Native.Nat.{ℕ, zero, suc, ◌+◌, ◌*◌, ◌-◌, ◌≤◌, ◌<◌}
use native.Mathlib.Numerals.{add-one}
use native.Mathlib.Omega.{arith}
use lib.Dec.{ltb}
use lib.ListN.{length, get_or, take, drop, length-drop, drop_of_length-le}
use lib.Seq.{drop-cons, drop-drop}
use borrow.Author.Tests.{ltb-true, ltb-false}
use Rattle.definition.specs.Bytes.{Parser, return, ◌>>=◌, one, two, many}
use Rattle.definition.specs.Shapes.{Kind}
use Rattle.definition.specs.Job.{raw, entry, name, short_name, reference_form, reference}
use Rattle.definition.specs.Form.{Counts, count_of, cites}
use Rattle.job.specs.declared.Skipped.{Skipped}
use Rattle.job.specs.Forms.{Read, Skips, bare}

-- as many bytes as are there
pub many-reads : (n : ℕ) (l : List ℕ) → n ≤ length l → many n one l ≡ some (take n l, drop n l)
unfolding many one
many-reads zero l h = refl
many-reads (suc n) [] h = absurd (omega arith)
many-reads (suc n) (x ∷ l) h = rw (many-reads n l (omega arith))

pub many-cut : (n : ℕ) (l : List ℕ) → length l < n → many n one l ≡ none
unfolding many one
many-cut zero l h = absurd (omega arith)
many-cut (suc n) [] h = refl
many-cut (suc n) (x ∷ l) h = rw (many-cut n l (omega arith))

-- the number in two bytes at a place
abbrev pub number : List ℕ → ℕ → ℕ
number s at = 256 * get_or s at 0 + get_or s (at + 1) 0

module _ (s : List ℕ) (at : ℕ) where
  -- ---- one byte, and two, at a place

  pub one_at : at < length s → one (drop at s) ≡ some (get_or s at 0, drop (at + 1) s)
  unfolding one
  one_at h = rw (add-one, drop-cons s at 0 h)

  pub one-cut : length s ≤ at → one (drop at s) ≡ none
  unfolding one
  one-cut h = rw (drop_of_length-le s h)

  -- ---- bytes

  pub skips_bytes : (n : ℕ) → at ≤ length s → n ≤ length s - at → Skips (many n one) (λ _. true) (λ _. 0) s at (Some (bare (at + n)))
  skips_bytes n low h =
      record {
        value = take n (drop at s);
        read = many-reads n (drop at s) (simp length-drop (omega arith)) ∙ rw (drop-drop n at s);
        past = omega arith;
        within = omega arith;
        cites = refl;
        count = refl;
      }

  pub cuts_bytes : (n : ℕ) → length s - at < n → Skips (many n one) (λ _. true) (λ _. 0) s at None
  cuts_bytes n h = many-cut n (drop at s) (simp length-drop (omega arith))

pub two_at : (s : List ℕ) (at : ℕ) → at + 2 ≤ length s → two (drop at s) ≡ some (number s at, drop (at + 2) s)
unfolding two
two_at s at h =
    let h₁ : at < length s = omega arith in
    let h₂ : at + 1 < length s = omega arith in
    let e : at + 1 + 1 ≡ at + 2 = omega arith in
    rw (one_at s at h₁, one_at s (at + 1) h₂, e)

pub two-cut : (s : List ℕ) (at : ℕ) → length s - at < 2 → two (drop at s) ≡ none
unfolding two
two-cut s at h = ways (ltb at (length s)) refl
  where
    ways : (b : Bool) → ltb at (length s) ≡ b → two (drop at s) ≡ none
    ways true e =
        let low : at < length s = ltb-true at (length s) e in
        let end : length s ≤ at + 1 = omega arith in
        rw (one_at s at low, one-cut s (at + 1) end)
    ways false e = rw (one-cut s at (ltb-false at (length s) e))

module _ {A : Type 0} (ok : A → Bool) (kids : A → ℕ) (s : List ℕ) (at : ℕ) where
  -- a byte, and what it leads to
  pub then_one : (f : ℕ → Parser A) (r : std.Option Skipped) → at < length s → Skips (f (get_or s at 0)) ok kids s (at + 1) r → Skips (one >>= f) ok kids s at r
  then_one f (Some r) h v =
      record {
        value = v.value;
        read = rw (one_at s at h) v.read;
        past = omega arith;
        within = v.within;
        cites = v.cites;
        count = v.count;
      }
  then_one f None h v = rw (one_at s at h) v

  pub none-one : (f : ℕ → Parser A) → length s ≤ at → Skips (one >>= f) ok kids s at None
  none-one f h = rw (one-cut s at h)

  -- two bytes, and what their number leads to
  pub then_two : (f : ℕ → Parser A) (r : std.Option Skipped) → at + 2 ≤ length s → Skips (f (number s at)) ok kids s (at + 2) r → Skips (two >>= f) ok kids s at r
  then_two f (Some r) h v =
      record {
        value = v.value;
        read = rw (two_at s at h) v.read;
        past = omega arith;
        within = v.within;
        cites = v.cites;
        count = v.count;
      }
  then_two f None h v = rw (two_at s at h) v

-- ---- what was read, made into something else

pub mapped :
    {A B : Type 0} (p : Parser A) (g : A → B) (ok : A → Bool) (kids : A → ℕ) (ok' : B → Bool) (kids' : B → ℕ) (s : List ℕ) (at : ℕ) (r : std.Option Skipped) →
    ((a : A) → ok a ≡ ok' (g a)) →
    ((a : A) → kids a ≡ kids' (g a)) →
    Skips p ok kids s at r →
    Skips (p >>= λ a. return (g a)) ok' kids' s at r
mapped p g ok kids ok' kids' s at (Some r) same_ok same-kids v =
    record {
      value = g v.value;
      read = rw v.read;
      past = v.past;
      within = v.within;
      cites = v.cites ∙ same_ok v.value;
      count = v.count ∙ same-kids v.value;
    }
mapped p g ok kids ok' kids' s at None same_ok same-kids v = rw v

-- ---- a number of two bytes, and references

module _ (s : List ℕ) (at : ℕ) where
  pub skips_two : (ok : ℕ → Bool) → at + 2 ≤ length s → Skips two ok (λ _. 0) s at (Some (record { next = at + 2; cited = ok (number s at); references = 0 }))
  skips_two ok h = record { value = number s at; read = two_at s at h; past = omega arith; within = h; cites = refl; count = refl }

  -- the forms, 0, 1 and 2, and none other
  module _ (kind : Kind) (n : Counts) (r : std.Option Skipped) where
    abbrev pub SkipsForm : ℕ → Type 0
    SkipsForm form = Skips (reference_form kind form) (cites n) (λ _. 0) s at r

    pub form-raw : Skips two (λ _. true) (λ _. 0) s at r → SkipsForm 0
    unfolding reference_form cites
    form-raw v = mapped two raw (λ _. true) (λ _. 0) (cites n) (λ _. 0) s at r (λ m. refl) (λ m. refl) v

    pub form-number : (entries : ℕ) → count_of kind n ≡ entries → Skips two (λ m. ltb m entries) (λ _. 0) s at r → SkipsForm 1
    unfolding reference_form cites
    form-number entries e v = mapped two (entry kind) (λ m. ltb m entries) (λ _. 0) (cites n) (λ _. 0) s at r (λ m. rw e) (λ m. refl) v

    pub form-name : Skips short_name (λ _. true) (λ _. 0) s at r → SkipsForm 2
    unfolding reference_form cites
    form-name v = mapped short_name (name kind) (λ _. true) (λ _. 0) (cites n) (λ _. 0) s at r (λ m. refl) (λ m. refl) v

  pub form-unknown : (kind : Kind) (form : ℕ) → 2 < form → reference_form kind form (drop at s) ≡ none
  unfolding reference_form
  form-unknown kind zero h = absurd (omega arith)
  form-unknown kind (suc zero) h = absurd (omega arith)
  form-unknown kind (suc (suc zero)) h = absurd (omega arith)
  form-unknown kind (suc (suc (suc form))) h = refl

  -- the form byte in front
  pub reference-to :
      (kind : Kind) (n : Counts) (next : ℕ) (cited : Bool) (references : ℕ) →
      at < length s →
      Read (reference_form kind (get_or s at 0)) (cites n) (λ _. 0) s (at + 1) next cited references →
      Read (reference kind) (cites n) (λ _. 1) s at next cited 1
  unfolding reference
  reference-to kind n next cited references h v =
      record {
        value = v.value;
        read = rw (one_at s at h) v.read;
        past = omega arith;
        within = v.within;
        cites = v.cites;
        count = refl;
      }
