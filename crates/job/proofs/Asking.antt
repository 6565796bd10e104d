-- One request of the form pass, and 60. Assumes nothing.
use mathlib.Core.Bool.{Bool, true, false}
use mathlib.Core.List.{List, []}
use mathlib.Core.Option.{none, some}
use mathlib.Core.Path.{◌≡◌, refl, sym}
use Rattle.std.specs.Prelude as std
use Rattle.std.specs.Prelude.{Some, None}
use Prim.Native.Nat.{ℕ, zero, suc, ◌+◌, ◌-◌, ◌≤◌, ◌<◌}
use native.Mathlib.Nat.{add-zero}
use native.Mathlib.Omega.{arith}
use lib.Dec.{ltb}
use lib.ListN.{length, get_or, drop, drop_of_length-le}
use lib.Seq.{drop-cons}
use borrow.Author.Tests.{ltb-true, ltb-false}
use Rattle.definition.specs.Basics.{Result, Refusal, good, bad, at_record, unless, lookup, only}
use Rattle.definition.specs.Bytes.{two}
use Rattle.definition.specs.Shapes.{constant}
use Rattle.definition.specs.Job.{slot, request, reference, asks, read_request, class_form, name_form, read_build}
use Rattle.definition.specs.Form.{Counts, cites, cites_request, whole, form_request, nothing_behind, form_build}
use Rattle.definition.specs.Numbering.{entries, constants_of, bootstraps_of}
use Rattle.job.specs.declared.JobCounts.{JobCounts}
use Rattle.job.specs.declared.Skipped.{Skipped}
use Rattle.job.specs.Forms.{Read, Skips, references_in, version_from, highest_from, more, Bounded, tables_in, Moved, formed_build}
use Rattle.job.proofs.Laws.{one_at, one-cut, mapped}
use Rattle.facts.proofs.Tables.{NoKey, lookup-none}

-- ---- a request

module _ (n : Counts) (s : List ℕ) (at : ℕ) where
  pub request_to :
      (first : ℕ) (ldc : Bool) (r : std.Option Skipped) → lookup first asks ≡ some ldc → Skips (reference constant) (cites n) (λ _. 1) s at r →
      Skips (read_request (lookup first asks)) (λ q. cites n q.what) (λ _. 1) s at r
  unfolding read_request
  request_to first ldc r e v =
      rw e
      (mapped (reference constant) (λ a. record { ldc = ldc; what = a }) (cites n) (λ _. 1) (λ q. cites n q.what) (λ _. 1) s at r (λ a. refl) (λ a. refl) v)

  pub request_unknown : (first : ℕ) → NoKey first asks → read_request (lookup first asks) (drop at s) ≡ none
  unfolding read_request
  request_unknown first h = rw (lookup-none first asks h)

-- one request more
abbrev pub Requested : JobCounts → JobCounts
Requested c =
    record {
      definitions = c.definitions;
      constants = c.constants;
      bootstraps = c.bootstraps;
      references = c.references;
      names = c.names;
      raw_constants = c.raw_constants;
      raw_bootstraps = c.raw_bootstraps;
      requests = c.requests + 1;
      versions = c.versions;
      version = c.version;
      texts = c.texts;
      highest = c.highest;
    }

pub requested : (c : JobCounts) → more c [] 1 ≡ Requested c
unfolding more constants_of bootstraps_of entries only references_in version_from highest_from
requested c = simp add-zero

module _ (c : JobCounts) (s : List ℕ) (at : ℕ) where
  pub request_cut : read_request (lookup (get_or s at 0) asks) (drop (at + 1) s) ≡ none → form_request (tables_in c) (get_or s at 0) (drop (at + 1) s) ≡ bad 3
  unfolding form_request whole
  request_cut h = rw h

  module _
      (next : ℕ) (cited : Bool) (references : ℕ)
      (v : Read (read_request (lookup (get_or s at 0) asks)) (λ q. cites (tables_in c) q.what) (λ _. 1) s (at + 1) next cited references) where
    pub request_missing : cited ≡ false → form_request (tables_in c) (get_or s at 0) (drop (at + 1) s) ≡ bad 4
    unfolding form_request whole unless
    request_missing missing = rw (v.read, ← v.cites, missing)

    pub request_good : cited ≡ true → Bounded at c → Moved (form_request (tables_in c)) (λ q. []) 1 s at c next (Requested c)
    unfolding form_request whole unless
    request_good there bounded =
        record {
          value = v.value;
          read = rw (v.read, ← v.cites, there);
          count = sym (requested c);
          past = omega (arith, v.past);
          within = v.within;
          bounded = omega (arith, bounded, v.past);
        }

-- ---- 60

-- the name byte
pub name_good : (b : ℕ) (l : List ℕ) → b ≤ 2 → name_form b l ≡ some (b, l)
unfolding name_form
name_good zero l h = refl
name_good (suc zero) l h = refl
name_good (suc (suc zero)) l h = refl
name_good (suc (suc (suc b))) l h = absurd (omega arith)

pub name_bad : (b : ℕ) (l : List ℕ) → 2 < b → name_form b l ≡ none
unfolding name_form
name_bad zero l h = absurd (omega arith)
name_bad (suc zero) l h = absurd (omega arith)
name_bad (suc (suc zero)) l h = absurd (omega arith)
name_bad (suc (suc (suc b))) l h = refl

-- the class slot behind its form byte
module _ (s : List ℕ) (at requests : ℕ) (r : std.Option Skipped) where
  pub class_slot : Skips two (λ _. true) (λ _. 0) s at r → Skips (class_form 0) (cites_request requests) (λ _. 0) s at r
  unfolding class_form cites_request
  class_slot v = mapped two slot (λ _. true) (λ _. 0) (cites_request requests) (λ _. 0) s at r (λ m. refl) (λ m. refl) v

  pub class_request : Skips two (λ m. ltb m requests) (λ _. 0) s at r → Skips (class_form 1) (cites_request requests) (λ _. 0) s at r
  unfolding class_form cites_request
  class_request v = mapped two request (λ m. ltb m requests) (λ _. 0) (cites_request requests) (λ _. 0) s at r (λ m. refl) (λ m. refl) v

pub class_unknown : (form : ℕ) (l : List ℕ) → 1 < form → class_form form l ≡ none
unfolding class_form
class_unknown zero l h = absurd (omega arith)
class_unknown (suc zero) l h = absurd (omega arith)
class_unknown (suc (suc form)) l h = refl

module _ (s : List ℕ) (at requests : ℕ) where
  pub build-name : at < length s → 2 < get_or s at 0 → read_build (drop at s) ≡ none
  unfolding read_build
  build-name low h = rw (one_at s at low, name_bad (get_or s at 0) (drop (at + 1) s) h)

  pub build-cut : length s - at < 2 → read_build (drop at s) ≡ none
  unfolding read_build
  build-cut h = ways (ltb at (length s)) refl
    where
      named : at < length s → (b : Bool) → ltb 2 (get_or s at 0) ≡ b → read_build (drop at s) ≡ none
      named low true e = build-name low (ltb-true 2 (get_or s at 0) e)
      named low false e =
          let end : length s ≤ at + 1 = omega arith in
          rw (one_at s at low, name_good (get_or s at 0) (drop (at + 1) s) (ltb-false 2 (get_or s at 0) e), one-cut s (at + 1) end)

      ways : (b : Bool) → ltb at (length s) ≡ b → read_build (drop at s) ≡ none
      ways true e = named (ltb-true at (length s) e) (ltb 2 (get_or s at 0)) refl
      ways false e = rw (one-cut s at (ltb-false at (length s) e))

  pub build-to :
      (r : std.Option Skipped) → at + 2 ≤ length s → get_or s at 0 ≤ 2 → Skips (class_form (get_or s (at + 1) 0)) (cites_request requests) (λ _. 0) s (at + 2) r →
      Skips read_build (λ b. cites_request requests b.class) (λ _. 0) s at r
  unfolding read_build
  build-to (Some r) h b v =
      let h₁ : at < length s = omega arith in
      let h₂ : at + 1 < length s = omega arith in
      let e : at + 1 + 1 ≡ at + 2 = omega arith in
      record {
        value = record { name_byte = get_or s at 0; class = v.value };
        read = rw (one_at s at h₁, name_good (get_or s at 0) (drop (at + 1) s) b, one_at s (at + 1) h₂, e, v.read);
        past = omega (arith, v.past);
        within = v.within;
        cites = v.cites;
        count = v.count;
      }
  build-to None h b v =
      let h₁ : at < length s = omega arith in
      let h₂ : at + 1 < length s = omega arith in
      let e : at + 1 + 1 ≡ at + 2 = omega arith in
      rw (one_at s at h₁, name_good (get_or s at 0) (drop (at + 1) s) b, one_at s (at + 1) h₂, e, v)

-- ---- 60, and nothing behind it

pub nothing_left : (s : List ℕ) (next : ℕ) → length s ≤ next → nothing_behind (drop next s) ≡ true
unfolding nothing_behind
nothing_left s next h = rw (drop_of_length-le s h)

pub something_left : (s : List ℕ) (next : ℕ) → next < length s → nothing_behind (drop next s) ≡ false
unfolding nothing_behind
something_left s next h = rw (drop-cons s next 0 h)

module _ (c : JobCounts) (place : ℕ) (s : List ℕ) (at : ℕ) where
  abbrev pub Built : Result Refusal JobCounts
  Built = formed_build c (form_build c.requests place (drop at s))

  pub built_cut : read_build (drop at s) ≡ none → Built ≡ bad (record { code = 3; place = place })
  unfolding formed_build form_build whole at_record
  built_cut h = rw h

  module _
      (next : ℕ) (cited : Bool) (references : ℕ)
      (v : Read read_build (λ b. cites_request c.requests b.class) (λ _. 0) s at next cited references) where
    pub built_missing : cited ≡ false → Built ≡ bad (record { code = 4; place = place })
    unfolding formed_build form_build whole at_record unless
    built_missing missing = rw (v.read, ← v.cites, missing)

    pub built_behind : cited ≡ true → next < length s → Built ≡ bad (record { code = 3; place = (suc place) })
    unfolding formed_build form_build whole at_record unless
    built_behind there more = rw (v.read, ← v.cites, there, something_left s next more)

    pub built : cited ≡ true → length s ≤ next → Built ≡ good c
    unfolding formed_build form_build whole at_record unless
    built there end = rw (v.read, ← v.cites, there, nothing_left s next end)
