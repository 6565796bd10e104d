-- The name byte of record 60, as the code reads it. Assumes nothing.
use mathlib.Core.List.{List, []}
use mathlib.Core.Option.{some}
use mathlib.Core.Path.{◌≡◌, refl, ap, ◌∙◌}
use Prim.Native.Nat.{ℕ, zero, suc, ◌+◌, ◌<◌}
use native.Mathlib.Omega.{arith}
use lib.Dec.{eqb, ltb}
use lib.ListN.{length, get_or, drop}
use borrow.Author.Tests.{ne_eqb}
use Rattle.definition.specs.Bytes.{Parser, return, ◌>>=◌, one}
use Rattle.definition.specs.Job.{Build, name_form, class_form, read_build}
use Rattle.definition.specs.Building.{Rows, name_wanted}
use Rattle.facts.proofs.Lists.{none≢some, some_inj}
use Rattle.facts.proofs.Results.{some_then}
use Rattle.job.proofs.Taking.{byte_then}
use Rattle.store.specs.Store.{Store}
use Rattle.store.specs.JobIn.{job_in}
use Rattle.store.specs.Regions.{COUNTS, AT}
use Rattle.rows.specs.Rowed.{RowedIn, table_of}
use Rattle.ending.specs.Naming.{BuildAt, Wants}

-- WHAT IS READ

-- what is behind the name byte
abbrev behind : ℕ → Parser Build
behind b = one >>= λ form. class_form form >>= λ class. return (record { name_byte = b; class = class })

-- a byte that is read is a name byte
name_form_lem : {A : Type 0} (x : ℕ) (g : ℕ → Parser A) (l : List ℕ) (r : A × List ℕ) → (name_form x >>= g) l ≡ some r → g x l ≡ some r
unfolding name_form
name_form_lem zero g l r h = h
name_form_lem (suc zero) g l r h = h
name_form_lem (suc (suc zero)) g l r h = h
name_form_lem (suc (suc (suc n))) g l r h = none≢some h

name_stays : (x : ℕ) (l : List ℕ) (r : Build × List ℕ) → behind x l ≡ some r → x ≡ r.0.name_byte
name_stays x l r h =
    some_then (one l) _ r h λ form rest _ q.
    some_then (class_form form rest) _ r q λ class rest _ e.
    ap (λ (r : Build × List ℕ). r.0.name_byte) (some_inj e)

name_read : (s : List ℕ) (at : ℕ) (b : Build) → read_build (drop (at + 1) s) ≡ some (b, []) → (at + 1 < length s) × (get_or s (at + 1) 0 ≡ b.name_byte)
unfolding read_build
name_read s at b h =
    let a = byte_then s (at + 1) (λ first. name_form first >>= behind) b [] h in
    (a.0, name_stays (get_or s (at + 1) 0) (drop (at + 1 + 1) s) (b, []) (name_form_lem (get_or s (at + 1) 0) behind (drop (at + 1 + 1) s) (b, []) a.1))

-- WHAT IT WANTS

other_byte : (b n : ℕ) → (b ≡ 1 → ⊥) → eqb b 0 ≡ name_wanted b n
unfolding name_wanted
other_byte zero n h = refl
other_byte (suc zero) n h = absurd (h refl)
other_byte (suc (suc b)) n h = ne_eqb (suc (suc b)) 0 (λ e. omega arith)

one_byte : (b n : ℕ) → b ≡ 1 → ltb 0 n ≡ name_wanted b n
unfolding name_wanted
one_byte b n h = rw h

module _ (s : List ℕ) (t : Store) (at : ℕ) (is : at ≡ get_or (t COUNTS) AT 0) (build : BuildAt s t) where
  -- the byte is there
  pub byte_there : at + 1 < length s
  byte_there = rw is (name_read s (get_or (t COUNTS) AT 0) (job_in s).build build).0

  module _ (p : List ℕ) (byte : ℕ) (read : byte ≡ get_or s (at + 1) 0) where
    is_byte : byte ≡ (job_in s).build.name_byte
    is_byte = read ∙ rw is (name_read s (get_or (t COUNTS) AT 0) (job_in s).build build).1

    pub wants_other : (byte ≡ 1 → ⊥) → Wants s p t (eqb byte 0)
    wants_other h rows rowed = other_byte byte (length (table_of rows)) h ∙ rw is_byte

    pub wants_rows : byte ≡ 1 → (n : ℕ) → ((rows : Rows) → RowedIn p rows t → n ≡ length (table_of rows)) → Wants s p t (ltb 0 n)
    wants_rows h n counted rows rowed = one_byte byte n h ∙ rw (is_byte, counted rows rowed)
