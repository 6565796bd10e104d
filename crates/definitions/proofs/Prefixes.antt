-- One definition more: the entries, names and counts of the first k + 1 definitions by those of the first k. Assumes nothing.
use mathlib.Core.Bool.{Bool, true, false, not}
use mathlib.Core.List.{List, [], ◌∷◌, ◌++◌}
use mathlib.Core.Option.{some}
use mathlib.Core.Path.{◌≡◌, refl, ap}
use Prim.Native.Nat.{ℕ, zero, suc, ◌+◌, ◌≤◌}
use native.Mathlib.Omega.{arith}
use lib.ListN.{length, get_elem?, take, drop}
use Rattle.definition.specs.Basics.{only}
use Rattle.definition.specs.Shapes.{Kind, bootstrap, Entry}
use Rattle.definition.specs.Job.{Reference, Definition, define, named, placed, setting}
use Rattle.definition.specs.Form.{kind_of}
use Rattle.definition.specs.Numbering.{entries, is_bootstrap, constants_of, bootstraps_of}
use Rattle.definition.specs.Definitions.{same_kind_lem}
use Rattle.facts.proofs.Lists.{none≢some, some_inj, only_here, only-later}
use Rattle.job.specs.Forms.{kids_in, references_in}
use Rattle.job.proofs.Counting.{in_table}
use Rattle.store.specs.JobIn.{namings_of}

-- the first k + 1, and all, by the one at place k
pub take_next : {A : Type 0} (l : List A) (k : ℕ) (x : A) → get_elem? l k ≡ some x → take (suc k) l ≡ take k l ++ x ∷ []
take_next [] k x e = none≢some e
take_next (y ∷ l) zero x e = ap (λ z. z ∷ []) (some_inj e)
take_next (y ∷ l) (suc k) x e = ap (λ m. y ∷ m) (take_next l k x e)

pub drop-next : {A : Type 0} (l : List A) (k : ℕ) (x : A) → get_elem? l k ≡ some x → drop k l ≡ x ∷ drop (suc k) l
drop-next [] k x e = none≢some e
drop-next (y ∷ l) zero x e = ap (λ z. z ∷ l) (some_inj e)
drop-next (y ∷ l) (suc k) x e = drop-next l k x e

pub drop_all : {A : Type 0} (l : List A) (k : ℕ) → length l ≤ k → drop k l ≡ []
drop_all [] zero h = refl
drop_all [] (suc k) h = refl
drop_all (y ∷ l) zero h = absurd (omega arith)
drop_all (y ∷ l) (suc k) h = drop_all l k (omega arith)

pub take-drop : {A : Type 0} (l : List A) (k : ℕ) → l ≡ take k l ++ drop k l
take-drop [] zero = refl
take-drop [] (suc k) = refl
take-drop (y ∷ l) zero = refl
take-drop (y ∷ l) (suc k) = ap (λ m. y ∷ m) (take-drop l k)

pub take_all : {A : Type 0} (l : List A) (k : ℕ) → length l ≤ k → take k l ≡ l
take_all [] zero h = refl
take_all [] (suc k) h = refl
take_all (y ∷ l) zero h = absurd (omega arith)
take_all (y ∷ l) (suc k) h = ap (λ m. y ∷ m) (take_all l k (omega arith))

pub only-append : {A : Type 0} (p : A → Bool) (l m : List A) → only p (l ++ m) ≡ only p l ++ only p m
unfolding only
only-append p [] m = refl
only-append {A} p (x ∷ l) m = go (p x) refl (only-append p l m)
  where
    go : (b : Bool) → p x ≡ b → only p (l ++ m) ≡ only p l ++ only p m → only p (x ∷ l ++ m) ≡ only p (x ∷ l) ++ only p m
    go true e rest = rw (only_here p x (l ++ m) e, only_here p x l e) (ap (λ (n : List A). x ∷ n) rest)
    go false e rest = rw (only-later p x (l ++ m) e, only-later p x l e) rest

module _ (ds : List (Definition (List ℕ))) where
  pub entries-append : (es : List (Definition (List ℕ))) → entries (ds ++ es) ≡ entries ds ++ entries es
  unfolding entries
  entries-append es = go ds
    where
      go : (ds : List (Definition (List ℕ))) → entries (ds ++ es) ≡ entries ds ++ entries es
      go [] = refl
      go (define e ∷ ds) = ap (λ l. e ∷ l) (go ds)
      go (named kind s r ∷ ds) = go ds
      go (placed kind at n ∷ ds) = go ds
      go (setting rule ∷ ds) = go ds

  pub namings-append : (es : List (Definition (List ℕ))) → namings_of (ds ++ es) ≡ namings_of ds ++ namings_of es
  unfolding namings_of
  namings-append es = go ds
    where
      go : (ds : List (Definition (List ℕ))) → namings_of (ds ++ es) ≡ namings_of ds ++ namings_of es
      go [] = refl
      go (define e ∷ ds) = go ds
      go (named kind s r ∷ ds) = ap (λ l. record { kind = kind; label = s; target = r } ∷ l) (go ds)
      go (placed kind at n ∷ ds) = go ds
      go (setting rule ∷ ds) = go ds

  pub references-append : (es : List (Definition (List ℕ))) → references_in (ds ++ es) ≡ references_in ds + references_in es
  unfolding references_in
  references-append es = go ds
    where
      go : (ds : List (Definition (List ℕ))) → references_in (ds ++ es) ≡ references_in ds + references_in es
      go [] = omega arith
      go (d ∷ ds) = omega (arith, go ds)

  pub constants_append : (es : List (Definition (List ℕ))) → constants_of (ds ++ es) ≡ constants_of ds ++ constants_of es
  unfolding constants_of
  constants_append es = rw (entries-append es) (only-append (λ e. not (is_bootstrap e)) (entries ds) (entries es))

  pub bootstraps_append : (es : List (Definition (List ℕ))) → bootstraps_of (ds ++ es) ≡ bootstraps_of ds ++ bootstraps_of es
  unfolding bootstraps_of
  bootstraps_append es = rw (entries-append es) (only-append is_bootstrap (entries ds) (entries es))

-- one entry
module _ (x : Entry (List ℕ) Reference) (ds : List (Definition (List ℕ))) where
  pub first_constant : is_bootstrap x ≡ false → (constants_of (define x ∷ ds) ≡ x ∷ constants_of ds) × (bootstraps_of (define x ∷ ds) ≡ bootstraps_of ds)
  unfolding constants_of bootstraps_of entries
  first_constant h = (only_here (λ e. not (is_bootstrap e)) x (entries ds) (ap not h), only-later is_bootstrap x (entries ds) h)

  pub first_bootstrap : is_bootstrap x ≡ true → (constants_of (define x ∷ ds) ≡ constants_of ds) × (bootstraps_of (define x ∷ ds) ≡ x ∷ bootstraps_of ds)
  unfolding constants_of bootstraps_of entries
  first_bootstrap h = (only-later (λ e. not (is_bootstrap e)) x (entries ds) (ap not h), only_here is_bootstrap x (entries ds) h)

-- a record that is no entry
unfoldable pub no_entry : Definition (List ℕ) → Bool
no_entry (define e) = false
no_entry (named kind s r) = true
no_entry (placed kind at n) = true
no_entry (setting rule) = true

pub none-entered : (d : Definition (List ℕ)) (ds : List (Definition (List ℕ))) → no_entry d ≡ true → (constants_of (d ∷ ds) ≡ constants_of ds) × (bootstraps_of (d ∷ ds) ≡ bootstraps_of ds) × (references_in (d ∷ ds) ≡ references_in ds)
unfolding constants_of bootstraps_of entries no_entry references_in kids_in
none-entered (define e) ds h = absurd (let z : ◌≡◌ {A = ℕ} 0 1 = cc in omega arith)
none-entered (named kind s r) ds h = (refl, refl, omega arith)
none-entered (placed kind at n) ds h = (refl, refl, omega arith)
none-entered (setting rule) ds h = (refl, refl, omega arith)

-- tables' numbers
pub kind-told : (x : Entry (List ℕ) Reference) (kind : Kind) → kind_of x.tag ≡ kind → is_bootstrap x ≡ same_kind_lem bootstrap kind
kind-told x kind h = in_table x kind h

pub no_constants : (constants_of {L = List ℕ} [] ≡ []) × (bootstraps_of {L = List ℕ} [] ≡ []) × (references_in [] ≡ 0)
unfolding constants_of bootstraps_of entries only references_in
no_constants = (refl, refl, refl)
