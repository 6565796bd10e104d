-- Where the parts of a file stand in it. Assumes nothing.
use mathlib.Core.List.{List, ◌++◌}
use mathlib.Core.Path.{◌≡◌, refl, sym, ap, ◌∙◌}
use Prim.Native.Nat.{ℕ, ◌+◌, ◌≤◌}
use native.Mathlib.Omega.{arith}
use lib.ListN.{length, drop}
use lib.Seq.{drop-drop, drop-append_seam}
use Rattle.jvms.specs.Pool.{u2, u4}
use Rattle.jvms.specs.Written.{bytes2, bytes4, Is2, Is4}
use Rattle.writer.specs.Numbers.{number2, number4}
use Rattle.places.proofs.Finding.{finds_u2, finds_u4}
use Rattle.class_file.specs.ClassFile.{Parts, class_bytes}
use Rattle.class_file.specs.Promises.{Fits}
use Rattle.class_file.specs.Answers.{attributes_of, Head}
use Rattle.class_file.proofs.Back.{u2-back, u4-back}
use Rattle.class_file.proofs.Pieces.{behind, file_items}

-- a number that stands at a place is read there, with the place behind it
pub stands2 :
    (file : List ℕ) (at next n : ℕ) (rest : List ℕ) → next ≡ at + 2 → Is2 n → drop at file ≡ bytes2 n ++ rest →
    (next ≤ length file) × (number2 file at ≡ n) × (drop next file ≡ rest)
stands2 file at next n rest after fits e =
    let (end, inside, left, is) = finds_u2 file at n rest (ap u2 e ∙ u2-back n rest fits) in
    let same : end ≡ next = is.1 ∙ sym after in
    (rw (← same) inside, sym is.0, ap (λ k. drop k file) (sym same) ∙ sym left)

pub stands4 :
    (file : List ℕ) (at next n : ℕ) (rest : List ℕ) → next ≡ at + 4 → Is4 n → drop at file ≡ bytes4 n ++ rest →
    (next ≤ length file) × (number4 file at ≡ n) × (drop next file ≡ rest)
stands4 file at next n rest after fits e =
    let (end, inside, left, is) = finds_u4 file at n rest (ap u4 e ∙ u4-back n rest fits) in
    let same : end ≡ next = is.1 ∙ sym after in
    (rw (← same) inside, sym is.0, ap (λ k. drop k file) (sym same) ∙ sym left)

-- what stands behind a pool
pub members_stand :
    (file : List ℕ) (e flags this super : ℕ) (l : List ℕ) → Is2 flags → Is2 this → Is2 super → drop e file ≡ behind flags this super l →
    (e + 12 ≤ length file) × (number2 file (e + 6) ≡ 0) × (number2 file (e + 8) ≡ 0) × (number2 file (e + 10) ≡ 0) × (drop (e + 12) file ≡ l)
members_stand file e flags this super l ff ft fs is =
    let (in₁, n₁, d₁) = stands2 file e (e + 2) flags _ refl ff is in
    let (in₂, n₂, d₂) = stands2 file (e + 2) (e + 4) this _ (omega arith) ft d₁ in
    let (in₃, n₃, d₃) = stands2 file (e + 4) (e + 6) super _ (omega arith) fs d₂ in
    let (in₄, n₄, d₄) = stands2 file (e + 6) (e + 8) 0 _ (omega arith) (omega arith) d₃ in
    let (in₅, n₅, d₅) = stands2 file (e + 8) (e + 10) 0 _ (omega arith) (omega arith) d₄ in
    let (in₆, n₆, d₆) = stands2 file (e + 10) (e + 12) 0 l (omega arith) (omega arith) d₅ in
    (in₆, n₄, n₅, n₆, d₆)

-- what stands in the file of parts
pub record Laid (file : List ℕ) (p : Parts) (e : ℕ) : Type 0 where
  pub head : Head file
  pub pool_there : drop 8 file ≡ p.pool ++ drop e file
  pub inside : e + 12 ≤ length file
  pub interfaces : number2 file (e + 6) ≡ 0
  pub fields : number2 file (e + 8) ≡ 0
  pub methods : number2 file (e + 10) ≡ 0
  pub attributes-there : drop (e + 12) file ≡ attributes_of p.name p.count p.bootstraps

pub laid : (file : List ℕ) (p : Parts) → Fits p → file ≡ class_bytes p → Laid file p (8 + length p.pool)
laid file p f is =
    let items = is ∙ file_items p.minor_version p.major_version p.pool p.access_flags p.this_class p.super_class p.name p.count p.bootstraps in
    let (in₀, n₀, d₀) = stands4 file 0 4 0xcafebabe _ refl (omega arith) items in
    let (in₁, n₁, d₁) = stands2 file 4 6 p.minor_version _ refl f.minor_version_fits d₀ in
    let (in₂, n₂, d₂) = stands2 file 6 8 p.major_version _ refl f.major_version_fits d₁ in
    let l = attributes_of p.name p.count p.bootstraps in
    let tail = behind p.access_flags p.this_class p.super_class l in
    let e = 8 + length p.pool in
    let d₃ : drop e file ≡ tail =
    sym (drop-drop (length p.pool) 8 file) ∙ ap (drop (length p.pool)) d₂ ∙ drop-append_seam p.pool tail in
    let (in₄, zero₁, zero₂, zero₃, d₄) = members_stand file e p.access_flags p.this_class p.super_class l f.access_flags_fits f.this_class_fits f.super_class_fits d₃ in
    record {
      head = (in₂, n₀);
      pool_there = d₂ ∙ ap (λ m. p.pool ++ m) (sym d₃);
      inside = in₄;
      interfaces = zero₁;
      fields = zero₂;
      methods = zero₃;
      attributes-there = d₄;
    }
