-- A table of places tells which tags the slots of its pool hold. Assumes nothing.
use mathlib.Core.Bool.{false, not, ◌&&◌, and-false}
use mathlib.Core.List.{List}
use mathlib.Core.Option.{Option, none, some}
use mathlib.Core.Path.{◌≡◌, refl, sym, ◌∙◌}
use Prim.Native.Nat.{ℕ, zero, suc}
use native.Mathlib.Omega.{arith}
use lib.Dec.{eqb, eqb-zero-suc, eqb-suc-zero}
use Rattle.facts.proofs.Lists.{none≢some}
use Rattle.jvms.specs.Pool.{Constant, Utf8, Integer, Float, Long, Double, Class, String, Fieldref, Methodref, InterfaceMethodref, NameAndType, MethodHandle, MethodType, Dynamic, InvokeDynamic, Module, Package, Slot, usable, unusable}
use Rattle.places.specs.Standing.{tag, slot_of, Noted}
use Rattle.places.proofs.Tags.{tag-found, tag-none}
use Rattle.trace.specs.Trace.{begins, holds}
use Rattle.trace.specs.Answers.{held}

-- no constant has the tag 0
has_tag : (c : Constant) → eqb (tag c) 0 ≡ false
unfolding tag
has_tag (Utf8 bytes) = refl
has_tag (Integer bytes) = refl
has_tag (Float bytes) = refl
has_tag (Long high-bytes low-bytes) = refl
has_tag (Double high-bytes low-bytes) = refl
has_tag (Class name-index) = refl
has_tag (String string-index) = refl
has_tag (Fieldref class-index name-and-type-index) = refl
has_tag (Methodref class-index name-and-type-index) = refl
has_tag (InterfaceMethodref class-index name-and-type-index) = refl
has_tag (NameAndType name-index descriptor-index) = refl
has_tag (MethodHandle reference-kind reference-index) = refl
has_tag (MethodType descriptor-index) = refl
has_tag (Dynamic bootstrap-method-attr-index name-and-type-index) = refl
has_tag (InvokeDynamic bootstrap-method-attr-index name-and-type-index) = refl
has_tag (Module name-index) = refl
has_tag (Package name-index) = refl

tag-zero : (t : ℕ) → (not (eqb t 0) && eqb 0 t) ≡ false
tag-zero zero = refl
tag-zero (suc t) = rw (eqb-zero-suc t, and-false (not (eqb (suc t) 0)))

tag-any : (n t : ℕ) → eqb n 0 ≡ false → (not (eqb t 0) && eqb n t) ≡ eqb n t
tag-any n zero e = sym e
tag-any n (suc t) e = rw (eqb-suc-zero t)

module _ {pool : List ℕ} {slots : List Slot} {places : List ℕ} (noted : Noted pool slots places) where
  held-there : (s t : ℕ) (o : Option Slot) → slot_of slots s ≡ o → held pool places s t ≡ begins o t
  unfolding held begins
  held-there s t none e = rw (tag-none noted s (λ c is. none≢some (sym e ∙ is))) (tag-zero t)
  held-there s t (some unusable) e =
      rw (tag-none noted s (λ c is. let z : ◌≡◌ {A = ℕ} 0 1 = cc in omega arith)) (tag-zero t)
  held-there s t (some (usable c)) e = rw (tag-found noted s c e) (tag-any (tag c) t (has_tag c))

  pub held-holds : held pool places ≡ holds slots
  held-holds k s t = held-there s t (slot_of slots s) refl k
