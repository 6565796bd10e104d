-- What stands at a place: a constant by its tag, with its items behind the tag, and a bootstrap method; and which index has which place in a
-- table. Assumes nothing.
use mathlib.Core.List.{List}
use mathlib.Core.Option.{Option, none, some}
use mathlib.Core.Path.{◌≡◌, refl, sym, ap, ap₂, ◌∙◌}
use Prim.Native.Nat.{ℕ, ◌+◌, ◌*◌, ◌<◌, ◌≤◌}
use native.Mathlib.Numerals.{add-one}
use native.Mathlib.Omega.{arith}
use lib.ListN.{length, take, drop, get_or}
use lib.Seq.{drop-cons}
use Rattle.jvms.specs.Pool.{Reader, return, ◌>>=◌, u1, u2, u4, array, Constant, Utf8, Integer, Float, Long, Double, Class, String, Fieldref, Methodref, InterfaceMethodref, NameAndType, MethodHandle, MethodType, Dynamic, InvokeDynamic, Module, Package, structures, structure, cp_info_lem, Slot, usable, unusable, BootstrapMethod}
use Rattle.jvms.specs.Written.{constant_bytes}
use Rattle.writer.specs.Numbers.{number2, number4}
use Rattle.facts.proofs.Lists.{none≢some}
use Rattle.places.specs.Standing.{slot_of, ConstantAt, MethodAt, Noted}
use Rattle.places.proofs.Finding.{Finds, finds_return, finds_bind, finds_u1, finds_u2, finds_u4, finds_text, Stands, finds_constant, MethodStands, finds_method}

module _ (s : List ℕ) (p : ℕ) (c : Constant) (there : ConstantAt s p c) where
  -- its tag stands there, and its items behind
  pub constant_stands : Stands s p c (p + length (constant_bytes c))
  constant_stands =
      let (e, low, left, is) = finds_constant s p c there.0 there.1 in
      record { inside = is.inside; first = is.first; fields = is.fields; behind = refl }

  behind-tag : (t : ℕ) → get_or s p 0 ≡ t → structure t structures (drop (p + 1) s) ≡ some (c, there.0)
  unfolding cp_info_lem u1
  behind-tag t is =
      let inside = constant_stands.inside in
      let shape : cp_info_lem (drop p s) ≡ structure (get_or s p 0) structures (drop (p + 1) s) = rw (drop-cons s p 0 inside, add-one p) in
      rw is at (sym shape ∙ there.1)

  -- what the structure of a tag finds is so of the constant
  by_tag :
      (Q : Constant → ℕ → Type 0) (r : Reader Constant) (t : ℕ) → structure t structures ≡ r → get_or s p 0 ≡ t → Finds Q r s (p + 1) →
      (e : ℕ) × (e ≤ length s) × Q c e
  by_tag Q r t shape is finds =
      let (e, low, left, holds) = finds c there.0 (ap (λ r. r (drop (p + 1) s)) (sym shape) ∙ behind-tag t is) in
      (e, low, holds)

  -- of one item of k bytes, and of two, of j bytes and of k
  one-there :
      (f : ℕ → ℕ) (k : ℕ) (r : Reader ℕ) →
      ((a : ℕ) → Finds (λ n e. (n ≡ f a) × (e ≡ a + k)) r s a) →
      (end : ℕ) →
      end ≡ p + 1 + k →
      (t : ℕ) (C : ℕ → Constant) →
      structure t structures ≡ (r >>= λ n. return (C n)) →
      get_or s p 0 ≡ t →
      (c ≡ C (f (p + 1))) × (end ≤ length s)
  one-there f k r item end ends t C shape is =
      let Q : Constant → ℕ → Type 0 = λ x e. (x ≡ C (f (p + 1))) × (e ≡ end) in
      let finds : Finds Q (r >>= λ n. return (C n)) s (p + 1) =
      finds_bind (λ n e. (n ≡ f (p + 1)) × (e ≡ p + 1 + k)) Q r _ s (p + 1) (item (p + 1)) λ n e low h.
      finds_return Q (C n) s e low (ap C h.0, h.1 ∙ sym ends) in
      let (e, low, h) = by_tag Q _ t shape is finds in
      (h.0, omega arith)

  two-there :
      (f g : ℕ → ℕ) (j k : ℕ) (r q : Reader ℕ) →
      ((a : ℕ) → Finds (λ n e. (n ≡ f a) × (e ≡ a + j)) r s a) →
      ((a : ℕ) → Finds (λ n e. (n ≡ g a) × (e ≡ a + k)) q s a) →
      (mid end : ℕ) →
      mid ≡ p + 1 + j →
      end ≡ mid + k →
      (t : ℕ) (C : ℕ → ℕ → Constant) →
      structure t structures ≡ (r >>= λ m. q >>= λ n. return (C m n)) →
      get_or s p 0 ≡ t →
      (c ≡ C (f (p + 1)) (g mid)) × (end ≤ length s)
  two-there f g j k r q item item' mid end mids ends t C shape is =
      let Q : Constant → ℕ → Type 0 = λ x e. (x ≡ C (f (p + 1)) (g mid)) × (e ≡ end) in
      let finds : Finds Q (r >>= λ m. q >>= λ n. return (C m n)) s (p + 1) =
      finds_bind (λ n e. (n ≡ f (p + 1)) × (e ≡ p + 1 + j)) Q r _ s (p + 1) (item (p + 1)) λ m e low h.
      finds_bind (λ n e'. (n ≡ g e) × (e' ≡ e + k)) Q q _ s e (item' e) λ n e' low' h'.
      let there' : e ≡ mid = h.1 ∙ sym mids in
      finds_return Q (C m n) s e' low' (ap₂ C h.0 (h'.0 ∙ ap g there'), h'.1 ∙ ap (λ x. x + k) there' ∙ sym ends) in
      let (e, low, h) = by_tag Q _ t shape is finds in
      (h.0, omega arith)

  index-there :
      (t : ℕ) (C : ℕ → Constant) → structure t structures ≡ (u2 >>= λ n. return (C n)) → get_or s p 0 ≡ t →
      (c ≡ C (number2 s (p + 1))) × (p + 3 ≤ length s)
  index-there = one-there (number2 s) 2 u2 (finds_u2 s) (p + 3) (omega arith)

  four-there :
      (t : ℕ) (C : ℕ → Constant) → structure t structures ≡ (u4 >>= λ n. return (C n)) → get_or s p 0 ≡ t →
      (c ≡ C (number4 s (p + 1))) × (p + 5 ≤ length s)
  four-there = one-there (number4 s) 4 u4 (finds_u4 s) (p + 5) (omega arith)

  indexes_there :
      (t : ℕ) (C : ℕ → ℕ → Constant) → structure t structures ≡ (u2 >>= λ m. u2 >>= λ n. return (C m n)) → get_or s p 0 ≡ t →
      (c ≡ C (number2 s (p + 1)) (number2 s (p + 3))) × (p + 5 ≤ length s)
  indexes_there = two-there (number2 s) (number2 s) 2 2 u2 u2 (finds_u2 s) (finds_u2 s) (p + 3) (p + 5) (omega arith) (omega arith)

  eight-there :
      (t : ℕ) (C : ℕ → ℕ → Constant) → structure t structures ≡ (u4 >>= λ m. u4 >>= λ n. return (C m n)) → get_or s p 0 ≡ t →
      (c ≡ C (number4 s (p + 1)) (number4 s (p + 5))) × (p + 9 ≤ length s)
  eight-there = two-there (number4 s) (number4 s) 4 4 u4 u4 (finds_u4 s) (finds_u4 s) (p + 5) (p + 9) (omega arith) (omega arith)

  -- the constant of each tag
  pub utf8_there : get_or s p 0 ≡ 1 → (c ≡ Utf8 (take (number2 s (p + 1)) (drop (p + 3) s))) × (p + 3 + number2 s (p + 1) ≤ length s)
  unfolding structure structures
  utf8_there is =
      let size = number2 s (p + 1) in
      let Q : Constant → ℕ → Type 0 = λ x e. (x ≡ Utf8 (take size (drop (p + 3) s))) × (e ≡ p + 3 + size) in
      let finds : Finds Q (u2 >>= λ n. array n u1 >>= λ b. return (Utf8 b)) s (p + 1) =
      finds_bind (λ n e. (n ≡ size) × (e ≡ p + 1 + 2)) Q u2 _ s (p + 1) (finds_u2 s (p + 1)) λ n e low h.
      finds_bind (λ l e'. (l ≡ take n (drop e s)) × (length l ≡ n) × (e' ≡ e + n)) Q (array n u1) _ s e (finds_text n s e low) λ b e' low' h'.
      let there' : e ≡ p + 3 = omega arith in
      finds_return Q (Utf8 b) s e' low' (ap Utf8 (h'.0 ∙ ap₂ (λ n e. take n (drop e s)) h.0 there'), omega arith) in
      let (e, low, h) = by_tag Q _ 1 refl is finds in
      (h.0, omega arith)

  pub integer-there : get_or s p 0 ≡ 3 → (c ≡ Integer (number4 s (p + 1))) × (p + 5 ≤ length s)
  unfolding structure structures
  integer-there = four-there 3 Integer refl

  pub float-there : get_or s p 0 ≡ 4 → (c ≡ Float (number4 s (p + 1))) × (p + 5 ≤ length s)
  unfolding structure structures
  float-there = four-there 4 Float refl

  pub long_there : get_or s p 0 ≡ 5 → (c ≡ Long (number4 s (p + 1)) (number4 s (p + 5))) × (p + 9 ≤ length s)
  unfolding structure structures
  long_there = eight-there 5 Long refl

  pub double-there : get_or s p 0 ≡ 6 → (c ≡ Double (number4 s (p + 1)) (number4 s (p + 5))) × (p + 9 ≤ length s)
  unfolding structure structures
  double-there = eight-there 6 Double refl

  pub class_there_lem : get_or s p 0 ≡ 7 → (c ≡ Class (number2 s (p + 1))) × (p + 3 ≤ length s)
  unfolding structure structures
  class_there_lem = index-there 7 Class refl

  pub string_there : get_or s p 0 ≡ 8 → (c ≡ String (number2 s (p + 1))) × (p + 3 ≤ length s)
  unfolding structure structures
  string_there = index-there 8 String refl

  pub fieldref_there : get_or s p 0 ≡ 9 → (c ≡ Fieldref (number2 s (p + 1)) (number2 s (p + 3))) × (p + 5 ≤ length s)
  unfolding structure structures
  fieldref_there = indexes_there 9 Fieldref refl

  pub methodref_there : get_or s p 0 ≡ 10 → (c ≡ Methodref (number2 s (p + 1)) (number2 s (p + 3))) × (p + 5 ≤ length s)
  unfolding structure structures
  methodref_there = indexes_there 10 Methodref refl

  pub interface_methodref_there : get_or s p 0 ≡ 11 → (c ≡ InterfaceMethodref (number2 s (p + 1)) (number2 s (p + 3))) × (p + 5 ≤ length s)
  unfolding structure structures
  interface_methodref_there = indexes_there 11 InterfaceMethodref refl

  pub name_and-type_there : get_or s p 0 ≡ 12 → (c ≡ NameAndType (number2 s (p + 1)) (number2 s (p + 3))) × (p + 5 ≤ length s)
  unfolding structure structures
  name_and-type_there = indexes_there 12 NameAndType refl

  pub method_handle_there : get_or s p 0 ≡ 15 → (c ≡ MethodHandle (get_or s (p + 1) 0) (number2 s (p + 2))) × (p + 4 ≤ length s)
  unfolding structure structures
  method_handle_there =
      two-there (λ a. get_or s a 0) (number2 s) 1 2 u1 u2 (finds_u1 s) (finds_u2 s) (p + 2) (p + 4) (omega arith) (omega arith) 15 MethodHandle refl

  pub method_type_there : get_or s p 0 ≡ 16 → (c ≡ MethodType (number2 s (p + 1))) × (p + 3 ≤ length s)
  unfolding structure structures
  method_type_there = index-there 16 MethodType refl

  pub dynamic_there : get_or s p 0 ≡ 17 → (c ≡ Dynamic (number2 s (p + 1)) (number2 s (p + 3))) × (p + 5 ≤ length s)
  unfolding structure structures
  dynamic_there = indexes_there 17 Dynamic refl

  pub invoke_dynamic_there : get_or s p 0 ≡ 18 → (c ≡ InvokeDynamic (number2 s (p + 1)) (number2 s (p + 3))) × (p + 5 ≤ length s)
  unfolding structure structures
  invoke_dynamic_there = indexes_there 18 InvokeDynamic refl

  pub module_there : get_or s p 0 ≡ 19 → (c ≡ Module (number2 s (p + 1))) × (p + 3 ≤ length s)
  unfolding structure structures
  module_there = index-there 19 Module refl

  pub package_there : get_or s p 0 ≡ 20 → (c ≡ Package (number2 s (p + 1))) × (p + 3 ≤ length s)
  unfolding structure structures
  package_there = index-there 20 Package refl

-- a bootstrap method: its handle, the number of its arguments, and the arguments
pub method_stands :
    (s : List ℕ) (p : ℕ) (m : BootstrapMethod) → MethodAt s p m → MethodStands s p m (p + 4 + 2 * length m.bootstrap_arguments)
method_stands s p m there =
    let (e, low, left, is) = finds_method s p m there.0 there.1 in
    record { handle = is.handle; count = is.count; argument = is.argument; behind = refl; room = is.room }

-- an index whose place is 0 has no constant, and one with a place has the constant that stands there
module _ {s : List ℕ} {slots : List Slot} {table : List ℕ} (noted : Noted s slots table) (i : ℕ) where
  pub no_place : get_or table i 0 ≡ 0 → (c : Constant) → slot_of slots i ≡ some (usable c) → ⊥
  no_place none' c is = let (any, there) = noted.begins i c is in omega arith

  pub at_place : 0 < get_or table i 0 → (c : Constant) × (slot_of slots i ≡ some (usable c)) × ConstantAt s (get_or table i 0) c
  at_place any = go (slot_of slots i) refl
    where
      go : (o : Option Slot) → slot_of slots i ≡ o → (c : Constant) × (slot_of slots i ≡ some (usable c)) × ConstantAt s (get_or table i 0) c
      go none e = absurd (omega (arith, noted.no_more i (λ c is. none≢some (sym e ∙ is))))
      go (some (usable c)) e = (c, e, (noted.begins i c e).1)
      go (some unusable) e = absurd (omega (arith, noted.no_more i (λ c is. let z : ◌≡◌ {A = ℕ} 0 1 = cc in omega arith)))
