-- What is read from bytes is what they spell: items, constants, slots and bootstrap methods. Assumes nothing.
use mathlib.Core.Bool.{Bool, true, false}
use mathlib.Core.List.{List, [], ◌∷◌, ◌++◌, append-nil, append_assoc}
use mathlib.Core.Option.{Option, none, some}
use mathlib.Core.Path.{◌≡◌, refl, sym, ap, subst, ◌∙◌}
use Prim.Native.Nat.{ℕ, zero, suc, ◌+◌, ◌*◌, ◌/◌, ◌%◌}
use native.Mathlib.Omega.{arith}
use lib.Dec.{eqb}
use lib.ListN.{length}
use borrow.Author.Tests.{eqb-true}
use Rattle.jvms.specs.Pool.{Reader, return, fail, and_then, ◌>>=◌, u1, u2, u4, array, Constant, Utf8, Integer, Float, Long, Double, Class, String, Fieldref, Methodref, InterfaceMethodref, NameAndType, MethodHandle, MethodType, Dynamic, InvokeDynamic, Module, Package, structures, structure, cp_info_lem, takes_two, usable, unusable, slots, constant_pool, wholly, bootstrap_method}
use Rattle.jvms.specs.Written.{bytes2, bytes4, each_of, constant_bytes, slot_bytes_lem, pool_bytes, bootstrap_method_bytes, Is1, Is2, Is4, All, IsConstant, InOrder, IsPool, IsBootstrapMethod}
use Rattle.facts.proofs.Lists.{none≢some}
use Rattle.laws.specs.Statements.{IsBytes}

-- bytes, one by one
pub all_bytes : (l : List ℕ) → IsBytes l → All Is1 l
unfolding All
all_bytes [] h = tt
all_bytes (b ∷ l) h = (h 0, all_bytes l (λ i. h (suc i)))

-- what was read from bytes, the bytes that were used, and what is so of both
pub record Took {A : Type 0} (Q : A → List ℕ → Type 0) (bytes : List ℕ) (a : A) (rest : List ℕ) : Type 0 where
  pub used : List ℕ
  pub are : bytes ≡ used ++ rest
  pub left : All Is1 rest
  pub is : Q a used

abbrev pub Takes : {A : Type 0} → (A → List ℕ → Type 0) → Reader A → Type 0
Takes Q r = (bytes : List ℕ) → All Is1 bytes → (a : _) (rest : List ℕ) → r bytes ≡ some (a, rest) → Took Q bytes a rest

takes_fail : {A : Type 0} (Q : A → List ℕ → Type 0) → Takes Q fail
takes_fail Q bytes b a rest e = none≢some e

takes_return : {A : Type 0} (Q : A → List ℕ → Type 0) (a : A) → Q a [] → Takes Q (return a)
takes_return {A} Q a h bytes b a' rest e =
    let same : ◌≡◌ {A = A × List ℕ} (a, bytes) (a', rest) = cc in
    record {
      used = [];
      are = ap (λ r. r.1) same;
      left = subst (All Is1) (ap (λ r. r.1) same) b;
      is = subst (λ x. Q x []) (ap (λ r. r.0) same) h;
    }

-- one after the other
takes_bind :
    {A B : Type 0} (P : A → List ℕ → Type 0) (Q : B → List ℕ → Type 0) (r : Reader A) (f : A → Reader B) →
    Takes P r →
    ((a : A) (used : List ℕ) → P a used → Takes (λ b more. Q b (used ++ more)) (f a)) →
    Takes Q (r >>= f)
takes_bind P Q r f tr tf bytes b = go (r bytes) refl
  where
    go : (o : Option (_ × List ℕ)) → r bytes ≡ o → (c : _) (rest : List ℕ) → and_then o f ≡ some (c, rest) → Took Q bytes c rest
    go none e c rest h = none≢some h
    go (some (a, mid)) e c rest h =
        let g = tr bytes b a mid e in
        let k = tf a g.used g.is mid g.left c rest h in
        record {
          used = g.used ++ k.used;
          are = g.are ∙ ap (λ l. g.used ++ l) k.are ∙ sym (append_assoc g.used k.used rest);
          left = k.left;
          is = k.is;
        }

-- an item: it fits, and the bytes used are its bytes
abbrev pub Item : {A : Type 0} → (A → Type 0) → (A → List ℕ) → Reader A → Type 0
Item P W r = Takes (λ a used. P a × (used ≡ W a)) r

pub item_u1 : Item Is1 (λ n. n ∷ []) u1
unfolding u1 All
item_u1 [] b a rest e = none≢some e
item_u1 (x ∷ bytes) b a rest e =
    let same : ◌≡◌ {A = ℕ × List ℕ} (x, bytes) (a, rest) = cc in
    record {
      used = x ∷ [];
      are = ap (λ r. x ∷ r.1) same;
      left = subst (All Is1) (ap (λ r. r.1) same) b.1;
      is = subst (λ n. Is1 n × (x ∷ [] ≡ n ∷ [])) (ap (λ r. r.0) same) (b.0, refl);
    }

-- the bytes of a number of two and of four bytes
pub two_bytes : (x y : ℕ) → Is1 x → Is1 y → x ∷ y ∷ [] ≡ bytes2 (256 * x + y)
unfolding bytes2
two_bytes x y hx hy =
    let p : (256 * x + y) / 256 ≡ x = omega arith in
    let q : (256 * x + y) % 256 ≡ y = omega arith in
    rw (p, q)

pub four_bytes : (x y : ℕ) → Is2 x → Is2 y → bytes2 x ++ bytes2 y ≡ bytes4 (65536 * x + y)
unfolding bytes4
four_bytes x y hx hy =
    let p : (65536 * x + y) / 65536 ≡ x = omega arith in
    let q : (65536 * x + y) % 65536 ≡ y = omega arith in
    rw (p, q)

pub item_u2 : Item Is2 bytes2 u2
unfolding u2
item_u2 =
    takes_bind (λ a used. Is1 a × (used ≡ a ∷ [])) (λ a used. Is2 a × (used ≡ bytes2 a)) u1 _ item_u1 λ x used hx.
    takes_bind (λ a more. Is1 a × (more ≡ a ∷ [])) (λ a more. Is2 a × (used ++ more ≡ bytes2 a)) u1 _ item_u1 λ y more hy.
    takes_return _ (256 * x + y) (omega (arith, hx.0, hy.0), rw (hx.1, hy.1) (two_bytes x y hx.0 hy.0))

pub item_u4 : Item Is4 bytes4 u4
unfolding u4
item_u4 =
    takes_bind (λ a used. Is2 a × (used ≡ bytes2 a)) (λ a used. Is4 a × (used ≡ bytes4 a)) u2 _ item_u2 λ x used hx.
    takes_bind (λ a more. Is2 a × (more ≡ bytes2 a)) (λ a more. Is4 a × (used ++ more ≡ bytes4 a)) u2 _ item_u2 λ y more hy.
    takes_return _ (65536 * x + y) (omega (arith, hx.0, hy.0), rw (append-nil, hx.1, hy.1) (four_bytes x y hx.0 hy.0))

-- so many items
pub item_array : {A : Type 0} (P : A → Type 0) (W : A → List ℕ) (r : Reader A) → Item P W r → (n : ℕ) → Item (λ l. (length l ≡ n) × All P l) (each_of W) (array n r)
unfolding array All each_of
item_array P W r item zero = takes_return _ [] ((refl, tt), refl)
item_array P W r item (suc n) =
    takes_bind (λ a used. P a × (used ≡ W a)) _ r _ item λ a used ha.
    takes_bind (λ l more. ((length l ≡ n) × All P l) × (more ≡ each_of W l)) _ (array n r) _ (item_array P W r item n) λ l more hl.
    takes_return _ (a ∷ l) ((ap suc hl.0.0, (ha.0, hl.0.1)), rw (append-nil, ha.1, hl.1))

-- ---- a constant's structure: its tag and the bytes used are the constant's

abbrev Whole : ℕ → Constant → List ℕ → Type 0
Whole tag c used = IsConstant c × (tag ∷ used ≡ constant_bytes c)

-- of one item, and of two
module _ {A : Type 0} (tag : ℕ) (P : A → Type 0) (W : A → List ℕ) (r : Reader A) (item : Item P W r) where
  of_one :
      (C : A → Constant) →
      ((a : A) → P a → IsConstant (C a)) →
      ((a : A) → tag ∷ W a ≡ constant_bytes (C a)) →
      Takes (Whole tag) (r >>= λ a. return (C a))
  of_one C fits same =
      takes_bind (λ a used. P a × (used ≡ W a)) (Whole tag) r _ item λ a used h.
      takes_return _ (C a) (fits a h.0, rw (append-nil, h.1) (same a))

  of_two :
      {B : Type 0} (P' : B → Type 0) (W' : B → List ℕ) (r' : Reader B) →
      Item P' W' r' →
      (C : A → B → Constant) →
      ((a : A) (b : B) → P a → P' b → IsConstant (C a b)) →
      ((a : A) (b : B) → tag ∷ (W a ++ W' b) ≡ constant_bytes (C a b)) →
      Takes (Whole tag) (r >>= λ a. r' >>= λ b. return (C a b))
  of_two P' W' r' item' C fits same =
      takes_bind (λ a used. P a × (used ≡ W a)) (Whole tag) r _ item λ a used h.
      takes_bind (λ b more. P' b × (more ≡ W' b)) (λ c more. Whole tag c (used ++ more)) r' _ item' λ b more k.
      takes_return _ (C a b) (fits a b h.0 k.0, rw (append-nil, h.1, k.1) (same a b))

-- the bytes of a text
pub all_one : (bytes : List ℕ) → each_of (λ b. b ∷ []) bytes ≡ bytes
unfolding each_of
all_one [] = refl
all_one (b ∷ bytes) = ap (λ l. b ∷ l) (all_one bytes)

of_text : Takes (Whole 1) (u2 >>= λ size. array size u1 >>= λ bytes. return (Utf8 bytes))
unfolding IsConstant constant_bytes
of_text =
    takes_bind (λ a used. Is2 a × (used ≡ bytes2 a)) (Whole 1) u2 _ item_u2 λ n used h.
    takes_bind (λ l more. ((length l ≡ n) × All Is1 l) × (more ≡ each_of (λ b. b ∷ []) l)) (λ c more. Whole 1 c (used ++ more)) (array n u1) _ (item_array Is1 (λ b. b ∷ []) u1 item_u1 n) λ l more k.
    takes_return _ (Utf8 l) ((rw k.0.0 h.0, k.0.1), rw (append-nil, h.1, k.1, all_one, k.0.0))

of_index : (tag : ℕ) (C : ℕ → Constant) → ((a : ℕ) → Is2 a → IsConstant (C a)) → ((a : ℕ) → tag ∷ bytes2 a ≡ constant_bytes (C a)) → Takes (Whole tag) (u2 >>= λ a. return (C a))
of_index tag = of_one tag Is2 bytes2 u2 item_u2

of_indexes :
    (tag : ℕ) (C : ℕ → ℕ → Constant) →
    ((a b : ℕ) → Is2 a → Is2 b → IsConstant (C a b)) →
    ((a b : ℕ) → tag ∷ (bytes2 a ++ bytes2 b) ≡ constant_bytes (C a b)) →
    Takes (Whole tag) (u2 >>= λ a. u2 >>= λ b. return (C a b))
of_indexes tag = of_two tag Is2 bytes2 u2 item_u2 Is2 bytes2 u2 item_u2

of_bits_lem :
    (tag : ℕ) (C : ℕ → ℕ → Constant) →
    ((a b : ℕ) → Is4 a → Is4 b → IsConstant (C a b)) →
    ((a b : ℕ) → tag ∷ (bytes4 a ++ bytes4 b) ≡ constant_bytes (C a b)) →
    Takes (Whole tag) (u4 >>= λ a. u4 >>= λ b. return (C a b))
of_bits_lem tag = of_two tag Is4 bytes4 u4 item_u4 Is4 bytes4 u4 item_u4

-- one and then the others
infixr 5 ◌&◌
◌&◌ : {A B : Type 0} → A → B → A × B
◌&◌ a b = (a, b)

each_structure : All (λ (s : ℕ × Reader Constant). Takes (Whole s.0) s.1) structures
unfolding All structures IsConstant constant_bytes
each_structure =
    of_text
    & of_one 3 Is4 bytes4 u4 item_u4 Integer (λ a h. h) (λ a. refl)
    & of_one 4 Is4 bytes4 u4 item_u4 Float (λ a h. h) (λ a. refl)
    & of_bits_lem 5 Long (λ a b h k. (h, k)) (λ a b. refl)
    & of_bits_lem 6 Double (λ a b h k. (h, k)) (λ a b. refl)
    & of_index 7 Class (λ a h. h) (λ a. refl)
    & of_index 8 String (λ a h. h) (λ a. refl)
    & of_indexes 9 Fieldref (λ a b h k. (h, k)) (λ a b. refl)
    & of_indexes 10 Methodref (λ a b h k. (h, k)) (λ a b. refl)
    & of_indexes 11 InterfaceMethodref (λ a b h k. (h, k)) (λ a b. refl)
    & of_indexes 12 NameAndType (λ a b h k. (h, k)) (λ a b. refl)
    & of_two 15 Is1 (λ n. n ∷ []) u1 item_u1 Is2 bytes2 u2 item_u2 MethodHandle (λ a b h k. (h, k)) (λ a b. refl)
    & of_index 16 MethodType (λ a h. h) (λ a. refl)
    & of_indexes 17 Dynamic (λ a b h k. (h, k)) (λ a b. refl)
    & of_indexes 18 InvokeDynamic (λ a b h k. (h, k)) (λ a b. refl)
    & of_index 19 Module (λ a h. h) (λ a. refl)
    & of_index 20 Package (λ a h. h) (λ a. refl)
    & tt

of_tag_lem : (tag : ℕ) (l : List (ℕ × Reader Constant)) → All (λ (s : ℕ × Reader Constant). Takes (Whole s.0) s.1) l → Takes (Whole tag) (structure tag l)
unfolding structure All
of_tag_lem tag [] h = takes_fail (Whole tag)
of_tag_lem tag (s ∷ l) h = go (eqb tag s.0) refl (of_tag_lem tag l h.1)
  where
    go : (b : Bool) → eqb tag s.0 ≡ b → Takes (Whole tag) (structure tag l) → Takes (Whole tag) (elim b [ true ↦ s.1 | false ↦ structure tag l ])
    go true e rest = subst (λ t. Takes (Whole t) s.1) (sym (eqb-true tag s.0 e)) h.0
    go false e rest = rest

pub item_constant : Item IsConstant constant_bytes cp_info_lem
unfolding cp_info_lem
item_constant =
    takes_bind (λ a used. Is1 a × (used ≡ a ∷ [])) (λ c used. IsConstant c × (used ≡ constant_bytes c)) u1 _ item_u1 λ tag used h.
    rw h.1 (of_tag_lem tag structures each_structure)

-- slots
pub takes_slots : (n : ℕ) (w : Bool) → Takes (λ s used. (InOrder w s × (length s ≡ n)) × (used ≡ each_of slot_bytes_lem s)) (slots n w)
unfolding slots InOrder each_of slot_bytes_lem
takes_slots zero false = takes_return _ [] ((tt, refl), refl)
takes_slots zero true = takes_fail _
takes_slots (suc n) false =
    takes_bind (λ c used. IsConstant c × (used ≡ constant_bytes c)) _ cp_info_lem _ item_constant λ c used h.
    takes_bind (λ s more. (InOrder (takes_two c) s × (length s ≡ n)) × (more ≡ each_of slot_bytes_lem s)) _ (slots n (takes_two c)) _ (takes_slots n (takes_two c)) λ s more k.
    takes_return _ (usable c ∷ s) (((h.0, k.0.0), ap suc k.0.1), rw (append-nil, h.1, k.1))
takes_slots (suc n) true =
    takes_bind (λ s more. (InOrder false s × (length s ≡ n)) × (more ≡ each_of slot_bytes_lem s)) _ (slots n false) _ (takes_slots n false) λ s more k.
    takes_return _ (unusable ∷ s) ((k.0.0, ap suc k.0.1), rw (append-nil, k.1))

takes_below : (n : ℕ) (used : List ℕ) → Is2 n × (used ≡ bytes2 n) → Takes (λ s more. IsPool s × (used ++ more ≡ pool_bytes s)) (constant_pool n)
unfolding constant_pool pool_bytes
takes_below zero used h bytes b s rest e = none≢some e
takes_below (suc n) used h bytes b s rest e =
    let g = takes_slots n false bytes b s rest e in
    record {
      used = g.used;
      are = g.are;
      left = g.left;
      is = ((rw g.is.0.1 h.0, g.is.0.0), rw (h.1, g.is.1, g.is.0.1));
    }

pub takes_pool : Takes (λ s used. IsPool s × (used ≡ pool_bytes s)) (u2 >>= constant_pool)
takes_pool = takes_bind (λ a used. Is2 a × (used ≡ bytes2 a)) _ u2 _ item_u2 takes_below

-- bootstrap methods
pub item_method : Item IsBootstrapMethod bootstrap_method_bytes bootstrap_method
unfolding bootstrap_method bootstrap_method_bytes
item_method =
    takes_bind (λ a used. Is2 a × (used ≡ bytes2 a)) (λ c used. IsBootstrapMethod c × (used ≡ bootstrap_method_bytes c)) u2 _ item_u2 λ m used h.
    takes_bind (λ a more. Is2 a × (more ≡ bytes2 a)) _ u2 _ item_u2 λ n more k.
    takes_bind (λ l last. ((length l ≡ n) × All Is2 l) × (last ≡ each_of bytes2 l)) _ (array n u2) _ (item_array Is2 bytes2 u2 item_u2 n) λ l last j.
    takes_return _ (record { bootstrap_method_ref = m; bootstrap_arguments = l })
    ((h.0, rw j.0.0 k.0, j.0.1), rw (append-nil, h.1, k.1, j.1, j.0.0) (sym (append_assoc (bytes2 m) (bytes2 n) (each_of bytes2 l))))

-- nothing is left over
pub wholly-some : {A : Type 0} (o : Option (A × List ℕ)) (a : A) → wholly o ≡ some a → o ≡ some (a, [])
unfolding wholly
wholly-some none a e = none≢some e
wholly-some (some (x, [])) a e = cc
wholly-some (some (x, b ∷ bytes)) a e = none≢some e
