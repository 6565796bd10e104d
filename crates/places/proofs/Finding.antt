-- What a reader finds at a place of bytes is read off the bytes there: items, and constants with their items. Assumes nothing.
use mathlib.Core.Bool.{Bool, true, false}
use mathlib.Core.List.{List, [], ◌∷◌, ◌++◌, append_assoc}
use mathlib.Core.Option.{Option, none, some}
use mathlib.Core.Path.{◌≡◌, refl, sym, ap, ap₂, subst, ◌∙◌}
use Prim.Native.Nat.{ℕ, zero, suc, ◌+◌, ◌*◌, ◌<◌, ◌≤◌}
use native.Mathlib.Decide.{dec_lt}
use native.Mathlib.Numerals.{add-one}
use native.Mathlib.Omega.{arith}
use lib.Dec.{eqb}
use lib.ListN.{length, take, drop, get_or, drop_of_length-le}
use lib.Seq.{drop-cons}
use borrow.Author.Tests.{eqb-true}
use Rattle.jvms.specs.Pool.{Reader, return, fail, and_then, ◌>>=◌, u1, u2, u4, array, Constant, Utf8, Integer, Float, Long, Double, Class, String, Fieldref, Methodref, InterfaceMethodref, NameAndType, MethodHandle, MethodType, Dynamic, InvokeDynamic, Module, Package, structures, structure, cp_info_lem, BootstrapMethod, bootstrap_method}
use Rattle.jvms.specs.Written.{bytes2, bytes4, constant_bytes, All}
use Rattle.writer.specs.Numbers.{number2, number4}
use Rattle.facts.proofs.Lists.{none≢some}
use Rattle.places.specs.Standing.{tag}

-- what is put in front of what was read: nothing, and one list before another
pub then_nothing : {A : Type 0} (o : Option (List A × List ℕ)) → o ≡ and_then o (λ more. return more)
then_nothing none = refl
then_nothing (some (l, left)) = refl

pub then_joined :
    {A : Type 0} (l m : List A) (o : Option (List A × List ℕ)) →
    and_then (and_then o (λ more. return (m ++ more))) (λ more. return (l ++ more)) ≡ and_then o (λ more. return (l ++ m ++ more))
then_joined l m none = refl
then_joined l m (some (n, left)) = ap (λ x. some (x, left)) (sym (append_assoc l m n))

-- what a reader finds at a place and the place that it leaves off at are so
abbrev pub Finds : {A : Type 0} → (A → ℕ → Type 0) → Reader A → List ℕ → ℕ → Type 0
Finds Q r s p = (a : _) (rest : List ℕ) → r (drop p s) ≡ some (a, rest) → (e : ℕ) × (e ≤ length s) × (rest ≡ drop e s) × Q a e

pub finds_fail : {A : Type 0} (Q : A → ℕ → Type 0) (s : List ℕ) (p : ℕ) → Finds Q fail s p
finds_fail Q s p a rest e = none≢some e

pub finds_return : {A : Type 0} (Q : A → ℕ → Type 0) (a : A) (s : List ℕ) (p : ℕ) → p ≤ length s → Q a p → Finds Q (return a) s p
finds_return {A} Q a s p inside h a' rest e =
    let same : ◌≡◌ {A = A × List ℕ} (a, drop p s) (a', rest) = cc in
    (p, inside, sym (ap (λ r. r.1) same), subst (λ x. Q x p) (ap (λ r. r.0) same) h)

pub finds_bind :
    {A B : Type 0} (P : A → ℕ → Type 0) (Q : B → ℕ → Type 0) (r : Reader A) (f : A → Reader B) (s : List ℕ) (p : ℕ) →
    Finds P r s p →
    ((a : A) (e : ℕ) → e ≤ length s → P a e → Finds Q (f a) s e) →
    Finds Q (r >>= f) s p
finds_bind P Q r f s p first next = go (r (drop p s)) refl
  where
    go :
        (o : Option (_ × List ℕ)) →
        r (drop p s) ≡ o →
        (b : _) (rest : List ℕ) → and_then o f ≡ some (b, rest) → (e : ℕ) × (e ≤ length s) × (rest ≡ drop e s) × Q b e
    go none h b rest k = none≢some k
    go (some (a, mid)) h b rest k =
        let (e, inside, left, is) = first a mid h in
        next a e inside is b rest (subst (λ l. f a l ≡ some (b, rest)) left k)

-- and it is what was read there
pub finds_itself :
    {A : Type 0} (Q : A → ℕ → Type 0) (r : Reader A) (s : List ℕ) (p : ℕ) → Finds Q r s p →
    Finds (λ a e. (r (drop p s) ≡ some (a, drop e s)) × Q a e) r s p
finds_itself Q r s p finds a rest read =
    let (e, inside, left, is) = finds a rest read in
    (e, inside, left, (read ∙ ap (λ l. some (a, l)) left, is))

-- a byte, and numbers of two and of four
pub finds_u1 : (s : List ℕ) (p : ℕ) → Finds (λ n e. (n ≡ get_or s p 0) × (e ≡ p + 1)) u1 s p
unfolding u1
finds_u1 s p = ways (dec_lt p (length s))
  where
    ways : Dec (p < length s) → Finds (λ n e. (n ≡ get_or s p 0) × (e ≡ p + 1)) u1 s p
    ways (yes h) n rest e =
        let here : u1 (drop p s) ≡ some (get_or s p 0, drop (suc p) s) = rw (drop-cons s p 0 h) in
        let same : ◌≡◌ {A = ℕ × List ℕ} (get_or s p 0, drop (suc p) s) (n, rest) = cc in
        (p + 1, omega arith, rw (add-one p) (sym (ap (λ r. r.1) same)), (sym (ap (λ r. r.0) same), refl))
    ways (no h) n rest e = let out : length s ≤ p = omega arith in none≢some (rw (drop_of_length-le s out) at e)

pub finds_u2 : (s : List ℕ) (p : ℕ) → Finds (λ n e. (n ≡ number2 s p) × (e ≡ p + 2)) u2 s p
unfolding u2
finds_u2 s p =
    finds_bind (λ n e. (n ≡ get_or s p 0) × (e ≡ p + 1)) _ u1 _ s p (finds_u1 s p) λ high e inside h.
    finds_bind (λ n e'. (n ≡ get_or s e 0) × (e' ≡ e + 1)) _ u1 _ s e (finds_u1 s e) λ low e' inside' k.
    finds_return _ _ s e' inside' (rw (h.0, k.0, h.1), omega arith)

pub finds_u4 : (s : List ℕ) (p : ℕ) → Finds (λ n e. (n ≡ number4 s p) × (e ≡ p + 4)) u4 s p
unfolding u4
finds_u4 s p =
    finds_bind (λ n e. (n ≡ number2 s p) × (e ≡ p + 2)) _ u2 _ s p (finds_u2 s p) λ high e inside h.
    finds_bind (λ n e'. (n ≡ number2 s e) × (e' ≡ e + 2)) _ u2 _ s e (finds_u2 s e) λ low e' inside' k.
    finds_return _ _ s e' inside' (rw (h.0, k.0, h.1), omega arith)

-- the bytes of a text
pub finds_text :
    (n : ℕ) (s : List ℕ) (p : ℕ) → p ≤ length s → Finds (λ l e. (l ≡ take n (drop p s)) × (length l ≡ n) × (e ≡ p + n)) (array n u1) s p
unfolding array
finds_text zero s p inside = finds_return _ [] s p inside (refl, refl, omega arith)
finds_text (suc n) s p inside =
    finds_bind (λ b e. (b ≡ get_or s p 0) × (e ≡ p + 1)) _ u1 _ s p (finds_u1 s p) λ b e in₁ h.
    finds_bind (λ l e'. (l ≡ take n (drop e s)) × (length l ≡ n) × (e' ≡ e + n)) _ (array n u1) _ s e (finds_text n s e in₁) λ l e' in₂ k.
    let here : p < length s = omega arith in
    finds_return _ _ s e' in₂ (rw (h.0, k.0, h.1, drop-cons s p 0 here, add-one p), ap suc k.1, omega arith)

-- where the items of a constant at a place stand
abbrev pub Fields : List ℕ → ℕ → Constant → Type 0
Fields s p (Utf8 b) = (length b ≡ number2 s (p + 1)) × (b ≡ take (number2 s (p + 1)) (drop (p + 3) s)) × (p + 3 + length b ≤ length s)
Fields s p (Integer n) = (n ≡ number4 s (p + 1)) × (p + 5 ≤ length s)
Fields s p (Float n) = (n ≡ number4 s (p + 1)) × (p + 5 ≤ length s)
Fields s p (Long m n) = (m ≡ number4 s (p + 1)) × (n ≡ number4 s (p + 5)) × (p + 9 ≤ length s)
Fields s p (Double m n) = (m ≡ number4 s (p + 1)) × (n ≡ number4 s (p + 5)) × (p + 9 ≤ length s)
Fields s p (Class n) = (n ≡ number2 s (p + 1)) × (p + 3 ≤ length s)
Fields s p (String n) = (n ≡ number2 s (p + 1)) × (p + 3 ≤ length s)
Fields s p (Fieldref m n) = (m ≡ number2 s (p + 1)) × (n ≡ number2 s (p + 3)) × (p + 5 ≤ length s)
Fields s p (Methodref m n) = (m ≡ number2 s (p + 1)) × (n ≡ number2 s (p + 3)) × (p + 5 ≤ length s)
Fields s p (InterfaceMethodref m n) = (m ≡ number2 s (p + 1)) × (n ≡ number2 s (p + 3)) × (p + 5 ≤ length s)
Fields s p (NameAndType m n) = (m ≡ number2 s (p + 1)) × (n ≡ number2 s (p + 3)) × (p + 5 ≤ length s)
Fields s p (MethodHandle m n) = (m ≡ get_or s (p + 1) 0) × (n ≡ number2 s (p + 2)) × (p + 4 ≤ length s)
Fields s p (MethodType n) = (n ≡ number2 s (p + 1)) × (p + 3 ≤ length s)
Fields s p (Dynamic m n) = (m ≡ number2 s (p + 1)) × (n ≡ number2 s (p + 3)) × (p + 5 ≤ length s)
Fields s p (InvokeDynamic m n) = (m ≡ number2 s (p + 1)) × (n ≡ number2 s (p + 3)) × (p + 5 ≤ length s)
Fields s p (Module n) = (n ≡ number2 s (p + 1)) × (p + 3 ≤ length s)
Fields s p (Package n) = (n ≡ number2 s (p + 1)) × (p + 3 ≤ length s)

-- a constant stands at a place, with its tag there and its items behind, and e is the place behind it
pub record Stands (s : List ℕ) (p : ℕ) (c : Constant) (e : ℕ) : Type 0 where
  pub inside : p < length s
  pub first : get_or s p 0 ≡ tag c
  pub fields : Fields s p c
  pub behind : e ≡ p + length (constant_bytes c)

-- the structures behind a tag t that stands there
module _ (s : List ℕ) (p t : ℕ) (there : get_or s p 0 ≡ t) where
  -- one item, of k bytes
  of_one :
      (f : ℕ → ℕ) (k : ℕ) (r : Reader ℕ) →
      ((a : ℕ) → Finds (λ n e. (n ≡ f a) × (e ≡ a + k)) r s a) →
      (C : ℕ → Constant) (end : ℕ) →
      end ≡ p + 1 + k →
      ((n : ℕ) → tag (C n) ≡ t) →
      ((n : ℕ) → (n ≡ f (p + 1)) × (end ≤ length s) → Fields s p (C n)) →
      ((n : ℕ) → end ≡ p + length (constant_bytes (C n))) →
      Finds (Stands s p) (r >>= λ n. return (C n)) s (p + 1)
  of_one f k r item C end ends tagged are size =
      finds_bind (λ n e. (n ≡ f (p + 1)) × (e ≡ p + 1 + k)) _ r _ s (p + 1) (item (p + 1)) λ n e inside h.
      finds_return (Stands s p) (C n) s e inside (record {
        inside = omega arith;
        first = there ∙ sym (tagged n);
        fields = are n (h.0, omega arith);
        behind = h.1 ∙ sym ends ∙ size n;
      })

  -- two items, of j bytes and of k
  of_two :
      (f g : ℕ → ℕ) (j k : ℕ) (r q : Reader ℕ) →
      ((a : ℕ) → Finds (λ n e. (n ≡ f a) × (e ≡ a + j)) r s a) →
      ((a : ℕ) → Finds (λ n e. (n ≡ g a) × (e ≡ a + k)) q s a) →
      (C : ℕ → ℕ → Constant) (mid end : ℕ) →
      mid ≡ p + 1 + j →
      end ≡ mid + k →
      ((m n : ℕ) → tag (C m n) ≡ t) →
      ((m n : ℕ) → (m ≡ f (p + 1)) × (n ≡ g mid) × (end ≤ length s) → Fields s p (C m n)) →
      ((m n : ℕ) → end ≡ p + length (constant_bytes (C m n))) →
      Finds (Stands s p) (r >>= λ m. q >>= λ n. return (C m n)) s (p + 1)
  of_two f g j k r q item item' C mid end mids ends tagged are size =
      finds_bind (λ n e. (n ≡ f (p + 1)) × (e ≡ p + 1 + j)) _ r _ s (p + 1) (item (p + 1)) λ m e in₁ x.
      finds_bind (λ n e'. (n ≡ g e) × (e' ≡ e + k)) _ q _ s e (item' e) λ n e' in₂ y.
      let there' : e ≡ mid = omega arith in
      let last : e' ≡ end = omega arith in
      finds_return (Stands s p) (C m n) s e' in₂ (record {
        inside = omega arith;
        first = there ∙ sym (tagged m n);
        fields = are m n (x.0, y.0 ∙ ap g there', omega arith);
        behind = last ∙ size m n;
      })

  of_index :
      (C : ℕ → Constant) → ((n : ℕ) → tag (C n) ≡ t) → ((n : ℕ) → (n ≡ number2 s (p + 1)) × (p + 3 ≤ length s) → Fields s p (C n)) →
      ((n : ℕ) → p + 3 ≡ p + length (constant_bytes (C n))) → Finds (Stands s p) (u2 >>= λ n. return (C n)) s (p + 1)
  of_index C = of_one (number2 s) 2 u2 (finds_u2 s) C (p + 3) (omega arith)

  of_four :
      (C : ℕ → Constant) → ((n : ℕ) → tag (C n) ≡ t) → ((n : ℕ) → (n ≡ number4 s (p + 1)) × (p + 5 ≤ length s) → Fields s p (C n)) →
      ((n : ℕ) → p + 5 ≡ p + length (constant_bytes (C n))) → Finds (Stands s p) (u4 >>= λ n. return (C n)) s (p + 1)
  of_four C = of_one (number4 s) 4 u4 (finds_u4 s) C (p + 5) (omega arith)

  of_indexes :
      (C : ℕ → ℕ → Constant) →
      ((m n : ℕ) → tag (C m n) ≡ t) →
      ((m n : ℕ) → (m ≡ number2 s (p + 1)) × (n ≡ number2 s (p + 3)) × (p + 5 ≤ length s) → Fields s p (C m n)) →
      ((m n : ℕ) → p + 5 ≡ p + length (constant_bytes (C m n))) →
      Finds (Stands s p) (u2 >>= λ m. u2 >>= λ n. return (C m n)) s (p + 1)
  of_indexes C = of_two (number2 s) (number2 s) 2 2 u2 u2 (finds_u2 s) (finds_u2 s) C (p + 3) (p + 5) (omega arith) (omega arith)

  of_eight :
      (C : ℕ → ℕ → Constant) →
      ((m n : ℕ) → tag (C m n) ≡ t) →
      ((m n : ℕ) → (m ≡ number4 s (p + 1)) × (n ≡ number4 s (p + 5)) × (p + 9 ≤ length s) → Fields s p (C m n)) →
      ((m n : ℕ) → p + 9 ≡ p + length (constant_bytes (C m n))) →
      Finds (Stands s p) (u4 >>= λ m. u4 >>= λ n. return (C m n)) s (p + 1)
  of_eight C = of_two (number4 s) (number4 s) 4 4 u4 u4 (finds_u4 s) (finds_u4 s) C (p + 5) (p + 9) (omega arith) (omega arith)

  of_handle :
      t ≡ 15 → Finds (Stands s p) (u1 >>= λ m. u2 >>= λ n. return (MethodHandle m n)) s (p + 1)
  unfolding tag constant_bytes bytes2
  of_handle is =
      of_two (λ a. get_or s a 0) (number2 s) 1 2 u1 u2 (finds_u1 s) (finds_u2 s) MethodHandle (p + 2) (p + 4) (omega arith) (omega arith)
      (λ m n. sym is) (λ m n h. h) (λ m n. refl)

  of_text : t ≡ 1 → Finds (Stands s p) (u2 >>= λ n. array n u1 >>= λ b. return (Utf8 b)) s (p + 1)
  unfolding tag constant_bytes bytes2
  of_text is =
      finds_bind (λ n e. (n ≡ number2 s (p + 1)) × (e ≡ p + 1 + 2)) _ u2 _ s (p + 1) (finds_u2 s (p + 1)) λ n e in₁ x.
      finds_bind (λ l e'. (l ≡ take n (drop e s)) × (length l ≡ n) × (e' ≡ e + n)) _ (array n u1) _ s e (finds_text n s e in₁) λ b e' in₂ y.
      let place : e ≡ p + 3 = omega arith in
      finds_return (Stands s p) (Utf8 b) s e' in₂ (record {
        inside = omega arith;
        first = there ∙ is;
        fields = (y.1 ∙ x.0, y.0 ∙ ap₂ (λ n e. take n (drop e s)) x.0 place, omega arith);
        behind = omega arith;
      })

-- a structure finds, behind its tag, a constant that stands there
abbrev Right : ℕ × Reader Constant → Type 0
Right r = (s : List ℕ) (p : ℕ) → get_or s p 0 ≡ r.0 → Finds (Stands s p) r.1 s (p + 1)

infixr 5 ◌&◌
◌&◌ : {A B : Type 0} → A → B → A × B
◌&◌ a b = (a, b)

each_right : All Right structures
unfolding All structures tag constant_bytes bytes2 bytes4
each_right =
    (λ s p h. of_text s p 1 h refl)
    & (λ s p h. of_four s p 3 h Integer (λ n. refl) (λ n k. k) (λ n. refl))
    & (λ s p h. of_four s p 4 h Float (λ n. refl) (λ n k. k) (λ n. refl))
    & (λ s p h. of_eight s p 5 h Long (λ m n. refl) (λ m n k. k) (λ m n. refl))
    & (λ s p h. of_eight s p 6 h Double (λ m n. refl) (λ m n k. k) (λ m n. refl))
    & (λ s p h. of_index s p 7 h Class (λ n. refl) (λ n k. k) (λ n. refl))
    & (λ s p h. of_index s p 8 h String (λ n. refl) (λ n k. k) (λ n. refl))
    & (λ s p h. of_indexes s p 9 h Fieldref (λ m n. refl) (λ m n k. k) (λ m n. refl))
    & (λ s p h. of_indexes s p 10 h Methodref (λ m n. refl) (λ m n k. k) (λ m n. refl))
    & (λ s p h. of_indexes s p 11 h InterfaceMethodref (λ m n. refl) (λ m n k. k) (λ m n. refl))
    & (λ s p h. of_indexes s p 12 h NameAndType (λ m n. refl) (λ m n k. k) (λ m n. refl))
    & (λ s p h. of_handle s p 15 h refl)
    & (λ s p h. of_index s p 16 h MethodType (λ n. refl) (λ n k. k) (λ n. refl))
    & (λ s p h. of_indexes s p 17 h Dynamic (λ m n. refl) (λ m n k. k) (λ m n. refl))
    & (λ s p h. of_indexes s p 18 h InvokeDynamic (λ m n. refl) (λ m n k. k) (λ m n. refl))
    & (λ s p h. of_index s p 19 h Module (λ n. refl) (λ n k. k) (λ n. refl))
    & (λ s p h. of_index s p 20 h Package (λ n. refl) (λ n k. k) (λ n. refl))
    & tt

of_tag_lem : (s : List ℕ) (p t : ℕ) → get_or s p 0 ≡ t → (l : List (ℕ × Reader Constant)) → All Right l → Finds (Stands s p) (structure t l) s (p + 1)
unfolding structure All
of_tag_lem s p t there [] h = finds_fail (Stands s p) s (p + 1)
of_tag_lem s p t there (r ∷ l) h = go (eqb t r.0) refl (of_tag_lem s p t there l h.1)
  where
    go :
        (b : Bool) → eqb t r.0 ≡ b → Finds (Stands s p) (structure t l) s (p + 1) →
        Finds (Stands s p) (elim b [ true ↦ r.1 | false ↦ structure t l ]) s (p + 1)
    go true e rest = h.0 s p (there ∙ eqb-true t r.0 e)
    go false e rest = rest

pub finds_constant : (s : List ℕ) (p : ℕ) → Finds (Stands s p) cp_info_lem s p
unfolding cp_info_lem
finds_constant s p =
    finds_bind (λ n e. (n ≡ get_or s p 0) × (e ≡ p + 1)) (Stands s p) u1 _ s p (finds_u1 s p) λ t e inside h.
    rw h.1 (of_tag_lem s p t (sym h.0) structures each_right)

-- indexes, one after the other
abbrev Indexes : ℕ → List ℕ → ℕ → List ℕ → ℕ → Type 0
Indexes n s p l e = (length l ≡ n) × ((k : ℕ) → k < n → get_or l k 0 ≡ number2 s (p + 2 * k)) × (e ≡ p + 2 * n)

finds_indexes : (n : ℕ) (s : List ℕ) (p : ℕ) → p ≤ length s → Finds (Indexes n s p) (array n u2) s p
unfolding array
finds_indexes zero s p inside = finds_return _ [] s p inside (refl, (λ k h. absurd (omega arith)), omega arith)
finds_indexes (suc n) s p inside =
    finds_bind (λ x e. (x ≡ number2 s p) × (e ≡ p + 2)) _ u2 _ s p (finds_u2 s p) λ x e in₁ h.
    finds_bind (Indexes n s e) _ (array n u2) _ s e (finds_indexes n s e in₁) λ l e' in₂ k.
    finds_return _ _ s e' in₂ (ap suc k.0, each x e l h.0 h.1 k.1, omega arith)
  where
    each :
        (x e : ℕ) (l : List ℕ) → x ≡ number2 s p → e ≡ p + 2 → ((k : ℕ) → k < n → get_or l k 0 ≡ number2 s (e + 2 * k)) →
        (k : ℕ) → k < suc n → get_or (x ∷ l) k 0 ≡ number2 s (p + 2 * k)
    each x e l is next rest zero h = let here : p + 2 * 0 ≡ p = omega arith in rw here is
    each x e l is next rest (suc k) h =
        let there : e + 2 * k ≡ p + 2 * suc k = omega arith in
        rw (← there) (rest k (omega arith))

-- a bootstrap method stands at a place: its handle, the number of its arguments and the arguments, and e is the place behind it
pub record MethodStands (s : List ℕ) (p : ℕ) (m : BootstrapMethod) (e : ℕ) : Type 0 where
  pub handle : m.bootstrap_method_ref ≡ number2 s p
  pub count : length m.bootstrap_arguments ≡ number2 s (p + 2)
  pub argument : (k : ℕ) → k < length m.bootstrap_arguments → get_or m.bootstrap_arguments k 0 ≡ number2 s (p + 4 + 2 * k)
  pub behind : e ≡ p + 4 + 2 * length m.bootstrap_arguments
  pub room : p + 4 + 2 * length m.bootstrap_arguments ≤ length s

pub finds_method : (s : List ℕ) (p : ℕ) → Finds (MethodStands s p) bootstrap_method s p
unfolding bootstrap_method
finds_method s p =
    finds_bind (λ x e. (x ≡ number2 s p) × (e ≡ p + 2)) (MethodStands s p) u2 _ s p (finds_u2 s p) λ x e in₁ h.
    finds_bind (λ n e'. (n ≡ number2 s e) × (e' ≡ e + 2)) (MethodStands s p) u2 _ s e (finds_u2 s e) λ n e' in₂ k.
    finds_bind (Indexes n s e') (MethodStands s p) (array n u2) _ s e' (finds_indexes n s e' in₂) λ l e'' in₃ j.
    let second : e' ≡ p + 4 = omega arith in
    finds_return (MethodStands s p) (record { bootstrap_method_ref = x; bootstrap_arguments = l }) s e'' in₃ (record {
      handle = h.0;
      count = j.0 ∙ k.0 ∙ ap (number2 s) h.1;
      argument = λ i low. rw (← second) (j.1 i (omega (arith, j.0)));
      behind = omega (arith, j.0, j.2);
      room = omega (arith, j.0, j.2);
    })
