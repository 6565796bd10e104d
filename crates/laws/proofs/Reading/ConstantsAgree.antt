-- Of bytes, the definition's reader of an entry, which goes by the table of shapes, reads the same as that of a constant written from JVMS.
-- Assumes nothing.
use mathlib.Core.Bool.{Bool, true, false}
use mathlib.Core.List.{List, [], ◌∷◌, ◌++◌, map, map-id}
use mathlib.Core.Option.{Option, none, some}
use mathlib.Core.Path.{◌≡◌, refl, sym, ap, ap₂, subst, ◌∙◌}
use Prim.Native.Nat.{ℕ, zero, suc, ◌+◌, ◌*◌}
use native.Mathlib.Omega.{arith}
use lib.Dec.{eqb}
use borrow.Author.Tests.{eqb-true}
use Rattle.definition.specs.Basics.{lookup}
use Rattle.definition.specs.Bytes.{one, two, many}
use Rattle.definition.specs.Shapes.{Field, shapes, Entry, with_kids, with_literal, with_byte, read_fields, read_entry}
use Rattle.definition.specs.Jvms.{index, of_tag, cp_info}
use Rattle.jvms.specs.Pool.{Reader, return, and_then, ◌>>=◌, u1, u2, u4, array, Constant, Utf8, Integer, Float, Long, Double, Class, String, Fieldref, Methodref, InterfaceMethodref, NameAndType, MethodHandle, MethodType, Dynamic, InvokeDynamic, Module, Package, structures, structure, cp_info_lem}
use Rattle.jvms.specs.Written.{bytes4, Is1, All}
use Rattle.facts.proofs.Lists.{none≢some}
use Rattle.laws.specs.AsEntries.{entry_of, as_entry}
use Rattle.laws.proofs.Reading.ReadIsSpelled.{Takes, two_bytes, four_bytes, item_u1, item_u2, item_u4, item_constant}
use Rattle.definition.specs.Bytes as parse

-- what was read, in another form
abbrev pub over : {A B : Type 0} → (A → B) → Option (A × List ℕ) → Option (B × List ℕ)
over f none = none
over f (some r) = some (f r.0, r.1)

-- a parser reads from bytes what a reader reads, in another form
abbrev pub Agree : {A B : Type 0} → (A → B) → parse.Parser B → Reader A → Type 0
Agree f p r = (bytes : List ℕ) → All Is1 bytes → p bytes ≡ over f (r bytes)

-- what a reader leaves are bytes
abbrev pub Leaves : {A : Type 0} → Reader A → Type 0
Leaves r = (bytes : List ℕ) → All Is1 bytes → (a : _) (rest : List ℕ) → r bytes ≡ some (a, rest) → All Is1 rest

pub leaves : {A : Type 0} (Q : A → List ℕ → Type 0) (r : Reader A) → Takes Q r → Leaves r
leaves Q r t bytes b a rest e = (t bytes b a rest e).left

leaves_u1 : Leaves u1
leaves_u1 = leaves _ u1 item_u1

pub leaves_u2 : Leaves u2
leaves_u2 = leaves _ u2 item_u2

leaves_u4 : Leaves u4
leaves_u4 = leaves _ u4 item_u4

leaves_return : {A : Type 0} (a : A) → Leaves (return a)
leaves_return {A} a bytes b a' rest e =
    let same : ◌≡◌ {A = A × List ℕ} (a, bytes) (a', rest) = cc in
    subst (All Is1) (ap (λ r. r.1) same) b

leaves_bind : {A B : Type 0} (r : Reader A) (f : A → Reader B) → Leaves r → ((a : A) → Leaves (f a)) → Leaves (r >>= f)
leaves_bind r f left next bytes b = go (r bytes) refl
  where
    go : (o : Option (_ × List ℕ)) → r bytes ≡ o → (c : _) (rest : List ℕ) → and_then o f ≡ some (c, rest) → All Is1 rest
    go none e c rest h = none≢some h
    go (some (a, mid)) e c rest h = next a mid (left bytes b a mid e) c rest h

pub leaves_array : {A : Type 0} (r : Reader A) → Leaves r → (n : ℕ) → Leaves (array n r)
unfolding array
leaves_array r left zero = leaves_return []
leaves_array r left (suc n) = leaves_bind r _ left λ a. leaves_bind (array n r) _ (leaves_array r left n) λ l. leaves_return (a ∷ l)

-- one after the other
pub agree_bind :
    {A A' B B' : Type 0} (f : A → A') (h : B → B') (p : parse.Parser A') (r : Reader A) (g : A' → parse.Parser B') (k : A → Reader B) →
    Leaves r →
    Agree f p r →
    ((a : A) → Agree h (g (f a)) (k a)) →
    Agree h (parse.◌>>=◌ p g) (r >>= k)
agree_bind f h p r g k left same next bytes b = go (r bytes) refl
  where
    go : (o : Option (_ × List ℕ)) → r bytes ≡ o → parse.and_then (p bytes) g ≡ over h (and_then o k)
    go none e = ap (λ o. parse.and_then o g) (same bytes b ∙ ap (over f) e)
    go (some (a, rest)) e = ap (λ o. parse.and_then o g) (same bytes b ∙ ap (over f) e) ∙ next a rest (left bytes b a rest e)

-- ---- items

agree_one : Agree (λ n. n) one u1
unfolding one u1
agree_one [] b = refl
agree_one (x ∷ bytes) b = refl

pub agree_two : Agree (λ n. n) two u2
unfolding two one u2 u1
agree_two [] b = refl
agree_two (x ∷ []) b = refl
agree_two (x ∷ y ∷ bytes) b = refl

-- the four bytes of a number
four-back : (x y z w : ℕ) → Is1 x → Is1 y → Is1 z → Is1 w → x ∷ y ∷ z ∷ w ∷ [] ≡ bytes4 (65536 * (256 * x + y) + (256 * z + w))
four-back x y z w hx hy hz hw =
    ap₂ (λ l m. l ++ m) (two_bytes x y hx hy) (two_bytes z w hz hw) ∙ four_bytes (256 * x + y) (256 * z + w) (omega arith) (omega arith)

agree_four : Agree bytes4 (many 4 one) u4
unfolding many one u4 u2 u1 All
agree_four [] b = refl
agree_four (x ∷ []) b = refl
agree_four (x ∷ y ∷ []) b = refl
agree_four (x ∷ y ∷ z ∷ []) b = refl
agree_four (x ∷ y ∷ z ∷ w ∷ bytes) b =
    ap (λ l. some (l, bytes)) (four-back x y z w b.0 b.1.0 b.1.1.0 b.1.1.1.0)

-- so many
pub agree_many : {A B : Type 0} (f : A → B) (p : parse.Parser B) (r : Reader A) → Leaves r → Agree f p r → (n : ℕ) → Agree (map f) (many n p) (array n r)
unfolding many array
agree_many f p r left same zero = λ bytes b. refl
agree_many f p r left same (suc n) =
    agree_bind f (map f) p r _ _ left same λ a.
    agree_bind (map f) (map f) (many n p) (array n r) _ _ (leaves_array r left n) (agree_many f p r left same n) λ l bytes b. refl

-- items as they are, bytes and indexes
pub agree_plain : (p : parse.Parser ℕ) (r : Reader ℕ) → Leaves r → Agree (λ n. n) p r → (n : ℕ) → Agree (λ l. l) (many n p) (array n r)
agree_plain p r left same n bytes b = agree_many (λ n. n) p r left same n bytes b ∙ go (array n r bytes)
  where
    go : (o : Option (List ℕ × List ℕ)) → over (map (λ n. n)) o ≡ over (λ l. l) o
    go none = refl
    go (some (l, rest)) = ap (λ l. some (l, rest)) (map-id l)

-- ---- structures, of one index, of two, of a kind and an index, of four bytes, of eight, and the text

of_index : (C : ℕ → Constant) → Agree as_entry (parse.◌>>=◌ two (λ n. parse.return (as_entry (C n)))) (u2 >>= λ n. return (C n))
of_index C = agree_bind (λ n. n) as_entry two u2 _ _ leaves_u2 agree_two λ n bytes b. refl

of_indexes :
    (C : ℕ → ℕ → Constant) →
    Agree as_entry (parse.◌>>=◌ two (λ m. parse.◌>>=◌ two (λ n. parse.return (as_entry (C m n))))) (u2 >>= λ m. u2 >>= λ n. return (C m n))
of_indexes C = agree_bind (λ n. n) as_entry two u2 _ _ leaves_u2 agree_two λ m. of_index (C m)

of_kind :
    (C : ℕ → ℕ → Constant) →
    Agree as_entry (parse.◌>>=◌ one (λ m. parse.◌>>=◌ two (λ n. parse.return (as_entry (C m n))))) (u1 >>= λ m. u2 >>= λ n. return (C m n))
of_kind C = agree_bind (λ n. n) as_entry one u1 _ _ leaves_u1 agree_one λ m. of_index (C m)

of_four :
    (C : ℕ → Constant) (e : List ℕ → Entry (List ℕ) ℕ) →
    ((n : ℕ) → e (bytes4 n) ≡ as_entry (C n)) →
    Agree as_entry (parse.◌>>=◌ (many 4 one) (λ s. parse.return (e s))) (u4 >>= λ n. return (C n))
of_four C e same = agree_bind bytes4 as_entry (many 4 one) u4 _ _ leaves_u4 agree_four λ n bytes b. ap (λ x. some (x, bytes)) (same n)

of_eight :
    (C : ℕ → ℕ → Constant) (e : List ℕ → Entry (List ℕ) ℕ) →
    ((m n : ℕ) → e (bytes4 m ++ bytes4 n) ≡ as_entry (C m n)) →
    Agree as_entry (parse.◌>>=◌ (many 8 one) (λ s. parse.return (e s))) (u4 >>= λ m. u4 >>= λ n. return (C m n))
unfolding many one u4 u2 u1 All
of_eight C e same [] b = refl
of_eight C e same (x ∷ []) b = refl
of_eight C e same (x ∷ y ∷ []) b = refl
of_eight C e same (x ∷ y ∷ z ∷ []) b = refl
of_eight C e same (x ∷ y ∷ z ∷ w ∷ []) b = refl
of_eight C e same (x ∷ y ∷ z ∷ w ∷ s ∷ []) b = refl
of_eight C e same (x ∷ y ∷ z ∷ w ∷ s ∷ t ∷ []) b = refl
of_eight C e same (x ∷ y ∷ z ∷ w ∷ s ∷ t ∷ u ∷ []) b = refl
of_eight C e same (x ∷ y ∷ z ∷ w ∷ s ∷ t ∷ u ∷ v ∷ bytes) b =
    let c = b.1.1.1.1 in
    ap₂ (λ l m. some (e (l ++ m), bytes)) (four-back x y z w b.0 b.1.0 b.1.1.0 b.1.1.1.0) (four-back s t u v c.0 c.1.0 c.1.1.0 c.1.1.1.0)
    ∙ ap (λ x. some (x, bytes)) (same _ _)

of_text : Agree as_entry (parse.◌>>=◌ two (λ n. parse.◌>>=◌ (many n one) (λ s. parse.return (entry_of 1 s 0 [])))) (u2 >>= λ n. array n u1 >>= λ s. return (Utf8 s))
unfolding as_entry
of_text =
    agree_bind (λ n. n) as_entry two u2 _ _ leaves_u2 agree_two λ n.
    agree_bind (λ s. s) as_entry (many n one) (array n u1) _ _ (leaves_array u1 leaves_u1 n) (agree_plain one u1 leaves_u1 agree_one n) λ s bytes b. refl

-- two tables with the same tags, whose structures are read the same
abbrev Same : List (ℕ × List Field) → List (ℕ × Reader Constant) → Type 0
Same [] [] = Unit {0}
Same [] (y ∷ m) = ⊥
Same (x ∷ l) [] = ⊥
Same (x ∷ l) (y ∷ m) = ((x.0 ≡ y.0) × Agree as_entry (read_entry index x.0 x.1) y.1) × Same l m

infixr 5 ◌&◌
◌&◌ : {A B : Type 0} → A → B → A × B
◌&◌ a b = (a, b)

same_tables : Same shapes structures
unfolding shapes structures read_entry read_fields index with_kids with_literal with_byte as_entry
same_tables =
    (refl, of_text)
    & (refl, of_four Integer (λ s. entry_of 3 s 0 []) (λ n. refl))
    & (refl, of_four Float (λ s. entry_of 4 s 0 []) (λ n. refl))
    & (refl, of_eight Long (λ s. entry_of 5 s 0 []) (λ m n. refl))
    & (refl, of_eight Double (λ s. entry_of 6 s 0 []) (λ m n. refl))
    & (refl, of_index Class)
    & (refl, of_index String)
    & (refl, of_indexes Fieldref)
    & (refl, of_indexes Methodref)
    & (refl, of_indexes InterfaceMethodref)
    & (refl, of_indexes NameAndType)
    & (refl, of_kind MethodHandle)
    & (refl, of_index MethodType)
    & (refl, of_indexes Dynamic)
    & (refl, of_indexes InvokeDynamic)
    & (refl, of_index Module)
    & (refl, of_index Package)
    & tt

of_tag_lem : (tag : ℕ) (l : List (ℕ × List Field)) (m : List (ℕ × Reader Constant)) → Same l m → Agree as_entry (of_tag tag (lookup tag l)) (structure tag m)
unfolding lookup structure of_tag
of_tag_lem tag [] [] h = λ bytes b. refl
of_tag_lem tag [] (y ∷ m) h = absurd h
of_tag_lem tag (x ∷ l) [] h = absurd h
of_tag_lem tag (x ∷ l) (y ∷ m) h =
    subst (λ t. Agree as_entry (of_tag tag (lookup tag (x ∷ l))) (elim (eqb tag t) [ true ↦ y.1 | false ↦ structure tag m ])) h.0.0
    (go (eqb tag x.0) refl (of_tag_lem tag l m h.1))
  where
    go :
        (b : Bool) →
        eqb tag x.0 ≡ b →
        Agree as_entry (of_tag tag (lookup tag l)) (structure tag m) →
        Agree as_entry (of_tag tag (elim b [ true ↦ some x.1 | false ↦ lookup tag l ])) (elim b [ true ↦ y.1 | false ↦ structure tag m ])
    go true e rest = subst (λ t. Agree as_entry (read_entry index t x.1) y.1) (sym (eqb-true tag x.0 e)) h.0.1
    go false e rest = rest

pub agree_constant : Agree as_entry cp_info cp_info_lem
unfolding cp_info cp_info_lem
agree_constant = agree_bind (λ n. n) as_entry one u1 _ _ leaves_u1 agree_one λ tag. of_tag_lem tag shapes structures same_tables

pub leaves_constant : Leaves cp_info_lem
leaves_constant = leaves _ cp_info_lem item_constant
