-- A file that is read is the one that its parts make. Assumes nothing.
use mathlib.Core.Bool.{Bool, true, false}
use mathlib.Core.List.{List, [], ◌∷◌, ◌++◌, append-nil, append_assoc}
use mathlib.Core.Option.{Option, none, some}
use mathlib.Core.Path.{◌≡◌, refl, sym, ap, subst, ◌∙◌}
use Prim.Native.Nat.{ℕ, zero, suc, ◌+◌, ◌-◌, ◌<◌}
use native.Mathlib.Omega.{arith}
use lib.Dec.{eqb, ltb}
use lib.ListN.{length, take, length-append}
use lib.Seq.{take-append_seam}
use borrow.Author.Tests.{eqb-true, ltb-true}
use Rattle.definition.specs.Basics.{Result, good, bad}
use Rattle.jvms.specs.Pool.{Reader, return, and_then, ◌>>=◌, u2, u4, constant_pool, wholly}
use Rattle.jvms.specs.Written.{bytes2, bytes4, Is1, Is2, Is4, All}
use Rattle.facts.proofs.Lists.{clash, none≢some, some_inj}
use Rattle.laws.proofs.Reading.ReadIsSpelled.{Took, Takes, Item, item_u2, item_u4, takes_pool, wholly-some}
use Rattle.class_file.specs.ClassFile.{Parts, proper, attribute-bytes, attributes-bytes, class_bytes, only_if, ◌must-be◌, bytes_of, all_left, Attribute, attribute, attributes, class_file, accepted, read_class}
use Rattle.class_file.specs.Promises.{Fits}

-- readers one after the other, and a value without reading
takes_bind :
    {A B : Type 0} (P : A → List ℕ → Type 0) (Q : B → List ℕ → Type 0) (r : Reader A) (f : A → Reader B) → Takes P r →
    ((a : A) (used : List ℕ) → P a used → Takes (λ b more. Q b (used ++ more)) (f a)) → Takes Q (r >>= f)
takes_bind {A} P Q r f takes onward bytes all b rest = go (r bytes) refl
  where
    go : (o : Option (A × List ℕ)) → r bytes ≡ o → and_then o f ≡ some (b, rest) → Took Q bytes b rest
    go none e h = none≢some h
    go (some (a, mid)) e h =
        let t = takes bytes all a mid e in
        let more = onward a t.used t.is mid t.left b rest h in
        record {
          used = t.used ++ more.used;
          are = t.are ∙ ap (λ l. t.used ++ l) more.are ∙ sym (append_assoc t.used more.used rest);
          left = more.left;
          is = more.is;
        }

takes_return : {A : Type 0} (Q : A → List ℕ → Type 0) (a : A) → Q a [] → Takes Q (return a)
takes_return {A} Q a h bytes all a' rest e =
    let pair : ◌≡◌ {A = A × List ℕ} (a, bytes) (a', rest) = some_inj e in
    subst (λ (r : A × List ℕ). Took Q bytes r.0 r.1) pair (record { used = []; are = refl; left = all; is = h })

-- a test takes no bytes
takes_test : (t : Bool) → Takes (λ x used. (t ≡ true) × (used ≡ [])) (only_if t)
unfolding only_if
takes_test true = takes_return _ tt (refl, refl)
takes_test false = λ bytes all x rest e. none≢some e

-- an item that has to be a number
item_must : (P : ℕ → Type 0) (W : ℕ → List ℕ) (r : Reader ℕ) → Item P W r → (n : ℕ) → Takes (λ x used. used ≡ W n) (r must-be n)
unfolding ◌must-be◌
item_must P W r item n =
    takes_bind _ _ r _ item λ m used h bytes all x rest e.
    let t = takes_test (eqb m n) bytes all x rest e in
    record { used = t.used; are = t.are; left = t.left; is = rw (t.is.1, append-nil) (h.1 ∙ ap W (eqb-true m n t.is.0)) }

-- the bytes that a reader takes
pub all_front : (l m : List ℕ) → All Is1 (l ++ m) → All Is1 l
unfolding All
all_front [] m h = tt
all_front (b ∷ l) m h = (h.0, all_front l m h.1)

item_bytes : {A : Type 0} (Q : A → List ℕ → Type 0) (r : Reader A) → Takes Q r → Item (All Is1) (λ l. l) (bytes_of r)
unfolding bytes_of
item_bytes {A} Q r takes bytes all l rest = go (r bytes) refl
  where
    go :
        (o : Option (A × List ℕ)) → r bytes ≡ o → and_then o (λ a left. some (take (length bytes - length left) bytes, left)) ≡ some (l, rest) →
        Took (λ l used. All Is1 l × (used ≡ l)) bytes l rest
    go none e h = none≢some h
    go (some (a, mid)) e h =
        let t = takes bytes all a mid e in
        let n : length bytes - length mid ≡ length t.used = omega (arith, length-append t.used mid, ap length t.are) in
        let pair : ◌≡◌ {A = List ℕ × List ℕ} (take (length bytes - length mid) bytes, mid) (l, rest) = some_inj h in
        let same : mid ≡ rest = ap (λ r. r.1) pair in
        let whole : t.used ≡ l =
        sym (take-append_seam t.used mid) ∙ ap (take (length t.used)) (sym t.are) ∙ ap (λ k. take k bytes) (sym n) ∙ ap (λ r. r.0) pair in
        record {
          used = t.used;
          are = t.are ∙ ap (λ m. t.used ++ m) same;
          left = subst (All Is1) same t.left;
          is = (subst (All Is1) whole (all_front t.used mid (subst (All Is1) t.are all)), whole);
        }

takes_all : Item (All Is1) (λ l. l) all_left
unfolding all_left All
takes_all bytes all l rest e =
    let pair : ◌≡◌ {A = List ℕ × List ℕ} (bytes, []) (l, rest) = some_inj e in
    subst
    (λ (r : List ℕ × List ℕ). Took (λ l used. All Is1 l × (used ≡ l)) bytes r.0 r.1)
    pair
    (record { used = bytes; are = sym (append-nil bytes); left = tt; is = (all, refl) })

-- ---- the attribute and the file

abbrev spelled : Attribute → List ℕ
spelled a = bytes2 a.0 ++ bytes4 (2 + length a.2) ++ bytes2 a.1 ++ a.2

record IsAttribute (a : Attribute) : Type 0 where
  name_fits : Is2 a.0
  count_fits : Is2 a.1
  all : All Is1 a.2

takes_attribute : Takes (λ a used. IsAttribute a × (0 < a.0) × (used ≡ spelled a)) attribute
unfolding attribute
takes_attribute =
    takes_bind (λ n used. Is2 n × (used ≡ bytes2 n)) _ u2 _ item_u2 λ name used₁ h₁.
    takes_bind _ _ (only_if (ltb 0 name)) _ (takes_test (ltb 0 name)) λ x used₂ h₂.
    takes_bind (λ n used. Is4 n × (used ≡ bytes4 n)) _ u4 _ item_u4 λ long used₃ h₃.
    takes_bind (λ n used. Is2 n × (used ≡ bytes2 n)) _ u2 _ item_u2 λ count used₄ h₄.
    takes_bind (λ l used. All Is1 l × (used ≡ l)) _ all_left _ takes_all λ bootstraps used₅ h₅.
    takes_bind _ _ (only_if (eqb long (2 + length bootstraps))) _ (takes_test (eqb long (2 + length bootstraps))) λ x used₆ h₆.
    takes_return _ (name, count, bootstraps) (
      record { name_fits = h₁.0; count_fits = h₄.0; all = h₅.0 },
      ltb-true 0 name h₂.0,
      rw (h₁.1, h₂.1, h₃.1, h₄.1, h₅.1, h₆.1, eqb-true long (2 + length bootstraps) h₆.0) (simp (append-nil, append_assoc)),
    )

-- attributes_count was read before
takes_attributes :
    (n : ℕ) → Takes (λ a used. IsAttribute a × (bytes2 n ++ used ≡ attributes-bytes a.0 (spelled a))) (attributes n)
unfolding attributes attributes-bytes All
takes_attributes zero =
    takes_return _ (0, 0, []) (record { name_fits = omega arith; count_fits = omega arith; all = tt }, append-nil (bytes2 0))
takes_attributes (suc zero) = λ bytes all a rest e.
    let t = takes_attribute bytes all a rest e in
    record {
      used = t.used;
      are = t.are;
      left = t.left;
      is = (t.is.0, ap (λ l. bytes2 1 ++ l) t.is.2 ∙ sym (with_name a.0 t.is.1 (spelled a)));
    }
  where
    with_name : (n : ℕ) → 0 < n → (l : List ℕ) → attributes-bytes n l ≡ bytes2 1 ++ l
    with_name zero h l = absurd (omega arith)
    with_name (suc n) h l = refl
takes_attributes (suc (suc n)) = λ bytes all a rest e. none≢some e

takes_file : Takes (λ p used. Fits p × (used ≡ class_bytes p)) class_file
unfolding class_file class_bytes attribute-bytes
takes_file =
    takes_bind _ _ (u4 must-be 0xcafebabe) _ (item_must Is4 bytes4 u4 item_u4 0xcafebabe) λ x used₀ h₀.
    takes_bind (λ n used. Is2 n × (used ≡ bytes2 n)) _ u2 _ item_u2 λ minor used₁ h₁.
    takes_bind (λ n used. Is2 n × (used ≡ bytes2 n)) _ u2 _ item_u2 λ major used₂ h₂.
    takes_bind (λ l used. All Is1 l × (used ≡ l)) _ (bytes_of (u2 >>= constant_pool)) _ (item_bytes _ (u2 >>= constant_pool) takes_pool) λ pool used₃ h₃.
    takes_bind (λ n used. Is2 n × (used ≡ bytes2 n)) _ u2 _ item_u2 λ flags used₄ h₄.
    takes_bind (λ n used. Is2 n × (used ≡ bytes2 n)) _ u2 _ item_u2 λ this used₅ h₅.
    takes_bind (λ n used. Is2 n × (used ≡ bytes2 n)) _ u2 _ item_u2 λ super used₆ h₆.
    takes_bind _ _ (u2 must-be 0) _ (item_must Is2 bytes2 u2 item_u2 0) λ x used₇ h₇.
    takes_bind _ _ (u2 must-be 0) _ (item_must Is2 bytes2 u2 item_u2 0) λ x used₈ h₈.
    takes_bind _ _ (u2 must-be 0) _ (item_must Is2 bytes2 u2 item_u2 0) λ x used₉ h₉.
    takes_bind (λ n used. Is2 n × (used ≡ bytes2 n)) _ u2 _ item_u2 λ n used₁₀ h₁₀.
    takes_bind _ _ (attributes n) _ (takes_attributes n) λ a used₁₁ h₁₁.
    takes_return _ _ (
      record {
        minor_version_fits = h₁.0;
        major_version_fits = h₂.0;
        pool_fits = h₃.0;
        access_flags_fits = h₄.0;
        this_class_fits = h₅.0;
        super_class_fits = h₆.0;
        name_fits = h₁₁.0.name_fits;
        count_fits = h₁₁.0.count_fits;
        bootstraps_fits = h₁₁.0.all;
      },
      rw (h₀, h₁.1, h₂.1, h₃.1, h₄.1, h₅.1, h₆.1, h₇, h₈, h₉, h₁₀.1, ← h₁₁.1) (simp (append-nil, append_assoc)),
    )

-- what is accepted was read, and is proper
taken : (o : Option Parts) (p : Parts) → accepted o ≡ good p → (o ≡ some p) × (proper p ≡ true)
unfolding accepted
taken none p e = clash (cc)
taken (some q) p e = go (proper q) refl e
  where
    go : (b : Bool) → proper q ≡ b → ◌≡◌ {A = Result ℕ Parts} (elim b [ true ↦ good q | false ↦ bad 27 ]) (good p) → (some q ≡ some p) × (proper p ≡ true)
    go true h e = let same : q ≡ p = cc in (ap some same, rw (← same) h)
    go false h e = clash (cc)

pub parts-forth : (file : List ℕ) (p : Parts) → All Is1 file → read_class file ≡ good p → Fits p × (proper p ≡ true) × (file ≡ class_bytes p)
unfolding read_class
parts-forth file p all e =
    let read = taken (wholly (class_file file)) p e in
    let t = takes_file file all p [] (wholly-some (class_file file) p read.0) in
    (t.is.0, read.1, t.are ∙ append-nil t.used ∙ t.is.1)
