-- The class name, by the tests that the code makes. Assumes nothing.
use mathlib.Core.Bool.{Bool, true, false, not}
use mathlib.Core.List.{List, []}
use mathlib.Core.Logic.{◌⊎◌, inl, inr, ⊎_elim}
use mathlib.Core.Option.{Option, none, some}
use mathlib.Core.Path.{◌≡◌, refl, sym, ap, subst, ◌∙◌}
use Prim.Native.Nat.{ℕ, zero, suc, ◌+◌, ◌≤◌, ◌<◌}
use native.Mathlib.Omega.{arith}
use lib.Dec.{eqb}
use lib.ListN.{length, get_or, take, drop}
use borrow.Author.Tests.{eq-eqb, ne_eqb}
use Rattle.definition.specs.Bytes.{Parser, return, and_then, ◌>>=◌, one, two}
use Rattle.definition.specs.Shapes.{Entry}
use Rattle.definition.specs.Job.{ClassSlot, slot, request, Build, name_form, class_form, read_build}
use Rattle.definition.specs.Numbering.{attribute_name}
use Rattle.definition.specs.Layout.{class_slot_of}
use Rattle.definition.specs.Run.{class_out, overwrite}
use Rattle.facts.proofs.Copies.{part_length}
use Rattle.raw_const.proofs.Writes.{wrote_part}
use lib.Seq.{paste}
use Rattle.facts.proofs.Lists.{none≢some, true≢false, some_inj, equal}
use Rattle.writer.specs.Numbers.{number2}
use Rattle.job.proofs.Taking.{byte_then, two_then}
use Rattle.store.specs.Store.{Store, size}
use Rattle.store.specs.Regions.{Work}
use Rattle.std.specs.Prelude.{Some, None, Option as Maybe}
use Rattle.output.specs.declared.Content.{Content}
use Rattle.output.specs.declared.Content.TheVariants as content
use Rattle.output.specs.Contents.{text_entry, shown_word, finished_in, shown_in, content_in, KidsNumbered, IsContent, Searched, Owned}
use Rattle.output.specs.declared.ClassName.{ClassName}
use Rattle.output.specs.declared.ClassName.TheVariants as class_name
use Rattle.output.specs.Names.{text_of, class_of, NameIs, IsClass, shown_at, class_slot_in, class_in}
use Rattle.interner.specs.Nodes.{node_count}
use Rattle.output.proofs.Shown.{shown-node, shown-nothing, shown-empty, shown-attribute, name_length, name_whole}
use Rattle.output.proofs.Pools.{paste-first}
use Rattle.output.proofs.Holding.{owner_is, content_zero, content_owner}

-- TEXTS

pub text_none : (e : Entry (List ℕ) ℕ) → (e.tag ≡ 1 → ⊥) → text_of (some e) ≡ none
unfolding text_of
text_none e h = rw (ne_eqb e.tag 1 h, text_of)

pub text_some : (e : Entry (List ℕ) ℕ) → e.tag ≡ 1 → text_of (some e) ≡ some e.literal
unfolding text_of
text_some e h = rw (eq-eqb e.tag 1 h, text_of)

pub text_nothing : (o : Option (Entry (List ℕ) ℕ)) → o ≡ none → text_of o ≡ none
unfolding text_of
text_nothing o h = rw h

-- CLASSES

module _ (shown : ℕ → Option (Entry (List ℕ) ℕ)) where
  class_other : (e : Entry (List ℕ) ℕ) → eqb e.tag 7 ≡ false → class_of shown (some e) ≡ none
  unfolding class_of
  class_other e h = rw (h, class_of)

  class_nothing : class_of shown none ≡ none
  unfolding class_of
  class_nothing = refl

  module _ (node : ℕ → Entry (List ℕ) ℕ) where
    -- no Class
    pub class_none : (c : Content) → IsClass node c None → class_of shown (shown_word node c) ≡ none
    class_none (content.Node k) h =
        rw (shown-node node (content.Node k) k refl) (class_other (node k) (ne_eqb (node k).tag 7 (h k refl)))
    class_none content.Nothing h = rw (shown-nothing node content.Nothing refl) class_nothing
    class_none content.Empty h = rw (shown-empty node content.Empty refl) (class_other (text_entry []) refl)
    class_none content.Attribute h = rw (shown-attribute node content.Attribute refl) (class_other (text_entry attribute_name) refl)

    module _ (c : Content) (k : ℕ) (h : IsClass node c (Some k)) where
      -- a Class
      pub class_low : c ≡ content.Node k
      class_low = h.0

      pub class_some : class_of shown (shown_word node c) ≡ text_of (shown (get_or (node k).kids 0 0))
      unfolding class_of
      class_some = rw (shown-node node c k h.0) (rw (eq-eqb (node k).tag 7 h.1, class_of))

-- any slot holds a content
pub any_content : (s p : List ℕ) (t : Store) → Work s p → Searched p t → Owned s t → (n : ℕ) → IsContent s t (content_in s t n)
any_content s p t work sought owned n =
    ⊎_elim
    (λ (z : n ≡ 0). subst (IsContent s t) (sym (content_zero s t n z)) tt)
    (λ (z : n ≡ 0 → ⊥).
    subst (IsContent s t) (sym (content_owner s t n (omega arith))) (owner_is s p t work sought owned n _ (omega arith)))
    (equal n 0)

-- RECORD 60

-- the byte and the number behind the name byte
pub record ClassRead (s : List ℕ) (at : ℕ) (b : Build) : Type 0 where
  pub inside : at + 3 + 2 ≤ length s
  pub is :
      ((get_or s (at + 2) 0 ≡ 0) × (b.class ≡ slot (number2 s (at + 3)))) ⊎ ((get_or s (at + 2) 0 ≡ 1) × (b.class ≡ request (number2 s (at + 3))))

after_name :
    {A : Type 0} (x : ℕ) (g : ℕ → Parser A) (l : List ℕ) (r : A × List ℕ) → (name_form x >>= g) l ≡ some r → (nb : ℕ) × (g nb l ≡ some r)
unfolding name_form
after_name zero g l r h = (0, h)
after_name (suc zero) g l r h = (1, h)
after_name (suc (suc zero)) g l r h = (2, h)
after_name (suc (suc (suc n))) g l r h = none≢some h

then_then : {A B C : Type 0} (o : Option (A × List ℕ)) (f : A → Parser B) (k : B → Parser C) → and_then (and_then o f) k ≡ and_then o (λ a. f a >>= k)
then_then none f k = refl
then_then (some r) f k = refl

abbrev built : ℕ → ClassSlot → Parser Build
built nb class = return (record { name_byte = nb; class = class })

abbrev behind-form : ℕ → ℕ → Parser Build
behind-form nb form = class_form form >>= built nb

abbrev behind-name : ℕ → Parser Build
behind-name nb = one >>= behind-form nb

-- a number, then the build record
number_behind :
    (s : List ℕ) (at nb : ℕ) (f : ℕ → ClassSlot) (b : Build) → at ≤ length s → ((two >>= λ n. return (f n)) >>= built nb) (drop at s) ≡ some (b, []) →
    (at + 2 ≤ length s) × (b.class ≡ f (number2 s at))
number_behind s at nb f b low h =
    let r = two_then s at (λ n. return (f n) >>= built nb) b [] low (sym (then_then (two (drop at s)) (λ n. return (f n)) (built nb)) ∙ h) in
    (r.0, sym (ap (λ (r : Build × List ℕ). r.0.class) (some_inj r.1)))

form-ways :
    (s : List ℕ) (at : ℕ) (b : Build) (nb y : ℕ) → get_or s (at + 2) 0 ≡ y → at + 3 ≤ length s → behind-form nb y (drop (at + 3) s) ≡ some (b, []) →
    ClassRead s at b
unfolding class_form
form-ways s at b nb zero q low h = let r = number_behind s (at + 3) nb slot b low h in record { inside = r.0; is = inl (q, r.1) }
form-ways s at b nb (suc zero) q low h = let r = number_behind s (at + 3) nb request b low h in record { inside = r.0; is = inr (q, r.1) }
form-ways s at b nb (suc (suc n)) q low h = none≢some h

pub class_read : (s : List ℕ) (at : ℕ) (b : Build) → read_build (drop (at + 1) s) ≡ some (b, []) → ClassRead s at b
unfolding read_build
class_read s at b h =
    let a = byte_then s (at + 1) (λ first. name_form first >>= behind-name) b [] h in
    let n = after_name (get_or s (at + 1) 0) behind-name (drop (at + 1 + 1) s) (b, []) a.1 in
    let e : at + 1 + 1 ≡ at + 2 = omega arith in
    let f : at + 2 + 1 ≡ at + 3 = omega arith in
    let c = byte_then s (at + 2) (behind-form n.0) b [] (subst (λ x. behind-name n.0 (drop x s) ≡ some (b, [])) e n.1) in
    form-ways s at b n.0 (get_or s (at + 2) 0) refl (omega (arith, c.0)) (subst (λ x. behind-form n.0 (get_or s (at + 2) 0) (drop x s) ≡ some (b, [])) f c.1)

-- the class slot of a byte and a number that were read
pub slot-told : (answers : List ℕ) (class : ClassSlot) (n : ℕ) → class ≡ slot n → n ≡ class_slot_of answers class
unfolding class_slot_of
slot-told answers class n h = rw h

pub request_told : (answers : List ℕ) (class : ClassSlot) (n r : ℕ) → class ≡ request n → r ≡ get_or answers n 0 → r ≡ class_slot_of answers class
unfolding class_slot_of
request_told answers class n r h e = rw h e

module _ (s : List ℕ) (at : ℕ) (b : Build) (r : ClassRead s at b) (byte number : ℕ) (byte_is_lem : byte ≡ get_or s (at + 2) 0) (number_is : number ≡ number2 s (at + 3)) where
  pub asks-slot : byte ≡ 0 → b.class ≡ slot number
  asks-slot z = ⊎_elim (λ a. a.1 ∙ ap slot (sym number_is)) (λ a. absurd (omega (arith, a.0))) r.is

  pub asks-request : (byte ≡ 0 → ⊥) → b.class ≡ request number
  asks-request z = ⊎_elim (λ a. absurd (z (byte_is_lem ∙ a.0))) (λ a. a.1 ∙ ap request (sym number_is)) r.is

-- A CLASS NAME as the code has it

module _ (s : List ℕ) (c : Maybe ClassName) (o : Option (List ℕ)) (h : NameIs s c o) where
  name_none : c ≡ None → o ≡ none
  name_none e = rw e at h

  pub name_bytes : (start size : ℕ) → c ≡ Some (class_name.Bytes start size) → (start + size ≤ length s) × (o ≡ some (take size (drop start s)))
  name_bytes start size e = rw e at h

  name_attribute : c ≡ Some class_name.Attribute → o ≡ some attribute_name
  name_attribute e = rw e at h

  pub none-length : c ≡ None → 0 ≡ length (class_out o)
  unfolding class_out
  none-length e = rw (name_none e)

  pub bytes-length : (start size : ℕ) → c ≡ Some (class_name.Bytes start size) → size ≡ length (class_out o)
  unfolding class_out
  bytes-length start size e = let r = name_bytes start size e in rw r.1 (sym (part_length s start size r.0))

  pub attribute-long : c ≡ Some class_name.Attribute → 16 ≡ length (class_out o)
  unfolding class_out
  attribute-long e = rw (name_attribute e) (sym name_length)

  pub wrote_none : (d : List ℕ) → c ≡ None → d ≡ overwrite (class_out o) d
  unfolding class_out overwrite
  wrote_none d e = rw (name_none e)

  pub wrote_name : (d d₁ : List ℕ) (start size : ℕ) → c ≡ Some (class_name.Bytes start size) → d₁ ≡ paste d 0 (drop start s) size → d₁ ≡ overwrite (class_out o) d
  unfolding class_out
  wrote_name d d₁ start size e q =
      let r = name_bytes start size e in
      rw r.1 ((wrote_part d s 0 start size r.0 q).out ∙ paste-first d (take size (drop start s)))

  pub wrote_attribute :
      (d d₁ name : List ℕ) → name ≡ attribute_name → c ≡ Some class_name.Attribute → d₁ ≡ paste d 0 (drop 0 name) 16 → d₁ ≡ overwrite (class_out o) d
  unfolding class_out
  wrote_attribute d d₁ name is e q =
      let fits : 0 + 16 ≤ length name = omega (arith, ap length is, name_length) in
      rw (name_attribute e) ((wrote_part d name 0 0 16 fits q).out ∙ paste-first d (take 16 (drop 0 name)) ∙ ap (λ l. overwrite l d) (rw is name_whole))

-- the test for a Class
module _ (node : ℕ → Entry (List ℕ) ℕ) (c : Content) where
  pub class_no : ((k : ℕ) → c ≡ content.Node k → ⊥) → IsClass node c None
  class_no h = λ k is tag. h k is

  pub class_by_tag : (k : ℕ) → c ≡ content.Node k → (tag : ℕ) → tag ≡ (node k).tag → (tag ≡ 7 → IsClass node c (Some k)) × ((tag ≡ 7 → ⊥) → IsClass node c None)
  class_by_tag k is tag q = (λ h. (is, sym q ∙ h), λ h n other seven. h (q ∙ (let e : k ≡ n = cc in ap (λ x. (node x).tag) e) ∙ seven))

flip_true : (b : Bool) → not b ≡ true → b ≡ false
flip_true true h = true≢false (sym h)
flip_true false h = refl

flip_false : (b : Bool) → not b ≡ false → b ≡ true
flip_false true h = refl
flip_false false h = true≢false h

-- what the class slot holds, tested for a Class
module _ (s : List ℕ) (t : Store) (c : Content) (is : c ≡ content_in s t (class_slot_in s t)) where
  whole : class_of (shown_at s t) (shown_in s t c) ≡ class_in s t
  whole = ap (λ x. class_of (shown_at s t) (shown_in s t x)) is

  pub name_missing : IsClass (finished_in s t) c None → class_in s t ≡ none
  name_missing h = sym whole ∙ class_none (shown_at s t) (finished_in s t) c h

  module _ (k : ℕ) (h : IsClass (finished_in s t) c (Some k)) where
    pub class_node : (p : List ℕ) → Work s p → Searched p t → Owned s t → (k < node_count t) × KidsNumbered s t k
    class_node p work sought owned =
        subst (IsContent s t) (sym is ∙ class_low (shown_at s t) (finished_in s t) c k h) (any_content s p t work sought owned (class_slot_in s t))

    pub name_there :
        (n : ℕ) → n ≡ get_or (finished_in s t k).kids 0 0 → (d : Content) → d ≡ content_in s t n → (r : Maybe ClassName) →
        NameIs s r (text_of (shown_in s t d)) → NameIs s r (class_in s t)
    name_there n kid d holds r name =
        let e : text_of (shown_in s t d) ≡ class_in s t =
        ap (λ x. text_of (shown_in s t x)) (holds ∙ ap (content_in s t) kid)
        ∙ sym (class_some (shown_at s t) (finished_in s t) c k h)
        ∙ whole in
        subst (NameIs s r) e name
