-- What a slot holds, by the tests that the code makes, and that it is a content. Assumes nothing.
use mathlib.Core.Bool.{Bool, true, false}
use mathlib.Core.List.{List}
use mathlib.Core.Logic.{⊎_elim}
use mathlib.Core.Path.{◌≡◌, refl, sym, ap, subst, ◌∙◌}
use Prim.Native.Nat.{ℕ, zero, suc, ◌+◌, ◌-◌, ◌≤◌, ◌<◌}
use native.Mathlib.Omega.{arith}
use lib.ListN.{get_or}
use borrow.Author.Tests.{lt-ltb, le-ltb, eq-eqb, ne_eqb}
use Rattle.definition.specs.Shapes.{Entry, is_wide}
use Rattle.store.specs.Store.{Store, size}
use Rattle.store.specs.Regions.{MARKS, GIVEN, RAW-KEYS, RAW-ENTRIES, ORDER, Work}
use Rattle.store.specs.Words.{HALF}
use Rattle.interner.specs.Nodes.{node_count}
use Rattle.raws.specs.Raws.{raw_count, held_count}
use Rattle.output.specs.declared.Content.{Content}
use Rattle.output.specs.declared.Content.TheVariants as content
use Rattle.output.specs.Contents.{wide_word, wide_in, raw_word_lem, raw_or, link_word, link_of, owner_word, owner_in, name_slot, wide_at, content_word, content_in, IsContent, Searched, Owned, held_at, held_in_lem, HeldOrder, Sweep}
use Rattle.output.proofs.Owners.{link_miss, link_hit, link_back}
use Rattle.facts.proofs.Lists.{equal, order as compare}

-- WORDS

pub raw_half : (marks : List ℕ) (e : ℕ) → e ≡ HALF → raw_word_lem marks e ≡ content.Nothing
unfolding raw_word_lem
raw_half marks e h = rw (eq-eqb e HALF h, raw_word_lem)

pub raw_node_lem : (marks : List ℕ) (e : ℕ) → (e ≡ HALF → ⊥) → raw_word_lem marks e ≡ content.Node (get_or marks e 0 - 2)
unfolding raw_word_lem
raw_node_lem marks e h = rw (ne_eqb e HALF h, raw_word_lem)

pub link_node : (wide : Bool) (link k : ℕ) → link ≡ suc k → link_word wide link ≡ content.Node k
unfolding link_word
link_node wide link k h = rw h

pub link_wide : (wide : Bool) (link : ℕ) → link ≡ 0 → wide ≡ true → link_word wide link ≡ content.Nothing
unfolding link_word
link_wide wide link h w = rw (h, w)

pub link_empty : (wide : Bool) (link : ℕ) → link ≡ 0 → wide ≡ false → link_word wide link ≡ content.Empty
unfolding link_word
link_empty wide link h w = rw (h, w)

module _ (node : ℕ → Entry (List ℕ) ℕ) where
  pub wide_past : (c : Content) → ((k : ℕ) → c ≡ content.Node k → ⊥) → wide_word node c ≡ false
  unfolding wide_word
  wide_past (content.Node k) h = absurd (h k refl)
  wide_past content.Nothing h = refl
  wide_past content.Empty h = refl
  wide_past content.Attribute h = refl

  pub wide_node : (c : Content) (k : ℕ) → c ≡ content.Node k → wide_word node c ≡ is_wide (node k).tag
  unfolding wide_word
  wide_node c k h = rw h

-- OWNERS

module _ (t : Store) (slot : ℕ) (wide : Bool) where
  pub owner_name : slot ≡ name_slot t → owner_in t slot wide ≡ content.Attribute
  unfolding owner_word
  owner_name h = rw (eq-eqb slot (name_slot t) h, owner_word)

  pub owner_raw : (slot ≡ name_slot t → ⊥) → (i : ℕ) → link_of (t RAW-KEYS) (raw_count t) slot ≡ suc i → owner_in t slot wide ≡ raw_word_lem (t MARKS) (get_or (t RAW-ENTRIES) i 0)
  unfolding owner_word raw_or
  owner_raw f i h = rw (ne_eqb slot (name_slot t) f, owner_word) (rw h)

  pub owner_given :
      (slot ≡ name_slot t → ⊥) → link_of (t RAW-KEYS) (raw_count t) slot ≡ 0 → owner_in t slot wide ≡ link_word wide (link_of (t GIVEN) (node_count t) slot)
  unfolding owner_word raw_or
  owner_given f h = rw (ne_eqb slot (name_slot t) f, owner_word) (rw h)

-- a number is 0 or not
cases : (n : ℕ) (P : Type 0) → (n ≡ 0 → P) → ((i : ℕ) → n ≡ suc i → P) → P
cases zero P f g = f refl
cases (suc i) P f g = g i refl

-- A CONTENT that a slot holds stands for something
module _ (s p : List ℕ) (t : Store) (work : Work s p) (sought : Searched p t) (owned : Owned s t) where
  past_content : (c : Content) → ((k : ℕ) → c ≡ content.Node k → ⊥) → IsContent s t c
  past_content (content.Node k) h = absurd (h k refl)
  past_content content.Nothing h = tt
  past_content content.Empty h = tt
  past_content content.Attribute h = tt

  pub raw_content_is : (i : ℕ) → i < raw_count t → IsContent s t (raw_word_lem (t MARKS) (get_or (t RAW-ENTRIES) i 0))
  raw_content_is i h =
      let e = get_or (t RAW-ENTRIES) i 0 in
      ⊎_elim
      (λ (z : e ≡ HALF). subst (IsContent s t) (sym (raw_half (t MARKS) e z)) (past_content content.Nothing (λ k e. cc)))
      (λ (z : e ≡ HALF → ⊥).
      let n = owned.raw_nodes i h z in
      subst (IsContent s t) (sym (raw_node_lem (t MARKS) e z))
      (⊎_elim
      (λ (y : e ≡ HALF). absurd (z y))
      (λ (y : (e < size p MARKS) × (1 < get_or (t MARKS) e 0)).
      let low : get_or (t MARKS) e 0 - 2 < node_count t = omega (arith, n.0, y.1) in
      (low, n.1))
      (sought.raw_done i h)))
      (equal e HALF)

  pub given-content_is : (slot : ℕ) (wide : Bool) → 0 < slot → IsContent s t (link_word wide (link_of (t GIVEN) (node_count t) slot))
  given-content_is slot wide h =
      cases (link_of (t GIVEN) (node_count t) slot) (IsContent s t (link_word wide (link_of (t GIVEN) (node_count t) slot)))
      (λ z. none-there wide z)
      (λ k z.
      let b = link_back (t GIVEN) (node_count t) slot k z in
      subst (IsContent s t) (sym (link_node wide (link_of (t GIVEN) (node_count t) slot) k z))
      (b.0, owned.given_nodes k b.0 (omega (arith, b.1))))
    where
      none-there : (wide : Bool) → link_of (t GIVEN) (node_count t) slot ≡ 0 → IsContent s t (link_word wide (link_of (t GIVEN) (node_count t) slot))
      none-there true z = subst (IsContent s t) (sym (link_wide true _ z refl)) (past_content content.Nothing (λ k e. cc))
      none-there false z = subst (IsContent s t) (sym (link_empty false _ z refl)) (past_content content.Empty (λ k e. cc))

  pub owner_is : (slot : ℕ) (wide : Bool) → 0 < slot → IsContent s t (owner_in t slot wide)
  owner_is slot wide h =
      ⊎_elim
      (λ (z : slot ≡ name_slot t). subst (IsContent s t) (sym (owner_name t slot wide z)) (past_content content.Attribute (λ k e. cc)))
      (λ (z : slot ≡ name_slot t → ⊥).
      cases (link_of (t RAW-KEYS) (raw_count t) slot) (IsContent s t (owner_in t slot wide))
      (λ y. subst (IsContent s t) (sym (owner_given t slot wide z y)) (given-content_is slot wide h))
      (λ i y.
      subst (IsContent s t) (sym (owner_raw t slot wide z i y))
      (raw_content_is i (link_back (t RAW-KEYS) (raw_count t) slot i y).0)))
      (equal slot (name_slot t))

  -- the slot before doesn't change whether it is wide
  pub wide_same : (slot : ℕ) (wide : Bool) → wide_in s t (owner_in t slot false) ≡ wide_in s t (owner_in t slot wide)
  wide_same slot false = refl
  wide_same slot true =
      ⊎_elim
      (λ (z : slot ≡ name_slot t). ap (wide_in s t) (owner_name t slot false z ∙ sym (owner_name t slot true z)))
      (λ (z : slot ≡ name_slot t → ⊥).
      cases (link_of (t RAW-KEYS) (raw_count t) slot) (wide_in s t (owner_in t slot false) ≡ wide_in s t (owner_in t slot true))
      (λ y.
      cases (link_of (t GIVEN) (node_count t) slot) (wide_in s t (owner_in t slot false) ≡ wide_in s t (owner_in t slot true))
      (λ x.
      ap (wide_in s t) (owner_given t slot false z y ∙ link_empty false _ x refl)
      ∙ wide_past _ content.Empty (λ k e. cc)
      ∙ sym (ap (wide_in s t) (owner_given t slot true z y ∙ link_wide true _ x refl) ∙ wide_past _ content.Nothing (λ k e. cc)))
      (λ k x.
      ap (wide_in s t)
      (owner_given t slot false z y ∙ link_node false _ k x ∙ sym (owner_given t slot true z y ∙ link_node true _ k x))))
      (λ i y. ap (wide_in s t) (owner_raw t slot false z i y ∙ sym (owner_raw t slot true z i y))))
      (equal slot (name_slot t))

-- ANY SLOT

pub content_zero : (s : List ℕ) (t : Store) (slot : ℕ) → slot ≡ 0 → content_in s t slot ≡ content.Nothing
unfolding content_word
content_zero s t slot h = rw h

pub content_owner :
    (s : List ℕ) (t : Store) (slot : ℕ) → 0 < slot → content_in s t slot ≡ owner_in t slot (wide_at (owner_in t) (wide_in s t) (slot - 1))
unfolding content_word
content_owner s t zero h = absurd (omega arith)
content_owner s t (suc n) h = let e : suc n - 1 ≡ n = omega arith in rw e

pub wide_first : (s : List ℕ) (t : Store) (slot : ℕ) → slot ≡ 0 → wide_at (owner_in t) (wide_in s t) slot ≡ false
unfolding wide_at
wide_first s t slot h = rw h

pub wide_later : (s : List ℕ) (t : Store) (slot : ℕ) → 0 < slot → wide_at (owner_in t) (wide_in s t) slot ≡ wide_in s t (owner_in t slot false)
unfolding wide_at
wide_later s t zero h = absurd (omega arith)
wide_later s t (suc n) h = refl

-- THE WALK over the slots

module _ (keys order : List ℕ) (n i : ℕ) where
  pub held-there : i < n → held_at keys order n i ≡ get_or keys (get_or order i 0) 0
  unfolding held_at
  held-there h = rw (lt-ltb i n h, held_at)

  pub held-past : n ≤ i → held_at keys order n i ≡ 65536
  unfolding held_at
  held-past h = rw (le-ltb i n h, held_at)

module _ (p : List ℕ) (t : Store) (o : HeldOrder p t) where
  pub sweep_begin : (held : ℕ) → held ≡ held_in_lem t 0 → Sweep t 1 0 held
  sweep_begin held is = record { is = is; below = λ j a b. absurd (omega arith); above = λ j a b. o.low j b }

  module _ (slot raws held : ℕ) (w : Sweep t slot raws held) where
    -- a slot that is held is the next one's
    pub sweep_low : slot ≡ held → slot < 65536 → raws < held_count t
    sweep_low h l =
        ⊎_elim
        (λ (a : raws < held_count t). a)
        (λ (a : held_count t ≤ raws). absurd (omega (arith, w.is, held-past (t RAW-KEYS) (t ORDER) (held_count t) raws a)))
        (compare raws (held_count t))

    held-key : raws < held_count t → held ≡ get_or (t RAW-KEYS) (get_or (t ORDER) raws 0) 0
    held-key h = w.is ∙ held-there (t RAW-KEYS) (t ORDER) (held_count t) raws h

    pub sweep_hit :
        Searched p t → slot ≡ held → slot < 65536 → link_of (t RAW-KEYS) (raw_count t) slot ≡ suc (get_or (t ORDER) raws 0)
    sweep_hit sought h l =
        let a = sweep_low h l in
        let key : get_or (t RAW-KEYS) (get_or (t ORDER) raws 0) 0 ≡ slot = sym (h ∙ held-key a) in
        link_hit (t RAW-KEYS) (raw_count t) slot (get_or (t ORDER) raws 0) (o.inside raws a) key
        (λ j b d e. sought.raw_alone (get_or (t ORDER) raws 0) j b d (key ∙ sym e))

    pub sweep_miss : (slot ≡ held → ⊥) → slot < 65536 → link_of (t RAW-KEYS) (raw_count t) slot ≡ 0
    sweep_miss f l =
        link_miss (t RAW-KEYS) (raw_count t) slot λ i h e.
        let r = o.whole i h (omega arith) in
        let j = r.0 in
        let key : get_or (t RAW-KEYS) (get_or (t ORDER) j 0) 0 ≡ slot = ap (λ x. get_or (t RAW-KEYS) x 0) r.2 ∙ e in
        ⊎_elim
        (λ (a : j < raws). omega (arith, w.below j a r.1))
        (λ (a : raws ≤ j).
        ⊎_elim
        (λ (b : j ≡ raws). let low : raws < held_count t = omega (arith, r.1) in f (sym key ∙ ap (λ x. get_or (t RAW-KEYS) (get_or (t ORDER) x 0) 0) b ∙ sym (held-key low)))
        (λ (b : j ≡ raws → ⊥).
        let less : raws < j = omega arith in
        let low : raws < held_count t = omega (arith, r.1) in
        omega (arith, o.rise raws j less r.1, w.above raws (omega arith) low))
        (equal j raws))
        (compare j raws)

    -- one slot on
    pub sweep_next : slot ≡ held → slot < 65536 → (next : ℕ) → next ≡ held_in_lem t (raws + 1) → Sweep t (slot + 1) (raws + 1) next
    sweep_next h l next is =
        let a = sweep_low h l in
        record {
          is = is;
          below =
              λ j b d.
              ⊎_elim
              (λ (x : j < raws). omega (arith, w.below j x d))
              (λ (x : raws ≤ j). let same : j ≡ raws = omega arith in rw same (omega (arith, held-key a)))
              (compare j raws);
          above = λ j b d. omega (arith, o.rise raws j (omega arith) d, held-key a);
        }

    pub sweep_stay : (slot ≡ held → ⊥) → slot < 65536 → Sweep t (slot + 1) raws held
    sweep_stay f l =
        record {
          is = w.is;
          below = λ j b d. omega (arith, w.below j b d);
          above =
              λ j b d.
              let low : raws < held_count t = omega arith in
              let key = held-key low in
              let up = w.above raws (omega arith) low in
              let here : slot < held = omega (arith, key, up) in
              ⊎_elim
              (λ (x : j ≡ raws). rw x (omega (arith, key)))
              (λ (x : j ≡ raws → ⊥). omega (arith, o.rise raws j (omega arith) d, key))
              (equal j raws);
        }
