-- What a slot of a built job and its class name show for a literal stands, with its tag, among the job's literals. Assumes nothing.
use mathlib.Core.Bool.{Bool, true, false}
use mathlib.Core.List.{List}
use mathlib.Core.Logic.{◌⊎◌, inl, inr}
use mathlib.Core.Option.{Option, none, some}
use mathlib.Core.Path.{◌≡◌, refl, sym, ap, subst, ◌∙◌}
use Prim.Native.Nat.{ℕ, zero, suc, ◌+◌, ◌-◌}
use native.Mathlib.Omega.{arith}
use lib.Dec.{eqb}
use lib.ListN.{get_or, get_elem?}
use borrow.Author.Tests.{eqb-true}
use Rattle.definition.specs.Basics.{good, lookup, from}
use Rattle.definition.specs.Shapes.{Entry, with_kids, is_wide}
use Rattle.definition.specs.Job.{Job}
use Rattle.definition.specs.Form.{form}
use Rattle.definition.specs.Numbering.{top_of, Literal, literals, literal_of, numbered}
use Rattle.definition.specs.Resolving.{Node}
use Rattle.definition.specs.Building.{attribute_text, Content, nothing, empty_text, holds, behind, content_of, text_in, class_name}
use Rattle.definition.specs.Layout.{class_slot_of, Layout, layout_of, layout}
use Rattle.facts.proofs.Lists.{clash, some_inj, found_inside, found_read}
use Rattle.facts.proofs.Chunks.{length_from, from_place}
use Rattle.laws.specs.Statements.{IsBytes}
use Rattle.laws.proofs.Building.BuiltJob.{nodes}
use Rattle.laws.proofs.Reading.BuiltPoolReadBack.{stg, end, owned, count, node_origin, owner_here}

holds-inj : {a b : Entry ℕ ℕ} → holds a ≡ holds b → a ≡ b
holds-inj e = cc

-- a literal's number stands for a literal of its tag
abbrev pub LiteralAt : List Literal → ℕ → ℕ → Type 0
LiteralAt all tag n = get_elem? all n ≡ some (tag, literal_of all n)

-- so it does if a literal of the tag stands there
literal_at_lem : (all : List Literal) (tag n : ℕ) (a : List ℕ) → get_elem? all n ≡ some (tag, a) → LiteralAt all tag n
unfolding literal_of
literal_at_lem all tag n a h =
    let is : literal_of all n ≡ a = ap (λ (l : Literal). l.1) (found_read all n (tag, a) _ h) in
    h ∙ ap (λ l. some (tag, l)) (sym is)

-- a slot that holds an entry is owned by it
behind-none : (o : Option (Entry ℕ ℕ)) (e : Entry ℕ ℕ) → behind o ≡ holds e → ⊥
unfolding behind
behind-none none e h = clash (cc)
behind-none (some p) e h = go (is_wide p.tag) refl
  where
    go : (w : Bool) → is_wide p.tag ≡ w → ⊥
    go true t = let is : behind (some p) ≡ nothing = rw (t, behind) refl in clash (cc)
    go false t = let is : behind (some p) ≡ empty_text = rw (t, behind) refl in clash (cc)

held-owned : (own : List (ℕ × Entry ℕ ℕ)) (n : ℕ) (e : Entry ℕ ℕ) → content_of own n ≡ holds e → lookup n own ≡ some e
unfolding content_of
held-owned own zero e h = clash (cc)
held-owned own (suc n) e h = go (lookup (suc n) own) refl
  where
    go : (o : Option (Entry ℕ ℕ)) → lookup (suc n) own ≡ o → lookup (suc n) own ≡ some e
    go none t = absurd (behind-none (lookup n own) e (sym (rw (t, content_of) refl) ∙ h))
    go (some x) t = t ∙ ap some (holds-inj (sym (rw (t, content_of) refl) ∙ h))

module _ (bytes : List ℕ) (job : Job (List ℕ)) (l : Layout) (are : IsBytes bytes) (formed : form bytes ≡ good job) (laid : layout (top_of job) (numbered job) ≡ good l) where
  abbrev own : List (ℕ × Entry ℕ ℕ)
  own = owned bytes job l are formed laid

  -- an owned slot's literal
  owner_literal : (n : ℕ) (e : Entry ℕ ℕ) → lookup n own ≡ some e → LiteralAt (literals job) e.tag e.literal
  unfolding with_kids attribute_text literals literal_of
  owner_literal n e h =
      let (k, nd, ns, same, at, a, nums) = owner_here bytes job l are formed laid n e h in
      subst (λ (e : Entry ℕ ℕ). LiteralAt (literals job) e.tag e.literal) (sym same) (go k nd ((end bytes job l are formed laid).others k nd at))
    where
      go : (k : ℕ) (nd : Node) → (get_elem? (nodes bytes job l are formed laid) k ≡ some nd) ⊎ (nd ≡ attribute_text) → LiteralAt (literals job) nd.tag nd.literal
      go k nd (inl at) =
          let (e, x, o, mark, is) = node_origin bytes job l are formed laid k nd at in
          subst (λ (y : Node). LiteralAt (literals job) y.tag y.literal) (sym is)
          (subst (λ t. LiteralAt (literals job) t x.literal) (sym o.same_tag) (literal_at_lem (literals job) o.entry.tag x.literal o.entry.literal o.literal_at))
      go k nd (inr is) = subst (λ (y : Node). LiteralAt (literals job) y.tag y.literal) (sym is) refl

  -- so the literal of what a slot holds
  content_literal : (n : ℕ) (e : Entry ℕ ℕ) → content_of own n ≡ holds e → LiteralAt (literals job) e.tag e.literal
  content_literal n e h = owner_literal n e (held-owned own n e h)

  pub slot-literal : (i : ℕ) (e : Entry ℕ ℕ) → get_elem? l.contents i ≡ some (holds e) → LiteralAt (literals job) e.tag e.literal
  unfolding layout_of
  slot-literal i e h =
      let size = count bytes job l are formed laid - 1 in
      let there : get_elem? (from (content_of own) 1 size) i ≡ some (holds e) = subst (λ (x : Layout). get_elem? x.contents i ≡ some (holds e)) (sym (stg bytes job l are formed laid).is_laid) h in
      let low = found_inside (from (content_of own) 1 size) i (holds e) there in
      content_literal (1 + i) e (some_inj (sym (from_place (content_of own) 1 size i (omega (arith, low, length_from (content_of own) 1 size))) ∙ there))

  -- a text's literal
  text_literal : (c : Content) (n : ℕ) → ((e : Entry ℕ ℕ) → c ≡ holds e → LiteralAt (literals job) e.tag e.literal) → text_in c ≡ some (some n) → LiteralAt (literals job) 1 n
  unfolding text_in
  text_literal nothing n held h = clash (cc)
  text_literal empty_text n held h = clash (cc)
  text_literal (holds e) n held h = go (eqb e.tag 1) refl
    where
      go : (b : Bool) → eqb e.tag 1 ≡ b → LiteralAt (literals job) 1 n
      go true t =
          let is : some (some e.literal) ≡ some (some n) = sym (rw (t, text_in) refl) ∙ h in
          let number : e.literal ≡ n = some_inj (some_inj is) in
          subst (λ m. LiteralAt (literals job) 1 m) number (subst (λ t. LiteralAt (literals job) t e.literal) (eqb-true e.tag 1 t) (held e refl))
      go false t = let is : none ≡ some (some n) = sym (rw (t, text_in) refl) ∙ h in clash (cc)

  -- the class name's
  named-literal : (c : Content) (n : ℕ) → class_name own c ≡ some (some n) → LiteralAt (literals job) 1 n
  unfolding class_name
  named-literal nothing n h = clash (cc)
  named-literal empty_text n h = clash (cc)
  named-literal (holds e) n h = go (eqb e.tag 7) refl
    where
      go : (b : Bool) → eqb e.tag 7 ≡ b → LiteralAt (literals job) 1 n
      go true t =
          let s = get_or e.kids 0 0 in
          text_literal (content_of own s) n (λ e at. content_literal s e at) (sym (rw (t, class_name) refl) ∙ h)
      go false t = let is : none ≡ some (some n) = sym (rw (t, class_name) refl) ∙ h in clash (cc)

  pub class_literal : (n : ℕ) → l.class ≡ some (some n) → LiteralAt (literals job) 1 n
  unfolding layout_of
  class_literal n h =
      let slot = class_slot_of (stg bytes job l are formed laid).answers (numbered job).build.class in
      named-literal (content_of own slot) n (subst (λ (x : Layout). x.class ≡ some (some n)) (sym (stg bytes job l are formed laid).is_laid) h)
