-- The cause of 6 to 11: a definition in turn is refused for itself or for an earlier one that it meets. Assumes nothing.
use mathlib.Core.Bool.{Bool, true, false, ◌&&◌, ◌||◌, not}
use mathlib.Core.List.{List, [], ◌∷◌, ◌++◌, append_assoc}
use mathlib.Core.Logic.{◌⊎◌, inl, inr}
use mathlib.Core.Option.{Option, none, some}
use mathlib.Core.Path.{◌≡◌, refl, sym, ap, subst, ◌∙◌}
use Prim.Native.Nat.{ℕ, suc, ◌≤◌, ◌<◌}
use native.Mathlib.Omega.{arith}
use lib.Dec.{eqb, leb, ltb}
use lib.ListN.{length, get_elem?, length-append}
use borrow.Author.Tests.{eqb-true, leb-false, ltb-false}
use Rattle.definition.specs.Basics.{good, at_record, unless, lookup, insert}
use Rattle.definition.specs.Shapes.{Kind, constant, bootstrap, Entry, is_wide, with_literal}
use Rattle.definition.specs.Job.{Reference, Definition, define, named, placed, setting, Job}
use Rattle.definition.specs.Numbering.{top_of, constants_of, literals, numbered_entry, numbered_definition, numbered}
use Rattle.definition.specs.Settings.{Setting, version, texts, highest}
use Rattle.definition.specs.Definitions.{Held, starts, half, Defined, name_target, is_none, tag_at, start_free, last_slot, hold, place_constant, place_bootstrap, with_setting, define_one, define_all, nothing_defined}
use Rattle.facts.specs.Lists.{Among}
use Rattle.facts.proofs.Lists.{clash, order, none≢some, found_inside, found_append, found_seam, place_front, among-nil, among-left, among-right, map_at, map-some}
use Rattle.facts.proofs.Tables.{lookup-at, among-lookup, insert-among}
use Rattle.facts.proofs.Each.{each_at}
use Rattle.facts.proofs.Results.{good_then, at_record-good}
use Rattle.facts.proofs.Outcomes.{Ends, well, refused, next, known-good}
use Rattle.causes.specs.CauseStatement.{At, Wide, Taken, SecondFree, DefinitionCause, outside, second_taken, on_second, same_slot, last_index, same_index, same_name}
use Rattle.laws.proofs.Form.FormedEntries.{FormedDefinition}
use Rattle.laws.proofs.Form.FormedJobs.{Formed, formed_definitions_each}
use Rattle.laws.proofs.Numbering.NumberedCited.{constants_numbered_lem}
use Rattle.laws.proofs.Definitions.RawSlotsRise.{is_none-true, placed-constant, defined_all}
use Rattle.laws.proofs.Definitions.DefinedAsPlaced.{DefinedFacts, wide_at, defined_facts}
use Rattle.laws.proofs.Resolving.JobGoals.{naming_named}
use Rattle.laws.proofs.Resolving.NameTargets.{target_at}
use Rattle.causes.proofs.CauseSteps.{unless-cause, at_place}

-- ---- second halves stand behind wide starts

abbrev Halves : (ℕ → Bool) → List (Definition ℕ) → List (ℕ × Held) → Type 0
Halves wide ds held =
    (s : ℕ) → Among (s, half) held → (m : ℕ) × (k : ℕ) × (s ≡ suc m) × Among (placed constant m k) ds × (wide k ≡ true)

halves_hold :
    (wide : ℕ → Bool) (ds : List (Definition ℕ)) (b : Bool) (n e : ℕ) (held : List (ℕ × Held)) →
    wide e ≡ b →
    Halves wide ds held →
    Halves wide (ds ++ placed constant n e ∷ []) (hold b n e held)
unfolding hold
halves_hold wide ds b n e held w h s a = go b w a
  where
    Goal : Type 0
    Goal = (m : ℕ) × (k : ℕ) × (s ≡ suc m) × Among (placed constant m k) (ds ++ placed constant n e ∷ []) × (wide k ≡ true)

    old : Among (s, half) held → Goal
    old p = let g = h s p in (g.0, g.1, g.2, among-left (placed constant g.0 g.1) ds _ g.3, g.4)

    second : wide e ≡ true → ((suc n ≡ s) × (◌≡◌ {A = Held} half half)) ⊎ Among (s, half) held → Goal
    second t (inl p) = (n, e, sym p.0, among-right (placed constant n e) ds _ (0, refl), t)
    second t (inr p) = old p

    start : (held' : List (ℕ × Held)) → ((n ≡ s) × (◌≡◌ {A = Held} (starts e) half)) ⊎ Among (s, half) held' → (Among (s, half) held' → Goal) → Goal
    start held' (inl p) f = let q = p.1 in clash (cc)
    start held' (inr p) f = f p

    go : (b : Bool) → wide e ≡ b → Among (s, half) (hold b n e held) → Goal
    go true t a =
        start (insert (suc n) half held) (insert-among n (starts e) (insert (suc n) half held) s half a) λ p.
        second t (insert-among (suc n) half held s half p)
    go false t a = start held (insert-among n (starts e) held s half a) old

halves_more : (wide : ℕ → Bool) (ds more : List (Definition ℕ)) (held : List (ℕ × Held)) → Halves wide ds held → Halves wide (ds ++ more) held
halves_more wide ds more held h s a = let g = h s a in (g.0, g.1, g.2, among-left (placed constant g.0 g.1) ds more g.3, g.4)

-- a setting holds no slot
held_kept : (s : Setting) (d : Defined) → (with_setting s d).held ≡ d.held
unfolding with_setting
held_kept (version v) d = refl
held_kept texts d = refl
held_kept (highest t) d = refl

halves_one :
    (top : ℕ) (constants : List (Entry ℕ Reference)) (ds : List (Definition ℕ)) (x : Definition ℕ) (d d' : Defined) →
    Halves (wide_at constants) ds d.held →
    define_one top constants x d ≡ good d' →
    Halves (wide_at constants) (ds ++ x ∷ []) d'.held
unfolding define_one
halves_one top constants ds (define e) d d' h q =
    let same : d ≡ d' = cc in
    rw (← same) (halves_more (wide_at constants) ds _ d.held h)
halves_one top constants ds (named kind s r) d d' h q =
    good_then (unless (is_none (name_target kind s d.names)) 11) _ d' q λ _ _ q₁.
    let now : Defined = record { held = d.held; indexes = d.indexes; names = d.names ++ record { kind = kind; label = s; target = r } ∷ []; version = d.version } in
    let same : now ≡ d' = cc in
    rw (← same) (halves_more (wide_at constants) ds _ d.held h)
halves_one top constants ds (placed constant n e) d d' h q =
    good_then (place_constant top (wide_at constants e) n e d.held) _ d' q λ held p q₁.
    let now : Defined = record { held = held; indexes = d.indexes; names = d.names; version = d.version } in
    let same : now ≡ d' = cc in
    let g = placed-constant top (wide_at constants e) n e d.held held p in
    rw (← same, ← g.now) (halves_hold (wide_at constants) ds (wide_at constants e) n e d.held refl h)
halves_one top constants ds (placed bootstrap n e) d d' h q =
    good_then (place_bootstrap n e d.indexes) _ d' q λ indexes p q₁.
    let now : Defined = record { held = d.held; indexes = indexes; names = d.names; version = d.version } in
    let same : now ≡ d' = cc in
    rw (← same) (halves_more (wide_at constants) ds _ d.held h)
halves_one top constants ds (setting s) d d' h q =
    let same : with_setting s d ≡ d' = cc in
    subst (λ held. Halves (wide_at constants) (ds ++ setting s ∷ []) held) (sym (held_kept s d) ∙ ap (λ (d : Defined). d.held) same)
    (halves_more (wide_at constants) ds (setting s ∷ []) d.held h)

halves :
    (top : ℕ) (constants : List (Entry ℕ Reference)) (ds : List (Definition ℕ)) (d : Defined) →
    define_all top constants 0 ds nothing_defined ≡ good d →
    Halves (wide_at constants) ds d.held
unfolding nothing_defined
halves top constants ds d e =
    defined_all top constants (λ ds d. Halves (wide_at constants) ds d.held) (halves_one top constants) 0 [] ds nothing_defined d (λ s a. among-nil (s, half) a) e

-- ---- one definition more

define_more :
    (top : ℕ) (constants : List (Entry ℕ Reference)) (place : ℕ) (ds : List (Definition ℕ)) (x : Definition ℕ) (d₀ d d' : Defined) →
    define_all top constants place ds d₀ ≡ good d →
    define_one top constants x d ≡ good d' →
    define_all top constants place (ds ++ x ∷ []) d₀ ≡ good d'
unfolding define_all at_record
define_more top constants place [] x d₀ d d' e q =
    let same : d₀ ≡ d = cc in
    rw (same, q) refl
define_more top constants place (y ∷ ds) x d₀ d d' e q =
    good_then (at_record place (define_one top constants y d₀)) _ d e λ d₁ p e₁.
    let here = at_record-good place (define_one top constants y d₀) d₁ p in
    rw here (define_more top constants (suc place) ds x d₁ d d' e₁ q)

-- ---- the records of the job, and its wide constants

pub wide_tag : (t : ℕ) → is_wide t ≡ true → (t ≡ 5) ⊎ (t ≡ 6)
unfolding is_wide
wide_tag t w = go (eqb t 5) refl
  where
    go : (b : Bool) → eqb t 5 ≡ b → (t ≡ 5) ⊎ (t ≡ 6)
    go true h = inl (eqb-true t 5 h)
    go false h = inr (eqb-true t 6 (rw (h, is_wide) at w))

pub tag-wide : (t : ℕ) → (t ≡ 5) ⊎ (t ≡ 6) → is_wide t ≡ true
unfolding is_wide
tag-wide t (inl e) = rw e refl
tag-wide t (inr e) = rw e refl

module _ (job : Job (List ℕ)) where
  abbrev pub all : List (Definition ℕ)
  all = (numbered job).definitions

  abbrev pub constants : List (Entry ℕ Reference)
  constants = constants_of (numbered job).definitions

  pub placed-back : (i : ℕ) (kind : Kind) (n e : ℕ) → get_elem? all i ≡ some (placed kind n e) → At job i (placed kind n e)
  unfolding numbered numbered_definition
  placed-back i kind n e p = let h = map-some (numbered_definition (literals job)) job.definitions i (placed kind n e) p in go h.0 h.1 h.2
    where
      go : (x : Definition (List ℕ)) → At job i x → numbered_definition (literals job) x ≡ placed kind n e → At job i (placed kind n e)
      go (define y) at q = clash (cc)
      go (named k s r) at q = clash (cc)
      go (setting v) at q = clash (cc)
      go (placed k a m) at q =
          let q₁ : k ≡ kind = cc in
          let q₂ : a ≡ n = cc in
          let q₃ : m ≡ e = cc in
          cc

  pub named_back : (i : ℕ) (kind : Kind) (s : List ℕ) (r : Reference) → get_elem? all i ≡ some (named kind s r) → At job i (named kind s r)
  unfolding numbered numbered_definition
  named_back i kind s r p = let h = map-some (numbered_definition (literals job)) job.definitions i (named kind s r) p in go h.0 h.1 h.2
    where
      go : (x : Definition (List ℕ)) → At job i x → numbered_definition (literals job) x ≡ named kind s r → At job i (named kind s r)
      go (define y) at q = clash (cc)
      go (named k t u) at q =
          let q₁ : k ≡ kind = cc in
          let q₂ : t ≡ s = cc in
          let q₃ : u ≡ r = cc in
          cc
      go (placed k a m) at q = clash (cc)
      go (setting v) at q = clash (cc)

  pub placed-forth : (i : ℕ) (kind : Kind) (n e : ℕ) → At job i (placed kind n e) → get_elem? all i ≡ some (placed kind n e)
  unfolding numbered numbered_definition
  placed-forth i kind n e p = map_at (numbered_definition (literals job)) job.definitions i (placed kind n e) p

  pub named-forth : (i : ℕ) (kind : Kind) (s : List ℕ) (r : Reference) → At job i (named kind s r) → get_elem? all i ≡ some (named kind s r)
  unfolding numbered numbered_definition
  named-forth i kind s r p = map_at (numbered_definition (literals job)) job.definitions i (named kind s r) p

  -- the tag of a constant is the same
  tag_back : (e : ℕ) (x : Entry ℕ Reference) → get_elem? constants e ≡ some x → (y : Entry (List ℕ) Reference) × (get_elem? (constants_of job.definitions) e ≡ some y) × (y.tag ≡ x.tag)
  unfolding numbered_entry with_literal
  tag_back e x p =
      let h = map-some (numbered_entry (literals job)) (constants_of job.definitions) e x (subst (λ l. get_elem? l e ≡ some x) (constants_numbered_lem job) p) in
      (h.0, h.1, ap (λ (z : Entry ℕ Reference). z.tag) h.2)

  wide_back : (e : ℕ) → wide_at constants e ≡ true → Wide job e
  unfolding tag_at is_wide
  wide_back e w = go (get_elem? constants e) refl
    where
      go : (o : Option (Entry ℕ Reference)) → get_elem? constants e ≡ o → Wide job e
      go none p = clash (cc (rw (p, tag_at) at w))
      go (some x) p =
          let h = tag_back e x p in
          let t : is_wide x.tag ≡ true = rw (p, tag_at) at w in
          (h.0, h.1, wide_tag h.0.tag (ap is_wide h.2 ∙ t))

  tag-forth : (e : ℕ) (y : Entry (List ℕ) Reference) → get_elem? (constants_of job.definitions) e ≡ some y → tag_at constants e ≡ y.tag
  unfolding tag_at numbered_entry with_literal
  tag-forth e y p =
      let h : get_elem? constants e ≡ some (numbered_entry (literals job) y) =
      subst (λ l. get_elem? l e ≡ some (numbered_entry (literals job) y)) (sym (constants_numbered_lem job)) (map_at (numbered_entry (literals job)) (constants_of job.definitions) e y p) in
      rw (h, tag_at) refl

  pub wide_forth : (e : ℕ) → Wide job e → wide_at constants e ≡ true
  wide_forth e (y, p, t) = ap is_wide (tag-forth e y p) ∙ tag-wide y.tag t

  -- ---- a definition in turn, behind those before it

  module _
      (before tail : List (Definition ℕ))
      (split : before ++ tail ≡ all)
      (d : Defined)
      (done : define_all (top_of job) constants 0 before nothing_defined ≡ good d) where
    abbrev place : ℕ
    place = length before

    facts : DefinedFacts (wide_at constants) before d
    facts = defined_facts (top_of job) constants before d done

    earlier : (y : Definition ℕ) → Among y before → (i : ℕ) × (i < place) × (get_elem? all i ≡ some y)
    earlier y a =
        (a.0, found_inside before a.0 y a.1, subst (λ l. get_elem? l a.0 ≡ some y) split (found_append before tail a.0 y a.1))

    pub among-before : (i : ℕ) (y : Definition ℕ) → i < place → get_elem? all i ≡ some y → Among y before
    among-before i y l p = (i, sym (place_front before tail i l) ∙ subst (λ l. get_elem? l i ≡ some y) (sym split) p)

    -- a held slot is taken by an earlier record, and one that isn't by none
    pub taken_of : (s : ℕ) (h : Held) → Among (s, h) d.held → Taken job place s
    taken_of s (starts k) a =
        let e = earlier (placed constant s k) (facts.all_held.start_placed s k a) in
        (e.0, s, k, e.1, placed-back e.0 constant s k e.2, inl refl)
    taken_of s half a =
        let h = halves (top_of job) constants before d done s a in
        let e = earlier (placed constant h.0 h.1) h.3 in
        (e.0, h.0, h.1, e.1, placed-back e.0 constant h.0 h.1 e.2, inr (wide_back h.1 h.4, h.2))

    pub taken_found : (s : ℕ) → Taken job place s → lookup s d.held ≡ none → ⊥
    taken_found s (i, m, k, l, at, inl q) gone =
        let a = among-before i (placed constant m k) l (placed-forth i constant m k at) in
        let f = among-lookup m (starts k) d.held (facts.all_held.start_held m k a) in
        none≢some (sym gone ∙ ap (λ n. lookup n d.held) q ∙ f.1)
    taken_found s (i, m, k, l, at, inr (w, q)) gone =
        let a = among-before i (placed constant m k) l (placed-forth i constant m k at) in
        let f = among-lookup (suc m) half d.held (facts.all_held.half_held m k a (wide_forth k w)) in
        none≢some (sym gone ∙ ap (λ n. lookup n d.held) q ∙ f.1)

    second-free : (n e : ℕ) → (not (wide_at constants e) || is_none (lookup (suc n) d.held)) ≡ true → SecondFree job place n e
    second-free n e t w taken = taken_found (suc n) taken (is_none-true (lookup (suc n) d.held) (go (wide_at constants e) (wide_forth e w) t))
      where
        go : (b : Bool) → b ≡ true → (not b || is_none (lookup (suc n) d.held)) ≡ true → is_none (lookup (suc n) d.held) ≡ true
        go true q t = t
        go false q t = clash (cc)

    abbrev Z : ℕ → Type 0
    Z code = DefinitionCause job code place

    module _ (n e : ℕ) (at : At job place (placed constant n e)) (low : n < 65536) where
      six : (not (eqb n 0) && leb (last_slot (wide_at constants e) n) (top_of job)) ≡ false → Z 6
      unfolding last_slot
      six t = outside place n e at (go (eqb n 0) refl (wide_at constants e) refl t)
        where
          last : wide_at constants e ≡ true → top_of job < suc n → (top_of job < n) ⊎ (n ≤ top_of job) → (n ≡ 0) ⊎ ((top_of job < n) ⊎ ((n ≡ top_of job) × Wide job e))
          last w l (inl above) = inr (inl above)
          last w l (inr at_most) = inr (inr (omega (arith, l, at_most), wide_back e w))

          go :
              (c : Bool) → eqb n 0 ≡ c → (b : Bool) → wide_at constants e ≡ b → (not c && leb (last_slot b n) (top_of job)) ≡ false →
              (n ≡ 0) ⊎ ((top_of job < n) ⊎ ((n ≡ top_of job) × Wide job e))
          go true q b w t = inl (eqb-true n 0 q)
          go false q true w t = last w (leb-false (suc n) (top_of job) t) (order (top_of job) n)
          go false q false w t = inr (inl (leb-false n (top_of job) t))

      seven : (not (wide_at constants e) || is_none (lookup (suc n) d.held)) ≡ false → Z 7
      unfolding is_none
      seven t = go (wide_at constants e) refl (lookup (suc n) d.held) refl t
        where
          go : (b : Bool) → wide_at constants e ≡ b → (o : Option Held) → lookup (suc n) d.held ≡ o → (not b || is_none o) ≡ false → Z 7
          go false w o l t = clash (cc)
          go true w none l t = clash (cc)
          go true w (some h) l t = second_taken place n e at (wide_back e w) (taken_of (suc n) h (lookup-at (suc n) h d.held l))

      start_cause : SecondFree job place n e → (o : Option Held) → lookup n d.held ≡ o → Ends Z (λ _. Unit {0}) (start_free o)
      unfolding start_free
      start_cause free none q = well tt
      start_cause free (some (starts k)) q =
          let a = earlier (placed constant n k) (facts.all_held.start_placed n k (lookup-at n (starts k) d.held q)) in
          refused (same_slot place n e a.0 k at free a.1 (placed-back a.0 constant n k a.2))
      start_cause free (some half) q =
          let h = halves (top_of job) constants before d done n (lookup-at n half d.held q) in
          let a = earlier (placed constant h.0 h.1) h.3 in
          refused (on_second place n e a.0 h.0 h.1 at free a.1 (placed-back a.0 constant h.0 h.1 a.2) (wide_back h.1 h.4) h.2)

      constant_cause : Ends Z (λ _. Unit {0}) (place_constant (top_of job) (wide_at constants e) n e d.held)
      unfolding place_constant
      constant_cause =
          next _ (unless-cause (not (eqb n 0) && leb (last_slot (wide_at constants e) n) (top_of job)) 6 six) λ _ _.
          next _ (unless-cause (not (wide_at constants e) || is_none (lookup (suc n) d.held)) 7 seven) λ _ free.
          next _ (start_cause (second-free n e free) (lookup n d.held) refl) λ _ _. well tt

    bootstrap_cause : (n e : ℕ) → At job place (placed bootstrap n e) → n < 65536 → Ends Z (λ _. Unit {0}) (place_bootstrap n e d.indexes)
    unfolding place_bootstrap is_none
    bootstrap_cause n e at low =
        next _ (unless-cause (ltb n 65535) 9 nine) λ _ _. next _ (unless-cause (is_none (lookup n d.indexes)) 10 (ten (lookup n d.indexes) refl)) λ _ _. well tt
      where
        nine : ltb n 65535 ≡ false → Z 9
        nine t =
            let q : n ≡ 65535 = omega (arith, ltb-false n 65535 t, low) in
            last_index place e (subst (λ m. At job place (placed bootstrap m e)) q at)

        ten : (o : Option ℕ) → lookup n d.indexes ≡ o → is_none o ≡ false → Z 10
        ten none q t = clash (cc)
        ten (some k) q t =
            let a = earlier (placed bootstrap n k) (facts.all_indexes.index_placed n k (lookup-at n k d.indexes q)) in
            same_index place n e a.0 k at a.1 (placed-back a.0 bootstrap n k a.2)

    eleven : (kind : Kind) (s : List ℕ) (r : Reference) → At job place (named kind s r) → (o : Option Reference) → name_target kind s d.names ≡ o → is_none o ≡ false → Z 11
    unfolding is_none
    eleven kind s r at none q t = clash (cc)
    eleven kind s r at (some u) q t =
        let h = target_at kind s d.names u q in
        let m = h.0 in
        let a = naming_named before h.1.0 m (subst (λ l. get_elem? l h.1.0 ≡ some m) facts.all_names h.1.1) in
        let e = earlier (named m.kind m.label m.target) a in
        let p = named_back e.0 m.kind m.label m.target e.2 in
        same_name place e.0 kind s r m.target at e.1
        (subst (λ l. At job e.0 (named kind l m.target)) (sym h.3) (subst (λ k. At job e.0 (named k m.label m.target)) (sym h.2) p))

  -- a definition that is read is formed
  module _ (formed : Formed job) where
    fits : (i : ℕ) (x : Definition (List ℕ)) → At job i x → FormedDefinition x
    fits i x p = each_at FormedDefinition job.definitions i x (formed_definitions_each job formed) p

    one-cause :
        (before rest : List (Definition ℕ)) (x : Definition ℕ) (d : Defined) →
        before ++ x ∷ rest ≡ all →
        define_all (top_of job) constants 0 before nothing_defined ≡ good d →
        get_elem? all (length before) ≡ some x →
        Ends (λ code. DefinitionCause job code (length before)) (λ _. Unit {0}) (define_one (top_of job) constants x d)
    unfolding define_one
    one-cause before rest (define e) d split done here = well tt
    one-cause before rest (setting s) d split done here = well tt
    one-cause before rest (named kind s r) d split done here =
        next _
        (unless-cause (is_none (name_target kind s d.names)) 11
        (eleven before (named kind s r ∷ rest) split d done kind s r (named_back (length before) kind s r here) (name_target kind s d.names) refl)) λ _ _.
        well tt
    one-cause before rest (placed constant n e) d split done here =
        let at = placed-back (length before) constant n e here in
        next _ (constant_cause before (placed constant n e ∷ rest) split d done n e at (fits (length before) (placed constant n e) at).0) λ _ _. well tt
    one-cause before rest (placed bootstrap n e) d split done here =
        let at = placed-back (length before) bootstrap n e here in
        next _ (bootstrap_cause before (placed bootstrap n e ∷ rest) split d done n e at (fits (length before) (placed bootstrap n e) at).0) λ _ _. well tt

    all_cause :
        (before tail : List (Definition ℕ)) (d : Defined) →
        before ++ tail ≡ all →
        define_all (top_of job) constants 0 before nothing_defined ≡ good d →
        Ends (λ e. DefinitionCause job e.code e.place) (λ _. Unit {0}) (define_all (top_of job) constants (length before) tail d)
    unfolding define_all
    all_cause before [] d split done = well tt
    all_cause before (x ∷ rest) d split done =
        let here : get_elem? all (length before) ≡ some x = subst (λ l. get_elem? l (length before) ≡ some x) split (found_seam before x rest) in
        next _ (at_place (DefinitionCause job) (length before) (known-good (define_one (top_of job) constants x d) (one-cause before rest x d split done here))) λ d' k.
        let longer : length (before ++ x ∷ []) ≡ suc (length before) = length-append before (x ∷ []) ∙ omega arith in
        subst (λ p. Ends (λ e. DefinitionCause job e.code e.place) (λ _. Unit {0}) (define_all (top_of job) constants p rest d')) longer
        (all_cause (before ++ x ∷ []) rest d' (append_assoc before (x ∷ []) rest ∙ split) (define_more (top_of job) constants 0 before x nothing_defined d d' done k.1))

    -- CAUSE of 6 to 11: what the definitions in turn are refused for
    pub cause_of_definitions :
        Ends (λ e. DefinitionCause job e.code e.place) (λ _. Unit {0}) (define_all (top_of job) constants 0 all nothing_defined)
    unfolding define_all
    cause_of_definitions = all_cause [] all nothing_defined refl refl
