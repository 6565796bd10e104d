-- Two formed jobs that are alike but for their literals are one job once literals are numbers. Assumes nothing.
use mathlib.Core.Bool.{Bool, true, false}
use mathlib.Core.List.{List, [], ◌∷◌, map}
use mathlib.Core.Logic.{◌↔◌}
use mathlib.Core.Option.{some}
use mathlib.Core.Path.{◌≡◌, refl, sym, ap, ◌∙◌}
use Prim.Native.Nat.{ℕ, zero, suc}
use lib.ListN.{length, get_elem?, length-map}
use Rattle.definition.specs.Basics.{good}
use Rattle.definition.specs.Shapes.{Entry, with_literal}
use Rattle.definition.specs.Job.{Reference, Definition, define, named, placed, setting, Job}
use Rattle.definition.specs.Form.{form}
use Rattle.definition.specs.Numbering.{Literal, same_literal, attribute_name, entries, literals, number_of, numbered_entry, numbered_definition, numbered}
use Rattle.definition.specs.Run.{build}
use Rattle.facts.proofs.Lists.{tests_agree, position-agree, map_at, map-some, map-agree, stands_among}
use Rattle.laws.specs.Statements.{skeleton, Alike}
use Rattle.laws.proofs.Form.EmptyLiterals.{has_literal, lit_of, Bare, entries-bare}
use Rattle.laws.proofs.Numbering.Numbering.{same_literal-iff}

-- an entry without its literal
abbrev stripped : Entry (List ℕ) Reference → Entry (Unit {0}) Reference
stripped e = with_literal tt e

-- the entries of the skeletons are the entries without their literals
entries-skeleton : (ds : List (Definition (List ℕ))) → entries (map skeleton ds) ≡ map stripped (entries ds)
unfolding entries skeleton
entries-skeleton [] = refl
entries-skeleton (define e ∷ ds) = ap (λ l. stripped e ∷ l) (entries-skeleton ds)
entries-skeleton (named kind s r ∷ ds) = entries-skeleton ds
entries-skeleton (placed kind at number ∷ ds) = entries-skeleton ds
entries-skeleton (setting rule ∷ ds) = entries-skeleton ds

-- so alike definitions have alike entries
module _ (ds₁ ds₂ : List (Definition (List ℕ))) (alike : map skeleton ds₁ ≡ map skeleton ds₂) where
  entries-alike : map stripped (entries ds₁) ≡ map stripped (entries ds₂)
  entries-alike = sym (entries-skeleton ds₁) ∙ ap entries alike ∙ entries-skeleton ds₂

  as_many : length (entries ds₁) ≡ length (entries ds₂)
  as_many = sym (length-map (entries ds₁) stripped) ∙ ap length entries-alike ∙ length-map (entries ds₂) stripped

  same-tags : (i : ℕ) (x₁ x₂ : Entry (List ℕ) Reference) → get_elem? (entries ds₁) i ≡ some x₁ → get_elem? (entries ds₂) i ≡ some x₂ → x₁.tag ≡ x₂.tag
  unfolding with_literal
  same-tags i x₁ x₂ p₁ p₂ =
      ap (λ (e : Entry (Unit {0}) Reference). e.tag) (map-agree stripped (entries ds₁) (entries ds₂) entries-alike i x₁ x₂ p₁ p₂)

-- entries alike without literals are alike with equal ones
relabelled : (x₁ x₂ : Entry (List ℕ) Reference) (n₁ n₂ : ℕ) → stripped x₁ ≡ stripped x₂ → n₁ ≡ n₂ → with_literal n₁ x₁ ≡ with_literal n₂ x₂
unfolding with_literal
relabelled x₁ x₂ n₁ n₂ p q = λ i. record { tag = (p i).tag; literal = q i; byte = (p i).byte; kids = (p i).kids }

-- definitions with one skeleton and the same numbers for their literals are the same with numbers
numbered-alike :
    (all₁ all₂ : List Literal) (ds₁ ds₂ : List (Definition (List ℕ))) →
    map skeleton ds₁ ≡ map skeleton ds₂ →
    ((i : ℕ) (x₁ x₂ : Entry (List ℕ) Reference) →
    get_elem? (entries ds₁) i ≡ some x₁ →
    get_elem? (entries ds₂) i ≡ some x₂ →
    number_of all₁ (lit_of x₁) ≡ number_of all₂ (lit_of x₂)) →
    map (numbered_definition all₁) ds₁ ≡ map (numbered_definition all₂) ds₂
unfolding numbered_definition numbered_entry skeleton entries
numbered-alike all₁ all₂ [] [] s n = refl
numbered-alike all₁ all₂ [] (d ∷ ds) s n = cc
numbered-alike all₁ all₂ (d ∷ ds) [] s n = cc
numbered-alike all₁ all₂ (define x₁ ∷ ds₁) (define x₂ ∷ ds₂) s n =
    let here = relabelled x₁ x₂ (number_of all₁ (lit_of x₁)) (number_of all₂ (lit_of x₂)) (cc) (n 0 x₁ x₂ refl refl) in
    cc (here, numbered-alike all₁ all₂ ds₁ ds₂ (cc) (λ i. n (suc i)))
numbered-alike all₁ all₂ (define x₁ ∷ ds₁) (named kind t r ∷ ds₂) s n = cc
numbered-alike all₁ all₂ (define x₁ ∷ ds₁) (placed kind at number ∷ ds₂) s n = cc
numbered-alike all₁ all₂ (named kind t r ∷ ds₁) (define x₂ ∷ ds₂) s n = cc
numbered-alike all₁ all₂ (named kind₁ t₁ r₁ ∷ ds₁) (named kind t r ∷ ds₂) s n = cc (numbered-alike all₁ all₂ ds₁ ds₂ (cc) n)
numbered-alike all₁ all₂ (named kind₁ t₁ r₁ ∷ ds₁) (placed kind at number ∷ ds₂) s n = cc
numbered-alike all₁ all₂ (placed kind₁ at₁ number₁ ∷ ds₁) (define x₂ ∷ ds₂) s n = cc
numbered-alike all₁ all₂ (placed kind₁ at₁ number₁ ∷ ds₁) (named kind t r ∷ ds₂) s n = cc
numbered-alike all₁ all₂ (placed kind₁ at₁ number₁ ∷ ds₁) (placed kind at number ∷ ds₂) s n = cc (numbered-alike all₁ all₂ ds₁ ds₂ (cc) n)
numbered-alike all₁ all₂ (define x₁ ∷ ds₁) (setting rule ∷ ds₂) s n = cc
numbered-alike all₁ all₂ (named kind₁ t₁ r₁ ∷ ds₁) (setting rule ∷ ds₂) s n = cc
numbered-alike all₁ all₂ (placed kind₁ at₁ number₁ ∷ ds₁) (setting rule ∷ ds₂) s n = cc
numbered-alike all₁ all₂ (setting rule₁ ∷ ds₁) (define x₂ ∷ ds₂) s n = cc
numbered-alike all₁ all₂ (setting rule₁ ∷ ds₁) (named kind t r ∷ ds₂) s n = cc
numbered-alike all₁ all₂ (setting rule₁ ∷ ds₁) (placed kind at number ∷ ds₂) s n = cc
numbered-alike all₁ all₂ (setting rule₁ ∷ ds₁) (setting rule ∷ ds₂) s n = cc (numbered-alike all₁ all₂ ds₁ ds₂ (cc) n)

-- equal literals in one job are equal in the other, if those of one kind are and those of no kind are empty
carry :
    (a₁ b₁ a₂ b₂ : Literal) →
    a₁.0 ≡ a₂.0 →
    b₁.0 ≡ b₂.0 →
    Bare a₂ →
    Bare b₂ →
    (a₁.0 ≡ b₁.0 → has_literal a₁.0 ≡ true → a₁.1 ≡ b₁.1 → a₂.1 ≡ b₂.1) →
    a₁ ≡ b₁ →
    a₂ ≡ b₂
carry a₁ b₁ a₂ b₂ p q e₁ e₂ equal s =
    let t : a₁.0 ≡ b₁.0 = ap (λ (l : Literal). l.0) s in
    let u : a₂.0 ≡ b₂.0 = sym p ∙ t ∙ q in
    let v : a₂.1 ≡ b₂.1 = ways (has_literal a₂.0) refl t u in
    λ i. (u i, v i)
  where
    ways : (b : Bool) → has_literal a₂.0 ≡ b → a₁.0 ≡ b₁.0 → a₂.0 ≡ b₂.0 → a₂.1 ≡ b₂.1
    ways true h t u = equal t (rw p h) (ap (λ (l : Literal). l.1) s)
    ways false h t u = e₁ h ∙ sym (e₂ (rw (← u) h))

-- so the tests on them agree
carry_both :
    (a₁ b₁ a₂ b₂ : Literal) →
    a₁.0 ≡ a₂.0 →
    b₁.0 ≡ b₂.0 →
    Bare a₁ →
    Bare b₁ →
    Bare a₂ →
    Bare b₂ →
    (a₁.0 ≡ b₁.0 → has_literal a₁.0 ≡ true → (a₁.1 ≡ b₁.1) ↔ (a₂.1 ≡ b₂.1)) →
    same_literal a₁ b₁ ≡ same_literal a₂ b₂
carry_both a₁ b₁ a₂ b₂ p q e₁ f₁ e₂ f₂ equal =
    tests_agree (same_literal a₁ b₁) (same_literal a₂ b₂)
    (λ t. (same_literal-iff a₂ b₂).1 (carry a₁ b₁ a₂ b₂ p q e₂ f₂ (λ s h. (equal s h).0) ((same_literal-iff a₁ b₁).0 t)))
    (λ t.
    (same_literal-iff a₁ b₁).1
    (carry a₂ b₂ a₁ b₁ (sym p) (sym q) e₁ f₁ (λ s h. (equal (p ∙ s ∙ sym q) (rw p h)).1) ((same_literal-iff a₂ b₂).0 t)))

-- two formed jobs that are alike
module _
    (bytes₁ bytes₂ : List ℕ) (j₁ j₂ : Job (List ℕ)) (formed₁ : form bytes₁ ≡ good j₁) (formed₂ : form bytes₂ ≡ good j₂) (alike : Alike j₁ j₂) where
  abbrev es₁ : List (Entry (List ℕ) Reference)
  es₁ = entries j₁.definitions

  abbrev es₂ : List (Entry (List ℕ) Reference)
  es₂ = entries j₂.definitions

  -- entries at one place have one tag
  tags : (i : ℕ) (x₁ x₂ : Entry (List ℕ) Reference) → get_elem? es₁ i ≡ some x₁ → get_elem? es₂ i ≡ some x₂ → x₁.tag ≡ x₂.tag
  tags = same-tags j₁.definitions j₂.definitions alike.same_definitions

  -- a literal is equal to the one at a place in both jobs or in neither: place 0 is the attribute's name
  same_test :
      (i k : ℕ) (x₁ x₂ : Entry (List ℕ) Reference) (b₁ b₂ : Literal) →
      get_elem? es₁ i ≡ some x₁ →
      get_elem? es₂ i ≡ some x₂ →
      get_elem? (literals j₁) k ≡ some b₁ →
      get_elem? (literals j₂) k ≡ some b₂ →
      same_literal (lit_of x₁) b₁ ≡ same_literal (lit_of x₂) b₂
  unfolding literals
  same_test i zero x₁ x₂ b₁ b₂ p₁ p₂ q₁ q₂ =
      let s₁ : (1, attribute_name) ≡ b₁ = cc in
      let s₂ : (1, attribute_name) ≡ b₂ = cc in
      let text : Bare (1, attribute_name) = λ h. cc in
      rw (← s₁, ← s₂)
      (carry_both (lit_of x₁) (1, attribute_name) (lit_of x₂) (1, attribute_name) (tags i x₁ x₂ p₁ p₂) refl
      (entries-bare bytes₁ j₁ formed₁ i x₁ p₁) text (entries-bare bytes₂ j₂ formed₂ i x₂ p₂) text
      (λ s h.
      alike.same_equalities (suc i) 0 (lit_of x₁) (1, attribute_name) (lit_of x₂) (1, attribute_name) (map_at lit_of es₁ i x₁ p₁) refl (map_at lit_of es₂ i x₂ p₂) refl s
      (stands_among x₁.tag (1 ∷ 3 ∷ 4 ∷ 5 ∷ 6 ∷ []) h)))
  same_test i (suc k) x₁ x₂ b₁ b₂ p₁ p₂ q₁ q₂ =
      let h₁ = map-some lit_of es₁ k b₁ q₁ in
      let h₂ = map-some lit_of es₂ k b₂ q₂ in
      let y₁ = h₁.0 in
      let y₂ = h₂.0 in
      rw (← h₁.2, ← h₂.2)
      (carry_both (lit_of x₁) (lit_of y₁) (lit_of x₂) (lit_of y₂) (tags i x₁ x₂ p₁ p₂) (tags k y₁ y₂ h₁.1 h₂.1)
      (entries-bare bytes₁ j₁ formed₁ i x₁ p₁) (entries-bare bytes₁ j₁ formed₁ k y₁ h₁.1)
      (entries-bare bytes₂ j₂ formed₂ i x₂ p₂) (entries-bare bytes₂ j₂ formed₂ k y₂ h₂.1)
      (λ s h.
      alike.same_equalities (suc i) (suc k) (lit_of x₁) (lit_of y₁) (lit_of x₂) (lit_of y₂) (map_at lit_of es₁ i x₁ p₁) (map_at lit_of es₁ k y₁ h₁.1) (map_at lit_of es₂ i x₂ p₂) (map_at lit_of es₂ k y₂ h₂.1) s
      (stands_among x₁.tag (1 ∷ 3 ∷ 4 ∷ 5 ∷ 6 ∷ []) h)))

  -- so a literal has one number in both
  same_number :
      (i : ℕ) (x₁ x₂ : Entry (List ℕ) Reference) →
      get_elem? es₁ i ≡ some x₁ →
      get_elem? es₂ i ≡ some x₂ →
      number_of (literals j₁) (lit_of x₁) ≡ number_of (literals j₂) (lit_of x₂)
  unfolding number_of literals
  same_number i x₁ x₂ p₁ p₂ =
      let n : length es₁ ≡ length es₂ = as_many j₁.definitions j₂.definitions alike.same_definitions in
      position-agree (same_literal (lit_of x₁)) (same_literal (lit_of x₂)) (literals j₁) (literals j₂)
      (rw (length-map es₁ lit_of, length-map es₂ lit_of) (ap suc n))
      (λ k b₁ b₂ q₁ q₂. same_test i k x₁ x₂ b₁ b₂ p₁ p₂ q₁ q₂)

  -- and with numbers for literals the two are one job
  pub same-numbered : numbered j₁ ≡ numbered j₂
  unfolding numbered
  same-numbered =
      let p = numbered-alike (literals j₁) (literals j₂) j₁.definitions j₂.definitions alike.same_definitions same_number in
      λ i. record { definitions = p i; requests = alike.same_requests i; build = alike.same_build i }
