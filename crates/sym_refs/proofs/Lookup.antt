-- Looking names up: a name that is there stands for its target, one that isn't for nothing, and a walk along a chain tells which. Assumes nothing.
use mathlib.Core.Bool.{Bool, true, false}
use mathlib.Core.List.{List, [], ◌∷◌}
use mathlib.Core.Option.{none, some}
use mathlib.Core.Path.{◌≡◌, refl, sym, ap, subst, ◌∙◌}
use Prim.Native.Nat.{ℕ, zero, suc, ◌-◌, ◌<◌}
use native.Mathlib.Omega.{arith}
use lib.ListN.{length, get_or, get_elem?, take}
use Rattle.definition.specs.Shapes.{Kind}
use Rattle.definition.specs.Definitions.{Naming, name_target}
use Rattle.facts.proofs.Lists.{none≢some, some_inj, inside_found}
use Rattle.store.specs.Chains.{head_of}
use Rattle.store.specs.JobIn.{namings_in}
use Rattle.store.proofs.Hashing.{head_lt}
use Rattle.store.proofs.Walking.{both, Down, walk_start, walk_on}
use Rattle.interner.specs.Nodes.{hash_bytes}
use Rattle.sym_refs.specs.Names.{kind_byte, NamingAt, is_name_lem, hash_name, Names}
use Rattle.sym_refs.specs.Leading.{Named, Decides}
use Rattle.sym_refs.proofs.Namings.{name_is, is_name}

-- THE LIST OF NAMES

module _ (kind : Kind) (l : List ℕ) where
  target_here : (x : Naming) (names : List Naming) → is_name_lem kind l x ≡ true → name_target kind l (x ∷ names) ≡ some x.target
  unfolding name_target
  target_here x names e = rw (e, name_target)

  target_later : (x : Naming) (names : List Naming) → is_name_lem kind l x ≡ false → name_target kind l (x ∷ names) ≡ name_target kind l names
  unfolding name_target
  target_later x names e = rw (e, name_target)

  target_out :
      (n : ℕ) (names : List Naming) → ((i : ℕ) (x : Naming) → i < n → get_elem? names i ≡ some x → is_name_lem kind l x ≡ false) →
      name_target kind l (take n names) ≡ none
  unfolding name_target
  target_out zero names f = refl
  target_out (suc n) [] f = refl
  target_out (suc n) (x ∷ names) f =
      target_later x (take n names) (f 0 x (omega arith) refl) ∙ target_out n names (λ i y h e. f (suc i) y (omega arith) e)

  target_in_lem :
      (n : ℕ) (names : List Naming) (i : ℕ) (x : Naming) → i < n → get_elem? names i ≡ some x → is_name_lem kind l x ≡ true →
      ((j : ℕ) (y : Naming) → j < i → get_elem? names j ≡ some y → is_name_lem kind l y ≡ false) →
      name_target kind l (take n names) ≡ some x.target
  target_in_lem zero names i x h e t f = absurd (omega arith)
  target_in_lem (suc n) [] i x h e t f = none≢some e
  target_in_lem (suc n) (z ∷ names) zero x h e t f =
      let q : z ≡ x = some_inj e in
      rw q (target_here x (take n names) t)
  target_in_lem (suc n) (z ∷ names) (suc i) x h e t f =
      target_later z (take n names) (f 0 z (omega arith) refl) ∙ target_in_lem n names i x (omega arith) e t (λ j y k d. f (suc j) y (omega arith) d)

-- THE TABLE OF NAMES

module _ (s : List ℕ) (kind : Kind) (l : List ℕ) where
  -- a name that isn't there fails the test
  pub not_named : (i : ℕ) (x : Naming) → get_elem? (namings_in s) i ≡ some x → (Named s (kind_byte kind) l i → ⊥) → is_name_lem kind l x ≡ false
  not_named i x e f = ways (is_name_lem kind l x) refl
    where
      ways : (b : Bool) → is_name_lem kind l x ≡ b → is_name_lem kind l x ≡ false
      ways true t = let q = is_name kind l x t in absurd (f (x, e, q.0, q.1))
      ways false t = t

  module _ (h : ℕ) (places heads links : List ℕ) (n : ℕ) (g : Names h s places heads links n) where
    -- no earlier one is the same
    first_named : (i : ℕ) → i < n → Named s (kind_byte kind) l i → (j : ℕ) (y : Naming) → j < i → get_elem? (namings_in s) j ≡ some y → is_name_lem kind l y ≡ false
    first_named i low (x, e, k, m) j y less d = ways (is_name_lem kind l y) refl
      where
        ways : (b : Bool) → is_name_lem kind l y ≡ b → is_name_lem kind l y ≡ false
        ways true t =
            let q = is_name kind l y t in
            absurd (both (name_is y.kind y.label x (k ∙ sym q.0) (m ∙ sym q.1)) (g.unlike j i y x less low d e))
        ways false t = t

    pub found_target : (i : ℕ) → i < n → (f : Named s (kind_byte kind) l i) → name_target kind l (take n (namings_in s)) ≡ some f.0.target
    found_target i low (x, e, k, m) =
        target_in_lem kind l n (namings_in s) i x low e (name_is kind l x k m) (first_named i low (x, e, k, m))

    pub missing_target : ((i : ℕ) → i < n → Named s (kind_byte kind) l i → ⊥) → name_target kind l (take n (namings_in s)) ≡ none
    missing_target f = target_out kind l n (namings_in s) (λ i x low e. not_named i x e (f i low))

-- a naming stands at each name's place
pub item_there :
    (h : ℕ) (s places heads links : List ℕ) (n : ℕ) → Names h s places heads links n → (i at : ℕ) → i < n → at ≡ get_or places i 0 →
    (x : Naming) × (get_elem? (namings_in s) i ≡ some x) × NamingAt s at x
item_there h s places heads links n g i at l e =
    let there = inside_found (namings_in s) i (omega (arith, g.few)) in
    (there.0, there.1, rw e (g.at i there.0 l there.1))

-- what an answer to whether the naming at a place is the one tells of its name
module _ (h : ℕ) (s places heads links : List ℕ) (n : ℕ) (g : Names h s places heads links n) (i at : ℕ) (low : i < n) (place : at ≡ get_or places i 0) (first : ℕ) (l : List ℕ) (r : Bool) (told : (x : Naming) → NamingAt s at x → Decides r ((kind_byte x.kind ≡ first) × (x.label ≡ l))) where
  pub told-yes : r ≡ true → Named s first l i
  told-yes t = let j = item_there h s places heads links n g i at low place in let q = (told j.0 j.2).yes t in (j.0, j.1, q.0, q.1)

  pub told-no : r ≡ false → Named s first l i → ⊥
  told-no t (x, e, k, m) =
      let j = item_there h s places heads links n g i at low place in
      let same : x ≡ j.0 = some_inj (sym e ∙ j.1) in
      (told j.0 j.2).no t (subst (λ (y : Naming). (kind_byte y.kind ≡ first) × (y.label ≡ l)) same (k, m))

-- THE WALK for the name of a first byte and a label

pub hash_named : (s : List ℕ) (first : ℕ) (l : List ℕ) (i : ℕ) → Named s first l i → hash_name s i ≡ hash_bytes first l
unfolding hash_name
hash_named s first l i (x, e, k, m) = rw (e, hash_name) (rw (k, m))

module _ (h : ℕ) (s : List ℕ) (first : ℕ) (l : List ℕ) (hash : ℕ) (places heads links : List ℕ) (n : ℕ) (two : 1 < h) (long : length heads ≡ h) (g : Names h s places heads links n) (is : hash ≡ hash_bytes first l) where
  abbrev pub Walking : ℕ → Type 0
  Walking e = Down (λ i. head_of h (hash_name s i)) (Named s first l) (head_of h hash) n e

  keyed : (i : ℕ) → Named s first l i → head_of h (hash_name s i) ≡ head_of h hash
  keyed i f = ap (head_of h) (hash_named s first l i f ∙ sym is)

  pub name_start : Walking (get_or heads (head_of h hash) 0)
  name_start =
      walk_start (λ i. head_of h (hash_name s i)) heads links n (head_of h hash) (Named s first l) g.chains keyed (omega (arith, long, head_lt h hash two))

  pub name_on : (e : ℕ) → 0 < e → Walking e → (Named s first l (e - 1) → ⊥) → Walking (get_or links (e - 1) 0) × (get_or links (e - 1) 0 < e)
  name_on e low d t = walk_on (λ i. head_of h (hash_name s i)) heads links n (head_of h hash) (Named s first l) g.chains keyed e low d t
