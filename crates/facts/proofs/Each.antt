-- Facts of every one in a list, at a place, at a key, behind one another, of images; and of two lists place by place. Assumes nothing.
use mathlib.Core.Bool.{Bool, true, false}
use mathlib.Core.List.{List, [], ◌∷◌, ◌++◌, map, reverse_aux}
use mathlib.Core.Option.{some}
use mathlib.Core.Path.{◌≡◌, refl, sym, ap, subst, ◌∙◌}
use Prim.Native.Nat.{ℕ, zero, suc}
use lib.ListN.{length, get_elem?}
use Rattle.definition.specs.Basics.{only, lookup}
use Rattle.facts.specs.Lists.{Among}
use Rattle.facts.proofs.Lists.{clash, none≢some, some_inj, among_later, map-some, only_here, only-later}
use Rattle.facts.proofs.Tables.{lookup-at}

-- every one of a list is so
abbrev pub Each : {A : Type 0} → (A → Type 0) → List A → Type 0
Each P [] = Unit {0}
Each P (x ∷ xs) = P x × Each P xs

module _ {A : Type 0} (P : A → Type 0) where
  -- the one at a place
  pub each_at : (l : List A) (i : ℕ) (a : A) → Each P l → get_elem? l i ≡ some a → P a
  each_at [] i a h e = none≢some e
  each_at (x ∷ l) zero a h e = subst P (some_inj e) h.0
  each_at (x ∷ l) (suc i) a h e = each_at l i a h.1 e

  -- what is so at every place is so of every one
  pub each_from : (l : List A) → ((i : ℕ) (a : A) → get_elem? l i ≡ some a → P a) → Each P l
  each_from [] h = tt
  each_from (x ∷ l) h = (h 0 x refl, each_from l (λ i a e. h (suc i) a e))

  pub each_append : (l m : List A) → Each P l → Each P m → Each P (l ++ m)
  each_append [] m h k = k
  each_append (x ∷ l) m h k = (h.0, each_append l m h.1 k)

  pub each_reverse : (l acc : List A) → Each P l → Each P acc → Each P (reverse_aux l acc)
  each_reverse [] acc h k = k
  each_reverse (x ∷ l) acc h k = each_reverse l (x ∷ acc) h.1 (h.0, k)

  pub each_only : (p : A → Bool) (l : List A) → Each P l → Each P (only p l)
  unfolding only
  each_only p [] h = tt
  each_only p (x ∷ l) h = go (p x) refl (each_only p l h.1)
    where
      go : (b : Bool) → p x ≡ b → Each P (only p l) → Each P (only p (x ∷ l))
      go true e ih = rw (only_here p x l e) (h.0, ih)
      go false e ih = rw (only-later p x l e) ih

-- what follows from what
pub each_weaker : {A : Type 0} (P Q : A → Type 0) → ((a : A) → P a → Q a) → (l : List A) → Each P l → Each Q l
each_weaker P Q f [] h = tt
each_weaker P Q f (x ∷ l) h = (f x h.0, each_weaker P Q f l h.1)

-- images
pub each_map : {A B : Type 0} (P : A → Type 0) (Q : B → Type 0) (f : A → B) → ((a : A) → P a → Q (f a)) → (l : List A) → Each P l → Each Q (map f l)
each_map P Q f g [] h = tt
each_map P Q f g (x ∷ l) h = (g x h.0, each_map P Q f g l h.1)

pub each_image : {A B : Type 0} (Q : B → Type 0) (f : A → B) → ((a : A) → Q (f a)) → (l : List A) → Each Q (map f l)
each_image Q f g l = each_from Q (map f l) (λ i b e. let r = map-some f l i b e in subst Q r.2 (g r.0))

-- a premise for all is one for each
pub each_under : {A : Type 0} (H : Type 0) (P : A → Type 0) (l : List A) → (H → Each P l) → Each (λ x. H → P x) l
each_under H P l h = each_from (λ x. H → P x) l (λ i a e p. each_at P l i a (h p) e)

-- the one at a key
pub lookup-each : {A : Type 0} (P : ℕ → A → Type 0) (k : ℕ) (l : List (ℕ × A)) (a : A) → Each (λ r. P r.0 r.1) l → lookup k l ≡ some a → P k a
lookup-each P k l a h e = let m = lookup-at k a l e in each_at (λ r. P r.0 r.1) l m.0 (k, a) h m.1

-- two lists of one length, related place by place
abbrev pub Both : {A B : Type 0} → (A → B → Type 0) → List A → List B → Type 0
Both R [] [] = Unit {0}
Both R [] (n ∷ ns) = ⊥
Both R (c ∷ cs) [] = ⊥
Both R (c ∷ cs) (n ∷ ns) = R c n × Both R cs ns

module _ {A B : Type 0} where
  -- what follows for those of the first list
  pub both-among : {R S : A → B → Type 0} (cs : List A) (ns : List B) → ((c : A) (n : B) → Among c cs → R c n → S c n) → Both R cs ns → Both S cs ns
  both-among [] [] f h = tt
  both-among [] (n ∷ ns) f h = h
  both-among (c ∷ cs) [] f h = h
  both-among {R} {S} (c ∷ cs) (n ∷ ns) f h = (f c n (0, refl) h.0, both-among {R = R} {S = S} cs ns (λ c' n' a. f c' n' (among_later c' c cs a)) h.1)

  pub both-map : {R S : A → B → Type 0} (cs : List A) (ns : List B) → ((c : A) (n : B) → R c n → S c n) → Both R cs ns → Both S cs ns
  both-map {R} {S} cs ns f = both-among {R = R} {S = S} cs ns (λ c n a. f c n)

module _ {A B : Type 0} (R : A → B → Type 0) where
  -- they have one length
  pub both-length : (cs : List A) (ns : List B) → Both R cs ns → length ns ≡ length cs
  both-length [] [] h = refl
  both-length [] (n ∷ ns) h = absurd h
  both-length (c ∷ cs) [] h = absurd h
  both-length (c ∷ cs) (n ∷ ns) h = ap suc (both-length cs ns h.1)

  -- what stands at a place of the one has what stands there in the other
  pub both_first : (cs : List A) (ns : List B) → Both R cs ns → (i : ℕ) (c : A) → get_elem? cs i ≡ some c → (n : B) × (get_elem? ns i ≡ some n) × R c n
  both_first [] ns h i c e = none≢some e
  both_first (x ∷ cs) [] h i c e = absurd h
  both_first (x ∷ cs) (y ∷ ns) h zero c e = (y, refl, subst (λ a. R a y) (some_inj e) h.0)
  both_first (x ∷ cs) (y ∷ ns) h (suc i) c e = both_first cs ns h.1 i c e

  pub both_at : (cs : List A) (ns : List B) → Both R cs ns → (i : ℕ) (c : A) (n : B) → get_elem? cs i ≡ some c → get_elem? ns i ≡ some n → R c n
  both_at cs ns h i c n e q = let t = both_first cs ns h i c e in subst (R c) (some_inj (sym t.1 ∙ q)) t.2

  pub both-second : (cs : List A) (ns : List B) → Both R cs ns → (i : ℕ) (n : B) → get_elem? ns i ≡ some n → (c : A) × (get_elem? cs i ≡ some c) × R c n
  both-second cs [] h i n e = none≢some e
  both-second [] (y ∷ ns) h i n e = absurd h
  both-second (x ∷ cs) (y ∷ ns) h zero n e = (x, refl, subst (R x) (some_inj e) h.0)
  both-second (x ∷ cs) (y ∷ ns) h (suc i) n e = both-second cs ns h.1 i n e

  -- what follows of each of the second list from its relation follows of all
  pub both-each : (P : B → Type 0) (cs : List A) (ns : List B) → ((c : A) (n : B) → R c n → P n) → Both R cs ns → Each P ns
  both-each P cs ns f h = each_from P ns (λ i n e. let t = both-second cs ns h i n e in f t.0 n t.2)

  -- nothing goes with nothing
  pub both-nil : (cs : List A) (ns : List B) → cs ≡ [] → Both R cs ns → ns ≡ []
  both-nil [] [] e h = refl
  both-nil [] (n ∷ ns) e h = absurd h
  both-nil (c ∷ cs) ns e h = clash (cc)
