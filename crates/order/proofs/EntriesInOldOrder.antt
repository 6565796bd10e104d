-- A name or a raw definition that changes places with its neighbour leaves the entries and the settings in their order. Assumes nothing.
use mathlib.Core.Bool.{Bool, true, false, ◌||◌}
use mathlib.Core.List.{List, [], ◌∷◌, ◌++◌, map}
use mathlib.Core.Path.{◌≡◌, refl, ap, sym, ◌∙◌}
use Prim.Native.Nat.{ℕ}
use Rattle.definition.specs.Job.{Definition, define, named, placed, setting}
use Rattle.definition.specs.Numbering.{Literal, entries, settings, numbered_definition}
use Rattle.facts.proofs.Lists.{true≢false}
use Rattle.facts.proofs.Each.{Each}
use Rattle.order.proofs.MovedByExchanges.{may_move, Exchanged, unmoved, exchanged, map-exchanged}

-- what goes by the others alone, record by record, stays as it is
module _
    {L A : Type 0}
    (f : List (Definition L) → A)
    (without : (x : Definition L) (ds : List (Definition L)) → may_move x ≡ true → f (x ∷ ds) ≡ f ds)
    (behind : (x : Definition L) (ds ds' : List (Definition L)) → f ds ≡ f ds' → f (x ∷ ds) ≡ f (x ∷ ds')) where
  turned :
      (before after : List (Definition L)) (x y : Definition L) → (may_move x || may_move y) ≡ true → f (before ++ x ∷ y ∷ after) ≡ f (before ++ y ∷ x ∷ after)
  turned [] after x y h = go (may_move x) refl h
    where
      go : (b : Bool) → may_move x ≡ b → (b || may_move y) ≡ true → f (x ∷ y ∷ after) ≡ f (y ∷ x ∷ after)
      go true e h = without x (y ∷ after) e ∙ sym (behind y (x ∷ after) after (without x after e))
      go false e h = behind x (y ∷ after) after (without y after h) ∙ sym (without y (x ∷ after) h)
  turned (z ∷ before) after x y h = behind z (before ++ x ∷ y ∷ after) (before ++ y ∷ x ∷ after) (turned before after x y h)

  kept : (ds ds' : List (Definition L)) → Exchanged may_move ds ds' → f ds ≡ f ds'
  kept ds ds' (unmoved l) = refl
  kept ds ds' (exchanged before after x y l h rest) = turned before after x y h ∙ kept (before ++ y ∷ x ∷ after) ds' rest

-- as the entries do
entries-without : {L : Type 0} (x : Definition L) (ds : List (Definition L)) → may_move x ≡ true → entries (x ∷ ds) ≡ entries ds
unfolding entries may_move
entries-without (define e) ds h = true≢false (sym h)
entries-without (named kind s r) ds h = refl
entries-without (placed kind at number) ds h = refl
entries-without (setting rule) ds h = refl

entries-behind : {L : Type 0} (x : Definition L) (ds ds' : List (Definition L)) → entries ds ≡ entries ds' → entries (x ∷ ds) ≡ entries (x ∷ ds')
unfolding entries
entries-behind (define e) ds ds' p = ap (λ l. e ∷ l) p
entries-behind (named kind s r) ds ds' p = p
entries-behind (placed kind at number) ds ds' p = p
entries-behind (setting rule) ds ds' p = p

pub entries-kept : {L : Type 0} (ds ds' : List (Definition L)) → Exchanged may_move ds ds' → entries ds ≡ entries ds'
entries-kept = kept entries entries-without entries-behind

-- and the settings
settings-without : {L : Type 0} (x : Definition L) (ds : List (Definition L)) → may_move x ≡ true → settings (x ∷ ds) ≡ settings ds
unfolding settings may_move
settings-without (define e) ds h = refl
settings-without (named kind s r) ds h = refl
settings-without (placed kind at number) ds h = refl
settings-without (setting rule) ds h = true≢false (sym h)

settings-behind : {L : Type 0} (x : Definition L) (ds ds' : List (Definition L)) → settings ds ≡ settings ds' → settings (x ∷ ds) ≡ settings (x ∷ ds')
unfolding settings
settings-behind (define e) ds ds' p = p
settings-behind (named kind s r) ds ds' p = p
settings-behind (placed kind at number) ds ds' p = p
settings-behind (setting rule) ds ds' p = ap (λ l. rule ∷ l) p

pub settings-kept : {L : Type 0} (ds ds' : List (Definition L)) → Exchanged may_move ds ds' → settings ds ≡ settings ds'
settings-kept = kept settings settings-without settings-behind

-- numbers for literals leave what may move
numbered-moves : (all : List Literal) (x : Definition (List ℕ)) → may_move (numbered_definition all x) ≡ may_move x
unfolding may_move numbered_definition
numbered-moves all (define e) = refl
numbered-moves all (named kind s r) = refl
numbered-moves all (placed kind at number) = refl
numbered-moves all (setting rule) = refl

pub numbered-exchanged :
    (all : List Literal) (ds ds' : List (Definition (List ℕ))) →
    Exchanged may_move ds ds' →
    Exchanged may_move (map (numbered_definition all) ds) (map (numbered_definition all) ds')
numbered-exchanged all ds ds' e =
    map-exchanged may_move may_move (numbered_definition all) ds ds' (each_of (λ x. may_move (numbered_definition all x) ≡ may_move x) (numbered-moves all) ds) e
  where
    each_of : (P : Definition (List ℕ) → Type 0) → ((x : Definition (List ℕ)) → P x) → (ds : List (Definition (List ℕ))) → Each P ds
    each_of P h [] = tt
    each_of P h (x ∷ ds) = (h x, each_of P h ds)
