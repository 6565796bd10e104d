-- What slots hold is laid as a pool is: an entry each, and behind a wide one a slot that shows none. Assumes nothing.
use mathlib.Core.Bool.{Bool, true, false}
use mathlib.Core.List.{List, [], ◌∷◌, map}
use mathlib.Core.Option.{Option, none, some}
use mathlib.Core.Path.{◌≡◌, refl}
use Prim.Native.Nat.{ℕ, zero, suc, ◌+◌}
use native.Mathlib.Nat.{add-suc, suc-add, add-zero}
use lib.Dec.{lit<}
use Rattle.definition.specs.Basics.{lookup, from}
use Rattle.definition.specs.Shapes.{is_wide, Entry, with_literal}
use Rattle.definition.specs.Building.{holds, behind, content_of}
use Rattle.definition.specs.Numbering.{Literal, literal_of}
use Rattle.definition.specs.Run.{shown}
use Rattle.laws.proofs.Reading.PoolReadBack.{Fits, LaidBehind, fits-text}

-- whether an entry, if there is one, is wide
unfoldable pub wide_there : Option (Entry ℕ ℕ) → Bool
wide_there none = false
wide_there (some e) = is_wide e.tag

-- an entry with its literal's bytes
abbrev pub spelled : List Literal → Entry ℕ ℕ → Entry (List ℕ) ℕ
spelled all e = with_literal (literal_of all e.literal) e

-- a slot with an entry of its own holds it, and one without goes by the slot before it
pub content_holds : (owned : List (ℕ × Entry ℕ ℕ)) (s : ℕ) (e : Entry ℕ ℕ) → lookup (suc s) owned ≡ some e → content_of owned (suc s) ≡ holds e
unfolding content_of
content_holds owned s e h = rw (h, content_of)

pub content_behind :
    (owned : List (ℕ × Entry ℕ ℕ)) (s : ℕ) → lookup (suc s) owned ≡ none → content_of owned (suc s) ≡ behind (lookup s owned)
unfolding content_of
content_behind owned s h = rw (h, content_of)

module _ (owned : List (ℕ × Entry ℕ ℕ)) (all : List Literal)
    (fits : (s : ℕ) (e : Entry ℕ ℕ) → lookup s owned ≡ some e → Fits (spelled all e))
    (apart : (s : ℕ) (e e' : Entry ℕ ℕ) → lookup s owned ≡ some e → lookup (suc s) owned ≡ some e' → is_wide e.tag ≡ false) where
  -- a slot with no entry of its own, behind what stands before it
  laid_behind :
      (rest : List (Option (Entry (List ℕ) ℕ))) (before : Option (Entry ℕ ℕ)) →
      LaidBehind rest false →
      LaidBehind (shown all (behind before) ∷ rest) (wide_there before)
  unfolding shown behind wide_there is_wide
  laid_behind rest none l = (fits-text [] (lit< tt) tt, l)
  laid_behind rest (some p) l = ways (is_wide p.tag) refl
    where
      ways : (w : Bool) → is_wide p.tag ≡ w → LaidBehind (shown all (behind (some p)) ∷ rest) (is_wide p.tag)
      ways true e = rw (e, behind) l
      ways false e = rw (e, behind) (fits-text [] (lit< tt) tt, l)

  -- one slot, with what stands before it and what follows
  laid_one :
      (s : ℕ) (rest : List (Option (Entry (List ℕ) ℕ))) (before here : Option (Entry ℕ ℕ)) →
      lookup s owned ≡ before →
      lookup (suc s) owned ≡ here →
      LaidBehind rest (wide_there here) →
      LaidBehind (shown all (content_of owned (suc s)) ∷ rest) (wide_there before)
  unfolding shown wide_there with_literal
  laid_one s rest before none b h l = rw (content_behind owned s h, b) (laid_behind rest before l)
  laid_one s rest none (some e) b h l = rw (content_holds owned s e h) (fits (suc s) e h, l)
  laid_one s rest (some p) (some e) b h l = rw (content_holds owned s e h, apart s p e b h) (fits (suc s) e h, l)

  -- n slots behind slot s, of which the last isn't wide
  pub laid_from :
      (n s : ℕ) →
      wide_there (lookup (s + n) owned) ≡ false →
      LaidBehind (map (shown all) (from (content_of owned) (suc s) n)) (wide_there (lookup s owned))
  unfolding from
  laid_from zero s last = rw (← add-zero s, last) tt
  laid_from (suc n) s last =
      laid_one
      s
      (map (shown all) (from (content_of owned) (suc (suc s)) n))
      (lookup s owned)
      (lookup (suc s) owned)
      refl
      refl
      (laid_from n (suc s) (rw (suc-add, ← add-suc) last))
