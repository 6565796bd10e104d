-- What a first byte opens, by the definition's table. Assumes nothing.
use Rattle.std.specs.Prelude as std
use Rattle.std.specs.Prelude.{Some, None}
use mathlib.Core.Bool.{Bool, true, false}
use mathlib.Core.List.{List, [], ◌∷◌, ◌++◌, map}
use mathlib.Core.Path.{◌≡◌, refl, sym, ap, ◌∙◌}
use Prim.Native.Nat.{ℕ}
use lib.Dec.{eqb}
use borrow.Author.Tests.{ne_eqb}
use Rattle.definition.specs.Basics.{lookup}
use Rattle.definition.specs.Shapes.{Field, shapes}
use Rattle.definition.specs.Job.{Body, of_entry, bodies}
use Rattle.definition.specs.Form.{kind_of}
use Rattle.raw_const.specs.Entries.{fields_of}
use Rattle.raw_const.specs.declared.Shape.{Shape}
use Rattle.job.specs.declared.Opening.{Opening}
use Rattle.job.specs.declared.Opening.TheVariants.{Constant}
use Rattle.job.specs.Forms.{entry_body, body_of, table_of}
use Rattle.facts.proofs.Tables.{NoKey, lookup-none}

-- a first byte opens this
abbrev pub Right : ℕ → Opening → Type 0
Right x opening = (body_of opening ≡ lookup x bodies) × (table_of opening ≡ kind_of x)

-- what is no key of the kinds behind the tags is found among the tags, or not at all
tags_first :
    (x : ℕ) (t : List (ℕ × List Field)) (kinds : List (ℕ × Body)) →
    NoKey x kinds →
    entry_body (lookup x t) ≡ lookup x (map (λ s. (s.0, of_entry s.1)) t ++ kinds)
unfolding lookup entry_body
tags_first x [] kinds h = sym (lookup-none x kinds h)
tags_first x (r ∷ t) kinds h = ways (eqb x r.0) refl (tags_first x t kinds h)
  where
    ways :
        (b : Bool) → eqb x r.0 ≡ b → entry_body (lookup x t) ≡ lookup x (map (λ s. (s.0, of_entry s.1)) t ++ kinds) →
        entry_body (lookup x (r ∷ t)) ≡ lookup x (map (λ s. (s.0, of_entry s.1)) (r ∷ t) ++ kinds)
    ways true e later = rw (e, lookup)
    ways false e later = rw (e, lookup) later

pub tag-right :
    (x : ℕ) (shape : std.Option Shape) → fields_of shape ≡ lookup x shapes → (x ≡ 0x40 → ⊥) → (x ≡ 0x41 → ⊥) → (x ≡ 0x42 → ⊥) → (x ≡ 0x43 → ⊥) → (x ≡ 0x44 → ⊥) →
    (x ≡ 0x47 → ⊥) → (x ≡ 0x48 → ⊥) → (x ≡ 0x49 → ⊥) → (x ≡ 0x46 → ⊥) →
    Right x (Constant shape)
unfolding body_of table_of kind_of bodies
tag-right x shape told h₀ h₁ h₂ h₃ h₄ h₇ h₈ h₉ h₆ = (
  ap entry_body told ∙ tags_first x shapes _ (h₀, (h₁, (h₂, (h₃, (h₄, (h₆, (h₇, (h₈, (h₉, tt))))))))),
  sym (rw (ne_eqb x 0x40 h₀, kind_of)),
)
