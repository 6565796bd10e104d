-- What the definitions in turn refuse has a number up to 13; and how many raw slots and indexes they leave. Assumes nothing.
use mathlib.Core.Bool.{Bool, true, false}
use mathlib.Core.List.{List, [], ◌∷◌, ◌++◌}
use mathlib.Core.Option.{Option, none, some}
use mathlib.Core.Path.{◌≡◌, refl}
use Prim.Native.Nat.{ℕ, suc, ◌+◌, ◌≤◌}
use native.Mathlib.Omega.{arith}
use lib.Dec.{ltb}
use lib.ListN.{length}
use Rattle.definition.specs.Basics.{same, lookup, insert}
use Rattle.definition.specs.Settings.{version, texts, highest}
use Rattle.definition.specs.Shapes.{Entry, constant, bootstrap}
use Rattle.definition.specs.Job.{Definition, define, named, placed, setting}
use Rattle.definition.specs.Definitions.{with_setting, Held, starts, half, Defined, start_free, hold, place_constant, place_bootstrap, define_one, define_all}
use Rattle.definition.specs.Layout.{starters}
use Rattle.facts.proofs.Tables.{insert-length}
use Rattle.facts.proofs.Each.{Each, each_append}
use Rattle.facts.proofs.Outcomes.{Ends, well, refused, next, weaker, Anything, at_record-ends, unless-ends}
use Rattle.laws.proofs.Form.RefusalNumbers.{Early}
use Rattle.laws.proofs.Form.RawNumbersLow.{DefLow, NameLow}

-- how many raw constants a held slot is
starter : Held → ℕ
starter (starts e) = 1
starter half = 0

starters-cons : (n : ℕ) (h : Held) (held : List (ℕ × Held)) → length (starters ((n, h) ∷ held)) ≡ starter h + length (starters held)
unfolding starters starter
starters-cons n (starts e) held = omega arith
starters-cons n half held = omega arith

-- a new key adds a raw constant if one starts there
starters-insert :
    (n : ℕ) (h : Held) (held : List (ℕ × Held)) → length (starters (insert n h held)) ≡ starter h + length (starters held)
unfolding insert
starters-insert n h [] = starters-cons n h []
starters-insert n h (r ∷ held) = go (ltb n r.0) refl (starters-insert n h held)
  where
    go :
        (b : Bool) →
        ltb n r.0 ≡ b →
        length (starters (insert n h held)) ≡ starter h + length (starters held) →
        length (starters (insert n h (r ∷ held))) ≡ starter h + length (starters (r ∷ held))
    go true e ih = rw (e, insert) (starters-cons n h (r ∷ held))
    go false e ih =
        rw
        (e, insert)
        (omega (arith, starters-cons r.0 r.1 (insert n h held), starters-cons r.0 r.1 held))

hold-starters : (wide : Bool) (n e : ℕ) (held : List (ℕ × Held)) → length (starters (hold wide n e held)) ≡ suc (length (starters held))
unfolding hold starter
hold-starters true n e held = omega (arith, starters-insert n (starts e) (insert (suc n) half held), starters-insert (suc n) half held)
hold-starters false n e held = omega (arith, starters-insert n (starts e) held)

start_free-ends : {Z : ℕ → Type 0} → Early Z → (o : Option Held) → Ends Z Anything (start_free o)
unfolding start_free
start_free-ends z none = well tt
start_free-ends z (some (starts e)) = refused (z 8 tt tt)
start_free-ends z (some half) = refused (z 7 tt tt)

place_constant-ends :
    {Z : ℕ → Type 0} → Early Z → (top : ℕ) (wide : Bool) (n e : ℕ) (held : List (ℕ × Held)) →
    Ends Z (λ after. length (starters after) ≡ suc (length (starters held))) (place_constant top wide n e held)
unfolding place_constant
place_constant-ends z top wide n e held =
    next _ (unless-ends _ 6 (z 6 tt tt)) λ _ _.
    next _ (unless-ends _ 7 (z 7 tt tt)) λ _ _.
    next _ (start_free-ends z (lookup n held)) λ _ _.
    well (hold-starters wide n e held)

place_bootstrap-ends :
    {Z : ℕ → Type 0} → Early Z → (index e : ℕ) (indexes : List (ℕ × ℕ)) → Ends Z (λ after. length after ≡ suc (length indexes)) (place_bootstrap index e indexes)
unfolding place_bootstrap
place_bootstrap-ends z index e indexes =
    next _ (unless-ends _ 9 (z 9 tt tt)) λ _ _.
    next _ (unless-ends _ 10 (z 10 tt tt)) λ _ _.
    well (insert-length index e indexes)

-- what a definition in turn comes to: at most n raw ones more, and names that are low
pub record Defines (H : Type 0) (n : ℕ) (d d' : Defined) : Type 0 where
  pub more : length (starters d'.held) + length d'.indexes ≤ length (starters d.held) + length d.indexes + n
  pub names : H → Each NameLow d'.names

-- how many raw definitions one is, and a list has
unfoldable pub raw_one : {L : Type 0} → Definition L → ℕ
raw_one (define e) = 0
raw_one (named kind s r) = 0
raw_one (placed kind at number) = 1
raw_one (setting rule) = 0

unfoldable pub raws : {L : Type 0} → List (Definition L) → ℕ
raws [] = 0
raws (x ∷ rest) = raw_one x + raws rest

define_one-ends :
    {Z : ℕ → Type 0} → Early Z → (H : Type 0) {R : Type 0} (top : ℕ) (constants : List (Entry ℕ R)) (x : Definition ℕ) (d : Defined) →
    (H → DefLow x) →
    (H → Each NameLow d.names) →
    Ends Z (Defines H (raw_one x) d) (define_one top constants x d)
unfolding define_one raw_one with_setting
define_one-ends z H top constants (define e) d low names = well {a = d} (record { more = omega arith; names = names })
define_one-ends z H top constants (named kind s r) d low names =
    next _ (unless-ends _ 11 (z 11 tt tt)) λ _ _.
    let more = record { kind = kind; label = s; target = r } ∷ [] in
    well {a = record { held = d.held; indexes = d.indexes; names = d.names ++ more; version = d.version }}
    (record { more = omega arith; names = λ h. each_append NameLow d.names more (names h) (low h, tt) })
define_one-ends z H top constants (placed constant n e) d low names =
    next _ (place_constant-ends z top _ n e d.held) λ held same.
    well {a = record { held = held; indexes = d.indexes; names = d.names; version = d.version }} (record { more = omega arith; names = names })
define_one-ends z H top constants (placed bootstrap index e) d low names =
    next _ (place_bootstrap-ends z index e d.indexes) λ indexes same.
    well {a = record { held = d.held; indexes = indexes; names = d.names; version = d.version }} (record { more = omega arith; names = names })
define_one-ends z H top constants (setting (version v)) d low names =
    well {a = record { held = d.held; indexes = d.indexes; names = d.names; version = v }} (record { more = omega arith; names = names })
define_one-ends z H top constants (setting (highest n)) d low names = well {a = d} (record { more = omega arith; names = names })
define_one-ends z H top constants (setting texts) d low names = well {a = d} (record { more = omega arith; names = names })

pub define_all-ends :
    {Z : ℕ → Type 0} → Early Z → (H : Type 0) {R : Type 0} (top : ℕ) (constants : List (Entry ℕ R)) (place : ℕ) (l : List (Definition ℕ)) (d : Defined) →
    (H → Each DefLow l) →
    (H → Each NameLow d.names) →
    Ends (λ e. Z e.code) (Defines H (raws l) d) (define_all top constants place l d)
unfolding define_all raws
define_all-ends z H top constants place [] d low names = well {a = d} (record { more = omega arith; names = names })
define_all-ends z H top constants place (x ∷ rest) d low names =
    next _ (at_record-ends place (define_one-ends z H top constants x d (λ h. (low h).0) names)) λ d₁ one.
    let m₁ = one.more in
    weaker
    (λ e k. k)
    (λ d₂ two.
    let m₂ = two.more in
    record { more = omega arith; names = two.names })
    (define_all-ends z H top constants (suc place) rest d₁ (λ h. (low h).1) one.names)
