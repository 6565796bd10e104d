-- The tests that a definition goes through, one by one, come to what is wrong with it. Assumes nothing.
use Rattle.std.specs.Prelude as std
use Rattle.std.specs.Prelude.{Some, None}
use mathlib.Core.Bool.{Bool, true, false}
use mathlib.Core.List.{List, [], ◌∷◌}
use mathlib.Core.Path.{◌≡◌, refl, sym, ◌∙◌}
use Prim.Native.Nat.{ℕ}
use borrow.Author.Tests.{eq-eqb, ne_eqb}
use types.Run.{OneOf, miss}
use denote.Enum.Declared.{tag_of}
use Rattle.facts.proofs.Lists.{true≢false}
use Rattle.definition.specs.Settings.{is_slot}
use Rattle.job.specs.declared.JobCounts.{JobCounts}
use Rattle.job.specs.declared.Opening.{Opening}
use Rattle.job.specs.declared.Opening.TheVariants.{Constant, Bootstrap, NamedConstant, NamedBootstrap, RawConstant, RawBootstrap, Version, Texts, Highest, Expression}
use Rattle.job.specs.contracts.Opening.{the_type}
use Rattle.job.specs.Forms.{is_plain, is_setting, number_opened, broken_with, room_for, highest_fault, setting_fault, counted_as}

-- ---- a text that isn't one

module _ (place : ℕ) (broken : Bool) where
  pub broken_now : broken ≡ true → Some place ≡ broken_with place broken None
  unfolding broken_with
  broken_now h = rw h

  pub broken_before : (earlier : std.Option ℕ) → (earlier ≡ None → broken ≡ false) → earlier ≡ broken_with place broken earlier
  unfolding broken_with
  broken_before None h = rw (h refl)
  broken_before (Some earlier) h = refl

-- ---- what opens neither a table's entry, nor a number; what is plain

pub room_other : (o : Opening) (constants bootstraps : ℕ) → OneOf (2 ∷ 3 ∷ 4 ∷ 5 ∷ 6 ∷ 7 ∷ 8 ∷ []) (tag_of the_type o) → true ≡ room_for o constants bootstraps
unfolding room_for
room_other (Constant shape) constants bootstraps k = absurd (miss (2 ∷ 3 ∷ 4 ∷ 5 ∷ 6 ∷ 7 ∷ 8 ∷ []) 0 tt k)
room_other Bootstrap constants bootstraps k = absurd (miss (2 ∷ 3 ∷ 4 ∷ 5 ∷ 6 ∷ 7 ∷ 8 ∷ []) 1 tt k)
room_other NamedConstant constants bootstraps k = refl
room_other NamedBootstrap constants bootstraps k = refl
room_other RawConstant constants bootstraps k = refl
room_other RawBootstrap constants bootstraps k = refl
room_other Version constants bootstraps k = refl
room_other Texts constants bootstraps k = refl
room_other Highest constants bootstraps k = refl
room_other Expression constants bootstraps k = absurd (miss (2 ∷ 3 ∷ 4 ∷ 5 ∷ 6 ∷ 7 ∷ 8 ∷ []) 9 tt k)

pub plain_other : (o : Opening) → OneOf (0 ∷ 1 ∷ 2 ∷ 3 ∷ 4 ∷ 5 ∷ []) (tag_of the_type o) → true ≡ is_plain o
unfolding is_plain
plain_other (Constant shape) k = refl
plain_other Bootstrap k = refl
plain_other NamedConstant k = refl
plain_other NamedBootstrap k = refl
plain_other RawConstant k = refl
plain_other RawBootstrap k = refl
plain_other Version k = absurd (miss (0 ∷ 1 ∷ 2 ∷ 3 ∷ 4 ∷ 5 ∷ []) 6 tt k)
plain_other Texts k = absurd (miss (0 ∷ 1 ∷ 2 ∷ 3 ∷ 4 ∷ 5 ∷ []) 7 tt k)
plain_other Highest k = absurd (miss (0 ∷ 1 ∷ 2 ∷ 3 ∷ 4 ∷ 5 ∷ []) 8 tt k)
plain_other Expression k = absurd (miss (0 ∷ 1 ∷ 2 ∷ 3 ∷ 4 ∷ 5 ∷ []) 9 tt k)

-- what is neither plain nor an expression is a setting
pub setting_rest : (o : Opening) → is_plain o ≡ false → OneOf (0 ∷ 1 ∷ 2 ∷ 3 ∷ 4 ∷ 5 ∷ 6 ∷ 7 ∷ 8 ∷ []) (tag_of the_type o) → is_setting o ≡ true
unfolding is_plain is_setting
setting_rest (Constant shape) h k = true≢false h
setting_rest Bootstrap h k = true≢false h
setting_rest NamedConstant h k = true≢false h
setting_rest NamedBootstrap h k = true≢false h
setting_rest RawConstant h k = true≢false h
setting_rest RawBootstrap h k = true≢false h
setting_rest Version h k = refl
setting_rest Texts h k = refl
setting_rest Highest h k = refl
setting_rest Expression h k = absurd (miss (0 ∷ 1 ∷ 2 ∷ 3 ∷ 4 ∷ 5 ∷ 6 ∷ 7 ∷ 8 ∷ []) 9 tt k)

pub plain_no_setting : (o : Opening) → is_plain o ≡ true → is_setting o ≡ false
unfolding is_plain is_setting
plain_no_setting (Constant shape) h = refl
plain_no_setting Bootstrap h = refl
plain_no_setting NamedConstant h = refl
plain_no_setting NamedBootstrap h = refl
plain_no_setting RawConstant h = refl
plain_no_setting RawBootstrap h = refl
plain_no_setting Version h = true≢false (sym h)
plain_no_setting Texts h = true≢false (sym h)
plain_no_setting Highest h = true≢false (sym h)
plain_no_setting Expression h = refl

pub setting_no_plain : (o : Opening) → is_setting o ≡ true → is_plain o ≡ false
setting_no_plain o h = ways (is_plain o) refl
  where
    ways : (b : Bool) → is_plain o ≡ b → is_plain o ≡ false
    ways true t = true≢false (sym h ∙ plain_no_setting o t)
    ways false t = t

pub number-other : (o : Opening) (s : List ℕ) (at : ℕ) → OneOf (0 ∷ 1 ∷ 2 ∷ 3 ∷ 4 ∷ 5 ∷ 7 ∷ 9 ∷ []) (tag_of the_type o) → 0 ≡ number_opened o s at
unfolding number_opened
number-other (Constant shape) s at k = refl
number-other Bootstrap s at k = refl
number-other NamedConstant s at k = refl
number-other NamedBootstrap s at k = refl
number-other RawConstant s at k = refl
number-other RawBootstrap s at k = refl
number-other Version s at k = absurd (miss (0 ∷ 1 ∷ 2 ∷ 3 ∷ 4 ∷ 5 ∷ 7 ∷ 9 ∷ []) 6 tt k)
number-other Texts s at k = refl
number-other Highest s at k = absurd (miss (0 ∷ 1 ∷ 2 ∷ 3 ∷ 4 ∷ 5 ∷ 7 ∷ 9 ∷ []) 8 tt k)
number-other Expression s at k = refl

pub fault_other : (o : Opening) (number : ℕ) (c : JobCounts) → OneOf (0 ∷ 1 ∷ 2 ∷ 3 ∷ 4 ∷ 5 ∷ 9 ∷ []) (tag_of the_type o) → 0 ≡ setting_fault o number c
unfolding setting_fault
fault_other (Constant shape) number c k = refl
fault_other Bootstrap number c k = refl
fault_other NamedConstant number c k = refl
fault_other NamedBootstrap number c k = refl
fault_other RawConstant number c k = refl
fault_other RawBootstrap number c k = refl
fault_other Version number c k = absurd (miss (0 ∷ 1 ∷ 2 ∷ 3 ∷ 4 ∷ 5 ∷ 9 ∷ []) 6 tt k)
fault_other Texts number c k = absurd (miss (0 ∷ 1 ∷ 2 ∷ 3 ∷ 4 ∷ 5 ∷ 9 ∷ []) 7 tt k)
fault_other Highest number c k = absurd (miss (0 ∷ 1 ∷ 2 ∷ 3 ∷ 4 ∷ 5 ∷ 9 ∷ []) 8 tt k)
fault_other Expression number c k = refl

-- ---- 49 behind so many records

module _ (records number : ℕ) where
  pub highest_late : (records ≡ 0 → ⊥) → 3 ≡ highest_fault records number
  unfolding highest_fault
  highest_late n = rw (ne_eqb records 0 n, highest_fault)

  pub highest_is : records ≡ 0 → is_slot number ≡ true → 0 ≡ highest_fault records number
  unfolding highest_fault
  highest_is e t = rw (eq-eqb records 0 e, t, highest_fault)

  pub highest_not : records ≡ 0 → is_slot number ≡ false → 26 ≡ highest_fault records number
  unfolding highest_fault
  highest_not e t = rw (eq-eqb records 0 e, t, highest_fault)

-- ---- what is no setting has no setting's fault, and isn't told a number; a setting has room

pub fault_plain : (o : Opening) (number : ℕ) (c : JobCounts) → is_setting o ≡ false → setting_fault o number c ≡ 0
unfolding is_setting setting_fault
fault_plain (Constant shape) number c h = refl
fault_plain Bootstrap number c h = refl
fault_plain NamedConstant number c h = refl
fault_plain NamedBootstrap number c h = refl
fault_plain RawConstant number c h = refl
fault_plain RawBootstrap number c h = refl
fault_plain Version number c h = true≢false h
fault_plain Texts number c h = true≢false h
fault_plain Highest number c h = true≢false h
fault_plain Expression number c h = refl

pub counted-plain : (o : Opening) (k number : ℕ) (c : JobCounts) → is_setting o ≡ false → counted_as o k 0 c ≡ counted_as o k number c
unfolding is_setting counted_as
counted-plain (Constant shape) k number c h = refl
counted-plain Bootstrap k number c h = refl
counted-plain NamedConstant k number c h = refl
counted-plain NamedBootstrap k number c h = refl
counted-plain RawConstant k number c h = refl
counted-plain RawBootstrap k number c h = refl
counted-plain Version k number c h = true≢false h
counted-plain Texts k number c h = true≢false h
counted-plain Highest k number c h = true≢false h
counted-plain Expression k number c h = refl

pub room_setting : (o : Opening) (constants bootstraps : ℕ) → is_setting o ≡ true → room_for o constants bootstraps ≡ true
unfolding is_setting room_for
room_setting (Constant shape) constants bootstraps h = true≢false (sym h)
room_setting Bootstrap constants bootstraps h = true≢false (sym h)
room_setting NamedConstant constants bootstraps h = refl
room_setting NamedBootstrap constants bootstraps h = refl
room_setting RawConstant constants bootstraps h = refl
room_setting RawBootstrap constants bootstraps h = refl
room_setting Version constants bootstraps h = refl
room_setting Texts constants bootstraps h = refl
room_setting Highest constants bootstraps h = refl
room_setting Expression constants bootstraps h = true≢false (sym h)
