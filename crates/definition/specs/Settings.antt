-- Records that set a rule for the whole job (document 02, No. 5, 8 and 10), and what a job without them has. Assumes nothing.
use Rattle.std.specs.Prelude.{Bool, true, ◌&&◌, List, [], ◌∷◌, ℕ, leb}
use Rattle.std.proofs.Math.Option.{none, some}
use Rattle.definition.specs.Basics.{lookup}
use Rattle.definition.specs.Slots.{highest_slot}

pub data Setting : Type 0 where
  -- 47: the major version of the receiver's class files
  version : ℕ → Setting
  -- 48: every text is one as JVMS has it
  texts : Setting
  -- 49: the highest slot that the receiver takes
  highest : ℕ → Setting

-- a highest slot is one that there is
unfoldable pub is_slot : ℕ → Bool
is_slot n = leb 1 n && leb n highest_slot

-- the highest slot of a job with these settings
unfoldable pub highest_of : List Setting → ℕ
highest_of [] = highest_slot
highest_of (version v ∷ settings) = highest_of settings
highest_of (texts ∷ settings) = highest_of settings
highest_of (highest n ∷ settings) = n

-- JVMS table 4.4-B: the first version that has a kind of constant, where it isn't the first of all
unfoldable pub since : List (ℕ × ℕ)
since = (15, 51) ∷ (16, 51) ∷ (17, 55) ∷ (18, 51) ∷ (19, 53) ∷ (20, 53) ∷ []

-- a version has this kind of constant
unfoldable pub known : ℕ → ℕ → Bool
known v tag = elim (lookup tag since) [ none ↦ true | some first ↦ leb first v ]

-- a job without record 47 is held to a version that has every kind
abbrev pub newest : ℕ
newest = 55
