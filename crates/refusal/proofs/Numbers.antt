-- A refusal is known by its number. Assumes nothing.
use Rattle.std.specs.Prelude.{◌≡◌, List, [], ◌∷◌, ℕ, ◌+◌, ◌-◌, slice_index_or, refl}
use Rattle.std.proofs.Common.{sym, ap, ◌∙◌}
use denote.Enum.Declared.{tag_of}
use Rattle.refusal.specs.contracts.Refusal.{the_type}
use Rattle.refusal.specs.declared.Refusal.{Refusal}
use Rattle.refusal.specs.declared.Refusal.TheVariants.{JobTooLong, LentTooShort, Malformed, NotThere, TableFull, RawSlotOutside, RawSlotTaken, RawConstantTwice, RawBootstrapOutside, RawBootstrapTwice, NameTwice, NameUndefined, Circular, NoSlot, NoSlotForLdc, OutOfReachOfLdc, NoBootstrapIndex, OutputTooShort, BadBlock, NotBlocks, NotPool, BadExpression, DividesByZero, KindTooNew, NotText, BadHighestSlot, NotClassFile, BadTrace}
use Rattle.refusal.specs.Numbers.{number}

pub number_tag : (r : Refusal) → tag_of the_type r + 1 ≡ number r
unfolding number
number_tag JobTooLong = refl
number_tag LentTooShort = refl
number_tag Malformed = refl
number_tag NotThere = refl
number_tag TableFull = refl
number_tag RawSlotOutside = refl
number_tag RawSlotTaken = refl
number_tag RawConstantTwice = refl
number_tag RawBootstrapOutside = refl
number_tag RawBootstrapTwice = refl
number_tag NameTwice = refl
number_tag NameUndefined = refl
number_tag Circular = refl
number_tag NoSlot = refl
number_tag NoSlotForLdc = refl
number_tag OutOfReachOfLdc = refl
number_tag NoBootstrapIndex = refl
number_tag OutputTooShort = refl
number_tag BadBlock = refl
number_tag NotBlocks = refl
number_tag NotPool = refl
number_tag BadExpression = refl
number_tag DividesByZero = refl
number_tag KindTooNew = refl
number_tag NotText = refl
number_tag BadHighestSlot = refl
number_tag NotClassFile = refl
number_tag BadTrace = refl

-- the refusal of a number
unfoldable pub of_number : ℕ → Refusal
of_number n = slice_index_or (JobTooLong ∷ LentTooShort ∷ Malformed ∷ NotThere ∷ TableFull ∷ RawSlotOutside ∷ RawSlotTaken ∷ RawConstantTwice ∷ RawBootstrapOutside ∷ RawBootstrapTwice ∷ NameTwice ∷ NameUndefined ∷ Circular ∷ NoSlot ∷ NoSlotForLdc ∷ OutOfReachOfLdc ∷ NoBootstrapIndex ∷ OutputTooShort ∷ BadBlock ∷ NotBlocks ∷ NotPool ∷ BadExpression ∷ DividesByZero ∷ KindTooNew ∷ NotText ∷ BadHighestSlot ∷ NotClassFile ∷ BadTrace ∷ []) (n - 1) JobTooLong

of_number-number : (r : Refusal) → of_number (number r) ≡ r
unfolding number of_number
of_number-number JobTooLong = refl
of_number-number LentTooShort = refl
of_number-number Malformed = refl
of_number-number NotThere = refl
of_number-number TableFull = refl
of_number-number RawSlotOutside = refl
of_number-number RawSlotTaken = refl
of_number-number RawConstantTwice = refl
of_number-number RawBootstrapOutside = refl
of_number-number RawBootstrapTwice = refl
of_number-number NameTwice = refl
of_number-number NameUndefined = refl
of_number-number Circular = refl
of_number-number NoSlot = refl
of_number-number NoSlotForLdc = refl
of_number-number OutOfReachOfLdc = refl
of_number-number NoBootstrapIndex = refl
of_number-number OutputTooShort = refl
of_number-number BadBlock = refl
of_number-number NotBlocks = refl
of_number-number NotPool = refl
of_number-number BadExpression = refl
of_number-number DividesByZero = refl
of_number-number KindTooNew = refl
of_number-number NotText = refl
of_number-number BadHighestSlot = refl
of_number-number NotClassFile = refl
of_number-number BadTrace = refl

pub number-injective : (r s : Refusal) → number r ≡ number s → r ≡ s
number-injective r s same = sym (of_number-number r) ∙ ap of_number same ∙ of_number-number s
