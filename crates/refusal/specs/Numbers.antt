-- The refusals' numbers in documents 01 and 02, and results with a refusal as the definition has them. Assumes nothing.
use Rattle.std.specs.Prelude.{ℕ, Result, Ok, Err}
use Rattle.definition.specs.Basics as basics
use Rattle.refusal.specs.declared.Refusal.{Refusal}
use Rattle.refusal.specs.declared.Refusal.TheVariants.{JobTooLong, LentTooShort, Malformed, NotThere, TableFull, RawSlotOutside, RawSlotTaken, RawConstantTwice, RawBootstrapOutside, RawBootstrapTwice, NameTwice, NameUndefined, Circular, NoSlot, NoSlotForLdc, OutOfReachOfLdc, NoBootstrapIndex, OutputTooShort, BadBlock, NotBlocks, NotPool, BadExpression, DividesByZero, KindTooNew, NotText, BadHighestSlot, NotClassFile, BadTrace}
use Rattle.refusal.specs.declared.Refused.{Refused}

unfoldable pub number : Refusal → ℕ
number JobTooLong = 1
number LentTooShort = 2
number Malformed = 3
number NotThere = 4
number TableFull = 5
number RawSlotOutside = 6
number RawSlotTaken = 7
number RawConstantTwice = 8
number RawBootstrapOutside = 9
number RawBootstrapTwice = 10
number NameTwice = 11
number NameUndefined = 12
number Circular = 13
number NoSlot = 14
number NoSlotForLdc = 15
number OutOfReachOfLdc = 16
number NoBootstrapIndex = 17
number OutputTooShort = 18
number BadBlock = 19
number NotBlocks = 20
number NotPool = 21
number BadExpression = 22
number DividesByZero = 23
number KindTooNew = 24
number NotText = 25
number BadHighestSlot = 26
number NotClassFile = 27
number BadTrace = 28

-- what a result with a refusal says as one number: 0, or the refusal's
unfoldable pub code_of : {T : Type 0} → Result T Refusal → ℕ
code_of (Ok x) = 0
code_of (Err r) = number r

-- such a result as the definition's, without a place and with one
unfoldable pub answer_of : {T : Type 0} → Result T Refusal → basics.Result ℕ T
answer_of (Ok x) = basics.good x
answer_of (Err r) = basics.bad (number r)

unfoldable pub told_of : {T : Type 0} → Result T Refused → basics.Result basics.Refusal T
told_of (Ok x) = basics.good x
told_of (Err r) = basics.bad (record { code = number r.refusal; place = r.place })
