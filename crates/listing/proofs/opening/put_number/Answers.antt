-- `listing::opening::put_number` meets its contract: each text is the table's. Assumes nothing.
use mathlib.Core.List.{◌∷◌, ◌++◌}
use mathlib.Core.Path.{ap, ◌∙◌}
use Prim.Native.Nat.{◌+◌}
use native.Mathlib.Omega.{arith}
use Rattle.definition.specs.Basics.{lookup}
use Rattle.printing.specs.Numbers.{signed, hex_of, float, double}
use Rattle.printing.proofs.Printing.{in_words}
use Rattle.listing.specs.Views.{or_none}
use Rattle.listing.specs.Opening.{numbers}
use Rattle.listing.proofs.Held.{number_is, is_six, double-parts}
use Rattle.listing.proofs.opening.put_number.Goals as goal

pub get-requires-in-5 : goal.get-requires-in-5
get-requires-in-5 c = let long = c.requires.sized.3 (omega (arith, c.in-5.is)) in
    omega arith

pub get-requires-in_default : goal.get-requires-in_default
get-requires-in_default c = let r = c.in_default.in_default-own.rest in
    let six = is_six _ c.requires.sized.0 c.requires.sized.1 r.0.0.1 r.0.1 r.1 in
    let long = c.requires.sized.3 (omega arith) in
    omega arith

pub returns-in-3-clause-text : goal.returns-in-3-clause-text
unfolding lookup or_none numbers
returns-in-3-clause-text c = let a = c.args in
    in_words (number_is a.pool.now a.place 3 c.in-3.is _ (ap (signed 2147483648) c.get.ensures)) c.put_int.ensures.text

pub returns-in-4-clause-text : goal.returns-in-4-clause-text
unfolding lookup or_none numbers
returns-in-4-clause-text c = let a = c.args in
    in_words (number_is a.pool.now a.place 4 c.in-4.is _ (ap (λ n. hex_of 8 n ++ 0x20 ∷ float n) c.get-in-4.ensures)) c.put_float.ensures.text

pub returns-in-5-clause-text : goal.returns-in-5-clause-text
unfolding lookup or_none numbers
returns-in-5-clause-text c = let a = c.args in
    in_words (number_is a.pool.now a.place 5 c.in-5.is _ (ap (signed 9223372036854775808) c.get-in-5.ensures)) c.put_long.ensures.text

pub returns-in_default-clause-text : goal.returns-in_default-clause-text
unfolding lookup or_none numbers
returns-in_default-clause-text c = let a = c.args in
    let r = c.in_default.in_default-own.rest in
    in_words (number_is a.pool.now a.place 6 (is_six _ c.requires.sized.0 c.requires.sized.1 r.0.0.1 r.0.1 r.1) _ (ap (λ n. hex_of 16 n ++ 0x20 ∷ double n) c.get-in_default.ensures ∙ double-parts a.pool.now (a.place + 1) (λ i. omega (arith, c.type_inv.pool i)))) c.put_double.ensures.text
