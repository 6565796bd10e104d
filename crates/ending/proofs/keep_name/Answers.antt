-- `ending::keep_name` meets its contract: by the slot, if any. Assumes nothing.
use mathlib.Core.Bool.{true}
use mathlib.Core.Path.{◌≡◌, refl}
use native.Mathlib.Omega.{arith}
use Rattle.std.specs.Prelude.{is_some}
use Rattle.refusal.specs.Numbers.{number, code_of}
use Rattle.ending.specs.Naming.{slot_or_0}
use Rattle.ending.proofs.Finding.{slot-is}
use Rattle.ending.proofs.keep_name.Goals as goal

pub returns-in-Some : goal.returns-in-Some
unfolding code_of
returns-in-Some c =
    let some : is_some c.args.slot ≡ true = rw c.in-Some.is in
    record {
      is = rw c.unwrap_or.ensures at c.save.ensures;
      met = λ l. refl;
      unmet = λ z. absurd (slot-is c.args.slot c.requires.3 some z);
    }

pub returns-in-None : goal.returns-in-None
unfolding code_of number
returns-in-None c =
    let none : slot_or_0 c.args.slot ≡ 0 = rw c.in-None.is in
    record {
      is = rw c.unwrap_or.ensures at c.save.ensures;
      met = λ l. absurd (omega (arith, none));
      unmet = λ z. refl;
    }
