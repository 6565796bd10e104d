-- `folding::combine` meets its contract. Assumes nothing.
use Rattle.folding.specs.Folding.{sign_of}
use Rattle.folding.proofs.Values as values
use Rattle.folding.proofs.combine.Goals as goal

pub returns-in-Int-Int : goal.returns-in-Int-Int
returns-in-Int-Int c = rw (c.both_of.ensures, c.in-Int-Int.is-0, c.in-Int-Int.is-1) (values.combines_int (sign_of c.args.sign) c.in-Int-Int.a c.in-Int-Int.b)

pub returns-in-Float-Float : goal.returns-in-Float-Float
returns-in-Float-Float c = rw (c.operate.ensures, c.in-Float-Float.is-0, c.in-Float-Float.is-1) (values.combines_float (sign_of c.args.sign) c.in-Float-Float.a c.in-Float-Float.b)

pub returns-in-Long-Long : goal.returns-in-Long-Long
returns-in-Long-Long c = rw (c.both_of-in-Long-Long.ensures, c.in-Long-Long.is-0, c.in-Long-Long.is-1) (values.combines_long (sign_of c.args.sign) c.in-Long-Long.a c.in-Long-Long.b)

pub returns-in-Double-Double : goal.returns-in-Double-Double
returns-in-Double-Double c = rw (c.operate-in-Double-Double.ensures, c.in-Double-Double.is-0, c.in-Double-Double.is-1) (values.combines_double (sign_of c.args.sign) c.in-Double-Double.a c.in-Double-Double.b)

pub returns-in_default : goal.returns-in_default
returns-in_default c = rw c.in_default.is-0 (values.mixed-Int _ _ c.in_default.not-Int-1)

pub returns-in_default-2 : goal.returns-in_default-2
returns-in_default-2 c = rw c.in_default.is-0 (values.mixed-Float _ _ c.in_default.not-Float-1)

pub returns-in_default-3 : goal.returns-in_default-3
returns-in_default-3 c = rw c.in_default.is-0 (values.mixed-Long _ _ c.in_default.not-Long-1)

pub returns-in_default-4 : goal.returns-in_default-4
returns-in_default-4 c = rw c.in_default.is-0 (values.mixed-Double _ _ c.in_default.not-Double-1)
