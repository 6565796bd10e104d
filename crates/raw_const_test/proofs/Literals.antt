-- Literals that the shape found for a tag allows. Assumes nothing.
use mathlib.Core.Path.{◌≡◌, sym}
use Prim.Native.Nat.{ℕ, ◌<◌}
use Rattle.std.specs.Prelude as code
use Rattle.std.specs.Prelude.{None, Some}
use Rattle.definition.specs.Basics.{lookup}
use Rattle.definition.specs.Shapes.{shapes}
use Rattle.raw_const.specs.Entries.{fields_of, LiteralFits}
use Rattle.raw_const.specs.declared.Shape.{Shape}
use Rattle.raw_const.specs.declared.Shape.TheVariants.{Text, Bits, One, Two, Dynamic, KindOne}
use Rattle.raw_const.proofs.Single.{one-shape}

-- what a shape asks of a literal of n bytes
abbrev pub Asks : code.Option Shape → ℕ → Type 0
Asks (Some Text) n = n < 65536
Asks (Some (Bits size)) n = n ≡ size
Asks (Some One) n = Unit {0}
Asks (Some Two) n = Unit {0}
Asks (Some Dynamic) n = Unit {0}
Asks (Some KindOne) n = Unit {0}
Asks None n = Unit {0}

pub literal_fits : (s : code.Option Shape) (tag n : ℕ) → fields_of s ≡ lookup tag shapes → Asks s n → LiteralFits (lookup tag shapes) n
literal_fits s tag n known asked =
    record {
      as_text = λ e. rw (one-shape tag s (Some Text) known (sym e)) at asked;
      as_bits = λ size e. rw (one-shape tag s (Some (Bits size)) known (sym e)) at asked;
    }
