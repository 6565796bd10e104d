-- Text that is counted or written at a place: what each function of this crate does. Assumes nothing.
use Rattle.std.specs.Prelude.{true, false, List, ◌≡◌, ℕ, suc, ◌+◌, ◌≤◌, ◌<◌, leb, length}
use Rattle.std.proofs.Math.Seq.{paste}
use Rattle.printing.specs.declared.Printer.{Printer}

-- a place in a room, one more than the room where it lies past that
unfoldable pub capped : ℕ → ℕ → ℕ
capped room n = elim (leb n room) [ true ↦ n | false ↦ suc room ]

-- where text may be put: `out` reaches no further than the room (not at all while text is only counted)
abbrev pub CanPut : List ℕ → ℕ → ℕ → Type 0
CanPut out room at = (length out ≤ room) × (room < 18446744073709551615) × (at ≤ suc room)

-- text was put at a place: r is where it ends in the room, and if `out` reaches so far, it was written there and nothing else changed
pub record Printed (before : List ℕ) (room at : ℕ) (text after : List ℕ) (r : ℕ) : Type 0 where
  pub ends : r ≡ capped room (at + length text)
  pub same : length after ≡ length before
  pub out : at + length text ≤ length before → after ≡ paste before at text (length text)

-- a printer may put text
abbrev pub Ready : Printer → Type 0
Ready p = CanPut p.out.now p.room p.at

-- a printer put a text
pub record Prints (before after : Printer) (text : List ℕ) : Type 0 where
  pub began : Ready before
  pub can : Ready after
  pub same_room : after.room ≡ before.room
  pub printed : Printed before.out.now before.room before.at text after.out.now after.at
