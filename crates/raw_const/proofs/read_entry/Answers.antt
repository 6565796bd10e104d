-- `raw_const::read_entry` meets its contract: at each return the tests that led there say how the definition's reader ends.
-- Assumes nothing.
use mathlib.Core.Path.{◌≡◌, ap, ◌∙◌}
use mathlib.Core.List.{List}
use mathlib.Core.Option.{some}
use Prim.Native.Nat.{ℕ, ◌+◌, ◌<◌}
use lib.ListN.{length, get_or, drop}
use Rattle.std.specs.Prelude as code
use Rattle.std.specs.Option.{unwrap_or}
use Rattle.definition.specs.Basics.{lookup}
use Rattle.definition.specs.Bytes.{two}
use Rattle.definition.specs.Shapes.{shapes}
use Rattle.raw_const.specs.declared.Shape.{Shape}
use Rattle.raw_const.specs.Entries.{shape_fields, length_of, short_read}
use Rattle.raw_const.proofs.Readers.{Sized, number_found, read_behind, read_unknown, read_cut, read_whole}
use Rattle.raw_const.proofs.read_entry.Goals as goal

-- the size that the tag's shape asks for
size-at :
    (s : Shape) (pool : List ℕ) (at tag size literal : ℕ) (found : code.Option ℕ) → at < length pool → tag ≡ get_or pool at 0 →
    some (shape_fields s) ≡ lookup tag shapes → size ≡ length_of s literal → literal ≡ unwrap_or found 0 →
    found ≡ short_read (two (drop (at + 1) pool)) → Sized s pool at size
size-at s pool at tag size literal found inside here known long read short =
    record {
      inside = inside;
      known = rw here at known;
      sized = long ∙ ap (length_of s) (read ∙ ap (λ o. unwrap_or o 0) short ∙ number_found (two (drop (at + 1) pool)));
    }

pub returns-in_err-tag : goal.returns-in_err-tag
returns-in_err-tag c = rw c.from_residual.ensures (read_behind c.args.pool.now c.args.at c.in_err-tag.ensures.lookup.3)

pub returns-in_err-shape : goal.returns-in_err-shape
returns-in_err-shape c =
    let found = c.in_ok-tag.ensures.lookup.3 in
    rw c.from_residual-in_err-shape.ensures
    (read_unknown c.args.pool.now c.args.at found.0 (rw (found.1 0) at c.in_err-shape.ensures))

pub returns-then-pool-at : goal.returns-then-pool-at
returns-then-pool-at c =
    let found = c.in_ok-tag.ensures.lookup.3 in
    read_cut (size-at c.in_ok-shape.shape c.args.pool.now c.args.at c.in_ok-tag.field-0.now c.shape_length-size.result c.unwrap_or-literal.result c.short_at.result found.0 (found.1 0) c.in_ok-shape.ensures c.shape_length-size.ensures c.unwrap_or-literal.ensures c.short_at.ensures) c.if-pool-at.true

pub returns : goal.returns
returns c =
    let found = c.in_ok-tag.ensures.lookup.3 in
    rw (found.1 0) (read_whole (size-at c.in_ok-shape.shape c.args.pool.now c.args.at c.in_ok-tag.field-0.now c.shape_length-size.result c.unwrap_or-literal.result c.short_at.result found.0 (found.1 0) c.in_ok-shape.ensures c.shape_length-size.ensures c.unwrap_or-literal.ensures c.short_at.ensures) c.if-pool-at.false)
