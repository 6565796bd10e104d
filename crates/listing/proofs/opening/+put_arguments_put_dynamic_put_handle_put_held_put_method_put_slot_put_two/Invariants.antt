-- Levels fall from a slot or a method to what its constant holds or its arguments; at one level the measure falls from `put_held` to what opens
-- its references, and from there to `put_slot`. Assumes nothing.
use Rattle.std.proofs.Common.{◌+◌, ◌*◌}
use mathlib.Core.Path.{◌≡◌}
use Rattle.printing.proofs.Printing.{Rest}
use Rattle.listing.specs.Listing.{opened}
use Rattle.listing.specs.Views.{finished}
use Rattle.listing.specs.Opening.{arguments_at}
use Rattle.listing.proofs.Arguments.{Remaining}
use Rattle.listing.proofs.opening.+put_arguments_put_dynamic_put_handle_put_held_put_method_put_slot_put_two.Given as goal

abbrev pub decreases-put_arguments : goal.decreases-put_arguments
decreases-put_arguments l = 3 * l.left + 1

abbrev pub decreases-put_dynamic : goal.decreases-put_dynamic
decreases-put_dynamic l = 3 * l.left + 1

abbrev pub decreases-put_handle : goal.decreases-put_handle
decreases-put_handle l = 3 * l.left + 1

abbrev pub decreases-put_held : goal.decreases-put_held
decreases-put_held l = 3 * l.left + 2

abbrev pub decreases-put_method : goal.decreases-put_method
decreases-put_method l = 3 * l.levels

abbrev pub decreases-put_slot : goal.decreases-put_slot
decreases-put_slot l = 3 * l.levels

abbrev pub decreases-put_two : goal.decreases-put_two
decreases-put_two l = 3 * l.left + 1

abbrev pub invariant-put_arguments-loop-k : goal.invariant-put_arguments-loop-k
invariant-put_arguments-loop-k l =
    let show = opened (finished l.pool l.count l.methods) l.left in
    (l.printer.out.ghost_name ≡ l.initial.printer.out.ghost_name)
    × Rest l.initial.printer (arguments_at show l.methods l.p) l.printer (Remaining show l.methods (l.p + 4) l.size l.k)
