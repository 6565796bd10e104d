-- `put_slot`, `put_method` and what they call meet their contracts: what each puts is what the definition opens there, piece by piece. Assumes
-- nothing.
use mathlib.Core.List.{◌++◌}
use mathlib.Core.Path.{◌≡◌, refl, sym, ap, ◌∙◌}
use Prim.Native.Nat.{◌+◌, ◌-◌}
use native.Mathlib.Nat.{pos_of_ne-zero}
use native.Mathlib.Omega.{arith}
use lib.ListN.{take, drop, get_or}
use Rattle.std.specs.Prelude.{Some}
use Rattle.definition.specs.Ascii.{ascii}
use Rattle.printing.specs.Numbers.{quoted}
use Rattle.writer.specs.Numbers.{number2}
use Rattle.printing.proofs.Printing.{all_rest, less_rest, rest_as, none_rest, both, in_words, past_printed}
use Rattle.listing.specs.Listing.{slot, opened}
use Rattle.listing.specs.Views.{finished}
use Rattle.listing.specs.Opening.{arguments_at, comma}
use Rattle.listing.proofs.Held.{two_is, dynamic_is, handle_is, shown_at_lem}
use Rattle.listing.proofs.Arguments.{Remaining, all_remaining, next-remaining, none-remaining}
use Rattle.listing.proofs.Opened.{closed, slot-inside, bare_slot, text_slot, named-slot, bare_method, open_at}
use Rattle.listing.proofs.opening.+put_arguments_put_dynamic_put_handle_put_held_put_method_put_slot_put_two.Goals as goal

pub put_arguments-loop-k-init : goal.put_arguments-loop-k-init
put_arguments-loop-k-init t c = let a = c.args in
    let show = opened (finished a.pool.now a.count a.methods.now) a.left in
    let whole = arguments_at show a.methods.now a.p in
    (refl, rest_as (all_remaining show a.methods.now a.p c.get-size.result c.get-size.ensures) (all_rest a.printer.now whole c.requires.ready))

pub put_arguments-put_slot-requires : goal.put_arguments-put_slot-requires
put_arguments-put_slot-requires t c = (omega (arith, c.decreases), (c.requires.views, c.put_comma_before.ensures.text.can))

pub put_arguments-loop-k-preserved : goal.put_arguments-loop-k-preserved
put_arguments-loop-k-preserved t c = let a = c.args in
    let show = opened (finished a.pool.now a.count a.methods.now) a.left in
    let l = c.loop-k in
    let size = c.get-size.result in
    let next = next-remaining show a.methods.now (a.p + 4) size l.k (omega arith) in
    let here = ap (λ i. comma l.k ++ (show (slot i) ++ Remaining show a.methods.now (a.p + 4) size (l.k + 1))) (sym c.get-i.ensures) in (
      c.put_slot.ensures.same_buffer ∙ c.put_comma_before.ensures.same_buffer ∙ l.invariant.0,
      less_rest (less_rest (rest_as (next ∙ here) l.invariant.1) c.put_comma_before.ensures.text) c.put_slot.ensures.text,
    )

pub put_arguments-returns-then-is_past-clause-text : goal.put_arguments-returns-then-is_past-clause-text
put_arguments-returns-then-is_past-clause-text t c = let l = c.loop-k in
    l.invariant.1.so (past_printed l.printer _ l.invariant.1.can (c.is_past.ensures.0 c.if-is_past.true))

pub put_arguments-returns-clause-text : goal.put_arguments-returns-clause-text
put_arguments-returns-clause-text t c = let a = c.args in
    let show = opened (finished a.pool.now a.count a.methods.now) a.left in
    let l = c.loop-k in
    none_rest (rest_as (none-remaining show a.methods.now (a.p + 4) c.get-size.result l.k c.loop-k-test.false) l.invariant.1)

pub put_dynamic-put_method-requires : goal.put_dynamic-put_method-requires
put_dynamic-put_method-requires t c = (omega (arith, c.decreases), (c.requires.views, c.put_between.ensures.text.can))

pub put_dynamic-returns-clause-text : goal.put_dynamic-returns-clause-text
put_dynamic-returns-clause-text t c = let a = c.args in
    let show = opened (finished a.pool.now a.count a.methods.now) a.left in
    let shown = both (both c.put_slot.ensures.text c.put_between.ensures.text) c.put_method.ensures.text in
    in_words (dynamic_is show a.pool.now a.p _ _ _ refl c.get-j.ensures c.get-i.ensures) shown

pub put_two-put_slot-requires-2 : goal.put_two-put_slot-requires-2
put_two-put_slot-requires-2 t c = (omega (arith, c.decreases), (c.requires.views, c.put_between.ensures.text.can))

pub put_two-returns-clause-text : goal.put_two-returns-clause-text
put_two-returns-clause-text t c = let a = c.args in
    let show = opened (finished a.pool.now a.count a.methods.now) a.left in
    let shown = both (both c.put_slot.ensures.text c.put_between.ensures.text) c.put_slot-2.ensures.text in
    in_words (two_is show a.pool.now a.p _ _ _ refl c.get-i.ensures c.get-j.ensures) shown

pub put_handle-put_slot-requires : goal.put_handle-put_slot-requires
put_handle-put_slot-requires t c = (omega (arith, c.decreases), (c.requires.views, c.put.ensures.text.can))

pub put_handle-returns-clause-text : goal.put_handle-returns-clause-text
put_handle-returns-clause-text t c = let a = c.args in
    let show = opened (finished a.pool.now a.count a.methods.now) a.left in
    in_words (handle_is show a.pool.now a.p _ _ refl c.get-i.ensures) (both c.put_reference_kind.ensures.text (both c.put.ensures.text c.put_slot.ensures.text))

pub put_held-bounds-pool-p : goal.put_held-bounds-pool-p
put_held-bounds-pool-p t c = slot-inside c.requires.views c.args.n c.requires.nonzero

pub put_held-overflow_add-p : goal.put_held-overflow_add-p
put_held-overflow_add-p t c = let a = c.args in
    let show = opened (finished a.pool.now a.count a.methods.now) a.left in
    let shown = shown_at_lem c.requires.views show a.n c.requires.nonzero c.shape_of.ensures (c.in-Some-Text.is ∙ ap Some c.in-Some-Text.field-0-is) in
    omega (arith, shown.1)

pub put_held-get-requires : goal.put_held-get-requires
put_held-get-requires t c = let a = c.args in
    let show = opened (finished a.pool.now a.count a.methods.now) a.left in
    let shown = shown_at_lem c.requires.views show a.n c.requires.nonzero c.shape_of.ensures (c.in-Some-Text.is ∙ ap Some c.in-Some-Text.field-0-is) in
    omega (arith, shown.1)

pub put_held-overflow_add-p-in-Some-Text : goal.put_held-overflow_add-p-in-Some-Text
put_held-overflow_add-p-in-Some-Text t c = let a = c.args in
    let show = opened (finished a.pool.now a.count a.methods.now) a.left in
    let shown = shown_at_lem c.requires.views show a.n c.requires.nonzero c.shape_of.ensures (c.in-Some-Text.is ∙ ap Some c.in-Some-Text.field-0-is) in
    omega (arith, shown.1)

pub put_held-overflow_add-p-in-Some-One : goal.put_held-overflow_add-p-in-Some-One
put_held-overflow_add-p-in-Some-One t c = let a = c.args in
    let show = opened (finished a.pool.now a.count a.methods.now) a.left in
    let shown = shown_at_lem c.requires.views show a.n c.requires.nonzero c.shape_of.ensures (c.in-Some-One.is ∙ ap Some c.in-Some-One.field-0-is) in
    omega (arith, shown.1)

pub put_held-get-i-requires : goal.put_held-get-i-requires
put_held-get-i-requires t c = let a = c.args in
    let show = opened (finished a.pool.now a.count a.methods.now) a.left in
    let shown = shown_at_lem c.requires.views show a.n c.requires.nonzero c.shape_of.ensures (c.in-Some-One.is ∙ ap Some c.in-Some-One.field-0-is) in
    omega (arith, shown.1)

pub put_held-overflow_add-end : goal.put_held-overflow_add-end
put_held-overflow_add-end t c = let a = c.args in
    let show = opened (finished a.pool.now a.count a.methods.now) a.left in
    let shown = shown_at_lem c.requires.views show a.n c.requires.nonzero c.shape_of.ensures (c.in-Some-Text.is ∙ ap Some c.in-Some-Text.field-0-is) in
    omega (arith, shown.1)

pub put_held-overflow_add-end-in-Some-Text : goal.put_held-overflow_add-end-in-Some-Text
put_held-overflow_add-end-in-Some-Text t c = let a = c.args in
    let show = opened (finished a.pool.now a.count a.methods.now) a.left in
    let shown = shown_at_lem c.requires.views show a.n c.requires.nonzero c.shape_of.ensures (c.in-Some-Text.is ∙ ap Some c.in-Some-Text.field-0-is) in
    omega (arith, shown.1, c.get.ensures)

pub put_held-slice_bounds-put_quoted-end : goal.put_held-slice_bounds-put_quoted-end
put_held-slice_bounds-put_quoted-end t c = let a = c.args in
    let show = opened (finished a.pool.now a.count a.methods.now) a.left in
    let shown = shown_at_lem c.requires.views show a.n c.requires.nonzero c.shape_of.ensures (c.in-Some-Text.is ∙ ap Some c.in-Some-Text.field-0-is) in
    omega (arith, shown.1, c.get.ensures)

pub put_held-put_quoted-requires : goal.put_held-put_quoted-requires
put_held-put_quoted-requires t c = let a = c.args in
    let show = opened (finished a.pool.now a.count a.methods.now) a.left in
    let shown = shown_at_lem c.requires.views show a.n c.requires.nonzero c.shape_of.ensures (c.in-Some-Text.is ∙ ap Some c.in-Some-Text.field-0-is) in
    c.requires.ready

pub put_held-put_number-requires-clause-sized : goal.put_held-put_number-requires-clause-sized
put_held-put_number-requires-clause-sized t c = let a = c.args in
    let show = opened (finished a.pool.now a.count a.methods.now) a.left in
    let shown = shown_at_lem c.requires.views show a.n c.requires.nonzero c.shape_of.ensures (c.in-Some-Bits.is ∙ ap Some c.in-Some-Bits.field-0-is) in
    shown.1

pub put_held-put_two-requires : goal.put_held-put_two-requires
put_held-put_two-requires t c = let a = c.args in
    let show = opened (finished a.pool.now a.count a.methods.now) a.left in
    let shown = shown_at_lem c.requires.views show a.n c.requires.nonzero c.shape_of.ensures (c.in-Some-Two.is ∙ ap Some c.in-Some-Two.field-0-is) in
    (omega (arith, c.decreases), (c.requires.views, (c.requires.ready, shown.1)))

pub put_held-put_dynamic-requires : goal.put_held-put_dynamic-requires
put_held-put_dynamic-requires t c = let a = c.args in
    let show = opened (finished a.pool.now a.count a.methods.now) a.left in
    let shown = shown_at_lem c.requires.views show a.n c.requires.nonzero c.shape_of.ensures (c.in-Some-Dynamic.is ∙ ap Some c.in-Some-Dynamic.field-0-is) in
    (omega (arith, c.decreases), (c.requires.views, (c.requires.ready, shown.1)))

pub put_held-put_handle-requires : goal.put_held-put_handle-requires
put_held-put_handle-requires t c = let a = c.args in
    let show = opened (finished a.pool.now a.count a.methods.now) a.left in
    let shown = shown_at_lem c.requires.views show a.n c.requires.nonzero c.shape_of.ensures (c.in-Some-KindOne.is ∙ ap Some c.in-Some-KindOne.field-0-is) in
    (omega (arith, c.decreases), (c.requires.views, (c.requires.ready, shown.1)))

pub put_held-returns-in-Some-Text-clause-text : goal.put_held-returns-in-Some-Text-clause-text
put_held-returns-in-Some-Text-clause-text t c = let a = c.args in
    let show = opened (finished a.pool.now a.count a.methods.now) a.left in
    let shown = shown_at_lem c.requires.views show a.n c.requires.nonzero c.shape_of.ensures (c.in-Some-Text.is ∙ ap Some c.in-Some-Text.field-0-is) in
    let p = get_or a.places.now a.n 0 in
    let size : p + 3 + c.get.result - (p + 3) ≡ number2 a.pool.now (p + 1) = omega (arith, c.get.ensures) in
    in_words (ap (λ n. quoted (take n (drop (p + 3) a.pool.now))) size ∙ sym shown.0) c.put_quoted.ensures.text

pub put_held-returns-in-Some-Bits-clause-text : goal.put_held-returns-in-Some-Bits-clause-text
put_held-returns-in-Some-Bits-clause-text t c = let a = c.args in
    let show = opened (finished a.pool.now a.count a.methods.now) a.left in
    let shown = shown_at_lem c.requires.views show a.n c.requires.nonzero c.shape_of.ensures (c.in-Some-Bits.is ∙ ap Some c.in-Some-Bits.field-0-is) in
    in_words (sym shown.0) c.put_number.ensures.text

pub put_held-returns-in-Some-One-clause-text : goal.put_held-returns-in-Some-One-clause-text
put_held-returns-in-Some-One-clause-text t c = let a = c.args in
    let show = opened (finished a.pool.now a.count a.methods.now) a.left in
    let shown = shown_at_lem c.requires.views show a.n c.requires.nonzero c.shape_of.ensures (c.in-Some-One.is ∙ ap Some c.in-Some-One.field-0-is) in
    in_words (ap (λ n. show (slot n)) c.get-i.ensures ∙ sym shown.0) c.put_slot.ensures.text

pub put_held-returns-in-Some-Two-clause-text : goal.put_held-returns-in-Some-Two-clause-text
put_held-returns-in-Some-Two-clause-text t c = let a = c.args in
    let show = opened (finished a.pool.now a.count a.methods.now) a.left in
    let shown = shown_at_lem c.requires.views show a.n c.requires.nonzero c.shape_of.ensures (c.in-Some-Two.is ∙ ap Some c.in-Some-Two.field-0-is) in
    in_words (sym shown.0) c.put_two.ensures.text

pub put_held-returns-in-Some-Dynamic-clause-text : goal.put_held-returns-in-Some-Dynamic-clause-text
put_held-returns-in-Some-Dynamic-clause-text t c = let a = c.args in
    let show = opened (finished a.pool.now a.count a.methods.now) a.left in
    let shown = shown_at_lem c.requires.views show a.n c.requires.nonzero c.shape_of.ensures (c.in-Some-Dynamic.is ∙ ap Some c.in-Some-Dynamic.field-0-is) in
    in_words (sym shown.0) c.put_dynamic.ensures.text

pub put_held-returns-in-Some-KindOne-clause-text : goal.put_held-returns-in-Some-KindOne-clause-text
put_held-returns-in-Some-KindOne-clause-text t c = let a = c.args in
    let show = opened (finished a.pool.now a.count a.methods.now) a.left in
    let shown = shown_at_lem c.requires.views show a.n c.requires.nonzero c.shape_of.ensures (c.in-Some-KindOne.is ∙ ap Some c.in-Some-KindOne.field-0-is) in
    in_words (sym shown.0) c.put_handle.ensures.text

pub put_held-returns-in-None-clause-text : goal.put_held-returns-in-None-clause-text
put_held-returns-in-None-clause-text t c = let a = c.args in
    let show = opened (finished a.pool.now a.count a.methods.now) a.left in
    let shown = shown_at_lem c.requires.views show a.n c.requires.nonzero c.shape_of.ensures c.in-None.is in
    absurd shown

pub put_method-returns-then-is_past-clause-text : goal.put_method-returns-then-is_past-clause-text
put_method-returns-then-is_past-clause-text t c = past_printed c.args.printer.now _ c.requires.ready (c.is_past.ensures.0 c.if-is_past.true)

pub put_method-returns-then-levels-eq0-clause-text : goal.put_method-returns-then-levels-eq0-clause-text
put_method-returns-then-levels-eq0-clause-text t c = let a = c.args in
    let f = finished a.pool.now a.count a.methods.now in
    in_words (closed f a.levels a.n c.if-levels-eq0.true).1 c.put_bracketed.ensures.text

pub put_slot-returns-then-is_past-clause-text : goal.put_slot-returns-then-is_past-clause-text
put_slot-returns-then-is_past-clause-text t c = past_printed c.args.printer.now _ c.requires.ready (c.is_past.ensures.0 c.if-is_past.true)

pub put_slot-returns-then-levels-eq0-clause-text : goal.put_slot-returns-then-levels-eq0-clause-text
put_slot-returns-then-levels-eq0-clause-text t c = let a = c.args in
    let f = finished a.pool.now a.count a.methods.now in
    in_words (closed f a.levels a.n c.if-levels-eq0.true).0 c.put_bracketed.ensures.text

pub put_method-returns-then-count-n-clause-text : goal.put_method-returns-then-count-n-clause-text
put_method-returns-then-count-n-clause-text t c = in_words (bare_method c.requires.views c.args.levels c.args.n c.if-levels-eq0.false c.if-count-n.true) c.put_decimal.ensures.text

pub put_method-get-i-requires : goal.put_method-get-i-requires
put_method-get-i-requires t c = let room = (open_at c.requires.views c.args.levels c.args.n c.if-levels-eq0.false c.if-count-n.false).1 in
    omega arith

pub put_method-put_arguments-requires : goal.put_method-put_arguments-requires
put_method-put_arguments-requires t c = (omega (arith, c.decreases), (c.requires.views, (c.put_word.ensures.text.can, (open_at c.requires.views c.args.levels c.args.n c.if-levels-eq0.false c.if-count-n.false).1)))

pub put_method-returns-clause-text : goal.put_method-returns-clause-text
unfolding ascii
put_method-returns-clause-text t c = let a = c.args in
    let show = opened (finished a.pool.now a.count a.methods.now) (a.levels - 1) in
    let handle = ap (λ i. show (slot i) ++ ascii " (" ++ arguments_at show a.methods.now (get_or a.table.now a.n 0) ++ ascii ")") c.get-i.ensures in
    let args = both (both (both c.put_slot.ensures.text c.put_word.ensures.text) c.put_arguments.ensures.text) c.put.ensures.text in
    in_words (handle ∙ (open_at c.requires.views c.args.levels c.args.n c.if-levels-eq0.false c.if-count-n.false).0) args

pub put_slot-returns-then-place-eq0-clause-text : goal.put_slot-returns-then-place-eq0-clause-text
put_slot-returns-then-place-eq0-clause-text t c = in_words (bare_slot c.requires.views c.args.levels c.args.n c.if-levels-eq0.false c.if-place-eq0.true) c.put_decimal.ensures.text

pub put_slot-bounds-pool-place : goal.put_slot-bounds-pool-place
put_slot-bounds-pool-place t c = slot-inside c.requires.views c.args.n (pos_of_ne-zero c.if-place-eq0.false)

pub put_slot-returns-then-tag-eq1-clause-text : goal.put_slot-returns-then-tag-eq1-clause-text
put_slot-returns-then-tag-eq1-clause-text t c = in_words (text_slot c.requires.views c.args.levels c.args.n c.if-levels-eq0.false (pos_of_ne-zero c.if-place-eq0.false) c.if-tag-eq1.true) c.put_held.ensures.text

pub put_slot-put_held-requires-2 : goal.put_slot-put_held-requires-2
put_slot-put_held-requires-2 t c = (omega (arith, c.decreases), (c.requires.views, (c.put.ensures.text.can, pos_of_ne-zero c.if-place-eq0.false)))

pub put_slot-returns-clause-text : goal.put_slot-returns-clause-text
put_slot-returns-clause-text t c = in_words (named-slot c.requires.views c.args.levels c.args.n c.if-levels-eq0.false (pos_of_ne-zero c.if-place-eq0.false) c.if-tag-eq1.false) (both c.put_kind.ensures.text (both c.put.ensures.text c.put_held-2.ensures.text))
