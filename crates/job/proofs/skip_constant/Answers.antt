-- `job::skip_constant` meets its contract. Assumes nothing.
use mathlib.Core.List.{[], ◌∷◌}
use Rattle.definition.specs.Form.{count_of}
use Rattle.definition.specs.Shapes.{constant, bootstrap, text, bits, byte, to}
use Rattle.job.specs.Forms.{entry_body}
use Rattle.job.proofs.Records.{entry_to, unknown_cut}
use Rattle.job.proofs.Entries.{bits-to, one-to}
use Rattle.job.proofs.skip_constant.Goals as goal

pub returns-in-Text : goal.returns-in-Text
unfolding entry_body
returns-in-Text c = let a = c.args in
    λ n e f. rw (c.in_ok-shape.was, c.in-Text.is) (entry_to n a.job.now a.at (text ∷ []) c.skip_text.result (c.skip_text.ensures n))

pub returns-in-Bits : goal.returns-in-Bits
unfolding entry_body
returns-in-Bits c = let a = c.args in
    λ n e f. rw (c.in_ok-shape.was, c.in-Bits.is) (entry_to n a.job.now a.at (bits c.in-Bits.n ∷ []) c.skip_bytes.result (bits-to n a.job.now a.at c.in-Bits.n c.skip_bytes.result c.skip_bytes.ensures))

pub returns-in-One : goal.returns-in-One
unfolding entry_body count_of
returns-in-One c = let a = c.args in
    λ n e f. rw (c.in_ok-shape.was, c.in-One.is) (entry_to n a.job.now a.at (to constant ∷ []) c.skip_reference.result (one-to n a.job.now a.at constant c.skip_reference.result (c.skip_reference.ensures constant n e)))

pub returns-in-Two : goal.returns-in-Two
unfolding entry_body count_of
returns-in-Two c = let a = c.args in
    λ n e f. rw (c.in_ok-shape.was, c.in-Two.is) (entry_to n a.job.now a.at (to constant ∷ to constant ∷ []) c.skip_pair.result (c.skip_pair.ensures constant constant n e e))

pub returns-in-KindOne : goal.returns-in-KindOne
unfolding entry_body
returns-in-KindOne c = let a = c.args in
    λ n e f. rw (c.in_ok-shape.was, c.in-KindOne.is) (entry_to n a.job.now a.at (byte ∷ to constant ∷ []) c.skip_handle.result (c.skip_handle.ensures n e))

pub returns-in-Dynamic : goal.returns-in-Dynamic
unfolding entry_body count_of
returns-in-Dynamic c = let a = c.args in
    λ n e f. rw (c.in_ok-shape.was, c.in-Dynamic.is) (entry_to n a.job.now a.at (to bootstrap ∷ to constant ∷ []) c.skip_pair-in-Dynamic.result (c.skip_pair-in-Dynamic.ensures bootstrap constant n f e))

pub returns-in_err-shape : goal.returns-in_err-shape
unfolding entry_body
returns-in_err-shape c n e f = rw (c.from_residual.ensures, c.in_err-shape.was) (unknown_cut n c.args.job.now c.args.at)
