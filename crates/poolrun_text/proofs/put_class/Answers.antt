-- `poolrun_text::put_class` meets its contract. By cases on the size. Assumes nothing.
use mathlib.Core.Path.{sym, ap}
use native.Mathlib.Omega.{arith}
use lib.Seq.{length-take-le}
use Rattle.cpool.specs.Ran.{bytes_of}
use Rattle.definition.specs.Blocks.{class_text}
use Rattle.poolrun_text.specs.Text.{name_of}
use Rattle.poolrun_text.proofs.Putting.{reprinted}
use Rattle.poolrun_text.proofs.put_class.Goals as goal

pub slice_bounds-put_named-end : goal.slice_bounds-put_named-end
unfolding bytes_of
slice_bounds-put_named-end c = sym (length-take-le c.in-Some.n c.args.name.now (omega (arith, ap bytes_of c.in-Some.is, c.requires.0)))

pub put_named-requires : goal.put_named-requires
unfolding bytes_of
put_named-requires c = let size = ap bytes_of c.in-Some.is in
    omega (arith, size, c.requires.1, length-take-le c.in-Some.n c.args.name.now (omega (arith, size, c.requires.0)))

pub returns-in-None-clause-text : goal.returns-in-None-clause-text
unfolding name_of
returns-in-None-clause-text c = reprinted (ap (λ s. class_text (name_of s c.args.name.now)) (sym c.in-None.is)) c.put_unnamed.ensures.text

pub returns-in-Some-clause-upper_bound : goal.returns-in-Some-clause-upper_bound
unfolding bytes_of
returns-in-Some-clause-upper_bound c = let size = ap bytes_of c.in-Some.is in
    omega (arith, size, c.put_named.ensures.upper_bound, length-take-le c.in-Some.n c.args.name.now (omega (arith, size, c.requires.0)))

pub returns-in-Some-clause-text : goal.returns-in-Some-clause-text
unfolding name_of
returns-in-Some-clause-text c = reprinted (ap (λ s. class_text (name_of s c.args.name.now)) (sym c.in-Some.is)) c.put_named.ensures.text
