-- `cpool::tell` meets its contract. By cases on the outcome. Assumes nothing.
use mathlib.Core.Path.{ap, ◌∙◌}
use mir.Val.{bool_byte}
use Rattle.cpool.proofs.Telling.{given_some, bytes_or, listed-built, listed-refused}
use Rattle.cpool.proofs.tell.Goals as goal

pub returns-in-Ok : goal.returns-in-Ok
returns-in-Ok c = let l = c.in-Ok.b.class_name in listed-built c.args.outcome c.in-Ok.b _ _ c.in-Ok.is (c.from-given.ensures ∙ ap bool_byte c.is_some.ensures ∙ given_some l) (c.unwrap_or-bytes.ensures ∙ bytes_or l)

pub returns-in-Err : goal.returns-in-Err
returns-in-Err c = listed-refused c.args.outcome c.in-Err.r _ c.in-Err.is c.from.ensures
