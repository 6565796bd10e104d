-- READS: a built job's pool and bootstraps read, under the JVM Specification, as exactly what the layout assigns. Assumes nothing.
use mathlib.Core.Path.{sym, ◌∙◌}
use Rattle.definition.specs.Numbering.{literals}
use Rattle.definition.specs.Run.{render}
use Rattle.laws.specs.Statements.{Reads}
use Rattle.laws.proofs.Numbering.RunsLaidOut.{run-laid}
use Rattle.laws.proofs.Reading.ReadersAgree.{readers_agree}
use Rattle.laws.proofs.Reading.BuiltPoolReadBack.{read_back}
use Rattle.laws.proofs.Reading.BuiltBytes.{built_bytes}

pub reads : Reads
reads bytes job lent b are formed ran =
    let (l, laid, is) = run-laid bytes job lent b formed ran in
    let (pool, rows) = read_back bytes job l are formed laid in
    let (poolBytes, row_bytes) = built_bytes bytes job l are formed laid in
    let made = render (literals job) l in
    (l, laid, sym is, rw is at (sym (readers_agree.0 made.pool poolBytes) ∙ pool), rw is at (sym (readers_agree.1 made.bootstrap_count made.bootstraps row_bytes) ∙ rows))
