-- `poolrun_text::put_file` meets its contract. Assumes nothing.
use native.Mathlib.Omega.{arith}
use Rattle.refusal.specs.Numbers.{number}
use Rattle.poolrun_text.proofs.Putting.{reprinted}
use Rattle.poolrun_text.proofs.Reading.{long_text}
use Rattle.poolrun_text.proofs.put_file.Goals as goal

pub returns-then-file-gt-LONGEST_FILE : goal.returns-then-file-gt-LONGEST_FILE
unfolding number
returns-then-file-gt-LONGEST_FILE c = reprinted (long_text c.args.file.now (omega arith)) c.put_refusal.ensures
