-- `interner::literal_word` meets its contract: it is one of the words that are kept, or stands in the literal. Assumes nothing.
use native.Mathlib.Omega.{arith}
use mathlib.Core.Path.{sym, ◌∙◌}
use Rattle.store.specs.Store.{store}
use Rattle.store.specs.Regions.{VALUES}
use Rattle.store.proofs.Worked.{words_stand}
use Rattle.interner.proofs.Words.{kept_word, read_room, read_word}
use Rattle.interner.proofs.literal_word.Goals as goal

pub load-requires : goal.load-requires
load-requires c = let a = c.args in let q = c.requires in (q.0, words_stand a.job.now a.at q.2 (sym c.is_worked.ensures ∙ c.if-is_worked.true) a.p.now q.1 a.i q.4)

pub returns-then-is_worked : goal.returns-then-is_worked
returns-then-is_worked c = let a = c.args in let q = c.requires in (kept_word a.job.now a.at a.i q.4 q.5 (store a.p.now a.w.now VALUES) q.3 (sym c.is_worked.ensures ∙ c.if-is_worked.true) c.load.result c.load.ensures.word, c.load.ensures.small)

pub get-requires : goal.get-requires
get-requires c = read_room c.args.job.now c.args.at c.args.i c.requires.4 c.requires.5 c.literal_at-s.result c.literal_at-s.ensures c.requires.2

pub returns : goal.returns
returns c = let a = c.args in let q = c.requires in let lit = c.literal_at-s in (read_word a.job.now a.at a.i q.4 q.5 lit.result lit.ensures (λ i. (c.type_inv.job i).fits) c.get.result c.get.ensures, omega arith)
