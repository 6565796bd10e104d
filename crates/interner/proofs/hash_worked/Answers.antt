-- `interner::hash_worked` meets its contract: its words are what `hash_bytes` would mix. Assumes nothing.
use native.Mathlib.Omega.{arith}
use mathlib.Core.Path.{sym, ◌∙◌}
use Rattle.store.specs.Store.{store}
use Rattle.store.specs.Regions.{VALUES}
use Rattle.store.proofs.Worked.{words_stand}
use Rattle.interner.proofs.Words.{hash_two, hash_one}
use Rattle.interner.proofs.hash_worked.Goals as goal

pub load-first-requires : goal.load-first-requires
load-first-requires c = let q = c.requires in (q.0, omega (arith, words_stand c.args.job.now c.args.at c.requires.2 c.requires.4 c.args.p.now c.requires.1 1 (omega arith)))

pub load-requires : goal.load-requires
load-requires c = (c.requires.0, words_stand c.args.job.now c.args.at c.requires.2 c.requires.4 c.args.p.now c.requires.1 1 (omega arith))

pub returns-then-is_long : goal.returns-then-is_long
returns-then-is_long c = let a = c.args in let q = c.requires in let tag = c.tag_at-tag in let first = c.load-first in let second = c.load in (hash_two a.job.now a.at tag.result tag.ensures q.4 (store a.p.now a.w.now VALUES) q.3 first.result first.ensures.word first.ensures.small (sym c.is_long.ensures ∙ c.if-is_long.true) second.result second.ensures.word second.ensures.small c.mix-then-is_long.result (c.mix-then-is_long.ensures.0 ∙ rw (c.mix-hash.ensures.0, c.mix.ensures.0)), c.mix-then-is_long.ensures.1)

pub returns : goal.returns
returns c = let a = c.args in let q = c.requires in let tag = c.tag_at-tag in let first = c.load-first in (hash_one a.job.now a.at tag.result tag.ensures q.4 (store a.p.now a.w.now VALUES) q.3 first.result first.ensures.word first.ensures.small (sym c.is_long.ensures ∙ c.if-is_long.false) c.mix-3.result (c.mix-3.ensures.0 ∙ rw c.mix-2.ensures.0), c.mix-3.ensures.1)
