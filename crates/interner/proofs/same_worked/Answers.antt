-- `interner::same_worked` meets its contract: literals as long as each other are the same if their words are. Assumes nothing.
use borrow.Author.Tests.{eq-eqb}
use native.Mathlib.Omega.{arith}
use Rattle.interner.proofs.Words.{four-least, eight_is, sizes_differ, firsts_differ, one_same, two-same}
use Rattle.interner.proofs.same_worked.Goals as goal

pub returns-then-literal_size-n : goal.returns-then-literal_size-n
returns-then-literal_size-n c = sizes_differ c.args.job.now c.args.at c.args.other c.literal_size.result c.literal_size-n.result c.literal_size-n.ensures c.literal_size.ensures c.if-literal_size-n.true

pub literal_word-requires : goal.literal_word-requires
literal_word-requires c = (c.requires.0, c.requires.1, c.requires.2, c.requires.4, omega arith, λ x next f. omega (arith, c.literal_size-n.ensures x next f, four-least c.args.job.now c.args.at c.literal_size-n.result c.literal_size-n.ensures c.requires.2 c.requires.6))

pub literal_word-requires-2 : goal.literal_word-requires-2
literal_word-requires-2 c = (c.requires.0, c.requires.1, c.requires.3, c.requires.5, omega arith, λ x next f. omega (arith, c.literal_size.ensures x next f, c.if-literal_size-n.false, four-least c.args.job.now c.args.at c.literal_size-n.result c.literal_size-n.ensures c.requires.2 c.requires.6))

pub returns-then-literal_word : goal.returns-then-literal_word
returns-then-literal_word c = firsts_differ c.args.job.now c.args.at c.args.other c.literal_size.result c.literal_size-n.result c.literal_size-n.ensures c.literal_size.ensures c.literal_word.result c.literal_word-2.result c.literal_word.ensures.0 c.literal_word-2.ensures.0 c.literal_word.ensures.1 c.literal_word-2.ensures.1 c.if-literal_word.true

pub returns-then-n-eq4 : goal.returns-then-n-eq4
returns-then-n-eq4 c = rw (eq-eqb c.literal_size-n.result 4 c.if-n-eq4.true) (one_same c.args.job.now c.args.at c.args.other c.literal_size.result c.literal_size-n.result c.literal_size-n.ensures c.literal_size.ensures c.literal_word.result c.literal_word-2.result c.literal_word.ensures.0 c.literal_word-2.ensures.0 c.literal_word.ensures.1 c.literal_word-2.ensures.1 c.if-literal_size-n.false c.if-literal_word.false c.if-n-eq4.true)

pub literal_word-requires-else-n-eq4 : goal.literal_word-requires-else-n-eq4
literal_word-requires-else-n-eq4 c = (c.requires.0, c.requires.1, c.requires.2, c.requires.4, omega arith, λ x next f. omega (arith, c.literal_size-n.ensures x next f, eight_is c.args.job.now c.args.at c.literal_size-n.result c.literal_size-n.ensures c.requires.2 c.requires.6 c.if-n-eq4.false))

pub literal_word-requires-else-n-eq4-2 : goal.literal_word-requires-else-n-eq4-2
literal_word-requires-else-n-eq4-2 c = (c.requires.0, c.requires.1, c.requires.3, c.requires.5, omega arith, λ x next f. omega (arith, c.literal_size.ensures x next f, c.if-literal_size-n.false, eight_is c.args.job.now c.args.at c.literal_size-n.result c.literal_size-n.ensures c.requires.2 c.requires.6 c.if-n-eq4.false))

pub returns-else-n-eq4 : goal.returns-else-n-eq4
returns-else-n-eq4 c = let third = c.literal_word-else-n-eq4 in let fourth = c.literal_word-else-n-eq4-2 in two-same c.args.job.now c.args.at c.args.other c.literal_size.result c.literal_size-n.result c.literal_size-n.ensures c.literal_size.ensures c.literal_word.result c.literal_word-2.result c.literal_word.ensures.0 c.literal_word-2.ensures.0 c.literal_word.ensures.1 c.literal_word-2.ensures.1 c.if-literal_size-n.false c.if-literal_word.false (eight_is c.args.job.now c.args.at c.literal_size-n.result c.literal_size-n.ensures c.requires.2 c.requires.6 c.if-n-eq4.false) third.result fourth.result third.ensures.0 fourth.ensures.0 third.ensures.1 fourth.ensures.1
