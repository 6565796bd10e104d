-- `rows::add_inline` meets its contract. The stores in turn. Assumes nothing.
use native.Mathlib.Omega.{arith}
use borrow.Author.Rules.{rules}
use Rattle.rows.proofs.add_inline.Goals as goal

pub push_link-requires : goal.push_link-requires
push_link-requires c = let q = c.requires in (search rules, q.1.heads, q.4, omega (arith, c.next_count-i.ensures.0, q.1.links, q.2), omega (arith, c.next_count-i.ensures.0, q.1.few, q.2))
