-- `interner::intern` meets its contract: an old node that is the same, or one more behind the others. Assumes nothing.
use Rattle.interner.proofs.Adding.{found_low, interned_found, interned_made}
use Rattle.interner.proofs.Reading.{places, node_heads, counter_there}
use native.Mathlib.Omega.{arith}
use borrow.Author.Rules.{rules}
use Rattle.interner.proofs.intern.Goals as goal

pub keep_lower-requires : goal.keep_lower-requires
keep_lower-requires c = let a = c.args in let q = c.requires in (search rules, (places a.job.now a.p.now q.1 _ (found_low a.job.now a.p.now a.w.now a.e q.1 q.3 c.in-Some.k c.in-Some.ensures)).nodes, omega (arith, (places a.job.now a.p.now q.1 a.e q.4).small))

pub returns-in-Some : goal.returns-in-Some
returns-in-Some c = let a = c.args in let q = c.requires in interned_found a.job.now a.p.now a.w.now a.e q.1 q.3 c.in-Some.k c.in-Some.ensures q.2 q.4 _ c.keep_lower.ensures

pub next_count-k-requires : goal.next_count-k-requires
next_count-k-requires c = let a = c.args in let q = c.requires in (search rules, counter_there a.job.now a.p.now q.1, (places a.job.now a.p.now q.1 _ q.5).small)

pub save-requires : goal.save-requires
save-requires c = let a = c.args in let q = c.requires in (search rules, rw c.next_count-k.ensures.0 (places a.job.now a.p.now q.1 _ q.5).nodes, omega (arith, (places a.job.now a.p.now q.1 a.e q.4).small))

pub push_link-requires : goal.push_link-requires
push_link-requires c = let a = c.args in let q = c.requires in (search rules, node_heads a.job.now a.p.now q.1, c.hash_entry-hash.ensures.1, rw c.next_count-k.ensures.0 (places a.job.now a.p.now q.1 _ q.5).links, rw c.next_count-k.ensures.0 (places a.job.now a.p.now q.1 _ q.5).small)

pub returns : goal.returns
returns c = let a = c.args in let q = c.requires in rw (c.push_link.ensures, c.save.ensures, c.next_count-k.ensures.1) (interned_made a.job.now a.p.now a.w.now a.e q.1 q.3 c.in_default.ensures q.4 q.5 c.hash_entry-hash.result c.next_count-k.result c.hash_entry-hash.ensures.0 c.next_count-k.ensures.0)
