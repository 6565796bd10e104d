-- `sym_refs::add_name` meets its contract. Assumes nothing.
use native.Mathlib.Omega.{arith}
use mathlib.Core.Path.{refl, sym, ◌∙◌}
use Rattle.refusal.specs.Numbers.{number, code_of}
use Rattle.store.specs.Regions.{COUNTS, NAME-HEADS, NAME-LINKS, NAME-PLACES}
use Rattle.store.specs.JobIn.{namings_in}
use Rattle.store.specs.Store.{store}
use Rattle.store.proofs.Stores.{length-store}
use Rattle.sym_refs.specs.Names.{name_count}
use Rattle.store.specs.Chains.{link_of}
use Rattle.facts.proofs.Lists.{found_inside}
use Rattle.sym_refs.proofs.Rooms.{room}
use Rattle.sym_refs.proofs.Comparing.{naming_room}
use Rattle.sym_refs.proofs.Adding.{found_link, missing_link, sought_naming, hash_naming, naming_name, the_naming, tried_old, tried_new}
use borrow.Author.Rules.{rules}
use Rattle.sym_refs.proofs.add_name.Goals as goal

pub bounds-job-at : goal.bounds-job-at
bounds-job-at c = let a = c.args in let x = c.requires.3 in omega (arith, naming_room a.job.now a.at (x.0, x.2))

pub hash_name-hash-requires : goal.hash_name-hash-requires
hash_name-hash-requires c = let a = c.args in let x = c.requires.3 in naming_name a.job.now a.at x.0 x.2

pub find_name-requires : goal.find_name-requires
find_name-requires c = let a = c.args in let x = c.requires.3 in (c.requires.0, c.requires.1, c.requires.2, naming_name a.job.now a.at x.0 x.2, c.hash_name-hash.ensures.0, c.hash_name-hash.ensures.1)

pub returns-then-is_some : goal.returns-then-is_some
unfolding code_of number
returns-then-is_some c = let a = c.args in let s = a.job.now in let t = store a.p.now a.w.now in
    λ x e.
    tried_old a.p.now s t x a.at c.requires.2 e (link_of c.find_name.result)
    (sought_naming s a.at x (the_naming s (name_count t) a.at c.requires.3 x e) _ refl (name_count t) (link_of c.find_name.result) c.find_name.ensures)
    (found_link c.find_name.result (sym c.is_some.ensures ∙ c.if-is_some.true))

pub next_count-i-requires : goal.next_count-i-requires
next_count-i-requires c = let a = c.args in let s = a.job.now in let m = room s a.p.now c.requires.1 in (c.requires.0, omega (arith, m.counts), omega (arith, c.requires.2.few, m.names))

pub save-requires : goal.save-requires
save-requires c = let a = c.args in let s = a.job.now in let m = room s a.p.now c.requires.1 in let x = c.requires.3 in
    (search rules, omega (arith, m.places, c.next_count-i.ensures.0, found_inside (namings_in s) (name_count (store a.p.now a.w.now)) x.0 x.1), omega (arith, m.bytes, naming_room s a.at (x.0, x.2)))

pub push_link-requires : goal.push_link-requires
push_link-requires c = let a = c.args in let s = a.job.now in let m = room s a.p.now c.requires.1 in let x = c.requires.3 in
    let l = found_inside (namings_in s) (name_count (store a.p.now a.w.now)) x.0 x.1 in
    (search rules, m.heads, c.hash_name-hash.ensures.1, omega (arith, m.links, c.next_count-i.ensures.0), omega (arith, m.names, c.next_count-i.ensures.0))

pub returns : goal.returns
unfolding code_of
returns c = let a = c.args in let s = a.job.now in let p = a.p.now in let w = a.w.now in let t = store p w in let m = room s p c.requires.1 in
    λ x e.
    let stands = the_naming s (name_count t) a.at c.requires.3 x e in
    let l = found_inside (namings_in s) (name_count t) x e in
    rw (c.push_link.ensures, c.save.ensures, c.next_count-i.ensures.1, c.next_count-i.ensures.0)
    (tried_new p s t x a.at c.requires.2 e c.hash_name-hash.result stands
    (hash_naming s a.at x stands _ refl c.hash_name-hash.result c.hash_name-hash.ensures.0)
    m.heads.two
    (length-store p w NAME-HEADS)
    (omega (arith, m.links, length-store p w NAME-LINKS))
    (omega (arith, m.places, length-store p w NAME-PLACES))
    (omega (arith, m.counts, length-store p w COUNTS))
    (link_of c.find_name.result)
    (sought_naming s a.at x stands _ refl (name_count t) (link_of c.find_name.result) c.find_name.ensures)
    (missing_link c.find_name.result (sym c.is_some.ensures ∙ c.if-is_some.false)))
