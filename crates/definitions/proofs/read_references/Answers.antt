-- `definitions::read_references` meets its contract. Assumes nothing.
use Rattle.definitions.proofs.Rooms.{room}
use Rattle.definitions.proofs.Turning.{reading_begin, read_end, kid_stands, kid_read, word_small}
use Rattle.definitions.proofs.Reading.{place_short}
use Rattle.store.proofs.Keeping.{kept_put}
use Rattle.store.proofs.Stores.{length-store}
use Rattle.store.specs.Regions.{GOALS}
use Rattle.store.specs.Store.{store}
use native.Mathlib.Omega.{arith}
use mathlib.Core.Path.{◌≡◌, refl, ◌∙◌}
use mathlib.Core.List.{[], ◌∷◌}
use borrow.Author.Rules.{rules}
use Rattle.definitions.proofs.read_references.Goals as goal

pub tag_at-tag-requires : goal.tag_at-tag-requires
tag_at-tag-requires c = let h = c.requires.2 in (h.0, h.1, h.2.stands)

pub first_place-from-requires : goal.first_place-from-requires
first_place-from-requires c = let h = c.requires.2 in omega (arith, place_short c.args.job.now c.args.p.now c.requires.1, h.2.stands.past, h.2.stands.within)

pub loop-i-init : goal.loop-i-init
loop-i-init c = (refl, omega arith, λ k _. refl, reading_begin c.args.job.now (store c.args.p.now c.args.w.now) c.args.at c.args.n c.args.first c.first_place-from.result c.tag_at-tag.result c.tag_at-tag.ensures c.requires.3 c.first_place-from.ensures)

pub reference_word-word-requires : goal.reference_word-word-requires
reference_word-word-requires c = let a = c.args in let h = c.requires.2 in (c.requires.1, kid_stands a.job.now (store a.p.now a.w.now) (store a.p.now c.loop-i.w) a.at a.n a.first c.loop-i.i c.loop-i.from c.tag_at-tag.result c.tag_at-tag.ensures h.0 h.1 h.2 (c.loop-i.invariant.3 h.0 h.1 h.2) c.loop-i-test.true)

pub overflow_add-first : goal.overflow_add-first
overflow_add-first c = let m = room c.args.job.now c.args.p.now c.requires.1 in omega (arith, m.goals, m.references, c.requires.4, c.loop-i-test.true)

pub save-requires : goal.save-requires
save-requires c = let a = c.args in let h = c.requires.2 in (search rules, omega (arith, c.requires.4, c.loop-i-test.true), word_small a.job.now (store a.p.now a.w.now) (store a.p.now c.loop-i.w) a.at a.n a.first c.loop-i.i c.loop-i.from c.tag_at-tag.result c.tag_at-tag.ensures h.0 h.1 h.2 (c.loop-i.invariant.3 h.0 h.1 h.2) c.loop-i-test.true c.reference_word-word.result (rw c.is_dynamic-dynamic.ensures at c.reference_word-word.ensures))

pub place_behind-from-requires : goal.place_behind-from-requires
place_behind-from-requires c = let a = c.args in let h = c.requires.2 in (kid_stands a.job.now (store a.p.now a.w.now) (store a.p.now c.loop-i.w) a.at a.n a.first c.loop-i.i c.loop-i.from c.tag_at-tag.result c.tag_at-tag.ensures h.0 h.1 h.2 (c.loop-i.invariant.3 h.0 h.1 h.2) c.loop-i-test.true, place_short a.job.now a.p.now c.requires.1)

pub loop-i-preserved : goal.loop-i-preserved
loop-i-preserved c = let a = c.args in let l = c.loop-i in (omega (arith, l.invariant.0, c.save.auto), omega arith, rw c.save.ensures (kept_put (GOALS ∷ []) _ _ GOALS _ _ refl l.invariant.2), λ x next h. rw c.save.ensures (kid_read a.job.now (store a.p.now a.w.now) (store a.p.now l.w) a.at a.n a.first l.i l.from c.tag_at-tag.result c.tag_at-tag.ensures x next h (l.invariant.3 x next h) c.loop-i-test.true c.reference_word-word.result c.place_behind-from.result (omega (arith, length-store a.p.now l.w GOALS, c.requires.4, c.loop-i-test.true)) (rw c.is_dynamic-dynamic.ensures at c.reference_word-word.ensures) c.place_behind-from.ensures))

pub returns : goal.returns
returns c = let a = c.args in let l = c.loop-i in let e : l.i ≡ a.n = omega (arith, c.loop-i-test.false, l.invariant.1) in record { all = λ x next h. rw e at (read_end a.job.now (store a.p.now a.w.now) a.first x next (store a.p.now l.w) l.i l.from (e ∙ h.count) (l.invariant.3 x next h)); kept = l.invariant.2 }
