-- `definitions::end_definitions` meets its contract. Assumes nothing.
use Rattle.definitions.proofs.Ends.{still_names, still_words, still_raws, still_count, end-table, end-rests, end-can, end-done}
use Rattle.definitions.proofs.Rooms.{room}
use Rattle.store.proofs.Stores.{length-store}
use Rattle.store.specs.Store.{store}
use Rattle.refusal.specs.Numbers.{code_of}
use borrow.Author.Rules.{rules}
use Rattle.definitions.proofs.end_definitions.Goals as goal

pub link_references-requires : goal.link_references-requires
link_references-requires c = let a = c.args in let h = c.requires in let f = c.resolve_names.ensures in (search rules, h.1, still_names a.p.now h.2.0 a.job.now (store a.p.now a.w.now) h.2.1 h.2.2 _ f, f.goals, still_words a.p.now h.2.0 a.job.now (store a.p.now a.w.now) h.2.1 h.2.2 _ f)

pub sort_raws-requires : goal.sort_raws-requires
sort_raws-requires c = let a = c.args in let h = c.requires in let f = c.resolve_names.ensures in let l = c.link_references.ensures in (search rules, (room a.job.now a.p.now h.1).raws, still_raws a.p.now h.2.0 a.job.now (store a.p.now a.w.now) h.2.1 h.2.2 _ f _ l, still_count a.p.now h.2.0 a.job.now (store a.p.now a.w.now) h.2.1 h.2.2 _ f _ l)

pub resolve_raws-requires : goal.resolve_raws-requires
resolve_raws-requires c = let a = c.args in let h = c.requires in let t = store a.p.now a.w.now in let f = c.resolve_names.ensures in let l = c.link_references.ensures in let o = c.sort_raws.ensures in (search rules, h.1, end-table a.p.now h.2.0 a.job.now t h.2.1 h.2.2 _ f _ l _ o, end-rests a.p.now h.2.0 a.job.now t h.2.1 h.2.2 _ f _ l _ o h.1 (λ i. (c.type_inv.job i).fits) h.3 (length-store a.p.now a.w.now) (length-store a.p.now c.sort_raws.new.w), end-can a.p.now h.2.0 a.job.now t h.2.1 h.2.2 _ f _ l _ o h.1 (λ i. (c.type_inv.job i).fits) h.3 (length-store a.p.now a.w.now) (length-store a.p.now c.sort_raws.new.w))

pub returns : goal.returns
returns c = let a = c.args in let h = c.requires in let t = store a.p.now a.w.now in let f = c.resolve_names.ensures in let l = c.link_references.ensures in let o = c.sort_raws.ensures in λ top d all. end-done a.p.now top a.job.now t d all _ f _ l _ o h.1 (λ i. (c.type_inv.job i).fits) h.3 (length-store a.p.now a.w.now) (length-store a.p.now c.sort_raws.new.w) _ (code_of c.resolve_raws.result) c.resolve_raws.ensures
