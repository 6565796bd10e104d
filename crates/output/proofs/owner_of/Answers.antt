-- `output::owner_of` meets its contract. Assumes nothing.
use mathlib.Core.Path.{sym, ap, ◌∙◌}
use native.Mathlib.Omega.{arith}
use Rattle.store.specs.Regions.{MARKS, RAW-KEYS}
use Rattle.store.specs.Store.{store}
use Rattle.raws.specs.Raws.{raw_count}
use Rattle.output.specs.Contents.{raw_word_lem}
use Rattle.output.proofs.Holding.{owner_name, owner_raw, owner_given}
use Rattle.output.proofs.Owners.{link_none, link_item}
use Rattle.output.proofs.owner_of.Goals as goal

pub load-requires : goal.load-requires
load-requires c = (c.requires.0, c.requires.1.named)

pub returns-then-slot-load : goal.returns-then-slot-load
returns-then-slot-load c = let a = c.args in sym (owner_name (store a.p.now a.w.now) a.slot a.wide (c.if-slot-load.true ∙ c.load.ensures.word))

pub find_number-requires : goal.find_number-requires
find_number-requires c = let a = c.args in let q = c.requires in (q.0, q.1.raw_heads, q.3, (raw_count (store a.p.now a.w.now), q.1.raws))

pub load-requires-in-Some : goal.load-requires-in-Some
load-requires-in-Some c = let a = c.args in let q = c.requires in let t = store a.p.now a.w.now in let f = c.in-Some.ensures (raw_count t) q.1.raws in (q.0, omega (arith, f.low, q.1.raws.1, q.1.raw_room))

pub raw_content-requires : goal.raw_content-requires
raw_content-requires c = let a = c.args in let q = c.requires in let t = store a.p.now a.w.now in let f = c.in-Some.ensures (raw_count t) q.1.raws in (q.0, rw c.load-in-Some.ensures.word (q.1.raw_done c.in-Some.i (omega (arith, f.low))))

pub returns-in-Some : goal.returns-in-Some
returns-in-Some c = let a = c.args in let q = c.requires in let t = store a.p.now a.w.now in c.raw_content.ensures ∙ ap (raw_word_lem (t MARKS)) c.load-in-Some.ensures.word ∙ sym (owner_raw t a.slot a.wide (λ z. c.if-slot-load.false (z ∙ sym c.load.ensures.word)) c.in-Some.i (link_item (t RAW-KEYS) (raw_count t) a.slot c.in-Some.i (c.in-Some.ensures (raw_count t) q.1.raws) (λ i j h l e g. q.1.raw_alone i j h l (e ∙ sym g))))

pub returns-in-None : goal.returns-in-None
returns-in-None c = let a = c.args in let q = c.requires in let t = store a.p.now a.w.now in c.given_content.ensures ∙ sym (owner_given t a.slot a.wide (λ z. c.if-slot-load.false (z ∙ sym c.load.ensures.word)) (link_none (t RAW-KEYS) (raw_count t) a.slot 0 (c.in-None.ensures (raw_count t) q.1.raws) (omega arith)))
