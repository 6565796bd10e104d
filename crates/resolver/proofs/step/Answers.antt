-- `resolver::step` meets its contract: by the word on top. Assumes nothing.
use Rattle.resolver.proofs.Stepping.{places, few_of, top-inside, raw_steps, refused_goal, refused_steps, entered_low, enter_room, enter_word, entered_steps, left-low, left-ready, left-steps}
use Rattle.resolver.proofs.step.Goals as goal

pub load-item-requires : goal.load-item-requires
load-item-requires c = let q = c.requires in (q.0, top-inside _ _ _ _ _ q.1 q.3)

pub returns-then-item-lt-ENTRY : goal.returns-then-item-lt-ENTRY
returns-then-item-lt-ENTRY c = let q = c.requires in raw_steps _ _ _ _ (few_of _ _ q.1) q.2 q.3 _ c.load-item.ensures.word c.if-item-lt-ENTRY.true

pub enter-requires : goal.enter-requires
enter-requires c = let q = c.requires in let f = few_of _ _ q.1 in let x = c.load-item.ensures.word in let l = c.if-item-lt-ENTRY.false in let g = c.if-item-lt-LEAVE.true in (q.0, places _ _ _ _ q.1 q.2 (entered_low _ _ _ _ f q.2 q.3 _ x l g), enter_room _ _ _ _ f q.2 q.3 _ x l g _ q.1, enter_word _ _ _ _ f q.2 q.3 _ x l g)

pub returns-then-item-lt-LEAVE : goal.returns-then-item-lt-LEAVE
returns-then-item-lt-LEAVE c = let q = c.requires in entered_steps _ _ _ _ (few_of _ _ q.1) q.2 q.3 _ c.load-item.ensures.word c.if-item-lt-ENTRY.false c.if-item-lt-LEAVE.true _ _ c.enter.ensures

pub refusal_of-requires : goal.refusal_of-requires
refusal_of-requires c = let q = c.requires in refused_goal _ _ _ _ (few_of _ _ q.1) q.2 q.3 _ c.load-item.ensures.word c.if-item-ge-REFUSED.true

pub returns-then-item-ge-REFUSED : goal.returns-then-item-ge-REFUSED
returns-then-item-ge-REFUSED c = let q = c.requires in refused_steps _ _ _ _ (few_of _ _ q.1) q.2 q.3 _ c.load-item.ensures.word c.if-item-ge-REFUSED.true _ c.refusal_of.ensures

pub leave-requires : goal.leave-requires
leave-requires c = let q = c.requires in let f = few_of _ _ q.1 in let x = c.load-item.ensures.word in let l = c.if-item-lt-LEAVE.false in let g = c.if-item-ge-REFUSED.false in (q.0, q.1, q.2, q.3.hold, left-ready _ _ _ _ f q.2 q.3 _ x l g, left-low _ _ _ _ f q.2 q.3 _ x l g)

pub returns : goal.returns
returns c = let q = c.requires in left-steps _ _ _ _ (few_of _ _ q.1) q.2 q.3 _ c.load-item.ensures.word c.if-item-lt-LEAVE.false c.if-item-ge-REFUSED.false _ c.leave.ensures
