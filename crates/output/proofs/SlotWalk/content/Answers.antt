-- `output::SlotWalk::content` meets its contract: the slot in turn is the next raw slot, which is passed, or none. Assumes nothing.
use mathlib.Core.Path.{◌≡◌, refl, sym, ap, ◌∙◌}
use Prim.Native.Nat.{suc}
use native.Mathlib.Omega.{arith}
use lib.ListN.{get_or}
use Rattle.std.specs.Prelude.{unwrap_or}
use Rattle.output.specs.Contents.{raw_word_lem, link_word}
use Rattle.store.specs.Regions.{MARKS, GIVEN, ORDER}
use Rattle.store.specs.Store.{store, size}
use Rattle.interner.specs.Nodes.{node_count}
use Rattle.output.proofs.Holding.{owner_name, owner_raw, owner_given, sweep_low, sweep_hit, sweep_miss, sweep_next, sweep_stay}
use Rattle.output.proofs.Owners.{link_above}
use Rattle.output.proofs.Past.{past-same, past-other}
use Rattle.output.proofs.SlotWalk.content.Goals as goal

pub raw_entry-e-requires : goal.raw_entry-e-requires
raw_entry-e-requires c = let a = c.args in let q = c.requires in let t = store a.p.now a.w.now in let l = sweep_low a.p.now t q.2 a.slot a.self.now.raws (unwrap_or a.self.now.held 65536) q.3 (sym (past-same a.self.now.held a.slot (sym c.eq.ensures ∙ c.if-eq.true))) q.6 in (q.0, omega (arith, l, q.2.room), omega (arith, q.2.inside a.self.now.raws l, q.2.entries_room))

pub overflow_add-self : goal.overflow_add-self
unfolding size
overflow_add-self c = let a = c.args in let q = c.requires in let t = store a.p.now a.w.now in let l = sweep_low a.p.now t q.2 a.slot a.self.now.raws (unwrap_or a.self.now.held 65536) q.3 (sym (past-same a.self.now.held a.slot (sym c.eq.ensures ∙ c.if-eq.true))) q.6 in omega (arith, l, q.2.room, (c.type_inv.p (suc ORDER)).fits)

pub returns-then-slot-self : goal.returns-then-slot-self
returns-then-slot-self c = let a = c.args in let q = c.requires in let t = store a.p.now a.w.now in (sym (owner_name t a.slot a.self.now.wide (c.if-slot-self.true ∙ q.4)), sweep_next a.p.now t q.2 a.slot a.self.now.raws (unwrap_or a.self.now.held 65536) q.3 (sym (past-same a.self.now.held a.slot (sym c.eq.ensures ∙ c.if-eq.true))) q.6 (unwrap_or c.held_slot-self.result 65536) c.held_slot-self.ensures, refl, refl)

pub raw_content-requires : goal.raw_content-requires
raw_content-requires c = let a = c.args in let q = c.requires in let t = store a.p.now a.w.now in let l = sweep_low a.p.now t q.2 a.slot a.self.now.raws (unwrap_or a.self.now.held 65536) q.3 (sym (past-same a.self.now.held a.slot (sym c.eq.ensures ∙ c.if-eq.true))) q.6 in (q.0, rw c.raw_entry-e.ensures.word (q.1.raw_done (get_or (t ORDER) a.self.now.raws 0) (q.2.inside a.self.now.raws l)))

pub returns-then-eq : goal.returns-then-eq
returns-then-eq c = let a = c.args in let q = c.requires in let t = store a.p.now a.w.now in let here = sym (past-same a.self.now.held a.slot (sym c.eq.ensures ∙ c.if-eq.true)) in (c.raw_content.ensures ∙ ap (raw_word_lem (t MARKS)) c.raw_entry-e.ensures.word ∙ sym (owner_raw t a.slot a.self.now.wide (λ z. c.if-slot-self.false (z ∙ sym q.4)) (get_or (t ORDER) a.self.now.raws 0) (sweep_hit a.p.now t q.2 a.slot a.self.now.raws (unwrap_or a.self.now.held 65536) q.3 q.1 here q.6)), sweep_next a.p.now t q.2 a.slot a.self.now.raws (unwrap_or a.self.now.held 65536) q.3 here q.6 (unwrap_or c.held_slot-self.result 65536) c.held_slot-self.ensures, refl, refl)

pub returns-then-slot-self-2 : goal.returns-then-slot-self-2
returns-then-slot-self-2 c = let a = c.args in let q = c.requires in let t = store a.p.now a.w.now in (sym (owner_name t a.slot a.self.now.wide (c.if-slot-self-2.true ∙ q.4)), sweep_stay a.p.now t q.2 a.slot a.self.now.raws (unwrap_or a.self.now.held 65536) q.3 (λ z. past-other a.self.now.held a.slot q.6 (sym c.eq.ensures ∙ c.if-eq.false) (sym z)) q.6, refl, refl)

pub returns-then-self-slot : goal.returns-then-self-slot
returns-then-self-slot c = let a = c.args in let q = c.requires in let t = store a.p.now a.w.now in let past : a.slot ≡ unwrap_or a.self.now.held 65536 → ⊥ = λ z. past-other a.self.now.held a.slot q.6 (sym c.eq.ensures ∙ c.if-eq.false) (sym z) in let miss = sweep_miss a.p.now t q.2 a.slot a.self.now.raws (unwrap_or a.self.now.held 65536) q.3 past q.6 in (c.unowned.ensures ∙ ap (link_word a.self.now.wide) (sym (link_above (t GIVEN) (node_count t) a.self.now.last a.slot q.7 c.if-self-slot.true)) ∙ sym (owner_given t a.slot a.self.now.wide (λ z. omega (arith, z, q.4, q.8, c.if-self-slot.true)) miss), sweep_stay a.p.now t q.2 a.slot a.self.now.raws (unwrap_or a.self.now.held 65536) q.3 past q.6, refl, refl)

pub returns : goal.returns
returns c = let a = c.args in let q = c.requires in let t = store a.p.now a.w.now in let past : a.slot ≡ unwrap_or a.self.now.held 65536 → ⊥ = λ z. past-other a.self.now.held a.slot q.6 (sym c.eq.ensures ∙ c.if-eq.false) (sym z) in let miss = sweep_miss a.p.now t q.2 a.slot a.self.now.raws (unwrap_or a.self.now.held 65536) q.3 past q.6 in (c.given_content.ensures ∙ sym (owner_given t a.slot a.self.now.wide (λ z. c.if-slot-self-2.false (z ∙ sym q.4)) miss), sweep_stay a.p.now t q.2 a.slot a.self.now.raws (unwrap_or a.self.now.held 65536) q.3 past q.6, refl, refl)
