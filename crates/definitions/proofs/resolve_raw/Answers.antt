-- `definitions::resolve_raw` meets its contract. Assumes nothing.
use Rattle.store.specs.Words.{HALF}
use Rattle.definitions.proofs.Ends.{half_resolved, entry_resolved}
use Rattle.definitions.proofs.Rooms.{room}
use Rattle.store.specs.Regions.{NODE-HEADS}
use Rattle.store.specs.Store.{size, store}
use mathlib.Core.Path.{◌≡◌, sym, ◌∙◌}
use Rattle.refusal.specs.Numbers.{code_of}
use Rattle.definitions.proofs.resolve_raw.Goals as goal

pub returns-then-e-eq-HALF : goal.returns-then-e-eq-HALF
unfolding code_of
returns-then-e-eq-HALF c = let a = c.args in half_resolved (size a.p.now NODE-HEADS) a.job.now (store a.p.now a.w.now) _ c.requires.3 (sym c.raw_entry-e.ensures.word ∙ c.if-e-eq-HALF.true)

pub returns : goal.returns
returns c = let a = c.args in let h = c.requires in let other : c.raw_entry-e.result ≡ HALF → ⊥ = c.if-e-eq-HALF.false in entry_resolved (size a.p.now NODE-HEADS) a.job.now (store a.p.now a.w.now) _ _ (code_of c.resolve.result) (h.6 (λ q. other (c.raw_entry-e.ensures.word ∙ q))) (room a.job.now a.p.now h.1).entries (λ q. other (c.raw_entry-e.ensures.word ∙ q)) (rw c.raw_entry-e.ensures.word at c.resolve.ensures)
