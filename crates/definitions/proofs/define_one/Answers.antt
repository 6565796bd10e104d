-- `definitions::define_one` meets its contract. Assumes nothing.
use Rattle.definitions.proofs.Placed.{record_stands, constant_needs, constant_done, bootstrap_needs, bootstrap_done, version_done, texts_done, highest_done}
use Rattle.definitions.proofs.Rooms.{room}
use Rattle.sym_refs.specs.Names.{kind_byte}
use Rattle.store.proofs.Stores.{length-store}
use Rattle.store.specs.Store.{store}
use Rattle.definition.specs.Shapes.{Kind, constant, bootstrap}
use lib.ListN.{get_or}
use native.Mathlib.Omega.{arith}
use mathlib.Core.Logic.{⊎_elim}
use mathlib.Core.Path.{◌≡◌}
use Prim.Native.Nat.{ℕ, ◌<◌}
use Rattle.facts.proofs.Lists.{equal}
use borrow.Author.Rules.{rules}
use borrow.Author.Tests.{eqb-true}
use Rattle.definitions.proofs.define_one.Goals.{in_default-via-then-this-lt64, in_default-via-else-this-lt64+else-this-lt67}
use Rattle.definitions.proofs.define_one.Goals as goal

pub bounds-job-at : goal.bounds-job-at
bounds-job-at c = let a = c.args in record_stands a.p.now a.top a.job.now (store a.p.now a.w.now) a.at c.requires.2

pub constants-requires : goal.constants-requires
constants-requires c = let a = c.args in let m = room a.job.now a.p.now c.requires.1 in (m.laid, m.indexes)

pub add_counted-requires : goal.add_counted-requires
add_counted-requires c = let a = c.args in let h = c.requires in let m = room a.job.now a.p.now h.1 in let e : get_or a.job.now a.at 0 ≡ 0x40 = c.in-64.is in (search rules, h.1, omega arith, omega arith, rw (c.constants.ensures, m.constants) (bootstrap_needs a.p.now a.top a.job.now (store a.p.now a.w.now) a.at h.2 h.1 (λ i. (c.type_inv.job i).fits) (length-store a.p.now a.w.now) (λ q. omega (arith, q, e)) (λ q. omega (arith, q, e)) (λ q. omega (arith, q, e)) (λ q. omega (arith, q, e)) (λ q. omega (arith, q, e)) (λ q. omega (arith, q, e)) (λ q. omega (arith, q, e)) e))

-- the first byte of a name's record tells its kind
name_kind : (b : ℕ) → 64 < b → b < 67 → (kind : Kind) × (b ≡ kind_byte kind)
unfolding kind_byte
name_kind b low high = ⊎_elim (λ (e : b ≡ 0x41). (constant, e)) (λ (e : b ≡ 0x41 → ⊥). (bootstrap, omega arith)) (equal b 0x41)

pub add_sym_def-requires : goal.add_sym_def-requires
add_sym_def-requires c = let a = c.args in let h = c.requires in (search rules, h.1, (a.top, h.2), name_kind (get_or a.job.now a.at 0) (omega arith) (omega arith))

pub add_counted-requires-in_default : goal.add_counted-requires-in_default
add_counted-requires-in_default c = let a = c.args in let h = c.requires in elim c.in_default.branch [
  | in_default-via-then-this-lt64 w ↦ (search rules, h.1, omega arith, omega arith, constant_needs a.p.now a.top a.job.now (store a.p.now a.w.now) a.at h.2 h.1 (λ i. (c.type_inv.job i).fits) (length-store a.p.now a.w.now) (λ q. omega (arith, q)) (λ q. omega (arith, q)) (λ q. omega (arith, q)) (λ q. omega (arith, q)) (λ q. omega (arith, q)) (λ q. omega (arith, q)) (λ q. omega (arith, q)) (λ q. omega (arith, q)))
  | in_default-via-else-this-lt64+else-this-lt67 w ↦ (search rules, h.1, omega arith, omega arith, constant_needs a.p.now a.top a.job.now (store a.p.now a.w.now) a.at h.2 h.1 (λ i. (c.type_inv.job i).fits) (length-store a.p.now a.w.now) (λ q. omega (arith, q)) (λ q. omega (arith, q)) (λ q. omega (arith, q)) (λ q. omega (arith, q)) (λ q. grind (arith, q)) (λ q. omega (arith, q)) (λ q. grind (arith, q)) (λ q. omega (arith, q)))
]

pub returns-in-64 : goal.returns-in-64
returns-in-64 c = let a = c.args in let h = c.requires in let m = room a.job.now a.p.now h.1 in let e : get_or a.job.now a.at 0 ≡ 0x40 = c.in-64.is in bootstrap_done a.p.now a.top a.job.now (store a.p.now a.w.now) a.at h.2 h.1 (λ i. (c.type_inv.job i).fits) (length-store a.p.now a.w.now) (λ q. omega (arith, q, e)) (λ q. omega (arith, q, e)) (λ q. omega (arith, q, e)) (λ q. omega (arith, q, e)) (λ q. omega (arith, q, e)) (λ q. omega (arith, q, e)) (λ q. omega (arith, q, e)) e _ c.add_counted.result (rw (c.constants.ensures, m.constants) at c.add_counted.ensures)

pub returns-in-71 : goal.returns-in-71
returns-in-71 c = let a = c.args in let h = c.requires in ⊎_elim
    (λ (e : get_or a.job.now a.at 0 ≡ 0x47). version_done a.p.now a.top a.job.now (store a.p.now a.w.now) a.at h.2 h.1 (λ i. (c.type_inv.job i).fits) e)
    (λ (e : get_or a.job.now a.at 0 ≡ 0x49). highest_done a.p.now a.top a.job.now (store a.p.now a.w.now) a.at h.2 h.1 (λ i. (c.type_inv.job i).fits) e)
    c.in-71.is

pub returns-in-72 : goal.returns-in-72
returns-in-72 c = let a = c.args in let h = c.requires in texts_done a.p.now a.top a.job.now (store a.p.now a.w.now) a.at h.2 h.1 (λ i. (c.type_inv.job i).fits) c.in-72.is

pub returns-in_default : goal.returns-in_default
returns-in_default c = let a = c.args in let h = c.requires in elim c.in_default.branch [
  | in_default-via-then-this-lt64 w ↦ constant_done a.p.now a.top a.job.now (store a.p.now a.w.now) a.at h.2 h.1 (λ i. (c.type_inv.job i).fits) (length-store a.p.now a.w.now) (λ q. omega (arith, q)) (λ q. omega (arith, q)) (λ q. omega (arith, q)) (λ q. omega (arith, q)) (λ q. omega (arith, q)) (λ q. omega (arith, q)) (λ q. omega (arith, q)) (λ q. omega (arith, q)) _ c.add_counted-in_default.result c.add_counted-in_default.ensures (λ k. absurd (omega (arith, eqb-true _ 0x46 k)))
  | in_default-via-else-this-lt64+else-this-lt67 w ↦ constant_done a.p.now a.top a.job.now (store a.p.now a.w.now) a.at h.2 h.1 (λ i. (c.type_inv.job i).fits) (length-store a.p.now a.w.now) (λ q. omega (arith, q)) (λ q. omega (arith, q)) (λ q. omega (arith, q)) (λ q. omega (arith, q)) (λ q. grind (arith, q)) (λ q. omega (arith, q)) (λ q. grind (arith, q)) (λ q. omega (arith, q)) _ c.add_counted-in_default.result c.add_counted-in_default.ensures (λ k. absurd (omega (arith, eqb-true _ 0x46 k)))
]
