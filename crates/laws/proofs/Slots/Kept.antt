-- KEPT: raw-held, given-out and free slots are always all slots, each once. Assumes nothing.
use mathlib.Core.Path.{sym, ◌∙◌}
use native.Mathlib.Omega.{arith}
use Rattle.facts.proofs.Chunks.{length_from}
use Rattle.facts.proofs.Sums.{run, total_one, once, times_only, total_times, times_run}
use Rattle.laws.specs.Statements.{all_slots, Kept}
use Rattle.laws.proofs.Slots.PoolsThatOccur.{sound}

pub kept : Kept
kept top held nodes p o =
    let counted = (sound o).counted in (
      sym (total_one (all_slots held nodes p)) ∙ counted (λ x. 1) ∙ total_one (run 1 top) ∙ length_from (λ s. s) 1 top,
      λ s h k.
          sym (times_only s (all_slots held nodes p))
          ∙ sym (total_times s (all_slots held nodes p))
          ∙ counted (once s)
          ∙ total_times s (run 1 top)
          ∙ times_run s 1 top h (omega arith),
    )
