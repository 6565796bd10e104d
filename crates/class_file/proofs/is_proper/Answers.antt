-- `class_file::is_proper` meets its contract: the pool is read to its end, its name slot is right, and the bootstrap methods are read. Assumes nothing.
use native.Mathlib.Omega.{arith}
use mathlib.Core.Bool.{not}
use mathlib.Core.Path.{sym, ap, ◌∙◌}
use mathlib.Core.List.{List}
use Prim.Native.Nat.{ℕ}
use lib.ListN.{replicate}
use borrow.Author.Tests.{not-false}
use Rattle.facts.proofs.Lists.{true≢false}
use Rattle.places.proofs.Rows.{blank_zeros}
use Rattle.class_file.proofs.Proper.{whole_found, whole_needed, held_by, methods_tell}
use Rattle.class_file.proofs.is_proper.Goals as goal
use Rattle.class_file.proofs.is_proper.Goals.{then-ne-via-then-ne, then-ne-via-else-ne+then-parts-gt-MOST_BOOTSTRAPS}

pub returns-then-ne : goal.returns-then-ne
returns-then-ne c =
    let p = c.args.parts.now in
    let needed = whole_needed p.pool.now (replicate 65536 0) c.note_pool.new.places blank_zeros c.note_pool.result p.name p.count p.bootstraps.now c.note_pool.ensures in
    elim c.then-ne.branch [
      | then-ne-via-then-ne w ↦ (λ e. true≢false (sym e), λ right. true≢false (sym w.if-ne.true ∙ c.ne.ensures ∙ ap not (needed right)))
      | then-ne-via-else-ne+then-parts-gt-MOST_BOOTSTRAPS w ↦ (λ e. true≢false (sym e), λ right. absurd (omega (arith, right.short)))
    ]

pub returns-then-is_named : goal.returns-then-is_named
returns-then-is_named c =
    let p = c.args.parts.now in
    let before : List ℕ = replicate 65536 0 in
    let read = not-false _ (sym c.ne.ensures ∙ c.if-ne.false) in
    let whole = whole_found p.pool.now before c.note_pool.new.places blank_zeros c.note_pool.result c.note_pool.ensures read in
    let held = sym (c.is_named.ensures whole.slots whole.noted) ∙ c.if-is_named.true in
    methods_tell p.pool.now p.name p.count p.bootstraps.now whole.slots c.note_pool.new.places c.note_methods.new.places c.note_methods.result whole.read held (omega arith) c.note_methods.ensures

pub returns-else-is_named : goal.returns-else-is_named
returns-else-is_named c =
    let p = c.args.parts.now in
    let before : List ℕ = replicate 65536 0 in
    let read = not-false _ (sym c.ne.ensures ∙ c.if-ne.false) in
    let whole = whole_found p.pool.now before c.note_pool.new.places blank_zeros c.note_pool.result c.note_pool.ensures read in
    let is = c.is_named.ensures whole.slots whole.noted in
    (λ e. true≢false (sym e ∙ c.if-is_named.false), λ right. is ∙ held_by p.pool.now p.name p.count p.bootstraps.now whole.slots whole.read right)
