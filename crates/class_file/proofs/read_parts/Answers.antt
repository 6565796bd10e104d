-- `class_file::read_parts` meets its contract: a head, a pool and no members, and then what the attributes tell. Assumes nothing.
use native.Mathlib.Omega.{arith}
use mathlib.Core.Path.{sym, ◌∙◌}
use lib.ListN.{replicate}
use Rattle.facts.proofs.Lists.{true≢false}
use Rattle.places.proofs.Rows.{blank_zeros, pool_table}
use Rattle.class_file.proofs.Proper.{pool_bad, pool_good}
use Rattle.class_file.proofs.Refusing.{no_head, no_pool_there, has_members}
use Rattle.class_file.proofs.read_parts.Goals as goal

pub returns-then-not-has_head : goal.returns-then-not-has_head
returns-then-not-has_head c = let file = c.args.file.now in
    no_head file (λ i. (c.type_inv.file i).fits) (λ head. true≢false (sym (c.has_head.ensures.1 head) ∙ c.if-not-has_head.true))

pub returns-in_err-end : goal.returns-in_err-end
returns-in_err-end c = let file = c.args.file.now in
    rw c.from_residual.ensures
    (no_pool_there file (λ i. (c.type_inv.file i).fits) (pool_bad file 8 (replicate 65536 0) c.note_pool.new.places c.note_pool.ensures c.in_err-end.was))

pub returns-then-not-no_members : goal.returns-then-not-no_members
returns-then-not-no_members c = let file = c.args.file.now in
    let end = c.in_ok-end.end in
    let after = c.note_pool.new.places in
    let told = pool_good file 8 (replicate 65536 0) after c.note_pool.ensures end c.in_ok-end.was in
    has_members file (λ i. (c.type_inv.file i).fits) told.0 end told.1 told.3 (λ none. true≢false (sym (c.no_members.ensures.1 none) ∙ c.if-not-no_members.true))

pub read_attributes-requires : goal.read_attributes-requires
read_attributes-requires c = let file = c.args.file.now in
    let end = c.in_ok-end.end in
    let after = c.note_pool.new.places in
    let told = pool_good file 8 (replicate 65536 0) after c.note_pool.ensures end c.in_ok-end.was in
    record {
      head = c.has_head.ensures.0 c.if-not-has_head.false;
      slots = told.0;
      pool_read = told.1;
      behind = omega (arith, told.2);
      noted = pool_table file 8 (replicate 65536 0) after end blank_zeros told;
      members = c.no_members.ensures.0 c.if-not-no_members.false;
    }
