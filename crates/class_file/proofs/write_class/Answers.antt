-- `class_file::write_class` meets its contract: refused parts, too little room, or the file. Assumes nothing.
use native.Mathlib.Omega.{arith}
use mathlib.Core.Path.{sym, ◌∙◌}
use Prim.Native.Nat.{◌+◌}
use lib.ListN.{length}
use borrow.Author.Tests.{leb-true, leb-false}
use Rattle.facts.proofs.Lists.{true≢false}
use Rattle.class_file.specs.Answers.{frame_size, Right}
use Rattle.class_file.proofs.Answering.{proper-size, refused_27, refused_18, was_written}
use Rattle.class_file.proofs.write_class.Goals as goal

pub returns-then-not-is_proper : goal.returns-then-not-is_proper
returns-then-not-is_proper c =
    let p = c.args.parts.now in
    let wrong : Right p.pool.now p.name p.count p.bootstraps.now → ⊥ = λ right. true≢false (sym (c.is_proper.ensures.1 right) ∙ c.if-not-is_proper.true) in
    let told = refused_27 p.minor p.major p.pool.now p.access_flags p.this_class p.super_class p.name p.count p.bootstraps.now c.args.out.now wrong in
    record { value = told.0; out_after = told.1 }

pub returns-then-not-has_room : goal.returns-then-not-has_room
returns-then-not-has_room c =
    let p = c.args.parts.now in
    let right = c.is_proper.ensures.0 c.if-not-is_proper.false in
    let short = leb-false (frame_size p.name + length p.pool.now + length p.bootstraps.now) (length c.args.out.now) (sym c.has_room.ensures ∙ c.if-not-has_room.true) in
    let told = refused_18 p.minor p.major p.pool.now p.access_flags p.this_class p.super_class p.name p.count p.bootstraps.now c.args.out.now right short in
    record { value = told.0; out_after = told.1 }

pub write_file-requires : goal.write_file-requires
write_file-requires c =
    let p = c.args.parts.now in
    let right = c.is_proper.ensures.0 c.if-not-is_proper.false in
    let room = leb-true (frame_size p.name + length p.pool.now + length p.bootstraps.now) (length c.args.out.now) (sym c.has_room.ensures ∙ c.if-not-has_room.false) in
    let size = proper-size p.minor p.major p.pool.now p.access_flags p.this_class p.super_class p.name p.count p.bootstraps.now right in
    record { bootstraps_len_bound = right.short; bootstraps_in_bounds = omega arith }

pub returns : goal.returns
returns c =
    let p = c.args.parts.now in
    let right = c.is_proper.ensures.0 c.if-not-is_proper.false in
    let room = leb-true (frame_size p.name + length p.pool.now + length p.bootstraps.now) (length c.args.out.now) (sym c.has_room.ensures ∙ c.if-not-has_room.false) in
    let told = was_written p.minor p.major p.pool.now p.access_flags p.this_class p.super_class p.name p.count p.bootstraps.now c.args.out.now right room c.write_file.new.out c.write_file.result c.write_file.ensures in
    record { value = told.0; out_after = told.1 }
