-- `class_file::read_attribute` meets its contract: an attribute of the right length and name, and as many bootstrap methods as it says. Assumes nothing.
use native.Mathlib.Omega.{arith}
use mathlib.Core.Bool.{not}
use mathlib.Core.Path.{◌≡◌, sym, ap, ◌∙◌}
use Rattle.definition.specs.Basics.{good}
use Prim.Native.Nat.{◌+◌, ◌-◌}
use lib.ListN.{length, take, drop}
use borrow.Author.Rules.{part_to_end}
use Rattle.jvms.specs.Pool.{read_bootstrap_methods}
use Rattle.writer.specs.Numbers.{number2}
use Rattle.places.specs.Standing.{slot_of}
use Rattle.class_file.specs.ClassFile.{is_name_lem}
use Rattle.class_file.specs.Answers.{parts_at}
use Rattle.facts.proofs.Lists.{true≢false}
use Rattle.class_file.proofs.Proper.{methods_none, methods_some}
use Rattle.class_file.proofs.Refusing.{no_attribute, other_name, other_methods}
use Rattle.class_file.proofs.Accepting.{accepts_one}
use Rattle.class_file.proofs.read_attribute.Goals as goal

pub overflow_add-at : goal.overflow_add-at
overflow_add-at c = omega (arith, c.requires.0.members.0)

pub has_attribute-requires : goal.has_attribute-requires
has_attribute-requires c = omega (arith, c.requires.0.members.0)

pub returns-then-not-has_attribute : goal.returns-then-not-has_attribute
returns-then-not-has_attribute c = let a = c.args in
    no_attribute a.file.now (λ i. (c.type_inv.file i).fits) a.end a.table.now c.requires.0 c.requires.1 (λ there. true≢false (sym (c.has_attribute.ensures.1 there) ∙ c.if-not-has_attribute.true))

pub get-name-requires : goal.get-name-requires
get-name-requires c = let there = c.has_attribute.ensures.0 c.if-not-has_attribute.false in
    omega (arith, there.0)

pub returns-then-not-holds_name : goal.returns-then-not-holds_name
returns-then-not-holds_name c = let a = c.args in
    let name = c.get-name in
    let held = c.holds_name in
    let is = held.ensures c.requires.0.slots c.requires.0.noted ∙ ap (λ n. is_name_lem (slot_of c.requires.0.slots n)) name.ensures in
    other_name a.file.now (λ i. (c.type_inv.file i).fits) a.end a.table.now c.requires.0 c.requires.1 (sym is ∙ c.if-not-holds_name.true)

pub overflow_add-at-2 : goal.overflow_add-at-2
overflow_add-at-2 c = let there = c.has_attribute.ensures.0 c.if-not-has_attribute.false in
    omega (arith, there.0)

pub get-count-requires : goal.get-count-requires
get-count-requires c = let there = c.has_attribute.ensures.0 c.if-not-has_attribute.false in
    omega (arith, there.0)

pub overflow_add-from : goal.overflow_add-from
overflow_add-from c = let there = c.has_attribute.ensures.0 c.if-not-has_attribute.false in
    omega (arith, there.0)

pub slice_bounds-note_methods-count : goal.slice_bounds-note_methods-count
slice_bounds-note_methods-count c = let there = c.has_attribute.ensures.0 c.if-not-has_attribute.false in
    omega (arith, there.0)

pub slice_bounds-note_methods-start : goal.slice_bounds-note_methods-start
slice_bounds-note_methods-start c = let there = c.has_attribute.ensures.0 c.if-not-has_attribute.false in
    omega (arith, there.0)

pub returns-then-not-note_methods : goal.returns-then-not-note_methods
returns-then-not-note_methods c = let a = c.args in
    let file = a.file.now in
    let from = a.end + 14 + 8 in
    let count = c.get-count in
    let note = c.note_methods in
    let part = take (length file - from) (drop from file) in
    let is : read_bootstrap_methods count.result part ≡ read_bootstrap_methods (number2 file (a.end + 14 + 6)) (drop from file) =
    (λ i. read_bootstrap_methods (count.ensures i) (part_to_end file from i)) in
    other_methods file (λ i. (c.type_inv.file i).fits) a.end a.table.now c.requires.0 c.requires.1
    (sym is ∙ methods_none part count.result a.table.now note.new.places note.result note.ensures (ap not c.if-not-note_methods.true))

pub parts_at-requires : goal.parts_at-requires
parts_at-requires c = let there = c.has_attribute.ensures.0 c.if-not-has_attribute.false in (c.requires.0.behind, c.requires.0.members.0, there.0)

pub returns : goal.returns
returns c = let a = c.args in
    let file = a.file.now in
    let from = a.end + 14 + 8 in
    let count = c.get-count in
    let note = c.note_methods in
    let part = take (length file - from) (drop from file) in
    let is : read_bootstrap_methods count.result part ≡ read_bootstrap_methods (number2 file (a.end + 14 + 6)) (drop from file) =
    (λ i. read_bootstrap_methods (count.ensures i) (part_to_end file from i)) in
    let name = c.get-name in
    let held = c.holds_name in
    let slots = c.requires.0.slots in
    let held-is = held.ensures slots c.requires.0.noted ∙ ap (λ n. is_name_lem (slot_of slots n)) name.ensures in
    let there = c.has_attribute.ensures.0 c.if-not-has_attribute.false in
    let (methods, read) = methods_some part count.result a.table.now note.new.places note.result note.ensures (ap not c.if-not-note_methods.false) in
    ap good c.parts_at.ensures
    ∙ (λ i. good (parts_at file a.end (name.ensures i) (count.ensures i) from))
    ∙ accepts_one file (λ i. (c.type_inv.file i).fits) a.end a.table.now c.requires.0 c.requires.1 there (sym held-is ∙ c.if-not-holds_name.false) methods (sym is ∙ read)
