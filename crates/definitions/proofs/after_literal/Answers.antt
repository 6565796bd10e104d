-- `definitions::after_literal` meets its contract. Assumes nothing.
use Rattle.definitions.proofs.Reading.{text_end, wide_end, narrow_end}
use mathlib.Core.Path.{sym, ◌∙◌}
use native.Mathlib.Omega.{arith}
use borrow.Author.Tests.{eqb-true, eqb-false}
use Rattle.definitions.proofs.after_literal.Goals as goal

pub after_worked-requires : goal.after_worked-requires
after_worked-requires c = let h = c.requires.0 in
    ((h.0, h.1, h.2), sym c.is_worked.ensures ∙ c.if-is_worked.true)

pub get-requires : goal.get-requires
get-requires c = let plain = sym c.is_worked.ensures ∙ c.if-is_worked.false in
    let h = c.requires.0 in
    let is = eqb-true c.tag_at-tag.result 1 (sym c.is_text.ensures ∙ c.if-is_text.true) in
    omega
    (arith, text_end c.args.job.now c.args.at c.tag_at-tag.result c.tag_at-tag.ensures plain is h.0 h.1 h.2 h.3, h.2.within)

pub returns-then-is_text : goal.returns-then-is_text
returns-then-is_text c = let plain = sym c.is_worked.ensures ∙ c.if-is_worked.false in
    let is = eqb-true c.tag_at-tag.result 1 (sym c.is_text.ensures ∙ c.if-is_text.true) in
    rw c.get.ensures (text_end c.args.job.now c.args.at c.tag_at-tag.result c.tag_at-tag.ensures plain is)

pub returns-then-is_long : goal.returns-then-is_long
returns-then-is_long c = let plain = sym c.is_worked.ensures ∙ c.if-is_worked.false in
    let other = eqb-false c.tag_at-tag.result 1 (sym c.is_text.ensures ∙ c.if-is_text.false) in
    wide_end c.args.job.now c.args.at c.tag_at-tag.result c.tag_at-tag.ensures plain other (sym c.is_long.ensures ∙ c.if-is_long.true)

pub returns-else-is_long : goal.returns-else-is_long
returns-else-is_long c = let plain = sym c.is_worked.ensures ∙ c.if-is_worked.false in
    let other = eqb-false c.tag_at-tag.result 1 (sym c.is_text.ensures ∙ c.if-is_text.false) in
    narrow_end c.args.job.now c.args.at c.tag_at-tag.result c.tag_at-tag.ensures plain other (sym c.is_long.ensures ∙ c.if-is_long.false)
