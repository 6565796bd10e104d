-- `poolrun_text::put_answers` meets its contract. The loop keeps: the lines of the answers so far are put. Assumes nothing.
use Rattle.std.proofs.Common.{rules, ℕ, ◌≡◌, ◌+◌, ◌∙◌, [], ◌∷◌, ◌++◌, sym, length, get_or, take, ap, arith, length-append}
use Rattle.std.proofs.lemmas.Slice.Zip.{zip_turn, zip_end}
use Rattle.definition.specs.Ascii.{decimal}
use Rattle.definition.specs.Blocks.{line, mark_text, answer_lines}
use Rattle.poolrun_text.proofs.Putting.{none-printed, then_prints, reprinted}
use Rattle.poolrun_text.proofs.Texts.{lines_more, lines-all}
use Rattle.poolrun_text.proofs.put_answers.Goals as goal

pub loop-answer-init : goal.loop-answer-init
unfolding answer_lines
loop-answer-init c = (omega arith, none-printed c.args.page.now)

pub loop-answer-preserved : goal.loop-answer-preserved
loop-answer-preserved c = let a = c.args in
    let l = c.loop-answer in
    let turn = zip_turn a.answers.now a.marks.now l.yielded c.into_iter-answer-iterator.result l.answer-iterator c.next.new.self c.next.result (search rules) (search rules) l.yielded_by (c.in-Some.answer, c.in-Some.mark) c.in-Some.is c.next.ensures.steps in
    let k = length l.yielded in
    let long : length (l.yielded ++ ((c.in-Some.answer, c.in-Some.mark) ∷ [])) ≡ k + 1 = length-append l.yielded _ in
    let same = ap (λ n. answer_lines (take k a.answers.now) (take k a.marks.now) ++ line (decimal n ++ mark_text c.in-Some.mark.now)) (turn.2 0) in
    let same_mark = ap (λ m. answer_lines (take k a.answers.now) (take k a.marks.now) ++ line (decimal (get_or a.answers.now k 0) ++ mark_text m)) (turn.3 0) in
    let more = lines_more a.answers.now a.marks.now k turn.0 c.requires.1 in
    let last = ap (λ n. answer_lines (take n a.answers.now) (take n a.marks.now)) long in
    (omega (arith, long, l.invariant.0, c.put_answer.ensures.upper_bound), reprinted (same ∙ same_mark ∙ more ∙ sym last) (then_prints l.invariant.1 c.put_answer.ensures.line))

pub returns-clause-lines : goal.returns-clause-lines
returns-clause-lines c = let a = c.args in
    let l = c.loop-answer in
    let end = zip_end a.answers.now a.marks.now l.yielded c.into_iter-answer-iterator.result l.answer-iterator c.next.new.self c.next.result (search rules) (search rules) l.yielded_by c.in-None.is c.next.ensures.steps in
    reprinted (lines-all a.answers.now a.marks.now (length l.yielded) (omega (arith, end, c.requires.1)) (omega (arith, end, c.requires.1))) l.invariant.1
