-- `blocks::first_wrong` meets its contract: what the closure calls answers for each block. Assumes nothing.
use mathlib.Core.Path.{◌≡◌, sym, ap, ◌∙◌}
use mathlib.Core.Bool.{true, false}
use Prim.Native.Nat.{ℕ, suc, ◌-◌, ◌≤◌, ◌<◌}
use Rattle.std.proofs.Common.{tests}
use native.Mathlib.Omega.{arith}
use borrow.Author.Rules.{rules}
use mathlib.Core.List.{List}
use Rattle.std.specs.Prelude.{MatchOption, Option, None, Some}
use Rattle.blocks.specs.File.{RightBelow, FirstWrong}
use Rattle.std.proofs.lemmas.Iterator.{first_from_Range}
use Rattle.definition.specs.Blocks.{right_block}
use Rattle.blocks.proofs.first_wrong.Goals as goal

first_of :
    (n : ℕ) (file : List ℕ) (found : Option ℕ) → 0 < n →
    MatchOption found ((k : ℕ) → 0 ≤ k → k < n → right_block (suc (n - 1)) file k ≡ true)
    (λ i. (0 ≤ i) × (i < n) × (right_block (suc (n - 1)) file i ≡ false) × ((k : ℕ) → 0 ≤ k → k < i → right_block (suc (n - 1)) file k ≡ true)) →
    MatchOption found (RightBelow n file n) (FirstWrong n file)
first_of n file None some h =
    let e : suc (n - 1) ≡ n = omega arith in
    λ k inside. ap (λ m. right_block m file k) (sym e) ∙ h k (omega arith) inside
first_of n file (Some i) some h =
    let e : suc (n - 1) ≡ n = omega arith in
    record {
      inside = h.1;
      before = λ k less. ap (λ m. right_block m file k) (sym e) ∙ h.3 k (omega arith) less;
      wrong = ap (λ m. right_block m file i) (sym e) ∙ h.2;
    }

pub returns : goal.returns
returns c =
    let file = c.args.file.now in
    let n = c.args.n in
    first_of n file c.find.result (omega arith)
    (first_from_Range _ _ _ _ (λ k. right_block (suc (n - 1)) file k ≡ false) (λ k. right_block (suc (n - 1)) file k ≡ true) c.find.ensures.ran
    (λ x q k. search (rules, tests))
    (λ x q k. (search rules, search (rules, tests))))
