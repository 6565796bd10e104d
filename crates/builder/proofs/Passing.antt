-- A walk over the indexes has passed just the rising numbers below the one that it is at. Assumes nothing.
use mathlib.Core.Logic.{⊎_elim}
use mathlib.Core.Path.{◌≡◌, sym, ap, subst, ◌∙◌}
use Prim.Native.Nat.{ℕ, zero, suc, ◌+◌, ◌≤◌, ◌<◌}
use native.Mathlib.Omega.{arith}
use borrow.Author.Tests.{eq-eqb, ne_eqb}
use Rattle.facts.proofs.Lists.{equal, order}
use Rattle.rows.specs.Rowed.{Reached}
use Rattle.output.specs.Rows.{reached_at, passed}

reached_yes : (at next : ℕ) → at ≡ next → reached_at at next ≡ 1
unfolding reached_at
reached_yes at next h = rw (eq-eqb at next h, reached_at)

reached_not : (at next : ℕ) → (at ≡ next → ⊥) → reached_at at next ≡ 0
unfolding reached_at
reached_not at next h = rw (ne_eqb at next h, reached_at)

-- f are n rising numbers, and `next` is past every index behind them
module _
    (f next : ℕ → ℕ) (n : ℕ) (is : (i : ℕ) → i < n → next i ≡ f i) (past : (i : ℕ) → n ≤ i → next i ≡ 65536)
    (rise : (i j : ℕ) → i < j → j < n → f i < f j) where
  on : (i c : ℕ) → i < 65536 → Reached f n i c → Reached f n (suc i) (c + reached_at i (next c))
  on i c low r =
      ⊎_elim
      (λ (z : i ≡ next c).
      let less : c < n =
      ⊎_elim (λ (l : c < n). l) (λ (l : n ≤ c). absurd (omega (arith, past c l))) (order c n) in
      let here : f c ≡ i = sym (is c less) ∙ sym z in
      subst (λ x. Reached f n (suc i) (c + x)) (sym (reached_yes i (next c) z))
      (record {
        low = omega (arith, less);
        below =
            λ j l.
            ⊎_elim
            (λ (q : j ≡ c). omega (arith, ap f q, here))
            (λ (q : j ≡ c → ⊥). omega (arith, r.below j (omega (arith, q))))
            (equal j c);
        above = λ j a l. omega (arith, rise c j (omega arith) l, here);
      }))
      (λ (z : i ≡ next c → ⊥).
      let same : c + 0 ≡ c = omega arith in
      subst (λ x. Reached f n (suc i) (c + x)) (sym (reached_not i (next c) z))
      (subst (Reached f n (suc i)) (sym same)
      (record {
        low = r.low;
        below = λ j l. omega (arith, r.below j l);
        above =
            λ j a l.
            let first : f c ≡ i → ⊥ = λ q. z (sym (is c (omega (arith, a, l)) ∙ q)) in
            ⊎_elim
            (λ (q : j ≡ c). omega (arith, ap f q, first, r.above j a l))
            (λ (q : j ≡ c → ⊥). omega (arith, q, first, r.above c (omega arith) (omega (arith, a, l)), rise c j (omega (arith, a, q)) l))
            (equal j c);
      })))
      (equal i (next c))

  pub passed-reached : (index : ℕ) → index ≤ 65536 → Reached f n index (passed next index)
  unfolding passed
  passed-reached zero low = record { low = omega arith; below = λ j l. absurd (omega arith); above = λ j a l. omega arith }
  passed-reached (suc i) low = on i (passed next i) (omega arith) (passed-reached i (omega arith))
