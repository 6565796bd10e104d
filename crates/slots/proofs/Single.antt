-- No second answer, and no second table, meets the contract of `take_slot`, `request_slot` or `push_gap`. `Learnt` is the contract in
-- src/lib.rt as it stands: what it says of the arguments a, the result r and the parameters s as they are left, where s.0 is the
-- table, and behind it the positions that are lent. Assumes nothing.
use mathlib.Core.List.{List, [], ◌∷◌, ◌++◌, map}
use mathlib.Core.Option as math
use mathlib.Core.Path.{◌≡◌, refl, sym, ◌∙◌, ap}
use Prim.Native.Nat.{ℕ, zero, suc}
use lib.ListN.{drop}
use contract.Lifetimes.{Lfts}
use Rattle.std.specs.Prelude.{Option, Some, None, IfNone, option_map, unwrap_or}
use Rattle.definition.specs.Slots.{Gap, Slots}
use Rattle.facts.proofs.Lists.{none≢some, some_inj}
use Rattle.slots.specs.declared.Positions.{Positions}
use Rattle.slots.specs.Gaps.{GapTable, gap_of, row_of, gaps_of, gaps_at, slots_of, answer_of, Answered, behind, Written}
use Rattle.slots.proofs.take_slot.Reads as take-slot
use Rattle.slots.proofs.request_slot.Reads as request-slot
use Rattle.slots.proofs.push_gap.Reads as push-gap

-- rows are what their gaps say
rows_back : (rows : GapTable) → map row_of (gaps_of rows) ≡ rows
unfolding gaps_of gap_of row_of
rows_back [] = refl
rows_back (row ∷ rows) = ap (λ l. row ∷ l) (rows_back rows)

-- a table is what its gaps in use say and what is behind them
table_back : (count : ℕ) (rows : GapTable) → map row_of (gaps_at rows count) ++ drop count rows ≡ rows
unfolding gaps_of gap_of row_of
table_back zero rows = refl
table_back (suc count) [] = refl
table_back (suc count) (row ∷ rows) = ap (λ l. row ∷ l) (table_back count rows)

one_answer :
    {o : math.Option (ℕ × Slots)} {before after after' : GapTable} (r r' : Option (ℕ × Positions)) →
    Answered o before after r → Answered o before after' r' →
    (r ≡ r') × (after ≡ after')
unfolding answer_of slots_of
one_answer {after = after} {after' = after'} (Some (n, p)) (Some (n', p')) h h' =
    let same = some_inj (h.answer ∙ sym h'.answer) in (
      λ i. Some ((same i).0, record { odd = (same i).1.odd; wide = (same i).1.wide; plain = (same i).1.plain }),
      sym (rows_back after) ∙ (λ i. map row_of (same i).1.gaps) ∙ rows_back after',
    )
one_answer (Some (n, p)) None h h' = none≢some (h'.answer ∙ sym h.answer)
one_answer None (Some (n, p)) h h' = none≢some (h.answer ∙ sym h'.answer)
one_answer None None h h' = (refl, h.alone ∙ sym h'.alone)

one-writing :
    {gaps : List Gap} {before after after' : GapTable} (r r' : ℕ) →
    Written gaps before after r → Written gaps before after' r' →
    (r ≡ r') × (after ≡ after')
one-writing {before = before} {after = after} {after' = after'} r r' h h' =
    let same = h.counted ∙ sym h'.counted in (
      same,
      sym (table_back r after)
          ∙ (λ i. map row_of ((h.read ∙ sym h'.read) i) ++ (h.behind ∙ ap (λ n. drop n before) same ∙ sym h'.behind) i)
          ∙ table_back r' after',
    )

-- a slot that is found is known by it and the positions behind it
one_behind :
    (p q q' : Positions) (r r' : Option ℕ) → IfNone r (q ≡ p) → IfNone r' (q' ≡ p) → behind q r ≡ behind q' r' →
    (r ≡ r') × (q ≡ q')
one_behind p q q' (Some n) (Some n') h h' e = (ap (option_map (λ t. t.0)) e, ap (λ o. unwrap_or (option_map (λ t. t.1) o) q) e)
one_behind p q q' (Some n) None h h' e = absurd (let never : ⊥ = cc in never)
one_behind p q q' None (Some n) h h' e = absurd (let never : ⊥ = cc in never)
one_behind p q q' None None h h' e = (refl, h ∙ sym h')

pub one-take-slot :
    (κs : Lfts 2) (a : _) (r r' : Option ℕ) (s s' : _) →
    take-slot.Learnt κs a r s → take-slot.Learnt κs a r' s' →
    (r ≡ r') × (s.0.now ≡ s'.0.now) × (s.1.0.now ≡ s'.1.0.now)
one-take-slot κs a r r' s s' h h' =
    let (same, table) = one_answer (behind s.1.0.now r) (behind s'.1.0.now r') h.0 h'.0 in
    let (found, moved) = one_behind _ _ _ r r' h.1 h'.1 same in
    (found, table, moved)

pub one-slot :
    (κs : Lfts 1) (a : _) (r r' : Option (ℕ × Positions)) (s s' : _) →
    request-slot.Learnt κs a r s → request-slot.Learnt κs a r' s' →
    (r ≡ r') × (s.0.now ≡ s'.0.now)
one-slot κs a r r' s s' = one_answer r r'

pub one-push :
    (κs : Lfts 1) (a : _) (r r' : ℕ) (s s' : _) →
    push-gap.Learnt κs a r s → push-gap.Learnt κs a r' s' →
    (r ≡ r') × (s.0.now ≡ s'.0.now)
one-push κs a r r' s s' = one-writing r r'
