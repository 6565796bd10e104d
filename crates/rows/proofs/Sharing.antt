-- A row that an inline one has shares its index. Assumes nothing.
use mathlib.Core.List.{List}
use mathlib.Core.Logic.{inl, inr, ⊎_elim}
use mathlib.Core.Option.{some}
use mathlib.Core.Path.{◌≡◌, sym, ap, ◌∙◌}
use Prim.Native.Nat.{ℕ, ◌-◌, ◌≤◌, ◌<◌}
use native.Mathlib.Omega.{arith}
use lib.ListN.{get_or, set, length-set}
use lib.Seq.{get_or-set_same, get_or-set_other}
use Rattle.definition.specs.Building.{Rows, index_of}
use Rattle.facts.proofs.Lists.{some_inj, equal, order}
use Rattle.rows.specs.Rowed.{backwards, Base, entry_of, word_of, item_of, IsBootstrap, Inlined, RowWords, Rowed}
use Rattle.rows.proofs.Listing.{backwards-same, index-some, filled_keeps}

module _
    (b : Base) (indexes inline heads links : List ℕ) (count wrote n k : ℕ)
    (words : RowWords b indexes inline heads links count wrote n) (is : IsBootstrap b indexes k)
    (j : ℕ) (less : j < n) (same : b.row (entry_of b inline j) ≡ b.row (get_or b.nodes k 0)) where
  abbrev g : Inlined b indexes inline heads links count n
  g = words.inlined

  -- the entry of node k, and the word that it gets
  abbrev e : ℕ
  e = get_or b.nodes k 0

  abbrev shared : ℕ
  shared = word_of b indexes (entry_of b inline j)

  abbrev indexes' : List ℕ
  indexes' = set indexes (e - b.constants) shared

  word_other : (d : ℕ) → (d - b.constants ≡ e - b.constants → ⊥) → word_of b indexes' d ≡ word_of b indexes d
  word_other d h = get_or-set_other indexes (e - b.constants) (d - b.constants) shared 0 h

  pub word_shared : word_of b indexes' e ≡ shared
  word_shared = get_or-set_same indexes (e - b.constants) shared 0 is.inside

  -- only item j has its row
  only_one : (i : ℕ) → i < n → b.row (entry_of b inline i) ≡ b.row e → i ≡ j
  only_one i l q =
      ⊎_elim
      (λ (z : i ≡ j). z)
      (λ (z : i ≡ j → ⊥).
      ⊎_elim
      (λ (a : i < j). absurd (g.unlike i j a less (q ∙ sym same)))
      (λ (a : j ≤ i). absurd (g.unlike j i (omega arith) l (same ∙ sym q)))
      (order i j))
      (equal i j)

  word_old : (i : ℕ) → i < n → word_of b indexes' (entry_of b inline i) ≡ word_of b indexes (entry_of b inline i)
  word_old i l =
      ⊎_elim
      (λ (z : entry_of b inline i - b.constants ≡ e - b.constants).
      let q : entry_of b inline i ≡ e = omega (arith, (g.nodes i l).behind, is.behind) in
      let y : i ≡ j = only_one i l (ap b.row q) in
      ap (λ (x : ℕ). word_of b indexes' x) q ∙ word_shared ∙ ap (λ (x : ℕ). word_of b indexes (entry_of b inline x)) (sym y))
      (word_other (entry_of b inline i))
      (equal (entry_of b inline i - b.constants) (e - b.constants))

  items_same : backwards (item_of b indexes' inline) n ≡ backwards (item_of b indexes inline) n
  items_same =
      backwards-same (item_of b indexes' inline) (item_of b indexes inline) n
      (λ i l. ap (λ (x : ℕ). (b.row (entry_of b inline i), x - 1)) (word_old i l))

  pub index-shared : index_of (b.row e) (backwards (item_of b indexes inline) n) ≡ some (shared - 1)
  index-shared = index-some (b.row e) (item_of b indexes inline) n j less same (λ i a l q. g.unlike j i a l (same ∙ sym q))

  pub still_stays : (d : ℕ) → b.constants ≤ d → 0 < word_of b indexes d → word_of b indexes' d ≡ word_of b indexes d
  still_stays d low there =
      ⊎_elim
      (λ (z : d - b.constants ≡ e - b.constants).
      let q : d ≡ e = omega (arith, is.behind) in
      let y : shared - 1 ≡ word_of b indexes d - 1 = some_inj (sym index-shared ∙ ap (λ (x : ℕ). index_of (b.row x) (backwards (item_of b indexes inline) n)) (sym q) ∙ g.has d low there) in
      ap (λ (x : ℕ). word_of b indexes' x) q ∙ word_shared ∙ omega (arith, g.low j less))
      (word_other d)
      (equal (d - b.constants) (e - b.constants))

  has_still :
      (d : ℕ) → b.constants ≤ d → 0 < word_of b indexes' d →
      index_of (b.row d) (backwards (item_of b indexes' inline) n) ≡ some (word_of b indexes' d - 1)
  has_still d low word =
      rw items_same
      (⊎_elim
      (λ (z : d - b.constants ≡ e - b.constants).
      let q : d ≡ e = omega (arith, is.behind) in
      rw (q, word_shared) index-shared)
      (λ (z : d - b.constants ≡ e - b.constants → ⊥). rw (word_other d z) (g.has d low (rw (word_other d z) at word)))
      (equal (d - b.constants) (e - b.constants)))

  inlined_still : Inlined b indexes' inline heads links count n
  inlined_still =
      record {
        nodes =
            λ i l.
            let h = g.nodes i l in
            record { made = h.made; behind = h.behind; inside = omega (arith, h.inside, length-set indexes (e - b.constants) shared) };
        chains = g.chains;
        unlike = g.unlike;
        rise = λ i i' l l'. rw (word_old i (omega arith), word_old i' l') (g.rise i i' l l');
        low = λ i l. rw (word_old i l) (g.low i l);
        high = λ i l. rw (word_old i l) (g.high i l);
        few = omega (arith, g.few, filled_keeps indexes (e - b.constants) shared (g.low j less));
        has = has_still;
      }

  pub words_still : RowWords b indexes' inline heads links count wrote n
  words_still = record { inlined = inlined_still; few = words.few; low = words.low; behind = words.behind; ahead = words.ahead }

  pub rows_still : (rows : Rows) → Rowed b indexes inline heads links count wrote n rows → Rowed b indexes' inline heads links count wrote n rows
  rows_still rows r =
      record {
        words = words_still;
        items = r.items ∙ sym items_same;
        waiting = r.waiting;
        written = r.written;
        inlines = λ i h. rw (word_old i h) (r.inlines i h);
        stands =
            λ i h.
            ⊎_elim
            (λ s. inl (s.0, s.1, rw (word_old s.0 s.1) s.2, s.3))
            (λ s. inr s)
            (r.stands i h);
      }
