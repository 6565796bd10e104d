-- A row that no inline one has takes the next index. Assumes nothing.
use mathlib.Core.List.{List, [], ◌∷◌, ◌++◌}
use mathlib.Core.Logic.{inl, inr, ⊎_elim}
use mathlib.Core.Option.{none, some}
use mathlib.Core.Path.{◌≡◌, refl, sym, ap, ◌∙◌}
use Prim.Native.Nat.{ℕ, ◌+◌, ◌-◌, ◌≤◌, ◌<◌}
use native.Mathlib.Numerals.{add-one}
use native.Mathlib.Omega.{arith}
use lib.ListN.{length, get_or, set, length-append, length-set}
use lib.Seq.{get_or-set_same, get_or-set_other}
use Rattle.definition.specs.Building.{Rows, index_of}
use Rattle.facts.proofs.Lists.{none≢some, found_append, found_seam, equal, order}
use Rattle.store.specs.Chains.{head_of}
use Rattle.store.proofs.Walking.{chains_more}
use Rattle.rows.specs.Rowed.{hash_row, backwards, Base, entry_of, word_of, item_of, IsBootstrap, Inlined, RowWords, Rowed}
use Rattle.rows.proofs.Listing.{backwards-same, index-here, index-later, index-none, filled_more, filled-room}

module _
    (b : Base) (indexes inline heads links : List ℕ) (count n k : ℕ)
    (g : Inlined b indexes inline heads links count n) (is : IsBootstrap b indexes k)
    (new : (i : ℕ) → i < n → b.row (entry_of b inline i) ≡ b.row (get_or b.nodes k 0) → ⊥) where
  -- the entry of node k
  abbrev e : ℕ
  e = get_or b.nodes k 0

  none_has : index_of (b.row e) (backwards (item_of b indexes inline) n) ≡ none
  none_has = index-none (b.row e) (item_of b indexes inline) n new

  -- it has no index, so there is room
  pub no_index : word_of b indexes e ≡ 0
  no_index =
      ⊎_elim
      (λ (l : 0 < word_of b indexes e). absurd (none≢some (sym none_has ∙ g.has e is.behind l)))
      (λ (l : word_of b indexes e ≤ 0). omega arith)
      (order 0 (word_of b indexes e))

  pub inline_room_lem : n < length indexes
  inline_room_lem = omega (arith, g.few, filled-room indexes (e - b.constants) is.inside no_index)

  module _ (space : n < length inline) (link : n < length links) (head : ℕ) (at : head ≡ head_of b.heads (hash_row (b.row e))) (there : head < length heads) where
    abbrev indexes' : List ℕ
    indexes' = set indexes (e - b.constants) (count + 1)

    abbrev inline' : List ℕ
    inline' = set inline n k

    entry_new : entry_of b inline' n ≡ e
    entry_new = ap (λ (x : ℕ). get_or b.nodes x 0) (get_or-set_same inline n k 0 space)

    entry_old : (i : ℕ) → i < n → entry_of b inline' i ≡ entry_of b inline i
    entry_old i l = ap (λ (x : ℕ). get_or b.nodes x 0) (get_or-set_other inline n i k 0 (λ z. omega arith))

    word_new : word_of b indexes' e ≡ count + 1
    word_new = get_or-set_same indexes (e - b.constants) (count + 1) 0 is.inside

    word_other : (d : ℕ) → (d - b.constants ≡ e - b.constants → ⊥) → word_of b indexes' d ≡ word_of b indexes d
    word_other d h = get_or-set_other indexes (e - b.constants) (d - b.constants) (count + 1) 0 h

    word_old : (i : ℕ) → i < n → word_of b indexes' (entry_of b inline i) ≡ word_of b indexes (entry_of b inline i)
    word_old i l =
        word_other (entry_of b inline i) λ z.
        let q : entry_of b inline i ≡ e = omega (arith, (g.nodes i l).behind, is.behind) in
        new i l (ap b.row q)

    pub word_stays : (d : ℕ) → b.constants ≤ d → 0 < word_of b indexes d → word_of b indexes' d ≡ word_of b indexes d
    word_stays d low there =
        word_other d λ z.
        let q : d ≡ e = omega (arith, is.behind) in
        let y : word_of b indexes d ≡ 0 = ap (λ (x : ℕ). word_of b indexes x) q ∙ no_index in
        omega arith

    item_old : (i : ℕ) → i < n → item_of b indexes' inline' i ≡ item_of b indexes inline i
    item_old i l = rw (entry_old i l, word_old i l)

    item_new : item_of b indexes' inline' n ≡ (b.row e, count)
    item_new = let z : count + 1 - 1 ≡ count = omega arith in rw (entry_new, word_new, z)

    pub items_more : backwards (item_of b indexes' inline') (n + 1) ≡ (b.row e, count) ∷ backwards (item_of b indexes inline) n
    unfolding backwards
    items_more = rw (add-one n, item_new, backwards-same (item_of b indexes' inline') (item_of b indexes inline) n item_old)

    boot_more : (x : ℕ) → IsBootstrap b indexes x → IsBootstrap b indexes' x
    boot_more x h = record { made = h.made; behind = h.behind; inside = omega (arith, h.inside, length-set indexes (e - b.constants) (count + 1)) }

    has_more :
        (d : ℕ) → b.constants ≤ d → 0 < word_of b indexes' d →
        index_of (b.row d) (backwards (item_of b indexes' inline') (n + 1)) ≡ some (word_of b indexes' d - 1)
    has_more d low word =
        rw items_more
        (⊎_elim
        (λ (z : d - b.constants ≡ e - b.constants).
        let q : d ≡ e = omega (arith, is.behind) in
        let y : count + 1 - 1 ≡ count = omega arith in
        rw (q, word_new, y) (index-here (b.row e) (b.row e) count (backwards (item_of b indexes inline) n) refl))
        (λ (z : d - b.constants ≡ e - b.constants → ⊥).
        let had = g.has d low (rw (word_other d z) at word) in
        rw (word_other d z)
        (index-later (b.row d) (b.row e) count (backwards (item_of b indexes inline) n)
        (λ q. none≢some (sym none_has ∙ (rw q at had)))
        ∙ had))
        (equal (d - b.constants) (e - b.constants)))

    pub inlined_more : Inlined b indexes' inline' (set heads head (n + 1)) (set links n (get_or heads head 0)) (count + 1) (n + 1)
    inlined_more =
        record {
          nodes =
              λ i l.
              ⊎_elim
              (λ (h : i < n). rw (get_or-set_other inline n i k 0 (λ z. omega arith)) (boot_more (get_or inline i 0) (g.nodes i h)))
              (λ (h : n ≤ i). let z : i ≡ n = omega arith in rw (z, get_or-set_same inline n k 0 space) (boot_more k is))
              (order i n);
          chains =
              chains_more
              (λ i. head_of b.heads (hash_row (b.row (entry_of b inline i))))
              (λ i. head_of b.heads (hash_row (b.row (entry_of b inline' i))))
              heads
              links
              n
              head
              g.chains
              (ap (λ x. head_of b.heads (hash_row (b.row x))) entry_new ∙ sym at)
              (λ i l. ap (λ x. head_of b.heads (hash_row (b.row x))) (entry_old i l))
              there
              link;
          unlike =
              λ i j l m.
              ⊎_elim
              (λ (h : j < n). rw (entry_old i (omega arith), entry_old j h) (g.unlike i j l h))
              (λ (h : n ≤ j). let z : j ≡ n = omega arith in rw (z, entry_new, entry_old i (omega arith)) (new i (omega arith)))
              (order j n);
          rise =
              λ i j l m.
              ⊎_elim
              (λ (h : j < n). rw (entry_old i (omega arith), entry_old j h, word_old i (omega arith), word_old j h) (g.rise i j l h))
              (λ (h : n ≤ j).
              let z : j ≡ n = omega arith in
              rw (z, entry_new, entry_old i (omega arith), word_old i (omega arith), word_new) (omega (arith, g.high i (omega arith))))
              (order j n);
          low =
              λ i l.
              ⊎_elim
              (λ (h : i < n). rw (entry_old i h, word_old i h) (g.low i h))
              (λ (h : n ≤ i). let z : i ≡ n = omega arith in rw (z, entry_new, word_new) (omega arith))
              (order i n);
          high =
              λ i l.
              ⊎_elim
              (λ (h : i < n). rw (entry_old i h, word_old i h) (omega (arith, g.high i h)))
              (λ (h : n ≤ i). let z : i ≡ n = omega arith in rw (z, entry_new, word_new) (omega arith))
              (order i n);
          few = omega (arith, g.few, filled_more indexes (e - b.constants) (count + 1) is.inside no_index (omega arith));
          has = has_more;
        }

    -- THE ROWS, where no raw one is for this index

    module _ (wrote : ℕ) (words : RowWords b indexes inline heads links count wrote n) (stop : (i : ℕ) → wrote ≤ i → i < b.raws → count < (b.raw i).0) (low : count < 65535) where
      pub words_more : RowWords b indexes' inline' (set heads head (n + 1)) (set links n (get_or heads head 0)) (count + 1) wrote (n + 1)
      words_more =
          record {
            inlined = inlined_more;
            few = omega arith;
            low = words.low;
            behind = λ i l. omega (arith, words.behind i l);
            ahead = λ i a l. omega (arith, stop i a l);
          }

      -- with the row behind the others
      abbrev pub wider : Rows → Rows
      wider rows = record { written = rows.written ++ b.row e ∷ []; waiting = rows.waiting; inline = (b.row e, length rows.written) ∷ rows.inline }

      pub rows_more :
          (rows : Rows) → Rowed b indexes inline heads links count wrote n rows →
          Rowed b indexes' inline' (set heads head (n + 1)) (set links n (get_or heads head 0)) (count + 1) wrote (n + 1) (wider rows)
      rows_more rows r =
          record {
            words = words_more;
            items = sym (items_more ∙ ap (λ x. (b.row e, x) ∷ backwards (item_of b indexes inline) n) (sym r.written) ∙ ap (λ l. (b.row e, length rows.written) ∷ l) (sym r.items));
            waiting = r.waiting;
            written = length-append rows.written (b.row e ∷ []) ∙ omega (arith, r.written);
            inlines =
                λ j h.
                ⊎_elim
                (λ (l : j < n).
                rw (entry_old j l, word_old j l) (found_append rows.written (b.row e ∷ []) _ _ (r.inlines j l)))
                (λ (l : n ≤ j).
                let z : j ≡ n = omega arith in
                let y : count + 1 - 1 ≡ length rows.written = omega (arith, r.written) in
                rw (z, entry_new, word_new, y) (found_seam rows.written (b.row e) []))
                (order j n);
            stands =
                λ i h.
                ⊎_elim
                (λ (l : i < count).
                ⊎_elim
                (λ s.
                inl (
                  s.0,
                  omega (arith, s.1),
                  rw (entry_old s.0 s.1, word_old s.0 s.1) s.2,
                  rw (entry_old s.0 s.1) (found_append rows.written (b.row e ∷ []) i _ s.3),
                ))
                (λ s. inr (s.0, s.1, s.2, found_append rows.written (b.row e ∷ []) i _ s.3))
                (r.stands i l))
                (λ (l : count ≤ i).
                let z : i ≡ length rows.written = omega (arith, r.written) in
                inl (
                  n,
                  omega arith,
                  rw (entry_new, word_new) (omega arith),
                  rw (z, entry_new) (found_seam rows.written (b.row e) []),
                ))
                (order i count);
          }
