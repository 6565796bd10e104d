-- A bootstrap that has an index: asked again it has the same, it is small, and it stays whatever slots other nodes are given. Assumes nothing.
use mathlib.Core.Bool.{Bool, true, false}
use Rattle.std.specs.Prelude.{Option, Some}
use mathlib.Core.List.{List, map, reverse}
use mathlib.Core.Logic.{inl, inr, ⊎_elim}
use mathlib.Core.Option.{some}
use mathlib.Core.Path.{◌≡◌, refl, sym, ap, ◌∙◌}
use Prim.Native.Nat.{ℕ, zero, suc, ◌+◌, ◌-◌, ◌≤◌, ◌<◌}
use native.Mathlib.Omega.{arith}
use lib.Dec.{eqb}
use lib.ListN.{length, get_or, get_elem?, take}
use Rattle.definition.specs.Basics.{good, from}
use Rattle.definition.specs.Building.{Rows, index_of, row_index}
use Rattle.interner.specs.Nodes.{node_count}
use Rattle.facts.specs.Lists.{Among}
use Rattle.facts.proofs.Lists.{none≢some, some_inj, equal, order}
use Rattle.facts.proofs.Chunks.{from-same}
use Rattle.laws.proofs.Building.ChildNumbers.{index_of-there}
use Rattle.laws.proofs.Building.RowsThatOccur.{row_old}
use Rattle.store.specs.Store.{Store, size}
use Rattle.store.specs.Words.{ENTRY, child_slot}
use Rattle.store.specs.Chains.{head_of, Chains}
use Rattle.store.specs.Regions.{GIVEN, INDEXES, ROW-HEADS, ROW-LINKS, NODES, INLINE}
use Rattle.store.proofs.Walking.{last-ext}
use Rattle.rows.proofs.Reading.{none_some, some_same}
use Rattle.rows.specs.Rowed.{row_at, hash_row, backwards, Base, entry_of, word_of, item_of, Inlined, RowWords, Rowed, constants_of, row_count, written_count, inline_count, raw_rows, raw_index, raw_node, entry_row, row_in, base_in, RowWordsIn, RowedIn, IsBootstrapIn, index_word_lem, Reached, Nth, RowRoom, KidsIn, is_bootstrap, number_of, HasNumber}
use Rattle.rows.proofs.Listing.{backwards-same, reverse-backwards}
use Rattle.rows.proofs.Numbers.{boot_is, number-there, number-boot, number-slot}
use Rattle.rows.proofs.Slotting.{map-from, part_is, slot_at, row_from}

-- an item of a list from the last on
among-backwards : {A : Type 0} (f : ℕ → A) (n : ℕ) (a : A) → Among a (backwards f n) → (i : ℕ) × (i < n) × (f i ≡ a)
unfolding backwards
among-backwards f zero a h = none≢some h.1
among-backwards f (suc n) a (zero, h) = (n, omega arith, some_inj h)
among-backwards f (suc n) a (suc i, h) = let (j, l, e) = among-backwards f n a (i, h) in (j, omega arith, e)

module _ (p : List ℕ) (t : Store) (k : ℕ) (is : IsBootstrapIn p t k) (there : 0 < index_word_lem p t k) where
  -- asked again
  pub index-again : (rows : Rows) → RowedIn p rows t → row_index (row_in t k) rows ≡ good (index_word_lem p t k - 1, rows)
  index-again rows g =
      row_old (row_in t k) rows (index_word_lem p t k - 1)
      (ap (index_of (row_in t k)) g.items ∙ g.words.inlined.has _ is.behind there)

  -- its row is written at it
  pub index-stands : (rows : Rows) → RowedIn p rows t → get_elem? rows.written (index_word_lem p t k - 1) ≡ some (row_in t k)
  index-stands rows g =
      let a = index_of-there (row_in t k) _ (index_word_lem p t k - 1) (g.words.inlined.has _ is.behind there) in
      let (j, l, e) = among-backwards _ _ _ a in
      ap (get_elem? rows.written) (sym (ap (λ x. x.1) e)) ∙ g.inlines j l ∙ ap (λ x. some x.0) e

  pub index-small : (words : RowWordsIn p t) → index_word_lem p t k ≤ row_count t
  index-small words =
      let a = index_of-there (row_in t k) _ (index_word_lem p t k - 1) (words.inlined.has _ is.behind there) in
      let (j, l, e) = among-backwards _ _ _ a in
      omega (arith, ap (λ x. x.1) e, words.inlined.high j l, words.inlined.low j l)

-- the inline rows, the first first, are those of the nodes that took an index
pub items_listed :
    (p : List ℕ) (t : Store) (rows : Rows) → RowedIn p rows t → inline_count t ≤ length (t INLINE) →
    map (λ k. (row_in t k, index_word_lem p t k - 1)) (take (inline_count t) (t INLINE)) ≡ reverse rows.inline
items_listed p t rows g fits =
    let n = inline_count t in
    ap (map (λ k. (row_in t k, index_word_lem p t k - 1))) (part_is (t INLINE) 0 n (omega arith))
    ∙ map-from (λ k. (row_in t k, index_word_lem p t k - 1)) (λ i. get_or (t INLINE) (0 + i) 0) 0 n
    ∙ from-same (λ i. (row_in t (get_or (t INLINE) (0 + i) 0), index_word_lem p t (get_or (t INLINE) (0 + i) 0) - 1)) (λ i. (row_in t (get_or (t INLINE) i 0), index_word_lem p t (get_or (t INLINE) i 0) - 1)) 0 n
    (λ i a l. let e : 0 + i ≡ i = omega arith in rw e)
    ∙ sym (ap reverse g.items ∙ reverse-backwards _ n)

-- the number of a child fits two bytes, if its slot does
pub number_small :
    (p : List ℕ) (t : Store) (child : ℕ) → RowRoom p → KidsIn p t → child < ENTRY + node_count t → length (t INDEXES) ≡ size p INDEXES → RowWordsIn p t →
    HasNumber p t child → (is_bootstrap p t child ≡ false → child_slot (t GIVEN) child < 65536) → number_of p t child < 65536
number_small p t child room kids low long words has slot = ways (is_bootstrap p t child) refl
  where
    ways : (b : Bool) → is_bootstrap p t child ≡ b → number_of p t child < 65536
    ways true e =
        let is = boot_is p t child true (sym e) refl room kids low long in
        let there = number-there p t child true (sym e) refl has in
        rw (← number-boot p t child true (sym e) refl (index_word_lem p t (child - ENTRY)) refl)
        (omega (arith, index-small p t (child - ENTRY) is there words, words.few))
    ways false e = rw (← number-slot p t child false (sym e) refl (child_slot (t GIVEN) child) refl) (slot e)

-- REACHED: how many of n rising indexes are below one

module _ (f : ℕ → ℕ) (n : ℕ) where
  pub reached_begin : Reached f n 0 0
  reached_begin = record { low = omega arith; below = λ j l. absurd (omega arith); above = λ j a l. omega arith }

  module _ (rise : (i j : ℕ) → i < j → j < n → f i < f j) (index c : ℕ) (r : Option ℕ) (h : Reached f n index c) (nth : Nth f n c r) where
    pub reached_here : r ≡ Some index → Reached f n (index + 1) (c + 1)
    reached_here e =
        let less : c < n =
        ⊎_elim
        (λ (l : c < n). l)
        (λ (l : n ≤ c). absurd (none_some index (sym (nth.past l) ∙ e)))
        (order c n) in
        let is : f c ≡ index = some_same (f c) index (sym (nth.there less) ∙ e) in
        record {
          low = omega arith;
          below =
              λ j l.
              ⊎_elim
              (λ (a : j < c). omega (arith, h.below j a))
              (λ (a : c ≤ j). let z : j ≡ c = omega arith in rw z (omega arith))
              (order j c);
          above = λ j a l. omega (arith, rise c j (omega arith) l);
        }

    pub reached_on : (r ≡ Some index → ⊥) → Reached f n (index + 1) c
    reached_on e =
        record {
          low = h.low;
          below = λ j l. omega (arith, h.below j l);
          above =
              λ j a l.
              ⊎_elim
              (λ (z : c ≡ j). let y : f c ≡ index → ⊥ = λ q. e (nth.there (omega arith) ∙ ap (λ (x : ℕ). Some x) q) in let x = h.above c (omega arith) (omega arith) in rw (← z) (omega arith))
              (λ (z : c ≡ j → ⊥). omega (arith, h.above c (omega arith) (omega arith), rise c j (omega arith) l))
              (equal c j);
        }

-- MORE SLOTS GIVEN: rows of bootstraps that have an index and of raw ones stay

module _
    (b b' : Base) (indexes inline heads links : List ℕ) (count wrote n : ℕ)
    (same-heads : b'.heads ≡ b.heads) (same-constants : b'.constants ≡ b.constants) (same_nodes : b'.nodes ≡ b.nodes)
    (same-raws : b'.raws ≡ b.raws) (more : b.made ≤ b'.made)
    (same_row : (e : ℕ) → b.constants ≤ e → 0 < word_of b indexes e → b'.row e ≡ b.row e)
    (same-raw : (i : ℕ) → i < b.raws → b'.raw i ≡ b.raw i) where
  entry_same : (i : ℕ) → entry_of b' inline i ≡ entry_of b inline i
  entry_same i = rw same_nodes

  word_same : (e : ℕ) → word_of b' indexes e ≡ word_of b indexes e
  word_same e = rw same-constants

  module _ (g : Inlined b indexes inline heads links count n) where
    row_same : (i : ℕ) → i < n → b'.row (entry_of b' inline i) ≡ b.row (entry_of b inline i)
    row_same i l = rw (entry_same i) (same_row (entry_of b inline i) (g.nodes i l).behind (g.low i l))

    item_same : (i : ℕ) → i < n → item_of b' indexes inline i ≡ item_of b indexes inline i
    item_same i l = rw (row_same i l, entry_same i, word_same (entry_of b inline i))

    items_same : backwards (item_of b' indexes inline) n ≡ backwards (item_of b indexes inline) n
    items_same = backwards-same (item_of b' indexes inline) (item_of b indexes inline) n item_same

    chains_same : Chains (λ i. head_of b'.heads (hash_row (b'.row (entry_of b' inline i)))) heads links n
    chains_same =
        record {
          first = λ k l. g.chains.first k l ∙ last-ext _ _ n (λ i h. ap (λ (x : ℕ). eqb x k) (hash_same i h));
          next =
              λ i l.
              g.chains.next i l
              ∙ last-ext _ _ i
              (λ j h.
              ap (λ (x : ℕ). eqb x (head_of b.heads (hash_row (b.row (entry_of b inline i))))) (hash_same j (omega arith))
              ∙ ap (λ (x : ℕ). eqb (head_of b'.heads (hash_row (b'.row (entry_of b' inline j)))) x) (hash_same i l));
        }
      where
        hash_same :
            (i : ℕ) → i < n →
            head_of b.heads (hash_row (b.row (entry_of b inline i))) ≡ head_of b'.heads (hash_row (b'.row (entry_of b' inline i)))
        hash_same i l = rw (same-heads, row_same i l)

    inlined_stays : Inlined b' indexes inline heads links count n
    inlined_stays =
        record {
          nodes =
              λ i l.
              let h = g.nodes i l in
              record { made = omega (arith, h.made); behind = rw (same_nodes, same-constants) h.behind; inside = rw (same_nodes, same-constants) h.inside };
          chains = chains_same;
          unlike = λ i j a l. rw (row_same i (omega arith), row_same j l) (g.unlike i j a l);
          rise = λ i j a l. rw (same_nodes, same-constants) (g.rise i j a l);
          low = λ i l. rw (same_nodes, same-constants) (g.low i l);
          high = λ i l. rw (same_nodes, same-constants) (g.high i l);
          few = g.few;
          has =
              λ e low word.
              let low' : b.constants ≤ e = rw (← same-constants) low in
              let word' : 0 < word_of b indexes e = rw (word_same e) at word in
              rw (items_same, same_row e low' word', word_same e) (g.has e low' word');
        }

  words_stay : RowWords b indexes inline heads links count wrote n → RowWords b' indexes inline heads links count wrote n
  words_stay g =
      record {
        inlined = inlined_stays g.inlined;
        few = g.few;
        low = rw same-raws g.low;
        behind = λ i l. rw (same-raw i (omega (arith, g.low))) (g.behind i l);
        ahead = λ i a l. let h : i < b.raws = rw same-raws at l in rw (same-raw i h) (g.ahead i a h);
      }

  rowed_stays : (rows : Rows) → Rowed b indexes inline heads links count wrote n rows → Rowed b' indexes inline heads links count wrote n rows
  rowed_stays rows g =
      record {
        words = words_stay g.words;
        items = g.items ∙ sym (items_same g.words.inlined);
        waiting =
            g.waiting
            ∙ from-same b.raw b'.raw wrote (b.raws - wrote) (λ i a l. sym (same-raw i (omega (arith, g.words.low))))
            ∙ ap (λ (x : ℕ). from b'.raw wrote (x - wrote)) (sym same-raws);
        written = g.written;
        inlines =
            λ j l.
            rw (row_same g.words.inlined j l, entry_same j, word_same (entry_of b inline j)) (g.inlines j l);
        stands =
            λ i l.
            ⊎_elim
            (λ s.
            inl (
              s.0,
              s.1,
              rw (entry_same s.0, word_same (entry_of b inline s.0)) s.2,
              rw (row_same g.words.inlined s.0 s.1) s.3,
            ))
            (λ s.
            let h = same-raw s.0 (omega (arith, s.1, g.words.low)) in
            inr (s.0, s.1, rw h s.2, rw h s.3))
            (g.stands i l);
      }

-- the same over the store: u is t with more slots given and more nodes on stacks
module _
    (p : List ℕ) (t u : Store)
    (indexes : u INDEXES ≡ t INDEXES) (inline : u INLINE ≡ t INLINE) (heads : u ROW-HEADS ≡ t ROW-HEADS) (links : u ROW-LINKS ≡ t ROW-LINKS)
    (nodes : u NODES ≡ t NODES) (made : node_count t ≤ node_count u) (raws : raw_rows u ≡ raw_rows t)
    (count : row_count u ≡ row_count t) (wrote : written_count u ≡ written_count t) (n : inline_count u ≡ inline_count t)
    (same_row : (e : ℕ) → constants_of p ≤ e → 0 < get_or (t INDEXES) (e - constants_of p) 0 → entry_row u e ≡ entry_row t e)
    (same-raw : (i : ℕ) → i < raw_rows t → (raw_index u i ≡ raw_index t i) × (row_in u (raw_node u i) ≡ row_in t (raw_node t i))) where
  pub rows_given : (rows : Rows) → RowedIn p rows t → RowedIn p rows u
  rows_given rows g =
      rw (indexes, inline, heads, links, count, wrote, n)
      (rowed_stays (base_in p t) (base_in p u) (t INDEXES) (t INLINE) (t ROW-HEADS) (t ROW-LINKS) (row_count t) (written_count t) (inline_count t)
      refl refl nodes raws made same_row
      (λ i l. let h = same-raw i l in λ j. (h.0 j, h.1 j))
      rows
      g)

-- a row stays if its children's slots do
pub row_stays :
    (given given' children firsts sizes : List ℕ) (e : ℕ) →
    ((i : ℕ) → i < get_or sizes e 0 → child_slot given' (get_or children (get_or firsts e 0 + i) 0) ≡ child_slot given (get_or children (get_or firsts e 0 + i) 0)) →
    row_at given' children firsts sizes e ≡ row_at given children firsts sizes e
row_stays given given' children firsts sizes e same =
    row_from given' children firsts sizes e
    ∙ from-same (slot_at given' children firsts sizes e) (slot_at given children firsts sizes e) 0 (get_or sizes e 0) (λ i a l. same i (omega arith))
    ∙ sym (row_from given children firsts sizes e)
