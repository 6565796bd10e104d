-- The row of a bootstrap node gets an index: a new one, that of a row that is the same, or none is left. Assumes nothing.
use mathlib.Core.List.{List, [], ◌∷◌}
use mathlib.Core.Option.{some}
use mathlib.Core.Path.{◌≡◌, refl, sym, ap, subst, ◌∙◌}
use Prim.Native.Nat.{ℕ, ◌+◌, ◌-◌, ◌≤◌, ◌<◌}
use native.Mathlib.Omega.{arith}
use lib.ListN.{length, get_or, set, length-set}
use lib.Seq.{get_or-set_same, get_or-set_other}
use Rattle.definition.specs.Basics.{Result, good, every}
use Rattle.definition.specs.Building.{Rows, write_raw, index_of, take_index, row_index}
use Rattle.laws.proofs.Building.RowsThatOccur.{row_old, row_new, take-some, take_none}
use Rattle.store.specs.Store.{Store, size, put, Kept}
use Rattle.store.specs.Chains.{head_of, Sought}
use Rattle.store.specs.Regions.{COUNTS, GIVEN, INDEXES, ROW-HEADS, ROW-LINKS, FIRSTS, SIZES, CHILDREN, NODES, INLINE, ROW-COUNT, WRITTEN-COUNT, INLINE-COUNT}
use Rattle.store.proofs.Hashing.{head_lt}
use Rattle.store.proofs.Keeping.{kept_put, kept_then, kept_more}
use Rattle.rows.specs.Rowed.{hash_row, item_of, constants_of, row_count, written_count, inline_count, row_in, base_in, RowWordsIn, RowedIn, IsBootstrap, IsBootstrapIn, index_word_lem, KidsIn, SameBut, with_raws, WroteRaws, with_index, NewRow, written, Indexed}
use Rattle.rows.proofs.Listing.{index-none}
use Rattle.rows.proofs.Staying.{counters, same_set, same_more, base_same, kids_stay, words_in, rowed_in}
use Rattle.rows.proofs.Taking.{inline_room_lem, word_stays, words_more, wider, rows_more}
use Rattle.rows.proofs.Sharing.{word_shared, index-shared, still_stays, words_still, rows_still}

abbrev pub takes : Store → ℕ → Rows → Result ℕ (ℕ × Rows)
takes t k rows = take_index (row_in t k) rows.inline (write_raw rows.written rows.waiting)

-- A NEW INDEX: t before, u with raw rows written

module _ (p : List ℕ) (k : ℕ) (t u : Store) (w : WroteRaws p t u) where
  kept_all : Kept written t u
  unfolding every
  kept_all = kept_more (COUNTS ∷ []) written t u refl w.kept

  same-all : SameBut counters (t COUNTS) (u COUNTS)
  unfolding every
  same-all = same_more (ROW-COUNT ∷ WRITTEN-COUNT ∷ []) counters (t COUNTS) (u COUNTS) refl w.counters

  row_same : (x : ℕ) → row_in u x ≡ row_in t x
  row_same x = rw (w.kept NODES refl, w.kept GIVEN refl, w.kept CHILDREN refl, w.kept FIRSTS refl, w.kept SIZES refl)

  indexes_same : (e : ℕ) → get_or (u INDEXES) (e - constants_of p) 0 ≡ get_or (t INDEXES) (e - constants_of p) 0
  indexes_same e = ap (λ (l : List ℕ). get_or l (e - constants_of p) 0) (w.kept INDEXES refl)

  pub boot_stays : IsBootstrapIn p t k → IsBootstrapIn p u k
  boot_stays is = subst (λ b. IsBootstrap b (u INDEXES) k) (sym (base_same p t u kept_all same-all)) (rw (w.kept INDEXES refl) is)

  pub kids_now : KidsIn p t → KidsIn p u
  kids_now = kids_stay p t u kept_all same-all

  pub hash_stays : (hash : ℕ) → hash ≡ hash_row (row_in t k) → hash ≡ hash_row (row_in u k)
  hash_stays hash h = h ∙ ap hash_row (sym (row_same k))

  pub new_stays : NewRow t k → NewRow u k
  unfolding NewRow
  new_stays new i l q =
      let m : inline_count u ≡ inline_count t = w.counters INLINE-COUNT refl in
      let y : get_or (u INLINE) i 0 ≡ get_or (t INLINE) i 0 = ap (λ (z : List ℕ). get_or z i 0) (w.kept INLINE refl) in
      new i (omega arith) (sym (ap (row_in t) y) ∙ sym (row_same (get_or (u INLINE) i 0)) ∙ q ∙ row_same k)

  pub no_index-left : (rows : ℕ) → rows ≡ row_count u → 65535 ≤ rows → Indexed (takes t k) p k t u 17
  no_index-left rows is full =
      record {
        given = λ z. absurd (omega arith);
        refused =
            λ z. (
              refl,
              λ rs g.
                  take_none (row_in t k) rs.inline (write_raw rs.written rs.waiting) (omega (arith, (w.rows rs g).written)),
            );
        words = w.words;
        index = λ z. absurd (omega arith);
        stays = λ e low there. indexes_same e;
        others = λ i f. ap (λ (z : List ℕ). get_or z i 0) (w.kept INDEXES refl);
        counters = same-all;
        kept = kept_all;
      }

  module _ (is : IsBootstrapIn p u k) (new : NewRow u k) where
    fresh : (i : ℕ) → i < inline_count u → row_in u (get_or (u INLINE) i 0) ≡ row_in u k → ⊥
    unfolding NewRow
    fresh = new

    -- there is room for one more
    pub room_more : inline_count u < length (u INDEXES)
    room_more =
        inline_room_lem (base_in p u) (u INDEXES) (u INLINE) (u ROW-HEADS) (u ROW-LINKS) (row_count u) (inline_count u) k w.words.inlined is fresh

    module _
        (hash : ℕ) (hashed : hash ≡ hash_row (row_in u k)) (two : 1 < size p ROW-HEADS)
        (heads : length (u ROW-HEADS) ≡ size p ROW-HEADS) (counts : length (u COUNTS) ≡ 20)
        (space : inline_count u < length (u INLINE)) (link : inline_count u < length (u ROW-LINKS)) (low : row_count u < 65535) where
      abbrev after : Store
      after = with_index p k hash (row_count u) u

      head_is : head_of (size p ROW-HEADS) hash ≡ head_of (size p ROW-HEADS) (hash_row (row_in u k))
      head_is = ap (head_of (size p ROW-HEADS)) hashed

      head_there : head_of (size p ROW-HEADS) hash < length (u ROW-HEADS)
      head_there = omega (arith, head_lt (size p ROW-HEADS) hash two)

      kept_after : Kept written u after
      kept_after =
          kept_put written u _ COUNTS _ _ refl
          (kept_put written u _ ROW-HEADS _ _ refl
          (kept_put written u _ ROW-LINKS _ _ refl
          (kept_put written u _ INLINE _ _ refl
          (kept_put written u _ COUNTS _ _ refl
          (kept_put written u u INDEXES _ _ refl (λ i other. refl))))))

      same_after : SameBut counters (u COUNTS) (after COUNTS)
      same_after =
          same_set counters (u COUNTS) (set (u COUNTS) INLINE-COUNT (inline_count u + 1)) ROW-COUNT (row_count u + 1) refl
          (same_set counters (u COUNTS) (u COUNTS) INLINE-COUNT (inline_count u + 1) refl (λ c other. refl))

      counted : row_count after ≡ row_count u + 1
      counted =
          get_or-set_same (set (u COUNTS) INLINE-COUNT (inline_count u + 1)) ROW-COUNT (row_count u + 1) 0
          (omega (arith, length-set (u COUNTS) INLINE-COUNT (inline_count u + 1)))

      wrote_is : written_count after ≡ written_count u
      wrote_is =
          get_or-set_other (set (u COUNTS) INLINE-COUNT (inline_count u + 1)) ROW-COUNT WRITTEN-COUNT (row_count u + 1) 0 (λ z. omega arith)
          ∙ get_or-set_other (u COUNTS) INLINE-COUNT WRITTEN-COUNT (inline_count u + 1) 0 (λ z. omega arith)

      inline_is : inline_count after ≡ inline_count u + 1
      inline_is =
          get_or-set_other (set (u COUNTS) INLINE-COUNT (inline_count u + 1)) ROW-COUNT INLINE-COUNT (row_count u + 1) 0 (λ z. omega arith)
          ∙ get_or-set_same (u COUNTS) INLINE-COUNT (inline_count u + 1) 0 (omega arith)

      word_is : index_word_lem p after k ≡ row_count u + 1
      word_is = get_or-set_same (u INDEXES) (get_or (u NODES) k 0 - constants_of p) (row_count u + 1) 0 is.inside

      words_after : RowWordsIn p after
      words_after =
          words_in p u after kept_after same_after (after INDEXES) (after INLINE) (after ROW-HEADS) (after ROW-LINKS)
          (row_count u + 1) (written_count u) (inline_count u + 1) refl refl refl refl counted wrote_is inline_is
          (words_more (base_in p u) (u INDEXES) (u INLINE) (u ROW-HEADS) (u ROW-LINKS) (row_count u) (inline_count u) k w.words.inlined is fresh
          space link (head_of (size p ROW-HEADS) hash) head_is head_there (written_count u) w.words w.stop low)

      abbrev more : Rows → Rows
      more rows =
          wider (base_in p u) (u INDEXES) (u INLINE) (u ROW-HEADS) (u ROW-LINKS) (row_count u) (inline_count u) k w.words.inlined is fresh
          space link (head_of (size p ROW-HEADS) hash) head_is head_there (written_count u) w.words w.stop low rows

      rowed_after : (rows : Rows) → RowedIn p rows u → RowedIn p (more rows) after
      rowed_after rows g =
          rowed_in p u after kept_after same_after (after INDEXES) (after INLINE) (after ROW-HEADS) (after ROW-LINKS)
          (row_count u + 1) (written_count u) (inline_count u + 1) refl refl refl refl counted wrote_is inline_is (more rows)
          (rows_more (base_in p u) (u INDEXES) (u INLINE) (u ROW-HEADS) (u ROW-LINKS) (row_count u) (inline_count u) k w.words.inlined is fresh
          space link (head_of (size p ROW-HEADS) hash) head_is head_there (written_count u) w.words w.stop low rows g)

      found : (rows : Rows) → RowedIn p rows t → takes t k rows ≡ good (index_word_lem p after k - 1, more (with_raws rows))
      found rows g =
          let h = w.rows rows g in
          let r = write_raw rows.written rows.waiting in
          let z : length r.0 ≡ index_word_lem p after k - 1 = omega (arith, h.written, word_is) in
          ap (λ row. take_index row rows.inline r) (sym (row_same k))
          ∙ take-some (row_in u k) rows.inline r (omega (arith, h.written))
          ∙ ap (λ (x : ℕ). good (x, more (with_raws rows))) z

      index-taken : Indexed (takes t k) p k t after 0
      index-taken =
          record {
            given = λ z rows g. (more (with_raws rows), found rows g, rowed_after (with_raws rows) (w.rows rows g));
            refused = λ z. absurd (z refl);
            words = words_after;
            index = λ z. omega (arith, word_is);
            stays =
                λ e less there.
                word_stays (base_in p u) (u INDEXES) (u INLINE) (u ROW-HEADS) (u ROW-LINKS) (row_count u) (inline_count u) k w.words.inlined is fresh
                space link (head_of (size p ROW-HEADS) hash) head_is head_there e less (rw (indexes_same e) there)
                ∙ indexes_same e;
            others =
                λ i f.
                get_or-set_other (u INDEXES) (get_or (u NODES) k 0 - constants_of p) i (row_count u + 1) 0 (rw (w.kept NODES refl) f)
                ∙ ap (λ (z : List ℕ). get_or z i 0) (w.kept INDEXES refl);
            counters = λ c other. same_after c other ∙ same-all c other;
            kept = kept_then written t u after kept_all kept_after;
          }

    -- as the code has it
    pub index-new :
        (hash rows : ℕ) → hash ≡ hash_row (row_in u k) → 1 < size p ROW-HEADS → length (u ROW-HEADS) ≡ size p ROW-HEADS → length (u COUNTS) ≡ 20 →
        inline_count u < length (u INLINE) → inline_count u < length (u ROW-LINKS) → rows ≡ row_count u → rows < 65535 →
        Indexed (takes t k) p k t (with_index p k hash rows u) 0
    index-new hash rows hashed two heads counts space link r low = rw r (index-taken hash hashed two heads counts space link (omega arith))

-- ANY ROW: t before

module _ (p : List ℕ) (k : ℕ) (t : Store) where
  -- none is the same
  pub new_row : (r : ℕ) → Sought (λ i. row_in t (get_or (t INLINE) i 0) ≡ row_in t k) (inline_count t) r → r ≡ 0 → NewRow t k
  unfolding NewRow
  new_row r s z = s.miss z

  pub index-made : NewRow t k → (u : Store) (r : ℕ) → Indexed (takes t k) p k t u r → Indexed (row_index (row_in t k)) p k t u r
  unfolding NewRow
  index-made new u r g =
      record {
        given = λ z rows h. let (rows', e, h') = g.given z rows h in (rows', is_new rows h ∙ e, h');
        refused = λ z. let (c, f) = g.refused z in (c, λ rows h. is_new rows h ∙ f rows h);
        words = g.words;
        index = g.index;
        stays = g.stays;
        others = g.others;
        counters = g.counters;
        kept = g.kept;
      }
    where
      is_new : (rows : Rows) → RowedIn p rows t → row_index (row_in t k) rows ≡ takes t k rows
      is_new rows h =
          row_new (row_in t k) rows
          (ap (index_of (row_in t k)) h.items ∙ index-none (row_in t k) (item_of (base_in p t) (t INDEXES) (t INLINE)) (inline_count t) new)

  module _
      (words : RowWordsIn p t) (is : IsBootstrapIn p t k) (r : ℕ)
      (sought : Sought (λ i. row_in t (get_or (t INLINE) i 0) ≡ row_in t k) (inline_count t) r) (hit : r ≡ 0 → ⊥) where
    -- the item that has it
    pub old_there : r - 1 < inline_count t
    old_there = omega (arith, sought.low)

    pub old_boot : (x : ℕ) → x ≡ get_or (t INLINE) (r - 1) 0 → IsBootstrapIn p t x
    old_boot x e = rw e (words.inlined.nodes (r - 1) old_there)

    old_row : row_in t (get_or (t INLINE) (r - 1) 0) ≡ row_in t k
    old_row = sought.hit (omega arith)

    abbrev word : ℕ
    word = index_word_lem p t (get_or (t INLINE) (r - 1) 0)

    abbrev shares : Store
    shares = put t INDEXES (get_or (t NODES) k 0 - constants_of p) word

    kept_shares : Kept written t shares
    kept_shares = kept_put written t t INDEXES _ _ refl (λ i other. refl)

    word_still : index_word_lem p shares k ≡ word
    word_still =
        word_shared (base_in p t) (t INDEXES) (t INLINE) (t ROW-HEADS) (t ROW-LINKS) (row_count t) (written_count t) (inline_count t) k
        words is (r - 1) old_there old_row

    index-old_shares : Indexed (row_index (row_in t k)) p k t shares 0
    index-old_shares =
        record {
          given =
              λ z rows g. (
                rows,
                row_old (row_in t k) rows (index_word_lem p shares k - 1)
                    (ap (index_of (row_in t k)) g.items
                    ∙ index-shared (base_in p t) (t INDEXES) (t INLINE) (t ROW-HEADS) (t ROW-LINKS) (row_count t) (written_count t) (inline_count t) k
                    words is (r - 1) old_there old_row
                    ∙ ap (λ (x : ℕ). some (x - 1)) (sym word_still)),
                rows_still (base_in p t) (t INDEXES) (t INLINE) (t ROW-HEADS) (t ROW-LINKS) (row_count t) (written_count t) (inline_count t) k
                    words is (r - 1) old_there old_row rows g,
              );
          refused = λ z. absurd (z refl);
          words =
              words_still (base_in p t) (t INDEXES) (t INLINE) (t ROW-HEADS) (t ROW-LINKS) (row_count t) (written_count t) (inline_count t) k
              words is (r - 1) old_there old_row;
          index = λ z. omega (arith, word_still, words.inlined.low (r - 1) old_there);
          stays =
              still_stays (base_in p t) (t INDEXES) (t INLINE) (t ROW-HEADS) (t ROW-LINKS) (row_count t) (written_count t) (inline_count t) k
              words is (r - 1) old_there old_row;
          others = λ i f. get_or-set_other (t INDEXES) (get_or (t NODES) k 0 - constants_of p) i word 0 f;
          counters = λ c other. refl;
          kept = kept_shares;
        }

    -- as the code has it
    pub index-old :
        (x shared : ℕ) → x ≡ get_or (t INLINE) (r - 1) 0 → shared ≡ index_word_lem p t x →
        Indexed (row_index (row_in t k)) p k t (put t INDEXES (get_or (t NODES) k 0 - constants_of p) shared) 0
    index-old x shared e q = rw (q, e) index-old_shares
