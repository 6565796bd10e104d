-- One entry more in the regions. Assumes nothing.
use mathlib.Core.Bool.{true, false}
use mathlib.Core.List.{List, [], ◌∷◌, ◌++◌, append-nil}
use mathlib.Core.Logic.{◌⊎◌, inl, inr, ⊎_elim}
use mathlib.Core.Option.{some}
use mathlib.Core.Path.{◌≡◌, refl, sym, ap, ◌∙◌}
use Prim.Native.Nat.{ℕ, zero, suc, ◌+◌, ◌-◌, ◌≤◌, ◌<◌}
use native.Mathlib.Omega.{arith}
use lib.ListN.{length, get_or, get_elem?, set, length-append}
use lib.Seq.{get_or-set_same, get_or-set_other}
use borrow.Author.Tests.{lt-ltb, le-ltb}
use Rattle.definition.specs.Shapes.{Kind, constant, bootstrap, Entry}
use Rattle.definition.specs.Job.{Reference, Definition, define}
use Rattle.definition.specs.Form.{kind_of}
use Rattle.definition.specs.Numbering.{is_bootstrap, constants_of, bootstraps_of}
use Rattle.definition.specs.Definitions.{same_kind_lem}
use Rattle.definition.specs.Resolving.{place_of}
use Rattle.facts.proofs.Lists.{none≢some, some_inj, found_inside, place_front, place_behind, append_at, inside_found, order}
use Rattle.laws.specs.Counted.{count_in}
use Rattle.job.specs.Stored.{Found, any_definition}
use Rattle.store.specs.JobIn.{definitions_in, constants_in, entries_in, table_in, table_of}
use Rattle.store.specs.Words.{IsReference}
use Rattle.store.specs.Entries.{Apart}
use Rattle.definitions.specs.Kids.{Referred}
use Rattle.definitions.specs.Defining.{done_in, entered_at, EnteredAt, Entries}
use Rattle.definitions.proofs.Prefixes.{take_next, constants_append, bootstraps_append, first_constant, first_bootstrap, no_entry, none-entered, kind-told, no_constants}

-- at the end of a list
last_or : {A : Type 0} (l : List A) (x y : A) (i : ℕ) → get_elem? (l ++ x ∷ []) i ≡ some y → ((i ≡ length l) × (x ≡ y)) ⊎ ((i < length l) × (get_elem? l i ≡ some y))
last_or l x y i e = ⊎_elim (λ h. inr (found_inside l i y h, h)) (λ h. behind h.0 h.1 h.2) (append_at l (x ∷ []) i y e)
  where
    behind : (j : ℕ) → i ≡ length l + j → get_elem? (x ∷ []) j ≡ some y → ((i ≡ length l) × (x ≡ y)) ⊎ ((i < length l) × (get_elem? l i ≡ some y))
    behind zero q f = inl (omega arith, some_inj f)
    behind (suc j) q f = none≢some f

module _ (c : ℕ) (ds : List (Definition (List ℕ))) where
  -- entries below c are constants, the others bootstraps
  pub entered_low : (es : List (Definition (List ℕ))) (e : ℕ) → e < c → entered_at c es e ≡ get_elem? (constants_of es) e
  unfolding entered_at
  entered_low es e h = rw (lt-ltb e c h, entered_at)

  pub entered_high : (es : List (Definition (List ℕ))) (e : ℕ) → c ≤ e → entered_at c es e ≡ get_elem? (bootstraps_of es) (e - c)
  unfolding entered_at
  entered_high es e h = rw (le-ltb e c h, entered_at)

  -- a record that is no entry changes nothing
  module _ (d : Definition (List ℕ)) (h : no_entry d ≡ true) where
    pub constants_same : constants_of (ds ++ d ∷ []) ≡ constants_of ds
    constants_same = constants_append ds (d ∷ []) ∙ rw ((none-entered d [] h).0, no_constants.0, append-nil)

    pub bootstraps_same : bootstraps_of (ds ++ d ∷ []) ≡ bootstraps_of ds
    bootstraps_same = bootstraps_append ds (d ∷ []) ∙ rw ((none-entered d [] h).1, no_constants.1, append-nil)

    pub entered_same : (e : ℕ) → entered_at c (ds ++ d ∷ []) e ≡ entered_at c ds e
    entered_same e =
        ⊎_elim
        (λ (l : e < c). entered_low (ds ++ d ∷ []) e l ∙ ap (λ l. get_elem? l e) constants_same ∙ sym (entered_low ds e l))
        (λ (l : c ≤ e). entered_high (ds ++ d ∷ []) e l ∙ ap (λ l. get_elem? l (e - c)) bootstraps_same ∙ sym (entered_high ds e l))
        (order e c)

  -- an entry is the one in turn, or one of those before
  abbrev NewOr : Entry (List ℕ) Reference → ℕ → ℕ → Entry (List ℕ) Reference → Type 0
  NewOr x new e y = ((e ≡ new) × (x ≡ y)) ⊎ ((e ≡ new → ⊥) × (entered_at c ds e ≡ some y))

  module _ (x : Entry (List ℕ) Reference) (few : length (constants_of (ds ++ define x ∷ [])) ≤ c) where
    new_constant : is_bootstrap x ≡ false → (e : ℕ) (y : Entry (List ℕ) Reference) → entered_at c (ds ++ define x ∷ []) e ≡ some y → NewOr x (length (constants_of ds)) e y
    new_constant b e y g = ⊎_elim low high (order e c)
      where
        more : constants_of (ds ++ define x ∷ []) ≡ constants_of ds ++ x ∷ []
        more = constants_append ds (define x ∷ []) ∙ rw ((first_constant x [] b).0, no_constants.0)

        same : bootstraps_of (ds ++ define x ∷ []) ≡ bootstraps_of ds
        same = bootstraps_append ds (define x ∷ []) ∙ rw ((first_constant x [] b).1, no_constants.1, append-nil)

        room : suc (length (constants_of ds)) ≤ c
        room = omega (arith, few, ap length more, length-append (constants_of ds) (x ∷ []))

        low : e < c → NewOr x (length (constants_of ds)) e y
        low h =
            ⊎_elim
            (λ l. inl l)
            (λ l. inr (λ q. omega (arith, l.0), entered_low ds e h ∙ l.1))
            (last_or (constants_of ds) x y e (ap (λ l. get_elem? l e) (sym more) ∙ sym (entered_low (ds ++ define x ∷ []) e h) ∙ g))

        high : c ≤ e → NewOr x (length (constants_of ds)) e y
        high h = inr (λ q. omega (arith, room), entered_high ds e h ∙ ap (λ l. get_elem? l (e - c)) (sym same) ∙ sym (entered_high (ds ++ define x ∷ []) e h) ∙ g)

    new_bootstrap : is_bootstrap x ≡ true → (e : ℕ) (y : Entry (List ℕ) Reference) → entered_at c (ds ++ define x ∷ []) e ≡ some y → NewOr x (c + length (bootstraps_of ds)) e y
    new_bootstrap b e y g = ⊎_elim low high (order e c)
      where
        same : constants_of (ds ++ define x ∷ []) ≡ constants_of ds
        same = constants_append ds (define x ∷ []) ∙ rw ((first_bootstrap x [] b).0, no_constants.0, append-nil)

        more : bootstraps_of (ds ++ define x ∷ []) ≡ bootstraps_of ds ++ x ∷ []
        more = bootstraps_append ds (define x ∷ []) ∙ rw ((first_bootstrap x [] b).1, no_constants.1)

        low : e < c → NewOr x (c + length (bootstraps_of ds)) e y
        low h = inr (λ q. omega arith, entered_low ds e h ∙ ap (λ l. get_elem? l e) (sym same) ∙ sym (entered_low (ds ++ define x ∷ []) e h) ∙ g)

        high : c ≤ e → NewOr x (c + length (bootstraps_of ds)) e y
        high h =
            ⊎_elim
            (λ l. inl (omega (arith, l.0), l.1))
            (λ l. inr (λ q. omega (arith, l.0), entered_high ds e h ∙ l.1))
            (last_or (bootstraps_of ds) x y (e - c) (ap (λ l. get_elem? l (e - c)) (sym more) ∙ sym (entered_high (ds ++ define x ∷ []) e h) ∙ g))

    pub new_entry : (e : ℕ) (y : Entry (List ℕ) Reference) → entered_at c (ds ++ define x ∷ []) e ≡ some y → NewOr x (place_of c (kind_of x.tag) (count_in (kind_of x.tag) ds)) e y
    unfolding place_of count_in same_kind_lem
    new_entry e y g = ways (kind_of x.tag) refl
      where
        ways : (kind : Kind) → kind_of x.tag ≡ kind → NewOr x (place_of c kind (count_in kind ds)) e y
        ways constant h = new_constant (kind-told x constant h) e y g
        ways bootstrap h = new_bootstrap (kind-told x bootstrap h) e y g

-- all of them are the one table
pub entered_all : (s : List ℕ) (e : ℕ) (x : Entry (List ℕ) Reference) → get_elem? (table_in s) e ≡ some x → entered_at (constants_in s) (definitions_in s) e ≡ some x
unfolding table_of
entered_all s e x h =
    ⊎_elim
    (λ (l : e < constants_in s). entered_low (constants_in s) [] (definitions_in s) e l ∙ sym (place_front (constants_of (definitions_in s)) (bootstraps_of (definitions_in s)) e l) ∙ h)
    (λ (l : constants_in s ≤ e).
    let q : constants_in s + (e - constants_in s) ≡ e = omega arith in
    entered_high (constants_in s) [] (definitions_in s) e l
    ∙ sym (place_behind (constants_of (definitions_in s)) (bootstraps_of (definitions_in s)) (e - constants_in s))
    ∙ ap (get_elem? (constants_of (definitions_in s) ++ bootstraps_of (definitions_in s))) q
    ∙ h)
    (order e (constants_in s))

-- REGIONS

module _ (s records offsets firsts sizes goals : List ℕ) (k end : ℕ) (have : Entries s records offsets firsts sizes goals k end) where
  -- a record that is no entry
  pub entries-skip : (d : Definition (List ℕ)) → get_elem? (definitions_in s) k ≡ some d → no_entry d ≡ true → Entries s records offsets firsts sizes goals (suc k) end
  entries-skip d turn skip =
      record {
        at = λ e x h. have.at e x (back e x h);
        apart = λ d' e x y h g n. have.apart d' e x y (back d' x h) (back e y g) n;
        words = have.words;
      }
    where
      back : (e : ℕ) (x : Entry (List ℕ) Reference) → entered_at (constants_in s) (done_in s (suc k)) e ≡ some x → entered_at (constants_in s) (done_in s k) e ≡ some x
      back e x h = sym (entered_same (constants_in s) (done_in s k) d skip e) ∙ ap (λ l. entered_at (constants_in s) l e) (sym (take_next (definitions_in s) k d turn)) ∙ h

  -- an entry
  module _ (x : Entry (List ℕ) Reference) (turn : get_elem? (definitions_in s) k ≡ some (define x)) (few : length (constants_of (done_in s (suc k))) ≤ constants_in s)
      (at next : ℕ) (found : Found any_definition s at (define x) next) (e : ℕ) (new : place_of (constants_in s) (kind_of x.tag) (count_in (kind_of x.tag) (done_in s k)) ≡ e)
      (r-room : e < length records) (o-room : e < length offsets) (f-room : e < length firsts) (s-room : e < length sizes)
      (after : List ℕ) (read : Referred s goals after end (length x.kids) x.kids) where
    which : (d : ℕ) (y : Entry (List ℕ) Reference) → entered_at (constants_in s) (done_in s (suc k)) d ≡ some y → ((d ≡ e) × (x ≡ y)) ⊎ ((d ≡ e → ⊥) × (entered_at (constants_in s) (done_in s k) d ≡ some y))
    which d y h =
        let all = take_next (definitions_in s) k (define x) turn in
        rw new at (new_entry (constants_in s) (done_in s k) x (rw all at few) d y (rw all at h))

    -- the new one
    first_is : get_or (set firsts e end) e 0 ≡ end
    first_is = get_or-set_same firsts e end 0 f-room

    size_is : get_or (set sizes e (length x.kids)) e 0 ≡ length x.kids
    size_is = get_or-set_same sizes e (length x.kids) 0 s-room

    here : EnteredAt s (set records e k) (set offsets e at) (set firsts e end) (set sizes e (length x.kids)) after (end + length x.kids) e x
    here =
        record {
          at = record { next = next; stands = rw (get_or-set_same offsets e at 0 o-room) found; count = size_is; room = rw (first_is, size_is) (omega arith) };
          kids = λ i r h. rw first_is (read.words i r (found_inside x.kids i r h) h).0;
          turn = rw (get_or-set_same records e k 0 r-room) (record { is = turn; number = new });
        }

    -- the old ones
    there : (d : ℕ) (y : Entry (List ℕ) Reference) → (d ≡ e → ⊥) → entered_at (constants_in s) (done_in s k) d ≡ some y → EnteredAt s (set records e k) (set offsets e at) (set firsts e end) (set sizes e (length x.kids)) after (end + length x.kids) d y
    there d y other h =
        let old = have.at d y h in
        let fs = get_or-set_other firsts e d end 0 other in
        let ss = get_or-set_other sizes e d (length x.kids) 0 other in
        record {
          at = record { next = old.at.next; stands = rw (get_or-set_other offsets e d at 0 other) old.at.stands; count = ss ∙ old.at.count; room = rw (fs, ss) (omega (arith, old.at.room)) };
          kids =
              λ i r g.
              let low : get_or firsts d 0 + i < end = omega (arith, found_inside y.kids i r g, old.at.count, old.at.room) in
              rw (fs, read.below (get_or firsts d 0 + i) low) (old.kids i r g);
          turn = rw (get_or-set_other records e d k 0 other) old.turn;
        }

    -- words of an old one lie before the new one's
    new_behind : (d : ℕ) (y : Entry (List ℕ) Reference) → (d ≡ e → ⊥) → entered_at (constants_in s) (done_in s k) d ≡ some y → get_or (set firsts e end) d 0 + get_or (set sizes e (length x.kids)) d 0 ≤ get_or (set firsts e end) e 0
    new_behind d y other h = rw (first_is, get_or-set_other firsts e d end 0 other, get_or-set_other sizes e d (length x.kids) 0 other) (have.at d y h).at.room

    pub entries-more : Entries s (set records e k) (set offsets e at) (set firsts e end) (set sizes e (length x.kids)) after (suc k) (end + length x.kids)
    entries-more =
        record {
          at = λ d y h. ⊎_elim (λ n. rw (n.0, ← n.1) here) (λ n. there d y n.0 n.1) (which d y h);
          apart = λ a b y z g h n. ⊎_elim (λ p. ⊎_elim (λ q. absurd (n (p.0 ∙ sym q.0))) (λ q. inr (rw p.0 (new_behind b z q.0 q.1))) (which b z h)) (λ p. ⊎_elim (λ q. inl (rw q.0 (new_behind a y p.0 p.1))) (λ q. both a b y z p.0 q.0 p.1 q.1 n) (which b z h)) (which a y g);
          words = λ i l. ⊎_elim (λ (b : i < end). rw (read.below i b) (have.words i b)) (λ (b : end ≤ i). fresh i b l) (order i end);
        }
      where
        both :
            (a b : ℕ) (y z : Entry (List ℕ) Reference) → (a ≡ e → ⊥) → (b ≡ e → ⊥) → entered_at (constants_in s) (done_in s k) a ≡ some y →
            entered_at (constants_in s) (done_in s k) b ≡ some z → (a ≡ b → ⊥) → Apart (set firsts e end) (set sizes e (length x.kids)) a b
        both a b y z p q g h n =
            rw (get_or-set_other firsts e a end 0 p, get_or-set_other firsts e b end 0 q, get_or-set_other sizes e a (length x.kids) 0 p, get_or-set_other sizes e b (length x.kids) 0 q)
            (have.apart a b y z g h n)

        fresh : (i : ℕ) → end ≤ i → i < end + length x.kids → IsReference s (entries_in s) (get_or after i 0)
        fresh i b l =
            let q : end + (i - end) ≡ i = omega arith in
            let g = inside_found x.kids (i - end) (omega arith) in
            rw q at (read.words (i - end) g.0 (omega arith) g.1).1
