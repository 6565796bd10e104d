-- The numbers of a node's children, in field order, against the definition. Assumes nothing.
use mathlib.Core.List.{List, [], ◌∷◌, ◌++◌, append-nil, append_assoc}
use mathlib.Core.Logic.{⊎_elim}
use mathlib.Core.Path.{◌≡◌, refl, sym, ◌∙◌}
use Prim.Native.Nat.{ℕ, suc, ◌+◌, ◌≤◌, ◌<◌}
use native.Mathlib.Numerals.{add-one}
use native.Mathlib.Omega.{arith}
use lib.ListN.{length, get_or, drop}
use lib.Seq.{drop-cons, drop-length}
use Rattle.definition.specs.Basics.{Result, good, bad, ◌>>=◌, Refusal}
use Rattle.definition.specs.Resolving.{Node}
use Rattle.definition.specs.Building.{Pool, Rows, kids_of, child_number, child_numbers}
use Rattle.facts.proofs.Lists.{order}
use Rattle.slots.specs.Gaps.{GapTable}
use Rattle.store.specs.Store.{Store, size}
use Rattle.store.specs.Regions.{FIRSTS, SIZES, CHILDREN, NODES, Work}
use Rattle.store.specs.Words.{ENTRY}
use Rattle.interner.specs.Nodes.{node_count, nodes_in}
use Rattle.rows.specs.Rowed.{RowedIn}
use Rattle.pool.specs.Pooled.{PooledIn}
use Rattle.pool.proofs.Nodal.{node_kids_fit}
use Rattle.building.specs.Numbers.{ChildDone}
use Rattle.building.specs.Working.{Working, Stacked, Grows, Numbered, Finished}
use Rattle.building.proofs.Lasting.{made_same, nodes_same, told-since, there_now, grows_not, grows_then, stacked_not, stacked_then, done_stays}
use Rattle.building.proofs.Kids.{kids_many, kid_at}

-- THE LOOP: what the rest of the children gives, behind the numbers of those passed, is the whole

abbrev Numbers : Type 0
Numbers = Result Refusal (List ℕ × Pool × Rows)

-- more in front of what the rest gives
abbrev ahead : List ℕ → Numbers → Numbers
ahead l r = r >>= λ x. good (l ++ x.0, x.1, x.2)

pub record Numbering (s p : List ℕ) (k : ℕ) (t u : Store) (g h : GapTable) (i : ℕ) : Type 0 where
  pub passed : i ≤ length (kids_of (nodes_in s t) k)
  pub rest :
      (pool : Pool) (rows : Rows) → PooledIn pool t g → RowedIn p rows t →
      (l : List ℕ)
      × (pool' : Pool)
      × (rows' : Rows)
      × (child_numbers (nodes_in s t) (kids_of (nodes_in s t) k) pool rows
      ≡ ahead l (child_numbers (nodes_in s t) (drop i (kids_of (nodes_in s t) k)) pool' rows'))
      × PooledIn pool' u h
      × RowedIn p rows' u
  pub done : (j : ℕ) → j < i → ChildDone p u (get_or (kids_of (nodes_in s t) k) j 0)
  pub again : Working s p u h
  pub stacked : Stacked t u
  pub grows : Grows t u g h

good_again : (r : Numbers) → r ≡ ahead [] r
good_again (good a) = refl
good_again (bad e) = refl

pub numbering_begin : (s p : List ℕ) (k : ℕ) (t : Store) (g : GapTable) → Working s p t g → Numbering s p k t t g g 0
numbering_begin s p k t g w =
    record {
      passed = omega arith;
      rest = λ pool rows q m. ([], pool, rows, good_again (child_numbers (nodes_in s t) (kids_of (nodes_in s t) k) pool rows), q, m);
      done = λ j l. absurd (omega arith);
      again = w;
      stacked = stacked_not t;
      grows = grows_not t g;
    }

regroup : (r : Numbers) (n : ℕ) (l : List ℕ) → ahead l (r >>= λ x. good (n ∷ x.0, x.1, x.2)) ≡ ahead (l ++ (n ∷ [])) r
regroup (good a) n l = rw (append_assoc l (n ∷ []) a.0)
regroup (bad e) n l = refl

module _ (s p : List ℕ) (k : ℕ) (t u : Store) (g h : GapTable) (i : ℕ) (l : Numbering s p k t u g h i) where
  abbrev nodes : List Node
  nodes = nodes_in s t

  abbrev kids : List ℕ
  kids = kids_of (nodes_in s t) k

  nodes_are : nodes_in s u ≡ nodes
  nodes_are = nodes_same s p t u l.grows.kept l.grows.counters

  -- no child is left
  pub numbering_end : length kids ≤ i → Finished s p k t u g h 0
  unfolding child_numbers
  numbering_end e =
      let all : length kids ≡ i = omega (arith, l.passed) in
      let z : drop i kids ≡ [] = rw (← all) (drop-length kids) in
      record {
        step =
            record {
              met =
                  λ pool rows q m f.
                  let (numbers, pool', rows', is, q', m') = l.rest pool rows q m in
                  (numbers, pool', rows', is ∙ rw (z, child_numbers, append-nil), q', m');
              refused = λ pool rows q m f. absurd (omega arith);
              again = λ f. l.again;
              stacked = λ f. l.stacked;
              grows = λ f. l.grows;
            };
        done = λ f. rw nodes_are (λ j less. l.done j (omega arith));
      }

  module _
      (more : i < length kids) (child r : ℕ) (is : child ≡ get_or kids i 0) (v : Store) (o : GapTable) (x : Numbered s p child u v h o r) where
    next : drop i kids ≡ child ∷ drop (suc i) kids
    next = drop-cons kids i 0 more ∙ rw is

    -- its number is refused
    pub numbering_refused : (r ≡ 0 → ⊥) → Finished s p k t v g o r
    unfolding child_numbers
    numbering_refused f =
        record {
          step =
              record {
                met = λ pool rows q m z. absurd (f z);
                refused =
                    λ pool rows q m z.
                    let (numbers, pool', rows', e, q', m') = l.rest pool rows q m in
                    told-since s p t u l.grows.kept l.grows.counters _ _ v r
                    (λ told a. let b : child_number nodes child pool' rows' ≡ bad told = rw nodes_are at a in e ∙ rw (next, child_numbers, b))
                    (x.step.refused pool' rows' q' m' z);
                again = λ z. absurd (f z);
                stacked = λ z. absurd (f z);
                grows = λ z. absurd (f z);
              };
          done = λ z. absurd (f z);
        }

    -- it has one
    pub numbering_next : r ≡ 0 → Numbering s p k t v g o (i + 1)
    unfolding child_numbers
    numbering_next z =
        rw (add-one i)
        (record {
          passed = omega arith;
          rest =
              λ pool rows q m.
              let (numbers, pool', rows', e, q', m') = l.rest pool rows q m in
              let (n, pool'', rows'', f, q'', m'') = x.step.met pool' rows' q' m' z in
              let b : child_number nodes child pool' rows' ≡ good (n, pool'', rows'') = rw nodes_are at f in (
                numbers ++ (n ∷ []),
                pool'',
                rows'',
                e ∙ rw (next, child_numbers, b) (regroup (child_numbers nodes (drop (suc i) kids) pool'' rows'') n numbers),
                q'',
                m'',
              );
          done =
              λ j b.
              ⊎_elim
              (λ (low : j < i). done_stays s p u v h o (x.step.grows z) (get_or kids j 0) (l.done j low))
              (λ (high : i ≤ j). let e : j ≡ i = omega arith in rw (e, ← is) (x.done z))
              (order j i);
          again = x.step.again z;
          stacked = stacked_then t u v l.stacked (x.step.stacked z);
          grows = grows_then t u v g h o l.grows (x.step.grows z);
        })

-- AS THE CODE HAS IT

module _
    (s p : List ℕ) (t : Store) (g : GapTable) (work : Work s p) (w : Working s p t g) (long : length (t NODES) ≡ size p NODES)
    (k : ℕ) (low : k < node_count t) (first n : ℕ) (f : first ≡ get_or (t FIRSTS) (get_or (t NODES) k 0) 0) (m : n ≡ get_or (t SIZES) (get_or (t NODES) k 0) 0) where
  pub fields_many : length (kids_of (nodes_in s t) k) ≡ n
  fields_many = kids_many s p t work w.standing long k low ∙ sym m

  pub fields_room : first + n ≤ size p CHILDREN
  fields_room = node_kids_fit s p t (there_now s p t work w.standing) k low first n f m

  module _ (u : Store) (h : GapTable) (i : ℕ) (l : Numbering s p k t u g h i) (more : i < n) (child : ℕ) (is : child ≡ get_or (u CHILDREN) (first + i) 0) where
    pub field_is : child ≡ get_or (kids_of (nodes_in s t) k) i 0
    field_is = is ∙ rw (l.grows.kept CHILDREN refl, f) (sym (kid_at s p t work w.standing long k low i (omega (arith, m))))

    pub field_there : child < ENTRY + node_count u
    field_there = rw (field_is, made_same s p t u l.grows.kept l.grows.counters) (w.standing.kids k low i (omega (arith, fields_many)))
