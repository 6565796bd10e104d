-- The building stack is taken down, against the definition. Assumes nothing.
use mathlib.Core.Bool.{true, false}
use mathlib.Core.List.{List, [], ◌∷◌, map}
use mathlib.Core.Logic.{◌⊎◌, inl, inr, ⊎_elim}
use mathlib.Core.Option.{some}
use mathlib.Core.Path.{◌≡◌, refl, ap, subst, ◌∙◌}
use Prim.Native.Nat.{ℕ, zero, suc, ◌+◌, ◌≤◌, ◌<◌}
use native.Mathlib.Omega.{arith}
use lib.ListN.{length, get_or, get_elem?}
use Rattle.definition.specs.Basics.{Result, good, bad, Refusal, at_record, every, unless, ◌>>=◌}
use Rattle.definition.specs.Settings.{known}
use Rattle.definition.specs.Shapes.{with_kids}
use Rattle.definition.specs.Definitions.{tag_at}
use Rattle.definition.specs.Resolving.{Node}
use Rattle.definition.specs.Building.{Pool, Rows, Made, kids_of, child_numbers, finish, with_pending, drain}
use Rattle.facts.specs.Lists.{Among}
use Rattle.facts.proofs.Lists.{inside_found, among-cons, true≢false}
use Rattle.facts.proofs.Results.{good_first}
use Rattle.laws.proofs.Resolving.NodesAndChildren.{kids_found}
use Rattle.laws.proofs.Building.VersionsKept.{child_numbers-version}
use Rattle.slots.specs.Gaps.{GapTable}
use Rattle.store.specs.Store.{Store, size, among}
use Rattle.store.specs.Regions.{COUNTS, MARKS, GIVEN, NODES, RAW-KEYS, RAW-ENTRIES, PENDING, NODE-COUNT, GAP-COUNT, PENDING-COUNT, RAW-COUNT, Work}
use Rattle.store.proofs.Keeping.{kept_more}
use Rattle.interner.specs.Nodes.{node_count, nodes_in, record_in}
use Rattle.rows.specs.Rowed.{RowedIn}
use Rattle.pool.specs.Pooled.{place_count, moving, pending_count, PooledIn, LiveIn, Goes, Popped}
use Rattle.pool.specs.Owning.{RawOwner, IsOwner, OnStack}
use Rattle.building.specs.Numbers.{KidsDone}
use Rattle.building.specs.Working.{Working, Owners, owing, Grows, Finished, judged, Judged, Drained}
use Rattle.building.proofs.Paying.{stack_among, among-stack, stack_long, some_pool, some-pooled}
use Rattle.building.proofs.Lasting.{nodes_same, told-since, grows_not, grows_then, told-as, kids_done_stay, grows_goes, rows_goes, working_goes}
use Rattle.building.proofs.Kids.{nodes_many}

-- ONE TURN of the definition

bind_thrice :
    {A B C : Type 0} (u : Result Refusal (Unit {0})) (r : Result Refusal A) (f : A → B) (k : B → Result Refusal C) →
    (u >>= λ _. (r >>= λ x. good (f x)) >>= k) ≡ ((u >>= λ _. r) >>= λ x. k (f x))
bind_thrice (good tt) (good a) f k = refl
bind_thrice (good tt) (bad e) f k = refl
bind_thrice (bad e) r f k = refl

abbrev taken : List (ℕ × ℕ) → Pool → Pool
taken rest pool = record { slots = pool.slots; given = pool.given; pending = rest; version = pool.version }

abbrev made : ℕ → Node → Made → List ℕ × Pool × Rows → Made
made slot n m r = record { pool = r.1; rows = r.2; owned = (slot, with_kids r.0 n) ∷ m.owned }

drain-turn :
    (fuel : ℕ) (nodes : List Node) (m : Made) (slot k : ℕ) (rest : List (ℕ × ℕ)) (n : Node) → 0 < fuel → m.pool.pending ≡ (slot, k) ∷ rest →
    get_elem? nodes k ≡ some n →
    (f : ℕ)
    × (suc f ≡ fuel)
    × (drain fuel nodes m.pool.pending m
    ≡ (judged m.pool.version nodes k (taken rest m.pool) m.rows >>= λ r. drain f nodes (made slot n m r).pool.pending (made slot n m r)))
unfolding drain finish with_pending judged
drain-turn zero nodes m slot k rest n l e at = absurd (omega arith)
drain-turn (suc f) nodes m slot k rest n l e at = (
  f,
  refl,
  rw (e, drain, at, finish, kids_found nodes k n at)
      (bind_thrice (at_record k (unless (known m.pool.version (tag_at nodes k)) 24)) (child_numbers nodes n.kids (taken rest m.pool) m.rows) (made slot n m)
      (λ m'. drain f nodes m'.pool.pending m')),
)

-- and goes on, if the node passes and its children have their numbers
drain-on :
    (fuel fuel' version k : ℕ) (nodes : List Node) (m : Made) (slot : ℕ) (n : Node) (rest : List (ℕ × ℕ)) (a : List ℕ × Pool × Rows) →
    drain fuel nodes m.pool.pending m
    ≡ (judged version nodes k (taken rest m.pool) m.rows >>= λ r. drain fuel' nodes (made slot n m r).pool.pending (made slot n m r)) →
    judged version nodes k (taken rest m.pool) m.rows ≡ good a →
    drain fuel nodes m.pool.pending m ≡ drain fuel' nodes (made slot n m a).pool.pending (made slot n m a)
drain-on fuel fuel' version k nodes m slot n rest a turn e = turn ∙ rw e

drain-nil : (fuel : ℕ) (nodes : List Node) (m : Made) → drain fuel nodes [] m ≡ good m
unfolding drain
drain-nil zero nodes m = refl
drain-nil (suc fuel) nodes m = refl

none-long : {A : Type 0} (l : List A) → length l ≡ 0 → l ≡ []
none-long [] e = refl
none-long (x ∷ l) e = absurd (omega arith)

-- A NODE IS JUDGED

-- which leaves the version
judged-version :
    (nodes : List Node) (version k : ℕ) (p : Pool) (rows : Rows) (r : List ℕ × Pool × Rows) → judged version nodes k p rows ≡ good r →
    r.1.version ≡ p.version
unfolding judged
judged-version nodes version k p rows r e =
    child_numbers-version nodes (kids_of nodes k) p rows r
    (good_first (at_record k (unless (known version (tag_at nodes k)) 24)) (λ _. child_numbers nodes (kids_of nodes k) p rows) r e).2

module _ (s p : List ℕ) (version k : ℕ) (t : Store) (g : GapTable) where
  -- the version hasn't its kind, which is told at its record
  pub judged-not :
      k < node_count t → known version (tag_at (nodes_in s t) k) ≡ false → (u : Store) (r : ℕ) → (r ≡ 24) × (place_count u ≡ record_in t k) →
      Judged s p version k t u g g r
  unfolding judged unless at_record
  judged-not low not u r (same, place) =
      rw same
      (record {
        step =
            record {
              met = λ pool rows q rowed z. absurd (omega arith);
              refused = λ pool rows q rowed z. record { node = k; made = low; refused = rw (not, unless, at_record); place = place };
              again = λ z. absurd (omega arith);
              stacked = λ z. absurd (omega arith);
              grows = λ z. absurd (omega arith);
            };
        done = λ z. absurd (omega arith);
      })

  -- it has, and what comes is as the children's numbers come
  pub judged-so : (u : Store) (h : GapTable) (r : ℕ) → known version (tag_at (nodes_in s t) k) ≡ true → Finished s p k t u g h r → Judged s p version k t u g h r
  unfolding judged unless at_record
  judged-so u h r so f =
      record {
        step =
            record {
              met = λ pool rows q rowed z. let (a, pool', rows', e, q', rowed') = f.step.met pool rows q rowed z in (a, pool', rows', rw (so, unless, at_record) e, q', rowed');
              refused = λ pool rows q rowed z. told-as _ _ t u r (λ e a. rw (so, unless, at_record) a) (f.step.refused pool rows q rowed z);
              again = f.step.again;
              stacked = f.step.stacked;
              grows = f.step.grows;
            };
        done = f.done;
      }

-- A NODE IS TAKEN from the stack

module _ (s p : List ℕ) (t u : Store) (g : GapTable) (k : ℕ) (x : Popped t u k) where
  pub goes_popped : Goes t u g g
  unfolding every
  goes_popped =
      record {
        live = λ live. (x.live g live).0;
        apart = λ top a. rw (x.counters GAP-COUNT (λ e. omega arith)) a;
        long = refl;
        given = λ j l. ap (λ (z : List ℕ). get_or z j 0) (x.kept GIVEN refl);
        counters = λ c f. x.counters c (λ e. others c f e);
        kept = kept_more (COUNTS ∷ []) (COUNTS ∷ GIVEN ∷ PENDING ∷ []) t u refl x.kept;
      }
    where
      others : (c : ℕ) → among c moving ≡ false → c ≡ PENDING-COUNT → ⊥
      others c f e = true≢false (subst (λ (y : ℕ). among y moving ≡ false) e f)

  pub popped_owes : owing u + 1 ≡ owing t
  popped_owes = rw (x.kept GIVEN refl, x.counters NODE-COUNT (λ e. omega arith)) (omega (arith, x.fewer))

  -- the others stay there
  pub stays_there : LiveIn t g → (j : ℕ) → OnStack t j → (j ≡ k) ⊎ OnStack u j
  stays_there live j on =
      let (slot, rest, e, q) = x.pools (some_pool t g) g (some-pooled t g) in
      let a = stack_among (some_pool t g) t g (some-pooled t g) (omega (arith, live.room)) j on in
      let b : Among j (k ∷ map (λ r. r.1) rest) = rw e at a in
      ⊎_elim
      inl
      (λ (c : Among j (map (λ r. r.1) rest)). inr (among-stack (taken rest (some_pool t g)) u g q (omega (arith, (x.live g live).0.room)) j c))
      (among-cons j k (map (λ r. r.1) rest) b)

-- THE LOOP: what is left, with fuel for it, is the whole

pub record Emptying (s p : List ℕ) (version : ℕ) (t u : Store) (g h : GapTable) : Type 0 where
  pub rest :
      (fuel : ℕ) (m : Made) → owing t ≤ fuel → m.pool.version ≡ version → PooledIn m.pool t g → RowedIn p m.rows t →
      (fuel' : ℕ)
      × (m' : Made)
      × (drain fuel (nodes_in s t) m.pool.pending m ≡ drain fuel' (nodes_in s t) m'.pool.pending m')
      × (owing u ≤ fuel')
      × (m'.pool.version ≡ version)
      × PooledIn m'.pool u h
      × RowedIn p m'.rows u
  pub owners : Owners s p u
  pub again : Working s p u h
  pub grows : Grows t u g h

pub emptying_begin : (s p : List ℕ) (version : ℕ) (t : Store) (g : GapTable) → Owners s p t → Working s p t g → Emptying s p version t t g g
emptying_begin s p version t g owners w =
    record { rest = λ fuel m o v q r. (fuel, m, refl, o, v, q, r); owners = owners; again = w; grows = grows_not t g }

-- a raw slot holds what it held
pub raw_owner : (t u : Store) (g h : GapTable) → Grows t u g h → (i k : ℕ) → RawOwner u i k → RawOwner t i k
raw_owner t u g h grows i k x =
    record {
      inside = rw (← grows.counters RAW-COUNT refl) x.inside;
      slot = rw (← grows.kept RAW-KEYS refl) x.slot;
      whole = rw (← grows.kept RAW-ENTRIES refl) x.whole;
      node = rw (← grows.kept RAW-ENTRIES refl, ← grows.kept MARKS refl) x.node;
    }

module _ (s p : List ℕ) (version : ℕ) (t u : Store) (g h : GapTable) (l : Emptying s p version t u g h) (n : ℕ) (is : n ≡ pending_count u) where
  abbrev nodes : List Node
  nodes = nodes_in s t

  nodes_are : nodes_in s u ≡ nodes
  nodes_are = nodes_same s p t u l.grows.kept l.grows.counters

  fits : pending_count u ≤ length (u PENDING)
  fits = omega (arith, l.again.live.room)

  -- nothing is left on it
  pub emptying_end : n ≤ 0 → Drained s p version t u g h 0
  unfolding Owners
  emptying_end none =
      record {
        met =
            λ fuel m o held q r z.
            let (fuel', m', e, o', held', q', r') = l.rest fuel m o held q r in
            let empty : m'.pool.pending ≡ [] = none-long m'.pool.pending (omega (arith, stack_long m'.pool u h q' fits)) in
            (m', e ∙ ap (λ (pending : List (ℕ × ℕ)). drain fuel' nodes pending m') empty ∙ drain-nil fuel' nodes m', q', r');
        refused = λ fuel m o held q r z. absurd (omega arith);
        done = λ z k owner. ⊎_elim (λ (on : OnStack u k). absurd (omega (arith, on.1))) (λ (d : KidsDone s p u k). d) (l.owners k owner);
        again = λ z. l.again;
        grows = λ z. l.grows;
      }

  module _ (some' : 0 < n) (work : Work s p) (v : Store) (k : ℕ) (x : Popped u v k) where
    abbrev goes : Goes u v h h
    goes = goes_popped s p u v h k x

    w : Working s p v h
    w = working_goes s p u v h h goes l.again

    made_low : k < node_count v
    made_low = rw (x.counters NODE-COUNT (λ e. omega arith)) (x.live h l.again.live).1

    -- what the code asks
    pub turn_asks : Working s p v h × (k < node_count v)
    turn_asks = (w, made_low)

    before : Grows t v g h
    before = grows_then t u v g h h l.grows (grows_goes s p u v h h goes)

    nodes_now : nodes_in s v ≡ nodes
    nodes_now = nodes_same s p t v before.kept before.counters

    module _ (long : length (v NODES) ≡ size p NODES) (y : Store) (o : GapTable) (r : ℕ) (f : Judged s p version k v y h o r) where
      node : (nd : Node) × (get_elem? nodes k ≡ some nd)
      node = inside_found nodes k (rw (← nodes_now, nodes_many s p v work w.standing long) made_low)

      -- the definition takes the same turn
      abbrev Turned : ℕ → Made → Type 0
      Turned fuel m =
          (fuel' : ℕ)
          × (slot : ℕ)
          × (rest : List (ℕ × ℕ))
          × (suc fuel' ≡ fuel)
          × (drain fuel nodes m.pool.pending m
          ≡ (judged version nodes k (taken rest m.pool) m.rows >>= λ a. drain fuel' nodes (made slot node.0 m a).pool.pending (made slot node.0 m a)))
          × PooledIn (taken rest m.pool) v h
          × RowedIn p m.rows v

      turned : (fuel : ℕ) (m : Made) → owing u ≤ fuel → m.pool.version ≡ version → PooledIn m.pool u h → RowedIn p m.rows u → Turned fuel m
      turned fuel m enough held q rowed =
          let (slot, rest, e, q') = x.pools m.pool h q in
          let (fuel', less, turn) = drain-turn fuel nodes m slot k rest node.0 (omega (arith, enough)) e node.1 in
          let turn-held =
          subst
          (λ (v : ℕ).
          drain fuel nodes m.pool.pending m
          ≡ (judged v nodes k (taken rest m.pool) m.rows >>= λ a. drain fuel' nodes (made slot node.0 m a).pool.pending (made slot node.0 m a)))
          held turn in
          (fuel', slot, rest, less, turn-held, q', rows_goes s p u v h h goes l.again m.rows rowed)

      -- what is refused in it is refused
      pub emptying_refused : (r ≡ 0 → ⊥) → Drained s p version t y g o r
      emptying_refused no_zero =
          record {
            met = λ fuel m enough held q rowed z. absurd (no_zero z);
            refused =
                λ fuel m enough held q rowed z.
                let (fuel₁, m₁, e, enough₁, held₁, q₁, rowed₁) = l.rest fuel m enough held q rowed in
                let (fuel₂, slot, rest, less, turn, q₂, rowed₂) = turned fuel₁ m₁ enough₁ held₁ q₁ rowed₁ in
                told-since s p t v before.kept before.counters _ _ y r
                (λ told a.
                let b : judged version nodes k (taken rest m₁.pool) m₁.rows ≡ bad told = rw nodes_now at a in
                e ∙ turn ∙ rw b)
                (f.step.refused (taken rest m₁.pool) m₁.rows q₂ rowed₂ z);
            done = λ z. absurd (no_zero z);
            again = λ z. absurd (no_zero z);
            grows = λ z. absurd (no_zero z);
          }

      module _ (z : r ≡ 0) where
        grown : Grows u y h o
        grown = grows_then u v y h h o (grows_goes s p u v h h goes) (f.step.grows z)

        pub turn_less : owing y < owing u
        turn_less = omega (arith, (f.step.stacked z).fewer, popped_owes s p u v h k x)

        owner_was : (j : ℕ) → IsOwner y j → OnStack y j ⊎ IsOwner u j
        owner_was j (inl there) =
            ⊎_elim
            (λ (a : 0 < get_or (v GIVEN) j 0). inr (inl (rw (← x.kept GIVEN refl) a)))
            inl
            ((f.step.stacked z).owners j there)
        owner_was j (inr (i, raw)) = inr (inr (i, raw_owner u y h o grown i j raw))

        owners_now : Owners s p y
        unfolding Owners
        owners_now j owner =
            ⊎_elim
            inl
            (λ (old : IsOwner u j).
            ⊎_elim
            (λ (on : OnStack u j).
            ⊎_elim
            (λ (same : j ≡ k). inr (rw same (f.done z)))
            (λ (still : OnStack v j). inl ((f.step.stacked z).waits j still))
            (stays_there s p u v h k x l.again.live j on))
            (λ (d : KidsDone s p u j). inr (kids_done_stay s p u y h o grown j d))
            (l.owners j old))
            (owner_was j owner)

        abbrev Left : ℕ → Made → Type 0
        Left fuel m =
            (fuel' : ℕ)
            × (m' : Made)
            × (drain fuel nodes m.pool.pending m ≡ drain fuel' nodes m'.pool.pending m')
            × (owing y ≤ fuel')
            × (m'.pool.version ≡ version)
            × PooledIn m'.pool y o
            × RowedIn p m'.rows y

        left : (fuel : ℕ) (m : Made) → owing u ≤ fuel → m.pool.version ≡ version → PooledIn m.pool u h → RowedIn p m.rows u → Left fuel m
        left fuel m enough held q rowed =
            let (fuel', slot, rest, less, turn, q', rowed') = turned fuel m enough held q rowed in
            let (numbers, pool, rows, b, q'', rowed'') = f.step.met (taken rest m.pool) m.rows q' rowed' z in
            let on = drain-on fuel fuel' version k nodes m slot node.0 rest (numbers, pool, rows) turn (rw nodes_now at b) in
            let still = judged-version (nodes_in s v) version k (taken rest m.pool) m.rows (numbers, pool, rows) b in
            (fuel', made slot node.0 m (numbers, pool, rows), on, omega (arith, turn_less), still ∙ held, q'', rowed'')

        pub emptying_next : Emptying s p version t y g o
        emptying_next =
            record {
              rest =
                  λ fuel m enough held q rowed.
                  let (fuel₁, m₁, e₁, enough₁, held₁, q₁, rowed₁) = l.rest fuel m enough held q rowed in
                  let (fuel₂, m₂, e₂, enough₂, held₂, q₂, rowed₂) = left fuel₁ m₁ enough₁ held₁ q₁ rowed₁ in
                  (fuel₂, m₂, e₁ ∙ e₂, enough₂, held₂, q₂, rowed₂);
              owners = owners_now;
              again = f.step.again z;
              grows = grows_then t u y g h o l.grows grown;
            }
