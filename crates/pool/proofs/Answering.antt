-- One request against the definition: resolved, given a slot, and kept as an answer, or refused. Assumes nothing.
use mathlib.Core.Bool.{Bool, false}
use mathlib.Core.List.{List, [], ◌∷◌, ◌++◌, map}
use mathlib.Core.Logic.{◌⊎◌, inl, inr}
use mathlib.Core.Path.{◌≡◌, refl, sym, ap, ◌∙◌, subst}
use Prim.Native.Nat.{ℕ, ◌+◌, ◌-◌, ◌≤◌, ◌<◌}
use native.Mathlib.Omega.{arith}
use lib.ListN.{length, get_or, take, length-map, length-take, length-append}
use lib.Seq.{get_or-set_same, get_or-set_other}
use Rattle.definition.specs.Basics.{Result, good, bad, every}
use Rattle.definition.specs.Job.{Request}
use Rattle.definition.specs.Resolving.{Goal, Resolved, child_of, resolve}
use Rattle.definition.specs.Building.{Pool, slot_of, Origin, origin_of, mark_of}
use Rattle.definition.specs.Layout.{Ready, answer}
use Rattle.facts.proofs.Lists.{order, found_inside}
use Rattle.laws.specs.Faithful.{Faithful}
use Rattle.laws.specs.Gaps.{Apart}
use Rattle.slots.specs.Gaps.{GapTable}
use Rattle.store.specs.Store.{Store, size, put, among, Kept}
use Rattle.store.specs.JobIn.{linked_in}
use Rattle.store.specs.Regions.{COUNTS, MARKS, GIVEN, NAME-HEADS, NAME-LINKS, NODE-HEADS, NODE-LINKS, OFFSETS, FIRSTS, SIZES, GOALS, CHILDREN, NAME-PLACES, NAME-GOALS, NODES, STACK, PENDING, ANSWERS, ORIGINS, VALUES, NAME-COUNT, NODE-COUNT, VISITS, GAP-COUNT, ODD, WIDE, PLAIN, PENDING-COUNT, Work}
use Rattle.store.specs.Small.{Small}
use Rattle.store.specs.Words.{ENTRY, mark_word, goal_word, child_slot}
use Rattle.store.proofs.Bounds.{small}
use Rattle.store.proofs.Keeping.{kept_put, kept_then, kept_more}
use Rattle.store.proofs.Laying.{work-sizes, work-formed, entries-counted}
use Rattle.interner.specs.Nodes.{node_in_lem, node_count, nodes_in}
use Rattle.resolver.specs.Resolved.{resolved_in, Became, Table, AtRest, visits_owed, told, Resolves}
use Rattle.resolver.proofs.Meanings.{child_raw, child_entry, done_found}
use Rattle.resolver.proofs.Going.{told-good, told-bad}
use Rattle.resolver.proofs.Handing.{resolved_became, resolved_grows}
use Rattle.pool.specs.Pooled.{gaps_in, PooledIn, LiveIn, NodesThere, moving, Goes, Slotted}
use Rattle.pool.specs.Replying.{goal_for, LeadsTo, low, KeptAnswer, ready_so_far, Asking, asked_counters, asked_regions, Replied}
use Rattle.pool.proofs.Words.{not-among}
use Rattle.pool.proofs.Giving.{SameGaps, slots_same, gaps_live_same}
use Rattle.pool.proofs.Children.{nodes_stay, there_stays, count_stays}

-- THE DEFINITION

module _ (ldc : Bool) (goal : Goal) (w : Ready) where
  answer-unresolved : (code : ℕ) → resolve w.table goal w.resolved ≡ bad code → answer ldc goal w ≡ bad code
  unfolding answer
  answer-unresolved code e = rw e

  module _ (s' : Resolved) (e : resolve w.table goal w.resolved ≡ good s') where
    answer-unslotted : (code : ℕ) → slot_of s'.nodes ldc (child_of s'.marks goal) w.pool ≡ bad code → answer ldc goal w ≡ bad code
    unfolding answer
    answer-unslotted code f = rw (e, f)

    module _ (x : ℕ) (p' : Pool) (f : slot_of s'.nodes ldc (child_of s'.marks goal) w.pool ≡ good (x, p')) where
      answer-high : (code : ℕ) → low ldc x ≡ bad code → answer ldc goal w ≡ bad code
      unfolding answer
      answer-high code l = rw (e, f, l)

      answer-met : low ldc x ≡ good tt → answer ldc goal w ≡ good (x, record { table = w.table; resolved = s'; pool = p'; origins = w.origins ++ origin_of (child_of s'.marks goal) w.pool ∷ [] })
      unfolding answer
      answer-met l = rw (e, f, l)

-- HOW MANY nodes there are

nodes_most : (s : List ℕ) (t : Store) → length (nodes_in s t) ≤ node_count t
nodes_most s t = omega (arith, length-map (take (node_count t) (t NODES)) (node_in_lem s t), length-take (node_count t) (t NODES))

pub nodes_count : (s : List ℕ) (t : Store) → node_count t ≤ length (t NODES) → length (nodes_in s t) ≡ node_count t
nodes_count s t h = length-map (take (node_count t) (t NODES)) (node_in_lem s t) ∙ length-take (node_count t) (t NODES) ∙ omega arith

-- what a goal became is a raw number or a node that is there
pub became-low :
    (h : ℕ) (s : List ℕ) (t : Store) → AtRest h s t → (goal : ℕ) → Became (t MARKS) goal → (child : ℕ) →
    child ≡ child_of (map mark_word (t MARKS)) (goal_word goal) → child < ENTRY + node_count t
became-low h s t rests goal became child is = ways (order goal ENTRY)
  where
    ways : (goal < ENTRY) ⊎ (ENTRY ≤ goal) → child < ENTRY + node_count t
    ways (inl l) = omega (arith, is, child_raw (t MARKS) goal l)
    ways (inr l) =
        let k = get_or (t MARKS) (goal - ENTRY) 0 - 2 in
        let ready = became.ready l in
        let m : k + 2 ≡ get_or (t MARKS) (goal - ENTRY) 0 = omega arith in
        let node = rests.faithful.node_of (goal - ENTRY) k (done_found (t MARKS) (goal - ENTRY) k (sym m)) in
        omega (
          arith,
          is,
          child_entry (t MARKS) goal k l became.low m,
          found_inside (nodes_in s t) k _ node.2,
          nodes_most s t,
        )

-- A REQUEST

module _
    (s p : List ℕ) (q : Request) (i : ℕ) (t : Store) (g : GapTable) (asking : Asking s p t g) (work : Work s p) (goal : ℕ)
    (leads : LeadsTo s (goal_for s q) goal) where
  abbrev h : ℕ
  h = size p NODE-HEADS

  abbrev asked : Pool → List Origin → Result ℕ (ℕ × Ready)
  asked pool so = answer q.ldc (goal_for s q) (ready_so_far s t pool so)

  resolving : (u : Store) (r : ℕ) → Resolves h s t u goal r → resolve (linked_in s) (goal_for s q) (resolved_in s t) ≡ told r (resolved_in s u)
  resolving u r res = rw (← leads.word) res.is

  resolved_counters : (u : Store) (r : ℕ) → Resolves h s t u goal r → (c : ℕ) → among c asked_counters ≡ false → get_or (u COUNTS) c 0 ≡ get_or (t COUNTS) c 0
  resolved_counters u r res c f =
      let (a, e) = not-among c NODE-COUNT (VISITS ∷ moving) f in
      let (b, _) = not-among c VISITS moving e in
      res.counters c a b

  resolved_kept : (u : Store) (r : ℕ) → Resolves h s t u goal r → Kept asked_regions t u
  unfolding every
  resolved_kept u r res =
      kept_more (COUNTS ∷ MARKS ∷ NODE-HEADS ∷ NODE-LINKS ∷ CHILDREN ∷ NODES ∷ STACK ∷ []) asked_regions t u refl res.kept

  gap_count : (u : Store) (r : ℕ) → Resolves h s t u goal r → get_or (u COUNTS) GAP-COUNT 0 ≡ get_or (t COUNTS) GAP-COUNT 0
  gap_count u r res = res.counters GAP-COUNT (λ e. omega arith) (λ e. omega arith)

  -- it isn't resolved
  pub replied_unresolved : (u : Store) (r : ℕ) → Resolves h s t u goal r → 0 < r → Replied s p q i t u g g r
  replied_unresolved u r res z =
      record {
        met = λ pool so b f. absurd (omega arith);
        refused = λ pool so b f. answer-unresolved q.ldc (goal_for s q) (ready_so_far s t pool so) r (resolving u r res ∙ told-bad r (resolved_in s u) z);
        again = λ f. absurd (omega arith);
        visits = λ f. absurd (omega arith);
        others = λ j f. rw (res.kept ANSWERS refl);
        other_marks = λ j f. rw (res.kept ORIGINS refl);
        apart = λ top a. rw (gap_count u r res) a;
        long = refl;
        counters = resolved_counters u r res;
        kept = resolved_kept u r res;
      }

  -- it is
  module _ (v : Store) (res : Resolves h s t v goal 0) (long : length (t NODES) ≡ size p NODES) where
    few : Small s
    few = small s (work-formed s p work)

    is_resolved : resolve (linked_in s) (goal_for s q) (resolved_in s t) ≡ good (resolved_in s v)
    is_resolved = resolving v 0 res ∙ told-good (resolved_in s v)

    pub became : Became (v MARKS) goal
    became = resolved_became h s t v goal few asking.table asking.rests leads.is res

    grown : node_count t ≤ node_count v
    grown =
        let (more, e) = (resolved_grows h s t v goal few asking.table asking.rests leads.is res).nodes_kept in
        omega (
          arith,
          ap length e,
          length-append (nodes_in s t) more,
          nodes_most s v,
          nodes_count s t (omega (arith, asking.rests.nodes.few, (work-sizes s p work).nodes, entries-counted s)),
        )

    gaps_same : SameGaps (t COUNTS) (v COUNTS)
    gaps_same =
        record {
          count = gap_count v 0 res;
          odd = res.counters ODD (λ e. omega arith) (λ e. omega arith);
          wide = res.counters WIDE (λ e. omega arith) (λ e. omega arith);
          plain = res.counters PLAIN (λ e. omega arith) (λ e. omega arith);
        }

    pending_same : get_or (v COUNTS) PENDING-COUNT 0 ≡ get_or (t COUNTS) PENDING-COUNT 0
    pending_same = res.counters PENDING-COUNT (λ e. omega arith) (λ e. omega arith)

    pub live_now : LiveIn v g
    live_now =
        let l = asking.live in
        record {
          gaps = gaps_live_same (t COUNTS) (v COUNTS) g gaps_same l.gaps;
          room = rw (pending_same, res.kept GIVEN refl, res.kept PENDING refl) l.room;
          nodes = λ j b. rw (res.kept PENDING refl) (omega (arith, l.nodes j (omega (arith, pending_same)), grown));
        }

    pooled_now : (pool : Pool) → PooledIn pool t g → PooledIn pool v g
    pooled_now pool b =
        record {
          slots = slots_same (t COUNTS) (v COUNTS) g gaps_same ∙ b.slots;
          given = rw (res.kept GIVEN refl) b.given;
          pending = rw (pending_same, res.kept PENDING refl) b.pending;
        }

    table_now : Table s v
    table_now =
        record {
          entered = rw (res.kept OFFSETS refl, res.kept FIRSTS refl, res.kept SIZES refl, res.kept VALUES refl) asking.table.entered;
          linked = rw (res.kept FIRSTS refl, res.kept GOALS refl) asking.table.linked;
        }

    pub there_now : NodesThere s p v
    there_now = (work, table_now.entered, (res.again refl).nodes)

    module _ (child : ℕ) (is : child ≡ child_of (map mark_word (v MARKS)) (goal_word goal)) where
      pub child_there : child < ENTRY + node_count v
      child_there = became-low h s v (res.again refl) goal became child is

      -- its slot
      module _ (ldc : Bool) (told-ldc : ldc ≡ q.ldc) (m : Store) (o : GapTable) (r : ℕ) (slotted : Slotted s ldc child v m g o r) where
        abbrev goes : Goes v m g o
        goes = slotted.goes

        slot-counters : (c : ℕ) → among c asked_counters ≡ false → get_or (m COUNTS) c 0 ≡ get_or (t COUNTS) c 0
        slot-counters c f =
            let (_, e) = not-among c NODE-COUNT (VISITS ∷ moving) f in
            let (_, d) = not-among c VISITS moving e in
            goes.counters c d ∙ resolved_counters v 0 res c f

        slot_kept : Kept asked_regions t m
        unfolding every
        slot_kept =
            kept_then asked_regions t v m (resolved_kept v 0 res)
            (kept_more (COUNTS ∷ GIVEN ∷ PENDING ∷ []) asked_regions v m refl goes.kept)

        slot_apart : (top : ℕ) → Apart top 1 (gaps_in (t COUNTS) g) → Apart top 1 (gaps_in (m COUNTS) o)
        slot_apart top a = goes.apart top (rw (gap_count v 0 res) a)

        slot-others : m ANSWERS ≡ t ANSWERS
        slot-others = goes.kept ANSWERS refl ∙ res.kept ANSWERS refl

        slot-marks : m ORIGINS ≡ t ORIGINS
        slot-marks = goes.kept ORIGINS refl ∙ res.kept ORIGINS refl

        -- the definition's words for it
        same-slot :
            (pool : Pool) →
            slot_of (nodes_in s v) ldc child pool ≡ slot_of (nodes_in s v) q.ldc (child_of (map mark_word (v MARKS)) (goal_for s q)) pool
        same-slot pool = rw (told-ldc, is, leads.word)

        -- there is none
        pub replied_unslotted : 0 < r → Replied s p q i t m g o r
        replied_unslotted z =
            record {
              met = λ pool so b f. absurd (omega arith);
              refused =
                  λ pool so b f.
                  answer-unslotted q.ldc (goal_for s q) (ready_so_far s t pool so) (resolved_in s v) is_resolved r
                  (sym (same-slot pool) ∙ slotted.refused pool (pooled_now pool b) z);
              again = λ f. absurd (omega arith);
              visits = λ f. absurd (omega arith);
              others = λ j f. rw slot-others;
              other_marks = λ j f. rw slot-marks;
              apart = slot_apart;
              long = goes.long;
              counters = slot-counters;
              kept = slot_kept;
            }

        -- there is one: what is resolved stays
        same-resolved : resolved_in s m ≡ resolved_in s v
        same-resolved =
            λ j.
            record {
              marks = map mark_word (goes.kept MARKS refl j);
              nodes = nodes_stay s v m g o goes j;
              visits = goes.counters VISITS refl j;
            }

        rests-still : AtRest h s m
        rests-still =
            let a = res.again refl in
            record {
              nodes = (there_stays s v m g o goes p there_now).2;
              made = rw (goes.kept MARKS refl, goes.kept NODES refl, count_stays s v m g o goes) a.made;
              lowest = rw (goes.kept MARKS refl, goes.kept NODES refl, count_stays s v m g o goes) a.lowest;
              room = rw (goes.kept MARKS refl, count_stays s v m g o goes) a.room;
              faithful = subst (Faithful (linked_in s)) (sym same-resolved) a.faithful;
              owed = rw (goes.kept MARKS refl) a.owed;
            }

        abbrev kept_answer : ℕ → ℕ → Store
        kept_answer x n = put (put m ANSWERS i x) ORIGINS i n

        asking_still : (x n : ℕ) → Asking s p (kept_answer x n) o
        asking_still x n =
            let a = rests-still in
            let names = asking.names in
            record {
              table =
                  record {
                    entered = rw (slot_kept OFFSETS refl, slot_kept FIRSTS refl, slot_kept SIZES refl, slot_kept VALUES refl) asking.table.entered;
                    linked = rw (slot_kept FIRSTS refl, slot_kept GOALS refl) asking.table.linked;
                  };
              rests = record { nodes = a.nodes; made = a.made; lowest = a.lowest; room = a.room; faithful = a.faithful; owed = a.owed };
              names =
                  rw (slot_kept NAME-PLACES refl, slot_kept NAME-HEADS refl, slot_kept NAME-LINKS refl, slot-counters NAME-COUNT refl) names;
              goals = rw (slot_kept NAME-GOALS refl) asking.goals;
              live = goes.live live_now;
            }

        visits_still : (x n : ℕ) → visits_owed s (kept_answer x n) ≤ visits_owed s t + 1
        visits_still x n = rw (goes.kept MARKS refl, goes.counters VISITS refl) (res.visits refl)

        -- how it was come by
        abbrev come : Pool → Origin
        come pool = origin_of (child_of (map mark_word (v MARKS)) (goal_for s q)) pool

        same-child : child ≡ child_of (map mark_word (v MARKS)) (goal_for s q)
        same-child = rw (is, leads.word)

        pub replied_kept :
            r ≡ 0 → i < length (m ANSWERS) → i < length (m ORIGINS) → (mark : ℕ) → ((pool : Pool) → PooledIn pool v g → mark ≡ mark_of (origin_of child pool)) →
            (u : Store) (r' : ℕ) → KeptAnswer ldc (child_slot (m GIVEN) child) mark i m u r' → Replied s p q i t u g o r'
        replied_kept z inside room mark marked u r' (inl (e, fine, same)) =
            let x = child_slot (m GIVEN) child in
            rw same
            (record {
              met =
                  λ pool so b f.
                  let (after, y, c) = slotted.met pool (pooled_now pool b) z in (
                    after,
                    come pool,
                    answer-met q.ldc (goal_for s q) (ready_so_far s t pool so) (resolved_in s v) is_resolved x after (sym (same-slot pool) ∙ y) (rw (← told-ldc) fine)
                        ∙ rw (get_or-set_same (m ANSWERS) i x 0 inside, same-resolved),
                    c,
                    ap (λ (n : ℕ). mark_of (origin_of n pool)) (sym same-child)
                        ∙ sym (marked pool (pooled_now pool b))
                        ∙ sym (get_or-set_same (m ORIGINS) i mark 0 room),
                  );
              refused = λ pool so b f. absurd (omega arith);
              again = λ f. asking_still x mark;
              visits = λ f. visits_still x mark;
              others = λ j n. get_or-set_other (m ANSWERS) i j x 0 n ∙ rw slot-others;
              other_marks = λ j n. get_or-set_other (m ORIGINS) i j mark 0 n ∙ rw slot-marks;
              apart = slot_apart;
              long = goes.long;
              counters = slot-counters;
              kept = kept_put asked_regions t (put m ANSWERS i x) ORIGINS i mark refl (kept_put asked_regions t m ANSWERS i x refl slot_kept);
            })
        replied_kept z inside room mark marked u r' (inr (e, high, same)) =
            rw (same, e)
            (record {
              met = λ pool so b f. absurd (omega arith);
              refused =
                  λ pool so b f.
                  let (after, y, c) = slotted.met pool (pooled_now pool b) z in
                  answer-high q.ldc (goal_for s q) (ready_so_far s t pool so) (resolved_in s v) is_resolved (child_slot (m GIVEN) child) after
                  (sym (same-slot pool) ∙ y) 16 (rw (← told-ldc) high);
              again = λ f. absurd (omega arith);
              visits = λ f. absurd (omega arith);
              others = λ j f. rw slot-others;
              other_marks = λ j f. rw slot-marks;
              apart = slot_apart;
              long = goes.long;
              counters = slot-counters;
              kept = slot_kept;
            })

-- as the code has it
pub at_zero : (h : ℕ) (s : List ℕ) (t u : Store) (goal r : ℕ) → r ≡ 0 → Resolves h s t u goal r → Resolves h s t u goal 0
at_zero h s t u goal r e res = rw e at res

pub kept_both :
    (t u v : Store) (i slot mark : ℕ) → u ≡ put t ANSWERS i slot → v ≡ put u ORIGINS i mark → v ≡ put (put t ANSWERS i slot) ORIGINS i mark
kept_both t u v i slot mark e f = f ∙ ap (λ (x : Store). put x ORIGINS i mark) e
