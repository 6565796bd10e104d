-- The requests in turn against the definition. Assumes nothing.
use mathlib.Core.Bool.{false}
use mathlib.Core.List.{List, [], ◌∷◌, ◌++◌, map, map-append, append-nil, append_assoc}
use mathlib.Core.Option.{some}
use mathlib.Core.Path.{◌≡◌, refl, sym, ap, ◌∙◌, subst}
use Prim.Native.Nat.{ℕ, zero, suc, ◌+◌, ◌≤◌, ◌<◌}
use native.Mathlib.Numerals.{add-one}
use native.Mathlib.Omega.{arith}
use lib.ListN.{length, get_or, get_elem?, take, drop}
use lib.Seq.{get_or-set_same, get_or-set_other, take-suc, take_all, drop-length}
use Rattle.definition.specs.Basics.{Result, good, bad, ◌>>=◌, Refusal, at_record}
use Rattle.definition.specs.Job.{Request}
use Rattle.definition.specs.Building.{Pool, Origin, raw, new, old, mark_of}
use Rattle.definition.specs.Layout.{Ready, answer, answer_all}
use Rattle.facts.proofs.Lists.{inside_found, drop-place}
use Rattle.laws.specs.Faithful.{Faithful}
use Rattle.laws.specs.Gaps.{Apart}
use Rattle.job.specs.Stored.{Found, InTurn, WhatReference, any_request}
use Rattle.job.proofs.Standing.{request_there}
use Rattle.definition.specs.Shapes.{constant}
use Rattle.slots.specs.Gaps.{GapTable}
use Rattle.store.specs.Store.{Store, size, put, among, Kept, IsWord}
use Rattle.store.specs.JobIn.{job_in, counts_in, namings_in, constants_in, linked_in}
use Rattle.store.specs.Regions.{COUNTS, MARKS, NODES, ANSWERS, ORIGINS, PLACE, AT, NAME-COUNT, NODE-COUNT, VISITS, GAP-COUNT, ODD, WIDE, PLAIN, PENDING-COUNT, Work}
use Rattle.store.specs.Words.{mark_word}
use Rattle.store.proofs.Bounds.{small}
use Rattle.store.proofs.Keeping.{kept_put, kept_then}
use Rattle.store.proofs.Laying.{work-sizes, work-formed}
use Rattle.job.specs.Forms.{counts_of}
use Rattle.interner.specs.Nodes.{node_in_lem}
use Rattle.resolver.specs.Resolved.{resolved_in, visits_owed}
use Rattle.sym_refs.specs.Names.{CitedIn}
use Rattle.pool.specs.Pooled.{gaps_in, PooledIn, LiveIn, place_count}
use Rattle.pool.specs.Replying.{RequestAt, WhatRequest, goal_for, origin_word, ready_so_far, ready_in, Asking, asked_counters, asked_regions, Replied, RequestsAt, answered_in, RepliedAll}
use Rattle.pool.proofs.Words.{not-among}
use Rattle.pool.proofs.Giving.{SameGaps, slots_same, gaps_live_same}

-- ANOTHER PLACE in the counters changes nothing else

module _ (s p : List ℕ) (t : Store) (c n : ℕ) (low : c < 2) where
  abbrev placed : Store
  placed = put t COUNTS c n

  pub placed_same : (d : ℕ) → 2 ≤ d → get_or (placed COUNTS) d 0 ≡ get_or (t COUNTS) d 0
  placed_same d h = get_or-set_other (t COUNTS) c d n 0 (λ e. omega arith)

  gaps_same : SameGaps (t COUNTS) (placed COUNTS)
  gaps_same =
      record {
        count = placed_same GAP-COUNT (omega arith);
        odd = placed_same ODD (omega arith);
        wide = placed_same WIDE (omega arith);
        plain = placed_same PLAIN (omega arith);
      }

  pub placed-pooled : (pool : Pool) (g : GapTable) → PooledIn pool t g → PooledIn pool placed g
  placed-pooled pool g b =
      record {
        slots = slots_same (t COUNTS) (placed COUNTS) g gaps_same ∙ b.slots;
        given = b.given;
        pending = rw (placed_same PENDING-COUNT (omega arith)) b.pending;
      }

  placed-live : (g : GapTable) → LiveIn t g → LiveIn placed g
  placed-live g l =
      record {
        gaps = gaps_live_same (t COUNTS) (placed COUNTS) g gaps_same l.gaps;
        room = rw (placed_same PENDING-COUNT (omega arith)) l.room;
        nodes = rw (placed_same PENDING-COUNT (omega arith), placed_same NODE-COUNT (omega arith)) l.nodes;
      }

  pub placed-apart : (top : ℕ) (g : GapTable) → Apart top 1 (gaps_in (t COUNTS) g) → Apart top 1 (gaps_in (placed COUNTS) g)
  placed-apart top g a = rw (placed_same GAP-COUNT (omega arith)) a

  pub placed-resolved : resolved_in s placed ≡ resolved_in s t
  placed-resolved =
      λ j.
      record {
        marks = map mark_word (t MARKS);
        nodes = map (node_in_lem s t) (take (placed_same NODE-COUNT (omega arith) j) (t NODES));
        visits = placed_same VISITS (omega arith) j;
      }

  pub placed-visits : visits_owed s placed ≡ visits_owed s t
  placed-visits = rw (placed_same VISITS (omega arith))

  pub placed-asking : (g : GapTable) → Asking s p t g → Asking s p placed g
  placed-asking g a =
      let r = a.rests in
      record {
        table = record { entered = a.table.entered; linked = a.table.linked };
        rests =
            record {
              nodes = rw (placed_same NODE-COUNT (omega arith)) r.nodes;
              made = rw (placed_same NODE-COUNT (omega arith)) r.made;
              lowest = rw (placed_same NODE-COUNT (omega arith)) r.lowest;
              room = rw (placed_same NODE-COUNT (omega arith)) r.room;
              faithful = subst (Faithful (linked_in s)) (sym placed-resolved) r.faithful;
              owed = r.owed;
            };
        names = rw (placed_same NAME-COUNT (omega arith)) a.names;
        goals = a.goals;
        live = placed-live g a.live;
      }

-- THE LOOP: what the rest of the requests gives, behind the answers so far, is the whole

abbrev requests : List ℕ → List Request
requests s = (job_in s).requests

abbrev rest_from : List ℕ → Store → ℕ → Pool → List Origin → Result Refusal (List ℕ × Ready)
rest_from s u i mid so = answer_all (namings_in s) (constants_in s) (suc (place_count u)) (drop i (requests s)) (ready_so_far s u mid so)

abbrev behind : List ℕ → List ℕ × Ready → Result Refusal (List ℕ × Ready)
behind l r = good (l ++ r.0, r.1)

pub record Replying (s p : List ℕ) (t u : Store) (g h : GapTable) (at i : ℕ) : Type 0 where
  pub few : i ≤ length (requests s)
  pub word : IsWord at
  pub turn :
      (end : ℕ) → InTurn any_request s (get_or (t COUNTS) AT 0) (requests s) end → InTurn any_request s at (drop i (requests s)) end
  pub rest :
      (pool : Pool) → PooledIn pool t g →
      (mid : Pool)
      × (so : List Origin)
      × (answered_in s t pool ≡ (rest_from s u i mid so >>= behind (take i (u ANSWERS))))
      × PooledIn mid u h
      × (map mark_of so ≡ take i (u ORIGINS))
  pub asking : Asking s p u h
  pub visits : visits_owed s u ≤ visits_owed s t + i
  pub place : place_count u ≡ place_count t + i
  pub apart : (top : ℕ) → Apart top 1 (gaps_in (t COUNTS) g) → Apart top 1 (gaps_in (u COUNTS) h)
  pub long : length h ≡ length g
  pub counters : (c : ℕ) → (c ≡ PLACE → ⊥) → among c asked_counters ≡ false → get_or (u COUNTS) c 0 ≡ get_or (t COUNTS) c 0
  pub kept : Kept asked_regions t u

good_again : (r : Result Refusal (List ℕ × Ready)) → r ≡ (r >>= behind [])
good_again (good a) = refl
good_again (bad e) = refl

pub replying_begin : (s p : List ℕ) (t : Store) (g : GapTable) (at : ℕ) → at ≡ get_or (t COUNTS) AT 0 → IsWord at → Asking s p t g → Replying s p t t g g at 0
replying_begin s p t g at is word asking =
    record {
      few = omega arith;
      word = word;
      turn = λ end i. rw is i;
      rest = λ pool b. (pool, [], good_again (answered_in s t pool), b, refl);
      asking = asking;
      visits = omega arith;
      place = omega arith;
      apart = λ top a. a;
      long = refl;
      counters = λ c n f. refl;
      kept = λ k f. refl;
    }

-- one answer more
regroup :
    (r : Result Refusal (List ℕ × Ready)) (x : ℕ) (l : List ℕ) →
    ((r >>= λ (a : List ℕ × Ready). good (x ∷ a.0, a.1)) >>= behind l) ≡ (r >>= behind (l ++ (x ∷ [])))
regroup (good a) x l = rw (append_assoc l (x ∷ []) a.0)
regroup (bad e) x l = refl

take-agree : (i : ℕ) (l m : List ℕ) → i ≤ length l → i ≤ length m → ((j : ℕ) → j < i → get_or l j 0 ≡ get_or m j 0) → take i l ≡ take i m
take-agree zero l m h k same = refl
take-agree (suc i) [] m h k same = absurd (omega arith)
take-agree (suc i) (x ∷ l) [] h k same = absurd (omega arith)
take-agree (suc i) (x ∷ l) (y ∷ m) h k same =
    rw (same 0 (omega arith), take-agree i l m (omega arith) (omega arith) (λ j a. same (suc j) (omega arith)))

-- marks tell what they are of
word_back : (o : Origin) → origin_word (mark_of o) ≡ o
unfolding origin_word mark_of
word_back raw = refl
word_back new = refl
word_back old = refl

words_back : (so : List Origin) → map origin_word (map mark_of so) ≡ so
words_back [] = refl
words_back (o ∷ so) = rw (word_back o, words_back so)

module _ (s p : List ℕ) (t u : Store) (g h : GapTable) (at i : ℕ) (l : Replying s p t u g h at i) where
  abbrev counted : Store
  counted = put u COUNTS PLACE (place_count u + 1)

  pub asking_now : Asking s p counted h
  asking_now = placed-asking s p u PLACE (place_count u + 1) (omega arith) h l.asking

  pub visits_now : visits_owed s counted ≤ visits_owed s t + i
  visits_now = rw (placed-visits s p u PLACE (place_count u + 1) (omega arith)) l.visits

  same-ready : (mid : Pool) (so : List Origin) → ready_so_far s counted mid so ≡ ready_so_far s u mid so
  same-ready mid so =
      λ j. record { table = linked_in s; resolved = placed-resolved s p u PLACE (place_count u + 1) (omega arith) j; pool = mid; origins = so }

  pooled_now : (mid : Pool) → PooledIn mid u h → PooledIn mid counted h
  pooled_now mid = λ b. placed-pooled s p u PLACE (place_count u + 1) (omega arith) mid h b

  module _ (more : i < length (requests s)) where
    -- the request in turn
    pub in_turn : RequestsAt s (get_or (t COUNTS) AT 0) → (q : Request) × (next : ℕ) × Found any_request s at q next × CitedIn s q.what
    unfolding RequestsAt
    in_turn (stand, cited) =
        let (q, is) = inside_found (requests s) i more in
        let (next, f, _) = subst (λ (r : List Request). InTurn any_request s at r stand.0) (drop-place (requests s) i q is) (l.turn stand.0 stand.1) in
        (q, next, f, cited i q is)

    pub turn_next :
        (r : ℕ) → WhatReference s (at + 1) (λ kind a next. r ≡ next) →
        (end : ℕ) → InTurn any_request s (get_or (t COUNTS) AT 0) (requests s) end → InTurn any_request s r (drop (i + 1) (requests s)) end
    turn_next r told end stand =
        let (q, is) = inside_found (requests s) i more in
        let (next, f, later) = subst (λ (x : List Request). InTurn any_request s at x end) (drop-place (requests s) i q is) (l.turn end stand) in
        rw (add-one i, told constant q.what next (request_there s at q next f).1) later

    pub place_next : RequestsAt s (get_or (t COUNTS) AT 0) → length s ≤ 1048576 → (r : ℕ) → WhatReference s (at + 1) (λ kind a next. r ≡ next) → IsWord r
    place_next all short r told =
        let (q, next, f, c) = in_turn all in
        omega (arith, told constant q.what next (request_there s at q next f).1, f.within)

    -- what `answer` asks
    pub answer-asks :
        (x : Store) → x ≡ counted → RequestsAt s (get_or (t COUNTS) AT 0) → IsWord (visits_owed s t + length (requests s) + 1) →
        Asking s p x h × RequestAt s at × IsWord (visits_owed s x + 1)
    answer-asks x e all bound = (rw e asking_now, in_turn all, rw e (omega (arith, visits_now)))

    -- it is answered, or refused
    module _
        (all : RequestsAt s (get_or (t COUNTS) AT 0)) (v : Store) (o : GapTable) (r : ℕ)
        (replied : WhatRequest s at (λ q. Replied s p q i counted v h o r)) (counts-long : PLACE < length (u COUNTS)) where
      -- which one
      chosen : (q : Request) × (get_elem? (requests s) i ≡ some q) × Replied s p q i counted v h o r
      unfolding RequestsAt
      chosen =
          let (stand, cited) = all in
          let (q, is) = inside_found (requests s) i more in
          let (next, f, _) = subst (λ (x : List Request). InTurn any_request s at x stand.0) (drop-place (requests s) i q is) (l.turn stand.0 stand.1) in
          (q, is, replied q next f (cited i q is))

      abbrev rep : Replied s p chosen.0 i counted v h o r
      rep = chosen.2

      place_is : place_count v ≡ suc (place_count u)
      place_is =
          rep.counters PLACE refl ∙ get_or-set_same (u COUNTS) PLACE (place_count u + 1) 0 counts-long ∙ add-one (place_count u)

      counters_on : (c : ℕ) → (c ≡ PLACE → ⊥) → among c asked_counters ≡ false → get_or (v COUNTS) c 0 ≡ get_or (t COUNTS) c 0
      counters_on c n f = rep.counters c f ∙ get_or-set_other (u COUNTS) PLACE c (place_count u + 1) 0 n ∙ l.counters c n f

      kept_on : Kept asked_regions t v
      kept_on =
          kept_then asked_regions t counted v
          (kept_put asked_regions t u COUNTS PLACE (place_count u + 1) refl l.kept)
          rep.kept

      apart_on : (top : ℕ) → Apart top 1 (gaps_in (t COUNTS) g) → Apart top 1 (gaps_in (v COUNTS) o)
      apart_on top a = rep.apart top (placed-apart s p u PLACE (place_count u + 1) (omega arith) top h (l.apart top a))

      -- the definition's step
      turned : (mid : Pool) → drop i (requests s) ≡ chosen.0 ∷ drop (suc i) (requests s)
      turned mid = drop-place (requests s) i chosen.0 chosen.1

      pub replying_refused : 0 < r → RepliedAll s p t v g o r
      unfolding answer_all at_record
      replying_refused z =
          record {
            met = λ pool b f. absurd (omega arith);
            refused =
                λ pool b f.
                let (mid, so, e, m, _) = l.rest pool b in
                let refused : answer chosen.0.ldc (goal_for s chosen.0) (ready_so_far s u mid so) ≡ bad r =
                rw (same-ready mid so) at (rep.refused mid so (pooled_now mid m) z) in
                e ∙ rw (turned mid, answer_all, refused, at_record, place_is);
            again = λ f. absurd (omega arith);
            at = λ f. absurd (omega arith);
            place = λ f. absurd (omega arith);
            visits = λ f. absurd (omega arith);
            apart = apart_on;
            long = rep.long ∙ l.long;
            counters =
                λ c f.
                let (a, x) = not-among c PLACE (AT ∷ asked_counters) f in
                let (_, y) = not-among c AT asked_counters x in
                counters_on c a y;
            kept = kept_on;
          }

      module _
          (z : r ≡ 0) (room : i < length (v ANSWERS)) (same_length : length (v ANSWERS) ≡ length (u ANSWERS))
          (marks_room : i < length (v ORIGINS)) (marks-length : length (v ORIGINS) ≡ length (u ORIGINS)) where
        answers_so_far : take (suc i) (v ANSWERS) ≡ take i (u ANSWERS) ++ (get_or (v ANSWERS) i 0 ∷ [])
        answers_so_far =
            take-suc (v ANSWERS) i 0 room
            ∙ ap (λ (x : List ℕ). x ++ (get_or (v ANSWERS) i 0 ∷ []))
            (take-agree i (v ANSWERS) (u ANSWERS) (omega arith) (omega arith) (λ j b. rep.others j (λ e. omega arith)))

        marks_so_far : take (suc i) (v ORIGINS) ≡ take i (u ORIGINS) ++ (get_or (v ORIGINS) i 0 ∷ [])
        marks_so_far =
            take-suc (v ORIGINS) i 0 marks_room
            ∙ ap (λ (x : List ℕ). x ++ (get_or (v ORIGINS) i 0 ∷ []))
            (take-agree i (v ORIGINS) (u ORIGINS) (omega arith) (omega arith) (λ j b. rep.other_marks j (λ e. omega arith)))

        marked-so_far :
            (so : List Origin) (come : Origin) → map mark_of so ≡ take i (u ORIGINS) → mark_of come ≡ get_or (v ORIGINS) i 0 →
            map mark_of (so ++ (come ∷ [])) ≡ take (suc i) (v ORIGINS)
        marked-so_far so come e f = map-append mark_of so (come ∷ []) ∙ rw (e, f) (sym marks_so_far)

        pub replying_next :
            (at' : ℕ) → IsWord at' →
            ((end : ℕ) → InTurn any_request s (get_or (t COUNTS) AT 0) (requests s) end → InTurn any_request s at' (drop (i + 1) (requests s)) end) →
            Replying s p t v g o at' (i + 1)
        unfolding answer_all at_record
        replying_next at' word turn =
            record {
              few = omega arith;
              word = word;
              turn = turn;
              rest =
                  λ pool b.
                  let (mid, so, e, m, marks) = l.rest pool b in
                  let (after, come, found, c, mark) = rep.met mid so (pooled_now mid m) z in
                  let is :
                  answer chosen.0.ldc (goal_for s chosen.0) (ready_so_far s u mid so)
                  ≡ good (get_or (v ANSWERS) i 0, ready_so_far s v after (so ++ come ∷ [])) =
                  rw (same-ready mid so) at found in (
                    after,
                    so ++ come ∷ [],
                    e
                        ∙ rw (turned mid, answer_all, is, at_record, add-one i, answers_so_far, place_is)
                        (regroup
                        (answer_all (namings_in s) (constants_in s) (suc (suc (place_count u))) (drop (suc i) (requests s)) (ready_so_far s v after (so ++ come ∷ [])))
                        (get_or (v ANSWERS) i 0)
                        (take i (u ANSWERS))),
                    c,
                    rw (add-one i) (marked-so_far so come marks mark),
                  );
              asking = rep.again z;
              visits = omega (arith, rep.visits z, visits_now);
              place = omega (arith, place_is, l.place);
              apart = apart_on;
              long = rep.long ∙ l.long;
              counters = counters_on;
              kept = kept_on;
            }

  -- none is left: record 60 is in turn
  module _ (over : length (requests s) ≤ i) (answers-long : length (u ANSWERS) ≡ length (requests s)) (marks_long : length (u ORIGINS) ≡ length (requests s)) (counts-long : PLACE < length (u COUNTS)) (at_long : AT < length (counted COUNTS)) where
    abbrev last : Store
    last = put counted COUNTS AT at

    pub replying_end : RepliedAll s p t last g h 0
    unfolding answer_all
    replying_end =
        let all : length (requests s) ≡ i = omega (arith, l.few) in
        let none : drop i (requests s) ≡ [] = rw (← all) (drop-length (requests s)) in
        let whole : take i (u ANSWERS) ≡ u ANSWERS = take_all i (u ANSWERS) (omega arith) in
        let marks-whole : take i (u ORIGINS) ≡ u ORIGINS = take_all i (u ORIGINS) (omega arith) in
        record {
          met =
              λ pool b f.
              let (mid, so, e, m, marks) = l.rest pool b in
              let told : map origin_word (u ORIGINS) ≡ so = ap (map origin_word) (sym (marks ∙ marks-whole)) ∙ words_back so in
              let ready : ready_in s last mid ≡ ready_so_far s u mid so =
              (λ j. record { table = linked_in s; resolved = placed-resolved s p counted AT at (omega arith) j; pool = mid; origins = told j }) ∙ same-ready mid so in (
                mid,
                e ∙ rw (none, answer_all, whole, append-nil, ready),
                placed-pooled s p counted AT at (omega arith) mid h (pooled_now mid m),
                ap (map mark_of) told ∙ marks ∙ marks-whole,
              );
          refused = λ pool b f. absurd (omega arith);
          again = λ f. placed-asking s p counted AT at (omega arith) h asking_now;
          at =
              λ f end stand.
              get_or-set_same (counted COUNTS) AT at 0 at_long
              ∙ subst (λ (x : List Request). InTurn any_request s at x end) none (l.turn end stand);
          place =
              λ f.
              get_or-set_other (counted COUNTS) AT PLACE at 0 (λ e. omega arith)
              ∙ get_or-set_same (u COUNTS) PLACE (place_count u + 1) 0 counts-long
              ∙ omega (arith, l.place);
          visits = λ f. rw (placed-visits s p counted AT at (omega arith)) (omega (arith, visits_now));
          apart = λ top a. placed-apart s p counted AT at (omega arith) top h (placed-apart s p u PLACE (place_count u + 1) (omega arith) top h (l.apart top a));
          long = l.long;
          counters =
              λ c f.
              let (a, x) = not-among c PLACE (AT ∷ asked_counters) f in
              let (b, y) = not-among c AT asked_counters x in
              get_or-set_other (counted COUNTS) AT c at 0 b ∙ get_or-set_other (u COUNTS) PLACE c (place_count u + 1) 0 a ∙ l.counters c a y;
          kept =
              kept_put asked_regions t counted COUNTS AT at refl
              (kept_put asked_regions t u COUNTS PLACE (place_count u + 1) refl l.kept);
        }

-- AS THE CODE HAS IT

pub counted_is : (u x : Store) (r : ℕ) → r ≡ place_count u → x ≡ put u COUNTS PLACE (r + 1) → x ≡ put u COUNTS PLACE (place_count u + 1)
counted_is u x r e f = f ∙ ap (λ (n : ℕ). put u COUNTS PLACE (n + 1)) e

pub replied_on :
    (s p : List ℕ) (at i : ℕ) (x y v : Store) (h o : GapTable) (r : ℕ) → x ≡ y →
    WhatRequest s at (λ q. Replied s p q i x v h o r) → WhatRequest s at (λ q. Replied s p q i y v h o r)
replied_on s p at i x y v h o r e told q next f c = subst (λ (z : Store). Replied s p q i z v h o r) e (told q next f c)

pub record Counted (s p : List ℕ) : Type 0 where
  pub answers : size p ANSWERS ≡ length (job_in s).requests
  pub origins : size p ORIGINS ≡ length (job_in s).requests
  pub counts : size p COUNTS ≡ 20
  pub short : length s ≤ 1048576

pub requests_counted : (s p : List ℕ) → Work s p → Counted s p
unfolding counts_in counts_of
requests_counted s p work =
    record {
      answers = (work-sizes s p work).answers;
      origins = (work-sizes s p work).origins;
      counts = (work-sizes s p work).counts;
      short = (small s (work-formed s p work)).bytes;
    }

pub ended :
    (s p : List ℕ) (t u : Store) (g h : GapTable) (at i : ℕ) → Replying s p t u g h at i → length (job_in s).requests ≤ i →
    length (u ANSWERS) ≡ length (job_in s).requests → length (u ORIGINS) ≡ length (job_in s).requests → length (u COUNTS) ≡ 20 →
    (x y : Store) → x ≡ put u COUNTS PLACE (place_count u + 1) → length (x COUNTS) ≡ 20 → y ≡ put x COUNTS AT at → RepliedAll s p t y g h 0
ended s p t u g h at i l over answers marks counts x y e long f =
    rw (f, e)
    (replying_end s p t u g h at i l over answers marks (omega arith) (omega (arith, ap (λ (z : Store). length (z COUNTS)) e)))
