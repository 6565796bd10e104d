-- Requests in the regions: what a request works on, and what it leaves. Assumes nothing.
use Rattle.std.specs.Prelude.{Bool, false, ◌||◌, not, List, [], ◌∷◌, ◌++◌, map, ◌⊎◌, ◌≡◌, ℕ, zero, suc, ◌+◌, ◌≤◌, ◌<◌, leb, length, get_or}
use Rattle.std.proofs.Math.Option.{some}
use Rattle.std.proofs.Math.ListN.{get_elem?}
use Rattle.definition.specs.Basics.{Result, good, bad, Refusal, unless}
use Rattle.definition.specs.Job.{Request}
use Rattle.definition.specs.Resolving.{Goal, goal_of}
use Rattle.definition.specs.Slots.{highest_ldc}
use Rattle.definition.specs.Building.{Pool, Origin, raw, new, old, mark_of}
use Rattle.definition.specs.Layout.{Ready, answer, answer_all}
use Rattle.laws.specs.Gaps.{Apart}
use Rattle.job.specs.Stored.{Found, InTurn, any_request}
use Rattle.slots.specs.Gaps.{GapTable}
use Rattle.store.specs.Store.{Store, size, put, among, Kept}
use Rattle.store.specs.JobIn.{job_in, entries_in, constants_in, namings_in, linked_in}
use Rattle.store.specs.Regions.{COUNTS, MARKS, GIVEN, NAME-HEADS, NODE-HEADS, NODE-LINKS, CHILDREN, NAME-GOALS, NODES, STACK, PENDING, ANSWERS, ORIGINS, PLACE, AT, NODE-COUNT, VISITS, ODD, WIDE, PLAIN, PENDING-COUNT}
use Rattle.store.specs.Words.{goal_word, IsGoal}
use Rattle.sym_refs.specs.Names.{CitedIn, Goals}
use Rattle.sym_refs.specs.Leading.{AllNames}
use Rattle.resolver.specs.Resolved.{resolved_in, Table, AtRest, visits_owed}
use Rattle.pool.specs.Pooled.{gaps_in, PooledIn, LiveIn, place_count}

-- a request stands at a place, and what it cites is there
abbrev pub RequestAt : List ℕ → ℕ → Type 0
RequestAt s at = (q : Request) × (next : ℕ) × Found any_request s at q next × CitedIn s q.what

-- what holds of it
abbrev pub WhatRequest : List ℕ → ℕ → (Request → Type 0) → Type 0
WhatRequest s at P = (q : Request) (next : ℕ) → Found any_request s at q next → CitedIn s q.what → P q

-- where it leads
abbrev pub goal_for : List ℕ → Request → Goal
goal_for s q = goal_of (namings_in s) (constants_in s) q.what

-- a goal's word
pub record LeadsTo (s : List ℕ) (goal : Goal) (r : ℕ) : Type 0 where
  pub word : goal_word r ≡ goal
  pub is : IsGoal (entries_in s) r

-- an ldc answer is at most 255
abbrev pub low : Bool → ℕ → Result ℕ (Unit {0})
low ldc slot = unless (not ldc || leb slot highest_ldc) 16

-- a slot became answer i with its mark, or is too high for ldc
abbrev pub KeptAnswer : Bool → ℕ → ℕ → ℕ → Store → Store → ℕ → Type 0
KeptAnswer ldc slot mark i t u r =
    ((r ≡ 0) × (low ldc slot ≡ good tt) × (u ≡ put (put t ANSWERS i slot) ORIGINS i mark)) ⊎ ((r ≡ 16) × (low ldc slot ≡ bad 16) × (u ≡ t))

-- WHAT REQUESTS WORK ON

-- how the answers were come by, as their marks tell
unfoldable pub origin_word : ℕ → Origin
origin_word zero = raw
origin_word (suc zero) = new
origin_word (suc (suc n)) = old

abbrev pub origins_in : Store → List Origin
origins_in t = map origin_word (t ORIGINS)

-- with the answers so far come by like this, and with all of them
abbrev pub ready_so_far : List ℕ → Store → Pool → List Origin → Ready
ready_so_far s t pool so = record { table = linked_in s; resolved = resolved_in s t; pool = pool; origins = so }

abbrev pub ready_in : List ℕ → Store → Pool → Ready
ready_in s t pool = ready_so_far s t pool (origins_in t)

pub record Asking (s p : List ℕ) (t : Store) (g : GapTable) : Type 0 where
  pub table : Table s t
  pub rests : AtRest (size p NODE-HEADS) s t
  pub names : AllNames (size p NAME-HEADS) s t
  pub goals : Goals s (t NAME-GOALS)
  pub live : LiveIn t g

-- the counters and the regions that a request changes
abbrev pub asked_counters : List ℕ
asked_counters = NODE-COUNT ∷ VISITS ∷ ODD ∷ WIDE ∷ PLAIN ∷ PENDING-COUNT ∷ []

abbrev pub asked_regions : List ℕ
asked_regions = COUNTS ∷ MARKS ∷ GIVEN ∷ NODE-HEADS ∷ NODE-LINKS ∷ CHILDREN ∷ NODES ∷ STACK ∷ PENDING ∷ ANSWERS ∷ ORIGINS ∷ []

-- a request is answered, as answer i, or r is the refusal's number
pub record Replied (s p : List ℕ) (q : Request) (i : ℕ) (t u : Store) (g h : GapTable) (r : ℕ) : Type 0 where
  pub met :
      (pool : Pool) (so : List Origin) → PooledIn pool t g → r ≡ 0 →
      (after : Pool)
      × (come : Origin)
      × (answer q.ldc (goal_for s q) (ready_so_far s t pool so) ≡ good (get_or (u ANSWERS) i 0, ready_so_far s u after (so ++ come ∷ [])))
      × PooledIn after u h
      × (mark_of come ≡ get_or (u ORIGINS) i 0)
  pub refused : (pool : Pool) (so : List Origin) → PooledIn pool t g → 0 < r → answer q.ldc (goal_for s q) (ready_so_far s t pool so) ≡ bad r
  pub again : r ≡ 0 → Asking s p u h
  pub visits : r ≡ 0 → visits_owed s u ≤ visits_owed s t + 1
  pub others : (j : ℕ) → (j ≡ i → ⊥) → get_or (u ANSWERS) j 0 ≡ get_or (t ANSWERS) j 0
  pub other_marks : (j : ℕ) → (j ≡ i → ⊥) → get_or (u ORIGINS) j 0 ≡ get_or (t ORIGINS) j 0
  pub apart : (top : ℕ) → Apart top 1 (gaps_in (t COUNTS) g) → Apart top 1 (gaps_in (u COUNTS) h)
  pub long : length h ≡ length g
  pub counters : (c : ℕ) → among c asked_counters ≡ false → get_or (u COUNTS) c 0 ≡ get_or (t COUNTS) c 0
  pub kept : Kept asked_regions t u

-- ALL REQUESTS

-- the requests of a job stand in turn from a place on, and what they cite is there. It is shut, so that a search takes it whole
unfoldable pub RequestsAt : List ℕ → ℕ → Type 0
RequestsAt s at =
    ((end : ℕ) × InTurn any_request s at (job_in s).requests end)
    × ((i : ℕ) (q : Request) → get_elem? (job_in s).requests i ≡ some q → CitedIn s q.what)

-- what the definition makes of them, the record before them being in turn
abbrev pub answered_in : List ℕ → Store → Pool → Result Refusal (List ℕ × Ready)
answered_in s t pool = answer_all (namings_in s) (constants_in s) (suc (place_count t)) (job_in s).requests (ready_so_far s t pool [])

-- all are answered, or r is the refusal's number and PLACE tells the record: t before, u after
pub record RepliedAll (s p : List ℕ) (t u : Store) (g h : GapTable) (r : ℕ) : Type 0 where
  pub met :
      (pool : Pool) → PooledIn pool t g → r ≡ 0 →
      (after : Pool)
      × (answered_in s t pool ≡ good (u ANSWERS, ready_in s u after))
      × PooledIn after u h
      × (map mark_of (origins_in u) ≡ u ORIGINS)
  pub refused : (pool : Pool) → PooledIn pool t g → 0 < r → answered_in s t pool ≡ bad (record { code = r; place = place_count u })
  pub again : r ≡ 0 → Asking s p u h
  -- record 60 is in turn
  pub at : r ≡ 0 → (end : ℕ) → InTurn any_request s (get_or (t COUNTS) AT 0) (job_in s).requests end → get_or (u COUNTS) AT 0 ≡ end
  pub place : r ≡ 0 → place_count u ≡ place_count t + length (job_in s).requests + 1
  pub visits : r ≡ 0 → visits_owed s u ≤ visits_owed s t + length (job_in s).requests
  pub apart : (top : ℕ) → Apart top 1 (gaps_in (t COUNTS) g) → Apart top 1 (gaps_in (u COUNTS) h)
  pub long : length h ≡ length g
  pub counters : (c : ℕ) → among c (PLACE ∷ AT ∷ asked_counters) ≡ false → get_or (u COUNTS) c 0 ≡ get_or (t COUNTS) c 0
  pub kept : Kept asked_regions t u
