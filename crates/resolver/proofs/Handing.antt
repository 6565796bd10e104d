-- What callers start from and get: with nothing resolved all rests, and a goal that was resolved became a child. Assumes nothing.
use mathlib.Core.Bool.{Bool, true, false}
use mathlib.Core.List.{List, [], ◌∷◌, map}
use mathlib.Core.Path.{◌≡◌, refl, sym, ap, subst, ◌∙◌}
use Prim.Native.Nat.{ℕ, zero, suc, ◌≤◌}
use native.Mathlib.Omega.{arith}
use lib.Dec.{ltb}
use lib.ListN.{length, get_or, replicate, length-replicate}
use Rattle.definition.specs.Basics.{only}
use Rattle.definition.specs.Resolving.{Node, fresh, nothing_resolved}
use Rattle.facts.proofs.Lists.{only_here, only-later}
use Rattle.laws.proofs.Resolving.OwedVisits.{owing-start}
use Rattle.laws.specs.Faithful.{Faithful, Settled}
use Rattle.laws.proofs.Resolving.FaithfulToEntries.{Grows, nothing_faithful, resolve-faithful}
use Rattle.store.specs.Store.{Store}
use Rattle.store.specs.JobIn.{entries_in, linked_in}
use Rattle.store.specs.Regions.{COUNTS, MARKS, NODE-HEADS, OFFSETS, FIRSTS, SIZES, GOALS, VISITS}
use Rattle.store.specs.Words.{mark_word, goal_word, IsGoal}
use Rattle.store.specs.Small.{Small}
use Rattle.interner.specs.Nodes.{node_count, nodes_in}
use Rattle.resolver.specs.Resolved.{resolved_in, unfinished, Became, Table, AtRest, Resolves}
use Rattle.resolver.proofs.Meanings.{goal_in_lem, settled-became}
use Rattle.resolver.proofs.Tabled.{cited, linked-count}
use Rattle.resolver.proofs.Going.{told-good}

unfinished-most : (marks : List ℕ) → unfinished marks ≤ length marks
unfolding only
unfinished-most [] = omega arith
unfinished-most (m ∷ marks) = ways (ltb m 2) refl (unfinished-most marks)
  where
    ways : (b : Bool) → ltb m 2 ≡ b → unfinished marks ≤ length marks → unfinished (m ∷ marks) ≤ suc (length marks)
    ways true q ih = rw (only_here (λ m. ltb m 2) m marks q) (omega arith)
    ways false q ih = rw (only-later (λ m. ltb m 2) m marks q) (omega arith)

all_fresh : (n : ℕ) → map mark_word (replicate n 0) ≡ replicate n fresh
unfolding mark_word
all_fresh zero = refl
all_fresh (suc n) = ap (λ l. fresh ∷ l) (all_fresh n)

-- marks and heads are zeros, and there is no node
module _
    (h : ℕ) (s : List ℕ) (t : Store) (few : Small s) (table : Table s t)
    (marks : t MARKS ≡ replicate (entries_in s) 0) (heads : (k : ℕ) → get_or (t NODE-HEADS) k 0 ≡ 0) (count : node_count t ≡ 0) where
  marks_are : map mark_word (t MARKS) ≡ replicate (length (linked_in s)) fresh
  marks_are = rw (marks, linked-count s) (all_fresh (entries_in s))

  pub nothing_rests : AtRest h s t
  unfolding nothing_resolved
  nothing_rests =
      let f = nothing_faithful (linked_in s) (cited s (t OFFSETS) (t FIRSTS) (t SIZES) (t GOALS) table.entered table.linked few.entries) in
      record {
        nodes =
            rw count
            (record {
              few = omega arith;
              inside = λ i l. absurd (omega arith);
              chains = record { first = λ k l. heads k; next = λ i l. absurd (omega arith) };
              unlike = λ i j l k. absurd (omega arith);
            });
        made = λ i l. absurd (omega arith);
        lowest = λ k l. absurd (omega arith);
        room = omega (arith, unfinished-most (t MARKS), ap length marks, length-replicate {A = ℕ} (entries_in s) 0);
        faithful =
            subst (Faithful (linked_in s)) (λ i. record { marks = sym marks_are i; nodes = nodes_are i; visits = get_or (t COUNTS) VISITS 0 })
            (record { marks_length = f.marks_length; node_of = f.node_of; from_entry = f.from_entry; none_underway = f.none_underway });
        owed = rw marks_are (omega (arith, owing-start (linked_in s)));
      }
    where
      nodes_are : ◌≡◌ {A = List Node} [] (nodes_in s t)
      nodes_are = rw count

module _ (h : ℕ) (s : List ℕ) (t u : Store) (goal : ℕ) (few : Small s) (table : Table s t) (rests : AtRest h s t) (is : IsGoal (entries_in s) goal) (done : Resolves h s t u goal 0) where
  settled : Settled (map mark_word (u MARKS)) (goal_word goal) × Grows (resolved_in s t) (resolved_in s u)
  settled =
      let q =
      resolve-faithful (linked_in s) (goal_word goal) (resolved_in s t) (resolved_in s u)
      (cited s (t OFFSETS) (t FIRSTS) (t SIZES) (t GOALS) table.entered table.linked few.entries)
      (rw (linked-count s) (goal_in_lem (entries_in s) goal few.entries is))
      rests.faithful
      (done.is ∙ told-good (resolved_in s u)) in
      (q.1, q.2)

  -- the goal became a child
  pub resolved_became : Became (u MARKS) goal
  resolved_became = settled-became (entries_in s) (u MARKS) goal few.entries is settled.0

  -- and what was resolved before stays
  pub resolved_grows : Grows (resolved_in s t) (resolved_in s u)
  resolved_grows = settled.1
