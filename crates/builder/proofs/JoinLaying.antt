-- `lay_out` from call to call: what each call asks, and what is laid out where one refuses, or all are through. Assumes nothing.
use mathlib.Core.List.{List}
use mathlib.Core.Path.{◌≡◌, sym, ap, subst}
use Prim.Native.Nat.{ℕ, ◌≤◌, ◌<◌}
use native.Mathlib.Omega.{arith}
use lib.ListN.{length, get_or}
use Rattle.definition.specs.Numbering.{top_of}
use Rattle.definition.specs.Slots.{highest_slot}
use Rattle.laws.specs.Statements.{IsBytes}
use Rattle.laws.proofs.Form.HighestSlots.{top-low}
use Rattle.job.specs.declared.JobCounts.{JobCounts}
use Rattle.job.specs.Forms.{counts_of}
use Rattle.slots.specs.Gaps.{GapTable}
use Rattle.store.specs.Store.{Store, size, store, On}
use Rattle.store.specs.Chains.{Heads}
use Rattle.store.specs.JobIn.{WellFormed, job_in, definitions_in, counts_in}
use Rattle.store.specs.Regions.{COUNTS, GIVEN, OWNER-HEADS, OWNER-LINKS, NODE-COUNT, Work}
use Rattle.store.proofs.Stores.{length-store}
use Rattle.store.proofs.Laying.{work-formed}
use Rattle.store.proofs.Bounds.{formed_job}
use Rattle.definitions.proofs.Beginning.{on_kept}
use Rattle.interner.specs.Nodes.{node_count}
use Rattle.output.specs.Contents.{OwnersMade}
use Rattle.requests.specs.Asked.{AskedAll}
use Rattle.building.specs.Built.{CanBuild, BuiltAll}
use Rattle.ending.specs.Ended.{CanEnd, PoolEnded}
use Rattle.builder.specs.Rendered.{LaidOut}
use Rattle.builder.proofs.Stages.{refused_asking}
use Rattle.builder.proofs.JoinAsking.{can_build}
use Rattle.builder.proofs.JoinEnding.{built_refused, can_end, named-refused}
use Rattle.builder.proofs.JoinFinal.{can_own, all_through}

-- THE HIGHEST SLOT that the form pass found is the job's
module _ (s : List ℕ) (c : JobCounts) (is : c ≡ counts_in s) where
  top-counted : c.highest ≡ top_of (job_in s)
  unfolding counts_in counts_of definitions_in
  top-counted = ap (λ (x : JobCounts). x.highest) is

  -- and one that there is
  pub top-few : WellFormed s → c.highest ≤ highest_slot
  top-few formed = rw top-counted (top-low s (job_in s) (formed_job s formed))

-- BEHIND THE REQUESTS: w are the words
module _
    (p w s : List ℕ) (g : GapTable) (a : ℕ) (c : JobCounts) (is : c ≡ counts_in s)
    (asked-counted : AskedAll p (length w) c.highest s (store p w) g a) where
  abbrev top : ℕ
  top = top_of (job_in s)

  abbrev version : ℕ
  version = (counts_in s).version

  asked : AskedAll p (length w) top s (store p w) g a
  asked = subst (λ (n : ℕ). AskedAll p (length w) n s (store p w) g a) (top-counted s c is) asked-counted

  abbrev t : Store
  t = store p w

  pub laid_asked : 0 < a → LaidOut p (length w) s t a
  laid_asked more =
      record { places = asked.places; through = λ e. absurd (omega arith); refused = λ _. refused_asking top s _ (asked.refused more) }

  module _ (fine : a ≡ 0) where
    abbrev work : Work s p
    work = asked.places.0

    pub to_build : On p (length w) × Work s p × CanBuild s p t g
    to_build = let q = asked.through fine in (asked.places.1, work, can_build p top s t g q.0 work (length-store p w) q.3.words)

    -- BEHIND BUILDING: x are the words
    module _
        (x : List ℕ) (many : length x ≡ length w) (h : GapTable) (r : ℕ) (built-counted : BuiltAll s p c.version (store p w) (store p x) g h r) where
      built : BuiltAll s p version (store p w) (store p x) g h r
      built = subst (λ (y : JobCounts). BuiltAll s p y.version (store p w) (store p x) g h r) is built-counted

      abbrev u : Store
      u = store p x

      places_built : Work s p × On p (length x)
      places_built = (work, on_kept p w x many asked.places.1)

      pub laid_built : 0 < r → LaidOut p (length x) s u r
      laid_built more =
          let q = asked.through fine in
          record {
            places = places_built;
            through = λ e. absurd (omega arith);
            refused = λ _. built_refused p top s t u g h r work (length-store p w) q.0 q.1 q.2 q.3 built more;
          }

      pub to_end : r ≡ 0 → On p (length x) × CanEnd s p c.highest u h
      to_end built-fine =
          let q = asked.through fine in
          let low = top-low s (job_in s) (formed_job s (work-formed s p work)) in
          let ready = can_end p top s t u g h r work (length-store p w) q.0 q.1 q.2 q.3 built built-fine low in
          (places_built.1, subst (λ (n : ℕ). CanEnd s p n u h) (sym (top-counted s c is)) ready)

      -- BEHIND THE NAME AND THE COUNT: y are the words
      module _
          (built-fine : r ≡ 0) (y : List ℕ) (as_many : length y ≡ length x) (i : GapTable) (n : ℕ)
          (ended-counted : PoolEnded s p c.highest (store p x) (store p y) h i n) where
        ended : PoolEnded s p top (store p x) (store p y) h i n
        ended = subst (λ (z : ℕ). PoolEnded s p z (store p x) (store p y) h i n) (top-counted s c is) ended-counted

        abbrev v : Store
        v = store p y

        places_named : Work s p × On p (length y)
        places_named = (work, on_kept p x y as_many places_built.1)

        pub laid_named : 0 < n → LaidOut p (length y) s v n
        laid_named more =
            let q = asked.through fine in
            record {
              places = places_named;
              through = λ e. absurd (omega arith);
              refused =
                  λ _. named-refused p top s t u g h r work (length-store p w) q.0 q.1 q.2 q.3 built built-fine v i n ended more;
            }

        pub to_own :
            On p (length y)
            × Heads p OWNER-HEADS
            × (NODE-COUNT < size p COUNTS)
            × (node_count v ≤ size p GIVEN)
            × (node_count v ≤ size p OWNER-LINKS)
            × ((k : ℕ) → get_or (v OWNER-HEADS) k 0 ≡ 0)
        to_own =
            let q = asked.through fine in
            let o = can_own s p t u v g h i r n work (length-store p w) q.0 q.1 q.2 q.3 built built-fine ended in
            (places_named.1, o.0, o.1, o.2, o.3, o.4)

        -- BEHIND THE OWNERS: z are the words
        pub laid_all :
            IsBytes s → n ≡ 0 → (z : List ℕ) → length z ≡ length y → OwnersMade p v (store p z) →
            LaidOut p (length z) s (store p z) 0
        laid_all bytes named-fine z still owners =
            let q = asked.through fine in
            record {
              places = (work, on_kept p y z still places_named.1);
              through =
                  λ _.
                  all_through s p t u v g h i r n work (length-store p w) q.0 q.1 q.2 q.3 built built-fine ended
                  (length-store p y)
                  bytes
                  named-fine
                  (store p z)
                  owners;
              refused = λ more. absurd (omega arith);
            }
