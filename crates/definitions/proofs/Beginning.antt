-- A job up to record 50, from the words' start: refused by a definition, refused at record 50, or through. Assumes nothing.
use mathlib.Core.List.{List}
use mathlib.Core.Path.{◌≡◌, refl, ap, ◌∙◌}
use Prim.Native.Nat.{ℕ, ◌<◌}
use native.Mathlib.Omega.{arith}
use lib.ListN.{length, get_or}
use Rattle.definition.specs.Basics.{◌>>=◌, at_record}
use Rattle.definition.specs.Definitions.{Defined}
use Rattle.job.specs.declared.JobCounts.{JobCounts}
use Rattle.job.specs.Forms.{counts_of}
use Rattle.store.specs.JobIn.{definitions_in, counts_in, constants_in}
use Rattle.store.specs.Store.{Store, size, store, On}
use Rattle.store.specs.Regions.{COUNTS, GIVEN, INDEXES, NAME-HEADS, RAW-HEADS, ROW-HEADS, OWNER-HEADS, NAME-LINKS, RAW-LINKS, RECORDS, NAME-PLACES, RAW-KEYS, RAW-ENTRIES, PLACE, AT, NAME-COUNT, RAW-COUNT, HELD-COUNT, Work, Started}
use Rattle.sym_refs.specs.Names.{name_count}
use Rattle.sym_refs.specs.Leading.{AllNames}
use Rattle.raws.specs.Raws.{raw_count, held_count, RawsIn}
use Rattle.definitions.specs.Defining.{place_count, DefinedAll, Defines, Zeros}
use Rattle.definitions.specs.Ending.{Ended}
use Rattle.definitions.specs.Begun.{fifty_in, begun_in, Begun}
use Rattle.definitions.proofs.Ends.{zero-beyond}
use Rattle.definitions.proofs.Handing.{ended_good, ended_bad}
use Rattle.definitions.proofs.Recorded.{records-are}

-- what the start leaves is zero
pub start_zeros : (c : JobCounts) (n : ℕ) (p before after : List ℕ) → Started c n p before after → Zeros p (store p after)
unfolding Zeros
start_zeros c n p before after g = g.zeros

-- as many definitions as were counted
pub counted : (s : List ℕ) (c : JobCounts) → c ≡ counts_in s → c.definitions ≡ length (definitions_in s)
unfolding counts_in counts_of
counted s c e = ap (λ (x : JobCounts). x.definitions) e

-- as many words
pub on_kept : (p before after : List ℕ) → length after ≡ length before → On p (length before) → On p (length after)
on_kept p before after e on = rw e on

-- what the start zeroed is zero at every place
start_zero : (p : List ℕ) (t : Store) → Zeros p t → ((k : ℕ) → length (t k) ≡ size p k) → (k : ℕ) → k < 9 → (i : ℕ) → get_or (t k) i 0 ≡ 0
unfolding Zeros
start_zero p t zeros long k low i = zero-beyond (t k) (λ i l. zeros k low i (omega (arith, long k))) i

module _ (p : List ℕ) (words top : ℕ) (s : List ℕ) (t u : Store) (places : Work s p × On p words) where
  pub begun_refused : (r : ℕ) → 0 < r → Defines p top s t u r → Begun p words top s u r
  unfolding begun_in
  begun_refused r h g =
      record { places = places; through = λ e. absurd (omega arith); refused = λ _. ap (λ x. x >>= fifty_in top s) (g.refused h) }

  module _ (v : Store) (d : Defined) (r code : ℕ) (fine : code ≡ 0) (g : Defines p top s t u code) (all : DefinedAll p top s u d) (ended : Ended p top s u v d r) where
    -- names and raw definitions are as the definitions left them
    fifty_names : AllNames (size p NAME-HEADS) s v
    fifty_names =
        let k = ended.kept in
        let n : name_count v ≡ name_count u = ended.counters NAME-COUNT (λ z. omega arith) (λ z. omega arith) in
        rw (k NAME-PLACES refl, k NAME-HEADS refl, k NAME-LINKS refl, n) (all.names, all.named)

    fifty_count : raw_count v ≡ raw_count u
    fifty_count = ended.counters RAW-COUNT (λ z. omega arith) (λ z. omega arith)

    fifty_raws : RawsIn p (constants_in s) top d.held d.indexes v
    fifty_raws =
        let k = ended.kept in
        let m : held_count v ≡ held_count u = ended.counters HELD-COUNT (λ z. omega arith) (λ z. omega arith) in
        rw (k RAW-KEYS refl, k RAW-ENTRIES refl, k RAW-HEADS refl, k RAW-LINKS refl, fifty_count, m) all.raws

    pub begun_fifty : Zeros p t → ((k : ℕ) → length (t k) ≡ size p k) → Begun p words top s v r
    unfolding begun_in fifty_in at_record
    begun_fifty zeros long =
        let place : place_count v ≡ place_count u = ended.counters PLACE (λ z. omega arith) (λ z. omega arith) in
        let zero = start_zero p t zeros long in
        record {
          places = places;
          through =
              λ e. (
                d,
                record {
                  is = ap (λ x. x >>= fifty_in top s) all.is ∙ rw (ended_good p top s u v d r ended e);
                  is_defined = all.is;
                  is_ready = ended_good p top s u v d r ended e;
                  naming = all.naming;
                  records = rw (ended.kept RECORDS refl) (records-are s (u RECORDS) all.turns);
                  table = ended.table;
                  rest = ended.again e;
                  visits = rw fifty_count (ended.visits e);
                  names = fifty_names;
                  goals = ended.goals;
                  raws = fifty_raws;
                  ordered = ended.ordered;
                  room = rw fifty_count all.room;
                  laid = all.laid;
                  at = ended.counters AT (λ z. omega arith) (λ z. omega arith) ∙ all.at;
                  place = place ∙ (g.through fine).1;
                  given = λ i. rw (ended.kept GIVEN refl, g.kept GIVEN refl) (zero GIVEN (omega arith) i);
                  indexes = λ i. rw (ended.kept INDEXES refl, g.kept INDEXES refl) (zero INDEXES (omega arith) i);
                  row_heads = λ i. rw (ended.kept ROW-HEADS refl, g.kept ROW-HEADS refl) (zero ROW-HEADS (omega arith) i);
                  owner_heads = λ i. rw (ended.kept OWNER-HEADS refl, g.kept OWNER-HEADS refl) (zero OWNER-HEADS (omega arith) i);
                  counters =
                      λ c l. ended.counters c (λ z. omega arith) (λ z. omega arith) ∙ g.counters c (omega arith) ∙ zero COUNTS (omega arith) c;
                },
              );
          refused = λ h. ap (λ x. x >>= fifty_in top s) all.is ∙ rw (ended_bad p top s u v d r ended h, place, (g.through fine).1);
        }
