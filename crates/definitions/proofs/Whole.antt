-- The definitions from the first to the last: what stands before them, between them and behind them. Assumes nothing.
use mathlib.Core.List.{List, [], ◌∷◌}
use mathlib.Core.Logic.{⊎_elim}
use mathlib.Core.Option.{some}
use mathlib.Core.Path.{◌≡◌, refl, sym, ap, subst, ◌∙◌}
use Prim.Native.Nat.{ℕ, zero, suc, ◌+◌, ◌-◌, ◌≤◌, ◌<◌}
use native.Mathlib.Numerals.{add-one}
use native.Mathlib.Omega.{arith}
use lib.ListN.{length, get_or, get_elem?, set, take, length-set, length-map}
use lib.Seq.{get_or-set_same, get_or-set_other}
use Rattle.definition.specs.Basics.{good, bad}
use Rattle.definition.specs.Shapes.{Entry}
use Rattle.definition.specs.Job.{Reference}
use Rattle.definition.specs.Numbering.{literals, numbered_definition, numbered}
use Rattle.definition.specs.Definitions.{Defined, define_all, nothing_defined}
use Rattle.facts.proofs.Lists.{none≢some, found_inside, inside_found, order}
use Rattle.job.specs.Forms.{references_in, counts_of}
use Rattle.store.specs.Store.{Store, size, put, Kept}
use Rattle.store.specs.JobIn.{job_in, definitions_in, counts_in, namings_of, namings_in, table_in, constants_in}
use Rattle.store.specs.Regions.{COUNTS, NAME-HEADS, RAW-HEADS, NAME-LINKS, NAME-PLACES, PLACE, AT, CONSTANT-COUNT, BOOTSTRAP-COUNT, REFERENCE-COUNT, NAME-COUNT, RAW-COUNT, HELD-COUNT, raws_of, Work}
use Rattle.store.proofs.Keeping.{kept_put, kept_then}
use Rattle.store.proofs.Laying.{work-formed}
use Rattle.store.proofs.Bounds.{formed_laid}
use Rattle.sym_refs.specs.Names.{Names, name_count}
use Rattle.std.specs.Prelude.{Ok, Err}
use Rattle.refusal.specs.declared.Refusal.{Refusal}
use Rattle.refusal.specs.Numbers.{number}
use Rattle.definitions.proofs.Stepped.{number_above}
use Rattle.raws.proofs.Starting.{raws_begin}
use Rattle.definitions.specs.Defining.{done_in, entered_at, records_in, defined_in, Defining, place_count, defined_regions, SomePlace, Answer, Stepped, DefinedAll, Defines, Zeros}
use Rattle.definitions.proofs.Rooms.{room}
use Rattle.definitions.proofs.Prefixes.{take_all, drop_all, no_constants}
use Rattle.definitions.proofs.Entering.{entered_low, entered_high, entered_all}
use Rattle.definitions.proofs.Valued.{values_as}
use Rattle.definitions.proofs.Steps.{SameEntries, SameNames, SameRaws, names_still, raws_still, entries-as, counters_as}

-- the counters that the definitions don't know
abbrev pub SameBehind : Store → Store → Type 0
SameBehind t u = (c : ℕ) → HELD-COUNT < c → get_or (u COUNTS) c 0 ≡ get_or (t COUNTS) c 0

-- BEFORE

pub past_end : (l : List ℕ) (i : ℕ) → length l ≤ i → get_or l i 0 ≡ 0
past_end [] i h = refl
past_end (x ∷ l) zero h = absurd (omega arith)
past_end (x ∷ l) (suc i) h = past_end l i (omega arith)

module _ (p : List ℕ) (top : ℕ) (s : List ℕ) (t : Store) (work : Work s p) (zeros : Zeros p t) (long : (k : ℕ) → length (t k) ≡ size p k) where
  zero-at : (k : ℕ) → k < 9 → (i : ℕ) → get_or (t k) i 0 ≡ 0
  unfolding Zeros
  zero-at k h i = ⊎_elim (λ (l : i < size p k). zeros k h i l) (λ (l : size p k ≤ i). past_end (t k) i (omega (arith, long k))) (order i (size p k))

  none-entered : (e : ℕ) (x : Entry (List ℕ) Reference) {C : Type 0} → entered_at (constants_in s) [] e ≡ some x → C
  none-entered e x h =
      ⊎_elim
      (λ (l : e < constants_in s). none≢some (sym (entered_low (constants_in s) [] [] e l ∙ ap (λ l. get_elem? l e) no_constants.0) ∙ h))
      (λ (l : constants_in s ≤ e). none≢some (sym (entered_high (constants_in s) [] [] e l ∙ ap (λ l. get_elem? l (e - constants_in s)) no_constants.1) ∙ h))
      (order e (constants_in s))

  no_names : (n : ℕ) → n ≡ 0 → Names (size p NAME-HEADS) s (t NAME-PLACES) (t NAME-HEADS) (t NAME-LINKS) n
  no_names n e =
      rw e
      (record {
        few = omega arith;
        at = λ i x l. absurd (omega arith);
        chains = record { first = λ k l. zero-at NAME-HEADS (omega arith) k; next = λ i l. absurd (omega arith) };
        unlike = λ i j x y l m. absurd (omega arith);
      })

  pub all_begin : top < 65535 → Defining p top s t 0 0 nothing_defined
  unfolding nothing_defined definitions_in namings_of
  all_begin few =
      record {
        few = omega arith;
        rest = refl;
        laid = formed_laid s (work-formed s p work);
        turn = (formed_laid s (work-formed s p work)).definitions;
        entries =
            record {
              at = λ e x h. none-entered e x h;
              apart = λ d e x y h. none-entered d x h;
              words = λ i l. absurd (omega (arith, zero-at COUNTS (omega arith) REFERENCE-COUNT));
            };
        values = λ e x h. none-entered e x h;
        counters =
            record {
              constants = zero-at COUNTS (omega arith) CONSTANT-COUNT ∙ sym (ap length no_constants.0);
              bootstraps = zero-at COUNTS (omega arith) BOOTSTRAP-COUNT ∙ sym (ap length no_constants.1);
              references = zero-at COUNTS (omega arith) REFERENCE-COUNT ∙ sym no_constants.2;
            };
        names = no_names (name_count t) (zero-at COUNTS (omega arith) NAME-COUNT);
        named = zero-at COUNTS (omega arith) NAME-COUNT;
        naming = rw (zero-at COUNTS (omega arith) NAME-COUNT);
        raws = raws_begin p (constants_in s) top t few (zero-at RAW-HEADS (omega arith)) (zero-at COUNTS (omega arith) RAW-COUNT) (zero-at COUNTS (omega arith) HELD-COUNT);
        room = omega (arith, zero-at COUNTS (omega arith) RAW-COUNT);
      }

-- BETWEEN

-- the record's number or the place behind may be stored
module _ (p : List ℕ) (top : ℕ) (s : List ℕ) (t : Store) (k at : ℕ) (d : Defined) (g : Defining p top s t k at d) (j v : ℕ) (low : j < 2) where
  same : (c : ℕ) → 1 < c → get_or (set (t COUNTS) j v) c 0 ≡ get_or (t COUNTS) c 0
  same c h = get_or-set_other (t COUNTS) j c v 0 (λ q. omega arith)

  same_entries : SameEntries t (put t COUNTS j v)
  same_entries =
      record {
        records = refl;
        offsets = refl;
        firsts = refl;
        sizes = refl;
        goals = refl;
        constants = same CONSTANT-COUNT (omega arith);
        bootstraps = same BOOTSTRAP-COUNT (omega arith);
        references = same REFERENCE-COUNT (omega arith);
      }

  same_names : SameNames t (put t COUNTS j v)
  same_names = record { places = refl; heads = refl; links = refl; count = same NAME-COUNT (omega arith) }

  same-raws : SameRaws t (put t COUNTS j v)
  same-raws = record { item_keys = refl; entries = refl; heads = refl; links = refl; count = same RAW-COUNT (omega arith); held = same HELD-COUNT (omega arith) }

  pub all_stored : Defining p top s (put t COUNTS j v) k at d
  all_stored =
      record {
        few = g.few;
        rest = g.rest;
        laid = g.laid;
        turn = g.turn;
        entries = entries-as s k t (put t COUNTS j v) same_entries g.entries;
        values = values_as s k t (put t COUNTS j v) at g.values refl (λ i l. refl);
        counters = counters_as s k t (put t COUNTS j v) same_entries g.counters;
        names = names_still (size p NAME-HEADS) s t (put t COUNTS j v) same_names g.names;
        named = same_names.count ∙ g.named;
        naming = g.naming ∙ ap (λ m. take m (namings_in s)) (sym same_names.count);
        raws = raws_still p (constants_in s) top d.held d.indexes t (put t COUNTS j v) same-raws g.raws;
        room = omega (arith, same-raws.count, g.room);
      }

module _ (p : List ℕ) (top : ℕ) (s : List ℕ) (t : Store) (k at : ℕ) (d : Defined) (g : Defining p top s t k at d) (wide : 20 ≤ length (t COUNTS)) where
  placed : place_count (put t COUNTS PLACE k) ≡ k
  placed = get_or-set_same (t COUNTS) PLACE k 0 (omega arith)

  pub all_place : k < length (definitions_in s) → SomePlace p top s (put t COUNTS PLACE k) at
  unfolding SomePlace
  all_place more =
      (d, (subst (λ m. Defining p top s (put t COUNTS PLACE k) m at d) (sym placed) (all_stored p top s t k at d g PLACE k (omega arith)), omega (arith, placed)))

  module _ (u : Store) (r : Answer) (step : Stepped p top s (put t COUNTS PLACE k) u r) where
    pub all_next : (next : ℕ) → r ≡ Ok next → (d' : Defined) × Defining p top s u (k + 1) next d'
    all_next next e =
        let n = step.through next e in
        (n.0, rw (add-one k) (subst (λ m. Defining p top s u (suc m) next n.0) placed n.1))

    pub all_refused : (e : Refusal) → r ≡ Err e → (0 < number e) × (defined_in top s ≡ bad (record { code = number e; place = place_count u }))
    all_refused e is = (number_above e, rw step.place (step.refused e is))

-- BEHIND

module _ (p : List ℕ) (top : ℕ) (s : List ℕ) (t : Store) (work : Work s p) (k at : ℕ) (d : Defined) (g : Defining p top s t k at d) (end : length (definitions_in s) ≤ k) where
  all_done : done_in s k ≡ definitions_in s
  all_done = take_all (definitions_in s) k end

  pub all_at : at ≡ g.laid.fifty
  all_at = rw (drop_all (definitions_in s) k end) at g.turn

  records-long : length (records_in s) ≡ length (definitions_in s)
  unfolding records_in numbered definitions_in
  records-long = length-map (job_in s).definitions (numbered_definition (literals (job_in s)))

  run : defined_in top s ≡ good d
  unfolding define_all
  run = g.rest ∙ rw (drop_all (records_in s) k (omega (arith, records-long)))

  references-are : get_or (t COUNTS) REFERENCE-COUNT 0 ≡ (counts_in s).references
  unfolding counts_in counts_of
  references-are = g.counters.references ∙ ap references_in all_done

  raws_are : raws_of (counts_of (done_in s k) 0) ≡ raws_of (counts_in s)
  unfolding counts_in counts_of
  raws_are = ap (λ l. raws_of (counts_of l 0)) all_done

  named-all : name_count t ≡ length (namings_in s)
  named-all = g.named ∙ ap (λ l. length (namings_of l)) all_done

  entry_of : (e : ℕ) (x : Entry (List ℕ) Reference) → get_elem? (table_in s) e ≡ some x → entered_at (constants_in s) (done_in s k) e ≡ some x
  entry_of e x h = rw all_done (entered_all s e x h)

  pub all_end : (u : Store) → u ≡ put (put t COUNTS PLACE k) COUNTS AT (at + 1) → 20 ≤ length (t COUNTS) → DefinedAll p top s u d
  all_end u e wide =
      let f = all_stored p top s (put t COUNTS PLACE k) k at d (all_stored p top s t k at d g PLACE k (omega arith)) AT (at + 1) (omega arith) in
      rw e
      (record {
        is = run;
        naming = g.naming ∙ take_all (namings_in s) (name_count t) (omega (arith, named-all));
        entered =
            record {
              at = λ e x h. rw references-are at (g.entries.at e x (entry_of e x h)).at;
              apart = λ a b low high n. let x = inside_found (table_in s) a low in let y = inside_found (table_in s) b high in g.entries.apart a b x.0 y.0 (entry_of a x.0 x.1) (entry_of b y.0 y.1) n;
              worked = λ e low. let x = inside_found (table_in s) e low in (g.values e x.0 (entry_of e x.0 x.1)).1;
            };
        kids = λ e x h i r. (g.entries.at e x (entry_of e x h)).kids i r;
        words = λ i l. g.entries.words i (omega (arith, references-are));
        turns = λ e x h. (g.entries.at e x (entry_of e x h)).turn;
        names = f.names;
        named = f.named ∙ ap (λ l. length (namings_of l)) all_done;
        raws = f.raws;
        room = omega (arith, f.room, raws_are, (room s p work).raw_keys);
        laid = g.laid;
        at = get_or-set_same (set (t COUNTS) PLACE k) AT (at + 1) 0 (simp length-set (omega arith)) ∙ ap (λ m. m + 1) all_at;
      })

  pub all_low : at < length s
  all_low = omega (arith, all_at, found_inside s g.laid.fifty 0x50 g.laid.is_fifty)

  pub all_finish : (t₀ u : Store) (n : ℕ) → Kept defined_regions t₀ t → SameBehind t₀ t → n ≡ k → n ≡ length (definitions_in s) → u ≡ put (put t COUNTS PLACE n) COUNTS AT (at + 1) → 20 ≤ length (t COUNTS) → Defines p top s t₀ u 0
  all_finish t₀ u n kept counters is long e wide =
      record {
        through = λ _. ((d, all_end u (rw is at e) wide), rw e (get_or-set_other (set (t COUNTS) PLACE n) AT PLACE (at + 1) 0 (λ q. omega arith) ∙ get_or-set_same (t COUNTS) PLACE n 0 (omega arith) ∙ long));
        refused = λ z. absurd (omega arith);
        counters = λ c l. rw e (get_or-set_other (set (t COUNTS) PLACE n) AT c (at + 1) 0 (λ q. omega arith) ∙ get_or-set_other (t COUNTS) PLACE c n 0 (λ q. omega arith) ∙ counters c l);
        kept = rw e (kept_put defined_regions t₀ (put t COUNTS PLACE n) COUNTS AT (at + 1) refl (kept_put defined_regions t₀ t COUNTS PLACE n refl kept));
      }

-- what is written between
pub all_kept :
    (p : List ℕ) (top : ℕ) (s : List ℕ) (t₀ t u : Store) (k : ℕ) (r : Answer) → Kept defined_regions t₀ t → Stepped p top s (put t COUNTS PLACE k) u r →
    Kept defined_regions t₀ u
all_kept p top s t₀ t u k r kept step =
    kept_then defined_regions t₀ (put t COUNTS PLACE k) u (kept_put defined_regions t₀ t COUNTS PLACE k refl kept) step.kept

pub all_counters :
    (p : List ℕ) (top : ℕ) (s : List ℕ) (t₀ t u : Store) (k : ℕ) (r : Answer) → SameBehind t₀ t → Stepped p top s (put t COUNTS PLACE k) u r → SameBehind t₀ u
all_counters p top s t₀ t u k r same step c l = step.counters c l ∙ get_or-set_other (t COUNTS) PLACE c k 0 (λ q. omega arith) ∙ same c l
