-- One definition in turn: what its first byte tells of it, what it needs, and what stands in the regions when it is through. Assumes nothing.
use mathlib.Core.Bool.{Bool, true, false}
use mathlib.Core.List.{List, [], ◌∷◌, ◌++◌}
use mathlib.Core.Option.{some}
use mathlib.Core.Path.{◌≡◌, refl, sym, ap, subst, ◌∙◌}
use Prim.Native.Nat.{ℕ, suc, ◌+◌, ◌-◌, ◌≤◌, ◌<◌}
use native.Mathlib.Numerals.{add-one}
use native.Mathlib.Omega.{arith}
use lib.ListN.{length, get_or, get_elem?, set, take, drop, length-set}
use lib.Seq.{get_or-set_same, get_or-set_other}
use Rattle.definition.specs.Basics.{every, insert, only}
use Rattle.definition.specs.Settings.{Setting, version, texts, highest}
use Rattle.definition.specs.Shapes.{Kind, constant, bootstrap, Entry, is_wide}
use Rattle.definition.specs.Job.{Reference, Definition, define, named, placed, setting}
use Rattle.definition.specs.Form.{kind_of}
use Rattle.definition.specs.Numbering.{constants_of, literals, numbered_definition}
use Rattle.definition.specs.Definitions.{Held, Naming, Defined, is_none, name_target, tag_at, hold, same_kind_lem, with_setting, define_one}
use Rattle.definition.specs.Resolving.{place_of}
use Rattle.laws.specs.Statements.{IsBytes}
use Rattle.facts.proofs.Lists.{inside_found}
use Rattle.laws.specs.Counted.{count_in}
use Rattle.job.specs.Forms.{kids_in, is_placing, counts_of}
use Rattle.job.specs.Stored.{Found, InTurn, WhatEntry, EntryStands, any_definition}
use Rattle.job.proofs.Laws.{number}
use Rattle.job.proofs.Endings.{opens-name, opens-raw, opens-version, opens-texts, opens-highest, opens-entry}
use Rattle.store.specs.Store.{Store, size, Kept}
use Rattle.store.specs.JobIn.{job_in, definitions_in, namings_in, constants_in, entries_in}
use Rattle.store.specs.Regions.{COUNTS, NAME-HEADS, RAW-HEADS, NAME-LINKS, RAW-LINKS, RECORDS, OFFSETS, FIRSTS, SIZES, GOALS, NAME-PLACES, RAW-KEYS, RAW-ENTRIES, VALUES, PLACE, CONSTANT-COUNT, BOOTSTRAP-COUNT, REFERENCE-COUNT, NAME-COUNT, RAW-COUNT, HELD-COUNT, raws_of, Work}
use Rattle.store.specs.Entries.{WordsAt}
use Rattle.store.proofs.Keeping.{kept_put, kept_then, kept_more}
use Rattle.store.proofs.Laying.{work-formed}
use Rattle.sym_refs.specs.Names.{NamingAt, name_count, NamesIn, Tried}
use Rattle.std.specs.Prelude.{Ok, Err}
use Rattle.refusal.specs.Numbers as refusals
use Rattle.refusal.specs.Numbers.{code_of}
use Rattle.raws.specs.Raws.{outcome, raw_count, held_count, RawsIn, SameCounters, TriedConstant, TriedBootstrap}
use Rattle.definitions.specs.Kids.{counted, CanEnter, Enters}
use Rattle.definitions.specs.Defining.{done_in, EntriesIn, Counters, records_in, defined_from, defined_in, Defining, place_count, defined_regions, InPlace, Tested, Answer, answered, Stepped}
use Rattle.definitions.proofs.Stepped.{number_above, answered-through, outcome-refused, stepped-through, stepped-refused}
use Rattle.definitions.proofs.Rooms.{Room}
use Rattle.definitions.proofs.Prefixes.{take_next, drop-next, no_entry}
use Rattle.definitions.proofs.Entering.{entries-skip, entries-more, entered_low}
use Rattle.definitions.proofs.Valued.{values_skip, values_more}
use Rattle.definitions.proofs.Cited.{kids_cited, name_cited, bootstrap_cited, constant_cited}
use Rattle.definitions.proofs.Runs.{passes, refuses, one_entry, one_setting_lem, one_name, one-old, one-constant, one-bootstrap, tag_of, few_constants, few_bootstraps, earlier_constant, references-next, references-room, raws_next, raws_room, counts_constant, counts_bootstrap, counts_other, name_here, names_next, names_same, no_name_lem}

-- LEFT ALONE

-- what of the entries, of the names, of the raw definitions is as it was
pub record SameEntries (t u : Store) : Type 0 where
  pub records : u RECORDS ≡ t RECORDS
  pub offsets : u OFFSETS ≡ t OFFSETS
  pub firsts : u FIRSTS ≡ t FIRSTS
  pub sizes : u SIZES ≡ t SIZES
  pub goals : u GOALS ≡ t GOALS
  pub constants : get_or (u COUNTS) CONSTANT-COUNT 0 ≡ get_or (t COUNTS) CONSTANT-COUNT 0
  pub bootstraps : get_or (u COUNTS) BOOTSTRAP-COUNT 0 ≡ get_or (t COUNTS) BOOTSTRAP-COUNT 0
  pub references : get_or (u COUNTS) REFERENCE-COUNT 0 ≡ get_or (t COUNTS) REFERENCE-COUNT 0

pub record SameNames (t u : Store) : Type 0 where
  pub places : u NAME-PLACES ≡ t NAME-PLACES
  pub heads : u NAME-HEADS ≡ t NAME-HEADS
  pub links : u NAME-LINKS ≡ t NAME-LINKS
  pub count : name_count u ≡ name_count t

pub record SameRaws (t u : Store) : Type 0 where
  pub item_keys : u RAW-KEYS ≡ t RAW-KEYS
  pub entries : u RAW-ENTRIES ≡ t RAW-ENTRIES
  pub heads : u RAW-HEADS ≡ t RAW-HEADS
  pub links : u RAW-LINKS ≡ t RAW-LINKS
  pub count : raw_count u ≡ raw_count t
  pub held : held_count u ≡ held_count t

pub names_still : (h : ℕ) (s : List ℕ) (t u : Store) → SameNames t u → NamesIn h s t → NamesIn h s u
names_still h s t u same g = rw (same.places, same.heads, same.links, same.count) g

pub raws_still : (p : List ℕ) (constants top : ℕ) (held : List (ℕ × Held)) (indexes : List (ℕ × ℕ)) (t u : Store) → SameRaws t u → RawsIn p constants top held indexes t → RawsIn p constants top held indexes u
raws_still p constants top held indexes t u same g = rw (same.item_keys, same.entries, same.heads, same.links, same.count, same.held) g

pub entries-as : (s : List ℕ) (k : ℕ) (t u : Store) → SameEntries t u → EntriesIn s t k → EntriesIn s u k
entries-as s k t u same g = rw (same.records, same.offsets, same.firsts, same.sizes, same.goals, same.references) g

pub counters_as : (s : List ℕ) (k : ℕ) (t u : Store) → SameEntries t u → Counters s (t COUNTS) k → Counters s (u COUNTS) k
counters_as s k t u same g =
    record { constants = same.constants ∙ g.constants; bootstraps = same.bootstraps ∙ g.bootstraps; references = same.references ∙ g.references }

-- a record that is no entry leaves them alone
module _ (s : List ℕ) (k : ℕ) (x : Definition (List ℕ)) (turn : get_elem? (definitions_in s) k ≡ some x) (skip : no_entry x ≡ true) (t u : Store) (same : SameEntries t u) where
  entries-still : EntriesIn s t k → EntriesIn s u (suc k)
  entries-still g = entries-as s (suc k) t u same (entries-skip s (t RECORDS) (t OFFSETS) (t FIRSTS) (t SIZES) (t GOALS) k (get_or (t COUNTS) REFERENCE-COUNT 0) g x turn skip)

  counters_still : Counters s (t COUNTS) k → Counters s (u COUNTS) (suc k)
  counters_still g =
      let n = counts_other s k x turn skip in
      record {
        constants = same.constants ∙ g.constants ∙ sym n.0;
        bootstraps = same.bootstraps ∙ g.bootstraps ∙ sym n.1;
        references = same.references ∙ g.references ∙ sym n.2;
      }

-- a word among counters, after two were stored
two-sets : (l : List ℕ) (a v b w j : ℕ) → (j ≡ a → ⊥) → (j ≡ b → ⊥) → get_or (set (set l a v) b w) j 0 ≡ get_or l j 0
two-sets l a v b w j m n = get_or-set_other (set l a v) b j w 0 n ∙ get_or-set_other l a j v 0 m

-- a setting leaves all but the version
setting_leaves : (rule : Setting) (d : Defined) → ((with_setting rule d).held ≡ d.held) × ((with_setting rule d).indexes ≡ d.indexes) × ((with_setting rule d).names ≡ d.names)
unfolding with_setting
setting_leaves (version v) d = (refl, refl, refl)
setting_leaves texts d = (refl, refl, refl)
setting_leaves (highest top) d = (refl, refl, refl)

-- THE STEP

module _ (p : List ℕ) (top : ℕ) (s : List ℕ) (t : Store) (at : ℕ) (d : Defined) (here : InPlace p top s t at d) where
  abbrev K : ℕ
  K = place_count t

  -- the record in turn, and those behind it
  pub record Now (x : Definition (List ℕ)) (next : ℕ) : Type 0 where
    pub turn : get_elem? (definitions_in s) K ≡ some x
    pub found : Found any_definition s at x next
    pub later : InTurn any_definition s next (drop (suc K) (definitions_in s)) here.0.laid.fifty

  pub now : (x : Definition (List ℕ)) × (next : ℕ) × Now x next
  now =
      let g = inside_found (definitions_in s) K here.1 in
      let r = rw (drop-next (definitions_in s) K g.0 g.1) at here.0.turn in
      (g.0, r.0, record { turn = g.1; found = r.1; later = r.2 })

  -- by its first byte
  pub now_name : (kind : Kind) → get_or s at 0 ≡ elim kind [ constant ↦ 0x41 | bootstrap ↦ 0x42 ] → (l : List ℕ) × (r : Reference) × (next : ℕ) × Now (named kind l r) next
  now_name kind b =
      let n = now in
      let g = opens-name s at n.0 n.1 n.2.found kind b in
      (g.0, g.1, n.1, subst (λ x. Now x n.1) g.5 n.2)

  pub now_raw : (kind : Kind) → get_or s at 0 ≡ elim kind [ constant ↦ 0x43 | bootstrap ↦ 0x44 ] → Now (placed kind (number s (at + 1)) (number s (at + 3))) (at + 5)
  now_raw kind b =
      let n = now in
      let g = opens-raw s at n.0 n.1 n.2.found kind b in
      rw g.0 (subst (λ x. Now x n.1) g.1 n.2)

  pub now_version : get_or s at 0 ≡ 0x47 → Now (setting (version (number s (at + 1)))) (at + 3)
  now_version b =
      let n = now in
      let g = opens-version s at n.0 n.1 n.2.found b in
      rw g.0 (subst (λ x. Now x n.1) g.1 n.2)

  pub now_texts : get_or s at 0 ≡ 0x48 → Now (setting texts) (at + 1)
  now_texts b =
      let n = now in
      let g = opens-texts s at n.0 n.1 n.2.found b in
      rw g.0 (subst (λ x. Now x n.1) g.1 n.2)

  pub now_highest : get_or s at 0 ≡ 0x49 → Now (setting (highest (number s (at + 1)))) (at + 3)
  now_highest b =
      let n = now in
      let g = opens-highest s at n.0 n.1 n.2.found b in
      rw g.0 (subst (λ x. Now x n.1) g.1 n.2)

  pub now_entry :
      (get_or s at 0 ≡ 0x41 → ⊥) → (get_or s at 0 ≡ 0x42 → ⊥) → (get_or s at 0 ≡ 0x43 → ⊥) → (get_or s at 0 ≡ 0x44 → ⊥) →
      (get_or s at 0 ≡ 0x47 → ⊥) → (get_or s at 0 ≡ 0x48 → ⊥) → (get_or s at 0 ≡ 0x49 → ⊥) →
      (x : Entry (List ℕ) Reference) × (next : ℕ) × Now (define x) next
  now_entry n1 n2 n3 n4 n7 n8 n9 =
      let n = now in
      let g = opens-entry s at n.0 n.1 n.2.found n1 n2 n3 n4 n7 n8 n9 in
      (g.0, n.1, subst (λ x. Now x n.1) g.1 n.2)

  -- SETTINGS: nothing is stored for them

  module _ (room : Room s p) (rule : Setting) (next : ℕ) (n : Now (setting rule) next) where
    still : SameEntries t t
    still =
        record {
          records = refl;
          offsets = refl;
          firsts = refl;
          sizes = refl;
          goals = refl;
          constants = refl;
          bootstraps = refl;
          references = refl;
        }

    pub setting_step : Stepped p top s t t (Ok next)
    unfolding no_entry no_name_lem
    setting_step =
        let same = setting_leaves rule d in
        stepped-through p top s t t refl (λ j l. refl) (λ k _. refl) next (with_setting rule d) (record {
          few = here.1;
          rest = passes top s K (setting rule) n.turn d here.0.rest (with_setting rule d) (one_setting_lem top s d rule);
          laid = here.0.laid;
          turn = n.later;
          entries = entries-still s K (setting rule) n.turn refl t t still here.0.entries;
          values = values_skip s K t t at here.0.values (setting rule) n.turn refl next (omega (arith, n.found.past)) refl refl;
          counters = counters_still s K (setting rule) n.turn refl t t still here.0.counters;
          names = here.0.names;
          named = here.0.named ∙ sym (names_same s K (setting rule) n.turn refl);
          naming = same.2 ∙ here.0.naming;
          raws = rw (same.0, same.1) here.0.raws;
          room = omega (arith, here.0.room, raws_next s K (setting rule) n.turn);
        })

  -- NAMES

  module _ (kind : Kind) (l : List ℕ) (r : Reference) (next : ℕ) (n : Now (named kind l r) next) where
    abbrev TheName : Naming
    TheName = record { kind = kind; label = l; target = r }

    pub this_name : get_elem? (namings_in s) (name_count t) ≡ some TheName
    this_name = rw here.0.named (name_here s K kind l r n.turn)

    pub naming_at : Work s p → IsBytes s → NamingAt s at TheName
    naming_at work bytes = (next, n.found, name_cited s (work-formed s p work) bytes K kind l r n.turn)

    module _ (room : Room s p) (u : Store) (code : Tested) (res : Answer) (tried : Tried (size p NAME-HEADS) s t u TheName (code_of code)) (is : res ≡ answered code next) where
      name_kept : Kept defined_regions t u
      unfolding every
      name_kept = kept_more (COUNTS ∷ NAME-HEADS ∷ NAME-LINKS ∷ NAME-PLACES ∷ []) defined_regions t u refl tried.kept

      name_entries : SameEntries t u
      name_entries =
          record {
            records = tried.kept RECORDS refl;
            offsets = tried.kept OFFSETS refl;
            firsts = tried.kept FIRSTS refl;
            sizes = tried.kept SIZES refl;
            goals = tried.kept GOALS refl;
            constants = tried.counters CONSTANT-COUNT (λ q. omega arith);
            bootstraps = tried.counters BOOTSTRAP-COUNT (λ q. omega arith);
            references = tried.counters REFERENCE-COUNT (λ q. omega arith);
          }

      name_raws : SameRaws t u
      name_raws =
          record {
            item_keys = tried.kept RAW-KEYS refl;
            entries = tried.kept RAW-ENTRIES refl;
            heads = tried.kept RAW-HEADS refl;
            links = tried.kept RAW-LINKS refl;
            count = tried.counters RAW-COUNT (λ q. omega arith);
            held = tried.counters HELD-COUNT (λ q. omega arith);
          }

      fresh_name : is_none (name_target kind l (take (name_count t) (namings_in s))) ≡ true → Stepped p top s t u res
      unfolding no_entry
      fresh_name new =
          let g = tried.fresh new in
          subst (Stepped p top s t u) (sym (is ∙ answered-through code next g.0))
          (stepped-through p top s t u (tried.counters PLACE (λ q. omega arith)) (λ j l. tried.counters j (λ q. omega arith)) name_kept next more (through g))
        where
          more : Defined
          more = record { held = d.held; indexes = d.indexes; names = d.names ++ TheName ∷ []; version = d.version }

          through : (code_of code ≡ 0) × NamesIn (size p NAME-HEADS) s u × (name_count u ≡ name_count t + 1) → Defining p top s u (suc K) next more
          through g =
              record {
                few = here.1;
                rest = passes top s K (named kind l r) n.turn d here.0.rest more (one_name top s d kind l r (rw here.0.naming new));
                laid = here.0.laid;
                turn = n.later;
                entries = entries-still s K (named kind l r) n.turn refl t u name_entries here.0.entries;
                values = values_skip s K t u at here.0.values (named kind l r) n.turn refl next (omega (arith, n.found.past)) (tried.kept OFFSETS refl) (tried.kept VALUES refl);
                counters = counters_still s K (named kind l r) n.turn refl t u name_entries here.0.counters;
                names = g.1;
                named = g.2 ∙ ap (λ m. m + 1) here.0.named ∙ sym (names_next s K kind l r n.turn);
                naming = rw (g.2, add-one, take_next (namings_in s) (name_count t) TheName this_name, here.0.naming);
                raws = raws_still p (constants_in s) top d.held d.indexes t u name_raws here.0.raws;
                room = omega (arith, name_raws.count, here.0.room, raws_next s K (named kind l r) n.turn);
              }

      old_name : is_none (name_target kind l (take (name_count t) (namings_in s))) ≡ false → Stepped p top s t u res
      unfolding code_of answered
      old_name old = ways code (tried.old old) is
        where
          ways : (c : Tested) → code_of c ≡ 11 → res ≡ answered c next → Stepped p top s t u res
          ways (Ok x) z q = absurd (omega arith)
          ways (Err e) z q =
              subst (Stepped p top s t u) (sym q)
              (stepped-refused p top s t u (tried.counters PLACE (λ q. omega arith)) (λ j l. tried.counters j (λ q. omega arith)) name_kept e
              (rw z (refuses top s K (named kind l r) n.turn d here.0.rest 11 (one-old top s d kind l r (rw here.0.naming old)))))

      pub name_step : Stepped p top s t u res
      name_step = ways (is_none (name_target kind l (take (name_count t) (namings_in s)))) refl
        where
          ways : (b : Bool) → is_none (name_target kind l (take (name_count t) (namings_in s))) ≡ b → Stepped p top s t u res
          ways true e = fresh_name e
          ways false e = old_name e

  -- RAW DEFINITIONS

  -- what placing leaves alone
  module _ (u : Store) (kept : Kept (COUNTS ∷ RAW-HEADS ∷ RAW-LINKS ∷ RAW-KEYS ∷ RAW-ENTRIES ∷ []) t u) (counters : SameCounters t u) where
    raw_kept : Kept defined_regions t u
    unfolding every
    raw_kept = kept_more (COUNTS ∷ RAW-HEADS ∷ RAW-LINKS ∷ RAW-KEYS ∷ RAW-ENTRIES ∷ []) defined_regions t u refl kept

    raw_entries : SameEntries t u
    raw_entries =
        record {
          records = kept RECORDS refl;
          offsets = kept OFFSETS refl;
          firsts = kept FIRSTS refl;
          sizes = kept SIZES refl;
          goals = kept GOALS refl;
          constants = counters CONSTANT-COUNT (λ q. omega arith) (λ q. omega arith);
          bootstraps = counters BOOTSTRAP-COUNT (λ q. omega arith) (λ q. omega arith);
          references = counters REFERENCE-COUNT (λ q. omega arith) (λ q. omega arith);
        }

    raw_names : SameNames t u
    raw_names =
        record {
          places = kept NAME-PLACES refl;
          heads = kept NAME-HEADS refl;
          links = kept NAME-LINKS refl;
          count = counters NAME-COUNT (λ q. omega arith) (λ q. omega arith);
        }

    -- with other raw definitions
    raw_defined :
        (kind : Kind) (n e : ℕ) (now : Now (placed kind n e) (at + 5)) (held : List (ℕ × Held)) (indexes : List (ℕ × ℕ)) →
        defined_in top s ≡ defined_from top s (suc K) (record { held = held; indexes = indexes; names = d.names; version = d.version }) →
        RawsIn p (constants_in s) top held indexes u →
        raw_count u ≤ raw_count t + raws_of (counts_of (placed kind n e ∷ []) 0) →
        Defining p top s u (suc K) (at + 5) (record { held = held; indexes = indexes; names = d.names; version = d.version })
    unfolding no_entry no_name_lem
    raw_defined kind n e now held indexes run raws count =
        record {
          few = here.1;
          rest = run;
          laid = here.0.laid;
          turn = now.later;
          entries = entries-still s K (placed kind n e) now.turn refl t u raw_entries here.0.entries;
          values = values_skip s K t u at here.0.values (placed kind n e) now.turn refl (at + 5) (omega arith) (kept OFFSETS refl) (kept VALUES refl);
          counters = counters_still s K (placed kind n e) now.turn refl t u raw_entries here.0.counters;
          names = names_still (size p NAME-HEADS) s t u raw_names here.0.names;
          named = raw_names.count ∙ here.0.named ∙ sym (names_same s K (placed kind n e) now.turn refl);
          naming = here.0.naming ∙ ap (λ m. take m (namings_in s)) (sym raw_names.count);
          raws = raws;
          room = omega (arith, count, here.0.room, raws_next s K (placed kind n e) now.turn);
        }

    -- the step, by the code
    raw_step :
        (room : Room s p) (kind : Kind) (n e : ℕ) (now : Now (placed kind n e) (at + 5)) (held : List (ℕ × Held)) (indexes : List (ℕ × ℕ)) (code : Tested) (res : Answer) →
        res ≡ answered code (at + 5) →
        define_one top (constants_of (records_in s)) (numbered_definition (literals (job_in s)) (placed kind n e)) d ≡ outcome (code_of code) (record { held = held; indexes = indexes; names = d.names; version = d.version }) →
        (code_of code ≡ 0 → RawsIn p (constants_in s) top held indexes u) →
        raw_count u ≤ raw_count t + raws_of (counts_of (placed kind n e ∷ []) 0) →
        Stepped p top s t u res
    unfolding answered outcome code_of
    raw_step room kind n e now held indexes (Ok x) res is one again count =
        subst (Stepped p top s t u) (sym is)
        (stepped-through p top s t u (counters PLACE (λ q. omega arith) (λ q. omega arith)) (λ j l. counters j (λ q. omega arith) (λ q. omega arith)) raw_kept (at + 5)
        (record { held = held; indexes = indexes; names = d.names; version = d.version }) (raw_defined kind n e now held indexes (passes top s K (placed kind n e) now.turn d here.0.rest (record { held = held; indexes = indexes; names = d.names; version = d.version }) one) (again refl) count))
    raw_step room kind n e now held indexes (Err code) res is one again count =
        subst (Stepped p top s t u) (sym is)
        (stepped-refused p top s t u (counters PLACE (λ q. omega arith) (λ q. omega arith)) (λ j l. counters j (λ q. omega arith) (λ q. omega arith)) raw_kept code
        (refuses top s K (placed kind n e) now.turn d here.0.rest (refusals.number code) (one ∙ outcome-refused (refusals.number code) _ (number_above code))))

  -- a raw constant
  module _ (room : Room s p) (work : Work s p) (bytes : IsBytes s) (n e : ℕ) (now : Now (placed constant n e) (at + 5)) where
    cited : e < length (constants_of (done_in s K))
    cited = constant_cited s (work-formed s p work) bytes K n e now.turn

    pub cited_low : e < entries_in s
    cited_low = omega (arith, cited, few_constants s K, few_bootstraps s K)

    -- the constant stands where its place says
    the_constant : (y : Entry (List ℕ) Reference) × (next : ℕ) × Found any_definition s (get_or (t OFFSETS) e 0) (define y) next × (tag_at (constants_of (records_in s)) e ≡ y.tag)
    the_constant =
        let g = earlier_constant s K e cited in
        let h = here.0.entries.at e g.0 (entered_low (constants_in s) [] (done_in s K) e (omega (arith, cited, few_constants s K)) ∙ g.1) in
        (g.0, h.at.next, h.at.stands, tag_of s e g.0 g.2)

    pub constant_stands : EntryStands s (get_or (t OFFSETS) e 0)
    constant_stands = let g = the_constant in (g.0, g.1, g.2)

    pub constant_room : raw_count t + 2 ≤ size p RAW-KEYS
    unfolding counts_of only is_placing same_kind_lem
    constant_room = omega (arith, here.0.room, raws_next s K (placed constant n e) now.turn, raws_room s K (placed constant n e) now.turn, room.raw_keys)

    pub constant_step :
        (tag : ℕ) (u : Store) (code : Tested) (res : Answer) → WhatEntry s (get_or (t OFFSETS) e 0) (λ x. tag ≡ x.tag) → TriedConstant p top (is_wide tag) n e t u (code_of code) → res ≡ answered code (at + 5) →
        Stepped p top s t u res
    unfolding counts_of only is_placing same_kind_lem
    constant_step tag u code res says done is =
        let g = the_constant in
        let same = says g.0 g.1 g.2 in
        raw_step u done.kept done.counters room constant n e now (hold (is_wide tag) n e d.held) d.indexes code res is
        (one-constant top s d n e (code_of code) (is_wide tag) (ap is_wide (g.3 ∙ sym same)) (done.code (constants_in s) d.held d.indexes here.0.raws))
        (done.again (constants_in s) d.held d.indexes here.0.raws)
        done.count

  -- a raw bootstrap
  module _ (room : Room s p) (work : Work s p) (bytes : IsBytes s) (n e : ℕ) (now : Now (placed bootstrap n e) (at + 5)) where
    pub bootstrap_low : constants_in s + e < entries_in s
    bootstrap_low = bootstrap_cited s (work-formed s p work) bytes K n e now.turn

    pub bootstrap_room : raw_count t < size p RAW-KEYS
    unfolding counts_of only is_placing same_kind_lem
    bootstrap_room = omega (arith, here.0.room, raws_next s K (placed bootstrap n e) now.turn, raws_room s K (placed bootstrap n e) now.turn, room.raw_keys)

    pub bootstrap_step : (u : Store) (code : Tested) (res : Answer) → TriedBootstrap p n (constants_in s + e) t u (code_of code) → res ≡ answered code (at + 5) → Stepped p top s t u res
    unfolding counts_of only is_placing same_kind_lem
    bootstrap_step u code res done is =
        let back : constants_in s + e - constants_in s ≡ e = omega arith in
        let code_is = rw back at (done.code (constants_in s) top d.held d.indexes here.0.raws (omega arith)) in
        let again = rw back at (done.again (constants_in s) top d.held d.indexes here.0.raws (omega arith)) in
        raw_step u done.kept done.counters room bootstrap n e now d.held (insert n e d.indexes) code res is (one-bootstrap top s d n e (code_of code) code_is) again done.count

  -- ENTRIES

  module _ (room : Room s p) (work : Work s p) (bytes : IsBytes s) (long : (k : ℕ) → length (t k) ≡ size p k) (x : Entry (List ℕ) Reference) (next : ℕ) (now : Now (define x) next) where
    module _ (c e : ℕ) (low : 1 < c) (high : c < 4) (few : e < entries_in s) where
      pub can_enter : CanEnter s t at e x next
      unfolding kids_in
      can_enter =
          record {
            stands = now.found;
            cited = kids_cited s (work-formed s p work) bytes K x now.turn;
            low = few;
            room = rw here.0.counters.references (references-room s K (define x) now.turn);
          }

      module _ (new : place_of (constants_in s) (kind_of x.tag) (count_in (kind_of x.tag) (done_in s K)) ≡ e) (u : Store) (res : ℕ) (enters : Enters s (counted t c) u at e res x next)
          (words : WordsAt s (t VALUES) at) (counters : Counters s (u COUNTS) (suc K)) where
        same-counter : (j : ℕ) → (j ≡ c → ⊥) → (j ≡ REFERENCE-COUNT → ⊥) → get_or (u COUNTS) j 0 ≡ get_or (t COUNTS) j 0
        same-counter j m n = ap (λ l. get_or l j 0) enters.counts ∙ two-sets (t COUNTS) c _ REFERENCE-COUNT _ j m n

        old_references : get_or (counted t c COUNTS) REFERENCE-COUNT 0 ≡ get_or (t COUNTS) REFERENCE-COUNT 0
        old_references = get_or-set_other (t COUNTS) c REFERENCE-COUNT _ 0 (λ q. omega arith)

        old_place : get_or (counted t c COUNTS) PLACE 0 ≡ K
        old_place = get_or-set_other (t COUNTS) c PLACE _ 0 (λ q. omega arith)

        new_references : get_or (u COUNTS) REFERENCE-COUNT 0 ≡ get_or (t COUNTS) REFERENCE-COUNT 0 + length x.kids
        new_references =
            ap (λ l. get_or l REFERENCE-COUNT 0) enters.counts
            ∙ get_or-set_same (counted t c COUNTS) REFERENCE-COUNT _ 0 (simp length-set (omega (arith, long COUNTS, room.counts)))
            ∙ ap (λ m. m + length x.kids) old_references

        entry_entries : EntriesIn s u (suc K)
        entry_entries =
            rw (enters.records, enters.offsets, enters.firsts, enters.sizes, new_references, old_references, old_place)
            (entries-more s (t RECORDS) (t OFFSETS) (t FIRSTS) (t SIZES) (t GOALS) K (get_or (t COUNTS) REFERENCE-COUNT 0) here.0.entries x now.turn (few_constants s (suc K)) at next now.found e new
            (omega (arith, long RECORDS, room.records)) (omega (arith, long OFFSETS, room.offsets)) (omega (arith, long FIRSTS, room.firsts)) (omega (arith, long SIZES, room.sizes))
            (u GOALS) (rw old_references at enters.goals))

        entry_kept : Kept defined_regions t u
        unfolding every
        entry_kept =
            kept_then defined_regions t (counted t c) u (kept_put defined_regions t t COUNTS c _ refl (λ k _. refl))
            (kept_more (COUNTS ∷ RECORDS ∷ OFFSETS ∷ FIRSTS ∷ SIZES ∷ GOALS ∷ []) defined_regions (counted t c) u refl enters.kept)

        entry_names : SameNames t u
        entry_names =
            record {
              places = enters.kept NAME-PLACES refl;
              heads = enters.kept NAME-HEADS refl;
              links = enters.kept NAME-LINKS refl;
              count = same-counter NAME-COUNT (λ q. omega arith) (λ q. omega arith);
            }

        entry_raws : SameRaws t u
        entry_raws =
            record {
              item_keys = enters.kept RAW-KEYS refl;
              entries = enters.kept RAW-ENTRIES refl;
              heads = enters.kept RAW-HEADS refl;
              links = enters.kept RAW-LINKS refl;
              count = same-counter RAW-COUNT (λ q. omega arith) (λ q. omega arith);
              held = same-counter HELD-COUNT (λ q. omega arith) (λ q. omega arith);
            }

        entry_step : Stepped p top s t u (Ok res)
        unfolding no_name_lem
        entry_step =
            stepped-through p top s t u (same-counter PLACE (λ q. omega arith) (λ q. omega arith)) (λ j l. same-counter j (λ q. omega arith) (λ q. omega arith)) entry_kept res d
            (rw enters.end (record {
              few = here.1;
              rest = passes top s K (define x) now.turn d here.0.rest d (one_entry top s d x);
              laid = here.0.laid;
              turn = now.later;
              entries = entry_entries;
              values =
                  values_more s K t u at here.0.values x now.turn (few_constants s (suc K)) next now.found e new (omega (arith, long OFFSETS, room.offsets)) enters.offsets (enters.kept VALUES refl)
                  words;
              counters = counters;
              names = names_still (size p NAME-HEADS) s t u entry_names here.0.names;
              named = entry_names.count ∙ here.0.named ∙ sym (names_same s K (define x) now.turn refl);
              naming = here.0.naming ∙ ap (λ m. take m (namings_in s)) (sym entry_names.count);
              raws = raws_still p (constants_in s) top d.held d.indexes t u entry_raws here.0.raws;
              room = omega (arith, entry_raws.count, here.0.room, raws_next s K (define x) now.turn);
            }))

    -- a constant
    module _ (kind : kind_of x.tag ≡ constant) where
      pub constant_few : 0 + get_or (t COUNTS) CONSTANT-COUNT 0 < entries_in s
      constant_few = omega (arith, here.0.counters.constants, (counts_constant s K x now.turn kind).0, few_constants s (suc K), few_bootstraps s K)

      pub constant_entered : (u : Store) (res : ℕ) → Enters s (counted t CONSTANT-COUNT) u at (0 + get_or (t COUNTS) CONSTANT-COUNT 0) res x next → WordsAt s (t VALUES) at → Stepped p top s t u (Ok res)
      unfolding place_of count_in kids_in
      constant_entered u res enters words = entry_step CONSTANT-COUNT (0 + get_or (t COUNTS) CONSTANT-COUNT 0) (omega arith) (omega arith) constant_few (rw kind (omega (arith, here.0.counters.constants))) u res enters words counters
        where
          counters : Counters s (u COUNTS) (suc K)
          counters =
              let n = counts_constant s K x now.turn kind in
              record {
                constants =
                    ap (λ l. get_or l CONSTANT-COUNT 0) enters.counts
                    ∙ get_or-set_other (counted t CONSTANT-COUNT COUNTS) REFERENCE-COUNT CONSTANT-COUNT _ 0 (λ q. omega arith)
                    ∙ get_or-set_same (t COUNTS) CONSTANT-COUNT _ 0 (omega (arith, long COUNTS, room.counts))
                    ∙ ap (λ m. m + 1) here.0.counters.constants
                    ∙ sym n.0;
                bootstraps = ap (λ l. get_or l BOOTSTRAP-COUNT 0) enters.counts ∙ two-sets (t COUNTS) CONSTANT-COUNT _ REFERENCE-COUNT _ BOOTSTRAP-COUNT (λ q. omega arith) (λ q. omega arith) ∙ here.0.counters.bootstraps ∙ sym n.1;
                references =
                    ap (λ l. get_or l REFERENCE-COUNT 0) enters.counts
                    ∙ get_or-set_same (counted t CONSTANT-COUNT COUNTS) REFERENCE-COUNT _ 0 (simp length-set (omega (arith, long COUNTS, room.counts)))
                    ∙ ap (λ m. m + length x.kids) (get_or-set_other (t COUNTS) CONSTANT-COUNT REFERENCE-COUNT _ 0 (λ q. omega arith) ∙ here.0.counters.references)
                    ∙ sym (references-next s K (define x) now.turn);
              }

    -- a bootstrap
    module _ (kind : kind_of x.tag ≡ bootstrap) where
      pub bootstrap_few : constants_in s + get_or (t COUNTS) BOOTSTRAP-COUNT 0 < entries_in s
      bootstrap_few = omega (arith, here.0.counters.bootstraps, (counts_bootstrap s K x now.turn kind).1, few_bootstraps s (suc K))

      pub bootstrap_entered : (u : Store) (res : ℕ) → Enters s (counted t BOOTSTRAP-COUNT) u at (constants_in s + get_or (t COUNTS) BOOTSTRAP-COUNT 0) res x next → WordsAt s (t VALUES) at → Stepped p top s t u (Ok res)
      unfolding place_of count_in kids_in
      bootstrap_entered u res enters words = entry_step BOOTSTRAP-COUNT (constants_in s + get_or (t COUNTS) BOOTSTRAP-COUNT 0) (omega arith) (omega arith) bootstrap_few (rw kind (omega (arith, here.0.counters.bootstraps))) u res enters words counters
        where
          counters : Counters s (u COUNTS) (suc K)
          counters =
              let n = counts_bootstrap s K x now.turn kind in
              record {
                constants = ap (λ l. get_or l CONSTANT-COUNT 0) enters.counts ∙ two-sets (t COUNTS) BOOTSTRAP-COUNT _ REFERENCE-COUNT _ CONSTANT-COUNT (λ q. omega arith) (λ q. omega arith) ∙ here.0.counters.constants ∙ sym n.0;
                bootstraps =
                    ap (λ l. get_or l BOOTSTRAP-COUNT 0) enters.counts
                    ∙ get_or-set_other (counted t BOOTSTRAP-COUNT COUNTS) REFERENCE-COUNT BOOTSTRAP-COUNT _ 0 (λ q. omega arith)
                    ∙ get_or-set_same (t COUNTS) BOOTSTRAP-COUNT _ 0 (omega (arith, long COUNTS, room.counts))
                    ∙ ap (λ m. m + 1) here.0.counters.bootstraps
                    ∙ sym n.1;
                references =
                    ap (λ l. get_or l REFERENCE-COUNT 0) enters.counts
                    ∙ get_or-set_same (counted t BOOTSTRAP-COUNT COUNTS) REFERENCE-COUNT _ 0 (simp length-set (omega (arith, long COUNTS, room.counts)))
                    ∙ ap (λ m. m + length x.kids) (get_or-set_other (t COUNTS) BOOTSTRAP-COUNT REFERENCE-COUNT _ 0 (λ q. omega arith) ∙ here.0.counters.references)
                    ∙ sym (references-next s K (define x) now.turn);
              }
