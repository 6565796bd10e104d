-- What is promised of every job and of the block file, as statements about the definition: the proofs stand in proofs/. Assumes nothing.
-- To read: (x : A) → P is "for every x", (x : A) × P "there is an x", P → Q "if P, Q", P → ⊥ "not P", × "and", ⊎ "or", ↔ "exactly if",
-- ≡ / ≢ "is / isn't the same"; Unit: always true, ⊥: never; λ x. e is x ↦ e; let names a part; elim: by cases; zero, suc n: 0, n + 1; ∷, ++
-- join lists; r.f: a part of r; .0, .1: first, second of a pair; some, none: a value or none; good, bad: a result or a refusal; get_elem?
-- l i ≡ some a: a is at place i; get_or l i d: what is there, else d; Among a l (crates/facts/specs): a stands in l. Other names:
-- crates/definition/specs and, of JVMS, crates/jvms/specs, in the module that `use` names
use Rattle.std.specs.Prelude.{Bool, true, false, List, [], ◌∷◌, ◌++◌, map, reverse, ◌↔◌, ◌⊎◌, ◌≢◌, ◌≡◌, ℕ, zero, suc, ◌+◌, ◌*◌, ◌%◌, ◌≤◌, ◌<◌, eqb, length, get_or}
use Rattle.std.proofs.Math.Option
use Rattle.std.proofs.Math.Option.{Option, none, some}
use Rattle.std.proofs.Math.ListN.{get_elem?}
use Rattle.definition.specs.Basics.{good, bad, Refusal, only, concat, lookup, from}
use Rattle.definition.specs.Shapes.{Kind, bootstrap, bootstrap_tag, Entry, with_literal, is_wide}
use Rattle.definition.specs.Job.{Reference, entry, Definition, define, named, placed, setting, Request, Build, Job}
use Rattle.definition.specs.Form.{form}
use Rattle.definition.specs.Numbering.{top_of, Literal, attribute_name, entries, constants_of, bootstraps_of, literals, number_of, literal_of, numbered}
use Rattle.definition.specs.Definitions.{Held, Naming, Defined, tag_at, define_all, nothing_defined}
use Rattle.definition.specs.Resolving.{Goal, raw_number, table_entry, refusal, follow, goal_of, Node, Mark}
use Rattle.definition.specs.Slots.{Gap, size}
use Rattle.definition.specs.Building.{Pool, allocate, Row, Rows, index_of, row_index, raw_rows}
use Rattle.definition.specs.Layout.{Ready, end_definitions, class_slot_of, Layout, index_nodes, layout}
use Rattle.definition.specs.Run.{shown, Built, render, Lent, Memory, lent_of, longest_job, memory_after, run}
use Rattle.definition.specs.Jvms.{Shown}
use Rattle.definition.specs.Blocks.{block_count, block_at, block_data, right_block, most_blocks}
use Rattle.definition.specs.Blocks.{read_blocks, blocks_for, write_blocks, blocks_after}
use Rattle.facts.specs.Lists.{Among}
use Rattle.jvms.specs.Pool.{Slot, BootstrapMethod, read_pool_lem, read_bootstrap_methods}
use Rattle.laws.specs.AsEntries.{as_shown, as_row}
use Rattle.laws.specs.LeadsStatement.{Leads}

-- a byte string
abbrev pub IsBytes : List ℕ → Type 0
IsBytes l = (i : ℕ) → get_or l i 0 < 256

-- NUMBERING: two literals of a job have one number exactly when they are equal, kind included, and the number stands for its bytes
abbrev pub Numbering : Type 0
Numbering =
    (job : Job (List ℕ)) (a b : Literal) → Among a (literals job) → Among b (literals job) →
    ((number_of (literals job) a ≡ number_of (literals job) b) ↔ (a ≡ b)) × (literal_of (literals job) (number_of (literals job) a) ≡ a.1)

-- two outcomes, and what is afterwards of what was lent, are equal if both are those that the definition states
abbrev pub OnlyOne : {O M : Type 0} → O → (O → M → M) → M → Type 0
OnlyOne {O} {M} stated afterwards before =
    let meets : O → M → Type 0 = λ outcome after. (outcome ≡ stated) × (after ≡ afterwards outcome before) in
    (o₁ o₂ : O) (after₁ after₂ : M) → meets o₁ after₁ → meets o₂ after₂ → (o₁ ≡ o₂) × (after₁ ≡ after₂)

-- ONE OUTCOME: no second outcome, and no second contents of a buffer, meets the statement of a run, of reading and of writing a block file
abbrev pub OneOutcome : Type 0
OneOutcome =
    ((job : List ℕ) (before : Memory) → OnlyOne (run (lent_of before) job) memory_after before)
    × ((file before : List ℕ) → OnlyOne (read_blocks (length before) file) blocks_after before)
    × ((job before : List ℕ) → OnlyOne (write_blocks (length before) job) blocks_after before)

-- a definition without its literal
unfoldable pub skeleton : Definition (List ℕ) → Definition (Unit {0})
skeleton (define e) = define (with_literal tt e)
skeleton (named kind s r) = named kind s r
skeleton (placed kind at number) = placed kind at number
skeleton (setting rule) = setting rule

-- two jobs alike but for their literals: two literals of a kind (text, or one of the four kinds of number) are equal in one exactly when
-- they are in the other; the list of literals begins with "BootstrapMethods", so a text is this name in both or neither
pub record Alike (j₁ j₂ : Job (List ℕ)) : Type 0 where
  pub same_definitions : map skeleton j₁.definitions ≡ map skeleton j₂.definitions
  pub same_requests : j₁.requests ≡ j₂.requests
  pub same_build : j₁.build ≡ j₂.build
  pub same_equalities :
      let at : Job (List ℕ) → ℕ → Literal → Type 0 = λ j i a. get_elem? (literals j) i ≡ some a in
      (i k : ℕ) (a₁ b₁ a₂ b₂ : Literal) → at j₁ i a₁ → at j₁ k b₁ → at j₂ i a₂ → at j₂ k b₂ → a₁.0 ≡ b₁.0 →
      Among a₁.0 (1 ∷ 3 ∷ 4 ∷ 5 ∷ 6 ∷ []) → (a₁.1 ≡ b₁.1) ↔ (a₂.1 ≡ b₂.1)

-- a raw constant or a raw bootstrap
unfoldable pub is_raw : Definition (List ℕ) → Bool
is_raw (define e) = false
is_raw (named kind s r) = false
is_raw (placed kind at number) = true
is_raw (setting rule) = false

-- VISITS: the count is at most entries, references in entries, raw definitions and requests together
abbrev pub Visits : Type 0
Visits =
    (bytes : List ℕ) (job : Job (List ℕ)) (lent : Lent) (b : Built) → form bytes ≡ good job → run lent bytes ≡ good b →
    let all = entries job.definitions in
    b.visits ≤ length all + length (concat (map (λ e. e.kids) all)) + length (only is_raw job.definitions) + length job.requests

-- FUEL: for a job of bytes it never runs out, in the form pass, in resolving and in building: no refusal has number 0
abbrev pub FuelLasts : Type 0
FuelLasts = (bytes : List ℕ) (lent : Lent) (r : Refusal) → IsBytes bytes → run lent bytes ≡ bad r → r.code ≡ 0 → ⊥

-- FOLLOWED: more steps than goal_of takes change nothing, so a name that it gives up as circular (13) leads nowhere in more steps either
abbrev pub Followed : Type 0
Followed =
    (names : List Naming) (constants steps : ℕ) (r : Reference) →
    follow (suc (length names) + steps) names constants r ≡ goal_of names constants r

-- the free slots, gap by gap
unfoldable pub free_slots : List Gap → List ℕ
free_slots gaps = concat (map (λ g. from (λ s. s) g.first (size g)) gaps)

-- the slots given out to nodes, a wide one as two
unfoldable pub given_slots : List Node → List (ℕ × ℕ) → List ℕ
given_slots nodes given = concat (map (λ r. elim (is_wide (tag_at nodes r.0)) [ true ↦ r.1 ∷ suc r.1 ∷ [] | false ↦ r.1 ∷ [] ]) given)

-- raw-held slots, given-out ones and free ones, one after the other
unfoldable pub all_slots : List (ℕ × Held) → List Node → Pool → List ℕ
all_slots held nodes p = map (λ h. h.0) held ++ (given_slots nodes p.given ++ free_slots p.slots.gaps)

-- the pools that occur over a highest slot: after record 50, after each slot request, while more is resolved and the stack is taken from.
-- Every pool of which a run asks a slot is one (slot_occurs, proofs/runs/SlotOccurs.antt); others are too, which only makes the laws stronger
pub data Occurs (top : ℕ) (held : List (ℕ × Held)) : List Node → Pool → Type 0 where
  after_definitions :
      (definitions : List (Definition ℕ)) (constants : List (Entry ℕ Reference)) (table : List (Entry ℕ Goal)) (n : ℕ) (d : Defined)
      (w : Ready) → define_all top constants 0 definitions nothing_defined ≡ good d → end_definitions top table n d ≡ good w →
      d.held ≡ held → Occurs top held w.resolved.nodes w.pool
  after_request :
      {nodes : List Node} {p : Pool} (ldc : Bool) (k s : ℕ) (p' : Pool) → Occurs top held nodes p → k < length nodes →
      allocate nodes ldc k p ≡ good (s, p') → Occurs top held nodes p'
  more_resolved : {nodes : List Node} {p : Pool} (more : List Node) → Occurs top held nodes p → Occurs top held (nodes ++ more) p
  stack_taken :
      {nodes : List Node} {p : Pool} (pending : List (ℕ × ℕ)) →
      Occurs top held nodes p → Occurs top held nodes (record { slots = p.slots; given = p.given; pending = pending; version = p.version })

-- KEPT: raw-held, given-out and free slots are as many as the highest slot, and each slot from 1 to it stands once among them: none is
-- given twice, and none that is raw-held is given
abbrev pub Kept : Type 0
Kept =
    (top : ℕ) (held : List (ℕ × Held)) (nodes : List Node) (p : Pool) → Occurs top held nodes p → (length (all_slots held nodes p) ≡ top)
    × ((s : ℕ) → 1 ≤ s → s ≤ top → length (only (eqb s) (all_slots held nodes p)) ≡ 1)

-- KEEPS: a constant given a slot keeps it
abbrev pub Keeps : Type 0
Keeps =
    (nodes : List Node) (ldc : Bool) (k s : ℕ) (p p' : Pool) → allocate nodes ldc k p ≡ good (s, p') → (lookup k p'.given ≡ some s)
    × ((k' s' : ℕ) → lookup k' p.given ≡ some s' → lookup k' p'.given ≡ some s')

-- EXACTLY: of the steps of a run that ask for a slot (`allocate`: a request or, as ordinary ones, a child while building and the name) for
-- a constant that has none yet, 15 meets a narrow ldc one exactly if no free slot is at most 255, 14 an ordinary narrow one exactly if none
-- is free, and 15 (ldc) or 14 a wide one exactly if no two neighbours are
abbrev pub Exactly : Type 0
Exactly =
    (top : ℕ) (held : List (ℕ × Held)) (nodes : List Node) (p : Pool) (k : ℕ) → Occurs top held nodes p → lookup k p.given ≡ none →
    let free : ℕ → Type 0 = λ s. Among s (free_slots p.slots.gaps) in
    (is_wide (tag_at nodes k) ≡ false → (allocate nodes true k p ≡ bad 15) ↔ ((s : ℕ) → free s → s ≤ 255 → ⊥))
    × (is_wide (tag_at nodes k) ≡ false → (allocate nodes false k p ≡ bad 14) ↔ ((s : ℕ) → free s → ⊥))
    × ((ldc : Bool) → is_wide (tag_at nodes k) ≡ true →
    (allocate nodes ldc k p ≡ bad (elim ldc [ true ↦ 15 | false ↦ 14 ])) ↔ ((s : ℕ) → free s → free (suc s) → ⊥))

-- the bootstrap rows that occur: those of the raw definitions, and then after each inline row
pub data RowsOccur : Rows → Type 0 where
  raw_only :
      (top : ℕ) (constants : List (Entry ℕ Reference)) (definitions : List (Definition ℕ)) (d : Defined) (nodes : List Node)
      (p p' : Pool) (n : ℕ) (marks : List Mark) (waiting : List (ℕ × Row)) →
      define_all top constants 0 definitions nothing_defined ≡ good d →
      raw_rows nodes (reverse (index_nodes n marks d.indexes)) p [] ≡ good (waiting, p') →
      RowsOccur (record { written = []; waiting = waiting; inline = [] })
  after_row : (row : Row) (i : ℕ) (rows rows' : Rows) → RowsOccur rows → row_index row rows ≡ good (i, rows') → RowsOccur rows'

-- EXACTLY 17: where building asks for the index (`row_index`) of a bootstrap that an entry cites, its row is refused exactly if it shares no
-- index with an earlier such row and all 65,535 indexes are used (written, or kept by a raw bootstrap)
abbrev pub ExactlySeventeen : Type 0
ExactlySeventeen =
    (rows : Rows) (row : Row) → RowsOccur rows → (row_index row rows ≡ bad 17)
    ↔ ((index_of row rows.inline ≡ none)
    × ((i : ℕ) → i < 65535 → (i < length rows.written) ⊎ ((r : Row) × (lookup i rows.waiting ≡ some r))))

-- READS: what is returned for a job of bytes is its layout with its literals; the pool's bytes read, under JVMS 4.4, as exactly what the
-- layout assigns to each slot, with nothing left over, and the bootstraps' bytes, under 4.7.23 and with the count returned, as exactly the
-- rows assigned (as_shown, as_row: in the definition's form). A slot is assigned (`content_of` of Building, `shown` of Run): an owned one its
-- constant with its children's slots, the second half of a wide one nothing, every other one below the count the empty text
abbrev pub Reads : Type 0
Reads =
    (bytes : List ℕ) (job : Job (List ℕ)) (lent : Lent) (b : Built) → IsBytes bytes → form bytes ≡ good job → run lent bytes ≡ good b →
    (l : Layout) × (layout (top_of job) (numbered job) ≡ good l) × (b ≡ render (literals job) l)
    × (Option.map (map as_shown) (read_pool_lem b.pool) ≡ some (map (shown (literals job)) l.contents))
    × (Option.map (map as_row) (read_bootstrap_methods b.bootstrap_count b.bootstraps)
    ≡ some (map (λ row. record { tag = bootstrap_tag; literal = []; byte = 0; kids = row }) l.rows))

-- what is compared: the job's definitions, and the finished pool and bootstraps as the reader shows them
pub record Finished : Type 0 where
  pub definitions : List (Definition (List ℕ))
  pub pool : List Shown
  pub bootstraps : List (Entry (List ℕ) ℕ)

-- what a slot of the finished pool shows
unfoldable pub slot_shows : Finished → ℕ → Shown
slot_shows f s = get_or (none ∷ f.pool) s none

-- entry e of a job: its constants, then its bootstraps
abbrev pub entry_at : List (Definition (List ℕ)) → ℕ → Option (Entry (List ℕ) Reference)
entry_at definitions e = get_elem? (constants_of definitions ++ bootstraps_of definitions) e

-- what the finished pool has at a number for an entry of a tag: a constant at its slot, a bootstrap at its index
unfoldable pub held_for : Finished → ℕ → ℕ → Shown
held_for f tag n = elim (eqb tag bootstrap_tag) [ true ↦ get_elem? f.bootstraps n | false ↦ slot_shows f n ]

-- a number shows, to a depth, a goal, which is where a reference leads (`Leads`). A raw number shows itself. An entry of the job is shown by
-- an entry of the same tag, literal and kind byte whose references in turn show its children: a constant by its slot, a bootstrap by its index
unfoldable pub Shows : ℕ → Finished → Goal → ℕ → Type 0
Shows zero f goal n = Unit {0}
Shows (suc depth) f (raw_number m) n = n ≡ m
Shows (suc depth) f (table_entry e) n =
    (x : Entry (List ℕ) Reference) × (y : Entry (List ℕ) ℕ)
    × (entry_at f.definitions e ≡ some x) × (held_for f x.tag n ≡ some y)
    × (y.tag ≡ x.tag) × (y.literal ≡ x.literal) × (y.byte ≡ x.byte) × (length y.kids ≡ length x.kids)
    × ((i : ℕ) (r : Reference) (m : ℕ) → get_elem? x.kids i ≡ some r → get_elem? y.kids i ≡ some m →
    (goal : Goal) × Leads f.definitions r goal × Shows depth f goal m)
Shows (suc depth) f (refusal code) n = ⊥

-- entry e cites r, and where the finished pool has e at number n, m stands in the place of r
abbrev pub CitedAt : Finished → ℕ → ℕ → Reference → ℕ → Type 0
CitedAt f e n r m =
    (x : Entry (List ℕ) Reference) × (y : Entry (List ℕ) ℕ) × (i : ℕ) × (entry_at f.definitions e ≡ some x) × (held_for f x.tag n ≡ some y)
    × (get_elem? x.kids i ≡ some r) × (get_elem? y.kids i ≡ some m)

-- a raw bootstrap (44) stands at an index
abbrev pub RawIndex : Finished → ℕ → Type 0
RawIndex f i = (k : ℕ) × (number : ℕ) × (get_elem? f.definitions k ≡ some (placed bootstrap i number))

-- an index was given: a constant that a slot shows cites a bootstrap of the job (a raw number isn't one), and the index stands in its place
abbrev pub IndexGiven : Finished → ℕ → Type 0
IndexGiven f i =
    (e : ℕ) × (s : ℕ) × (r : Reference) × (cited : ℕ) × ((depth : ℕ) → Shows depth f (table_entry e) s) × CitedAt f e s r i
    × Leads f.definitions r (table_entry cited) × (length (constants_of f.definitions) ≤ cited)

-- an index has the row of the least raw index above it
abbrev pub RowOfNext : Finished → ℕ → Type 0
RowOfNext f i =
    (j : ℕ) × (i < j) × RawIndex f j × ((t : ℕ) → i < t → t < j → RawIndex f t → ⊥)
    × (y : Entry (List ℕ) ℕ) × (get_elem? f.bootstraps i ≡ some y) × (get_elem? f.bootstraps j ≡ some y)

-- the text that a shown entry is, if it is one
unfoldable pub text_of : Shown → Option (List ℕ)
text_of none = none
text_of (some e) = elim (eqb e.tag 1) [ true ↦ some e.literal | false ↦ none ]

-- the text at a slot of the finished pool; a slot at or past the count counts as the empty text, slot 0 as nothing
unfoldable pub text_at_lem : Finished → ℕ → Option (List ℕ)
text_at_lem f s = get_or (map text_of (none ∷ f.pool)) s (some [])

-- the class name, read off the finished pool: the class slot shows a Class whose slot shows a text
unfoldable pub class_of : Finished → Shown → Option (List ℕ)
class_of f none = none
class_of f (some e) = elim (eqb e.tag 7) [ true ↦ text_at_lem f (get_or e.kids 0 0) | false ↦ none ]

-- what is held: by answers, raw constants, raw bootstraps, indexes, class name and, by the byte of 60, name slot
pub record HeldBy (f : Finished) (requests : List Request) (build : Build) (b : Built) : Type 0 where
  pub as_many_lem : length b.answers ≡ length requests
  pub answered :
      (i : ℕ) (q : Request) → get_elem? requests i ≡ some q → (a : ℕ) × (get_elem? b.answers i ≡ some a)
      × (q.ldc ≡ true → a ≤ 255) × (goal : Goal) × Leads f.definitions q.what goal × ((depth : ℕ) → Shows depth f goal a)
  pub placed_there :
      (i n e : ℕ) (kind : Kind) → get_elem? f.definitions i ≡ some (placed kind n e) →
      (goal : Goal) × Leads f.definitions (entry kind e) goal × ((depth : ℕ) → Shows depth f goal n)
  -- an index at which no raw bootstrap stands was given, or is a hole
  pub holes : (i : ℕ) → i < b.bootstrap_count → (RawIndex f i → ⊥) → IndexGiven f i ⊎ RowOfNext f i
  pub class_there : b.class ≡ class_of f (slot_shows f (class_slot_of b.answers build.class))
  -- the byte is 0, 1 or 2. 0: the name slot shows the name; 1: so if there are bootstraps, else it is 0; 2: it is 0
  pub byte_is : build.name_byte ≤ 2
  pub name_always : build.name_byte ≡ 0 → text_at_lem f b.name ≡ some attribute_name
  pub name_if_present :
      build.name_byte ≡ 1 → (0 < b.bootstrap_count → text_at_lem f b.name ≡ some attribute_name) × (b.bootstrap_count ≡ 0 → b.name ≡ 0)
  pub name_never : build.name_byte ≡ 2 → b.name ≡ 0

-- HOLDS: of a job of bytes, the finished pool and bootstraps read under JVMS; there are as many answers as requests, an ldc one at most 255,
-- and each shows, to any depth, the constant that was asked for; so does every raw definition at its slot or index; any other index was given
-- to a bootstrap that is cited, or has the row of the least raw index above it; the class name is the one at the class slot; and the name
-- slot, by the byte of 60, shows the name or is 0
abbrev pub Holds : Type 0
Holds =
    (bytes : List ℕ) (job : Job (List ℕ)) (lent : Lent) (b : Built) → IsBytes bytes → form bytes ≡ good job → run lent bytes ≡ good b →
    (pool : List Slot) × (methods : List BootstrapMethod) × (read_pool_lem b.pool ≡ some pool)
    × (read_bootstrap_methods b.bootstrap_count b.bootstraps ≡ some methods)
    × HeldBy (record { definitions = job.definitions; pool = map as_shown pool; bootstraps = map as_row methods }) job.requests job.build b

-- BLOCKS READ: reading accepts exactly what writing produces. A file of bytes is read as a job exactly if the job has room and writing it,
-- with room for the file, gives that file
abbrev pub BlocksRead : Type 0
BlocksRead =
    (room room' : ℕ) (file job : List ℕ) → IsBytes file → length file ≤ room' →
    (read_blocks room file ≡ good job) ↔ ((length job ≤ room) × (write_blocks room' job ≡ good file))

-- ONE FILE: one job has one file. Two files of bytes that are read as the same job are the same
abbrev pub OneFile : Type 0
OneFile =
    (room room' : ℕ) (file file' job : List ℕ) → IsBytes file → IsBytes file' →
    read_blocks room file ≡ good job → read_blocks room' file' ≡ good job → file ≡ file'

-- BLOCKS BACK: reading what writing wrote gives the job back
abbrev pub BlocksBack : Type 0
BlocksBack =
    (room room' : ℕ) (job file : List ℕ) → write_blocks room job ≡ good file → length job ≤ room' → read_blocks room' file ≡ good job

-- BLOCKS WRITTEN: refused with 1 exactly if the job is too long; with 18 exactly if it isn't and its blocks (one for each 504 bytes begun,
-- and one for the empty job) have no room; otherwise there is a file, of so many blocks
abbrev pub BlocksWritten : Type 0
BlocksWritten =
    (room : ℕ) (job : List ℕ) →
    let size = 512 * blocks_for (length job) in
    let refused : ℕ → Type 0 = λ code. write_blocks room job ≡ bad (record { code = code; place = 0 }) in
    (refused 1 ↔ (longest_job < length job)) × (refused 18 ↔ ((length job ≤ longest_job) × (room < size)))
    × (length job ≤ longest_job → size ≤ room → (file : List ℕ) × (write_blocks room job ≡ good file) × (length file ≡ size))

-- BLOCKS REFUSED, each exactly if it is the first that applies: 20 if the file is empty or no multiple of 512 bytes; 1 if it has more than
-- 2,081 blocks; 19, at place k, if block k is the first that isn't right; 1 if their job is too long; 18 if it has no room
abbrev pub BlocksRefused : Type 0
BlocksRefused =
    (room : ℕ) (file : List ℕ) (k : ℕ) →
    let n = block_count file in
    let job = concat (from (λ i. block_data (block_at file i)) 0 n) in
    let refused : ℕ → ℕ → Type 0 = λ code place. read_blocks room file ≡ bad (record { code = code; place = place }) in
    let no_blocks : Type 0 = (file ≡ []) ⊎ (length file % 512 ≢ 0) in
    let rightBefore : ℕ → Type 0 = λ i. (no_blocks → ⊥) × (n ≤ most_blocks) × ((j : ℕ) → j < i → right_block n file j ≡ true) in
    (refused 20 0 ↔ no_blocks)
    × (refused 19 k ↔ (rightBefore k × (k < n) × (right_block n file k ≡ false)))
    × (refused 1 0 ↔ (((no_blocks → ⊥) × (most_blocks < n)) ⊎ (rightBefore n × (longest_job < length job))))
    × (refused 18 0 ↔ (rightBefore n × (length job ≤ longest_job) × (room < length job)))
