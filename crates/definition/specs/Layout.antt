-- The records of a job in turn, literals being numbers: which slots and indexes everything gets. Assumes nothing.
use Rattle.std.specs.Prelude.{Bool, ◌||◌, not, List, [], ◌∷◌, ◌++◌, map, reverse, ℕ, suc, ◌+◌, ◌-◌, leb, length, get_or}
use Rattle.std.proofs.Math.Option.{Option}
use Rattle.definition.specs.Basics.{Result, good, ◌>>=◌, Refusal, at_record, unless, from}
use Rattle.definition.specs.Shapes.{Entry}
use Rattle.definition.specs.Job.{Request, ClassSlot, slot, request, Build, Job}
use Rattle.definition.specs.Numbering.{constants_of, bootstraps_of}
use Rattle.definition.specs.Definitions.{Held, starts, half, Naming, Defined, define_all, nothing_defined}
use Rattle.definition.specs.Resolving.{Goal, table_entry, goal_of, Mark, first_node, Resolved, child_of, resolve, resolve_all, linked, nothing_resolved}
use Rattle.definition.specs.Places.{table_records, at_nodes}
use Rattle.definition.specs.Slots.{highest_ldc, gaps_from, start_slots, count_from}
use Rattle.definition.specs.Building.{Pool, slot_of, Origin, origin_of, Row, fill_holes, Made, build_all, name_wanted, name_slot, Content, content_of, class_name}

-- raw constants by rising slot, without the second halves
unfoldable pub starters : List (ℕ × Held) → List (ℕ × ℕ)
starters [] = []
starters ((n, starts e) ∷ held) = (n, e) ∷ starters held
starters ((n, half) ∷ held) = starters held

-- what requests work on: the linked table, what is resolved, the slots, and how the answers so far were come by
pub record Ready : Type 0 where
  pub table : List (Entry ℕ Goal)
  pub resolved : Resolved
  pub pool : Pool
  pub origins : List Origin

-- the node that a table entry became
unfoldable pub node_at_lem : List Mark → ℕ → ℕ
node_at_lem marks e = child_of marks (table_entry e) - first_node

-- record 50: raw constants are resolved by rising slot, then raw bootstraps by rising index; gaps are what is left between raw slots
unfoldable pub end_definitions : ℕ → List (Entry ℕ Goal) → ℕ → Defined → Result ℕ Ready
end_definitions top table constants d =
    let starting = starters d.held in
    resolve_all
    table
    (map (λ r. table_entry r.1) starting ++ map (λ r. table_entry (constants + r.1)) d.indexes)
    (nothing_resolved table) >>= λ s.
    good
    (record {
      table = table;
      resolved = s;
      pool =
          record {
            slots = start_slots (gaps_from top 1 (map (λ r. r.0) d.held));
            given = [];
            pending = reverse (map (λ r. (r.0, node_at_lem s.marks r.1)) starting);
            version = d.version;
          };
      origins = [];
    })

-- a request: resolve, then a slot; 16: an ldc answer above 255
unfoldable pub answer : Bool → Goal → Ready → Result ℕ (ℕ × Ready)
answer ldc goal w = do
  s ← resolve w.table goal w.resolved
  let child = child_of s.marks goal
  r ← slot_of s.nodes ldc child w.pool
  _ ← unless (not ldc || leb r.0 highest_ldc) 16
  good (r.0, record { table = w.table; resolved = s; pool = r.1; origins = w.origins ++ origin_of child w.pool ∷ [] })

-- all requests in turn: the answers, and what building starts from
unfoldable pub answer_all : List Naming → ℕ → ℕ → List Request → Ready → Result Refusal (List ℕ × Ready)
answer_all names constants place [] w = good ([], w)
answer_all names constants place (q ∷ requests) w =
    at_record place (answer q.ldc (goal_of names constants q.what) w) >>= λ r.
    answer_all names constants (suc place) requests r.1 >>= λ rest.
    good (r.0 ∷ rest.0, rest.1)

-- the class slot: a slot, or an earlier answer
unfoldable pub class_slot_of : List ℕ → ClassSlot → ℕ
class_slot_of answers (slot n) = n
class_slot_of answers (request n) = get_or answers n 0

-- where everything goes: answers in turn and how they were come by, the pool's count, what each slot from 1 to below the count holds, the bootstrap rows,
-- the name's slot, the class name (none, the empty text or a literal), the visits
pub record Layout : Type 0 where
  pub answers : List ℕ
  pub origins : List Origin
  pub count : ℕ
  pub contents : List Content
  pub rows : List Row
  pub name : ℕ
  pub class : Option (Option ℕ)
  pub visits : ℕ

unfoldable pub layout_of : ℕ → List ℕ → List Origin → ℕ → ClassSlot → List Row → ℕ × Made → Layout
layout_of top answers origins visits class rows r =
    let owned = r.1.owned in
    let count = count_from top r.1.pool.slots.gaps in
    record {
      answers = answers;
      origins = origins;
      count = count;
      contents = from (content_of owned) 1 (count - 1);
      rows = rows;
      name = r.0;
      class = class_name owned (content_of owned (class_slot_of answers class));
      visits = visits;
    }

-- record 60, which is record `place`; `records` are those of the table's entries
unfoldable pub build_layout : ℕ → List ℕ → ℕ → List (ℕ × ℕ) → Build → List ℕ → Ready → Result Refusal Layout
build_layout top records place indexes b answers w = do
  m ← at_nodes records w.resolved.marks (build_all w.resolved.nodes indexes w.pool)
  let rows = fill_holes m.rows.written m.rows.waiting
  r ← at_record place (name_slot (name_wanted b.name_byte (length rows)) w.resolved.nodes m)
  good (layout_of top answers w.origins w.resolved.visits b.class rows r)

-- the node of each raw bootstrap, by rising index
unfoldable pub index_nodes : ℕ → List Mark → List (ℕ × ℕ) → List (ℕ × ℕ)
index_nodes constants marks indexes = map (λ r. (r.0, node_at_lem marks (constants + r.1))) indexes

-- the records in turn; 50 follows the definitions, 60 the requests
unfoldable pub layout : ℕ → Job ℕ → Result Refusal Layout
layout top job =
    let constants = constants_of job.definitions in
    let size = length constants in
    let ended = length job.definitions in
    define_all top constants 0 job.definitions nothing_defined >>= λ d.
    let table = linked d.names size (constants ++ bootstraps_of job.definitions) in
    at_record ended (end_definitions top table size d) >>= λ w.
    answer_all d.names size (suc ended) job.requests w >>= λ r.
    build_layout
    top
    (table_records job.definitions)
    (suc ended + length job.requests)
    (index_nodes size r.1.resolved.marks d.indexes)
    job.build
    r.0
    r.1
