-- The steps of a run that ask for a slot or for a bootstrap index, from what a run comes to on. Assumes nothing.
use mathlib.Core.Bool.{Bool, true, false}
use mathlib.Core.List.{List, [], ◌∷◌, reverse}
use mathlib.Core.Path.{◌≡◌}
use Prim.Native.Nat.{ℕ, ◌-◌, ◌≤◌, ◌<◌}
use lib.ListN.{length}
use Rattle.definition.specs.Basics.{good, bad, position}
use Rattle.definition.specs.Shapes.{bootstrap_tag}
use Rattle.definition.specs.Job.{Request, Job}
use Rattle.definition.specs.Definitions.{Defined, tag_at, define_all, nothing_defined}
use Rattle.definition.specs.Resolving.{Goal, goal_of, Node, first_node, Resolved, same_node, intern, child_of, resolve}
use Rattle.definition.specs.Building.{Pool, allocate, slots_of, Row, Rows, row_index, Made, kids_of, raw_rows, build_all, attribute_text, name_wanted}
use Rattle.definition.specs.Layout.{Ready, end_definitions, answer, index_nodes}
use Rattle.facts.specs.Lists.{Among}
use Rattle.laws.proofs.Building.LayoutStages.{constants_in, table_in, rows_in}

-- the pools of building: the one that it starts from, then after each slot for a child of a node, and with the stack taken from
pub data PoolIn (nodes : List Node) (start : Pool) : Pool → Type 0 where
  at_start : PoolIn nodes start start
  after_child :
      (k c s : ℕ) (p p' : Pool) →
      PoolIn nodes start p →
      Among c (kids_of nodes k) →
      first_node ≤ c →
      allocate nodes false (c - first_node) p ≡ good (s, p') →
      PoolIn nodes start p'
  after_taken :
      (pending : List (ℕ × ℕ)) (p : Pool) →
      PoolIn nodes start p →
      PoolIn nodes start (record { slots = p.slots; given = p.given; pending = pending; version = p.version })

-- a row that building asks an index for: the slots of an inline bootstrap's children
pub record RowOf (nodes : List Node) (start : Pool) (row : Row) : Type 0 where
  pub node : ℕ
  pub tag : tag_at nodes node ≡ bootstrap_tag
  pub before : Pool
  pub after : Pool
  pub pools : PoolIn nodes start before
  pub slots : slots_of nodes (kids_of nodes node) before ≡ good (row, after)

-- the rows of building: the raw ones, then after each such row
pub data RowsIn (nodes : List Node) (indexes : List (ℕ × ℕ)) (start : Pool) : Rows → Type 0 where
  raw_ones :
      (waiting : List (ℕ × Row)) (p : Pool) →
      raw_rows nodes (reverse indexes) start [] ≡ good (waiting, p) →
      RowsIn nodes indexes start (record { written = []; waiting = waiting; inline = [] })
  after_inline :
      (row : Row) (i : ℕ) (rows rows' : Rows) →
      RowsIn nodes indexes start rows →
      RowOf nodes start row →
      row_index row rows ≡ good (i, rows') →
      RowsIn nodes indexes start rows'

-- where a request leads
abbrev pub goal_for : Job ℕ → Defined → Request → Goal
goal_for job d q = goal_of d.names (length (constants_in job)) q.what

-- what a run works on after record 50 and after each answer, with the requests that are left
pub data Reaches (top : ℕ) (job : Job ℕ) (d : Defined) : List Request → Ready → Type 0 where
  after_fifty :
      (w : Ready) →
      define_all top (constants_in job) 0 job.definitions nothing_defined ≡ good d →
      end_definitions top (table_in job d) (length (constants_in job)) d ≡ good w →
      Reaches top job d job.requests w
  after_answer :
      (q : Request) (left : List Request) (w w' : Ready) (a : ℕ) →
      Reaches top job d (q ∷ left) w →
      answer q.ldc (goal_for job d q) w ≡ good (a, w') →
      Reaches top job d left w'

-- the raw bootstraps that building starts from
abbrev pub raws_at : Job ℕ → Defined → Ready → List (ℕ × ℕ)
raws_at job d w = index_nodes (length (constants_in job)) w.resolved.marks d.indexes

-- the slots that a run asks for, over these nodes, ldc or not, for this node, from this pool; while building, any child of any node
pub data AsksSlot (top : ℕ) (job : Job ℕ) : List Node → Bool → ℕ → Pool → Type 0 where
  for_request :
      (d : Defined) (q : Request) (left : List Request) (w : Ready) (s : Resolved) →
      Reaches top job d (q ∷ left) w →
      resolve w.table (goal_for job d q) w.resolved ≡ good s →
      first_node ≤ child_of s.marks (goal_for job d q) →
      AsksSlot top job s.nodes q.ldc (child_of s.marks (goal_for job d q) - first_node) w.pool
  for_child :
      (d : Defined) (w : Ready) (k c : ℕ) (p : Pool) →
      Reaches top job d [] w →
      PoolIn w.resolved.nodes w.pool p →
      Among c (kids_of w.resolved.nodes k) →
      first_node ≤ c →
      AsksSlot top job w.resolved.nodes false (c - first_node) p
  for_name :
      (d : Defined) (w : Ready) (m : Made) →
      Reaches top job d [] w →
      build_all w.resolved.nodes (raws_at job d w) w.pool ≡ good m →
      name_wanted job.build.name_byte (length (rows_in m)) ≡ true →
      AsksSlot top job (intern attribute_text w.resolved.nodes) false (position (same_node attribute_text) w.resolved.nodes) m.pool

-- the indexes that a run asks for, for this row, from these rows; any bootstrap, from any pool of building
pub record AsksIndex (top : ℕ) (job : Job ℕ) (row : Row) (rows : Rows) : Type 0 where
  pub defined : Defined
  pub state : Ready
  pub reached : Reaches top job defined [] state
  pub rows_in : RowsIn state.resolved.nodes (raws_at job defined state) state.pool rows
  pub row_of : RowOf state.resolved.nodes state.pool row

-- where a layout is refused: by the form, the definitions or resolving, as an ldc answer above 255, or at one of these steps
pub data LayoutRefused (top : ℕ) (job : Job ℕ) (code : ℕ) : Type 0 where
  early : code < 14 → LayoutRefused top job code
  too_new : code ≡ 24 → LayoutRefused top job code
  sixteen : code ≡ 16 → LayoutRefused top job code
  at_slot :
      (nodes : List Node) (ldc : Bool) (k : ℕ) (p : Pool) →
      AsksSlot top job nodes ldc k p →
      allocate nodes ldc k p ≡ bad code →
      LayoutRefused top job code
  at_row : (row : Row) (rows : Rows) → AsksIndex top job row rows → row_index row rows ≡ bad code → LayoutRefused top job code
