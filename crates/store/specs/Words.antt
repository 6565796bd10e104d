-- What the words of the regions mean: references, goals, items of the stack, marks. Assumes nothing.
use Rattle.std.specs.Prelude.{true, false, List, ◌++◌, ◌⊎◌, ◌≡◌, ℕ, zero, suc, ◌+◌, ◌-◌, ◌≤◌, ◌<◌, ltb, get_or, take, drop}
use Rattle.definition.specs.Basics.{from}
use Rattle.definition.specs.Bytes.{be4}
use Rattle.definition.specs.Shapes.{constant, bootstrap, is_wide}
use Rattle.definition.specs.Job.{Reference, raw, entry, name, short_name}
use Rattle.definition.specs.Resolving.{Goal, raw_number, table_entry, refusal, Mark, fresh, underway, done, Item, enter, leave}
use Rattle.job.specs.Stored.{Stands}

-- a raw number is itself, and entry e of the one table, or as a child node e, is ENTRY + e
abbrev pub ENTRY : ℕ
ENTRY = 65536

-- on the stack only: entry e is left
abbrev pub LEAVE : ℕ
LEAVE = 262144

-- until references are linked: the name of a constant, of a bootstrap, whose length byte stands at a place of the job
abbrev pub SYM : ℕ
SYM = 1048576

abbrev pub BOOTSTRAP-SYM : ℕ
BOOTSTRAP-SYM = 2097152

-- a refusal's number
abbrev pub REFUSED : ℕ
REFUSED = 16777216

-- while names are followed: name i
abbrev pub NAME : ℕ
NAME = 33554432

-- the entry of a raw slot that is the second half of a wide constant
abbrev pub HALF : ℕ
HALF = 131072

-- the name whose length byte stands at a place
unfoldable pub label_at : List ℕ → ℕ → List ℕ
label_at s at = take (get_or s at 0) (drop (at + 1) s)

-- a reference's word, in a job of these bytes with so many constants
unfoldable pub reference_word : List ℕ → ℕ → ℕ → Reference
reference_word s constants x =
    elim (ltb x ENTRY) [
      | true ↦ raw x
      | false ↦
          elim (ltb x (ENTRY + constants)) [
            | true ↦ entry constant (x - ENTRY)
            | false ↦
                elim (ltb x SYM) [
                  | true ↦ entry bootstrap (x - (ENTRY + constants))
                  | false ↦
                      elim (ltb x BOOTSTRAP-SYM) [
                        | true ↦ name constant (label_at s (x - SYM))
                        | false ↦ name bootstrap (label_at s (x - BOOTSTRAP-SYM))
                      ]
                ]
          ]
    ]

-- a word that a reference of a job with so many entries can have: what it cites is there, and so are its name's bytes
abbrev pub IsReference : List ℕ → ℕ → ℕ → Type 0
IsReference s entries x =
    (x < ENTRY + entries)
    ⊎ (((SYM ≤ x) × (x < BOOTSTRAP-SYM) × Stands short_name s (x - SYM)) ⊎ ((BOOTSTRAP-SYM ≤ x) × Stands short_name s (x - BOOTSTRAP-SYM)))

unfoldable pub goal_word : ℕ → Goal
goal_word x =
    elim (ltb x ENTRY) [
      | true ↦ raw_number x
      | false ↦ elim (ltb x REFUSED) [ true ↦ table_entry (x - ENTRY) | false ↦ refusal (x - REFUSED) ]
    ]

-- a goal's word, in a table of so many entries
abbrev pub IsGoal : ℕ → ℕ → Type 0
IsGoal entries x = (x < ENTRY + entries) ⊎ ((x ≡ REFUSED + 12) ⊎ (x ≡ REFUSED + 13))

unfoldable pub item_word : ℕ → Item
item_word x =
    elim (ltb x LEAVE) [
      | true ↦ enter (goal_word x)
      | false ↦ elim (ltb x REFUSED) [ true ↦ leave (x - LEAVE) | false ↦ enter (goal_word x) ]
    ]

unfoldable pub mark_word : ℕ → Mark
mark_word zero = fresh
mark_word (suc zero) = underway
mark_word (suc (suc k)) = done k

-- the bytes of a number with this tag: of its first word, and of a second one if it is wide
unfoldable pub number_bytes : ℕ → ℕ → ℕ → List ℕ
number_bytes tag first second = elim (is_wide tag) [ true ↦ be4 first ++ be4 second | false ↦ be4 first ]

-- n words from a place on
abbrev pub cut : List ℕ → ℕ → ℕ → List ℕ
cut l at n = from (λ i. get_or l (at + i) 0) 0 n

-- the slot of a child: a raw number is itself, and a node has the slot that it was given, 0 while it has none
unfoldable pub child_slot : List ℕ → ℕ → ℕ
child_slot given child = elim (ltb child ENTRY) [ true ↦ child | false ↦ get_or given (child - ENTRY) 0 ]
