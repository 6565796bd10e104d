-- What passes over the bytes of a pool and of bootstrap methods put into a table, and the tag at an index. Assumes nothing.
use Rattle.std.specs.Prelude.{Bool, true, false, List, [], ◌∷◌, ◌≡◌, ℕ, zero, suc, ◌+◌, ◌-◌, ◌<◌, ◌≤◌, length, drop, get_or, set}
use Rattle.std.proofs.Math.Option.{Option, none, some}
use Rattle.std.proofs.lemmas.List.Edits.{sets}
use Rattle.jvms.specs.Pool.{◌>>=◌, u2, cp_info_lem, takes_two, Slot, usable, unusable, slots, constant_pool, BootstrapMethod, bootstrap_method, read_bootstrap_methods}
use Rattle.jvms.specs.Written.{constant_bytes, bootstrap_method_bytes}
use Rattle.std.specs.Prelude as code
use Rattle.std.specs.Prelude.{None, Some}

-- a table with no place in it
abbrev pub Blank : List ℕ → Type 0
Blank table = (length table ≡ 65536) × ((n : ℕ) → get_or table n 0 ≡ 0)

-- how many slots a constant takes
abbrev pub width : Bool → ℕ
width false = 1
width true = 2

-- a table with the place of each constant put in at its index: the first slot has index i, and the first constant stands at a place, the
-- others each right behind the one before
unfoldable pub placed : List Slot → ℕ → ℕ → List ℕ → List ℕ
placed [] at i table = table
placed (usable c ∷ rest) at i table = placed rest (at + length (constant_bytes c)) (suc i) (set table i at)
placed (unusable ∷ rest) at i table = placed rest at (suc i) table

-- the same of bytes that needn't be so many slots: the places of the constants up to the first that isn't there. As in JVMS's slots, the
-- first index may be the unusable one of the constant before
unfoldable pub placed_up_to : ℕ → Bool → List ℕ → ℕ → ℕ → List ℕ → List ℕ
placed_up_to zero w bytes at i table = table
placed_up_to (suc n) false bytes at i table = elim (cp_info_lem (drop at bytes)) [
  | none ↦ table
  | some r ↦ placed_up_to n (takes_two r.0) bytes (at + length (constant_bytes r.0)) (suc i) (set table i at)
]
placed_up_to (suc n) true bytes at i table = placed_up_to n false bytes at (suc i) table

-- what reading so many slots from a place found, and what it left in the table: their places, from index 1 on
abbrev pub SlotsNoted : List ℕ → ℕ → ℕ → List ℕ → List ℕ → code.Option ℕ → Type 0
SlotsNoted bytes at n before after None =
    (slots n false (drop at bytes) ≡ none) × (length after ≡ length before) × (after ≡ placed_up_to n false bytes at 1 before)
SlotsNoted bytes at n before after (Some next) =
    (found : List Slot) × (slots n false (drop at bytes) ≡ some (found, drop next bytes)) × (at ≤ next) × (next ≤ length bytes)
    × (after ≡ placed found at 1 before)

-- how many slots a pool's count leaves to read, none where it is cut off
abbrev pub slots_asked : Option (ℕ × List ℕ) → ℕ
slots_asked none = 0
slots_asked (some r) = r.0 - 1

-- the same of a whole pool: its count, of two bytes, then its constants
abbrev pub PoolNoted : List ℕ → ℕ → List ℕ → List ℕ → code.Option ℕ → Type 0
PoolNoted bytes at before after None =
    ((u2 >>= constant_pool) (drop at bytes) ≡ none) × (length after ≡ length before)
    × (after ≡ placed_up_to (slots_asked (u2 (drop at bytes))) false bytes (at + 2) 1 before)
PoolNoted bytes at before after (Some next) =
    (found : List Slot) × ((u2 >>= constant_pool) (drop at bytes) ≡ some (found, drop next bytes)) × (at < next) × (next ≤ length bytes)
    × (suc (length found) < 65536) × (after ≡ placed found (at + 2) 1 before)

-- the tag of the constant at an index of a table, 0 where it has no place, or one behind the bytes
abbrev pub tag_from : List ℕ → ℕ → ℕ
tag_from bytes zero = 0
tag_from bytes (suc p) = get_or bytes (suc p) 0

abbrev pub tag_at : List ℕ → List ℕ → ℕ → ℕ
tag_at bytes table i = tag_from bytes (get_or table i 0)

-- where bootstrap methods stand, the first at a place and the others each right behind the one before
unfoldable pub starts : List BootstrapMethod → ℕ → List ℕ
starts [] at = []
starts (m ∷ rest) at = at ∷ starts rest (at + length (bootstrap_method_bytes m))

-- the same of bytes that needn't be so many: up to the first that isn't there
unfoldable pub starts_up_to : ℕ → List ℕ → ℕ → List ℕ
starts_up_to zero bytes at = []
starts_up_to (suc n) bytes at = elim (bootstrap_method (drop at bytes)) [
  | none ↦ []
  | some r ↦ at ∷ starts_up_to n bytes (at + length (bootstrap_method_bytes r.0))
]

-- whether a bootstrap method stands at a place, and the place behind it
abbrev pub MethodPassed : List ℕ → ℕ → code.Option ℕ → Type 0
MethodPassed bytes at None = bootstrap_method (drop at bytes) ≡ none
MethodPassed bytes at (Some next) = (m : BootstrapMethod) × (bootstrap_method (drop at bytes) ≡ some (m, drop next bytes)) × (next ≤ length bytes)

-- whether bytes are so many bootstrap methods and nothing more, whose places then stand in the table from index 0 on
abbrev pub MethodsPut : List ℕ → ℕ → List ℕ → List ℕ → Bool → Type 0
MethodsPut bytes count before after false =
    (read_bootstrap_methods count bytes ≡ none) × (length after ≡ length before) × (after ≡ sets before 0 (starts_up_to count bytes 0))
MethodsPut bytes count before after true =
    (methods : List BootstrapMethod) × (read_bootstrap_methods count bytes ≡ some methods) × (length methods ≡ count)
    × (after ≡ sets before 0 (starts methods 0))
