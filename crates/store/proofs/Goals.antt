-- What the words of goals mean, by their size. Assumes nothing.
use mathlib.Core.Path.{◌≡◌}
use Prim.Native.Nat.{ℕ, ◌-◌, ◌≤◌, ◌<◌}
use borrow.Author.Tests.{lt-ltb, le-ltb}
use Rattle.definition.specs.Resolving.{raw_number, table_entry}
use Rattle.store.specs.Words.{ENTRY, REFUSED, goal_word}

pub goal_raw : (x : ℕ) → x < ENTRY → goal_word x ≡ raw_number x
unfolding goal_word
goal_raw x h = rw (lt-ltb x ENTRY h, goal_word)

pub goal_entry : (x : ℕ) → ENTRY ≤ x → x < REFUSED → goal_word x ≡ table_entry (x - ENTRY)
unfolding goal_word
goal_entry x h l = rw (le-ltb x ENTRY h, lt-ltb x REFUSED l, goal_word)
