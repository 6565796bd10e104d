-- What is promised of every listing, over what then stands in the caller's buffer. The premise of each is `list`'s contract (`Lists`).
-- Assumes nothing.
use Rattle.std.specs.Prelude.{Bool, true, false, List, ◌↔◌, ◌⊎◌, ◌≡◌, ℕ, ◌≤◌, eqb, length, take, drop}
use Rattle.std.proofs.Math.Option.{none, some}
use Rattle.definition.specs.Basics.{only}
use Rattle.jvms.specs.Pool.{Slot, usable, unusable, read_pool_lem, read_bootstrap_methods}
use Rattle.listing.specs.Lists.{Lists}
use Rattle.std.specs.Prelude.{Result as Outcome, Ok, Err}
use Rattle.refusal.specs.Numbers.{number}
use Rattle.refusal.specs.declared.Refusal.{Refusal}
use Rattle.refusal.specs.declared.Refusal.TheVariants.{NotPool}

-- the lines of a text, by their ends, and the slots where a constant begins
abbrev pub line_ends : List ℕ → ℕ
line_ends text = length (only (eqb 0x0a) text)

unfoldable pub is_entry : Slot → Bool
is_entry (usable c) = true
is_entry unusable = false

abbrev pub entries : List Slot → ℕ
entries slots = length (only is_entry slots)

-- a text has as many lines as the pool has entries
abbrev pub LineForEach : Type 0
LineForEach =
    (pool : List ℕ) (count : ℕ) (methods before after : List ℕ) (n : ℕ) → Lists pool count methods before after (Ok n) →
    (slots : List Slot) × (read_pool_lem pool ≡ some slots) × (line_ends (take n after) ≡ entries slots)

-- a text is a prefix of the output, and nothing changed behind it
abbrev pub PrefixOnly : Type 0
PrefixOnly =
    (pool : List ℕ) (count : ℕ) (methods before after : List ℕ) (n : ℕ) → Lists pool count methods before after (Ok n) →
    (n ≤ length before) × (length after ≡ length before) × (drop n after ≡ drop n before)

-- a refusal is 21 or 18, and writes nothing
abbrev pub Untouched : Type 0
Untouched =
    (pool : List ℕ) (count : ℕ) (methods before after : List ℕ) (r : Refusal) → Lists pool count methods before after (Err r) →
    ((number r ≡ 21) ⊎ (number r ≡ 18)) × (after ≡ before)

-- 21 is for bytes that aren't a pool, or bootstrap methods that aren't as many as their count says, and for nothing else
abbrev pub Unread : Type 0
Unread =
    (pool : List ℕ) (count : ℕ) (methods before after : List ℕ) (r : Outcome ℕ Refusal) → Lists pool count methods before after r →
    (r ≡ Err NotPool) ↔ ((read_pool_lem pool ≡ none) ⊎ (read_bootstrap_methods count methods ≡ none))

-- what reads the same is listed the same
abbrev pub ReadAlike : Type 0
ReadAlike =
    (pool pool' : List ℕ) (count count' : ℕ) (methods methods' before before' after after' : List ℕ) (r r' : Outcome ℕ Refusal) →
    read_pool_lem pool ≡ read_pool_lem pool' → read_bootstrap_methods count methods ≡ read_bootstrap_methods count' methods' →
    length before ≡ length before' → Lists pool count methods before after r → Lists pool' count' methods' before' after' r' →
    (r ≡ r') × ((n : ℕ) → r ≡ Ok n → take n after ≡ take n after')
