-- The definitions in turn (document 01, "Refusal numbers", 6 to 11): raw constants, raw bootstraps, names and the version. Assumes nothing.
use Rattle.std.specs.Prelude.{Bool, true, false, ◌&&◌, ◌||◌, not, List, [], ◌∷◌, ◌++◌, ℕ, suc, eqb, leb, ltb}
use Rattle.std.proofs.Math.Option.{Option, none, some}
use Rattle.std.proofs.Math.ListN.{get_elem?}
use Rattle.definition.specs.Basics.{Result, good, bad, ◌>>=◌, Refusal, at_record, unless, same, lookup, insert}
use Rattle.definition.specs.Settings.{Setting, version, texts, highest, newest}
use Rattle.definition.specs.Shapes.{Kind, constant, bootstrap, Entry, is_wide}
use Rattle.definition.specs.Job.{Reference, Definition, define, named, placed, setting}

-- how a raw slot is held: a constant starts there, the one with this entry number, or it is the second half of a wide one
pub data Held : Type 0 where
  starts : ℕ → Held
  half : Held

-- a name of a kind, and what it stands for
pub record Naming : Type 0 where
  pub kind : Kind
  pub label : List ℕ
  pub target : Reference

-- what was defined so far: raw slots by rising slot, raw bootstraps by rising index, names, and the version that constants are held to
pub record Defined : Type 0 where
  pub held : List (ℕ × Held)
  pub indexes : List (ℕ × ℕ)
  pub names : List Naming
  pub version : ℕ

unfoldable pub same_kind_lem : Kind → Kind → Bool
same_kind_lem constant constant = true
same_kind_lem constant bootstrap = false
same_kind_lem bootstrap constant = false
same_kind_lem bootstrap bootstrap = true

-- what a name of a kind stands for
unfoldable pub name_target : Kind → List ℕ → List Naming → Option Reference
name_target kind s [] = none
name_target kind s (n ∷ names) =
    elim (same_kind_lem kind n.kind && same s n.label) [ true ↦ some n.target | false ↦ name_target kind s names ]

unfoldable pub is_none : {A : Type 0} → Option A → Bool
is_none none = true
is_none (some a) = false

-- the tag of an entry; 0 where there is none
unfoldable pub tag_at : {L R : Type 0} → List (Entry L R) → ℕ → ℕ
tag_at entries n = elim (get_elem? entries n) [ none ↦ 0 | some e ↦ e.tag ]

-- slot n itself is free, else 8 if a constant starts there and 7 if it is a second half
unfoldable pub start_free : Option Held → Result ℕ (Unit {0})
start_free none = good tt
start_free (some (starts e)) = bad 8
start_free (some half) = bad 7

-- the last slot of a constant at n
unfoldable pub last_slot : Bool → ℕ → ℕ
last_slot true n = suc n
last_slot false n = n

-- the raw slots with one constant more
unfoldable pub hold : Bool → ℕ → ℕ → List (ℕ × Held) → List (ℕ × Held)
hold true n e held = insert n (starts e) (insert (suc n) half held)
hold false n e held = insert n (starts e) held

-- raw constant e at slot n: 6 unless it lies within 1 to the highest slot; then 7 if slot n + 1 of a wide one is taken; then slot n
unfoldable pub place_constant : ℕ → Bool → ℕ → ℕ → List (ℕ × Held) → Result ℕ (List (ℕ × Held))
place_constant top wide n e held = do
  _ ← unless (not (eqb n 0) && leb (last_slot wide n) top) 6
  _ ← unless (not wide || is_none (lookup (suc n) held)) 7
  _ ← start_free (lookup n held)
  good (hold wide n e held)

-- raw bootstrap e at an index: 9 at 65535, 10 where there is one
unfoldable pub place_bootstrap : ℕ → ℕ → List (ℕ × ℕ) → Result ℕ (List (ℕ × ℕ))
place_bootstrap index e indexes = do
  _ ← unless (ltb index 65535) 9
  _ ← unless (is_none (lookup index indexes)) 10
  good (insert index e indexes)

-- 47 sets the version
unfoldable pub with_setting : Setting → Defined → Defined
with_setting (version v) d = record { held = d.held; indexes = d.indexes; names = d.names; version = v }
with_setting texts d = d
with_setting (highest n) d = d

-- one definition in turn, where the job's constants are `constants`; 11: the name is defined for its kind
unfoldable pub define_one : {R : Type 0} → ℕ → List (Entry ℕ R) → Definition ℕ → Defined → Result ℕ Defined
define_one top constants (define e) d = good d
define_one top constants (named kind s r) d = do
  _ ← unless (is_none (name_target kind s d.names)) 11
  good (record { held = d.held; indexes = d.indexes; names = d.names ++ record { kind = kind; label = s; target = r } ∷ []; version = d.version })
define_one top constants (placed constant n e) d = do
  held ← place_constant top (is_wide (tag_at constants e)) n e d.held
  good (record { held = held; indexes = d.indexes; names = d.names; version = d.version })
define_one top constants (placed bootstrap index e) d = do
  indexes ← place_bootstrap index e d.indexes
  good (record { held = d.held; indexes = indexes; names = d.names; version = d.version })
define_one top constants (setting s) d = good (with_setting s d)

-- all definitions in turn
unfoldable pub define_all : {R : Type 0} → ℕ → List (Entry ℕ R) → ℕ → List (Definition ℕ) → Defined → Result Refusal Defined
define_all top constants place [] d = good d
define_all top constants place (x ∷ rest) d =
    at_record place (define_one top constants x d) >>= λ d'. define_all top constants (suc place) rest d'

unfoldable pub nothing_defined : Defined
nothing_defined = record { held = []; indexes = []; names = []; version = newest }
