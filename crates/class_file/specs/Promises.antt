-- What is promised of class files around a pool, all of byte strings: reading and writing are each other's inverse. Assumes nothing.
use Rattle.std.specs.Prelude.{true, List, ◌↔◌, ◌≡◌, ℕ, ◌≤◌, length}
use Rattle.std.proofs.Math.Option.{Option, some}
use Rattle.definition.specs.Ascii.{ascii}
use Rattle.definition.specs.Basics.{good}
use Rattle.jvms.specs.Pool.{Utf8, Slot, usable}
use Rattle.jvms.specs.Written.{Is1, Is2, All}
use Rattle.class_file.specs.ClassFile.{Parts, is_name_lem, proper, class_bytes, write_class, read_class}

-- parts whose numbers fit their bytes and whose bytes are bytes
pub record Fits (p : Parts) : Type 0 where
  pub minor_version_fits : Is2 p.minor_version
  pub major_version_fits : Is2 p.major_version
  pub pool_fits : All Is1 p.pool
  pub access_flags_fits : Is2 p.access_flags
  pub this_class_fits : Is2 p.this_class
  pub super_class_fits : Is2 p.super_class
  pub name_fits : Is2 p.name
  pub count_fits : Is2 p.count
  pub bootstraps_fits : All Is1 p.bootstraps

-- NAMED: the slots whose bytes are the name's are those that hold the text
abbrev pub Named : Type 0
Named = (slot : Option Slot) → (is_name_lem slot ≡ true) ↔ (slot ≡ some (usable (Utf8 (ascii "BootstrapMethods"))))

-- EXACT: the files that are read are those that proper parts make, and what is read are these parts; so each set of parts has one file
abbrev pub Exact : Type 0
Exact = (file : List ℕ) (p : Parts) → All Is1 file → (read_class file ≡ good p) ↔ (Fits p × (proper p ≡ true) × (file ≡ class_bytes p))

-- READ BACK: what is written is read as the parts that were given
abbrev pub ReadBack : Type 0
ReadBack = (room : ℕ) (p : Parts) (file : List ℕ) → Fits p → write_class room p ≡ good file → read_class file ≡ good p

-- WRITTEN BACK: what is read is written, where there is room, as the file that was given
abbrev pub WrittenBack : Type 0
WrittenBack = (room : ℕ) (file : List ℕ) (p : Parts) → All Is1 file → length file ≤ room → read_class file ≡ good p → write_class room p ≡ good file
