-- What the code's answers are by the definition, and the pieces that it writes. Assumes nothing.
use Rattle.std.specs.Prelude.{Bool, true, false, List, ◌++◌, ◌≡◌, ℕ, zero, suc, ◌+◌, ◌-◌, ◌≤◌, length, take, drop}
use Rattle.std.proofs.Math.Option.{some}
use Rattle.definition.specs.Basics.{Result, good, bad}
use Rattle.definition.specs.Run.{overwrite}
use Rattle.jvms.specs.Pool.{◌>>=◌, u2, Slot, constant_pool, read_pool_lem, BootstrapMethod, read_bootstrap_methods}
use Rattle.jvms.specs.Written.{bytes2, bytes4}
use Rattle.writer.specs.Numbers.{number2, number4}
use Rattle.places.specs.Standing.{Noted}
use Rattle.class_file.specs.ClassFile.{Parts, named, attributes-bytes}
use Rattle.std.specs.Prelude as code
use Rattle.std.specs.Prelude.{None, Some, Ok, Err}
use Rattle.refusal.specs.Numbers.{number}
use Rattle.refusal.specs.declared.Refusal.{Refusal}
use Rattle.class_file.specs.declared.Parts.{Parts as Given}

abbrev pub parts_from : ℕ → ℕ → List ℕ → ℕ → ℕ → ℕ → ℕ → ℕ → List ℕ → Parts
parts_from minor major pool flags this super name count bootstraps =
    record {
      minor_version = minor;
      major_version = major;
      pool = pool;
      access_flags = flags;
      this_class = this;
      super_class = super;
      name = name;
      count = count;
      bootstraps = bootstraps;
    }

-- the code's parts
abbrev pub parts_of : Given → Parts
parts_of p = parts_from p.minor p.major p.pool.now p.access_flags p.this_class p.super_class p.name p.count p.bootstraps.now

-- what stands before the pool, between it and the attributes, and from attributes_count on
abbrev pub head_bytes : ℕ → ℕ → List ℕ
head_bytes minor major = bytes4 0xcafebabe ++ bytes2 minor ++ bytes2 major

abbrev pub members_bytes : ℕ → ℕ → ℕ → List ℕ
members_bytes flags this super = bytes2 flags ++ bytes2 this ++ bytes2 super ++ bytes2 0 ++ bytes2 0 ++ bytes2 0

abbrev pub attributes_of : ℕ → ℕ → List ℕ → List ℕ
attributes_of name count bootstraps =
    attributes-bytes name (bytes2 name ++ bytes4 (2 + length bootstraps) ++ bytes2 count ++ bootstraps)

-- how many bytes a file has besides its pool and its bootstrap methods, by its name slot
abbrev pub frame_size : ℕ → ℕ
frame_size zero = 22
frame_size (suc i) = 30

-- a test tells whether something is so
abbrev pub Tells : Bool → Type 0 → Type 0
Tells true P = P
Tells false P = P → ⊥

-- a file before its pool, from the end of the pool to its attributes, and from there on
abbrev pub Head : List ℕ → Type 0
Head file = (8 ≤ length file) × (number4 file 0 ≡ 0xcafebabe)

abbrev pub NoMembers : List ℕ → ℕ → Type 0
NoMembers file at = (at + 14 ≤ length file) × (number2 file (at + 6) ≡ 0) × (number2 file (at + 8) ≡ 0) × (number2 file (at + 10) ≡ 0)

abbrev pub OneAttribute : List ℕ → ℕ → Type 0
OneAttribute file at = (at + 8 ≤ length file) × (at + 6 + number4 file (at + 2) ≡ length file)

-- what makes parts proper
pub record Right (pool : List ℕ) (name count : ℕ) (bootstraps : List ℕ) : Type 0 where
  pub slots : List Slot
  pub pool_read : read_pool_lem pool ≡ some slots
  pub name_held : named (some slots) name count ≡ true
  pub methods : List BootstrapMethod
  pub methods_read : read_bootstrap_methods count bootstraps ≡ some methods
  pub short : length bootstraps ≤ 4294967293

-- the length of a file, or why there is none, and the later contents of the output, by the definition's result
abbrev pub length_of : Result ℕ (List ℕ) → Result ℕ ℕ
length_of (good file) = good (length file)
length_of (bad code) = bad code

abbrev pub out_after : Result ℕ (List ℕ) → List ℕ → List ℕ
out_after (good file) before = overwrite file before
out_after (bad code) before = before

-- the parts that were read, as the definition's result; where none were found the file is refused by 27
abbrev pub parts_read : code.Result Given Refusal → Result ℕ Parts
parts_read (Ok p) = good (parts_of p)
parts_read (Err r) = bad (number r)

abbrev pub parts_found : code.Option Given → Result ℕ Parts
parts_found None = bad 27
parts_found (Some p) = good (parts_of p)

-- what stands in a file whose pool ends at a place, and whose bootstrap methods begin at another
abbrev pub parts_at : List ℕ → ℕ → ℕ → ℕ → ℕ → Parts
parts_at file end name count from =
    parts_from (number2 file 4) (number2 file 6) (take (end - 8) (drop 8 file)) (number2 file end) (number2 file (end + 2)) (number2 file (end + 4)) name count (drop from file)

-- a file is of the frame up to its attributes: its pool was read, ends at a place, and is noted in a table
pub record Framed (file : List ℕ) (end : ℕ) (table : List ℕ) : Type 0 where
  pub head : Head file
  pub slots : List Slot
  pub pool_read : (u2 >>= constant_pool) (drop 8 file) ≡ some (slots, drop end file)
  pub behind : 8 ≤ end
  pub noted : Noted file slots table
  pub members : NoMembers file end
