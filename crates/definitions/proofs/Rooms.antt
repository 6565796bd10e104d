-- What the work of a job has room for, as the definitions need it. Assumes nothing.
use mathlib.Core.List.{List}
use mathlib.Core.Path.{◌≡◌}
use Prim.Native.Nat.{ℕ, ◌-◌, ◌≤◌}
use native.Mathlib.Omega.{arith}
use lib.ListN.{length}
use Rattle.job.specs.Forms.{counts_of}
use Rattle.store.specs.Store.{size, Laid}
use Rattle.store.specs.JobIn.{counts_in, definitions_in, entries_in, constants_in}
use Rattle.store.specs.Regions.{COUNTS, MARKS, INDEXES, RECORDS, OFFSETS, FIRSTS, SIZES, GOALS, RAW-KEYS, raws_of, Work}
use Rattle.store.proofs.Laying.{work-sizes, work-formed, entries-counted}
use Rattle.store.proofs.Bounds.{small}
use Rattle.sym_refs.proofs.Rooms.{room as names-room}
use Rattle.raws.specs.Raws.{RawRoom}
use Rattle.raws.proofs.Starting.{raw_room_lem}

pub record Room (s p : List ℕ) : Type 0 where
  pub laid : Laid p
  pub bytes : length s ≤ 1048576
  pub counts : size p COUNTS ≡ 20
  pub records : size p RECORDS ≡ entries_in s
  pub offsets : size p OFFSETS ≡ entries_in s
  pub firsts : size p FIRSTS ≡ entries_in s
  pub sizes : size p SIZES ≡ entries_in s
  pub goals : size p GOALS ≡ (counts_in s).references
  pub references : (counts_in s).references ≤ 1048576
  pub entries : entries_in s ≤ 131072
  pub marks : size p MARKS ≡ entries_in s
  pub indexes : size p INDEXES ≤ size p MARKS
  pub constants : size p MARKS - size p INDEXES ≡ constants_in s
  pub definitions : length (definitions_in s) ≤ 1048576
  pub raws : RawRoom p
  pub few_raws : size p RAW-KEYS ≤ 4000000
  pub raw_keys : size p RAW-KEYS ≡ raws_of (counts_in s)

pub room : (s p : List ℕ) → Work s p → Room s p
unfolding counts_in counts_of
room s p work =
    let z = work-sizes s p work in
    let m = small s (work-formed s p work) in
    let e = entries-counted s in
    record {
      laid = (names-room s p work).laid;
      bytes = m.bytes;
      counts = z.counts;
      records = omega (arith, z.records, e);
      offsets = omega (arith, z.offsets, e);
      firsts = omega (arith, z.firsts, e);
      sizes = omega (arith, z.sizes, e);
      goals = z.goals;
      references = m.references;
      entries = m.entries;
      marks = omega (arith, z.marks, e);
      indexes = omega (arith, z.marks, z.indexes);
      constants = omega (arith, z.marks, z.indexes, m.constants_are);
      definitions = m.definitions;
      raws = raw_room_lem p (counts_in s) z (omega (arith, m.raw_constants, m.raw_bootstraps));
      few_raws = omega (arith, z.raw_keys, m.raw_constants, m.raw_bootstraps);
      raw_keys = z.raw_keys;
    }
