-- What the work of a job has room for, as names need it. Assumes nothing.
use mathlib.Core.List.{List}
use mathlib.Core.Path.{◌≡◌, refl}
use Prim.Native.Nat.{ℕ, ◌+◌, ◌≤◌}
use native.Mathlib.Omega.{arith}
use lib.ListN.{length}
use Rattle.store.specs.Store.{size, Laid}
use Rattle.store.specs.Chains.{Heads}
use Rattle.store.specs.JobIn.{counts_in, entries_in, constants_in, namings_in}
use Rattle.store.specs.Regions.{COUNTS, MARKS, INDEXES, NAME-HEADS, NAME-LINKS, GOALS, NAME-PLACES, NAME-GOALS, sizes_for, Work}
use Rattle.store.proofs.Laying.{places_laid, work-sizes, work-formed, entries-counted}
use Rattle.store.proofs.Bounds.{small}

work-laid : (s p : List ℕ) → Work s p → Laid p
unfolding Work sizes_for
work-laid s p (formed, e) = rw e (places_laid (sizes_for (counts_in s) (length s)) refl)

pub record Room (s p : List ℕ) : Type 0 where
  pub laid : Laid p
  pub bytes : length s ≤ 1048576
  pub counts : size p COUNTS ≡ 20
  pub heads : Heads p NAME-HEADS
  pub links : size p NAME-LINKS ≡ length (namings_in s)
  pub places : size p NAME-PLACES ≡ length (namings_in s)
  pub name_goals : size p NAME-GOALS ≡ length (namings_in s)
  pub goals : size p GOALS ≡ (counts_in s).references
  pub names : length (namings_in s) ≤ 1048576
  pub entries : entries_in s ≤ 131072
  pub constants : (counts_in s).constants ≡ constants_in s
  pub both : constants_in s + (counts_in s).bootstraps ≡ entries_in s
  pub marks : size p MARKS ≡ entries_in s
  pub indexes : size p INDEXES ≡ (counts_in s).bootstraps

pub room : (s p : List ℕ) → Work s p → Room s p
room s p work =
    let z = work-sizes s p work in
    let m = small s (work-formed s p work) in
    let e = entries-counted s in
    record {
      laid = work-laid s p work;
      bytes = m.bytes;
      counts = z.counts;
      heads = record { real = omega arith; two = omega (arith, z.name_heads); few = omega (arith, z.name_heads, m.names) };
      links = omega (arith, z.name_links, m.names_are);
      places = omega (arith, z.name_places, m.names_are);
      name_goals = omega (arith, z.name_goals, m.names_are);
      goals = z.goals;
      names = omega (arith, m.names, m.names_are);
      entries = m.entries;
      constants = m.constants_are;
      both = omega (arith, m.constants_are, e);
      marks = omega (arith, z.marks, e);
      indexes = z.indexes;
    }
