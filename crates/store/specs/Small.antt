-- How much a job can have: the form pass refuses more entries, and every record takes bytes. Assumes nothing.
use Rattle.std.specs.Prelude.{List, ◌≡◌, ℕ, ◌≤◌, length}
use Rattle.store.specs.JobIn.{counts_in, entries_in, constants_in, namings_in}

pub record Small (s : List ℕ) : Type 0 where
  pub bytes : length s ≤ 1048576
  pub entries : entries_in s ≤ 131072
  pub constants : (counts_in s).constants ≤ 65536
  pub bootstraps : (counts_in s).bootstraps ≤ 65536
  pub references : (counts_in s).references ≤ 1048576
  pub names : (counts_in s).names ≤ 1048576
  pub raw_constants : (counts_in s).raw_constants ≤ 1048576
  pub raw_bootstraps : (counts_in s).raw_bootstraps ≤ 1048576
  pub requests : (counts_in s).requests ≤ 1048576
  pub definitions : (counts_in s).definitions ≤ 1048576
  pub constants_are : (counts_in s).constants ≡ constants_in s
  pub names_are : (counts_in s).names ≡ length (namings_in s)
