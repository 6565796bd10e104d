-- What is promised of the record that a refusal met while building is told at (document 02, No. 9): `Lowest`, proved in
-- proofs/runs/Lowest.antt. To be read as Statements.antt is. Assumes nothing.
use Rattle.std.specs.Prelude.{List, ◌++◌, ◌≡◌, ℕ, suc, ◌≤◌, length, take}
use Rattle.std.proofs.Math.Option.{some}
use Rattle.std.proofs.Math.ListN.{get_elem?}
use Rattle.definition.specs.Basics.{good}
use Rattle.definition.specs.Shapes.{Kind, Entry}
use Rattle.definition.specs.Job.{Reference, entry, Definition, define, placed, Request, Job}
use Rattle.definition.specs.Form.{kind_of, form}
use Rattle.definition.specs.Numbering.{top_of, constants_of, bootstraps_of, numbered}
use Rattle.definition.specs.Definitions.{Defined, define_all, nothing_defined}
use Rattle.definition.specs.Resolving.{table_entry, place_of, done, linked}
use Rattle.definition.specs.Places.{table_records, record_of}
use Rattle.definition.specs.Layout.{Ready, end_definitions, answer_all}
use Rattle.facts.specs.Lists.{Among}
use Rattle.laws.specs.Counted.{count_in}
use Rattle.laws.specs.LeadsStatement.{Leads}
use Rattle.laws.specs.SharedStatement.{Same}
use Rattle.laws.specs.Statements.{IsBytes, entry_at}

-- REACHED: an entry is resolved if it is a raw definition's, if a request leads to it, or if one that is reached cites it
pub data Reached (job : Job (List ℕ)) : ℕ → Type 0 where
  by_raw :
      (i : ℕ) (kind : Kind) (n number e : ℕ) → get_elem? job.definitions i ≡ some (placed kind n number) →
      Leads job.definitions (entry kind number) (table_entry e) → Reached job e
  by_request : (i : ℕ) (q : Request) (e : ℕ) → get_elem? job.requests i ≡ some q → Leads job.definitions q.what (table_entry e) → Reached job e
  by_entry :
      (d : ℕ) (x : Entry (List ℕ) Reference) (r : Reference) (e : ℕ) → Reached job d → entry_at job.definitions d ≡ some x → Among r x.kids →
      Leads job.definitions r (table_entry e) → Reached job e

-- record i is entry e: the constant, or bootstrap, with as many of its kind ahead as its number says
abbrev pub RecordOf : {L : Type 0} → List (Definition L) → ℕ → ℕ → Type 0
RecordOf {L} definitions e i =
    (x : Entry L Reference) × (get_elem? definitions i ≡ some (define x))
    × (e ≡ place_of (length (constants_of definitions)) (kind_of x.tag) (count_in (kind_of x.tag) (take i definitions)))

-- the lowest record for entry e: it is an entry that is reached and is the same, and no other such entry stands at a lower one. An entry that
-- isn't reached doesn't count
pub record LowestRecord (job : Job (List ℕ)) (e place : ℕ) : Type 0 where
  pub entry : ℕ
  pub is_reached : Reached job entry
  pub is_same : Same job.definitions (table_entry e) (table_entry entry)
  pub is_record : RecordOf job.definitions entry place
  pub lowest : (d i : ℕ) → Reached job d → Same job.definitions (table_entry e) (table_entry d) → RecordOf job.definitions d i → place ≤ i

-- a job comes to be built: its definitions, record 50 and its requests refuse nothing, and w is what building starts from
pub record ComesToBuild (job : Job (List ℕ)) (w : Ready) : Type 0 where
  pub defined : Defined
  pub ready : Ready
  pub answers : List ℕ
  pub is_defined :
      define_all (top_of job) (constants_of (numbered job).definitions) 0 (numbered job).definitions nothing_defined ≡ good defined
  pub is_ready :
      let size = length (constants_of (numbered job).definitions) in
      let table = linked defined.names size (constants_of (numbered job).definitions ++ bootstraps_of (numbered job).definitions) in
      end_definitions (top_of job) table size defined ≡ good ready
  pub is_answered :
      answer_all
      defined.names
      (length (constants_of (numbered job).definitions))
      (suc (length (numbered job).definitions))
      (numbered job).requests
      ready ≡ good (answers, w)

-- LOWEST: where a job of bytes comes to be built, a refusal met at node k is told at the lowest record for the entry that became k
abbrev pub Lowest : Type 0
Lowest =
    (bytes : List ℕ) (job : Job (List ℕ)) (w : Ready) (e k : ℕ) → IsBytes bytes → form bytes ≡ good job → ComesToBuild job w →
    get_elem? w.resolved.marks e ≡ some (done k) →
    LowestRecord job e (record_of (table_records (numbered job).definitions) w.resolved.marks k)
