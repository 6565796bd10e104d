-- What the form pass returns, and how it goes by the definition's readers. Assumes nothing.
use Rattle.std.specs.Prelude.{Bool, true, false, ◌&&◌, ◌||◌, not, List, [], ◌∷◌, ◌≡◌, ℕ, zero, suc, ◌+◌, ◌*◌, ◌-◌, ◌^◌, ◌≤◌, ◌<◌, eqb, ltb, length, get_or, take, drop}
use Rattle.std.specs.Prelude.{Some, None, Ok, Err}
use Rattle.std.specs.Prelude as std
use Rattle.std.proofs.Math.Option.{Option, none, some}
use Rattle.definition.specs.Basics.{Result, good, bad, Refusal, at_record, unless, every, lookup, only}
use Rattle.definition.specs.Bytes.{Parser}
use Rattle.definition.specs.Settings.{version, texts, highest, is_slot, highest_of, newest}
use Rattle.definition.specs.Shapes.{Kind, constant, bootstrap, Field, bootstrap_shape, read_entry}
use Rattle.definition.specs.Texts.{is_text}
use Rattle.definition.specs.Job.{Definition, define, named, placed, setting, Build, Job, Body, of_entry, of_name, of_raw, of_expression, of_number, of_nothing, bodies, reference, read_body}
use Rattle.definition.specs.Form.{Counts, count_of, kind_of, with_broken, cites, cites_earlier, table_size, Definitions, form_definition, form_definitions, Requests}
use Rattle.definition.specs.Numbering.{constants_of, bootstraps_of, settings}
use Rattle.definition.specs.Definitions.{same_kind_lem}
use Rattle.raw_const.specs.Entries.{fields_of}
use Rattle.job.specs.declared.Opening.{Opening}
use Rattle.job.specs.declared.Opening.TheVariants.{Constant, Bootstrap, NamedConstant, NamedBootstrap, RawConstant, RawBootstrap, Version, Texts, Highest, Expression}
use Rattle.job.specs.declared.JobCounts.{JobCounts}
use Rattle.job.specs.declared.Step.{Step}
use Rattle.job.specs.declared.Skipped.{Skipped}
use Rattle.refusal.specs.Numbers.{number}
use Rattle.refusal.specs.declared.Refusal as refusals
use Rattle.refusal.specs.declared.Refused.{Refused}

-- ---- what a first byte opens

-- what follows an entry's first byte, if it has these fields
unfoldable pub entry_body : Option (List Field) → Option Body
entry_body none = none
entry_body (some fields) = some (of_entry fields)

-- what follows a definition's first byte
unfoldable pub body_of : Opening → Option Body
body_of (Constant shape) = entry_body (fields_of shape)
body_of Bootstrap = some (of_entry bootstrap_shape)
body_of NamedConstant = some (of_name constant)
body_of NamedBootstrap = some (of_name bootstrap)
body_of RawConstant = some (of_raw constant)
body_of RawBootstrap = some (of_raw bootstrap)
body_of Version = some (of_number version)
body_of Texts = some (of_nothing texts)
body_of Highest = some (of_number highest)
body_of Expression = some of_expression

-- the table that an entry goes into: as kind_of has it, the first for all but 40 hex
unfoldable pub table_of : Opening → Kind
table_of (Constant shape) = constant
table_of Bootstrap = bootstrap
table_of NamedConstant = constant
table_of NamedBootstrap = constant
table_of RawConstant = constant
table_of RawBootstrap = constant
table_of Version = constant
table_of Texts = constant
table_of Highest = constant
table_of Expression = constant

unfoldable pub is_setting : Opening → Bool
is_setting (Constant shape) = false
is_setting Bootstrap = false
is_setting NamedConstant = false
is_setting NamedBootstrap = false
is_setting RawConstant = false
is_setting RawBootstrap = false
is_setting Version = true
is_setting Texts = true
is_setting Highest = true
is_setting Expression = false

-- neither a setting nor an expression
unfoldable pub is_plain : Opening → Bool
is_plain (Constant shape) = true
is_plain Bootstrap = true
is_plain NamedConstant = true
is_plain NamedBootstrap = true
is_plain RawConstant = true
is_plain RawBootstrap = true
is_plain Version = false
is_plain Texts = false
is_plain Highest = false
is_plain Expression = false

-- the byte at a place opens this
abbrev pub Opens : List ℕ → ℕ → Opening → Type 0
Opens s at opening = (body_of opening ≡ lookup (get_or s at 0) bodies) × (table_of opening ≡ kind_of (get_or s at 0))

-- ---- skipping

-- p reads a value of s at a place, and next is the place behind it, a byte or more for each reference
pub record Read {A : Type 0} (p : Parser A) (ok : A → Bool) (kids : A → ℕ) (s : List ℕ) (at next : ℕ) (cited : Bool) (references : ℕ) : Type 0 where
  pub value : A
  pub read : p (drop at s) ≡ some (value, drop next s)
  pub past : at + references ≤ next
  pub within : next ≤ length s
  pub cites : cited ≡ ok value
  pub count : references ≡ kids value

-- skipping at a place does as the reader p does, and tells of the value read whether it is ok and how many references it has
abbrev pub Skips : {A : Type 0} → Parser A → (A → Bool) → (A → ℕ) → List ℕ → ℕ → std.Option Skipped → Type 0
Skips p ok kids s at (Some r) = Read p ok kids s at r.next r.cited r.references
Skips p ok kids s at None = p (drop at s) ≡ none

-- what cites nothing ends at a place
abbrev pub bare : ℕ → Skipped
bare next = record { next = next; cited = true; references = 0 }

-- the number in two bytes at a place, unless they are cut
abbrev pub NumberAt : List ℕ → ℕ → std.Option ℕ → Type 0
NumberAt s at (Some n) = (at + 2 ≤ length s) × (n ≡ 256 * get_or s at 0 + get_or s (at + 1) 0)
NumberAt s at None = length s - at < 2

-- a reference into a table that has so many entries yet
abbrev pub SkipsReference : ℕ → List ℕ → ℕ → std.Option Skipped → Type 0
SkipsReference entries s at r = (kind : Kind) (n : Counts) → count_of kind n ≡ entries → Skips (reference kind) (cites n) (λ _. 1) s at r

-- an entry with these fields, where so many entries stand earlier
abbrev pub SkipsEntry : Counts → List Field → List ℕ → ℕ → std.Option Skipped → Type 0
SkipsEntry n fields s at r = (tag : ℕ) → Skips (read_entry reference tag fields) (λ e. every (cites n) e.kids) (λ e. length e.kids) s at r

-- how many references a definition's entry has
unfoldable pub kids_in : Definition (List ℕ) → ℕ
kids_in (define e) = length e.kids
kids_in (named kind s r) = 0
kids_in (placed kind at number) = 0
kids_in (setting s) = 0

-- a definition behind its first byte, where so many entries stand earlier
abbrev pub SkipsDefinition : Counts → Option Body → List ℕ → ℕ → std.Option Skipped → Type 0
SkipsDefinition n body s at r = (first : ℕ) → Skips (read_body first body) (cites_earlier n) kids_in s at r

-- the same, where the tables have so many entries
abbrev pub SkipsAfter : ℕ → ℕ → Option Body → List ℕ → ℕ → std.Option Skipped → Type 0
SkipsAfter constants bootstraps body s at r = (n : Counts) → n.constants ≡ constants → n.bootstraps ≡ bootstraps → SkipsDefinition n body s at r

-- a setting's number stands at a place
abbrev pub NumberRoom : Opening → List ℕ → ℕ → Type 0
NumberRoom (Constant shape) s at = Unit {0}
NumberRoom Bootstrap s at = Unit {0}
NumberRoom NamedConstant s at = Unit {0}
NumberRoom NamedBootstrap s at = Unit {0}
NumberRoom RawConstant s at = Unit {0}
NumberRoom RawBootstrap s at = Unit {0}
NumberRoom Version s at = at + 2 ≤ length s
NumberRoom Texts s at = Unit {0}
NumberRoom Highest s at = at + 2 ≤ length s
NumberRoom Expression s at = Unit {0}

unfoldable pub number_opened : Opening → List ℕ → ℕ → ℕ
number_opened (Constant shape) s at = 0
number_opened Bootstrap s at = 0
number_opened NamedConstant s at = 0
number_opened NamedBootstrap s at = 0
number_opened RawConstant s at = 0
number_opened RawBootstrap s at = 0
number_opened Version s at = 256 * get_or s at 0 + get_or s (at + 1) 0
number_opened Texts s at = 0
number_opened Highest s at = 256 * get_or s at 0 + get_or s (at + 1) 0
number_opened Expression s at = 0

-- the number of a setting
unfoldable pub number_in : Definition (List ℕ) → ℕ
number_in (define e) = 0
number_in (named kind s r) = 0
number_in (placed kind at number) = 0
number_in (setting (version v)) = v
number_in (setting texts) = 0
number_in (setting (highest n)) = n

-- ---- texts

-- a text that isn't one, by the bytes from one place to another, and by the definition
unfoldable pub broken_at : List ℕ → ℕ → ℕ → Bool
broken_at s at next = eqb (get_or s at 0) 1 && not (is_text (take (next - (at + 3)) (drop (at + 3) s)))

unfoldable pub is_broken : Definition (List ℕ) → Bool
is_broken (define e) = eqb e.tag 1 && not (is_text e.literal)
is_broken (named kind s r) = false
is_broken (placed kind at number) = false
is_broken (setting s) = false

-- the record of the first such text, with one record more
unfoldable pub broken_with : ℕ → Bool → std.Option ℕ → std.Option ℕ
broken_with place broken None = elim broken [ true ↦ Some place | false ↦ None ]
broken_with place broken (Some earlier) = Some earlier

unfoldable pub as_broken : std.Option ℕ → Option ℕ
as_broken None = none
as_broken (Some place) = some place

-- ---- counting

unfoldable pub is_naming : Definition (List ℕ) → Bool
is_naming (define e) = false
is_naming (named kind s r) = true
is_naming (placed kind at number) = false
is_naming (setting s) = false

unfoldable pub is_placing : Kind → Definition (List ℕ) → Bool
is_placing kind (define e) = false
is_placing kind (named other s r) = false
is_placing kind (placed other at number) = same_kind_lem kind other
is_placing kind (setting s) = false

unfoldable pub is_version : Definition (List ℕ) → Bool
is_version (define e) = false
is_version (named kind s r) = false
is_version (placed kind at number) = false
is_version (setting (version v)) = true
is_version (setting texts) = false
is_version (setting (highest n)) = false

unfoldable pub is_holding : Definition (List ℕ) → Bool
is_holding (define e) = false
is_holding (named kind s r) = false
is_holding (placed kind at number) = false
is_holding (setting (version v)) = false
is_holding (setting texts) = true
is_holding (setting (highest n)) = false

unfoldable pub references_in : List (Definition (List ℕ)) → ℕ
references_in [] = 0
references_in (d ∷ rest) = kids_in d + references_in rest

-- the version and the highest slot behind a definition, and behind several
unfoldable pub version_with : Definition (List ℕ) → ℕ → ℕ
version_with (define e) v = v
version_with (named kind s r) v = v
version_with (placed kind at number) v = v
version_with (setting (version w)) v = w
version_with (setting texts) v = v
version_with (setting (highest n)) v = v

unfoldable pub version_from : ℕ → List (Definition (List ℕ)) → ℕ
version_from v [] = v
version_from v (d ∷ rest) = version_from (version_with d v) rest

unfoldable pub highest_with : Definition (List ℕ) → ℕ → ℕ
highest_with (define e) top = top
highest_with (named kind s r) top = top
highest_with (placed kind at number) top = top
highest_with (setting (version v)) top = top
highest_with (setting texts) top = top
highest_with (setting (highest n)) top = n

unfoldable pub highest_from : ℕ → List (Definition (List ℕ)) → ℕ
highest_from top [] = top
highest_from top (d ∷ rest) = highest_from (highest_with d top) rest

-- what a job with these definitions and so many requests counts
unfoldable pub counts_of : List (Definition (List ℕ)) → ℕ → JobCounts
counts_of list requests =
    record {
      definitions = length list;
      constants = length (constants_of list);
      bootstraps = length (bootstraps_of list);
      references = references_in list;
      names = length (only is_naming list);
      raw_constants = length (only (is_placing constant) list);
      raw_bootstraps = length (only (is_placing bootstrap) list);
      requests = requests;
      versions = length (only is_version list);
      version = version_from newest list;
      texts = length (only is_holding list);
      highest = highest_of (settings list);
    }

-- what the form pass returns
unfoldable pub formed_of : Result Refusal (Job (List ℕ)) → Result Refusal JobCounts
formed_of (good job) = good (counts_of job.definitions (length job.requests))
formed_of (bad refusal) = bad refusal

-- counts, and those of definitions and requests behind them
unfoldable pub more : JobCounts → List (Definition (List ℕ)) → ℕ → JobCounts
more c list requests =
    record {
      definitions = c.definitions + length list;
      constants = c.constants + length (constants_of list);
      bootstraps = c.bootstraps + length (bootstraps_of list);
      references = c.references + references_in list;
      names = c.names + length (only is_naming list);
      raw_constants = c.raw_constants + length (only (is_placing constant) list);
      raw_bootstraps = c.raw_bootstraps + length (only (is_placing bootstrap) list);
      requests = c.requests + requests;
      versions = c.versions + length (only is_version list);
      version = version_from c.version list;
      texts = c.texts + length (only is_holding list);
      highest = highest_from c.highest list;
    }

-- one definition more, which is so many constants, bootstraps, names and so on
abbrev pub grown : ℕ → ℕ → ℕ → ℕ → ℕ → ℕ → ℕ → ℕ → ℕ → ℕ → JobCounts → JobCounts
grown constants bootstraps references names raws indexes versions holding major top c =
    record {
      definitions = c.definitions + 1;
      constants = c.constants + constants;
      bootstraps = c.bootstraps + bootstraps;
      references = c.references + references;
      names = c.names + names;
      raw_constants = c.raw_constants + raws;
      raw_bootstraps = c.raw_bootstraps + indexes;
      requests = c.requests + 0;
      versions = c.versions + versions;
      version = major;
      texts = c.texts + holding;
      highest = top;
    }

-- the counts with one definition so opened, with so many references, and this number if it is a setting
unfoldable pub counted_as : Opening → ℕ → ℕ → JobCounts → JobCounts
counted_as (Constant shape) k number c = grown 1 0 k 0 0 0 0 0 c.version c.highest c
counted_as Bootstrap k number c = grown 0 1 k 0 0 0 0 0 c.version c.highest c
counted_as NamedConstant k number c = grown 0 0 k 1 0 0 0 0 c.version c.highest c
counted_as NamedBootstrap k number c = grown 0 0 k 1 0 0 0 0 c.version c.highest c
counted_as RawConstant k number c = grown 0 0 k 0 1 0 0 0 c.version c.highest c
counted_as RawBootstrap k number c = grown 0 0 k 0 0 1 0 0 c.version c.highest c
counted_as Version k number c = grown 0 0 k 0 0 0 1 0 number c.highest c
counted_as Texts k number c = grown 0 0 k 0 0 0 0 1 c.version c.highest c
counted_as Highest k number c = grown 0 0 k 0 0 0 0 0 c.version number c
counted_as Expression k number c = grown 1 0 k 0 0 0 0 0 c.version c.highest c

-- no count is above m, nor are definitions and requests together
pub record Bounded (m : ℕ) (c : JobCounts) : Type 0 where
  pub records : c.definitions + c.requests ≤ m
  pub constants : c.constants ≤ m
  pub bootstraps : c.bootstraps ≤ m
  pub references : c.references ≤ m
  pub names : c.names ≤ m
  pub constants_placed : c.raw_constants ≤ m
  pub bootstraps_placed : c.raw_bootstraps ≤ m
  pub versions : c.versions ≤ m
  pub texts : c.texts ≤ m

-- the counts are so small that one record more, with so many references, can be counted
pub record Room (c : JobCounts) (references : ℕ) : Type 0 where
  pub most : ℕ
  pub bounded : Bounded most c
  pub small : most + references + 1 < 2 ^ 64

-- the table that a definition goes into isn't full
unfoldable pub room_for : Opening → ℕ → ℕ → Bool
room_for (Constant shape) constants bootstraps = ltb constants table_size
room_for Bootstrap constants bootstraps = ltb bootstraps table_size
room_for NamedConstant constants bootstraps = true
room_for NamedBootstrap constants bootstraps = true
room_for RawConstant constants bootstraps = true
room_for RawBootstrap constants bootstraps = true
room_for Version constants bootstraps = true
room_for Texts constants bootstraps = true
room_for Highest constants bootstraps = true
room_for Expression constants bootstraps = ltb constants table_size

-- a setting that mayn't stand behind what was counted: 3, then 26; else 0
unfoldable pub once_fault : ℕ → ℕ
once_fault earlier = elim (eqb earlier 0) [ true ↦ 0 | false ↦ 3 ]

unfoldable pub highest_fault : ℕ → ℕ → ℕ
highest_fault records number = elim (eqb records 0) [ true ↦ elim (is_slot number) [ true ↦ 0 | false ↦ 26 ] | false ↦ 3 ]

unfoldable pub setting_fault : Opening → ℕ → JobCounts → ℕ
setting_fault (Constant shape) number c = 0
setting_fault Bootstrap number c = 0
setting_fault NamedConstant number c = 0
setting_fault NamedBootstrap number c = 0
setting_fault RawConstant number c = 0
setting_fault RawBootstrap number c = 0
setting_fault Version number c = once_fault c.versions
setting_fault Texts number c = once_fault c.texts
setting_fault Highest number c = highest_fault c.definitions number
setting_fault Expression number c = 0

-- 25 at the first text that isn't one, where so many records 48 stand
unfoldable pub texts_hold : ℕ → std.Option ℕ → Result Refusal (Unit {0})
texts_hold holding None = good tt
texts_hold holding (Some place) = at_record place (unless (eqb holding 0) 25)

-- ---- a record, and all of them

-- what was counted, without the first text that isn't one: only texts_held asks for it
abbrev pub tables_in : JobCounts → Counts
tables_in c =
    record {
      constants = c.constants;
      bootstraps = c.bootstraps;
      records = c.definitions;
      versions = c.versions;
      texts = c.texts;
      broken = none;
    }

-- a record was read at a place, and the definitions and requests that it is were counted
pub record Moved {A : Type 0} (f : ℕ → List ℕ → Result ℕ (A × List ℕ)) (list : A → List (Definition (List ℕ))) (requests : ℕ) (s : List ℕ) (at : ℕ) (c : JobCounts) (next : ℕ) (d : JobCounts) : Type 0 where
  pub value : A
  pub read : f (get_or s at 0) (drop (at + 1) s) ≡ good (value, drop next s)
  pub count : d ≡ more c (list value) requests
  pub past : at < next
  pub within : next ≤ length s
  pub bounded : Bounded next d

-- a record at a place is read as f does from its first byte
abbrev pub Steps : {A : Type 0} → (ℕ → List ℕ → Result ℕ (A × List ℕ)) → (A → List (Definition (List ℕ))) → ℕ → List ℕ → ℕ → JobCounts → std.Result Step refusals.Refusal → Type 0
Steps f list requests s at c (Ok r) = Moved f list requests s at c r.next r.counts
Steps f list requests s at c (Err refusal) = f (get_or s at 0) (drop (at + 1) s) ≡ bad (number refusal)

-- what is seen of all definitions: what they count, beside what was counted before them, the entries, and the bytes behind 50; not the
-- first text that isn't one
unfoldable pub tallied : JobCounts → Result Refusal Definitions → Result Refusal (JobCounts × Counts × List ℕ)
tallied c (good d) = good (more c d.list 0, with_broken none d.counts, d.rest)
tallied c (bad refusal) = bad refusal

-- what is left of them at a place, after what was counted, with this for the first text that isn't one
abbrev pub Holding : JobCounts → Option ℕ → Counts
Holding c b =
    record {
      constants = c.constants;
      bootstraps = c.bootstraps;
      records = c.definitions;
      versions = c.versions;
      texts = c.texts;
      broken = b;
    }

abbrev pub DefinitionsLeft : List ℕ → ℕ → JobCounts → Option ℕ → Result Refusal (JobCounts × Counts × List ℕ)
DefinitionsLeft s at c b = tallied c (form_definitions (length s - c.definitions) (Holding c b) c.definitions (drop at s))

-- a refusal and its place, as the definition has them
abbrev pub told : Refused → Refusal
told r = record { code = number r.refusal; place = r.place }

-- a definition was read at a place, or 50 stands there, or the definitions are refused, whatever text isn't one
pub record Defines (s : List ℕ) (at : ℕ) (c : JobCounts) (r : Step) : Type 0 where
  pub low : at < length s
  pub other : get_or s at 0 ≡ 0x50 → ⊥
  pub moved : Moved (form_definition (tables_in c)) (λ d. d ∷ []) 0 s at c r.next r.counts

abbrev pub Next : List ℕ → ℕ → JobCounts → std.Result (std.Option Step) Refused → Type 0
Next s at c (Ok (Some r)) = Defines s at c r
Next s at c (Ok None) = (at < length s) × (get_or s at 0 ≡ 0x50)
Next s at c (Err refused) = (b : Option ℕ) → DefinitionsLeft s at c b ≡ bad (told refused)

abbrev pub defined_as : List ℕ → std.Result Step Refused → Result Refusal (JobCounts × Counts × List ℕ)
defined_as s (Ok r) = good (r.counts, tables_in r.counts, drop r.next s)
defined_as s (Err refused) = bad (told refused)

abbrev pub Within : List ℕ → std.Result Step Refused → Type 0
Within s (Ok r) = (r.next ≤ length s) × Bounded r.next r.counts
Within s (Err refused) = Unit {0}

-- the record in turn, behind the definitions, 50 and the requests so far
abbrev pub place_of : JobCounts → ℕ
place_of c = suc (c.definitions + c.requests)

-- what the requests and 60 lead to, after what was counted before them
unfoldable pub formed_requests : JobCounts → Result Refusal Requests → Result Refusal JobCounts
formed_requests c (good r) = good (more c [] (length r.list))
formed_requests c (bad refusal) = bad refusal

unfoldable pub formed_build : JobCounts → Result Refusal Build → Result Refusal JobCounts
formed_build c (good b) = good c
formed_build c (bad refusal) = bad refusal
