-- CAUSE, as a statement: a run that is refused says why and where. For each number of document 01 ("Refusal numbers") what must be so of the
-- job's bytes or records, and of which record; Statements says how to read it. Assumes nothing.
use Rattle.std.specs.Prelude.{Bool, true, false, List, [], ◌∷◌, ◌++◌, reverse, ◌↔◌, ◌⊎◌, ◌≢◌, ◌≡◌, ℕ, suc, ◌+◌, ◌*◌, ◌/◌, ◌≤◌, ◌<◌, length}
use Rattle.std.proofs.Math.Option.{none, some}
use Rattle.std.proofs.Math.ListN.{get_elem?}
use Rattle.definition.specs.Basics.{good, bad, Refusal, position, lookup}
use Rattle.definition.specs.Shapes.{Kind, constant, bootstrap, Entry, is_wide}
use Rattle.definition.specs.Job.{Reference, entry, name, Definition, define, named, placed, setting, Request, request, Build, Job}
use Rattle.definition.specs.Job.{Body, bodies, read_body, read_definition, asks, reference, read_request, read_build}
use Rattle.definition.specs.Expression.{Number, Expression, read_expression}
use Rattle.definition.specs.Form.{kind_of, form}
use Rattle.definition.specs.Numbering.{settings, top_of, constants_of, bootstraps_of, literals, numbered}
use Rattle.definition.specs.Settings.{Setting, version, texts, highest, known}
use Rattle.definition.specs.Texts.{is_text}
use Rattle.definition.specs.Definitions.{Defined, tag_at, define_all, nothing_defined}
use Rattle.definition.specs.Resolving.{Goal, raw_number, table_entry, goal_of, linked, Node, done, same_node, intern}
use Rattle.definition.specs.Building.{Pool, slots_of, Row, Rows, index_of, fill_holes, Made, kids_of, child_numbers, finish, with_pending, raw_rows, build_all, attribute_text, name_wanted}
use Rattle.definition.specs.Layout.{Ready, end_definitions, answer, index_nodes, Layout, layout}
use Rattle.definition.specs.Run.{Built, render, Lent, class_out, run}
use Rattle.facts.specs.Lists.{Among}
use Rattle.laws.specs.Counted.{count_in}
use Rattle.laws.specs.LeadsStatement.{Leads}
use Rattle.laws.specs.LowestStatement.{LowestRecord}
use Rattle.laws.specs.SharedStatement.{Same}
use Rattle.laws.specs.Statements.{IsBytes}
use Rattle.causes.specs.ExpressionFaults.{BadByte, HasLeaf, OfKind, depth, DividesByZero, ComesOut}

-- ---- 3, 4, 5, 22, 23, 25, 26: the form, over the bytes

-- a definition cites entry n of a kind by its number
abbrev pub CitesEntry : Definition (List ℕ) → Kind → ℕ → Type 0
CitesEntry (define e) kind n = Among (entry kind n) e.kids
CitesEntry (named k s r) kind n = r ≡ entry kind n
CitesEntry (placed k at m) kind n = (k ≡ kind) × (m ≡ n)
CitesEntry (setting s) kind n = ⊥

-- behind other definitions: an entry's table has room for it
abbrev pub HasPlace : List (Definition (List ℕ)) → Definition (List ℕ) → Type 0
HasPlace ds x = (e : Entry (List ℕ) Reference) → x ≡ define e → count_in (kind_of e.tag) ds < 65536

-- behind other definitions: a setting stands where it can't, 47 and 48 a second time, 49 behind any record
abbrev pub Misplaced : List (Definition (List ℕ)) → Setting → Type 0
Misplaced ds (version v) = (w : ℕ) × Among (setting (version w)) ds
Misplaced ds texts = Among (setting texts) ds
Misplaced ds (highest top) = ds ≢ []

-- and where it can; 49 then gives a slot that there is
abbrev pub InPlace : List (Definition (List ℕ)) → Definition (List ℕ) → Type 0
InPlace ds (define e) = Unit {0}
InPlace ds (named k s r) = Unit {0}
InPlace ds (placed k at m) = Unit {0}
InPlace ds (setting (version v)) = Misplaced ds (version v) → ⊥
InPlace ds (setting texts) = Misplaced ds texts → ⊥
InPlace ds (setting (highest top)) = (ds ≡ []) × (1 ≤ top) × (top ≤ 65534)

-- a text that isn't one as JVMS 4.4.7 has it
abbrev pub NoText : Definition (List ℕ) → Type 0
NoText x = (e : Entry (List ℕ) Reference) × (x ≡ define e) × (e.tag ≡ 1) × (is_text e.literal ≡ false)

-- the first among definitions is at place q
pub record FirstNoText (ds : List (Definition (List ℕ))) (q : ℕ) : Type 0 where
  pub text : Definition (List ℕ)
  pub there : get_elem? ds q ≡ some text
  pub is : NoText text
  pub first : (i : ℕ) (x : Definition (List ℕ)) → i < q → get_elem? ds i ≡ some x → NoText x → ⊥

-- texts are held to it, if a 48 stands among the definitions
abbrev pub TextsHeld : List (Definition (List ℕ)) → Type 0
TextsHeld ds = Among (setting texts) ds → (x : Definition (List ℕ)) → Among x ds → NoText x → ⊥

-- the bytes begin with these definitions, each well formed behind those before it, and then these bytes are left
pub data Stand (bytes : List ℕ) : List (Definition (List ℕ)) → List ℕ → Type 0 where
  none_yet_lem : Stand bytes [] bytes
  one_more_lem :
      (ds : List (Definition (List ℕ))) (first : ℕ) (left : List ℕ) (x : Definition (List ℕ)) (rest : List ℕ) →
      Stand bytes ds (first ∷ left) →
      first ≢ 0x50 →
      read_definition first left ≡ some (x, rest) →
      InPlace ds x →
      HasPlace ds x →
      ((kind : Kind) (n : ℕ) → CitesEntry x kind n → n < count_in kind ds) →
      (first ≡ 0x46 → ComesOut left) →
      TextsHeld (ds ++ x ∷ []) →
      Stand bytes (ds ++ x ∷ []) rest

-- the bytes begin with these definitions, 50 and these requests, each well formed, and then these bytes are left
pub data StandAsked (bytes : List ℕ) (ds : List (Definition (List ℕ))) : List Request → List ℕ → Type 0 where
  none_asked : (left : List ℕ) → Stand bytes ds (0x50 ∷ left) → StandAsked bytes ds [] left
  one_asked :
      (qs : List Request) (first : ℕ) (left : List ℕ) (q : Request) (rest : List ℕ) →
      StandAsked bytes ds qs (first ∷ left) →
      first ≢ 0x60 →
      read_request (lookup first asks) left ≡ some (q, rest) →
      ((kind : Kind) (n : ℕ) → q.what ≡ entry kind n → n < count_in kind ds) →
      StandAsked bytes ds (qs ++ q ∷ []) rest

-- no definition can be read where these bytes begin: there is none, its kind is unknown or out of place, or it is cut or has a byte that is
-- none of its forms; a 46 is cut, with no bad byte before
abbrev pub NoDefinition : List ℕ → Type 0
NoDefinition [] = Unit {0}
NoDefinition (first ∷ left) =
    (first ≢ 0x50)
    × ((lookup first bodies ≡ none) ⊎ ((b : Body) × (lookup first bodies ≡ some b) × (read_body first (some b) left ≡ none)))
    × (first ≡ 0x46 → BadByte 1 left → ⊥)

-- nor a request
abbrev pub NoRequest : List ℕ → Type 0
NoRequest [] = Unit {0}
NoRequest (first ∷ left) =
    (first ≢ 0x60)
    × ((lookup first asks ≡ none) ⊎ ((ldc : Bool) × (lookup first asks ≡ some ldc) × (reference constant left ≡ none)))

-- the bytes aren't well formed: the number, and the record, behind all those that are
pub data FormCause (bytes : List ℕ) : ℕ → ℕ → Type 0 where
  -- 3, where a definition or 50 must come
  unread_definition :
      (ds : List (Definition (List ℕ))) (left : List ℕ) → Stand bytes ds left → NoDefinition left → FormCause bytes 3 (length ds)
  -- 3: a setting that can't stand there
  misplaced :
      (ds : List (Definition (List ℕ))) (first : ℕ) (left : List ℕ) (s : Setting) (rest : List ℕ) →
      Stand bytes ds (first ∷ left) →
      first ≢ 0x50 →
      read_definition first left ≡ some (setting s, rest) →
      Misplaced ds s →
      FormCause bytes 3 (length ds)
  -- 26: 49, the first record, gives no number from 1 to 65534
  no_highest :
      (first : ℕ) (left : List ℕ) (top : ℕ) (rest : List ℕ) →
      Stand bytes [] (first ∷ left) →
      first ≢ 0x50 →
      read_definition first left ≡ some (setting (highest top), rest) →
      (top ≡ 0) ⊎ (65534 < top) →
      FormCause bytes 26 0
  -- 5: the table has 65,536 entries
  table_full :
      (ds : List (Definition (List ℕ))) (first : ℕ) (left : List ℕ) (e : Entry (List ℕ) Reference) (rest : List ℕ) →
      Stand bytes ds (first ∷ left) →
      first ≢ 0x50 →
      read_definition first left ≡ some (define e, rest) →
      65536 ≤ count_in (kind_of e.tag) ds →
      FormCause bytes 5 (length ds)
  -- 4: a definition cites an entry that isn't there
  no_entry :
      (ds : List (Definition (List ℕ))) (first : ℕ) (left : List ℕ) (x : Definition (List ℕ)) (rest : List ℕ) (kind : Kind) (n : ℕ) →
      Stand bytes ds (first ∷ left) →
      first ≢ 0x50 →
      read_definition first left ≡ some (x, rest) →
      InPlace ds x →
      HasPlace ds x →
      CitesEntry x kind n →
      count_in kind ds ≤ n →
      FormCause bytes 4 (length ds)
  -- 22: a 46's expression, or a part of it, begins with a byte that is neither leaf tag nor sign
  bad_byte :
      (ds : List (Definition (List ℕ))) (left : List ℕ) →
      Stand bytes ds (0x46 ∷ left) →
      count_in constant ds < 65536 →
      BadByte 1 left →
      FormCause bytes 22 (length ds)
  -- 22: it has leaves of two kinds
  mixed :
      (ds : List (Definition (List ℕ))) (left : List ℕ) (x : Expression) (rest : List ℕ) (k l : Number) →
      Stand bytes ds (0x46 ∷ left) →
      count_in constant ds < 65536 →
      read_expression left ≡ some (some x, rest) →
      HasLeaf k x →
      HasLeaf l x →
      k ≢ l →
      FormCause bytes 22 (length ds)
  -- 22: it is nested more than 32 deep
  too_deep :
      (ds : List (Definition (List ℕ))) (left : List ℕ) (x : Expression) (rest : List ℕ) →
      Stand bytes ds (0x46 ∷ left) →
      count_in constant ds < 65536 →
      read_expression left ≡ some (some x, rest) →
      32 < depth x →
      FormCause bytes 22 (length ds)
  -- 23: it is neither mixed nor too deep, and divides an integer by zero
  by_zero :
      (ds : List (Definition (List ℕ))) (left : List ℕ) (x : Expression) (rest : List ℕ) (kind : Number) →
      Stand bytes ds (0x46 ∷ left) →
      count_in constant ds < 65536 →
      read_expression left ≡ some (some x, rest) →
      OfKind kind x →
      depth x ≤ 32 →
      DividesByZero kind x →
      FormCause bytes 23 (length ds)
  -- 25, at the first text that isn't one: a 48 stands with it, ahead of it or behind, and either is the last record that was read
  no_text :
      (ds : List (Definition (List ℕ))) (first : ℕ) (left : List ℕ) (x : Definition (List ℕ)) (rest : List ℕ) (q : ℕ) →
      Stand bytes ds (first ∷ left) →
      first ≢ 0x50 →
      read_definition first left ≡ some (x, rest) →
      InPlace ds x →
      HasPlace ds x →
      ((kind : Kind) (n : ℕ) → CitesEntry x kind n → n < count_in kind ds) →
      (first ≡ 0x46 → ComesOut left) →
      Among (setting texts) (ds ++ x ∷ []) →
      FirstNoText (ds ++ x ∷ []) q →
      FormCause bytes 25 q
  -- 3, where a request or 60 must come
  unread_request :
      (ds : List (Definition (List ℕ))) (qs : List Request) (left : List ℕ) →
      StandAsked bytes ds qs left →
      NoRequest left →
      FormCause bytes 3 (suc (length ds) + length qs)
  -- 4: a request cites an entry that isn't there
  no_entry_asked :
      (ds : List (Definition (List ℕ))) (qs : List Request) (first : ℕ) (left : List ℕ) (q : Request) (rest : List ℕ) (kind : Kind) (n : ℕ) →
      StandAsked bytes ds qs (first ∷ left) →
      first ≢ 0x60 →
      read_request (lookup first asks) left ≡ some (q, rest) →
      q.what ≡ entry kind n →
      count_in kind ds ≤ n →
      FormCause bytes 4 (suc (length ds) + length qs)
  -- 3: 60 is cut, or has a byte that is none of its forms
  unread_build :
      (ds : List (Definition (List ℕ))) (qs : List Request) (left : List ℕ) →
      StandAsked bytes ds qs (0x60 ∷ left) →
      read_build left ≡ none →
      FormCause bytes 3 (suc (length ds) + length qs)
  -- 4: 60 cites a request that isn't there
  no_request_cited :
      (ds : List (Definition (List ℕ))) (qs : List Request) (left : List ℕ) (b : Build) (rest : List ℕ) (n : ℕ) →
      StandAsked bytes ds qs (0x60 ∷ left) →
      read_build left ≡ some (b, rest) →
      b.class ≡ request n →
      length qs ≤ n →
      FormCause bytes 4 (suc (length ds) + length qs)
  -- 3: bytes after 60, at the number that the next record would have
  bytes_behind :
      (ds : List (Definition (List ℕ))) (qs : List Request) (left : List ℕ) (b : Build) (more : ℕ) (rest : List ℕ) →
      StandAsked bytes ds qs (0x60 ∷ left) →
      read_build left ≡ some (b, more ∷ rest) →
      ((n : ℕ) → b.class ≡ request n → n < length qs) →
      FormCause bytes 3 (suc (suc (length ds) + length qs))

-- ---- 6 to 11: the definitions, over the job's records

-- record i of a job is this definition
abbrev pub At : Job (List ℕ) → ℕ → Definition (List ℕ) → Type 0
At job i x = get_elem? job.definitions i ≡ some x

-- entry e of the constants is a Long or a Double
abbrev pub Wide : Job (List ℕ) → ℕ → Type 0
Wide job e = (x : Entry (List ℕ) Reference) × (get_elem? (constants_of job.definitions) e ≡ some x) × ((x.tag ≡ 5) ⊎ (x.tag ≡ 6))

-- a constant at slot n takes slot s: its own, and the next if it is wide
abbrev pub TakesSlot : Type 0 → ℕ → ℕ → Type 0
TakesSlot wide n s = (s ≡ n) ⊎ (wide × (s ≡ suc n))

-- a raw constant before this record takes slot s
abbrev pub Taken : Job (List ℕ) → ℕ → ℕ → Type 0
Taken job place s = (i : ℕ) × (m : ℕ) × (k : ℕ) × (i < place) × At job i (placed constant m k) × TakesSlot (Wide job k) m s

-- a wide one at n finds slot n + 1 free
abbrev pub SecondFree : Job (List ℕ) → ℕ → ℕ → ℕ → Type 0
SecondFree job place n e = Wide job e → Taken job place (suc n) → ⊥

pub data DefinitionCause (job : Job (List ℕ)) : ℕ → ℕ → Type 0 where
  -- 6: at 0 or above the highest slot, or a wide one at it
  outside :
      (place n e : ℕ) →
      At job place (placed constant n e) →
      (n ≡ 0) ⊎ ((top_of job < n) ⊎ ((n ≡ top_of job) × Wide job e)) →
      DefinitionCause job 6 place
  -- 7: slot n + 1 of a wide one is taken
  second_taken : (place n e : ℕ) → At job place (placed constant n e) → Wide job e → Taken job place (suc n) → DefinitionCause job 7 place
  -- 7: slot n is the second half of an earlier wide one
  on_second :
      (place n e i m k : ℕ) →
      At job place (placed constant n e) →
      SecondFree job place n e →
      i < place →
      At job i (placed constant m k) →
      Wide job k →
      n ≡ suc m →
      DefinitionCause job 7 place
  -- 8: an earlier one starts at slot n
  same_slot :
      (place n e i k : ℕ) →
      At job place (placed constant n e) →
      SecondFree job place n e →
      i < place →
      At job i (placed constant n k) →
      DefinitionCause job 8 place
  -- 9: raw bootstrap 65535
  last_index : (place e : ℕ) → At job place (placed bootstrap 65535 e) → DefinitionCause job 9 place
  -- 10: an earlier one has the index
  same_index :
      (place n e i k : ℕ) → At job place (placed bootstrap n e) → i < place → At job i (placed bootstrap n k) → DefinitionCause job 10 place
  -- 11: an earlier record names the same kind alike
  same_name :
      (place i : ℕ) (kind : Kind) (s : List ℕ) (r t : Reference) →
      At job place (named kind s r) →
      i < place →
      At job i (named kind s t) →
      DefinitionCause job 11 place

-- ---- 12 and 13: what is reached

-- the entries of a kind
abbrev pub table_of : Kind → Job (List ℕ) → List (Entry (List ℕ) Reference)
table_of constant job = constants_of job.definitions
table_of bootstrap job = bootstraps_of job.definitions

-- a name refers to what a record says that it names; an entry refers to each of its references
pub data Refers (job : Job (List ℕ)) : Reference → Reference → Type 0 where
  by_name : (i : ℕ) (kind : Kind) (s : List ℕ) (r : Reference) → At job i (named kind s r) → Refers job (name kind s) r
  to_child :
      (kind : Kind) (n : ℕ) (e : Entry (List ℕ) Reference) (r : Reference) →
      get_elem? (table_of kind job) n ≡ some e →
      Among r e.kids →
      Refers job (entry kind n) r

-- in no step or more
pub data Reaches (job : Job (List ℕ)) : Reference → Reference → Type 0 where
  there : (r : Reference) → Reaches job r r
  further : (r s t : Reference) → Refers job r s → Reaches job s t → Reaches job r t

-- the record of a request: definitions and 50 stand before
abbrev pub request_place : Job (List ℕ) → ℕ → ℕ
request_place job j = suc (length job.definitions) + j

-- what a record resolves: 50 each raw definition's entry, a request what it asks for
pub data Resolves (job : Job (List ℕ)) : ℕ → Reference → Type 0 where
  by_raw : (i : ℕ) (kind : Kind) (n e : ℕ) → At job i (placed kind n e) → Resolves job (length job.definitions) (entry kind e)
  by_request : (j : ℕ) (q : Request) → get_elem? job.requests j ≡ some q → Resolves job (request_place job j) q.what

pub data ResolvingCause (job : Job (List ℕ)) : ℕ → ℕ → Type 0 where
  -- 12: a name is reached that no record names
  undefined :
      (place : ℕ) (r : Reference) (kind : Kind) (s : List ℕ) →
      Resolves job place r →
      Reaches job r (name kind s) →
      ((i : ℕ) (t : Reference) → At job i (named kind s t) → ⊥) →
      ResolvingCause job 12 place
  -- 13: an entry or a name is reached that comes back to itself, in one step or more
  circular :
      (place : ℕ) (r t u : Reference) →
      Resolves job place r →
      Reaches job r t →
      Refers job t u →
      Reaches job u t →
      ResolvingCause job 13 place

-- ---- 14 to 16 at a request, over the answers to those before it

-- the constants of a job, literals being numbers
abbrev pub constants_numbered : Job (List ℕ) → List (Entry ℕ Reference)
constants_numbered job = constants_of (numbered job).definitions

-- where the definition follows what a request asks for
abbrev pub goal_in : Job (List ℕ) → Defined → Request → Goal
goal_in job d q = goal_of d.names (length (constants_numbered job)) q.what

-- record 50 was passed, and the first requests, one after another, got these answers; and what the definition has by then, of which the causes
-- at a request say nothing
pub data Behind (job : Job (List ℕ)) (d : Defined) : List ℕ → Ready → Type 0 where
  behind50 :
      (w : Ready) →
      define_all (top_of job) (constants_numbered job) 0 (numbered job).definitions nothing_defined ≡ good d →
      end_definitions
      (top_of job)
      (linked d.names (length (constants_numbered job)) (constants_numbered job ++ bootstraps_of (numbered job).definitions))
      (length (constants_numbered job))
      d ≡ good w →
      Behind job d [] w
  behind_request :
      (answers : List ℕ) (q : Request) (w w' : Ready) (a : ℕ) →
      Behind job d answers w →
      get_elem? job.requests (length answers) ≡ some q →
      answer q.ldc (goal_in job d q) w ≡ good (a, w') →
      Behind job d (answers ++ a ∷ []) w'

-- the first requests of a job have these answers
abbrev pub AnsweredSoFar : Job (List ℕ) → List ℕ → Type 0
AnsweredSoFar job answers = (d : Defined) × (w : Ready) × Behind job d answers w

-- request j, ldc or not, leads to a goal (Leads: through names alone), and is refused neither with 12 nor with 13
abbrev pub AsksFor : Job (List ℕ) → ℕ → Bool → Goal → Type 0
AsksFor job j ldc goal =
    (q : Request) × (get_elem? job.requests j ≡ some q) × (q.ldc ≡ ldc) × Leads job.definitions q.what goal
    × ((code : ℕ) → ResolvingCause job code (request_place job j) → ⊥)

-- an answered request led to constant e and got slot a
abbrev pub Got : Job (List ℕ) → List ℕ → ℕ → ℕ → Type 0
Got job answers e a =
    (i : ℕ) × (q : Request) × (get_elem? job.requests i ≡ some q) × Leads job.definitions q.what (table_entry e) × (get_elem? answers i ≡ some a)

-- constant e has slot s: an answered request led to the same constant (Same: by the job's records) and got it
abbrev pub HasSlot : Job (List ℕ) → List ℕ → ℕ → ℕ → Type 0
HasSlot job answers e s = (f : ℕ) × Got job answers f s × Same job.definitions (table_entry f) (table_entry e)

-- it has none yet
abbrev pub HasNoSlot : Job (List ℕ) → List ℕ → ℕ → Type 0
HasNoSlot job answers e = (s : ℕ) → HasSlot job answers e s → ⊥

-- a raw constant holds slot s
abbrev pub RawHeld : Job (List ℕ) → ℕ → Type 0
RawHeld job s = Taken job (length job.definitions) s

-- slot s is given out: a constant that an answered request led to takes it
abbrev pub GivenOut : Job (List ℕ) → List ℕ → ℕ → Type 0
GivenOut job answers s = (e : ℕ) × (a : ℕ) × Got job answers e a × TakesSlot (Wide job e) a s

-- a slot is free: it is one from 1 to the highest, neither raw-held nor given out
abbrev pub Free : Job (List ℕ) → List ℕ → ℕ → Type 0
Free job answers s = (1 ≤ s) × (s ≤ top_of job) × (RawHeld job s → ⊥) × (GivenOut job answers s → ⊥)

-- there is no slot: a wide constant needs two neighbours, a narrow one for ldc a slot up to 255, any other any
pub data NoSlot (wide : Type 0) (free : ℕ → Type 0) : Bool → Type 0 where
  no_pair : (ldc : Bool) → wide → ((s : ℕ) → free s → free (suc s) → ⊥) → NoSlot wide free ldc
  none_low : (wide → ⊥) → ((s : ℕ) → free s → s ≤ 255 → ⊥) → NoSlot wide free true
  none_at_all : (wide → ⊥) → ((s : ℕ) → free s → ⊥) → NoSlot wide free false

-- ---- 14, 17 and 24 at the build, over what the definition has when a constant is in turn

-- slot s is given out: a node that was given a slot takes it
abbrev pub GivenToNode : List Node → Pool → ℕ → Type 0
GivenToNode nodes p s = (k : ℕ) × (a : ℕ) × Among (k, a) p.given × TakesSlot (is_wide (tag_at nodes k) ≡ true) a s

-- a slot is free: it is one from 1 to the highest, neither raw-held nor given out so far
abbrev pub FreeIn : Job (List ℕ) → List Node → Pool → ℕ → Type 0
FreeIn job nodes p s = (1 ≤ s) × (s ≤ top_of job) × (RawHeld job s → ⊥) × (GivenToNode nodes p s → ⊥)

-- a node has no slot yet, and there is none for it
abbrev pub Lacks : Job (List ℕ) → List Node → ℕ → Pool → Type 0
Lacks job nodes k p = (lookup k p.given ≡ none) × NoSlot (is_wide (tag_at nodes k) ≡ true) (FreeIn job nodes p) false

-- all requests are answered, and what the definition has by then
abbrev pub AllAnswered : Job (List ℕ) → Defined → Ready → Type 0
AllAnswered job d w = (answers : List ℕ) × (length answers ≡ length job.requests) × Behind job d answers w

-- BUILDING asks in turn (document 01, "Building"), over the nodes, from the pool that requests left. In each list of children a number below
-- 65,536 is a raw one, and 65536 + k is node k

-- of children, which get slots left to right, those before have theirs, and node k is next
pub record NextChild (nodes : List Node) (kids : List ℕ) (start : Pool) : Type 0 where
  pub before : List ℕ
  pub node : ℕ
  pub after : List ℕ
  pub slots : List ℕ
  pub pool : Pool
  pub is_kids : kids ≡ before ++ (65536 + node) ∷ after
  pub is_pool : slots_of nodes before start ≡ good (slots, pool)

-- of the raw bootstraps, by falling index, those before have their rows, and this one is next
pub record NextRaw (nodes : List Node) (indexes : List (ℕ × ℕ)) (start : Pool) : Type 0 where
  pub before : List (ℕ × ℕ)
  pub index : ℕ
  pub node : ℕ
  pub after : List (ℕ × ℕ)
  pub rows : List (ℕ × Row)
  pub pool : Pool
  pub is_falling : reverse indexes ≡ before ++ (index, node) ∷ after
  pub is_pool : raw_rows nodes before start [] ≡ good (rows, pool)

-- the stack, once all raw bootstraps have their rows and then after each node that is taken from it, and what is made by then
pub data Stack (nodes : List Node) (indexes : List (ℕ × ℕ)) (start : Pool) : List (ℕ × ℕ) → Made → Type 0 where
  none_taken :
      (waiting : List (ℕ × Row)) (p : Pool) →
      raw_rows nodes (reverse indexes) start [] ≡ good (waiting, p) →
      Stack nodes indexes start p.pending (record { pool = p; rows = record { written = []; waiting = waiting; inline = [] }; owned = [] })
  one_taken :
      (slot owner : ℕ) (pending : List (ℕ × ℕ)) (m m' : Made) →
      Stack nodes indexes start ((slot, owner) ∷ pending) m →
      known m.pool.version (tag_at nodes owner) ≡ true →
      finish nodes slot (with_pending pending m) (get_elem? nodes owner) ≡ good m' →
      Stack nodes indexes start m'.pool.pending m'

-- of the children of the node that is taken from the stack, in field order, those before have their numbers, and node k is next
pub record NextNumber (nodes : List Node) (indexes : List (ℕ × ℕ)) (start : Pool) : Type 0 where
  pub slot : ℕ
  pub owner : ℕ
  pub pending : List (ℕ × ℕ)
  pub made : Made
  pub parent : Node
  pub before : List ℕ
  pub node : ℕ
  pub after : List ℕ
  pub numbers : List ℕ
  pub pool : Pool
  pub rows : Rows
  pub is_stack : Stack nodes indexes start ((slot, owner) ∷ pending) made
  pub is_known : known made.pool.version (tag_at nodes owner) ≡ true
  pub is_parent : get_elem? nodes owner ≡ some parent
  pub is_kids : parent.kids ≡ before ++ (65536 + node) ∷ after
  pub is_pool : child_numbers nodes before (with_pending pending made).pool made.rows ≡ good (numbers, pool, rows)

-- a raw bootstrap stands at index i
abbrev pub RawIndex : Job (List ℕ) → ℕ → Type 0
RawIndex job i = (k : ℕ) × (e : ℕ) × At job k (placed bootstrap i e)

-- the nodes of the raw bootstraps
abbrev pub raw_indexes : Job (List ℕ) → Defined → Ready → List (ℕ × ℕ)
raw_indexes job d w = index_nodes (length (constants_numbered job)) w.resolved.marks d.indexes

-- the number of the build record
abbrev pub build_place : Job (List ℕ) → ℕ
build_place job = request_place job (length job.requests)

-- node k is told at a record (document 02, No. 9): it is what entry e became, and of the entries that are reached and are the same as e, none
-- stands at a lower one
abbrev pub ToldAt : Job (List ℕ) → Ready → ℕ → ℕ → Type 0
ToldAt job w k place = (e : ℕ) × (get_elem? w.resolved.marks e ≡ some (done k)) × LowestRecord job e place

-- the version that the last 47 names, and without one this one
abbrev pub version_from : List Setting → ℕ → ℕ
version_from [] v = v
version_from (version w ∷ l) v = version_from l w
version_from (texts ∷ l) v = version_from l v
version_from (highest t ∷ l) v = version_from l v

-- the version of a job: 55, which has every kind, without a 47
abbrev pub version_of : Job (List ℕ) → ℕ
version_of job = version_from (settings job.definitions) 55

pub data SlotCause (job : Job (List ℕ)) : ℕ → ℕ → Type 0 where
  -- 14: a request for a constant that has no slot yet, and there is none for it
  no_slot_asked :
      (answers : List ℕ) (e : ℕ) →
      AnsweredSoFar job answers →
      AsksFor job (length answers) false (table_entry e) →
      HasNoSlot job answers e →
      NoSlot (Wide job e) (Free job answers) false →
      SlotCause job 14 (request_place job (length answers))
  -- 15: the same of an ldc request
  no_ldc_slot_asked :
      (answers : List ℕ) (e : ℕ) →
      AnsweredSoFar job answers →
      AsksFor job (length answers) true (table_entry e) →
      HasNoSlot job answers e →
      NoSlot (Wide job e) (Free job answers) true →
      SlotCause job 15 (request_place job (length answers))
  -- 16: an ldc request that leads to a raw number above 255
  raw_above_lem :
      (answers : List ℕ) (n : ℕ) → AnsweredSoFar job answers → AsksFor job (length answers) true (raw_number n) → 255 < n → SlotCause job 16 (request_place job (length answers))
  -- 16: or to a constant that has a slot above 255
  slot_above :
      (answers : List ℕ) (e s : ℕ) →
      AnsweredSoFar job answers →
      AsksFor job (length answers) true (table_entry e) →
      HasSlot job answers e s →
      255 < s →
      SlotCause job 16 (request_place job (length answers))
  -- 16: or to a wide one that has none, where the first two neighbours that are free lie above 255
  pair_above :
      (answers : List ℕ) (e s : ℕ) →
      AnsweredSoFar job answers →
      AsksFor job (length answers) true (table_entry e) →
      HasNoSlot job answers e →
      Wide job e →
      255 < s →
      Free job answers s →
      Free job answers (suc s) →
      ((t : ℕ) → Free job answers t → Free job answers (suc t) → s ≤ t) →
      SlotCause job 16 (request_place job (length answers))
  -- 14 while building: a child of a raw bootstrap; it is told at the child's record
  raw_lacks :
      (d : Defined) (w : Ready) →
      AllAnswered job d w →
      (r : NextRaw w.resolved.nodes (raw_indexes job d w) w.pool) (c : NextChild w.resolved.nodes (kids_of w.resolved.nodes r.node) r.pool) →
      Lacks job w.resolved.nodes c.node c.pool →
      (place : ℕ) →
      ToldAt job w c.node place →
      SlotCause job 14 place
  -- 14 while building: a constant that is a child of one from the stack, told at the child's record
  child_lacks :
      (d : Defined) (w : Ready) →
      AllAnswered job d w →
      (n : NextNumber w.resolved.nodes (raw_indexes job d w) w.pool) →
      tag_at w.resolved.nodes n.node ≢ 0x40 →
      Lacks job w.resolved.nodes n.node n.pool →
      (place : ℕ) →
      ToldAt job w n.node place →
      SlotCause job 14 place
  -- 14 while building: a child of a bootstrap that one from the stack cites, told at the child's record
  bootstrap_lacks :
      (d : Defined) (w : Ready) →
      AllAnswered job d w →
      (n : NextNumber w.resolved.nodes (raw_indexes job d w) w.pool) →
      tag_at w.resolved.nodes n.node ≡ 0x40 →
      (c : NextChild w.resolved.nodes (kids_of w.resolved.nodes n.node) n.pool) →
      Lacks job w.resolved.nodes c.node c.pool →
      (place : ℕ) →
      ToldAt job w c.node place →
      SlotCause job 14 place
  -- 14 at the build record: the name, which is wanted and comes last
  name_lacks :
      (d : Defined) (w : Ready) (m : Made) →
      AllAnswered job d w →
      build_all w.resolved.nodes (raw_indexes job d w) w.pool ≡ good m →
      name_wanted job.build.name_byte (length (fill_holes m.rows.written m.rows.waiting)) ≡ true →
      Lacks job (intern attribute_text w.resolved.nodes) (position (same_node attribute_text) w.resolved.nodes) m.pool →
      SlotCause job 14 (build_place job)
  -- 17: a bootstrap that one from the stack cites shares no index, and all 65,535 are used: written by then, or a raw bootstrap's; it is told
  -- at the bootstrap's record
  no_index_lem :
      (d : Defined) (w : Ready) →
      AllAnswered job d w →
      (n : NextNumber w.resolved.nodes (raw_indexes job d w) w.pool) (row : Row) (p : Pool) →
      tag_at w.resolved.nodes n.node ≡ 0x40 →
      slots_of w.resolved.nodes (kids_of w.resolved.nodes n.node) n.pool ≡ good (row, p) →
      index_of row n.rows.inline ≡ none →
      ((i : ℕ) → i < 65535 → (i < length n.rows.written) ⊎ RawIndex job i) →
      (place : ℕ) →
      ToldAt job w n.node place →
      SlotCause job 17 place
  -- 24: the version doesn't have the kind of a constant that comes off the stack; it is told at the constant's record
  too_new :
      (d : Defined) (w : Ready) →
      AllAnswered job d w →
      (slot owner : ℕ) (pending : List (ℕ × ℕ)) (m : Made) →
      Stack w.resolved.nodes (raw_indexes job d w) w.pool ((slot, owner) ∷ pending) m →
      known (version_of job) (tag_at w.resolved.nodes owner) ≡ false →
      (place : ℕ) →
      ToldAt job w owner place →
      SlotCause job 24 place

-- ---- all of them

-- an output is shorter than what is to be written
abbrev pub Short : Lent → Built → Type 0
Short lent b =
    (lent.answers < length b.answers)
    ⊎ ((lent.marks < length b.marks)
    ⊎ ((lent.pool < length b.pool) ⊎ ((lent.bootstraps < length b.bootstraps) ⊎ (lent.class < length (class_out b.class)))))

-- the causes: a number, and the record
pub data CauseOf (lent : Lent) (bytes : List ℕ) : ℕ → ℕ → Type 0 where
  too_long_lem : 1048576 < length bytes → CauseOf lent bytes 1 0
  too_little : (lent.work < 6 * length bytes + 1024) ⊎ (lent.gaps < length bytes / 5 + 2) → CauseOf lent bytes 2 0
  not_formed : {code place : ℕ} → FormCause bytes code place → CauseOf lent bytes code place
  defining : {code place : ℕ} (job : Job (List ℕ)) → form bytes ≡ good job → DefinitionCause job code place → CauseOf lent bytes code place
  resolving : {code place : ℕ} (job : Job (List ℕ)) → form bytes ≡ good job → ResolvingCause job code place → CauseOf lent bytes code place
  slots : {code place : ℕ} (job : Job (List ℕ)) → form bytes ≡ good job → SlotCause job code place → CauseOf lent bytes code place
  no_room_lem :
      (job : Job (List ℕ)) (l : Layout) →
      form bytes ≡ good job →
      layout (top_of job) (numbered job) ≡ good l →
      Short lent (render (literals job) l) →
      CauseOf lent bytes 18 (build_place job)

-- CAUSE: a run over bytes that is refused has the cause of its number, at its place
abbrev pub Cause : Type 0
Cause = (lent : Lent) (bytes : List ℕ) (r : Refusal) → IsBytes bytes → run lent bytes ≡ bad r → CauseOf lent bytes r.code r.place

-- how many records a job has: definitions, 50, requests, 60
abbrev pub records : Job (List ℕ) → ℕ
records job = suc (build_place job)

-- the bytes begin with so many records, each well formed
pub data RecordsStand (bytes : List ℕ) : ℕ → Type 0 where
  only_definitions : (ds : List (Definition (List ℕ))) (left : List ℕ) → Stand bytes ds left → RecordsStand bytes (length ds)
  up_to_requests :
      (ds : List (Definition (List ℕ))) (qs : List Request) (left : List ℕ) → StandAsked bytes ds qs left → RecordsStand bytes (suc (length ds) + length qs)
  up_to_build :
      (ds : List (Definition (List ℕ))) (qs : List Request) (left : List ℕ) (b : Build) (rest : List ℕ) →
      StandAsked bytes ds qs (0x60 ∷ left) →
      read_build left ≡ some (b, rest) →
      ((n : ℕ) → b.class ≡ request n → n < length qs) →
      RecordsStand bytes (suc (suc (length ds) + length qs))

-- a place is at most the number of records that stand
abbrev pub InRecords : List ℕ → ℕ → Type 0
InRecords bytes place = (n : ℕ) × RecordsStand bytes n × (place ≤ n)

-- CAUSE PLACED: the number lies from 1 to 18 or from 22 to 26; the place is at most the number of records that stand, and the number of a
-- record if the job is well formed
abbrev pub CausePlaced : Type 0
CausePlaced =
    (lent : Lent) (bytes : List ℕ) (r : Refusal) → IsBytes bytes → run lent bytes ≡ bad r →
    (1 ≤ r.code) × ((r.code ≤ 18) ⊎ ((22 ≤ r.code) × (r.code ≤ 26)))
    × InRecords bytes r.place × ((job : Job (List ℕ)) → form bytes ≡ good job → r.place < records job)

-- NO CAUSE: a job of bytes is built exactly if there is no cause of a refusal
abbrev pub NoCause : Type 0
NoCause =
    (lent : Lent) (bytes : List ℕ) → IsBytes bytes →
    ((b : Built) × (run lent bytes ≡ good b)) ↔ ((code place : ℕ) → CauseOf lent bytes code place → ⊥)

-- CAUSE LOWEST: a job of bytes whose run is refused while building (with 17 or 24, or with 14 at a definition) is refused at the lowest record
-- for an entry: that of an entry that is reached, and no entry that is reached and the same stands at a lower one
abbrev pub CauseLowest : Type 0
CauseLowest =
    (lent : Lent) (bytes : List ℕ) (job : Job (List ℕ)) (r : Refusal) → IsBytes bytes → form bytes ≡ good job → run lent bytes ≡ bad r →
    ((r.code ≡ 14) × (r.place < length job.definitions)) ⊎ ((r.code ≡ 17) ⊎ (r.code ≡ 24)) →
    (e : ℕ) × LowestRecord job e r.place
