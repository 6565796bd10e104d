-- The form pass (document 01, "A job" and "Refusal numbers"): bytes to a job, or refusal 3, 26, 5, 25, 4, 22 or 23 at a record. Assumes nothing.
use Rattle.std.specs.Prelude.{Bool, true, false, ◌&&◌, not, List, [], ◌∷◌, ℕ, zero, suc, eqb, ltb, length}
use Rattle.std.proofs.Math.Option.{Option, none, some}
use Rattle.definition.specs.Basics.{Result, good, bad, ◌>>=◌, Refusal, at_record, unless, every, lookup}
use Rattle.definition.specs.Expression.{read_expression}
use Rattle.definition.specs.Settings.{Setting, version, texts, highest, is_slot}
use Rattle.definition.specs.Shapes.{Kind, constant, bootstrap, bootstrap_tag, Entry}
use Rattle.definition.specs.Texts.{is_text}
use Rattle.definition.specs.Value.{constant_in}
use Rattle.definition.specs.Job.{Reference, raw, entry, name, Definition, define, named, placed, setting, Request, ClassSlot, slot, request, Build, Job, read_definition, asks, read_request, read_build}

-- how many entries each table takes
abbrev pub table_size : ℕ
table_size = 65536

-- the entries so far, constants and bootstraps apart, the records, those that are a 47 and a 48, and the record of the first text that
-- isn't one
pub record Counts : Type 0 where
  pub constants : ℕ
  pub bootstraps : ℕ
  pub records : ℕ
  pub versions : ℕ
  pub texts : ℕ
  pub broken : Option ℕ

abbrev pub nothing_yet : Counts
nothing_yet = record { constants = 0; bootstraps = 0; records = 0; versions = 0; texts = 0; broken = none }

unfoldable pub count_of : Kind → Counts → ℕ
count_of constant n = n.constants
count_of bootstrap n = n.bootstraps

-- the table that an entry goes into
unfoldable pub kind_of : ℕ → Kind
kind_of tag = elim (eqb tag bootstrap_tag) [ true ↦ bootstrap | false ↦ constant ]

unfoldable pub one_more_lem : Kind → Counts → Counts
one_more_lem constant n =
    record { constants = suc n.constants; bootstraps = n.bootstraps; records = n.records; versions = n.versions; texts = n.texts; broken = n.broken }
one_more_lem bootstrap n =
    record { constants = n.constants; bootstraps = suc n.bootstraps; records = n.records; versions = n.versions; texts = n.texts; broken = n.broken }

unfoldable pub one_setting : Setting → Counts → Counts
one_setting (version v) n =
    record { constants = n.constants; bootstraps = n.bootstraps; records = n.records; versions = suc n.versions; texts = n.texts; broken = n.broken }
one_setting texts n =
    record { constants = n.constants; bootstraps = n.bootstraps; records = n.records; versions = n.versions; texts = suc n.texts; broken = n.broken }
one_setting (highest top) n = n

-- the first text that isn't one, where record `place` is an entry more
unfoldable pub first_broken : ℕ → Entry (List ℕ) Reference → Option ℕ → Option ℕ
first_broken place e (some earlier) = some earlier
first_broken place e none = elim (eqb e.tag 1 && not (is_text e.literal)) [ true ↦ some place | false ↦ none ]

unfoldable pub with_broken : Option ℕ → Counts → Counts
with_broken broken n =
    record { constants = n.constants; bootstraps = n.bootstraps; records = n.records; versions = n.versions; texts = n.texts; broken = broken }

unfoldable pub one_record : Counts → Counts
one_record n =
    record { constants = n.constants; bootstraps = n.bootstraps; records = suc n.records; versions = n.versions; texts = n.texts; broken = n.broken }

unfoldable pub counted : Definition (List ℕ) → Counts → Counts
counted (define e) n = one_record (with_broken (first_broken n.records e n.broken) (one_more_lem (kind_of e.tag) n))
counted (named kind s r) n = one_record n
counted (placed kind at number) n = one_record n
counted (setting s) n = one_record (one_setting s n)

-- 3: an unknown kind or one out of place, a cut record, or a byte that isn't one of its forms
unfoldable pub whole : {A : Type 0} → Option A → Result ℕ A
whole none = bad 3
whole (some a) = good a

-- a setting in its place, else 3: 47 and 48 come once each, 49 is the first record; then 26: the number of 49 is a slot
unfoldable pub may_stand : Counts → Definition (List ℕ) → Result ℕ (Unit {0})
may_stand n (define e) = good tt
may_stand n (named kind s r) = good tt
may_stand n (placed kind at number) = good tt
may_stand n (setting (version v)) = unless (eqb n.versions 0) 3
may_stand n (setting texts) = unless (eqb n.texts 0) 3
may_stand n (setting (highest top)) = do
  _ ← unless (eqb n.records 0) 3
  unless (is_slot top) 26

-- 5: the table that an entry goes into isn't full
unfoldable pub has_room : Counts → Definition (List ℕ) → Bool
has_room n (define e) = ltb (count_of (kind_of e.tag) n) table_size
has_room n (named kind s r) = true
has_room n (placed kind at number) = true
has_room n (setting s) = true

-- 25: a text that isn't one and a record 48 stand, whichever came first; told at the text's own record
unfoldable pub texts_held : Counts → Result Refusal (Unit {0})
texts_held n = elim n.broken [ none ↦ good tt | some place ↦ at_record place (unless (eqb n.texts 0) 25) ]

-- 4: an entry that is cited by number stands earlier
unfoldable pub cites : Counts → Reference → Bool
cites n (raw number) = true
cites n (entry kind number) = ltb number (count_of kind n)
cites n (name kind s) = true

unfoldable pub cites_earlier : Counts → Definition (List ℕ) → Bool
cites_earlier n (define e) = every (cites n) e.kids
cites_earlier n (named kind s r) = cites n r
cites_earlier n (placed kind at number) = ltb number (count_of kind n)
cites_earlier n (setting s) = true

-- 22, then 23: the expression of a 46 comes to a constant
unfoldable pub comes_out : ℕ → List ℕ → Result ℕ (Unit {0})
comes_out first bytes = elim (eqb first 0x46) [ true ↦ constant_in (read_expression bytes) >>= λ _. good tt | false ↦ good tt ]

-- 4: the request whose answer is the class slot is one of those before
unfoldable pub cites_request : ℕ → ClassSlot → Bool
cites_request requests (slot n) = true
cites_request requests (request n) = ltb n requests

-- one definition, behind its first byte: 3, 26, 5, 4, 22, 23 in this order
unfoldable pub form_definition : Counts → ℕ → List ℕ → Result ℕ (Definition (List ℕ) × List ℕ)
form_definition n first bytes = do
  r ← whole (read_definition first bytes)
  _ ← may_stand n r.0
  _ ← unless (has_room n r.0) 5
  _ ← unless (cites_earlier n r.0) 4
  _ ← comes_out first bytes
  good r

-- the definitions and 50: what they are, how many entries there are, and the bytes behind 50
pub record Definitions : Type 0 where
  pub list : List (Definition (List ℕ))
  pub counts : Counts
  pub rest : List ℕ

-- bytes where records are expected; fuel is the bytes' number or more, and 0 would tell that it ran out
unfoldable pub form_definitions : ℕ → Counts → ℕ → List ℕ → Result Refusal Definitions
form_definitions zero n place [] = bad (record { code = 3; place = place })
form_definitions zero n place (first ∷ bytes) = bad (record { code = 0; place = place })
form_definitions (suc fuel) n place [] = bad (record { code = 3; place = place })
form_definitions (suc fuel) n place (first ∷ bytes) =
    elim (eqb first 0x50) [
      | true ↦ good (record { list = []; counts = n; rest = bytes })
      | false ↦
          at_record place (form_definition n first bytes) >>= λ r.
          texts_held (counted r.0 n) >>= λ _.
          form_definitions fuel (counted r.0 n) (suc place) r.1 >>= λ d.
          good (record { list = r.0 ∷ d.list; counts = d.counts; rest = d.rest })
    ]

-- one request, behind its first byte: 3, then 4
unfoldable pub form_request : Counts → ℕ → List ℕ → Result ℕ (Request × List ℕ)
form_request n first bytes = do
  r ← whole (read_request (lookup first asks) bytes)
  _ ← unless (cites n r.0.what) 4
  good r

unfoldable pub nothing_behind : List ℕ → Bool
nothing_behind [] = true
nothing_behind (b ∷ bytes) = false

-- 60 behind its first byte, after so many requests: 3, then 4; then 3 at the next record if bytes follow
unfoldable pub form_build : ℕ → ℕ → List ℕ → Result Refusal Build
form_build requests place bytes = do
  r ← at_record place (whole (read_build bytes))
  _ ← at_record place (unless (cites_request requests r.0.class) 4)
  _ ← at_record (suc place) (unless (nothing_behind r.1) 3)
  good r.0

-- the requests and 60
pub record Requests : Type 0 where
  pub list : List Request
  pub build : Build

unfoldable pub form_requests : ℕ → Counts → ℕ → ℕ → List ℕ → Result Refusal Requests
form_requests zero n requests place [] = bad (record { code = 3; place = place })
form_requests zero n requests place (first ∷ bytes) = bad (record { code = 0; place = place })
form_requests (suc fuel) n requests place [] = bad (record { code = 3; place = place })
form_requests (suc fuel) n requests place (first ∷ bytes) =
    elim (eqb first 0x60) [
      | true ↦
          form_build requests place bytes >>= λ b.
          good (record { list = []; build = b })
      | false ↦
          at_record place (form_request n first bytes) >>= λ r.
          form_requests fuel n (suc requests) (suc place) r.1 >>= λ rest.
          good (record { list = r.0 ∷ rest.list; build = rest.build })
    ]

-- the whole job
unfoldable pub form : List ℕ → Result Refusal (Job (List ℕ))
form bytes = do
  d ← form_definitions (length bytes) nothing_yet 0 bytes
  r ← form_requests (length bytes) d.counts 0 (suc (length d.list)) d.rest
  good (record { definitions = d.list; requests = r.list; build = r.build })
