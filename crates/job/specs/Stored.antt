-- Where a job's records stand, and what stands at a stored place. Assumes nothing.
use Rattle.std.specs.Prelude.{Bool, true, false, List, [], ◌∷◌, ◌++◌, ◌≡◌, ℕ, zero, suc, ◌+◌, ◌-◌, ◌≤◌, ◌<◌, eqb, length, get_or, take, drop}
use Rattle.std.proofs.Math.Option.{Option, none, some}
use Rattle.std.proofs.Math.ListN.{get_elem?}
use Rattle.definition.specs.Basics.{good, bad, lookup}
use Rattle.definition.specs.Bytes.{Parser, ◌>>=◌, one, be4}
use Rattle.definition.specs.Shapes.{Kind, constant, bootstrap, Field, text, bits, byte, to, to_many, Entry, is_wide}
use Rattle.definition.specs.Job.{Reference, raw, entry, name, Definition, define, Request, Job, Body, of_entry, of_name, of_raw, of_expression, of_number, of_nothing, bodies, reference, read_definition, asks, read_request, read_build}
use Rattle.definition.specs.Form.{kind_of, comes_out}
use Rattle.job.specs.declared.Stretch.{Stretch}
use Rattle.job.specs.declared.RefType.{RefType}
use Rattle.job.specs.declared.RefType.TheVariants as refType

-- p finds a value at a place of s, and next is the place behind it
pub record Found {A : Type 0} (p : Parser A) (s : List ℕ) (at : ℕ) (value : A) (next : ℕ) : Type 0 where
  pub read : p (drop at s) ≡ some (value, drop next s)
  pub past : at < next
  pub within : next ≤ length s

-- values stand one behind the other, from a place to another
abbrev pub InTurn : {A : Type 0} → Parser A → List ℕ → ℕ → List A → ℕ → Type 0
InTurn p s at [] end = at ≡ end
InTurn p s at (x ∷ xs) end = (next : ℕ) × Found p s at x next × InTurn p s next xs end

-- a definition behind its first byte, as the form pass leaves it: a 46 that comes to no constant is none
unfoldable pub formed_definition : ℕ → Parser (Definition (List ℕ))
formed_definition first bytes = elim (comes_out first bytes) [ good u ↦ read_definition first bytes | bad code ↦ none ]

-- a definition and a request, first byte included
abbrev pub any_definition : Parser (Definition (List ℕ))
any_definition = one >>= formed_definition

abbrev pub any_request : Parser Request
any_request = one >>= λ first. read_request (lookup first asks)

-- these bytes stand from start to end
pub record Spans (s : List ℕ) (stretch : Stretch) (bytes : List ℕ) : Type 0 where
  pub are : take (stretch.end - stretch.start) (drop stretch.start s) ≡ bytes
  pub rising : stretch.start ≤ stretch.end
  pub within : stretch.end ≤ length s

-- a value that p reads stands at a place; and what holds of it and of the place behind it
abbrev pub Stands : {A : Type 0} → Parser A → List ℕ → ℕ → Type 0
Stands {A} p s at = (value : A) × (next : ℕ) × Found p s at value next

abbrev pub WhatStands : {A : Type 0} → Parser A → List ℕ → ℕ → (A → ℕ → Type 0) → Type 0
WhatStands {A} p s at P = (value : A) (next : ℕ) → Found p s at value next → P value next

-- a reference, into one table or the other
abbrev pub ReferenceStands : List ℕ → ℕ → Type 0
ReferenceStands s at = (kind : Kind) × Stands (reference kind) s at

abbrev pub WhatReference : List ℕ → ℕ → (Kind → Reference → ℕ → Type 0) → Type 0
WhatReference s at P = (kind : Kind) → WhatStands (reference kind) s at (P kind)

-- an entry
abbrev pub EntryStands : List ℕ → ℕ → Type 0
EntryStands s at = (e : Entry (List ℕ) Reference) × (next : ℕ) × Found any_definition s at (define e) next

abbrev pub WhatEntry : List ℕ → ℕ → (Entry (List ℕ) Reference → Type 0) → Type 0
WhatEntry s at P = (e : Entry (List ℕ) Reference) (next : ℕ) → Found any_definition s at (define e) next → P e

-- an entry at a place is a constant worked out
abbrev pub is_worked : List ℕ → ℕ → Bool
is_worked s at = eqb (get_or s at 0) 0x46

-- the bytes of a number with this tag, by its words
unfoldable pub words_bytes : ℕ → ℕ → ℕ → List ℕ
words_bytes tag high low = elim (is_wide tag) [ true ↦ be4 high ++ be4 low | false ↦ be4 low ]

-- what a reference at a place of s says
unfoldable pub Tells : List ℕ → Kind → Reference → RefType → Type 0
Tells s kind r (refType.Raw number) = r ≡ raw number
Tells s kind r (refType.Index number) = r ≡ entry kind number
Tells s kind r (refType.Sym stretch) = (l : List ℕ) × Spans s stretch l × (r ≡ name kind l)

-- the table that an entry's first reference leads to, by the entry's fields: a Dynamic's cites a bootstrap
unfoldable pub first_kind_lem : List Field → Kind
first_kind_lem [] = constant
first_kind_lem (text ∷ fields) = first_kind_lem fields
first_kind_lem (bits size ∷ fields) = first_kind_lem fields
first_kind_lem (byte ∷ fields) = first_kind_lem fields
first_kind_lem (to kind ∷ fields) = kind
first_kind_lem (to_many ∷ fields) = constant

unfoldable pub kind_in : Option Body → Kind
kind_in none = constant
kind_in (some (of_entry fields)) = first_kind_lem fields
kind_in (some (of_name kind)) = constant
kind_in (some (of_raw kind)) = constant
kind_in (some of_expression) = constant
kind_in (some (of_number rule)) = constant
kind_in (some (of_nothing rule)) = constant

-- the table that an entry's i-th reference leads to, by the entry's tag
unfoldable pub kid_kind : ℕ → ℕ → Kind
kid_kind tag zero = kind_in (lookup tag bodies)
kid_kind tag (suc i) = constant

-- how many bytes stand between an entry's i-th reference and the next: a bootstrap's count behind its first
unfoldable pub bytes_between : Kind → ℕ → ℕ
bytes_between constant zero = 0
bytes_between constant (suc i) = 0
bytes_between bootstrap zero = 2
bytes_between bootstrap (suc i) = 0

-- the i-th reference of an entry stands at a place, and the later ones in turn behind it
pub record KidAt (s : List ℕ) (e : Entry (List ℕ) Reference) (i place : ℕ) : Type 0 where
  pub kid : Reference
  pub later : List Reference
  pub kids : drop i e.kids ≡ kid ∷ later
  pub behind : ℕ
  pub found : Found (reference (kid_kind e.tag i)) s place kid behind
  pub end : ℕ
  pub rest : InTurn (reference constant) s (behind + bytes_between (kind_of e.tag) i) later end

-- the first reference of an entry with this tag stands behind the tag, or behind a method handle's kind
unfoldable pub first_place : ℕ → ℕ → ℕ
first_place tag at = elim (eqb tag 15) [ true ↦ at + 2 | false ↦ at + 1 ]

-- references from the i-th of an entry with this tag on stand one behind the other, from a place to another
abbrev pub KidsTurn : List ℕ → ℕ → ℕ → ℕ → List Reference → ℕ → Type 0
KidsTurn s tag i at [] end = at ≡ end
KidsTurn s tag i at (r ∷ rest) end =
    (behind : ℕ) × Found (reference (kid_kind tag i)) s at r behind × KidsTurn s tag (suc i) (behind + bytes_between (kind_of tag) i) rest end

-- where the records of a job stand: the definitions from the start to 50, then the requests to 60, then 60's fields, and nothing more
pub record Laid (s : List ℕ) (job : Job (List ℕ)) : Type 0 where
  pub fifty : ℕ
  pub definitions : InTurn any_definition s 0 job.definitions fifty
  pub is_fifty : get_elem? s fifty ≡ some 0x50
  pub sixty : ℕ
  pub requests : InTurn any_request s (fifty + 1) job.requests sixty
  pub is_sixty : get_elem? s sixty ≡ some 0x60
  pub build : read_build (drop (sixty + 1) s) ≡ some (job.build, [])
