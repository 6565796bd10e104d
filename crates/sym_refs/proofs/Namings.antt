-- What stands where a naming's record does: its kind's byte, its name and what it stands for. Assumes nothing.
use mathlib.Core.Bool.{true}
use mathlib.Core.List.{List}
use mathlib.Core.Option.{Option, none, some}
use mathlib.Core.Path.{◌≡◌, refl, sym, ap}
use Prim.Native.Nat.{ℕ, ◌+◌, ◌<◌}
use native.Mathlib.Omega.{arith}
use lib.ListN.{length, get_or, drop}
use Rattle.definition.specs.Basics.{same, lookup}
use Rattle.definition.specs.Shapes.{Kind, constant, bootstrap, shapes}
use Rattle.definition.specs.Job.{Definition, named, Body, of_entry, of_name, of_raw, of_expression, of_number, of_nothing, bodies, short_name, reference, read_body, read_definition}
use Rattle.definition.specs.Definitions.{Naming, same_kind_lem}
use Rattle.facts.proofs.Lists.{clash, none≢some, both_true, same_true, same_refl}
use Rattle.facts.proofs.Each.{Each, lookup-each}
use Rattle.laws.proofs.Form.CitedEntries.{same_kind-true}
use Rattle.job.specs.Stored.{Found, any_definition}
use Rattle.job.proofs.Stepping.{entry_read, raw_read, setting_read, bare_read, worked-read}
use Rattle.job.proofs.Standing.{definition_read}
use Rattle.job.proofs.Taking.{takes_name, takes_reference, finds_then, ends}
use Rattle.sym_refs.specs.Names.{kind_byte, NamingAt, is_name_lem}

-- KINDS

pub kind_byte_lem : (a b : Kind) → kind_byte a ≡ kind_byte b → a ≡ b
unfolding kind_byte
kind_byte_lem constant constant e = refl
kind_byte_lem constant bootstrap e = absurd (omega arith)
kind_byte_lem bootstrap constant e = absurd (omega arith)
kind_byte_lem bootstrap bootstrap e = refl

same_kind : (a : Kind) → same_kind_lem a a ≡ true
unfolding same_kind_lem
same_kind constant = refl
same_kind bootstrap = refl

-- a test on names passes only equal ones
module _ (kind : Kind) (l : List ℕ) (x : Naming) where
  pub name_is : kind_byte x.kind ≡ kind_byte kind → x.label ≡ l → is_name_lem kind l x ≡ true
  name_is k e = let z = kind_byte_lem x.kind kind k in rw (z, e, same_kind kind, same_refl l)

  pub is_name : is_name_lem kind l x ≡ true → (kind_byte x.kind ≡ kind_byte kind) × (x.label ≡ l)
  is_name t =
      let b = both_true (same_kind_lem kind x.kind) (same l x.label) t in
      (ap kind_byte (sym (same_kind-true kind x.kind b.0)), sym (same_true l x.label b.1))

-- THE RECORD

-- the first byte of a body that names
FirstOf : ℕ → Body → Type 0
FirstOf first (of_entry fields) = Unit {0}
FirstOf first (of_name kind) = first ≡ kind_byte kind
FirstOf first (of_raw kind) = Unit {0}
FirstOf first of_expression = Unit {0}
FirstOf first (of_number rule) = Unit {0}
FirstOf first (of_nothing rule) = Unit {0}

all_first : Each (λ r. FirstOf r.0 r.1) bodies
unfolding bodies shapes FirstOf kind_byte
all_first = (tt, (tt, (tt, (tt, (tt, (tt, (tt, (tt, (tt, (tt, (tt, (tt, (tt, (tt, (tt, (tt, (tt, (tt, (refl, (refl, (tt, (tt, (tt, (tt, (tt, (tt, tt))))))))))))))))))))))))))

first_of : (first : ℕ) (kind : Kind) → lookup first bodies ≡ some (of_name kind) → first ≡ kind_byte kind
unfolding FirstOf
first_of first kind e = lookup-each FirstOf first bodies (of_name kind) all_first e

pub record NamingThere (s : List ℕ) (at : ℕ) (x : Naming) : Type 0 where
  pub first : get_or s at 0 ≡ kind_byte x.kind
  pub inside : at < length s
  pub mid : ℕ
  pub label : Found short_name s (at + 1) x.label mid
  pub next : ℕ
  pub target : Found (reference x.kind) s mid x.target next

module _ (s : List ℕ) (at : ℕ) (x : Naming) (next : ℕ) (f : Found any_definition s at (named x.kind x.label x.target) next) where
  abbrev d : Definition (List ℕ)
  d = named x.kind x.label x.target

  abbrev Read : Option Body → Type 0
  Read body = read_body (get_or s at 0) body (drop (at + 1) s) ≡ some (d, drop next s)

  there : (kind : Kind) → lookup (get_or s at 0) bodies ≡ some (of_name kind) → at < length s → Read (some (of_name kind)) → NamingThere s at x
  unfolding read_body
  there kind e inside r =
      finds_then s (at + 1) short_name takes_name _ (omega arith) d (drop next s) r λ l mid g r₁.
      finds_then s mid (reference kind) (takes_reference kind) _ g.within d (drop next s) r₁ λ a end h r₂.
      let same = (ends s end next (named kind l a) d h.within f.within r₂).0 in
      let k : x.kind ≡ kind = cc in
      let m : x.label ≡ l = cc in
      let n : x.target ≡ a = cc in
      record { first = rw k (first_of (get_or s at 0) kind e); inside = inside; mid = mid; label = rw m g; next = end; target = rw (k, n) h }

  by : (body : Option Body) → lookup (get_or s at 0) bodies ≡ body → at < length s → Read body → NamingThere s at x
  unfolding read_body
  by none e inside r = none≢some r
  by (some (of_entry fields)) e inside r =
      let t = entry_read (get_or s at 0) fields (drop (at + 1) s) (drop next s) d r in
      let same = t.1 in
      clash (cc)
  by (some (of_name kind)) e inside r = there kind e inside r
  by (some (of_raw kind)) e inside r =
      let t = raw_read (get_or s at 0) kind (drop (at + 1) s) (drop next s) d r in
      let same = t.2 in
      clash (cc)
  by (some of_expression) e inside r =
      let same = (worked-read (get_or s at 0) (drop (at + 1) s) (drop next s) d r).2 in
      clash (cc)
  by (some (of_number rule)) e inside r =
      let same = (setting_read (get_or s at 0) rule (drop (at + 1) s) (drop next s) d r).1 in
      clash (cc)
  by (some (of_nothing rule)) e inside r =
      let same = bare_read (get_or s at 0) rule (drop (at + 1) s) (drop next s) d r in
      clash (cc)

  found_there : NamingThere s at x
  unfolding read_definition
  found_there =
      let b = definition_read s at d next f in
      by (lookup (get_or s at 0) bodies) refl b.0 b.2

pub naming_there : (s : List ℕ) (at : ℕ) (x : Naming) → NamingAt s at x → NamingThere s at x
naming_there s at x (next, f, cited) = found_there s at x next f
