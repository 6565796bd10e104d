-- What the form pass tells of a job: definitions, requests and the build record are formed, and cite what stands earlier. Assumes nothing.
use mathlib.Core.Bool.{Bool, true}
use mathlib.Core.List.{List, [], ◌∷◌}
use mathlib.Core.Option.{Option, none, some}
use mathlib.Core.Path.{◌≡◌, refl, subst}
use Prim.Native.Nat.{ℕ, zero, suc, ◌+◌, ◌≤◌, ◌<◌}
use native.Mathlib.Omega.{arith}
use borrow.Author.Tests.{ltb-true}
use lib.Dec.{eqb}
use lib.ListN.{length}
use Rattle.definition.specs.Basics.{good, at_record, unless, lookup}
use Rattle.definition.specs.Bytes.{one, two}
use Rattle.definition.specs.Shapes.{constant}
use Rattle.definition.specs.Job.{Definition, Request, ClassSlot, Build, Job, reference, read_definition, asks, read_request, class_form, name_form, read_build, slot, request}
use Rattle.definition.specs.Form.{Counts, counted, whole, may_stand, has_room, texts_held, cites, cites_earlier, cites_request, comes_out, form_definition, Definitions, form_definitions, form_request, nothing_behind, form_build, Requests, form_requests, form}
use Rattle.facts.proofs.Each.{Each}
use Rattle.facts.proofs.Results.{bad≢good, good_then, at_record-good, unless-good, whole-good, decided}
use Rattle.laws.specs.Statements.{IsBytes}
use Rattle.laws.proofs.Form.EntryShapes.{Short}
use Rattle.laws.proofs.Form.ParsersYield.{Byte, each_byte, Yields, yields_fail, yields_return, yields_bind, yields_one, yields_two}
use Rattle.laws.proofs.Form.DefinitionsRead.{no_entries}
use Rattle.laws.proofs.Form.FormedEntries.{OfKind, yields_reference, FormedDefinition, yields_definition}

-- a definition where so many entries came before: what it cites stands earlier
pub record FormedAt (n : Counts) (d : Definition (List ℕ)) : Type 0 where
  pub formed : FormedDefinition d
  pub earlier : cites_earlier n d ≡ true

-- definitions in turn, and the entries after them
abbrev pub FormedFrom : Counts → List (Definition (List ℕ)) → Type 0
FormedFrom n [] = Unit {0}
FormedFrom n (d ∷ rest) = FormedAt n d × FormedFrom (counted d n) rest

abbrev pub counts_after : Counts → List (Definition (List ℕ)) → Counts
counts_after n [] = n
counts_after n (d ∷ rest) = counts_after (counted d n) rest

pub formed_definition_lem :
    (n : Counts) (first : ℕ) (bytes : List ℕ) (r : Definition (List ℕ) × List ℕ) →
    Each Byte bytes →
    form_definition n first bytes ≡ good r →
    FormedAt n r.0 × Each Byte r.1 × (length r.1 ≤ length bytes)
unfolding form_definition
formed_definition_lem n first bytes r b e =
    good_then (whole (read_definition first bytes)) _ r e λ x wholly e₁.
    good_then (may_stand n x.0) _ r e₁ λ _ _ e₁.
    good_then (unless (has_room n x.0) 5) _ r e₁ λ _ _ e₂.
    good_then (unless (cites_earlier n x.0) 4) _ r e₂ λ v earlier e₃.
    good_then (comes_out first bytes) _ r e₃ λ _ _ e₄.
    let same : x ≡ r = cc in
    let g = yields_definition first bytes b x.0 x.1 (whole-good (read_definition first bytes) x wholly) in
    subst
    (λ y. FormedAt n y.0 × Each Byte y.1 × (length y.1 ≤ length bytes))
    same
    (record { formed = g.is; earlier = unless-good (cites_earlier n x.0) 4 v earlier }, g.bytes, g.fewer)

-- what the definitions come to: they are formed in turn, their entries are counted, and bytes are left
record Pass (n : Counts) (d : Definitions) : Type 0 where
  formed : FormedFrom n d.list
  counts : d.counts ≡ counts_after n d.list
  left : Each Byte d.rest

formed_definitions :
    (fuel : ℕ) (n : Counts) (place : ℕ) (bytes : List ℕ) (d : Definitions) →
    Each Byte bytes →
    form_definitions fuel n place bytes ≡ good d →
    Pass n d
unfolding form_definitions
formed_definitions zero n place [] d b e = bad≢good e
formed_definitions zero n place (first ∷ bytes) d b e = bad≢good e
formed_definitions (suc fuel) n place [] d b e = bad≢good e
formed_definitions (suc fuel) n place (first ∷ bytes) d b e =
    decided
    (eqb first 0x50)
    _
    _
    (good d)
    e
    (λ t e.
    let same : record { list = []; counts = n; rest = bytes } ≡ d = cc in
    subst (Pass n) same (record { formed = tt; counts = refl; left = b.1 }))
    (λ t e.
    good_then (at_record place (form_definition n first bytes)) _ d e λ r here e₁.
    good_then (texts_held (counted r.0 n)) _ d e₁ λ _ _ e₁.
    good_then (form_definitions fuel (counted r.0 n) (suc place) r.1) _ d e₁ λ d' there e₂.
    let g = formed_definition_lem n first bytes r b.1 (at_record-good place (form_definition n first bytes) r here) in
    let p = formed_definitions fuel (counted r.0 n) (suc place) r.1 d' g.1 there in
    let same : record { list = r.0 ∷ d'.list; counts = d'.counts; rest = d'.rest } ≡ d = cc in
    subst (Pass n) same (record { formed = (g.0, p.formed); counts = p.counts; left = p.left }))

-- a request as the form pass leaves it, behind so many entries
abbrev pub FormedRequest : Counts → Request → Type 0
FormedRequest n q = OfKind constant q.what × (cites n q.what ≡ true)

yields_request : (o : Option Bool) → Yields (λ q. OfKind constant q.what) (read_request o)
unfolding read_request
yields_request none = yields_fail (λ q. OfKind constant q.what)
yields_request (some ldc) =
    yields_bind (OfKind constant) _ (reference constant) _ (yields_reference constant) λ r h. yields_return (λ q. OfKind constant q.what) (record { ldc = ldc; what = r }) h

pub formed_request :
    (n : Counts) (first : ℕ) (bytes : List ℕ) (r : Request × List ℕ) →
    Each Byte bytes →
    form_request n first bytes ≡ good r →
    FormedRequest n r.0 × Each Byte r.1 × (length r.1 ≤ length bytes)
unfolding form_request
formed_request n first bytes r b e =
    good_then (whole (read_request (lookup first asks) bytes)) _ r e λ x wholly e₁.
    good_then (unless (cites n x.0.what) 4) _ r e₁ λ u earlier e₂.
    let same : x ≡ r = cc in
    let g = yields_request (lookup first asks) bytes b x.0 x.1 (whole-good (read_request (lookup first asks) bytes) x wholly) in
    subst (λ y. FormedRequest n y.0 × Each Byte y.1 × (length y.1 ≤ length bytes)) same ((g.is, unless-good (cites n x.0.what) 4 u earlier), g.bytes, g.fewer)

-- a class slot as the form pass leaves it, behind so many requests
abbrev pub FormedClass : ℕ → ClassSlot → Type 0
FormedClass requests (slot n) = Short n
FormedClass requests (request n) = Short n × (n < requests)

-- the build record: its name byte is 0, 1 or 2
pub record FormedBuild (requests : ℕ) (b : Build) : Type 0 where
  pub name_byte : b.name_byte < 3
  pub class : FormedClass requests b.class

abbrev ShortClass : ClassSlot → Type 0
ShortClass (slot n) = Short n
ShortClass (request n) = Short n

yields_class : (form : ℕ) → Yields ShortClass (class_form form)
unfolding class_form
yields_class zero = yields_bind Short ShortClass two _ yields_two λ n h. yields_return ShortClass (slot n) h
yields_class (suc zero) = yields_bind Short ShortClass two _ yields_two λ n h. yields_return ShortClass (request n) h
yields_class (suc (suc n)) = yields_fail ShortClass

yields_name_byte : (form : ℕ) → Yields (λ b. b < 3) (name_form form)
unfolding name_form
yields_name_byte zero = yields_return (λ b. b < 3) 0 (omega arith)
yields_name_byte (suc zero) = yields_return (λ b. b < 3) 1 (omega arith)
yields_name_byte (suc (suc zero)) = yields_return (λ b. b < 3) 2 (omega arith)
yields_name_byte (suc (suc (suc n))) = yields_fail (λ b. b < 3)

yields_build : Yields (λ b. (b.name_byte < 3) × ShortClass b.class) read_build
unfolding read_build
yields_build =
    yields_bind Byte _ one _ yields_one λ first h₁.
    yields_bind (λ b. b < 3) _ (name_form first) _ (yields_name_byte first) λ name_byte h₂.
    yields_bind Byte _ one _ yields_one λ form h₃.
    yields_bind ShortClass _ (class_form form) _ (yields_class form) λ class h₄.
    yields_return (λ b. (b.name_byte < 3) × ShortClass b.class) (record { name_byte = name_byte; class = class }) (h₂, h₄)

formed_class : (requests : ℕ) (c : ClassSlot) → ShortClass c → cites_request requests c ≡ true → FormedClass requests c
unfolding cites_request
formed_class requests (slot n) h e = h
formed_class requests (request n) h e = (h, ltb-true n requests e)

formed_build_lem : (requests place : ℕ) (bytes : List ℕ) (x : Build) → Each Byte bytes → form_build requests place bytes ≡ good x → FormedBuild requests x
unfolding form_build
formed_build_lem requests place bytes x b e =
    good_then (at_record place (whole (read_build bytes))) _ x e λ r wholly e₁.
    good_then (at_record place (unless (cites_request requests r.0.class) 4)) _ x e₁ λ u cited e₂.
    good_then (at_record (suc place) (unless (nothing_behind r.1) 3)) _ x e₂ λ v end e₃.
    let same : r.0 ≡ x = cc in
    let g = yields_build bytes b r.0 r.1 (whole-good (read_build bytes) r (at_record-good place (whole (read_build bytes)) r wholly)) in
    let c = unless-good (cites_request requests r.0.class) 4 u (at_record-good place (unless (cites_request requests r.0.class) 4) u cited) in
    subst (FormedBuild requests) same (record { name_byte = g.is.0; class = formed_class requests r.0.class g.is.1 c })

-- requests and the build record, behind so many entries and so many requests
record Asked (n : Counts) (requests : ℕ) (r : Requests) : Type 0 where
  formed : Each (FormedRequest n) r.list
  built : FormedBuild (requests + length r.list) r.build

formed_requests_lem :
    (fuel : ℕ) (n : Counts) (requests place : ℕ) (bytes : List ℕ) (d : Requests) →
    Each Byte bytes →
    form_requests fuel n requests place bytes ≡ good d →
    Asked n requests d
unfolding form_requests
formed_requests_lem zero n requests place [] d b e = bad≢good e
formed_requests_lem zero n requests place (first ∷ bytes) d b e = bad≢good e
formed_requests_lem (suc fuel) n requests place [] d b e = bad≢good e
formed_requests_lem (suc fuel) n requests place (first ∷ bytes) d b e =
    decided
    (eqb first 0x60)
    _
    _
    (good d)
    e
    (λ t e.
    good_then (form_build requests place bytes) _ d e λ x here e₁.
    let g = formed_build_lem requests place bytes x b.1 here in
    let more : requests ≡ requests + 0 = omega arith in
    let same : record { list = []; build = x } ≡ d = cc in
    subst (Asked n requests) same (record { formed = tt; built = subst (λ k. FormedBuild k x) more g }))
    (λ t e.
    good_then (at_record place (form_request n first bytes)) _ d e λ r here e₁.
    good_then (form_requests fuel n (suc requests) (suc place) r.1) _ d e₁ λ d' there e₂.
    let g = formed_request n first bytes r b.1 (at_record-good place (form_request n first bytes) r here) in
    let p = formed_requests_lem fuel n (suc requests) (suc place) r.1 d' g.1 there in
    let more : suc requests + length d'.list ≡ requests + suc (length d'.list) = omega arith in
    let same : record { list = r.0 ∷ d'.list; build = d'.build } ≡ d = cc in
    subst (Asked n requests) same (record { formed = (g.0, p.formed); built = subst (λ k. FormedBuild k d'.build) more p.built }))

-- a job as the form pass leaves it
pub record Formed (job : Job (List ℕ)) : Type 0 where
  pub definitions : FormedFrom no_entries job.definitions
  pub requests : Each (FormedRequest (counts_after no_entries job.definitions)) job.requests
  pub build : FormedBuild (length job.requests) job.build

-- what form accepts is so
pub form-formed : (bytes : List ℕ) (job : Job (List ℕ)) → IsBytes bytes → form bytes ≡ good job → Formed job
unfolding form
form-formed bytes job b e =
    good_then (form_definitions (length bytes) no_entries 0 bytes) _ job e λ d here e₁.
    good_then (form_requests (length bytes) d.counts 0 (suc (length d.list)) d.rest) _ job e₁ λ r there e₂.
    let g = formed_definitions (length bytes) no_entries 0 bytes d (each_byte bytes b) here in
    let k = formed_requests_lem (length bytes) d.counts 0 (suc (length d.list)) d.rest r g.left there in
    let all : 0 + length r.list ≡ length r.list = omega arith in
    let same : record { definitions = d.list; requests = r.list; build = r.build } ≡ job = cc in
    subst
    Formed
    same
    (record {
      definitions = g.formed;
      requests = subst (λ n. Each (FormedRequest n) r.list) g.counts k.formed;
      build = subst (λ n. FormedBuild n r.build) all k.built;
    })

-- every definition of a formed job is formed, and so is every entry
formed_each : (n : Counts) (l : List (Definition (List ℕ))) → FormedFrom n l → Each FormedDefinition l
formed_each n [] h = tt
formed_each n (d ∷ l) h = (h.0.formed, formed_each (counted d n) l h.1)

pub formed_definitions_each : (job : Job (List ℕ)) → Formed job → Each FormedDefinition job.definitions
formed_definitions_each job h = formed_each no_entries job.definitions h.definitions
