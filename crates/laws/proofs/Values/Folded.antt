-- A record 46 is the constant of its value: written plainly, a formed job is the same job. Assumes nothing.
use mathlib.Core.Bool.{Bool, true, false}
use mathlib.Core.List.{List, [], ◌∷◌, ◌++◌}
use mathlib.Core.Option.{some}
use mathlib.Core.Path.{◌≡◌, refl, sym, ap, ◌∙◌, subst}
use Prim.Native.Nat.{ℕ, zero, suc, ◌+◌, ◌-◌, ◌*◌, ◌/◌, ◌≤◌}
use native.Mathlib.Omega.{arith}
use borrow.Author.Tests.{eqb-true, leb-true, le-leb}
use lib.Dec.{eqb, leb}
use lib.ListN.{length, take, length-append}
use lib.Seq.{take-append_seam}
use Rattle.definition.specs.Basics.{Result, good, Refusal, at_record, unless, lookup, ◌>>=◌}
use Rattle.definition.specs.Bytes.{one, many, be4, be8}
use Rattle.definition.specs.Expression.{Number, int, float, long, double, tag_of, read_expression}
use Rattle.definition.specs.Form.{Counts, nothing_yet, counted, whole, may_stand, has_room, texts_held, cites, cites_earlier, comes_out, form_definition, Definitions, form_definitions, form_request, Requests, form_requests, form}
use Rattle.definition.specs.Job.{Definition, define, Request, Job, bodies, as_constant, worked_out, read_body, read_definition, asks, read_request}
use Rattle.definition.specs.Opened.{opened}
use Rattle.definition.specs.Run.{Lent, longest_job, enough, fits, Placed, build, run}
use Rattle.definition.specs.Shapes.{shapes, read_entry, read_fields, with_literal}
use Rattle.definition.specs.Starred.{digit, bytes as fromHex}
use Rattle.definition.specs.Value.{bits_bytes, folded as comesTo, constant_in}
use Rattle.facts.proofs.Lists.{both_true}
use Rattle.facts.proofs.Results.{bad≢good, good_then, good_inj, at_record-good, whole-good, some_then, decided}
use Rattle.laws.specs.FoldedStatement.{plain_constant, plain_record, plain_from, plainly, Folded}
use Rattle.laws.proofs.Form.DefinitionsRead.{formed_read}
use Rattle.laws.proofs.Form.WorkedOut.{size_of, bits-long}
use Rattle.laws.proofs.Values.Local.{local_definition, local_request}
use Rattle.laws.proofs.Values.Sizes.{fewer, folded-long}

-- ONE RECORD

-- a definition is formed wherever it is read, if it comes out
formed_again :
    (n : Counts) (first first' : ℕ) (bytes bytes' : List ℕ) (r : Definition (List ℕ) × List ℕ) (rest' : List ℕ) →
    form_definition n first bytes ≡ good r →
    read_definition first' bytes' ≡ some (r.0, rest') →
    comes_out first' bytes' ≡ good tt →
    form_definition n first' bytes' ≡ good (r.0, rest')
unfolding form_definition whole
formed_again n first first' bytes bytes' r rest' e p q =
    good_then (whole (read_definition first bytes)) _ r e λ x _ e₁.
    good_then (may_stand n x.0) _ r e₁ λ _ stands e₂.
    good_then (unless (has_room n x.0) 5) _ r e₂ λ _ room e₃.
    good_then (unless (cites_earlier n x.0) 4) _ r e₃ λ _ cited e₄.
    good_then (comes_out first bytes) _ r e₄ λ _ _ e₅.
    let same : x.0 ≡ r.0 = ap (λ y. y.0) (good_inj e₅) in
    let stands' : may_stand n r.0 ≡ good tt = rw same at stands in
    let room' : unless (has_room n r.0) 5 ≡ good tt = rw same at room in
    let cited' : unless (cites_earlier n r.0) 4 ≡ good tt = rw same at cited in
    rw (p, whole, stands', room', cited', q)

-- and came out
formed_out :
    (n : Counts) (first : ℕ) (bytes : List ℕ) (r : Definition (List ℕ) × List ℕ) → form_definition n first bytes ≡ good r → comes_out first bytes ≡ good tt
unfolding form_definition
formed_out n first bytes r e =
    good_then (whole (read_definition first bytes)) _ r e λ x _ e₁.
    good_then (may_stand n x.0) _ r e₁ λ _ _ e₂.
    good_then (unless (has_room n x.0) 5) _ r e₂ λ _ _ e₃.
    good_then (unless (cites_earlier n x.0) 4) _ r e₃ λ _ _ e₄.
    good_then {C = comes_out first bytes ≡ good tt} (comes_out first bytes) _ r e₄ λ _ out _. out

-- a constant written plainly is read as it is
tag-no_50 : (kind : Number) → eqb (tag_of kind) 0x50 ≡ false
unfolding tag_of
tag-no_50 int = refl
tag-no_50 float = refl
tag-no_50 long = refl
tag-no_50 double = refl

tag-comes_out : (kind : Number) (bytes : List ℕ) → comes_out (tag_of kind) bytes ≡ good tt
unfolding tag_of comes_out
tag-comes_out int bytes = refl
tag-comes_out float bytes = refl
tag-comes_out long bytes = refl
tag-comes_out double bytes = refl

constant_read : (kind : Number) (b : ℕ) (more : List ℕ) → read_definition (tag_of kind) (bits_bytes kind b ++ more) ≡ some (define (as_constant (kind, b)), more)
unfolding tag_of bits_bytes be4 be8 as_constant read_definition lookup bodies shapes read_body read_entry read_fields with_literal many one
constant_read int b more = refl
constant_read float b more = refl
constant_read long b more = refl
constant_read double b more = refl

others_come : (first : ℕ) (l : List ℕ) → eqb first 0x46 ≡ false → comes_out first l ≡ good tt
unfolding comes_out
others_come first l t = rw (t, comes_out)

-- a record and what its plain one is
record Plain (n : Counts) (first : ℕ) (bytes : List ℕ) (r : Definition (List ℕ) × List ℕ) : Type 0 where
  byte : ℕ
  body : List ℕ
  is : plain_record first bytes r.1 ≡ byte ∷ body
  no50 : eqb byte 0x50 ≡ false
  fewer : length body + length r.1 ≤ length bytes
  formed : (more : List ℕ) → form_definition n byte (body ++ more) ≡ good (r.0, more)

-- the bytes in front of what is left
taken_read : (read rest bytes : List ℕ) → bytes ≡ read ++ rest → take (length bytes - length rest) bytes ≡ read
taken_read read rest bytes e =
    let long : length bytes ≡ length read + length rest = ap length e ∙ length-append read rest in
    let size : length bytes - length rest ≡ length read = omega arith in
    ap (λ k. take k bytes) size ∙ ap (take (length read)) e ∙ take-append_seam read rest

plain_other :
    (n : Counts) (first : ℕ) (bytes : List ℕ) (r : Definition (List ℕ) × List ℕ) →
    eqb first 0x50 ≡ false →
    eqb first 0x46 ≡ false →
    form_definition n first bytes ≡ good r →
    Plain n first bytes r
unfolding plain_record
plain_other n first bytes r s t e =
    let u = local_definition first t bytes r.0 r.1 (formed_read n first bytes r e) in
    let taken : take (length bytes - length r.1) bytes ≡ u.read = taken_read u.read r.1 bytes u.is in
    record {
      byte = first;
      body = u.read;
      is = rw (t, plain_record) (ap (λ l. first ∷ l) taken);
      no50 = s;
      fewer = omega (arith, ap length u.is, length-append u.read r.1);
      formed = λ more. formed_again n first first bytes (u.read ++ more) r more e (u.anywhere more) (others_come first (u.read ++ more) t);
    }

-- what a 46 that came out is read as
worked-46 :
    (n : Counts) (bytes : List ℕ) (r : Definition (List ℕ) × List ℕ) →
    form_definition n 0x46 bytes ≡ good r →
    (c : Number × ℕ) × (constant_in (read_expression bytes) ≡ good c) × (r.0 ≡ define (as_constant c))
    × (size_of c.0 + length r.1 ≤ length bytes)
unfolding read_definition lookup bodies shapes read_body comes_out constant_in worked_out
worked-46 n bytes r e =
    good_then (constant_in (read_expression bytes)) _ tt (formed_out n 0x46 bytes r e) λ c out _.
    some_then (read_expression bytes) _ r (formed_read n 0x46 bytes r e) λ x rest u v.
    let came : comesTo x ≡ good c = rw u at out in
    let same : define (worked_out (comesTo x)) ≡ r.0 = cc in
    let left : rest ≡ r.1 = cc in (
      c,
      out,
      sym same ∙ ap (λ w. define (worked_out w)) came,
      subst (λ l. size_of c.0 + length l ≤ length bytes) left (folded-long bytes x rest c.0 c.1 u came),
    )

plain_46 :
    (n : Counts) (bytes : List ℕ) (r : Definition (List ℕ) × List ℕ) →
    form_definition n 0x46 bytes ≡ good r →
    Plain n 0x46 bytes r
unfolding plain_record plain_constant
plain_46 n bytes r e =
    let w = worked-46 n bytes r e in
    let c = w.0 in
    record {
      byte = tag_of c.0;
      body = bits_bytes c.0 c.1;
      is = ap plain_constant w.1;
      no50 = tag-no_50 c.0;
      fewer = omega (arith, bits-long c.0 c.1, w.3);
      formed = λ more.
          formed_again n 0x46 (tag_of c.0) bytes (bits_bytes c.0 c.1 ++ more) r more e
          (constant_read c.0 c.1 more ∙ ap (λ d. some (d, more)) (sym w.2))
          (tag-comes_out c.0 (bits_bytes c.0 c.1 ++ more));
    }

plain_record_lem :
    (n : Counts) (first : ℕ) (bytes : List ℕ) (r : Definition (List ℕ) × List ℕ) →
    eqb first 0x50 ≡ false →
    form_definition n first bytes ≡ good r →
    Plain n first bytes r
plain_record_lem n first bytes r s e = go (eqb first 0x46) refl
  where
    go : (b : Bool) → eqb first 0x46 ≡ b → Plain n first bytes r
    go true t =
        let is = eqb-true first 0x46 t in
        subst (λ k. Plain n k bytes r) (sym is) (plain_46 n bytes r (subst (λ k. form_definition n k bytes ≡ good r) is e))
    go false t = plain_other n first bytes r s t e

-- ALL RECORDS

-- a request leaves no more than there was
request_shorter : (n : Counts) (first : ℕ) (bytes : List ℕ) (r : Request × List ℕ) → form_request n first bytes ≡ good r → length r.1 ≤ length bytes
unfolding form_request
request_shorter n first bytes r e =
    good_then (whole (read_request (lookup first asks) bytes)) _ r e λ x wholly e₁.
    good_then (unless (cites n x.0.what) 4) _ r e₁ λ _ _ e₂.
    let same : x ≡ r = cc in
    let rest : length x.1 ≡ length r.1 = ap (λ y. length y.1) same in
    let p = read_request (lookup first asks) in
    omega (arith, fewer p (local_request (lookup first asks)) bytes x.0 x.1 (whole-good (p bytes) x wholly))

-- more fuel or less, if it lasts
requests_again :
    (fuel fuel' : ℕ) (n : Counts) (requests place : ℕ) (bytes : List ℕ) (d : Requests) →
    length bytes ≤ fuel' →
    form_requests fuel n requests place bytes ≡ good d →
    form_requests fuel' n requests place bytes ≡ good d
unfolding form_requests
requests_again zero fuel' n requests place [] d l e = bad≢good e
requests_again zero fuel' n requests place (first ∷ bytes) d l e = bad≢good e
requests_again (suc fuel) fuel' n requests place [] d l e = bad≢good e
requests_again (suc fuel) zero n requests place (first ∷ bytes) d l e = absurd (omega arith)
requests_again (suc fuel) (suc fuel') n requests place (first ∷ bytes) d l e =
    decided
    (eqb first 0x60)
    _
    _
    (good d)
    e
    (λ t h. rw (t, form_requests) h)
    (λ t h.
    good_then (at_record place (form_request n first bytes)) _ d h λ r here h₁.
    good_then (form_requests fuel n (suc requests) (suc place) r.1) _ d h₁ λ d' there h₂.
    let again = requests_again fuel fuel' n (suc requests) (suc place) r.1 d' (omega (arith, request_shorter n first bytes r (at_record-good place (form_request n first bytes) r here))) there in
    rw (t, form_requests, here, again) h₂)

-- the definitions end, or there is one more; l is what is written plainly
formed_none :
    (fuel : ℕ) (n : Counts) (place first : ℕ) (bytes l : List ℕ) →
    eqb first 0x50 ≡ true →
    l ≡ first ∷ bytes →
    length l ≤ fuel →
    form_definitions fuel n place l ≡ good (record { list = []; counts = n; rest = bytes })
unfolding form_definitions
formed_none zero n place first bytes l s is h = absurd (omega (arith, ap length is))
formed_none (suc fuel) n place first bytes l s is h = rw (is, s, form_definitions)

formed_plain :
    (fuel : ℕ) (n : Counts) (place first : ℕ) (bytes : List ℕ) (r : Definition (List ℕ) × List ℕ) (p : Plain n first bytes r) (rest l : List ℕ) (d : Definitions) →
    l ≡ p.byte ∷ (p.body ++ rest) →
    length l ≤ fuel →
    texts_held (counted r.0 n) ≡ good tt →
    ((f : ℕ) → length rest ≤ f → form_definitions f (counted r.0 n) (suc place) rest ≡ good d) →
    form_definitions fuel n place l ≡ good (record { list = r.0 ∷ d.list; counts = d.counts; rest = d.rest })
unfolding form_definitions at_record
formed_plain zero n place first bytes r p rest l d is h held later = absurd (omega (arith, ap length is))
formed_plain (suc fuel) n place first bytes r p rest l d is h held later =
    let long = ap length is in
    let size = length-append p.body rest in
    let there = later fuel (omega (arith, long, size)) in
    let here = p.formed rest in
    let s = p.no50 in
    rw (is, s, form_definitions, here, at_record, held, there)

definitions_again :
    (fuel fuel' : ℕ) (n : Counts) (place : ℕ) (bytes : List ℕ) (d : Definitions) →
    length (plain_from fuel bytes) ≤ fuel' →
    form_definitions fuel n place bytes ≡ good d →
    form_definitions fuel' n place (plain_from fuel bytes) ≡ good d
unfolding form_definitions plain_from
definitions_again zero fuel' n place [] d l e = bad≢good e
definitions_again zero fuel' n place (first ∷ bytes) d l e = bad≢good e
definitions_again (suc fuel) fuel' n place [] d l e = bad≢good e
definitions_again (suc fuel) fuel' n place (first ∷ bytes) d l e =
    decided
    (eqb first 0x50)
    _
    _
    (good d)
    e
    (λ t h.
    let is : plain_from (suc fuel) (first ∷ bytes) ≡ first ∷ bytes = rw (t, plain_from) in
    formed_none fuel' n place first bytes (plain_from (suc fuel) (first ∷ bytes)) t is l ∙ h)
    (λ t h.
    good_then (at_record place (form_definition n first bytes)) _ d h λ r here h₁.
    good_then (texts_held (counted r.0 n)) _ d h₁ λ _ held h₂.
    good_then (form_definitions fuel (counted r.0 n) (suc place) r.1) _ d h₂ λ d' there h₃.
    let formed = at_record-good place (form_definition n first bytes) r here in
    let p = plain_record_lem n first bytes r t formed in
    let read = formed_read n first bytes r formed in
    let is : plain_from (suc fuel) (first ∷ bytes) ≡ p.byte ∷ (p.body ++ plain_from fuel r.1) = rw (t, plain_from, read) (ap (λ l. l ++ plain_from fuel r.1) p.is) in
    formed_plain fuel' n place first bytes r p (plain_from fuel r.1) (plain_from (suc fuel) (first ∷ bytes)) d' is l held
    (λ f l. definitions_again fuel f (counted r.0 n) (suc place) r.1 d' l there)
    ∙ h₃)

-- written plainly a job isn't longer, and what stands behind its definitions is there too
plain_fewer :
    (fuel : ℕ) (n : Counts) (place : ℕ) (bytes : List ℕ) (d : Definitions) →
    form_definitions fuel n place bytes ≡ good d →
    (length (plain_from fuel bytes) ≤ length bytes) × (length d.rest ≤ length (plain_from fuel bytes))
unfolding form_definitions plain_from
plain_fewer zero n place [] d e = bad≢good e
plain_fewer zero n place (first ∷ bytes) d e = bad≢good e
plain_fewer (suc fuel) n place [] d e = bad≢good e
plain_fewer (suc fuel) n place (first ∷ bytes) d e =
    decided
    (eqb first 0x50)
    _
    _
    (good d)
    e
    (λ t h.
    let is : plain_from (suc fuel) (first ∷ bytes) ≡ first ∷ bytes = rw (t, plain_from) in
    let same : record { list = []; counts = n; rest = bytes } ≡ d = good_inj h in
    let long = ap length is in
    let left : length bytes ≡ length d.rest = ap (λ d. length d.rest) same in
    (omega (arith, long), omega (arith, long, left)))
    (λ t h.
    good_then (at_record place (form_definition n first bytes)) _ d h λ r here h₁.
    good_then (texts_held (counted r.0 n)) _ d h₁ λ _ _ h₂.
    good_then (form_definitions fuel (counted r.0 n) (suc place) r.1) _ d h₂ λ d' there h₃.
    let formed = at_record-good place (form_definition n first bytes) r here in
    let p = plain_record_lem n first bytes r t formed in
    let read = formed_read n first bytes r formed in
    let is : plain_from (suc fuel) (first ∷ bytes) ≡ p.byte ∷ (p.body ++ plain_from fuel r.1) = rw (t, plain_from, read) (ap (λ l. l ++ plain_from fuel r.1) p.is) in
    let long = ap length is in
    let size = length-append p.body (plain_from fuel r.1) in
    let later = plain_fewer fuel (counted r.0 n) (suc place) r.1 d' there in
    let same : record { list = r.0 ∷ d'.list; counts = d'.counts; rest = d'.rest } ≡ d = good_inj h₃ in
    let left : length d'.rest ≡ length d.rest = ap (λ d. length d.rest) same in
    (omega (arith, long, size, later.0, p.fewer), omega (arith, long, size, later.1, left)))

-- THE JOB

plain_form : (bytes : List ℕ) (job : Job (List ℕ)) → form bytes ≡ good job → (length (plainly bytes) ≤ length bytes) × (form (plainly bytes) ≡ good job)
unfolding form plainly
plain_form bytes job e =
    good_then (form_definitions (length bytes) nothing_yet 0 bytes) _ job e λ d p q.
    good_then (form_requests (length bytes) d.counts 0 (suc (length d.list)) d.rest) _ job q λ r s t.
    let l = plain_from (length bytes) bytes in
    let size = plain_fewer (length bytes) nothing_yet 0 bytes d p in
    let there = definitions_again (length bytes) (length l) nothing_yet 0 bytes d (omega arith) p in
    let behind = requests_again (length bytes) (length l) d.counts 0 (suc (length d.list)) d.rest r size.1 s in
    (size.0, rw (there, behind) t)

-- what is enough for a job is enough for a shorter one
enough-fewer : (n m : ℕ) (lent : Lent) → n ≤ m → enough m lent ≡ true → enough n lent ≡ true
unfolding enough
enough-fewer n m lent h e =
    let b = both_true (leb (6 * m + 1024) lent.work) (leb (m / 5 + 2) lent.gaps) e in
    let words = leb-true (6 * m + 1024) lent.work b.0 in
    let gaps = leb-true (m / 5 + 2) lent.gaps b.1 in
    let fewer-words : leb (6 * n + 1024) lent.work ≡ true = le-leb (6 * n + 1024) lent.work (omega arith) in
    let fewer-gaps : leb (n / 5 + 2) lent.gaps ≡ true = le-leb (n / 5 + 2) lent.gaps (omega arith) in
    rw (fewer-words, fewer-gaps)

-- neither 1 nor 2
run-builds :
    (lent : Lent) (bytes : List ℕ) →
    length bytes ≤ longest_job →
    enough (length bytes) lent ≡ true →
    run lent bytes ≡ (build bytes >>= λ r. at_record r.0 (unless (fits r.1 lent) 18) >>= λ _. good r.1)
unfolding run at_record unless
run-builds lent bytes h e = let short = le-leb (length bytes) longest_job h in rw (short, e, unless, at_record)

same-build : (bytes bytes' : List ℕ) → form bytes ≡ form bytes' → build bytes ≡ build bytes'
unfolding build
same-build bytes bytes' e = rw e

pub folded : Folded
folded bytes job e =
    let plain = plain_form bytes job e in
    let same = same-build (plainly bytes) bytes (plain.1 ∙ sym e) in (
      plain.0,
      plain.1,
      λ lent h k.
          run-builds lent (plainly bytes) (omega (arith, plain.0)) (enough-fewer (length (plainly bytes)) (length bytes) lent plain.0 k)
          ∙ ap (λ (b : Result Refusal Placed). b >>= λ r. at_record r.0 (unless (fits r.1 lent) 18) >>= λ _. good r.1) same
          ∙ sym (run-builds lent bytes h k),
    )

-- 1.0 / 3.0 behind a text, in front of an Int: what is written plainly
written : plainly (fromHex "010000462f043f8000000440400000030000000150") ≡ fromHex "010000043eaaaaab030000000150"
unfolding opened digit fromHex plainly plain_from plain_record plain_constant
written = refl
