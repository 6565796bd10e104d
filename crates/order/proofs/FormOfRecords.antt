-- The form pass over a row of records, record by record: what each is read as, and what it is judged by. Assumes nothing.
use mathlib.Core.Bool.{Bool, true, false}
use mathlib.Core.List.{List, [], ◌∷◌, ◌++◌, map, append_assoc}
use mathlib.Core.Option.{Option, none, some}
use mathlib.Core.Path.{◌≡◌, refl, ap, sym, ◌∙◌}
use Prim.Native.Nat.{ℕ, zero, suc, ◌≤◌}
use native.Mathlib.Omega.{arith}
use lib.Dec.{eqb}
use lib.ListN.{length, length-append, length-map}
use borrow.Author.Tests.{eqb-true}
use Rattle.definition.specs.Basics.{Result, good, bad, Refusal, at_record, unless, every, concat, lookup, ◌>>=◌}
use Rattle.definition.specs.Bytes.{return, two, ◌>>=◌ as ◌>>>=◌}
use Rattle.definition.specs.Settings.{texts}
use Rattle.definition.specs.Shapes.{shapes, bootstrap_shape, read_entry}
use Rattle.definition.specs.Expression.{Expression, read_expression}
use Rattle.definition.specs.Job.{Definition, define, named, placed, setting, Job, Body, of_entry, of_name, of_raw, of_expression, of_number, of_nothing, bodies, short_name, reference, worked_out, read_body, read_definition}
use Rattle.definition.specs.Value.{folded, constant_in}
use Rattle.definition.specs.Form.{Counts, nothing_yet, counted, whole, may_stand, has_room, texts_held, cites_earlier, comes_out, form_definition, Definitions, form_definitions, form_requests, form}
use Rattle.facts.proofs.Lists.{none≢some, some_inj, true≢false}
use Rattle.facts.proofs.Each.{Each}
use Rattle.facts.proofs.Tables.{lookup-every}
use Rattle.facts.proofs.Results.{some_then}
use Rattle.order.specs.OrderStatement.{read_record, IsRecord, job_of, moves}
use Rattle.order.proofs.ParsersTake.{expression-extends, definition_extends}
use Rattle.order.proofs.MovedByExchanges.{may_move}

-- the definition that a record reads as, and the judgement of its expression; of what is no record they say nothing
abbrev or_texts : Option (Definition (List ℕ) × List ℕ) → Definition (List ℕ)
or_texts none = setting texts
or_texts (some r) = r.0

pub definition_of : List ℕ → Definition (List ℕ)
definition_of r = or_texts (read_record r)

unfoldable pub comes_out_of : List ℕ → Result ℕ (Unit {0})
comes_out_of [] = good tt
comes_out_of (first ∷ body) = comes_out first body

pub reads_as : (r : List ℕ) (d : Definition (List ℕ)) → read_record r ≡ some (d, []) → definition_of r ≡ d
unfolding definition_of
reads_as r d e = ap or_texts e

-- ---- one record, whatever follows it

-- 50 begins none
pub not_end : (first : ℕ) (body : List ℕ) (d : Definition (List ℕ)) → read_definition first body ≡ some (d, []) → eqb first 0x50 ≡ false
unfolding read_definition read_body lookup bodies shapes bootstrap_shape
not_end first body d e = go (eqb first 0x50) refl
  where
    go : (b : Bool) → eqb first 0x50 ≡ b → b ≡ false
    go false t = refl
    go true t = none≢some (ap (λ n. read_definition n body) (sym (eqb-true first 0x50 t)) ∙ e)

-- an expression is judged by its own bytes
comes_out-extends :
    (first : ℕ) (body more : List ℕ) (d : Definition (List ℕ)) → read_definition first body ≡ some (d, []) → comes_out first (body ++ more) ≡ comes_out first body
unfolding comes_out constant_in read_definition read_body lookup bodies shapes bootstrap_shape
comes_out-extends first body more d e = go (eqb first 0x46) refl
  where
    judge : Option (Option Expression × List ℕ) → Result ℕ (Unit {0})
    judge o = constant_in o >>= λ _. good tt

    choice : Bool → List ℕ → Result ℕ (Unit {0})
    choice b bytes = elim b [ true ↦ judge (read_expression bytes) | false ↦ good tt ]

    go : (b : Bool) → eqb first 0x46 ≡ b → choice b (body ++ more) ≡ choice b body
    go false t = refl
    go true t =
        some_then (read_expression body) (λ x bytes. some (define (worked_out (folded x)), bytes)) (d, []) (ap (λ n. read_definition n body) (sym (eqb-true first 0x46 t)) ∙ e) λ x rest read all.
        let none_left : rest ≡ [] = ap (λ (r : Definition (List ℕ) × List ℕ). r.1) (some_inj all) in
        let here : read_expression body ≡ some (x, []) = read ∙ ap (λ l. some (x, l)) none_left in
        ap judge (expression-extends body more x here) ∙ sym (ap judge here)

-- what a record is judged by, after 3 for what can't be read
unfoldable pub judged : Counts → List ℕ → Result ℕ (Unit {0})
judged n r =
    may_stand n (definition_of r) >>= λ _.
    unless (has_room n (definition_of r)) 5 >>= λ _.
    unless (cites_earlier n (definition_of r)) 4 >>= λ _.
    comes_out_of r

record_formed :
    (n : Counts) (first : ℕ) (body more : List ℕ) (d : Definition (List ℕ)) →
    read_definition first body ≡ some (d, []) →
    form_definition n first (body ++ more) ≡ (judged n (first ∷ body) >>= λ _. good (d, more))
unfolding form_definition whole judged comes_out_of read_record
record_formed n first body more d e =
    ap (λ o. whole o >>= judging) (definition_extends first body more d e)
    ∙ (λ i. may_stand n (same i) >>= λ _. unless (has_room n (same i)) 5 >>= λ _. unless (cites_earlier n (same i)) 4 >>= λ _. fold i >>= λ _. good (d, more))
    ∙ shape (may_stand n (definition_of (first ∷ body))) (unless (has_room n (definition_of (first ∷ body))) 5) (unless (cites_earlier n (definition_of (first ∷ body))) 4)
  where
    judging : Definition (List ℕ) × List ℕ → Result ℕ (Definition (List ℕ) × List ℕ)
    judging r =
        may_stand n r.0 >>= λ _.
        unless (has_room n r.0) 5 >>= λ _.
        unless (cites_earlier n r.0) 4 >>= λ _.
        comes_out first (body ++ more) >>= λ _.
        good r

    same : d ≡ definition_of (first ∷ body)
    same = sym (reads_as (first ∷ body) d e)

    fold : comes_out first (body ++ more) ≡ comes_out first body
    fold = comes_out-extends first body more d e

    out : Result ℕ (Definition (List ℕ) × List ℕ)
    out = good (d, more)

    shape :
        (a b c : Result ℕ (Unit {0})) →
        (a >>= λ _. b >>= λ _. c >>= λ _. comes_out first body >>= λ _. out) ≡ ((a >>= λ _. b >>= λ _. c >>= λ _. comes_out first body) >>= λ _. out)
    shape (bad x) b c = refl
    shape (good x) (bad y) c = refl
    shape (good x) (good y) (bad z) = refl
    shape (good x) (good y) (good z) = refl

-- ---- all of them

-- judged in turn, with what is counted so far
unfoldable pub passed : Counts → ℕ → List (List ℕ) → Result Refusal Counts
passed n place [] = good n
passed n place (r ∷ rs) =
    at_record place (judged n r) >>= λ _.
    texts_held (counted (definition_of r) n) >>= λ _.
    passed (counted (definition_of r) n) (suc place) rs

definitions_passed :
    (rs : List (List ℕ)) →
    Each IsRecord rs →
    (fuel : ℕ) (n : Counts) (place : ℕ) (rest : List ℕ) →
    length (job_of rs rest) ≤ fuel →
    form_definitions fuel n place (job_of rs rest)
    ≡ (passed n place rs >>= λ c. good (record { list = map definition_of rs; counts = c; rest = rest }))
unfolding form_definitions concat passed read_record at_record
definitions_passed [] each zero n place rest h = absurd (omega arith)
definitions_passed [] each (suc fuel) n place rest h = refl
definitions_passed ([] ∷ rs) each fuel n place rest h = none≢some each.0.1
definitions_passed ((first ∷ body) ∷ rs) each zero n place rest h = absurd (omega arith)
definitions_passed ((first ∷ body) ∷ rs) each (suc fuel) n place rest h =
    ap (λ l. form_definitions (suc fuel) n place (first ∷ l)) (append_assoc body (concat rs) (0x50 ∷ rest))
    ∙ begins
    ∙ ap (λ o. at_record place o >>= going) (record_formed n first body more d each.0.1)
    ∙ shape (judged n r)
    ∙ ap (λ y. at_record place (judged n r) >>= λ _. going (y, more)) (sym (reads_as r d each.0.1))
    ∙ joined (judged n r) (texts_held (counted (definition_of r) n)) (passed (counted (definition_of r) n) (suc place) rs)
    (form_definitions fuel (counted (definition_of r) n) (suc place) more)
    (definitions_passed rs each.1 fuel (counted (definition_of r) n) (suc place) rest
    (let a = length-append (body ++ concat rs) (0x50 ∷ rest) in
    let b = length-append body (concat rs) in
    let c = length-append (concat rs) (0x50 ∷ rest) in
    omega arith))
  where
    r : List ℕ
    r = first ∷ body

    d : Definition (List ℕ)
    d = each.0.0

    more : List ℕ
    more = job_of rs rest

    going : Definition (List ℕ) × List ℕ → Result Refusal Definitions
    going x =
        texts_held (counted x.0 n) >>= λ _.
        form_definitions fuel (counted x.0 n) (suc place) x.1 >>= λ ds.
        good (record { list = x.0 ∷ ds.list; counts = ds.counts; rest = ds.rest })

    begins : form_definitions (suc fuel) n place (first ∷ body ++ more) ≡ (at_record place (form_definition n first (body ++ more)) >>= going)
    begins = rw (not_end first body d each.0.1, form_definitions)

    shape : (o : Result ℕ (Unit {0})) → (at_record place (o >>= λ _. good (d, more)) >>= going) ≡ (at_record place o >>= λ _. going (d, more))
    shape (good x) = refl
    shape (bad x) = refl

    listed : Counts → Definitions
    listed c = record { list = map definition_of rs; counts = c; rest = rest }

    consed : Definitions → Definitions
    consed ds = record { list = definition_of r ∷ ds.list; counts = ds.counts; rest = ds.rest }

    joined :
        (o : Result ℕ (Unit {0})) (t : Result Refusal (Unit {0})) (q : Result Refusal Counts) (x : Result Refusal Definitions) →
        x ≡ (q >>= λ c. good (listed c)) →
        (at_record place o >>= λ _. t >>= λ _. x >>= λ ds. good (consed ds)) ≡ ((at_record place o >>= λ _. t >>= λ _. q) >>= λ c. good (consed (listed c)))
    joined (bad y) t q x e = refl
    joined (good y) (bad z) q x e = refl
    joined (good y) (good z) (good c) x e = ap (λ o. o >>= λ ds. good (consed ds)) e
    joined (good y) (good z) (bad c) x e = ap (λ o. o >>= λ ds. good (consed ds)) e

-- THE FORM of a job that is a row of records, then 50 and a rest
pub form-records :
    (rs : List (List ℕ)) (rest : List ℕ) →
    Each IsRecord rs →
    form (job_of rs rest)
    ≡ (passed nothing_yet 0 rs >>= λ c.
    form_requests (length (job_of rs rest)) c 0 (suc (length rs)) rest >>= λ q.
    good (record { definitions = map definition_of rs; requests = q.list; build = q.build }))
unfolding form
form-records rs rest each =
    ap (λ o. o >>= asking) (definitions_passed rs each (length (job_of rs rest)) nothing_yet 0 rest (omega arith))
    ∙ shape (passed nothing_yet 0 rs)
    ∙ ap (λ n. passed nothing_yet 0 rs >>= λ c. asked c n) (length-map rs definition_of)
  where
    asked : Counts → ℕ → Result Refusal (Job (List ℕ))
    asked c n =
        form_requests (length (job_of rs rest)) c 0 (suc n) rest >>= λ q.
        good (record { definitions = map definition_of rs; requests = q.list; build = q.build })

    asking : Definitions → Result Refusal (Job (List ℕ))
    asking d =
        form_requests (length (job_of rs rest)) d.counts 0 (suc (length d.list)) d.rest >>= λ q.
        good (record { definitions = d.list; requests = q.list; build = q.build })

    shape :
        (o : Result Refusal Counts) →
        ((o >>= λ c. good (record { list = map definition_of rs; counts = c; rest = rest })) >>= asking) ≡ (o >>= λ c. asked c (length (map definition_of rs)))
    shape (good c) = refl
    shape (bad e) = refl

-- ---- 41 to 44 read as names and raw definitions, and nothing else does

unfoldable moves_body : Body → Bool
moves_body (of_entry fields) = false
moves_body (of_name kind) = true
moves_body (of_raw kind) = true
moves_body of_expression = false
moves_body (of_number rule) = false
moves_body (of_nothing rule) = false

agrees : Bool → Bool → Bool
agrees true b = b
agrees false true = false
agrees false false = true

agree : (a b : Bool) → agrees a b ≡ true → a ≡ b
unfolding agrees
agree true b h = sym h
agree false true h = true≢false (sym h)
agree false false h = refl

bodies-agree : every (λ (row : ℕ × Body). agrees (moves_body row.1) (moves (row.0 ∷ []))) bodies ≡ true
unfolding every agrees moves_body moves bodies shapes bootstrap_shape
bodies-agree = refl

body_moves :
    (first : ℕ) (o : Option Body) (body : List ℕ) (d : Definition (List ℕ)) →
    read_body first o body ≡ some (d, []) →
    (b : Body) × (o ≡ some b) × (may_move d ≡ moves_body b)
unfolding read_body may_move moves_body
body_moves first none body d e = none≢some e
body_moves first (some (of_entry fields)) body d e =
    some_then (read_entry reference first fields body) (λ x bytes. some (define x, bytes)) (d, []) e λ x rest _ q.
    (of_entry fields, refl, ap (λ (r : Definition (List ℕ) × List ℕ). may_move r.0) (sym (some_inj q)))
body_moves first (some (of_name kind)) body d e =
    some_then (short_name body) (λ s. reference kind >>>= λ r. return (named kind s r)) (d, []) e λ s bytes _ p.
    some_then (reference kind bytes) (λ r. return (named kind s r)) (d, []) p λ r rest _ q.
    (of_name kind, refl, ap (λ (r : Definition (List ℕ) × List ℕ). may_move r.0) (sym (some_inj q)))
body_moves first (some (of_raw kind)) body d e =
    some_then (two body) (λ at. two >>>= λ number. return (placed kind at number)) (d, []) e λ at bytes _ p.
    some_then (two bytes) (λ number. return (placed kind at number)) (d, []) p λ number rest _ q.
    (of_raw kind, refl, ap (λ (r : Definition (List ℕ) × List ℕ). may_move r.0) (sym (some_inj q)))
body_moves first (some of_expression) body d e =
    some_then (read_expression body) (λ x. return (define (worked_out (folded x)))) (d, []) e λ x rest _ q.
    (of_expression, refl, ap (λ (r : Definition (List ℕ) × List ℕ). may_move r.0) (sym (some_inj q)))
body_moves first (some (of_number rule)) body d e =
    some_then (two body) (λ n. return (setting (rule n))) (d, []) e λ n rest _ q.
    (of_number rule, refl, ap (λ (r : Definition (List ℕ) × List ℕ). may_move r.0) (sym (some_inj q)))
body_moves first (some (of_nothing rule)) body d e = (of_nothing rule, refl, ap (λ (r : Definition (List ℕ) × List ℕ). may_move r.0) (sym (some_inj e)))

pub record_moves : (r : List ℕ) → IsRecord r → may_move (definition_of r) ≡ moves r
unfolding read_record read_definition moves
record_moves [] (d, e) = none≢some e
record_moves (first ∷ body) (d, e) =
    let (b, at, is) = body_moves first (lookup first bodies) body d e in
    let table = lookup-every (λ (row : ℕ × Body). agrees (moves_body row.1) (moves (row.0 ∷ []))) bodies bodies-agree first b at in
    ap may_move (reads_as (first ∷ body) d e) ∙ is ∙ agree (moves_body b) (moves (first ∷ [])) table
