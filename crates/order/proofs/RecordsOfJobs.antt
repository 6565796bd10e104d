-- A job that the form pass lets through is a row of records, then 50 and a rest, and is so in one way. Assumes nothing.
use mathlib.Core.Bool.{Bool, true, false}
use mathlib.Core.List.{List, [], ◌∷◌, ◌++◌, append_assoc}
use mathlib.Core.Path.{◌≡◌, refl, ap, sym, ◌∙◌}
use Prim.Native.Nat.{ℕ, zero, suc}
use native.Mathlib.Omega.{arith}
use lib.Dec.{eqb}
use lib.ListN.{length, take, length-append}
use lib.Seq.{take-append_seam}
use borrow.Author.Tests.{eqb-true, eq-eqb}
use Rattle.definition.specs.Basics.{good, concat}
use Rattle.definition.specs.Job.{Definition, Job, read_definition}
use Rattle.definition.specs.Form.{Counts, counted, Definitions, form_definitions, form}
use Rattle.facts.specs.Lists.{Among}
use Rattle.facts.proofs.Lists.{none≢some, some_inj, true≢false}
use Rattle.facts.proofs.Each.{Each, each_at, each_from}
use Rattle.facts.proofs.Results.{bad≢good}
use Rattle.order.specs.OrderStatement.{read_record, IsRecord, job_of, WellFormed}
use Rattle.order.proofs.ParsersTake.{definition_extends, definition_cuts}
use Rattle.order.proofs.FormOfRecords.{not_end}
use Rattle.laws.proofs.Form.DefinitionsRead.{no_entries, formed_definitions, formed_read, formed_end, formed_step}

-- records, then 50 and a rest
abbrev Row : List ℕ → List ℕ → Type 0
Row bytes rest = (rs : List (List ℕ)) × (bytes ≡ job_of rs rest) × Each IsRecord rs

definitions_row : (fuel : ℕ) (n : Counts) (place : ℕ) (bytes : List ℕ) (d : Definitions) → form_definitions fuel n place bytes ≡ good d → Row bytes d.rest
unfolding form_definitions concat read_record
definitions_row zero n place [] d e = bad≢good e
definitions_row zero n place (first ∷ bytes) d e = bad≢good e
definitions_row (suc fuel) n place [] d e = bad≢good e
definitions_row (suc fuel) n place (first ∷ bytes) d e = ways (eqb first 0x50) refl (definitions_row fuel)
  where
    ways :
        (b : Bool) →
        eqb first 0x50 ≡ b →
        ((n : Counts) (place : ℕ) (bytes : List ℕ) (d : Definitions) → form_definitions fuel n place bytes ≡ good d → Row bytes d.rest) →
        Row (first ∷ bytes) d.rest
    ways true s rest =
        let h = formed_end fuel n place first bytes d s e in
        let p = eqb-true first 0x50 s in
        let left : bytes ≡ d.rest = ap (λ (d : Definitions). d.rest) (sym h) in
        ([], (λ i. p i ∷ left i), tt)
    ways false s rest =
        let (r, d', formed, others, is) = formed_step fuel n place first bytes d s e in
        let (taken, split, read) = definition_cuts first bytes r.1 r.0 (formed_read n first bytes r formed) in
        let (rs, row, each) = rest (counted r.0 n) (suc place) r.1 d' others in
        let same : d'.rest ≡ d.rest = ap (λ (d : Definitions). d.rest) (sym is) in
        let all : bytes ≡ (taken ++ concat rs) ++ 0x50 ∷ d.rest =
        split ∙ ap (λ l. taken ++ l) (row ∙ ap (λ l. concat rs ++ 0x50 ∷ l) same) ∙ sym (append_assoc taken (concat rs) (0x50 ∷ d.rest)) in
        ((first ∷ taken) ∷ rs, ap (λ l. first ∷ l) all, ((r.0, read), each))

-- so what is promised of rows of records is promised of every such job
pub job_in_records :
    (bytes : List ℕ) (job : Job (List ℕ)) →
    form bytes ≡ good job →
    (rs : List (List ℕ)) × (rest : List ℕ) × (bytes ≡ job_of rs rest) × ((r : List ℕ) → Among r rs → IsRecord r)
job_in_records bytes job e =
    let (d, formed, _) = formed_definitions bytes job e in
    let (rs, row, each) = definitions_row (length bytes) no_entries 0 bytes d formed in
    (rs, d.rest, row, λ r at. each_at IsRecord rs at.0 r each at.1)

-- 50 begins no record
never_50 : {C : Type 0} (first : ℕ) (body : List ℕ) → IsRecord (first ∷ body) → 0x50 ≡ first → C
unfolding read_record
never_50 first body (d, e) same = true≢false (sym (eq-eqb first 0x50 (sym same)) ∙ not_end first body d e)

row_once :
    (rs rs' : List (List ℕ)) (rest rest' : List ℕ) → Each IsRecord rs → Each IsRecord rs' → job_of rs rest ≡ job_of rs' rest' → (rs ≡ rs') × (rest ≡ rest')
unfolding concat read_record
row_once [] [] rest rest' each each' e =
    let here : 0x50 ∷ rest ≡ 0x50 ∷ rest' = e in
    (refl, cc)
row_once [] ([] ∷ rs') rest rest' each each' e = none≢some each'.0.1
row_once ([] ∷ rs) rs' rest rest' each each' e = none≢some each.0.1
row_once [] ((first ∷ body) ∷ rs') rest rest' each each' e =
    let here : 0x50 ∷ rest ≡ first ∷ (body ++ concat rs') ++ 0x50 ∷ rest' = e in
    never_50 first body each'.0 (cc)
row_once ((first ∷ body) ∷ rs) [] rest rest' each each' e =
    let here : first ∷ (body ++ concat rs) ++ 0x50 ∷ rest ≡ 0x50 ∷ rest' = e in
    never_50 first body each.0 (cc)
row_once ((first ∷ body) ∷ rs) ([] ∷ rs') rest rest' each each' e = none≢some each'.0.1
row_once ((first ∷ body) ∷ rs) ((first' ∷ body') ∷ rs') rest rest' each each' e =
    let here : first ∷ (body ++ concat rs) ++ 0x50 ∷ rest ≡ first' ∷ (body' ++ concat rs') ++ 0x50 ∷ rest' = e in
    let heads : first ≡ first' = cc in
    let behind : (body ++ concat rs) ++ 0x50 ∷ rest ≡ (body' ++ concat rs') ++ 0x50 ∷ rest' = cc in
    let tails : body ++ job_of rs rest ≡ body' ++ job_of rs' rest' =
    sym (append_assoc body (concat rs) (0x50 ∷ rest)) ∙ behind ∙ append_assoc body' (concat rs') (0x50 ∷ rest') in
    let read = definition_extends first body (job_of rs rest) each.0.0 each.0.1 in
    let read' = definition_extends first' body' (job_of rs' rest') each'.0.0 each'.0.1 in
    let left : job_of rs rest ≡ job_of rs' rest' =
    ap (λ (r : Definition (List ℕ) × List ℕ). r.1) (some_inj (sym read ∙ (λ i. read_definition (heads i) (tails i)) ∙ read')) in
    let many : length body ≡ length body' =
    let a = length-append body (job_of rs rest) in
    let b = length-append body' (job_of rs' rest') in
    let c = ap (λ (l : List ℕ). length l) tails in
    let d = ap (λ (l : List ℕ). length l) left in
    omega arith in
    let same : body ≡ body' = sym (take-append_seam body (job_of rs rest)) ∙ (λ i. take (many i) (tails i)) ∙ take-append_seam body' (job_of rs' rest') in
    let (others, ends) = row_once rs rs' rest rest' each.1 each'.1 left in
    ((λ i. (heads i ∷ same i) ∷ others i), ends)

-- in one way
pub one_row :
    (rs rs' : List (List ℕ)) (rest rest' : List ℕ) →
    ((r : List ℕ) → Among r rs → IsRecord r) →
    ((r : List ℕ) → Among r rs' → IsRecord r) →
    job_of rs rest ≡ job_of rs' rest' →
    (rs ≡ rs') × (rest ≡ rest')
one_row rs rs' rest rest' records records' e =
    row_once rs rs' rest rest' (each_from IsRecord rs (λ i r at. records r (i, at))) (each_from IsRecord rs' (λ i r at. records' r (i, at))) e

-- and such a job is well formed
pub formed_well : (bytes : List ℕ) (job : Job (List ℕ)) → form bytes ≡ good job → WellFormed bytes
formed_well bytes job e r refused = bad≢good (sym refused ∙ e)
