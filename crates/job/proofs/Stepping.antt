-- One record of the form pass: what was skipped by its first byte is what the definition reads, and counts as the byte says. Assumes nothing.
use Rattle.std.specs.Prelude as std
use Rattle.std.specs.Prelude.{Some, None}
use mathlib.Core.Bool.{Bool, true, false}
use mathlib.Core.List.{List, [], ◌∷◌}
use mathlib.Core.Option.{Option, none, some}
use mathlib.Core.Path.{◌≡◌, refl, sym, ap, ◌∙◌}
use Prim.Native.Nat.{ℕ, zero, suc, ◌+◌}
use native.Mathlib.Omega.{arith}
use lib.Dec.{eqb}
use lib.ListN.{get_or, drop}
use Rattle.laws.proofs.Form.EmptyLiterals.{fields_keep}
use Rattle.facts.proofs.Lists.{clash, true≢false, some_inj}
use Rattle.facts.proofs.Results.{some_then}
use Rattle.definition.specs.Basics.{Result, good, bad, ◌>>=◌, unless, every, only}
use Rattle.definition.specs.Expression as expressions
use Rattle.definition.specs.Expression.{read_expression}
use Rattle.definition.specs.Value.{folded}
use Rattle.definition.specs.Bytes.{return, and_then, two}
use Rattle.definition.specs.Settings.{Setting, version, texts, highest, is_slot}
use Rattle.definition.specs.Shapes.{Kind, constant, bootstrap, Field, bootstrap_shape, Entry, read_entry}
use Rattle.definition.specs.Job.{Reference, Definition, define, named, placed, setting, of_entry, of_name, of_raw, of_expression, of_number, of_nothing, worked_out, short_name, reference, read_body, read_definition}
use Rattle.definition.specs.Form.{Counts, count_of, kind_of, whole, may_stand, has_room, cites_earlier, comes_out, form_definition}
use Rattle.definition.specs.Definitions.{same_kind_lem}
use Rattle.definition.specs.Numbering.{entries, constants_of, bootstraps_of}
use Rattle.job.specs.declared.JobCounts.{JobCounts}
use Rattle.raw_const.specs.Entries.{fields_of}
use Rattle.raw_const.specs.declared.Shape.{Shape}
use Rattle.job.specs.declared.Opening.{Opening}
use Rattle.job.specs.declared.Opening.TheVariants.{Constant, Bootstrap, NamedConstant, NamedBootstrap, RawConstant, RawBootstrap, Version, Texts, Highest, Expression}
use Rattle.job.specs.Forms.{entry_body, Read, body_of, table_of, is_naming, is_placing, is_version, is_holding, is_plain, is_setting, number_in, references_in, kids_in, version_with, version_from, highest_with, highest_from, more, counted_as, Bounded, room_for, once_fault, highest_fault, setting_fault, tables_in, Moved}
use Rattle.job.proofs.Table.{Right}
use Rattle.job.proofs.Expressions.{no_expression, body_worked, comes_other, worked-table, worked-bare}
use Rattle.job.proofs.Faults.{fault_plain, counted-plain, room_setting, setting_no_plain}
use Rattle.job.proofs.Counting.{in_table, one-constant, one-bootstrap, bounded_one}

-- what was read is the value
value-is : {A : Type 0} {a b : A} {l m : List ℕ} → ◌≡◌ {A = Option (A × List ℕ)} (some (a, l)) (some (b, m)) → b ≡ a
value-is {A} {a} {b} {l} {m} h = let p : ◌≡◌ {A = A × List ℕ} (b, m) (a, l) = cc in ap (λ r. r.0) p

-- what a fault leads to
unfoldable pub passing : ℕ → Result ℕ (Unit {0})
passing zero = good tt
passing (suc fault) = bad (suc fault)

-- a setting's fault, then 5, then 4; else 0
unfoldable fault_behind : ℕ → Bool → Bool → ℕ
fault_behind zero room cited = elim room [ true ↦ elim cited [ true ↦ 0 | false ↦ 4 ] | false ↦ 5 ]
fault_behind (suc fault) room cited = suc fault

test_all :
    {A : Type 0} (fault : ℕ) (room cited : Bool) (out : Result ℕ (Unit {0})) (a : A) →
    (passing fault >>= λ _. unless room 5 >>= λ _. unless cited 4 >>= λ _. out >>= λ _. good a)
    ≡ (passing (fault_behind fault room cited) >>= λ _. out >>= λ _. good a)
unfolding passing fault_behind unless
test_all zero true true out a = refl
test_all zero true false out a = refl
test_all zero false cited out a = refl
test_all (suc fault) room cited out a = refl

alone : (fault : ℕ) → fault_behind fault true true ≡ fault
unfolding fault_behind
alone zero = refl
alone (suc fault) = refl

once_stands : (b : Bool) → unless b 3 ≡ passing (elim b [ true ↦ 0 | false ↦ 3 ])
unfolding unless passing
once_stands true = refl
once_stands false = refl

highest_stands : (b t : Bool) → (unless b 3 >>= λ _. unless t 26) ≡ passing (elim b [ true ↦ elim t [ true ↦ 0 | false ↦ 26 ] | false ↦ 3 ])
unfolding unless passing
highest_stands true true = refl
highest_stands true false = refl
highest_stands false t = refl

-- what a definition so opened is: where it may stand, what it counts, and whether there is room for it
pub record Fits (opening : Opening) (d : Definition (List ℕ)) : Type 0 where
  pub stands : (c : JobCounts) → may_stand (tables_in c) d ≡ passing (setting_fault opening (number_in d) c)
  pub room : (n : Counts) → has_room n d ≡ room_for opening n.constants n.bootstraps
  pub counts : (c : JobCounts) → counted_as opening (kids_in d) (number_in d) c ≡ more c (d ∷ []) 0
  pub bare : is_plain opening ≡ false → (n : Counts) → cites_earlier n d ≡ true

-- an entry has the tag that it was read from
pub entry_read :
    (first : ℕ) (fields : List Field) (l rest : List ℕ) (d : Definition (List ℕ)) →
    read_body first (some (of_entry fields)) l ≡ some (d, rest) →
    (e : Entry (List ℕ) Reference) × (d ≡ define e) × (e.tag ≡ first)
unfolding read_body read_entry
entry_read first fields l rest d h =
    some_then (read_entry reference first fields l) (λ e. return (define e)) (d, rest) h
    (λ e l₁ read h₁. (e, value-is h₁, (fields_keep reference fields (record { tag = first; literal = []; byte = 0; kids = [] }) l (e, l₁) read).0))

-- a name, and a raw constant or bootstrap
pub name_read :
    (first : ℕ) (kind : Kind) (l rest : List ℕ) (d : Definition (List ℕ)) →
    read_body first (some (of_name kind)) l ≡ some (d, rest) →
    (s : List ℕ) × (r : Reference) × (d ≡ named kind s r)
unfolding read_body
name_read first kind l rest d h =
    some_then (short_name l) (λ s bytes. and_then (reference kind bytes) (λ r. return (named kind s r))) (d, rest) h
    (λ s l₁ _ h₁.
    some_then (reference kind l₁) (λ r. return (named kind s r)) (d, rest) h₁
    (λ r l₂ _ h₂. (s, r, value-is h₂)))

pub raw_read :
    (first : ℕ) (kind : Kind) (l rest : List ℕ) (d : Definition (List ℕ)) →
    read_body first (some (of_raw kind)) l ≡ some (d, rest) →
    (at : ℕ) × (number : ℕ) × (d ≡ placed kind at number)
unfolding read_body
raw_read first kind l rest d h =
    some_then (two l) (λ at bytes. and_then (two bytes) (λ number. return (placed kind at number))) (d, rest) h
    (λ at l₁ _ h₁.
    some_then (two l₁) (λ number. return (placed kind at number)) (d, rest) h₁
    (λ number l₂ _ h₂. (at, number, value-is h₂)))

pub setting_read :
    (first : ℕ) (rule : ℕ → Setting) (l rest : List ℕ) (d : Definition (List ℕ)) →
    read_body first (some (of_number rule)) l ≡ some (d, rest) →
    (number : ℕ) × (d ≡ setting (rule number))
unfolding read_body
setting_read first rule l rest d h =
    some_then (two l) (λ number. return (setting (rule number))) (d, rest) h
    (λ number l₁ _ h₁. (number, value-is h₁))

pub bare_read :
    (first : ℕ) (rule : Setting) (l rest : List ℕ) (d : Definition (List ℕ)) →
    read_body first (some (of_nothing rule)) l ≡ some (d, rest) →
    d ≡ setting rule
unfolding read_body
bare_read first rule l rest d h = value-is h

pub worked-read :
    (first : ℕ) (l rest : List ℕ) (d : Definition (List ℕ)) →
    read_body first (some of_expression) l ≡ some (d, rest) →
    (x : Option expressions.Expression) × (read_expression l ≡ some (x, rest)) × (d ≡ define (worked_out (folded x)))
unfolding read_body
worked-read first l rest d h =
    some_then (read_expression l) (λ x. return (define (worked_out (folded x)))) (d, rest) h
    (λ x l₁ read h₁. (x, read ∙ ap (λ k. some (x, k)) (ap (λ r. r.1) (some_inj h₁)), value-is h₁))

module _ (first : ℕ) (l rest : List ℕ) (d : Definition (List ℕ)) where
  fits-constant : (shape : std.Option Shape) (fields : Option (List Field)) → constant ≡ kind_of first → read_body first (entry_body fields) l ≡ some (d, rest) → Fits (Constant shape) d
  unfolding entry_body read_body may_stand setting_fault passing has_room room_for counted_as kids_in count_of is_plain same_kind_lem
  fits-constant shape none t h = clash (cc)
  fits-constant shape (some fields) t h =
      let r = entry_read first fields l rest d h in
      let k : kind_of r.0.tag ≡ constant = ap kind_of r.2 ∙ sym t in
      rw r.1 (record { stands = λ c. refl; room = λ n. rw k; counts = λ c. sym (one-constant c r.0 (in_table r.0 constant k)); bare = λ t. true≢false t })

  pub fits-bootstrap : bootstrap ≡ kind_of first → read_body first (some (of_entry bootstrap_shape)) l ≡ some (d, rest) → Fits Bootstrap d
  unfolding may_stand setting_fault passing has_room room_for counted_as kids_in count_of is_plain same_kind_lem
  fits-bootstrap t h =
      let r = entry_read first bootstrap_shape l rest d h in
      let k : kind_of r.0.tag ≡ bootstrap = ap kind_of r.2 ∙ sym t in
      rw r.1 (record { stands = λ c. refl; room = λ n. rw k; counts = λ c. sym (one-bootstrap c r.0 (in_table r.0 bootstrap k)); bare = λ t. true≢false t })

  fits-worked : read_body first (some of_expression) l ≡ some (d, rest) → Fits Expression d
  unfolding may_stand setting_fault passing has_room room_for counted_as kids_in count_of cites_earlier same_kind_lem every
  fits-worked h =
      let r = worked-read first l rest d h in
      let e = worked_out (folded r.0) in
      let k = worked-table (folded r.0) in
      let none-cited = worked-bare (folded r.0) in
      rw r.2 (record { stands = λ c. refl; room = λ n. rw k; counts = λ c. sym (one-constant c e (in_table e constant k)); bare = λ t n. rw none-cited })

  pub fits : (opening : Opening) → table_of opening ≡ kind_of first → read_body first (body_of opening) l ≡ some (d, rest) → Fits opening d
  unfolding body_of table_of read_body may_stand setting_fault once_fault highest_fault passing has_room room_for counted_as number_in kids_in is_plain cites_earlier more constants_of bootstraps_of entries references_in only is_naming is_placing is_version is_holding version_from version_with highest_from highest_with same_kind_lem
  fits (Constant shape) t h = fits-constant shape (fields_of shape) t h
  fits Bootstrap t h = fits-bootstrap t h
  fits NamedConstant t h = rw (name_read first constant l rest d h).2 (record { stands = λ c. refl; room = λ n. refl; counts = λ c. refl; bare = λ t. true≢false t })
  fits NamedBootstrap t h = rw (name_read first bootstrap l rest d h).2 (record { stands = λ c. refl; room = λ n. refl; counts = λ c. refl; bare = λ t. true≢false t })
  fits RawConstant t h = rw (raw_read first constant l rest d h).2 (record { stands = λ c. refl; room = λ n. refl; counts = λ c. refl; bare = λ t. true≢false t })
  fits RawBootstrap t h = rw (raw_read first bootstrap l rest d h).2 (record { stands = λ c. refl; room = λ n. refl; counts = λ c. refl; bare = λ t. true≢false t })
  fits Version t h = rw (setting_read first version l rest d h).1 (record { stands = λ c. once_stands (eqb c.versions 0); room = λ n. refl; counts = λ c. refl; bare = λ t n. refl })
  fits Texts t h = rw (bare_read first texts l rest d h) (record { stands = λ c. once_stands (eqb c.texts 0); room = λ n. refl; counts = λ c. refl; bare = λ t n. refl })
  fits Highest t h =
      let r = setting_read first highest l rest d h in
      rw r.1 (record { stands = λ c. highest_stands (eqb c.definitions 0) (is_slot r.0); room = λ n. refl; counts = λ c. refl; bare = λ t n. refl })
  fits Expression t h = fits-worked h

-- ---- the step

module _ (c : JobCounts) (s : List ℕ) (at : ℕ) (opening : Opening) (right : Right (get_or s at 0) opening) where
  pub step_cut : read_body (get_or s at 0) (body_of opening) (drop (at + 1) s) ≡ none → form_definition (tables_in c) (get_or s at 0) (drop (at + 1) s) ≡ bad 3
  unfolding form_definition read_definition whole
  step_cut h = rw (← right.0, h)

  -- nothing but an expression has to come out
  other_comes : (body_of opening ≡ some of_expression → ⊥) → comes_out (get_or s at 0) (drop (at + 1) s) ≡ good tt
  other_comes n = comes_other (get_or s at 0) (drop (at + 1) s) (no_expression (get_or s at 0) opening right.0 n)

  pub plain_comes : is_plain opening ≡ true → comes_out (get_or s at 0) (drop (at + 1) s) ≡ good tt
  plain_comes h = other_comes λ e. true≢false (sym h ∙ (body_worked opening e).0)

  pub setting_comes : is_setting opening ≡ true → comes_out (get_or s at 0) (drop (at + 1) s) ≡ good tt
  setting_comes h = other_comes λ e. true≢false (sym h ∙ (body_worked opening e).1)

  module _ (next : ℕ) (cited : Bool) (references : ℕ) (v : Read (read_body (get_or s at 0) (body_of opening)) (cites_earlier (tables_in c)) kids_in s (at + 1) next cited references) where
    of_opening : Fits opening v.value
    of_opening = fits (get_or s at 0) (drop (at + 1) s) (drop next s) v.value opening right.1 v.read

    -- the tests are those of the opening
    step-tested :
        form_definition (tables_in c) (get_or s at 0) (drop (at + 1) s)
        ≡ (passing (fault_behind (setting_fault opening (number_in v.value) c) (room_for opening c.constants c.bootstraps) cited) >>= λ _.
        comes_out (get_or s at 0) (drop (at + 1) s) >>= λ _.
        good (v.value, drop next s))
    unfolding form_definition read_definition whole
    step-tested =
        rw (← right.0, v.read, of_opening.stands c, of_opening.room (tables_in c), ← v.cites)
        (test_all (setting_fault opening (number_in v.value) c) (room_for opening c.constants c.bootstraps) cited (comes_out (get_or s at 0) (drop (at + 1) s)) (v.value, drop next s))

    -- what was read, once no test fails
    step-moved :
        form_definition (tables_in c) (get_or s at 0) (drop (at + 1) s) ≡ good (v.value, drop next s) → Bounded at c →
        Moved (form_definition (tables_in c)) (λ d. d ∷ []) 0 s at c next (counted_as opening references (number_in v.value) c)
    step-moved e bounded =
        record {
          value = v.value;
          read = e;
          count = rw v.count (of_opening.counts c);
          past = omega arith;
          within = v.within;
          bounded = bounded_one opening c at references (number_in v.value) next bounded v.past;
        }

    -- settings and expressions cite nothing
    pub bare_cited : is_plain opening ≡ false → cited ≡ true
    bare_cited h = v.cites ∙ of_opening.bare h (tables_in c)

    -- what is no setting: 5, then 4, then what an expression comes to
    module _ (plain : is_setting opening ≡ false) where
      pub plain_full : room_for opening c.constants c.bootstraps ≡ false → form_definition (tables_in c) (get_or s at 0) (drop (at + 1) s) ≡ bad 5
      unfolding fault_behind passing
      plain_full full = step-tested ∙ rw (fault_plain opening (number_in v.value) c plain, full)

      module _ (free : room_for opening c.constants c.bootstraps ≡ true) where
        pub plain_missing : cited ≡ false → form_definition (tables_in c) (get_or s at 0) (drop (at + 1) s) ≡ bad 4
        unfolding fault_behind passing
        plain_missing missing = step-tested ∙ rw (fault_plain opening (number_in v.value) c plain, free, missing)

        module _ (there : cited ≡ true) where
          plain_passed :
              form_definition (tables_in c) (get_or s at 0) (drop (at + 1) s) ≡ (comes_out (get_or s at 0) (drop (at + 1) s) >>= λ _. good (v.value, drop next s))
          unfolding fault_behind passing
          plain_passed = step-tested ∙ rw (fault_plain opening (number_in v.value) c plain, free, there)

          pub plain_refused :
              (code : ℕ) → comes_out (get_or s at 0) (drop (at + 1) s) ≡ bad code → form_definition (tables_in c) (get_or s at 0) (drop (at + 1) s) ≡ bad code
          plain_refused code out = plain_passed ∙ rw out

          pub plain_to :
              comes_out (get_or s at 0) (drop (at + 1) s) ≡ good tt → Bounded at c →
              Moved (form_definition (tables_in c)) (λ d. d ∷ []) 0 s at c next (counted_as opening references 0 c)
          plain_to out bounded =
              rw (counted-plain opening references (number_in v.value) c plain)
              (step-moved (plain_passed ∙ rw out) bounded)

    -- a setting, with its fault
    module _ (set : is_setting opening ≡ true) (fault : ℕ) (told : fault ≡ setting_fault opening (number_in v.value) c) where
      setting_tested : form_definition (tables_in c) (get_or s at 0) (drop (at + 1) s) ≡ (passing fault >>= λ _. good (v.value, drop next s))
      setting_tested =
          step-tested
          ∙ rw (← told, room_setting opening c.constants c.bootstraps set, bare_cited (setting_no_plain opening set), alone fault, setting_comes set)

      pub setting_refused : (fault ≡ 0 → ⊥) → form_definition (tables_in c) (get_or s at 0) (drop (at + 1) s) ≡ bad fault
      unfolding passing
      setting_refused n = setting_tested ∙ ways fault n
        where
          ways : (k : ℕ) → (k ≡ 0 → ⊥) → ◌>>=◌ {B = Definition (List ℕ) × List ℕ} (passing k) (λ _. good (v.value, drop next s)) ≡ bad k
          ways zero n = absurd (n refl)
          ways (suc k) n = refl

      pub setting_to :
          fault ≡ 0 → Bounded at c →
          Moved (form_definition (tables_in c)) (λ d. d ∷ []) 0 s at c next (counted_as opening references (number_in v.value) c)
      unfolding passing
      setting_to z bounded = step-moved (setting_tested ∙ rw z) bounded
