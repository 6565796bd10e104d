-- The definition's run over a job's definitions, one by one, and what they count. Assumes nothing.
use mathlib.Core.Bool.{Bool, true, false}
use mathlib.Core.List.{List, [], ◌∷◌, ◌++◌, append-nil}
use mathlib.Core.Option.{Option, none, some}
use mathlib.Core.Path.{◌≡◌, refl, ap, ◌∙◌}
use Prim.Native.Nat.{ℕ, zero, suc, ◌+◌, ◌≤◌, ◌<◌}
use native.Mathlib.Omega.{arith}
use lib.ListN.{length, get_elem?, drop, length-append}
use Rattle.definition.specs.Basics.{Result, good, bad, ◌>>=◌, at_record, unless, only, insert}
use Rattle.definition.specs.Settings.{Setting}
use Rattle.definition.specs.Shapes.{Kind, constant, bootstrap, Entry, is_wide, with_literal}
use Rattle.definition.specs.Job.{Reference, Definition, define, named, placed, setting}
use Rattle.definition.specs.Form.{kind_of}
use Rattle.definition.specs.Numbering.{constants_of, bootstraps_of, literals, numbered_entry, numbered_definition, numbered}
use Rattle.definition.specs.Definitions.{Held, Naming, Defined, is_none, name_target, tag_at, hold, place_constant, place_bootstrap, with_setting, define_one, define_all, same_kind_lem}
use Rattle.facts.proofs.Lists.{map_at, found_append, found_seam, inside_found}
use Rattle.laws.proofs.Numbering.NumberedCited.{constants_numbered_lem}
use Rattle.job.specs.Forms.{kids_in, references_in, is_placing, counts_of}
use Rattle.store.specs.JobIn.{job_in, definitions_in, counts_in, table_of, namings_of, namings_in, constants_in, entries_in}
use Rattle.store.specs.Regions.{raws_of}
use Rattle.raws.specs.Raws.{outcome}
use Rattle.definitions.specs.Defining.{done_in, records_in, defined_from, defined_in}
use Rattle.definitions.proofs.Prefixes.{take_next, take-drop, drop-next, only-append, constants_append, bootstraps_append, references-append, namings-append, first_constant, first_bootstrap, kind-told, none-entered, no_entry, no_constants}

-- THE RUN

module _ (top : ℕ) (s : List ℕ) (k : ℕ) (x : Definition (List ℕ)) (turn : get_elem? (definitions_in s) k ≡ some x) where
  record_at : get_elem? (records_in s) k ≡ some (numbered_definition (literals (job_in s)) x)
  unfolding records_in numbered definitions_in
  record_at = map_at (numbered_definition (literals (job_in s))) (job_in s).definitions k x turn

  abbrev One : Defined → Result ℕ Defined
  One d = define_one top (constants_of (records_in s)) (numbered_definition (literals (job_in s)) x) d

  module _ (d : Defined) (sofar : defined_in top s ≡ defined_from top s k d) where
    one_more : defined_in top s ≡ (at_record k (One d) >>= λ d'. defined_from top s (suc k) d')
    unfolding define_all
    one_more = sofar ∙ rw (drop-next (records_in s) k (numbered_definition (literals (job_in s)) x) record_at)

    pub passes : (d' : Defined) → One d ≡ good d' → defined_in top s ≡ defined_from top s (suc k) d'
    unfolding at_record
    passes d' e = one_more ∙ ap (λ r. at_record k r >>= λ d'. defined_from top s (suc k) d') e

    pub refuses : (code : ℕ) → One d ≡ bad code → defined_in top s ≡ bad (record { code = code; place = k })
    unfolding at_record
    refuses code e = one_more ∙ ap (λ r. at_record k r >>= λ d'. defined_from top s (suc k) d') e

-- what one definition does
module _ (top : ℕ) (s : List ℕ) (d : Defined) where
  pub one_entry : (x : Entry (List ℕ) Reference) → define_one top (constants_of (records_in s)) (numbered_definition (literals (job_in s)) (define x)) d ≡ good d
  unfolding define_one numbered_definition
  one_entry x = refl

  pub one_setting_lem : (rule : Setting) → define_one top (constants_of (records_in s)) (numbered_definition (literals (job_in s)) (setting rule)) d ≡ good (with_setting rule d)
  unfolding define_one numbered_definition
  one_setting_lem rule = refl

  module _ (kind : Kind) (l : List ℕ) (r : Reference) where
    pub one_name : is_none (name_target kind l d.names) ≡ true → define_one top (constants_of (records_in s)) (numbered_definition (literals (job_in s)) (named kind l r)) d ≡ good (record { held = d.held; indexes = d.indexes; names = d.names ++ record { kind = kind; label = l; target = r } ∷ []; version = d.version })
    unfolding define_one numbered_definition unless
    one_name e = ap (λ b. unless b 11 >>= λ _. good (record { held = d.held; indexes = d.indexes; names = d.names ++ record { kind = kind; label = l; target = r } ∷ []; version = d.version })) e

    pub one-old : is_none (name_target kind l d.names) ≡ false → define_one top (constants_of (records_in s)) (numbered_definition (literals (job_in s)) (named kind l r)) d ≡ bad 11
    unfolding define_one numbered_definition unless
    one-old e = ap (λ b. unless b 11 >>= λ _. good (record { held = d.held; indexes = d.indexes; names = d.names ++ record { kind = kind; label = l; target = r } ∷ []; version = d.version })) e

  abbrev with_held : List (ℕ × Held) → Result ℕ Defined
  with_held held = good (record { held = held; indexes = d.indexes; names = d.names; version = d.version })

  abbrev with_indexes : List (ℕ × ℕ) → Result ℕ Defined
  with_indexes indexes = good (record { held = d.held; indexes = indexes; names = d.names; version = d.version })

  module _ (n e code : ℕ) where
    pub one-constant : (wide : Bool) → is_wide (tag_at (constants_of (records_in s)) e) ≡ wide → place_constant top wide n e d.held ≡ outcome code (hold wide n e d.held) → define_one top (constants_of (records_in s)) (numbered_definition (literals (job_in s)) (placed constant n e)) d ≡ outcome code (record { held = hold wide n e d.held; indexes = d.indexes; names = d.names; version = d.version })
    unfolding define_one numbered_definition outcome
    one-constant wide w g = ap (λ b. place_constant top b n e d.held >>= with_held) w ∙ ap (λ r. r >>= with_held) g ∙ ways code
      where
        ways : (c : ℕ) → (outcome c (hold wide n e d.held) >>= with_held) ≡ outcome c (record { held = hold wide n e d.held; indexes = d.indexes; names = d.names; version = d.version })
        ways zero = refl
        ways (suc c) = refl

    pub one-bootstrap : place_bootstrap n e d.indexes ≡ outcome code (insert n e d.indexes) → define_one top (constants_of (records_in s)) (numbered_definition (literals (job_in s)) (placed bootstrap n e)) d ≡ outcome code (record { held = d.held; indexes = insert n e d.indexes; names = d.names; version = d.version })
    unfolding define_one numbered_definition outcome
    one-bootstrap g = ap (λ r. r >>= with_indexes) g ∙ ways code
      where
        ways : (c : ℕ) → (outcome c (insert n e d.indexes) >>= with_indexes) ≡ outcome c (record { held = d.held; indexes = insert n e d.indexes; names = d.names; version = d.version })
        ways zero = refl
        ways (suc c) = refl

-- the tag of a constant
pub tag_of : (s : List ℕ) (e : ℕ) (y : Entry (List ℕ) Reference) → get_elem? (constants_of (definitions_in s)) e ≡ some y → tag_at (constants_of (records_in s)) e ≡ y.tag
unfolding records_in definitions_in tag_at numbered_entry with_literal
tag_of s e y h =
    let g = ap (λ l. get_elem? l e) (constants_numbered_lem (job_in s)) ∙ map_at (numbered_entry (literals (job_in s))) (constants_of (job_in s).definitions) e y h in
    ap (λ (o : Option (Entry ℕ Reference)). elim o [ none ↦ 0 | some z ↦ z.tag ]) g

-- COUNTS

module _ (s : List ℕ) (k : ℕ) where
  pub constants_split : constants_of (definitions_in s) ≡ constants_of (done_in s k) ++ constants_of (drop k (definitions_in s))
  constants_split = ap constants_of (take-drop (definitions_in s) k) ∙ constants_append (done_in s k) (drop k (definitions_in s))

  pub bootstraps_split : bootstraps_of (definitions_in s) ≡ bootstraps_of (done_in s k) ++ bootstraps_of (drop k (definitions_in s))
  bootstraps_split = ap bootstraps_of (take-drop (definitions_in s) k) ∙ bootstraps_append (done_in s k) (drop k (definitions_in s))

  pub few_constants : length (constants_of (done_in s k)) ≤ constants_in s
  few_constants = omega (arith, ap length constants_split, length-append (constants_of (done_in s k)) (constants_of (drop k (definitions_in s))))

  -- a constant that was entered is one of the job's
  pub earlier_constant : (e : ℕ) → e < length (constants_of (done_in s k)) → (y : Entry (List ℕ) Reference) × (get_elem? (constants_of (done_in s k)) e ≡ some y) × (get_elem? (constants_of (definitions_in s)) e ≡ some y)
  earlier_constant e h =
      let g = inside_found (constants_of (done_in s k)) e h in
      (g.0, g.1, rw constants_split (found_append (constants_of (done_in s k)) (constants_of (drop k (definitions_in s))) e g.0 g.1))

  module _ (x : Definition (List ℕ)) (turn : get_elem? (definitions_in s) k ≡ some x) where
    next-done : done_in s (suc k) ≡ done_in s k ++ x ∷ []
    next-done = take_next (definitions_in s) k x turn

    rest_here : drop k (definitions_in s) ≡ x ∷ drop (suc k) (definitions_in s)
    rest_here = drop-next (definitions_in s) k x turn

    pub references-next : references_in (done_in s (suc k)) ≡ references_in (done_in s k) + kids_in x
    unfolding references_in
    references-next = ap references_in next-done ∙ references-append (done_in s k) (x ∷ []) ∙ omega arith

    pub references-room : references_in (done_in s k) + kids_in x ≤ (counts_in s).references
    unfolding counts_in counts_of references_in
    references-room =
        let g = ap references_in (take-drop (definitions_in s) k) ∙ references-append (done_in s k) (drop k (definitions_in s)) in
        omega (arith, g, ap references_in rest_here)

    placing_next : (kind : Kind) → length (only (is_placing kind) (done_in s (suc k))) ≡ length (only (is_placing kind) (done_in s k)) + length (only (is_placing kind) (x ∷ []))
    placing_next kind = ap (λ l. length (only (is_placing kind) l)) next-done ∙ ap length (only-append (is_placing kind) (done_in s k) (x ∷ [])) ∙ length-append (only (is_placing kind) (done_in s k)) (only (is_placing kind) (x ∷ []))

    placing_room : (kind : Kind) → length (only (is_placing kind) (done_in s (suc k))) ≤ length (only (is_placing kind) (definitions_in s))
    placing_room kind =
        let g = ap (λ l. length (only (is_placing kind) l)) (take-drop (definitions_in s) (suc k)) ∙ ap length (only-append (is_placing kind) (done_in s (suc k)) (drop (suc k) (definitions_in s))) ∙ length-append (only (is_placing kind) (done_in s (suc k))) (only (is_placing kind) (drop (suc k) (definitions_in s))) in
        omega (arith, g)

    pub raws_next : raws_of (counts_of (done_in s (suc k)) 0) ≡ raws_of (counts_of (done_in s k) 0) + raws_of (counts_of (x ∷ []) 0)
    unfolding counts_of
    raws_next = omega (arith, placing_next constant, placing_next bootstrap)

    pub raws_room : raws_of (counts_of (done_in s (suc k)) 0) ≤ raws_of (counts_in s)
    unfolding counts_of counts_in
    raws_room = omega (arith, placing_room constant, placing_room bootstrap)

  -- an entry more
  module _ (x : Entry (List ℕ) Reference) (turn : get_elem? (definitions_in s) k ≡ some (define x)) where
    constants_next : constants_of (done_in s (suc k)) ≡ constants_of (done_in s k) ++ constants_of (define x ∷ [])
    constants_next = ap constants_of (next-done (define x) turn) ∙ constants_append (done_in s k) (define x ∷ [])

    bootstraps_next : bootstraps_of (done_in s (suc k)) ≡ bootstraps_of (done_in s k) ++ bootstraps_of (define x ∷ [])
    bootstraps_next = ap bootstraps_of (next-done (define x) turn) ∙ bootstraps_append (done_in s k) (define x ∷ [])

    -- how many there are then
    pub counts_constant : kind_of x.tag ≡ constant → (length (constants_of (done_in s (suc k))) ≡ length (constants_of (done_in s k)) + 1) × (length (bootstraps_of (done_in s (suc k))) ≡ length (bootstraps_of (done_in s k)))
    unfolding same_kind_lem
    counts_constant h =
        let f = first_constant x [] (kind-told x constant h) in (
          ap length (constants_next ∙ ap (λ l. constants_of (done_in s k) ++ l) (f.0 ∙ ap (λ l. x ∷ l) no_constants.0)) ∙ length-append (constants_of (done_in s k)) (x ∷ []),
          ap length (bootstraps_next ∙ ap (λ l. bootstraps_of (done_in s k) ++ l) (f.1 ∙ no_constants.1) ∙ append-nil (bootstraps_of (done_in s k))),
        )

    pub counts_bootstrap : kind_of x.tag ≡ bootstrap → (length (constants_of (done_in s (suc k))) ≡ length (constants_of (done_in s k))) × (length (bootstraps_of (done_in s (suc k))) ≡ length (bootstraps_of (done_in s k)) + 1)
    unfolding same_kind_lem
    counts_bootstrap h =
        let f = first_bootstrap x [] (kind-told x bootstrap h) in (
          ap length (constants_next ∙ ap (λ l. constants_of (done_in s k) ++ l) (f.0 ∙ no_constants.0) ∙ append-nil (constants_of (done_in s k))),
          ap length (bootstraps_next ∙ ap (λ l. bootstraps_of (done_in s k) ++ l) (f.1 ∙ ap (λ l. x ∷ l) no_constants.1)) ∙ length-append (bootstraps_of (done_in s k)) (x ∷ []),
        )

-- a record that is no entry
pub counts_other :
    (s : List ℕ) (k : ℕ) (x : Definition (List ℕ)) → get_elem? (definitions_in s) k ≡ some x → no_entry x ≡ true →
    (length (constants_of (done_in s (suc k))) ≡ length (constants_of (done_in s k)))
    × (length (bootstraps_of (done_in s (suc k))) ≡ length (bootstraps_of (done_in s k)))
    × (references_in (done_in s (suc k)) ≡ references_in (done_in s k))
counts_other s k x turn h =
    let n = none-entered x [] h in (
      ap (λ l. length (constants_of l)) (next-done s k x turn) ∙ ap length (constants_append (done_in s k) (x ∷ []) ∙ ap (λ l. constants_of (done_in s k) ++ l) (n.0 ∙ no_constants.0) ∙ append-nil (constants_of (done_in s k))),
      ap (λ l. length (bootstraps_of l)) (next-done s k x turn) ∙ ap length (bootstraps_append (done_in s k) (x ∷ []) ∙ ap (λ l. bootstraps_of (done_in s k) ++ l) (n.1 ∙ no_constants.1) ∙ append-nil (bootstraps_of (done_in s k))),
      ap references_in (next-done s k x turn) ∙ references-append (done_in s k) (x ∷ []) ∙ omega (arith, n.2, no_constants.2),
    )

pub few_bootstraps : (s : List ℕ) (k : ℕ) → length (bootstraps_of (done_in s k)) + constants_in s ≤ entries_in s
unfolding table_of
few_bootstraps s k =
    omega (
      arith,
      ap length (bootstraps_split s k),
      length-append (bootstraps_of (done_in s k)) (bootstraps_of (drop k (definitions_in s))),
      length-append (constants_of (definitions_in s)) (bootstraps_of (definitions_in s)),
    )

-- a name more
module _ (s : List ℕ) (k : ℕ) (kind : Kind) (l : List ℕ) (r : Reference) (turn : get_elem? (definitions_in s) k ≡ some (named kind l r)) where
  abbrev NamingOf : Naming
  NamingOf = record { kind = kind; label = l; target = r }

  namings-split : namings_in s ≡ namings_of (done_in s k) ++ (NamingOf ∷ namings_of (drop (suc k) (definitions_in s)))
  unfolding namings_of
  namings-split = ap namings_of (take-drop (definitions_in s) k) ∙ namings-append (done_in s k) (drop k (definitions_in s)) ∙ ap (λ m. namings_of (done_in s k) ++ namings_of m) (rest_here s k (named kind l r) turn)

  pub name_here : get_elem? (namings_in s) (length (namings_of (done_in s k))) ≡ some NamingOf
  name_here = ap (λ m. get_elem? m (length (namings_of (done_in s k)))) namings-split ∙ found_seam (namings_of (done_in s k)) NamingOf (namings_of (drop (suc k) (definitions_in s)))

  pub names_next : length (namings_of (done_in s (suc k))) ≡ length (namings_of (done_in s k)) + 1
  unfolding namings_of
  names_next = ap (λ m. length (namings_of m)) (next-done s k (named kind l r) turn) ∙ ap length (namings-append (done_in s k) (named kind l r ∷ [])) ∙ length-append (namings_of (done_in s k)) (NamingOf ∷ [])

-- another record
unfoldable pub no_name_lem : Definition (List ℕ) → Bool
no_name_lem (define e) = true
no_name_lem (named kind s r) = false
no_name_lem (placed kind at n) = true
no_name_lem (setting rule) = true

pub names_same : (s : List ℕ) (k : ℕ) (x : Definition (List ℕ)) → get_elem? (definitions_in s) k ≡ some x → no_name_lem x ≡ true → length (namings_of (done_in s (suc k))) ≡ length (namings_of (done_in s k))
unfolding no_name_lem namings_of
names_same s k x turn h = ap (λ m. length (namings_of m)) (next-done s k x turn) ∙ ap length (namings-append (done_in s k) (x ∷ [])) ∙ ap length (none_named x h) ∙ ap length (append-nil (namings_of (done_in s k)))
  where
    none_named : (x : Definition (List ℕ)) → no_name_lem x ≡ true → namings_of (done_in s k) ++ namings_of (x ∷ []) ≡ namings_of (done_in s k) ++ []
    none_named (define e) h = refl
    none_named (named kind l r) h = absurd (let z : ◌≡◌ {A = ℕ} 0 1 = cc in omega arith)
    none_named (placed kind at n) h = refl
    none_named (setting rule) h = refl
