-- The words of constants worked out, while definitions are read. Assumes nothing.
use mathlib.Core.List.{List}
use mathlib.Core.Logic.{◌⊎◌, ⊎_elim}
use mathlib.Core.Option.{some}
use mathlib.Core.Path.{◌≡◌, sym, ap, ◌∙◌}
use mathlib.Core.Bool.{true}
use Prim.Native.Nat.{ℕ, suc, ◌+◌, ◌/◌, ◌≤◌, ◌<◌}
use native.Mathlib.Omega.{arith}
use lib.ListN.{length, get_or, get_elem?, set}
use lib.Seq.{get_or-set_same, get_or-set_other}
use Rattle.definition.specs.Shapes.{Entry}
use Rattle.definition.specs.Job.{Reference, Definition, define}
use Rattle.definition.specs.Form.{kind_of}
use Rattle.definition.specs.Numbering.{constants_of}
use Rattle.definition.specs.Resolving.{place_of}
use Rattle.laws.specs.Counted.{count_in}
use Rattle.job.specs.Stored.{Found, any_definition}
use Rattle.store.specs.Store.{Store}
use Rattle.store.specs.JobIn.{definitions_in, constants_in}
use Rattle.store.specs.Regions.{OFFSETS, VALUES}
use Rattle.store.specs.Entries.{WordsAt}
use Rattle.store.proofs.Worked.{worked-past}
use Rattle.definitions.specs.Defining.{done_in, entered_at, ValuesIn}
use Rattle.definitions.proofs.Prefixes.{take_next, no_entry}
use Rattle.definitions.proofs.Entering.{entered_same, new_entry}

module _ (s : List ℕ) (k : ℕ) (t u : Store) (at : ℕ) (have : ValuesIn s t k at) where
  -- what is kept before a place stays
  pub values_as : u OFFSETS ≡ t OFFSETS → ((i : ℕ) → i < at / 3 → get_or (u VALUES) i 0 ≡ get_or (t VALUES) i 0) → ValuesIn s u k at
  values_as places same e x h =
      let v = have e x h in
      rw places (v.0, λ w y next f. rw (same (get_or (t OFFSETS) e 0 / 3) (omega (arith, v.0 w)), same (get_or (t OFFSETS) e 0 / 3 + 1) (omega (arith, v.0 w))) (v.1 w y next f))

  -- a record that is no entry
  pub values_skip :
      (d : Definition (List ℕ)) → get_elem? (definitions_in s) k ≡ some d → no_entry d ≡ true → (next : ℕ) → at ≤ next → u OFFSETS ≡ t OFFSETS → u VALUES ≡ t VALUES →
      ValuesIn s u (suc k) next
  values_skip d turn skip next low places values e x h =
      let v = have e x (sym (entered_same (constants_in s) (done_in s k) d skip e) ∙ ap (λ l. entered_at (constants_in s) l e) (sym (take_next (definitions_in s) k d turn)) ∙ h) in
      rw (places, values) (λ w. omega (arith, v.0 w), v.1)

  -- an entry
  pub values_more :
      (x : Entry (List ℕ) Reference) → get_elem? (definitions_in s) k ≡ some (define x) → length (constants_of (done_in s (suc k))) ≤ constants_in s →
      (next : ℕ) → Found any_definition s at (define x) next → (e : ℕ) → place_of (constants_in s) (kind_of x.tag) (count_in (kind_of x.tag) (done_in s k)) ≡ e →
      e < length (t OFFSETS) → u OFFSETS ≡ set (t OFFSETS) e at → u VALUES ≡ t VALUES → WordsAt s (t VALUES) at →
      ValuesIn s u (suc k) next
  values_more x turn few next found e new room places values words d y h =
      rw (places, values)
      (⊎_elim
      (λ (n : (d ≡ e) × (x ≡ y)). rw (n.0, get_or-set_same (t OFFSETS) e at 0 room) (λ w. worked-past s at x next found w, words))
      (λ (n : (d ≡ e → ⊥) × (entered_at (constants_in s) (done_in s k) d ≡ some y)).
      let v = have d y n.1 in
      rw (get_or-set_other (t OFFSETS) e d at 0 n.0) (λ w. omega (arith, v.0 w, found.past), v.1))
      which)
    where
      which : ((d ≡ e) × (x ≡ y)) ⊎ ((d ≡ e → ⊥) × (entered_at (constants_in s) (done_in s k) d ≡ some y))
      which =
          let all = take_next (definitions_in s) k (define x) turn in
          rw new at (new_entry (constants_in s) (done_in s k) x (rw all at few) d y (rw all at h))
