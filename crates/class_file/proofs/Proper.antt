-- Whether parts are proper, by what reading their pool and their bootstrap methods told. Assumes nothing.
use mathlib.Core.Bool.{Bool, true, false, not}
use mathlib.Core.List.{List, []}
use mathlib.Core.Option.{none, some}
use mathlib.Core.Path.{◌≡◌, refl, sym, ap, subst, ◌∙◌}
use Prim.Native.Nat.{ℕ, zero, suc, ◌<◌, ◌≤◌}
use native.Mathlib.Omega.{arith}
use lib.Dec.{eqb}
use borrow.Author.Tests.{eqb-true, eq-eqb}
use Rattle.std.specs.Option.{option_eq}
use lib.ListN.{length, drop, length-drop}
use lib.Seq.{drop-length}
use Rattle.jvms.specs.Pool.{◌>>=◌, u2, Slot, constant_pool, wholly, read_pool_lem, BootstrapMethod, read_bootstrap_methods}
use Rattle.facts.proofs.Lists.{none≢some, some_inj, true≢false}
use Rattle.laws.proofs.Reading.ReadIsSpelled.{wholly-some}
use Rattle.std.specs.Prelude as code
use Rattle.std.specs.Prelude.{None, Some, IsTrue, ◌↔◌}
use Rattle.places.specs.Noting.{Blank, PoolNoted, MethodsPut}
use Rattle.places.specs.Standing.{slot_of, Noted}
use Rattle.places.proofs.Rows.{pool_table}
use Rattle.class_file.specs.ClassFile.{is_name_lem, named}
use Rattle.class_file.specs.Answers.{Right}

-- what reading a pool told, by its answer
module _ (bytes : List ℕ) (at : ℕ) (before after : List ℕ) {r : code.Option ℕ} (told : PoolNoted bytes at before after r) where
  pub pool_bad : r ≡ None → (u2 >>= constant_pool) (drop at bytes) ≡ none
  pool_bad e = (subst (λ a. PoolNoted bytes at before after a) e told).0

  pub pool_good : (next : ℕ) → r ≡ Some next → PoolNoted bytes at before after (Some next)
  pool_good next e = subst (λ a. PoolNoted bytes at before after a) e told

-- a name slot, given or not
pub named_none : (slots : List Slot) (name count : ℕ) → name ≡ 0 → eqb count 0 ≡ named (some slots) name count
unfolding named
named_none slots name count e = rw e

pub named_some : (slots : List Slot) (name count : ℕ) → 0 < name → is_name_lem (slot_of slots name) ≡ named (some slots) name count
unfolding named
named_some slots zero count h = absurd (omega arith)
named_some slots (suc n) count h = refl

module _ (pool : List ℕ) (name count : ℕ) (bootstraps : List ℕ) where
  -- no pool
  pub no_pool_lem : (u2 >>= constant_pool) pool ≡ none → Right pool name count bootstraps → ⊥
  unfolding read_pool_lem
  no_pool_lem bad right = none≢some (sym bad ∙ wholly-some _ right.slots right.pool_read)

  -- a pool with bytes up to a place
  module _ (found : List Slot) (next : ℕ) (read : (u2 >>= constant_pool) pool ≡ some (found, drop next pool)) where
    whole : (right : Right pool name count bootstraps) → ◌≡◌ {A = List Slot × List ℕ} (found, drop next pool) (right.slots, [])
    unfolding read_pool_lem
    whole right = some_inj (sym read ∙ wholly-some _ right.slots right.pool_read)

    pub pool_end : next ≤ length pool → Right pool name count bootstraps → next ≡ length pool
    pool_end inside right = omega (arith, length-drop next pool, ap length (ap (λ r. r.1) (whole right)))

    pub held : Right pool name count bootstraps → named (some found) name count ≡ true
    held right = ap (λ r. named (some r.0) name count) (whole right) ∙ right.name_held

    pub all_read : next ≡ length pool → read_pool_lem pool ≡ some found
    unfolding read_pool_lem wholly
    all_read last = ap wholly (read ∙ ap (λ k. some (found, drop k pool)) last ∙ ap (λ l. some (found, l)) (drop-length pool))

  -- all but the bootstrap methods is right
  pub methods_tell :
      (found : List Slot) (before after : List ℕ) (r : Bool) → read_pool_lem pool ≡ some found → named (some found) name count ≡ true →
      length bootstraps ≤ 4294967293 → MethodsPut bootstraps count before after r → IsTrue r ↔ Right pool name count bootstraps
  methods_tell found before after true read n short put =
      (λ e. record { slots = found; pool_read = read; name_held = n; methods = put.0; methods_read = put.1; short = short }, λ right. refl)
  methods_tell found before after false read n short put = (λ e. true≢false (sym e), λ right. none≢some (sym put.0 ∙ right.methods_read))

-- what reading bootstrap methods told, by its answer
module _ (bytes : List ℕ) (count : ℕ) (before after : List ℕ) where
  pub methods_none : (r : Bool) → MethodsPut bytes count before after r → not r ≡ true → read_bootstrap_methods count bytes ≡ none
  methods_none true put e = true≢false (sym e)
  methods_none false put e = put.0

  pub methods_some : (r : Bool) → MethodsPut bytes count before after r → not r ≡ false → (methods : List BootstrapMethod) × (read_bootstrap_methods count bytes ≡ some methods)
  methods_some true put e = (put.0, put.1)
  methods_some false put e = true≢false e

-- a pool that is read to its end, into a table with no place in it
module _ (pool : List ℕ) (before after : List ℕ) (blank : Blank before) where
  pub record Whole : Type 0 where
    pub slots : List Slot
    pub read : read_pool_lem pool ≡ some slots
    pub noted : Noted pool slots after

  pub whole_found : (r : code.Option ℕ) → PoolNoted pool 0 before after r → option_eq eqb r (Some (length pool)) ≡ true → Whole
  whole_found None told e = true≢false (sym e)
  whole_found (Some next) told e =
      let last = eqb-true next (length pool) e in
      record {
        slots = told.0;
        read = all_read pool 0 0 [] told.0 next told.1 last;
        noted = pool_table pool 0 before after next blank told;
      }

  pub whole_needed :
      (r : code.Option ℕ) (name count : ℕ) (bootstraps : List ℕ) → PoolNoted pool 0 before after r → Right pool name count bootstraps →
      option_eq eqb r (Some (length pool)) ≡ true
  whole_needed None name count bootstraps told right = absurd (no_pool_lem pool name count bootstraps told.0 right)
  whole_needed (Some next) name count bootstraps told right =
      eq-eqb next (length pool) (pool_end pool name count bootstraps told.0 next told.1 told.3 right)

-- the pool of right parts holds their name
pub held_by : (pool : List ℕ) (name count : ℕ) (bootstraps : List ℕ) (found : List Slot) → read_pool_lem pool ≡ some found → Right pool name count bootstraps → named (some found) name count ≡ true
held_by pool name count bootstraps found read right = ap (λ o. named o name count) (sym read ∙ right.pool_read) ∙ right.name_held
