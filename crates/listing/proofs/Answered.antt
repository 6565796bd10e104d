-- Lines that were counted and then written are the listing (specs/Lists.antt). Assumes nothing.
use mathlib.Core.Bool.{true}
use mathlib.Core.List.{List, [], ◌∷◌, ◌++◌}
use mathlib.Core.Logic.{◌⊎◌, inl, inr}
use mathlib.Core.Option.{Option, none, some}
use mathlib.Core.Path.{◌≡◌, refl, sym, ap, ◌∙◌, subst}
use Prim.Native.Nat.{ℕ, ◌+◌, ◌<◌, ◌≤◌}
use native.Mathlib.Omega.{arith}
use lib.ListN.{length, drop, drop_of_length-le}
use lib.Seq.{take-length, drop-cons}
use borrow.Author.Tests.{le-leb, lt-leb}
use Rattle.definition.specs.Basics.{good, bad}
use Rattle.facts.proofs.Lists.{order}
use Rattle.jvms.specs.Pool.{◌>>=◌, u2, Slot, constant_pool, BootstrapMethod, wholly, read_pool_lem, read_bootstrap_methods}
use Rattle.places.specs.Standing.{Noted, MethodsNoted}
use Rattle.places.specs.Noting.{Blank, PoolNoted, MethodsPut}
use Rattle.std.specs.Prelude.{Ok, Err}
use Rattle.std.specs.Prelude.{Some}
use Rattle.places.proofs.Rows.{pool_table}
use Rattle.places.proofs.Methods.{methods_table}
use Rattle.printing.specs.Printed.{Printed}
use Rattle.printing.proofs.Printing.{capped-in, capped-past}
use Rattle.listing.specs.Listing.{lines, fitting, listed, listing}
use Rattle.listing.specs.Views.{or_none, finished, Views}
use Rattle.listing.specs.Lists.{Answers, Lists}
use Rattle.refusal.specs.declared.Refusal.TheVariants.{NotPool, OutputTooShort}
use Rattle.refusal.specs.Numbers.{number, answer_of}

-- ---- a text's end tells whether it fits

module _ {before after : List ℕ} {room end : ℕ} {text : List ℕ} (p : Printed before room 0 text after end) where
  longer : room < end → room < length text
  longer h = ways (order room (length text))
    where
      ways : (room < length text) ⊎ (length text ≤ room) → room < length text
      ways (inl k) = k
      ways (inr k) = absurd (omega (arith, p.ends, capped-in room (0 + length text) (omega arith)))

  whole : end ≤ room → end ≡ length text
  whole h = ways (order room (length text))
    where
      ways : (room < length text) ⊎ (length text ≤ room) → end ≡ length text
      ways (inl k) = absurd (omega (arith, p.ends, capped-past room (0 + length text) (omega arith)))
      ways (inr k) = omega (arith, p.ends, capped-in room (0 + length text) (omega arith))

  in_front : length text ≤ length before → after ≡ text ++ drop (length text) before
  in_front h =
      let zero : 0 + length text ≡ length text = omega arith in
      p.out (omega arith) ∙ (λ i. take-length text i ++ drop (zero i) before)

-- a part of no bytes, in front of the others
pub none_lent : (part rest : List ℕ) → length part ≡ 0 → part ++ rest ≡ rest
none_lent [] rest e = refl
none_lent (x ∷ part) rest e = absurd (omega arith)

-- ---- the listing of bytes whose pool and methods are read

module _ {pool places : List ℕ} {count : ℕ} {methods table : List ℕ} (v : Views pool places count methods table) (before : List ℕ) where
  read : listing (length before) pool count methods ≡ fitting (length before) (lines (finished pool count methods))
  unfolding listing listed
  read = rw (v.pool_read, v.methods_read, listed) refl

  pub too_long :
      {d e : List ℕ} {end : ℕ} → Printed d (length before) 0 (lines (finished pool count methods)) e end → length before < end →
      Lists pool count methods before before (Err OutputTooShort)
  unfolding Lists Answers fitting answer_of number
  too_long p h =
      let text = lines (finished pool count methods) in
      rw (read, lt-leb (length text) (length before) (longer p h), fitting) (refl, refl)

  pub all_written :
      {d e after : List ℕ} {end r : ℕ} → Printed d (length before) 0 (lines (finished pool count methods)) e end → end ≤ length before →
      Printed before (length before) 0 (lines (finished pool count methods)) after r →
      Lists pool count methods before after (Ok end)
  unfolding Lists Answers fitting answer_of number
  all_written p h q =
      let text = lines (finished pool count methods) in
      let ends = whole p h in
      let fits : length text ≤ length before = omega arith in
      rw (read, le-leb (length text) (length before) fits, fitting) (ap good ends, in_front q fits)

-- ---- bytes that aren't a pool, or not so many bootstrap methods

pub unread :
    (room : ℕ) (pool : Option (List Slot)) (methods : Option (List BootstrapMethod)) → (pool ≡ none) ⊎ (methods ≡ none) →
    listed room pool methods ≡ bad 21
unfolding listed
unread room pool methods (inl e) = rw (e, listed) refl
unread room none methods (inr e) = refl
unread room (some slots) methods (inr e) = rw (e, listed) refl

pub refused :
    (pool : List ℕ) (count : ℕ) (methods before : List ℕ) → (read_pool_lem pool ≡ none) ⊎ (read_bootstrap_methods count methods ≡ none) →
    Lists pool count methods before before (Err NotPool)
unfolding Lists Answers listing answer_of number
refused pool count methods before h = rw (unread (length before) (read_pool_lem pool) (read_bootstrap_methods count methods) h, Answers) (refl, refl)

pub no_pool_lem : (pool : List ℕ) → (u2 >>= constant_pool) pool ≡ none → read_pool_lem pool ≡ none
unfolding read_pool_lem wholly
no_pool_lem pool e = ap wholly e

module _ (pool : List ℕ) (found : List Slot) (next : ℕ) (e : (u2 >>= constant_pool) pool ≡ some (found, drop next pool)) where
  pub left_over : next < length pool → read_pool_lem pool ≡ none
  unfolding read_pool_lem wholly
  left_over k = ap wholly e ∙ rw (drop-cons pool next 0 k, wholly) refl

  whole-pool : length pool ≤ next → read_pool_lem pool ≡ some found
  unfolding read_pool_lem wholly
  whole-pool k = ap wholly e ∙ rw (drop_of_length-le pool k, wholly) refl

-- ---- bytes that are, with the tables of their places

read_as : {A : Type 0} (o : Option (List A)) (l : List A) → o ≡ some l → l ≡ or_none o
unfolding or_none
read_as o l e = sym (ap or_none e)

pub views :
    (pool : List ℕ) (count : ℕ) (methods blank places zeros table : List ℕ) (next : ℕ) → Blank blank →
    PoolNoted pool 0 blank places (Some next) → length pool ≤ next → length zeros ≡ 65536 → count < 65536 →
    MethodsPut methods count zeros table true → Views pool places count methods table
unfolding finished
views pool count methods blank places zeros table next clear p all size few m =
    let read = whole-pool pool p.0 next p.1 all in
    let same = read_as (read_pool_lem pool) p.0 read in
    let same' = read_as (read_bootstrap_methods count methods) m.0 m.1 in
    record {
      pool_read = read ∙ ap some same;
      methods_read = m.1 ∙ ap some same';
      noted = subst (λ l. Noted pool l places) same (pool_table pool 0 blank places next clear p);
      methods_noted = subst (λ l. MethodsNoted methods l table) same' (methods_table methods count zeros table size few m);
    }
