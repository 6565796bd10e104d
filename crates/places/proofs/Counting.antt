-- A pool's count, and then its slots. Assumes nothing.
use mathlib.Core.Bool.{false}
use mathlib.Core.List.{List}
use mathlib.Core.Option.{Option, none, some}
use mathlib.Core.Path.{◌≡◌, refl, ◌∙◌}
use Prim.Native.Nat.{ℕ, suc, ◌+◌, ◌-◌, ◌<◌, ◌≤◌}
use native.Mathlib.Numerals.{add-one}
use native.Mathlib.Omega.{arith}
use lib.ListN.{length, drop}
use lib.Seq.{drop-cons}
use Rattle.jvms.specs.Pool.{◌>>=◌, u1, u2, slots, constant_pool}
use Rattle.writer.specs.Numbers.{number2}
use Rattle.places.specs.Noting.{placed_up_to, SlotsNoted, PoolNoted}
use Rattle.std.specs.Prelude as code
use Rattle.std.specs.Prelude.{Some, None}
use Rattle.places.proofs.Finding.{finds_u2}
use Rattle.places.proofs.Rows.{slots-size}

-- two bytes, and none where they are cut off
pub read_u2 : (bytes : List ℕ) (at : ℕ) → at + 2 ≤ length bytes → u2 (drop at bytes) ≡ some (number2 bytes at, drop (at + 2) bytes)
unfolding u2 u1
read_u2 bytes at enough =
    let here : at < length bytes = omega arith in
    let next : suc at < length bytes = omega arith in
    let end : at + 2 ≡ suc (suc at) = omega arith in
    rw (drop-cons bytes at 0 here, drop-cons bytes (suc at) 0 next, add-one at, end)

cut-u2 : (bytes : List ℕ) (at : ℕ) → length bytes < at + 2 → u2 (drop at bytes) ≡ none
cut-u2 bytes at few = go (u2 (drop at bytes)) refl
  where
    go : (o : Option (ℕ × List ℕ)) → u2 (drop at bytes) ≡ o → u2 (drop at bytes) ≡ none
    go none e = e
    go (some (n, rest)) e = let (end, inside, left, is) = finds_u2 bytes at n rest e in absurd (omega arith)

module _ (bytes : List ℕ) (at : ℕ) where
  -- no count, and a count of 0
  pub no_count : (before : List ℕ) → length bytes < at + 2 → PoolNoted bytes at before before None
  unfolding placed_up_to
  no_count before few = let cut = cut-u2 bytes at few in (rw cut, refl, rw cut)

  pub zero-count :
      (before : List ℕ) (count : ℕ) → at + 2 ≤ length bytes → count ≡ number2 bytes at → count ≡ 0 →
      PoolNoted bytes at before before None
  unfolding constant_pool placed_up_to
  zero-count before count enough is zero =
      let e : number2 bytes at ≡ 0 = omega arith in
      let read = read_u2 bytes at enough in
      (rw (read, e), refl, rw (read, e))

  -- a count that leaves slots to read
  counted :
      (count : ℕ) → at + 2 ≤ length bytes → count ≡ number2 bytes at → 0 < count →
      (u2 >>= constant_pool) (drop at bytes) ≡ slots (count - 1) false (drop (at + 2) bytes)
  unfolding constant_pool
  counted count enough is any =
      let e : number2 bytes at ≡ suc (count - 1) = omega arith in
      rw (read_u2 bytes at enough, e)

  pub pool_noted :
      (count : ℕ) (before after : List ℕ) (r : code.Option ℕ) → at + 2 ≤ length bytes → count ≡ number2 bytes at → 0 < count → count < 65536 →
      SlotsNoted bytes (at + 2) (count - 1) before after r →
      PoolNoted bytes at before after r
  pool_noted count before after None enough is any low h =
      let read = read_u2 bytes at enough in
      (counted count enough is any ∙ h.0, h.1, rw (read, ← is) h.2)
  pool_noted count before after (Some next) enough is any low h =
      let (found, read, from, to, noted) = h in
      let size = slots-size (count - 1) false bytes (at + 2) enough found (drop next bytes) read in
      (found, counted count enough is any ∙ read, omega arith, to, omega arith, noted)
