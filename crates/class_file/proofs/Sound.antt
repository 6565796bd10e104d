-- What proper parts have, and that parts which have it are proper. Assumes nothing.
use mathlib.Core.Bool.{true, ◌&&◌}
use mathlib.Core.List.{List, [], ◌∷◌}
use mathlib.Core.Option.{Option, none, some}
use mathlib.Core.Path.{◌≡◌, refl, sym}
use Prim.Native.Nat.{ℕ, ◌≤◌}
use lib.Dec.{leb}
use lib.ListN.{length}
use borrow.Author.Tests.{leb-true, le-leb, eqb-true}
use Rattle.jvms.specs.Pool.{array, Slot, wholly, read_pool_lem, BootstrapMethod, read_bootstrap_methods}
use Rattle.facts.proofs.Lists.{none≢some, true≢false, both_true}
use Rattle.class_file.specs.ClassFile.{Parts, named, matches, proper}
use Rattle.class_file.specs.Answers.{Right}

abbrev pub Sound : Parts → Type 0
Sound p = Right p.pool p.name p.count p.bootstraps

pub proper-sound : (p : Parts) → proper p ≡ true → Sound p
unfolding proper named matches
proper-sound p h =
    let pool = read_pool_lem p.pool in
    let methods = read_bootstrap_methods p.count p.bootstraps in
    let both = both_true (named pool p.name p.count && matches methods) (leb (length p.bootstraps) 4294967293) h in
    let first = both_true (named pool p.name p.count) (matches methods) both.0 in
    go pool refl methods refl first.0 first.1 (leb-true (length p.bootstraps) 4294967293 both.1)
  where
    go :
        (o : Option (List Slot)) → read_pool_lem p.pool ≡ o →
        (m : Option (List BootstrapMethod)) → read_bootstrap_methods p.count p.bootstraps ≡ m →
        named o p.name p.count ≡ true → matches m ≡ true → length p.bootstraps ≤ 4294967293 → Sound p
    go none e m f n k l = true≢false (sym n)
    go (some slots) e none f n k l = true≢false (sym k)
    go (some slots) e (some methods) f n k l =
        record { slots = slots; pool_read = e; name_held = n; methods = methods; methods_read = f; short = l }

pub sound_proper : (p : Parts) → Sound p → proper p ≡ true
unfolding proper matches
sound_proper p s = rw (s.pool_read, s.name_held, s.methods_read) (le-leb (length p.bootstraps) 4294967293 s.short)

no_methods : (bytes : List ℕ) (methods : List BootstrapMethod) → read_bootstrap_methods 0 bytes ≡ some methods → bytes ≡ []
unfolding read_bootstrap_methods array wholly
no_methods [] methods e = refl
no_methods (b ∷ bytes) methods e = none≢some e

-- with no name slot there are no bootstrap methods
pub nameless : (p : Parts) → Sound p → p.name ≡ 0 → (p.count ≡ 0) × (p.bootstraps ≡ [])
unfolding named
nameless p s e =
    let none-counted : p.count ≡ 0 = eqb-true p.count 0 (rw e at s.name_held) in
    (none-counted, no_methods p.bootstraps s.methods (rw none-counted at s.methods_read))
