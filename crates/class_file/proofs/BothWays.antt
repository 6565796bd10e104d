-- EXACT, READ BACK and WRITTEN BACK. Assumes nothing.
use mathlib.Core.Bool.{Bool, true, false}
use mathlib.Core.List.{List}
use mathlib.Core.Path.{◌≡◌, refl}
use Prim.Native.Nat.{ℕ, ◌<◌, ◌≤◌}
use lib.Dec.{leb}
use lib.ListN.{length}
use borrow.Author.Tests.{le-leb, lt-leb}
use Rattle.definition.specs.Basics.{Result, good, bad}
use Rattle.facts.proofs.Lists.{clash}
use Rattle.class_file.specs.ClassFile.{Parts, proper, class_bytes, fitting, write_class}
use Rattle.class_file.specs.Promises.{Exact, ReadBack, WrittenBack}
use Rattle.class_file.proofs.Back.{parts-back}
use Rattle.class_file.proofs.Forth.{parts-forth}
use Rattle.class_file.proofs.Sound.{Sound, proper-sound, sound_proper}

pub exact : Exact
exact file p all = (parts-forth file p all, λ h. rw h.2 (parts-back p h.0 h.1))

-- what was written
pub written_is : (room : ℕ) (p : Parts) (file : List ℕ) → write_class room p ≡ good file → (proper p ≡ true) × (class_bytes p ≡ file)
unfolding write_class fitting
written_is room p file = go (proper p) refl (leb (length (class_bytes p)) room)
  where
    go :
        (b : Bool) → proper p ≡ b → (c : Bool) →
        ◌≡◌ {A = Result ℕ (List ℕ)} (elim b [ true ↦ elim c [ true ↦ good (class_bytes p) | false ↦ bad 18 ] | false ↦ bad 27 ]) (good file) →
        (proper p ≡ true) × (class_bytes p ≡ file)
    go true h true e = (h, cc)
    go true h false e = clash (cc)
    go false h true e = clash (cc)
    go false h false e = clash (cc)

-- proper parts are written where there is room
pub written-good : (room : ℕ) (p : Parts) → proper p ≡ true → length (class_bytes p) ≤ room → write_class room p ≡ good (class_bytes p)
unfolding write_class fitting
written-good room p h room-is = rw (h, write_class) (rw (le-leb (length (class_bytes p)) room room-is, fitting))

pub read_back_lem : ReadBack
read_back_lem room p file f e = let w = written_is room p file e in rw (← w.1) (parts-back p f w.0)

pub written_back_lem : WrittenBack
written_back_lem room file p all room-is e =
    let r = parts-forth file p all e in
    rw r.2 (written-good room p r.1 (rw r.2 at room-is))

-- what isn't written
pub written-27 : (room : ℕ) (p : Parts) → (Sound p → ⊥) → write_class room p ≡ bad 27
unfolding write_class
written-27 room p unsound = go (proper p) refl
  where
    go : (b : Bool) → proper p ≡ b → write_class room p ≡ bad 27
    go true h = absurd (unsound (proper-sound p h))
    go false h = rw (h, write_class)

pub written-18 : (room : ℕ) (p : Parts) → Sound p → room < length (class_bytes p) → write_class room p ≡ bad 18
unfolding write_class fitting
written-18 room p sound short = rw (sound_proper p sound, write_class) (rw (lt-leb (length (class_bytes p)) room short, fitting))
