-- What an outcome tells, by the numbers that it was made from. Assumes nothing.
use mathlib.Core.List.{List, [], ◌∷◌}
use mathlib.Core.Option.{Option, none, some}
use mathlib.Core.Path.{◌≡◌, refl, sym, ◌∙◌}
use Prim.Native.Nat.{ℕ, ◌+◌, ◌≤◌}
use lib.ListN.{length, take, drop}
use Rattle.definition.specs.Basics.{good, bad}
use Rattle.definition.specs.Numbering.{attribute_name}
use Rattle.definition.specs.Run.{Built, class_out, refusal_of, returned}
use Rattle.output.specs.declared.ClassName.{ClassName}
use Rattle.output.specs.declared.ClassName.TheVariants as class_name
use Rattle.output.specs.Names.{NameIs}
use Rattle.output.proofs.Classes.{none-length, bytes-length, attribute-long}
use mir.Val.{bool_byte}
use Rattle.std.specs.Option.{is_some}
use Rattle.std.specs.Prelude.{Ok, Err, Some, None, unwrap_or, Option as Maybe}
use Rattle.refusal.specs.declared.Refused.{Refused}
use Rattle.refusal.specs.declared.Refusal as refusal
use Rattle.refusal.specs.Numbers.{number}
use Rattle.cpool.specs.declared.Built as code
use Rattle.cpool.specs.Ran.{Outcome, given, bytes_of, told, is_built, class_given, class_size, numbers, is_good, listed}
use Rattle.cpool.specs.Stages.{ClassTold, Tells}

-- its length
pub class_size_lem : (c : Option (List ℕ)) → class_size c ≡ length (class_out c)
unfolding class_size class_out
class_size_lem none = refl
class_size_lem (some l) = refl

-- a class name: none, bytes of the job, or the text "BootstrapMethods"
module _ (s : List ℕ) (c : Maybe ClassName) (o : Option (List ℕ)) (h : NameIs s c o) where
  pub told_none : c ≡ None → ClassTold o None
  unfolding given bytes_of class_given
  told_none e =
      let is : o ≡ none = rw e at h in
      record { given_is = rw is; bytes-are = none-length s c o h e ∙ sym (class_size_lem o) }

  pub told-bytes : (start size : ℕ) → c ≡ Some (class_name.Bytes start size) → ClassTold o (Some size)
  unfolding given bytes_of class_given
  told-bytes start size e =
      let is : (start + size ≤ length s) × (o ≡ some (take size (drop start s))) = rw e at h in
      record { given_is = rw is.1; bytes-are = bytes-length s c o h start size e ∙ sym (class_size_lem o) }

  pub told-attribute : c ≡ Some class_name.Attribute → ClassTold o (Some 16)
  unfolding given bytes_of class_given
  told-attribute e =
      let is : o ≡ some attribute_name = rw e at h in
      record { given_is = rw is; bytes-are = attribute-long s c o h e ∙ sym (class_size_lem o) }

  -- and any that there is
  pub told_some : (name : ClassName) → c ≡ Some name → (n : ℕ) → n ≡ length (class_out o) → ClassTold o (Some n)
  unfolding given bytes_of
  told_some (class_name.Bytes start size) e n is = record { given_is = (told-bytes start size e).given_is; bytes-are = is ∙ sym (class_size_lem o) }
  told_some class_name.Attribute e n is = record { given_is = (told-attribute e).given_is; bytes-are = is ∙ sym (class_size_lem o) }

-- as the code finds whether there is one, and its length
pub given_some : (l : Maybe ℕ) → bool_byte (is_some l) ≡ given l
unfolding given
given_some None = refl
given_some (Some n) = refl

pub bytes_or : (l : Maybe ℕ) → unwrap_or l 0 ≡ bytes_of l
unfolding bytes_of
bytes_or None = refl
bytes_or (Some n) = refl

-- a refusal tells its number and record
pub tells_refused : (r : refusal.Refusal) (place : ℕ) → Tells (bad (record { code = number r; place = place })) (Err (record { refusal = r; place = place }))
unfolding told is_built numbers is_good refusal_of returned
tells_refused r place = record { case = refl; numbers = refl }

-- what is built tells how much of each output it takes, and the other numbers
pub tells_built :
    (b : Built) (r : code.Built) →
    r.answers ≡ length b.answers → r.pool ≡ length b.pool → r.bootstrap_count ≡ b.bootstrap_count → r.bootstraps ≡ length b.bootstraps →
    r.name ≡ b.name → ClassTold b.class r.class_name → r.visits ≡ b.visits → Tells (good b) (Ok r)
unfolding told is_built numbers is_good refusal_of returned
tells_built b r ea ep ec er en k ev =
    record {
      case = refl;
      numbers = λ i. record {
        code = 0;
        place = 0;
        answers = ea i;
        pool = ep i;
        bootstrap_count = ec i;
        bootstraps = er i;
        name = en i;
        class = k.given_is i;
        class_bytes = k.bytes-are i;
        visits = ev i;
      };
    }

-- an outcome's numbers in a row
module _ (o : Outcome) where
  pub listed-built :
      (r : code.Built) (is bytes : ℕ) → o ≡ Ok r → is ≡ given r.class_name → bytes ≡ bytes_of r.class_name →
      (0 ≡ (told o).code)
      × (0 ∷ r.answers ∷ r.pool ∷ r.bootstrap_count ∷ r.bootstraps ∷ r.name ∷ is ∷ bytes ∷ r.visits ∷ [] ≡ listed (told o))
  unfolding told listed
  listed-built r is bytes e ei eb = (rw e, rw (e, ei, eb))

  pub listed-refused :
      (r : Refused) (n : ℕ) → o ≡ Err r → n ≡ number r.refusal →
      (n ≡ (told o).code) × (r.place ∷ 0 ∷ 0 ∷ 0 ∷ 0 ∷ 0 ∷ 0 ∷ 0 ∷ 0 ∷ [] ≡ listed (told o))
  unfolding told listed
  listed-refused r n e is = (rw (e, is), rw e)
