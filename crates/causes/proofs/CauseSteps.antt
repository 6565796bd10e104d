-- How the cause of a refusal is carried through the steps of a run: a test that fails says why, and a record in turn says where. Assumes nothing.
use mathlib.Core.Bool.{Bool, true, false}
use mathlib.Core.List.{List}
use mathlib.Core.Option.{Option, none, some}
use mathlib.Core.Path.{◌≡◌, refl}
use Prim.Native.Nat.{ℕ}
use Rattle.definition.specs.Basics.{Result, Refusal, at_record, unless}
use Rattle.definition.specs.Form.{whole}
use Rattle.definition.specs.Places.{record_of, at_nodes}
use Rattle.definition.specs.Resolving.{Mark}
use Rattle.facts.proofs.Outcomes.{Ends, well, refused}

-- a test that refuses with a number failed
pub unless-cause : {Z : ℕ → Type 0} (b : Bool) (code : ℕ) → (b ≡ false → Z code) → Ends Z (λ _. b ≡ true) (unless b code)
unfolding unless
unless-cause true code h = well refl
unless-cause false code h = refused (h refl)

-- what isn't whole is refused with 3
pub whole-cause : {A : Type 0} {Z : ℕ → Type 0} (o : Option A) → (o ≡ none → Z 3) → Ends Z (λ a. o ≡ some a) (whole o)
unfolding whole
whole-cause none h = refused (h refl)
whole-cause (some a) h = well refl

-- the place of a refusal is the record in turn
pub at_place :
    {A : Type 0} (C : ℕ → ℕ → Type 0) {P : A → Type 0} {r : Result ℕ A} (place : ℕ) →
    Ends (λ code. C code place) P r →
    Ends (λ (e : Refusal). C e.code e.place) P (at_record place r)
unfolding at_record
at_place C place (well h) = well h
at_place C place (refused h) = refused h

-- a refusal at a node is told at the node's record
pub at_nodes_lem :
    {A : Type 0} (C : ℕ → ℕ → Type 0) {P : A → Type 0} {r : Result Refusal A} (records : List ℕ) (marks : List Mark) →
    Ends (λ (e : Refusal). C e.code (record_of records marks e.place)) P r →
    Ends (λ (e : Refusal). C e.code e.place) P (at_nodes records marks r)
unfolding at_nodes
at_nodes_lem C records marks (well h) = well h
at_nodes_lem C records marks (refused h) = refused h
