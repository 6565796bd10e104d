-- NUMBERING: two literals of a job have one number exactly when they are equal, and the number stands for the literal's bytes. Assumes nothing.
use mathlib.Core.Bool.{true}
use mathlib.Core.List.{List, []}
use mathlib.Core.Logic.{◌↔◌}
use mathlib.Core.Option.{some}
use mathlib.Core.Path.{◌≡◌, refl, sym, ap, ◌∙◌}
use lib.Dec.{eqb}
use lib.ListN.{get_elem?}
use borrow.Author.Tests.{eqb-true, eq-eqb}
use Rattle.definition.specs.Basics.{same}
use Rattle.definition.specs.Numbering.{Literal, same_literal, literals, number_of, literal_of}
use Rattle.facts.specs.Lists.{Among}
use Rattle.facts.proofs.Lists.{both_true, same_true, same_refl, found_read, position-hit}
use Rattle.laws.specs.Statements.{Numbering}

-- the test on literals passes exactly the equal ones
pub same_literal-true : (a b : Literal) → same_literal a b ≡ true → a ≡ b
unfolding same_literal
same_literal-true a b e =
    let h = both_true (eqb a.0 b.0) (same a.1 b.1) e in
    let p = eqb-true a.0 b.0 h.0 in
    let q = same_true a.1 b.1 h.1 in
    λ i. (p i, q i)

pub same_literal-refl : (a : Literal) → same_literal a a ≡ true
unfolding same_literal
same_literal-refl a = rw (eq-eqb a.0 a.0 refl, same_refl a.1)

pub same_literal-iff : (a b : Literal) → (same_literal a b ≡ true) ↔ (a ≡ b)
same_literal-iff a b = (same_literal-true a b, λ e. rw e (same_literal-refl b))

-- at the number of a literal of a list stands that literal
pub number_of-at : (all : List Literal) (a : Literal) → Among a all → get_elem? all (number_of all a) ≡ some a
unfolding number_of
number_of-at all a h =
    let r = position-hit (same_literal a) all h.0 a h.1 (same_literal-refl a) in
    r.1 ∙ ap some (sym (same_literal-true a r.0 r.2))

-- so the number stands for its bytes
pub literal_of-number_of : (all : List Literal) (a : Literal) → Among a all → literal_of all (number_of all a) ≡ a.1
unfolding literal_of
literal_of-number_of all a h = ap (λ (l : Literal). l.1) (found_read all (number_of all a) a (1, []) (number_of-at all a h))

-- and is no other literal's
pub number_of-inj : (all : List Literal) (a b : Literal) → Among a all → Among b all → number_of all a ≡ number_of all b → a ≡ b
number_of-inj all a b ha hb e =
    let p = number_of-at all a ha in
    let q = number_of-at all b hb in
    cc

pub numbering : Numbering
numbering job a b ha hb =
    ((number_of-inj (literals job) a b ha hb, ap (number_of (literals job))), literal_of-number_of (literals job) a ha)
