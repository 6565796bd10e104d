-- A request's first byte and reference, and whether its answer is low enough. Assumes nothing.
use mathlib.Core.Bool.{Bool, true, false}
use mathlib.Core.List.{List}
use mathlib.Core.Option.{Option, none, some}
use mathlib.Core.Path.{◌≡◌, refl, ap, ◌∙◌}
use Prim.Native.Nat.{ℕ, ◌+◌, ◌<◌}
use native.Mathlib.Omega.{arith}
use lib.Dec.{eqb, ltb}
use lib.ListN.{length, get_or}
use borrow.Author.Tests.{eqb-true, ne_eqb, ltb-true, ltb-false, le-leb, lt-leb}
use Rattle.definition.specs.Basics.{good, bad, unless, lookup}
use Rattle.definition.specs.Shapes.{constant}
use Rattle.definition.specs.Job.{asks, reference}
use Rattle.definition.specs.Resolving.{goal_of}
use Rattle.facts.proofs.Lists.{none≢some, some_inj}
use Rattle.job.specs.Stored.{Stands, WhatStands, ReferenceStands, any_request}
use Rattle.job.proofs.Standing.{request_there}
use Rattle.store.specs.JobIn.{entries_in, constants_in, namings_in}
use Rattle.store.specs.Words.{IsReference}
use Rattle.sym_refs.specs.Names.{CitedIn, Goes}
use Rattle.sym_refs.specs.Leading.{flagged, WordFor}
use Rattle.pool.specs.Replying.{RequestAt, WhatRequest, goal_for, LeadsTo, low}

-- LOW

pub low-not : (slot : ℕ) → low false slot ≡ good tt
unfolding unless
low-not slot = refl

pub low-high : (slot : ℕ) → ltb 255 slot ≡ true → low true slot ≡ bad 16
unfolding unless
low-high slot h = rw (lt-leb slot 255 (ltb-true 255 slot h), unless)

pub low-low : (slot : ℕ) → ltb 255 slot ≡ false → low true slot ≡ good tt
unfolding unless
low-low slot h = rw (le-leb slot 255 (ltb-false 255 slot h), unless)

-- LDC

says : (b : ℕ) (ldc : Bool) → lookup b asks ≡ some ldc → eqb b 0x52 ≡ ldc
unfolding lookup asks
says b ldc h = ways (eqb b 0x51) refl (eqb b 0x52) refl h
  where
    ways :
        (x : Bool) → eqb b 0x51 ≡ x → (y : Bool) → eqb b 0x52 ≡ y →
        ◌≡◌ {A = Option Bool} (elim x [ true ↦ some false | false ↦ elim y [ true ↦ some true | false ↦ none ] ]) (some ldc) →
        eqb b 0x52 ≡ ldc
    ways true e y f h = ne_eqb b 0x52 (λ z. omega (arith, eqb-true b 0x51 e)) ∙ some_inj h
    ways false e true f h = f ∙ some_inj h
    ways false e false f h = none≢some h

module _ (s : List ℕ) (at : ℕ) where
  pub request_inside : Stands any_request s at → at < length s
  request_inside (q, next, f) = omega (arith, f.past, f.within)

  pub ldc_told : (b : ℕ) → b ≡ get_or s at 0 → WhatStands any_request s at (λ q next. eqb b 0x52 ≡ q.ldc)
  ldc_told b is q next f = says b q.ldc (rw is (request_there s at q next f).0)

  -- THE REFERENCE

  pub refers : RequestAt s at → ReferenceStands s (at + 1)
  refers (q, next, f, c) = (constant, (q.what, next, (request_there s at q next f).1))

  module _ (word : ℕ) (told : WhatStands (reference (flagged false)) s (at + 1) (λ a next. CitedIn s a → WordFor s a word)) where
    pub worded : RequestAt s at → IsReference s (entries_in s) word
    unfolding flagged
    worded (q, next, f, c) = (told q.what next (request_there s at q next f).1 c).1

    pub leads : (r : ℕ) → Goes s word r → WhatRequest s at (λ q. LeadsTo s (goal_for s q) r)
    unfolding flagged
    leads r goes q next f c =
        record {
          word = goes.leads ∙ ap (goal_of (namings_in s) (constants_in s)) (told q.what next (request_there s at q next f).1 c).0;
          is = goes.word;
        }
