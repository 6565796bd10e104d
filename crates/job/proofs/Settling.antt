-- A setting's number, and whether a text is one, are read behind the first byte as the definition reads them. Assumes nothing.
use Rattle.std.specs.Prelude.{Some}
use mathlib.Core.Bool.{Bool, true, false}
use mathlib.Core.List.{List}
use mathlib.Core.Path.{◌≡◌, refl, sym, ap, ◌∙◌}
use Prim.Native.Nat.{ℕ, ◌+◌, ◌-◌, ◌≤◌, ◌<◌}
use native.Mathlib.Omega.{arith}
use lib.Dec.{eqb}
use lib.ListN.{length, get_or, drop}
use borrow.Author.Tests.{eqb-true}
use Rattle.definition.specs.Basics.{good, lookup}
use Rattle.definition.specs.Form.{comes_out}
use Rattle.definition.specs.Shapes.{Entry, shapes}
use Rattle.definition.specs.Job.{Reference, Definition, define, named, placed, setting, bodies, as_constant, read_body, read_definition}
use Rattle.raw_const.specs.declared.Shape.TheVariants.{Text}
use Rattle.job.specs.declared.Opening.{Opening}
use Rattle.job.specs.declared.Opening.TheVariants.{Constant, Bootstrap, NamedConstant, NamedBootstrap, RawConstant, RawBootstrap, Version, Texts, Highest, Expression}
use Rattle.job.specs.Forms.{Read, entry_body, body_of, NumberRoom, number_opened, number_in, broken_at, is_broken}
use Rattle.job.specs.Stored.{Found, any_definition, is_worked}
use Rattle.job.proofs.Laws.{number, one_at}
use Rattle.job.proofs.Table.{Right}
use Rattle.job.proofs.Expressions.{formed_passed, number-no_text}
use Rattle.job.proofs.Standing.{DefinitionIs, tag-there, entry_there, worked-there, definition_there}

module _ (s : List ℕ) (at : ℕ) (opening : Opening) (right : Right (get_or s at 0) opening) (out : comes_out (get_or s at 0) (drop (at + 1) s) ≡ good tt) where
  -- what was read behind the first byte and comes out stands at its place
  pub found_there :
      (ok : Definition (List ℕ) → Bool) (kids : Definition (List ℕ) → ℕ) (next : ℕ) (cited : Bool) (references : ℕ) → at < length s →
      (v : Read (read_body (get_or s at 0) (body_of opening)) ok kids s (at + 1) next cited references) →
      Found any_definition s at v.value next
  unfolding read_definition
  found_there ok kids next cited references low v =
      record { read = rw (one_at s at low) (formed_passed (get_or s at 0) (drop (at + 1) s) out ∙ rw (← right.0) v.read); past = omega (arith, v.past); within = v.within }

  module _ (d : Definition (List ℕ)) (next : ℕ) (f : Found any_definition s at d next) where
    opened : DefinitionIs s at opening d next
    opened = definition_there s at d next opening f right.0

    pub number-room : NumberRoom opening s (at + 1)
    number-room = ways opening opened
      where
        ways : (o : Opening) → DefinitionIs s at o d next → NumberRoom o s (at + 1)
        ways (Constant shape) h = tt
        ways Bootstrap h = tt
        ways NamedConstant h = tt
        ways NamedBootstrap h = tt
        ways RawConstant h = tt
        ways RawBootstrap h = tt
        ways Version h = omega (arith, h.0, f.within)
        ways Texts h = tt
        ways Highest h = omega (arith, h.0, f.within)
        ways Expression h = tt

    pub number-there : number_opened opening s (at + 1) ≡ number_in d
    unfolding number_opened number_in
    number-there = ways opening opened
      where
        ways : (o : Opening) → DefinitionIs s at o d next → number_opened o s (at + 1) ≡ number_in d
        ways (Constant shape) h = rw h.1
        ways Bootstrap h = rw h.1
        ways NamedConstant h = rw h.5
        ways NamedBootstrap h = rw h.5
        ways RawConstant h = rw h.1
        ways RawBootstrap h = rw h.1
        ways Version h = rw h.1
        ways Texts h = rw h.1
        ways Highest h = rw h.1
        ways Expression h = rw h.1

module _ (s : List ℕ) (at next : ℕ) where
  -- what doesn't begin with 1 is no text
  no_text_tag : (e : Entry (List ℕ) Reference) → Found any_definition s at (define e) next → eqb (get_or s at 0) 1 ≡ false → eqb e.tag 1 ≡ false
  unfolding as_constant
  no_text_tag e f h = ways (is_worked s at) refl
    where
      ways : (b : Bool) → is_worked s at ≡ b → eqb e.tag 1 ≡ false
      ways true t = let w = worked-there s at e next f t in ap (λ (y : Entry (List ℕ) Reference). eqb y.tag 1) w.is ∙ number-no_text w.number.0
      ways false t = ap (λ k. eqb k 1) (tag-there s at e next f t) ∙ h

  -- and so no broken one
  unbroken : (d : Definition (List ℕ)) → Found any_definition s at d next → eqb (get_or s at 0) 1 ≡ false → is_broken d ≡ false
  unfolding is_broken
  unbroken (define e) f h = rw (no_text_tag e f h)
  unbroken (named kind l r) f h = refl
  unbroken (placed kind slot n) f h = refl
  unbroken (setting rule) f h = refl

  -- 1 opens a text
  opens-text : get_or s at 0 ≡ 1 → body_of (Constant (Some Text)) ≡ lookup (get_or s at 0) bodies
  unfolding body_of entry_body lookup bodies shapes
  opens-text h = rw h refl

  -- whose length and bytes stand ahead of the next record
  text_ends : (e : Entry (List ℕ) Reference) → Found any_definition s at (define e) next → get_or s at 0 ≡ 1 → at + 3 ≤ next
  text_ends e g h =
      let l = entry_there s at e next g (Constant (Some Text)) (opens-text h) in
      omega (arith, l.end)

  pub text_within : (d : Definition (List ℕ)) → Found any_definition s at d next → get_or s at 0 ≡ 1 → at + 3 ≤ next
  text_within d f h = let r = definition_there s at d next (Constant (Some Text)) f (opens-text h) in text_ends r.0 (rw r.1 at f) h

  text_there :
      (d : Definition (List ℕ)) (e : Entry (List ℕ) Reference) → d ≡ define e → Found any_definition s at d next → eqb (get_or s at 0) 1 ≡ true →
      broken_at s at next ≡ is_broken d
  unfolding broken_at is_broken
  text_there d e same f h =
      let g = rw same at f in
      let first = eqb-true (get_or s at 0) 1 h in
      let tag = tag-there s at e next g (rw first) in
      let l = entry_there s at e next g (Constant (Some Text)) (opens-text first) in
      let place : at + 1 + 2 ≡ at + 3 = omega arith in
      let size : next - (at + 3) ≡ number s (at + 1) = omega (arith, l.end) in
      rw (same, tag, h, size, ← place, l.literal)

  pub broken_there : (d : Definition (List ℕ)) → Found any_definition s at d next → broken_at s at next ≡ is_broken d
  unfolding broken_at
  broken_there d f = ways (eqb (get_or s at 0) 1) refl
    where
      ways : (b : Bool) → eqb (get_or s at 0) 1 ≡ b → broken_at s at next ≡ is_broken d
      ways true h =
          let r = definition_there s at d next (Constant (Some Text)) f (opens-text (eqb-true (get_or s at 0) 1 h)) in
          text_there d r.0 r.1 f h
      ways false h = rw h (sym (unbroken d f h))
