-- What a definition's first byte tells, and so where an entry's references or its literal stand and where it ends. Assumes nothing.
use Rattle.std.specs.Prelude.{Some, None}
use mathlib.Core.Bool.{Bool, true, false, ◌||◌}
use mathlib.Core.List.{List, [], ◌∷◌}
use mathlib.Core.Option.{Option, none, some}
use mathlib.Core.Path.{◌≡◌, refl, sym, ap, subst, ◌∙◌}
use Prim.Native.Nat.{ℕ, suc, ◌+◌, ◌<◌}
use native.Mathlib.Omega.{arith}
use lib.Dec.{eqb}
use lib.ListN.{length, get_or, drop}
use Rattle.definition.specs.Basics.{lookup}
use Rattle.definition.specs.Expression.{Number, int, float, long, double, tag_of}
use Rattle.definition.specs.Settings.{version, texts, highest}
use Rattle.definition.specs.Shapes.{Kind, constant, bootstrap, shapes, bootstrap_shape, Entry, is_wide}
use Rattle.definition.specs.Job.{Reference, Definition, define, named, Body, bodies, as_constant, reference, read_body, read_definition, short_name}
use Rattle.definition.specs.Form.{kind_of}
use borrow.Author.Tests.{eq-eqb}
use Rattle.facts.proofs.Lists.{clash, true≢false, none≢some}
use Rattle.facts.proofs.Each.{Each, each_at}
use Rattle.facts.proofs.Tables.{lookup-at}
use Rattle.raw_const.specs.declared.Shape.TheVariants.{Text, Bits, One, Two, Dynamic, KindOne}
use Rattle.job.specs.declared.Opening.{Opening}
use Rattle.job.specs.declared.Opening.TheVariants.{Constant, Bootstrap, NamedConstant, NamedBootstrap, RawConstant, RawBootstrap, Version, Texts, Highest, Expression}
use Rattle.job.specs.Forms.{entry_body, body_of}
use Rattle.job.specs.Stored.{Found, InTurn, any_definition, is_worked, first_kind_lem, kind_in, kid_kind, bytes_between, KidsTurn, first_place}
use Rattle.job.proofs.Laws.{number}
use Rattle.job.proofs.Standing.{Refers, EntryIs, NamingIs, PlacingIs, SettingIs, BareIs, DefinitionIs, definition_read, tag-there, entry_there, worked-there, definition_there}

-- a Dynamic's first reference is to a bootstrap
unfoldable pub kind_if : Bool → Kind
kind_if true = bootstrap
kind_if false = constant

-- the place behind a literal: text, eight bytes or four
unfoldable pub literal_end : List ℕ → ℕ → ℕ → ℕ
literal_end s at tag =
    elim (eqb tag 1) [
      | true ↦ at + 3 + number s (at + 1)
      | false ↦ elim (is_wide tag) [ true ↦ at + 9 | false ↦ at + 5 ]
    ]

-- how many bytes a number with this tag has
unfoldable bits_of : ℕ → ℕ
bits_of tag = elim (is_wide tag) [ true ↦ 8 | false ↦ 4 ]

-- what is asked of a first byte tells what it opens
abbrev Fit : ℕ → Opening → Type 0
Fit tag (Constant (Some Text)) = (kind_of tag ≡ constant) × (eqb tag 1 ≡ true)
Fit tag (Constant (Some (Bits n))) = (kind_of tag ≡ constant) × (eqb tag 1 ≡ false) × (bits_of tag ≡ n)
Fit tag (Constant (Some One)) = (kind_of tag ≡ constant) × (eqb tag 15 ≡ false)
Fit tag (Constant (Some Two)) = (kind_of tag ≡ constant) × (eqb tag 15 ≡ false)
Fit tag (Constant (Some Dynamic)) = (kind_of tag ≡ constant) × (eqb tag 15 ≡ false)
Fit tag (Constant (Some KindOne)) = (kind_of tag ≡ constant) × (eqb tag 15 ≡ true)
Fit tag (Constant None) = ⊥
Fit tag Bootstrap = (kind_of tag ≡ bootstrap) × (eqb tag 15 ≡ false)
Fit tag NamedConstant = tag ≡ 0x41
Fit tag NamedBootstrap = tag ≡ 0x42
Fit tag RawConstant = tag ≡ 0x43
Fit tag RawBootstrap = tag ≡ 0x44
Fit tag Version = tag ≡ 0x47
Fit tag Texts = tag ≡ 0x48
Fit tag Highest = tag ≡ 0x49
Fit tag Expression = tag ≡ 0x46

abbrev Known : ℕ × Body → Type 0
Known r = (o : Opening) × (body_of o ≡ some r.1) × Fit r.0 o × (kind_in (some r.1) ≡ kind_if (eqb r.0 17 || eqb r.0 18))

all_known : Each Known bodies
unfolding bodies shapes body_of entry_body bootstrap_shape kind_of is_wide bits_of kind_in first_kind_lem kind_if
all_known = (
  (Constant (Some Text), refl, (refl, refl), refl),
  (
    (Constant (Some (Bits 4)), refl, (refl, refl, refl), refl),
    (
      (Constant (Some (Bits 4)), refl, (refl, refl, refl), refl),
      (
        (Constant (Some (Bits 8)), refl, (refl, refl, refl), refl),
        (
          (Constant (Some (Bits 8)), refl, (refl, refl, refl), refl),
          (
            (Constant (Some One), refl, (refl, refl), refl),
            (
              (Constant (Some One), refl, (refl, refl), refl),
              (
                (Constant (Some Two), refl, (refl, refl), refl),
                (
                  (Constant (Some Two), refl, (refl, refl), refl),
                  (
                    (Constant (Some Two), refl, (refl, refl), refl),
                    (
                      (Constant (Some Two), refl, (refl, refl), refl),
                      (
                        (Constant (Some KindOne), refl, (refl, refl), refl),
                        (
                          (Constant (Some One), refl, (refl, refl), refl),
                          (
                            (Constant (Some Dynamic), refl, (refl, refl), refl),
                            (
                              (Constant (Some Dynamic), refl, (refl, refl), refl),
                              (
                                (Constant (Some One), refl, (refl, refl), refl),
                                (
                                  (Constant (Some One), refl, (refl, refl), refl),
                                  (
                                    (Bootstrap, refl, (refl, refl), refl),
                                    (
                                      (NamedConstant, refl, refl, refl),
                                      (
                                        (NamedBootstrap, refl, refl, refl),
                                        (
                                          (RawConstant, refl, refl, refl),
                                          (
                                            (RawBootstrap, refl, refl, refl),
                                            (
                                              (Expression, refl, refl, refl),
                                              (
                                                (Version, refl, refl, refl),
                                                (
                                                  (Texts, refl, refl, refl),
                                                  (
                                                    (Highest, refl, refl, refl),
                                                    tt,
                                                  ),
                                                ),
                                              ),
                                            ),
                                          ),
                                        ),
                                      ),
                                    ),
                                  ),
                                ),
                              ),
                            ),
                          ),
                        ),
                      ),
                    ),
                  ),
                ),
              ),
            ),
          ),
        ),
      ),
    ),
  ),
)

module _ (s : List ℕ) (at : ℕ) where
  -- what stands at a place is what its first byte opens
  opened :
      (d : Definition (List ℕ)) (next : ℕ) → Found any_definition s at d next →
      (o : Opening) × (body_of o ≡ lookup (get_or s at 0) bodies) × Fit (get_or s at 0) o
      × (kind_in (lookup (get_or s at 0) bodies) ≡ kind_if (eqb (get_or s at 0) 17 || eqb (get_or s at 0) 18))
  unfolding read_definition read_body
  opened d next f = ways (lookup (get_or s at 0) bodies) refl (definition_read s at d next f).2
    where
      ways :
          (b : Option Body) → lookup (get_or s at 0) bodies ≡ b → read_body (get_or s at 0) b (drop (at + 1) s) ≡ some (d, drop next s) →
          (o : Opening) × (body_of o ≡ lookup (get_or s at 0) bodies) × Fit (get_or s at 0) o
          × (kind_in (lookup (get_or s at 0) bodies) ≡ kind_if (eqb (get_or s at 0) 17 || eqb (get_or s at 0) 18))
      ways none e h = none≢some h
      ways (some body) e h =
          let a = lookup-at (get_or s at 0) body bodies e in
          let g = each_at Known bodies a.0 (get_or s at 0, body) all_known a.1 in
          (g.0, g.1 ∙ sym e, g.2, rw e g.3)

  -- a naming: its first byte is that of its kind, then the name and what it stands for
  pub record Names (kind : Kind) (l : List ℕ) (r : Reference) (next : ℕ) : Type 0 where
    pub byte : get_or s at 0 ≡ elim kind [ constant ↦ 0x41 | bootstrap ↦ 0x42 ]
    pub mid : ℕ
    pub label : Found short_name s (at + 1) l mid
    pub target : Found (reference kind) s mid r next

  pub naming_there : (kind : Kind) (l : List ℕ) (r : Reference) (next : ℕ) → Found any_definition s at (named kind l r) next → Names kind l r next
  naming_there kind l r next f = let o = opened (named kind l r) next f in ways o.0 o.2 (definition_there s at (named kind l r) next o.0 f o.1)
    where
      by : (k : Kind) → get_or s at 0 ≡ elim k [ constant ↦ 0x41 | bootstrap ↦ 0x42 ] → NamingIs s at k (named kind l r) next → Names kind l r next
      by k first h =
          let same_kind : kind ≡ k = cc h.5 in
          let same-label : l ≡ h.0 = cc h.5 in
          let same_target : r ≡ h.1 = cc h.5 in
          rw (same_kind, same-label, same_target) (record { byte = first; mid = h.2; label = h.3; target = h.4 })

      ways : (o : Opening) → Fit (get_or s at 0) o → DefinitionIs s at o (named kind l r) next → Names kind l r next
      ways (Constant shape) fit h = clash (cc h.1)
      ways Bootstrap fit h = clash (cc h.1)
      ways NamedConstant fit h = by constant fit h
      ways NamedBootstrap fit h = by bootstrap fit h
      ways RawConstant fit h = clash (cc h.1)
      ways RawBootstrap fit h = clash (cc h.1)
      ways Version fit h = clash (cc h.1)
      ways Texts fit h = clash (cc h.1)
      ways Highest fit h = clash (cc h.1)
      ways Expression fit h = clash (cc h.1)

  -- what stands at a place, by its first byte
  module _ (d : Definition (List ℕ)) (next : ℕ) (f : Found any_definition s at d next) where
    pub opens-name : (kind : Kind) → get_or s at 0 ≡ elim kind [ constant ↦ 0x41 | bootstrap ↦ 0x42 ] → NamingIs s at kind d next
    unfolding body_of bodies shapes lookup
    opens-name constant e = definition_there s at d next NamedConstant f (rw e)
    opens-name bootstrap e = definition_there s at d next NamedBootstrap f (rw e)

    pub opens-raw : (kind : Kind) → get_or s at 0 ≡ elim kind [ constant ↦ 0x43 | bootstrap ↦ 0x44 ] → PlacingIs s at kind d next
    unfolding body_of bodies shapes lookup
    opens-raw constant e = definition_there s at d next RawConstant f (rw e)
    opens-raw bootstrap e = definition_there s at d next RawBootstrap f (rw e)

    pub opens-version : get_or s at 0 ≡ 0x47 → SettingIs s at version d next
    unfolding body_of bodies shapes lookup
    opens-version e = definition_there s at d next Version f (rw e)

    pub opens-texts : get_or s at 0 ≡ 0x48 → BareIs s at texts d next
    unfolding body_of bodies shapes lookup
    opens-texts e = definition_there s at d next Texts f (rw e)

    pub opens-highest : get_or s at 0 ≡ 0x49 → SettingIs s at highest d next
    unfolding body_of bodies shapes lookup
    opens-highest e = definition_there s at d next Highest f (rw e)

    pub opens-entry :
        (get_or s at 0 ≡ 0x41 → ⊥) → (get_or s at 0 ≡ 0x42 → ⊥) → (get_or s at 0 ≡ 0x43 → ⊥) → (get_or s at 0 ≡ 0x44 → ⊥) →
        (get_or s at 0 ≡ 0x47 → ⊥) → (get_or s at 0 ≡ 0x48 → ⊥) → (get_or s at 0 ≡ 0x49 → ⊥) →
        (x : Entry (List ℕ) Reference) × (d ≡ define x)
    opens-entry n1 n2 n3 n4 n7 n8 n9 = let o = opened d next f in ways o.0 o.2 (definition_there s at d next o.0 f o.1)
      where
        ways : (o : Opening) → Fit (get_or s at 0) o → DefinitionIs s at o d next → (x : Entry (List ℕ) Reference) × (d ≡ define x)
        ways (Constant shape) fit h = h
        ways Bootstrap fit h = h
        ways NamedConstant fit h = absurd (n1 fit)
        ways NamedBootstrap fit h = absurd (n2 fit)
        ways RawConstant fit h = absurd (n3 fit)
        ways RawBootstrap fit h = absurd (n4 fit)
        ways Version fit h = absurd (n7 fit)
        ways Texts fit h = absurd (n8 fit)
        ways Highest fit h = absurd (n9 fit)
        ways Expression fit h = h

  -- an entry: its references from the first on, or its literal, and the place behind it
  module _ (x : Entry (List ℕ) Reference) (next : ℕ) (f : Found any_definition s at (define x) next) where
    nothing_between : (kind : Kind) (i n : ℕ) → n ≡ n + bytes_between kind (suc i)
    unfolding bytes_between
    nothing_between constant i n = omega arith
    nothing_between bootstrap i n = omega arith

    -- later references are to constants, with nothing between them
    later_turn : (kids : List Reference) (i from : ℕ) → InTurn (reference constant) s from kids next → KidsTurn s x.tag (suc i) from kids next
    unfolding kid_kind
    later_turn [] i from h = h
    later_turn (r ∷ kids) i from h =
        (h.0, h.1, subst (λ n. KidsTurn s x.tag (suc (suc i)) n kids next) (nothing_between (kind_of x.tag) i h.0) (later_turn kids (suc i) h.0 h.2))

    refers_turn :
        (kind : Kind) (first between : ℕ) → kid_kind x.tag 0 ≡ kind → bytes_between (kind_of x.tag) 0 ≡ between →
        Refers s kind first between x.kids next → KidsTurn s x.tag 0 first x.kids next
    refers_turn kind first between k g r = rw r.are (r.behind, rw k r.found, rw g (later_turn r.others 0 (r.behind + between) r.rest))

    -- no tag of a number is a Dynamic's
    number-first : (k : Number) → kid_kind (tag_of k) 0 ≡ kind_if (eqb (tag_of k) 17 || eqb (tag_of k) 18)
    unfolding kid_kind kind_in first_kind_lem kind_if tag_of lookup bodies shapes
    number-first int = refl
    number-first float = refl
    number-first long = refl
    number-first double = refl

    pub first_kind : kid_kind x.tag 0 ≡ kind_if (eqb x.tag 17 || eqb x.tag 18)
    unfolding kid_kind as_constant
    first_kind = ways (is_worked s at) refl
      where
        ways : (b : Bool) → is_worked s at ≡ b → kid_kind x.tag 0 ≡ kind_if (eqb x.tag 17 || eqb x.tag 18)
        ways true h = let w = worked-there s at x next f h in rw w.is (number-first w.number.0)
        ways false h = rw (tag-there s at x next f h) (opened (define x) next f).3

    -- what wasn't worked out is what its tag opens
    tagged : is_worked s at ≡ false → (o : Opening) × (body_of o ≡ lookup x.tag bodies) × Fit x.tag o × EntryIs s at o x next
    tagged plain =
        let o = opened (define x) next f in
        let tag = tag-there s at x next f plain in
        (o.0, o.1 ∙ ap (λ k. lookup k bodies) (sym tag), subst (λ k. Fit k o.0) (sym tag) o.2, entry_there s at x next f o.0 o.1)

    pub kids_there : 0 < length x.kids → KidsTurn s x.tag 0 (first_place x.tag at) x.kids next
    unfolding kid_kind kind_in body_of entry_body first_kind_lem bytes_between bootstrap_shape first_place as_constant
    kids_there more = by (is_worked s at) refl
      where
        none-there : {C : Type 0} → x.kids ≡ [] → C
        none-there e = absurd (omega (arith, ap length e))

        turn : (kind : Kind) (first between : ℕ) → kid_kind x.tag 0 ≡ kind → bytes_between (kind_of x.tag) 0 ≡ between → first_place x.tag at ≡ first → Refers s kind first between x.kids next → KidsTurn s x.tag 0 (first_place x.tag at) x.kids next
        turn kind first between k g e r = rw e (refers_turn kind first between k g r)

        ways : (o : Opening) → body_of o ≡ lookup x.tag bodies → Fit x.tag o → EntryIs s at o x next → KidsTurn s x.tag 0 (first_place x.tag at) x.kids next
        ways (Constant (Some Text)) b fit h = none-there h.no_kids_lem
        ways (Constant (Some (Bits n))) b fit h = none-there h.no_kids_lem
        ways (Constant (Some One)) b fit h = turn constant (at + 1) 0 (ap kind_in (sym b)) (ap (λ k. bytes_between k 0) fit.0) (rw (fit.1, first_place)) h.refers
        ways (Constant (Some Two)) b fit h = turn constant (at + 1) 0 (ap kind_in (sym b)) (ap (λ k. bytes_between k 0) fit.0) (rw (fit.1, first_place)) h.refers
        ways (Constant (Some Dynamic)) b fit h = turn bootstrap (at + 1) 0 (ap kind_in (sym b)) (ap (λ k. bytes_between k 0) fit.0) (rw (fit.1, first_place)) h.refers
        ways (Constant (Some KindOne)) b fit h =
            let e : at + 2 ≡ at + 1 + 1 = omega arith in
            turn constant (at + 1 + 1) 0 (ap kind_in (sym b)) (ap (λ k. bytes_between k 0) fit.0) (rw (fit.1, first_place) e) h.1.refers
        ways (Constant None) b fit h = absurd h
        ways Bootstrap b fit h = turn constant (at + 1) 2 (ap kind_in (sym b)) (ap (λ k. bytes_between k 0) fit.0) (rw (fit.1, first_place)) h.refers
        ways NamedConstant b fit h = absurd h
        ways NamedBootstrap b fit h = absurd h
        ways RawConstant b fit h = absurd h
        ways RawBootstrap b fit h = absurd h
        ways Version b fit h = absurd h
        ways Texts b fit h = absurd h
        ways Highest b fit h = absurd h
        ways Expression b fit h = none-there (ap (λ (y : Entry (List ℕ) Reference). y.kids) h.is)

        by : (b : Bool) → is_worked s at ≡ b → KidsTurn s x.tag 0 (first_place x.tag at) x.kids next
        by true h = none-there (ap (λ (y : Entry (List ℕ) Reference). y.kids) (worked-there s at x next f h).is)
        by false h = let o = tagged h in ways o.0 o.1 o.2 o.3

    pub literal_there : is_worked s at ≡ false → length x.kids ≡ 0 → literal_end s at x.tag ≡ next
    unfolding literal_end bits_of
    literal_there plain bare = let o = tagged plain in ways o.0 o.2 o.3
      where
        some-there : {C : Type 0} (n : ℕ) → length x.kids ≡ suc n → C
        some-there n e = absurd (omega arith)

        size : (b : Bool) (n : ℕ) → elim b [ true ↦ 8 | false ↦ 4 ] ≡ n → elim b [ true ↦ at + 9 | false ↦ at + 5 ] ≡ at + 1 + n
        size true n e = omega arith
        size false n e = omega arith

        ways : (o : Opening) → Fit x.tag o → EntryIs s at o x next → literal_end s at x.tag ≡ next
        ways (Constant (Some Text)) fit h = rw (fit.1, literal_end) (omega (arith, h.end))
        ways (Constant (Some (Bits n))) fit h = rw (fit.1, literal_end) (size (is_wide x.tag) n fit.2 ∙ h.end)
        ways (Constant (Some One)) fit h = some-there 0 h.count
        ways (Constant (Some Two)) fit h = some-there 1 h.count
        ways (Constant (Some Dynamic)) fit h = some-there 1 h.count
        ways (Constant (Some KindOne)) fit h = some-there 0 h.1.count
        ways (Constant None) fit h = absurd h
        ways Bootstrap fit h = some-there (number s h.refers.behind) h.count
        ways NamedConstant fit h = absurd h
        ways NamedBootstrap fit h = absurd h
        ways RawConstant fit h = absurd h
        ways RawBootstrap fit h = absurd h
        ways Version fit h = absurd h
        ways Texts fit h = absurd h
        ways Highest fit h = absurd h
        ways Expression fit h = true≢false (sym (eq-eqb (get_or s at 0) 0x46 (sym (tag-there s at x next f plain) ∙ fit)) ∙ plain)
