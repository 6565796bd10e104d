-- What a file that is read has, so that a file without it is refused. Assumes nothing.
use mathlib.Core.Bool.{Bool, true, false}
use mathlib.Core.List.{List, [], append-nil}
use mathlib.Core.Option.{Option, none, some}
use mathlib.Core.Path.{◌≡◌, refl, sym, ap, subst, ◌∙◌}
use Prim.Native.Nat.{ℕ, zero, suc, ◌+◌, ◌<◌, ◌≤◌}
use native.Mathlib.Omega.{arith}
use lib.ListN.{length, drop, length-drop}
use Rattle.definition.specs.Basics.{good, bad}
use Rattle.jvms.specs.Pool.{◌>>=◌, u2, Slot, constant_pool, wholly, read_bootstrap_methods}
use Rattle.jvms.specs.Written.{bytes2}
use Rattle.writer.specs.Numbers.{number2, number4}
use Rattle.facts.proofs.Lists.{none≢some, some_inj, true≢false}
use Rattle.laws.specs.Statements.{IsBytes}
use Rattle.laws.proofs.Reading.ReadIsSpelled.{all_bytes}
use Rattle.places.specs.Standing.{slot_of}
use Rattle.class_file.specs.ClassFile.{Parts, is_name_lem, proper, class_bytes, class_file, accepted, read_class}
use Rattle.class_file.specs.Promises.{Fits}
use Rattle.class_file.specs.Answers.{Head, NoMembers, OneAttribute, Framed}
use Rattle.class_file.proofs.Local.{pool_before}
use Rattle.class_file.proofs.Sound.{Sound, proper-sound}
use Rattle.class_file.proofs.Proper.{named_some}
use Rattle.class_file.proofs.Pieces.{attributes-none, attributes-items}
use Rattle.class_file.proofs.Forth.{parts-forth}
use Rattle.class_file.proofs.Placed.{stands2, stands4, Laid, laid}

only-27 : (o : Option Parts) → ((p : Parts) → accepted o ≡ good p → ⊥) → accepted o ≡ bad 27
unfolding accepted
only-27 none h = refl
only-27 (some p) h = go (proper p) refl
  where
    go : (b : Bool) → proper p ≡ b → accepted (some p) ≡ bad 27
    go true e = absurd (h p (rw (e, accepted)))
    go false e = rw (e, accepted)

-- what stands from attributes_count on, in the file of parts with a name slot
record Attribute (file : List ℕ) (p : Parts) (e : ℕ) : Type 0 where
  one : number2 file (e + 12) ≡ 1
  name_is : number2 file (e + 14) ≡ p.name
  long_is : number4 file (e + 14 + 2) ≡ 2 + length p.bootstraps
  count_is : number2 file (e + 14 + 6) ≡ p.count
  inside : e + 14 + 8 ≤ length file
  rest_is : drop (e + 14 + 8) file ≡ p.bootstraps

data Ends (file : List ℕ) (p : Parts) (e : ℕ) : Type 0 where
  bare : number2 file (e + 12) ≡ 0 → length file ≡ e + 14 → Ends file p e
  more : 0 < p.name → Attribute file p e → Ends file p e

ends : (file : List ℕ) (p : Parts) (e : ℕ) → Fits p → Sound p → Laid file p e → Ends file p e
ends file p e f s l = go p.name refl
  where
    go : (n : ℕ) → p.name ≡ n → Ends file p e
    go zero z =
        let there = l.attributes-there ∙ attributes-none p.name p.count p.bootstraps z ∙ sym (append-nil (bytes2 0)) in
        let (inside, n₀, d₀) = stands2 file (e + 12) (e + 14) 0 [] (omega arith) (omega arith) there in
        bare n₀ (omega (arith, inside, length-drop (e + 14) file, ap length d₀))
    go (suc n) z =
        let name = p.name in
        let named : 0 < name = omega arith in
        let there = l.attributes-there ∙ attributes-items name p.count p.bootstraps named in
        let (in₀, n₀, d₀) = stands2 file (e + 12) (e + 14) 1 _ (omega arith) (omega arith) there in
        let (in₁, n₁, d₁) = stands2 file (e + 14) (e + 14 + 2) name _ refl f.name_fits d₀ in
        let (in₂, n₂, d₂) = stands4 file (e + 14 + 2) (e + 14 + 6) (2 + length p.bootstraps) _ (omega arith) (omega (arith, s.short)) d₁ in
        let (in₃, n₃, d₃) = stands2 file (e + 14 + 6) (e + 14 + 8) p.count p.bootstraps (omega arith) f.count_fits d₂ in
        more named (record { one = n₀; name_is = n₁; long_is = n₂; count_is = n₃; inside = in₃; rest_is = d₃ })

module _ (file : List ℕ) (are : IsBytes file) where
  refuses : ((p : Parts) → Fits p → Sound p → file ≡ class_bytes p → ⊥) → bad 27 ≡ read_class file
  unfolding read_class
  refuses h =
      sym
      (only-27 (wholly (class_file file)) (λ p e.
      let (f, ok, is) = parts-forth file p (all_bytes file are) e in
      h p f (proper-sound p ok) is))

  pub no_head : (Head file → ⊥) → bad 27 ≡ read_class file
  no_head h = refuses (λ p f s is. h (laid file p f is).head)

  pub no_pool_there : (u2 >>= constant_pool) (drop 8 file) ≡ none → bad 27 ≡ read_class file
  no_pool_there h =
      refuses (λ p f s is.
      let l = laid file p f is in
      none≢some (sym h ∙ ap (u2 >>= constant_pool) l.pool_there ∙ pool_before p.pool _ s.slots s.pool_read))

  -- where the pool was read, it is that of the parts
  module _ (found : List Slot) (end : ℕ) (read : (u2 >>= constant_pool) (drop 8 file) ≡ some (found, drop end file)) (low : end ≤ length file) where
    meets : (p : Parts) → Fits p → (s : Sound p) → file ≡ class_bytes p → Laid file p end × (s.slots ≡ found)
    meets p f s is =
        let l = laid file p f is in
        let e = 8 + length p.pool in
        let pair : ◌≡◌ {A = List Slot × List ℕ} (found, drop end file) (s.slots, drop e file) =
        some_inj (sym read ∙ ap (u2 >>= constant_pool) l.pool_there ∙ pool_before p.pool (drop e file) s.slots s.pool_read) in
        let same : e ≡ end = omega (arith, length-drop end file, length-drop e file, ap length (ap (λ r. r.1) pair), l.inside) in
        (subst (λ k. Laid file p k) same l, sym (ap (λ r. r.0) pair))

    pub has_members : (NoMembers file end → ⊥) → bad 27 ≡ read_class file
    has_members h =
        refuses (λ p f s is.
        let (l, same) = meets p f s is in
        h (room p f s l, l.interfaces, l.fields, l.methods))
      where
        room : (p : Parts) → Fits p → Sound p → Laid file p end → end + 14 ≤ length file
        room p f s l = way (ends file p end f s l)
          where
            way : Ends file p end → end + 14 ≤ length file
            way (bare n long) = omega arith
            way (more there a) = omega (arith, a.inside)

  -- a file of the frame up to its attributes
  module _ (end : ℕ) (table : List ℕ) (framed : Framed file end table) where
    known : (p : Parts) → Fits p → (s : Sound p) → file ≡ class_bytes p → Ends file p end × (s.slots ≡ framed.slots)
    known p f s is =
        let (l, same) = meets framed.slots end framed.pool_read (omega (arith, framed.members.0)) p f s is in
        (ends file p end f s l, same)

    pub many-attributes : (number2 file (end + 12) ≡ 1 → ⊥) → (number2 file (end + 12) ≡ 0 → ⊥) → bad 27 ≡ read_class file
    many-attributes not-one not-zero = refuses (λ p f s is. way p (known p f s is).0)
      where
        way : (p : Parts) → Ends file p end → ⊥
        way p (bare n long) = not-zero n
        way p (more there a) = not-one a.one

    pub left_over : number2 file (end + 12) ≡ 0 → (length file ≡ end + 14 → ⊥) → bad 27 ≡ read_class file
    left_over nothing h = refuses (λ p f s is. way p (known p f s is).0)
      where
        way : (p : Parts) → Ends file p end → ⊥
        way p (bare n long) = h long
        way p (more there a) = omega (arith, a.one)

    -- with one attribute
    module _ (one : number2 file (end + 12) ≡ 1) where
      with_one : ((p : Parts) (s : Sound p) → s.slots ≡ framed.slots → 0 < p.name → Attribute file p end → ⊥) → bad 27 ≡ read_class file
      with_one h = refuses (λ p f s is. way p s (known p f s is).1 (known p f s is).0)
        where
          way : (p : Parts) (s : Sound p) → s.slots ≡ framed.slots → Ends file p end → ⊥
          way p s same (bare n long) = omega arith
          way p s same (more there a) = h p s same there a

      pub no_attribute : (OneAttribute file (end + 14) → ⊥) → bad 27 ≡ read_class file
      no_attribute h =
          with_one (λ p s same there a.
          h (a.inside, omega (arith, a.inside, a.long_is, length-drop (end + 14 + 8) file, ap length a.rest_is)))

      pub other_name : is_name_lem (slot_of framed.slots (number2 file (end + 14))) ≡ false → bad 27 ≡ read_class file
      other_name h =
          with_one (λ p s same there a.
          let held = named_some s.slots p.name p.count there ∙ s.name_held in
          true≢false (sym held ∙ (λ i. is_name_lem (slot_of (same i) (sym a.name_is i))) ∙ h))

      pub other_methods :
          read_bootstrap_methods (number2 file (end + 14 + 6)) (drop (end + 14 + 8) file) ≡ none → bad 27 ≡ read_class file
      other_methods h =
          with_one (λ p s same there a.
          none≢some (sym h ∙ (λ i. read_bootstrap_methods (a.count_is i) (a.rest_is i)) ∙ s.methods_read))
