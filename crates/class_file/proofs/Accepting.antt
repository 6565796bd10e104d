-- A file of the frame is read as the parts that stand in it. Assumes nothing.
use mathlib.Core.Bool.{true}
use mathlib.Core.List.{List, [], ◌++◌, append-nil, append_assoc}
use mathlib.Core.Option.{some}
use mathlib.Core.Path.{◌≡◌, refl, sym, ap, subst, ◌∙◌}
use Prim.Native.Nat.{ℕ, zero, suc, ◌+◌, ◌-◌, ◌<◌, ◌≤◌}
use native.Mathlib.Omega.{arith}
use lib.ListN.{length, take, drop, length-drop, length-append, drop_of_length-le}
use lib.Seq.{take-append_seam}
use Rattle.definition.specs.Basics.{good}
use Rattle.jvms.specs.Pool.{array, wholly, read_pool_lem, BootstrapMethod, read_bootstrap_methods}
use Rattle.jvms.specs.Written.{bytes2, bytes4, Is1, Is2, All}
use Rattle.writer.specs.Numbers.{number2, number4}
use Rattle.facts.proofs.Lists.{true≢false}
use Rattle.laws.specs.Statements.{IsBytes}
use Rattle.laws.proofs.Reading.ReadIsSpelled.{all_bytes, item_u2, four_bytes, takes_pool}
use Rattle.laws.proofs.Reading.SpelledIsRead.{pool_back}
use Rattle.places.specs.Standing.{slot_of}
use Rattle.places.proofs.Counting.{read_u2}
use Rattle.class_file.specs.ClassFile.{is_name_lem, class_bytes, read_class}
use Rattle.class_file.specs.Promises.{Fits}
use Rattle.class_file.specs.Answers.{parts_from, attributes_of, OneAttribute, Right, parts_at, Framed}
use Rattle.class_file.proofs.Sound.{sound_proper}
use Rattle.class_file.proofs.Proper.{named_none, named_some}
use Rattle.class_file.proofs.Naming.{bytes-behind}
use Rattle.class_file.proofs.Pieces.{attributes-none, attributes-items, behind, file_items}
use Rattle.class_file.proofs.Forth.{all_front}
use Rattle.class_file.proofs.BothWays.{exact}

module _ (file : List ℕ) (are : IsBytes file) where
  -- the number at a place fits, and its bytes stand there
  spells2 : (at next : ℕ) → next ≡ at + 2 → next ≤ length file → Is2 (number2 file at) × (drop at file ≡ bytes2 (number2 file at) ++ drop next file)
  spells2 at next after inside =
      let t = item_u2 (drop at file) (bytes-behind file are at) (number2 file at) (drop (at + 2) file) (read_u2 file at (omega arith)) in
      (t.is.0, t.are ∙ (λ i. t.is.1 i ++ drop (sym after i) file))

  spells4 : (at next : ℕ) → next ≡ at + 4 → next ≤ length file → drop at file ≡ bytes4 (number4 file at) ++ drop next file
  spells4 at next after inside =
      let (fits₁, d₁) = spells2 at (at + 2) refl (omega arith) in
      let (fits₂, d₂) = spells2 (at + 2) next (omega arith) inside in
      d₁ ∙ ap (λ l. bytes2 (number2 file at) ++ l) d₂
      ∙ sym (append_assoc (bytes2 (number2 file at)) (bytes2 (number2 file (at + 2))) (drop next file))
      ∙ ap (λ l. l ++ drop next file) (four_bytes (number2 file at) (number2 file (at + 2)) fits₁ fits₂)

  module _ (end : ℕ) (table : List ℕ) (framed : Framed file end table) where
    -- the pool's bytes
    record Pool : Type 0 where
      bytes : List ℕ
      there : drop 8 file ≡ bytes ++ drop end file
      size : 8 + length bytes ≡ end
      read : read_pool_lem bytes ≡ some framed.slots
      all : All Is1 bytes

    pool : Pool
    pool =
        let t = takes_pool (drop 8 file) (bytes-behind file are 8) framed.slots (drop end file) framed.pool_read in
        record {
          bytes = t.used;
          there = t.are;
          size =
              omega (
                arith,
                framed.behind,
                framed.members.0,
                length-drop 8 file,
                length-drop end file,
                ap length t.are,
                length-append t.used (drop end file),
              );
          read = ap read_pool_lem t.is.1 ∙ pool_back framed.slots t.is.0;
          all = all_front t.used (drop end file) (subst (All Is1) t.are (bytes-behind file are 8));
        }

    -- what stands behind the pool
    members_spelled : (l : List ℕ) → drop (end + 12) file ≡ l → drop end file ≡ behind (number2 file end) (number2 file (end + 2)) (number2 file (end + 4)) l
    members_spelled l e =
        let room = framed.members.0 in
        let d₆ : drop (end + 10) file ≡ bytes2 0 ++ l =
        (spells2 (end + 10) (end + 12) (omega arith) (omega (arith, room))).1 ∙ (λ i. bytes2 (framed.members.3 i) ++ e i) in
        let d₅ : drop (end + 8) file ≡ bytes2 0 ++ (bytes2 0 ++ l) =
        (spells2 (end + 8) (end + 10) (omega arith) (omega (arith, room))).1 ∙ (λ i. bytes2 (framed.members.2 i) ++ d₆ i) in
        let d₄ : drop (end + 6) file ≡ bytes2 0 ++ (bytes2 0 ++ (bytes2 0 ++ l)) =
        (spells2 (end + 6) (end + 8) (omega arith) (omega (arith, room))).1 ∙ (λ i. bytes2 (framed.members.1 i) ++ d₅ i) in
        (spells2 end (end + 2) refl (omega (arith, room))).1
        ∙ ap
        (λ m. bytes2 (number2 file end) ++ m)
        ((spells2 (end + 2) (end + 4) (omega arith) (omega (arith, room))).1
        ∙ ap
        (λ m. bytes2 (number2 file (end + 2)) ++ m)
        ((spells2 (end + 4) (end + 6) (omega arith) (omega (arith, room))).1 ∙ ap (λ m. bytes2 (number2 file (end + 4)) ++ m) d₄))

    accepts :
        (name count from : ℕ) → Is2 name → Is2 count → from ≤ length file →
        drop (end + 12) file ≡ attributes_of name count (drop from file) →
        Right pool.bytes name count (drop from file) →
        good (parts_at file end name count from) ≡ read_class file
    accepts name count from fn fc low attributes right =
        let room = framed.members.0 in
        let first = framed.head.0 in
        let minor = number2 file 4 in
        let major = number2 file 6 in
        let flags = number2 file end in
        let this = number2 file (end + 2) in
        let super = number2 file (end + 4) in
        let b = drop from file in
        let p = parts_from minor major pool.bytes flags this super name count b in
        let d₄ = pool.there ∙ ap (λ m. pool.bytes ++ m) (members_spelled (attributes_of name count b) attributes) in
        let d₃ = (spells2 6 8 refl first).1 ∙ ap (λ m. bytes2 major ++ m) d₄ in
        let d₂ = (spells2 4 6 refl (omega arith)).1 ∙ ap (λ m. bytes2 minor ++ m) d₃ in
        let d₁ = spells4 0 4 refl (omega arith) ∙ (λ i. bytes4 (framed.head.1 i) ++ d₂ i) in
        let is : file ≡ class_bytes p = d₁ ∙ sym (file_items minor major pool.bytes flags this super name count b) in
        let fits : Fits p =
        record {
          minor_version_fits = (spells2 4 6 refl (omega arith)).0;
          major_version_fits = (spells2 6 8 refl first).0;
          pool_fits = pool.all;
          access_flags_fits = (spells2 end (end + 2) refl (omega arith)).0;
          this_class_fits = (spells2 (end + 2) (end + 4) (omega arith) (omega arith)).0;
          super_class_fits = (spells2 (end + 4) (end + 6) (omega arith) (omega arith)).0;
          name_fits = fn;
          count_fits = fc;
          bootstraps_fits = bytes-behind file are from;
        } in
        let read : read_class file ≡ good p = (exact file p (all_bytes file are)).1 (fits, sound_proper p right, is) in
        let long : end - 8 ≡ length pool.bytes = omega (arith, pool.size) in
        let front : take (end - 8) (drop 8 file) ≡ pool.bytes =
        (λ i. take (long i) (pool.there i)) ∙ take-append_seam pool.bytes (drop end file) in
        (λ i. good (parts_from minor major (front i) flags this super name count b)) ∙ sym read

    -- no attribute
    pub accepts_none : number2 file (end + 12) ≡ 0 → length file ≡ end + 14 → good (parts_at file end 0 0 (end + 14)) ≡ read_class file
    unfolding read_bootstrap_methods array wholly
    accepts_none nothing long =
        let all : length file ≤ end + 14 = omega arith in
        let empty : drop (end + 14) file ≡ [] = drop_of_length-le file all in
        let there : drop (end + 12) file ≡ bytes2 0 =
        (spells2 (end + 12) (end + 14) (omega arith) (omega arith)).1 ∙ (λ i. bytes2 (nothing i) ++ empty i) ∙ append-nil (bytes2 0) in
        accepts 0 0 (end + 14) (omega arith) (omega arith) (omega arith)
        (there ∙ sym (attributes-none 0 0 (drop (end + 14) file) refl))
        (record {
          slots = framed.slots;
          pool_read = pool.read;
          name_held = sym (named_none framed.slots 0 0 refl);
          methods = [];
          methods_read = ap (read_bootstrap_methods 0) empty;
          short = omega (arith, ap length empty);
        })

    -- one attribute
    name_given : (n : ℕ) → is_name_lem (slot_of framed.slots n) ≡ true → 0 < n
    unfolding is_name_lem slot_of
    name_given zero h = true≢false (sym h)
    name_given (suc n) h = omega arith

    pub accepts_one :
        number2 file (end + 12) ≡ 1 → OneAttribute file (end + 14) → is_name_lem (slot_of framed.slots (number2 file (end + 14))) ≡ true →
        (methods : List BootstrapMethod) → read_bootstrap_methods (number2 file (end + 14 + 6)) (drop (end + 14 + 8) file) ≡ some methods →
        good (parts_at file end (number2 file (end + 14)) (number2 file (end + 14 + 6)) (end + 14 + 8)) ≡ read_class file
    accepts_one one (inside, long) held methods read =
        let name = number2 file (end + 14) in
        let count = number2 file (end + 14 + 6) in
        let b = drop (end + 14 + 8) file in
        let there = name_given name held in
        let size = length-drop (end + 14 + 8) file in
        let more : number4 file (end + 14 + 2) ≡ 2 + length b = omega (arith, size) in
        let (fn, d₁) = spells2 (end + 14) (end + 14 + 2) refl (omega arith) in
        let (fc, d₃) = spells2 (end + 14 + 6) (end + 14 + 8) (omega arith) inside in
        let (high, e₁) = spells2 (end + 14 + 2) (end + 14 + 2 + 2) refl (omega arith) in
        let (low, e₂) = spells2 (end + 14 + 2 + 2) (end + 14 + 6) (omega arith) (omega arith) in
        let d₂ = spells4 (end + 14 + 2) (end + 14 + 6) (omega arith) (omega arith) ∙ (λ i. bytes4 (more i) ++ d₃ i) in
        let d₀ = (spells2 (end + 12) (end + 14) (omega arith) (omega arith)).1 ∙ (λ i. bytes2 (one i) ++ (d₁ ∙ ap (λ m. bytes2 name ++ m) d₂) i) in
        accepts name count (end + 14 + 8) fn fc inside
        (d₀ ∙ sym (attributes-items name count b there))
        (record {
          slots = framed.slots;
          pool_read = pool.read;
          name_held = sym (named_some framed.slots name count there) ∙ held;
          methods = methods;
          methods_read = read;
          short = omega (arith, more, high, low);
        })
