-- A pass over a pool's slots: what was found so far, and each constant more. Assumes nothing.
use mathlib.Core.Bool.{Bool, true, false}
use mathlib.Core.List.{List, [], ◌∷◌, ◌++◌, append-nil}
use mathlib.Core.Option.{Option, none, some}
use mathlib.Core.Path.{◌≡◌, refl, sym, ap, ap₂, ◌∙◌}
use Prim.Native.Nat.{ℕ, suc, ◌+◌, ◌-◌, ◌<◌, ◌≤◌}
use native.Mathlib.Nat.{zero-add}
use native.Mathlib.Omega.{arith}
use lib.ListN.{length, drop, set, length-append, length-set}
use lib.Seq.{get_or-drop}
use Rattle.definition.specs.Shapes.{is_wide}
use Rattle.definition.specs.Jvms.{cp_info}
use Rattle.jvms.specs.Pool.{return, and_then, Constant, Utf8, Integer, Float, Long, Double, Class, String, Fieldref, Methodref, InterfaceMethodref, NameAndType, MethodHandle, MethodType, Dynamic, InvokeDynamic, Module, Package, cp_info_lem, takes_two, Slot, usable, unusable, slots}
use Rattle.jvms.specs.Written.{each_of, constant_bytes, slot_bytes_lem}
use Rattle.raw_const.specs.Entries.{extent_of, tag_and_rest, ReadAt}
use Rattle.facts.proofs.Lists.{none≢some, some_inj, same_place}
use Rattle.laws.specs.AsEntries.{as_entry}
use Rattle.laws.specs.Statements.{IsBytes}
use Rattle.laws.proofs.Reading.ReadIsSpelled.{all_bytes}
use Rattle.laws.proofs.Reading.ConstantsAgree.{over, agree_constant}
use Rattle.places.specs.Noting.{width, placed, placed_up_to, SlotsNoted}
use Rattle.std.proofs.lemmas.Option.{same_Some}
use Rattle.std.specs.Prelude.{None, Some}
use Rattle.raw_const.specs.declared.Extent.{Extent}
use Rattle.places.proofs.Finding.{then_nothing, then_joined, finds_constant}

-- an entry is wide exactly if its constant takes two slots
same_width : (c : Constant) → is_wide (as_entry c).tag ≡ takes_two c
unfolding is_wide as_entry takes_two
same_width (Utf8 bytes) = refl
same_width (Integer bytes) = refl
same_width (Float bytes) = refl
same_width (Long high low) = refl
same_width (Double high low) = refl
same_width (Class n) = refl
same_width (String n) = refl
same_width (Fieldref m n) = refl
same_width (Methodref m n) = refl
same_width (InterfaceMethodref m n) = refl
same_width (NameAndType m n) = refl
same_width (MethodHandle m n) = refl
same_width (MethodType n) = refl
same_width (Dynamic m n) = refl
same_width (InvokeDynamic m n) = refl
same_width (Module n) = refl
same_width (Package n) = refl

-- what the reader of entries tells is so of the constant there
module _ (bytes : List ℕ) (are : IsBytes bytes) (at : ℕ) where
  agrees : cp_info (drop at bytes) ≡ over as_entry (cp_info_lem (drop at bytes))
  agrees = agree_constant (drop at bytes) (all_bytes (drop at bytes) (λ i. rw get_or-drop (are (at + i))))

  pub record Read (tag next : ℕ) : Type 0 where
    pub constant : Constant
    pub read : cp_info_lem (drop at bytes) ≡ some (constant, drop next bytes)
    pub inside : next ≤ length bytes
    pub wide : is_wide tag ≡ takes_two constant

  pub entry_read : (tag next : ℕ) → ReadAt bytes at (Some (record { tag = tag; next = next })) → Read tag next
  entry_read tag next h = go (cp_info_lem (drop at bytes)) refl
    where
      go : (o : Option (Constant × List ℕ)) → cp_info_lem (drop at bytes) ≡ o → Read tag next
      go none e = none≢some (sym (ap tag_and_rest (agrees ∙ ap (over as_entry) e)) ∙ h.rest)
      go (some (c, rest)) e =
          let read = agrees ∙ ap (over as_entry) e in
          let told : ◌≡◌ {A = Option (ℕ × List ℕ)} (some ((as_entry c).tag, rest)) (some (tag, drop next bytes)) = sym (ap tag_and_rest read) ∙ h.rest in
          let read-extent : Extent = record { tag = tag; next = next } in
          let extent : Extent = record { tag = (as_entry c).tag; next = length bytes - length rest } in
          let answer = same_Some read-extent extent (h.answer ∙ ap (extent_of (length bytes)) read) in
          let ends : next ≡ length bytes - length rest = ap (λ (x : Extent). x.next) answer in
          let left : rest ≡ drop next bytes = ap (λ r. r.1) (some_inj told) in
          let same : tag ≡ (as_entry c).tag = ap (λ (x : Extent). x.tag) answer in
          record { constant = c; read = e ∙ ap (λ l. some (c, l)) left; inside = omega arith; wide = ap is_wide same ∙ same_width c }

  pub entry_bad : ReadAt bytes at None → cp_info_lem (drop at bytes) ≡ none
  entry_bad h = go (cp_info_lem (drop at bytes)) refl
    where
      go : (o : Option (Constant × List ℕ)) → cp_info_lem (drop at bytes) ≡ o → cp_info_lem (drop at bytes) ≡ none
      go none e = e
      go (some (c, rest)) e = none≢some (sym (sym (ap tag_and_rest (agrees ∙ ap (over as_entry) e)) ∙ h.rest))

-- the slots of a constant that does, or doesn't, take two
abbrev pub entry : Bool → Constant → List Slot
entry false c = usable c ∷ []
entry true c = usable c ∷ unusable ∷ []

pub width_small : (w : Bool) → (1 ≤ width w) × (width w ≤ 2)
width_small false = (omega arith, omega arith)
width_small true = (omega arith, omega arith)

entry_length : (w : Bool) (c : Constant) → length (entry w c) ≡ width w
entry_length false c = refl
entry_length true c = refl

entry_bytes_lem : (w : Bool) (c : Constant) → length (each_of slot_bytes_lem (entry w c)) ≡ length (constant_bytes c)
unfolding each_of slot_bytes_lem
entry_bytes_lem false c = ap length (append-nil (constant_bytes c))
entry_bytes_lem true c = ap length (append-nil (constant_bytes c))

each_append : (l m : List Slot) → length (each_of slot_bytes_lem (l ++ m)) ≡ length (each_of slot_bytes_lem l) + length (each_of slot_bytes_lem m)
unfolding each_of
each_append [] m = omega arith
each_append (x ∷ l) m = simp length-append (omega (arith, each_append l m))

-- a constant that is read is the first of the slots
entry_first :
    (bytes rest : List ℕ) (c : Constant) → cp_info_lem bytes ≡ some (c, rest) → (w : Bool) → takes_two c ≡ w → (k : ℕ) →
    slots (width w + k) false bytes ≡ and_then (slots k false rest) (λ more. return (entry w c ++ more))
unfolding slots
entry_first bytes rest c read false w k =
    let e : 1 + k ≡ suc k = omega arith in
    rw (e, slots, read, w)
entry_first bytes rest c read true w k =
    let e : 2 + k ≡ suc (suc k) = omega arith in
    rw (e, slots, read, w) (then_joined (usable c ∷ []) (unusable ∷ []) (slots k false rest))

entry_left :
    (bytes : List ℕ) (at : ℕ) (rest : List ℕ) (c : Constant) → cp_info_lem (drop at bytes) ≡ some (c, rest) → (w : Bool) → takes_two c ≡ w →
    (next : ℕ) → next ≡ at + length (constant_bytes c) → (k i : ℕ) (table : List ℕ) →
    placed_up_to (width w + k) false bytes at i table ≡ placed_up_to k false bytes next (i + width w) (set table i at)
unfolding placed_up_to
entry_left bytes at rest c read false w next ends k i table =
    let e : 1 + k ≡ suc k = omega arith in
    let index : i + 1 ≡ suc i = omega arith in
    rw (e, placed_up_to, read, w, ends, index)
entry_left bytes at rest c read true w next ends k i table =
    let e : 2 + k ≡ suc (suc k) = omega arith in
    let index : i + 2 ≡ suc (suc i) = omega arith in
    rw (e, placed_up_to, read, w, ends, index)

-- a table with one slot's place more, and none for the unusable slot
placed-more :
    (l : List Slot) (w : Bool) (c : Constant) (at i : ℕ) (table : List ℕ) →
    placed (l ++ entry w c) at i table ≡ set (placed l at i table) (i + length l) (at + length (each_of slot_bytes_lem l))
unfolding placed each_of slot_bytes_lem
placed-more [] false c at i table = ap₂ (λ x y. set table x y) (omega arith) (omega arith)
placed-more [] true c at i table = ap₂ (λ x y. set table x y) (omega arith) (omega arith)
placed-more (usable x ∷ l) w c at i table =
    let e : suc i + length l ≡ i + suc (length l) = omega arith in
    let next = at + length (constant_bytes x) in
    let g : next + length (each_of slot_bytes_lem l) ≡ at + length (constant_bytes x ++ each_of slot_bytes_lem l) = simp length-append (omega arith) in
    placed-more l w c next (suc i) (set table i at) ∙ ap₂ (λ m n. set (placed l next (suc i) (set table i at)) m n) e g
placed-more (unusable ∷ l) w c at i table =
    let e : suc i + length l ≡ i + suc (length l) = omega arith in
    placed-more l w c at (suc i) table ∙ ap (λ x. set (placed l at (suc i) table) x (at + length (each_of slot_bytes_lem l))) e

pub length-placed : (l : List Slot) (at i : ℕ) (table : List ℕ) → length (placed l at i table) ≡ length table
unfolding placed
length-placed [] at i table = refl
length-placed (usable c ∷ l) at i table = length-placed l (at + length (constant_bytes c)) (suc i) (set table i at) ∙ simp length-set
length-placed (unusable ∷ l) at i table = length-placed l at (suc i) table

-- what a pass over slots found up to a place: slots of so many indexes, whose places are noted, and behind them the rest is read there
pub record Passed (bytes : List ℕ) (start : ℕ) (before : List ℕ) (at slot : ℕ) (table : List ℕ) : Type 0 where
  pub found : List Slot
  pub many : slot ≡ suc (length found)
  pub here : at ≡ start + length (each_of slot_bytes_lem found)
  pub inside : at ≤ length bytes
  pub noted : table ≡ placed found start 1 before
  pub reads :
      (k : ℕ) → slots (length found + k) false (drop start bytes) ≡ and_then (slots k false (drop at bytes)) (λ more. return (found ++ more))
  pub leaves : (k : ℕ) → placed_up_to (length found + k) false bytes start 1 before ≡ placed_up_to k false bytes at slot table

pub passed_none : (bytes : List ℕ) (start : ℕ) (before : List ℕ) → start ≤ length bytes → Passed bytes start before start 1 before
unfolding placed each_of
passed_none bytes start before h =
    record {
      found = [];
      many = refl;
      here = omega arith;
      inside = h;
      noted = refl;
      reads = λ k. ap (λ n. slots n false (drop start bytes)) (zero-add k) ∙ then_nothing (slots k false (drop start bytes));
      leaves = λ k. ap (λ n. placed_up_to n false bytes start 1 before) (zero-add k);
    }

module _ {bytes : List ℕ} {start : ℕ} {before : List ℕ} {at slot : ℕ} {table : List ℕ} (p : Passed bytes start before at slot table) where
  pub passed-more :
      (c : Constant) (next : ℕ) → cp_info_lem (drop at bytes) ≡ some (c, drop next bytes) → next ≤ length bytes →
      Passed bytes start before next (slot + width (takes_two c)) (set table slot at)
  passed-more c next read inside =
      let (e, low, left, stands) = finds_constant bytes at c (drop next bytes) read in
      let ends : next ≡ at + length (constant_bytes c) = same_place bytes next e inside low left ∙ stands.behind in
      let w = takes_two c in
      let index : slot ≡ 1 + length p.found = omega (arith, p.many) in
      let size : (k : ℕ) → length (p.found ++ entry w c) + k ≡ length p.found + (width w + k) =
      λ k. simp length-append (omega (arith, entry_length w c)) in
      record {
        found = p.found ++ entry w c;
        many = simp length-append (omega (arith, p.many, entry_length w c));
        here = omega (arith, p.here, each_append p.found (entry w c), entry_bytes_lem w c);
        inside = inside;
        noted =
            ap (λ l. set l slot at) p.noted
            ∙ ap₂ (λ m n. set (placed p.found start 1 before) m n) index p.here
            ∙ sym (placed-more p.found w c start 1 before);
        reads = λ k.
            ap (λ n. slots n false (drop start bytes)) (size k)
            ∙ p.reads (width w + k)
            ∙ ap (λ o. and_then o (λ more. return (p.found ++ more))) (entry_first (drop at bytes) (drop next bytes) c read w refl k)
            ∙ then_joined p.found (entry w c) (slots k false (drop next bytes));
        leaves = λ k.
            ap (λ n. placed_up_to n false bytes start 1 before) (size k)
            ∙ p.leaves (width w + k)
            ∙ entry_left bytes at (drop next bytes) c read w refl next ends k slot table;
      }

  pub passed-size : length table ≡ length before
  passed-size = ap length p.noted ∙ length-placed p.found start 1 before

  -- no constant stands here, or one that takes two slots where one is left: the slots aren't read
  pub passed-bad : cp_info_lem (drop at bytes) ≡ none → (n : ℕ) → slot ≤ n → SlotsNoted bytes start n before table None
  unfolding slots placed_up_to
  passed-bad read n more =
      let k = n - slot in
      let size : n ≡ length p.found + suc k = omega (arith, p.many) in
      (rw size (p.reads (suc k) ∙ rw (slots, read)), passed-size, sym (rw size (p.leaves (suc k) ∙ rw (placed_up_to, read))))

  passed-cut :
      (c : Constant) (rest : List ℕ) → cp_info_lem (drop at bytes) ≡ some (c, rest) → takes_two c ≡ true → (n : ℕ) → n ≡ slot →
      SlotsNoted bytes start n before (set table slot at) None
  unfolding slots placed_up_to
  passed-cut c rest read wide n last =
      let size : n ≡ length p.found + 1 = omega (arith, p.many) in (
        rw size (p.reads 1 ∙ rw (slots, read, wide)),
        simp length-set passed-size,
        sym (rw size (p.leaves 1 ∙ rw (placed_up_to, read))),
      )

  pub passed-all : (n : ℕ) → slot ≡ suc n → slots n false (drop start bytes) ≡ some (p.found, drop at bytes)
  unfolding slots
  passed-all n last =
      let size : n ≡ length p.found + 0 = omega (arith, p.many) in
      rw size (p.reads 0 ∙ ap (λ l. some (l, drop at bytes)) (append-nil p.found))

  -- a turn: the constant that was read here is noted, and goes past the count only where it doesn't fit
  pub passed-turn :
      (are : IsBytes bytes) (tag next count m : ℕ) → Read bytes are at tag next → slot < count → m ≡ width (is_wide tag) →
      Passed bytes start before next (slot + m) (set table slot at)
      × (count < slot + m → SlotsNoted bytes start (count - 1) before (set table slot at) None)
  passed-turn are tag next count m r low size =
      let e : m ≡ width (takes_two r.constant) = size ∙ ap width r.wide in (
        rw e (passed-more r.constant next r.read r.inside),
        λ past. over (takes_two r.constant) refl (rw e at past),
      )
    where
      over : (w : Bool) → takes_two r.constant ≡ w → count < slot + width w → SlotsNoted bytes start (count - 1) before (set table slot at) None
      over false is past = absurd (omega arith)
      over true is past = passed-cut r.constant (drop next bytes) r.read is (count - 1) (omega arith)
