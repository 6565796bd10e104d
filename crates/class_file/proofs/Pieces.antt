-- The pieces of a file, and that together they are the file. Assumes nothing.
use mathlib.Core.List.{List, ◌++◌, append_assoc}
use mathlib.Core.Path.{◌≡◌, refl, sym, ap, ◌∙◌}
use Prim.Native.Nat.{ℕ, zero, suc, ◌+◌, ◌-◌, ◌/◌, ◌%◌, ◌<◌, ◌≤◌}
use native.Mathlib.Omega.{arith}
use lib.Dec.{leb}
use lib.ListN.{length, length-append}
use lib.Seq.{paste}
use borrow.Author.Tests.{leb-true, le-leb}
use Rattle.definition.specs.Bytes.{be2, be4}
use Rattle.jvms.specs.Written.{bytes2, bytes4, Is2, Is4}
use Rattle.facts.proofs.Lists.{tests_agree}
use Rattle.writer.proofs.Laws.{be4-halves}
use Rattle.raw_const.specs.Entries.{Wrote}
use Rattle.class_file.specs.ClassFile.{attribute-bytes, attributes-bytes, class_bytes}
use Rattle.class_file.specs.Answers.{parts_from, head_bytes, members_bytes, attributes_of, frame_size}

-- a number's bytes, as the writer has them
pub short_bytes : (x : ℕ) → Is2 x → be2 x ≡ bytes2 x
unfolding be2 bytes2
short_bytes x h =
    let high : x / 256 % 256 ≡ x / 256 = omega arith in
    rw high

pub word_bytes : (x : ℕ) → Is4 x → be4 x ≡ bytes4 x
unfolding bytes4
word_bytes x h =
    let high : Is2 (x / 65536) = omega arith in
    let low : Is2 (x % 65536) = omega arith in
    sym (be4-halves x) ∙ (λ i. short_bytes (x / 65536) high i ++ short_bytes (x % 65536) low i)

pub wrote_short : (d : List ℕ) (at x : ℕ) {d₁ : List ℕ} → Is2 x → d₁ ≡ paste d at (be2 x) 2 → Wrote d at (bytes2 x) d₁ (at + 2)
unfolding bytes2
wrote_short d at x h e = record { out = e ∙ ap (λ l. paste d at l 2) (short_bytes x h); next = refl }

pub wrote_word : (d : List ℕ) (at x : ℕ) {d₁ : List ℕ} → Is4 x → d₁ ≡ paste d at (be4 x) 4 → Wrote d at (bytes4 x) d₁ (at + 4)
unfolding bytes2 bytes4
wrote_word d at x h e = record { out = e ∙ ap (λ l. paste d at l 4) (word_bytes x h); next = refl }

-- what stands from attributes_count on, piece by piece
pub attributes-none : (name count : ℕ) (b : List ℕ) → name ≡ 0 → attributes_of name count b ≡ bytes2 0
unfolding attributes-bytes
attributes-none name count b e = rw e

pub attributes-one :
    (name count : ℕ) (b : List ℕ) → 0 < name → attributes_of name count b ≡ bytes2 1 ++ bytes2 name ++ bytes4 (2 + length b) ++ bytes2 count ++ b
unfolding attributes-bytes
attributes-one zero count b h = absurd (omega arith)
attributes-one (suc n) count b h = simp append_assoc

pub attributes-items :
    (name count : ℕ) (b : List ℕ) → 0 < name → attributes_of name count b ≡ bytes2 1 ++ (bytes2 name ++ (bytes4 (2 + length b) ++ (bytes2 count ++ b)))
attributes-items name count b h = attributes-one name count b h ∙ simp append_assoc

pub length-one : (name count : ℕ) (b : List ℕ) → 0 < name → length (attributes_of name count b) ≡ 10 + length b
unfolding bytes2 bytes4
length-one name count b h = omega (arith, ap length (attributes-one name count b h))

-- the whole file
regrouped :
    (a b c pool d e f g h i l : List ℕ) →
    (a ++ b ++ c) ++ pool ++ (d ++ e ++ f ++ g ++ h ++ i) ++ l ≡ a ++ b ++ c ++ pool ++ d ++ e ++ f ++ g ++ h ++ i ++ l
regrouped a b c pool d e f g h i l = simp append_assoc

pub file_pieces :
    (minor major : ℕ) (pool : List ℕ) (flags this super name count : ℕ) (b : List ℕ) →
    head_bytes minor major ++ pool ++ members_bytes flags this super ++ attributes_of name count b
    ≡ class_bytes (parts_from minor major pool flags this super name count b)
unfolding class_bytes attribute-bytes
file_pieces minor major pool flags this super name count b =
    regrouped (bytes4 0xcafebabe) (bytes2 minor) (bytes2 major) pool (bytes2 flags) (bytes2 this) (bytes2 super) (bytes2 0) (bytes2 0) (bytes2 0) (attributes_of name count b)

-- the same, each item before all that follows
nested :
    (a b c pool d e f g h i l : List ℕ) →
    a ++ b ++ c ++ pool ++ d ++ e ++ f ++ g ++ h ++ i ++ l ≡ a ++ (b ++ (c ++ (pool ++ (d ++ (e ++ (f ++ (g ++ (h ++ (i ++ l)))))))))
nested a b c pool d e f g h i l = simp append_assoc

-- what stands behind the pool, before the attributes
abbrev pub behind : ℕ → ℕ → ℕ → List ℕ → List ℕ
behind flags this super l = bytes2 flags ++ (bytes2 this ++ (bytes2 super ++ (bytes2 0 ++ (bytes2 0 ++ (bytes2 0 ++ l)))))

pub file_items :
    (minor major : ℕ) (pool : List ℕ) (flags this super name count : ℕ) (b : List ℕ) →
    class_bytes (parts_from minor major pool flags this super name count b)
    ≡ bytes4 0xcafebabe ++ (bytes2 minor ++ (bytes2 major ++ (pool ++ behind flags this super (attributes_of name count b))))
unfolding class_bytes attribute-bytes
file_items minor major pool flags this super name count b =
    nested (bytes4 0xcafebabe) (bytes2 minor) (bytes2 major) pool (bytes2 flags) (bytes2 this) (bytes2 super) (bytes2 0) (bytes2 0) (bytes2 0) (attributes_of name count b)

pub length-file :
    (minor major : ℕ) (pool : List ℕ) (flags this super name count : ℕ) (b : List ℕ) →
    length (class_bytes (parts_from minor major pool flags this super name count b)) ≡ 20 + length pool + length (attributes_of name count b)
unfolding bytes2 bytes4
length-file minor major pool flags this super name count b =
    omega (
      arith,
      ap length (file_pieces minor major pool flags this super name count b),
      length-append (head_bytes minor major ++ pool ++ members_bytes flags this super) (attributes_of name count b),
      length-append (head_bytes minor major ++ pool) (members_bytes flags this super),
      length-append (head_bytes minor major) pool,
    )

pub frame_none : (name : ℕ) → name ≡ 0 → 22 ≡ frame_size name
frame_none name e = rw e

pub frame_some : (name : ℕ) → 0 < name → 30 ≡ frame_size name
frame_some zero h = absurd (omega arith)
frame_some (suc n) h = refl

pub fits-left : (room f p b : ℕ) → f ≤ room → p ≤ room - f → leb b (room - f - p) ≡ leb (f + p + b) room
fits-left room f p b hf hp =
    tests_agree
    (leb b (room - f - p))
    (leb (f + p + b) room)
    (λ h. le-leb (f + p + b) room (omega (arith, leb-true b (room - f - p) h)))
    (λ h. le-leb b (room - f - p) (omega (arith, leb-true (f + p + b) room h)))
