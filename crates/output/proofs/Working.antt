-- A constant worked out is written from its words. Assumes nothing.
use mathlib.Core.Bool.{Bool, true, false}
use mathlib.Core.List.{List, [], ◌∷◌, ◌++◌, append-nil}
use mathlib.Core.Option.{some}
use mathlib.Core.Path.{◌≡◌, refl, sym, ap, ◌∙◌}
use Prim.Native.Nat.{ℕ, zero, suc, ◌+◌, ◌/◌, ◌≤◌, ◌<◌}
use native.Mathlib.Omega.{arith}
use lib.ListN.{length, get_or, set}
use lib.Seq.{paste}
use Rattle.definition.specs.Basics.{lookup}
use Rattle.definition.specs.Bytes.{be4}
use Rattle.definition.specs.Shapes.{bits, Entry, shapes, write_fields, is_wide}
use Rattle.definition.specs.Job.{Reference, define}
use Rattle.definition.specs.Run.{entry_bytes}
use Rattle.raw_const.specs.Entries.{Wrote}
use Rattle.raw_const.proofs.Writes.{wrote_then, wrote_as, wrote_byte}
use Rattle.job.specs.Stored.{Found, WhatEntry, any_definition, is_worked}
use Rattle.store.specs.Store.{Store}
use Rattle.store.specs.Regions.{OFFSETS, NODES, VALUES}
use Rattle.store.specs.Entries.{WordsAt}
use Rattle.store.specs.Words.{number_bytes}
use Rattle.store.proofs.Worked.{worked-tag, worked-wide, worked_narrow}
use Rattle.interner.specs.Nodes.{node_count}
use Rattle.output.specs.Contents.{finished_in, Made}
use Rattle.output.proofs.Showing.{entry_known, found, shown-tag, shown-literal}

-- a word
wrote_word : (d : List ℕ) (at x : ℕ) {d₁ : List ℕ} → d₁ ≡ paste d at (be4 x) 4 → Wrote d at (be4 x) d₁ (at + 4)
unfolding be4
wrote_word d at x e = record { out = e; next = refl }

word_long : (x : ℕ) → length (be4 x) ≡ 4
unfolding be4
word_long x = refl

module _ (d d₁ d₂ : List ℕ) (at tag a : ℕ) (one : d₁ ≡ set d at tag) (two : d₂ ≡ paste d₁ (at + 1) (be4 a) 4) where
  wrote_one : at + 5 ≤ length d → Wrote d at (tag ∷ be4 a) d₂ (at + 5)
  wrote_one room =
      let e : at + 5 ≡ at + 1 + 4 = omega arith in
      rw e (wrote_then (wrote_byte d at tag (omega arith) one) (omega arith) (wrote_word d₁ (at + 1) a two))

  wrote_two : (d₃ : List ℕ) (b : ℕ) → d₃ ≡ paste d₂ (at + 5) (be4 b) 4 → at + 9 ≤ length d → Wrote d at (tag ∷ (be4 a ++ be4 b)) d₃ (at + 9)
  wrote_two d₃ b three room =
      let e : at + 9 ≡ at + 5 + 4 = omega arith in
      rw e (wrote_then (wrote_one (omega arith)) (omega (arith, word_long a)) (wrote_word d₂ (at + 5) b three))

-- by its words
module _ (s values : List ℕ) (from tag : ℕ) (is : WhatEntry s from (λ x. tag ≡ x.tag)) (worked : is_worked s from ≡ true) (words : WordsAt s values from) where
  -- it has room
  module _ (d : List ℕ) (at : ℕ) (x : Entry (List ℕ) Reference) (next : ℕ) (f : Found any_definition s from (define x) next) (room : at + 1 + length x.literal ≤ length d) where
    pub room_narrow : is_wide tag ≡ false → at + 5 ≤ length d
    room_narrow narrow = omega (arith, worked_narrow s from x next f worked (ap is_wide (sym (is x next f)) ∙ narrow))

    pub room_wide : is_wide tag ≡ true → at + 9 ≤ length d
    room_wide wide = omega (arith, worked-wide s from x next f worked (ap is_wide (sym (is x next f)) ∙ wide))

    pub room_either : at + 5 ≤ length d
    room_either = ways (is_wide tag) refl
      where
        ways : (b : Bool) → is_wide tag ≡ b → at + 5 ≤ length d
        ways true w = omega (arith, room_wide w)
        ways false w = room_narrow w

  module _ (d d₁ d₂ : List ℕ) (at a : ℕ) (first : a ≡ get_or values (from / 3) 0) (one : d₁ ≡ set d at tag) (two : d₂ ≡ paste d₁ (at + 1) (be4 a) 4) where
    pub wrote_narrow : is_wide tag ≡ false → at + 5 ≤ length d → WhatEntry s from (λ x. Wrote d at (x.tag ∷ x.literal) d₂ (at + 5))
    unfolding number_bytes
    wrote_narrow narrow room x next f =
        let w : is_wide x.tag ≡ false = ap is_wide (sym (is x next f)) ∙ narrow in
        let l : be4 a ≡ x.literal = rw first (rw (w, number_bytes) at (words worked x next f)) in
        rw (← l, ← is x next f) (wrote_one d d₁ d₂ at tag a one two room)

    pub wrote_wide :
        is_wide tag ≡ true → at + 9 ≤ length d → (d₃ : List ℕ) (b : ℕ) → b ≡ get_or values (from / 3 + 1) 0 → d₃ ≡ paste d₂ (at + 5) (be4 b) 4 →
        WhatEntry s from (λ x. Wrote d at (x.tag ∷ x.literal) d₃ (at + 9))
    unfolding number_bytes
    wrote_wide wide room d₃ b second three x next f =
        let w : is_wide x.tag ≡ true = ap is_wide (sym (is x next f)) ∙ wide in
        let l : be4 a ++ be4 b ≡ x.literal = rw (first, second) (rw (w, number_bytes) at (words worked x next f)) in
        rw (← l, ← is x next f) (wrote_two d d₁ d₂ at tag a one two d₃ b three room)

-- the bytes of a number's entry
bits_bytes_lem : (e : Entry (List ℕ) ℕ) (n : ℕ) → lookup e.tag shapes ≡ some (bits n ∷ []) → entry_bytes e ≡ e.tag ∷ e.literal
unfolding entry_bytes write_fields
bits_bytes_lem e n h = rw (h, entry_bytes, append-nil)

number_bytes_lem : (e : Entry (List ℕ) ℕ) → 3 ≤ e.tag → e.tag ≤ 6 → entry_bytes e ≡ e.tag ∷ e.literal
unfolding lookup shapes
number_bytes_lem e low high = ways e.tag refl
  where
    ways : (k : ℕ) → e.tag ≡ k → entry_bytes e ≡ e.tag ∷ e.literal
    ways (suc (suc (suc zero))) q = bits_bytes_lem e 4 (ap (λ k. lookup k shapes) q)
    ways (suc (suc (suc (suc zero)))) q = bits_bytes_lem e 4 (ap (λ k. lookup k shapes) q)
    ways (suc (suc (suc (suc (suc zero))))) q = bits_bytes_lem e 8 (ap (λ k. lookup k shapes) q)
    ways (suc (suc (suc (suc (suc (suc zero)))))) q = bits_bytes_lem e 8 (ap (λ k. lookup k shapes) q)
    ways zero q = absurd (omega arith)
    ways (suc zero) q = absurd (omega arith)
    ways (suc (suc zero)) q = absurd (omega arith)
    ways (suc (suc (suc (suc (suc (suc (suc k))))))) q = absurd (omega arith)

-- A NODE that was worked out
module _ (s : List ℕ) (t : Store) (k : ℕ) (made : Made s t) (low : k < node_count t) (from : ℕ) (is : from ≡ get_or (t OFFSETS) (get_or (t NODES) k 0) 0) (worked : is_worked s from ≡ true) where
  shown-worked : entry_bytes (finished_in s t k) ≡ (entry_known s t k made low).entry.tag ∷ (entry_known s t k made low).entry.literal
  shown-worked =
      let x = entry_known s t k made low in
      let tag = shown-tag s t k made low in
      let g = worked-tag s from x.entry x.at.next (found s t k made low from is) worked in
      number_bytes_lem (finished_in s t k) (rw tag g.0) (rw tag g.1) ∙ rw (tag, shown-literal s t k made low)

  pub worked-words : WordsAt s (t VALUES) from
  worked-words = rw is (made.entered.worked (get_or (t NODES) k 0) (made.inside k low))

  pub worked-fits :
      (d : List ℕ) (at : ℕ) → at + length (entry_bytes (finished_in s t k)) ≤ length d →
      (x : Entry (List ℕ) Reference) × (next : ℕ) × Found any_definition s from (define x) next × (at + 1 + length x.literal ≤ length d)
  worked-fits d at room =
      let x = entry_known s t k made low in
      (x.entry, x.at.next, found s t k made low from is, omega (arith, ap length shown-worked))

  pub worked-written : (d d₁ : List ℕ) (at r : ℕ) → WhatEntry s from (λ x. Wrote d at (x.tag ∷ x.literal) d₁ r) → Wrote d at (entry_bytes (finished_in s t k)) d₁ r
  worked-written d d₁ at r h =
      let x = entry_known s t k made low in
      wrote_as (sym shown-worked) (h x.entry x.at.next (found s t k made low from is))
