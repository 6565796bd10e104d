-- A block that is written field by field behind each other is the definition's. Assumes nothing.
use mathlib.Core.Path.{◌≡◌, refl, sym, ap, ◌∙◌}
use mathlib.Core.List.{List, ◌++◌, append_assoc}
use Prim.Native.Nat.{ℕ, ◌+◌, ◌*◌, ◌-◌, ◌≤◌, min}
use native.Mathlib.Omega.{arith}
use lib.ListN.{length, take, drop, replicate, length-append, length-take, length-drop, length-replicate}
use lib.Seq.{paste, take-length}
use Rattle.definition.specs.Bytes.{be2, be4}
use Rattle.definition.specs.Run.{overwrite}
use Rattle.definition.specs.Blocks.{weighted, block, written_block}
use Rattle.facts.proofs.Chunks.{joined, length-joined}
use Rattle.facts.proofs.Copies.{take_short, paste-front, paste-there, part_more}
use Rattle.writer.proofs.Laws.{paste-paste}

-- a copy of a whole list a to a place, and of b behind it
grown :
    (d o o' a b : List ℕ) (base at n : ℕ) → o ≡ paste d base a (length a) → o' ≡ paste o at b n →
    at ≡ base + length a → n ≡ length b → base + length a ≤ length d → o' ≡ paste d base (a ++ b) (length (a ++ b))
grown d o o' a b base at n copied more ea en room =
    rw (more, copied, ea, en) (paste-paste d a b base (length b) room ∙ ap (paste d base (a ++ b)) (sym (length-append a b)))

-- the fields of a block of a job, in their order
module _ (job : List ℕ) (k : ℕ) where
  front : ℕ → List ℕ
  front used = be2 k ++ be2 used ++ take 504 (drop (504 * k) job) ++ replicate (504 - used) 0

  block-fields :
      (used sum : ℕ) → used ≡ length (take 504 (drop (504 * k) job)) → sum ≡ weighted 0 (front used) →
      front used ++ be4 sum ≡ written_block job k
  unfolding written_block block front
  block-fields used sum eu es =
      let part = take 504 (drop (504 * k) job) in
      let zeros : List ℕ = replicate (504 - length part) 0 in
      rw (es, eu) (ap (λ l. l ++ be4 (weighted 0 l)) (append_assoc (be2 k ++ be2 (length part)) part zeros))

  length_front : (used : ℕ) → used ≡ length (take 504 (drop (504 * k) job)) → used ≤ 504 → length (front used) ≡ 508
  unfolding front be2
  length_front used eu small =
      let part = take 504 (drop (504 * k) job) in
      let zeros : List ℕ = replicate (504 - used) 0 in
      let lz : length zeros ≡ 504 - used = length-replicate (504 - used) 0 in
      omega (arith, length-append part zeros)

-- number, use, content, zeros and check, written one behind the other, are the block
pub block_written :
    (job out o₁ o₂ o₃ o₄ o₅ : List ℕ) (k used sum : ℕ) → 512 * k + 512 ≤ length out → used ≡ min 504 (length job - 504 * k) →
    o₁ ≡ paste out (512 * k) (be2 k) 2 →
    o₂ ≡ paste o₁ (512 * k + 2) (be2 used) 2 →
    o₃ ≡ paste o₂ (512 * k + 4) (drop (504 * k) job) used →
    o₄ ≡ paste o₃ (512 * k + 4 + used) (replicate (504 - used) 0) (504 - used) →
    sum ≡ weighted 0 (take (512 * k + 508 - 512 * k) (drop (512 * k) o₄)) →
    o₅ ≡ paste o₄ (512 * k + 508) (be4 sum) 4 →
    o₅ ≡ paste out (512 * k) (written_block job k) 512
unfolding front be2 be4
block_written job out o₁ o₂ o₃ o₄ o₅ k used sum room eu e₁ e₂ e₃ e₄ es e₅ =
    let base = 512 * k in
    let rest = drop (504 * k) job in
    let part = take 504 rest in
    let zeros : List ℕ = replicate (504 - used) 0 in
    let small : used ≤ 504 = omega arith in
    let lp : used ≡ length part = eu ∙ sym (length-take 504 rest ∙ ap (min 504) (length-drop (504 * k) job)) in
    let lz : length zeros ≡ 504 - used = length-replicate (504 - used) 0 in
    let lf : length (front job k used) ≡ 508 = length_front job k used lp small in
    let whole : paste o₂ (base + 4) rest used ≡ paste o₂ (base + 4) part used =
    paste-front o₂ rest (base + 4) used ∙ ap (λ l. paste o₂ (base + 4) l used) (ap (λ n. take n rest) lp ∙ take_short 504 rest) in
    let head = be2 k ++ be2 used in
    let p₂ = grown out o₁ o₂ (be2 k) (be2 used) base (base + 2) 2 e₁ e₂ refl refl (omega arith) in
    let p₃ = grown out o₂ o₃ head part base (base + 4) used p₂ (e₃ ∙ whole) refl lp (omega arith) in
    let end : base + 4 + used ≡ base + length (head ++ part) = omega arith in
    let p₄ = grown out o₃ o₄ (head ++ part) zeros base (base + 4 + used) (504 - used) p₃ e₄ end (sym lz) (omega arith) in
    let p₅ = grown out o₄ o₅ (front job k used) (be4 sum) base (base + 508) 4 p₄ e₅ (omega arith) refl (omega arith) in
    let size₄ : base + 508 - base ≡ length (front job k used) = omega arith in
    let there : take (base + 508 - base) (drop base o₄) ≡ front job k used =
    ap (λ n. take n (drop base o₄)) size₄
    ∙ ap (λ l. take (length (front job k used)) (drop base l)) p₄
    ∙ paste-there out (front job k used) base (length (front job k used)) (omega arith) (omega arith)
    ∙ take-length (front job k used) in
    let summed : sum ≡ weighted 0 (front job k used) = es ∙ ap (weighted 0) there in
    let size : length (front job k used ++ be4 sum) ≡ 512 = length-append (front job k used) (be4 sum) ∙ ap (λ n. n + 4) lf in
    p₅ ∙ ap (paste out base (front job k used ++ be4 sum)) size ∙ ap (λ l. paste out base l 512) (block-fields job k used sum lp summed)

pub length-written : (job : List ℕ) (k : ℕ) → length (written_block job k) ≡ 512
unfolding be4
length-written job k =
    let part = take 504 (drop (504 * k) job) in
    let used = length part in
    let sum = weighted 0 (front job k used) in
    let small : used ≤ 504 = rw (length-take 504 (drop (504 * k) job)) (omega arith) in
    ap length (sym (block-fields job k used sum refl refl))
    ∙ length-append (front job k used) (be4 sum)
    ∙ ap (λ n. n + 4) (length_front job k used refl small)

pub length-file : (job : List ℕ) (n : ℕ) → length (joined (written_block job) n) ≡ 512 * n
length-file job n = length-joined 512 (written_block job) 0 n (λ j _ _. length-written job j)

-- a turn of the loop over the blocks
pub blocks_more :
    (job d : List ℕ) (k : ℕ) →
    paste (overwrite (joined (written_block job) k) d) (512 * k) (written_block job k) 512 ≡
    overwrite (joined (written_block job) (k + 1)) d
blocks_more job d k =
    part_more (written_block job) k d (512 * k) 512 (length-file job k) (length-written job k)
