-- The promises of every listing hold (specs/Promises.antt). Assumes nothing.
use mathlib.Core.Bool.{Bool, true, false}
use mathlib.Core.List.{List, ◌++◌}
use mathlib.Core.Logic.{◌⊎◌, inl, inr}
use mathlib.Core.Option.{Option, none, some}
use mathlib.Core.Path.{◌≡◌, refl, sym, ap, subst, ◌∙◌}
use Prim.Native.Nat.{ℕ, ◌≤◌}
use native.Mathlib.Omega.{arith}
use lib.Dec.{leb}
use lib.ListN.{length, take, drop, length-append, length-drop}
use lib.Seq.{take-append_seam, drop-append_seam}
use borrow.Author.Tests.{leb-true}
use Rattle.definition.specs.Basics.{Result, good, bad}
use Rattle.facts.proofs.Results.{bad≢good, good_inj, bad_inj}
use Rattle.jvms.specs.Pool.{Slot, BootstrapMethod, read_pool_lem, read_bootstrap_methods}
use Rattle.listing.specs.Listing.{Finished, lines, fitting, listed, listing}
use Rattle.listing.specs.Lists.{Answers, Lists}
use Rattle.std.specs.Prelude.{Result as Outcome, Ok, Err}
use Rattle.refusal.specs.Numbers.{number, answer_of}
use Rattle.refusal.specs.declared.Refusal.{Refusal}
use Rattle.refusal.specs.declared.Refusal.TheVariants.{NotPool}
use Rattle.refusal.proofs.Numbers.{number-injective}
use Rattle.listing.specs.Promises.{line_ends, entries, LineForEach, PrefixOnly, Untouched, Unread, ReadAlike}
use Rattle.listing.proofs.Answered.{unread}
use Rattle.listing.proofs.OneLine.{line-for_each}

-- ---- what an answer tells

answer_inj : (r r' : Outcome ℕ Refusal) → answer_of r ≡ answer_of r' → r ≡ r'
unfolding answer_of
answer_inj (Ok n) (Ok n') e = ap Ok (good_inj e)
answer_inj (Ok n) (Err r) e = bad≢good (sym e)
answer_inj (Err r) (Ok n) e = bad≢good e
answer_inj (Err r) (Err r') e = ap Err (number-injective r r' (bad_inj e))

record Listing (res : Result ℕ (List ℕ)) (before after : List ℕ) (n : ℕ) : Type 0 where
  text : List ℕ
  is : res ≡ good text
  size : n ≡ length text
  out : after ≡ text ++ drop (length text) before

text_answer : (res : Result ℕ (List ℕ)) (before after : List ℕ) (n : ℕ) → Answers res before after (Ok n) → Listing res before after n
unfolding Answers answer_of
text_answer (bad code) before after n (e, _) = bad≢good (sym e)
text_answer (good text) before after n (e, out) = record { text = text; is = refl; size = good_inj e; out = out }

refused_answer : (res : Result ℕ (List ℕ)) (before after : List ℕ) (r : Refusal) → Answers res before after (Err r) → (res ≡ bad (number r)) × (after ≡ before)
unfolding Answers answer_of
refused_answer (bad code) before after r (e, same) = (ap bad (sym (bad_inj e)), same)
refused_answer (good text) before after r (e, _) = bad≢good e

-- ---- what a listing tells of what was read

fitting-good : (room : ℕ) (lines' text : List ℕ) → fitting room lines' ≡ good text → (lines' ≡ text) × (length lines' ≤ room)
unfolding fitting
fitting-good room lines' text e = ways (leb (length lines') room) refl e
  where
    ways :
        (b : Bool) → leb (length lines') room ≡ b → ◌≡◌ {A = Result ℕ (List ℕ)} (elim b [ true ↦ good lines' | false ↦ bad 18 ]) (good text) →
        (lines' ≡ text) × (length lines' ≤ room)
    ways true t h = (good_inj h, leb-true (length lines') room t)
    ways false t h = bad≢good h

fitting-bad : (room : ℕ) (text : List ℕ) (code : ℕ) → fitting room text ≡ bad code → code ≡ 18
unfolding fitting
fitting-bad room text code e = ways (leb (length text) room) e
  where
    ways : (b : Bool) → ◌≡◌ {A = Result ℕ (List ℕ)} (elim b [ true ↦ good text | false ↦ bad 18 ]) (bad code) → code ≡ 18
    ways true h = bad≢good (sym h)
    ways false h = sym (bad_inj h)

listed-good :
    (room : ℕ) (pool : Option (List Slot)) (methods : Option (List BootstrapMethod)) (text : List ℕ) → listed room pool methods ≡ good text →
    (slots : List Slot) × (pool ≡ some slots) × (line_ends text ≡ entries slots) × (length text ≤ room)
unfolding listed
listed-good room none methods text e = bad≢good e
listed-good room (some slots) none text e = bad≢good e
listed-good room (some slots) (some methods) text e =
    let f : Finished = record { slots = slots; methods = methods } in
    let (same, low) = fitting-good room (lines f) text e in
    (slots, refl, ap line_ends (sym same) ∙ line-for_each f, rw same at low)

listed-bad :
    (room : ℕ) (pool : Option (List Slot)) (methods : Option (List BootstrapMethod)) (code : ℕ) → listed room pool methods ≡ bad code →
    ((code ≡ 21) × ((pool ≡ none) ⊎ (methods ≡ none))) ⊎ (code ≡ 18)
unfolding listed
listed-bad room none methods code e = inl (sym (bad_inj e), inl refl)
listed-bad room (some slots) none code e = inl (sym (bad_inj e), inr refl)
listed-bad room (some slots) (some methods) code e = inr (fitting-bad room (lines (record { slots = slots; methods = methods })) code e)

-- ---- the promises

pub line_for_each : LineForEach
unfolding Lists listing
line_for_each pool count methods before after n h =
    let a = text_answer (listing (length before) pool count methods) before after n h in
    let (slots, read, many, low) = listed-good (length before) (read_pool_lem pool) (read_bootstrap_methods count methods) a.text a.is in
    let front : take n after ≡ a.text = (λ i. take (a.size i) (a.out i)) ∙ take-append_seam a.text (drop (length a.text) before) in
    (slots, read, ap line_ends front ∙ many)

pub prefix_only : PrefixOnly
unfolding Lists listing
prefix_only pool count methods before after n h =
    let a = text_answer (listing (length before) pool count methods) before after n h in
    let (slots, read, many, low) = listed-good (length before) (read_pool_lem pool) (read_bootstrap_methods count methods) a.text a.is in
    let rest = drop (length a.text) before in
    let all : length (a.text ++ rest) ≡ length before = omega (arith, length-append a.text rest, length-drop (length a.text) before) in
    (omega (arith, a.size), ap length a.out ∙ all, (λ i. drop (a.size i) (a.out i)) ∙ drop-append_seam a.text rest ∙ ap (λ k. drop k before) (sym a.size))

pub untouched : Untouched
unfolding Lists listing
untouched pool count methods before after r h =
    let (is, same) = refused_answer (listing (length before) pool count methods) before after r h in
    (ways (listed-bad (length before) (read_pool_lem pool) (read_bootstrap_methods count methods) (number r) is), same)
  where
    ways : {A : Type 0} → ((number r ≡ 21) × A) ⊎ (number r ≡ 18) → (number r ≡ 21) ⊎ (number r ≡ 18)
    ways (inl p) = inl p.0
    ways (inr e) = inr e

pub unread_only : Unread
unfolding Lists Answers listing number answer_of
unread_only pool count methods before after r h = (
  λ e.
      let (is, same) = refused_answer res before after NotPool (subst (Answers res before after) e h) in
      ways (listed-bad (length before) (read_pool_lem pool) (read_bootstrap_methods count methods) 21 is),
  λ w. told (subst (λ res. Answers res before after r) (unread (length before) (read_pool_lem pool) (read_bootstrap_methods count methods) w) h),
)
  where
    res : Result ℕ (List ℕ)
    res = listing (length before) pool count methods

    ways : {A : Type 0} → (◌≡◌ {A = ℕ} 21 21 × A) ⊎ ◌≡◌ {A = ℕ} 21 18 → A
    ways (inl p) = p.1
    ways (inr e) = absurd (omega arith)

    told : Answers (bad 21) before after r → r ≡ Err NotPool
    told a = answer_inj r (Err NotPool) a.0

alike :
    (res : Result ℕ (List ℕ)) (before before' after after' : List ℕ) (r r' : Outcome ℕ Refusal) → Answers res before after r → Answers res before' after' r' →
    (r ≡ r') × ((n : ℕ) → r ≡ Ok n → take n after ≡ take n after')
unfolding Answers answer_of
alike (bad code) before before' after after' r r' (e, _) (e', _) = (answer_inj r r' (e ∙ sym e'), λ n t. bad≢good (sym e ∙ ap answer_of t))
alike (good text) before before' after after' r r' (e, out) (e', out') = (
  answer_inj r r' (e ∙ sym e'),
  λ n t.
      let size : n ≡ length text = good_inj (sym (ap answer_of t) ∙ e) in
      rw (size, out, out') (take-append_seam text (drop (length text) before) ∙ sym (take-append_seam text (drop (length text) before'))),
)

pub read_alike_lem : ReadAlike
unfolding Lists listing
read_alike_lem pool pool' count count' methods methods' before before' after after' r r' p m room h h' =
    let same : listing (length before) pool count methods ≡ listing (length before') pool' count' methods' = λ i. listed (room i) (p i) (m i) in
    alike (listing (length before') pool' count' methods') before before' after after' r r' (subst (λ res. Answers res before after r) same h) h'
