-- The words that the references of a job become. Assumes nothing.
use mathlib.Core.Bool.{Bool, true, false}
use mathlib.Core.List.{List}
use mathlib.Core.Logic.{inl, inr}
use mathlib.Core.Path.{◌≡◌, ap, subst, ◌∙◌}
use Prim.Native.Nat.{ℕ, zero, suc, ◌+◌, ◌-◌, ◌≤◌, ◌<◌}
use native.Mathlib.Omega.{arith}
use lib.ListN.{get_or}
use Rattle.definition.specs.Shapes.{Kind, constant, bootstrap}
use Rattle.definition.specs.Job.{Reference, raw, entry, name, short_name, reference}
use Rattle.facts.proofs.Lists.{clash}
use Rattle.job.specs.declared.Stretch.{Stretch}
use Rattle.job.specs.declared.RefType.{RefType}
use Rattle.job.specs.declared.RefType.TheVariants as refType
use Rattle.job.specs.Stored.{Found, Spans, WhatStands, WhatReference, Tells}
use Rattle.job.proofs.Standing.{Says, reference-says}
use Rattle.store.specs.Store.{size}
use Rattle.store.specs.JobIn.{constants_in}
use Rattle.store.specs.Regions.{MARKS, INDEXES, Work}
use Rattle.store.specs.Words.{ENTRY, SYM, BOOTSTRAP-SYM, label_at}
use Rattle.sym_refs.specs.Names.{count_in, CitedIn}
use Rattle.sym_refs.specs.Leading.{flagged, WordFor}
use Rattle.sym_refs.proofs.Rooms.{Room, room}
use Rattle.sym_refs.proofs.Wording.{label_there, ref_raw, ref_constant, ref_bootstrap, ref_name, ref_bootstrap_name}

-- EACH WORD of a reference whose entry is there, or whose name stands at a place

module _ (s p : List ℕ) (m : Room s p) where
  raw_word : (n : ℕ) → CitedIn s (raw n) → WordFor s (raw n) n
  unfolding CitedIn
  raw_word n h = (ref_raw s (constants_in s) n h, inl (omega arith), omega arith)

  constant_word : (n : ℕ) → CitedIn s (entry constant n) → WordFor s (entry constant n) (ENTRY + n)
  unfolding CitedIn count_in
  constant_word n h =
      let l : n < constants_in s = omega (arith, m.constants) in
      let e : ENTRY + n - ENTRY ≡ n = omega arith in (
        ref_constant s (constants_in s) (ENTRY + n) (omega arith) (omega arith) ∙ ap (entry constant) e,
        inl (omega (arith, m.both)),
        omega (arith, m.both, m.entries),
      )

  bootstrap_word : (n : ℕ) → CitedIn s (entry bootstrap n) → WordFor s (entry bootstrap n) (ENTRY + constants_in s + n)
  unfolding CitedIn count_in
  bootstrap_word n h =
      let e : ENTRY + constants_in s + n - (ENTRY + constants_in s) ≡ n = omega arith in (
        ref_bootstrap s (constants_in s) (ENTRY + constants_in s + n) (omega arith) (omega (arith, m.both, m.entries)) ∙ ap (entry bootstrap) e,
        inl (omega (arith, m.both)),
        omega (arith, m.both, m.entries),
      )

  few : ENTRY + constants_in s ≤ SYM
  few = omega (arith, m.both, m.entries)

  name_word : (at : ℕ) (l : List ℕ) (next : ℕ) → Found short_name s at l next → WordFor s (name constant l) (SYM + at)
  name_word at l next f =
      let t = label_there s at l next f in
      let e : SYM + at - SYM ≡ at = omega arith in
      let low : SYM + at < BOOTSTRAP-SYM = omega (arith, t.1, m.bytes) in (
        ref_name s (constants_in s) (SYM + at) few (omega arith) low ∙ ap (λ (i : ℕ). name constant (label_at s i)) e ∙ ap (name constant) t.0,
        inr (inl (omega arith, low, rw e (l, next, f))),
        omega arith,
      )

  bootstrap_name_word : (at : ℕ) (l : List ℕ) (next : ℕ) → Found short_name s at l next → WordFor s (name bootstrap l) (BOOTSTRAP-SYM + at)
  bootstrap_name_word at l next f =
      let t = label_there s at l next f in
      let e : BOOTSTRAP-SYM + at - BOOTSTRAP-SYM ≡ at = omega arith in (
        ref_bootstrap_name s (constants_in s) (BOOTSTRAP-SYM + at) few (omega arith)
            ∙ ap (λ (i : ℕ). name bootstrap (label_at s i)) e
            ∙ ap (name bootstrap) t.0,
        inr (inr (omega arith, rw e (l, next, f))),
        omega (arith, t.1, m.bytes),
      )

-- WHAT IS READ at a place

says_name : (s : List ℕ) (at : ℕ) (kind : Kind) (form : ℕ) (a : Reference) (next : ℕ) (l : List ℕ) → a ≡ name kind l → Says s at kind form a next → Found short_name s (at + 1) l next
says_name s at kind zero a next l e h = let q = h.1 in clash (cc)
says_name s at kind (suc zero) a next l e h = let q = h.1 in clash (cc)
says_name s at kind (suc (suc zero)) a next l e (k, f, q) =
    let same : k ≡ l = cc in
    subst (λ (x : List ℕ). Found short_name s (at + 1) x next) same f
says_name s at kind (suc (suc (suc form))) a next l e h = absurd h

module _ (s p : List ℕ) (at : ℕ) (flag : Bool) (work : Work s p) (r : RefType) (told : WhatReference s at (λ kind a next. Tells s kind a r)) where
  abbrev Worded : ℕ → Type 0
  Worded x = WhatStands (reference (flagged flag)) s at (λ a next. CitedIn s a → WordFor s a x)

  pub raw_worded : (n : ℕ) → r ≡ refType.Raw n → Worded n
  unfolding Tells
  raw_worded n e a next f cited =
      let is : a ≡ raw n = rw e at (told (flagged flag) a next f) in
      rw is (raw_word s p (room s p work) n (rw is at cited))

  pub constant_worded : (n : ℕ) → r ≡ refType.Index n → flag ≡ false → Worded (ENTRY + n)
  unfolding Tells flagged
  constant_worded n e k a next f cited =
      let is : a ≡ entry constant n = rw (e, k) at (told (flagged flag) a next f) in
      rw is (constant_word s p (room s p work) n (rw is at cited))

  pub bootstrap_worded : (n c : ℕ) → r ≡ refType.Index n → c ≡ size p MARKS - size p INDEXES → flag ≡ true → Worded (ENTRY + c + n)
  unfolding Tells flagged
  bootstrap_worded n c e size k a next f cited =
      let m = room s p work in
      let count : c ≡ constants_in s = omega (arith, m.marks, m.indexes, m.both) in
      let is : a ≡ entry bootstrap n = rw (e, k) at (told (flagged flag) a next f) in
      rw (is, count) (bootstrap_word s p m n (rw is at cited))

  named-there : (stretch : Stretch) → r ≡ refType.Sym stretch → (a : Reference) (next : ℕ) → Found (reference (flagged flag)) s at a next → (l : List ℕ) × (a ≡ name (flagged flag) l) × Found short_name s (at + 1) l next
  unfolding Tells
  named-there stretch e a next f =
      let t : (l : List ℕ) × Spans s stretch l × (a ≡ name (flagged flag) l) = rw e at (told (flagged flag) a next f) in
      (t.0, t.2, says_name s at (flagged flag) (get_or s at 0) a next t.0 t.2 (reference-says s at (flagged flag) a next f).1)

  pub name_worded : (stretch : Stretch) → r ≡ refType.Sym stretch → flag ≡ false → Worded (SYM + at + 1)
  unfolding flagged
  name_worded stretch e k a next f cited =
      let t = named-there stretch e a next f in
      let is : a ≡ name constant t.0 = t.1 ∙ ap (λ (b : Bool). name (flagged b) t.0) k in
      let q : SYM + at + 1 ≡ SYM + (at + 1) = omega arith in
      rw (is, q) (name_word s p (room s p work) (at + 1) t.0 next t.2)

  pub bootstrap_name_worded : (stretch : Stretch) → r ≡ refType.Sym stretch → flag ≡ true → Worded (BOOTSTRAP-SYM + at + 1)
  unfolding flagged
  bootstrap_name_worded stretch e k a next f cited =
      let t = named-there stretch e a next f in
      let is : a ≡ name bootstrap t.0 = t.1 ∙ ap (λ (b : Bool). name (flagged b) t.0) k in
      let q : BOOTSTRAP-SYM + at + 1 ≡ BOOTSTRAP-SYM + (at + 1) = omega arith in
      rw (is, q) (bootstrap_name_word s p (room s p work) (at + 1) t.0 next t.2)
