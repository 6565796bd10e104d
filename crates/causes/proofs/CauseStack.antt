-- Why resolving is refused: at a goal that it reaches and that is a refusal, or with 13 at an entry that it reaches and that leads to itself;
-- or for want of fuel. Entries whose leaving lies on the stack lead to all that lies above it. Assumes nothing.
use mathlib.Core.List.{List, [], ◌∷◌, ◌++◌, map, append_assoc}
use mathlib.Core.Logic.{◌⊎◌, inl, inr}
use mathlib.Core.Option.{some}
use mathlib.Core.Path.{◌≡◌, refl, sym, ap, subst, ◌∙◌}
use Prim.Native.Nat.{ℕ, zero, suc, ◌≤◌, ◌<◌}
use native.Mathlib.Omega.{arith}
use lib.ListN.{length, get_or, get_elem?, set, length-set, get_or-eq_default}
use Rattle.definition.specs.Shapes.{Entry, with_kids}
use Rattle.definition.specs.Resolving.{Goal, raw_number, table_entry, refusal, Node, child_of, Mark, fresh, underway, done, Resolved, Item, enter, leave, kids_at, visited, leave_node, leaving, entering, step, work, fuel_for, resolve}
use Rattle.facts.specs.Lists.{Among}
use Rattle.facts.proofs.Lists.{clash, order, read_found, found_inside, inside_found, found_after_set, among-nil, among-cons, among_later}
use Rattle.facts.proofs.Outcomes.{Ends, well, refused, next, Anything}

-- From: what is reached; Goes: where an entry of the table leads in one step or more
module _
    (table : List (Entry ℕ Goal))
    (From : Goal → Type 0)
    (Goes : ℕ → Goal → Type 0)
    (child : (e : ℕ) (x : Entry ℕ Goal) (g : Goal) → get_elem? table e ≡ some x → Among g x.kids → Goes e g)
    (goes_on : (d e : ℕ) (g : Goal) → Goes d (table_entry e) → Goes e g → Goes d g)
    (from_on : (e : ℕ) (g : Goal) → From (table_entry e) → Goes e g → From g) where
  -- why: a goal that is this refusal, or an entry that leads to itself
  abbrev pub Why : ℕ → Type 0
  Why code = From (refusal code) ⊎ ((code ≡ 13) × ((e : ℕ) × From (table_entry e) × Goes e (table_entry e)))

  abbrev Z : ℕ → Type 0
  Z code = (code ≡ 0) ⊎ Why code

  -- the stack: each goal is reached, also from every entry whose leaving lies below
  abbrev Chain : List Item → Type 0
  Chain [] = Unit {0}
  Chain (enter g ∷ rest) = From g × ((e : ℕ) → Among (leave e) rest → Goes e g) × Chain rest
  Chain (leave d ∷ rest) = (d < length table) × Chain rest

  -- each entry under way has its leaving there
  record Lies (s : Resolved) (stack : List Item) : Type 0 where
    chain : Chain stack
    under : (e : ℕ) → get_elem? s.marks e ≡ some underway → Among (leave e) stack
    marks_length : length s.marks ≡ length table

  leave_below : (e : ℕ) (g : Goal) (rest : List Item) → Among (leave e) (enter g ∷ rest) → Among (leave e) rest
  leave_below e g rest a = go (among-cons (leave e) (enter g) rest a)
    where
      go : (leave e ≡ enter g) ⊎ Among (leave e) rest → Among (leave e) rest
      go (inl q) = clash (cc)
      go (inr h) = h

  leaves_below : (e : ℕ) (ks : List Goal) (rest : List Item) → Among (leave e) (map enter ks ++ rest) → Among (leave e) rest
  leaves_below e [] rest a = a
  leaves_below e (g ∷ ks) rest a = leaves_below e ks rest (leave_below e g (map enter ks ++ rest) a)

  pushed :
      (ks : List Goal) (rest : List Item) →
      ((g : Goal) → Among g ks → From g) →
      ((g : Goal) (e : ℕ) → Among g ks → Among (leave e) rest → Goes e g) →
      Chain rest →
      Chain (map enter ks ++ rest)
  pushed [] rest from goes h = h
  pushed (g ∷ ks) rest from goes h = (
    from g (0, refl),
    λ e a. goes g e (0, refl) (leaves_below e ks rest a),
    pushed ks rest (λ k a. from k (among_later k g ks a)) (λ k e a. goes k e (among_later k g ks a)) h,
  )

  -- below the pushed ones all is still there
  among-pushed : (i : Item) (ks : List Goal) (rest : List Item) → Among i rest → Among i (map enter ks ++ rest)
  among-pushed i [] rest a = a
  among-pushed i (g ∷ ks) rest a = among_later i (enter g) (map enter ks ++ rest) (among-pushed i ks rest a)

  -- a popped goal
  popped : (g : Goal) (rest : List Item) (s : Resolved) → Lies s (enter g ∷ rest) → Lies (visited s) rest
  unfolding visited
  popped g rest s h =
      record { chain = h.chain.2; under = λ e u. leave_below e g rest (h.under e u); marks_length = h.marks_length }

  kids_at_lem : (e : ℕ) (g : Goal) → e < length table → Among g (kids_at table e) → Goes e g
  unfolding kids_at
  kids_at_lem e g l a =
      let f = inside_found table e l in
      child e f.0 g f.1 (rw (f.1, kids_at) at a)

  -- what a mark that isn't done says
  mark_found : (marks : List Mark) (e : ℕ) (m : Mark) → (m ≡ done 0 → ⊥) → get_or marks e (done 0) ≡ m → get_elem? marks e ≡ some m
  mark_found marks e m notDone q = go (order e (length marks))
    where
      go : (e < length marks) ⊎ (length marks ≤ e) → get_elem? marks e ≡ some m
      go (inl l) = read_found marks e (done 0) l ∙ ap some q
      go (inr l) = absurd (notDone (sym q ∙ get_or-eq_default marks (done 0) {n = e} l))

  enter_lies :
      (e : ℕ) (rest : List Item) (s : Resolved) (m : Mark) →
      get_or s.marks e (done 0) ≡ m →
      Lies s (enter (table_entry e) ∷ rest) →
      Ends Z (λ r. Lies r.1 (r.0 ++ rest)) (entering table e m s)
  unfolding entering
  enter_lies e rest s fresh q h =
      let at = mark_found s.marks e fresh (λ p. clash (cc)) q in
      let inside : e < length table = omega (arith, found_inside s.marks e fresh at, h.marks_length) in
      let below : Chain (leave e ∷ rest) = (inside, h.chain.2) in
      well {a = (map enter (kids_at table e) ++ leave e ∷ [], record { marks = set s.marks e underway; nodes = s.nodes; visits = suc s.visits })}
      (subst
      (Lies (record { marks = set s.marks e underway; nodes = s.nodes; visits = suc s.visits }))
      (sym (append_assoc (map enter (kids_at table e)) (leave e ∷ []) rest))
      (record {
        chain =
            pushed (kids_at table e) (leave e ∷ rest)
            (λ g a. from_on e g h.chain.0 (kids_at_lem e g inside a))
            (λ g d a b. above g d a (among-cons (leave d) (leave e) rest b) inside)
            below;
        under = λ d u. still d (found_after_set s.marks e d underway underway u);
        marks_length = length-set s.marks e underway ∙ h.marks_length;
      }))
    where
      above : (g : Goal) (d : ℕ) → Among g (kids_at table e) → (leave d ≡ leave e) ⊎ Among (leave d) rest → e < length table → Goes d g
      above g d a (inl p) inside =
          let same : e ≡ d = cc in
          subst (λ k. Goes k g) same (kids_at_lem e g inside a)
      above g d a (inr b) inside = goes_on d e g (h.chain.1 d b) (kids_at_lem e g inside a)

      still :
          (d : ℕ) →
          ((d ≡ e) × (underway ≡ underway)) ⊎ ((d ≡ e → ⊥) × (get_elem? s.marks d ≡ some underway)) →
          Among (leave d) (map enter (kids_at table e) ++ leave e ∷ rest)
      still d (inl p) = among-pushed (leave d) (kids_at table e) (leave e ∷ rest) (0, ap (λ k. some (leave k)) (sym p.0))
      still d (inr p) =
          among-pushed (leave d) (kids_at table e) (leave e ∷ rest) (among_later (leave d) (leave e) rest (leave_below d (table_entry e) rest (h.under d p.1)))
  enter_lies e rest s underway q h =
      let at = mark_found s.marks e underway (λ p. clash (cc)) q in
      refused (inr (inr (refl, (e, h.chain.0, h.chain.1 e (leave_below e (table_entry e) rest (h.under e at))))))
  enter_lies e rest s (done k) q h = well {a = ([], visited s)} (popped (table_entry e) rest s h)

  leave_lies : (e : ℕ) (rest : List Item) (s : Resolved) → Lies s (leave e ∷ rest) → Lies (leaving table e s) rest
  unfolding leaving leave_node
  leave_lies e rest s h = let f = inside_found table e h.chain.0 in rw (f.1, leaving) (after (with_kids (map (child_of s.marks) f.0.kids) f.0))
    where
      other : (d : ℕ) (m : Mark) → (m ≡ underway → ⊥) → ((d ≡ e) × (m ≡ underway)) ⊎ ((d ≡ e → ⊥) × (get_elem? s.marks d ≡ some underway)) → Among (leave d) rest
      other d m differs (inl p) = absurd (differs p.1)
      other d m differs (inr p) = go (among-cons (leave d) (leave e) rest (h.under d p.1))
        where
          go : (leave d ≡ leave e) ⊎ Among (leave d) rest → Among (leave d) rest
          go (inl q) = absurd (p.0 (cc))
          go (inr a) = a

      after : (n : Node) → Lies (leave_node e n s) rest
      after n =
          record {
            chain = h.chain.1;
            under = λ d u. other d _ (λ q. clash (cc)) (found_after_set s.marks e d _ underway u);
            marks_length = length-set s.marks e _ ∙ h.marks_length;
          }

  step-lies : (i : Item) (rest : List Item) (s : Resolved) → Lies s (i ∷ rest) → Ends Z (λ r. Lies r.1 (r.0 ++ rest)) (step table i s)
  unfolding step
  step-lies (enter (raw_number n)) rest s h = well {a = ([], visited s)} (popped (raw_number n) rest s h)
  step-lies (enter (table_entry e)) rest s h = enter_lies e rest s (get_or s.marks e (done 0)) refl h
  step-lies (enter (refusal code)) rest s h = refused (inr (inl h.chain.0))
  step-lies (leave e) rest s h = well {a = ([], leaving table e s)} (leave_lies e rest s h)

  work-cause : (fuel : ℕ) (stack : List Item) (s : Resolved) → Lies s stack → Ends Z Anything (work fuel table stack s)
  unfolding work
  work-cause zero [] s h = well tt
  work-cause zero (i ∷ stack) s h = refused (inl refl)
  work-cause (suc fuel) [] s h = well tt
  work-cause (suc fuel) (i ∷ stack) s h =
      next (λ r. work fuel table (r.0 ++ stack) r.1) (step-lies i stack s h) λ r k. work-cause fuel (r.0 ++ stack) r.1 k

  -- resolving a goal that is reached, with nothing half done
  pub resolve-cause :
      (goal : Goal) (s : Resolved) →
      From goal →
      length s.marks ≡ length table →
      ((e : ℕ) → get_elem? s.marks e ≡ some underway → ⊥) →
      Ends (λ code. (code ≡ 0) ⊎ Why code) Anything (resolve table goal s)
  unfolding resolve
  resolve-cause goal s from size nothing =
      work-cause (fuel_for table) (enter goal ∷ []) s
      (record { chain = (from, λ e a. among-nil (leave e) a, tt); under = λ e u. absurd (nothing e u); marks_length = size })
