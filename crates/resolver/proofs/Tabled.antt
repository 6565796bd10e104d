-- The linked table against the job's: as many entries, as many children each, and where the children's words stand. Assumes nothing.
use mathlib.Core.Bool.{Bool, true, false, not}
use mathlib.Core.List.{List, [], ◌∷◌, ◌++◌, map}
use mathlib.Core.Option.{some}
use mathlib.Core.Path.{◌≡◌, refl, sym, ap, subst, ◌∙◌}
use Prim.Native.Nat.{ℕ, suc, ◌+◌, ◌≤◌, ◌<◌}
use native.Mathlib.Omega.{arith}
use lib.ListN.{length, get_or, get_elem?, length-map}
use Rattle.definition.specs.Basics.{only, from}
use Rattle.definition.specs.Shapes.{Entry, with_kids, with_literal}
use Rattle.definition.specs.Job.{Reference, Definition, define, named, placed, setting}
use Rattle.definition.specs.Numbering.{entries, is_bootstrap, constants_of, bootstraps_of, literals, numbered_entry}
use Rattle.definition.specs.Resolving.{Goal, goal_of, fuel_for, linked}
use Rattle.job.specs.Forms.{kids_in, references_in, counts_of}
use Rattle.facts.specs.Lists.{Among}
use Rattle.facts.proofs.Lists.{found_inside, inside_found, map-some, only_here, only-later}
use Rattle.facts.proofs.Each.{Each, each_from}
use Rattle.facts.proofs.Chunks.{from_place}
use Rattle.laws.proofs.Resolving.JobGoals.{linked-length}
use Rattle.laws.proofs.Resolving.OwedVisits.{GoalOk, TableOk}
use Rattle.laws.specs.Faithful.{Cited}
use Rattle.store.specs.JobIn.{job_in, definitions_in, counts_in, table_of, table_in, entries_in, numbered_in, namings_in, constants_in, linked_in}
use Rattle.store.specs.Words.{goal_word, IsGoal}
use Rattle.store.specs.Entries.{Entered, Linked}
use Rattle.resolver.proofs.Meanings.{goal_in_lem, goal_ok}
use Rattle.interner.proofs.Shaped.{numbered-table}

-- a list that is told place by place
pub from_is : {A : Type 0} (f : ℕ → A) (k : ℕ) (l : List A) → ((i : ℕ) (a : A) → get_elem? l i ≡ some a → f (k + i) ≡ a) → from f k (length l) ≡ l
unfolding from
from_is f k [] h = refl
from_is f k (a ∷ l) h =
    let e : k + 0 ≡ k = omega arith in
    let first : f k ≡ a = ap f (sym e) ∙ h 0 a refl in
    let rest = from_is f (suc k) l (λ i b at. let q : suc k + i ≡ k + suc i = omega arith in ap f q ∙ h (suc i) b at) in
    rw (first, rest)

-- THE TABLES

-- an entry of the linked table, with what it came from
pub record Row (s : List ℕ) (e : ℕ) (x : Entry ℕ Goal) : Type 0 where
  pub number : Entry ℕ Reference
  pub numbered : get_elem? (numbered_in s) e ≡ some number
  pub is : x ≡ with_kids x.kids number
  pub entry : Entry (List ℕ) Reference
  pub there : get_elem? (table_in s) e ≡ some entry
  pub count : length x.kids ≡ length entry.kids

pub row : (s : List ℕ) (e : ℕ) (x : Entry ℕ Goal) → get_elem? (linked_in s) e ≡ some x → Row s e x
unfolding linked_in linked with_kids numbered_entry with_literal
row s e x at =
    let goal = goal_of (namings_in s) (constants_in s) in
    let n = numbered_entry (literals (job_in s)) in
    let one = map-some (λ (y : Entry ℕ Reference). with_kids (map goal y.kids) y) (numbered_in s) e x at in
    let two = map-some n (table_in s) e one.0 (subst (λ l. get_elem? l e ≡ some one.0) (numbered-table s) one.1) in
    let kids : x.kids ≡ map goal one.0.kids = ap (λ (z : Entry ℕ Goal). z.kids) (sym one.2) in
    let same : one.0.kids ≡ two.0.kids = ap (λ (z : Entry ℕ Reference). z.kids) (sym two.2) in
    record {
      number = one.0;
      numbered = one.1;
      is = sym one.2 ∙ ap (λ k. with_kids k one.0) (sym kids);
      entry = two.0;
      there = two.1;
      count = ap length kids ∙ length-map one.0.kids goal ∙ ap length same;
    }

pub linked-count : (s : List ℕ) → length (linked_in s) ≡ entries_in s
unfolding linked_in
linked-count s =
    linked-length (namings_in s) (constants_in s) (numbered_in s)
    ∙ ap length (numbered-table s)
    ∙ length-map (table_in s) (numbered_entry (literals (job_in s)))

-- THE FUEL is one for each entry and each reference, and one

unfoldable weight : {L R : Type 0} → List (Entry L R) → ℕ
weight [] = 0
weight (x ∷ l) = length x.kids + weight l

fuel_is : (table : List (Entry ℕ Goal)) → fuel_for table ≡ length table + weight table + 1
unfolding fuel_for weight
fuel_is [] = refl
fuel_is (x ∷ table) = let ih = fuel_is table in omega arith

weight_append : {L R : Type 0} (l m : List (Entry L R)) → weight (l ++ m) ≡ weight l + weight m
unfolding weight
weight_append [] m = omega arith
weight_append (x ∷ l) m = let ih = weight_append l m in omega arith

weight_map :
    {L R M S : Type 0} (f : Entry L R → Entry M S) (l : List (Entry L R)) → ((x : Entry L R) → length (f x).kids ≡ length x.kids) → weight (map f l) ≡ weight l
unfolding weight
weight_map f [] h = refl
weight_map f (x ∷ l) h = rw (h x, weight_map f l h)

-- those that pass and those that don't
weight_parts :
    {L R : Type 0} (p : Entry L R → Bool) (l : List (Entry L R)) → weight (only (λ x. not (p x)) l) + weight (only p l) ≡ weight l
unfolding only weight
weight_parts p [] = refl
weight_parts {L} {R} p (x ∷ l) = ways (p x) refl (weight_parts p l)
  where
    ways :
        (b : Bool) → p x ≡ b → weight (only (λ x. not (p x)) l) + weight (only p l) ≡ weight l →
        weight (only (λ x. not (p x)) (x ∷ l)) + weight (only p (x ∷ l)) ≡ length x.kids + weight l
    ways true e ih = rw (only-later (λ x. not (p x)) x l (ap not e), only_here p x l e) (omega arith)
    ways false e ih = rw (only_here (λ x. not (p x)) x l (ap not e), only-later p x l e) (omega arith)

weight_entries : (ds : List (Definition (List ℕ))) → weight (entries ds) ≡ references_in ds
unfolding weight entries references_in kids_in
weight_entries [] = refl
weight_entries (define e ∷ ds) = ap (λ n. length e.kids + n) (weight_entries ds)
weight_entries (named kind s r ∷ ds) = let ih = weight_entries ds in omega arith
weight_entries (placed kind at number ∷ ds) = let ih = weight_entries ds in omega arith
weight_entries (setting rule ∷ ds) = let ih = weight_entries ds in omega arith

weight_table : (s : List ℕ) → weight (table_in s) ≡ (counts_in s).references
unfolding table_of counts_in counts_of constants_of bootstraps_of
weight_table s =
    let ds = definitions_in s in
    weight_append (constants_of ds) (bootstraps_of ds) ∙ weight_parts is_bootstrap (entries ds) ∙ weight_entries ds

weight_linked : (s : List ℕ) → weight (linked_in s) ≡ weight (table_in s)
unfolding linked_in linked with_kids numbered_entry with_literal
weight_linked s =
    let goal = goal_of (namings_in s) (constants_in s) in
    weight_map (λ (y : Entry ℕ Reference). with_kids (map goal y.kids) y) (numbered_in s) (λ y. length-map y.kids goal)
    ∙ ap weight (numbered-table s)
    ∙ weight_map (numbered_entry (literals (job_in s))) (table_in s) (λ y. refl)

pub fuel_counted : (s : List ℕ) → fuel_for (linked_in s) ≡ entries_in s + (counts_in s).references + 1
fuel_counted s = omega (arith, fuel_is (linked_in s), linked-count s, weight_linked s, weight_table s)

-- THE CHILDREN'S WORDS

-- where the words of an entry's goals stand
pub record Kids (s firsts sizes goals : List ℕ) (e : ℕ) (x : Entry ℕ Goal) : Type 0 where
  pub count : get_or sizes e 0 ≡ length x.kids
  pub room : get_or firsts e 0 + get_or sizes e 0 ≤ (counts_in s).references
  pub is : from (λ i. goal_word (get_or goals (get_or firsts e 0 + i) 0)) 0 (get_or sizes e 0) ≡ x.kids
  pub words : (i : ℕ) → i < get_or sizes e 0 → IsGoal (entries_in s) (get_or goals (get_or firsts e 0 + i) 0)

module _ (s offsets firsts sizes goals : List ℕ) {values : List ℕ} (entered : Entered s offsets firsts sizes values) (links : Linked s firsts goals) where
  pub kids_of_lem : (e : ℕ) (x : Entry ℕ Goal) → get_elem? (linked_in s) e ≡ some x → Kids s firsts sizes goals e x
  kids_of_lem e x at =
      let r = row s e x at in
      let a = entered.at e r.entry r.there in
      let count : get_or sizes e 0 ≡ length x.kids = a.count ∙ sym r.count in
      let is = from_is (λ i. goal_word (get_or goals (get_or firsts e 0 + i) 0)) 0 x.kids (λ i g q. let z : 0 + i ≡ i = omega arith in rw z (links.kids e x at i g q)) in
      record {
        count = count;
        room = a.room;
        is = rw count is;
        words = λ i l. links.words (get_or firsts e 0 + i) (omega (arith, a.room));
      }

  pub kids_there : (e : ℕ) → e < entries_in s → (x : Entry ℕ Goal) × (get_elem? (linked_in s) e ≡ some x) × Kids s firsts sizes goals e x
  kids_there e h = let (x, at) = inside_found (linked_in s) e (rw (linked-count s) h) in (x, at, kids_of_lem e x at)

  -- a goal among them has its word
  pub kid_word :
      (e : ℕ) (x : Entry ℕ Goal) → get_elem? (linked_in s) e ≡ some x → (g : Goal) → Among g x.kids →
      (i : ℕ) × (i < get_or sizes e 0) × (goal_word (get_or goals (get_or firsts e 0 + i) 0) ≡ g)
  kid_word e x at g a =
      (a.0, rw (kids_of_lem e x at).count (found_inside x.kids a.0 g a.1), links.kids e x at a.0 g a.1)

  -- and its word's goal is among them
  pub word_kid :
      (e : ℕ) (x : Entry ℕ Goal) → get_elem? (linked_in s) e ≡ some x → (i : ℕ) → i < get_or sizes e 0 →
      Among (goal_word (get_or goals (get_or firsts e 0 + i) 0)) x.kids
  word_kid e x at i h =
      let k = kids_of_lem e x at in
      let z : 0 + i ≡ i = omega arith in
      (i, rw (← k.is) (from_place (λ i. goal_word (get_or goals (get_or firsts e 0 + i) 0)) 0 (get_or sizes e 0) i h ∙ (rw z)))

  module _ (few : entries_in s ≤ 131072) where
    -- children lead into the table
    pub cited : Cited (linked_in s)
    cited e x at g a =
        let (i, l, q) = kid_word e x at g a in
        rw (← q, linked-count s) (goal_in_lem (entries_in s) _ few ((kids_of_lem e x at).words i l))

    -- and no refusal is 0
    pub table_ok_lem : TableOk ⊥ (linked_in s)
    table_ok_lem =
        each_from (λ x. Each (GoalOk ⊥) x.kids) (linked_in s) λ e x at.
        each_from (GoalOk ⊥) x.kids λ i g q.
        let (j, l, w) = kid_word e x at g (i, q) in
        rw (← w) (goal_ok (entries_in s) _ few ((kids_of_lem e x at).words j l))
