-- Pointer jumping: a jump adds the steps, so that a round doubles what every item leads at least. Assumes nothing.
use mathlib.Core.Bool.{true}
use mathlib.Core.List.{List}
use mathlib.Core.Logic.{⊎_elim}
use mathlib.Core.Path.{◌≡◌, refl, sym, ◌∙◌}
use Prim.Native.Nat.{ℕ, ◌+◌, ◌-◌, ◌≤◌, ◌<◌}
use native.Mathlib.Omega.{arith}
use lib.ListN.{length, get_or, set}
use lib.Seq.{get_or-set_same, get_or-set_other}
use borrow.Author.Tests.{lt-ltb, le-ltb, lt-leb, le-leb}
use lib.Dec.{leb}
use mir.Val.{bool_byte}
use Rattle.definition.specs.Resolving.{Goal}
use Rattle.store.specs.Words.{NAME, REFUSED, goal_word, IsGoal}
use Rattle.sym_refs.specs.Leading.{settled, leads_in, Leads, AllLead, Inner, Settled, hopped, on_name, end_of}
use Rattle.facts.proofs.Lists.{equal, order}

pub hop_stays : (l : List ℕ) (x : ℕ) → x < NAME → hopped l x ≡ x
unfolding hopped
hop_stays l x h = rw (lt-ltb x NAME h, hopped)

pub hop_goes : (l : List ℕ) (x : ℕ) → NAME ≤ x → hopped l x ≡ get_or l (x - NAME) 0
unfolding hopped
hop_goes l x h = rw (le-ltb x NAME h, hopped)

pub on_none : (x : ℕ) → x < NAME → on_name x ≡ 0
unfolding on_name
on_none x h = rw (lt-ltb x NAME h, on_name)

pub on_one : (x : ℕ) → NAME ≤ x → on_name x ≡ 1
unfolding on_name
on_one x h = rw (le-ltb x NAME h, on_name)

-- the test as a number
pub on_name-byte : (x : ℕ) → bool_byte (leb NAME x) ≡ on_name x
on_name-byte x =
    ⊎_elim
    (λ (h : x < NAME). rw (lt-leb NAME x h, on_none x h) refl)
    (λ (h : NAME ≤ x). rw (le-leb NAME x h, on_one x h) refl)
    (order x NAME)

pub on_name-small : (x : ℕ) → on_name x ≤ 1
on_name-small x = ⊎_elim (λ (h : x < NAME). omega (arith, on_none x h)) (λ (h : NAME ≤ x). omega (arith, on_one x h)) (order x NAME)

pub ended_same : (x : ℕ) → x < NAME → end_of x ≡ x
unfolding end_of
ended_same x h = rw (lt-ltb x NAME h, end_of)

pub ended_circular : (x : ℕ) → NAME ≤ x → end_of x ≡ REFUSED + 13
unfolding end_of
ended_circular x h = rw (le-ltb x NAME h, end_of)

module _ (f : ℕ → ℕ → Goal) where
  pub leads_settled : (m x : ℕ) → x < NAME → leads_in f m x ≡ goal_word x
  unfolding leads_in
  leads_settled m x h = rw (lt-ltb x NAME h, leads_in)

  pub leads_name : (m x : ℕ) → NAME ≤ x → leads_in f m x ≡ f m (x - NAME)
  unfolding leads_in
  leads_name m x h = rw (le-ltb x NAME h, leads_in)

  -- a settled word is where the item leads in any number of steps
  pub leads_on : (span more i x : ℕ) → x < NAME → Leads f span i x → Leads f more i x
  leads_on span more i x h g = (
    g.0 + more,
    omega arith,
    λ s.
        let e : g.0 + more + s ≡ g.0 + (more + s) = omega arith in
        rw e (g.2 (more + s) ∙ leads_settled (more + s) x h ∙ sym (leads_settled s x h)),
  )

  leads_less : (span less i x : ℕ) → less ≤ span → Leads f span i x → Leads f less i x
  leads_less span less i x h g = (g.0, omega (arith, g.1), g.2)

  -- a jump adds the steps
  leads_jump : (span i x y : ℕ) → NAME ≤ x → Leads f span i x → Leads f span (x - NAME) y → Leads f (span + span) i y
  leads_jump span i x y h g k = (
    g.0 + k.0,
    omega (arith, g.1, k.1),
    λ s.
        let e : g.0 + k.0 + s ≡ g.0 + (k.0 + s) = omega arith in
        rw e (g.2 (k.0 + s) ∙ leads_name (k.0 + s) x h ∙ k.2 s),
  )

  -- one item's turn, in any list whose items lead at least `span` steps
  leads_hop : (span n i : ℕ) (l : List ℕ) → Inner n l → AllLead f span n l → i < n → Leads f (span + span) i (hopped l (get_or l i 0))
  leads_hop span n i l inner all h =
      ⊎_elim
      (λ (s : get_or l i 0 < NAME). rw (hop_stays l (get_or l i 0) s) (leads_on span (span + span) i (get_or l i 0) s (all i h)))
      (λ (s : NAME ≤ get_or l i 0).
      rw (hop_goes l (get_or l i 0) s)
      (leads_jump span i (get_or l i 0) (get_or l (get_or l i 0 - NAME) 0) s (all i h) (all (get_or l i 0 - NAME) (omega (arith, inner i h)))))
      (order (get_or l i 0) NAME)

pub inner_hop : (n i : ℕ) (l : List ℕ) → Inner n l → i < n → hopped l (get_or l i 0) < NAME + n
inner_hop n i l inner h =
    ⊎_elim
    (λ (s : get_or l i 0 < NAME). rw (hop_stays l (get_or l i 0) s) (inner i h))
    (λ (s : NAME ≤ get_or l i 0). rw (hop_goes l (get_or l i 0) s) (inner (get_or l i 0 - NAME) (omega (arith, inner i h))))
    (order (get_or l i 0) NAME)

goal_hop : (entries n i : ℕ) (l : List ℕ) → Inner n l → Settled entries n l → i < n → hopped l (get_or l i 0) < NAME → IsGoal entries (hopped l (get_or l i 0))
goal_hop entries n i l inner all h =
    ⊎_elim
    (λ (s : get_or l i 0 < NAME). rw (hop_stays l (get_or l i 0) s) (λ k. all i h k))
    (λ (s : NAME ≤ get_or l i 0). rw (hop_goes l (get_or l i 0) s) (λ k. all (get_or l i 0 - NAME) (omega (arith, inner i h)) k))
    (order (get_or l i 0) NAME)

-- A ROUND at item i: l₀ where it began, l now
pub record Turning (n : ℕ) (l₀ l : List ℕ) (i left : ℕ) : Type 0 where
  pub upto : i ≤ n
  pub few : left ≤ i
  pub inner : Inner n l
  pub words : (entries : ℕ) → Settled entries n l₀ → Settled entries n l
  pub mixed : (f : ℕ → ℕ → Goal) (span : ℕ) → AllLead f span n l₀ → AllLead f span n l × ((j : ℕ) → j < i → Leads f (span + span) j (get_or l j 0))
  pub none : left ≡ 0 → (j : ℕ) → j < i → settled (get_or l j 0) ≡ true

pub turn_start : (n : ℕ) (l : List ℕ) → Inner n l → Turning n l l 0 0
turn_start n l inner =
    record { upto = omega arith; few = omega arith; inner = inner; words = λ entries all. all; mixed = λ f span all. (all, λ j h. absurd (omega arith)); none = λ e j h. absurd (omega arith) }

module _ (n : ℕ) (l₀ l : List ℕ) (i left : ℕ) (g : Turning n l₀ l i left) (h : i < n) (long : n ≤ length l) where
  abbrev y : ℕ
  y = hopped l (get_or l i 0)

  at : (P : ℕ → ℕ → Type 0) → P i y → ((j : ℕ) → (j ≡ i → ⊥) → P j (get_or l j 0)) → (j : ℕ) → P j (get_or (set l i y) j 0)
  at P a b j =
      ⊎_elim
      (λ (e : j ≡ i). rw (e, get_or-set_same l i y 0 (omega arith)) a)
      (λ (e : j ≡ i → ⊥). rw (get_or-set_other l i j y 0 e) (b j e))
      (equal j i)

  turn_next : Turning n l₀ (set l i y) (i + 1) (left + on_name y)
  turn_next =
      record {
        upto = omega arith;
        few = omega (arith, g.few, on_name-small y);
        inner = λ j. at (λ j x. j < n → x < NAME + n) (λ _. inner_hop n i l g.inner h) (λ j e k. g.inner j k) j;
        words =
            λ entries all j.
            at (λ j x. j < n → x < NAME → IsGoal entries x) (λ _. goal_hop entries n i l g.inner (g.words entries all) h) (λ j e k. g.words entries all j k) j;
        mixed =
            λ f span all.
            let m = g.mixed f span all in
            let hop = leads_hop f span n i l g.inner m.0 h in (
              λ j. at (λ j x. j < n → Leads f span j x) (λ _. leads_less f (span + span) span i y (omega arith) hop) (λ j e k. m.0 j k) j,
              λ j. at (λ j x. j < i + 1 → Leads f (span + span) j x) (λ _. hop) (λ j e k. m.1 j (omega arith)) j,
            );
        none =
            λ e j.
            at
            (λ j x. j < i + 1 → settled x ≡ true)
            (λ _. ⊎_elim (λ (s : y < NAME). lt-ltb y NAME s) (λ (s : NAME ≤ y). absurd (omega (arith, on_one y s))) (order y NAME))
            (λ j d k. g.none (omega arith) j (omega arith))
            j;
      }

  -- the same of words that are known to be these
  pub turn_to : (x z k : ℕ) → x ≡ get_or l i 0 → z ≡ hopped l x → k ≡ on_name z → Turning n l₀ (set l i z) (i + 1) (left + k)
  turn_to x z k a b e = rw (e, b, a) turn_next
