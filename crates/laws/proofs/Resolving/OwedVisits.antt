-- The resolver: what is still owed falls with each item taken, so that the fuel lasts and the visits are counted, and no node has a child
-- that isn't there. Assumes nothing.
use mathlib.Core.List.{List, [], ◌∷◌, ◌++◌, map}
use mathlib.Core.Option.{Option, none, some}
use mathlib.Core.Logic.{◌⊎◌, inl, inr}
use mathlib.Core.Path.{◌≡◌, refl, sym, ap, subst, ◌∙◌}
use Prim.Native.Nat.{ℕ, zero, suc, pred, ◌+◌, ◌≤◌, ◌<◌}
use native.Mathlib.Omega.{arith}
use lib.ListN.{length, get_or, get_elem?, set, replicate, length-append, length-map}
use Rattle.definition.specs.Basics.{position}
use Rattle.definition.specs.Shapes.{Entry, with_kids}
use Rattle.definition.specs.Resolving.{Goal, raw_number, table_entry, refusal, Node, first_node, Mark, fresh, underway, done, Resolved, Item, enter, leave, same_node, intern, mark_child, child_of, kids_at, visited, leave_node, leaving, entering, step, work, fuel_for, resolve, resolve_all}
use Rattle.facts.proofs.Lists.{clash, some_inj, found_inside, set-either, place_front}
use Rattle.facts.proofs.Each.{Each, each_at, each_from, each_append, each_weaker, each_map}
use Rattle.facts.proofs.Outcomes.{Ends, well, refused, next, weaker}
use Rattle.laws.proofs.Form.RefusalNumbers.{NonZero, non_zero_lem}
use Rattle.laws.proofs.Resolving.Interning.{interned}
use Rattle.laws.specs.Faithful.{cost, owing}

-- entering pays for what it pushes
pub owing-enter :
    (table : List (Entry ℕ Goal)) (marks : List Mark) (e : ℕ) →
    get_or marks e (done 0) ≡ fresh →
    suc (length (kids_at table e)) + owing table (set marks e underway) ≤ owing table marks
unfolding cost owing kids_at
owing-enter [] [] e h = clash (cc)
owing-enter [] (fresh ∷ marks) zero h = omega arith
owing-enter [] (underway ∷ marks) zero h = clash (cc)
owing-enter [] (done k ∷ marks) zero h = clash (cc)
owing-enter [] (m ∷ marks) (suc e) h = let ih = owing-enter [] marks e h in omega arith
owing-enter (x ∷ table) [] e h = clash (cc)
owing-enter (x ∷ table) (fresh ∷ marks) zero h = omega arith
owing-enter (x ∷ table) (underway ∷ marks) zero h = clash (cc)
owing-enter (x ∷ table) (done k ∷ marks) zero h = clash (cc)
owing-enter (x ∷ table) (m ∷ marks) (suc e) h = let ih = owing-enter table marks e h in omega arith

-- a mark that owes nothing adds nothing
pub owing-set :
    (table : List (Entry ℕ Goal)) (marks : List Mark) (e k : ℕ) → owing table (set marks e (done k)) ≤ owing table marks
unfolding cost owing
owing-set [] [] e k = omega arith
owing-set [] (m ∷ marks) zero k = omega arith
owing-set [] (m ∷ marks) (suc e) k = let ih = owing-set [] marks e k in omega arith
owing-set (x ∷ table) [] e k = omega arith
owing-set (x ∷ table) (m ∷ marks) zero k = omega arith
owing-set (x ∷ table) (m ∷ marks) (suc e) k = let ih = owing-set table marks e k in omega arith

-- at the start all is owed, and the fuel is one more
pub owing-start : (table : List (Entry ℕ Goal)) → suc (owing table (replicate (length table) fresh)) ≡ fuel_for table
unfolding cost owing fuel_for
owing-start [] = refl
owing-start (x ∷ table) = let ih = owing-start table in omega arith

-- a child's number that is a raw one or that of a node; with no nodes the first one passes
abbrev pub Child : List Node → ℕ → Type 0
Child nodes c = c ≤ first_node + pred (length nodes)

-- every mark that tells of a node, and every child of a node, is such a number
pub record Fit (s : Resolved) : Type 0 where
  pub marks_fit : (e : ℕ) → Child s.nodes (mark_child (get_or s.marks e (done 0)))
  pub nodes_fit : Each (λ n. Each (Child s.nodes) n.kids) s.nodes

-- a goal's refusal isn't 0 and, under a premise H, its raw number isn't a node's
abbrev pub GoalOk : Type 0 → Goal → Type 0
GoalOk H (raw_number n) = H → n < first_node
GoalOk H (table_entry e) = Unit {0}
GoalOk H (refusal code) = NonZero code

abbrev pub ItemOk : Type 0 → Item → Type 0
ItemOk H (enter g) = GoalOk H g
ItemOk H (leave e) = Unit {0}

abbrev pub TableOk : Type 0 → List (Entry ℕ Goal) → Type 0
TableOk H table = Each (λ x. Each (GoalOk H) x.kids) table

pub child_of-fits : (H : Type 0) (s : Resolved) (g : Goal) → GoalOk H g → H → Fit s → Child s.nodes (child_of s.marks g)
unfolding child_of
child_of-fits H s (raw_number n) ok h f = let low = ok h in omega arith
child_of-fits H s (table_entry e) ok h f = f.marks_fit e
child_of-fits H s (refusal code) ok h f = omega arith

pub kids_at-each : (P : Goal → Type 0) (table : List (Entry ℕ Goal)) (e : ℕ) → Each (λ x. Each P x.kids) table → Each P (kids_at table e)
unfolding kids_at
kids_at-each P [] e ok = tt
kids_at-each P (x ∷ table) zero ok = ok.0
kids_at-each P (x ∷ table) (suc e) ok = kids_at-each P table e ok.1

-- what is so of a node and of the old ones is so of all after it is interned
intern-each : (n : Node) (nodes : List Node) (P : Node → Type 0) → P n → Each P nodes → Each P (intern n nodes)
intern-each n nodes P h k = each_from P (intern n nodes) (λ i a e. ways i a e ((interned n nodes).no_other i (found_inside (intern n nodes) i a e)))
  where
    ways : (i : ℕ) (a : Node) → get_elem? (intern n nodes) i ≡ some a → (i < length nodes) ⊎ (i ≡ position (same_node n) nodes) → P a
    ways i a e (inl low) =
        let kept = (interned n nodes).kept in
        each_at P nodes i a k (sym (place_front nodes kept.0 i low) ∙ ap (λ (l : List Node). get_elem? l i) (sym kept.1) ∙ e)
    ways i a e (inr q) = subst P (some_inj (sym (interned n nodes).there ∙ ap (get_elem? (intern n nodes)) (sym q) ∙ e)) h

visited-fits : (s : Resolved) → Fit s → Fit (visited s)
unfolding visited
visited-fits s f = record { marks_fit = f.marks_fit; nodes_fit = f.nodes_fit }

leave_node-fits : (e : ℕ) (n : Node) (s : Resolved) → Each (Child s.nodes) n.kids → Fit s → Fit (leave_node e n s)
unfolding leave_node mark_child
leave_node-fits e n s kids f =
    let i = interned n s.nodes in
    let longer : length s.nodes ≤ length (intern n s.nodes) = rw i.kept.1 (omega (arith, length-append s.nodes i.kept.0)) in
    let there = found_inside (intern n s.nodes) (position (same_node n) s.nodes) n i.there in
    let wide : (c : ℕ) → Child s.nodes c → Child (intern n s.nodes) c = λ c h. omega arith in
    let wides : (l : List ℕ) → Each (Child s.nodes) l → Each (Child (intern n s.nodes)) l =
    each_weaker (Child s.nodes) (Child (intern n s.nodes)) wide in
    record {
      marks_fit =
          λ e'.
          set-either
          (λ m. Child (intern n s.nodes) (mark_child m))
          s.marks
          e
          e'
          (done (position (same_node n) s.nodes))
          (done 0)
          (omega arith)
          (wide (mark_child (get_or s.marks e' (done 0))) (f.marks_fit e'));
      nodes_fit =
          intern-each n s.nodes
          (λ x. Each (Child (intern n s.nodes)) x.kids)
          (wides n.kids kids)
          (each_weaker
          (λ x. Each (Child s.nodes) x.kids)
          (λ x. Each (Child (intern n s.nodes)) x.kids)
          (λ x h. wides x.kids h)
          s.nodes
          f.nodes_fit);
    }

-- what one item taken comes to
pub record Stepped (H : Type 0) (table : List (Entry ℕ Goal)) (s : Resolved) (r : List Item × Resolved) : Type 0 where
  pub counted : r.1.visits ≡ suc s.visits
  pub paid : length r.0 + owing table r.1.marks ≤ owing table s.marks
  pub items : Each (ItemOk H) r.0
  pub fits : H → Fit s → Fit r.1

visited-steps : (H : Type 0) (table : List (Entry ℕ Goal)) (s : Resolved) → Stepped H table s ([], visited s)
unfolding visited
visited-steps H table s = record { counted = refl; paid = omega arith; items = tt; fits = λ h f. visited-fits s f }

leave_node-steps :
    (H : Type 0) (table : List (Entry ℕ Goal)) (e : ℕ) (s : Resolved) (x : Entry ℕ Goal) →
    Each (GoalOk H) x.kids →
    Stepped H table s ([], leave_node e (with_kids (map (child_of s.marks) x.kids) x) s)
unfolding leave_node with_kids
leave_node-steps H table e s x ok =
    let n : Node = with_kids (map (child_of s.marks) x.kids) x in
    record {
      counted = refl;
      paid = omega (arith, owing-set table s.marks e (position (same_node n) s.nodes));
      items = tt;
      fits =
          λ h f.
          leave_node-fits
          e
          n
          s
          (each_map (GoalOk H) (Child s.nodes) (child_of s.marks) (λ g o. child_of-fits H s g o h f) x.kids ok)
          f;
    }

leaving-steps : (H : Type 0) (table : List (Entry ℕ Goal)) (e : ℕ) (s : Resolved) → TableOk H table → Stepped H table s ([], leaving table e s)
unfolding leaving
leaving-steps H table e s ok = go (get_elem? table e) refl
  where
    go : (o : Option (Entry ℕ Goal)) → get_elem? table e ≡ o → Stepped H table s ([], leaving table e s)
    go none p = rw (p, leaving) (visited-steps H table s)
    go (some x) p = rw (p, leaving) (leave_node-steps H table e s x (each_at (λ y. Each (GoalOk H) y.kids) table e x ok p))

entered_fits :
    (e : ℕ) (s : Resolved) → Fit s → Fit (record { marks = set s.marks e underway; nodes = s.nodes; visits = suc s.visits })
unfolding mark_child
entered_fits e s f =
    record {
      marks_fit = λ e'. set-either (λ m. Child s.nodes (mark_child m)) s.marks e e' underway (done 0) (omega arith) (f.marks_fit e');
      nodes_fit = f.nodes_fit;
    }

entered_steps :
    (H : Type 0) (table : List (Entry ℕ Goal)) (e : ℕ) (s : Resolved) →
    TableOk H table →
    get_or s.marks e (done 0) ≡ fresh →
    Stepped H table s (
      map enter (kids_at table e) ++ leave e ∷ [],
      record { marks = set s.marks e underway; nodes = s.nodes; visits = suc s.visits },
    )
entered_steps H table e s ok p =
    let cheaper = owing-enter table s.marks e p in
    record {
      counted = refl;
      paid = omega (arith, length-append (map enter (kids_at table e)) (leave e ∷ []), length-map (kids_at table e) enter);
      items =
          each_append
          (ItemOk H)
          (map enter (kids_at table e))
          (leave e ∷ [])
          (each_map (GoalOk H) (ItemOk H) enter (λ g o. o) (kids_at table e) (kids_at-each (GoalOk H) table e ok))
          (tt, tt);
      fits = λ h f. entered_fits e s f;
    }

entering-steps :
    (H : Type 0) (table : List (Entry ℕ Goal)) (e : ℕ) (m : Mark) (s : Resolved) →
    TableOk H table →
    get_or s.marks e (done 0) ≡ m →
    Ends NonZero (Stepped H table s) (entering table e m s)
unfolding entering
entering-steps H table e fresh s ok p = well (entered_steps H table e s ok p)
entering-steps H table e underway s ok p = refused (non_zero_lem 13 tt)
entering-steps H table e (done k) s ok p = well (visited-steps H table s)

pub step-steps :
    (H : Type 0) (table : List (Entry ℕ Goal)) (i : Item) (s : Resolved) →
    TableOk H table →
    ItemOk H i →
    Ends NonZero (Stepped H table s) (step table i s)
unfolding step
step-steps H table (enter (raw_number n)) s ok o = well (visited-steps H table s)
step-steps H table (enter (table_entry e)) s ok o = entering-steps H table e (get_or s.marks e (done 0)) s ok refl
step-steps H table (enter (refusal code)) s ok o = refused o
step-steps H table (leave e) s ok o = well (leaving-steps H table e s ok)

-- what some items taken come to: no more visits than was owed before and isn't now, and one for each of n items
pub record Worked (H : Type 0) (table : List (Entry ℕ Goal)) (n : ℕ) (s t : Resolved) : Type 0 where
  pub counted : t.visits + owing table t.marks ≤ s.visits + owing table s.marks + n
  pub paid : owing table t.marks ≤ owing table s.marks
  pub fits : H → Fit s → Fit t

pub worked-none : (H : Type 0) (table : List (Entry ℕ Goal)) (s : Resolved) → Worked H table 0 s s
worked-none H table s = record { counted = omega arith; paid = omega arith; fits = λ h f. f }

pub worked-next :
    (H : Type 0) (table : List (Entry ℕ Goal)) (n m k : ℕ) (s t u : Resolved) →
    n + m ≤ k →
    Worked H table n s t →
    Worked H table m t u →
    Worked H table k s u
worked-next H table n m k s t u h a b =
    let a₁ = a.counted in
    let a₂ = a.paid in
    let b₁ = b.counted in
    let b₂ = b.paid in
    record { counted = omega arith; paid = omega arith; fits = λ h f. b.fits h (a.fits h f) }

pub work-works :
    (H : Type 0) (fuel : ℕ) (table : List (Entry ℕ Goal)) (stack : List Item) (s : Resolved) →
    TableOk H table →
    Each (ItemOk H) stack →
    length stack + owing table s.marks ≤ fuel →
    Ends NonZero (Worked H table (length stack) s) (work fuel table stack s)
unfolding work
work-works H zero table [] s ok o h = well (worked-none H table s)
work-works H zero table (i ∷ stack) s ok o h = absurd (omega arith)
work-works H (suc fuel) table [] s ok o h = well (worked-none H table s)
work-works H (suc fuel) table (i ∷ stack) s ok o h =
    next (λ r. work fuel table (r.0 ++ stack) r.1) (step-steps H table i s ok o.0) λ r k.
    let k₁ = k.counted in
    let k₂ = k.paid in
    let e = length-append r.0 stack in
    weaker
    (λ c z. z)
    (λ t w.
    let w₁ = w.counted in
    let w₂ = w.paid in
    record { counted = omega arith; paid = omega arith; fits = λ x f. w.fits x (k.fits x f) })
    (work-works H fuel table (r.0 ++ stack) r.1 ok (each_append (ItemOk H) r.0 stack k.items o.1) (omega arith))

pub resolve-works :
    (H : Type 0) (table : List (Entry ℕ Goal)) (g : Goal) (s : Resolved) →
    TableOk H table →
    GoalOk H g →
    suc (owing table s.marks) ≤ fuel_for table →
    Ends NonZero (Worked H table 1 s) (resolve table g s)
unfolding resolve
resolve-works H table g s ok o h = work-works H (fuel_for table) table (enter g ∷ []) s ok (o, tt) (omega arith)

pub resolve_all-works :
    (H : Type 0) (table : List (Entry ℕ Goal)) (goals : List Goal) (s : Resolved) →
    TableOk H table →
    Each (GoalOk H) goals →
    suc (owing table s.marks) ≤ fuel_for table →
    Ends NonZero (Worked H table (length goals) s) (resolve_all table goals s)
unfolding resolve_all
resolve_all-works H table [] s ok o h = well (worked-none H table s)
resolve_all-works H table (g ∷ goals) s ok o h =
    next (λ t. resolve_all table goals t) (resolve-works H table g s ok o.0 h) λ t w.
    let w₁ = w.paid in
    weaker
    (λ c z. z)
    (λ u v. worked-next H table 1 (length goals) (suc (length goals)) s t u (omega arith) w v)
    (resolve_all-works H table goals t ok o.1 (omega arith))
