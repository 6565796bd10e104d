-- What is there after the name, if it is wanted (`named`): it has its slot, which holds it, and the rest is as it was built. Assumes nothing.
use mathlib.Core.Bool.{Bool, true, false}
use mathlib.Core.List.{List, [], ◌∷◌, ◌++◌, append-nil}
use mathlib.Core.Logic.{◌⊎◌, inl, inr}
use mathlib.Core.Option.{some}
use mathlib.Core.Path.{◌≡◌, refl, sym, ap, subst, ◌∙◌}
use Prim.Native.Nat.{ℕ, zero, suc, ◌+◌, ◌-◌, ◌≤◌, ◌<◌}
use native.Mathlib.Omega.{arith}
use lib.ListN.{length, get_elem?}
use Rattle.definition.specs.Basics.{good, position, lookup}
use Rattle.definition.specs.Shapes.{Entry, with_kids}
use Rattle.definition.specs.Definitions.{Held, tag_at}
use Rattle.definition.specs.Resolving.{Node, first_node, same_node, intern}
use Rattle.definition.specs.Building.{Pool, allocate, Made, attribute_text, name_slot}
use Rattle.facts.specs.Lists.{Among}
use Rattle.facts.proofs.Lists.{equal, found_inside, inside_found, found_append}
use Rattle.facts.proofs.Tables.{some_key, lookup-hit, lookup-miss}
use Rattle.facts.proofs.Each.{Each, Both, both-among}
use Rattle.facts.proofs.Results.{good_inj, good_then}
use Rattle.laws.specs.Statements.{after_request, more_resolved}
use Rattle.laws.proofs.Resolving.Interning.{interned}
use Rattle.laws.proofs.Resolving.NodesAndChildren.{tag-found, tag-append, kids_append, KidsIn, Constant}
use Rattle.laws.proofs.Slots.SlotRequest.{Met, old, new, met}
use Rattle.laws.proofs.Slots.PoolsThatOccur.{Below, sound}
use Rattle.laws.proofs.Slots.Keeps.{keeps}
use Rattle.laws.proofs.Slots.SlotsToHold.{to_hold}
use Rattle.laws.proofs.Building.ChildNumbers.{SlotFor, Indexing, NumberBy, OwnerBy, SlotsKept, rows_same, slots_same, given-held, owner_kept}
use Rattle.laws.proofs.Building.AfterBuilding.{EndedBy}

number_more :
    (nodes more : List Node) (given : List (ℕ × ℕ)) (At : Indexing) (c n : ℕ) →
    (first_node ≤ c → c < first_node + length nodes) →
    NumberBy nodes given At c n →
    NumberBy (nodes ++ more) given At c n
number_more nodes more given At c n low (inl h) = inl h
number_more nodes more given At c n low (inr (inl h)) =
    let k : c - first_node < length nodes = omega (arith, low h.0, h.0) in
    inr (inl (h.0, λ t. h.1 (sym (tag-append nodes more (c - first_node) k) ∙ t), h.2))
number_more nodes more given At c n low (inr (inr h)) =
    let k : c - first_node < length nodes = omega (arith, low h.0, h.0) in
    inr (inr (h.0, tag-append nodes more (c - first_node) k ∙ h.1, h.2, h.3, subst (λ cs. Both (SlotFor given) cs h.2) (sym (kids_append nodes more (c - first_node) k)) h.4))

owner_more :
    (nodes more : List Node) (given raws : List (ℕ × ℕ)) (At : Indexing) (s : ℕ) (e : Entry ℕ ℕ) →
    KidsIn nodes →
    OwnerBy nodes given raws At s e →
    OwnerBy (nodes ++ more) given raws At s e
owner_more nodes more given raws At s e kids (k, nd, ns, same, at, a, h) =
    (k, nd, ns, same, found_append nodes more k nd at, a, both-among nd.kids ns (λ c n i. number_more nodes more given At c n (kids k nd at c i)) h)

-- constants stay constants
constants_more :
    (nodes more : List Node) (given : List (ℕ × ℕ)) → Below (length nodes) given → Each (λ r. Constant nodes r.0) given → Each (λ r. Constant (nodes ++ more) r.0) given
constants_more nodes more [] b h = tt
constants_more nodes more (r ∷ given) b h = (λ t. h.0 (sym (tag-append nodes more r.0 b.0) ∙ t), constants_more nodes more given b.1 h.1)

ended_more :
    (top : ℕ) (held : List (ℕ × Held)) (raws : List (ℕ × ℕ)) (nodes more : List Node) (At : Indexing) (m : Made) →
    KidsIn nodes →
    EndedBy top held raws nodes At m →
    EndedBy top held raws (nodes ++ more) At m
ended_more top held raws nodes more At m kids h =
    record {
      occurs = more_resolved more h.occurs;
      owner = λ s e l. owner_more nodes more m.pool.given raws At s e kids (h.owner s e l);
      is_owned = h.is_owned;
      constants = constants_more nodes more m.pool.given (sound h.occurs).known h.constants;
    }

-- ---- after one request more, whose slot is owned by its node

-- a node without children, given a slot which then holds it
module _
    (top : ℕ)
    (held : List (ℕ × Held))
    (raws : List (ℕ × ℕ))
    (nodes : List Node)
    (At : Indexing)
    (m : Made)
    (k : ℕ)
    (nd : Node)
    (at : get_elem? nodes k ≡ some nd)
    (childless : nd.kids ≡ [])
    (constant : Constant nodes k)
    (q : ℕ × Pool)
    (gave : allocate nodes false k m.pool ≡ good q)
    (h : EndedBy top held raws nodes At m) where
  abbrev after_name : Made
  after_name = record { pool = q.1; rows = m.rows; owned = (q.0, nd) ∷ m.owned }

  name_kept : SlotsKept m.pool.given q.1.given
  name_kept = record { slot_stays = (keeps nodes false k q.0 m.pool q.1 gave).1 }

  name_given : lookup k q.1.given ≡ some q.0
  name_given = (keeps nodes false k q.0 m.pool q.1 gave).0

  -- the slots that are to hold a node, before and after
  held-still : (s k' : ℕ) → Among (s, k') (to_hold m.pool.given raws) → Among (s, k') (to_hold q.1.given raws)
  held-still s k' a = go (met nodes false k q.0 m.pool q.1 gave)
    where
      go : Met nodes false k m.pool q.0 q.1 → Among (s, k') (to_hold q.1.given raws)
      go (old _ same) = subst (λ (p : Pool). Among (s, k') (to_hold p.given raws)) (sym same) a
      go (new slots _ _ same) = subst (λ (p : Pool). Among (s, k') (to_hold p.given raws)) (sym same) (suc a.0, a.1)

  held-before : (s k' : ℕ) → (s ≡ q.0 → ⊥) → Among (s, k') (to_hold q.1.given raws) → Among (s, k') (to_hold m.pool.given raws)
  held-before s k' other a = go (met nodes false k q.0 m.pool q.1 gave)
    where
      later : Among (s, k') (to_hold ((k, q.0) ∷ m.pool.given) raws) → Among (s, k') (to_hold m.pool.given raws)
      later (zero, e) = absurd (other (sym (some_key (q.0, k) (s, k') e)))
      later (suc i, e) = (i, e)

      go : Met nodes false k m.pool q.0 q.1 → Among (s, k') (to_hold m.pool.given raws)
      go (old _ same) = subst (λ (p : Pool). Among (s, k') (to_hold p.given raws)) same a
      go (new slots _ _ same) = later (subst (λ (p : Pool). Among (s, k') (to_hold p.given raws)) same a)

  name_owner : (s : ℕ) (e : Entry ℕ ℕ) → lookup s ((q.0, nd) ∷ m.owned) ≡ some e → OwnerBy nodes q.1.given raws At s e
  unfolding with_kids
  name_owner s e l = go (equal s q.0)
    where
      go : (s ≡ q.0) ⊎ (s ≡ q.0 → ⊥) → OwnerBy nodes q.1.given raws At s e
      go (inl same) =
          let is : nd ≡ e = cc (lookup-hit s (q.0, nd) m.owned same) in (
            k,
            nd,
            [],
            sym is ∙ ap (λ kids. record { tag = nd.tag; literal = nd.literal; byte = nd.byte; kids = kids }) childless,
            at,
            subst (λ n. Among (n, k) (to_hold q.1.given raws)) (sym same) (given-held k q.0 q.1.given raws name_given),
            subst (λ kids. Both (NumberBy nodes q.1.given At) kids []) (sym childless) tt,
          )
      go (inr other) =
          owner_kept nodes raws {At = At} s e name_kept rows_same (held-still s) (h.owner s e (sym (lookup-miss s (q.0, nd) m.owned other) ∙ l))

  name_owned : (s k' : ℕ) → Among (s, k') (to_hold q.1.given raws) → (e : Entry ℕ ℕ) × (lookup s ((q.0, nd) ∷ m.owned) ≡ some e)
  name_owned s k' a = go (equal s q.0)
    where
      go : (s ≡ q.0) ⊎ (s ≡ q.0 → ⊥) → (e : Entry ℕ ℕ) × (lookup s ((q.0, nd) ∷ m.owned) ≡ some e)
      go (inl same) = (nd, lookup-hit s (q.0, nd) m.owned same)
      go (inr other) =
          let o = h.is_owned s k' (held-before s k' other a) in
          (o.0, lookup-miss s (q.0, nd) m.owned other ∙ o.1)

  name_constants : Each (λ r. Constant nodes r.0) q.1.given
  name_constants = go (met nodes false k q.0 m.pool q.1 gave)
    where
      go : Met nodes false k m.pool q.0 q.1 → Each (λ r. Constant nodes r.0) q.1.given
      go (old _ same) = subst (λ (p : Pool). Each (λ r. Constant nodes r.0) p.given) (sym same) h.constants
      go (new slots _ _ same) = subst (λ (p : Pool). Each (λ r. Constant nodes r.0) p.given) (sym same) (constant, h.constants)

  name_ended : EndedBy top held raws nodes At after_name
  name_ended =
      record {
        occurs = after_request false k q.0 q.1 h.occurs (found_inside nodes k nd at) gave;
        owner = name_owner;
        is_owned = name_owned;
        constants = name_constants;
      }

-- ---- the name

-- the text is no bootstrap
attribute-constant : (nodes : List Node) (k : ℕ) → get_elem? nodes k ≡ some attribute_text → Constant nodes k
unfolding attribute_text
attribute-constant nodes k at t =
    let tag : tag_at nodes k ≡ 1 = tag-found nodes k attribute_text at in
    omega (arith, tag, t)

attribute-childless : attribute_text.kids ≡ []
unfolding attribute_text
attribute-childless = refl

-- a node of the longer list is one of the shorter, or the new one
other_nodes :
    (nodes more : List Node) (k : ℕ) →
    get_elem? (nodes ++ more) k ≡ some attribute_text →
    ((k' : ℕ) → k' < length (nodes ++ more) → (k' < length nodes) ⊎ (k' ≡ k)) →
    (k' : ℕ) (nd : Node) →
    get_elem? (nodes ++ more) k' ≡ some nd →
    (get_elem? nodes k' ≡ some nd) ⊎ (nd ≡ attribute_text)
other_nodes nodes more k at only k' nd at' = go (only k' (found_inside (nodes ++ more) k' nd at'))
  where
    go : (k' < length nodes) ⊎ (k' ≡ k) → (get_elem? nodes k' ≡ some nd) ⊎ (nd ≡ attribute_text)
    go (inl low) =
        let f = inside_found nodes k' low in
        let same : f.0 ≡ nd = cc (found_append nodes more k' f.0 f.1) in
        inl (f.1 ∙ ap some same)
    go (inr same) = inr (cc (ap (get_elem? (nodes ++ more)) same))

-- what the name adds
pub record Named (top : ℕ) (held : List (ℕ × Held)) (raws : List (ℕ × ℕ)) (nodes : List Node) (At : Indexing) (wanted : Bool) (m : Made) (r : ℕ × Made) : Type 0 where
  pub more : List Node
  pub ended : EndedBy top held raws (nodes ++ more) At r.1
  pub kept : SlotsKept m.pool.given r.1.pool.given
  pub held_still : (s k : ℕ) → Among (s, k) (to_hold m.pool.given raws) → Among (s, k) (to_hold r.1.pool.given raws)
  -- no other node came in than the text
  pub others : (k : ℕ) (nd : Node) → get_elem? (nodes ++ more) k ≡ some nd → (get_elem? nodes k ≡ some nd) ⊎ (nd ≡ attribute_text)
  pub name : ((wanted ≡ false) × (r.0 ≡ 0)) ⊎ ((wanted ≡ true) × (lookup r.0 r.1.owned ≡ some attribute_text))

pub named :
    (top : ℕ) (held : List (ℕ × Held)) (raws : List (ℕ × ℕ)) (nodes : List Node) (At : Indexing) (wanted : Bool) (m : Made) (r : ℕ × Made) →
    KidsIn nodes →
    EndedBy top held raws nodes At m →
    name_slot wanted nodes m ≡ good r →
    Named top held raws nodes At wanted m r
unfolding name_slot
named top held raws nodes At false m r kids h e =
    subst (Named top held raws nodes At false m) (good_inj e)
    (record { more = []; ended = ended_more top held raws nodes [] At m kids h; kept = slots_same; held_still = λ s k a. a; others = λ k nd at. inl (subst (λ n. get_elem? n k ≡ some nd) (append-nil nodes) at); name = inl (refl, refl) })
named top held raws nodes At true m r kids h e =
    good_then (allocate (intern attribute_text nodes) false (position (same_node attribute_text) nodes) m.pool) _ r e λ q gave e₁.
    let i = interned attribute_text nodes in
    let more = i.kept.0 in
    let k = position (same_node attribute_text) nodes in
    let at : get_elem? (nodes ++ more) k ≡ some attribute_text = subst (λ n. get_elem? n k ≡ some attribute_text) i.kept.1 i.there in
    let gave' : allocate (nodes ++ more) false k m.pool ≡ good q = subst (λ n. allocate n false k m.pool ≡ good q) i.kept.1 gave in
    let before = ended_more top held raws nodes more At m kids h in
    let constant = attribute-constant (nodes ++ more) k at in
    subst (Named top held raws nodes At true m) (good_inj e₁)
    (record {
      more = more;
      ended = name_ended top held raws (nodes ++ more) At m k attribute_text at attribute-childless constant q gave' before;
      kept = name_kept top held raws (nodes ++ more) At m k attribute_text at attribute-childless constant q gave' before;
      held_still = held-still top held raws (nodes ++ more) At m k attribute_text at attribute-childless constant q gave' before;
      others = other_nodes nodes more k at (λ k' low. i.no_other k' (subst (λ n. k' < length n) (sym i.kept.1) low));
      name = inr (refl, lookup-hit q.0 (q.0, attribute_text) m.owned refl);
    })
