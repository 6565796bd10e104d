-- Lists of nodes: the tag and the children of a node, children that are nodes of the list, and bootstraps whose children are constants.
-- Assumes nothing.
use mathlib.Core.List.{List, ◌++◌}
use mathlib.Core.Option.{Option, none, some}
use mathlib.Core.Path.{◌≡◌, refl}
use Prim.Native.Nat.{ℕ, ◌+◌, ◌-◌, ◌≤◌, ◌<◌}
use lib.ListN.{length, get_elem?}
use Rattle.definition.specs.Shapes.{bootstrap_tag, Entry}
use Rattle.definition.specs.Definitions.{tag_at}
use Rattle.definition.specs.Resolving.{Node, first_node}
use Rattle.definition.specs.Building.{kids_of}
use Rattle.facts.specs.Lists.{Among}
use Rattle.facts.proofs.Lists.{inside_found, place_front, found_append, among-nil}
use Rattle.facts.proofs.Each.{Each}

-- the tag of a node
pub tag-found : {L R : Type 0} (nodes : List (Entry L R)) (k : ℕ) (n : Entry L R) → get_elem? nodes k ≡ some n → tag_at nodes k ≡ n.tag
unfolding tag_at
tag-found nodes k n h = rw (h, tag_at)

-- and its children
pub kids_found : (nodes : List Node) (k : ℕ) (n : Node) → get_elem? nodes k ≡ some n → kids_of nodes k ≡ n.kids
unfolding kids_of
kids_found nodes k n h = rw (h, kids_of)

-- more nodes behind change no tag
pub tag-append : (nodes more : List Node) (k : ℕ) → k < length nodes → tag_at (nodes ++ more) k ≡ tag_at nodes k
unfolding tag_at
tag-append nodes more k h = rw (place_front nodes more k h, tag_at)

pub kids_append : (nodes more : List Node) (k : ℕ) → k < length nodes → kids_of (nodes ++ more) k ≡ kids_of nodes k
unfolding kids_of
kids_append nodes more k h =
    let f = inside_found nodes k h in
    rw (found_append nodes more k f.0 f.1, f.1, kids_of)

-- children that are nodes are nodes of the list
abbrev pub InNodes : List Node → List ℕ → Type 0
InNodes nodes children = (c : ℕ) → Among c children → first_node ≤ c → c < first_node + length nodes

abbrev pub KidsIn : List Node → Type 0
KidsIn nodes = (k : ℕ) (nd : Node) → get_elem? nodes k ≡ some nd → InNodes nodes nd.kids

-- the children of a node are nodes of the list, if those of all are
pub kids_in_lem : (nodes : List Node) → KidsIn nodes → (k : ℕ) → InNodes nodes (kids_of nodes k)
unfolding kids_of
kids_in_lem nodes h k = go (get_elem? nodes k) refl
  where
    go : (o : Option Node) → get_elem? nodes k ≡ o → InNodes nodes (kids_of nodes k)
    go none e = rw (e, kids_of) (λ c m. among-nil c m)
    go (some nd) e = rw (e, kids_of) (h k nd e)

-- the node isn't a bootstrap
abbrev pub Constant : List Node → ℕ → Type 0
Constant nodes k = tag_at nodes k ≡ bootstrap_tag → ⊥

-- a child that is a node is a constant
abbrev pub ConstantChild : List Node → ℕ → Type 0
ConstantChild nodes c = first_node ≤ c → Constant nodes (c - first_node)

-- a bootstrap's children are constants
abbrev pub BootstrapKids : List Node → Type 0
BootstrapKids nodes = (k : ℕ) → tag_at nodes k ≡ bootstrap_tag → Each (ConstantChild nodes) (kids_of nodes k)
