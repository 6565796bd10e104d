-- What is there when a job is built: every slot that is to hold a node is owned by it. Assumes nothing.
use mathlib.Core.List.{List}
use mathlib.Core.Option.{some}
use mathlib.Core.Path.{◌≡◌}
use Prim.Native.Nat.{ℕ, ◌<◌}
use lib.ListN.{length}
use Rattle.definition.specs.Basics.{good, lookup}
use Rattle.definition.specs.Shapes.{bootstrap_tag, Entry, with_kids}
use Rattle.definition.specs.Definitions.{Held, tag_at}
use Rattle.definition.specs.Resolving.{Node}
use Rattle.definition.specs.Building.{Pool, Row, Made, build_all}
use Rattle.facts.specs.Lists.{Among}
use Rattle.facts.proofs.Tables.{lookup-at, among-lookup}
use Rattle.facts.proofs.Each.{Each, each_weaker}
use Rattle.laws.specs.Statements.{Occurs}
use Rattle.laws.proofs.Resolving.NodesAndChildren.{Constant, BootstrapKids}
use Rattle.laws.proofs.Slots.SlotsToHold.{to_hold}
use Rattle.laws.proofs.Building.ConstantsGiven.{build_all-given}
use Rattle.laws.proofs.Building.ChildNumbers.{Indexing, StandsIn, InlineIn, OwnerBy, rows_of, Starts}
use Rattle.laws.proofs.Building.SlotsAndRowsBuilt.{finished, inline_owners, owners}
use Rattle.laws.proofs.Building.PoolOccurs.{pool_occurs}
use Rattle.laws.proofs.Building.AfterRequests.{Pooled}

pub record EndedBy (top : ℕ) (held : List (ℕ × Held)) (raws : List (ℕ × ℕ)) (nodes : List Node) (At : Indexing) (m : Made) : Type 0 where
  -- the pool is one that occurs
  pub occurs : Occurs top held nodes m.pool
  -- a slot that is owned is to hold that node, with numbers that stand for its children
  pub owner : (s : ℕ) (e : Entry ℕ ℕ) → lookup s m.owned ≡ some e → OwnerBy nodes m.pool.given raws At s e
  -- every slot that is to hold a node is owned
  pub is_owned : (s k : ℕ) → Among (s, k) (to_hold m.pool.given raws) → (e : Entry ℕ ℕ) × (lookup s m.owned ≡ some e)
  -- constants only were given slots
  pub constants : Each (λ r. Constant nodes r.0) m.pool.given

abbrev pub Ended : ℕ → List (ℕ × Held) → List (ℕ × ℕ) → List Node → List Row → Made → Type 0
Ended top held raws nodes rows m = EndedBy top held raws nodes (StandsIn rows) m

-- indexes that are those of inline rows
pub built_inline :
    (top : ℕ) (held : List (ℕ × Held)) (raws : List (ℕ × ℕ)) (nodes : List Node) (indexes : List (ℕ × ℕ)) (p : Pool) (m : Made) →
    Pooled top held raws nodes p →
    Starts nodes raws p →
    BootstrapKids nodes →
    Each (λ x. tag_at nodes x.1 ≡ bootstrap_tag) indexes →
    build_all nodes indexes p ≡ good m →
    EndedBy top held raws nodes (InlineIn m.rows.inline) m
built_inline top held raws nodes indexes p m pooled starts kids boots e =
    record {
      occurs = pool_occurs nodes indexes raws p m starts e top held pooled.occurs;
      owner = λ s x h. inline_owners nodes indexes raws p m starts e s x (lookup-at s x m.owned h);
      is_owned =
          λ s k a.
          let f = finished nodes indexes raws p m starts e s k a in
          among-lookup s (with_kids f.1 f.0) m.owned f.3;
      constants =
          build_all-given nodes kids indexes p m boots e
          (each_weaker (λ r. (r.0 < length nodes) × Constant nodes r.0) (λ r. Constant nodes r.0) (λ r h. h.1) p.given pooled.given_in);
    }

-- and so of the rows at the end
pub built_ended :
    (top : ℕ) (held : List (ℕ × Held)) (raws : List (ℕ × ℕ)) (nodes : List Node) (indexes : List (ℕ × ℕ)) (p : Pool) (m : Made) →
    Pooled top held raws nodes p →
    Starts nodes raws p →
    BootstrapKids nodes →
    Each (λ x. tag_at nodes x.1 ≡ bootstrap_tag) indexes →
    build_all nodes indexes p ≡ good m →
    Ended top held raws nodes (rows_of m) m
built_ended top held raws nodes indexes p m pooled starts kids boots e =
    let h = built_inline top held raws nodes indexes p m pooled starts kids boots e in
    record {
      occurs = h.occurs;
      owner = λ s x l. owners nodes indexes raws p m starts e s x (lookup-at s x m.owned l);
      is_owned = h.is_owned;
      constants = h.constants;
    }
