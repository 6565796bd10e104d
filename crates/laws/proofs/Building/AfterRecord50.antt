-- What record 50 leaves: every raw definition is resolved, and nothing has a slot yet. Assumes nothing.
use mathlib.Core.List.{List, ◌++◌, map, reverse}
use mathlib.Core.Path.{◌≡◌, refl, subst}
use Prim.Native.Nat.{ℕ, ◌+◌}
use lib.ListN.{length}
use Rattle.definition.specs.Basics.{good}
use Rattle.definition.specs.Shapes.{Entry}
use Rattle.definition.specs.Job.{Reference, Definition}
use Rattle.definition.specs.Definitions.{Held, Defined, define_all, nothing_defined}
use Rattle.definition.specs.Resolving.{Goal, table_entry, Mark, resolve_all, nothing_resolved}
use Rattle.definition.specs.Layout.{starters, Ready, node_at_lem, end_definitions}
use Rattle.facts.specs.Lists.{Among}
use Rattle.facts.proofs.Results.{good_inj, good_then}
use Rattle.laws.specs.Statements.{Occurs, after_definitions}
use Rattle.laws.proofs.Resolving.FaithfulToEntries.{nothing_faithful, resolve_all-faithful}
use Rattle.laws.specs.Faithful.{Settled, InTable, Cited}
use Rattle.laws.proofs.Building.AfterRequests.{Going}

-- the goals that record 50 resolves: raw constants by rising slot, then raw bootstraps by rising index
abbrev pub raw_goals : ℕ → Defined → List Goal
raw_goals constants d = map (λ r. table_entry r.1) (starters d.held) ++ map (λ r. table_entry (constants + r.1)) d.indexes

-- the raw constants as the building stack has them
abbrev pub raws_of : List (ℕ × Held) → List Mark → List (ℕ × ℕ)
raws_of held marks = reverse (map (λ r. (r.0, node_at_lem marks r.1)) (starters held))

pub ready_going :
    (top : ℕ) (definitions : List (Definition ℕ)) (constants : List (Entry ℕ Reference)) (table : List (Entry ℕ Goal)) (n : ℕ) (d : Defined) (w : Ready) →
    Cited table →
    ((g : Goal) → Among g (raw_goals n d) → InTable (length table) g) →
    define_all top constants 0 definitions nothing_defined ≡ good d →
    end_definitions top table n d ≡ good w →
    Going table top d.held (raws_of d.held w.resolved.marks) w × ((g : Goal) → Among g (raw_goals n d) → Settled w.resolved.marks g)
unfolding end_definitions
ready_going top definitions constants table n d w cited cites defined ended =
    good_then (resolve_all table (raw_goals n d) (nothing_resolved table)) _ w ended λ s resolved e.
    let now = resolve_all-faithful table (raw_goals n d) (nothing_resolved table) s cited cites (nothing_faithful table cited) resolved in
    let occurs : Occurs top d.held w.resolved.nodes w.pool = after_definitions definitions constants table n d w defined ended refl in
    subst
    (λ (x : Ready).
    Occurs top d.held x.resolved.nodes x.pool →
    Going table top d.held (raws_of d.held x.resolved.marks) x × ((g : Goal) → Among g (raw_goals n d) → Settled x.resolved.marks g))
    (good_inj e)
    (λ o. (record { same_table = refl; faithful = now.0; pooled = record { occurs = o; stack = refl; given_in = tt } }, now.1))
    occurs
