-- The definition's stages, as the words came to them, make up its layout. Assumes nothing.
use mathlib.Core.List.{List}
use mathlib.Core.Path.{◌≡◌, ap, ◌∙◌}
use Prim.Native.Nat.{ℕ}
use lib.ListN.{length}
use Rattle.definition.specs.Basics.{Result, good, ◌>>=◌, Refusal, at_record}
use Rattle.definition.specs.Numbering.{top_of, numbered}
use Rattle.definition.specs.Definitions.{Defined}
use Rattle.definition.specs.Resolving.{Mark}
use Rattle.definition.specs.Places.{table_records, at_nodes}
use Rattle.definition.specs.Building.{Made, name_wanted, name_slot}
use Rattle.definition.specs.Layout.{Ready, Layout, layout_of, build_layout, index_nodes, layout}
use Rattle.slots.specs.Gaps.{GapTable}
use Rattle.store.specs.Store.{Store}
use Rattle.store.specs.JobIn.{job_in, definitions_in, constants_in}
use Rattle.store.specs.Regions.{ANSWERS}
use Rattle.definitions.specs.Defining.{records_in, defined_in}
use Rattle.definitions.proofs.Handing.{constants_many}
use Rattle.rows.specs.Rowed as rowed
use Rattle.ending.specs.Ended.{name_in}
use Rattle.builder.proofs.Final.{Final}
use Rattle.builder.proofs.Stages.{records-many, linked-is}

-- a stage that went well goes on with what it gave
then : {E A B : Type 0} (r : Result E A) (a : A) (f : A → Result E B) → r ≡ good a → (r >>= f) ≡ f a
then r a f e = ap (λ x. x >>= f) e

-- at any record
at_record_lem : {A B : Type 0} (place : ℕ) (r : Result ℕ A) (a : A) (f : A → Result Refusal B) → r ≡ good a → (at_record place r >>= f) ≡ f a
unfolding at_record
at_record_lem place r a f e = ap (λ x. at_record place x >>= f) e

-- at the records of nodes
at_nodes_lem :
    {A B : Type 0} (records : List ℕ) (marks : List Mark) (r : Result Refusal A) (a : A) (f : A → Result Refusal B) → r ≡ good a →
    (at_nodes records marks r >>= f) ≡ f a
unfolding at_nodes
at_nodes_lem records marks r a f e = ap (λ x. at_nodes records marks x >>= f) e

-- what the definition lays out, by the name's slot and what is made when it has one
abbrev pub layout_in : List ℕ → Store → Ready → Made → Made → Layout
layout_in s v asked m after =
    layout_of (top_of (job_in s)) (v ANSWERS) asked.origins asked.resolved.visits (job_in s).build.class (rowed.table_of m.rows) (name_in v, after)

module _ (s p : List ℕ) (v : Store) (h : GapTable) (d : Defined) (ready asked : Ready) (m after : Made) (f : Final s p v h d ready asked m after) where
  -- record 60
  built_out :
      (place : ℕ) →
      build_layout (top_of (job_in s)) (table_records (records_in s)) place (index_nodes (constants_in s) asked.resolved.marks d.indexes) (job_in s).build (v ANSWERS) asked
      ≡ good (layout_in s v asked m after)
  unfolding build_layout
  built_out place =
      at_nodes_lem _ _ _ m _ f.is_made
      ∙ at_record_lem
      place
      (name_slot (name_wanted (job_in s).build.name_byte (length (rowed.table_of m.rows))) asked.resolved.nodes m)
      (name_in v, after)
      _
      (rw f.resolved f.is_named)

  pub laid_out : layout (top_of (job_in s)) (numbered (job_in s)) ≡ good (layout_in s v asked m after)
  unfolding layout records_in numbered definitions_in at_record
  laid_out =
      then (defined_in (top_of (job_in s)) s) d _ f.is_defined
      ∙ rw (linked-is (top_of (job_in s)) s d f.is_defined, constants_many s, records-many s)
      (at_record_lem (length (definitions_in s)) _ ready _ f.is_ready
      ∙ then _ (v ANSWERS, asked) _ f.is_asked
      ∙ built_out _)
