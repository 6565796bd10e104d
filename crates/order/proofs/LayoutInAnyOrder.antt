-- A job whose names and raw definitions stand elsewhere among the definitions is laid out the same. Assumes nothing.
use mathlib.Core.Bool.{not}
use mathlib.Core.List.{List, [], ◌∷◌, ◌++◌}
use mathlib.Core.Path.{◌≡◌, refl, ap, sym, ◌∙◌}
use Prim.Native.Nat.{ℕ, suc, ◌+◌}
use lib.ListN.{length}
use Rattle.definition.specs.Basics.{Result, good, Refusal, at_record, only, ◌>>=◌}
use Rattle.definition.specs.Shapes.{Entry}
use Rattle.definition.specs.Job.{Reference, Request, Job}
use Rattle.definition.specs.Numbering.{is_bootstrap, constants_of, bootstraps_of}
use Rattle.definition.specs.Definitions.{Naming, Defined, define_all, nothing_defined}
use Rattle.definition.specs.Resolving.{linked}
use Rattle.definition.specs.Places.{table_records, at_nodes}
use Rattle.definition.specs.Building.{Made, name_wanted, name_slot}
use Rattle.definition.specs.Layout.{Ready, end_definitions, answer, answer_all, Layout, layout_of, build_layout, index_nodes, layout}
use Rattle.order.proofs.MovedByExchanges.{may_move, Exchanged, length_exchanged}
use Rattle.order.proofs.EntriesInOldOrder.{entries-kept}
use Rattle.order.proofs.NamesInAnyOrder.{NamesAlike}
use Rattle.order.proofs.DefinedInAnyOrder.{DefinedAlike, all_exchanged}
use Rattle.order.proofs.GoalsOfAlikeNames.{same_goals, same-links}
use Rattle.laws.proofs.Building.LayoutStages.{rows_in, Stages, stages}

-- requests are answered the same by names that stand for the same
answers_alike :
    (a b : List Naming) (constants : ℕ) →
    NamesAlike a b →
    (place : ℕ) (requests : List Request) (w : Ready) →
    answer_all a constants place requests w ≡ answer_all b constants place requests w
unfolding answer_all
answers_alike a b constants alike place [] w = refl
answers_alike a b constants alike place (q ∷ requests) w =
    λ i.
    at_record place (answer q.ldc (same_goals a b alike constants q.what i) w) >>= λ r.
    answers_alike a b constants alike (suc place) requests r.1 i >>= λ rest.
    good (r.0 ∷ rest.0, rest.1)

-- record 50 goes by the raw slots, the raw indexes and the version alone, and links the entries the same
ended_alike :
    (top size : ℕ) (entries : List (Entry ℕ Reference)) (d e : Defined) →
    DefinedAlike d e →
    end_definitions top (linked d.names size entries) size d ≡ end_definitions top (linked e.names size entries) size e
unfolding end_definitions
ended_alike top size entries d e h =
    λ i.
    end_definitions top (same-links d.names e.names h.alike_names size entries i) size
    (record { held = h.same_held i; indexes = h.same_indexes i; names = []; version = h.same_version i })

-- the records of a job from record 50 on, by its tables and how many definitions it has, where the table's entries have these records
after_definitions : ℕ → Job ℕ → List (Entry ℕ Reference) → List (Entry ℕ Reference) → ℕ → List ℕ → Defined → Result Refusal Layout
after_definitions top job constants bootstraps ended records d =
    let size = length constants in
    at_record ended (end_definitions top (linked d.names size (constants ++ bootstraps)) size d) >>= λ w.
    answer_all d.names size (suc ended) job.requests w >>= λ r.
    build_layout
    top
    records
    (suc ended + length job.requests)
    (index_nodes size r.1.resolved.marks d.indexes)
    job.build
    r.0
    r.1

-- go alike
after_alike :
    (top : ℕ) (job : Job ℕ) (constants bootstraps : List (Entry ℕ Reference)) (ended : ℕ) (records : List ℕ) (d e : Defined) →
    DefinedAlike d e →
    after_definitions top job constants bootstraps ended records d ≡ after_definitions top job constants bootstraps ended records e
unfolding after_definitions
after_alike top job constants bootstraps ended records d e h =
    let size = length constants in
    λ i.
    at_record ended (ended_alike top size (constants ++ bootstraps) d e h i) >>= λ w.
    answers_alike d.names e.names size h.alike_names (suc ended) job.requests w i >>= λ r.
    build_layout
    top
    records
    (suc ended + length job.requests)
    (index_nodes size r.1.resolved.marks (h.same_indexes i))
    job.build
    r.0
    r.1

-- and well whatever records the entries have: only refusals tell them
after_good :
    (top : ℕ) (job : Job ℕ) (l : Layout) (s : Stages top job l) (records : List ℕ) →
    after_definitions top job (constants_of job.definitions) (bootstraps_of job.definitions) (length job.definitions) records s.defined ≡ good l
unfolding after_definitions build_layout at_record at_nodes
after_good top job l s records =
    ap (λ o. at_record ended o >>= asking) s.is_ready
    ∙ ap (λ o. o >>= building) s.is_asked
    ∙ ap (λ o. at_nodes records s.asked.resolved.marks o >>= naming) s.is_made
    ∙ ap (λ o. at_record place o >>= laying) s.is_named
    ∙ ap good s.is_laid
  where
    ended : ℕ
    ended = length job.definitions

    place : ℕ
    place = suc ended + length job.requests

    size : ℕ
    size = length (constants_of job.definitions)

    building : List ℕ × Ready → Result Refusal Layout
    building r =
        build_layout top records place (index_nodes size r.1.resolved.marks s.defined.indexes) job.build r.0 r.1

    asking : Ready → Result Refusal Layout
    asking w = answer_all s.defined.names size (suc ended) job.requests w >>= building

    laying : ℕ × Made → Result Refusal Layout
    laying r = good (layout_of top s.answers s.asked.origins s.asked.resolved.visits job.build.class (rows_in s.made) r)

    naming : Made → Result Refusal Layout
    naming m =
        at_record place (name_slot (name_wanted job.build.name_byte (length (rows_in m))) s.asked.resolved.nodes m) >>= λ r.
        good (layout_of top s.answers s.asked.origins s.asked.resolved.visits job.build.class (rows_in m) r)

-- two jobs of the same requests and build record whose names and raw definitions stand elsewhere among the same others
module _
    (top : ℕ)
    (j₁ j₂ : Job ℕ)
    (moved : Exchanged may_move j₁.definitions j₂.definitions)
    (requests : j₁.requests ≡ j₂.requests)
    (build : j₁.build ≡ j₂.build) where
  constants : constants_of j₁.definitions ≡ constants_of j₂.definitions
  unfolding constants_of
  constants = ap (only (λ e. not (is_bootstrap e))) (entries-kept j₁.definitions j₂.definitions moved)

  bootstraps : bootstraps_of j₁.definitions ≡ bootstraps_of j₂.definitions
  unfolding bootstraps_of
  bootstraps = ap (only is_bootstrap) (entries-kept j₁.definitions j₂.definitions moved)

  -- the first from record 50 on, but for the records of the second's entries
  abbrev after : Defined → Result Refusal Layout
  after =
      after_definitions top j₁ (constants_of j₁.definitions) (bootstraps_of j₁.definitions) (length j₁.definitions) (table_records j₂.definitions)

  second-as_first : (define_all top (constants_of j₁.definitions) 0 j₂.definitions nothing_defined >>= after) ≡ layout top j₂
  unfolding layout after_definitions
  second-as_first =
      λ i.
      define_all top (constants i) 0 j₂.definitions nothing_defined >>=
      after_definitions
      top
      (record { definitions = j₂.definitions; requests = requests i; build = build i })
      (constants i)
      (bootstraps i)
      (length_exchanged may_move j₁.definitions j₂.definitions moved i)
      (table_records j₂.definitions)

  -- are laid out the same
  pub same_layout : (l : Layout) → layout top j₁ ≡ good l → layout top j₂ ≡ good l
  same_layout l h =
      let s = stages top j₁ l h in
      let both = all_exchanged top (constants_of j₁.definitions) j₁.definitions j₂.definitions moved 0 nothing_defined s.defined s.is_defined in
      let (e, defined, alike) = both in
      sym second-as_first
      ∙ ap (λ o. o >>= after) defined
      ∙ sym
      (after_alike top j₁ (constants_of j₁.definitions) (bootstraps_of j₁.definitions) (length j₁.definitions) (table_records j₂.definitions) s.defined e alike)
      ∙ after_good top j₁ l s (table_records j₂.definitions)
