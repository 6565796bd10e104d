-- What ORDER speaks of is there: two jobs, of which one has a name and a raw definition behind all entries and the other has them in front of a
-- Class. Assumes nothing.
use mathlib.Core.List.{List, [], ◌∷◌}
use mathlib.Core.Logic.{◌↔◌}
use mathlib.Core.Path.{◌≡◌, refl}
use Prim.Native.Nat.{ℕ}
use Rattle.definition.specs.Basics.{good}
use Rattle.definition.specs.Blocks.{poolrun_lent}
use Rattle.definition.specs.Opened.{opened}
use Rattle.definition.specs.Run.{Built, run}
use Rattle.facts.proofs.Each.{Each, each_at}
use Rattle.order.specs.OrderStatement.{read_record, IsRecord, job_of, moves}
use Rattle.order.proofs.MovedByExchanges.{Exchanged, unmoved, exchanged, exchanged_moved}
use Rattle.order.proofs.RecordsOfJobs.{formed_well}
use Rattle.order.proofs.Order.{order}

-- the text "A", a Class of the name x, x for the text, the text raw at 2
abbrev a_text : List ℕ
a_text = 0x01 ∷ 0 ∷ 1 ∷ 0x41 ∷ []

abbrev a_class : List ℕ
a_class = 0x07 ∷ 2 ∷ 1 ∷ 0x78 ∷ []

abbrev a_name : List ℕ
a_name = 0x41 ∷ 1 ∷ 0x78 ∷ 1 ∷ 0 ∷ 0 ∷ []

abbrev a_raw : List ℕ
a_raw = 0x43 ∷ 0 ∷ 2 ∷ 0 ∷ 0 ∷ []

abbrev rs₁ : List (List ℕ)
rs₁ = a_text ∷ a_class ∷ a_name ∷ a_raw ∷ []

abbrev rs₂ : List (List ℕ)
rs₂ = a_text ∷ a_raw ∷ a_name ∷ a_class ∷ []

-- behind 50 the Class is asked for
abbrev rest : List ℕ
rest = 0x51 ∷ 1 ∷ 0 ∷ 1 ∷ 0x60 ∷ 2 ∷ 1 ∷ 0 ∷ 0 ∷ []

are_records : Each IsRecord rs₁
unfolding opened read_record
are_records = ((_, refl), ((_, refl), ((_, refl), ((_, refl), tt))))

exchanges : Exchanged moves rs₁ rs₂
unfolding opened moves
exchanges =
    exchanged (a_text ∷ []) (a_raw ∷ []) a_class a_name rs₂ refl
    (exchanged (a_text ∷ a_name ∷ []) [] a_class a_raw rs₂ refl
    (exchanged (a_text ∷ []) (a_class ∷ []) a_name a_raw rs₂ refl (unmoved rs₂)))

pub order_met : (b : Built) → (run poolrun_lent (job_of rs₁ rest) ≡ good b) ↔ (run poolrun_lent (job_of rs₂ rest) ≡ good b)
unfolding opened
order_met =
    order rs₁ rs₂ rest poolrun_lent (λ r at. each_at IsRecord rs₁ at.0 r are_records at.1) (exchanged_moved rs₁ rs₂ exchanges)
    (formed_well (job_of rs₁ rest) _ refl)
    (formed_well (job_of rs₂ rest) _ refl)

-- and they are accepted
pub met_accepted : (b : Built) × (run poolrun_lent (job_of rs₁ rest) ≡ good b)
unfolding opened
met_accepted = (_, refl)
