-- A run that isn't refused for length, work or room is the layout of the numbered job, with the job's literals. Assumes nothing.
use mathlib.Core.List.{List}
use mathlib.Core.Logic.{◌≢◌}
use mathlib.Core.Path.{◌≡◌, refl, sym, ◌∙◌}
use Prim.Native.Nat.{ℕ, suc, ◌+◌}
use lib.Dec.{leb}
use lib.ListN.{length}
use Rattle.definition.specs.Basics.{Result, good, bad, Refusal, at_record, unless, ◌>>=◌}
use Rattle.definition.specs.Job.{Job}
use Rattle.definition.specs.Form.{form}
use Rattle.definition.specs.Numbering.{top_of, literals, numbered}
use Rattle.definition.specs.Layout.{Layout, layout}
use Rattle.definition.specs.Run.{Built, render, Placed, build, Lent, longest_job, enough, fits, run}
use Rattle.facts.proofs.Results.{bad≢good, good_inj, good_first, past_unless}

-- not refused for length, work or room
abbrev RoomEnough : Result Refusal Built → Type 0
RoomEnough outcome = (r : Refusal) → outcome ≡ bad r → (r.code ≢ 1) × (r.code ≢ 2) × (r.code ≢ 18)

-- with room enough a run is what was built: 1, 2 and 18 are out
pub room_run : (lent : Lent) (bytes : List ℕ) → RoomEnough (run lent bytes) → run lent bytes ≡ (build bytes >>= λ b. good b.1)
unfolding run
room_run lent bytes room =
    let p : run lent bytes ≡ second = past_unless (leb (length bytes) longest_job) 0 1 (λ _. second) (λ r e. (room r e).0) in
    let q : second ≡ rest (build bytes) = past_unless (enough (length bytes) lent) 0 2 (λ _. rest (build bytes)) (λ r e. (room r (p ∙ e)).1) in
    p ∙ q ∙ last (build bytes) (λ r e. (room r (p ∙ q ∙ e)).2)
  where
    rest : Result Refusal Placed → Result Refusal Built
    rest o = o >>= λ b. at_record b.0 (unless (fits b.1 lent) 18) >>= λ _. good b.1

    second : Result Refusal Built
    second = at_record 0 (unless (enough (length bytes) lent) 2) >>= λ _. rest (build bytes)

    last : (o : Result Refusal Placed) → ((r : Refusal) → rest o ≡ bad r → r.code ≡ 18 → ⊥) → rest o ≡ (o >>= λ b. good b.1)
    last (good b) h = past_unless (fits b.1 lent) b.0 18 (λ _. good b.1) h
    last (bad r) h = refl

-- and what was built is the layout, in which the job shows its literals
pub build_layout_lem :
    (bytes : List ℕ) (j : Job (List ℕ)) →
    form bytes ≡ good j →
    (build bytes >>= λ b. good b.1) ≡ (layout (top_of j) (numbered j) >>= λ l. good (render (literals j) l))
unfolding build
build_layout_lem bytes j formed = rw (formed, build) (ways (layout (top_of j) (numbered j)))
  where
    laid : Layout → Result Refusal Placed
    laid l = good (suc (length j.definitions + length j.requests), render (literals j) l)

    ways : (o : Result Refusal Layout) → (o >>= laid >>= λ b. good b.1) ≡ (o >>= λ l. good (render (literals j) l))
    ways (good l) = refl
    ways (bad r) = refl

-- so a job that is built is laid out, and what is returned is the layout with its literals' bytes
pub run-laid :
    (bytes : List ℕ) (job : Job (List ℕ)) (lent : Lent) (b : Built) →
    form bytes ≡ good job →
    run lent bytes ≡ good b →
    (l : Layout) × (layout (top_of job) (numbered job) ≡ good l) × (render (literals job) l ≡ b)
run-laid bytes job lent b formed e =
    let p = room_run lent bytes (λ r q. bad≢good (sym q ∙ e)) ∙ build_layout_lem bytes job formed in
    let (l, laid, is) = good_first (layout (top_of job) (numbered job)) _ b (sym p ∙ e) in
    (l, laid, good_inj is)

-- a layout is refused or not
pub laid_or_refused :
    {C : Type 0} (o : Result Refusal Layout) → ((l : Layout) → o ≡ good l → C) → ((r : Refusal) → o ≡ bad r → C) → C
laid_or_refused (good l) f g = f l refl
laid_or_refused (bad r) f g = g r refl
