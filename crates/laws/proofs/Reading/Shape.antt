-- SHAPE: two jobs that are alike but for their literals are refused alike, or get one layout, in which each shows its own literals, slot by
-- slot. Assumes nothing.
use mathlib.Core.List.{List, map}
use mathlib.Core.Logic.{inl, inr}
use mathlib.Core.Option.{Option, none, some, map-eq-some_iff}
use mathlib.Core.Path.{◌≡◌, refl, sym, ap, subst, ◌∙◌}
use Prim.Native.Nat.{ℕ}
use lib.ListN.{length, get_elem?, length-map}
use Rattle.definition.specs.Basics.{Result, good, Refusal, ◌>>=◌}
use Rattle.definition.specs.Bytes.{be2}
use Rattle.definition.specs.Shapes.{Entry, with_literal}
use Rattle.definition.specs.Job.{Job}
use Rattle.definition.specs.Form.{form}
use Rattle.definition.specs.Numbering.{top_of, Literal, literals, numbered}
use Rattle.definition.specs.Building.{Content, nothing, empty_text, holds}
use Rattle.definition.specs.Layout.{Layout, layout}
use Rattle.definition.specs.Run.{shown, class_bytes, Built, render, Lent, run}
use Rattle.facts.proofs.Lists.{some_inj, map_at, map-some}
use Rattle.facts.proofs.Results.{good_inj}
use Rattle.jvms.specs.Pool.{Slot, read_pool_lem}
use Rattle.laws.specs.AsEntries.{as_shown}
use Rattle.laws.specs.Statements.{IsBytes}
use Rattle.laws.specs.ShapeStatement.{SlotsAlike, PoolsAlike, ClassesAlike, Shape}
use Rattle.laws.proofs.Form.HighestSlots.{top-numbered}
use Rattle.laws.proofs.Numbering.AlikeJobs.{same-numbered}
use Rattle.laws.proofs.Numbering.RunsLaidOut.{room_run, build_layout_lem, laid_or_refused}
use Rattle.laws.proofs.Reading.Reads.{reads}
use Rattle.laws.proofs.Reading.LiteralsShown.{LiteralAt, slot-literal, class_literal}

-- what the reader shows of a layout that was returned
pool_read :
    (bytes : List ℕ) (job : Job (List ℕ)) (lent : Lent) (b : Built) (l : Layout) →
    IsBytes bytes →
    form bytes ≡ good job →
    run lent bytes ≡ good b →
    layout (top_of job) (numbered job) ≡ good l →
    (pool : List Slot) × (read_pool_lem b.pool ≡ some pool) × (map as_shown pool ≡ map (shown (literals job)) l.contents)
pool_read bytes job lent b l are formed ran laid =
    let (l', laid', is, readsPool, readsRows) = reads bytes job lent b are formed ran in
    let (pool, poolRead, same) = (map-eq-some_iff (map as_shown) (read_pool_lem b.pool)).0 readsPool in
    let one : l' ≡ l = good_inj (sym laid' ∙ laid) in
    (pool, poolRead, same ∙ ap (λ (x : Layout). map (shown (literals job)) x.contents) one)

-- a slot's content, by what the reader shows
content_read : (all : List Literal) (contents : List Content) (pool : List Slot) (i : ℕ) (s : Slot) → map as_shown pool ≡ map (shown all) contents → get_elem? pool i ≡ some s → (c : Content) × (get_elem? contents i ≡ some c) × (shown all c ≡ as_shown s)
content_read all contents pool i s same at =
    map-some (shown all) contents i (as_shown s) (ap (λ l. get_elem? l i) (sym same) ∙ map_at as_shown pool i s at)

-- two jobs with one layout
module _
    (j₁ j₂ : Job (List ℕ))
    (l : Layout)
    (held₁ : (i : ℕ) (e : Entry ℕ ℕ) → get_elem? l.contents i ≡ some (holds e) → LiteralAt (literals j₁) e.tag e.literal)
    (held₂ : (i : ℕ) (e : Entry ℕ ℕ) → get_elem? l.contents i ≡ some (holds e) → LiteralAt (literals j₂) e.tag e.literal)
    (named₁ : (n : ℕ) → l.class ≡ some (some n) → LiteralAt (literals j₁) 1 n)
    (named₂ : (n : ℕ) → l.class ≡ some (some n) → LiteralAt (literals j₂) 1 n) where
  contents_alike : (i : ℕ) (c : Content) → get_elem? l.contents i ≡ some c → SlotsAlike j₁ j₂ (shown (literals j₁) c) (shown (literals j₂) c)
  unfolding SlotsAlike shown with_literal
  contents_alike i nothing h = tt
  contents_alike i empty_text h = (refl, refl, refl, inr (refl, refl))
  contents_alike i (holds e) h = (refl, refl, refl, inl (e.literal, held₁ i e h, held₂ i e h))

  slots-alike :
      (pool₁ pool₂ : List Slot) →
      map as_shown pool₁ ≡ map (shown (literals j₁)) l.contents →
      map as_shown pool₂ ≡ map (shown (literals j₂)) l.contents →
      (length pool₁ ≡ length pool₂)
      × ((i : ℕ) (s₁ s₂ : Slot) → get_elem? pool₁ i ≡ some s₁ → get_elem? pool₂ i ≡ some s₂ → SlotsAlike j₁ j₂ (as_shown s₁) (as_shown s₂))
  slots-alike pool₁ pool₂ same₁ same₂ = (many pool₁ (literals j₁) same₁ ∙ sym (many pool₂ (literals j₂) same₂), each)
    where
      many : (pool : List Slot) (all : List Literal) → map as_shown pool ≡ map (shown all) l.contents → length pool ≡ length l.contents
      many pool all same = sym (length-map pool as_shown) ∙ ap length same ∙ length-map l.contents (shown all)

      each : (i : ℕ) (s₁ s₂ : Slot) → get_elem? pool₁ i ≡ some s₁ → get_elem? pool₂ i ≡ some s₂ → SlotsAlike j₁ j₂ (as_shown s₁) (as_shown s₂)
      each i s₁ s₂ at₁ at₂ =
          let (c₁, here₁, is₁) = content_read (literals j₁) l.contents pool₁ i s₁ same₁ at₁ in
          let (c₂, here₂, is₂) = content_read (literals j₂) l.contents pool₂ i s₂ same₂ at₂ in
          let one : c₁ ≡ c₂ = some_inj (sym here₁ ∙ here₂) in
          subst (λ x. SlotsAlike j₁ j₂ x (as_shown s₂)) is₁
          (subst (λ x. SlotsAlike j₁ j₂ (shown (literals j₁) c₁) x) is₂
          (subst (λ c. SlotsAlike j₁ j₂ (shown (literals j₁) c₁) (shown (literals j₂) c)) one (contents_alike i c₁ here₁)))

  classes_alike : (o : Option (Option ℕ)) → l.class ≡ o → ClassesAlike j₁ j₂ (class_bytes (literals j₁) o) (class_bytes (literals j₂) o)
  unfolding ClassesAlike class_bytes
  classes_alike none h = tt
  classes_alike (some none) h = inr (refl, refl)
  classes_alike (some (some n)) h = inl (n, named₁ n h, named₂ n h)

pub shape : Shape
unfolding render be2
shape bytes₁ bytes₂ j₁ j₂ lent₁ lent₂ formed₁ formed₂ alike room₁ room₂ =
    laid_or_refused
    (layout (top_of j₁) (numbered j₁))
    (λ l e.
    inr (
      l,
      render (literals j₁) l,
      render (literals j₂) l,
      p₁ ∙ ap shown₁ e,
      p₂ ∙ ap shown₂ (sym q ∙ e),
      refl,
      refl,
      refl,
      refl,
      refl,
      refl,
      refl,
      refl,
      refl,
      λ are₁ are₂. read_alike l are₁ are₂ e (sym q ∙ e),
    ))
    (λ r e. inl (r, p₁ ∙ ap shown₁ e, p₂ ∙ ap shown₂ (sym q ∙ e)))
  where
    shown₁ : Result Refusal Layout → Result Refusal Built
    shown₁ o = o >>= λ l. good (render (literals j₁) l)

    shown₂ : Result Refusal Layout → Result Refusal Built
    shown₂ o = o >>= λ l. good (render (literals j₂) l)

    p₁ : run lent₁ bytes₁ ≡ shown₁ (layout (top_of j₁) (numbered j₁))
    p₁ = room_run lent₁ bytes₁ room₁ ∙ build_layout_lem bytes₁ j₁ formed₁

    p₂ : run lent₂ bytes₂ ≡ shown₂ (layout (top_of j₂) (numbered j₂))
    p₂ = room_run lent₂ bytes₂ room₂ ∙ build_layout_lem bytes₂ j₂ formed₂

    q : layout (top_of j₁) (numbered j₁) ≡ layout (top_of j₂) (numbered j₂)
    q =
        let same = same-numbered bytes₁ bytes₂ j₁ j₂ formed₁ formed₂ alike in
        ap (λ top. layout top (numbered j₁)) (sym (top-numbered j₁) ∙ ap top_of same ∙ top-numbered j₂) ∙ ap (layout (top_of j₂)) same

    read_alike :
        (l : Layout) →
        IsBytes bytes₁ →
        IsBytes bytes₂ →
        layout (top_of j₁) (numbered j₁) ≡ good l →
        layout (top_of j₂) (numbered j₂) ≡ good l →
        PoolsAlike j₁ j₂ (render (literals j₁) l).pool (render (literals j₂) l).pool
        × ClassesAlike j₁ j₂ (render (literals j₁) l).class (render (literals j₂) l).class
    read_alike l are₁ are₂ laid₁ laid₂ =
        let held₁ = slot-literal bytes₁ j₁ l are₁ formed₁ laid₁ in
        let held₂ = slot-literal bytes₂ j₂ l are₂ formed₂ laid₂ in
        let named₁ = class_literal bytes₁ j₁ l are₁ formed₁ laid₁ in
        let named₂ = class_literal bytes₂ j₂ l are₂ formed₂ laid₂ in
        let (pool₁, read₁, same₁) = pool_read bytes₁ j₁ lent₁ (render (literals j₁) l) l are₁ formed₁ (p₁ ∙ ap shown₁ laid₁) laid₁ in
        let (pool₂, read₂, same₂) = pool_read bytes₂ j₂ lent₂ (render (literals j₂) l) l are₂ formed₂ (p₂ ∙ ap shown₂ laid₂) laid₂ in
        let (many, each) = slots-alike j₁ j₂ l held₁ held₂ named₁ named₂ pool₁ pool₂ same₁ same₂ in
        ((pool₁, pool₂, read₁, read₂, many, each), classes_alike j₁ j₂ l held₁ held₂ named₁ named₂ l.class refl)
