-- ORDER: two well-formed jobs of the same records, some 41 to 44 elsewhere among the definitions, give the same or are both refused. Assumes
-- nothing.
use mathlib.Core.Bool.{true}
use mathlib.Core.List.{List, ◌∷◌, ◌++◌, map}
use mathlib.Core.Logic.{◌≢◌, inl, inr}
use mathlib.Core.Path.{◌≡◌, refl, ap, sym, subst, ◌∙◌}
use Prim.Native.Nat.{ℕ, suc, ◌+◌}
use lib.Dec.{leb}
use lib.ListN.{length, length-append}
use Rattle.definition.specs.Basics.{Result, good, bad, Refusal, at_record, unless, concat, ◌>>=◌}
use Rattle.definition.specs.Settings.{highest_of}
use Rattle.definition.specs.Job.{Definition, Job}
use Rattle.definition.specs.Definitions.{is_none}
use Rattle.definition.specs.Form.{Counts, nothing_yet, Requests, form_requests, form}
use Rattle.definition.specs.Numbering.{top_of, Literal, attribute_name, literals, numbered_definition, numbered}
use Rattle.definition.specs.Layout.{Layout, layout}
use Rattle.definition.specs.Run.{Built, render, Placed, build, Lent, longest_job, enough, fits, run}
use Rattle.facts.proofs.Each.{Each, each_from, each_weaker}
use Rattle.facts.proofs.Outcomes.{Ends, when_good, when_bad}
use Rattle.facts.proofs.Results.{good_inj, good_first, passes, passed as past}
use Rattle.order.specs.OrderStatement.{IsRecord, job_of, moves, WellFormed, Order}
use Rattle.laws.proofs.Form.FormedJobs.{counts_after}
use Rattle.order.proofs.MovedByExchanges.{may_move, Exchanged, each_exchanged, length_exchanged, map-exchanged, bytes-exchanged, moved_exchanged}
use Rattle.order.proofs.FormOfRecords.{definition_of, passed, form-records, record_moves}
use Rattle.order.proofs.PassInAnyOrder.{CountsAlike, after_exchanged, requests_follow, all_held, held-alike, Of345, Sound, passed-sound, sound_passed}
use Rattle.order.proofs.EntriesInOldOrder.{entries-kept, settings-kept, numbered-exchanged}
use Rattle.laws.proofs.Numbering.RunsLaidOut.{run-laid}
use Rattle.order.proofs.LayoutInAnyOrder.{same_layout}

-- ---- two formed jobs

-- what a run that went well passed
record Ran (lent : Lent) (bytes : List ℕ) (b : Built) : Type 0 where
  short : leb (length bytes) longest_job ≡ true
  lent_enough : enough (length bytes) lent ≡ true
  place : ℕ
  is_built : build bytes ≡ good (place, b)
  has_room : fits b lent ≡ true

ran : (lent : Lent) (bytes : List ℕ) (b : Built) → run lent bytes ≡ good b → Ran lent bytes b
unfolding run
ran lent bytes b h =
    let (short, h₁) = past 0 1 _ (leb (length bytes) longest_job) b h in
    let (lent_enough, h₂) = past 0 2 _ (enough (length bytes) lent) b h₁ in
    let (r, is_built, h₃) = good_first (build bytes) _ b h₂ in
    let (has_room, h₄) = past r.0 18 (good r.1) (fits r.1 lent) b h₃ in
    let is : r.1 ≡ b = good_inj h₄ in
    record {
      short = short;
      lent_enough = lent_enough;
      place = r.0;
      is_built = is_built ∙ (λ i. good (r.0, is i));
      has_room = ap (λ x. fits x lent) (sym is) ∙ has_room;
    }

runs : (lent : Lent) (bytes : List ℕ) (b : Built) → Ran lent bytes b → run lent bytes ≡ good b
unfolding run
runs lent bytes b r =
    passes 0 1 (at_record 0 (unless (enough (length bytes) lent) 2) >>= λ _. given (build bytes)) (leb (length bytes) longest_job) r.short
    ∙ passes 0 2 (given (build bytes)) (enough (length bytes) lent) r.lent_enough
    ∙ ap given r.is_built
    ∙ passes r.place 18 (good b) (fits b lent) r.has_room
  where
    given : Result Refusal Placed → Result Refusal Built
    given o = o >>= λ x. at_record x.0 (unless (fits x.1 lent) 18) >>= λ _. good x.1

-- two jobs of the same requests and build record whose names and raw definitions stand elsewhere among the same others
module _
    (j₁ j₂ : Job (List ℕ))
    (moved : Exchanged may_move j₁.definitions j₂.definitions)
    (requests : j₁.requests ≡ j₂.requests)
    (built : j₁.build ≡ j₂.build) where
  same-literals : literals j₁ ≡ literals j₂
  unfolding literals
  same-literals = λ i. (1, attribute_name) ∷ map (λ e. (e.tag, e.literal)) (entries-kept j₁.definitions j₂.definitions moved i)

  numbered-moved : Exchanged may_move (numbered j₁).definitions (numbered j₂).definitions
  unfolding numbered
  numbered-moved =
      subst
      (λ (all : List Literal). Exchanged may_move (map (numbered_definition (literals j₁)) j₁.definitions) (map (numbered_definition all) j₂.definitions))
      same-literals
      (numbered-exchanged (literals j₁) j₁.definitions j₂.definitions moved)

  same-laid : (l : Layout) → layout (top_of j₁) (numbered j₁) ≡ good l → layout (top_of j₂) (numbered j₂) ≡ good l
  unfolding numbered
  same-laid l h =
      ap (λ settings. layout (highest_of settings) (numbered j₂)) (sym (settings-kept j₁.definitions j₂.definitions moved))
      ∙ same_layout (top_of j₁) (numbered j₁) (numbered j₂) numbered-moved requests built l h

  -- the second is built as the first, at its own build record
  same-built :
      (bytes₂ : List ℕ) (l : Layout) →
      form bytes₂ ≡ good j₂ →
      layout (top_of j₁) (numbered j₁) ≡ good l →
      (place : ℕ) × (build bytes₂ ≡ good (place, render (literals j₁) l))
  unfolding build
  same-built bytes₂ l formed h =
      (place, ap (λ o. o >>= laying) formed ∙ ap (λ o. o >>= giving) (same-laid l h) ∙ (λ i. good (place, render (sym same-literals i) l)))
    where
      place : ℕ
      place = suc (length j₂.definitions + length j₂.requests)

      giving : Layout → Result Refusal Placed
      giving l = good (place, render (literals j₂) l)

      laying : Job (List ℕ) → Result Refusal Placed
      laying j = layout (top_of j) (numbered j) >>= λ l. good (suc (length j.definitions + length j.requests), render (literals j) l)

  -- so it gives the same, if the two are of one length
  same-run :
      (bytes₁ bytes₂ : List ℕ) (lent : Lent) (b : Built) →
      form bytes₁ ≡ good j₁ →
      form bytes₂ ≡ good j₂ →
      length bytes₁ ≡ length bytes₂ →
      run lent bytes₁ ≡ good b →
      run lent bytes₂ ≡ good b
  same-run bytes₁ bytes₂ lent b formed₁ formed₂ long h =
      let r = ran lent bytes₁ b h in
      let (l, laid, is) = run-laid bytes₁ j₁ lent b formed₁ h in
      let (place, is_built) = same-built bytes₂ l formed₂ laid in
      runs lent bytes₂ b
      (record {
        short = ap (λ n. leb n longest_job) (sym long) ∙ r.short;
        lent_enough = ap (λ n. enough n lent) (sym long) ∙ r.lent_enough;
        place = place;
        is_built = is_built ∙ (λ i. good (place, is i));
        has_room = r.has_room;
      })

-- ---- two rows of records, the first of which ran

module _
    (rs₁ rs₂ : List (List ℕ))
    (rest : List ℕ)
    (lent : Lent)
    (each₁ : Each IsRecord rs₁)
    (ex : Exchanged moves rs₁ rs₂)
    (formed₂ : WellFormed (job_of rs₂ rest))
    (b : Built)
    (ran₁ : run lent (job_of rs₁ rest) ≡ good b) where
  abbrev job : List (List ℕ) → List ℕ
  job rs = job_of rs rest

  abbrev ds₁ : List (Definition (List ℕ))
  ds₁ = map definition_of rs₁

  abbrev ds₂ : List (Definition (List ℕ))
  ds₂ = map definition_of rs₂

  -- what they are read as is exchanged too, and they are of one length
  ex_d : Exchanged may_move ds₁ ds₂
  ex_d = map-exchanged moves may_move definition_of rs₁ rs₂ (each_weaker IsRecord (λ r. may_move (definition_of r) ≡ moves r) record_moves rs₁ each₁) ex

  each₂ : Each IsRecord rs₂
  each₂ = each_exchanged moves IsRecord rs₁ rs₂ ex each₁

  long : length (job rs₁) ≡ length (job rs₂)
  long =
      length-append (concat rs₁) (0x50 ∷ rest)
      ∙ ap (λ n. n + length (0x50 ∷ rest)) (bytes-exchanged moves rs₁ rs₂ ex)
      ∙ sym (length-append (concat rs₂) (0x50 ∷ rest))

  abbrev made : List (List ℕ) → Requests → Job (List ℕ)
  made rs q = record { definitions = map definition_of rs; requests = q.list; build = q.build }

  abbrev requests_of : List (List ℕ) → Counts → Result Refusal Requests
  requests_of rs c = form_requests (length (job rs)) c 0 (suc (length rs)) rest

  abbrev asked : List (List ℕ) → Counts → Result Refusal (Job (List ℕ))
  asked rs c = requests_of rs c >>= λ q. good (made rs q)

  -- a row whose records and whose requests pass is formed
  row_formed : (rs : List (List ℕ)) (c : Counts) (q : Requests) → Each IsRecord rs → passed nothing_yet 0 rs ≡ good c → requests_of rs c ≡ good q → form (job rs) ≡ good (made rs q)
  row_formed rs c q each p h = form-records rs rest each ∙ ap (λ o. o >>= asked rs) p ∙ ap (λ o. o >>= λ q. good (made rs q)) h

  -- the first is
  record Formed : Type 0 where
    counts : Counts
    requests : Requests
    is_passed : passed nothing_yet 0 rs₁ ≡ good counts
    is_asked : requests_of rs₁ counts ≡ good requests

  formed₁ : Formed
  unfolding build
  formed₁ =
      let (j, isFormed, _) = good_first (form (job rs₁)) _ _ (ran lent (job rs₁) b ran₁).is_built in
      let (c, is_passed, h₁) = good_first (passed nothing_yet 0 rs₁) (asked rs₁) j (sym (form-records rs₁ rest each₁) ∙ isFormed) in
      let (q, is_asked, _) = good_first (requests_of rs₁ c) (λ q. good (made rs₁ q)) j h₁ in
      record { counts = c; requests = q; is_passed = is_passed; is_asked = is_asked }

  abbrev f : Formed
  f = formed₁

  -- its records are sound and its texts are held
  passed₁ : Each Sound rs₁ × (f.counts ≡ counts_after nothing_yet ds₁) × (all_held f.counts ≡ true)
  unfolding is_none
  passed₁ = passed-sound rs₁ nothing_yet 0 f.counts refl f.is_passed

  alike : CountsAlike (counts_after nothing_yet ds₁) (counts_after nothing_yet ds₂)
  alike = after_exchanged ds₁ ds₂ nothing_yet ex_d

  -- so the second passes with counts alike, or is refused 3, 4 or 5, which it isn't
  ends₂ : Ends (λ e. Of345 e.code) (λ c. c ≡ counts_after nothing_yet ds₂) (passed nothing_yet 0 rs₂)
  ends₂ =
      sound_passed rs₂ nothing_yet 0 (each_exchanged moves Sound rs₁ rs₂ ex passed₁.0)
      (sym (held-alike (counts_after nothing_yet ds₁) (counts_after nothing_yet ds₂) alike) ∙ ap all_held (sym passed₁.1) ∙ passed₁.2)

  not-refused : {C : Type 0} (r : Refusal) → passed nothing_yet 0 rs₂ ≡ bad r → Of345 r.code → C
  not-refused r e code = ways (formed₂ r (form-records rs₂ rest each₂ ∙ ap (λ o. o >>= asked rs₂) e)) code
    where
      ways : {C : Type 0} → (r.code ≢ 3) × (r.code ≢ 4) × (r.code ≢ 5) → Of345 r.code → C
      ways other (inl three) = absurd (other.0 three)
      ways other (inr (inl four)) = absurd (other.1 four)
      ways other (inr (inr five)) = absurd (other.2 five)

  -- the requests are the same, since they cite entries by the counts
  same-requests : (c : Counts) → c ≡ counts_after nothing_yet ds₂ → requests_of rs₂ c ≡ good f.requests
  same-requests c is =
      ap (requests_of rs₂) is
      ∙ sym (requests_follow (counts_after nothing_yet ds₁) (counts_after nothing_yet ds₂) alike (length (job rs₂)) 0 (suc (length rs₂)) rest)
      ∙ sym (λ i. form_requests (long i) (passed₁.1 i) 0 (suc (length_exchanged moves rs₁ rs₂ ex i)) rest)
      ∙ f.is_asked

  pub same_outcome : run lent (job rs₂) ≡ good b
  same_outcome = go (passed nothing_yet 0 rs₂) refl
    where
      go : (o : Result Refusal Counts) → passed nothing_yet 0 rs₂ ≡ o → run lent (job rs₂) ≡ good b
      go (bad r) e = not-refused r e (when_bad ends₂ e)
      go (good c) e =
          let first = row_formed rs₁ f.counts f.requests each₁ f.is_passed f.is_asked in
          let second = row_formed rs₂ c f.requests each₂ e (same-requests c (when_good ends₂ e)) in
          same-run (made rs₁ f.requests) (made rs₂ f.requests) ex_d refl refl (job rs₁) (job rs₂) lent b first second long ran₁

pub order : Order
order rs₁ rs₂ rest lent records moved formed₁ formed₂ b =
    let each₁ : Each IsRecord rs₁ = each_from IsRecord rs₁ (λ i r at. records r (i, at)) in
    let ex = moved_exchanged rs₁ rs₂ moved in
    let ex' = moved_exchanged rs₂ rs₁ (record { same_records = λ r. sym (moved.same_records r); old_order = sym moved.old_order }) in (
      λ h. same_outcome rs₁ rs₂ rest lent each₁ ex formed₂ b h,
      λ h. same_outcome rs₂ rs₁ rest lent (each_exchanged moves IsRecord rs₁ rs₂ ex each₁) ex' formed₁ b h,
    )
