-- Two goals that are settled have become one child exactly if they are the same, by the job's records. Assumes nothing.
use mathlib.Core.List.{List, [], ◌∷◌, map}
use mathlib.Core.Option.{some}
use mathlib.Core.Path.{◌≡◌, refl, sym, ap, subst, ◌∙◌}
use Prim.Native.Nat.{ℕ, zero, suc, ◌+◌, ◌<◌}
use native.Mathlib.Omega.{arith}
use lib.ListN.{length, get_or, get_elem?, length-map}
use Rattle.definition.specs.Basics.{good}
use Rattle.definition.specs.Shapes.{Entry, with_kids, constant}
use Rattle.definition.specs.Job.{Reference, raw, Job}
use Rattle.definition.specs.Form.{form}
use Rattle.definition.specs.Numbering.{literals, number_of, literal_of, numbered}
use Rattle.definition.specs.Resolving.{Goal, raw_number, table_entry, refusal, goal_of, Node, first_node, Mark, done, Resolved, child_of}
use Rattle.facts.specs.Lists.{Among}
use Rattle.facts.proofs.Lists.{some_inj, found_inside, found_read, read_found, map_at, map-agree}
use Rattle.laws.specs.LeadsStatement.{Leads, NamedOnce, namings, goal_in}
use Rattle.laws.specs.Statements.{IsBytes, entry_at}
use Rattle.laws.specs.SharedStatement.{Same, one_number, two_entries}
use Rattle.laws.specs.Faithful.{Settled, Faithful}
use Rattle.laws.specs.Counted.{count_in}
use Rattle.laws.proofs.Form.FormedEntries.{FormedEntry}
use Rattle.laws.proofs.Numbering.NumberedCited.{count_numbered}
use Rattle.laws.proofs.Definitions.DefinedAsPlaced.{namings-numbered}
use Rattle.laws.proofs.Resolving.JobGoals.{job_names, job_constants, job_table}
use Rattle.laws.proofs.Resolving.LeadsAsFollowed.{leads_followed, settled-leads}
use Rattle.laws.proofs.Resolving.ResolvedNodes.{child_done, Low, GoodTable}
use Rattle.laws.proofs.Resolving.NodesApart.{Orderly}
use Rattle.laws.proofs.Resolving.EntryOrigins.{origin}

-- where a reference of the job leads is where it leads once literals are numbered
pub goal_numbered : (job : Job (List ℕ)) (r : Reference) → goal_of (job_names (numbered job)) (job_constants (numbered job)) r ≡ goal_in job.definitions r
unfolding count_in
goal_numbered job r =
    ap (λ names. goal_of names (job_constants (numbered job)) r) (namings-numbered job)
    ∙ ap (λ n. goal_of (namings job.definitions) n r) (count_numbered job constant)

-- a reference leads where it leads once literals are numbered, if that is settled
pub goes_leads :
    (job : Job (List ℕ)) (marks : List Mark) (r : Reference) (goal : Goal) →
    goal_of (job_names (numbered job)) (job_constants (numbered job)) r ≡ goal →
    Settled marks goal →
    Leads job.definitions r goal
goes_leads job marks r goal is h =
    let to = sym (goal_numbered job r) ∙ is in
    subst (Leads job.definitions r) to (settled-leads job.definitions marks r (subst (Settled marks) (sym to) h))

-- images of two lists that are equal place by place
images_equal :
    (F : Reference → ℕ) (rs ts : List Reference) →
    length rs ≡ length ts →
    ((i : ℕ) (r t : Reference) → get_elem? rs i ≡ some r → get_elem? ts i ≡ some t → F r ≡ F t) →
    map F rs ≡ map F ts
images_equal F [] [] n h = refl
images_equal F [] (t ∷ ts) n h = absurd (omega (arith, n))
images_equal F (r ∷ rs) [] n h = absurd (omega (arith, n))
images_equal F (r ∷ rs) (t ∷ ts) n h =
    let first = h 0 r t refl refl in
    let rest = images_equal F rs ts (omega (arith, n)) (λ i x y p q. h (suc i) x y p q) in
    λ j. first j ∷ rest j

-- a goal that fits two bytes and is settled
abbrev pub FineIn : List Mark → Goal → Type 0
FineIn marks g = Low g × Settled marks g

-- what an entry of the job became: a node with its tag, its literal's number, its kind byte, and what its references became
pub record Became (job : Job (List ℕ)) (marks : List Mark) (nodes : List Node) (e k : ℕ) : Type 0 where
  pub entry : Entry (List ℕ) Reference
  pub is_entry : entry_at job.definitions e ≡ some entry
  pub well_formed_lem : FormedEntry entry
  pub node : Node
  pub is_node : get_elem? nodes k ≡ some node
  pub tag_is : node.tag ≡ entry.tag
  pub number_is_lem : node.literal ≡ number_of (literals job) (entry.tag, entry.literal)
  pub literal_is : literal_of (literals job) node.literal ≡ entry.literal
  pub byte_is : node.byte ≡ entry.byte
  pub kids_are : node.kids ≡ map (λ r. child_of marks (goal_in job.definitions r)) entry.kids
  pub fine : (i : ℕ) (r : Reference) → get_elem? entry.kids i ≡ some r → FineIn marks (goal_in job.definitions r)

module _ (bytes : List ℕ) (job : Job (List ℕ)) (are : IsBytes bytes) (formed : form bytes ≡ good job) (table : GoodTable (job_table (numbered job))) (s : Resolved) (faithful : Faithful (job_table (numbered job)) s) where
  abbrev goes : Reference → Goal
  goes r = goal_in job.definitions r

  -- images of references, literals numbered or not
  goes_mapped :
      (rs : List Reference) →
      map (child_of s.marks) (map (goal_of (job_names (numbered job)) (job_constants (numbered job))) rs) ≡ map (λ r. child_of s.marks (goes r)) rs
  goes_mapped [] = refl
  goes_mapped (r ∷ rs) =
      let first = ap (child_of s.marks) (goal_numbered job r) in
      let rest = goes_mapped rs in
      λ j. first j ∷ rest j

  pub became : (e k : ℕ) → get_elem? s.marks e ≡ some (done k) → Became job s.marks s.nodes e k
  unfolding with_kids
  became e k mark =
      let n = faithful.node_of e k mark in
      let o = origin bytes job are formed e n.0 n.1 in
      record {
        entry = o.entry;
        is_entry = o.there;
        well_formed_lem = o.formed;
        node = with_kids (map (child_of s.marks) n.0.kids) n.0;
        is_node = n.2;
        tag_is = o.same_tag;
        number_is_lem = o.number_is_lem;
        literal_is = o.literal_is;
        byte_is = o.same_byte;
        kids_are = ap (map (child_of s.marks)) o.kids_are ∙ goes_mapped o.entry.kids;
        fine =
            λ i r at.
            let goal = goal_of (job_names (numbered job)) (job_constants (numbered job)) in
            let cited : Among (goal r) n.0.kids = subst (Among (goal r)) (sym o.kids_are) (i, map_at goal o.entry.kids i r at) in
            subst (FineIn s.marks) (goal_numbered job r) (table.low e n.0 (goal r) n.1 cited, n.3 (goal r) cited);
      }

  module _ (orderly : Orderly s.nodes) where
    -- SAME ENTRIES BECOME ONE CHILD

    same_node_lem :
        (e₁ e₂ k₁ k₂ : ℕ) (b₁ : Became job s.marks s.nodes e₁ k₁) (b₂ : Became job s.marks s.nodes e₂ k₂) →
        b₁.entry.tag ≡ b₂.entry.tag →
        b₁.entry.literal ≡ b₂.entry.literal →
        b₁.entry.byte ≡ b₂.entry.byte →
        b₁.node.kids ≡ b₂.node.kids →
        k₁ ≡ k₂
    same_node_lem e₁ e₂ k₁ k₂ b₁ b₂ tag literal byte kids =
        let tags : b₁.node.tag ≡ b₂.node.tag = b₁.tag_is ∙ tag ∙ sym b₂.tag_is in
        let numbers : b₁.node.literal ≡ b₂.node.literal =
        b₁.number_is_lem ∙ ap (λ t. number_of (literals job) (t, b₁.entry.literal)) tag ∙ ap (λ l. number_of (literals job) (b₂.entry.tag, l)) literal ∙ sym b₂.number_is_lem in
        let kinds : b₁.node.byte ≡ b₂.node.byte = b₁.byte_is ∙ byte ∙ sym b₂.byte_is in
        let is : b₁.node ≡ b₂.node = λ j. record { tag = tags j; literal = numbers j; byte = kinds j; kids = kids j } in
        orderly.differ k₁ k₂ b₂.node (b₁.is_node ∙ ap some is) b₂.is_node

    pub same-child :
        NamedOnce job.definitions →
        (g₁ g₂ : Goal) →
        Same job.definitions g₁ g₂ →
        Settled s.marks g₁ →
        Settled s.marks g₂ →
        child_of s.marks g₁ ≡ child_of s.marks g₂
    same-child once g₁ g₂ (one_number n) h₁ h₂ = refl
    same-child once g₁ g₂ (two_entries e₁ e₂ x₁ x₂ goals₁ goals₂ at₁ at₂ tag literal byte many leads₁ leads₂ kids) h₁ h₂ =
        let b₁ = became e₁ h₁.0 h₁.1 in
        let b₂ = became e₂ h₂.0 h₂.1 in
        let is₁ : b₁.entry ≡ x₁ = some_inj (sym b₁.is_entry ∙ at₁) in
        let is₂ : b₂.entry ≡ x₂ = some_inj (sym b₂.is_entry ∙ at₂) in
        let fine₁ : (i : ℕ) (r : Reference) → get_elem? x₁.kids i ≡ some r → FineIn s.marks (goes r) =
        subst (λ (x : Entry (List ℕ) Reference). (i : ℕ) (r : Reference) → get_elem? x.kids i ≡ some r → FineIn s.marks (goes r)) is₁ b₁.fine in
        let fine₂ : (i : ℕ) (r : Reference) → get_elem? x₂.kids i ≡ some r → FineIn s.marks (goes r) =
        subst (λ (x : Entry (List ℕ) Reference). (i : ℕ) (r : Reference) → get_elem? x.kids i ≡ some r → FineIn s.marks (goes r)) is₂ b₂.fine in
        let images =
        images_equal (λ r. child_of s.marks (goes r)) x₁.kids x₂.kids many
        (λ i r₁ r₂ p₁ p₂.
        let to₁ = leads_followed job.definitions once r₁ (goals₁ i) (leads₁ i r₁ p₁) in
        let to₂ = leads_followed job.definitions once r₂ (goals₂ i) (leads₂ i r₂ p₂) in
        ap (child_of s.marks) to₁
        ∙ same-child once (goals₁ i) (goals₂ i) (kids i (found_inside x₁.kids i r₁ p₁)) (subst (Settled s.marks) to₁ (fine₁ i r₁ p₁).1) (subst (Settled s.marks) to₂ (fine₂ i r₂ p₂).1)
        ∙ ap (child_of s.marks) (sym to₂)) in
        let all : b₁.node.kids ≡ b₂.node.kids =
        b₁.kids_are
        ∙ ap (λ (x : Entry (List ℕ) Reference). map (λ r. child_of s.marks (goes r)) x.kids) is₁
        ∙ images
        ∙ sym (ap (λ (x : Entry (List ℕ) Reference). map (λ r. child_of s.marks (goes r)) x.kids) is₂)
        ∙ sym b₂.kids_are in
        let one =
        same_node_lem e₁ e₂ h₁.0 h₂.0 b₁ b₂
        (ap (λ (x : Entry (List ℕ) Reference). x.tag) is₁ ∙ tag ∙ sym (ap (λ (x : Entry (List ℕ) Reference). x.tag) is₂))
        (ap (λ (x : Entry (List ℕ) Reference). x.literal) is₁ ∙ literal ∙ sym (ap (λ (x : Entry (List ℕ) Reference). x.literal) is₂))
        (ap (λ (x : Entry (List ℕ) Reference). x.byte) is₁ ∙ byte ∙ sym (ap (λ (x : Entry (List ℕ) Reference). x.byte) is₂))
        all in
        child_done s.marks e₁ h₁.0 h₁.1 ∙ ap (λ k. first_node + k) one ∙ sym (child_done s.marks e₂ h₂.0 h₂.1)

    -- ENTRIES THAT BECAME ONE CHILD ARE THE SAME

    -- so far as children of lower nodes are
    abbrev SameBelow : ℕ → Type 0
    SameBelow n =
        (g₁ g₂ : Goal) →
        FineIn s.marks g₁ →
        FineIn s.marks g₂ →
        child_of s.marks g₁ ≡ child_of s.marks g₂ →
        child_of s.marks g₁ < first_node + n →
        Same job.definitions g₁ g₂

    one-node : (n e₁ e₂ k : ℕ) → SameBelow n → k < suc n → get_elem? s.marks e₁ ≡ some (done k) → get_elem? s.marks e₂ ≡ some (done k) → Same job.definitions (table_entry e₁) (table_entry e₂)
    one-node n e₁ e₂ k below low mark₁ mark₂ =
        let b₁ = became e₁ k mark₁ in
        let b₂ = became e₂ k mark₂ in
        let is : b₁.node ≡ b₂.node = some_inj (sym b₁.is_node ∙ b₂.is_node) in
        let images : map (λ r. child_of s.marks (goes r)) b₁.entry.kids ≡ map (λ r. child_of s.marks (goes r)) b₂.entry.kids =
        sym b₁.kids_are ∙ ap (λ (x : Node). x.kids) is ∙ b₂.kids_are in
        let many : length b₁.entry.kids ≡ length b₂.entry.kids =
        sym (length-map b₁.entry.kids (λ r. child_of s.marks (goes r))) ∙ ap length images ∙ length-map b₂.entry.kids (λ r. child_of s.marks (goes r)) in
        two_entries e₁ e₂ b₁.entry b₂.entry (goal b₁.entry) (goal b₂.entry) b₁.is_entry b₂.is_entry
        (sym b₁.tag_is ∙ ap (λ (x : Node). x.tag) is ∙ b₂.tag_is)
        (sym b₁.literal_is ∙ ap (λ (x : Node). literal_of (literals job) x.literal) is ∙ b₂.literal_is)
        (sym b₁.byte_is ∙ ap (λ (x : Node). x.byte) is ∙ b₂.byte_is)
        many
        (leads e₁ k b₁)
        (leads e₂ k b₂)
        (λ i low₁.
        let p₁ = read_found b₁.entry.kids i (raw 0) low₁ in
        let p₂ = read_found b₂.entry.kids i (raw 0) (omega (arith, low₁, many)) in
        let r₁ = get_or b₁.entry.kids i (raw 0) in
        let r₂ = get_or b₂.entry.kids i (raw 0) in
        let one = map-agree (λ r. child_of s.marks (goes r)) b₁.entry.kids b₂.entry.kids images i r₁ r₂ p₁ p₂ in
        let cited : Among (child_of s.marks (goes r₁)) b₁.node.kids =
        subst (Among (child_of s.marks (goes r₁))) (sym b₁.kids_are) (i, map_at (λ r. child_of s.marks (goes r)) b₁.entry.kids i r₁ p₁) in
        let before = orderly.before k b₁.node b₁.is_node (child_of s.marks (goes r₁)) cited in
        below (goes r₁) (goes r₂) (b₁.fine i r₁ p₁) (b₂.fine i r₂ p₂) one (omega (arith, before, low)))
      where
        -- where an entry's references lead
        goal : Entry (List ℕ) Reference → ℕ → Goal
        goal x i = goes (get_or x.kids i (raw 0))

        leads : (e k : ℕ) (b : Became job s.marks s.nodes e k) (i : ℕ) (r : Reference) → get_elem? b.entry.kids i ≡ some r → Leads job.definitions r (goal b.entry i)
        leads e k b i r p =
            subst (λ t. Leads job.definitions r (goes t)) (sym (found_read b.entry.kids i r (raw 0) p))
            (settled-leads job.definitions s.marks r (b.fine i r p).1)

    raw_child : (n : ℕ) → child_of s.marks (raw_number n) ≡ n
    unfolding child_of
    raw_child n = refl

    child_ways : (n : ℕ) → ((m : ℕ) → suc m ≡ n → SameBelow m) → SameBelow n
    child_ways n below (raw_number a) (raw_number b) h₁ h₂ e low =
        subst (λ c. Same job.definitions (raw_number a) (raw_number c)) (sym (raw_child a) ∙ e ∙ raw_child b) (one_number a)
    child_ways n below (raw_number a) (table_entry e₂) h₁ h₂ e low =
        absurd (omega (arith, h₁.0, raw_child a, e, child_done s.marks e₂ h₂.1.0 h₂.1.1))
    child_ways n below (raw_number a) (refusal code) h₁ h₂ e low = absurd h₂.1
    child_ways n below (table_entry e₁) (raw_number b) h₁ h₂ e low =
        absurd (omega (arith, h₂.0, raw_child b, e, child_done s.marks e₁ h₁.1.0 h₁.1.1))
    child_ways n below (table_entry e₁) (table_entry e₂) h₁ h₂ e low = go n refl
      where
        k : ℕ
        k = h₁.1.0

        one : h₂.1.0 ≡ k
        one = omega (arith, e, child_done s.marks e₁ k h₁.1.1, child_done s.marks e₂ h₂.1.0 h₂.1.1)

        go : (i : ℕ) → i ≡ n → Same job.definitions (table_entry e₁) (table_entry e₂)
        go zero z = absurd (omega (arith, z, low, child_done s.marks e₁ k h₁.1.1))
        go (suc i) z =
            one-node i e₁ e₂ k (below i z) (omega (arith, z, low, child_done s.marks e₁ k h₁.1.1))
            h₁.1.1
            (subst (λ m. get_elem? s.marks e₂ ≡ some (done m)) one h₂.1.1)
    child_ways n below (table_entry e₁) (refusal code) h₁ h₂ e low = absurd h₂.1
    child_ways n below (refusal code) g₂ h₁ h₂ e low = absurd h₁.1

    same-below : (n : ℕ) → SameBelow n
    same-below zero = child_ways zero (λ m z. absurd (omega (arith, z)))
    same-below (suc n) = child_ways (suc n) (λ m z. subst SameBelow (omega (arith, z)) (same-below n))

    pub child_same : (g₁ g₂ : Goal) → FineIn s.marks g₁ → FineIn s.marks g₂ → child_of s.marks g₁ ≡ child_of s.marks g₂ → Same job.definitions g₁ g₂
    child_same g₁ g₂ h₁ h₂ e = same-below (suc (child_of s.marks g₁)) g₁ g₂ h₁ h₂ e (omega arith)
