-- Two entries with their children: the code's comparison is that of their nodes, and like nodes have one hash. Assumes nothing.
use mathlib.Core.Bool.{Bool, true, false}
use mathlib.Core.List.{List, [], ◌∷◌}
use mathlib.Core.Logic.{⊎_elim}
use mathlib.Core.Path.{◌≡◌, refl, sym, ap, ◌∙◌}
use Prim.Native.Nat.{ℕ, zero, suc, ◌+◌, ◌*◌, ◌<◌}
use native.Mathlib.Omega.{arith}
use lib.ListN.{length, get_or}
use borrow.Author.Tests.{eq-eqb}
use Rattle.definition.specs.Basics.{same, from}
use Rattle.definition.specs.Shapes.{Entry, with_kids, with_literal}
use Rattle.definition.specs.Job.{Reference, define}
use Rattle.definition.specs.Numbering.{literals, number_of, numbered_entry}
use Rattle.definition.specs.Resolving.{Node, same_node}
use Rattle.facts.proofs.Lists.{tests_agree, same_true, same_refl}
use Rattle.laws.proofs.Numbering.Numbering.{number_of-inj}
use Rattle.laws.proofs.Resolving.Interning.{same_node-equal}
use Rattle.laws.proofs.Form.EmptyLiterals.{lit_of}
use Rattle.job.specs.Stored.{Found, any_definition}
use Rattle.store.specs.JobIn.{job_in}
use Rattle.store.specs.Words.{cut}
use Rattle.interner.specs.Nodes.{hash_bytes, hash_words, hash_node, hash_at, node_at_lem}
use Rattle.interner.proofs.Children.{cut-length}
use Rattle.interner.proofs.Shaped.{Known, node_is, hash_is}

pub node_same : (n : Node) → same_node n n ≡ true
unfolding same_node
node_same n = rw (eq-eqb n.tag n.tag refl, eq-eqb n.literal n.literal refl, eq-eqb n.byte n.byte refl, same_refl n.kids)

-- like entries with like children have one hash
hash_like :
    (x y : Entry (List ℕ) Reference) (kids : List ℕ) → x.tag ≡ y.tag → x.literal ≡ y.literal → x.byte ≡ y.byte → hash_node x kids ≡ hash_node y kids
unfolding hash_node
hash_like x y [] tag literal byte = rw (tag, literal)
hash_like x y (kid ∷ kids) tag literal byte = rw (tag, byte)

-- the hash of one entry, by parts
hash_none : (x : Entry (List ℕ) Reference) (l : List ℕ) (at : ℕ) → hash_node x (cut l at 0) ≡ hash_bytes x.tag x.literal
unfolding hash_node from
hash_none x l at = refl

hash_some : (x : Entry (List ℕ) Reference) (l : List ℕ) (at n : ℕ) → 0 < n → hash_node x (cut l at n) ≡ hash_words (x.tag * 256 + x.byte) (cut l at n)
unfolding hash_node from
hash_some x l at zero h = absurd (omega arith)
hash_some x l at (suc n) h = refl

module _ (s offsets firsts sizes children : List ℕ) (e : ℕ) (k : Known s offsets firsts sizes e) where
  -- what the code reads at the entry's place
  pub stands_at : (at : ℕ) → at ≡ get_or offsets e 0 → Found any_definition s at (define k.entry) k.at.next
  stands_at at q = rw q k.at.stands

  pub hash_literal : (r n : ℕ) → n ≡ get_or sizes e 0 → n ≡ 0 → r ≡ hash_bytes k.entry.tag k.entry.literal → r ≡ hash_at s firsts sizes children e
  hash_literal r n is nil q =
      let z : get_or sizes e 0 ≡ 0 = sym is ∙ nil in
      rw (q, hash_is s offsets firsts sizes children e k, z, hash_none k.entry children (get_or firsts e 0))

  pub hash_children :
      (r n first tag byte : ℕ) → n ≡ get_or sizes e 0 → (n ≡ 0 → ⊥) → first ≡ get_or firsts e 0 → tag ≡ k.entry.tag → byte ≡ k.entry.byte →
      r ≡ hash_words (tag * 256 + byte) (cut children first n) →
      r ≡ hash_at s firsts sizes children e
  hash_children r n first tag byte is some at t b q =
      let z : 0 < get_or sizes e 0 = omega arith in
      rw (q, is, at, t, b, hash_is s offsets firsts sizes children e k) (sym (hash_some k.entry children (get_or firsts e 0) (get_or sizes e 0) z))

module _ (s offsets firsts sizes children : List ℕ) (a b : ℕ) (ka : Known s offsets firsts sizes a) (kb : Known s offsets firsts sizes b) where
  abbrev kids : ℕ → List ℕ
  kids e = cut children (get_or firsts e 0) (get_or sizes e 0)

  abbrev node : ℕ → Node
  node e = node_at_lem s firsts sizes children e

  -- what like entries have in common
  record Like : Type 0 where
    tag : ka.entry.tag ≡ kb.entry.tag
    literal : ka.entry.literal ≡ kb.entry.literal
    byte : ka.entry.byte ≡ kb.entry.byte
    below : kids a ≡ kids b

  to_same : Like → same_node (node a) (node b) ≡ true
  unfolding with_kids with_literal numbered_entry
  to_same l =
      let all = literals (job_in s) in
      let e : with_kids (kids a) (numbered_entry all ka.entry) ≡ with_kids (kids b) (numbered_entry all kb.entry) =
      λ i. record {
        tag = l.tag i;
        literal = number_of all (l.tag i, l.literal i);
        byte = l.byte i;
        kids = l.below i;
      }
      in
      rw (node_is s offsets firsts sizes children a ka, node_is s offsets firsts sizes children b kb, e) (node_same _)

  from-same : same_node (node a) (node b) ≡ true → Like
  unfolding with_kids with_literal numbered_entry
  from-same h =
      let all = literals (job_in s) in
      let e : with_kids (kids a) (numbered_entry all ka.entry) ≡ with_kids (kids b) (numbered_entry all kb.entry) =
      sym (node_is s offsets firsts sizes children a ka) ∙ same_node-equal (node a) (node b) h ∙ node_is s offsets firsts sizes children b kb
      in
      let numbers = number_of-inj all (lit_of ka.entry) (lit_of kb.entry) ka.among kb.among (ap (λ (n : Node). n.literal) e) in
      record {
        tag = ap (λ (n : Node). n.tag) e;
        literal = ap (λ r. r.1) numbers;
        byte = ap (λ (n : Node). n.byte) e;
        below = ap (λ (n : Node). n.kids) e;
      }

  pub one-hash : same_node (node a) (node b) ≡ true → hash_at s firsts sizes children a ≡ hash_at s firsts sizes children b
  one-hash h =
      let l = from-same h in
      hash_is s offsets firsts sizes children a ka
      ∙ ap (hash_node ka.entry) l.below
      ∙ hash_like ka.entry kb.entry (kids b) l.tag l.literal l.byte
      ∙ sym (hash_is s offsets firsts sizes children b kb)

  unlike : (Like → ⊥) → false ≡ same_node (node a) (node b)
  unlike f = ways (same_node (node a) (node b)) refl
    where
      ways : (t : Bool) → same_node (node a) (node b) ≡ t → false ≡ t
      ways true h = absurd (f (from-same h))
      ways false h = refl

  -- THE CODE'S COMPARISON, by what it reads

  pub unlike-tags : (u v : ℕ) → u ≡ ka.entry.tag → v ≡ kb.entry.tag → (u ≡ v → ⊥) → false ≡ same_node (node a) (node b)
  unlike-tags u v is other f = unlike (λ l. f (is ∙ l.tag ∙ sym other))

  pub unlike-sizes : (m n : ℕ) → n ≡ get_or sizes a 0 → m ≡ get_or sizes b 0 → (m ≡ n → ⊥) → false ≡ same_node (node a) (node b)
  unlike-sizes m n is other f =
      unlike λ l. f (other ∙ sym (cut-length children (get_or firsts b 0) (get_or sizes b 0)) ∙ sym (ap length l.below) ∙ cut-length children (get_or firsts a 0) (get_or sizes a 0) ∙ sym is)

  pub unlike-bytes : (u v : ℕ) → u ≡ ka.entry.byte → v ≡ kb.entry.byte → (u ≡ v → ⊥) → false ≡ same_node (node a) (node b)
  unlike-bytes u v is other f = unlike (λ l. f (is ∙ l.byte ∙ sym other))

  module _ (u v m n : ℕ) (tag : u ≡ ka.entry.tag) (tag' : v ≡ kb.entry.tag) (tags : u ≡ v) (is : n ≡ get_or sizes a 0) (other : m ≡ get_or sizes b 0) (even : m ≡ n) where
    tags_same : ka.entry.tag ≡ kb.entry.tag
    tags_same = sym tag ∙ tags ∙ tag'

    sizes_same : get_or sizes b 0 ≡ get_or sizes a 0
    sizes_same = sym other ∙ even ∙ is

    pub like_literals : n ≡ 0 → (r : Bool) → r ≡ same ka.entry.literal kb.entry.literal → r ≡ same_node (node a) (node b)
    unfolding from
    like_literals nil r q =
        q ∙ tests_agree (same ka.entry.literal kb.entry.literal) (same_node (node a) (node b))
        (λ h. to_same (record {
          tag = tags_same;
          literal = same_true ka.entry.literal kb.entry.literal h;
          byte = no_byte a ka za ∙ sym (no_byte b kb zb);
          below = rw (za, zb);
        }))
        (λ h. rw (from-same h).literal (same_refl kb.entry.literal))
      where
        za : get_or sizes a 0 ≡ 0
        za = sym is ∙ nil

        zb : get_or sizes b 0 ≡ 0
        zb = sizes_same ∙ za

        no_byte : (e : ℕ) (k : Known s offsets firsts sizes e) → get_or sizes e 0 ≡ 0 → k.entry.byte ≡ 0
        no_byte e k z = ⊎_elim (λ l. l.1) (λ l. absurd (omega (arith, l.0, k.at.count))) k.shaped

    pub like_children :
        (n ≡ 0 → ⊥) → (u v : ℕ) → u ≡ ka.entry.byte → v ≡ kb.entry.byte → u ≡ v → (i j : ℕ) → i ≡ get_or firsts a 0 → j ≡ get_or firsts b 0 →
        (r : Bool) → r ≡ same (cut children i n) (cut children j n) → r ≡ same_node (node a) (node b)
    like_children some u v byte byte' bytes i j at at' r q =
        q ∙ rw (at, at', is) (tests_agree (same (kids a) (cut children (get_or firsts b 0) (get_or sizes a 0))) (same_node (node a) (node b))
        (λ h. to_same (record {
          tag = tags_same;
          literal = no_literal_lem a ka (omega arith) ∙ sym (no_literal_lem b kb (omega (arith, sizes_same)));
          byte = sym byte ∙ bytes ∙ byte';
          below = rw sizes_same (same_true (kids a) (cut children (get_or firsts b 0) (get_or sizes a 0)) h);
        }))
        (λ h. rw (row h) (same_refl (kids a))))
      where
        row : same_node (node a) (node b) ≡ true → cut children (get_or firsts b 0) (get_or sizes a 0) ≡ kids a
        row h = ap (cut children (get_or firsts b 0)) (sym sizes_same) ∙ sym (from-same h).below

        no_literal_lem : (e : ℕ) (k : Known s offsets firsts sizes e) → 0 < get_or sizes e 0 → k.entry.literal ≡ []
        no_literal_lem e k z = ⊎_elim (λ l. absurd (omega (arith, l.0, k.at.count))) (λ l. l.1) k.shaped
