-- One name more in the regions, or one that is there already. Assumes nothing.
use mathlib.Core.Bool.{true, false}
use Rattle.std.specs.Prelude.{Option, Some, None}
use Rattle.std.specs.Option.{is_some}
use mathlib.Core.List.{List, [], ◌∷◌}
use mathlib.Core.Logic.{⊎_elim}
use mathlib.Core.Option.{some}
use mathlib.Core.Path.{◌≡◌, refl, sym, ap, subst, ◌∙◌}
use Prim.Native.Nat.{ℕ, ◌+◌, ◌-◌, ◌<◌}
use native.Mathlib.Omega.{arith}
use lib.ListN.{length, get_or, set, get_elem?}
use lib.Seq.{get_or-set_same, get_or-set_other}
use Rattle.definition.specs.Job.{short_name}
use Rattle.definition.specs.Definitions.{Naming, is_none}
use Rattle.facts.proofs.Lists.{some_inj, found_inside, equal}
use Rattle.job.specs.Stored.{Stands}
use Rattle.store.specs.Store.{Store, size, put}
use Rattle.store.specs.Chains.{head_of, link_of, Sought, linked}
use Rattle.store.specs.JobIn.{namings_in}
use Rattle.store.specs.Regions.{COUNTS, NAME-HEADS, NAME-LINKS, NAME-PLACES, NAME-COUNT}
use Rattle.store.specs.Words.{label_at}
use Rattle.store.proofs.Keeping.{kept_put}
use Rattle.store.proofs.Hashing.{head_lt}
use Rattle.store.proofs.Walking.{both, chains_more}
use Rattle.interner.specs.Nodes.{hash_bytes}
use Rattle.sym_refs.specs.Names.{kind_byte, NamingAt, is_name_lem, hash_name, Names, name_count, NamesIn, Tried}
use Rattle.sym_refs.specs.Leading.{Named}
use Rattle.sym_refs.proofs.Namings.{naming_there}
use Rattle.sym_refs.proofs.Wording.{label_there}
use Rattle.sym_refs.proofs.Lookup.{not_named, found_target, missing_target, hash_named}

-- what a walk finds for the first byte and the label at a naming's place, it finds for the naming
module _ (s : List ℕ) (at : ℕ) (x : Naming) (stands : NamingAt s at x) (first : ℕ) (byte : first ≡ get_or s at 0) where
  same_first : first ≡ kind_byte x.kind
  same_first = byte ∙ (naming_there s at x stands).first

  same-label : label_at s (at + 1) ≡ x.label
  same-label = let g = naming_there s at x stands in (label_there s (at + 1) x.label g.mid g.label).0

  pub sought_naming : (n r : ℕ) → Sought (Named s first (label_at s (at + 1))) n r → Sought (Named s (kind_byte x.kind) x.label) n r
  sought_naming n r f = rw (same_first, same-label) at f

  pub hash_naming : (hash : ℕ) → hash ≡ hash_bytes first (label_at s (at + 1)) → hash ≡ hash_bytes (kind_byte x.kind) x.label
  hash_naming hash e = rw (same_first, same-label) at e

pub naming_name : (s : List ℕ) (at : ℕ) (x : Naming) → NamingAt s at x → Stands short_name s (at + 1)
naming_name s at x stands = let g = naming_there s at x stands in (x.label, g.mid, g.label)

-- the link of a name that was found isn't 0, that of none is
pub found_link : (x : Option ℕ) → is_some x ≡ true → link_of x ≡ 0 → ⊥
found_link None e z = both e refl
found_link (Some i) e z = absurd (omega arith)

pub missing_link : (x : Option ℕ) → is_some x ≡ false → link_of x ≡ 0
missing_link None e = refl
missing_link (Some i) e = absurd (both refl e)

-- the naming that is next is the one that stands there
pub the_naming : (s : List ℕ) (n at : ℕ) → ((x : Naming) × (get_elem? (namings_in s) n ≡ some x) × NamingAt s at x) → (x : Naming) → get_elem? (namings_in s) n ≡ some x → NamingAt s at x
the_naming s n at (y, d, stands) x e = let same : y ≡ x = some_inj (sym d ∙ e) in subst (NamingAt s at) same stands

-- the regions with name number `name_count t` at a place
abbrev added : Store → List ℕ → ℕ → ℕ → Store
added t p at hash =
    linked (put (put t COUNTS NAME-COUNT (name_count t + 1)) NAME-PLACES (name_count t) at) p NAME-HEADS hash (name_count t)

module _ (p s : List ℕ) (t : Store) (x : Naming) (at : ℕ) (g : NamesIn (size p NAME-HEADS) s t) (e : get_elem? (namings_in s) (name_count t) ≡ some x) where
  abbrev n : ℕ
  n = name_count t

  abbrev h : ℕ
  h = size p NAME-HEADS

  abbrev Seek : ℕ → Type 0
  Seek r = Sought (Named s (kind_byte x.kind) x.label) n r

  -- IT IS THERE
  pub tried_old : (r : ℕ) → Seek r → (r ≡ 0 → ⊥) → Tried h s t t x 11
  unfolding is_none
  tried_old r f z =
      let there = found_target s x.kind x.label h (t NAME-PLACES) (t NAME-HEADS) (t NAME-LINKS) n g (r - 1) (omega (arith, f.low)) (f.hit (omega arith)) in
      record {
        fresh = λ q. absurd (both q (rw there));
        old = λ _. refl;
        counters = λ c q. refl;
        kept = λ k q. refl;
      }

  -- IT IS NEW
  module _ (hash : ℕ) (stands : NamingAt s at x) (is : hash ≡ hash_bytes (kind_byte x.kind) x.label) (two : 1 < h) (heads : length (t NAME-HEADS) ≡ h) (links : n < length (t NAME-LINKS)) (places : n < length (t NAME-PLACES)) (counts : 5 < length (t COUNTS)) (r : ℕ) (f : Seek r) (z : r ≡ 0) where
    abbrev u : Store
    u = added t p at hash

    new_names : Names h s (set (t NAME-PLACES) n at) (set (t NAME-HEADS) (head_of h hash) (n + 1)) (set (t NAME-LINKS) n (get_or (t NAME-HEADS) (head_of h hash) 0)) (n + 1)
    new_names =
        record {
          few = omega (arith, found_inside (namings_in s) n x e);
          at =
              λ i y l d.
              ⊎_elim
              (λ (k : i ≡ n).
              let same : x ≡ y = some_inj (sym e ∙ ap (get_elem? (namings_in s)) (sym k) ∙ d) in
              rw (k, get_or-set_same (t NAME-PLACES) n at 0 places) (subst (NamingAt s at) same stands))
              (λ (k : i ≡ n → ⊥). rw (get_or-set_other (t NAME-PLACES) n i at 0 k) (g.at i y (omega arith) d))
              (equal i n);
          chains =
              chains_more
              (λ i. head_of h (hash_name s i))
              (λ i. head_of h (hash_name s i))
              (t NAME-HEADS)
              (t NAME-LINKS)
              n
              (head_of h hash)
              g.chains
              (ap (head_of h) (hash_named s (kind_byte x.kind) x.label n (x, e, refl, refl) ∙ sym is))
              (λ i l. refl)
              (omega (arith, head_lt h hash two))
              links;
          unlike =
              λ i j y v l m d q.
              ⊎_elim
              (λ (k : j ≡ n).
              let same : x ≡ v = some_inj (sym e ∙ ap (get_elem? (namings_in s)) (sym k) ∙ q) in
              subst (λ (w : Naming). is_name_lem y.kind y.label w ≡ false) same
              (not_named s y.kind y.label n x e
              (λ w. f.miss z i (omega arith) (other y i d w))))
              (λ (k : j ≡ n → ⊥). g.unlike i j y v l (omega arith) d q)
              (equal j n);
        }
      where
        other : (y : Naming) (i : ℕ) → get_elem? (namings_in s) i ≡ some y → Named s (kind_byte y.kind) y.label n → Named s (kind_byte x.kind) x.label i
        other y i d (v, q, a, b) =
            let same : v ≡ x = some_inj (sym q ∙ e) in
            (y, d, sym a ∙ ap (λ (w : Naming). kind_byte w.kind) same, sym b ∙ ap (λ (w : Naming). w.label) same)

    count_more : get_or (set (t COUNTS) NAME-COUNT (n + 1)) NAME-COUNT 0 ≡ n + 1
    count_more = get_or-set_same (t COUNTS) NAME-COUNT (n + 1) 0 counts

    pub tried_new : Tried h s t u x 0
    unfolding is_none
    tried_new =
        let absent = missing_target s x.kind x.label h (t NAME-PLACES) (t NAME-HEADS) (t NAME-LINKS) n g (f.miss z) in
        record {
          fresh = λ _. (refl, rw count_more new_names, count_more);
          old = λ q. absurd (both (rw absent) q);
          counters = λ c q. get_or-set_other (t COUNTS) NAME-COUNT c (n + 1) 0 q;
          kept =
              kept_put all t _ NAME-HEADS (head_of h hash) (n + 1) refl
              (kept_put all t _ NAME-LINKS n (get_or (t NAME-HEADS) (head_of h hash) 0) refl
              (kept_put all t _ NAME-PLACES n at refl (kept_put all t t COUNTS NAME-COUNT (n + 1) refl (λ k q. refl))));
        }
      where
        all : List ℕ
        all = COUNTS ∷ NAME-HEADS ∷ NAME-LINKS ∷ NAME-PLACES ∷ []
