-- Counting definitions one by one comes to what their list counts. Assumes nothing.
use mathlib.Core.Bool.{Bool, true, false, not}
use mathlib.Core.List.{List, [], ◌∷◌}
use mathlib.Core.Path.{◌≡◌, refl, ap, ◌∙◌}
use Prim.Native.Nat.{ℕ, suc, ◌+◌, ◌≤◌}
use native.Mathlib.Nat.{add-zero, zero-add}
use native.Mathlib.Omega.{arith}
use lib.Dec.{eqb}
use lib.ListN.{length}
use Rattle.facts.proofs.Lists.{only_here, only-later, only-more}
use Rattle.definition.specs.Basics.{only}
use Rattle.definition.specs.Settings.{highest_of}
use Rattle.definition.specs.Slots.{highest_slot}
use Rattle.definition.specs.Shapes.{Kind, constant, bootstrap, bootstrap_tag, Entry}
use Rattle.definition.specs.Job.{Reference, Definition, define, named, placed, setting}
use Rattle.definition.specs.Form.{kind_of}
use Rattle.definition.specs.Definitions.{same_kind_lem}
use Rattle.definition.specs.Numbering.{entries, is_bootstrap, constants_of, bootstraps_of, settings}
use Rattle.job.specs.declared.JobCounts.{JobCounts}
use Rattle.job.specs.declared.Opening.{Opening}
use Rattle.job.specs.declared.Opening.TheVariants.{Constant, Bootstrap, NamedConstant, NamedBootstrap, RawConstant, RawBootstrap, Version, Texts, Highest, Expression}
use Rattle.job.specs.Forms.{is_naming, is_placing, is_version, is_holding, references_in, kids_in, version_with, version_from, highest_with, highest_from, counts_of, more, grown, counted_as, Bounded}

-- ---- nothing more, and nothing before

pub more-none : (c : JobCounts) → more c [] 0 ≡ c
unfolding more constants_of bootstraps_of entries only references_in version_from highest_from
more-none c = simp add-zero

-- behind nothing stands what the list counts, if one record 49 at most, the first, says the highest slot
pub none_more : (l : List (Definition (List ℕ))) (k : ℕ) → highest_from highest_slot l ≡ highest_of (settings l) → more (counts_of [] 0) l k ≡ counts_of l k
unfolding more counts_of constants_of bootstraps_of entries only references_in version_from settings highest_of
none_more l k h = rw h (simp zero-add)

-- ---- one more in front of a list

pub entries-more :
    (p : Entry (List ℕ) Reference → Bool) (d : Definition (List ℕ)) (l : List (Definition (List ℕ))) →
    length (only p (entries (d ∷ l))) ≡ length (only p (entries (d ∷ []))) + length (only p (entries l))
unfolding entries only
entries-more p (define e) l = only-more p e (entries l)
entries-more p (named kind s r) l = omega arith
entries-more p (placed kind at number) l = omega arith
entries-more p (setting s) l = omega arith

added : (a b x y : ℕ) → x ≡ b + y → a + x ≡ a + b + y
added a b x y h = omega (arith, h)

pub more-cons : (c : JobCounts) (d : Definition (List ℕ)) (l : List (Definition (List ℕ))) → more c (d ∷ l) 0 ≡ more (more c (d ∷ []) 0) l 0
unfolding more constants_of bootstraps_of references_in version_from highest_from
more-cons c d l =
    let size = added c.definitions 1 (suc (length l)) (length l) (omega arith) in
    let kids = added c.references (kids_in d + 0) (kids_in d + references_in l) (references_in l) (omega arith) in
    let none : c.requests + 0 ≡ c.requests + 0 + 0 = omega arith in
    λ i.
    record {
      definitions = size i;
      constants = added c.constants _ _ _ (entries-more (λ e. not (is_bootstrap e)) d l) i;
      bootstraps = added c.bootstraps _ _ _ (entries-more is_bootstrap d l) i;
      references = kids i;
      names = added c.names _ _ _ (only-more is_naming d l) i;
      raw_constants = added c.raw_constants _ _ _ (only-more (is_placing constant) d l) i;
      raw_bootstraps = added c.raw_bootstraps _ _ _ (only-more (is_placing bootstrap) d l) i;
      requests = none i;
      versions = added c.versions _ _ _ (only-more is_version d l) i;
      version = version_from (version_with d c.version) l;
      texts = added c.texts _ _ _ (only-more is_holding d l) i;
      highest = highest_from (highest_with d c.highest) l;
    }

-- ---- what one definition counts

-- the table that an entry goes into says whether it is a bootstrap
pub in_table : (e : Entry (List ℕ) Reference) (kind : Kind) → kind_of e.tag ≡ kind → is_bootstrap e ≡ same_kind_lem bootstrap kind
unfolding kind_of is_bootstrap same_kind_lem
in_table e kind h = ways (eqb e.tag bootstrap_tag) refl ∙ ap (same_kind_lem bootstrap) h
  where
    ways : (b : Bool) → eqb e.tag bootstrap_tag ≡ b → is_bootstrap e ≡ same_kind_lem bootstrap (kind_of e.tag)
    ways true t = rw (t, kind_of)
    ways false t = rw (t, kind_of)

module _ (c : JobCounts) (e : Entry (List ℕ) Reference) where
  pub one-constant : is_bootstrap e ≡ false → more c (define e ∷ []) 0 ≡ grown 1 0 (length e.kids) 0 0 0 0 0 c.version c.highest c
  unfolding more constants_of bootstraps_of entries references_in kids_in only is_naming is_placing is_version is_holding version_from version_with highest_from highest_with
  one-constant h = rw (only_here (λ e. not (is_bootstrap e)) e [] (ap not h), only-later is_bootstrap e [] h, add-zero (length e.kids))

  pub one-bootstrap : is_bootstrap e ≡ true → more c (define e ∷ []) 0 ≡ grown 0 1 (length e.kids) 0 0 0 0 0 c.version c.highest c
  unfolding more constants_of bootstraps_of entries references_in kids_in only is_naming is_placing is_version is_holding version_from version_with highest_from highest_with
  one-bootstrap h = rw (only-later (λ e. not (is_bootstrap e)) e [] (ap not h), only_here is_bootstrap e [] h, add-zero (length e.kids))

-- ---- bounds

pub bounded_one :
    (opening : Opening) (c : JobCounts) (at k number next : ℕ) → Bounded at c → at + 1 + k ≤ next →
    Bounded next (counted_as opening k number c)
unfolding counted_as
bounded_one (Constant fields) c at k number next b h = omega arith
bounded_one Bootstrap c at k number next b h = omega arith
bounded_one NamedConstant c at k number next b h = omega arith
bounded_one NamedBootstrap c at k number next b h = omega arith
bounded_one RawConstant c at k number next b h = omega arith
bounded_one RawBootstrap c at k number next b h = omega arith
bounded_one Version c at k number next b h = omega arith
bounded_one Texts c at k number next b h = omega arith
bounded_one Highest c at k number next b h = omega arith
bounded_one Expression c at k number next b h = omega arith
