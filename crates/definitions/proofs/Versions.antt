-- The version that the definitions in turn leave is the one that the form pass counted. Assumes nothing.
use mathlib.Core.List.{List, [], ◌∷◌, map}
use mathlib.Core.Path.{◌≡◌, sym, ap, ◌∙◌}
use Prim.Native.Nat.{ℕ, suc}
use Rattle.definition.specs.Basics.{good, at_record, unless}
use Rattle.definition.specs.Settings.{version, texts, highest}
use Rattle.definition.specs.Shapes.{constant, bootstrap, Entry, is_wide}
use Rattle.definition.specs.Job.{Reference, Definition, define, named, placed, setting}
use Rattle.definition.specs.Numbering.{Literal, constants_of, literals, numbered_definition, numbered}
use Rattle.definition.specs.Definitions.{Defined, is_none, name_target, tag_at, place_constant, place_bootstrap, with_setting, define_one, define_all, nothing_defined}
use Rattle.facts.proofs.Results.{good_inj, good_then, at_record-good}
use Rattle.job.specs.Forms.{version_with, version_from, counts_of}
use Rattle.store.specs.JobIn.{job_in, definitions_in, counts_in}
use Rattle.definitions.specs.Defining.{records_in, defined_in}

module _ (top : ℕ) (constants : List (Entry ℕ Reference)) (all : List Literal) where
  one-version : (x : Definition (List ℕ)) (d e : Defined) → define_one top constants (numbered_definition all x) d ≡ good e → e.version ≡ version_with x d.version
  unfolding define_one numbered_definition version_with with_setting
  one-version (define y) d e h = sym (ap (λ (o : Defined). o.version) (good_inj h))
  one-version (named kind s r) d e h =
      good_then (unless (is_none (name_target kind s d.names)) 11) _ e h λ _ _ g. sym (ap (λ (o : Defined). o.version) (good_inj g))
  one-version (placed constant n i) d e h =
      good_then (place_constant top (is_wide (tag_at constants i)) n i d.held) _ e h λ _ _ g. sym (ap (λ (o : Defined). o.version) (good_inj g))
  one-version (placed bootstrap n i) d e h =
      good_then (place_bootstrap n i d.indexes) _ e h λ _ _ g. sym (ap (λ (o : Defined). o.version) (good_inj g))
  one-version (setting (version v)) d e h = sym (ap (λ (o : Defined). o.version) (good_inj h))
  one-version (setting texts) d e h = sym (ap (λ (o : Defined). o.version) (good_inj h))
  one-version (setting (highest n)) d e h = sym (ap (λ (o : Defined). o.version) (good_inj h))

  all_versions :
      (place : ℕ) (ds : List (Definition (List ℕ))) (d e : Defined) →
      define_all top constants place (map (numbered_definition all) ds) d ≡ good e →
      e.version ≡ version_from d.version ds
  unfolding define_all version_from
  all_versions place [] d e h = sym (ap (λ (o : Defined). o.version) (good_inj h))
  all_versions place (x ∷ ds) d e h =
      good_then (at_record place (define_one top constants (numbered_definition all x) d)) _ e h λ m here rest.
      let one = one-version x d m (at_record-good place (define_one top constants (numbered_definition all x) d) m here) in
      all_versions (suc place) ds m e rest ∙ ap (λ v. version_from v ds) one

pub version_counted : (top : ℕ) (s : List ℕ) (d : Defined) → defined_in top s ≡ good d → d.version ≡ (counts_in s).version
unfolding records_in numbered counts_in counts_of definitions_in nothing_defined
version_counted top s d h = all_versions top (constants_of (records_in s)) (literals (job_in s)) 0 (job_in s).definitions nothing_defined d h
