-- A pool's version is the one that the job's record 47 names, from record 50 on and throughout building. Assumes nothing.
use mathlib.Core.Bool.{false}
use mathlib.Core.List.{List, [], ◌∷◌, ◌++◌}
use mathlib.Core.Path.{◌≡◌, refl, sym, ap, ◌∙◌}
use Prim.Native.Nat.{ℕ, ◌-◌}
use lib.ListN.{length}
use Rattle.definition.specs.Basics.{good, unless}
use Rattle.definition.specs.Shapes.{constant, bootstrap, is_wide, Entry}
use Rattle.definition.specs.Job.{Reference, Definition, define, named, placed, setting, Job}
use Rattle.definition.specs.Settings.{Setting, version, texts, highest}
use Rattle.definition.specs.Numbering.{settings, top_of, bootstraps_of, literals, numbered}
use Rattle.definition.specs.Definitions.{Defined, is_none, name_target, tag_at, place_constant, place_bootstrap, with_setting, define_one, define_all, nothing_defined}
use Rattle.definition.specs.Resolving.{Node, first_node, linked}
use Rattle.definition.specs.Building.{Pool}
use Rattle.definition.specs.Layout.{Ready}
use Rattle.facts.proofs.Results.{good_inj, good_then}
use Rattle.causes.specs.CauseStatement.{constants_numbered, goal_in, version_from, version_of, Behind, behind50, behind_request}
use Rattle.laws.proofs.Definitions.RawSlotsRise.{defined_all}
use Rattle.laws.proofs.Form.HighestSlots.{settings-numbered}
use Rattle.laws.proofs.Building.VersionsKept.{ended_version, allocate-version, answer-version}
use Rattle.laws.proofs.Runs.StepsOfRuns.{PoolIn, at_start, after_child, after_taken}

-- ---- slots leave it

pool_version : {nodes : List Node} {start p : Pool} → PoolIn nodes start p → p.version ≡ start.version
pool_version at_start = refl
pool_version {nodes} (after_child k c s p p' o a high e) = allocate-version nodes false (c - first_node) p (s, p') e ∙ pool_version o
pool_version (after_taken pending p o) = pool_version o

-- ---- the definitions set it

settings-snoc : {L : Type 0} (ds : List (Definition L)) (x : Definition L) → settings (ds ++ x ∷ []) ≡ settings ds ++ settings (x ∷ [])
unfolding settings
settings-snoc [] x = refl
settings-snoc (define e ∷ ds) x = settings-snoc ds x
settings-snoc (named k s r ∷ ds) x = settings-snoc ds x
settings-snoc (placed k a m ∷ ds) x = settings-snoc ds x
settings-snoc (setting s ∷ ds) x = ap (λ l. s ∷ l) (settings-snoc ds x)

from-append : (l m : List Setting) (v : ℕ) → version_from (l ++ m) v ≡ version_from m (version_from l v)
from-append [] m v = refl
from-append (version w ∷ l) m v = from-append l m w
from-append (texts ∷ l) m v = from-append l m v
from-append (highest t ∷ l) m v = from-append l m v

one-version :
    (top : ℕ) (constants : List (Entry ℕ Reference)) (x : Definition ℕ) (d d' : Defined) →
    define_one top constants x d ≡ good d' → d'.version ≡ version_from (settings (x ∷ [])) d.version
unfolding define_one settings with_setting
one-version top constants (define e) d d' q = sym (ap (λ (x : Defined). x.version) (good_inj q))
one-version top constants (named kind s r) d d' q =
    good_then (unless (is_none (name_target kind s d.names)) 11) _ d' q λ _ _ q₁. sym (ap (λ (x : Defined). x.version) (good_inj q₁))
one-version top constants (placed constant n e) d d' q =
    good_then (place_constant top (is_wide (tag_at constants e)) n e d.held) _ d' q λ _ _ q₁. sym (ap (λ (x : Defined). x.version) (good_inj q₁))
one-version top constants (placed bootstrap n e) d d' q =
    good_then (place_bootstrap n e d.indexes) _ d' q λ _ _ q₁. sym (ap (λ (x : Defined). x.version) (good_inj q₁))
one-version top constants (setting (version v)) d d' q = sym (ap (λ (x : Defined). x.version) (good_inj q))
one-version top constants (setting texts) d d' q = sym (ap (λ (x : Defined). x.version) (good_inj q))
one-version top constants (setting (highest t)) d d' q = sym (ap (λ (x : Defined). x.version) (good_inj q))

defined_version :
    (top : ℕ) (constants : List (Entry ℕ Reference)) (ds : List (Definition ℕ)) (d : Defined) →
    define_all top constants 0 ds nothing_defined ≡ good d → d.version ≡ version_from (settings ds) 55
unfolding nothing_defined settings
defined_version top constants ds d e =
    defined_all top constants (λ ds d. d.version ≡ version_from (settings ds) 55)
    (λ before x d d' h q.
    one-version top constants x d d' q
    ∙ ap (version_from (settings (x ∷ []))) h
    ∙ sym (from-append (settings before) (settings (x ∷ [])) 55)
    ∙ ap (λ l. version_from l 55) (sym (settings-snoc before x)))
    0 [] ds nothing_defined d refl e

-- ---- so every pool of building has the job's

numbered-version : (job : Job (List ℕ)) → version_from (settings (numbered job).definitions) 55 ≡ version_of job
unfolding numbered
numbered-version job = ap (λ l. version_from l 55) (settings-numbered (literals job) job.definitions)

behind-version : (job : Job (List ℕ)) (d : Defined) {answers : List ℕ} {w : Ready} → Behind job d answers w → w.pool.version ≡ version_of job
behind-version job d (behind50 w defined ready) =
    let constants = constants_numbered job in
    let table = linked d.names (length constants) (constants ++ bootstraps_of (numbered job).definitions) in
    ended_version (top_of job) table (length constants) d w ready
    ∙ defined_version (top_of job) constants (numbered job).definitions d defined
    ∙ numbered-version job
behind-version job d (behind_request answers q w w' a b at e) = answer-version q.ldc (goal_in job d q) w (a, w') e ∙ behind-version job d b

pub building_version :
    (job : Job (List ℕ)) (d : Defined) {answers : List ℕ} {w : Ready} {p : Pool} →
    Behind job d answers w → PoolIn w.resolved.nodes w.pool p → p.version ≡ version_of job
building_version job d b o = pool_version o ∙ behind-version job d b
