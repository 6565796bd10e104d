-- Every raw number of a formed job of bytes is below the nodes'. Assumes nothing.
use mathlib.Core.List.{List}
use Prim.Native.Nat.{ℕ, ◌<◌}
use Rattle.definition.specs.Shapes.{Kind, Entry, constant}
use Rattle.definition.specs.Job.{Reference, raw, entry, name, Definition, define, named, placed, setting, Job}
use Rattle.definition.specs.Definitions.{Naming}
use Rattle.definition.specs.Resolving.{first_node}
use Rattle.facts.proofs.Each.{Each, each_weaker}
use Rattle.laws.proofs.Form.FormedEntries.{OfKind, of_kinds_each, FormedDefinition}
use Rattle.laws.proofs.Form.FormedJobs.{FormedRequest, Formed, formed_definitions_each}

-- a raw number is below the nodes'
abbrev pub RefLow : Reference → Type 0
RefLow (raw n) = n < first_node
RefLow (entry kind n) = Unit {0}
RefLow (name kind s) = Unit {0}

abbrev pub KidsLow : {L : Type 0} → Entry L Reference → Type 0
KidsLow e = Each RefLow e.kids

abbrev pub DefLow : {L : Type 0} → Definition L → Type 0
DefLow (define e) = KidsLow e
DefLow (named kind s r) = RefLow r
DefLow (placed kind at number) = Unit {0}
DefLow (setting rule) = Unit {0}

abbrev pub NameLow : Naming → Type 0
NameLow n = RefLow n.target

-- a job's raw numbers are below the nodes'
pub record JobLow (job : Job (List ℕ)) : Type 0 where
  pub definitions_low : Each DefLow job.definitions
  pub requests_low : Each (λ q. RefLow q.what) job.requests

reference-low : (kind : Kind) (r : Reference) → OfKind kind r → RefLow r
reference-low kind (raw n) h = h
reference-low kind (entry k n) h = tt
reference-low kind (name k s) h = tt

definition_low : (x : Definition (List ℕ)) → FormedDefinition x → DefLow x
definition_low (define e) h =
    each_weaker (λ r. (kind : Kind) × OfKind kind r) RefLow (λ r k. reference-low k.0 r k.1) e.kids (of_kinds_each h.fields e.kids h.of_kinds)
definition_low (named kind s r) h = reference-low kind r h.1
definition_low (placed kind at n) h = tt
definition_low (setting rule) h = tt

pub formed_low : (job : Job (List ℕ)) → Formed job → JobLow job
formed_low job f =
    record {
      definitions_low = each_weaker FormedDefinition DefLow definition_low job.definitions (formed_definitions_each job f);
      requests_low = each_weaker (FormedRequest _) (λ q. RefLow q.what) (λ q h. reference-low constant q.what h.0) job.requests f.requests;
    }
