-- An entry of the linked table comes from an entry of the job, and its literal's number stands for that entry's literal. Assumes nothing.
use mathlib.Core.List.{List, [], ◌∷◌, ◌++◌, map, map-append}
use mathlib.Core.Option.{some}
use mathlib.Core.Path.{◌≡◌, sym, ap, subst, ◌∙◌}
use Prim.Native.Nat.{ℕ, zero, suc}
use lib.ListN.{get_elem?}
use Rattle.definition.specs.Basics.{good}
use Rattle.definition.specs.Shapes.{Entry, with_kids, with_literal}
use Rattle.definition.specs.Job.{Reference, Definition, define, named, placed, setting, Job}
use Rattle.definition.specs.Form.{form}
use Rattle.definition.specs.Numbering.{entries, constants_of, bootstraps_of, literals, number_of, literal_of, numbered_entry, numbered}
use Rattle.definition.specs.Resolving.{Goal, goal_of, linked}
use Rattle.facts.specs.Lists.{Among}
use Rattle.facts.proofs.Lists.{clash, map_at, map-some}
use Rattle.facts.proofs.Each.{each_at}
use Rattle.laws.specs.Statements.{IsBytes}
use Rattle.laws.proofs.Form.FormedEntries.{FormedEntry, FormedDefinition}
use Rattle.laws.proofs.Form.FormedJobs.{form-formed, formed_definitions_each}
use Rattle.laws.proofs.Numbering.Numbering.{number_of-at, literal_of-number_of}
use Rattle.laws.proofs.Numbering.NumberedCited.{constants_numbered_lem, bootstraps_numbered}
use Rattle.laws.proofs.Resolving.JobGoals.{table_defined, job_names, job_constants, job_table}

-- a definition's entry stands among the entries
entry_among : (ds : List (Definition (List ℕ))) (z : Entry (List ℕ) Reference) → Among (define z) ds → Among z (entries ds)
unfolding entries
entry_among [] z (i, h) = clash (cc)
entry_among (define e ∷ ds) z (zero, h) =
    let same : define e ≡ define z = cc in
    let entry : e ≡ z = cc in
    (0, ap some entry)
entry_among (define e ∷ ds) z (suc i, h) =
    let r = entry_among ds z (i, h) in
    (suc r.0, r.1)
entry_among (named kind s r ∷ ds) z (zero, h) = clash (cc)
entry_among (named kind s r ∷ ds) z (suc i, h) = entry_among ds z (i, h)
entry_among (placed kind n e ∷ ds) z (zero, h) = clash (cc)
entry_among (setting rule ∷ ds) z (zero, h) = clash (cc)
entry_among (placed kind n e ∷ ds) z (suc i, h) = entry_among ds z (i, h)
entry_among (setting rule ∷ ds) z (suc i, h) = entry_among ds z (i, h)

-- so its literal stands among the literals
literal_among : (job : Job (List ℕ)) (z : Entry (List ℕ) Reference) → Among (define z) job.definitions → Among (z.tag, z.literal) (literals job)
unfolding literals
literal_among job z a =
    let r = entry_among job.definitions z a in
    (suc r.0, map_at (λ (e : Entry (List ℕ) Reference). (e.tag, e.literal)) (entries job.definitions) r.0 z r.1)

-- where an entry of the linked table comes from
pub record Origin (job : Job (List ℕ)) (e : ℕ) (x : Entry ℕ Goal) : Type 0 where
  pub entry : Entry (List ℕ) Reference
  pub there : get_elem? (constants_of job.definitions ++ bootstraps_of job.definitions) e ≡ some entry
  pub formed : FormedEntry entry
  pub same_tag : x.tag ≡ entry.tag
  pub same_byte : x.byte ≡ entry.byte
  pub number_is_lem : x.literal ≡ number_of (literals job) (entry.tag, entry.literal)
  pub literal_is : literal_of (literals job) x.literal ≡ entry.literal
  pub literal_at : get_elem? (literals job) x.literal ≡ some (entry.tag, entry.literal)
  pub kids_are : x.kids ≡ map (goal_of (job_names (numbered job)) (job_constants (numbered job))) entry.kids

pub origin : (bytes : List ℕ) (job : Job (List ℕ)) → IsBytes bytes → form bytes ≡ good job → (e : ℕ) (x : Entry ℕ Goal) → get_elem? (job_table (numbered job)) e ≡ some x → Origin job e x
unfolding linked with_kids numbered_entry with_literal
origin bytes job are form e x at =
    let all = literals job in
    let goal = goal_of (job_names (numbered job)) (job_constants (numbered job)) in
    let both : constants_of (numbered job).definitions ++ bootstraps_of (numbered job).definitions
    ≡ map (numbered_entry all) (constants_of job.definitions ++ bootstraps_of job.definitions) =
    ap (λ l. l ++ bootstraps_of (numbered job).definitions) (constants_numbered_lem job)
    ∙ ap (λ l. map (numbered_entry all) (constants_of job.definitions) ++ l) (bootstraps_numbered job)
    ∙ sym (map-append (numbered_entry all) (constants_of job.definitions) (bootstraps_of job.definitions)) in
    let one = map-some (λ (y : Entry ℕ Reference). with_kids (map goal y.kids) y) (constants_of (numbered job).definitions ++ bootstraps_of (numbered job).definitions) e x at in
    let two = map-some (numbered_entry all) (constants_of job.definitions ++ bootstraps_of job.definitions) e one.0 (subst (λ l. get_elem? l e ≡ some one.0) both one.1) in
    let z = two.0 in
    let defined = (table_defined job.definitions e z two.1).2 in
    let is : with_kids (map goal z.kids) (numbered_entry all z) ≡ x = ap (λ (y : Entry ℕ Reference). with_kids (map goal y.kids) y) two.2 ∙ one.2 in
    record {
      entry = z;
      there = two.1;
      formed = each_at FormedDefinition job.definitions defined.0 (define z) (formed_definitions_each job (form-formed bytes job are form)) defined.1;
      same_tag = ap (λ (y : Entry ℕ Goal). y.tag) (sym is);
      same_byte = ap (λ (y : Entry ℕ Goal). y.byte) (sym is);
      number_is_lem = ap (λ (y : Entry ℕ Goal). y.literal) (sym is);
      literal_is = ap (λ (y : Entry ℕ Goal). literal_of all y.literal) (sym is) ∙ literal_of-number_of all (z.tag, z.literal) (literal_among job z defined);
      literal_at = ap (λ (y : Entry ℕ Goal). get_elem? all y.literal) (sym is) ∙ number_of-at all (z.tag, z.literal) (literal_among job z defined);
      kids_are = ap (λ (y : Entry ℕ Goal). y.kids) (sym is);
    }
