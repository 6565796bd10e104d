-- The class name that the finished words give. Assumes nothing.
use Rattle.std.specs.Prelude.{true, false, List, [], ◌≡◌, ℕ, ◌+◌, ◌≤◌, ◌<◌, eqb, length, get_or, take, drop, Some, None}
use Rattle.std.specs.Prelude.{Option as Maybe}
use Rattle.std.proofs.Math.Option.{Option, none, some}
use Rattle.definition.specs.Shapes.{Entry}
use Rattle.definition.specs.Job.{request, read_build}
use Rattle.definition.specs.Numbering.{attribute_name}
use Rattle.definition.specs.Layout.{class_slot_of}
use Rattle.store.specs.Store.{Store, size}
use Rattle.store.specs.JobIn.{job_in}
use Rattle.store.specs.Regions.{COUNTS, ANSWERS, AT}
use Rattle.output.specs.declared.Content.{Content}
use Rattle.output.specs.declared.Content.TheVariants as content
use Rattle.output.specs.declared.ClassName.{ClassName}
use Rattle.output.specs.declared.ClassName.TheVariants as class_name
use Rattle.output.specs.Contents.{shown_in, content_in}

-- the text that a slot shows, if it shows one
unfoldable pub text_of : Option (Entry (List ℕ) ℕ) → Option (List ℕ)
text_of none = none
text_of (some e) = elim (eqb e.tag 1) [ true ↦ some e.literal | false ↦ none ]

-- the name of the Class that a slot shows, where `shown` tells what each slot shows
unfoldable pub class_of : (ℕ → Option (Entry (List ℕ) ℕ)) → Option (Entry (List ℕ) ℕ) → Option (List ℕ)
class_of shown none = none
class_of shown (some e) = elim (eqb e.tag 7) [ true ↦ text_of (shown (get_or e.kids 0 0)) | false ↦ none ]

-- what a slot shows
abbrev pub shown_at : List ℕ → Store → ℕ → Option (Entry (List ℕ) ℕ)
shown_at s t slot = shown_in s t (content_in s t slot)

-- the class slot of record 60, and the name of the Class there
abbrev pub class_slot_in : List ℕ → Store → ℕ
class_slot_in s t = class_slot_of (t ANSWERS) (job_in s).build.class

abbrev pub class_in : List ℕ → Store → Option (List ℕ)
class_in s t = class_of (shown_at s t) (shown_at s t (class_slot_in s t))

-- the code's class name is this one: bytes of the job, or the text "BootstrapMethods"
abbrev pub NameIs : List ℕ → Maybe ClassName → Option (List ℕ) → Type 0
NameIs s None o = o ≡ none
NameIs s (Some (class_name.Bytes start size)) o = (start + size ≤ length s) × (o ≡ some (take size (drop start s)))
NameIs s (Some class_name.Attribute) o = o ≡ some attribute_name

-- the node of a content that is a Class, where `node` shows the nodes
abbrev pub IsClass : (ℕ → Entry (List ℕ) ℕ) → Content → Maybe ℕ → Type 0
IsClass node c (Some k) = (c ≡ content.Node k) × ((node k).tag ≡ 7)
IsClass node c None = (k : ℕ) → c ≡ content.Node k → (node k).tag ≡ 7 → ⊥

-- record 60 stands at the counter AT, and the request that it cites has an answer
pub record ClassAt (s p : List ℕ) (t : Store) : Type 0 where
  pub counted : AT < size p COUNTS
  pub build : read_build (drop (get_or (t COUNTS) AT 0 + 1) s) ≡ some ((job_in s).build, [])
  pub asked : (n : ℕ) → (job_in s).build.class ≡ request n → n < size p ANSWERS
