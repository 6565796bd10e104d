-- Literals become numbers before anything else is decided, so that slots can depend on them only through which of them are equal
-- (demand 3 of the request).
-- Assumes nothing.
use Rattle.std.specs.Prelude.{Bool, ◌&&◌, not, List, [], ◌∷◌, map, ℕ, eqb, get_or}
use Rattle.definition.specs.Ascii.{ascii}
use Rattle.definition.specs.Basics.{same, position, only}
use Rattle.definition.specs.Settings.{Setting, highest_of}
use Rattle.definition.specs.Shapes.{bootstrap_tag, Entry, with_literal}
use Rattle.definition.specs.Job.{Reference, Definition, define, named, placed, setting, Job}

-- a literal: the tag says its kind (text and the four kinds of number), then its bytes; an entry that has none counts as one of no bytes
abbrev pub Literal : Type 0
Literal = ℕ × List ℕ

unfoldable pub same_literal : Literal → Literal → Bool
same_literal a b = eqb a.0 b.0 && same a.1 b.1

-- the name of the attribute
unfoldable pub attribute_name : List ℕ
attribute_name = ascii "BootstrapMethods"

-- the entries of both tables, as they stand in the job
unfoldable pub entries : {L : Type 0} → List (Definition L) → List (Entry L Reference)
entries [] = []
entries (define e ∷ rest) = e ∷ entries rest
entries (named kind s r ∷ rest) = entries rest
entries (placed kind at number ∷ rest) = entries rest
entries (setting s ∷ rest) = entries rest

-- the settings, as they stand in the job
unfoldable pub settings : {L : Type 0} → List (Definition L) → List Setting
settings [] = []
settings (define e ∷ rest) = settings rest
settings (named kind s r ∷ rest) = settings rest
settings (placed kind at number ∷ rest) = settings rest
settings (setting s ∷ rest) = s ∷ settings rest

-- the highest slot of a job
abbrev pub top_of : {L : Type 0} → Job L → ℕ
top_of job = highest_of (settings job.definitions)

-- the entries of each table
unfoldable pub is_bootstrap : {L R : Type 0} → Entry L R → Bool
is_bootstrap e = eqb e.tag bootstrap_tag

unfoldable pub constants_of : {L : Type 0} → List (Definition L) → List (Entry L Reference)
constants_of definitions = only (λ e. not (is_bootstrap e)) (entries definitions)

unfoldable pub bootstraps_of : {L : Type 0} → List (Definition L) → List (Entry L Reference)
bootstraps_of definitions = only is_bootstrap (entries definitions)

-- all literals of a job: the text "BootstrapMethods", which the name may need, then each entry's
unfoldable pub literals : Job (List ℕ) → List Literal
literals job = (1, attribute_name) ∷ map (λ e. (e.tag, e.literal)) (entries job.definitions)

-- a literal's number: the place of its first equal
unfoldable pub number_of : List Literal → Literal → ℕ
number_of all literal = position (same_literal literal) all

-- the number of the text "BootstrapMethods"
abbrev pub attribute_number : ℕ
attribute_number = 0

-- the bytes that a number stands for
unfoldable pub literal_of : List Literal → ℕ → List ℕ
literal_of all n = (get_or all n (1, [])).1

unfoldable pub numbered_entry : List Literal → Entry (List ℕ) Reference → Entry ℕ Reference
numbered_entry all e = with_literal (number_of all (e.tag, e.literal)) e

unfoldable pub numbered_definition : List Literal → Definition (List ℕ) → Definition ℕ
numbered_definition all (define e) = define (numbered_entry all e)
numbered_definition all (named kind s r) = named kind s r
numbered_definition all (placed kind at number) = placed kind at number
numbered_definition all (setting s) = setting s

-- a job with numbers for its literals
unfoldable pub numbered : Job (List ℕ) → Job ℕ
numbered job =
    record { definitions = map (numbered_definition (literals job)) job.definitions; requests = job.requests; build = job.build }
