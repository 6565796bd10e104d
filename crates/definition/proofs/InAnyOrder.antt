-- Definitions in another order (document 02, No. 11), at one job: its names and raw definitions behind all entries, and moved among them. The
-- law for every job is `order`, crates/order, proofs/Order.antt. Assumes nothing.
use mathlib.Core.List.{List, [], ◌∷◌, map}
use mathlib.Core.Path.{◌≡◌, refl}
use Prim.Native.Nat.{ℕ}
use Rattle.definition.specs.Basics.{concat}
use Rattle.definition.specs.Blocks.{poolrun_lent}
use Rattle.definition.specs.Run.{run, refusal_of, returned}
use Rattle.definition.specs.Opened.{opened}
use Rattle.definition.specs.Starred.{bytes, digit}

-- texts are held, version 52; a text, a Long, a Class of the name x, a MethodHandle, a bootstrap, an InvokeDynamic of the name y, and an Int
-- worked out as 1 + 2
unfoldable pub behind_all : List ℕ
behind_all =
    concat
    (map bytes
    ("48" ∷ "470034" ∷ "01000141" ∷ "050000000000000001" ∷ "07020178" ∷ "0f06010000" ∷ "400100030000" ∷ "12020179010000" ∷ "462b03000000010300000002"
    -- x, y, and z for the slot 9; a raw Long at 5 and a raw text at 2; the raw bootstraps 3 and 1
    ∷ "410178010000" ∷ "420179010000" ∷ "41017a000009" ∷ "4300050001" ∷ "4300020000" ∷ "4400030000" ∷ "4400010000"
    -- the Class, the InvokeDynamic, the Int and z are asked for
    ∷ "50" ∷ "51010002" ∷ "51010004" ∷ "51010005" ∷ "5102017a" ∷ "6001010000" ∷ []))

-- the same records: z ahead of all, each raw definition and each other name as soon as its entry stands, and one raw bootstrap last
unfoldable pub among_them : List ℕ
among_them =
    concat
    (map bytes
    ("41017a000009" ∷ "48" ∷ "470034" ∷ "01000141" ∷ "4300020000" ∷ "410178010000" ∷ "050000000000000001" ∷ "07020178" ∷ "4300050001" ∷ "0f06010000"
    ∷ "400100030000" ∷ "4400010000" ∷ "420179010000" ∷ "12020179010000" ∷ "462b03000000010300000002" ∷ "4400030000"
    ∷ "50" ∷ "51010002" ∷ "51010004" ∷ "51010005" ∷ "5102017a" ∷ "6001010000" ∷ []))

-- both are accepted and give the same, visits included
pub in_any_order : run poolrun_lent behind_all ≡ run poolrun_lent among_them
unfolding opened bytes digit behind_all among_them
in_any_order = refl

pub is_accepted : returned (λ b. b.visits) (run poolrun_lent behind_all) ≡ 20
unfolding opened bytes digit behind_all
is_accepted = refl

-- a name for a text and for a Long, in either order: 11 at the second
pub twice_named :
    map
    (λ job. refusal_of (run poolrun_lent (concat (map bytes job))))
    (("01000141" ∷ "050000000000000001" ∷ "410178010000" ∷ "410178010001" ∷ "50" ∷ "51020178" ∷ "6002000000" ∷ [])
    ∷ ("01000141" ∷ "050000000000000001" ∷ "410178010001" ∷ "410178010000" ∷ "50" ∷ "51020178" ∷ "6002000000" ∷ [])
    ∷ [])
    ≡ record { code = 11; place = 3 } ∷ record { code = 11; place = 3 } ∷ []
unfolding opened bytes digit
twice_named = refl
