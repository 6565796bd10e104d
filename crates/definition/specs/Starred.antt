-- The starred jobs of document 01, one table under one claim (proofs/Starred.antt): what the definition prints for each is what the
-- document says. Results that the document gives in part are worked out in full from its rules. Assumes nothing.
use Rattle.std.specs.Prelude.{true, false, List, [], ◌∷◌, ◌++◌, ℕ, ◌+◌, ◌*◌, ◌-◌, ltb, replicate}
use Prim.Native.Char.{code}
use Prim.Native.String.{String, [] as end, ◌∷◌ as ◌then◌}
use Rattle.definition.specs.Ascii.{ascii}
use Rattle.definition.specs.Blocks.{printed, poolrun_lent, poolrun}
use Rattle.definition.specs.Run.{run}

-- a hex digit's value, and bytes written in hex
unfoldable pub digit : ℕ → ℕ
digit c = elim (ltb c 97) [ true ↦ c - 48 | false ↦ c - 87 ]

unfoldable pub bytes : String → List ℕ
bytes end = []
bytes (◌then◌ c end) = []
bytes (◌then◌ c (◌then◌ d rest)) = (16 * digit (code c) + digit (code d)) ∷ bytes rest

-- a job in hex or a whole file, and the text that is to be printed
pub data Case : Type 0 where
  job : String → String → Case
  file : List ℕ → String → Case

unfoldable pub prints : Case → List ℕ
prints (job given text) = printed (run poolrun_lent (bytes given))
prints (file given text) = poolrun given

unfoldable pub stated : Case → List ℕ
stated (job given text) = ascii text
stated (file given text) = ascii text

unfoldable pub starred : List Case
starred =
    -- a: nothing but 50 and 60; with build byte 00 the name gets slot 1
    job "506002000000" "answers 0\npool 2\n0001\nbootstraps 0 0\n\nname 0\nclass none\nvisits 0\n"
    ∷ job "506000000000" "answers 0\npool 21\n0002010010426f6f7473747261704d6574686f6473\nbootstraps 0 0\n\nname 1\nclass none\nvisits 0\n"
    -- b: a Class and its text
    ∷ job "010001410701000050510100016002010000" "answers 1\n1 new\npool 9\n000307000201000141\nbootstraps 0 0\n\nname 0\nclass 1\n41\nvisits 4\n"
    -- b in one block with used 18, zeros and its check
    ∷ file (bytes "00000012010001410701000050510100016002010000" ++ replicate 486 0 ++ bytes "0000123d") "answers 1\n1 new\npool 9\n000307000201000141\nbootstraps 0 0\n\nname 0\nclass 1\n41\nvisits 4\n"
    -- c: text "foo" raw at 5, Class of an inline "foo" asked: Class at 6, the odd gap, and the second text at 1
    ∷ job "010003666f6f010003666f6f07010001430005000050510100026002000000" "answers 1\n6 new\npool 26\n0007010003666f6f010000010000010000010003666f6f070001\nbootstraps 0 0\n\nname 0\nclass none\nvisits 6\n"
    -- d: raw Int at 2, then a Long and another Int asked: 3 and 1
    ∷ job "0300000001050000000000000002030000000343000200005051010001510100026002000000" "answers 2\n3 new\n1 new\npool 21\n000503000000030300000001050000000000000002\nbootstraps 0 0\n\nname 0\nclass none\nvisits 6\n"
    -- e: Long at 7 twice; Int at 7, then Long at 7; Long at 7, then Int at 8
    ∷ job "05000000000000000243000700004300070000506002000000" "refused 7 2\n"
    ∷ job "030000000105000000000000000243000700004300070001506002000000" "refused 8 3\n"
    ∷ job "030000000105000000000000000243000700014300080000506002000000" "refused 7 3\n"
    -- f: two names for each other, unused and asked; x unknown
    ∷ job "410161020162410162020161506002000000" "answers 0\npool 2\n0001\nbootstraps 0 0\n\nname 0\nclass none\nvisits 0\n"
    ∷ job "41016102016241016202016150510201616002000000" "refused 13 3\n"
    ∷ job "50510201786002000000" "refused 12 1\n"
    -- g: raw bootstrap 2 alone: three copies
    ∷ job "4000000900004400020000506002000000" "answers 0\npool 2\n0001\nbootstraps 3 12\n000900000009000000090000\nname 0\nclass none\nvisits 3\n"
    -- h: Class of raw 0; Class of raw 9, unused
    ∷ job "0700000050510100006002010000" "answers 1\n1 new\npool 5\n0002070000\nbootstraps 0 0\n\nname 0\nclass none\nvisits 3\n"
    ∷ job "0700000950510100006002010000" "answers 1\n1 new\npool 5\n0002070009\nbootstraps 0 0\n\nname 0\nclass 0\n\nvisits 3\n"
    -- i: ldc of raw 255 and of raw 256
    ∷ job "50520000ff6002000000" "answers 1\n255 raw\npool 2\n0001\nbootstraps 0 0\n\nname 0\nclass none\nvisits 1\n"
    ∷ job "50520001006002000000" "refused 16 1\n"
    ∷ []
