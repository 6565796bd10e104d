-- A second table of jobs under one claim (proofs/SecondTable.antt): what the definition prints for each is what Krakatau's module gives
-- to it. The texts are those of the oracle's driver, to which a test of oracle/ holds every row. Assumes nothing.
use Rattle.std.specs.Prelude.{List, [], ◌∷◌}
use Rattle.definition.specs.Starred.{Case, job}

unfoldable pub second : List Case
second =
    -- the four kinds of number: a Float is four bytes, a Double eight and two slots
    job "0300000001043fc0000005000000000000000206400400000000000050510100005101000151010002510100036002000000" "answers 4\n1 new\n2 new\n3 new\n5 new\npool 30\n00070300000001043fc00000050000000000000002064004000000000000\nbootstraps 0 0\n\nname 0\nclass none\nvisits 8\n"
    -- a Double raw at 2, its second half at 3, and one asked beside it
    ∷ job "063ff0000000000000064000000000000000030000000743000200005051010001510100026002000000" "answers 2\n4 new\n1 new\npool 25\n00060300000007063ff0000000000000064000000000000000\nbootstraps 0 0\n\nname 0\nclass none\nvisits 6\n"
    -- texts and what refers to one: Class, String, MethodType, Module, Package
    ∷ job "0100016107010000080100001001000013010000140100005051010001510100025101000351010004510100056002010000" "answers 5\n1 new\n2 new\n3 new\n4 new\n5 new\npool 21\n000707000608000610000613000614000601000161\nbootstraps 0 0\n\nname 0\nclass 1\n61\nvisits 16\n"
    -- what refers to two: Fieldref, Methodref, InterfaceMethodref, and their NameAndType; eleven entries in the table
    ∷ job "010001410100016d01000156070100000c010001010002090100030100040a0100030100040b0100030100040a01000302016e41016e0100040300000001030000000250510100055101000651010007510100085101000a6002000000" "answers 5\n1 new\n2 new\n3 new\n2 old\n4 new\npool 42\n000a09000500060a000500060b0005000603000000020700090c000700080100016d0100015601000141\nbootstraps 0 0\n\nname 0\nclass none\nvisits 26\n"
    -- a MethodHandle's kind byte comes ahead of its reference, and handles that differ in it alone are two
    ∷ job "0f010000090f020000090f01000009505101000051010001510100026002000000" "answers 3\n1 new\n2 new\n1 old\npool 10\n00030f0100090f020009\nbootstraps 0 0\n\nname 0\nclass none\nvisits 9\n"
    -- a Dynamic and an InvokeDynamic of one bootstrap with a handle and two arguments
    ∷ job "010001780f0600000403000000054001000100020100000100020c01000001000011010000010003120100000100035051010004510100056001000000" "answers 2\n1 new\n2 new\npool 49\n0008110000000612000000060f0600040100017803000000050c00040004010010426f6f7473747261704d6574686f6473\nbootstraps 1 8\n0003000200040005\nname 7\nclass none\nvisits 19\n"
    -- equal constants are one, of every depth; equal bits of another kind are not
    ∷ job "030000000103000000010400000001010001730100017308010003080100045051010000510100015101000251010005510100066002000000" "answers 5\n1 new\n1 old\n2 new\n3 new\n3 old\npool 19\n00050300000001040000000108000401000173\nbootstraps 0 0\n\nname 0\nclass none\nvisits 14\n"
    -- an inline constant never shares a raw one's slot, nor two raw ones theirs
    ∷ job "03000000010300000001430001000043000300015051010000510100016002000000" "answers 2\n2 new\n2 old\npool 17\n0004030000000103000000010300000001\nbootstraps 0 0\n\nname 0\nclass none\nvisits 6\n"
    -- equal inline bootstraps of two entries are one, and so are those with equal numbers: raw 1, and the Int that got slot 1
    ∷ job "40000009000100000840000009000100000812010000000007120100010000065051010000510100016002000000" "answers 2\n1 new\n2 new\npool 12\n000312000000071200000006\nbootstraps 1 6\n000900010008\nname 0\nclass none\nvisits 14\n"
    ∷ job "03000000014000000100004001000000001201000000000912010001000009505101000051010001510100026002000000" "answers 3\n1 new\n2 new\n3 new\npool 17\n0004030000000112000000091200000009\nbootstraps 1 4\n00010000\nname 0\nclass none\nvisits 14\n"
    -- an inline bootstrap shares no raw one's index
    ∷ job "40000009000044000000001201000000000750510100006002000000" "answers 1\n1 new\npool 7\n00021200010007\nbootstraps 2 8\n0009000000090000\nname 0\nclass none\nvisits 7\n"
    -- gaps of one, one, two, one and two slots, and the last: narrow ones fill the odd gaps first, wide ones take the first two neighbours
    ∷ job "0300000001430002000043000400004300070000430009000043000c00000300000002030000000303000000040300000005050000000000000006050000000000000007030000000850510100015101000251010003510100055101000451010006510100076002000000" "answers 7\n1 new\n3 new\n8 new\n5 new\n10 new\n13 new\n11 new\npool 70\n000f0300000002030000000103000000030300000001050000000000000006030000000103000000040300000001030000000503000000080300000001050000000000000007\nbootstraps 0 0\n\nname 0\nclass none\nvisits 20\n"
    -- gaps of three slots, of four and the last, around a raw Long: where no odd gap is left, narrow ones take the first that isn't empty
    ∷ job "0500000000000000014300040000030000000243000a000103000000030500000000000000040300000005030000000650510100025201000351010004520100056002000000" "answers 4\n1 new\n2 new\n6 new\n7 new\npool 46\n000b0300000003050000000000000004050000000000000001030000000503000000060100000100000300000002\nbootstraps 0 0\n\nname 0\nclass none\nvisits 12\n"
    -- the building stack: allocated ones on top as they came, so the last asked is taken first; then raw ones by falling slot
    ∷ job "0100016101000162010001630100016407010000070100010701000207010003430002000443000400055051010006510100076002000000" "answers 2\n1 new\n3 new\npool 30\n000907000607000807000507000701000164010001630100016201000161\nbootstraps 0 0\n\nname 0\nclass none\nvisits 16\n"
    -- a tower on the stack: what a constant allocates is taken before what lay there
    ∷ job "0100016101000162010001630c0100000100010701000209010004010003080100005051010006510100056002000000" "answers 2\n1 new\n2 new\npool 30\n000808000509000300040700070c00050006010001610100016201000163\nbootstraps 0 0\n\nname 0\nclass none\nvisits 15\n"
    -- raw bootstraps get their children's slots by falling index, the handle ahead of the arguments
    ∷ job "03000000010300000002030000000340010000000040010001000101000244000000004400010001506002000000" "answers 0\npool 17\n0004030000000203000000030300000001\nbootstraps 2 10\n00030000000100010002\nname 0\nclass none\nvisits 10\n"
    -- holes repeat the next raw bootstrap above them, between two raw ones too
    ∷ job "40000001000040000002000100000344000100004400040001506002000000" "answers 0\npool 2\n0001\nbootstraps 5 26\n0001000000010000000200010003000200010003000200010003\nname 0\nclass none\nvisits 7\n"
    -- an inline bootstrap takes the first free index, and one more skips the raw one behind it; a hole stays below the last
    ∷ job "4000000100004000000200004000000300004000000400004400010000440004000112010002000009120100030000095051010000510100016002000000" "answers 2\n1 new\n2 new\npool 12\n000312000200091200000009\nbootstraps 5 20\n0004000000010000000300000002000000020000\nname 0\nclass none\nvisits 18\n"
    -- name byte 1: no bootstrap, a raw one, an inline one
    ∷ job "506001000000" "answers 0\npool 2\n0001\nbootstraps 0 0\n\nname 0\nclass none\nvisits 0\n"
    ∷ job "4000000900004400000000506001000000" "answers 0\npool 21\n0002010010426f6f7473747261704d6574686f6473\nbootstraps 1 4\n00090000\nname 1\nclass none\nvisits 3\n"
    ∷ job "4000000900001201000000000950510100006001000000" "answers 1\n1 new\npool 26\n00031200000009010010426f6f7473747261704d6574686f6473\nbootstraps 1 4\n00090000\nname 2\nclass none\nvisits 6\n"
    -- the name shares an equal inline text's slot, and not an equal raw one's
    ∷ job "010010426f6f7473747261704d6574686f647350510100006000000000" "answers 1\n1 new\npool 21\n0002010010426f6f7473747261704d6574686f6473\nbootstraps 0 0\n\nname 1\nclass none\nvisits 2\n"
    ∷ job "010010426f6f7473747261704d6574686f64734300020000506000000000" "answers 0\npool 40\n0003010010426f6f7473747261704d6574686f6473010010426f6f7473747261704d6574686f6473\nbootstraps 0 0\n\nname 1\nclass none\nvisits 2\n"
    -- 6: a wide one at slot 0, though slot 1 is taken; slot 65535; a wide one at 65534
    ∷ job "030000000106000000000000000243000100004300000001506002000000" "refused 6 3\n"
    ∷ job "030000000143ffff0000506002000000" "refused 6 1\n"
    ∷ job "06000000000000000143fffe0000506002000000" "refused 6 1\n"
    -- 9: raw bootstrap 65535; 10: an index twice
    ∷ job "40000009000044ffff0000506002000000" "refused 9 1\n"
    ∷ job "40000009000040000008000044000300004400030001506002000000" "refused 10 3\n"
    -- a wide one at 65533 and raw bootstrap 65534 are accepted: the name asked, which is undefined, is what is refused
    ∷ job "05000000000000000140000009000043fffd000044fffe000050510201786002000000" "refused 12 5\n"
    -- 11: a name twice for its kind; once for each kind is accepted, and leads to what it names there
    ∷ job "030000000141016e01000041016e000005506002000000" "refused 11 2\n"
    ∷ job "030000000140000009000041016e01000042016e0100001202016e02016e505102016e510100016002000000" "answers 2\n1 new\n2 new\npool 12\n000303000000011200000001\nbootstraps 1 4\n00090000\nname 0\nclass none\nvisits 8\n"
    -- a name may stand for a name, to an entry or a raw slot
    ∷ job "0300000001410161020162410162010000410163020164410164000009505102016151020163510100006002000000" "answers 3\n1 new\n9 raw\n1 old\npool 7\n00020300000001\nbootstraps 0 0\n\nname 0\nclass none\nvisits 4\n"
    -- 13 through an entry: a Class of itself by name, raw at 1; a Dynamic whose bootstrap has it for its argument, asked
    ∷ job "070201634101630100004300010000506002000000" "refused 13 3\n"
    ∷ job "4000000900010201641101000000000941016401000050510100006002000000" "refused 13 4\n"
    -- 12 ahead of 13: children go left to right
    ∷ job "4101610201610902017802016150510100006002000000" "refused 12 3\n"
    -- an entry entered again costs one visit, by its number, by a name that points forward, or by another entry; a raw number costs one too
    ∷ job "01000161070100000c0100000201614101610100005051010001510100025101000151020161510000036002000000" "answers 5\n1 new\n2 new\n1 old\n3 new\n3 raw\npool 14\n00040700030c0003000301000161\nbootstraps 0 0\n\nname 0\nclass none\nvisits 11\n"
    -- a class name is given of a Class alone, by its slot or by a request; its text may be the name's
    ∷ job "010001610801000050510100016002010000" "answers 1\n1 new\npool 9\n000308000201000161\nbootstraps 0 0\n\nname 0\nclass none\nvisits 4\n"
    ∷ job "0700000250510100006000000001" "answers 1\n1 new\npool 24\n0003070002010010426f6f7473747261704d6574686f6473\nbootstraps 0 0\n\nname 2\nclass 16\n426f6f7473747261704d6574686f6473\nvisits 3\n"
    -- the form: bytes behind 60, and behind one that cites no request; tag 21, an entry that cites itself
    ∷ job "50600200000000" "refused 3 2\n"
    ∷ job "50600201000000" "refused 4 1\n"
    ∷ job "15010000506002000000" "refused 3 0\n"
    ∷ job "07010000506002000000" "refused 4 0\n"
    ∷ []
