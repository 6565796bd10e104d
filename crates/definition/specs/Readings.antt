-- Tables of jobs, each under one claim (proofs/Readings.antt): the open points of document 02, each decided (docs/DECISIONS.md), at its
-- smallest job, with the text that the reading chosen gives. Assumes nothing.
use Rattle.std.specs.Prelude.{List, [], ◌∷◌}
use Rattle.definition.specs.Starred.{Case, job}

-- No. 6: what an answer's mark goes by
unfoldable pub marked : List Case
marked =
    -- a raw number is answered first, and then given out: new
    job "03000000005051000001510100006002000000" "answers 2\n1 raw\n1 new\npool 7\n00020300000000\nbootstraps 0 0\n\nname 0\nclass none\nvisits 3\n"
    -- a raw reference to a slot that was given out: raw
    ∷ job "03000000005051010000510000016002000000" "answers 2\n1 new\n1 raw\npool 7\n00020300000000\nbootstraps 0 0\n\nname 0\nclass none\nvisits 3\n"
    -- a name that leads to a raw slot: raw
    ∷ job "4100000001505102006002000000" "answers 1\n1 raw\npool 2\n0001\nbootstraps 0 0\n\nname 0\nclass none\nvisits 1\n"
    -- an inline constant that equals a raw definition gets a slot of its own: new
    ∷ job "0300000000430001000050510100006002000000" "answers 1\n2 new\npool 12\n000303000000000300000000\nbootstraps 0 0\n\nname 0\nclass none\nvisits 3\n"
    -- a child of a constant asked for before gets its slot while building, after all requests: new
    ∷ job "010000070100005051010001510100006002000000" "answers 2\n1 new\n2 new\npool 8\n0003070002010000\nbootstraps 0 0\n\nname 0\nclass none\nvisits 5\n"
    -- equal constants of two entries: the second is old
    ∷ job "030000000003000000005051010000510100016002000000" "answers 2\n1 new\n1 old\npool 7\n00020300000000\nbootstraps 0 0\n\nname 0\nclass none\nvisits 4\n"
    ∷ []

-- No. 10: what the highest slot limits, and what it doesn't
unfoldable pub limited : List Case
limited =
    -- no slot, told ahead of the faults behind it: 26
    job "490000" "refused 26 0\n"
    -- nor the first record: 3
    ∷ job "48490000" "refused 3 1\n"
    -- behind a 48 it isn't the first record: 3
    ∷ job "48490001506002000000" "refused 3 1\n"
    -- a raw number above the highest slot is answered
    ∷ job "49000150510000026002000000" "answers 1\n2 raw\npool 2\n0001\nbootstraps 0 0\n\nname 0\nclass none\nvisits 1\n"
    -- and stands in an entry; the highest slot is given out
    ∷ job "4900010700000250510100006002000000" "answers 1\n1 new\npool 5\n0002070002\nbootstraps 0 0\n\nname 0\nclass none\nvisits 3\n"
    -- a class slot that names a slot above it has the empty name
    ∷ job "4900010700000250510100006002010000" "answers 1\n1 new\npool 5\n0002070002\nbootstraps 0 0\n\nname 0\nclass 0\n\nvisits 3\n"
    -- the last gap is used up: the count is one more than the highest slot
    ∷ job "49000103000000004300010000506002000000" "answers 0\npool 7\n00020300000000\nbootstraps 0 0\n\nname 0\nclass none\nvisits 2\n"
    -- the second half of a raw constant lies above it: 6
    ∷ job "4900010500000000000000004300010000506002000000" "refused 6 2\n"
    -- 6 is told when the record is run, behind the form's 3
    ∷ job "49000103000000004300020000" "refused 3 3\n"
    -- bootstrap indexes aren't limited
    ∷ job "4900014000000000004400020000506002000000" "answers 0\npool 2\n0001\nbootstraps 3 12\n000000000000000000000000\nname 0\nclass none\nvisits 3\n"
    -- the name finds no slot: 14 at the build record
    ∷ job "49000103000000004300010000506000000000" "refused 14 4\n"
    ∷ []

-- No. 5: which constants a version is asked of, and when
unfoldable pub dated : List Case
dated =
    -- any two bytes are a version
    job "470000506002000000" "answers 0\npool 2\n0001\nbootstraps 0 0\n\nname 0\nclass none\nvisits 0\n"
    -- 24 comes ahead of the 14 of the constant's own child
    ∷ job "4900014700000100001001000050510100016002000000" "refused 24 3\n"
    -- and behind that of a raw bootstrap's child
    ∷ job "4900014700001000000040010000000043000100004400000000506002000000" "refused 14 2\n"
    -- two constants are too new
    ∷ job "47000010000000100000015051010000510100016002000000" "refused 24 2\n"
    -- a raw constant that nobody asks for is judged
    ∷ job "470000100000004300010000506002000000" "refused 24 1\n"
    -- ahead of the name's 14
    ∷ job "490001470000100000004300010000506000000000" "refused 24 2\n"
    -- 50 lacks MethodHandle
    ∷ job "4700320f0100000050510100006002000000" "refused 24 1\n"
    -- and MethodType
    ∷ job "4700321000000050510100006002000000" "refused 24 1\n"
    -- and InvokeDynamic
    ∷ job "4700321200000000000050510100006002000000" "refused 24 1\n"
    -- 51 has them
    ∷ job "4700330f010000001000000012000000000000505101000051010001510100026002000000" "answers 3\n1 new\n2 new\n3 new\npool 14\n00040f0100001000001200000000\nbootstraps 0 0\n\nname 0\nclass none\nvisits 10\n"
    -- 52 lacks Module
    ∷ job "4700341300000050510100006002000000" "refused 24 1\n"
    -- and Package
    ∷ job "4700341400000050510100006002000000" "refused 24 1\n"
    -- 53 has them
    ∷ job "47003513000000140000005051010000510100016002000000" "answers 2\n1 new\n2 new\npool 8\n0003130000140000\nbootstraps 0 0\n\nname 0\nclass none\nvisits 6\n"
    -- 54 lacks Dynamic
    ∷ job "4700361100000000000050510100006002000000" "refused 24 1\n"
    -- 55 has it
    ∷ job "4700371100000000000050510100006002000000" "answers 1\n1 new\npool 7\n00021100000000\nbootstraps 0 0\n\nname 0\nclass none\nvisits 4\n"
    ∷ []

-- No. 8: which texts a 48 holds, and which 48
unfoldable pub spelled : List Case
spelled =
    -- a 48 behind a bad text counts: 25 at the text
    job "0100010048506002000000" "refused 25 0\n"
    -- but not behind a fault 4
    ∷ job "010001000701000148" "refused 4 1\n"
    -- nor behind a 22
    ∷ job "01000100460048" "refused 22 1\n"
    -- a fault behind both is told later
    ∷ job "0100010048" "refused 25 0\n"
    -- a 48 behind 50 is a fault itself: 3
    ∷ job "010001005048" "refused 3 2\n"
    -- a second 48 is one behind the first
    ∷ job "010001004848" "refused 25 0\n"
    -- names are any bytes
    ∷ job "48410100000000506002000000" "answers 0\npool 2\n0001\nbootstraps 0 0\n\nname 0\nclass none\nvisits 0\n"
    -- a cut text is 3
    ∷ job "4801000200" "refused 3 1\n"
    -- half a pair passes
    ∷ job "48010003eda080506002000000" "answers 0\npool 2\n0001\nbootstraps 0 0\n\nname 0\nclass none\nvisits 0\n"
    -- overlong forms pass
    ∷ job "48010005c181e08181506002000000" "answers 0\npool 2\n0001\nbootstraps 0 0\n\nname 0\nclass none\nvisits 0\n"
    -- a text nobody uses is held too
    ∷ job "4801000100506002000000" "refused 25 1\n"
    ∷ []

-- No. 9: the record that a refusal is told at
unfoldable pub pointed : List Case
pointed =
    -- an equal entry ahead that was never reached doesn't count
    job "490001030000000003000000000801000150510100026002000000" "refused 14 2\n"
    -- the lowest, not the first resolved
    ∷ job "4900010300000000030000000008010001080100005051010002510100036002000000" "refused 14 1\n"
    -- the entry, not the name that leads to it
    ∷ job "4900010300000000410001000008020050510100016002000000" "refused 14 1\n"
    -- the name's is the build record, though an equal text stands
    ∷ job "490001010010426f6f7473747261704d6574686f64734300010000506000000000" "refused 14 4\n"
    -- but not that of a child with the same text
    ∷ job "490001010010426f6f7473747261704d6574686f64730701000050510100016002000000" "refused 14 1\n"
    -- a raw constant's entry, not its record 43
    ∷ job "470000100000004300010000506002000000" "refused 24 1\n"
    -- or an equal entry ahead that was resolved
    ∷ job "4700001000000010000000430001000150510100006002000000" "refused 24 1\n"
    -- a request's own record
    ∷ job "490001030000000003000000015051010000510100016002000000" "refused 14 5\n"
    -- the child without a slot, not the constant that it is of
    ∷ job "49000103000000000801000050510100016002000000" "refused 14 1\n"
    -- 47, 48 and 49 are counted
    ∷ job "47000047" "refused 3 1\n"
    ∷ []

-- No. 3: what a record 46 comes to
unfoldable pub worked : List Case
worked =
    -- cut, and more than 32 deep already: 3
    job "462b2b2b2b2b2b2b2b2b2b2b2b2b2b2b2b2b2b2b2b2b2b2b2b2b2b2b2b2b2b2b2b" "refused 3 0\n"
    -- cut, and of mixed kinds already: 3
    ∷ job "462b030000000004" "refused 3 0\n"
    -- a bad byte with parts still missing: 22
    ∷ job "4600" "refused 22 0\n"
    -- mixed kinds go ahead of a division by zero: 22
    ∷ job "462b2f030000000003000000000400000000" "refused 22 0\n"
    -- a constant worked out and a plain one of the same kind and bits are one
    ∷ job "46030000000003000000005051010000510100016002000000" "answers 2\n1 new\n1 old\npool 7\n00020300000000\nbootstraps 0 0\n\nname 0\nclass none\nvisits 4\n"
    -- and are numbered together
    ∷ job "460300000000030000000150510100006002000000" "answers 1\n1 new\npool 7\n00020300000000\nbootstraps 0 0\n\nname 0\nclass none\nvisits 2\n"
    -- a NaN that goes in is forgotten: one pattern comes out
    ∷ job "462b047fc00001040000000050510100006002000000" "answers 1\n1 new\npool 7\n0002047fc00000\nbootstraps 0 0\n\nname 0\nclass none\nvisits 2\n"
    -- a lone leaf keeps its bits
    ∷ job "46047f80000150510100006002000000" "answers 1\n1 new\npool 7\n0002047f800001\nbootstraps 0 0\n\nname 0\nclass none\nvisits 2\n"
    -- a division by zero whose value can't matter: 23
    ∷ job "462a03000000002f0300000000030000000050510100006002000000" "refused 23 0\n"
    -- out of place, with a bad byte: 3
    ∷ job "504600" "refused 3 1\n"
    -- 31 signs and a leaf are 32 deep
    ∷ job "462b2b2b2b2b2b2b2b2b2b2b2b2b2b2b2b2b2b2b2b2b2b2b2b2b2b2b2b2b2b2b0300000001030000000103000000010300000001030000000103000000010300000001030000000103000000010300000001030000000103000000010300000001030000000103000000010300000001030000000103000000010300000001030000000103000000010300000001030000000103000000010300000001030000000103000000010300000001030000000103000000010300000001030000000150510100006002000000" "answers 1\n1 new\npool 7\n00020300000020\nbootstraps 0 0\n\nname 0\nclass none\nvisits 2\n"
    -- 32 signs are too deep: 22
    ∷ job "462b2b2b2b2b2b2b2b2b2b2b2b2b2b2b2b2b2b2b2b2b2b2b2b2b2b2b2b2b2b2b2b030000000003000000000300000000030000000003000000000300000000030000000003000000000300000000030000000003000000000300000000030000000003000000000300000000030000000003000000000300000000030000000003000000000300000000030000000003000000000300000000030000000003000000000300000000030000000003000000000300000000030000000003000000000300000000506002000000" "refused 22 0\n"
    -- 1.0 / 3.0
    ∷ job "462f043f800000044040000050510100006002000000" "answers 1\n1 new\npool 7\n0002043eaaaaab\nbootstraps 0 0\n\nname 0\nclass none\nvisits 2\n"
    -- 2.0 / 7.0
    ∷ job "462f06400000000000000006401c00000000000050510100006002000000" "answers 1\n1 new\npool 11\n0003063fd2492492492492\nbootstraps 0 0\n\nname 0\nclass none\nvisits 2\n"
    -- rounded at each operation: 0.1 + 0.2 - 0.3
    ∷ job "462d2b063fb999999999999a063fc999999999999a063fd333333333333350510100006002000000" "answers 1\n1 new\npool 11\n0003063c90000000000000\nbootstraps 0 0\n\nname 0\nclass none\nvisits 2\n"
    -- a tie goes to the even one, below
    ∷ job "462b044b800000043f80000050510100006002000000" "answers 1\n1 new\npool 7\n0002044b800000\nbootstraps 0 0\n\nname 0\nclass none\nvisits 2\n"
    -- and above
    ∷ job "462b044b800001043f80000050510100006002000000" "answers 1\n1 new\npool 7\n0002044b800002\nbootstraps 0 0\n\nname 0\nclass none\nvisits 2\n"
    -- zero by zero
    ∷ job "462f06000000000000000006000000000000000050510100006002000000" "answers 1\n1 new\npool 11\n0003067ff8000000000000\nbootstraps 0 0\n\nname 0\nclass none\nvisits 2\n"
    -- a difference of infinities
    ∷ job "462d047f800000047f80000050510100006002000000" "answers 1\n1 new\npool 7\n0002047fc00000\nbootstraps 0 0\n\nname 0\nclass none\nvisits 2\n"
    -- a product below the normal range
    ∷ job "462a041e3ce508041f0dabc650510100006002000000" "answers 1\n1 new\npool 7\n00020400034447\nbootstraps 0 0\n\nname 0\nclass none\nvisits 2\n"
    -- and one past the largest
    ∷ job "462a047f61b1e604c120000050510100006002000000" "answers 1\n1 new\npool 7\n000204ff800000\nbootstraps 0 0\n\nname 0\nclass none\nvisits 2\n"
    -- a part on the right is worked out first: 2 - (3 - 10)
    ∷ job "462d03000000022d0300000003030000000a50510100006002000000" "answers 1\n1 new\npool 7\n00020300000009\nbootstraps 0 0\n\nname 0\nclass none\nvisits 2\n"
    -- an Int wraps
    ∷ job "462b037fffffff030000000150510100006002000000" "answers 1\n1 new\npool 7\n00020380000000\nbootstraps 0 0\n\nname 0\nclass none\nvisits 2\n"
    -- a difference below zero
    ∷ job "462d05000000000000000205000000000000000350510100006002000000" "answers 1\n1 new\npool 11\n000305ffffffffffffffff\nbootstraps 0 0\n\nname 0\nclass none\nvisits 2\n"
    -- a Long's product wraps
    ∷ job "462a05800000000000000505000000000000000350510100006002000000" "answers 1\n1 new\npool 11\n000305800000000000000f\nbootstraps 0 0\n\nname 0\nclass none\nvisits 2\n"
    -- cut toward zero
    ∷ job "462f03fffffff9030000000250510100006002000000" "answers 1\n1 new\npool 7\n000203fffffffd\nbootstraps 0 0\n\nname 0\nclass none\nvisits 2\n"
    -- the lowest value by -1 is itself
    ∷ job "462f05800000000000000005ffffffffffffffff50510100006002000000" "answers 1\n1 new\npool 11\n0003058000000000000000\nbootstraps 0 0\n\nname 0\nclass none\nvisits 2\n"
    ∷ []
