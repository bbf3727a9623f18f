-- The refusals' numbers and places, and a refusal's text. Rule 11.0, with the numbers of rules 11.1 to 11.18 and 11.23 to 11.25, and rule 14.3; 19 to 22
-- are given by nothing yet.
-- When each applies is not said here, but beside the function that gives it.
use Rattle.std.specs.Prelude.{ℕ, List, ◌++◌, codes, decimal}
use Rattle.refusals.specs.declared.Refusal.{Refusal}
use Rattle.refusals.specs.declared.Refusal.TheVariants.{TooShort, Edition, CacheShape, StartCode, NodeCount, EntryNode, SpareBits, Length, BrokenRecord, TooManyBlocks, ShortBuffer, Unsettled, NotPassing, BoundsLength, MissBelowHit, FloorAboveCeiling, FloorAtUnmarked, ImpossibleTimes, FactsLength, NumberOutOfRange, CertificateFails}

-- Rule 11.0: each refusal's number, the place of its rule in section 11.
abbrev pub number_of : Refusal → ℕ
number_of TooShort = 1
number_of Edition = 2
number_of CacheShape = 3
number_of StartCode = 4
number_of NodeCount = 5
number_of EntryNode = 6
number_of SpareBits = 7
number_of Length = 8
number_of (BrokenRecord node) = 9
number_of (TooManyBlocks node) = 10
number_of ShortBuffer = 11
number_of Unsettled = 12
number_of NotPassing = 13
number_of BoundsLength = 14
number_of MissBelowHit = 15
number_of (FloorAboveCeiling node) = 16
number_of (FloorAtUnmarked node) = 17
number_of ImpossibleTimes = 18
number_of FactsLength = 23
number_of NumberOutOfRange = 24
number_of (CertificateFails node) = 25

-- Rule 11.0: the node at fault, where a refusal has one, and else 0.
abbrev pub place_of : Refusal → ℕ
place_of TooShort = 0
place_of Edition = 0
place_of CacheShape = 0
place_of StartCode = 0
place_of NodeCount = 0
place_of EntryNode = 0
place_of SpareBits = 0
place_of Length = 0
place_of (BrokenRecord node) = node
place_of (TooManyBlocks node) = node
place_of ShortBuffer = 0
place_of Unsettled = 0
place_of NotPassing = 0
place_of BoundsLength = 0
place_of MissBelowHit = 0
place_of (FloorAboveCeiling node) = node
place_of (FloorAtUnmarked node) = node
place_of ImpossibleTimes = 0
place_of FactsLength = 0
place_of NumberOutOfRange = 0
place_of (CertificateFails node) = node

-- Rule 14.3, without the line's end: as in `refused 9 at 2`.
abbrev pub refusal_text : Refusal → List ℕ
refusal_text refusal = codes "refused " ++ decimal (number_of refusal) ++ codes " at " ++ decimal (place_of refusal)
