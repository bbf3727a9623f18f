-- No refusal has the number 0, which is said where there is none.
use Prim.Native.Nat.{◌<◌}
use native.Mathlib.Omega.{arith}
use Rattle.refusals.specs.declared.Refusal.{Refusal}
use Rattle.refusals.specs.declared.Refusal.TheVariants.{TooShort, Edition, CacheShape, StartCode, NodeCount, EntryNode, SpareBits, Length, BrokenRecord, TooManyBlocks, ShortBuffer, Unsettled, NotPassing, BoundsLength, MissBelowHit, FloorAboveCeiling, FloorAtUnmarked, ImpossibleTimes, FactsLength, NumberOutOfRange, CertificateFails}
use Rattle.refusals.specs.Refusals.{number_of}

pub number-positive : (refusal : Refusal) → 0 < number_of refusal
number-positive TooShort = omega arith
number-positive Edition = omega arith
number-positive CacheShape = omega arith
number-positive StartCode = omega arith
number-positive NodeCount = omega arith
number-positive EntryNode = omega arith
number-positive SpareBits = omega arith
number-positive Length = omega arith
number-positive (BrokenRecord node) = omega arith
number-positive (TooManyBlocks node) = omega arith
number-positive ShortBuffer = omega arith
number-positive Unsettled = omega arith
number-positive NotPassing = omega arith
number-positive BoundsLength = omega arith
number-positive MissBelowHit = omega arith
number-positive (FloorAboveCeiling node) = omega arith
number-positive (FloorAtUnmarked node) = omega arith
number-positive ImpossibleTimes = omega arith
number-positive FactsLength = omega arith
number-positive NumberOutOfRange = omega arith
number-positive (CertificateFails node) = omega arith
