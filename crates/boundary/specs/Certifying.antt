-- What a caller in another language gives for a certificate, and what it is told. Rules 11.24, 12.9 and 18.10: a side is a number, and so is the
-- denominator.
use Rattle.std.specs.Prelude.{ℕ, Bool, cond, List, [], ◌∷◌, eqb, leb}
use Rattle.facts.specs.declared.Side.{Side}
use Rattle.facts.specs.declared.Side.TheVariants.{High, Low}
use Rattle.certificate.specs.Bound.{BoundSaid}
use Rattle.boundary.specs.Told.{short}

-- Rule 18.10: the side of a number. One of no side counts as high, and refusal 24 comes before.
abbrev pub side_given : ℕ → Side
side_given side = cond (eqb side 1) Low High

-- Rules 11.24 and 18.10: the denominator. With a number of no side it is 0, so that 24 is given, in its turn.
abbrev pub denominator_given : ℕ → ℕ → ℕ
denominator_given side denominator = cond (leb side 1) denominator 0

-- Rule 12.9: number and place, and then the bound.
abbrev pub bound_numbers : BoundSaid → List ℕ
bound_numbers said = said.number ∷ said.place ∷ said.bound ∷ []

-- Rule 12.9: whether the list for the answer is too short.
abbrev pub bound_short : List ℕ → Bool
bound_short answer = short answer 3
