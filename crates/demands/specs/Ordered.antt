-- The numbers of refusals that are tried one after another. Rule 11.0.
use Rattle.std.specs.Prelude.{ℕ, List, [], ◌∷◌}
use Rattle.lists.specs.Choice.{Case, ◌⇒◌}
use Rattle.refusals.specs.declared.Refusal.{Refusal}
use Rattle.refusals.specs.Refusals.{number_of}

-- Rule 11.0: the numbers of some refusals, in the order in which they are tried.
abbrev pub numbers_of : List (Case Refusal) → List ℕ
numbers_of [] = []
numbers_of ((test ⇒ refusal) ∷ cases) = number_of refusal ∷ numbers_of cases
