-- The answers that a list of tests may give, whichever applies.
-- Nothing here is a rule of the tool: laws and contracts of inner functions speak of it.
use Rattle.std.specs.Prelude.{Bool, true, ◌&&◌, List, [], ◌∷◌}
use Rattle.lists.specs.Choice.{Case, ◌⇒◌}

-- Whether every answer in a list of tests passes a test itself.
abbrev pub every_answer : {X : Type 0} → (X → Bool) → List (Case X) → Bool
every_answer test [] = true
every_answer test ((applies ⇒ answer) ∷ cases) = test answer && every_answer test cases
