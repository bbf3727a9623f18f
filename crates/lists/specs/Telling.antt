-- Tests that tell whether a statement holds, and lists of tests with answers that do.
-- Nothing here is a rule of the tool: the laws that hold tests, which run, to statements, which are read, speak of it.
use Rattle.std.specs.Prelude.{ℕ, ◌<◌, Bool, true, false, List, [], ◌∷◌, ◌⊎◌, ◌≡◌}
use Rattle.lists.specs.Choice.{Case, ◌⇒◌}

-- The test is passed exactly where the statement holds.
abbrev pub Tells : Bool → Type 0 → Type 0
Tells test S = (test ≡ true → S) × (test ≡ false → S → ⊥)

-- ---- lists of tests, where a statement says when each answer applies, and answers have numbers

-- Each test tells whether its answer applies.
abbrev pub AllTell : {X : Type 0} → (X → Type 0) → List (Case X) → Type 0
AllTell Applies [] = Unit {0}
AllTell Applies ((test ⇒ answer) ∷ cases) = Tells test (Applies answer) × AllTell Applies cases

-- The answers' numbers ascend, and are above `low`.
abbrev pub Numbered : {X : Type 0} → (X → ℕ) → ℕ → List (Case X) → Type 0
Numbered number low [] = Unit {0}
Numbered number low ((test ⇒ answer) ∷ cases) = (low < number answer) × Numbered number (number answer) cases

-- It is the answer of one of the tests.
abbrev pub Answered : {X : Type 0} → X → List (Case X) → Type 0
Answered x [] = ⊥
Answered x ((test ⇒ answer) ∷ cases) = (answer ≡ x) ⊎ Answered x cases
