-- The first of a list of cases that applies, with its answer, and the first number that passes a test. Rule 11.0, for any answers: a case
-- is one row of a table, a test and what is answered where it is passed.
-- A choice: where no number below n passes, the first is n.
use Rattle.std.specs.Prelude.{◌≡◌, Bool, true, false, cond, ◌&&◌, ◌⊎◌, List, [], ◌∷◌, ℕ, zero, suc, ltb, Option, Some, None}

infix 30 ◌⇒◌
-- Whether it applies, and what is answered then.
pub data Case (X : Type 0) : Type 0 where
  ◌⇒◌ : Bool → X → Case X

-- Rule 11.0: the answer of the first case that applies, or `otherwise`. `say` turns a case's answer into the whole's.
abbrev pub first_case : {X Y : Type 0} → (X → Y) → List (Case X) → Y → Y
first_case say [] otherwise = otherwise
first_case say ((test ⇒ answer) ∷ cases) otherwise = cond test (say answer) (first_case say cases otherwise)

-- No case applies.
abbrev pub NoneApplies : {X : Type 0} → List (Case X) → Type 0
NoneApplies [] = Unit {0}
NoneApplies ((test ⇒ answer) ∷ cases) = (test ≡ false) × NoneApplies cases

-- Rule 11.0, as a statement: a case that answers x applies, and none before it.
abbrev pub FirstApplies : {X : Type 0} → List (Case X) → X → Type 0
FirstApplies [] x = ⊥
FirstApplies ((test ⇒ answer) ∷ cases) x =
    ((test ≡ true) × (answer ≡ x)) ⊎ ((test ≡ false) × FirstApplies cases x)

-- The first of the `left` numbers from k on that passes the test; where none does, the number after them.
abbrev pub first_from : ℕ → ℕ → (ℕ → Bool) → ℕ
first_from k zero test = k
first_from k (suc left) test = cond (test k) k (first_from (suc k) left test)

-- Rule 11.0, of places: the first number below n that passes the test, or n.
abbrev pub first : ℕ → (ℕ → Bool) → ℕ
first n test = first_from zero n test

-- The same, where one passes; none, where the first is n.
abbrev pub found : ℕ → ℕ → Option ℕ
found n k = cond (ltb k n) (Some k) None

-- Whether every number below n passes the test.
abbrev pub every : ℕ → (ℕ → Bool) → Bool
every zero test = true
every (suc n) test = every n test && test n

-- Whether every number of a list does.
abbrev pub every_of : (ℕ → Bool) → List ℕ → Bool
every_of test [] = true
every_of test (x ∷ xs) = test x && every_of test xs
