-- What words tell of the touches of the blocks that share them, node by node, and when all touches of a block are told of. Rules 8.1 and 8.2.
-- Laws hold it to `StaysTold`.
use Rattle.std.specs.Prelude.{ℕ, zero, suc, ◌+◌, ◌*◌, ◌/◌, ◌%◌, ◌≤◌, ◌<◌, true, false, cond, List, ◌∷◌, ◌⊎◌, ◌≡◌, eqb, get_or, None, Option, Some}
use Rattle.lists.specs.Loops.{patch}
use Rattle.chart.specs.Geometry.{most_touches}
use Rattle.ages.specs.Plan.{ColumnTouch, Plan, touches_in}
use Rattle.plan.specs.Listed.{node_in, plan_in}
use Rattle.kept.specs.Kept.{after_touch_of, since_at, stays_by}
use Rattle.bits.specs.Bits.{is_set}
use Rattle.keeping.specs.Words.{Group, chosen_for, word_touched, stays_in}
use Rattle.plan.specs.declared.ColumnTouches.{ColumnTouches}

-- Rule 8.1, of a touch of a column where this word is held: told anew if the column is one of the blocks, else as it was.
abbrev pub told_by : Group → ℕ → ℕ → ℕ → ℕ
told_by group word column old = cond (eqb (chosen_for group column) column) (cond (stays_in group column word) 1 0) old

-- Rule 8.2: touch k of a record, from 0. The first goes by the word on arrival, the second by that after the first.
abbrev pub told_of : Group → Option ColumnTouches → ℕ → ℕ → ℕ → ℕ
told_of group None word k old = old
told_of group (Some reference) word zero old = told_by group word reference.lower old
told_of group (Some reference) word (suc k) old =
    cond (eqb reference.lower reference.upper) old (told_by group (word_touched group reference.lower word) reference.upper old)

-- Place i, two to a node; and all places of so many nodes.
abbrev pub told_at : Group → List ℕ → List ℕ → List ℕ → ℕ → ℕ
told_at group plan words stays i =
    told_of group (node_in plan (i / most_touches)).what (get_or words (i / most_touches) 0) (i % most_touches) (get_or stays i 0)

abbrev pub told_all : Group → List ℕ → List ℕ → ℕ → List ℕ → List ℕ
told_all group plan words nodes stays = patch stays 0 (most_touches * nodes) (told_at group plan words stays)

-- All touches of one block are told of.
pub record BlockTold (plan : Plan) (block : ℕ) (stays : List ℕ) : Type 0 where
  pub first : (n : ℕ)
      → n < plan.nodes
      → (touch : ColumnTouch) (rest : List ColumnTouch)
      → touches_in plan n ≡ touch ∷ rest
      → touch.column ≡ block
      → get_or stays (most_touches * n) 0 ≡ cond (stays_by plan block (since_at plan n block)) 1 0
  pub second : (n : ℕ)
      → n < plan.nodes
      → (touch other : ColumnTouch) (rest : List ColumnTouch)
      → touches_in plan n ≡ touch ∷ other ∷ rest
      → other.column ≡ block
      → get_or stays (most_touches * n + 1) 0 ≡ cond (stays_by plan block (after_touch_of plan block touch (since_at plan n block))) 1 0

-- The blocks that are wanted are told of if they stand before k or are no longer left.
abbrev pub ToldSoFar : Plan → ℕ → ℕ → ℕ → List ℕ → Type 0
ToldSoFar plan wanted left k stays =
    (block : ℕ) → block < plan.blocks → is_set wanted block ≡ true → (block < k) ⊎ (is_set left block ≡ false) → BlockTold plan block stays

-- The answer is the first block from a place on that is wanted and below a count; the count, where there is none.
pub record NextWanted (wanted from count answer : ℕ) : Type 0 where
  pub within : answer ≤ count
  pub none_before : (block : ℕ) → from ≤ block → block < answer → is_set wanted block ≡ false
  pub ahead : from ≤ count → from ≤ answer
  pub is_wanted : answer < count → is_set wanted answer ≡ true

-- The same of slices, as a `requires` names them.
abbrev pub ToldIn : List ℕ → List ℕ → ℕ → ℕ → ℕ → List ℕ → Type 0
ToldIn columns plan wanted left k stays = ToldSoFar (plan_in columns plan) wanted left k stays
