-- What the functions that count charged blocks promise one another, by a plan's list and the classes of all nodes. Nothing here is a rule of the tool:
-- `costs` has rule 10.4, and laws lead there.
use Rattle.std.specs.Prelude.{ℕ, zero, suc, ◌+◌, ◌*◌, Bool, false, cond, ◌&&◌, ◌||◌, List, eqb, ltb, get_or, set, replicate, None, Option, Some}
use Rattle.lists.specs.Lists.{sum_of}
use Rattle.lists.specs.Loops.{any}
use Rattle.chart.specs.Geometry.{most_blocks, most_touches}
use Rattle.classes.specs.Class.{kept}
use Rattle.plan.specs.Listed.{nodes_in, blocks_in, node_in}
use Rattle.plan.specs.declared.ColumnTouches.{ColumnTouches}

-- ---- marks of columns, as they are stored

abbrev pub set_if : Bool → ℕ → List ℕ → List ℕ
set_if test column marks = cond test (set marks column 1) marks

-- The marks after a record whose touches have these classes.
abbrev pub marked_by : Option ColumnTouches → ℕ → ℕ → List ℕ → List ℕ
marked_by None first second marks = marks
marked_by (Some reference) first second marks =
    set_if (eqb second kept) reference.upper (set_if (eqb first kept) reference.lower marks)

-- The same where the node's ceiling is above 0.
abbrev pub charged_by : Option ColumnTouches → ℕ → ℕ → ℕ → List ℕ → List ℕ
charged_by planned first second ceiling marks = cond (eqb ceiling 0) marks (marked_by planned first second marks)

-- The marks after the first n nodes.
abbrev pub charged_to : List ℕ → List ℕ → List ℕ → ℕ → List ℕ
charged_to plan classes ceilings zero = replicate most_blocks 0
charged_to plan classes ceilings (suc n) =
    charged_by (node_in plan n).what (get_or classes (most_touches * n) 0) (get_or classes (most_touches * n + 1) 0) (get_or ceilings n 0)
    (charged_to plan classes ceilings n)

-- ---- what they say

-- Whether a touch of a column has the class kept, where the touches of a record have these classes.
abbrev pub keeps_of : ℕ → Option ColumnTouches → ℕ → ℕ → Bool
keeps_of column None first second = false
keeps_of column (Some reference) first second =
    (eqb reference.lower column && eqb first kept) || (eqb reference.upper column && eqb second kept)

-- Whether it has at node n, and the node's ceiling is above 0.
abbrev pub charges_at : List ℕ → List ℕ → List ℕ → ℕ → ℕ → Bool
charges_at plan classes ceilings column n =
    ltb 0 (get_or ceilings n 0)
    && keeps_of column (node_in plan n).what (get_or classes (most_touches * n) 0) (get_or classes (most_touches * n + 1) 0)

-- How many columns there are of which that is so at some node.
abbrev pub charged_blocks : List ℕ → List ℕ → List ℕ → ℕ
charged_blocks plan classes ceilings =
    sum_of (blocks_in plan) (λ column. cond (any false (nodes_in plan) (charges_at plan classes ceilings column)) 1 0)
