-- What the analysis's inner functions promise one another: a table without a mark, and how an analysis ends whichever list of blocks is written
-- beside it. Nothing here is a rule of the tool.
use Rattle.std.specs.Prelude.{ℕ, List, [], ◌≡◌, replicate, Result}
use Rattle.lists.specs.Lists.{written}
use Rattle.flow.specs.Flow.{blank}
use Rattle.flow.specs.Pass.{settle}
use Rattle.ages.specs.Plan.{Plan, plan_flow}
use Rattle.plan.specs.Listed.{plan_in}
use Rattle.tables.specs.Lent.{Lent, over}
use Rattle.analysis.specs.Analysis.{Buffers, finish}
use Rattle.analysis.specs.declared.Unanalysed.{Unanalysed}
use Rattle.analysis.specs.declared.SettledAfter.{SettledAfter}

-- A plan as far as its list alone tells: N and B, on which the room for a table and a cleared one depend, are those of any plan with
-- this list.
abbrev pub sized : List ℕ → Plan
sized plan = plan_in [] plan

-- The table without a mark, over what is lent.
abbrev pub blank_over : Plan → Lent → Lent
blank_over plan lent = over plan (replicate plan.nodes blank) lent

-- The five buffers, from a table's three and the two others.
abbrev pub buffers_by : List ℕ → Lent → List ℕ → Buffers
buffers_by blocks table classes =
    record { blocks = blocks; must = table.must; may = table.may; marks = table.marks; classes = classes }

-- The end of an analysis, but for the block list: whichever list is written beside it, this answer and these buffers are what is defined.
abbrev pub Finishes : Plan → ℕ → Lent → List ℕ → Result SettledAfter Unanalysed → Lent → List ℕ → Type 0
Finishes plan allowance lent classes answer left left_classes = (list blocks : List ℕ)
    → record { answer = answer; buffers = buffers_by (written list blocks) left left_classes }
    ≡ finish plan list allowance (buffers_by blocks lent classes) (settle (plan_flow plan) allowance)
