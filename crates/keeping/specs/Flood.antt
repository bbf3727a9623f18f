-- The table of each block that marks and words hold, what is so while nodes are taken that are due, and what is so when none is.
-- Nothing here is a rule of the tool: laws and contracts of inner functions speak of it.
use Rattle.std.specs.Prelude.{ℕ, ◌+◌, ◌-◌, ◌^◌, ◌≤◌, ◌<◌, Bool, true, false, cond, List, ◌⊎◌, ◌≡◌, eqb, get_or}
use Rattle.lists.specs.Lists.{sum_of}
use Rattle.flow.specs.Flow.{Cell, holds, cell_at}
use Rattle.flow.specs.Passing.{CellBelow, Passing, Under}
use Rattle.flow.specs.Working.{Working}
use Rattle.layout.specs.Rows.{table_by}
use Rattle.ages.specs.Plan.{Plan, columns_of}
use Rattle.plan.specs.Listed.{nodes_in, blocks_in, plan_in}
use Rattle.kept.specs.Since.{Since}
use Rattle.kept.specs.Kept.{kept_flow, kept_table}
use Rattle.keeping.specs.declared.span.Span.{Span}
use Rattle.keeping.specs.declared.words.Group.{Group as HeldGroup}
use Rattle.keeping.specs.Words.{since_in, EachChosen}
use Rattle.keeping.specs.declared.putting.Work.{Work as HeldWork}
use Rattle.keeping.specs.Work.{Work}

-- The state that the word of a node holds, and the table of these: nothing where a mark is 0, as in every table that is read off lists (`layout`).
abbrev pub word_state : Plan → ℕ → List ℕ → ℕ → Since
word_state plan block words n = since_in (columns_of plan) block (get_or words n 0)

abbrev pub table_in : Plan → ℕ → List ℕ → List ℕ → List (Cell Since)
table_in plan block marks words = table_by plan.nodes (word_state plan block words) marks

abbrev pub due_in : List Bool → ℕ → Bool
due_in due n = get_or due n false

-- Words that fit: none has a bit above the columns, and an unmarked node has none.
pub record WordsFit (plan : Plan) (marks words : List ℕ) : Type 0 where
  pub small : (n : ℕ) → n < plan.nodes → get_or words n 0 < 2 ^ plan.blocks
  pub bare : (n : ℕ) → n < plan.nodes → get_or marks n 0 ≡ 0 → get_or words n 0 ≡ 0

-- Where node n is at hand, m is within a span.
abbrev pub Within : ℕ → Span → ℕ → Type 0
Within n span m = ((n ≤ m) × (m < span.to)) ⊎ ((span.low ≤ m) × (m < span.high))

-- Before node n is taken: the table is on its way, and all nodes that are due are within the span.
pub record Stands (plan : Plan) (block n : ℕ) (work : Work) : Type 0 where
  pub fits : WordsFit plan work.marks work.words
  pub begun : CellBelow (kept_flow plan block) (holds (kept_flow plan block).start) (cell_at (table_in plan block work.marks work.words) plan.entry)
  pub under : (P : List (Cell Since)) → Passing (kept_flow plan block) P → Under (kept_flow plan block) (table_in plan block work.marks work.words) P
  pub working : Working (kept_flow plan block) (table_in plan block work.marks work.words) (due_in work.due)
  pub within : (m : ℕ) → m < plan.nodes → due_in work.due m ≡ true → Within n work.span m
  pub to_in : work.span.to ≤ plan.nodes
  pub high_in : work.span.high ≤ plan.nodes

-- What is left to do, as a number: for each node the bits that may still come, its mark, and that it is due.
abbrev pub weight_at : Work → ℕ → ℕ
weight_at work n =
    (2 ^ 64 - get_or work.words n 0) + cond (eqb (get_or work.marks n 0) 0) 1 0 + cond (get_or work.due n false) 1 0

abbrev pub weight_of : ℕ → Work → ℕ
weight_of nodes work = sum_of nodes (weight_at work)

-- After a sweep: none is due ahead, and less is left to do, or no node is due.
pub record Swept (columns plan : List ℕ) (block : ℕ) (before after : Work) : Type 0 where
  pub stands : Stands (plan_in columns plan) block after.span.to after
  pub lighter : weight_of (nodes_in plan) after ≤ weight_of (nodes_in plan) before
  pub progress : (weight_of (nodes_in plan) after < weight_of (nodes_in plan) before) ⊎ (after.span.high ≤ after.span.low)

-- When no node is due: the table of each block is the tightest.
pub record Flooded (plan : Plan) (block : ℕ) (marks words : List ℕ) : Type 0 where
  pub fits : WordsFit plan marks words
  pub table : table_in plan block marks words ≡ kept_table plan block

-- The same of each block that shares the words; and of those that a struct holds.
abbrev pub AllStand : List ℕ → List ℕ → List ℕ → ℕ → Work → Type 0
AllStand columns plan chosen n work = EachChosen chosen (blocks_in plan) (λ block. Stands (plan_in columns plan) block n work)

abbrev pub AllSwept : List ℕ → List ℕ → List ℕ → Work → Work → Type 0
AllSwept columns plan chosen before after = EachChosen chosen (blocks_in plan) (λ block. Swept columns plan block before after)

abbrev pub AllFlooded : List ℕ → List ℕ → List ℕ → List ℕ → List ℕ → Type 0
AllFlooded columns plan chosen marks words = EachChosen chosen (blocks_in plan) (λ block. Flooded (plan_in columns plan) block marks words)

abbrev pub StandIn : HeldGroup → List ℕ → ℕ → Work → Type 0
StandIn group plan n work = AllStand group.columns.now plan group.chosen n work

abbrev pub SweptTo : HeldGroup → List ℕ → Work → Work → Type 0
SweptTo group plan before after = AllSwept group.columns.now plan group.chosen before after

abbrev pub FloodedIn : HeldGroup → List ℕ → HeldWork → Type 0
FloodedIn group plan work = AllFlooded group.columns.now plan group.chosen work.marks work.words
