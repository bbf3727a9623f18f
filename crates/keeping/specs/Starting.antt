-- What words are worked out from: lists with nothing in them, or marks on the nodes that walks reach, of which those are due that touch one of the
-- blocks. Nothing here is a rule of the tool: contracts of inner functions and laws speak of it.
use Rattle.std.specs.Prelude.{ℕ, zero, suc, ◌<◌, Bool, false, not, ◌&&◌, List, ◌≡◌, eqb, get_or, set, Option}
use Rattle.flow.specs.Walk.{Reached}
use Rattle.ages.specs.Plan.{Plan, arrows_in}
use Rattle.plan.specs.Listed.{node_in, plan_in}
use Rattle.keeping.specs.declared.putting.Work.{Work as HeldWork}
use Rattle.keeping.specs.Words.{touches_chosen}
use Rattle.plan.specs.declared.ColumnTouches.{ColumnTouches}

-- The nodes that have a mark are those that walks reach.
pub record MarksReached (plan : Plan) (marks : List ℕ) : Type 0 where
  pub reached : (n : ℕ) → n < plan.nodes → (get_or marks n 0 ≡ 0 → ⊥) → Reached (arrows_in plan) plan.entry n
  pub marked : (n : ℕ) → n < plan.nodes → Reached (arrows_in plan) plan.entry n → get_or marks n 0 ≡ 0 → ⊥

-- Nothing is marked, touched or due.
pub record Zeros (nodes : ℕ) (marks words : List ℕ) (due : List Bool) : Type 0 where
  pub marks_zero : (n : ℕ) → n < nodes → get_or marks n 0 ≡ 0
  pub words_zero : (n : ℕ) → n < nodes → get_or words n 0 ≡ 0
  pub due_zero : (n : ℕ) → n < nodes → get_or due n false ≡ false

-- A node is due that is marked and touches one of the blocks.
unfoldable pub due_by : List ℕ → ℕ → Option ColumnTouches → Bool
due_by chosen mark planned = not (eqb mark 0) && touches_chosen chosen planned

-- The first nodes by their marks and records, the others as they were.
abbrev pub due_all : List ℕ → List ℕ → List ℕ → ℕ → List Bool → List Bool
due_all plan chosen marks zero due = due
due_all plan chosen marks (suc n) due = set (due_all plan chosen marks n due) n (due_by chosen (get_or marks n 0) (node_in plan n).what)

-- The same of slices, as a `requires` names them.
abbrev pub ReachedIn : List ℕ → List ℕ → List ℕ → Type 0
ReachedIn columns plan marks = MarksReached (plan_in columns plan) marks

-- Of the work that a struct holds.
abbrev pub ZerosFor : ℕ → HeldWork → Type 0
ZerosFor nodes work = Zeros nodes work.marks work.words work.due
