-- Ages, cells and tables with an age for each block of a plan, and the two kinds of row that they are laid out in.
-- Nothing here is a rule of the tool: laws and contracts of inner functions speak of it.
use Rattle.std.specs.Prelude.{List, ◌≡◌, length}
use Rattle.cache.specs.Ages.{Ages}
use Rattle.flow.specs.Flow.{Cell}
use Rattle.layout.specs.Kinds.{CellFits, Fitted, Kind}
use Rattle.ages.specs.Plan.{Plan}

-- Rows with an age for each block.
abbrev pub AgesFit : Plan → Ages → Type 0
AgesFit plan a = (length a.must ≡ plan.blocks) × (length a.may ≡ plan.blocks)

abbrev pub CellAgesFit : Plan → Cell Ages → Type 0
CellAgesFit plan c = CellFits (AgesFit plan) c

abbrev pub TableFits : Plan → List (Cell Ages) → Type 0
TableFits plan table = Fitted (AgesFit plan) plan.nodes table

-- The two kinds of row.
abbrev pub must_kind : (plan : Plan) → Kind (AgesFit plan)
must_kind plan = record { count = plan.blocks; numbers = λ a. a.must; length_numbers = λ a h. h.0 }

abbrev pub may_kind : (plan : Plan) → Kind (AgesFit plan)
may_kind plan = record { count = plan.blocks; numbers = λ a. a.may; length_numbers = λ a h. h.1 }
