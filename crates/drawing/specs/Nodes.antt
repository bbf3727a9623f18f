-- The numbers of a plan's head and nodes as they are stored, which `node_in` of the crate `plan` reads back, and what inner functions promise of
-- them. Rule 2.2, in the number of a kind, and rule 3.3, in the lower and the upper block; the rest is no rule's. A block is known by its place in the
-- list of blocks.
use Rattle.std.specs.Prelude.{ℕ, ◌+◌, ◌*◌, ◌<◌, ◌^◌, cond, List, [], ◌∷◌, ◌≡◌, get_or, None, Option, Some}
use Rattle.blocks.specs.Blocks.{place_in}
use Rattle.chart.specs.declared.shape.Geometry.{Geometry}
use Rattle.chart.specs.declared.headers.Header.{Header}
use Rattle.chart.specs.declared.records.Node.{Node}
use Rattle.chart.specs.Geometry.{most_blocks, block_of}
use Rattle.chart.specs.Header.{start_code}
use Rattle.chart.specs.Chart.{node_at}
use Rattle.plan.specs.Listed.{RecordIn, node_in}
use Rattle.plan.specs.declared.ColumnTouches.{ColumnTouches}
use Rattle.chart.specs.declared.records.Reference.{Reference}

-- ---- the numbers

-- N, B, the entry and the start's code.
abbrev pub head_numbers : Header → ℕ → List ℕ
head_numbers header blocks = header.nodes ∷ blocks ∷ header.entry ∷ start_code header.start ∷ []

-- Rule 2.2: the number of a kind.
abbrev pub kind_number : Option ColumnTouches → ℕ
kind_number None = 0
kind_number (Some reference) = cond reference.write 2 1

-- Both columns in one number, and 0 for a bare step, which has none.
abbrev pub columns_number : Option ColumnTouches → ℕ
columns_number None = 0
columns_number (Some reference) = reference.lower + most_blocks * reference.upper

-- Kind, number of arrows and columns in one number.
abbrev pub deed_number : ℕ → ℕ → ℕ → ℕ
deed_number kind outs columns = kind + 4 * outs + 16 * columns

-- The three numbers of a node.
abbrev pub node_numbers : Node ColumnTouches → List ℕ
node_numbers node =
    deed_number (kind_number node.what) node.targets.outs (columns_number node.what)
    ∷ node.targets.first
    ∷ node.targets.second
    ∷ []

-- The numbers of a node fit the list's type.
abbrev pub ColumnsNarrow : Option ColumnTouches → Type 0
ColumnsNarrow planned = RecordIn most_blocks planned

pub record Narrow (node : Node ColumnTouches) : Type 0 where
  pub columns : ColumnsNarrow node.what
  pub outs : node.targets.outs < 4
  pub first : node.targets.first < 2 ^ 16
  pub second : node.targets.second < 2 ^ 16

-- ---- what a chart's node does

-- A record's lower and upper block are known by their places in the list of blocks.
abbrev pub planned_by : Geometry → List ℕ → Option Reference → Option ColumnTouches
planned_by geometry blocks None = None
planned_by geometry blocks (Some reference) =
    Some (
    record {
      lower = place_in blocks (block_of geometry reference.address);
      upper = place_in blocks (block_of geometry reference.last);
      write = reference.write;
    }
    )

-- A node of a chart as it is planned.
abbrev pub node_by : Geometry → List ℕ → Node Reference → Node ColumnTouches
node_by geometry blocks node = record { what = planned_by geometry blocks node.what; targets = node.targets }

-- The columns of the first nodes of bytes fit: each block that they touch stands in the list.
abbrev pub AllNarrow : Geometry → List ℕ → List ℕ → ℕ → Type 0
AllNarrow geometry blocks bytes nodes = (n : ℕ) → n < nodes → ColumnsNarrow (planned_by geometry blocks (node_at bytes n).what)

-- The first `count` nodes stand in a list, and its head is as it was.
pub record NodesDrawn (count : ℕ) (node : ℕ → Node ColumnTouches) (before after : List ℕ) : Type 0 where
  pub head_stays : (k : ℕ) → k < 4 → get_or after k 0 ≡ get_or before k 0
  pub nodes : (n : ℕ) → n < count → node_in after n ≡ node n
