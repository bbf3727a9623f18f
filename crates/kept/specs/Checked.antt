-- Whether a table of one block passes, as a test that runs: rules 16.1 and 16.6 a second time. Demand 2 has it that the test and the statement
-- (`Passing` of `kept_flow`) agree.
-- A choice: a table that has not a cell for each node does not pass.
use Rattle.std.specs.Prelude.{ℕ, Bool, true, false, not, ◌&&◌, ◌||◌, List, [], ◌∷◌, eqb, length}
use Rattle.lists.specs.Choice.{every}
use Rattle.flow.specs.Flow.{Cell, blank, holds, cell_at}
use Rattle.ages.specs.Plan.{Plan, arrows_in}
use Rattle.kept.specs.Since.{Since, is_in, untouched}
use Rattle.kept.specs.Kept.{kept_flow}

-- Rules 16.1 and 16.6: a flag for each column, and not the block itself.
abbrev pub fits_by : ℕ → ℕ → Since → Bool
fits_by count block a = eqb (length a.others) count && not (is_in a.others block)

-- Rule 16.6: b has at least as much as a.
abbrev pub less_by : ℕ → Since → Since → Bool
less_by count a b =
    (not a.touched || b.touched) && every count (λ column. not (is_in a.others column) || is_in b.others column)

-- The same of cells: where there is nothing there is the least.
abbrev pub cell_fits : ℕ → ℕ → Cell Since → Bool
cell_fits count block blank = true
cell_fits count block (holds a) = fits_by count block a

abbrev pub cell_less : ℕ → Cell Since → Cell Since → Bool
cell_less count blank d = true
cell_less count (holds a) blank = false
cell_less count (holds a) (holds b) = less_by count a b

-- Rule 16.6: the target of each arrow has at least what leaves the node.
abbrev pub all_less : ℕ → Cell Since → List (Cell Since) → List ℕ → Bool
all_less count out table [] = true
all_less count out table (t ∷ ts) = cell_less count out (cell_at table t) && all_less count out table ts

-- What leaves a node: nothing where there is nothing.
abbrev pub sent_by : Plan → ℕ → ℕ → Cell Since → Cell Since
sent_by plan block n blank = blank
sent_by plan block n (holds a) = holds ((kept_flow plan block).step n a)

-- Rule 16.6, at node n.
abbrev pub node_keeps : Plan → ℕ → List (Cell Since) → ℕ → Bool
node_keeps plan block table n =
    cell_fits plan.blocks block (cell_at table n)
    && all_less plan.blocks (sent_by plan block n (cell_at table n)) table (arrows_in plan n)

-- Rule 16.6, of a whole table of one block.
abbrev pub block_passing : Plan → ℕ → List (Cell Since) → Bool
block_passing plan block table =
    eqb (length table) plan.nodes
    && (cell_less plan.blocks (holds (untouched plan.blocks)) (cell_at table plan.entry) && every plan.nodes (node_keeps plan block table))
