-- What is so at every node, place, length and number, however large. Soundings are of small charts: a rule that changes from some number on, in
-- definition and code alike, would pass them all. The limits stand here as numbers, and not by name. Rules 1.4, 3.3, 6.3 to 6.5, 8.1, 8.2, 10.2,
-- 10.3, 11.0, 12.2, 13.1 to 13.3, 14.1, 14.2, 14.4, 15.2, 15.5, 16.3, 16.4, 18.1 and 18.2. `anywhere` in proofs/Anywhere.antt proves it.
use Rattle.std.specs.Prelude.{ℕ, suc, ◌+◌, ◌*◌, ◌/◌, ◌%◌, ◌≤◌, ◌<◌, List, [], ◌∷◌, ◌++◌, ◌≡◌, length, get_or, take, Result}
use Rattle.lists.specs.Slices.{Slice}
use Rattle.lists.specs.Lists.{list_of, joined, written}
use Rattle.refusals.specs.declared.Refusal.TheVariants.{BrokenRecord, TooManyBlocks, FloorAboveCeiling, FloorAtUnmarked, CertificateFails}
use Rattle.refusals.specs.Refusals.{place_of}
use Rattle.chart.specs.Geometry.{most_nodes}
use Rattle.chart.specs.Chart.{Chart, block_count}
use Rattle.flow.specs.Flow.{Cell, blank, holds, cell_at}
use Rattle.facts.specs.declared.Side.{Side}
use Rattle.facts.specs.Slices.{Wholes}
use Rattle.facts.specs.Facts.{Facts}
use Rattle.facts.specs.Certificate.{Certificate}
use Rattle.facts.specs.Listed.{entry_facts, entry_certificate}
use Rattle.cache.specs.Ages.{Ages, touch_ages}
use Rattle.ages.specs.Plan.{ColumnTouch, Plan, columns_of, touches_in, plan_flow}
use Rattle.layout.specs.Rows.{row_at}
use Rattle.kept.specs.Since.{Since, touch_since}
use Rattle.kept.specs.Kept.{since_at, kept_flow}
use Rattle.classes.specs.Class.{Whole, class_of, node_class, table_classes}
use Rattle.costs.specs.Costs.{visit_cost, classes_at}
use Rattle.tables.specs.Contract.{entry_table}
use Rattle.analysis.specs.Analysis.{Left, entry_buffers, exit_left, analysed, settled_after}
use Rattle.totals.specs.Totals.{entry_figures}
use Rattle.certificate.specs.Bound.{asked}
use Rattle.report.specs.Text.{nodes_word, blocks_word, passes_word, decimal_by, decimal}
use Rattle.report.specs.Report.{taken, class_word, node_line, zero_buffers, report_of, report_left, report}
use Rattle.report.specs.Ending.{refused_by, refuses}
use Rattle.analysis.specs.declared.Unanalysed.{Unanalysed}
use Rattle.analysis.specs.declared.SettledAfter.{SettledAfter}

-- Rules 1.4 and 13.2: what the analysis leaves of an input in the program's buffers, under the program's allowance.
abbrev pub program_left : List ℕ → Left
program_left input = analysed (taken input) 1049601 (zero_buffers 1024 64)

-- Rule 8.2: what classes go by on arrival at a node, and after its first touch.
abbrev pub arrived : Plan → ℕ → Ages → Whole
arrived plan n a = record { ages = a; since = λ column. since_at plan n column }

abbrev pub touched_once : Plan → ℕ → ColumnTouch → Ages → Whole
touched_once plan n touch a =
    record {
      ages = touch_ages (columns_of plan) touch.column a;
      since = λ column. touch_since (columns_of plan) column touch.column (since_at plan n column);
    }

pub record Anywhere : Type 0 where
  -- rules 1.4 and 13.1
  pub most-nodes : most_nodes ≡ 1024
  pub input_taken : (input : List ℕ) → taken input ≡ take 8201 input
  -- rules 13.2 and 13.3: text and exit status go by one and the same analysis
  pub report_made : (input : List ℕ) → report input ≡ report_left (taken input) (program_left input)
  pub refused_alike : (input : List ℕ) → refuses input ≡ refused_by (program_left input).answer
  -- rules 14.1 and 14.2: the first line, and then a line for each node
  pub report_lines : (nodes passes blocks : ℕ) (classes : List ℕ)
      → report_of nodes classes (settled_after passes blocks)
      ≡ nodes_word ++ (32 ∷ []) ++ decimal nodes ++ (32 ∷ []) ++ blocks_word ++ (32 ∷ []) ++ decimal blocks ++ (32 ∷ [])
      ++ passes_word ++ (32 ∷ []) ++ decimal passes ++ (10 ∷ [])
      ++ joined (list_of nodes (node_line classes))
  pub node-line : (classes : List ℕ) (n : ℕ) → node_line classes n ≡ decimal n ++ (32 ∷ class_word (get_or classes (2 * n) 0)) ++ (32 ∷ class_word (get_or classes (2 * n + 1) 0)) ++ (10 ∷ [])
  -- rule 14.4: of at most 20 digits, the last one behind those of a tenth
  pub most-digits : (n : ℕ) → decimal n ≡ decimal_by 20 n
  pub one_digit : (digits n : ℕ) → n < 10 → decimal_by (suc digits) n ≡ (48 + n) ∷ []
  pub last_digit : (digits n : ℕ) → 10 ≤ n → decimal_by (suc digits) n ≡ decimal_by digits (n / 10) ++ ((48 + n % 10) ∷ [])
  -- rule 11.0: the node at fault
  pub places : (n : ℕ)
      → place_of (BrokenRecord n) ∷ place_of (TooManyBlocks n) ∷ place_of (FloorAboveCeiling n) ∷ place_of (FloorAtUnmarked n) ∷ place_of (CertificateFails n) ∷ []
      ≡ n ∷ n ∷ n ∷ n ∷ n ∷ []
  -- rules 8.1, 8.2 and 12.2: a node's two classes and their places, whichever node it is; the second is read after the first touch
  pub classes_long : (plan : Plan) (table : List (Cell Ages)) → length (table_classes plan table) ≡ 2 * plan.nodes
  pub first_listed : (plan : Plan) (table : List (Cell Ages)) (n : ℕ) → n < plan.nodes → get_or (table_classes plan table) (2 * n) 0 ≡ node_class plan n 0 (cell_at table n)
  pub second_listed : (plan : Plan) (table : List (Cell Ages)) (n : ℕ) → n < plan.nodes → get_or (table_classes plan table) (2 * n + 1) 0 ≡ node_class plan n 1 (cell_at table n)
  pub class_unmarked : (plan : Plan) (n k : ℕ) → node_class plan n k blank ≡ 0
  pub class_of_none : (plan : Plan) (n k : ℕ) (a : Ages) → touches_in plan n ≡ [] → node_class plan n k (holds a) ≡ 4
  pub class_of_touch : (plan : Plan) (n : ℕ) (a : Ages) (touch : ColumnTouch)
      → touches_in plan n ≡ touch ∷ []
      → (node_class plan n 0 (holds a) ≡ class_of plan touch (arrived plan n a)) × (node_class plan n 1 (holds a) ≡ 4)
  pub class_of_two : (plan : Plan) (n : ℕ) (a : Ages) (touch other : ColumnTouch)
      → touches_in plan n ≡ touch ∷ other ∷ []
      → (node_class plan n 0 (holds a) ≡ class_of plan touch (arrived plan n a)) × (node_class plan n 1 (holds a) ≡ class_of plan other (touched_once plan n touch a))
  -- rules 10.2 and 10.3: what a visit of a node counts, whichever node it is
  pub cost_unmarked : (plan : Plan) (n : ℕ) (rate : ℕ → ℕ) → visit_cost (classes_at plan n) rate blank ≡ 0
  pub cost_of_none : (plan : Plan) (n : ℕ) (a : Ages) (rate : ℕ → ℕ) → touches_in plan n ≡ [] → visit_cost (classes_at plan n) rate (holds a) ≡ 0
  pub cost_of_touch : (plan : Plan) (n : ℕ) (a : Ages) (rate : ℕ → ℕ) (touch : ColumnTouch)
      → touches_in plan n ≡ touch ∷ []
      → visit_cost (classes_at plan n) rate (holds a) ≡ rate (class_of plan touch (arrived plan n a))
  pub cost_of_two : (plan : Plan) (n : ℕ) (a : Ages) (rate : ℕ → ℕ) (touch other : ColumnTouch)
      → touches_in plan n ≡ touch ∷ other ∷ []
      → visit_cost (classes_at plan n) rate (holds a) ≡ rate (class_of plan touch (arrived plan n a)) + rate (class_of plan other (touched_once plan n touch a))
  -- rules 3.3 and 6.3 to 6.5: what a node does to the ages, whichever node it is
  pub bare_step : (plan : Plan) (n : ℕ) (a : Ages) → touches_in plan n ≡ [] → (plan_flow plan).step n a ≡ a
  pub one_touch : (plan : Plan) (n : ℕ) (a : Ages) (touch : ColumnTouch)
      → touches_in plan n ≡ touch ∷ []
      → (plan_flow plan).step n a ≡ touch_ages (columns_of plan) touch.column a
  pub two_touches : (plan : Plan) (n : ℕ) (a : Ages) (touch other : ColumnTouch)
      → touches_in plan n ≡ touch ∷ other ∷ []
      → (plan_flow plan).step n a ≡ touch_ages (columns_of plan) other.column (touch_ages (columns_of plan) touch.column a)
  -- rules 16.3 and 16.4: what a node does to what is held of a block, whichever they are
  pub kept_bare : (plan : Plan) (column n : ℕ) (since : Since) → touches_in plan n ≡ [] → (kept_flow plan column).step n since ≡ since
  pub kept_one : (plan : Plan) (column n : ℕ) (since : Since) (touch : ColumnTouch)
      → touches_in plan n ≡ touch ∷ []
      → (kept_flow plan column).step n since ≡ touch_since (columns_of plan) column touch.column since
  pub kept_two : (plan : Plan) (column n : ℕ) (since : Since) (touch other : ColumnTouch)
      → touches_in plan n ≡ touch ∷ other ∷ []
      → (kept_flow plan column).step n since ≡ touch_since (columns_of plan) column other.column (touch_since (columns_of plan) column touch.column since)
  -- rules 12.2, 15.2 and 15.5: what is written over the start of a buffer, place by place, and what stays
  pub written_start : (new lent : List ℕ) (k : ℕ) → k < length new → get_or (written new lent) k 0 ≡ get_or new k 0
  pub written_tail : (new lent : List ℕ) (k : ℕ) → length new ≤ k → get_or (written new lent) k 0 ≡ get_or lent k 0
  pub written_long : (new lent : List ℕ) → length new ≤ length lent → length (written new lent) ≡ length lent
  -- rule 3.4: B
  pub block-count : (chart : Chart) → block_count chart ≡ length chart.blocks
  -- what is lent, as contracts name it, is each slice by its name
  pub buffers_lent : (blocks must may marks classes : List ℕ)
      → entry_buffers blocks must may marks classes
      ≡ record {
        blocks = blocks;
        must = must;
        may = may;
        marks = marks;
        classes = classes;
      }
  pub buffers_left : (blocks must may marks classes : List ℕ) (answer : Result SettledAfter Unanalysed)
      → exit_left blocks must may marks classes answer
      ≡ record {
        answer = answer;
        buffers = record {
          blocks = blocks;
          must = must;
          may = may;
          marks = marks;
          classes = classes;
        };
      }
  pub table_lent : (must may marks : List ℕ)
      → entry_table must may marks ≡ record { must = must; may = may; marks = marks }
  pub figures_lent : (hit miss : ℕ) (floors ceilings : Slice)
      → entry_figures hit miss floors ceilings
      ≡ record { costs = record { hit = hit; miss = miss }; floors = floors.entry.now; ceilings = ceilings.entry.now }
  pub facts_lent : (coefficients limits : Wholes)
      → entry_facts coefficients limits ≡ record { coefficients = coefficients.entry.now; limits = limits.entry.now }
  pub certificate_lent : (multipliers potentials : Wholes) (denominator : ℕ)
      → entry_certificate multipliers potentials denominator
      ≡ record { multipliers = multipliers.entry.now; potentials = potentials.entry.now; denominator = denominator }
  pub question_asked : (side : Side) (hit miss : ℕ) (facts : Facts) (certificate : Certificate)
      → asked side hit miss facts certificate
      ≡ record { costs = record { hit = hit; miss = miss }; side = side; facts = facts; certificate = certificate }
  -- rule 12.2: where a node's ages stand
  pub age_place : (count n column : ℕ) (buffer : List ℕ) → column < count → get_or (row_at count buffer n) column 0 ≡ get_or buffer (n * count + column) 0
