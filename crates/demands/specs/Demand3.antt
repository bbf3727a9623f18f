-- Demand 3, as those who ordered the tool put it: "For any table that passes, any walk along arrows from the entry and any starting
-- contents the chart allows, the plain cache run along it hits where a hit was called and misses where a miss was called; and if visits
-- lie between floors and ceilings and a miss costs at least a hit, the cost that machine counts lies between the two totals."
-- And of touches that are called kept: of one block, all but at most one on the whole walk hit.
-- The plain cache is that of rules 4.1 to 4.7, walk, visits and machine those of rules 5.1 to 5.3, what ages say is rule 6.1, what is called goes by
-- rules 8.1 and 8.2 and, of sets, by rules 16.1 to 16.8, the totals by rules 10.1 to 10.4. Proved as `demand3` in proofs/Demand3.antt.
use Rattle.std.specs.Prelude.{ℕ, ◌+◌, ◌*◌, ◌≤◌, ◌<◌, ◌≡◌, Bool, not, ◌&&◌, List, [], ◌∷◌, eqb, get_or, drop, Result}
use Rattle.chart.specs.Record.{Touch}
use Rattle.chart.specs.Chart.{Chart, accepted, read_chart, arrows, touches}
use Rattle.flow.specs.Flow.{cell_at}
use Rattle.flow.specs.Passing.{Marked}
use Rattle.flow.specs.Walk.{Walk, visits_of, AtTouches, AtNodes, count_along}
use Rattle.ages.specs.Charted.{column_touch, plan_of}
use Rattle.classes.specs.Class.{unreached, none, kept, Whole, whole_at, class_of, node_class, CalledRight, AllTold}
use Rattle.machine.specs.Machine.{plain_machine, Contents, AgesTrue, cost_of}
use Rattle.machine.specs.Keeping.{touch_whole, kept_miss}
use Rattle.costs.specs.Costs.{Figures, classes_at}
use Rattle.tables.specs.Lent.{Lent, ages_at, table_of}
use Rattle.analysis.specs.Analysis.{Buffers, analysed, settled_after}
use Rattle.totals.specs.Totals.{totals, totals_say}
use Rattle.demands.specs.Demand1.{FiguresFit}
use Rattle.demands.specs.Demand2.{CheckerYes}
use Rattle.totals.specs.declared.Totals.{Totals}
use Rattle.refusals.specs.declared.Refusal.{Refusal}

-- ---- what is given

-- A chart that the bytes read as, starting contents that the chart allows (rules 4.6 and 4.7), and a walk (rule 5.1).
pub record OnWalk (bytes : List ℕ) (chart : Chart) (contents : Contents chart) (ts : List ℕ) : Type 0 where
  pub read : read_chart bytes ≡ accepted chart
  pub begins : (plain_machine chart).Begins contents
  pub walk : Walk (arrows chart) chart.header.entry ts

-- "visits lie between floors and ceilings": rules 5.2 and 10.1
pub record VisitsWithin (chart : Chart) (figures : Figures) (ts : List ℕ) : Type 0 where
  pub no_less : (n : ℕ) → n < chart.header.nodes → get_or figures.floors n 0 ≤ visits_of n (chart.header.entry ∷ ts)
  pub no-more : (n : ℕ) → n < chart.header.nodes → visits_of n (chart.header.entry ∷ ts) ≤ get_or figures.ceilings n 0

-- The visits are known: each floor and each ceiling is how often the walk visits the node.
pub record VisitsKnown (chart : Chart) (figures : Figures) (ts : List ℕ) : Type 0 where
  pub floors : (n : ℕ) → n < chart.header.nodes → get_or figures.floors n 0 ≡ visits_of n (chart.header.entry ∷ ts)
  pub ceilings : (n : ℕ) → n < chart.header.nodes → get_or figures.ceilings n 0 ≡ visits_of n (chart.header.entry ∷ ts)

-- By a table, each touch of a node is a hit or a miss: nothing is unsure, and nothing is kept.
abbrev pub Sure : (chart : Chart) → Lent → ℕ → Contents chart → Type 0
Sure chart table n contents = AllTold (classes_at (plan_of chart) n (ages_at (plan_of chart) table n))

-- ---- what is promised

-- Rule 8.2: what the classes of node n go by, on arrival: the table's ages, and the sets.
abbrev pub whole_in : Chart → Lent → ℕ → Whole
whole_in chart table n = whole_at (plan_of chart) n (ages_at (plan_of chart) table n)

-- A touch called a hit, by what stands just before it (rule 8.2), is found by the machine, and one called a miss is not.
abbrev pub TouchRight : (chart : Chart) → Touch → Whole → Contents chart → Type 0
TouchRight chart touch whole contents =
    CalledRight (class_of (plan_of chart) (column_touch chart touch) whole) ((plain_machine chart).finds touch contents)

-- What a table says of a node, where the machine arrives with these contents.
pub record SaysTrue (chart : Chart) (table : Lent) (n : ℕ) (contents : Contents chart) : Type 0 where
  pub marked : Marked (cell_at (table_of (plan_of chart) table) n)
  -- rules 4.1 and 6.1: the contents still are of the machine's form, and each block is within its two ages (`Bounds` of the crate `cache`)
  pub ages_true : AgesTrue chart (ages_at (plan_of chart) table n) contents
  -- its first touch, and its second when the machine has made the first: called a hit it hits, called a miss it misses
  pub first_right : (touch : Touch) (rest : List Touch)
      → touches chart n ≡ touch ∷ rest
      → CalledRight (node_class (plan_of chart) n 0 (cell_at (table_of (plan_of chart) table) n)) ((plain_machine chart).finds touch contents)
  pub second_right : (touch other : Touch) (rest : List Touch)
      → touches chart n ≡ touch ∷ other ∷ rest
      → CalledRight (node_class (plan_of chart) n 1 (cell_at (table_of (plan_of chart) table) n)) ((plain_machine chart).finds other ((plain_machine chart).act touch contents))
  -- and each touch of a node, in turn, however many there are
  pub called_right : AtTouches (touch_whole chart) (plain_machine chart).act (TouchRight chart) (touches chart n) (whole_in chart table n) contents

-- The classes that a buffer has for a node (rule 12.2) are right where the machine arrives with these contents.
pub record ClassTrue (chart : Chart) (classes : List ℕ) (n : ℕ) (contents : Contents chart) : Type 0 where
  pub first_reached : get_or classes (2 * n) 0 ≡ unreached → ⊥
  pub second_reached : get_or classes (2 * n + 1) 0 ≡ unreached → ⊥
  pub first_right : (touch : Touch) (rest : List Touch)
      → touches chart n ≡ touch ∷ rest
      → CalledRight (get_or classes (2 * n) 0) ((plain_machine chart).finds touch contents)
  pub second_right : (touch other : Touch) (rest : List Touch)
      → touches chart n ≡ touch ∷ other ∷ rest
      → CalledRight (get_or classes (2 * n + 1) 0) ((plain_machine chart).finds other ((plain_machine chart).act touch contents))

-- Of the touches of a block that a table calls kept, how many the machine misses on the whole walk.
abbrev pub kept_misses : (chart : Chart) → Lent → ℕ → List ℕ → Contents chart → ℕ
kept_misses chart table block ts contents =
    count_along (plain_machine chart) (touch_whole chart) (kept_miss chart block) (touches chart) (whole_in chart table) chart.header.entry ts contents

-- The two classes that a buffer has for a node (rule 12.2), and whether a touch of a block with the first of some classes is called kept and misses.
abbrev pub classes_read : List ℕ → ℕ → List ℕ
classes_read classes n = get_or classes (2 * n) 0 ∷ get_or classes (2 * n + 1) 0 ∷ []

abbrev pub read_miss : (chart : Chart) → ℕ → Touch → List ℕ → Contents chart → Bool
read_miss chart block touch classes contents =
    eqb touch.block block && (eqb (get_or classes 0 none) kept && not ((plain_machine chart).finds touch contents))

-- The same count by the classes in a buffer, of which each touch takes one.
abbrev pub read_misses : (chart : Chart) → List ℕ → ℕ → List ℕ → Contents chart → ℕ
read_misses chart classes block ts contents =
    count_along (plain_machine chart) (λ touch left. drop 1 left) (read_miss chart block) (touches chart) (classes_read classes) chart.header.entry ts contents

-- It holds at each node of the walk, with the contents that the machine arrives with there.
abbrev pub AtEachNode : (chart : Chart) → (ℕ → Contents chart → Type 0) → List ℕ → Contents chart → Type 0
AtEachNode chart P ts contents = AtNodes (plain_machine chart) P (touches chart) chart.header.entry ts contents

-- An answer is no refusal, and the cost that the machine counts lies between the two totals that it returns.
pub record CostBetween (chart : Chart) (figures : Figures) (ts : List ℕ) (contents : Contents chart) (answer : Result Totals Refusal) : Type 0 where
  pub given : (totals_say answer).number ≡ 0
  pub no_less : (totals_say answer).low ≤ cost_of chart figures.costs.hit figures.costs.miss ts contents
  pub no-more : cost_of chart figures.costs.hit figures.costs.miss ts contents ≤ (totals_say answer).high

-- An answer is no refusal, and both its totals are the cost that the machine counts.
pub record CostExactly (chart : Chart) (figures : Figures) (ts : List ℕ) (contents : Contents chart) (answer : Result Totals Refusal) : Type 0 where
  pub given : (totals_say answer).number ≡ 0
  pub low : (totals_say answer).low ≡ cost_of chart figures.costs.hit figures.costs.miss ts contents
  pub high : (totals_say answer).high ≡ cost_of chart figures.costs.hit figures.costs.miss ts contents

-- ---- the demand
-- The answers of the functions come in by their contracts: `checker::check` answers `checked`, `totals::total` answers `totals`, and
-- `analysis::analyse` answers and leaves `analysed`.

pub record Demand3 : Type 0 where
  -- whatever table the checker passes, at each node of the walk, touch by touch
  pub says_true : (bytes : List ℕ) (chart : Chart) (table : Lent) (contents : Contents chart) (ts : List ℕ)
      → OnWalk bytes chart contents ts
      → CheckerYes bytes table
      → AtEachNode chart (SaysTrue chart table) ts contents
  -- so, too, the classes that the analysis has written
  pub written_true : (bytes : List ℕ) (chart : Chart) (allowance passes blocks : ℕ) (lent : Buffers) (contents : Contents chart) (ts : List ℕ)
      → OnWalk bytes chart contents ts
      → (analysed bytes allowance lent).answer ≡ settled_after passes blocks
      → AtEachNode chart (ClassTrue chart (analysed bytes allowance lent).buffers.classes) ts contents
  -- whatever table the checker passes: of the touches of one block called kept, all but at most one on the whole walk hit
  pub kept_once : (bytes : List ℕ) (chart : Chart) (table : Lent) (contents : Contents chart) (ts : List ℕ) (block : ℕ)
      → OnWalk bytes chart contents ts
      → CheckerYes bytes table
      → kept_misses chart table block ts contents ≤ 1
  -- so, too, by the classes that the analysis has written
  pub written_once : (bytes : List ℕ) (chart : Chart) (allowance passes blocks : ℕ) (lent : Buffers) (contents : Contents chart) (ts : List ℕ) (block : ℕ)
      → OnWalk bytes chart contents ts
      → (analysed bytes allowance lent).answer ≡ settled_after passes blocks
      → read_misses chart (analysed bytes allowance lent).buffers.classes block ts contents ≤ 1
  -- whatever table the checker passes, the totals are given, and the cost lies between them
  pub cost_between : (bytes : List ℕ) (chart : Chart) (table : Lent) (figures : Figures) (contents : Contents chart) (ts : List ℕ) (answer : Result Totals Refusal)
      → OnWalk bytes chart contents ts
      → CheckerYes bytes table
      → FiguresFit chart figures
      → VisitsWithin chart figures ts
      → answer ≡ totals bytes table figures
      → CostBetween chart figures ts contents answer
  -- and wherever totals are given, the cost lies between them, with nothing else to ask of the table or the figures
  pub given_between : (bytes : List ℕ) (chart : Chart) (table : Lent) (figures : Figures) (contents : Contents chart) (ts : List ℕ) (answer : Result Totals Refusal)
      → OnWalk bytes chart contents ts
      → VisitsWithin chart figures ts
      → answer ≡ totals bytes table figures
      → (totals_say answer).number ≡ 0
      → CostBetween chart figures ts contents answer
  -- (beyond the demand: where everything on the walk is called a hit or a miss and the visits are known, both totals are the cost)
  pub cost_exactly : (bytes : List ℕ) (chart : Chart) (table : Lent) (figures : Figures) (contents : Contents chart) (ts : List ℕ) (answer : Result Totals Refusal)
      → OnWalk bytes chart contents ts
      → CheckerYes bytes table
      → FiguresFit chart figures
      → VisitsKnown chart figures ts
      → AtEachNode chart (Sure chart table) ts contents
      → answer ≡ totals bytes table figures
      → CostExactly chart figures ts contents answer
