-- What the totals' functions promise one another: what a touch of a class adds to the two sums, and how large these can get. Nothing here is a rule
-- of the tool: `costs` has the sums of rules 10.2 to 10.4, and laws lead there.
use Rattle.std.specs.Prelude.{ℕ, ◌+◌, ◌*◌, ◌≤◌, List, get_or}
use Rattle.lists.specs.Lists.{sum_of}
use Rattle.cache.specs.Ages.{Ages}
use Rattle.flow.specs.Flow.{Cell}
use Rattle.chart.specs.Geometry.{most_touches}
use Rattle.ages.specs.Plan.{Plan}
use Rattle.costs.specs.Costs.{Costs, Figures, high_rate, low_rate, class_cost, low_total, high_total}
use Rattle.totals.specs.declared.sums.Tariff.{Tariff}
use Rattle.totals.specs.declared.Totals.{Totals}

-- The costs that a tariff says.
abbrev pub costs_of : Tariff → Costs
costs_of tariff = record { hit = tariff.hit; miss = tariff.miss }

-- A tariff, floors and ceilings, put together.
abbrev pub figures_of : Tariff → List ℕ → List ℕ → Figures
figures_of tariff floors ceilings =
    record { costs = costs_of tariff; floors = floors; ceilings = ceilings }

-- The most that one touch adds to a sum.
abbrev pub most_added : ℕ
most_added = 65535 * 65535

-- Totals that so many touches can have come to.
pub record Small (touches : ℕ) (sums : Totals) : Type 0 where
  pub low_most : sums.low ≤ touches * most_added
  pub high_most : sums.high ≤ touches * most_added

-- The sums with one touch of a class added.
abbrev pub touch_added : Costs → ℕ → ℕ → ℕ → Totals → Totals
touch_added costs class floor ceiling sums =
    record {
      low = sums.low + floor * class_cost (low_rate costs) class;
      high = sums.high + ceiling * class_cost (high_rate costs) class;
    }

-- What the two classes of node n count at a rate, where a list has the classes of all nodes.
abbrev pub classes_cost : (ℕ → ℕ) → List ℕ → ℕ → ℕ
classes_cost rate classes n = class_cost rate (get_or classes (most_touches * n) 0) + class_cost rate (get_or classes (most_touches * n + 1) 0)

-- The sums over the first n nodes, by such a list.
abbrev pub sums_to : List ℕ → Figures → ℕ → Totals
sums_to classes figures n =
    record {
      low = sum_of n (λ k. get_or figures.floors k 0 * classes_cost (low_rate figures.costs) classes k);
      high = sum_of n (λ k. get_or figures.ceilings k 0 * classes_cost (high_rate figures.costs) classes k);
    }

-- The two totals of a table.
abbrev pub both_sums : Plan → List (Cell Ages) → Figures → Totals
both_sums plan table figures = record { low = low_total plan table figures; high = high_total plan table figures }
