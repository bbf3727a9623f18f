-- What two lists hold after a chart was drawn into them. Nothing here is a rule of the tool: inner functions promise it to those that go by a plan.
-- Of bytes that are no chart nothing is said.
use Rattle.std.specs.Prelude.{ℕ, List, ◌≡◌}
use Rattle.chart.specs.Chart.{Chart, accepted, read_chart}
use Rattle.ages.specs.Charted.{plan_of}
use Rattle.plan.specs.Listed.{plan_in, Drawn}

-- Where bytes are a chart's, two lists hold its plan.
pub record Draws (bytes columns plan : List ℕ) : Type 0 where
  pub plan_is : (chart : Chart) → read_chart bytes ≡ accepted chart → plan_in columns plan ≡ plan_of chart
  pub drawn : (chart : Chart) → read_chart bytes ≡ accepted chart → Drawn columns plan
