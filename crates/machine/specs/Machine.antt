-- The plain machine of a chart: what it holds, what a walk may begin with, what it finds and what it pays. Rules 2.8, 3.2, 4.1, 4.6, 4.7, 5.3
-- and 6.1.
-- A choice: its key of a block is the block's set, and not the plan's key, so that analysis and machine do not share that definition.
use Rattle.std.specs.Prelude.{◌≡◌, List, [], ℕ}
use Rattle.chart.specs.declared.headers.Start.{Start}
use Rattle.chart.specs.declared.headers.Start.TheVariants.{Unknown, Empty}
use Rattle.chart.specs.Geometry.{set_of}
use Rattle.chart.specs.Chart.{Chart, touches}
use Rattle.chart.specs.Record.{Touch}
use Rattle.cache.specs.Ages.{Ages}
use Rattle.cache.specs.Plain.{Cache, hits, touch, Formed}
use Rattle.cache.specs.Bounds.{Bounds}
use Rattle.flow.specs.Walk.{Machine, paid}
use Rattle.ages.specs.Plan.{columns_of}
use Rattle.ages.specs.Charted.{block_at, plan_of}

-- Rule 4.1: every set has A ways.
abbrev pub ways_of : Chart → ℕ → ℕ
ways_of chart set = chart.header.geometry.ways

-- Rule 3.2: a block's set key is its set.
abbrev pub key_of : Chart → ℕ → ℕ
key_of chart = set_of chart.header.geometry

-- Rules 4.6 and 4.7: what a walk may begin with. No block of an unknown start has to be the chart's.
abbrev pub BeginsWith : Chart → Start → Cache → Type 0
BeginsWith chart Unknown cache = Formed (ways_of chart) (key_of chart) cache
BeginsWith chart Empty cache = (set : ℕ) → cache set ≡ []

-- Rule 5.3: a plain cache, carried along touches. By rule 2.8 the flag `write` counts neither for what a touch does nor for what it finds.
abbrev pub plain_machine : Chart → Machine Touch
plain_machine chart =
    record {
      Contents = Cache;
      Begins = BeginsWith chart chart.header.start;
      act = λ t. touch (ways_of chart) (key_of chart) t.block;
      finds = λ t. hits (key_of chart) t.block;
    }

abbrev pub Contents : Chart → Type 0
Contents chart = (plain_machine chart).Contents

-- Rule 6.1: what ages say of the machine's contents.
abbrev pub AgesTrue : (chart : Chart) → Ages → Contents chart → Type 0
AgesTrue chart a contents = Bounds (columns_of (plan_of chart)) (ways_of chart) (key_of chart) (block_at chart) a contents

-- Rule 5.3: what it pays in all on the walk of the entry and then ts.
abbrev pub cost_of : (chart : Chart) → ℕ → ℕ → List ℕ → Contents chart → ℕ
cost_of chart hit_cost miss_cost ts contents =
    paid (plain_machine chart) hit_cost miss_cost (touches chart) chart.header.entry ts contents
